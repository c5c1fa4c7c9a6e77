use Rattle.std.proofs.Common.{ℕ, ◌+◌, ◌*◌, ◌^◌, ap, ◌∙◌}
use Rattle.windows_logs.specs.declared.marvin_hash.State.{State}
use Rattle.windows_logs.specs.marvin_hash.Marvin.{mixed, marvin_of}
use Rattle.windows_logs.proofs.Padding.{whole_by}
use Rattle.windows_logs.proofs.marvin_hash.marvin.Goals as goal

pub returns : goal.returns
unfolding marvin_of
returns c =
    let hash : State → ℕ = λ s. s.high * 2 ^ 32 + s.low in
    rw (c.from.ensures, c.from-2.ensures)
    (ap hash (c.mixed-state-2.ensures ∙ ap (λ s. mixed s 0) c.mixed-state.ensures
    ∙ whole_by c.args.bytes.now c.state_of_words-state.result c.last_word.result c.state_of_words-state.ensures c.last_word.ensures))
