use Rattle.std.proofs.Common.{◌≡◌, ◌+◌, ◌*◌, refl, sym, ap, ◌∙◌}
use Rattle.nt_bytes.specs.Fields.{u32_in}
use Rattle.windows_logs.specs.marvin_hash.Marvin.{mixed, state_after}
use Rattle.windows_logs.proofs.Padding.{state_more}
use Rattle.windows_logs.proofs.marvin_hash.state_of_words.Goals as goal

pub loop-n-init : goal.loop-n-init
unfolding state_after
loop-n-init c = refl

pub loop-n-preserved : goal.loop-n-preserved
loop-n-preserved c =
    let one : state_after (c.loop-n.n + 1) c.args.bytes.now ≡ mixed c.loop-n.state c.u32_at.result =
    state_more c.loop-n.n c.args.bytes.now ∙ ap (λ s. mixed s (u32_in c.args.bytes.now (4 * c.loop-n.n))) (sym c.loop-n.invariant)
    ∙ ap (mixed c.loop-n.state) (sym c.u32_at.ensures) in
    c.mixed-state.ensures ∙ sym one
