use Rattle.std.proofs.Common.{◌≡◌, List, ℕ, length, take, sym, ap, ◌∙◌, subst}
use Rattle.windows_logs.specs.log_parts.Filled.{filled}
use Rattle.log_replay.specs.Replay.{hive_base_of, replayed_as, replay_of}
use Rattle.log_replay.specs.Stops.{ReadsAs}
use Rattle.log_replay.proofs.Ending.{cut_filled}
use Rattle.log_replay.proofs.replaying.replay.Goals as goal

pub of_filled-requires-clause-same : goal.of_filled-requires-clause-same
of_filled-requires-clause-same c =
    let cut : take c.len-count.result c.fill.new.file ≡ c.args.file =
    ap (λ n. take n c.fill.new.file) c.len-count.ensures ∙ ap (take (length c.args.file)) c.in_ok-fill.ensures.filled ∙ cut_filled c.args.file in
    ap filled cut ∙ sym c.in_ok-fill.ensures.filled

pub returns : goal.returns
unfolding replay_of
returns c =
    let cut : take c.len-count.result c.fill.new.file ≡ c.args.file =
    ap (λ n. take n c.fill.new.file) c.len-count.ensures ∙ ap (take (length c.args.file)) c.in_ok-fill.ensures.filled ∙ cut_filled c.args.file in
    let P : List ℕ → Type 0 = λ g. ReadsAs c.of_filled.result (replayed_as (take c.len-count.result c.fill.new.file) c.args.files (hive_base_of g)) in
    let Q : List ℕ → Type 0 = λ o. ReadsAs c.of_filled.result (replayed_as o c.args.files (hive_base_of (filled c.args.file))) in
    subst Q cut (subst P c.in_ok-fill.ensures.filled c.of_filled.ensures)
