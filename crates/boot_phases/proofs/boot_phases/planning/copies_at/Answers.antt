use Rattle.std.proofs.Common.{◌≡◌, ◌++◌, ◌∷◌, [], Option, get_or, ap, ◌∙◌}
use Rattle.std.specs.Prelude.{slice_get}
use Rattle.std.specs.Option.{option_copied}
use Rattle.start_model.specs.Entries.{Entry}
use Rattle.start_model.specs.Order.{Rank}
use Rattle.boot_phases.proofs.ListLemmas.{more_some, more_none}
use Rattle.boot_phases.proofs.boot_phases.planning.copies_at.Goals as goal
use Rattle.boot_phases.proofs.boot_phases.planning.copies_at.Goals.{in-Some+in_ok-copy+in_ok-push, in_default}

pub loop-rank-preserved : goal.loop-rank-preserved
loop-rank-preserved c =
    let ranks = c.args.ranks.now in
    let at = c.loop-rank in
    let rank = c.rank-item.result in
    let h : Rank → Option Entry = λ r. slice_get c.args.table.now r.place in
    let lt = c.loop-rank-test.true in
    let is : option_copied c.get.result ≡ h (get_or ranks at.rank-index rank) =
    c.get.ensures ∙ ap h (c.rank.view_is ∙ c.rank-item.is) in
    elim c.match-get.branch [
      | in-Some+in_ok-copy+in_ok-push w ↦
          w.copies-is ∙ w.in_ok-push.ensures.ok ∙ ap (λ (e : Entry). at.copies ++ e ∷ []) w.in_ok-copy.ensures
          ∙ more_some h ranks at.rank-index rank (option_copied c.get.result) w.in-Some.entry.now at.copies lt is
          (ap option_copied w.in-Some.is) at.invariant
      | in_default w ↦
          w.copies-is
          ∙ more_none h ranks at.rank-index rank (option_copied c.get.result) at.copies lt is
          (ap option_copied w.in_default.is) at.invariant
    ]
