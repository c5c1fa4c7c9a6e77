use Rattle.std.proofs.Common.{◌≡◌, ◌+◌, List, Option, None, take, get_or, set, sym, ap, ◌∙◌, subst}
use Rattle.std.specs.Prelude.{slice_get}
use Rattle.start_model.specs.Entries.{Entry}
use Rattle.start_model.specs.Order.{Rank}
use Rattle.boot_phases.proofs.ListLemmas.{more_some, more_none}
use Rattle.boot_phases.proofs.SlotLemmas.{AreLeft, left_start, left_next, taken_next}
use Rattle.boot_phases.proofs.boot_phases.planning.entries_at.Goals as goal
use Rattle.boot_phases.proofs.boot_phases.planning.entries_at.Goals.{in-Some+in_ok-push, in_default}

pub loop-rank-init : goal.loop-rank-init
loop-rank-init c = record { entries = c.new-entries.ensures; left = left_start _ _ c.in_ok-slots.ensures }

pub loop-rank-preserved : goal.loop-rank-preserved
loop-rank-preserved c =
    let table = c.args.table in
    let ranks = c.args.ranks.now in
    let at = c.loop-rank in
    let slots = at.slots.items in
    let rank = c.rank-item.result in
    let h : Rank → Option Entry = λ r. slice_get table r.place in
    let lt = c.loop-rank-test.true in
    let taken = c.take_at.ensures.taken ∙ ap (λ (r : Rank). get_or slots r.place None) c.rank.view_is in
    let is : c.take_at.result ≡ h (get_or ranks at.rank-index rank) =
    taken ∙ taken_next table ranks at.rank-index rank slots c.requires lt c.rank-item.is at.invariant.left
    ∙ ap h c.rank-item.is in
    let P : List (Option Entry) → Type 0 = λ s. AreLeft table (take (at.rank-index + 1) ranks) s in
    let left = subst P (sym (c.take_at.ensures.left ∙ ap (λ (r : Rank). set slots r.place None) c.rank.view_is))
    (left_next table ranks at.rank-index rank slots lt c.rank-item.is at.invariant.left) in
    elim c.match-take_at.branch [
      | in-Some+in_ok-push w ↦
          record {
            entries = w.entries-is ∙ w.in_ok-push.ensures.ok
                ∙ more_some h ranks at.rank-index rank c.take_at.result w.in-Some.entry at.entries lt is w.in-Some.is
                at.invariant.entries;
            left = left;
          }
      | in_default w ↦
          record {
            entries = w.entries-is ∙ more_none h ranks at.rank-index rank c.take_at.result at.entries lt is
                w.in_default.is at.invariant.entries;
            left = left;
          }
    ]
