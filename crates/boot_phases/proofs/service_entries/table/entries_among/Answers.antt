use Rattle.std.proofs.Common.{sym, ◌∙◌}
use Rattle.boot_phases.proofs.TableLemmas.{earlier_entries_differ, more_some, more_none, new_there, room_for}
use Rattle.boot_phases.proofs.service_entries.table.entries_among.Goals as goal
use Rattle.boot_phases.proofs.service_entries.table.entries_among.Goals.{in-Some+in_ok-push, in_default}

pub push-requires-clause-new : goal.push-requires-clause-new
push-requires-clause-new c =
    new_there c.in-Some.entry.name c.loop-key.invariant
    (earlier_entries_differ c.args.keys.now c.loop-key.key-index c.key-item.result c.in-Some.entry c.requires.differ
    c.loop-key-test.true c.key-item.is (sym c.in_ok-entry.ensures ∙ c.in-Some.is))

pub push-requires-clause-few : goal.push-requires-clause-few
push-requires-clause-few c =
    room_for c.args.keys.now c.loop-key.key-index c.loop-key.table c.loop-key-test.true c.requires.few
    c.loop-key.invariant

pub loop-key-preserved : goal.loop-key-preserved
loop-key-preserved c = elim c.match-branch-2.branch [
  | in-Some+in_ok-push w ↦
      w.table-is ∙ w.in_ok-push.ensures
      ∙ more_some c.args.keys.now c.loop-key.key-index c.key-item.result w.in-Some.entry _ c.loop-key.table
      c.loop-key-test.true c.key-item.is c.in_ok-entry.ensures w.in-Some.is c.loop-key.invariant
  | in_default w ↦
      w.table-is
      ∙ more_none c.args.keys.now c.loop-key.key-index c.key-item.result _ c.loop-key.table c.loop-key-test.true
      c.key-item.is c.in_ok-entry.ensures w.in_default.is c.loop-key.invariant
]
