use Rattle.std.proofs.Common.{arith}
use Rattle.std.proofs.lemmas.Grind.{common_steps}
use Rattle.hive_edit.proofs.GapLemmas.{moved_by}
use Rattle.hive_edit.proofs.unset.move_down.Goals as goal

pub returns-clause-closed : goal.returns-clause-closed
returns-clause-closed c =
    moved_by c.args.heap.now.bins c.patch.new.self.bins c.args.place c.args.numbers c.args.list _ c.copy_part.new.into
    c.requires.long (grind (arith, common_steps)) c.copy_part.ensures.long c.copy_part.ensures.read c.patch.ensures.here
    c.patch.ensures.others c.patch.ensures.long
