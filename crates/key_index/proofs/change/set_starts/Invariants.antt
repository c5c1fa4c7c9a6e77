use Rattle.std.proofs.Common.{◌≡◌, ◌+◌, ◌*◌, ◌++◌, take, drop}
use Rattle.hive_model.specs.Lists.{offsets_text}
use Rattle.hive_model.specs.Packed.{part_places}
use Rattle.key_index.proofs.change.set_starts.Given as goal

abbrev pub invariant-loop-i : goal.invariant-loop-i
invariant-loop-i l = l.run ≡ take 8 l.fn.run ++ (offsets_text (part_places l.i l.place) ++ drop (8 + 4 * l.i) l.fn.run)
