use Rattle.std.proofs.Common.{◌≡◌, map, take}
use Rattle.start_model.specs.Entries.{need_of}
use Rattle.service_control.proofs.first.needs_of.Given as goal

abbrev pub invariant-loop-entry : goal.invariant-loop-entry
invariant-loop-entry l = l.needs ≡ map need_of (take l.entry-index l.entries)
