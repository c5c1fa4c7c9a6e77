use Rattle.std.proofs.Common.{◌≡◌, map}
use Rattle.start_model.specs.Entries.{need_of}
use Rattle.boot_machine.specs.boot_machine.Parts.{rest_of}
use Rattle.boot_machine.proofs.boot_machine.parts.split_all.Given as goal

abbrev pub invariant-loop-entry : goal.invariant-loop-entry
invariant-loop-entry l = record {
  needs : l.needs ≡ map need_of l.yielded;
  rests : l.rests.items ≡ map rest_of l.yielded;
}
