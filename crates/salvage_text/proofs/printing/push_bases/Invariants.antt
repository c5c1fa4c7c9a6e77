use Rattle.std.proofs.Common.{◌≡◌, ◌++◌, take}
use Rattle.std.specs.List.{flat_map}
use Rattle.salvage_text.specs.Lines.{BaseLine, printed}
use Rattle.salvage_text.proofs.printing.push_bases.Given as goal

abbrev pub invariant-loop-fault : goal.invariant-loop-fault
invariant-loop-fault l = l.out.items ≡ l.fn.out.items ++ flat_map (λ fault. printed l.form (BaseLine fault)) (take l.fault-index l.faults)
