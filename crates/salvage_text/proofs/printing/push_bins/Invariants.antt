use Rattle.std.proofs.Common.{◌≡◌, ◌++◌, take}
use Rattle.std.specs.List.{flat_map}
use Rattle.salvage_text.specs.Lines.{BytesLine, printed}
use Rattle.salvage_text.proofs.printing.push_bins.Given as goal

abbrev pub invariant-loop-bin : goal.invariant-loop-bin
invariant-loop-bin l = l.out.items ≡ l.fn.out.items ++ flat_map (λ bin. printed l.form (BytesLine bin)) (take l.bin-index l.broken)
