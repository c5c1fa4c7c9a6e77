use Rattle.std.proofs.Common.{◌≡◌, take}
use Rattle.std.specs.List.{flat_map}
use Rattle.why_text.specs.graph_text.Dot.{stand_in}
use Rattle.why_text.proofs.graph_text.quotes.replaced.Given as goal

abbrev pub invariant-loop-c : goal.invariant-loop-c
invariant-loop-c l = l.out.items ≡ flat_map (stand_in l.byte l.other) (take l.c-index l.text)
