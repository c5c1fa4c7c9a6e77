use Rattle.std.proofs.Common.{◌≡◌, ◌++◌, take}
use Rattle.std.specs.List.{flat_map}
use Rattle.line_parts.specs.Pieces.{pieces_text}
use Rattle.line_parts.specs.Parts.{part_pieces}
use Rattle.line_parts.specs.Views.{seen}
use Rattle.line_parts.proofs.json.push_each.Given as goal

abbrev pub invariant-loop-part : goal.invariant-loop-part
invariant-loop-part l = l.out.items ≡ l.initial.out.items ++ flat_map (λ p. pieces_text (part_pieces (seen p))) (take l.part-index l.parts)
