-- Parts one by one, and all of them.
use Rattle.std.proofs.Common.{◌≡◌, ℕ, List, [], ◌∷◌, ◌++◌, ap, ◌∙◌, sym, refl}
use Rattle.std.specs.List.{flat_map}
use Rattle.std.proofs.lemmas.Grind.{flat_map-append}
use Rattle.line_parts.specs.declared.part.Part.{Part as CodePart}
use Rattle.line_parts.specs.Pieces.{piece_text, pieces_text}
use Rattle.line_parts.specs.Parts.{part_text, part_pieces, pieces_of}
use Rattle.line_parts.specs.Views.{seen, all_seen}

pub texts_of : (parts : List CodePart) → flat_map (λ p. part_text (seen p)) parts ≡ flat_map part_text (all_seen parts)
texts_of [] = refl
texts_of (p ∷ parts) = ap (λ (t : List ℕ). part_text (seen p) ++ t) (texts_of parts)

pub objects_of : (parts : List CodePart)
    → flat_map (λ p. pieces_text (part_pieces (seen p))) parts ≡ pieces_text (pieces_of (all_seen parts))
objects_of [] = refl
objects_of (p ∷ parts) =
    ap (λ (t : List ℕ). pieces_text (part_pieces (seen p)) ++ t) (objects_of parts)
    ∙ sym (flat_map-append piece_text (part_pieces (seen p)) (pieces_of (all_seen parts)))
