use Rattle.std.proofs.Common.{◌≡◌, ◌-◌, ◌++◌, List, ◌∷◌, ℕ, length, sym, ap, subst, ◌∙◌, append_assoc, arith}
use Rattle.std.proofs.lemmas.List.{length-drop}
use Rattle.hive_model.specs.Lists.{AreHints}
use Rattle.hive_model.specs.Packed.{cell_text, text, list_text, parts}
use Rattle.hive_pack.proofs.Rows.{hints_take, hints_drop}
use Rattle.hive_pack.proofs.Parts.{parts_next}
use Rattle.hive_pack.proofs.lists.write_parts.Goals as goal

pub write_part-requires-clause-four : goal.write_part-requires-clause-four
write_part-requires-clause-four c =
    subst AreHints (sym c.split_at-in-parts.ensures.front)
    (hints_take c.min-n.result c.parts.rest_hints.now c.parts.invariant.four)

pub parts-preserved : goal.parts-preserved
parts-preserved c =
    let i = c.parts.invariant in
    let out = c.parts.out in
    let version = c.args.version in
    let k = c.min-n.result in
    let ps = c.parts.rest.now in
    let hs = c.parts.rest_hints.now in
    let left = c.parts.left in
    let first = c.split_at.result.0.now in
    let first_hints = c.split_at-in-parts.result.0.now in
    let later = c.split_at.result.1.now in
    let later_hints = c.split_at-in-parts.result.1.now in
    let one = list_text version first first_hints in
    let others = parts version (left - 1) later later_hints in
    let next : parts version left ps hs ≡ one ∷ others =
    parts_next version left k ps hs (omega arith) i.same c.min-n.ensures
    ∙ (λ j. list_text version (sym c.split_at.ensures.front j) (sym c.split_at-in-parts.ensures.front j)
    ∷ parts version (left - 1) (sym c.split_at.ensures.back j) (sym c.split_at-in-parts.ensures.back j)) in
    record {
      written =
          ap (λ (x : List ℕ). x ++ text others) c.in_ok-write_part.ensures
          ∙ append_assoc out (cell_text one) (text others)
          ∙ ap (λ (ps : List (List ℕ)). out ++ text ps) (sym next)
          ∙ i.written;
      same = omega (
        arith,
        i.same,
        ap (λ (x : List ℕ). length x) c.split_at.ensures.back,
        ap (λ (x : List (List ℕ)). length x) c.split_at-in-parts.ensures.back,
        length-drop k ps,
        length-drop k hs,
      );
      four = subst AreHints (sym c.split_at-in-parts.ensures.back) (hints_drop k hs i.four);
    }
