use Rattle.std.proofs.Common.{◌≡◌, ◌≤◌, ◌+◌, ◌-◌, ◌++◌, List, ◌∷◌, ℕ, length, take, drop, sym, ap, subst, ◌∙◌, append_assoc, arith}
use Rattle.std.specs.Int.{w32, to_le_bytes}
use Rattle.std.specs.List.{All}
use Rattle.hive_model.specs.Tree.{Item}
use Rattle.hive_model.specs.Valid.{IsItem}
use Rattle.hive_model.specs.Size.{items_sum}
use Rattle.hive_model.specs.Lists.{offsets_text}
use Rattle.hive_model.specs.Packed.{text, cells_of_items, item_places}
use Rattle.reg_tree.proofs.Outcomes.{uncons}
use Rattle.hive_pack.proofs.Written.{value_next, value_next_place}
use Rattle.hive_pack.proofs.Counts.{all_later}
use Rattle.hive_pack.proofs.values.write_each_value.Goals as goal

pub values-preserved : goal.values-preserved
values-preserved c =
    let i = c.values.invariant in
    let out = c.values.out in
    let v = c.value-item.result in
    let rest = c.values.rest.now in
    let more : List Item = take (length rest - 1) (drop 1 rest) in
    let r : rest ≡ v ∷ more = uncons rest v c.in-len1-up.len_at_least c.value-item.is in
    let at = value_next_place c.args.version out v c.write_value.new.out c.in_ok-write_value.ensures in
    let room : length out + items_sum c.args.version (v ∷ more) ≤ 16777216 =
    subst (λ (xs : List Item). length out + items_sum c.args.version xs ≤ 16777216) r i.room in
    record {
      written = value_next c.args.version out v more c.write_value.new.out c.in_ok-write_value.ensures
          ∙ ap (λ (xs : List Item). out ++ text (cells_of_items c.args.version (length out) xs)) (sym r) ∙ i.written;
      places =
          ap (λ (ps : List ℕ). ps ++ offsets_text (item_places c.args.version (length c.write_value.new.out) more))
          (c.in_ok-put_u32.ensures.ok ∙ ap (λ (n : ℕ). c.values.places ++ to_le_bytes w32 n) c.len.ensures)
          ∙ append_assoc c.values.places (to_le_bytes w32 (length out))
          (offsets_text (item_places c.args.version (length c.write_value.new.out) more))
          ∙ ap (λ (n : ℕ). c.values.places
          ++ (to_le_bytes w32 (length out) ++ offsets_text (item_places c.args.version n more))) at
          ∙ ap (λ (xs : List Item). c.values.places ++ offsets_text (item_places c.args.version (length out) xs))
          (sym r)
          ∙ i.places;
      valid = all_later v more (subst (λ (xs : List Item). All IsItem xs) r i.valid);
      room = omega (arith, room, at);
    }
