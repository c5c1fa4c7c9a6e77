use Rattle.std.proofs.Common.{◌≡◌, ◌≤◌, ◌+◌, ◌/◌, ◌*◌, ◌++◌, List, ℕ, length, sym, ap, ◌∙◌, append_assoc, arith}
use Rattle.hive_model.specs.Size.{cell, part_count}
use Rattle.hive_model.specs.Lists.{ri_text}
use Rattle.hive_model.specs.Packed.{cell_text, text, part_places, parts}
use Rattle.hive_model.proofs.Spelling.{length_ri}
use Rattle.hive_pack.proofs.Rows.{length_part_places, many_lists, lists_many}
use Rattle.reg_tree.proofs.Outcomes.{on_ok}
use Rattle.hive_pack.proofs.lists.write_list_of_lists.Goals as goal
use Rattle.hive_pack.proofs.lists.write_list_of_lists.Goals.{After-part_count-count, After-deref}

-- there is room for the list of lists and the full ones of its lists
room : (c : After-part_count-count)
    → c.args.at + cell (4 + 4 * c.part_count-count.result) + length c.args.places.now / 500 * 4008 ≤ 16777216
room c =
    omega (arith, c.part_count-count.ensures, many_lists (length c.args.places.now) c.requires.many, c.requires.room)

starts_count : (c : After-deref) → length c.deref.result.now ≡ c.part_count-count.result
starts_count c =
    ap (λ (x : List ℕ). length x) (c.deref.ensures.value ∙ c.in_ok-starts.ensures)
    ∙ length_part_places c.part_count-count.result c.first_part.result

pub part_starts-requires : goal.part_starts-requires
part_starts-requires c =
    omega (
      arith,
      c.first_part.ensures,
      c.part_count-count.ensures,
      room (goal.at.part_starts-requires c).After-part_count-count,
    )

pub ri_bytes-requires : goal.ri_bytes-requires
ri_bytes-requires c =
    omega (
      arith,
      starts_count (goal.at.ri_bytes-requires c).After-deref,
      c.part_count-count.ensures,
      room (goal.at.ri_bytes-requires c).After-part_count-count,
    )

pub put_cell-requires : goal.put_cell-requires
put_cell-requires c =
    omega (
      arith,
      ap (λ (x : List ℕ). length x) (c.as_slice.ensures ∙ c.in_ok-list.ensures),
      length_ri c.deref.result.now,
      starts_count (goal.at.put_cell-requires c).After-deref,
      room (goal.at.put_cell-requires c).After-part_count-count,
    )

pub returns : goal.returns
returns c =
    let ps = c.args.places.now in
    let hs = c.args.hints.now in
    let out = c.args.out.now in
    let n = c.part_count-count.ensures in
    let list : c.as_slice.result.now
    ≡ ri_text (part_places (part_count (length ps)) (c.args.at + cell (4 + 4 * part_count (length ps)))) =
    c.as_slice.ensures ∙ c.in_ok-list.ensures
    ∙ ap ri_text (c.deref.ensures.value ∙ c.in_ok-starts.ensures
    ∙ (λ j. part_places (n j) (c.first_part.ensures j))) in
    on_ok c.write_parts.result _ _
    (λ e. e ∙ (λ j. (c.in_ok-put_cell.ensures ∙ ap (λ (x : List ℕ). out ++ cell_text x) list) j
    ++ text (parts c.args.version (n j) ps hs))
    ∙ append_assoc out _ _
    ∙ ap (λ (x : List ℕ). out ++ x) (sym (lists_many c.args.version c.args.at ps hs c.requires.many)))
    c.write_parts.ensures
