use Rattle.std.proofs.Common.{◌≡◌, ◌<◌, ◌-◌, ℕ, List, length, get_or, ap, subst, ◌∙◌, arith}
use Rattle.std.specs.List.{Contains}
use Rattle.key_index.specs.Lists.{offsets_of, offsets_in_list, offsets_in_lists, payload_in}
use Rattle.hive_cells.specs.Sources.{cells_of}
use Rattle.key_index.proofs.Finding.{contains_one, wider}
use Rattle.key_index.proofs.find.search_lists.Goals as goal

pub returns : goal.returns
returns c =
    let cells = cells_of c.args.cells.now in
    let lists = offsets_of c.args.list.now in
    let i = c.lists_before-before.result - 1 in
    let lt : i < length lists = omega (arith, c.lists_before-before.ensures) in
    let part : c.payload.result.now ≡ payload_in cells (get_or lists i 0) =
    c.payload.ensures ∙ ap (payload_in cells) c.entry.ensures in
    wider cells c.args.name.now (offsets_of c.payload.result.now) (offsets_in_lists cells lists) c.search_list.result
    (λ x h. contains_one (offsets_in_list cells) lists i x lt
    (subst (λ (p : List ℕ). Contains (offsets_of p) x) part h))
    c.search_list.ensures
