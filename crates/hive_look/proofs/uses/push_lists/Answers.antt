use Rattle.std.proofs.Common.{◌≡◌, ap, sym, List, ℕ, [], ◌∷◌, ◌++◌, ◌∙◌, false, arith}
use Rattle.hive_model.specs.Footprint.{list_cells_at}
use Rattle.edited_cells.specs.Uses.{plain}
use Rattle.key_index.specs.Lists.{ListsSiblings, lists_at, offsets_of}
use Rattle.key_index.proofs.Below.{ChildLists, UsedLists, child_lists, used_lists}
use Rattle.hive_cells.specs.Sources.{cells_of}
use Rattle.hive_look.proofs.NodeLemmas.{siblings_here}
use Rattle.hive_look.proofs.UsesLemmas.{use_of, nothing_more, joined_uses, no_lists, lists_by}
use Rattle.hive_look.proofs.uses.push_lists.Goals as goal
use Rattle.hive_look.proofs.uses.push_lists.Goals.{After-payload-bytes, After-u32_at-list}

siblings : (c : After-u32_at-list) → ListsSiblings (cells_of c.args.cells.now) c.u32_at-list.result c.u32_at-count.result
siblings c =
    siblings_here (cells_of c.args.cells.now) c.args.at c.node_at-node.result.now c.u32_at-list.result c.u32_at-count.result
    c.requires c.node_at-node.ensures.value c.u32_at-list.ensures c.u32_at-count.ensures

pub returns-then-count-eq0 : goal.returns-then-count-eq0
returns-then-count-eq0 c =
    let cells = cells_of c.args.cells.now in
    nothing_more c.args.uses.now.items (plain (list_cells_at cells c.args.at))
    (no_lists cells c.args.at c.node_at-node.result.now c.u32_at-count.result c.requires c.node_at-node.ensures.value
    c.u32_at-count.ensures c.if-count-eq0.true)

below : (c : After-payload-bytes)
    → ChildLists (cells_of c.args.cells.now) c.u32_at-list.result c.u32_at-count.result c.payload-bytes.result.now
below c =
    rw c.payload-bytes.ensures (child_lists (cells_of c.args.cells.now) c.u32_at-list.result c.u32_at-count.result
    (siblings (goal.at.After-payload-bytes c).After-u32_at-list) (omega (arith, c.if-count-eq0.false)))

-- what the cells of the lists are
used : (c : After-payload-bytes) → UsedLists (cells_of c.args.cells.now) c.u32_at-list.result c.u32_at-count.result
used c =
    used_lists (cells_of c.args.cells.now) c.u32_at-list.result c.u32_at-count.result
    (siblings (goal.at.After-payload-bytes c).After-u32_at-list) (omega (arith, c.if-count-eq0.false))

mine : (c : After-u32_at-list) (l : List ℕ) → let cells = cells_of c.args.cells.now in
    lists_at cells c.u32_at-list.result c.u32_at-count.result ≡ l
    → c.args.uses.now.items ++ plain l ≡ c.args.uses.now.items ++ plain (list_cells_at cells c.args.at)
mine c l used =
    ap (λ (l : List ℕ). c.args.uses.now.items ++ plain l)
    (sym used ∙ lists_by (cells_of c.args.cells.now) c.args.at c.node_at-node.result.now c.u32_at-list.result
    c.u32_at-count.result c.requires c.node_at-node.ensures.value c.u32_at-list.ensures c.u32_at-count.ensures)

pub is_list_of_lists-requires : goal.is_list_of_lists-requires
is_list_of_lists-requires c = (below (goal.at.is_list_of_lists-requires c).After-payload-bytes).read

pub entries_in-requires : goal.entries_in-requires
entries_in-requires c = (below (goal.at.entries_in-requires c).After-payload-bytes).read

pub returns-then-not-is_list_of_lists : goal.returns-then-not-is_list_of_lists
returns-then-not-is_list_of_lists c =
    let way = goal.at.returns-then-not-is_list_of_lists c in
    let is = sym c.is_list_of_lists.ensures ∙ c.if-not-is_list_of_lists.true in
    c.in_ok-push.ensures.items
    ∙ mine way.After-u32_at-list _ ((used way.After-payload-bytes).single (rw c.payload-bytes.ensures at is))

pub returns : goal.returns
returns c =
    let way = goal.at.returns c in
    let is = sym c.is_list_of_lists.ensures ∙ c.if-not-is_list_of_lists.false in
    let lists = c.as_slice.ensures ∙ c.in_ok-lists.ensures ∙ ap offsets_of c.payload-bytes.ensures in
    joined_uses c.args.uses.now.items c.push.new.self.items c.push_plain.new.uses.items
    (use_of c.u32_at-list.result false ∷ []) (plain c.as_slice.result.now)
    c.in_ok-push.ensures.items c.in_ok-push_plain.ensures
    ∙ ap (λ (l : List ℕ). c.args.uses.now.items ++ plain (c.u32_at-list.result ∷ l)) lists
    ∙ mine way.After-u32_at-list _ ((used way.After-payload-bytes).many (rw c.payload-bytes.ensures at is))
