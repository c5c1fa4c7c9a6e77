use Rattle.std.proofs.Common.{◌≡◌, ℕ, List, sym, subst, ◌∙◌, arith}
use Rattle.key_index.specs.Lists.{AreRead, children_at, offsets_in_lists}
use Rattle.key_index.proofs.Below.{ChildLists, child_lists}
use Rattle.hive_cells.specs.Sources.{cells_of}
use Rattle.hive_look.proofs.children.listed.Goals as goal
use Rattle.hive_look.proofs.children.listed.Goals.{After-payload-bytes, After-as_slice}
use Rattle.std.proofs.lemmas.Result.{IfOk-weaker}

below : (c : After-payload-bytes) → ChildLists (cells_of c.args.cells.now) c.args.list c.args.count c.payload-bytes.result.now
below c =
    subst (ChildLists (cells_of c.args.cells.now) c.args.list c.args.count) (sym c.payload-bytes.ensures)
    (child_lists (cells_of c.args.cells.now) c.args.list c.args.count c.requires (omega (arith, c.if-count-eq0.false)))

-- the entries are those of lists
lists : (c : After-as_slice) → let cells = cells_of c.args.cells.now in let os = c.as_slice.result.now in
    AreRead cells os × (children_at cells c.args.list c.args.count ≡ offsets_in_lists cells os)
lists c =
    let cells = cells_of c.args.cells.now in
    subst (λ (os : List ℕ). AreRead cells os × (children_at cells c.args.list c.args.count ≡ offsets_in_lists cells os))
    (sym (c.as_slice.ensures ∙ c.in_ok-offsets.ensures))
    ((below (goal.at.After-as_slice c).After-payload-bytes).many
    (sym c.is_list_of_lists.ensures ∙ c.if-is_list_of_lists.true))

pub entries_in-requires : goal.entries_in-requires
entries_in-requires c = (below (goal.at.entries_in-requires c).After-payload-bytes).read

pub is_list_of_lists-requires : goal.is_list_of_lists-requires
is_list_of_lists-requires c = (below (goal.at.is_list_of_lists-requires c).After-payload-bytes).read

pub joined-requires : goal.joined-requires
joined-requires c = (lists (goal.at.joined-requires c).After-as_slice).0

pub returns-then-is_list_of_lists : goal.returns-then-is_list_of_lists
returns-then-is_list_of_lists c =
    IfOk-weaker c.joined.result _ _
    (λ v e. e ∙ sym (lists (goal.at.returns-then-is_list_of_lists c).After-as_slice).1) c.joined.ensures

pub returns-else-is_list_of_lists : goal.returns-else-is_list_of_lists
returns-else-is_list_of_lists c =
    c.in_ok-offsets.ensures
    ∙ sym ((below (goal.at.returns-else-is_list_of_lists c).After-payload-bytes).single
    (sym c.is_list_of_lists.ensures ∙ c.if-is_list_of_lists.false))
