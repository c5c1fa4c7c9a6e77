use Rattle.std.proofs.Common.{sym, ap, subst, ◌∙◌, arith}
use Rattle.key_index.specs.Lists.{AreRead, offsets_in_lists}
use Rattle.hive_cells.specs.Sources.{cells_of}
use Rattle.key_index.proofs.Below.{ChildLists, read_child_lists}
use Rattle.key_index.proofs.children.read_children.Goals as goal
use Rattle.key_index.proofs.children.read_children.Goals.{After-payload-bytes}
use Rattle.std.proofs.lemmas.Result.{IfOk-weaker}

-- the bytes that were read are the key's list
listed : (c : After-payload-bytes)
    → ChildLists (cells_of c.args.cells.now) c.args.list c.args.count c.payload-bytes.result.now
listed c =
    read_child_lists (cells_of c.args.cells.now) c.args.list c.args.count c.payload-bytes.ensures c.requires (omega
    arith)

pub read_list-requires : goal.read_list-requires
read_list-requires c = (listed (goal.at.read_list-requires c).After-payload-bytes).read

pub is_list_of_lists-requires : goal.is_list_of_lists-requires
is_list_of_lists-requires c = (listed (goal.at.is_list_of_lists-requires c).After-payload-bytes).read

pub read_lists-requires : goal.read_lists-requires
read_lists-requires c =
    subst (AreRead (cells_of c.args.cells.now)) (sym (c.deref.ensures.value ∙ c.in_ok-offsets.ensures))
    ((listed (goal.at.read_lists-requires c).After-payload-bytes).many
    (sym c.is_list_of_lists.ensures ∙ c.if-is_list_of_lists.true)).0

pub returns-then-is_list_of_lists : goal.returns-then-is_list_of_lists
returns-then-is_list_of_lists c =
    let many = (listed (goal.at.returns-then-is_list_of_lists c).After-payload-bytes).many
    (sym c.is_list_of_lists.ensures ∙ c.if-is_list_of_lists.true) in
    IfOk-weaker c.read_lists.result _ _
    (λ v e. e ∙ ap (offsets_in_lists (cells_of c.args.cells.now)) (c.deref.ensures.value ∙ c.in_ok-offsets.ensures)
    ∙ sym many.1) c.read_lists.ensures

pub returns-else-is_list_of_lists : goal.returns-else-is_list_of_lists
returns-else-is_list_of_lists c =
    c.in_ok-offsets.ensures ∙ sym ((listed (goal.at.returns-else-is_list_of_lists c).After-payload-bytes).single
    (sym c.is_list_of_lists.ensures ∙ c.if-is_list_of_lists.false))
