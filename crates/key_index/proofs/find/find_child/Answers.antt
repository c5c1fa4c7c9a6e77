use Rattle.std.proofs.Common.{◌≡◌, true, false, sym, ap, ◌∙◌, arith}
use Rattle.std.specs.Prelude.{find}
use Rattle.hive_model.specs.Bins.{look_up}
use Rattle.hive_model.specs.Footprint.{is_node_named}
use Rattle.key_index.specs.Lists.{lists_lists}
use Rattle.key_index.proofs.Below.{ChildLists, read_child_lists, single_nodes, single_apart, many_lists, many_apart}
use Rattle.key_index.proofs.find.find_child.Goals as goal
use Rattle.key_index.proofs.find.find_child.Goals.{After-payload-bytes, Then-is_list_of_lists, Else-is_list_of_lists}

-- the bytes that were read are the key's list
listed : (c : After-payload-bytes)
    → ChildLists (look_up c.args.version c.args.cells.now) c.args.list c.args.count c.payload-bytes.result.now
listed c =
    read_child_lists (look_up c.args.version c.args.cells.now) c.args.list c.args.count c.payload-bytes.ensures
    c.requires
    (omega arith)

-- which lists lists, or not
of_lists : (c : Then-is_list_of_lists) → lists_lists c.payload-bytes.result.now ≡ true
of_lists c = sym c.is_list_of_lists.ensures ∙ c.if-is_list_of_lists.true

of_nodes : (c : Else-is_list_of_lists) → lists_lists c.payload-bytes.result.now ≡ false
of_nodes c = sym c.is_list_of_lists.ensures ∙ c.if-is_list_of_lists.false

pub is_list_of_lists-requires : goal.is_list_of_lists-requires
is_list_of_lists-requires c = (listed (goal.at.is_list_of_lists-requires c).After-payload-bytes).read

pub find_in_lists-requires-clause-read : goal.find_in_lists-requires-clause-read
find_in_lists-requires-clause-read c = (listed (goal.at.find_in_lists-requires-clause-read c).After-payload-bytes).read

pub find_in_lists-requires-clause-lists : goal.find_in_lists-requires-clause-lists
find_in_lists-requires-clause-lists c =
    many_lists (listed (goal.at.find_in_lists-requires-clause-lists c).After-payload-bytes) c.requires
    (of_lists (goal.at.find_in_lists-requires-clause-lists c).Then-is_list_of_lists)

pub find_in_lists-requires-clause-apart : goal.find_in_lists-requires-clause-apart
find_in_lists-requires-clause-apart c =
    many_apart (listed (goal.at.find_in_lists-requires-clause-apart c).After-payload-bytes) c.requires
    (of_lists (goal.at.find_in_lists-requires-clause-apart c).Then-is_list_of_lists)

pub find_in_list-requires-clause-read : goal.find_in_list-requires-clause-read
find_in_list-requires-clause-read c = (listed (goal.at.find_in_list-requires-clause-read c).After-payload-bytes).read

pub find_in_list-requires-clause-nodes : goal.find_in_list-requires-clause-nodes
find_in_list-requires-clause-nodes c =
    single_nodes (listed (goal.at.find_in_list-requires-clause-nodes c).After-payload-bytes) c.requires
    (of_nodes (goal.at.find_in_list-requires-clause-nodes c).Else-is_list_of_lists)

pub find_in_list-requires-clause-apart : goal.find_in_list-requires-clause-apart
find_in_list-requires-clause-apart c =
    single_apart (listed (goal.at.find_in_list-requires-clause-apart c).After-payload-bytes) c.requires
    (of_nodes (goal.at.find_in_list-requires-clause-apart c).Else-is_list_of_lists)

pub returns-then-is_list_of_lists : goal.returns-then-is_list_of_lists
returns-then-is_list_of_lists c =
    c.find_in_lists.ensures
    ∙ ap (find (is_node_named (look_up c.args.version c.args.cells.now) c.args.name.now))
    (sym ((listed (goal.at.returns-then-is_list_of_lists c).After-payload-bytes).many
    (of_lists (goal.at.returns-then-is_list_of_lists c).Then-is_list_of_lists)).1)

pub returns-else-is_list_of_lists : goal.returns-else-is_list_of_lists
returns-else-is_list_of_lists c =
    c.find_in_list.ensures
    ∙ ap (find (is_node_named (look_up c.args.version c.args.cells.now) c.args.name.now))
    (sym ((listed (goal.at.returns-else-is_list_of_lists c).After-payload-bytes).single
    (of_nodes (goal.at.returns-else-is_list_of_lists c).Else-is_list_of_lists)))
