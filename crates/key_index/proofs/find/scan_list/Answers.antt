use Rattle.std.proofs.Common.{◌≡◌, Some, get_or, sym, ap, ◌∙◌, arith}
use Rattle.hive_model.specs.Footprint.{is_node_named}
use Rattle.key_index.specs.Lists.{offsets_of}
use Rattle.hive_cells.specs.Sources.{cells_of}
use Rattle.key_index.proofs.Finding.{find_here, find_on, tested}
use Rattle.key_index.proofs.find.scan_list.Goals as goal
use Rattle.key_index.proofs.find.scan_list.Goals.{After-is_eq}

-- whether the node at this place has the name
here : (c : After-is_eq)
    → is_node_named (cells_of c.args.cells.now) c.args.name.now (get_or (offsets_of c.args.list.now) c.loop-place.place 0)
    ≡ c.is_eq.result
here c =
    ap (is_node_named (cells_of c.args.cells.now) c.args.name.now) (sym c.entry-at.ensures)
    ∙ tested (cells_of c.args.cells.now) c.args.name.now (offsets_of c.args.list.now) c.loop-place.place
    c.entry-at.result c.compare_name.result c.requires.nodes (omega (arith, c.entry_count-place-end.ensures))
    c.entry-at.ensures c.compare_name.ensures
    ∙ sym c.is_eq.ensures

pub returns-then-is_eq : goal.returns-then-is_eq
returns-then-is_eq c =
    ap Some c.entry-at.ensures
    ∙ sym (find_here (is_node_named (cells_of c.args.cells.now) c.args.name.now) (offsets_of c.args.list.now)
    c.loop-place.place (omega (arith, c.entry_count-place-end.ensures)) c.loop-place.invariant
    (here (goal.at.returns-then-is_eq c).After-is_eq ∙ c.if-is_eq.true))

pub loop-place-preserved : goal.loop-place-preserved
loop-place-preserved c =
    find_on (is_node_named (cells_of c.args.cells.now) c.args.name.now) (offsets_of c.args.list.now) c.loop-place.place
    (omega (arith, c.entry_count-place-end.ensures)) c.loop-place.invariant
    (here (goal.at.loop-place-preserved c).After-is_eq ∙ c.if-is_eq.false)
