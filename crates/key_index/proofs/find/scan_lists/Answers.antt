use Rattle.std.proofs.Common.{◌≡◌, List, ℕ, get_or, sym, ap, ◌∙◌, arith}
use Rattle.std.specs.Prelude.{find}
use Rattle.hive_model.specs.Footprint.{is_node_named}
use Rattle.key_index.specs.Lists.{offsets_of, offsets_in_list, payload_in}
use Rattle.hive_cells.specs.Sources.{cells_of}
use Rattle.key_index.proofs.Finding.{find_some, find_past}
use Rattle.key_index.proofs.find.scan_lists.Goals as goal
use Rattle.key_index.proofs.find.scan_lists.Goals.{After-scan_list-found}

-- what was found is the first in the list at this place
first : (c : After-scan_list-found)
    → c.scan_list-found.result ≡ find (is_node_named (cells_of c.args.cells.now) c.args.name.now)
    (offsets_in_list (cells_of c.args.cells.now) (get_or (offsets_of c.args.list.now) c.loop-place.place 0))
first c =
    c.scan_list-found.ensures
    ∙ ap (λ (p : List ℕ). find (is_node_named (cells_of c.args.cells.now) c.args.name.now) (offsets_of p))
    (c.payload-part.ensures ∙ ap (payload_in (cells_of c.args.cells.now)) c.entry.ensures)

pub returns-then-is_some : goal.returns-then-is_some
returns-then-is_some c =
    let cells = cells_of c.args.cells.now in
    find_some (is_node_named cells c.args.name.now) (offsets_in_list cells) (offsets_of c.args.list.now)
    c.loop-place.place c.scan_list-found.result (omega (arith, c.entry_count-place-end.ensures)) c.loop-place.invariant
    (first (goal.at.returns-then-is_some c).After-scan_list-found) (sym c.is_some.ensures ∙ c.if-is_some.true)

pub loop-place-preserved : goal.loop-place-preserved
loop-place-preserved c =
    let cells = cells_of c.args.cells.now in
    find_past (is_node_named cells c.args.name.now) (offsets_in_list cells) (offsets_of c.args.list.now)
    c.loop-place.place c.scan_list-found.result (omega (arith, c.entry_count-place-end.ensures)) c.loop-place.invariant
    (first (goal.at.loop-place-preserved c).After-scan_list-found) (sym c.is_some.ensures ∙ c.if-is_some.false)
