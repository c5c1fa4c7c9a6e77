use Rattle.std.proofs.Common.{◌≡◌, ℕ, List, true, Ok, sym, ◌∙◌}
use Rattle.hive_cells.specs.Sources.{cells_of}
use Rattle.hive_model.specs.Walk.{is_list_of_lists, joined_at, entries_at}
use Rattle.cell_forms.specs.Views.{kind_of, subkey_list_of}
use Rattle.hive_read.proofs.Walks.{stopped, stops-on, steps-same}
use Rattle.hive_read.proofs.ListWalks.{entries-off, entries-own, entries-lists}
use Rattle.hive_read.proofs.list.read_entries.Goals as goal

pub returns-in_err-list : goal.returns-in_err-list
returns-in_err-list c =
    rw (stopped c.from_residual.result c.in_err-list.field-0.0 c.from_residual.ensures.1)
    (stops-on c.in_err-list.field-0.0 _ _
    (λ f. entries-off (cells_of c.args.cells.now) c.args.used.now c.args.at f) c.in_err-list.ensures)

pub returns-then-lists_lists : goal.returns-then-lists_lists
returns-then-lists_lists c =
    let cells = cells_of c.args.cells.now in
    let list = c.in_ok-list.list in
    let u = c.in_ok-list.ensures in
    let k : is_list_of_lists (kind_of list.kind) ≡ true = sym c.lists_lists.ensures ∙ c.if-lists_lists.true in
    let e = entries-lists cells c.args.used.now c.use_list.new.used c.args.at (subkey_list_of list) u.0 u.1 k in
    steps-same (λ (o : List ℕ). joined_at cells list.offsets ≡ Ok o) (λ (o : List ℕ). entries_at cells c.args.at ≡ Ok o)
    _ _ c.read_leaves.new.used c.read_leaves.result
    e.0 (λ o h. e.1 ∙ h) (rw c.as_slice.ensures at c.read_leaves.ensures)

pub returns : goal.returns
returns c =
    entries-own (cells_of c.args.cells.now) c.args.used.now c.use_list.new.used c.args.at
    (subkey_list_of c.in_ok-list.list) c.in_ok-list.ensures.0 c.in_ok-list.ensures.1
    (sym c.lists_lists.ensures ∙ c.if-lists_lists.false)
