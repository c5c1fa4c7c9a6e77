use Rattle.std.proofs.Common.{◌≡◌, false, true, ◌-◌, ap, sym, ◌∙◌, arith}
use Rattle.std.specs.Option.{option_map}
use Rattle.hive_model.specs.Bins.{Cell, cell_size, head_number}
use Rattle.hive_cells.proofs.Spots.{There, HeadAt, begins_there, none_there, none_between, read_at, allocated_head, free_head, some_head}
use Rattle.hive_cells.proofs.lookup.head.Goals as goal
use Rattle.hive_cells.proofs.lookup.head.Goals.{Else-not-begins, After-u32_at-head, Then-head-lt2147483648, After-from}
use Rattle.hive_cells.specs.Reading.{head_of}

-- the cell that begins there
found : (c : Else-not-begins) → (x : Cell) × There c.args.bytes.now c.args.at x
found c = begins_there c.args.bytes.now c.args.starts.now c.args.at c.requires c.if-at-ne0.false
    (sym c.if-not-begins.ensures)

-- its head was read
head_read : (c : After-u32_at-head) → let t = found (goal.at.After-u32_at-head c).Else-not-begins in
    c.u32_at-head.result ≡ head_number t.0.allocated (cell_size t.0)
head_read c =
    let t = found (goal.at.After-u32_at-head c).Else-not-begins in
    c.u32_at-head.ensures ∙ (read_at c.args.bytes.now c.args.at t.0 t.1).head

-- the cell is free
free : (c : Then-head-lt2147483648) → HeadAt c.args.bytes.now c.args.at false c.u32_at-head.result
free c =
    let t = found (goal.at.Then-head-lt2147483648 c).Else-not-begins in
    let is = head_read (goal.at.Then-head-lt2147483648 c).After-u32_at-head in
    let f = free_head t.0 t.1.sound (omega (arith, is, c.if-head-lt2147483648.true)) in
    some_head c.args.bytes.now c.args.at t.0 c.u32_at-head.result false t.1 f.0 (sym f.1 ∙ sym is)

-- the cell is allocated
allocated : (c : After-from) → HeadAt c.args.bytes.now c.args.at true (4294967296 - c.from.result)
allocated c =
    let t = found (goal.at.After-from c).Else-not-begins in
    let is = head_read (goal.at.After-from c).After-u32_at-head in
    let f = allocated_head t.0 t.1.sound (omega (arith, is, c.if-head-lt2147483648.false)) in
    some_head c.args.bytes.now c.args.at t.0 _ true t.1 f.0 (omega (arith, is, f.1, c.from.ensures))

pub returns-then-at-ne0-clause-exact : goal.returns-then-at-ne0-clause-exact
returns-then-at-ne0-clause-exact c =
    ap (option_map head_of) (sym
    (none_between c.args.bytes.now c.args.starts.now c.args.at c.requires c.if-at-ne0.true))

pub returns-then-not-begins-clause-exact : goal.returns-then-not-begins-clause-exact
returns-then-not-begins-clause-exact c =
    ap (option_map head_of) (sym
    (none_there c.args.bytes.now c.args.starts.now c.args.at c.requires c.if-at-ne0.false
    (sym c.if-not-begins.ensures)))

pub u32_at-head-requires : goal.u32_at-head-requires
u32_at-head-requires c =
    let t = found (goal.at.u32_at-head-requires c).Else-not-begins in
    omega (arith, (read_at c.args.bytes.now c.args.at t.0 t.1).long, t.1.sound.least)

pub returns-then-head-lt2147483648-clause-exact : goal.returns-then-head-lt2147483648-clause-exact
returns-then-head-lt2147483648-clause-exact c = (free (goal.at.returns-then-head-lt2147483648-clause-exact c).Then-head-lt2147483648).is

pub returns-then-head-lt2147483648-clause-within : goal.returns-then-head-lt2147483648-clause-within
returns-then-head-lt2147483648-clause-within c = (free (goal.at.returns-then-head-lt2147483648-clause-within c).Then-head-lt2147483648).within

pub returns-else-head-lt2147483648-clause-exact : goal.returns-else-head-lt2147483648-clause-exact
returns-else-head-lt2147483648-clause-exact c = (allocated (goal.at.returns-else-head-lt2147483648-clause-exact c).After-from).is

pub returns-else-head-lt2147483648-clause-within : goal.returns-else-head-lt2147483648-clause-within
returns-else-head-lt2147483648-clause-within c = (allocated (goal.at.returns-else-head-lt2147483648-clause-within c).After-from).within
