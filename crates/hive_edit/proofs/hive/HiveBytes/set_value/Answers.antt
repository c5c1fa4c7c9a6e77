use Rattle.std.proofs.Common.{◌≡◌, [], ◌∷◌, ℕ, ◌+◌, length, subst, is_some, inl, refl, sym, ap, ◌∙◌, arith}
use Rattle.std.specs.Int.{w32, from_le_bytes}
use Rattle.hive_model.specs.Edit.{set_value}
use Rattle.hive_model.specs.Size.{bulk_of}
use Rattle.hive_edit.specs.Hive.{HiveCells}
use Rattle.hive_edit.specs.Edits.{IsEditedInPlace, value_fields}
use Rattle.hive_edit.specs.Told.{WritesValue}
use Rattle.hive_look.proofs.ResultLemmas.{some_same}
use Rattle.hive_edit.proofs.SetLemmas.{set_full, inside_frees}
use Rattle.hive_edit.proofs.SteppedLemmas.{stepped_edit, stepped_kept}
use Rattle.hive_edit.proofs.hive.HiveBytes.set_value.Goals as goal
use Rattle.hive_edit.proofs.hive.HiveBytes.set_value.Goals.{After-set_inside}

kept : (c : After-set_inside) → IsEditedInPlace c.args.self.now
    (set_value c.args.path.now c.args.name.now c.args.kind c.args.bytes.now ∷ []) c.set_inside.new.self
kept c =
    stepped_kept c.args.self.now c.set_inside.new.self
    (set_value c.args.path.now c.args.name.now c.args.kind c.args.bytes.now) c.set_inside.ensures.stepped

pub returns-in-None-clause-in_place : goal.returns-in-None-clause-in_place
returns-in-None-clause-in_place c = λ there few. absurd (let e = ap is_some c.in-None.ensures in cc)

pub returns-in-None-clause-no_memory : goal.returns-in-None-clause-no_memory
returns-in-None-clause-no_memory c = λ there few. absurd (let e = ap is_some c.in-None.ensures in cc)

pub returns-then-bulk-gt-MOST_BULK-clause-made : goal.returns-then-bulk-gt-MOST_BULK-clause-made
returns-then-bulk-gt-MOST_BULK-clause-made c =
    let i = c.self.inside in (
      set_full i.cells i.cells.bins i.root i.version i.bulk c.args.self.now c.args.path.now c.args.name.now c.args.kind
          c.args.bytes.now c.in-Some.at
          c.self.invariant c.self.view_is (sym c.in-Some.ensures) (omega arith) c.if-bulk-gt-MOST_BULK.true,
      refl,
    )

pub set_inside-requires-clause-there : goal.set_inside-requires-clause-there
set_inside-requires-clause-there c = sym c.in-Some.ensures

pub returns-else-bulk-gt-MOST_BULK-clause-made : goal.returns-else-bulk-gt-MOST_BULK-clause-made
returns-else-bulk-gt-MOST_BULK-clause-made c =
    let i = c.self.inside in
    let counted : i.bulk ≡ bulk_of c.args.self.now.version c.args.self.now.tree =
    c.self.invariant.counted ∙ ap (λ (g : HiveCells). bulk_of g.version g.tree) c.self.view_is in
    stepped_edit c.args.self.now c.set_inside.new.self
    (set_value c.args.path.now c.args.name.now c.args.kind c.args.bytes.now) c.set_inside.ensures.stepped.stepped
    (omega (arith, c.set_inside.ensures.bulk, counted, c.if-bulk-gt-MOST_BULK.false))

pub returns-else-bulk-gt-MOST_BULK-clause-version : goal.returns-else-bulk-gt-MOST_BULK-clause-version
returns-else-bulk-gt-MOST_BULK-clause-version c = c.set_inside.ensures.stepped.stepped.version

pub returns-else-bulk-gt-MOST_BULK-clause-cells : goal.returns-else-bulk-gt-MOST_BULK-clause-cells
returns-else-bulk-gt-MOST_BULK-clause-cells c =
    inl (kept (goal.at.returns-else-bulk-gt-MOST_BULK-clause-cells c).After-set_inside)

pub returns-else-bulk-gt-MOST_BULK-clause-in_place : goal.returns-else-bulk-gt-MOST_BULK-clause-in_place
returns-else-bulk-gt-MOST_BULK-clause-in_place c = λ there few.
    kept (goal.at.returns-else-bulk-gt-MOST_BULK-clause-in_place c).After-set_inside

pub returns-in-None-clause-twelve_bytes : goal.returns-in-None-clause-twelve_bytes
returns-in-None-clause-twelve_bytes c = λ at there few. absurd (let e = c.in-None.ensures ∙ there in cc)

pub returns-else-bulk-gt-MOST_BULK-clause-twelve_bytes : goal.returns-else-bulk-gt-MOST_BULK-clause-twelve_bytes
returns-else-bulk-gt-MOST_BULK-clause-twelve_bytes c = λ at there few.
    let fields = value_fields (2147483648 + length c.args.bytes.now) (from_le_bytes w32 c.args.bytes.now) c.args.kind in
    subst (λ (a : ℕ). WritesValue c.args.self.now c.args.path.now a fields (length c.args.bytes.now)
    c.set_inside.new.self) (some_same c.in-Some.at at (c.in-Some.ensures ∙ there)) c.set_inside.ensures.written

pub returns-else-bulk-gt-MOST_BULK-clause-room : goal.returns-else-bulk-gt-MOST_BULK-clause-room
returns-else-bulk-gt-MOST_BULK-clause-room c =
    inl (kept (goal.at.returns-else-bulk-gt-MOST_BULK-clause-room c).After-set_inside)

pub returns-else-bulk-gt-MOST_BULK-clause-freed : goal.returns-else-bulk-gt-MOST_BULK-clause-freed
returns-else-bulk-gt-MOST_BULK-clause-freed c =
    inl (inside_frees c.args.self.now c.args.path.now c.args.name.now c.in-Some.at (sym c.in-Some.ensures)
    c.set_inside.new.self)

pub returns-else-bulk-gt-MOST_BULK-clause-parents : goal.returns-else-bulk-gt-MOST_BULK-clause-parents
returns-else-bulk-gt-MOST_BULK-clause-parents c =
    (kept (goal.at.returns-else-bulk-gt-MOST_BULK-clause-parents c).After-set_inside).parents
