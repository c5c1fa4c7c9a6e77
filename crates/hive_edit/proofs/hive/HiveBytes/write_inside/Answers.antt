use Rattle.std.proofs.Common.{ℕ, ◌+◌, ◌<◌, length, get_or, ap, subst, ◌∙◌, arith}
use Rattle.std.specs.Int.{w32, from_le_bytes}
use Rattle.hive_edit.specs.Hive.{HiveCells}
use Rattle.hive_edit.specs.Edits.{value_fields, WritesFields}
use Rattle.hive_edit.proofs.SetLemmas.{patch_room, fields_long}
use Rattle.hive_edit.proofs.InsideLemmas.{IsInsideSet, inside_set}
use Rattle.hive_edit.proofs.hive.HiveBytes.write_inside.Goals as goal
use Rattle.hive_edit.proofs.hive.HiveBytes.write_inside.Goals.{After-are_bytes}

-- the bytes are given, since only a goal tells that they fit
inside : (c : After-are_bytes) → ((k : ℕ) → get_or c.args.bytes.now k 0 < 256) → IsInsideSet c.args.self.now c.patch.new.self
    c.self.inside.root c.self.inside.version c.self.inside.bulk c.args.path.now c.args.name.now c.args.kind c.args.bytes.now
inside c small =
    let i = c.self.inside in
    inside_set i.cells c.patch.new.self i.root i.version i.bulk c.args.self.now c.args.path.now c.args.name.now c.args.kind
    c.args.bytes.now c.args.at c.self.invariant c.self.view_is c.requires.there c.requires.few small
    (omega (arith, c.ranges.kind.fits)) (rw c.inside_fields-fields.ensures at c.patch.ensures.here) c.patch.ensures.others
    c.patch.ensures.long c.are_bytes.ensures

pub patch-requires : goal.patch-requires
patch-requires c =
    let i = c.self.inside in
    patch_room i.cells i.root i.version i.bulk c.args.self.now c.args.path.now c.args.name.now c.args.at
    c.inside_fields-fields.result
    c.self.invariant c.self.view_is c.requires.there
    (ap length c.inside_fields-fields.ensures
    ∙ fields_long (2147483648 + length c.args.bytes.now) (from_le_bytes w32 c.args.bytes.now) c.args.kind)

pub invariant_of-self : goal.invariant_of-self
invariant_of-self c =
    (inside (goal.at.invariant_of-self c).After-are_bytes (λ k. omega (arith, c.type_inv.bytes k))).made.hive

pub returns-clause-stepped : goal.returns-clause-stepped
returns-clause-stepped c =
    (inside (goal.at.returns-clause-stepped c).After-are_bytes (λ k. omega (arith, c.type_inv.bytes k))).made.stepped

pub returns-clause-bulk : goal.returns-clause-bulk
returns-clause-bulk c = (inside (goal.at.returns-clause-bulk c).After-are_bytes (λ k. omega (arith, c.type_inv.bytes k))).same

pub returns-clause-written : goal.returns-clause-written
returns-clause-written c =
    let fields = value_fields (2147483648 + length c.args.bytes.now) (from_le_bytes w32 c.args.bytes.now) c.args.kind in
    subst (λ (h : HiveCells). WritesFields c.args.at fields h.bins c.patch.new.self.bins) c.self.view_is
    (record { exact = rw c.inside_fields-fields.ensures at c.patch.ensures.exact; long = c.patch.ensures.long })
