-- What is done where a key's node is to tell greater lengths? (Regf format 1.3 and 1.5, key node, the bytes at 52 to 67: the greatest
-- length of a child's name, of its class, of a value's name and of its data, the first of the four fields being 0.)
use Rattle.std.specs.Prelude.{◌≡◌, ◌≤◌, ◌<◌, ◌^◌, ◌⊎◌, ℕ, ◌+◌, ◌*◌, nat_lt, if◌then◌else◌, List, Some, None}
use Rattle.std.specs.Option.{IsSomeAnd}
use Rattle.std.specs.Int.{w32, to_le_bytes}
use Rattle.nt_bytes.specs.Fields.{u32_in}
use Rattle.hive_model.specs.Bins.{Bin, bins_size, look_up}
use Rattle.hive_model.specs.Footprint.{key_place}
use Rattle.hive_cells.specs.Held.{held_at, patched}
use Rattle.hive_cells.specs.Changes.{at_cell, with_part}
use Rattle.edited_cells.specs.Greatest.{RaisesLengths}
use Rattle.hive_edit.specs.Edits.{WritesFields}
use Rattle.hive_edit.specs.Hive.{HiveCells, cells_in}
use Rattle.hive_edit.specs.Tells.{length_told}

-- where one of the four fields is in a node
abbrev pub length_place : ℕ → ℕ
length_place field = 52 + 4 * field

-- the number in a field of the node at an offset was less than this one, which was written over it; no other byte differs
pub record WritesGreater (at field number : ℕ) (old new : List Bin) : Type 0 where
  pub less : IsSomeAnd (held_at old at) (λ p. u32_in p (length_place field) < number)
  pub exact : new ≡ at_cell at (with_part (length_place field) (to_le_bytes w32 number)) old

-- the same, or nothing changed
abbrev pub WritesIfGreater : ℕ → ℕ → ℕ → List Bin → List Bin → Type 0
WritesIfGreater at field number old new = (new ≡ old) ⊎ WritesGreater at field number old new

-- a payload with a number in one of the four fields, where that is greater
abbrev pub raised : ℕ → ℕ → List ℕ → List ℕ
raised field number p =
    if nat_lt (u32_in p (length_place field)) number then patched (length_place field) (to_le_bytes w32 number) p else p

-- in a field of the node at an offset is a number that is no less than this one
pub record IsRaisedTo (at field number : ℕ) (old new : List Bin) : Type 0 where
  pub fits : number < 2 ^ 32
  pub written : WritesIfGreater at field number old new
  pub here : (p : List ℕ) → held_at old at ≡ Some p → held_at new at ≡ Some (raised field number p)
  pub others : (o : ℕ) → (o ≡ at → ⊥) → held_at new o ≡ held_at old o
  pub long : bins_size new ≡ bins_size old

-- the same of two numbers, in a field and the next
pub record AreRaisedTo (at field first second : ℕ) (old new : List Bin) : Type 0 where
  pub mid : List Bin
  pub one : IsRaisedTo at field first old mid
  pub two : IsRaisedTo at (field + 1) second mid new

-- the node at an offset records no less than two numbers, in a field and the next, and nothing else changed
pub record IsToldAt (old new : HiveCells) (x field first second : ℕ) : Type 0 where
  pub raises : RaisesLengths (cells_in old) (cells_in new) x
  pub first_told : first ≤ length_told field raises.new
  pub second_told : second ≤ length_told (field + 1) raises.new
  pub written : AreRaisedTo x field first second old.bins new.bins

-- the node of the key at a path, if there is one, records no less than two numbers, in a field and the next, and nothing else changed
pub record IsTold (old : HiveCells) (path : List (List ℕ)) (field first second : ℕ) (new : HiveCells) : Type 0 where
  pub version : new.version ≡ old.version
  pub root : new.root ≡ old.root
  pub tree : new.tree ≡ old.tree
  pub long : bins_size new.bins ≡ bins_size old.bins
  pub free : (o : ℕ) → held_at old.bins o ≡ None → held_at new.bins o ≡ None
  pub here : (x : ℕ) → key_place (cells_in old) path old.root ≡ Some x → IsToldAt old new x field first second
  pub none : key_place (cells_in old) path old.root ≡ None → new.bins ≡ old.bins

-- These fields were written over those of the value at an offset, and then, where the node of the key at a path recorded a smaller greatest
-- length of its values' data than this, that number was: no other byte differs.
pub record WritesValue (old : HiveCells) (path : List (List ℕ)) (at : ℕ) (fields : List ℕ) (size : ℕ) (new : HiveCells) : Type 0 where
  pub mid : List Bin
  pub written : WritesFields at fields old.bins mid
  pub told : (new.bins ≡ mid)
      ⊎ ((key : ℕ) × (key_place (look_up old.version mid) path old.root ≡ Some key) × WritesGreater key 3 size mid new.bins)
