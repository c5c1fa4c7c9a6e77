-- What goes out of cells where a key is deleted. (This project's own; the field: regf format 1.3 and 1.5, key security.)
use Rattle.std.specs.Prelude.{◌≡◌, ◌≤◌, ◌<◌, ◌⊎◌, ◌^◌, ◌-◌, ◌==◌, ℕ, suc, Bool, true, false, if◌then◌else◌, Contains, List, [], ◌∷◌, length, Some, None, Ok}
use Rattle.std.specs.Option.{IsSome, IsSomeAnd}
use Rattle.std.specs.Int.{w32, to_le_bytes}
use Rattle.nt_bytes.specs.Fields.{u32_in}
use Rattle.nt_bytes.specs.declared.version.HiveVersion.{HiveVersion}
use Rattle.hive_model.specs.Limits.{most_bins}
use Rattle.hive_model.specs.Bins.{Bin, bins_size, look_up}
use Rattle.hive_model.specs.Security.{SecurityCell, security_at}
use Rattle.hive_model.specs.InPlace.{recounted}
use Rattle.hive_model.specs.Footprint.{list_strain_of}
use Rattle.hive_cells.specs.Held.{held_at, patched}
use Rattle.edited_cells.specs.Owned.{In}
use Rattle.edited_cells.specs.Uses.{Once}
use Rattle.key_index.specs.Lists.{children_at, hints_in, lists_at, without_child, ListsSiblings}
use Rattle.key_index.specs.Relists.{AreApart, AreFreed, AreRelisted}
use Rattle.hive_edit.specs.declared.making.Above.{Above}
use Rattle.hive_edit.specs.Making.{child_fields, IsWritten}

-- the count in a cell of security was lowered
pub record IsLowered (at : ℕ) (old new : List Bin) : Type 0 where
  pub here : (p : List ℕ) → held_at old at ≡ Some p → held_at new at ≡ Some (patched 12 (to_le_bytes w32 (recounted false (u32_in p 12))) p)
  pub small : (p : List ℕ) → held_at old at ≡ Some p → recounted false (u32_in p 12) < 2 ^ 32
  pub others : (o : ℕ) → (o ≡ at → ⊥) → held_at new o ≡ held_at old o
  pub long : bins_size new ≡ bins_size old

-- it is a use of this cell as security
abbrev pub is_secured : ℕ → ℕ × Bool → Bool
is_secured o u = if u.1 then u.0 == o else false

-- how many of these uses are of a cell as security
abbrev pub times : ℕ → List (ℕ × Bool) → ℕ
times o [] = 0
times o (u ∷ us) = if is_secured o u then suc (times o us) else times o us

-- a payload is that of a cell of security as it was, but for its count, which is lower by that many, or 0
pub record IsRecounted (fewer : ℕ) (p q : List ℕ) : Type 0 where
  pub long : length q ≡ length p
  pub says : (s : SecurityCell) → security_at p ≡ Ok s → security_at q ≡ Ok (record s { uses = s.uses - fewer })

-- cells that can be dropped one by one: each is allocated, and none is used twice but as security
pub record CanDrop (bins : List Bin) (uses : List (ℕ × Bool)) : Type 0 where
  pub once : Once uses
  pub held : (o : ℕ) → In uses (o, false) → IsSome (held_at bins o)
  pub secure : (o : ℕ) → In uses (o, true) → IsSomeAnd (held_at bins o) (λ p. 20 ≤ length p)

-- Of these cells the first are dropped: they are gone, or of security and count one use less for each; each other cell is as it was.
pub record AreDropped (uses first : List (ℕ × Bool)) (old new : List Bin) : Type 0 where
  pub freed : (o : ℕ) → In first (o, false) → held_at new o ≡ None
  pub counted : (o : ℕ) (p : List ℕ) → In uses (o, true) → held_at old o ≡ Some p → (q : List ℕ) × (held_at new o ≡ Some q) × IsRecounted (times o first) p q
  pub waiting : (o : ℕ) → In uses (o, false) → (In first (o, false) → ⊥) → held_at new o ≡ held_at old o
  pub others : (o : ℕ) → ((s : Bool) → In uses (o, s) → ⊥) → held_at new o ≡ held_at old o
  pub long : bins_size new ≡ bins_size old

-- the children of a parent without one
abbrev pub left_children : HiveVersion → Above → ℕ → List Bin → List ℕ
left_children version above child bins = without_child child (children_at (look_up version bins) above.list above.count)

-- the lists of a parent are rewritten without a child, and begin here; or none is left, and so no list
abbrev pub AreShortened : HiveVersion → Above → ℕ → List Bin → List Bin → ℕ → Type 0
AreShortened version above child old new list =
    ((0 < length (left_children version above child old))
    × AreRelisted version (lists_at (look_up version old) above.list above.count) (left_children version above child old)
    (hints_in (look_up version old) (left_children version above child old)) old new list)
    ⊎ ((left_children version above child old ≡ []) × AreFreed (lists_at (look_up version old) above.list above.count) old new)

-- there is no room for lists without the child, and the cells are as they were
abbrev pub LacksRoomWithout : HiveVersion → Above → ℕ → List Bin → List Bin → Type 0
LacksRoomWithout version above child old new =
    (most_bins < list_strain_of (bins_size old) (length (left_children version above child old))) × (new ≡ old)

-- what is asked of a parent and of the cells that a child and the keys below it use: the lists are sound, and none of these cells is
-- the parent's node or one of its lists
pub record CanRemove (version : HiveVersion) (parent : ℕ) (above : Above) (uses : List (ℕ × Bool)) (bins : List Bin) : Type 0 where
  pub siblings : ListsSiblings (look_up version bins) above.list above.count
  pub apart : AreApart (lists_at (look_up version bins) above.list above.count)
  pub some : 0 < above.count
  pub parent_long : IsSomeAnd (held_at bins parent) (λ p. 76 ≤ length p)
  pub parent_apart : Contains (lists_at (look_up version bins) above.list above.count) parent → ⊥
  pub can : CanDrop bins uses
  pub no_list : (o : ℕ) (s : Bool) → In uses (o, s) → Contains (lists_at (look_up version bins) above.list above.count) o → ⊥
  pub no_parent : (o : ℕ) (s : Bool) → In uses (o, s) → o ≡ parent → ⊥

-- a child is taken out of its parent's lists, the parent's node says so, and what it and the keys below it use is dropped
pub record IsRemoved (version : HiveVersion) (parent : ℕ) (above : Above) (child : ℕ) (uses : List (ℕ × Bool)) (old new : List Bin) : Type 0 where
  pub listed : List Bin
  pub noted : List Bin
  pub list : ℕ
  pub small : list < 2 ^ 32
  pub volatile : above.volatile < 2 ^ 32
  pub lists : AreShortened version above child old listed list
  pub fields : IsWritten parent 20 (child_fields (above.count - 1) above.volatile list) listed noted
  pub dropped : AreDropped uses uses noted new
