-- What remains of the cells where the lists of a key were rewritten?
use Rattle.std.specs.Prelude.{◌≡◌, ◌⊎◌, ◌≤◌, ◌<◌, ℕ, List, [], length, map, Contains, Option, Some, None, MatchOption}
use Rattle.std.specs.List.{AllPairs}
use Rattle.nt_bytes.specs.declared.version.HiveVersion.{HiveVersion}
use Rattle.hive_model.specs.Limits.{most_bins}
use Rattle.hive_model.specs.Bins.{Cell, Bin, bins_size, or_else, look_up}
use Rattle.hive_model.specs.Size.{list_size}
use Rattle.hive_model.specs.Packed.{allocated_cell, list_cells}
use Rattle.hive_model.specs.Walk.{entries_checks, AreUsedOnce}
use Rattle.hive_model.specs.Footprint.{used_in, list_strain_of}
use Rattle.hive_model.specs.Stands.{ListsAt}
use Rattle.hive_cells.specs.Held.{held_at, held_among}
use Rattle.hive_cells.specs.Holes.{IsLowestHole, NoneFits}
use Rattle.key_index.specs.declared.removal.Removal.{Removal}
use Rattle.key_index.specs.declared.removal.Removal.TheVariants as kinds

-- no two are one
abbrev pub AreApart : List ℕ → Type 0
AreApart offsets = AllPairs (λ a b. a ≡ b → ⊥) offsets

-- the cells of lists of these children in packed form, the first of them at a place
abbrev pub list_run : HiveVersion → ℕ → List ℕ → List (List ℕ) → List Cell
list_run version at offsets hints = map allocated_cell (list_cells version at offsets hints)

-- a run of that many bytes was put into the lowest free cell that had room for it, and the bins data are as long as before, or each
-- free cell was smaller
abbrev pub IsFirstFit : ℕ → List Bin → List Bin → ℕ → Type 0
IsFirstFit size old new at = (IsLowestHole size old at × (bins_size new ≡ bins_size old)) ⊎ NoneFits size old

-- The lists of these children begin here, in packed form, cell after cell, in the first free cell that had room for them, if one had.
-- The old cells of lists are gone, each other cell that was held is as it was, and nothing else is held. The lists use each cell
-- once, and none of these was held. The bins data are longer by at most the room for each list. Each cell of the lists in packed form
-- is held, and was none (run).
pub record AreRelisted (version : HiveVersion) (gone offsets : List ℕ) (hints : List (List ℕ)) (old new : List Bin) (at : ℕ) : Type 0 where
  pub lists : ListsAt (look_up version new) at offsets
  pub freed : (o : ℕ) → Contains gone o → held_at new o ≡ None
  pub kept : (o : ℕ) (p : List ℕ) → held_at old o ≡ Some p → (Contains gone o → ⊥) → held_at new o ≡ Some p
  pub others : (o : ℕ) → (Contains gone o → ⊥) → held_at new o ≡ or_else (held_among o at (list_run version at offsets hints)) (held_at old o)
  pub fresh : (o : ℕ) → Contains (used_in (entries_checks (look_up version new) at)) o → held_at old o ≡ None
  pub once : AreUsedOnce (entries_checks (look_up version new) at)
  pub long : bins_size new ≤ list_strain_of (bins_size old) (length offsets)
  pub kept_long : bins_size old ≤ bins_size new
  pub first : IsFirstFit (list_size (length offsets)) old new at
  pub run : (o : ℕ) (p : List ℕ) → held_among o at (list_run version at offsets hints) ≡ Some p → (held_at new o ≡ Some p) × (held_at old o ≡ None)

-- The lists of these children were put here, and the old ones freed.
pub record IsPut (version : HiveVersion) (gone offsets : List ℕ) (hints : List (List ℕ)) (old new : List Bin) (at : ℕ) : Type 0 where
  pub lists : ListsAt (look_up version new) at offsets
  pub freed : (o : ℕ) → Contains gone o → held_at new o ≡ None
  pub kept : (o : ℕ) (p : List ℕ) → held_at old o ≡ Some p → (Contains gone o → ⊥) → held_at new o ≡ Some p
  pub others : (o : ℕ) → (Contains gone o → ⊥) → held_at new o ≡ or_else (held_among o at (list_run version at offsets hints)) (held_at old o)
  pub fresh : (o : ℕ) → Contains (used_in (entries_checks (look_up version new) at)) o → held_at old o ≡ None
  pub once : AreUsedOnce (entries_checks (look_up version new) at)
  pub long : bins_size new ≡ bins_size old
  pub run : (o : ℕ) (p : List ℕ) → held_among o at (list_run version at offsets hints) ≡ Some p → (held_at new o ≡ Some p) × (held_at old o ≡ None)

-- the room for lists of that many children is over 16 MiB, and the cells are as they were
abbrev pub LacksRoom : ℕ → List Bin → List Bin → Type 0
LacksRoom n old new = (most_bins < list_strain_of (bins_size old) n) × (new ≡ old)

-- the lists of these children are rewritten, or there is no room for them
abbrev pub Relists : HiveVersion → List ℕ → List ℕ → List (List ℕ) → List Bin → List Bin → Option ℕ → Type 0
Relists version gone offsets hints old new r = MatchOption r (LacksRoom (length offsets) old new) (AreRelisted version gone offsets hints old new)

-- these cells are gone, and each other one is held as it was
pub record AreFreed (gone : List ℕ) (old new : List Bin) : Type 0 where
  pub freed : (o : ℕ) → Contains gone o → held_at new o ≡ None
  pub others : (o : ℕ) → (Contains gone o → ⊥) → held_at new o ≡ held_at old o
  pub long : bins_size new ≡ bins_size old

-- the lists of these children are rewritten, or there is no room for them, or, exactly where there is no child, no list is left
abbrev pub Shortens : HiveVersion → List ℕ → List ℕ → List (List ℕ) → List Bin → List Bin → Removal → Type 0
Shortens version gone offsets hints old new (kinds.List at) = (0 < length offsets) × AreRelisted version gone offsets hints old new at
Shortens version gone offsets hints old new kinds.Empty = (offsets ≡ []) × AreFreed gone old new
Shortens version gone offsets hints old new kinds.NoRoom = (0 < length offsets) × LacksRoom (length offsets) old new
