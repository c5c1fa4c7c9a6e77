-- What an edit in place keeps of the security cells, and how it writes the lists of a key (regf format 1.3 and 1.5, Key security
-- and Subkeys list; the rules are this project's own).
--
-- A security cell may serve keys that no step names, and its links name its neighbours in a ring. So an edit never frees such a
-- cell, not even where its count falls to 0: the links of its neighbours would then lead to a free cell. It never changes the links
-- of a cell that is there; a new cell names itself in both links. One key more that uses a cell raises its count by one, one key
-- less lowers it by one, and the count stops at 0 and at 4,294,967,295. A key that is made or added uses the cell of the key above
-- where that has its descriptor, and a copied key the cell of the one that it is a copy of; else a new cell is written for it.
use Rattle.std.specs.Prelude.{◌≡◌, ◌≤◌, ◌<◌, ◌⊎◌, ℕ, ◌+◌, ◌-◌, min, Bool, if◌then◌else◌, List, [], ◌∷◌, ◌++◌, length, take, drop, Contains, Ok}
use Rattle.hive_model.specs.Size.{part_count}
use Rattle.hive_model.specs.Security.{SecurityCell, security_at}
use Rattle.hive_model.specs.Lists.{ri_text}
use Rattle.hive_model.specs.Bins.{Cells}
use Rattle.hive_model.specs.Walk.{reading, all_checks}
use Rattle.hive_model.specs.Packed.{list_text}
use Rattle.hive_model.specs.Footprint.{security_used_in}

-- ---- security cells

-- the count where one key more uses the cell, or one less
abbrev pub recounted : Bool → ℕ → ℕ
recounted more uses = if more then min 4294967295 (uses + 1) else uses - 1

-- the count after keys came to use the cell or ceased to, in order
abbrev pub count_after : List Bool → ℕ → ℕ
count_after [] uses = uses
count_after (more ∷ changes) uses = count_after changes (recounted more uses)

-- The security cell at an offset is kept: it is read before and after, with the same links and descriptor, and its count is
-- that after these keys came to use it (true) or ceased to.
pub record IsKeptSecurity (before after : Cells) (changes : List Bool) (at : ℕ) : Type 0 where
  pub cell : SecurityCell
  pub was : reading security_at before at ≡ Ok cell
  pub stays : reading security_at after at ≡ Ok (record cell { uses = count_after changes cell.uses })

-- each security cell of the tree at a root is kept, whether a key still uses it or not, where these are for each offset the keys
-- that came to use the cell there or ceased to, in the order of the steps
abbrev pub KeepsSecurity : ℕ → (ℕ → List Bool) → Cells → Cells → Type 0
KeepsSecurity root changes before after =
    (at : ℕ) → Contains (security_used_in (all_checks before root)) at → IsKeptSecurity before after (changes at) at

-- ---- the lists of a key's children, wherever their cells are

-- the payload of the cell at an offset begins with this text
pub record BeginsWith (cells : Cells) (at : ℕ) (text : List ℕ) : Type 0 where
  pub rest : List ℕ
  pub payload : cells.payload at ≡ Ok (text ++ rest)

-- lists of 500 of these children and then of the rest are in the cells at these offsets
abbrev pub PartsAt : Cells → List ℕ → List ℕ → List (List ℕ) → Type 0
PartsAt cells [] places hints = Unit {0}
PartsAt cells (at ∷ lists) places hints =
    BeginsWith cells at (list_text cells.version (take 500 places) (take 500 hints)) × PartsAt cells lists (drop 500 places) (drop 500 hints)

-- the cell at an offset is a list of the same number of lists as these children fill
pub record PartedAt (cells : Cells) (at : ℕ) (places : List ℕ) (hints : List (List ℕ)) : Type 0 where
  pub many : 500 < length places
  pub lists : List ℕ
  pub number : length lists ≡ part_count (length places)
  pub whole : BeginsWith cells at (ri_text lists)
  pub parts : PartsAt cells lists places hints

-- one list of at most 500 children is in the cell at an offset
pub record SingleAt (cells : Cells) (at : ℕ) (places : List ℕ) (hints : List (List ℕ)) : Type 0 where
  pub some : 0 < length places
  pub few : length places ≤ 500
  pub whole : BeginsWith cells at (list_text cells.version places hints)

-- the list at an offset, of children at these places with these hints of their names, is as it is written: one of at most 500,
-- or a list of full ones and one of the rest
abbrev pub IsPackedList : Cells → ℕ → List ℕ → List (List ℕ) → Type 0
IsPackedList cells at places hints = SingleAt cells at places hints ⊎ PartedAt cells at places hints
