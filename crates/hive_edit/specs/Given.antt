-- A value that is there has other data. (This project's own.)
use Rattle.std.specs.Prelude.{◌≡◌, ◌≤◌, ◌<◌, ◌+◌, ◌^◌, ℕ, false, Bool, nat_lt, if◌then◌else◌, List, length, Contains, Option, Some, None, Ok, MatchBool}
use Rattle.std.specs.Option.{option_and_then, option_map}
use Rattle.nt_bytes.specs.declared.version.HiveVersion.{HiveVersion}
use Rattle.hive_model.specs.Bins.{Bin, Cells, bins_size, look_up}
use Rattle.hive_model.specs.KeyValue.{KeyValue, is_overfull}
use Rattle.hive_model.specs.Size.{data_size}
use Rattle.hive_model.specs.Walk.{data_checks}
use Rattle.hive_model.specs.Footprint.{used_in, key_place}
use Rattle.hive_model.specs.Stands.{data_of}
use Rattle.hive_cells.specs.Held.{held_at, patched}
use Rattle.hive_cells.specs.Holes.{new_bin_size}
use Rattle.edited_cells.specs.Owned.{In}
use Rattle.edited_cells.specs.Pairs.{Pairwise}
use Rattle.hive_look.specs.Places.{value_place}
use Rattle.hive_edit.specs.Edits.{value_fields}
use Rattle.hive_edit.specs.Runs.{LacksPlace}

-- a value with other numbers
abbrev pub with_fields : KeyValue → ℕ → ℕ → ℕ → KeyValue
with_fields value size offset kind = record value { size = size; offset = offset; kind = kind }

-- how many bytes a new bin for these data has; none where the value holds them itself
abbrev pub room_for_data : HiveVersion → List ℕ → ℕ
room_for_data version bytes = if nat_lt 4 (length bytes) then new_bin_size (data_size version bytes) else 0

-- From bins to bins the value at an offset gets a type and data: its twelve bytes say them, cells that were none have them, where
-- they are over four bytes, and of the other cells only these (gone) are freed.
pub record IsGiven (version : HiveVersion) (v kind : ℕ) (bytes gone : List ℕ) (old new : List Bin) : Type 0 where
  pub size : ℕ
  pub offset : ℕ
  pub size_fits : size < 2 ^ 32
  pub offset_fits : offset < 2 ^ 32
  pub not_over : is_overfull size ≡ false
  pub here : held_at new v ≡ option_map (patched 4 (value_fields size offset kind)) (held_at old v)
  pub reads : (value : KeyValue) → data_of (look_up version new) (with_fields value size offset kind) ≡ Ok bytes
  pub fresh : (value : KeyValue) (o : ℕ) → In (used_in (data_checks (look_up version new) (with_fields value size offset kind))) o → held_at old o ≡ None
  pub once : (value : KeyValue) → Pairwise (λ p q. p ≡ q → ⊥) (used_in (data_checks (look_up version new) (with_fields value size offset kind)))
  pub freed : (o : ℕ) → Contains gone o → held_at new o ≡ None
  pub kept : (o : ℕ) (p : List ℕ) → (o ≡ v → ⊥) → (Contains gone o → ⊥) → held_at old o ≡ Some p → held_at new o ≡ Some p
  pub least : bins_size old ≤ bins_size new
  pub long : bins_size new ≤ bins_size old + room_for_data version bytes

-- the value got them, or there is no place for them, and nothing changed
abbrev pub Gives : HiveVersion → ℕ → ℕ → List ℕ → List ℕ → List Bin → List Bin → Bool → Type 0
Gives version v kind bytes gone old new done =
    MatchBool done (IsGiven version v kind bytes gone old new) ((4 < length bytes) × LacksPlace (data_size version bytes) old × (new ≡ old))

-- the offset of the value of this name in the key at a path
abbrev pub place_in : Cells → List (List ℕ) → List ℕ → ℕ → Option ℕ
place_in cells path name root = option_and_then (value_place cells name) (key_place cells path root)
