-- What does a repair make of a loaded hive? (This project's own.)
use Rattle.std.specs.Prelude.{◌&&◌, nat_le, nat_lt, Bool, ℕ, List, length, Option, Some, None, Result, if◌then◌else◌}
use Rattle.hive_model.specs.Edit.{most_bulk}
use Rattle.hive_model.specs.Base.{version_of}
use Rattle.hive_model.specs.Image.{Image}
use Rattle.hive_model.specs.Size.{bulk_of}
use Rattle.hive_model.specs.Packed.{packed}
use Rattle.hive_model.specs.State.{HiveState}
use Rattle.nt_edge.specs.Calls.{Made, MakesNone, MakesUntil}
use Rattle.hive_commit.specs.Calls.{change_calls}
use Rattle.hive_commit.specs.Stages.{next_number, closed_of, LoadsAsEither}
use Rattle.mend_command.specs.hive_mend.Loaded.{Loaded}

-- its tree's packed form in its version
abbrev pub packed_of : Loaded → List ℕ
packed_of h = packed (version_of h.base.minor) h.tree

-- the tree is small enough to be packed, and its packed form is shorter than the bins data
abbrev pub is_worth : Loaded → Bool
is_worth h = nat_le (bulk_of (version_of h.base.minor) h.tree) most_bulk && nat_lt (length (packed_of h)) (length h.bins)

-- what a repair writes: the packed form where that is worth while, and else nothing
abbrev pub shorter : Loaded → Option (List ℕ)
shorter h = if is_worth h then Some (packed_of h) else None

-- the hive after new bins data with their root at 32 were committed, if any were
abbrev pub mended_by : Loaded → Option (List ℕ) → Loaded
mended_by h None = h
mended_by h (Some new) = record { base = closed_of h.base new 32; bins = new; tree = h.tree }

-- the new sequence number, where new bins data were committed
abbrev pub number_by : Loaded → Option (List ℕ) → Option ℕ
number_by h None = None
number_by h (Some new) = Some (next_number h.base.first)

-- the calls of the disk: those of one change, or after a refusal a prefix of them, where new bins data are committed, and else none
abbrev pub CallsBy : {T E : Type 0} → (List Made → Type 0) → (List Made → Type 0) → Loaded → Option (List ℕ) → Result T E → Type 0
CallsBy before after h None result = MakesNone before after
CallsBy before after h (Some new) result = MakesUntil before after (change_calls h.base h.bins new 32) result

-- the same tree and version under the next number
abbrev pub next_state : HiveState → HiveState
next_state s = record s { sequence = next_number s.sequence }

-- the image loads as the state, under its number or the next one
abbrev pub LoadsAsOrNext : HiveState → Image → Type 0
LoadsAsOrNext s = LoadsAsEither s (next_state s)
