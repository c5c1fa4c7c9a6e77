-- Which calls of a disk were made? (This project's own.)
--
-- A disk may keep its calls, count them or forget them. What it prints of them is a set of lists, among which
-- is the list of those that were made; each call puts itself after each list of the set. A caller that is
-- generic in the disk knows nothing else of the set, so what it prints of the lists holds of its calls.
use Rattle.std.specs.Prelude.{◌≡◌, List, ◌++◌, map, Result, Ok, Err}
use Rattle.hive_model.specs.Image.{Address, Write}

-- a call, no matter what it answered
pub data Made : Type 0 where
  ReadAt : Address → Made
  Wrote : Write → Made
  Synced : Made

-- reads of these sectors, in sequence
abbrev pub reads_of : List Address → List Made
reads_of sectors = map ReadAt sectors

-- writes of these sectors, in sequence
abbrev pub writes_of : List Write → List Made
writes_of writes = map Wrote writes

-- from the first moment to the second these calls were made, and no other
abbrev pub Makes : (List Made → Type 0) → (List Made → Type 0) → List Made → Type 0
Makes before after calls = (earlier : List Made) → before earlier → after (earlier ++ calls)

-- no call was made
abbrev pub MakesNone : (List Made → Type 0) → (List Made → Type 0) → Type 0
MakesNone before after = (earlier : List Made) → before earlier → after earlier

-- a prefix of these calls was made, and no other
pub record MakesFront (before after : List Made → Type 0) (calls : List Made) : Type 0 where
  pub front : List Made
  pub rest : List Made
  pub cut : calls ≡ front ++ rest
  pub made : Makes before after front

-- these calls were made, or up to a refusal a prefix of them
abbrev pub MakesUntil : {T E : Type 0} → (List Made → Type 0) → (List Made → Type 0) → List Made → Result T E → Type 0
MakesUntil before after calls (Ok x) = Makes before after calls
MakesUntil before after calls (Err stop) = MakesFront before after calls
