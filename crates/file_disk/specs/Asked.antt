-- What is an open file asked for, and what do the calls of a disk ask of its two files? (This project's own.)
--
-- As of a disk's calls (`nt_edge`, Calls), what a file says of its own is a set of lists, among which is the list of those that were made; each
-- call puts itself after each list of the set.
use Rattle.std.specs.Prelude.{◌≡◌, ◌≤◌, ◌+◌, ◌*◌, ℕ, List, [], ◌∷◌, ◌++◌, All, Result, Ok, Err}
use Rattle.hive_model.specs.Image.{File, Primary, Log, Address}
use Rattle.nt_bytes.specs.Counts.{Rises}
use Rattle.nt_edge.specs.Calls.{Made, ReadAt, Wrote, Synced}

-- a call of an open file, no matter what it answered: a read of at most that many bytes from a place on, a write of these bytes there, a sync
pub data Asked : Type 0 where
  ReadFrom : ℕ → ℕ → Asked
  WroteTo : ℕ → List ℕ → Asked
  SyncedFile : Asked

-- from the first moment to the second the file was asked for this, and for nothing else
abbrev pub Asks : (List Asked → Type 0) → (List Asked → Type 0) → List Asked → Type 0
Asks before after asked = (earlier : List Asked) → before earlier → after (earlier ++ asked)

-- a count of failures rose where the answer is an error, and stayed where it is none
abbrev pub CountsFailure : {T E : Type 0} → Result T E → ℕ → ℕ → Type 0
CountsFailure (Ok answer) before after = after ≡ before
CountsFailure (Err error) before after = Rises before after

-- a read of bytes of this sector alone
abbrev pub ReadsWithin : ℕ → Asked → Type 0
ReadsWithin sector (ReadFrom place count) = (512 * sector ≤ place) × (place + count ≤ 512 * sector + 512)
ReadsWithin sector (WroteTo place bytes) = ⊥
ReadsWithin sector SyncedFile = ⊥

-- the file was asked for bytes of this sector alone
pub record ReadsSector (sector : ℕ) (before after : List Asked → Type 0) : Type 0 where
  pub reads : List Asked
  pub within : All (ReadsWithin sector) reads
  pub asked : Asks before after reads

-- ---- a call of the disk

-- one of the two files was asked for this, and the other for nothing
abbrev pub OfFile : File → List Asked → List Asked → List Asked → Type 0
OfFile Primary asked primary log = (primary ≡ asked) × (log ≡ [])
OfFile Log asked primary log = (primary ≡ []) × (log ≡ asked)

-- the reads of a call that reads a sector
pub record ReadsOf (at : Address) (primary log : List Asked) : Type 0 where
  pub reads : List Asked
  pub within : All (ReadsWithin at.sector) reads
  pub of : OfFile at.file reads primary log

-- What a call of the disk asks of the primary and of the log: a read bytes of its sector, a write its bytes at 512 times its sector, and a sync
-- that both are synced.
abbrev pub AsksFor : Made → List Asked → List Asked → Type 0
AsksFor (ReadAt at) primary log = ReadsOf at primary log
AsksFor (Wrote (at, bytes)) primary log = OfFile at.file (WroteTo (512 * at.sector) bytes ∷ []) primary log
AsksFor Synced primary log = (primary ≡ SyncedFile ∷ []) × (log ≡ SyncedFile ∷ [])

-- since some moment these calls of the disk were made, where the two files were asked for these lists in total
pub data Told : List Made → List Asked → List Asked → Type 0 where
  begun : {primary log : List Asked} → Told [] primary log
  more : {made : List Made} {primary log : List Asked} (call : Made) (asked_primary asked_log : List Asked) → Told made primary log
      → AsksFor call asked_primary asked_log → Told (made ++ (call ∷ [])) (primary ++ asked_primary) (log ++ asked_log)

-- the calls of the disk since some moment, by what its files say of theirs
pub record DiskCalls (primary log : List Asked → Type 0) (made : List Made) : Type 0 where
  pub of_primary : List Asked
  pub of_log : List Asked
  pub primary_asked : primary of_primary
  pub log_asked : log of_log
  pub told : Told made of_primary of_log

-- with none, where each file says some list
pub no_calls : {primary log : List Asked → Type 0} → (asked : List Asked) × primary asked → (asked : List Asked) × log asked
    → (made : List Made) × DiskCalls primary log made
no_calls (p, of_p) (l, of_l) = ([], record { of_primary = p; of_log = l; primary_asked = of_p; log_asked = of_l; told = begun })
