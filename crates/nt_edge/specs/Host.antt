-- What a host is at a moment: its files, and what was printed to it; and what its calls leave. (This project's own.)
use Rattle.std.specs.Prelude.{◌≡◌, ◌⊎◌, ◌≤◌, ◌+◌, ◌++◌, min, ℕ, Bool, true, List, Option, Some, if◌then◌else◌}
use Rattle.std.specs.Prelude.{bytes_eq, Result, Ok, Err, IsErrOf}
use Rattle.nt_edge.specs.declared.host.HostStop.{HostStop}
use Rattle.nt_edge.specs.declared.host.HostStop.TheVariants.{Read, Write, Memory}
use Rattle.nt_bytes.specs.Counts.{Rises}

-- a host's files: the bytes under each name that is there
abbrev pub Files : Type 0
Files = List ℕ → Option (List ℕ)

-- A host at a moment: whether it reports its files and what was printed to it; whether it refuses no call from now on
-- but for lack of memory; the files; what was printed so far; what was printed on standard error so far; how many texts were
-- to be printed on standard error; how often a file was asked for; how many faults there were in reading, and in writing a file or saying something; how many calls it refused for lack
-- of memory.
pub record HostState : Type 0 where
  pub tells : Bool
  pub quiet : Bool
  pub files : Files
  pub said : List ℕ
  pub errors : List ℕ
  pub warned : ℕ
  pub gets : ℕ
  pub reads : ℕ
  pub writes : ℕ
  pub lacks : ℕ

-- the file of that name has these bytes, and every other is as it was
abbrev pub Puts : Files → Files → List ℕ → List ℕ → Type 0
Puts old new name bytes = (q : List ℕ) → new q ≡ (if bytes_eq q name then Some bytes else old q)

-- every file but that of this name is as it was
abbrev pub KeepsOthers : Files → Files → List ℕ → Type 0
KeepsOthers old new name = (q : List ℕ) → (q ≡ name → ⊥) → new q ≡ old q

-- what was printed grew by a prefix of the text
pub record SaysFront (old new text : List ℕ) : Type 0 where
  pub front : List ℕ
  pub rest : List ℕ
  pub cut : text ≡ front ++ rest
  pub said : new ≡ old ++ front

-- a file was asked for once more, up to the end of the count
abbrev pub Asks : HostState → HostState → Type 0
Asks old new = new.gets ≡ min (old.gets + 1) 18446744073709551615

-- no file was asked for
abbrev pub AsksNone : HostState → HostState → Type 0
AsksNone old new = new.gets ≡ old.gets

-- a text was to be printed on standard error, up to the end of the count
abbrev pub Warns : HostState → HostState → Type 0
Warns old new = new.warned ≡ min (old.warned + 1) 18446744073709551615

-- whether the host reports stays, one that is quiet stays quiet, and nothing was printed on standard error, nor was to be
pub record KeepsHost (old new : HostState) : Type 0 where
  pub tells : new.tells ≡ old.tells
  pub quiet : old.quiet ≡ true → new.quiet ≡ true
  pub errors : new.errors ≡ old.errors
  pub warned : new.warned ≡ old.warned

-- where the host reports, its files are as they were
abbrev pub KeepsFiles : HostState → HostState → Type 0
KeepsFiles old new = old.tells ≡ true → new.files ≡ old.files

-- a text was printed on standard error, or could not be said there, and nothing else changed but the count of such texts
pub record SaysError (old new : HostState) (text : List ℕ) : Type 0 where
  pub errors : (new.errors ≡ old.errors ++ text) ⊎ (new.errors ≡ old.errors)
  pub same : new ≡ record old { errors = new.errors; warned = new.warned }

-- where the host reports, nothing was printed
abbrev pub IsUnsaid : HostState → HostState → Type 0
IsUnsaid old new = old.tells ≡ true → new.said ≡ old.said

-- neither count of faults changed
pub record KeepsCounts (old new : HostState) : Type 0 where
  pub reads : new.reads ≡ old.reads
  pub writes : new.writes ≡ old.writes

-- a fault in reading was counted, and no other; a quiet host has none
pub record CountsRead (old new : HostState) : Type 0 where
  pub reads : Rises old.reads new.reads
  pub writes : new.writes ≡ old.writes
  pub loud : old.quiet ≡ true → ⊥

-- a fault in writing or saying was counted, and no other; a quiet host has none
pub record CountsWrite (old new : HostState) : Type 0 where
  pub reads : new.reads ≡ old.reads
  pub writes : Rises old.writes new.writes
  pub loud : old.quiet ≡ true → ⊥

-- what a stop did to the counts of faults
abbrev pub Counts : HostState → HostState → HostStop → Type 0
Counts old new Read = CountsRead old new
Counts old new Write = CountsWrite old new
Counts old new Memory = KeepsCounts old new

-- a count rose where the answer is its own fault, and stayed with every other answer
abbrev pub CountsFault : {A : Type 0} → Result A HostStop → HostState → HostState → Type 0
CountsFault (Ok answer) old new = KeepsCounts old new
CountsFault (Err stop) old new = Counts old new stop

-- a refusal for lack of memory was counted, and no other answer was counted as one
pub record CountsLack {A : Type 0} (result : Result A HostStop) (old new : HostState) : Type 0 where
  pub memory : IsErrOf result Memory → Rises old.lacks new.lacks
  pub no_lack : (IsErrOf result Memory → ⊥) → new.lacks ≡ old.lacks

-- neither count of faults is past its end, nor is that of the refusals for lack of memory
pub record IsWithinEnds (reads writes lacks : ℕ) : Type 0 where
  pub reads_end : reads ≤ 18446744073709551615
  pub writes_end : writes ≤ 18446744073709551615
  pub lacks_end : lacks ≤ 18446744073709551615
