-- A change of the default set on a disk that is on and got no order. (This project's own.)
use Rattle.std.specs.Prelude.{◌≡◌, ℕ, true, [], Option, Some, None, Result, Ok, Err}
use Rattle.std.specs.Result.{IsErr}
use Rattle.std.specs.declared.alloc.AllocError.{AllocError}
use Rattle.hive_model.specs.Image.{Image}
use Rattle.hive_model.specs.Recovery.{Recovered}
use Rattle.hive_model.specs.Tree.{Tree}
use Rattle.nt_edge.specs.Disk.{DiskState}
use Rattle.run_parts.specs.run_parts.Reports.{LeftOf}
use Rattle.hive_alt.specs.Changes.{StandsAfter}
use Rattle.hive_alt.specs.Plans.{IsFound}
use Rattle.hive_alt.specs.declared.change.Changed.{Changed}
use Rattle.hive_alt.specs.declared.change.ChangeStop.{ChangeStop}
use Rattle.hive_alt.specs.declared.change.ChangeStop.TheVariants as stops
use Rattle.hive_alt.specs.Schemes.{Standing}
use Rattle.twin_command.specs.declared.report.Told.{Told}
use Rattle.twin_command.specs.declared.report.Word.{Word}
use Rattle.twin_command.specs.declared.report.Word.TheVariants as words
use Rattle.twin_command.specs.Told.{told_of}

-- the disk is on with nothing in flight; no stop was ordered, and none came
pub record IsAwake (disk : DiskState) : Type 0 where
  pub on : disk.on ≡ true
  pub still : disk.flight ≡ []
  pub unordered : disk.history.armings ≡ []
  pub uncut : disk.history.cut_calls ≡ 0
  pub no_cuts : disk.cuts ≡ 0
  pub no_faults : disk.faults ≡ 0

-- What is reported is that of what was found on the disk, which then stands for the tree as it is to be, with nothing to repair, whatever a
-- cut leaves of it; nothing else was done to it.
pub record ToldOf (stands : Standing) (number : Option ℕ) (told : Told) (old new : DiskState) : Type 0 where
  pub found : Recovered
  pub tree : Tree
  pub is_found : IsFound stands old.held found tree
  pub is_told : told ≡ told_of number found tree
  pub stands_for : (c : Image) → LeftOf new c → StandsAfter stands found tree number c
  pub history : new.history ≡ old.history
  pub cuts : new.cuts ≡ old.cuts
  pub faults : new.faults ≡ old.faults

-- the word for a change that was done
abbrev pub done_word : Option ℕ → Option ℕ → Word
done_word None committed = words.Unasked
done_word (Some number) None = words.Nothing
done_word (Some number) (Some sequence) = words.Commit sequence

-- what is reported of an answer; lack of memory reports nothing, and nothing is printed of what never comes
abbrev pub ToldBy : Option ℕ → Result Changed ChangeStop → Result Told AllocError → Type 0
ToldBy number (Ok done) result = result ≡ Ok (record { loaded = done.loaded; mended = done.mended; word = done_word number done.committed })
ToldBy number (Err (stops.Fault fault)) result = Unit {0}
ToldBy number (Err (stops.NoSelect was mended)) result = result ≡ Ok (record { loaded = was; mended = mended; word = words.NoKey })
ToldBy number (Err (stops.Full was mended)) result = result ≡ Ok (record { loaded = was; mended = mended; word = words.Full })
ToldBy number (Err (stops.PowerLost was)) result = Unit {0}
ToldBy number (Err (stops.Device was)) result = Unit {0}
ToldBy number (Err stops.Memory) result = IsErr result
