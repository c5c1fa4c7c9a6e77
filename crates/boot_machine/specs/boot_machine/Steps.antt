-- What are the steps of the machine, where the book has no word for them? (this project's own)
use Rattle.std.specs.Prelude.{◌≡◌, ℕ, Bool, true, false, not, [], ◌∷◌, ◌++◌, slice_get, remove, Option, Some, None, option_map, if◌then◌else◌}
use Rattle.nt_bytes.specs.Folding.{folded}
use Rattle.hive_model.specs.Tree.{Tree}
use Rattle.start_model.specs.Entries.{Entry, Phase, Boot, System, Automatic, Done}
use Rattle.report_words.specs.declared.words.Verdict.{Verdict}
use Rattle.report_words.specs.declared.words.Verdict.TheVariants as verdicts
use Rattle.start_model.specs.Machine.{Start, MachineState, next_in, label_of}
use Rattle.boot_machine.specs.boot_machine.Queue.{QueueState}

abbrev pub is_there : {X : Type 0} → Option X → Bool
is_there None = false
is_there (Some x) = true

-- the running start is changed; nothing is done where none runs
abbrev pub on_start : (Start → Start) → MachineState → MachineState
on_start change m = record m { start = option_map change m.start }

-- a start in its boot phase, whose entries these are
abbrev pub begun_on : QueueState → ℕ → Bool → Option Tree → Start
begun_on queue number on_good clone = record {
  number = number;
  on_good = on_good;
  phase = Boot;
  waiting = queue.waiting;
  tried = [];
  started = queue.started;
  logged_on = false;
  saved = None;
  clone = clone;
}

-- the start keeps no copy of the set that it began with
abbrev pub without_clone : Start → Start
without_clone s = record s { clone = None }

-- no start runs that has an entry to attempt
abbrev pub is_at_end : Option Start → Bool
is_at_end None = true
is_at_end (Some s) = not (is_there (next_in s))

-- no entries are taken after the phase
abbrev pub is_last_phase : Phase → Bool
is_last_phase Boot = false
is_last_phase System = false
is_last_phase Automatic = true
is_last_phase Done = true

-- no start runs that takes entries after its phase
abbrev pub is_in_last_phase : Option Start → Bool
is_in_last_phase None = true
is_in_last_phase (Some s) = is_last_phase s.phase

-- an attempt is noted: the name as tried, and the entry as started where it was
abbrev pub noted : Start → Entry → Bool → Start
noted s e ok = record s {
  tried = s.tried ++ folded e.name ∷ [];
  started = if ok then s.started ++ label_of e ∷ [] else s.started;
}

-- the first ready entry waits no more, and its attempt is noted
pub record AttemptsNext (old new : Start) (e : Entry) (ok : Bool) : Type 0 where
  pub place : ℕ
  pub next : next_in old ≡ Some place
  pub entry : slice_get old.waiting place ≡ Some e
  pub after : new ≡ noted (record old { waiting = remove old.waiting place }) e ok

-- the verdict after which the next start takes LastKnownGood
abbrev pub falls_back : Verdict → Bool
falls_back verdicts.Good = false
falls_back verdicts.GoodUnsaved = false
falls_back verdicts.Running = false
falls_back verdicts.FallBack = true
falls_back verdicts.Stopped = false
falls_back verdicts.Cut = false
falls_back verdicts.Device = false
falls_back verdicts.Full = false
falls_back verdicts.NoNumber = false
falls_back verdicts.NoEntry = false
falls_back verdicts.OtherLoader = false
falls_back verdicts.NoSystem = false
falls_back verdicts.NoControlSet = false
falls_back verdicts.NoLastKnownGood = false
