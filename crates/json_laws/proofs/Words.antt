-- The keywords of a start, back from their texts.
use Rattle.std.proofs.Common.{◌≡◌, ℕ, Bool, true, false, List, [], ◌∷◌, Option, Some, refl}
use Rattle.report_words.specs.declared.words.PhaseWord.{PhaseWord}
use Rattle.report_words.specs.declared.words.Verdict.{Verdict}
use Rattle.report_words.specs.declared.words.Verdict.TheVariants as verdict_words
use Rattle.report_words.specs.declared.words.PhaseWord.TheVariants as phase_words
use Rattle.report_words.specs.declared.words.RefusedWord.{RefusedWord}
use Rattle.report_words.specs.declared.words.EventWord.{EventWord}
use Rattle.report_words.specs.declared.words.CommitWord.{CommitWord}
use Rattle.report_words.specs.declared.words.TryWord.{TryWord}
use Rattle.report_words.specs.declared.words.TryWord.TheVariants as tries
use Rattle.report_words.specs.declared.words.CommitWord.TheVariants as commit_words
use Rattle.report_words.specs.declared.words.EventWord.TheVariants as event_words
use Rattle.report_words.specs.declared.words.RefusedWord.TheVariants as reason_words
use Rattle.start_model.specs.Lines.{commit_word, phase_word, event_word, refused_word, verdict_word, load_word, set_word, save_word}
use Rattle.report_text.specs.line_objects.Objects.{outcome_word}
use Rattle.json_laws.specs.Objects.{AreUnits}
use Rattle.json_laws.proofs.LineKinds.{pick}
use Rattle.json_laws.proofs.Units.{word_units}

abbrev pub commits : List CommitWord
commits = commit_words.Begin ∷ commit_words.Save ∷ commit_words.Flush ∷ commit_words.Off ∷ []

abbrev pub commit_from : List ℕ → Option CommitWord
commit_from word = pick commit_word commits word

pub commit_back : (x : CommitWord) → commit_from (commit_word x) ≡ Some x
commit_back commit_words.Begin = refl
commit_back commit_words.Save = refl
commit_back commit_words.Flush = refl
commit_back commit_words.Off = refl

pub commit_units : (x : CommitWord) → AreUnits (commit_word x)
commit_units commit_words.Begin = word_units (commit_word commit_words.Begin) refl
commit_units commit_words.Save = word_units (commit_word commit_words.Save) refl
commit_units commit_words.Flush = word_units (commit_word commit_words.Flush) refl
commit_units commit_words.Off = word_units (commit_word commit_words.Off) refl

abbrev pub phases : List PhaseWord
phases = phase_words.Boot ∷ phase_words.System ∷ phase_words.Automatic ∷ phase_words.Done ∷ []

abbrev pub phase_from : List ℕ → Option PhaseWord
phase_from word = pick phase_word phases word

pub phase_back : (x : PhaseWord) → phase_from (phase_word x) ≡ Some x
phase_back phase_words.Boot = refl
phase_back phase_words.System = refl
phase_back phase_words.Automatic = refl
phase_back phase_words.Done = refl

pub phase_units : (x : PhaseWord) → AreUnits (phase_word x)
phase_units phase_words.Boot = word_units (phase_word phase_words.Boot) refl
phase_units phase_words.System = word_units (phase_word phase_words.System) refl
phase_units phase_words.Automatic = word_units (phase_word phase_words.Automatic) refl
phase_units phase_words.Done = word_units (phase_word phase_words.Done) refl

abbrev pub outcomes : List TryWord
outcomes = tries.Ok ∷ tries.Ignored ∷ tries.Logged ∷ tries.FallBack ∷ tries.Stop ∷ []

abbrev pub outcome_from : List ℕ → Option TryWord
outcome_from word = pick outcome_word outcomes word

pub outcome_back : (x : TryWord) → outcome_from (outcome_word x) ≡ Some x
outcome_back tries.Ok = refl
outcome_back tries.Ignored = refl
outcome_back tries.Logged = refl
outcome_back tries.FallBack = refl
outcome_back tries.Stop = refl

pub outcome_units : (x : TryWord) → AreUnits (outcome_word x)
outcome_units tries.Ok = word_units (outcome_word tries.Ok) refl
outcome_units tries.Ignored = word_units (outcome_word tries.Ignored) refl
outcome_units tries.Logged = word_units (outcome_word tries.Logged) refl
outcome_units tries.FallBack = word_units (outcome_word tries.FallBack) refl
outcome_units tries.Stop = word_units (outcome_word tries.Stop) refl

abbrev pub events : List EventWord
events =
    event_words.Boot ∷ event_words.Go ∷ event_words.Fail ∷ event_words.Vital ∷ event_words.Set ∷ event_words.Delete ∷ event_words.Make ∷ event_words.Remove
    ∷ event_words.Flush ∷ event_words.Logon ∷ event_words.Off ∷ event_words.Cut ∷ event_words.Fault ∷ []

abbrev pub event_from : List ℕ → Option EventWord
event_from word = pick event_word events word

pub event_back : (x : EventWord) → event_from (event_word x) ≡ Some x
event_back event_words.Boot = refl
event_back event_words.Go = refl
event_back event_words.Fail = refl
event_back event_words.Vital = refl
event_back event_words.Set = refl
event_back event_words.Delete = refl
event_back event_words.Make = refl
event_back event_words.Remove = refl
event_back event_words.Flush = refl
event_back event_words.Logon = refl
event_back event_words.Off = refl
event_back event_words.Cut = refl
event_back event_words.Fault = refl

pub event_units : (x : EventWord) → AreUnits (event_word x)
event_units event_words.Boot = word_units (event_word event_words.Boot) refl
event_units event_words.Go = word_units (event_word event_words.Go) refl
event_units event_words.Fail = word_units (event_word event_words.Fail) refl
event_units event_words.Vital = word_units (event_word event_words.Vital) refl
event_units event_words.Set = word_units (event_word event_words.Set) refl
event_units event_words.Delete = word_units (event_word event_words.Delete) refl
event_units event_words.Make = word_units (event_word event_words.Make) refl
event_units event_words.Remove = word_units (event_word event_words.Remove) refl
event_units event_words.Flush = word_units (event_word event_words.Flush) refl
event_units event_words.Logon = word_units (event_word event_words.Logon) refl
event_units event_words.Off = word_units (event_word event_words.Off) refl
event_units event_words.Cut = word_units (event_word event_words.Cut) refl
event_units event_words.Fault = word_units (event_word event_words.Fault) refl

abbrev pub reasons : List RefusedWord
reasons =
    reason_words.Off ∷ reason_words.Running ∷ reason_words.Early ∷ reason_words.Again ∷ reason_words.Idle ∷ reason_words.Protected ∷ reason_words.NoKey
    ∷ reason_words.NoValue ∷ reason_words.BadName ∷ reason_words.NameTooLong ∷ reason_words.TooDeep ∷ reason_words.DataTooLong ∷ reason_words.Full ∷ []

abbrev pub why_from : List ℕ → Option RefusedWord
why_from word = pick refused_word reasons word

pub why_back : (x : RefusedWord) → why_from (refused_word x) ≡ Some x
why_back reason_words.Off = refl
why_back reason_words.Running = refl
why_back reason_words.Early = refl
why_back reason_words.Again = refl
why_back reason_words.Idle = refl
why_back reason_words.Protected = refl
why_back reason_words.NoKey = refl
why_back reason_words.NoValue = refl
why_back reason_words.BadName = refl
why_back reason_words.NameTooLong = refl
why_back reason_words.TooDeep = refl
why_back reason_words.DataTooLong = refl
why_back reason_words.Full = refl

pub why_units : (x : RefusedWord) → AreUnits (refused_word x)
why_units reason_words.Off = word_units (refused_word reason_words.Off) refl
why_units reason_words.Running = word_units (refused_word reason_words.Running) refl
why_units reason_words.Early = word_units (refused_word reason_words.Early) refl
why_units reason_words.Again = word_units (refused_word reason_words.Again) refl
why_units reason_words.Idle = word_units (refused_word reason_words.Idle) refl
why_units reason_words.Protected = word_units (refused_word reason_words.Protected) refl
why_units reason_words.NoKey = word_units (refused_word reason_words.NoKey) refl
why_units reason_words.NoValue = word_units (refused_word reason_words.NoValue) refl
why_units reason_words.BadName = word_units (refused_word reason_words.BadName) refl
why_units reason_words.NameTooLong = word_units (refused_word reason_words.NameTooLong) refl
why_units reason_words.TooDeep = word_units (refused_word reason_words.TooDeep) refl
why_units reason_words.DataTooLong = word_units (refused_word reason_words.DataTooLong) refl
why_units reason_words.Full = word_units (refused_word reason_words.Full) refl

abbrev pub verdicts : List Verdict
verdicts =
    verdict_words.Good ∷ verdict_words.GoodUnsaved ∷ verdict_words.Running ∷ verdict_words.FallBack ∷ verdict_words.Stopped ∷ verdict_words.Cut ∷ verdict_words.Device ∷ verdict_words.Full ∷ verdict_words.NoNumber ∷ verdict_words.NoEntry ∷ verdict_words.OtherLoader
    ∷ verdict_words.NoSystem ∷ verdict_words.NoControlSet ∷ verdict_words.NoLastKnownGood ∷ []

abbrev pub verdict_from : List ℕ → Option Verdict
verdict_from word = pick verdict_word verdicts word

pub verdict_back : (x : Verdict) → verdict_from (verdict_word x) ≡ Some x
verdict_back verdict_words.Good = refl
verdict_back verdict_words.GoodUnsaved = refl
verdict_back verdict_words.Running = refl
verdict_back verdict_words.FallBack = refl
verdict_back verdict_words.Stopped = refl
verdict_back verdict_words.Cut = refl
verdict_back verdict_words.Device = refl
verdict_back verdict_words.Full = refl
verdict_back verdict_words.NoNumber = refl
verdict_back verdict_words.NoEntry = refl
verdict_back verdict_words.OtherLoader = refl
verdict_back verdict_words.NoSystem = refl
verdict_back verdict_words.NoControlSet = refl
verdict_back verdict_words.NoLastKnownGood = refl

pub verdict_units : (x : Verdict) → AreUnits (verdict_word x)
verdict_units verdict_words.Good = word_units (verdict_word verdict_words.Good) refl
verdict_units verdict_words.GoodUnsaved = word_units (verdict_word verdict_words.GoodUnsaved) refl
verdict_units verdict_words.Running = word_units (verdict_word verdict_words.Running) refl
verdict_units verdict_words.FallBack = word_units (verdict_word verdict_words.FallBack) refl
verdict_units verdict_words.Stopped = word_units (verdict_word verdict_words.Stopped) refl
verdict_units verdict_words.Cut = word_units (verdict_word verdict_words.Cut) refl
verdict_units verdict_words.Device = word_units (verdict_word verdict_words.Device) refl
verdict_units verdict_words.Full = word_units (verdict_word verdict_words.Full) refl
verdict_units verdict_words.NoNumber = word_units (verdict_word verdict_words.NoNumber) refl
verdict_units verdict_words.NoEntry = word_units (verdict_word verdict_words.NoEntry) refl
verdict_units verdict_words.OtherLoader = word_units (verdict_word verdict_words.OtherLoader) refl
verdict_units verdict_words.NoSystem = word_units (verdict_word verdict_words.NoSystem) refl
verdict_units verdict_words.NoControlSet = word_units (verdict_word verdict_words.NoControlSet) refl
verdict_units verdict_words.NoLastKnownGood = word_units (verdict_word verdict_words.NoLastKnownGood) refl

-- two words for a flag
abbrev pub flags : List Bool
flags = true ∷ false ∷ []

abbrev pub flag_from : (Bool → List ℕ) → List ℕ → Option Bool
flag_from word_of word = pick word_of flags word

pub load_back : (b : Bool) → flag_from load_word (load_word b) ≡ Some b
load_back true = refl
load_back false = refl

pub load_units : (b : Bool) → AreUnits (load_word b)
load_units true = word_units (load_word true) refl
load_units false = word_units (load_word false) refl

pub set_back : (b : Bool) → flag_from set_word (set_word b) ≡ Some b
set_back true = refl
set_back false = refl

pub set_units : (b : Bool) → AreUnits (set_word b)
set_units true = word_units (set_word true) refl
set_units false = word_units (set_word false) refl

pub save_back : (b : Bool) → flag_from save_word (save_word b) ≡ Some b
save_back true = refl
save_back false = refl

pub save_units : (b : Bool) → AreUnits (save_word b)
save_units true = word_units (save_word true) refl
save_units false = word_units (save_word false) refl
