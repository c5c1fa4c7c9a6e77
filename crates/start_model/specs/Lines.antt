-- What does the report say, line by line? (this project's own)
--
-- Numbers are decimal, each line ends with LF, and a line begins with a word that shows what it is about.
use Rattle.std.specs.Prelude.{ℕ, ◌/◌, ◌%◌, Bool, false, List, [], ◌∷◌, ◌++◌, map, if◌then◌else◌, codes}
use Rattle.std.specs.List.{flat_map}
use Rattle.std.specs.Fmt.{decimal, digit_glyph}
use Rattle.nt_bytes.specs.Text.{is_printable}
use Rattle.report_words.specs.declared.words.CommitWord.{CommitWord}
use Rattle.report_words.specs.declared.words.CommitWord.TheVariants as commits
use Rattle.report_words.specs.declared.words.PhaseWord.{PhaseWord}
use Rattle.report_words.specs.declared.words.PhaseWord.TheVariants as phases
use Rattle.report_words.specs.declared.words.TryWord.{TryWord}
use Rattle.report_words.specs.declared.words.TryWord.TheVariants as tries
use Rattle.report_words.specs.declared.words.EventWord.{EventWord}
use Rattle.report_words.specs.declared.words.EventWord.TheVariants as events
use Rattle.report_words.specs.declared.words.RefusedWord.{RefusedWord}
use Rattle.report_words.specs.declared.words.RefusedWord.TheVariants as reasons
use Rattle.report_words.specs.declared.words.Verdict.{Verdict}
use Rattle.report_words.specs.declared.words.Verdict.TheVariants as verdicts
use Rattle.report_words.specs.declared.line.Line.{Line}
use Rattle.report_words.specs.declared.line.Line.TheVariants as lines

-- the word for what a commit wrote
abbrev pub commit_word : CommitWord → List ℕ
commit_word commits.Begin = codes "begin"
commit_word commits.Save = codes "save"
commit_word commits.Flush = codes "flush"
commit_word commits.Off = codes "off"

-- the word of a phase
abbrev pub phase_word : PhaseWord → List ℕ
phase_word phases.Boot = codes "boot"
phase_word phases.System = codes "system"
phase_word phases.Automatic = codes "automatic"
phase_word phases.Done = codes "done"

-- the words for how an attempt went
abbrev pub try_word : TryWord → List ℕ
try_word tries.Ok = codes "ok"
try_word tries.Ignored = codes "failed ignored"
try_word tries.Logged = codes "failed logged"
try_word tries.FallBack = codes "failed fall-back"
try_word tries.Stop = codes "failed stop"

-- the first word of a script's line, as text
abbrev pub event_word : EventWord → List ℕ
event_word events.Boot = codes "boot"
event_word events.Go = codes "go"
event_word events.Fail = codes "fail"
event_word events.Vital = codes "vital"
event_word events.Set = codes "set"
event_word events.Delete = codes "delete"
event_word events.Make = codes "make"
event_word events.Remove = codes "remove"
event_word events.Flush = codes "flush"
event_word events.Logon = codes "logon"
event_word events.Off = codes "off"
event_word events.Cut = codes "cut"
event_word events.Fault = codes "fault"

-- the word for why an event was refused
abbrev pub refused_word : RefusedWord → List ℕ
refused_word reasons.Off = codes "off"
refused_word reasons.Running = codes "running"
refused_word reasons.Early = codes "early"
refused_word reasons.Again = codes "again"
refused_word reasons.Idle = codes "idle"
refused_word reasons.Protected = codes "protected"
refused_word reasons.NoKey = codes "no-key"
refused_word reasons.NoValue = codes "no-value"
refused_word reasons.BadName = codes "bad-name"
refused_word reasons.NameTooLong = codes "name-too-long"
refused_word reasons.TooDeep = codes "too-deep"
refused_word reasons.DataTooLong = codes "data-too-long"
refused_word reasons.Full = codes "full"

-- the word for how a start ended
abbrev pub verdict_word : Verdict → List ℕ
verdict_word verdicts.Good = codes "good"
verdict_word verdicts.GoodUnsaved = codes "good-unsaved"
verdict_word verdicts.Running = codes "running"
verdict_word verdicts.FallBack = codes "fall-back"
verdict_word verdicts.Stopped = codes "stopped"
verdict_word verdicts.Cut = codes "cut"
verdict_word verdicts.Device = codes "device"
verdict_word verdicts.Full = codes "full"
verdict_word verdicts.NoNumber = codes "no-number"
verdict_word verdicts.NoEntry = codes "no-entry"
verdict_word verdicts.OtherLoader = codes "other-loader"
verdict_word verdicts.NoSystem = codes "no-system"
verdict_word verdicts.NoControlSet = codes "no-control-set"
verdict_word verdicts.NoLastKnownGood = codes "no-last-known-good"

-- `\u` and four lower-case hexadecimal digits
abbrev pub escaped : ℕ → List ℕ
escaped u = 92 ∷ 117 ∷ digit_glyph false (u / 4096) ∷ digit_glyph false (u / 256 % 16) ∷ digit_glyph false (u / 16 % 16) ∷ digit_glyph false (u % 16) ∷ []

-- a unit of a name: as it is where it is printable, else escaped
unfoldable pub unit_text : ℕ → List ℕ
unit_text u = if is_printable u then u ∷ [] else escaped u

-- a name, unit by unit
abbrev pub name_text : List ℕ → List ℕ
name_text units = flat_map unit_text units

-- a byte that isn't printable is a `?`
abbrev pub shown_byte : ℕ → ℕ
shown_byte c = if is_printable c then c else 63

-- a path of boot.ini, byte by byte
abbrev pub path_text : List ℕ → List ℕ
path_text path = map shown_byte path

-- `recovered` where the log had to be taken, else `clean`
abbrev pub load_word : Bool → List ℕ
load_word recovered = if recovered then codes "recovered" else codes "clean"

-- `last-known-good` where the start is on it, else `default`
abbrev pub set_word : Bool → List ℕ
set_word on_good = if on_good then codes "last-known-good" else codes "default"

-- `full` where the hive would be too large, else `no-number`
abbrev pub save_word : Bool → List ℕ
save_word full = if full then codes "full" else codes "no-number"

-- the text of a line, LF at its end
unfoldable pub line_text : Line → List ℕ
line_text (lines.Start number) = codes "start " ++ decimal number ++ codes "\n"
line_text (lines.Entry number path) = codes "entry " ++ decimal number ++ codes " " ++ path_text path ++ codes "\n"
line_text (lines.Load sequence recovered) = codes "load " ++ decimal sequence ++ codes " " ++ load_word recovered ++ codes "\n"
line_text (lines.Set number on_good) = codes "set " ++ decimal number ++ codes " " ++ set_word on_good ++ codes "\n"
line_text (lines.Commit what sequence) = codes "commit " ++ commit_word what ++ codes " " ++ decimal sequence ++ codes "\n"
line_text (lines.Select current default failed good) =
    codes "select " ++ decimal current ++ codes " " ++ decimal default ++ codes " " ++ decimal failed ++ codes " " ++ decimal good ++ codes "\n"
line_text (lines.Phase word) = codes "phase " ++ phase_word word ++ codes "\n"
line_text (lines.Try name outcome) = codes "try " ++ name_text name ++ codes " " ++ try_word outcome ++ codes "\n"
line_text (lines.Unmet name) = codes "unmet " ++ name_text name ++ codes "\n"
line_text (lines.Vital name) = codes "vital " ++ name_text name ++ codes " missing\n"
line_text lines.Logon = codes "logon\n"
line_text (lines.SaveRefused full) = codes "save refused " ++ save_word full ++ codes "\n"
line_text lines.EditOk = codes "edit ok\n"
line_text lines.FlushNothing = codes "flush nothing\n"
line_text (lines.Refused event why) = codes "refused " ++ event_word event ++ codes " " ++ refused_word why ++ codes "\n"
line_text (lines.Verdict word) = codes "verdict " ++ verdict_word word ++ codes "\n"
line_text lines.End = codes "end\n"

-- the text of a report
abbrev pub text_of : List Line → List ℕ
text_of lines = flat_map line_text lines
