-- The text of a line of a start is one line.
use Rattle.std.proofs.Common.{◌≡◌, Bool, true, false, List, map, refl}
use Rattle.std.specs.Prelude.{codes}
use Rattle.report_words.specs.declared.words.PhaseWord.{PhaseWord}
use Rattle.report_words.specs.declared.words.Verdict.{Verdict}
use Rattle.report_words.specs.declared.words.Verdict.TheVariants as verdicts
use Rattle.report_words.specs.declared.words.PhaseWord.TheVariants as phases
use Rattle.report_words.specs.declared.words.RefusedWord.{RefusedWord}
use Rattle.report_words.specs.declared.words.EventWord.{EventWord}
use Rattle.report_words.specs.declared.words.CommitWord.{CommitWord}
use Rattle.report_words.specs.declared.words.TryWord.{TryWord}
use Rattle.report_words.specs.declared.words.TryWord.TheVariants as tries
use Rattle.report_words.specs.declared.words.CommitWord.TheVariants as commits
use Rattle.report_words.specs.declared.words.EventWord.TheVariants as events
use Rattle.report_words.specs.declared.words.RefusedWord.TheVariants as reasons
use Rattle.report_words.specs.declared.line.Line.{Line}
use Rattle.report_words.specs.declared.line.Line.TheVariants as lines
use Rattle.start_model.specs.Lines.{commit_word, phase_word, try_word, event_word, refused_word, verdict_word, load_word, set_word, save_word, line_text}
use Rattle.report_laws.specs.report_json_laws.Starts.{said_of}
use Rattle.report_laws.specs.command_json_laws.Texts.{is_line, AreLines}
use Rattle.report_laws.proofs.TextParts.{has_no_end, part, number_inside, name_inside, path_inside, onto, ends, each_line}

-- ---- words

commit_inside : (w : CommitWord) → has_no_end (commit_word w) ≡ true
commit_inside commits.Begin = refl
commit_inside commits.Save = refl
commit_inside commits.Flush = refl
commit_inside commits.Off = refl

phase_inside : (w : PhaseWord) → has_no_end (phase_word w) ≡ true
phase_inside phases.Boot = refl
phase_inside phases.System = refl
phase_inside phases.Automatic = refl
phase_inside phases.Done = refl

try_inside : (w : TryWord) → has_no_end (try_word w) ≡ true
try_inside tries.Ok = refl
try_inside tries.Ignored = refl
try_inside tries.Logged = refl
try_inside tries.FallBack = refl
try_inside tries.Stop = refl

event_inside : (w : EventWord) → has_no_end (event_word w) ≡ true
event_inside events.Boot = refl
event_inside events.Go = refl
event_inside events.Fail = refl
event_inside events.Vital = refl
event_inside events.Set = refl
event_inside events.Delete = refl
event_inside events.Make = refl
event_inside events.Remove = refl
event_inside events.Flush = refl
event_inside events.Logon = refl
event_inside events.Off = refl
event_inside events.Cut = refl
event_inside events.Fault = refl

why_inside : (w : RefusedWord) → has_no_end (refused_word w) ≡ true
why_inside reasons.Off = refl
why_inside reasons.Running = refl
why_inside reasons.Early = refl
why_inside reasons.Again = refl
why_inside reasons.Idle = refl
why_inside reasons.Protected = refl
why_inside reasons.NoKey = refl
why_inside reasons.NoValue = refl
why_inside reasons.BadName = refl
why_inside reasons.NameTooLong = refl
why_inside reasons.TooDeep = refl
why_inside reasons.DataTooLong = refl
why_inside reasons.Full = refl

pub verdict_inside : (w : Verdict) → has_no_end (verdict_word w) ≡ true
verdict_inside verdicts.Good = refl
verdict_inside verdicts.GoodUnsaved = refl
verdict_inside verdicts.Running = refl
verdict_inside verdicts.FallBack = refl
verdict_inside verdicts.Stopped = refl
verdict_inside verdicts.Cut = refl
verdict_inside verdicts.Device = refl
verdict_inside verdicts.Full = refl
verdict_inside verdicts.NoNumber = refl
verdict_inside verdicts.NoEntry = refl
verdict_inside verdicts.OtherLoader = refl
verdict_inside verdicts.NoSystem = refl
verdict_inside verdicts.NoControlSet = refl
verdict_inside verdicts.NoLastKnownGood = refl

load_inside : (b : Bool) → has_no_end (load_word b) ≡ true
load_inside true = refl
load_inside false = refl

set_inside : (b : Bool) → has_no_end (set_word b) ≡ true
set_inside true = refl
set_inside false = refl

save_inside : (b : Bool) → has_no_end (save_word b) ≡ true
save_inside true = refl
save_inside false = refl

-- ---- lines

pub start_is_line : (line : Line) → is_line (line_text line) ≡ true
unfolding line_text
start_is_line (lines.Start number) = ends (onto (part (codes "start ") refl) (number_inside number)) (codes "\n") refl
start_is_line (lines.Entry number path) =
    ends (onto (onto (onto (part (codes "entry ") refl) (number_inside number)) (part (codes " ") refl)) (path_inside path)) (codes "\n") refl
start_is_line (lines.Load sequence recovered) =
    ends (onto (onto (onto (part (codes "load ") refl) (number_inside sequence)) (part (codes " ") refl))
    (part (load_word recovered) (load_inside recovered))) (codes "\n") refl
start_is_line (lines.Set number on_good) =
    ends (onto (onto (onto (part (codes "set ") refl) (number_inside number)) (part (codes " ") refl))
    (part (set_word on_good) (set_inside on_good))) (codes "\n") refl
start_is_line (lines.Commit what sequence) =
    ends (onto (onto (onto (part (codes "commit ") refl) (part (commit_word what) (commit_inside what))) (part (codes " ") refl))
    (number_inside sequence)) (codes "\n") refl
start_is_line (lines.Select current default failed good) =
    let two = onto (onto (onto (part (codes "select ") refl) (number_inside current)) (part (codes " ") refl)) (number_inside default) in
    let three = onto (onto two (part (codes " ") refl)) (number_inside failed) in
    ends (onto (onto three (part (codes " ") refl)) (number_inside good)) (codes "\n") refl
start_is_line (lines.Phase phase) = ends (onto (part (codes "phase ") refl) (part (phase_word phase) (phase_inside phase))) (codes "\n") refl
start_is_line (lines.Try name outcome) =
    ends (onto (onto (onto (part (codes "try ") refl) (name_inside name)) (part (codes " ") refl))
    (part (try_word outcome) (try_inside outcome))) (codes "\n") refl
start_is_line (lines.Unmet name) = ends (onto (part (codes "unmet ") refl) (name_inside name)) (codes "\n") refl
start_is_line (lines.Vital name) = ends (onto (part (codes "vital ") refl) (name_inside name)) (codes " missing\n") refl
start_is_line lines.Logon = refl
start_is_line (lines.SaveRefused full) = ends (onto (part (codes "save refused ") refl) (part (save_word full) (save_inside full))) (codes "\n") refl
start_is_line lines.EditOk = refl
start_is_line lines.FlushNothing = refl
start_is_line (lines.Refused event why) =
    ends (onto (onto (onto (part (codes "refused ") refl) (part (event_word event) (event_inside event))) (part (codes " ") refl))
    (part (refused_word why) (why_inside why))) (codes "\n") refl
start_is_line (lines.Verdict verdict) =
    ends (onto (part (codes "verdict ") refl) (part (verdict_word verdict) (verdict_inside verdict))) (codes "\n") refl
start_is_line lines.End = refl

pub starts_are_lines : (lines : List Line) → AreLines (map said_of lines)
starts_are_lines lines = each_line said_of start_is_line lines
