-- What does an event of the script do?
--
-- The events are this project's own.
use Rattle.std.specs.Prelude.{ℕ, true, false, ◌||◌, not, if◌then◌else◌, [], ◌∷◌, Option, None, Some, Result, Ok, Err}
use Rattle.hive_model.specs.Image.{Arming, ArmedCut, ArmedFault}
use Rattle.hive_model.specs.Tree.{Tree, same_tree}
use Rattle.hive_model.specs.Edit.{Refusal, no_key, no_value, bad_name, exists, name_too_long, too_deep, data_too_long, full, edited}
use Rattle.report_words.specs.declared.words.Verdict.TheVariants as verdicts
use Rattle.report_words.specs.declared.words.RefusedWord.{RefusedWord}
use Rattle.report_words.specs.declared.words.EventWord.{EventWord}
use Rattle.report_words.specs.declared.words.CommitWord.TheVariants as commits
use Rattle.report_words.specs.declared.words.EventWord.TheVariants as events
use Rattle.report_words.specs.declared.words.RefusedWord.TheVariants as reasons
use Rattle.report_words.specs.declared.line.Line.TheVariants.{Logon as LogonLine, EditOk as EditOkLine, FlushNothing as FlushNothingLine, Refused as RefusedLine}
use Rattle.start_model.specs.Events.{Set, Delete, Make, Remove, Event, BootNow, Go, Fail, Vital, Edits, Flush, Logon, Off, CutNow, Arm, step_of}
use Rattle.start_model.specs.Machine.{Start, failing, requiring, ending_of, with_start, refusal_of}
use Rattle.start_model.specs.Act.{RunState, Ordered, Cuts, Act, done, say, ask, mark, with_machine, end_with}
use Rattle.start_model.specs.Commit.{commit, save_where_due}
use Rattle.start_model.specs.Starter.{go_act}
use Rattle.start_model.specs.Boot.{Choice, boot_act}

-- the first word of an event's line; of an ordered stop it is that of its kind
abbrev pub event_word_of : Event → EventWord
event_word_of (BootNow entry good) = events.Boot
event_word_of (Go steps) = events.Go
event_word_of (Fail name count) = events.Fail
event_word_of (Vital name) = events.Vital
event_word_of (Edits (Set path name kind bytes)) = events.Set
event_word_of (Edits (Delete path name)) = events.Delete
event_word_of (Edits (Make path)) = events.Make
event_word_of (Edits (Remove path)) = events.Remove
event_word_of Flush = events.Flush
event_word_of Logon = events.Logon
event_word_of Off = events.Off
event_word_of (CutNow keep) = events.Cut
event_word_of (Arm (ArmedCut call n keep)) = events.Cut
event_word_of (Arm (ArmedFault call n)) = events.Fault

-- the word of an edit's refusal; that a key is there already is none that an edit of a script meets
abbrev pub reason_of : Refusal → RefusedWord
reason_of no_key = reasons.NoKey
reason_of no_value = reasons.NoValue
reason_of bad_name = reasons.BadName
reason_of exists = reasons.BadName
reason_of name_too_long = reasons.NameTooLong
reason_of too_deep = reasons.TooDeep
reason_of data_too_long = reasons.DataTooLong
reason_of full = reasons.Full

-- the edited tree is the live one, and is changed where it is unlike the one before; or the refusal is printed
abbrev pub edit_done : Event → RunState → Result Tree Refusal → Act
edit_done e m (Ok tree) = say EditOkLine (done (record m { live = tree; changed = m.changed || not (same_tree m.live tree) }))
edit_done e m (Err refusal) = say (RefusedLine (event_word_of e) (reason_of refusal)) (done m)

-- a changed tree is committed; else a line says that there was nothing
abbrev pub flush_act : RunState → Act
flush_act m = if m.changed then commit commits.Flush m.live m done else say FlushNothingLine (done m)

-- a changed tree is committed, and the start ends with its verdict
abbrev pub off_act : Start → RunState → Act
off_act s m =
    if m.changed then commit commits.Off m.live m (end_with (ending_of s) false)
    else end_with (ending_of s) false m

-- the logon is printed and noted, and a start that became good by it is saved
abbrev pub logon_act : Start → RunState → Act
logon_act s m =
    let after : Start = record s { logged_on = true } in
    say LogonLine (save_where_due (Some after) (with_machine (with_start after m.machine) m) done)

-- the power is cut: one outcome is taken, no matter what it is called, and the state stays the settled one
abbrev pub cut_act : RunState → Act
cut_act m = mark Cuts (ask m.disk (λ outcome. end_with verdicts.Cut false m))

-- a stop of the disk is ordered, and nothing is printed
abbrev pub arm_act : Arming → RunState → Act
arm_act arming m = mark (Ordered arming) (done m)

-- an event that was not refused, while a start runs
abbrev pub running_act : Start → Event → RunState → Act
running_act s (BootNow entry good) m = done m
running_act s (Go steps) m = go_act steps m
running_act s (Fail name count) m = done (with_machine (failing name count m.machine) m)
running_act s (Vital name) m = done (with_machine (requiring name m.machine) m)
running_act s (Edits edit) m = edit_done (Edits edit) m (edited m.version m.live (step_of s.number edit ∷ []))
running_act s Flush m = flush_act m
running_act s Logon m = logon_act s m
running_act s Off m = off_act s m
running_act s (CutNow keep) m = cut_act m
running_act s (Arm arming) m = arm_act arming m

-- an event that was not refused, while no start runs
abbrev pub idle_act : (Option ℕ → Choice) → Event → RunState → Act
idle_act choice (BootNow entry good) m = boot_act choice entry good m
idle_act choice (Go steps) m = done m
idle_act choice (Fail name count) m = done (with_machine (failing name count m.machine) m)
idle_act choice (Vital name) m = done (with_machine (requiring name m.machine) m)
idle_act choice (Edits edit) m = done m
idle_act choice Flush m = done m
idle_act choice Logon m = done m
idle_act choice Off m = done m
idle_act choice (CutNow keep) m = done m
idle_act choice (Arm arming) m = arm_act arming m

-- an event that was not refused, with a start that runs or none
abbrev pub accepted_act : (Option ℕ → Choice) → Option Start → Event → RunState → Act
accepted_act choice None e m = idle_act choice e m
accepted_act choice (Some s) e m = running_act s e m

-- the line of a refusal, or else what the event does
abbrev pub act_unless : (Option ℕ → Choice) → Event → RunState → Option RefusedWord → Act
act_unless choice e m (Some reason) = say (RefusedLine (event_word_of e) reason) (done m)
act_unless choice e m None = accepted_act choice m.machine.start e m

-- what an event does
unfoldable pub event_step_of : (Option ℕ → Choice) → Event → RunState → Act
event_step_of choice e m = act_unless choice e m (refusal_of m.machine e)
