-- What do a commit and the save of a good start do?
--
-- The clone that is saved, and when, is that of Windows Internals, 4th edition, startup; the lines and the stops are this project's own.
use Rattle.std.specs.Prelude.{Bool, true, false, if◌then◌else◌, Option, None, Some, Result, Ok, Err}
use Rattle.hive_model.specs.Tree.{Tree}
use Rattle.report_words.specs.declared.words.Verdict.TheVariants as verdicts
use Rattle.report_words.specs.declared.words.CommitWord.{CommitWord}
use Rattle.report_words.specs.declared.words.CommitWord.TheVariants as commits
use Rattle.report_words.specs.declared.line.Line.{Line}
use Rattle.report_words.specs.declared.line.Line.TheVariants.{Commit as CommitLine, Select as SelectLine, SaveRefused as SaveRefusedLine}
use Rattle.start_model.specs.Sets as sets
use Rattle.start_model.specs.Sets.{SelectNumbers, SetChange, ChangeStop, NoPlan, save_of}
use Rattle.start_model.specs.Machine.{Start, save_due, with_start}
use Rattle.start_model.specs.Possible.{settled_at, open_between, Outcome, Finished, PowerCut, DeviceFault}
use Rattle.start_model.specs.Act.{RunState, Held, Saved, Act, say, ask, mark, next_state, with_machine, end_with}

-- the commit of a tree is done
abbrev pub committed_state : RunState → Tree → RunState
committed_state m tree = record m { live = tree; sequence = (next_state m tree).sequence; changed = false; disk = settled_at (next_state m tree) }

-- the commit of a tree was stopped: the disk may load as before it or as after it
abbrev pub opened_state : RunState → Tree → RunState
opened_state m tree = record m { disk = open_between m.disk.settled (next_state m tree) }

-- the tree is committed, the line says so, and the run goes on; or the commit was stopped, and the start ends
abbrev pub committed : CommitWord → Tree → RunState → (RunState → Act) → Outcome → Act
committed what tree m next Finished = say (CommitLine what (next_state m tree).sequence) (mark (Held tree) (next (committed_state m tree)))
committed what tree m next PowerCut = end_with verdicts.Cut false (opened_state m tree)
committed what tree m next DeviceFault = end_with verdicts.Device false (opened_state m tree)

-- a commit of the tree: its outcome decides how it goes on, and until then the disk may load as before or as after
abbrev pub commit : CommitWord → Tree → RunState → (RunState → Act) → Act
commit what tree m next = ask (open_between m.disk.settled (next_state m tree)) (committed what tree m next)

-- ---- the save of a good start

-- the line of the four numbers
abbrev pub select_line : SelectNumbers → Line
select_line n = SelectLine n.current n.default n.failed n.good

-- the start's save was tried, and was done or not; its clone is given up
abbrev pub noted_saved : Bool → Start → RunState → RunState
noted_saved ok s m = with_machine (with_start (record s { saved = Some ok; clone = None }) m.machine) m

-- a line says why the save was refused, that is noted, and the run goes on
abbrev pub save_refused : Bool → Start → RunState → (RunState → Act) → Act
save_refused too_full s m next = say (SaveRefusedLine too_full) (next (noted_saved false s m))

-- the tree with the clone in it is committed, and the numbers are printed; or the save is refused, as full or for want of a
-- free number
abbrev pub saved_by : Start → Tree → RunState → (RunState → Act) → Result SetChange ChangeStop → Act
saved_by s clone m next (Ok change) =
    mark (Saved clone)
    (commit commits.Save change.tree m (λ after. say (select_line change.numbers) (next (noted_saved true s after))))
saved_by s clone m next (Err (NoPlan stop)) = save_refused false s m next
saved_by s clone m next (Err sets.Full) = save_refused true s m next

-- the clone, never the live set, is added under a free number; the live tree with all edits is committed with it
abbrev pub save : Start → Option Tree → RunState → (RunState → Act) → Act
save s None m next = next m
save s (Some clone) m next = saved_by s clone m next (save_of m.version m.live clone)

-- where the start became good just now, it is saved
abbrev pub save_where_due : Option Start → RunState → (RunState → Act) → Act
save_where_due None m next = next m
save_where_due (Some s) m next = if save_due s then save s s.clone m next else next m
