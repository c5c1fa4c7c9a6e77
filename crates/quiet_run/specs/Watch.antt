-- What does the quiet run of a script leave of its last start? (this project's own)
--
-- The events are those of the book of startup, each wake being the settled state and each operation done. A start's lines tell all of
-- it but the sets that its phases read: those are noted after each event, and within a `go` after each step.
use Rattle.std.specs.Prelude.{ℕ, zero, suc, Bool, true, false, not, ◌&&◌, ◌==◌, List, [], ◌∷◌, ◌++◌, length, Option, None, Some, if◌then◌else◌}
use Rattle.std.specs.Option.{unwrap_or, option_map_or}
use Rattle.nt_bytes.specs.declared.version.HiveVersion.{HiveVersion}
use Rattle.hive_model.specs.Tree.{Tree}
use Rattle.report_words.specs.declared.words.RefusedWord.{RefusedWord}
use Rattle.report_words.specs.declared.line.Line.{Line}
use Rattle.report_words.specs.declared.line.Line.TheVariants as lines
use Rattle.start_model.specs.Entries.{Phase}
use Rattle.start_model.specs.Events.{Event, Go}
use Rattle.start_model.specs.Possible.{Woken, Finished}
use Rattle.start_model.specs.Machine.{Start, is_done, refusal_of}
use Rattle.start_model.specs.Act.{RunState, Act, done, say, ask, wake, mark}
use Rattle.start_model.specs.Boot.{Choice}
use Rattle.start_model.specs.Starter.{live_set, no_set, stepping, enough_steps}
use Rattle.start_model.specs.EventActs.{act_unless}
use Rattle.start_model.specs.Quiet.{quiet_wake}
use Rattle.start_model.specs.Run.{closing_act, first_state}
use Rattle.boot_machine.specs.boot_machine.Codes.{phase_number}
use Rattle.select_keys.specs.Sets.{usable_set}
use Rattle.quiet_run.specs.declared.last.LastStart.{LastStart}
use Rattle.quiet_run.specs.declared.last.QuietRun.{QuietRun}
use Rattle.quiet_run.specs.Words.{phase_as}

-- the state of the run, and what is known of its last start
pub record Watched : Type 0 where
  pub state : RunState
  pub last : LastStart

-- a start that begins, with its number; 0 before the first one
abbrev pub fresh_start : ℕ → LastStart
fresh_start number = record { number = number; set = None; phases = []; attempts = []; ended = false; missing = []; verdict = None }

-- with one more line of the run
abbrev pub seen : Line → LastStart → LastStart
seen (lines.Start number) l = fresh_start number
seen (lines.Set number on_good) l = record l { set = Some (number, on_good) }
seen (lines.Try name word) l = record l { attempts = l.attempts ++ (record { name = name; outcome = word }) ∷ [] }
seen (lines.Phase word) l = record l { ended = true }
seen (lines.Vital name) l = record l { ended = true; missing = l.missing ++ name ∷ [] }
seen (lines.Verdict word) l = record l { verdict = Some word }
seen line l = l

-- an act where each wake is the settled state and each operation is done
abbrev pub watch : Act → LastStart → Watched
watch (done m) l = record { state = m; last = l }
watch (say line act) l = watch act (seen line l)
watch (ask disk next) l = watch (next Finished) l
watch (wake disk next) l = watch (next (quiet_wake disk)) l
watch (mark note act) l = watch act l

-- ---- the sets that phases read

-- the phase is none of those that are noted
abbrev pub is_new : LastStart → Phase → Bool
is_new l phase = not (is_done phase) && (length l.phases == phase_number phase)

-- a phase that begins on the set of this number, with the set as it reads it
abbrev pub with_phase : RunState → Phase → ℕ → LastStart → LastStart
with_phase m phase number l = record l {
  phases = l.phases ++ (record { phase = phase_as phase; set = live_set m number; from = length l.attempts }) ∷ [];
  ended = false;
}

-- the same, unless the phase is noted
abbrev pub phase_noted : RunState → Phase → ℕ → LastStart → LastStart
phase_noted m phase number l = if is_new l phase then with_phase m phase number l else l

-- the phase of the start that runs is noted
abbrev pub noted : Watched → Watched
noted w = record w { last = option_map_or (λ (s : Start). phase_noted w.state s.phase s.number w.last) w.state.machine.start w.last }

-- ---- events

-- one step of the starter
abbrev pub stepped : Watched → Watched
stepped w = noted (watch (stepping w.state.machine.start w.state done) w.last)

-- that many steps
unfoldable pub steps_of : ℕ → Watched → Watched
steps_of zero w = w
steps_of (suc n) w = steps_of n (stepped w)

-- that many steps, or without a number all that there can be
abbrev pub gone : Option ℕ → Watched → Watched
gone (Some n) w = steps_of n w
gone None w = steps_of (enough_steps w.state.machine.start w.state) w

-- the same, unless it is refused
abbrev pub gone_unless : Option ℕ → Watched → Option RefusedWord → Watched
gone_unless steps w (Some reason) = w
gone_unless steps w None = gone steps w

-- an event
abbrev pub turned : (Option ℕ → Choice) → Event → Watched → Watched
turned choice (Go steps) w = gone_unless steps w (refusal_of w.state.machine (Go steps))
turned choice e w = noted (watch (act_unless choice e w.state (refusal_of w.state.machine e)) w.last)

-- the rest of a script
abbrev pub watched_from : (Option ℕ → Choice) → List Event → Watched → Watched
watched_from choice [] w = watch (closing_act w.state) w.last
watched_from choice (e ∷ es) w = watched_from choice es (turned choice e w)

-- ---- a script

-- what a hive loads as that has this tree; its sequence number and its log leave nothing in a start
abbrev pub placed_as : HiveVersion → Tree → Woken
placed_as version tree = record { state = record { tree = tree; sequence = 0; version = version }; dirty = false }

-- the set that the start took, as the live tree has it in the end
abbrev pub last_set : Watched → Tree
last_set w = option_map_or (λ (taken : ℕ × Bool). unwrap_or (usable_set w.state.live taken.0) no_set) w.last.set no_set

-- before the first event
abbrev pub unplayed : HiveVersion → Tree → Watched
unplayed version tree = record { state = first_state (placed_as version tree); last = fresh_start 0 }

-- what remains of the last start
abbrev pub left_of : Watched → QuietRun
left_of w = record { start = w.last; set = last_set w }

-- what a script leaves of its last start on a tree that a hive of this version loads as
unfoldable pub quiet_run_of : (Option ℕ → Choice) → List Event → HiveVersion → Tree → QuietRun
quiet_run_of choice script version tree = left_of (watched_from choice script (unplayed version tree))
