-- Where a hive can hold the tree of a run, it can hold the sets that are noted of it.
use Rattle.std.proofs.Common.{ℕ, zero, suc, Bool, true, false, cond, List, [], ◌∷◌, length, Option, Some, None}
use Rattle.std.specs.Option.{unwrap_or, option_map_or}
use Rattle.std.proofs.lemmas.List.Elements.{All-nil, All-push}
use Rattle.nt_bytes.specs.declared.version.HiveVersion.{HiveVersion}
use Rattle.hive_model.specs.Tree.{Tree}
use Rattle.hive_model.specs.Valid.{HoldsKeys, IsValid}
use Rattle.start_model.specs.Act.{Act, done, say, ask, wake, mark}
use Rattle.start_model.specs.Boot.{Choice}
use Rattle.start_model.specs.Events.{Event, BootNow, Go, Fail, Vital, Edits, Flush, Logon, Off, CutNow, Arm}
use Rattle.start_model.specs.EventActs.{act_unless}
use Rattle.report_words.specs.declared.words.RefusedWord.{RefusedWord}
use Rattle.report_words.specs.declared.line.Line.{Line}
use Rattle.report_words.specs.declared.line.Line.TheVariants as lines
use Rattle.start_model.specs.Machine.{Start, refusal_of}
use Rattle.start_model.specs.Possible.{Finished}
use Rattle.start_model.specs.Quiet.{quiet_wake}
use Rattle.start_model.specs.Run.{closing_act}
use Rattle.start_model.specs.Sets.{is_usable, set_of}
use Rattle.start_model.specs.Starter.{live_set, no_set, stepping, enough_steps}
use Rattle.select_keys.specs.Sets.{usable_set}
use Rattle.quiet_run.specs.declared.last.BegunPhase.{BegunPhase}
use Rattle.quiet_run.specs.declared.last.LastStart.{LastStart}
use Rattle.quiet_run.specs.Play.{AreHeld}
use Rattle.quiet_run.specs.Words.{phase_as}
use Rattle.quiet_run.specs.Watch.{Watched, seen, watch, is_new, with_phase, phase_noted, noted, stepped, steps_of, gone_unless, turned, watched_from, unplayed, quiet_run_of}
use Rattle.state_laws.specs.held_laws.Sets.{ReadSetsAreHeld, LastSetIsHeld, PremiseOfStates}
use Rattle.state_laws.proofs.ActLemmas.{IsKept, Keeps, nothing_held, set_held, at_rest, step_keeps, event_keeps, closing_keeps}

-- a hive can hold the set that the phase read
abbrev IsHeldPhase : BegunPhase → Type 0
IsHeldPhase p = HoldsKeys p.set

-- a line reports no set
seen_held : (line : Line) (l : LastStart) → AreHeld l.phases → AreHeld (seen line l).phases
seen_held (lines.Start number) l h = All-nil IsHeldPhase
seen_held (lines.Entry number path) l h = h
seen_held (lines.Load sequence recovered) l h = h
seen_held (lines.Set number on_good) l h = h
seen_held (lines.Commit what sequence) l h = h
seen_held (lines.Select current default failed good) l h = h
seen_held (lines.Phase word) l h = h
seen_held (lines.Try name word) l h = h
seen_held (lines.Unmet name) l h = h
seen_held (lines.Vital name) l h = h
seen_held lines.Logon l h = h
seen_held (lines.SaveRefused full) l h = h
seen_held lines.EditOk l h = h
seen_held lines.FlushNothing l h = h
seen_held (lines.Refused event why) l h = h
seen_held (lines.Verdict word) l h = h
seen_held lines.End l h = h

-- trees and sets
abbrev AreKept : Watched → Type 0
AreKept w = IsKept w.state × AreHeld w.last.phases

watch_keeps : (a : Act) (l : LastStart) → Keeps a → AreHeld l.phases → AreKept (watch a l)
watch_keeps (done m) l k h = (k, h)
watch_keeps (say line a) l k h = watch_keeps a (seen line l) k (seen_held line l h)
watch_keeps (ask disk next) l k h = watch_keeps (next Finished) l k h
watch_keeps (wake disk next) l k h = watch_keeps (next (quiet_wake disk)) l k h
watch_keeps (mark note a) l k h = watch_keeps a l k h

noted_keeps : (w : Watched) → AreKept w → AreKept (noted w)
noted_keeps w k = (k.0, by w.state.machine.start)
  where
    by : (o : Option Start)
        → AreHeld (option_map_or (λ (s : Start). phase_noted w.state s.phase s.number w.last) o w.last).phases
    by None = k.1
    by (Some s) =
        let p : BegunPhase =
        record { phase = phase_as s.phase; set = live_set w.state s.number; from = length w.last.attempts } in
        let l : LastStart = with_phase w.state s.phase s.number w.last in
        elim (is_new w.last s.phase) as (λ b. AreHeld (cond b l w.last).phases)
        [ true ↦ All-push IsHeldPhase w.last.phases p k.1 (set_held w.state.live s.number k.0.0) | false ↦ k.1 ]

steps_keep : (n : ℕ) (w : Watched) → AreKept w → AreKept (steps_of n w)
unfolding steps_of
steps_keep zero w k = k
steps_keep (suc n) w k =
    steps_keep n (stepped w)
    (noted_keeps (watch (stepping w.state.machine.start w.state done) w.last)
    (watch_keeps (stepping w.state.machine.start w.state done) w.last (step_keeps w.state done k.0 at_rest) k.1))

go_keeps : (steps : Option ℕ) (w : Watched) (r : Option RefusedWord) → AreKept w → AreKept (gone_unless steps w r)
go_keeps steps w (Some why) k = k
go_keeps (Some n) w None k = steps_keep n w k
go_keeps None w None k = steps_keep (enough_steps w.state.machine.start w.state) w k

module _ (choice : Option ℕ → Choice) where
  act_keeps : (e : Event) (w : Watched) → AreKept w
      → AreKept (noted (watch (act_unless choice e w.state (refusal_of w.state.machine e)) w.last))
  act_keeps e w k =
      let a : Act = act_unless choice e w.state (refusal_of w.state.machine e) in
      noted_keeps (watch a w.last)
      (watch_keeps a w.last (event_keeps choice e w.state k.0 (refusal_of w.state.machine e)) k.1)

  turn_keeps : (e : Event) (w : Watched) → AreKept w → AreKept (turned choice e w)
  turn_keeps (Go steps) w k = go_keeps steps w (refusal_of w.state.machine (Go steps)) k
  turn_keeps (BootNow entry good) w k = act_keeps (BootNow entry good) w k
  turn_keeps (Fail name count) w k = act_keeps (Fail name count) w k
  turn_keeps (Vital name) w k = act_keeps (Vital name) w k
  turn_keeps (Edits edit) w k = act_keeps (Edits edit) w k
  turn_keeps Flush w k = act_keeps Flush w k
  turn_keeps Logon w k = act_keeps Logon w k
  turn_keeps Off w k = act_keeps Off w k
  turn_keeps (CutNow keep) w k = act_keeps (CutNow keep) w k
  turn_keeps (Arm arming) w k = act_keeps (Arm arming) w k

  script_keeps : (es : List Event) (w : Watched) → AreKept w → AreKept (watched_from choice es w)
  script_keeps [] w k = watch_keeps (closing_act w.state) w.last (closing_keeps w.state.machine.start w.state k.0) k.1
  script_keeps (e ∷ es) w k = script_keeps es (turned choice e w) (turn_keeps e w k)

-- the set that a start took
taken_held : (t : Tree) → IsValid t → (o : Option (ℕ × Bool))
    → HoldsKeys (option_map_or (λ (taken : ℕ × Bool). unwrap_or (usable_set t taken.0) no_set) o no_set)
taken_held t v None = nothing_held
taken_held t v (Some taken) =
    elim (is_usable t taken.0) as (λ b. HoldsKeys (unwrap_or (cond b (set_of t taken.0) None) no_set))
    [ true ↦ set_held t taken.0 v | false ↦ nothing_held ]

all_kept : (choice : Option ℕ → Choice) (script : List Event) (version : HiveVersion) (tree : Tree) → IsValid tree
    → AreKept (watched_from choice script (unplayed version tree))
all_kept choice script version tree v =
    script_keeps choice script (unplayed version tree) ((v, v, tt), All-nil IsHeldPhase)

pub read_sets_are_held : ReadSetsAreHeld
unfolding quiet_run_of
read_sets_are_held choice script version tree v = (all_kept choice script version tree v).1

pub last_set_is_held : LastSetIsHeld
unfolding quiet_run_of
last_set_is_held choice script version tree v =
    let w : Watched = watched_from choice script (unplayed version tree) in
    taken_held w.state.live (all_kept choice script version tree v).0.0 w.last.set

pub premise_of_states : PremiseOfStates
premise_of_states choice script placed v = read_sets_are_held choice script placed.state.version placed.state.tree v
