-- No phase that begins in a start is the end of its phases.
use Rattle.std.proofs.Common.{◌≡◌, ℕ, zero, suc, ◌==◌, not, Bool, true, false, cond, List, [], ◌∷◌, length, slice_get, Option, Some, None, refl, sym, ap, subst, ◌∙◌, inl, inr}
use Rattle.std.specs.Prelude.{Contains}
use Rattle.std.specs.Option.{option_map, option_map_or}
use Rattle.std.specs.List.{range_with_len}
use Rattle.std.proofs.lemmas.Bool.{and_parts}
use Rattle.std.proofs.lemmas.Option.{same_Some}
use Rattle.std.proofs.lemmas.List.Elements.{Contains-append_cases}
use Rattle.report_words.specs.declared.words.RefusedWord.{RefusedWord}
use Rattle.report_words.specs.declared.line.Line.{Line}
use Rattle.report_words.specs.declared.line.Line.TheVariants.{Start as StartLine}
use Rattle.start_model.specs.Entries.{Phase, Boot, System, Automatic, Done}
use Rattle.start_model.specs.Events.{Event, Go}
use Rattle.start_model.specs.Possible.{Woken, Finished}
use Rattle.start_model.specs.Machine.{Start, is_done, refusal_of}
use Rattle.start_model.specs.Act.{RunState, Act, done, say, ask, wake, mark}
use Rattle.start_model.specs.Boot.{Choice}
use Rattle.start_model.specs.Starter.{stepping, enough_steps}
use Rattle.start_model.specs.EventActs.{act_unless}
use Rattle.start_model.specs.Quiet.{quiet_wake}
use Rattle.start_model.specs.Run.{closing_act}
use Rattle.boot_machine.specs.boot_machine.Codes.{phase_number}
use Rattle.quiet_run.specs.declared.last.BegunPhase.{BegunPhase}
use Rattle.quiet_run.specs.declared.last.LastStart.{LastStart}
use Rattle.quiet_run.specs.Words.{phase_as}
use Rattle.quiet_run.specs.Watch.{Watched, seen, watch, is_new, with_phase, phase_noted, noted, stepped, steps_of, gone_unless, turned, watched_from, unplayed, quiet_run_of}
use Rattle.wait_cycles.proofs.InverseLemmas.{none_in}
use Rattle.check_laws.proofs.ProperLaws.{only_in}
use Rattle.check_laws.proofs.TakenLemmas.{item_here}
use Rattle.service_control.proofs.LeastLemmas.{from}
use Rattle.why_needs.specs.declared.why_state.views.PhaseView.{PhaseView}
use Rattle.why_needs.specs.why_state.Views.{view_of, views_of, viewed_of}
use Rattle.why_laws.specs.why_laws.States.{view_from}
use Rattle.graph_laws.specs.dot_laws.Forms.{is_drawn_in}

-- each phase that began is one of the three
record AreBegun (l : LastStart) : Type 0 where
  each : (p : BegunPhase) → Contains l.phases p → is_drawn_in (Some p.phase) ≡ true

seen_begun : (line : Line) (l : LastStart) → AreBegun l → AreBegun (seen line l)
seen_begun (StartLine number) l are = record { each = λ p c. absurd (none_in p c) }
seen_begun line l are = record { each = are.each }

watch_begun : (act : Act) (l : LastStart) → AreBegun l → AreBegun (watch act l).last
watch_begun (done m) l are = are
watch_begun (say line act) l are = watch_begun act (seen line l) (seen_begun line l are)
watch_begun (ask disk next) l are = watch_begun (next Finished) l are
watch_begun (wake disk next) l are = watch_begun (next (quiet_wake disk)) l are
watch_begun (mark note act) l are = watch_begun act l are

not_done : (phase : Phase) → not (is_done phase) ≡ true → is_drawn_in (Some (phase_as phase)) ≡ true
not_done Boot is = refl
not_done System is = refl
not_done Automatic is = refl
not_done Done is = is

phase_begun : (m : RunState) (phase : Phase) (number : ℕ) (l : LastStart) → AreBegun l
    → AreBegun (phase_noted m phase number l)
phase_begun m phase number l are = by (is_new l phase) refl
  where
    new : LastStart
    new = with_phase m phase number l

    by : (b : Bool) → is_new l phase ≡ b → AreBegun (cond b new l)
    by true is = record {
      each = λ p c. elim (Contains-append_cases l.phases _ p c) [
        | inl old ↦ are.each p old
        | inr one ↦ subst (λ (q : BegunPhase). is_drawn_in (Some q.phase) ≡ true) (only_in _ p one)
            (not_done phase (and_parts (not (is_done phase)) (length l.phases == phase_number phase) is).0)
      ];
    }
    by false is = are

noted_begun : (w : Watched) → AreBegun w.last → AreBegun (noted w).last
noted_begun w are = by w.state.machine.start
  where
    by : (o : Option Start) → AreBegun (option_map_or
        (λ (s : Start). phase_noted w.state s.phase s.number w.last) o w.last)
    by None = are
    by (Some s) = phase_begun w.state s.phase s.number w.last are

steps_begun : (n : ℕ) (w : Watched) → AreBegun w.last → AreBegun (steps_of n w).last
unfolding steps_of
steps_begun zero w are = are
steps_begun (suc n) w are =
    let act = stepping w.state.machine.start w.state done in
    steps_begun n (stepped w) (noted_begun (watch act w.last) (watch_begun act w.last are))

gone_begun : (steps : Option ℕ) (w : Watched) (why : Option RefusedWord) → AreBegun w.last
    → AreBegun (gone_unless steps w why).last
gone_begun steps w (Some reason) are = are
gone_begun (Some n) w None are = steps_begun n w are
gone_begun None w None are = steps_begun (enough_steps w.state.machine.start w.state) w are

-- an event that is not `go`
act_begun : (choice : Option ℕ → Choice) (e : Event) (w : Watched) → AreBegun w.last
    → AreBegun (noted (watch (act_unless choice e w.state (refusal_of w.state.machine e)) w.last)).last
act_begun choice e w are =
    let act = act_unless choice e w.state (refusal_of w.state.machine e) in
    noted_begun (watch act w.last) (watch_begun act w.last are)

turned_begun : (choice : Option ℕ → Choice) (e : Event) (w : Watched) → AreBegun w.last
    → AreBegun (turned choice e w).last
turned_begun choice (Go steps) w are = gone_begun steps w (refusal_of w.state.machine (Go steps)) are
turned_begun choice e w are = act_begun choice e w are

watched_begun : (choice : Option ℕ → Choice) (es : List Event) (w : Watched) → AreBegun w.last
    → AreBegun (watched_from choice es w).last
watched_begun choice [] w are = watch_begun (closing_act w.state) w.last are
watched_begun choice (e ∷ es) w are = watched_begun choice es (turned choice e w) (turned_begun choice e w are)

run_begun : (choice : Option ℕ → Choice) (script : List Event) (placed : Woken)
    → AreBegun (quiet_run_of choice script placed.state.version placed.state.tree).start
unfolding quiet_run_of
run_begun choice script placed =
    watched_begun choice script (unplayed placed.state.version placed.state.tree)
    (record { each = λ p c. absurd (none_in p c) })

-- each phase that is looked at is one of the three
pub views_begun : (choice : Option ℕ → Choice) (script : List Event) (placed : Woken) (at : ℕ) (v : PhaseView)
    → slice_get (view_from choice script placed).views at ≡ Some v → is_drawn_in (Some v.phase) ≡ true
unfolding viewed_of
views_begun choice script placed at v is =
    let look : ℕ → Option PhaseView = λ k. option_map (view_of l k) (slice_get l.phases k) in
    let f = from look (range_with_len 0 (length l.phases)) v (item_here (views_of l) at v is) in
    by f.item (slice_get l.phases f.item) refl f.is
  where
    l : LastStart
    l = (quiet_run_of choice script placed.state.version placed.state.tree).start

    by : (k : ℕ) (o : Option BegunPhase) → slice_get l.phases k ≡ o → option_map (view_of l k) o ≡ Some v
        → is_drawn_in (Some v.phase) ≡ true
    by k None at is = absurd cc
    by k (Some p) at is =
        ap (λ (x : PhaseView). is_drawn_in (Some x.phase)) (sym (same_Some (view_of l k p) v is))
        ∙ (run_begun choice script placed).each p (item_here l.phases k p at)
