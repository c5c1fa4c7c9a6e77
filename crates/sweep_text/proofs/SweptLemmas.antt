-- The quiet run of events with the probe after them.
use Rattle.std.proofs.Common.{◌≡◌, ℕ, List, [], ◌∷◌, ◌++◌, Option, None, Some, refl, sym, ap, ◌∙◌, append_assoc}
use Rattle.report_words.specs.declared.words.EventWord.TheVariants as events
use Rattle.report_words.specs.declared.line.Line.{Line}
use Rattle.report_words.specs.declared.line.Line.TheVariants.{Refused as RefusedLine, End as EndLine}
use Rattle.start_model.specs.Events.{Event}
use Rattle.start_model.specs.Machine.{Start, refusal_in}
use Rattle.start_model.specs.Act.{RunState, say, done}
use Rattle.start_model.specs.Boot.{Choice}
use Rattle.start_model.specs.EventActs.{event_step_of, act_unless}
use Rattle.start_model.specs.Possible.{Woken}
use Rattle.start_model.specs.Quiet.{Quiet, quiet_play, quiet_behind, quiet_from, quiet_run_of}
use Rattle.start_model.specs.Run.{first_state, verdict_first}
use Rattle.sweep_text.specs.sweep_lines.Probe.{probe, probe_reason, closing_lines, tail_of}
use Rattle.sweep_text.specs.sweep_lines.Swept.{turn_of, state_after, lines_after, swept_by}

abbrev quiet : List Line → RunState → Quiet
quiet lines m = record { lines = lines; state = m }

module _ (choice : Option ℕ → Choice) where
  refused : (m : RunState) (o : Option Start)
      → quiet_play (act_unless choice probe m (refusal_in o probe)) ≡ quiet (RefusedLine events.Make (probe_reason o) ∷ []) m
  refused m None = refl
  refused m (Some s) = refl

  probe_turn : (m : RunState) → turn_of choice probe m ≡ quiet (RefusedLine events.Make (probe_reason m.machine.start) ∷ []) m
  unfolding event_step_of
  probe_turn m = refused m m.machine.start

  closed : (m : RunState) (o : Option Start) → quiet_play (verdict_first o (say EndLine (done m))) ≡ quiet (closing_lines o) m
  closed m None = refl
  closed m (Some s) = refl

  tail_run : (m : RunState) → quiet_from choice (probe ∷ []) m ≡ quiet (tail_of m.machine.start) m
  tail_run m =
      ap (λ (q : Quiet). quiet_behind q.lines (quiet_from choice [] q.state)) (probe_turn m)
      ∙ ap (quiet_behind (RefusedLine events.Make (probe_reason m.machine.start) ∷ [])) (closed m m.machine.start)

  run_append : (es rest : List Event) (m : RunState)
      → quiet_from choice (es ++ rest) m ≡ quiet_behind (lines_after choice es m) (quiet_from choice rest (state_after choice es m))
  run_append [] rest m = refl
  run_append (e ∷ es) rest m =
      let first : Quiet = turn_of choice e m in
      let q : Quiet = quiet_from choice rest (state_after choice es first.state) in
      ap (quiet_behind first.lines) (run_append es rest first.state)
      ∙ ap (λ (ls : List Line). quiet ls q.state) (sym (append_assoc first.lines (lines_after choice es first.state) q.lines))

  pub before_said : (before : List Event) (placed : Woken)
      → (quiet_run_of choice (before ++ probe ∷ []) placed).lines
      ≡ lines_after choice before (first_state placed) ++ tail_of (state_after choice before (first_state placed)).machine.start
  unfolding quiet_run_of
  before_said before placed =
      let m : RunState = first_state placed in
      ap (λ (q : Quiet). q.lines) (run_append before (probe ∷ []) m)
      ∙ ap (λ (q : Quiet). lines_after choice before m ++ q.lines) (tail_run (state_after choice before m))

  whole_run : (before : List Event) (event : Event) (m : RunState)
      → quiet_from choice (before ++ event ∷ probe ∷ []) m
      ≡ quiet (lines_after choice before m ++ ((turn_of choice event (state_after choice before m)).lines
      ++ tail_of (turn_of choice event (state_after choice before m)).state.machine.start))
      (turn_of choice event (state_after choice before m)).state
  whole_run before event m =
      let q : Quiet = turn_of choice event (state_after choice before m) in
      run_append before (event ∷ probe ∷ []) m
      ∙ ap (λ (r : Quiet). quiet_behind (lines_after choice before m) (quiet_behind q.lines r)) (tail_run q.state)

  pub whole_said : (before : List Event) (event : Event) (placed : Woken)
      → (quiet_run_of choice (before ++ event ∷ probe ∷ []) placed).lines
      ≡ (lines_after choice before (first_state placed) ++ (swept_by choice before event placed).lines)
      ++ tail_of (swept_by choice before event placed).state.machine.start
  unfolding quiet_run_of
  whole_said before event placed =
      let m : RunState = first_state placed in
      let q : Quiet = swept_by choice before event placed in
      ap (λ (r : Quiet). r.lines) (whole_run before event m)
      ∙ sym (append_assoc (lines_after choice before m) q.lines (tail_of q.state.machine.start))

  pub whole_state : (before : List Event) (event : Event) (placed : Woken)
      → (quiet_run_of choice (before ++ event ∷ probe ∷ []) placed).state ≡ (swept_by choice before event placed).state
  unfolding quiet_run_of
  whole_state before event placed = ap (λ (r : Quiet). r.state) (whole_run before event (first_state placed))
