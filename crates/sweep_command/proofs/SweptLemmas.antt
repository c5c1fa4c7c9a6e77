-- The report of what was played.
use Rattle.std.proofs.Common.{◌≡◌, ℕ, List, [], ◌∷◌, ◌++◌, map, Option, ap, subst, ◌∙◌}
use Rattle.std.specs.Prelude.{Result, Ok, Err, IfOk, unwrap_or}
use Rattle.std.proofs.lemmas.List.{append_assoc, map-append}
use Rattle.boot_script.specs.declared.boot_script.event.Event.{Event}
use Rattle.boot_machine.specs.boot_machine.Views.{event_in}
use Rattle.boot_run.specs.Choices.{choices}
use Rattle.command_parts.specs.command_parts.Placed.{image_in}
use Rattle.report_text.specs.declared.line_text.form.ReportForm.{ReportForm}
use Rattle.start_model.specs.Boot.{Choice}
use Rattle.start_model.specs.Events.{Event as Happening}
use Rattle.report_words.specs.declared.line.Line.{Line}
use Rattle.start_model.specs.Lines.{text_of}
use Rattle.start_model.specs.Possible.{Possible, Woken, open_between}
use Rattle.start_model.specs.Quiet.{Quiet, quiet_run_of}
use Rattle.sweep_command.specs.declared.sweep_inputs.inputs.SweepInputs.{SweepInputs}
use Rattle.sweep_text.specs.sweep_lines.Pieces.{lines_between, pieces_of}
use Rattle.sweep_text.specs.sweep_lines.Probe.{probe, tail_of}
use Rattle.sweep_text.specs.sweep_lines.Swept.{state_after, lines_after}
use Rattle.sweep_text.proofs.PieceLemmas.{found}
use Rattle.sweep_text.proofs.SweptLemmas.{before_said, whole_said, whole_state}
use Rattle.sweep_command.specs.declared.sweep_run.playing.Played.{Played}
use Rattle.sweep_command.specs.sweep_run.Played.{IsPlayed}
use Rattle.sweep_command.specs.sweep_run.Swept.{IsLogOf}
use Rattle.boot_script.specs.sweep_script.Names.{first_word}
use Rattle.sweep_text.specs.sweep_text.Logged.{logged_of}
use Rattle.sweep_text.specs.sweep_text.Report.{sweep_report, AreTexts}
use Rattle.start_model.specs.Run.{first_state}
use Rattle.run_laws.specs.last_laws.Last.{last_of}
use Rattle.sweep_command.specs.sweep_command.Answer.{probe_event, swept, ArePlayed, IsItsLog, IsSweptAs}
use Rattle.sweep_command.proofs.LastLemmas.{whole_last}

-- ---- the events as the book has them

before_in : (before : List Event) → map event_in (before ++ probe_event ∷ []) ≡ map event_in before ++ probe ∷ []
before_in before = map-append event_in before (probe_event ∷ [])

whole_in : (before : List Event) (event : Event)
    → map event_in ((before ++ event ∷ []) ++ probe_event ∷ []) ≡ map event_in before ++ event_in event ∷ probe ∷ []
whole_in before event =
    ap (map event_in) (append_assoc before (event ∷ []) (probe_event ∷ []))
    ∙ map-append event_in before (event ∷ probe_event ∷ [])

-- ---- what was printed

module _ (inputs : SweepInputs) (first second : Played) (placed : Woken)
    (without : IsPlayed (choices inputs.ini inputs.system) (image_in inputs.hive) (inputs.script.before ++ probe_event ∷ []) placed first)
    (with' : IsPlayed (choices inputs.ini inputs.system) (image_in inputs.hive) ((inputs.script.before ++ inputs.script.event ∷ []) ++ probe_event ∷ []) placed second)
  where
    abbrev choice : Option ℕ → Choice
    choice = choices inputs.ini inputs.system

    abbrev before : List Happening
    before = map event_in inputs.script.before

    abbrev run : List Happening → Quiet
    run events = quiet_run_of choice events placed

    abbrev front : List Line
    front = lines_after choice before (first_state placed)

    first_said : first.said ≡ text_of (front ++ tail_of (state_after choice before (first_state placed)).machine.start)
    first_said =
        without.said
        ∙ ap (λ (events : List Happening). text_of (run events).lines) (before_in inputs.script.before)
        ∙ ap text_of (before_said choice before placed)

    second_said : second.said ≡ text_of ((front ++ (swept inputs placed).lines) ++ tail_of (swept inputs placed).state.machine.start)
    second_said =
        with'.said
        ∙ ap (λ (events : List Happening). text_of (run events).lines) (whole_in inputs.script.before inputs.script.event)
        ∙ ap text_of (whole_said choice before (event_in inputs.script.event) placed)

    pub are_texts : AreTexts (lines_between (pieces_of first.said) (pieces_of second.said)) (swept inputs placed).lines
    are_texts =
        found front (swept inputs placed).lines
        (state_after choice before (first_state placed)).machine.start (swept inputs placed).state.machine.start
        first.said second.said first_said second_said

    pub log_left : IsLogOf (swept inputs placed).state.disk second.log
    log_left =
        let P : Possible → Type 0 = λ disk. IsLogOf disk second.log in
        subst P
        (ap (λ (events : List Happening). (run events).state.disk) (whole_in inputs.script.before inputs.script.event)
        ∙ ap (λ s. s.disk) (whole_state choice before (event_in inputs.script.event) placed))
        with'.log

    pub its_log : IsItsLog inputs placed second.log
    its_log = λ was now is.
        with'.logged was now
        (ap (λ (events : List Happening). last_of choice events placed) (whole_in inputs.script.before inputs.script.event)
        ∙ whole_last choice before (event_in inputs.script.event) placed (open_between was now) is)

-- the report is on them
pub swept_as : {E : Type 0} (form : ReportForm) (inputs : SweepInputs) (event log : List ℕ) (first second : Played)
    (r : Result (List ℕ) E)
    → event ≡ first_word inputs.script.event → log ≡ unwrap_or inputs.hive.log []
    → ArePlayed (choices inputs.ini inputs.system) inputs.hive inputs.script (first, second)
    → ((lines : List Line) → AreTexts (lines_between (pieces_of first.said) (pieces_of second.said)) lines
    → IfOk r (λ text. text ≡ sweep_report form event lines (logged_of log) (logged_of second.log)))
    → IfOk r (IsSweptAs form inputs)
swept_as form inputs event log first second (Ok text) named kept played reports = λ placed loads.
    let both = played placed loads in
    let lines = (swept inputs placed).lines in (
      second.log,
      log_left inputs first second placed both.0 both.1,
      its_log inputs first second placed both.0 both.1,
      reports lines (are_texts inputs first second placed both.0 both.1)
          ∙ ap (λ (e : List ℕ). sweep_report form e lines (logged_of log) (logged_of second.log)) named
          ∙ ap (λ (l : List ℕ). sweep_report form (first_word inputs.script.event) lines (logged_of l) (logged_of second.log)) kept,
    )
swept_as form inputs event log first second (Err e) named kept played reports = tt
