-- What is printed of the plain start: the text of its quiet run, since nothing was ordered.
use Rattle.std.proofs.Common.{◌≡◌, ◌⊎◌, inl, inr, ℕ, false, List, [], ◌∷◌, map, None, refl, ap, ◌∙◌, arith}
use Rattle.std.specs.Prelude.{Result, Ok, Err, IfOk, codes}
use Rattle.hive_model.specs.Image.{cut_orders, fault_orders}
use Rattle.nt_edge.specs.Bench.{KeepsOrders}
use Rattle.nt_edge.specs.Disk.{DiskState}
use Rattle.boot_script.specs.declared.boot_script.event.Event.{Event}
use Rattle.boot_script.specs.declared.boot_script.event.Event.TheVariants.{Boot, Go, Logon, Off}
use Rattle.boot_script.specs.boot_script.Commands.{boot_of, go_of, command_of, event_of}
use Rattle.boot_script.specs.boot_script.Script.{trimmed_event, events_from, script_of}
use Rattle.boot_script.specs.boot_script.Words.{word_at, words_within, number_from}
use Rattle.boot_machine.specs.boot_machine.Views.{event_in}
use Rattle.boot_run.specs.Choices.{choices}
use Rattle.start_model.specs.Fits.{outcomes_of}
use Rattle.kept_laws.proofs.UnorderedLemmas.{run_of-notes, grew-uncounted}
use Rattle.command_parts.specs.declared.command_parts.status.Status.{Status}
use Rattle.command_parts.specs.declared.command_parts.status.Status.TheVariants.{Done, Memory}
use Rattle.command_parts.specs.command_parts.Placed.{placed_disk}
use Rattle.command_parts.specs.command_parts.Saves.{Settles}
use Rattle.report_text.specs.line_objects.Objects.{printed_lines}
use Rattle.report_text.specs.declared.line_text.form.ReportForm.TheVariants.{Text}
use Rattle.ntboot_cli.specs.Answer.{run_in, quiet_in}
use Rattle.command_laws.specs.declared.run_examples.calling.Ran.{Ran}
use Rattle.command_laws.specs.run_examples.Files.{made}
use Rattle.command_laws.specs.run_examples.Reports.{plain_report}
use Rattle.command_laws.specs.run_examples.Runs.{files_of, inputs_of, SaysRun, Runs}
use Rattle.command_laws.proofs.Computed.{quiet_run}

-- ---- the disk that the run left, before it settled

-- it stopped at most as often as it was ordered to
pub left_keeps : (taken : ℕ) (left after : DiskState) → Settles taken left after → KeepsOrders after → KeepsOrders left
left_keeps taken left after s keeps = record {
  cuts = omega (arith, keeps.cuts, s.cuts, s.cut_calls, ap cut_orders s.armings);
  faults = omega (arith, keeps.faults, s.faults, ap fault_orders s.armings);
}

-- ---- what a call says by what it ran

done_is_not_memory : (status : Status) → status ≡ Done → status ≡ Memory → ⊥
done_is_not_memory status done memory = cc

-- the script was run, of which these are the events
abbrev RunsScript : List ℕ → Ran → Type 0
RunsScript script ran = (events : List Event) → script_of script ≡ Ok events → Runs events ran.status ran.said

said_by : (P : List ℕ → Type 0) (events : List Event) → ((said : List ℕ) → SaysRun events said → P said)
    → (status : Status) (said : List ℕ) → Runs events status said → status ≡ Done → P said
said_by P events says status said (inl memory) done = absurd (done_is_not_memory status done memory)
said_by P events says status said (inr run) done = says said run.1

pub ran_said : {E : Type 0} (script : List ℕ) (P : List ℕ → Type 0) (events : List Event) → script_of script ≡ Ok events
    → ((said : List ℕ) → SaysRun events said → P said) → (r : Result Ran E) → IfOk r (RunsScript script)
    → IfOk r (λ ran. ran.status ≡ Done → P ran.said)
ran_said script P events is says (Ok ran) runs = said_by P events says ran.status ran.said (runs events is)
ran_said script P events is says (Err e) runs = tt

ended_by : (events : List Event) (status : Status) (said : List ℕ) → Runs events status said
    → (status ≡ Done) ⊎ (status ≡ Memory)
ended_by events status said (inl memory) = inr memory
ended_by events status said (inr run) = inl run.0

pub ran_ended : {E : Type 0} (script : List ℕ) (events : List Event) → script_of script ≡ Ok events
    → (r : Result Ran E) → IfOk r (RunsScript script)
    → IfOk r (λ ran. (ran.status ≡ Done) ⊎ (ran.status ≡ Memory))
ran_ended script events is (Ok ran) runs = ended_by events ran.status ran.said (runs events is)
ran_ended script events is (Err e) runs = tt

-- ---- the script of one start, and its report

abbrev pub plain_script : List ℕ
plain_script = codes "boot\ngo\nlogon\noff\n"

abbrev pub plain_events : List Event
plain_events = Boot None false ∷ Go None ∷ Logon ∷ Off ∷ []

pub plain_read : script_of plain_script ≡ Ok plain_events
unfolding trimmed_event events_from script_of word_at words_within number_from boot_of go_of command_of event_of
plain_read = refl

plain_text : (hive : List ℕ) → printed_lines Text (quiet_in (inputs_of plain_events hive) made).lines ≡ plain_report
unfolding quiet_run
plain_text hive = refl

pub plain_said : (said : List ℕ) → SaysRun plain_events said → said ≡ plain_report
plain_said said r =
    let w = r.whole in
    let inputs = inputs_of plain_events r.hive in
    let woken = w.reports.report.woken in
    let outcomes = outcomes_of w.reports.text in
    let none = run_of-notes (choices inputs.ini inputs.system) (map event_in plain_events) made woken outcomes
    (tt, (tt, (tt, (tt, tt)))) in
    let uncounted = grew-uncounted (run_in inputs made woken outcomes).notes w.reports.added
    (placed_disk (files_of r.hive)) w.left none w.reports.grew refl refl
    (left_keeps 0 w.left r.disk w.settles r.orders) in
    w.quiet (w.settles.cuts ∙ uncounted.cuts) (w.settles.faults ∙ uncounted.faults) ∙ plain_text r.hive
