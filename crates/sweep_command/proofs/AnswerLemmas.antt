-- How `sweep` ends.
use Rattle.std.proofs.Common.{◌≡◌, inl, inr, ℕ, List, refl, sym, subst}
use Rattle.std.specs.Prelude.{Result, Ok, Err}
use Rattle.nt_bytes.specs.declared.version.HiveVersion.{HiveVersion}
use Rattle.hive_model.specs.Image.{Image}
use Rattle.hive_model.specs.Load.{state_of}
use Rattle.hive_store.specs.Checks.{JudgesAs}
use Rattle.nt_edge.specs.Disk.{new_state}
use Rattle.nt_edge.specs.Host.{HostState}
use Rattle.nt_edge.specs.declared.host.HostStop.{HostStop}
use Rattle.nt_edge.specs.declared.host.HostStop.TheVariants.{Read, Write, Memory}
use Rattle.command_parts.specs.declared.command_parts.refusal.Refusal.{Refusal}
use Rattle.command_parts.specs.declared.command_parts.refusal.Obstacle.TheVariants.{Stopped}
use Rattle.command_parts.specs.declared.command_parts.status.Status.{Status}
use Rattle.command_parts.specs.command_parts.Decides.{Decides}
use Rattle.command_parts.specs.command_parts.Leaves.{Looks, stopped_as}
use Rattle.command_parts.specs.command_parts.Refusals.{refusal_text}
use Rattle.command_parts.specs.command_parts.Saves.{no_saves}
use Rattle.command_parts.proofs.DecideLemmas.{stopped_decides}
use Rattle.command_parts.proofs.LeaveLemmas.{no_front}
use Rattle.command_words.specs.Words.{SweepAsked}
use Rattle.report_text.specs.declared.line_text.form.ReportForm.{ReportForm}
use Rattle.sweep_command.specs.declared.sweep_inputs.inputs.SweepInputs.{SweepInputs}
use Rattle.sweep_command.specs.sweep_inputs.Inputs.{inputs_in}
use Rattle.sweep_command.specs.sweep_command.Answer.{files_asked, EndsSweep, IsChecked}

-- the image loads
pub checked : (image : Image) (x : ℕ × HiveVersion) → JudgesAs image (Ok x) → IsChecked image (Ok tt)
checked image x judged = (record { state = state_of judged.0 x.0 x.1; dirty = judged.1.0 }, judged.1.1)

-- the environment stopped the search for the files
unsaid : (form : ReportForm) (wanted : Result SweepInputs Refusal) (stop : HostStop) (old new : List ℕ)
    → new ≡ old → (stop ≡ Write → ⊥)
    → EndsSweep form wanted (stopped_as stop) old new
unsaid form (Err r) Read old new same unwritten = inr same
unsaid form (Ok inputs) Read old new same unwritten = inr (inr (inr refl, same))
unsaid form wanted Write old new same unwritten = absurd (unwritten refl)
unsaid form (Err r) Memory old new same unwritten = inr (no_front (refusal_text r) old new same)
unsaid form (Ok inputs) Memory old new same unwritten = inr (inr (inl refl, same))

pub unread : (form : ReportForm) (words : SweepAsked) (stop : HostStop) (status : Status) (old new : HostState)
    → status ≡ stopped_as stop
    → Looks (inputs_in (files_asked words) old.files) (Err (Stopped stop)) old new
    → Decides (EndsSweep form (inputs_in (files_asked words) old.files)) no_saves status old new new_state
unread form words stop status old new is looks =
    let wanted = inputs_in (files_asked words) old.files in
    subst (λ (s : Status). Decides (EndsSweep form wanted) no_saves s old new new_state) (sym is)
    (stopped_decides wanted (EndsSweep form) no_saves stop old new new_state refl
    (λ o n same unwritten. unsaid form wanted stop o n same unwritten) looks)
