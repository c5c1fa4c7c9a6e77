-- The usual system is read.
use Rattle.std.proofs.Common.{◌≡◌, inr, None, refl, sym, subst}
use Rattle.std.specs.Prelude.{Result, Ok, Err}
use Rattle.nt_edge.specs.Disk.{DiskState, new_state}
use Rattle.nt_edge.specs.Host.{HostState}
use Rattle.nt_edge.specs.declared.host.HostStop.{HostStop}
use Rattle.nt_edge.specs.declared.host.HostStop.TheVariants.{Memory}
use Rattle.boot_ini.specs.arc_path.Reading.{word_at, number_at, item_at, kind_at, partition_at, numbers_at, directory_at, parts_at, arc_of}
use Rattle.command_words.specs.Words.{MakeAsked}
use Rattle.ntboot_cli.specs.declared.making.Usual.{Usual}
use Rattle.command_parts.specs.declared.command_parts.refusal.Refusal.{Refusal}
use Rattle.command_parts.specs.declared.command_parts.status.Status.TheVariants as statuses
use Rattle.ntboot_cli.specs.Answer.{EndsMade, MakesAlone}
use Rattle.command_parts.specs.command_parts.Leaves.{stopped_as}
use Rattle.report_text.specs.declared.line_text.form.ReportForm.{ReportForm}
use Rattle.ntboot_cli.specs.Made.{usual_in}
use Rattle.command_parts.specs.command_parts.Refusals.{refusal_text}
use Rattle.command_parts.proofs.DecideLemmas.{memory_decides, new_off}
use Rattle.command_parts.proofs.LeaveLemmas.{no_front}
use Rattle.ntboot_cli.proofs.MakeLemmas.{unmade, new_part}

abbrev WasRead : Result Usual Refusal → Type 0
WasRead (Ok u) = Unit {0}
WasRead (Err r) = ⊥

pub usual_read : WasRead usual_in
unfolding word_at number_at item_at kind_at partition_at numbers_at directory_at parts_at arc_of
usual_read = tt

was_ok : (r : Result Usual Refusal) → WasRead r → (u : Usual) × (r ≡ Ok u)
was_ok (Ok u) read = (u, refl)
was_ok (Err r) read = absurd read

pub usual_is : (u : Usual) × (usual_in ≡ Ok u)
usual_is = was_ok usual_in usual_read

not_refused : (r : Result Usual Refusal) (why : Refusal) → WasRead r → r ≡ Err why → ⊥
not_refused (Ok u) why read e = absurd cc
not_refused (Err r) why read e = read

pub never_refused : (why : Refusal) → usual_in ≡ Err why → ⊥
never_refused why e = not_refused usual_in why usual_read e

-- there was no memory to read it
unmade_by : (form : ReportForm) (wanted : Result Usual Refusal) (words : MakeAsked) (host : HostState) (disk : DiskState) → disk ≡ new_state
    → MakesAlone form wanted words statuses.Memory host host disk
unmade_by form (Ok usual) words host disk fresh =
    unmade form usual words host disk (new_off disk fresh) (new_part form usual words disk fresh)
unmade_by form (Err r) words host disk fresh =
    memory_decides (EndsMade form (Err r) words.count (record { hive = words.save_hive; log = None }) disk)
    (record { hive = words.save_hive; log = None }) host disk (new_off disk fresh)
    (inr (no_front (refusal_text r) host.said host.said refl), fresh)

pub unread_usual : (form : ReportForm) (words : MakeAsked) (stop : HostStop) (host : HostState) (disk : DiskState) → disk ≡ new_state
    → stop ≡ Memory
    → MakesAlone form usual_in words (stopped_as stop) host host disk
unread_usual form words stop host disk fresh is =
    subst (λ (s : HostStop). MakesAlone form usual_in words (stopped_as s) host host disk) (sym is)
    (unmade_by form usual_in words host disk fresh)
