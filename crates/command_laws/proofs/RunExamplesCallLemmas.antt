-- What the contract of the call says of these words and files.
use Rattle.std.proofs.Common.{◌≡◌, ◌⊎◌, inl, inr, ℕ, true, false, List, [], Option, Some, None, refl, ap, subst, ◌∙◌}
use Rattle.std.specs.Prelude.{Result, Ok, codes}
use Rattle.std.specs.Option.{IsSome}
use Rattle.std.proofs.lemmas.Bool.{false≢true}
use Rattle.nt_bytes.specs.Reading.{◌>>=◌}
use Rattle.hive_model.specs.Image.{image_of}
use Rattle.hive_model.specs.Load.{Loads}
use Rattle.hive_cells.proofs.Again.{one_list}
use Rattle.hive_read.proofs.Loading.{one-load}
use Rattle.nt_edge.specs.Bench.{KeepsOrders}
use Rattle.nt_edge.specs.Disk.{DiskState}
use Rattle.nt_edge.specs.Host.{HostState, Files}
use Rattle.boot_ini.specs.declared.arc_path.arc.Arc.{Arc}
use Rattle.boot_ini.specs.declared.arc_path.arc.ArcFault.{ArcFault}
use Rattle.boot_ini.specs.arc_path.Reading.{word_at, number_at, item_at, kind_at, partition_at, numbers_at, directory_at, parts_at, arc_of}
use Rattle.boot_script.specs.declared.boot_script.event.Event.{Event}
use Rattle.boot_script.specs.declared.boot_script.stop.ScriptFault.{ScriptFault}
use Rattle.boot_script.specs.boot_script.Script.{script_of}
use Rattle.start_model.specs.Possible.{Woken}
use Rattle.command_words.specs.Words.{Reading, asks, run, RunAsked, usual_system}
use Rattle.command_words.specs.Reading.{reading_of}
use Rattle.command_parts.specs.declared.command_parts.refusal.Refusal.{Refusal}
use Rattle.command_parts.specs.declared.command_parts.status.Status.{Status}
use Rattle.command_parts.specs.declared.command_parts.status.Status.TheVariants as statuses
use Rattle.command_parts.specs.command_parts.Inputs.{system_in, file_in, ini_in}
use Rattle.command_parts.specs.command_parts.Leaves.{Leaves, CountsBy, stop_in}
use Rattle.command_parts.specs.command_parts.Placed.{placed_disk}
use Rattle.command_parts.specs.command_parts.Saves.{no_saves}
use Rattle.report_text.specs.declared.line_text.form.ReportForm.TheVariants.{Text}
use Rattle.command_parts.specs.declared.input_search.searching.BootFiles.{BootFiles}
use Rattle.command_parts.specs.input_search.Search.{searched}
use Rattle.ntboot_cli.specs.declared.inputs.Inputs.{Inputs}
use Rattle.ntboot_cli.specs.Answer.{RunsWhole, EndsInputs, EndsWords}
use Rattle.ntboot_cli.specs.Inputs.{events_in, inputs_in}
use Rattle.ntboot_cli.proofs.RunLemmas.{well_formed_runs}
use Rattle.command_laws.specs.run_examples.Files.{words, ini_text, made, IsReady}
use Rattle.command_laws.specs.run_examples.Runs.{system, files_of, inputs_of, SaysRun, Runs}

-- ---- what is read

abbrev asked : RunAsked
asked = record {
  hive = codes "hive";
  log = None;
  script = codes "script";
  boot_ini = Some (codes "boot.ini");
  system = usual_system;
  save_hive = None;
  save_log = None;
}

words_read : reading_of words ≡ asks (run asked) false
unfolding reading_of word_at number_at item_at kind_at partition_at numbers_at directory_at parts_at arc_of
words_read = refl

system_read : arc_of usual_system ≡ Ok system
unfolding word_at number_at item_at kind_at partition_at numbers_at directory_at parts_at arc_of
system_read = refl

-- what is read of boot.ini and of the hive, where the files are
abbrev with_boot : (ini hive : Option (List ℕ)) → Result BootFiles Refusal
with_boot ini hive = do
  ini ← ◌>>=◌ (file_in (codes "boot.ini") ini) (λ text. ini_in text usual_system)
  files ← ◌>>=◌ (file_in (codes "hive") hive) (λ primary. Ok (files_of primary))
  Ok (record { ini = ini; hive = files })

-- what is read where the events are known
abbrev with_events : List ℕ → Result (List Event) ScriptFault → Result Inputs Refusal
with_events hive events = do
  events ← events_in events
  boot ← with_boot (Some ini_text) (Some hive)
  Ok (record { system = system; ini = boot.ini; script = events; hive = boot.hive })

-- what is read where the files are
abbrev with_files : Result Arc ArcFault → (script ini hive : Option (List ℕ)) → Result Inputs Refusal
with_files arc script ini hive = do
  system ← system_in arc
  script ← file_in (codes "script") script
  events ← events_in (script_of script)
  boot ← with_boot ini hive
  Ok (record { system = system; ini = boot.ini; script = events; hive = boot.hive })

by_files : (files : Files) → inputs_in asked files
    ≡ with_files (arc_of usual_system) (files (codes "script")) (files (codes "boot.ini")) (files (codes "hive"))
unfolding searched
by_files files = refl

by_events : (hive script : List ℕ)
    → with_files (Ok system) (Some script) (Some ini_text) (Some hive) ≡ with_events hive (script_of script)
by_events hive script = refl

inputs_read : (hive script : List ℕ) (events : List Event) (host : HostState) → IsReady hive script host
    → script_of script ≡ Ok events → inputs_in asked host.files ≡ Ok (inputs_of events hive)
inputs_read hive script events host ready is =
    by_files host.files
    ∙ (λ i. with_files (system_read i) (ready.script i) (ready.ini i) (ready.hive i))
    ∙ by_events hive script
    ∙ ap (with_events hive) is

-- ---- what is answered

-- the status is no stop of a host that refuses nothing
done_or_memory : (status : Status) (old new : HostState) → old.quiet ≡ true → CountsBy (stop_in status) old new
    → (status ≡ statuses.Done) ⊎ IsSome (stop_in status) → (status ≡ statuses.Done) ⊎ (status ≡ statuses.Memory)
done_or_memory status old new quiet counts (inl done) = inl done
done_or_memory statuses.ReadFault old new quiet counts (inr stop) = absurd (counts.loud quiet)
done_or_memory statuses.WriteFault old new quiet counts (inr stop) = absurd (counts.loud quiet)
done_or_memory statuses.Memory old new quiet counts (inr stop) = inr refl
done_or_memory statuses.Done old new quiet counts (inr stop) = inl refl
done_or_memory statuses.Usage old new quiet counts (inr stop) = absurd (false≢true stop)
done_or_memory statuses.NoFile old new quiet counts (inr stop) = absurd (false≢true stop)
done_or_memory statuses.ScriptFault old new quiet counts (inr stop) = absurd (false≢true stop)
done_or_memory statuses.BootIniFault old new quiet counts (inr stop) = absurd (false≢true stop)
done_or_memory statuses.HiveFault old new quiet counts (inr stop) = absurd (false≢true stop)
done_or_memory statuses.RegFault old new quiet counts (inr stop) = absurd (false≢true stop)
done_or_memory statuses.Found old new quiet counts (inr stop) = absurd (false≢true stop)

-- an image that loads so loads as nothing else
same_woken : (hive : List ℕ) (placed : Woken) → Loads (image_of hive []) made.state made.dirty
    → Loads (image_of hive []) placed.state placed.dirty → placed ≡ made
same_woken hive placed loads also =
    let same = one-load one_list (image_of hive []) placed.state made.state placed.dirty made.dirty also loads in
    λ i. record { state = same.0 i; dirty = same.1 i }

module _ (hive : List ℕ) (events : List Event) (disk : DiskState)
    (loads : Loads (image_of hive []) made.state made.dirty) (orders : KeepsOrders disk) where
  -- what ends as done was run
  done_run : (said : List ℕ) → EndsInputs Text (Ok (inputs_of events hive)) no_saves disk statuses.Done [] said
      → SaysRun events said
  done_run said (inl (inl (fault, is, inl ended, new))) = absurd (not_done ended.0)
    where
      not_done : statuses.Done ≡ statuses.HiveFault → ⊥
      not_done e = absurd cc
  done_run said (inl (inl (fault, is, inr ended, new))) = absurd ended
  done_run said (inl (inr (inl (placed, also, whole)))) =
      let P : Woken → Type 0 =
      λ w. RunsWhole Text (inputs_of events hive) w 0 (placed_disk (files_of hive)) disk [] said in
      record { hive = hive; disk = disk; orders = orders; whole = subst P (same_woken hive placed loads also) whole }
  done_run said (inl (inr (inr none))) = absurd (not_done none.0)
    where
      not_done : statuses.Done ≡ statuses.Memory → ⊥
      not_done e = absurd cc
  done_run said (inr none) = absurd (not_done none.0)
    where
      not_done : statuses.Done ≡ statuses.ReadFault → ⊥
      not_done e = absurd cc

  -- whatever the status is
  runs_by : (status : Status) (said : List ℕ) → (status ≡ statuses.Done) ⊎ (status ≡ statuses.Memory)
      → EndsInputs Text (Ok (inputs_of events hive)) no_saves disk status [] said → Runs events status said
  runs_by status said (inr memory) ends = inl memory
  runs_by status said (inl done) ends =
      let P : Status → Type 0 = λ s. EndsInputs Text (Ok (inputs_of events hive)) no_saves disk s [] said in
      inr (done, done_run said (subst P done ends))

-- the call on these files runs the script's events, unless there is no memory
pub ready_runs : (hive script : List ℕ) (events : List Event) (old new : HostState) (disk : DiskState) (status : Status)
    → Loads (image_of hive []) made.state made.dirty → IsReady hive script old → KeepsOrders disk
    → script_of script ≡ Ok events
    → Leaves (EndsWords (reading_of words) old.files new.files disk) status old new
    → Runs events status new.said
ready_runs hive script events old new disk status loads ready orders is leaves =
    let E : Reading → Type 0 = λ r. EndsWords r old.files new.files disk status old.said new.said in
    let F : Result Inputs Refusal → Type 0 = λ r. EndsInputs Text r no_saves disk status old.said new.said in
    let G : List ℕ → Type 0 = λ s. EndsInputs Text (Ok (inputs_of events hive)) no_saves disk status s new.said in
    let ends = subst G ready.unsaid
    (subst F (inputs_read hive script events old ready is) (subst E words_read (leaves.said ready.tells))) in
    let stops = well_formed_runs Text (inputs_of events hive) no_saves made disk status [] new.said loads ends in
    runs_by hive events disk loads orders status new.said
    (done_or_memory status old new ready.quiet leaves.counts stops) ends
