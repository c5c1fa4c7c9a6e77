-- What was saved after `import` loads as its line reports.
use Rattle.std.specs.Prelude.{IfSome}
use Rattle.std.proofs.Common.{◌≡◌, inl, inr, ℕ, true, false, List, Option, Some, None, Result, Ok, Err, refl, sym, ◌∙◌, ap, subst}
use Rattle.hive_model.specs.Edit.{Step}
use Rattle.hive_model.specs.Image.{Image, File, Primary, Log, IsFileOf, image_of}
use Rattle.hive_model.specs.Load.{Loads}
use Rattle.hive_model.specs.State.{HiveState}
use Rattle.nt_edge.specs.Disk.{DiskState}
use Rattle.nt_edge.specs.Host.{Files, HostState}
use Rattle.run_parts.specs.run_parts.Reports.{LeftOf}
use Rattle.start_model.specs.Possible.{Woken}
use Rattle.hive_laws.specs.saved_laws.Saved.{HasUntornBlock}
use Rattle.hive_laws.proofs.SavedLemmas.{files_load}
use Rattle.reg_text.specs.declared.stop.RegFault.{RegFault}
use Rattle.report_text.specs.declared.line_text.form.ReportForm.{ReportForm}
use Rattle.command_words.specs.Words.{ImportAsked}
use Rattle.command_parts.specs.declared.command_parts.inputs.HiveFiles.{HiveFiles}
use Rattle.command_parts.specs.declared.command_parts.refusal.Refusal.{Refusal}
use Rattle.command_parts.specs.declared.command_parts.refusal.Refusal.TheVariants as refusals
use Rattle.command_parts.specs.declared.command_parts.status.Status.TheVariants as statuses
use Rattle.command_parts.specs.command_parts.Inputs.{hive_in, file_in}
use Rattle.command_parts.specs.command_parts.Placed.{image_in}
use Rattle.command_parts.specs.command_parts.Refusals.{Ends, refusal, refusal_status}
use Rattle.command_parts.specs.command_parts.Saves.{SavedAs}
use Rattle.text_commands.specs.Exported.{fault_answer}
use Rattle.text_commands.specs.Changed.{steps_in, change_of}
use Rattle.text_commands.specs.Imported.{EndsSteps, EndsText, EndsHive, EndsImport, import_saves, import_how, DecidesImport}
use Rattle.command_laws.specs.import_laws.AsTold.{LoadsAsTold}

-- no refusal ends as done
undone : (r : Refusal) → statuses.Done ≡ refusal_status r → ⊥
undone refusals.Usage e = absurd cc
undone (refusals.NoFile name) e = absurd cc
undone (refusals.ScriptFault fault) e = absurd cc
undone refusals.NoSweep e = absurd cc
undone refusals.IniTooLong e = absurd cc
undone refusals.IniTooManyEntries e = absurd cc
undone (refusals.HiveFault fault) e = absurd cc

unrefused : (r : Refusal) (old new : List ℕ) → Ends (refusal r) statuses.Done old new → ⊥
unrefused r old new (inl told) = undone r told.0
unrefused r old new (inr never) = never

not_text : statuses.Done ≡ statuses.RegFault → ⊥
not_text e = absurd cc

unfaulty : (fault : RegFault) (old new : List ℕ) → Ends (fault_answer fault) statuses.Done old new → ⊥
unfaulty fault old new (inl told) = not_text told.0
unfaulty fault old new (inr never) = never

not_read : statuses.Done ≡ statuses.ReadFault → ⊥
not_read e = absurd cc

not_memory : statuses.Done ≡ statuses.Memory → ⊥
not_memory e = absurd cc

-- what is held is one of what may be left
held_left : (disk : DiskState) → LeftOf disk disk.held
held_left disk = λ a. inl refl

abbrev there : List ℕ → Result (List ℕ) Refusal
there bytes = Ok bytes

one_text : (a b : List ℕ) → there a ≡ there b → a ≡ b
one_text a b e = cc

file_got : (name text : List ℕ) (o : Option (List ℕ)) → file_in name o ≡ Ok text → o ≡ Some text
file_got name text None e = absurd cc
file_got name text (Some bytes) e = ap (λ (b : List ℕ). Some b) (one_text bytes text e)

module _ (form : ReportForm) (words : ImportAsked) (old new : HostState) (disk : DiskState) (hive log : List ℕ)
    (hive_is : IsFileOf disk.held Primary hive) (log_is : IsFileOf disk.held Log log)
    (untorn : HasUntornBlock disk.held) where
  again : (state : HiveState) → Loads disk.held state false → Loads (image_of hive log) state false
  again state loads = files_load disk.held hive log state false hive_is log_is untorn loads

  by_steps : (files : HiveFiles) (placed : Woken) (text : List ℕ) (r : Result (List Step) RegFault)
      → hive_in old.files words.hive words.log ≡ Ok files
      → Loads (image_in files) placed.state placed.dirty → old.files words.reg ≡ Some text
      → steps_in words.encoding text ≡ r
      → EndsSteps files (import_saves words) (import_how form words) placed.state r disk statuses.Done old.said new.said
      → LoadsAsTold form words old new (image_of hive log)
  by_steps files placed text (Err fault) named loads got reads end = absurd (unfaulty fault old.said new.said end.0)
  by_steps files placed text (Ok steps) named loads got reads end = record {
    files = files;
    placed = placed;
    text = text;
    steps = steps;
    named = named;
    loaded = loads;
    got = got;
    reads = reads;
    said = end.0;
    loads = again (change_of (import_how form words) placed.state steps).state (end.1.loads disk.held (held_left disk));
  }

  by_text : (files : HiveFiles) (placed : Woken) (r : Result (List ℕ) Refusal)
      → hive_in old.files words.hive words.log ≡ Ok files
      → Loads (image_in files) placed.state placed.dirty → file_in words.reg (old.files words.reg) ≡ r
      → EndsText files (import_saves words) (import_how form words) placed.state r disk statuses.Done old.said new.said
      → LoadsAsTold form words old new (image_of hive log)
  by_text files placed (Err why) named loads got end = absurd (unrefused why old.said new.said end.0)
  by_text files placed (Ok text) named loads got end =
      by_steps files placed text (steps_in words.encoding text) named loads (file_got words.reg text
      (old.files words.reg) got)
      refl end

  by_hive : (files : HiveFiles) → hive_in old.files words.hive words.log ≡ Ok files
      → EndsHive files (import_saves words) (import_how form words) (file_in words.reg (old.files words.reg))
      disk statuses.Done old.said new.said
      → LoadsAsTold form words old new (image_of hive log)
  by_hive files named (inl fault) = absurd (unrefused (refusals.HiveFault fault.0) old.said new.said fault.2)
  by_hive files named (inr (inl loads)) =
      by_text files loads.0 (file_in words.reg (old.files words.reg)) named loads.1 refl loads.2
  by_hive files named (inr (inr (inl lack))) = absurd (not_memory lack.0)
  by_hive files named (inr (inr (inr fault))) = absurd (not_read fault.0)

  by_end : (r : Result HiveFiles Refusal) → hive_in old.files words.hive words.log ≡ r
      → EndsImport r (import_saves words) (import_how form words) (file_in words.reg
      (old.files words.reg)) disk statuses.Done old.said new.said
      → LoadsAsTold form words old new (image_of hive log)
  by_end (Err r) named end = absurd (unrefused r old.said new.said end.0)
  by_end (Ok files) named end = by_hive files named end

  pub held_loads : DecidesImport form words statuses.Done old new disk → old.tells ≡ true
      → LoadsAsTold form words old new (image_of hive log)
  held_loads decides tells = by_end (hive_in old.files words.hive words.log) refl (decides.leaves.said tells)

-- ---- the files

-- a file that was saved has the sectors of what the disk holds
file_is : (file : File) (held : Image) (files : Files) (name bytes : List ℕ)
    → SavedAs file held files name → files name ≡ Some bytes → IsFileOf held file bytes
file_is file held files name bytes saved has =
    let same : saved.0 ≡ bytes = (let both : Some saved.0 ≡ Some bytes = sym saved.1 ∙ has in cc) in
    subst (IsFileOf held file) same saved.2

pub saved_loads : (form : ReportForm) (words : ImportAsked) (old new : HostState) (disk : DiskState)
    (name other hive log : List ℕ)
    → DecidesImport form words statuses.Done old new disk → old.tells ≡ true
    → words.save_hive ≡ Some name → words.save_log ≡ Some other → (name ≡ other → ⊥)
    → new.files name ≡ Some hive → new.files other ≡ Some log → HasUntornBlock disk.held
    → LoadsAsTold form words old new (image_of hive log)
saved_loads form words old new disk name other hive log decides tells hive_named log_named apart has_hive has_log
    untorn =
    let saved = (decides.files tells).0 in
    let own : words.save_log ≡ Some name → ⊥ =
    λ e. apart (let both : Some name ≡ Some other = sym e ∙ log_named in cc) in
    let hive_saved : SavedAs Primary disk.held new.files name =
    subst (λ (o : Option (List ℕ)). IfSome o
    (λ n. (words.save_log ≡ Some n → ⊥) → SavedAs Primary disk.held new.files n))
    hive_named saved.hive own in
    let log_saved : SavedAs Log disk.held new.files other =
    subst (λ (o : Option (List ℕ)). IfSome o (λ n. SavedAs Log disk.held new.files n)) log_named saved.log in
    held_loads form words old new disk hive log
    (file_is Primary disk.held new.files name hive hive_saved has_hive)
    (file_is Log disk.held new.files other log log_saved has_log)
    untorn decides tells
