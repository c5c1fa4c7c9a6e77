-- What `import` leaves.
use Rattle.std.proofs.Common.{◌≡◌, ◌≤◌, ◌++◌, inl, inr, ℕ, false, List, refl, sym, ap, subst, ◌∙◌, arith}
use Rattle.std.specs.Prelude.{Result, Ok, Err}
use Rattle.nt_bytes.specs.declared.version.HiveVersion.{HiveVersion}
use Rattle.hive_model.specs.Edit.{Step}
use Rattle.hive_model.specs.Image.{Image}
use Rattle.hive_model.specs.Load.{state_of}
use Rattle.hive_edit.specs.Hive.{HiveCells}
use Rattle.hive_store.specs.Checks.{ChecksCells}
use Rattle.nt_edge.specs.Disk.{DiskState, new_state}
use Rattle.nt_edge.specs.Host.{Files, HostState, KeepsFiles, Asks, AsksNone}
use Rattle.nt_edge.specs.declared.host.HostStop.{HostStop}
use Rattle.nt_edge.specs.declared.host.HostStop.TheVariants.{Read, Write, Memory}
use Rattle.reg_text.specs.declared.stop.RegFault.{RegFault}
use Rattle.command_words.specs.Words.{ImportAsked}
use Rattle.command_parts.specs.declared.command_parts.inputs.HiveFiles.{HiveFiles}
use Rattle.command_parts.specs.declared.command_parts.refusal.Refusal.{Refusal}
use Rattle.command_parts.specs.declared.command_parts.refusal.Refusal.TheVariants as refusals
use Rattle.command_parts.specs.declared.command_parts.refusal.Obstacle.TheVariants.{Refused, Stopped}
use Rattle.command_parts.specs.declared.command_parts.status.Status.{Status}
use Rattle.command_parts.specs.declared.command_parts.status.Status.TheVariants as statuses
use Rattle.command_parts.specs.command_parts.Inputs.{hive_in, file_in}
use Rattle.command_parts.specs.command_parts.Leaves.{Leaves, Looks, more, stop_in, stopped_as, IsPartDone}
use Rattle.command_parts.specs.command_parts.Refusals.{Ends, IsToldAs, refusal, refusal_status, refusal_text}
use Rattle.command_parts.specs.command_parts.Saves.{Saves, saved_count, TellsFirst, Settles, FinishesAs, FilesAs}
use Rattle.command_parts.proofs.DecideLemmas.{told_unused, told_unread, refused_unread, found_decides, refused_decides, stopped_decides}
use Rattle.command_parts.proofs.LeaveLemmas.{no_front, keeps_then, counts_by}
use Rattle.command_parts.proofs.SaveLemmas.{count_few, done_with, more_few, tells-first, untouched_told, was_said}
use Rattle.text_commands.proofs.ImportAskLemmas.{text_asked}
use Rattle.report_text.specs.declared.line_text.form.ReportForm.{ReportForm}
use Rattle.text_commands.specs.declared.said.How.{How}
use Rattle.text_commands.specs.declared.said.Said.{Said}
use Rattle.text_commands.specs.Changed.{Change, steps_in, change_of}
use Rattle.text_commands.specs.ImportLines.{said_text}
use Rattle.text_commands.specs.Imported.{IsImported, EndsChange, EndsHive, EndsImport, import_saves, import_how, DecidesImport}
use Rattle.text_commands.specs.Imports.{IsImportOf, EndsRead, IsChecked, IsLoadable, DecidesEdits, DecidesText, DecidesFile}

-- ---- the disk after the saving

saved_imported : (files : HiveFiles) (change : Change) (n : ℕ) (mid after : DiskState) → n ≤ 2
    → IsImported files change 0 mid → Settles n mid after
    → IsImported files change n after
saved_imported files change n mid after le m s = record {
  loads = λ c left. m.loads c (s.left c left);
  logged = λ c left. m.logged c (s.left c left);
  placed = s.placings ∙ m.placed;
  taken = s.takings ∙ ap (more n) m.taken ∙ more_few n le;
  unordered = s.armings ∙ m.unordered;
  uncut = s.cut_calls ∙ m.uncut;
  no_cuts = s.cuts ∙ m.no_cuts;
  no_faults = s.faults ∙ m.no_faults;
}

part_imported : (files : HiveFiles) (change : Change) (n most : ℕ) (disk : DiskState) → n ≤ most
    → IsImported files change n disk → IsPartDone files most disk
part_imported files change n most disk le m = record {
  placed = omega (arith, m.placed);
  taken = omega (arith, m.taken, le);
  unordered = m.unordered;
  uncut = m.uncut;
}

pub new_part : (files : HiveFiles) (disk : DiskState) → disk ≡ new_state → IsPartDone files 0 disk
new_part files disk is =
    let P : DiskState → Type 0 = IsPartDone files 0 in
    subst P (sym is) (record { placed = omega arith; taken = omega arith; unordered = refl; uncut = refl })

-- ---- the edits

first_imported : (files : HiveFiles) (form : ReportForm) (change : Change) (text old new : List ℕ) (taken : ℕ)
    (disk : DiskState) → text ≡ said_text form change.said → IsImported files change taken disk
    → ((taken ≡ 0 → ⊥) → new ≡ old ++ text) → TellsFirst (said_text form change.said) disk old new
first_imported files form change text old new taken disk same made first =
    tells-first (said_text form change.said) taken disk old new made.taken
    (λ some. first some ∙ ap (λ (t : List ℕ). old ++ t) same)

ends_change : (files : HiveFiles) (saves : Saves) (form : ReportForm) (change : Change) (status : Status)
    (text old new : List ℕ) (taken : ℕ) (disk : DiskState) → IsToldAs statuses.Done status
    → text ≡ said_text form change.said → taken ≤ saved_count saves → (status ≡ statuses.Done
    → taken ≡ saved_count saves)
    → IsImported files change taken disk → ((taken ≡ 0 → ⊥) → new ≡ old ++ text)
    → Ends (done_with text) status old new → EndsChange files saves form change disk status old new
ends_change files saves form change status text old new taken disk (inl is) same few all made first end =
    let done = subst (λ (t : List ℕ). Ends (done_with t) statuses.Done old new) same
    (subst (λ (s : Status). Ends (done_with text) s old new) is end) in
    let P : ℕ → Type 0 = λ n. IsImported files change n disk in
    subst (λ (s : Status). EndsChange files saves form change disk s old new) (sym is)
    (was_said (said_text form change.said) old new done, subst P (all is) made)
ends_change files saves form change status text old new taken disk (inr (inl is)) same few all made first end =
    let part = subst (λ (t : List ℕ). Ends (done_with t) statuses.WriteFault old new) same
    (subst (λ (s : Status). Ends (done_with text) s old new) is end) in
    subst (λ (s : Status). EndsChange files saves form change disk s old new) (sym is) (
      part,
      part_imported files change taken (saved_count saves) disk few made,
      first_imported files form change text old new taken disk same made first,
    )
ends_change files saves form change status text old new taken disk (inr (inr is)) same few all made first end =
    let part = subst (λ (t : List ℕ). Ends (done_with t) statuses.Memory old new) same
    (subst (λ (s : Status). Ends (done_with text) s old new) is end) in
    subst (λ (s : Status). EndsChange files saves form change disk s old new) (sym is) (
      part,
      part_imported files change taken (saved_count saves) disk few made,
      first_imported files form change text old new taken disk same made first,
    )

-- the line was printed and the files saved, or that was stopped
pub finished_imports : (files : HiveFiles) (saves : Saves) (how : How) (steps : List Step) (said : Said)
    (line : List ℕ) (status : Status) (old new : HostState)
    (mid after : DiskState) → IsImportOf how files steps mid said → mid.on ≡ false → line ≡ said_text how.form said
    → FinishesAs line saves status old new mid after → DecidesEdits files saves how steps status old new after
finished_imports files saves how steps said line status old new mid after on off is f =
    let change : Change = change_of how on.0.state steps in
    let text : line ≡ said_text how.form change.said = is ∙ ap (said_text how.form) on.2 in
    let two : f.taken ≤ 2 = omega (arith, f.few, count_few saves) in
    record {
      decides = record {
        leaves = record {
          keeps = f.leaves.keeps;
          counts = f.leaves.counts;
          said = λ tells. inl (
            on.0,
            on.1,
            ends_change files saves how.form change status line old.said new.said f.taken after f.told text f.few f.all
                (saved_imported files change f.taken mid after two on.3 f.settles) (f.first tells)
                (f.leaves.said tells),
          );
        };
        files = f.files;
        off = f.settles.on ∙ off;
        untouched = untouched_told status after f.told;
      };
      unasked = f.unasked;
      kept = told_unused statuses.Done status f.told (λ e. absurd cc);
      unread = told_unread statuses.Done status f.told (λ e. absurd cc);
    }

-- ---- after the search for the text

read_hive : (files : HiveFiles) (saves : Saves) (how : How) (r : Result (List Step) RegFault) (text : List ℕ)
    (disk : DiskState) (status : Status) (old new : List ℕ) → IsLoadable files
    → steps_in how.encoding text ≡ r → EndsRead files saves how r disk status old new
    → EndsHive files saves how (Ok text) disk status old new
read_hive files saves how (Err fault) text disk status old new loads is end =
    inr (inl (loads.0, loads.1, rw is end))
read_hive files saves how (Ok steps) text disk status old new loads is (inl end) =
    inr (inl (end.0, end.1, rw is end.2))
read_hive files saves how (Ok steps) text disk status old new loads is (inr end) = inr (inr (inl end))

pub found_file : (files : HiveFiles) (saves : Saves) (how : How) (name text : List ℕ) (status : Status)
    (old mid new : HostState)
    (disk : DiskState) → IsLoadable files
    → Looks (file_in name (old.files name)) (Ok text) old mid → Asks old mid
    → DecidesText files saves how text status mid new disk
    → DecidesFile files saves how name status old new disk
found_file files saves how name text status old mid new disk loads a asks b = record {
  decides = found_decides (file_in name (old.files name)) (λ w s o n. EndsHive files saves how w disk s o n) saves text
      (EndsRead files saves how (steps_in how.encoding text) disk) status old mid new disk
      (λ o n end. read_hive files saves how (steps_in how.encoding text) text disk status o n loads refl end) a b;
  kept = b.kept;
  asks = text_asked files status old.gets mid.gets new.gets loads asks b.unasked b.unread;
}

usage_only : (why : Refusal) → (why ≡ refusals.Usage → ⊥) → refusal_status why ≡ statuses.Usage → ⊥
usage_only refusals.Usage never e = never refl
usage_only (refusals.NoFile name) never e = absurd cc
usage_only (refusals.ScriptFault fault) never e = absurd cc
usage_only refusals.NoSweep never e = absurd cc
usage_only refusals.IniTooLong never e = absurd cc
usage_only refusals.IniTooManyEntries never e = absurd cc
usage_only (refusals.HiveFault fault) never e = absurd cc

pub absent_file : (files : HiveFiles) (saves : Saves) (how : How) (name : List ℕ) (why : Refusal) (status : Status)
    (old mid new : HostState) (disk : DiskState) → IsLoadable files → disk ≡ new_state
    → Looks {A = List ℕ} (file_in name (old.files name)) (Err (Refused why)) old mid → Asks old mid → AsksNone mid new
    → (why ≡ refusals.Usage → ⊥) → Leaves (Ends (refusal why)) status mid new → KeepsFiles mid new
    → IsToldAs (refusal_status why) status → DecidesFile files saves how name status old new disk
absent_file files saves how name why status old mid new disk loads fresh a asks unasked used leaves kept told = record {
  decides = refused_decides (file_in name (old.files name)) (λ w s o n. EndsHive files saves how w disk s o n)
      saves why status old mid new disk fresh
      (λ o n end. inr (inl (loads.0, loads.1, (end, fresh)))) a leaves kept told;
  kept = told_unused (refusal_status why) status told (usage_only why used);
  asks = text_asked files status old.gets mid.gets new.gets loads asks unasked (refused_unread why status told);
}

stopped_hive : (files : HiveFiles) (saves : Saves) (how : How) (wanted : Result (List ℕ) Refusal) (stop : HostStop)
    (disk : DiskState) (old new : List ℕ) → disk ≡ new_state → new ≡ old
    → (stop ≡ Write → ⊥) → EndsHive files saves how wanted disk (stopped_as stop) old new
stopped_hive files saves how wanted Read disk old new fresh same unwritten = inr (inr (inr (refl, same, fresh)))
stopped_hive files saves how wanted Write disk old new fresh same unwritten = absurd (unwritten refl)
stopped_hive files saves how wanted Memory disk old new fresh same unwritten =
    inr (inr (inl (refl, same, new_part files disk fresh)))

-- ---- after the check of the hive

pub checked : (image : Image) (cells : HiveCells) (number : ℕ) (version : HiveVersion)
    → ChecksCells image (Ok (cells, number, version)) → IsChecked image (Ok cells)
checked image cells number version judged =
    (record { state = state_of cells.tree number version; dirty = judged.0.0 }, judged.0.1)

-- ---- after the search for the hive

stopped_import : (wanted : Result HiveFiles Refusal) (saves : Saves) (how : How) (text : Result (List ℕ) Refusal)
    (stop : HostStop)
    (disk : DiskState) (old new : List ℕ) → disk ≡ new_state
    → new ≡ old → (stop ≡ Write → ⊥) → EndsImport wanted saves how text disk (stopped_as stop) old new
stopped_import (Ok files) saves how text stop disk old new fresh same unwritten =
    stopped_hive files saves how text stop disk old new fresh same unwritten
stopped_import (Err r) saves how text Read disk old new fresh same unwritten = (inr same, fresh)
stopped_import (Err r) saves how text Write disk old new fresh same unwritten = absurd (unwritten refl)
stopped_import (Err r) saves how text Memory disk old new fresh same unwritten =
    (inr (no_front (refusal_text r) old new same), fresh)

pub unfound_import : (form : ReportForm) (words : ImportAsked) (stop : HostStop) (old new : HostState)
    (disk : DiskState) → disk ≡ new_state
    → Looks {A = HiveFiles} (hive_in old.files words.hive words.log) (Err (Stopped stop)) old new
    → DecidesImport form words (stopped_as stop) old new disk
unfound_import form words stop old new disk fresh a =
    stopped_decides (hive_in old.files words.hive words.log)
    (λ w s o n. EndsImport w (import_saves words) (import_how form words) (file_in words.reg
    (old.files words.reg)) disk s o n)
    (import_saves words)
    stop old new disk fresh
    (λ o n same unwritten. stopped_import (hive_in old.files words.hive words.log) (import_saves words)
    (import_how form words)
    (file_in words.reg (old.files words.reg)) stop disk o n fresh same unwritten) a

-- hive and log were found
pub found_import : (form : ReportForm) (words : ImportAsked) (files : HiveFiles) (status : Status)
    (old mid new : HostState) (disk : DiskState)
    → Looks (hive_in old.files words.hive words.log) (Ok files) old mid
    → DecidesFile files (import_saves words) (import_how form words) words.reg status mid new disk
    → DecidesImport form words status old new disk
found_import form words files status old mid new disk a b =
    let saves : Saves = import_saves words in
    let how : How = import_how form words in
    let l = b.decides.leaves in
    record {
      leaves = record {
        keeps = keeps_then old mid new a.keeps l.keeps;
        counts = counts_by (stop_in status) old mid new a.keeps a.counts l.counts;
        said = λ tells.
            let here : EndsHive files saves how (file_in words.reg
            (mid.files words.reg)) disk status mid.said new.said =
            l.said (a.keeps.tells ∙ tells) in
            subst (λ (w : Result HiveFiles Refusal). EndsImport w saves how (file_in words.reg
            (old.files words.reg)) disk
            status old.said new.said) (sym (a.found tells))
            (subst (λ (m : List ℕ). EndsHive files saves how (file_in words.reg
            (old.files words.reg)) disk status m new.said)
            (a.unsaid tells)
            (subst (λ (f : Files). EndsHive files saves how (file_in words.reg
            (f words.reg)) disk status mid.said new.said)
            (a.files tells) here));
      };
      files = λ tells. subst (λ (f : Files). FilesAs saves status disk f new.files) (a.files tells)
          (b.decides.files (a.keeps.tells ∙ tells));
      off = b.decides.off;
      untouched = b.decides.untouched;
    }
