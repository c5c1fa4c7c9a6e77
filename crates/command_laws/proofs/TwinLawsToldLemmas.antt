-- What stands after `twin` is what its lines tell.
use Rattle.std.specs.Prelude.{nat_lt, codes, IfSome}
use Rattle.std.proofs.Common.{◌≡◌, ◌++◌, inl, inr, ℕ, Bool, true, false, cond, List, Option, Some, None, Result, Ok, Err, refl, sym, ◌∙◌, ap, subst}
use Rattle.nt_bytes.specs.declared.version.HiveVersion.{HiveVersion}
use Rattle.hive_model.specs.Base.{version_of}
use Rattle.hive_model.specs.Image.{Image, File, Primary, Log, IsFileOf, image_of}
use Rattle.hive_model.specs.Recovery.{Recovered}
use Rattle.hive_model.specs.Edit.{most_bulk}
use Rattle.hive_model.specs.Size.{bulk_of}
use Rattle.hive_model.specs.State.{HiveState}
use Rattle.hive_model.specs.Tree.{Tree, find_key, find_dword}
use Rattle.nt_edge.specs.Disk.{DiskState}
use Rattle.nt_edge.specs.Host.{Files, HostState}
use Rattle.run_parts.specs.run_parts.Reports.{LeftOf}
use Rattle.hive_alt.specs.Changes.{Change, nothing, no_select, too_large, changed, select_path, default_name, defaulted, is_number, unless_large, change_in, after_change}
use Rattle.hive_alt.specs.Schemes.{StandsClean}
use Rattle.command_words.specs.Words.{TwinAsked}
use Rattle.command_parts.specs.declared.command_parts.inputs.HiveFiles.{HiveFiles}
use Rattle.command_parts.specs.declared.command_parts.refusal.Refusal.{Refusal}
use Rattle.command_parts.specs.declared.command_parts.refusal.Refusal.TheVariants as refusals
use Rattle.command_parts.specs.declared.command_parts.status.Status.TheVariants as statuses
use Rattle.command_parts.specs.command_parts.Inputs.{hive_in}
use Rattle.command_parts.specs.command_parts.Refusals.{Ends, refusal, refusal_status}
use Rattle.command_parts.specs.command_parts.Saves.{SavedAs}
use Rattle.report_text.specs.declared.line_text.form.ReportForm.TheVariants.{Text}
use Rattle.twin_command.specs.Told.{load_text, word_text, told_text, told_of, word_of}
use Rattle.twin_command.specs.Twinned.{stands_by, EndsFound, EndsTwin, twin_saves, DecidesTwin}
use Rattle.command_laws.specs.twin_laws.AsTold.{default_line, lines_of, becomes, told_state, StandsAsTold}
use Rattle.command_laws.proofs.AgainLemmas.{files_stand}

-- ---- the lines and the state

-- the word for a change is its line
word_line : (number : Option ℕ) (found : Recovered) (change : Change)
    → word_text (word_of number found change) ≡ default_line number found change
word_line None found change = refl
word_line (Some number) found nothing = refl
word_line (Some number) found no_select = refl
word_line (Some number) found too_large = refl
word_line (Some number) found (changed u) = refl

lines_are : (number : Option ℕ) (found : Recovered) (tree : Tree)
    → told_text (told_of number found tree) ≡ lines_of number found (becomes number found tree)
lines_are number found tree =
    ap (λ (line : List ℕ). load_text found.base.first found.dirty ++ line ++ codes "end\n")
    (word_line number found (becomes number found tree))

module _ (found : Recovered) (tree : Tree) (number : ℕ) where
  abbrev version : HiveVersion
  version = version_of found.base.minor

  -- the state after a change is what its lines tell
  abbrev IsAsTold : Change → Type 0
  IsAsTold change = after_change found tree change ≡ told_state (Some number) found tree change

  by_size : (large : Bool) → IsAsTold (cond large too_large (changed (defaulted number tree)))
  by_size true = refl
  by_size false = refl

  by_default : (same : Bool) → IsAsTold (cond same nothing (unless_large version (defaulted number tree)))
  by_default true = refl
  by_default false = by_size (nat_lt most_bulk (bulk_of version (defaulted number tree)))

  by_select : (select : Option Tree) → IsAsTold (change_in version tree number select)
  by_select None = refl
  by_select (Some select) = by_default (is_number number (find_dword default_name select))

as_told : (number : Option ℕ) (found : Recovered) (tree : Tree)
    → after_change found tree (becomes number found tree) ≡ told_state number found tree (becomes number found tree)
as_told None found tree = refl
as_told (Some number) found tree = by_select found tree number (find_key select_path tree)

-- ---- the end

-- no refusal ends as done
undone : (r : Refusal) → statuses.Done ≡ refusal_status r → ⊥
undone refusals.Usage e = absurd cc
undone (refusals.NoFile name) e = absurd cc
undone (refusals.ScriptFault fault) e = absurd cc
undone refusals.NoSweep e = absurd cc
undone refusals.IniTooLong e = absurd cc
undone refusals.IniTooManyEntries e = absurd cc
undone (refusals.HiveFault fault) e = absurd cc

unrefused : (r : Refusal) (old new : List ℕ) → Ends (refusal r) statuses.Done old new → ⊥
unrefused r old new (inl told) = undone r told.0
unrefused r old new (inr never) = never

not_read : statuses.Done ≡ statuses.ReadFault → ⊥
not_read e = absurd cc

not_memory : statuses.Done ≡ statuses.Memory → ⊥
not_memory e = absurd cc

-- what is held is one of what may be left
held_left : (disk : DiskState) → LeftOf disk disk.held
held_left disk = λ a. inl refl

module _ (words : TwinAsked) (old new : HostState) (disk : DiskState) (hive alt : List ℕ)
    (hive_is : IsFileOf disk.held Primary hive) (alt_is : IsFileOf disk.held Log alt) where
  by_found : (files : HiveFiles) → hive_in old.files words.hive words.alt ≡ Ok files
      → EndsFound Text (stands_by words.scheme) files words.default (twin_saves words) disk statuses.Done old.said new.said
      → StandsAsTold words old new (image_of hive alt)
  by_found files named f =
      let state : HiveState = after_change f.found f.tree (becomes words.default f.found f.tree) in
      let stands : StandsClean (stands_by words.scheme) state (image_of hive alt) =
      files_stand words.scheme disk.held hive alt state hive_is alt_is
      (f.ends.1.stands_for disk.held (held_left disk)) in
      record {
        files = files;
        found = f.found;
        tree = f.tree;
        named = named;
        is_found = f.is_found;
        said = f.ends.0 ∙ ap (λ (text : List ℕ). old.said ++ text) (lines_are words.default f.found f.tree);
        stands_for =
            subst (λ (s : HiveState). StandsClean (stands_by words.scheme) s (image_of hive alt))
            (as_told words.default f.found f.tree) stands;
      }

  by_end : (r : Result HiveFiles Refusal) → hive_in old.files words.hive words.alt ≡ r
      → EndsTwin Text r (stands_by words.scheme) words.default (twin_saves words) disk statuses.Done old.said new.said
      → StandsAsTold words old new (image_of hive alt)
  by_end (Err r) named end = absurd (unrefused r old.said new.said end.0)
  by_end (Ok files) named (inl (inl fault)) = absurd (unrefused (refusals.HiveFault fault.0) old.said new.said fault.2)
  by_end (Ok files) named (inl (inr (inl f))) = by_found files named f
  by_end (Ok files) named (inl (inr (inr lack))) = absurd (not_memory lack.0)
  by_end (Ok files) named (inr fault) = absurd (not_read fault.0)

  pub held_stands : DecidesTwin Text words statuses.Done old new disk → old.tells ≡ true
      → StandsAsTold words old new (image_of hive alt)
  held_stands decides tells = by_end (hive_in old.files words.hive words.alt) refl (decides.leaves.said tells)

-- ---- the files

-- a file that was saved has the sectors of what the disk holds
file_is : (file : File) (held : Image) (files : Files) (name bytes : List ℕ)
    → SavedAs file held files name → files name ≡ Some bytes → IsFileOf held file bytes
file_is file held files name bytes saved has =
    let same : saved.0 ≡ bytes = (let both : Some saved.0 ≡ Some bytes = sym saved.1 ∙ has in cc) in
    subst (IsFileOf held file) same saved.2

pub saved_stands : (words : TwinAsked) (old new : HostState) (disk : DiskState) (name other hive alt : List ℕ)
    → DecidesTwin Text words statuses.Done old new disk → old.tells ≡ true
    → words.save_hive ≡ Some name → words.save_alt ≡ Some other → (name ≡ other → ⊥)
    → new.files name ≡ Some hive → new.files other ≡ Some alt
    → StandsAsTold words old new (image_of hive alt)
saved_stands words old new disk name other hive alt decides tells hive_named alt_named apart has_hive has_alt =
    let saved = (decides.files tells).0 in
    let own : words.save_alt ≡ Some name → ⊥ =
    λ e. apart (let both : Some name ≡ Some other = sym e ∙ alt_named in cc) in
    let hive_saved : SavedAs Primary disk.held new.files name =
    subst (λ (o : Option (List ℕ)). IfSome o
    (λ n. (words.save_alt ≡ Some n → ⊥) → SavedAs Primary disk.held new.files n))
    hive_named saved.hive own in
    let alt_saved : SavedAs Log disk.held new.files other =
    subst (λ (o : Option (List ℕ)). IfSome o (λ n. SavedAs Log disk.held new.files n)) alt_named saved.log in
    held_stands words old new disk hive alt
    (file_is Primary disk.held new.files name hive hive_saved has_hive)
    (file_is Log disk.held new.files other alt alt_saved has_alt)
    decides tells
