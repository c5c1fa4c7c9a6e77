-- The report where a mode is named, and the one where the entry asks for it.
use Rattle.std.proofs.Common.{◌≡◌, ℕ, zero, suc, ◌-◌, Bool, true, false, cond, List, [], ◌∷◌, ◌++◌, Option, Some, None, refl, sym, ap, ◌∙◌, inl, inr, subst}
use Rattle.std.specs.Prelude.{slice_get, option_map, ◌==◌, Ok}
use Rattle.std.specs.Option.{is_some, option_or, option_map_or}
use Rattle.hive_model.specs.Tree.{Tree}
use Rattle.boot_ini.specs.declared.arc_path.arc.Arc.{Arc}
use Rattle.boot_ini.specs.declared.boot_ini.ini.OsEntry.{OsEntry}
use Rattle.boot_ini.specs.declared.boot_ini.ini.BootIni.{BootIni}
use Rattle.boot_ini.specs.declared.boot_ini.choosing.Chosen.TheVariants as chosen
use Rattle.boot_ini.specs.boot_ini.Choice.{entry_at, path_at, is_drive, is_system, choice_at}
use Rattle.report_words.specs.declared.words.Verdict.TheVariants.{OtherLoader, NoSystem}
use Rattle.report_words.specs.declared.line.Line.TheVariants.{Entry as EntryLine}
use Rattle.report_text.specs.line_objects.Objects.{printed_lines}
use Rattle.report_text.specs.declared.line_text.form.ReportForm.{ReportForm}
use Rattle.safe_boot.specs.declared.mode.SafeMode.{SafeMode}
use Rattle.safe_boot.specs.declared.mode.SafeMode.TheVariants.{Minimal, Network}
use Rattle.safe_boot.specs.Modes.{mode_of, mode_asked}
use Rattle.start_model.specs.Possible.{Woken}
use Rattle.command_parts.specs.declared.command_parts.status.Status.{Status}
use Rattle.command_parts.specs.declared.command_parts.status.Status.TheVariants as statuses
use Rattle.hive_model.specs.Load.{Loads, LoadFault}
use Rattle.command_parts.specs.declared.command_parts.inputs.HiveFiles.{HiveFiles}
use Rattle.command_parts.specs.command_parts.Placed.{image_in}
use Rattle.command_parts.specs.command_parts.Refusals.{Answer, Ends}
use Rattle.safe_command.specs.declared.inputs.SafeInputs.{SafeInputs}
use Rattle.command_parts.specs.command_parts.OnHive.{EndsOnHive}
use Rattle.safe_command.specs.Answer.{answer_at, question_on}
use Rattle.safe_command.specs.Report.{mode_at, mode_text, verdict_lines, default_lines, report_by, report_of}
use Rattle.command_laws.specs.safe_laws.Modes.{switch_of, switches_for, entry_for, changed_at, ini_for, SwitchesAsk, NamedIsAsked, NamedEndsAsAsked}

-- ---- switches

own_switch : (mode : SafeMode) → mode_of (switch_of mode) ≡ Some mode
own_switch Minimal = refl
own_switch Network = refl

pub switches_ask : SwitchesAsk
switches_ask mode [] = ap (λ (o : Option SafeMode). option_or o None) (own_switch mode)
switches_ask mode (switch ∷ switches) = by (mode_of switch) refl (switches_ask mode switches)
  where
    by : (o : Option SafeMode) → mode_of switch ≡ o → mode_asked (switches_for mode switches) ≡ Some mode
        → mode_asked (cond (is_some o) (switch_of mode ∷ switches) (switch ∷ switches_for mode switches)) ≡ Some mode
    by None is rest = ap (λ (o : Option SafeMode). option_or o (mode_asked (switches_for mode switches))) is ∙ rest
    by (Some m) is rest = ap (λ (o : Option SafeMode). option_or o (mode_asked switches)) (own_switch mode)

-- ---- the entry

changed_there : (change : OsEntry → OsEntry) (es : List OsEntry) (place : ℕ)
    → slice_get (changed_at change es place) place ≡ option_map change (slice_get es place)
changed_there change [] place = refl
changed_there change (e ∷ es) zero = refl
changed_there change (e ∷ es) (suc place) = changed_there change es place

entry_there : (change : OsEntry → OsEntry) (es : List OsEntry) (n : ℕ)
    → entry_at (changed_at change es (n - 1)) n ≡ option_map change (entry_at es n)
entry_there change es n = by (n == 0) (changed_there change es (n - 1))
  where
    by : (b : Bool) → slice_get (changed_at change es (n - 1)) (n - 1) ≡ option_map change (slice_get es (n - 1))
        → cond b None (slice_get (changed_at change es (n - 1)) (n - 1)) ≡ option_map change (cond b None (slice_get es (n - 1)))
    by true there = refl
    by false there = there

path_there : (mode : SafeMode) (o : Option OsEntry)
    → option_map_or (λ (e : OsEntry). e.path) o [] ≡ option_map_or (λ (e : OsEntry). e.path) (option_map (entry_for mode) o) []
path_there mode None = refl
path_there mode (Some e) = refl

-- ---- the report

module _ (form : ReportForm) (mode : SafeMode) (images : Bool) (ini : BootIni) (system : Arc) (tree : Tree) where
  abbrev asking : BootIni
  asking = ini_for mode ini

  entry_is : entry_at asking.entries ini.chosen ≡ option_map (entry_for mode) (entry_at ini.entries ini.chosen)
  entry_is = entry_there (entry_for mode) ini.entries ini.chosen

  path_is : path_at ini ini.chosen ≡ path_at asking ini.chosen
  path_is =
      path_there mode (entry_at ini.entries ini.chosen)
      ∙ ap (λ (o : Option OsEntry). option_map_or (λ (e : OsEntry). e.path) o []) (sym entry_is)

  mode_is : (e : OsEntry) → entry_at ini.entries ini.chosen ≡ Some e → Some mode ≡ mode_at None asking ini.chosen
  mode_is e is =
      sym (ap (λ (o : Option OsEntry). option_map_or (λ (e : OsEntry). mode_asked e.switches) o None)
      (entry_is ∙ ap (option_map (entry_for mode)) is) ∙ switches_ask mode e.switches)

  by_system : (e : OsEntry) → entry_at ini.entries ini.chosen ≡ Some e → (drive here : Bool)
      → report_by form (Some mode) images ini tree
      (cond drive (chosen.OtherLoader ini.chosen) (cond here (chosen.Entry ini.chosen) (chosen.NoSystem ini.chosen)))
      ≡ report_by form None images asking tree
      (cond drive (chosen.OtherLoader ini.chosen) (cond here (chosen.Entry ini.chosen) (chosen.NoSystem ini.chosen)))
  by_system e is true here = λ i. printed_lines form (EntryLine ini.chosen (path_is i) ∷ verdict_lines OtherLoader)
  by_system e is false true = λ i.
      printed_lines form (EntryLine ini.chosen (path_is i) ∷ []) ++ mode_text form (mode_is e is i)
      ++ printed_lines form (default_lines tree (mode_is e is i) images)
  by_system e is false false = λ i. printed_lines form (EntryLine ini.chosen (path_is i) ∷ verdict_lines NoSystem)

  by_entry : (o : Option OsEntry) → entry_at ini.entries ini.chosen ≡ o
      → report_by form (Some mode) images ini tree (choice_at system ini.chosen o)
      ≡ report_by form None images asking tree (choice_at system ini.chosen (option_map (entry_for mode) o))
  by_entry None is = refl
  by_entry (Some e) is = by_system e is (is_drive e.path) (is_system system e.path)

  named_asked : report_of form (Some mode) images ini system tree ≡ report_of form None images asking system tree
  unfolding report_of
  named_asked =
      by_entry (entry_at ini.entries ini.chosen) refl
      ∙ ap (λ (o : Option OsEntry). report_by form None images asking tree (choice_at system ini.chosen o)) (sym entry_is)

pub named_is_asked : NamedIsAsked
named_is_asked form mode images ini system tree = named_asked form mode images ini system tree

-- ---- the answer

-- inputs with one hive and one report on it have one answer
ends_over : (form : ReportForm) (a b : SafeInputs) → a.hive ≡ b.hive → ((placed : Woken) → answer_at form a placed ≡ answer_at form b placed)
    → (status : Status) (old new : List ℕ) → EndsOnHive (Ok (question_on form a)) status old new
    → EndsOnHive (Ok (question_on form b)) status old new
ends_over form a b hive same status old new (inl f) =
    inl (f.0, subst (λ (h : HiveFiles). LoadFault (image_in h) f.0) hive f.1, f.2)
ends_over form a b hive same status old new (inr (inl l)) =
    inr (inl (
      l.0,
      subst (λ (h : HiveFiles). Loads (image_in h) l.0.state l.0.dirty) hive l.1,
      subst (λ (x : Answer). Ends x status old new) (same l.0) l.2,
    ))
ends_over form a b hive same status old new (inr (inr s)) = inr (inr s)

pub named_ends_as_asked : NamedEndsAsAsked
named_ends_as_asked form mode inputs status old new =
    let same : (placed : Woken) → answer_at form (record inputs { mode = Some mode }) placed
    ≡ answer_at form (record inputs { mode = None; ini = ini_for mode inputs.ini }) placed =
    λ placed. ap (λ (text : List ℕ). record { status = statuses.Done; text = text })
    (named_asked form mode inputs.images inputs.ini inputs.system placed.state.tree) in (
      ends_over form (record inputs { mode = Some mode }) (record inputs { mode = None; ini = ini_for mode inputs.ini }) refl same status old new,
      ends_over form (record inputs { mode = None; ini = ini_for mode inputs.ini }) (record inputs { mode = Some mode }) refl
          (λ placed. sym (same placed)) status old new,
    )
