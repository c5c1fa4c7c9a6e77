-- What the report is, by what the start takes.
use Rattle.std.proofs.Common.{◌≡◌, ℕ, Bool, List, ◌++◌, Option, None, Some, sym, ap, ◌∙◌}
use Rattle.std.specs.Option.{option_map_or}
use Rattle.std.specs.Prelude.{Result, Ok, Err, IfOk, OnOk}
use Rattle.hive_model.specs.Tree.{Tree}
use Rattle.safe_command.specs.declared.inputs.SafeInputs.{SafeInputs}
use Rattle.boot_ini.specs.declared.boot_ini.choosing.Chosen.{Chosen}
use Rattle.boot_ini.specs.boot_ini.Choice.{choice_of}
use Rattle.report_text.specs.declared.line_text.form.ReportForm.{ReportForm}
use Rattle.report_words.specs.declared.words.Verdict.TheVariants.{NoControlSet}
use Rattle.start_model.specs.Sets.{select_numbers_of}
use Rattle.select_keys.specs.Sets.{usable_set}
use Rattle.report_text.specs.line_objects.Objects.{printed_lines}
use Rattle.safe_boot.specs.declared.mode.SafeMode.{SafeMode}
use Rattle.safe_command.specs.Report.{verdict_lines, set_lines, default_lines, report_by, report_of}

-- ---- by what the start takes

pub reports : {E : Type 0} (form : ReportForm) (r : Result (List ℕ) E) (inputs : SafeInputs) (tree : Tree)
    (choice known : Chosen)
    → choice ≡ choice_of inputs.ini None inputs.system → choice ≡ known
    → IfOk r (λ text. text ≡ report_by form inputs.mode inputs.images inputs.ini tree known)
    → IfOk r (λ text. text ≡ report_of form inputs.mode inputs.images inputs.ini inputs.system tree)
unfolding report_of
reports form (Ok text) inputs tree choice known is here h =
    h ∙ ap (report_by form inputs.mode inputs.images inputs.ini tree) (sym here ∙ is)
reports form (Err e) inputs tree choice known is here h = tt

-- ---- the set that Default names

pub default_there : {E : Type 0} (r : Result (Unit {0}) E) (form : ReportForm) (tree set : Tree) (mode : Option SafeMode)
    (images : Bool) (n : ℕ) (old new : List ℕ) → n ≡ (select_numbers_of tree).default → usable_set tree n ≡ Some set
    → OnOk r (new ≡ old ++ printed_lines form (set_lines n mode images set))
    → OnOk r (new ≡ old ++ printed_lines form (default_lines tree mode images))
default_there (Ok u) form tree set mode images n old new is there h =
    let k : ℕ = (select_numbers_of tree).default in
    let found : usable_set tree k ≡ Some set = ap (usable_set tree) (sym is) ∙ there in
    h ∙ ap (λ ls. old ++ printed_lines form ls) (ap (λ m. set_lines m mode images set) is
    ∙ sym (ap (λ o. option_map_or (set_lines k mode images) o (verdict_lines NoControlSet)) found))
default_there (Err e) form tree set mode images n old new is there h = tt
