-- What a check finds of a tree is what it finds of a part that stands for it.
use Rattle.std.proofs.Common.{◌≡◌, ℕ, Bool, not, List, [], ◌∷◌, ◌++◌, map, Option, Some, None, cond, refl, ap, ◌∙◌, arith}
use Rattle.std.specs.Prelude.{◌==◌, codes}
use Rattle.std.specs.List.{list_any}
use Rattle.std.specs.Option.{is_some, option_map_or}
use Rattle.hive_model.specs.Tree.{Tree, children}
use Rattle.start_model.specs.Entries.{Entry, Phase, Boot, System, Automatic}
use Rattle.start_model.specs.Sets.{SelectNumbers, select_numbers_of}
use Rattle.select_keys.specs.Sets.{usable_set}
use Rattle.answer_lines.specs.declared.check_lines.lines.CheckLine.{CheckLine}
use Rattle.answer_lines.specs.declared.check_lines.lines.CheckLine.TheVariants.{Select, CurrentSetKey, Set, NoSet, Found, End}
use Rattle.answer_lines.specs.declared.check_lines.lines.SelectWord.TheVariants.{Current, Default, Failed, LastKnownGood}
use Rattle.service_check.specs.Children.{Scope}
use Rattle.service_check.specs.Stages.{names_taken, taken_names, staged_in}
use Rattle.service_check.specs.Check.{line_when, four_lines, select_lines, is_imaged, scope_of, services_lines, judged_lines, set_lines, number_lines, found_lines, finding_count, check_lines}
use Rattle.report_text.specs.declared.line_text.form.ReportForm.{ReportForm}
use Rattle.check_text.specs.check_text.Lines.{printed_lines}
use Rattle.command_parts.specs.declared.command_parts.status.Status.TheVariants as statuses
use Rattle.set_commands.specs.hive_sets.Parts.{service_list}
use Rattle.set_commands.specs.hive_sets.Shows.{ShowsSet, ShowsFound, ShowsHive}
use Rattle.set_commands.proofs.StartLemmas.{entries_same, orders_same, plan_same}
use Rattle.set_commands.specs.check_command.Answer.{tree_answer}
use Rattle.set_commands.specs.check_command.Read.{checked_number}

-- ---- a set

names_same : (set part : Tree) → ShowsSet set part → (phase : Phase) → names_taken part phase ≡ names_taken set phase
names_same set part shows phase = ap (map (λ (e : Entry). e.name)) (plan_same set part shows phase [])

taken_same : (set part : Tree) → ShowsSet set part → taken_names part ≡ taken_names set
taken_same set part shows = λ i. record {
  boot = names_same set part shows Boot i;
  system = names_same set part shows System i;
  automatic = names_same set part shows Automatic i;
}

scope_same : (set part : Tree) → ShowsSet set part → (in_order : Bool) (keys : List Tree)
    → scope_of in_order part keys ≡ scope_of in_order set keys
scope_same set part shows in_order keys = λ i. record {
  rows = map (staged_in (taken_same set part shows i)) (entries_same set part shows i);
  orders = orders_same set part shows i;
  has_images = list_any is_imaged keys;
  in_order = in_order;
}

judged_same : (set part : Tree) → ShowsSet set part → (in_order : Bool) (services : Option Tree)
    → judged_lines in_order part services ≡ judged_lines in_order set services
judged_same set part shows in_order None = refl
judged_same set part shows in_order (Some services) =
    ap (λ (s : Scope). services_lines s (children services)) (scope_same set part shows in_order (children services))

lines_same : (set part : Tree) → ShowsSet set part → (in_order : Bool) (n : ℕ)
    → set_lines in_order n part ≡ set_lines in_order n set
lines_same set part shows in_order n =
    ap (λ lines. Set n ∷ lines)
    (judged_same set part shows in_order (service_list part) ∙ ap (judged_lines in_order set) shows.services)

number_same : (tree part : Tree) (in_order : Bool) (n : ℕ) (others : List CheckLine)
    → ShowsFound (usable_set tree n) (usable_set part n)
    → number_lines part in_order n others ≡ number_lines tree in_order n others
number_same tree part in_order n others = by (usable_set tree n) (usable_set part n)
  where
    by : (whole shown : Option Tree) → ShowsFound whole shown
        → option_map_or (set_lines in_order n) shown others ≡ option_map_or (set_lines in_order n) whole others
    by (Some set) (Some p) shows = lines_same set p shows in_order n
    by (Some set) None shows = absurd shows
    by None (Some p) shows = absurd shows
    by None None shows = refl

-- ---- the hive

four_same : (tree part : Tree) → ((n : ℕ) → is_some (usable_set part n) ≡ is_some (usable_set tree n))
    → (n : SelectNumbers)
    → four_lines part n.current n.default n.failed n.good ≡ four_lines tree n.current n.default n.failed n.good
four_same tree part usable n = λ i.
    line_when (not (usable n.current i)) (Select Current n.current)
    ++ line_when (not (usable n.default i)) (Select Default n.default)
    ++ cond (n.failed == 0) [] (line_when (not (usable n.failed i)) (Select Failed n.failed))
    ++ line_when (not (usable n.good i)) (Select LastKnownGood n.good)

selects_same : (numbers : List ℕ) (tree part : Tree) → ShowsHive numbers tree part → select_lines part ≡ select_lines tree
selects_same numbers tree part shows =
    ap (λ (n : SelectNumbers). four_lines part n.current n.default n.failed n.good) shows.select
    ∙ four_same tree part shows.usable (select_numbers_of tree)

found_same : (tree part : Tree) (asked : Option ℕ) (in_order : Bool) → ShowsHive (checked_number asked tree ∷ []) tree part
    → found_lines part asked in_order ≡ found_lines tree asked in_order
found_same tree part (Some n) in_order shows =
    number_same tree part in_order n (NoSet n ∷ []) (shows.sets n (0, omega arith, refl))
found_same tree part None in_order shows =
    let default = (select_numbers_of tree).default in
    let taken = ap (λ (n : SelectNumbers). number_lines part in_order n.default []) shows.select
    ∙ number_same tree part in_order default [] (shows.sets default (0, omega arith, refl)) in
    λ i. selects_same (default ∷ []) tree part shows i
    ++ line_when (shows.named (codes "CurrentControlSet") i) CurrentSetKey ++ taken i

check_same : (tree part : Tree) (asked : Option ℕ) (in_order : Bool) → ShowsHive (checked_number asked tree ∷ []) tree part
    → check_lines part asked in_order ≡ check_lines tree asked in_order
unfolding check_lines
check_same tree part asked in_order shows =
    λ i. (found_same tree part asked in_order shows i) ++ Found (finding_count (found_same tree part asked in_order shows i))
    ∷ End ∷ []

-- the answer to a tree is that to a part that stands for it
pub answer_same : (form : ReportForm) (tree part : Tree) (asked : Option ℕ) (in_order : Bool)
    → ShowsHive (checked_number asked tree ∷ []) tree part
    → tree_answer form asked in_order part ≡ tree_answer form asked in_order tree
answer_same form tree part asked in_order shows = λ i. record {
  status = cond (not (finding_count (found_same tree part asked in_order shows i) == 0)) statuses.Found statuses.Done;
  text = printed_lines form (check_same tree part asked in_order shows i);
}
