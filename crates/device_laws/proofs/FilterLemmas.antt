-- The filters of classes after a service was turned off.
use Rattle.std.proofs.Common.{◌≡◌, ℕ, Bool, true, false, not, cond, List, [], ◌∷◌, ◌++◌, length, map, filter, Option, Some, None, refl, sym, ap, ◌∙◌, append-nil}
use Rattle.std.specs.Prelude.{◌&&◌, codes}
use Rattle.std.specs.List.{list_all, flat_map}
use Rattle.std.proofs.lemmas.Bool.{false≢true}
use Rattle.std.proofs.lemmas.List.Elements.{filter-append}
use Rattle.nt_bytes.specs.Folding.{folds_same}
use Rattle.hive_model.specs.Tree.{Tree, head}
use Rattle.device_rule.specs.declared.lines.Driver.{Driver}
use Rattle.device_rule.specs.declared.lines.DriverState.TheVariants as states
use Rattle.device_rule.specs.declared.lines.Role.{Role}
use Rattle.device_rule.specs.declared.lines.Role.TheVariants.{Lower, Upper}
use Rattle.device_rule.specs.declared.lines.DeviceLine.{DeviceLine}
use Rattle.device_rule.specs.declared.lines.DeviceLine.TheVariants as lines
use Rattle.device_rule.specs.declared.scope.SetKeys.{SetKeys}
use Rattle.device_rule.specs.declared.scope.Selection.{Selection}
use Rattle.device_rule.specs.Values.{names_of, children_of}
use Rattle.device_rule.specs.Drivers.{driver_of, is_prevented}
use Rattle.device_rule.specs.Database.{critical_lines}
use Rattle.device_rule.specs.Devices.{filter_fields, has_malformed}
use Rattle.device_rule.specs.Classes.{label_of, malformed_at, malformed_of, filter_when, filter_line, filter_lines, class_lines, all_class_lines}
use Rattle.device_rule.specs.Report.{set_of, blocks_in, lines_in, opening_lines, enum_lines, class_part, closing_lines, found_in, device_lines}
use Rattle.device_laws.specs.Told.{is_about}
use Rattle.device_laws.specs.Lost.{without_driver, IsService, is_filter_of, is_other_filter, filter_loss, class_losses, FiltersAreLost, OtherFiltersStay}
use Rattle.device_laws.proofs.ListLemmas.{map_all, imply_all, dropped}
use Rattle.device_laws.proofs.TellLemmas.{when_all, critical_all}
use Rattle.device_laws.proofs.ReadLemmas.{opening_all, shown_all}
use Rattle.device_laws.proofs.LostLemmas.{driver_off}

-- ---- where such lines are

abbrev is_filter : DeviceLine → Bool
is_filter (lines.ClassFilter role class key driver) = true
is_filter line = false

about_no_filter : (l : DeviceLine) → is_about l ≡ true → not (is_filter l) ≡ true
about_no_filter (lines.ClassFilter role class key driver) h = absurd (false≢true h)
about_no_filter l h = refl

module _ (p : DeviceLine → Bool) (only_filters : (l : DeviceLine) → not (is_filter l) ≡ true → not (p l) ≡ true) where
  gone : (ls : List DeviceLine) → list_all (λ l. not (is_filter l)) ls ≡ true → filter p ls ≡ []
  gone ls h = dropped p ls (imply_all (λ l. not (is_filter l)) (λ l. not (p l)) ls only_filters h)

  -- they are among the lines on class keys
  pub among_classes : (number : ℕ) (keys : SetKeys) (only : Selection)
      → filter p (device_lines number (Some keys) only) ≡ filter p (class_part (set_of keys) only)
  unfolding device_lines
  among_classes number keys only =
      let set = set_of keys in
      let opening = opening_lines number set only in
      let enum = enum_lines set in
      let shown = flat_map lines_in (blocks_in set only) in
      let classes = class_part set only in
      let critical = critical_lines only.critical set.scope only.of in
      let closing = closing_lines (length (blocks_in set only)) (length set.devices) (found_in set only) in
      filter-append p ((opening ++ ((enum ++ shown) ++ classes)) ++ critical) closing
      ∙ (λ i. filter-append p (opening ++ ((enum ++ shown) ++ classes)) critical i ++ gone closing refl i)
      ∙ (λ i. (filter-append p opening ((enum ++ shown) ++ classes) i
      ++ gone critical (critical_all (λ l. not (is_filter l)) (λ e d. refl) only.critical set.scope only.of) i) ++ [])
      ∙ (λ i. ((gone opening (opening_all (λ l. not (is_filter l)) number set only refl (λ d. refl) refl) i
      ++ filter-append p (enum ++ shown) classes i) ++ []) ++ [])
      ∙ (λ i. ((filter-append p enum shown i ++ filter p classes) ++ []) ++ [])
      ∙ (λ i. (((gone enum (when_all (λ l. not (is_filter l)) (not set.has_enum) lines.NoEnum refl) i
      ++ gone shown (shown_all (λ l. not (is_filter l)) about_no_filter (λ s c q. refl) only set.scope set.devices) i) ++ filter p classes) ++ []) ++ [])
      ∙ append-nil (filter p classes ++ []) ∙ append-nil (filter p classes)

  -- malformed lists have none
  pub malformed_gone : (t : Tree) → filter p (malformed_of None t) ≡ []
  malformed_gone t =
      gone (malformed_of None t) (map_all (λ l. not (is_filter l)) (malformed_at t) (filter (has_malformed t) filter_fields) (λ f. refl))

-- ---- the filters of this name

this_only : (name : List ℕ) (l : DeviceLine) → not (is_filter l) ≡ true → not (is_filter_of name l) ≡ true
this_only name (lines.ClassFilter role class key driver) h = absurd (false≢true h)
this_only name l h = refl

-- one name of a list
this_one : (name : List ℕ) (role : Role) (t : Tree) (n : List ℕ) (d : Driver) → d.name ≡ n → (b : Bool) → folds_same name n ≡ b
    → filter (is_filter_of name) (filter_when None role t (cond b (record { name = n; state = states.Disabled }) d))
    ≡ cond b (filter_loss role t n ∷ []) []
this_one name role t n d e true is = ap (λ c. cond c (filter_loss role t n ∷ []) []) is
this_one name role t n d e false is = by (is_prevented d.state)
  where
    by : (c : Bool) → filter (is_filter_of name) (cond (c && true) (lines.ClassFilter role (label_of t) (head t).name d ∷ []) []) ≡ []
    by true = ap (λ b. cond b (lines.ClassFilter role (label_of t) (head t).name d ∷ []) []) (ap (folds_same name) e ∙ is)
    by false = refl

joined : (name : List ℕ) (role : Role) (t : Tree) (n : List ℕ) (ns : List (List ℕ)) (b : Bool)
    → cond b (filter_loss role t n ∷ []) [] ++ map (filter_loss role t) (filter (folds_same name) ns)
    ≡ map (filter_loss role t) (cond b (n ∷ filter (folds_same name) ns) (filter (folds_same name) ns))
joined name role t n ns true = refl
joined name role t n ns false = refl

these : (keys : SetKeys) (name : List ℕ) → IsService name keys → (role : Role) (t : Tree) (ns : List (List ℕ))
    → filter (is_filter_of name) (filter_lines (children_of (without_driver name keys).services) None role t ns)
    ≡ map (filter_loss role t) (filter (folds_same name) ns)
these keys name service role t [] = refl
these keys name service role t (n ∷ ns) =
    let after = children_of (without_driver name keys).services in
    filter-append (is_filter_of name) (filter_line after None role t n) (filter_lines after None role t ns)
    ∙ (λ i. filter (is_filter_of name) (filter_when None role t (driver_off keys name n service i)) ++ these keys name service role t ns i)
    ∙ ap (λ (ls : List DeviceLine). ls ++ map (filter_loss role t) (filter (folds_same name) ns))
    (this_one name role t n (driver_of (children_of keys.services) n) refl (folds_same name n) refl)
    ∙ joined name role t n ns (folds_same name n)

class_lost : (keys : SetKeys) (name : List ℕ) → IsService name keys → (t : Tree)
    → filter (is_filter_of name) (class_lines (children_of (without_driver name keys).services) None t) ≡ class_losses name t
class_lost keys name service t =
    let after = children_of (without_driver name keys).services in
    let ls = names_of (codes "LowerFilters") t in
    let us = names_of (codes "UpperFilters") t in
    filter-append (is_filter_of name) (malformed_of None t ++ filter_lines after None Lower t ls) (filter_lines after None Upper t us)
    ∙ (λ i. filter-append (is_filter_of name) (malformed_of None t) (filter_lines after None Lower t ls) i
    ++ these keys name service Upper t us i)
    ∙ (λ i. (malformed_gone (is_filter_of name) (this_only name) t i ++ these keys name service Lower t ls i)
    ++ map (filter_loss Upper t) (filter (folds_same name) us))

classes_lost : (keys : SetKeys) (name : List ℕ) → IsService name keys → (ts : List Tree)
    → filter (is_filter_of name) (all_class_lines (children_of (without_driver name keys).services) None ts) ≡ flat_map (class_losses name) ts
classes_lost keys name service [] = refl
classes_lost keys name service (t ∷ ts) =
    let after = children_of (without_driver name keys).services in
    filter-append (is_filter_of name) (class_lines after None t) (all_class_lines after None ts)
    ∙ (λ i. class_lost keys name service t i ++ classes_lost keys name service ts i)

pub filters_lost : FiltersAreLost
filters_lost number keys only name service e =
    among_classes (is_filter_of name) (this_only name) number (without_driver name keys) only
    ∙ ap (λ (o : Option (List ℕ)). filter (is_filter_of name)
    (all_class_lines (children_of (without_driver name keys).services) o (children_of keys.classes))) e
    ∙ classes_lost keys name service (children_of keys.classes)

-- ---- the others

other_only : (name : List ℕ) (l : DeviceLine) → not (is_filter l) ≡ true → not (is_other_filter name l) ≡ true
other_only name (lines.ClassFilter role class key driver) h = absurd (false≢true h)
other_only name l h = refl

other_one : (name : List ℕ) (role : Role) (t : Tree) (n : List ℕ) (d : Driver) → d.name ≡ n → (b : Bool) → folds_same name n ≡ b
    → filter (is_other_filter name) (filter_when None role t (cond b (record { name = n; state = states.Disabled }) d))
    ≡ filter (is_other_filter name) (filter_when None role t d)
other_one name role t n d e false is = refl
other_one name role t n d e true is =
    ap (λ c. cond (not c) (filter_loss role t n ∷ []) []) is ∙ by (is_prevented d.state)
  where
    by : (c : Bool) → [] ≡ filter (is_other_filter name) (cond (c && true) (lines.ClassFilter role (label_of t) (head t).name d ∷ []) [])
    by true = sym (ap (λ b. cond (not b) (lines.ClassFilter role (label_of t) (head t).name d ∷ []) []) (ap (folds_same name) e ∙ is))
    by false = refl

others : (keys : SetKeys) (name : List ℕ) → IsService name keys → (role : Role) (t : Tree) (ns : List (List ℕ))
    → filter (is_other_filter name) (filter_lines (children_of (without_driver name keys).services) None role t ns)
    ≡ filter (is_other_filter name) (filter_lines (children_of keys.services) None role t ns)
others keys name service role t [] = refl
others keys name service role t (n ∷ ns) =
    let before = children_of keys.services in
    let after = children_of (without_driver name keys).services in
    filter-append (is_other_filter name) (filter_line after None role t n) (filter_lines after None role t ns)
    ∙ (λ i. filter (is_other_filter name) (filter_when None role t (driver_off keys name n service i)) ++ others keys name service role t ns i)
    ∙ ap (λ (ls : List DeviceLine). ls ++ filter (is_other_filter name) (filter_lines before None role t ns))
    (other_one name role t n (driver_of before n) refl (folds_same name n) refl)
    ∙ sym (filter-append (is_other_filter name) (filter_line before None role t n) (filter_lines before None role t ns))

class_stays : (keys : SetKeys) (name : List ℕ) → IsService name keys → (t : Tree)
    → filter (is_other_filter name) (class_lines (children_of (without_driver name keys).services) None t)
    ≡ filter (is_other_filter name) (class_lines (children_of keys.services) None t)
class_stays keys name service t =
    let before = children_of keys.services in
    let after = children_of (without_driver name keys).services in
    let q = is_other_filter name in
    let ls = names_of (codes "LowerFilters") t in
    let us = names_of (codes "UpperFilters") t in
    filter-append q (malformed_of None t ++ filter_lines after None Lower t ls) (filter_lines after None Upper t us)
    ∙ (λ i. filter-append q (malformed_of None t) (filter_lines after None Lower t ls) i ++ others keys name service Upper t us i)
    ∙ (λ i. (filter q (malformed_of None t) ++ others keys name service Lower t ls i) ++ filter q (filter_lines before None Upper t us))
    ∙ (λ i. sym (filter-append q (malformed_of None t) (filter_lines before None Lower t ls)) i ++ filter q (filter_lines before None Upper t us))
    ∙ sym (filter-append q (malformed_of None t ++ filter_lines before None Lower t ls) (filter_lines before None Upper t us))

classes_stay : (keys : SetKeys) (name : List ℕ) → IsService name keys → (ts : List Tree)
    → filter (is_other_filter name) (all_class_lines (children_of (without_driver name keys).services) None ts)
    ≡ filter (is_other_filter name) (all_class_lines (children_of keys.services) None ts)
classes_stay keys name service [] = refl
classes_stay keys name service (t ∷ ts) =
    let before = children_of keys.services in
    let after = children_of (without_driver name keys).services in
    filter-append (is_other_filter name) (class_lines after None t) (all_class_lines after None ts)
    ∙ (λ i. class_stays keys name service t i ++ classes_stay keys name service ts i)
    ∙ sym (filter-append (is_other_filter name) (class_lines before None t) (all_class_lines before None ts))

pub others_stay : OtherFiltersStay
others_stay number keys only name service e =
    let before = children_of keys.services in
    let after = children_of (without_driver name keys).services in
    let q = is_other_filter name in
    among_classes q (other_only name) number (without_driver name keys) only
    ∙ ap (λ (o : Option (List ℕ)). filter q (all_class_lines after o (children_of keys.classes))) e
    ∙ classes_stay keys name service (children_of keys.classes)
    ∙ ap (λ (o : Option (List ℕ)). filter q (all_class_lines before o (children_of keys.classes))) (sym e)
    ∙ sym (among_classes q (other_only name) number keys only)
