-- Nothing is found exactly where nothing is wrong.
use Rattle.std.proofs.Common.{◌≡◌, ℕ, zero, suc, ◌+◌, Bool, true, false, not, cond, List, [], ◌∷◌, ◌++◌, length, map, filter, Option, Some, None, refl, sym, ap, ◌∙◌, append-nil, arith, eq-eqb}
use Rattle.std.specs.Prelude.{◌&&◌, ◌||◌, ◌==◌, count_by, sum_by, codes}
use Rattle.std.specs.List.{list_all, list_any}
use Rattle.std.specs.Option.{option_to_list}
use Rattle.std.proofs.lemmas.Bool.{eqb-true, ne_eqb}
use Rattle.std.proofs.lemmas.List.Folds.{list_all-append}
use Rattle.std.proofs.lemmas.List.Sums.{sum_by-cons}
use Rattle.hive_model.specs.Tree.{Tree, head}
use Rattle.device_rule.specs.declared.lines.Driver.{Driver}
use Rattle.device_rule.specs.declared.lines.Field.{Field}
use Rattle.device_rule.specs.declared.lines.Role.{Role}
use Rattle.device_rule.specs.declared.lines.Role.TheVariants.{Lower, ClassLower, Upper, ClassUpper}
use Rattle.device_rule.specs.declared.lines.DeviceLine.{DeviceLine}
use Rattle.device_rule.specs.declared.lines.DeviceLine.TheVariants as lines
use Rattle.device_rule.specs.declared.scope.Scope.{Scope}
use Rattle.device_rule.specs.declared.scope.SetKeys.{SetKeys}
use Rattle.device_rule.specs.declared.scope.Selection.{Selection}
use Rattle.device_rule.specs.declared.device.Device.{Device}
use Rattle.device_rule.specs.Values.{text_of, names_of, number_of}
use Rattle.device_rule.specs.Drivers.{driver_of, is_prevented}
use Rattle.device_rule.specs.Devices.{line_when, device_state, is_enabled, text_lines, flags_lines, called, filter_fields, all_fields, has_malformed, malformed_lines, about_lines, loads, function_lines, class_of, class_names, stack_lines, block_of, is_fault, block_findings}
use Rattle.device_rule.specs.Classes.{label_of, malformed_at, malformed_of, filter_when, filter_line, filter_lines, class_lines, all_class_lines}
use Rattle.device_rule.specs.Report.{set_of, is_shown, enum_lines, class_part, device_findings}
use Rattle.device_laws.specs.Findings.{only_of, is_good, stack_names, is_sound_device, is_sound_class, is_sound, NothingFoundIsSound}
use Rattle.device_laws.proofs.SameLemmas.{own_lines}
use Rattle.device_laws.proofs.FoundLemmas.{findings_stay}

-- ---- sums that are nothing

suc_zero : (n : ℕ) → (suc n == 0) ≡ false
suc_zero n = ne_eqb (suc n) 0 (λ e. omega (arith, e))

sum_zero : (a b : ℕ) → (a + b == 0) ≡ ((a == 0) && (b == 0))
sum_zero zero b = ap (λ (n : ℕ). n == 0) (plus b)
  where
    plus : (n : ℕ) → 0 + n ≡ n
    plus n = omega arith
sum_zero (suc a) b = ne_eqb (suc a + b) 0 (λ e. omega (arith, e)) ∙ sym (ap (λ c. c && (b == 0)) (suc_zero a))

-- a list is empty where both of its parts are
parts_zero : {X : Type 0} (xs ys : List X) → (length (xs ++ ys) == 0) ≡ ((length xs == 0) && (length ys == 0))
parts_zero [] ys = refl
parts_zero (x ∷ xs) ys = suc_zero (length (xs ++ ys)) ∙ sym (ap (λ c. c && (length ys == 0)) (suc_zero (length xs)))

when_zero : (b : Bool) (l : DeviceLine) → (length (line_when (not b) l) == 0) ≡ b
when_zero true l = refl
when_zero false l = refl

-- ---- malformed values

field_quiet : (fs : List Field) (t : Tree)
    → list_all (λ l. not (is_fault l)) (map lines.Malformed (filter (has_malformed t) fs)) ≡ not (list_any (has_malformed t) fs)
unfolding is_fault
field_quiet [] t = refl
field_quiet (f ∷ fs) t = by (has_malformed t f) (filter (has_malformed t) fs) (list_any (has_malformed t) fs) (field_quiet fs t)
  where
    by : (b : Bool) (more : List Field) (any : Bool) → list_all (λ l. not (is_fault l)) (map lines.Malformed more) ≡ not any
        → list_all (λ l. not (is_fault l)) (map lines.Malformed (cond b (f ∷ more) more)) ≡ not (b || any)
    by true more any e = refl
    by false more any e = e

class_quiet : (fs : List Field) (t : Tree)
    → (length (map (malformed_at t) (filter (has_malformed t) fs)) == 0) ≡ not (list_any (has_malformed t) fs)
class_quiet [] t = refl
class_quiet (f ∷ fs) t = by (has_malformed t f) (filter (has_malformed t) fs) (list_any (has_malformed t) fs) (class_quiet fs t)
  where
    by : (b : Bool) (more : List Field) (any : Bool) → (length (map (malformed_at t) more) == 0) ≡ not any
        → (length (map (malformed_at t) (cond b (f ∷ more) more)) == 0) ≡ not (b || any)
    by true more any e = suc_zero (length (map (malformed_at t) more))
    by false more any e = e

-- ---- a stack

abbrev is_quiet : DeviceLine → Bool
is_quiet line = not (is_fault line)

loads_quiet : (services : List Tree) (role : Role) (names : List (List ℕ))
    → list_all is_quiet (loads services role names) ≡ list_all (is_good services) names
unfolding is_fault
loads_quiet services role [] = refl
loads_quiet services role (n ∷ ns) = ap (λ b. is_good services n && b) (loads_quiet services role ns)

function_quiet : (services : List Tree) (o : Option (List ℕ))
    → list_all is_quiet (function_lines services o) ≡ list_all (is_good services) (option_to_list o)
unfolding is_fault
function_quiet services None = refl
function_quiet services (Some name) = refl

stack_quiet : (services : List Tree) (class : Option Tree) (t : Tree)
    → list_all is_quiet (stack_lines services class t) ≡ list_all (is_good services) (stack_names class t)
stack_quiet services class t =
    let good = is_good services in
    let ns = names_of (codes "LowerFilters") t in
    let cs = class_names (codes "LowerFilters") class in
    let ss = option_to_list (text_of (codes "Service") t) in
    let us = names_of (codes "UpperFilters") t in
    let vs = class_names (codes "UpperFilters") class in
    let a = loads services Lower ns in
    let b = loads services ClassLower cs in
    let f = function_lines services (text_of (codes "Service") t) in
    let u = loads services Upper us in
    let v = loads services ClassUpper vs in
    list_all-append is_quiet (((a ++ b) ++ f) ++ u) v
    ∙ (λ i. list_all-append is_quiet ((a ++ b) ++ f) u i && loads_quiet services ClassUpper vs i)
    ∙ (λ i. (list_all-append is_quiet (a ++ b) f i && loads_quiet services Upper us i) && list_all good vs)
    ∙ (λ i. ((list_all-append is_quiet a b i && function_quiet services (text_of (codes "Service") t) i) && list_all good us) && list_all good vs)
    ∙ (λ i. (((loads_quiet services Lower ns i && loads_quiet services ClassLower cs i) && list_all good ss) && list_all good us) && list_all good vs)
    ∙ (λ i. ((sym (list_all-append good ns cs) i && list_all good ss) && list_all good us) && list_all good vs)
    ∙ (λ i. (sym (list_all-append good (ns ++ cs) ss) i && list_all good us) && list_all good vs)
    ∙ (λ i. sym (list_all-append good ((ns ++ cs) ++ ss) us) i && list_all good vs)
    ∙ sym (list_all-append good (((ns ++ cs) ++ ss) ++ us) vs)

-- ---- a block

texts_quiet : (o : Option (List ℕ)) → list_all is_quiet (text_lines o) ≡ true
unfolding is_fault
texts_quiet None = refl
texts_quiet (Some text) = refl

flags_quiet : (n : ℕ) → list_all is_quiet (flags_lines n) ≡ true
unfolding is_fault
flags_quiet n = by (n == 0)
  where
    by : (b : Bool) → list_all is_quiet (cond b [] (lines.Flags n ∷ [])) ≡ true
    by true = refl
    by false = refl

about_quiet : (t : Tree) → list_all is_quiet (about_lines t) ≡ not (list_any (has_malformed t) all_fields)
about_quiet t =
    let texts = text_lines (called t) in
    let flags = flags_lines (number_of (codes "ConfigFlags") t) in
    list_all-append is_quiet (texts ++ flags) (malformed_lines t)
    ∙ (λ i. list_all-append is_quiet texts flags i && field_quiet all_fields t i)
    ∙ (λ i. (texts_quiet (called t) i && flags_quiet (number_of (codes "ConfigFlags") t) i) && not (list_any (has_malformed t) all_fields))

one_zero : (b : Bool) → (cond b 1 0 == 0) ≡ not b
one_zero true = refl
one_zero false = refl

counted : (xs : List DeviceLine) → (count_by is_fault xs == 0) ≡ list_all is_quiet xs
counted [] = refl
counted (x ∷ xs) =
    ap (λ (n : ℕ). n == 0) (sum_by-cons (λ l. cond (is_fault l) 1 0) x xs)
    ∙ sum_zero (cond (is_fault x) 1 0) (count_by is_fault xs) ∙ (λ i. one_zero (is_fault x) i && counted xs i)

own_quiet : (services classes : List Tree) (scope : Scope) (d : Device) → scope.services ≡ services → scope.classes ≡ classes
    → list_all is_quiet (own_lines scope d)
    ≡ (not (list_any (has_malformed d.key) all_fields)
    && list_all (is_good services) (stack_names (class_of classes (text_of (codes "ClassGUID") d.key)) d.key))
own_quiet services classes scope d e f =
    let class = class_of scope.classes (text_of (codes "ClassGUID") d.key) in
    list_all-append is_quiet (about_lines d.key) (stack_lines scope.services class d.key)
    ∙ (λ i. about_quiet d.key i && stack_quiet scope.services class d.key i)
    ∙ (λ i. not (list_any (has_malformed d.key) all_fields)
    && list_all (is_good (e i)) (stack_names (class_of (f i) (text_of (codes "ClassGUID") d.key)) d.key))

lines_quiet : (scope : Scope) (d : Device)
    → list_all is_quiet (block_of false scope d).lines ≡ list_all is_quiet (own_lines scope d)
unfolding is_fault
lines_quiet scope d = ap (list_all is_quiet) (append-nil (own_lines scope d))

enabled_quiet : (e : Bool) (n : ℕ) → (cond e n 0 == 0) ≡ (not e || (n == 0))
enabled_quiet true n = refl
enabled_quiet false n = refl

block_quiet : (scope : Scope) (d : Device)
    → (block_findings (block_of false scope d) == 0) ≡ is_sound_device scope.services scope.classes d
block_quiet scope d =
    enabled_quiet (is_enabled (device_state d.key)) (count_by is_fault (block_of false scope d).lines)
    ∙ (λ i. not (is_enabled (device_state d.key)) || counted (block_of false scope d).lines i)
    ∙ (λ i. not (is_enabled (device_state d.key)) || lines_quiet scope d i)
    ∙ (λ i. not (is_enabled (device_state d.key)) || own_quiet scope.services scope.classes scope d refl refl i)

pub blocks_quiet : (scope : Scope) (ds : List Device)
    → (sum_by block_findings (filter (is_shown (only_of None)) (map (block_of false scope) ds)) == 0)
    ≡ list_all (is_sound_device scope.services scope.classes) ds
blocks_quiet scope [] = refl
blocks_quiet scope (d ∷ ds) =
    ap (λ (n : ℕ). n == 0)
    (sum_by-cons block_findings (block_of false scope d) (filter (is_shown (only_of None)) (map (block_of false scope) ds)))
    ∙ sum_zero (block_findings (block_of false scope d)) (sum_by block_findings (filter (is_shown (only_of None)) (map (block_of false scope) ds)))
    ∙ (λ i. block_quiet scope d i && blocks_quiet scope ds i)

-- ---- the class keys

filter_quiet : (role : Role) (t : Tree) (d : Driver) → (length (filter_when None role t d) == 0) ≡ not (is_prevented d.state)
filter_quiet role t d = by (is_prevented d.state)
  where
    by : (b : Bool) → (length (cond (b && true) (lines.ClassFilter role (label_of t) (head t).name d ∷ []) []) == 0) ≡ not b
    by true = refl
    by false = refl

filters_quiet : (services : List Tree) (role : Role) (t : Tree) (names : List (List ℕ))
    → (length (filter_lines services None role t names) == 0) ≡ list_all (is_good services) names
filters_quiet services role t [] = refl
filters_quiet services role t (n ∷ ns) =
    parts_zero (filter_line services None role t n) (filter_lines services None role t ns)
    ∙ (λ i. filter_quiet role t (driver_of services n) i && filters_quiet services role t ns i)

one_class : (services : List Tree) (t : Tree) → (length (class_lines services None t) == 0) ≡ is_sound_class services t
one_class services t =
    let ns = names_of (codes "LowerFilters") t in
    let us = names_of (codes "UpperFilters") t in
    parts_zero (malformed_of None t ++ filter_lines services None Lower t ns) (filter_lines services None Upper t us)
    ∙ (λ i. parts_zero (malformed_of None t) (filter_lines services None Lower t ns) i && filters_quiet services Upper t us i)
    ∙ (λ i. (class_quiet filter_fields t i && filters_quiet services Lower t ns i) && list_all (is_good services) us)

pub classes_quiet : (services classes : List Tree)
    → (length (all_class_lines services None classes) == 0) ≡ list_all (is_sound_class services) classes
classes_quiet services [] = refl
classes_quiet services (t ∷ ts) =
    parts_zero (class_lines services None t) (all_class_lines services None ts)
    ∙ (λ i. one_class services t i && classes_quiet services ts i)

-- ---- the set

all_quiet : (keys : Option SetKeys) → (device_findings keys (only_of None) == 0) ≡ is_sound keys
unfolding device_findings
all_quiet None = refl
all_quiet (Some keys) =
    let set = set_of keys in
    let enum = length (enum_lines set) in
    let shown = sum_by block_findings (filter (is_shown (only_of None)) (map (block_of false set.scope) set.devices)) in
    let classes = length (class_part set (only_of None)) in
    sum_zero (enum + shown) classes
    ∙ (λ i. sum_zero enum shown i && classes_quiet set.scope.services set.scope.classes i)
    ∙ (λ i. (when_zero set.has_enum lines.NoEnum i && blocks_quiet set.scope set.devices i)
    && list_all (is_sound_class set.scope.services) set.scope.classes)

as_plain : (keys : Option SetKeys) (only : Selection) → only.of ≡ None → device_findings keys only ≡ device_findings keys (only_of None)
as_plain keys only e = findings_stay keys only ∙ ap (λ (o : Option (List ℕ)). device_findings keys (only_of o)) e

pub nothing_is_sound : NothingFoundIsSound
nothing_is_sound keys only e =
    let n = device_findings keys only in
    let same : (n == 0) ≡ is_sound keys = ap (λ (k : ℕ). k == 0) (as_plain keys only e) ∙ all_quiet keys in
    (λ none. sym same ∙ eq-eqb n 0 none, λ sound. eqb-true n 0 (same ∙ sound))
