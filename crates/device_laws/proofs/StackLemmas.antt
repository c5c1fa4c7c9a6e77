-- The stack that a block tells is what the values name.
use Rattle.std.proofs.Common.{◌≡◌, ℕ, Bool, true, false, cond, List, [], ◌∷◌, ◌++◌, map, filter, Option, Some, None, refl, ap, ◌∙◌, append-nil}
use Rattle.std.specs.Prelude.{◌==◌, codes}
use Rattle.std.specs.List.{list_all}
use Rattle.std.proofs.lemmas.Bool.{and_parts, false≢true}
use Rattle.std.proofs.lemmas.List.Concat.{flat_map-append}
use Rattle.hive_model.specs.Tree.{Tree}
use Rattle.device_rule.specs.declared.lines.Field.{Field}
use Rattle.device_rule.specs.declared.lines.Role.{Role}
use Rattle.device_rule.specs.declared.lines.Role.TheVariants.{Lower, ClassLower, Upper, ClassUpper}
use Rattle.device_rule.specs.declared.lines.DeviceLine.{DeviceLine}
use Rattle.device_rule.specs.declared.lines.DeviceLine.TheVariants as lines
use Rattle.device_rule.specs.declared.scope.Scope.{Scope}
use Rattle.device_rule.specs.declared.scope.SetKeys.{SetKeys}
use Rattle.device_rule.specs.declared.device.Device.{Device}
use Rattle.device_rule.specs.Values.{text_of, names_of, number_of}
use Rattle.device_rule.specs.Database.{match_lines}
use Rattle.device_rule.specs.Devices.{devices_of, text_lines, flags_lines, called, all_fields, has_malformed, malformed_lines, about_lines, loads, function_lines, class_of, class_names, stack_lines, block_of}
use Rattle.device_rule.specs.Report.{scope_of}
use Rattle.device_laws.specs.Stacks.{Place, place_told, stack_told, place, places, function_place, stack_by, stack_named, StacksAreNamed}
use Rattle.device_laws.proofs.TellLemmas.{is_match, match_match}
use Rattle.device_laws.proofs.BlockLemmas.{every_block, all_read}

-- ---- lines without a place

none_told : (p : DeviceLine → Bool) (xs : List DeviceLine) → ((l : DeviceLine) → p l ≡ true → place_told l ≡ []) → list_all p xs ≡ true
    → stack_told xs ≡ []
none_told p [] by h = refl
none_told p (x ∷ xs) by h =
    let both = and_parts (p x) (list_all p xs) h in
    λ i. by x both.0 i ++ none_told p xs by both.1 i

match_no_place : (l : DeviceLine) → is_match l ≡ true → place_told l ≡ []
match_no_place (lines.Bound entry driver) h = refl
match_no_place lines.Unbound h = refl
match_no_place l h = absurd (false≢true h)

matches_told : (ids : Bool) (scope : Scope) (t : Tree) → stack_told (match_lines ids scope t) ≡ []
matches_told ids scope t = none_told is_match (match_lines ids scope t) match_no_place (match_match ids scope t)

texts_told : (o : Option (List ℕ)) → stack_told (text_lines o) ≡ []
texts_told None = refl
texts_told (Some text) = refl

flags_told : (n : ℕ) → stack_told (flags_lines n) ≡ []
flags_told n = by (n == 0)
  where
    by : (b : Bool) → stack_told (cond b [] (lines.Flags n ∷ [])) ≡ []
    by true = refl
    by false = refl

fields_told : (fs : List Field) → stack_told (map lines.Malformed fs) ≡ []
fields_told [] = refl
fields_told (f ∷ fs) = fields_told fs

about_told : (t : Tree) → stack_told (about_lines t) ≡ []
about_told t =
    let texts = text_lines (called t) in
    let flags = flags_lines (number_of (codes "ConfigFlags") t) in
    flat_map-append place_told (texts ++ flags) (malformed_lines t)
    ∙ (λ i. flat_map-append place_told texts flags i ++ fields_told (filter (has_malformed t) all_fields) i)
    ∙ (λ i. (texts_told (called t) i ++ flags_told (number_of (codes "ConfigFlags") t) i) ++ [])

-- ---- the stack

loads_told : (services : List Tree) (role : Role) (names : List (List ℕ)) → stack_told (loads services role names) ≡ places services role names
loads_told services role [] = refl
loads_told services role (n ∷ ns) = ap (λ (ps : List Place). place services role n ∷ ps) (loads_told services role ns)

function_told : (services : List Tree) (o : Option (List ℕ)) → stack_told (function_lines services o) ≡ function_place services o ∷ []
function_told services None = refl
function_told services (Some name) = refl

stack_same : (services : List Tree) (class : Option Tree) (t : Tree) → stack_told (stack_lines services class t) ≡ stack_by services class t
stack_same services class t =
    let a = loads services Lower (names_of (codes "LowerFilters") t) in
    let b = loads services ClassLower (class_names (codes "LowerFilters") class) in
    let f = function_lines services (text_of (codes "Service") t) in
    let u = loads services Upper (names_of (codes "UpperFilters") t) in
    let v = loads services ClassUpper (class_names (codes "UpperFilters") class) in
    flat_map-append place_told (((a ++ b) ++ f) ++ u) v
    ∙ ap (λ (x : List Place). x ++ stack_told v)
    (flat_map-append place_told ((a ++ b) ++ f) u
    ∙ ap (λ (x : List Place). x ++ stack_told u)
    (flat_map-append place_told (a ++ b) f ∙ ap (λ (x : List Place). x ++ stack_told f) (flat_map-append place_told a b)))
    ∙ (λ i. (((loads_told services Lower (names_of (codes "LowerFilters") t) i
    ++ loads_told services ClassLower (class_names (codes "LowerFilters") class) i)
    ++ function_told services (text_of (codes "Service") t) i)
    ++ loads_told services Upper (names_of (codes "UpperFilters") t) i)
    ++ loads_told services ClassUpper (class_names (codes "UpperFilters") class) i)

-- ---- a block

block_told : (ids : Bool) (keys : SetKeys) (d : Device) → stack_told (block_of ids (scope_of keys) d).lines ≡ stack_named keys d
block_told ids keys d =
    let scope = scope_of keys in
    let class = class_of scope.classes (text_of (codes "ClassGUID") d.key) in
    let stack = stack_lines scope.services class d.key in
    flat_map-append place_told (about_lines d.key ++ stack) (match_lines ids scope d.key)
    ∙ (λ i. flat_map-append place_told (about_lines d.key) stack i ++ matches_told ids scope d.key i)
    ∙ append-nil (stack_told (about_lines d.key) ++ stack_told stack)
    ∙ (λ i. about_told d.key i ++ stack_same scope.services class d.key i)

all_told : (ids : Bool) (keys : SetKeys) (ds : List Device)
    → map stack_told (every_block ids (scope_of keys) ds) ≡ map (stack_named keys) ds
all_told ids keys [] = refl
all_told ids keys (d ∷ ds) = λ i. block_told ids keys d i ∷ all_told ids keys ds i

pub stacks_named : StacksAreNamed
stacks_named number keys only =
    ap (map stack_told) (all_read number keys only) ∙ all_told only.ids keys (devices_of keys.devices)
