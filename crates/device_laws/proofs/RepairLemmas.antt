-- After a repair nothing is found.
use Rattle.std.proofs.Common.{◌≡◌, ℕ, ◌+◌, Bool, true, false, not, cond, List, [], ◌∷◌, ◌++◌, length, map, filter, Option, Some, None, refl, sym, ap, ◌∙◌, arith}
use Rattle.std.specs.Prelude.{◌&&◌, ◌||◌, sum_by, codes, option_map}
use Rattle.std.specs.List.{list_all, list_any}
use Rattle.std.specs.Option.{option_to_list}
use Rattle.std.proofs.lemmas.Bool.{and_from, eqb-true}
use Rattle.std.proofs.lemmas.List.Elements.{filter-append}
use Rattle.hive_model.specs.Tree.{Tree, head}
use Rattle.device_rule.specs.declared.scope.SetKeys.{SetKeys}
use Rattle.device_rule.specs.declared.device.Device.{Device}
use Rattle.device_rule.specs.Values.{text_of, names_of, children_of}
use Rattle.device_rule.specs.Devices.{device_state, is_enabled, devices_of, class_of, class_names, filter_fields, all_fields, has_malformed, block_of, block_findings}
use Rattle.device_rule.specs.Classes.{all_class_lines}
use Rattle.device_rule.specs.Report.{set_of, is_shown, enum_lines, device_findings}
use Rattle.device_laws.specs.Findings.{only_of, is_good, stack_names, is_sound_device, is_sound_class}
use Rattle.device_laws.specs.Repaired.{good_only, RepairsClasses, RepairsDevices, changed_device, IsRepair, RepairedIsSound, names_in, GoodStackStays}
use Rattle.device_laws.proofs.BareLemmas.{find_changed}
use Rattle.device_laws.proofs.FoundLemmas.{findings_stay}
use Rattle.device_laws.proofs.SoundLemmas.{blocks_quiet, classes_quiet}

-- ---- lists of what is good

all_good : {X : Type 0} (p : X → Bool) (xs : List X) → list_all p (filter p xs) ≡ true
all_good p [] = refl
all_good p (x ∷ xs) = go (p x) refl (all_good p xs)
  where
    go : (b : Bool) → p x ≡ b → list_all p (filter p xs) ≡ true → list_all p (cond b (x ∷ filter p xs) (filter p xs)) ≡ true
    go true is rest = and_from (p x) (list_all p (filter p xs)) is rest
    go false is rest = rest

good_named : (services : List Tree) (o : Option (List ℕ))
    → option_to_list (good_only services o) ≡ filter (is_good services) (option_to_list o)
good_named services None = refl
good_named services (Some name) = by (is_good services name)
  where
    by : (b : Bool) → option_to_list (cond b (Some name) None) ≡ cond b (name ∷ []) []
    by true = refl
    by false = refl

-- ---- a stack

class_good : (services : List Tree) (name : List ℕ) (change : Tree → Tree)
    → ((t : Tree) → names_of name (change t) ≡ filter (is_good services) (names_of name t)) → (o : Option Tree)
    → class_names name (option_map change o) ≡ filter (is_good services) (class_names name o)
class_good services name change e None = refl
class_good services name change e (Some t) = e t

class_there : (change : Tree → Tree) → ((t : Tree) → (head (change t)).name ≡ (head t).name) → (classes : List Tree) (guid : Option (List ℕ))
    → class_of (map change classes) guid ≡ option_map change (class_of classes guid)
class_there change keeps classes None = refl
class_there change keeps classes (Some name) = find_changed change keeps name classes

stack_good : (services : List Tree) (class device : Tree → Tree) → RepairsClasses services class → RepairsDevices services device
    → (c : Option Tree) (t : Tree) → is_enabled (device_state t) ≡ true
    → stack_names (option_map class c) (device t) ≡ filter (is_good services) (stack_names c t)
stack_good services class device classes devices c t on =
    let good = is_good services in
    let ns = names_of (codes "LowerFilters") t in
    let cs = class_names (codes "LowerFilters") c in
    let ss = option_to_list (text_of (codes "Service") t) in
    let us = names_of (codes "UpperFilters") t in
    let vs = class_names (codes "UpperFilters") c in
    (λ i. (((devices.lower t on i ++ class_good services (codes "LowerFilters") class classes.lower c i)
    ++ (ap option_to_list (devices.service t on) ∙ good_named services (text_of (codes "Service") t)) i)
    ++ devices.upper t on i)
    ++ class_good services (codes "UpperFilters") class classes.upper c i)
    ∙ (λ i. ((sym (filter-append good ns cs) i ++ filter good ss) ++ filter good us) ++ filter good vs)
    ∙ (λ i. (sym (filter-append good (ns ++ cs) ss) i ++ filter good us) ++ filter good vs)
    ∙ (λ i. sym (filter-append good ((ns ++ cs) ++ ss) us) i ++ filter good vs)
    ∙ sym (filter-append good (((ns ++ cs) ++ ss) ++ us) vs)

pub good_stays : GoodStackStays
good_stays before after class device d repair on =
    let services = children_of before.services in
    let guid = text_of (codes "ClassGUID") d.key in
    (λ i. stack_names (class_of (repair.classes i) (repair.device_repairs.guid d.key i)) (device d.key))
    ∙ ap (λ (o : Option Tree). stack_names o (device d.key)) (class_there class repair.class_repairs.name (children_of before.classes) guid)
    ∙ stack_good services class device repair.class_repairs repair.device_repairs (class_of (children_of before.classes) guid) d.key on

-- ---- findings

device_sound : (before after : SetKeys) (class device : Tree → Tree) → IsRepair before after class device → (d : Device)
    → is_sound_device (children_of before.services) (children_of after.classes) (changed_device device d) ≡ true
device_sound before after class device repair d = go (is_enabled (device_state d.key)) refl
  where
    services : List Tree
    services = children_of before.services

    rest : Bool
    rest = not (list_any (has_malformed (device d.key)) all_fields) && list_all (is_good services) (names_in after (changed_device device d))

    go : (b : Bool) → is_enabled (device_state d.key) ≡ b → (not (is_enabled (device_state (device d.key))) || rest) ≡ true
    go false off = ap (λ c. not c || rest) (ap is_enabled (repair.device_repairs.state d.key) ∙ off)
    go true on =
        ap (λ c. not c || rest) (ap is_enabled (repair.device_repairs.state d.key) ∙ on)
        ∙ and_from (not (list_any (has_malformed (device d.key)) all_fields)) (list_all (is_good services) (names_in after (changed_device device d)))
        (ap not (repair.device_repairs.whole d.key on))
        (ap (list_all (is_good services)) (good_stays before after class device d repair on) ∙ all_good (is_good services) (names_in before d))

devices_sound : (before after : SetKeys) (class device : Tree → Tree) → IsRepair before after class device → (ds : List Device)
    → list_all (is_sound_device (children_of before.services) (children_of after.classes)) (map (changed_device device) ds) ≡ true
devices_sound before after class device repair [] = refl
devices_sound before after class device repair (d ∷ ds) =
    and_from (is_sound_device (children_of before.services) (children_of after.classes) (changed_device device d)) _
    (device_sound before after class device repair d) (devices_sound before after class device repair ds)

class_sound : (services : List Tree) (class : Tree → Tree) → RepairsClasses services class → (t : Tree) → is_sound_class services (class t) ≡ true
class_sound services class classes t =
    and_from (not (list_any (has_malformed (class t)) filter_fields) && list_all (is_good services) (names_of (codes "LowerFilters") (class t)))
    (list_all (is_good services) (names_of (codes "UpperFilters") (class t)))
    (and_from (not (list_any (has_malformed (class t)) filter_fields)) (list_all (is_good services) (names_of (codes "LowerFilters") (class t)))
    (ap not (classes.whole t))
    (ap (list_all (is_good services)) (classes.lower t) ∙ all_good (is_good services) (names_of (codes "LowerFilters") t)))
    (ap (list_all (is_good services)) (classes.upper t) ∙ all_good (is_good services) (names_of (codes "UpperFilters") t))

classes_sound : (services : List Tree) (class : Tree → Tree) → RepairsClasses services class → (ts : List Tree)
    → list_all (is_sound_class services) (map class ts) ≡ true
classes_sound services class classes [] = refl
classes_sound services class classes (t ∷ ts) =
    and_from (is_sound_class services (class t)) _ (class_sound services class classes t) (classes_sound services class classes ts)

pub repaired_sound : RepairedIsSound
unfolding device_findings
repaired_sound before after class device only repair e =
    let set = set_of after in
    let shown = sum_by block_findings (filter (is_shown (only_of None)) (map (block_of false set.scope) set.devices)) in
    let classes = length (all_class_lines set.scope.services None set.scope.classes) in
    let none : shown ≡ 0 =
    eqb-true shown 0
    (blocks_quiet set.scope set.devices
    ∙ (λ i. list_all (is_sound_device (children_of (repair.services i)) (children_of after.classes)) (repair.devices i))
    ∙ devices_sound before after class device repair (devices_of before.devices)) in
    let no_class : classes ≡ 0 =
    eqb-true classes 0
    (classes_quiet set.scope.services set.scope.classes
    ∙ (λ i. list_all (is_sound_class (children_of (repair.services i))) (repair.classes i))
    ∙ classes_sound (children_of before.services) class repair.class_repairs (children_of before.classes)) in
    findings_stay (Some after) only ∙ ap (λ (o : Option (List ℕ)). device_findings (Some after) (only_of o)) e
    ∙ sum_of (length (enum_lines set)) shown classes none no_class
  where
    sum_of : (a b c : ℕ) → b ≡ 0 → c ≡ 0 → a + b + c ≡ a
    sum_of a b c e f = omega arith
