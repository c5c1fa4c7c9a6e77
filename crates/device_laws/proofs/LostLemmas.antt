-- What is told of devices after a service was turned off.
use Rattle.std.proofs.Common.{◌≡◌, ℕ, Bool, true, false, cond, List, [], ◌∷◌, ◌++◌, map, filter, Option, Some, None, refl, sym, ap, ◌∙◌}
use Rattle.std.specs.Prelude.{◌&&◌, ◌||◌, ◌==◌, find, codes, option_map, option_and_then}
use Rattle.std.specs.List.{list_any}
use Rattle.std.specs.Option.{is_some, option_or, option_map_or}
use Rattle.std.specs.Int.{w32, to_le_bytes}
use Rattle.std.proofs.lemmas.Bool.{false≢true, and_parts, eqb-true}
use Rattle.std.proofs.lemmas.List.{map-append}
use Rattle.std.proofs.lemmas.List.Folds.{find-append}
use Rattle.nt_bytes.specs.Folding.{folded_unit, folds_same}
use Rattle.hive_model.specs.Tree.{Tree, Item, key, listed, head, is_item, is_named, find_dword, dword_in}
use Rattle.hive_model.specs.Edit.{at_first, of_items, with_item}
use Rattle.reg_tree.proofs.Trees.{listed_trees}
use Rattle.import_steps.proofs.FindLemmas.{found_alike, found_changed, found_other}
use Rattle.device_rule.specs.declared.lines.DriverState.TheVariants as states
use Rattle.device_rule.specs.declared.lines.Field.{Field}
use Rattle.device_rule.specs.declared.lines.Role.{Role}
use Rattle.device_rule.specs.declared.lines.Role.TheVariants.{Lower, ClassLower, Function, Upper, ClassUpper}
use Rattle.device_rule.specs.declared.lines.DeviceLine.{DeviceLine}
use Rattle.device_rule.specs.declared.lines.DeviceLine.TheVariants as lines
use Rattle.device_rule.specs.declared.scope.SetKeys.{SetKeys}
use Rattle.device_rule.specs.declared.scope.Selection.{Selection}
use Rattle.device_rule.specs.declared.device.Device.{Device}
use Rattle.device_rule.specs.Values.{text_of, names_of, number_of, children_of}
use Rattle.device_rule.specs.Drivers.{begins_folded, is_built_in, start_state, key_state, state_of, driver_of, is_prevented}
use Rattle.device_rule.specs.Devices.{devices_of, device_state, class_name, class_of, class_names, called, text_lines, flags_lines, all_fields, has_malformed, malformed_lines, about_lines, loads, function_lines, stack_lines, block_of, is_fault, is_load_of}
use Rattle.device_rule.specs.Report.{scope_of, device_lines}
use Rattle.device_laws.specs.Told.{blocks_told}
use Rattle.device_laws.specs.Blocks.{of_all, is_wanted}
use Rattle.device_laws.specs.Lost.{turned_off, without_driver, IsService, lost_driver, lost_line, LinesAreLost, is_disabled, is_loss, of_driver, LosersAreTold, LossesAreFindings}
use Rattle.device_laws.proofs.BlockLemmas.{every_block, all_read, whole_stay}

-- ---- the key that is changed

abbrev start : List ℕ
start = codes "Start"

abbrev four : List ℕ
four = to_le_bytes w32 4

abbrev off : Tree → Tree
off t = of_items (with_item start 4 four) t

off_name : (t : Tree) → (head (off t)).name ≡ (head t).name
off_name (key h ts) = refl

item_set : (vs : List Item) → option_and_then dword_in (find (is_item start) (with_item start 4 four vs)) ≡ Some 4
item_set vs = go (find (is_item start) vs) refl
  where
    go : (o : Option Item) → find (is_item start) vs ≡ o
        → option_and_then dword_in (find (is_item start) (cond (is_some o)
        (at_first (is_item start) (λ v. record v { kind = 4; bytes = four }) vs) (vs ++ record { name = start; kind = 4; bytes = four } ∷ [])))
        ≡ Some 4
    go None e =
        ap (option_and_then dword_in)
        (find-append (is_item start) vs (record { name = start; kind = 4; bytes = four } ∷ [])
        ∙ ap (λ (o : Option Item). option_or o (Some (record { name = start; kind = 4; bytes = four }))) e)
    go (Some v) e =
        ap (option_and_then dword_in)
        (found_changed (λ (v : Item). v.name) start (λ v. record v { kind = 4; bytes = four }) (λ v. refl) vs
        ∙ ap (option_map (λ (v : Item). record v { kind = 4; bytes = four })) e)

start_set : (t : Tree) → find_dword start (off t) ≡ Some 4
start_set (key h ts) = item_set h.values

off_state : (t : Tree) → key_state (off t) ≡ states.Disabled
off_state t = ap (λ (o : Option ℕ). start_state o (find_dword (codes "Type") (off t))) (start_set t)

-- ---- the state of a driver then

services_off : (name : List ℕ) (o : Option Tree)
    → children_of (option_map (turned_off name) o) ≡ at_first (is_named name) off (children_of o)
services_off name None = refl
services_off name (Some (key h ts)) = listed_trees (at_first (is_named name) off (listed ts))

built_in_same : (front a b : List ℕ) → folds_same a b ≡ true → begins_folded front a ≡ begins_folded front b
built_in_same [] a b h = refl
built_in_same (x ∷ xs) [] [] h = refl
built_in_same (x ∷ xs) [] (b ∷ bs) h = absurd (false≢true h)
built_in_same (x ∷ xs) (a ∷ cs) [] h = absurd (false≢true h)
built_in_same (x ∷ xs) (a ∷ cs) (b ∷ bs) h =
    let both = and_parts (folded_unit a == folded_unit b) (folds_same cs bs) h in
    let unit = eqb-true (folded_unit a) (folded_unit b) both.0 in
    λ i. (folded_unit x == unit i) && built_in_same xs cs bs both.1 i

found_off : (o : Option Tree) → is_some o ≡ true → option_map_or key_state (option_map off o) states.NoKey ≡ states.Disabled
found_off None h = absurd (false≢true h)
found_off (Some t) h = off_state t

state_off : (services : List Tree) (name m : List ℕ) → is_some (find (is_named name) services) ≡ true → is_built_in name ≡ false
    → state_of (at_first (is_named name) off services) m ≡ cond (folds_same name m) states.Disabled (state_of services m)
state_off services name m there plain = go (folds_same name m) refl
  where
    go : (b : Bool) → folds_same name m ≡ b
        → state_of (at_first (is_named name) off services) m ≡ cond b states.Disabled (state_of services m)
    go true is =
        ap (λ c. cond c states.BuiltIn (option_map_or key_state (find (is_named m) (at_first (is_named name) off services)) states.NoKey))
        (sym (built_in_same (codes "\\Driver\\") name m is) ∙ plain)
        ∙ ap (λ (o : Option Tree). option_map_or key_state o states.NoKey)
        (found_alike (λ (t : Tree). (head t).name) name m is (at_first (is_named name) off services)
        ∙ found_changed (λ (t : Tree). (head t).name) name off off_name services)
        ∙ found_off (find (is_named name) services) there
    go false is =
        ap (λ (o : Option Tree). cond (is_built_in m) states.BuiltIn (option_map_or key_state o states.NoKey))
        (found_other (λ (t : Tree). (head t).name) name m off is off_name services)

pub driver_off : (keys : SetKeys) (name m : List ℕ) → IsService name keys
    → driver_of (children_of (without_driver name keys).services) m ≡ lost_driver name (driver_of (children_of keys.services) m)
driver_off keys name m service =
    (λ i. record { name = m; state = states_off i }) ∙ by (folds_same name m)
  where
    states_off : state_of (children_of (option_map (turned_off name) keys.services)) m
        ≡ cond (folds_same name m) states.Disabled (state_of (children_of keys.services) m)
    states_off =
        ap (λ (ts : List Tree). state_of ts m) (services_off name keys.services)
        ∙ state_off (children_of keys.services) name m service.there service.plain

    by : (b : Bool) → record { name = m; state = cond b states.Disabled (state_of (children_of keys.services) m) }
        ≡ cond b (record { name = m; state = states.Disabled }) (driver_of (children_of keys.services) m)
    by true = refl
    by false = refl

-- ---- the lines of a block

texts_kept : (name : List ℕ) (o : Option (List ℕ)) → text_lines o ≡ map (lost_line name) (text_lines o)
texts_kept name None = refl
texts_kept name (Some text) = refl

flags_kept : (name : List ℕ) (n : ℕ) → flags_lines n ≡ map (lost_line name) (flags_lines n)
flags_kept name n = by (n == 0)
  where
    by : (b : Bool) → cond b [] (lines.Flags n ∷ []) ≡ map (lost_line name) (cond b [] (lines.Flags n ∷ []))
    by true = refl
    by false = refl

fields_kept : (name : List ℕ) (fs : List Field) → map lines.Malformed fs ≡ map (lost_line name) (map lines.Malformed fs)
fields_kept name [] = refl
fields_kept name (f ∷ fs) = ap (λ (ls : List DeviceLine). lines.Malformed f ∷ ls) (fields_kept name fs)

about_kept : (name : List ℕ) (t : Tree) → about_lines t ≡ map (lost_line name) (about_lines t)
about_kept name t =
    let texts = text_lines (called t) in
    let flags = flags_lines (number_of (codes "ConfigFlags") t) in
    (λ i. (texts_kept name (called t) i ++ flags_kept name (number_of (codes "ConfigFlags") t) i)
    ++ fields_kept name (filter (has_malformed t) all_fields) i)
    ∙ (λ i. sym (map-append (lost_line name) texts flags) i ++ map (lost_line name) (malformed_lines t))
    ∙ sym (map-append (lost_line name) (texts ++ flags) (malformed_lines t))

loads_off : (keys : SetKeys) (name : List ℕ) → IsService name keys → (role : Role) (ns : List (List ℕ))
    → loads (children_of (without_driver name keys).services) role ns ≡ map (lost_line name) (loads (children_of keys.services) role ns)
loads_off keys name service role [] = refl
loads_off keys name service role (n ∷ ns) =
    λ i. lines.Load role (driver_off keys name n service i) ∷ loads_off keys name service role ns i

function_off : (keys : SetKeys) (name : List ℕ) → IsService name keys → (o : Option (List ℕ))
    → function_lines (children_of (without_driver name keys).services) o ≡ map (lost_line name) (function_lines (children_of keys.services) o)
function_off keys name service None = refl
function_off keys name service (Some n) = λ i. lines.Load Function (driver_off keys name n service i) ∷ []

stack_off : (keys : SetKeys) (name : List ℕ) → IsService name keys → (class : Option Tree) (t : Tree)
    → stack_lines (children_of (without_driver name keys).services) class t ≡ map (lost_line name) (stack_lines (children_of keys.services) class t)
stack_off keys name service class t =
    let s = children_of keys.services in
    let f = map (lost_line name) in
    let a = loads s Lower (names_of (codes "LowerFilters") t) in
    let b = loads s ClassLower (class_names (codes "LowerFilters") class) in
    let c = function_lines s (text_of (codes "Service") t) in
    let u = loads s Upper (names_of (codes "UpperFilters") t) in
    let v = loads s ClassUpper (class_names (codes "UpperFilters") class) in
    (λ i. (((loads_off keys name service Lower (names_of (codes "LowerFilters") t) i
    ++ loads_off keys name service ClassLower (class_names (codes "LowerFilters") class) i)
    ++ function_off keys name service (text_of (codes "Service") t) i)
    ++ loads_off keys name service Upper (names_of (codes "UpperFilters") t) i)
    ++ loads_off keys name service ClassUpper (class_names (codes "UpperFilters") class) i)
    ∙ (λ i. ((sym (map-append (lost_line name) a b) i ++ f c) ++ f u) ++ f v)
    ∙ (λ i. (sym (map-append (lost_line name) (a ++ b) c) i ++ f u) ++ f v)
    ∙ (λ i. sym (map-append (lost_line name) ((a ++ b) ++ c) u) i ++ f v)
    ∙ sym (map-append (lost_line name) (((a ++ b) ++ c) ++ u) v)

block_off : (keys : SetKeys) (name : List ℕ) → IsService name keys → (d : Device)
    → (block_of false (scope_of (without_driver name keys)) d).lines ≡ map (lost_line name) (block_of false (scope_of keys) d).lines
block_off keys name service d =
    let guid = text_of (codes "ClassGUID") d.key in
    let class = class_of (children_of keys.classes) guid in
    let stack = stack_lines (children_of keys.services) class d.key in
    let f = map (lost_line name) in
    ap (λ (ls : List DeviceLine). lines.Device (device_state d.key) (class_name guid class) d.path ∷ ls)
    ((λ i. (about_kept name d.key i ++ stack_off keys name service class d.key i) ++ [])
    ∙ (λ i. sym (map-append (lost_line name) (about_lines d.key) stack) i ++ [])
    ∙ sym (map-append (lost_line name) (about_lines d.key ++ stack) []))

blocks_off : (keys : SetKeys) (name : List ℕ) → IsService name keys → (ds : List Device)
    → every_block false (scope_of (without_driver name keys)) ds ≡ map (map (lost_line name)) (every_block false (scope_of keys) ds)
blocks_off keys name service [] = refl
blocks_off keys name service (d ∷ ds) = λ i. block_off keys name service d i ∷ blocks_off keys name service ds i

pub lines_lost : LinesAreLost
lines_lost number keys only name service e =
    all_read number (without_driver name keys) only
    ∙ ap (λ b. every_block b (scope_of (without_driver name keys)) (devices_of keys.devices)) e
    ∙ blocks_off keys name service (devices_of keys.devices)
    ∙ ap (λ b. map (map (lost_line name)) (every_block b (scope_of keys) (devices_of keys.devices))) (sym e)
    ∙ ap (map (map (lost_line name))) (sym (all_read number keys only))

-- ---- who loses it

loss_of : (name : List ℕ) (l : DeviceLine) → is_loss name (lost_line name l) ≡ is_load_of name l
loss_of name (lines.Load role driver) = by (folds_same name driver.name) refl
  where
    by : (b : Bool) → folds_same name driver.name ≡ b
        → (folds_same name (cond b (record { name = driver.name; state = states.Disabled }) driver).name
        && is_disabled (cond b (record { name = driver.name; state = states.Disabled }) driver).state) ≡ folds_same name driver.name
    by true is = ap (λ c. c && true) is ∙ sym is
    by false is = ap (λ c. c && is_disabled driver.state) is ∙ sym is
loss_of name l = refl

any_loss : (name : List ℕ) (ls : List DeviceLine) → list_any (is_loss name) (map (lost_line name) ls) ≡ list_any (is_load_of name) ls
any_loss name [] = refl
any_loss name (l ∷ ls) = λ i. loss_of name l i || any_loss name ls i

losers : (name : List ℕ) (only : Selection) (bs : List (List DeviceLine))
    → filter (list_any (is_loss name)) (map (map (lost_line name)) bs)
    ≡ map (map (lost_line name)) (filter (is_wanted (of_driver name only)) bs)
losers name only [] = refl
losers name only (b ∷ bs) =
    ap (λ c. cond c (map (lost_line name) b ∷ more) more) (any_loss name b ∙ sym (true_last (list_any (is_load_of name) b)))
    ∙ by (is_wanted (of_driver name only) b) (losers name only bs)
  where
    more : List (List DeviceLine)
    more = filter (list_any (is_loss name)) (map (map (lost_line name)) bs)

    kept : List (List DeviceLine)
    kept = filter (is_wanted (of_driver name only)) bs

    true_last : (c : Bool) → (c && true) ≡ c
    true_last true = refl
    true_last false = refl

    by : (c : Bool) → more ≡ map (map (lost_line name)) kept
        → cond c (map (lost_line name) b ∷ more) more ≡ map (map (lost_line name)) (cond c (b ∷ kept) kept)
    by true e = ap (λ (ls : List (List DeviceLine)). map (lost_line name) b ∷ ls) e
    by false e = e

pub losers_told : LosersAreTold
losers_told number keys only name service e =
    ap (filter (list_any (is_loss name))) (lines_lost number keys only name service e)
    ∙ losers name only (blocks_told (device_lines number (Some keys) (of_all only)))
    ∙ sym (ap (map (map (lost_line name))) (whole_stay number keys (of_driver name only)))

or_true : (c : Bool) → (c || true) ≡ true
or_true true = refl
or_true false = refl

or_false : (c : Bool) → (c || false) ≡ c
or_false true = refl
or_false false = refl

pub losses_found : LossesAreFindings
unfolding is_fault
losses_found name (lines.Load role driver) = by (folds_same name driver.name)
  where
    by : (b : Bool) → is_prevented (cond b (record { name = driver.name; state = states.Disabled }) driver).state
        ≡ (is_prevented driver.state || b)
    by true = sym (or_true (is_prevented driver.state))
    by false = sym (or_false (is_prevented driver.state))
losses_found name (lines.Malformed field) = refl
losses_found name l = refl
