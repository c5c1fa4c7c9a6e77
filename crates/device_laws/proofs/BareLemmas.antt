-- A report is that of the values that are read.
use Rattle.std.proofs.Common.{◌≡◌, ℕ, ◌+◌, ◌<◌, Bool, true, false, not, cond, List, [], ◌∷◌, ◌++◌, length, get_or, map, filter, Option, Some, None, refl, sym, ap, ◌∙◌, arith}
use Rattle.std.specs.Prelude.{◌&&◌, ◌||◌, ◌==◌, find, sum_by, codes, option_map, option_and_then, unwrap_or}
use Rattle.std.specs.List.{flat_map}
use Rattle.std.specs.Option.{is_some, option_map_or}
use Rattle.std.proofs.lemmas.Bool.{false≢true}
use Rattle.std.proofs.lemmas.List.{map-append, length-map}
use Rattle.std.proofs.lemmas.List.Folds.{flat_map-map, list_any_at}
use Rattle.hive_model.specs.Tree.{Tree, Item, head, children, is_item, is_named, find_item, dword_in, string_in}
use Rattle.nt_bytes.specs.Folding.{folds_same}
use Rattle.reg_tree.proofs.Trees.{listed_trees}
use Rattle.device_rule.specs.declared.lines.DriverState.TheVariants as states
use Rattle.device_rule.specs.declared.lines.DeviceLine.TheVariants as lines
use Rattle.device_rule.specs.declared.scope.Scope.{Scope}
use Rattle.device_rule.specs.declared.scope.SetKeys.{SetKeys}
use Rattle.device_rule.specs.declared.scope.Selection.{Selection}
use Rattle.device_rule.specs.declared.device.Device.{Device}
use Rattle.device_rule.specs.Values.{filled, text_of, pieces_in, children_of}
use Rattle.device_rule.specs.Drivers.{is_built_in, start_state, key_state, driver_of, key_name}
use Rattle.device_rule.specs.Database.{hashed, bound_lines, entry_lines, id_lines, first_lines, ids_of, match_lines, service_lines, critical_line, critical_lines}
use Rattle.device_rule.specs.Devices.{line_when, device_at, below_device, below_enumerator, devices_of, class_of, class_label, class_name, class_names, block_of, block_findings}
use Rattle.device_rule.specs.Classes.{all_class_lines}
use Rattle.device_rule.specs.Report.{scope_of, set_of, is_shown, blocks_in, lines_in, of_lines, enum_lines, class_part, device_lines, told_number, keys_of}
use Rattle.device_laws.specs.Bare.{is_among, with_values, with_children, of_children, service_values, class_values, entry_values, own_values, device_values, bare_set, NothingElseIsRead, TreesAreToldAlike}
use Rattle.device_laws.proofs.AgreeLemmas.{DevicesAgree, ScopesAgree, block_same, ClassesAgree, class_same, critical_same}

-- ---- values

find_kept : (p q : Item → Bool) → ((v : Item) → p v ≡ true → q v ≡ true) → (vs : List Item) → find p (filter q vs) ≡ find p vs
find_kept p q by [] = refl
find_kept p q by (v ∷ vs) = go (p v) (q v) refl (by v) (find_kept p q by vs)
  where
    go : (a b : Bool) → p v ≡ a → (p v ≡ true → b ≡ true) → find p (filter q vs) ≡ find p vs
        → find p (cond b (v ∷ filter q vs) (filter q vs)) ≡ cond (p v) (Some v) (find p vs)
    go a true is h rest = ap (λ (o : Option Item). cond (p v) (Some v) o) rest
    go true false is h rest = absurd (false≢true (h is))
    go false false is h rest = rest ∙ ap (λ c. cond c (Some v) (find p vs)) (sym is)

-- a value of a name that is kept
item_kept : (names : List (List ℕ)) (name : List ℕ) (i : ℕ) → i < length names → get_or names i [] ≡ name → (t : Tree)
    → find_item name (with_values names t) ≡ find_item name t
item_kept names name i low e t =
    find_kept (is_item name) (is_among names)
    (λ v h. list_any_at (λ n. is_item n v) names i [] low (ap (λ (n : List ℕ). is_item n v) e ∙ h)) (head t).values

-- ---- keys of a list

map_cond : {X Y : Type 0} (f : X → Y) (b : Bool) (x : X) (o : Option X) → cond b (Some (f x)) (option_map f o) ≡ option_map f (cond b (Some x) o)
map_cond f true x o = refl
map_cond f false x o = refl

-- where a change keeps the names, what is found of a name is the changed key
pub find_changed : (f : Tree → Tree) → ((t : Tree) → (head (f t)).name ≡ (head t).name) → (name : List ℕ) (ts : List Tree)
    → find (is_named name) (map f ts) ≡ option_map f (find (is_named name) ts)
find_changed f keeps name [] = refl
find_changed f keeps name (t ∷ ts) =
    (λ i. cond (folds_same name (keeps t i)) (Some (f t)) (find_changed f keeps name ts i))
    ∙ map_cond f (is_named name t) t (find (is_named name) ts)

children_changed : (f : Tree → Tree) (o : Option Tree) → children_of (option_map (of_children f) o) ≡ map f (children_of o)
children_changed f None = refl
children_changed f (Some t) = listed_trees (map f (children t))

-- ---- services

abbrev service_bare : Tree → Tree
service_bare t = with_values service_values t

service_kept : (t : Tree) → (head (service_bare t)).name ≡ (head t).name
service_kept t = refl

state_kept : (t : Tree) → key_state (service_bare t) ≡ key_state t
state_kept t =
    λ i. start_state (option_and_then dword_in (item_kept service_values (codes "Start") 0 (omega arith) refl t i))
    (option_and_then dword_in (item_kept service_values (codes "Type") 1 (omega arith) refl t i))

driver_kept : (services : List Tree) (name : List ℕ) → driver_of (map service_bare services) name ≡ driver_of services name
driver_kept services name =
    λ i. record {
      name = name;
      state = cond (is_built_in name) states.BuiltIn (found i);
    }
  where
    by : (o : Option Tree) → option_map_or key_state (option_map service_bare o) states.NoKey ≡ option_map_or key_state o states.NoKey
    by None = refl
    by (Some t) = state_kept t

    found : option_map_or key_state (find (is_named name) (map service_bare services)) states.NoKey
        ≡ option_map_or key_state (find (is_named name) services) states.NoKey
    found = ap (λ (o : Option Tree). option_map_or key_state o states.NoKey) (find_changed service_bare service_kept name services)
        ∙ by (find (is_named name) services)

key_name_kept : (services : List Tree) (name : List ℕ) → key_name (map service_bare services) name ≡ key_name services name
key_name_kept services name =
    ap (λ (o : Option Tree). option_map_or (λ t. (head t).name) o name) (find_changed service_bare service_kept name services)
    ∙ by (find (is_named name) services)
  where
    by : (o : Option Tree) → option_map_or (λ t. (head t).name) (option_map service_bare o) name ≡ option_map_or (λ t. (head t).name) o name
    by None = refl
    by (Some t) = service_kept t

of_kept : (services : List Tree) (o : Option (List ℕ)) → of_lines (map service_bare services) o ≡ of_lines services o
of_kept services None = refl
of_kept services (Some name) =
    λ i. lines.Of (record { name = key_name_kept services name i; state = (driver_kept services name i).state }) ∷ []

-- ---- classes

abbrev class_bare : Tree → Tree
class_bare t = with_values class_values t

class_kept : (t : Tree) → (head (class_bare t)).name ≡ (head t).name
class_kept t = refl

classes_agree : (t : Tree) → ClassesAgree (class_bare t) t
classes_agree t = record {
  name = refl;
  class = item_kept class_values (codes "Class") 0 (omega arith) refl t;
  lower = item_kept class_values (codes "LowerFilters") 1 (omega arith) refl t;
  upper = item_kept class_values (codes "UpperFilters") 2 (omega arith) refl t;
}

class_found : (classes : List Tree) (guid : Option (List ℕ)) → class_of (map class_bare classes) guid ≡ option_map class_bare (class_of classes guid)
class_found classes None = refl
class_found classes (Some name) = find_changed class_bare class_kept name classes

called_kept : (classes : List Tree) (guid : Option (List ℕ))
    → class_name guid (class_of (map class_bare classes) guid) ≡ class_name guid (class_of classes guid)
called_kept classes None = refl
called_kept classes (Some g) =
    ap (λ (o : Option Tree). Some (class_label g o)) (class_found classes (Some g)) ∙ ap Some (by (find (is_named g) classes))
  where
    by : (o : Option Tree) → class_label g (option_map class_bare o) ≡ class_label g o
    by None = refl
    by (Some t) = ap (λ (v : Option Item). unwrap_or (filled (option_and_then string_in v)) g) (ClassesAgree.class (classes_agree t))

filters_kept : (name : List ℕ) → ((t : Tree) → find_item name (class_bare t) ≡ find_item name t) → (classes : List Tree) (guid : Option (List ℕ))
    → class_names name (class_of (map class_bare classes) guid) ≡ class_names name (class_of classes guid)
filters_kept name kept classes guid = ap (class_names name) (class_found classes guid) ∙ by (class_of classes guid)
  where
    by : (o : Option Tree) → class_names name (option_map class_bare o) ≡ class_names name o
    by None = refl
    by (Some t) = ap (λ (v : Option Item). option_map_or pieces_in v []) (kept t)

-- ---- devices

abbrev device_bare : Bool → Tree → Tree
device_bare ids t = with_values (device_values ids) t

devices_agree : (ids : Bool) (t : Tree) → DevicesAgree (device_bare ids t) t
devices_agree true t = record {
  flags = item_kept (device_values true) (codes "ConfigFlags") 2 (omega arith) refl t;
  legacy = item_kept (device_values true) (codes "Legacy") 3 (omega arith) refl t;
  guid = item_kept (device_values true) (codes "ClassGUID") 4 (omega arith) refl t;
  service = item_kept (device_values true) (codes "Service") 5 (omega arith) refl t;
  lower = item_kept (device_values true) (codes "LowerFilters") 6 (omega arith) refl t;
  upper = item_kept (device_values true) (codes "UpperFilters") 7 (omega arith) refl t;
  friendly = item_kept (device_values true) (codes "FriendlyName") 8 (omega arith) refl t;
  description = item_kept (device_values true) (codes "DeviceDesc") 9 (omega arith) refl t;
}
devices_agree false t = record {
  flags = item_kept own_values (codes "ConfigFlags") 0 (omega arith) refl t;
  legacy = item_kept own_values (codes "Legacy") 1 (omega arith) refl t;
  guid = item_kept own_values (codes "ClassGUID") 2 (omega arith) refl t;
  service = item_kept own_values (codes "Service") 3 (omega arith) refl t;
  lower = item_kept own_values (codes "LowerFilters") 4 (omega arith) refl t;
  upper = item_kept own_values (codes "UpperFilters") 5 (omega arith) refl t;
  friendly = item_kept own_values (codes "FriendlyName") 6 (omega arith) refl t;
  description = item_kept own_values (codes "DeviceDesc") 7 (omega arith) refl t;
}

ids_kept : (t : Tree) → ids_of (device_bare true t) ≡ ids_of t
ids_kept t =
    λ i. option_map_or pieces_in (item_kept (device_values true) (codes "HardwareID") 0 (omega arith) refl t i) []
    ++ option_map_or pieces_in (item_kept (device_values true) (codes "CompatibleIDs") 1 (omega arith) refl t i) []

abbrev bare_device : Bool → Device → Device
bare_device ids d = record { path = d.path; key = device_bare ids d.key }

-- changed keys one level below
flat_changed : (g : Tree → List Device) (ids : Bool) (f : Tree → Tree) → ((t : Tree) → g (f t) ≡ map (bare_device ids) (g t)) → (ts : List Tree)
    → flat_map g (map f ts) ≡ map (bare_device ids) (flat_map g ts)
flat_changed g ids f e [] = refl
flat_changed g ids f e (t ∷ ts) =
    (λ i. e t i ++ flat_changed g ids f e ts i) ∙ sym (map-append (bare_device ids) (g t) (flat_map g ts))

instances : (ids : Bool) (enumerator device : List ℕ) (ts : List Tree)
    → map (device_at enumerator device) (map (device_bare ids) ts) ≡ map (bare_device ids) (map (device_at enumerator device) ts)
instances ids enumerator device [] = refl
instances ids enumerator device (t ∷ ts) =
    ap (λ (ds : List Device). record { path = enumerator ∷ device ∷ (head t).name ∷ []; key = device_bare ids t } ∷ ds)
    (instances ids enumerator device ts)

below_device_kept : (ids : Bool) (enumerator : List ℕ) (t : Tree)
    → below_device enumerator (with_children (device_bare ids) t) ≡ map (bare_device ids) (below_device enumerator t)
below_device_kept ids enumerator t =
    ap (map (device_at enumerator (head t).name)) (listed_trees (map (device_bare ids) (children t)))
    ∙ instances ids enumerator (head t).name (children t)

below_enumerator_kept : (ids : Bool) (t : Tree)
    → below_enumerator (with_children (with_children (device_bare ids)) t) ≡ map (bare_device ids) (below_enumerator t)
below_enumerator_kept ids t =
    ap (flat_map (below_device (head t).name)) (listed_trees (map (with_children (device_bare ids)) (children t)))
    ∙ flat_changed (below_device (head t).name) ids (with_children (device_bare ids)) (below_device_kept ids (head t).name) (children t)

devices_kept : (ids : Bool) (o : Option Tree)
    → devices_of (option_map (of_children (with_children (with_children (device_bare ids)))) o) ≡ map (bare_device ids) (devices_of o)
devices_kept ids o =
    ap (flat_map below_enumerator) (children_changed (with_children (with_children (device_bare ids))) o)
    ∙ flat_changed below_enumerator ids (with_children (with_children (device_bare ids))) (below_enumerator_kept ids) (children_of o)

-- ---- the database

abbrev entry_bare : Tree → Tree
entry_bare t = with_values entry_values t

entry_kept : (t : Tree) → (head (entry_bare t)).name ≡ (head t).name
entry_kept t = refl

service_of_entry : (t : Tree) → text_of (codes "Service") (entry_bare t) ≡ text_of (codes "Service") t
service_of_entry t =
    ap (λ (v : Option Item). filled (option_and_then string_in v)) (item_kept entry_values (codes "Service") 0 (omega arith) refl t)

bound_same : (s r : List Tree) (entry : List ℕ) (o : Option (List ℕ)) → ((name : List ℕ) → driver_of s name ≡ driver_of r name)
    → bound_lines s entry o ≡ bound_lines r entry o
bound_same s r entry None drivers = refl
bound_same s r entry (Some name) drivers = λ i. lines.Bound entry (drivers name i) ∷ []

-- the scope of bare keys, with a database that is bare where it is looked at
abbrev bare_scope : Scope → List Tree → Scope
bare_scope scope database = record { services = map service_bare scope.services; classes = map class_bare scope.classes; database = database }

id_kept : (scope : Scope) (id : List ℕ) → id_lines (bare_scope scope (map entry_bare scope.database)) id ≡ id_lines scope id
id_kept scope id =
    ap (entry_lines (map service_bare scope.services)) (find_changed entry_bare entry_kept (hashed id) scope.database)
    ∙ by (find (is_named (hashed id)) scope.database)
  where
    by : (o : Option Tree) → entry_lines (map service_bare scope.services) (option_map entry_bare o) ≡ entry_lines scope.services o
    by None = refl
    by (Some t) =
        (λ i. bound_lines (map service_bare scope.services) (entry_kept t i) (service_of_entry t i))
        ∙ bound_same (map service_bare scope.services) scope.services (head t).name (text_of (codes "Service") t) (driver_kept scope.services)

firsts_kept : (scope : Scope) (ids : List (List ℕ))
    → first_lines (bare_scope scope (map entry_bare scope.database)) ids ≡ first_lines scope ids
firsts_kept scope [] = refl
firsts_kept scope (id ∷ ids) =
    λ i. cond (length (id_kept scope id i) == 0) (firsts_kept scope ids i) (id_kept scope id i)

matches_kept : (ids : Bool) (scope : Scope) (database : List Tree) (t : Tree) → (ids ≡ true → database ≡ map entry_bare scope.database)
    → match_lines ids (bare_scope scope database) (device_bare ids t) ≡ match_lines ids scope t
matches_kept false scope database t e = refl
matches_kept true scope database t e =
    (λ i. first_lines (bare_scope scope (e refl i)) (ids_kept t i)) ∙ firsts_kept scope (ids_of t)

criticals_kept : (critical : Bool) (scope : Scope) (database : List Tree) (of : Option (List ℕ))
    → (critical ≡ true → database ≡ map entry_bare scope.database)
    → critical_lines critical (bare_scope scope database) of ≡ critical_lines critical scope of
criticals_kept false scope database of e = refl
criticals_kept true scope database of e =
    ap (flat_map (critical_line (map service_bare scope.services) of)) (e refl)
    ∙ flat_map-map (critical_line (map service_bare scope.services) of) entry_bare scope.database
    ∙ (λ i. flat_map (λ t. one t i) scope.database)
  where
    one : (t : Tree) → critical_line (map service_bare scope.services) of (entry_bare t) ≡ critical_line scope.services of t
    one t =
        (λ i. service_lines (map service_bare scope.services) of (entry_kept t i) (service_of_entry t i))
        ∙ critical_same (map service_bare scope.services) scope.services of (head t).name (text_of (codes "Service") t) (driver_kept scope.services)

-- ---- blocks and classes

scopes_agree : (scope : Scope) (database : List Tree) → ScopesAgree (bare_scope scope database) scope
scopes_agree scope database = record {
  drivers = driver_kept scope.services;
  called = called_kept scope.classes;
  lower = filters_kept (codes "LowerFilters") (λ t. ClassesAgree.lower (classes_agree t)) scope.classes;
  upper = filters_kept (codes "UpperFilters") (λ t. ClassesAgree.upper (classes_agree t)) scope.classes;
}

block_kept : (ids : Bool) (scope : Scope) (database : List Tree) → (ids ≡ true → database ≡ map entry_bare scope.database) → (d : Device)
    → block_of ids (bare_scope scope database) (bare_device ids d) ≡ block_of ids scope d
block_kept ids scope database e d =
    block_same ids (bare_scope scope database) scope (bare_device ids d) d (scopes_agree scope database) refl (devices_agree ids d.key)
    (matches_kept ids scope database d.key e)

blocks_kept : (ids : Bool) (scope : Scope) (database : List Tree) → (ids ≡ true → database ≡ map entry_bare scope.database) → (ds : List Device)
    → map (block_of ids (bare_scope scope database)) (map (bare_device ids) ds) ≡ map (block_of ids scope) ds
blocks_kept ids scope database e [] = refl
blocks_kept ids scope database e (d ∷ ds) = λ i. block_kept ids scope database e d i ∷ blocks_kept ids scope database e ds i

classes_kept : (services : List Tree) (of : Option (List ℕ)) (classes : List Tree)
    → all_class_lines (map service_bare services) of (map class_bare classes) ≡ all_class_lines services of classes
classes_kept services of [] = refl
classes_kept services of (t ∷ ts) =
    λ i. class_same (map service_bare services) services of (class_bare t) t (driver_kept services) (classes_agree t) i
    ++ classes_kept services of ts i

-- ---- the report

there : (f : Tree → Tree) (o : Option Tree) → is_some (option_map f o) ≡ is_some o
there f None = refl
there f (Some t) = refl

-- what the database is read as
abbrev database_of : Bool → Option Tree → Option Tree
database_of b o = cond b (option_map (of_children entry_bare) o) None

database_read : (b : Bool) (o : Option Tree) → b ≡ true → children_of (database_of b o) ≡ map entry_bare (children_of o)
database_read b o e =
    ap (λ c. children_of (cond c (option_map (of_children entry_bare) o) None)) e ∙ children_changed entry_bare o

database_there : (b : Bool) (o : Option Tree)
    → line_when (b && not (is_some (database_of b o))) lines.NoDatabase ≡ line_when (b && not (is_some o)) lines.NoDatabase
database_there true o = ap (λ c. line_when (not c) lines.NoDatabase) (there (of_children entry_bare) o)
database_there false o = refl

or_first : (a b : Bool) → a ≡ true → (a || b) ≡ true
or_first a b e = ap (λ c. c || b) e

or_second : (a b : Bool) → b ≡ true → (a || b) ≡ true
or_second true b e = refl
or_second false b e = e

set_kept : (number : ℕ) (keys : SetKeys) (only : Selection)
    → device_lines number (Some (bare_set only keys)) only ≡ device_lines number (Some keys) only
unfolding device_lines
set_kept number keys only =
    let scope = scope_of keys in
    let asked = only.ids || only.critical in
    let database = children_of (database_of asked keys.database) in
    let services = children_changed service_bare keys.services in
    let classes = children_changed class_bare keys.classes in
    let scopes : scope_of (bare_set only keys) ≡ bare_scope scope database =
    λ i. record { services = services i; classes = classes i; database = database } in
    let devices = devices_kept only.ids keys.devices in
    let blocks : blocks_in (set_of (bare_set only keys)) only ≡ blocks_in (set_of keys) only =
    (λ i. filter (is_shown only) (map (block_of only.ids (scopes i)) (devices i)))
    ∙ ap (filter (is_shown only)) (blocks_kept only.ids scope database
    (λ e. database_read asked keys.database (or_first only.ids only.critical e)) (devices_of keys.devices)) in
    let counts : length (devices_of (bare_set only keys).devices) ≡ length (devices_of keys.devices) =
    ap length devices ∙ length-map (devices_of keys.devices) (bare_device only.ids) in
    let enum : enum_lines (set_of (bare_set only keys)) ≡ enum_lines (set_of keys) =
    ap (λ b. line_when (not b) lines.NoEnum) (there (of_children (with_children (with_children (device_bare only.ids)))) keys.devices) in
    let class : class_part (set_of (bare_set only keys)) only ≡ class_part (set_of keys) only =
    (λ i. all_class_lines (services i) only.of (classes i)) ∙ classes_kept (children_of keys.services) only.of (children_of keys.classes) in
    let critical : critical_lines only.critical (scope_of (bare_set only keys)) only.of ≡ critical_lines only.critical scope only.of =
    (λ i. critical_lines only.critical (scopes i) only.of)
    ∙ criticals_kept only.critical scope database only.of
    (λ e. database_read asked keys.database (or_second only.ids only.critical e)) in
    let of : of_lines (children_of (bare_set only keys).services) only.of ≡ of_lines (children_of keys.services) only.of =
    (λ i. of_lines (services i) only.of) ∙ of_kept (children_of keys.services) only.of in
    let missing = database_there asked keys.database in
    λ i. (((lines.Set number ∷ of i ++ missing i) ++ ((enum i ++ flat_map lines_in (blocks i)) ++ class i)) ++ critical i)
    ++ lines.Devices (length (blocks i)) (counts i)
    ∷ lines.Found (length (enum i) + sum_by block_findings (blocks i) + length (class i)) ∷ lines.End ∷ []

pub nothing_else : NothingElseIsRead
unfolding device_lines
nothing_else number None only = refl
nothing_else number (Some keys) only = set_kept number keys only

pub told_alike : TreesAreToldAlike
told_alike set only a b number keys =
    sym (nothing_else (told_number set a) (keys_of a (told_number set a)) only)
    ∙ (λ i. device_lines (number i) (keys i) only)
    ∙ nothing_else (told_number set b) (keys_of b (told_number set b)) only
