-- Which lines of a report are on a device, and which are not.
use Rattle.std.proofs.Common.{◌≡◌, ℕ, Bool, true, false, not, cond, List, [], ◌∷◌, ◌++◌, length, filter, Option, Some, None, refl}
use Rattle.std.specs.Prelude.{◌==◌, ◌&&◌, ◌||◌, find, codes}
use Rattle.std.specs.List.{list_all}
use Rattle.std.proofs.lemmas.Bool.{false≢true, and_from}
use Rattle.hive_model.specs.Tree.{Tree, head, is_named}
use Rattle.device_rule.specs.declared.lines.Driver.{Driver}
use Rattle.device_rule.specs.declared.lines.Field.{Field}
use Rattle.device_rule.specs.declared.lines.Role.{Role}
use Rattle.device_rule.specs.declared.lines.Role.TheVariants.{Lower, ClassLower, Upper, ClassUpper}
use Rattle.device_rule.specs.declared.lines.DeviceLine.{DeviceLine}
use Rattle.device_rule.specs.declared.lines.DeviceLine.TheVariants as lines
use Rattle.device_rule.specs.declared.scope.Scope.{Scope}
use Rattle.device_rule.specs.declared.scope.DeviceSet.{DeviceSet}
use Rattle.device_rule.specs.declared.scope.Selection.{Selection}
use Rattle.device_rule.specs.Values.{text_of, names_of, number_of}
use Rattle.device_rule.specs.Drivers.{driver_of, is_prevented, is_boot}
use Rattle.device_rule.specs.Database.{hashed, bound_lines, entry_lines, id_lines, first_lines, ids_of, match_lines, is_asked, driver_lines, service_lines, critical_line, critical_lines}
use Rattle.device_rule.specs.Devices.{line_when, text_lines, flags_lines, called, all_fields, has_malformed, malformed_lines, about_lines, load, loads, function_lines, class_names, stack_lines}
use Rattle.device_rule.specs.Classes.{label_of, malformed_at, malformed_of, filter_when, filter_line, filter_lines, class_lines, all_class_lines}
use Rattle.device_rule.specs.Devices.{filter_fields}
use Rattle.device_rule.specs.Report.{of_lines, database_lines, opening_lines, enum_lines, class_part, closing_lines}
use Rattle.device_laws.proofs.ListLemmas.{append_all, flat_all, map_all, imply_all}
use Rattle.device_laws.specs.Told.{is_device, is_about}
use Rattle.device_laws.specs.Blocks.{is_plain}

-- ---- a line that may be there

pub when_all : (p : DeviceLine → Bool) (b : Bool) (l : DeviceLine) → p l ≡ true → list_all p (line_when b l) ≡ true
when_all p true l h = and_from (p l) true h refl
when_all p false l h = refl

-- ---- what is told of a device by its own values and its stack

-- the line tells of that
abbrev pub is_own : DeviceLine → Bool
is_own (lines.Description text) = true
is_own (lines.Flags flags) = true
is_own (lines.Malformed field) = true
is_own (lines.Load role driver) = true
is_own lines.NoService = true
is_own line = false

pub own_is_about : (l : DeviceLine) → is_own l ≡ true → is_about l ≡ true
own_is_about (lines.Description text) h = refl
own_is_about (lines.Flags flags) h = refl
own_is_about (lines.Malformed field) h = refl
own_is_about (lines.Load role driver) h = refl
own_is_about lines.NoService h = refl
own_is_about l h = absurd (false≢true h)

pub own_is_plain : (l : DeviceLine) → is_own l ≡ true → is_plain l ≡ true
own_is_plain (lines.Description text) h = refl
own_is_plain (lines.Flags flags) h = refl
own_is_plain (lines.Malformed field) h = refl
own_is_plain (lines.Load role driver) h = refl
own_is_plain lines.NoService h = refl
own_is_plain l h = absurd (false≢true h)

texts_own : (o : Option (List ℕ)) → list_all is_own (text_lines o) ≡ true
texts_own None = refl
texts_own (Some text) = refl

flags_own : (n : ℕ) → list_all is_own (flags_lines n) ≡ true
flags_own n = by (n == 0)
  where
    by : (b : Bool) → list_all is_own (cond b [] (lines.Flags n ∷ [])) ≡ true
    by true = refl
    by false = refl

malformed_own : (t : Tree) → list_all is_own (malformed_lines t) ≡ true
malformed_own t = map_all is_own lines.Malformed (filter (has_malformed t) all_fields) (λ f. refl)

pub about_own : (t : Tree) → list_all is_own (about_lines t) ≡ true
about_own t =
    append_all is_own (text_lines (called t) ++ flags_lines (number_of (codes "ConfigFlags") t)) (malformed_lines t)
    (append_all is_own (text_lines (called t)) (flags_lines (number_of (codes "ConfigFlags") t)) (texts_own (called t))
    (flags_own (number_of (codes "ConfigFlags") t)))
    (malformed_own t)

loads_own : (services : List Tree) (role : Role) (names : List (List ℕ)) → list_all is_own (loads services role names) ≡ true
loads_own services role names = map_all is_own (load services role) names (λ n. refl)

function_own : (services : List Tree) (o : Option (List ℕ)) → list_all is_own (function_lines services o) ≡ true
function_own services None = refl
function_own services (Some name) = refl

pub stack_own : (services : List Tree) (class : Option Tree) (t : Tree) → list_all is_own (stack_lines services class t) ≡ true
stack_own services class t =
    let a = loads services Lower (names_of (codes "LowerFilters") t) in
    let b = loads services ClassLower (class_names (codes "LowerFilters") class) in
    let f = function_lines services (text_of (codes "Service") t) in
    let u = loads services Upper (names_of (codes "UpperFilters") t) in
    let v = loads services ClassUpper (class_names (codes "UpperFilters") class) in
    append_all is_own (((a ++ b) ++ f) ++ u) v
    (append_all is_own ((a ++ b) ++ f) u
    (append_all is_own (a ++ b) f
    (append_all is_own a b (loads_own services Lower (names_of (codes "LowerFilters") t))
    (loads_own services ClassLower (class_names (codes "LowerFilters") class)))
    (function_own services (text_of (codes "Service") t)))
    (loads_own services Upper (names_of (codes "UpperFilters") t)))
    (loads_own services ClassUpper (class_names (codes "UpperFilters") class))

-- ---- what is of the database in a block

-- the line tells which entry a device has
abbrev pub is_match : DeviceLine → Bool
is_match (lines.Bound entry driver) = true
is_match lines.Unbound = true
is_match line = false

bound_match : (services : List Tree) (entry : List ℕ) (o : Option (List ℕ)) → list_all is_match (bound_lines services entry o) ≡ true
bound_match services entry None = refl
bound_match services entry (Some service) = refl

entry_match : (services : List Tree) (o : Option Tree) → list_all is_match (entry_lines services o) ≡ true
entry_match services None = refl
entry_match services (Some t) = bound_match services (head t).name (text_of (codes "Service") t)

first_by : (b : Bool) (others found : List DeviceLine) → list_all is_match others ≡ true → list_all is_match found ≡ true
    → list_all is_match (cond b others found) ≡ true
first_by true others found e f = e
first_by false others found e f = f

first_match : (scope : Scope) (ids : List (List ℕ)) → list_all is_match (first_lines scope ids) ≡ true
first_match scope [] = refl
first_match scope (id ∷ ids) =
    first_by (length (id_lines scope id) == 0) (first_lines scope ids) (id_lines scope id) (first_match scope ids)
    (entry_match scope.services (find (is_named (hashed id)) scope.database))

pub match_match : (ids : Bool) (scope : Scope) (t : Tree) → list_all is_match (match_lines ids scope t) ≡ true
match_match true scope t = first_match scope (ids_of t)
match_match false scope t = refl

pub match_is_about : (l : DeviceLine) → is_match l ≡ true → is_about l ≡ true
match_is_about (lines.Bound entry driver) h = refl
match_is_about lines.Unbound h = refl
match_is_about l h = absurd (false≢true h)

pub match_no_plain : (l : DeviceLine) → is_match l ≡ true → not (is_plain l) ≡ true
match_no_plain (lines.Bound entry driver) h = refl
match_no_plain lines.Unbound h = refl
match_no_plain l h = absurd (false≢true h)

pub match_about : (ids : Bool) (scope : Scope) (t : Tree) → list_all is_about (match_lines ids scope t) ≡ true
match_about ids scope t = imply_all is_match is_about (match_lines ids scope t) match_is_about (match_match ids scope t)

-- ---- what is not on a device

abbrev pub is_other : DeviceLine → Bool
is_other line = not (is_about line || is_device line)

of_other : (services : List Tree) (o : Option (List ℕ)) → list_all is_other (of_lines services o) ≡ true
of_other services None = refl
of_other services (Some name) = refl

pub opening_other : (n : ℕ) (set : DeviceSet) (only : Selection) → list_all is_other (opening_lines n set only) ≡ true
opening_other n set only =
    append_all is_other (of_lines set.scope.services only.of) (database_lines set only) (of_other set.scope.services only.of)
    (when_all is_other ((only.ids || only.critical) && not set.has_database) lines.NoDatabase refl)

pub enum_other : (set : DeviceSet) → list_all is_other (enum_lines set) ≡ true
enum_other set = when_all is_other (not set.has_enum) lines.NoEnum refl

-- a test that holds of the lines on class keys
pub class_all : (p : DeviceLine → Bool)
    → ((field : Field) (class key : List ℕ) → p (lines.ClassMalformed field class key) ≡ true)
    → ((role : Role) (class key : List ℕ) (driver : Driver) → p (lines.ClassFilter role class key driver) ≡ true)
    → (services : List Tree) (of : Option (List ℕ)) (classes : List Tree) → list_all p (all_class_lines services of classes) ≡ true
class_all p faults filters services of classes = flat_all p (class_lines services of) classes one
  where
    malformed : (o : Option (List ℕ)) (t : Tree) → list_all p (malformed_of o t) ≡ true
    malformed None t = map_all p (malformed_at t) (filter (has_malformed t) filter_fields) (λ f. faults f (label_of t) (head t).name)
    malformed (Some name) t = refl

    line : (role : Role) (t : Tree) (d : Driver) → list_all p (filter_when of role t d) ≡ true
    line role t d = by (is_prevented d.state && is_asked of d)
      where
        by : (b : Bool) → list_all p (cond b (lines.ClassFilter role (label_of t) (head t).name d ∷ []) []) ≡ true
        by true = and_from (p (lines.ClassFilter role (label_of t) (head t).name d)) true (filters role (label_of t) (head t).name d) refl
        by false = refl

    some : (role : Role) (t : Tree) (names : List (List ℕ)) → list_all p (filter_lines services of role t names) ≡ true
    some role t names = flat_all p (filter_line services of role t) names (λ n. line role t (driver_of services n))

    one : (t : Tree) → list_all p (class_lines services of t) ≡ true
    one t =
        append_all p (malformed_of of t ++ filter_lines services of Lower t (names_of (codes "LowerFilters") t))
        (filter_lines services of Upper t (names_of (codes "UpperFilters") t))
        (append_all p (malformed_of of t) (filter_lines services of Lower t (names_of (codes "LowerFilters") t)) (malformed of t)
        (some Lower t (names_of (codes "LowerFilters") t)))
        (some Upper t (names_of (codes "UpperFilters") t))

pub class_other : (set : DeviceSet) (only : Selection) → list_all is_other (class_part set only) ≡ true
class_other set only = class_all is_other (λ f c k. refl) (λ r c k d. refl) set.scope.services only.of set.scope.classes

-- the same of those on the database
pub critical_all : (p : DeviceLine → Bool) → ((entry : List ℕ) (driver : Driver) → p (lines.Critical entry driver) ≡ true)
    → (critical : Bool) (scope : Scope) (of : Option (List ℕ)) → list_all p (critical_lines critical scope of) ≡ true
critical_all p is false scope of = refl
critical_all p is true scope of = flat_all p (critical_line scope.services of) scope.database (λ t. service (head t).name (text_of (codes "Service") t))
  where
    driver : (entry : List ℕ) (d : Driver) → list_all p (driver_lines of entry d) ≡ true
    driver entry d = by (is_boot d.state || not (is_asked of d))
      where
        by : (b : Bool) → list_all p (cond b [] (lines.Critical entry d ∷ [])) ≡ true
        by true = refl
        by false = and_from (p (lines.Critical entry d)) true (is entry d) refl

    service : (entry : List ℕ) (o : Option (List ℕ)) → list_all p (service_lines scope.services of entry o) ≡ true
    service entry None = refl
    service entry (Some name) = driver entry (driver_of scope.services name)

pub critical_other : (critical : Bool) (scope : Scope) (of : Option (List ℕ)) → list_all is_other (critical_lines critical scope of) ≡ true
critical_other critical scope of = critical_all is_other (λ e d. refl) critical scope of

pub closing_other : (shown all found : ℕ) → list_all is_other (closing_lines shown all found) ≡ true
closing_other shown all found = refl
