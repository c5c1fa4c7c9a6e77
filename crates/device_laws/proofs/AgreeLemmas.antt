-- What is told of keys that agree in what is read of them.
use Rattle.std.proofs.Common.{◌≡◌, ℕ, Bool, false, not, cond, List, [], ◌∷◌, ◌++◌, map, filter, Option, Some, None, refl, ap, ◌∙◌}
use Rattle.std.specs.Prelude.{◌&&◌, ◌==◌, bit_and, codes, option_and_then, unwrap_or}
use Rattle.std.specs.List.{flat_map}
use Rattle.std.specs.Option.{option_map_or}
use Rattle.hive_model.specs.Tree.{Tree, head, find_item, dword_in, string_in}
use Rattle.device_rule.specs.declared.lines.DeviceState.TheVariants as states
use Rattle.device_rule.specs.declared.lines.Field.{Field}
use Rattle.device_rule.specs.declared.lines.Field.TheVariants as fields
use Rattle.device_rule.specs.declared.lines.Role.{Role}
use Rattle.device_rule.specs.declared.lines.Role.TheVariants.{Lower, ClassLower, Function, Upper, ClassUpper}
use Rattle.device_rule.specs.declared.lines.DeviceLine.TheVariants as lines
use Rattle.device_rule.specs.declared.scope.Scope.{Scope}
use Rattle.device_rule.specs.declared.device.Device.{Device}
use Rattle.device_rule.specs.Values.{filled, text_of, either, pieces_in, names_of, number_of}
use Rattle.device_rule.specs.Drivers.{driver_of, is_prevented}
use Rattle.device_rule.specs.Database.{is_asked, match_lines, driver_lines, service_lines}
use Rattle.device_rule.specs.Devices.{device_state, is_enabled, class_of, class_name, class_names, text_lines, flags_lines, field_name, all_fields, is_malformed, has_malformed, about_lines, loads, function_lines, stack_lines, block_of}
use Rattle.device_rule.specs.Classes.{label_of, malformed_of, filter_lines, class_lines}

-- ---- values

text_same : (name : List ℕ) (t u : Tree) → find_item name t ≡ find_item name u → text_of name t ≡ text_of name u
text_same name t u e = λ i. filled (option_and_then string_in (e i))

names_same : (name : List ℕ) (t u : Tree) → find_item name t ≡ find_item name u → names_of name t ≡ names_of name u
names_same name t u e = λ i. option_map_or pieces_in (e i) []

number_same : (name : List ℕ) (t u : Tree) → find_item name t ≡ find_item name u → number_of name t ≡ number_of name u
number_same name t u e = λ i. unwrap_or (option_and_then dword_in (e i)) 0

malformed_same : (field : Field) (t u : Tree) → find_item (field_name field) t ≡ find_item (field_name field) u
    → has_malformed t field ≡ has_malformed u field
malformed_same field t u e = λ i. option_map_or (is_malformed field) (e i) false

-- ---- devices

-- two keys of devices have the same of the values that are told of them
pub record DevicesAgree (t u : Tree) : Type 0 where
  pub flags : find_item (codes "ConfigFlags") t ≡ find_item (codes "ConfigFlags") u
  pub legacy : find_item (codes "Legacy") t ≡ find_item (codes "Legacy") u
  pub guid : find_item (codes "ClassGUID") t ≡ find_item (codes "ClassGUID") u
  pub service : find_item (codes "Service") t ≡ find_item (codes "Service") u
  pub lower : find_item (codes "LowerFilters") t ≡ find_item (codes "LowerFilters") u
  pub upper : find_item (codes "UpperFilters") t ≡ find_item (codes "UpperFilters") u
  pub friendly : find_item (codes "FriendlyName") t ≡ find_item (codes "FriendlyName") u
  pub description : find_item (codes "DeviceDesc") t ≡ find_item (codes "DeviceDesc") u

pub state_same : (t u : Tree) → DevicesAgree t u → device_state t ≡ device_state u
state_same t u a =
    λ i. cond (bit_and (number_same (codes "ConfigFlags") t u a.flags i) 1 == 1) states.Disabled
    (cond (not (number_same (codes "Legacy") t u a.legacy i == 0)) states.Legacy states.Enabled)

field_same : (t u : Tree) → DevicesAgree t u → (field : Field) → has_malformed t field ≡ has_malformed u field
field_same t u a fields.Service = malformed_same fields.Service t u a.service
field_same t u a fields.ClassGuid = malformed_same fields.ClassGuid t u a.guid
field_same t u a fields.ConfigFlags = malformed_same fields.ConfigFlags t u a.flags
field_same t u a fields.LowerFilters = malformed_same fields.LowerFilters t u a.lower
field_same t u a fields.UpperFilters = malformed_same fields.UpperFilters t u a.upper

about_same : (t u : Tree) → DevicesAgree t u → about_lines t ≡ about_lines u
about_same t u a =
    λ i. (text_lines (either (text_same (codes "FriendlyName") t u a.friendly i) (text_same (codes "DeviceDesc") t u a.description i))
    ++ flags_lines (number_same (codes "ConfigFlags") t u a.flags i))
    ++ map lines.Malformed (filter (λ f. field_same t u a f i) all_fields)

-- ---- scopes

-- the drivers of two scopes have the same states, and their classes the same filters and names
pub record ScopesAgree (a b : Scope) : Type 0 where
  pub drivers : (name : List ℕ) → driver_of a.services name ≡ driver_of b.services name
  pub called : (guid : Option (List ℕ)) → class_name guid (class_of a.classes guid) ≡ class_name guid (class_of b.classes guid)
  pub lower : (guid : Option (List ℕ))
      → class_names (codes "LowerFilters") (class_of a.classes guid) ≡ class_names (codes "LowerFilters") (class_of b.classes guid)
  pub upper : (guid : Option (List ℕ))
      → class_names (codes "UpperFilters") (class_of a.classes guid) ≡ class_names (codes "UpperFilters") (class_of b.classes guid)

loads_same : (s r : List Tree) (role : Role) (ns ms : List (List ℕ)) → ((name : List ℕ) → driver_of s name ≡ driver_of r name) → ns ≡ ms
    → loads s role ns ≡ loads r role ms
loads_same s r role ns ms drivers e = λ i. map (λ n. lines.Load role (drivers n i)) (e i)

function_same : (s r : List Tree) (o p : Option (List ℕ)) → ((name : List ℕ) → driver_of s name ≡ driver_of r name) → o ≡ p
    → function_lines s o ≡ function_lines r p
function_same s r o p drivers e = by o ∙ ap (function_lines r) e
  where
    by : (o : Option (List ℕ)) → function_lines s o ≡ function_lines r o
    by None = refl
    by (Some name) = λ i. lines.Load Function (drivers name i) ∷ []

stack_same : (s r : List Tree) (c d : Option Tree) (t u : Tree) → ((name : List ℕ) → driver_of s name ≡ driver_of r name)
    → class_names (codes "LowerFilters") c ≡ class_names (codes "LowerFilters") d
    → class_names (codes "UpperFilters") c ≡ class_names (codes "UpperFilters") d
    → DevicesAgree t u → stack_lines s c t ≡ stack_lines r d u
stack_same s r c d t u drivers lower upper a =
    λ i. (((loads_same s r Lower _ _ drivers (names_same (codes "LowerFilters") t u a.lower) i
    ++ loads_same s r ClassLower _ _ drivers lower i)
    ++ function_same s r _ _ drivers (text_same (codes "Service") t u a.service) i)
    ++ loads_same s r Upper _ _ drivers (names_same (codes "UpperFilters") t u a.upper) i)
    ++ loads_same s r ClassUpper _ _ drivers upper i

-- a block of keys that agree
pub block_same : (ids : Bool) (a b : Scope) (d e : Device) → ScopesAgree a b → d.path ≡ e.path → DevicesAgree d.key e.key
    → match_lines ids a d.key ≡ match_lines ids b e.key → block_of ids a d ≡ block_of ids b e
block_same ids a b d e scopes path devices matches =
    let guid = text_same (codes "ClassGUID") d.key e.key devices.guid in
    let before = text_of (codes "ClassGUID") d.key in
    let called = scopes.called before ∙ ap (λ (g : Option (List ℕ)). class_name g (class_of b.classes g)) guid in
    let lower = scopes.lower before ∙ ap (λ (g : Option (List ℕ)). class_names (codes "LowerFilters") (class_of b.classes g)) guid in
    let upper = scopes.upper before ∙ ap (λ (g : Option (List ℕ)). class_names (codes "UpperFilters") (class_of b.classes g)) guid in
    λ i. record {
      enabled = is_enabled (state_same d.key e.key devices i);
      lines = lines.Device (state_same d.key e.key devices i) (called i) (path i)
          ∷ (about_same d.key e.key devices i
          ++ stack_same a.services b.services (class_of a.classes before) (class_of b.classes (text_of (codes "ClassGUID") e.key)) d.key e.key scopes.drivers lower upper devices i)
          ++ matches i;
    }

-- ---- classes

-- two class keys have the same of what is told of them
pub record ClassesAgree (t u : Tree) : Type 0 where
  pub name : (head t).name ≡ (head u).name
  pub class : find_item (codes "Class") t ≡ find_item (codes "Class") u
  pub lower : find_item (codes "LowerFilters") t ≡ find_item (codes "LowerFilters") u
  pub upper : find_item (codes "UpperFilters") t ≡ find_item (codes "UpperFilters") u

label_same : (t u : Tree) → ClassesAgree t u → label_of t ≡ label_of u
label_same t u a = λ i. unwrap_or (text_same (codes "Class") t u a.class i) (a.name i)

class_malformed_same : (of : Option (List ℕ)) (t u : Tree) → ClassesAgree t u → malformed_of of t ≡ malformed_of of u
class_malformed_same (Some name) t u a = refl
class_malformed_same None t u a =
    λ i. map (λ f. lines.ClassMalformed f (label_same t u a i) (a.name i))
    (cond (malformed_same fields.LowerFilters t u a.lower i)
    (fields.LowerFilters ∷ cond (malformed_same fields.UpperFilters t u a.upper i) (fields.UpperFilters ∷ []) [])
    (cond (malformed_same fields.UpperFilters t u a.upper i) (fields.UpperFilters ∷ []) []))

filters_same : (s r : List Tree) (of : Option (List ℕ)) (role : Role) (t u : Tree) (ns ms : List (List ℕ))
    → ((name : List ℕ) → driver_of s name ≡ driver_of r name) → ClassesAgree t u → ns ≡ ms
    → filter_lines s of role t ns ≡ filter_lines r of role u ms
filters_same s r of role t u ns ms drivers a e =
    λ i. flat_map (λ n. cond (is_prevented (drivers n i).state && is_asked of (drivers n i))
    (lines.ClassFilter role (label_same t u a i) (a.name i) (drivers n i) ∷ []) []) (e i)

-- the lines on class keys that agree
pub class_same : (s r : List Tree) (of : Option (List ℕ)) (t u : Tree) → ((name : List ℕ) → driver_of s name ≡ driver_of r name)
    → ClassesAgree t u → class_lines s of t ≡ class_lines r of u
class_same s r of t u drivers a =
    λ i. (class_malformed_same of t u a i
    ++ filters_same s r of Lower t u _ _ drivers a (names_same (codes "LowerFilters") t u a.lower) i)
    ++ filters_same s r of Upper t u _ _ drivers a (names_same (codes "UpperFilters") t u a.upper) i

-- ---- the database

pub critical_same : (s r : List Tree) (of : Option (List ℕ)) (entry : List ℕ) (o : Option (List ℕ))
    → ((name : List ℕ) → driver_of s name ≡ driver_of r name) → service_lines s of entry o ≡ service_lines r of entry o
critical_same s r of entry None drivers = refl
critical_same s r of entry (Some name) drivers = λ i. driver_lines of entry (drivers name i)
