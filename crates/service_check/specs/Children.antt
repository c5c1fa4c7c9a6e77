-- What is wrong with a child of `Services`?
--
-- Values and their types: Microsoft's documentation of service entries. What of them is read, and how, is what the book of
-- startup says. What counts as suspicious is this project's own.
use Rattle.std.specs.Prelude.{ℕ, Bool, true, false, not, ◌&&◌, ◌||◌, ◌==◌, nat_eq, nat_le, nat_lt, List, [], ◌∷◌, ◌++◌, map, filter, length, position, slice_get, Option, Some, None, option_and_then, codes, if◌then◌else◌}
use Rattle.std.specs.List.{list_any}
use Rattle.std.specs.Option.{is_some, option_map_or}
use Rattle.nt_bytes.specs.Folding.{folds_same}
use Rattle.nt_bytes.specs.Text.{wide_of, is_zero, is_filled}
use Rattle.hive_model.specs.Tree.{Tree, Item, head, find_item, find_dword, find_string}
use Rattle.start_model.specs.Entries.{Entry, is_driver, is_service}
use Rattle.start_model.specs.Order.{GroupOrder}
use Rattle.answer_lines.specs.declared.check_lines.lines.Field.{Field}
use Rattle.answer_lines.specs.declared.check_lines.lines.Field.TheVariants as fields
use Rattle.answer_lines.specs.declared.check_lines.lines.Fault.{Fault}
use Rattle.answer_lines.specs.declared.check_lines.lines.Fault.TheVariants as faults
use Rattle.service_check.specs.declared.stage.Stage.TheVariants.{System}
use Rattle.service_check.specs.declared.stage.Staged.{Staged}
use Rattle.service_check.specs.Stages.{is_taken, is_upto}
use Rattle.service_check.specs.Needs.{named, need_faults}

-- a fault where there is one
abbrev pub when : Bool → Fault → List Fault
when found fault = if found then fault ∷ [] else []

-- the key has a value of this name, whatever its type
abbrev pub has_value : List ℕ → Tree → Bool
has_value name t = is_some (find_item name t)

-- ---- values that are missing

-- one of the two values that make an entry is there and the other isn't
abbrev pub missing_faults : Tree → List Fault
missing_faults t =
    when (has_value (codes "Type") t && not (has_value (codes "Start") t)) faults.NoStart
    ++ when (has_value (codes "Start") t && not (has_value (codes "Type") t)) faults.NoType

-- ---- values of another form

abbrev pub field_name : Field → List ℕ
field_name fields.Start = codes "Start"
field_name fields.Type = codes "Type"
field_name fields.ErrorControl = codes "ErrorControl"
field_name fields.Group = codes "Group"
field_name fields.Tag = codes "Tag"
field_name fields.DependOnService = codes "DependOnService"
field_name fields.DependOnGroup = codes "DependOnGroup"

abbrev pub all_fields : List Field
all_fields = fields.Start ∷ fields.Type ∷ fields.ErrorControl ∷ fields.Group ∷ fields.Tag ∷ fields.DependOnService ∷ fields.DependOnGroup ∷ []

-- a unit other than zero
abbrev pub is_some_unit : ℕ → Bool
is_some_unit unit = not (is_zero unit)

-- Something stands after the end of a list of strings, each of which ends with a zero unit: the list ends at the first that is
-- empty. The flag says that no unit of the present string was read.
abbrev pub has_rest : Bool → List ℕ → Bool
has_rest fresh [] = false
has_rest fresh (unit ∷ units) = if is_zero unit && fresh then list_any is_some_unit units else has_rest (is_zero unit) units

-- not a DWORD: type 4 with four bytes
abbrev pub is_no_dword : Item → Bool
is_no_dword v = not ((v.kind == 4) && (length v.bytes == 4))

-- not a string: type 1 or 2
abbrev pub is_no_string : Item → Bool
is_no_string v = not ((v.kind == 1) || (v.kind == 2))

-- not a list of strings, type 7, or one of which a part is never read
abbrev pub is_no_list : Item → Bool
is_no_list v = not (v.kind == 7) || has_rest true (wide_of v.bytes)

-- the value isn't of the form that is read
abbrev pub is_malformed : Field → Item → Bool
is_malformed fields.Start v = is_no_dword v
is_malformed fields.Type v = is_no_dword v
is_malformed fields.ErrorControl v = is_no_dword v
is_malformed fields.Group v = is_no_string v
is_malformed fields.Tag v = is_no_dword v
is_malformed fields.DependOnService v = is_no_list v
is_malformed fields.DependOnGroup v = is_no_list v

-- the key has the value, and it isn't of that form
abbrev pub has_malformed : Tree → Field → Bool
has_malformed t field = option_map_or (is_malformed field) (find_item (field_name field) t) false

abbrev pub malformed : Field → Fault
malformed field = faults.Malformed field

abbrev pub malformed_faults : Tree → List Fault
malformed_faults t = map malformed (filter (has_malformed t) all_fields)

-- ---- numbers out of range

abbrev pub number_faults : Entry → List Fault
number_faults e =
    when (nat_lt 4 e.start) (faults.Beyond e.start)
    ++ when (nat_le e.start 2 && not (is_driver e.kind || is_service e.kind)) (faults.Kind e.kind)
    ++ when (nat_le e.start 1 && is_service e.kind) (faults.TooEarly e.start)

-- an ErrorControl that no start knows
abbrev pub control_beyond : Option ℕ → List Fault
control_beyond None = []
control_beyond (Some control) = when (nat_lt 3 control) (faults.ControlBeyond control)

abbrev pub control_faults : Tree → Staged → List Fault
control_faults t r =
    when (is_taken r.stage && not (has_value (codes "ErrorControl") t)) faults.NoControl ++ control_beyond (find_dword (codes "ErrorControl") t)

-- ---- images

-- the key has an ImagePath that isn't empty
abbrev pub has_image : Tree → Bool
has_image t = option_map_or is_filled (find_string (codes "ImagePath") t) false

-- a service of Start 2 or 3 without one, where the set has one somewhere
abbrev pub image_faults : Bool → Tree → Entry → List Fault
image_faults has_images t e =
    when (has_images && (is_service e.kind && ((e.start == 2) || (e.start == 3))) && not (has_image t)) faults.NoImage

-- ---- tags

-- the first listed group of this name, with its tags
abbrev pub listed : List GroupOrder → List ℕ → Option GroupOrder
listed orders group = option_and_then (slice_get orders) (position (λ o. folds_same group o.name) orders)

abbrev pub tag_fault : ℕ → List ℕ → Option GroupOrder → List Fault
tag_fault tag group None = []
tag_fault tag group (Some o) = when (not (is_some (position (λ x. nat_eq x tag) o.tags))) (faults.TagUnlisted tag group)

abbrev pub tag_faults_of : List GroupOrder → Option ℕ → Option (List ℕ) → List Fault
tag_faults_of orders None group = []
tag_faults_of orders (Some tag) None = []
tag_faults_of orders (Some tag) (Some group) = tag_fault tag group (listed orders group)

-- tags order the drivers of the phases boot and system
abbrev pub tag_faults : List GroupOrder → Staged → List Fault
tag_faults orders r = if is_upto System r.stage then tag_faults_of orders r.entry.tag r.entry.group else []

-- the same where the order is asked for
abbrev pub order_faults : Bool → List GroupOrder → Staged → List Fault
order_faults in_order orders r = if in_order then tag_faults orders r else []

-- ---- the child

-- what a child is judged by: the entries of the set, its listed groups, whether an entry has an image, and whether the order
-- of groups and tags is asked for
pub record Scope : Type 0 where
  pub rows : List Staged
  pub orders : List GroupOrder
  pub has_images : Bool
  pub in_order : Bool

-- what is wrong with the values of an entry
abbrev pub own_faults : Bool → Tree → Staged → List Fault
own_faults has_images t r = number_faults r.entry ++ control_faults t r ++ image_faults has_images t r.entry

-- what is wrong with its needs and its tag
abbrev pub bond_faults : Scope → Staged → List Fault
bond_faults s r = need_faults s.rows r ++ order_faults s.in_order s.orders r

-- what is wrong with an entry
abbrev pub entry_faults : Scope → Tree → Staged → List Fault
entry_faults s t r = own_faults s.has_images t r ++ bond_faults s r

-- what is wrong with a child that has a value Start or Type; its entry, where it is one, is the one of its name
abbrev pub service_faults : Scope → Tree → List Fault
service_faults s t =
    missing_faults t ++ malformed_faults t ++ option_map_or (entry_faults s t) (named s.rows (head t).name) []

-- what is wrong with a child; one with neither is no service
abbrev pub child_faults : Scope → Tree → List Fault
child_faults s t = if has_value (codes "Start") t || has_value (codes "Type") t then service_faults s t else []
