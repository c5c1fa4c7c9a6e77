-- What is compared of the services of a set, and which lines are there of two sets' services?
--
-- Values and their types: Microsoft's documentation of service entries. What of them is read, and how, is what the book of
-- startup says. The lines are this project's own.
use Rattle.std.specs.Prelude.{ℕ, Bool, not, List, [], ◌∷◌, ◌++◌, map, filter, position, slice_get, Option, option_and_then, codes}
use Rattle.std.specs.List.{flat_map, filter_map}
use Rattle.std.specs.Option.{option_map, option_map_or}
use Rattle.nt_bytes.specs.Folding.{folds_same}
use Rattle.hive_model.specs.Tree.{Tree, find_string}
use Rattle.start_model.specs.Entries.{Entry, entry_of, services_of}
use Rattle.answer_lines.specs.declared.diff_lines.lines.DiffField.{DiffField}
use Rattle.answer_lines.specs.declared.diff_lines.lines.DiffField.TheVariants as fields
use Rattle.answer_lines.specs.declared.diff_lines.lines.DiffLine.{DiffLine}
use Rattle.answer_lines.specs.declared.diff_lines.lines.DiffLine.TheVariants.{Only, Differs}
use Rattle.answer_lines.specs.declared.diff_lines.lines.Shown.{Shown}
use Rattle.answer_lines.specs.declared.diff_lines.lines.Shown.TheVariants.{Number, Texts}
use Rattle.answer_lines.specs.declared.diff_lines.lines.Sequence.TheVariants.{Registry}
use Rattle.answer_lines.specs.declared.diff_lines.lines.Side.{Side}
use Rattle.answer_lines.specs.declared.diff_lines.lines.Side.TheVariants.{First, Second}
use Rattle.set_diff.specs.declared.service.Service.{Service}
use Rattle.set_diff.specs.Listed.{lacks, shared_parts}
use Rattle.set_diff.specs.Shown.{line_when, shown_same, number_shown, text_shown}

-- an entry, and the texts of its key
abbrev pub service_at : Tree → Entry → Service
service_at t e = record {
  entry = e;
  image = find_string (codes "ImagePath") t;
  account = find_string (codes "ObjectName") t;
}

-- the service that a key is, where it is an entry
abbrev pub service_of : Tree → Option Service
service_of t = option_map (service_at t) (entry_of t)

-- the services of a set, in the order of the registry
abbrev pub services_in : Tree → List Service
services_in set = filter_map service_of (services_of set)

-- their names
abbrev pub service_names : List Service → List (List ℕ)
service_names services = map (λ s. s.entry.name) services

-- the service of a name
abbrev pub service_named : List Service → List ℕ → Option Service
service_named services name = option_and_then (slice_get services) (position (folds_same name) (service_names services))

-- ---- services that one set alone has

abbrev pub only_line : Side → Service → DiffLine
only_line side s = Only side s.entry.start s.entry.kind s.entry.control (text_shown s.image) s.entry.name

-- the other set lacks a service's name
abbrev pub is_only : List (List ℕ) → Service → Bool
is_only others s = lacks others s.entry.name

abbrev pub only_lines : Side → List Service → List (List ℕ) → List DiffLine
only_lines side services others = map (only_line side) (filter (is_only others) services)

-- ---- services that both have

-- what a service has in a field
abbrev pub field_shown : DiffField → Service → Shown
field_shown fields.Start s = Number s.entry.start
field_shown fields.Type s = Number s.entry.kind
field_shown fields.ErrorControl s = Number s.entry.control
field_shown fields.Group s = text_shown s.entry.group
field_shown fields.Tag s = number_shown s.entry.tag
field_shown fields.DependOnService s = Texts s.entry.services
field_shown fields.DependOnGroup s = Texts s.entry.groups
field_shown fields.ImagePath s = text_shown s.image
field_shown fields.ObjectName s = text_shown s.account

abbrev pub all_fields : List DiffField
all_fields =
    fields.Start ∷ fields.Type ∷ fields.ErrorControl ∷ fields.Group ∷ fields.Tag ∷ fields.DependOnService ∷ fields.DependOnGroup
    ∷ fields.ImagePath ∷ fields.ObjectName ∷ []

-- a field, where it differs
abbrev pub field_lines : Service → Service → DiffField → List DiffLine
field_lines a b field =
    line_when (not (shown_same (field_shown field a) (field_shown field b)))
    (Differs field (field_shown field a) (field_shown field b) a.entry.name)

-- the fields of a pair
abbrev pub pair_lines : Service → Service → List DiffLine
pair_lines a b = flat_map (field_lines a b) all_fields

-- the fields of a service and of the other set's service of its name
abbrev pub paired_lines : List Service → Service → List DiffLine
paired_lines others a = option_map_or (pair_lines a) (service_named others a.entry.name) []

abbrev pub differs_lines : List Service → List Service → List DiffLine
differs_lines services others = flat_map (paired_lines others) services

-- ---- all of them

-- the services that one set alone has
abbrev pub apart_lines : List Service → List Service → List DiffLine
apart_lines first second = only_lines First first (service_names second) ++ only_lines Second second (service_names first)

-- the services that both have: their fields and their order
abbrev pub common_lines : List Service → List Service → List DiffLine
common_lines first second = differs_lines first second ++ shared_parts Registry (service_names first) (service_names second)

abbrev pub services_lines : List Service → List Service → List DiffLine
services_lines first second = apart_lines first second ++ common_lines first second
