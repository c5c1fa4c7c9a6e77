-- What is a key by its Type, and which keys of a set are listed and shown? (this project's own; Types: Microsoft's documentation of service entries)
use Rattle.std.specs.Prelude.{ℕ, Bool, true, false, ◌&&◌, ◌||◌, ◌==◌, nat_le, List, filter, Option, Some, None, codes, if◌then◌else◌}
use Rattle.std.specs.Option.{option_map_or, is_some}
use Rattle.hive_model.specs.Tree.{Tree, head, find_item, find_dword}
use Rattle.start_model.specs.Entries.{is_driver, is_service}
use Rattle.answer_lines.specs.declared.why_lines.lines.EntryKind.{EntryKind}
use Rattle.answer_lines.specs.declared.why_lines.lines.EntryKind.TheVariants as kinds
use Rattle.service_list.specs.declared.kinds.Selection.{Selection}

-- ---- kinds

abbrev pub kind_in : ℕ → EntryKind
kind_in kind = if is_driver kind then kinds.Driver else (if is_service kind then kinds.Service else kinds.Other)

-- by the DWORD Type; other where there is none
abbrev pub kind_of : Tree → EntryKind
kind_of t = option_map_or kind_in (find_dword (codes "Type") t) kinds.Other

abbrev pub is_driver_kind : EntryKind → Bool
is_driver_kind kinds.Driver = true
is_driver_kind kinds.Service = false
is_driver_kind kinds.Other = false

abbrev pub is_service_kind : EntryKind → Bool
is_service_kind kinds.Driver = false
is_service_kind kinds.Service = true
is_service_kind kinds.Other = false

abbrev pub is_other_kind : EntryKind → Bool
is_other_kind kinds.Driver = false
is_other_kind kinds.Service = false
is_other_kind kinds.Other = true

-- ---- which keys

-- a value of this name, whatever it holds
abbrev pub has_value : List ℕ → Tree → Bool
has_value name t = is_some (find_item name t)

-- a value Start or a value Type, whatever these hold
abbrev pub is_listed : Tree → Bool
is_listed t = has_value (codes "Start") t || has_value (codes "Type") t

-- the DWORD Start is this number
abbrev pub starts_at : ℕ → Tree → Bool
starts_at start t = option_map_or (λ n. n == start) (find_dword (codes "Start") t) false

abbrev pub has_start : Option ℕ → Tree → Bool
has_start None t = true
has_start (Some start) t = starts_at start t

-- it is of the kind that is asked for
abbrev pub is_kind : EntryKind → EntryKind → Bool
is_kind kinds.Driver kind = is_driver_kind kind
is_kind kinds.Service kind = is_service_kind kind
is_kind kinds.Other kind = is_other_kind kind

abbrev pub has_kind : Option EntryKind → Tree → Bool
has_kind None t = true
has_kind (Some asked) t = is_kind asked (kind_of t)

-- the key's own stamp is this one or greater
abbrev pub is_since : Option ℕ → Tree → Bool
is_since None t = true
is_since (Some stamp) t = nat_le stamp (head t).stamp

-- a key passes the filters
abbrev pub is_shown : Selection → Tree → Bool
is_shown s t = has_start s.start t && has_kind s.kind t && is_since s.since t

-- listed, and it passes
abbrev pub is_chosen : Selection → Tree → Bool
is_chosen s t = is_listed t && is_shown s t

-- those of these keys, in their order
abbrev pub chosen_of : Selection → List Tree → List Tree
chosen_of s keys = filter (is_chosen s) keys
