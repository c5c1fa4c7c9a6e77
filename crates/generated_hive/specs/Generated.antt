-- The system that a hive is generated with: a control set of that many services in ten groups (this project's own; types of
-- values and what a service has: Microsoft's documentation of registry value types and of service entries).
--
-- Each key has no class, no descriptor and no stamp.
use Rattle.std.specs.Prelude.{ℕ, ◌+◌, ◌-◌, ◌*◌, ◌/◌, ◌%◌, Bool, ◌&&◌, ◌==◌, nat_le, nat_lt, if◌then◌else◌, List, [], ◌∷◌, ◌++◌, map, codes}
use Rattle.std.specs.List.{flat_map, range_with_len}
use Rattle.std.specs.Int.{w16, w32, to_le_bytes}
use Rattle.hive_model.specs.Tree.{Item, Head, Tree, key, trees}

-- ---- values

-- a text in UTF-16 and a zero unit
abbrev pub text_bytes : List ℕ → List ℕ
text_bytes text = flat_map (to_le_bytes w16) text ++ to_le_bytes w16 0

-- a number of four bytes (REG_DWORD)
unfoldable pub number_value : List ℕ → ℕ → Item
number_value name number = record { name = name; kind = 4; bytes = to_le_bytes w32 number }

-- a string (REG_SZ)
unfoldable pub string_value : List ℕ → List ℕ → Item
string_value name text = record { name = name; kind = 1; bytes = text_bytes text }

-- strings, with a zero unit after the last (REG_MULTI_SZ)
unfoldable pub strings_value : List ℕ → List (List ℕ) → Item
strings_value name texts = record { name = name; kind = 7; bytes = flat_map text_bytes texts ++ to_le_bytes w16 0 }

-- numbers of four bytes in sequence (REG_BINARY)
unfoldable pub numbers_value : List ℕ → List ℕ → Item
numbers_value name numbers = record { name = name; kind = 3; bytes = flat_map (to_le_bytes w32) numbers }

-- ---- keys

-- what a key of this name, these flags and these values has but its children
abbrev pub flagged_head : List ℕ → ℕ → List Item → Head
flagged_head name flags values = record { name = name; flags = flags; stamp = 0; class = []; security = []; values = values }

-- a key without flags
unfoldable pub plain_key : List ℕ → List Item → List Tree → Tree
plain_key name values keys = key (flagged_head name 0 values) (trees keys)

-- the last decimal digit of a number
abbrev pub last_digit : ℕ → ℕ
last_digit n = 48 + n % 10

-- ---- groups

-- how many groups there are
abbrev pub group_count : ℕ
group_count = 10

-- `Group` and a digit
unfoldable pub group_name : ℕ → List ℕ
group_name k = codes "Group" ++ last_digit k ∷ []

-- the order of the tags in a group: how many they are, and the tags, the greatest first
abbrev pub tag_order : List ℕ
tag_order = 8 ∷ 7 ∷ 6 ∷ 5 ∷ 4 ∷ 3 ∷ 2 ∷ 1 ∷ 0 ∷ []

-- the tags of a group in their order
abbrev pub tags_value : ℕ → Item
tags_value k = numbers_value (group_name k) tag_order

-- those of each group
unfoldable pub tags_values : List Item
tags_values = map tags_value (range_with_len 0 group_count)

-- the key that has them
unfoldable pub tags_key : Tree
tags_key = plain_key (codes "GroupOrderList") tags_values []

-- the groups in their order
unfoldable pub groups_key : Tree
groups_key = plain_key (codes "ServiceGroupOrder") (strings_value (codes "List") (map group_name (range_with_len 0 group_count)) ∷ []) []

-- ---- services

-- `Svc` and the number in five digits
unfoldable pub service_name : ℕ → List ℕ
service_name i = codes "Svc" ++ last_digit (i / 10000) ∷ last_digit (i / 1000) ∷ last_digit (i / 100) ∷ last_digit (i / 10) ∷ last_digit i ∷ []

-- 0, 1 and 2 by turns: at boot, by the system, automatic
abbrev pub start_number : ℕ → ℕ
start_number i = i % 3

-- a kernel driver, or a process of its own where the start is automatic
abbrev pub type_number : ℕ → ℕ
type_number i = if nat_lt (start_number i) 2 then 1 else 16

-- one in four needs another, the third before it
abbrev pub has_need : ℕ → Bool
has_need i = nat_le 3 i && (i % 4 == 1)

-- the one service that it needs
unfoldable pub need_value : ℕ → Item
need_value i = strings_value (codes "DependOnService") (service_name (i - 3) ∷ [])

-- what the service needs, if anything
abbrev pub need_values : ℕ → List Item
need_values i = if has_need i then need_value i ∷ [] else []

-- the group that it is in
unfoldable pub group_value : ℕ → Item
group_value i = string_value (codes "Group") (group_name (7 * i))

-- what each service has
unfoldable pub order_values : ℕ → List Item
order_values i =
    number_value (codes "Start") (start_number i)
    ∷ number_value (codes "Type") (type_number i)
    ∷ number_value (codes "ErrorControl") 1
    ∷ group_value i
    ∷ number_value (codes "Tag") (i % 8)
    ∷ []

-- service i
unfoldable pub generated_service : ℕ → Tree
generated_service i = plain_key (service_name i) (order_values i ++ need_values i) []

-- the first services, that many
abbrev pub first_services : ℕ → List Tree
first_services count = map generated_service (range_with_len 0 count)

-- ---- the whole

-- the orders of the groups and of their tags
unfoldable pub generated_control : Tree
generated_control = plain_key (codes "Control") [] (tags_key ∷ groups_key ∷ [])

-- the one control set
unfoldable pub generated_set : ℕ → Tree
generated_set count = plain_key (codes "ControlSet001") [] (generated_control ∷ plain_key (codes "Services") [] (first_services count) ∷ [])

-- the one set is current, default and last known good, and none has failed
unfoldable pub generated_select : Tree
generated_select =
    plain_key (codes "Select")
    (number_value (codes "Current") 1
    ∷ number_value (codes "Default") 1
    ∷ number_value (codes "Failed") 0
    ∷ number_value (codes "LastKnownGood") 1
    ∷ [])
    []

-- the system of that many services
unfoldable pub generated : ℕ → Tree
generated count = key (flagged_head (codes "ROOT") 0x000C []) (trees (generated_set count ∷ generated_select ∷ []))
