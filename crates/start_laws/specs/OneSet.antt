-- The systems of the worked examples that have one set, and the scripts on them. Type 1 is a driver, 16 and 32 are services.
use Rattle.std.specs.Prelude.{ℕ, false, List, [], ◌∷◌, None, codes}
use Rattle.hive_model.specs.Tree.{Tree}
use Rattle.start_model.specs.Events.{Event, BootNow, Go, Fail}
use Rattle.start_laws.specs.Written.{dword, text, texts, tags, service, set_with, ordered_set, groups, tag_lists, select, system}

-- ---- scripts

abbrev pub boot : Event
boot = BootNow None false

abbrev pub go : Event
go = Go None

abbrev pub boot_and_go : List Event
boot_and_go = boot ∷ go ∷ []

-- ---- one set, without a LastKnownGood

abbrev pub only_set : List Tree → Tree
only_set services = system (set_with 1 services ∷ select 1 1 0 0 ∷ [])

abbrev pub only_ordered : List Tree → List Tree → Tree
only_ordered control services = system (ordered_set 1 control services ∷ select 1 1 0 0 ∷ [])

abbrev pub in_group : List ℕ → List ℕ → Tree
in_group name group = service name 0 1 1 (text (codes "Group") group ∷ [])

-- the tags of Base are 7 and then 2; A has the second, B the first
abbrev pub tagged : Tree
tagged =
    only_ordered (tag_lists (tags (codes "Base") 2 (7 ∷ 2 ∷ []) ∷ []) ∷ groups (codes "Base" ∷ []) ∷ [])
    (service (codes "A") 0 1 1 (dword (codes "Tag") 2 ∷ text (codes "Group") (codes "Base") ∷ [])
    ∷ service (codes "B") 0 1 1 (dword (codes "Tag") 7 ∷ text (codes "Group") (codes "Base") ∷ [])
    ∷ [])

-- A has a group that is not listed, B none, C a listed one
abbrev pub grouped : Tree
grouped =
    only_ordered (groups (codes "Base" ∷ []) ∷ [])
    (in_group (codes "A") (codes "Other") ∷ service (codes "B") 0 1 1 [] ∷ in_group (codes "C") (codes "Base") ∷ [])

abbrev pub needing : List ℕ → ℕ → ℕ → ℕ → List ℕ → Tree
needing name start kind control needed = service name start kind control (texts (codes "DependOnService") (needed ∷ []) ∷ [])

-- A needs B
abbrev pub chained : Tree
chained = only_set (needing (codes "A") 0 1 1 (codes "B") ∷ service (codes "B") 0 1 1 [] ∷ service (codes "C") 0 1 1 [] ∷ [])

-- P and Q need each other
abbrev pub cyclic : Tree
cyclic = only_set (needing (codes "P") 0 1 2 (codes "Q") ∷ needing (codes "Q") 0 1 2 (codes "P") ∷ [])

-- D needs the group G, whose one member M has this ErrorControl
abbrev pub group_of_one : ℕ → Tree
group_of_one control =
    only_set (service (codes "D") 0 1 1 (texts (codes "DependOnGroup") (codes "G" ∷ []) ∷ [])
    ∷ service (codes "M") 0 1 control (text (codes "Group") (codes "G") ∷ [])
    ∷ [])

abbrev pub member_fails : List Event
member_fails = Fail (codes "M") 1 ∷ boot_and_go

-- S needs D, which starts on demand; T needs X, which is disabled
abbrev pub on_demand : Tree
on_demand =
    only_set (service (codes "D") 3 1 1 [] ∷ needing (codes "S") 2 32 1 (codes "D") ∷ needing (codes "T") 2 32 1 (codes "X")
    ∷ service (codes "X") 4 32 1 [] ∷ [])

-- S needs D, which needs E; D, E and F start on demand, and none needs F
abbrev pub two_deep : Tree
two_deep =
    only_set (needing (codes "D") 3 1 1 (codes "E") ∷ service (codes "E") 3 1 1 [] ∷ service (codes "F") 3 1 1 [] ∷ needing (codes "S") 2 32 1 (codes "D") ∷ [])
