-- The systems of the worked examples that have several sets, and the scripts on them.
use Rattle.std.specs.Prelude.{ℕ, List, [], ◌∷◌, map, Some, codes}
use Rattle.hive_model.specs.Tree.{Tree}
use Rattle.start_model.specs.Events.{Event, Go, Fail, Edits, Set, Logon, Off}
use Rattle.start_laws.specs.Written.{dword, service, set_with, select, system}
use Rattle.start_laws.specs.OneSet.{boot, go}

abbrev pub disk_only : ℕ → ℕ → Tree
disk_only number start = set_with number (service (codes "Disk") start 1 1 [] ∷ [])

-- Default and LastKnownGood are one set
abbrev pub unguarded : Tree
unguarded = system (disk_only 1 0 ∷ select 1 1 0 1 ∷ [])

-- the driver is disabled in the set that the start took
abbrev pub disables_the_disk : List Event
disables_the_disk =
    boot ∷ Edits (Set (codes "CurrentControlSet" ∷ codes "Services" ∷ codes "Disk" ∷ []) (codes "Start") 4 (4 ∷ 0 ∷ 0 ∷ 0 ∷ [])) ∷ Off ∷ []

-- set 3, which was current, is not the one to be taken
abbrev pub left_behind : ℕ → Tree
left_behind good = system (disk_only 1 0 ∷ disk_only 2 0 ∷ disk_only 3 0 ∷ select 3 1 0 good ∷ [])

-- set 1 has a driver that set 2 lacks, and whose failure is severe
abbrev pub new_driver : Tree
new_driver =
    system (set_with 1 (service (codes "Disk") 0 1 1 [] ∷ service (codes "New") 0 1 2 [] ∷ []) ∷ disk_only 2 0 ∷ select 1 1 0 2 ∷ [])

-- that driver fails, the next start falls back, and a user logs on to it
abbrev pub fails_once : List Event
fails_once = Fail (codes "New") 1 ∷ boot ∷ go ∷ boot ∷ go ∷ Logon ∷ Off ∷ []

abbrev pub critical_disk : ℕ → Tree
critical_disk number = set_with number (service (codes "Disk") 0 1 3 [] ∷ [])

abbrev pub critical : Tree
critical = system (critical_disk 1 ∷ critical_disk 2 ∷ select 1 1 0 2 ∷ [])

-- the driver fails in both starts
abbrev pub fails_twice : List Event
fails_twice = Fail (codes "Disk") 2 ∷ boot ∷ go ∷ boot ∷ go ∷ []

-- a set with two services, the second with more values
abbrev pub two_services : ℕ → List (List ℕ × ℕ) → Tree
two_services number more =
    set_with number (service (codes "S") 2 16 1 [] ∷ service (codes "T") 2 16 1 (map (λ v. dword v.0 v.1) more) ∷ [])

abbrev pub used : Tree
used = system (two_services 1 [] ∷ two_services 2 [] ∷ select 1 1 0 2 ∷ [])

-- a user logs on, and an edit comes before the start is good
abbrev pub logs_on_and_edits : List Event
logs_on_and_edits =
    boot ∷ Go (Some 3) ∷ Logon
    ∷ Edits (Set (codes "CurrentControlSet" ∷ codes "Services" ∷ codes "T" ∷ []) (codes "Tag") 4 (9 ∷ 0 ∷ 0 ∷ 0 ∷ []))
    ∷ go ∷ Off ∷ []
