-- What would a run note whose starts keep no set for LastKnownGood?
use Rattle.std.specs.Prelude.{[], ◌∷◌, ◌++◌, List, codes}
use Rattle.hive_model.specs.Tree.{Tree}
use Rattle.hive_model.specs.Edit.{Step, set_value}
use Rattle.start_model.specs.Sets.{set_name}
use Rattle.start_model.specs.Possible.{Finished, loads_as}
use Rattle.start_model.specs.Act.{Note, Woke, Held, Ended}
use Rattle.start_laws.specs.Written.{placed, select, system}
use Rattle.start_laws.specs.TwoSets.{disk_only, unguarded}

-- the edit `set CurrentControlSet\Services\Disk Start dword 4` of a start that took set 1
abbrev pub disabling : Step
disabling = set_value (set_name 1 ∷ codes "Services" ∷ codes "Disk" ∷ []) (codes "Start") 4 (4 ∷ 0 ∷ 0 ∷ 0 ∷ [])

-- the one set, which LastKnownGood names too, with the driver disabled
abbrev pub disabled : Tree
disabled = system (disk_only 1 4 ∷ select 1 1 0 1 ∷ [])

-- A start takes the one set, keeps no copy of it, and a flush commits the edit. Whatever is noted after that: a save of the
-- same set, for one.
abbrev pub without_guard : List Note → List Note
without_guard after = (Woke (loads_as (placed unguarded)) ∷ Held unguarded ∷ Ended Finished ∷ Ended Finished ∷ []) ++ Held disabled ∷ after
