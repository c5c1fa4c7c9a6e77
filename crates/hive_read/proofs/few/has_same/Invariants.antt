use Rattle.std.proofs.Common.{◌≡◌, map, length}
use Rattle.std.specs.List.{list_any}
use Rattle.cell_forms.specs.Views.{name_of}
use Rattle.hive_read.specs.Taken.{folded_name, folds_to}
use Rattle.hive_read.proofs.few.has_same.Given as goal

abbrev pub invariant-names : goal.invariant-names
invariant-names l = list_any (folds_to (name_of l.name)) (map folded_name l.rest)
    ≡ list_any (folds_to (name_of l.name)) (map folded_name l.names)

abbrev pub decreases-names : goal.decreases-names
decreases-names l = length l.rest
