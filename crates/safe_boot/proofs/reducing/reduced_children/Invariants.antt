use Rattle.std.proofs.Common.{◌≡◌, ◌++◌, drop}
use Rattle.std.specs.Prelude.{filter, codes}
use Rattle.hive_model.specs.Tree.{is_named}
use Rattle.hive_model.specs.Edit.{at_first, of_children}
use Rattle.safe_boot.specs.Listed.{stays}
use Rattle.safe_boot.proofs.ReduceLemmas.{rest_of}
use Rattle.safe_boot.proofs.reducing.reduced_children.Given as goal

abbrev pub invariant-loop-key : goal.invariant-loop-key
invariant-loop-key l =
    l.made ++ rest_of l.found (is_named (codes "Services")) (of_children (filter (stays l.images l.names)))
    (drop l.key-index l.keys)
    ≡ at_first (is_named (codes "Services")) (of_children (filter (stays l.images l.names))) l.keys
