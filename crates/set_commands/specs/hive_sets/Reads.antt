-- The same part, read from the root by paths. (this project's own)
use Rattle.std.specs.Prelude.{ℕ, List, [], ◌∷◌, Some, codes, unwrap_or, if◌then◌else◌}
use Rattle.nt_bytes.specs.Folding.{folds_same}
use Rattle.hive_model.specs.Tree.{Tree, find_key}
use Rattle.set_commands.specs.hive_sets.Parts.{bare, of_two, is_wanted}

-- the key Control of the child of a name
abbrev pub control_at : Tree → List ℕ → Tree
control_at tree name =
    of_two (codes "Control") (find_key (name ∷ codes "Control" ∷ codes "ServiceGroupOrder" ∷ []) tree)
    (find_key (name ∷ codes "Control" ∷ codes "GroupOrderList" ∷ []) tree)

-- the set of a name
abbrev pub set_at : Tree → List ℕ → Tree
set_at tree name = of_two name (Some (control_at tree name)) (find_key (name ∷ codes "Services" ∷ []) tree)

-- the child of a name with all below it
abbrev pub whole_at : Tree → List ℕ → Tree
whole_at tree name = unwrap_or (find_key (name ∷ []) tree) (bare name [])

-- the part of the child of a name
abbrev pub child_at : Tree → List ℕ → List ℕ → Tree
child_at tree numbers name =
    if is_wanted numbers name then set_at tree name
    else (if folds_same (codes "Select") name then whole_at tree name
    else bare name [])
