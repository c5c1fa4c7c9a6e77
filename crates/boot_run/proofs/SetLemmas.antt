-- How many services a set has, by their names, and which set is the current one.
use Rattle.std.proofs.Common.{◌≡◌, ◌∙◌, ap, ℕ, [], ◌∷◌, length, map, Option, Some, None, refl}
use Rattle.std.specs.Prelude.{codes, find, Result, Ok, Err, IfOk}
use Rattle.std.specs.Option.{unwrap_or, option_and_then, option_map_or}
use Rattle.std.proofs.lemmas.List.{length-map}
use Rattle.hive_model.specs.Tree.{Tree, head, children, is_named, find_key}
use Rattle.hive_model.specs.Valid.{HoldsKeys}
use Rattle.hive_store.specs.Found.{found_names}
use Rattle.start_model.specs.Entries.{services_of}
use Rattle.start_model.specs.Sets.{set_name, set_of}
use Rattle.start_model.specs.Starter.{no_set}
use Rattle.boot_phases.specs.boot_phases.Lists.{Lists, lists_of}
use Rattle.boot_run.specs.Begins.{IsTaken}
use Rattle.boot_run.specs.Kept.{current_set, AreRead}

as_many_names : (o : Option Tree)
    → length (option_map_or (λ t. map (λ child. (head child).name) (children t)) o [])
    ≡ length (option_map_or children o [])
as_many_names None = refl
as_many_names (Some t) = length-map (children t) (λ child. (head child).name)

-- by the child that the number names
in_set : (o : Option Tree)
    → length (option_map_or (λ t. map (λ child. (head child).name) (children t))
    (option_and_then (find_key (codes "Services" ∷ [])) o) [])
    ≡ length (services_of (unwrap_or (option_and_then (find_key []) o) no_set))
in_set None = refl
in_set (Some set) = as_many_names (find_key (codes "Services" ∷ []) set)

pub service_names : (t : Tree) (n : ℕ)
    → length (found_names (set_name n ∷ codes "Services" ∷ []) t) ≡ length (services_of (unwrap_or (set_of t n) no_set))
service_names t n = in_set (find (is_named (set_name n)) (children t))

-- ---- the current set

pub current_is : (tree set : Tree) (number : ℕ) → IsTaken tree number → set_of tree number ≡ Some set
    → current_set tree ≡ set
current_is tree set number taken there =
    ap (λ (n : ℕ). unwrap_or (set_of tree n) no_set) taken.current ∙ ap (λ (o : Option Tree). unwrap_or o no_set) there

pub read_of : {E : Type 0} (r : Result Lists E) (set : Tree) → HoldsKeys set
    → IfOk r (λ lists. lists ≡ lists_of set) → IfOk r (AreRead set)
read_of (Ok lists) set held is = record { read = is; held = held }
read_of (Err e) set held is = tt
