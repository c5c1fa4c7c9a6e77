-- A key is found by its place among the names.
use Rattle.std.proofs.Common.{◌≡◌, ℕ, List, sym, ap, ◌∙◌}
use Rattle.std.specs.Prelude.{find, position, slice_get, option_and_then}
use Rattle.nt_bytes.specs.Folding.{folds_same}
use Rattle.hive_model.specs.Tree.{Tree, head, is_named}
use Rattle.boot_phases.proofs.FirstLemmas.{find_at_place, position-map}
use Rattle.device_rule.specs.Values.{key_names}

pub found_key : (name : List ℕ) (keys : List Tree)
    → option_and_then (slice_get keys) (position (folds_same name) (key_names keys)) ≡ find (is_named name) keys
found_key name keys =
    ap (option_and_then (slice_get keys)) (position-map (folds_same name) (λ (t : Tree). (head t).name) keys)
    ∙ sym (find_at_place (is_named name) keys)
