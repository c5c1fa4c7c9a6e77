-- The four keys of a set, read from the root by paths. (this project's own)
use Rattle.std.specs.Prelude.{ℕ, [], ◌∷◌, codes}
use Rattle.hive_model.specs.Tree.{Tree, find_key}
use Rattle.start_model.specs.Sets.{set_name}
use Rattle.device_rule.specs.declared.scope.SetKeys.{SetKeys}

abbrev pub keys_at : Tree → ℕ → SetKeys
keys_at tree number = record {
  services = find_key (set_name number ∷ codes "Services" ∷ []) tree;
  devices = find_key (set_name number ∷ codes "Enum" ∷ []) tree;
  classes = find_key (set_name number ∷ codes "Control" ∷ codes "Class" ∷ []) tree;
  database = find_key (set_name number ∷ codes "Control" ∷ codes "CriticalDeviceDatabase" ∷ []) tree;
}
