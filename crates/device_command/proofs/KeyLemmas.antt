-- The four keys of a set, found from the root.
use Rattle.std.proofs.Common.{◌≡◌, ℕ, ◌<◌, ◌≤◌, Bool, true, false, cond, [], ◌∷◌, Option, Some, None, refl, sym, ap, ◌∙◌}
use Rattle.std.specs.Prelude.{◌&&◌, nat_le, find, codes, option_map, option_and_then}
use Rattle.std.specs.Option.{is_some}
use Rattle.std.proofs.lemmas.Bool.{false≢true, le-leb, lt-leb}
use Rattle.hive_model.specs.Tree.{Tree, children, is_named, find_key}
use Rattle.start_model.specs.Sets.{set_name}
use Rattle.device_rule.specs.declared.scope.SetKeys.{SetKeys}
use Rattle.device_rule.specs.Report.{set_keys, keys_of}
use Rattle.device_command.specs.Keys.{keys_at}

-- the keys of a set that was found
abbrev keys_in : Option Tree → SetKeys
keys_in o = record {
  services = option_and_then (find_key (codes "Services" ∷ [])) o;
  devices = option_and_then (find_key (codes "Enum" ∷ [])) o;
  classes = option_and_then (find_key (codes "Control" ∷ codes "Class" ∷ [])) o;
  database = option_and_then (find_key (codes "Control" ∷ codes "CriticalDeviceDatabase" ∷ [])) o;
}

no_keys : (b : Bool) → None ≡ option_map set_keys (cond b None None)
no_keys true = refl
no_keys false = refl

-- a number that no set has
pub keys_below : (tree : Tree) (n : ℕ) → n < 1 → None ≡ keys_of tree n
keys_below tree n low =
    sym (ap (λ b. option_map set_keys (cond (b && nat_le n 999 && is_some (find_key (set_name n ∷ []) tree)) (find_key (set_name n ∷ []) tree) None))
    (lt-leb 1 n low))

pub keys_above : (tree : Tree) (n : ℕ) → 999 < n → None ≡ keys_of tree n
keys_above tree n high =
    by (nat_le 1 n)
    ∙ sym (ap (λ b. option_map set_keys (cond (nat_le 1 n && b && is_some (find_key (set_name n ∷ []) tree)) (find_key (set_name n ∷ []) tree) None))
    (lt-leb n 999 high))
  where
    by : (a : Bool) → None ≡ option_map set_keys (cond (a && false && is_some (find_key (set_name n ∷ []) tree)) (find_key (set_name n ∷ []) tree) None)
    by true = refl
    by false = refl

-- no set of the number
pub keys_missing : (tree : Tree) (n : ℕ) → is_some (find_key (set_name n ∷ []) tree) ≡ false → None ≡ keys_of tree n
keys_missing tree n missing = by (nat_le 1 n && nat_le n 999) (find (is_named (set_name n)) (children tree)) missing
  where
    by : (a : Bool) (o : Option Tree) → is_some (option_and_then (find_key []) o) ≡ false
        → None ≡ option_map set_keys (cond (a && is_some (option_and_then (find_key []) o)) (option_and_then (find_key []) o) None)
    by a (Some t) e = absurd (false≢true (sym e))
    by a None e = no_keys (a && false)

-- the set of the number
pub keys_found : (tree : Tree) (n : ℕ) → 1 ≤ n → n ≤ 999 → is_some (find_key (set_name n ∷ []) tree) ≡ true
    → Some (keys_at tree n) ≡ keys_of tree n
keys_found tree n low high there =
    by (nat_le 1 n) (nat_le n 999) (find (is_named (set_name n)) (children tree)) (le-leb 1 n low) (le-leb n 999 high) there
  where
    by : (a b : Bool) (o : Option Tree) → a ≡ true → b ≡ true → is_some (option_and_then (find_key []) o) ≡ true
        → Some (keys_in o) ≡ option_map set_keys (cond (a && b && is_some (option_and_then (find_key []) o)) (option_and_then (find_key []) o) None)
    by a b None e f there = absurd (false≢true there)
    by a b (Some t) e f there = sym (λ i. option_map set_keys (cond (e i && f i && true) (Some t) None))
