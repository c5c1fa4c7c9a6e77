-- Which set a number names.
use Rattle.std.proofs.Common.{◌≡◌, ℕ, ◌≤◌, cond, [], Option, Some, None, refl, sym, ◌∙◌}
use Rattle.std.specs.Prelude.{find, option_and_then}
use Rattle.std.specs.Option.{is_some}
use Rattle.std.proofs.lemmas.Bool.{le-leb}
use Rattle.hive_model.specs.Tree.{Tree, find_key, children, is_named}
use Rattle.start_model.specs.Sets.{set_of, set_name}
use Rattle.select_keys.specs.Sets.{usable_set}

-- a path of one name leads to the child
one_name : (o : Option Tree) → option_and_then (find_key []) o ≡ o
one_name None = refl
one_name (Some t) = refl

found : (o : Option Tree) → cond (is_some o) o None ≡ o
found None = refl
found (Some t) = refl

usable_set-within : (t : Tree) (n : ℕ) → 1 ≤ n → n ≤ 999 → usable_set t n ≡ set_of t n
usable_set-within t n low high = rw (le-leb 1 n low, le-leb n 999 high) (found (set_of t n))

-- the child with the name of the number is the set
pub named_set : (t : Tree) (n : ℕ) → 1 ≤ n → n ≤ 999 → find (is_named (set_name n)) (children t) ≡ usable_set t n
named_set t n low high = sym (usable_set-within t n low high ∙ one_name (find (is_named (set_name n)) (children t)))
