-- What tests say of lists, heads and keys that can be held.
use Rattle.std.proofs.Common.{◌≡◌, ℕ, suc, ◌/◌, ◌%◌, ◌≤◌, Bool, true, false, ◌&&◌, List, [], ◌∷◌, length, refl, arith}
use Rattle.std.specs.Prelude.{nat_lt, nat_le, not}
use Rattle.std.specs.List.{list_all, list_any}
use Rattle.std.proofs.lemmas.Bool.{and_parts, not-true, ltb-true, leb-true}
use Rattle.nt_bytes.specs.Folding.{folds_same}
use Rattle.hive_model.specs.Tree.{Item, Tree}
use Rattle.hive_model.specs.Valid.{IsItem}
use Rattle.nt_bytes.specs.Text.{is_backslash}
use Rattle.reg_tree.proofs.Unlike.{Each, Lacks, Unlike}
use Rattle.reg_tree.proofs.Sound.{key_name, item_name, IsNamed, IsHead, Sound, whole}
use Rattle.generated_hive.specs.Generated.{flagged_head, plain_key}

-- no name folds to this one
abbrev lacks : {X : Type 0} → (X → List ℕ) → List ℕ → List X → Bool
lacks name n xs = list_all (λ x. not (folds_same (name x) n)) xs

lacks_by : {X : Type 0} (name : X → List ℕ) (n : List ℕ) (xs : List X) → lacks name n xs ≡ true → Lacks name n xs
lacks_by name n [] e = tt
lacks_by name n (x ∷ xs) e =
    let two = and_parts (not (folds_same (name x) n)) (lacks name n xs) e in
    (not-true (folds_same (name x) n) two.0, lacks_by name n xs two.1)

-- no two names fold to one
abbrev pub unlike : {X : Type 0} → (X → List ℕ) → List X → Bool
unlike name [] = true
unlike name (x ∷ xs) = lacks name (name x) xs && unlike name xs

pub unlike_by : {X : Type 0} (name : X → List ℕ) (xs : List X) → unlike name xs ≡ true → Unlike name xs
unlike_by name [] e = tt
unlike_by name (x ∷ xs) e =
    let two = and_parts (lacks name (name x) xs) (unlike name xs) e in
    (lacks_by name (name x) xs two.0, unlike_by name xs two.1)

-- a value that a cell can hold
abbrev pub is_item : Item → Bool
is_item v = nat_le (length v.name) 16383 && nat_lt (length v.bytes) 2147483648

items_by : (vs : List Item) → list_all is_item vs ≡ true → Each IsItem vs
items_by [] e = tt
items_by (v ∷ vs) e =
    let two = and_parts (is_item v) (list_all is_item vs) e in
    let both = and_parts (nat_le (length v.name) 16383) (nat_lt (length v.bytes) 2147483648) two.0 in (
      record { name = leb-true (length v.name) 16383 both.0; bytes = ltb-true (length v.bytes) 2147483648 both.1 },
      items_by vs two.1,
    )

-- a key has a name
abbrev pub is_named : Tree → Bool
is_named t = nat_lt 0 (length (key_name t))

named_by : (ts : List Tree) → list_all is_named ts ≡ true → Each IsNamed ts
named_by [] e = tt
named_by (t ∷ ts) e =
    let two = and_parts (is_named t) (list_all is_named ts) e in
    (ltb-true 0 (length (key_name t)) two.0, named_by ts two.1)

-- a key without class and descriptor
pub head_by : (name : List ℕ) (flags : ℕ) (values : List Item) → nat_le (length name) 255 ≡ true
    → list_any is_backslash name ≡ false → flags / 32 % 2 ≡ 0
    → list_all is_item values ≡ true → unlike item_name values ≡ true → IsHead (flagged_head name flags values)
head_by name flags values short plain even items differ = record {
  name = leb-true (length name) 255 short;
  no_backslash = plain;
  flags = even;
  class = omega arith;
  security = omega arith;
  items = items_by values items;
  items_differ = unlike_by item_name values differ;
}

-- a key over others
pub sound_key : (d : ℕ) (name : List ℕ) (values : List Item) (ts : List Tree) → IsHead (flagged_head name 0 values)
    → d ≤ 512
    → unlike key_name ts ≡ true → list_all is_named ts ≡ true → Each (Sound (suc d)) ts
    → Sound d (plain_key name values ts)
unfolding plain_key
sound_key d name values ts head level differ named below =
    let distinct = unlike_by key_name ts differ in
    whole d (flagged_head name 0 values) ts
    (record { own = head; level = level; differ = distinct; named = named_by ts named; below = below })

-- a key alone
pub sound_leaf : (d : ℕ) (name : List ℕ) (values : List Item) → IsHead (flagged_head name 0 values) → d ≤ 512
    → Sound d (plain_key name values [])
sound_leaf d name values head level = sound_key d name values [] head level refl refl tt
