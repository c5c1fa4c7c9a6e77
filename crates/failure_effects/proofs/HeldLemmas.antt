-- A set with an entry off can be held where the set can.
use Rattle.std.proofs.Common.{◌≡◌, ℕ, suc, ◌<◌, ◌^◌, Bool, true, false, cond, List, [], ◌∷◌, length, refl, sym, ap, ◌∙◌, subst, arith}
use Rattle.std.specs.Prelude.{Result, Ok, Err, IfOk, codes}
use Rattle.hive_model.specs.Tree.{Item, Head, Tree, Trees, key, none, more, trees, listed, children, is_named, is_item}
use Rattle.hive_model.specs.Valid.{IsItem, IsKey, HoldsKeys, AllHoldKeys}
use Rattle.hive_model.specs.Edit.{at_first, of_children}
use Rattle.reg_tree.proofs.Trees.{listed_trees}
use Rattle.reg_tree.proofs.Sound.{key_name, IsNamed}
use Rattle.reg_tree.proofs.Unlike.{Each, Unlike, each_from, each_all, unlike_from, unlike_pairs, each_first, unlike_first}
use Rattle.failure_effects.specs.Switching.{as_four, off_key, off_set}

length-first : {X : Type 0} (p : X → Bool) (change : X → X) (ts : List X) → length (at_first p change ts) ≡ length ts
length-first p change [] = refl
length-first p change (t ∷ ts) = by_case (p t) (length-first p change ts)
  where
    by_case : (b : Bool) → length (at_first p change ts) ≡ length ts
        → length (cond b (change t ∷ ts) (t ∷ at_first p change ts)) ≡ length (t ∷ ts)
    by_case true rest = refl
    by_case false rest = ap suc rest

-- ---- a key with a value changed

abbrev item_name : Item → List ℕ
item_name v = v.name

four_fits : (v : Item) → IsItem v → IsItem (as_four v)
four_fits v k = record { name = k.name; bytes = omega arith }

off_held : (t : Tree) → HoldsKeys t → HoldsKeys (off_key t)
off_held (key h ts) k =
    let p : Item → Bool = is_item (codes "Start") in
    let own : IsKey (record h { values = at_first p as_four h.values }) (listed ts) = record {
      name = k.0.name;
      no_backslash = k.0.no_backslash;
      flags = k.0.flags;
      class = k.0.class;
      security = k.0.security;
      item_count = omega (arith, k.0.item_count, length-first p as_four h.values);
      items = each_all IsItem (at_first p as_four h.values) (each_first IsItem p as_four four_fits h.values (each_from IsItem h.values k.0.items));
      items_differ = unlike_pairs item_name (at_first p as_four h.values)
          (unlike_first item_name p as_four (λ v. refl) h.values (unlike_from item_name h.values k.0.items_differ));
      key_count = k.0.key_count;
      keys_named = k.0.keys_named;
      keys_differ = k.0.keys_differ;
    } in
    (own, k.1)

off_name : (t : Tree) → key_name (off_key t) ≡ key_name t
off_name (key h ts) = refl

off_named : (t : Tree) → IsNamed t → IsNamed (off_key t)
off_named (key h ts) n = n

-- ---- keys and their children

each_held : (ts : Trees) → AllHoldKeys ts → Each HoldsKeys (listed ts)
each_held none h = tt
each_held (more t ts) h = (h.0, each_held ts h.1)

all_held : (us : List Tree) → Each HoldsKeys us → AllHoldKeys (trees us)
all_held [] h = tt
all_held (u ∷ us) h = (h.0, all_held us h.1)

-- other children that a key can have
record Fits (us : List Tree) : Type 0 where
  few : length us < 2 ^ 32
  named : Each IsNamed us
  differ : Unlike key_name us
  held : Each HoldsKeys us

fits : (h : Head) (ts : Trees) → HoldsKeys (key h ts) → Fits (listed ts)
fits h ts k = record {
  few = k.0.key_count;
  named = each_from IsNamed (listed ts) k.0.keys_named;
  differ = unlike_from key_name (listed ts) k.0.keys_differ;
  held = each_held ts k.1;
}

held_with : (h : Head) (old us : List Tree) → IsKey h old → Fits us → HoldsKeys (key h (trees us))
held_with h old us k f =
    let own : IsKey h us = record {
      name = k.name;
      no_backslash = k.no_backslash;
      flags = k.flags;
      class = k.class;
      security = k.security;
      item_count = k.item_count;
      items = k.items;
      items_differ = k.items_differ;
      key_count = f.few;
      keys_named = each_all IsNamed us f.named;
      keys_differ = unlike_pairs key_name us f.differ;
    } in
    (subst (λ (vs : List Tree). IsKey h vs) (sym (listed_trees us)) own, all_held us f.held)

-- a change that keeps a key's name, and keys that can be held
record Keeps (f : Tree → Tree) : Type 0 where
  name : (t : Tree) → key_name (f t) ≡ key_name t
  named : (t : Tree) → IsNamed t → IsNamed (f t)
  held : (t : Tree) → HoldsKeys t → HoldsKeys (f t)

first_fits : (p : Tree → Bool) (f : Tree → Tree) → Keeps f → (us : List Tree) → Fits us → Fits (at_first p f us)
first_fits p f k us h = record {
  few = omega (arith, h.few, length-first p f us);
  named = each_first IsNamed p f k.named us h.named;
  differ = unlike_first key_name p f k.name us h.differ;
  held = each_first HoldsKeys p f k.held us h.held;
}

first_held : (p : Tree → Bool) (f : Tree → Tree) → Keeps f → (t : Tree) → HoldsKeys t
    → HoldsKeys (of_children (at_first p f) t)
first_held p f k (key h ts) held =
    held_with h (listed ts) (at_first p f (listed ts)) held.0 (first_fits p f k (listed ts) (fits h ts held))

same_name : (change : List Tree → List Tree) (t : Tree) → key_name (of_children change t) ≡ key_name t
same_name change (key h ts) = refl

named_still : (change : List Tree → List Tree) (t : Tree) → IsNamed t → IsNamed (of_children change t)
named_still change (key h ts) n = n

keeps_off : Keeps off_key
keeps_off = record { name = off_name; named = off_named; held = off_held }

keeps_first : (p : Tree → Bool) (f : Tree → Tree) → Keeps f → Keeps (of_children (at_first p f))
keeps_first p f k = record {
  name = same_name (at_first p f);
  named = named_still (at_first p f);
  held = first_held p f k;
}

-- the set with an entry off can be held
pub off_set_held : (name : List ℕ) (set : Tree) → HoldsKeys set → HoldsKeys (off_set name set)
off_set_held name set h =
    first_held (is_named (codes "Services")) (of_children (at_first (is_named name) off_key))
    (keeps_first (is_named name) off_key keeps_off) set h

rebuilt : (name : List ℕ) (set : Tree)
    → of_children (λ _. at_first (is_named (codes "Services")) (of_children (at_first (is_named name) off_key)) (children set)) set
    ≡ off_set name set
rebuilt name (key h ts) = refl

-- the same of what was made of its children
pub held_by : {E : Type 0} (r : Result Tree E) (name : List ℕ) (set : Tree) (made keys : List Tree)
    → made ≡ at_first (is_named (codes "Services")) (of_children (at_first (is_named name) off_key)) keys → keys ≡ children set
    → IfOk r (λ k. k ≡ of_children (λ _. made) set) → HoldsKeys set → IfOk r HoldsKeys
held_by (Ok k) name set made keys is from here h =
    let same : k ≡ off_set name set =
    here ∙ ap (λ (us : List Tree). of_children (λ _. us) set)
    (is ∙ ap (at_first (is_named (codes "Services")) (of_children (at_first (is_named name) off_key))) from) ∙ rebuilt name set in
    subst HoldsKeys (sym same) (off_set_held name set h)
held_by (Err e) name set made keys is from here h = tt
