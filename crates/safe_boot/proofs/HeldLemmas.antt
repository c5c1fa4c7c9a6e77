-- What a safe mode leaves of a set can be held where the set can.
use Rattle.std.proofs.Common.{◌≡◌, ℕ, suc, ◌<◌, ◌^◌, Bool, true, false, cond, List, [], ◌∷◌, length, refl, sym, ap, subst, arith}
use Rattle.std.specs.Prelude.{filter, codes}
use Rattle.std.proofs.lemmas.List.Sums.{length-filter, count_by-le-length}
use Rattle.nt_bytes.specs.Folding.{folds_same}
use Rattle.hive_model.specs.Tree.{Head, Tree, Trees, key, none, more, trees, listed, is_named}
use Rattle.hive_model.specs.Valid.{IsKey, HoldsKeys, AllHoldKeys}
use Rattle.hive_model.specs.Edit.{at_first, of_children}
use Rattle.reg_tree.proofs.Trees.{listed_trees}
use Rattle.reg_tree.proofs.Sound.{key_name, IsNamed}
use Rattle.reg_tree.proofs.Unlike.{Each, Unlike, each_from, each_all, unlike_from, unlike_pairs, each_first, unlike_first}
use Rattle.safe_boot.specs.declared.mode.SafeMode.{SafeMode}
use Rattle.safe_boot.specs.Listed.{listed_names, stays, reduced_of}

-- ---- what passes a filter

pub each_kept : {X : Type 0} (P : X → Type 0) (p : X → Bool) (xs : List X) → Each P xs → Each P (filter p xs)
each_kept P p [] h = tt
each_kept P p (x ∷ xs) h =
    elim (p x) as (λ b. Each P (cond b (x ∷ filter p xs) (filter p xs)))
    [ true ↦ (h.0, each_kept P p xs h.1) | false ↦ each_kept P p xs h.1 ]

unlike_kept : {X : Type 0} (name : X → List ℕ) (p : X → Bool) (xs : List X) → Unlike name xs → Unlike name (filter p xs)
unlike_kept name p [] h = tt
unlike_kept name p (x ∷ xs) h =
    elim (p x) as (λ b. Unlike name (cond b (x ∷ filter p xs) (filter p xs))) [
      | true ↦ (each_kept (λ y. folds_same (name y) (name x) ≡ false) p xs h.0, unlike_kept name p xs h.1)
      | false ↦ unlike_kept name p xs h.1
    ]

length-first : (p : Tree → Bool) (change : Tree → Tree) (ts : List Tree) → length (at_first p change ts) ≡ length ts
length-first p change [] = refl
length-first p change (t ∷ ts) = by_case (p t) (length-first p change ts)
  where
    by_case : (b : Bool) → length (at_first p change ts) ≡ length ts
        → length (cond b (change t ∷ ts) (t ∷ at_first p change ts)) ≡ length (t ∷ ts)
    by_case true rest = refl
    by_case false rest = ap suc rest

-- ---- keys and their children

each_held : (ts : Trees) → AllHoldKeys ts → Each HoldsKeys (listed ts)
each_held none h = tt
each_held (more t ts) h = (h.0, each_held ts h.1)

all_held : (us : List Tree) → Each HoldsKeys us → AllHoldKeys (trees us)
all_held [] h = tt
all_held (u ∷ us) h = (h.0, all_held us h.1)

-- other children that a key can have
record Fits (us : List Tree) : Type 0 where
  few : length us < 2 ^ 32
  named : Each IsNamed us
  differ : Unlike key_name us
  held : Each HoldsKeys us

fits : (h : Head) (ts : Trees) → HoldsKeys (key h ts) → Fits (listed ts)
fits h ts k = record {
  few = k.0.key_count;
  named = each_from IsNamed (listed ts) k.0.keys_named;
  differ = unlike_from key_name (listed ts) k.0.keys_differ;
  held = each_held ts k.1;
}

held_with : (h : Head) (old us : List Tree) → IsKey h old → Fits us → HoldsKeys (key h (trees us))
held_with h old us k f =
    let own : IsKey h us = record {
      name = k.name;
      no_backslash = k.no_backslash;
      flags = k.flags;
      class = k.class;
      security = k.security;
      item_count = k.item_count;
      items = k.items;
      items_differ = k.items_differ;
      key_count = f.few;
      keys_named = each_all IsNamed us f.named;
      keys_differ = unlike_pairs key_name us f.differ;
    } in
    (subst (λ (vs : List Tree). IsKey h vs) (sym (listed_trees us)) own, all_held us f.held)

kept : (keep : Tree → Bool) (us : List Tree) → Fits us → Fits (filter keep us)
kept keep us f = record {
  few = omega (arith, f.few, length-filter keep us, count_by-le-length keep us);
  named = each_kept IsNamed keep us f.named;
  differ = unlike_kept key_name keep us f.differ;
  held = each_kept HoldsKeys keep us f.held;
}

reduced_key : (keep : Tree → Bool) (t : Tree) → HoldsKeys t → HoldsKeys (of_children (filter keep) t)
reduced_key keep (key h ts) k =
    held_with h (listed ts) (filter keep (listed ts)) k.0 (kept keep (listed ts) (fits h ts k))

pub same_name : (change : List Tree → List Tree) (t : Tree) → key_name (of_children change t) ≡ key_name t
same_name change (key h ts) = refl

named_still : (change : List Tree → List Tree) (t : Tree) → IsNamed t → IsNamed (of_children change t)
named_still change (key h ts) n = n

first_reduced : (p keep : Tree → Bool) (us : List Tree) → Fits us → Fits (at_first p (of_children (filter keep)) us)
first_reduced p keep us f = record {
  few = omega (arith, f.few, length-first p (of_children (filter keep)) us);
  named = each_first IsNamed p (of_children (filter keep)) (named_still (filter keep)) us f.named;
  differ = unlike_first key_name p (of_children (filter keep)) (same_name (filter keep)) us f.differ;
  held = each_first HoldsKeys p (of_children (filter keep)) (reduced_key keep) us f.held;
}

with_first : (p keep : Tree → Bool) (t : Tree) → HoldsKeys t
    → HoldsKeys (of_children (at_first p (of_children (filter keep))) t)
with_first p keep (key h ts) k =
    held_with h (listed ts) (at_first p (of_children (filter keep)) (listed ts)) k.0
    (first_reduced p keep (listed ts) (fits h ts k))

-- what remains can be held
pub reduced_holds : (set : Tree) (mode : SafeMode) (images : Bool) → HoldsKeys set
    → HoldsKeys (reduced_of set mode images)
reduced_holds set mode images h =
    with_first (is_named (codes "Services")) (stays images (listed_names set mode)) set h
