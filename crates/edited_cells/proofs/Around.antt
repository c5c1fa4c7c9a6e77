-- Where the cells of one key and those below it differ, the walk before and after it is the same; so cells are still
-- used once.
use Rattle.std.proofs.Common.{◌≡◌, ℕ, suc, ◌+◌, Bool, true, false, List, [], ◌∷◌, ◌++◌, length, refl, sym, ◌∙◌, ap, subst, inl, inr, Ok, arith, append_assoc}
use Rattle.std.specs.Prelude.{◌⊎◌, flat_map}
use Rattle.nt_bytes.specs.Folding.{folds_same}
use Rattle.hive_model.specs.Bins.{Cells}
use Rattle.hive_model.specs.Tree.{Tree, key}
use Rattle.hive_model.specs.Walk.{all_checks, key_checks, AreUsedOnce}
use Rattle.hive_model.specs.Footprint.{child_places}
use Rattle.hive_model.specs.Stands.{Stands, HasApartNames, IsWellFormed}
use Rattle.edited_cells.specs.Owned.{In, node_name, Reaches, Folds, Extends}
use Rattle.edited_cells.proofs.Ins.{in_left, in_right}
use Rattle.edited_cells.proofs.Pairs.{IsAmong, among}
use Rattle.edited_cells.proofs.OwnedUses.{use_owned}
use Rattle.edited_cells.proofs.Wellformed.{both_fold, Distinct, places_are, tree_of, keys_distinct, sound_tree}
use Rattle.edited_cells.proofs.Untouched.{root_node}
use Rattle.edited_cells.proofs.Held.{are_held}
use Rattle.edited_cells.specs.Uses.{Agree, Once, own_uses, tree_uses}
use Rattle.edited_cells.proofs.Uses.{once_from, once_to, walk_uses}
use Rattle.edited_cells.proofs.SameTree.{IsSameKey, own_same, places_kept, uses_over, uses_same}

-- ---- lists

pub flat_append : (f : ℕ → List (ℕ × Bool)) (xs ys : List ℕ) → flat_map f (xs ++ ys) ≡ flat_map f xs ++ flat_map f ys
flat_append f [] ys = refl
flat_append f (x ∷ xs) ys =
    ap (λ (l : List (ℕ × Bool)). f x ++ l) (flat_append f xs ys)
    ∙ sym (append_assoc (f x) (flat_map f xs) (flat_map f ys))

nothing_behind : (xs : List (ℕ × Bool)) → xs ++ [] ≡ xs
nothing_behind [] = refl
nothing_behind (x ∷ xs) = ap (λ (l : List (ℕ × Bool)). x ∷ l) (nothing_behind xs)

-- the middle of a middle
regroup : (o f b v e r : List (ℕ × Bool)) → o ++ (f ++ ((b ++ (v ++ e)) ++ r)) ≡ (o ++ (f ++ b)) ++ (v ++ (e ++ r))
regroup [] [] [] v e r = append_assoc v e r
regroup [] [] (x ∷ b) v e r = ap (λ (l : List (ℕ × Bool)). x ∷ l) (regroup [] [] b v e r)
regroup [] (x ∷ f) b v e r = ap (λ (l : List (ℕ × Bool)). x ∷ l) (regroup [] f b v e r)
regroup (x ∷ o) f b v e r = ap (λ (l : List (ℕ × Bool)). x ∷ l) (regroup o f b v e r)

-- two lists that differ in a part of them, and are the same before and after it
pub record IsSwapped (us vs old new : List (ℕ × Bool)) : Type 0 where
  pub before : List (ℕ × Bool)
  pub behind : List (ℕ × Bool)
  pub was : us ≡ before ++ (old ++ behind)
  pub is : vs ≡ before ++ (new ++ behind)

-- ---- along a path

-- how many levels are left at the top, where that many are where a path leads
abbrev pub above : List (List ℕ) → ℕ → ℕ
above [] left = left
above (m ∷ p) left = suc (above p left)

pub above_is : (p : List (List ℕ)) (left : ℕ) → above p left ≡ length p + left
above_is [] left = omega arith
above_is (m ∷ p) left = let e = above_is p left in omega arith

apart_before : (view : ℕ → List ℕ) (before behind : List ℕ) (y z : ℕ) → Distinct view (before ++ y ∷ behind)
    → In before z → folds_same (view y) (view z) ≡ false
apart_before view [] behind y z d h = absurd h
apart_before view (w ∷ before) behind y z d (inl e) =
    subst (λ (o : ℕ). folds_same (view y) (view o) ≡ false) e (d.0 y (in_right before (y ∷ behind) y (inl refl)))
apart_before view (w ∷ before) behind y z d (inr h) = apart_before view before behind y z d.1 h

apart_behind : (view : ℕ → List ℕ) (before behind : List ℕ) (y z : ℕ) → Distinct view (before ++ y ∷ behind)
    → In behind z → folds_same (view z) (view y) ≡ false
apart_behind view [] behind y z d h = d.0 z h
apart_behind view (w ∷ before) behind y z d h = apart_behind view before behind y z d.1 h

not_both : (name a b : List ℕ) → folds_same a b ≡ false → folds_same name a ≡ true → folds_same name b ≡ true → ⊥
not_both name a b apart e f = let g = both_fold name a b e f in cc

-- where all keys but those at or below a path are the same, the walk differs in the uses from the key there on
pub around : (b c : Cells) (path p : List (List ℕ)) (left at x : ℕ) (t : Tree) → Stands b at t → HasApartNames t
    → Folds path p → Reaches b at p x
    → ((q : List (List ℕ)) (z : ℕ) → Reaches b at q z → (Extends path q → ⊥) → IsSameKey b c z)
    → IsSwapped (tree_uses (above p left) b at) (tree_uses (above p left) c at) (tree_uses left b x)
    (tree_uses left c x)
around b c [] [] left at x t s n f r each = record {
  before = [];
  behind = [];
  was = ap (tree_uses left b) r ∙ sym (nothing_behind (tree_uses left b x));
  is = ap (tree_uses left c) r ∙ sym (nothing_behind (tree_uses left c x));
}
around b c [] (m ∷ p) left at x t s n f r each = absurd f
around b c (name ∷ path) [] left at x t s n f r each = absurd f
around b c (name ∷ path) (m ∷ p) left at x (key h ts) s n f r each =
    let child = tree_of b s.0 ts r.0 s.2 n.3 (subst (λ (l : List ℕ). In l r.0) places r.1) in
    go (around b c path p left r.0 x child.tree child.stands child.names f.1 r.3
    (λ q z w out. each (node_name b r.0 ∷ q) z (r.0, r.1, refl, w) (λ e. out e.1)))
  where
    places : child_places b at ≡ s.0
    places = places_are b at h s.0 s.1

    a : IsAmong (child_places b at) r.0
    a = among (child_places b at) r.0 r.1

    distinct : Distinct (node_name b) (a.before ++ r.0 ∷ a.behind)
    distinct = subst (Distinct (node_name b)) (sym places ∙ a.whole) (keys_distinct b s.0 ts s.2 n.3 n.2)

    named : folds_same name (node_name b r.0) ≡ true
    named = ap (folds_same name) r.2 ∙ f.0

    sibling : (z : ℕ) → In (child_places b at) z → (folds_same name (node_name b z) ≡ true → ⊥)
        → tree_uses (above p left) c z ≡ tree_uses (above p left) b z
    sibling z i apart =
        uses_same (above p left) b c z (λ q w g. each (node_name b z ∷ q) w (z, i, refl, g) (λ e. apart e.0))

    in_before : (z : ℕ) → In a.before z → tree_uses (above p left) c z ≡ tree_uses (above p left) b z
    in_before z i =
        sibling z (subst (λ (l : List ℕ). In l z) (sym a.whole) (in_left a.before (r.0 ∷ a.behind) z i))
        (not_both name (node_name b r.0) (node_name b z) (apart_before (node_name b) a.before a.behind r.0 z distinct i)
        named)

    in_behind : (z : ℕ) → In a.behind z → tree_uses (above p left) c z ≡ tree_uses (above p left) b z
    in_behind z i =
        sibling z (subst (λ (l : List ℕ). In l z) (sym a.whole) (in_right a.before (r.0 ∷ a.behind) z (inr i)))
        (λ e. not_both name (node_name b z) (node_name b r.0)
        (apart_behind (node_name b) a.before a.behind r.0 z distinct i) e named)

    same : IsSameKey b c at
    same = each [] at refl (λ e. e)

    -- the uses of this key by those of its children
    split : (f : ℕ → List (ℕ × Bool))
        → flat_map f (child_places b at) ≡ flat_map f a.before ++ (f r.0 ++ flat_map f a.behind)
    split f = ap (flat_map f) a.whole ∙ flat_append f a.before (r.0 ∷ a.behind)

    go : IsSwapped (tree_uses (above p left) b r.0) (tree_uses (above p left) c r.0) (tree_uses left b x)
        (tree_uses left c x)
        → IsSwapped (tree_uses (above (m ∷ p) left) b at) (tree_uses (above (m ∷ p) left) c at) (tree_uses left b x)
        (tree_uses left c x)
    go d = record {
      before = own_uses b at ++ (flat_map (tree_uses (above p left) b) a.before ++ d.before);
      behind = d.behind ++ flat_map (tree_uses (above p left) b) a.behind;
      was =
          ap (λ (l : List (ℕ × Bool)). own_uses b at ++ l) (split (tree_uses (above p left) b)
          ∙ ap (λ (l : List (ℕ × Bool)). flat_map (tree_uses (above p left) b) a.before
          ++ (l ++ flat_map (tree_uses (above p left) b) a.behind)) d.was)
          ∙ regroup (own_uses b at) (flat_map (tree_uses (above p left) b) a.before) d.before (tree_uses left b x)
          d.behind (flat_map (tree_uses (above p left) b) a.behind);
      is =
          ap (λ (l : List (ℕ × Bool)). l ++ flat_map (tree_uses (above p left) c) (child_places c at))
          (own_same b c at same.same)
          ∙ ap (λ (l : List ℕ). own_uses b at ++ flat_map (tree_uses (above p left) c) l) (places_kept b c at same.same)
          ∙ ap (λ (l : List (ℕ × Bool)). own_uses b at ++ l) (split (tree_uses (above p left) c)
          ∙ ap (λ (l : List (ℕ × Bool)). l
          ++ (tree_uses (above p left) c r.0 ++ flat_map (tree_uses (above p left) c) a.behind))
          (uses_over (above p left) b c a.before in_before)
          ∙ ap (λ (l : List (ℕ × Bool)). flat_map (tree_uses (above p left) b) a.before
          ++ (tree_uses (above p left) c r.0 ++ l)) (uses_over (above p left) b c a.behind in_behind)
          ∙ ap (λ (l : List (ℕ × Bool)). flat_map (tree_uses (above p left) b) a.before
          ++ (l ++ flat_map (tree_uses (above p left) b) a.behind)) d.is)
          ∙ regroup (own_uses b at) (flat_map (tree_uses (above p left) b) a.before) d.before (tree_uses left c x)
          d.behind (flat_map (tree_uses (above p left) b) a.behind);
    }

-- ---- used once

pub agree_back : (u v : ℕ × Bool) → Agree u v → Agree v u
agree_back u v agree e = let both = agree (sym e) in (both.1, both.0)

agree_same : (u v w : ℕ × Bool) → u ≡ v → Agree u w → Agree v w
agree_same u v w e agree = subst (λ (z : ℕ × Bool). Agree z w) e agree

-- two uses of a cell are one, or both of security
pub once_two : (us : List (ℕ × Bool)) (u v : ℕ × Bool) → Once us → In us u → In us v → u.0 ≡ v.0
    → (u ≡ v) ⊎ ((u.1 ≡ true) × (v.1 ≡ true))
once_two [] u v h i j e = absurd i
once_two (w ∷ us) u v h (inl i) (inl j) e = inl (sym i ∙ j)
once_two (w ∷ us) u v h (inl i) (inr j) e = inr (agree_same w u v i (h.0 v j) e)
once_two (w ∷ us) u v h (inr i) (inl j) e = inr (let both = agree_same w v u j (h.0 u i) (sym e) in (both.1, both.0))
once_two (w ∷ us) u v h (inr i) (inr j) e = once_two us u v h.1 i j e

-- ---- the whole walk

-- the uses of the tree at a root
abbrev pub hive_uses : Cells → ℕ → List (ℕ × Bool)
hive_uses cells root = tree_uses 512 cells root

pub hive_once : (cells : Cells) (root : ℕ) (t : Tree) → Stands cells root t → HasApartNames t
    → AreUsedOnce (all_checks cells root) → Once (hive_uses cells root)
unfolding all_checks
hive_once cells root t s n once =
    let r = root_node cells root t s in
    subst Once (walk_uses 512 cells true [] root r.0 (sound_tree cells root t s n) r.1)
    (once_from (key_checks 512 cells true [] root) once)

pub once_hive : (cells : Cells) (root : ℕ) (t : Tree) → Stands cells root t → HasApartNames t
    → Once (hive_uses cells root) → AreUsedOnce (all_checks cells root)
unfolding all_checks
once_hive cells root t s n once =
    let r = root_node cells root t s in
    once_to (key_checks 512 cells true [] root)
    (subst Once (sym (walk_uses 512 cells true [] root r.0 (sound_tree cells root t s n) r.1)) once)

-- what is used is held
pub used_held : (cells : Cells) (root : ℕ) (t : Tree) → IsWellFormed cells root t → (v : ℕ × Bool)
    → In (hive_uses cells root) v → (q : List ℕ) × (cells.payload v.0 ≡ Ok q)
used_held cells root t w v i =
    let u = use_owned 512 cells root v i in (are_held cells root t w).held u.path u.role v.0 u.owns
