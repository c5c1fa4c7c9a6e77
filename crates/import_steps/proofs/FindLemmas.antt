-- What is found under a name after one change of a list of named items.
use Rattle.std.proofs.Common.{◌≡◌, ℕ, Bool, true, false, cond, List, [], ◌∷◌, ◌++◌, Option, Some, None, refl, sym, ap, ◌∙◌}
use Rattle.std.specs.Prelude.{find, option_map, bytes_eq}
use Rattle.std.specs.Option.{is_some}
use Rattle.std.specs.Ordering.{is_gt}
use Rattle.std.specs.Cmp.Lexicographic.{bytes_decides}
use Rattle.nt_bytes.specs.Folding.{folded, folds_same, folded_order}
use Rattle.hive_model.specs.Tree.{Tree, head}
use Rattle.hive_model.specs.Edit.{at_first, without_first, placed}
use Rattle.reg_tree.proofs.Sound.{key_name}
use Rattle.reg_tree.proofs.Unlike.{Each, Lacks, Unlike, folds_swap}
use Rattle.import_steps.proofs.MapLemmas.{same_bytes, one_folded}

-- names that fold to one fold alike with any other
pub alike : (a b : List ℕ) → folds_same a b ≡ true → (n : List ℕ) → folds_same b n ≡ folds_same a n
alike a b same n =
    same_bytes b n ∙ ap (λ (k : List ℕ). bytes_eq (folded n) k) (one_folded a b same) ∙ sym (same_bytes a n)

pub folds_itself : (a : List ℕ) → folds_same a a ≡ true
folds_itself a = same_bytes a a ∙ (bytes_decides (folded a) (folded a)).1 refl

-- one that folds like this name folds unlike those that this name does
pub unlike : (a b : List ℕ) → folds_same a b ≡ false → (n : List ℕ) → folds_same a n ≡ true → folds_same b n ≡ false
unlike a b differ n same = folds_swap b n ∙ alike a n same b ∙ differ

module _ {X : Type 0} (name : X → List ℕ) where
  -- the items of a name
  named : List ℕ → X → Bool
  named n x = folds_same n (name x)

  pub found_alike : (a b : List ℕ) → folds_same a b ≡ true → (xs : List X)
      → find (λ x. folds_same b (name x)) xs ≡ find (λ x. folds_same a (name x)) xs
  found_alike a b same [] = refl
  found_alike a b same (x ∷ xs) = rw (alike a b same (name x), found_alike a b same xs) refl

  -- ---- with the first of a name changed

  pub found_changed : (a : List ℕ) (f : X → X) → ((x : X) → name (f x) ≡ name x) → (xs : List X)
      → find (λ x. folds_same a (name x)) (at_first (λ x. folds_same a (name x)) f xs)
      ≡ option_map f (find (λ x. folds_same a (name x)) xs)
  found_changed a f keeps [] = refl
  found_changed a f keeps (x ∷ xs) = go (folds_same a (name x)) refl (found_changed a f keeps xs)
    where
      P : List X → Option X
      P ys = find (λ y. folds_same a (name y)) ys

      More : List X
      More = at_first (λ y. folds_same a (name y)) f xs

      go : (b : Bool) → folds_same a (name x) ≡ b → P More ≡ option_map f (P xs)
          → P (cond (folds_same a (name x)) (f x ∷ xs) (x ∷ More))
          ≡ option_map f (cond (folds_same a (name x)) (Some x) (P xs))
      go true is rest = rw is (rw (keeps x, is) refl)
      go false is rest = rw is (rw is rest)

  pub found_other : (a b : List ℕ) (f : X → X) → folds_same a b ≡ false → ((x : X) → name (f x) ≡ name x)
      → (xs : List X)
      → find (λ x. folds_same b (name x)) (at_first (λ x. folds_same a (name x)) f xs)
      ≡ find (λ x. folds_same b (name x)) xs
  found_other a b f differ keeps [] = refl
  found_other a b f differ keeps (x ∷ xs) = go (folds_same a (name x)) refl (found_other a b f differ keeps xs)
    where
      P : List X → Option X
      P ys = find (λ y. folds_same b (name y)) ys

      More : List X
      More = at_first (λ y. folds_same a (name y)) f xs

      go : (v : Bool) → folds_same a (name x) ≡ v → P More ≡ P xs
          → P (cond (folds_same a (name x)) (f x ∷ xs) (x ∷ More)) ≡ P (x ∷ xs)
      go true is rest = rw is (rw (keeps x, unlike a b differ (name x) is) refl)
      go false is rest = rw is (ap (λ (o : Option X). cond (folds_same b (name x)) (Some x) o) rest)

  -- ---- without the first of a name

  none_lacks : (a n : List ℕ) → folds_same a n ≡ true → (xs : List X) → Lacks name n xs
      → find (λ x. folds_same a (name x)) xs ≡ None
  none_lacks a n same [] lacks = refl
  none_lacks a n same (x ∷ xs) lacks =
      let off : folds_same a (name x) ≡ false =
      folds_swap a (name x) ∙ folds_swap (name x) a ∙ sym (alike a n same (name x)) ∙ folds_swap n (name x) ∙ lacks.0 in
      rw off (none_lacks a n same xs lacks.1)

  pub found_gone : (a : List ℕ) (xs : List X) → Unlike name xs
      → find (λ x. folds_same a (name x)) (without_first (λ x. folds_same a (name x)) xs) ≡ None
  found_gone a [] apart = refl
  found_gone a (x ∷ xs) apart = go (folds_same a (name x)) refl (found_gone a xs apart.1)
    where
      P : List X → Option X
      P ys = find (λ y. folds_same a (name y)) ys

      go : (b : Bool) → folds_same a (name x) ≡ b → P (without_first (λ y. folds_same a (name y)) xs) ≡ None
          → P (cond (folds_same a (name x)) xs (x ∷ without_first (λ y. folds_same a (name y)) xs)) ≡ None
      go true is rest = rw is (none_lacks a (name x) is xs apart.0)
      go false is rest = rw is (rw is rest)

  pub found_kept : (a b : List ℕ) → folds_same a b ≡ false → (xs : List X)
      → find (λ x. folds_same b (name x)) (without_first (λ x. folds_same a (name x)) xs)
      ≡ find (λ x. folds_same b (name x)) xs
  found_kept a b differ [] = refl
  found_kept a b differ (x ∷ xs) = go (folds_same a (name x)) refl (found_kept a b differ xs)
    where
      P : List X → Option X
      P ys = find (λ y. folds_same b (name y)) ys

      go : (v : Bool) → folds_same a (name x) ≡ v → P (without_first (λ y. folds_same a (name y)) xs) ≡ P xs
          → P (cond (folds_same a (name x)) xs (x ∷ without_first (λ y. folds_same a (name y)) xs)) ≡ P (x ∷ xs)
      go true is rest = rw is (rw (unlike a b differ (name x) is) refl)
      go false is rest = rw is (ap (λ (o : Option X). cond (folds_same b (name x)) (Some x) o) rest)

  -- ---- with one more at the end

  pub found_last : (a : List ℕ) (xs : List X) (y : X)
      → is_some (find (λ x. folds_same a (name x)) (xs ++ y ∷ []))
      ≡ cond (is_some (find (λ x. folds_same a (name x)) xs)) true (folds_same a (name y))
  found_last a [] y = elim (folds_same a (name y)) as (λ b. is_some (cond b (Some y) None)
      ≡ b) [ true ↦ refl | false ↦ refl ]
  found_last a (x ∷ xs) y =
      elim (folds_same a (name x))
      as (λ b. is_some (cond b (Some x) (find (λ z. folds_same a (name z)) (xs ++ y ∷ [])))
      ≡ cond (is_some (cond b (Some x) (find (λ z. folds_same a (name z)) xs))) true (folds_same a (name y)))
      [ true ↦ refl | false ↦ found_last a xs y ]

-- ---- a new child among its siblings

pub found_new : (a : List ℕ) (k : Tree) (ts : List Tree) → folds_same a (key_name k) ≡ true
    → find (λ x. folds_same a (key_name x)) ts ≡ None
    → find (λ x. folds_same a (key_name x)) (placed k ts) ≡ Some k
found_new a k [] same none = rw same refl
found_new a k (t ∷ ts) same none =
    elim (is_gt (folded_order (head t).name (head k).name))
    as (λ b. find (λ x. folds_same a (key_name x)) (cond b (k ∷ t ∷ ts) (t ∷ placed k ts)) ≡ Some k) [
      | true ↦ rw same refl
      | false ↦ go (folds_same a (key_name t)) refl none (λ n. found_new a k ts same n)
    ]
  where
    go : (b : Bool) → folds_same a (key_name t) ≡ b
        → cond (folds_same a (key_name t)) (Some t) (find (λ x. folds_same a (key_name x)) ts) ≡ None
        → (find (λ x. folds_same a (key_name x)) ts ≡ None
        → find (λ x. folds_same a (key_name x)) (placed k ts) ≡ Some k)
        → cond (folds_same a (key_name t)) (Some t) (find (λ x. folds_same a (key_name x)) (placed k ts)) ≡ Some k
    go true is n rest = (let no : cond true (Some t) (find (λ x. folds_same a (key_name x)) ts)
        ≡ None = rw is at n in absurd cc)
    go false is n rest = rw is (rest (rw is at n))

pub found_old : (a : List ℕ) (k : Tree) (ts : List Tree) → folds_same a (key_name k) ≡ false
    → find (λ x. folds_same a (key_name x)) (placed k ts) ≡ find (λ x. folds_same a (key_name x)) ts
found_old a k [] differ = rw differ refl
found_old a k (t ∷ ts) differ =
    elim (is_gt (folded_order (head t).name (head k).name))
    as (λ b. find (λ x. folds_same a (key_name x)) (cond b (k ∷ t ∷ ts) (t ∷ placed k ts))
    ≡ cond (folds_same a (key_name t)) (Some t) (find (λ x. folds_same a (key_name x)) ts)) [
      | true ↦ rw differ refl
      | false ↦ ap (λ (o : Option Tree). cond (folds_same a (key_name t)) (Some t) o) (found_old a k ts differ)
    ]

each_placed : (P : Tree → Type 0) (k : Tree) (ts : List Tree) → P k → Each P ts → Each P (placed k ts)
each_placed P k [] own each = (own, tt)
each_placed P k (t ∷ ts) own each =
    elim (is_gt (folded_order (head t).name (head k).name)) as (λ b. Each P (cond b (k ∷ t ∷ ts) (t ∷ placed k ts))) [
      | true ↦ (own, each)
      | false ↦ (each.0, each_placed P k ts own each.1)
    ]

-- the names stay apart
pub unlike_placed : (k : Tree) (ts : List Tree) → Unlike key_name ts
    → Each (λ t. folds_same (key_name k) (key_name t) ≡ false) ts → Unlike key_name (placed k ts)
unlike_placed k [] apart new = (tt, tt)
unlike_placed k (t ∷ ts) apart new =
    elim (is_gt (folded_order (head t).name (head k).name)) as (λ b. Unlike key_name (cond b (k ∷ t ∷ ts)
    (t ∷ placed k ts))) [
      | true ↦ (swapped (t ∷ ts) new, apart)
      | false ↦ (
        each_placed (λ x. folds_same (key_name x) (key_name t) ≡ false) k ts new.0 apart.0,
        unlike_placed k ts apart.1 new.1,
      )
    ]
  where
    swapped : (us : List Tree) → Each (λ u. folds_same (key_name k) (key_name u) ≡ false) us
        → Lacks key_name (key_name k) us
    swapped [] h = tt
    swapped (u ∷ us) h = (folds_swap (key_name u) (key_name k) ∙ h.0, swapped us h.1)
