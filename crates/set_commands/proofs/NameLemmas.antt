-- Keys found by name, and names that differ in their lengths.
use Rattle.std.proofs.Common.{◌≡◌, ℕ, Bool, true, false, cond, nat_eq, List, [], ◌∷◌, ◌++◌, length, map, Option, Some, None, refl, sym, ap, ◌∙◌, inl, inr, arith}
use Rattle.std.specs.Prelude.{find, option_map, option_and_then, ◌&&◌}
use Rattle.std.proofs.lemmas.Bool.{false_from_ne_true}
use Rattle.nt_bytes.specs.Folding.{folded_unit, folds_same}
use Rattle.hive_model.specs.Tree.{Tree, head, is_named, find_key, children}
use Rattle.hive_model.specs.Valid.{HoldsKeys}
use Rattle.hive_model.proofs.HeldLemmas.{held_child}
use Rattle.edited_cells.specs.Owned.{In}
use Rattle.edited_cells.proofs.Ins.{found_in}
use Rattle.reg_tree.proofs.Unlike.{Each, Lacks, Unlike}
use Rattle.hive_edit.proofs.EditLemmas.{folds_length}

abbrev pub name_of : Tree → List ℕ
name_of t = (head t).name

pub apart_by_length : (a b : List ℕ) → (length a ≡ length b → ⊥) → folds_same a b ≡ false
apart_by_length a b differ = false_from_ne_true (folds_same a b) (λ h. differ (folds_length a b h))

-- what folds to a name of one length folds to none of another
pub apart : (a b x : List ℕ) → (length a ≡ length b → ⊥) → folds_same a x ≡ true → folds_same b x ≡ false
apart a b x differ h = apart_by_length b x (λ e. differ (folds_length a x h ∙ sym e))

same_unit : (a : ℕ) → nat_eq a a ≡ true
same_unit a = grind arith

pub folds_itself : (xs : List ℕ) → folds_same xs xs ≡ true
folds_itself [] = refl
folds_itself (x ∷ xs) = ap (λ b. b && folds_same xs xs) (same_unit (folded_unit x)) ∙ folds_itself xs

-- ---- found by name

-- a key that is there can be held, and has this name
abbrev pub IsChild : List ℕ → Option Tree → Type 0
IsChild name None = Unit {0}
IsChild name (Some t) = HoldsKeys t × (is_named name t ≡ true)

pub one_name : (o : Option Tree) → option_and_then (find_key []) o ≡ o
one_name None = refl
one_name (Some t) = refl

-- what a path leads to has the last name of the path
pub is_child : (front : List (List ℕ)) (name : List ℕ) (t : Tree) → HoldsKeys t → IsChild name (find_key (front ++ name ∷ []) t)
is_child [] name t held = by (find (is_named name) (children t)) refl
  where
    by : (o : Option Tree) → find (is_named name) (children t) ≡ o → IsChild name (option_and_then (find_key []) o)
    by None e = tt
    by (Some u) e = (held_child name t u held e, (found_in (is_named name) (children t) u e).1)
is_child (step ∷ front) name t held = by (λ u. is_child front name u) (find (is_named step) (children t)) refl
  where
    by : ((u : Tree) → HoldsKeys u → IsChild name (find_key (front ++ name ∷ []) u)) → (o : Option Tree)
        → find (is_named step) (children t) ≡ o → IsChild name (option_and_then (find_key (front ++ name ∷ [])) o)
    by deep None e = tt
    by deep (Some u) e = deep u (held_child step t u held e)

-- among keys whose names differ, each is the first of its name
pub its_own : (ts : List Tree) (t : Tree) → Unlike name_of ts → In ts t → find (is_named (name_of t)) ts ≡ Some t
its_own [] t differ there = absurd there
its_own (u ∷ us) t differ (inl same) =
    ap (λ b. cond b (Some u) (find (is_named (name_of t)) us))
    (ap (λ (x : Tree). folds_same (name_of t) (name_of x)) same ∙ folds_itself (name_of t))
    ∙ ap Some same
its_own (u ∷ us) t differ (inr there) =
    ap (λ b. cond b (Some u) (find (is_named (name_of t)) us)) (lacks us differ.0 there) ∙ its_own us t differ.1 there
  where
    lacks : (ts : List Tree) → Lacks name_of (name_of u) ts → In ts t → folds_same (name_of t) (name_of u) ≡ false
    lacks [] all there = absurd there
    lacks (x ∷ xs) all (inl same) = ap (λ (y : Tree). folds_same (name_of y) (name_of u)) (sym same) ∙ all.0
    lacks (x ∷ xs) all (inr there) = lacks xs all.1 there

-- ---- keys changed that keep their names

-- the first of a name is changed
pub find_map : (f : Tree → Tree) → ((t : Tree) → name_of (f t) ≡ name_of t) → (name : List ℕ) (ts : List Tree)
    → find (is_named name) (map f ts) ≡ option_map f (find (is_named name) ts)
find_map f keeps name [] = refl
find_map f keeps name (t ∷ ts) =
    ap (λ n. cond (folds_same name n) (Some (f t)) (find (is_named name) (map f ts))) (keeps t)
    ∙ by (is_named name t) (find_map f keeps name ts)
  where
    by : (b : Bool) → find (is_named name) (map f ts) ≡ option_map f (find (is_named name) ts)
        → cond b (Some (f t)) (find (is_named name) (map f ts)) ≡ option_map f (cond b (Some t) (find (is_named name) ts))
    by true rest = refl
    by false rest = rest

pub each_map : {X Y : Type 0} (P : X → Type 0) (Q : Y → Type 0) (f : X → Y) → ((x : X) → P x → Q (f x)) → (xs : List X)
    → Each P xs → Each Q (map f xs)
each_map P Q f keeps [] h = tt
each_map P Q f keeps (x ∷ xs) h = (keeps x h.0, each_map P Q f keeps xs h.1)

pub unlike_map : (f : Tree → Tree) → ((t : Tree) → name_of (f t) ≡ name_of t) → (ts : List Tree) → Unlike name_of ts
    → Unlike name_of (map f ts)
unlike_map f keeps [] h = tt
unlike_map f keeps (t ∷ ts) h = (lacks ts h.0, unlike_map f keeps ts h.1)
  where
    lacks : (us : List Tree) → Lacks name_of (name_of t) us → Lacks name_of (name_of (f t)) (map f us)
    lacks [] all = tt
    lacks (u ∷ us) all = ((λ i. folds_same (keeps u i) (keeps t i)) ∙ all.0, lacks us all.1)
