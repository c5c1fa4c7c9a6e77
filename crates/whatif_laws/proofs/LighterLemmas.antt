-- A tree whose sets are lighter than those of another: keys of the same names, none of them larger, and the same Select.
use Rattle.std.proofs.Common.{◌≡◌, ℕ, ◌+◌, ◌≤◌, Bool, true, false, cond, List, [], ◌∷◌, length, Option, Some, None, refl, sym, ap, subst, ◌∙◌, arith}
use Rattle.std.specs.Prelude.{find, codes, option_and_then}
use Rattle.std.specs.Option.{is_some, is_none, option_map_or}
use Rattle.std.specs.Ordering.{is_gt}
use Rattle.std.proofs.lemmas.Bool.{false≢true}
use Rattle.nt_bytes.specs.Counts.{capped}
use Rattle.nt_bytes.specs.Folding.{folds_same, folded_order}
use Rattle.nt_bytes.specs.declared.version.HiveVersion.{HiveVersion}
use Rattle.hive_model.specs.Tree.{Head, Tree, Trees, key, trees, listed, head, children, is_named, find_key}
use Rattle.hive_model.specs.Size.{cell, name_bytes, class_size, security_size, items_size, head_size, list_size, count, size, size_of_all, bulk_of}
use Rattle.hive_model.specs.Edit.{at_first, without_first, of_children, placed, renamed, with_child}
use Rattle.start_laws.proofs.StepLemmas.{name_of-renamed}
use Rattle.reg_tree.proofs.Trees.{listed_trees, trees_listed}

-- ---- lighter keys

-- the second key has the name of the first one and is no larger; it is the same if it is Select
pub record IsLighter (x y : Tree) : Type 0 where
  pub name : (head x).name ≡ (head y).name
  pub weight : (version : HiveVersion) (shared : List ℕ) → size version shared y ≤ size version shared x
  pub select : is_named (codes "Select") x ≡ true → x ≡ y

abbrev pub AreLighter : List Tree → List Tree → Type 0
AreLighter [] [] = Unit {0}
AreLighter [] (y ∷ ys) = ⊥
AreLighter (x ∷ xs) [] = ⊥
AreLighter (x ∷ xs) (y ∷ ys) = IsLighter x y × AreLighter xs ys

-- the second tree has the first one's root, and keys below it that are lighter, one by one
pub record IsLighterTree (t u : Tree) : Type 0 where
  pub root : head t ≡ head u
  pub below : AreLighter (children t) (children u)

pub itself : (x : Tree) → IsLighter x x
itself x = record { name = refl; weight = λ version shared. omega arith; select = λ h. refl }

pub themselves : (xs : List Tree) → AreLighter xs xs
themselves [] = tt
themselves (x ∷ xs) = (itself x, themselves xs)

same_test : (name : List ℕ) (x y : Tree) → IsLighter x y → is_named name x ≡ is_named name y
same_test name x y l = ap (folds_same name) l.name

-- by one test on both sides
by_test : {A : Type 0} (R : A → A → Type 0) (b c : Bool) → b ≡ c → (x y z w : A) → R x y → R z w → R (cond b x z) (cond c y w)
by_test {A} R b c e x y z w here below = subst (λ (d : Bool). R (cond b x z) (cond d y w)) e (by b)
  where
    by : (b : Bool) → R (cond b x z) (cond b y w)
    by true = here
    by false = below

-- ---- what is found

abbrev pub OneLighter : Option Tree → Option Tree → Type 0
OneLighter None None = Unit {0}
OneLighter None (Some y) = ⊥
OneLighter (Some x) None = ⊥
OneLighter (Some x) (Some y) = IsLighter x y

pub found_lighter : (name : List ℕ) (xs ys : List Tree) → AreLighter xs ys → OneLighter (find (is_named name) xs) (find (is_named name) ys)
found_lighter name [] [] l = tt
found_lighter name [] (y ∷ ys) l = absurd l
found_lighter name (x ∷ xs) [] l = absurd l
found_lighter name (x ∷ xs) (y ∷ ys) l =
    by_test OneLighter (is_named name x) (is_named name y) (same_test name x y l.0) (Some x) (Some y)
    (find (is_named name) xs) (find (is_named name) ys) l.0 (found_lighter name xs ys l.1)

pub some_lighter : (o p : Option Tree) → OneLighter o p → is_some o ≡ is_some p
some_lighter None None l = refl
some_lighter None (Some y) l = absurd l
some_lighter (Some x) None l = absurd l
some_lighter (Some x) (Some y) l = refl

pub some_key_lighter : (o p : Option Tree) → OneLighter o p → is_some (option_and_then (find_key []) o) ≡ is_some (option_and_then (find_key []) p)
some_key_lighter None None l = refl
some_key_lighter None (Some y) l = absurd l
some_key_lighter (Some x) None l = absurd l
some_key_lighter (Some x) (Some y) l = refl

pub no_key_lighter : (o p : Option Tree) → OneLighter o p → is_none (option_and_then (find_key []) o) ≡ is_none (option_and_then (find_key []) p)
no_key_lighter None None l = refl
no_key_lighter None (Some y) l = absurd l
no_key_lighter (Some x) None l = absurd l
no_key_lighter (Some x) (Some y) l = refl

pub found_select : (xs ys : List Tree) → AreLighter xs ys → find (is_named (codes "Select")) xs ≡ find (is_named (codes "Select")) ys
found_select [] [] l = refl
found_select [] (y ∷ ys) l = absurd l
found_select (x ∷ xs) [] l = absurd l
found_select (x ∷ xs) (y ∷ ys) l =
    by (is_named (codes "Select") x) refl (found_select xs ys l.1)
    ∙ ap (λ (b : Bool). cond b (Some y) (find (is_named (codes "Select")) ys)) (same_test (codes "Select") x y l.0)
  where
    by : (b : Bool) → is_named (codes "Select") x ≡ b → find (is_named (codes "Select")) xs ≡ find (is_named (codes "Select")) ys
        → cond b (Some x) (find (is_named (codes "Select")) xs) ≡ cond b (Some y) (find (is_named (codes "Select")) ys)
    by true is deep = ap (λ (z : Tree). Some z) (l.0.select is)
    by false is deep = deep

-- ---- the same change on both sides

pub without_lighter : (name : List ℕ) (xs ys : List Tree) → AreLighter xs ys
    → AreLighter (without_first (is_named name) xs) (without_first (is_named name) ys)
without_lighter name [] [] l = tt
without_lighter name [] (y ∷ ys) l = absurd l
without_lighter name (x ∷ xs) [] l = absurd l
without_lighter name (x ∷ xs) (y ∷ ys) l =
    by_test AreLighter (is_named name x) (is_named name y) (same_test name x y l.0) xs ys
    (x ∷ without_first (is_named name) xs) (y ∷ without_first (is_named name) ys) l.1 (l.0, without_lighter name xs ys l.1)

placed_lighter : (t u : Tree) → IsLighter t u → (xs ys : List Tree) → AreLighter xs ys → AreLighter (placed t xs) (placed u ys)
placed_lighter t u n [] [] l = (n, tt)
placed_lighter t u n [] (y ∷ ys) l = absurd l
placed_lighter t u n (x ∷ xs) [] l = absurd l
placed_lighter t u n (x ∷ xs) (y ∷ ys) l =
    by_test AreLighter (is_gt (folded_order (head x).name (head t).name)) (is_gt (folded_order (head y).name (head u).name))
    (λ i. is_gt (folded_order (l.0.name i) (n.name i))) (t ∷ x ∷ xs) (u ∷ y ∷ ys) (x ∷ placed t xs) (y ∷ placed u ys)
    (n, l) (l.0, placed_lighter t u n xs ys l.1)

-- Select is changed
pub select_lighter : (f : Tree → Tree) (xs ys : List Tree) → AreLighter xs ys
    → AreLighter (at_first (is_named (codes "Select")) f xs) (at_first (is_named (codes "Select")) f ys)
select_lighter f [] [] l = tt
select_lighter f [] (y ∷ ys) l = absurd l
select_lighter f (x ∷ xs) [] l = absurd l
select_lighter f (x ∷ xs) (y ∷ ys) l =
    let p : Tree → Bool = is_named (codes "Select") in
    subst (λ (b : Bool). AreLighter (cond (p x) (f x ∷ xs) (x ∷ at_first p f xs)) (cond b (f y ∷ ys) (y ∷ at_first p f ys)))
    (same_test (codes "Select") x y l.0) (by (p x) refl (select_lighter f xs ys l.1))
  where
    by : (b : Bool) → is_named (codes "Select") x ≡ b
        → AreLighter (at_first (is_named (codes "Select")) f xs) (at_first (is_named (codes "Select")) f ys)
        → AreLighter (cond b (f x ∷ xs) (x ∷ at_first (is_named (codes "Select")) f xs))
        (cond b (f y ∷ ys) (y ∷ at_first (is_named (codes "Select")) f ys))
    by true is deep = (subst (IsLighter (f x)) (ap f (l.0.select is)) (itself (f x)), l.1)
    by false is deep = (l.0, deep)

pub children_lighter : (f g : List Tree → List Tree) (t u : Tree) → IsLighterTree t u → AreLighter (f (children t)) (g (children u))
    → IsLighterTree (of_children f t) (of_children g u)
children_lighter f g (key h ts) (key i us) l below = record {
  root = l.root;
  below = subst (λ (zs : List Tree). AreLighter zs (listed (trees (g (listed us))))) (sym (listed_trees (f (listed ts))))
      (subst (AreLighter (f (listed ts))) (sym (listed_trees (g (listed us)))) below);
}

-- another name instead of the old one
renamed_size : (version : HiveVersion) (shared name : List ℕ) (t : Tree)
    → size version shared (renamed name t) + cell (76 + name_bytes (head t).name) ≡ size version shared t + cell (76 + name_bytes name)
renamed_size version shared name (key h ts) =
    sum (cell (76 + name_bytes h.name)) (cell (76 + name_bytes name)) (class_size h.class) (security_size shared h.security)
    (items_size version h.values) (list_size (count ts)) (size_of_all version h.security ts)
  where
    sum : (a b c s i l r : ℕ) → b + c + s + i + l + r + a ≡ a + c + s + i + l + r + b
    sum a b c s i l r = omega arith

renamed_lighter : (to : List ℕ) (x y : Tree) → folds_same (codes "Select") to ≡ false → IsLighter x y → IsLighter (renamed to x) (renamed to y)
renamed_lighter to x y other l = record {
  name = name_of-renamed to x ∙ sym (name_of-renamed to y);
  weight = λ version shared.
      less (size version shared (renamed to x)) (size version shared (renamed to y)) (size version shared x) (size version shared y)
      (cell (76 + name_bytes (head x).name)) (cell (76 + name_bytes (head y).name)) (cell (76 + name_bytes to))
      (renamed_size version shared to x) (renamed_size version shared to y) (ap (λ (n : List ℕ). cell (76 + name_bytes n)) l.name)
      (l.weight version shared);
  select = λ h. absurd (false≢true (sym (ap (folds_same (codes "Select")) (name_of-renamed to x) ∙ other) ∙ h));
}
  where
    less : (p q x y a b c : ℕ) → p + a ≡ x + c → q + b ≡ y + c → a ≡ b → y ≤ x → q ≤ p
    less p q x y a b c e f g h = omega (arith, e, f, g, h)

pub copy_lighter : (to : List ℕ) → folds_same (codes "Select") to ≡ false → (t u : Tree) → IsLighterTree t u
    → (o p : Option Tree) → OneLighter o p
    → IsLighterTree (option_map_or (λ k. with_child to k t) o t) (option_map_or (λ k. with_child to k u) p u)
copy_lighter to other t u l None None q = l
copy_lighter to other t u l None (Some m) q = absurd q
copy_lighter to other t u l (Some k) None q = absurd q
copy_lighter to other t u l (Some k) (Some m) q =
    children_lighter (placed (renamed to k)) (placed (renamed to m)) t u l
    (placed_lighter (renamed to k) (renamed to m) (renamed_lighter to k m other q) (children t) (children u) l.below)

-- ---- sizes

-- a key with as many children that are no larger
pub key_size : (version : HiveVersion) (shared : List ℕ) (h : Head) (ts us : Trees) → count us ≡ count ts
    → size_of_all version h.security us ≤ size_of_all version h.security ts → size version shared (key h us) ≤ size version shared (key h ts)
key_size version shared h ts us many less =
    sum (head_size version shared h) (list_size (count us)) (list_size (count ts)) (size_of_all version h.security us)
    (size_of_all version h.security ts) (ap list_size many) less
  where
    sum : (a b c d e : ℕ) → b ≡ c → d ≤ e → a + b + d ≤ a + c + e
    sum a b c d e same less = omega (arith, same, less)

many_lighter : (xs ys : List Tree) → AreLighter xs ys → length ys ≡ length xs
many_lighter [] [] l = refl
many_lighter [] (y ∷ ys) l = absurd l
many_lighter (x ∷ xs) [] l = absurd l
many_lighter (x ∷ xs) (y ∷ ys) l = omega (arith, many_lighter xs ys l.1)

all_lighter : (version : HiveVersion) (shared : List ℕ) (xs ys : List Tree) → AreLighter xs ys
    → size_of_all version shared (trees ys) ≤ size_of_all version shared (trees xs)
all_lighter version shared [] [] l = omega arith
all_lighter version shared [] (y ∷ ys) l = absurd l
all_lighter version shared (x ∷ xs) [] l = absurd l
all_lighter version shared (x ∷ xs) (y ∷ ys) l =
    sum (size version shared x) (size version shared y) (size_of_all version shared (trees xs)) (size_of_all version shared (trees ys))
    (l.0.weight version shared) (all_lighter version shared xs ys l.1)
  where
    sum : (a b c d : ℕ) → b ≤ a → d ≤ c → b + d ≤ a + c
    sum a b c d e f = omega (arith, e, f)

tree_lighter : (version : HiveVersion) (shared : List ℕ) (t u : Tree) → IsLighterTree t u → size version shared u ≤ size version shared t
tree_lighter version shared (key h ts) (key i us) l =
    subst (λ (g : Head). size version shared (key g us) ≤ size version shared (key h ts)) l.root
    (key_size version shared h ts us (many_lighter (listed ts) (listed us) l.below) less)
  where
    less : size_of_all version h.security us ≤ size_of_all version h.security ts
    less = subst (λ (vs : Trees). size_of_all version h.security vs ≤ size_of_all version h.security ts) (trees_listed us)
        (subst (λ (vs : Trees). size_of_all version h.security (trees (listed us)) ≤ size_of_all version h.security vs) (trees_listed ts)
        (all_lighter version h.security (listed ts) (listed us) l.below))

pub bulk_lighter : (version : HiveVersion) (t u : Tree) → IsLighterTree t u → bulk_of version u ≤ bulk_of version t
bulk_lighter version t u l = less (size version [] t) (size version [] u) (tree_lighter version [] t u l)
  where
    less : (a b : ℕ) → b ≤ a → capped (32 + b) ≤ capped (32 + a)
    less a b h = omega (arith, h)
