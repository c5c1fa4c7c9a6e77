-- By how much a tree is smaller, and which lists it needs, where a key goes with all below it.
use Rattle.std.proofs.Common.{◌≡◌, ℕ, suc, ◌+◌, ◌-◌, Bool, true, false, ◌||◌, cond, List, [], ◌∷◌, ◌++◌, length, refl, ◌∙◌, ap, Option, Some, None, Result, Ok, arith, length-append}
use Rattle.std.specs.Prelude.{find, ◌==◌}
use Rattle.std.specs.Option.{is_none, option_map_or, option_and_then}
use Rattle.std.proofs.lemmas.Bool.{ne_eqb}
use Rattle.nt_bytes.specs.declared.version.HiveVersion.{HiveVersion}
use Rattle.hive_model.specs.Tree.{Tree, Trees, Head, head, key, listed, children, is_named, find_key}
use Rattle.hive_model.specs.Edit.{Refusal, no_key, delete_key, after_step, without_first, of_children, without_key, unless}
use Rattle.hive_model.specs.Size.{list_size, count, size}
use Rattle.hive_model.specs.Footprint.{list_sizes, list_sizes_in, list_strain_of, needed_sizes, room_of, strain_of, unless_refused}
use Rattle.edited_cells.specs.Sizes.{sizes_of}
use Rattle.edited_cells.specs.Lessened.{HasChildThere}
use Rattle.edited_cells.proofs.Made.{parent_is}
use Rattle.edited_cells.proofs.Replaced.{listed_trees}
use Rattle.edited_cells.proofs.Siblings.{without_at}
use Rattle.edited_cells.proofs.ChildEdits.{relisted_size}
use Rattle.edited_cells.proofs.RoomLemmas.{found_changed}

some_tree : (a b : Tree) → Some a ≡ Some b → a ≡ b
some_tree a b e = cc

pub one_less : (p : Tree → Bool) (xs : List Tree) (k : Tree) → find p xs ≡ Some k
    → suc (length (without_first p xs)) ≡ length xs
one_less p [] k e = absurd cc
one_less p (x ∷ xs) k e = go (p x) e (λ d. one_less p xs k d)
  where
    go : (b : Bool) → cond b (Some x) (find p xs) ≡ Some k
        → (find p xs ≡ Some k → suc (length (without_first p xs)) ≡ length xs)
        → suc (length (cond b xs (x ∷ without_first p xs))) ≡ length (x ∷ xs)
    go true e deep = omega arith
    go false e deep = let d = deep e in omega (arith, d)

sizes_less : (version : HiveVersion) (shared : List ℕ) (p : Tree → Bool) (xs : List Tree) (k : Tree)
    → find p xs ≡ Some k
    → sizes_of version shared (without_first p xs) + size version shared k ≡ sizes_of version shared xs
sizes_less version shared p [] k e = absurd cc
sizes_less version shared p (x ∷ xs) k e = go (p x) e (λ d. sizes_less version shared p xs k d)
  where
    last : (rest v w : ℕ) → w ≡ v → rest + v ≡ w + rest
    last rest v w e = omega (arith, e)

    more : (w a b v : ℕ) → a + v ≡ b → w + a + v ≡ w + b
    more w a b v e = omega (arith, e)

    go : (b : Bool) → cond b (Some x) (find p xs) ≡ Some k
        → (find p xs ≡ Some k → sizes_of version shared (without_first p xs) + size version shared k
        ≡ sizes_of version shared xs)
        → sizes_of version shared (cond b xs (x ∷ without_first p xs)) + size version shared k
        ≡ sizes_of version shared (x ∷ xs)
    go true e deep = last (sizes_of version shared xs) (size version shared k) (size version shared x)
        (ap (size version shared) (some_tree x k e))
    go false e deep =
        more (size version shared x) (sizes_of version shared (without_first p xs)) (sizes_of version shared xs)
        (size version shared k) (deep e)

-- a tree without a key is smaller by the key and all below it, and by the difference of the lists that name it
pub lessened_size : (version : HiveVersion) (shared : List ℕ) (t : Tree) (parent : List (List ℕ)) (name : List ℕ)
    (h : Head)
    (ts : Trees) (k : Tree) → HasChildThere t parent name h ts k
    → size version shared (without_key (parent ++ name ∷ []) t) + (list_size (count ts) + size version h.security k)
    ≡ size version shared t + list_size (count ts - 1)
lessened_size version shared t parent name h ts k g =
    sum (size version shared (without_key (parent ++ name ∷ []) t)) (size version shared t) (list_size (count ts))
    (list_size (count ts - 1))
    (size version h.security k) (sizes_of version h.security (without_first (is_named name) (listed ts)))
    (sizes_of version h.security (listed ts))
    (ap (λ (u : Tree). size version shared u + (list_size (count ts) + sizes_of version h.security (listed ts)))
    (without_at parent name t)
    ∙ relisted_size version shared parent t h ts (without_first (is_named name)) g.above
    ∙ ap (λ (n : ℕ). size version shared t
    + (list_size n + sizes_of version h.security (without_first (is_named name) (listed ts)))) fewer)
    (sizes_less version h.security (is_named name) (listed ts) k g.child)
  where
    fewer : length (without_first (is_named name) (listed ts)) ≡ count ts - 1
    fewer = let l = one_less (is_named name) (listed ts) k g.child in omega (arith, l)

    sum : (u s l m k a b : ℕ) → u + (l + b) ≡ s + (m + a) → a + k ≡ b → u + (l + k) ≡ s + m
    sum u s l m k a b e f = omega (arith, e, f)

-- ---- the step

-- what is at a path on from a key
pub found_on : (parent : List (List ℕ)) (name : List ℕ) (t : Tree) → find_key (parent ++ name ∷ []) t
    ≡ option_and_then (λ k. find_key (name ∷ []) k) (find_key parent t)
found_on [] name t = refl
found_on (m ∷ parent) name t = go (find (is_named m) (children t)) (λ u. found_on parent name u)
  where
    go : (o : Option Tree) → ((u : Tree)
        → find_key (parent ++ name ∷ []) u ≡ option_and_then (λ k. find_key (name ∷ []) k) (find_key parent u))
        → option_and_then (find_key (parent ++ name ∷ [])) o
        ≡ option_and_then (λ k. find_key (name ∷ []) k) (option_and_then (find_key parent) o)
    go None deep = refl
    go (Some u) deep = deep u

some_path : (parent : List (List ℕ)) (name : List ℕ) → (length (parent ++ name ∷ []) == 0) ≡ false
some_path parent name =
    ne_eqb (length (parent ++ name ∷ [])) 0
    (λ e. let l = length-append {A = List ℕ} parent (name ∷ []) in absurd (omega (arith, l, e)))

pub found_child : (t : Tree) (parent : List (List ℕ)) (name : List ℕ) (h : Head) (ts : Trees) (k : Tree)
    → HasChildThere t parent name h ts k → find_key (parent ++ name ∷ []) t ≡ Some k
found_child t parent name h ts k g =
    found_on parent name t ∙ ap (λ (o : Option Tree). option_and_then (λ u. find_key (name ∷ []) u) o) g.above
    ∙ ap (λ (o : Option Tree). option_and_then (find_key []) o) g.child

pub deleted_step : (t : Tree) (parent : List (List ℕ)) (name : List ℕ) (h : Head) (ts : Trees) (k : Tree)
    → HasChildThere t parent name h ts k
    → after_step (delete_key (parent ++ name ∷ [])) t ≡ Ok (without_key (parent ++ name ∷ []) t)
deleted_step t parent name h ts k g =
    ap (λ (b : Bool). unless ((b || is_none (find_key (parent ++ name ∷ []) t), no_key) ∷ [])
    (without_key (parent ++ name ∷ []) t)) (some_path parent name)
    ∙ ap (λ (o : Option Tree). unless ((is_none o, no_key) ∷ []) (without_key (parent ++ name ∷ []) t))
    (found_child t parent name h ts k g)

of_children_name : (f : List Tree → List Tree) (w : Tree) → (head (of_children f w)).name ≡ (head w).name
of_children_name f (key h ts) = refl

-- the step needs the lists of the other children alone
pub lessened_strain : (version : HiveVersion) (bytes : ℕ) (t : Tree) (parent : List (List ℕ)) (name : List ℕ) (h : Head)
    (ts : Trees) (k : Tree) → HasChildThere t parent name h ts k
    → strain_of version bytes t (delete_key (parent ++ name ∷ []) ∷ []) ≡ list_strain_of bytes (count ts - 1)
lessened_strain version bytes t parent name h ts k g =
    ap (λ (r : Result Tree Refusal). unless_refused bytes r
    (λ u. bytes + room_of (needed_sizes version t (delete_key (parent ++ name ∷ [])) u)))
    (deleted_step t parent name h ts k g)
    ∙ ap (λ (p : List (List ℕ)). bytes + room_of (list_sizes_in p (without_key (parent ++ name ∷ []) t)))
    (parent_is parent name)
    ∙ ap (λ (o : Option Tree). bytes + room_of (option_map_or (λ (u : Tree). list_sizes (length (children u))) o []))
    then_there
    ∙ ap (λ (n : ℕ). bytes + room_of (list_sizes n)) fewer
  where
    then_there : find_key parent (without_key (parent ++ name ∷ []) t)
        ≡ Some (of_children (without_first (is_named name)) (key h ts))
    then_there =
        ap (find_key parent) (without_at parent name t)
        ∙ found_changed (of_children (without_first (is_named name))) parent t (key h ts)
        (of_children_name (without_first (is_named name))) g.above

    fewer : length (children (of_children (without_first (is_named name)) (key h ts))) ≡ count ts - 1
    fewer =
        let l = one_less (is_named name) (listed ts) k g.child in
        let n : length (children (of_children (without_first (is_named name)) (key h ts)))
        ≡ length (without_first (is_named name) (listed ts))
        = ap (λ (us : List Tree). length us) (listed_trees (without_first (is_named name) (listed ts))) in
        omega (arith, l, n)
