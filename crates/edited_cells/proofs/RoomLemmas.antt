-- The room for the cells that a step writes is within its strain: a step that finds no room has a strain over the
-- limit.
use Rattle.std.proofs.Common.{◌≡◌, ℕ, ◌+◌, ◌<◌, ◌≤◌, Bool, true, false, cond, List, [], ◌∷◌, ◌++◌, length, refl, sym, ◌∙◌, ap, inl, inr, Option, Some, None, Result, Ok, Err, arith}
use Rattle.std.specs.Prelude.{find, map, option_and_then}
use Rattle.std.specs.Option.{option_map_or}
use Rattle.std.proofs.lemmas.List.Sums.{sum_by-cons}
use Rattle.nt_bytes.specs.declared.version.HiveVersion.{HiveVersion}
use Rattle.nt_bytes.specs.Folding.{folds_same}
use Rattle.hive_model.specs.Tree.{Tree, key, listed, head, Item, children, is_named, find_key, find_item}
use Rattle.hive_model.specs.Size.{cell, name_bytes, cells_sum, data_sizes, item_size}
use Rattle.hive_model.specs.Edit.{Step, set_value, make_key, Refusal, at_first, at_key, after_step}
use Rattle.hive_model.specs.Packed.{rounded}
use Rattle.hive_model.specs.Footprint.{unless_refused, has_key, value_list_sizes, item_sizes, list_sizes, sizes, room_of, added_sizes_in, needed_sizes, strain_of}
use Rattle.edited_cells.specs.Sizes.{total, AreSome}
use Rattle.edited_cells.proofs.Replaced.{listed_trees}

-- ---- sizes

pub room_cons : (x : ℕ) (xs : List ℕ) → room_of (x ∷ xs) ≡ rounded (x + 32) + room_of xs
room_cons x xs = sum_by-cons (λ s. rounded (s + 32)) x xs

pub some_all : (xs : List ℕ) → AreSome xs xs
some_all [] = tt
some_all (x ∷ xs) = inl (refl, some_all xs)

pub some_left : (xs ys : List ℕ) → AreSome xs (xs ++ ys)
some_left [] ys = tt
some_left (x ∷ xs) ys = inl (refl, some_left xs ys)

pub some_right : (xs ys zs : List ℕ) → AreSome xs zs → AreSome xs (ys ++ zs)
some_right [] ys zs h = tt
some_right (x ∷ xs) [] zs h = h
some_right (x ∷ xs) (y ∷ ys) zs h = inr (some_right (x ∷ xs) ys zs h)

pub room_some : (xs ys : List ℕ) → AreSome xs ys → room_of xs ≤ room_of ys
room_some [] ys h = omega arith
room_some (x ∷ xs) [] h = absurd h
room_some (x ∷ xs) (y ∷ ys) (inl e) =
    let r = room_some xs ys e.1 in let s : rounded (x + 32) ≡ rounded (y + 32) = ap (λ (n : ℕ). rounded (n + 32)) e.0 in
    omega (arith, r, s, room_cons x xs, room_cons y ys)
room_some (x ∷ xs) (y ∷ ys) (inr h) = let r = room_some (x ∷ xs) ys h in omega (arith, r, room_cons y ys)

-- one bin for cells together is no longer than a bin for each
room_joined : (x : ℕ) (xs : List ℕ) → rounded (total (x ∷ xs) + 32) ≤ room_of (x ∷ xs)
room_joined x [] = let c = room_cons x [] in one x (room_of (x ∷ [])) (room_of []) c
  where
    one : (x whole none : ℕ) → whole ≡ rounded (x + 32) + none → rounded (x + 0 + 32) ≤ whole
    one x whole none e = omega (arith, e)
room_joined x (y ∷ ys) =
    both x (total (y ∷ ys)) (room_of (x ∷ y ∷ ys)) (room_of (y ∷ ys)) (room_cons x (y ∷ ys)) (room_joined y ys)
  where
    both : (a b whole room : ℕ) → whole ≡ rounded (a + 32) + room → rounded (b + 32) ≤ room
        → rounded (a + b + 32) ≤ whole
    both a b whole room e h = omega (arith, e, h)

pub room_for : (xs : List ℕ) → 0 < total xs → rounded (total xs + 32) ≤ room_of xs
room_for [] h = absurd (omega (arith, h))
room_for (x ∷ xs) h = room_joined x xs

-- ---- the strain

-- what one step may need
pub strain_one : (version : HiveVersion) (bytes : ℕ) (t u : Tree) (step : Step) (steps : List Step)
    → after_step step t ≡ Ok u
    → strain_of version bytes t (step ∷ steps)
    ≡ strain_of version (bytes + room_of (needed_sizes version t step u)) u steps
strain_one version bytes t u step steps ok =
    ap (λ (r : Result Tree Refusal). unless_refused bytes r
    (λ v. strain_of version (bytes + room_of (needed_sizes version t step v)) v steps)) ok

-- longer data have no less strain
pub strain_more : (version : HiveVersion) (a b : ℕ) (t : Tree) (steps : List Step) → a ≤ b
    → strain_of version a t steps ≤ strain_of version b t steps
strain_more version a b t [] h = h
strain_more version a b t (step ∷ steps) h =
    go (after_step step t) (λ u. strain_more version (a + room_of (needed_sizes version t step u))
    (b + room_of (needed_sizes version t step u)) u steps (omega (arith, h)))
  where
    go : (r : Result Tree Refusal)
        → ((u : Tree) → strain_of version (a + room_of (needed_sizes version t step u)) u steps ≤ strain_of version
        (b + room_of (needed_sizes version t step u)) u steps)
        → unless_refused a r (λ u. strain_of version (a + room_of (needed_sizes version t step u)) u steps)
        ≤ unless_refused b r (λ u. strain_of version (b + room_of (needed_sizes version t step u)) u steps)
    go (Ok u) deep = deep u
    go (Err e) deep = h

pub strain_least : (version : HiveVersion) (bytes : ℕ) (t : Tree) (steps : List Step)
    → bytes ≤ strain_of version bytes t steps
strain_least version bytes t [] = omega arith
strain_least version bytes t (step ∷ steps) =
    go (after_step step t) (λ u. strain_least version (bytes + room_of (needed_sizes version t step u)) u steps)
  where
    go : (r : Result Tree Refusal)
        → ((u : Tree) → bytes + room_of (needed_sizes version t step u) ≤ strain_of version
        (bytes + room_of (needed_sizes version t step u)) u steps)
        → bytes ≤ unless_refused bytes r
        (λ u. strain_of version (bytes + room_of (needed_sizes version t step u)) u steps)
    go (Ok u) deep = let d = deep u in omega (arith, d)
    go (Err e) deep = omega arith

-- Where a bin for cells that a step may need, in sequence, is not to be had below a limit, its strain is over
-- the limit.
pub no_room : (version : HiveVersion) (bytes limit : ℕ) (t u : Tree) (step : Step) (steps : List Step)
    (asked : List ℕ) → after_step step t ≡ Ok u → AreSome asked (needed_sizes version t step u) → 0 < total asked
    → limit < bytes + rounded (total asked + 32) → limit < strain_of version bytes t (step ∷ steps)
no_room version bytes limit t u step steps asked ok part some over =
    let f = room_for asked some in let r = room_some asked (needed_sizes version t step u) part in
    let e = strain_one version bytes t u step steps ok in
    let l = strain_least version (bytes + room_of (needed_sizes version t step u)) u steps in
    omega (arith, f, r, e, l, over)

-- ---- what a value may need

-- the key at a path after it was changed, where it keeps its name
pub found_changed : (f : Tree → Tree) (path : List (List ℕ)) (t k : Tree)
    → ((w : Tree) → (head (f w)).name ≡ (head w).name) → find_key path t ≡ Some k
    → find_key path (at_key path f t) ≡ Some (f k)
found_changed f [] t k same e = ap (λ (o : Option Tree). over o) e
  where
    over : Option Tree → Option Tree
    over (Some w) = Some (f w)
    over None = None
found_changed f (name ∷ path) (key h ts) k same e =
    ap (λ (us : List Tree). option_and_then (find_key path) (find (is_named name) us))
    (listed_trees (at_first (is_named name) (at_key path f) (listed ts)))
    ∙ go (listed ts) e (λ w d. found_changed f path w k same d)
  where
    kept : (path : List (List ℕ)) (w : Tree) → (head (at_key path f w)).name ≡ (head w).name
    kept [] w = same w
    kept (m ∷ path) (key g us) = refl

    found_by : (v : Bool) (w : Tree) (us : List Tree) → is_named name w ≡ v
        → find (is_named name) (w ∷ us) ≡ cond v (Some w) (find (is_named name) us)
    found_by v w us is = ap (λ (z : Bool). cond z (Some w) (find (is_named name) us)) is

    pick : (w : Tree) (us : List Tree) (v : Bool) → is_named name w ≡ v
        → option_and_then (find_key path) (find (is_named name) (w ∷ us)) ≡ Some k
        → ((z : Tree) → find_key path z ≡ Some k → find_key path (at_key path f z) ≡ Some (f k))
        → (option_and_then (find_key path) (find (is_named name) us) ≡ Some k
        → option_and_then (find_key path) (find (is_named name) (at_first (is_named name) (at_key path f) us))
        ≡ Some (f k))
        → option_and_then (find_key path)
        (find (is_named name) (cond v (at_key path f w ∷ us) (w ∷ at_first (is_named name) (at_key path f) us)))
        ≡ Some (f k)
    pick w us true is e deep rest =
        ap (option_and_then (find_key path))
        (found_by true (at_key path f w) us (ap (folds_same name) (kept path w) ∙ is))
        ∙ deep w (sym (ap (option_and_then (find_key path)) (found_by true w us is)) ∙ e)
    pick w us false is e deep rest =
        ap (option_and_then (find_key path)) (found_by false w (at_first (is_named name) (at_key path f) us) is)
        ∙ rest (sym (ap (option_and_then (find_key path)) (found_by false w us is)) ∙ e)

    go : (us : List Tree) → option_and_then (find_key path) (find (is_named name) us) ≡ Some k
        → ((z : Tree) → find_key path z ≡ Some k → find_key path (at_key path f z) ≡ Some (f k))
        → option_and_then (find_key path) (find (is_named name) (at_first (is_named name) (at_key path f) us))
        ≡ Some (f k)
    go [] e deep = absurd cc
    go (w ∷ us) e deep = pick w us (is_named name w) refl e deep (λ d. go us d deep)

-- the sizes of the cells that a value that is set may need: its key's list, and the value
pub set_needs : (version : HiveVersion) (t u k : Tree) (path : List (List ℕ)) (name : List ℕ) (kind : ℕ)
    (bytes : List ℕ) (v : Item) → find_key path u ≡ Some k → find_item name k ≡ Some v
    → needed_sizes version t (set_value path name kind bytes) u ≡ value_list_sizes (length (head k).values)
    ++ item_sizes version v
set_needs version t u k path name kind bytes v found item =
    ap (λ (o : Option Tree). option_map_or (λ z. value_list_sizes (length (head z).values)) o []
    ++ option_map_or (λ z. option_map_or (item_sizes version) (find_item name z) []) o []) found
    ∙ ap (λ (o : Option Item). value_list_sizes (length (head k).values) ++ option_map_or (item_sizes version) o [])
    item

-- the sizes of a value's cells together are its size
pub item_total : (version : HiveVersion) (v : Item) → total (item_sizes version v) ≡ item_size version v
item_total version v =
    ap (λ (n : ℕ). cell (20 + name_bytes v.name) + n) (cells_total (data_sizes version (length v.bytes)))
  where
    cells_total : (ns : List ℕ) → total (map cell ns) ≡ cells_sum ns
    cells_total [] = refl
    cells_total (n ∷ ns) = ap (λ (m : ℕ). cell n + m) (cells_total ns)

-- ---- what a key may need

-- the sizes where a key gets a child, as one that is made, copied or added: of its lists, and of the child and all
-- below it
pub added_needs : (version : HiveVersion) (u k w : Tree) (parent : List (List ℕ)) (name : List ℕ)
    → find_key parent u ≡ Some k → find (is_named name) (children k) ≡ Some w
    → added_sizes_in version parent name u ≡ list_sizes (length (children k)) ++ sizes version (head k).security w
added_needs version u k w parent name found child =
    ap (λ (o : Option Tree). option_map_or (λ z. list_sizes (length (children z))) o []
    ++ option_map_or (λ z. option_map_or (sizes version (head z).security) (find (is_named name) (children z)) [])
    o []) found
    ∙ ap (λ (o : Option Tree). list_sizes (length (children k)) ++ option_map_or (sizes version (head k).security) o [])
    child

-- the sizes of the cells that a key that is made may need: the lists of the key above, and the key
pub make_needs : (version : HiveVersion) (t u k w : Tree) (parent : List (List ℕ)) (name : List ℕ)
    → has_key parent name t ≡ false → find_key parent u ≡ Some k → find (is_named name) (children k) ≡ Some w
    → needed_sizes version t (make_key parent name) u ≡ list_sizes (length (children k))
    ++ sizes version (head k).security w
make_needs version t u k w parent name absent found child =
    ap (λ (v : Bool). cond v [] (added_sizes_in version parent name u)) absent
    ∙ added_needs version u k w parent name found child
