-- Values with one set or deleted: their names still differ, and the cells are well-formed with them.
use Rattle.std.proofs.Common.{◌≡◌, ℕ, Bool, true, false, cond, List, [], ◌∷◌, ◌++◌, map, refl, sym, ◌∙◌, ap, subst, inl, inr, ⊎_elim, Some}
use Rattle.std.specs.Prelude.{find, is_some}
use Rattle.nt_bytes.specs.Folding.{folds_same}
use Rattle.hive_model.specs.Tree.{Item, is_item}
use Rattle.hive_model.specs.Edit.{at_first, without_first, with_item}
use Rattle.hive_model.specs.Valid.{ItemsDiffer}
use Rattle.edited_cells.specs.Owned.{In}
use Rattle.edited_cells.specs.Pairs.{Pairwise}
use Rattle.edited_cells.proofs.Pairs.{pairwise_from, pairwise_to, pairwise_join, in_map, in_map_from}
use Rattle.edited_cells.proofs.Replaced.{Unlike}

-- ---- names

-- the names of values, in order
abbrev pub names_of_items : List Item → List (List ℕ)
names_of_items vs = map (λ (v : Item). v.name) vs

pub items_unlike : (vs : List Item) → ItemsDiffer vs → Pairwise Unlike (names_of_items vs)
items_unlike vs d = go vs (pairwise_from (λ (a : Item) (b : Item). folds_same b.name a.name ≡ false) vs d)
  where
    go : (vs : List Item) → Pairwise (λ (a : Item) (b : Item). folds_same b.name a.name ≡ false) vs
        → Pairwise Unlike (names_of_items vs)
    go [] h = tt
    go (v ∷ vs) h =
        (λ m i. let p = in_map (λ (w : Item). w.name) vs m i in subst (Unlike v.name) p.2 (h.0 p.0 p.1), go vs h.1)

pub unlike_items : (vs : List Item) → Pairwise Unlike (names_of_items vs) → ItemsDiffer vs
unlike_items vs d = pairwise_to (λ (a : Item) (b : Item). folds_same b.name a.name ≡ false) vs (go vs d)
  where
    go : (vs : List Item) → Pairwise Unlike (names_of_items vs)
        → Pairwise (λ (a : Item) (b : Item). folds_same b.name a.name ≡ false) vs
    go [] h = tt
    go (v ∷ vs) h = (λ u i. h.0 u.name (in_map_from (λ (w : Item). w.name) vs u i), go vs h.1)

first_names : (p : Item → Bool) (f : Item → Item) (vs : List Item) → ((v : Item) → (f v).name ≡ v.name)
    → names_of_items (at_first p f vs) ≡ names_of_items vs
first_names p f [] same = refl
first_names p f (v ∷ vs) same = go (p v) (first_names p f vs same)
  where
    go : (w : Bool) → names_of_items (at_first p f vs) ≡ names_of_items vs
        → names_of_items (cond w (f v ∷ vs) (v ∷ at_first p f vs)) ≡ names_of_items (v ∷ vs)
    go true rest = ap (λ (n : List ℕ). n ∷ names_of_items vs) (same v)
    go false rest = ap (λ (l : List (List ℕ)). v.name ∷ l) rest

none_passes : (p : Item → Bool) (vs : List Item) (v : Item) → is_some (find p vs) ≡ false → In vs v → p v ≡ false
none_passes p [] v e i = absurd i
none_passes p (w ∷ vs) v e i = go (p w) refl e i (λ d j. none_passes p vs v d j)
  where
    go : (b : Bool) → p w ≡ b → is_some (cond b (Some w) (find p vs)) ≡ false → In (w ∷ vs) v
        → (is_some (find p vs) ≡ false → In vs v → p v ≡ false) → p v ≡ false
    go true is e i deep = absurd cc
    go false is e (inl s) deep = ap p (sym s) ∙ is
    go false is e (inr j) deep = deep e j

map_append : (us vs : List Item) → names_of_items (us ++ vs) ≡ names_of_items us ++ names_of_items vs
map_append [] vs = refl
map_append (u ∷ us) vs = ap (λ (l : List (List ℕ)). u.name ∷ l) (map_append us vs)

-- with a value set, names differ
pub with_item_differ : (name : List ℕ) (kind : ℕ) (bytes : List ℕ) (vs : List Item) → ItemsDiffer vs
    → ItemsDiffer (with_item name kind bytes vs)
with_item_differ name kind bytes vs d = go (is_some (find (is_item name) vs)) refl
  where
    added : Item
    added = record { name = name; kind = kind; bytes = bytes }

    pushed : is_some (find (is_item name) vs) ≡ false
        → Pairwise Unlike (names_of_items (vs ++ record { name = name; kind = kind; bytes = bytes } ∷ []))
    pushed e =
        subst (Pairwise Unlike) (sym (map_append vs (added ∷ [])))
        (pairwise_join Unlike (names_of_items vs) (name ∷ []) (record {
          left = items_unlike vs d;
          right = (λ m i. absurd i, tt);
          across = λ m n i j. ⊎_elim
              (λ (s : name ≡ n). subst (Unlike m) s
              (let p = in_map (λ (w : Item). w.name) vs m i in
              subst (λ (z : List ℕ). folds_same name z ≡ false) p.2 (none_passes (is_item name) vs p.0 e p.1)))
              (λ (z : ⊥). absurd z) j;
        }))

    go : (b : Bool) → is_some (find (is_item name) vs) ≡ b
        → ItemsDiffer (cond b (at_first (is_item name) (λ v. record v { kind = kind; bytes = bytes }) vs)
        (vs ++ record { name = name; kind = kind; bytes = bytes } ∷ []))
    go true e = unlike_items (at_first (is_item name) (λ v. record v { kind = kind; bytes = bytes }) vs)
        (subst (Pairwise Unlike) (sym
        (first_names (is_item name) (λ v. record v { kind = kind; bytes = bytes }) vs (λ v. refl)))
        (items_unlike vs d))
    go false e = unlike_items (vs ++ record { name = name; kind = kind; bytes = bytes } ∷ []) (pushed e)

in_without : (p : Item → Bool) (vs : List Item) (u : Item) → In (without_first p vs) u → In vs u
in_without p [] u i = i
in_without p (v ∷ vs) u i = go (p v) i (λ j. in_without p vs u j)
  where
    go : (w : Bool) → In (cond w vs (v ∷ without_first p vs)) u → (In (without_first p vs) u → In vs u)
        → In (v ∷ vs) u
    go true i deep = inr i
    go false (inl e) deep = inl e
    go false (inr i) deep = inr (deep i)

without_apart : (p : Item → Bool) (vs : List Item)
    → Pairwise (λ (a : Item) (b : Item). folds_same b.name a.name ≡ false) vs
    → Pairwise (λ (a : Item) (b : Item). folds_same b.name a.name ≡ false) (without_first p vs)
without_apart p [] h = h
without_apart p (v ∷ vs) h = go (p v) (without_apart p vs h.1)
  where
    go : (w : Bool) → Pairwise (λ (a : Item) (b : Item). folds_same b.name a.name ≡ false) (without_first p vs)
        → Pairwise (λ (a : Item) (b : Item). folds_same b.name a.name ≡ false) (cond w vs (v ∷ without_first p vs))
    go true rest = h.1
    go false rest = (λ u i. h.0 u (in_without p vs u i), rest)

-- without a value, names differ
pub without_item_differ : (p : Item → Bool) (vs : List Item) → ItemsDiffer vs → ItemsDiffer (without_first p vs)
without_item_differ p vs d =
    pairwise_to (λ (a : Item) (b : Item). folds_same b.name a.name ≡ false) (without_first p vs)
    (without_apart p vs (pairwise_from (λ (a : Item) (b : Item). folds_same b.name a.name ≡ false) vs d))
