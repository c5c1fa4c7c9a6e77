-- A key at a path gives way to another of its name: the cells stand for the tree with that key changed.
use Rattle.std.proofs.Common.{◌≡◌, ℕ, zero, suc, ◌+◌, ◌<◌, ◌≤◌, Bool, true, false, cond, List, [], ◌∷◌, length, map, refl, sym, ◌∙◌, ap, subst, inl, inr, Some, arith}
use Rattle.std.specs.Prelude.{find, max, option_and_then}
use Rattle.std.specs.List.{All}
use Rattle.nt_bytes.specs.Folding.{folds_same}
use Rattle.hive_model.specs.Bins.{Cells}
use Rattle.hive_model.specs.Tree.{Tree, Trees, key, none, more, trees, listed, Head, head, is_named, find_key}
use Rattle.hive_model.specs.Edit.{at_first, at_key}
use Rattle.hive_model.specs.Valid.{levels, most_levels, KeysDiffer}
use Rattle.hive_model.specs.Stands.{Stands, AllStand, HasApartNames, HaveApartNames}
use Rattle.hive_model.specs.Footprint.{child_places}
use Rattle.edited_cells.specs.Owned.{In, node_name, Reaches, Folds, Extends}
use Rattle.edited_cells.specs.Pairs.{Pairwise}
use Rattle.edited_cells.proofs.Pairs.{pairwise_from, pairwise_to, all_in, all_from, in_map, in_map_from}
use Rattle.edited_cells.proofs.Wellformed.{both_fold, Distinct, places_are, tree_name, keys_distinct, sound_at}
use Rattle.edited_cells.proofs.SameTree.{IsSameKey, key_same, tree_same}

-- ---- children, one of them changed

pub trees_listed : (ts : Trees) → trees (listed ts) ≡ ts
trees_listed none = refl
trees_listed (more t ts) = ap (λ (us : Trees). more t us) (trees_listed ts)

pub listed_trees : (ts : List Tree) → listed (trees ts) ≡ ts
listed_trees [] = refl
listed_trees (t ∷ ts) = ap (λ (us : List Tree). t ∷ us) (listed_trees ts)

-- the children stand where each stands
all_miss : (b c : Cells) (offsets : List ℕ) (ts : Trees) → AllStand b offsets ts
    → ((z : ℕ) (u : Tree) → In offsets z → Stands b z u → Stands c z u) → AllStand c offsets ts
all_miss b c offsets none e each = e
all_miss b c offsets (more t ts) a each =
    let all : (z : ℕ) (u : Tree) → In (a.0 ∷ a.1) z → Stands b z u → Stands c z u =
    λ z u i. each z u (subst (λ (l : List ℕ). In l z) (sym a.2) i) in
    (a.0, a.1, a.2, all a.0 t (inl refl) a.3, all_miss b c a.1 ts a.4 (λ z u i. all z u (inr i)))

not_named : (name a b : List ℕ) → folds_same b a ≡ false → folds_same name a ≡ true → folds_same name b ≡ false
not_named name a b apart e = go (folds_same name b) refl
  where
    go : (v : Bool) → folds_same name b ≡ v → folds_same name b ≡ false
    go false f = f
    go true f = absurd (let g = both_fold name b a f e in cc)

-- the first child of a name changes, and each other stands as it stood
pub first_changed : (b c : Cells) (name : List ℕ) (f : Tree → Tree) (offsets : List ℕ) (ts : Trees)
    → AllStand b offsets ts → HaveApartNames ts → Distinct (node_name b) offsets
    → ((z : ℕ) (u : Tree) → In offsets z → Stands b z u → HasApartNames u → folds_same name (node_name b z) ≡ true
    → Stands c z (f u))
    → ((z : ℕ) (u : Tree) → In offsets z → Stands b z u → folds_same name (node_name b z) ≡ false → Stands c z u)
    → AllStand c offsets (trees (at_first (is_named name) f (listed ts)))
first_changed b c name f offsets none e n d hit miss = e
first_changed b c name f offsets (more t ts) a n d hit miss =
    go (is_named name t) refl
    (first_changed b c name f a.1 ts a.4 n.1 apart.1 (λ z u i. hit z u (there z (inr i)))
    (λ z u i. miss z u (there z (inr i))))
  where
    apart : Distinct (node_name b) (a.0 ∷ a.1)
    apart = subst (Distinct (node_name b)) a.2 d

    there : (z : ℕ) → In (a.0 ∷ a.1) z → In offsets z
    there z i = subst (λ (l : List ℕ). In l z) (sym a.2) i

    name_here : node_name b a.0 ≡ (head t).name
    name_here = tree_name b a.0 t a.3

    go : (v : Bool) → is_named name t ≡ v → AllStand c a.1 (trees (at_first (is_named name) f (listed ts)))
        → AllStand c offsets (trees (cond v (f t ∷ listed ts) (t ∷ at_first (is_named name) f (listed ts))))
    go true is rest =
        let here : folds_same name (node_name b a.0) ≡ true = ap (folds_same name) name_here ∙ is in (
          a.0,
          a.1,
          a.2,
          hit a.0 t (there a.0 (inl refl)) a.3 n.0 here,
          subst (AllStand c a.1) (sym (trees_listed ts))
              (all_miss b c a.1 ts a.4 (λ z u i s. miss z u (there z (inr i)) s
              (not_named name (node_name b a.0) (node_name b z) (apart.0 z i) here))),
        )
    go false is rest = (
      a.0,
      a.1,
      a.2,
      miss a.0 t (there a.0 (inl refl)) a.3 (ap (folds_same name) name_here ∙ is),
      rest,
    )

-- ---- the tree

-- Each key that is not at or below a path is the same, and where the key at the path stood the changed one stands: so
-- the tree stands with that key changed.
pub replaced_stands : (b c : Cells) (change : Tree → Tree) (path p : List (List ℕ)) (at x : ℕ) (t : Tree)
    → Stands b at t → HasApartNames t → Folds path p → Reaches b at p x
    → ((q : List (List ℕ)) (z : ℕ) → Reaches b at q z → (Extends path q → ⊥) → IsSameKey b c z)
    → ((k : Tree) → Stands b x k → HasApartNames k → Stands c x (change k)) → Stands c at (at_key path change t)
replaced_stands b c change [] [] at x t s n f r each new =
    subst (λ (z : ℕ). Stands c z (change t)) (sym r) (new t (subst (λ (z : ℕ). Stands b z t) r s) n)
replaced_stands b c change [] (m ∷ p) at x t s n f r each new = absurd f
replaced_stands b c change (name ∷ path) [] at x t s n f r each new = absurd f
replaced_stands b c change (name ∷ path) (m ∷ p) at x (key h ts) s n f r each new =
    let places = places_are b at h s.0 s.1 in
    let listed_there : (z : ℕ) → In s.0 z → In (child_places b at) z =
    λ z i. subst (λ (l : List ℕ). In l z) (sym places) i in
    let named : folds_same name (node_name b r.0) ≡ true = ap (folds_same name) r.2 ∙ f.0 in
    let one : (z : ℕ) → In s.0 z → folds_same name (node_name b z) ≡ true → r.0 ≡ z =
    λ z i e. (sound_at b at (key h ts) s n).one_child name r.0 z r.1 (listed_there z i) named e in (
      s.0,
      key_same b c at h s.0 s.1 (each [] at refl (λ e. e)),
      first_changed b c name (at_key path change) s.0 ts s.2 n.3 (keys_distinct b s.0 ts s.2 n.3 n.2)
          (λ z u i st apart e.
          let same = one z i e in
          subst (λ (w : ℕ). Stands c w (at_key path change u)) same
          (replaced_stands b c change path p r.0 x u (subst (λ (w : ℕ). Stands b w u) (sym same) st) apart f.1 r.3
          (λ q w g out. each (node_name b r.0 ∷ q) w (r.0, r.1, refl, g) (λ x. out x.1)) new))
          (λ z u i st e. tree_same b c z u st
          (λ q w g. each (node_name b z ∷ q) w (z, listed_there z i, refl, g)
          (λ x. absurd (let d : true ≡ false = sym x.0 ∙ e in cc)))),
    )

-- ---- names

-- the names of keys, in order
abbrev pub names_in : List Tree → List (List ℕ)
names_in ts = map (λ t. (head t).name) ts

-- the later of two names does not fold to the earlier
abbrev pub Unlike : List ℕ → List ℕ → Type 0
Unlike a b = folds_same b a ≡ false

pub names_differ : (ts : List Tree) → KeysDiffer ts → Pairwise Unlike (names_in ts)
names_differ ts d = from_keys ts (pairwise_from (λ a b. folds_same (head b).name (head a).name ≡ false) ts d)
  where
    from_keys : (ts : List Tree) → Pairwise (λ a b. folds_same (head b).name (head a).name ≡ false) ts
        → Pairwise Unlike (names_in ts)
    from_keys [] h = tt
    from_keys (t ∷ ts) h = (
      λ m i. let p = in_map (λ u. (head u).name) ts m i in
          subst (Unlike (head t).name) p.2 (h.0 p.0 p.1),
      from_keys ts h.1,
    )

pub keys_differ : (ts : List Tree) → Pairwise Unlike (names_in ts) → KeysDiffer ts
keys_differ ts d = pairwise_to (λ a b. folds_same (head b).name (head a).name ≡ false) ts (to_keys ts d)
  where
    to_keys : (ts : List Tree) → Pairwise Unlike (names_in ts)
        → Pairwise (λ a b. folds_same (head b).name (head a).name ≡ false) ts
    to_keys [] h = tt
    to_keys (t ∷ ts) h = (λ u i. h.0 (head u).name (in_map_from (λ w. (head w).name) ts u i), to_keys ts h.1)

-- each name has a unit
pub names_some : (ts : List Tree) → All (λ t. 0 < length (head t).name) ts → (m : List ℕ) → In (names_in ts) m
    → 0 < length m
names_some ts a m i =
    let p = in_map (λ t. (head t).name) ts m i in
    subst (λ (n : List ℕ). 0 < length n) p.2 (all_in (λ t. 0 < length (head t).name) ts p.0 a p.1)

pub some_names : (ts : List Tree) → ((m : List ℕ) → In (names_in ts) m → 0 < length m)
    → All (λ t. 0 < length (head t).name) ts
some_names ts each =
    all_from (λ t. 0 < length (head t).name) ts (λ u i. each (head u).name (in_map_from (λ w. (head w).name) ts u i))

pub have_each : (ts : Trees) (u : Tree) → HaveApartNames ts → In (listed ts) u → HasApartNames u
have_each none u h i = absurd i
have_each (more t ts) u h (inl e) = subst HasApartNames e h.0
have_each (more t ts) u h (inr i) = have_each ts u h.1 i

pub each_have : (us : List Tree) → ((u : Tree) → In us u → HasApartNames u) → HaveApartNames (trees us)
each_have [] h = tt
each_have (u ∷ us) h = (h u (inl refl), each_have us (λ w i. h w (inr i)))

pub first_names : (p : Tree → Bool) (f : Tree → Tree) (ts : List Tree)
    → ((t : Tree) → (head (f t)).name ≡ (head t).name) → names_in (at_first p f ts) ≡ names_in ts
first_names p f [] same = refl
first_names p f (t ∷ ts) same = go (p t) (first_names p f ts same)
  where
    go : (v : Bool) → names_in (at_first p f ts) ≡ names_in ts
        → names_in (cond v (f t ∷ ts) (t ∷ at_first p f ts)) ≡ names_in (t ∷ ts)
    go true rest = ap (λ (n : List ℕ). n ∷ names_in ts) (same t)
    go false rest = ap (λ (l : List (List ℕ)). (head t).name ∷ l) rest

-- what holds of each key, and of what it changes to, holds with the first changed
pub first_each : (P : Tree → Type 0) (p : Tree → Bool) (f : Tree → Tree) (ts : List Tree)
    → ((t : Tree) → In ts t → P t) → ((t : Tree) → In ts t → P t → P (f t)) → (u : Tree) → In (at_first p f ts) u
    → P u
first_each P p f [] old new u i = absurd i
first_each P p f (t ∷ ts) old new u i =
    go (p t) (λ j. first_each P p f ts (λ w k. old w (inr k)) (λ w k. new w (inr k)) u j) i
  where
    go : (v : Bool) → (In (at_first p f ts) u → P u) → In (cond v (f t ∷ ts) (t ∷ at_first p f ts)) u → P u
    go true rest (inl e) = subst P e (new t (inl refl) (old t (inl refl)))
    go true rest (inr i) = old u (inr i)
    go false rest (inl e) = subst P e (old t (inl refl))
    go false rest (inr i) = rest i

-- with its children changed a key has names apart where they have
pub apart_with : (h : Head) (ts : Trees) (us : List Tree) → HasApartNames (key h ts) → Pairwise Unlike (names_in us)
    → ((m : List ℕ) → In (names_in us) m → 0 < length m) → ((u : Tree) → In us u → HasApartNames u)
    → HasApartNames (key h (trees us))
apart_with h ts us n apart some each = (
  n.0,
  subst (All (λ t. 0 < length (head t).name)) (sym (listed_trees us)) (some_names us some),
  subst KeysDiffer (sym (listed_trees us)) (keys_differ us apart),
  each_have us each,
)

-- names are apart where the key at a path changes to one of its name
pub replaced_names : (change : Tree → Tree) (path : List (List ℕ)) (t : Tree) → HasApartNames t
    → ((k : Tree) → (head (change k)).name ≡ (head k).name)
    → ((k : Tree) → HasApartNames k → HasApartNames (change k)) → HasApartNames (at_key path change t)
replaced_names change [] t n same new = new t n
replaced_names change (name ∷ path) (key h ts) n same new =
    let names = first_names (is_named name) (at_key path change) (listed ts) (kept path) in
    apart_with h ts (at_first (is_named name) (at_key path change) (listed ts)) n
    (subst (Pairwise Unlike) (sym names) (names_differ (listed ts) n.2))
    (λ m i. names_some (listed ts) n.1 m (subst (λ (l : List (List ℕ)). In l m) names i))
    (first_each HasApartNames (is_named name) (at_key path change) (listed ts) (λ u i. have_each ts u n.3 i)
    (λ u i a. replaced_names change path u a same new))
  where
    kept : (path : List (List ℕ)) (u : Tree) → (head (at_key path change u)).name ≡ (head u).name
    kept [] u = same u
    kept (m ∷ path) (key g us) = refl

-- ---- levels

pub most_each : (us : List Tree) (m : ℕ) → ((u : Tree) → In us u → levels u ≤ m) → most_levels (trees us) ≤ m
most_each [] m h = omega arith
most_each (u ∷ us) m h = let a = h u (inl refl) in let b = most_each us m (λ w i. h w (inr i)) in omega arith

pub each_most : (ts : Trees) (u : Tree) → In (listed ts) u → levels u ≤ most_levels ts
each_most none u i = absurd i
each_most (more t ts) u (inl e) = subst (λ (w : Tree). levels w ≤ max (levels t) (most_levels ts)) e (omega arith)
each_most (more t ts) u (inr i) = let l = each_most ts u i in omega arith

-- children have no more levels than that many where the first of a name has no more when it is changed
first_low : (P : Tree → Type 0) (name : List ℕ) (path : List (List ℕ)) (f : Tree → Tree) (us : List Tree) (m : ℕ)
    → ((w : Tree) → levels w ≤ m → ((k : Tree) → find_key path w ≡ Some k → P k) → levels (f w) ≤ m)
    → ((w : Tree) → In us w → levels w ≤ m)
    → ((k : Tree) → option_and_then (find_key path) (find (is_named name) us) ≡ Some k → P k) → (u : Tree)
    → In (at_first (is_named name) f us) u → levels u ≤ m
first_low P name path f [] m deep all hit u i = absurd i
first_low P name path f (w ∷ us) m deep all hit u i =
    pick (is_named name w) refl (λ g j. first_low P name path f us m deep (λ z k. all z (inr k)) g u j) i
  where
    found : (v : Bool) → is_named name w ≡ v → (k : Tree)
        → option_and_then (find_key path) (cond v (Some w) (find (is_named name) us)) ≡ Some k → P k
    found v is k e =
        hit k (ap (λ (z : Bool). option_and_then (find_key path) (cond z (Some w) (find (is_named name) us))) is ∙ e)

    pick : (v : Bool) → is_named name w ≡ v
        → (((k : Tree) → option_and_then (find_key path) (find (is_named name) us) ≡ Some k → P k)
        → In (at_first (is_named name) f us) u → levels u ≤ m)
        → In (cond v (f w ∷ us) (w ∷ at_first (is_named name) f us)) u → levels u ≤ m
    pick true is rest (inl e) = subst (λ (z : Tree). levels z ≤ m) e (deep w (all w (inl refl)) (found true is))
    pick true is rest (inr j) = all u (inr j)
    pick false is rest (inl e) = subst (λ (z : Tree). levels z ≤ m) e (all w (inl refl))
    pick false is rest (inr j) = rest (found false is) j

-- a tree has no more levels than that many where the changed key has no more
pub replaced_levels : (change : Tree → Tree) (path : List (List ℕ)) (t : Tree) (m : ℕ) → levels t ≤ m
    → ((k : Tree) → find_key path t ≡ Some k → length path + levels (change k) ≤ m)
    → levels (at_key path change t) ≤ m
replaced_levels change [] t m low new = let l = new t refl in omega arith
replaced_levels change (name ∷ path) (key h ts) zero low new = absurd (omega arith)
replaced_levels change (name ∷ path) (key h ts) (suc m) low new =
    let l = most_each (at_first (is_named name) (at_key path change) (listed ts)) m
    (first_low (λ k. length path + levels (change k) ≤ m) name path (at_key path change) (listed ts) m
    (λ w a b. replaced_levels change path w m a b)
    (λ w j. let l = each_most ts w j in omega arith) (λ k e. let l = new k e in omega arith)) in omega arith
