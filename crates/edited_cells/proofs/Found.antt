-- The key at a path in the tree and in the cells, and trees that are changed there alike.
use Rattle.std.proofs.Common.{◌≡◌, ℕ, Bool, true, false, cond, List, [], ◌∷◌, refl, sym, ◌∙◌, ap, subst, inl, inr, Some}
use Rattle.std.specs.Prelude.{find, option_and_then}
use Rattle.nt_bytes.specs.Folding.{folds_same}
use Rattle.hive_model.specs.Bins.{Cells}
use Rattle.hive_model.specs.Tree.{Tree, Trees, key, none, more, trees, listed, is_named, find_key}
use Rattle.hive_model.specs.Edit.{at_first, at_key}
use Rattle.hive_model.specs.Stands.{Stands, AllStand, HasApartNames}
use Rattle.hive_model.specs.Footprint.{child_places}
use Rattle.edited_cells.specs.Owned.{In, node_name, Reaches, Folds}
use Rattle.edited_cells.proofs.Ins.{found_in}
use Rattle.edited_cells.proofs.Wellformed.{places_are, tree_name, sound_at}
use Rattle.edited_cells.proofs.Replaced.{have_each}

-- ---- found where it stands

-- the first child of a name, and where it stands
record IsChild (cells : Cells) (name : List ℕ) (offsets : List ℕ) (ts : Trees) : Type 0 where
  tree : Tree
  found : find (is_named name) (listed ts) ≡ Some tree
  place : ℕ
  listed_there : In offsets place
  stands : Stands cells place tree

first_child : (cells : Cells) (name : List ℕ) (offsets : List ℕ) (ts : Trees) (y : ℕ) → AllStand cells offsets ts
    → In offsets y → folds_same name (node_name cells y) ≡ true → IsChild cells name offsets ts
first_child cells name offsets none y e h f = absurd (subst (λ (l : List ℕ). In l y) e h)
first_child cells name offsets (more t ts) y a h f =
    go (is_named name t) refl (subst (λ (l : List ℕ). In l y) a.2 h) (λ i. first_child cells name a.1 ts y a.4 i f)
  where
    here : (o : ℕ) → In (a.0 ∷ a.1) o → In offsets o
    here o i = subst (λ (l : List ℕ). In l o) (sym a.2) i

    found_by : (v : Bool) (u : Tree) → is_named name t ≡ v
        → cond v (Some t) (find (is_named name) (listed ts)) ≡ Some u
        → find (is_named name) (listed (more t ts)) ≡ Some u
    found_by v u is e = ap (λ (w : Bool). cond w (Some t) (find (is_named name) (listed ts))) is ∙ e

    go : (v : Bool) → is_named name t ≡ v → In (a.0 ∷ a.1) y → (In a.1 y → IsChild cells name a.1 ts)
        → IsChild cells name offsets (more t ts)
    go true is i deep =
        record {
          tree = t;
          found = found_by true t is refl;
          place = a.0;
          listed_there = here a.0 (inl refl);
          stands = a.3;
        }
    go false is (inl e) deep =
        absurd (let n : is_named name t ≡ true = ap (folds_same name) (sym (tree_name cells a.0 t a.3))
        ∙ ap (λ (o : ℕ). folds_same name (node_name cells o)) e ∙ f in
        let d : true ≡ false = sym n ∙ is in cc)
    go false is (inr i) deep =
        let d = deep i in record {
          tree = d.tree;
          found = found_by false d.tree is d.found;
          place = d.place;
          listed_there = here d.place (inr d.listed_there);
          stands = d.stands;
        }

-- the key that a path leads to, in the tree and in the cells
pub record IsThere (cells : Cells) (path : List (List ℕ)) (x : ℕ) (t : Tree) : Type 0 where
  pub tree : Tree
  pub found : find_key path t ≡ Some tree
  pub stands : Stands cells x tree
  pub names : HasApartNames tree

-- where a path leads in the cells, the key that it leads to in the tree stands
pub found_there : (cells : Cells) (path p : List (List ℕ)) (at x : ℕ) (t : Tree) → Stands cells at t → HasApartNames t
    → Folds path p → Reaches cells at p x → IsThere cells path x t
found_there cells [] [] at x t s n f r =
    record { tree = t; found = refl; stands = subst (λ (z : ℕ). Stands cells z t) r s; names = n }
found_there cells [] (m ∷ p) at x t s n f r = absurd f
found_there cells (name ∷ path) [] at x t s n f r = absurd f
found_there cells (name ∷ path) (m ∷ p) at x (key h ts) s n f r =
    let places = places_are cells at h s.0 s.1 in
    let named : folds_same name (node_name cells r.0) ≡ true = ap (folds_same name) r.2 ∙ f.0 in
    let c = first_child cells name s.0 ts r.0 s.2 (subst (λ (l : List ℕ). In l r.0) places r.1) named in
    let there : In (child_places cells at) c.place = subst (λ (l : List ℕ). In l c.place) (sym places) c.listed_there in
    let one = found_in (is_named name) (listed ts) c.tree c.found in
    let named_there : folds_same name (node_name cells c.place) ≡ true =
    ap (folds_same name) (tree_name cells c.place c.tree c.stands) ∙ one.1 in
    let same : c.place ≡ r.0 =
    (sound_at cells at (key h ts) s n).one_child name c.place r.0 there r.1 named_there named in
    let deep = found_there cells path p r.0 x c.tree (subst (λ (z : ℕ). Stands cells z c.tree) same c.stands)
    (have_each ts c.tree n.3 one.0) f.1 r.3 in
    record {
      tree = deep.tree;
      found = ap (option_and_then (find_key path)) c.found ∙ deep.found;
      stands = deep.stands;
      names = deep.names;
    }

-- ---- changed alike

first_alike : (name : List ℕ) (path : List (List ℕ)) (k : Tree) (f g : Tree → Tree) (us : List Tree)
    → ((w : Tree) → find_key path w ≡ Some k → f w ≡ g w)
    → option_and_then (find_key path) (find (is_named name) us) ≡ Some k
    → at_first (is_named name) f us ≡ at_first (is_named name) g us
first_alike name path k f g [] same e = refl
first_alike name path k f g (w ∷ us) same e = go (is_named name w) refl (λ d. first_alike name path k f g us same d)
  where
    by : (v : Bool) → is_named name w ≡ v
        → option_and_then (find_key path) (cond v (Some w) (find (is_named name) us)) ≡ Some k
    by v is =
        ap (λ (z : Bool). option_and_then (find_key path) (cond z (Some w) (find (is_named name) us))) (sym is) ∙ e

    go : (v : Bool) → is_named name w ≡ v
        → (option_and_then (find_key path) (find (is_named name) us) ≡ Some k
        → at_first (is_named name) f us ≡ at_first (is_named name) g us)
        → cond v (f w ∷ us) (w ∷ at_first (is_named name) f us) ≡ cond v (g w ∷ us) (w ∷ at_first (is_named name) g us)
    go true is deep = ap (λ (z : Tree). z ∷ us) (same w (by true is))
    go false is deep = ap (λ (l : List Tree). w ∷ l) (deep (by false is))

-- two changes that make the same of the key at a path make the same of the tree
pub changed_alike : (f g : Tree → Tree) (path : List (List ℕ)) (t k : Tree) → find_key path t ≡ Some k → f k ≡ g k
    → at_key path f t ≡ at_key path g t
changed_alike f g [] t k e same = let one : t ≡ k = some_one t k e in ap f one ∙ same ∙ ap g (sym one)
  where
    some_one : (a b : Tree) → Some a ≡ Some b → a ≡ b
    some_one a b e = cc
changed_alike f g (name ∷ path) (key h ts) k e same =
    ap (λ (us : List Tree). key h (trees us))
    (first_alike name path k (at_key path f) (at_key path g) (listed ts) (λ w d. changed_alike f g path w k d same)
    e)
