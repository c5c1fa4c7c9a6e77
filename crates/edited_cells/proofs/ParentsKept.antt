-- Keys name their parents, where keys are the same, and where one is rewritten.
use Rattle.std.proofs.Common.{◌≡◌, ℕ, true, List, [], ◌∷◌, refl, sym, ◌∙◌, ap, subst, inl, inr, Ok}
use Rattle.std.specs.Prelude.{◌⊎◌}
use Rattle.std.proofs.lemmas.Bool.{cases_eq}
use Rattle.nt_bytes.specs.Folding.{folds_same}
use Rattle.hive_model.specs.Bins.{Cells}
use Rattle.hive_model.specs.KeyNode.{KeyNode, key_node_at}
use Rattle.hive_model.specs.Walk.{reading}
use Rattle.hive_model.specs.Footprint.{child_places}
use Rattle.edited_cells.specs.Owned.{node, In, node_name, Reaches, Folds, Extends}
use Rattle.edited_cells.specs.Parents.{NamesParents, IsChildOf, KeepsParent}
use Rattle.edited_cells.specs.Sound.{AllSound}
use Rattle.edited_cells.proofs.Back.{sound_below}
use Rattle.edited_cells.proofs.Same.{same_reading}
use Rattle.edited_cells.proofs.SameTree.{IsSameKey, places_kept}
use Rattle.edited_cells.proofs.Relisted.{IsNodeKept}
use Rattle.edited_cells.proofs.Revalued.{one_node}

-- a key names the parents below it where each child does so
pub children_name : (cells : Cells) (x : ℕ) → ((y : ℕ) → In (child_places cells x) y → IsChildOf cells x y)
    → NamesParents cells x
children_name cells x each = record { each = go }
  where
    go : (path : List (List ℕ)) (z y : ℕ) (n : KeyNode) → Reaches cells x path z → In (child_places cells z) y
        → reading key_node_at cells y ≡ Ok n → n.parent ≡ z
    go [] z y n h i read =
        (each y (subst (λ (o : ℕ). In (child_places cells o) y) (sym h) i)).here n read ∙ h
    go (m ∷ path) z y n h i read = (each h.0 h.1).below.each path z y n h.3 i read

pub child_names : (cells : Cells) (x y : ℕ) → NamesParents cells x → In (child_places cells x) y → IsChildOf cells x y
child_names cells x y names i = record {
  here = λ n read. names.each [] x y n refl i read;
  below = record {
    each = λ path z w n h j read. names.each (node_name cells y ∷ path) z w n (y, i, refl, h) j read;
  };
}

pub parent_kept : (b c : Cells) (x : ℕ) (k : IsNodeKept b c x) → k.new.parent ≡ k.old.parent → KeepsParent b c x
parent_kept b c x k e = record {
  each = λ m read. (
    k.old,
    k.read,
    ap (λ (n : KeyNode). n.parent) (one_node (reading key_node_at c x) m k.new read k.read_new) ∙ e,
  );
}

parent_same : (b c : Cells) (x : ℕ) → IsSameKey b c x → KeepsParent b c x
parent_same b c x s = record { each = λ m read. (m, sym (same_reading key_node_at b c x here) ∙ read, refl) }
  where
    here : c.payload x ≡ b.payload x
    here = s.same.each node x (λ z. z) refl

child_kept : (b c : Cells) (x y : ℕ) → KeepsParent b c y → (NamesParents b y → NamesParents c y) → IsChildOf b x y
    → IsChildOf c x y
child_kept b c x y keeps below child = record {
  here = λ m read. let k = keeps.each m read in k.2 ∙ child.here k.0 k.1;
  below = below child.below;
}

-- below a key whose keys are all the same the same parents are named
names_same : (b c : Cells) (y : ℕ) → ((q : List (List ℕ)) (z : ℕ) → Reaches b y q z → IsSameKey b c z)
    → NamesParents b y → NamesParents c y
names_same b c y same names = record { each = λ path z w n h i read. go path y same names z w n h i read }
  where
    listed : (y w : ℕ) → IsSameKey b c y → In (child_places c y) w → In (child_places b y) w
    listed y w s i = subst (λ (l : List ℕ). In l w) (places_kept b c y s.same) i

    go : (path : List (List ℕ)) (y : ℕ) → ((q : List (List ℕ)) (z : ℕ) → Reaches b y q z → IsSameKey b c z)
        → NamesParents b y → (z w : ℕ) (n : KeyNode) → Reaches c y path z → In (child_places c z) w
        → reading key_node_at c w ≡ Ok n → n.parent ≡ z
    go [] y same names z w n h i read =
        let j = listed y w (same [] y refl) (subst (λ (o : ℕ). In (child_places c o) w) (sym h) i) in
        let k = (parent_same b c w (same (node_name b w ∷ []) w (w, j, refl, refl))).each n read in
        k.2 ∙ (child_names b y w names j).here k.0 k.1 ∙ h
    go (m ∷ path) y same names z w n h i read =
        let j = listed y h.0 (same [] y refl) h.1 in
        go path h.0 (λ q x r. same (node_name b h.0 ∷ q) x (h.0, j, refl, r)) (child_names b y h.0 names j).below z w n
        h.3 i read

-- a child below which all is the same stays one
pub child_still : (b c : Cells) (x y : ℕ) → ((q : List (List ℕ)) (z : ℕ) → Reaches b y q z → IsSameKey b c z)
    → IsChildOf b x y → IsChildOf c x y
child_still b c x y same child =
    child_kept b c x y (parent_same b c y (same [] y refl)) (names_same b c y same) child

-- where the path leads through, parents are kept
kept_there : (b c : Cells) (path p : List (List ℕ)) (at x : ℕ) → Folds path p → Reaches b at p x
    → ((q : List (List ℕ)) (z : ℕ) → Reaches b at q z → (Extends path q → ⊥) → IsSameKey b c z)
    → KeepsParent b c x → KeepsParent b c at
kept_there b c [] [] at x f h each keeps = subst (KeepsParent b c) (sym h) keeps
kept_there b c [] (m ∷ p) at x f h each keeps = absurd f
kept_there b c (n ∷ path) [] at x f h each keeps = absurd f
kept_there b c (n ∷ path) (m ∷ p) at x f h each keeps = parent_same b c at (each [] at refl (λ z. z))

-- parents are named from the top, where the key at a path names them below it
pub named_through : (b c : Cells) (path p : List (List ℕ)) (at x : ℕ) → AllSound b at → Folds path p
    → Reaches b at p x → ((q : List (List ℕ)) (z : ℕ) → Reaches b at q z → (Extends path q → ⊥) → IsSameKey b c z)
    → KeepsParent b c x → (NamesParents b x → NamesParents c x) → NamesParents b at → NamesParents c at
named_through b c [] [] at x sound f h each keeps below names =
    subst (NamesParents c) (sym h) (below (subst (NamesParents b) h names))
named_through b c [] (m ∷ p) at x sound f h each keeps below names = absurd f
named_through b c (n ∷ path) [] at x sound f h each keeps below names = absurd f
named_through b c (n ∷ path) (m ∷ p) at x sound f h each keeps below names =
    children_name c at (λ y i. go y (subst (λ (l : List ℕ). In l y) (places_kept b c at (each [] at refl (λ z. z)).same) i)
    (cases_eq y h.0)
    (named_through b c path p h.0 x (sound_below b at h.0 h.1 sound) f.1 h.3 each_below keeps below))
  where
    named : folds_same n (node_name b h.0) ≡ true
    named = ap (folds_same n) h.2 ∙ f.0

    each_below : (q : List (List ℕ)) (z : ℕ) → Reaches b h.0 q z → (Extends path q → ⊥) → IsSameKey b c z
    each_below q z g out = each (node_name b h.0 ∷ q) z (h.0, h.1, refl, g) (λ v. out v.1)

    go : (y : ℕ) → In (child_places b at) y → (y ≡ h.0) ⊎ (y ≡ h.0 → ⊥) → (NamesParents b h.0 → NamesParents c h.0)
        → IsChildOf c at y
    go y i (inl s) deep = subst (IsChildOf c at) (sym s)
        (child_kept b c at h.0 (kept_there b c path p h.0 x f.1 h.3 each_below keeps) deep
        (child_names b at h.0 names h.1))
    go y i (inr differs) deep = child_still b c at y
        (λ q z g. each (node_name b y ∷ q) z (y, i, refl, g)
        (λ v. differs ((sound.each [] at refl).one_child n y h.0 i h.1 v.0 named)))
        (child_names b at y names i)
