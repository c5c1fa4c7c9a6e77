-- Children of a key without one of them, and with one more.
use Rattle.std.proofs.Common.{◌≡◌, ℕ, ◌<◌, Bool, true, false, cond, List, [], ◌∷◌, ◌++◌, length, map, refl, sym, ◌∙◌, ap, subst, inl, inr, ⊎_elim}
use Rattle.std.specs.Prelude.{◌⊎◌}
use Rattle.std.specs.Ordering.{is_gt}
use Rattle.nt_bytes.specs.Folding.{folds_same, folded_order}
use Rattle.hive_model.specs.Bins.{Cells}
use Rattle.hive_model.specs.Tree.{Tree, Trees, key, trees, listed, Head, head, is_named}
use Rattle.hive_model.specs.Edit.{at_first, without_first, of_children, at_key, placed, without_key}
use Rattle.hive_model.specs.Stands.{Stands, AllStand, HasApartNames}
use Rattle.edited_cells.specs.Owned.{In, node_name}
use Rattle.edited_cells.specs.Pairs.{Pairwise}
use Rattle.edited_cells.specs.Relists.{StandsBefore}
use Rattle.edited_cells.proofs.Ins.{in_left, in_right, in_cases}
use Rattle.edited_cells.proofs.Pairs.{InParts, pairwise_parts, pairwise_join, in_map, in_map_from}
use Rattle.edited_cells.proofs.Patch.{folds_itself}
use Rattle.edited_cells.proofs.Wellformed.{both_fold, tree_name}
use Rattle.edited_cells.proofs.Replaced.{Unlike, names_in, names_differ, names_some, have_each}
use Rattle.edited_cells.proofs.ChildrenColumn.{AreSiblings}

-- a key goes from the children of the one above it
pub without_at : (parent : List (List ℕ)) (name : List ℕ) (t : Tree)
    → without_key (parent ++ name ∷ []) t ≡ at_key parent (of_children (without_first (is_named name))) t
without_at [] name t = refl
without_at (m ∷ []) name t =
    ap (λ (f : Tree → Tree). of_children (at_first (is_named m) f) t) (λ i u. without_at [] name u i)
without_at (m ∷ n ∷ parent) name t =
    ap (λ (f : Tree → Tree). of_children (at_first (is_named m) f) t) (λ i u. without_at (n ∷ parent) name u i)

pub without_behind : (p : Tree → Bool) (before behind : List Tree) (u : Tree) → ((w : Tree) → In before w → p w ≡ false)
    → p u ≡ true → without_first p (before ++ u ∷ behind) ≡ before ++ behind
without_behind p [] behind u apart is = ap (λ (b : Bool). cond b behind (u ∷ without_first p behind)) is
without_behind p (w ∷ before) behind u apart is =
    ap (λ (b : Bool). cond b (before ++ u ∷ behind) (w ∷ without_first p (before ++ u ∷ behind))) (apart w (inl refl))
    ∙ ap (λ (l : List Tree). w ∷ l) (without_behind p before behind u (λ z i. apart z (inr i)) is)

pub names_append : (us vs : List Tree) → names_in (us ++ vs) ≡ names_in us ++ names_in vs
names_append [] vs = refl
names_append (u ∷ us) vs = ap (λ (l : List (List ℕ)). (head u).name ∷ l) (names_append us vs)

-- the one key that is at one place
pub one_tree : (cells : Cells) (y : ℕ) (us : List Tree) → AllStand cells (y ∷ []) (trees us)
    → (u : Tree) × (us ≡ u ∷ []) × Stands cells y u
one_tree cells y [] a = absurd (let d : y ∷ [] ≡ [] = a in cc)
one_tree cells y (u ∷ us) a = (
  u,
  ap (λ (l : List Tree). u ∷ l)
      (none_left us (subst (λ (l : List ℕ). AllStand cells l (trees us)) (sym (rest y a.0 [] a.1 a.2).1) a.4)),
  subst (λ (o : ℕ). Stands cells o u) (sym (rest y a.0 [] a.1 a.2).0) a.3,
)
  where
    rest : (x y : ℕ) (xs ys : List ℕ) → x ∷ xs ≡ y ∷ ys → (x ≡ y) × (xs ≡ ys)
    rest x y xs ys e = (cc, cc)

    none_left : (us : List Tree) → AllStand cells [] (trees us) → us ≡ []
    none_left [] a = refl
    none_left (w ∷ us) a = absurd (let d : [] ≡ a.0 ∷ a.1 = a.2 in cc)

-- what holds of the names of a whole list of keys holds without a part of it
pub siblings_left : (before went behind : List Tree) (hd : Head) (ts : Trees) → listed ts ≡ before ++ (went ++ behind)
    → HasApartNames (key hd ts) → AreSiblings (before ++ ([] ++ behind))
siblings_left before went behind hd ts whole n = record {
  apart = subst (Pairwise Unlike) (sym (names_append before behind))
      (pairwise_join Unlike (names_in before) (names_in behind) (record {
        left = one.left;
        right = two.right;
        across = λ a b i j. one.across a b i (in_right (names_in went) (names_in behind) b j);
      }));
  named = λ m i. let p = in_map (λ w. (head w).name) (before ++ behind) m i in
      names_some (listed ts) n.1 m
      (subst (In (names_in (listed ts))) p.2 (in_map_from (λ w. (head w).name) (listed ts) p.0 (old p.0 p.1)));
  each = λ u i. have_each ts u n.3 (old u i);
}
  where
    old : (u : Tree) → In (before ++ behind) u → In (listed ts) u
    old u i = subst (λ (l : List Tree). In l u) (sym whole)
        (⊎_elim (λ j. in_left before (went ++ behind) u j)
        (λ j. in_right before (went ++ behind) u (in_right went behind u j)) (in_cases before behind u i))

    all : Pairwise Unlike (names_in before ++ (names_in went ++ names_in behind))
    all =
        subst (Pairwise Unlike) (ap names_in whole ∙ names_append before (went ++ behind)
        ∙ ap (λ (l : List (List ℕ)). names_in before ++ l) (names_append went behind))
        (names_differ (listed ts) n.2)

    one : InParts Unlike (names_in before) (names_in went ++ names_in behind)
    one = pairwise_parts Unlike (names_in before) (names_in went ++ names_in behind) all

    two : InParts Unlike (names_in went) (names_in behind)
    two = pairwise_parts Unlike (names_in went) (names_in behind) one.right

pub placed_between : (u : Tree) (before behind : List Tree)
    → ((w : Tree) → In before w → is_gt (folded_order (head w).name (head u).name) ≡ false)
    → StandsBefore (head u).name (names_in behind) → placed u (before ++ behind) ≡ before ++ u ∷ behind
placed_between u [] [] small great = refl
placed_between u [] (w ∷ behind) small great = ap (λ (b : Bool). cond b (u ∷ w ∷ behind) (w ∷ placed u behind)) great
placed_between u (w ∷ before) behind small great =
    ap (λ (b : Bool). cond b (u ∷ w ∷ (before ++ behind)) (w ∷ placed u (before ++ behind))) (small w (inl refl))
    ∙ ap (λ (l : List Tree). w ∷ l) (placed_between u before behind (λ z i. small z (inr i)) great)

folds_back : (a b : List ℕ) → folds_same a b ≡ false → folds_same b a ≡ false
folds_back a b e = go (folds_same b a) refl
  where
    go : (v : Bool) → folds_same b a ≡ v → folds_same b a ≡ false
    go false f = f
    go true f =
        absurd (let g : folds_same a b ≡ true = both_fold b a b f (folds_itself b) in
        let d : true ≡ false = sym g ∙ e in cc)

-- with one more key of a new name names are still apart
pub siblings_more : (before behind : List Tree) (u : Tree) (hd : Head) (ts : Trees) → listed ts ≡ before ++ behind
    → HasApartNames (key hd ts) → HasApartNames u → 0 < length (head u).name
    → ((w : Tree) → In (listed ts) w → folds_same (head u).name (head w).name ≡ false)
    → AreSiblings (before ++ (u ∷ [] ++ behind))
siblings_more before behind u hd ts whole n nu some fresh = record {
  apart = subst (Pairwise Unlike) (sym (names_append before (u ∷ behind)))
      (pairwise_join Unlike (names_in before) ((head u).name ∷ names_in behind) (record {
        left = one.left;
        right = (
          λ m i. let p = in_map (λ w. (head w).name) behind m i in
              subst (λ (z : List ℕ). folds_same z (head u).name ≡ false) p.2
              (folds_back (head u).name (head p.0).name (fresh p.0 (there p.0 (in_right before behind p.0 p.1)))),
          one.right,
        );
        across = λ a m i j. ⊎_elim
            (λ (e : (head u).name ≡ m). let p = in_map (λ w. (head w).name) before a i in
            subst (λ (z : List ℕ). folds_same m z ≡ false) p.2
            (subst (λ (z : List ℕ). folds_same z (head p.0).name ≡ false) e
            (fresh p.0 (there p.0 (in_left before behind p.0 p.1)))))
            (λ (k : In (names_in behind) m). one.across a m i k) j;
      }));
  named = λ m i. let p = in_map (λ w. (head w).name) (before ++ u ∷ behind) m i in
      subst (λ (z : List ℕ). 0 < length z) p.2 (name_of p.0 (in_cases before (u ∷ behind) p.0 p.1));
  each = λ w i. key_of w (in_cases before (u ∷ behind) w i);
}
  where
    there : (w : Tree) → In (before ++ behind) w → In (listed ts) w
    there w i = subst (λ (l : List Tree). In l w) (sym whole) i

    all : Pairwise Unlike (names_in before ++ names_in behind)
    all = subst (Pairwise Unlike) (ap names_in whole ∙ names_append before behind) (names_differ (listed ts) n.2)

    one : InParts Unlike (names_in before) (names_in behind)
    one = pairwise_parts Unlike (names_in before) (names_in behind) all

    old_name : (w : Tree) → In (before ++ behind) w → 0 < length (head w).name
    old_name w i =
        names_some (listed ts) n.1 (head w).name (in_map_from (λ z. (head z).name) (listed ts) w (there w i))

    name_of : (w : Tree) → In before w ⊎ ((u ≡ w) ⊎ In behind w) → 0 < length (head w).name
    name_of w (inl i) = old_name w (in_left before behind w i)
    name_of w (inr (inl e)) = subst (λ (z : Tree). 0 < length (head z).name) e some
    name_of w (inr (inr i)) = old_name w (in_right before behind w i)

    key_of : (w : Tree) → In before w ⊎ ((u ≡ w) ⊎ In behind w) → HasApartNames w
    key_of w (inl i) = have_each ts w n.3 (there w (in_left before behind w i))
    key_of w (inr (inl e)) = subst HasApartNames e nu
    key_of w (inr (inr i)) = have_each ts w n.3 (there w (in_right before behind w i))

-- the names of keys that stand are those of their nodes
pub names_stand : (cells : Cells) (offsets : List ℕ) (us : List Tree) → AllStand cells offsets (trees us)
    → names_in us ≡ map (node_name cells) offsets
names_stand cells offsets [] a = ap (map (node_name cells)) (sym a)
names_stand cells offsets (u ∷ us) a =
    ap (λ (l : List (List ℕ)). (head u).name ∷ l) (names_stand cells a.1 us a.4)
    ∙ ap (λ (m : List ℕ). m ∷ map (node_name cells) a.1) (sym (tree_name cells a.0 u a.3))
    ∙ ap (map (node_name cells)) (sym a.2)

pub nothing_in : (cells : Cells) (us : List Tree) → AllStand cells [] (trees us) → us ≡ []
nothing_in cells [] a = refl
nothing_in cells (w ∷ us) a = absurd (let d : [] ≡ a.0 ∷ a.1 = a.2 in cc)

-- A key gets a child: the cells are well-formed with the tree that has it before the first whose name folds greater,
