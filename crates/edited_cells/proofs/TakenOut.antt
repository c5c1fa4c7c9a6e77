-- A key that went from cells step by step: what the steps show is what the law of a deleted key asks.
use Rattle.std.proofs.Common.{◌≡◌, ℕ, suc, ◌+◌, Bool, true, false, cond, List, [], ◌∷◌, ◌++◌, length, refl, sym, ◌∙◌, ap, subst, inl, inr, ⊎_elim, Some, Result, Ok}
use Rattle.std.specs.Prelude.{◌⊎◌, flat_map}
use Rattle.nt_bytes.specs.Folding.{folds_same}
use Rattle.nt_bytes.specs.declared.fault.HiveFaultKind.{HiveFaultKind}
use Rattle.nt_bytes.specs.Reading.{◌>>=◌}
use Rattle.hive_model.specs.Bins.{Cells}
use Rattle.hive_model.specs.Tree.{Tree}
use Rattle.hive_model.specs.Edit.{delete_key, after_step}
use Rattle.hive_model.specs.KeyNode.{KeyNode, key_node_at}
use Rattle.hive_model.specs.Security.{security_at}
use Rattle.hive_model.specs.Walk.{entries_checks}
use Rattle.hive_model.specs.Footprint.{used_in, key_place, child_places, security_cell_at, list_cells_at}
use Rattle.hive_model.specs.Stands.{IsWellFormed}
use Rattle.edited_cells.specs.Owned.{Role, node, class, security, value_list, value, lists, In, node_name, class_cell_at, HasRole, Reaches, IsSecurity}
use Rattle.edited_cells.specs.Framed.{IsUnheld}
use Rattle.edited_cells.specs.Pairs.{Pairwise}
use Rattle.edited_cells.specs.Revalues.{all_value_cells}
use Rattle.edited_cells.specs.Uses.{Agree, plain, secure, own_uses, tree_uses}
use Rattle.edited_cells.specs.Written.{with_part, three_numbers}
use Rattle.edited_cells.specs.Relists.{descriptor_at, IsSecurityCell, Deletes}
use Rattle.edited_cells.specs.Lists.{RemovesChild}
use Rattle.edited_cells.specs.Takes.{TakesChild}
use Rattle.edited_cells.specs.Done.{IsDone}
use Rattle.edited_cells.proofs.Ins.{in_left, in_right, in_flat_from}
use Rattle.edited_cells.proofs.Pairs.{in_map, in_map_from, pairwise_map}
use Rattle.edited_cells.proofs.Out.{IsPlaced, placed_at}
use Rattle.edited_cells.proofs.Wellformed.{first_part}
use Rattle.edited_cells.proofs.Same.{entries_used, entries_same}
use Rattle.edited_cells.proofs.Around.{above, above_is, hive_uses, hive_once, once_two, used_held}
use Rattle.edited_cells.proofs.Revalued.{folds_length, reach_on}
use Rattle.edited_cells.proofs.ChangedValues.{own_once}
use Rattle.edited_cells.proofs.OwnedUses.{secure_is, secure_there, IsOwnedBelow, use_owned}
use Rattle.edited_cells.proofs.KeySteps.{extends_past}
use Rattle.edited_cells.proofs.FromLists.{children_written}
use Rattle.edited_cells.proofs.KeyCells.{key_taken}
use Rattle.std.proofs.lemmas.Bool.{cases_eq}
use Rattle.edited_cells.proofs.Held.{entries_held}

-- ---- uses as security

-- the cells among these that are used as security
abbrev pub secured : List (ℕ × Bool) → List ℕ
secured [] = []
secured (u ∷ us) = cond u.1 (u.0 ∷ secured us) (secured us)

pub secured_to : (us : List (ℕ × Bool)) (o : ℕ) → In (secured us) o → In us (o, true)
secured_to [] o h = absurd h
secured_to (u ∷ us) o h = go u.1 refl (secured_to us o) h
  where
    go : (s : Bool) → u.1 ≡ s → (In (secured us) o → In us (o, true)) → In (cond s (u.0 ∷ secured us) (secured us)) o
        → In (u ∷ us) (o, true)
    go true e more (inl f) = inl (λ i. (f i, e i))
    go true e more (inr h) = inr (more h)
    go false e more h = inr (more h)

pub secured_from : (us : List (ℕ × Bool)) (o : ℕ) → In us (o, true) → In (secured us) o
secured_from [] o h = absurd h
secured_from (u ∷ us) o (inl e) =
    subst (λ (s : Bool). In (cond s (u.0 ∷ secured us) (secured us)) o) (sym (ap (λ (z : ℕ × Bool). z.1) e))
    (inl (ap (λ (z : ℕ × Bool). z.0) e))
secured_from (u ∷ us) o (inr h) = go u.1 (secured_from us o h)
  where
    go : (s : Bool) → In (secured us) o → In (cond s (u.0 ∷ secured us) (secured us)) o
    go true i = inr i
    go false i = i

in_or_not : (xs : List ℕ) (o : ℕ) → In xs o ⊎ (In xs o → ⊥)
in_or_not [] o = inr (λ h. h)
in_or_not (x ∷ xs) o =
    ⊎_elim (λ e. inl (inl e)) (λ no. ⊎_elim (λ i. inl (inr i)) (λ none. inr (λ h. ⊎_elim no none h)) (in_or_not xs o))
    (cases_eq x o)

-- what owns it as the walk uses it, owns it as security
has_security : (cells : Cells) (at o : ℕ) (r : Role) → HasRole cells at r o → IsSecurity r
    → In (security_cell_at cells at) o
has_security cells at o node h s = absurd s
has_security cells at o class h s = absurd s
has_security cells at o security h s = h
has_security cells at o value_list h s = absurd s
has_security cells at o (value m) h s = absurd s
has_security cells at o lists h s = absurd s

-- ---- what a key uses, the tree above it uses

pub below_used : (cells : Cells) (p : List (List ℕ)) (left at x : ℕ) (u : ℕ × Bool) → Reaches cells at p x
    → In (tree_uses left cells x) u → In (tree_uses (above p left) cells at) u
below_used cells [] left at x u h i = subst (λ (z : ℕ). In (tree_uses left cells z) u) (sym h) i
below_used cells (m ∷ p) left at x u h i =
    in_right (own_uses cells at) (flat_map (tree_uses (above p left) cells) (child_places cells at)) u
    (in_flat_from (tree_uses (above p left) cells) (child_places cells at) u h.0 h.1
    (below_used cells p left h.0 x u h.3 i))

pub hive_used : (cells : Cells) (root : ℕ) (p : List (List ℕ)) (x left : ℕ) (u : ℕ × Bool) → Reaches cells root p x
    → length p + left ≡ 512 → In (tree_uses left cells x) u → In (hive_uses cells root) u
hive_used cells root p x left u h deep i =
    subst (λ (n : ℕ). In (tree_uses n cells root) u) (above_is p left ∙ deep) (below_used cells p left root x u h i)

list_behind : (cells : Cells) (at o : ℕ) → In (list_cells_at cells at) o
    → In (plain (class_cell_at cells at)
    ++ (secure (security_cell_at cells at) ++ (plain (all_value_cells cells at) ++ plain (list_cells_at cells at))))
    (o, false)
list_behind cells at o i =
    in_right (plain (class_cell_at cells at))
    (secure (security_cell_at cells at) ++ (plain (all_value_cells cells at) ++ plain (list_cells_at cells at)))
    (o, false)
    (in_right (secure (security_cell_at cells at)) (plain (all_value_cells cells at) ++ plain (list_cells_at cells at))
    (o, false)
    (in_right (plain (all_value_cells cells at)) (plain (list_cells_at cells at)) (o, false)
    (in_map_from (λ (z : ℕ). (z, false)) (list_cells_at cells at) o i)))

list_used : (cells : Cells) (at o : ℕ) → In (list_cells_at cells at) o → In (own_uses cells at) (o, false)
list_used cells at o i = inr (list_behind cells at o i)

abbrev use_of : ℕ → Bool → ℕ × Bool
use_of o s = (o, s)

no_false : (o : ℕ) → (use_of o false ≡ use_of o true) ⊎ ((false ≡ true) × (true ≡ true)) → ⊥
no_false o (inl e) = let d : false ≡ true = ap (λ (z : ℕ × Bool). z.1) e in absurd cc
no_false o (inr e) = let d = e.0 in absurd cc

-- ---- a key is taken out

module _ (b l c : Cells) (root : ℕ) (t : Tree) (p : List (List ℕ)) (x left : ℕ) (n : KeyNode) (front back : List ℕ)
    (y list : ℕ)
    (well : IsWellFormed b root t) (reached : Reaches b root p x) (deep : length p + suc left ≡ 512)
    (g : TakesChild b l c x left n front back y list) where
  child_there : In (child_places b x) y
  child_there = subst (λ (os : List ℕ). In os y) (sym g.places) (in_right front (y ∷ back) y (inl refl))

  own_in : (u : ℕ × Bool) → In (own_uses b x) u → In (hive_uses b root) u
  own_in u i = hive_used b root p x (suc left) u reached deep
      (in_left (own_uses b x) (flat_map (tree_uses left b) (child_places b x)) u i)

  child_in : (u : ℕ × Bool) → In (tree_uses left b y) u → In (hive_uses b root) u
  child_in u i = hive_used b root p x (suc left) u reached deep
      (in_right (own_uses b x) (flat_map (tree_uses left b) (child_places b x)) u
      (in_flat_from (tree_uses left b) (child_places b x) u y child_there i))

  -- a cell is not used both as security and not
  clash : (o : ℕ) → In (hive_uses b root) (o, false) → In (hive_uses b root) (o, true) → ⊥
  clash o i j =
      no_false o (once_two (hive_uses b root) (o, false) (o, true) (hive_once b root t well.stands well.names well.once)
      i j refl)

  pub node_there : (q : List ℕ) × (b.payload x ≡ Ok q) × (key_node_at q ≡ Ok n)
  node_there = first_part (b.payload x) key_node_at n g.read

  -- ---- security

  abbrev pub recounted : List ℕ
  recounted = secured (tree_uses left b y)

  below : (o : ℕ) → In recounted o → IsOwnedBelow b y (o, true)
  below o i = use_owned left b y (o, true) (secured_to (tree_uses left b y) o i)

  counted_there : (o : ℕ) → In recounted o → IsSecurityCell b root o
  counted_there o i =
      let w = below o i in
      record {
        path = p ++ node_name b y ∷ w.path;
        key = w.owns.at;
        reached = reach_on b p (node_name b y ∷ w.path) root x w.owns.at reached (y, child_there, refl, w.owns.reached);
        uses = has_security b w.owns.at o w.role w.owns.has (secure_is w.role w.way);
      }

  descriptors : (o : ℕ) → IsSecurityCell b root o → descriptor_at c o ≡ descriptor_at b o
  descriptors o s = ⊎_elim (λ i. g.counted o (secured_to (tree_uses left b y) o i)) (λ none. same none)
      (in_or_not recounted o)
    where
      there : In (hive_uses b root) (o, true)
      there = secure_there b root t o well s

      same : (In recounted o → ⊥) → descriptor_at c o ≡ descriptor_at b o
      same none =
          let q = used_held b root t well (o, true) there in
          let listed = g.relisted o q.0 q.1 (λ i. clash o (own_in (o, false) (list_used b x o i)) there) in
          let stays = g.others o q.0 listed (λ e. clash o (own_in (o, false) (inl (λ i. (sym e i, false)))) there)
          (not_used none) in
          ap (λ (r : Result (List ℕ) HiveFaultKind). r >>= security_at >>= λ z. Ok z.descriptor) (stays ∙ sym q.1)
        where
          not_used : (In recounted o → ⊥) → (s : Bool) → In (tree_uses left b y) (o, s) → ⊥
          not_used none true i = none (secured_from (tree_uses left b y) o i)
          not_used none false i = clash o (child_in (o, false) i) there

  -- ---- the lists

  list_same : (w : ℕ) (os : List ℕ) → front ++ back ≡ w ∷ os → (o : ℕ) → In (used_in (entries_checks l list)) o
      → c.payload o ≡ l.payload o
  list_same w os e o i =
      let q = entries_held l list (front ++ back) o (g.lists w os e) i in
      g.others o q.0 q.1 (λ same. g.fresh w os e o i node_there.0 (ap b.payload same ∙ node_there.1))
      (λ s j. let h = used_held b root t well (o, s) (child_in (o, s) j) in g.fresh w os e o i h.0 h.1)
      ∙ sym q.1

  list_first : In (used_in (entries_checks l list)) list
  unfolding entries_checks
  list_first = inl refl

  uses_are : (w : ℕ) (os : List ℕ) → front ++ back ≡ w ∷ os
      → used_in (entries_checks c list) ≡ used_in (entries_checks l list)
  uses_are w os e = entries_used l c list (list_same w os e list list_first)

  pub noted : List ℕ
  noted = with_part 20 (three_numbers (length (front ++ back)) n.volatile_count list) node_there.0

  node_stays : l.payload x ≡ Ok node_there.0
  node_stays = g.relisted x node_there.0 node_there.1
      (λ i. no_node ((own_once b root t p x well reached).0 (x, false) (list_behind b x x i) refl))
    where
      no_node : (false ≡ true) × (false ≡ true) → ⊥
      no_node e = let d = e.0 in absurd cc

  pub removed : RemovesChild b c root x left n front back y noted list recounted
  unfolding noted node_there
  removed = record {
    version = g.version;
    there = g.noted node_there.0 node_stays;
    node = children_written node_there.0 n (length (front ++ back)) list node_there.2 g.few g.small g.volatile;
    lists = λ w os e. entries_same l c list (list_same w os e) ∙ g.lists w os e;
    others = λ o r held nx nl ng nc. g.others o r (g.relisted o r held nl) nx ng;
    counted_are = counted_there;
    security = descriptors;
    fresh = λ w os e u i.
        let m = in_map (λ (z : ℕ). (z, false)) (used_in (entries_checks c list)) u i in
        subst (IsUnheld b) (ap (λ (z : ℕ × Bool). z.0) m.2)
        (g.fresh w os e m.0 (subst (λ (os : List ℕ). In os m.0) (uses_are w os e) m.1));
    once = λ w os e.
        pairwise_map (λ u v. u ≡ v → ⊥) Agree (λ (o : ℕ). (o, false)) (used_in (entries_checks c list))
        (λ u v i j differ same. absurd (differ same))
        (subst (Pairwise (λ u v. u ≡ v → ⊥)) (sym (uses_are w os e)) (g.once w os e));
  }

  pub deleted : (parent : List (List ℕ)) (name : List ℕ) → Rattle.edited_cells.specs.Owned.Folds parent p
      → folds_same name (node_name b y) ≡ true
      → Deletes b root parent name y recounted
  unfolding counted_there
  deleted parent name folds named = record {
    named = named;
    count = λ o i.
        let w = below o i in
        let s = counted_there o i in (
          s.path,
          extends_past parent p name (node_name b y) w.path folds named,
          record { at = s.key; reached = s.reached; has = s.uses },
        );
  }

pub key_taken_out : (b l c : Cells) (root : ℕ) (t u : Tree) (parent : List (List ℕ)) (name : List ℕ) (x y left list : ℕ)
    (n : KeyNode) (front back : List ℕ) → IsWellFormed b root t → after_step (delete_key (parent ++ name ∷ [])) t ≡ Ok u
    → key_place b parent root ≡ Some x → length parent + suc left ≡ 512 → folds_same name (node_name b y) ≡ true
    → TakesChild b l c x left n front back y list → IsDone b c root t u (delete_key (parent ++ name ∷ []))
key_taken_out b l c root t u parent name x y left list n front back well ok at deep named g =
    let w : IsPlaced b root parent x = placed_at b parent root x at in
    let stored : length w.stored + suc left ≡ 512 =
    (let f = folds_length parent w.stored w.folds in ap (λ (m : ℕ). m + suc left) (sym f) ∙ deep) in
    key_taken b c root t u parent name x left n well at g.read deep front back y
    (noted b l c root t w.stored x left n front back y list well w.reached stored g) list
    (recounted b l c root t w.stored x left n front back y list well w.reached stored g) ok g.places
    (deleted b l c root t w.stored x left n front back y list well w.reached stored g parent name w.folds named)
    (removed b l c root t w.stored x left n front back y list well w.reached stored g)
