-- The same vertices of a part and of the whole, and the edges from entries.
use Rattle.std.proofs.Common.{◌≡◌, ◌⊎◌, ◌<◌, ℕ, ◌+◌, Bool, true, false, not, ◌&&◌, cond, List, ◌++◌, length, get_or, slice_get, Option, Some, None, refl, sym, ap, subst, ◌∙◌, inl, inr}
use Rattle.std.specs.Prelude.{Contains, filter}
use Rattle.std.specs.Option.{is_some, option_map, option_or, option_to_list}
use Rattle.std.specs.List.{filter_map, flat_map}
use Rattle.std.proofs.lemmas.Bool.{false≢true, cases_Bool, and_parts}
use Rattle.std.proofs.lemmas.List.Elements.{Contains-append_left, Contains-append_right, Contains-append_cases}
use Rattle.std.proofs.lemmas.Option.{same_Some, slice_get-get_or}
use Rattle.nt_bytes.specs.Folding.{folds_same}
use Rattle.dependencies.proofs.MeetLemmas.{names_flip}
use Rattle.start_model.specs.Entries.{Entry}
use Rattle.start_model.specs.Order.{first_names}
use Rattle.service_control.proofs.LeanLemmas.{folds_itself}
use Rattle.service_control.proofs.LeastLemmas.{from}
use Rattle.check_laws.proofs.CycleLaws.{flat_in}
use Rattle.check_laws.proofs.RowLemmas.{first_sub}
use Rattle.check_laws.proofs.TakenLemmas.{mapped_on, item_here, item_place}
use Rattle.why_needs.specs.declared.why_state.views.ViewedRun.{ViewedRun}
use Rattle.why_needs.specs.why_state.Views.{names_of}
use Rattle.why_needs.specs.why_state.States.{place_in}
use Rattle.answer_lines.specs.declared.graph_lines.graph.NodeKind.{NodeKind}
use Rattle.answer_lines.specs.declared.graph_lines.graph.NodeKind.TheVariants as kinds
use Rattle.answer_lines.specs.declared.graph_lines.graph.GraphNode.{GraphNode}
use Rattle.graph_rule.specs.Nodes.{entry_node, missing_node}
use Rattle.graph_rule.specs.Rows.{missing_names, group_names, parts_by, name_vertex, group_vertex, entry_row, nodes_of}
use Rattle.graph_rule.specs.Shown.{is_entry}
use Rattle.graph_laws.specs.node_laws.Parts.{is_missing, as_asked, IsSameVertex}
use Rattle.graph_laws.proofs.EdgeLemmas.{place_is, both_fold}
use Rattle.graph_laws.proofs.EntryLemmas.{first_apart}
use Rattle.graph_laws.proofs.GroupLemmas.{mapped}
use Rattle.graph_laws.proofs.MissingLemmas.{place_of, given, given_folds, found_old, given_in, Given, Added, given_from}
use Rattle.graph_laws.proofs.VertexLemmas.{group, entry_at, missing_at, group_at, Stands, stands, one_vertex}

-- ---- nodes

missing_kind : (k : NodeKind) → is_missing k ≡ true → kinds.Missing ≡ k
missing_kind kinds.Entry is = absurd (false≢true is)
missing_kind kinds.Missing is = refl
missing_kind kinds.Group is = absurd (false≢true is)

-- a node and what it is where the name is asked for have one kind, and names that fold as one
pub asked_like : (name : List ℕ) (n : GraphNode)
    → ((as_asked name n).kind ≡ n.kind) × (folds_same n.name (as_asked name n).name ≡ true)
asked_like name n = by (is_missing n.kind && folds_same name n.name) refl
  where
    by : (b : Bool) → (is_missing n.kind && folds_same name n.name) ≡ b
        → ((cond b (missing_node name) n).kind ≡ n.kind) × (folds_same n.name (cond b (missing_node name) n).name ≡ true)
    by true is =
        let both = and_parts (is_missing n.kind) (folds_same name n.name) is in
        (missing_kind n.kind both.0, names_flip n.name name ∙ both.1)
    by false is = (refl, folds_itself n.name)

asked_missing : (name x : List ℕ) → missing_node (given name x) ≡ as_asked name (missing_node x)
asked_missing name x = by (folds_same name x)
  where
    by : (b : Bool) → missing_node (cond b name x) ≡ cond b (missing_node name) (missing_node x)
    by true = refl
    by false = refl

-- ---- what a list gives

-- where the one function gives something of an item, the other gives what R joins to it
abbrev Moves : (ℕ → ℕ → Type 0) → (List ℕ → Option ℕ) → (List ℕ → Option ℕ) → List (List ℕ) → Type 0
Moves R f g xs = (x : List ℕ) → Contains xs x → (v : ℕ) → f x ≡ Some v → (t : ℕ) × (g x ≡ Some t) × R v t

moved : (R : ℕ → ℕ → Type 0) (f g : List ℕ → Option ℕ) (xs : List (List ℕ)) → Moves R f g xs
    → (v : ℕ) → Contains (filter_map f xs) v → (t : ℕ) × Contains (filter_map g xs) t × R v t
moved R f g xs moves v c =
    let a = from f xs v c in
    let m = moves a.item a.there v a.is in
    (m.0, mapped_on g xs a.item m.0 a.there m.1, m.2)

both_moved : (R : ℕ → ℕ → Type 0) (f g h k : List ℕ → Option ℕ) (xs ys : List (List ℕ)) → Moves R f g xs → Moves R h k ys
    → (v : ℕ) → Contains (filter_map f xs ++ filter_map h ys) v
    → (t : ℕ) × Contains (filter_map g xs ++ filter_map k ys) t × R v t
both_moved R f g h k xs ys front behind v c = elim (Contains-append_cases (filter_map f xs) (filter_map h ys) v c) [
  | inl i ↦ (let m = moved R f g xs front v i in
      (m.0, Contains-append_left (filter_map g xs) (filter_map k ys) m.0 m.1, m.2))
  | inr i ↦ (let m = moved R h k ys behind v i in
      (m.0, Contains-append_right (filter_map g xs) (filter_map k ys) m.0 m.1, m.2))
]

module _ (r : ViewedRun) (name : List ℕ) (es : List Entry) where
  abbrev whole : List GraphNode
  whole = nodes_of (parts_by r None es)

  abbrev part : List GraphNode
  part = nodes_of (parts_by r (Some name) es)

  abbrev Same : ℕ → ℕ → Type 0
  Same = IsSameVertex whole part name

  abbrev names : List (List ℕ)
  names = names_of es

  abbrev others : List (List ℕ)
  others = flat_map (λ (e : Entry). e.services) es

  abbrev old : List (List ℕ)
  old = missing_names es (names_of es) None

  abbrev new : List (List ℕ)
  new = missing_names es (names_of es) (Some name)

  abbrev groups : List (List ℕ)
  groups = group_names es

  -- ---- the same vertices

  pub same_entry : (v : ℕ) (e : Entry) → slice_get es v ≡ Some e → Same v v
  same_entry v e at = record {
    node = entry_node r e;
    in_whole = entry_at r None es v e at;
    in_part = entry_at r (Some name) es v e at;
    place = λ is. refl;
  }

  same_missing : (k l : ℕ) (x y : List ℕ) → slice_get old k ≡ Some x → slice_get new l ≡ Some y → given name x ≡ y
      → Same (length names + k) (length names + l)
  same_missing k l x y at to is = record {
    node = missing_node x;
    in_whole = missing_at r None es k x at;
    in_part = missing_at r (Some name) es l y to
        ∙ ap (λ (n : GraphNode). Some n) (ap missing_node (sym is) ∙ asked_missing name x);
    place = λ is. absurd (false≢true is);
  }

  same_group : (k : ℕ) (x : List ℕ) → slice_get groups k ≡ Some x
      → Same (length names + length old + k) (length names + length new + k)
  same_group k x at = record {
    node = group r None es x;
    in_whole = group_at r None es k x at;
    in_part = group_at r (Some name) es k x at;
    place = λ is. absurd (false≢true is);
  }

  pub one_in_part : (u v w : ℕ) → Same u v → Same u w → v ≡ w
  one_in_part u v w a b = elim (cases_Bool (is_entry a.node.kind)) [
    | inl on ↦ sym (a.place on) ∙ b.place (ap (λ (n : GraphNode). is_entry n.kind) (sym one) ∙ on)
    | inr off ↦ one_vertex r (Some name) es v w (as_asked name a.node) (as_asked name a.node) a.in_part
        (b.in_part ∙ ap (λ (n : GraphNode). Some (as_asked name n)) (sym one)) refl
        (ap is_entry (asked_like name a.node).0 ∙ off) (folds_itself (as_asked name a.node).name)
  ]
    where
      one : a.node ≡ b.node
      one = same_Some a.node b.node (sym a.in_whole ∙ b.in_whole)

  pub one_in_whole : (u v w : ℕ) → Same u w → Same v w → u ≡ v
  one_in_whole u v w a b = elim (cases_Bool (is_entry a.node.kind)) [
    | inl on ↦ a.place on ∙ sym (b.place (ap is_entry (sym kind) ∙ on))
    | inr off ↦ one_vertex r None es u v a.node b.node a.in_whole b.in_whole kind off
        (both_fold a.node.name b.node.name (as_asked name b.node).name
        (ap (λ (n : GraphNode). folds_same a.node.name n.name) (sym one) ∙ (asked_like name a.node).1)
        (asked_like name b.node).1)
  ]
    where
      one : as_asked name a.node ≡ as_asked name b.node
      one = same_Some (as_asked name a.node) (as_asked name b.node) (sym a.in_part ∙ b.in_part)

      kind : a.node.kind ≡ b.node.kind
      kind = sym (asked_like name a.node).0 ∙ ap (λ (n : GraphNode). n.kind) one ∙ (asked_like name b.node).0

  -- the missing name of the part as which one of the whole is spelled
  spelled : (k : ℕ) (x : List ℕ) → slice_get old k ≡ Some x → (l : ℕ) × (slice_get new l ≡ Some (given name x))
  spelled k x at = item_place new (given name x) (given_in names others name x (item_here old k x at))

  pub each : (u : ℕ) → u < length whole → (v : ℕ) × Same u v
  each u lt = by (stands r None es u (get_or whole u (missing_node name)) (slice_get-get_or whole u (missing_node name) lt))
    where
      by : Stands r None es u (get_or whole u (missing_node name)) → (v : ℕ) × Same u v
      by (inl x) = (u, same_entry u x.0 x.1)
      by (inr (inl x)) =
          let l = spelled x.k x.x x.at in (
            length names + l.0,
            subst (λ (n : ℕ). Same n (length names + l.0)) x.place (same_missing x.k l.0 x.x (given name x.x) x.at l.1 refl),
          )
      by (inr (inr x)) =
          (length names + length new + x.k, subst (λ (n : ℕ). Same n (length names + length new + x.k)) x.place (same_group x.k x.x x.at))

  -- a missing vertex of the part, of a name that no missing one of the whole folds as
  pub record IsAdded (v : ℕ) : Type 0 where
    pub node : slice_get part v ≡ Some (missing_node name)
    pub new : (u : ℕ) (n : GraphNode) → slice_get whole u ≡ Some n → is_missing n.kind ≡ true → folds_same name n.name ≡ false

  added : (l : ℕ) (y : List ℕ) → slice_get new l ≡ Some y → Added names others name y → IsAdded (length names + l)
  added l y at a = record {
    node = missing_at r (Some name) es l y at ∙ ap (λ (x : List ℕ). Some (missing_node x)) a.0;
    new = λ u n is missing. by u n (stands r None es u n is) missing;
  }
    where
      by : (u : ℕ) (n : GraphNode) → Stands r None es u n → is_missing n.kind ≡ true → folds_same name n.name ≡ false
      by u n (inl x) missing = absurd (false≢true (ap (λ (z : GraphNode). is_missing z.kind) x.2 ∙ missing))
      by u n (inr (inl x)) missing =
          ap (λ (z : GraphNode). folds_same name z.name) (sym x.is) ∙ a.1 x.x (item_here old x.k x.x x.at)
      by u n (inr (inr x)) missing = absurd (false≢true (ap (λ (z : GraphNode). is_missing z.kind) x.is ∙ missing))

  pub only : (v : ℕ) → v < length part → ((u : ℕ) × Same u v) ⊎ IsAdded v
  only v lt =
      by (stands r (Some name) es v (get_or part v (missing_node name)) (slice_get-get_or part v (missing_node name) lt))
    where
      old_or_added : (l : ℕ) (y : List ℕ) → slice_get new l ≡ Some y → Given names others name y ⊎ Added names others name y
          → ((u : ℕ) × Same u (length names + l)) ⊎ IsAdded (length names + l)
      old_or_added l y at (inl x) =
          let k = item_place old x.0 x.1 in inl (length names + k.0, same_missing k.0 l x.0 y k.1 at x.2)
      old_or_added l y at (inr a) = inr (added l y at a)

      by : Stands r (Some name) es v (get_or part v (missing_node name)) → ((u : ℕ) × Same u v) ⊎ IsAdded v
      by (inl x) = inl (v, same_entry v x.0 x.1)
      by (inr (inl x)) =
          subst (λ (n : ℕ). ((u : ℕ) × Same u n) ⊎ IsAdded n) x.place
          (old_or_added x.k x.x x.at (given_from names others name x.x (item_here new x.k x.x x.at)))
      by (inr (inr x)) =
          inl (length names + length old + x.k, subst (λ (n : ℕ). Same (length names + length old + x.k) n) x.place (same_group x.k x.x x.at))

  -- ---- the vertices of names and of groups

  -- the vertex of a name that has one in the whole is the same one in the part
  name_moves : (s : List ℕ) (v : ℕ) → name_vertex (parts_by r None es) s ≡ Some v
      → (t : ℕ) × (name_vertex (parts_by r (Some name) es) s ≡ Some t) × Same v t
  name_moves s v is = by (place_in names s) (place_in old s) refl refl is
    where
      lacks : List ℕ → Bool
      lacks n = not (is_some (place_in names n))

      by : (o q : Option ℕ) → place_in names s ≡ o → place_in old s ≡ q → option_or o (option_map (λ k. length names + k) q) ≡ Some v
          → (t : ℕ) × (option_or (place_in names s) (option_map (λ k. length names + k) (place_in new s)) ≡ Some t) × Same v t
      by None None a b is = absurd cc
      by None (Some k) a b is =
          let f = place_is old s k b in
          let l = spelled k f.0 f.1 in
          let place : place_in new s ≡ Some l.0 =
          place_of new (first_apart (filter lacks (option_to_list (Some name) ++ others))) s l.0 (given name f.0) l.1
          (given_folds name s f.0 f.2) in (
            length names + l.0,
            λ i. option_or (a i) (option_map (λ k. length names + k) (place i)),
            subst (λ (n : ℕ). Same n (length names + l.0)) (same_Some (length names + k) v is)
                (same_missing k l.0 f.0 (given name f.0) f.1 l.1 refl),
          )
      by (Some k) q a b is =
          let f = place_is names s k a in
          let m = mapped (λ (e : Entry). e.name) es k f.0 f.1 in (
            k,
            ap (λ (o : Option ℕ). option_or o (option_map (λ k. length names + k) (place_in new s))) a,
            subst (λ (n : ℕ). Same n k) (same_Some k v is) (same_entry k m.0 m.1),
          )

  -- a name that an entry needs has one in the whole
  name_found : (s : List ℕ) → Contains others s → (v : ℕ) × (name_vertex (parts_by r None es) s ≡ Some v)
  name_found s c = by (place_in names s) refl
    where
      by : (o : Option ℕ) → place_in names s ≡ o
          → (v : ℕ) × (option_or (place_in names s) (option_map (λ k. length names + k) (place_in old s)) ≡ Some v)
      by None a =
          let k = found_old names others s c (ap (λ (o : Option ℕ). not (is_some o)) a) in
          (length names + k.0, λ i. option_or (a i) (option_map (λ k. length names + k) (k.1 i)))
      by (Some k) a = (k, ap (λ (o : Option ℕ). option_or o (option_map (λ k. length names + k) (place_in old s))) a)

  group_moves : (g : List ℕ) (v : ℕ) → group_vertex (parts_by r None es) g ≡ Some v
      → (t : ℕ) × (group_vertex (parts_by r (Some name) es) g ≡ Some t) × Same v t
  group_moves g v is = by (place_in groups g) refl is
    where
      by : (o : Option ℕ) → place_in groups g ≡ o → option_map (λ k. length names + length old + k) o ≡ Some v
          → (t : ℕ) × (option_map (λ k. length names + length new + k) (place_in groups g) ≡ Some t) × Same v t
      by None a is = absurd cc
      by (Some k) a is =
          let f = place_is groups g k a in (
            length names + length new + k,
            ap (option_map (λ k. length names + length new + k)) a,
            subst (λ (n : ℕ). Same n (length names + length new + k)) (same_Some (length names + length old + k) v is)
                (same_group k f.0 f.1),
          )

  group_found : (g : List ℕ) (t : ℕ) → group_vertex (parts_by r (Some name) es) g ≡ Some t
      → (v : ℕ) × (group_vertex (parts_by r None es) g ≡ Some v)
  group_found g t is = by (place_in groups g) refl is
    where
      by : (o : Option ℕ) → place_in groups g ≡ o → option_map (λ k. length names + length new + k) o ≡ Some t
          → (v : ℕ) × (option_map (λ k. length names + length old + k) (place_in groups g) ≡ Some v)
      by None a is = absurd cc
      by (Some k) a is = (length names + length old + k, ap (option_map (λ k. length names + length old + k)) a)

  name_back : (s : List ℕ) → Contains others s → (t : ℕ) → name_vertex (parts_by r (Some name) es) s ≡ Some t
      → (v : ℕ) × (name_vertex (parts_by r None es) s ≡ Some v) × Same v t
  name_back s c t is =
      let v = name_found s c in
      let m = name_moves s v.0 v.1 in
      (v.0, v.1, subst (λ (n : ℕ). Same v.0 n) (same_Some m.0 t (sym m.1 ∙ is)) m.2)

  group_back : (g : List ℕ) (t : ℕ) → group_vertex (parts_by r (Some name) es) g ≡ Some t
      → (v : ℕ) × (group_vertex (parts_by r None es) g ≡ Some v) × Same v t
  group_back g t is =
      let v = group_found g t is in
      let m = group_moves g v.0 v.1 in
      (v.0, v.1, subst (λ (n : ℕ). Same v.0 n) (same_Some m.0 t (sym m.1 ∙ is)) m.2)

  -- ---- the edges of an entry

  pub entry_led : (e : Entry) (v : ℕ) → Contains (entry_row (parts_by r None es) e) v
      → (t : ℕ) × Contains (entry_row (parts_by r (Some name) es) e) t × Same v t
  entry_led e =
      both_moved Same (name_vertex (parts_by r None es)) (name_vertex (parts_by r (Some name) es))
      (group_vertex (parts_by r None es)) (group_vertex (parts_by r (Some name) es)) (first_names e.services)
      (first_names e.groups) (λ s c. name_moves s) (λ g c. group_moves g)

  pub entry_back : (e : Entry) → Contains es e → (t : ℕ) → Contains (entry_row (parts_by r (Some name) es) e) t
      → (v : ℕ) × Contains (entry_row (parts_by r None es) e) v × Same v t
  entry_back e among =
      both_moved (λ t v. Same v t) (name_vertex (parts_by r (Some name) es)) (name_vertex (parts_by r None es))
      (group_vertex (parts_by r (Some name) es)) (group_vertex (parts_by r None es)) (first_names e.services)
      (first_names e.groups)
      (λ s c. name_back s (flat_in (λ (x : Entry). x.services) es e s among (first_sub e.services s c)))
      (λ g c. group_back g)
