-- The vertices of a start's graph, by what stands at them.
use Rattle.std.proofs.Common.{◌≡◌, ◌⊎◌, ℕ, ◌+◌, Bool, true, false, not, List, [], ◌++◌, length, map, slice_get, Option, Some, sym, ap, subst, ◌∙◌, inl, inr, arith}
use Rattle.std.specs.Prelude.{filter}
use Rattle.std.specs.Option.{is_some, option_to_list}
use Rattle.std.specs.List.{flat_map}
use Rattle.std.proofs.lemmas.Bool.{false≢true}
use Rattle.std.proofs.lemmas.List.{length-append, length-map}
use Rattle.std.proofs.lemmas.Option.{get_or_from_slice_get}
use Rattle.nt_bytes.specs.Folding.{folds_same}
use Rattle.start_model.specs.Entries.{Entry}
use Rattle.wait_cycles.specs.Graph.{row_at}
use Rattle.why_needs.specs.declared.why_state.views.ViewedRun.{ViewedRun}
use Rattle.why_needs.specs.why_state.Views.{names_of}
use Rattle.why_needs.specs.why_state.States.{place_in}
use Rattle.why_laws.proofs.PastLemmas.{slice_cases, slice_left, slice_right}
use Rattle.answer_lines.specs.declared.graph_lines.graph.GraphNode.{GraphNode}
use Rattle.graph_rule.specs.Nodes.{entry_node, missing_node, group_node}
use Rattle.graph_rule.specs.Rows.{missing_names, group_names, parts_by, entry_row, group_row, rows_of, group_state, nodes_of}
use Rattle.graph_rule.specs.Shown.{is_entry, is_group}
use Rattle.graph_laws.proofs.EntryLemmas.{first_apart}
use Rattle.graph_laws.proofs.GroupLemmas.{mapped, map_at}
use Rattle.graph_laws.proofs.MissingLemmas.{one_place}

module _ (r : ViewedRun) (of : Option (List ℕ)) (es : List Entry) where
  abbrev nodes : List GraphNode
  nodes = nodes_of (parts_by r of es)

  abbrev names : List (List ℕ)
  names = names_of es

  abbrev missing : List (List ℕ)
  missing = missing_names es (names_of es) of

  abbrev groups : List (List ℕ)
  groups = group_names es

  abbrev pub group : List ℕ → GraphNode
  group x = group_node (group_state (parts_by r of es) x) x

  abbrev entries : List GraphNode
  entries = map (entry_node r) es

  abbrev lacked : List GraphNode
  lacked = map missing_node missing

  counts : length entries ≡ length names
  counts = length-map es (entry_node r) ∙ sym (length-map es (λ (e : Entry). e.name))

  both_count : length (entries ++ lacked) ≡ length names + length missing
  both_count = omega (arith, counts, length-append entries lacked, length-map missing missing_node)

  -- ---- what stands where

  pub entry_at : (v : ℕ) (e : Entry) → slice_get es v ≡ Some e → slice_get nodes v ≡ Some (entry_node r e)
  entry_at v e at =
      slice_left (entries ++ lacked) (map group groups) v (entry_node r e)
      (slice_left entries lacked v (entry_node r e) (map_at (entry_node r) es v e at))

  pub missing_at : (k : ℕ) (x : List ℕ) → slice_get missing k ≡ Some x → slice_get nodes (length names + k) ≡ Some (missing_node x)
  missing_at k x at =
      let place : length entries + k ≡ length names + k = omega (arith, counts) in
      slice_left (entries ++ lacked) (map group groups) (length names + k) (missing_node x)
      (subst (λ (n : ℕ). slice_get (entries ++ lacked) n ≡ Some (missing_node x)) place
      (slice_right entries lacked k (missing_node x) (map_at missing_node missing k x at)))

  pub group_at : (k : ℕ) (x : List ℕ) → slice_get groups k ≡ Some x
      → slice_get nodes (length names + length missing + k) ≡ Some (group x)
  group_at k x at =
      let place : length (entries ++ lacked) + k ≡ length names + length missing + k = omega (arith, both_count) in
      subst (λ (n : ℕ). slice_get nodes n ≡ Some (group x)) place
      (slice_right (entries ++ lacked) (map group groups) k (group x) (map_at group groups k x at))

  abbrev pub OfEntry : ℕ → GraphNode → Type 0
  OfEntry v n = (e : Entry) × (slice_get es v ≡ Some e) × (entry_node r e ≡ n)

  pub record OfMissing (v : ℕ) (n : GraphNode) : Type 0 where
    pub k : ℕ
    pub x : List ℕ
    pub at : slice_get missing k ≡ Some x
    pub place : length names + k ≡ v
    pub is : missing_node x ≡ n

  pub record OfGroup (v : ℕ) (n : GraphNode) : Type 0 where
    pub k : ℕ
    pub x : List ℕ
    pub at : slice_get groups k ≡ Some x
    pub place : length names + length missing + k ≡ v
    pub is : group x ≡ n

  abbrev pub Stands : ℕ → GraphNode → Type 0
  Stands v n = OfEntry v n ⊎ (OfMissing v n ⊎ OfGroup v n)

  pub stands : (v : ℕ) (n : GraphNode) → slice_get nodes v ≡ Some n → Stands v n
  stands v n at = elim (slice_cases (entries ++ lacked) (map group groups) v n at) [
    | inl front ↦ elim (slice_cases entries lacked v n front) [
      | inl i ↦ inl (mapped (entry_node r) es v n i)
      | inr i ↦ (let m = mapped missing_node missing i.0 n i.2 in
          inr (inl (record { k = i.0; x = m.0; at = m.1; place = omega (arith, i.1, counts); is = m.2 })))
    ]
    | inr i ↦ (let m = mapped group groups i.0 n i.2 in
        inr (inr (record { k = i.0; x = m.0; at = m.1; place = omega (arith, i.1, both_count); is = m.2 })))
  ]

  -- of missing names, and of groups, no two vertices have names that fold as one
  pub one_vertex : (u v : ℕ) (n m : GraphNode) → slice_get nodes u ≡ Some n → slice_get nodes v ≡ Some m → n.kind ≡ m.kind
      → is_entry n.kind ≡ false → folds_same n.name m.name ≡ true → u ≡ v
  one_vertex u v n m a b kind off same = by (stands u n a) (stands v m b)
    where
      lacks : List ℕ → Bool
      lacks name = not (is_some (place_in names name))

      by : Stands u n → Stands v m → u ≡ v
      by (inl x) y = absurd (false≢true (sym off ∙ ap (λ (z : GraphNode). is_entry z.kind) (sym x.2)))
      by (inr x) (inl y) =
          absurd (false≢true (sym off ∙ ap is_entry kind ∙ ap (λ (z : GraphNode). is_entry z.kind) (sym y.2)))
      by (inr (inl x)) (inr (inl y)) =
          omega (
            arith,
            x.place,
            y.place,
            one_place missing (first_apart (filter lacks (option_to_list of ++ flat_map (λ (e : Entry). e.services) es))) x.k y.k x.x
                y.x x.at y.at ((λ i. folds_same (x.is i).name (y.is i).name) ∙ same),
          )
      by (inr (inl x)) (inr (inr y)) =
          absurd (false≢true (ap (λ (z : GraphNode). is_group z.kind) x.is ∙ ap is_group kind
          ∙ ap (λ (z : GraphNode). is_group z.kind) (sym y.is)))
      by (inr (inr x)) (inr (inl y)) =
          absurd (false≢true (ap (λ (z : GraphNode). is_group z.kind) y.is ∙ ap is_group (sym kind)
          ∙ ap (λ (z : GraphNode). is_group z.kind) (sym x.is)))
      by (inr (inr x)) (inr (inr y)) =
          omega (
            arith,
            x.place,
            y.place,
            one_place groups (first_apart (flat_map (λ (e : Entry). e.groups) es)) x.k y.k x.x y.x x.at y.at
                ((λ i. folds_same (x.is i).name (y.is i).name) ∙ same),
          )

  -- ---- rows

  abbrev rows : List (List ℕ)
  rows = rows_of (parts_by r of es) of

  abbrev none : List ℕ → List ℕ
  none name = []

  pub entry_row_is : (u : ℕ) (e : Entry) → slice_get es u ≡ Some e → row_at rows u ≡ entry_row (parts_by r of es) e
  entry_row_is u e at =
      let x = map (entry_row (parts_by r of es)) es in
      let y = map none missing in
      get_or_from_slice_get rows u (entry_row (parts_by r of es) e) []
      (slice_left (x ++ y) (map (group_row (parts_by r of es) of) groups) u (entry_row (parts_by r of es) e)
      (slice_left x y u (entry_row (parts_by r of es) e) (map_at (entry_row (parts_by r of es)) es u e at)))

  pub missing_row_is : (k : ℕ) (name : List ℕ) → slice_get missing k ≡ Some name → row_at rows (length names + k) ≡ []
  missing_row_is k name at =
      let x = map (entry_row (parts_by r of es)) es in
      let y = map none missing in
      let place : length x + k ≡ length names + k =
      omega (arith, length-map es (entry_row (parts_by r of es)), length-map es (λ (e : Entry). e.name)) in
      get_or_from_slice_get rows (length names + k) [] []
      (slice_left (x ++ y) (map (group_row (parts_by r of es) of) groups) (length names + k) []
      (subst (λ (n : ℕ). slice_get (x ++ y) n ≡ Some []) place (slice_right x y k [] (map_at none missing k name at))))
