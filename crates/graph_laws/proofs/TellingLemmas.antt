-- The text of a graph gives it back, but for names that are printed alike.
use Rattle.std.proofs.Common.{◌≡◌, ℕ, zero, suc, ◌+◌, ◌<◌, ◌==◌, not, Bool, true, false, cond, List, [], ◌∷◌, ◌++◌, map, length, slice_get, Option, Some, None, refl, sym, ap, subst, ◌∙◌, ◌⊎◌, inl, inr, append_assoc, arith}
use Rattle.std.specs.Prelude.{codes, filter}
use Rattle.std.specs.Option.{option_map}
use Rattle.std.specs.List.{AllByRecursion, flat_map, enumerate_from}
use Rattle.std.specs.Fmt.{decimal}
use Rattle.std.proofs.lemmas.Bool.{false≢true, eqb-true}
use Rattle.std.proofs.lemmas.Fmt.{decimal_injective}
use Rattle.std.proofs.lemmas.Option.{same_Some}
use Rattle.start_model.specs.Lines.{name_text}
use Rattle.boot_phases.specs.declared.boot_phases.phase.Phase.{Phase}
use Rattle.boot_phases.specs.declared.boot_phases.phase.Phase.TheVariants as phases
use Rattle.json_laws.specs.Objects.{IsNumber}
use Rattle.json_laws.proofs.LineKinds.{pick}
use Rattle.json_laws.proofs.Values.{parted_number}
use Rattle.json_laws.proofs.Parts.{rest_of as text_after}
use Rattle.answer_lines.specs.declared.graph_lines.graph.NodeKind.{NodeKind}
use Rattle.answer_lines.specs.declared.graph_lines.graph.NodeKind.TheVariants as kinds
use Rattle.answer_lines.specs.declared.graph_lines.graph.NodeState.{NodeState}
use Rattle.answer_lines.specs.declared.graph_lines.graph.NodeState.TheVariants as states
use Rattle.answer_lines.specs.declared.graph_lines.graph.GraphNode.{GraphNode}
use Rattle.answer_lines.specs.declared.graph_lines.graph.GraphEdge.{GraphEdge}
use Rattle.why_text.specs.graph_text.Dot.{head_text, number_text, label_text, stands_in}
use Rattle.graph_laws.specs.dot_laws.Statements.{Attribute, DotNode, DotEdge, Setting, dot_nodes, dot_edges, dot_settings}
use Rattle.graph_laws.specs.dot_laws.Drawings.{node_id, cluster_of, shape_attributes, style_attributes, drawn_node, drawn_in, drawn_nodes, dotted_attributes, drawn_edge, drawn_settings}
use Rattle.graph_laws.specs.dot_laws.Forms.{suits, has_number, is_drawn_in, IsStartNode, IsInRange, as_printed, TextTellsGraph}
use Rattle.graph_laws.proofs.QuoteLemmas.{are_one}
use Rattle.graph_laws.proofs.DrawingLemmas.{text_is_drawn}
use Rattle.graph_laws.proofs.ObjectLemmas.{first_or, rest_of}

-- ---- what is in a list

abbrev In : {X : Type 0} → X → List X → Type 0
In x [] = ⊥
In x (y ∷ ys) = (y ≡ x) ⊎ In x ys

in_left : {X : Type 0} (xs ys : List X) (x : X) → In x xs → In x (xs ++ ys)
in_left [] ys x i = absurd i
in_left (y ∷ xs) ys x (inl e) = inl e
in_left (y ∷ xs) ys x (inr i) = inr (in_left xs ys x i)

in_right : {X : Type 0} (xs ys : List X) (x : X) → In x ys → In x (xs ++ ys)
in_right [] ys x i = i
in_right (y ∷ xs) ys x i = inr (in_right xs ys x i)

in_either : {X : Type 0} (xs ys : List X) (x : X) → In x (xs ++ ys) → In x xs ⊎ In x ys
in_either [] ys x i = inr i
in_either (y ∷ xs) ys x (inl e) = inl (inl e)
in_either (y ∷ xs) ys x (inr i) = elim (in_either xs ys x i) [
  | inl l ↦ inl (inr l)
  | inr r ↦ inr r
]

mapped_in : {X Y : Type 0} (f : X → Y) (xs : List X) (x : X) → In x xs → In (f x) (map f xs)
mapped_in f [] x i = absurd i
mapped_in f (y ∷ xs) x (inl e) = inl (ap f e)
mapped_in f (y ∷ xs) x (inr i) = inr (mapped_in f xs x i)

mapped_out : {X Y : Type 0} (f : X → Y) (xs : List X) (y : Y) → In y (map f xs) → (x : X) × In x xs × (f x ≡ y)
mapped_out f [] y i = absurd i
mapped_out f (x ∷ xs) y (inl e) = (x, inl refl, e)
mapped_out f (x ∷ xs) y (inr i) = let r = mapped_out f xs y i in (r.0, inr r.1, r.2)

kept_in : {X : Type 0} (p : X → Bool) (xs : List X) (x : X) → In x xs → p x ≡ true → In x (filter p xs)
kept_in p [] x i on = absurd i
kept_in {X} p (y ∷ xs) x (inl e) on = subst (λ (b : Bool). In x (cond b (y ∷ filter p xs) (filter p xs)))
    (sym (ap p e ∙ on)) (inl e)
kept_in {X} p (y ∷ xs) x (inr i) on = by (p y) (kept_in p xs x i on)
  where
    by : (b : Bool) → In x (filter p xs) → In x (cond b (y ∷ filter p xs) (filter p xs))
    by true kept = inr kept
    by false kept = kept

kept_out : {X : Type 0} (p : X → Bool) (xs : List X) (x : X) → In x (filter p xs) → In x xs × (p x ≡ true)
kept_out p [] x i = absurd i
kept_out {X} p (y ∷ xs) x i = by (p y) refl i (kept_out p xs x)
  where
    by : (b : Bool) → p y ≡ b → In x (cond b (y ∷ filter p xs) (filter p xs))
        → (In x (filter p xs) → In x xs × (p x ≡ true))
        → In x (y ∷ xs) × (p x ≡ true)
    by true is (inl e) rest = (inl e, ap p (sym e) ∙ is)
    by true is (inr j) rest = let r = rest j in (inr r.0, r.1)
    by false is j rest = let r = rest j in (inr r.0, r.1)

numbered_in : {X : Type 0} (m : ℕ) (xs : List X) (k : ℕ) (x : X) → slice_get xs k ≡ Some x
    → In (m + k, x) (enumerate_from m xs)
numbered_in m [] k x is = absurd cc
numbered_in m (y ∷ xs) zero x is = let e : m ≡ m + 0 = omega arith in inl (λ i. (e i, same_Some y x is i))
numbered_in {X} m (y ∷ xs) (suc k) x is =
    let e : m + 1 + k ≡ m + suc k = omega arith in
    inr (subst (λ (j : ℕ). In (j, x) (enumerate_from (m + 1) xs)) e (numbered_in (m + 1) xs k x is))

numbered_out : {X : Type 0} (m : ℕ) (xs : List X) (p : ℕ × X) → In p (enumerate_from m xs)
    → (k : ℕ) × (p.0 ≡ m + k) × (slice_get xs k ≡ Some p.1)
numbered_out m [] p i = absurd i
numbered_out {X} m (y ∷ xs) p (inl e) =
    let at : m ≡ p.0 = ap (λ (q : ℕ × X). q.0) e in
    (0, omega (arith, at), ap (λ (q : ℕ × X). Some q.1) e)
numbered_out m (y ∷ xs) p (inr i) = let r = numbered_out (m + 1) xs p i in (suc r.0, omega (arith, r.1), r.2)

all_at : {X : Type 0} (P : X → Type 0) (xs : List X) (k : ℕ) (x : X) → AllByRecursion P xs → slice_get xs k ≡ Some x
    → P x
all_at P [] k x all is = absurd cc
all_at P (y ∷ xs) zero x all is = subst P (same_Some y x is) all.0
all_at P (y ∷ xs) (suc k) x all is = all_at P xs k x all.1 is

within : {X : Type 0} (xs : List X) (k : ℕ) (x : X) → slice_get xs k ≡ Some x → k < length xs
within [] k x is = absurd cc
within (y ∷ xs) zero x is = omega arith
within (y ∷ xs) (suc k) x is = let lt = within xs k x is in omega (arith, lt)

-- what the one list has at a place, the other has
abbrev HasAll : {X : Type 0} → List X → List X → Type 0
HasAll {X} xs ys = (k : ℕ) (x : X) → slice_get xs k ≡ Some x → slice_get ys k ≡ Some x

same_lists : {X : Type 0} (xs ys : List X) → HasAll xs ys → HasAll ys xs → xs ≡ ys
same_lists [] [] a b = refl
same_lists [] (y ∷ ys) a b = let none : None ≡ Some y = b 0 y refl in absurd cc
same_lists (x ∷ xs) [] a b = let none : None ≡ Some x = a 0 x refl in absurd cc
same_lists (x ∷ xs) (y ∷ ys) a b =
    let first : x ≡ y = sym (same_Some y x (a 0 x refl)) in
    let others = same_lists xs ys (λ k z is. a (suc k) z is) (λ k z is. b (suc k) z is) in
    (λ i. first i ∷ others i)

-- ---- the nodes of a text

-- the node of a text is that of one of the graph
record IsDrawnFrom (nodes : List GraphNode) (x : DotNode) : Type 0 where
  place : Option Phase
  k : ℕ
  node : GraphNode
  at : slice_get nodes k ≡ Some node
  on : stands_in place node.phase ≡ true
  is : drawn_node place (1 + k, node) ≡ x

placed_in : (place : Option Phase) (nodes : List GraphNode) (k : ℕ) (node : GraphNode) → slice_get nodes k ≡ Some node
    → stands_in place node.phase ≡ true → In (drawn_node place (1 + k, node)) (drawn_in place nodes)
placed_in place nodes k node at on =
    let stands : ℕ × GraphNode → Bool = λ n. stands_in place n.1.phase in
    mapped_in (drawn_node place) (filter stands (enumerate_from 1 nodes)) (1 + k, node)
    (kept_in stands (enumerate_from 1 nodes) (1 + k, node) (numbered_in 1 nodes k node at) on)

placed_out : (place : Option Phase) (nodes : List GraphNode) (x : DotNode) → In x (drawn_in place nodes)
    → IsDrawnFrom nodes x
placed_out place nodes x i =
    let stands : ℕ × GraphNode → Bool = λ n. stands_in place n.1.phase in
    let m = mapped_out (drawn_node place) (filter stands (enumerate_from 1 nodes)) x i in
    let kept = kept_out stands (enumerate_from 1 nodes) m.0 m.1 in
    let n = numbered_out 1 nodes m.0 kept.0 in
    record {
      place = place;
      k = n.0;
      node = m.0.1;
      at = n.2;
      on = kept.1;
      is = ap (λ (j : ℕ). drawn_node place (j, m.0.1)) (sym n.1) ∙ m.2;
    }

-- where a node of a graph is in its text
record IsDrawnAs (nodes : List GraphNode) (k : ℕ) (node : GraphNode) : Type 0 where
  place : Option Phase
  on : stands_in place node.phase ≡ true
  there : In (drawn_node place (1 + k, node)) (drawn_nodes nodes)

node_in : (nodes : List GraphNode) (k : ℕ) (node : GraphNode) → slice_get nodes k ≡ Some node → is_drawn_in node.phase
    ≡ true
    → IsDrawnAs nodes k node
node_in nodes k node at drawn = by node.phase refl
  where
    a : List DotNode
    a = drawn_in (Some phases.Boot) nodes

    b : List DotNode
    b = drawn_in (Some phases.System) nodes

    c : List DotNode
    c = drawn_in (Some phases.Automatic) nodes

    d : List DotNode
    d = drawn_in None nodes

    by : (place : Option Phase) → node.phase ≡ place → IsDrawnAs nodes k node
    by None is =
        let on : stands_in None node.phase ≡ true = ap (stands_in None) is in
        record { place = None; on = on; there = in_right (a ++ b ++ c) d _ (placed_in None nodes k node at on) }
    by (Some phases.Boot) is =
        let on : stands_in (Some phases.Boot) node.phase ≡ true = ap (stands_in (Some phases.Boot)) is in
        let i = placed_in (Some phases.Boot) nodes k node at on in
        record {
          place = Some phases.Boot;
          on = on;
          there = in_left (a ++ b ++ c) d _
              (in_left (a ++ b) c _ (in_left a b _ i));
        }
    by (Some phases.System) is =
        let on : stands_in (Some phases.System) node.phase ≡ true = ap (stands_in (Some phases.System)) is in
        let i = placed_in (Some phases.System) nodes k node at on in
        record {
          place = Some phases.System;
          on = on;
          there = in_left (a ++ b ++ c) d _
              (in_left (a ++ b) c _ (in_right a b _ i));
        }
    by (Some phases.Automatic) is =
        let on : stands_in (Some phases.Automatic) node.phase ≡ true = ap (stands_in (Some phases.Automatic)) is in
        let i = placed_in (Some phases.Automatic) nodes k node at on in
        record { place = Some phases.Automatic; on = on; there = in_left (a ++ b ++ c) d _ (in_right (a ++ b) c _ i) }
    by (Some phases.Done) is = absurd (false≢true (sym (ap is_drawn_in is) ∙ drawn))

node_out : (nodes : List GraphNode) (x : DotNode) → In x (drawn_nodes nodes) → IsDrawnFrom nodes x
node_out nodes x i =
    let a = drawn_in (Some phases.Boot) nodes in
    let b = drawn_in (Some phases.System) nodes in
    let c = drawn_in (Some phases.Automatic) nodes in
    elim (in_either (a ++ b ++ c) (drawn_in None nodes) x i) [
      | inl l ↦ elim (in_either (a ++ b) c x l) [
        | inl m ↦ elim (in_either a b x m) [
          | inl j ↦ placed_out (Some phases.Boot) nodes x j
          | inr j ↦ placed_out (Some phases.System) nodes x j
        ]
        | inr j ↦ placed_out (Some phases.Automatic) nodes x j
      ]
      | inr j ↦ placed_out None nodes x j
    ]

-- ---- one node

id_told : (j k : ℕ) → IsNumber j → IsNumber k → node_id j ≡ node_id k → j ≡ k
id_told j k is_j is_k e = decimal_injective j k is_j is_k (ap text_after e)

-- the phase by its subgraph
abbrev place_from : Option (List ℕ) → Option Phase
place_from None = None
place_from (Some name) = pick cluster_of (phases.Boot ∷ phases.System ∷ phases.Automatic ∷ phases.Done ∷ []) name

place_back : (place : Option Phase) → place_from (option_map cluster_of place) ≡ place
place_back None = refl
place_back (Some phases.Boot) = refl
place_back (Some phases.System) = refl
place_back (Some phases.Automatic) = refl
place_back (Some phases.Done) = refl

stands_same : (p q : Option Phase) → stands_in p q ≡ true → q ≡ p
stands_same None None is = refl
stands_same (Some phases.Boot) (Some phases.Boot) is = refl
stands_same (Some phases.System) (Some phases.System) is = refl
stands_same (Some phases.Automatic) (Some phases.Automatic) is = refl
stands_same (Some phases.Done) (Some phases.Done) is = refl
stands_same p q is = absurd (false≢true is)

-- kind and state by the attributes after the label
abbrev looks : List (NodeKind × NodeState)
looks =
    (kinds.Entry, states.Started) ∷ (kinds.Entry, states.Failed) ∷ (kinds.Entry, states.Unmet)
    ∷ (kinds.Entry, states.NotReached)
    ∷ (kinds.Entry, states.Untaken) ∷ (kinds.Missing, states.NoEntry) ∷ (kinds.Group, states.Started)
    ∷ (kinds.Group, states.Unmet) ∷ []

abbrev look_of : NodeKind → NodeState → List Attribute
look_of kind state = shape_attributes kind ++ style_attributes state

abbrev code_of : List Attribute → List ℕ
code_of attributes = flat_map (λ (a : Attribute). a.0 ++ a.1) attributes

abbrev look_from : List Attribute → Option (NodeKind × NodeState)
look_from attributes = pick (λ (l : NodeKind × NodeState). code_of (look_of l.0 l.1)) looks (code_of attributes)

look_back : (kind : NodeKind) (state : NodeState) → suits kind state ≡ true → look_from (look_of kind state)
    ≡ Some (kind, state)
look_back kinds.Entry states.Started is = refl
look_back kinds.Entry states.Failed is = refl
look_back kinds.Entry states.Unmet is = refl
look_back kinds.Entry states.NotReached is = refl
look_back kinds.Entry states.Untaken is = refl
look_back kinds.Missing states.NoEntry is = refl
look_back kinds.Group states.Started is = refl
look_back kinds.Group states.Unmet is = refl
look_back kind state is = absurd (false≢true is)

-- the number before a name, and the name, where it is known whether there is a number
label_told : (a b : ℕ) (x y : List ℕ) (none : Bool) → IsNumber a → IsNumber b → (a == 0) ≡ none → (b == 0) ≡ none
    → number_text a ++ x ≡ number_text b ++ y → (a ≡ b) × (x ≡ y)
label_told a b x y true is_a is_b at_a at_b e =
    let zero_a = eqb-true a 0 at_a in
    let zero_b = eqb-true b 0 at_b in (
      zero_a ∙ sym zero_b,
      sym (ap (λ (z : Bool). cond z [] (decimal a ++ codes " ") ++ x) at_a) ∙ e
          ∙ ap (λ (z : Bool). cond z [] (decimal b ++ codes " ") ++ y) at_b,
    )
label_told a b x y false is_a is_b at_a at_b e =
    let with_a = ap (λ (z : Bool). cond z [] (decimal a ++ codes " ") ++ x) at_a
    ∙ append_assoc (decimal a) (codes " ") x in
    let with_b = ap (λ (z : Bool). cond z [] (decimal b ++ codes " ") ++ y) at_b
    ∙ append_assoc (decimal b) (codes " ") y in
    let both = parted_number a b (32 ∷ x) (32 ∷ y) is_a is_b refl refl (sym with_a ∙ e ∙ with_b) in
    (both.0, ap text_after both.1)

abbrev value_first : List Attribute → List ℕ
value_first attributes = (first_or ([], []) attributes).1

module _ (p q : Option Phase) (j k : ℕ) (n m : GraphNode) (is_n : IsStartNode n) (is_m : IsStartNode m)
    (in_n : IsInRange n) (in_m : IsInRange m)
    (is_j : IsNumber j) (is_k : IsNumber k) (on_n : stands_in p n.phase ≡ true) (on_m : stands_in q m.phase ≡ true)
    (e : drawn_node p (j, n) ≡ drawn_node q (k, m)) where
  same_number : j ≡ k
  same_number = id_told j k is_j is_k (ap (λ (d : DotNode). d.id) e)

  phase : n.phase ≡ m.phase
  phase =
      let place : p ≡ q = sym (place_back p) ∙ ap (λ (d : DotNode). place_from d.subgraph) e ∙ place_back q in
      stands_same p n.phase on_n ∙ place ∙ sym (stands_same q m.phase on_m)

  look : ◌≡◌ {A = NodeKind × NodeState} (n.kind, n.state) (m.kind, m.state)
  look =
      same_Some (n.kind, n.state) (m.kind, m.state)
      (sym (look_back n.kind n.state is_n.suits) ∙ ap (λ (d : DotNode). look_from (rest_of d.attributes)) e
      ∙ look_back m.kind m.state is_m.suits)

  label : (n.number ≡ m.number) × (name_text n.name ≡ name_text m.name)
  label =
      let none : not (has_number n.kind n.state) ≡ not (has_number m.kind m.state) =
      ap (λ (l : NodeKind × NodeState). not (has_number l.0 l.1)) look in
      label_told n.number m.number (name_text n.name) (name_text m.name) (not (has_number m.kind m.state)) in_n.0 in_m.0
      (is_n.number ∙ none) is_m.number
      (are_one (label_text n) (label_text m) (ap (λ (d : DotNode). value_first d.attributes) e))

  same_printed : as_printed n ≡ as_printed m
  same_printed = (λ i. record {
    kind = (look i).0;
    phase = phase i;
    state = (look i).1;
    number = label.0 i;
    name = label.1 i;
  })

-- ---- all nodes

mapped_at : {X Y : Type 0} (f : X → Y) (xs : List X) (k : ℕ) (y : Y) → slice_get (map f xs) k ≡ Some y
    → (x : X) × (slice_get xs k ≡ Some x) × (f x ≡ y)
mapped_at f [] k y is = absurd cc
mapped_at f (x ∷ xs) zero y is = (x, refl, same_Some (f x) y is)
mapped_at f (x ∷ xs) (suc k) y is = mapped_at f xs k y is

map_at : {X Y : Type 0} (f : X → Y) (xs : List X) (k : ℕ) (x : X) → slice_get xs k ≡ Some x → slice_get (map f xs) k
    ≡ Some (f x)
map_at f [] k x is = absurd cc
map_at f (y ∷ xs) zero x is = ap (λ z. Some (f z)) (same_Some y x is)
map_at f (y ∷ xs) (suc k) x is = map_at f xs k x is

nodes_told : (ns ms : List GraphNode) → AllByRecursion IsStartNode ns → AllByRecursion IsStartNode ms
    → AllByRecursion IsInRange ns → AllByRecursion IsInRange ms → IsNumber (length ns) → IsNumber (length ms)
    → drawn_nodes ns ≡ drawn_nodes ms → HasAll (map as_printed ns) (map as_printed ms)
nodes_told ns ms is_n is_m in_n in_m count_n count_m e k x at =
    let n = mapped_at as_printed ns k x at in
    let start = all_at IsStartNode ns k n.0 is_n n.1 in
    let drawn = node_in ns k n.0 n.1 start.phase in
    let from = node_out ms (drawn_node drawn.place (1 + k, n.0))
    (subst (In (drawn_node drawn.place (1 + k, n.0))) e drawn.there) in
    let is_j : IsNumber (1 + from.k) = omega (arith, within ms from.k from.node from.at, count_m) in
    let is_k : IsNumber (1 + k) = omega (arith, within ns k n.0 n.1, count_n) in
    let start' = all_at IsStartNode ms from.k from.node is_m from.at in
    let in_from = all_at IsInRange ms from.k from.node in_m from.at in
    let in_here = all_at IsInRange ns k n.0 in_n n.1 in
    let number = same_number from.place drawn.place (1 + from.k)
    (1 + k) from.node n.0 start' start in_from in_here is_j is_k from.on drawn.on from.is in
    let printed = same_printed from.place drawn.place (1 + from.k)
    (1 + k) from.node n.0 start' start in_from in_here is_j is_k from.on drawn.on from.is in
    let place : from.k ≡ k = omega (arith, number) in
    subst (λ (j : ℕ). slice_get (map as_printed ms) j ≡ Some x) place
    (map_at as_printed ms from.k from.node from.at ∙ ap (λ (y : GraphNode). Some y) (printed ∙ n.2))

-- ---- edges

abbrev is_dotted : List Attribute → Bool
is_dotted [] = false
is_dotted (a ∷ attributes) = true

dotted_back : (b : Bool) → is_dotted (dotted_attributes b) ≡ b
dotted_back true = refl
dotted_back false = refl

edges_told : (es fs : List GraphEdge) → AllByRecursion (λ (e : GraphEdge). IsNumber e.from) es
    → AllByRecursion (λ (e : GraphEdge). IsNumber e.to) es
    → AllByRecursion (λ (e : GraphEdge). IsNumber e.from) fs → AllByRecursion (λ (e : GraphEdge). IsNumber e.to) fs
    → map drawn_edge es ≡ map drawn_edge fs → es ≡ fs
edges_told [] [] a b c d is = refl
edges_told [] (f ∷ fs) a b c d is = absurd cc
edges_told (e ∷ es) [] a b c d is = absurd cc
edges_told (e ∷ es) (f ∷ fs) a b c d is =
    let first : drawn_edge e ≡ drawn_edge f = ap (first_or (drawn_edge e)) is in
    let from = id_told e.from f.from a.0 c.0 (ap (λ (x : DotEdge). x.from) first) in
    let to = id_told e.to f.to b.0 d.0 (ap (λ (x : DotEdge). x.to) first) in
    let group = sym (dotted_back e.of_group) ∙ ap (λ (x : DotEdge). is_dotted x.attributes) first
    ∙ dotted_back f.of_group in
    let others = edges_told es fs a.1 b.1 c.1 d.1 (ap rest_of is) in
    (λ i. (record { from = from i; to = to i; of_group = group i }) ∷ others i)

-- ---- the whole

abbrev label_first : List Setting → List ℕ
label_first settings = (first_or (None, ([], [])) settings).1.1

pub text_tells : TextTellsGraph
text_tells heads more g f is_g is_f fits_g fits_f same =
    let of_g = text_is_drawn heads g in
    let of_f = text_is_drawn more f in
    let nodes : drawn_nodes g.nodes ≡ drawn_nodes f.nodes = sym of_g.nodes ∙ ap dot_nodes same ∙ of_f.nodes in
    let edges : map drawn_edge g.edges ≡ map drawn_edge f.edges = sym of_g.edges ∙ ap dot_edges same ∙ of_f.edges in
    let settings : drawn_settings heads g.nodes ≡ drawn_settings more f.nodes = sym of_g.settings ∙ ap dot_settings same
    ∙ of_f.settings in
    record {
      head = are_one (head_text heads) (head_text more) (ap label_first settings);
      nodes = same_lists (map as_printed g.nodes) (map as_printed f.nodes)
          (nodes_told g.nodes f.nodes is_g.nodes is_f.nodes fits_g.nodes fits_f.nodes fits_g.count fits_f.count nodes)
          (nodes_told f.nodes g.nodes is_f.nodes is_g.nodes fits_f.nodes fits_g.nodes fits_f.count fits_g.count
          (sym nodes));
      edges = edges_told g.edges f.edges fits_g.from fits_g.to fits_f.from fits_f.to edges;
    }
