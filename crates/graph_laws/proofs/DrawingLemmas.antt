-- The statements of the text of a graph are a graph of the language, with the nodes, edges and settings of the graph.
use Rattle.std.proofs.Common.{◌≡◌, ℕ, ◌+◌, ◌||◌, Bool, true, false, cond, List, [], ◌∷◌, ◌++◌, map, refl, sym, ap, ◌∙◌, append_assoc, append-nil}
use Rattle.std.specs.Prelude.{codes, filter, Option, Some, None}
use Rattle.std.specs.List.{flat_map, enumerate_from}
use Rattle.std.proofs.lemmas.Bool.{false≢true}
use Rattle.boot_phases.specs.declared.boot_phases.phase.Phase.{Phase}
use Rattle.boot_phases.specs.declared.boot_phases.phase.Phase.TheVariants as phases
use Rattle.answer_lines.specs.declared.why_lines.lines.WhyLine.{WhyLine}
use Rattle.why_text.specs.why_text.Lines.{phase_word}
use Rattle.answer_lines.specs.declared.graph_lines.graph.GraphNode.{GraphNode}
use Rattle.answer_lines.specs.declared.graph_lines.graph.GraphEdge.{GraphEdge}
use Rattle.answer_lines.specs.declared.graph_lines.graph.Graph.{Graph}
use Rattle.why_text.specs.graph_text.Dot.{in_quotes, head_text, stands_in}
use Rattle.graph_laws.specs.dot_laws.Statements.{Statement, Begins, Opens, Closes, Setting, is_graph, is_rest, nodes_by, edges_by, settings_by, place_after, said_in}
use Rattle.graph_laws.specs.dot_laws.Drawings.{cluster_of, drawn_node, drawn_in, drawn_nodes, drawn_edge, phase_settings, drawn_settings, TextIsDrawn}
use Rattle.graph_laws.proofs.StatementLemmas.{node_said, nodes_said, label_said, has_some, front_said, cluster_said, phase_said, edge_said, all_said, whole_said, text_said}

-- ---- a graph

-- statements go from one place to another one, in a subgraph or not
record Goes (b : Bool) (said : List Statement) (c : Bool) : Type 0 where
  pub all : (rest : List Statement) → is_rest b (said ++ rest) ≡ is_rest c rest

still : {b : Bool} → Goes b [] b
still = record { all = λ rest. refl }

on : {a b c : Bool} {x y : List Statement} → Goes a x b → Goes b y c → Goes a (x ++ y) c
on {a} {b} {c} {x} {y} one two = record {
  all = λ rest. ap (is_rest a) (append_assoc x y rest) ∙ one.all (y ++ rest)
      ∙ two.all rest;
}

nodes_go : (b : Bool) (ns : List (ℕ × GraphNode)) → Goes b (map node_said ns) b
nodes_go b [] = still
nodes_go true (n ∷ ns) = record { all = (nodes_go true ns).all }
nodes_go false (n ∷ ns) = record { all = (nodes_go false ns).all }

phase_goes : (phase : Phase) (nodes : List GraphNode) → Goes false (phase_said phase nodes) false
phase_goes phase nodes = by (has_some phase nodes)
  where
    by : (b : Bool) → Goes false (cond b (cluster_said phase nodes) []) false
    by true =
        let front : Goes false (front_said phase) true = record { all = λ rest. refl } in
        on (on front (nodes_go true (filter (λ (m : ℕ × GraphNode). stands_in (Some phase) m.1.phase)
        (enumerate_from 1 nodes))))
        (record { all = λ rest. by_rest rest })
      where
        by_rest : (rest : List Statement) → is_rest true (Closes ∷ rest) ≡ is_rest false rest
        by_rest rest = refl
    by false = still

edges_go : (edges : List GraphEdge) → Goes false (map edge_said edges) false
edges_go [] = still
edges_go (edge ∷ edges) = record { all = (edges_go edges).all }

nodes_in_none : (nodes : List GraphNode) → Goes false (nodes_said None 1 nodes) false
nodes_in_none nodes = nodes_go false (filter (λ (m : ℕ × GraphNode). stands_in None m.1.phase) (enumerate_from 1 nodes))

all_goes : (head : List WhyLine) (graph : Graph)
    → Goes false (label_said (in_quotes (head_text head)) ∷ all_said graph.nodes ++ map edge_said graph.edges) false
all_goes head graph =
    let label : Goes false (label_said (in_quotes (head_text head)) ∷ []) false = record { all = λ rest. refl } in
    let clusters = on (on (phase_goes phases.Boot graph.nodes) (phase_goes phases.System graph.nodes))
    (phase_goes phases.Automatic graph.nodes) in
    on (on label (on clusters (nodes_in_none graph.nodes))) (edges_go graph.edges)

whole_is_rest : (head : List WhyLine) (graph : Graph)
    → is_rest false (label_said (in_quotes (head_text head)) ∷ all_said graph.nodes ++ map edge_said graph.edges
    ++ Closes ∷ []) ≡ true
whole_is_rest head graph = (all_goes head graph).all (Closes ∷ [])

-- ---- what statements say

module _ {X : Type 0} (by : Option (List ℕ) → Statement → List X) where
  record Tells (p : Option (List ℕ)) (said : List Statement) (told : List X) (q : Option (List ℕ)) : Type 0 where
    pub all : (rest : List Statement) → said_in by p (said ++ rest) ≡ told ++ said_in by q rest

  silent : {p : Option (List ℕ)} → Tells p [] [] p
  silent = record { all = λ rest. refl }

  and : {p q r : Option (List ℕ)} {x y : List Statement} {t u : List X} → Tells p x t q → Tells q y u r
      → Tells p (x ++ y) (t ++ u) r
  and {p} {q} {r} {x} {y} {t} {u} one two = record {
    all = λ rest. ap (said_in by p) (append_assoc x y rest) ∙ one.all (y ++ rest)
        ∙ ap (λ (s : List X). t ++ s) (two.all rest)
        ∙ sym (append_assoc t u (said_in by r rest));
  }

  one_tells : {p : Option (List ℕ)} (s : Statement) → Tells p (s ∷ []) (by p s) (place_after p s)
  one_tells s = record { all = λ rest. refl }

  nodes_tell : (p : Option (List ℕ)) (ns : List (ℕ × GraphNode))
      → Tells p (map node_said ns) (flat_map (λ (n : ℕ × GraphNode). by p (node_said n)) ns) p
  nodes_tell p [] = silent
  nodes_tell p (n ∷ ns) = and (one_tells (node_said n)) (nodes_tell p ns)

  edges_tell : (edges : List GraphEdge) → Tells None (map edge_said edges)
      (flat_map (λ (e : GraphEdge). by None (edge_said e)) edges) None
  edges_tell [] = silent
  edges_tell (edge ∷ edges) = and (one_tells (edge_said edge)) (edges_tell edges)

  -- of the nodes in a phase, or in none
  abbrev told_of : Option (List ℕ) → Option Phase → List GraphNode → List X
  told_of p place nodes =
      flat_map (λ (n : ℕ × GraphNode). by p (node_said n))
      (filter (λ (m : ℕ × GraphNode). stands_in place m.1.phase) (enumerate_from 1 nodes))

  abbrev cluster_told : Phase → List GraphNode → List X
  cluster_told phase nodes =
      by None (Opens (cluster_of phase)) ++ by (Some (cluster_of phase)) (label_said (phase_word phase))
      ++ told_of (Some (cluster_of phase)) (Some phase) nodes ++ by (Some (cluster_of phase)) Closes

  abbrev phase_told : Phase → List GraphNode → List X
  phase_told phase nodes = cond (has_some phase nodes) (cluster_told phase nodes) []

  phase_tells : (phase : Phase) (nodes : List GraphNode)
      → Tells None (phase_said phase nodes) (phase_told phase nodes) None
  phase_tells phase nodes = by_some (has_some phase nodes)
    where
      by_some : (b : Bool) → Tells None (cond b (cluster_said phase nodes) [])
          (cond b (cluster_told phase nodes) []) None
      by_some true =
          let ns = filter (λ (m : ℕ × GraphNode). stands_in (Some phase) m.1.phase) (enumerate_from 1 nodes) in
          and (and (and (one_tells (Opens (cluster_of phase))) (one_tells (label_said (phase_word phase))))
          (nodes_tell (Some (cluster_of phase)) ns))
          (one_tells Closes)
      by_some false = silent

  abbrev whole_told : List WhyLine → Graph → List X
  whole_told head graph =
      by None (Begins (codes "ntboot")) ++ by None (label_said (in_quotes (head_text head)))
      ++ (phase_told phases.Boot graph.nodes ++ phase_told phases.System graph.nodes
      ++ phase_told phases.Automatic graph.nodes
      ++ told_of None None graph.nodes)
      ++ flat_map (λ (e : GraphEdge). by None (edge_said e)) graph.edges ++ by None Closes

  whole_tells : (head : List WhyLine) (graph : Graph) → said_in by None (whole_said head graph) ≡ whole_told head graph
  whole_tells head graph =
      let ns = filter (λ (m : ℕ × GraphNode). stands_in None m.1.phase) (enumerate_from 1 graph.nodes) in
      let opening = and (one_tells {p = None} (Begins (codes "ntboot")))
      (one_tells (label_said (in_quotes (head_text head)))) in
      let clusters = and (and (phase_tells phases.Boot graph.nodes) (phase_tells phases.System graph.nodes))
      (phase_tells phases.Automatic graph.nodes) in
      let whole = and (and (and opening (and clusters (nodes_tell None ns))) (edges_tell graph.edges))
      (one_tells Closes) in
      ap (said_in by None) (sym (append-nil (whole_said head graph))) ∙ whole.all []
      ∙ append-nil (whole_told head graph)

-- ---- lists

pub singles : {X Y : Type 0} (f : X → Y) (xs : List X) → flat_map (λ (x : X). f x ∷ []) xs ≡ map f xs
singles f [] = refl
singles f (x ∷ xs) = ap (λ ys. f x ∷ ys) (singles f xs)

pub none_of : {X Y : Type 0} (xs : List X) → flat_map (λ (x : X). let none : List Y = [] in none) xs ≡ []
none_of [] = refl
none_of (x ∷ xs) = none_of xs

-- in a phase in which no node is
none_placed : (phase : Phase) (n : ℕ) (nodes : List GraphNode) → has_some phase nodes ≡ false
    → filter (λ (m : ℕ × GraphNode). stands_in (Some phase) m.1.phase) (enumerate_from n nodes) ≡ []
none_placed phase n [] none = refl
none_placed phase n (node ∷ nodes) none = by (stands_in (Some phase) node.phase) none (none_placed phase (n + 1) nodes)
  where
    by : (b : Bool) → (b || has_some phase nodes) ≡ false
        → (has_some phase nodes ≡ false → filter (λ (m : ℕ × GraphNode). stands_in (Some phase) m.1.phase)
        (enumerate_from (n + 1) nodes) ≡ [])
        → cond b ((n, node) ∷ filter (λ (m : ℕ × GraphNode). stands_in (Some phase) m.1.phase)
        (enumerate_from (n + 1) nodes))
        (filter (λ (m : ℕ × GraphNode). stands_in (Some phase) m.1.phase) (enumerate_from (n + 1) nodes)) ≡ []
    by true is rest = absurd (false≢true (sym is))
    by false is rest = rest is

-- ---- nodes

phase_nodes : (phase : Phase) (nodes : List GraphNode) → phase_told nodes_by phase nodes ≡ drawn_in (Some phase) nodes
phase_nodes phase nodes = by (has_some phase nodes) refl
  where
    by : (b : Bool) → has_some phase nodes ≡ b → cond b (cluster_told nodes_by phase nodes) []
        ≡ drawn_in (Some phase) nodes
    by true is =
        append-nil (told_of nodes_by (Some (cluster_of phase)) (Some phase) nodes)
        ∙ singles (drawn_node (Some phase)) (filter (λ (m : ℕ × GraphNode). stands_in (Some phase) m.1.phase)
        (enumerate_from 1 nodes))
    by false is = sym (ap (map (drawn_node (Some phase))) (none_placed phase 1 nodes is))

nodes_are : (head : List WhyLine) (graph : Graph) → whole_told nodes_by head graph ≡ drawn_nodes graph.nodes
nodes_are head graph =
    let in_none = singles (drawn_node None) (filter (λ (m : ℕ × GraphNode). stands_in None m.1.phase)
    (enumerate_from 1 graph.nodes)) in
    let no_edges : flat_map (λ (e : GraphEdge). nodes_by None (edge_said e)) graph.edges ≡ [] = none_of graph.edges in
    append-nil _
    ∙ (λ i. phase_nodes phases.Boot graph.nodes i ++ phase_nodes phases.System graph.nodes i
    ++ phase_nodes phases.Automatic graph.nodes i
    ++ in_none i ++ no_edges i)
    ∙ append-nil (drawn_nodes graph.nodes)

-- ---- edges

nothing_told : {X : Type 0} (by : Option (List ℕ) → Statement → List X) (phase : Phase) (nodes : List GraphNode)
    → cluster_told by phase nodes ≡ [] → phase_told by phase nodes ≡ []
nothing_told by phase nodes none = cases (has_some phase nodes)
  where
    cases : (b : Bool) → cond b (cluster_told by phase nodes) [] ≡ []
    cases true = none
    cases false = refl

no_edges_in : (phase : Phase) (nodes : List GraphNode) → phase_told edges_by phase nodes ≡ []
no_edges_in phase nodes =
    nothing_told edges_by phase nodes
    (append-nil _ ∙ none_of (filter (λ (m : ℕ × GraphNode). stands_in (Some phase) m.1.phase) (enumerate_from 1 nodes)))

edges_are : (head : List WhyLine) (graph : Graph) → whole_told edges_by head graph ≡ map drawn_edge graph.edges
edges_are head graph =
    let in_none : told_of edges_by None None graph.nodes ≡ [] =
    none_of (filter (λ (m : ℕ × GraphNode). stands_in None m.1.phase) (enumerate_from 1 graph.nodes)) in
    append-nil _
    ∙ (λ i. no_edges_in phases.Boot graph.nodes i ++ no_edges_in phases.System graph.nodes i
    ++ no_edges_in phases.Automatic graph.nodes i
    ++ in_none i ++ singles drawn_edge graph.edges i)

-- ---- settings

settings_in : (phase : Phase) (nodes : List GraphNode) → phase_told settings_by phase nodes ≡ phase_settings phase nodes
settings_in phase nodes = cases (has_some phase nodes)
  where
    cases : (b : Bool) → cond b (cluster_told settings_by phase nodes) []
        ≡ cond b ((Some (cluster_of phase), (codes "label", phase_word phase)) ∷ []) []
    cases true =
        append-nil _
        ∙ ap (λ (ss : List Setting). (Some (cluster_of phase), (codes "label", phase_word phase)) ∷ ss)
        (none_of (filter (λ (m : ℕ × GraphNode). stands_in (Some phase) m.1.phase) (enumerate_from 1 nodes)))
    cases false = refl

settings_are : (head : List WhyLine) (graph : Graph) → whole_told settings_by head graph
    ≡ drawn_settings head graph.nodes
settings_are head graph =
    let in_none : told_of settings_by None None graph.nodes ≡ [] =
    none_of (filter (λ (m : ℕ × GraphNode). stands_in None m.1.phase) (enumerate_from 1 graph.nodes)) in
    let no_edges : flat_map (λ (e : GraphEdge). settings_by None (edge_said e)) graph.edges
    ≡ [] = none_of graph.edges in
    let label : Setting = (None, (codes "label", in_quotes (head_text head))) in
    append-nil _
    ∙ (λ i. label ∷ (settings_in phases.Boot graph.nodes i ++ settings_in phases.System graph.nodes i
    ++ settings_in phases.Automatic graph.nodes i
    ++ in_none i) ++ no_edges i)
    ∙ append-nil _ ∙ append-nil _

-- ---- the text

pub text_is_drawn : TextIsDrawn
text_is_drawn head graph = record {
  dot = ap is_graph (text_said head graph) ∙ whole_is_rest head graph;
  nodes = ap (said_in nodes_by None) (text_said head graph) ∙ whole_tells nodes_by head graph ∙ nodes_are head graph;
  edges = ap (said_in edges_by None) (text_said head graph) ∙ whole_tells edges_by head graph ∙ edges_are head graph;
  settings = ap (said_in settings_by None) (text_said head graph) ∙ whole_tells settings_by head graph
      ∙ settings_are head graph;
}
