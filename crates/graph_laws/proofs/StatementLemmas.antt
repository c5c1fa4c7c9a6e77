-- The text of a graph is read statement by statement.
use Rattle.std.proofs.Common.{◌≡◌, ℕ, ◌+◌, ◌||◌, ◌&&◌, not, Bool, true, false, cond, List, [], ◌∷◌, ◌++◌, map, refl, sym, ap, subst, ◌∙◌, append_assoc, append-nil, arith}
use Rattle.std.specs.Prelude.{codes, nat_le, nat_eq, bytes_eq, filter, Option, Some, None}
use Rattle.std.specs.List.{list_all, list_any, flat_map, enumerate_from}
use Rattle.std.specs.Fmt.{decimal}
use Rattle.std.proofs.lemmas.Bool.{and_parts}
use Rattle.std.proofs.lemmas.Bool.Decides.{nat_tests}
use Rattle.boot_phases.specs.declared.boot_phases.phase.Phase.{Phase}
use Rattle.boot_phases.specs.declared.boot_phases.phase.Phase.TheVariants as phases
use Rattle.answer_lines.specs.declared.why_lines.lines.WhyLine.{WhyLine}
use Rattle.why_text.specs.why_text.Lines.{phase_word}
use Rattle.json_laws.proofs.Values.{all_digits}
use Rattle.answer_lines.specs.declared.graph_lines.graph.NodeKind.{NodeKind}
use Rattle.answer_lines.specs.declared.graph_lines.graph.NodeKind.TheVariants as kinds
use Rattle.answer_lines.specs.declared.graph_lines.graph.NodeState.{NodeState}
use Rattle.answer_lines.specs.declared.graph_lines.graph.NodeState.TheVariants as states
use Rattle.answer_lines.specs.declared.graph_lines.graph.GraphNode.{GraphNode}
use Rattle.answer_lines.specs.declared.graph_lines.graph.GraphEdge.{GraphEdge}
use Rattle.answer_lines.specs.declared.graph_lines.graph.Graph.{Graph}
use Rattle.why_text.specs.graph_text.Dot.{in_quotes, head_text, label_text, shape_text, style_text, node_front, node_text, stands_in, nodes_text, cluster_front, cluster_text, phase_text, dotted_text, edge_text, opening_text, all_nodes_text, dot_text}
use Rattle.graph_laws.specs.dot_laws.Tokens.{Token, Word, OpenBracket, Equals, Arrow, InWord, InQuotes, is_digit}
use Rattle.graph_laws.specs.dot_laws.Statements.{Attribute, Statement, Begins, Opens, Closes, Sets, Node, Edge, lower, is_keyword, id_of, node_of, edge_of, statements_of}
use Rattle.graph_laws.specs.dot_laws.Drawings.{node_id, cluster_of, shape_attributes, style_attributes, node_attributes, dotted_attributes}
use Rattle.graph_laws.proofs.TokenLemmas.{at, start, read_from, Reads, nothing, then, in_word, quoted}

-- ---- identifiers of nodes

other_byte : (c : ℕ) (b : Bool) → is_digit c ≡ true → nat_eq 111 (cond b (c + 32) c) ≡ false
other_byte c true is = grind (arith, nat_tests)
other_byte c false is = grind (arith, nat_tests)

no_keyword : (digits : List ℕ) → list_all is_digit digits ≡ true → is_keyword (110 ∷ digits) ≡ false
no_keyword [] all = refl
no_keyword (c ∷ digits) all =
    ap (λ (b : Bool). (b && bytes_eq (codes "de") (map lower digits)) || false)
    (other_byte c (nat_le 65 c && nat_le c 90) (and_parts (is_digit c) (list_all is_digit digits) all).0)

node_is : (n : ℕ) → id_of (Word (node_id n)) ≡ Some (node_id n)
node_is n = ap (λ (b : Bool). cond (not b) (Some (node_id n)) None) (no_keyword (decimal n) (all_digits n))

-- ---- a node

moved : (x a b c d : List ℕ) → x ++ a ++ b ++ c ++ d ≡ x ++ (a ++ b ++ c ++ d)
moved x a b c d =
    ap (λ (t : List ℕ). t ++ c ++ d) (append_assoc x a b) ∙ ap (λ (t : List ℕ). t ++ d) (append_assoc x (a ++ b) c)
    ∙ append_assoc x (a ++ b ++ c) d

-- the tokens of a node up to its label
abbrev labelled : List ℕ → List Token
labelled id = Word id ∷ OpenBracket ∷ Word (codes "label") ∷ Equals ∷ []

abbrev tail_text : NodeKind → NodeState → List ℕ
tail_text kind state = codes "\"" ++ shape_text kind ++ style_text state ++ codes "];\n"

abbrev attributes_with : List ℕ → NodeKind → NodeState → List Attribute
attributes_with label kind state = (codes "label", label) ∷ shape_attributes kind ++ style_attributes state

-- from the end of its label on
abbrev TailReads : NodeKind → NodeState → Type 0
TailReads kind state =
    (id label rest : List ℕ) → read_from (at (InQuotes label) (labelled id)) (tail_text kind state ++ rest)
    ≡ node_of (id_of (Word id)) (Some (attributes_with label kind state)) ∷ read_from start rest

tail_read : (kind : NodeKind) (state : NodeState) → TailReads kind state
tail_read kinds.Entry states.Started id label rest = refl
tail_read kinds.Entry states.Failed id label rest = refl
tail_read kinds.Entry states.Unmet id label rest = refl
tail_read kinds.Entry states.NotReached id label rest = refl
tail_read kinds.Entry states.Untaken id label rest = refl
tail_read kinds.Entry states.NoEntry id label rest = refl
tail_read kinds.Missing states.Started id label rest = refl
tail_read kinds.Missing states.Failed id label rest = refl
tail_read kinds.Missing states.Unmet id label rest = refl
tail_read kinds.Missing states.NotReached id label rest = refl
tail_read kinds.Missing states.Untaken id label rest = refl
tail_read kinds.Missing states.NoEntry id label rest = refl
tail_read kinds.Group states.Started id label rest = refl
tail_read kinds.Group states.Failed id label rest = refl
tail_read kinds.Group states.Unmet id label rest = refl
tail_read kinds.Group states.NotReached id label rest = refl
tail_read kinds.Group states.Untaken id label rest = refl
tail_read kinds.Group states.NoEntry id label rest = refl

front_read : {before : List ℕ} (n : ℕ) → Reads start before [] start
    → Reads start (node_front before n) [] (at (InQuotes []) (labelled (node_id n)))
front_read n blank =
    let word : Reads start (codes "n") [] (at (InWord (codes "n")) []) = record { all = λ rest. refl } in
    let label : Reads (at (InWord (node_id n)) []) (codes " [label=\"") [] (at (InQuotes []) (labelled (node_id n))) =
    record { all = λ rest. refl } in
    then (then (then blank word) (in_word (codes "n") (decimal n) [] (all_digits n))) label

abbrev pub node_said : ℕ × GraphNode → Statement
node_said n = Node (node_id n.0) (node_attributes n.1)

node_read : {before : List ℕ} (n : ℕ) (node : GraphNode) → Reads start before [] start
    → Reads start (node_text before n node) (node_said (n, node) ∷ []) start
unfolding node_text
node_read {before} n node blank =
    let label = in_quotes (label_text node) in
    let tail : Reads (at (InQuotes label) (labelled (node_id n))) (tail_text node.kind node.state)
    (node_said (n, node) ∷ []) start =
    record {
      all = λ rest. tail_read node.kind node.state (node_id n) label rest
          ∙ ap (λ (id : Option (List ℕ)). node_of id (Some (attributes_with label node.kind node.state))
          ∷ read_from start rest) (node_is n);
    } in
    subst (λ (t : List ℕ). Reads start t (node_said (n, node) ∷ []) start)
    (sym (moved (node_front before n ++ label) (codes "\"") (shape_text node.kind) (style_text node.state)
    (codes "];\n")))
    (then (then (front_read n blank) (quoted (label_text node) (labelled (node_id n)))) tail)

-- ---- nodes

-- the nodes that are in a phase, or in none, numbered on from n
abbrev pub nodes_said : Option Phase → ℕ → List GraphNode → List Statement
nodes_said place n nodes = map node_said (filter (λ (m : ℕ × GraphNode). stands_in place m.1.phase)
    (enumerate_from n nodes))

nodes_read : {before : List ℕ} (place : Option Phase) (n : ℕ) (nodes : List GraphNode) → Reads start before [] start
    → Reads start (nodes_text place before n nodes) (nodes_said place n nodes) start
nodes_read place n [] blank = nothing
nodes_read {before} place n (node ∷ nodes) blank = by (stands_in place node.phase)
    (nodes_read place (n + 1) nodes blank)
  where
    by : (b : Bool) → Reads start (nodes_text place before (n + 1) nodes) (nodes_said place (n + 1) nodes) start
        → Reads start (cond b (node_text before n node) [] ++ nodes_text place before (n + 1) nodes)
        (map node_said (cond b ((n, node) ∷ filter (λ (m : ℕ × GraphNode). stands_in place m.1.phase)
        (enumerate_from (n + 1) nodes))
        (filter (λ (m : ℕ × GraphNode). stands_in place m.1.phase) (enumerate_from (n + 1) nodes)))) start
    by true rest = then (node_read n node blank) rest
    by false rest = rest

-- ---- phases

abbrev pub label_said : List ℕ → Statement
label_said label = Sets (codes "label", label)

abbrev pub has_some : Phase → List GraphNode → Bool
has_some phase nodes = list_any (λ (node : GraphNode). stands_in (Some phase) node.phase) nodes

abbrev pub front_said : Phase → List Statement
front_said phase = Opens (cluster_of phase) ∷ label_said (phase_word phase) ∷ []

abbrev pub cluster_said : Phase → List GraphNode → List Statement
cluster_said phase nodes = front_said phase ++ nodes_said (Some phase) 1 nodes ++ Closes ∷ []

abbrev pub phase_said : Phase → List GraphNode → List Statement
phase_said phase nodes = cond (has_some phase nodes) (cluster_said phase nodes) []

cluster_read : (phase : Phase) → Reads start (cluster_front phase) (front_said phase) start
unfolding cluster_front
cluster_read phases.Boot = record { all = λ rest. refl }
cluster_read phases.System = record { all = λ rest. refl }
cluster_read phases.Automatic = record { all = λ rest. refl }
cluster_read phases.Done = record { all = λ rest. refl }

phase_read : (phase : Phase) (nodes : List GraphNode)
    → Reads start (phase_text phase nodes) (phase_said phase nodes) start
unfolding phase_text cluster_text
phase_read phase nodes = by (has_some phase nodes)
  where
    by : (b : Bool) → Reads start (cond b (cluster_front phase ++ nodes_text (Some phase) (codes "    ") 1 nodes
        ++ codes "  }\n") [])
        (cond b (cluster_said phase nodes) []) start
    by true =
        then (then (cluster_read phase) (nodes_read (Some phase) 1 nodes (record { all = λ rest. refl })))
        (record { all = λ rest. refl })
    by false = nothing

-- ---- edges

abbrev pub edge_said : GraphEdge → Statement
edge_said edge = Edge (node_id edge.from) (node_id edge.to) (dotted_attributes edge.of_group)

end_read : (of_group : Bool) (from to rest : List ℕ)
    → read_from (at (InWord to) (Word from ∷ Arrow ∷ [])) (dotted_text of_group ++ codes ";\n" ++ rest)
    ≡ edge_of (id_of (Word from)) (id_of (Word to)) (Some (dotted_attributes of_group)) ∷ read_from start rest
end_read true from to rest = refl
end_read false from to rest = refl

edge_read : (edge : GraphEdge) → Reads start (edge_text edge) (edge_said edge ∷ []) start
unfolding edge_text
edge_read edge =
    let word : Reads start (codes "  n") [] (at (InWord (codes "n")) []) = record { all = λ rest. refl } in
    let arrow : Reads (at (InWord (node_id edge.from)) []) (codes " -> n") []
    (at (InWord (codes "n")) (Word (node_id edge.from) ∷ Arrow ∷ [])) =
    record { all = λ rest. refl } in
    let ends = then (then (then word (in_word (codes "n") (decimal edge.from) [] (all_digits edge.from))) arrow)
    (in_word (codes "n") (decimal edge.to) (Word (node_id edge.from) ∷ Arrow ∷ []) (all_digits edge.to)) in
    let end : Reads (at (InWord (node_id edge.to)) (Word (node_id edge.from) ∷ Arrow ∷ []))
    (dotted_text edge.of_group ++ codes ";\n")
    (edge_said edge ∷ []) start =
    record {
      all = λ rest. end_read edge.of_group (node_id edge.from) (node_id edge.to) rest
          ∙ (λ i. edge_of (node_is edge.from i) (node_is edge.to i) (Some (dotted_attributes edge.of_group))
          ∷ read_from start rest);
    } in
    subst (λ (t : List ℕ). Reads start t (edge_said edge ∷ []) start)
    (sym (append_assoc (codes "  n" ++ decimal edge.from ++ codes " -> n" ++ decimal edge.to)
    (dotted_text edge.of_group) (codes ";\n")))
    (then ends end)

edges_read : (edges : List GraphEdge) → Reads start (flat_map edge_text edges) (map edge_said edges) start
edges_read [] = nothing
edges_read (edge ∷ edges) = then (edge_read edge) (edges_read edges)

-- ---- the whole

opening_read : (head : List WhyLine) → Reads start (opening_text head)
    (Begins (codes "ntboot") ∷ label_said (in_quotes (head_text head)) ∷ []) start
unfolding opening_text
opening_read head =
    let front : Reads start (codes "digraph ntboot {\n  label=\"") (Begins (codes "ntboot") ∷ [])
    (at (InQuotes []) (Word (codes "label") ∷ Equals ∷ [])) =
    record { all = λ rest. refl } in
    let end : Reads (at (InQuotes (in_quotes (head_text head))) (Word (codes "label") ∷ Equals ∷ [])) (codes "\";\n")
    (label_said (in_quotes (head_text head)) ∷ []) start =
    record { all = λ rest. refl } in
    then (then front (quoted (head_text head) (Word (codes "label") ∷ Equals ∷ []))) end

abbrev pub all_said : List GraphNode → List Statement
all_said nodes = phase_said phases.Boot nodes ++ phase_said phases.System nodes ++ phase_said phases.Automatic nodes
    ++ nodes_said None 1 nodes

abbrev pub whole_said : List WhyLine → Graph → List Statement
whole_said head graph =
    (Begins (codes "ntboot") ∷ label_said (in_quotes (head_text head)) ∷ []) ++ all_said graph.nodes
    ++ map edge_said graph.edges ++ Closes ∷ []

whole_read : (head : List WhyLine) (graph : Graph) → Reads start (dot_text head graph) (whole_said head graph) start
unfolding dot_text all_nodes_text
whole_read head graph =
    let clusters = then (then (phase_read phases.Boot graph.nodes) (phase_read phases.System graph.nodes))
    (phase_read phases.Automatic graph.nodes) in
    let all = then clusters (nodes_read None 1 graph.nodes (record { all = λ rest. refl })) in
    then (then (then (opening_read head) all) (edges_read graph.edges)) (record { all = λ rest. refl })

pub text_said : (head : List WhyLine) (graph : Graph) → statements_of (dot_text head graph) ≡ whole_said head graph
text_said head graph =
    ap statements_of (sym (append-nil (dot_text head graph))) ∙ (whole_read head graph).all []
    ∙ append-nil (whole_said head graph)
