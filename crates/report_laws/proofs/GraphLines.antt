-- A graph, read from its objects.
use Rattle.std.proofs.Common.{◌≡◌, ℕ, ◌+◌, true, List, [], ◌∷◌, ◌++◌, map, Option, Some, None, refl, sym, ap, ◌∙◌, append_assoc, append-nil}
use Rattle.std.specs.Prelude.{codes, ◌||◌, if◌then◌else◌}
use Rattle.std.specs.Str.{bytes_eq}
use Rattle.std.specs.List.{AllByRecursion, flat_map}
use Rattle.std.proofs.lemmas.Grind.{flat_map-append}
use Rattle.std.proofs.lemmas.List.{append_cancel_right}
use Rattle.boot_phases.specs.declared.boot_phases.phase.Phase.{Phase}
use Rattle.boot_phases.specs.declared.boot_phases.phase.Phase.TheVariants as phases
use Rattle.report_text.specs.declared.line_text.form.ReportForm.TheVariants as forms
use Rattle.report_text.specs.line_text.Objects.{Number, Text}
use Rattle.json_laws.specs.Objects.{Object, IsObject, json_of, jsons_of, told}
use Rattle.json_laws.specs.Reports.{Fields, HasValues, has_words}
use Rattle.json_laws.proofs.LineKinds.{pick}
use Rattle.json_laws.proofs.ReportLemmas.{all_of, sound_object}
use Rattle.json_laws.proofs.Told.{parted_objects}
use Rattle.answer_lines.specs.declared.why_lines.lines.WhyLine.{WhyLine}
use Rattle.answer_lines.specs.declared.why_lines.lines.WhyLine.TheVariants as lines
use Rattle.why_text.specs.why_text.Lines.{line_text, line_word, printed_lines}
use Rattle.answer_lines.specs.declared.graph_lines.graph.NodeKind.{NodeKind}
use Rattle.answer_lines.specs.declared.graph_lines.graph.NodeKind.TheVariants as kinds
use Rattle.answer_lines.specs.declared.graph_lines.graph.NodeState.{NodeState}
use Rattle.answer_lines.specs.declared.graph_lines.graph.NodeState.TheVariants as states
use Rattle.answer_lines.specs.declared.graph_lines.graph.GraphNode.{GraphNode}
use Rattle.answer_lines.specs.declared.graph_lines.graph.GraphEdge.{GraphEdge}
use Rattle.answer_lines.specs.declared.graph_lines.graph.Graph.{Graph}
use Rattle.why_text.specs.graph_text.Objects.{kind_word, state_word, place_word, node_json, nodes_json, edge_json, json_text}
use Rattle.report_laws.specs.report_json_laws.Why.{why_reader}
use Rattle.report_laws.specs.report_json_laws.Graph.{head_object, node_object, nodes_objects, edge_object, end_object, graph_objects, joined, AreOneGraph}
use Rattle.report_laws.proofs.WhyLines as why

-- ---- a node, by the words in its object

abbrev kind_from : List ℕ → Option NodeKind
kind_from word = pick kind_word (kinds.Entry ∷ kinds.Missing ∷ kinds.Group ∷ []) word

kind_back : (kind : NodeKind) → kind_from (kind_word kind) ≡ Some kind
kind_back kinds.Entry = refl
kind_back kinds.Missing = refl
kind_back kinds.Group = refl

abbrev state_from : List ℕ → Option NodeState
state_from word =
    pick state_word (states.Started ∷ states.Failed ∷ states.Unmet ∷ states.NotReached ∷ states.Untaken
    ∷ states.NoEntry ∷ []) word

state_back : (state : NodeState) → state_from (state_word state) ≡ Some state
state_back states.Started = refl
state_back states.Failed = refl
state_back states.Unmet = refl
state_back states.NotReached = refl
state_back states.Untaken = refl
state_back states.NoEntry = refl

abbrev place_from : List ℕ → Option (Option Phase)
place_from word =
    pick place_word (None ∷ Some phases.Boot ∷ Some phases.System ∷ Some phases.Automatic ∷ Some phases.Done ∷ []) word

place_back : (place : Option Phase) → place_from (place_word place) ≡ Some place
place_back None = refl
place_back (Some phases.Boot) = refl
place_back (Some phases.System) = refl
place_back (Some phases.Automatic) = refl
place_back (Some phases.Done) = refl

abbrev by_words : Option NodeKind → Option (Option Phase) → Option NodeState → ℕ → List ℕ → Option GraphNode
by_words (Some kind) (Some phase) (Some state) number name =
    Some (record { kind = kind; phase = phase; state = state; number = number; name = name })
by_words kind phase state number name = None

abbrev by_fields : Fields → Option GraphNode
by_fields ((a, Number n) ∷ (b, Text k) ∷ (c, Text p) ∷ (d, Text s) ∷ (e, Number number) ∷ (f, Text name) ∷ []) =
    by_words (kind_from k) (place_from p) (state_from s) number name
by_fields other = None

abbrev node_from : Object → Option GraphNode
node_from o = if bytes_eq o.word (codes "node") then by_fields o.fields else None

node_back : (n : ℕ) (node : GraphNode) → node_from (told (node_object n node)) ≡ Some node
node_back n node =
    (λ i. by_words (kind_back node.kind i) (place_back node.phase i) (state_back node.state i) node.number node.name)

-- ---- an edge

abbrev ends_from : Fields → Option (ℕ × ℕ)
ends_from ((a, Number from) ∷ (b, Number to) ∷ []) = Some (from, to)
ends_from other = None

abbrev edge_from : Object → Option (ℕ × ℕ)
edge_from o = if bytes_eq o.word (codes "edge") then ends_from o.fields else None

-- ---- the text of any other line

abbrev text_from : Object → List ℕ
text_from o =
    if bytes_eq o.word (codes "node") || bytes_eq o.word (codes "edge") then [] else why_reader o.word o.fields

-- a line about the start is neither a node nor an edge
head_apart : (line : WhyLine) → (node_from (told (head_object line)) ≡ None)
    × (edge_from (told (head_object line)) ≡ None)
    × (text_from (told (head_object line)) ≡ why_reader (line_word line) (told (head_object line)).fields)
head_apart lines.NoBoot = (refl, refl, refl)
head_apart (lines.Start number) = (refl, refl, refl)
head_apart (lines.Set number on_good) = (refl, refl, refl)
head_apart (lines.Verdict verdict) = (refl, refl, refl)
head_apart (lines.EndedBy name) = (refl, refl, refl)
head_apart (lines.Vital name) = (refl, refl, refl)
head_apart (lines.Name name) = (refl, refl, refl)
head_apart (lines.Entry kind start number control) = (refl, refl, refl)
head_apart (lines.Place phase place of) = (refl, refl, refl)
head_apart (lines.Group place name) = (refl, refl, refl)
head_apart lines.NoGroup = (refl, refl, refl)
head_apart (lines.Tag tag place) = (refl, refl, refl)
head_apart lines.NoTag = (refl, refl, refl)
head_apart (lines.Registry place) = (refl, refl, refl)
head_apart (lines.After by name) = (refl, refl, refl)
head_apart (lines.Before by name) = (refl, refl, refl)
head_apart (lines.Pulled name) = (refl, refl, refl)
head_apart lines.ReadyAtOnce = (refl, refl, refl)
head_apart (lines.ReadyAfter name) = (refl, refl, refl)
head_apart (lines.State state) = (refl, refl, refl)
head_apart (lines.Unmet phase name) = (refl, refl, refl)
head_apart (lines.LackService state name) = (refl, refl, refl)
head_apart (lines.LackGroup has_members name) = (refl, refl, refl)
head_apart (lines.Member state name) = (refl, refl, refl)
head_apart (lines.Cycle name) = (refl, refl, refl)
head_apart lines.End = (refl, refl, refl)

-- ---- all of them

-- what is there of each
onto : {A : Type 0} → Option A → List A → List A
onto None xs = xs
onto (Some x) xs = x ∷ xs

kept : {A : Type 0} → (Object → Option A) → List Object → List A
kept from [] = []
kept from (o ∷ os) = onto (from o) (kept from os)

module _ {A : Type 0} (from : Object → Option A) where
  abbrev seen : List Object → List A
  seen os = kept from (map told os)

  seen_none : (o : Object) (os : List Object) → from (told o) ≡ None → seen (o ∷ os) ≡ seen os
  unfolding onto kept
  seen_none o os e = ap (λ (x : Option A). onto x (seen os)) e

  seen_some : (o : Object) (x : A) (os : List Object) → from (told o) ≡ Some x → seen (o ∷ os) ≡ x ∷ seen os
  unfolding onto kept
  seen_some o x os e = ap (λ (y : Option A). onto y (seen os)) e

  seen_head : (head : List WhyLine) (os : List Object) → ((line : WhyLine) → from (told (head_object line)) ≡ None)
      → seen (map head_object head ++ os) ≡ seen os
  seen_head [] os none = refl
  seen_head (line ∷ head) os none =
      seen_none (head_object line) (map head_object head ++ os) (none line) ∙ seen_head head os none

nodes_seen : (n : ℕ) (nodes : List GraphNode) (os : List Object)
    → seen node_from (nodes_objects n nodes ++ os) ≡ nodes ++ seen node_from os
nodes_seen n [] os = refl
nodes_seen n (node ∷ more) os =
    seen_some node_from (node_object n node) node (nodes_objects (n + 1) more ++ os) (node_back n node)
    ∙ ap (λ (rest : List GraphNode). node ∷ rest) (nodes_seen (n + 1) more os)

no_edge_in_nodes : (n : ℕ) (nodes : List GraphNode) (os : List Object)
    → seen edge_from (nodes_objects n nodes ++ os) ≡ seen edge_from os
no_edge_in_nodes n [] os = refl
no_edge_in_nodes n (node ∷ more) os =
    seen_none edge_from (node_object n node) (nodes_objects (n + 1) more ++ os) refl ∙ no_edge_in_nodes (n + 1) more os

edges_seen : (edges : List GraphEdge) (os : List Object)
    → seen edge_from (map edge_object edges ++ os) ≡ map joined edges ++ seen edge_from os
edges_seen [] os = refl
edges_seen (edge ∷ more) os =
    seen_some edge_from (edge_object edge) (joined edge) (map edge_object more ++ os) refl
    ∙ ap (λ (rest : List (ℕ × ℕ)). joined edge ∷ rest) (edges_seen more os)

no_node_in_edges : (edges : List GraphEdge) (os : List Object)
    → seen node_from (map edge_object edges ++ os) ≡ seen node_from os
no_node_in_edges [] os = refl
no_node_in_edges (edge ∷ more) os =
    seen_none node_from (edge_object edge) (map edge_object more ++ os) refl ∙ no_node_in_edges more os

end_kept : {A : Type 0} (from : Object → Option A) → from (told end_object) ≡ None → seen from (end_object ∷ []) ≡ []
unfolding kept
end_kept from none = seen_none from end_object [] none

all_nodes : (head : List WhyLine) (graph : Graph) → seen node_from (graph_objects head graph) ≡ graph.nodes
all_nodes head graph =
    let rest : List Object = map edge_object graph.edges ++ end_object ∷ [] in
    seen_head node_from head (nodes_objects 1 graph.nodes ++ rest) (λ line. (head_apart line).0)
    ∙ nodes_seen 1 graph.nodes rest
    ∙ ap (λ (more : List GraphNode). graph.nodes ++ more)
    (no_node_in_edges graph.edges (end_object ∷ []) ∙ end_kept node_from refl)
    ∙ append-nil graph.nodes

all_edges : (head : List WhyLine) (graph : Graph) → seen edge_from (graph_objects head graph) ≡ map joined graph.edges
all_edges head graph =
    let rest : List Object = map edge_object graph.edges ++ end_object ∷ [] in
    seen_head edge_from head (nodes_objects 1 graph.nodes ++ rest) (λ line. (head_apart line).1)
    ∙ no_edge_in_nodes 1 graph.nodes rest
    ∙ edges_seen graph.edges (end_object ∷ [])
    ∙ ap (λ (more : List (ℕ × ℕ)). map joined graph.edges ++ more) (end_kept edge_from refl)
    ∙ append-nil (map joined graph.edges)

-- ---- the text of the first lines

abbrev texts : List Object → List ℕ
texts os = flat_map text_from (map told os)

head_texts : (head : List WhyLine) (os : List Object)
    → texts (map head_object head ++ os) ≡ flat_map line_text head ++ texts os
head_texts [] os = refl
head_texts (line ∷ head) os =
    (λ i. ((head_apart line).2 ∙ (why.read line).back) i ++ head_texts head os i)
    ∙ sym (append_assoc (line_text line) (flat_map line_text head) (texts os))

no_text_in_nodes : (n : ℕ) (nodes : List GraphNode) (os : List Object) → texts (nodes_objects n nodes ++ os) ≡ texts os
no_text_in_nodes n [] os = refl
no_text_in_nodes n (node ∷ more) os = no_text_in_nodes (n + 1) more os

no_text_in_edges : (edges : List GraphEdge) (os : List Object) → texts (map edge_object edges ++ os) ≡ texts os
no_text_in_edges [] os = refl
no_text_in_edges (edge ∷ more) os = no_text_in_edges more os

all_texts : (head : List WhyLine) (graph : Graph)
    → texts (graph_objects head graph) ≡ flat_map line_text head ++ codes "end\n"
all_texts head graph =
    let rest : List Object = map edge_object graph.edges ++ end_object ∷ [] in
    head_texts head (nodes_objects 1 graph.nodes ++ rest)
    ∙ ap (λ (t : List ℕ). flat_map line_text head ++ t)
    (no_text_in_nodes 1 graph.nodes rest ∙ no_text_in_edges graph.edges (end_object ∷ []))

-- ---- the objects as they are printed

head_jsons : (head : List WhyLine) → printed_lines forms.Json head ≡ jsons_of (map head_object head)
unfolding printed_lines
head_jsons [] = refl
head_jsons (line ∷ head) = ap (λ (t : List ℕ). json_of (head_object line) ++ t) (head_jsons head)

nodes_jsons : (n : ℕ) (nodes : List GraphNode) → nodes_json n nodes ≡ jsons_of (nodes_objects n nodes)
unfolding node_json
nodes_jsons n [] = refl
nodes_jsons n (node ∷ more) = ap (λ (t : List ℕ). json_of (node_object n node) ++ t) (nodes_jsons (n + 1) more)

edges_jsons : (edges : List GraphEdge) → flat_map edge_json edges ≡ jsons_of (map edge_object edges)
unfolding edge_json
edges_jsons [] = refl
edges_jsons (edge ∷ more) = ap (λ (t : List ℕ). json_of (edge_object edge) ++ t) (edges_jsons more)

graph_jsons : (head : List WhyLine) (graph : Graph) → json_text head graph ≡ jsons_of (graph_objects head graph)
unfolding json_text
graph_jsons head graph =
    let h : List Object = map head_object head in
    let n : List Object = nodes_objects 1 graph.nodes in
    let e : List Object = map edge_object graph.edges in
    (λ i. ((head_jsons head i ++ nodes_jsons 1 graph.nodes i) ++ edges_jsons graph.edges i) ++ json_of end_object)
    ∙ append_assoc (jsons_of h ++ jsons_of n) (jsons_of e) (json_of end_object)
    ∙ append_assoc (jsons_of h) (jsons_of n) (jsons_of e ++ json_of end_object)
    ∙ sym (flat_map-append json_of h (n ++ (e ++ end_object ∷ []))
    ∙ ap (λ (t : List ℕ). jsons_of h ++ t) (flat_map-append json_of n (e ++ end_object ∷ [])
    ∙ ap (λ (t : List ℕ). jsons_of n ++ t) (flat_map-append json_of e (end_object ∷ []))))

-- ---- objects

abbrev AreWords : List Object → Type 0
AreWords os = AllByRecursion (λ o. has_words o ≡ true) os

head_words : (head : List WhyLine) → AreWords (map head_object head)
head_words [] = tt
head_words (line ∷ head) = ((why.read line).words, head_words head)

nodes_words : (n : ℕ) (nodes : List GraphNode) → AreWords (nodes_objects n nodes)
nodes_words n [] = tt
nodes_words n (node ∷ more) = (refl, nodes_words (n + 1) more)

edges_words : (edges : List GraphEdge) → AreWords (map edge_object edges)
edges_words [] = tt
edges_words (edge ∷ more) = (refl, edges_words more)

graph_words : (head : List WhyLine) (graph : Graph) → AreWords (graph_objects head graph)
graph_words head graph =
    let is : Object → Type 0 = λ o. has_words o ≡ true in
    let e : List Object = map edge_object graph.edges in
    let n : List Object = nodes_objects 1 graph.nodes in
    all_of is (map head_object head) (n ++ (e ++ end_object ∷ [])) (head_words head)
    (all_of is n (e ++ end_object ∷ []) (nodes_words 1 graph.nodes)
    (all_of is e (end_object ∷ []) (edges_words graph.edges) (refl, tt)))

all_sound : (os : List Object) → AreWords os → AllByRecursion HasValues os → AllByRecursion IsObject os
all_sound [] words values = tt
all_sound (o ∷ os) words values = (sound_object o words.0 values.0, all_sound os words.1 values.1)

pub graph_told : (head top : List WhyLine) (graph other : Graph) → AllByRecursion HasValues (graph_objects head graph)
    → AllByRecursion HasValues (graph_objects top other) → json_text head graph ≡ json_text top other
    → AreOneGraph head top graph other
unfolding printed_lines
graph_told head top graph other values_a values_b e =
    let same : map told (graph_objects head graph) ≡ map told (graph_objects top other) =
    parted_objects (graph_objects head graph) (graph_objects top other)
    (all_sound (graph_objects head graph) (graph_words head graph) values_a)
    (all_sound (graph_objects top other) (graph_words top other) values_b)
    (sym (graph_jsons head graph) ∙ e ∙ graph_jsons top other) in
    record {
      first = append_cancel_right (flat_map line_text head) (flat_map line_text top) (codes "end\n")
          (sym (all_texts head graph) ∙ ap (flat_map text_from) same ∙ all_texts top other);
      nodes = sym (all_nodes head graph) ∙ ap (kept node_from) same ∙ all_nodes top other;
      edges = sym (all_edges head graph) ∙ ap (kept edge_from) same ∙ all_edges top other;
    }
