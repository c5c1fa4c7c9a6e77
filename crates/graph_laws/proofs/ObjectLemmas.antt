-- The objects of a graph give it back.
use Rattle.std.proofs.Common.{◌≡◌, ℕ, ◌+◌, ◌≤◌, ◌^◌, cond, List, [], ◌∷◌, ◌++◌, map, length, Option, Some, None, refl, sym, ap, ◌∙◌, append-nil, arith}
use Rattle.std.specs.Prelude.{bytes_eq, codes}
use Rattle.std.specs.Option.{option_map}
use Rattle.std.specs.List.{AllByRecursion, flat_map, enumerate_from}
use Rattle.std.proofs.lemmas.Grind.{flat_map-append}
use Rattle.start_model.specs.Lines.{set_word, verdict_word}
use Rattle.boot_phases.specs.declared.boot_phases.phase.Phase.{Phase}
use Rattle.boot_phases.specs.declared.boot_phases.phase.Phase.TheVariants as phases
use Rattle.report_words.specs.declared.words.Verdict.{Verdict}
use Rattle.report_words.specs.declared.words.Verdict.TheVariants as verdicts
use Rattle.report_text.specs.declared.line_text.form.ReportForm.TheVariants as forms
use Rattle.report_text.specs.line_text.Objects.{Value, Number, Text, object_text}
use Rattle.json_laws.specs.Objects.{Object, IsObject, IsNumber, AreUnits, json_of, told}
use Rattle.json_laws.proofs.Units.{word_units}
use Rattle.json_laws.proofs.LineKinds.{Kind, pick, lines_told}
use Rattle.json_laws.proofs.Words.{flag_from, set_back, set_units, verdict_units}
use Rattle.answer_lines.specs.declared.why_lines.lines.WhyLine.{WhyLine}
use Rattle.answer_lines.specs.declared.why_lines.lines.WhyLine.TheVariants as lines
use Rattle.why_text.specs.why_text.Lines.{line_word, line_fields, line_json, printed_lines}
use Rattle.answer_lines.specs.declared.graph_lines.graph.NodeKind.{NodeKind}
use Rattle.answer_lines.specs.declared.graph_lines.graph.NodeKind.TheVariants as kinds
use Rattle.answer_lines.specs.declared.graph_lines.graph.NodeState.{NodeState}
use Rattle.answer_lines.specs.declared.graph_lines.graph.NodeState.TheVariants as states
use Rattle.answer_lines.specs.declared.graph_lines.graph.GraphNode.{GraphNode}
use Rattle.answer_lines.specs.declared.graph_lines.graph.GraphEdge.{GraphEdge}
use Rattle.answer_lines.specs.declared.graph_lines.graph.Graph.{Graph}
use Rattle.why_text.specs.graph_text.Objects.{kind_word, state_word, place_word, node_fields, node_json, nodes_json, edge_json, json_text, printed_graph}
use Rattle.graph_laws.proofs.DrawingLemmas.{singles, none_of}
use Rattle.graph_laws.specs.dot_laws.Forms.{is_group_numbered, IsInRange, FitsTypes, IsStartEdge, IsStartLine, ObjectsTellGraph, ObjectsTellText}

-- ---- words

abbrev kind_from : List ℕ → Option NodeKind
kind_from word = pick kind_word (kinds.Entry ∷ kinds.Missing ∷ kinds.Group ∷ []) word

kind_back : (x : NodeKind) → kind_from (kind_word x) ≡ Some x
kind_back kinds.Entry = refl
kind_back kinds.Missing = refl
kind_back kinds.Group = refl

kind_units : (x : NodeKind) → AreUnits (kind_word x)
kind_units kinds.Entry = word_units (kind_word kinds.Entry) refl
kind_units kinds.Missing = word_units (kind_word kinds.Missing) refl
kind_units kinds.Group = word_units (kind_word kinds.Group) refl

abbrev state_from : List ℕ → Option NodeState
state_from word =
    pick state_word (states.Started ∷ states.Failed ∷ states.Unmet ∷ states.NotReached ∷ states.Untaken ∷ states.NoEntry
    ∷ []) word

state_back : (x : NodeState) → state_from (state_word x) ≡ Some x
state_back states.Started = refl
state_back states.Failed = refl
state_back states.Unmet = refl
state_back states.NotReached = refl
state_back states.Untaken = refl
state_back states.NoEntry = refl

state_units : (x : NodeState) → AreUnits (state_word x)
state_units states.Started = word_units (state_word states.Started) refl
state_units states.Failed = word_units (state_word states.Failed) refl
state_units states.Unmet = word_units (state_word states.Unmet) refl
state_units states.NotReached = word_units (state_word states.NotReached) refl
state_units states.Untaken = word_units (state_word states.Untaken) refl
state_units states.NoEntry = word_units (state_word states.NoEntry) refl

abbrev place_from : List ℕ → Option (Option Phase)
place_from word =
    pick place_word (None ∷ Some phases.Boot ∷ Some phases.System ∷ Some phases.Automatic ∷ Some phases.Done ∷ []) word

place_back : (x : Option Phase) → place_from (place_word x) ≡ Some x
place_back None = refl
place_back (Some phases.Boot) = refl
place_back (Some phases.System) = refl
place_back (Some phases.Automatic) = refl
place_back (Some phases.Done) = refl

place_units : (x : Option Phase) → AreUnits (place_word x)
place_units None = word_units (place_word None) refl
place_units (Some phases.Boot) = word_units (place_word (Some phases.Boot)) refl
place_units (Some phases.System) = word_units (place_word (Some phases.System)) refl
place_units (Some phases.Automatic) = word_units (place_word (Some phases.Automatic)) refl
place_units (Some phases.Done) = word_units (place_word (Some phases.Done)) refl

abbrev verdict_from : List ℕ → Option Verdict
verdict_from word =
    pick (λ (v : Verdict). verdict_word v)
    (verdicts.Good ∷ verdicts.GoodUnsaved ∷ verdicts.Running ∷ verdicts.FallBack ∷ verdicts.Stopped ∷ verdicts.Cut
    ∷ verdicts.Device
    ∷ verdicts.Full ∷ verdicts.NoNumber ∷ verdicts.NoEntry ∷ verdicts.OtherLoader ∷ verdicts.NoSystem
    ∷ verdicts.NoControlSet
    ∷ verdicts.NoLastKnownGood ∷ []) word

verdict_back : (x : Verdict) → verdict_from (verdict_word x) ≡ Some x
verdict_back verdicts.Good = refl
verdict_back verdicts.GoodUnsaved = refl
verdict_back verdicts.Running = refl
verdict_back verdicts.FallBack = refl
verdict_back verdicts.Stopped = refl
verdict_back verdicts.Cut = refl
verdict_back verdicts.Device = refl
verdict_back verdicts.Full = refl
verdict_back verdicts.NoNumber = refl
verdict_back verdicts.NoEntry = refl
verdict_back verdicts.OtherLoader = refl
verdict_back verdicts.NoSystem = refl
verdict_back verdicts.NoControlSet = refl
verdict_back verdicts.NoLastKnownGood = refl

-- ---- lines

-- what an object of a graph is about
data GraphLine : Type 0 where
  HeadLine : WhyLine → GraphLine
  NodeLine : ℕ → GraphNode → GraphLine
  EdgeLine : ℕ → ℕ → GraphLine
  EndLine : GraphLine

abbrev Fields : Type 0
Fields = List (List ℕ × Value)

abbrev object_of : GraphLine → Object
object_of (HeadLine line) = record { word = line_word line; fields = line_fields line }
object_of (NodeLine n node) = record { word = codes "node"; fields = node_fields n node }
object_of (EdgeLine from to) = record {
  word = codes "edge";
  fields = (codes "from", Number from)
      ∷ (codes "to", Number to) ∷ [];
}
object_of EndLine = record { word = codes "end"; fields = [] }

abbrev IsGraphLine : GraphLine → Type 0
IsGraphLine (HeadLine line) = IsStartLine line
IsGraphLine (NodeLine n node) = IsNumber n × IsInRange node
IsGraphLine (EdgeLine from to) = IsNumber from × IsNumber to
IsGraphLine EndLine = Unit {0}

sound_head : (line : WhyLine) → IsStartLine line → IsObject (object_of (HeadLine line))
sound_head lines.NoBoot is = record { word = refl; fields = tt }
sound_head (lines.Start number) is = record { word = refl; fields = ((refl, is), tt) }
sound_head (lines.Set number on_good) is = record {
  word = refl;
  fields =
      ((refl, is), ((refl, set_units on_good), tt));
}
sound_head (lines.Verdict verdict) is = record {
  word = refl;
  fields =
      ((refl, verdict_units verdict), tt);
}
sound_head (lines.EndedBy name) is = record { word = refl; fields = ((refl, is), tt) }
sound_head (lines.Vital name) is = record { word = refl; fields = ((refl, is), tt) }
sound_head line is = absurd is

sound_object : (l : GraphLine) → IsGraphLine l → IsObject (object_of l)
sound_object (HeadLine line) is = sound_head line is
sound_object (NodeLine n node) is = record {
  word = refl;
  fields = (
    (refl, is.0),
    (
      (refl, kind_units node.kind),
      (
        (refl, place_units node.phase),
        ((refl, state_units node.state), ((refl, is.1.0), ((refl, is.1.1), tt))),
      ),
    ),
  );
}
sound_object (EdgeLine from to) is = record { word = refl; fields = ((refl, is.0), ((refl, is.1), tt)) }
sound_object EndLine is = record { word = refl; fields = tt }

-- ---- back

abbrev bare : GraphLine → Fields → Option GraphLine
bare l [] = Some l
bare l (f ∷ fs) = None

abbrev number_then : (ℕ → Option GraphLine) → Fields → Option GraphLine
number_then line ((key, Number n) ∷ []) = line n
number_then line other = None

abbrev text_then : (List ℕ → Option GraphLine) → Fields → Option GraphLine
text_then line ((key, Text t) ∷ []) = line t
text_then line other = None

abbrev number_text_then : (ℕ → List ℕ → Option GraphLine) → Fields → Option GraphLine
number_text_then line ((key, Number n) ∷ (next, Text t) ∷ []) = line n t
number_text_then line other = None

abbrev numbers_then : (ℕ → ℕ → Option GraphLine) → Fields → Option GraphLine
numbers_then line ((key, Number n) ∷ (next, Number m) ∷ []) = line n m
numbers_then line other = None

abbrev node_with : ℕ → ℕ → List ℕ → Option NodeKind → Option (Option Phase) → Option NodeState → Option GraphLine
node_with n number name (Some kind) (Some phase) (Some state) =
    Some (NodeLine n (record { kind = kind; phase = phase; state = state; number = number; name = name }))
node_with n number name kind phase state = None

abbrev node_from : Fields → Option GraphLine
node_from ((a, Number n) ∷ (b, Text kind) ∷ (c, Text place) ∷ (d, Text state) ∷ (e, Number number) ∷ (f, Text name)
    ∷ []) =
    node_with n number name (kind_from kind) (place_from place) (state_from state)
node_from other = None

abbrev rows : List (List ℕ × (Fields → Option GraphLine))
rows =
    (codes "no-boot", bare (HeadLine lines.NoBoot))
    ∷ (codes "start", number_then (λ n. Some (HeadLine (lines.Start n))))
    ∷ (codes "set", number_text_then (λ n t. option_map (λ b. HeadLine (lines.Set n b)) (flag_from set_word t)))
    ∷ (codes "verdict", text_then (λ t. option_map (λ v. HeadLine (lines.Verdict v)) (verdict_from t)))
    ∷ (codes "ended-by", text_then (λ t. Some (HeadLine (lines.EndedBy t))))
    ∷ (codes "vital", text_then (λ t. Some (HeadLine (lines.Vital t))))
    ∷ (codes "node", node_from)
    ∷ (codes "edge", numbers_then (λ n m. Some (EdgeLine n m)))
    ∷ (codes "end", bare EndLine)
    ∷ []

abbrev by_row : List (List ℕ × (Fields → Option GraphLine)) → List ℕ → Fields → Option GraphLine
by_row [] word fields = None
by_row (r ∷ rs) word fields = cond (bytes_eq r.0 word) (r.1 fields) (by_row rs word fields)

abbrev line_from : Object → Option GraphLine
line_from o = by_row rows o.word o.fields

head_back : (line : WhyLine) → IsStartLine line → line_from (told (object_of (HeadLine line))) ≡ Some (HeadLine line)
head_back lines.NoBoot is = refl
head_back (lines.Start number) is = refl
head_back (lines.Set number on_good) is = ap (option_map (λ b. HeadLine (lines.Set number b))) (set_back on_good)
head_back (lines.Verdict verdict) is = ap (option_map (λ v. HeadLine (lines.Verdict v))) (verdict_back verdict)
head_back (lines.EndedBy name) is = refl
head_back (lines.Vital name) is = refl
head_back line is = absurd is

back : (l : GraphLine) → IsGraphLine l → line_from (told (object_of l)) ≡ Some l
back (HeadLine line) is = head_back line is
back (NodeLine n node) is =
    (λ i. node_with n node.number node.name (kind_back node.kind i) (place_back node.phase i) (state_back node.state i))
back (EdgeLine from to) is = refl
back EndLine is = refl

abbrev graph_kind : Kind GraphLine
graph_kind = record {
  json = λ l. json_of (object_of l);
  object = object_of;
  Is = IsGraphLine;
  from = line_from;
  is = λ l. refl;
  sound = sound_object;
  back = back;
}

-- ---- the lines of a graph

abbrev node_line : ℕ × GraphNode → GraphLine
node_line n = NodeLine n.0 n.1

abbrev edge_line : GraphEdge → GraphLine
edge_line edge = EdgeLine edge.from edge.to

abbrev lines_of : List WhyLine → Graph → List GraphLine
lines_of heads graph = map HeadLine heads ++ map node_line (enumerate_from 1 graph.nodes) ++ map edge_line graph.edges
    ++ EndLine ∷ []

mapped : {X Y Z : Type 0} (f : X → Y) (h : Y → List Z) (xs : List X) → flat_map h (map f xs)
    ≡ flat_map (λ (x : X). h (f x)) xs
mapped f h [] = refl
mapped f h (x ∷ xs) = ap (λ zs. h (f x) ++ zs) (mapped f h xs)

-- what is made of each line
of_lines : {Z : Type 0} (h : GraphLine → List Z) (heads : List WhyLine) (graph : Graph)
    → flat_map h (lines_of heads graph)
    ≡ flat_map (λ (l : WhyLine). h (HeadLine l)) heads
    ++ flat_map (λ (n : ℕ × GraphNode). h (node_line n)) (enumerate_from 1 graph.nodes)
    ++ flat_map (λ (e : GraphEdge). h (edge_line e)) graph.edges ++ flat_map h (EndLine ∷ [])
of_lines h heads graph =
    let a = map HeadLine heads in
    let b = map node_line (enumerate_from 1 graph.nodes) in
    let c = map edge_line graph.edges in
    flat_map-append h (a ++ b ++ c) (EndLine ∷ [])
    ∙ ap (λ zs. zs ++ flat_map h (EndLine ∷ []))
    (flat_map-append h (a ++ b) c ∙ ap (λ zs. zs ++ flat_map h c) (flat_map-append h a b))
    ∙ (λ i. mapped HeadLine h heads i ++ mapped node_line h (enumerate_from 1 graph.nodes) i
    ++ mapped edge_line h graph.edges i
    ++ flat_map h (EndLine ∷ []))

nodes_as : (n : ℕ) (nodes : List GraphNode) → nodes_json n nodes
    ≡ flat_map (λ (m : ℕ × GraphNode). json_of (object_of (node_line m))) (enumerate_from n nodes)
unfolding node_json
nodes_as n [] = refl
nodes_as n (node ∷ nodes) = ap (λ t. json_of (object_of (NodeLine n node)) ++ t) (nodes_as (n + 1) nodes)

heads_as : (heads : List WhyLine) → printed_lines forms.Json heads
    ≡ flat_map (λ (l : WhyLine). json_of (object_of (HeadLine l))) heads
unfolding printed_lines
heads_as [] = refl
heads_as (line ∷ heads) = ap (λ t. line_json line ++ t) (heads_as heads)

edges_as : (edges : List GraphEdge) → flat_map edge_json edges
    ≡ flat_map (λ (e : GraphEdge). json_of (object_of (edge_line e))) edges
unfolding edge_json
edges_as [] = refl
edges_as (edge ∷ edges) = ap (λ t. json_of (object_of (edge_line edge)) ++ t) (edges_as edges)

json_is : (heads : List WhyLine) (graph : Graph) → json_text heads graph
    ≡ flat_map (λ l. json_of (object_of l)) (lines_of heads graph)
unfolding json_text
json_is heads graph =
    (λ i. heads_as heads i ++ nodes_as 1 graph.nodes i ++ edges_as graph.edges i ++ object_text (codes "end") [])
    ∙ sym (of_lines (λ l. json_of (object_of l)) heads graph)

-- ---- and back

abbrev head_in : GraphLine → List WhyLine
head_in (HeadLine line) = line ∷ []
head_in (NodeLine n node) = []
head_in (EdgeLine from to) = []
head_in EndLine = []

abbrev node_in : GraphLine → List GraphNode
node_in (HeadLine line) = []
node_in (NodeLine n node) = node ∷ []
node_in (EdgeLine from to) = []
node_in EndLine = []

abbrev ends_in : GraphLine → List (ℕ × ℕ)
ends_in (HeadLine line) = []
ends_in (NodeLine n node) = []
ends_in (EdgeLine from to) = (from, to) ∷ []
ends_in EndLine = []

alone : {X : Type 0} (xs : List X) → flat_map (λ (x : X). x ∷ []) xs ≡ xs
alone [] = refl
alone (x ∷ xs) = ap (λ ys. x ∷ ys) (alone xs)

unnumbered : (n : ℕ) (nodes : List GraphNode) → flat_map (λ (m : ℕ × GraphNode). m.1 ∷ []) (enumerate_from n nodes)
    ≡ nodes
unnumbered n [] = refl
unnumbered n (node ∷ nodes) = ap (λ ns. node ∷ ns) (unnumbered (n + 1) nodes)

abbrev ends_of : GraphEdge → ℕ × ℕ
ends_of edge = (edge.from, edge.to)

heads_back : (heads : List WhyLine) (graph : Graph) → flat_map head_in (lines_of heads graph) ≡ heads
heads_back heads graph =
    let no_nodes : flat_map (λ (n : ℕ × GraphNode). head_in (node_line n)) (enumerate_from 1 graph.nodes)
    ≡ [] = none_of (enumerate_from 1 graph.nodes) in
    let no_edges : flat_map (λ (e : GraphEdge). head_in (edge_line e)) graph.edges ≡ [] = none_of graph.edges in
    of_lines head_in heads graph ∙ (λ i. alone heads i ++ no_nodes i ++ no_edges i ++ [])
    ∙ append-nil (heads ++ [] ++ [])
    ∙ append-nil (heads ++ []) ∙ append-nil heads

nodes_back : (heads : List WhyLine) (graph : Graph) → flat_map node_in (lines_of heads graph) ≡ graph.nodes
nodes_back heads graph =
    let no_heads : flat_map (λ (l : WhyLine). node_in (HeadLine l)) heads ≡ [] = none_of heads in
    let no_edges : flat_map (λ (e : GraphEdge). node_in (edge_line e)) graph.edges ≡ [] = none_of graph.edges in
    of_lines node_in heads graph ∙ (λ i. no_heads i ++ unnumbered 1 graph.nodes i ++ no_edges i ++ [])
    ∙ append-nil (graph.nodes ++ [])
    ∙ append-nil graph.nodes

edges_back : (heads : List WhyLine) (graph : Graph) → flat_map ends_in (lines_of heads graph) ≡ map ends_of graph.edges
edges_back heads graph =
    let no_heads : flat_map (λ (l : WhyLine). ends_in (HeadLine l)) heads ≡ [] = none_of heads in
    let no_nodes : flat_map (λ (n : ℕ × GraphNode). ends_in (node_line n)) (enumerate_from 1 graph.nodes)
    ≡ [] = none_of (enumerate_from 1 graph.nodes) in
    of_lines ends_in heads graph ∙ (λ i. no_heads i ++ no_nodes i ++ singles ends_of graph.edges i ++ [])
    ∙ append-nil (map ends_of graph.edges)

-- ---- sound lines

all_both : {X : Type 0} (P : X → Type 0) (xs ys : List X) → AllByRecursion P xs → AllByRecursion P ys
    → AllByRecursion P (xs ++ ys)
all_both P [] ys a b = b
all_both P (x ∷ xs) ys a b = (a.0, all_both P xs ys a.1 b)

sound_heads : (heads : List WhyLine) → AllByRecursion IsStartLine heads
    → AllByRecursion IsGraphLine (map HeadLine heads)
sound_heads [] are = tt
sound_heads (line ∷ heads) are = (are.0, sound_heads heads are.1)

sound_nodes : (n : ℕ) (nodes : List GraphNode) → n + length nodes ≤ 2 ^ 64 → AllByRecursion IsInRange nodes
    → AllByRecursion IsGraphLine (map node_line (enumerate_from n nodes))
sound_nodes n [] le are = tt
sound_nodes n (node ∷ nodes) le are = ((omega (arith, le), are.0), sound_nodes (n + 1) nodes (omega (arith, le)) are.1)

sound_edges : (edges : List GraphEdge) → AllByRecursion (λ (edge : GraphEdge). IsNumber edge.from) edges
    → AllByRecursion (λ (edge : GraphEdge). IsNumber edge.to) edges → AllByRecursion IsGraphLine (map edge_line edges)
sound_edges [] from to = tt
sound_edges (edge ∷ edges) from to = ((from.0, to.0), sound_edges edges from.1 to.1)

sound_lines : (heads : List WhyLine) (graph : Graph) → AllByRecursion IsStartLine heads → FitsTypes graph
    → AllByRecursion IsGraphLine (lines_of heads graph)
sound_lines heads graph are fits =
    let a = sound_heads heads are in
    let b = sound_nodes 1 graph.nodes (omega (arith, fits.count)) fits.nodes in
    let c = sound_edges graph.edges fits.from fits.to in
    let ab = all_both IsGraphLine (map HeadLine heads) (map node_line (enumerate_from 1 graph.nodes)) a b in
    let abc = all_both IsGraphLine (map HeadLine heads ++ map node_line (enumerate_from 1 graph.nodes))
    (map edge_line graph.edges) ab c in
    all_both IsGraphLine (map HeadLine heads ++ map node_line (enumerate_from 1 graph.nodes)
    ++ map edge_line graph.edges) (EndLine ∷ []) abc (tt, tt)

-- ---- the graph

abbrev pub first_or : {X : Type 0} → X → List X → X
first_or x [] = x
first_or x (y ∷ ys) = y

abbrev pub rest_of : {X : Type 0} → List X → List X
rest_of [] = []
rest_of (x ∷ xs) = xs

same_edges : (ns ms : List GraphNode) (es fs : List GraphEdge) → ns ≡ ms → AllByRecursion (IsStartEdge ns) es
    → AllByRecursion (IsStartEdge ms) fs
    → map ends_of es ≡ map ends_of fs → es ≡ fs
same_edges ns ms [] [] same a b is = refl
same_edges ns ms [] (f ∷ fs) same a b is = absurd cc
same_edges ns ms (e ∷ es) [] same a b is = absurd cc
same_edges ns ms (e ∷ es) (f ∷ fs) same a b is =
    let first : ends_of e ≡ ends_of f = ap (first_or (ends_of e)) is in
    let others : es ≡ fs = same_edges ns ms es fs same a.1 b.1 (ap rest_of is) in
    let group : e.of_group ≡ f.of_group = a.0 ∙ (λ i. is_group_numbered (same i) (first i).0) ∙ sym b.0 in
    (λ i. (record { from = (first i).0; to = (first i).1; of_group = group i }) ∷ others i)

pub objects_tell : ObjectsTellGraph
objects_tell heads more g f is_heads is_more is_g is_f fits_g fits_f same =
    let lines = lines_told graph_kind (lines_of heads g) (lines_of more f) (sound_lines heads g is_heads fits_g)
    (sound_lines more f is_more fits_f) (sym (json_is heads g) ∙ same ∙ json_is more f) in
    let heads' : heads ≡ more = sym (heads_back heads g) ∙ ap (flat_map head_in) lines ∙ heads_back more f in
    let nodes : g.nodes ≡ f.nodes = sym (nodes_back heads g) ∙ ap (flat_map node_in) lines ∙ nodes_back more f in
    let ends : map ends_of g.edges ≡ map ends_of f.edges = sym (edges_back heads g) ∙ ap (flat_map ends_in) lines
    ∙ edges_back more f in
    let edges = same_edges g.nodes f.nodes g.edges f.edges nodes is_g.edges is_f.edges ends in
    (heads', (λ i. record { nodes = nodes i; edges = edges i }))

pub objects_tell_text : ObjectsTellText
objects_tell_text heads more g f is_heads is_more is_g is_f fits_g fits_f same =
    let both = objects_tell heads more g f is_heads is_more is_g is_f fits_g fits_f same in
    (λ i. printed_graph forms.Text (both.0 i) (both.1 i))
