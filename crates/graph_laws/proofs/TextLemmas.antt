-- The text of a graph is ASCII.
use Rattle.std.proofs.Common.{◌≡◌, ℕ, zero, suc, ◌+◌, ◌/◌, ◌%◌, ◌<◌, ◌^◌, ◌==◌, ◌||◌, Bool, true, false, cond, List, [], ◌∷◌, ◌++◌, refl, ap, ◌∙◌}
use Rattle.std.proofs.Common.{arith}
use Rattle.std.specs.Prelude.{codes, Option, Some, None}
use Rattle.std.specs.List.{AllByRecursion, list_all, list_any, flat_map}
use Rattle.std.specs.Fmt.{decimal, digits, digits_onto, digit_glyph}
use Rattle.std.proofs.lemmas.Bool.{and_from, and_parts}
use Rattle.std.proofs.lemmas.Bool.Decides.{nat_tests}
use Rattle.std.proofs.lemmas.List.Elements.{All-head, All-tail}
use Rattle.std.proofs.lemmas.List.Folds.{list_all-append}
use Rattle.nt_bytes.specs.Text.{is_printable}
use Rattle.report_words.specs.declared.words.Verdict.{Verdict}
use Rattle.report_words.specs.declared.words.Verdict.TheVariants as verdicts
use Rattle.start_model.specs.Lines.{unit_text, escaped, name_text, set_word, verdict_word}
use Rattle.boot_phases.specs.declared.boot_phases.phase.Phase.{Phase}
use Rattle.boot_phases.specs.declared.boot_phases.phase.Phase.TheVariants as phases
use Rattle.json_laws.specs.Objects.{AreUnits}
use Rattle.answer_lines.specs.declared.why_lines.lines.WhyLine.{WhyLine}
use Rattle.answer_lines.specs.declared.why_lines.lines.WhyLine.TheVariants as lines
use Rattle.answer_lines.specs.declared.graph_lines.graph.NodeKind.{NodeKind}
use Rattle.answer_lines.specs.declared.graph_lines.graph.NodeKind.TheVariants as kinds
use Rattle.answer_lines.specs.declared.graph_lines.graph.NodeState.{NodeState}
use Rattle.answer_lines.specs.declared.graph_lines.graph.NodeState.TheVariants as states
use Rattle.answer_lines.specs.declared.graph_lines.graph.GraphNode.{GraphNode}
use Rattle.answer_lines.specs.declared.graph_lines.graph.GraphEdge.{GraphEdge}
use Rattle.why_text.specs.graph_text.Dot.{in_quotes, head_part, head_text, label_text, shape_text, style_text, node_text, stands_in, nodes_text, cluster_front, cluster_text, phase_text, edge_text, opening_text, all_nodes_text, dot_text}
use Rattle.graph_laws.specs.dot_laws.Texts.{is_text_byte, IsHeadLine, IsNamed, DotIsText}
use Rattle.graph_laws.proofs.QuoteLemmas.{are_printable}

-- ---- texts whose bytes all pass

record Passes (test : ℕ → Bool) (text : List ℕ) : Type 0 where
  pub all : list_all test text ≡ true

abbrev Prints : List ℕ → Type 0
Prints text = Passes is_printable text

abbrev IsText : List ℕ → Type 0
IsText text = Passes is_text_byte text

word : {test : ℕ → Bool} (text : List ℕ) → list_all test text ≡ true → Passes test text
word text is = record { all = is }

both : {test : ℕ → Bool} {a b : List ℕ} → Passes test a → Passes test b → Passes test (a ++ b)
both {test} {a} {b} x y = record { all = list_all-append test a b ∙ and_from _ _ x.all y.all }

either : {test : ℕ → Bool} {a b : List ℕ} (is : Bool) → Passes test a → Passes test b → Passes test (cond is a b)
either true x y = x
either false x y = y

wider : (p q : ℕ → Bool) → ((c : ℕ) → p c ≡ true → q c ≡ true) → (text : List ℕ) → list_all p text ≡ true
    → list_all q text ≡ true
wider p q is [] all = refl
wider p q is (c ∷ text) all =
    let parts = and_parts (p c) (list_all p text) all in
    and_from _ _ (is c parts.0) (wider p q is text parts.1)

as_text : {text : List ℕ} → Prints text → IsText text
as_text {text} p = record {
  all = wider is_printable is_text_byte
      (λ c is. ap (λ (b : Bool). b || (c == 10)) is) text p.all;
}

each : {X : Type 0} (test : ℕ → Bool) (f : X → List ℕ) (Is : X → Type 0) → ((x : X) → Is x → Passes test (f x))
    → (xs : List X)
    → AllByRecursion Is xs → Passes test (flat_map f xs)
each test f Is is [] are = word [] refl
each test f Is is (x ∷ xs) are = both (is x are.0) (each test f Is is xs are.1)

-- ---- numbers and names

glyph : (d : ℕ) → d < 16 → is_printable (digit_glyph false d) ≡ true
glyph d lt = grind (arith, nat_tests)

digits_print : (k n : ℕ) (acc : List ℕ) → Prints acc → Prints (digits_onto k 10 false n acc)
digits_print zero n acc p = p
digits_print (suc k) n acc p =
    let more : Prints (digit_glyph false (n % 10) ∷ acc) = word _ (and_from _ _ (glyph (n % 10) (omega arith)) p.all) in
    either (n / 10 == 0) more (digits_print k (n / 10) (digit_glyph false (n % 10) ∷ acc) more)

number_prints : (n : ℕ) → Prints (decimal n)
unfolding digits
number_prints n = digits_print 64 n [] (word [] refl)

escaped_prints : (u : ℕ) → u < 2 ^ 16 → list_all is_printable (escaped u) ≡ true
escaped_prints u lt =
    and_from _ _ (glyph (u / 4096) (omega arith)) (and_from _ _ (glyph (u / 256 % 16) (omega arith))
    (and_from _ _ (glyph (u / 16 % 16) (omega arith)) (and_from _ _ (glyph (u % 16) (omega arith)) refl)))

unit_prints : (u : ℕ) → u < 2 ^ 16 → Prints (unit_text u)
unfolding unit_text
unit_prints u lt = by (is_printable u) refl
  where
    by : (b : Bool) → is_printable u ≡ b → Prints (cond b (u ∷ []) (escaped u))
    by true is = word (u ∷ []) (and_from _ _ is refl)
    by false is = word (escaped u) (escaped_prints u lt)

name_prints : (name : List ℕ) → AreUnits name → Prints (name_text name)
name_prints [] are = word [] refl
name_prints (u ∷ name) are =
    both (unit_prints u (All-head (λ (n : ℕ). n < 2 ^ 16) u name are))
    (name_prints name (All-tail (λ (n : ℕ). n < 2 ^ 16) u name are))

quoted_prints : {text : List ℕ} → Prints text → Prints (in_quotes text)
quoted_prints {text} p = word (in_quotes text) (are_printable text p.all)

-- ---- the head

verdict_prints : (verdict : Verdict) → Prints (verdict_word verdict)
verdict_prints verdicts.Good = word (verdict_word verdicts.Good) refl
verdict_prints verdicts.GoodUnsaved = word (verdict_word verdicts.GoodUnsaved) refl
verdict_prints verdicts.Running = word (verdict_word verdicts.Running) refl
verdict_prints verdicts.FallBack = word (verdict_word verdicts.FallBack) refl
verdict_prints verdicts.Stopped = word (verdict_word verdicts.Stopped) refl
verdict_prints verdicts.Cut = word (verdict_word verdicts.Cut) refl
verdict_prints verdicts.Device = word (verdict_word verdicts.Device) refl
verdict_prints verdicts.Full = word (verdict_word verdicts.Full) refl
verdict_prints verdicts.NoNumber = word (verdict_word verdicts.NoNumber) refl
verdict_prints verdicts.NoEntry = word (verdict_word verdicts.NoEntry) refl
verdict_prints verdicts.OtherLoader = word (verdict_word verdicts.OtherLoader) refl
verdict_prints verdicts.NoSystem = word (verdict_word verdicts.NoSystem) refl
verdict_prints verdicts.NoControlSet = word (verdict_word verdicts.NoControlSet) refl
verdict_prints verdicts.NoLastKnownGood = word (verdict_word verdicts.NoLastKnownGood) refl

set_prints : (on_good : Bool) → Prints (set_word on_good)
set_prints true = word (set_word true) refl
set_prints false = word (set_word false) refl

part_prints : (line : WhyLine) → IsHeadLine line → Prints (head_part line)
part_prints lines.NoBoot is = word (codes "no-boot") refl
part_prints (lines.Start number) is = both (word (codes "start ") refl) (number_prints number)
part_prints (lines.Set number on_good) is =
    both (word (codes "set ") refl) (both (number_prints number) (both (word (codes " ") refl) (set_prints on_good)))
part_prints (lines.Verdict verdict) is = both (word (codes "verdict ") refl) (verdict_prints verdict)
part_prints (lines.EndedBy name) is = both (word (codes "ended-by ") refl) (name_prints name is)
part_prints (lines.Vital name) is = both (word (codes "vital ") refl)
    (both (name_prints name is) (word (codes " missing") refl))
part_prints (lines.Name name) is = absurd is
part_prints (lines.Entry kind start number control) is = absurd is
part_prints (lines.Place phase place of) is = absurd is
part_prints (lines.Group place name) is = absurd is
part_prints lines.NoGroup is = absurd is
part_prints (lines.Tag tag place) is = absurd is
part_prints lines.NoTag is = absurd is
part_prints (lines.Registry place) is = absurd is
part_prints (lines.After by name) is = absurd is
part_prints (lines.Before by name) is = absurd is
part_prints (lines.Pulled name) is = absurd is
part_prints lines.ReadyAtOnce is = absurd is
part_prints (lines.ReadyAfter name) is = absurd is
part_prints (lines.State state) is = absurd is
part_prints (lines.Unmet phase name) is = absurd is
part_prints (lines.LackService state name) is = absurd is
part_prints (lines.LackGroup has_members name) is = absurd is
part_prints (lines.Member state name) is = absurd is
part_prints (lines.Cycle name) is = absurd is
part_prints lines.End is = absurd is

head_prints : (head : List WhyLine) → AllByRecursion IsHeadLine head → Prints (head_text head)
head_prints [] are = word [] refl
head_prints (line ∷ head) are =
    both (part_prints line are.0)
    (each is_printable (λ (x : WhyLine). codes ", " ++ head_part x) IsHeadLine
    (λ x is. both (word (codes ", ") refl) (part_prints x is)) head are.1)

-- ---- nodes

shape_is_text : (kind : NodeKind) → IsText (shape_text kind)
shape_is_text kinds.Entry = word [] refl
shape_is_text kinds.Missing = word [] refl
shape_is_text kinds.Group = word (shape_text kinds.Group) refl

style_is_text : (state : NodeState) → IsText (style_text state)
style_is_text states.Started = word [] refl
style_is_text states.Failed = word (style_text states.Failed) refl
style_is_text states.Unmet = word (style_text states.Unmet) refl
style_is_text states.NotReached = word (style_text states.NotReached) refl
style_is_text states.Untaken = word (style_text states.Untaken) refl
style_is_text states.NoEntry = word (style_text states.NoEntry) refl

label_prints : (node : GraphNode) → IsNamed node → Prints (label_text node)
label_prints node is =
    both (either (node.number == 0) (word [] refl) (both (number_prints node.number) (word (codes " ") refl)))
    (name_prints node.name is)

node_is_text : {before : List ℕ} (n : ℕ) (node : GraphNode) → IsText before → IsNamed node
    → IsText (node_text before n node)
unfolding node_text
node_is_text n node before is =
    let front = both (both (both before (word (codes "n") refl)) (as_text (number_prints n)))
    (word (codes " [label=\"") refl) in
    both (both (both (both (both front (as_text (quoted_prints (label_prints node is)))) (word (codes "\"") refl))
    (shape_is_text node.kind))
    (style_is_text node.state)) (word (codes "];\n") refl)

nodes_are_text : {before : List ℕ} (place : Option Phase) (n : ℕ) (nodes : List GraphNode) → IsText before
    → AllByRecursion IsNamed nodes
    → IsText (nodes_text place before n nodes)
nodes_are_text place n [] before are = word [] refl
nodes_are_text place n (node ∷ nodes) before are =
    both (either (stands_in place node.phase) (node_is_text n node before are.0) (word [] refl))
    (nodes_are_text place (n + 1) nodes before are.1)

-- ---- phases, edges, and the whole

front_is_text : (phase : Phase) → IsText (cluster_front phase)
unfolding cluster_front
front_is_text phases.Boot = word (cluster_front phases.Boot) refl
front_is_text phases.System = word (cluster_front phases.System) refl
front_is_text phases.Automatic = word (cluster_front phases.Automatic) refl
front_is_text phases.Done = word (cluster_front phases.Done) refl

phase_is_text : (phase : Phase) (nodes : List GraphNode) → AllByRecursion IsNamed nodes
    → IsText (phase_text phase nodes)
unfolding phase_text cluster_text
phase_is_text phase nodes are =
    either (list_any (λ (node : GraphNode). stands_in (Some phase) node.phase) nodes)
    (both (both (front_is_text phase) (nodes_are_text (Some phase) 1 nodes (word (codes "    ") refl) are))
    (word (codes "  }\n") refl))
    (word [] refl)

edge_is_text : (edge : GraphEdge) → IsText (edge_text edge)
unfolding edge_text
edge_is_text edge =
    let ends = both (both (both (word (codes "  n") refl) (as_text (number_prints edge.from)))
    (word (codes " -> n") refl))
    (as_text (number_prints edge.to)) in
    both (both ends (either edge.of_group (word (codes " [style=dotted]") refl) (word [] refl)))
    (word (codes ";\n") refl)

edges_are_text : (edges : List GraphEdge) → IsText (flat_map edge_text edges)
edges_are_text [] = word [] refl
edges_are_text (edge ∷ edges) = both (edge_is_text edge) (edges_are_text edges)

whole_is_text : (head : List WhyLine) (nodes : List GraphNode) (edges : List GraphEdge) → AllByRecursion IsHeadLine head
    → AllByRecursion IsNamed nodes → IsText (dot_text head (record { nodes = nodes; edges = edges }))
unfolding dot_text opening_text all_nodes_text
whole_is_text head nodes edges are_head are =
    let opening = both (both (word (codes "digraph ntboot {\n  label=\"") refl)
    (as_text (quoted_prints (head_prints head are_head))))
    (word (codes "\";\n") refl) in
    let phases' = both (both (phase_is_text phases.Boot nodes are) (phase_is_text phases.System nodes are))
    (phase_is_text phases.Automatic nodes are) in
    let nodes' = both phases' (nodes_are_text None 1 nodes (word (codes "  ") refl) are) in
    both (both (both opening nodes') (edges_are_text edges)) (word (codes "}\n") refl)

pub dot_is_text : DotIsText
dot_is_text head graph are_head are = (whole_is_text head graph.nodes graph.edges are_head are).all
