-- What does the text of a graph have between quotes, and what is it made of? (this project's own; DOT is the language of Graphviz)
use Rattle.std.specs.Prelude.{◌≡◌, ℕ, zero, suc, ◌-◌, ◌==◌, Bool, true, false, not, ◌&&◌, ◌||◌, List, [], ◌∷◌, length, codes, if◌then◌else◌}
use Rattle.std.specs.List.{AllByRecursion, flat_map, list_all, starts_with}
use Rattle.nt_bytes.specs.Text.{is_printable}
use Rattle.json_laws.specs.Objects.{AreUnits}
use Rattle.report_text.specs.declared.line_text.form.ReportForm.TheVariants as forms
use Rattle.answer_lines.specs.declared.why_lines.lines.WhyLine.{WhyLine}
use Rattle.answer_lines.specs.declared.why_lines.lines.WhyLine.TheVariants as lines
use Rattle.answer_lines.specs.declared.graph_lines.graph.GraphNode.{GraphNode}
use Rattle.answer_lines.specs.declared.graph_lines.graph.Graph.{Graph}
use Rattle.why_text.specs.graph_text.Dot.{in_quotes}
use Rattle.why_text.specs.graph_text.Objects.{printed_graph}

-- ---- between quotes

-- a byte other than a quote and a backslash
abbrev pub is_plain : ℕ → Bool
is_plain c = not (c == 34) && not (c == 92)

-- such a byte, or a backslash before a backslash or a quote
abbrev pub is_piece : List ℕ → Bool
is_piece [] = false
is_piece (c ∷ []) = is_plain c
is_piece (c ∷ d ∷ []) = (c == 92) && ((d == 92) || (d == 34))
is_piece (c ∷ d ∷ e ∷ text) = false

-- a sequence of such pieces
pub record IsQuoted (text : List ℕ) : Type 0 where
  pub pieces : List (List ℕ)
  pub each : list_all is_piece pieces ≡ true
  pub whole : text ≡ flat_map (λ (piece : List ℕ). piece) pieces

-- no backslash but before a backslash or a quote, and no quote alone
abbrev pub QuotedIsPieces : Type 0
QuotedIsPieces = (text : List ℕ) → IsQuoted (in_quotes text)

-- printable where the text is
abbrev pub QuotedIsPrintable : Type 0
QuotedIsPrintable = (text : List ℕ) → list_all is_printable text ≡ true → list_all is_printable (in_quotes text) ≡ true

-- ---- undone

-- the text with the byte in place of the other text wherever that stands, from left to right; that number of bytes at first belong to what was found
abbrev pub put_back : ℕ → List ℕ → ℕ → List ℕ → List ℕ
put_back byte other skipped [] = []
put_back byte other (suc skipped) (c ∷ text) = put_back byte other skipped text
put_back byte other zero (c ∷ text) =
    if starts_with (λ (a b : ℕ). a == b) (c ∷ text) other then byte ∷ put_back byte other (length other - 1) text
    else c ∷ put_back byte other 0 text

-- the three replacements, the last one first
abbrev pub out_of_quotes : List ℕ → List ℕ
out_of_quotes text = put_back 38 (codes "&amp;") 0 (put_back 92 (codes "\\\\") 0 (put_back 34 (codes "\\\"") 0 text))

-- undone, they give the text back
abbrev pub QuotedIsUndone : Type 0
QuotedIsUndone = (text : List ℕ) → out_of_quotes (in_quotes text) ≡ text

-- so two texts are never the same between quotes
abbrev pub QuotedIsOne : Type 0
QuotedIsOne = (a b : List ℕ) → in_quotes a ≡ in_quotes b → a ≡ b

-- ---- the whole

-- printable ASCII, or the end of a line
abbrev pub is_text_byte : ℕ → Bool
is_text_byte c = is_printable c || (c == 10)

-- a line about the start, whose name is of units
abbrev pub IsHeadLine : WhyLine → Type 0
IsHeadLine lines.NoBoot = Unit {0}
IsHeadLine (lines.Start number) = Unit {0}
IsHeadLine (lines.Set number on_good) = Unit {0}
IsHeadLine (lines.Verdict verdict) = Unit {0}
IsHeadLine (lines.EndedBy name) = AreUnits name
IsHeadLine (lines.Vital name) = AreUnits name
IsHeadLine line = ⊥

abbrev pub IsNamed : GraphNode → Type 0
IsNamed node = AreUnits node.name

-- the text of a graph has nothing else, where names are of units
abbrev pub DotIsText : Type 0
DotIsText =
    (head : List WhyLine) (graph : Graph) → AllByRecursion IsHeadLine head → AllByRecursion IsNamed graph.nodes
    → list_all is_text_byte (printed_graph forms.Text head graph) ≡ true
