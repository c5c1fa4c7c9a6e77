use Rattle.std.proofs.Common.{ℕ, List, sym, subst}
use Rattle.wait_cycles.specs.Graph.{AreEdges}
use Rattle.graph_rule.proofs.marks.marks_of.Goals as goal

pub inverse-requires : goal.inverse-requires
inverse-requires c = subst (λ (rows : List (List ℕ)). AreEdges rows) (sym c.as_slice-rows.ensures) c.requires.edges

pub marks_about-requires-clause-edges : goal.marks_about-requires-clause-edges
marks_about-requires-clause-edges c =
    subst (λ (rows : List (List ℕ)). AreEdges rows) (sym c.as_slice-rows.ensures) c.requires.edges
