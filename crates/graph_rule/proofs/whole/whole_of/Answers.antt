use Rattle.std.proofs.Common.{◌≡◌, ◌<◌, length, ap, ◌∙◌}
use Rattle.std.specs.Prelude.{IfSome}
use Rattle.std.specs.Option.{option_copied}
use Rattle.wait_cycles.specs.Graph.{AreEdges}
use Rattle.wait_cycles.proofs.InverseLemmas.{if_ok}
use Rattle.graph_rule.specs.declared.parts.GraphParts.{GraphParts}
use Rattle.graph_rule.specs.Rows.{whole_by, whole_of}
use Rattle.graph_rule.proofs.EdgeLemmas.{whole_is, edges_whole, start_whole}
use Rattle.graph_rule.proofs.whole.whole_of.Goals as goal

pub returns-clause-exact : goal.returns-clause-exact
returns-clause-exact c =
    let of = option_copied c.args.of in
    if_ok c.whole_by.result (λ w. w ≡ whole_by c.in_ok-parts.parts of) (λ w. w ≡ whole_of c.args.run.now of)
    (λ w e. whole_is c.args.run.now of c.in_ok-entries.entries w c.in_ok-entries.ensures
    (e ∙ ap (λ (p : GraphParts). whole_by p of) c.in_ok-parts.ensures))
    c.whole_by.ensures

pub returns-clause-edges : goal.returns-clause-edges
returns-clause-edges c =
    let of = option_copied c.args.of in
    if_ok c.whole_by.result (λ w. w ≡ whole_by c.in_ok-parts.parts of) (λ w. AreEdges w.rows)
    (λ w e. edges_whole c.args.run.now of c.in_ok-entries.entries w
    (e ∙ ap (λ (p : GraphParts). whole_by p of) c.in_ok-parts.ensures))
    c.whole_by.ensures

pub returns-clause-start : goal.returns-clause-start
returns-clause-start c =
    let of = option_copied c.args.of in
    if_ok c.whole_by.result (λ w. w ≡ whole_by c.in_ok-parts.parts of) (λ w. IfSome w.start (λ s. s < length w.rows))
    (λ w e. start_whole c.args.run.now of c.in_ok-entries.entries w
    (e ∙ ap (λ (p : GraphParts). whole_by p of) c.in_ok-parts.ensures))
    c.whole_by.ensures
