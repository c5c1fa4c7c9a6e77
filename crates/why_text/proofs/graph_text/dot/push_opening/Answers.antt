use Rattle.std.proofs.Common.{◌++◌, List, ℕ, ap, ◌∙◌}
use Rattle.std.specs.Prelude.{codes}
use Rattle.why_text.specs.graph_text.Dot.{in_quotes, head_text, opening_text}
use Rattle.why_text.proofs.PartLemmas.{then_part, last_part}
use Rattle.why_text.proofs.graph_text.dot.push_opening.Goals as goal

pub returns : goal.returns
unfolding opening_text
returns c =
    let old = c.args.out.now.items in
    let m1 = c.push_text.new.out.items in
    let m2 = c.push_in_quotes.new.out.items in
    let head = head_text c.args.head.now in
    let a = codes "digraph ntboot {\n  label=\"" in
    let label = c.as_slice.ensures.value ∙ c.in_ok-push_head.ensures ∙ ap (λ (xs : List ℕ). xs ++ head) c.new-label.ensures.items in
    let two = then_part old m1 m2 a (in_quotes head) (in_quotes c.as_slice.result.now) c.in_ok-push_text.ensures
    c.in_ok-push_in_quotes.ensures (ap in_quotes label) in
    last_part c.push_text-2.result old m2 c.push_text-2.new.out.items (a ++ in_quotes head) (codes "\";\n") two c.push_text-2.ensures
