use Rattle.std.proofs.Common.{◌++◌, refl}
use Rattle.std.specs.Prelude.{codes}
use Rattle.why_text.specs.graph_text.Dot.{in_quotes, label_text, shape_text, style_text, node_front, node_text}
use Rattle.why_text.proofs.PartLemmas.{then_part, last_part}
use Rattle.why_text.proofs.graph_text.dot.push_node.Goals as goal

pub returns : goal.returns
unfolding node_text
returns c =
    let old = c.args.out.now.items in
    let node = c.args.node.now in
    let m1 = c.push_front.new.out.items in
    let m2 = c.push_label.new.out.items in
    let m3 = c.push_text.new.out.items in
    let m4 = c.push_text-2.new.out.items in
    let m5 = c.push_text-3.new.out.items in
    let front = node_front c.args.before.now c.args.number in
    let label = in_quotes (label_text node) in
    let quote = codes "\"" in
    let shape = shape_text node.kind in
    let style = style_text node.state in
    let two = then_part old m1 m2 front label label c.in_ok-push_front.ensures c.in_ok-push_label.ensures refl in
    let three = then_part old m2 m3 (front ++ label) quote quote two c.in_ok-push_text.ensures refl in
    let four = then_part old m3 m4 (front ++ label ++ quote) shape c.shape_text.result.now three c.in_ok-push_text-2.ensures
    c.shape_text.ensures in
    let five = then_part old m4 m5 (front ++ label ++ quote ++ shape) style c.style_text.result.now four c.in_ok-push_text-3.ensures
    c.style_text.ensures in
    last_part c.push_text-4.result old m5 c.push_text-4.new.out.items (front ++ label ++ quote ++ shape ++ style) (codes "];\n") five
    c.push_text-4.ensures
