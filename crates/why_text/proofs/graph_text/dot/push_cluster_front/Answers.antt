use Rattle.std.proofs.Common.{◌++◌, refl}
use Rattle.std.specs.Prelude.{codes}
use Rattle.why_text.specs.why_text.Lines.{phase_word}
use Rattle.why_text.specs.graph_text.Dot.{cluster_front}
use Rattle.why_text.proofs.PartLemmas.{then_part, last_part}
use Rattle.why_text.proofs.graph_text.dot.push_cluster_front.Goals as goal

pub returns : goal.returns
unfolding cluster_front
returns c =
    let old = c.args.out.now.items in
    let m1 = c.push_text.new.out.items in
    let m2 = c.push_text-2.new.out.items in
    let m3 = c.push_text-3.new.out.items in
    let m4 = c.push_text-4.new.out.items in
    let word = phase_word c.args.phase in
    let a = codes "  subgraph cluster_" in
    let b = codes " {\n    label=\"" in
    let two = then_part old m1 m2 a word c.phase_word.result.now c.in_ok-push_text.ensures c.in_ok-push_text-2.ensures c.phase_word.ensures in
    let three = then_part old m2 m3 (a ++ word) b b two c.in_ok-push_text-3.ensures refl in
    let four = then_part old m3 m4 (a ++ word ++ b) word c.phase_word-2.result.now three c.in_ok-push_text-4.ensures c.phase_word-2.ensures in
    last_part c.push_text-5.result old m4 c.push_text-5.new.out.items (a ++ word ++ b ++ word) (codes "\";\n") four c.push_text-5.ensures
