use Rattle.std.specs.Prelude.{codes}
use Rattle.text_commands.proofs.LineLemmas.{three_parts}
use Rattle.text_commands.proofs.printing.push_refused_text.Goals as goal

pub returns : goal.returns
returns c =
    three_parts c.extend_from_slice-3.result c.args.out.now.items c.extend_from_slice.new.self.items
    c.extend_from_slice-2.new.self.items c.extend_from_slice-3.new.self.items
    (codes "import refused ") c.args.word.now (codes "\n")
    c.in_ok-extend_from_slice.ensures.items c.in_ok-extend_from_slice-2.ensures.items
    c.extend_from_slice-3.ensures.items
