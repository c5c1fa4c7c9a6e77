use Rattle.std.proofs.Common.{false, map, ap, ◌∙◌}
use Rattle.report_words.specs.declared.line.Line.TheVariants.{Set as SetLine, End as EndLine}
use Rattle.safe_boot.specs.Lines.{line_of}
use Rattle.safe_boot.specs.Played.{safe_lines_by}
use Rattle.safe_command.proofs.TextLemmas.{framed}
use Rattle.safe_command.proofs.report.put_start.Goals as goal

pub returns : goal.returns
returns c =
    framed c.args.form c.put_end.result c.args.text.now.items c.put_set.new.text.items c.put_lines.new.text.items
    c.put_end.new.text.items
    (SetLine c.args.number false) EndLine (map line_of c.as_slice.result.now)
    (safe_lines_by c.args.set.now c.args.mode c.args.images) c.in_ok-put_set.ensures c.in_ok-put_lines.ensures
    (ap (map line_of) c.as_slice.ensures ∙ c.in_ok-lines.ensures) c.put_end.ensures
