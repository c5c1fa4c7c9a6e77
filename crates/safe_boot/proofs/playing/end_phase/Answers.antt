use Rattle.std.proofs.Common.{◌∙◌, ◌++◌, map, ap}
use Rattle.report_words.specs.declared.line.Line.TheVariants.{Unmet as UnmetLine}
use Rattle.safe_boot.specs.Lines.{line_of}
use Rattle.safe_boot.proofs.PlayLemmas.{ended_by}
use Rattle.safe_boot.proofs.playing.end_phase.Goals as goal

pub returns : goal.returns
returns c =
    ended_by c.push.result c.args.lists.now c.args.machine.now c.next_phase_listed.new.self c.args.lines.now
    c.push_unmet.new.lines c.push.new.self c.in_ok-unmet.unmet c.phase.result c.in_ok-unmet.ensures.machine
    c.in_ok-unmet.ensures.unmet
    (c.in_ok-push_unmet.ensures ∙ ap (λ ns. map line_of c.args.lines.now ++ map UnmetLine ns) c.as_slice.ensures)
    c.phase.ensures c.push.ensures.ok
