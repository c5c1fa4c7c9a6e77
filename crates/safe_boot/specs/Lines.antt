-- Which line of the report is each line of a start in safe mode?
use Rattle.report_words.specs.declared.words.TryWord.TheVariants as tries
use Rattle.report_words.specs.declared.line.Line.{Line}
use Rattle.report_words.specs.declared.line.Line.TheVariants as lines
use Rattle.start_model.specs.Starter.{phase_line}
use Rattle.boot_phases.specs.boot_phases.Phases.{phase_in}
use Rattle.safe_boot.specs.declared.lines.SafeLine.{SafeLine}
use Rattle.safe_boot.specs.declared.lines.SafeLine.TheVariants as code

abbrev pub line_of : SafeLine → Line
line_of (code.Phase phase) = phase_line (phase_in phase)
line_of (code.Started name) = lines.Try name tries.Ok
line_of (code.Unmet name) = lines.Unmet name
