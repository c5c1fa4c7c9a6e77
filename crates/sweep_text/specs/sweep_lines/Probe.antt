-- How is it known which lines of a report are an event's own? (this project's own)
--
-- A report ends with lines of no event: the verdict of a start that still runs, and the end. After the events comes one more, the probe,
-- which is refused whether a start runs or not, and changes nothing: an edit of what no script may edit. The line of its refusal parts the
-- lines of the events from those of the end.
use Rattle.std.specs.Prelude.{List, [], ◌∷◌, Option, None, Some, codes}
use Rattle.report_words.specs.declared.words.RefusedWord.{RefusedWord}
use Rattle.report_words.specs.declared.words.EventWord.TheVariants as events
use Rattle.report_words.specs.declared.words.RefusedWord.TheVariants as reasons
use Rattle.report_words.specs.declared.line.Line.{Line}
use Rattle.report_words.specs.declared.line.Line.TheVariants.{Refused as RefusedLine, Verdict as VerdictLine, End as EndLine}
use Rattle.start_model.specs.Events.{Event, Edits, Make}
use Rattle.start_model.specs.Machine.{Start, ending_of}

-- `make Select`
abbrev pub probe : Event
probe = Edits (Make (codes "Select" ∷ []))

abbrev pub probe_reason : Option Start → RefusedWord
probe_reason None = reasons.Off
probe_reason (Some s) = reasons.Protected

-- the end of a report, by the start that runs then
abbrev pub closing_lines : Option Start → List Line
closing_lines None = EndLine ∷ []
closing_lines (Some s) = VerdictLine (ending_of s) ∷ EndLine ∷ []

-- the probe's line, and the end
abbrev pub tail_of : Option Start → List Line
tail_of start = RefusedLine events.Make (probe_reason start) ∷ closing_lines start
