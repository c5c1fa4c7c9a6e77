-- What is a script without its `vital` lines, and which lines tell of a missing name? (this project's own)
use Rattle.std.specs.Prelude.{Bool, true, false, List, [], ◌∷◌}
use Rattle.report_words.specs.declared.line.Line.{Line}
use Rattle.report_words.specs.declared.line.Line.TheVariants.{Vital as VitalLine}
use Rattle.start_model.specs.Events.{Event, Vital}

-- the other events, in their order
abbrev pub without_vital : List Event → List Event
without_vital [] = []
without_vital (Vital name ∷ es) = without_vital es
without_vital (e ∷ es) = e ∷ without_vital es

-- the line says that a vital name is missing
abbrev pub is_missing_line : Line → Bool
is_missing_line (VitalLine name) = true
is_missing_line line = false
