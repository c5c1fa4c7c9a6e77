-- What is asked of a line of a start, so that its object determines it? (this project's own)
use Rattle.std.specs.Prelude.{List}
use Rattle.std.specs.List.{AllByRecursion}
use Rattle.report_words.specs.declared.line.Line.{Line}
use Rattle.report_words.specs.declared.line.Line.TheVariants as lines
use Rattle.json_laws.specs.Objects.{IsNumber, AreUnits}

-- numbers are of 64 bits, and names of units
abbrev pub IsStartLine : Line → Type 0
IsStartLine (lines.Start number) = IsNumber number
IsStartLine (lines.Entry number path) = IsNumber number × AreUnits path
IsStartLine (lines.Load sequence recovered) = IsNumber sequence
IsStartLine (lines.Set number on_good) = IsNumber number
IsStartLine (lines.Commit what sequence) = IsNumber sequence
IsStartLine (lines.Select current default failed good) = IsNumber current × IsNumber default × IsNumber failed × IsNumber good
IsStartLine (lines.Phase word) = Unit {0}
IsStartLine (lines.Try name outcome) = AreUnits name
IsStartLine (lines.Unmet name) = AreUnits name
IsStartLine (lines.Vital name) = AreUnits name
IsStartLine lines.Logon = Unit {0}
IsStartLine (lines.SaveRefused full) = Unit {0}
IsStartLine lines.EditOk = Unit {0}
IsStartLine lines.FlushNothing = Unit {0}
IsStartLine (lines.Refused event why) = Unit {0}
IsStartLine (lines.Verdict word) = Unit {0}
IsStartLine lines.End = Unit {0}

-- so is each line of a report
abbrev pub AreStartLines : List Line → Type 0
AreStartLines lines = AllByRecursion IsStartLine lines
