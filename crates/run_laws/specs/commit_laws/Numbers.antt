-- Which number may a line of a report say, and under which may the disk load after it? (this project's own)
use Rattle.std.specs.Prelude.{◌≡◌, ◌⊎◌, ◌+◌, ◌%◌, ℕ, Bool, true, false, ◌||◌, List, [], ◌∷◌, Option, None, Some}
use Rattle.report_words.specs.declared.words.Verdict.TheVariants as verdicts
use Rattle.report_words.specs.declared.line.Line.{Line}
use Rattle.report_words.specs.declared.line.Line.TheVariants.{Load as LoadLine, Commit as CommitLine, Verdict as VerdictLine}

-- the number that a line says: the hive was loaded under it, or a change of it is on the disk under it
abbrev pub number_of : Line → Option ℕ
number_of (LoadLine number recovered) = Some number
number_of (CommitLine what number) = Some number
number_of other = None

-- none of the lines says a number
abbrev pub AreUnnumbered : List Line → Type 0
AreUnnumbered [] = Unit {0}
AreUnnumbered (l ∷ ls) = (number_of l ≡ None) × AreUnnumbered ls

-- the line reports a stop: the verdict of a cut or a device fault
abbrev pub is_stop_line : Line → Bool
is_stop_line (VerdictLine verdicts.Cut) = true
is_stop_line (VerdictLine verdicts.Device) = true
is_stop_line other = false

-- one of the lines reports a stop
abbrev pub tell_stop : List Line → Bool
tell_stop [] = false
tell_stop (l ∷ ls) = is_stop_line l || tell_stop ls

-- the number of the next change
abbrev pub one_more : ℕ → ℕ
one_more number = (number + 1) % 4294967296

-- after a line of this number the hive loads under it; or, where a stop may have left a change open, under the next one
abbrev pub MayBeUnder : ℕ → Bool → ℕ → Type 0
MayBeUnder number stopped next = (next ≡ number) ⊎ ((stopped ≡ true) × (next ≡ one_more number))

-- What the next line with a number says: a load under which number the hive may be, and a commit the next number, of
-- which there is none after a stop.
abbrev pub IsNext : ℕ → Bool → Line → Type 0
IsNext number stopped (LoadLine next recovered) = MayBeUnder number stopped next
IsNext number stopped (CommitLine what next) = (stopped ≡ false) × (next ≡ one_more number)
IsNext number stopped other = Unit {0}
