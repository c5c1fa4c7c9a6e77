-- Who had a good attempt in the last start, by the lines of a report? (this project's own)
use Rattle.std.specs.Prelude.{ℕ, Bool, true, false, ◌||◌, ◌&&◌, List, [], ◌∷◌}
use Rattle.nt_bytes.specs.Folding.{folds_same}
use Rattle.report_words.specs.declared.words.TryWord.{TryWord}
use Rattle.report_words.specs.declared.words.TryWord.TheVariants as tries
use Rattle.report_words.specs.declared.line.Line.{Line}
use Rattle.report_words.specs.declared.line.Line.TheVariants.{Start as StartLine, Try as TryLine}

-- the attempt went well
abbrev pub is_ok : TryWord → Bool
is_ok tries.Ok = true
is_ok failed = false

-- with one more line: a start begins with nobody started, and a good attempt starts its entry, which has this name by fold
abbrev pub started_after : List ℕ → Bool → Line → Bool
started_after name before (StartLine number) = false
started_after name before (TryLine other outcome) = before || (is_ok outcome && folds_same name other)
started_after name before line = before

-- by these lines, where it was so before them
abbrev pub started_by : List ℕ → Bool → List Line → Bool
started_by name before [] = before
started_by name before (l ∷ ls) = started_by name (started_after name before l) ls
