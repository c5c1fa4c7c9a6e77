-- What are the first lines about a start, and those about the name and its entry? (this project's own)
use Rattle.std.specs.Prelude.{ℕ, Bool, true, false, ◌==◌, List, [], ◌∷◌, ◌++◌, map, find, Option, None, Some, if◌then◌else◌}
use Rattle.report_words.specs.declared.words.TryWord.{TryWord}
use Rattle.report_words.specs.declared.words.TryWord.TheVariants as tries
use Rattle.report_words.specs.declared.words.Verdict.{Verdict}
use Rattle.quiet_run.specs.declared.last.Attempt.{Attempt}
use Rattle.quiet_run.specs.declared.last.LastStart.{LastStart}
use Rattle.answer_lines.specs.declared.why_lines.lines.WhyLine.{WhyLine}
use Rattle.answer_lines.specs.declared.why_lines.lines.WhyLine.TheVariants as lines

-- ---- the start

-- an attempt that ended its start
abbrev pub is_end : TryWord → Bool
is_end tries.Ok = false
is_end tries.Ignored = false
is_end tries.Logged = false
is_end tries.FallBack = true
is_end tries.Stop = true

abbrev pub set_lines : Option (ℕ × Bool) → List WhyLine
set_lines None = []
set_lines (Some taken) = lines.Set taken.0 taken.1 ∷ []

abbrev pub verdict_lines : Option Verdict → List WhyLine
verdict_lines None = []
verdict_lines (Some verdict) = lines.Verdict verdict ∷ []

abbrev pub ended_lines : Option Attempt → List WhyLine
ended_lines None = []
ended_lines (Some a) = lines.EndedBy a.name ∷ []

-- the attempt that ended the start
abbrev pub ending_attempt : List Attempt → Option Attempt
ending_attempt attempts = find (λ (a : Attempt). is_end a.outcome) attempts

abbrev pub head_lines : LastStart → List WhyLine
head_lines l =
    if l.number == 0 then lines.NoBoot ∷ []
    else lines.Start l.number ∷ set_lines l.set ++ verdict_lines l.verdict ++ ended_lines (ending_attempt l.attempts) ++ map lines.Vital l.missing
