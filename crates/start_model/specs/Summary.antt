-- What do the lines of a report amount to, counted together? (this project's own)
use Rattle.std.specs.Prelude.{ℕ, ◌+◌, min, List, [], ◌∷◌, Option, None, Some}
use Rattle.report_words.specs.declared.words.Verdict.{Verdict}
use Rattle.report_words.specs.declared.words.TryWord.{TryWord}
use Rattle.report_words.specs.declared.words.TryWord.TheVariants as tries
use Rattle.report_words.specs.declared.line.Line.{Line}
use Rattle.report_words.specs.declared.line.Line.TheVariants.{Load as LoadLine, Commit as CommitLine, Try as TryLine, Unmet as UnmetLine, Verdict as VerdictLine}

-- how many attempts went well, how many failed, and how many entries were unmet, each up to 4,294,967,295, where it
-- stays; the last verdict, where there is one; and the sequence number of the last load or commit, 0 before the first
pub record Summary : Type 0 where
  pub started : ℕ
  pub failed : ℕ
  pub unmet : ℕ
  pub verdict : Option Verdict
  pub sequence : ℕ

-- one more, up to the greatest number of a count
abbrev pub counted : ℕ → ℕ
counted n = min (n + 1) 4294967295

-- an attempt that went well, or one that failed
abbrev pub with_try : TryWord → Summary → Summary
with_try tries.Ok s = record s { started = counted s.started }
with_try failed s = record s { failed = counted s.failed }

-- with one more line
abbrev pub with_line : Summary → Line → Summary
with_line s (LoadLine sequence recovered) = record s { sequence = sequence }
with_line s (CommitLine what sequence) = record s { sequence = sequence }
with_line s (TryLine name outcome) = with_try outcome s
with_line s (UnmetLine name) = record s { unmet = counted s.unmet }
with_line s (VerdictLine verdict) = record s { verdict = Some verdict }
with_line s line = s

-- with these lines, in order
abbrev pub with_lines : Summary → List Line → Summary
with_lines s [] = s
with_lines s (l ∷ ls) = with_lines (with_line s l) ls

-- before the first line
abbrev pub no_summary : Summary
no_summary = record { started = 0; failed = 0; unmet = 0; verdict = None; sequence = 0 }

-- the summary of a report
abbrev pub summary_of : List Line → Summary
summary_of ls = with_lines no_summary ls
