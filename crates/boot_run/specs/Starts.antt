-- What came of an attempt, and of the phases of a start? (this project's own)
use Rattle.std.specs.Prelude.{◌≡◌, ℕ, Bool, false, not, List, [], ◌∷◌, ◌++◌, map, Option, Some, None}
use Rattle.hive_model.specs.Tree.{Tree}
use Rattle.report_words.specs.declared.words.Verdict.{Verdict}
use Rattle.start_model.specs.Judge.{Judgement, Ignore, Log, FallBack, Stop}
use Rattle.report_words.specs.declared.words.Verdict.TheVariants as verdicts
use Rattle.report_words.specs.declared.line.Line.{Line}
use Rattle.report_words.specs.declared.line.Line.TheVariants.{Unmet as UnmetLine, Vital as VitalLine}
use Rattle.start_model.specs.Machine.{Start, MachineState, Tried, attempt_of, phase_after, after_phase, unmet_in, is_done, with_start}
use Rattle.start_model.specs.Sets.{set_of}
use Rattle.start_model.specs.Act.{RunState, Act, say_all}
use Rattle.start_model.specs.Starter.{phase_line, phase_begun}

-- a start runs whose phases are not over
abbrev pub is_under_way : Option Start → Bool
is_under_way None = false
is_under_way (Some s) = not (is_done s.phase)

-- a start goes on after a failure that is ignored or logged, and ends after the others
abbrev pub EndsBy : Option Verdict → Judgement → Type 0
EndsBy verdict Ignore = verdict ≡ None
EndsBy verdict Log = verdict ≡ None
EndsBy verdict FallBack = verdict ≡ Some verdicts.FallBack
EndsBy verdict Stop = verdict ≡ Some verdicts.Stopped

-- the attempt of the book's machine was made, and the verdict is what follows from it
pub record Attempts (old : MachineState) (usable : Bool) (new : MachineState) (verdict : Option Verdict) : Type 0 where
  pub one : MachineState × Tried
  pub is : attempt_of old usable ≡ Some one
  pub machine : new ≡ one.0
  pub ends : EndsBy verdict one.1.judgement

-- the lines of a phase that ends, and of the next one
abbrev pub phase_lines : Start → List Line
phase_lines s = map UnmetLine (unmet_in s) ++ phase_line (phase_after s.phase) ∷ []

-- no vital name is missing: what still waits is unmet, and the next phase begins
abbrev pub phase_gone : Start → RunState → (RunState → Act) → Act
phase_gone s m next = say_all (map UnmetLine (unmet_in s)) (phase_begun s m next)

-- the lines of a boot phase that ends without these vital names, where those still wait
abbrev pub stop_lines : List (List ℕ) → List (List ℕ) → List Line
stop_lines unmet missing = map UnmetLine unmet ++ map VitalLine missing

-- the running start goes on to the next phase, whose entries are those of its set in the tree
pub record NextPhase (tree : Tree) (old new : MachineState) : Type 0 where
  pub start : Start
  pub set : Tree
  pub is : old.start ≡ Some start
  pub there : set_of tree start.number ≡ Some set
  pub machine : new ≡ with_start (after_phase set start) old
