-- What does a start say in which each attempt goes well? (this project's own)
--
-- Phases, plans, which entry is next and what is unmet are those of the book of startup.
use Rattle.std.specs.Prelude.{◌≡◌, ℕ, zero, suc, Bool, false, true, List, [], ◌∷◌, ◌++◌, map, length, slice_get, Option, Some, None, option_map, option_and_then}
use Rattle.std.specs.Option.{option_map_or}
use Rattle.hive_model.specs.Tree.{Tree}
use Rattle.start_model.specs.Entries.{Entry, Boot}
use Rattle.report_words.specs.declared.words.TryWord.TheVariants as tries
use Rattle.report_words.specs.declared.line.Line.{Line}
use Rattle.report_words.specs.declared.line.Line.TheVariants.{Try as TryLine, Unmet as UnmetLine}
use Rattle.start_model.specs.Machine.{Start, MachineState, off_machine, next_in, after_attempt, unmet_in, after_phase, begun_with, with_start}
use Rattle.start_model.specs.Starter.{phase_line}
use Rattle.boot_machine.specs.boot_machine.Steps.{without_clone}
use Rattle.safe_boot.specs.declared.mode.SafeMode.{SafeMode}
use Rattle.safe_boot.specs.declared.lines.SafeLine.{SafeLine}
use Rattle.safe_boot.specs.Lines.{line_of}
use Rattle.safe_boot.specs.Listed.{reduced_of}

-- what a start has said, and where it stands
pub record Course : Type 0 where
  pub lines : List Line
  pub start : Start

-- an entry with its place
abbrev pub at_place : ℕ → Entry → ℕ × Entry
at_place place e = (place, e)

-- the waiting entry at a place
abbrev pub waiting_at : Start → ℕ → Option (ℕ × Entry)
waiting_at s place = option_map (at_place place) (slice_get s.waiting place)

-- the next entry, with its place among the waiting
abbrev pub next_entry : Start → Option (ℕ × Entry)
next_entry s = option_and_then (waiting_at s) (next_in s)

-- the entry at a place is attempted, and is started
abbrev pub tried_at : Course → ℕ → Entry → Course
tried_at c place e = record { lines = c.lines ++ TryLine e.name tries.Ok ∷ []; start = after_attempt c.start place e true }

-- at most that many attempts
unfoldable pub attempts_of : ℕ → Course → Course
attempts_of zero c = c
attempts_of (suc n) c = option_map_or (λ (next : ℕ × Entry). attempts_of n (tried_at c next.0 next.1)) (next_entry c.start) c

-- what still waits is unmet, and the next phase begins
abbrev pub phase_ended : Tree → Course → Course
phase_ended set c = record {
  lines = c.lines ++ map UnmetLine (unmet_in c.start) ++ phase_line (after_phase set c.start).phase ∷ [];
  start = after_phase set c.start;
}

-- a phase to its end
unfoldable pub phase_played : Tree → Course → Course
phase_played set c = phase_ended set (attempts_of (length c.start.waiting) c)

-- the start of a set in its boot phase
unfoldable pub course_begun : Tree → Course
course_begun set = record { lines = phase_line Boot ∷ []; start = begun_with set 0 false }

-- the lines of the three phases of a set
abbrev pub start_lines_of : Tree → List Line
start_lines_of set = (phase_played set (phase_played set (phase_played set (course_begun set)))).lines

-- the lines of a start in a safe mode, in which images count or don't, or in none
abbrev pub safe_lines_by : Tree → Option SafeMode → Bool → List Line
safe_lines_by set None images = start_lines_of set
safe_lines_by set (Some mode) images = start_lines_of (reduced_of set mode images)

-- the same where images don't count
abbrev pub safe_lines_of : Tree → Option SafeMode → List Line
safe_lines_of set mode = safe_lines_by set mode false

-- ---- the machine that plays it

-- a machine in which nothing is to fail runs this start, but for the copy of the set, and these lines are its lines
pub record IsAt (machine : MachineState) (said : List SafeLine) (c : Course) : Type 0 where
  pub start : machine ≡ with_start (without_clone c.start) off_machine
  pub lines : map line_of said ≡ c.lines

-- the next entry of this course is attempted, and the course goes on so
pub record AttemptsNext (c : Course) (machine : MachineState) (said : List SafeLine) : Type 0 where
  pub place : ℕ
  pub entry : Entry
  pub next : next_entry c.start ≡ Some (place, entry)
  pub at : IsAt machine said (tried_at c place entry)

-- how many entries wait, where a start runs
abbrev pub waiting_count : MachineState → ℕ
waiting_count m = option_map_or (λ s. length s.waiting) m.start 0
