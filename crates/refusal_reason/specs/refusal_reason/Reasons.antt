-- Which line is printed on standard error of a refusal? (this project's own)
--
-- Exactly one where the command line asks for it and the status is no answer, and else none. For words that cannot be parsed it is
-- the first reason from the left, at any other status a line made of the command line, of what was noted of the calls of the host, and of the files.
use Rattle.std.specs.Prelude.{◌≡◌, ◌⊎◌, ◌&&◌, ◌++◌, Bool, true, false, List, Some, codes, if◌then◌else◌, is_some, take, unwrap_or}
use Rattle.nt_bytes.specs.Counts.{Rises}
use Rattle.nt_edge.specs.Host.{Files, HostState}
use Rattle.command_words.specs.Words.{Text, Reading, refused}
use Rattle.command_words.specs.Reading.{reading_of, wants_reason}
use Rattle.command_words.specs.Reasons.{reason_text}
use Rattle.command_parts.specs.declared.command_parts.status.Status.{Status}
use Rattle.command_parts.specs.declared.command_parts.status.Status.TheVariants as statuses
use Rattle.refusal_reason.specs.reason_lines.Files.{file_at, missing_in, value_of}
use Rattle.refusal_reason.specs.reason_lines.Heard.{Heard, heard_of, of_hive, of_other}
use Rattle.refusal_reason.specs.reason_lines.Lines.{absent_line, unread_line, unwritten_line, memory_line, heard_line}
use Rattle.refusal_reason.specs.declared.refusal_reason.notes.Notes.{Notes}
use Rattle.refusal_reason.specs.refusal_reason.Notes.{dirty_file}

-- the status is a refusal or a stop, and no answer
abbrev pub has_reason : Status → Bool
has_reason statuses.Done = false
has_reason statuses.Found = false
has_reason status = true

-- a line is to be printed
abbrev pub explains : List Text → Status → Bool
explains words status = has_reason status && wants_reason words

-- the line for words that cannot be parsed
abbrev pub usage_line : Reading → Text
usage_line (refused (Some reason)) = reason_text reason
usage_line reading = codes "ntboot: bad usage\n"

-- ---- whether the hive with a fault is dirty

-- whether the file that an option names is dirty; no where there is none
abbrev pub is_dirty_at : List Text → Files → Text → Bool
is_dirty_at words files option = unwrap_or (dirty_file files (value_of words option)) false

-- whether the hive with the fault is dirty, by its file; no where it is no hive's
abbrev pub is_dirty_in : List Text → Files → Heard → Bool
is_dirty_in words files (of_hive part reason at) = is_dirty_at words files (codes "--hive")
is_dirty_in words files (of_other part reason at) = is_dirty_at words files (codes "--with")
is_dirty_in words files heard = false

-- that is noted, so that no file is asked for
abbrev pub is_judged : Heard → Notes → Bool
is_judged (of_hive part reason at) notes = is_some notes.dirty
is_judged (of_other part reason at) notes = is_some notes.other_dirty
is_judged heard notes = true

-- ---- the line

-- the fault that was printed
abbrev pub heard_by : Notes → Heard
heard_by notes = heard_of (take 128 notes.front)

-- the line for that fault
abbrev pub fault_line : List Text → Notes → Files → Text
fault_line words notes files =
    heard_line words (heard_by notes) (is_dirty_in words files (heard_by notes)) (is_dirty_in words files (heard_by notes))

-- the line for what was printed, where all of it is noted
abbrev pub printed_line : List Text → Status → Notes → Files → Text
printed_line words statuses.NoFile notes files = absent_line words (file_at words (missing_in words notes.front))
printed_line words status notes files = fault_line words notes files

-- the line on a status where the command line can be parsed
abbrev pub reason_line : List Text → Status → Notes → Files → Text
reason_line words statuses.ReadFault notes files = unread_line (file_at words notes.unread)
reason_line words statuses.WriteFault notes files = unwritten_line (file_at words notes.unwritten)
reason_line words statuses.Memory notes files = memory_line
reason_line words status notes files = if notes.whole then printed_line words status notes files else memory_line

-- the line on a status
abbrev pub line_on : List Text → Status → Notes → Files → Text
line_on words statuses.Usage notes files = usage_line (reading_of words)
line_on words status notes files = reason_line words status notes files

-- that line, or the one that memory was lacking
abbrev pub IsLine : Text → Text → Type 0
IsLine wanted line = (line ≡ wanted) ⊎ (line ≡ memory_line)

-- ---- what the host is left as

-- no file changed and nothing was printed; a file may have been asked for
pub record IsLooked (old new : HostState) : Type 0 where
  pub tells : new.tells ≡ old.tells
  pub errors : new.errors ≡ old.errors
  pub warned : new.warned ≡ old.warned
  pub files : old.tells ≡ true → new.files ≡ old.files
  pub said : old.tells ≡ true → new.said ≡ old.said

-- the host refused a call, and counted that: a file could not be read, or there was no memory
abbrev pub IsUnread : HostState → HostState → Type 0
IsUnread old new = Rises old.reads new.reads ⊎ Rises old.lacks new.lacks

-- that line was printed, or could not be; or there was no memory for it, and that was printed; no file changed and nothing else was printed
pub record IsExplained (wanted : Text) (old new : HostState) : Type 0 where
  pub line : Text
  pub is : IsLine wanted line
  pub errors : (new.errors ≡ old.errors ++ line) ⊎ (new.errors ≡ old.errors)
  pub files : new.files ≡ old.files
  pub said : new.said ≡ old.said
