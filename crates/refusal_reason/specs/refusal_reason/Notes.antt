-- What is noted of a command's calls of its host, and what does that say of the host? (this project's own)
--
-- A file is known by its place on the command line.
use Rattle.std.specs.Prelude.{◌≡◌, ◌⊎◌, ◌≤◌, ◌&&◌, not, ◌+◌, ◌++◌, ℕ, Bool, true, false, List, [], ◌∷◌, Option, Some, None, is_some, option_map, codes}
use Rattle.std.specs.Prelude.{Result, Ok, Err, if◌then◌else◌, length, max, take}
use Rattle.nt_edge.specs.Host.{Files, HostState}
use Rattle.nt_edge.specs.declared.host.HostStop.{HostStop}
use Rattle.command_parts.specs.declared.command_parts.status.Status.{Status}
use Rattle.command_parts.specs.declared.command_parts.status.Status.TheVariants as statuses
use Rattle.refusal_reason.specs.reason_lines.Texts.{Text}
use Rattle.refusal_reason.specs.reason_lines.Files.{value_of, names, place_of, is_dirty}
use Rattle.refusal_reason.specs.declared.refusal_reason.notes.Notes.{Notes}

-- ---- how much is kept of what was printed

-- the length of the longest word
abbrev pub longest : List Text → ℕ
longest [] = 0
longest (word ∷ words) = max (length word) (longest words)

-- enough for the line of each fault, and for the one that a file on the command line is absent
abbrev pub room_for : List Text → ℕ
room_for words = longest words + 128

-- ---- what a call adds

-- whether a hive is dirty, where the bytes are the ones of its file
abbrev pub judged : Bool → Text → Option Bool → Option Bool
judged is_its bytes before = if is_its then Some (is_dirty bytes) else before

-- a file that was asked for has these bytes
abbrev pub with_found : List Text → Notes → Text → Text → Notes
with_found words notes name bytes = record notes {
  dirty = judged (names words (codes "--hive") name) bytes notes.dirty;
  other_dirty = judged (names words (codes "--with") name) bytes notes.other_dirty;
}

-- a file was asked for
abbrev pub with_got : List Text → Notes → Text → Result (Option Text) HostStop → Notes
with_got words notes name (Ok (Some bytes)) = with_found words notes name bytes
with_got words notes name (Ok None) = notes
with_got words notes name (Err stop) = record notes { unread = place_of words name }

-- a file was put: which hives are dirty now is not known
abbrev pub with_put : List Text → Notes → Text → Bool → Notes
with_put words notes name refused = record notes {
  put = place_of words name;
  unwritten = if refused then place_of words name else notes.unwritten;
  dirty = None;
  other_dirty = None;
}

-- bytes were said
abbrev pub with_said : Notes → Text → Notes
with_said notes bytes = record notes { front = take notes.room (notes.front ++ bytes) }

-- bytes were said, or not all of them, or there was no memory to note them
abbrev pub with_lost : Notes → Notes
with_lost notes = record notes { whole = false }

-- the one, or the other
abbrev pub IsSaid : Bool → Notes → Text → Notes → Type 0
IsSaid refused old bytes new = ((refused ≡ false) × (new ≡ with_said old bytes)) ⊎ (new ≡ with_lost old)

-- the status is that something could not be written
abbrev pub is_unwritten : Status → Bool
is_unwritten statuses.WriteFault = true
is_unwritten status = false

-- the command answered a status, and ended with another once its files were to have their names
abbrev pub with_end : Notes → Status → Status → Notes
with_end notes answered ended =
    if is_unwritten ended && not (is_unwritten answered) then record notes { unwritten = notes.put } else notes

-- ---- what they say of the host

-- whether the file of this name is dirty, where there is one
abbrev pub dirty_file : Files → Option Text → Option Bool
dirty_file files None = None
dirty_file files (Some name) = option_map is_dirty (files name)

-- Where the host reports: what was noted as printed are the first bytes that were printed, as many as there is room for, if all could be said and
-- noted; and a hive of which it is noted is dirty or not as its file is.
pub record IsNoted (words : List Text) (state : HostState) (notes : Notes) : Type 0 where
  pub room : notes.room ≡ room_for words
  pub fits : length notes.front ≤ notes.room
  pub said : state.tells ≡ true → notes.whole ≡ true → notes.front ≡ take notes.room state.said
  pub hive : state.tells ≡ true → is_some notes.dirty ≡ true → dirty_file state.files (value_of words (codes "--hive")) ≡ notes.dirty
  pub other : state.tells ≡ true → is_some notes.other_dirty ≡ true → dirty_file state.files (value_of words (codes "--with")) ≡ notes.other_dirty
