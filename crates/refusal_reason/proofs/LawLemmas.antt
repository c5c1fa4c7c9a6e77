-- The line on a refusal, by what was printed and by the files.
use Rattle.std.proofs.Common.{◌≡◌, ◌≤◌, ◌∙◌, Bool, true, false, if◌then◌else◌, List, take, Option, ap, refl, arith, is_some}
use Rattle.std.specs.Prelude.{codes}
use Rattle.std.proofs.lemmas.Bool.{false≢true}
use Rattle.std.proofs.lemmas.List.{take-take}
use Rattle.nt_edge.specs.Host.{Files, HostState}
use Rattle.refusal_reason.specs.reason_lines.Texts.{Text}
use Rattle.refusal_reason.specs.reason_lines.Heard.{Heard, nothing, of_script, of_boot_ini, of_reg, of_hive, of_other, heard_of}
use Rattle.refusal_reason.specs.reason_lines.Files.{file_at, place_of, place_for, missing_in, option_for}
use Rattle.refusal_reason.specs.reason_lines.Lines.{absent_for, absent_line, heard_line, memory_line}
use Rattle.refusal_reason.specs.declared.refusal_reason.notes.Notes.{Notes}
use Rattle.refusal_reason.specs.refusal_reason.Laws.{absent_line_of, fault_line_of, is_fault, is_refusal, refusal_line}
use Rattle.refusal_reason.specs.refusal_reason.Notes.{IsNoted}
use Rattle.refusal_reason.specs.refusal_reason.Reasons.{fault_line, is_dirty_at, is_dirty_in, line_on, printed_line}
use Rattle.command_parts.specs.command_parts.Refusals.{refusal_text}
use Rattle.command_parts.specs.declared.command_parts.status.Status.{Status}
use Rattle.command_parts.specs.declared.command_parts.status.Status.TheVariants as statuses
use Rattle.command_parts.specs.declared.command_parts.refusal.Refusal.TheVariants as refusals
use Rattle.refusal_reason.proofs.PrintedLemmas.{no_file-heard}
use Rattle.refusal_reason.proofs.FileLemmas.{file_at-place_of}
use Rattle.refusal_reason.proofs.RoomLemmas.{missing-front}

-- only for a hive's fault it counts whether a hive is dirty, and then whether that one is
dirty-line : (words : List Text) (files : Files) (heard : Heard)
    → heard_line words heard (is_dirty_in words files heard) (is_dirty_in words files heard)
    ≡ heard_line words heard (is_dirty_at words files (codes "--hive")) (is_dirty_at words files (codes "--with"))
dirty-line words files nothing = refl
dirty-line words files (of_script reason at) = refl
dirty-line words files (of_boot_ini reason) = refl
dirty-line words files (of_reg reason at) = refl
dirty-line words files (of_hive part reason at) = refl
dirty-line words files (of_other part reason at) = refl

fault-known : (words : List Text) (state : HostState) (notes : Notes) → IsNoted words state notes
    → state.tells ≡ true → notes.whole ≡ true → fault_line words notes state.files ≡ fault_line_of words state.said state.files
fault-known words state notes h told whole =
    let room : 128 ≤ notes.room = rw h.room (omega arith) in
    let front : take 128 notes.front ≡ take 128 state.said =
    ap (take 128) (h.said told whole) ∙ take-take 128 notes.room state.said room in
    dirty-line words state.files (heard_of (take 128 notes.front))
    ∙ ap (λ (text : Text). heard_line words (heard_of text) (is_dirty_at words state.files (codes "--hive"))
    (is_dirty_at words state.files (codes "--with"))) front

absent-known : (words : List Text) (state : HostState) (notes : Notes) → IsNoted words state notes
    → state.tells ≡ true → notes.whole ≡ true
    → absent_line words (file_at words (missing_in words notes.front)) ≡ absent_line_of words state.said
absent-known words state notes h told whole =
    ap (λ (text : Text). absent_line words (file_at words (missing_in words text)))
    (h.said told whole ∙ ap (λ n. take n state.said) h.room)
    ∙ ap (λ place. absent_line words (file_at words place)) (missing-front words state.said)

-- the line where all is noted, and where it isn't
whole-line : (words : List Text) (status : Status) (notes : Notes) (files : Files) → notes.whole ≡ true
    → (if notes.whole then printed_line words status notes files else memory_line) ≡ printed_line words status notes files
whole-line words status notes files whole =
    ap (λ (b : Bool). if b then printed_line words status notes files else memory_line) whole

lost-whole : (words : List Text) (status : Status) (notes : Notes) (files : Files) → notes.whole ≡ false
    → (if notes.whole then printed_line words status notes files else memory_line) ≡ memory_line
lost-whole words status notes files lost =
    ap (λ (b : Bool). if b then printed_line words status notes files else memory_line) lost

pub known-line : (words : List Text) (state : HostState) (notes : Notes) (status : Status) → IsNoted words state notes
    → state.tells ≡ true → is_refusal status ≡ true → notes.whole ≡ true
    → line_on words status notes state.files ≡ refusal_line words status state.said state.files
known-line words state notes statuses.Usage h told is whole = refl
known-line words state notes statuses.NoFile h told is whole =
    whole-line words statuses.NoFile notes state.files whole ∙ absent-known words state notes h told whole
known-line words state notes statuses.ScriptFault h told is whole =
    whole-line words statuses.ScriptFault notes state.files whole ∙ fault-known words state notes h told whole
known-line words state notes statuses.BootIniFault h told is whole =
    whole-line words statuses.BootIniFault notes state.files whole ∙ fault-known words state notes h told whole
known-line words state notes statuses.HiveFault h told is whole =
    whole-line words statuses.HiveFault notes state.files whole ∙ fault-known words state notes h told whole
known-line words state notes statuses.RegFault h told is whole =
    whole-line words statuses.RegFault notes state.files whole ∙ fault-known words state notes h told whole
known-line words state notes statuses.Done h told is whole = absurd (false≢true is)
known-line words state notes statuses.ReadFault h told is whole = absurd (false≢true is)
known-line words state notes statuses.WriteFault h told is whole = absurd (false≢true is)
known-line words state notes statuses.Found h told is whole = absurd (false≢true is)
known-line words state notes statuses.Memory h told is whole = absurd (false≢true is)

pub lost-line : (words : List Text) (files : Files) (notes : Notes) (status : Status) → is_fault status ≡ true
    → notes.whole ≡ false → line_on words status notes files ≡ memory_line
lost-line words files notes statuses.NoFile is lost = lost-whole words statuses.NoFile notes files lost
lost-line words files notes statuses.ScriptFault is lost = lost-whole words statuses.ScriptFault notes files lost
lost-line words files notes statuses.BootIniFault is lost = lost-whole words statuses.BootIniFault notes files lost
lost-line words files notes statuses.HiveFault is lost = lost-whole words statuses.HiveFault notes files lost
lost-line words files notes statuses.RegFault is lost = lost-whole words statuses.RegFault notes files lost
lost-line words files notes statuses.Usage is lost = absurd (false≢true is)
lost-line words files notes statuses.Done is lost = absurd (false≢true is)
lost-line words files notes statuses.ReadFault is lost = absurd (false≢true is)
lost-line words files notes statuses.WriteFault is lost = absurd (false≢true is)
lost-line words files notes statuses.Found is lost = absurd (false≢true is)
lost-line words files notes statuses.Memory is lost = absurd (false≢true is)

pub absent-named : (words : List Text) (name : Text) → is_some (place_of words name) ≡ true
    → absent_line_of words (refusal_text (refusals.NoFile name)) ≡ absent_for (option_for words name) name
absent-named words name here =
    ap (λ (file : Option Text). absent_line words (file_at words (place_for words file))) (no_file-heard name)
    ∙ ap (absent_line words) (file_at-place_of words name here)
