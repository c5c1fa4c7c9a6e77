-- How is the reason of a refusal printed? (this project's own)
--
-- A name is the one of a file, as the command line has it.
use Rattle.std.specs.Prelude.{ℕ, ◌==◌, ◌+◌, ◌++◌, Bool, List, [], Option, Some, None, if◌then◌else◌, codes, unwrap_or}
use Rattle.std.specs.Fmt.{decimal}
use Rattle.std.specs.Option.{option_or}
use Rattle.refusal_reason.specs.reason_lines.Texts.{Text}
use Rattle.refusal_reason.specs.reason_lines.Files.{value_of, option_for}
use Rattle.refusal_reason.specs.reason_lines.Heard.{Heard, nothing, of_script, of_boot_ini, of_reg, of_hive, of_other}
use Rattle.refusal_reason.specs.declared.reason_lines.kinds.Part.{Part}
use Rattle.refusal_reason.specs.declared.reason_lines.kinds.Part.TheVariants.{Base, Bins, Log}

-- where nothing more is known, or there is no memory for more
abbrev pub memory_line : Text
memory_line = codes "ntboot: out of memory\n"

-- ---- a file

abbrev pub absent_text : Text → Text → Text
absent_text option name = codes "ntboot: " ++ (option ++ (codes ": no file " ++ (name ++ codes "\n")))

-- of a file that an option names
abbrev pub absent_for : Option Text → Text → Text
absent_for None name = memory_line
absent_for (Some option) name = absent_text option name

-- the file that was asked for and is not there
abbrev pub absent_line : List Text → Option Text → Text
absent_line words None = memory_line
absent_line words (Some name) = absent_for (option_for words name) name

abbrev pub unread_line : Option Text → Text
unread_line None = memory_line
unread_line (Some name) = codes "ntboot: can't read " ++ (name ++ codes "\n")

-- a file that could not be written, or the report
abbrev pub unwritten_line : Option Text → Text
unwritten_line None = codes "ntboot: can't write the report\n"
unwritten_line (Some name) = codes "ntboot: can't write " ++ (name ++ codes "\n")

-- ---- a fault

-- of all of a file
abbrev pub whole_line : Text → Text → Text
whole_line name reason = codes "ntboot: " ++ (name ++ (codes ": " ++ (reason ++ codes "\n")))

-- at a line of a text, from 1, or of all of it at line 0
abbrev pub text_line : Text → ℕ → Text → Text
text_line name at reason =
    if at == 0 then whole_line name reason
    else codes "ntboot: " ++ (name ++ (codes ":" ++ (decimal at ++ (codes ": " ++ (reason ++ codes "\n")))))

-- at a byte of a file
abbrev pub byte_line : Text → ℕ → Text → Text
byte_line name at reason = codes "ntboot: " ++ (name ++ (codes ": byte " ++ (decimal at ++ (codes ": " ++ (reason ++ codes "\n")))))

-- at a byte of the bins of a dirty hive with its log
abbrev pub recovered_line : Text → Text → ℕ → Text → Text
recovered_line name log at reason =
    codes "ntboot: " ++ (name ++ (codes " with " ++ (log ++ (codes ": byte " ++ (decimal at ++ (codes " of the bins: " ++ (reason ++ codes "\n")))))))

-- of a log, or of a dirty hive that has none
abbrev pub log_line : Text → Option Text → ℕ → Text → Text
log_line name None at reason = whole_line name reason
log_line name (Some log) at reason = byte_line log at reason

-- of bins, whose bytes count from byte 4096 of a hive's file
abbrev pub bins_line : Text → Option Text → ℕ → Text → Text
bins_line name None at reason = byte_line name (at + 4096) reason
bins_line name (Some log) at reason = recovered_line name log at reason

-- a hive's two files, and whether the first is dirty
pub record Pair : Type 0 where
  pub name : Text
  pub log : Option Text
  pub dirty : Bool

-- the second file, where the first is dirty
abbrev pub needed_log : Pair → Option Text
needed_log pair = if pair.dirty then pair.log else None

abbrev pub hive_line : Pair → Part → ℕ → Text → Text
hive_line pair Base at reason = byte_line pair.name at reason
hive_line pair Bins at reason = bins_line pair.name (needed_log pair) at reason
hive_line pair Log at reason = log_line pair.name pair.log at reason

-- the file that an option names, nothing where it names none
abbrev pub name_of : List Text → Text → Text
name_of words option = unwrap_or (value_of words option) []

-- the file of a script, or of the commands of `control`
abbrev pub script_name : List Text → Text
script_name words = unwrap_or (value_of words (codes "--script")) (name_of words (codes "--commands"))

-- the second file of a hive: its copy, or its log
abbrev pub second_of : List Text → Option Text
second_of words = option_or (value_of words (codes "--alt")) (value_of words (codes "--log"))

-- the files of the hive
abbrev pub hive_of : List Text → Bool → Pair
hive_of words dirty = record { name = name_of words (codes "--hive"); log = second_of words; dirty = dirty }

-- those of the second hive of `diff`
abbrev pub other_of : List Text → Bool → Pair
other_of words dirty = record { name = name_of words (codes "--with"); log = value_of words (codes "--with-log"); dirty = dirty }

-- the line for the fault that the printed line says, where the hive is dirty, and the second one
abbrev pub heard_line : List Text → Heard → Bool → Bool → Text
heard_line words nothing dirty other_dirty = memory_line
heard_line words (of_script reason at) dirty other_dirty = text_line (script_name words) at reason
heard_line words (of_boot_ini reason) dirty other_dirty = whole_line (name_of words (codes "--boot-ini")) reason
heard_line words (of_reg reason at) dirty other_dirty = text_line (name_of words (codes "--reg")) at reason
heard_line words (of_hive part reason at) dirty other_dirty = hive_line (hive_of words dirty) part at reason
heard_line words (of_other part reason at) dirty other_dirty = hive_line (other_of words other_dirty) part at reason
