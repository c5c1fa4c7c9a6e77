-- Which reason stands for the word of a fault? (this project's own)
use Rattle.std.specs.Prelude.{List, [], ◌∷◌, Option, Some, None, option_map, codes, bytes_eq, find}
use Rattle.std.specs.Option.{option_or}
use Rattle.refusal_reason.specs.reason_lines.Texts.{Text}
use Rattle.refusal_reason.specs.declared.reason_lines.kinds.Part.{Part}
use Rattle.refusal_reason.specs.declared.reason_lines.kinds.Part.TheVariants.{Base, Bins, Log}

-- the word of a fault, and its reason
pub record Row : Type 0 where
  pub kind : Text
  pub reason : Text

abbrev pub row : Text → Text → Row
row kind reason = record { kind = kind; reason = reason }

-- of a script, and of the commands of `control`
abbrev pub script_rows : List Row
script_rows =
    row (codes "too-long") (codes "longer than 65536 bytes")
    ∷ row (codes "line") (codes "a character or a quote that can't stand here")
    ∷ row (codes "word") (codes "unknown command or keyword, or a word missing or too many")
    ∷ row (codes "number") (codes "a number out of its range")
    ∷ row (codes "too-many-starts") (codes "more than 64 boots")
    ∷ row (codes "sweep") (codes "no line sweep with an event after it")
    ∷ []

-- of boot.ini
abbrev pub boot_ini_rows : List Row
boot_ini_rows =
    row (codes "too-long") (codes "longer than 65536 bytes")
    ∷ row (codes "too-many-entries") (codes "more than 64 entries")
    ∷ []

-- of a registry text
abbrev pub reg_rows : List Row
reg_rows =
    row (codes "mark") (codes "not in the encoding asked for")
    ∷ row (codes "header") (codes "not the header \"Windows Registry Editor Version 5.00\"")
    ∷ row (codes "root") (codes "a key outside HKEY_LOCAL_MACHINE\\SYSTEM")
    ∷ row (codes "line") (codes "a line that is no key and no value")
    ∷ row (codes "not-text") (codes "a name with a line end")
    ∷ []

-- of the base block of a hive
abbrev pub base_rows : List Row
base_rows =
    row (codes "not-regf") (codes "not a hive")
    ∷ row (codes "checksum") (codes "wrong checksum of the base block")
    ∷ row (codes "version") (codes "not version 1.3 or 1.5")
    ∷ row (codes "type") (codes "wrong file type or format")
    ∷ row (codes "size") (codes "wrong size, or the file is shorter than it says")
    ∷ row (codes "unreadable") (codes "a sector that can't be read")
    ∷ []

-- of bins and cells
abbrev pub bins_rows : List Row
bins_rows =
    row (codes "bin-sign") (codes "a bin without its signature")
    ∷ row (codes "bin-offset") (codes "a bin that states another offset")
    ∷ row (codes "bin-size") (codes "a bin of a wrong size")
    ∷ row (codes "cell-size") (codes "a cell of a wrong size")
    ∷ row (codes "cell-past-bin") (codes "a cell past the end of its bin")
    ∷ row (codes "out-of-range") (codes "an offset at which no cell begins")
    ∷ row (codes "free-cell") (codes "a free cell in use")
    ∷ row (codes "shared") (codes "a cell used twice")
    ∷ row (codes "form-short") (codes "a cell too short for what it holds")
    ∷ row (codes "form-sign") (codes "a cell with another signature than expected")
    ∷ row (codes "form-length") (codes "a length that can't be")
    ∷ row (codes "form-name") (codes "a name that can't be")
    ∷ row (codes "form-kind") (codes "a list of lists inside a list of lists")
    ∷ row (codes "double-name") (codes "a name that stands twice")
    ∷ row (codes "count") (codes "a key with another number of subkeys than it says")
    ∷ row (codes "too-deep") (codes "a key below level 512")
    ∷ []

-- of a log
abbrev pub log_rows : List Row
log_rows =
    row (codes "log-absent") (codes "the hive is dirty, and there is no log; try replay with logs of Windows, or salvage")
    ∷ row (codes "log-base") (codes "the log has no valid base block; try replay with logs of Windows, or salvage")
    ∷ row (codes "log-sequence") (codes "the log belongs to another state of the hive; try replay with logs of Windows, or salvage")
    ∷ row (codes "log-dirt") (codes "the log has no bitmap of sectors; try replay with logs of Windows, or salvage")
    ∷ row (codes "log-short") (codes "the log is shorter than its bitmap says; try replay with logs of Windows, or salvage")
    ∷ row (codes "log-unreadable") (codes "a sector of the log that can't be read; try replay with logs of Windows, or salvage")
    ∷ []

-- the reason of a word, where a row has it
abbrev pub reason_in : List Row → Text → Option Text
reason_in rows kind = option_map (λ (r : Row). r.reason) (find (λ (r : Row). bytes_eq kind r.kind) rows)

-- the part of a hive that has a fault, and its reason
pub record PartReason : Type 0 where
  pub part : Part
  pub reason : Text

-- the reason, of a fault of this part
abbrev pub of_part : Part → Option Text → Option PartReason
of_part part None = None
of_part part (Some reason) = Some (record { part = part; reason = reason })

-- the part and the reason of the word of a hive's fault
abbrev pub part_reason : Text → Option PartReason
part_reason kind =
    option_or (of_part Base (reason_in base_rows kind))
    (option_or (of_part Bins (reason_in bins_rows kind)) (of_part Log (reason_in log_rows kind)))
