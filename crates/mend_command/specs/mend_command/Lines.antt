-- What is printed of a repair? This project's own.
use Rattle.std.specs.Prelude.{ℕ, ◌++◌, Bool, if◌then◌else◌, List, [], length, Option, Some, None, codes}
use Rattle.std.specs.Fmt.{decimal}
use Rattle.nt_bytes.specs.declared.fault.HiveFault.{HiveFault}
use Rattle.command_parts.specs.declared.command_parts.refusal.Refusal.TheVariants.{HiveFault as BadHive}
use Rattle.command_parts.specs.command_parts.Refusals.{refusal_text}
use Rattle.hive_commit.specs.Stages.{next_number}
use Rattle.mend_command.specs.hive_mend.Loaded.{Loaded}
use Rattle.mend_command.specs.hive_mend.Mending.{shorter}

-- the sequence number and the size of the bins data, after the word for how the hive was found
abbrev pub begun_line : List ℕ → ℕ → ℕ → List ℕ
begun_line word number size = word ++ codes " " ++ decimal number ++ codes " " ++ decimal size ++ codes "\n"

-- the new sequence number, and the sizes of the bins data before and after
abbrev pub packed_line : ℕ → ℕ → ℕ → List ℕ
packed_line number old new = codes "packed " ++ decimal number ++ codes " " ++ decimal old ++ codes " " ++ decimal new ++ codes "\n"

-- how a hive was found: recovered by its log, or clean
abbrev pub found_word : Bool → List ℕ
found_word dirty = if dirty then codes "recovered" else codes "clean"

-- the line of a hive that was loaded
abbrev pub begun_text : Loaded → Bool → List ℕ
begun_text h dirty = begun_line (found_word dirty) h.base.first (length h.bins)

-- the line of a hive for which these new bins data were committed, if any were
abbrev pub packed_text : Loaded → Option (List ℕ) → List ℕ
packed_text h None = []
packed_text h (Some new) = packed_line (next_number h.base.first) (length h.bins) (length new)

-- the lines of a repair that is done
abbrev pub mend_text : Loaded → Bool → List ℕ
mend_text h dirty = begun_text h dirty ++ packed_text h (shorter h)

-- the line of a hive that has a fault
abbrev pub fault_text : HiveFault → List ℕ
fault_text fault = refusal_text (BadHive fault)

-- the lines of a disk that failed, and of one that lost its power
abbrev pub device_text : List ℕ
device_text = codes "device fault\n"

abbrev pub cut_text : List ℕ
cut_text = codes "power lost\n"
