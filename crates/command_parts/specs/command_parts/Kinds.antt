-- The words of the faults.
use Rattle.std.specs.Prelude.{ℕ, List, codes}
use Rattle.nt_bytes.specs.declared.fault.HiveFaultKind.{HiveFaultKind}
use Rattle.nt_bytes.specs.declared.fault.HiveFaultKind.TheVariants.{NotRegf, Checksum, Version, FileType, Size, BinSign, BinOffset, BinSize, CellSize, CellPastBin, OutOfRange, FreeCell, Shared, FormShort, FormSign, FormLength, FormName, FormKind, DoubleName, Count, TooDeep, LogAbsent, LogBase, LogSequence, LogDirt, LogShort, Unreadable, LogUnreadable}
use Rattle.boot_script.specs.declared.boot_script.stop.ScriptFaultKind.{ScriptFaultKind}
use Rattle.boot_script.specs.declared.boot_script.stop.ScriptFaultKind.TheVariants as script

abbrev pub script_kind_word : ScriptFaultKind → List ℕ
script_kind_word script.TooLong = codes "too-long"
script_kind_word script.Line = codes "line"
script_kind_word script.Word = codes "word"
script_kind_word script.Number = codes "number"
script_kind_word script.TooManyStarts = codes "too-many-starts"

abbrev pub hive_kind_word : HiveFaultKind → List ℕ
hive_kind_word NotRegf = codes "not-regf"
hive_kind_word Checksum = codes "checksum"
hive_kind_word Version = codes "version"
hive_kind_word FileType = codes "type"
hive_kind_word Size = codes "size"
hive_kind_word BinSign = codes "bin-sign"
hive_kind_word BinOffset = codes "bin-offset"
hive_kind_word BinSize = codes "bin-size"
hive_kind_word CellSize = codes "cell-size"
hive_kind_word CellPastBin = codes "cell-past-bin"
hive_kind_word OutOfRange = codes "out-of-range"
hive_kind_word FreeCell = codes "free-cell"
hive_kind_word Shared = codes "shared"
hive_kind_word FormShort = codes "form-short"
hive_kind_word FormSign = codes "form-sign"
hive_kind_word FormLength = codes "form-length"
hive_kind_word FormName = codes "form-name"
hive_kind_word FormKind = codes "form-kind"
hive_kind_word DoubleName = codes "double-name"
hive_kind_word Count = codes "count"
hive_kind_word TooDeep = codes "too-deep"
hive_kind_word LogAbsent = codes "log-absent"
hive_kind_word LogBase = codes "log-base"
hive_kind_word LogSequence = codes "log-sequence"
hive_kind_word LogDirt = codes "log-dirt"
hive_kind_word LogShort = codes "log-short"
hive_kind_word Unreadable = codes "unreadable"
hive_kind_word LogUnreadable = codes "log-unreadable"
