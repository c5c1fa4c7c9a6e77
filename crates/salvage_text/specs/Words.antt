-- How are kinds of fault, states and parts of a key named? (this project's own)
use Rattle.std.specs.Prelude.{ℕ, List, codes}
use Rattle.nt_bytes.specs.declared.fault.HiveFaultKind.{HiveFaultKind}
use Rattle.nt_bytes.specs.declared.fault.HiveFaultKind.TheVariants as kinds
use Rattle.salvage_walk.specs.declared.lines.KeyPart.{KeyPart}
use Rattle.salvage_walk.specs.declared.lines.KeyPart.TheVariants as parts
use Rattle.salvage_file.specs.declared.opening.FileState.{FileState}
use Rattle.salvage_file.specs.declared.opening.FileState.TheVariants as states

abbrev pub kind_word : HiveFaultKind → List ℕ
kind_word kinds.NotRegf = codes "not-regf"
kind_word kinds.Checksum = codes "checksum"
kind_word kinds.Version = codes "version"
kind_word kinds.FileType = codes "type"
kind_word kinds.Size = codes "size"
kind_word kinds.BinSign = codes "bin-sign"
kind_word kinds.BinOffset = codes "bin-offset"
kind_word kinds.BinSize = codes "bin-size"
kind_word kinds.CellSize = codes "cell-size"
kind_word kinds.CellPastBin = codes "cell-past-bin"
kind_word kinds.OutOfRange = codes "out-of-range"
kind_word kinds.FreeCell = codes "free-cell"
kind_word kinds.Shared = codes "shared"
kind_word kinds.FormShort = codes "form-short"
kind_word kinds.FormSign = codes "form-sign"
kind_word kinds.FormLength = codes "form-length"
kind_word kinds.FormName = codes "form-name"
kind_word kinds.FormKind = codes "form-kind"
kind_word kinds.DoubleName = codes "double-name"
kind_word kinds.Count = codes "count"
kind_word kinds.TooDeep = codes "too-deep"
kind_word kinds.LogAbsent = codes "log-absent"
kind_word kinds.LogBase = codes "log-base"
kind_word kinds.LogSequence = codes "log-sequence"
kind_word kinds.LogDirt = codes "log-dirt"
kind_word kinds.LogShort = codes "log-short"
kind_word kinds.Unreadable = codes "unreadable"
kind_word kinds.LogUnreadable = codes "log-unreadable"

abbrev pub state_word : FileState → List ℕ
state_word states.Clean = codes "clean"
state_word states.Recovered = codes "recovered"
state_word states.AsIs = codes "as-is"

abbrev pub part_word : KeyPart → List ℕ
part_word parts.Keys = codes "keys"
part_word parts.Values = codes "values"
part_word parts.Class = codes "class"
part_word parts.Security = codes "security"
