-- What a look at a disk answers: what the book says, unless the disk or the memory stopped it. (This project's own.)
use Rattle.std.specs.Prelude.{◌≡◌, Bool, Result, Ok, Err, IsErrOf}
use Rattle.nt_bytes.specs.declared.fault.HiveFault.{HiveFault}
use Rattle.nt_bytes.specs.declared.fault.ReadStop.{ReadStop}
use Rattle.nt_bytes.specs.declared.fault.ReadStop.TheVariants as read
use Rattle.nt_edge.specs.Disk.{DiskState}
use Rattle.nt_edge.specs.Frames.{GoesOn, LeavesAsRead}
use Rattle.nt_edge.specs.declared.disk.DiskStop.{DiskStop}
use Rattle.nt_edge.specs.declared.disk.DiskStop.TheVariants as disk
use Rattle.hive_log.specs.declared.stops.LoadStop.{LoadStop}
use Rattle.hive_log.specs.declared.stops.LoadStop.TheVariants as load

abbrev pub load_stop_of : DiskStop → LoadStop
load_stop_of disk.PowerLost = load.PowerLost
load_stop_of disk.Failed = load.Device
load_stop_of disk.Memory = load.Memory

-- a fault is the book's, and nothing is said of the other stops
abbrev pub IsFaultOf : {T : Type 0} → LoadStop → Result T HiveFault → Type 0
IsFaultOf (load.Fault f) book = book ≡ Err f
IsFaultOf load.PowerLost book = Unit {0}
IsFaultOf load.Device book = Unit {0}
IsFaultOf load.Memory book = Unit {0}

-- an answer is what the book gives, and a fault is the book's
abbrev pub Reads : {T : Type 0} → Result T LoadStop → Result T HiveFault → Type 0
Reads (Ok x) book = book ≡ Ok x
Reads (Err stop) book = IsFaultOf stop book

-- the same of an answer that is seen by what it shows
abbrev pub ReadsAs : {T U : Type 0} → (T → U) → Result T LoadStop → Result U HiveFault → Type 0
ReadsAs view (Ok x) book = book ≡ Ok (view x)
ReadsAs view (Err stop) book = IsFaultOf stop book

-- a fault is the book's, and nothing is said of an answer
abbrev pub HasItsFault : {T U : Type 0} → Result T LoadStop → Result U HiveFault → Type 0
HasItsFault (Ok x) book = Unit {0}
HasItsFault (Err stop) book = IsFaultOf stop book

-- `ReadsAs` of an answer that only a fault or lacking memory refuses
abbrev pub ReadsFiles : {T : Type 0} → Result T ReadStop → Result T HiveFault → Type 0
ReadsFiles (Ok x) book = book ≡ Ok x
ReadsFiles (Err (read.Fault f)) book = book ≡ Err f
ReadsFiles (Err read.Memory) book = Unit {0}

-- A look at a disk that answers a `LoadStop`: contents and record stay, and a loss of power and a failure have their
-- cause. No count rises without one: that memory was lacking is not the disk's.
abbrev pub IsLookAt : {T : Type 0} → Bool → DiskState → DiskState → Result T LoadStop → Type 0
IsLookAt tells old new result = LeavesAsRead tells old new (IsErrOf result load.PowerLost) (IsErrOf result load.Device)

-- A load that may also write: where memory was lacking, it was that of the disk or of the caller.
abbrev pub IsLoadOn : {T : Type 0} → DiskState → DiskState → Result T LoadStop → Type 0
IsLoadOn old new result = GoesOn old new (IsErrOf result load.PowerLost) (IsErrOf result load.Device) (IsErrOf result load.Memory)
