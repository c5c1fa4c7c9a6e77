-- The words of the book for the types of the code.
use Rattle.std.specs.Prelude.{◌≡◌, refl}
use Rattle.hive_model.specs.Image.{File, Primary, Log, Call, Reads, Writes, Syncs}
use Rattle.hive_model.specs.Image as book
use Rattle.nt_edge.specs.declared.disk.HiveFile.{HiveFile}
use Rattle.nt_edge.specs.declared.disk.HiveFile.TheVariants.{Primary as PrimaryFile, Log as LogFile}
use Rattle.nt_edge.specs.declared.disk.DiskCall.{DiskCall}
use Rattle.nt_edge.specs.declared.disk.DiskCall.TheVariants.{Read, Write, Sync}
use Rattle.nt_edge.specs.declared.disk.Keep.{Keep}
use Rattle.nt_edge.specs.declared.disk.Keep.TheVariants.{Nothing, Everything, OddOnes, Torn}

-- the book's file
abbrev pub file_of : HiveFile → File
file_of PrimaryFile = Primary
file_of LogFile = Log

-- the code's file
abbrev pub hive_file_of : File → HiveFile
hive_file_of Primary = PrimaryFile
hive_file_of Log = LogFile

-- each file of the code is given back
pub hive_file_of-file_of : (f : HiveFile) → hive_file_of (file_of f) ≡ f
hive_file_of-file_of PrimaryFile = refl
hive_file_of-file_of LogFile = refl

-- the book's kind of call
abbrev pub call_of : DiskCall → Call
call_of Read = Reads
call_of Write = Writes
call_of Sync = Syncs

-- the book's way of leaving the writes in flight
abbrev pub keep_of : Keep → book.Keep
keep_of Nothing = book.Nothing
keep_of Everything = book.Everything
keep_of OddOnes = book.OddOnes
keep_of Torn = book.Torn
