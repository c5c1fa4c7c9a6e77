-- An ARC path from left to right, with the first fault that is met (Microsoft's documentation of boot.ini; the faults and
-- their places are this project's own). A fault is known from how many bytes of the text are left where it stands.
use Rattle.std.specs.Prelude.{◌≡◌, ℕ, ◌-◌, min, ◌||◌, not, List, [], ◌∷◌, length, take, drop, Result, Ok, Err, nat_lt, ◌==◌, if◌then◌else◌, codes}
use Rattle.std.specs.Char.{is_digit}
use Rattle.std.specs.List.{prefix_len, suffix_len}
use Rattle.std.specs.Str.{str_eq_ignore_ascii_case}
use Rattle.std.specs.Str.Parse.{digits_value}
use Rattle.boot_ini.specs.declared.arc_path.arc.Arc.{Arc}
use Rattle.boot_ini.specs.declared.arc_path.arc.ArcKind.{ArcKind}
use Rattle.boot_ini.specs.declared.arc_path.arc.ArcKind.TheVariants.{Multi, Scsi, Signature}
use Rattle.boot_ini.specs.declared.arc_path.arc.ArcFault.{ArcFault}
use Rattle.boot_ini.specs.declared.arc_path.arc.ArcFaultKind.{ArcFaultKind}
use Rattle.boot_ini.specs.declared.arc_path.arc.ArcFaultKind.TheVariants.{Kind, Word, Number, Partition, Tail}
use Rattle.boot_ini.specs.declared.arc_path.arc.ArcStop.{ArcStop}
use Rattle.boot_ini.specs.declared.arc_path.arc.ArcStop.TheVariants as stops
use Rattle.boot_ini.specs.declared.arc_path.reading.Early.{Early}
use Rattle.boot_ini.specs.declared.arc_path.reading.Numbers.{Numbers}
use Rattle.nt_bytes.specs.Text.{is_printable, is_backslash}
use Rattle.nt_bytes.specs.Reading.{◌>>=◌}

-- a fault of this kind where the rest of the text begins
abbrev pub fault_at : {A : Type 0} → ArcFaultKind → List ℕ → Result A Early
fault_at kind rest = Err (record { kind = kind; left = length rest })

-- what stands after the word, which is read in either case
unfoldable pub word_at : List ℕ → List ℕ → Result (List ℕ) Early
word_at word text = if str_eq_ignore_ascii_case (take (length word) text) word then Ok (drop (length word) text) else fault_at Word text

-- the digits at the front, at least one and at most `most`
unfoldable pub number_at : ℕ → ℕ → List ℕ → Result (ℕ × List ℕ) Early
number_at radix most text =
    let n = prefix_len (λ c. is_digit c radix) text in
    if n == 0 || nat_lt most n then fault_at Number text else Ok (digits_value radix (take n text), drop n text)

-- `word(number)`
unfoldable pub item_at : List ℕ → List ℕ → Result (ℕ × List ℕ) Early
item_at word text = do
  inside ← word_at word text
  number ← number_at 10 9 inside
  rest ← word_at (codes ")") number.1
  Ok (number.0, rest)

-- the first word, in either case, and what stands after its `(`
unfoldable pub kind_at : List ℕ → Result (ArcKind × List ℕ) Early
kind_at text =
    if str_eq_ignore_ascii_case (take 6 text) (codes "multi(") then Ok (Multi, drop 6 text)
    else if str_eq_ignore_ascii_case (take 5 text) (codes "scsi(") then Ok (Scsi, drop 5 text)
    else if str_eq_ignore_ascii_case (take 10 text) (codes "signature(") then Ok (Signature, drop 10 text)
    else fault_at Kind text

-- a signature is hexadecimal, each other number decimal
abbrev pub radix_of : ArcKind → ℕ
radix_of Multi = 10
radix_of Scsi = 10
radix_of Signature = 16

-- how many digits a number after the first word may have
abbrev pub most_of : ArcKind → ℕ
most_of Multi = 9
most_of Scsi = 9
most_of Signature = 8

-- `partition(number)`, where the number is at least 1
unfoldable pub partition_at : List ℕ → Result (ℕ × List ℕ) Early
partition_at text = do
  inside ← word_at (codes "partition(") text
  number ← number_at 10 9 inside
  rest ← if number.0 == 0 then fault_at Partition inside else word_at (codes ")") number.1
  Ok (number.0, rest)

-- the numbers, and what stands after them
unfoldable pub numbers_at : List ℕ → Result (Numbers × List ℕ) Early
numbers_at text = do
  kind ← kind_at text
  controller ← number_at (radix_of kind.0) (most_of kind.0) kind.1
  closed ← word_at (codes ")") controller.1
  disk ← item_at (codes "disk(") closed
  rdisk ← item_at (codes "rdisk(") disk.1
  partition ← partition_at rdisk.1
  Ok (record { kind = kind.0; controller = controller.0; disk = disk.0; rdisk = rdisk.0; partition = partition.0 }, partition.1)

-- the text without the `\` at its very end
abbrev pub without_last_backslashes : List ℕ → List ℕ
without_last_backslashes text = take (length text - suffix_len is_backslash text) text

-- nothing, or `\` and the directory
unfoldable pub directory_at : List ℕ → Result (List ℕ) Early
directory_at [] = Ok []
directory_at (c ∷ text) =
    if not (is_backslash c) then fault_at Tail (c ∷ text)
    else let n = prefix_len is_printable text in
    if nat_lt n (length text) then fault_at Tail (drop n text) else Ok (without_last_backslashes text)

-- the numbers and the directory
unfoldable pub parts_at : List ℕ → Result (Numbers × List ℕ) Early
parts_at text = do
  numbers ← numbers_at text
  directory ← directory_at numbers.1
  Ok (numbers.0, directory)

abbrev pub arc_from : Numbers → List ℕ → Arc
arc_from n dir = record { kind = n.kind; controller = n.controller; disk = n.disk; rdisk = n.rdisk; partition = n.partition; dir = dir }

-- a place past 4,294,967,295 is given as that number
abbrev pub placed : List ℕ → Result (Numbers × List ℕ) Early → Result Arc ArcFault
placed text (Ok p) = Ok (arc_from p.0 p.1)
placed text (Err e) = Err (record { kind = e.kind; at = min (length text - e.left) 4294967295 })

-- the path that a text is, or the first fault from the left
unfoldable pub arc_of : List ℕ → Result Arc ArcFault
arc_of text = placed text (parts_at text)

-- what a reader returned is what reading gives, unless memory ran out
abbrev pub Gives : Result Arc ArcStop → Result Arc ArcFault → Type 0
Gives (Ok a) read = read ≡ Ok a
Gives (Err stops.Memory) read = Unit {0}
Gives (Err (stops.Fault f)) read = read ≡ Err f
