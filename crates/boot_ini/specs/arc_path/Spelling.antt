-- Which texts mean an ARC path, and which of them is written? (Microsoft's documentation of boot.ini; the limits on digits
-- and the form that is written are this project's own)
--
-- Said of the whole text, from its parts and without reading it: `Reading.antt` says how a text is read, and the law
-- `a_path_reads_as_what_it_spells` that both say the same.
use Rattle.std.specs.Prelude.{◌≡◌, ◌≢◌, ◌⊎◌, ℕ, ◌<◌, ◌≤◌, ◌^◌, ◌/◌, ◌%◌, true, false, List, [], ◌∷◌, ◌++◌, length, codes}
use Rattle.std.specs.List.{list_all, prefix_len}
use Rattle.std.specs.Str.{str_eq_ignore_ascii_case}
use Rattle.std.specs.Str.Parse.{AllDigits, digits_value}
use Rattle.std.specs.Fmt.{decimal, digit_glyph}
use Rattle.boot_ini.specs.declared.arc_path.arc.Arc.{Arc}
use Rattle.boot_ini.specs.declared.arc_path.arc.ArcKind.{ArcKind}
use Rattle.boot_ini.specs.declared.arc_path.arc.ArcKind.TheVariants.{Multi, Scsi, Signature}
use Rattle.boot_ini.specs.arc_path.Reading.{without_last_backslashes, radix_of, most_of}
use Rattle.nt_bytes.specs.Text.{is_backslash, is_printable}

-- ---- every text of a path

-- digits that write the value: one or more, at most that many, leading zeros among them
pub record IsNumeral (radix most value : ℕ) (shown : List ℕ) : Type 0 where
  pub digits : AllDigits radix shown
  pub some : 0 < length shown
  pub few : length shown ≤ most
  pub writes : digits_value radix shown ≡ value

-- the word in either case, the number, and `)`
pub record IsItem (word : List ℕ) (radix most value : ℕ) (shown : List ℕ) : Type 0 where
  pub name : List ℕ
  pub number : List ℕ
  pub spelled : shown ≡ name ++ (number ++ codes ")")
  pub named : str_eq_ignore_ascii_case name word ≡ true
  pub numeral : IsNumeral radix most value number

-- the first word of each kind
abbrev pub word_of : ArcKind → List ℕ
word_of Multi = codes "multi("
word_of Scsi = codes "scsi("
word_of Signature = codes "signature("

-- `\`, the directory, and perhaps more of them, which do not belong to it
pub record IsBehindBackslash (dir shown : List ℕ) : Type 0 where
  pub more : List ℕ
  pub spelled : shown ≡ codes "\\" ++ (dir ++ more)
  pub dropped : list_all is_backslash more ≡ true
  pub printable : list_all is_printable dir ≡ true
  pub ends : (front : List ℕ) → dir ≢ front ++ codes "\\"

-- a directory's text; where there is none, perhaps nothing
abbrev pub IsDirectory : List ℕ → List ℕ → Type 0
IsDirectory dir shown = ((dir ≡ []) × (shown ≡ [])) ⊎ IsBehindBackslash dir shown

-- the text means the path
pub record IsSpelled (text : List ℕ) (arc : Arc) : Type 0 where
  pub controller : List ℕ
  pub disk : List ℕ
  pub rdisk : List ℕ
  pub partition : List ℕ
  pub directory : List ℕ
  pub spelled : text ≡ controller ++ (disk ++ (rdisk ++ (partition ++ directory)))
  pub is_controller : IsItem (word_of arc.kind) (radix_of arc.kind) (most_of arc.kind) arc.controller controller
  pub is_disk : IsItem (codes "disk(") 10 9 arc.disk disk
  pub is_rdisk : IsItem (codes "rdisk(") 10 9 arc.rdisk rdisk
  pub is_partition : IsItem (codes "partition(") 10 9 arc.partition partition
  pub some_partition : 0 < arc.partition
  pub is_directory : IsDirectory arc.dir directory

-- ---- the one text that is written

-- eight lower-case hexadecimal digits
unfoldable pub eight_digits : ℕ → List ℕ
eight_digits n =
    digit_glyph false (n / 268435456 % 16) ∷ digit_glyph false (n / 16777216 % 16) ∷ digit_glyph false (n / 1048576 % 16) ∷ digit_glyph false (n / 65536 % 16)
    ∷ digit_glyph false (n / 4096 % 16) ∷ digit_glyph false (n / 256 % 16) ∷ digit_glyph false (n / 16 % 16) ∷ digit_glyph false (n % 16) ∷ []

-- the first word and its number
abbrev pub first_text : ArcKind → ℕ → List ℕ
first_text Multi n = codes "multi(" ++ decimal n
first_text Scsi n = codes "scsi(" ++ decimal n
first_text Signature n = codes "signature(" ++ eight_digits n

-- the numbers of disk and partition
abbrev pub numbers_text : ℕ → ℕ → ℕ → List ℕ
numbers_text disk rdisk partition = codes ")disk(" ++ decimal disk ++ codes ")rdisk(" ++ decimal rdisk ++ codes ")partition(" ++ decimal partition ++ codes ")"

-- nothing, or `\` and the directory
abbrev pub directory_text : List ℕ → List ℕ
directory_text [] = []
directory_text (c ∷ dir) = 92 ∷ c ∷ dir

-- the text of a path
abbrev pub text_of : Arc → List ℕ
text_of a = first_text a.kind a.controller ++ numbers_text a.disk a.rdisk a.partition ++ directory_text a.dir

-- a path that a text may be: numbers of few digits, a partition, a printable directory without a last `\`
pub record IsPath (a : Arc) : Type 0 where
  pub controller : a.controller < radix_of a.kind ^ most_of a.kind
  pub disk : a.disk < 10 ^ 9
  pub rdisk : a.rdisk < 10 ^ 9
  pub partition : a.partition < 10 ^ 9
  pub some_partition : 0 < a.partition
  pub printable : prefix_len is_printable a.dir ≡ length a.dir
  pub trimmed : without_last_backslashes a.dir ≡ a.dir
