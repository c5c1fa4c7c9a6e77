-- Which fault of a text is the first from the left? (this project's own)
--
-- Said from the pieces of a path, in sequence; `Reading.antt` says how a text is read, and the law
-- `the_first_fault_from_the_left_is_named` that both name the same.
use Rattle.std.specs.Prelude.{◌≡◌, ◌≢◌, ◌⊎◌, ℕ, ◌+◌, ◌<◌, min, true, false, List, [], ◌∷◌, ◌++◌, length, codes}
use Rattle.std.specs.List.{list_all}
use Rattle.std.specs.Char.{is_digit}
use Rattle.std.specs.Str.{str_eq_ignore_ascii_case}
use Rattle.std.specs.Str.Parse.{AllDigits}
use Rattle.boot_ini.specs.declared.arc_path.arc.ArcKind.{ArcKind}
use Rattle.boot_ini.specs.declared.arc_path.arc.ArcFault.{ArcFault}
use Rattle.boot_ini.specs.declared.arc_path.arc.ArcFaultKind.{ArcFaultKind}
use Rattle.boot_ini.specs.declared.arc_path.arc.ArcFaultKind.TheVariants.{Kind, Word, Number, Partition, Tail}
use Rattle.boot_ini.specs.arc_path.Reading.{radix_of, most_of}
use Rattle.nt_bytes.specs.Text.{is_printable}
use Rattle.boot_ini.specs.arc_path.Spelling.{IsNumeral, word_of}

-- what has to stand next: a word in either case, a number in that many digits at most, or a partition's number
pub data Piece : Type 0 where
  Name : List ℕ → Piece
  Digits : ℕ → ℕ → Piece
  Counted : Piece

-- the pieces after the first word
abbrev pub pieces_of : ArcKind → List Piece
pieces_of kind =
    Digits (radix_of kind) (most_of kind) ∷ Name (codes ")") ∷ Name (codes "disk(") ∷ Digits 10 9 ∷ Name (codes ")") ∷ Name (codes "rdisk(") ∷ Digits 10 9
    ∷ Name (codes ")") ∷ Name (codes "partition(") ∷ Counted ∷ Name (codes ")") ∷ []

-- the text begins with no digit
abbrev pub StartsNoDigit : ℕ → List ℕ → Type 0
StartsNoDigit radix [] = Unit {0}
StartsNoDigit radix (c ∷ text) = is_digit c radix ≡ false

-- the piece stands here, and the rest is after it
abbrev pub Stands : Piece → List ℕ → List ℕ → Type 0
Stands (Name word) shown rest = str_eq_ignore_ascii_case shown word ≡ true
Stands (Digits radix most) shown rest = (value : ℕ) × IsNumeral radix most value shown × StartsNoDigit radix rest
Stands Counted shown rest = (value : ℕ) × IsNumeral 10 9 value shown × (0 < value) × StartsNoDigit 10 rest

-- no digits, or too many of them, stand here
pub record HasNoNumber (radix most : ℕ) (text : List ℕ) : Type 0 where
  pub digits : List ℕ
  pub rest : List ℕ
  pub spelled : text ≡ digits ++ rest
  pub all : AllDigits radix digits
  pub whole : StartsNoDigit radix rest
  pub wrong : (length digits ≡ 0) ⊎ (most < length digits)

-- the digits of zero stand here
pub record HasZero (text : List ℕ) : Type 0 where
  pub digits : List ℕ
  pub rest : List ℕ
  pub spelled : text ≡ digits ++ rest
  pub numeral : IsNumeral 10 9 0 digits
  pub whole : StartsNoDigit 10 rest

-- the text does not begin with this word
abbrev pub BeginsNot : List ℕ → List ℕ → Type 0
BeginsNot word text = (name rest : List ℕ) → text ≡ name ++ rest → str_eq_ignore_ascii_case name word ≢ true

-- the piece does not stand here, and which fault that is
abbrev pub Lacks : Piece → ArcFaultKind → List ℕ → Type 0
Lacks (Name word) kind text = (kind ≡ Word) × BeginsNot word text
Lacks (Digits radix most) kind text = (kind ≡ Number) × HasNoNumber radix most text
Lacks Counted kind text = ((kind ≡ Number) × HasNoNumber 10 9 text) ⊎ ((kind ≡ Partition) × HasZero text)

-- after all pieces something other than `\` stands first, or after `\` and what can be printed something that can't be
abbrev pub IsTailFault : ℕ → List ℕ → Type 0
IsTailFault place text =
    ((place ≡ 0) × (c : ℕ) × (rest : List ℕ) × (text ≡ c ∷ rest) × (c ≢ 92))
    ⊎ ((front : List ℕ) × (c : ℕ) × (rest : List ℕ) × (text ≡ 92 ∷ (front ++ c ∷ rest)) × (list_all is_printable front ≡ true) × (is_printable c ≡ false)
    × (place ≡ length front + 1))

-- the first of these pieces is lacking here, or it stands here and the fault is after it
abbrev pub IsFaultIn : List Piece → ArcFaultKind → ℕ → List ℕ → Type 0
IsFaultIn [] kind place text = (kind ≡ Tail) × IsTailFault place text
IsFaultIn (piece ∷ pieces) kind place text =
    (Lacks piece kind text × (place ≡ 0))
    ⊎ ((shown : List ℕ) × (rest : List ℕ) × (behind : ℕ) × (text ≡ shown ++ rest) × Stands piece shown rest × IsFaultIn pieces kind behind rest
    × (place ≡ length shown + behind))

-- no first word is at the front, or one does and the fault is after it
abbrev pub IsFaultAt : ArcFaultKind → ℕ → List ℕ → Type 0
IsFaultAt kind place text =
    ((kind ≡ Kind) × ((k : ArcKind) → BeginsNot (word_of k) text) × (place ≡ 0))
    ⊎ ((k : ArcKind) × (shown : List ℕ) × (rest : List ℕ) × (behind : ℕ) × (text ≡ shown ++ rest) × (str_eq_ignore_ascii_case shown (word_of k) ≡ true)
    × IsFaultIn (pieces_of k) kind behind rest × (place ≡ length shown + behind))

-- the fault has this kind and place; a place past 4,294,967,295 is given as that number
abbrev pub IsFirstFault : ArcFault → List ℕ → Type 0
IsFirstFault fault text = (place : ℕ) × IsFaultAt fault.kind place text × (fault.at ≡ min place 4294967295)
