-- The bytes that the worked examples are about: a base block, bins data, and the file of a hive. Their values come from
-- the format's tables by hand.
use Rattle.std.specs.Prelude.{ℕ, List, [], ◌∷◌, ◌++◌, codes, replicate, slice_set}
use Rattle.hive_model.specs.Base.{Base, base_text}

-- the base block of 4096 bytes of bins data with the root at 32, with these sequence numbers, in a file of this kind
abbrev pub block : ℕ → ℕ → ℕ → Base
block first second kind = record {
  first = first;
  second = second;
  stamp = 0;
  minor = 3;
  kind = kind;
  root = 32;
  size = 4096;
  cluster = 1;
  name = replicate 64 0;
  rest = replicate 396 0;
}

-- four bytes that are all on: no offset, or the greatest number
abbrev pub none_here : List ℕ
none_here = 0xFF ∷ 0xFF ∷ 0xFF ∷ 0xFF ∷ []

-- the bin of a root `R` alone with the flags 0x000C, field by field
unfoldable pub root_alone : List ℕ
root_alone =
    codes "hbin" ++ (0 ∷ 0 ∷ 0 ∷ 0 ∷ []) ++ (0 ∷ 0x10 ∷ 0 ∷ 0 ∷ []) ++ replicate 20 0
    ++ (0xA8 ∷ 0xFF ∷ 0xFF ∷ 0xFF ∷ []) ++ codes "nk" ++ (0x2C ∷ 0 ∷ []) ++ replicate 12 0 ++ none_here
    ++ replicate 8 0 ++ none_here ++ none_here
    ++ replicate 4 0 ++ none_here ++ none_here ++ none_here
    ++ replicate 20 0 ++ (1 ∷ 0 ∷ 0 ∷ 0 ∷ []) ++ codes "R" ++ replicate 7 0
    ++ (0x88 ∷ 0x0F ∷ 0 ∷ 0 ∷ []) ++ replicate 3972 0

-- bins data without any change, and the same with byte 600 changed, which lies in sector 1
unfoldable pub before : List ℕ
before = replicate 4096 0

unfoldable pub after : List ℕ
after = replicate 600 0 ++ 1 ∷ replicate 3495 0

-- twice as long, with byte 600 changed
unfoldable pub longer : List ℕ
longer = replicate 600 0 ++ 1 ∷ replicate 7591 0

-- the file of a hive: the base block, seven sectors that nothing reads, and the bins data
unfoldable pub file_of : ℕ → ℕ → List ℕ → List ℕ
file_of first second bins = base_text (block first second 0) ++ replicate 3584 0 ++ bins

-- the bytes with these ones at these places
abbrev pub changed : List (ℕ × ℕ) → List ℕ → List ℕ
changed [] bytes = bytes
changed (edit ∷ edits) bytes = changed edits (slice_set bytes edit.0 edit.1)
