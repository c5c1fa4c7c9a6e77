-- Bytes, and the fields of a base block that is read from them.
use Rattle.std.proofs.Common.{◌≡◌, ◌<◌, ◌+◌, ◌-◌, ◌^◌, ℕ, zero, suc, List, [], ◌∷◌, ◌++◌, length, take, drop, replicate, arith, length-take, length-drop}
use Rattle.std.specs.Prelude.{slice_range}
use Rattle.std.specs.Int.{w32, w64, from_le_bytes, bytes_low_first, byte_at}
use Rattle.std.proofs.Math.Nat.{mod-lt}
use Rattle.nt_bytes.specs.Fields.{u32_in, u64_in}
use Rattle.hive_model.specs.Base.{fields_of}
use Rattle.windows_logs.specs.log_parts.Filled.{filled}
use Rattle.regf_base.specs.Fitting.{NumbersFit, TextsFit}
use Rattle.replay_laws.specs.Results.{AreBytes}

pub append_bytes : (xs ys : List ℕ) → AreBytes xs → AreBytes ys → AreBytes (xs ++ ys)
append_bytes [] ys hx hy = hy
append_bytes (x ∷ xs) ys hx hy =
    let rest = append_bytes xs ys (record { each = λ j. hx.each (suc j) }) hy in
    record { each = elim [ zero ↦ hx.each zero | suc k ↦ rest.each k ] }

drop_bytes : (n : ℕ) (xs : List ℕ) → AreBytes xs → AreBytes (drop n xs)
drop_bytes zero xs is = is
drop_bytes (suc n) [] is = is
drop_bytes (suc n) (x ∷ xs) is = drop_bytes n xs (record { each = λ k. is.each (suc k) })

pub take_bytes : (n : ℕ) (xs : List ℕ) → AreBytes xs → AreBytes (take n xs)
take_bytes zero xs is = record { each = λ k. omega arith }
take_bytes (suc n) [] is = is
take_bytes (suc n) (x ∷ xs) is =
    let rest = take_bytes n xs (record { each = λ j. is.each (suc j) }) in
    record { each = elim [ zero ↦ is.each zero | suc k ↦ rest.each k ] }

zero_bytes : (n : ℕ) → AreBytes (replicate n 0)
zero_bytes zero = record { each = λ k. omega arith }
zero_bytes (suc n) = let rest = zero_bytes n in record { each = elim [ zero ↦ omega arith | suc k ↦ rest.each k ] }

pub filled_bytes : (bytes : List ℕ) → AreBytes bytes → AreBytes (filled bytes)
unfolding filled
filled_bytes bytes is = append_bytes bytes _ is (zero_bytes _)

byte_small : (i n : ℕ) → byte_at i n < 256
byte_small zero n = omega arith
byte_small (suc i) n = mod-lt _ (omega arith)

-- the bytes of a number
pub low_bytes : (i k n : ℕ) → AreBytes (bytes_low_first i k n)
low_bytes i zero n = record { each = λ j. omega arith }
low_bytes i (suc k) n =
    let rest = low_bytes (suc i) k n in
    record { each = elim [ zero ↦ byte_small i n | suc j ↦ rest.each j ] }

word_small : (bytes : List ℕ) → AreBytes bytes → from_le_bytes w32 bytes < 2 ^ 32
word_small bytes is = omega (arith, is.each 0, is.each 1, is.each 2, is.each 3)

double_small : (bytes : List ℕ) → AreBytes bytes → from_le_bytes w64 bytes < 2 ^ 64
double_small bytes is = omega (
  arith,
  is.each 0,
  is.each 1,
  is.each 2,
  is.each 3,
  is.each 4,
  is.each 5,
  is.each 6,
  is.each 7,
)

pub range_bytes : (bytes : List ℕ) (from to : ℕ) → AreBytes bytes → AreBytes (slice_range bytes from to)
range_bytes bytes from to is = take_bytes (to - from) (drop from bytes) (drop_bytes from bytes is)

pub word_fits : (bytes : List ℕ) (at : ℕ) → AreBytes bytes → u32_in bytes at < 2 ^ 32
word_fits bytes at is = word_small (slice_range bytes at (at + 4)) (range_bytes bytes at (at + 4) is)

double_fits : (bytes : List ℕ) (at : ℕ) → AreBytes bytes → u64_in bytes at < 2 ^ 64
double_fits bytes at is = double_small (slice_range bytes at (at + 8)) (range_bytes bytes at (at + 8) is)

-- the fields of a sector of bytes
pub numbers_there : (sector : List ℕ) → AreBytes sector → NumbersFit (fields_of sector)
unfolding fields_of
numbers_there sector is = record {
  first_fits = word_fits sector 4 is;
  second_fits = word_fits sector 8 is;
  stamp_fits = double_fits sector 12 is;
  root_fits = word_fits sector 36 is;
  cluster_fits = word_fits sector 44 is;
}

pub texts_there : (sector : List ℕ) → AreBytes sector → length sector ≡ 512 → TextsFit (fields_of sector)
unfolding fields_of
texts_there sector is long = record {
  name_long = omega (arith, long, length-take (112 - 48) (drop 48 sector), length-drop 48 sector);
  name_bytes = (range_bytes sector 48 112 is).each;
  rest_long = omega (arith, long, length-take (508 - 112) (drop 112 sector), length-drop 112 sector);
  rest_bytes = (range_bytes sector 112 508 is).each;
}
