-- A word is a text of units, and so are digits.
use Rattle.std.proofs.Common.{◌≡◌, ℕ, zero, suc, ◌/◌, ◌%◌, ◌<◌, ◌^◌, ◌==◌, ◌&&◌, not, true, List, [], ◌∷◌, refl, arith}
use Rattle.std.specs.Prelude.{slice_index}
use Rattle.std.proofs.lemmas.Bool.{and_parts}
use Rattle.std.proofs.lemmas.Bool.Decides.{nat_tests}
use Rattle.std.proofs.lemmas.List.Elements.{All-nil, All-cons, All-head, All-tail}
use Rattle.hex.specs.Hex.{encode_lower, encode_with, lower_digits}
use Rattle.nt_bytes.specs.Text.{is_printable}
use Rattle.json_laws.specs.Objects.{is_word, AreUnits}

small_byte : (c : ℕ) → is_printable c ≡ true → c < 2 ^ 16
small_byte c e = grind (arith, nat_tests)

pub word_units : (word : List ℕ) → is_word word ≡ true → AreUnits word
word_units [] e = All-nil (λ u. u < 2 ^ 16)
word_units (c ∷ word) e =
    let parts = and_parts (is_printable c && not (c == 34)) (is_word word) e in
    let prints = and_parts (is_printable c) (not (c == 34)) parts.0 in
    All-cons (λ u. u < 2 ^ 16) c word (small_byte c prints.0) (word_units word parts.1)

-- what a table of digits has at a place
at : (table : List ℕ) (k : ℕ) → AreUnits table → slice_index table k < 2 ^ 16
at [] k are = omega arith
at (c ∷ table) zero are = All-head (λ u. u < 2 ^ 16) c table are
at (c ∷ table) (suc k) are = at table k (All-tail (λ u. u < 2 ^ 16) c table are)

digit : (k : ℕ) → slice_index lower_digits k < 2 ^ 16
digit k = at lower_digits k (word_units lower_digits refl)

pub hex_units : (bytes : List ℕ) → AreUnits (encode_lower bytes)
unfolding encode_with
hex_units [] = All-nil (λ u. u < 2 ^ 16)
hex_units (b ∷ bytes) =
    All-cons (λ u. u < 2 ^ 16) (slice_index lower_digits (b / 16))
    (slice_index lower_digits (b % 16) ∷ encode_lower bytes) (digit (b / 16))
    (All-cons (λ u. u < 2 ^ 16) (slice_index lower_digits (b % 16)) (encode_lower bytes) (digit (b % 16))
    (hex_units bytes))
