-- Digits of another case.
use Rattle.std.proofs.Common.{◌≡◌, ℕ, ◌+◌, ◌*◌, ◌%◌, ◌==◌, Bool, true, false, cond, List, [], ◌∷◌, length, Option, Some, None, refl, ap, ◌∙◌}
use Rattle.std.specs.Prelude.{Result, Ok, Err}
use Rattle.std.proofs.lemmas.List.Elements.{length_all_zip}
use Rattle.hex.specs.declared.error.FromHexError.{FromHexError}
use Rattle.hex.specs.declared.error.FromHexError.TheVariants.{OddLength}
use Rattle.hex.specs.Hex.{hex_digit_value, digit_or_error, decode_pairs, ◌>>=◌}
use Rattle.find_command.specs.Asked.{read_bytes, bytes_written, AreSameDigits}

-- a byte before what is read
with_byte : (byte : ℕ) (r s : Result (List ℕ) FromHexError) → read_bytes r ≡ read_bytes s
    → read_bytes (r >>= λ bytes. Ok (byte ∷ bytes)) ≡ read_bytes (s >>= λ bytes. Ok (byte ∷ bytes))
with_byte byte (Ok a) (Ok b) e = (let same : a ≡ b = cc in ap (λ (x : List ℕ). Some (byte ∷ x)) same)
with_byte byte (Ok a) (Err f) e = absurd cc
with_byte byte (Err f) (Ok b) e = absurd cc
with_byte byte (Err f) (Err g) e = refl

pairs_alike : (i : ℕ) (a b : List ℕ) → AreSameDigits a b → read_bytes (decode_pairs i a) ≡ read_bytes (decode_pairs i b)
unfolding decode_pairs
pairs_alike i [] [] e = refl
pairs_alike i [] (y ∷ b) e = absurd e
pairs_alike i (x ∷ a) [] e = absurd e
pairs_alike i (x ∷ []) (y ∷ []) e = refl
pairs_alike i (x ∷ []) (y ∷ v ∷ b) e = absurd e.1
pairs_alike i (x ∷ u ∷ a) (y ∷ []) e = absurd e.1
pairs_alike i (x ∷ u ∷ a) (y ∷ v ∷ b) e =
    by (hex_digit_value x) (hex_digit_value u) (pairs_alike (i + 2) a b e.1.1)
    ∙ (λ j. read_bytes (byte_of y v (e.0 j) (e.1.0 j) >>= λ byte. decode_pairs (i + 2) b >>= λ bytes. Ok (byte ∷ bytes)))
  where
    byte_of : ℕ → ℕ → Option ℕ → Option ℕ → Result ℕ FromHexError
    byte_of c d o p = digit_or_error c i o >>= λ h. digit_or_error d (i + 1) p >>= λ l. Ok (h * 16 + l)

    by : (o p : Option ℕ) → read_bytes (decode_pairs (i + 2) a) ≡ read_bytes (decode_pairs (i + 2) b)
        → read_bytes (byte_of x u o p >>= λ byte. decode_pairs (i + 2) a >>= λ bytes. Ok (byte ∷ bytes))
        ≡ read_bytes (byte_of y v o p >>= λ byte. decode_pairs (i + 2) b >>= λ bytes. Ok (byte ∷ bytes))
    by None p further = refl
    by (Some h) None further = refl
    by (Some h) (Some l) further = with_byte (h * 16 + l) (decode_pairs (i + 2) a) (decode_pairs (i + 2) b) further

pub digits_alike : (a b : List ℕ) → AreSameDigits a b → bytes_written a ≡ bytes_written b
digits_alike a b e =
    by (length a % 2 == 1)
    ∙ ap (λ (n : ℕ). read_bytes (cond (n % 2 == 1) (Err OddLength) (decode_pairs 0 b)))
    (length_all_zip (λ x y. hex_digit_value x ≡ hex_digit_value y) a b e)
  where
    by : (odd : Bool) → read_bytes (cond odd (Err OddLength) (decode_pairs 0 a)) ≡ read_bytes (cond odd (Err OddLength) (decode_pairs 0 b))
    by true = refl
    by false = pairs_alike 0 a b e
