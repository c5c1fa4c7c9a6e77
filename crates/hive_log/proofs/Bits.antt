-- Bits that are packed eight to a byte are read back.
use Rattle.std.proofs.Common.{◌≡◌, ◌<◌, ◌≤◌, ◌+◌, ◌*◌, ◌/◌, ◌%◌, ◌^◌, ◌==◌, ◌++◌, ◌∷◌, ℕ, zero, suc, Bool, true, false, List, length, get_or, take, drop, drop-cons, refl, sym, ◌∙◌, ap, arith}
use Rattle.std.proofs.lemmas.List.{get_or_append_left}
use Rattle.hive_model.specs.Recovery.{one_if, bit}
use Rattle.hive_model.specs.Log.{byte_of, bytes_of_bits}

small : (b : Bool) → one_if b ≤ 1
small true = omega arith
small false = omega arith

pub bits_long : (bits : ℕ → Bool) (k n : ℕ) → length (bytes_of_bits bits k n) ≡ n
bits_long bits k zero = refl
bits_long bits k (suc n) = omega (arith, bits_long bits (suc k) n)

pub byte_there : (bits : ℕ → Bool) (k n j : ℕ) → j < n
    → get_or (bytes_of_bits bits k n) j 0 ≡ byte_of bits (8 * (k + j))
byte_there bits k zero j below = absurd (omega arith)
byte_there bits k (suc n) zero below = ap (λ m. byte_of bits (8 * m)) (omega arith)
byte_there bits k (suc n) (suc j) below =
    let moved : suc k + j ≡ k + suc j = omega arith in
    byte_there bits (suc k) n j (omega arith) ∙ ap (λ m. byte_of bits (8 * m)) moved

module _ (a b c d e f g h : ℕ) (a1 : a ≤ 1) (b1 : b ≤ 1) (c1 : c ≤ 1) (d1 : d ≤ 1) (e1 : e ≤ 1) (f1 : f ≤ 1)
    (g1 : g ≤ 1) (h1 : h ≤ 1) where
  abbrev sum : ℕ
  sum = a + 2 * b + 4 * c + 8 * d + 16 * e + 32 * f + 64 * g + 128 * h

  digit0 : sum / 1 % 2 ≡ a
  digit0 = omega arith

  digit1 : sum / 2 % 2 ≡ b
  digit1 = omega arith

  digit2 : sum / 4 % 2 ≡ c
  digit2 = omega arith

  digit3 : sum / 8 % 2 ≡ d
  digit3 = omega arith

  digit4 : sum / 16 % 2 ≡ e
  digit4 = omega arith

  digit5 : sum / 32 % 2 ≡ f
  digit5 = omega arith

  digit6 : sum / 64 % 2 ≡ g
  digit6 = omega arith

  digit7 : sum / 128 % 2 ≡ h
  digit7 = omega arith

-- bit r of the byte
byte_bit : (bits : ℕ → Bool) (i r : ℕ) → r < 8 → byte_of bits i / 2 ^ r % 2 ≡ one_if (bits (i + r))
byte_bit bits i zero small8 =
    digit0 _ _ _ _ _ _ _ _ (small _) (small _) (small _) (small _) (small _) (small _) (small _) (small _)
    ∙ ap (λ n. one_if (bits n)) (omega arith)
byte_bit bits i (suc zero) small8 =
    digit1 _ _ _ _ _ _ _ _ (small _) (small _) (small _) (small _) (small _) (small _) (small _) (small _)
byte_bit bits i (suc (suc zero)) small8 =
    digit2 _ _ _ _ _ _ _ _ (small _) (small _) (small _) (small _) (small _) (small _) (small _) (small _)
byte_bit bits i (suc (suc (suc zero))) small8 =
    digit3 _ _ _ _ _ _ _ _ (small _) (small _) (small _) (small _) (small _) (small _) (small _) (small _)
byte_bit bits i (suc (suc (suc (suc zero)))) small8 =
    digit4 _ _ _ _ _ _ _ _ (small _) (small _) (small _) (small _) (small _) (small _) (small _) (small _)
byte_bit bits i (suc (suc (suc (suc (suc zero))))) small8 =
    digit5 _ _ _ _ _ _ _ _ (small _) (small _) (small _) (small _) (small _) (small _) (small _) (small _)
byte_bit bits i (suc (suc (suc (suc (suc (suc zero)))))) small8 =
    digit6 _ _ _ _ _ _ _ _ (small _) (small _) (small _) (small _) (small _) (small _) (small _) (small _)
byte_bit bits i (suc (suc (suc (suc (suc (suc (suc zero))))))) small8 =
    digit7 _ _ _ _ _ _ _ _ (small _) (small _) (small _) (small _) (small _) (small _) (small _) (small _)
byte_bit bits i (suc (suc (suc (suc (suc (suc (suc (suc r)))))))) small8 = absurd (omega arith)

is_on : (b : Bool) → (one_if b == 1) ≡ b
is_on true = refl
is_on false = refl

-- of n bytes of bits with anything after them
pub bit_back : (bits : ℕ → Bool) (n i : ℕ) (rest : List ℕ) → i < 8 * n → bit (bytes_of_bits bits 0 n ++ rest) i ≡ bits i
unfolding bit
bit_back bits n i rest below =
    let q = i / 8 in
    let r = i % 8 in
    let inside : q < n = omega arith in
    let there : get_or (bytes_of_bits bits 0 n ++ rest) q 0 ≡ byte_of bits (8 * (0 + q)) =
    get_or_append_left (bytes_of_bits bits 0 n) rest 0 q (omega (arith, bits_long bits 0 n))
    ∙ byte_there bits 0 n q inside in
    let whole : 8 * (0 + q) + r ≡ i = omega arith in
    ap (λ b. b / 2 ^ r % 2 == 1) there
    ∙ ap (λ n. n == 1) (byte_bit bits (8 * (0 + q)) r (omega arith))
    ∙ is_on _ ∙ ap bits whole

two : (m : ℕ) → m < 2 → one_if (m == 1) ≡ m
two zero below = refl
two (suc zero) below = refl
two (suc (suc m)) below = absurd (omega arith)

-- bit r of byte k
bit_of_byte : (bitmap : List ℕ) (k r : ℕ) → r < 8 → one_if (bit bitmap (8 * k + r)) ≡ get_or bitmap k 0 / 2 ^ r % 2
unfolding bit
bit_of_byte bitmap k r below =
    let place : (8 * k + r) / 8 ≡ k = omega arith in
    let turn : (8 * k + r) % 8 ≡ r = omega arith in
    ap (λ q. one_if (get_or bitmap q 0 / 2 ^ ((8 * k + r) % 8) % 2 == 1)) place
    ∙ ap (λ t. one_if (get_or bitmap k 0 / 2 ^ t % 2 == 1)) turn
    ∙ two (get_or bitmap k 0 / 2 ^ r % 2) (omega arith)

digits_sum : (b : ℕ) → b < 256
    → b / 1 % 2 + 2 * (b / 2 % 2) + 4 * (b / 4 % 2) + 8 * (b / 8 % 2) + 16 * (b / 16 % 2) + 32 * (b / 32 % 2)
    + 64 * (b / 64 % 2) + 128 * (b / 128 % 2) ≡ b
digits_sum b below = omega arith

byte_again : (bitmap : List ℕ) (k : ℕ) → get_or bitmap k 0 < 256 → byte_of (bit bitmap) (8 * k) ≡ get_or bitmap k 0
byte_again bitmap k below =
    let b0 : one_if (bit bitmap (8 * k)) ≡ get_or bitmap k 0 / 1 % 2 =
    ap (λ n. one_if (bit bitmap n)) (omega arith) ∙ bit_of_byte bitmap k 0 (omega arith) in
    let b1 = bit_of_byte bitmap k 1 (omega arith) in
    let b2 = bit_of_byte bitmap k 2 (omega arith) in
    let b3 = bit_of_byte bitmap k 3 (omega arith) in
    let b4 = bit_of_byte bitmap k 4 (omega arith) in
    let b5 = bit_of_byte bitmap k 5 (omega arith) in
    let b6 = bit_of_byte bitmap k 6 (omega arith) in
    let b7 = bit_of_byte bitmap k 7 (omega arith) in
    let whole = digits_sum (get_or bitmap k 0) below in
    rw (b0, b1, b2, b3, b4, b5, b6, b7) whole

-- the bits of bytes give the bytes back
pub bytes_again : (bitmap : List ℕ) (k n : ℕ) → ((j : ℕ) → get_or bitmap j 0 < 256) → k + n ≤ length bitmap
    → bytes_of_bits (bit bitmap) k n ≡ take n (drop k bitmap)
bytes_again bitmap k zero are_bytes inside = refl
bytes_again bitmap k (suc n) are_bytes inside =
    ap (λ b. b ∷ bytes_of_bits (bit bitmap) (suc k) n) (byte_again bitmap k (are_bytes k))
    ∙ ap (λ l. get_or bitmap k 0 ∷ l) (bytes_again bitmap (suc k) n are_bytes (omega arith))
    ∙ ap (take (suc n)) (sym (drop-cons bitmap k 0 (omega arith)))
