-- Digits in front of a text, and at a place in it.
use Rattle.std.proofs.Common.{◌≡◌, ℕ, zero, suc, ◌+◌, ◌<◌, ◌≤◌, ◌^◌, Bool, true, false, cond, ◌&&◌, List, [], ◌∷◌, length, take, get_or, refl, arith}
use Rattle.std.specs.List.{list_all, prefix_len}
use Rattle.std.specs.Char.{digit_value}
use Rattle.std.proofs.Math.Nat.{pow-le-pow_right}
use Rattle.std.proofs.lemmas.Bool.{ltb-true}
use Rattle.reg_text.specs.Digits.{is_hex}

left_true : (a b : Bool) → (a && b) ≡ true → a ≡ true
left_true true b e = refl
left_true false b e = e

right_true : (a b : Bool) → (a && b) ≡ true → b ≡ true
right_true true b e = e
right_true false b e = absurd cc

-- one of the digits
pub hex_at : (text : List ℕ) (i : ℕ) → list_all is_hex text ≡ true → i < length text
    → digit_value (get_or text i 0) < 16
hex_at [] i all lt = absurd (omega arith)
hex_at (u ∷ text) zero all lt = ltb-true _ _ (left_true (is_hex u) (list_all is_hex text) all)
hex_at (u ∷ text) (suc i) all lt = hex_at text i (right_true (is_hex u) (list_all is_hex text) all) (omega arith)

-- the number of fewer than eight digits
pub few_digits : (n size : ℕ) → n < size → size ≤ 8 → 16 ^ n ≤ 268435456
few_digits n size lt le = pow-le-pow_right {n = 16} (omega arith) {i = n} {j = 7} (omega arith)

front_by : (b : Bool) (u : ℕ) (text : List ℕ) (n : ℕ) → is_hex u ≡ b → list_all is_hex (take n text) ≡ true
    → list_all is_hex (take (cond b (1 + n) 0) (u ∷ text)) ≡ true
front_by true u text n is all = (let one : 1 + n ≡ suc n = omega arith in rw (one, is, all) refl)
front_by false u text n is all = refl

-- the digits in front
pub front_hex : (text : List ℕ) → list_all is_hex (take (prefix_len is_hex text) text) ≡ true
front_hex [] = refl
front_hex (u ∷ text) = front_by (is_hex u) u text (prefix_len is_hex text) refl (front_hex text)
