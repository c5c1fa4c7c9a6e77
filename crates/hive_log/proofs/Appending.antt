-- A log as it grows, and logs of bits that agree.
use Rattle.std.proofs.Common.{◌≡◌, ◌<◌, ◌≤◌, ◌+◌, ◌-◌, ◌*◌, ◌/◌, ◌%◌, ◌==◌, ◌&&◌, ◌++◌, ◌∷◌, ℕ, zero, suc, Bool, true, false, cond, List, [], length, replicate, refl, sym, ◌∙◌, ap, arith, add-one, append_assoc}
use Rattle.std.specs.Prelude.{codes, nat_le}
use Rattle.std.proofs.lemmas.Bool.{eqb-true, leb-true, and_parts}
use Rattle.hive_model.specs.Base.{Base, base_text, is_bins_size}
use Rattle.hive_model.specs.Recovery.{sector, bitmap_sectors}
use Rattle.hive_model.specs.Log.{byte_of, bytes_of_bits, bitmap_text, marked_sectors, log_of}

module _ (bits : ℕ → Bool) (new : List ℕ) (i count : ℕ) (small : i < count) where
  next : marked_sectors bits new i (count - i) ≡ cond (bits i) (sector new i) []
      ++ marked_sectors bits new (i + 1) (count - (i + 1))
  next =
      let long : count - i ≡ suc (count - (i + 1)) = omega arith in
      ap (marked_sectors bits new i) long
      ∙ ap (λ k. cond (bits i) (sector new i) [] ++ marked_sectors bits new k (count - (i + 1))) (sym (add-one i))

  pub marked_off : (log whole : List ℕ) → bits i ≡ false → log ++ marked_sectors bits new i (count - i) ≡ whole
      → log ++ marked_sectors bits new (i + 1) (count - (i + 1)) ≡ whole
  marked_off log whole off so_far =
      ap (λ b. log ++ (cond b (sector new i) [] ++ marked_sectors bits new (i + 1) (count - (i + 1)))) (sym off)
      ∙ ap (λ l. log ++ l) (sym next) ∙ so_far

  pub marked_on : (log whole : List ℕ) → bits i ≡ true → log ++ marked_sectors bits new i (count - i) ≡ whole
      → (log ++ sector new i) ++ marked_sectors bits new (i + 1) (count - (i + 1)) ≡ whole
  marked_on log whole on so_far =
      append_assoc log (sector new i) _
      ∙ ap (λ b. log ++ (cond b (sector new i) [] ++ marked_sectors bits new (i + 1) (count - (i + 1)))) (sym on)
      ∙ ap (λ l. log ++ l) (sym next) ∙ so_far

-- bits that agree on the sectors make one log
module _ (a b : ℕ → Bool) where
  byte_same : (i : ℕ) → ((j : ℕ) → i ≤ j → j < i + 8 → a j ≡ b j) → byte_of a i ≡ byte_of b i
  byte_same i each =
      let b0 : a i ≡ b i = each i (omega arith) (omega arith) in
      let b1 : a (i + 1) ≡ b (i + 1) = each (i + 1) (omega arith) (omega arith) in
      let b2 : a (i + 2) ≡ b (i + 2) = each (i + 2) (omega arith) (omega arith) in
      let b3 : a (i + 3) ≡ b (i + 3) = each (i + 3) (omega arith) (omega arith) in
      let b4 : a (i + 4) ≡ b (i + 4) = each (i + 4) (omega arith) (omega arith) in
      let b5 : a (i + 5) ≡ b (i + 5) = each (i + 5) (omega arith) (omega arith) in
      let b6 : a (i + 6) ≡ b (i + 6) = each (i + 6) (omega arith) (omega arith) in
      let b7 : a (i + 7) ≡ b (i + 7) = each (i + 7) (omega arith) (omega arith) in
      rw (b0, b1, b2, b3, b4, b5, b6, b7)

  bytes_same : (k n : ℕ) → ((j : ℕ) → j < 8 * (k + n) → a j ≡ b j) → bytes_of_bits a k n ≡ bytes_of_bits b k n
  bytes_same k zero each = refl
  bytes_same k (suc n) each =
      ap (λ x. x ∷ bytes_of_bits a (suc k) n) (byte_same (8 * k) (λ j low high. each j (omega arith)))
      ∙ ap (λ l. byte_of b (8 * k) ∷ l) (bytes_same (suc k) n (λ j below. each j (omega arith)))

  marked_same : (new : List ℕ) (i n : ℕ) → ((j : ℕ) → j < i + n → a j ≡ b j)
      → marked_sectors a new i n ≡ marked_sectors b new i n
  marked_same new i zero each = refl
  marked_same new i (suc n) each =
      ap (λ t. cond t (sector new i) [] ++ marked_sectors a new (suc i) n) (each i (omega arith))
      ∙ ap (λ l. cond (b i) (sector new i) [] ++ l) (marked_same new (suc i) n (λ j below. each j (omega arith)))

  pub log_same : (new : List ℕ) (base : Base) → ((j : ℕ) → 512 * j < length new → a j ≡ b j)
      → log_of a new base ≡ log_of b new base
  unfolding log_of bitmap_text
  log_same new base each =
      let size = length new in
      let whole : List ℕ → List ℕ → List ℕ =
      λ bytes marked. (base_text (record base { kind = 1 })
      ++ ((codes "DIRT" ++ bytes) ++ replicate (512 * bitmap_sectors size - (4 + size / 4096)) 0)) ++ marked in
      ap (λ l. whole l (marked_sectors a new 0 (size / 512)))
      (bytes_same 0 (size / 4096) (λ j below. each j (omega arith)))
      ∙ ap (whole (bytes_of_bits b 0 (size / 4096))) (marked_same new 0 (size / 512) (λ j below. each j (omega arith)))

pub record IsSized (n : ℕ) : Type 0 where
  pub pages : 4096 * (n / 4096) ≡ n
  pub low : 4096 ≤ n
  pub high : n ≤ 16777216

pub sized : (n : ℕ) → is_bins_size n ≡ true → IsSized n
sized n is =
    let outer = and_parts (n % 4096 == 0) (nat_le 4096 n && nat_le n 16777216) is in
    let inner = and_parts (nat_le 4096 n) (nat_le n 16777216) outer.1 in
    let even : n % 4096 ≡ 0 = eqb-true (n % 4096) 0 outer.0 in
    record { pages = omega arith; low = leb-true 4096 n inner.0; high = leb-true n 16777216 inner.1 }
