-- What fills bytes up to whole words.
use Rattle.std.proofs.Common.{◌≡◌, ◌<◌, ◌≤◌, ◌+◌, ◌-◌, ◌*◌, ◌/◌, ◌%◌, ◌∙◌, ℕ, zero, suc, List, [], ◌∷◌, ◌++◌, length, take, drop, replicate, refl, sym, ap, arith, add-one, length-drop}
use Rattle.std.specs.Prelude.{slice_set, slice_range}
use Rattle.std.specs.Int.{w32, from_le_bytes}
use Rattle.std.proofs.lemmas.List.{take-append-le, drop-append-le, drop-drop}
use Rattle.std.proofs.lemmas.Slice.{between_to_end}
use Rattle.nt_bytes.specs.Fields.{u32_in}
use Rattle.windows_logs.specs.declared.marvin_hash.State.{State}
use Rattle.windows_logs.specs.marvin_hash.Marvin.{mixed, padded, state_after}

-- the last word, written over four zeros
pub written : (rest : List ℕ) → length rest < 4
    → slice_set (rest ++ drop (length rest) (0 ∷ 0 ∷ 0 ∷ 0 ∷ [])) (length rest) 0x80 ≡ rest ++ 0x80 ∷ replicate (3 - length rest) 0
written [] few = refl
written (a ∷ []) few = refl
written (a ∷ b ∷ []) few = refl
written (a ∷ b ∷ c ∷ []) few = refl
written (a ∷ b ∷ c ∷ d ∷ more) few = absurd (omega arith)

-- the same word, with the zeros of the next one after it
last : (rest : List ℕ) → length rest < 4
    → take 4 (rest ++ 0x80 ∷ replicate (7 - length rest) 0) ≡ take 4 (rest ++ 0x80 ∷ replicate (3 - length rest) 0)
last [] few = refl
last (a ∷ []) few = refl
last (a ∷ b ∷ []) few = refl
last (a ∷ b ∷ c ∷ []) few = refl
last (a ∷ b ∷ c ∷ d ∷ more) few = absurd (omega arith)

-- and that next one
zeros : (rest : List ℕ) → length rest < 4 → take 4 (drop 4 (rest ++ 0x80 ∷ replicate (7 - length rest) 0)) ≡ 0 ∷ 0 ∷ 0 ∷ 0 ∷ []
zeros [] few = refl
zeros (a ∷ []) few = refl
zeros (a ∷ b ∷ []) few = refl
zeros (a ∷ b ∷ c ∷ []) few = refl
zeros (a ∷ b ∷ c ∷ d ∷ more) few = absurd (omega arith)

word_front : (xs ys : List ℕ) (at : ℕ) → at + 4 ≤ length xs → u32_in (xs ++ ys) at ≡ u32_in xs at
word_front xs ys at long =
    ap (λ l. from_le_bytes w32 (take (at + 4 - at) l)) (drop-append-le at xs ys (omega arith))
    ∙ ap (from_le_bytes w32) (take-append-le (at + 4 - at) (drop at xs) ys (omega (arith, length-drop at xs)))

-- the whole words of bytes are those of what they are filled up to
front : (n : ℕ) (xs ys : List ℕ) → 4 * n ≤ length xs → state_after n (xs ++ ys) ≡ state_after n xs
unfolding state_after
front zero xs ys long = refl
front (suc n) xs ys long =
    ap (λ s. mixed s (u32_in (xs ++ ys) (4 * n))) (front n xs ys (omega arith))
    ∙ ap (mixed (state_after n xs)) (word_front xs ys (4 * n) (omega arith))

pub state_more : (n : ℕ) (text : List ℕ) → state_after (n + 1) text ≡ mixed (state_after n text) (u32_in text (4 * n))
unfolding state_after
state_more n text = rw add-one refl

-- a word is that of what stands there
word_at : (text : List ℕ) (at : ℕ) → u32_in text at ≡ from_le_bytes w32 (take 4 (drop at text))
word_at text at = let four : at + 4 - at ≡ 4 = omega arith in ap (λ n. from_le_bytes w32 (take n (drop at text))) four

module _ (bytes : List ℕ) where
  abbrev whole_words : ℕ
  whole_words = length bytes / 4

  next_at : 4 * (whole_words + 1) ≡ 4 * whole_words + 4
  next_at = omega arith

  abbrev rest : List ℕ
  rest = drop (4 * whole_words) bytes

  rest_long : length rest ≡ length bytes % 4
  rest_long = omega (arith, length-drop (4 * whole_words) bytes)

  behind : drop (4 * whole_words) (padded bytes) ≡ rest ++ 0x80 ∷ replicate (7 - length rest) 0
  behind =
      drop-append-le (4 * whole_words) bytes _ (omega arith)
      ∙ ap (λ n. rest ++ 0x80 ∷ replicate (7 - n) 0) (sym rest_long)

  few : length rest < 4
  few = omega (arith, rest_long)

  last_is : u32_in (padded bytes) (4 * whole_words) ≡ u32_in (rest ++ 0x80 ∷ replicate (3 - length rest) 0) 0
  last_is =
      word_at (padded bytes) (4 * whole_words)
      ∙ ap (from_le_bytes w32) (ap (take 4) behind ∙ last rest few)

  zeros_is : u32_in (padded bytes) (4 * (whole_words + 1)) ≡ 0
  zeros_is =
      word_at (padded bytes) (4 * (whole_words + 1))
      ∙ ap (from_le_bytes w32)
      (ap (λ n. take 4 (drop n (padded bytes))) next_at ∙ ap (take 4) (sym (drop-drop 4 (4 * whole_words) (padded bytes)))
      ∙ ap (λ l. take 4 (drop 4 l)) behind ∙ zeros rest few)

  whole : state_after (whole_words + 2) (padded bytes)
      ≡ mixed (mixed (state_after whole_words bytes) (u32_in (rest ++ 0x80 ∷ replicate (3 - length rest) 0) 0)) 0
  whole =
      let n = whole_words in
      let text = padded bytes in
      let two : n + 2 ≡ (n + 1) + 1 = omega arith in
      ap (λ k. state_after k text) two
      ∙ state_more (n + 1) text
      ∙ ap (λ s. mixed s (u32_in text (4 * (n + 1)))) (state_more n text)
      ∙ ap (mixed (mixed (state_after n text) (u32_in text (4 * n)))) zeros_is
      ∙ ap (λ w. mixed (mixed (state_after n text) w) 0) last_is
      ∙ ap (λ s. mixed (mixed s (u32_in (rest ++ 0x80 ∷ replicate (3 - length rest) 0) 0)) 0)
      (front n bytes _ (omega arith))

  pub whole_by : (s : State) (w : ℕ) → s ≡ state_after whole_words bytes
      → w ≡ u32_in (slice_range bytes (4 * whole_words) (length bytes) ++ 0x80 ∷ replicate (3 - length (slice_range bytes (4 * whole_words) (length bytes))) 0) 0
      → mixed (mixed s w) 0 ≡ state_after (whole_words + 2) (padded bytes)
  whole_by s w front_is word_is =
      let part : List ℕ → ℕ = λ r. u32_in (r ++ 0x80 ∷ replicate (3 - length r) 0) 0 in
      ap (λ t. mixed (mixed t w) 0) front_is
      ∙ ap (λ v. mixed (mixed (state_after whole_words bytes) v) 0)
      (word_is ∙ ap part (between_to_end bytes (4 * whole_words) (length bytes) (omega arith)))
      ∙ sym whole
