-- The writes of the log and of the bins data, one more sector at a time.
use Rattle.std.proofs.Common.{◌≡◌, ◌<◌, ◌≤◌, ◌+◌, ◌-◌, ◌*◌, ◌/◌, ◌++◌, ◌∷◌, ℕ, zero, suc, Bool, true, false, cond, List, [], length, map, Result, refl, sym, ◌∙◌, ap, subst, arith, add-one}
use Rattle.std.specs.List.{range_with_len, filter}
use Rattle.std.specs.Result.{IsErr}
use Rattle.std.proofs.lemmas.List.{append-nil, map-append}
use Rattle.std.proofs.lemmas.List.Elements.{filter-append}
use Rattle.hive_model.specs.Image.{Write}
use Rattle.hive_model.specs.Recovery.{sector}
use Rattle.nt_edge.specs.Calls.{Made, Wrote, Makes, MakesUntil, writes_of}
use Rattle.hive_commit.specs.Calls.{log_writes}
use Rattle.hive_model.specs.Asked.{log_at, bin_at}
use Rattle.hive_log.proofs.Asking.{range_split}
use Rattle.hive_commit.specs.Growing.{log_part, marked_below}
use Rattle.hive_commit.proofs.CallLemmas.{stopped, front_made, front_as, made_then}

writes_append : (first second : List Write) → writes_of first ++ writes_of second ≡ writes_of (first ++ second)
writes_append first second = sym (map-append Wrote first second)

-- the log from sector `from` on
module _ (log : List ℕ) (from : ℕ) where
  log_append : (m n : ℕ) → log_part log from (m + n) ≡ log_part log from m ++ log_part log (from + m) n
  log_append m n = ap (map (λ k. (log_at k, sector log k))) (range_split from m n)
      ∙ map-append _ (range_with_len from m) (range_with_len (from + m) n)

  module _ (a b : List Made → Type 0) (n : ℕ) (so_far : Makes a b (writes_of (log_part log from n))) where
    -- one more sector
    pub log_more : (c : List Made → Type 0) (bytes : List ℕ) → bytes ≡ sector log (from + n)
        → Makes b c (Wrote (log_at (from + n), bytes) ∷ []) → Makes a c (writes_of (log_part log from (n + 1)))
    log_more c bytes is one =
        let last : Makes b c (writes_of (log_part log (from + n) 1)) =
        subst (λ (l : List ℕ). Makes b c (Wrote (log_at (from + n), l) ∷ [])) is one in
        subst (Makes a c) (writes_append (log_part log from n) (log_part log (from + n) 1)
        ∙ ap writes_of (sym (log_append n 1)))
        (made_then a b c (writes_of (log_part log from n)) (writes_of (log_part log (from + n) 1)) so_far last)

    -- a refusal before all of them are written
    pub log_stopped : {T E : Type 0} (r : Result T E) (count : ℕ) → IsErr r → n ≤ count
        → MakesUntil a b (writes_of (log_part log from count)) r
    log_stopped r count err within =
        let whole : n + (count - n) ≡ count = omega arith in
        let behind = log_part log (from + n) (count - n) in
        stopped a b r (writes_of (log_part log from count)) err
        (front_as a b (writes_of (log_part log from n) ++ writes_of behind) (writes_of (log_part log from count))
        (writes_append (log_part log from n) behind ∙ ap writes_of (sym (log_append n (count - n)))
        ∙ ap (λ k. writes_of (log_part log from k)) whole)
        (front_made a b (writes_of (log_part log from n)) (writes_of behind) so_far))

-- a log is its base block, its bitmap and its run
pub log_cut : (log : List ℕ) (bitmap run : ℕ) → length log ≡ 512 * (1 + bitmap + run)
    → (writes_of (log_part log 0 1) ++ writes_of (log_part log 1 bitmap)) ++ writes_of (log_part log (1 + bitmap) run)
    ≡ writes_of (log_writes log)
log_cut log bitmap run long =
    let count : 1 + bitmap + run ≡ length log / 512 = omega arith in
    let place : 0 + (1 + bitmap) ≡ 1 + bitmap = omega arith in
    ap (λ l. l ++ writes_of (log_part log (1 + bitmap) run))
    (writes_append (log_part log 0 1) (log_part log 1 bitmap) ∙ ap writes_of (sym (log_append log 0 1 bitmap)))
    ∙ writes_append (log_part log 0 (1 + bitmap)) (log_part log (1 + bitmap) run)
    ∙ ap (λ n. writes_of (log_part log 0 (1 + bitmap) ++ log_part log n run)) (sym place)
    ∙ ap writes_of (sym (log_append log 0 (1 + bitmap) run))
    ∙ ap (λ n. writes_of (log_part log 0 n)) count

abbrev bin_write : List ℕ → ℕ → Write
bin_write bins i = (bin_at i, sector bins i)

module _ (bits : ℕ → Bool) (bins : List ℕ) where
  marked_append : (m n : ℕ)
      → marked_below bits bins (m + n) ≡ marked_below bits bins m
      ++ map (bin_write bins) (filter bits (range_with_len (0 + m) n))
  marked_append m n =
      ap (λ l. map (bin_write bins) (filter bits l)) (range_split 0 m n)
      ∙ ap (map (bin_write bins)) (filter-append bits (range_with_len 0 m) (range_with_len (0 + m) n))
      ∙ map-append _ (filter bits (range_with_len 0 m)) (filter bits (range_with_len (0 + m) n))

  -- the next sector, if its bit is on
  marked_next : (i : ℕ) (on : Bool) → bits i ≡ on
      → marked_below bits bins (i + 1) ≡ marked_below bits bins i ++ cond on (bin_write bins i ∷ []) []
  marked_next i on is =
      let here : 0 + i ≡ i = omega arith in
      let last : (b : Bool) → map (bin_write bins) (cond b (i ∷ []) []) ≡ cond b (bin_write bins i ∷ []) [] =
      elim [ true ↦ refl | false ↦ refl ] in
      marked_append i 1
      ∙ ap (λ l. marked_below bits bins i ++ l)
      (ap (λ k. map (bin_write bins) (filter bits (range_with_len k 1))) here
      ∙ ap (λ b. map (bin_write bins) (cond b (i ∷ []) [])) is
      ∙ last on)

  -- sectors whose bits are off
  marked_off : (i n : ℕ) → ((j : ℕ) → i ≤ j → j < i + n → bits j ≡ false)
      → marked_below bits bins (i + n) ≡ marked_below bits bins i
  marked_off i zero off = ap (marked_below bits bins) (omega arith)
  marked_off i (suc n) off =
      let next : i + suc n ≡ i + n + 1 = omega arith in
      ap (marked_below bits bins) next ∙ marked_next (i + n) false (off (i + n) (omega arith) (omega arith))
      ∙ append-nil (marked_below bits bins (i + n)) ∙ marked_off i n (λ j from below. off j from (omega (arith, below)))

  module _ (a b : List Made → Type 0) (i : ℕ) (so_far : Makes a b (writes_of (marked_below bits bins i))) where
    -- one more sector, where its bit is on
    pub marked_more : (c : List Made → Type 0) (bytes : List ℕ) → bits i ≡ true → bytes ≡ sector bins i
        → Makes b c (Wrote (bin_at i, bytes) ∷ []) → Makes a c (writes_of (marked_below bits bins (i + 1)))
    marked_more c bytes on is one =
        let last : Makes b c (writes_of (bin_write bins i ∷ [])) =
        subst (λ (l : List ℕ). Makes b c (Wrote (bin_at i, l) ∷ [])) is one in
        subst (Makes a c) (writes_append (marked_below bits bins i) (bin_write bins i ∷ [])
        ∙ ap writes_of (sym (marked_next i true on)))
        (made_then a b c (writes_of (marked_below bits bins i)) (writes_of (bin_write bins i ∷ [])) so_far last)

    -- and no more where they are off
    pub marked_passed : (n : ℕ) → ((j : ℕ) → i ≤ j → j < i + n → bits j ≡ false)
        → Makes a b (writes_of (marked_below bits bins (i + n)))
    marked_passed n off = subst (λ (l : List Write). Makes a b (writes_of l)) (sym (marked_off i n off)) so_far

    -- a refusal before all of them are written
    pub marked_stopped : {T E : Type 0} (r : Result T E) (count : ℕ) → IsErr r → i ≤ count
        → MakesUntil a b (writes_of (marked_below bits bins count)) r
    marked_stopped r count err within =
        let whole : i + (count - i) ≡ count = omega arith in
        let behind = map (bin_write bins) (filter bits (range_with_len (0 + i) (count - i))) in
        stopped a b r (writes_of (marked_below bits bins count)) err
        (front_as a b (writes_of (marked_below bits bins i) ++ writes_of behind)
        (writes_of (marked_below bits bins count))
        (writes_append (marked_below bits bins i) behind ∙ ap writes_of (sym (marked_append i (count - i)))
        ∙ ap (λ k. writes_of (marked_below bits bins k)) whole)
        (front_made a b (writes_of (marked_below bits bins i)) (writes_of behind) so_far))

-- only the bits of the sectors that are there count
pub marked_same : (a b : ℕ → Bool) (bins : List ℕ) (n : ℕ) → ((i : ℕ) → i < n → a i ≡ b i)
    → marked_below a bins n ≡ marked_below b bins n
marked_same a b bins zero same = refl
marked_same a b bins (suc n) same =
    ap (marked_below a bins) (sym (add-one n))
    ∙ marked_next a bins n (a n) refl
    ∙ ap (λ l. l ++ cond (a n) (bin_write bins n ∷ []) []) (marked_same a b bins n (λ i below. same i (omega arith)))
    ∙ ap (λ on. marked_below b bins n ++ cond on (bin_write bins n ∷ []) []) (same n (omega arith))
    ∙ sym (marked_next b bins n (b n) refl)
    ∙ ap (marked_below b bins) (add-one n)
