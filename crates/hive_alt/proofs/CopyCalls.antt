-- The calls of a copy that is written, one more sector at a time, and those of its stages.
use Rattle.std.proofs.Common.{◌≡◌, ◌<◌, ◌≤◌, ◌+◌, ◌-◌, ◌/◌, ◌++◌, ◌∷◌, ℕ, zero, suc, Bool, true, false, cond, List, [], length, map, Result, Ok, Err, refl, sym, ◌∙◌, ap, subst, arith, add-one}
use Rattle.std.specs.List.{range_with_len, filter}
use Rattle.std.specs.Result.{IsErr}
use Rattle.std.proofs.lemmas.List.{append-nil, map-append}
use Rattle.std.proofs.lemmas.List.Elements.{filter-append}
use Rattle.hive_model.specs.Base.{Base}
use Rattle.hive_model.specs.Image.{File, Write}
use Rattle.hive_model.specs.Recovery.{sector}
use Rattle.nt_edge.specs.Calls.{Made, Wrote, Synced, Makes, MakesUntil, writes_of}
use Rattle.hive_log.proofs.Asking.{range_split}
use Rattle.hive_commit.proofs.CallLemmas.{stopped, front_made, front_as, front_then, made_then}
use Rattle.hive_commit.proofs.StageCalls.{closing_cut}
use Rattle.hive_alt.specs.Calls.{bin_write, copy_below, copy_block_calls, copy_closing_calls, rewrite_calls}
use Rattle.hive_alt.specs.Twin.{copy_at}

writes_append : (first second : List Write) → writes_of first ++ writes_of second ≡ writes_of (first ++ second)
writes_append first second = sym (map-append Wrote first second)

module _ (file : File) (bits : ℕ → Bool) (bins : List ℕ) where
  abbrev behind : ℕ → ℕ → List Write
  behind m n = map (bin_write file bins) (filter bits (range_with_len (0 + m) n))

  below_append : (m n : ℕ)
      → copy_below file bits bins (m + n) ≡ copy_below file bits bins m ++ behind m n
  below_append m n =
      ap (λ l. map (bin_write file bins) (filter bits l)) (range_split 0 m n)
      ∙ ap (map (bin_write file bins)) (filter-append bits (range_with_len 0 m) (range_with_len (0 + m) n))
      ∙ map-append _ (filter bits (range_with_len 0 m)) (filter bits (range_with_len (0 + m) n))

  -- the next sector, if its bit is on
  below_next : (i : ℕ) (on : Bool) → bits i ≡ on
      → copy_below file bits bins (i + 1) ≡ copy_below file bits bins i ++ cond on (bin_write file bins i ∷ []) []
  below_next i on is =
      let here : 0 + i ≡ i = omega arith in
      let last : (b : Bool)
      → map (bin_write file bins) (cond b (i ∷ []) []) ≡ cond b (bin_write file bins i ∷ []) [] =
      elim [ true ↦ refl | false ↦ refl ] in
      below_append i 1
      ∙ ap (λ l. copy_below file bits bins i ++ l)
      (ap (λ k. map (bin_write file bins) (filter bits (range_with_len k 1))) here
      ∙ ap (λ b. map (bin_write file bins) (cond b (i ∷ []) [])) is
      ∙ last on)

  module _ (a b : List Made → Type 0) (i : ℕ) (so_far : Makes a b (writes_of (copy_below file bits bins i))) where
    -- one more sector, where its bit is on
    pub bin_made : (c : List Made → Type 0) (bytes : List ℕ) → bits i ≡ true → bytes ≡ sector bins i
        → Makes b c (Wrote (copy_at file (8 + i), bytes) ∷ [])
        → Makes a c (writes_of (copy_below file bits bins (i + 1)))
    bin_made c bytes on is one =
        let last : Makes b c (writes_of (bin_write file bins i ∷ [])) =
        subst (λ (l : List ℕ). Makes b c (Wrote (copy_at file (8 + i), l) ∷ [])) is one in
        subst (Makes a c) (writes_append (copy_below file bits bins i) (bin_write file bins i ∷ [])
        ∙ ap writes_of (sym (below_next i true on)))
        (made_then a b c (writes_of (copy_below file bits bins i)) (writes_of (bin_write file bins i ∷ []))
        so_far last)

    -- and none where it is off
    pub bin_passed : bits i ≡ false → Makes a b (writes_of (copy_below file bits bins (i + 1)))
    bin_passed off = subst (λ (l : List Write). Makes a b (writes_of l))
        (sym (below_next i false off ∙ append-nil (copy_below file bits bins i))) so_far

    -- a refusal before all of them are written
    pub bins_stopped : {T E : Type 0} (r : Result T E) (count : ℕ) → IsErr r → i ≤ count
        → MakesUntil a b (writes_of (copy_below file bits bins count)) r
    bins_stopped r count err within =
        let whole : i + (count - i) ≡ count = omega arith in
        let rest = behind i (count - i) in
        stopped a b r (writes_of (copy_below file bits bins count)) err
        (front_as a b (writes_of (copy_below file bits bins i) ++ writes_of rest)
        (writes_of (copy_below file bits bins count))
        (writes_append (copy_below file bits bins i) rest ∙ ap writes_of (sym (below_append i (count - i)))
        ∙ ap (λ k. writes_of (copy_below file bits bins k)) whole)
        (front_made a b (writes_of (copy_below file bits bins i)) (writes_of rest) so_far))

-- only the bits of the sectors that are there count
below_same : (file : File) (a b : ℕ → Bool) (bins : List ℕ) (n : ℕ) → ((i : ℕ) → i < n → a i ≡ b i)
    → copy_below file a bins n ≡ copy_below file b bins n
below_same file a b bins zero same = refl
below_same file a b bins (suc n) same =
    ap (copy_below file a bins) (sym (add-one n))
    ∙ below_next file a bins n (a n) refl
    ∙ ap (λ l. l ++ cond (a n) (bin_write file bins n ∷ []) [])
    (below_same file a b bins n (λ i below. same i (omega arith)))
    ∙ ap (λ on. copy_below file b bins n ++ cond on (bin_write file bins n ∷ []) []) (same n (omega arith))
    ∙ sym (below_next file b bins n (b n) refl)
    ∙ ap (copy_below file b bins) (add-one n)

-- ---- stages

module _ (file : File) (a b : ℕ → Bool) (bins : List ℕ) (same : (i : ℕ) → i < length bins / 512 → a i ≡ b i) where
  pub closing_same : (closed : Base) → copy_closing_calls file closed a bins ≡ copy_closing_calls file closed b bins
  closing_same closed = ap (λ l. writes_of l ++ Synced ∷ copy_block_calls file closed)
      (below_same file a b bins (length bins / 512) same)

  pub rewrite_same : (opened closed opened_as closed_as : Base) → opened ≡ opened_as → closed ≡ closed_as
      → rewrite_calls file opened closed a bins ≡ rewrite_calls file opened_as closed_as b bins
  rewrite_same opened closed opened_as closed_as opened_is closed_is =
      ap (λ l. copy_block_calls file opened ++ l) (closing_same closed)
      ∙ ap (λ (x : Base). rewrite_calls file x closed b bins) opened_is
      ∙ ap (λ (x : Base). rewrite_calls file opened_as x b bins) closed_is

module _ (a b c : List Made → Type 0) where
  -- calls after others, up to a refusal
  pub until_then : {T E : Type 0} (first second : List Made) (r : Result T E) → Makes a b first
      → MakesUntil b c second r → MakesUntil a c (first ++ second) r
  until_then first second (Ok x) one two = made_then a b c first second one two
  until_then first second (Err e) one two = front_then a b c first second one two

-- the three stages of a copy that is rewritten
pub rewritten : {T E : Type 0} (opened bins closed : List Made) (a b c d : List Made → Type 0) (r : Result T E)
    → Makes a b opened → Makes b c (bins ++ Synced ∷ []) → MakesUntil c d closed r
    → MakesUntil a d (opened ++ (bins ++ Synced ∷ closed)) r
rewritten opened bins closed a b c d r one two three =
    until_then a b d opened (bins ++ Synced ∷ closed) r one
    (subst (λ (l : List Made). MakesUntil b d l r) (closing_cut bins closed b d)
    (until_then b c d (bins ++ Synced ∷ []) closed r two three))
