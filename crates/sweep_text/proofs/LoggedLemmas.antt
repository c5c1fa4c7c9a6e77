-- Sectors whose bit is on, one bit after the other.
use Rattle.std.proofs.Common.{◌≡◌, ℕ, zero, suc, ◌+◌, ◌-◌, ◌<◌, ◌≤◌, Bool, true, false, cond, List, [], ◌∷◌, ◌++◌, length, drop, sym, ap, ◌∙◌, append_assoc, arith}
use Rattle.std.proofs.lemmas.List.{length-append}
use Rattle.std.proofs.Math.ListN.{drop_of_length-le}
use Rattle.std.specs.List.{range_with_len}
use Rattle.sweep_text.specs.sweep_text.Logged.{listed}

pub one_more : (bits : ℕ → Bool) (i count : ℕ) (old new total : List ℕ) → i < count
    → new ≡ old ++ cond (bits i) ((8 + i) ∷ []) [] → old ++ listed bits i (count - i) ≡ total
    → new ++ listed bits (i + 1) (count - (i + 1)) ≡ total
one_more bits i count old new total lt put so_far =
    let n : ℕ = count - (i + 1) in
    let more : count - i ≡ suc n = omega (arith, lt) in
    ap (λ (l : List ℕ). l ++ listed bits (i + 1) n) put
    ∙ append_assoc old (cond (bits i) ((8 + i) ∷ []) []) (listed bits (i + 1) n)
    ∙ sym (ap (λ (k : ℕ). old ++ listed bits i k) more)
    ∙ so_far

one_few : (b : Bool) (x : ℕ) → length (cond b (x ∷ []) []) ≤ 1
one_few true x = omega arith
one_few false x = omega arith

-- there are at most the number of bits
pub few_listed : (bits : ℕ → Bool) (i n : ℕ) → length (listed bits i n) ≤ n
few_listed bits i zero = omega arith
few_listed bits i (suc n) =
    omega (arith, length-append (cond (bits i) ((8 + i) ∷ []) []) (listed bits (i + 1) n), one_few (bits i) (8 + i), few_listed bits (i + 1) n)

-- ---- the log as bytes

pub none_left : (n : ℕ) (bytes : List ℕ) → length bytes ≤ n → drop n bytes ≡ []
none_left n bytes short = drop_of_length-le bytes {i = n} short

-- ---- numbers from one on

range_more : (a n : ℕ) → range_with_len a (suc n) ≡ range_with_len a n ++ (a + n) ∷ []
range_more a zero = ap (λ (k : ℕ). k ∷ []) (let same : a ≡ a + 0 = omega arith in same)
range_more a (suc n) =
    let same : a + 1 + n ≡ a + suc n = omega arith in
    ap (λ (l : List ℕ). a ∷ l) (range_more (a + 1) n ∙ ap (λ (k : ℕ). range_with_len (a + 1) n ++ k ∷ []) same)

pub range_push : (n : ℕ) → range_with_len 0 (n + 1) ≡ range_with_len 0 n ++ n ∷ []
range_push n =
    let more : n + 1 ≡ suc n = omega arith in
    let same : 0 + n ≡ n = omega arith in
    ap (range_with_len 0) more ∙ range_more 0 n ∙ ap (λ (k : ℕ). range_with_len 0 n ++ k ∷ []) same
