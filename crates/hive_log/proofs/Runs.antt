-- Runs of sectors: what is gathered of them, by what each of them is.
use Rattle.std.proofs.Common.{◌≡◌, ◌<◌, ◌≤◌, ◌+◌, ◌*◌, ◌++◌, ℕ, zero, suc, List, length, take, drop, Ok, refl, sym, ◌∙◌, ap, arith, length-take, length-drop}
use Rattle.std.proofs.Math.Seq.{take-add, take-length, drop-append-add}
use Rattle.std.proofs.lemmas.List.{drop-drop, take-append-le, drop-append-le}
use Rattle.hive_model.specs.Recovery.{Sectors, sector, joined, gathered}

-- the sector, and those after it
run_more : (v : List ℕ) (from n : ℕ)
    → sector v from ++ take (512 * n) (drop (512 * suc from) v) ≡ take (512 * suc n) (drop (512 * from) v)
unfolding sector
run_more v from n =
    let next : 512 * suc from ≡ 512 * from + 512 = omega arith in
    let long : 512 + 512 * n ≡ 512 * suc n = omega arith in
    ap (λ k. take 512 (drop (512 * from) v) ++ take (512 * n) (drop k v)) next
    ∙ ap (λ l. take 512 (drop (512 * from) v) ++ take (512 * n) l) (sym (drop-drop 512 (512 * from) v))
    ∙ sym (take-add 512 (512 * n) (drop (512 * from) v))
    ∙ ap (λ k. take k (drop (512 * from) v)) long

pub gathered_is : (at : Sectors) (v : List ℕ) (from n : ℕ)
    → ((i : ℕ) → from ≤ i → i < from + n → at i ≡ Ok (sector v i))
    → gathered at from n ≡ Ok (take (512 * n) (drop (512 * from) v))
gathered_is at v from zero each = refl
gathered_is at v from (suc n) each =
    ap (λ s. joined s (gathered at (suc from) n)) (each from (omega arith) (omega arith))
    ∙ ap (joined (Ok (sector v from)))
    (gathered_is at v (suc from) n (λ i low high. each i (omega arith) (omega arith)))
    ∙ ap (λ l. Ok l) (run_more v from n)

-- all of the bytes
pub gathered_whole : (at : Sectors) (v : List ℕ) (n : ℕ) → length v ≡ 512 * n
    → ((i : ℕ) → i < n → at i ≡ Ok (sector v i)) → gathered at 0 n ≡ Ok v
gathered_whole at v n long each =
    gathered_is at v 0 n (λ i low high. each i (omega arith))
    ∙ ap (λ k. Ok (take k v)) (sym long) ∙ ap (λ l. Ok l) (take-length v)

-- only the sectors that are asked for count
pub gathered_same : (a b : Sectors) (from n : ℕ) → ((i : ℕ) → from ≤ i → i < from + n → a i ≡ b i)
    → gathered a from n ≡ gathered b from n
gathered_same a b from zero each = refl
gathered_same a b from (suc n) each =
    ap (λ s. joined s (gathered a (suc from) n)) (each from (omega arith) (omega arith))
    ∙ ap (joined (b from)) (gathered_same a b (suc from) n (λ i low high. each i (omega arith) (omega arith)))

-- a run is counted from its first sector on
counted_from : (at : Sectors) (first i n : ℕ) → gathered at (first + i) n ≡ gathered (λ k. at (first + k)) i n
counted_from at first i zero = refl
counted_from at first i (suc n) =
    let next : suc (first + i) ≡ first + suc i = omega arith in
    ap (λ k. joined (at (first + i)) (gathered at k n)) next
    ∙ ap (joined (at (first + i))) (counted_from at first (suc i) n)

pub run_counted : (at : Sectors) (first n : ℕ) → gathered at first n ≡ gathered (λ k. at (first + k)) 0 n
run_counted at first n =
    let start : first ≡ first + 0 = omega arith in
    ap (λ k. gathered at k n) start ∙ counted_from at first 0 n

-- sectors of bytes that are joined
pub sector_front : (xs ys : List ℕ) (i : ℕ) → 512 * i + 512 ≤ length xs → sector (xs ++ ys) i ≡ sector xs i
unfolding sector
sector_front xs ys i small =
    ap (take 512) (drop-append-le (512 * i) xs ys (omega arith))
    ∙ take-append-le 512 (drop (512 * i) xs) ys (omega (arith, length-drop (512 * i) xs))

pub sector_back : (xs ys : List ℕ) (k j : ℕ) → length xs ≡ 512 * k → sector (xs ++ ys) (k + j) ≡ sector ys j
unfolding sector
sector_back xs ys k j long =
    let place : 512 * (k + j) ≡ length xs + 512 * j = omega arith in
    ap (λ n. take 512 (drop n (xs ++ ys))) place ∙ ap (take 512) (drop-append-add xs ys (512 * j))

pub sector_long : (v : List ℕ) (i : ℕ) → 512 * i + 512 ≤ length v → length (sector v i) ≡ 512
unfolding sector
sector_long v i small = omega (arith, length-take 512 (drop (512 * i) v), length-drop (512 * i) v)

pub sector_whole : (v : List ℕ) → length v ≡ 512 → sector v 0 ≡ v
unfolding sector
sector_whole v long = ap (λ k. take k v) (sym long) ∙ take-length v
