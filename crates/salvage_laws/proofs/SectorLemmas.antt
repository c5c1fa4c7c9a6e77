-- The sectors of a hive's file, as its image and as whole sectors.
use Rattle.std.proofs.Common.{◌≡◌, inl, inr, ℕ, zero, suc, ◌+◌, ◌-◌, ◌*◌, ◌%◌, ◌<◌, ◌≤◌, cond, List, [], ◌∷◌, ◌++◌, length, take, drop, replicate, Some, None, Ok, Err, sym, ap, ◌∙◌, arith, append-nil}
use Rattle.std.specs.Prelude.{nat_lt, slice_index}
use Rattle.std.proofs.lemmas.Bool.{cases_lt, lt-ltb, le-ltb}
use Rattle.std.proofs.lemmas.List.{length-append, length-replicate, length-drop, length-take, take_all, take-append-le, drop-append-le}
use Rattle.nt_bytes.specs.declared.fault.HiveFaultKind.TheVariants as kinds
use Rattle.hive_model.specs.Base.{fault_at}
use Rattle.hive_model.specs.Image.{Bytes, padded, sector_of, image_of}
use Rattle.hive_model.specs.Recovery.{primary_in, log_in, bytes_or, read_bin, joined, gathered}
use Rattle.windows_logs.specs.log_parts.Filled.{filled}

-- ---- whole sectors

pub filled-whole : (hive : List ℕ) → (length (filled hive) % 512 ≡ 0) × (length hive ≤ length (filled hive))
    × (length (filled hive) < length hive + 512)
unfolding filled
filled-whole hive =
    let n = (512 - length hive % 512) % 512 in
    let long : length (hive ++ replicate n 0) ≡ length hive + n = omega (arith, length-append hive (replicate n 0), length-replicate {A = ℕ} n 0) in
    (omega (arith, long), omega (arith, long), omega (arith, long))

-- a sector that is there
pub sector-is : (hive : List ℕ) (at : ℕ) → at % 512 ≡ 0 → at < length hive
    → padded (take 512 (drop at hive)) ≡ take 512 (drop at (filled hive))
unfolding filled
sector-is hive at whole there =
    let n = (512 - length hive % 512) % 512 in
    let xs = drop at hive in
    let long = length-drop at hive in
    let moved : take 512 (drop at (hive ++ replicate n 0)) ≡ take 512 (xs ++ replicate n 0) =
    ap (take 512) (drop-append-le at hive (replicate n 0) (omega (arith, there))) in
    elim (cases_lt (length xs) 512) [
      | inl lt ↦
          let short : take 512 xs ≡ xs = take_all 512 xs (omega (arith, lt)) in
          let same : 512 - length xs ≡ n = omega (arith, lt, long, whole, there) in
          let all : take 512 (xs ++ replicate n 0) ≡ xs ++ replicate n 0 =
          take_all 512 (xs ++ replicate n 0)
          (omega (arith, same, lt, length-append xs (replicate n 0), length-replicate {A = ℕ} n 0)) in
          ap padded short ∙ ap (λ k. xs ++ replicate k 0) same ∙ sym all ∙ sym moved
      | inr le ↦
          let full : length (take 512 xs) ≡ 512 = omega (arith, le, length-take 512 xs) in
          ap (λ k. take 512 xs ++ replicate (512 - k) 0) full ∙ append-nil (take 512 xs)
          ∙ sym (take-append-le 512 xs (replicate n 0) le) ∙ sym moved
    ]

-- the sectors of a file's image are those of the whole file
content-there : (bytes : List ℕ) (n : ℕ) → n < 65536 → 512 * n < length (filled bytes)
    → cond (nat_lt n 65536) (sector_of bytes n) None ≡ Some (Bytes (take 512 (drop (512 * n) (filled bytes))))
content-there bytes n few there =
    let f = filled-whole bytes in
    let inside : 512 * n < length bytes = omega (arith, f.0, f.2, there) in
    ap (λ t. cond t (sector_of bytes n) None) (lt-ltb n 65536 few)
    ∙ ap (λ t. cond t (Some (Bytes (padded (take 512 (drop (512 * n) bytes))))) None) (lt-ltb (512 * n) (length bytes) inside)
    ∙ ap (λ b. Some (Bytes b)) (sector-is bytes (512 * n) (omega arith) inside)

content-absent : (bytes : List ℕ) (n : ℕ) → n < 65536 → length (filled bytes) ≤ 512 * n → cond (nat_lt n 65536) (sector_of bytes n) None ≡ None
content-absent bytes n few past =
    let f = filled-whole bytes in
    ap (λ t. cond t (sector_of bytes n) None) (lt-ltb n 65536 few)
    ∙ ap (λ t. cond t (Some (Bytes (padded (take 512 (drop (512 * n) bytes))))) None)
    (le-ltb (512 * n) (length bytes) (omega (arith, f.1, past)))

pub sector-there : (hive log : List ℕ) (n : ℕ) → n < 65536 → 512 * n < length (filled hive)
    → primary_in (image_of hive log) n ≡ Some (Bytes (take 512 (drop (512 * n) (filled hive))))
sector-there hive log n few there = content-there hive n few there

pub sector-absent : (hive log : List ℕ) (n : ℕ) → n < 65536 → length (filled hive) ≤ 512 * n
    → primary_in (image_of hive log) n ≡ None
sector-absent hive log n few past = content-absent hive n few past

pub log-there : (hive log : List ℕ) (n : ℕ) → n < 65536 → 512 * n < length (filled log)
    → log_in (image_of hive log) n ≡ Some (Bytes (take 512 (drop (512 * n) (filled log))))
log-there hive log n few there = content-there log n few there

pub log-absent : (hive log : List ℕ) (n : ℕ) → n < 65536 → length (filled log) ≤ 512 * n → log_in (image_of hive log) n ≡ None
log-absent hive log n few past = content-absent log n few past

-- a run of sectors that the file has not all
pub gathered-short : (hive log : List ℕ) (i n : ℕ) → 0 < n → 8 + i + n ≤ 65536 → length (filled hive) < 512 * (8 + i + n)
    → gathered (read_bin (image_of hive log)) i n ≡ Err (fault_at kinds.Size 40)
gathered-short hive log i zero some few short = absurd (omega (arith, some))
gathered-short hive log i (suc n) some few short =
    elim (cases_lt (512 * (8 + i)) (length (filled hive))) [
      | inl lt ↦ ap (λ r. joined (bytes_or (fault_at kinds.Size 40) (fault_at kinds.Unreadable (512 * (8 + i))) r)
          (gathered (read_bin (image_of hive log)) (suc i) n)) (sector-there hive log (8 + i) (omega (arith, few)) lt)
          ∙ ap (joined (Ok (take 512 (drop (512 * (8 + i)) (filled hive)))))
          (next n (omega (arith, few)) (omega (arith, short)) lt (λ s f l. gathered-short hive log (suc i) n s f l))
      | inr le ↦ ap (λ r. joined (bytes_or (fault_at kinds.Size 40) (fault_at kinds.Unreadable (512 * (8 + i))) r)
          (gathered (read_bin (image_of hive log)) (suc i) n)) (sector-absent hive log (8 + i) (omega (arith, few)) le)
    ]
  where
    next : (n : ℕ) → 8 + suc i + n ≤ 65536 → length (filled hive) < 512 * (8 + suc i + n) → 512 * (8 + i) < length (filled hive)
        → (0 < n → 8 + suc i + n ≤ 65536 → length (filled hive) < 512 * (8 + suc i + n)
        → gathered (read_bin (image_of hive log)) (suc i) n ≡ Err (fault_at kinds.Size 40))
        → gathered (read_bin (image_of hive log)) (suc i) n ≡ Err (fault_at kinds.Size 40)
    next zero few short lt h = let f = filled-whole hive in absurd (omega (arith, f.0, short, lt))
    next (suc m) few short lt h = h (omega arith) few short

-- ---- bytes

pub bytes-joined : (xs ys : List ℕ) → ((k : ℕ) → slice_index xs k < 256) → ((k : ℕ) → slice_index ys k < 256) → (k : ℕ)
    → slice_index (xs ++ ys) k < 256
bytes-joined [] ys hx hy k = hy k
bytes-joined (x ∷ xs) ys hx hy zero = hx zero
bytes-joined (x ∷ xs) ys hx hy (suc k) = bytes-joined xs ys (λ j. hx (suc j)) hy k

pub zeros-bytes : (n k : ℕ) → slice_index (replicate n 0) k < 256
zeros-bytes zero k = omega arith
zeros-bytes (suc n) zero = omega arith
zeros-bytes (suc n) (suc k) = zeros-bytes n k

pub filled-bytes : (hive : List ℕ) → ((k : ℕ) → slice_index hive k < 256) → (k : ℕ) → slice_index (filled hive) k < 256
unfolding filled
filled-bytes hive h k =
    bytes-joined hive (replicate ((512 - length hive % 512) % 512) 0) h (zeros-bytes ((512 - length hive % 512) % 512)) k
