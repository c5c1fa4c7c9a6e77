-- The cells of the segments of big data, as a sum that needs no list.
use Rattle.std.proofs.Common.{◌≡◌, ◌<◌, ◌+◌, ◌-◌, ◌*◌, ◌/◌, ◌%◌, ℕ, zero, suc, refl, arith}
use Rattle.hive_model.specs.Size.{cell, cells_sum, segment_part, segment_count, segment_sizes}

-- the same number of full ones, and one for the rest
several : (full rest n : ℕ) → n ≡ full * 16344 + rest → rest < 16344 → 0 < rest
    → cells_sum (segment_sizes (suc full) n) ≡ full * 16352 + cell rest
several zero rest n is small some =
    let part : segment_part n ≡ rest = omega arith in
    rw part (omega arith)
several (suc full) rest n is small some =
    let part : segment_part n ≡ 16344 = omega arith in
    rw part (omega (arith, several full rest (n - 16344) (omega arith) small some))

-- the same number of full ones, and nothing is left
all_full : (full n : ℕ) → n ≡ full * 16344 → cells_sum (segment_sizes full n) ≡ full * 16352
all_full zero n is = refl
all_full (suc full) n is =
    let part : segment_part n ≡ 16344 = omega arith in
    rw part (omega (arith, all_full full (n - 16344) (omega arith)))

-- the cells of the segments that n bytes fill, where all are full
pub full_segments : (n : ℕ) → n % 16344 ≡ 0 → cells_sum (segment_sizes (segment_count n) n) ≡ n / 16344 * 16352
full_segments n none =
    let count : segment_count n ≡ n / 16344 = omega arith in
    rw count (all_full (n / 16344) n (omega arith))

-- the cells of the segments that n bytes fill, where the last is not full
pub rest_segments : (n : ℕ) → 0 < n % 16344
    → cells_sum (segment_sizes (segment_count n) n) ≡ n / 16344 * 16352 + cell (n % 16344)
rest_segments n some =
    let count : segment_count n ≡ suc (n / 16344) = omega arith in
    rw count (several (n / 16344) (n % 16344) n (omega arith) (omega arith) some)
