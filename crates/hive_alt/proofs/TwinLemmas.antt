-- What an image with two copies stands for, by what the copies are.
use Rattle.std.proofs.Common.{◌≡◌, ◌<◌, ◌+◌, ◌*◌, ◌/◌, ◌==◌, ◌&&◌, ℕ, zero, suc, true, false, cond, List, [], length, Option, Some, None, Result, Ok, Err, refl, sym, ◌∙◌, ap, arith, add-one, ⊎_elim}
use Rattle.std.specs.Prelude.{not, bytes_eq}
use Rattle.std.proofs.lemmas.Bool.{eq-eqb, eqb-true, ne_eqb, lt-leb, and_right, and_parts}
use Rattle.std.proofs.lemmas.Slice.Eq.{bytes_eq-Decides}
use Rattle.nt_bytes.specs.declared.fault.HiveFault.{HiveFault}
use Rattle.nt_bytes.specs.declared.fault.HiveFaultKind.TheVariants.{LogAbsent, LogUnreadable, LogSequence}
use Rattle.nt_bytes.specs.Reading.{◌>>=◌}
use Rattle.hive_model.specs.Base.{Base, base_of, fault_at, is_bins_size}
use Rattle.hive_model.specs.Image.{Image, File, Primary, Log, Content, Bytes, Unreadable}
use Rattle.hive_model.specs.Recovery.{log_in, sector, bytes_or, gathered, recovered_with, goes_with, as_log_base, base_at, base_in}
use Rattle.hive_model.specs.Carries.{HasBase}
use Rattle.hive_model.specs.Log.{dirty}
use Rattle.hive_model.proofs.BaseLemmas.{log_base_back}
use Rattle.hive_log.specs.Found.{IsUnfinished}
use Rattle.hive_log.proofs.Appending.{sized}
use Rattle.hive_log.proofs.Ranks.{split}
use Rattle.hive_log.proofs.Runs.{gathered_whole}
use Rattle.hive_alt.specs.Copies.{HasCopy, IsPair, IsBehind}
use Rattle.hive_alt.specs.Twin.{copy_at, absent_at, torn_at, read_in, second_in, same_fields, has_fields, has_bytes, second_has, is_second, standing, by_first, by_second, by_second_block, by_copies, twin_of}
use Rattle.hive_read.proofs.TakenLemmas.{same-bytes}

-- whole sectors
pub whole_of : (n : ℕ) → is_bins_size n ≡ true → 512 * (n / 512) ≡ n
whole_of n is = omega (arith, (sized n is).pages)

-- ---- the chain of rules

pub by_block : (image : Image) (opened : Option Base) → base_in image ≡ Ok opened
    → twin_of image ≡ by_copies image opened
unfolding twin_of
by_block image opened has = ap (λ r. r >>= by_copies image) has

pub by_fault : (image : Image) (f : HiveFault) → base_in image ≡ Err f → twin_of image ≡ Err f
unfolding twin_of
by_fault image f is = ap (λ r. r >>= by_copies image) is

pub by_clean : (image : Image) (base : Base) → HasBase image base → base.first ≡ base.second
    → twin_of image ≡ by_first image base
by_clean image base has even =
    by_block image (Some base) has
    ∙ ap (λ t. cond t (by_first image base) (by_second image (Some base))) (eq-eqb base.first base.second even)

to_second : (image : Image) (opened : Option Base) → IsUnfinished opened
    → by_copies image opened ≡ by_second image opened
to_second image None is = refl
to_second image (Some base) odd =
    ap (λ t. cond t (by_first image base) (by_second image (Some base))) (ne_eqb base.first base.second odd)

pub by_unfinished : (image : Image) (opened : Option Base) → base_in image ≡ Ok opened → IsUnfinished opened
    → twin_of image ≡ by_second image opened
by_unfinished image opened has is = by_block image opened has ∙ to_second image opened is

-- ---- the second copy's base block

base_back_at : (r : Result Base HiveFault) (b : Base) → (r >>= λ base. Ok (Some base)) ≡ Ok (Some b) → r ≡ Ok b
base_back_at (Ok x) b is = cc
base_back_at (Err f) b is = absurd (cc)

abbrev second_at : Option Content → Result Base HiveFault
second_at c = bytes_or (fault_at LogAbsent 0) (fault_at LogUnreadable 0) c >>=
    (λ block. as_log_base (base_of block 0))

block_there : (c : Option Content) (b : Base) → base_at c ≡ Ok (Some b) → second_at c ≡ Ok b
block_there None b is = absurd (cc)
block_there (Some Unreadable) b is = absurd (cc)
block_there (Some (Bytes block)) b is = ap as_log_base (base_back_at (base_of block 0) b is)

pub block_back : (c : Option Content) (b : Base) → second_at c ≡ Ok b → base_at c ≡ Ok (Some b)
block_back None b is = absurd (cc)
block_back (Some Unreadable) b is = absurd (cc)
block_back (Some (Bytes block)) b is =
    ap (λ r. r >>= λ (base : Base). Ok (Some base)) (log_base_back (base_of block 0) b is)

pub second_there : (image : Image) (base : Base) (bins : List ℕ) → HasCopy Log image base bins
    → second_in image ≡ Ok base
second_there image base bins is = block_there (log_in image 0) base is.block

-- ---- the bins data of a copy

read_there : (file : File) (image : Image) (i : ℕ) (bytes : List ℕ) → image (copy_at file (8 + i)) ≡ Some (Bytes bytes)
    → read_in file image i ≡ Ok bytes
read_there file image i bytes is = ap (bytes_or (absent_at file i) (torn_at file i)) is

pub copy_read : (file : File) (image : Image) (base : Base) (bins : List ℕ) → HasCopy file image base bins
    → 512 * (length bins / 512) ≡ length bins → gathered (read_in file image) 0 (base.size / 512) ≡ Ok bins
copy_read file image base bins is whole =
    let count : length bins / 512 ≡ base.size / 512 = ap (λ n. n / 512) (sym is.size) in
    gathered_whole (read_in file image) bins (base.size / 512) (omega (arith, is.size, whole))
    (λ i small. read_there file image i (sector bins i) (is.bins_there i (omega (arith, count, whole))))

-- the primary stands
pub first_stands : (image : Image) (base : Base) (bins : List ℕ) → HasCopy Primary image base bins
    → 512 * (length bins / 512) ≡ length bins
    → twin_of image ≡ Ok (record { base = base; bins = bins; dirty = not (is_second image base bins) })
first_stands image base bins is whole =
    by_clean image base is.block is.clean ∙ ap (standing image base) (copy_read Primary image base bins is whole)

-- the second copy stands
pub second_block_stands : (image : Image) (opened : Option Base) (base : Base) → base_in image ≡ Ok opened
    → IsUnfinished opened → second_in image ≡ Ok base → goes_with opened base ≡ true
    → twin_of image ≡ recovered_with true base (gathered (read_in Log image) 0 (base.size / 512))
second_block_stands image opened base block unfinished second goes =
    by_unfinished image opened block unfinished
    ∙ ap (λ r. r >>= by_second_block image opened) second
    ∙ ap (λ t. cond t (recovered_with true base (gathered (read_in Log image) 0 (base.size / 512)))
    (Err (fault_at LogSequence 4))) goes

pub second_stands : (image : Image) (base : Base) (bins : List ℕ) → IsBehind image base → HasCopy Log image base bins
    → 512 * (length bins / 512) ≡ length bins
    → twin_of image ≡ Ok (record { base = base; bins = bins; dirty = true })
second_stands image base bins behind is whole =
    second_block_stands image behind.opened base behind.block behind.unfinished (second_there image base bins is)
    behind.goes
    ∙ ap (recovered_with true base) (copy_read Log image base bins is whole)

-- ---- the second copy is the same

bytes_refl : (l : List ℕ) → bytes_eq l l ≡ true
bytes_refl l = (bytes_eq-Decides l l).1 refl

fields_refl : (b : Base) → same_fields b b ≡ true
fields_refl b =
    rw (
      eq-eqb b.first b.first refl,
      eq-eqb b.second b.second refl,
      eq-eqb b.stamp b.stamp refl,
      eq-eqb b.minor b.minor refl,
      eq-eqb b.kind b.kind refl,
      eq-eqb b.root b.root refl,
      eq-eqb b.size b.size refl,
      eq-eqb b.cluster b.cluster refl,
      bytes_refl b.name,
      bytes_refl b.rest,
    )

fields_same : (a b : Base) → same_fields a b ≡ true → a ≡ b
fields_same a b is =
    let p1 = and_parts (a.first == b.first) _ is in
    let p2 = and_parts (a.second == b.second) _ p1.1 in
    let p3 = and_parts (a.stamp == b.stamp) _ p2.1 in
    let p4 = and_parts (a.minor == b.minor) _ p3.1 in
    let p5 = and_parts (a.kind == b.kind) _ p4.1 in
    let p6 = and_parts (a.root == b.root) _ p5.1 in
    let p7 = and_parts (a.size == b.size) _ p6.1 in
    let p8 = and_parts (a.cluster == b.cluster) _ p7.1 in
    let p9 = and_parts (bytes_eq a.name b.name) _ p8.1 in
    λ i. record {
      first = eqb-true a.first b.first p1.0 i;
      second = eqb-true a.second b.second p2.0 i;
      stamp = eqb-true a.stamp b.stamp p3.0 i;
      minor = eqb-true a.minor b.minor p4.0 i;
      kind = eqb-true a.kind b.kind p5.0 i;
      root = eqb-true a.root b.root p6.0 i;
      size = eqb-true a.size b.size p7.0 i;
      cluster = eqb-true a.cluster b.cluster p8.0 i;
      name = same-bytes a.name b.name p9.0 i;
      rest = same-bytes a.rest b.rest p9.1 i;
    }

pub has_same : (base : Base) (r : Result Base HiveFault) → has_fields base r ≡ true → r ≡ Ok base
has_same base (Ok read) is = ap (λ b. Ok b) (fields_same read base is)
has_same base (Err f) is = absurd (cc)

bytes_there : (bytes : List ℕ) (c : Option Content) → has_bytes bytes c ≡ true → c ≡ Some (Bytes bytes)
bytes_there bytes None is = absurd (cc)
bytes_there bytes (Some Unreadable) is = absurd (cc)
bytes_there bytes (Some (Bytes read)) is = ap (λ b. Some (Bytes b)) (same-bytes read bytes is)

pub second_each : (image : Image) (bins : List ℕ) (n : ℕ) → second_has image bins n ≡ true → (i : ℕ) → i < n
    → log_in image (8 + i) ≡ Some (Bytes (sector bins i))
second_each image bins zero is i below = absurd (omega arith)
second_each image bins (suc n) is i below =
    let parts = and_parts (second_has image bins n) _ is in
    ⊎_elim
    (λ less. second_each image bins n parts.0 i less)
    (λ same. ap (λ k. log_in image (8 + k)) same ∙ bytes_there (sector bins n) (log_in image (8 + n)) parts.1
    ∙ ap (λ k. Some (Bytes (sector bins k))) (sym same))
    (split i n (omega arith))

pub each_second : (image : Image) (bins : List ℕ) (n : ℕ)
    → ((i : ℕ) → i < n → log_in image (8 + i) ≡ Some (Bytes (sector bins i))) → second_has image bins n ≡ true
each_second image bins zero each = refl
each_second image bins (suc n) each =
    ap (λ b. b && has_bytes (sector bins n) (log_in image (8 + n)))
    (each_second image bins n (λ i below. each i (omega arith)))
    ∙ ap (has_bytes (sector bins n)) (each n (omega arith)) ∙ bytes_refl (sector bins n)

-- a good second copy of the same
pub is_second_true : (image : Image) (base : Base) (bins : List ℕ) → HasCopy Log image base bins
    → is_second image base bins ≡ true
is_second_true image base bins is =
    let bins_are = each_second image bins (length bins / 512) (λ i below. is.bins_there i (omega arith)) in
    ap (λ r. has_fields base r && second_has image bins (length bins / 512)) (second_there image base bins is)
    ∙ ap (λ b. b && second_has image bins (length bins / 512)) (fields_refl base) ∙ bins_are

pub true_is_second : (image : Image) (base : Base) (bins : List ℕ) → base.first ≡ base.second → base.size ≡ length bins
    → 512 * (length bins / 512) ≡ length bins
    → is_second image base bins ≡ true → HasCopy Log image base bins
true_is_second image base bins even size whole is =
    let parts = and_parts (has_fields base (second_in image)) _ is in
    record {
      block = block_back (log_in image 0) base (has_same base (second_in image) parts.0);
      clean = even;
      size = size;
      bins_there = λ i small. second_each image bins (length bins / 512) parts.1 i (omega (arith, whole));
    }

-- the state between two calls
pub pair_stands : (image : Image) (base : Base) (bins : List ℕ) → IsPair image base bins
    → 512 * (length bins / 512) ≡ length bins → twin_of image ≡ Ok (record { base = base; bins = bins; dirty = false })
pair_stands image base bins is whole =
    first_stands image base bins is.first whole
    ∙ ap (λ b. Ok (record { base = base; bins = bins; dirty = not b })) (is_second_true image base bins is.second)

pub pair_is_clean : (image : Image) (base : Base) (bins : List ℕ) → is_bins_size (length bins) ≡ true
    → IsPair image base bins → twin_of image ≡ Ok (record { base = base; bins = bins; dirty = false })
pair_is_clean image base bins size is = pair_stands image base bins is (whole_of (length bins) size)

-- one more sector of the second copy is that of the data
pub second_more : (image : Image) (bins : List ℕ) (i : ℕ) → second_has image bins i ≡ true
    → has_bytes (sector bins i) (log_in image (8 + i)) ≡ true → second_has image bins (i + 1) ≡ true
second_more image bins i so_far is =
    ap (second_has image bins) (add-one i) ∙ ap (λ b. b && has_bytes (sector bins i) (log_in image (8 + i))) so_far ∙ is

-- and one is not
pub second_less : (image : Image) (bins : List ℕ) (i n : ℕ) → i < n
    → has_bytes (sector bins i) (log_in image (8 + i)) ≡ false → second_has image bins n ≡ false
second_less image bins i zero below is = absurd (omega arith)
second_less image bins i (suc n) below is = ⊎_elim
    (λ less. ap (λ b. b && has_bytes (sector bins n) (log_in image (8 + n))) (second_less image bins i n less is))
    (λ same. and_right (second_has image bins n) (has_bytes (sector bins n) (log_in image (8 + n)))
    (ap (λ k. has_bytes (sector bins k) (log_in image (8 + k))) (sym same) ∙ is))
    (split i n (omega arith))

-- each sector differs from those of nothing
pub all_dirty : (new : List ℕ) (i : ℕ) → dirty [] new i ≡ true
all_dirty new i = ap (λ b. not (b && bytes_eq (sector [] i) (sector new i))) (lt-leb (512 * i + 512) 0 (omega arith))
