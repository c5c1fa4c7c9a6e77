-- What is recovered from whole sectors is as long as bins data may be, and of bytes where they are.
use Rattle.std.specs.Prelude.{slice_index}
use Rattle.std.proofs.Common.{◌≡◌, ◌≤◌, ◌<◌, ◌+◌, ◌*◌, ◌/◌, ◌%◌, ◌==◌, ◌&&◌, ◌++◌, ◌∷◌, ℕ, zero, suc, Bool, true, false, cond, List, [], length, drop, Option, Some, None, Result, Ok, Err, refl, sym, ◌∙◌, ap, subst, arith, length-append}
use Rattle.std.specs.Prelude.{nat_le}
use Rattle.std.proofs.lemmas.Bool.{leb-true}
use Rattle.nt_bytes.specs.declared.fault.HiveFault.{HiveFault}
use Rattle.nt_bytes.specs.declared.fault.HiveFaultKind.TheVariants as kinds
use Rattle.nt_bytes.specs.Reading.{◌>>=◌}
use Rattle.hive_model.specs.Base.{Base, fault_at, is_bins_size}
use Rattle.hive_model.specs.Image.{Image, Address, Content, Bytes, Unreadable}
use Rattle.hive_model.specs.Asked.{log_at, bin_at}
use Rattle.hive_model.specs.Recovery.{Recovered, Sectors, bytes_or, read_bin, read_log, joined, gathered, recovered_with, by_primary, bit, rank, first_dirty, picked, by_bits, bitmap_in, closed_by, goes_with, by_logged, logged_in, by_log, base_in, by_base, recovered_of}
use Rattle.hive_model.proofs.BaseLemmas.{base_in_checked, logged_in_checked}
use Rattle.hive_laws.specs.hive_laws.Whole.{HasWholeSectors, HasBytes}
use Rattle.hive_laws.proofs.Found.{went_on}

-- ---- a run of sectors

abbrev done : List ℕ → Result (List ℕ) HiveFault
done bytes = Ok bytes

bytes_same : (x y : List ℕ) → done x ≡ done y → x ≡ y
bytes_same x y e = cc

-- a run of at least one sector is that sector and those after it
record IsRunOf (s r : Result (List ℕ) HiveFault) (bytes : List ℕ) : Type 0 where
  pub one : List ℕ
  pub more : List ℕ
  pub first : s ≡ Ok one
  pub rest : r ≡ Ok more
  pub whole : one ++ more ≡ bytes

parted : (s r : Result (List ℕ) HiveFault) (bytes : List ℕ) → joined s r ≡ Ok bytes → IsRunOf s r bytes
parted (Err f) r bytes e = absurd cc
parted (Ok one) (Err f) bytes e = absurd cc
parted (Ok one) (Ok more) bytes e =
    record { one = one; more = more; first = refl; rest = refl; whole = bytes_same (one ++ more) bytes e }

-- a sector that was read has these bytes in the image
pub content : (f g : HiveFault) (o : Option Content) (bytes : List ℕ) → bytes_or f g o ≡ Ok bytes
    → o ≡ Some (Bytes bytes)
content f g None bytes e = absurd cc
content f g (Some Unreadable) bytes e = absurd cc
content f g (Some (Bytes b)) bytes e = ap (λ l. Some (Bytes l)) (bytes_same b bytes e)

-- a run of n sectors of 512 bytes has 512 n bytes
run_long : (at : Sectors) (from n : ℕ) (bytes : List ℕ) → ((i : ℕ) (b : List ℕ) → at i ≡ Ok b → length b ≡ 512)
    → gathered at from n ≡ Ok bytes → length bytes ≡ 512 * n
run_long at from zero bytes each e = sym (ap length (bytes_same [] bytes e))
run_long at from (suc n) bytes each e =
    let is = parted (at from) (gathered at (suc from) n) bytes e in
    let first : length is.one ≡ 512 = each from is.one is.first in
    let rest : length is.more ≡ 512 * n = run_long at (suc from) n is.more each is.rest in
    sym (ap length is.whole) ∙ omega (arith, length-append is.one is.more, first, rest)

pub bytes_append : (xs ys : List ℕ) → ((k : ℕ) → slice_index xs k < 256) → ((k : ℕ) → slice_index ys k < 256) → (k : ℕ)
    → slice_index (xs ++ ys) k < 256
bytes_append [] ys hx hy k = hy k
bytes_append (x ∷ xs) ys hx hy zero = hx zero
bytes_append (x ∷ xs) ys hx hy (suc k) = bytes_append xs ys (λ j. hx (suc j)) hy k

run_bytes : (at : Sectors) (from n : ℕ) (bytes : List ℕ)
    → ((i : ℕ) (b : List ℕ) → at i ≡ Ok b → (k : ℕ) → slice_index b k < 256) → gathered at from n ≡ Ok bytes
    → (k : ℕ) → slice_index bytes k < 256
run_bytes at from zero bytes each e k =
    subst (λ (l : List ℕ). slice_index l k < 256) (bytes_same [] bytes e) (omega arith)
run_bytes at from (suc n) bytes each e k =
    let is = parted (at from) (gathered at (suc from) n) bytes e in
    subst (λ (l : List ℕ). slice_index l k < 256) is.whole
    (bytes_append is.one is.more (each from is.one is.first) (run_bytes at (suc from) n is.more each is.rest) k)

-- ---- what was recovered

abbrev found : Recovered → Result Recovered HiveFault
found r = Ok r

found_same : (x y : Recovered) → found x ≡ found y → x ≡ y
found_same x y e = cc

-- its bins data are a run of sectors of the image, the same number as the size says, which is one of bins data
record IsGathered (image : Image) (r : Recovered) : Type 0 where
  pub at : Sectors
  pub of_image : (i : ℕ) (b : List ℕ) → at i ≡ Ok b → (a : Address) × (image a ≡ Some (Bytes b))
  pub run : gathered at 0 (r.base.size / 512) ≡ Ok r.bins
  pub size : is_bins_size r.base.size ≡ true

-- a recovery with bins data gathered them from the image
with_bins : (image : Image) (dirty : Bool) (base : Base) (at : Sectors) (r : Recovered)
    → ((i : ℕ) (b : List ℕ) → at i ≡ Ok b → (a : Address) × (image a ≡ Some (Bytes b))) → is_bins_size base.size ≡ true
    → recovered_with dirty base (gathered at 0 (base.size / 512)) ≡ Ok r → IsGathered image r
with_bins image dirty base at r of size e = here (gathered at 0 (base.size / 512)) refl e
  where
    here : (g : Result (List ℕ) HiveFault) → gathered at 0 (base.size / 512) ≡ g → recovered_with dirty base g ≡ Ok r
        → IsGathered image r
    here (Err f) is e = absurd cc
    here (Ok bins) is e =
        let same : record { base = base; bins = bins; dirty = dirty } ≡ r =
        found_same (record { base = base; bins = bins; dirty = dirty }) r e in
        subst (λ (q : Recovered). IsGathered image q) same (record { at = at; of_image = of; run = is; size = size })

passed : (t : Bool) (x : Result Recovered HiveFault) (f : HiveFault) (r : Recovered) → cond t x (Err f) ≡ Ok r
    → x ≡ Ok r
passed true x f r e = e
passed false x f r e = absurd cc

module _ (image : Image) (r : Recovered) where
  bin_of : (i : ℕ) (b : List ℕ) → read_bin image i ≡ Ok b → (a : Address) × (image a ≡ Some (Bytes b))
  bin_of i b e = (
    bin_at i,
    content (fault_at kinds.Size 40) (fault_at kinds.Unreadable (512 * (8 + i))) (image (bin_at i)) b e,
  )

  log_of : (n : ℕ) (b : List ℕ) → read_log image n ≡ Ok b → (a : Address) × (image a ≡ Some (Bytes b))
  log_of n b e = (
    log_at n,
    content (fault_at kinds.LogShort (512 * n)) (fault_at kinds.LogUnreadable (512 * n)) (image (log_at n)) b e,
  )

  clean_run : (base : Base) → is_bins_size base.size ≡ true → by_primary image base ≡ Ok r → IsGathered image r
  clean_run base size e = with_bins image false base (read_bin image) r bin_of size e

  picked_of : (first : ℕ) (bits : ℕ → Bool) (i : ℕ) (b : List ℕ) → picked image first bits i ≡ Ok b
      → (a : Address) × (image a ≡ Some (Bytes b))
  picked_of first bits i b e = here (bits i) e
    where
      here : (t : Bool) → cond t (read_log image (first + rank bits i)) (read_bin image i) ≡ Ok b
          → (a : Address) × (image a ≡ Some (Bytes b))
      here true e = log_of (first + rank bits i) b e
      here false e = bin_of i b e

  dirty_run : (opened : Option Base) → by_log image opened ≡ Ok r → IsGathered image r
  dirty_run opened e =
      let l = went_on (logged_in image) (by_logged image opened) r e in
      let logged = l.0 in
      let base = closed_by logged in
      let by_text : List ℕ → Result Recovered HiveFault = λ text. by_bits image base (bit (drop 4 text)) in
      let goes = passed (goes_with opened logged) (bitmap_in image logged.size >>= by_text)
      (fault_at kinds.LogSequence 4) r l.2 in
      let t = went_on (bitmap_in image logged.size) by_text r goes in
      let bits : ℕ → Bool = bit (drop 4 t.0) in
      let first = first_dirty base.size in
      let by_marked : List ℕ → Result Recovered HiveFault =
      λ _. recovered_with true base (gathered (picked image first bits) 0 (base.size / 512)) in
      let m = went_on (gathered (read_log image) first (rank bits (base.size / 512))) by_marked r t.2 in
      with_bins image true base (picked image first bits) r (picked_of first bits)
      (logged_in_checked image logged l.1).size_is m.2

  either_run : (base : Base) → is_bins_size base.size ≡ true → (t : Bool)
      → cond t (by_primary image base) (by_log image (Some base)) ≡ Ok r → IsGathered image r
  either_run base size true e = clean_run base size e
  either_run base size false e = dirty_run (Some base) e

  based_run : (opened : Option Base) → base_in image ≡ Ok opened → by_base image opened ≡ Ok r → IsGathered image r
  based_run None is e = dirty_run None e
  based_run (Some base) is e = either_run base (base_in_checked image base is).size_is (base.first == base.second) e

  is_gathered : recovered_of image ≡ Ok r → IsGathered image r
  unfolding recovered_of
  is_gathered e =
      let b = went_on (base_in image) (by_base image) r e in
      based_run b.0 b.1 b.2

  pub recovered_small : HasWholeSectors image → recovered_of image ≡ Ok r → length r.bins ≤ 16777216
  recovered_small whole e =
      let is = is_gathered e in
      let long : length r.bins ≡ 512 * (r.base.size / 512) =
      run_long is.at 0 (r.base.size / 512) r.bins
      (λ i b there. let here = is.of_image i b there in whole here.0 b here.1) is.run in
      let high : r.base.size ≤ 16777216 =
      leb-true r.base.size 16777216
      (last (r.base.size % 4096 == 0) (nat_le 4096 r.base.size) (nat_le r.base.size 16777216) is.size) in
      omega (arith, long, high)
    where
      last : (x y z : Bool) → (x && (y && z)) ≡ true → z ≡ true
      last true true z e = e
      last true false z e = absurd cc
      last false y z e = absurd cc

  pub recovered_bytes : HasBytes image → recovered_of image ≡ Ok r → (k : ℕ) → slice_index r.bins k < 256
  recovered_bytes small e =
      let is = is_gathered e in
      run_bytes is.at 0 (r.base.size / 512) r.bins
      (λ i b there. let here = is.of_image i b there in small here.0 b here.1) is.run
