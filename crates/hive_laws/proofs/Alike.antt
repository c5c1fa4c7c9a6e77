-- Images that agree where recovery looks recover alike.
use Rattle.std.specs.Prelude.{nat_eq, codes, IsOk, if◌then◌else◌}
use Rattle.std.specs.List.{starts_with}
use Rattle.std.proofs.Common.{◌≡◌, ◌⊎◌, ◌<◌, ◌≤◌, ◌+◌, ◌-◌, ◌*◌, ◌==◌, ℕ, zero, suc, Bool, true, false, List, drop, Option, Some, None, Result, Ok, Err, refl, sym, ◌∙◌, ap, subst, ⊎_elim, arith}
use Rattle.std.proofs.lemmas.Bool.{eqb-true, eqb-false}
use Rattle.nt_bytes.specs.declared.fault.HiveFault.{HiveFault}
use Rattle.nt_bytes.specs.declared.fault.HiveFaultKind.TheVariants as kinds
use Rattle.nt_bytes.specs.Reading.{◌>>=◌}
use Rattle.hive_model.specs.Asked.{primary_at, log_at, bin_at}
use Rattle.hive_model.specs.Base.{Base, base_of, fault_at}
use Rattle.hive_model.specs.Image.{Image, Address}
use Rattle.hive_model.specs.Carries.{HasBase}
use Rattle.hive_model.specs.Recovery.{Recovered, Sectors, bytes_or, read_bin, read_log, joined, gathered, recovered_with, by_primary, bit, rank, bitmap_sectors, first_dirty, by_bits, front_in, bitmap_in, closed_by, goes_with, by_logged, as_log_base, logged_in, by_log, base_at, base_in, by_base, recovered_of}
use Rattle.hive_laws.specs.hive_laws.Looking.{AreRead, IsOpen, HasLogBase, HasBits, bits_of, bins_sectors, marks, marked_in, bins_by, LooksAt}
use Rattle.hive_laws.specs.hive_laws.Looking.LooksAt.{at_the_block, at_a_clean_one, at_the_log, at_the_sign, at_more_bits, at_a_marked_one, at_another_one}
use Rattle.hive_log.proofs.Ranks.{rank_below}

-- ---- runs of sectors

-- a sector, and the run after it where the sector is read
run : (a b : Sectors) (from n : ℕ) (r : Result (List ℕ) HiveFault) → a from ≡ r → a from ≡ b from
    → (IsOk r → gathered a (suc from) n ≡ gathered b (suc from) n) → gathered a from (suc n) ≡ gathered b from (suc n)
run a b from n (Err f) e here more =
    ap (λ s. joined s (gathered a (suc from) n)) e ∙ sym (ap (λ s. joined s (gathered b (suc from) n)) (sym here ∙ e))
run a b from n (Ok c) e here more = ap (λ s. joined s (gathered a (suc from) n)) here ∙ ap (joined (b from)) (more refl)

first_or_later : (from k : ℕ) → from ≤ k → (from ≡ k) ⊎ (suc from ≤ k)
first_or_later from k low = grind arith

-- a sector counts only where each before it in the run is read
alike : (a b : Sectors) (from n : ℕ)
    → ((j : ℕ) → from ≤ j → j < from + n → ((k : ℕ) → from ≤ k → k < j → IsOk (a k)) → a j ≡ b j)
    → gathered a from n ≡ gathered b from n
alike a b from zero same = refl
alike a b from (suc n) same =
    run a b from n (a from) refl (same from (omega arith) (omega arith) (λ k low high. absurd (omega arith)))
    (λ some. alike a b (suc from) n
    (λ j low high there. same j (omega arith) (omega arith)
    (λ k below above. ⊎_elim (λ is. subst (λ q. IsOk (a q)) is some) (λ later. there k later above)
    (first_or_later from k below))))

-- of the first n
alike_all : (a b : Sectors) (n : ℕ) → ((j : ℕ) → j < n → AreRead a j → a j ≡ b j) → gathered a 0 n ≡ gathered b 0 n
alike_all a b n same = alike a b 0 n (λ j low high there. same j (omega arith) (λ k below. there k (omega arith) below))

-- of n from this one on
alike_run : (a b : Sectors) (from n : ℕ)
    → ((j : ℕ) → j < n → AreRead (λ k. a (from + k)) j → a (from + j) ≡ b (from + j))
    → gathered a from n ≡ gathered b from n
alike_run a b from n same = alike a b from n (λ j low high there.
    let back : from + (j - from) ≡ j = omega arith in
    subst (λ q. a q ≡ b q) back
    (same (j - from) (omega arith) (λ k below. there (from + k) (omega arith) (omega arith))))

-- what was gathered was read
pub rest_there : (s r : Result (List ℕ) HiveFault) (bytes : List ℕ) → joined s r ≡ Ok bytes
    → (more : List ℕ) × (r ≡ Ok more)
rest_there (Err f) r bytes e = absurd cc
rest_there (Ok one) (Err f) bytes e = absurd cc
rest_there (Ok one) (Ok more) bytes e = (more, refl)

pub first_there : (s r : Result (List ℕ) HiveFault) (bytes : List ℕ) → joined s r ≡ Ok bytes
    → (one : List ℕ) × (s ≡ Ok one)
first_there (Err f) r bytes e = absurd cc
first_there (Ok one) r bytes e = (one, refl)

pub is_ok_by : (s : Result (List ℕ) HiveFault) (one : List ℕ) → s ≡ Ok one → IsOk s
is_ok_by s one e = subst (λ (r : Result (List ℕ) HiveFault). IsOk r) (sym e) refl

pub there : (at : Sectors) (from n : ℕ) (bytes : List ℕ) → gathered at from n ≡ Ok bytes → (j : ℕ) → from ≤ j
    → j < from + n → IsOk (at j)
there at from zero bytes e j low high = absurd (omega arith)
there at from (suc n) bytes e j low high = ⊎_elim
    (λ is.
    let first = first_there (at from) (gathered at (suc from) n) bytes e in
    subst (λ q. IsOk (at q)) is (is_ok_by (at from) first.0 first.1))
    (λ later.
    let rest = rest_there (at from) (gathered at (suc from) n) bytes e in
    there at (suc from) n rest.0 rest.1 j later (omega arith))
    (first_or_later from j low)

-- the first sector of the bits has the signature
abbrev pub signed : List ℕ → Result (List ℕ) HiveFault
signed front = if starts_with nat_eq front (codes "DIRT") then Ok front else Err (fault_at kinds.LogDirt 512)

-- ---- how many bits are on

-- ---- the steps of recovery, of two images that agree where the first one's recovery looks

module _ (x y : Image) (same : (a : Address) → LooksAt x a → x a ≡ y a) where
  base_same : base_in x ≡ base_in y
  base_same = ap base_at (same (primary_at 0) at_the_block)

  -- a sector at which it looks is read alike
  bin_same : (i : ℕ) → LooksAt x (bin_at i) → read_bin x i ≡ read_bin y i
  bin_same i looks = ap (bytes_or (fault_at kinds.Size 40) (fault_at kinds.Unreadable (512 * (8 + i))))
      (same (bin_at i) looks)

  log_same : (n : ℕ) → LooksAt x (log_at n) → read_log x n ≡ read_log y n
  log_same n looks = ap (bytes_or (fault_at kinds.LogShort (512 * n)) (fault_at kinds.LogUnreadable (512 * n)))
      (same (log_at n) looks)

  clean_same : (base : Base) → HasBase x base → base.first ≡ base.second → by_primary x base ≡ by_primary y base
  clean_same base has even =
      ap (recovered_with false base)
      (alike_all (read_bin x) (read_bin y) (bins_sectors base)
      (λ i below before. bin_same i (at_a_clean_one base i has even below before)))

  logged_same : (opened : Option Base) → IsOpen x opened → logged_in x ≡ logged_in y
  logged_same opened is =
      ap (λ s. (bytes_or (fault_at kinds.LogAbsent 0) (fault_at kinds.LogUnreadable 0) s >>=
      (λ block. as_log_base (base_of block 1)))) (same (log_at 0) (at_the_log opened is))

  module _ (opened : Option Base) (logged : Base) (has : HasLogBase x opened logged) where
    front_same : front_in x ≡ front_in y
    front_same = ap (λ s. s >>= signed) (log_same 1 (at_the_sign opened logged has))

    further : Image → Result (List ℕ) HiveFault
    further image = gathered (read_log image) 2 (bitmap_sectors logged.size - 1)

    -- after the first sector of bits, which is read with its signature or not
    behind_same : (r : Result (List ℕ) HiveFault) → front_in x ≡ r → bitmap_in x logged.size ≡ bitmap_in y logged.size
    unfolding further
    behind_same (Err f) e = ap (λ s. joined s (further x)) e ∙ sym (ap (λ s. joined s (further y)) (sym front_same ∙ e))
    behind_same (Ok front) e =
        ap (λ s. joined s (further x)) front_same
        ∙ ap (joined (front_in y)) (alike_run (read_log x) (read_log y) 2 (bitmap_sectors logged.size - 1)
        (λ k below before. log_same (2 + k)
        (at_more_bits opened logged k (record { base = has; front = front; there = e }) below before)))

    bits_same : bitmap_in x logged.size ≡ bitmap_in y logged.size
    bits_same = behind_same (front_in x) refl

    module _ (text : List ℕ) (read : bitmap_in x logged.size ≡ Ok text) where
      with_bits : HasBits x opened logged text
      with_bits = record { base = has; read = read }

      marked : Image → Result (List ℕ) HiveFault
      marked image = gathered (read_log image) (first_dirty logged.size) (marks logged text)

      marked_same : marked x ≡ marked y
      unfolding marked
      marked_same =
          alike_run (read_log x) (read_log y) (first_dirty logged.size) (marks logged text)
          (λ k below before. log_same (first_dirty logged.size + k)
          (at_a_marked_one opened logged text k with_bits below before))

      pick : Image → ℕ → Bool → Result (List ℕ) HiveFault
      pick image i b = if b then marked_in image logged (rank (bits_of text) i) else read_bin image i

      picked_same : AreRead (marked_in x logged) (marks logged text) → (i : ℕ) → i < bins_sectors logged
          → AreRead (bins_by x logged text) i
          → (b : Bool) → bits_of text i ≡ b → bins_by x logged text i ≡ bins_by y logged text i
      unfolding pick
      picked_same all i below before false off =
          ap (pick x i) off
          ∙ bin_same i (at_another_one opened logged text i with_bits all below off before)
          ∙ sym (ap (pick y i) off)
      picked_same all i below before true on =
          let few : rank (bits_of text) i < marks logged text =
          rank_below (bits_of text) (bins_sectors logged) i below on in
          ap (pick x i) on
          ∙ log_same (first_dirty logged.size + rank (bits_of text) i)
          (at_a_marked_one opened logged text (rank (bits_of text) i) with_bits few (λ k lower. all k (omega arith)))
          ∙ sym (ap (pick y i) on)

      behind_marked : Image → List ℕ → Result Recovered HiveFault
      behind_marked image _ = recovered_with true (closed_by logged)
          (gathered (bins_by image logged text) 0 (bins_sectors logged))

      with_marked : (r : Result (List ℕ) HiveFault) → marked x ≡ r
          → (r >>= behind_marked x) ≡ (r >>= behind_marked y)
      unfolding marked behind_marked
      with_marked (Err f) e = refl
      with_marked (Ok dirty) e =
          let all : AreRead (marked_in x logged) (marks logged text) =
          λ k below. there (read_log x) (first_dirty logged.size) (marks logged text) dirty e
          (first_dirty logged.size + k) (omega arith) (omega arith) in
          ap (recovered_with true (closed_by logged))
          (alike_all (bins_by x logged text) (bins_by y logged text) (bins_sectors logged)
          (λ i below before. picked_same all i below before (bits_of text i) refl))

      by_bits_same : by_bits x (closed_by logged) (bits_of text) ≡ by_bits y (closed_by logged) (bits_of text)
      unfolding marked behind_marked
      by_bits_same = with_marked (marked x) refl ∙ ap (λ r. r >>= behind_marked y) marked_same

    -- what follows the bits
    by_text : Image → List ℕ → Result Recovered HiveFault
    by_text image text = by_bits image (closed_by logged) (bits_of text)

    with_text : (r : Result (List ℕ) HiveFault) → bitmap_in x logged.size ≡ r
        → (r >>= by_text x) ≡ (r >>= by_text y)
    unfolding by_text
    with_text (Err f) e = refl
    with_text (Ok text) e = by_bits_same text e

    text_same : (bitmap_in x logged.size >>= by_text x) ≡ (bitmap_in y logged.size >>= by_text y)
    text_same = with_text (bitmap_in x logged.size) refl ∙ ap (λ r. r >>= by_text y) bits_same

  -- the log's base block goes with the primary's, or not
  if_goes : Image → Base → Bool → Result Recovered HiveFault
  if_goes image logged b =
      if b then (bitmap_in image logged.size >>= λ text. by_bits image (closed_by logged) (bit (drop 4 text)))
      else Err (fault_at kinds.LogSequence 4)

  numbered : (opened : Option Base) (logged : Base) → IsOpen x opened → logged_in x ≡ Ok logged
      → (b : Bool) → goes_with opened logged ≡ b → by_logged x opened logged ≡ by_logged y opened logged
  unfolding by_text if_goes
  numbered opened logged is read false other = ap (if_goes x logged) other ∙ sym (ap (if_goes y logged) other)
  numbered opened logged is read true ours =
      ap (if_goes x logged) ours
      ∙ text_same opened logged (record { primary = is; block = read; goes = ours })
      ∙ sym (ap (if_goes y logged) ours)

  with_logged : (opened : Option Base) → IsOpen x opened → (r : Result Base HiveFault) → logged_in x ≡ r
      → (r >>= by_logged x opened) ≡ (r >>= by_logged y opened)
  with_logged opened is (Err f) e = refl
  with_logged opened is (Ok logged) e = numbered opened logged is e (goes_with opened logged) refl

  open_same : (opened : Option Base) → IsOpen x opened → by_log x opened ≡ by_log y opened
  open_same opened is =
      with_logged opened is (logged_in x) refl ∙ ap (λ r. r >>= by_logged y opened) (logged_same opened is)

  -- a primary is clean, or not
  if_clean : Image → Base → Bool → Result Recovered HiveFault
  if_clean image base b = if b then by_primary image base else by_log image (Some base)

  by_numbers : (base : Base) → HasBase x base → (b : Bool) → (base.first == base.second) ≡ b
      → by_base x (Some base) ≡ by_base y (Some base)
  unfolding if_clean
  by_numbers base has true even =
      ap (if_clean x base) even ∙ clean_same base has (eqb-true base.first base.second even)
      ∙ sym (ap (if_clean y base) even)
  by_numbers base has false odd =
      ap (if_clean x base) odd
      ∙ open_same (Some base) (record { block = has; odd = eqb-false base.first base.second odd })
      ∙ sym (ap (if_clean y base) odd)

  with_base : (r : Result (Option Base) HiveFault) → base_in x ≡ r → (r >>= by_base x) ≡ (r >>= by_base y)
  with_base (Err f) e = refl
  with_base (Ok None) e = open_same None (record { block = e; odd = tt })
  with_base (Ok (Some base)) e = by_numbers base e (base.first == base.second) refl

  pub recovered_alike : recovered_of x ≡ recovered_of y
  unfolding recovered_of
  recovered_alike = with_base (base_in x) refl ∙ ap (λ r. r >>= by_base y) base_same
