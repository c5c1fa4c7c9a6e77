-- Recovery asks for no sector twice.
use Rattle.std.specs.Prelude.{All, AllPairs, if◌then◌else◌}
use Rattle.std.proofs.Common.{◌≡◌, ◌≤◌, ◌+◌, ◌-◌, ◌/◌, ◌==◌, ℕ, Bool, true, false, not, List, [], Option, Some, None, Result, Ok, Err, refl, arith}
use Rattle.std.proofs.lemmas.Bool.{ne_eqb}
use Rattle.std.proofs.lemmas.List.Elements.{All-nil, All-cons, All-weaker}
use Rattle.std.proofs.lemmas.List.Kept.{AllPairs-cons}
use Rattle.nt_bytes.specs.declared.fault.HiveFault.{HiveFault}
use Rattle.hive_model.specs.Base.{Base}
use Rattle.hive_model.specs.Image.{Image, Address, File, Primary, Log, of_file, same_address}
use Rattle.hive_model.specs.Recovery.{rank, bitmap_sectors, first_dirty, front_in, bitmap_in, goes_with, logged_in, base_in}
use Rattle.hive_model.specs.Asked.{primary_at, log_at, bin_at, asked_if_read, asked_bins, asked_behind_sign, asked_bits, asked_behind_log, asked_log, asked_behind_base, asked_of}
use Rattle.hive_laws.specs.hive_laws.Looking.{bits_of, bins_sectors}
use Rattle.hive_laws.proofs.Asked.{past_block, clean_part, past_log, past_sign, past_bits, unmarked_part}
use Rattle.hive_laws.proofs.OneByOne.{no_pairs, all_those, pairs_of_those, all_run, pairs_of_run}

abbrev Differ : Address → Address → Type 0
Differ a b = same_address a b ≡ false

differ : (file : File) (m n : ℕ) → (m ≡ n → ⊥)
    → Differ (record { file = file; sector = m }) (record { file = file; sector = n })
differ Primary m n other = ne_eqb m n other
differ Log m n other = ne_eqb m n other

-- a sector of the bins data in the primary, or one of the log from this one on
abbrev IsPast : ℕ → Address → Type 0
IsPast n a = of_file 8 n a.file ≤ a.sector

-- the primary's sector 0 is none of those; and no sector of the log is one further on
base_before : (f : File) (n m : ℕ) → of_file 8 m f ≤ n → Differ (primary_at 0) (record { file = f; sector = n })
base_before Primary n m past = ne_eqb 0 n (λ e. omega arith)
base_before Log n m past = refl

log_before : (f : File) (m n : ℕ) → of_file 8 (m + 1) f ≤ n → Differ (log_at m) (record { file = f; sector = n })
log_before Primary m n past = refl
log_before Log m n past = ne_eqb m n (λ e. omega arith)

-- the log's dirty sectors stand from its sector 2 on, after the base block and the bits
two_first : (size : ℕ) → 2 ≤ first_dirty size
two_first size = omega arith

module _ (x : Image) where
  -- ---- what is asked for from one step on, in which file and from which sector on

  unmarked_past : (size m : ℕ) (text : List ℕ) → All (IsPast m) (unmarked_part x size text)
  unmarked_past size m text =
      all_those x bin_at (λ i. not (bits_of text i)) (IsPast m) 0 (size / 512) []
      (λ i low high off before. omega arith) (λ before. All-nil (IsPast m))

  bins_past : (size m : ℕ) (text : List ℕ) → m ≤ first_dirty size → All (IsPast m) (asked_bins x size text)
  bins_past size m text low =
      let count = rank (bits_of text) (size / 512) in
      all_run x Log (first_dirty size) count (unmarked_part x size text) (IsPast m)
      (λ k below before. omega arith)
      (λ all. unmarked_past size m text)

  text_past : (size m : ℕ) → m ≤ first_dirty size → (r : Result (List ℕ) HiveFault)
      → All (IsPast m) (asked_if_read r (asked_bins x size))
  text_past size m low (Err f) = All-nil (IsPast m)
  text_past size m low (Ok text) = bins_past size m text low

  sign_past : (size m : ℕ) → m ≤ 2 → All (IsPast m) (asked_behind_sign x size)
  sign_past size m low =
      let least = two_first size in
      all_run x Log 2 (bitmap_sectors size - 1) (past_bits x size) (IsPast m)
      (λ k below before. omega arith)
      (λ all. text_past size m (omega arith) (bitmap_in x size))

  front_past : (size m : ℕ) → m ≤ 2 → (r : Result (List ℕ) HiveFault)
      → All (IsPast m) (asked_if_read r (λ front. asked_behind_sign x size))
  front_past size m low (Err f) = All-nil (IsPast m)
  front_past size m low (Ok front) = sign_past size m low

  bits_past : (size m : ℕ) → m ≤ 1 → All (IsPast m) (asked_bits x size)
  bits_past size m low =
      All-cons (IsPast m) (log_at 1) (past_sign x size) low
      (front_past size m (omega arith) (front_in x))

  numbers_past : (size m : ℕ) → m ≤ 1 → (b : Bool) → All (IsPast m) (if b then asked_bits x size else [])
  numbers_past size m low true = bits_past size m low
  numbers_past size m low false = All-nil (IsPast m)

  logged_past : (opened : Option Base) (m : ℕ) → m ≤ 1 → (r : Result Base HiveFault)
      → All (IsPast m) (asked_if_read r (asked_behind_log x opened))
  logged_past opened m low (Err f) = All-nil (IsPast m)
  logged_past opened m low (Ok logged) =
      numbers_past logged.size m low (goes_with opened logged)

  log_past : (opened : Option Base) → All (IsPast 0) (asked_log x opened)
  log_past opened =
      All-cons (IsPast 0) (log_at 0) (past_log x opened) (omega arith)
      (logged_past opened 0 (omega arith) (logged_in x))

  clean_past : (count : ℕ) → All (IsPast 0) (clean_part x count)
  clean_past count =
      all_run x Primary 8 count [] (IsPast 0) (λ i below before. omega arith) (λ all. All-nil (IsPast 0))

  one_past : (base : Base) (b : Bool)
      → All (IsPast 0) (if b then clean_part x (bins_sectors base) else asked_log x (Some base))
  one_past base true = clean_past (bins_sectors base)
  one_past base false = log_past (Some base)

  base_past : (r : Result (Option Base) HiveFault) → All (IsPast 0) (asked_if_read r (asked_behind_base x))
  base_past (Err f) = All-nil (IsPast 0)
  base_past (Ok None) = log_past None
  base_past (Ok (Some base)) = one_past base (base.first == base.second)

  -- ---- no two of them are one

  -- after sector m of the log no sector up to that one is asked for
  behind_log : (m : ℕ) (rest : List Address) → All (IsPast (m + 1)) rest → All (Differ (log_at m)) rest
  behind_log m rest past =
      All-weaker (IsPast (m + 1)) (Differ (log_at m)) (λ a is. log_before a.file m a.sector is) rest past

  bins_once : (size : ℕ) (text : List ℕ) → AllPairs Differ (asked_bins x size text)
  bins_once size text =
      let first = first_dirty size in
      let behind = unmarked_part x size text in
      pairs_of_run x Log first (rank (bits_of text) (size / 512)) behind Differ
      (λ j k above high. differ Log (first + j) (first + k) (λ e. omega arith))
      (λ j below. behind_log (first + j) behind (unmarked_past size (first + j + 1) text))
      (pairs_of_those x bin_at (λ i. not (bits_of text i)) Differ 0 (size / 512) []
      (λ j k low above high. differ Primary (8 + j) (8 + k) (λ e. omega arith))
      (λ j low high. All-nil (Differ (primary_at (8 + j)))) (no_pairs Differ))

  text_once : (size : ℕ) (r : Result (List ℕ) HiveFault) → AllPairs Differ (asked_if_read r (asked_bins x size))
  text_once size (Err f) = no_pairs Differ
  text_once size (Ok text) = bins_once size text

  sign_once : (size : ℕ) → AllPairs Differ (asked_behind_sign x size)
  sign_once size =
      let more = past_bits x size in
      pairs_of_run x Log 2 (bitmap_sectors size - 1) more Differ
      (λ j k above high. differ Log (2 + j) (2 + k) (λ e. omega arith))
      (λ j below. behind_log (2 + j) more (text_past size (2 + j + 1) (omega arith) (bitmap_in x size)))
      (text_once size (bitmap_in x size))

  front_once : (size : ℕ) (r : Result (List ℕ) HiveFault)
      → AllPairs Differ (asked_if_read r (λ front. asked_behind_sign x size))
  front_once size (Err f) = no_pairs Differ
  front_once size (Ok front) = sign_once size

  bits_once : (size : ℕ) → AllPairs Differ (asked_bits x size)
  bits_once size =
      let more = past_sign x size in
      AllPairs-cons Differ (log_at 1) more
      (behind_log 1 more (front_past size 2 (omega arith) (front_in x)))
      (front_once size (front_in x))

  numbers_once : (size : ℕ) (b : Bool) → AllPairs Differ (if b then asked_bits x size else [])
  numbers_once size true = bits_once size
  numbers_once size false = no_pairs Differ

  logged_once : (opened : Option Base) (r : Result Base HiveFault)
      → AllPairs Differ (asked_if_read r (asked_behind_log x opened))
  logged_once opened (Err f) = no_pairs Differ
  logged_once opened (Ok logged) =
      numbers_once logged.size (goes_with opened logged)

  log_once : (opened : Option Base) → AllPairs Differ (asked_log x opened)
  log_once opened =
      let more = past_log x opened in
      AllPairs-cons Differ (log_at 0) more
      (behind_log 0 more (logged_past opened 1 (omega arith) (logged_in x)))
      (logged_once opened (logged_in x))

  clean_once : (count : ℕ) → AllPairs Differ (clean_part x count)
  clean_once count =
      pairs_of_run x Primary 8 count [] Differ
      (λ j k above high. differ Primary (8 + j) (8 + k) (λ e. omega arith))
      (λ j below. All-nil (Differ (primary_at (8 + j)))) (no_pairs Differ)

  one_once : (base : Base) (b : Bool)
      → AllPairs Differ (if b then clean_part x (bins_sectors base) else asked_log x (Some base))
  one_once base true = clean_once (bins_sectors base)
  one_once base false = log_once (Some base)

  base_once : (r : Result (Option Base) HiveFault) → AllPairs Differ (asked_if_read r (asked_behind_base x))
  base_once (Err f) = no_pairs Differ
  base_once (Ok None) = log_once None
  base_once (Ok (Some base)) = one_once base (base.first == base.second)

  pub asked_once : AllPairs Differ (asked_of x)
  unfolding asked_of
  asked_once =
      let more = past_block x in
      AllPairs-cons Differ (primary_at 0) more
      (All-weaker (IsPast 0) (Differ (primary_at 0)) (λ a is. base_before a.file a.sector 0 is) more
      (base_past (base_in x)))
      (base_once (base_in x))
