-- Where recovery has no fault, each sector at which it looked is there, and can be read but perhaps the first.
use Rattle.std.specs.Prelude.{IsSome, IsOk, if◌then◌else◌}
use Rattle.std.proofs.Common.{◌≡◌, ◌⊎◌, ◌+◌, ◌-◌, ◌*◌, ℕ, Bool, true, false, List, drop, Option, Some, None, Result, Ok, Err, refl, sym, ◌∙◌, ap, subst, inl, inr, arith}
use Rattle.std.proofs.lemmas.Bool.{eq-eqb, ne_eqb}
use Rattle.nt_bytes.specs.declared.fault.HiveFault.{HiveFault}
use Rattle.nt_bytes.specs.declared.fault.HiveFaultKind.TheVariants as kinds
use Rattle.nt_bytes.specs.Reading.{◌>>=◌}
use Rattle.hive_model.specs.Asked.{primary_at, is_readable}
use Rattle.hive_model.specs.Base.{Base, base_of, fault_at}
use Rattle.hive_model.specs.Image.{Image, Address, Content, Bytes, Unreadable}
use Rattle.hive_model.specs.Carries.{HasBase}
use Rattle.hive_model.specs.Recovery.{Recovered, primary_in, log_in, bytes_or, read_bin, read_log, gathered, recovered_with, by_primary, bit, rank, bitmap_sectors, first_dirty, by_bits, front_in, bitmap_in, closed_by, by_logged, as_log_base, logged_in, by_log, base_at, base_in, by_base, recovered_of}
use Rattle.hive_log.specs.Found.{IsUnfinished}
use Rattle.hive_laws.specs.hive_laws.Looking.{IsOpen, HasLogBase, HasBits, bits_of, bins_sectors, marks, marked_in, bins_by, LooksAt}
use Rattle.hive_laws.specs.hive_laws.Looking.LooksAt.{at_the_block, at_a_clean_one, at_the_log, at_the_sign, at_more_bits, at_a_marked_one, at_another_one}
use Rattle.hive_laws.proofs.Alike.{rest_there, first_there, is_ok_by, signed, there}

-- a step without a fault had something to go on with
pub went_on : {A B : Type 0} (s : Result A HiveFault) (next : A → Result B HiveFault) (b : B) → (s >>= next) ≡ Ok b
    → (a : A) × (s ≡ Ok a) × (next a ≡ Ok b)
went_on (Ok a) next b e = (a, refl, e)
went_on (Err f) next b e = absurd cc

-- what was read can be read
pub readable : (f g : HiveFault) (o : Option Content) → IsOk (bytes_or f g o) → is_readable o ≡ true
readable f g None e = absurd (cc)
readable f g (Some Unreadable) e = absurd (cc)
readable f g (Some (Bytes bytes)) e = refl

pub read_back : (f g : HiveFault) (o : Option Content) → is_readable o ≡ true → IsOk (bytes_or f g o)
read_back f g None e = absurd (cc)
read_back f g (Some Unreadable) e = absurd (cc)
read_back f g (Some (Bytes bytes)) e = refl

-- the primary's sector 0 is there
some_base : (o : Option Content) (opened : Option Base) → base_at o ≡ Ok opened → IsSome o
some_base None opened e = absurd (cc)
some_base (Some c) opened e = refl

had_bins : (dirty : Bool) (base : Base) (g : Result (List ℕ) HiveFault) (r : Recovered)
    → recovered_with dirty base g ≡ Ok r → (bins : List ℕ) × (g ≡ Ok bins)
had_bins dirty base (Err f) r e = absurd cc
had_bins dirty base (Ok bins) r e = (bins, refl)

module _ (x : Image) (r : Recovered) (ok : recovered_of x ≡ Ok r) where
  after_base : (opened : Option Base) → base_in x ≡ Ok opened → by_base x opened ≡ Ok r
  unfolding recovered_of
  after_base opened has = sym (ap (λ s. s >>= by_base x) has) ∙ ok

  if_clean : Base → Bool → Result Recovered HiveFault
  if_clean base b = if b then by_primary x base else by_log x (Some base)

  after_clean : (base : Base) → HasBase x base → base.first ≡ base.second → by_primary x base ≡ Ok r
  unfolding if_clean
  after_clean base has even = sym (ap (if_clean base) (eq-eqb base.first base.second even)) ∙ after_base (Some base) has

  unfinished : (opened : Option Base) → base_in x ≡ Ok opened → IsUnfinished opened → by_log x opened ≡ Ok r
  unfolding if_clean
  unfinished None block odd = after_base None block
  unfinished (Some base) block odd =
      sym (ap (if_clean base) (ne_eqb base.first base.second odd)) ∙ after_base (Some base) block

  after_open : (opened : Option Base) → IsOpen x opened → by_log x opened ≡ Ok r
  after_open opened is = unfinished opened is.block is.odd

  by_text : Base → List ℕ → Result Recovered HiveFault
  by_text logged text = by_bits x (closed_by logged) (bit (drop 4 text))

  if_goes : Base → Bool → Result Recovered HiveFault
  if_goes logged b = if b then (bitmap_in x logged.size >>= by_text logged) else Err
      (fault_at kinds.LogSequence 4)

  after_logged : (opened : Option Base) (logged : Base) → HasLogBase x opened logged
      → (bitmap_in x logged.size >>= by_text logged) ≡ Ok r
  unfolding by_text if_goes
  after_logged opened logged has =
      sym (ap (if_goes logged) has.goes) ∙ sym (ap (λ s. s >>= by_logged x opened) has.block)
      ∙ after_open opened has.primary

  after_bits : (opened : Option Base) (logged : Base) (text : List ℕ) → HasBits x opened logged text
      → by_bits x (closed_by logged) (bits_of text) ≡ Ok r
  unfolding by_text
  after_bits opened logged text has =
      sym (ap (λ s. s >>= by_text logged) has.read) ∙ after_logged opened logged has.base

  -- the whole bitmap was there
  whole_bits : (opened : Option Base) (logged : Base) → HasLogBase x opened logged
      → (text : List ℕ) × (bitmap_in x logged.size ≡ Ok text)
  whole_bits opened logged has =
      let on = went_on (bitmap_in x logged.size) (by_text logged) r (after_logged opened logged has) in
      (on.0, on.1)

  behind_marked : Base → List ℕ → List ℕ → Result Recovered HiveFault
  behind_marked logged text _ =
      recovered_with true (closed_by logged) (gathered (bins_by x logged text) 0 (bins_sectors logged))

  marked_and_bins : (opened : Option Base) (logged : Base) (text : List ℕ) → HasBits x opened logged text
      → (dirty : List ℕ) × (gathered (read_log x) (first_dirty logged.size) (marks logged text) ≡ Ok dirty)
      × (behind_marked logged text dirty ≡ Ok r)
  unfolding behind_marked
  marked_and_bins opened logged text has =
      went_on (gathered (read_log x) (first_dirty logged.size) (marks logged text)) (behind_marked logged text) r
      (after_bits opened logged text has)

  new_bins : (opened : Option Base) (logged : Base) (text : List ℕ) → HasBits x opened logged text
      → (bins : List ℕ) × (gathered (bins_by x logged text) 0 (bins_sectors logged) ≡ Ok bins)
  unfolding behind_marked
  new_bins opened logged text has =
      had_bins true (closed_by logged) (gathered (bins_by x logged text) 0 (bins_sectors logged)) r
      (marked_and_bins opened logged text has).2

  -- a sector that was read
  bin_read : (i : ℕ) → IsOk (read_bin x i) → is_readable (primary_in x (8 + i)) ≡ true
  bin_read i e = readable (fault_at kinds.Size 40) (fault_at kinds.Unreadable (512 * (8 + i))) (primary_in x (8 + i)) e

  log_read : (n : ℕ) → IsOk (read_log x n) → is_readable (log_in x n) ≡ true
  log_read n e = readable (fault_at kinds.LogShort (512 * n)) (fault_at kinds.LogUnreadable (512 * n)) (log_in x n) e

  pub all_found : (a : Address) → LooksAt x a → (is_readable (x a) ≡ true) ⊎ ((a ≡ primary_at 0) × IsSome (x a))
  all_found a (at_the_block) =
      let on = went_on (base_in x) (by_base x) r (unfold recovered_of in ok) in
      inr (refl, some_base (primary_in x 0) on.0 on.1)
  all_found a (at_a_clean_one base i has even below before) =
      let bins = had_bins false base (gathered (read_bin x) 0 (bins_sectors base)) r (after_clean base has even) in
      inl (bin_read i (there (read_bin x) 0 (bins_sectors base) bins.0 bins.1 i (omega arith) (omega arith)))
  all_found a (at_the_log opened is) =
      let on = went_on (logged_in x) (by_logged x opened) r (after_open opened is) in
      let read = bytes_or (fault_at kinds.LogAbsent 0) (fault_at kinds.LogUnreadable 0) (log_in x 0) in
      let block = went_on read (λ block. as_log_base (base_of block 1)) on.0 on.1 in
      inl (readable (fault_at kinds.LogAbsent 0) (fault_at kinds.LogUnreadable 0) (log_in x 0)
      (is_ok_by read block.0 block.1))
  all_found a (at_the_sign opened logged has) =
      let text = whole_bits opened logged has in
      let front = first_there (front_in x) (gathered (read_log x) 2 (bitmap_sectors logged.size - 1)) text.0 text.1 in
      let read = went_on (read_log x 1) signed front.0 front.1 in
      inl (log_read 1 (is_ok_by (read_log x 1) read.0 read.1))
  all_found a (at_more_bits opened logged k has below before) =
      let text = whole_bits opened logged has.base in
      let rest = rest_there (front_in x) (gathered (read_log x) 2 (bitmap_sectors logged.size - 1)) text.0 text.1 in
      inl (log_read (2 + k) (there (read_log x) 2 (bitmap_sectors logged.size - 1) rest.0 rest.1 (2 + k) (omega arith)
      (omega arith)))
  all_found a (at_a_marked_one opened logged text k has below before) =
      let marked = marked_and_bins opened logged text has in
      inl (log_read (first_dirty logged.size + k)
      (there (read_log x) (first_dirty logged.size) (marks logged text) marked.0 marked.1
      (first_dirty logged.size + k) (omega arith) (omega arith)))
  all_found a (at_another_one opened logged text i has all below off before) =
      let bins = new_bins opened logged text has in
      let is : IsOk (bins_by x logged text i) =
      there (bins_by x logged text) 0 (bins_sectors logged) bins.0 bins.1 i (omega arith) (omega arith) in
      let picked : bins_by x logged text i ≡ read_bin x i =
      ap (λ b. if b then marked_in x logged (rank (bits_of text) i) else read_bin x i) off in
      inl (bin_read i (subst (λ (o : Result (List ℕ) HiveFault). IsOk o) picked is))
