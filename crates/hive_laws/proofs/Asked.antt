-- Recovery asks for just the sectors that it looks at.
use Rattle.std.specs.Prelude.{IsOk, All, Contains, if◌then◌else◌}
use Rattle.std.proofs.Common.{◌≡◌, ◌<◌, ◌+◌, ◌-◌, ◌*◌, ◌/◌, ◌==◌, ℕ, Bool, true, false, not, List, [], Option, Some, None, Result, Ok, Err, refl, sym, ap, subst, arith}
use Rattle.std.proofs.lemmas.Bool.{eqb-true, eqb-false, eq-eqb, ne_eqb, not-true}
use Rattle.std.proofs.lemmas.List.Elements.{All-nil, All-cons}
use Rattle.nt_bytes.specs.declared.fault.HiveFault.{HiveFault}
use Rattle.nt_bytes.specs.declared.fault.HiveFaultKind.TheVariants as kinds
use Rattle.hive_model.specs.Asked.{primary_at, log_at, bin_at, is_readable, run_at, unmarked_at, one_by_one, asked_if_read, asked_bins, asked_behind_sign, asked_bits, asked_behind_log, asked_log, asked_behind_base, asked_of}
use Rattle.hive_model.specs.Base.{Base, fault_at}
use Rattle.hive_model.specs.Image.{Image, Address, Primary, Log}
use Rattle.hive_model.specs.Carries.{HasBase}
use Rattle.hive_model.specs.Recovery.{primary_in, log_in, read_bin, read_log, gathered, rank, bitmap_sectors, first_dirty, front_in, bitmap_in, goes_with, logged_in, base_in}
use Rattle.hive_log.specs.Found.{IsUnfinished}
use Rattle.hive_laws.specs.hive_laws.Looking.{AreRead, IsOpen, HasLogBase, HasDirt, HasBits, bits_of, bins_sectors, marks, marked_in, bins_by, LooksAt}
use Rattle.hive_laws.specs.hive_laws.Looking.LooksAt.{at_the_block, at_a_clean_one, at_the_log, at_the_sign, at_more_bits, at_a_marked_one, at_another_one}
use Rattle.hive_laws.proofs.Alike.{first_there, rest_there, there}
use Rattle.hive_laws.proofs.Found.{readable, read_back}
use Rattle.hive_laws.proofs.OneByOne.{contains_first, contains_later, all_those, those_contain, all_run, run_contains, behind_run}
use Rattle.hive_log.proofs.Ranks.{rank_below}

-- ---- the parts of what is asked for: after each step, if it found no fault

-- after the primary's base block
abbrev pub past_block : Image → List Address
past_block x = asked_if_read (base_in x) (asked_behind_base x)

-- of a clean primary
abbrev pub clean_part : Image → ℕ → List Address
clean_part x count = one_by_one x (run_at Primary 8 count) []

-- after the log's base block
abbrev pub past_log : Image → Option Base → List Address
past_log x opened = asked_if_read (logged_in x) (asked_behind_log x opened)

-- after the first sector of the bits
abbrev pub past_sign : Image → ℕ → List Address
past_sign x size = asked_if_read (front_in x) (λ front. asked_behind_sign x size)

-- after the bits
abbrev pub past_bits : Image → ℕ → List Address
past_bits x size = asked_if_read (bitmap_in x size) (asked_bins x size)

-- after the log's sectors
abbrev pub unmarked_part : Image → ℕ → List ℕ → List Address
unmarked_part x size text = one_by_one x (unmarked_at (bits_of text) (size / 512)) []

-- ---- what is read can be read, and the other way round

module _ (x : Image) where
  bin_read : (i : ℕ) → is_readable (primary_in x (8 + i)) ≡ true → IsOk (read_bin x i)
  bin_read i e = read_back (fault_at kinds.Size 40) (fault_at kinds.Unreadable (512 * (8 + i))) (primary_in x (8 + i)) e

  bin_readable : (i : ℕ) → IsOk (read_bin x i) → is_readable (primary_in x (8 + i)) ≡ true
  bin_readable i e = readable (fault_at kinds.Size 40) (fault_at kinds.Unreadable (512 * (8 + i)))
      (primary_in x (8 + i)) e

  log_read : (n : ℕ) → is_readable (log_in x n) ≡ true → IsOk (read_log x n)
  log_read n e = read_back (fault_at kinds.LogShort (512 * n)) (fault_at kinds.LogUnreadable (512 * n)) (log_in x n) e

  log_readable : (n : ℕ) → IsOk (read_log x n) → is_readable (log_in x n) ≡ true
  log_readable n e = readable (fault_at kinds.LogShort (512 * n)) (fault_at kinds.LogUnreadable (512 * n)) (log_in x n)
      e

-- the bits after the first sector
abbrev pub further_bits : Image → ℕ → Result (List ℕ) HiveFault
further_bits x size = gathered (read_log x) 2 (bitmap_sectors size - 1)

-- ---- recovery looks at each sector that it asks for

module _ (x : Image) where
  clean_looked : (base : Base) → HasBase x base → base.first ≡ base.second
      → All (LooksAt x) (clean_part x (bins_sectors base))
  clean_looked base has even =
      all_run x Primary 8 (bins_sectors base) [] (LooksAt x)
      (λ i below before. at_a_clean_one base i has even below (λ j low. bin_read x j (before j low)))
      (λ all. All-nil (LooksAt x))

  module _ (opened : Option Base) (logged : Base) (has : HasLogBase x opened logged) where
    module _ (text : List ℕ) (has_bits : HasBits x opened logged text) where
      -- a sector of the bins data can be read, in the log or in the primary
      pick_there : AreRead (marked_in x logged) (marks logged text) → (i : ℕ) → i < bins_sectors logged
          → (b : Bool) → bits_of text i ≡ b → (not (bits_of text i) ≡ true → IsOk (read_bin x i))
          → IsOk (if b then marked_in x logged (rank (bits_of text) i) else read_bin x i)
      pick_there all i below false off left = left (ap not off)
      pick_there all i below true on left =
          all (rank (bits_of text) i) (rank_below (bits_of text) (bins_sectors logged) i below on)

      others_looked : AreRead (marked_in x logged) (marks logged text)
          → All (LooksAt x) (unmarked_part x logged.size text)
      others_looked all =
          all_those x bin_at (λ i. not (bits_of text i)) (LooksAt x) 0 (bins_sectors logged) []
          (λ i low high off before.
          at_another_one opened logged text i has_bits all (omega arith) (not-true (bits_of text i) off)
          (λ k below. pick_there all k (omega arith) (bits_of text k) refl
          (λ on. bin_read x k (before k (omega arith) below on))))
          (λ before. All-nil (LooksAt x))

      bins_looked : All (LooksAt x) (asked_bins x logged.size text)
      bins_looked =
          all_run x Log (first_dirty logged.size) (marks logged text) (unmarked_part x logged.size text) (LooksAt x)
          (λ k below before. at_a_marked_one opened logged text k has_bits below
          (λ j low. log_read x (first_dirty logged.size + j) (before j low)))
          (λ all. others_looked (λ j low. log_read x (first_dirty logged.size + j) (all j low)))

    text_looked : (r : Result (List ℕ) HiveFault) → bitmap_in x logged.size ≡ r
        → All (LooksAt x) (asked_if_read r (asked_bins x logged.size))
    text_looked (Err f) e = All-nil (LooksAt x)
    text_looked (Ok text) e = bins_looked text (record { base = has; read = e })

    sign_looked : (front : List ℕ) → front_in x ≡ Ok front
        → All (LooksAt x) (asked_behind_sign x logged.size)
    sign_looked front e =
        let dirt : HasDirt x opened logged = record { base = has; front = front; there = e } in
        all_run x Log 2 (bitmap_sectors logged.size - 1) (past_bits x logged.size) (LooksAt x)
        (λ k below before. at_more_bits opened logged k dirt below (λ j low. log_read x (2 + j) (before j low)))
        (λ all. text_looked (bitmap_in x logged.size) refl)

    front_looked : (r : Result (List ℕ) HiveFault) → front_in x ≡ r
        → All (LooksAt x) (asked_if_read r (λ front. asked_behind_sign x logged.size))
    front_looked (Err f) e = All-nil (LooksAt x)
    front_looked (Ok front) e = sign_looked front e

    bits_looked : All (LooksAt x) (asked_bits x logged.size)
    bits_looked =
        All-cons (LooksAt x) (log_at 1) (past_sign x logged.size) (at_the_sign opened logged has)
        (front_looked (front_in x) refl)

  -- the log's base block goes with the primary's, or not
  goes_looked : (opened : Option Base) (logged : Base) → IsOpen x opened → logged_in x ≡ Ok logged
      → (b : Bool) → goes_with opened logged ≡ b → All (LooksAt x) (if b then asked_bits x logged.size else [])
  goes_looked opened logged is read false other = All-nil (LooksAt x)
  goes_looked opened logged is read true ours =
      bits_looked opened logged (record { primary = is; block = read; goes = ours })

  logged_looked : (opened : Option Base) → IsOpen x opened → (r : Result Base HiveFault) → logged_in x ≡ r
      → All (LooksAt x) (asked_if_read r (asked_behind_log x opened))
  logged_looked opened is (Err f) e = All-nil (LooksAt x)
  logged_looked opened is (Ok logged) e = goes_looked opened logged is e (goes_with opened logged) refl

  open_looked : (opened : Option Base) → IsOpen x opened → All (LooksAt x) (asked_log x opened)
  open_looked opened is =
      All-cons (LooksAt x) (log_at 0) (past_log x opened)
      (at_the_log opened is) (logged_looked opened is (logged_in x) refl)

  -- a primary is clean, or not
  by_numbers : (base : Base) → HasBase x base → (b : Bool) → (base.first == base.second) ≡ b
      → All (LooksAt x) (if b then clean_part x (bins_sectors base) else asked_log x (Some base))
  by_numbers base has true even = clean_looked base has (eqb-true base.first base.second even)
  by_numbers base has false odd =
      open_looked (Some base) (record { block = has; odd = eqb-false base.first base.second odd })

  base_looked : (r : Result (Option Base) HiveFault) → base_in x ≡ r
      → All (LooksAt x) (asked_if_read r (asked_behind_base x))
  base_looked (Err f) e = All-nil (LooksAt x)
  base_looked (Ok None) e = open_looked None (record { block = e; odd = tt })
  base_looked (Ok (Some base)) e = by_numbers base e (base.first == base.second) refl

  pub all_looked_at : All (LooksAt x) (asked_of x)
  unfolding asked_of
  all_looked_at =
      All-cons (LooksAt x) (primary_at 0) (past_block x)
      at_the_block (base_looked (base_in x) refl)

-- ---- it asks for each sector at which it looks

module _ (x : Image) where
  abbrev IsAskedFor : Address → Type 0
  IsAskedFor a = Contains (asked_of x) a

  after_base : (opened : Option Base) → base_in x ≡ Ok opened → (a : Address) → Contains (asked_behind_base x opened) a
      → IsAskedFor a
  unfolding asked_of
  after_base opened has a c =
      contains_later (primary_at 0) (past_block x) a
      (subst (λ r. Contains (asked_if_read r (asked_behind_base x)) a) (sym has) c)

  -- a primary is clean, or not
  by_evenness : (base : Base) → HasBase x base → (b : Bool) → (base.first == base.second) ≡ b → (a : Address)
      → Contains (if b then clean_part x (bins_sectors base) else asked_log x (Some base)) a → IsAskedFor a
  by_evenness base has b e a c =
      after_base (Some base) has a
      (subst (λ b. Contains (if b then clean_part x (bins_sectors base) else asked_log x (Some base)) a) (sym e) c)

  after_clean : (base : Base) → HasBase x base → base.first ≡ base.second → (a : Address)
      → Contains (clean_part x (bins_sectors base)) a → IsAskedFor a
  after_clean base has even a c = by_evenness base has true (eq-eqb base.first base.second even) a c

  unfinished : (opened : Option Base) → base_in x ≡ Ok opened → IsUnfinished opened → (a : Address)
      → Contains (asked_log x opened) a → IsAskedFor a
  unfinished None block odd a c = after_base None block a c
  unfinished (Some base) block odd a c = by_evenness base block false (ne_eqb base.first base.second odd) a c

  after_open : (opened : Option Base) → IsOpen x opened → (a : Address) → Contains (asked_log x opened) a → IsAskedFor a
  after_open opened is a c = unfinished opened is.block is.odd a c

  after_logged : (opened : Option Base) (logged : Base) → HasLogBase x opened logged → (a : Address)
      → Contains (asked_bits x logged.size) a → IsAskedFor a
  after_logged opened logged has a c =
      after_open opened has.primary a
      (contains_later (log_at 0) (past_log x opened) a
      (subst (λ r. Contains (asked_if_read r (asked_behind_log x opened)) a) (sym has.block)
      (subst (λ b. Contains (if b then asked_bits x logged.size else []) a) (sym has.goes) c)))

  after_sign : (opened : Option Base) (logged : Base) → HasLogBase x opened logged → (front : List ℕ)
      → front_in x ≡ Ok front → (a : Address) → Contains (asked_behind_sign x logged.size) a → IsAskedFor a
  after_sign opened logged has front e a c =
      after_logged opened logged has a
      (contains_later (log_at 1) (past_sign x logged.size) a
      (subst (λ r. Contains (asked_if_read r (λ f. asked_behind_sign x logged.size)) a) (sym e) c))

  after_bits : (opened : Option Base) (logged : Base) (text : List ℕ) → HasBits x opened logged text → (a : Address)
      → Contains (asked_bins x logged.size text) a → IsAskedFor a
  after_bits opened logged text has a c =
      let size = logged.size in
      let count = bitmap_sectors size - 1 in
      let front = first_there (front_in x) (further_bits x size) text has.read in
      let rest = rest_there (front_in x) (further_bits x size) text has.read in
      after_sign opened logged has.base front.0 front.1 a
      (behind_run x Log 2 count (past_bits x size) a
      (λ k below. log_readable x (2 + k) (there (read_log x) 2 count rest.0 rest.1 (2 + k) (omega arith) (omega arith)))
      (subst (λ r. Contains (asked_if_read r (asked_bins x size)) a) (sym has.read) c))

  after_marked : (opened : Option Base) (logged : Base) (text : List ℕ) → HasBits x opened logged text
      → AreRead (marked_in x logged) (marks logged text) → (a : Address)
      → Contains (unmarked_part x logged.size text) a → IsAskedFor a
  after_marked opened logged text has all a c =
      after_bits opened logged text has a
      (behind_run x Log (first_dirty logged.size) (marks logged text) (unmarked_part x logged.size text) a
      (λ k below. log_readable x (first_dirty logged.size + k) (all k below)) c)

  -- a sector that the primary has to have is read
  unmarked_there : (logged : Base) (text : List ℕ) (k : ℕ) → bits_of text k ≡ false
      → IsOk (bins_by x logged text k) → IsOk (read_bin x k)
  unmarked_there logged text k off some =
      let pick : Bool → Result (List ℕ) HiveFault =
      λ b. if b then marked_in x logged (rank (bits_of text) k) else read_bin x k in
      subst (λ (r : Result (List ℕ) HiveFault). IsOk r) (ap pick off) some

  unmarked_asked : (logged : Base) (text : List ℕ) (i : ℕ) → i < bins_sectors logged → bits_of text i ≡ false
      → AreRead (bins_by x logged text) i → Contains (unmarked_part x logged.size text) (bin_at i)
  unmarked_asked logged text i below off before =
      let left : ℕ → Bool = λ k. not (bits_of text k) in
      those_contain x bin_at left 0 (bins_sectors logged) [] i
      (omega arith) (omega arith) (ap not off)
      (λ k low lower on. bin_readable x k
      (unmarked_there logged text k (not-true (bits_of text k) on) (before k lower)))

  pub looked_at_asked : (a : Address) → LooksAt x a → IsAskedFor a
  unfolding asked_of
  looked_at_asked a (at_the_block) = contains_first (primary_at 0) (past_block x)
  looked_at_asked a (at_a_clean_one base i has even below before) =
      after_clean base has even (bin_at i)
      (run_contains x Primary 8 (bins_sectors base) [] i below (λ j low. bin_readable x j (before j low)))
  looked_at_asked a (at_the_log opened is) =
      after_open opened is (log_at 0) (contains_first (log_at 0) (past_log x opened))
  looked_at_asked a (at_the_sign opened logged has) =
      after_logged opened logged has (log_at 1) (contains_first (log_at 1) (past_sign x logged.size))
  looked_at_asked a (at_more_bits opened logged k has below before) =
      after_sign opened logged has.base has.front has.there (log_at (2 + k))
      (run_contains x Log 2 (bitmap_sectors logged.size - 1) (past_bits x logged.size) k below
      (λ j low. log_readable x (2 + j) (before j low)))
  looked_at_asked a (at_a_marked_one opened logged text k has below before) =
      let behind = unmarked_part x logged.size text in
      after_bits opened logged text has (log_at (first_dirty logged.size + k))
      (run_contains x Log (first_dirty logged.size) (marks logged text) behind k below
      (λ j low. log_readable x (first_dirty logged.size + j) (before j low)))
  looked_at_asked a (at_another_one opened logged text i has all below off before) =
      after_marked opened logged text has all (bin_at i) (unmarked_asked logged text i below off before)
