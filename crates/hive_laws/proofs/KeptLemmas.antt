-- What is recovered of an image stays where another one keeps its sectors.
use Rattle.std.specs.Prelude.{nat_eq, nat_le, codes, if◌then◌else◌}
use Rattle.std.specs.List.{starts_with}
use Rattle.std.proofs.Common.{◌≡◌, ◌<◌, ◌≤◌, ◌+◌, ◌-◌, ◌*◌, ◌/◌, ◌%◌, ◌==◌, ◌&&◌, ℕ, zero, suc, Bool, true, false, cond, List, drop, Option, Some, None, Result, Ok, Err, refl, sym, ◌∙◌, ap, arith}
use Rattle.std.proofs.lemmas.Bool.{leb-true}
use Rattle.nt_bytes.specs.declared.fault.HiveFault.{HiveFault}
use Rattle.nt_bytes.specs.declared.fault.HiveFaultKind.TheVariants as kinds
use Rattle.nt_bytes.specs.Reading.{◌>>=◌}
use Rattle.hive_model.specs.Base.{Base, base_of, fault_at, is_bins_size}
use Rattle.hive_model.specs.Image.{Image, Primary, Log, Content, Bytes, Unreadable}
use Rattle.hive_model.specs.Load.{Loads}
use Rattle.hive_model.specs.Recovery.{Recovered, Sectors, primary_in, log_in, bytes_or, read_bin, read_log, joined, gathered, recovered_with, by_primary, bit, one_if, rank, bitmap_sectors, first_dirty, picked, by_bits, front_in, bitmap_in, closed_by, goes_with, by_logged, as_log_base, logged_in, by_log, base_at, base_in, by_base, recovered_of}
use Rattle.hive_model.specs.State.{HiveState}
use Rattle.hive_model.proofs.BaseLemmas.{base_in_checked, logged_in_checked}
use Rattle.hive_laws.specs.saved_laws.Saved.{HasUntornBlock, KeepsSectors}

-- ---- answers that stay

-- what is answered without a fault is answered again
abbrev pub Stays : {A : Type 0} → Result A HiveFault → Result A HiveFault → Type 0
Stays s t = (a : _) → s ≡ Ok a → t ≡ Ok a

then_stays : {A B : Type 0} (s t : Result A HiveFault) (next other : A → Result B HiveFault) → Stays s t
    → ((a : A) → s ≡ Ok a → Stays (next a) (other a)) → Stays (s >>= next) (t >>= other)
then_stays (Err f) t next other first more b e = absurd cc
then_stays (Ok a) t next other first more b e = ap (λ r. r >>= other) (first a refl) ∙ more a refl b e

joined_stays : (s t r q : Result (List ℕ) HiveFault) → Stays s t → Stays r q → Stays (joined s r) (joined t q)
joined_stays (Err f) t r q first rest b e = absurd cc
joined_stays (Ok one) t (Err f) q first rest b e = absurd cc
joined_stays (Ok one) t (Ok more) q first rest b e =
    ap (λ s. joined s q) (first one refl) ∙ ap (joined (Ok one)) (rest more refl) ∙ e

gathered_stays : (a b : Sectors) (from n : ℕ) → ((j : ℕ) → from ≤ j → j < from + n → Stays (a j) (b j))
    → Stays (gathered a from n) (gathered b from n)
gathered_stays a b from zero each = λ bytes e. e
gathered_stays a b from (suc n) each =
    joined_stays (a from) (b from) (gathered a (suc from) n) (gathered b (suc from) n)
    (each from (omega arith) (omega arith))
    (gathered_stays a b (suc from) n (λ j low high. each j (omega arith) (omega arith)))

with_stays : (dirty : Bool) (base : Base) (s t : Result (List ℕ) HiveFault) → Stays s t
    → Stays (recovered_with dirty base s) (recovered_with dirty base t)
with_stays dirty base (Err f) t stays r e = absurd cc
with_stays dirty base (Ok bins) t stays r e = ap (recovered_with dirty base) (stays bins refl) ∙ e

cond_stays : {A : Type 0} (test : Bool) (s t r q : Result A HiveFault) → Stays s t → Stays r q
    → Stays (cond test s r) (cond test t q)
cond_stays true s t r q first rest = first
cond_stays false s t r q first rest = rest

bytes_stay : (f g : HiveFault) (o p : Option Content)
    → ((bytes : List ℕ) → o ≡ Some (Bytes bytes) → p ≡ Some (Bytes bytes))
    → Stays (bytes_or f g o) (bytes_or f g p)
bytes_stay f g None p keeps b e = absurd cc
bytes_stay f g (Some Unreadable) p keeps b e = absurd cc
bytes_stay f g (Some (Bytes bytes)) p keeps b e = ap (bytes_or f g) (keeps bytes refl) ∙ e

-- ---- what a hive may need

last_of_three : (a b c : Bool) → (a && (b && c)) ≡ true → c ≡ true
last_of_three true true c e = e
last_of_three true false c e = absurd cc
last_of_three false b c e = absurd cc

at_most : (size : ℕ) → is_bins_size size ≡ true → size ≤ 16777216
at_most size is = leb-true size 16777216 (last_of_three (size % 4096 == 0) (nat_le 4096 size) (nat_le size 16777216) is)

one_at_most : (b : Bool) → one_if b ≤ 1
one_at_most true = omega arith
one_at_most false = omega arith

rank_at_most : (bits : ℕ → Bool) (n : ℕ) → rank bits n ≤ n
rank_at_most bits zero = omega arith
rank_at_most bits (suc n) = omega (arith, rank_at_most bits n, one_at_most (bits n))

-- ---- the steps of recovery

-- the log's base block, by what its sector 0 has
abbrev log_block : Option Content → Result (List ℕ) HiveFault
log_block o = bytes_or (fault_at kinds.LogAbsent 0) (fault_at kinds.LogUnreadable 0) o

abbrev logged_by : List ℕ → Result Base HiveFault
logged_by block = as_log_base (base_of block 1)

-- the first sector of the bitmap has its signature
abbrev signed : List ℕ → Result (List ℕ) HiveFault
signed front = if starts_with nat_eq front (codes "DIRT") then Ok front else Err (fault_at kinds.LogDirt 512)

-- its other sectors
abbrev further_in : Image → ℕ → Result (List ℕ) HiveFault
further_in image size = gathered (read_log image) 2 (bitmap_sectors size - 1)

-- the hive by the log whose bitmap this is
abbrev by_text : Image → Base → List ℕ → Result Recovered HiveFault
by_text image logged text = by_bits image (closed_by logged) (bit (drop 4 text))

-- the hive by a log that goes with the primary
abbrev by_bitmap : Image → Base → Result Recovered HiveFault
by_bitmap image logged = bitmap_in image logged.size >>= by_text image logged

-- the fault of one that doesn't
abbrev strange : Result Recovered HiveFault
strange = Err (fault_at kinds.LogSequence 4)

module _ (x y : Image) (primary : KeepsSectors Primary x y) where
  bin_stays : (i : ℕ) → i < 32768 → Stays (read_bin x i) (read_bin y i)
  bin_stays i low =
      bytes_stay (fault_at kinds.Size 40) (fault_at kinds.Unreadable (512 * (8 + i))) (primary_in x (8 + i))
      (primary_in y (8 + i))
      (λ bytes there. primary (8 + i) bytes (omega arith) there)

  clean_stays : (base : Base) → base.size ≤ 16777216 → Stays (by_primary x base) (by_primary y base)
  clean_stays base small =
      with_stays false base (gathered (read_bin x) 0 (base.size / 512)) (gathered (read_bin y) 0 (base.size / 512))
      (gathered_stays (read_bin x) (read_bin y) 0 (base.size / 512) (λ j low high. bin_stays j (omega arith)))

  -- the primary's base block, which is one that can be read
  block_stays : HasUntornBlock x → Stays (base_in x) (base_in y)
  block_stays untorn = here (primary_in x 0) refl
    where
      here : (o : Option Content) → primary_in x 0 ≡ o → Stays (base_at (primary_in x 0)) (base_at (primary_in y 0))
      here None is opened e = let gone : base_at None ≡ Ok opened = sym (ap base_at is) ∙ e in absurd cc
      here (Some Unreadable) is opened e = absurd (untorn is)
      here (Some (Bytes block)) is opened e = ap base_at (primary 0 block (omega arith) is) ∙ sym (ap base_at is) ∙ e

  module _ (log : KeepsSectors Log x y) where
    log_stays : (n : ℕ) → n < 65536 → Stays (read_log x n) (read_log y n)
    log_stays n low =
        bytes_stay (fault_at kinds.LogShort (512 * n)) (fault_at kinds.LogUnreadable (512 * n)) (log_in x n)
        (log_in y n)
        (λ bytes there. log n bytes low there)

    logged_stays : Stays (logged_in x) (logged_in y)
    logged_stays =
        then_stays (log_block (log_in x 0)) (log_block (log_in y 0)) logged_by logged_by
        (bytes_stay (fault_at kinds.LogAbsent 0) (fault_at kinds.LogUnreadable 0) (log_in x 0) (log_in y 0)
        (λ bytes there. log 0 bytes (omega arith) there))
        (λ block read b e. e)

    front_stays : Stays (front_in x) (front_in y)
    front_stays = then_stays (read_log x 1) (read_log y 1) signed signed (log_stays 1 (omega arith))
        (λ front read b e. e)

    bitmap_stays : (size : ℕ) → size ≤ 16777216 → Stays (bitmap_in x size) (bitmap_in y size)
    bitmap_stays size small =
        joined_stays (front_in x) (front_in y) (further_in x size) (further_in y size) front_stays
        (gathered_stays (read_log x) (read_log y) 2 (bitmap_sectors size - 1) (λ j low high. log_stays j (omega arith)))

    module _ (base : Base) (small : base.size ≤ 16777216) (bits : ℕ → Bool) where
      first : ℕ
      first = first_dirty base.size

      count : ℕ
      count = base.size / 512

      bins : Image → Result Recovered HiveFault
      bins image = recovered_with true base (gathered (picked image first bits) 0 count)

      picked_stays : (i : ℕ) → i < count → Stays (picked x first bits i) (picked y first bits i)
      unfolding first count
      picked_stays i low =
          cond_stays (bits i) (read_log x (first + rank bits i)) (read_log y (first + rank bits i)) (read_bin x i)
          (read_bin y i)
          (log_stays (first + rank bits i) (omega (arith, rank_at_most bits i)))
          (bin_stays i (omega arith))

      bits_stay : Stays (by_bits x base bits) (by_bits y base bits)
      unfolding first count bins
      bits_stay =
          then_stays (gathered (read_log x) first (rank bits count)) (gathered (read_log y) first (rank bits count))
          (λ _. bins x) (λ _. bins y)
          (gathered_stays (read_log x) (read_log y) first (rank bits count)
          (λ j low high. log_stays j (omega (arith, rank_at_most bits count))))
          (λ marked read.
          with_stays true base (gathered (picked x first bits) 0 count) (gathered (picked y first bits) 0 count)
          (gathered_stays (picked x first bits) (picked y first bits) 0 count
          (λ j low high. picked_stays j (omega arith))))

    by_logged_stays : (opened : Option Base) (logged : Base) → logged.size ≤ 16777216
        → Stays (by_logged x opened logged) (by_logged y opened logged)
    by_logged_stays opened logged small =
        cond_stays (goes_with opened logged) (by_bitmap x logged) (by_bitmap y logged) strange strange
        (then_stays (bitmap_in x logged.size) (bitmap_in y logged.size) (by_text x logged) (by_text y logged)
        (bitmap_stays logged.size small)
        (λ text read. bits_stay (closed_by logged) small (bit (drop 4 text))))
        (λ r e. e)

    by_log_stays : (opened : Option Base) → Stays (by_log x opened) (by_log y opened)
    by_log_stays opened =
        then_stays (logged_in x) (logged_in y) (by_logged x opened) (by_logged y opened) logged_stays
        (λ logged read. by_logged_stays opened logged (at_most logged.size (logged_in_checked x logged read).size_is))

    by_base_stays : (opened : Option Base) → base_in x ≡ Ok opened → Stays (by_base x opened) (by_base y opened)
    by_base_stays None has = by_log_stays None
    by_base_stays (Some base) has =
        cond_stays (base.first == base.second) (by_primary x base) (by_primary y base) (by_log x (Some base))
        (by_log y (Some base))
        (clean_stays base (at_most base.size (base_in_checked x base has).size_is))
        (by_log_stays (Some base))

    recovered_stays : HasUntornBlock x → Stays (recovered_of x) (recovered_of y)
    unfolding recovered_of
    recovered_stays untorn = then_stays (base_in x) (base_in y) (by_base x) (by_base y) (block_stays untorn)
        by_base_stays

-- ---- a clean hive

abbrev found : Recovered → Result Recovered HiveFault
found r = Ok r

same_dirty : (r s : Recovered) → found r ≡ found s → s.dirty ≡ r.dirty
same_dirty r s e = cc

with_dirty : (dirty : Bool) (base : Base) (g : Result (List ℕ) HiveFault) (r : Recovered)
    → recovered_with dirty base g ≡ Ok r → r.dirty ≡ dirty
with_dirty dirty base (Err f) r e = absurd cc
with_dirty dirty base (Ok bins) r e = same_dirty (record { base = base; bins = bins; dirty = dirty }) r e

-- a step without a fault had something to go on with
went_on : {A B : Type 0} (s : Result A HiveFault) (next : A → Result B HiveFault) (b : B) → (s >>= next) ≡ Ok b
    → (a : A) × (s ≡ Ok a) × (next a ≡ Ok b)
went_on (Ok a) next b e = (a, refl, e)
went_on (Err f) next b e = absurd cc

not_clean : (b : Bool) → b ≡ true → b ≡ false → ⊥
not_clean b is not = let e : true ≡ false = sym is ∙ not in cc

-- what a log was taken for is dirty
module _ (x : Image) (r : Recovered) where
  dirty_bits : (base : Base) (bits : ℕ → Bool) → by_bits x base bits ≡ Ok r → r.dirty ≡ true
  dirty_bits base bits e =
      let bins = gathered (picked x (first_dirty base.size) bits) 0 (base.size / 512) in
      let marked = gathered (read_log x) (first_dirty base.size) (rank bits (base.size / 512)) in
      with_dirty true base bins r (went_on marked (λ _. recovered_with true base bins) r e).2

  dirty_bitmap : (logged : Base) → by_bitmap x logged ≡ Ok r → r.dirty ≡ true
  dirty_bitmap logged e =
      let on = went_on (bitmap_in x logged.size) (by_text x logged) r e in
      dirty_bits (closed_by logged) (bit (drop 4 on.0)) on.2

  dirty_log : (opened : Option Base) → by_log x opened ≡ Ok r → r.dirty ≡ true
  dirty_log opened e = let on = went_on (logged_in x) (by_logged x opened) r e in here on.0 (goes_with opened on.0) on.2
    where
      here : (logged : Base) (goes : Bool) → cond goes (by_bitmap x logged) strange ≡ Ok r → r.dirty ≡ true
      here logged true e = dirty_bitmap logged e
      here logged false e = absurd cc

module _ (x y : Image) (primary : KeepsSectors Primary x y) (r : Recovered) (clean : r.dirty ≡ false) where
  no_log : (opened : Option Base) → by_log x opened ≡ Ok r → ⊥
  no_log opened e = not_clean r.dirty (dirty_log x r opened e) clean

  by_base_clean : (opened : Option Base) → base_in x ≡ Ok opened → by_base x opened ≡ Ok r → by_base y opened ≡ Ok r
  by_base_clean None has e = absurd (no_log None e)
  by_base_clean (Some base) has e = here (base.first == base.second) e
    where
      here : (even : Bool) → cond even (by_primary x base) (by_log x (Some base)) ≡ Ok r
          → cond even (by_primary y base) (by_log y (Some base)) ≡ Ok r
      here true e = clean_stays x y primary base (at_most base.size (base_in_checked x base has).size_is) r e
      here false e = absurd (no_log (Some base) e)

  -- its base block could be read
  clean_untorn : recovered_of x ≡ Ok r → HasUntornBlock x
  unfolding recovered_of
  clean_untorn e torn = no_log None (sym (ap (λ o. base_at o >>= by_base x) torn) ∙ e)

  clean_recovered : recovered_of x ≡ Ok r → recovered_of y ≡ Ok r
  unfolding recovered_of
  clean_recovered e =
      let on = went_on (base_in x) (by_base x) r e in
      ap (λ s. s >>= by_base y) (block_stays x y primary (clean_untorn e) on.0 on.1)
      ∙ by_base_clean on.0 on.1 on.2

-- ---- loads

loads_by : (x y : Image) (state : HiveState) (dirty : Bool) (loads : Loads x state dirty)
    → recovered_of y ≡ Ok loads.recovered → Loads y state dirty
loads_by x y state dirty loads read =
    record { recovered = loads.recovered; read = read; was_dirty = loads.was_dirty; holds = loads.holds }

pub load_stays : (x y : Image) (state : HiveState) (dirty : Bool) → KeepsSectors Primary x y → KeepsSectors Log x y
    → HasUntornBlock x → Loads x state dirty → Loads y state dirty
load_stays x y state dirty primary log untorn loads =
    loads_by x y state dirty loads (recovered_stays x y primary log untorn loads.recovered loads.read)

pub clean_load_stays : (x y : Image) (state : HiveState) → KeepsSectors Primary x y → Loads x state false
    → Loads y state false
clean_load_stays x y state primary loads =
    loads_by x y state false loads (clean_recovered x y primary loads.recovered (sym loads.was_dirty) loads.read)
