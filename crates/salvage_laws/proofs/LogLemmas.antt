-- The sectors of a log, and the bins data that it gives, as recovery reads them and as salvage does.
use Rattle.std.proofs.Common.{◌≡◌, inl, inr, ℕ, zero, suc, ◌+◌, ◌-◌, ◌*◌, ◌/◌, ◌%◌, ◌<◌, ◌≤◌, Bool, true, false, cond, List, ◌∷◌, ◌++◌, length, take, drop, get_or, Result, Ok, Err, refl, sym, ap, ap₂, subst, ◌∙◌, arith}
use Rattle.std.specs.Prelude.{◌&&◌, ◌||◌, ◌^◌, ◌==◌, nat_lt}
use Rattle.std.proofs.lemmas.Bool.{cases_lt, ltb-true, and_parts}
use Rattle.std.proofs.lemmas.List.{length-append, length-drop, length-take, drop-drop, drop-take, take-take, get_or-drop, get_or-take}
use Rattle.nt_bytes.specs.declared.fault.HiveFault.{HiveFault}
use Rattle.nt_bytes.specs.declared.fault.HiveFaultKind.TheVariants as kinds
use Rattle.hive_model.specs.Base.{fault_at}
use Rattle.hive_model.specs.Image.{Image, image_of}
use Rattle.hive_model.specs.Recovery.{Sectors, sector, bytes_or, read_bin, read_log, joined, gathered, bit, one_if, rank, picked}
use Rattle.hive_log.proofs.Runs.{gathered_is, sector_front, sector_back, sector_long, sector_whole}
use Rattle.hive_read.proofs.FormFacts.{not-above}
use Rattle.windows_logs.specs.log_parts.Filled.{filled}
use Rattle.windows_logs.specs.log_parts.Pages.{put_at, put_pages}
use Rattle.windows_logs.specs.dirt_log.Dirt.{has_rest, marked_pages}
use Rattle.salvage_laws.proofs.SectorLemmas.{filled-whole, log-there, log-absent}

-- ---- the log

module _ (hive log : List ℕ) where
  abbrev text : List ℕ
  text = filled log

  abbrev image : Image
  image = image_of hive log

  pub read-there : (n : ℕ) → n < 65536 → 512 * n < length text → read_log image n ≡ Ok (sector text n)
  unfolding sector
  read-there n few there =
      ap (bytes_or (fault_at kinds.LogShort (512 * n)) (fault_at kinds.LogUnreadable (512 * n))) (log-there hive log n few there)

  read-absent : (n : ℕ) → n < 65536 → length text ≤ 512 * n → read_log image n ≡ Err (fault_at kinds.LogShort (512 * n))
  read-absent n few past =
      ap (bytes_or (fault_at kinds.LogShort (512 * n)) (fault_at kinds.LogUnreadable (512 * n))) (log-absent hive log n few past)

  -- a run of sectors that is there
  pub run-there : (from n : ℕ) → from + n ≤ 65536 → 512 * (from + n) ≤ length text
      → gathered (read_log image) from n ≡ Ok (take (512 * n) (drop (512 * from) text))
  run-there from n few there =
      gathered_is (read_log image) text from n (λ i low high. read-there i (omega (arith, few, high)) (omega (arith, there, high)))

  -- and one that isn't
  pub run-short : (from n : ℕ) → from + n ≤ 65536 → 512 * from ≤ length text → length text < 512 * (from + n)
      → gathered (read_log image) from n ≡ Err (fault_at kinds.LogShort (length text))
  run-short from zero few begin short = absurd (omega (arith, begin, short))
  run-short from (suc n) few begin short =
      let f = filled-whole log in
      elim (cases_lt (512 * from) (length text)) [
        | inl lt ↦ ap (λ r. joined r (gathered (read_log image) (suc from) n)) (read-there from (omega (arith, few)) lt)
            ∙ ap (joined (Ok (sector text from)))
            (run-short (suc from) n (omega (arith, few)) (omega (arith, lt, f.0)) (omega (arith, short)))
        | inr le ↦
            let same : 512 * from ≡ length text = omega (arith, begin, le) in
            ap (λ r. joined r (gathered (read_log image) (suc from) n)) (read-absent from (omega (arith, few)) le)
            ∙ ap (λ k. Err (fault_at kinds.LogShort k)) same
      ]

  -- one sector
  pub one-there : 1024 ≤ length text → read_log image 1 ≡ Ok (sector text 1)
  one-there le = read-there 1 (omega arith) (omega (arith, le))

  pub one-absent : length text < 1024 → 512 ≤ length text → read_log image 1 ≡ Err (fault_at kinds.LogShort (length text))
  one-absent lt le =
      let f = filled-whole log in
      let same : 512 * 1 ≡ length text = omega (arith, lt, le, f.0) in
      read-absent 1 (omega arith) (omega (arith, same)) ∙ ap (λ k. Err (fault_at kinds.LogShort k)) same

-- ---- the bits

-- the bits after the signature, of a bitmap of whole sectors and of the log
pub bit-same : (text : List ℕ) (m i : ℕ) → 4 + i / 8 < 512 * m → bit (drop 4 (take (512 * m) (drop 512 text))) i ≡ bit (drop 516 text) i
unfolding bit
bit-same text m i inside =
    let place : 512 + (4 + i / 8) ≡ 516 + i / 8 = omega arith in
    let same : get_or (drop 4 (take (512 * m) (drop 512 text))) (i / 8) 0 ≡ get_or (drop 516 text) (i / 8) 0 =
    get_or-drop 4 (take (512 * m) (drop 512 text)) (i / 8) 0
    ∙ get_or-take (512 * m) (drop 512 text) (4 + i / 8) 0 inside
    ∙ get_or-drop 512 text (4 + i / 8) 0 ∙ ap (λ k. get_or text k 0) place ∙ sym (get_or-drop 516 text (i / 8) 0) in
    ap (λ b. b / 2 ^ (i % 8) % 2 == 1) same

pub rank-same : (f g : ℕ → Bool) (n : ℕ) → ((i : ℕ) → i < n → f i ≡ g i) → rank f n ≡ rank g n
rank-same f g zero h = refl
rank-same f g (suc n) h = ap₂ (λ r b. r + one_if b) (rank-same f g n (λ i lt. h i (omega (arith, lt)))) (h n (omega arith))

pub rank-few : (f : ℕ → Bool) (n : ℕ) → rank f n ≤ n
rank-few f zero = omega arith
rank-few f (suc n) = go (f n) (rank-few f n)
  where
    go : (b : Bool) → rank f n ≤ n → rank f n + one_if b ≤ suc n
    go true h = omega (arith, h)
    go false h = omega (arith, h)

pub rank-more : (f : ℕ → Bool) (i n : ℕ) → i < n → f i ≡ true → rank f i + 1 ≤ rank f n
rank-more f i zero lt e = absurd (omega (arith, lt))
rank-more f i (suc n) lt e =
    elim (cases_lt i n) [
      | inl in_n ↦ omega (arith, rank-more f i n in_n e)
      | inr le ↦
          let same : n ≡ i = omega (arith, lt, le) in
          let one : one_if (f n) ≡ 1 = ap (λ k. one_if (f k)) same ∙ ap one_if e in
          omega (arith, one, ap (rank f) same)
    ]

-- ---- the sectors of the bins data

-- what is read of sector i: the log's or the hive's
pub picked-on : (image : Image) (first : ℕ) (bits : ℕ → Bool) (i : ℕ) → bits i ≡ true → picked image first bits i ≡ read_log image (first + rank bits i)
picked-on image first bits i e = ap (λ b. cond b (read_log image (first + rank bits i)) (read_bin image i)) e

pub picked-off : (image : Image) (first : ℕ) (bits : ℕ → Bool) (i : ℕ) → bits i ≡ false → picked image first bits i ≡ read_bin image i
picked-off image first bits i e = ap (λ b. cond b (read_log image (first + rank bits i)) (read_bin image i)) e

-- a sector that neither has
pub lacks : (bits : ℕ → Bool) (have n : ℕ) → has_rest bits have n ≡ false → (i : ℕ) × (i < n) × (bits i ≡ false) × (have ≤ i)
lacks bits have zero e = absurd cc
lacks bits have (suc n) e = go (has_rest bits have n) refl (bits n) refl e (λ d. lacks bits have n d)
  where
    go : (a : Bool) → has_rest bits have n ≡ a → (b : Bool) → bits n ≡ b → (a && (b || nat_lt n have)) ≡ false
        → (has_rest bits have n ≡ false → (i : ℕ) × (i < n) × (bits i ≡ false) × (have ≤ i))
        → (i : ℕ) × (i < suc n) × (bits i ≡ false) × (have ≤ i)
    go false d b f e h = let r = h d in (r.0, omega (arith, r.1), r.2, r.3)
    go true d true f e h = absurd cc
    go true d false f e h = (n, omega arith, f, not-above n have e)

-- where none lacks, each is the log's or the hive's
pub each-there : (bits : ℕ → Bool) (have n : ℕ) → has_rest bits have n ≡ true → (i : ℕ) → i < n → bits i ≡ false → i < have
each-there bits have zero e i lt f = absurd (omega (arith, lt))
each-there bits have (suc n) e i lt f =
    let p = and_parts (has_rest bits have n) (bits n || nat_lt n have) e in
    elim (cases_lt i n) [
      | inl in_n ↦ each-there bits have n p.0 i in_n f
      | inr le ↦
          let same : n ≡ i = omega (arith, lt, le) in
          let off : bits n ≡ false = ap bits same ∙ f in
          let last : nat_lt n have ≡ true = ap (λ b. b || nat_lt n have) (sym off) ∙ p.1 in
          omega (arith, below n have last, same)
    ]
  where
    below : (a b : ℕ) → nat_lt a b ≡ true → a < b
    below a b e = ltb-true a b e

-- it is read, or has this fault
abbrev pub IsOr : HiveFault → Result (List ℕ) HiveFault → Type 0
IsOr fault (Ok bytes) = Unit {0}
IsOr fault (Err f) = f ≡ fault

-- a run of sectors of which one has a fault, and none another
pub run-lacks : (at : Sectors) (fault : HiveFault) (from n i : ℕ) → from ≤ i → i < from + n → at i ≡ Err fault
    → ((k : ℕ) → k < from + n → IsOr fault (at k)) → gathered at from n ≡ Err fault
run-lacks at fault from zero i low high e each = absurd (omega (arith, low, high))
run-lacks at fault from (suc n) i low high e each =
    go (at from) refl (each from (omega arith))
    (λ lt. run-lacks at fault (suc from) n i lt (omega (arith, high)) e (λ k lt. each k (omega (arith, lt))))
  where
    no : (bytes : List ℕ) (f : HiveFault) (r : Result (List ℕ) HiveFault) → r ≡ Ok bytes → r ≡ Err f → ⊥
    no bytes f r e d = absurd cc

    go : (r : Result (List ℕ) HiveFault) → at from ≡ r → IsOr fault r → (suc from ≤ i → gathered at (suc from) n ≡ Err fault)
        → joined r (gathered at (suc from) n) ≡ Err fault
    go (Err f) d o h = ap (λ g. Err g) o
    go (Ok bytes) d o h =
        elim (cases_lt from i) [
          | inl lt ↦ ap (joined (Ok bytes)) (h (omega (arith, lt)))
          | inr le ↦
              let same : from ≡ i = omega (arith, low, le) in
              absurd (no bytes fault (at i) (ap at (sym same) ∙ d) e)
        ]

-- ---- pages that are written

-- the sectors of a file of which one is replaced
module _ (file bytes : List ℕ) (k : ℕ) (long : length bytes ≡ 512) (room : 512 * k + 512 ≤ length file) where
  abbrev put : List ℕ
  put = put_at file (512 * k) bytes

  abbrev front : List ℕ
  front = take (512 * k) file

  front-long : length front ≡ 512 * k
  front-long = omega (arith, length-take (512 * k) file, room)

  pub put-long : length put ≡ length file
  put-long =
      omega (
        arith,
        length-append (front ++ bytes) (drop (512 * k + length bytes) file),
        length-append front bytes,
        front-long,
        long,
        length-drop (512 * k + length bytes) file,
        room,
      )

  both-long : length (front ++ bytes) ≡ 512 * suc k
  both-long = omega (arith, length-append front bytes, front-long, long)

  pub put-here : sector put k ≡ bytes
  put-here =
      let e : k ≡ k + 0 = omega arith in
      let in_front : 512 * k + 512 ≤ length (front ++ bytes) = omega (arith, both-long) in
      sector_front (front ++ bytes) (drop (512 * k + length bytes) file) k in_front
      ∙ ap (sector (front ++ bytes)) e ∙ sector_back front bytes k 0 front-long ∙ sector_whole bytes long

  pub put-before : (j : ℕ) → j < k → sector put j ≡ sector file j
  unfolding sector
  put-before j lt =
      let m = 512 * k - 512 * j in
      let split : 512 * k ≡ 512 * j + m = omega (arith, lt) in
      let inside : 512 * j + 512 ≤ length front = omega (arith, front-long, lt) in
      let inside_both : 512 * j + 512 ≤ length (front ++ bytes) = omega (arith, both-long, lt) in
      sector_front (front ++ bytes) (drop (512 * k + length bytes) file) j inside_both
      ∙ sector_front front bytes j inside
      ∙ ap (λ n. take 512 (drop (512 * j) (take n file))) split
      ∙ ap (take 512) (drop-take (512 * j) m file)
      ∙ take-take 512 m (drop (512 * j) file) (omega (arith, lt))

  pub put-after : (j : ℕ) → k < j → sector put j ≡ sector file j
  unfolding sector
  put-after j lt =
      let i = j - suc k in
      let place : j ≡ suc k + i = omega (arith, lt) in
      let at : 512 * i + (512 * k + length bytes) ≡ 512 * j = omega (arith, long, lt) in
      ap (sector put) place
      ∙ sector_back (front ++ bytes) (drop (512 * k + length bytes) file) (suc k) i both-long
      ∙ ap (take 512) (drop-drop (512 * i) (512 * k + length bytes) file
      ∙ ap (λ n. drop n file) (let turned : 512 * k + length bytes + 512 * i ≡ 512 * j = omega (arith, long, lt) in turned))

-- which bytes sector i of the bins data has
abbrev pub chosen : (ℕ → Bool) → List ℕ → ℕ → List ℕ → ℕ → List ℕ
chosen bits text next file i = cond (bits i) (sector text next) (sector file (8 + i))

-- what is known of a file after pages
pub record Written (bits : ℕ → Bool) (text : List ℕ) (next i n : ℕ) (file new : List ℕ) : Type 0 where
  pub long : length new ≡ length file
  pub before : (j : ℕ) → j < 8 + i → sector new j ≡ sector file j
  pub each : (j : ℕ) → i ≤ j → j < i + n → sector new (8 + j) ≡ chosen bits text (next + (rank bits j - rank bits i)) file j

rank-next : (bits : ℕ → Bool) (i : ℕ) (b : Bool) → bits i ≡ b → rank bits (i + 1) ≡ rank bits i + one_if b
rank-next bits i b e = let d : i + 1 ≡ suc i = omega arith in ap (rank bits) d ∙ ap (λ x. rank bits i + one_if x) e

rank-up : (bits : ℕ → Bool) (i j : ℕ) → i ≤ j → rank bits i ≤ rank bits j
rank-up bits i zero le = let e : i ≡ 0 = omega (arith, le) in omega (arith, ap (rank bits) e)
rank-up bits i (suc j) le =
    elim (cases_lt i (suc j)) [
      | inl lt ↦ omega (arith, rank-up bits i j (omega (arith, lt)))
      | inr ge ↦ let e : i ≡ suc j = omega (arith, le, ge) in omega (arith, ap (rank bits) e)
    ]

-- the sectors that the log has from here on are in it
abbrev AreIn : (ℕ → Bool) → List ℕ → ℕ → ℕ → ℕ → Type 0
AreIn bits text next i n =
    (j : ℕ) → i ≤ j → j < i + n → bits j ≡ true → 512 * (next + (rank bits j - rank bits i)) + 512 ≤ length text

-- one sector of the log was written
written-on : (bits : ℕ → Bool) (text : List ℕ) (next i n : ℕ) (file new : List ℕ) → bits i ≡ true → 512 * (8 + i + suc n) ≤ length file
    → length (sector text next) ≡ 512
    → Written bits text (next + 1) (i + 1) n (put_at file (512 * (8 + i)) (sector text next)) new → Written bits text next i (suc n) file new
written-on bits text next i n file new on room long w =
    let inside : 512 * (8 + i) + 512 ≤ length file = omega (arith, room) in
    let rank_next = rank-next bits i true on in
    record {
      long = w.long ∙ put-long file (sector text next) (8 + i) long inside;
      before = λ j lt. w.before j (omega (arith, lt)) ∙ put-before file (sector text next) (8 + i) long inside j lt;
      each = λ j low high. elim (cases_lt i j) [
        | inl lt ↦
            let same : next + 1 + (rank bits j - rank bits (i + 1)) ≡ next + (rank bits j - rank bits i) =
            omega (arith, rank_next, rank-up bits (i + 1) j (omega (arith, lt))) in
            w.each j (omega (arith, lt)) (omega (arith, high))
            ∙ ap₂ (λ (x : ℕ) (y : List ℕ). cond (bits j) (sector text x) y) same
            (put-after file (sector text next) (8 + i) long inside (8 + j) (omega (arith, lt)))
        | inr le ↦
            let same : i ≡ j = omega (arith, low, le) in
            let none : next ≡ next + (rank bits j - rank bits i) = omega (arith, ap (rank bits) same) in
            ap (λ k. sector new (8 + k)) (sym same)
            ∙ w.before (8 + i) (omega arith) ∙ put-here file (sector text next) (8 + i) long inside ∙ ap (sector text) none
            ∙ ap (λ b. cond b (sector text (next + (rank bits j - rank bits i))) (sector file (8 + j))) (sym (ap bits (sym same) ∙ on))
      ];
    }

-- none was
written-off : (bits : ℕ → Bool) (text : List ℕ) (next i n : ℕ) (file new : List ℕ) → bits i ≡ false
    → Written bits text next (i + 1) n file new → Written bits text next i (suc n) file new
written-off bits text next i n file new off w =
    let rank_next = rank-next bits i false off in
    record {
      long = w.long;
      before = λ j lt. w.before j (omega (arith, lt));
      each = λ j low high. elim (cases_lt i j) [
        | inl lt ↦
            let same : next + (rank bits j - rank bits (i + 1)) ≡ next + (rank bits j - rank bits i) = omega (arith, rank_next) in
            w.each j (omega (arith, lt)) (omega (arith, high)) ∙ ap (λ x. cond (bits j) (sector text x) (sector file (8 + j))) same
        | inr le ↦
            let same : i ≡ j = omega (arith, low, le) in
            ap (λ k. sector new (8 + k)) (sym same) ∙ w.before (8 + i) (omega arith) ∙ ap (λ k. sector file (8 + k)) same
            ∙ ap (λ b. cond b (sector text (next + (rank bits j - rank bits i))) (sector file (8 + j))) (sym (ap bits (sym same) ∙ off))
      ];
    }

pub written : (bits : ℕ → Bool) (text : List ℕ) (next i n : ℕ) (file : List ℕ) → 512 * (8 + i + n) ≤ length file → AreIn bits text next i n
    → Written bits text next i n file (put_pages file (marked_pages bits text next i n))
unfolding marked_pages
written bits text next i zero file room there = record {
  long = refl;
  before = λ j lt. refl;
  each = λ j low high. absurd (omega (arith, low, high));
}
written bits text next i (suc n) file room there =
    go (bits i) refl (λ f r t. written bits text (next + 1) (i + 1) n f r t) (λ f r t. written bits text next (i + 1) n f r t)
  where
    on_pages : List ℕ → List ℕ
    on_pages f = put_pages f (marked_pages bits text (next + 1) (i + 1) n)

    off_pages : List ℕ → List ℕ
    off_pages f = put_pages f (marked_pages bits text next (i + 1) n)

    here : bits i ≡ true → length (sector text next) ≡ 512
    here on = sector_long text next (omega (arith, there i (omega arith) (omega arith) on))

    in_on : bits i ≡ true → AreIn bits text (next + 1) (i + 1) n
    in_on on j low high b =
        omega (
          arith,
          there j (omega (arith, low)) (omega (arith, high)) b,
          rank-next bits i true on,
          rank-up bits (i + 1) j low,
        )

    in_off : bits i ≡ false → AreIn bits text next (i + 1) n
    in_off off j low high b =
        omega (arith, there j (omega (arith, low)) (omega (arith, high)) b, rank-next bits i false off)

    go : (b : Bool) → bits i ≡ b
        → ((f : List ℕ) → 512 * (8 + (i + 1) + n) ≤ length f → AreIn bits text (next + 1) (i + 1) n
        → Written bits text (next + 1) (i + 1) n f (on_pages f))
        → ((f : List ℕ) → 512 * (8 + (i + 1) + n) ≤ length f → AreIn bits text next (i + 1) n
        → Written bits text next (i + 1) n f (off_pages f))
        → Written bits text next i (suc n) file (put_pages file (cond b
        (record { place = 512 * i; bytes = sector text next } ∷ marked_pages bits text (next + 1) (i + 1) n)
        (marked_pages bits text next (i + 1) n)))
    go true on h k =
        let place : 4096 + 512 * i ≡ 512 * (8 + i) = omega arith in
        let put = put_at file (512 * (8 + i)) (sector text next) in
        let long = put-long file (sector text next) (8 + i) (here on) (omega (arith, room)) in
        subst (λ (p : ℕ). Written bits text next i (suc n) file (on_pages (put_at file p (sector text next)))) (sym place)
        (written-on bits text next i n file (on_pages put) on room (here on) (h put (omega (arith, room, long)) (in_on on)))
    go false off h k = written-off bits text next i n file (off_pages file) off (k file (omega (arith, room)) (in_off off))
