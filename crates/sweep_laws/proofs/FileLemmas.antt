-- What is read from the log's file of an image.
use Rattle.std.proofs.Common.{◌≡◌, ◌<◌, ◌≤◌, ◌+◌, ◌-◌, ◌*◌, ◌/◌, ◌%◌, ◌^◌, ◌==◌, ℕ, zero, suc, Bool, true, false, cond, List, ◌++◌, length, get_or, take, drop, Option, Some, None, Result, Ok, Err, refl, sym, ◌∙◌, ap, arith, ⊎_elim, length-take, take-append-drop}
use Rattle.std.proofs.Math.Seq.{take-add}
use Rattle.std.proofs.lemmas.Bool.{le-ltb, cases_lt}
use Rattle.std.proofs.lemmas.List.{take_all, drop-drop, get_or-take, get_or-drop}
use Rattle.std.specs.Prelude.{codes, nat_eq}
use Rattle.std.specs.List.{starts_with}
use Rattle.nt_bytes.specs.Fields.{u32_in}
use Rattle.nt_bytes.specs.declared.fault.HiveFault.{HiveFault}
use Rattle.nt_bytes.specs.Reading.{◌>>=◌}
use Rattle.hive_model.specs.Base.{Base, base_of}
use Rattle.hive_model.specs.Carries.{HasLog}
use Rattle.hive_model.specs.Image.{Image, Log, Content, Bytes, Unreadable, bytes_of, IsFileOf}
use Rattle.hive_model.specs.Log.{log_of}
use Rattle.hive_model.specs.Recovery.{log_in, sector, bytes_or, read_log, joined, gathered, bit, bitmap_sectors, front_in, as_log_base}
use Rattle.hive_model.proofs.BaseLemmas.{log_base_back, logged_in_checked}
use Rattle.hive_log.specs.Found.{Found}
use Rattle.hive_log.proofs.Appending.{sized}
use Rattle.hive_commit.specs.Cuts.{IsChange}
use Rattle.hive_commit.specs.Stages.{closed_of}
use Rattle.sweep_text.specs.sweep_text.Logged.{size_in, listed, logged_of}
use Rattle.sweep_text.specs.sweep_text.Stages.{recovery_stages, commit_stages}
use Rattle.sweep_laws.specs.Leaving.{recovery_writes, commit_writes}
use Rattle.sweep_laws.specs.Listing.{listed_in, written_in}
use Rattle.sweep_laws.proofs.CutLemmas.{long}
use Rattle.sweep_laws.proofs.ListingLemmas.{commit_listed, recovery_listed}
use Rattle.sweep_laws.proofs.LogLemmas.{size_back, size_front, listed_same, bitmap_told, sectors_told}

-- ---- what was read

-- a sector that could be read
read_there : (absent gone : HiveFault) (c : Option Content) (x : List ℕ) → bytes_or absent gone c ≡ Ok x → c ≡ Some (Bytes x)
read_there absent gone None x e = absurd (cc)
read_there absent gone (Some Unreadable) x e = absurd (cc)
read_there absent gone (Some (Bytes y)) x e = cc

-- both texts that were joined
record Both (first rest : Result (List ℕ) HiveFault) (text : List ℕ) : Type 0 where
  pub front : List ℕ
  pub more : List ℕ
  pub first_is : first ≡ Ok front
  pub rest_is : rest ≡ Ok more
  pub text_is : text ≡ front ++ more

both_of : (first rest : Result (List ℕ) HiveFault) (text : List ℕ) → joined first rest ≡ Ok text → Both first rest text
both_of (Err fault) rest text e = absurd (cc)
both_of (Ok x) (Err fault) text e = absurd (cc)
both_of (Ok x) (Ok y) text e = record { front = x; more = y; first_is = refl; rest_is = refl; text_is = cc }

-- what came before a test
passed : (b : Bool) (front x : List ℕ) (fault : HiveFault) → cond b (Ok front) (Err fault) ≡ Ok x → front ≡ x
passed true front x fault e = cc
passed false front x fault e = absurd (cc)

tested : (first : Result (List ℕ) HiveFault) (test : List ℕ → Bool) (fault : HiveFault) (x : List ℕ)
    → (first >>= (λ front. cond (test front) (Ok front) (Err fault))) ≡ Ok x → first ≡ Ok x
tested (Err why) test fault x e = absurd (cc)
tested (Ok front) test fault x e = ap (λ l. Ok l) (passed (test front) front x fault e)

-- the sector of a base block
record BlockIn (c : Option Content) (base : Base) : Type 0 where
  pub block : List ℕ
  pub there : c ≡ Some (Bytes block)
  pub is : base_of block 1 ≡ Ok base

block_in : (absent gone : HiveFault) (c : Option Content) (base : Base)
    → (bytes_or absent gone c >>= (λ block. as_log_base (base_of block 1))) ≡ Ok base → BlockIn c base
block_in absent gone None base e = absurd (cc)
block_in absent gone (Some Unreadable) base e = absurd (cc)
block_in absent gone (Some (Bytes block)) base e =
    record { block = block; there = refl; is = log_base_back (base_of block 1) base e }

-- ---- the file

module _ {image : Image} {bytes : List ℕ} (file : IsFileOf image Log bytes) where
  inside : (n : ℕ) (block : List ℕ) → log_in image n ≡ Some (Bytes block) → n < file.count
  inside n block here = ⊎_elim
      (λ below. below)
      (λ past. absurd (let none : Some (Bytes block) ≡ None = sym here ∙ file.no_more n past in cc))
      (cases_lt n file.count)

  sector_is : (n : ℕ) (block : List ℕ) → log_in image n ≡ Some (Bytes block) → block ≡ take 512 (drop (512 * n) bytes)
  sector_is n block here = ap bytes_of (sym here) ∙ file.each n (inside n block here)

  -- ---- a log that is there
  module _ (log : List ℕ) (has : HasLog image log) where
    front_is : (n : ℕ) → 512 * n ≤ length log → take (512 * n) bytes ≡ take (512 * n) log
    unfolding sector
    front_is zero within = refl
    front_is (suc n) within =
        let place : 512 * suc n ≡ 512 * n + 512 = omega arith in
        let so_far = front_is n (omega (arith, within)) in
        let next : take 512 (drop (512 * n) bytes) ≡ take 512 (drop (512 * n) log) =
        sym (sector_is n (sector log n) (has n (omega (arith, within)))) in
        ap (λ m. take m bytes) place
        ∙ take-add (512 * n) 512 bytes
        ∙ (λ i. so_far i ++ next i)
        ∙ sym (take-add (512 * n) 512 log)
        ∙ ap (λ m. take m log) (sym place)

    bytes_are : length log ≡ 512 * (length log / 512) → bytes ≡ log ++ drop (length log) bytes
    bytes_are whole =
        sym (take-append-drop (length log) bytes)
        ∙ ap (λ l. l ++ drop (length log) bytes)
        (ap (λ m. take m bytes) whole ∙ front_is (length log / 512) (omega (arith, whole)) ∙ ap (λ m. take m log) (sym whole)
        ∙ take_all (length log) log (omega arith))

  pub commit_told : {before : Image} {base : Base} {old new : List ℕ} {root : ℕ} {bits : ℕ → Bool}
      → IsChange before base old new root bits → HasLog image (log_of bits new (closed_of base new root))
      → listed_in (commit_stages (logged_of bytes).bitmap (logged_of bytes).sectors) ≡ written_in (commit_writes base bits new root)
  commit_told {before = before} {base = base} {old = old} {new = new} {root = root} {bits = bits} is has =
      let log = log_of bits new (closed_of base new root) in
      let same : bytes ≡ log ++ drop (length log) bytes = bytes_are log has (long is) in
      let bitmap : (logged_of bytes).bitmap ≡ bitmap_sectors (length new) =
      ap (λ b. (logged_of b).bitmap) same ∙ bitmap_told is (drop (length log) bytes) in
      let sectors : (logged_of bytes).sectors ≡ listed bits 0 (length new / 512) =
      ap (λ b. (logged_of b).sectors) same ∙ sectors_told is (drop (length log) bytes) in
      (λ i. listed_in (commit_stages (bitmap i) (sectors i))) ∙ commit_listed before base old new root bits is

  -- ---- a log that is read
  part_is : (k n : ℕ) (x y : List ℕ) → read_log image k ≡ Ok x → y ≡ take (512 * n) (drop (512 * suc k) bytes)
      → x ++ y ≡ take (512 * suc n) (drop (512 * k) bytes)
  part_is k n x y one more =
      let place : 512 + 512 * n ≡ 512 * suc n = omega arith in
      let next : 512 * k + 512 ≡ 512 * suc k = omega arith in
      let first = sector_is k x (read_there _ _ (log_in image k) x one) in
      (λ i. first i ++ more i)
      ∙ ap (λ m. take 512 (drop (512 * k) bytes) ++ take (512 * n) (drop m bytes)) (sym next)
      ∙ ap (λ l. take 512 (drop (512 * k) bytes) ++ take (512 * n) l) (sym (drop-drop 512 (512 * k) bytes))
      ∙ sym (take-add 512 (512 * n) (drop (512 * k) bytes))
      ∙ ap (λ m. take m (drop (512 * k) bytes)) place

  run_is : (n k : ℕ) (x : List ℕ) → gathered (read_log image) k n ≡ Ok x → x ≡ take (512 * n) (drop (512 * k) bytes)
  run_is zero k x e = cc
  run_is (suc n) k x e =
      let both = both_of (read_log image k) (gathered (read_log image) (suc k) n) x e in
      both.text_is ∙ part_is k n both.front both.more both.first_is (run_is n (suc k) both.more both.rest_is)

  module _ {closed : Base} {bitmap bins : List ℕ} (found : Found image closed bitmap bins) where
    abbrev size : ℕ
    size = found.logged.size

    abbrev count : ℕ
    count = bitmap_sectors size - 1

    text_is : found.log.text ≡ take (512 * suc count) (drop 512 bytes)
    text_is =
        let both = both_of (front_in image) (gathered (read_log image) 2 count) found.log.text found.log.text_there in
        both.text_is
        ∙ part_is 1 count both.front both.more
        (tested (read_log image 1) (λ front. starts_with nat_eq front (codes "DIRT")) _ both.front both.first_is)
        (run_is count 2 both.more both.rest_is)

    size_is : size_in bytes ≡ size
    size_is =
        let at = block_in _ _ (log_in image 0) found.logged found.log.log_block in
        let low = inside 0 at.block at.there in
        let first : at.block ≡ take 512 bytes = sector_is 0 at.block at.there in
        let whole : take 512 bytes ++ drop 512 bytes ≡ bytes = take-append-drop 512 bytes in
        ap (λ b. cond b 0 (u32_in bytes 40)) (le-ltb (length bytes) 44 (omega (arith, low, file.long)))
        ∙ ap (λ b. u32_in b 40) (sym whole)
        ∙ size_front (take 512 bytes) (drop 512 bytes) (omega (arith, length-take 512 bytes, low, file.long))
        ∙ ap (λ b. u32_in b 40) (sym first)
        ∙ size_back at.block 1 found.logged at.is

    pages : 4096 * (size / 4096) ≡ size
    pages = (sized size (logged_in_checked image found.logged found.log.log_block).size_is).pages

    bits_are : (i : ℕ) → i < length bins / 512 → bit (drop 516 bytes) i ≡ bit bitmap i
    unfolding bit
    bits_are i small =
        let q = i / 8 in
        let place : 512 + (4 + q) ≡ 516 + q = omega arith in
        let within : 4 + q < 512 * suc count = omega (arith, small, pages, found.size) in
        let there : get_or (drop 516 bytes) q 0 ≡ get_or bitmap q 0 =
        get_or-drop 516 bytes q 0 ∙ ap (λ m. get_or bytes m 0) (sym place) ∙ sym (get_or-drop 512 bytes (4 + q) 0)
        ∙ sym (get_or-take (512 * suc count) (drop 512 bytes) (4 + q) 0 within)
        ∙ ap (λ l. get_or l (4 + q) 0) (sym text_is)
        ∙ sym (get_or-drop 4 found.log.text q 0)
        ∙ ap (λ l. get_or l q 0) (sym found.log.bits_are) in
        ap (λ b. b / 2 ^ (i % 8) % 2 == 1) there

    pub recovery_told : listed_in (recovery_stages (logged_of bytes).sectors) ≡ written_in (recovery_writes closed (bit bitmap) bins)
    unfolding logged_of
    recovery_told =
        let sectors : (logged_of bytes).sectors ≡ listed (bit bitmap) 0 (length bins / 512) =
        ap (λ n. listed (bit (drop 516 bytes)) 0 (n / 512)) (size_is ∙ found.size)
        ∙ listed_same (bit (drop 516 bytes)) (bit bitmap) 0 (length bins / 512) (λ i below. bits_are i (omega (arith, below))) in
        ap (λ l. listed_in (recovery_stages l)) sectors ∙ recovery_listed closed (bit bitmap) bins
