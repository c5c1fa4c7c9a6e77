-- What is read from a log that a commit wrote.
use Rattle.std.proofs.Common.{◌≡◌, ◌<◌, ◌+◌, ◌-◌, ◌*◌, ◌/◌, ℕ, zero, suc, Bool, cond, List, [], ◌∷◌, ◌++◌, length, take, drop, replicate, Option, Some, None, Ok, refl, ◌∙◌, ap, arith, append_assoc, length-append, length-drop}
use Rattle.std.specs.Int.{w32, from_le_bytes}
use Rattle.std.proofs.lemmas.Bool.{le-ltb}
use Rattle.std.proofs.lemmas.List.{take-append-le, drop-append-le}
use lib.Seq.{drop-append-add}
use Rattle.nt_bytes.specs.Fields.{u32_in}
use Rattle.nt_bytes.specs.declared.fault.HiveFault.{HiveFault}
use Rattle.hive_model.specs.Base.{Base, base_of, base_text, fields_of, base_checks, first_failing, unless_fault}
use Rattle.hive_model.specs.Image.{Image}
use Rattle.hive_model.specs.Log.{log_of, bitmap_text, bytes_of_bits, marked_sectors}
use Rattle.hive_model.specs.Recovery.{bit, bitmap_sectors}
use Rattle.hive_model.proofs.BaseLemmas.{text_long, base_back}
use Rattle.hive_log.proofs.Bits.{bit_back}
use Rattle.hive_commit.specs.Cuts.{IsChange}
use Rattle.hive_commit.specs.Stages.{closed_of}
use Rattle.sweep_text.specs.sweep_text.Logged.{size_in, listed, logged_of}
use Rattle.sweep_laws.proofs.CutLemmas.{block_fits, pages}

-- ---- the size

no_fault : (fault : Option HiveFault) (read base : Base) → unless_fault fault read ≡ Ok base → read ≡ base
no_fault None read base is = cc
no_fault (Some fault) read base is = absurd (cc)

pub size_back : (block : List ℕ) (kind : ℕ) (base : Base) → base_of block kind ≡ Ok base → u32_in block 40 ≡ base.size
unfolding base_of fields_of
size_back block kind base is =
    ap (λ (b : Base). b.size) (no_fault (first_failing (base_checks block kind)) (fields_of block) base is)

pub size_front : (block rest : List ℕ) → length block ≡ 512 → u32_in (block ++ rest) 40 ≡ u32_in block 40
size_front block rest long = ap (from_le_bytes w32)
    (ap (take 4) (drop-append-le 40 block rest (omega (arith, long)))
    ∙ take-append-le 4 (drop 40 block) rest (omega (arith, long, length-drop 40 block)))

-- ---- the bits

pub listed_same : (p q : ℕ → Bool) (a n : ℕ) → ((i : ℕ) → i < a + n → p i ≡ q i) → listed p a n ≡ listed q a n
listed_same p q a zero each = refl
listed_same p q a (suc n) each =
    ap (λ b. cond b ((8 + a) ∷ []) [] ++ listed p (a + 1) n) (each a (omega arith))
    ∙ ap (λ l. cond (q a) ((8 + a) ∷ []) [] ++ l) (listed_same p q (a + 1) n (λ i below. each i (omega (arith, below))))

after_sign : (bits : ℕ → Bool) (size : ℕ) (rest : List ℕ)
    → drop 4 (bitmap_text bits size ++ rest)
    ≡ bytes_of_bits bits 0 (size / 4096) ++ (replicate (512 * bitmap_sectors size - (4 + size / 4096)) 0 ++ rest)
unfolding bitmap_text
after_sign bits size rest =
    append_assoc (bytes_of_bits bits 0 (size / 4096)) (replicate (512 * bitmap_sectors size - (4 + size / 4096)) 0) rest

module _ {base : Base} {old new : List ℕ} {root : ℕ} {bits : ℕ → Bool} {before : Image}
    (is : IsChange before base old new root bits) (rest : List ℕ) where
  abbrev closed : Base
  closed = closed_of base new root

  abbrev block : List ℕ
  block = base_text (record closed { kind = 1 })

  abbrev behind : List ℕ
  behind = bitmap_text bits (length new) ++ (marked_sectors bits new 0 (length new / 512) ++ rest)

  abbrev log : List ℕ
  log = log_of bits new closed ++ rest

  log_is : log ≡ block ++ behind
  unfolding log_of
  log_is = append_assoc (block ++ bitmap_text bits (length new)) (marked_sectors bits new 0 (length new / 512)) rest
      ∙ append_assoc block (bitmap_text bits (length new)) (marked_sectors bits new 0 (length new / 512) ++ rest)

  block_long : length block ≡ 512
  block_long = text_long (record closed { kind = 1 }) (block_fits is)

  size_is : size_in log ≡ length new
  size_is =
      ap size_in log_is
      ∙ ap (λ b. cond b 0 (u32_in (block ++ behind) 40))
      (le-ltb (length (block ++ behind)) 44 (omega (arith, length-append block behind, block_long)))
      ∙ size_front block behind block_long
      ∙ size_back block 1 (record closed { kind = 1 }) (base_back (record closed { kind = 1 }) (block_fits is))

  bits_are : (i : ℕ) → i < length new / 512 → bit (drop 516 log) i ≡ bits i
  bits_are i small =
      let place : 516 ≡ length block + 4 = omega (arith, block_long) in
      ap (λ l. bit l i) (ap (drop 516) log_is ∙ ap (λ n. drop n (block ++ behind)) place ∙ drop-append-add block behind 4
      ∙ after_sign bits (length new) (marked_sectors bits new 0 (length new / 512) ++ rest))
      ∙ bit_back bits (length new / 4096) i _ (omega (arith, small, pages is))

  pub bitmap_told : (logged_of log).bitmap ≡ bitmap_sectors (length new)
  unfolding logged_of
  bitmap_told = ap bitmap_sectors size_is

  pub sectors_told : (logged_of log).sectors ≡ listed bits 0 (length new / 512)
  unfolding logged_of
  sectors_told = ap (λ n. listed (bit (drop 516 log)) 0 (n / 512)) size_is
      ∙ listed_same (bit (drop 516 log)) bits 0 (length new / 512) (λ i below. bits_are i (omega (arith, below)))
