-- The sectors of the log that a commit writes.
use Rattle.std.proofs.Common.{◌≡◌, ◌<◌, ◌≤◌, ◌+◌, ◌-◌, ◌*◌, ◌/◌, ◌++◌, ◌⊎◌, ℕ, zero, suc, Bool, true, false, cond, List, [], length, replicate, refl, sym, ◌∙◌, ap, arith, ⊎_elim, add-one, length-append}
use Rattle.std.proofs.lemmas.List.{length-replicate}
use Rattle.std.specs.Prelude.{codes}
use Rattle.hive_model.specs.Base.{Base, IsBase, base_text}
use Rattle.hive_model.specs.Recovery.{sector, one_if, rank, bitmap_sectors, first_dirty}
use Rattle.hive_model.specs.Log.{bytes_of_bits, bitmap_text, marked_sectors, log_of}
use Rattle.hive_model.proofs.BaseLemmas.{text_long}
use Rattle.hive_log.proofs.Bits.{bits_long}
use Rattle.hive_log.proofs.Ranks.{rank_on, rank_off, rank_below}
use Rattle.hive_log.proofs.Runs.{sector_front, sector_back, sector_long, sector_whole}

pub bitmap_long : (bits : ℕ → Bool) (size : ℕ) → length (bitmap_text bits size) ≡ 512 * bitmap_sectors size
unfolding bitmap_text
bitmap_long bits size =
    let signed = length-append (codes "DIRT") (bytes_of_bits bits 0 (size / 4096)) in
    let filled = length-append (codes "DIRT" ++ bytes_of_bits bits 0 (size / 4096))
    (replicate (512 * bitmap_sectors size - (4 + size / 4096)) 0) in
    omega (
      arith,
      signed,
      filled,
      bits_long bits 0 (size / 4096),
      length-replicate {A = ℕ} (512 * bitmap_sectors size - (4 + size / 4096)) 0,
    )

which : (from i : ℕ) → from ≤ i → (from < i) ⊎ (i ≡ from)
which from i low = grind arith

module _ (bits : ℕ → Bool) (new : List ℕ) where
  -- the marked sectors take the same number as there are bits
  marked_long : (from n : ℕ) → 512 * (from + n) ≤ length new
      → length (marked_sectors bits new from n) + 512 * rank bits from ≡ 512 * rank bits (from + n)
  marked_long from zero inside = let same : from ≡ from + 0 = omega arith in omega (arith, ap (rank bits) same)
  marked_long from (suc n) inside =
      let rest = marked_long (suc from) n (omega arith) in
      let last : rank bits (suc from + n) ≡ rank bits (from + suc n) = ap (rank bits) (omega arith) in
      let long = sector_long new from (omega arith) in
      let here : (b : Bool) → bits from ≡ b
      → length (cond b (sector new from) [] ++ marked_sectors bits new (suc from) n) + 512 * rank bits from
      ≡ 512 * rank bits (from + suc n) =
      elim [
        | true ↦ λ on. omega (
          arith,
          rest,
          last,
          long,
          length-append (sector new from) (marked_sectors bits new (suc from) n),
          rank_on bits from on,
          ap (rank bits) (add-one from),
        )
        | false ↦ λ off. omega (arith, rest, last, rank_off bits from off, ap (rank bits) (add-one from))
      ] in
      here (bits from) refl

  -- sector i stands after as many as are marked below it
  marked_at : (from n i j : ℕ) → 512 * (from + n) ≤ length new → from ≤ i → i < from + n → bits i ≡ true
      → j + rank bits from ≡ rank bits i → sector (marked_sectors bits new from n) j ≡ sector new i
  marked_at from zero i j inside low high on place = absurd (omega arith)
  marked_at from (suc n) i j inside low high on place =
      let next : rank bits (suc from) ≡ rank bits from + one_if (bits from) = refl in
      let long = sector_long new from (omega arith) in
      let here : (b : Bool) → bits from ≡ b → (from < i) ⊎ (i ≡ from)
      → sector (cond b (sector new from) [] ++ marked_sectors bits new (suc from) n) j ≡ sector new i =
      elim [
        | true ↦ λ is_on. ⊎_elim
            (λ less.
            let more : rank bits from < rank bits i = rank_below bits i from less is_on in
            let one : rank bits (suc from) ≡ rank bits from + 1 = ap (λ b. rank bits from + one_if b) is_on in
            let behind : 1 + (j - 1) ≡ j = omega arith in
            ap (sector (sector new from ++ marked_sectors bits new (suc from) n)) (sym behind)
            ∙ sector_back (sector new from) (marked_sectors bits new (suc from) n) 1 (j - 1) long
            ∙ marked_at (suc from) n i (j - 1) (omega arith) less (omega arith) on (omega arith))
            (λ same.
            let first : j ≡ 0 = omega (arith, ap (rank bits) same) in
            ap (sector (sector new from ++ marked_sectors bits new (suc from) n)) first
            ∙ sector_front (sector new from) (marked_sectors bits new (suc from) n) 0 (omega arith)
            ∙ sector_whole (sector new from) long ∙ ap (sector new) (sym same))
        | false ↦ λ is_off. ⊎_elim
            (λ less.
            let none : rank bits (suc from) ≡ rank bits from + 0 = ap (λ b. rank bits from + one_if b) is_off in
            marked_at (suc from) n i j (omega arith) less (omega arith) on (omega arith))
            (λ same. let off : bits i ≡ false = ap bits same ∙ is_off in absurd (cc))
      ] in
      here (bits from) refl (which from i low)

module _ (bits : ℕ → Bool) (new : List ℕ) (base : Base) (is : IsBase (record base { kind = 1 }))
    (whole : 512 * (length new / 512) ≡ length new) where
  abbrev log : List ℕ
  log = log_of bits new base

  abbrev front : List ℕ
  front = base_text (record base { kind = 1 }) ++ bitmap_text bits (length new)

  front_long : length front ≡ 512 * first_dirty (length new)
  front_long = omega (
    arith,
    length-append (base_text (record base { kind = 1 })) (bitmap_text bits (length new)),
    text_long (record base { kind = 1 }) is,
    bitmap_long bits (length new),
  )

  pub run_long : length (marked_sectors bits new 0 (length new / 512)) ≡ 512 * rank bits (length new / 512)
  run_long =
      let same : 0 + length new / 512 ≡ length new / 512 = omega arith in
      omega (arith, marked_long bits new 0 (length new / 512) (omega arith), ap (rank bits) same)

  pub log_long : length log ≡ 512 * (first_dirty (length new) + rank bits (length new / 512))
  unfolding log_of
  log_long = omega (arith, length-append front (marked_sectors bits new 0 (length new / 512)), front_long, run_long)

  pub log_block : sector log 0 ≡ base_text (record base { kind = 1 })
  unfolding log_of
  log_block =
      sector_front front _ 0 (omega (arith, front_long))
      ∙ sector_front (base_text (record base { kind = 1 })) _ 0 (omega (arith, text_long (record base { kind = 1 }) is))
      ∙ sector_whole _ (text_long (record base { kind = 1 }) is)

  pub log_bitmap : (k : ℕ) → k < bitmap_sectors (length new)
      → sector log (1 + k) ≡ sector (bitmap_text bits (length new)) k
  unfolding log_of
  log_bitmap k below =
      sector_front front _ (1 + k) (omega (arith, front_long))
      ∙ sector_back (base_text (record base { kind = 1 })) (bitmap_text bits (length new)) 1 k
      (text_long (record base { kind = 1 }) is)

  pub log_run : (k : ℕ) → sector log (first_dirty (length new) + k)
      ≡ sector (marked_sectors bits new 0 (length new / 512)) k
  unfolding log_of
  log_run k = sector_back front _ (first_dirty (length new)) k front_long

  pub log_marked : (i : ℕ) → 512 * i < length new → bits i ≡ true
      → sector log (first_dirty (length new) + rank bits i) ≡ sector new i
  log_marked i small on = log_run (rank bits i)
      ∙ marked_at bits new 0 (length new / 512) i (rank bits i) (omega arith) (omega arith) (omega arith) on
      (omega arith)
