-- The sectors of a log whose base block has any numbers: after it they are those of every log with these bits.
use Rattle.std.proofs.Common.{◌≡◌, ◌<◌, ◌+◌, ◌*◌, ◌/◌, ◌++◌, ℕ, zero, suc, Bool, true, List, length, get_or, replicate, refl, sym, ◌∙◌, ap, arith, append_assoc, length-append}
use Rattle.hive_model.specs.Base.{Base, IsBase, base_text}
use Rattle.hive_model.specs.Recovery.{sector, rank, bitmap_sectors, first_dirty}
use Rattle.hive_model.specs.Log.{bitmap_text, marked_sectors, log_of}
use Rattle.hive_model.proofs.BaseLemmas.{text_long}
use Rattle.hive_log.proofs.Runs.{sector_front, sector_back, sector_whole}
use Rattle.hive_log.proofs.LogParts as fitting

-- a base block that fits
abbrev blank : Base
blank = record {
  first = 0;
  second = 0;
  stamp = 0;
  minor = 3;
  kind = 1;
  root = 0;
  size = 4096;
  cluster = 0;
  name = replicate 64 0;
  rest = replicate 396 0;
}

zeros : (n k : ℕ) → get_or (replicate n 0) k 0 < 256
zeros zero k = omega arith
zeros (suc n) zero = omega arith
zeros (suc n) (suc k) = zeros n k

fits : IsBase blank
fits = record {
  first_fits = omega arith;
  second_fits = omega arith;
  stamp_fits = omega arith;
  minor_is = refl;
  kind_fits = omega arith;
  root_fits = omega arith;
  size_is = refl;
  cluster_fits = omega arith;
  name_long = refl;
  name_bytes = zeros 64;
  rest_long = refl;
  rest_bytes = zeros 396;
}

module _ (bits : ℕ → Bool) (new : List ℕ) where
  abbrev behind : List ℕ
  behind = bitmap_text bits (length new) ++ marked_sectors bits new 0 (length new / 512)

  module _ (base : Base) (long : length (base_text (record base { kind = 1 })) ≡ 512) where
    log_is : log_of bits new base ≡ base_text (record base { kind = 1 }) ++ behind
    unfolding log_of
    log_is = append_assoc (base_text (record base { kind = 1 })) (bitmap_text bits (length new))
        (marked_sectors bits new 0 (length new / 512))

    behind_block : (k : ℕ) → sector (log_of bits new base) (1 + k) ≡ sector behind k
    behind_block k = ap (λ l. sector l (1 + k)) log_is
        ∙ sector_back (base_text (record base { kind = 1 })) behind 1 k long

    long_as : length (log_of bits new base) ≡ 512 + length behind
    long_as = ap length log_is ∙ omega (arith, length-append (base_text (record base { kind = 1 })) behind, long)

    pub log_block : sector (log_of bits new base) 0 ≡ base_text (record base { kind = 1 })
    log_block =
        ap (λ l. sector l 0) log_is
        ∙ sector_front (base_text (record base { kind = 1 })) behind 0 (omega (arith, long))
        ∙ sector_whole _ long

  module _ (base : Base) (long : length (base_text (record base { kind = 1 })) ≡ 512)
      (whole : 512 * (length new / 512) ≡ length new) where
    like_blank : (k : ℕ) → sector (log_of bits new base) (1 + k) ≡ sector (log_of bits new blank) (1 + k)
    like_blank k = behind_block base long k ∙ sym (behind_block blank (text_long blank fits) k)

    pub log_long : length (log_of bits new base) ≡ 512 * (first_dirty (length new) + rank bits (length new / 512))
    log_long = long_as base long ∙ sym (long_as blank (text_long blank fits))
        ∙ fitting.log_long bits new blank fits whole

    pub log_bitmap : (k : ℕ) → k < bitmap_sectors (length new)
        → sector (log_of bits new base) (1 + k) ≡ sector (bitmap_text bits (length new)) k
    log_bitmap k below = like_blank k ∙ fitting.log_bitmap bits new blank fits whole k below

    pub log_marked : (i : ℕ) → 512 * i < length new → bits i ≡ true
        → sector (log_of bits new base) (first_dirty (length new) + rank bits i) ≡ sector new i
    log_marked i small on =
        let place : first_dirty (length new) + rank bits i ≡ 1 + (bitmap_sectors (length new) + rank bits i) =
        omega arith in
        ap (sector (log_of bits new base)) place
        ∙ like_blank (bitmap_sectors (length new) + rank bits i)
        ∙ ap (sector (log_of bits new blank)) (sym place)
        ∙ fitting.log_marked bits new blank fits whole i small on
