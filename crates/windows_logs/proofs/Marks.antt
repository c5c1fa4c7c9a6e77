-- The sectors of a log, in sequence.
use Rattle.std.proofs.Common.{◌≡◌, ◌<◌, ◌≤◌, ◌+◌, ◌-◌, ◌*◌, ◌/◌, ℕ, Bool, true, false, cond, List, ◌∷◌, length, refl, ap, ◌∙◌, add-one, arith}
use Rattle.hive_model.specs.Recovery.{sector, rank, first_dirty}
use Rattle.hive_log.proofs.Ranks.{rank_below}
use Rattle.windows_logs.specs.log_parts.Pages.{put_at, put_pages}
use Rattle.windows_logs.specs.dirt_log.Dirt.{bits_of, needed, marked_pages}

module _ (bits : ℕ → Bool) (log : List ℕ) (next i n m : ℕ) (more : n ≡ m + 1) where
  first : marked_pages bits log next i n
      ≡ cond (bits i) (record { place = 512 * i; bytes = sector log next } ∷ marked_pages bits log (next + 1) (i + 1) m)
      (marked_pages bits log next (i + 1) m)
  unfolding marked_pages
  first = rw (more, add-one) refl

  pub marked : (file : List ℕ) → bits i ≡ true → put_pages file (marked_pages bits log next i n)
      ≡ put_pages (put_at file (4096 + 512 * i) (sector log next)) (marked_pages bits log (next + 1) (i + 1) m)
  marked file on = ap (put_pages file) (first ∙ ap (λ b. cond b (record { place = 512 * i; bytes = sector log next } ∷ marked_pages bits log (next + 1) (i + 1) m)
      (marked_pages bits log next (i + 1) m)) on)

  pub unmarked : (file : List ℕ) → bits i ≡ false → put_pages file (marked_pages bits log next i n)
      ≡ put_pages file (marked_pages bits log next (i + 1) m)
  unmarked file off = ap (put_pages file) (first ∙ ap (λ b. cond b (record { place = 512 * i; bytes = sector log next } ∷ marked_pages bits log (next + 1) (i + 1) m)
      (marked_pages bits log next (i + 1) m)) off)

pub none_marked : (bits : ℕ → Bool) (log file : List ℕ) (next i n : ℕ) → n ≡ 0 → put_pages file (marked_pages bits log next i n) ≡ file
unfolding marked_pages
none_marked bits log file next i n none = rw none refl

-- the next sector whose bit is on is in the log
pub next_there : (log : List ℕ) (size next i : ℕ) → next ≡ first_dirty size + rank (bits_of log) i → i < size / 512 → bits_of log i ≡ true
    → 512 * needed log size ≤ length log → 512 * next + 512 ≤ length log
next_there log size next i at below on needs = omega (arith, rank_below (bits_of log) (size / 512) i below on)
