-- The sectors that are listed are those that are written.
use Rattle.std.proofs.Common.{◌≡◌, ◌+◌, ◌/◌, ℕ, zero, suc, Bool, true, false, cond, List, [], ◌∷◌, ◌++◌, length, map, filter, refl, ◌∙◌, ap, arith}
use Rattle.std.specs.List.{range_with_len}
use Rattle.hive_model.specs.Asked.{log_at, primary_at, bin_at}
use Rattle.hive_model.specs.Base.{Base}
use Rattle.hive_model.specs.Image.{Address, Image, Write}
use Rattle.hive_model.specs.Log.{log_of}
use Rattle.hive_model.specs.Recovery.{sector, rank, bitmap_sectors}
use Rattle.hive_log.proofs.Ranks.{rank_on, rank_off}
use Rattle.hive_commit.specs.Calls.{log_writes, bins_writes}
use Rattle.hive_commit.specs.Cuts.{IsChange}
use Rattle.hive_commit.specs.Stages.{closed_of}
use Rattle.sweep_text.specs.sweep_text.Logged.{listed}
use Rattle.sweep_text.specs.sweep_text.Stages.{recovery_stages, commit_stages}
use Rattle.sweep_laws.specs.Leaving.{recovery_writes, commit_writes}
use Rattle.sweep_laws.specs.Listing.{listed_in, written_in}
use Rattle.sweep_laws.proofs.CutLemmas.{log_size}

-- ---- bins data

module _ (bits : ℕ → Bool) where
  listed_one : (a n : ℕ) (on : Bool) → bits a ≡ on → listed bits a (suc n) ≡ cond on ((8 + a) ∷ []) [] ++ listed bits (a + 1) n
  listed_one a n on is = ap (λ b. cond b ((8 + a) ∷ []) [] ++ listed bits (a + 1) n) is

  ranked_one : (a n : ℕ) (on : Bool) → bits a ≡ on → length (listed bits (a + 1) n) + rank bits (a + 1) ≡ rank bits (a + 1 + n)
      → length (listed bits a (suc n)) + rank bits a ≡ rank bits (a + suc n)
  ranked_one a n true is more =
      let place : a + 1 + n ≡ a + suc n = omega arith in
      omega (arith, ap length (listed_one a n true is), more, rank_on bits a is, ap (rank bits) place)
  ranked_one a n false is more =
      let place : a + 1 + n ≡ a + suc n = omega arith in
      omega (arith, ap length (listed_one a n false is), more, rank_off bits a is, ap (rank bits) place)

  -- one for each bit that is on
  listed_ranked : (a n : ℕ) → length (listed bits a n) + rank bits a ≡ rank bits (a + n)
  listed_ranked a zero = let same : a ≡ a + 0 = omega arith in omega (arith, ap (rank bits) same)
  listed_ranked a (suc n) = ranked_one a n (bits a) refl (listed_ranked (a + 1) n)

  pub listed_count : (n : ℕ) → length (listed bits 0 n) ≡ rank bits n
  listed_count n = let place : 0 + n ≡ n = omega arith in omega (arith, listed_ranked 0 n, ap (rank bits) place)

  module _ (bins : List ℕ) where
    abbrev bin_write : ℕ → Write
    bin_write i = (bin_at i, sector bins i)

    abbrev written_from : ℕ → ℕ → List Address
    written_from a n = map (λ (w : Write). w.0) (map bin_write (filter bits (range_with_len a n)))

    bins_one : (a n : ℕ) (on : Bool) → map primary_at (listed bits (a + 1) n) ≡ written_from (a + 1) n
        → map primary_at (cond on ((8 + a) ∷ []) [] ++ listed bits (a + 1) n)
        ≡ map (λ (w : Write). w.0)
        (map bin_write (cond on (a ∷ filter bits (range_with_len (a + 1) n)) (filter bits (range_with_len (a + 1) n))))
    bins_one a n true more = ap (λ l. bin_at a ∷ l) more
    bins_one a n false more = more

    bins_listed : (a n : ℕ) → map primary_at (listed bits a n) ≡ written_from a n
    bins_listed a zero = refl
    bins_listed a (suc n) = bins_one a n (bits a) (bins_listed (a + 1) n)

    pub all_listed : map primary_at (listed bits 0 (length bins / 512)) ≡ map (λ (w : Write). w.0) (bins_writes bits bins)
    all_listed = bins_listed 0 (length bins / 512)

-- ---- the log

log_listed : (log : List ℕ) (numbers : List ℕ)
    → map log_at numbers ≡ map (λ (w : Write). w.0) (map (λ m. (log_at m, sector log m)) numbers)
log_listed log [] = refl
log_listed log (n ∷ more) = ap (λ l. log_at n ∷ l) (log_listed log more)

-- ---- all

pub recovery_listed : (closed : Base) (bits : ℕ → Bool) (bins : List ℕ)
    → listed_in (recovery_stages (listed bits 0 (length bins / 512))) ≡ written_in (recovery_writes closed bits bins)
recovery_listed closed bits bins = ap (λ (l : List Address). l ∷ (primary_at 0 ∷ []) ∷ []) (all_listed bits bins)

pub commit_listed : (before : Image) (base : Base) (old new : List ℕ) (root : ℕ) (bits : ℕ → Bool)
    → IsChange before base old new root bits
    → listed_in (commit_stages (bitmap_sectors (length new)) (listed bits 0 (length new / 512)))
    ≡ written_in (commit_writes base bits new root)
commit_listed before base old new root bits is =
    let log = log_of bits new (closed_of base new root) in
    let count : 1 + bitmap_sectors (length new) + length (listed bits 0 (length new / 512)) ≡ length log / 512 =
    omega (arith, log_size is, listed_count bits (length new / 512)) in
    let first : map log_at (range_with_len 0 (1 + bitmap_sectors (length new) + length (listed bits 0 (length new / 512))))
    ≡ map (λ (w : Write). w.0) (log_writes log) =
    ap (λ n. map log_at (range_with_len 0 n)) count ∙ log_listed log (range_with_len 0 (length log / 512)) in
    λ i. first i ∷ (primary_at 0 ∷ []) ∷ all_listed bits new i ∷ (primary_at 0 ∷ []) ∷ []
