-- Lists in packed form use each of their cells once, and these lie in the run.
use Rattle.std.proofs.Common.{◌≡◌, ◌≤◌, ◌<◌, ◌⊎◌, inl, inr, ℕ, zero, suc, ◌+◌, true, List, [], ◌∷◌, length, get_or, refl, sym, arith}
use Rattle.std.specs.List.{Contains}
use Rattle.hive_model.specs.Size.{list_size}
use Rattle.hive_model.specs.Bins.{Cells}
use Rattle.hive_model.specs.Lists.{AreOffsets, AreHints}
use Rattle.hive_model.specs.Walk.{Check, uses, tests, entries_checks, AreUsedOnce, nowhere}
use Rattle.hive_model.specs.Packed.{list_cells}
use Rattle.hive_model.specs.Footprint.{used_in}
use Rattle.hive_model.proofs.UsedOnce.{used_once}
use Rattle.hive_pack.proofs.Found.{Has}
use Rattle.hive_pack.proofs.Beside.{Within}
use Rattle.hive_pack.proofs.Singly.{entries_good}

-- what is used within a range, and of no descriptor beside it
used_within : (lo hi : ℕ) (cs : List Check) → Within nowhere lo hi nowhere cs → (k : ℕ) → k < length (used_in cs)
    → (o : ℕ) → o ≡ get_or (used_in cs) k o → (lo ≤ o) × (o < hi)
used_within lo hi [] w k lt o e = absurd (omega arith)
used_within lo hi (tests at kind ∷ cs) w k lt o e = used_within lo hi cs w.1 k lt o e
used_within lo hi (uses at s ∷ cs) w zero lt o e = go w.0
  where
    go : ((lo ≤ at) × (at < hi)) ⊎ ((s ≡ true) × (at ≡ nowhere) × (nowhere < nowhere)) → (lo ≤ o) × (o < hi)
    go (inl p) = (omega (arith, p.0, e), omega (arith, p.1, e))
    go (inr p) = absurd (omega (arith, p.2))
used_within lo hi (uses at s ∷ cs) w (suc k) lt o e = used_within lo hi cs w.1 k (omega arith) o e

-- each cell that the lists use lies in the run
pub lists_inside : (cells : Cells) (at : ℕ) (os : List ℕ) (hs : List (List ℕ))
    → Has cells at (list_cells cells.version at os hs)
    → 0 < length os → length os ≡ length hs → AreOffsets os → AreHints hs → at + list_size (length os) ≤ 16777216
    → (o : ℕ) → Contains (used_in (entries_checks cells at)) o → (at ≤ o) × (o < at + list_size (length os))
lists_inside cells at os hs has some e f g le o i =
    let hi = at + list_size (length os) in
    let w = (entries_good cells at hi nowhere os hs has some e f g refl le (inr (omega (arith, le)))).within in
    used_within at hi (entries_checks cells at) w i.0 i.1 o (sym i.2)

-- and each is used once
pub lists_once : (cells : Cells) (at : ℕ) (os : List ℕ) (hs : List (List ℕ))
    → Has cells at (list_cells cells.version at os hs)
    → 0 < length os → length os ≡ length hs → AreOffsets os → AreHints hs → at + list_size (length os) ≤ 16777216
    → AreUsedOnce (entries_checks cells at)
lists_once cells at os hs has some e f g le =
    let hi = at + list_size (length os) in
    used_once (entries_checks cells at)
    ((entries_good cells at hi nowhere os hs has some e f g refl le (inr (omega (arith, le)))).once [] tt)
