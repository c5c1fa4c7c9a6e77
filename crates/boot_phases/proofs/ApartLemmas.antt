-- Ranks of places that rise are of different places in any order.
use Rattle.std.proofs.Common.{◌≡◌, ℕ, zero, suc, ◌<◌, Bool, true, false, cond, nat_eq, List, [], ◌∷◌, length, get_or, arith}
use Rattle.std.specs.List.{AllByRecursion}
use Rattle.std.proofs.lemmas.Bool.Decides.{nat_tests}
use Rattle.std.proofs.lemmas.List.Elements.{All-from_recursion}
use Rattle.hive_model.specs.Tree.{Tree}
use Rattle.start_model.specs.Entries.{Phase}
use Rattle.start_model.specs.Order.{Rank, is_before, placed, ordered_of, ranks_of}
use Rattle.boot_phases.specs.boot_phases.Apart.{StandApart}
use Rattle.boot_phases.proofs.PlaceLemmas.{Rises}
use Rattle.boot_phases.proofs.RisingLemmas.{ranks_rise}

-- each is of another place than this one
abbrev Off : Rank → List Rank → Type 0
Off r rs = AllByRecursion (λ (s : Rank). nat_eq r.place s.place ≡ false) rs

-- each is of another place than all later ones
abbrev Apart : List Rank → Type 0
Apart [] = Unit {0}
Apart (r ∷ rs) = Off r rs × Apart rs

swapped : (a b : ℕ) → nat_eq a b ≡ false → nat_eq b a ≡ false
swapped a b h = grind (arith, nat_tests, h)

off_placed : (z r : Rank) (rs : List Rank) → nat_eq z.place r.place ≡ false → Off z rs → Off z (placed r rs)
off_placed z r [] h hs = (h, tt)
off_placed z r (s ∷ rs) h hs = by_case (is_before r s) (off_placed z r rs h hs.1)
  where
    by_case : (b : Bool) → Off z (placed r rs) → Off z (cond b (r ∷ s ∷ rs) (s ∷ placed r rs))
    by_case true deep = (h, hs)
    by_case false deep = (hs.0, deep)

off_ordered : (z : Rank) (rs : List Rank) → Off z rs → Off z (ordered_of rs)
off_ordered z [] h = tt
off_ordered z (r ∷ rs) h = off_placed z r (ordered_of rs) h.0 (off_ordered z rs h.1)

apart_placed : (r : Rank) (rs : List Rank) → Off r rs → Apart rs → Apart (placed r rs)
apart_placed r [] h hs = (tt, tt)
apart_placed r (s ∷ rs) h hs = by_case (is_before r s) (apart_placed r rs h.1 hs.1)
  where
    by_case : (b : Bool) → Apart (placed r rs) → Apart (cond b (r ∷ s ∷ rs) (s ∷ placed r rs))
    by_case true deep = (h, hs)
    by_case false deep = (off_placed s r rs (swapped r.place s.place h.0) hs.0, deep)

lower_off : (r : Rank) (rs : List Rank) → AllByRecursion (λ (s : Rank). r.place < s.place) rs → Off r rs
lower_off r [] h = tt
lower_off r (s ∷ rs) h = (differ r.place s.place h.0, lower_off r rs h.1)
  where
    differ : (a b : ℕ) → a < b → nat_eq a b ≡ false
    differ a b lt = grind (arith, nat_tests, lt)

apart_ordered : (rs : List Rank) → Rises rs → Apart (ordered_of rs)
apart_ordered [] h = tt
apart_ordered (r ∷ rs) h = apart_placed r (ordered_of rs) (off_ordered r rs (lower_off r rs h.0)) (apart_ordered rs h.1)

pair_at : (rs : List Rank) → Apart rs → (i j : ℕ) (d : Rank) → i < j → j < length rs
    → nat_eq (get_or rs i d).place (get_or rs j d).place ≡ false
pair_at [] h i j d lt below = absurd (omega arith)
pair_at (r ∷ rs) h zero zero d lt below = absurd (omega arith)
pair_at (r ∷ rs) h zero (suc j) d lt below =
    All-from_recursion (λ (s : Rank). nat_eq r.place s.place ≡ false) rs h.0 j d (omega arith)
pair_at (r ∷ rs) h (suc i) zero d lt below = absurd (omega arith)
pair_at (r ∷ rs) h (suc i) (suc j) d lt below = pair_at rs h.1 i j d (omega arith) (omega arith)

-- no two ranks of a plan are of one place
pub plan_apart : (set : Tree) (phase : Phase) (tried : List (List ℕ))
    → StandApart (ordered_of (ranks_of set phase tried))
plan_apart set phase tried =
    pair_at (ordered_of (ranks_of set phase tried))
    (apart_ordered (ranks_of set phase tried) (ranks_rise set phase tried))
