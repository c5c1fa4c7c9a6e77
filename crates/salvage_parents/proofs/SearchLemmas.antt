-- The steps of the search.
use Rattle.std.proofs.Common.{◌≡◌, ℕ, zero, suc, ◌+◌, ◌-◌, ◌<◌, None, Some, refl, arith}
use Rattle.std.specs.Prelude.{slice_get}
use Rattle.salvage_bins.specs.Ground.{Ground}
use Rattle.salvage_walk.specs.declared.lines.Incomplete.{Incomplete}
use Rattle.salvage_parents.specs.Search.{Search, search_step, searched}

pub searched-end : (hive : Ground) (n place : ℕ) (s : Search) → n ≡ 0 → searched hive n place s ≡ s
unfolding searched
searched-end hive zero place s e = refl
searched-end hive (suc n) place s e = absurd (omega arith)

pub searched-all : (hive : Ground) (n place : ℕ) (s : Search) → slice_get s.notes place ≡ None → searched hive n place s ≡ s
unfolding searched
searched-all hive zero place s e = refl
searched-all hive (suc n) place s e = rw e refl

pub searched-on : (hive : Ground) (n place : ℕ) (s after : Search) (own : Incomplete) → 0 < n → slice_get s.notes place ≡ Some own
    → after ≡ search_step hive own s → searched hive (n - 1) (place + 1) after ≡ searched hive n place s
unfolding searched
searched-on hive zero place s after own h e d = absurd (omega arith)
searched-on hive (suc n) place s after own h e d = let m : suc n - 1 ≡ n = omega arith in rw (m, e, d) refl

pub ruleset search_steps = (searched-end, searched-all, searched-on)
