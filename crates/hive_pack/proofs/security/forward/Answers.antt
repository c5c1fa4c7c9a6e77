use Rattle.std.proofs.Common.{◌≡◌, ◌⊎◌, inl, inr, ◌<◌, ◌≤◌, ℕ, List, get_or, length, sym, ◌∙◌, arith, Ok, Err}
use Rattle.std.proofs.lemmas.Bool.{cases_lt}
use Rattle.std.proofs.lemmas.List.Sorted.{searched}
use Rattle.hive_model.specs.Packed.{first_or, forward}
use Rattle.hive_pack.proofs.Turning.{behind_none, head_first, weakly, next_is, next_of_last}
use Rattle.hive_pack.proofs.security.forward.Goals as goal
use Rattle.hive_pack.proofs.security.forward.Goals.{In-Ok}

none_is : (xs : List ℕ) (at j : ℕ) → 0 < length xs → ((k : ℕ) → k < j → get_or xs k 0 < at)
    → ((k : ℕ) → j ≤ k → k < length xs → at < get_or xs k 0) → get_or xs 0 0 ≡ forward xs at
none_is xs at j some low high =
    sym (behind_none (first_or 0 xs) xs at (λ k lt e. go k lt e (cases_lt k j)) ∙ head_first xs some)
  where
    go : (k : ℕ) → k < length xs → get_or xs k 0 ≡ at → (k < j) ⊎ (j ≤ k) → ⊥
    go k lt e (inl l) = omega (arith, low k l, e)
    go k lt e (inr l) = omega (arith, high k l lt, e)

found : (c : In-Ok) → (c.in-Ok.i < length c.args.ring.now) × (get_or c.args.ring.now c.in-Ok.i 0 ≡ c.args.at)
found c = searched c.args.ring.now c.args.at (Ok c.in-Ok.i) c.in-Ok.ensures.position (weakly c.args.ring.now c.requires)

pub returns-then-i-ring : goal.returns-then-i-ring
returns-then-i-ring c =
    let f = found (goal.at.returns-then-i-ring c).In-Ok in
    next_is c.args.ring.now c.args.at c.in-Ok.i c.requires f.0 f.1 (omega arith)

pub returns-else-i-ring : goal.returns-else-i-ring
returns-else-i-ring c =
    let f = found (goal.at.returns-else-i-ring c).In-Ok in
    next_of_last c.args.ring.now c.args.at c.in-Ok.i c.requires f.0 f.1 (omega arith)

pub returns-in-Err : goal.returns-in-Err
returns-in-Err c =
    let xs = c.args.ring.now in
    let f = searched xs c.args.at (Err c.in-Err.field-0) c.in-Err.ensures.position (weakly xs c.requires) in
    none_is xs c.args.at c.in-Err.field-0 (omega arith) f.1 f.2
