use Rattle.std.proofs.Common.{◌≡◌, ◌⊎◌, inl, inr, ◌<◌, ◌≤◌, ℕ, ◌-◌, List, get_or, length, sym, ◌∙◌, arith, Ok, Err}
use Rattle.std.proofs.lemmas.Bool.{cases_lt}
use Rattle.std.proofs.lemmas.List.Sorted.{searched}
use Rattle.hive_model.specs.Packed.{last_or, backward}
use Rattle.hive_pack.proofs.Turning.{ahead_none, last_at, weakly, before_is, before_first}
use Rattle.hive_pack.proofs.security.backward.Goals as goal
use Rattle.hive_pack.proofs.security.backward.Goals.{In-Ok}

none_is : (xs : List ℕ) (at j : ℕ) → 0 < length xs → ((k : ℕ) → k < j → get_or xs k 0 < at)
    → ((k : ℕ) → j ≤ k → k < length xs → at < get_or xs k 0) → get_or xs (length xs - 1) 0 ≡ backward xs at
none_is xs at j some low high =
    sym (ahead_none (last_or 0 xs) xs at (λ k lt e. go k lt e (cases_lt k j)) ∙ same ∙ last_at 0 xs some)
  where
    same : last_or (last_or 0 xs) xs ≡ last_or 0 xs
    same = last_at (last_or 0 xs) xs some ∙ sym (last_at 0 xs some)

    go : (k : ℕ) → k < length xs → get_or xs k 0 ≡ at → (k < j) ⊎ (j ≤ k) → ⊥
    go k lt e (inl l) = omega (arith, low k l, e)
    go k lt e (inr l) = omega (arith, high k l lt, e)

found : (c : In-Ok) → (c.in-Ok.i < length c.args.ring.now) × (get_or c.args.ring.now c.in-Ok.i 0 ≡ c.args.at)
found c = searched c.args.ring.now c.args.at (Ok c.in-Ok.i) c.in-Ok.ensures.position (weakly c.args.ring.now c.requires)

pub returns-then-i-gt0 : goal.returns-then-i-gt0
returns-then-i-gt0 c =
    let f = found (goal.at.returns-then-i-gt0 c).In-Ok in
    before_is c.args.ring.now c.args.at c.in-Ok.i c.requires f.0 f.1 (omega arith)

pub returns-else-i-gt0 : goal.returns-else-i-gt0
returns-else-i-gt0 c =
    let f = found (goal.at.returns-else-i-gt0 c).In-Ok in
    before_first c.args.ring.now c.args.at c.in-Ok.i (omega arith) f.1 (omega arith)

pub returns-in-Err : goal.returns-in-Err
returns-in-Err c =
    let xs = c.args.ring.now in
    let f = searched xs c.args.at (Err c.in-Err.field-0) c.in-Err.ensures.position (weakly xs c.requires) in
    none_is xs c.args.at c.in-Err.field-0 (omega arith) f.1 f.2
