-- The places of security cells rise.
use Rattle.std.proofs.Common.{◌≡◌, ◌≤◌, ◌<◌, ℕ, zero, suc, ◌+◌, Bool, true, false, List, [], ◌∷◌, ◌++◌, length, get_or, refl, arith}
use Rattle.std.specs.Prelude.{if◌then◌else◌}
use Rattle.nt_bytes.specs.declared.version.HiveVersion.{HiveVersion}
use Rattle.hive_model.specs.Tree.{Tree, Trees, key, none, more}
use Rattle.hive_model.specs.Size.{cell, has_own, security_size, count, size, size_of_all}
use Rattle.hive_model.specs.Lists.{AreOffsets}
use Rattle.hive_model.specs.Packed.{own_place, descriptor_place, children_place, ring, ring_of_all}
use Rattle.hive_pack.specs.Writes.{IsRising}

-- rising numbers from lo to below hi
abbrev Rises : ℕ → List ℕ → ℕ → Type 0
Rises lo [] hi = lo ≤ hi
Rises lo (x ∷ xs) hi = (lo ≤ x) × Rises (x + 1) xs hi

earlier : (lo lo' : ℕ) (xs : List ℕ) (hi : ℕ) → lo ≤ lo' → Rises lo' xs hi → Rises lo xs hi
earlier lo lo' [] hi l r = omega arith
earlier lo lo' (x ∷ xs) hi l r = (omega (arith, r.0), r.1)

joined : (lo : ℕ) (a : List ℕ) (mid : ℕ) (b : List ℕ) (hi : ℕ) → Rises lo a mid → Rises mid b hi → Rises lo (a ++ b) hi
joined lo [] mid b hi r q = earlier lo mid b hi r q
joined lo (x ∷ xs) mid b hi r q = (r.0, joined (x + 1) xs mid b hi r.1 q)

at_least : (lo : ℕ) (xs : List ℕ) (hi k : ℕ) → Rises lo xs hi → k < length xs → lo ≤ get_or xs k 0
at_least lo [] hi k r lt = absurd (omega arith)
at_least lo (x ∷ xs) hi zero r lt = r.0
at_least lo (x ∷ xs) hi (suc k) r lt = omega (arith, at_least (x + 1) xs hi k r.1 (omega arith), r.0)

rising : (lo : ℕ) (xs : List ℕ) (hi : ℕ) → Rises lo xs hi → IsRising xs
rising lo [] hi r i j l lt = absurd (omega arith)
rising lo (x ∷ xs) hi r zero zero l lt = absurd (omega arith)
rising lo (x ∷ xs) hi r zero (suc j) l lt = omega (arith, at_least (x + 1) xs hi j r.1 (omega arith))
rising lo (x ∷ xs) hi r (suc i) zero l lt = absurd (omega arith)
rising lo (x ∷ xs) hi r (suc i) (suc j) l lt = rising (x + 1) xs hi r.1 i j (omega arith) (omega arith)

own_rises : (shared : List ℕ) (at : ℕ) (s : List ℕ) → Rises at (own_place shared at s) (at + security_size shared s)
own_rises shared at s = go (has_own shared s)
  where
    go : (b : Bool) → Rises at (if b then at ∷ [] else []) (at + (if b then cell (20 + length s) else 0))
    go true = (omega arith, omega arith)
    go false = omega arith

mutual
  tree_rises : (version : HiveVersion) (shared : List ℕ) (at hi : ℕ) (t : Tree) → at + size version shared t ≡ hi
      → Rises at (ring version shared at t) hi
  tree_rises version shared at hi (key h ts) e =
      let p = descriptor_place at h in
      let first = children_place version shared at h (count ts) in
      let all = ring_of_all version h.security first ts in
      joined at (own_place shared p h.security) (p + security_size shared h.security) all hi
      (earlier at p (own_place shared p h.security) (p + security_size shared h.security) (omega arith)
      (own_rises shared p h.security))
      (earlier (p + security_size shared h.security) first all hi (omega arith)
      (trees_rise version h.security first hi ts (omega arith)))

  trees_rise : (version : HiveVersion) (shared : List ℕ) (at hi : ℕ) (ts : Trees)
      → at + size_of_all version shared ts ≡ hi
      → Rises at (ring_of_all version shared at ts) hi
  trees_rise version shared at hi none e = omega arith
  trees_rise version shared at hi (more t ts) e =
      let next = at + size version shared t in
      joined at (ring version shared at t) next (ring_of_all version shared next ts) hi
      (tree_rises version shared at next t refl) (trees_rise version shared next hi ts (omega arith))

pub ring_rises : (version : HiveVersion) (shared : List ℕ) (at : ℕ) (t : Tree) → IsRising (ring version shared at t)
ring_rises version shared at t =
    rising at (ring version shared at t) (at + size version shared t)
    (tree_rises version shared at (at + size version shared t) t refl)

rises_least : (lo : ℕ) (xs : List ℕ) (hi : ℕ) → Rises lo xs hi → lo ≤ hi
rises_least lo [] hi r = r
rises_least lo (x ∷ xs) hi r = omega (arith, r.0, rises_least (x + 1) xs hi r.1)

rises_fit : (lo : ℕ) (xs : List ℕ) (hi : ℕ) → Rises lo xs hi → hi ≤ 16777216 → AreOffsets xs
rises_fit lo [] hi r h = tt
rises_fit lo (x ∷ xs) hi r h = (omega (arith, rises_least (x + 1) xs hi r.1), rises_fit (x + 1) xs hi r.1 h)

pub ring_fits : (version : HiveVersion) (shared : List ℕ) (at : ℕ) (t : Tree) → at + size version shared t ≤ 16777216
    → AreOffsets (ring version shared at t)
ring_fits version shared at t h =
    rises_fit at (ring version shared at t) (at + size version shared t)
    (tree_rises version shared at (at + size version shared t) t refl) h
