-- Uses that come before others, and the segments of big data.
use Rattle.std.proofs.Common.{◌≡◌, ℕ, ◌-◌, ◌<◌, ◌≤◌, List, [], ◌∷◌, ◌++◌, length, take, drop, get_or, Result, Ok, Err, refl, sym, ap, ◌∙◌, arith}
use Rattle.std.proofs.Math.Seq.{take-length}
use Rattle.std.proofs.lemmas.List.{take-append-le, take-take, length-take}
use Rattle.salvage_walk.specs.declared.claims.Claim.{Claim}
use Rattle.nt_bytes.specs.declared.fault.ReadStop.{ReadStop}
use Rattle.nt_bytes.specs.declared.fault.ReadStop.TheVariants as stops
use Rattle.nt_bytes.specs.declared.fault.HiveFaultKind.{HiveFaultKind}
use Rattle.hive_model.specs.Bins.{with_place}
use Rattle.salvage_walk.specs.Walked.{Before, Gains, Tries}

pub none-left : (xs : List ℕ) → length xs < 1 → xs ≡ []
none-left [] h = refl
none-left (x ∷ xs) h = absurd (omega arith)

pub first-and-rest : (xs : List ℕ) → 1 ≤ length xs → xs ≡ get_or xs 0 0 ∷ take (length xs - 1) (drop 1 xs)
first-and-rest [] h = absurd (omega arith)
first-and-rest (x ∷ xs) h =
    let n : length (x ∷ xs) - 1 ≡ length xs = omega arith in
    rw (n, take-length xs) refl

pub before-self : (cs : List Claim) → Before cs cs
unfolding Before
before-self cs = take-length cs

pub before-push : (cs new : List Claim) (c : Claim) → new ≡ cs ++ c ∷ [] → Before cs new
unfolding Before
before-push cs new c e = rw (e, take-append-le (length cs) cs (c ∷ []) (omega arith)) (take-length cs)

pub before-after : (a b c : List Claim) → Before a b → Before b c → Before a c
unfolding Before
before-after a b c e d =
    let k : length a ≤ length b = omega (arith, length-take (length a) b, ap length e) in
    sym (take-take (length a) (length b) c k) ∙ ap (take (length a)) d ∙ e

pub before-back : (a b : List Claim) → Before a b → take (length a) b ≡ a
unfolding Before
before-back a b e = e

pub ruleset befores = (before-self, before-push, before-after)

pub ruleset backs = (before-back)

-- ---- segments

-- ---- a step of several cells that failed

pub takes-tries : {X F : Type 0} (v : X → F) (a b : List Claim) (at : ℕ) (r : Result X ReadStop) (g : Result (F × List Claim) HiveFaultKind)
    → Gains v at a b r g → Tries v a b r (with_place at g)
takes-tries v a b at (Ok x) g t = (ap (with_place at) t.0, t.1)
takes-tries v a b at (Err stops.Memory) g t = tt
takes-tries {X} {F} v a b at (Err (stops.Fault f)) g t =
    (ap (with_place at) t.0 ∙ ap (λ n. Err (record { kind = f.kind; at = n })) (sym t.1), rw t.2 (before-self a))
