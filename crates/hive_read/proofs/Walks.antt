-- Walks over lists of checks, and over the checks of a form.
use Rattle.std.proofs.Common.{◌≡◌, ℕ, Bool, true, false, List, [], ◌∷◌, ◌++◌, Result, Ok, Err, refl, ap, ◌∙◌}
use Rattle.std.proofs.Common.{eqb, ◌-◌, ◌<◌, ◌≤◌, length, get_or, take, drop, arith}
use Rattle.std.specs.Prelude.{IfOk, IsErrAnd}
use Rattle.std.proofs.Math.Seq.{take-length}
use Rattle.std.proofs.lemmas.Bool.{eqb-true}
use Rattle.nt_bytes.specs.declared.fault.HiveFaultKind.{HiveFaultKind}
use Rattle.nt_bytes.specs.declared.fault.HiveFault.{HiveFault}
use Rattle.nt_bytes.specs.declared.fault.ReadStop.{ReadStop}
use Rattle.nt_bytes.specs.declared.fault.ReadStop.TheVariants as stops
use Rattle.nt_bytes.specs.Reading.{◌>>=◌}
use Rattle.hive_model.specs.Bins.{Cells}
use Rattle.hive_model.specs.Walk.{Check, below_of}
use Rattle.hive_read.specs.Walked.{Seen, check, walk, Stops, Steps}

pub not-same : (a b : ℕ) → (a ≡ b → ⊥) → eqb a b ≡ false
not-same a b n = go (eqb a b) refl
  where
    go : (t : Bool) → eqb a b ≡ t → t ≡ false
    go true e = absurd (n (eqb-true a b e))
    go false e = refl

pub walk-append : (cells : Cells) (seen : Seen) (a b : List Check)
    → walk cells seen (a ++ b) ≡ (walk cells seen a >>= λ after. walk cells after b)
walk-append cells seen [] b = refl
walk-append cells seen (c ∷ cs) b = go (check cells seen c) (λ after. walk-append cells after cs b)
  where
    go : (r : Result Seen HiveFault)
        → ((after : Seen) → walk cells after (cs ++ b) ≡ (walk cells after cs >>= λ next. walk cells next b))
        → (r >>= λ after. walk cells after (cs ++ b))
        ≡ ((r >>= λ after. walk cells after cs) >>= λ after. walk cells after b)
    go (Ok after) h = h after
    go (Err f) h = refl

-- the walk goes on after checks that pass
pub walk-on : (cells : Cells) (seen after : Seen) (a b : List Check) → walk cells seen a ≡ Ok after
    → walk cells seen (a ++ b) ≡ walk cells after b
walk-on cells seen after a b e = walk-append cells seen a b ∙ ap (λ r. r >>= λ next. walk cells next b) e

-- it ends at checks of which one fails
pub walk-off : (cells : Cells) (seen : Seen) (a b : List Check) (f : HiveFault) → walk cells seen a ≡ Err f
    → walk cells seen (a ++ b) ≡ Err f
walk-off cells seen a b f e = walk-append cells seen a b ∙ ap (λ r. r >>= λ next. walk cells next b) e

-- it goes on below what was read
pub walk-below : {F : Type 0} (cells : Cells) (seen after : Seen) (a : List Check) (read : Result F HiveFaultKind)
    (below : F → List Check) (x : F)
    → walk cells seen a ≡ Ok after → read ≡ Ok x
    → walk cells seen (a ++ below_of read below) ≡ walk cells after (below x)
walk-below cells seen after a read below x e r =
    walk-on cells seen after a (below_of read below) e ∙ ap (λ q. walk cells after (below_of q below)) r

pub stops-on : (e : ReadStop) (a b : Result Seen HiveFault) → ((f : HiveFault) → a ≡ Err f → b ≡ Err f) → Stops a e
    → Stops b e
stops-on stops.Memory a b h s = tt
stops-on (stops.Fault f) a b h s = h f s

-- what a call answers that stops where one in it did
pub stopped : {X : Type 0} (r : Result X ReadStop) (e : ReadStop) → IsErrAnd r (λ made. made ≡ e) → r ≡ Err e
stopped (Ok x) e err = absurd err
stopped (Err y) e err = ap (λ (z : ReadStop). Err z) err

-- what a step says of checks that reach the same
pub steps-same : {X : Type 0} (P Q : X → Type 0) (a b : Result Seen HiveFault) (new : Seen) (r : Result X ReadStop)
    → b ≡ a → ((x : X) → P x → Q x)
    → Steps P a new r → Steps Q b new r
steps-same P Q a b new (Ok x) e h s = (e ∙ s.0, h x s.1)
steps-same P Q a b new (Err stops.Memory) e h s = tt
steps-same P Q a b new (Err (stops.Fault f)) e h s = e ∙ s

-- ---- the front of a list

pub none-left : (xs : List ℕ) → length xs < 1 → xs ≡ []
none-left [] h = refl
none-left (x ∷ xs) h = absurd (omega arith)

pub first-and-rest : (xs : List ℕ) → 1 ≤ length xs → xs ≡ get_or xs 0 0 ∷ take (length xs - 1) (drop 1 xs)
first-and-rest [] h = absurd (omega arith)
first-and-rest (x ∷ xs) h =
    let n : length (x ∷ xs) - 1 ≡ length xs = omega arith in
    rw (n, take-length xs) refl

-- what a step says of checks that reach the same, with what else is known of its answer
pub steps-with : {X : Type 0} (P Q R : X → Type 0) (a b : Result Seen HiveFault) (new : Seen) (r : Result X ReadStop)
    → b ≡ a → ((x : X) → P x → R x → Q x)
    → IfOk r R → Steps P a new r → Steps Q b new r
steps-with P Q R a b new (Ok x) e h k s = (e ∙ s.0, h x s.1 k)
steps-with P Q R a b new (Err stops.Memory) e h k s = tt
steps-with P Q R a b new (Err (stops.Fault f)) e h k s = e ∙ s
