-- Checks that find nothing, whatever was used before.
use Rattle.std.proofs.Common.{◌≡◌, ℕ, Bool, true, false, cond, List, [], ◌∷◌, ◌++◌, Option, Some, None, Result, Ok, Err, refl, sym, ap, subst}
use Rattle.std.specs.List.{list_any}
use Rattle.nt_bytes.specs.declared.fault.HiveFaultKind.{HiveFaultKind}
use Rattle.nt_bytes.specs.declared.fault.HiveFaultKind.TheVariants.{Shared}
use Rattle.nt_bytes.specs.declared.fault.HiveFault.{HiveFault}
use Rattle.nt_bytes.specs.Reading.{◌>>=◌}
use Rattle.hive_model.specs.Bins.{Cells, or_else}
use Rattle.hive_model.specs.Walk.{Check, uses, tests, reading, found, below_of, use_as, failing, clash, at_place, first_among}
use Rattle.hive_model.proofs.UsedOnce.{OnceBehind}

-- a check passes but for earlier uses of its cell
abbrev pub Passes : Cells → Check → Type 0
Passes cells (uses at security) = (payload : List ℕ) × (cells.payload at ≡ Ok payload)
Passes cells (tests at kind) = kind ≡ None

abbrev pub AllPass : Cells → List Check → Type 0
AllPass cells [] = Unit {0}
AllPass cells (c ∷ cs) = Passes cells c × AllPass cells cs

pub pass-append : (cells : Cells) (a b : List Check) → AllPass cells a → AllPass cells b → AllPass cells (a ++ b)
pass-append cells [] b p q = q
pass-append cells (c ∷ cs) b p q = (p.0, pass-append cells cs b p.1 q)

pub pass-split : (cells : Cells) (a b : List Check) → AllPass cells (a ++ b) → AllPass cells a × AllPass cells b
pass-split cells [] b p = (tt, p)
pass-split cells (c ∷ cs) b p = let h = pass-split cells cs b p.1 in ((p.0, h.0), h.1)

-- no check fails: each passes, and no cell is shared
pub passing : (cells : Cells) (before cs : List Check) → first_among cells before cs ≡ None
    → AllPass cells cs × OnceBehind before cs
passing cells before [] e = (tt, tt)
passing cells before (tests at None ∷ cs) e = let h = passing cells (before ++ tests at None ∷ []) cs e in
    ((refl, h.0), h.1)
passing cells before (tests at (Some k) ∷ cs) e = absurd cc
passing cells before (uses at s ∷ cs) e =
    let c = parts (cells.payload at) (list_any (clash at s) before) (first_among cells (before ++ uses at s ∷ []) cs)
    e in
    let h = passing cells (before ++ uses at s ∷ []) cs c.2 in
    ((c.0, h.0), (c.1, h.1))
  where
    parts : (p : Result (List ℕ) HiveFaultKind) (b : Bool) (rest : Option HiveFault)
        → or_else (or_else (at_place at (found p)) (at_place at (failing b Shared))) rest ≡ None
        → ((payload : List ℕ) × (p ≡ Ok payload)) × (b ≡ false) × (rest ≡ None)
    parts (Err k) b rest e = absurd cc
    parts (Ok p) true rest e = absurd cc
    parts (Ok p) false rest e = ((p, refl), refl, e)

-- the other way round
pub none-fails : (cells : Cells) (before cs : List Check) → AllPass cells cs → OnceBehind before cs
    → first_among cells before cs ≡ None
none-fails cells before [] p o = refl
none-fails cells before (uses at s ∷ cs) p o = rw (p.0.1, o.0) (none-fails cells (before ++ uses at s ∷ []) cs p.1 o.1)
none-fails cells before (tests at None ∷ cs) p o = none-fails cells (before ++ tests at None ∷ []) cs p.1 o
none-fails cells before (tests at (Some k) ∷ cs) p o = absurd cc

-- ---- forms

payload-read : {F : Type 0} (form : List ℕ → Result F HiveFaultKind) (r : Result (List ℕ) HiveFaultKind) (x : F)
    → (r >>= form) ≡ Ok x → (payload : List ℕ) × (r ≡ Ok payload)
payload-read form (Ok p) x e = (p, refl)
payload-read form (Err k) x e = absurd cc

-- a form that stands passes, and where it passes one stands
pub use-passes : {F : Type 0} (security : Bool) (form : List ℕ
    → Result F HiveFaultKind) (cells : Cells) (at : ℕ) (x : F)
    → reading form cells at ≡ Ok x → AllPass cells (use_as security form cells at)
use-passes security form cells at x r = (payload-read form (cells.payload at) x r, (ap found r, tt))

read-of : {F : Type 0} (r : Result F HiveFaultKind) → found r ≡ None → (x : F) × (r ≡ Ok x)
read-of (Ok x) e = (x, refl)
read-of (Err k) e = absurd cc

pub use-made : {F : Type 0} (security : Bool) (form : List ℕ → Result F HiveFaultKind) (cells : Cells) (at : ℕ)
    → AllPass cells (use_as security form cells at) → (x : F) × (reading form cells at ≡ Ok x)
use-made security form cells at p = read-of (reading form cells at) p.1.0

-- what is below passes where what was read is known
pub below-made : {F : Type 0} (cells : Cells) (read : Result F HiveFaultKind) (below : F → List Check) (x : F)
    → read ≡ Ok x
    → AllPass cells (below_of read below) → AllPass cells (below x)
below-made cells read below x r p = subst (λ q. AllPass cells (below_of q below)) r p

pub below-passes : {F : Type 0} (cells : Cells) (read : Result F HiveFaultKind) (below : F → List Check) (x : F)
    → read ≡ Ok x → AllPass cells (below x) → AllPass cells (below_of read below)
below-passes cells read below x r p = subst (λ q. AllPass cells (below_of q below)) (sym r) p

pub not-failing : (b : Bool) (k : HiveFaultKind) → failing b k ≡ None → b ≡ false
not-failing true k e = absurd cc
not-failing false k e = refl

-- a form that is looked for only where a test says no
pub choice-made : {F : Type 0} (b security : Bool) (form : List ℕ → Result F HiveFaultKind) (cells : Cells) (at : ℕ)
    (other : F) → AllPass cells (cond b [] (use_as security form cells at))
    → (x : F) × (cond b (Ok other) (reading form cells at) ≡ Ok x)
choice-made true security form cells at other p = (other, refl)
choice-made false security form cells at other p = use-made security form cells at p

-- it passes where one or the other stands
pub choice-passes : {F : Type 0} (b security : Bool) (form : List ℕ → Result F HiveFaultKind) (cells : Cells) (at : ℕ)
    (other x : F) → cond b (Ok other) (reading form cells at) ≡ Ok x
    → AllPass cells (cond b [] (use_as security form cells at))
choice-passes true security form cells at other x r = tt
choice-passes false security form cells at other x r = use-passes security form cells at x r
