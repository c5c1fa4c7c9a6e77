-- A walk stops at the first fault of its checks.
use Rattle.std.proofs.Common.{◌≡◌, ℕ, Bool, true, false, not, cond, eqb, ◌&&◌, ◌||◌, List, [], ◌∷◌, ◌++◌, Option, Some, None, Result, Ok, Err, refl, sym, ap, ◌∙◌}
use Rattle.std.specs.List.{list_any}
use Rattle.std.specs.Ordering.{nat_cmp}
use Rattle.std.specs.Cmp.{nat_cmp_total, unsigned_ties}
use Rattle.std.proofs.lemmas.List.Folds.{list_any-append}
use Rattle.std.proofs.lemmas.Bool.{eqb-true}
use Rattle.std.specs.FinMap as map
use Rattle.nt_bytes.specs.declared.fault.HiveFaultKind.{HiveFaultKind}
use Rattle.nt_bytes.specs.declared.fault.HiveFaultKind.TheVariants.{Shared}
use Rattle.nt_bytes.specs.declared.fault.HiveFault.{HiveFault}
use Rattle.nt_bytes.specs.Reading.{◌>>=◌}
use Rattle.hive_model.specs.Bins.{Cells, with_place, or_else}
use Rattle.hive_model.specs.Walk.{Check, uses, tests, found, failing, clash, at_place, first_among}
use Rattle.hive_read.specs.Walked.{Seen, clashes, marked, walk}
use Rattle.std.proofs.Math.Bool.{or-false, or-true}

-- the used cells are those of these checks
abbrev pub Remembers : Seen → List Check → Type 0
Remembers seen before = (at : ℕ) (security : Bool)
    → clashes (map.get seen at) security ≡ list_any (clash at security) before

any-push : (at : ℕ) (s : Bool) (before : List Check) (c : Check)
    → list_any (clash at s) (before ++ c ∷ []) ≡ (list_any (clash at s) before || clash at s c)
any-push at s before c = list_any-append (clash at s) before (c ∷ [])
    ∙ ap (λ b. list_any (clash at s) before || b) (or-false (clash at s c))

pub remembers-none : Remembers map.empty []
remembers-none at s = ap (λ o. clashes o s) (map.get-empty nat_cmp at)

-- a test uses no cell, so the used cells stay
remembers-tests : (seen : Seen) (before : List Check) (at : ℕ) (k : Option HiveFaultKind) → Remembers seen before
    → Remembers seen (before ++ tests at k ∷ [])
remembers-tests seen before at k h q s =
    h q s ∙ sym (any-push q s before (tests at k) ∙ or-false (list_any (clash q s) before))

-- another use of the cell just used
again : (s t b : Bool) → (s ≡ t → b ≡ false) → clashes (Some s) t ≡ (b || not (t && s))
again true true b h = sym (or-false b ∙ h refl)
again true false b h = sym (or-true b)
again false true b h = sym (or-true b)
again false false b h = sym (or-true b)

-- a use that clashes with none before marks its cell as used
remembers-uses : (seen : Seen) (before : List Check) (at : ℕ) (s : Bool) → clashes (map.get seen at) s ≡ false
    → Remembers seen before → Remembers (map.insert seen at s) (before ++ uses at s ∷ [])
remembers-uses seen before at s fresh h q t =
    ap (λ o. clashes o t) (map.get-insert nat_cmp_total seen at s q
    ∙ ap (λ b. cond b (Some s) (map.get seen q)) (sym (unsigned_ties q at)))
    ∙ split (eqb q at) refl
    ∙ sym (any-push q t before (uses at s))
  where
    split : (b : Bool) → eqb q at ≡ b
        → clashes (cond b (Some s) (map.get seen q)) t ≡ (list_any (clash q t) before || (b && not (t && s)))
    split false e = h q t ∙ sym (or-false (list_any (clash q t) before))
    split true e =
        let same : q ≡ at = eqb-true q at e in
        again s t (list_any (clash q t) before)
        (λ k. sym (h q t) ∙ ap (λ (x : ℕ). clashes (map.get seen x) t) same
        ∙ ap (λ (u : Bool). clashes (map.get seen at) u) (sym k) ∙ fresh)

-- what a walk answers is what the first fault says
abbrev pub Agrees : Result Seen HiveFault → Option HiveFault → Type 0
Agrees (Ok after) first = first ≡ None
Agrees (Err f) first = first ≡ Some f

-- the walk over checks after others, by what the cells before it used
pub walk-first : (cells : Cells) (seen : Seen) (before cs : List Check) → Remembers seen before
    → Agrees (walk cells seen cs) (first_among cells before cs)
walk-first cells seen before [] h = refl
walk-first cells seen before (tests at None ∷ cs) h =
    walk-first cells seen (before ++ tests at None ∷ []) cs (remembers-tests seen before at None h)
walk-first cells seen before (tests at (Some k) ∷ cs) h = refl
walk-first cells seen before (uses at s ∷ cs) h =
    turn (cells.payload at) (clashes (map.get seen at) s) refl (sym (h at s))
    (λ fresh. walk-first cells (map.insert seen at s) (before ++ uses at s ∷ []) cs
    (remembers-uses seen before at s fresh h))
  where
    turn : (p : Result (List ℕ) HiveFaultKind) (b : Bool) → clashes (map.get seen at) s ≡ b
        → list_any (clash at s) before ≡ clashes (map.get seen at) s
        → (clashes (map.get seen at) s ≡ false
        → Agrees (walk cells (map.insert seen at s) cs) (first_among cells (before ++ uses at s ∷ []) cs))
        → Agrees ((with_place at p >>= marked seen at s) >>= λ after. walk cells after cs)
        (or_else (or_else (at_place at (found p)) (at_place at (failing (list_any (clash at s) before) Shared)))
        (first_among cells (before ++ uses at s ∷ []) cs))
    turn (Err k) b e l next = refl
    turn (Ok p) true e l next = rw (e, l ∙ e) refl
    turn (Ok p) false e l next = rw (e, l ∙ e) (next e)
