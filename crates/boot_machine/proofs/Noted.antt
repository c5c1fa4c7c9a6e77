-- The failures to come at the place of a name.
use Rattle.std.proofs.Common.{◌≡◌, ℕ, suc, ◌+◌, ◌-◌, Bool, List, [], ◌∷◌, ◌++◌, get_or, Some, None, ◌==◌, not, subst, refl, sym, ap, ◌∙◌, arith}
use Rattle.std.specs.Prelude.{position}
use Rattle.std.specs.List.{position_from}
use Rattle.std.proofs.lemmas.Iterator.Adapters.{position_from-zero}
use Rattle.std.proofs.Math.ListN.{set}
use Rattle.nt_bytes.specs.Folding.{folded, folds_same}
use Rattle.start_model.specs.Machine.{failures_of, one_failure_less, with_failures}
use Rattle.reg_tree.proofs.Places.{here, there, place_of, no_place}

abbrev Failing : Type 0
Failing = List ℕ × ℕ

abbrev names : List ℕ → Failing → Bool
names name f = folds_same f.0 name

-- what the three functions are where the name is at k
pub record At (name : List ℕ) (fs : List Failing) (k : ℕ) (f : Failing) : Type 0 where
  pub count : failures_of fs name ≡ f.1
  pub less : one_failure_less fs name ≡ set fs k (f.0, f.1 - 1)
  pub others : (n : ℕ) → with_failures fs name n ≡ set fs k (f.0, n)

at_from : (name : List ℕ) (i : ℕ) (fs : List Failing) (at : ℕ) (d : Failing) → position_from (names name) i fs ≡ Some at
    → (k : ℕ) × (at ≡ i + k) × At name fs k (get_or fs k d)
at_from name i [] at d h = absurd cc
at_from name i (f ∷ fs) at d h =
    elim (place_of (names name) i f fs at h) [
      | here e same ↦ (0, omega arith, record { count = rw e refl; less = rw e refl; others = λ n. rw e refl })
      | there e more ↦
          let below = at_from name (i + 1) fs at d more in (
            suc below.0,
            omega (arith, below.1),
            record {
              count = rw (e, below.2.count) refl;
              less = rw (e, below.2.less) refl;
              others = λ n. rw (e, below.2.others n) refl;
            },
          )
    ]

pub at_place : (name : List ℕ) (fs : List Failing) (at : ℕ) (d : Failing) → position (names name) fs ≡ Some at
    → At name fs at (get_or fs at d)
at_place name fs at d h =
    let f = at_from name 0 fs at d (sym (position_from-zero (names name) fs) ∙ h) in
    let same : at ≡ f.0 = omega (arith, f.1) in
    rw same f.2

-- what they are where the name stands nowhere
pub record Nowhere (name : List ℕ) (fs : List Failing) : Type 0 where
  pub count : failures_of fs name ≡ 0
  pub less : one_failure_less fs name ≡ fs
  pub others : (n : ℕ) → with_failures fs name n ≡ fs ++ (folded name, n) ∷ []

nowhere_from : (name : List ℕ) (i : ℕ) (fs : List Failing) → position_from (names name) i fs ≡ None → Nowhere name fs
nowhere_from name i [] h = record { count = refl; less = refl; others = λ n. refl }
nowhere_from name i (f ∷ fs) h =
    let e = no_place (names name) i f fs h in
    let below = nowhere_from name (i + 1) fs e.1 in
    record {
      count = rw (e.0, below.count) refl;
      less = rw (e.0, below.less) refl;
      others = λ n. rw (e.0, below.others n) refl;
    }

pub nowhere : (name : List ℕ) (fs : List Failing) → position (names name) fs ≡ None → Nowhere name fs
nowhere name fs h = nowhere_from name 0 fs (sym (position_from-zero (names name) fs) ∙ h)

-- ---- what the code does at the place

at_old : (name : List ℕ) (items fs : List Failing) (at : ℕ) (old : Failing) → items ≡ fs
    → Some at ≡ position (names name) fs → old ≡ get_or items at old → At name items at old
at_old name items fs at old i h e =
    let place : position (names name) items ≡ Some at = rw i (sym h) in
    let P : Failing → Type 0 = λ f. At name items at f in
    subst P (sym e) (at_place name items at old place)

pub fails_there : (name : List ℕ) (items fs : List Failing) (at : ℕ) (old : Failing) (fails : Bool) → items ≡ fs
    → Some at ≡ position (names name) fs → old ≡ get_or items at old
    → fails ≡ not (old.1 == 0) → fails ≡ not (failures_of fs name == 0)
fails_there name items fs at old fails i h e f =
    rw (← i) (f ∙ ap (λ n. not (n == 0)) (sym (at_old name items fs at old i h e).count))

pub less_there : (name : List ℕ) (items fs : List Failing) (at : ℕ) (old new : Failing) → items ≡ fs
    → Some at ≡ position (names name) fs → old ≡ get_or items at old
    → new ≡ (old.0, old.1 - 1) → set items at new ≡ one_failure_less fs name
less_there name items fs at old new i h e n =
    rw (← i) (ap (set items at) n ∙ sym (at_old name items fs at old i h e).less)

pub others_there : (name : List ℕ) (items fs : List Failing) (at count : ℕ) (old new : Failing) → items ≡ fs
    → Some at ≡ position (names name) fs → old ≡ get_or items at old
    → new ≡ (old.0, count) → set items at new ≡ with_failures fs name count
others_there name items fs at count old new i h e n =
    rw (← i) (ap (set items at) n ∙ sym ((at_old name items fs at old i h e).others count))
