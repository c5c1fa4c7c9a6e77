-- Numbers at equal steps, looked through one by one.
use Rattle.std.proofs.Common.{◌≡◌, ◌<◌, ◌≤◌, ◌-◌, ◌*◌, ℕ, zero, suc, Bool, true, false, cond, List, ◌∷◌, length, drop, Option, None, sym, ap, subst, ◌∙◌, arith, length-drop}
use Rattle.std.specs.Prelude.{find}
use Rattle.std.specs.List.{All}
use Rattle.nt_bytes.specs.Fields.{u32_in}
use Rattle.hive_model.specs.Lists.{numbers_in}
use Rattle.hive_look.proofs.ResultLemmas.{some}
use Rattle.cell_forms.proofs.Steps.{numbers_more}

abbrev nothing : Option ℕ
nothing = None

-- the first passes, so it is the one that is found
pub scan_here : (test : ℕ → Bool) (left at : ℕ) (rest : List ℕ) (whole : Option ℕ) → 0 < left → at ≡ u32_in rest 0
    → find test (numbers_in 4 left rest) ≡ whole
    → test at ≡ true → some at ≡ whole
scan_here test left at rest whole lt is so_far passes =
    ap (λ (b : Bool). cond b (some at) (find test (numbers_in 4 (left - 1) (drop 4 rest)))) (sym passes)
    ∙ ap (λ (x : ℕ). find test (x ∷ numbers_in 4 (left - 1) (drop 4 rest))) is
    ∙ ap (find test) (sym (numbers_more 4 left rest lt)) ∙ so_far

-- the first fails, so the one that is found is among the others
pub scan_on : (test : ℕ → Bool) (left at : ℕ) (rest : List ℕ) (whole : Option ℕ) → 0 < left → at ≡ u32_in rest 0
    → find test (numbers_in 4 left rest) ≡ whole
    → test at ≡ false → find test (numbers_in 4 (left - 1) (drop 4 rest)) ≡ whole
scan_on test left at rest whole lt is so_far fails =
    ap (λ (b : Bool). cond b (some at) (find test (numbers_in 4 (left - 1) (drop 4 rest)))) (sym fails)
    ∙ ap (λ (x : ℕ). find test (x ∷ numbers_in 4 (left - 1) (drop 4 rest))) is
    ∙ ap (find test) (sym (numbers_more 4 left rest lt)) ∙ so_far

-- none is left
pub scan_end : (test : ℕ → Bool) (left : ℕ) (rest : List ℕ) (whole : Option ℕ) → left ≤ 0
    → find test (numbers_in 4 left rest) ≡ whole → nothing ≡ whole
scan_end test zero rest whole le so_far = so_far
scan_end test (suc left) rest whole le so_far = absurd (omega arith)

-- what holds of all holds of the first, and of the others
pub scan_first : (P : ℕ → Type 0) (left at : ℕ) (rest : List ℕ) → 0 < left → at ≡ u32_in rest 0
    → All P (numbers_in 4 left rest) → P at
scan_first P left at rest lt is h = subst P (sym is) (subst (All P) (numbers_more 4 left rest lt) h 0 0 (omega arith))

pub scan_rest : (P : ℕ → Type 0) (left : ℕ) (rest : List ℕ) → 0 < left → All P (numbers_in 4 left rest)
    → All P (numbers_in 4 (left - 1) (drop 4 rest))
scan_rest P left rest lt h = let g = subst (All P) (numbers_more 4 left rest lt) h in
    λ k d within. g (suc k) d (omega arith)

-- the list is long enough for what remains
pub scan_room : (left : ℕ) (rest : List ℕ) → 0 < left → 4 * left ≤ length rest → 4 * (left - 1) ≤ length (drop 4 rest)
scan_room left rest lt h = omega (arith, length-drop 4 rest)
