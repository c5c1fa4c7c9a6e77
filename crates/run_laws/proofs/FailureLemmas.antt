-- What is noted of failures to come is noted for a folded name.
use Rattle.std.proofs.Common.{◌≡◌, ℕ, ◌-◌, Bool, true, false, ◌==◌, cond, List, [], ◌∷◌, refl, sym, ap, subst, ◌∙◌}
use Rattle.std.specs.Bool.{Decides}
use Rattle.std.proofs.lemmas.Bool.{false≢true}
use Rattle.std.proofs.lemmas.Bool.Decides.{Decides-and, Decides-eqb}
use Rattle.nt_bytes.specs.Folding.{folded, folded_unit, folds_same}
use Rattle.start_model.specs.Machine.{failures_of, one_failure_less, with_failures}
use Rattle.dependencies.proofs.MeetLemmas.{unit_again}
use Rattle.dependencies.proofs.PulledLemmas.{same_bool}

-- ---- names that fold to one

folds-Decides : (a b : List ℕ) → Decides (folds_same a b) (folded a ≡ folded b)
folds-Decides [] [] = (λ e. refl, λ e. refl)
folds-Decides [] (y ∷ ys) = (λ e. absurd (false≢true e), λ e. absurd cc)
folds-Decides (x ∷ xs) [] = (λ e. absurd (false≢true e), λ e. absurd cc)
folds-Decides (x ∷ xs) (y ∷ ys) =
    let d = Decides-and (folded_unit x == folded_unit y) (folds_same xs ys)
    (Decides-eqb (folded_unit x) (folded_unit y)) (folds-Decides xs ys) in
    (λ e. joined (d.0 e), λ e. d.1 (parts e))
  where
    joined : (folded_unit x ≡ folded_unit y) × (folded xs ≡ folded ys) → folded (x ∷ xs) ≡ folded (y ∷ ys)
    joined p = let unit = p.0 in let rest = p.1 in λ i. unit i ∷ rest i

    parts : folded (x ∷ xs) ≡ folded (y ∷ ys) → (folded_unit x ≡ folded_unit y) × (folded xs ≡ folded ys)
    parts e = (let unit : folded_unit x ≡ folded_unit y = cc in let rest : folded xs ≡ folded ys = cc in (unit, rest))

-- a name may be put in the place of one that folds to it
same_for : (a b c : List ℕ) → folded a ≡ folded b → folds_same a c ≡ folds_same b c
same_for a b c e =
    same_bool (folds_same a c) (folds_same b c) (λ t. (folds-Decides b c).1 (sym e ∙ (folds-Decides a c).0 t))
    (λ t. (folds-Decides a c).1 (e ∙ (folds-Decides b c).0 t))

folded_again : (a : List ℕ) → folded (folded a) ≡ folded a
folded_again [] = refl
folded_again (x ∷ xs) = let unit = unit_again x in let rest = folded_again xs in λ i. unit i ∷ rest i

-- ---- what is noted

-- a name that folds to the entry's, or not, beside another name
entry_cases : (entry name other : List ℕ) (P : Bool → Bool → Bool → Type 0) → ((b : Bool) → P true b b)
    → P false true false → P false false (folds_same name other)
    → P (folds_same entry name) (folds_same entry other) (folds_same name other)
entry_cases entry name other P same apart free = by_name (folds_same entry name) refl
  where
    by_other : (b : Bool) → folds_same entry name ≡ false → folds_same entry other ≡ b
        → P false b (folds_same name other)
    by_other false none is = free
    by_other true none is = rest (folds_same name other) refl
      where
        rest : (c : Bool) → folds_same name other ≡ c → P false true c
        rest false e = apart
        rest true e =
            let one : folded entry ≡ folded name =
            (folds-Decides entry other).0 is ∙ sym ((folds-Decides name other).0 e) in
            absurd (false≢true (sym none ∙ (folds-Decides entry name).1 one))

    by_name : (b : Bool) → folds_same entry name ≡ b → P b (folds_same entry other) (folds_same name other)
    by_name true is =
        let one = same_for entry name other ((folds-Decides entry name).0 is) in
        let Q : Bool → Type 0 = λ b. P true b (folds_same name other) in
        subst Q (sym one) (same (folds_same name other))
    by_name false is = by_other (folds_same entry other) is refl

failures_of-cond : (b : Bool) (fs gs : List (List ℕ × ℕ)) (name : List ℕ)
    → failures_of (cond b fs gs) name ≡ cond b (failures_of fs name) (failures_of gs name)
failures_of-cond true fs gs name = refl
failures_of-cond false fs gs name = refl

twice : (b : Bool) (x y z : ℕ) → cond b x y ≡ cond b x (cond b z y)
twice true x y z = refl
twice false x y z = refl

-- that many for a name, and for others as before
pub failures-set : (fs : List (List ℕ × ℕ)) (name : List ℕ) (count : ℕ) (other : List ℕ)
    → failures_of (with_failures fs name count) other ≡ cond (folds_same name other) count (failures_of fs other)
failures-set [] name count other = ap (λ b. cond b count 0) (same_for (folded name) name other (folded_again name))
failures-set (f ∷ fs) name count other =
    let rest : ℕ = failures_of fs other in
    let then : ℕ = failures_of (with_failures fs name count) other in
    failures_of-cond (folds_same f.0 name) ((f.0, count) ∷ fs) (f ∷ with_failures fs name count) other
    ∙ entry_cases f.0 name other
    (λ b c d. cond b (cond c count rest) (cond c f.1 then) ≡ cond d count (cond c f.1 rest))
    (λ b. twice b count rest f.1) refl (failures-set fs name count other)

-- one fewer for a name, and for others as before
pub failures-less : (fs : List (List ℕ × ℕ)) (name other : List ℕ)
    → failures_of (one_failure_less fs name) other
    ≡ cond (folds_same name other) (failures_of fs name - 1) (failures_of fs other)
failures-less [] name other = by_case (folds_same name other)
  where
    by_case : (b : Bool) → 0 ≡ cond b (0 - 1) 0
    by_case true = refl
    by_case false = refl
failures-less (f ∷ fs) name other =
    let rest : ℕ = failures_of fs other in
    let then : ℕ = failures_of (one_failure_less fs name) other in
    failures_of-cond (folds_same f.0 name) ((f.0, f.1 - 1) ∷ fs) (f ∷ one_failure_less fs name) other
    ∙ entry_cases f.0 name other
    (λ b c d. cond b (cond c (f.1 - 1) rest) (cond c f.1 then)
    ≡ cond d (cond b f.1 (failures_of fs name) - 1) (cond c f.1 rest)) (λ b. twice b (f.1 - 1) rest f.1) refl
    (failures-less fs name other)
