-- What is stopped, the last one that was started first.
use Rattle.std.proofs.Common.{◌≡◌, ℕ, ◌<◌, Bool, false, ◌||◌, List, [], ◌∷◌, ◌++◌, length, get_or, refl, sym, ap, ◌∙◌, subst, arith, append_assoc}
use Rattle.std.specs.Prelude.{Contains, reverse}
use Rattle.std.specs.List.{list_any}
use Rattle.std.proofs.Math.Seq.{take-append_seam, get_or-append_seam}
use Rattle.std.proofs.lemmas.List.{reverse-reverse, reverse-append, length-append}
use Rattle.std.proofs.lemmas.List.Folds.{list_any-append}
use Rattle.std.proofs.lemmas.Grind.{reverse_onto}
use Rattle.nt_bytes.specs.Folding.{folds_same}
use Rattle.start_model.specs.Demand.{Need}
use Rattle.service_control.specs.Laws.{AreStoppedInOrder}
use Rattle.command_laws.specs.control_laws.Backwards.{EachBeforeItsNeeds, some_has}
use Rattle.std.proofs.Math.Bool.{or-false}
use Rattle.dependencies.proofs.OrderLemmas.{or_flip}

any_back : {X : Type 0} (p : X → Bool) (xs : List X) → list_any p (reverse xs) ≡ list_any p xs
any_back p [] = refl
any_back p (x ∷ xs) =
    ap (list_any p) (reverse_onto xs x [])
    ∙ list_any-append p (reverse xs) (x ∷ [])
    ∙ (let rest = any_back p xs in λ i. rest i || (p x || false))
    ∙ or_flip (list_any p xs) (p x || false)
    ∙ ap (λ b. b || list_any p xs) (or-false (p x))

-- a list that is turned round, at one of its items
turned : {X : Type 0} (xs front back : List X) (x : X) → reverse xs ≡ front ++ x ∷ back
    → xs ≡ reverse back ++ x ∷ reverse front
turned xs front back x is =
    sym (reverse-reverse xs) ∙ ap reverse is ∙ reverse-append front (x ∷ back)
    ∙ ap (λ ys. ys ++ reverse front) (reverse_onto back x []) ∙ append_assoc (reverse back) (x ∷ []) (reverse front)

-- at a place of a list
at_seam : (before behind : List Need) (n : Need) (name : List ℕ) → AreStoppedInOrder (before ++ n ∷ behind)
    → Contains n.services name
    → some_has (before ++ n ∷ behind) name → some_has before name
at_seam before behind n name order given there =
    let whole : List Need = before ++ n ∷ behind in
    let k : ℕ = length before in
    let lt : k < length whole = omega (arith, length-append before (n ∷ behind)) in
    let item : get_or whole k n ≡ n = get_or-append_seam before n behind n in
    let given_there : Contains (get_or whole k n).services name =
    (let P : Need → Type 0 = λ m. Contains m.services name in subst P (sym item) given) in
    ap (list_any (λ (m : Need). folds_same name m.name)) (sym (take-append_seam before (n ∷ behind)))
    ∙ order k n name lt given_there there

pub backwards : (leaning : List Need) → AreStoppedInOrder leaning → EachBeforeItsNeeds (reverse leaning)
backwards leaning order front back n name is given there =
    let named : Need → Bool = λ m. folds_same name m.name in
    let split : leaning ≡ reverse back ++ n ∷ reverse front = turned leaning front back n is in
    sym (any_back named back)
    ∙ at_seam (reverse back) (reverse front) n name (subst AreStoppedInOrder split order) given
    (ap (list_any named) (sym split) ∙ sym (any_back named leaning) ∙ there)
