-- The set that a start takes.
use Rattle.std.proofs.Common.{◌≡◌, ℕ, Bool, true, false, cond, List, None, Ok, refl, sym, ap, subst}
use Rattle.std.specs.Option.{is_some, unwrap_or}
use Rattle.hive_model.specs.Tree.{Tree}
use Rattle.select_keys.specs.Sets.{usable_set}
use Rattle.start_model.specs.Sets.{SelectNumbers, SetPlan, select_numbers_of, usable_numbers_of, taken_number, is_usable, set_of, begin_plan_of}
use Rattle.start_model.specs.Starter.{no_set}
use Rattle.start_laws.proofs.BeginLemmas.{BeginCase, guarded, plain, begin_case}
use Rattle.start_laws.proofs.UsableLemmas.{usable_parts, usable_from, usable_is, none_or}
use Rattle.quiet_run.specs.Play.{IsSetNumber, set_in}

by_usable : (t : Tree) (n : ℕ) (b : Bool) → is_usable t n ≡ b → IsSetNumber n → cond b (set_of t n) None ≡ set_of t n
by_usable t n true is k = refl
by_usable t n false is k = sym (none_or (set_of t n) (by_some (is_some (set_of t n)) refl))
  where
    by_some : (c : Bool) → is_some (set_of t n) ≡ c → is_some (set_of t n) ≡ false
    by_some true there = absurd (let e : is_usable t n ≡ true = usable_from t n k.least k.most there in cc)
    by_some false there = there

pub usable_is_set : (t : Tree) (n : ℕ) → IsSetNumber n → unwrap_or (usable_set t n) no_set ≡ set_in t n
usable_is_set t n k = ap (λ o. unwrap_or o no_set) (by_usable t n (is_usable t n) refl k)

chosen_by : (old : SelectNumbers) (usable : List ℕ) (on_good : Bool) (plan : SetPlan)
    → BeginCase old usable on_good plan → plan.chosen ≡ taken_number old on_good
chosen_by old usable on_good plan (guarded free is same made) = ap (λ (p : SetPlan). p.chosen) made
chosen_by old usable on_good plan (plain other made) = ap (λ (p : SetPlan). p.chosen) made

-- a plan's set has a number
pub chosen_is_number : (t : Tree) (on_good : Bool) (plan : SetPlan)
    → begin_plan_of (select_numbers_of t) (usable_numbers_of t) on_good ≡ Ok plan → IsSetNumber plan.chosen
chosen_is_number t on_good plan is =
    let b = begin_case (select_numbers_of t) (usable_numbers_of t) on_good plan is in
    let u = usable_parts t (taken_number (select_numbers_of t) on_good)
    (usable_is t (taken_number (select_numbers_of t) on_good) b.usable_one) in
    subst IsSetNumber (sym (chosen_by (select_numbers_of t) (usable_numbers_of t) on_good plan b.kind))
    (record { least = u.least; most = u.most })
