-- A save: the clone under the free number, what retires, and the numbers.
use Rattle.std.proofs.Common.{◌≡◌, inl, inr, ℕ, Bool, true, false, ◌≤◌, ◌||◌, ◌==◌, List, [], ◌∷◌, ◌++◌, Option, Some, None, Ok, refl, sym, ap, subst, ◌∙◌, arith}
use Rattle.std.proofs.lemmas.Bool.{false≢true}
use Rattle.nt_bytes.specs.declared.version.HiveVersion.{HiveVersion}
use Rattle.hive_model.specs.Tree.{Tree}
use Rattle.hive_model.specs.Edit.{Step, add_child, renamed, with_child, after_steps}
use Rattle.start_model.specs.Sets.{SelectNumbers, SetPlan, SetChange, set_name, set_of, numbers_in, select_numbers_of, usable_numbers_of, free_number_of, has_number, four_of, deletions_of, writes_of, plan_with, saved_plan, save_plan_of, stepped, save_of}
use Rattle.start_laws.specs.Changes.{Saves}
use Rattle.start_laws.proofs.NumberLemmas.{is_free}
use Rattle.start_laws.proofs.UsableLemmas.{usable_parts, usable_has, free_is_none, lowest_free, small_among}
use Rattle.start_laws.proofs.StepLemmas.{select_key, KeepsOthers, with_child-keeps, with_child-adds, added-is, single, parted, steps_made}
use Rattle.start_laws.proofs.PlanLemmas.{settled}
use Rattle.start_laws.proofs.RestLemmas.{addition_keeps, plan_keeps}
use Rattle.start_laws.proofs.GoneLemmas.{named_so_many, one_of_a_set, with_child-so_many, unnamed_then, plan_gone, not_that}
use Rattle.start_laws.proofs.BeginLemmas.{plan_is, names_good, word, good_set, by_plan}

-- ---- which plan it is

-- the one plan of a save: the clone under the free number, which LastKnownGood then is
pub record SaveCase (old : SelectNumbers) (usable : List ℕ) (clone : Tree) (plan : SetPlan) : Type 0 where
  pub free : ℕ
  pub is : free_number_of usable ≡ Some free
  pub plan_is : plan ≡ plan_with free usable old (record old { good = free }) (add_child (set_name free) clone ∷ [])

by_free : (old : SelectNumbers) (usable : List ℕ) (clone : Tree) (plan : SetPlan) (o : Option ℕ)
    → free_number_of usable ≡ o → saved_plan old usable clone o ≡ Ok plan → SaveCase old usable clone plan
by_free old usable clone plan None is e = absurd cc
by_free old usable clone plan (Some free) is e =
    record {
      free = free;
      is = is;
      plan_is = sym (plan_is (plan_with free usable old (record old { good = free })
          (add_child (set_name free) clone ∷ [])) plan e);
    }

pub save_case : (old : SelectNumbers) (usable : List ℕ) (clone : Tree) (plan : SetPlan)
    → save_plan_of old usable clone ≡ Ok plan → SaveCase old usable clone plan
save_case old usable clone plan e = by_free old usable clone plan (free_number_of usable) refl e

-- ---- what it leaves

one_more : (a b c d : Bool) → (a || (b || (c || false))) ≡ true → (a || (b || (c || (d || false)))) ≡ true
one_more true b c d h = refl
one_more false true c d h = refl
one_more false false true d h = refl
one_more false false false d h = absurd (false≢true h)

-- what the steps of that plan leave
saves_so : (t clone u : Tree) (free : ℕ) → free_number_of (usable_numbers_of t) ≡ Some free
    → after_steps t (plan_with free (usable_numbers_of t) (select_numbers_of t)
    (record (select_numbers_of t) { good = free }) (add_child (set_name free) clone ∷ [])).steps ≡ Ok u
    → Saves t clone free u
unfolding select_key
saves_so t clone u free is e =
    let old : SelectNumbers = select_numbers_of t in
    let usable : List ℕ = usable_numbers_of t in
    let new : SelectNumbers = record old { good = free } in
    let f = is_free usable free is in
    let fresh : set_of t free ≡ None = free_is_none t free f in
    let step : Step = add_child (set_name free) clone in
    let last = parted ((step ∷ []) ++ deletions_of usable old new) (writes_of old new) t u e in
    let first = parted (step ∷ []) (deletions_of usable old new) t last.middle last.front in
    let made : with_child (set_name free) clone t ≡ first.middle =
    added-is free clone t first.middle (single step t first.middle first.front) in
    let P : Tree → Type 0 = λ v. KeepsOthers t v free in
    let keeps : KeepsOthers t first.middle free = subst P made (with_child-keeps free clone t f.most) in
    let adds : set_of first.middle free ≡ Some (renamed (set_name free) clone) =
    ap (λ v. set_of v free) (sym made) ∙ with_child-adds free clone t fresh in
    let s = settled usable old new first.middle last.middle u (small_among _ t) (ap numbers_in keeps.select)
    first.back last.back in
    let good : (select_numbers_of u).good ≡ free = s.good (inl (word free f.most)) in
    let added : set_of u free ≡ Some (renamed (set_name free) clone) = s.sets free f.most (names_good new) ∙ adds in
    record {
      lowest = lowest_free t free f;
      added = added;
      good = good;
      named = good_set u free (renamed (set_name free) clone) good f.least f.most added;
      current = s.current (inr refl);
      default = s.default (inr refl);
      failed = s.failed (inr refl);
      sets = λ m le named apart. s.sets m le
          (one_more (old.current == m) (old.default == m) (old.failed == m) (free == m) named) ∙ keeps.sets m le apart;
      others = λ m le unnamed apart. s.others m le unnamed ∙ keeps.sets m le apart;
      retired = λ valid m there was no.
          (let low = usable_parts t m there in
          let unnamed : has_number (four_of new) m ≡ false = unnamed_then first.middle u old new m s low.most no in
          let few : named_so_many m first.middle ≤ 1 =
          omega (
            arith,
            ap (named_so_many m) made,
            with_child-so_many m free clone t low.most f.most (not_that new m unnamed),
            one_of_a_set m t valid,
          ) in
          plan_gone usable old new first.middle last.middle u m (usable_has t m there)
          was unnamed few first.back last.back);
      rest = plan_keeps usable old new (step ∷ []) t u (small_among _ t) (addition_keeps free clone f.least f.most, tt)
          e;
    }

-- what a save leaves, by the plan that was made
pub saves : (version : HiveVersion) (t clone u : Tree) (plan : SetPlan)
    → save_plan_of (select_numbers_of t) (usable_numbers_of t) clone ≡ Ok plan → stepped version t plan.steps ≡ Ok u
    → Saves t clone plan.chosen u
saves version t clone u plan is made =
    let c = save_case (select_numbers_of t) (usable_numbers_of t) clone plan is in
    let all : after_steps t plan.steps ≡ Ok u = steps_made version plan.steps t u made in
    let P : ℕ → Type 0 = λ n. Saves t clone n u in
    subst P (ap (λ (q : SetPlan). q.chosen) (sym c.plan_is))
    (saves_so t clone u c.free c.is (ap (λ (q : SetPlan). after_steps t q.steps) (sym c.plan_is) ∙ all))

-- a save never gives the same tree, since the set under the free number is new
pub save_changes : (version : HiveVersion) (t clone u : Tree) (plan : SetPlan)
    → save_plan_of (select_numbers_of t) (usable_numbers_of t) clone ≡ Ok plan → stepped version t plan.steps ≡ Ok u
    → u ≡ t → ⊥
save_changes version t clone u plan is made same =
    let s = saves version t clone u plan is made in
    let none : Some (renamed (set_name plan.chosen) clone) ≡ None =
    sym s.added ∙ ap (λ v. set_of v plan.chosen) same ∙ s.lowest.free in
    absurd cc

pub save_of-saves : (version : HiveVersion) (t clone : Tree) (change : SetChange) → save_of version t clone ≡ Ok change
    → Saves t clone change.chosen change.tree
save_of-saves version t clone change e =
    let p = by_plan version t (save_plan_of (select_numbers_of t) (usable_numbers_of t) clone) change e in
    let P : ℕ → Type 0 = λ m. Saves t clone m change.tree in
    subst P p.chosen (saves version t clone change.tree p.plan p.is p.made)
