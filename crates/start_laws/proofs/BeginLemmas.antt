-- A beginning: the guard, what retires, and the numbers.
use Rattle.std.proofs.Common.{◌≡◌, inl, inr, ℕ, ◌<◌, ◌≤◌, ◌^◌, Bool, true, false, not, ◌&&◌, ◌==◌, cond, List, [], ◌∷◌, ◌++◌, length, map, filter, Option, Some, None, Result, Ok, Err, refl, sym, ap, subst, ◌∙◌, arith, eq-eqb, eqb-true}
use Rattle.std.specs.Prelude.{codes}
use Rattle.std.specs.Option.{is_some}
use Rattle.std.proofs.lemmas.Bool.{false≢true, or_left, or_right}
use Rattle.nt_bytes.specs.declared.version.HiveVersion.{HiveVersion}
use Rattle.hive_model.specs.Tree.{Tree, key}
use Rattle.hive_model.specs.Edit.{Step, copy_child, delete_key, renamed, with_child, Refusal, after_steps}
use Rattle.start_model.specs.Sets.{SelectNumbers, SetPlan, SetStop, NoControlSet, NoLastKnownGood, SetChange, set_name, set_of, numbers_in, select_numbers_of, usable_numbers_of, is_usable, has_number, free_number_of, four_of, deletions_of, written, writes_of, plan_with, taken_number, begun, guarded_plan, begin_plan_of, stepped, changed_by, planned, begin_of}
use Rattle.start_model.specs.Fits.{SameSet, good_set_of}
use Rattle.start_laws.specs.Changes.{IsLowestFree, Begins}
use Rattle.start_laws.proofs.NumberLemmas.{is_free}
use Rattle.start_laws.proofs.UsableLemmas.{Usable, usable_parts, usable_is, usable_from, usable_has, free_is_none, lowest_free, small_among}
use Rattle.start_laws.proofs.StepLemmas.{select_key, KeepsOthers, with_child-keeps, with_child-adds, copied-is, single, parted, steps_made}
use Rattle.start_laws.proofs.PlanLemmas.{Fitting, settled}
use Rattle.start_laws.proofs.RestLemmas.{copy_keeps, plan_keeps}
use Rattle.start_laws.proofs.GoneLemmas.{named_so_many, one_of_a_set, with_child-so_many, unnamed_then, named_now, plan_gone, not_that}

-- ---- which plan it is

-- a beginning's plan: LastKnownGood names the taken set, so that is copied under the free number first;
-- or it names another one, and no set is copied
pub data BeginCase (old : SelectNumbers) (usable : List ℕ) (on_good : Bool) (plan : SetPlan) : Type 0 where
  guarded : (free : ℕ) → free_number_of usable ≡ Some free → old.good ≡ taken_number old on_good
      → plan ≡ plan_with (taken_number old on_good) usable old (record (begun old on_good) { good = free })
      (copy_child (set_name (taken_number old on_good)) (set_name free) ∷ [])
      → BeginCase old usable on_good plan
  plain : (old.good ≡ taken_number old on_good → ⊥)
      → plan ≡ plan_with (taken_number old on_good) usable old (begun old on_good) []
      → BeginCase old usable on_good plan

-- what a plan that is there reports: the taken number names a set, and which case it is
pub record Begun (old : SelectNumbers) (usable : List ℕ) (on_good : Bool) (plan : SetPlan) : Type 0 where
  pub usable_one : has_number usable (taken_number old on_good) ≡ true
  pub kind : BeginCase old usable on_good plan

pub plan_is : (a b : SetPlan) → ◌≡◌ {A = Result SetPlan SetStop} (Ok a) (Ok b) → a ≡ b
plan_is a b e = cc

by_guard : (old : SelectNumbers) (usable : List ℕ) (on_good : Bool) (plan : SetPlan) (o : Option ℕ)
    → free_number_of usable ≡ o → old.good ≡ taken_number old on_good
    → guarded_plan old usable on_good o ≡ Ok plan → BeginCase old usable on_good plan
by_guard old usable on_good plan None is same e = absurd cc
by_guard old usable on_good plan (Some free) is same e =
    guarded free is same (sym
    (plan_is (plan_with (taken_number old on_good) usable old (record (begun old on_good) { good = free })
    (copy_child (set_name (taken_number old on_good)) (set_name free) ∷ [])) plan e))

differs : (a b : ℕ) → (a == b) ≡ false → a ≡ b → ⊥
differs a b no_test e = false≢true (sym no_test ∙ eq-eqb a b e)

pub begin_case : (old : SelectNumbers) (usable : List ℕ) (on_good : Bool) (plan : SetPlan)
    → begin_plan_of old usable on_good ≡ Ok plan → Begun old usable on_good plan
begin_case old usable on_good plan e =
    split (has_number usable (taken_number old on_good)) refl (old.good == taken_number old on_good) refl e
  where
    split : (b : Bool) → has_number usable (taken_number old on_good) ≡ b → (c : Bool)
        → (old.good == taken_number old on_good) ≡ c
        → cond (not b) (Err (cond on_good NoLastKnownGood NoControlSet))
        (cond c (guarded_plan old usable on_good (free_number_of usable))
        (Ok (plan_with (taken_number old on_good) usable old (begun old on_good) []))) ≡ Ok plan
        → Begun old usable on_good plan
    split false is c same made = absurd cc
    split true is true same made =
        record {
          usable_one = is;
          kind = by_guard old usable on_good plan (free_number_of usable) refl
              (eqb-true old.good (taken_number old on_good) same) made;
        }
    split true is false same made =
        record {
          usable_one = is;
          kind = plain (differs old.good (taken_number old on_good) same)
              (sym (plan_is (plan_with (taken_number old on_good) usable old (begun old on_good) []) plan made));
        }

-- ---- what it leaves

pub some_tree : (o : Option Tree) → is_some o ≡ true → (k : Tree) × (o ≡ Some k)
some_tree None h = absurd (false≢true h)
some_tree (Some k) h = (k, refl)

pub names_current : (s : SelectNumbers) → has_number (four_of s) s.current ≡ true
names_current s = or_left (s.current == s.current) _ (eq-eqb s.current s.current refl)

pub names_good : (s : SelectNumbers) → has_number (four_of s) s.good ≡ true
names_good s =
    or_right (s.current == s.good) _
    (or_right (s.default == s.good) _
    (or_right (s.failed == s.good) _ (or_left (s.good == s.good) false (eq-eqb s.good s.good refl))))

pub same_set : (name : List ℕ) (k : Tree) → SameSet (renamed name k) k
same_set name (key h ts) = refl

pub word : (n : ℕ) → n ≤ 999 → n < 2 ^ 32
word n h = omega arith

-- the good set of a tree whose LastKnownGood is this number
pub good_set : (t : Tree) (n : ℕ) (k : Tree) → (select_numbers_of t).good ≡ n → 1 ≤ n → n ≤ 999 → set_of t n ≡ Some k
    → good_set_of t ≡ Some k
good_set t n k named low high is =
    let usable : is_usable t (select_numbers_of t).good ≡ true =
    ap (is_usable t) named ∙ usable_from t n low high (ap is_some is) in
    ap (λ b. cond b (set_of t (select_numbers_of t).good) None) usable ∙ ap (set_of t) named ∙ is

-- LastKnownGood names this set, which can be used
pub record GoodSet (t k : Tree) : Type 0 where
  pub usable : Usable t (select_numbers_of t).good
  pub is : set_of t (select_numbers_of t).good ≡ Some k

pub good_parts : (t k : Tree) → good_set_of t ≡ Some k → GoodSet t k
good_parts t k e = split (is_usable t (select_numbers_of t).good) refl e
  where
    split : (b : Bool) → is_usable t (select_numbers_of t).good ≡ b
        → cond b (set_of t (select_numbers_of t).good) None ≡ Some k → GoodSet t k
    split true is same = record { usable = usable_parts t (select_numbers_of t).good is; is = same }
    split false is same = absurd cc

some_same : (a b : Tree) → Some a ≡ Some b → a ≡ b
some_same a b e = cc

-- the number Failed fits four bytes or is not written: it stays, or is the old Default, which fits
failed_fits : (old : SelectNumbers) (on_good : Bool) → old.default < 2 ^ 32
    → Fitting old.failed (begun old on_good).failed
failed_fits old on_good fits = split (on_good && not (old.default == taken_number old on_good))
  where
    split : (b : Bool) → Fitting old.failed (cond b old.default old.failed)
    split true = inl fits
    split false = inr refl

-- what the steps leave where a guard is copied
pub begins_guarded : (t u : Tree) (on_good : Bool) (free : ℕ)
    → has_number (usable_numbers_of t) (taken_number (select_numbers_of t) on_good) ≡ true
    → free_number_of (usable_numbers_of t) ≡ Some free
    → (select_numbers_of t).good ≡ taken_number (select_numbers_of t) on_good
    → after_steps t (plan_with (taken_number (select_numbers_of t) on_good) (usable_numbers_of t) (select_numbers_of t)
    (record (begun (select_numbers_of t) on_good) { good = free })
    (copy_child (set_name (taken_number (select_numbers_of t) on_good)) (set_name free) ∷ [])).steps ≡ Ok u
    → Begins t on_good (taken_number (select_numbers_of t) on_good) u × ((select_numbers_of u).good ≡ free)
unfolding select_key
begins_guarded t u on_good free usable is same e =
    let old : SelectNumbers = select_numbers_of t in
    let usable_all : List ℕ = usable_numbers_of t in
    let n : ℕ = taken_number old on_good in
    let new : SelectNumbers = record (begun old on_good) { good = free } in
    let f = is_free usable_all free is in
    let un = usable_parts t n (usable_is t n usable) in
    let k = some_tree (set_of t n) un.there in
    let copy : Step = copy_child (set_name n) (set_name free) in
    let last = parted ((copy ∷ []) ++ deletions_of usable_all old new) (writes_of old new) t u e in
    let first = parted (copy ∷ []) (deletions_of usable_all old new) t last.middle last.front in
    let made : with_child (set_name free) k.0 t ≡ first.middle =
    copied-is n free k.0 t first.middle k.1 (single copy t first.middle first.front) in
    let P : Tree → Type 0 = λ v. KeepsOthers t v free in
    let keeps : KeepsOthers t first.middle free = subst P made (with_child-keeps free k.0 t f.most) in
    let adds : set_of first.middle free ≡ Some (renamed (set_name free) k.0) =
    ap (λ v. set_of v free) (sym made) ∙ with_child-adds free k.0 t (free_is_none t free f) in
    let s = settled usable_all old new first.middle last.middle u (small_among _ t) (ap numbers_in keeps.select)
    first.back last.back in
    let other : n ≡ free → ⊥ = λ e. false≢true (sym f.unused ∙ ap (has_number usable_all) (sym e) ∙ usable) in
    let good : (select_numbers_of u).good ≡ free = s.good (inl (word free f.most)) in
    let there : set_of u free ≡ Some (renamed (set_name free) k.0) = s.sets free f.most (names_good new) ∙ adds in (
      record {
        taken = refl;
        current = s.current (inl (word n un.most));
        default = s.default (inl (word n un.most));
        set = s.sets n un.most (names_current new) ∙ keeps.sets n un.most other;
        apart = λ e. other (sym e ∙ good);
        guarded = λ was. (let Q : ℕ → Type 0 = IsLowestFree t in subst Q (sym good) (lowest_free t free f));
        unguarded = λ no. absurd (no same);
        failed = λ fits. s.failed (failed_fits old on_good fits);
        others = λ m le unnamed apart. s.others m le unnamed ∙ keeps.sets m le (λ e. apart (e ∙ sym good));
        sets = λ fits m there named.
            (let low = usable_parts t m there in
            let apart : m ≡ free → ⊥ =
            λ e. false≢true (sym f.unused ∙ ap (has_number usable_all) (sym e) ∙ usable_has t m there) in
            let so : has_number (four_of new) m ≡ true =
            named_now first.middle u old new m s (inl (word n un.most)) (inl (word n un.most))
            (failed_fits old on_good fits) (inl (word free f.most)) named in
            s.sets m low.most so ∙ keeps.sets m low.most apart);
        retired = λ valid m there was no.
            (let low = usable_parts t m there in
            let unnamed : has_number (four_of new) m ≡ false = unnamed_then first.middle u old new m s low.most no in
            let few : named_so_many m first.middle ≤ 1 =
            omega (
              arith,
              ap (named_so_many m) made,
              with_child-so_many m free k.0 t low.most f.most (not_that new m unnamed),
              one_of_a_set m t valid,
            ) in
            plan_gone usable_all old new first.middle last.middle u m (usable_has t m there)
            was unnamed few first.back last.back);
        rest = plan_keeps usable_all old new (copy ∷ []) t u (small_among _ t) (copy_keeps n free f.least f.most, tt) e;
        kept = λ k' g.
            (let p = good_parts t k' g in
            let now : k.0 ≡ k' = some_same k.0 k' (sym k.1 ∙ ap (set_of t) (sym same) ∙ p.is) in (
              renamed (set_name free) k.0,
              (
                good_set u free (renamed (set_name free) k.0) good f.least f.most there,
                same_set (set_name free) k.0
                    ∙ ap (renamed []) now,
              ),
            ));
      },
      good,
    )

-- what the steps leave where none is
pub begins_plain : (t u : Tree) (on_good : Bool)
    → has_number (usable_numbers_of t) (taken_number (select_numbers_of t) on_good) ≡ true
    → ((select_numbers_of t).good ≡ taken_number (select_numbers_of t) on_good → ⊥)
    → after_steps t (plan_with (taken_number (select_numbers_of t) on_good) (usable_numbers_of t) (select_numbers_of t)
    (begun (select_numbers_of t) on_good) []).steps ≡ Ok u
    → Begins t on_good (taken_number (select_numbers_of t) on_good) u
begins_plain t u on_good usable other e =
    let old : SelectNumbers = select_numbers_of t in
    let usable_all : List ℕ = usable_numbers_of t in
    let n : ℕ = taken_number old on_good in
    let new : SelectNumbers = begun old on_good in
    let un = usable_parts t n (usable_is t n usable) in
    let last = parted (deletions_of usable_all old new) (writes_of old new) t u e in
    let s = settled usable_all old new t last.middle u (small_among _ t) refl last.front last.back in
    let good : (select_numbers_of u).good ≡ old.good = s.good (inr refl) in
    record {
      taken = refl;
      current = s.current (inl (word n un.most));
      default = s.default (inl (word n un.most));
      set = s.sets n un.most (names_current new);
      apart = λ e. other (sym good ∙ e);
      guarded = λ was. absurd (other was);
      unguarded = λ no. good;
      failed = λ fits. s.failed (failed_fits old on_good fits);
      others = λ m le unnamed new_one. s.others m le unnamed;
      sets = λ fits m there named.
          s.sets m (usable_parts t m there).most
          (named_now t u old new m s (inl (word n un.most)) (inl (word n un.most)) (failed_fits old on_good fits)
          (inr refl) named);
      retired = λ valid m there was no.
          (let low = usable_parts t m there in
          plan_gone usable_all old new t last.middle u m (usable_has t m there) was
          (unnamed_then t u old new m s low.most no) (one_of_a_set m t valid) last.front last.back);
      rest = plan_keeps usable_all old new [] t u (small_among _ t) tt e;
      kept = λ k g.
          (let p = good_parts t k g in (
            k,
            (
              good_set u old.good k good p.usable.least p.usable.most
                  (s.sets old.good p.usable.most (names_good new) ∙ p.is),
              refl,
            ),
          ));
    }

-- what a beginning leaves, by the plan that was made
pub begins : (version : HiveVersion) (t u : Tree) (on_good : Bool) (plan : SetPlan)
    → begin_plan_of (select_numbers_of t) (usable_numbers_of t) on_good ≡ Ok plan → stepped version t plan.steps ≡ Ok u
    → Begins t on_good plan.chosen u
begins version t u on_good plan is made =
    let b = begin_case (select_numbers_of t) (usable_numbers_of t) on_good plan is in
    split b.usable_one b.kind
  where
    all : after_steps t plan.steps ≡ Ok u
    all = steps_made version plan.steps t u made

    split : has_number (usable_numbers_of t) (taken_number (select_numbers_of t) on_good) ≡ true
        → BeginCase (select_numbers_of t) (usable_numbers_of t) on_good plan → Begins t on_good plan.chosen u
    split usable (guarded free free_is same p) =
        let P : ℕ → Type 0 = λ n. Begins t on_good n u in
        subst P (ap (λ (q : SetPlan). q.chosen) (sym p))
        (begins_guarded t u on_good free usable free_is same
        (ap (λ (q : SetPlan). after_steps t q.steps) (sym p) ∙ all)).0
    split usable (plain other p) =
        let P : ℕ → Type 0 = λ n. Begins t on_good n u in
        subst P (ap (λ (q : SetPlan). q.chosen) (sym p))
        (begins_plain t u on_good usable other (ap (λ (q : SetPlan). after_steps t q.steps) (sym p) ∙ all))

-- ---- steps, or none

pub without_steps : (version : HiveVersion) (t : Tree) (steps : List Step) → length steps ≡ 0
    → stepped version t steps ≡ Ok t
without_steps version t [] h = refl
without_steps version t (s ∷ ss) h = absurd (omega arith)

filter_none : (p : ℕ → Bool) (xs : List ℕ) → ((n : ℕ) → p n ≡ false) → filter p xs ≡ []
filter_none p [] h = refl
filter_none p (x ∷ xs) h = rw (h x) (filter_none p xs h)

not_twice : (b : Bool) → (b && not b) ≡ false
not_twice true = refl
not_twice false = refl

not_written : (name : List ℕ) (n : ℕ) → written name n n ≡ []
not_written name n = rw (eq-eqb n n refl) refl

-- where no number is another one, there is nothing to do
nothing_to_do : (usable : List ℕ) (old new : SelectNumbers) → new ≡ old
    → deletions_of usable old new ++ writes_of old new ≡ []
nothing_to_do usable old new e =
    let gone : deletions_of usable old old ≡ [] =
    ap (map (λ n. delete_key (set_name n ∷ [])))
    (filter_none (λ n. has_number (four_of old) n && not (has_number (four_of old) n)) usable
    (λ n. not_twice (has_number (four_of old) n))) in
    let made : writes_of old old ≡ [] =
    λ i. not_written (codes "Current") old.current i ++ not_written (codes "Default") old.default i
    ++ not_written (codes "Failed") old.failed i ++ not_written (codes "LastKnownGood") old.good i in
    ap (λ s. deletions_of usable old s ++ writes_of old s) e ∙ (λ i. gone i ++ made i)

-- where the tree stays as it was, the plan without a guard had nothing to write or delete
plain_changes : (t u : Tree) (on_good : Bool) (usable : List ℕ)
    → ((select_numbers_of t).good ≡ taken_number (select_numbers_of t) on_good → ⊥)
    → (select_numbers_of u).current ≡ taken_number (select_numbers_of t) on_good → u ≡ t
    → deletions_of usable (select_numbers_of t) (begun (select_numbers_of t) on_good)
    ++ writes_of (select_numbers_of t) (begun (select_numbers_of t) on_good) ≡ []
plain_changes t u true usable other current same = absurd (other refl)
plain_changes t u false usable other current same =
    let old : SelectNumbers = select_numbers_of t in
    let was : old.default ≡ old.current = sym current ∙ ap (λ v. (select_numbers_of v).current) same in
    nothing_to_do usable old (begun old false)
    (λ i. record { current = was i; default = old.default; failed = old.failed; good = old.good })

-- so a plan with steps gives another tree
pub begin_changes : (version : HiveVersion) (t u : Tree) (on_good : Bool) (plan : SetPlan)
    → begin_plan_of (select_numbers_of t) (usable_numbers_of t) on_good ≡ Ok plan → stepped version t plan.steps ≡ Ok u
    → (length plan.steps ≡ 0 → ⊥) → u ≡ t → ⊥
begin_changes version t u on_good plan is made some same =
    let b = begin_case (select_numbers_of t) (usable_numbers_of t) on_good plan is in
    split b.usable_one b.kind
  where
    all : after_steps t plan.steps ≡ Ok u
    all = steps_made version plan.steps t u made

    split : has_number (usable_numbers_of t) (taken_number (select_numbers_of t) on_good) ≡ true
        → BeginCase (select_numbers_of t) (usable_numbers_of t) on_good plan → ⊥
    split usable (guarded free free_is good p) =
        let g = begins_guarded t u on_good free usable free_is good
        (ap (λ (q : SetPlan). after_steps t q.steps) (sym p) ∙ all) in
        g.0.apart (ap (λ v. (select_numbers_of v).good) same ∙ good)
    split usable (plain other p) =
        let g = begins_plain t u on_good usable other (ap (λ (q : SetPlan). after_steps t q.steps) (sym p) ∙ all) in
        let none : plan.steps ≡ [] =
        ap (λ (q : SetPlan). q.steps) p ∙ plain_changes t u on_good (usable_numbers_of t) other g.current same in
        some (ap length none)

-- ---- the beginning of a tree

-- the change comes of a plan
pub record Planned (version : HiveVersion) (t : Tree) (r : Result SetPlan SetStop) (change : SetChange) : Type 0 where
  pub plan : SetPlan
  pub is : r ≡ Ok plan
  pub chosen : plan.chosen ≡ change.chosen
  pub numbers : plan.numbers ≡ change.numbers
  pub has_steps : not (length plan.steps == 0) ≡ change.has_steps
  pub made : stepped version t plan.steps ≡ Ok change.tree

by_steps : (version : HiveVersion) (t : Tree) (plan : SetPlan) (change : SetChange) (s : Result Tree Refusal)
    → stepped version t plan.steps ≡ s → changed_by plan s ≡ Ok change → Planned version t (Ok plan) change
by_steps version t plan change (Ok v) is e =
    let made : SetChange = record
    { chosen = plan.chosen; numbers = plan.numbers; has_steps = not (length plan.steps == 0); tree = v } in
    let q : made ≡ change = cc in
    let P : SetChange → Type 0 = Planned version t (Ok plan) in
    subst P q (record { plan = plan; is = refl; chosen = refl; numbers = refl; has_steps = refl; made = is })
by_steps version t plan change (Err why) is e = absurd cc

-- each change comes of a plan, by whether there is one
pub by_plan : (version : HiveVersion) (t : Tree) (r : Result SetPlan SetStop) (change : SetChange)
    → planned version t r ≡ Ok change → Planned version t r change
by_plan version t (Ok plan) change e = by_steps version t plan change (stepped version t plan.steps) refl e
by_plan version t (Err stop) change e = absurd cc

pub begin_of-begins : (version : HiveVersion) (t : Tree) (on_good : Bool) (change : SetChange)
    → begin_of version t on_good ≡ Ok change → Begins t on_good change.chosen change.tree
begin_of-begins version t on_good change e =
    let p = by_plan version t (begin_plan_of (select_numbers_of t) (usable_numbers_of t) on_good) change e in
    let P : ℕ → Type 0 = λ m. Begins t on_good m change.tree in
    subst P p.chosen (begins version t change.tree on_good p.plan p.is p.made)
