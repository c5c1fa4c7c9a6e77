-- A tree in which LastKnownGood names a good set, or no set as long as it never did, and what keeps it so.
use Rattle.std.proofs.Common.{◌≡◌, inl, inr, ℕ, ◌≤◌, Bool, true, false, ◌&&◌, ◌||◌, ◌==◌, cond, leb, List, [], ◌∷◌, ◌++◌, Some, None, Ok, refl, sym, ap, subst, ◌∙◌, append-nil, eq-eqb}
use Rattle.std.specs.Prelude.{Contains}
use Rattle.std.specs.Option.{is_some}
use Rattle.std.specs.List.{list_any}
use Rattle.std.proofs.lemmas.Bool.{false≢true, leb-true, or_left}
use Rattle.std.proofs.lemmas.List.Elements.{Contains-push}
use Rattle.std.proofs.lemmas.List.Folds.{list_any-append}
use Rattle.nt_bytes.specs.declared.version.HiveVersion.{HiveVersion}
use Rattle.hive_model.specs.Tree.{Tree}
use Rattle.hive_model.specs.Edit.{renamed, after_steps}
use Rattle.start_model.specs.Sets.{SelectNumbers, SetPlan, SetChange, set_name, set_of, numbers_in, select_numbers_of, usable_numbers_of, is_usable, has_number, deletions_of, writes_of, taken_number, begun, plan_with, begin_plan_of, stepped, begin_of, save_of}
use Rattle.start_model.specs.Act.{Note, Held, Saved}
use Rattle.start_model.specs.Starter.{good_is_usable}
use Rattle.start_model.specs.Fits.{held_in, saved_in, good_set_of, first_good_in, IsGoodSet, NamesGood, IsGoodBehind}
use Rattle.start_laws.proofs.UsableLemmas.{usable_parts, usable_is, small_among}
use Rattle.start_laws.proofs.StepLemmas.{select_key, parted, steps_made}
use Rattle.start_laws.proofs.PlanLemmas.{settled}
use Rattle.start_laws.proofs.BeginLemmas.{BeginCase, guarded, plain, begin_case, some_tree, good_set, same_set, names_good, begins, by_plan, begin_of-begins}
use Rattle.start_laws.specs.Changes.{KeepsRest}
use Rattle.start_laws.proofs.MadeLemmas.{taken_there}
use Rattle.start_laws.proofs.SaveLemmas.{save_of-saves}
use Rattle.start_laws.proofs.GoodLemmas.{good_stays, held_more, saved_more}
use Rattle.kept_laws.proofs.EditLemmas.{KeepsSets}

-- ---- what was noted so far

-- one note more
abbrev pub push : List Note → Note → List Note
push h n = h ++ n ∷ []

-- LastKnownGood named a set in a tree that was held
abbrev pub named : List Note → Bool
named h = list_any good_is_usable (held_in h)

-- some tree was held
pub record HasHeld (h : List Note) : Type 0 where
  pub first : Tree
  pub more : List Tree
  pub are : held_in h ≡ first ∷ more

-- ---- a tree

-- LastKnownGood names a good set in the tree, by the trees that were held and the clones that were saved; or it names
-- none, and named none in an earlier tree
pub data IsFine (h : List Note) (t : Tree) : Type 0 where
  names_good_set : NamesGood (held_in h ++ t ∷ []) (saved_in h) t → IsFine h t
  never_named : named h ≡ false → good_is_usable t ≡ false → IsFine h t

-- a note that holds no tree and saves no clone
pub fine_note : (h k : List Note) (t : Tree) → held_in k ≡ held_in h → saved_in k ≡ saved_in h → IsFine h t → IsFine k t
fine_note h k t held saved (names_good_set g) =
    let P : List Tree → Type 0 = λ ts. NamesGood (ts ++ t ∷ []) (saved_in h) t in
    let Q : List Tree → Type 0 = λ cs. NamesGood (held_in k ++ t ∷ []) cs t in
    names_good_set (subst Q (sym saved) (subst P (sym held) g))
fine_note h k t held saved (never_named e none) = never_named (ap (list_any good_is_usable) held ∙ e) none

pub same_held : (h : List Note) (n : Note) → held_in (n ∷ []) ≡ [] → held_in (push h n) ≡ held_in h
same_held h n none = held_more h n ∙ ap (λ ts. held_in h ++ ts) none ∙ append-nil (held_in h)

pub same_saved : (h : List Note) (n : Note) → saved_in (n ∷ []) ≡ [] → saved_in (push h n) ≡ saved_in h
same_saved h n none = saved_more h n ∙ ap (λ ts. saved_in h ++ ts) none ∙ append-nil (saved_in h)

-- with one clone more
pub fine_saved : (h : List Note) (clone t : Tree) → IsFine h t → IsFine (push h (Saved clone)) t
fine_saved h clone t (names_good_set g) =
    let held : held_in (push h (Saved clone)) ≡ held_in h = same_held h (Saved clone) refl in
    let P : List Tree → Type 0 = λ ts. NamesGood (ts ++ t ∷ []) (saved_in (push h (Saved clone))) t in
    let Q : List Tree → Type 0 = λ cs. NamesGood (held_in h ++ t ∷ []) cs t in
    let T : List Tree → Type 0 = λ ts. IsGoodSet ts (saved_in h ++ clone ∷ []) g.0 in
    let grown : IsGoodSet (held_in h ++ t ∷ []) (saved_in h ++ clone ∷ []) g.0 =
    subst T (append-nil (held_in h ++ t ∷ []))
    (good_stays (held_in h ++ t ∷ []) [] (saved_in h) (clone ∷ []) g.0 g.1.1) in
    names_good_set (subst P (sym held) (subst Q (sym (saved_more h (Saved clone))) (g.0, (g.1.0, grown))))
fine_saved h clone t (never_named e none) =
    never_named (ap (list_any good_is_usable) (same_held h (Saved clone) refl) ∙ e) none

-- once the tree itself is one of those that were held
pub fine_held : (h : List Note) (t : Tree) → IsFine h t → IsFine (push h (Held t)) t
fine_held h t (names_good_set g) =
    let P : List Tree → Type 0 = λ ts. NamesGood (ts ++ t ∷ []) (saved_in (push h (Held t))) t in
    let Q : List Tree → Type 0 = λ cs. NamesGood ((held_in h ++ t ∷ []) ++ t ∷ []) cs t in
    let C : List Tree → Type 0 = λ cs. IsGoodSet ((held_in h ++ t ∷ []) ++ t ∷ []) cs g.0 in
    let grown : IsGoodSet ((held_in h ++ t ∷ []) ++ t ∷ []) (saved_in h) g.0 =
    subst C (append-nil (saved_in h)) (good_stays (held_in h ++ t ∷ []) (t ∷ []) (saved_in h) [] g.0 g.1.1) in
    names_good_set (subst P (sym (held_more h (Held t)))
    (subst Q (sym (same_saved h (Held t) refl)) (g.0, (g.1.0, grown))))
fine_held h t (never_named e none) =
    let both : list_any good_is_usable (held_in h ++ t ∷ []) ≡ false =
    list_any-append good_is_usable (held_in h) (t ∷ []) ∙ ap (λ b. b || (good_is_usable t || false)) e
    ∙ ap (λ b. b || false) none in
    never_named (ap (list_any good_is_usable) (held_more h (Held t)) ∙ both) none

-- the promise of the book
pub fine_promised : (h : List Note) (t : Tree) → IsFine h t → IsGoodBehind h t
fine_promised h t (names_good_set g) = λ some. g
fine_promised h t (never_named e none) =
    λ some.
    (let both : list_any good_is_usable (held_in h ++ t ∷ [])
    ≡ false = list_any-append good_is_usable (held_in h) (t ∷ []) ∙ ap (λ b. b || (good_is_usable t || false)) e
    ∙ ap (λ b. b || false) none in
    absurd (false≢true (sym both ∙ some)))

-- before any tree was held, each is fine: where LastKnownGood names a set in it, that is the first good one
pub first_fine : (t : Tree) → IsFine [] t
first_fine t = split (good_is_usable t) refl
  where
    contained : (set : Tree) → good_set_of t ≡ Some set → Contains (first_good_in (t ∷ [])) set
    contained set e = rw e (Contains-push [] set)

    split : (b : Bool) → good_is_usable t ≡ b → IsFine [] t
    split true is =
        let g : ℕ = (select_numbers_of t).good in
        let low = usable_parts t g is in
        let k = some_tree (set_of t g) low.there in
        let named : good_set_of t ≡ Some k.0 = good_set t g k.0 refl low.least low.most k.1 in
        names_good_set (k.0, (named, (k.0, (inl (contained k.0 named), refl))))
    split false is = never_named refl is

-- ---- the tree of a start that runs

-- the live tree of a start that took the set of this number
pub record IsRunning (h : List Note) (live : Tree) (n : ℕ) : Type 0 where
  pub held : HasHeld h
  pub fine : IsFine h live
  pub least : 1 ≤ n
  pub most : n ≤ 999
  pub there : is_some (set_of live n) ≡ true
  pub current : (select_numbers_of live).current ≡ n
  pub apart : (select_numbers_of live).good ≡ n → ⊥
  pub select : is_some (select_key live) ≡ true

-- with more noted
pub running_by : (h k : List Note) (live : Tree) (n : ℕ) → HasHeld k → IsFine k live → IsRunning h live n
    → IsRunning k live n
running_by h k live n held fine r =
    record {
      held = held;
      fine = fine;
      least = r.least;
      most = r.most;
      there = r.there;
      current = r.current;
      apart = r.apart;
      select = r.select;
    }

pub held_note : (h k : List Note) → held_in k ≡ held_in h → HasHeld h → HasHeld k
held_note h k same b = record { first = b.first; more = b.more; are = same ∙ b.are }

pub held_then : (h : List Note) (t : Tree) → HasHeld (push h (Held t))
held_then h t = split (held_in h) refl
  where
    split : (ts : List Tree) → held_in h ≡ ts → HasHeld (push h (Held t))
    split [] e = record { first = t; more = []; are = held_more h (Held t) ∙ ap (λ l. l ++ t ∷ []) e }
    split (u ∷ us) e = record { first = u; more = us ++ t ∷ []; are = held_more h (Held t) ∙ ap (λ l. l ++ t ∷ []) e }

pub running_note : (h k : List Note) (live : Tree) (n : ℕ) → held_in k ≡ held_in h → saved_in k ≡ saved_in h
    → IsRunning h live n → IsRunning k live n
running_note h k live n held saved r =
    running_by h k live n (held_note h k held r.held) (fine_note h k live held saved r.fine) r

-- ---- the set that LastKnownGood names stays

same_where : (a b c d : Bool) → (b ≡ true → c ≡ d) → ((a && b) && c) ≡ ((a && b) && d)
same_where true true c d h = h refl
same_where true false c d h = refl
same_where false b c d h = refl

usable_kept : (t u : Tree) (n : ℕ) → (n ≤ 999 → set_of u n ≡ set_of t n) → is_usable u n ≡ is_usable t n
usable_kept t u n same = same_where (leb 1 n) (leb n 999) (is_some (set_of u n)) (is_some (set_of t n))
    (λ le. ap is_some (same (leb-true n 999 le)))

-- the number is the same, and so is its set
record KeepsGoodSet (t u : Tree) : Type 0 where
  number : (select_numbers_of u).good ≡ (select_numbers_of t).good
  set : (select_numbers_of t).good ≤ 999 → set_of u (select_numbers_of t).good ≡ set_of t (select_numbers_of t).good

still_usable : (t u : Tree) → KeepsGoodSet t u → good_is_usable u ≡ good_is_usable t
still_usable t u k = ap (is_usable u) k.number ∙ usable_kept t u (select_numbers_of t).good k.set

same_good_set : (t u : Tree) → KeepsGoodSet t u → good_set_of u ≡ good_set_of t
same_good_set t u k = split (good_is_usable t) refl
  where
    split : (b : Bool) → good_is_usable t ≡ b → good_set_of u ≡ good_set_of t
    split true is =
        let low = usable_parts t (select_numbers_of t).good is in
        ap (λ b. cond b (set_of u (select_numbers_of u).good) None) (still_usable t u k ∙ is) ∙ ap (set_of u) k.number
        ∙ k.set low.most ∙ ap (λ b. cond b (set_of t (select_numbers_of t).good) None) (sym is)
    split false is = ap (λ b. cond b (set_of u (select_numbers_of u).good) None) (still_usable t u k ∙ is)
        ∙ ap (λ b. cond b (set_of t (select_numbers_of t).good) None) (sym is)

-- after a tree that was held, the first one is that
other_last : (h : List Note) (t u : Tree) (set : Tree) → HasHeld h → IsGoodSet (held_in h ++ t ∷ []) (saved_in h) set
    → IsGoodSet (held_in h ++ u ∷ []) (saved_in h) set
other_last h t u set b g =
    let P : List Tree → Type 0 = λ ts. IsGoodSet (ts ++ t ∷ []) (saved_in h) set in
    let Q : List Tree → Type 0 = λ ts. IsGoodSet (ts ++ u ∷ []) (saved_in h) set in
    let here : IsGoodSet ((b.first ∷ b.more) ++ t ∷ []) (saved_in h) set = subst P b.are g in
    let there : IsGoodSet ((b.first ∷ b.more) ++ u ∷ []) (saved_in h) set = (here.0, (here.1.0, here.1.1)) in
    subst Q (sym b.are) there

fine_kept : (h : List Note) (t u : Tree) → HasHeld h → KeepsGoodSet t u → IsFine h t → IsFine h u
fine_kept h t u b k (names_good_set g) =
    names_good_set (g.0, (same_good_set t u k ∙ g.1.0, other_last h t u g.0 b g.1.1))
fine_kept h t u b k (never_named e none) = never_named e (still_usable t u k ∙ none)

-- where all but the sets and the numbers is kept, `Select` stays
select_stays : (t u : Tree) → KeepsRest t u → is_some (select_key t) ≡ true → is_some (select_key u) ≡ true
unfolding select_key
select_stays t u k there =
    let old = some_tree (select_key t) there in
    let new = k.select old.0 old.1 in
    ap is_some new.1.0

-- ---- an edit

pub edit_runs : (h : List Note) (t u : Tree) (n : ℕ) → KeepsSets n t u → IsRunning h t n → IsRunning h u n
unfolding select_key
edit_runs h t u n k r =
    let numbers : select_numbers_of u ≡ select_numbers_of t = ap numbers_in k.others.select in
    let good : (select_numbers_of u).good ≡ (select_numbers_of t).good = ap (λ (s : SelectNumbers). s.good) numbers in
    record {
      held = r.held;
      fine = fine_kept h t u r.held
          (record { number = good; set = λ le. k.others.sets (select_numbers_of t).good le r.apart }) r.fine;
      least = r.least;
      most = r.most;
      there = k.taken r.there;
      current = ap (λ (s : SelectNumbers). s.current) numbers ∙ r.current;
      apart = λ e. r.apart (sym good ∙ e);
      select = ap is_some k.others.select ∙ r.select;
    }

-- ---- a save

pub save_runs : (version : HiveVersion) (h : List Note) (t clone : Tree) (change : SetChange) (n : ℕ)
    → save_of version t clone ≡ Ok change → IsRunning h t n → IsRunning (push h (Saved clone)) change.tree n
save_runs version h t clone change n is r =
    let s = save_of-saves version t clone change is in
    let other : n ≡ change.chosen → ⊥ =
    λ e. false≢true (ap is_some (sym s.lowest.free) ∙ ap (λ m. is_some (set_of t m)) (sym e) ∙ r.there) in
    let P : List Tree → Type 0 = λ cs. Contains cs clone in
    let saved : Contains (saved_in (push h (Saved clone))) clone =
    subst P (sym (saved_more h (Saved clone))) (Contains-push (saved_in h) clone) in
    record {
      held = held_note h (push h (Saved clone)) (same_held h (Saved clone) refl) r.held;
      fine = names_good_set (
        renamed (set_name change.chosen) clone,
        (s.named, (clone, (inr saved, same_set (set_name change.chosen) clone))),
      );
      least = r.least;
      most = r.most;
      there = ap is_some (s.sets n r.most (or_left ((select_numbers_of t).current == n) _ (eq-eqb _ _ r.current))
          other) ∙ r.there;
      current = s.current ∙ r.current;
      apart = λ e. other (sym e ∙ s.good);
      select = select_stays t change.tree s.rest r.select;
    }

-- ---- a beginning

-- without the guard
plain_keeps : (t u : Tree) (on_good : Bool) → ((select_numbers_of u).good ≡ (select_numbers_of t).good)
    → after_steps t (plan_with (taken_number (select_numbers_of t) on_good) (usable_numbers_of t) (select_numbers_of t)
    (begun (select_numbers_of t) on_good) []).steps ≡ Ok u → KeepsGoodSet t u
plain_keeps t u on_good same e =
    let old : SelectNumbers = select_numbers_of t in
    let new : SelectNumbers = begun old on_good in
    let last = parted (deletions_of (usable_numbers_of t) old new) (writes_of old new) t u e in
    let s = settled (usable_numbers_of t) old new t last.middle u (small_among _ t) refl last.front last.back in
    record { number = same; set = λ le. s.sets old.good le (names_good new) }

begin_fine : (version : HiveVersion) (h : List Note) (t u : Tree) (on_good : Bool) (plan : SetPlan)
    → begin_plan_of (select_numbers_of t) (usable_numbers_of t) on_good ≡ Ok plan
    → stepped version t plan.steps ≡ Ok u → HasHeld h → IsFine h t → IsFine h u
begin_fine version h t u on_good plan is made b (names_good_set g) =
    let k = (begins version t u on_good plan is made).kept g.0 g.1.0 in
    let good = other_last h t u g.0 b g.1.1 in
    names_good_set (k.0, (k.1.0, (good.0, (good.1.0, k.1.1 ∙ good.1.1))))
begin_fine version h t u on_good plan is made b (never_named e none) =
    let c = begin_case (select_numbers_of t) (usable_numbers_of t) on_good plan is in by_kind c.usable_one c.kind
  where
    by_kind : has_number (usable_numbers_of t) (taken_number (select_numbers_of t) on_good) ≡ true
        → BeginCase (select_numbers_of t) (usable_numbers_of t) on_good plan → IsFine h u
    by_kind usable (guarded free free_is same p) =
        absurd (false≢true (sym none ∙ ap (is_usable t) same
        ∙ usable_is t (taken_number (select_numbers_of t) on_good) usable))
    by_kind usable (plain other p) =
        let s = begins version t u on_good plan is made in
        let good : (select_numbers_of u).good ≡ (select_numbers_of t).good = s.unguarded (λ e. other (e ∙ s.taken)) in
        fine_kept h t u b (plain_keeps t u on_good good
        (ap (λ (q : SetPlan). after_steps t q.steps) (sym p) ∙ steps_made version plan.steps t u made))
        (never_named e none)

pub begin_runs : (version : HiveVersion) (h : List Note) (t : Tree) (on_good : Bool) (change : SetChange)
    → begin_of version t on_good ≡ Ok change → HasHeld h → IsFine h t → IsRunning h change.tree change.chosen
begin_runs version h t on_good change e held fine =
    let p = by_plan version t (begin_plan_of (select_numbers_of t) (usable_numbers_of t) on_good) change e in
    let s = begin_of-begins version t on_good change e in
    let b = begin_case (select_numbers_of t) (usable_numbers_of t) on_good p.plan p.is in
    let usable : is_usable t change.chosen ≡ true =
    ap (is_usable t) s.taken ∙ usable_is t (taken_number (select_numbers_of t) on_good) b.usable_one in
    let low = usable_parts t change.chosen usable in
    record {
      held = held;
      fine = begin_fine version h t change.tree on_good p.plan p.is p.made held fine;
      least = low.least;
      most = low.most;
      there = ap is_some s.set ∙ low.there;
      current = s.current;
      apart = s.apart;
      select = select_stays t change.tree s.rest
          (taken_there t on_good (usable_parts t (taken_number (select_numbers_of t) on_good)
          (usable_is t (taken_number (select_numbers_of t) on_good) b.usable_one)).least);
    }
