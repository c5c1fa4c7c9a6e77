-- Which entries a set has with one off, and which of them a phase takes.
use Rattle.std.proofs.Common.{◌≡◌, ℕ, Bool, true, false, nat_eq, cond, List, [], ◌∷◌, Option, Some, None, refl, sym, ap, ◌∙◌, ◌⊎◌, inl, inr, subst, arith}
use Rattle.std.specs.Prelude.{Contains, find, slice_get, codes, option_map, option_and_then}
use Rattle.std.specs.Option.{option_map_or}
use Rattle.std.proofs.lemmas.Bool.{false≢true, cases_Bool, or_cases, eqb-true}
use Rattle.nt_bytes.specs.Folding.{folds_same}
use Rattle.nt_names.proofs.FoldLemmas.{alike}
use Rattle.hive_model.specs.Tree.{Item, Tree, key, head, children, is_named, is_item, find_item, find_dword, find_key, dword_in}
use Rattle.hive_model.specs.Edit.{at_first, of_children}
use Rattle.hive_model.specs.Valid.{HoldsKeys}
use Rattle.start_model.proofs.HeldLemmas.{services_differ}
use Rattle.start_model.specs.Entries.{Entry, Phase, Boot, System, Automatic, Done, entry_of, entry_with, entries_of, services_of, is_driver_of, places_of}
use Rattle.start_model.specs.Order.{plan_of}
use Rattle.start_laws.proofs.FindLemmas.{find-at_first}
use Rattle.start_laws.proofs.StepLemmas.{children-of_children}
use Rattle.service_control.proofs.LeastLemmas.{from}
use Rattle.wait_cycles.proofs.InverseLemmas.{none_in}
use Rattle.wait_cycles.proofs.MetLemmas.{first_in, later_in}
use Rattle.wait_cycles.proofs.CycleLemmas.{in_cons}
use Rattle.failure_effects.proofs.HeldLemmas.{off_set_held}
use Rattle.failure_effects.specs.Switching.{as_four, off_key, off_set}
use Rattle.check_laws.proofs.TakenLemmas.{item_here, item_place, mapped_on, plan_from, plan_in, place_passes, passing_place, is_late, AreOpenToo, auto_from, auto_taken, auto_into, auto_late}
use Rattle.check_laws.proofs.SetLemmas.{one_key, entry_name, entries_apart, driver_from}

-- ---- the first that passes, changed

first_from : {X : Type 0} (p : X → Bool) (f : X → X) (xs : List X) (y : X) → Contains (at_first p f xs) y
    → Contains xs y ⊎ ((x : X) × Contains xs x × (p x ≡ true) × (f x ≡ y))
first_from p f [] y c = absurd (none_in y c)
first_from {X} p f (x ∷ xs) y c = by (p x) refl (first_from p f xs y) c
  where
    Goal : Type 0
    Goal = Contains (x ∷ xs) y ⊎ ((z : X) × Contains (x ∷ xs) z × (p z ≡ true) × (f z ≡ y))

    by : (b : Bool) → p x ≡ b → (Contains (at_first p f xs) y → Contains xs y ⊎ ((z : X) × Contains xs z × (p z ≡ true) × (f z ≡ y)))
        → Contains (cond b (f x ∷ xs) (x ∷ at_first p f xs)) y
        → Contains (x ∷ xs) y ⊎ ((z : X) × Contains (x ∷ xs) z × (p z ≡ true) × (f z ≡ y))
    by true is rest c = elim (in_cons (f x) xs y c) [
      | inl e ↦ inr (x, first_in x xs, is, e)
      | inr i ↦ inl (later_in x xs y i)
    ]
    by false is rest c = elim (in_cons x (at_first p f xs) y c) [
      | inl e ↦ inl (subst (Contains (x ∷ xs)) e (first_in x xs))
      | inr i ↦ elim (rest i) [ inl j ↦ inl (later_in x xs y j) | inr z ↦ inr (z.0, later_in x xs z.0 z.1, z.2, z.3) ]
    ]

-- where one passes, one is changed
first_changed : {X : Type 0} (p : X → Bool) (f : X → X) (xs : List X) (x : X) → Contains xs x → p x ≡ true
    → (y : X) × Contains xs y × (p y ≡ true) × Contains (at_first p f xs) (f y)
first_changed p f [] x c h = absurd (none_in x c)
first_changed {X} p f (z ∷ xs) x c h = by (p z) refl (λ i. first_changed p f xs x i h) (in_cons z xs x c)
  where
    by : (b : Bool) → p z ≡ b → (Contains xs x → (y : X) × Contains xs y × (p y ≡ true) × Contains (at_first p f xs) (f y))
        → (z ≡ x) ⊎ Contains xs x
        → (y : X) × Contains (z ∷ xs) y × (p y ≡ true) × Contains (cond b (f z ∷ xs) (z ∷ at_first p f xs)) (f y)
    by true is rest e = (z, first_in z xs, is, first_in (f z) xs)
    by false is rest (inl e) = absurd (false≢true (sym is ∙ ap p e ∙ h))
    by false is rest (inr i) = let r = rest i in (r.0, later_in z xs r.0 r.1, r.2, later_in z (at_first p f xs) (f r.0) r.3)

-- ---- the services of a set with one off

pub head_name : (change : List Tree → List Tree) (t : Tree) → (head (of_children change t)).name ≡ (head t).name
head_name change (key h ts) = refl

off_name : (t : Tree) → (head (off_key t)).name ≡ (head t).name
off_name (key h ts) = refl

pub last_step : (o : Option Tree) → option_and_then (find_key []) o ≡ o
last_step None = refl
last_step (Some t) = refl

off_services : (name : List ℕ) (set : Tree) → services_of (off_set name set) ≡ at_first (is_named name) off_key (services_of set)
off_services name set =
    ap (λ (o : Option Tree). option_map_or children (option_and_then (find_key []) o) [])
    (ap (find (is_named (codes "Services"))) (children-of_children (at_first (is_named (codes "Services")) change) set)
    ∙ find-at_first (is_named (codes "Services")) change (λ t h. ap (folds_same (codes "Services")) (head_name (at_first (is_named name) off_key) t) ∙ h) (children set))
    ∙ by (find (is_named (codes "Services")) (children set))
  where
    change : Tree → Tree
    change t = of_children (at_first (is_named name) off_key) t

    by : (o : Option Tree) → option_map_or children (option_and_then (find_key []) (option_map (λ t. of_children (at_first (is_named name) off_key) t) o)) []
        ≡ at_first (is_named name) off_key (option_map_or children (option_and_then (find_key []) o) [])
    by None = refl
    by (Some t) = children-of_children (at_first (is_named name) off_key) t

-- ---- an entry that is off

four_read : (v : Item) → dword_in (as_four v) ≡ Some 4
four_read v = refl

off_item : (t : Tree) → find_item (codes "Start") (off_key t) ≡ option_map as_four (find_item (codes "Start") t)
off_item (key h ts) = find-at_first (is_item (codes "Start")) as_four (λ v e. e) h.values

off_dword : (o : Option Item) → option_and_then dword_in (option_map as_four o) ≡ option_map (λ _. 4) o
off_dword None = refl
off_dword (Some v) = four_read v

entry_start : (t : Tree) (o : Option Item) (kind : Option ℕ) (e : Entry) → entry_with t (option_map (λ _. 4) o) kind ≡ Some e → e.start ≡ 4
entry_start t None kind e h = absurd cc
entry_start t (Some v) None e h = absurd cc
entry_start t (Some v) (Some k) e h = ap (λ (o : Option Entry). option_map_or (λ (x : Entry). x.start) o 0) (sym h)

off_start : (t : Tree) (e : Entry) → entry_of (off_key t) ≡ Some e → e.start ≡ 4
off_start t e h =
    entry_start (off_key t) (find_item (codes "Start") t) (find_dword (codes "Type") (off_key t)) e
    (ap (λ (o : Option ℕ). entry_with (off_key t) o (find_dword (codes "Type") (off_key t)))
    (sym (ap (option_and_then dword_in) (off_item t) ∙ off_dword (find_item (codes "Start") t))) ∙ h)

-- an entry of the set with a name off is off, or is an entry of the set of another name
pub off_entry : (name : List ℕ) (set : Tree) → HoldsKeys set → (e : Entry) → Contains (entries_of (off_set name set)) e
    → (e.start ≡ 4) ⊎ (Contains (entries_of set) e × (folds_same name e.name ≡ false))
off_entry name set holds e c =
    let t = from entry_of (services_of (off_set name set)) e c in
    by t.item t.there t.is
    (first_from (is_named name) off_key (services_of set) t.item
    (subst (λ (l : List Tree). Contains l t.item) (off_services name set) t.there))
  where
    by : (t : Tree) → Contains (services_of (off_set name set)) t → entry_of t ≡ Some e
        → Contains (services_of set) t ⊎ ((x : Tree) × Contains (services_of set) x × (is_named name x ≡ true) × (off_key x ≡ t))
        → (e.start ≡ 4) ⊎ (Contains (entries_of set) e × (folds_same name e.name ≡ false))
    by t there is (inr x) = inl (off_start x.0 e (ap entry_of x.3 ∙ is))
    by t there is (inl i) = elim (cases_Bool (folds_same name e.name)) [
      | inr off ↦ inr (mapped_on entry_of (services_of set) t e i is, off)
      | inl same ↦
          (let named : e.name ≡ (head t).name =
          entry_name t (find_dword (codes "Start") t) (find_dword (codes "Type") t) e is in
          let mine : is_named name t ≡ true = ap (folds_same name) (sym named) ∙ same in
          let y = first_changed (is_named name) off_key (services_of set) t i mine in
          let there' : Contains (services_of (off_set name set)) (off_key y.0) =
          subst (λ (l : List Tree). Contains l (off_key y.0)) (sym (off_services name set)) y.3 in
          let one : folds_same (head (off_key y.0)).name (head t).name ≡ true =
          ap (λ (n : List ℕ). folds_same n (head t).name) (off_name y.0)
          ∙ sym (alike name (head y.0).name y.2 (head t).name) ∙ mine in
          let key_is : off_key y.0 ≡ t =
          one_key (services_of (off_set name set)) (off_key y.0) t (services_differ (off_set name set) (off_set_held name set holds)) there' there one in
          inl (off_start y.0 e (ap entry_of key_is ∙ is)))
    ]

-- ---- what a phase takes of it

late_four : (n : ℕ) → is_late n ≡ true → n ≡ 4 → ⊥
late_four n h four = elim (or_cases (nat_eq n 2) (nat_eq n 3) h) [
  | inl e ↦ omega (arith, eqb-true n 2 e, four)
  | inr e ↦ omega (arith, eqb-true n 3 e, four)
]

driver_off : (name : List ℕ) (set : Tree) → HoldsKeys set → (start : ℕ) → (start ≡ 4 → ⊥) → (p : ℕ) (e : Entry)
    → Contains (places_of (is_driver_of start []) (entries_of (off_set name set))) p → slice_get (entries_of (off_set name set)) p ≡ Some e
    → (q : ℕ) × Contains (places_of (is_driver_of start []) (entries_of set)) q × (slice_get (entries_of set) q ≡ Some e)
    × (folds_same name e.name ≡ false)
driver_off name set holds start other p e c is = elim (off_entry name set holds e (item_here (entries_of (off_set name set)) p e is)) [
  | inl four ↦ absurd (other (sym (driver_from (entries_of (off_set name set)) start [] p e c is).1 ∙ four))
  | inr i ↦ (let q = item_place (entries_of set) e i.0 in (
    q.0,
    passing_place (is_driver_of start []) (entries_of set) q.0 e q.1
        (place_passes (is_driver_of start []) (entries_of (off_set name set)) p e c is),
    q.1,
    i.1,
  ))
]

open_set : (name : List ℕ) (set : Tree) → HoldsKeys set → AreOpenToo (entries_of (off_set name set)) [] (entries_of set) []
open_set name set holds e there open' late = elim (off_entry name set holds e there) [
  | inl four ↦ absurd (late_four e.start late four)
  | inr i ↦ (i.0, open')
]

-- what a phase takes of the set with a name off it takes of the set, and it has another name
pub off_plan : (name : List ℕ) (set : Tree) → HoldsKeys set → (phase : Phase) (e : Entry) → Contains (plan_of (off_set name set) phase []) e
    → Contains (plan_of set phase []) e × (folds_same name e.name ≡ false)
off_plan name set holds Boot e c =
    let t = plan_from (off_set name set) Boot [] e c in
    let d = driver_off name set holds 0 (λ z. omega (arith, z)) t.place e t.taken t.here in
    (plan_in set Boot [] e (record { place = d.0; taken = d.1; here = d.2 }), d.3)
off_plan name set holds System e c =
    let t = plan_from (off_set name set) System [] e c in
    let d = driver_off name set holds 1 (λ z. omega (arith, z)) t.place e t.taken t.here in
    (plan_in set System [] e (record { place = d.0; taken = d.1; here = d.2 }), d.3)
off_plan name set holds Automatic e c =
    let t = plan_from (off_set name set) Automatic [] e c in
    let a = auto_from (entries_of (off_set name set)) [] e t in
    let late = auto_late (entries_of (off_set name set)) [] (entries_of set) [] (open_set name set holds) (entries_apart set holds) e a in (
      plan_in set Automatic [] e (auto_taken (entries_of set) [] e
          (auto_into (entries_of (off_set name set)) [] (entries_of set) [] (open_set name set holds) (entries_apart set holds) e a)),
      elim (off_entry name set holds e (item_here (entries_of (off_set name set)) t.place e t.here)) [
        | inl four ↦ absurd (late_four e.start late four)
        | inr i ↦ i.1
      ],
    )
off_plan name set holds Done e c = absurd (none_in e c)
