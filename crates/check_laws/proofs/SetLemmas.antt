-- The start of a set as the phases of its rows: what a phase takes doesn't depend on what was tried before it.
use Rattle.std.proofs.Common.{◌≡◌, ℕ, ◌<◌, Bool, true, false, not, ◌&&◌, ◌||◌, nat_eq, cond, List, [], map, get_or, Option, Some, None, refl, sym, ap, ◌∙◌, inl, inr, subst, arith}
use Rattle.std.specs.Prelude.{Contains, slice_get, codes}
use Rattle.std.specs.Option.{option_map_or}
use Rattle.std.proofs.lemmas.Bool.{false≢true, cases_lt, and_parts, and_from, or_cases, eqb-true, false_from_ne_true}
use Rattle.std.proofs.lemmas.List.{get_or_default}
use Rattle.std.proofs.lemmas.Option.{same_Some}
use Rattle.nt_bytes.specs.Folding.{folds_same}
use Rattle.hive_model.specs.Tree.{Tree, head, find_dword}
use Rattle.hive_model.specs.Valid.{HoldsKeys, KeysDiffer}
use Rattle.reg_tree.proofs.Unlike.{folds_swap}
use Rattle.start_model.specs.Demand.{Need}
use Rattle.start_model.specs.Entries as book
use Rattle.start_model.specs.Entries.{Entry, Phase, entry_of, entry_with, entries_of, services_of, is_driver, is_service, was_tried, is_driver_of, is_open, places_of, need_of}
use Rattle.start_model.specs.Order.{plan_of}
use Rattle.start_model.proofs.HeldLemmas.{services_differ}
use Rattle.wait_cycles.proofs.MetLemmas.{any_from, any_gives}
use Rattle.service_check.specs.declared.stage.Stage.{Stage}
use Rattle.service_check.specs.declared.stage.Stage.TheVariants as stages
use Rattle.service_check.specs.declared.stage.Staged.{Staged}
use Rattle.service_check.specs.Stages.{names_taken, Taken, taken_names, takes, stage_in, staged_in, rows_of}
use Rattle.service_control.proofs.LeanLemmas.{folds_itself, mapped_from, mapped_to}
use Rattle.service_control.proofs.LeastLemmas.{from}
use Rattle.check_laws.proofs.TakenLemmas.{item_here, item_place, plan_from, plan_in, place_passes, passing_place, is_late, AreApart, AreOpenToo, auto_from, auto_taken, auto_into, auto_late}
use Rattle.check_laws.proofs.TurnLemmas.{IsPhase, phase_as}
use Rattle.check_laws.proofs.RowLemmas.{RowsApart}
use Rattle.check_laws.proofs.UnmetLemmas.{IsOf}

-- ---- entries of one name

pub entry_name : (t : Tree) (start kind : Option ℕ) (e : Entry) → entry_with t start kind ≡ Some e → e.name ≡ (head t).name
entry_name t (Some s) (Some k) e h = ap (λ (o : Option Entry). option_map_or (λ (x : Entry). x.name) o []) (sym h)
entry_name t (Some s) None e h = absurd cc
entry_name t None kind e h = absurd cc

pub one_key : (keys : List Tree) (t u : Tree) → KeysDiffer keys → Contains keys t → Contains keys u
    → folds_same (head t).name (head u).name ≡ true → t ≡ u
one_key keys t u differ a b one = elim (cases_lt a.0 b.0) [
  | inl h ↦
      absurd (false≢true (sym (differ a.0 b.0 t h b.1)
      ∙ (λ i. folds_same (head (there i)).name (head (a.2 i)).name) ∙ folds_swap (head u).name (head t).name ∙ one))
  | inr h ↦ elim (cases_lt b.0 a.0) [
    | inl k ↦
        absurd (false≢true (sym (differ b.0 a.0 t k a.1) ∙ (λ i. folds_same (head (a.2 i)).name (head (there i)).name)
        ∙ one))
    | inr k ↦ (let same : a.0 ≡ b.0 = omega (arith, h, k) in sym a.2 ∙ ap (λ k. get_or keys k t) same ∙ there)
  ]
]
  where
    there : get_or keys b.0 t ≡ u
    there = get_or_default keys b.0 t u b.1 ∙ b.2

pub entries_apart : (set : Tree) → HoldsKeys set → AreApart (entries_of set)
entries_apart set holds e f there other one =
    let a = from entry_of (services_of set) e there in
    let b = from entry_of (services_of set) f other in
    let name_a = entry_name a.item (find_dword (codes "Start") a.item) (find_dword (codes "Type") a.item) e a.is in
    let name_b = entry_name b.item (find_dword (codes "Start") b.item) (find_dword (codes "Type") b.item) f b.is in
    let same : a.item ≡ b.item = one_key (services_of set) a.item b.item (services_differ set holds) a.there b.there
    ((λ i. folds_same (sym name_a i) (sym name_b i)) ∙ one) in
    same_Some e f (sym a.is ∙ ap entry_of same ∙ b.is)

-- ---- what was tried

-- each entry of which the name was tried has a Start below this one
abbrev pub TriedBelow : List Entry → List (List ℕ) → ℕ → Type 0
TriedBelow entries tried k = (e : Entry) → Contains entries e → was_tried tried e ≡ true → e.start < k

pub late_above : (n : ℕ) → is_late n ≡ true → n < 2 → ⊥
late_above n h lt = elim (or_cases (nat_eq n 2) (nat_eq n 3) h) [
  | inl e ↦ omega (arith, eqb-true n 2 e, lt)
  | inr e ↦ omega (arith, eqb-true n 3 e, lt)
]

untried : (entries : List Entry) (tried : List (List ℕ)) (k : ℕ) (e : Entry) → TriedBelow entries tried k
    → Contains entries e → (e.start < k → ⊥) → was_tried tried e ≡ false
untried entries tried k e below there over = false_from_ne_true (was_tried tried e) (λ h. over (below e there h))

-- ---- what a phase of drivers takes

pub driver_from : (entries : List Entry) (start : ℕ) (tried : List (List ℕ)) (p : ℕ) (e : Entry)
    → Contains (places_of (is_driver_of start tried) entries) p → slice_get entries p ≡ Some e
    → (is_driver e.kind ≡ true) × (e.start ≡ start)
driver_from entries start tried p e c is =
    let b = and_parts (is_driver e.kind && nat_eq e.start start) (not (was_tried tried e))
    (place_passes (is_driver_of start tried) entries p e c is) in
    let d = and_parts (is_driver e.kind) (nat_eq e.start start) b.0 in
    (d.0, eqb-true e.start start d.1)

driver_again : (entries : List Entry) (start : ℕ) (tried other : List (List ℕ)) (p : ℕ) (e : Entry)
    → Contains (places_of (is_driver_of start tried) entries) p → slice_get entries p ≡ Some e
    → was_tried other e ≡ false → Contains (places_of (is_driver_of start other) entries) p
driver_again entries start tried other p e c is un =
    passing_place (is_driver_of start other) entries p e is
    (and_from (is_driver e.kind && nat_eq e.start start) (not (was_tried other e))
    (and_parts (is_driver e.kind && nat_eq e.start start) (not (was_tried tried e))
    (place_passes (is_driver_of start tried) entries p e c is)).0 (ap not un))

-- the drivers of Start 1 are those, whatever was tried of Start 0
pub system_same : (set : Tree) (tried other : List (List ℕ)) → TriedBelow (entries_of set) other 1 → (e : Entry)
    → Contains (plan_of set book.System tried) e → Contains (plan_of set book.System other) e
system_same set tried other below e c =
    let t = plan_from set book.System tried e c in
    let d = driver_from (entries_of set) 1 tried t.place e t.taken t.here in
    plan_in set book.System other e (record {
      place = t.place;
      taken = driver_again (entries_of set) 1 tried other t.place e t.taken t.here
          (untried (entries_of set) other 1 e below (item_here (entries_of set) t.place e t.here)
          (λ lt. omega (arith, lt, d.1)));
      here = t.here;
    })

pub never_tried : (entries : List Entry) (k : ℕ) → TriedBelow entries [] k
never_tried entries k e there h = absurd (false≢true h)

open_again : (tried other : List (List ℕ)) (e : Entry) → is_open tried e ≡ true → was_tried other e ≡ false
    → is_open other e ≡ true
open_again tried other e h un =
    and_from (is_driver e.kind || is_service e.kind) (not (was_tried other e))
    (and_parts (is_driver e.kind || is_service e.kind) (not (was_tried tried e)) h).0 (ap not un)

open_too : (entries : List Entry) (tried other : List (List ℕ)) → TriedBelow entries other 2
    → AreOpenToo entries tried entries other
open_too entries tried other below e there open' late = (
  there,
  open_again tried other e open' (untried entries other 2 e below there (late_above e.start late)),
)

-- the automatic phase takes the same, whatever was tried of Start 0 and 1
pub automatic_same : (set : Tree) → HoldsKeys set → (tried other : List (List ℕ)) → TriedBelow (entries_of set) other 2
    → (e : Entry) → Contains (plan_of set book.Automatic tried) e → Contains (plan_of set book.Automatic other) e
automatic_same set holds tried other below e c =
    let entries : List Entry = entries_of set in
    plan_in set book.Automatic other e (auto_taken (entries_of set) other e
    (auto_into (entries_of set) tried (entries_of set) other (open_too (entries_of set) tried other below)
    (entries_apart set holds) e (auto_from (entries_of set) tried e (plan_from set book.Automatic tried e c))))

pub automatic_late : (set : Tree) → HoldsKeys set → (tried : List (List ℕ)) → TriedBelow (entries_of set) tried 2 → (e : Entry)
    → Contains (plan_of set book.Automatic tried) e → is_late e.start ≡ true
automatic_late set holds tried below e c =
    auto_late (entries_of set) tried (entries_of set) tried (open_too (entries_of set) tried tried below)
    (entries_apart set holds) e (auto_from (entries_of set) tried e (plan_from set book.Automatic tried e c))

pub plan_entry : (set : Tree) (phase : Phase) (tried : List (List ℕ)) (e : Entry) → Contains (plan_of set phase tried) e
    → Contains (entries_of set) e
plan_entry set phase tried e c =
    let t = plan_from set phase tried e c in item_here (entries_of set) t.place e t.here

pub boot_start : (set : Tree) (tried : List (List ℕ)) (e : Entry) → Contains (plan_of set book.Boot tried) e → e.start ≡ 0
boot_start set tried e c =
    let t = plan_from set book.Boot tried e c in (driver_from (entries_of set) 0 tried t.place e t.taken t.here).1

pub system_start : (set : Tree) (tried : List (List ℕ)) (e : Entry) → Contains (plan_of set book.System tried) e → e.start ≡ 1
system_start set tried e c =
    let t = plan_from set book.System tried e c in (driver_from (entries_of set) 1 tried t.place e t.taken t.here).1

-- ---- stages

abbrev stage_by : Bool → Bool → Bool → Bool → Option Stage
stage_by a b c d =
    cond a (Some stages.Boot) (cond b (Some stages.System) (cond c (Some stages.Automatic) (cond d (Some stages.Demand) None)))

boot_by : (a b c d : Bool) → stage_by a b c d ≡ Some stages.Boot → a ≡ true
boot_by true b c d h = refl
boot_by false true c d h = absurd cc
boot_by false false true d h = absurd cc
boot_by false false false true h = absurd cc
boot_by false false false false h = absurd cc

system_by : (a b c d : Bool) → stage_by a b c d ≡ Some stages.System → b ≡ true
system_by true b c d h = absurd cc
system_by false true c d h = refl
system_by false false true d h = absurd cc
system_by false false false true h = absurd cc
system_by false false false false h = absurd cc

automatic_by : (a b c d : Bool) → stage_by a b c d ≡ Some stages.Automatic → c ≡ true
automatic_by true b c d h = absurd cc
automatic_by false true c d h = absurd cc
automatic_by false false true d h = refl
automatic_by false false false true h = absurd cc
automatic_by false false false false h = absurd cc

demand_by : (a b c d : Bool) → stage_by a b c d ≡ Some stages.Demand → d ≡ true
demand_by true b c d h = absurd cc
demand_by false true c d h = absurd cc
demand_by false false true d h = absurd cc
demand_by false false false true h = refl
demand_by false false false false h = absurd cc

module _ (set : Tree) (holds : HoldsKeys set) where
  abbrev names : Taken
  names = taken_names set

  abbrev runs : Entry → Bool
  runs e = nat_eq e.start 3 && (is_driver e.kind || is_service e.kind)

  pub takes_from : (phase : Phase) (e : Entry) → Contains (entries_of set) e → takes (names_taken set phase) e ≡ true
      → Contains (plan_of set phase []) e
  takes_from phase e there h =
      let n = any_gives (folds_same e.name) (map (λ (e : Entry). e.name) (plan_of set phase [])) h in
      let f = mapped_from (λ (e : Entry). e.name) (plan_of set phase []) n.0 n.1 in
      subst (Contains (plan_of set phase [])) (sym (entries_apart set holds e f.item there (plan_entry set phase [] f.item f.there)
      (ap (folds_same e.name) f.is ∙ n.2))) f.there

  pub takes_in : (phase : Phase) (e : Entry) → Contains (plan_of set phase []) e → takes (names_taken set phase) e ≡ true
  takes_in phase e c =
      any_from (folds_same e.name) (map (λ (e : Entry). e.name) (plan_of set phase [])) e.name
      (mapped_to (λ (e : Entry). e.name) (plan_of set phase []) e c) (folds_itself e.name)

  takes_not : (phase : Phase) (e : Entry) → Contains (entries_of set) e → (Contains (plan_of set phase []) e → ⊥)
      → takes (names_taken set phase) e ≡ false
  takes_not phase e there out = false_from_ne_true (takes (names_taken set phase) e) (λ h. out (takes_from phase e there h))

  pub stage_boot : (e : Entry) → Contains (plan_of set book.Boot []) e → stage_in names e ≡ Some stages.Boot
  stage_boot e c =
      ap (λ a. stage_by a (takes (names_taken set book.System) e) (takes (names_taken set book.Automatic) e) (runs e))
      (takes_in book.Boot e c)

  pub stage_system : (e : Entry) → Contains (plan_of set book.System []) e → stage_in names e ≡ Some stages.System
  stage_system e c =
      let a = takes_not book.Boot e (plan_entry set book.System [] e c)
      (λ d. omega (arith, boot_start set [] e d, system_start set [] e c)) in
      λ i. stage_by (a i) (takes_in book.System e c i) (takes (names_taken set book.Automatic) e) (runs e)

  pub stage_automatic : (e : Entry) → Contains (plan_of set book.Automatic []) e → stage_in names e ≡ Some stages.Automatic
  stage_automatic e c =
      let there = plan_entry set book.Automatic [] e c in
      let late = automatic_late set holds [] (never_tried (entries_of set) 2) e c in
      let a = takes_not book.Boot e there (λ d. late_above e.start late (omega (arith, boot_start set [] e d))) in
      let b = takes_not book.System e there (λ d. late_above e.start late (omega (arith, system_start set [] e d))) in
      λ i. stage_by (a i) (b i) (takes_in book.Automatic e c i) (runs e)

  pub boot_stage : (e : Entry) → Contains (entries_of set) e → stage_in names e ≡ Some stages.Boot
      → Contains (plan_of set book.Boot []) e
  boot_stage e there h =
      takes_from book.Boot e there
      (boot_by (takes (names_taken set book.Boot) e) (takes (names_taken set book.System) e)
      (takes (names_taken set book.Automatic) e) (runs e) h)

  pub system_stage : (e : Entry) → Contains (entries_of set) e → stage_in names e ≡ Some stages.System
      → Contains (plan_of set book.System []) e
  system_stage e there h =
      takes_from book.System e there
      (system_by (takes (names_taken set book.Boot) e) (takes (names_taken set book.System) e)
      (takes (names_taken set book.Automatic) e) (runs e) h)

  pub automatic_stage : (e : Entry) → Contains (entries_of set) e → stage_in names e ≡ Some stages.Automatic
      → Contains (plan_of set book.Automatic []) e
  automatic_stage e there h =
      takes_from book.Automatic e there
      (automatic_by (takes (names_taken set book.Boot) e) (takes (names_taken set book.System) e)
      (takes (names_taken set book.Automatic) e) (runs e) h)

  pub demand_stage : (e : Entry) → stage_in names e ≡ Some stages.Demand → runs e ≡ true
  demand_stage e h =
      demand_by (takes (names_taken set book.Boot) e) (takes (names_taken set book.System) e)
      (takes (names_taken set book.Automatic) e) (runs e) h

  -- ---- rows

  -- the row of an entry
  pub row_entry : (r : Staged) → Contains (rows_of set) r → Contains (entries_of set) r.entry × (r.stage ≡ stage_in names r.entry)
  row_entry r c =
      let m = mapped_from (staged_in names) (entries_of set) r c in (
        subst (Contains (entries_of set)) (ap (λ (s : Staged). s.entry) m.is) m.there,
        sym (ap (λ (s : Staged). s.stage) m.is) ∙ ap (λ (s : Staged). stage_in names s.entry) m.is,
      )

  pub entry_row : (e : Entry) → Contains (entries_of set) e → Contains (rows_of set) (staged_in names e)
  entry_row e c = mapped_to (staged_in names) (entries_of set) e c

  pub rows_apart : RowsApart (rows_of set)
  rows_apart r s there other one =
      let a = mapped_from (staged_in names) (entries_of set) r there in
      let b = mapped_from (staged_in names) (entries_of set) s other in
      sym a.is ∙ ap (staged_in names) (entries_apart set holds a.item b.item a.there b.there
      ((λ i. folds_same (a.is i).entry.name (b.is i).entry.name) ∙ one)) ∙ b.is

  -- the needs of what a phase takes are those of the rows of its stage
  pub is_of : (stage : Stage) (e : Entry) → Contains (entries_of set) e → stage_in names e ≡ Some stage
      → IsOf (rows_of set) stage (need_of e)
  is_of stage e there h =
      let p = item_place (rows_of set) (staged_in names e) (entry_row e there) in
      record { place = p.0; row = staged_in names e; at = p.1; need = refl; stage_is = h }

  pub of_entry : (stage : Stage) (n : Need) → IsOf (rows_of set) stage n
      → (e : Entry) × Contains (entries_of set) e × (stage_in names e ≡ Some stage) × (need_of e ≡ n)
  of_entry stage n i =
      let r = row_entry i.row (item_here (rows_of set) i.place i.row i.at) in
      (i.row.entry, r.0, sym r.1 ∙ i.stage_is, i.need)

  -- ---- phases

  need_in : (stage : Stage) (xs : List Entry)
      → ((e : Entry) → Contains xs e → Contains (entries_of set) e × (stage_in names e ≡ Some stage))
      → (n : Need) → Contains (map need_of xs) n → IsOf (rows_of set) stage n
  need_in stage xs to n c =
      let m = mapped_from need_of xs n c in
      let e = to m.item m.there in
      subst (IsOf (rows_of set) stage) m.is (is_of stage m.item e.0 e.1)

  need_out : (stage : Stage) (xs : List Entry)
      → ((e : Entry) → Contains (entries_of set) e → stage_in names e ≡ Some stage → Contains xs e)
      → (n : Need) → IsOf (rows_of set) stage n → Contains (map need_of xs) n
  need_out stage xs back n i =
      let e = of_entry stage n i in subst (Contains (map need_of xs)) e.3 (mapped_to need_of xs e.0 (back e.0 e.1 e.2))

  pub boot_phase : (pre new left : List Need) → IsPhase (Contains (map need_of (plan_of set book.Boot []))) pre new left
      → IsPhase (IsOf (rows_of set) stages.Boot) pre new left
  boot_phase =
      phase_as (Contains (map need_of (plan_of set book.Boot []))) (IsOf (rows_of set) stages.Boot)
      (need_in stages.Boot (plan_of set book.Boot []) (λ e c. (plan_entry set book.Boot [] e c, stage_boot e c)))
      (need_out stages.Boot (plan_of set book.Boot []) boot_stage)

  pub system_phase : (tried : List (List ℕ)) → TriedBelow (entries_of set) tried 1 → (pre new left : List Need)
      → IsPhase (Contains (map need_of (plan_of set book.System tried))) pre new left
      → IsPhase (IsOf (rows_of set) stages.System) pre new left
  system_phase tried below =
      phase_as (Contains (map need_of (plan_of set book.System tried))) (IsOf (rows_of set) stages.System)
      (need_in stages.System (plan_of set book.System tried) (λ e c. (
        plan_entry set book.System tried e c,
        stage_system e (system_same set tried [] (never_tried (entries_of set) 1) e c),
      )))
      (need_out stages.System (plan_of set book.System tried)
      (λ e there h. system_same set [] tried below e (system_stage e there h)))

  pub automatic_phase : (tried : List (List ℕ)) → TriedBelow (entries_of set) tried 2 → (pre new left : List Need)
      → IsPhase (Contains (map need_of (plan_of set book.Automatic tried))) pre new left
      → IsPhase (IsOf (rows_of set) stages.Automatic) pre new left
  automatic_phase tried below =
      phase_as (Contains (map need_of (plan_of set book.Automatic tried))) (IsOf (rows_of set) stages.Automatic)
      (need_in stages.Automatic (plan_of set book.Automatic tried) (λ e c. (
        plan_entry set book.Automatic tried e c,
        stage_automatic e (automatic_same set holds tried [] (never_tried (entries_of set) 2) e c),
      )))
      (need_out stages.Automatic (plan_of set book.Automatic tried)
      (λ e there h. automatic_same set holds [] tried below e (automatic_stage e there h)))

  -- a tried name, folded or not, is that of an entry with a Start below this one
  pub record IsEarly (k : ℕ) (name : List ℕ) : Type 0 where
    pub entry : Entry
    pub there : Contains (entries_of set) entry
    pub same : (x : List ℕ) → folds_same name x ≡ folds_same entry.name x
    pub early : entry.start < k

  pub below_by : (tried : List (List ℕ)) (k : ℕ) → ((name : List ℕ) → Contains tried name → IsEarly k name)
      → TriedBelow (entries_of set) tried k
  below_by tried k f e there h =
      let n = any_gives (λ (name : List ℕ). folds_same name e.name) tried h in
      let i = f n.0 n.1 in
      let same : i.entry ≡ e = entries_apart set holds i.entry e i.there there (sym (i.same e.name) ∙ n.2) in
      omega (arith, i.early, ap (λ (x : Entry). x.start) same)

  -- the name of what a phase of drivers started
  pub boot_early : (k : ℕ) (name : List ℕ) (n : Need) → 0 < k → IsOf (rows_of set) stages.Boot n
      → ((x : List ℕ) → folds_same name x ≡ folds_same n.name x) → IsEarly k name
  boot_early k name n lt i same =
      let e = of_entry stages.Boot n i in
      record {
        entry = e.0;
        there = e.1;
        same = λ x. same x ∙ sym (ap (λ (m : Need). folds_same m.name x) e.3);
        early = omega (arith, lt, boot_start set [] e.0 (boot_stage e.0 e.1 e.2));
      }

  pub system_early : (name : List ℕ) (n : Need) → IsOf (rows_of set) stages.System n
      → ((x : List ℕ) → folds_same name x ≡ folds_same n.name x) → IsEarly 2 name
  system_early name n i same =
      let e = of_entry stages.System n i in
      record {
        entry = e.0;
        there = e.1;
        same = λ x. same x ∙ sym (ap (λ (m : Need). folds_same m.name x) e.3);
        early = omega (arith, system_start set [] e.0 (system_stage e.0 e.1 e.2));
      }
