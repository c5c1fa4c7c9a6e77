-- What a start takes of drivers by their states.
use Rattle.std.proofs.Common.{◌≡◌, ◌⊎◌, inl, inr, ℕ, ◌≤◌, Bool, true, false, ◌&&◌, ◌||◌, nat_eq, cond, List, [], ◌∷◌, Option, Some, None, refl, sym, ap, ◌∙◌, subst, arith, eq-eqb}
use Rattle.std.specs.Prelude.{Contains, slice_get, find, codes, nat_lt}
use Rattle.std.specs.List.{list_any}
use Rattle.std.specs.Option.{option_map_or}
use Rattle.std.proofs.lemmas.Bool.{false≢true, and_from, or_cases, eqb-true, ne_eqb, le-ltb, false_from_ne_true}
use Rattle.nt_bytes.specs.Folding.{folds_same}
use Rattle.hive_model.specs.Tree.{Tree, head, is_named, find_dword}
use Rattle.hive_model.specs.Valid.{HoldsKeys}
use Rattle.reg_tree.proofs.Unlike.{folds_swap}
use Rattle.edited_cells.proofs.Wellformed.{both_fold}
use Rattle.start_model.specs.Demand.{Need}
use Rattle.start_model.specs.Entries as book
use Rattle.start_model.specs.Entries.{Entry, Phase, entry_of, entry_with, entries_of, services_of, is_driver, is_service, is_driver_of, is_open, need_of}
use Rattle.start_model.specs.Order.{plan_of}
use Rattle.start_model.proofs.HeldLemmas.{services_differ}
use Rattle.dependencies.proofs.PulledLemmas.{is_taken-closed}
use Rattle.wait_cycles.proofs.MetLemmas.{first_in, later_in, any_from, any_gives}
use Rattle.wait_cycles.proofs.CycleLemmas.{in_cons}
use Rattle.least_set.proofs.MarkLemmas.{none_in}
use Rattle.service_check.specs.Stages.{names_taken}
use Rattle.service_control.proofs.LeanLemmas.{mapped_from, mapped_to}
use Rattle.service_control.proofs.LeastLemmas.{from}
use Rattle.check_laws.proofs.TakenLemmas.{Takes, item_place, mapped_on, plan_from, plan_in, passing_place, places_stand, need_at, is_late, open_places, open_table, auto_from, auto_taken}
use Rattle.check_laws.proofs.SetLemmas.{entry_name, one_key, never_tried, automatic_late, plan_entry, boot_start, system_start}
use Rattle.device_rule.specs.declared.lines.DriverState.TheVariants as states
use Rattle.device_rule.specs.Drivers.{is_built_in, start_state, key_state, state_of}
use Rattle.device_laws.specs.Started.{is_started, is_never, AreTaken, AreTakenThere, ThreeIsDemanded, OthersAreNot}
use Rattle.device_laws.proofs.DemandedLemmas.{named_of}

-- ---- the key of a driver that can be loaded

record HasKey (services : List Tree) (name : List ℕ) (start : ℕ) : Type 0 where
  key : Tree
  found : find (is_named name) services ≡ Some key
  ready : key_state key ≡ states.Ready start

key_of : (services : List Tree) (name : List ℕ) (start : ℕ) → state_of services name ≡ states.Ready start → HasKey services name start
key_of services name start = by (is_built_in name) (find (is_named name) services) refl
  where
    by : (b : Bool) (o : Option Tree) → find (is_named name) services ≡ o
        → cond b states.BuiltIn (option_map_or key_state o states.NoKey) ≡ states.Ready start → HasKey services name start
    by true o is h = absurd cc
    by false None is h = absurd cc
    by false (Some t) is h = record { key = t; found = is; ready = h }

-- ---- its entry

record HasEntry (t : Tree) (start : ℕ) : Type 0 where
  entry : Entry
  is : entry_of t ≡ Some entry
  starts : entry.start ≡ start
  drives : is_driver entry.kind ≡ true

entry_by : (t : Tree) (s k : Option ℕ) (start : ℕ) → start_state s k ≡ states.Ready start
    → (e : Entry) × (entry_with t s k ≡ Some e) × (e.start ≡ start) × (is_driver e.kind ≡ true)
entry_by t None k start h = absurd cc
entry_by t (Some s) None start h = (let no : ⊥ = by (nat_eq s 4) (nat_lt 4 s) h in absurd no)
  where
    by : (b c : Bool) → cond b states.Disabled (cond c (states.Beyond s) states.NoType) ≡ states.Ready start → ⊥
    by true c h = absurd cc
    by false true h = absurd cc
    by false false h = absurd cc
entry_by t (Some s) (Some k) start h =
    let parts = by (nat_eq s 4) (nat_lt 4 s) (is_driver k) refl h in (_, refl, parts.0, parts.1)
  where
    by : (b c d : Bool) → is_driver k ≡ d
        → cond b states.Disabled (cond c (states.Beyond s) (cond d (states.Ready s) (states.Kind k))) ≡ states.Ready start
        → (s ≡ start) × (is_driver k ≡ true)
    by true c d is h = absurd cc
    by false true d is h = absurd cc
    by false false true is h = ((cc), is)
    by false false false is h = absurd cc

entry_in : (t : Tree) (start : ℕ) → key_state t ≡ states.Ready start → HasEntry t start
entry_in t start h =
    let e = entry_by t (find_dword (codes "Start") t) (find_dword (codes "Type") t) start h in
    record { entry = e.0; is = e.1; starts = e.2; drives = e.3 }

-- ---- its place

record Found {X : Type 0} (p : X → Bool) (xs : List X) (x : X) : Type 0 where
  there : Contains xs x
  passes : p x ≡ true

found : {X : Type 0} (p : X → Bool) (xs : List X) (x : X) → find p xs ≡ Some x → Found p xs x
found p [] x h = absurd cc
found {X} p (y ∷ ys) x h = by (p y) refl (λ e. found p ys x e) h
  where
    by : (b : Bool) → p y ≡ b → (find p ys ≡ Some x → Found p ys x) → cond b (Some y) (find p ys) ≡ Some x → Found p (y ∷ ys) x
    by true is more h =
        let same : y ≡ x = cc in
        record { there = subst (λ (z : X). Contains (y ∷ ys) z) same (first_in y ys); passes = ap p (sym same) ∙ is }
    by false is more h = (let f = more h in record { there = later_in y ys x f.there; passes = f.passes })

record HasPlace (set : Tree) (name : List ℕ) (start : ℕ) : Type 0 where
  entry : Entry
  place : ℕ
  here : slice_get (entries_of set) place ≡ Some entry
  named : folds_same name entry.name ≡ true
  starts : entry.start ≡ start
  drives : is_driver entry.kind ≡ true

place_of : (set : Tree) (name : List ℕ) (start : ℕ) → state_of (services_of set) name ≡ states.Ready start → HasPlace set name start
place_of set name start h =
    let k = key_of (services_of set) name start h in
    let e = entry_in k.key start k.ready in
    let f = found (is_named name) (services_of set) k.key k.found in
    let p = item_place (entries_of set) e.entry (mapped_on entry_of (services_of set) k.key e.entry f.there e.is) in
    record {
      entry = e.entry;
      place = p.0;
      here = p.1;
      named = ap (folds_same name)
          (entry_name k.key (find_dword (codes "Start") k.key) (find_dword (codes "Type") k.key) e.entry e.is) ∙ f.passes;
      starts = e.starts;
      drives = e.drives;
    }

-- ---- it is taken

taken : (set : Tree) (phase : Phase) (name : List ℕ) (e : Entry) → folds_same name e.name ≡ true → Takes (entries_of set) phase [] e
    → is_started set phase name ≡ true
taken set phase name e named takes =
    any_from (folds_same name) (names_taken set phase) e.name
    (mapped_to (λ (e : Entry). e.name) (plan_of set phase []) e (plan_in set phase [] e takes)) named

driver_passes : (e : Entry) (start : ℕ) → e.start ≡ start → is_driver e.kind ≡ true → is_driver_of start [] e ≡ true
driver_passes e start starts drives =
    and_from (is_driver e.kind && nat_eq e.start start) true
    (and_from (is_driver e.kind) (nat_eq e.start start) drives (eq-eqb e.start start starts)) refl

boot_taken : (set : Tree) (name : List ℕ) → state_of (services_of set) name ≡ states.Ready 0 → is_started set book.Boot name ≡ true
boot_taken set name h =
    let p = place_of set name 0 h in
    taken set book.Boot name p.entry p.named (record {
      place = p.place;
      taken = passing_place (is_driver_of 0 []) (entries_of set) p.place p.entry p.here (driver_passes p.entry 0 p.starts p.drives);
      here = p.here;
    })

system_taken : (set : Tree) (name : List ℕ) → state_of (services_of set) name ≡ states.Ready 1 → is_started set book.System name ≡ true
system_taken set name h =
    let p = place_of set name 1 h in
    taken set book.System name p.entry p.named (record {
      place = p.place;
      taken = passing_place (is_driver_of 1 []) (entries_of set) p.place p.entry p.here (driver_passes p.entry 1 p.starts p.drives);
      here = p.here;
    })

automatic_taken : (set : Tree) (name : List ℕ) → state_of (services_of set) name ≡ states.Ready 2 → is_started set book.Automatic name ≡ true
automatic_taken set name h =
    let p = place_of set name 2 h in
    let entries : List Entry = entries_of set in
    let is_free : is_open [] p.entry ≡ true =
    and_from (is_driver p.entry.kind || is_service p.entry.kind) true (ap (λ b. b || is_service p.entry.kind) p.drives) refl in
    let i = item_place (open_places entries []) p.place (passing_place (is_open []) entries p.place p.entry p.here is_free) in
    let need : slice_get (open_table entries []) i.0 ≡ Some (need_of p.entry) =
    need_at entries (open_places entries []) i.0 p.place p.entry (places_stand (is_open []) entries) i.1 p.here in
    taken set book.Automatic name p.entry p.named (auto_taken entries [] p.entry (record {
      index = i.0;
      place = p.place;
      taken = (is_taken-closed (open_table entries [])).starts i.0
          (ap (λ (o : Option Need). option_map_or (λ (n : Need). nat_eq n.start 2) o false) need ∙ eq-eqb p.entry.start 2 p.starts);
      at = i.1;
      here = p.here;
    }))

pub are_taken : AreTaken
are_taken = record { boot = boot_taken; system = system_taken; automatic = automatic_taken }

-- ---- what is taken

-- the entry of a name that a phase takes, and the state of its driver
record IsTaken (set : Tree) (phase : Phase) (name : List ℕ) : Type 0 where
  entry : Entry
  named : folds_same name entry.name ≡ true
  planned : Contains (plan_of set phase []) entry
  state : is_built_in name ≡ false → state_of (services_of set) name ≡ start_state (Some entry.start) (Some entry.kind)

not_found : {X : Type 0} (p : X → Bool) (xs : List X) (x : X) → find p xs ≡ None → Contains xs x → p x ≡ false
not_found p [] x h c = absurd (none_in x c)
not_found {X} p (y ∷ ys) x h c = by (p y) refl (λ e i. not_found p ys x e i) h
  where
    by : (b : Bool) → p y ≡ b → (find p ys ≡ None → Contains ys x → p x ≡ false) → cond b (Some y) (find p ys) ≡ None → p x ≡ false
    by true is more h = absurd cc
    by false is more h = elim (in_cons y ys x c) [ inl e ↦ ap p (sym e) ∙ is | inr i ↦ more h i ]

state_by : (t : Tree) (s k : Option ℕ) (e : Entry) → entry_with t s k ≡ Some e → start_state s k ≡ start_state (Some e.start) (Some e.kind)
state_by t (Some s) (Some k) e h =
    λ i. start_state (Some (option_map_or (λ (x : Entry). x.start) (h i) 0)) (Some (option_map_or (λ (x : Entry). x.kind) (h i) 0))
state_by t (Some s) None e h = absurd cc
state_by t None k e h = absurd cc

found_key : (set : Tree) → HoldsKeys set → (name : List ℕ) (t : Tree) → Contains (services_of set) t → folds_same name (head t).name ≡ true
    → find (is_named name) (services_of set) ≡ Some t
found_key set holds name t there named = by (find (is_named name) (services_of set)) refl
  where
    by : (o : Option Tree) → find (is_named name) (services_of set) ≡ o → o ≡ Some t
    by None is = absurd (false≢true (sym (not_found (is_named name) (services_of set) t is there) ∙ named))
    by (Some u) is =
        let f = found (is_named name) (services_of set) u is in
        ap Some (one_key (services_of set) u t (services_differ set holds) f.there there (both_fold name (head u).name (head t).name f.passes named))

taken_by : (set : Tree) → HoldsKeys set → (phase : Phase) (name : List ℕ) → is_started set phase name ≡ true → IsTaken set phase name
taken_by set holds phase name h =
    let n = any_gives (folds_same name) (names_taken set phase) h in
    let m = mapped_from (λ (e : Entry). e.name) (plan_of set phase []) n.0 n.1 in
    let k = from entry_of (services_of set) m.item (plan_entry set phase [] m.item m.there) in
    let called = entry_name k.item (find_dword (codes "Start") k.item) (find_dword (codes "Type") k.item) m.item k.is in
    let key = found_key set holds name k.item k.there (ap (folds_same name) (sym called ∙ m.is) ∙ n.2) in
    record {
      entry = m.item;
      named = ap (folds_same name) m.is ∙ n.2;
      planned = m.there;
      state = λ plain.
          (λ i. cond (plain i) states.BuiltIn (option_map_or key_state (key i) states.NoKey))
          ∙ state_by k.item (find_dword (codes "Start") k.item) (find_dword (codes "Type") k.item) m.item k.is;
    }

-- a Start up to 3 is no reason against it
low_state : (start kind : ℕ) → start ≤ 3 → is_never (start_state (Some start) (Some kind)) ≡ false
low_state start kind low =
    (λ i. is_never (cond (ne_eqb start 4 (λ e. omega (arith, e)) i) states.Disabled
    (cond (le-ltb 4 start (omega arith) i) (states.Beyond start) (cond (is_driver kind) (states.Ready start) (states.Kind kind)))))
    ∙ by (is_driver kind)
  where
    by : (b : Bool) → is_never (cond b (states.Ready start) (states.Kind kind)) ≡ false
    by true = refl
    by false = refl

ready_start : (start kind other : ℕ) → states.Ready other ≡ start_state (Some start) (Some kind) → other ≡ start
ready_start start kind other h = by (nat_eq start 4) (nat_lt 4 start) (is_driver kind) h
  where
    by : (b c d : Bool) → states.Ready other ≡ cond b states.Disabled (cond c (states.Beyond start) (cond d (states.Ready start) (states.Kind kind)))
        → other ≡ start
    by true c d h = absurd cc
    by false true d h = absurd cc
    by false false true h = cc
    by false false false h = absurd cc

-- where a state is known, the name isn't the object name of a driver
plain_by : (services : List Tree) (name : List ℕ) → (state_of services name ≡ states.BuiltIn → ⊥) → is_built_in name ≡ false
plain_by services name known = by (is_built_in name) refl
  where
    by : (b : Bool) → is_built_in name ≡ b → b ≡ false
    by true is = absurd (known (ap (λ c. cond c states.BuiltIn (option_map_or key_state (find (is_named name) services) states.NoKey)) is))
    by false is = refl

never_taken : (set : Tree) → HoldsKeys set → (phase : Phase) → ((e : Entry) → Contains (plan_of set phase []) e → e.start ≤ 3) → (name : List ℕ)
    → is_never (state_of (services_of set) name) ≡ true → is_started set phase name ≡ false
never_taken set holds phase low name never =
    false_from_ne_true (is_started set phase name) (λ h.
    let t = taken_by set holds phase name h in
    let plain = plain_by (services_of set) name (λ b. false≢true (sym (ap is_never b) ∙ never)) in
    false≢true (sym (low_state t.entry.start t.entry.kind (low t.entry t.planned)) ∙ sym (ap is_never (t.state plain)) ∙ never))

late_low : (n : ℕ) → is_late n ≡ true → (n ≡ 2) ⊎ (n ≡ 3)
late_low n h = elim (or_cases (nat_eq n 2) (nat_eq n 3) h) [ inl e ↦ inl (eqb-true n 2 e) | inr e ↦ inr (eqb-true n 3 e) ]

late_three : (n : ℕ) → is_late n ≡ true → n ≤ 3
late_three n h = elim (late_low n h) [ inl e ↦ omega (arith, e) | inr e ↦ omega (arith, e) ]

automatic_start : (set : Tree) → HoldsKeys set → (e : Entry) → Contains (plan_of set book.Automatic []) e → is_late e.start ≡ true
automatic_start set holds e c = automatic_late set holds [] (never_tried (entries_of set) 2) e c

pub others_not : OthersAreNot
others_not = record {
  boot = λ set holds name never.
      never_taken set holds book.Boot (λ e c. omega (arith, boot_start set [] e c)) name never;
  system = λ set holds name never.
      never_taken set holds book.System (λ e c. omega (arith, system_start set [] e c)) name never;
  automatic = λ set holds name never.
      never_taken set holds book.Automatic (λ e c. late_three e.start (automatic_start set holds e c)) name never;
}

start_there : (set : Tree) → HoldsKeys set → (phase : Phase) (name : List ℕ) (start : ℕ) → state_of (services_of set) name ≡ states.Ready start
    → is_started set phase name ≡ true
    → (e : Entry) × Contains (plan_of set phase []) e × (start ≡ e.start) × (folds_same name e.name ≡ true)
start_there set holds phase name start ready h =
    let t = taken_by set holds phase name h in
    let plain = plain_by (services_of set) name (λ b. absurd (no_both (sym ready ∙ b))) in
    (t.entry, t.planned, ready_start t.entry.start t.entry.kind start (sym ready ∙ t.state plain), t.named)
  where
    no_both : states.Ready start ≡ states.BuiltIn → ⊥
    no_both e = absurd cc

pub taken_there : AreTakenThere
taken_there = record {
  boot = λ set holds name start ready h.
      (let t = start_there set holds book.Boot name start ready h in t.2 ∙ boot_start set [] t.0 t.1);
  system = λ set holds name start ready h.
      (let t = start_there set holds book.System name start ready h in t.2 ∙ system_start set [] t.0 t.1);
  automatic = λ set holds name start ready h.
      (let t = start_there set holds book.Automatic name start ready h in
      subst (λ (n : ℕ). (n ≡ 2) ⊎ (n ≡ 3)) (sym t.2) (late_low t.0.start (automatic_start set holds t.0 t.1)));
}

-- ---- demand start

-- who has a name among its services has one that folds alike
named_alike : (name other : List ℕ) (e : Entry) → folds_same name other ≡ true → list_any (folds_same other) e.services ≡ true
    → list_any (folds_same name) e.services ≡ true
named_alike name other e same h =
    let x = any_gives (folds_same other) e.services h in
    any_from (folds_same name) e.services x.0 x.1 (both_fold other name x.0 (folds_swap other name ∙ same) x.2)

pub three_demanded : ThreeIsDemanded
three_demanded set holds name ready h =
    let s = start_there set holds book.Automatic name 3 ready h in
    let n = named_of (entries_of set) s.0 (auto_from (entries_of set) [] s.0 (plan_from set book.Automatic [] s.0 s.1)) (sym s.2) in
    record {
      entry = n.entry;
      taken = plan_in set book.Automatic [] n.entry (auto_taken (entries_of set) [] n.entry n.auto);
      names = named_alike name s.0.name n.entry s.3 n.names;
    }
