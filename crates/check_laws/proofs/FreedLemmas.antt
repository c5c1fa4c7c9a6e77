-- A set without its wrong needs: its entries wait as before, and the stuck ones are unmet.
use Rattle.std.proofs.Common.{◌≡◌, ℕ, Bool, true, false, not, ◌&&◌, ◌||◌, nat_eq, cond, List, [], ◌∷◌, ◌++◌, length, map, Option, Some, None, refl, sym, ap, ◌∙◌, inl, inr, subst, ◌⊎◌}
use Rattle.std.specs.Prelude.{Contains, slice_get, position, filter, option_map, option_and_then}
use Rattle.std.specs.Option.{option_map_or, option_to_list}
use Rattle.std.specs.List.{list_any, flat_map, range_with_len}
use Rattle.std.proofs.lemmas.Bool.{false≢true, and_parts, and_from, not-true, not-false, eq-eqb, eqb-true}
use Rattle.std.proofs.lemmas.List.{length-map}
use Rattle.std.proofs.lemmas.List.Elements.{Contains-append_cases}
use Rattle.std.proofs.lemmas.Option.{slice_get_within, slice_get-map}
use Rattle.nt_bytes.specs.Folding.{folds_same}
use Rattle.nt_names.proofs.FoldLemmas.{alike}
use Rattle.dependencies.proofs.MeetLemmas.{names_flip}
use Rattle.dependencies.proofs.PulledLemmas.{same_bool, is_taken-closed, is_taken-least_of_all}
use Rattle.hive_model.specs.Tree.{Tree}
use Rattle.hive_model.specs.Valid.{HoldsKeys}
use Rattle.start_model.specs.Demand.{Need, IsClosed}
use Rattle.start_model.specs.Demand as demand
use Rattle.start_model.specs.Entries as book
use Rattle.start_model.specs.Entries.{Entry, Phase, entries_of, is_driver, is_service, is_driver_of, is_open, need_of}
use Rattle.start_model.specs.Order.{plan_of, first_names}
use Rattle.wait_cycles.specs.Waits.{is_stuck}
use Rattle.wait_cycles.proofs.InverseLemmas.{none_in}
use Rattle.wait_cycles.proofs.MetLemmas.{first_in, later_in, any_from, any_gives}
use Rattle.wait_cycles.proofs.CycleLemmas.{filter_in, filter_out}
use Rattle.answer_lines.specs.declared.check_lines.lines.Fault.{Fault}
use Rattle.answer_lines.specs.declared.check_lines.lines.Fault.TheVariants as faults
use Rattle.service_check.specs.declared.stage.Stage.{Stage}
use Rattle.service_check.specs.declared.stage.Stage.TheVariants.{Boot, System, Automatic, Demand}
use Rattle.service_check.specs.declared.stage.Staged.{Staged}
use Rattle.service_check.specs.Stages.{names_taken, taken_names, takes, stage_in, staged_in, rows_of, is_taken, is_upto}
use Rattle.service_check.specs.Needs.{names_of, named, groups_upto, name_fault, stage_fault, service_fault, group_fault, faults_at, need_faults, is_good, is_without, name_ways, is_way, ways_in, group_ways, ways_at, good_ways, waits_of}
use Rattle.service_control.proofs.LeanLemmas.{folds_itself, mapped_from, mapped_to}
use Rattle.check_laws.specs.Unmet.{SaysUnmet}
use Rattle.check_laws.specs.Freed.{freed_at, freed, freed_row, IsFreedOf, SameAreTaken, StuckAreUnmet, OnlyStuckAreRefused}
use Rattle.check_laws.proofs.TakenLemmas.{item_here, item_place, plan_from, plan_in, place_passes, passing_place, places_stand, need_at, need_from, open_places, open_table, IsAuto, auto_from, auto_need, auto_taken, AreApart}
use Rattle.check_laws.proofs.ProperLaws.{flat_from}
use Rattle.check_laws.proofs.StartLemmas.{start_told}
use Rattle.check_laws.proofs.RowLemmas.{named_is, named_row, first_sub, upto_fits}
use Rattle.check_laws.proofs.UnmetLemmas.{IsRight}
use Rattle.service_control.specs.declared.stop.ControlStop.{ControlStop}
use Rattle.service_control.specs.declared.stop.ControlStop.TheVariants.{Unmet}
use Rattle.service_control.specs.First.{control_of}
use Rattle.service_control.specs.Calls.{start_refusal}
use Rattle.check_laws.proofs.DemandLemmas as demands
use Rattle.check_laws.proofs.DemandLemmas.{Answered, start_answered}
use Rattle.check_laws.proofs.WholeLemmas as whole
use Rattle.check_laws.proofs.WholeLemmas.{reason_left, left_stuck, left_row}
use Rattle.check_laws.proofs.SetLemmas.{entries_apart, rows_apart, row_entry, entry_row, driver_from, takes_from, takes_in, stage_automatic, plan_entry, demand_stage}
use Rattle.check_laws.proofs.AboutLemmas.{needs, start_of, says_in, says_from}
use Rattle.check_laws.proofs.WaysLemmas.{none_of}

-- ---- the automatic phase of two lists of entries

-- two entries of one name, Start and Type
record IsMate (e f : Entry) : Type 0 where
  name : e.name ≡ f.name
  start : e.start ≡ f.start
  kind : e.kind ≡ f.kind

module _ (es es' : List Entry) (apart : AreApart es) (apart' : AreApart es')
    (mate : (e : Entry) → Contains es e → (f : Entry) × Contains es' f × IsMate e f)
    (keeps : (a b : Entry) (there : Contains es a) → IsAuto es [] a → IsAuto es [] b → (d : List ℕ) → Contains a.services d
    → folds_same b.name d ≡ true → Contains (mate a there).0.services d)
    (names' : List (List ℕ)) (name_in : (f : Entry) → IsAuto es' [] f → list_any (folds_same f.name) names' ≡ true)
    (name_out : (f : Entry) → Contains es' f → list_any (folds_same f.name) names' ≡ true → IsAuto es' [] f) where
  open_mate : (e f : Entry) → IsMate e f → is_open [] e ≡ true → is_open [] f ≡ true
  open_mate e f i h = ap (λ (k : ℕ). (is_driver k || is_service k) && true) (sym i.kind) ∙ h

  -- an open entry of the others is at an index
  index_of : (f : Entry) → Contains es' f → is_open [] f ≡ true
      → (i : ℕ) × (p : ℕ) × (slice_get (open_places es' []) i ≡ Some p) × (slice_get es' p ≡ Some f)
      × (slice_get (open_table es' []) i ≡ Some (need_of f))
  index_of f c h =
      let p = item_place es' f c in
      let i = item_place (open_places es' []) p.0 (passing_place (is_open []) es' p.0 f p.1 h) in
      (i.0, p.0, i.1, p.1, need_at es' (open_places es' []) i.0 p.0 f (places_stand (is_open []) es') i.1 p.1)

  -- the entry at an index of the table
  record IsEntryAt (q : ℕ) (n : Need) : Type 0 where
    entry : Entry
    place : ℕ
    at : slice_get (open_places es []) q ≡ Some place
    here : slice_get es place ≡ Some entry
    need : need_of entry ≡ n
    open' : is_open [] entry ≡ true

  entry_at : (q : ℕ) (n : Need) → slice_get (open_table es []) q ≡ Some n → IsEntryAt q n
  entry_at q n is =
      let f = need_from es (open_places es []) q n (places_stand (is_open []) es) is in
      record {
        entry = f.entry;
        place = f.place;
        at = f.at;
        here = f.here;
        need = f.need;
        open' = place_passes (is_open []) es f.place f.entry (item_here (open_places es []) q f.place f.at) f.here;
      }

  abbrev has_name : Need → Bool
  has_name n = list_any (folds_same n.name) names'

  abbrev set : ℕ → Bool
  set q = demand.is_taken (open_table es []) q && option_map_or has_name (slice_get (open_table es []) q) false

  there_of : (q : ℕ) (n : Need) (i : IsEntryAt q n) → Contains es i.entry
  there_of q n i = item_here es i.place i.entry i.here

  auto_of : (q : ℕ) (n : Need) (i : IsEntryAt q n) → demand.is_taken (open_table es []) q ≡ true → IsAuto es [] i.entry
  auto_of q n i taken = record { index = q; place = i.place; taken = taken; at = i.at; here = i.here }

  -- the mate of an entry whose name is there is taken
  mate_of : (q : ℕ) (n : Need) (i : IsEntryAt q n) → has_name n ≡ true → IsAuto es' [] (mate i.entry (there_of q n i)).0
  mate_of q n i h =
      let f = mate i.entry (there_of q n i) in
      name_out f.0 f.1 (ap (λ (x : List ℕ). list_any (folds_same x) names') (sym f.2.name ∙ ap (λ (m : Need). m.name) i.need) ∙ h)

  named_by : (q : ℕ) (n : Need) (i : IsEntryAt q n) → IsAuto es' [] (mate i.entry (there_of q n i)).0 → has_name n ≡ true
  named_by q n i a =
      let f = mate i.entry (there_of q n i) in
      ap (λ (x : List ℕ). list_any (folds_same x) names') (sym (ap (λ (m : Need). m.name) i.need) ∙ f.2.name) ∙ name_in f.0 a

  set_at : (q : ℕ) (n : Need) → slice_get (open_table es []) q ≡ Some n → demand.is_taken (open_table es []) q ≡ true → has_name n ≡ true
      → set q ≡ true
  set_at q n is taken h =
      and_from (demand.is_taken (open_table es []) q) (option_map_or has_name (slice_get (open_table es []) q) false) taken
      (ap (λ (o : Option Need). option_map_or has_name o false) is ∙ h)

  starts_by : (q : ℕ) (o : Option Need) → slice_get (open_table es []) q ≡ o → option_map_or (λ (n : Need). nat_eq n.start 2) o false ≡ true
      → demand.is_taken (open_table es []) q ≡ true → set q ≡ true
  starts_by q None is h taken = absurd (false≢true h)
  starts_by q (Some n) is h taken =
      let i = entry_at q n is in
      let f = mate i.entry (there_of q n i) in
      let j = index_of f.0 f.1 (open_mate i.entry f.0 f.2 i.open') in
      let two : nat_eq f.0.start 2 ≡ true = ap (λ (k : ℕ). nat_eq k 2) (sym f.2.start ∙ ap (λ (m : Need). m.start) i.need) ∙ h in
      set_at q n is taken (named_by q n i (record {
        index = j.0;
        place = j.1;
        taken = (is_taken-closed (open_table es' [])).starts j.0 (ap (λ (o : Option Need). option_map_or (λ (n : Need). nat_eq n.start 2) o false) j.4 ∙ two);
        at = j.2;
        here = j.3;
      }))

  abbrev pulled : Option Need → Option Need → Bool
  pulled a b =
      option_map_or (λ (a : Need). option_map_or (λ (b : Need). nat_eq b.start 3 && list_any (folds_same b.name) a.services) b false) a false

  pulled_by : (p q : ℕ) (a b : Option Need) → slice_get (open_table es []) p ≡ a → slice_get (open_table es []) q ≡ b
      → demand.is_taken (open_table es []) p ≡ true → demand.is_taken (open_table es []) q ≡ true
      → option_map_or has_name a false ≡ true → pulled a b ≡ true → set q ≡ true
  pulled_by p q None b at is tp tq m h = absurd (false≢true h)
  pulled_by p q (Some a) None at is tp tq m h = absurd (false≢true h)
  pulled_by p q (Some a) (Some b) at is tp tq m h =
      let c = and_parts (nat_eq b.start 3) (list_any (folds_same b.name) a.services) h in
      let ia = entry_at p a at in
      let ib = entry_at q b is in
      let fa = mate ia.entry (there_of p a ia) in
      let fb = mate ib.entry (there_of q b ib) in
      let d = any_gives (folds_same b.name) a.services c.1 in
      let given : Contains ia.entry.services d.0 = subst (λ (n : Need). Contains n.services d.0) (sym ia.need) d.1 in
      let folds : folds_same ib.entry.name d.0 ≡ true = ap (λ (n : Need). folds_same n.name d.0) ib.need ∙ d.2 in
      let kept = keeps ia.entry ib.entry (there_of p a ia) (auto_of p a ia tp) (auto_of q b ib tq) d.0 given folds in
      let auto_a = mate_of p a ia m in
      let j = index_of fb.0 fb.1 (open_mate ib.entry fb.0 fb.2 ib.open') in
      let three : nat_eq fb.0.start 3 ≡ true = ap (λ (k : ℕ). nat_eq k 3) (sym fb.2.start ∙ ap (λ (m : Need). m.start) ib.need) ∙ c.0 in
      let names : list_any (folds_same fb.0.name) fa.0.services ≡ true =
      any_from (folds_same fb.0.name) fa.0.services d.0 kept (ap (λ (x : List ℕ). folds_same x d.0) (sym fb.2.name) ∙ folds) in
      let mine = auto_need es' [] fa.0 auto_a in
      set_at q b is tq (named_by q b ib (record {
        index = j.0;
        place = j.1;
        taken = (is_taken-closed (open_table es' [])).pulled auto_a.index j.0 auto_a.taken
            ((λ k. pulled (mine k) (j.4 k)) ∙ and_from (nat_eq fb.0.start 3) (list_any (folds_same fb.0.name) fa.0.services) three names);
        at = j.2;
        here = j.3;
      }))

  set_closed : IsClosed (open_table es []) set
  set_closed = record {
    starts = λ q h. starts_by q (slice_get (open_table es []) q) refl h ((is_taken-closed (open_table es [])).starts q h);
    pulled = λ p q m h.
        (let b = and_parts (demand.is_taken (open_table es []) p) (option_map_or has_name (slice_get (open_table es []) p) false) m in
        pulled_by p q (slice_get (open_table es []) p) (slice_get (open_table es []) q) refl refl b.0
        ((is_taken-closed (open_table es [])).pulled p q b.0 h) b.1 h);
  }

  -- the mate of what is taken is taken
  auto_mate : (e : Entry) → IsAuto es [] e → list_any (folds_same e.name) names' ≡ true
  auto_mate e a =
      let need = auto_need es [] e a in
      let h = is_taken-least_of_all (open_table es []) set set_closed a.index
      (slice_get_within (open_table es []) a.index (need_of e) need) a.taken in
      sym (ap (λ (o : Option Need). option_map_or has_name o false) need)
      ∙ (and_parts (demand.is_taken (open_table es []) a.index) (option_map_or has_name (slice_get (open_table es []) a.index) false) h).1

-- ---- one entry without its wrong needs

freed_mate : (rows : List Staged) (r : Staged) → IsMate r.entry (freed rows r)
freed_mate rows r = by r.stage
  where
    by : (o : Option Stage) → IsMate r.entry (option_map_or (freed_at rows r) o r.entry)
    by None = record { name = refl; start = refl; kind = refl }
    by (Some own) = record { name = refl; start = refl; kind = refl }

freed_group : (rows : List Staged) (r : Staged) → (freed rows r).group ≡ r.entry.group
freed_group rows r = by r.stage
  where
    by : (o : Option Stage) → (option_map_or (freed_at rows r) o r.entry).group ≡ r.entry.group
    by None = refl
    by (Some own) = refl

freed_services : (rows : List Staged) (r : Staged) (d : List ℕ) → Contains (freed rows r).services d → Contains r.entry.services d
freed_services rows r d = by r.stage
  where
    by : (o : Option Stage) → Contains (option_map_or (freed_at rows r) o r.entry).services d → Contains r.entry.services d
    by None c = c
    by (Some own) c = (filter_out (is_good rows own) r.entry.services d c).0

freed_is : (rows : List Staged) (r : Staged) (own : Stage) → r.stage ≡ Some own → freed rows r ≡ freed_at rows r own
freed_is rows r own is = ap (λ (o : Option Stage). option_map_or (freed_at rows r) o r.entry) is

-- ---- the waits of rows without their wrong needs

filter_two : {X : Type 0} (p q : X → Bool) (xs : List X) → filter p (filter q xs) ≡ filter (λ x. q x && p x) xs
filter_two p q [] = refl
filter_two {X} p q (x ∷ xs) = by (q x) (p x) refl (filter_two p q xs)
  where
    by : (b c : Bool) → p x ≡ c → filter p (filter q xs) ≡ filter (λ x. q x && p x) xs
        → filter p (cond b (x ∷ filter q xs) (filter q xs))
        ≡ cond (b && p x) (x ∷ filter (λ x. q x && p x) xs) (filter (λ x. q x && p x) xs)
    by false c is more = more
    by true c is more = ap (cond (p x) (x ∷ filter p (filter q xs))) more ∙ ap (λ (l : List X). cond (p x) (x ∷ l) (filter (λ x. q x && p x) xs)) more

and_swap : (a b : Bool) → (a && b) ≡ (b && a)
and_swap true true = refl
and_swap true false = refl
and_swap false true = refl
and_swap false false = refl

only_second : (a b : Bool) → (a ≡ false → b ≡ false) → (a && b) ≡ b
only_second true b f = refl
only_second false b f = sym (f refl)

-- a test that takes names that fold alike for one name
abbrev IsFoldTest : (List ℕ → Bool) → Type 0
IsFoldTest p = (x y : List ℕ) → folds_same x y ≡ true → p x ≡ p y

first_filter : (p : List ℕ → Bool) → IsFoldTest p → (xs : List (List ℕ)) → first_names (filter p xs) ≡ filter p (first_names xs)
first_filter p fold [] = refl
first_filter p fold (n ∷ ns) = by (p n) refl (first_filter p fold ns)
  where
    off : List ℕ → Bool
    off m = not (folds_same n m)

    by : (b : Bool) → p n ≡ b → first_names (filter p ns) ≡ filter p (first_names ns)
        → first_names (cond b (n ∷ filter p ns) (filter p ns))
        ≡ cond b (n ∷ filter p (filter (λ m. not (folds_same n m)) (first_names ns))) (filter p (filter (λ m. not (folds_same n m)) (first_names ns)))
    by true is more =
        ap (λ (l : List (List ℕ)). n ∷ filter (λ m. not (folds_same n m)) l) more
        ∙ ap (λ (l : List (List ℕ)). n ∷ l) (filter_two (λ m. not (folds_same n m)) p (first_names ns)
        ∙ (λ i. filter (λ m. and_swap (p m) (not (folds_same n m)) i) (first_names ns))
        ∙ sym (filter_two p (λ m. not (folds_same n m)) (first_names ns)))
    by false is more =
        more
        ∙ sym (filter_two p (λ m. not (folds_same n m)) (first_names ns)
        ∙ (λ i. filter (λ m. only_second (not (folds_same n m)) (p m)
        (λ h. sym (fold n m (not-false (folds_same n m) h)) ∙ is) i) (first_names ns)))

flat_filter : {X Y : Type 0} (f : X → List Y) (p : X → Bool) (xs : List X) → ((x : X) → p x ≡ false → f x ≡ []) → flat_map f (filter p xs) ≡ flat_map f xs
flat_filter f p [] h = refl
flat_filter {X} {Y} f p (x ∷ xs) h = by (p x) refl (flat_filter f p xs h)
  where
    by : (b : Bool) → p x ≡ b → flat_map f (filter p xs) ≡ flat_map f xs → flat_map f (cond b (x ∷ filter p xs) (filter p xs)) ≡ f x ++ flat_map f xs
    by true is more = ap (λ (l : List Y). f x ++ l) more
    by false is more = more ∙ ap (λ (l : List Y). l ++ flat_map f xs) (sym (h x is))

module _ (rows : List Staged) where
  abbrev bare : List Staged
  bare = map (freed_row rows) rows

  names_are : (rs : List Staged) → names_of (map (freed_row rows) rs) ≡ names_of rs
  names_are [] = refl
  names_are (r ∷ rs) = λ i. sym (freed_mate rows r).name i ∷ names_are rs i

  groups_are : (own : Stage) (rs : List Staged) → groups_upto own (map (freed_row rows) rs) ≡ groups_upto own rs
  groups_are own [] = refl
  groups_are own (r ∷ rs) = λ i. cond (is_upto own r.stage) (option_to_list (freed_group rows r i)) [] ++ groups_are own rs i

  at_bare : (p : ℕ) → slice_get bare p ≡ option_map (freed_row rows) (slice_get rows p)
  at_bare p = slice_get-map (freed_row rows) rows p

  fault_by : (own : Stage) (d : List ℕ) (o : Option Staged) → name_fault own d (option_map (freed_row rows) o) ≡ name_fault own d o
  fault_by own d None = refl
  fault_by own d (Some r) = ap (λ (k : ℕ). stage_fault own d k r.stage) (sym (freed_mate rows r).start)

  named_by' : (d : List ℕ) (o : Option ℕ) → option_and_then (slice_get bare) o ≡ option_map (freed_row rows) (option_and_then (slice_get rows) o)
  named_by' d None = refl
  named_by' d (Some p) = at_bare p

  fault_is : (own : Stage) (d : List ℕ) → service_fault bare own d ≡ service_fault rows own d
  fault_is own d =
      ap (name_fault own d) (ap (λ (ns : List (List ℕ)). option_and_then (slice_get bare) (position (folds_same d) ns)) (names_are rows)
      ∙ named_by' d (position (folds_same d) (names_of rows))) ∙ fault_by own d (named rows d)

  good_is : (own : Stage) (d : List ℕ) → is_good bare own d ≡ is_good rows own d
  good_is own d = ap (λ (l : List Fault). nat_eq (length l) 0) (fault_is own d)

  name_ways_are : (own : Stage) (d : List ℕ) → name_ways bare own d ≡ name_ways rows own d
  name_ways_are own d = λ i. cond (good_is own d i) (map (λ p. p ∷ []) (option_to_list (position (folds_same d) (names_are rows i)))) []

  without_is : (own : Stage) (g : List ℕ) → is_without bare own g ≡ is_without rows own g
  without_is own g = ap (λ (gs : List (List ℕ)). not (list_any (folds_same g) gs)) (groups_are own rows)

  way_by : (own : Stage) (g : List ℕ) (o : Option Staged)
      → option_map_or (is_way own g) (option_map (freed_row rows) o) false ≡ option_map_or (is_way own g) o false
  way_by own g None = refl
  way_by own g (Some r) = ap (λ (o : Option (List ℕ)). is_upto own r.stage && option_map_or (folds_same g) o false) (freed_group rows r)

  ways_in_are : (own : Stage) (g : List ℕ) → ways_in bare own g ≡ ways_in rows own g
  ways_in_are own g =
      (λ i. filter (λ p. option_map_or (is_way own g) (at_bare p i) false) (range_with_len 0 (length-map rows (freed_row rows) i)))
      ∙ (λ i. filter (λ p. way_by own g (slice_get rows p) i) (range_with_len 0 (length rows)))

  group_ways_are : (own : Stage) (g : List ℕ) → group_ways bare own g ≡ group_ways rows own g
  group_ways_are own g = λ i. cond (without_is own g i) [] (ways_in_are own g i ∷ [])

  same_fault : (own : Stage) (x y : List ℕ) (o : Option Staged) → nat_eq (length (name_fault own x o)) 0 ≡ nat_eq (length (name_fault own y o)) 0
  same_fault own x y None = refl
  same_fault own x y (Some r) = by own r.stage
    where
      by : (own : Stage) (o : Option Stage)
          → nat_eq (length (stage_fault own x r.entry.start o)) 0 ≡ nat_eq (length (stage_fault own y r.entry.start o)) 0
      by own None = refl
      by Boot (Some Boot) = refl
      by Boot (Some System) = refl
      by Boot (Some Automatic) = refl
      by Boot (Some Demand) = refl
      by System (Some Boot) = refl
      by System (Some System) = refl
      by System (Some Automatic) = refl
      by System (Some Demand) = refl
      by Automatic (Some Boot) = refl
      by Automatic (Some System) = refl
      by Automatic (Some Automatic) = refl
      by Automatic (Some Demand) = refl
      by Demand (Some Boot) = refl
      by Demand (Some System) = refl
      by Demand (Some Automatic) = refl
      by Demand (Some Demand) = refl

  good_folds : (own : Stage) → IsFoldTest (is_good rows own)
  good_folds own x y h =
      (λ i. nat_eq (length (name_fault own x (option_and_then (slice_get rows) (position (λ n. alike x y h n i) (names_of rows))))) 0)
      ∙ same_fault own x y (named rows y)

  within_folds : (own : Stage) → IsFoldTest (λ g. not (is_without rows own g))
  within_folds own x y h = λ i. not (not (list_any (λ n. alike x y h n i) (groups_upto own rows)))

  no_name_way : (own : Stage) (d : List ℕ) → is_good rows own d ≡ false → name_ways rows own d ≡ []
  no_name_way own d off =
      ap (λ (b : Bool). cond b (map (λ p. p ∷ []) (option_to_list (position (folds_same d) (names_of rows)))) []) off

  no_group_way : (own : Stage) (g : List ℕ) → not (is_without rows own g) ≡ false → group_ways rows own g ≡ []
  no_group_way own g off =
      ap (λ (b : Bool). cond b [] (ways_in rows own g ∷ [])) (not-false (is_without rows own g) off)

  ways_at_are : (r : Staged) (own : Stage) → r.stage ≡ Some own → ways_at bare (freed_row rows r) own ≡ ways_at rows r own
  ways_at_are r own is =
      (λ i. flat_map (λ d. name_ways_are own d i) (first_names (freed_is rows r own is i).services)
      ++ flat_map (λ g. group_ways_are own g i) (first_names (freed_is rows r own is i).groups))
      ∙ (λ i. flat_map (name_ways rows own) (first_filter (is_good rows own) (good_folds own) r.entry.services i)
      ++ flat_map (group_ways rows own) (first_filter (λ g. not (is_without rows own g)) (within_folds own) r.entry.groups i))
      ∙ (λ i. flat_filter (name_ways rows own) (is_good rows own) (first_names r.entry.services) (no_name_way own) i
      ++ flat_filter (group_ways rows own) (λ g. not (is_without rows own g)) (first_names r.entry.groups) (no_group_way own) i)

  good_ways_are : (r : Staged) → good_ways bare (freed_row rows r) ≡ good_ways rows r
  good_ways_are r = by r.stage refl
    where
      by : (o : Option Stage) → r.stage ≡ o → option_map_or (ways_at bare (freed_row rows r)) o [] ≡ option_map_or (ways_at rows r) o []
      by None is = refl
      by (Some own) is = ways_at_are r own is

  ways_all : (rs : List Staged) → map (good_ways bare) (map (freed_row rows) rs) ≡ map (good_ways rows) rs
  ways_all [] = refl
  ways_all (r ∷ rs) = λ i. good_ways_are r i ∷ ways_all rs i

  -- the waits are as they were
  waits_are : waits_of bare ≡ waits_of rows
  waits_are = ways_all rows

  -- no need is wrong
  bare_right : (r : Staged) → Contains bare r → IsRight bare r
  bare_right r c f i =
      let m = mapped_from (freed_row rows) rows r c in
      by m.item m.item.stage refl f (subst (λ (s : Staged). Contains (need_faults bare s) f) (sym m.is) i)
    where
      by : (r : Staged) (o : Option Stage) → r.stage ≡ o → (f : Fault) → Contains (option_map_or (faults_at bare (freed_row rows r)) o []) f → ⊥
      by r None is f i = none_in f i
      by r (Some own) is f i =
          elim (Contains-append_cases (flat_map (service_fault bare own) (first_names (freed_at rows r own).services))
          (flat_map (group_fault bare own) (first_names (freed_at rows r own).groups)) f
          (subst (λ (e : Entry). Contains (flat_map (service_fault bare own) (first_names e.services) ++ flat_map (group_fault bare own) (first_names e.groups)) f)
          (freed_is rows r own is) i)) [
            | inl j ↦ (let x = flat_from (service_fault bare own) (first_names (freed_at rows r own).services) f j in
                let good = (filter_out (is_good rows own) r.entry.services x.0 (first_sub (freed_at rows r own).services x.0 x.1)).1 in
                none_in f (subst (λ (l : List Fault). Contains l f) (fault_is own x.0 ∙ none_of (service_fault rows own x.0) good) x.2))
            | inr j ↦ (let x = flat_from (group_fault bare own) (first_names (freed_at rows r own).groups) f j in
                let within = (filter_out (λ g. not (is_without rows own g)) r.entry.groups x.0 (first_sub (freed_at rows r own).groups x.0 x.1)).1 in
                none_in f (subst (λ (l : List Fault). Contains l f)
                (ap (λ (w : Bool). cond w (faults.NoMember x.0 ∷ []) []) (without_is own x.0 ∙ not-true (is_without rows own x.0) within)) x.2))
          ]

-- ---- the stages of a set without its wrong needs

module _ (set : Tree) (other : Tree) (holds : HoldsKeys set) (holds' : HoldsKeys other) (freed_of : IsFreedOf set other) where
  abbrev rows : List Staged
  rows = rows_of set

  -- the entry of the other set, of a row
  freed_there : (r : Staged) → Contains (rows_of set) r → Contains (entries_of other) (freed (rows_of set) r)
  freed_there r c =
      subst (λ (l : List Entry). Contains l (freed (rows_of set) r)) (sym freed_of) (mapped_to (freed (rows_of set)) (rows_of set) r c)

  -- the row of an entry of the other set
  freed_from : (f : Entry) → Contains (entries_of other) f → (r : Staged) × Contains (rows_of set) r × (freed (rows_of set) r ≡ f)
  freed_from f c =
      let m = mapped_from (freed (rows_of set)) (rows_of set) f (subst (λ (l : List Entry). Contains l f) freed_of c) in
      (m.item, m.there, m.is)

  row_of : Entry → Staged
  row_of e = staged_in (taken_names set) e

  down : (e : Entry) → Contains (entries_of set) e → (f : Entry) × Contains (entries_of other) f × IsMate e f
  unfolding row_of
  down e c = (
    freed (rows_of set) (row_of e),
    freed_there (row_of e) (entry_row set holds e c),
    freed_mate (rows_of set) (row_of e),
  )

  up : (f : Entry) → Contains (entries_of other) f → (e : Entry) × Contains (entries_of set) e × IsMate f e
  up f c =
      let r = freed_from f c in
      let m = freed_mate (rows_of set) r.0 in (
        r.0.entry,
        (row_entry set holds r.0 r.1).0,
        record {
          name = sym (m.name ∙ ap (λ (x : Entry). x.name) r.2);
          start = sym (m.start ∙ ap (λ (x : Entry). x.start) r.2);
          kind = sym (m.kind ∙ ap (λ (x : Entry). x.kind) r.2);
        },
      )

  plan_auto : (s : Tree) (e : Entry) → Contains (plan_of s book.Automatic []) e → IsAuto (entries_of s) [] e
  plan_auto s e c = auto_from (entries_of s) [] e (plan_from s book.Automatic [] e c)

  auto_plan : (s : Tree) (e : Entry) → IsAuto (entries_of s) [] e → Contains (plan_of s book.Automatic []) e
  auto_plan s e a = plan_in s book.Automatic [] e (auto_taken (entries_of s) [] e a)

  -- a name of what is taken is good for what is taken
  down_keeps : (a b : Entry) (there : Contains (entries_of set) a) → IsAuto (entries_of set) [] a → IsAuto (entries_of set) [] b → (d : List ℕ)
      → Contains a.services d → folds_same b.name d ≡ true → Contains (down a there).0.services d
  unfolding down row_of
  down_keeps a b there auto_a auto_b d c h =
      let stage_a = stage_automatic set holds a (auto_plan set a auto_a) in
      let plan_b = auto_plan set b auto_b in
      let stage_b = stage_automatic set holds b plan_b in
      let rb : Staged = staged_in (taken_names set) b in
      let there_b = entry_row set holds b (plan_entry set book.Automatic [] b plan_b) in
      let n = named_is (rows_of set) (rows_apart set holds) d rb there_b (names_flip d b.name ∙ h) in
      let none : service_fault (rows_of set) Automatic d ≡ [] =
      ap (name_fault Automatic d) (named_row (rows_of set) d rb n)
      ∙ upto_fits Automatic d b.start rb.stage (ap (is_upto Automatic) stage_b) in
      subst (λ (e : Entry). Contains e.services d) (sym (freed_is (rows_of set) (staged_in (taken_names set) a) Automatic stage_a))
      (filter_in (is_good (rows_of set) Automatic) a.services d c (ap (λ (l : List Fault). nat_eq (length l) 0) none))

  up_keeps : (a b : Entry) (there : Contains (entries_of other) a) → IsAuto (entries_of other) [] a → IsAuto (entries_of other) [] b → (d : List ℕ)
      → Contains a.services d → folds_same b.name d ≡ true → Contains (up a there).0.services d
  unfolding up
  up_keeps a b there auto_a auto_b d c h =
      let r = freed_from a there in
      freed_services (rows_of set) r.0 d (subst (λ (e : Entry). Contains e.services d) (sym r.2) c)

  auto_down : (e : Entry) → Contains (plan_of set book.Automatic []) e → takes (names_taken other book.Automatic) e ≡ true
  auto_down e c =
      auto_mate (entries_of set) (entries_of other) (entries_apart set holds) (entries_apart other holds') down down_keeps
      (names_taken other book.Automatic) (λ f a. takes_in other holds' book.Automatic f (auto_plan other f a))
      (λ f i h. plan_auto other f (takes_from other holds' book.Automatic f i h)) e (plan_auto set e c)

  auto_up : (f : Entry) → Contains (plan_of other book.Automatic []) f → takes (names_taken set book.Automatic) f ≡ true
  auto_up f c =
      auto_mate (entries_of other) (entries_of set) (entries_apart other holds') (entries_apart set holds) up up_keeps
      (names_taken set book.Automatic) (λ e a. takes_in set holds book.Automatic e (auto_plan set e a))
      (λ e i h. plan_auto set e (takes_from set holds book.Automatic e i h)) f (plan_auto other f c)

  -- what a phase of drivers takes of one set it takes of the other
  driver_again : (s t : Tree) (start : ℕ) (phase : Phase) → ((e : Entry) → Contains (plan_of s phase []) e → (is_driver e.kind ≡ true) × (e.start ≡ start))
      → ((f : Entry) → Contains (entries_of t) f → is_driver f.kind ≡ true → f.start ≡ start → Contains (plan_of t phase []) f)
      → (e f : Entry) → IsMate e f → Contains (entries_of t) f → Contains (plan_of s phase []) e → Contains (plan_of t phase []) f
  driver_again s t start phase from to e f i there c =
      let d = from e c in to f there (ap is_driver (sym i.kind) ∙ d.0) (sym i.start ∙ d.1)

  boot_from : (s : Tree) (e : Entry) → Contains (plan_of s book.Boot []) e → (is_driver e.kind ≡ true) × (e.start ≡ 0)
  boot_from s e c = let t = plan_from s book.Boot [] e c in driver_from (entries_of s) 0 [] t.place e t.taken t.here

  system_from : (s : Tree) (e : Entry) → Contains (plan_of s book.System []) e → (is_driver e.kind ≡ true) × (e.start ≡ 1)
  system_from s e c = let t = plan_from s book.System [] e c in driver_from (entries_of s) 1 [] t.place e t.taken t.here

  boot_to : (s : Tree) (f : Entry) → Contains (entries_of s) f → is_driver f.kind ≡ true → f.start ≡ 0 → Contains (plan_of s book.Boot []) f
  boot_to s f c kind start =
      let p = item_place (entries_of s) f c in
      plan_in s book.Boot [] f (record {
        place = p.0;
        taken = passing_place (is_driver_of 0 []) (entries_of s) p.0 f p.1
            (and_from (is_driver f.kind && nat_eq f.start 0) true (and_from (is_driver f.kind) (nat_eq f.start 0) kind (eq-eqb f.start 0 start)) refl);
        here = p.1;
      })

  system_to : (s : Tree) (f : Entry) → Contains (entries_of s) f → is_driver f.kind ≡ true → f.start ≡ 1 → Contains (plan_of s book.System []) f
  system_to s f c kind start =
      let p = item_place (entries_of s) f c in
      plan_in s book.System [] f (record {
        place = p.0;
        taken = passing_place (is_driver_of 1 []) (entries_of s) p.0 f p.1
            (and_from (is_driver f.kind && nat_eq f.start 1) true (and_from (is_driver f.kind) (nat_eq f.start 1) kind (eq-eqb f.start 1 start)) refl);
        here = p.1;
      })

  mate_back : (e f : Entry) → IsMate e f → IsMate f e
  mate_back e f i = record { name = sym i.name; start = sym i.start; kind = sym i.kind }

  -- the phases take an entry where they take it without its wrong needs
  takes_same : (phase : Phase) → ((e f : Entry) → IsMate e f → Contains (entries_of other) f → Contains (plan_of set phase []) e → Contains (plan_of other phase []) f)
      → ((f e : Entry) → IsMate f e → Contains (entries_of set) e → Contains (plan_of other phase []) f → Contains (plan_of set phase []) e)
      → (r : Staged) → Contains (rows_of set) r
      → takes (names_taken other phase) (freed (rows_of set) r) ≡ takes (names_taken set phase) r.entry
  takes_same phase to back r c =
      let mate = freed_mate (rows_of set) r in
      let there = (row_entry set holds r c).0 in
      let there' = freed_there r c in
      same_bool (takes (names_taken other phase) (freed (rows_of set) r)) (takes (names_taken set phase) r.entry)
      (λ h. takes_in set holds phase r.entry (back (freed (rows_of set) r) r.entry (mate_back r.entry (freed (rows_of set) r) mate) there
      (takes_from other holds' phase (freed (rows_of set) r) there' h)))
      (λ h. takes_in other holds' phase (freed (rows_of set) r) (to r.entry (freed (rows_of set) r) mate there'
      (takes_from set holds phase r.entry there h)))

  -- what is taken under one name
  auto_to : (e f : Entry) → IsMate e f → Contains (entries_of other) f → Contains (plan_of set book.Automatic []) e → Contains (plan_of other book.Automatic []) f
  auto_to e f i there c =
      takes_from other holds' book.Automatic f there
      (ap (λ (n : List ℕ). list_any (folds_same n) (names_taken other book.Automatic)) (sym i.name) ∙ auto_down e c)

  auto_back : (f e : Entry) → IsMate f e → Contains (entries_of set) e → Contains (plan_of other book.Automatic []) f → Contains (plan_of set book.Automatic []) e
  auto_back f e i there c =
      takes_from set holds book.Automatic e there
      (ap (λ (n : List ℕ). list_any (folds_same n) (names_taken set book.Automatic)) (sym i.name) ∙ auto_up f c)

  stage_same : (r : Staged) → Contains (rows_of set) r → stage_in (taken_names other) (freed (rows_of set) r) ≡ r.stage
  stage_same r c =
      let boot = takes_same book.Boot (driver_again set other 0 book.Boot (boot_from set) (boot_to other)) (driver_again other set 0 book.Boot (boot_from other) (boot_to set)) r c in
      let system = takes_same book.System (driver_again set other 1 book.System (system_from set) (system_to other)) (driver_again other set 1 book.System (system_from other) (system_to set)) r c in
      let auto = takes_same book.Automatic auto_to auto_back r c in
      let mate = freed_mate (rows_of set) r in
      (λ i. cond (boot i) (Some Boot) (cond (system i) (Some System) (cond (auto i) (Some Automatic)
      (cond (nat_eq (sym mate.start i) 3 && (is_driver (sym mate.kind i) || is_service (sym mate.kind i))) (Some Demand) None))))
      ∙ sym (row_entry set holds r c).1

  all_same : (rs : List Staged) → ((r : Staged) → Contains rs r → Contains (rows_of set) r)
      → map (staged_in (taken_names other)) (map (freed (rows_of set)) rs) ≡ map (freed_row (rows_of set)) rs
  all_same [] f = refl
  all_same (r ∷ rs) f =
      λ i. record { entry = freed (rows_of set) r; stage = stage_same r (f r (first_in r rs)) i }
      ∷ all_same rs (λ x c. f x (later_in r rs x c)) i

  pub rows_same : rows_of other ≡ map (freed_row (rows_of set)) (rows_of set)
  rows_same = ap (map (staged_in (taken_names other))) freed_of ∙ all_same (rows_of set) (λ r c. c)

  -- ---- who is unmet

  waits_same : waits_of (rows_of other) ≡ waits_of (rows_of set)
  waits_same = ap waits_of rows_same ∙ waits_are (rows_of set)

  right : (r : Staged) → Contains (rows_of other) r → is_taken r.stage ≡ true → IsRight (rows_of other) r
  right r c taken =
      subst (λ (rs : List Staged). Contains rs r → IsRight rs r) (sym rows_same) (bare_right (rows_of set) r) c

  module _ (p : ℕ) (r : Staged) (at : slice_get (rows_of set) p ≡ Some r) (taken : is_taken r.stage ≡ true) where
    there : slice_get (rows_of other) p ≡ Some (freed_row (rows_of set) r)
    there = ap (λ (rs : List Staged). slice_get rs p) rows_same ∙ at_bare (rows_of set) p ∙ ap (option_map (freed_row (rows_of set))) at

    name_same : (freed (rows_of set) r).name ≡ r.entry.name
    name_same = sym (freed_mate (rows_of set) r).name

    stuck_unmet : is_stuck (waits_of (rows_of set)) p ≡ true → SaysUnmet other r.entry.name
    stuck_unmet st =
        let t = start_told other in
        let start = start_of other holds' t.0 t.1 t.2 t.3 in
        let stuck' : is_stuck (waits_of (rows_of other)) p ≡ true = ap (λ (w : List (List (List ℕ))). is_stuck w p) waits_same ∙ st in
        subst (SaysUnmet other) name_same
        (says_in other holds' t.0 t.1 t.2 t.3 (need_of (freed (rows_of set) r))
        (reason_left (rows_of other) (rows_apart other holds') (needs t.0) (needs t.1) (needs t.2) start p (freed_row (rows_of set) r) there taken
        (whole.stuck stuck')))

    unmet_stuck : SaysUnmet other r.entry.name → is_stuck (waits_of (rows_of set)) p ≡ true
    unmet_stuck says =
        let t = start_told other in
        let start = start_of other holds' t.0 t.1 t.2 t.3 in
        let n = says_from other holds' t.0 t.1 t.2 t.3 r.entry.name says in
        let u = left_row (rows_of other) (rows_apart other holds') (needs t.0) (needs t.1) (needs t.2) start n.0 n.1 in
        let same : u.row ≡ freed_row (rows_of set) r =
        rows_apart other holds' u.row (freed_row (rows_of set) r) (item_here (rows_of other) u.place u.row u.at)
        (item_here (rows_of other) p (freed_row (rows_of set) r) there)
        (ap (λ (m : Need). folds_same m.name (freed (rows_of set) r).name) u.need
        ∙ (λ i. folds_same (n.2 i) (name_same i)) ∙ folds_itself r.entry.name) in
        let left' = subst (λ (m : Need). Contains ((((needs t.0).left ++ (needs t.1).left) ++ (needs t.2).left)) m)
        (sym u.need ∙ ap (λ (s : Staged). need_of s.entry) same) n.1 in
        sym (ap (λ (w : List (List (List ℕ))). is_stuck w p) waits_same)
        ∙ left_stuck (rows_of other) (rows_apart other holds') (needs t.0) (needs t.1) (needs t.2) start right p (freed_row (rows_of set) r) there taken left'

  -- ---- what service control refuses

  right_all : (r : Staged) → Contains (rows_of other) r → IsRight (rows_of other) r
  right_all r c = subst (λ (rs : List Staged). Contains rs r → IsRight rs r) (sym rows_same) (bare_right (rows_of set) r) c

  module _ (p : ℕ) (r : Staged) (at : slice_get (rows_of set) p ≡ Some r) (late : r.stage ≡ Some Demand) where
    f : Entry
    f = freed (rows_of set) r

    there_r : Contains (rows_of set) r
    there_r = item_here (rows_of set) p r at

    runs : (nat_eq r.entry.start 3 && (is_driver r.entry.kind || is_service r.entry.kind)) ≡ true
    runs = demand_stage set holds r.entry (sym (row_entry set holds r (item_here (rows_of set) p r at)).1 ∙ late)

    row_is : freed_row (rows_of set) r ≡ staged_in (taken_names other) (freed (rows_of set) r)
    row_is = λ i. record { entry = freed (rows_of set) r; stage = sym (stage_same r (item_here (rows_of set) p r at)) i }

    at_other : slice_get (rows_of other) p ≡ Some (staged_in (taken_names other) (freed (rows_of set) r))
    at_other = ap (λ (rs : List Staged). slice_get rs p) rows_same ∙ at_bare (rows_of set) p ∙ ap (option_map (freed_row (rows_of set))) at
        ∙ ap (λ (s : Staged). Some s) row_is

    abbrev IsFine : Option ControlStop → Type 0
    IsFine why = (why ≡ None) ⊎ ((why ≡ Some Unmet) × (is_stuck (waits_of (rows_of set)) p ≡ true))

    fine_by : (why : Option ControlStop) → Answered other holds' p why → IsFine why
    fine_by why (demands.done h) = inl h
    fine_by why (demands.runs h taken) =
        absurd (false≢true (sym (ap is_taken late) ∙ taken (freed_row (rows_of set) r)
        (at_other ∙ ap (λ (s : Staged). Some s) (sym row_is))))
    fine_by why (demands.held h st) = inr (h, sym (ap (λ (w : List (List (List ℕ))). is_stuck w p) waits_same) ∙ st)

    only_stuck : (name : List ℕ) → folds_same name r.entry.name ≡ true → IsFine (start_refusal (control_of other) name)
    only_stuck name h =
        let mate = freed_mate (rows_of set) r in
        let b = and_parts (nat_eq r.entry.start 3) (is_driver r.entry.kind || is_service r.entry.kind) runs in
        fine_by (start_refusal (control_of other) name)
        (start_answered other holds' right_all (freed (rows_of set) r) (freed_there r (item_here (rows_of set) p r at))
        (sym mate.start ∙ eqb-true r.entry.start 3 b.0) (ap (λ (k : ℕ). is_driver k || is_service k) (sym mate.kind) ∙ b.1) p at_other
        name (ap (folds_same name) (sym mate.name) ∙ h))

pub same_are_taken : SameAreTaken
same_are_taken set bare holds holds' freed_of = rows_same set bare holds holds' freed_of

pub stuck_are_unmet : StuckAreUnmet
stuck_are_unmet set bare holds holds' freed_of p r at taken = (
  unmet_stuck set bare holds holds' freed_of p r at taken,
  stuck_unmet set bare holds holds' freed_of p r at taken,
)

pub only_stuck_are_refused : OnlyStuckAreRefused
only_stuck_are_refused set bare holds holds' freed_of p r at late name h = only_stuck set bare holds holds' freed_of p r at late name h
