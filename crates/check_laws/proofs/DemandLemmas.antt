-- Where no line is about a name, what is started on demand starts.
use Rattle.std.proofs.Common.{◌≡◌, ℕ, ◌<◌, Bool, true, false, not, ◌&&◌, ◌||◌, nat_eq, cond, List, [], ◌∷◌, ◌++◌, length, map, Option, Some, None, refl, sym, ap, ◌∙◌, ◌⊎◌, inl, inr, subst, arith}
use Rattle.std.specs.Prelude.{Contains, slice_get, position, option_and_then}
use Rattle.std.specs.Option.{is_some, option_map, option_map_or, option_or}
use Rattle.std.specs.List.{list_any, flat_map, filter_map, range_with_len, list_all}
use Rattle.std.proofs.lemmas.Bool.{false≢true, and_parts, and_from, or_left, not-true, eqb-true, eq-eqb, or_cases, or_right, false_from_ne_true, cases_Bool}
use Rattle.std.proofs.lemmas.List.{length-map, get_or-map}
use Rattle.std.proofs.lemmas.List.Elements.{Contains-append_left, Contains-append_right, Contains-append_cases}
use Rattle.std.proofs.lemmas.List.Quantifiers.{position-Some}
use Rattle.std.proofs.lemmas.Option.{slice_get_within, get_or_from_slice_get, same_Some, cond_some}
use Rattle.nt_bytes.specs.Folding.{folds_same}
use Rattle.nt_names.proofs.FoldLemmas.{alike}
use Rattle.hive_model.specs.Tree.{Tree}
use Rattle.hive_model.specs.Valid.{HoldsKeys}
use Rattle.dependencies.specs.Work.{names_of}
use Rattle.dependencies.proofs.MeetLemmas.{names_flip}
use Rattle.boot_phases.proofs.TriedLemmas.{some_place}
use Rattle.start_model.specs.Demand.{Need}
use Rattle.start_model.specs.Demand as book_demand
use Rattle.start_model.specs.Entries as book
use Rattle.start_model.specs.Entries.{Entry, entries_of, is_driver, is_service, is_open, need_of}
use Rattle.start_model.specs.Order.{Rank, ordered_of, orders_of, plan_of}
use Rattle.start_model.specs.Ready.{Label, has_name, is_ready}
use Rattle.wait_cycles.specs.Waits.{is_held, is_stuck, needs_at}
use Rattle.wait_cycles.proofs.MetLemmas.{first_in, any_from, any_gives, in_range}
use Rattle.wait_cycles.proofs.CycleLemmas.{filter_in, filter_out, filter_none}
use Rattle.answer_lines.specs.declared.check_lines.lines.CheckLine.TheVariants as lines
use Rattle.service_check.specs.declared.stage.Stage.{Stage}
use Rattle.service_check.specs.declared.stage.Stage.TheVariants.{Boot, System, Automatic, Demand}
use Rattle.service_check.specs.declared.stage.Staged.{Staged}
use Rattle.service_check.specs.Stages.{is_taken, is_upto, taken_names, stage_in, staged_in, rows_of}
use Rattle.service_check.specs.Needs.{good_ways, waits_of}
use Rattle.service_check.specs.Check.{name_at}
use Rattle.service_control.specs.declared.stop.ControlStop.{ControlStop}
use Rattle.service_control.specs.declared.stop.ControlStop.TheVariants.{NoService, Disabled, Running, Missing, NeedDisabled, Unmet}
use Rattle.service_control.specs.State.{labels_of, named}
use Rattle.service_control.specs.Turns.{starts_of}
use Rattle.service_control.specs.Needed.{asks, needed_of, is_off, members_of, is_absent, least_name, missing_in, disabled_in}
use Rattle.service_control.specs.Sets.{is_needed, names_one, HasNeeds}
use Rattle.service_control.specs.First.{is_controlled, controlled, table_of, group_rank, ranks_of, by_group_of, first_running, control_of}
use Rattle.service_control.specs.Calls.{turns_refusal, needs_refusal, start_refusal_at, start_refusal}
use Rattle.service_control.proofs.LeanLemmas.{folds_itself, mapped_from, mapped_to}
use Rattle.service_control.proofs.LeastLemmas.{from}
use Rattle.service_control.proofs.NeededLemmas.{needed_has, needed_least}
use Rattle.check_laws.specs.Laws.{HoldsItself}
use Rattle.check_laws.specs.Unmet.{HasAbout, wrong, cycle}
use Rattle.check_laws.specs.Demand.{IsDoneOrRuns, NoneAboutStartsOnDemand}
use Rattle.check_laws.proofs.TakenLemmas.{mapped_on, item_here, item_place, ordered_in, plan_from, place_passes, auto_from, is_late}
use Rattle.check_laws.proofs.ProperLaws.{good_proper, flat_from}
use Rattle.check_laws.proofs.StuckLaws.{stuck_greatest, held_wider, stuck_holds}
use Rattle.check_laws.proofs.CycleLaws.{one_round, round_found, leading_stuck}
use Rattle.check_laws.proofs.TurnLemmas.{Ran, InTurn, IsPhase, named_in, named_from, turned_each}
use Rattle.check_laws.proofs.TurnsLemmas.{starts}
use Rattle.check_laws.proofs.RowLemmas.{RowsApart, stands_at, Fits, fit, by_demand, first_for, ways_of_row, way_by_name}
use Rattle.check_laws.proofs.UnmetLemmas.{IsOf, IsUpto, IsRight, Serves, right_name, served, unready_held}
use Rattle.check_laws.proofs.WholeLemmas.{IsStart, over_automatic, well_all, taken_upto, upto_taken, set_stuck}
use Rattle.check_laws.proofs.SetLemmas.{entries_apart, rows_apart, row_entry, entry_row, boot_stage, system_stage, automatic_stage, demand_stage, driver_from, boot_phase, system_phase, automatic_phase, IsEarly, below_by, boot_early, system_early, never_tried, automatic_late, boot_start, system_start}
use Rattle.check_laws.proofs.LineLemmas.{set_says, set_says_cycle}
use Rattle.check_laws.proofs.WaysLemmas.{wrong_is}
use Rattle.answer_lines.specs.declared.check_lines.lines.Fault.{Fault}

-- ---- the start of which control knows

-- who starts in each phase, and who is left
abbrev ran_of : List Need → List Need → List Need → Ran Need
ran_of needs pre left = record { new = starts_of needs (labels_of pre); left = left }

late_below : (n : ℕ) → is_late n ≡ true → n < 4
late_below n h = elim (or_cases (nat_eq n 2) (nat_eq n 3) h) [
  | inl e ↦ omega (arith, eqb-true n 2 e)
  | inr e ↦ omega (arith, eqb-true n 3 e)
]

module _ (set : Tree) (holds : HoldsKeys set) where
  abbrev needs0 : List Need
  needs0 = map need_of (plan_of set book.Boot [])

  abbrev new0 : List Need
  new0 = starts_of needs0 (labels_of [])

  abbrev needs1 : List Need
  needs1 = map need_of (plan_of set book.System (names_of new0))

  abbrev new1 : List Need
  new1 = starts_of needs1 (labels_of new0)

  abbrev needs2 : List Need
  needs2 = map need_of (plan_of set book.Automatic (names_of (new0 ++ new1)))

  boot_tried : (k : ℕ) → 0 < k → (new : List Need) → InTurn (IsOf (rows_of set) Boot) [] new → (name : List ℕ)
      → (n : Need) → Contains new n → n.name ≡ name → IsEarly set holds k name
  boot_tried k lt new turn name n c is =
      boot_early set holds k name n lt (turned_each (IsOf (rows_of set) Boot) [] new turn n c).0
      (λ x. ap (λ (m : List ℕ). folds_same m x) (sym is))

  system_tried : (pre new : List Need) → InTurn (IsOf (rows_of set) System) pre new → (name : List ℕ)
      → (n : Need) → Contains new n → n.name ≡ name → IsEarly set holds 2 name
  system_tried pre new turn name n c is =
      system_early set holds name n (turned_each (IsOf (rows_of set) System) pre new turn n c).0
      (λ x. ap (λ (m : List ℕ). folds_same m x) (sym is))

  first_start : (a : Ran Need) × (b : Ran Need) × (c : Ran Need) × IsStart (rows_of set) a b c
      × (first_running set ≡ (a.new ++ b.new) ++ c.new)
  first_start =
      let s0 = starts needs0 [] in
      let one = boot_phase set holds [] new0 s0.left s0.phase in
      let s1 = starts needs1 new0 in
      let two = system_phase set holds (names_of new0)
      (below_by set holds (names_of new0) 1 (λ name c.
      (let m = mapped_from (λ (n : Need). n.name) new0 name c in
      boot_tried 1 (omega arith) new0 one.turn name m.item m.there m.is)))
      new0 new1 s1.left s1.phase in
      let s2 = starts needs2 (new0 ++ new1) in
      let three = automatic_phase set holds (names_of (new0 ++ new1))
      (below_by set holds (names_of (new0 ++ new1)) 2 (λ name c.
      (let m = mapped_from (λ (n : Need). n.name) (new0 ++ new1) name c in
      elim (Contains-append_cases new0 new1 m.item m.there) [
        | inl i ↦ boot_tried 2 (omega arith) new0 one.turn name m.item i m.is
        | inr i ↦ system_tried new0 new1 two.turn name m.item i m.is
      ])))
      (new0 ++ new1) (starts_of needs2 (labels_of (new0 ++ new1))) s2.left s2.phase in (
        ran_of needs0 [] s0.left,
        ran_of needs1 new0 s1.left,
        ran_of needs2 (new0 ++ new1) s2.left,
        record { boot = one; system = two; automatic = three },
        refl,
      )

  -- ---- the table

  abbrev rows : List Staged
  rows = rows_of set

  abbrev apart : RowsApart (rows_of set)
  apart = rows_apart set holds

  abbrev table : List Need
  table = table_of set

  abbrev by_group : List Need
  by_group = by_group_of (orders_of set) (table_of set)

  record IsEntry (m : Need) : Type 0 where
    entry : Entry
    there : Contains (entries_of set) entry
    need : need_of entry ≡ m

  table_from : (m : Need) → Contains table m → IsEntry m
  table_from m c =
      let e = from controlled (entries_of set) m c in
      record { entry = e.item; there = e.there; need = (cond_some (is_controlled e.item.kind) (need_of e.item) m e.is).1 }

  table_in : (e : Entry) → Contains (entries_of set) e → is_controlled e.kind ≡ true → Contains table (need_of e)
  table_in e c h =
      mapped_on controlled (entries_of set) e (need_of e) c (ap (λ (b : Bool). cond b (Some (need_of e)) None) h)

  group_from : (m : Need) → Contains by_group m → Contains table m
  group_from m c =
      let p = from (slice_get table) (map (λ (r : Rank). r.place) (ordered_of (ranks_of (orders_of set) table))) m c in
      item_here table p.item m p.is

  group_in : (m : Need) → Contains table m → Contains by_group m
  group_in m c =
      let p = item_place table m c in
      let r : Rank = group_rank (orders_of set) p.0 m in
      mapped_on (slice_get table) (map (λ (r : Rank). r.place) (ordered_of (ranks_of (orders_of set) table))) p.0 m
      (mapped_to (λ (r : Rank). r.place) (ordered_of (ranks_of (orders_of set) table)) r
      (ordered_in (ranks_of (orders_of set) table) r
      (mapped_on (λ p. option_map (group_rank (orders_of set) p) (slice_get table p)) (range_with_len 0 (length table)) p.0 r
      (in_range (length table) p.0 (slice_get_within table p.0 m p.1)) (ap (option_map (group_rank (orders_of set) p.0)) p.1)))) p.1

  -- an entry of the table and a row of one name
  entry_is_row : (m : Need) → IsEntry m → (r : Staged) → Contains rows r → folds_same m.name r.entry.name ≡ true
      → need_of r.entry ≡ m
  entry_is_row m e r there h =
      ap need_of (sym (entries_apart set holds e.entry r.entry e.there (row_entry set holds r there).0
      (ap (λ (n : Need). folds_same n.name r.entry.name) e.need ∙ h))) ∙ e.need

  controlled_at : (own : Stage) (e : Entry) → Contains (entries_of set) e → stage_in (taken_names set) e ≡ Some own
      → is_controlled e.kind ≡ true
  controlled_at Boot e there h =
      let t = plan_from set book.Boot [] e (boot_stage set holds e there h) in
      or_left (is_driver e.kind) (is_service e.kind) (driver_from (entries_of set) 0 [] t.place e t.taken t.here).0
  controlled_at System e there h =
      let t = plan_from set book.System [] e (system_stage set holds e there h) in
      or_left (is_driver e.kind) (is_service e.kind) (driver_from (entries_of set) 1 [] t.place e t.taken t.here).0
  controlled_at Automatic e there h =
      let a = auto_from (entries_of set) [] e (plan_from set book.Automatic [] e (automatic_stage set holds e there h)) in
      (and_parts (is_driver e.kind || is_service e.kind) _
      (place_passes (is_open []) (entries_of set) a.place e
      (item_here _ a.index a.place a.at) a.here)).0
  controlled_at Demand e there h =
      (and_parts (nat_eq e.start 3) (is_driver e.kind || is_service e.kind) (demand_stage set holds e h)).1

  -- a row with a stage is in the table
  row_in_table : (own : Stage) (r : Staged) → Contains rows r → r.stage ≡ Some own → Contains table (need_of r.entry)
  row_in_table own r there h =
      let e = row_entry set holds r there in
      table_in r.entry e.0 (controlled_at own r.entry e.0 (sym e.1 ∙ h))

  has_stage : (e : Entry) → e.start ≡ 3 → is_controlled e.kind ≡ true → (own : Stage) × (stage_in (taken_names set) e ≡ Some own)
  has_stage e three kind = by _ _ _ (nat_eq e.start 3 && (is_driver e.kind || is_service e.kind))
      (and_from (nat_eq e.start 3) (is_driver e.kind || is_service e.kind) (eq-eqb e.start 3 three) kind)
    where
      by : (a b c d : Bool) → d ≡ true
          → (own : Stage) × (cond a (Some Boot) (cond b (Some System) (cond c (Some Automatic) (cond d (Some Demand) None))) ≡ Some own)
      by true b c d h = (Boot, refl)
      by false true c d h = (System, refl)
      by false false true d h = (Automatic, refl)
      by false false false true h = (Demand, refl)
      by false false false false h = absurd (false≢true h)

  -- ---- the members of a start

  not_four : (n : ℕ) → n < 4 → nat_eq n 4 ≡ false
  not_four n lt = false_from_ne_true (nat_eq n 4) (λ h. omega (arith, lt, eqb-true n 4 h))

  -- an entry with a stage has a Start below 4
  stage_start : (own : Stage) (e : Entry) → Contains (entries_of set) e → stage_in (taken_names set) e ≡ Some own → e.start < 4
  stage_start Boot e there h = omega (arith, boot_start set [] e (boot_stage set holds e there h))
  stage_start System e there h = omega (arith, system_start set [] e (system_stage set holds e there h))
  stage_start Automatic e there h =
      late_below e.start (automatic_late set holds [] (never_tried (entries_of set) 2) e (automatic_stage set holds e there h))
  stage_start Demand e there h =
      omega (arith, eqb-true e.start 3 (and_parts (nat_eq e.start 3) (is_driver e.kind || is_service e.kind) (demand_stage set holds e h)).0)

  -- one of a list that the start of an entry needs, and that isn't started
  record IsMember (e : Entry) (T : List Need) (m : Need) : Type 0 where
    place : ℕ
    at : slice_get T place ≡ Some m
    needed : is_needed T (labels_of (first_running set)) e.name place ≡ true
    off : has_name (labels_of (first_running set)) m.name ≡ false

  member_from : (e : Entry) (T : List Need) (m : Need) → Contains (members_of T (labels_of (first_running set)) e.name) m → IsMember e T m
  member_from e T m c =
      let labels : List Label = labels_of (first_running set) in
      let o = filter_out (is_off (labels_of (first_running set))) (filter_map (slice_get T) (needed_of T (labels_of (first_running set)) e.name)) m c in
      let q = from (slice_get T) (needed_of T (labels_of (first_running set)) e.name) m o.0 in
      record {
        place = q.item;
        at = q.is;
        needed = (filter_out (book_demand.is_taken (map (asks (labels_of (first_running set)) e.name) T))
            (range_with_len 0 (length (map (asks (labels_of (first_running set)) e.name) T))) q.item q.there).1;
        off = not-true (has_name (labels_of (first_running set)) m.name) o.1;
      }

  member_in : (e : Entry) (T : List Need) (m : Need) → IsMember e T m → Contains (members_of T (labels_of (first_running set)) e.name) m
  member_in e T m i =
      filter_in (is_off (labels_of (first_running set))) (filter_map (slice_get T) (needed_of T (labels_of (first_running set)) e.name)) m
      (mapped_on (slice_get T) (needed_of T (labels_of (first_running set)) e.name) i.place m
      (filter_in (book_demand.is_taken (map (asks (labels_of (first_running set)) e.name) T))
      (range_with_len 0 (length (map (asks (labels_of (first_running set)) e.name) T))) i.place
      (in_range (length (map (asks (labels_of (first_running set)) e.name) T)) i.place
      (omega (arith, slice_get_within T i.place m i.at, length-map T (asks (labels_of (first_running set)) e.name)))) i.needed) i.at) (ap not i.off)

  -- ---- where no need is wrong

  -- none is refused, or it runs, or it is stuck and refused as unmet
  pub data Answered (p : ℕ) (why : Option ControlStop) : Type 0 where
    done : why ≡ None → Answered p why
    runs : why ≡ Some Running → ((r : Staged) → slice_get (rows_of set) p ≡ Some r → is_taken r.stage ≡ true) → Answered p why
    held : why ≡ Some Unmet → is_stuck (waits_of (rows_of set)) p ≡ true → Answered p why

  module _ (right : (r : Staged) → Contains (rows_of set) r → IsRight (rows_of set) r) where
    abbrev running : List Need
    running = first_running set

    abbrev labels : List Label
    labels = labels_of (first_running set)

    below : (p : ℕ) (r : Staged) → slice_get rows p ≡ Some r → p < length (waits_of rows)
    below p r at = omega (arith, slice_get_within rows p r at, length-map rows (good_ways rows))

    -- what is taken runs, or is stuck
    taken_or : (q : ℕ) (s : Staged) → slice_get rows q ≡ Some s → is_taken s.stage ≡ true
        → Contains running (need_of s.entry) ⊎ (is_stuck (waits_of rows) q ≡ true)
    taken_or q s at taken =
        let t = first_start in
        elim (over_automatic rows apart t.0 t.1 t.2 t.3 q s at (taken_upto s.stage taken)) [
          | inl i ↦ inl (subst (λ (l : List Need). Contains l (need_of s.entry)) (sym t.4) i)
          | inr on ↦ inr (set_stuck rows apart t.0 t.1 t.2 t.3 (λ r c tr. right r c) q (below q s at) on)
        ]

    known : (m : Need) → Contains running m → IsUpto rows Automatic m
    known m c = let t = first_start in
        (well_all rows apart t.0 t.1 t.2 t.3 m (subst (λ (l : List Need). Contains l m) t.4 c)).upto

    -- what has not started has no stage of a phase, or is stuck
    off_or : (own : Stage) (q : ℕ) (s : Staged) → slice_get rows q ≡ Some s → s.stage ≡ Some own
        → has_name labels s.entry.name ≡ false → (own ≡ Demand) ⊎ (is_stuck (waits_of rows) q ≡ true)
    off_or Demand q s at stage off = inl refl
    off_or Boot q s at stage off = elim (taken_or q s at (ap is_taken stage)) [
      | inl i ↦ absurd (false≢true (sym off ∙ named_in running s.entry.name (need_of s.entry) i (folds_itself s.entry.name)))
      | inr st ↦ inr st
    ]
    off_or System q s at stage off = elim (taken_or q s at (ap is_taken stage)) [
      | inl i ↦ absurd (false≢true (sym off ∙ named_in running s.entry.name (need_of s.entry) i (folds_itself s.entry.name)))
      | inr st ↦ inr st
    ]
    off_or Automatic q s at stage off = elim (taken_or q s at (ap is_taken stage)) [
      | inl i ↦ absurd (false≢true (sym off ∙ named_in running s.entry.name (need_of s.entry) i (folds_itself s.entry.name)))
      | inr st ↦ inr st
    ]

    -- the row that a name of a row with a stage is served by, and its one way
    record IsServedBy (p : ℕ) (d : List ℕ) : Type 0 where
      place : ℕ
      row : Staged
      stage : Stage
      at : slice_get rows place ≡ Some row
      same : folds_same d row.entry.name ≡ true
      is : row.stage ≡ Some stage
      way : Contains (needs_at (waits_of rows) p) (place ∷ [])

    serves_name : (own : Stage) (p : ℕ) (r : Staged) → slice_get rows p ≡ Some r → r.stage ≡ Some own → (d : List ℕ)
        → Contains r.entry.services d → IsServedBy p d
    serves_name own p r at stage d c =
        let x = first_for r.entry.services d c in
        let fine = right_name rows apart r own x.0 stage (right r (item_here rows p r at)) x.1 in
        let s = served rows apart own x.0 fine in
        record {
          place = s.place;
          row = s.row;
          stage = s.other;
          at = s.at;
          same = sym (alike x.0 d x.2 s.row.entry.name) ∙ s.same;
          is = s.stage_is;
          way = subst (λ (l : List (List ℕ)). Contains l (s.place ∷ [])) (sym (ways_of_row rows p r own at stage))
              (way_by_name rows r own x.0 s.place x.1 (ap (λ (l : List Fault). nat_eq (length l) 0) fine) s.found);
        }

    -- ---- the entry that is started

    module _ (e : Entry) (there : Contains (entries_of set) e) (three : e.start ≡ 3) (kind : is_controlled e.kind ≡ true) (own : ℕ)
        (own_at : slice_get (rows_of set) own ≡ Some (staged_in (taken_names set) e)) where
      -- a test of places that the entry's place passes, and with a place each of its only ways
      module _ (ok : ℕ → Bool) (first : ok own ≡ true)
          (next : (p q : ℕ) → p < length (waits_of (rows_of set)) → Contains (needs_at (waits_of (rows_of set)) p) (q ∷ []) → ok p ≡ true → ok q ≡ true) where
        abbrev is_row : Need → Staged → Bool
        is_row n r = folds_same n.name r.entry.name && is_some r.stage

        abbrev is_place : Need → ℕ → Bool
        is_place n p = ok p && option_map_or (is_row n) (slice_get rows p) false

        abbrev has_row : Need → Bool
        has_row n = list_any (is_place n) (range_with_len 0 (length rows))

        -- the row of an entry that has a stage
        record IsRow (m : Need) : Type 0 where
          place : ℕ
          row : Staged
          stage : Stage
          at : slice_get rows place ≡ Some row
          need : need_of row.entry ≡ m
          is : row.stage ≡ Some stage
          passes : ok place ≡ true

        row_at : (m : Need) → Contains table m → (p : ℕ) → ok p ≡ true → (o : Option Staged) → slice_get rows p ≡ o
            → option_map_or (is_row m) o false ≡ true → IsRow m
        row_at m c p on None at h = absurd (false≢true h)
        row_at m c p on (Some r) at h =
            let b = and_parts (folds_same m.name r.entry.name) (is_some r.stage) h in
            by r.stage refl b.1 (entry_is_row m (table_from m c) r (item_here rows p r at) b.0)
          where
            by : (o : Option Stage) → r.stage ≡ o → is_some o ≡ true → need_of r.entry ≡ m → IsRow m
            by None is h need = absurd (false≢true h)
            by (Some own) is h need = record { place = p; row = r; stage = own; at = at; need = need; is = is; passes = on }

        row_from : (m : Need) → Contains table m → has_row m ≡ true → IsRow m
        row_from m c h =
            let p = any_gives (is_place m) (range_with_len 0 (length rows)) h in
            let b = and_parts (ok p.0) (option_map_or (is_row m) (slice_get rows p.0) false) p.2 in
            row_at m c p.0 b.0 (slice_get rows p.0) refl b.1

        row_to : (own : Stage) (m : Need) (p : ℕ) (r : Staged) → slice_get rows p ≡ Some r → r.stage ≡ Some own → need_of r.entry ≡ m
            → ok p ≡ true → has_row m ≡ true
        row_to own m p r at is need on =
            any_from (is_place m) (range_with_len 0 (length rows)) p (in_range (length rows) p (slice_get_within rows p r at))
            (and_from (ok p) (option_map_or (is_row m) (slice_get rows p) false) on
            (ap (λ (o : Option Staged). option_map_or (is_row m) o false) at
            ∙ and_from (folds_same m.name r.entry.name) (is_some r.stage)
            (ap (λ (n : Need). folds_same n.name r.entry.name) (sym need) ∙ folds_itself r.entry.name) (ap is_some is)))

        -- a list of entries of the table
        module _ (T : List Need) (sub : (m : Need) → Contains T m → Contains table m) where
          abbrev staged_set : ℕ → Bool
          staged_set q = option_map_or has_row (slice_get T q) false

          mine : (q : ℕ) (o : Option Need) → slice_get T q ≡ o → option_map_or (λ (n : Need). folds_same e.name n.name) o false ≡ true
              → option_map_or has_row o false ≡ true
          mine q None is h = absurd (false≢true h)
          mine q (Some n) is h =
              let f = table_from n (sub n (item_here T q n is)) in
              let same : e ≡ f.entry = entries_apart set holds e f.entry there f.there
              (ap (λ (m : Need). folds_same e.name m.name) f.need ∙ h) in
              let stage = has_stage e three kind in
              row_to stage.0 n own (staged_in (taken_names set) e) own_at stage.1 (ap need_of same ∙ f.need) first

          next_row : (p q : ℕ) (a b : Option Need) → slice_get T p ≡ a → slice_get T q ≡ b → option_map_or has_row a false ≡ true
              → option_map_or (λ (a : Need). is_off labels a && option_map_or (λ (b : Need). list_any (folds_same b.name) a.services) b false) a false ≡ true
              → option_map_or has_row b false ≡ true
          next_row p q None b at at' m h = absurd (false≢true h)
          next_row p q (Some a) None at at' m h = absurd (false≢true (and_parts (is_off labels a) false h).1)
          next_row p q (Some a) (Some b) at at' m h =
              let c = and_parts (is_off labels a) (list_any (folds_same b.name) a.services) h in
              let d = any_gives (folds_same b.name) a.services c.1 in
              let r = row_from a (sub a (item_here T p a at)) m in
              let given : Contains r.row.entry.services d.0 =
              subst (λ (n : Need). Contains n.services d.0) (sym r.need) d.1 in
              let s = serves_name r.stage r.place r.row r.at r.is d.0 given in
              let f = table_from b (sub b (item_here T q b at')) in
              row_to s.stage b s.place s.row s.at s.is
              (entry_is_row b f s.row (item_here rows s.place s.row s.at) (alike b.name d.0 d.2 s.row.entry.name ∙ s.same))
              (next r.place s.place (below r.place r.row r.at) s.way r.passes)

          staged_has : HasNeeds T labels e.name staged_set
          staged_has = record {
            itself = λ q h. mine q (slice_get T q) refl h;
            named = λ p q m h. next_row p q (slice_get T p) (slice_get T q) refl refl m h;
          }

          -- the row of a member
          member_row : (m : Need) → IsMember e T m → IsRow m
          member_row m i =
              let on : staged_set i.place ≡ true =
              needed_least T labels e.name staged_set staged_has i.place (slice_get_within T i.place m i.at) i.needed in
              row_from m (sub m (item_here T i.place m i.at)) (sym (ap (λ (o : Option Need). option_map_or has_row o false) i.at) ∙ on)

      -- ---- nothing is in the way

      table_same : (m : Need) → Contains table m → Contains table m
      table_same m c = c

      any_row : (T : List Need) → ((m : Need) → Contains T m → Contains table m) → (m : Need) → IsMember e T m
          → IsRow (λ _. true) refl (λ p q lt c h. refl) m
      any_row T sub m i = member_row (λ _. true) refl (λ p q lt c h. refl) T sub m i

      none_missing : missing_in (names_of table) (members_of table labels e.name) ≡ None
      none_missing = ap least_name (filter_none (is_absent (names_of table)) (flat_map (λ (n : Need). n.services) (members_of table labels e.name)) (λ d c.
          (let m = flat_from (λ (n : Need). n.services) (members_of table labels e.name) d c in
          let r = any_row table table_same m.0 (member_from e table m.0 m.1) in
          let s = serves_name r.stage r.place r.row r.at r.is d (subst (λ (n : Need). Contains n.services d) (sym r.need) m.2) in
          ap not (any_from (folds_same d) (names_of table) s.row.entry.name
          (mapped_to (λ (n : Need). n.name) table (need_of s.row.entry)
          (row_in_table s.stage s.row (item_here rows s.place s.row s.at) s.is)) s.same))))

      none_disabled : disabled_in (members_of table labels e.name) ≡ None
      none_disabled = ap (λ (l : List Need). least_name (map (λ (n : Need). n.name) l))
          (filter_none (λ (n : Need). nat_eq n.start 4) (members_of table labels e.name) (λ m c.
          (let r = any_row table table_same m (member_from e table m c) in
          let f = row_entry set holds r.row (item_here rows r.place r.row r.at) in
          sym (ap (λ (n : Need). nat_eq n.start 4) r.need)
          ∙ not_four (r.row.entry.start) (stage_start r.stage r.row.entry f.0 (sym f.1 ∙ r.is)))))

      -- ---- all start in their turns

      abbrev members : List Need
      members = members_of by_group labels e.name

      abbrev new : List Need
      new = starts_of members labels

      -- where the entry is not stuck
      module _ (free : is_stuck (waits_of (rows_of set)) own ≡ false) where
        abbrev is_free : ℕ → Bool
        is_free p = not (is_stuck (waits_of rows) p)

        free_next : (p q : ℕ) → p < length (waits_of (rows_of set)) → Contains (needs_at (waits_of (rows_of set)) p) (q ∷ []) → is_free p ≡ true
            → is_free q ≡ true
        free_next p q lt c h = elim (cases_Bool (is_stuck (waits_of rows) q)) [
          | inr off ↦ ap not off
          | inl on ↦ absurd (false≢true (sym (not-true (is_stuck (waits_of rows) p) h)
              ∙ leading_stuck (waits_of rows) (good_proper rows) p q lt
              (any_from (λ ways. list_all (is_stuck (waits_of rows)) ways && list_any (nat_eq q) ways) (needs_at (waits_of rows) p) (q ∷ []) c
              (and_from (list_all (is_stuck (waits_of rows)) (q ∷ [])) (list_any (nat_eq q) (q ∷ []))
              (and_from (is_stuck (waits_of rows) q) true on refl) (or_left (nat_eq q q) false (eq-eqb q q refl))))))
        ]

        -- a member is no stuck one, and is started on demand
        free_row : (m : Need) → IsMember e by_group m
            → (p : ℕ) × (r : Staged) × (slice_get rows p ≡ Some r) × (need_of r.entry ≡ m) × (r.stage ≡ Some Demand) × (is_stuck (waits_of rows) p ≡ false)
        free_row m i =
            let r = member_row is_free (ap not free) free_next by_group group_from m i in
            let clear = not-true (is_stuck (waits_of rows) r.place) r.passes in
            let late : r.stage ≡ Demand =
            elim (off_or r.stage r.place r.row r.at r.is (ap (λ (n : Need). has_name labels n.name) r.need ∙ i.off)) [
              | inl same ↦ same
              | inr st ↦ absurd (false≢true (sym clear ∙ st))
            ] in
            (r.place, r.row, r.at, r.need, r.is ∙ ap (λ (s : Stage). Some s) late, clear)

        module _ (left : List Need) (phase : IsPhase (Contains members) running new left) where
          abbrev is_left : Staged → Bool
          is_left r = list_any (λ (m : Need). folds_same r.entry.name m.name) left

          abbrev left_set : ℕ → Bool
          left_set q = option_map_or is_left (slice_get rows q) false || is_stuck (waits_of rows) q

          left_on : (q : ℕ) (s : Staged) → slice_get rows q ≡ Some s → Contains left (need_of s.entry) → left_set q ≡ true
          left_on q s at i =
              or_left (option_map_or is_left (slice_get rows q) false) (is_stuck (waits_of rows) q)
              (ap (λ (o : Option Staged). option_map_or is_left o false) at
              ∙ any_from (λ (m : Need). folds_same s.entry.name m.name) left (need_of s.entry) i (folds_itself s.entry.name))

          serve_taken : (q : ℕ) (s : Staged) → slice_get rows q ≡ Some s → is_upto Demand s.stage ≡ true
              → Contains (running ++ new) (need_of s.entry) ⊎ (left_set q ≡ true)
          serve_taken q s at u = elim (taken_or q s at (upto_taken Demand s.stage u)) [
            | inl i ↦ inl (Contains-append_left running new (need_of s.entry) i)
            | inr st ↦ inr (or_right (option_map_or is_left (slice_get rows q) false) (is_stuck (waits_of rows) q) st)
          ]

          -- what a member names, and is started on demand too, is a member, unless it runs
          serve_demand : (r : Staged) (m : Need) → IsMember e by_group m → need_of r.entry ≡ m → (d : List ℕ)
              → Contains r.entry.services d → (q : ℕ) (s : Staged) → slice_get rows q ≡ Some s → folds_same d s.entry.name ≡ true
              → s.stage ≡ Some Demand → (b : Bool) → has_name labels s.entry.name ≡ b
              → Contains (running ++ new) (need_of s.entry) ⊎ (left_set q ≡ true)
          serve_demand r m i need d given q s at same stage true on =
              let x = named_from running s.entry.name on in
              let k = known x.0 x.1 in
              let one : s ≡ k.row = apart s k.row (item_here rows q s at) (item_here rows k.place k.row k.at)
              (ap (folds_same s.entry.name) (ap (λ (n : Need). n.name) k.need) ∙ x.2) in
              inl (Contains-append_left running new (need_of s.entry)
              (subst (Contains running) (sym (ap (λ (t : Staged). need_of t.entry) one ∙ k.need)) x.1))
          serve_demand r m i need d given q s at same stage false off =
              let place = item_place by_group (need_of s.entry) (group_in (need_of s.entry) (row_in_table Demand s (item_here rows q s at) stage)) in
              let names' : list_any (folds_same s.entry.name) m.services ≡ true =
              any_from (folds_same s.entry.name) m.services d (subst (λ (n : Need). Contains n.services d) need given)
              (names_flip s.entry.name d ∙ same) in
              let one : names_one by_group labels i.place place.0 ≡ true =
              (λ j. option_map_or (λ (a : Need). is_off labels a && option_map_or (λ (b : Need). list_any (folds_same b.name) a.services) (place.1 j) false) (i.at j) false)
              ∙ and_from (is_off labels m) (list_any (folds_same s.entry.name) m.services) (ap not i.off) names' in
              let member : IsMember e by_group (need_of s.entry) = record {
                place = place.0;
                at = place.1;
                needed = (needed_has by_group labels e.name).named i.place place.0 i.needed one;
                off = off;
              } in
              elim (phase.each (need_of s.entry) (member_in e by_group (need_of s.entry) member)) [
                | inl j ↦ inl (Contains-append_right running new (need_of s.entry) j)
                | inr j ↦ inr (left_on q s at j)
              ]

          serve_name : (r : Staged) (m : Need) → IsMember e by_group m → need_of r.entry ≡ m → (d : List ℕ)
              → Contains r.entry.services d → (q : ℕ) (s : Staged) (other : Stage) → slice_get rows q ≡ Some s
              → folds_same d s.entry.name ≡ true → s.stage ≡ Some other → Fits Demand other
              → Contains (running ++ new) (need_of s.entry) ⊎ (left_set q ≡ true)
          serve_name r m i need d given q s other at same stage (fit u) = serve_taken q s at (ap (is_upto Demand) stage ∙ u)
          serve_name r m i need d given q s Demand at same stage by_demand =
              serve_demand r m i need d given q s at same stage (has_name labels s.entry.name) refl

          serves : (r : Staged) (m : Need) → IsMember e by_group m → need_of r.entry ≡ m
              → Serves rows apart Demand (running ++ new) left_set r
          serves r m i need = record { by_name = serve_name r m i need; by_group = serve_taken }

          held_by : (p : ℕ) (o : Option Staged) → slice_get rows p ≡ o → option_map_or is_left o false ≡ true
              → is_held (waits_of rows) left_set p ≡ true
          held_by p None at h = absurd (false≢true h)
          held_by p (Some r) at h =
              let m = any_gives (λ (m : Need). folds_same r.entry.name m.name) left h in
              let i = member_from e by_group m.0 (phase.only m.0 m.1) in
              let k = free_row m.0 i in
              let one : r ≡ k.1 = apart r k.1 (item_here rows p r at) (item_here rows k.0 k.1 k.2)
              (ap (folds_same r.entry.name) (ap (λ (n : Need). n.name) k.3) ∙ m.2) in
              let need : need_of r.entry ≡ m.0 = ap (λ (t : Staged). need_of t.entry) one ∙ k.3 in
              unready_held rows apart Demand (running ++ new) left_set p r (serves r m.0 i need) at
              (ap (λ (t : Staged). t.stage) one ∙ k.4) (right r (item_here rows p r at))
              (ap (is_ready (labels_of (running ++ new))) need ∙ phase.unready m.0 m.1)

          left_holds : HoldsItself (waits_of rows) left_set
          left_holds p lt h = elim (or_cases (option_map_or is_left (slice_get rows p) false) (is_stuck (waits_of rows) p) h) [
            | inl on ↦ held_by p (slice_get rows p) refl on
            | inr st ↦ held_wider (waits_of rows) (is_stuck (waits_of rows)) left_set p
                (λ ways q i j on. or_right (option_map_or is_left (slice_get rows q) false) (is_stuck (waits_of rows) q) on)
                (stuck_holds (waits_of rows) p lt st)
          ]

          none_left : (n : Need) → Contains left n → ⊥
          none_left n c =
              let k = free_row n (member_from e by_group n (phase.only n c)) in
              false≢true (sym k.5
              ∙ stuck_greatest (waits_of rows) left_set (good_proper rows) left_holds k.0 (below k.0 k.1 k.2)
              (left_on k.0 k.1 k.2 (subst (Contains left) (sym k.3) c)))

        nobody : (l : List Need) → ((n : Need) → Contains l n → ⊥) → length l ≡ 0
        nobody [] f = refl
        nobody (n ∷ l) f = absurd (f n (first_in n l))

        all_turn : turns_refusal members new ≡ None
        all_turn =
            let s = starts members running in
            let none_over : length s.left ≡ 0 = nobody s.left (none_left s.left s.phase) in
            let same : length new ≡ length members = omega (arith, s.count, none_over) in
            ap (λ (b : Bool). cond b None (Some Unmet)) (eq-eqb (length new) (length members) same)

      -- a refusal is that of the turns
      turned : needs_refusal (control_of set) (need_of e) ≡ turns_refusal members new
      turned = λ i. option_or (option_or (option_map Missing (none_missing i)) (option_map NeedDisabled (none_disabled i))) (turns_refusal members new)

      turn_cases : (b : Bool) → (cond b None (Some Unmet) ≡ None) ⊎ (cond b None (Some Unmet) ≡ Some Unmet)
      turn_cases true = inl refl
      turn_cases false = inr refl

      four : nat_eq e.start 4 ≡ false
      four = ap (λ (k : ℕ). nat_eq k 4) three

      off_is : has_name labels e.name ≡ false → start_refusal_at (control_of set) (need_of e) ≡ turns_refusal members new
      off_is off = λ i. option_or (cond (four i) (Some Disabled) (cond (off i) (Some Running) None)) (turned i)

      answered : (b : Bool) → has_name labels e.name ≡ b → (st : Bool) → is_stuck (waits_of rows) own ≡ st
          → Answered own (start_refusal_at (control_of set) (need_of e))
      answered true on st is =
          runs (λ i. option_or (cond (four i) (Some Disabled) (cond (on i) (Some Running) None)) (needs_refusal (control_of set) (need_of e)))
          (λ r at. (let x = named_from running e.name on in
          let k = known x.0 x.1 in
          let one : r ≡ k.row = apart r k.row (item_here rows own r at) (item_here rows k.place k.row k.at)
          (ap (λ (t : Staged). folds_same t.entry.name k.row.entry.name) (same_Some r (staged_in (taken_names set) e) (sym at ∙ own_at))
          ∙ ap (folds_same e.name) (ap (λ (n : Need). n.name) k.need) ∙ x.2) in
          ap (λ (t : Staged). is_taken t.stage) one ∙ upto_taken Automatic k.row.stage k.upto))
      answered false off false is = done (off_is off ∙ all_turn is)
      answered false off true is = elim (turn_cases (nat_eq (length new) (length members))) [
        | inl fine ↦ done (off_is off ∙ fine)
        | inr bad ↦ held (off_is off ∙ bad) is
      ]

      -- the table has the entry under its name
      table_named : (name : List ℕ) → folds_same name e.name ≡ true → named table name ≡ Some (need_of e)
      table_named name h = by (position (folds_same name) (names_of table)) refl
        where
          here : Contains table (need_of e)
          here = table_in e there kind

          by : (o : Option ℕ) → position (folds_same name) (names_of table) ≡ o → option_and_then (slice_get table) o ≡ Some (need_of e)
          by None is =
              absurd (false≢true (sym (ap is_some is) ∙ some_place (folds_same name) (names_of table)
              ∙ any_from (folds_same name) (names_of table) e.name (mapped_to (λ (n : Need). n.name) table (need_of e) here) h))
          by (Some k) is =
              let f = position-Some (folds_same name) (names_of table) k [] is in
              let n = stands_at table k (omega (arith, f.0, length-map table (λ (n : Need). n.name))) in
              let mine : folds_same name n.0.name ≡ true =
              ap (folds_same name) (sym (get_or-map (λ (n : Need). n.name) table k n.0 [] (slice_get_within table k n.0 n.1)
              ∙ ap (λ (n : Need). n.name) (get_or_from_slice_get table k n.0 n.0 n.1))) ∙ f.1 in
              let g = table_from n.0 (item_here table k n.0 n.1) in
              let same : g.entry ≡ e = entries_apart set holds g.entry e g.there there
              (ap (λ (m : Need). folds_same m.name e.name) g.need ∙ sym (alike name n.0.name mine e.name) ∙ h) in
              n.1 ∙ ap (λ (m : Need). Some m) (sym g.need ∙ ap need_of same)

      -- what comes of the start of the entry
      pub start_answered : (name : List ℕ) → folds_same name e.name ≡ true → Answered own (start_refusal (control_of set) name)
      start_answered name h =
          subst (λ (o : Option Need). Answered own (option_map_or (start_refusal_at (control_of set)) o (Some NoService)))
          (sym (table_named name h)) (answered (has_name labels e.name) refl (is_stuck (waits_of rows) own) refl)

  -- ---- where no line is about a name

  module _ (in_order : Bool) (number : ℕ) (none : (name : List ℕ) → HasAbout in_order number set name → ⊥) where
    all_right : (r : Staged) → Contains rows r → IsRight rows r
    all_right r there f c = none r.entry.name (record {
      line = lines.About f r.entry.name;
      said = set_says in_order number set r f apart there (row_entry set holds r there).0 c;
      about = wrong (wrong_is rows r f c);
    })

    none_stuck : (p : ℕ) (r : Staged) → slice_get rows p ≡ Some r → is_stuck (waits_of rows) p ≡ true → ⊥
    none_stuck p r at st =
        let lt : p < length (waits_of rows) = omega (arith, slice_get_within rows p r at, length-map rows (good_ways rows)) in
        let q = one_round (waits_of rows) (good_proper rows) (λ _. true) (λ _ _ _ _ _ _. refl) p lt refl st in
        let c = round_found (waits_of rows) (good_proper rows) q.0 q.1 q.2 in
        let s = stands_at rows q.0 (omega (arith, q.1, length-map rows (good_ways rows))) in
        let line = set_says_cycle in_order number set s.0.entry (row_entry set holds s.0 (item_here rows q.0 s.0 s.1)).0 c.0 q.0 c.1 c.2 in
        none (name_at rows q.0) (record { line = lines.Cycle line.0 (name_at rows q.0); said = line.1; about = cycle })

    done_or_runs : (p : ℕ) (r : Staged) → slice_get rows p ≡ Some r → (why : Option ControlStop) → Answered p why → IsDoneOrRuns why
    done_or_runs p r at why (done h) = inl h
    done_or_runs p r at why (runs h taken) = inr h
    done_or_runs p r at why (held h st) = absurd (none_stuck p r at st)

    pub starts_or_runs : (e : Entry) → Contains (entries_of set) e → e.start ≡ 3 → is_controlled e.kind ≡ true → (name : List ℕ)
        → folds_same name e.name ≡ true → IsDoneOrRuns (start_refusal (control_of set) name)
    starts_or_runs e there three kind name h =
        let p = item_place rows (staged_in (taken_names set) e) (entry_row set holds e there) in
        done_or_runs p.0 (staged_in (taken_names set) e) p.1 (start_refusal (control_of set) name)
        (start_answered all_right e there three kind p.0 p.1 name h)

pub none_about_starts : NoneAboutStartsOnDemand
none_about_starts set holds in_order number none e there three kind name h =
    starts_or_runs set holds in_order number none e there three kind name h
