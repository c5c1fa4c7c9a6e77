-- A start of which each attempt goes well, and the reasons why it leaves entries out.
use Rattle.std.proofs.Common.{◌≡◌, ℕ, ◌<◌, Bool, true, false, ◌&&◌, List, [], ◌∷◌, ◌++◌, length, Option, Some, None, refl, sym, ap, ◌∙◌, ◌⊎◌, inl, inr, subst, arith}
use Rattle.std.specs.Prelude.{Contains, slice_get}
use Rattle.std.specs.Option.{option_map_or}
use Rattle.std.specs.List.{list_any}
use Rattle.std.proofs.lemmas.Bool.{false≢true, cases_Bool, and_parts, and_from}
use Rattle.std.proofs.lemmas.List.{length-map}
use Rattle.std.proofs.lemmas.List.Elements.{Contains-append_left, Contains-append_right, Contains-append_cases}
use Rattle.std.proofs.lemmas.Option.{slice_get_within}
use Rattle.nt_bytes.specs.Folding.{folds_same}
use Rattle.start_model.specs.Demand.{Need}
use Rattle.start_model.specs.Entries.{need_of}
use Rattle.start_model.specs.Ready.{is_ready}
use Rattle.wait_cycles.specs.Waits.{is_held, is_stuck}
use Rattle.wait_cycles.proofs.InverseLemmas.{none_in}
use Rattle.wait_cycles.proofs.MetLemmas.{first_in, any_from, any_gives}
use Rattle.answer_lines.specs.declared.check_lines.lines.Fault.{Fault}
use Rattle.service_check.specs.declared.stage.Stage.{Stage}
use Rattle.service_check.specs.declared.stage.Stage.TheVariants.{Boot, System, Automatic, Demand}
use Rattle.service_check.specs.declared.stage.Staged.{Staged}
use Rattle.service_check.specs.Stages.{is_taken, is_upto}
use Rattle.service_check.specs.Needs.{need_faults, good_ways, waits_of}
use Rattle.service_control.specs.State.{labels_of}
use Rattle.service_control.proofs.LeanLemmas.{folds_itself}
use Rattle.check_laws.specs.Laws.{HoldsItself}
use Rattle.check_laws.proofs.TakenLemmas.{item_here, item_place}
use Rattle.check_laws.proofs.ProperLaws.{good_proper}
use Rattle.check_laws.proofs.StuckLaws.{stuck_greatest}
use Rattle.check_laws.proofs.TurnLemmas.{Ran, InTurn, IsPhase, turn_ind, turned_each}
use Rattle.check_laws.proofs.RowLemmas.{RowsApart, Fits, fit, by_demand}
use Rattle.check_laws.proofs.UnmetLemmas.{IsOf, IsUpto, IsRight, IsFree, ready_right, ready_free, Serves, unready_held}

-- ---- stages

pub upto_of : (own : Stage) (o : Option Stage) → o ≡ Some own → is_taken (Some own) ≡ true → is_upto own o ≡ true
upto_of Boot o e h = ap (is_upto Boot) e
upto_of System o e h = ap (is_upto System) e
upto_of Automatic o e h = ap (is_upto Automatic) e
upto_of Demand o e h = absurd (false≢true h)

pub boot_upto : (o : Option Stage) → is_upto Boot o ≡ true → o ≡ Some Boot
boot_upto None h = absurd (false≢true h)
boot_upto (Some Boot) h = refl
boot_upto (Some System) h = absurd (false≢true h)
boot_upto (Some Automatic) h = absurd (false≢true h)
boot_upto (Some Demand) h = absurd (false≢true h)

pub system_upto : (o : Option Stage) → is_upto System o ≡ true → (is_upto Boot o ≡ true) ⊎ (o ≡ Some System)
system_upto None h = absurd (false≢true h)
system_upto (Some Boot) h = inl refl
system_upto (Some System) h = inr refl
system_upto (Some Automatic) h = absurd (false≢true h)
system_upto (Some Demand) h = absurd (false≢true h)

pub automatic_upto : (o : Option Stage) → is_upto Automatic o ≡ true → (is_upto System o ≡ true) ⊎ (o ≡ Some Automatic)
automatic_upto None h = absurd (false≢true h)
automatic_upto (Some Boot) h = inl refl
automatic_upto (Some System) h = inl refl
automatic_upto (Some Automatic) h = inr refl
automatic_upto (Some Demand) h = absurd (false≢true h)

pub taken_upto : (o : Option Stage) → is_taken o ≡ true → is_upto Automatic o ≡ true
taken_upto None h = absurd (false≢true h)
taken_upto (Some Boot) h = refl
taken_upto (Some System) h = refl
taken_upto (Some Automatic) h = refl
taken_upto (Some Demand) h = absurd (false≢true h)

pub upto_taken : (own : Stage) (o : Option Stage) → is_upto own o ≡ true → is_taken o ≡ true
upto_taken own None h = absurd (false≢true h)
upto_taken own (Some Boot) h = refl
upto_taken own (Some System) h = refl
upto_taken own (Some Automatic) h = refl
upto_taken own (Some Demand) h = absurd (false≢true h)

boot_system : (o : Option Stage) → is_upto Boot o ≡ true → is_upto System o ≡ true
boot_system o h = ap (is_upto System) (boot_upto o h)

system_automatic : (o : Option Stage) → is_upto System o ≡ true → is_upto Automatic o ≡ true
system_automatic o h = taken_upto o (upto_taken System o h)

-- what may serve a taken one is taken no later
pub fits_upto : (own other : Stage) (o : Option Stage) → is_taken (Some own) ≡ true → Fits own other → o ≡ Some other
    → is_upto own o ≡ true
fits_upto own other o h (fit u) e = ap (is_upto own) e ∙ u
fits_upto Demand Demand o h by_demand e = absurd (false≢true h)

-- ---- the three phases

pub record IsStart (rows : List Staged) (a b c : Ran Need) : Type 0 where
  pub boot : IsPhase (IsOf rows Boot) [] a.new a.left
  pub system : IsPhase (IsOf rows System) a.new b.new b.left
  pub automatic : IsPhase (IsOf rows Automatic) (a.new ++ b.new) c.new c.left

module _ (rows : List Staged) (apart : RowsApart rows) where
  -- the row that is at a place is the one of the need
  row_of : (stage : Stage) (n : Need) (p : ℕ) (r : Staged) → IsOf rows stage n → slice_get rows p ≡ Some r
      → need_of r.entry ≡ n → r.stage ≡ Some stage
  row_of stage n p r i at need =
      ap (λ (s : Staged). s.stage)
      (apart r i.row (item_here rows p r at) (item_here rows i.place i.row i.at)
      (ap (folds_same r.entry.name) (sym (ap (λ (n : Need). n.name) (need ∙ sym i.need))) ∙ folds_itself r.entry.name))
      ∙ i.stage_is

  -- what holds of each entry that is started
  pub record IsWell (own : Stage) (m : Need) : Type 0 where
    pub upto : IsUpto rows own m
    pub free : IsFree rows apart m

  upto_is : (own : Stage) (m : Need) → is_taken (Some own) ≡ true → IsOf rows own m → IsUpto rows own m
  upto_is own m h i = record {
    place = i.place;
    row = i.row;
    at = i.at;
    need = i.need;
    upto = upto_of own i.row.stage i.stage_is h;
  }

  well_next : (own : Stage) → is_taken (Some own) ≡ true → (pre : List Need) (n : Need)
      → ((m : Need) → Contains pre m → IsWell own m) → IsOf rows own n → is_ready (labels_of pre) n ≡ true → IsWell own n
  well_next own h pre n all i ready = record {
    upto = upto_is own n h i;
    free = λ p r at need st.
        ready_free rows apart own pre (λ m c. (all m c).upto) (λ m c. (all m c).free) p r at (row_of own n p r i at need)
        (ap (is_ready (labels_of pre)) need ∙ ready) st;
  }

  well_phase : (own : Stage) → is_taken (Some own) ≡ true → (pre new : List Need)
      → ((m : Need) → Contains pre m → IsWell own m) → InTurn (IsOf rows own) pre new → (m : Need) → Contains (pre ++ new) m
      → IsWell own m
  well_phase own h pre new all turn = turn_ind (IsOf rows own) (IsWell own) (well_next own h) pre new all turn

  module _ (a b c : Ran Need) (start : IsStart rows a b c) where
    pub well_boot : (m : Need) → Contains a.new m → IsWell Boot m
    well_boot = well_phase Boot refl [] a.new (λ m i. absurd (none_in m i)) start.boot.turn

    well_before : (m : Need) → Contains a.new m → IsWell System m
    well_before m i = let w = well_boot m i in record {
      upto = record { place = w.upto.place; row = w.upto.row; at = w.upto.at; need = w.upto.need; upto = boot_system w.upto.row.stage w.upto.upto };
      free = w.free;
    }

    pub well_system : (m : Need) → Contains (a.new ++ b.new) m → IsWell System m
    well_system = well_phase System refl a.new b.new well_before start.system.turn

    well_between : (m : Need) → Contains (a.new ++ b.new) m → IsWell Automatic m
    well_between m i = let w = well_system m i in record {
      upto = record { place = w.upto.place; row = w.upto.row; at = w.upto.at; need = w.upto.need; upto = system_automatic w.upto.row.stage w.upto.upto };
      free = w.free;
    }

    pub well_all : (m : Need) → Contains ((a.new ++ b.new) ++ c.new) m → IsWell Automatic m
    well_all = well_phase Automatic refl (a.new ++ b.new) c.new well_between start.automatic.turn

    abbrev pub lefts : List Need
    lefts = (a.left ++ b.left) ++ c.left

    in_first : (n : Need) → Contains a.left n → Contains lefts n
    in_first n i = Contains-append_left (a.left ++ b.left) c.left n (Contains-append_left a.left b.left n i)

    in_second : (n : Need) → Contains b.left n → Contains lefts n
    in_second n i = Contains-append_left (a.left ++ b.left) c.left n (Contains-append_right a.left b.left n i)

    in_third : (n : Need) → Contains c.left n → Contains lefts n
    in_third n i = Contains-append_right (a.left ++ b.left) c.left n i

    -- ---- what is started has no reason

    started_right : (own : Stage) (pre new : List Need) → ((m : Need) → Contains (pre ++ new) m → IsWell own m)
        → InTurn (IsOf rows own) pre new → (r : Staged) → r.stage ≡ Some own → Contains new (need_of r.entry) → IsRight rows r
    started_right own pre new well turn r stage i =
        ready_right rows apart own (pre ++ new) (λ m c. (well m c).upto) r stage
        (turned_each (IsOf rows own) pre new turn (need_of r.entry) i).1

    -- why an entry is left out: one of its needs is wrong, or it is stuck
    pub data Reason : ℕ → Staged → Type 0 where
      wrong : {p : ℕ} {r : Staged} (f : Fault) → Contains (need_faults rows r) f → Reason p r
      stuck : {p : ℕ} {r : Staged} → is_stuck (waits_of rows) p ≡ true → Reason p r

    no_reason : (own : Stage) (pre new : List Need) → ((m : Need) → Contains (pre ++ new) m → IsWell own m)
        → InTurn (IsOf rows own) pre new → (p : ℕ) (r : Staged) → slice_get rows p ≡ Some r → r.stage ≡ Some own
        → Contains new (need_of r.entry) → Reason p r → ⊥
    no_reason own pre new well turn p r at stage i (wrong f c) =
        started_right own pre new well turn r stage i f c
    no_reason own pre new well turn p r at stage i (stuck st) =
        (well (need_of r.entry) (Contains-append_right pre new (need_of r.entry) i)).free p r at refl st

    is_of : (own : Stage) (p : ℕ) (r : Staged) → slice_get rows p ≡ Some r → r.stage ≡ Some own → IsOf rows own (need_of r.entry)
    is_of own p r at stage = record { place = p; row = r; at = at; need = refl; stage_is = stage }

    boot_left : (p : ℕ) (r : Staged) → slice_get rows p ≡ Some r → r.stage ≡ Some Boot → Reason p r → Contains lefts (need_of r.entry)
    boot_left p r at stage why = elim (start.boot.each (need_of r.entry) (is_of Boot p r at stage)) [
      | inl i ↦ absurd (no_reason Boot [] a.new well_boot start.boot.turn p r at stage i why)
      | inr i ↦ in_first (need_of r.entry) i
    ]

    system_left : (p : ℕ) (r : Staged) → slice_get rows p ≡ Some r → r.stage ≡ Some System → Reason p r → Contains lefts (need_of r.entry)
    system_left p r at stage why = elim (start.system.each (need_of r.entry) (is_of System p r at stage)) [
      | inl i ↦ absurd (no_reason System a.new b.new well_system start.system.turn p r at stage i why)
      | inr i ↦ in_second (need_of r.entry) i
    ]

    automatic_left : (p : ℕ) (r : Staged) → slice_get rows p ≡ Some r → r.stage ≡ Some Automatic → Reason p r
        → Contains lefts (need_of r.entry)
    automatic_left p r at stage why = elim (start.automatic.each (need_of r.entry) (is_of Automatic p r at stage)) [
      | inl i ↦ absurd (no_reason Automatic (a.new ++ b.new) c.new well_all start.automatic.turn p r at stage i why)
      | inr i ↦ in_third (need_of r.entry) i
    ]

    -- a taken entry with a reason is left out
    pub reason_left : (p : ℕ) (r : Staged) → slice_get rows p ≡ Some r → is_taken r.stage ≡ true → Reason p r
        → Contains lefts (need_of r.entry)
    reason_left p r at taken why = elim (automatic_upto r.stage (taken_upto r.stage taken)) [
      | inl u ↦ elim (system_upto r.stage u) [
        | inl v ↦ boot_left p r at (boot_upto r.stage v) why
        | inr e ↦ system_left p r at e why
      ]
      | inr e ↦ automatic_left p r at e why
    ]

    -- ---- what has been left out has a reason

    abbrev pub is_left : Staged → Bool
    is_left r = is_taken r.stage && list_any (λ (n : Need). folds_same r.entry.name n.name) lefts

    abbrev pub left_set : ℕ → Bool
    left_set p = option_map_or is_left (slice_get rows p) false

    left_at : (p : ℕ) (r : Staged) → slice_get rows p ≡ Some r → is_taken r.stage ≡ true → Contains lefts (need_of r.entry)
        → left_set p ≡ true
    left_at p r at taken i =
        ap (λ (o : Option Staged). option_map_or is_left o false) at
        ∙ and_from (is_taken r.stage) (list_any (λ (n : Need). folds_same r.entry.name n.name) lefts) taken
        (any_from (λ (n : Need). folds_same r.entry.name n.name) lefts (need_of r.entry) i (folds_itself r.entry.name))

    -- an entry of a phase that is over is started or left
    over_boot : (q : ℕ) (s : Staged) → slice_get rows q ≡ Some s → is_upto Boot s.stage ≡ true
        → Contains a.new (need_of s.entry) ⊎ (left_set q ≡ true)
    over_boot q s at u = elim (start.boot.each (need_of s.entry) (is_of Boot q s at (boot_upto s.stage u))) [
      | inl i ↦ inl i
      | inr i ↦ inr (left_at q s at (upto_taken Boot s.stage u) (in_first (need_of s.entry) i))
    ]

    over_system : (q : ℕ) (s : Staged) → slice_get rows q ≡ Some s → is_upto System s.stage ≡ true
        → Contains (a.new ++ b.new) (need_of s.entry) ⊎ (left_set q ≡ true)
    over_system q s at u = elim (system_upto s.stage u) [
      | inl v ↦ elim (over_boot q s at v) [
        | inl i ↦ inl (Contains-append_left a.new b.new (need_of s.entry) i)
        | inr on ↦ inr on
      ]
      | inr e ↦ elim (start.system.each (need_of s.entry) (is_of System q s at e)) [
        | inl i ↦ inl (Contains-append_right a.new b.new (need_of s.entry) i)
        | inr i ↦ inr (left_at q s at (upto_taken System s.stage u) (in_second (need_of s.entry) i))
      ]
    ]

    pub over_automatic : (q : ℕ) (s : Staged) → slice_get rows q ≡ Some s → is_upto Automatic s.stage ≡ true
        → Contains ((a.new ++ b.new) ++ c.new) (need_of s.entry) ⊎ (left_set q ≡ true)
    over_automatic q s at u = elim (automatic_upto s.stage u) [
      | inl v ↦ elim (over_system q s at v) [
        | inl i ↦ inl (Contains-append_left (a.new ++ b.new) c.new (need_of s.entry) i)
        | inr on ↦ inr on
      ]
      | inr e ↦ elim (start.automatic.each (need_of s.entry) (is_of Automatic q s at e)) [
        | inl i ↦ inl (Contains-append_right (a.new ++ b.new) c.new (need_of s.entry) i)
        | inr i ↦ inr (left_at q s at (upto_taken Automatic s.stage u) (in_third (need_of s.entry) i))
      ]
    ]

    pub left_some : (p : ℕ) → left_set p ≡ true → (n : Need) × Contains lefts n
    left_some p h = by (slice_get rows p) h
      where
        by : (o : Option Staged) → option_map_or is_left o false ≡ true → (n : Need) × Contains lefts n
        by None h = absurd (false≢true h)
        by (Some r) h =
            let n = any_gives (λ (n : Need). folds_same r.entry.name n.name) lefts
            (and_parts (is_taken r.stage) (list_any (λ (n : Need). folds_same r.entry.name n.name) lefts) h).1 in
            (n.0, n.1)

    serves_by : (own : Stage) (now : List Need) → is_taken (Some own) ≡ true
        → ((q : ℕ) (s : Staged) → slice_get rows q ≡ Some s → is_upto own s.stage ≡ true
        → Contains now (need_of s.entry) ⊎ (left_set q ≡ true))
        → (r : Staged) → Serves rows apart own now left_set r
    serves_by own now h f r = record {
      by_name = λ d i q s other at same e fits. f q s at (fits_upto own other s.stage h fits e);
      by_group = f;
    }

    -- no taken entry has a wrong need
    abbrev pub AllRight : Type 0
    AllRight = (r : Staged) → Contains rows r → is_taken r.stage ≡ true → IsRight rows r

    left_held : AllRight → (own : Stage) (now : List Need) → is_taken (Some own) ≡ true
        → ((q : ℕ) (s : Staged) → slice_get rows q ≡ Some s → is_upto own s.stage ≡ true
        → Contains now (need_of s.entry) ⊎ (left_set q ≡ true))
        → (p : ℕ) (r : Staged) → slice_get rows p ≡ Some r → r.stage ≡ Some own
        → is_ready (labels_of now) (need_of r.entry) ≡ false → is_held (waits_of rows) left_set p ≡ true
    left_held right own now h f p r at stage off =
        unready_held rows apart own now left_set p r (serves_by own now h f r) at stage
        (right r (item_here rows p r at) (ap is_taken stage ∙ h)) off

    -- the need in the lists is that of the row
    same_need : (stage : Stage) (n : Need) (r : Staged) → Contains rows r → IsOf rows stage n → folds_same r.entry.name n.name ≡ true
        → (r.stage ≡ Some stage) × (need_of r.entry ≡ n)
    same_need stage n r there i h =
        let e : r ≡ i.row = apart r i.row there (item_here rows i.place i.row i.at)
        (ap (folds_same r.entry.name) (ap (λ (m : Need). m.name) i.need) ∙ h) in
        (ap (λ (s : Staged). s.stage) e ∙ i.stage_is, ap (λ (s : Staged). need_of s.entry) e ∙ i.need)

    held_left : AllRight → (p : ℕ) (r : Staged) → slice_get rows p ≡ Some r → (n : Need) → Contains lefts n
        → folds_same r.entry.name n.name ≡ true → is_held (waits_of rows) left_set p ≡ true
    held_left right p r at n i h = elim (Contains-append_cases (a.left ++ b.left) c.left n i) [
      | inl j ↦ elim (Contains-append_cases a.left b.left n j) [
        | inl k ↦ (let e = same_need Boot n r (item_here rows p r at) (start.boot.only n k) h in
            left_held right Boot a.new refl over_boot p r at e.0
            (ap (is_ready (labels_of a.new)) e.1 ∙ start.boot.unready n k))
        | inr k ↦ (let e = same_need System n r (item_here rows p r at) (start.system.only n k) h in
            left_held right System (a.new ++ b.new) refl over_system p r at e.0
            (ap (is_ready (labels_of (a.new ++ b.new))) e.1 ∙ start.system.unready n k))
      ]
      | inr k ↦ (let e = same_need Automatic n r (item_here rows p r at) (start.automatic.only n k) h in
          left_held right Automatic ((a.new ++ b.new) ++ c.new) refl over_automatic p r at e.0
          (ap (is_ready (labels_of ((a.new ++ b.new) ++ c.new))) e.1 ∙ start.automatic.unready n k))
    ]

    holds_by : AllRight → (p : ℕ) (o : Option Staged) → slice_get rows p ≡ o → option_map_or is_left o false ≡ true
        → is_held (waits_of rows) left_set p ≡ true
    holds_by right p None at h = absurd (false≢true h)
    holds_by right p (Some r) at h =
        let n = any_gives (λ (n : Need). folds_same r.entry.name n.name) lefts
        (and_parts (is_taken r.stage) (list_any (λ (n : Need). folds_same r.entry.name n.name) lefts) h).1 in
        held_left right p r at n.0 n.1 n.2

    left_holds : AllRight → HoldsItself (waits_of rows) left_set
    left_holds right p lt h = holds_by right p (slice_get rows p) refl h

    -- where no taken entry has a wrong need, what has been left out is stuck
    pub left_stuck : AllRight → (p : ℕ) (r : Staged) → slice_get rows p ≡ Some r → is_taken r.stage ≡ true
        → Contains lefts (need_of r.entry) → is_stuck (waits_of rows) p ≡ true
    left_stuck right p r at taken i =
        stuck_greatest (waits_of rows) left_set (good_proper rows) (left_holds right) p
        (omega (arith, slice_get_within rows p r at, length-map rows (good_ways rows))) (left_at p r at taken i)

    pub set_stuck : AllRight → (p : ℕ) → p < length (waits_of rows) → left_set p ≡ true → is_stuck (waits_of rows) p ≡ true
    set_stuck right p lt on = stuck_greatest (waits_of rows) left_set (good_proper rows) (left_holds right) p lt on

    -- the row of what has been left out
    pub left_row : (n : Need) → Contains lefts n → IsUpto rows Automatic n
    left_row n i = elim (Contains-append_cases (a.left ++ b.left) c.left n i) [
      | inl j ↦ elim (Contains-append_cases a.left b.left n j) [
        | inl k ↦ of_stage Boot refl n (start.boot.only n k)
        | inr k ↦ of_stage System refl n (start.system.only n k)
      ]
      | inr k ↦ of_stage Automatic refl n (start.automatic.only n k)
    ]
      where
        of_stage : (own : Stage) → is_taken (Some own) ≡ true → (n : Need) → IsOf rows own n → IsUpto rows Automatic n
        of_stage own h n i = record {
          place = i.place;
          row = i.row;
          at = i.at;
          need = i.need;
          upto = taken_upto i.row.stage (ap is_taken i.stage_is ∙ h);
        }

    -- a taken entry with a reason
    pub record HasReason : Type 0 where
      pub place : ℕ
      pub row : Staged
      pub at : slice_get rows place ≡ Some row
      pub taken : is_taken row.stage ≡ true
      pub why : Reason place row

    abbrev has_fault : List Fault → Bool
    has_fault [] = false
    has_fault (f ∷ fs) = true

    abbrev is_bad : Staged → Bool
    is_bad r = is_taken r.stage && has_fault (need_faults rows r)

    some_fault : (l : List Fault) → has_fault l ≡ true → (f : Fault) × Contains l f
    some_fault [] h = absurd (false≢true h)
    some_fault (f ∷ fs) h = (f, first_in f fs)

    no_fault : (l : List Fault) (f : Fault) → Contains l f → has_fault l ≡ true
    no_fault [] f c = absurd (none_in f c)
    no_fault (g ∷ fs) f c = refl

    bad_reason : (r : Staged) → Contains rows r → is_bad r ≡ true → HasReason
    bad_reason r there h =
        let b = and_parts (is_taken r.stage) (has_fault (need_faults rows r)) h in
        let p = item_place rows r there in
        let f = some_fault (need_faults rows r) b.1 in
        record { place = p.0; row = r; at = p.1; taken = b.0; why = wrong f.0 f.1 }

    -- where an entry is left out, a taken one has a reason
    pub left_reason : (n : Need) → Contains lefts n → HasReason
    left_reason n i = elim (cases_Bool (list_any is_bad rows)) [
      | inl some ↦ (let r = any_gives is_bad rows some in bad_reason r.0 r.1 r.2)
      | inr none ↦
          (let right : AllRight = λ r there taken f c.
          false≢true (sym none ∙ any_from is_bad rows r there
          (and_from (is_taken r.stage) (has_fault (need_faults rows r)) taken (no_fault (need_faults rows r) f c))) in
          let u = left_row n i in
          let taken : is_taken u.row.stage ≡ true = upto_taken Automatic u.row.stage u.upto in
          record {
            place = u.place;
            row = u.row;
            at = u.at;
            taken = taken;
            why = stuck
                (left_stuck right u.place u.row u.at taken (subst (Contains lefts) (sym u.need) i));
          })
    ]
