-- Who is unmet in a start of which each attempt goes well: those that a wrong need or a cycle keeps from it.
use Rattle.std.proofs.Common.{◌≡◌, ℕ, ◌<◌, Bool, true, false, nat_eq, cond, List, [], ◌∷◌, length, map, Option, Some, None, refl, sym, ap, ◌∙◌, ◌⊎◌, inl, inr, subst, arith}
use Rattle.std.specs.Prelude.{Contains, slice_get, position, option_and_then}
use Rattle.std.specs.Option.{option_map_or, option_to_list}
use Rattle.std.specs.List.{list_all, flat_map}
use Rattle.std.proofs.lemmas.Bool.{false≢true, and_parts, and_cases, and_from}
use Rattle.std.proofs.lemmas.List.{length-map}
use Rattle.std.proofs.lemmas.List.Elements.{Contains-append_left, Contains-append_right, Contains-append_cases}
use Rattle.std.proofs.lemmas.Option.{slice_get_within, same_Some}
use Rattle.nt_bytes.specs.Folding.{folds_same}
use Rattle.start_model.specs.Demand.{Need}
use Rattle.start_model.specs.Entries.{need_of}
use Rattle.start_model.specs.Order.{first_names}
use Rattle.start_model.specs.Ready.{has_name, has_group, is_ready}
use Rattle.wait_cycles.specs.Waits.{needs_at, is_held, is_stuck}
use Rattle.wait_cycles.proofs.InverseLemmas.{none_in}
use Rattle.wait_cycles.proofs.MetLemmas.{first_in, all_from, all_gives, any_from, any_gives}
use Rattle.wait_cycles.proofs.CycleLemmas.{not_all}
use Rattle.answer_lines.specs.declared.check_lines.lines.Fault.{Fault}
use Rattle.answer_lines.specs.declared.check_lines.lines.Fault.TheVariants as faults
use Rattle.service_check.specs.declared.stage.Stage.{Stage}
use Rattle.service_check.specs.declared.stage.Staged.{Staged}
use Rattle.service_check.specs.Stages.{is_upto}
use Rattle.service_check.specs.Needs.{names_of, name_fault, service_fault, group_fault, faults_at, need_faults, is_good, is_without, name_ways, ways_in, group_ways, ways_at, waits_of, good_ways}
use Rattle.service_control.specs.State.{labels_of}
use Rattle.service_control.proofs.LeanLemmas.{name_alike, group_alike}
use Rattle.check_laws.proofs.TakenLemmas.{item_here}
use Rattle.check_laws.proofs.ProperLaws.{flat_from, only_in}
use Rattle.check_laws.proofs.CycleLaws.{flat_in}
use Rattle.check_laws.proofs.StuckLaws.{stuck_holds}
use Rattle.check_laws.proofs.TurnLemmas.{named_in, named_from, member_in, member_from}
use Rattle.check_laws.proofs.RowLemmas.{RowsApart, IsNamed, named_is, named_row, place_named, first_sub, first_for, upto_fits, Fits, fits_from, ways_of_row, way_by_name, way_by_group, way_row, row_way, with_row}

-- ---- entries of a stage, and of all stages up to one

pub record IsOf (rows : List Staged) (stage : Stage) (n : Need) : Type 0 where
  pub place : ℕ
  pub row : Staged
  pub at : slice_get rows place ≡ Some row
  pub need : need_of row.entry ≡ n
  pub stage_is : row.stage ≡ Some stage

pub record IsUpto (rows : List Staged) (own : Stage) (n : Need) : Type 0 where
  pub place : ℕ
  pub row : Staged
  pub at : slice_get rows place ≡ Some row
  pub need : need_of row.entry ≡ n
  pub upto : is_upto own row.stage ≡ true

-- no need of the row is wrong
abbrev pub IsRight : List Staged → Staged → Type 0
IsRight rows r = (f : Fault) → Contains (need_faults rows r) f → ⊥

faults_of_row : (rows : List Staged) (r : Staged) (own : Stage) → r.stage ≡ Some own → need_faults rows r ≡ faults_at rows r own
faults_of_row rows r own is = ap (λ (o : Option Stage). option_map_or (faults_at rows r) o []) is

name_is : (a b : Need) → a ≡ b → a.name ≡ b.name
name_is a b e = ap (λ (n : Need). n.name) e

module _ (rows : List Staged) (apart : RowsApart rows) where
  -- ---- what is met isn't wrong

  abbrev pub Known : Stage → List Need → Type 0
  Known own now = (m : Need) → Contains now m → IsUpto rows own m

  -- the row that meets a name
  record Meets (own : Stage) (d : List ℕ) (now : List Need) : Type 0 where
    row : Staged
    named : IsNamed rows d row
    upto : is_upto own row.stage ≡ true
    there : Contains now (need_of row.entry)

  meets : (own : Stage) (now : List Need) → Known own now → (d : List ℕ) → has_name (labels_of now) d ≡ true
      → Meets own d now
  meets own now known d h =
      let m = named_from now d h in
      let k = known m.0 m.1 in
      record {
        row = k.row;
        named = named_is rows apart d k.row (item_here rows k.place k.row k.at)
            (ap (folds_same d) (name_is (need_of k.row.entry) m.0 k.need) ∙ m.2);
        upto = k.upto;
        there = subst (Contains now) (sym k.need) m.1;
      }

  met_fault : (own : Stage) (now : List Need) → Known own now → (d : List ℕ) → has_name (labels_of now) d ≡ true
      → service_fault rows own d ≡ []
  met_fault own now known d h =
      let m = meets own now known d h in
      ap (name_fault own d) (named_row rows d m.row m.named) ∙ upto_fits own d m.row.entry.start m.row.stage m.upto

  met_group : (own : Stage) (now : List Need) → Known own now → (g : List ℕ) → has_group (labels_of now) g ≡ true
      → is_without rows own g ≡ false
  met_group own now known g h =
      let m = member_from now g h in
      let k = known m.0 m.1 in
      with_row rows own g k.row (item_here rows k.place k.row k.at) k.upto
      (ap (λ (n : Need). option_map_or (folds_same g) n.group false) k.need ∙ m.2)

  -- one that is ready has no wrong need
  pub ready_right : (own : Stage) (now : List Need) → Known own now → (r : Staged) → r.stage ≡ Some own
      → is_ready (labels_of now) (need_of r.entry) ≡ true → IsRight rows r
  ready_right own now known r stage ready f c =
      let b = and_parts (list_all (has_name (labels_of now)) r.entry.services) (list_all (has_group (labels_of now)) r.entry.groups) ready in
      elim (Contains-append_cases (flat_map (service_fault rows own) (first_names r.entry.services))
      (flat_map (group_fault rows own) (first_names r.entry.groups)) f
      (subst (λ (l : List Fault). Contains l f) (faults_of_row rows r own stage) c)) [
        | inl i ↦ (let x = flat_from (service_fault rows own) (first_names r.entry.services) f i in
            none_in f (subst (λ (l : List Fault). Contains l f)
            (met_fault own now known x.0
            (all_gives (has_name (labels_of now)) r.entry.services x.0 b.0 (first_sub r.entry.services x.0 x.1))) x.2))
        | inr i ↦ (let x = flat_from (group_fault rows own) (first_names r.entry.groups) f i in
            none_in f (subst (λ (l : List Fault). Contains l f)
            (ap (λ (w : Bool). cond w (faults.NoMember x.0 ∷ []) [])
            (met_group own now known x.0
            (all_gives (has_group (labels_of now)) r.entry.groups x.0 b.1 (first_sub r.entry.groups x.0 x.1)))) x.2))
      ]

  -- ---- what is ready isn't stuck

  -- it is at no stuck place
  abbrev pub IsFree : Need → Type 0
  IsFree m = (p : ℕ) (r : Staged) → slice_get rows p ≡ Some r → need_of r.entry ≡ m → is_stuck (waits_of rows) p ≡ true → ⊥

  pub ready_free : (own : Stage) (now : List Need) → Known own now → ((m : Need) → Contains now m → IsFree m)
      → (p : ℕ) (r : Staged) → slice_get rows p ≡ Some r → r.stage ≡ Some own
      → is_ready (labels_of now) (need_of r.entry) ≡ true → is_stuck (waits_of rows) p ≡ true → ⊥
  ready_free own now known free p r at stage ready st =
      let b = and_parts (list_all (has_name (labels_of now)) r.entry.services) (list_all (has_group (labels_of now)) r.entry.groups) ready in
      let lt : p < length (waits_of rows) = omega (arith, slice_get_within rows p r at, length-map rows (good_ways rows)) in
      let w = any_gives (λ ways. list_all (is_stuck (waits_of rows)) ways) (needs_at (waits_of rows) p)
      (stuck_holds (waits_of rows) p lt st) in
      let c : Contains (ways_at rows r own) w.0 =
      subst (λ (l : List (List ℕ)). Contains l w.0) (ways_of_row rows p r own at stage) w.1 in
      elim (Contains-append_cases (flat_map (name_ways rows own) (first_names r.entry.services))
      (flat_map (group_ways rows own) (first_names r.entry.groups)) w.0 c) [
        | inl i ↦ (let x = flat_from (name_ways rows own) (first_names r.entry.services) w.0 i in
            let m = meets own now known x.0
            (all_gives (has_name (labels_of now)) r.entry.services x.0 b.0 (first_sub r.entry.services x.0 x.1)) in
            free (need_of m.row.entry) m.there m.named.place m.row m.named.at refl
            (all_gives (is_stuck (waits_of rows)) w.0 m.named.place w.2
            (way_of_name x.0 m.named.place w.0 (is_good rows own x.0) (position (folds_same x.0) (names_of rows)) m.named.found x.2)))
        | inr i ↦ (let x = flat_from (group_ways rows own) (first_names r.entry.groups) w.0 i in
            let m = member_from now x.0
            (all_gives (has_group (labels_of now)) r.entry.groups x.0 b.1 (first_sub r.entry.groups x.0 x.1)) in
            let k = known m.0 m.1 in
            free m.0 m.1 k.place k.row k.at k.need
            (all_gives (is_stuck (waits_of rows)) w.0 k.place w.2
            (way_of_group own x.0 k.place w.0 (is_without rows own x.0) x.2
            (row_way rows own x.0 k.place k.row k.at k.upto
            (ap (λ (n : Need). option_map_or (folds_same x.0) n.group false) k.need ∙ m.2)))))
      ]
    where
      way_of_name : (d : List ℕ) (k : ℕ) (ways : List ℕ) (good : Bool) (o : Option ℕ) → o ≡ Some k
          → Contains (cond good (map (λ p. p ∷ []) (option_to_list o)) []) ways → Contains ways k
      way_of_name d k ways false o is i = absurd (none_in ways i)
      way_of_name d k ways true None is i = absurd cc
      way_of_name d k ways true (Some q) is i =
          subst (λ (l : List ℕ). Contains l k) (only_in (q ∷ []) ways i)
          (subst (λ (x : ℕ). Contains (q ∷ []) x) (same_Some q k is) (first_in q []))

      way_of_group : (own : Stage) (g : List ℕ) (k : ℕ) (ways : List ℕ) (without : Bool)
          → Contains (cond without [] (ways_in rows own g ∷ [])) ways → Contains (ways_in rows own g) k → Contains ways k
      way_of_group own g k ways true i c = absurd (none_in ways i)
      way_of_group own g k ways false i c =
          subst (λ (l : List ℕ). Contains l k) (only_in (ways_in rows own g) ways i) c

  -- ---- what is not ready is held

  -- Each entry that may serve this one is started, or in the set.
  pub record Serves (own : Stage) (now : List Need) (set : ℕ → Bool) (r : Staged) : Type 0 where
    pub by_name : (d : List ℕ) → Contains r.entry.services d → (q : ℕ) (s : Staged) (other : Stage) → slice_get rows q ≡ Some s
        → folds_same d s.entry.name ≡ true → s.stage ≡ Some other → Fits own other → Contains now (need_of s.entry) ⊎ (set q ≡ true)
    pub by_group : (q : ℕ) (s : Staged) → slice_get rows q ≡ Some s → is_upto own s.stage ≡ true
        → Contains now (need_of s.entry) ⊎ (set q ≡ true)

  pub right_name : (r : Staged) (own : Stage) (d : List ℕ) → r.stage ≡ Some own → IsRight rows r
      → Contains (first_names r.entry.services) d → service_fault rows own d ≡ []
  right_name r own d stage right c = by (service_fault rows own d) refl
    where
      by : (l : List Fault) → service_fault rows own d ≡ l → service_fault rows own d ≡ []
      by [] e = e
      by (f ∷ fs) e = absurd (right f
          (subst (λ (l : List Fault). Contains l f) (sym (faults_of_row rows r own stage))
          (Contains-append_left (flat_map (service_fault rows own) (first_names r.entry.services))
          (flat_map (group_fault rows own) (first_names r.entry.groups)) f
          (flat_in (service_fault rows own) (first_names r.entry.services) d f c
          (subst (λ (l : List Fault). Contains l f) (sym e) (first_in f fs))))))

  right_group : (r : Staged) (own : Stage) (g : List ℕ) → r.stage ≡ Some own → IsRight rows r
      → Contains (first_names r.entry.groups) g → is_without rows own g ≡ false
  right_group r own g stage right c = by (is_without rows own g) refl
    where
      by : (b : Bool) → is_without rows own g ≡ b → is_without rows own g ≡ false
      by false e = e
      by true e = absurd (right (faults.NoMember g)
          (subst (λ (l : List Fault). Contains l (faults.NoMember g)) (sym (faults_of_row rows r own stage))
          (Contains-append_right (flat_map (service_fault rows own) (first_names r.entry.services))
          (flat_map (group_fault rows own) (first_names r.entry.groups)) (faults.NoMember g)
          (flat_in (group_fault rows own) (first_names r.entry.groups) g (faults.NoMember g) c
          (subst (λ (l : List Fault). Contains l (faults.NoMember g))
          (sym (ap (λ (w : Bool). cond w (faults.NoMember g ∷ []) []) e)) (first_in (faults.NoMember g) []))))))

  -- the row that serves a right name
  pub record IsServed (own : Stage) (d : List ℕ) : Type 0 where
    pub place : ℕ
    pub row : Staged
    pub other : Stage
    pub found : position (folds_same d) (names_of rows) ≡ Some place
    pub at : slice_get rows place ≡ Some row
    pub same : folds_same d row.entry.name ≡ true
    pub stage_is : row.stage ≡ Some other
    pub fits : Fits own other

  pub served : (own : Stage) (d : List ℕ) → service_fault rows own d ≡ [] → IsServed own d
  served own d h = by (position (folds_same d) (names_of rows)) refl
    where
      by : (o : Option ℕ) → position (folds_same d) (names_of rows) ≡ o → IsServed own d
      by None e = absurd (no_fault (faults.NoService d) (sym (ap (λ o. name_fault own d (option_and_then (slice_get rows) o)) e) ∙ h))
        where
          no_fault : (f : Fault) → (f ∷ []) ≡ [] → ⊥
          no_fault f e = cc
      by (Some k) e =
          let n = place_named rows d k e in
          let f = fits_from own d n.0.entry.start n.0.stage
          (sym (ap (name_fault own d) (ap (option_and_then (slice_get rows)) e ∙ n.1)) ∙ h) in
          record { place = k; row = n.0; other = f.0; found = e; at = n.1; same = n.2; stage_is = f.1; fits = f.2 }

  held_by_name : (own : Stage) (now : List Need) (set : ℕ → Bool) (p : ℕ) (r : Staged) → Serves own now set r
      → slice_get rows p ≡ Some r → r.stage ≡ Some own → IsRight rows r → (d : List ℕ) → Contains r.entry.services d
      → has_name (labels_of now) d ≡ false → is_held (waits_of rows) set p ≡ true
  held_by_name own now set p r serves at stage right d c off =
      let x = first_for r.entry.services d c in
      let none = right_name r own x.0 stage right x.1 in
      let s = served own x.0 none in
      let unmet : has_name (labels_of now) x.0 ≡ false = name_alike (labels_of now) x.0 d x.2 ∙ off in
      let good : is_good rows own x.0 ≡ true = ap (λ (l : List Fault). nat_eq (length l) 0) none in
      elim (serves.by_name x.0 (first_sub r.entry.services x.0 x.1) s.place s.row s.other s.at s.same s.stage_is s.fits) [
        | inl i ↦ absurd (false≢true (sym unmet ∙ named_in now x.0 (need_of s.row.entry) i s.same))
        | inr on ↦
            any_from (λ ways. list_all set ways) (needs_at (waits_of rows) p) (s.place ∷ [])
            (subst (λ (l : List (List ℕ)). Contains l (s.place ∷ [])) (sym (ways_of_row rows p r own at stage))
            (way_by_name rows r own x.0 s.place x.1 good s.found)) (and_from (set s.place) true on refl)
      ]

  held_by_group : (own : Stage) (now : List Need) (set : ℕ → Bool) (p : ℕ) (r : Staged) → Serves own now set r
      → slice_get rows p ≡ Some r → r.stage ≡ Some own → IsRight rows r → (g : List ℕ) → Contains r.entry.groups g
      → has_group (labels_of now) g ≡ false → is_held (waits_of rows) set p ≡ true
  held_by_group own now set p r serves at stage right g c off =
      let x = first_for r.entry.groups g c in
      let unmet : has_group (labels_of now) x.0 ≡ false = group_alike (labels_of now) x.0 g x.2 ∙ off in
      any_from (λ ways. list_all set ways) (needs_at (waits_of rows) p) (ways_in rows own x.0)
      (subst (λ (l : List (List ℕ)). Contains l (ways_in rows own x.0)) (sym (ways_of_row rows p r own at stage))
      (way_by_group rows r own x.0 x.1 (right_group r own x.0 stage right x.1)))
      (all_from set (ways_in rows own x.0) (λ q i.
      (let s = way_row rows own x.0 q i in
      elim (serves.by_group q s.0 s.1 s.2) [
        | inl j ↦ absurd (false≢true (sym unmet ∙ member_in now x.0 (need_of s.0.entry) j s.3))
        | inr on ↦ on
      ])))

  -- one without wrong needs that isn't ready is held by the set
  pub unready_held : (own : Stage) (now : List Need) (set : ℕ → Bool) (p : ℕ) (r : Staged) → Serves own now set r
      → slice_get rows p ≡ Some r → r.stage ≡ Some own → IsRight rows r
      → is_ready (labels_of now) (need_of r.entry) ≡ false → is_held (waits_of rows) set p ≡ true
  unready_held own now set p r serves at stage right off = elim
      (and_cases (list_all (has_name (labels_of now)) r.entry.services) (list_all (has_group (labels_of now)) r.entry.groups) off) [
        | inl e ↦ (let d = not_all (has_name (labels_of now)) r.entry.services e in
            held_by_name own now set p r serves at stage right d.0 d.1 d.2)
        | inr e ↦ (let g = not_all (has_group (labels_of now)) r.entry.groups e in
            held_by_group own now set p r serves at stage right g.0 g.1 g.2)
      ]
