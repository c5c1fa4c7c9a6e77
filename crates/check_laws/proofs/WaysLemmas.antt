-- What a taken entry waits for is taken, and each fault of its needs is a wrong need.
use Rattle.std.proofs.Common.{◌≡◌, ℕ, ◌<◌, Bool, true, false, not, ◌&&◌, nat_eq, cond, List, [], ◌∷◌, length, map, Option, Some, None, refl, sym, ap, ◌∙◌, inl, inr, subst, arith}
use Rattle.std.specs.Prelude.{Contains, slice_get, position, nat_lt}
use Rattle.std.specs.Option.{option_map_or, option_to_list}
use Rattle.std.specs.List.{list_any, list_all, flat_map}
use Rattle.std.proofs.lemmas.Bool.{false≢true, and_parts, eqb-true}
use Rattle.std.proofs.lemmas.List.Elements.{Contains-append_cases}
use Rattle.nt_bytes.specs.Folding.{folds_same}
use Rattle.start_model.specs.Order.{first_names}
use Rattle.wait_cycles.specs.Waits.{needs_at, is_stuck, leads}
use Rattle.wait_cycles.proofs.InverseLemmas.{none_in}
use Rattle.wait_cycles.proofs.MetLemmas.{all_gives, any_gives}
use Rattle.answer_lines.specs.declared.check_lines.lines.Fault.{Fault}
use Rattle.answer_lines.specs.declared.check_lines.lines.Fault.TheVariants as faults
use Rattle.service_check.specs.declared.stage.Stage.{Stage}
use Rattle.service_check.specs.declared.stage.Staged.{Staged}
use Rattle.service_check.specs.Stages.{is_taken, stage_rank}
use Rattle.service_check.specs.Needs.{names_of, named, service_fault, group_fault, is_good, is_without, name_ways, ways_in, group_ways, waits_of, stage_fault, is_demand, name_fault, faults_at, need_faults}
use Rattle.check_laws.specs.Unmet.{is_wrong_need}
use Rattle.check_laws.proofs.QuietLemmas.{append_all, flat_all}
use Rattle.check_laws.proofs.ProperLaws.{flat_from, only_in}
use Rattle.check_laws.proofs.RowLemmas.{RowsApart, ways_of_row, way_row}
use Rattle.check_laws.proofs.UnmetLemmas.{served}
use Rattle.check_laws.proofs.WholeLemmas.{fits_upto, upto_taken}
use Rattle.std.proofs.lemmas.Option.{same_Some}

-- ---- faults of needs

wrong_stage : (own : Stage) (need : List ℕ) (start : ℕ) (o : Option Stage)
    → list_all is_wrong_need (stage_fault own need start o) ≡ true
wrong_stage own need start None = refl
wrong_stage own need start (Some other) =
    by (is_demand other && not (is_demand own)) (nat_lt (stage_rank own) (stage_rank other))
  where
    by : (a b : Bool) → list_all is_wrong_need
        (cond a (faults.Never start need ∷ []) (cond b (faults.Later start need ∷ []) [])) ≡ true
    by true b = refl
    by false true = refl
    by false false = refl

wrong_name : (own : Stage) (need : List ℕ) (o : Option Staged) → list_all is_wrong_need (name_fault own need o) ≡ true
wrong_name own need None = refl
wrong_name own need (Some r) = wrong_stage own need r.entry.start r.stage

wrong_group : (rows : List Staged) (own : Stage) (group : List ℕ) → list_all is_wrong_need (group_fault rows own group) ≡ true
wrong_group rows own group = by (is_without rows own group)
  where
    by : (b : Bool) → list_all is_wrong_need (cond b (faults.NoMember group ∷ []) []) ≡ true
    by true = refl
    by false = refl

wrong_needs : (rows : List Staged) (r : Staged) → list_all is_wrong_need (need_faults rows r) ≡ true
wrong_needs rows r = by r.stage
  where
    by : (o : Option Stage) → list_all is_wrong_need (option_map_or (faults_at rows r) o []) ≡ true
    by None = refl
    by (Some own) =
        append_all is_wrong_need (flat_map (service_fault rows own) (first_names r.entry.services))
        (flat_map (group_fault rows own) (first_names r.entry.groups))
        (flat_all is_wrong_need (service_fault rows own) (first_names r.entry.services)
        (λ need. wrong_name own need (named rows need)))
        (flat_all is_wrong_need (group_fault rows own) (first_names r.entry.groups) (wrong_group rows own))

pub wrong_is : (rows : List Staged) (r : Staged) (f : Fault) → Contains (need_faults rows r) f → is_wrong_need f ≡ true
wrong_is rows r f c = all_gives is_wrong_need (need_faults rows r) f (wrong_needs rows r) c

-- ---- ways of taken entries

-- a phase takes the entry at the place
abbrev pub taken_set : List Staged → ℕ → Bool
taken_set rows p = option_map_or (λ (r : Staged). is_taken r.stage) (slice_get rows p) false

pub none_of : (l : List Fault) → nat_eq (length l) 0 ≡ true → l ≡ []
none_of [] h = refl
none_of (f ∷ fs) h = absurd (omega (arith, eqb-true (length (f ∷ fs)) 0 h))

module _ (rows : List Staged) (apart : RowsApart rows) where
  taken_at : (q : ℕ) (s : Staged) → slice_get rows q ≡ Some s → is_taken s.stage ≡ true → taken_set rows q ≡ true
  taken_at q s at h = ap (λ (o : Option Staged). option_map_or (λ (r : Staged). is_taken r.stage) o false) at ∙ h

  name_way : (own : Stage) → is_taken (Some own) ≡ true → (d : List ℕ) (ways : List ℕ) (q : ℕ)
      → Contains (name_ways rows own d) ways → Contains ways q → taken_set rows q ≡ true
  name_way own h d ways q c on = by (is_good rows own d) refl (position (folds_same d) (names_of rows)) refl c
    where
      by : (good : Bool) → is_good rows own d ≡ good → (o : Option ℕ) → position (folds_same d) (names_of rows) ≡ o
          → Contains (cond good (map (λ p. p ∷ []) (option_to_list o)) []) ways → taken_set rows q ≡ true
      by false is o at c = absurd (none_in ways c)
      by true is None at c = absurd (none_in ways c)
      by true is (Some k) at c =
          let s = served rows apart own d (none_of (service_fault rows own d) is) in
          let here : k ≡ s.place = same_Some k s.place (sym at ∙ s.found) in
          let same : k ≡ q = only_in k q (subst (λ (l : List ℕ). Contains l q) (sym (only_in (k ∷ []) ways c)) on) in
          taken_at q s.row (ap (slice_get rows) (sym same ∙ here) ∙ s.at)
          (upto_taken own s.row.stage (fits_upto own s.other s.row.stage h s.fits s.stage_is))

  group_way : (own : Stage) (g : List ℕ) (ways : List ℕ) (q : ℕ) → Contains (group_ways rows own g) ways → Contains ways q
      → taken_set rows q ≡ true
  group_way own g ways q c on = by (is_without rows own g) c
    where
      by : (without : Bool) → Contains (cond without [] (ways_in rows own g ∷ [])) ways → taken_set rows q ≡ true
      by true c = absurd (none_in ways c)
      by false c =
          let s = way_row rows own g q (subst (λ (l : List ℕ). Contains l q) (sym (only_in (ways_in rows own g) ways c)) on) in
          taken_at q s.0 s.1 (upto_taken own s.0.stage s.2)

  ways_taken : (p : ℕ) (r : Staged) (own : Stage) → slice_get rows p ≡ Some r → r.stage ≡ Some own → is_taken (Some own) ≡ true
      → (ways : List ℕ) (q : ℕ) → Contains (needs_at (waits_of rows) p) ways → Contains ways q → taken_set rows q ≡ true
  ways_taken p r own at stage h ways q c on =
      elim (Contains-append_cases (flat_map (name_ways rows own) (first_names r.entry.services))
      (flat_map (group_ways rows own) (first_names r.entry.groups)) ways
      (subst (λ (l : List (List ℕ)). Contains l ways) (ways_of_row rows p r own at stage) c)) [
        | inl i ↦ (let x = flat_from (name_ways rows own) (first_names r.entry.services) ways i in
            name_way own h x.0 ways q x.2 on)
        | inr i ↦ (let x = flat_from (group_ways rows own) (first_names r.entry.groups) ways i in
            group_way own x.0 ways q x.2 on)
      ]

  row_leads : (p q : ℕ) (o : Option Staged) → slice_get rows p ≡ o
      → option_map_or (λ (r : Staged). is_taken r.stage) o false ≡ true
      → (ways : List ℕ) → Contains (needs_at (waits_of rows) p) ways → Contains ways q → taken_set rows q ≡ true
  row_leads p q None at h ways c on = absurd (false≢true h)
  row_leads p q (Some r) at h ways c on = by r.stage refl h
    where
      by : (stage : Option Stage) → r.stage ≡ stage → is_taken stage ≡ true → taken_set rows q ≡ true
      by None is t = absurd (false≢true t)
      by (Some own) is t = ways_taken p r own at is t ways q c on

  -- a taken entry leads to taken ones
  pub taken_leads : (p q : ℕ) → p < length (waits_of rows) → q < length (waits_of rows) → taken_set rows p ≡ true
      → leads (waits_of rows) p q ≡ true → taken_set rows q ≡ true
  taken_leads p q lp lq h st =
      let w = any_gives (λ ways. list_all (is_stuck (waits_of rows)) ways && list_any (nat_eq q) ways) (needs_at (waits_of rows) p) st in
      let b = and_parts (list_all (is_stuck (waits_of rows)) w.0) (list_any (nat_eq q) w.0) w.2 in
      let x = any_gives (nat_eq q) w.0 b.1 in
      row_leads p q (slice_get rows p) refl h w.0 w.1 (subst (Contains w.0) (sym (eqb-true q x.0 x.2)) x.1)
