-- A need is met by the first attempts where one of them met it.
use Rattle.std.proofs.Common.{◌≡◌, ◌<◌, ◌≤◌, ℕ, zero, suc, ◌+◌, nat_lt, Bool, true, false, cond, List, [], ◌∷◌, length, slice_get, Option, Some, None, refl, sym, ap, ◌∙◌, inl, inr, arith}
use Rattle.std.specs.Prelude.{Contains}
use Rattle.std.specs.Option.{option_map, option_map_or, option_and_then}
use Rattle.std.specs.List.{filter_map, cons_option, range_with_len}
use Rattle.std.proofs.lemmas.Bool.Decides.{nat_tests}
use Rattle.std.proofs.lemmas.Option.{same_Some, slice_get_within}
use Rattle.nt_bytes.specs.Folding.{folds_same}
use Rattle.start_model.specs.Quiet as book
use Rattle.quiet_run.specs.declared.last.Attempt.{Attempt}
use Rattle.quiet_run.specs.declared.last.QuietRun.{QuietRun}
use Rattle.quiet_run.specs.Play.{AreHeld}
use Rattle.quiet_run.specs.Watch.{quiet_run_of}
use Rattle.wait_cycles.proofs.InverseLemmas.{none_in}
use Rattle.wait_cycles.proofs.CycleLemmas.{in_cons}
use Rattle.wait_cycles.proofs.MetLemmas.{in_range}
use Rattle.check_laws.proofs.RowLemmas.{stands_at as item_at}
use Rattle.why_needs.specs.declared.why_state.views.ViewedRun.{ViewedRun}
use Rattle.why_needs.specs.why_state.Views.{viewed_of}
use Rattle.why_needs.specs.declared.why_needs.met.GroupStarts.{GroupStarts}
use Rattle.why_needs.specs.why_needs.Met.{is_ok, group_of, group_by, group_at, starts_of, service_met, group_met, is_met}
use Rattle.why_laws.proofs.MadeLemmas.{Known, sight}
use Rattle.why_laws.proofs.ActLemmas.{hear}
use Rattle.why_laws.proofs.PlacedLemmas.{placed_known}
use Rattle.why_laws.proofs.StandsLemmas.{first_place, made_at}
use Rattle.why_laws.proofs.MetLemmas.{run_is, service_well, group_well}
use Rattle.state_laws.specs.state_laws.Met.{NameWasStarted, GroupWasStarted, NameIsMetWhereStarted, GroupIsMetWhereStarted}
use Rattle.state_laws.proofs.OnceLemmas.{tried_once}

pub early_test : (k n : ℕ) → k < n → nat_lt k n ≡ true
early_test k n lt = grind (arith, nat_tests, lt)

-- ---- the attempts that started a member of a group, and these groups

module _ (g : ℕ → Option (List ℕ)) where
  -- the attempt, where it has a group
  abbrev kept : ℕ → Option ℕ
  kept k = option_map (λ (group : List ℕ). k) (g k)

  put : (ks : List ℕ) (k : ℕ) (found : List ℕ) → Contains ks k → g k ≡ Some found
      → (i : ℕ) × (slice_get (filter_map g ks) i ≡ Some found) × (slice_get (filter_map kept ks) i ≡ Some k)
  put [] k found c is = absurd (none_in k c)
  put (x ∷ ks) k found c is = elim (in_cons x ks k c) [
    | inl one ↦ (let here : g x ≡ Some found = ap g one ∙ is in (
      0,
      ap (λ (o : Option (List ℕ)). slice_get (cons_option o (filter_map g ks)) 0) here,
      ap (λ (o : Option (List ℕ)). slice_get (cons_option (option_map (λ (group : List ℕ). x) o) (filter_map kept ks)) 0) here
          ∙ ap (λ (j : ℕ). Some j) one,
    ))
    | inr rest ↦ by (g x) refl (put ks k found rest is)
  ]
    where
      by : (o : Option (List ℕ)) → g x ≡ o
          → (i : ℕ) × (slice_get (filter_map g ks) i ≡ Some found) × (slice_get (filter_map kept ks) i ≡ Some k)
          → (i : ℕ) × (slice_get (cons_option (g x) (filter_map g ks)) i ≡ Some found)
          × (slice_get (cons_option (kept x) (filter_map kept ks)) i ≡ Some k)
      by None at deep = (
        deep.0,
        ap (λ (o : Option (List ℕ)). slice_get (cons_option o (filter_map g ks)) deep.0) at ∙ deep.1,
        ap (λ (o : Option (List ℕ)). slice_get (cons_option (option_map (λ (group : List ℕ). x) o) (filter_map kept ks)) deep.0) at
            ∙ deep.2,
      )
      by (Some h) at deep = (
        suc deep.0,
        ap (λ (o : Option (List ℕ)). slice_get (cons_option o (filter_map g ks)) (suc deep.0)) at ∙ deep.1,
        ap (λ (o : Option (List ℕ)). slice_get (cons_option (option_map (λ (group : List ℕ). x) o) (filter_map kept ks)) (suc deep.0)) at
            ∙ deep.2,
      )

  -- the place of a group is that of its attempt
  paired : (ks : List ℕ) (i : ℕ) (found : List ℕ) → slice_get (filter_map g ks) i ≡ Some found
      → (k : ℕ) × (slice_get (filter_map kept ks) i ≡ Some k)
  paired [] i found is = absurd cc
  paired (x ∷ ks) i found is = by (g x) i is (paired ks)
    where
      by : (o : Option (List ℕ)) (i : ℕ) → slice_get (cons_option o (filter_map g ks)) i ≡ Some found
          → ((i : ℕ) (found : List ℕ) → slice_get (filter_map g ks) i ≡ Some found
          → (k : ℕ) × (slice_get (filter_map kept ks) i ≡ Some k))
          → (k : ℕ) × (slice_get (cons_option (option_map (λ (group : List ℕ). x) o) (filter_map kept ks)) i ≡ Some k)
      by None i is deep = deep i found is
      by (Some h) zero is deep = (x, refl)
      by (Some h) (suc i) is deep = deep i found is

  -- they rise
  above : (a n i y : ℕ) → slice_get (filter_map kept (range_with_len a n)) i ≡ Some y → a ≤ y
  above a zero i y is = absurd cc
  above a (suc n) i y is = by (above (a + 1) n) (g a) i is
    where
      by : ((i y : ℕ) → slice_get (filter_map kept (range_with_len (a + 1) n)) i ≡ Some y → a + 1 ≤ y)
          → (o : Option (List ℕ)) (i : ℕ)
          → slice_get (cons_option (option_map (λ (group : List ℕ). a) o) (filter_map kept (range_with_len (a + 1) n))) i ≡ Some y
          → a ≤ y
      by deep None i is = omega (arith, deep i y is)
      by deep (Some h) zero is = omega (arith, same_Some a y is)
      by deep (Some h) (suc i) is = omega (arith, deep i y is)

  rises : (a n i j x y : ℕ) → i ≤ j → slice_get (filter_map kept (range_with_len a n)) i ≡ Some x
      → slice_get (filter_map kept (range_with_len a n)) j ≡ Some y → x ≤ y
  rises a zero i j x y le is there = absurd cc
  rises a (suc n) i j x y le is there = by (λ i j. rises (a + 1) n i j x y) (g a) i j le is there
    where
      rest : List ℕ
      rest = filter_map kept (range_with_len (a + 1) n)

      by : ((i j : ℕ) → i ≤ j → slice_get rest i ≡ Some x → slice_get rest j ≡ Some y → x ≤ y)
          → (o : Option (List ℕ)) (i j : ℕ) → i ≤ j
          → slice_get (cons_option (option_map (λ (group : List ℕ). a) o) rest) i ≡ Some x
          → slice_get (cons_option (option_map (λ (group : List ℕ). a) o) rest) j ≡ Some y → x ≤ y
      by deep None i j le is there = deep i j le is there
      by deep (Some h) zero zero le is there = omega (arith, same_Some a x is, same_Some a y there)
      by deep (Some h) zero (suc j) le is there = omega (arith, same_Some a x is, above (a + 1) n j y there)
      by deep (Some h) (suc i) zero le is there = absurd (omega (arith, le))
      by deep (Some h) (suc i) (suc j) le is there = deep i j (omega (arith, le)) is there

-- ---- groups

pub group_back : (r : ViewedRun) (n : ℕ) (group : List ℕ) → GroupWasStarted r n group
    → is_met n (group_met (starts_of r) group) ≡ true
group_back r n group w =
    let g : GroupStarts = starts_of r in
    let here : group_at r w.place ≡ Some w.found =
    ap (option_and_then (group_by r)) w.here ∙ ap (λ (b : Bool). cond b (group_of r w.attempt.name) None) w.ok ∙ w.of in
    let p = put (group_at r) (range_with_len 0 (length r.run.start.attempts)) w.place w.found
    (in_range (length r.run.start.attempts) w.place (slice_get_within r.run.start.attempts w.place w.attempt w.here)) here in
    let f = first_place g.groups group p.0 w.found p.1 w.same in
    let h = item_at g.groups f.0 (omega (arith, f.1, slice_get_within g.groups p.0 w.found p.1)) in
    let k = paired (group_at r) (range_with_len 0 (length r.run.start.attempts)) f.0 h.0 h.1 in
    let le = rises (group_at r) 0 (length r.run.start.attempts) f.0 p.0 k.0 w.place f.1 k.1 p.2 in
    ap (λ (o : Option ℕ). option_map_or (λ k. nat_lt k n) (option_and_then (slice_get g.at) o) false) f.2
    ∙ ap (λ (o : Option ℕ). option_map_or (λ k. nat_lt k n) o false) k.1
    ∙ early_test k.0 n (omega (arith, le, w.early))

pub group_there : (run : QuietRun) (n : ℕ) (group : List ℕ) → is_met n (group_met (starts_of (viewed_of run)) group) ≡ true
    → GroupWasStarted (viewed_of run) n group
group_there run n group is =
    let w = group_well run n group is in
    record {
      place = w.place;
      early = w.early;
      attempt = w.attempt;
      here = ap (λ (x : QuietRun). slice_get x.start.attempts w.place) (run_is run) ∙ w.here;
      ok = w.ok;
      found = w.found;
      of = w.of;
      same = w.same;
    }

-- ---- names

pub name_there : (run : QuietRun) (n : ℕ) (name : List ℕ) → is_met n (service_met (viewed_of run) name) ≡ true
    → NameWasStarted (viewed_of run) n name
name_there run n name is =
    let w = service_well run n name is in
    record {
      place = w.0;
      early = w.1.early;
      attempt = w.1.attempt;
      here = ap (λ (x : QuietRun). slice_get x.start.attempts w.0) (run_is run) ∙ w.1.here;
      ok = w.1.ok;
      same = w.1.same;
    }

module _ (run : QuietRun) (us : List (List ℕ)) (known : Known (sight run.start) us) (held : AreHeld run.start.phases) where
  pub name_back : (n : ℕ) (name : List ℕ) → NameWasStarted (viewed_of run) n name
      → is_met n (service_met (viewed_of run) name) ≡ true
  name_back n name w =
      let r : ViewedRun = viewed_of run in
      let here : slice_get run.start.attempts w.place ≡ Some w.attempt =
      ap (λ (x : QuietRun). slice_get x.start.attempts w.place) (sym (run_is run)) ∙ w.here in
      let t = made_at known.made w.place w.attempt (ap (λ (xs : List Attempt). slice_get xs w.place) (sym known.attempts) ∙ here) in
      let first = tried_once run us known held w.place t.0 t.1 name
      (ap (λ (x : Attempt). folds_same name x.name) t.2 ∙ w.same) in
      let got : ℕ → Attempt → Option ℕ = λ k a. cond (is_ok a.outcome) (Some k) None in
      ap (λ (o : Option ℕ). is_met n (option_and_then (λ k. option_and_then (got k) (slice_get r.run.start.attempts k)) o)) first
      ∙ ap (λ (o : Option Attempt). is_met n (option_and_then (got w.place) o)) w.here
      ∙ ap (λ (b : Bool). is_met n (cond b (Some w.place) None)) w.ok
      ∙ early_test w.place n w.early

pub name_is_met : NameIsMetWhereStarted
name_is_met choice script placed held n name =
    let run : QuietRun = quiet_run_of choice script placed.state.version placed.state.tree in (
      name_there run n name,
      name_back run (hear [] (book.quiet_run_of choice script placed).lines) (placed_known choice script placed) held n name,
    )

pub group_is_met : GroupIsMetWhereStarted
group_is_met choice script placed n group =
    let run : QuietRun = quiet_run_of choice script placed.state.version placed.state.tree in
    (group_there run n group, group_back (viewed_of run) n group)
