-- The entries of a start's graph have names that differ, and its vertices are shown once.
use Rattle.std.proofs.Common.{◌≡◌, ◌<◌, ℕ, Bool, true, false, not, List, [], ◌∷◌, length, get_or, slice_get, Option, Some, None, refl, sym, ap, ◌∙◌, inl, inr, arith}
use Rattle.std.specs.Prelude.{AllPairs, Contains, filter}
use Rattle.std.specs.Option.{option_and_then, option_or}
use Rattle.std.specs.List.{All, range_with_len}
use Rattle.std.proofs.lemmas.Bool.{false≢true, cases_lt}
use Rattle.std.proofs.lemmas.List.FromFn.{get_or-range_with_len, length-range_with_len}
use Rattle.std.proofs.lemmas.List.Kept.{AllPairs-cons, AllPairs-filter}
use Rattle.std.proofs.lemmas.Option.{same_Some, slice_get-get_or, slice_get_within, get_or_from_slice_get}
use Rattle.nt_bytes.specs.Folding.{folds_same}
use Rattle.nt_names.proofs.FoldLemmas.{alike}
use Rattle.dependencies.proofs.MeetLemmas.{names_flip}
use Rattle.start_model.specs.Demand.{member}
use Rattle.start_model.specs.Entries.{Entry, entries_of}
use Rattle.start_model.specs.Order.{first_names}
use Rattle.wait_cycles.proofs.CycleLemmas.{filter_out}
use Rattle.check_laws.proofs.TakenLemmas.{item_here}
use Rattle.why_needs.specs.declared.why_state.views.PhaseView.{PhaseView}
use Rattle.why_needs.specs.declared.why_state.views.ViewedRun.{ViewedRun}
use Rattle.why_needs.specs.why_state.Views.{names_of}
use Rattle.why_needs.specs.why_state.States.{place_in, placed_of}
use Rattle.why_needs.specs.why_needs.Met.{entry_at}
use Rattle.why_laws.proofs.StepLemmas.{has_name}
use Rattle.why_laws.proofs.MetLemmas.{entry_named}
use Rattle.graph_rule.specs.Entries as rule
use Rattle.graph_rule.specs.Entries.{in_plan, in_set, all_names, entries_in}
use Rattle.graph_rule.specs.Rows.{whole_of}
use Rattle.graph_rule.specs.Shown.{marks_of}
use Rattle.graph_laws.specs.graph_laws.Shown.{shown_in}
use Rattle.state_laws.proofs.ApartLemmas.{AreOwn, given_own}

-- ---- names without those that fold as one before

abbrev pub Differ : List ℕ → List ℕ → Type 0
Differ a b = folds_same a b ≡ false

negated : (b : Bool) → not b ≡ true → b ≡ false
negated true h = absurd (false≢true h)
negated false h = refl

each_of : {X : Type 0} (P : X → Type 0) (xs : List X) → ((x : X) → Contains xs x → P x) → All P xs
each_of P xs f k d lt = f (get_or xs k d) (item_here xs k (get_or xs k d) (slice_get-get_or xs k d lt))

pub first_apart : (ns : List (List ℕ)) → AllPairs Differ (first_names ns)
first_apart [] = λ i j d lt within. absurd (omega (arith, within))
first_apart (n ∷ ns) =
    let test : List ℕ → Bool = λ m. not (folds_same n m) in
    AllPairs-cons Differ n (filter test (first_names ns))
    (each_of (Differ n) (filter test (first_names ns))
    (λ m c. negated (folds_same n m) (filter_out test (first_names ns) m c).1))
    (AllPairs-filter Differ test (first_names ns) (first_apart ns))

-- ---- the entry of a name

-- the views have the names of their plans
abbrev pub AreNamed : ViewedRun → Type 0
AreNamed r = (at : ℕ) (v : PhaseView) → slice_get r.views at ≡ Some v → v.names ≡ names_of v.plan

plan_named : (r : ViewedRun) → AreNamed r → (name : List ℕ) (e : Entry) → in_plan r name ≡ Some e
    → folds_same name e.name ≡ true
plan_named r named name e is = by (placed_of r name) refl is
  where
    by_view : (place : ℕ × ℕ) (v : PhaseView) → slice_get r.views place.0 ≡ Some v → place_in v.names name ≡ Some place.1
        → entry_at r place ≡ Some e → folds_same name e.name ≡ true
    by_view place v there here is =
        let f = entry_named v.plan place.1 name
        (ap (λ (ns : List (List ℕ)). place_in ns name) (sym (named place.0 v there)) ∙ here) in
        let at : slice_get v.plan place.1 ≡ Some e =
        sym (ap (option_and_then (λ (v : PhaseView). slice_get v.plan place.1)) there) ∙ is in
        ap (λ (x : Entry). folds_same name x.name) (same_Some e f.0 (sym at ∙ f.1)) ∙ f.2

    by : (o : Option (ℕ × ℕ)) → placed_of r name ≡ o → option_and_then (entry_at r) o ≡ Some e → folds_same name e.name ≡ true
    by None placed is = absurd cc
    by (Some place) placed is =
        let w = has_name r.views (length r.views) name place placed in by_view place w.0 w.1 w.2 is

set_named : (es : List Entry) (name : List ℕ) (e : Entry) → in_set es (names_of es) name ≡ Some e
    → folds_same name e.name ≡ true
set_named es name e is = by (place_in (names_of es) name) refl is
  where
    by : (o : Option ℕ) → place_in (names_of es) name ≡ o → option_and_then (slice_get es) o ≡ Some e
        → folds_same name e.name ≡ true
    by None at is = absurd cc
    by (Some k) at is =
        let f = entry_named es k name at in
        ap (λ (x : Entry). folds_same name x.name) (same_Some e f.0 (sym is ∙ f.1)) ∙ f.2

pub entry_is_named : (r : ViewedRun) → AreNamed r → (es : List Entry) (name : List ℕ) (e : Entry)
    → rule.entry_named r es (names_of es) name ≡ Some e → folds_same name e.name ≡ true
entry_is_named r named es name e is = by (in_plan r name) refl is
  where
    by : (o : Option Entry) → in_plan r name ≡ o → option_or o (in_set es (names_of es) name) ≡ Some e
        → folds_same name e.name ≡ true
    by None at is = set_named es name e is
    by (Some x) at is = plan_named r named name e (at ∙ is)

-- no two entries have one name
pub entries_own : (r : ViewedRun) → AreNamed r → AreOwn (entries_in r)
entries_own r named =
    let es : List Entry = entries_of r.run.set in
    given_own (rule.entry_named r es (names_of es)) Differ (apart es) (first_names (all_names r es))
    (first_apart (all_names r es))
  where
    apart : (es : List Entry) (x y : List ℕ) (e f : Entry) → Differ x y → rule.entry_named r es (names_of es) x ≡ Some e
        → rule.entry_named r es (names_of es) y ≡ Some f → folds_same e.name f.name ≡ true → ⊥
    apart es x y e f differ a b same =
        let mine = entry_is_named r named es x e a in
        let other = entry_is_named r named es y f b in
        false≢true (sym differ ∙ alike x e.name mine y ∙ names_flip e.name y
        ∙ alike y f.name other e.name ∙ names_flip f.name e.name ∙ same)

-- ---- what is shown

range_rises : (n : ℕ) → AllPairs (λ (a b : ℕ). a < b) (range_with_len 0 n)
range_rises n i j d lt within =
    let few : j < n = omega (arith, within, length-range_with_len 0 n) in
    omega (arith, get_or-range_with_len 0 n i d (omega (arith, lt, few)), get_or-range_with_len 0 n j d few, lt)

-- places of a list that rises
pub rising_once : (xs : List ℕ) → AllPairs (λ (a b : ℕ). a < b) xs → (i j v : ℕ) → slice_get xs i ≡ Some v
    → slice_get xs j ≡ Some v → i ≡ j
rising_once xs rises i j v a b = elim (cases_lt i j) [
  | inl lt ↦ absurd (apart i j a b lt)
  | inr ge ↦ elim (cases_lt j i) [ inl gt ↦ absurd (apart j i b a gt) | inr le ↦ omega (arith, ge, le) ]
]
  where
    apart : (i j : ℕ) → slice_get xs i ≡ Some v → slice_get xs j ≡ Some v → i < j → ⊥
    apart i j a b lt =
        omega (
          arith,
          rises i j v lt (slice_get_within xs j v b),
          get_or_from_slice_get xs i v v a,
          get_or_from_slice_get xs j v v b,
        )

pub shown_rises : (r : ViewedRun) (of : Option (List ℕ)) → AllPairs (λ (a b : ℕ). a < b) (shown_in r of)
shown_rises r of =
    AllPairs-filter (λ (a b : ℕ). a < b) (member (marks_of (whole_of r of) (whole_of r of).start))
    (range_with_len 0 (length (whole_of r of).rows)) (range_rises (length (whole_of r of).rows))
