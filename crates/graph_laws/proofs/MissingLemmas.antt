-- The missing names of a part and those of the whole.
use Rattle.std.proofs.Common.{◌≡◌, ◌⊎◌, ◌<◌, ℕ, Bool, true, false, not, cond, List, [], ◌∷◌, slice_get, Option, Some, None, refl, sym, ap, subst, ◌∙◌, inl, inr}
use Rattle.std.specs.Prelude.{AllPairs, Contains, filter, position}
use Rattle.std.specs.Option.{is_some}
use Rattle.std.specs.List.{list_any}
use Rattle.std.proofs.lemmas.Bool.{false≢true, cases_Bool, cases_order, not-true, false_from_ne_true}
use Rattle.std.proofs.lemmas.Option.{slice_get_within, get_or_from_slice_get}
use Rattle.nt_bytes.specs.Folding.{folds_same}
use Rattle.nt_names.proofs.FoldLemmas.{alike}
use Rattle.dependencies.proofs.MeetLemmas.{names_flip}
use Rattle.start_model.specs.Order.{first_names}
use Rattle.boot_phases.proofs.TriedLemmas.{some_place}
use Rattle.wait_cycles.proofs.CycleLemmas.{in_cons, filter_in, filter_out}
use Rattle.wait_cycles.proofs.MetLemmas.{any_from, any_gives, first_in, later_in}
use Rattle.check_laws.proofs.RowLemmas.{first_sub, first_for}
use Rattle.check_laws.proofs.TakenLemmas.{item_here, item_place}
use Rattle.why_needs.specs.why_state.States.{place_in}
use Rattle.graph_laws.proofs.EdgeLemmas.{place_is, both_fold}
use Rattle.graph_laws.proofs.EntryLemmas.{Differ, first_apart}

-- ---- names that differ

-- two places with names that fold as one are one
pub one_place : (xs : List (List ℕ)) → AllPairs Differ xs → (i j : ℕ) (a b : List ℕ) → slice_get xs i ≡ Some a
    → slice_get xs j ≡ Some b → folds_same a b ≡ true → i ≡ j
one_place xs pairs i j a b at to same = by (cases_order i j)
  where
    apart : (i j : ℕ) (a b : List ℕ) → slice_get xs i ≡ Some a → slice_get xs j ≡ Some b → i < j → folds_same a b ≡ true → ⊥
    apart i j a b at to lt same =
        let differ = pairs i j [] lt (slice_get_within xs j b to) in
        false≢true (sym differ
        ∙ (λ k. folds_same (get_or_from_slice_get xs i a [] at k) (get_or_from_slice_get xs j b [] to k)) ∙ same)

    by : (i ≡ j) ⊎ ((i < j) ⊎ (j < i)) → i ≡ j
    by (inl e) = e
    by (inr (inl lt)) = absurd (apart i j a b at to lt same)
    by (inr (inr gt)) = absurd (apart j i b a to at gt (names_flip b a ∙ same))

-- a name has the place of the one that it folds as
pub place_of : (xs : List (List ℕ)) → AllPairs Differ xs → (name : List ℕ) (k : ℕ) (x : List ℕ) → slice_get xs k ≡ Some x
    → folds_same name x ≡ true → place_in xs name ≡ Some k
place_of xs pairs name k x at same =
    by (place_in xs name) refl
    (some_place (folds_same name) xs ∙ any_from (folds_same name) xs x (item_here xs k x at) same)
  where
    by : (o : Option ℕ) → place_in xs name ≡ o → is_some o ≡ true → o ≡ Some k
    by None is some = absurd (false≢true some)
    by (Some i) is some =
        let f = place_is xs name i is in
        ap (λ (n : ℕ). Some n) (one_place xs pairs i k f.0 x f.1 at (sym (alike name f.0 f.2 x) ∙ same))

-- ---- spelled as asked for

abbrev pub given : List ℕ → List ℕ → List ℕ
given name x = cond (folds_same name x) name x

given_on : (name x : List ℕ) → folds_same name x ≡ true → given name x ≡ name
given_on name x on = ap (λ (b : Bool). cond b name x) on

given_off : (name x : List ℕ) → folds_same name x ≡ false → given name x ≡ x
given_off name x off = ap (λ (b : Bool). cond b name x) off

pub given_folds : (name s x : List ℕ) → folds_same s x ≡ true → folds_same s (given name x) ≡ true
given_folds name s x same = by (folds_same name x) refl
  where
    by : (b : Bool) → folds_same name x ≡ b → folds_same s (cond b name x) ≡ true
    by true on = both_fold s name x same on
    by false off = same

-- ---- missing names

module _ (names others : List (List ℕ)) where
  abbrev lacks : List ℕ → Bool
  lacks n = not (is_some (place_in names n))

  abbrev old : List (List ℕ)
  old = first_names (filter lacks others)

  lacks_alike : (a b : List ℕ) → folds_same a b ≡ true → lacks a ≡ lacks b
  lacks_alike a b same = ap (λ (p : List ℕ → Bool). not (is_some (position p names))) (λ i c. alike a b same c i)

  -- a name that is needed and has no entry has a place
  pub found_old : (s : List ℕ) → Contains others s → lacks s ≡ true → (k : ℕ) × (place_in old s ≡ Some k)
  found_old s c lack =
      let first = first_for (filter lacks others) s (filter_in lacks others s c lack) in
      let i = item_place old first.0 first.1 in (
        i.0,
        place_of old (first_apart (filter lacks others)) s i.0 first.0 i.1 (names_flip s first.0 ∙ first.2),
      )

  module _ (name : List ℕ) where
    abbrev new : List (List ℕ)
    new = first_names (filter lacks (name ∷ others))

    abbrev other : List ℕ → Bool
    other m = not (folds_same name m)

    -- where the name has an entry, none of them folds so
    unlike : lacks name ≡ false → (x : List ℕ) → Contains old x → folds_same name x ≡ false
    unlike off x c = false_from_ne_true (folds_same name x) (λ same.
        false≢true (sym off ∙ lacks_alike name x same
        ∙ (filter_out lacks others x (first_sub (filter lacks others) x c)).1))

    -- each of the whole is one of the part
    pub given_in : (x : List ℕ) → Contains old x → Contains new (given name x)
    given_in x c = by (lacks name) refl
      where
        front : List (List ℕ) → Type 0
        front ns = Contains (first_names ns) (given name x)

        by : (b : Bool) → lacks name ≡ b → front (cond b (name ∷ filter lacks others) (filter lacks others))
        by false off = subst (λ (y : List ℕ). Contains old y) (sym (given_off name x (unlike off x c))) c
        by true on = elim (cases_Bool (folds_same name x)) [
          | inl same ↦ subst (λ (y : List ℕ). Contains (name ∷ filter other old) y) (sym (given_on name x same))
              (first_in name (filter other old))
          | inr differ ↦ subst (λ (y : List ℕ). Contains (name ∷ filter other old) y) (sym (given_off name x differ))
              (later_in name (filter other old) x (filter_in other old x c (ap not differ)))
        ]

    -- and each of the part is one of the whole, or the name
    abbrev pub Given : List ℕ → Type 0
    Given y = (x : List ℕ) × Contains old x × (given name x ≡ y)

    abbrev pub Added : List ℕ → Type 0
    Added y = (y ≡ name) × ((x : List ℕ) → Contains old x → folds_same name x ≡ false)

    pub given_from : (y : List ℕ) → Contains new y → Given y ⊎ Added y
    given_from y c = by (lacks name) refl c
      where
        first : name ≡ y → Given y ⊎ Added y
        first e = elim (cases_Bool (list_any (folds_same name) old)) [
          | inl some ↦ (let x = any_gives (folds_same name) old some in inl (x.0, x.1, given_on name x.0 x.2 ∙ e))
          | inr none ↦ inr (
            sym e,
            λ x i. false_from_ne_true (folds_same name x) (λ same.
                false≢true (sym none ∙ any_from (folds_same name) old x i same)),
          )
        ]

        by : (b : Bool) → lacks name ≡ b → Contains (first_names (cond b (name ∷ filter lacks others) (filter lacks others))) y
            → Given y ⊎ Added y
        by false off c = inl (y, c, given_off name y (unlike off y c))
        by true on c = elim (in_cons name (filter other old) y c) [
          | inl e ↦ first e
          | inr i ↦ (let f = filter_out other old y i in
              inl (y, f.0, given_off name y (not-true (folds_same name y) f.1)))
        ]
