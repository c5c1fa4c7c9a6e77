-- No two places of a plan have entries of one name.
use Rattle.std.proofs.Common.{◌≡◌, ◌<◌, ℕ, zero, suc, nat_eq, true, false, List, [], ◌∷◌, map, get_or, slice_get, Option, Some, None, refl, sym, ap, subst, ◌∙◌, inl, inr, arith}
use Rattle.std.specs.Prelude.{AllPairs, Contains, codes}
use Rattle.std.specs.Option.{option_map}
use Rattle.std.specs.List.{filter_map, cons_option}
use Rattle.std.proofs.lemmas.Bool.{false≢true, cases_lt, eq-eqb}
use Rattle.std.proofs.lemmas.Option.{same_Some, slice_get-map, slice_get_within, get_or_from_slice_get}
use Rattle.nt_bytes.specs.Folding.{folds_same}
use Rattle.hive_model.specs.Tree.{Tree, head, find_dword}
use Rattle.hive_model.specs.Valid.{HoldsKeys}
use Rattle.dependencies.proofs.MeetLemmas.{names_flip}
use Rattle.start_model.specs.Entries.{Entry, Phase, entry_of, entries_of, services_of}
use Rattle.start_model.specs.Order.{Rank, ordered_of, ranks_of, plan_of}
use Rattle.start_model.proofs.HeldLemmas.{services_differ}
use Rattle.start_laws.proofs.TakenLemmas.{plan_entries}
use Rattle.boot_phases.proofs.ApartLemmas.{plan_apart}
use Rattle.service_control.proofs.LeastLemmas.{from}
use Rattle.check_laws.proofs.SetLemmas.{entry_name}
use Rattle.check_laws.proofs.TakenLemmas.{item_here}

-- no two places have entries of one name
abbrev pub AreOwn : List Entry → Type 0
AreOwn es =
    (i j : ℕ) (e f : Entry) → slice_get es i ≡ Some e → slice_get es j ≡ Some f → folds_same e.name f.name ≡ true → i ≡ j

-- ---- entries that a list gives

-- no two places of a list give entries of one name
first_pairs : {X : Type 0} (R : X → X → Type 0) (x : X) (xs : List X) → AllPairs R (x ∷ xs) → (y : X) → Contains xs y → R x y
first_pairs {X} R x xs pairs y c = subst (λ (z : X). R x z) c.2 (pairs 0 (suc c.0) y (omega arith) (omega (arith, c.1)))

later_pairs : {X : Type 0} (R : X → X → Type 0) (x : X) (xs : List X) → AllPairs R (x ∷ xs) → AllPairs R xs
later_pairs R x xs pairs i j d lt within = pairs (suc i) (suc j) d (omega (arith, lt)) (omega (arith, within))

pub given_own : {X : Type 0} (h : X → Option Entry) (R : X → X → Type 0)
    → ((x y : X) (e f : Entry) → R x y → h x ≡ Some e → h y ≡ Some f → folds_same e.name f.name ≡ true → ⊥) → (xs : List X)
    → AllPairs R xs → AreOwn (filter_map h xs)
given_own h R apart [] pairs i j e f a b same = absurd cc
given_own {X} h R apart (x ∷ xs) pairs i j e f a b same =
    by (given_own h R apart xs (later_pairs R x xs pairs)) (h x) refl i j a b
  where
    -- the first and one after it
    two : (e f : Entry) (k : ℕ) → h x ≡ Some e → slice_get (filter_map h xs) k ≡ Some f → folds_same e.name f.name ≡ true → ⊥
    two e f k is there one =
        let g = from h xs f (item_here (filter_map h xs) k f there) in
        apart x g.item e f (first_pairs R x xs pairs g.item g.there) is g.is one

    by : AreOwn (filter_map h xs) → (o : Option Entry) → h x ≡ o → (i j : ℕ) → slice_get (cons_option o (filter_map h xs)) i ≡ Some e
        → slice_get (cons_option o (filter_map h xs)) j ≡ Some f → i ≡ j
    by rest None is i j a b = rest i j e f a b same
    by rest (Some y) is zero zero a b = refl
    by rest (Some y) is zero (suc j) a b =
        absurd (two e f j (is ∙ a) b same)
    by rest (Some y) is (suc i) zero a b =
        absurd (two f e i (is ∙ b) a (names_flip f.name e.name ∙ same))
    by rest (Some y) is (suc i) (suc j) a b = ap suc (rest i j e f a b same)

-- ---- the entries of a set

pub set_own : (set : Tree) → HoldsKeys set → AreOwn (entries_of set)
set_own set holds =
    given_own entry_of (λ a b. folds_same (head b).name (head a).name ≡ false) keys_apart (services_of set) (services_differ set holds)
  where
    keys_apart : (t u : Tree) (e f : Entry) → folds_same (head u).name (head t).name ≡ false → entry_of t ≡ Some e
        → entry_of u ≡ Some f → folds_same e.name f.name ≡ true → ⊥
    keys_apart t u e f differ a b one =
        let mine = entry_name t (find_dword (codes "Start") t) (find_dword (codes "Type") t) e a in
        let other = entry_name u (find_dword (codes "Start") u) (find_dword (codes "Type") u) f b in
        false≢true (sym differ ∙ (λ i. folds_same (sym other i) (sym mine i)) ∙ names_flip f.name e.name ∙ one)

-- ---- the entries of a plan

mapped : {X Y : Type 0} (f : X → Y) (xs : List X) (k : ℕ) (y : Y) → slice_get (map f xs) k ≡ Some y
    → (x : X) × (slice_get xs k ≡ Some x) × (f x ≡ y)
mapped f [] k y is = absurd cc
mapped f (x ∷ xs) zero y is = (x, refl, same_Some (f x) y is)
mapped f (x ∷ xs) (suc k) y is = mapped f xs k y is

module _ (set : Tree) (phase : Phase) (tried : List (List ℕ)) where
  abbrev ranks : List Rank
  ranks = ordered_of (ranks_of set phase tried)

  -- the rank of an entry
  ranked : (k : ℕ) (e : Entry) → slice_get (plan_of set phase tried) k ≡ Some e
      → (r : Rank) × (slice_get ranks k ≡ Some r) × (slice_get (entries_of set) r.place ≡ Some e)
  ranked k e is =
      let some : slice_get (map (λ (e : Entry). Some e) (plan_of set phase tried)) k ≡ Some (Some e) =
      slice_get-map (λ (e : Entry). Some e) (plan_of set phase tried) k ∙ ap (option_map (λ (e : Entry). Some e)) is in
      mapped (λ (r : Rank). slice_get (entries_of set) r.place) ranks k (Some e)
      (ap (λ (os : List (Option Entry)). slice_get os k) (sym (plan_entries set phase tried)) ∙ some)

  -- two ranks are of two places
  ranks_apart : (i j : ℕ) (x y : Rank) → i < j → slice_get ranks i ≡ Some x → slice_get ranks j ≡ Some y
      → x.place ≡ y.place → ⊥
  ranks_apart i j x y lt a b same =
      let one : get_or ranks i x ≡ x = get_or_from_slice_get ranks i x x a in
      let two : get_or ranks j x ≡ y = get_or_from_slice_get ranks j y x b in
      let apart : nat_eq (get_or ranks i x).place (get_or ranks j x).place ≡ false =
      plan_apart set phase tried i j x lt (slice_get_within ranks j y b) in
      false≢true (sym apart ∙ (λ k. nat_eq (one k).place (two k).place) ∙ eq-eqb x.place y.place same)

  pub plan_own : HoldsKeys set → AreOwn (plan_of set phase tried)
  plan_own holds i j e f a b same =
      let x = ranked i e a in
      let y = ranked j f b in
      let place : x.0.place ≡ y.0.place = set_own set holds x.0.place y.0.place e f x.2 y.2 same in
      elim (cases_lt i j) [
        | inl lt ↦ absurd (ranks_apart i j x.0 y.0 lt x.1 y.1 place)
        | inr ge ↦ elim (cases_lt j i) [
          | inl gt ↦ absurd (ranks_apart j i y.0 x.0 gt y.1 x.1 (sym place))
          | inr le ↦ omega (arith, ge, le)
        ]
      ]
