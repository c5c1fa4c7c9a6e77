-- A phase takes fewer entries than a u32 has values.
use Rattle.std.proofs.Common.{◌≡◌, ℕ, ◌^◌, ◌<◌, ◌≤◌, suc, Bool, true, false, cond, List, [], ◌∷◌, length, Option, Some, None, refl, ap, ◌∙◌, arith}
use Rattle.std.specs.Prelude.{slice_get, filter, Result, Ok, Err, IfOk}
use Rattle.std.specs.Option.{option_map, option_map_or}
use Rattle.std.specs.List.{filter_map, cons_option, range_with_len}
use Rattle.std.proofs.lemmas.List.Sums.{length-filter, count_by-le-length}
use Rattle.std.proofs.lemmas.List.FromFn.{length-range_with_len}
use Rattle.hive_model.specs.Tree.{Tree}
use Rattle.hive_model.specs.Valid.{HoldsKeys}
use Rattle.start_model.specs.Demand.{automatic_of, is_taken}
use Rattle.start_model.specs.Entries.{Entry, Phase, Boot, System, Automatic, Done, entry_of, entries_of, services_of, need_of, needs_at, is_driver_of, is_open, places_of, taken_of}
use Rattle.start_model.specs.Order.{Rank, is_before, placed, ordered_of, rank_of, tags_count_in, plan_of}
use Rattle.start_model.proofs.HeldLemmas.{services_few}
use Rattle.boot_phases.specs.boot_phases.Lists.{Lists, lists_of, ranks_among, plan_among}

one_more : {X : Type 0} (o : Option X) (xs : List X) (n : ℕ) → length xs ≤ n → length (cons_option o xs) ≤ suc n
one_more None xs n le = omega arith
one_more (Some x) xs n le = omega arith

mapped : {X Y : Type 0} (h : X → Option Y) (xs : List X) → length (filter_map h xs) ≤ length xs
mapped h [] = omega arith
mapped h (x ∷ xs) = one_more (h x) (filter_map h xs) (length xs) (mapped h xs)

filtered : (p : ℕ → Bool) (n : ℕ) → length (filter p (range_with_len 0 n)) ≤ n
filtered p n = omega (
  arith,
  length-filter p (range_with_len 0 n),
  count_by-le-length p (range_with_len 0 n),
  length-range_with_len 0 n,
)

length-placed : (r : Rank) (rs : List Rank) → length (placed r rs) ≡ suc (length rs)
length-placed r [] = refl
length-placed r (s ∷ rs) = by_order (is_before r s) (length-placed r rs)
  where
    by_order : (b : Bool) → length (placed r rs) ≡ suc (length rs)
        → length (cond b (r ∷ s ∷ rs) (s ∷ placed r rs)) ≡ suc (length (s ∷ rs))
    by_order true e = refl
    by_order false e = ap suc e

length-ordered_of : (rs : List Rank) → length (ordered_of rs) ≡ length rs
length-ordered_of [] = refl
length-ordered_of (r ∷ rs) = length-placed r (ordered_of rs) ∙ ap suc (length-ordered_of rs)

taken : (entries : List Entry) (phase : Phase) (tried : List (List ℕ))
    → length (taken_of entries phase tried) ≤ length entries
taken entries Boot tried =
    filtered (λ p. option_map_or (is_driver_of 0 tried) (slice_get entries p) false) (length entries)
taken entries System tried =
    filtered (λ p. option_map_or (is_driver_of 1 tried) (slice_get entries p) false) (length entries)
taken entries Automatic tried =
    let open_places = places_of (is_open tried) entries in
    let needs = needs_at entries open_places in
    omega (
      arith,
      mapped (slice_get open_places) (automatic_of needs),
      filtered (is_taken needs) (length needs),
      mapped (λ p. option_map need_of (slice_get entries p)) open_places,
      filtered (λ p. option_map_or (is_open tried) (slice_get entries p) false) (length entries),
    )
taken entries Done tried = omega arith

-- a phase takes at most as many as there are
among : (lists : Lists) (phase : Phase) (tried : List (List ℕ))
    → length (plan_among lists phase tried) ≤ length lists.entries
among lists phase tried =
    let places = taken_of lists.entries phase tried in
    let h : ℕ → Option Rank =
    λ p. option_map (rank_of lists.orders (tags_count_in phase) p) (slice_get lists.entries p) in
    let ranks = ranks_among lists phase tried in
    omega (
      arith,
      mapped (λ (r : Rank). slice_get lists.entries r.place) (ordered_of ranks),
      length-ordered_of ranks,
      mapped h places,
      taken lists.entries phase tried,
    )

pub few_among : (lists : Lists) (phase : Phase) (tried : List (List ℕ)) → length lists.entries < 2 ^ 32
    → length (plan_among lists phase tried) < 2 ^ 32
few_among lists phase tried few = omega (arith, few, among lists phase tried)

pub few_by : {E : Type 0} (r : Result (List Entry) E) (lists : Lists) (phase : Phase) (tried : List (List ℕ))
    → length lists.entries < 2 ^ 32 → IfOk r (λ p. p ≡ plan_among lists phase tried) → IfOk r (λ p. length p < 2 ^ 32)
few_by (Ok p) lists phase tried few is =
    let count : length p ≡ length (plan_among lists phase tried) = ap length is in
    omega (arith, count, few_among lists phase tried few)
few_by (Err e) lists phase tried few is = tt

pub entries_few : (set : Tree) → HoldsKeys set → length (entries_of set) < 2 ^ 32
entries_few set held = omega (arith, mapped entry_of (services_of set), services_few set held)

pub plan_few : (set : Tree) (phase : Phase) (tried : List (List ℕ)) → HoldsKeys set
    → length (plan_of set phase tried) < 2 ^ 32
plan_few set phase tried held = few_among (lists_of set) phase tried (entries_few set held)
