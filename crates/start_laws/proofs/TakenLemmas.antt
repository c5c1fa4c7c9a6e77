-- The plan of a phase has each entry that the phase takes once, and no other.
use Rattle.std.proofs.Common.{◌≡◌, ℕ, zero, suc, ◌<◌, Bool, true, false, cond, List, [], ◌∷◌, length, filter, map, Option, Some, None, refl, sym, ap, subst, ◌∙◌, arith}
use Rattle.std.specs.Prelude.{slice_get, AllPairs, IsPermutation}
use Rattle.std.specs.Option.{is_some, option_map, option_map_or}
use Rattle.std.specs.List.{AllByRecursion, filter_map, cons_option, range_with_len}
use Rattle.std.proofs.lemmas.Bool.{false≢true}
use Rattle.std.proofs.lemmas.List.Kept.{AllPairs-cons}
use Rattle.std.proofs.lemmas.List.Elements.{All-from_recursion, recursion_from_All}
use Rattle.std.proofs.lemmas.List.Sorted.{length_permutation, All-permutation, IsPermutation-refl, IsPermutation-cons, IsPermutation-trans, IsPermutation-middle}
use Rattle.hive_model.specs.Tree.{Tree}
use Rattle.start_model.specs.Entries.{Entry, Phase, Boot, System, Automatic, Done, entries_of, is_driver_of, is_open, places_of, needs_at, taken_of}
use Rattle.start_model.specs.Demand.{automatic_of}
use Rattle.start_model.specs.Order.{GroupOrder, Rank, is_before, placed, ordered_of, orders_of, rank_of, ranks_of, tags_count_in, plan_of}
use Rattle.boot_phases.proofs.PlaceLemmas.{Rises}
use Rattle.boot_phases.proofs.RisingLemmas.{ranks_rise}

-- an entry is at each of the places
abbrev There : List Entry → List ℕ → Type 0
There entries places = AllByRecursion (λ p. is_some (slice_get entries p) ≡ true) places

-- ---- what a phase takes is there

passing_is_some : (test : Entry → Bool) (o : Option Entry) → option_map_or test o false ≡ true → is_some o ≡ true
passing_is_some test None h = absurd (false≢true h)
passing_is_some test (Some e) h = refl

passing_there : (test : Entry → Bool) (entries : List Entry) (ps : List ℕ)
    → There entries (filter (λ p. option_map_or test (slice_get entries p) false) ps)
passing_there test entries [] = tt
passing_there test entries (p ∷ ps) =
    split (option_map_or test (slice_get entries p) false) refl (passing_there test entries ps)
  where
    rest : List ℕ
    rest = filter (λ p. option_map_or test (slice_get entries p) false) ps

    split : (b : Bool) → option_map_or test (slice_get entries p) false ≡ b → There entries rest
        → There entries (cond b (p ∷ rest) rest)
    split true is deep = (passing_is_some test (slice_get entries p) is, deep)
    split false is deep = deep

at_there : (entries : List Entry) (places : List ℕ) (k y : ℕ) → There entries places → slice_get places k ≡ Some y
    → is_some (slice_get entries y) ≡ true
at_there entries [] k y h is = absurd cc
at_there entries (p ∷ ps) zero y h is = let e : p ≡ y = cc in ap (λ q. is_some (slice_get entries q)) (sym e) ∙ h.0
at_there entries (p ∷ ps) (suc k) y h is = at_there entries ps k y h.1 is

chosen_there : (entries : List Entry) (places ks : List ℕ) → There entries places
    → There entries (filter_map (slice_get places) ks)
chosen_there entries places [] h = tt
chosen_there entries places (k ∷ ks) h = split (slice_get places k) refl (chosen_there entries places ks h)
  where
    split : (o : Option ℕ) → slice_get places k ≡ o → There entries (filter_map (slice_get places) ks)
        → There entries (cons_option o (filter_map (slice_get places) ks))
    split None is deep = deep
    split (Some y) is deep = (at_there entries places k y h is, deep)

taken_there : (entries : List Entry) (phase : Phase) (tried : List (List ℕ))
    → There entries (taken_of entries phase tried)
taken_there entries Boot tried = passing_there (is_driver_of 0 tried) entries (range_with_len 0 (length entries))
taken_there entries System tried = passing_there (is_driver_of 1 tried) entries (range_with_len 0 (length entries))
taken_there entries Automatic tried =
    let places = places_of (is_open tried) entries in
    chosen_there entries places (automatic_of (needs_at entries places))
    (passing_there (is_open tried) entries (range_with_len 0 (length entries)))
taken_there entries Done tried = tt

-- ---- each has a rank, and each rank an entry

abbrev place_in : Rank → ℕ
place_in r = r.place

-- the ranks have the places that were ranked, none left out
places_of_ranks : (entries : List Entry) (orders : List GroupOrder) (counts : Bool) (ps : List ℕ) → There entries ps
    → map place_in (filter_map (λ p. option_map (rank_of orders counts p) (slice_get entries p)) ps) ≡ ps
places_of_ranks entries orders counts [] h = refl
places_of_ranks entries orders counts (p ∷ ps) h =
    split (slice_get entries p) h.0 (places_of_ranks entries orders counts ps h.1)
  where
    rest : List Rank
    rest = filter_map (λ q. option_map (rank_of orders counts q) (slice_get entries q)) ps

    split : (o : Option Entry) → is_some o ≡ true → map place_in rest ≡ ps
        → map place_in (cons_option (option_map (rank_of orders counts p) o) rest) ≡ p ∷ ps
    split None there deep = absurd (false≢true there)
    split (Some e) there deep = ap (λ qs. p ∷ qs) deep

ranks_places : (set : Tree) (phase : Phase) (tried : List (List ℕ))
    → map place_in (ranks_of set phase tried) ≡ taken_of (entries_of set) phase tried
ranks_places set phase tried =
    places_of_ranks (entries_of set) (orders_of set) (tags_count_in phase) (taken_of (entries_of set) phase tried)
    (taken_there (entries_of set) phase tried)

-- ---- their order rearranges them

exchange : {X : Type 0} (a b : X) (xs : List X) → IsPermutation (a ∷ b ∷ xs) (b ∷ a ∷ xs)
exchange a b xs = IsPermutation-middle (a ∷ []) b xs

-- putting a rank in its place rearranges the places
placed_rearranges : (r : Rank) (rs : List Rank) → IsPermutation (map place_in (r ∷ rs)) (map place_in (placed r rs))
placed_rearranges r [] = IsPermutation-refl (r.place ∷ [])
placed_rearranges r (s ∷ rs) = split (is_before r s) (placed_rearranges r rs)
  where
    split : (b : Bool) → IsPermutation (map place_in (r ∷ rs)) (map place_in (placed r rs))
        → IsPermutation (map place_in (r ∷ s ∷ rs)) (map place_in (cond b (r ∷ s ∷ rs) (s ∷ placed r rs)))
    split true deep = IsPermutation-refl (map place_in (r ∷ s ∷ rs))
    split false deep =
        IsPermutation-trans (map place_in (r ∷ s ∷ rs)) (map place_in (s ∷ r ∷ rs)) (map place_in (s ∷ placed r rs))
        (exchange r.place s.place (map place_in rs))
        (IsPermutation-cons s.place (map place_in (r ∷ rs)) (map place_in (placed r rs)) deep)

ordered_rearranges : (rs : List Rank) → IsPermutation (map place_in rs) (map place_in (ordered_of rs))
ordered_rearranges [] = IsPermutation-refl []
ordered_rearranges (r ∷ rs) =
    IsPermutation-trans (map place_in (r ∷ rs)) (map place_in (r ∷ ordered_of rs))
    (map place_in (placed r (ordered_of rs)))
    (IsPermutation-cons r.place (map place_in rs) (map place_in (ordered_of rs)) (ordered_rearranges rs))
    (placed_rearranges r (ordered_of rs))

-- the order of a phase rearranges what it takes
pub plan_places : (set : Tree) (phase : Phase) (tried : List (List ℕ))
    → IsPermutation (taken_of (entries_of set) phase tried) (map place_in (ordered_of (ranks_of set phase tried)))
plan_places set phase tried =
    let P : List ℕ → Type 0 = λ places. IsPermutation places (map place_in (ordered_of (ranks_of set phase tried))) in
    subst P (ranks_places set phase tried) (ordered_rearranges (ranks_of set phase tried))

-- ---- the plan

abbrev entry_at : List Entry → Rank → Option Entry
entry_at entries r = slice_get entries r.place

-- no rank is lost when entries are looked up
each_entry : (entries : List Entry) (rs : List Rank) → There entries (map place_in rs)
    → map (λ (e : Entry). Some e) (filter_map (entry_at entries) rs) ≡ map (entry_at entries) rs
each_entry entries [] h = refl
each_entry entries (r ∷ rs) h = split (slice_get entries r.place) h.0 (each_entry entries rs h.1)
  where
    split : (o : Option Entry) → is_some o ≡ true
        → map (λ (e : Entry). Some e) (filter_map (entry_at entries) rs) ≡ map (entry_at entries) rs
        → map (λ (e : Entry). Some e) (cons_option o (filter_map (entry_at entries) rs)) ≡ o ∷ map (entry_at entries) rs
    split None there deep = absurd (false≢true there)
    split (Some e) there deep = ap (λ os. Some e ∷ os) deep

as_many : (entries : List Entry) (rs : List Rank) → There entries (map place_in rs)
    → length (filter_map (entry_at entries) rs) ≡ length (map place_in rs)
as_many entries [] h = refl
as_many entries (r ∷ rs) h = split (slice_get entries r.place) h.0 (as_many entries rs h.1)
  where
    split : (o : Option Entry) → is_some o ≡ true → length (filter_map (entry_at entries) rs) ≡ length (map place_in rs)
        → length (cons_option o (filter_map (entry_at entries) rs)) ≡ suc (length (map place_in rs))
    split None there deep = absurd (false≢true there)
    split (Some e) there deep = ap suc deep

ordered_there : (set : Tree) (phase : Phase) (tried : List (List ℕ))
    → There (entries_of set) (map place_in (ordered_of (ranks_of set phase tried)))
ordered_there set phase tried =
    let P : ℕ → Type 0 = λ p. is_some (slice_get (entries_of set) p) ≡ true in
    let taken : List ℕ = taken_of (entries_of set) phase tried in
    let places : List ℕ = map place_in (ordered_of (ranks_of set phase tried)) in
    recursion_from_All P places
    (All-permutation P taken places (plan_places set phase tried)
    (All-from_recursion P taken (taken_there (entries_of set) phase tried)))

-- the plan has the entries at the places of the order, one at each
pub plan_entries : (set : Tree) (phase : Phase) (tried : List (List ℕ))
    → map (λ (e : Entry). Some e) (plan_of set phase tried)
    ≡ map (λ (r : Rank). slice_get (entries_of set) r.place) (ordered_of (ranks_of set phase tried))
plan_entries set phase tried =
    each_entry (entries_of set) (ordered_of (ranks_of set phase tried)) (ordered_there set phase tried)

pub plan_count : (set : Tree) (phase : Phase) (tried : List (List ℕ))
    → length (plan_of set phase tried) ≡ length (taken_of (entries_of set) phase tried)
plan_count set phase tried =
    as_many (entries_of set) (ordered_of (ranks_of set phase tried)) (ordered_there set phase tried)
    ∙ length_permutation (taken_of (entries_of set) phase tried) (map place_in (ordered_of (ranks_of set phase tried)))
    (plan_places set phase tried)

-- ---- no place is taken twice

places_above : (r : Rank) (rs : List Rank) → AllByRecursion (λ (s : Rank). r.place < s.place) rs
    → AllByRecursion (λ p. r.place < p) (map place_in rs)
places_above r [] h = tt
places_above r (s ∷ rs) h = (h.0, places_above r rs h.1)

places_rise : (rs : List Rank) → Rises rs → AllPairs (λ a b. a < b) (map place_in rs)
places_rise [] h = λ i j d lt within. absurd (omega arith)
places_rise (r ∷ rs) h = AllPairs-cons (λ a b. a < b) r.place (map place_in rs)
    (All-from_recursion (λ p. r.place < p) (map place_in rs) (places_above r rs h.0)) (places_rise rs h.1)

-- the places that a phase takes rise, so none is taken twice
pub taken_rise : (set : Tree) (phase : Phase) (tried : List (List ℕ))
    → AllPairs (λ a b. a < b) (taken_of (entries_of set) phase tried)
taken_rise set phase tried =
    let P : List ℕ → Type 0 = λ places. AllPairs (λ a b. a < b) places in
    subst P (ranks_places set phase tried) (places_rise (ranks_of set phase tried) (ranks_rise set phase tried))
