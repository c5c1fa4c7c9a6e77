-- The places that a phase takes rise, so its ranks do too.
use Rattle.std.proofs.Common.{◌≡◌, ℕ, zero, suc, ◌+◌, ◌<◌, Bool, true, false, cond, List, [], ◌∷◌, length, filter, Option, Some, None, refl, arith}
use Rattle.std.specs.Prelude.{slice_get}
use Rattle.std.specs.Option.{option_map, option_map_or}
use Rattle.std.specs.List.{AllByRecursion, filter_map, cons_option, range_with_len}
use Rattle.hive_model.specs.Tree.{Tree}
use Rattle.start_model.specs.Demand.{is_taken}
use Rattle.start_model.specs.Entries.{Entry, Phase, Boot, System, Automatic, Done, entries_of, is_driver_of, is_open, places_of, needs_at, taken_of}
use Rattle.start_model.specs.Order.{GroupOrder, Rank, orders_of, rank_of, ranks_of, tags_count_in}
use Rattle.boot_phases.proofs.PlaceLemmas.{Rises}

-- each number is less than each later one
abbrev Rising : List ℕ → Type 0
Rising [] = Unit {0}
Rising (x ∷ xs) = AllByRecursion (λ y. x < y) xs × Rising xs

-- ---- a part of a range

above : (p : ℕ → Bool) (n a b : ℕ) → a < b → AllByRecursion (λ y. a < y) (filter p (range_with_len b n))
above p zero a b lt = tt
above p (suc n) a b lt = by_case (p b) (above p n a (b + 1) (omega arith))
  where
    by_case : (t : Bool) → AllByRecursion (λ y. a < y) (filter p (range_with_len (b + 1) n))
        → AllByRecursion (λ y. a < y)
        (cond t (b ∷ filter p (range_with_len (b + 1) n)) (filter p (range_with_len (b + 1) n)))
    by_case true rest = (lt, rest)
    by_case false rest = rest

rising_filter : (p : ℕ → Bool) (n b : ℕ) → Rising (filter p (range_with_len b n))
rising_filter p zero b = tt
rising_filter p (suc n) b = by_case (p b) (above p n b (b + 1) (omega arith)) (rising_filter p n (b + 1))
  where
    by_case : (t : Bool) → AllByRecursion (λ y. b < y) (filter p (range_with_len (b + 1) n))
        → Rising (filter p (range_with_len (b + 1) n))
        → Rising (cond t (b ∷ filter p (range_with_len (b + 1) n)) (filter p (range_with_len (b + 1) n)))
    by_case true all rest = (all, rest)
    by_case false all rest = rest

-- ---- what is at rising indices

at_later : (x : ℕ) (xs : List ℕ) (k y : ℕ) → AllByRecursion (λ z. x < z) xs → slice_get xs k ≡ Some y → x < y
at_later x [] k y all is = absurd cc
at_later x (z ∷ zs) zero y all is = let e : z ≡ y = cc in omega (arith, all.0)
at_later x (z ∷ zs) (suc k) y all is = at_later x zs k y all.1 is

get_rises : (xs : List ℕ) (i j x y : ℕ) → Rising xs → i < j → slice_get xs i ≡ Some x → slice_get xs j ≡ Some y → x < y
get_rises [] i j x y h lt at_i at_j = absurd cc
get_rises (z ∷ zs) zero zero x y h lt at_i at_j = absurd (omega arith)
get_rises (z ∷ zs) zero (suc j) x y h lt at_i at_j = let e : z ≡ x = cc in omega (arith, at_later z zs j y h.0 at_j)
get_rises (z ∷ zs) (suc i) zero x y h lt at_i at_j = absurd (omega arith)
get_rises (z ∷ zs) (suc i) (suc j) x y h lt at_i at_j = get_rises zs i j x y h.1 (omega arith) at_i at_j

chosen_above : (xs js : List ℕ) (i x : ℕ) → Rising xs → AllByRecursion (λ j. i < j) js → slice_get xs i ≡ Some x
    → AllByRecursion (λ y. x < y) (filter_map (slice_get xs) js)
chosen_above xs [] i x h all is = tt
chosen_above xs (j ∷ js) i x h all is = by_case (slice_get xs j) refl (chosen_above xs js i x h all.1 is)
  where
    by_case : (o : Option ℕ) → slice_get xs j ≡ o → AllByRecursion (λ y. x < y) (filter_map (slice_get xs) js)
        → AllByRecursion (λ y. x < y) (cons_option o (filter_map (slice_get xs) js))
    by_case None e rest = rest
    by_case (Some y) e rest = (get_rises xs i j x y h all.0 is e, rest)

chosen_rises : (xs js : List ℕ) → Rising xs → Rising js → Rising (filter_map (slice_get xs) js)
chosen_rises xs [] h g = tt
chosen_rises xs (j ∷ js) h g = by_case (slice_get xs j) refl (chosen_rises xs js h g.1)
  where
    by_case : (o : Option ℕ) → slice_get xs j ≡ o → Rising (filter_map (slice_get xs) js)
        → Rising (cons_option o (filter_map (slice_get xs) js))
    by_case None e rest = rest
    by_case (Some y) e rest = (chosen_above xs js j y h g.0 e, rest)

-- ---- what a phase takes

places_rise : (test : Entry → Bool) (entries : List Entry) → Rising (places_of test entries)
places_rise test entries = rising_filter (λ p. option_map_or test (slice_get entries p) false) (length entries) 0

taken_rises : (entries : List Entry) (phase : Phase) (tried : List (List ℕ)) → Rising (taken_of entries phase tried)
taken_rises entries Boot tried = places_rise (is_driver_of 0 tried) entries
taken_rises entries System tried = places_rise (is_driver_of 1 tried) entries
taken_rises entries Automatic tried =
    let places = places_of (is_open tried) entries in
    let table = needs_at entries places in
    chosen_rises places _ (places_rise (is_open tried) entries) (rising_filter (is_taken table) (length table) 0)
taken_rises entries Done tried = tt

ranks_above : (entries : List Entry) (orders : List GroupOrder) (counts : Bool) (ps : List ℕ) (p : ℕ)
    → AllByRecursion (λ q. p < q) ps
    → AllByRecursion (λ (r : Rank). p < r.place)
    (filter_map (λ q. option_map (rank_of orders counts q) (slice_get entries q)) ps)
ranks_above entries orders counts [] p all = tt
ranks_above entries orders counts (q ∷ qs) p all =
    by_case (slice_get entries q) (ranks_above entries orders counts qs p all.1)
  where
    by_case : (o : Option Entry)
        → AllByRecursion (λ (r : Rank). p < r.place)
        (filter_map (λ q. option_map (rank_of orders counts q) (slice_get entries q)) qs)
        → AllByRecursion (λ (r : Rank). p < r.place)
        (cons_option (option_map (rank_of orders counts q) o)
        (filter_map (λ q. option_map (rank_of orders counts q) (slice_get entries q)) qs))
    by_case None rest = rest
    by_case (Some e) rest = (all.0, rest)

ranks_rise_by : (entries : List Entry) (orders : List GroupOrder) (counts : Bool) (ps : List ℕ) → Rising ps
    → Rises (filter_map (λ q. option_map (rank_of orders counts q) (slice_get entries q)) ps)
ranks_rise_by entries orders counts [] h = tt
ranks_rise_by entries orders counts (q ∷ qs) h =
    by_case (slice_get entries q) (ranks_above entries orders counts qs q h.0)
    (ranks_rise_by entries orders counts qs h.1)
  where
    by_case : (o : Option Entry)
        → AllByRecursion (λ (r : Rank). q < r.place)
        (filter_map (λ q. option_map (rank_of orders counts q) (slice_get entries q)) qs)
        → Rises (filter_map (λ q. option_map (rank_of orders counts q) (slice_get entries q)) qs)
        → Rises (cons_option (option_map (rank_of orders counts q) o)
        (filter_map (λ q. option_map (rank_of orders counts q) (slice_get entries q)) qs))
    by_case None all rest = rest
    by_case (Some e) all rest = (all, rest)

pub ranks_rise : (set : Tree) (phase : Phase) (tried : List (List ℕ)) → Rises (ranks_of set phase tried)
ranks_rise set phase tried =
    ranks_rise_by (entries_of set) (orders_of set) (tags_count_in phase) (taken_of (entries_of set) phase tried)
    (taken_rises (entries_of set) phase tried)
