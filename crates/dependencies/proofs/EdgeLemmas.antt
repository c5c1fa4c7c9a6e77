-- What an entry pulls in is what edges lead to, so that the least set of the one is that of the other.
use Rattle.std.proofs.Common.{◌≡◌, ℕ, zero, suc, ◌<◌, Bool, true, false, nat_eq, ◌&&◌, ◌||◌, List, [], ◌∷◌, length, get_or, map, filter, refl, sym, ap, ◌∙◌, cond, arith}
use Rattle.std.specs.Prelude.{All, Contains, slice_get}
use Rattle.std.specs.Option.{option_map_or}
use Rattle.std.specs.List.{list_any, flat_map, range_with_len}
use Rattle.std.proofs.Math.Bool.{and-or_distrib_left}
use Rattle.std.proofs.lemmas.Bool.{and_from, eqb-true, eq-eqb}
use Rattle.std.proofs.lemmas.Cmp.{nat_eq_equiv}
use Rattle.std.proofs.lemmas.List.{length-map}
use Rattle.std.proofs.lemmas.List.Folds.{list_any-append}
use Rattle.std.proofs.lemmas.List.Elements.{All-append, All-contains, All-filter, filter_passes}
use Rattle.std.proofs.lemmas.Map.Views.{Contains-from_any, list_any-from_Contains}
use Rattle.nt_bytes.specs.Folding.{folds_same}
use Rattle.nt_names.specs.name_places.Places.{places_named}
use Rattle.nt_names.proofs.PlaceLemmas.{all_named, each_named}
use Rattle.least_set.specs.Edges.{row_at, AreEdges}
use Rattle.least_set.specs.Edges.{IsLeast as AreLeast}
use Rattle.least_set.proofs.MarkLemmas.{edge_from}
use Rattle.start_model.specs.Demand.{Need, starts_at, pulls}
use Rattle.dependencies.specs.Work.{IsLeast, names_of, given_at, firsts_of, demanded, rows_of}
use Rattle.dependencies.proofs.PulledLemmas.{same_bool, any_below, starts_within, pulls_within}
use Rattle.dependencies.proofs.MeetLemmas.{names_flip}

-- ---- lists

and_false : (a : Bool) → (a && false) ≡ false
and_false true = refl
and_false false = refl

all_each : {X Y : Type 0} (P : Y → Type 0) (f : X → List Y) (xs : List X) → ((x : X) → All P (f x)) → All P (flat_map f xs)
all_each P f [] each = λ k d lt. absurd (omega (arith, lt))
all_each P f (x ∷ xs) each = All-append P (f x) (flat_map f xs) (each x) (all_each P f xs each)

-- where the first of two tests gives the third, it may come after it
within_or : (a b c : Bool) → (a ≡ true → b ≡ true) → (a || (b && c)) ≡ (b && (a || c))
within_or true b c then = sym (ap (λ b. b && true) (then refl))
within_or false b c then = refl

without_or : (a b c : Bool) → (a ≡ true → b ≡ false) → (b && c) ≡ (b && (a || c))
without_or true b c then = ap (λ b. b && c) (then refl) ∙ sym (ap (λ b. b && true) (then refl))
without_or false b c then = refl

any_filter : (p : ℕ → Bool) (xs : List ℕ) (k : ℕ) → list_any (nat_eq k) (filter p xs) ≡ (p k && list_any (nat_eq k) xs)
any_filter p [] k = sym (and_false (p k))
any_filter p (x ∷ xs) k = by (p x) refl (any_filter p xs k)
  where
    by : (b : Bool) → p x ≡ b → list_any (nat_eq k) (filter p xs) ≡ (p k && list_any (nat_eq k) xs)
        → list_any (nat_eq k) (cond b (x ∷ filter p xs) (filter p xs)) ≡ (p k && (nat_eq k x || list_any (nat_eq k) xs))
    by true on rest = ap (λ c. nat_eq k x || c) rest ∙ within_or (nat_eq k x) (p k) _ (λ e. ap p (eqb-true k x e) ∙ on)
    by false off rest = rest ∙ without_or (nat_eq k x) (p k) _ (λ e. ap p (eqb-true k x e) ∙ off)

-- ---- the places of a name

length-names_of : (table : List Need) → length (names_of table) ≡ length table
length-names_of table = length-map table (λ n. n.name)

pub places_within : (table : List Need) (name : List ℕ) → All (λ k. k < length table) (places_named name (names_of table))
places_within table name k d lt = omega (arith, (all_named name (names_of table) k d lt).0, length-names_of table)

-- a place is one of those that the index gives
is_place_of : (table : List Need) (name : List ℕ) (k : ℕ) → k < length table
    → list_any (nat_eq k) (places_named name (names_of table)) ≡ folds_same name (get_or (names_of table) k [])
is_place_of table name k lt =
    same_bool (list_any (nat_eq k) places) (folds_same name (get_or names k []))
    (λ h. (All-contains IsPlace places k (all_named name names) (Contains-from_any eqb-true k places h)).1)
    (λ h. list_any-from_Contains nat_eq_equiv k places
    (each_named name names k (omega (arith, length-names_of table)) h))
  where
    names : List (List ℕ)
    names = names_of table

    places : List ℕ
    places = places_named name names

    IsPlace : ℕ → Type 0
    IsPlace k = (k < length names) × (folds_same name (get_or names k []) ≡ true)

-- ---- edges

-- the row of a place
pub row_is : (f : List (List ℕ) → List ℕ) (xs : List Need) (p : ℕ) → p < length xs
    → row_at (map (λ n. f n.services) xs) p ≡ f (given_at xs p)
row_is f [] p lt = absurd (omega (arith, lt))
row_is f (x ∷ xs) zero lt = refl
row_is f (x ∷ xs) (suc p) lt = row_is f xs p (omega (arith, lt))

pub count_is : (table : List Need) → length (rows_of table) ≡ length table
count_is table = length-map table (λ n. flat_map (demanded table) n.services)

pub are_edges : (table : List Need) → AreEdges (rows_of table)
are_edges table u v edge =
    let lu = edge_from (rows_of table) u v edge in
    let within : All (λ k. k < length table) (row_at (rows_of table) u) =
    rw (row_is (flat_map (demanded table)) table u (omega (arith, lu, count_is table)))
    (all_each (λ k. k < length table) (demanded table) (given_at table u)
    (λ name. All-filter (starts_at table 3) (λ k. k < length table) (places_named name (names_of table))
    (places_within table name))) in
    omega (arith, All-contains (λ k. k < length table) (row_at (rows_of table) u) v within edge, count_is table)

-- the entry at the place has Start 3 and one of these names
abbrev is_named : List Need → List (List ℕ) → ℕ → Bool
is_named table names q = starts_at table 3 q && list_any (folds_same (get_or (names_of table) q [])) names

row_has : (table : List Need) (names : List (List ℕ)) (q : ℕ) → q < length table
    → list_any (nat_eq q) (flat_map (demanded table) names) ≡ is_named table names q
row_has table [] q lt = sym (and_false (starts_at table 3 q))
row_has table (name ∷ names) q lt =
    list_any-append (nat_eq q) (demanded table name) (flat_map (demanded table) names)
    ∙ (λ i. (any_filter (starts_at table 3) (places_named name (names_of table)) q
    ∙ ap (λ b. starts_at table 3 q && b) (is_place_of table name q lt ∙ names_flip name _)) i || row_has table names q lt i)
    ∙ sym (and-or_distrib_left (starts_at table 3 q) _ _)

named_is : (names : List (List ℕ)) (xs : List Need) (q : ℕ) → q < length xs
    → option_map_or (λ (b : Need). nat_eq b.start 3 && list_any (folds_same b.name) names) (slice_get xs q) false
    ≡ is_named xs names q
named_is names [] q lt = absurd (omega (arith, lt))
named_is names (x ∷ xs) zero lt = refl
named_is names (x ∷ xs) (suc q) lt = named_is names xs q (omega (arith, lt))

-- what an entry pulls in, by the names that it gives
pulls_is : (test : List (List ℕ) → Bool) (xs : List Need) (p : ℕ) → p < length xs
    → option_map_or (λ (a : Need). test a.services) (slice_get xs p) false ≡ test (given_at xs p)
pulls_is test [] p lt = absurd (omega (arith, lt))
pulls_is test (x ∷ xs) zero lt = refl
pulls_is test (x ∷ xs) (suc p) lt = pulls_is test xs p (omega (arith, lt))

edge_is : (table : List Need) (p q : ℕ) → p < length table → q < length table
    → list_any (nat_eq q) (row_at (rows_of table) p) ≡ pulls table p q
edge_is table p q lp lq =
    ap (list_any (nat_eq q)) (row_is (flat_map (demanded table)) table p lp)
    ∙ row_has table (given_at table p) q lq ∙ sym (named_is (given_at table p) table q lq)
    ∙ sym (pulls_is
    (λ names. option_map_or (λ (b : Need). nat_eq b.start 3 && list_any (folds_same b.name) names) (slice_get table q) false)
    table p lp)

-- ---- the least set

pub least_is : (table : List Need) (taken : List Bool) → AreLeast (rows_of table) (firsts_of table) taken → IsLeast table taken
least_is table taken is = record {
  len = is.len ∙ count_is table;
  closed = record {
    starts = λ q s. (let lt = starts_within table 2 q s in
        is.closed.begun q (Contains-from_any eqb-true q (firsts_of table)
        (any_filter (starts_at table 2) (range_with_len 0 (length table)) q
        ∙ and_from (starts_at table 2 q) _ s (any_below (nat_eq q) (length table) q lt (eq-eqb q q refl)))));
    pulled = λ p q m h. (let within = pulls_within table p q h in
        is.closed.closed p q m
        (Contains-from_any eqb-true q (row_at (rows_of table) p) (edge_is table p q within.0 within.1 ∙ h)));
  };
  least = λ set closed q m. is.least set (record {
    begun = λ v c. closed.starts v
        (All-contains (λ x. starts_at table 2 x ≡ true) (firsts_of table) v
        (filter_passes (starts_at table 2) (range_with_len 0 (length table))) c);
    closed = λ u v m edge. closed.pulled u v m
        (sym (edge_is table u v (omega (arith, edge_from (rows_of table) u v edge, count_is table))
        (omega (arith, are_edges table u v edge, count_is table)))
        ∙ list_any-from_Contains nat_eq_equiv v (row_at (rows_of table) u) edge);
  }) q m;
}

-- the first places are those of entries
pub firsts_within : (table : List Need) → All (λ k. k < length (rows_of table)) (firsts_of table)
firsts_within table k d lt =
    let at = filter_passes (starts_at table 2) (range_with_len 0 (length table)) k d lt in
    omega (arith, starts_within table 2 (get_or (firsts_of table) k d) at, count_is table)
