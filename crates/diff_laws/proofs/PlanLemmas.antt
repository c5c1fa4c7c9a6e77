-- What a phase takes of entries and groups is the same, folded, of the plain ones.
use Rattle.std.proofs.Common.{◌≡◌, ℕ, Bool, false, not, ◌&&◌, ◌||◌, nat_eq, List, length, map, filter, Option, Some, None, refl, sym, ap, ◌∙◌}
use Rattle.std.specs.Prelude.{slice_get}
use Rattle.std.specs.Option.{option_map, option_map_or}
use Rattle.std.specs.List.{list_any, filter_map, range_with_len}
use Rattle.std.proofs.lemmas.List.{length-map}
use Rattle.std.proofs.lemmas.Option.{slice_get-map}
use Rattle.hive_model.specs.Tree.{Tree}
use Rattle.start_model.specs.Demand.{automatic_of}
use Rattle.start_model.specs.Entries.{Entry, Phase, Boot, System, Automatic, Done, is_driver, is_service, was_tried, is_driver_of, is_open, places_of, need_of, needs_at, automatic_among, taken_of, entries_of}
use Rattle.start_model.specs.Order.{GroupOrder, Rank, rank_of, tags_count_in, ordered_of, orders_of, plan_of}
use Rattle.diff_laws.proofs.FoldLemmas.{folded_second}
use Rattle.diff_laws.proofs.PlainLemmas.{plain, plain_need, plain_order, filter_map_on, automatic_plain, rank_plain}

tried_plain : (tried : List (List ℕ)) (e : Entry) → was_tried tried (plain e) ≡ was_tried tried e
tried_plain tried e = λ i. list_any (λ name. folded_second name e.name i) tried

driver_plain : (start : ℕ) (tried : List (List ℕ)) (e : Entry)
    → is_driver_of start tried (plain e) ≡ is_driver_of start tried e
driver_plain start tried e =
    ap (λ (b : Bool). (is_driver e.kind && nat_eq e.start start) && not b) (tried_plain tried e)

open_plain : (tried : List (List ℕ)) (e : Entry) → is_open tried (plain e) ≡ is_open tried e
open_plain tried e = ap (λ (b : Bool). (is_driver e.kind || is_service e.kind) && not b) (tried_plain tried e)

places_plain : (test : Entry → Bool) → ((e : Entry) → test (plain e) ≡ test e) → (es : List Entry)
    → places_of test (map plain es) ≡ places_of test es
places_plain test same es =
    (λ i. filter (λ p. option_map_or test (slice_get-map plain es p i) false)
    (range_with_len 0 (length-map es plain i)))
    ∙ (λ i. filter (λ p. by (slice_get es p) i) (range_with_len 0 (length es)))
  where
    by : (o : Option Entry) → option_map_or test (option_map plain o) false ≡ option_map_or test o false
    by None = refl
    by (Some e) = same e

needs_plain : (es : List Entry) (places : List ℕ) → needs_at (map plain es) places ≡ map plain_need (needs_at es places)
needs_plain es places =
    (λ i. filter_map (λ p. option_map need_of (slice_get-map plain es p i)) places)
    ∙ (λ i. filter_map (λ p. by (slice_get es p) i) places)
    ∙ filter_map_on plain_need (λ p. option_map need_of (slice_get es p)) places
  where
    by : (o : Option Entry) → option_map need_of (option_map plain o) ≡ option_map plain_need (option_map need_of o)
    by None = refl
    by (Some e) = refl

among_plain : (es : List Entry) (places : List ℕ) → automatic_among (map plain es) places ≡ automatic_among es places
among_plain es places =
    ap (filter_map (slice_get places)) (ap automatic_of (needs_plain es places) ∙ automatic_plain (needs_at es places))

taken_plain : (es : List Entry) (phase : Phase) (tried : List (List ℕ))
    → taken_of (map plain es) phase tried ≡ taken_of es phase tried
taken_plain es Boot tried = places_plain (is_driver_of 0 tried) (driver_plain 0 tried) es
taken_plain es System tried = places_plain (is_driver_of 1 tried) (driver_plain 1 tried) es
taken_plain es Automatic tried =
    ap (automatic_among (map plain es)) (places_plain (is_open tried) (open_plain tried) es)
    ∙ among_plain es (places_of (is_open tried) es)
taken_plain es Done tried = refl

-- ---- plans

-- the ranks of what a phase takes of these entries and groups
abbrev ranks_by : List Entry → List GroupOrder → Phase → List (List ℕ) → List Rank
ranks_by es os phase tried =
    filter_map (λ p. option_map (rank_of os (tags_count_in phase) p) (slice_get es p)) (taken_of es phase tried)

abbrev plan_by : List Entry → List GroupOrder → Phase → List (List ℕ) → List Entry
plan_by es os phase tried = filter_map (λ (r : Rank). slice_get es r.place) (ordered_of (ranks_by es os phase tried))

ranks_plain : (es : List Entry) (os : List GroupOrder) (phase : Phase) (tried : List (List ℕ))
    → ranks_by (map plain es) (map plain_order os) phase tried ≡ ranks_by es os phase tried
ranks_plain es os phase tried =
    (λ i. filter_map (λ p. option_map (rank_of (map plain_order os) (tags_count_in phase) p)
    (slice_get-map plain es p i))
    (taken_plain es phase tried i))
    ∙ (λ i. filter_map (λ p. by p (slice_get es p) i) (taken_of es phase tried))
  where
    by : (p : ℕ) (o : Option Entry)
        → option_map (rank_of (map plain_order os) (tags_count_in phase) p) (option_map plain o)
        ≡ option_map (rank_of os (tags_count_in phase) p) o
    by p None = refl
    by p (Some e) = ap Some (rank_plain os (tags_count_in phase) p e)

plan_plain : (es : List Entry) (os : List GroupOrder) (phase : Phase) (tried : List (List ℕ))
    → plan_by (map plain es) (map plain_order os) phase tried ≡ map plain (plan_by es os phase tried)
plan_plain es os phase tried =
    (λ i. filter_map (λ (r : Rank). slice_get-map plain es r.place i) (ordered_of (ranks_plain es os phase tried i)))
    ∙ filter_map_on plain (λ (r : Rank). slice_get es r.place) (ordered_of (ranks_by es os phase tried))

-- what a phase takes of a set, plain
abbrev pub plain_plan : Tree → Phase → List (List ℕ) → List Entry
plain_plan set phase tried = map plain (plan_of set phase tried)

-- entries and groups that are alike have alike plans
pub plans_alike : (first second : Tree) → map plain (entries_of first) ≡ map plain (entries_of second)
    → map plain_order (orders_of first) ≡ map plain_order (orders_of second) → (phase : Phase) (tried : List (List ℕ))
    → plain_plan first phase tried ≡ plain_plan second phase tried
plans_alike first second entries orders phase tried =
    sym (plan_plain (entries_of first) (orders_of first) phase tried)
    ∙ (λ i. plan_by (entries i) (orders i) phase tried)
    ∙ plan_plain (entries_of second) (orders_of second) phase tried
