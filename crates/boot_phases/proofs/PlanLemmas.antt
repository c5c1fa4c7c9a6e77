-- The steps of a plan, in sequence.
use Rattle.std.proofs.Common.{◌≡◌, ℕ, Bool, List, sym, ap, ◌∙◌, subst}
use Rattle.std.specs.Prelude.{slice_get, Result, IfOk}
use Rattle.std.specs.declared.alloc.AllocError.{AllocError}
use Rattle.std.specs.Option.{option_map}
use Rattle.std.specs.List.{filter_map}
use Rattle.hive_model.specs.Tree.{Tree}
use Rattle.start_model.specs.Entries.{Entry, Phase, entries_of, taken_of}
use Rattle.start_model.specs.Order.{GroupOrder, Rank, orders_of, tags_count_in, rank_of, ordered_of, plan_of}
use Rattle.boot_phases.specs.boot_phases.Apart.{StandApart}
use Rattle.boot_phases.specs.boot_phases.Lists.{Lists, lists_of, ranks_among, plan_among}
use Rattle.boot_phases.proofs.ApartLemmas.{plan_apart}

abbrev of_both : List Entry → List GroupOrder → Lists
of_both table orders = record { entries = table; orders = orders }

abbrev ranks_at : List Entry → List GroupOrder → Bool → List ℕ → List Rank
ranks_at table orders counts places = filter_map (λ p. option_map (rank_of orders counts p) (slice_get table p)) places

pub ranked : (phase : Phase) (tried : List (List ℕ)) (table : List Entry) (orders : List GroupOrder)
    (counts : Bool) (places : List ℕ) (ranks ordered : List Rank)
    → counts ≡ tags_count_in phase → places ≡ taken_of table phase tried
    → ranks ≡ filter_map (λ p. option_map (rank_of orders counts p) (slice_get table p)) places
    → ordered ≡ ordered_of ranks
    → ordered ≡ ordered_of (ranks_among (of_both table orders) phase tried)
ranked phase tried table orders counts places ranks ordered b p k i =
    i ∙ ap ordered_of (k ∙ (λ j. ranks_at table orders (b j) (p j)))

same_lists : (set : Tree) (table : List Entry) (orders : List GroupOrder) → table ≡ entries_of set
    → orders ≡ orders_of set
    → of_both table orders ≡ lists_of set
same_lists set table orders t o = λ j. of_both (t j) (o j)

-- what was read of a set, in the order of a phase, is the plan of the set
pub planned : (set : Tree) (phase : Phase) (tried : List (List ℕ)) (table : List Entry) (orders : List GroupOrder)
    (ordered sorted : List Rank) (r : Result (List Entry) AllocError) → table ≡ entries_of set → orders ≡ orders_of set
    → ordered ≡ ordered_of (ranks_among (of_both table orders) phase tried) → sorted ≡ ordered
    → IfOk r (λ e. e ≡ filter_map (λ k. slice_get table k.place) sorted) → IfOk r (λ p. p ≡ plan_of set phase tried)
planned set phase tried table orders ordered sorted r t o i s h =
    let whole : filter_map (λ k. slice_get table k.place) sorted ≡ plan_among (of_both table orders) phase tried =
    ap (filter_map (λ k. slice_get table k.place)) (s ∙ i) in
    let P : List Entry → Type 0 = λ w. IfOk r (λ e. e ≡ w) in
    subst P (whole ∙ ap (λ (l : Lists). plan_among l phase tried) (same_lists set table orders t o)) h

-- the ranks of a plan are of different places
pub planned_apart : (set : Tree) (phase : Phase) (tried : List (List ℕ)) (table : List Entry) (orders : List GroupOrder)
    (ordered sorted : List Rank) → table ≡ entries_of set → orders ≡ orders_of set
    → ordered ≡ ordered_of (ranks_among (of_both table orders) phase tried) → sorted ≡ ordered → StandApart sorted
planned_apart set phase tried table orders ordered sorted t o i s =
    let ranked : sorted ≡ ordered_of (ranks_among (lists_of set) phase tried) =
    s ∙ i ∙ ap (λ (l : Lists). ordered_of (ranks_among l phase tried)) (same_lists set table orders t o) in
    subst StandApart (sym ranked) (plan_apart set phase tried)

-- the same of copies
pub copied : (phase : Phase) (tried : List (List ℕ)) (table : List Entry) (orders : List GroupOrder)
    (ordered sorted : List Rank) (r : Result (List Entry) AllocError)
    → ordered ≡ ordered_of (ranks_among (of_both table orders) phase tried) → sorted ≡ ordered
    → IfOk r (λ e. e ≡ filter_map (λ k. slice_get table k.place) sorted)
    → IfOk r (λ p. p ≡ plan_among (of_both table orders) phase tried)
copied phase tried table orders ordered sorted r i s h =
    let P : List Entry → Type 0 = λ w. IfOk r (λ e. e ≡ w) in
    subst P (ap (filter_map (λ k. slice_get table k.place)) (s ∙ i)) h
