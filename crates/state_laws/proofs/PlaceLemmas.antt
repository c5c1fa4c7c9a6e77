-- Numbers of entries, the members of groups, and where a need leads.
use Rattle.std.proofs.Common.{◌≡◌, ◌<◌, ◌≤◌, ℕ, zero, suc, ◌+◌, ◌-◌, nat_lt, Bool, true, false, cond, List, [], ◌∷◌, length, take, get_or, slice_get, Option, Some, None, refl, sym, ap, ◌∙◌, inl, inr, arith}
use Rattle.std.specs.Prelude.{Contains}
use Rattle.std.specs.Option.{option_map, option_and_then, option_or}
use Rattle.std.specs.List.{filter_map, cons_option, range_with_len}
use Rattle.std.proofs.lemmas.Bool.Decides.{nat_tests}
use Rattle.std.proofs.lemmas.Option.{same_Some, slice_get_within, get_or_from_slice_get}
use Rattle.nt_bytes.specs.Folding.{folds_same}
use Rattle.hive_model.specs.Tree.{Tree}
use Rattle.nt_names.specs.name_places.Places.{places_named}
use Rattle.start_model.specs.Entries.{Entry, entries_of}
use Rattle.wait_cycles.proofs.InverseLemmas.{none_in}
use Rattle.wait_cycles.proofs.CycleLemmas.{in_cons, filter_in, filter_out}
use Rattle.wait_cycles.proofs.MetLemmas.{first_in, later_in, in_range}
use Rattle.service_control.proofs.LeastLemmas.{from}
use Rattle.check_laws.proofs.TakenLemmas.{mapped_on}
use Rattle.why_needs.specs.declared.why_state.views.PhaseView.{PhaseView}
use Rattle.why_needs.specs.why_state.States.{place_in, placed_below}
use Rattle.why_needs.specs.declared.why_needs.members.GroupMembers.{GroupMembers}
use Rattle.why_needs.specs.why_needs.Members.{grouped_name, members_of, members_in}
use Rattle.why_lacks.specs.why_items.Vertices.{entry_count, places_from}

-- ---- numbers

-- a number has the places that it is made of
pub places_number : (at : ℕ) (views : List PhaseView) (number k p : ℕ) → places_from at views number ≡ Some (k, p)
    → (d : ℕ) × (k ≡ at + d) × (number ≡ entry_count (take d views) + p)
places_number at [] number k p is = absurd cc
places_number at (v ∷ views) number k p is =
    by (nat_lt number (length v.plan)) refl is (places_number (at + 1) views (number - length v.plan) k p)
  where
    by : (b : Bool) → nat_lt number (length v.plan) ≡ b
        → cond b (Some (at, number)) (places_from (at + 1) views (number - length v.plan)) ≡ Some (k, p)
        → (places_from (at + 1) views (number - length v.plan) ≡ Some (k, p)
        → (d : ℕ) × (k ≡ (at + 1) + d) × (number - length v.plan ≡ entry_count (take d views) + p))
        → (d : ℕ) × (k ≡ at + d) × (number ≡ entry_count (take d (v ∷ views)) + p)
    by true test is deep =
        let one : ◌≡◌ {A = ℕ × ℕ} (at, number) (k, p) = same_Some (at, number) (k, p) is in
        (0, omega (arith, ap (λ (x : ℕ × ℕ). x.0) one), omega (arith, ap (λ (x : ℕ × ℕ). x.1) one))
    by false test is deep =
        let d = deep is in
        let beyond : length v.plan ≤ number = grind (arith, nat_tests, test) in
        (suc d.0, omega (arith, d.1), omega (arith, d.2, beyond))

-- the number of an entry is one of them
pub below_count : (views : List PhaseView) (k p : ℕ) (v : PhaseView) → slice_get views k ≡ Some v → p < length v.plan
    → entry_count (take k views) + p < entry_count views
below_count [] k p v is lt = absurd cc
below_count (w ∷ views) zero p v is lt = omega (arith, lt, ap (λ (u : PhaseView). length u.plan) (same_Some w v is))
below_count (w ∷ views) (suc k) p v is lt = omega (arith, below_count views k p v is lt)

pub placed_within : (views : List PhaseView) (m : ℕ) (name : List ℕ) (place : ℕ × ℕ)
    → placed_below views m name ≡ Some place → place.0 < m
unfolding placed_below
placed_within views zero name place is = absurd cc
placed_within views (suc m) name place is = by (slice_get views m) is (placed_within views m name place)
  where
    by_place : (o : Option ℕ) → option_or (option_map (λ p. (m, p)) o) (placed_below views m name) ≡ Some place
        → (placed_below views m name ≡ Some place → place.0 < m) → place.0 < suc m
    by_place None is deep = omega (arith, deep is)
    by_place (Some p) is deep =
        let same : ◌≡◌ {A = ℕ × ℕ} (m, p) place = same_Some (m, p) place is in
        omega (arith, ap (λ (x : ℕ × ℕ). x.0) same)

    by : (o : Option PhaseView)
        → option_or (option_and_then (λ (v : PhaseView). option_map (λ p. (m, p)) (place_in v.names name)) o)
        (placed_below views m name) ≡ Some place
        → (placed_below views m name ≡ Some place → place.0 < m) → place.0 < suc m
    by None is deep = omega (arith, deep is)
    by (Some v) is deep = by_place (place_in v.names name) is deep

-- ---- lists

filtered_le : {X Y : Type 0} (h : X → Option Y) (xs : List X) → length (filter_map h xs) ≤ length xs
filtered_le h [] = omega arith
filtered_le h (x ∷ xs) = by (h x) (filtered_le h xs)
  where
    by : (o : Option _) → length (filter_map h xs) ≤ length xs → length (cons_option o (filter_map h xs)) ≤ suc (length xs)
    by None le = omega (arith, le)
    by (Some y) le = omega (arith, le)

-- where as many are given as there are items, each item gives one
pub all_given : {X Y : Type 0} (h : X → Option Y) (xs : List X) → length (filter_map h xs) ≡ length xs → (x : X) → Contains xs x
    → (y : Y) × (h x ≡ Some y)
all_given h [] same x c = absurd (none_in x c)
all_given {X} {Y} h (z ∷ xs) same x c = by (h z) refl same (all_given h xs)
  where
    by : (o : Option Y) → h z ≡ o → length (cons_option o (filter_map h xs)) ≡ suc (length xs)
        → (length (filter_map h xs) ≡ length xs → (x : X) → Contains xs x → (y : Y) × (h x ≡ Some y))
        → (y : Y) × (h x ≡ Some y)
    by None is same deep = absurd (omega (arith, same, filtered_le h xs))
    by (Some y) is same deep = elim (in_cons z xs x c) [
      | inl one ↦ (y, ap h (sym one) ∙ is)
      | inr rest ↦ deep (omega (arith, same)) x rest
    ]

-- ---- members

abbrev own_group : Entry → Option (List ℕ)
own_group e = e.group

-- an entry of a group, in a list
pub record IsMemberIn (es : List Entry) (group name : List ℕ) : Type 0 where
  pub entry : Entry
  pub there : Contains es entry
  pub named : entry.name ≡ name
  pub own : List ℕ
  pub has : entry.group ≡ Some own
  pub same : folds_same group own ≡ true

record HasGroup (es : List Entry) (k : ℕ) (name : List ℕ) : Type 0 where
  entry : Entry
  there : Contains es entry
  named : entry.name ≡ name
  own : List ℕ
  has : entry.group ≡ Some own
  at : slice_get (filter_map own_group es) k ≡ Some own

name_by : (e : Entry) (o : Option (List ℕ)) → own_group e ≡ o → grouped_name e ≡ option_map (λ (group : List ℕ). e.name) o
name_by e o is = ap (option_map (λ (group : List ℕ). e.name)) is

has_group : (es : List Entry) (k : ℕ) (name : List ℕ) → slice_get (filter_map grouped_name es) k ≡ Some name → HasGroup es k name
has_group [] k name is = absurd cc
has_group (e ∷ es) k name is = by (own_group e) refl k is (has_group es)
  where
    further : (k j : ℕ) (o : Option (List ℕ)) → own_group e ≡ o
        → slice_get (cons_option o (filter_map own_group es)) j ≡ slice_get (filter_map own_group es) k → HasGroup es k name
        → HasGroup (e ∷ es) j name
    further k j o is on g = record {
      entry = g.entry;
      there = later_in e es g.entry g.there;
      named = g.named;
      own = g.own;
      has = g.has;
      at = ap (λ (o : Option (List ℕ)). slice_get (cons_option o (filter_map own_group es)) j) is ∙ on ∙ g.at;
    }

    by : (o : Option (List ℕ)) → own_group e ≡ o → (k : ℕ)
        → slice_get (cons_option (grouped_name e) (filter_map grouped_name es)) k ≡ Some name
        → ((k : ℕ) (name : List ℕ) → slice_get (filter_map grouped_name es) k ≡ Some name → HasGroup es k name)
        → HasGroup (e ∷ es) k name
    by None is k at deep =
        further k k None is refl (deep k name
        (ap (λ (o : Option (List ℕ)). slice_get (cons_option o (filter_map grouped_name es)) k) (sym (name_by e None is)) ∙ at))
    by (Some g) is zero at deep = record {
      entry = e;
      there = first_in e es;
      named = same_Some e.name name
          (ap (λ (o : Option (List ℕ)). slice_get (cons_option o (filter_map grouped_name es)) 0) (sym (name_by e (Some g) is)) ∙ at);
      own = g;
      has = is;
      at = ap (λ (o : Option (List ℕ)). slice_get (cons_option o (filter_map own_group es)) 0) is;
    }
    by (Some g) is (suc k) at deep =
        further k (suc k) (Some g) is refl (deep k name
        (ap (λ (o : Option (List ℕ)). slice_get (cons_option o (filter_map grouped_name es)) (suc k)) (sym (name_by e (Some g) is)) ∙ at))

-- each that has a group is there
group_there : (es : List Entry) (e : Entry) (own : List ℕ) → Contains es e → e.group ≡ Some own
    → (k : ℕ) × (slice_get (filter_map grouped_name es) k ≡ Some e.name) × (slice_get (filter_map own_group es) k ≡ Some own)
group_there [] e own c has = absurd (none_in e c)
group_there (x ∷ es) e own c has = elim (in_cons x es e c) [
  | inl one ↦ (let mine : own_group x ≡ Some own = ap own_group one ∙ has in (
    0,
    ap (λ (o : Option (List ℕ)). slice_get (cons_option o (filter_map grouped_name es)) 0) (name_by x (Some own) mine)
        ∙ ap (λ (y : Entry). Some y.name) one,
    ap (λ (o : Option (List ℕ)). slice_get (cons_option o (filter_map own_group es)) 0) mine,
  ))
  | inr rest ↦ by (own_group x) refl (group_there es e own rest has)
]
  where
    by : (o : Option (List ℕ)) → own_group x ≡ o
        → (k : ℕ) × (slice_get (filter_map grouped_name es) k ≡ Some e.name) × (slice_get (filter_map own_group es) k ≡ Some own)
        → (k : ℕ) × (slice_get (filter_map grouped_name (x ∷ es)) k ≡ Some e.name)
        × (slice_get (filter_map own_group (x ∷ es)) k ≡ Some own)
    by None is f = (
      f.0,
      ap (λ (o : Option (List ℕ)). slice_get (cons_option o (filter_map grouped_name es)) f.0) (name_by x None is) ∙ f.1,
      ap (λ (o : Option (List ℕ)). slice_get (cons_option o (filter_map own_group es)) f.0) is ∙ f.2,
    )
    by (Some g) is f = (
      suc f.0,
      ap (λ (o : Option (List ℕ)). slice_get (cons_option o (filter_map grouped_name es)) (suc f.0)) (name_by x (Some g) is) ∙ f.1,
      ap (λ (o : Option (List ℕ)). slice_get (cons_option o (filter_map own_group es)) (suc f.0)) is ∙ f.2,
    )

pub member_from : (set : Tree) (group name : List ℕ) → Contains (members_in (members_of set) group) name
    → IsMemberIn (entries_of set) group name
member_from set group name c =
    let m : GroupMembers = members_of set in
    let f = from (slice_get m.names) (places_named group m.groups) name c in
    let t = filter_out (λ k. folds_same group (get_or m.groups k [])) (range_with_len 0 (length m.groups)) f.item f.there in
    let g = has_group (entries_of set) f.item name f.is in
    record {
      entry = g.entry;
      there = g.there;
      named = g.named;
      own = g.own;
      has = g.has;
      same = ap (folds_same group) (sym (get_or_from_slice_get m.groups f.item g.own [] g.at)) ∙ t.1;
    }

pub member_there : (set : Tree) (group : List ℕ) (e : Entry) (own : List ℕ) → Contains (entries_of set) e → e.group ≡ Some own
    → folds_same group own ≡ true → Contains (members_in (members_of set) group) e.name
member_there set group e own c has same =
    let m : GroupMembers = members_of set in
    let k = group_there (entries_of set) e own c has in
    let test : folds_same group (get_or m.groups k.0 []) ≡ true =
    ap (folds_same group) (get_or_from_slice_get m.groups k.0 own [] k.2) ∙ same in
    mapped_on (slice_get m.names) (places_named group m.groups) k.0 e.name
    (filter_in (λ k. folds_same group (get_or m.groups k [])) (range_with_len 0 (length m.groups)) k.0
    (in_range (length m.groups) k.0 (slice_get_within m.groups k.0 own k.2)) test) k.1
