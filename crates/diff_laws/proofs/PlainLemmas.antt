-- Entries, needs and groups with their names folded, and without what a quiet boot doesn't look at.
use Rattle.std.proofs.Common.{◌≡◌, ℕ, Bool, true, false, not, ◌&&◌, ◌||◌, nat_eq, List, [], ◌∷◌, length, map, filter, Option, Some, None, refl, ap, ◌∙◌}
use Rattle.std.specs.Prelude.{slice_get, position, unwrap_or}
use Rattle.std.specs.Option.{option_map, option_map_or}
use Rattle.std.specs.List.{list_any, list_all, filter_map, cons_option, range_with_len}
use Rattle.std.proofs.lemmas.List.{length-map}
use Rattle.std.proofs.lemmas.Option.{slice_get-map}
use Rattle.nt_bytes.specs.Folding.{folded, folds_same}
use Rattle.dependencies.proofs.MeetLemmas.{folded_first}
use Rattle.boot_phases.proofs.FirstLemmas.{position-map}
use Rattle.start_model.specs.Demand.{Need, starts_at, pulls, is_due, is_closed, member, all_sets, is_taken, automatic_of}
use Rattle.start_model.specs.Entries.{Entry}
use Rattle.start_model.specs.Order.{GroupOrder, first_place, group_place, tag_place_in, tag_place, rank_of}
use Rattle.start_model.specs.Ready.{Label, has_name, has_group, is_ready}
use Rattle.diff_laws.proofs.FoldLemmas.{both_folded, any_folded}

abbrev pub plain : Entry → Entry
plain e = record {
  name = folded e.name;
  start = e.start;
  kind = e.kind;
  control = 0;
  group = option_map folded e.group;
  tag = e.tag;
  services = map folded e.services;
  groups = map folded e.groups;
}

abbrev pub plain_need : Need → Need
plain_need n = record {
  name = folded n.name;
  start = n.start;
  group = option_map folded n.group;
  services = map folded n.services;
  groups = map folded n.groups;
}

abbrev pub plain_order : GroupOrder → GroupOrder
plain_order o = record { name = folded o.name; tags = o.tags }

-- what is changed after a choice may be changed in it
pub filter_map_on : {X Y Z : Type 0} (f : Y → Z) (h : X → Option Y) (xs : List X)
    → filter_map (λ x. option_map f (h x)) xs ≡ map f (filter_map h xs)
filter_map_on f h [] = refl
filter_map_on {X} {Y} {Z} f h (x ∷ xs) = by (h x) (filter_map_on f h xs)
  where
    by : (o : Option Y) → filter_map (λ y. option_map f (h y)) xs ≡ map f (filter_map h xs)
        → cons_option (option_map f o) (filter_map (λ y. option_map f (h y)) xs)
        ≡ map f (cons_option o (filter_map h xs))
    by None rest = rest
    by (Some y) rest = λ i. f y ∷ rest i

-- ---- needs

starts_plain : (t : List Need) (start p : ℕ) → starts_at (map plain_need t) start p ≡ starts_at t start p
starts_plain t start p =
    ap (λ (o : Option Need). option_map_or (λ (n : Need). nat_eq n.start start) o false) (slice_get-map plain_need t p)
    ∙ by (slice_get t p)
  where
    by : (o : Option Need)
        → option_map_or (λ (n : Need). nat_eq n.start start) (option_map plain_need o) false
        ≡ option_map_or (λ (n : Need). nat_eq n.start start) o false
    by None = refl
    by (Some n) = refl

abbrev pulls_in : Option Need → Option Need → Bool
pulls_in a b =
    option_map_or
    (λ (a : Need). option_map_or (λ (b : Need). nat_eq b.start 3 && list_any (folds_same b.name) a.services) b false) a
    false

pulls_plain : (t : List Need) (p q : ℕ) → pulls (map plain_need t) p q ≡ pulls t p q
pulls_plain t p q =
    (λ i. pulls_in (slice_get-map plain_need t p i) (slice_get-map plain_need t q i))
    ∙ by (slice_get t p) (slice_get t q)
  where
    by : (a b : Option Need) → pulls_in (option_map plain_need a) (option_map plain_need b) ≡ pulls_in a b
    by None b = refl
    by (Some a) None = refl
    by (Some a) (Some b) = ap (λ (c : Bool). nat_eq b.start 3 && c) (any_folded b.name a.services)

due_plain : (t : List Need) (set : ℕ → Bool) (q : ℕ) → is_due (map plain_need t) set q ≡ is_due t set q
due_plain t set q =
    λ i. starts_plain t 2 q i
    || list_any (λ p. set p && pulls_plain t p q i) (range_with_len 0 (length-map t plain_need i))

closed_plain : (t : List Need) (set : ℕ → Bool) → is_closed (map plain_need t) set ≡ is_closed t set
closed_plain t set =
    λ i. list_all (λ q. not (due_plain t set q i) || set q) (range_with_len 0 (length-map t plain_need i))

taken_plain : (t : List Need) (q : ℕ) → is_taken (map plain_need t) q ≡ is_taken t q
unfolding is_taken
taken_plain t q =
    λ i. list_all (λ s. not (closed_plain t (member s) i) || member s q) (all_sets (length-map t plain_need i))

pub automatic_plain : (t : List Need) → automatic_of (map plain_need t) ≡ automatic_of t
automatic_plain t = λ i. filter (λ q. taken_plain t q i) (range_with_len 0 (length-map t plain_need i))

-- ---- who is ready

name_plain : (st : List Label) (n : List ℕ) → has_name st (folded n) ≡ has_name st n
name_plain st n = λ i. list_any (λ (s : Label). folded_first n s.0 i) st

group_one : (n : List ℕ) (o : Option (List ℕ))
    → option_map_or (folds_same (folded n)) o false ≡ option_map_or (folds_same n) o false
group_one n None = refl
group_one n (Some g) = folded_first n g

member_plain : (st : List Label) (n : List ℕ) → has_group st (folded n) ≡ has_group st n
member_plain st n = λ i. list_any (λ (s : Label). group_one n s.1 i) st

names_plain : (st : List Label) (ns : List (List ℕ))
    → list_all (has_name st) (map folded ns) ≡ list_all (has_name st) ns
names_plain st [] = refl
names_plain st (n ∷ ns) = λ i. name_plain st n i && names_plain st ns i

members_plain : (st : List Label) (ns : List (List ℕ))
    → list_all (has_group st) (map folded ns) ≡ list_all (has_group st) ns
members_plain st [] = refl
members_plain st (n ∷ ns) = λ i. member_plain st n i && members_plain st ns i

pub ready_plain : (st : List Label) (n : Need) → is_ready st (plain_need n) ≡ is_ready st n
ready_plain st n = λ i. names_plain st n.services i && members_plain st n.groups i

-- ---- ranks

group_plain : (os : List GroupOrder) (g : Option (List ℕ))
    → group_place (map plain_order os) (option_map folded g) ≡ group_place os g
group_plain os None = length-map os plain_order
group_plain os (Some name) =
    (λ i. unwrap_or (position-map (λ (o : GroupOrder). folds_same (folded name) o.name) plain_order os i)
    (length-map os plain_order i))
    ∙ (λ i. unwrap_or (position (λ (o : GroupOrder). both_folded name o.name i) os) (length os))

abbrev tag_at : Option ℕ → Option GroupOrder → ℕ
tag_at tag o =
    option_map_or
    (λ (o : GroupOrder). option_map_or (λ t. first_place (λ x. nat_eq x t) o.tags) tag (length o.tags)) o 0

tag_in_plain : (os : List GroupOrder) (place : ℕ) (tag : Option ℕ)
    → tag_place_in (map plain_order os) place tag ≡ tag_place_in os place tag
tag_in_plain os place tag = ap (tag_at tag) (slice_get-map plain_order os place) ∙ by (slice_get os place)
  where
    by : (o : Option GroupOrder) → tag_at tag (option_map plain_order o) ≡ tag_at tag o
    by None = refl
    by (Some o) = refl

tag_plain : (os : List GroupOrder) (g : Option (List ℕ)) (tag : Option ℕ) (counts : Bool)
    → tag_place (map plain_order os) (option_map folded g) tag counts ≡ tag_place os g tag counts
tag_plain os g tag true =
    ap (λ (p : ℕ). tag_place_in (map plain_order os) p tag) (group_plain os g) ∙ tag_in_plain os (group_place os g) tag
tag_plain os g tag false = refl

pub rank_plain : (os : List GroupOrder) (counts : Bool) (p : ℕ) (e : Entry)
    → rank_of (map plain_order os) counts p (plain e) ≡ rank_of os counts p e
rank_plain os counts p e =
    λ i. record { group = group_plain os e.group i; tag = tag_plain os e.group e.tag counts i; place = p }
