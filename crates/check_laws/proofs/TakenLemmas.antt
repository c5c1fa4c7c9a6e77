-- Which entries a phase takes of a set.
use Rattle.std.proofs.Common.{◌≡◌, ℕ, zero, suc, Bool, true, false, ◌&&◌, ◌||◌, nat_eq, cond, List, [], ◌∷◌, length, map, Option, Some, None, refl, sym, ap, ◌∙◌, ◌⊎◌, inl, inr, subst, arith}
use Rattle.std.specs.Prelude.{Contains, slice_get}
use Rattle.std.specs.Option.{option_map, option_map_or}
use Rattle.std.specs.List.{list_any, filter_map, cons_option, range_with_len}
use Rattle.std.proofs.lemmas.Bool.{false≢true, and_parts, and_from, or_left, or_right}
use Rattle.std.proofs.lemmas.Option.{slice_get_within, slice_get_read, get_or_from_slice_get, same_Some}
use Rattle.nt_bytes.specs.Folding.{folds_same}
use Rattle.hive_model.specs.Tree.{Tree}
use Rattle.start_model.specs.Demand.{Need, IsClosed, is_taken, automatic_of}
use Rattle.start_model.specs.Entries.{Entry, Phase, Automatic, entries_of, is_open, places_of, need_of, needs_at, taken_of}
use Rattle.start_model.specs.Order.{GroupOrder, Rank, is_before, placed, ordered_of, orders_of, rank_of, ranks_of, tags_count_in, plan_of}
use Rattle.dependencies.proofs.PulledLemmas.{is_taken-closed, is_taken-least_of_all}
use Rattle.wait_cycles.proofs.InverseLemmas.{none_in}
use Rattle.wait_cycles.proofs.MetLemmas.{first_in, later_in, any_from, any_gives, in_range}
use Rattle.wait_cycles.proofs.CycleLemmas.{in_cons, filter_in, filter_out}
use Rattle.service_control.proofs.LeanLemmas.{folds_itself, mapped_from, mapped_to}
use Rattle.service_control.proofs.LeastLemmas.{from}

-- ---- what a test leaves of a list

skip : {Y : Type 0} (o : Option Y) (ys : List Y) (y : Y) → Contains ys y → Contains (cons_option o ys) y
skip None ys y c = c
skip (Some z) ys y c = later_in z ys y c

pub mapped_on : {X Y : Type 0} (h : X → Option Y) (xs : List X) (x : X) (y : Y) → Contains xs x → h x ≡ Some y
    → Contains (filter_map h xs) y
mapped_on h [] x y c is = absurd (none_in x c)
mapped_on {X} {Y} h (z ∷ xs) x y (zero, lt, e) is =
    subst (λ (o : Option Y). Contains (cons_option o (filter_map h xs)) y) (sym (ap h e ∙ is)) (first_in y (filter_map h xs))
mapped_on h (z ∷ xs) x y (suc k, lt, e) is =
    skip (h z) (filter_map h xs) y (mapped_on h xs x y (k, omega (arith, lt), e) is)

pub item_here : {X : Type 0} (xs : List X) (p : ℕ) (x : X) → slice_get xs p ≡ Some x → Contains xs x
item_here xs p x is = (p, slice_get_within xs p x is, get_or_from_slice_get xs p x x is)

pub item_place : {X : Type 0} (xs : List X) (x : X) → Contains xs x → (p : ℕ) × (slice_get xs p ≡ Some x)
item_place xs x (k, lt, e) = (k, slice_get_read xs (length xs) k x refl lt (sym e))

-- ---- the order of a phase

placed_first : (r : Rank) (rs : List Rank) → Contains (placed r rs) r
placed_first r [] = first_in r []
placed_first r (s ∷ ss) = elim (is_before r s) as (λ b. Contains (cond b (r ∷ s ∷ ss) (s ∷ placed r ss)) r)
    [ true ↦ first_in r (s ∷ ss) | false ↦ later_in s (placed r ss) r (placed_first r ss) ]

placed_other : (r : Rank) (rs : List Rank) (x : Rank) → Contains rs x → Contains (placed r rs) x
placed_other r [] x c = absurd (none_in x c)
placed_other r (s ∷ ss) x c = elim (is_before r s) as (λ b. Contains (cond b (r ∷ s ∷ ss) (s ∷ placed r ss)) x) [
  | true ↦ later_in r (s ∷ ss) x c
  | false ↦ elim (in_cons s ss x c) [
    | inl e ↦ subst (λ (y : Rank). Contains (s ∷ placed r ss) y) e (first_in s (placed r ss))
    | inr i ↦ later_in s (placed r ss) x (placed_other r ss x i)
  ]
]

pub ordered_in : (rs : List Rank) (x : Rank) → Contains rs x → Contains (ordered_of rs) x
ordered_in [] x c = absurd (none_in x c)
ordered_in (r ∷ rs) x c = elim (in_cons r rs x c) [
  | inl e ↦ subst (λ (y : Rank). Contains (placed r (ordered_of rs)) y) e (placed_first r (ordered_of rs))
  | inr i ↦ placed_other r (ordered_of rs) x (ordered_in rs x i)
]

placed_from : (r : Rank) (rs : List Rank) (x : Rank) → Contains (placed r rs) x → (r ≡ x) ⊎ Contains rs x
placed_from r [] x c = in_cons r [] x c
placed_from r (s ∷ ss) x c = elim (is_before r s) as (λ b. Contains (cond b (r ∷ s ∷ ss) (s ∷ placed r ss)) x → (r ≡ x) ⊎ Contains (s ∷ ss) x) [
  | true ↦ (λ c. in_cons r (s ∷ ss) x c)
  | false ↦ (λ c. elim (in_cons s (placed r ss) x c) [
    | inl e ↦ inr (subst (λ (y : Rank). Contains (s ∷ ss) y) e (first_in s ss))
    | inr i ↦ elim (placed_from r ss x i) [ inl e ↦ inl e | inr j ↦ inr (later_in s ss x j) ]
  ])
] c

pub ordered_from : (rs : List Rank) (x : Rank) → Contains (ordered_of rs) x → Contains rs x
ordered_from [] x c = c
ordered_from (r ∷ rs) x c = elim (placed_from r (ordered_of rs) x c) [
  | inl e ↦ subst (λ (y : Rank). Contains (r ∷ rs) y) e (first_in r rs)
  | inr i ↦ later_in r rs x (ordered_from rs x i)
]

-- ---- a plan has what the phase takes

-- the phase takes the place of the entry
pub record Takes (entries : List Entry) (phase : Phase) (tried : List (List ℕ)) (e : Entry) : Type 0 where
  pub place : ℕ
  pub taken : Contains (taken_of entries phase tried) place
  pub here : slice_get entries place ≡ Some e

place_of : (orders : List GroupOrder) (counts : Bool) (p : ℕ) (o : Option Entry) (r : Rank)
    → option_map (rank_of orders counts p) o ≡ Some r → p ≡ r.place
place_of orders counts p None r h = absurd cc
place_of orders counts p (Some e) r h = ap (λ (o : Option Rank). option_map_or (λ (r : Rank). r.place) o 0) h

pub plan_from : (set : Tree) (phase : Phase) (tried : List (List ℕ)) (e : Entry) → Contains (plan_of set phase tried) e
    → Takes (entries_of set) phase tried e
plan_from set phase tried e c =
    let entries : List Entry = entries_of set in
    let r = from (λ (r : Rank). slice_get (entries_of set) r.place) (ordered_of (ranks_of set phase tried)) e c in
    let k = from (λ p. option_map (rank_of (orders_of set) (tags_count_in phase) p) (slice_get (entries_of set) p))
    (taken_of (entries_of set) phase tried) r.item (ordered_from (ranks_of set phase tried) r.item r.there) in
    record {
      place = k.item;
      taken = k.there;
      here = ap (slice_get (entries_of set))
          (place_of (orders_of set) (tags_count_in phase) k.item (slice_get (entries_of set) k.item) r.item k.is) ∙ r.is;
    }

pub plan_in : (set : Tree) (phase : Phase) (tried : List (List ℕ)) (e : Entry) → Takes (entries_of set) phase tried e
    → Contains (plan_of set phase tried) e
plan_in set phase tried e t =
    let r : Rank = rank_of (orders_of set) (tags_count_in phase) t.place e in
    mapped_on (λ (r : Rank). slice_get (entries_of set) r.place) (ordered_of (ranks_of set phase tried)) r e
    (ordered_in (ranks_of set phase tried) r
    (mapped_on (λ p. option_map (rank_of (orders_of set) (tags_count_in phase) p) (slice_get (entries_of set) p))
    (taken_of (entries_of set) phase tried) t.place r t.taken
    (ap (option_map (rank_of (orders_of set) (tags_count_in phase) t.place)) t.here))) t.here

-- ---- places that pass a test

pub place_passes : (test : Entry → Bool) (entries : List Entry) (p : ℕ) (e : Entry) → Contains (places_of test entries) p
    → slice_get entries p ≡ Some e → test e ≡ true
place_passes test entries p e c is =
    sym (ap (λ (o : Option Entry). option_map_or test o false) is)
    ∙ (filter_out (λ p. option_map_or test (slice_get entries p) false) (range_with_len 0 (length entries)) p c).1

pub passing_place : (test : Entry → Bool) (entries : List Entry) (p : ℕ) (e : Entry) → slice_get entries p ≡ Some e
    → test e ≡ true → Contains (places_of test entries) p
passing_place test entries p e is h =
    filter_in (λ p. option_map_or test (slice_get entries p) false) (range_with_len 0 (length entries)) p
    (in_range (length entries) p (slice_get_within entries p e is))
    (ap (λ (o : Option Entry). option_map_or test o false) is ∙ h)

there_by : (test : Entry → Bool) (entries : List Entry) (q : ℕ) (o : Option Entry) → slice_get entries q ≡ o
    → option_map_or test o false ≡ true → (f : Entry) × (slice_get entries q ≡ Some f)
there_by test entries q None is h = absurd (false≢true h)
there_by test entries q (Some f) is h = (f, is)

-- an entry is at each of them
abbrev pub Stands : List Entry → List ℕ → Type 0
Stands entries places = (q : ℕ) → Contains places q → (f : Entry) × (slice_get entries q ≡ Some f)

pub places_stand : (test : Entry → Bool) (entries : List Entry) → Stands entries (places_of test entries)
places_stand test entries q c =
    there_by test entries q (slice_get entries q) refl
    (filter_out (λ p. option_map_or test (slice_get entries p) false) (range_with_len 0 (length entries)) q c).1

pub need_at : (entries : List Entry) (places : List ℕ) (i p : ℕ) (e : Entry) → Stands entries places
    → slice_get places i ≡ Some p → slice_get entries p ≡ Some e → slice_get (needs_at entries places) i ≡ Some (need_of e)
need_at entries [] i p e h at is = absurd cc
need_at entries (q ∷ qs) zero p e h at is =
    ap (λ (o : Option Entry). slice_get (cons_option (option_map need_of o) (needs_at entries qs)) 0)
    (ap (slice_get entries) (same_Some q p at) ∙ is)
need_at entries (q ∷ qs) (suc i) p e h at is =
    ap (λ (o : Option Entry). slice_get (cons_option (option_map need_of o) (needs_at entries qs)) (suc i))
    (h q (first_in q qs)).1
    ∙ need_at entries qs i p e (λ r c. h r (later_in q qs r c)) at is

-- the entry whose need is at an index
pub record IsNeedAt (entries : List Entry) (places : List ℕ) (i : ℕ) (n : Need) : Type 0 where
  pub place : ℕ
  pub entry : Entry
  pub at : slice_get places i ≡ Some place
  pub here : slice_get entries place ≡ Some entry
  pub need : need_of entry ≡ n

pub need_from : (entries : List Entry) (places : List ℕ) (i : ℕ) (n : Need) → Stands entries places
    → slice_get (needs_at entries places) i ≡ Some n → IsNeedAt entries places i n
need_from entries [] i n h is = absurd cc
need_from entries (q ∷ qs) zero n h is =
    let f = h q (first_in q qs) in
    record {
      place = q;
      entry = f.0;
      at = refl;
      here = f.1;
      need = same_Some (need_of f.0) n
          (sym (ap (λ (o : Option Entry). slice_get (cons_option (option_map need_of o) (needs_at entries qs)) 0) f.1) ∙ is);
    }
need_from entries (q ∷ qs) (suc i) n h is =
    let f = h q (first_in q qs) in
    let r = need_from entries qs i n (λ r c. h r (later_in q qs r c))
    (sym (ap (λ (o : Option Entry). slice_get (cons_option (option_map need_of o) (needs_at entries qs)) (suc i)) f.1) ∙ is) in
    record { place = r.place; entry = r.entry; at = r.at; here = r.here; need = r.need }

-- ---- what the automatic phase takes

abbrev pub open_places : List Entry → List (List ℕ) → List ℕ
open_places entries tried = places_of (is_open tried) entries

abbrev pub open_table : List Entry → List (List ℕ) → List Need
open_table entries tried = needs_at entries (places_of (is_open tried) entries)

pub record IsAuto (entries : List Entry) (tried : List (List ℕ)) (e : Entry) : Type 0 where
  pub index : ℕ
  pub place : ℕ
  pub taken : is_taken (open_table entries tried) index ≡ true
  pub at : slice_get (open_places entries tried) index ≡ Some place
  pub here : slice_get entries place ≡ Some e

pub auto_from : (entries : List Entry) (tried : List (List ℕ)) (e : Entry) → Takes entries Automatic tried e
    → IsAuto entries tried e
auto_from entries tried e t =
    let k = from (slice_get (open_places entries tried)) (automatic_of (open_table entries tried)) t.place t.taken in
    record {
      index = k.item;
      place = t.place;
      taken = (filter_out (is_taken (open_table entries tried)) (range_with_len 0 (length (open_table entries tried))) k.item k.there).1;
      at = k.is;
      here = t.here;
    }

pub auto_need : (entries : List Entry) (tried : List (List ℕ)) (e : Entry) (a : IsAuto entries tried e)
    → slice_get (open_table entries tried) a.index ≡ Some (need_of e)
auto_need entries tried e a =
    need_at entries (open_places entries tried) a.index a.place e (places_stand (is_open tried) entries) a.at a.here

pub auto_taken : (entries : List Entry) (tried : List (List ℕ)) (e : Entry) → IsAuto entries tried e
    → Takes entries Automatic tried e
auto_taken entries tried e a = record {
  place = a.place;
  taken = mapped_on (slice_get (open_places entries tried)) (automatic_of (open_table entries tried)) a.index a.place
      (filter_in (is_taken (open_table entries tried)) (range_with_len 0 (length (open_table entries tried))) a.index
      (in_range (length (open_table entries tried)) a.index
      (slice_get_within (open_table entries tried) a.index (need_of e) (auto_need entries tried e a))) a.taken) a.at;
  here = a.here;
}

-- the Start is 2 or 3
abbrev pub is_late : ℕ → Bool
is_late start = nat_eq start 2 || nat_eq start 3

-- entries of one name are one entry
abbrev pub AreApart : List Entry → Type 0
AreApart entries = (e f : Entry) → Contains entries e → Contains entries f → folds_same e.name f.name ≡ true → e ≡ f

-- each open entry of Start 2 or 3 is an open one of the others
abbrev pub AreOpenToo : List Entry → List (List ℕ) → List Entry → List (List ℕ) → Type 0
AreOpenToo es tried es' tried' =
    (e : Entry) → Contains es e → is_open tried e ≡ true → is_late e.start ≡ true
    → Contains es' e × (is_open tried' e ≡ true)

module _ (es : List Entry) (tried : List (List ℕ)) (es' : List Entry) (tried' : List (List ℕ))
    (into : AreOpenToo es tried es' tried') (apart : AreApart es') where
  -- an open entry of the others is at an index
  index_of : (e : Entry) → Contains es' e → is_open tried' e ≡ true
      → (i : ℕ) × (p : ℕ) × (slice_get (open_places es' tried') i ≡ Some p) × (slice_get es' p ≡ Some e)
  index_of e c h =
      let p = item_place es' e c in
      let i = item_place (open_places es' tried') p.0 (passing_place (is_open tried') es' p.0 e p.1 h) in
      (i.0, p.0, i.1, p.1)

  -- the names of what is taken of them
  abbrev others : List (List ℕ)
  others = map (λ (n : Need). n.name)
      (filter_map (slice_get (open_table es' tried')) (automatic_of (open_table es' tried')))

  name_in : (e : Entry) → IsAuto es' tried' e → list_any (folds_same e.name) others ≡ true
  name_in e a =
      any_from (folds_same e.name) others e.name
      (mapped_to (λ (n : Need). n.name) (filter_map (slice_get (open_table es' tried')) (automatic_of (open_table es' tried')))
      (need_of e)
      (mapped_on (slice_get (open_table es' tried')) (automatic_of (open_table es' tried')) a.index (need_of e)
      (filter_in (is_taken (open_table es' tried')) (range_with_len 0 (length (open_table es' tried'))) a.index
      (in_range (length (open_table es' tried')) a.index
      (slice_get_within (open_table es' tried') a.index (need_of e) (auto_need es' tried' e a))) a.taken)
      (auto_need es' tried' e a))) (folds_itself e.name)

  name_out : (e : Entry) → Contains es' e → list_any (folds_same e.name) others ≡ true → IsAuto es' tried' e
  name_out e c h =
      let x = any_gives (folds_same e.name) others h in
      let n = mapped_from (λ (n : Need). n.name)
      (filter_map (slice_get (open_table es' tried')) (automatic_of (open_table es' tried'))) x.0 x.1 in
      let i = from (slice_get (open_table es' tried')) (automatic_of (open_table es' tried')) n.item n.there in
      let f = need_from es' (open_places es' tried') i.item n.item (places_stand (is_open tried') es') i.is in
      let same : e ≡ f.entry = apart e f.entry c (item_here es' f.place f.entry f.here)
      (ap (folds_same e.name) (ap (λ (m : Need). m.name) f.need ∙ n.is) ∙ x.2) in
      record {
        index = i.item;
        place = f.place;
        taken = (filter_out (is_taken (open_table es' tried')) (range_with_len 0 (length (open_table es' tried'))) i.item i.there).1;
        at = f.at;
        here = f.here ∙ ap (λ (y : Entry). Some y) (sym same);
      }

  abbrev in_set : Need → Bool
  in_set n = is_late n.start && list_any (folds_same n.name) others

  abbrev set : ℕ → Bool
  set q = option_map_or in_set (slice_get (open_table es tried) q) false

  set_at : (q : ℕ) (e : Entry) → slice_get (open_table es tried) q ≡ Some (need_of e) → is_late e.start ≡ true
      → IsAuto es' tried' e → set q ≡ true
  set_at q e is late a =
      ap (λ (o : Option Need). option_map_or in_set o false) is
      ∙ and_from (is_late e.start) (list_any (folds_same e.name) others) late (name_in e a)

  -- the entry at a place of the set
  record IsSetAt (q : ℕ) : Type 0 where
    which : (n : Need) × IsNeedAt es (open_places es tried) q n
    auto : IsAuto es' tried' which.1.entry
    need : slice_get (open_table es tried) q ≡ Some (need_of which.1.entry)

  entry_of_set : (q : ℕ) (n : Need) → slice_get (open_table es tried) q ≡ Some n → in_set n ≡ true → IsSetAt q
  entry_of_set q n is h =
      let f = need_from es (open_places es tried) q n (places_stand (is_open tried) es) is in
      let parts = and_parts (is_late n.start) (list_any (folds_same n.name) others) h in
      let late : is_late f.entry.start ≡ true = ap (λ (m : Need). is_late m.start) f.need ∙ parts.0 in
      let open' : is_open tried f.entry ≡ true =
      place_passes (is_open tried) es f.place f.entry (item_here (open_places es tried) q f.place f.at) f.here in
      let there = into f.entry (item_here es f.place f.entry f.here) open' late in
      record {
        which = (n, f);
        auto = name_out f.entry there.0 (ap (λ (m : Need). list_any (folds_same m.name) others) f.need ∙ parts.1);
        need = is ∙ ap (λ (m : Need). Some m) (sym f.need);
      }

  set_from : (q : ℕ) (o : Option Need) → slice_get (open_table es tried) q ≡ o → option_map_or in_set o false ≡ true
      → IsSetAt q
  set_from q None is h = absurd (false≢true h)
  set_from q (Some n) is h = entry_of_set q n is h

  starts_by : (q : ℕ) (o : Option Need) → slice_get (open_table es tried) q ≡ o
      → option_map_or (λ (n : Need). nat_eq n.start 2) o false ≡ true → set q ≡ true
  starts_by q None is h = absurd (false≢true h)
  starts_by q (Some n) is h =
      let f = need_from es (open_places es tried) q n (places_stand (is_open tried) es) is in
      let two : nat_eq f.entry.start 2 ≡ true = ap (λ (m : Need). nat_eq m.start 2) f.need ∙ h in
      let late : is_late f.entry.start ≡ true = or_left (nat_eq f.entry.start 2) (nat_eq f.entry.start 3) two in
      let open' : is_open tried f.entry ≡ true =
      place_passes (is_open tried) es f.place f.entry (item_here (open_places es tried) q f.place f.at) f.here in
      let there = into f.entry (item_here es f.place f.entry f.here) open' late in
      let i = index_of f.entry there.0 there.1 in
      let need' : slice_get (open_table es' tried') i.0 ≡ Some (need_of f.entry) =
      need_at es' (open_places es' tried') i.0 i.1 f.entry (places_stand (is_open tried') es') i.2 i.3 in
      let a : IsAuto es' tried' f.entry = record {
        index = i.0;
        place = i.1;
        taken = (is_taken-closed (open_table es' tried')).starts i.0
            (ap (λ (o : Option Need). option_map_or (λ (n : Need). nat_eq n.start 2) o false) need' ∙ two);
        at = i.2;
        here = i.3;
      } in
      set_at q f.entry (is ∙ ap (λ (m : Need). Some m) (sym f.need)) late a

  abbrev pulled : Option Need → Option Need → Bool
  pulled a b =
      option_map_or (λ (a : Need). option_map_or (λ (b : Need). nat_eq b.start 3 && list_any (folds_same b.name) a.services) b false) a false

  pulled_by : (p q : ℕ) (o : Option Need) → IsSetAt p → slice_get (open_table es tried) q ≡ o
      → pulled (slice_get (open_table es tried) p) o ≡ true → set q ≡ true
  pulled_by p q None s is h =
      absurd (false≢true (sym (ap (λ (a : Option Need). pulled a None) s.need) ∙ h))
  pulled_by p q (Some n) s is h =
      let a = s.which.1.entry in
      let f = need_from es (open_places es tried) q n (places_stand (is_open tried) es) is in
      let on : pulled (Some (need_of a)) (Some (need_of f.entry)) ≡ true =
      (λ j. pulled (sym s.need j) (Some (f.need j))) ∙ h in
      let three : nat_eq f.entry.start 3 ≡ true =
      (and_parts (nat_eq f.entry.start 3) (list_any (folds_same f.entry.name) a.services) on).0 in
      let late : is_late f.entry.start ≡ true = or_right (nat_eq f.entry.start 2) (nat_eq f.entry.start 3) three in
      let open' : is_open tried f.entry ≡ true =
      place_passes (is_open tried) es f.place f.entry (item_here (open_places es tried) q f.place f.at) f.here in
      let there = into f.entry (item_here es f.place f.entry f.here) open' late in
      let i = index_of f.entry there.0 there.1 in
      let need' : slice_get (open_table es' tried') i.0 ≡ Some (need_of f.entry) =
      need_at es' (open_places es' tried') i.0 i.1 f.entry (places_stand (is_open tried') es') i.2 i.3 in
      let mine : slice_get (open_table es' tried') s.auto.index ≡ Some (need_of a) = auto_need es' tried' a s.auto in
      let b : IsAuto es' tried' f.entry = record {
        index = i.0;
        place = i.1;
        taken = (is_taken-closed (open_table es' tried')).pulled s.auto.index i.0 s.auto.taken
            ((λ j. pulled (mine j) (need' j)) ∙ on);
        at = i.2;
        here = i.3;
      } in
      set_at q f.entry (is ∙ ap (λ (m : Need). Some m) (sym f.need)) late b

  set_closed : IsClosed (open_table es tried) set
  set_closed = record {
    starts = λ q h. starts_by q (slice_get (open_table es tried) q) refl h;
    pulled = λ p q m h.
        pulled_by p q (slice_get (open_table es tried) q) (set_from p (slice_get (open_table es tried) p) refl m) refl h;
  }

  -- what the automatic phase takes of the first ones it takes of the others
  pub auto_into : (e : Entry) → IsAuto es tried e → IsAuto es' tried' e
  auto_into e a =
      let need = auto_need es tried e a in
      let s = set_from a.index (slice_get (open_table es tried) a.index) refl
      (is_taken-least_of_all (open_table es tried) set set_closed a.index
      (slice_get_within (open_table es tried) a.index (need_of e) need) a.taken) in
      let f = s.which.1 in
      let place : f.place ≡ a.place = same_Some f.place a.place (sym f.at ∙ a.at) in
      let same : f.entry ≡ e = same_Some f.entry e (sym f.here ∙ ap (slice_get es) place ∙ a.here) in
      subst (IsAuto es' tried') same s.auto

  -- and it has Start 2 or 3
  pub auto_late : (e : Entry) → IsAuto es tried e → is_late e.start ≡ true
  auto_late e a =
      let need = auto_need es tried e a in
      (and_parts (is_late e.start) (list_any (folds_same e.name) others)
      (sym (ap (λ (o : Option Need). option_map_or in_set o false) need)
      ∙ is_taken-least_of_all (open_table es tried) set set_closed a.index
      (slice_get_within (open_table es tried) a.index (need_of e) need) a.taken)).0
