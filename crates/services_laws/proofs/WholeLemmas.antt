-- Which lines filters and sorts leave, and how many there are.
use Rattle.std.proofs.Common.{◌≡◌, ◌<◌, ℕ, ◌+◌, Bool, true, false, ◌&&◌, cond, List, [], ◌∷◌, ◌++◌, length, map, Option, Some, None, refl, ap, arith}
use Rattle.std.specs.Prelude.{◌↔◌, ◌==◌, nat_lt, count_by, codes}
use Rattle.std.specs.List.{filter}
use Rattle.std.specs.Option.{option_map_or, unwrap_or}
use Rattle.std.specs.Ordering.{nat_cmp, is_lt}
use Rattle.std.proofs.lemmas.Bool.{false≢true, eqb-true, eq-eqb}
use Rattle.std.proofs.lemmas.Grind.{common_steps}
use Rattle.std.proofs.lemmas.Bool.Decides.{nat_tests}
use Rattle.std.proofs.lemmas.List.Elements.{filter_agree}
use Rattle.std.proofs.lemmas.List.Sums.{sum_by-cons}
use Rattle.hive_model.specs.Tree.{Tree, find_dword}
use Rattle.answer_lines.specs.declared.why_lines.lines.EntryKind.{EntryKind}
use Rattle.answer_lines.specs.declared.why_lines.lines.EntryKind.TheVariants as kinds
use Rattle.service_list.specs.declared.entry.ServiceEntry.{ServiceEntry}
use Rattle.service_list.specs.declared.field.Field.{Field}
use Rattle.service_list.specs.declared.field.Field.TheVariants as fields
use Rattle.service_list.specs.declared.listing.ServiceLine.TheVariants.{Entry, Listed}
use Rattle.service_list.specs.Counts.{is_driver, is_service, is_other, is_number, is_beyond, is_none, starts_as, has_beyond, has_none, counts_of}
use Rattle.service_list.specs.Entries.{entry_of}
use Rattle.service_list.specs.Kinds.{is_driver_kind, is_service_kind, is_other_kind, is_kind, kind_of, is_listed, is_shown, is_chosen}
use Rattle.service_list.specs.Sorting.{comes_before, arranged}
use Rattle.service_list.specs.Turns.{turns_of}
use Rattle.service_list.proofs.SortLemmas.{sorted_orders, sorted_keeps, sorted_moves, orders_by}
use Rattle.services_laws.specs.Said.{LinesSayThese}
use Rattle.services_laws.specs.Whole.{everything, NoFilterShowsAll, FiltersTakeAway, StartPasses, KindPasses, LinesAreShown, SortMoves, SortOrders, NewerIsBefore, EarlierIsBefore, SortKeeps, KindsAddUp, StartsAddUp}

-- ---- filters

and_true : (b : Bool) → (b && true) ≡ b
and_true true = refl
and_true false = refl

pub no_filter_shows_all : NoFilterShowsAll
no_filter_shows_all set keys =
    ap (λ (es : List ServiceEntry). map Entry es ++ Listed (counts_of (count_by is_listed keys) es) ∷ [])
    (ap (map (entry_of (turns_of set)))
    (filter_agree (is_chosen everything) is_listed (λ (t : Tree). and_true (is_listed t)) keys))

filter_twice : {X : Type 0} (p q : X → Bool) (xs : List X) → filter (λ x. p x && q x) xs ≡ filter q (filter p xs)
filter_twice p q [] = refl
filter_twice {X} p q (x ∷ xs) = by_case (p x) (filter_twice p q xs)
  where
    by_case : (b : Bool) → filter (λ y. p y && q y) xs ≡ filter q (filter p xs)
        → cond (b && q x) (x ∷ filter (λ y. p y && q y) xs) (filter (λ y. p y && q y) xs) ≡ filter q (cond b (x ∷ filter p xs) (filter p xs))
    by_case true deep = ap (λ (l : List X). cond (q x) (x ∷ l) l) deep
    by_case false deep = deep

pub filters_take_away : FiltersTakeAway
filters_take_away turns s keys = ap (map (entry_of turns)) (filter_twice is_listed (is_shown s) keys)

pub lines_are_shown : LinesAreShown
lines_are_shown s set keys =
    ap (λ (es : List ServiceEntry). map Entry (arranged s.sort es) ++ Listed (counts_of (count_by is_listed keys) (arranged s.sort es)) ∷ [])
    (filters_take_away (turns_of set) s keys)

pub start_passes : StartPasses
start_passes start t = by_case (find_dword (codes "Start") t)
  where
    by_case : (o : Option ℕ) → (option_map_or (λ n. n == start) o false ≡ true) ↔ (o ≡ Some start)
    by_case None = (λ e. absurd (false≢true e), λ e. absurd cc)
    by_case (Some n) = (
      λ e. ap Some (eqb-true n start e),
      λ e. eq-eqb n start (ap (λ (o : Option ℕ). unwrap_or o 0) e),
    )

pub kind_passes : KindPasses
kind_passes kind t = by_case kind (kind_of t)
  where
    by_case : (asked its : EntryKind) → (is_kind asked its ≡ true) ↔ (its ≡ asked)
    by_case kinds.Driver kinds.Driver = (λ e. refl, λ e. refl)
    by_case kinds.Driver kinds.Service = (λ e. absurd (false≢true e), λ e. absurd cc)
    by_case kinds.Driver kinds.Other = (λ e. absurd (false≢true e), λ e. absurd cc)
    by_case kinds.Service kinds.Driver = (λ e. absurd (false≢true e), λ e. absurd cc)
    by_case kinds.Service kinds.Service = (λ e. refl, λ e. refl)
    by_case kinds.Service kinds.Other = (λ e. absurd (false≢true e), λ e. absurd cc)
    by_case kinds.Other kinds.Driver = (λ e. absurd (false≢true e), λ e. absurd cc)
    by_case kinds.Other kinds.Service = (λ e. absurd (false≢true e), λ e. absurd cc)
    by_case kinds.Other kinds.Other = (λ e. refl, λ e. refl)

-- ---- what a line says

pub lines_say_these : LinesSayThese
unfolding turns_of
lines_say_these set t = record {
  kind = refl;
  start = refl;
  service_type = refl;
  control = refl;
  tag = refl;
  place = refl;
  written = refl;
  marks = refl;
}

-- ---- sorts

below : (a b : ℕ) → (is_lt (nat_cmp a b) ≡ true) ↔ (a < b)
below a b = (λ e. grind (arith, common_steps), λ less. grind (arith, common_steps))

pub newer_is_before : NewerIsBefore
newer_is_before a b = below b.written a.written

pub earlier_is_before : EarlierIsBefore
earlier_is_before a b = below a.turn b.turn

pub sort_moves : SortMoves
sort_moves by entries = sorted_moves (comes_before by) (orders_by by) entries

pub sort_orders : SortOrders
sort_orders by entries = sorted_orders (comes_before by) (orders_by by) entries

pub sort_keeps : SortKeeps
sort_keeps by entries = sorted_keeps (comes_before by) (orders_by by) entries

-- ---- counts

abbrev one : Bool → ℕ
one b = cond b 1 0

one_kind : (k : EntryKind) → one (is_driver_kind k) + one (is_service_kind k) + one (is_other_kind k) ≡ 1
one_kind kinds.Driver = refl
one_kind kinds.Service = refl
one_kind kinds.Other = refl

kinds_of : (es : List ServiceEntry) → count_by is_driver es + count_by is_service es + count_by is_other es ≡ length es
kinds_of [] = refl
kinds_of (e ∷ es) = omega (
  arith,
  kinds_of es,
  one_kind e.kind,
  sum_by-cons (λ x. one (is_driver x)) e es,
  sum_by-cons (λ x. one (is_service x)) e es,
  sum_by-cons (λ x. one (is_other x)) e es,
)

pub kinds_add_up : KindsAddUp
unfolding counts_of
kinds_add_up of entries = kinds_of entries

one_number : (m : ℕ) → one (m == 0) + one (m == 1) + one (m == 2) + one (m == 3) + one (m == 4) + one (nat_lt 4 m) ≡ 1
one_number m = grind (arith, nat_tests)

one_start : (f : Field)
    → one (is_number 0 f) + one (is_number 1 f) + one (is_number 2 f) + one (is_number 3 f) + one (is_number 4 f) + one (is_beyond f)
    + one (is_none f) ≡ 1
one_start fields.Missing = refl
one_start (fields.Number m) = omega (arith, one_number m)
one_start (fields.Text text) = refl
one_start (fields.Other kind form) = refl

starts_of : (es : List ServiceEntry)
    → count_by (starts_as 0) es + count_by (starts_as 1) es + count_by (starts_as 2) es + count_by (starts_as 3) es
    + count_by (starts_as 4) es + count_by has_beyond es + count_by has_none es ≡ length es
starts_of [] = refl
starts_of (e ∷ es) = omega (
  arith,
  starts_of es,
  one_start e.numbers.start,
  sum_by-cons (λ x. one (starts_as 0 x)) e es,
  sum_by-cons (λ x. one (starts_as 1 x)) e es,
  sum_by-cons (λ x. one (starts_as 2 x)) e es,
  sum_by-cons (λ x. one (starts_as 3 x)) e es,
  sum_by-cons (λ x. one (starts_as 4 x)) e es,
  sum_by-cons (λ x. one (has_beyond x)) e es,
  sum_by-cons (λ x. one (has_none x)) e es,
)

pub starts_add_up : StartsAddUp
unfolding counts_of
starts_add_up of entries = starts_of entries
