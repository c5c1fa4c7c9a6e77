-- Each good need has a way, and its ways are entries.
use Rattle.std.proofs.Common.{◌≡◌, ℕ, zero, suc, ◌<◌, Bool, true, false, not, ◌&&◌, List, [], ◌∷◌, length, map, get_or, cond, Option, Some, None, refl, sym, ap, ◌∙◌, inl, inr, subst, arith}
use Rattle.std.specs.Prelude.{Contains, position, slice_get}
use Rattle.std.specs.Option.{option_map_or, option_to_list}
use Rattle.std.specs.List.{list_any, flat_map, range_with_len}
use Rattle.std.proofs.lemmas.List.{length-map}
use Rattle.std.proofs.lemmas.List.Elements.{Contains-append_cases}
use Rattle.std.proofs.lemmas.Option.{slice_get_read}
use Rattle.nt_bytes.specs.Folding.{folds_same}
use Rattle.start_model.specs.Order.{first_names}
use Rattle.wait_cycles.proofs.InverseLemmas.{none_in}
use Rattle.wait_cycles.proofs.MetLemmas.{first_in, later_in, any_gives, in_range, range_in}
use Rattle.wait_cycles.proofs.CycleLemmas.{filter_in, filter_out, in_cons}
use Rattle.service_check.specs.declared.stage.Stage.{Stage}
use Rattle.service_check.specs.declared.stage.Staged.{Staged}
use Rattle.service_check.specs.Stages.{is_upto}
use Rattle.service_check.specs.Needs.{names_of, group_upto, groups_upto, is_good, name_ways, is_way, ways_in, group_ways, ways_at, good_ways}
use Rattle.service_check.proofs.TableLemmas.{count_names}
use Rattle.service_check.proofs.PlaceLemmas.{place_below}
use Rattle.check_laws.specs.Laws.{GoodNeedsAreProper}

pub flat_from : {X Y : Type 0} (f : X → List Y) (xs : List X) (v : Y) → Contains (flat_map f xs) v
    → (x : X) × Contains xs x × Contains (f x) v
flat_from f [] v i = absurd (none_in v i)
flat_from f (x ∷ xs) v i = elim (Contains-append_cases (f x) (flat_map f xs) v i) [
  | inl here ↦ (x, first_in x xs, here)
  | inr there ↦ (let r = flat_from f xs v there in (r.0, later_in x xs r.0 r.1, r.2))
]

map_from : {X Y : Type 0} (f : X → List Y) (xs : List X) (u : ℕ) (v : Y) → Contains (get_or (map f xs) u []) v
    → (x : X) × Contains (f x) v
map_from f [] u v i = absurd (none_in v i)
map_from f (x ∷ xs) zero v i = (x, i)
map_from f (x ∷ xs) (suc u) v i = map_from f xs u v i

pub only_in : {X : Type 0} (x y : X) → Contains (x ∷ []) y → x ≡ y
only_in x y i = elim (in_cons x [] y i) [
  | inl e ↦ e
  | inr none ↦ absurd (none_in y none)
]

-- a need that has a way, and whose ways are below n
record IsNeed (n : ℕ) (ways : List ℕ) : Type 0 where
  some : (q : ℕ) × Contains ways q
  within : (q : ℕ) → Contains ways q → q < n

-- the entry at a place
read_at : (rows : List Staged) (r : Staged) → Contains rows r → (k : ℕ) × (k < length rows) × (slice_get rows k ≡ Some r)
read_at rows r (k, lt, e) = (k, lt, slice_get_read rows (length rows) k r refl lt (sym e))

member_way : (own : Stage) (g g' : List ℕ) (r : Staged) → Contains (group_upto own r) g' → folds_same g g' ≡ true
    → is_way own g r ≡ true
member_way own g g' r i h = by (is_upto own r.stage) r.entry.group i
  where
    by : (b : Bool) (o : Option (List ℕ)) → Contains (cond b (option_to_list o) []) g'
        → (b && option_map_or (folds_same g) o false) ≡ true
    by false o i = absurd (none_in g' i)
    by true None i = absurd (none_in g' i)
    by true (Some n) i = ap (folds_same g) (only_in n g' i) ∙ h

some_member : (rows : List Staged) (own : Stage) (g : List ℕ) → list_any (folds_same g) (groups_upto own rows) ≡ true
    → (q : ℕ) × Contains (ways_in rows own g) q
some_member rows own g h =
    let a = any_gives (folds_same g) (groups_upto own rows) h in
    let r = flat_from (group_upto own) rows a.0 a.1 in
    let at = read_at rows r.0 r.1 in (
      at.0,
      filter_in (λ p. option_map_or (is_way own g) (slice_get rows p) false) (range_with_len 0 (length rows)) at.0
          (in_range (length rows) at.0 at.1)
          (ap (λ (o : Option Staged). option_map_or (is_way own g) o false) at.2 ∙ member_way own g a.0 r.0 r.2 a.2),
    )

group_need : (rows : List Staged) (own : Stage) (g : List ℕ) (ways : List ℕ) → Contains (group_ways rows own g) ways
    → IsNeed (length rows) ways
group_need rows own g ways i = by (list_any (folds_same g) (groups_upto own rows)) refl i
  where
    by : (b : Bool) → list_any (folds_same g) (groups_upto own rows) ≡ b
        → Contains (cond (not b) [] (ways_in rows own g ∷ [])) ways → IsNeed (length rows) ways
    by false e i = absurd (none_in ways i)
    by true e i =
        subst (IsNeed (length rows)) (only_in (ways_in rows own g) ways i) (record {
          some = some_member rows own g e;
          within = λ q j. range_in (length rows) q
              (filter_out (λ p. option_map_or (is_way own g) (slice_get rows p) false) (range_with_len 0 (length rows)) q j).0;
        })

name_need : (rows : List Staged) (own : Stage) (need : List ℕ) (ways : List ℕ) → Contains (name_ways rows own need) ways
    → IsNeed (length rows) ways
name_need rows own need ways i = by (is_good rows own need) (position (folds_same need) (names_of rows)) refl i
  where
    by : (good : Bool) (o : Option ℕ) → position (folds_same need) (names_of rows) ≡ o
        → Contains (cond good (map (λ p. p ∷ []) (option_to_list o)) []) ways → IsNeed (length rows) ways
    by false o e i = absurd (none_in ways i)
    by true None e i = absurd (none_in ways i)
    by true (Some p) e i =
        subst (IsNeed (length rows)) (only_in (p ∷ []) ways i) (record {
          some = (p, first_in p []);
          within = λ q j. omega (arith, only_in p q j, place_below (names_of rows) need p e, count_names rows);
        })

entry_need : (rows : List Staged) (r : Staged) (ways : List ℕ) → Contains (good_ways rows r) ways → IsNeed (length rows) ways
entry_need rows r ways i = by r.stage i
  where
    by : (o : Option Stage) → Contains (option_map_or (ways_at rows r) o []) ways → IsNeed (length rows) ways
    by None i = absurd (none_in ways i)
    by (Some own) i =
        elim (Contains-append_cases (flat_map (name_ways rows own) (first_names r.entry.services))
        (flat_map (group_ways rows own) (first_names r.entry.groups)) ways i) [
          | inl name ↦ (let x = flat_from (name_ways rows own) (first_names r.entry.services) ways name in
              name_need rows own x.0 ways x.2)
          | inr group ↦ (let x = flat_from (group_ways rows own) (first_names r.entry.groups) ways group in
              group_need rows own x.0 ways x.2)
        ]

pub good_proper : GoodNeedsAreProper
good_proper rows = record {
  some = λ p ways i. (let x = map_from (good_ways rows) rows p ways i in (entry_need rows x.0 ways x.1).some);
  within = λ p ways q i j.
      (let x = map_from (good_ways rows) rows p ways i in
      omega (arith, (entry_need rows x.0 ways x.1).within q j, length-map rows (good_ways rows)));
}
