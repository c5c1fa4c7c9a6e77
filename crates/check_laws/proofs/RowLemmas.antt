-- What the entries of a set, with their stages, are to one another.
use Rattle.std.proofs.Common.{◌≡◌, ℕ, zero, suc, ◌<◌, Bool, true, false, not, cond, List, [], ◌∷◌, length, map, get_or, Option, Some, None, refl, sym, ap, ◌∙◌, inl, inr, subst, arith}
use Rattle.std.specs.Prelude.{Contains, slice_get, position, filter, option_and_then}
use Rattle.std.specs.Option.{is_some, option_map_or, option_to_list}
use Rattle.std.specs.List.{list_any, flat_map, range_with_len}
use Rattle.std.proofs.lemmas.Bool.{false≢true, cases_Bool, and_parts, and_from}
use Rattle.std.proofs.lemmas.List.{get_or-map}
use Rattle.std.proofs.lemmas.List.Elements.{Contains-append_left, Contains-append_right}
use Rattle.std.proofs.lemmas.List.Quantifiers.{position-Some}
use Rattle.std.proofs.lemmas.Option.{slice_get_within, get_or_from_slice_get}
use Rattle.nt_bytes.specs.Folding.{folds_same}
use Rattle.nt_names.proofs.FoldLemmas.{alike}
use Rattle.start_model.specs.Order.{first_names}
use Rattle.boot_phases.proofs.TriedLemmas.{some_place}
use Rattle.wait_cycles.specs.Waits.{needs_at}
use Rattle.wait_cycles.proofs.InverseLemmas.{none_in}
use Rattle.wait_cycles.proofs.MetLemmas.{first_in, later_in, any_from, any_gives, in_range}
use Rattle.wait_cycles.proofs.CycleLemmas.{in_cons, filter_in, filter_out}
use Rattle.service_check.specs.declared.stage.Stage.{Stage}
use Rattle.service_check.specs.declared.stage.Stage.TheVariants.{Boot, System, Automatic, Demand}
use Rattle.service_check.specs.declared.stage.Staged.{Staged}
use Rattle.service_check.specs.Stages.{is_upto}
use Rattle.service_check.specs.Needs.{names_of, named, group_upto, stage_fault, is_good, is_without, name_ways, is_way, ways_in, group_ways, ways_at, good_ways, waits_of}
use Rattle.service_check.proofs.TableLemmas.{count_names}
use Rattle.service_control.proofs.LeanLemmas.{folds_itself, mapped_to}
use Rattle.check_laws.proofs.TakenLemmas.{item_here}
use Rattle.check_laws.proofs.CycleLaws.{flat_in}

pub stands_at : {X : Type 0} (xs : List X) (k : ℕ) → k < length xs → (x : X) × (slice_get xs k ≡ Some x)
stands_at [] k lt = absurd (omega (arith, lt))
stands_at (x ∷ xs) zero lt = (x, refl)
stands_at (x ∷ xs) (suc k) lt = stands_at xs k (omega (arith, lt))

-- ---- first names

pub first_sub : (xs : List (List ℕ)) (x : List ℕ) → Contains (first_names xs) x → Contains xs x
first_sub [] x c = c
first_sub (n ∷ ns) x c = elim (in_cons n (filter (λ m. not (folds_same n m)) (first_names ns)) x c) [
  | inl e ↦ subst (λ (y : List ℕ). Contains (n ∷ ns) y) e (first_in n ns)
  | inr i ↦ later_in n ns x (first_sub ns x (filter_out (λ m. not (folds_same n m)) (first_names ns) x i).0)
]

-- each name folds as one of the first
pub first_for : (xs : List (List ℕ)) (x : List ℕ) → Contains xs x
    → (y : List ℕ) × Contains (first_names xs) y × (folds_same y x ≡ true)
first_for [] x c = absurd (none_in x c)
first_for (n ∷ ns) x c = elim (in_cons n ns x c) [
  | inl e ↦ (n, first_in n (filter (λ m. not (folds_same n m)) (first_names ns)), ap (folds_same n) (sym e) ∙ folds_itself n)
  | inr i ↦ (let r = first_for ns x i in
      elim (cases_Bool (folds_same n r.0)) [
        | inl on ↦ (n, first_in n (filter (λ m. not (folds_same n m)) (first_names ns)), alike n r.0 on x ∙ r.2)
        | inr off ↦ (
          r.0,
          later_in n (filter (λ m. not (folds_same n m)) (first_names ns)) r.0
              (filter_in (λ m. not (folds_same n m)) (first_names ns) r.0 r.1 (ap not off)),
          r.2,
        )
      ])
]

-- ---- rows and their names

-- rows of one name are one row
abbrev pub RowsApart : List Staged → Type 0
RowsApart rows = (r s : Staged) → Contains rows r → Contains rows s → folds_same r.entry.name s.entry.name ≡ true → r ≡ s

pub row_name : (rows : List Staged) (k : ℕ) (r : Staged) → slice_get rows k ≡ Some r
    → get_or (names_of rows) k [] ≡ r.entry.name
row_name rows k r is =
    get_or-map (λ (r : Staged). r.entry.name) rows k r [] (slice_get_within rows k r is)
    ∙ ap (λ (r : Staged). r.entry.name) (get_or_from_slice_get rows k r r is)

pub place_named : (rows : List Staged) (d : List ℕ) (k : ℕ) → position (folds_same d) (names_of rows) ≡ Some k
    → (r : Staged) × (slice_get rows k ≡ Some r) × (folds_same d r.entry.name ≡ true)
place_named rows d k at =
    let f = position-Some (folds_same d) (names_of rows) k [] at in
    let r = stands_at rows k (omega (arith, f.0, count_names rows)) in
    (r.0, r.1, ap (folds_same d) (sym (row_name rows k r.0 r.1)) ∙ f.1)

-- where the row of a name stands
pub record IsNamed (rows : List Staged) (d : List ℕ) (r : Staged) : Type 0 where
  pub place : ℕ
  pub found : position (folds_same d) (names_of rows) ≡ Some place
  pub at : slice_get rows place ≡ Some r

pub named_is : (rows : List Staged) → RowsApart rows → (d : List ℕ) (r : Staged) → Contains rows r
    → folds_same d r.entry.name ≡ true → IsNamed rows d r
named_is rows apart d r there h = by (position (folds_same d) (names_of rows)) refl
  where
    by : (o : Option ℕ) → position (folds_same d) (names_of rows) ≡ o → IsNamed rows d r
    by None e =
        absurd (false≢true (sym (ap is_some e) ∙ some_place (folds_same d) (names_of rows)
        ∙ any_from (folds_same d) (names_of rows) r.entry.name (mapped_to (λ (r : Staged). r.entry.name) rows r there) h))
    by (Some k) e =
        let n = place_named rows d k e in
        record {
          place = k;
          found = e;
          at = n.1 ∙ ap (λ (s : Staged). Some s) (apart n.0 r (item_here rows k n.0 n.1) there
              (sym (alike d n.0.entry.name n.2 r.entry.name) ∙ h));
        }

pub named_row : (rows : List Staged) (d : List ℕ) (r : Staged) → IsNamed rows d r → named rows d ≡ Some r
named_row rows d r n = ap (option_and_then (slice_get rows)) n.found ∙ n.at

-- ---- stages

pub upto_fits : (own : Stage) (need : List ℕ) (start : ℕ) (o : Option Stage) → is_upto own o ≡ true
    → stage_fault own need start o ≡ []
upto_fits own need start None h = absurd (false≢true h)
upto_fits Boot need start (Some Boot) h = refl
upto_fits System need start (Some Boot) h = refl
upto_fits Automatic need start (Some Boot) h = refl
upto_fits Demand need start (Some Boot) h = refl
upto_fits Boot need start (Some System) h = absurd (false≢true h)
upto_fits System need start (Some System) h = refl
upto_fits Automatic need start (Some System) h = refl
upto_fits Demand need start (Some System) h = refl
upto_fits Boot need start (Some Automatic) h = absurd (false≢true h)
upto_fits System need start (Some Automatic) h = absurd (false≢true h)
upto_fits Automatic need start (Some Automatic) h = refl
upto_fits Demand need start (Some Automatic) h = refl
upto_fits own need start (Some Demand) h = absurd (false≢true h)

-- an entry with this stage may serve one of the first stage
pub data Fits : Stage → Stage → Type 0 where
  fit : {own other : Stage} → is_upto own (Some other) ≡ true → Fits own other
  by_demand : Fits Demand Demand

pub fits_from : (own : Stage) (need : List ℕ) (start : ℕ) (o : Option Stage) → stage_fault own need start o ≡ []
    → (other : Stage) × (o ≡ Some other) × Fits own other
fits_from own need start None h = absurd cc
fits_from Boot need start (Some Boot) h = (Boot, refl, fit refl)
fits_from System need start (Some Boot) h = (Boot, refl, fit refl)
fits_from Automatic need start (Some Boot) h = (Boot, refl, fit refl)
fits_from Demand need start (Some Boot) h = (Boot, refl, fit refl)
fits_from Boot need start (Some System) h = absurd cc
fits_from System need start (Some System) h = (System, refl, fit refl)
fits_from Automatic need start (Some System) h = (System, refl, fit refl)
fits_from Demand need start (Some System) h = (System, refl, fit refl)
fits_from Boot need start (Some Automatic) h = absurd cc
fits_from System need start (Some Automatic) h = absurd cc
fits_from Automatic need start (Some Automatic) h = (Automatic, refl, fit refl)
fits_from Demand need start (Some Automatic) h = (Automatic, refl, fit refl)
fits_from Boot need start (Some Demand) h = absurd cc
fits_from System need start (Some Demand) h = absurd cc
fits_from Automatic need start (Some Demand) h = absurd cc
fits_from Demand need start (Some Demand) h = (Demand, refl, by_demand)

-- ---- ways

pub ways_of_row : (rows : List Staged) (p : ℕ) (r : Staged) (own : Stage) → slice_get rows p ≡ Some r → r.stage ≡ Some own
    → needs_at (waits_of rows) p ≡ ways_at rows r own
ways_of_row rows p r own is stage =
    get_or-map (good_ways rows) rows p r [] (slice_get_within rows p r is)
    ∙ ap (good_ways rows) (get_or_from_slice_get rows p r r is)
    ∙ ap (λ (o : Option Stage). option_map_or (ways_at rows r) o []) stage

pub way_by_name : (rows : List Staged) (r : Staged) (own : Stage) (d : List ℕ) (k : ℕ)
    → Contains (first_names r.entry.services) d → is_good rows own d ≡ true
    → position (folds_same d) (names_of rows) ≡ Some k → Contains (ways_at rows r own) (k ∷ [])
way_by_name rows r own d k c good at =
    Contains-append_left (flat_map (name_ways rows own) (first_names r.entry.services))
    (flat_map (group_ways rows own) (first_names r.entry.groups)) (k ∷ [])
    (flat_in (name_ways rows own) (first_names r.entry.services) d (k ∷ []) c
    (subst (λ (l : List (List ℕ)). Contains l (k ∷ []))
    (sym (λ j. cond (good j) (map (λ p. p ∷ []) (option_to_list (at j))) []))
    (first_in (k ∷ []) [])))

pub way_by_group : (rows : List Staged) (r : Staged) (own : Stage) (g : List ℕ)
    → Contains (first_names r.entry.groups) g → is_without rows own g ≡ false
    → Contains (ways_at rows r own) (ways_in rows own g)
way_by_group rows r own g c with' =
    Contains-append_right (flat_map (name_ways rows own) (first_names r.entry.services))
    (flat_map (group_ways rows own) (first_names r.entry.groups)) (ways_in rows own g)
    (flat_in (group_ways rows own) (first_names r.entry.groups) g (ways_in rows own g) c
    (subst (λ (l : List (List ℕ)). Contains l (ways_in rows own g))
    (sym (λ j. cond (with' j) [] (ways_in rows own g ∷ [])))
    (first_in (ways_in rows own g) [])))

-- the row at a way of a group
pub way_row : (rows : List Staged) (own : Stage) (g : List ℕ) (q : ℕ) → Contains (ways_in rows own g) q
    → (s : Staged) × (slice_get rows q ≡ Some s) × (is_upto own s.stage ≡ true) × (option_map_or (folds_same g) s.entry.group false ≡ true)
way_row rows own g q c = by (slice_get rows q) refl
    (filter_out (λ p. option_map_or (is_way own g) (slice_get rows p) false) (range_with_len 0 (length rows)) q c).1
  where
    by : (o : Option Staged) → slice_get rows q ≡ o → option_map_or (is_way own g) o false ≡ true
        → (s : Staged) × (slice_get rows q ≡ Some s) × (is_upto own s.stage ≡ true) × (option_map_or (folds_same g) s.entry.group false ≡ true)
    by None is h = absurd (false≢true h)
    by (Some s) is h =
        let b = and_parts (is_upto own s.stage) (option_map_or (folds_same g) s.entry.group false) h in
        (s, is, b.0, b.1)

pub row_way : (rows : List Staged) (own : Stage) (g : List ℕ) (q : ℕ) (s : Staged) → slice_get rows q ≡ Some s
    → is_upto own s.stage ≡ true → option_map_or (folds_same g) s.entry.group false ≡ true
    → Contains (ways_in rows own g) q
row_way rows own g q s is upto of =
    filter_in (λ p. option_map_or (is_way own g) (slice_get rows p) false) (range_with_len 0 (length rows)) q
    (in_range (length rows) q (slice_get_within rows q s is))
    (ap (λ (o : Option Staged). option_map_or (is_way own g) o false) is
    ∙ and_from (is_upto own s.stage) (option_map_or (folds_same g) s.entry.group false) upto of)

group_there : (own : Stage) (g : List ℕ) (s : Staged) (b : Bool) (o : Option (List ℕ)) → is_upto own s.stage ≡ b
    → s.entry.group ≡ o → b ≡ true → option_map_or (folds_same g) o false ≡ true
    → list_any (folds_same g) (cond b (option_to_list o) []) ≡ true
group_there own g s false o is group on h = absurd (false≢true on)
group_there own g s true None is group on h = absurd (false≢true h)
group_there own g s true (Some n) is group on h = any_from (folds_same g) (n ∷ []) n (first_in n []) h

any_flat : {X Y : Type 0} (p : Y → Bool) (f : X → List Y) (xs : List X) (x : X) → Contains xs x → list_any p (f x) ≡ true
    → list_any p (flat_map f xs) ≡ true
any_flat p f xs x c h =
    let y = any_gives p (f x) h in any_from p (flat_map f xs) y.0 (flat_in f xs x y.0 c y.1) y.2

-- a group with such a row is not without
pub with_row : (rows : List Staged) (own : Stage) (g : List ℕ) (s : Staged) → Contains rows s → is_upto own s.stage ≡ true
    → option_map_or (folds_same g) s.entry.group false ≡ true → is_without rows own g ≡ false
with_row rows own g s c upto of =
    ap not (any_flat (folds_same g) (group_upto own) rows s c
    (group_there own g s (is_upto own s.stage) s.entry.group refl refl upto of))
