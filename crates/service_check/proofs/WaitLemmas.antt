-- The graph has the good needs of the entries.
use Rattle.std.proofs.Common.{◌≡◌, ℕ, zero, suc, ◌+◌, ◌-◌, ◌<◌, ◌≤◌, Bool, true, false, not, nat_eq, ◌&&◌, List, [], ◌∷◌, ◌++◌, length, take, map, get_or, set, cond, Option, Some, None, refl, sym, ap, ◌∙◌, ◌⊎◌, inl, inr, subst, arith}
use Rattle.std.specs.Prelude.{Contains, replicate, position, slice_get, option_and_then, Result, Ok, Err, OnOk}
use Rattle.std.specs.Option.{option_map_or, option_to_list, is_some}
use Rattle.std.specs.List.{flat_map, range_with_len}
use Rattle.std.proofs.lemmas.Bool.{cases_eq, cases_lt, eq-eqb, ne_eqb}
use Rattle.std.proofs.lemmas.List.{get_or_past, get_or-replicate, get_or-set_same, get_or-set_other, get_or_append_left, get_or-append-add, get_or-append_right, get_or_read, length-set, length-replicate, length-append, length-map, append-nil, append_assoc, map-append, take_at}
use Rattle.std.proofs.lemmas.List.FromFn.{length-map-range_with_len, get_or-map-range_with_len}
use Rattle.std.proofs.lemmas.List.Elements.{Contains-append_cases}
use Rattle.nt_bytes.specs.Folding.{folds_same}
use Rattle.start_model.specs.Order.{first_names}
use Rattle.nt_names.proofs.FoldLemmas.{alike}
use Rattle.boot_phases.proofs.TriedLemmas.{some_place}
use Rattle.dependencies.proofs.PulledLemmas.{same_bool, filter-range_more}
use Rattle.dependencies.proofs.KeptLemmas.{range_push}
use Rattle.wait_cycles.specs.Graph.{row_at, AreWaits, waits_in}
use Rattle.wait_cycles.proofs.InverseLemmas.{none_in, edge_from}
use Rattle.wait_cycles.proofs.MetLemmas.{range_in}
use Rattle.wait_cycles.proofs.CycleLemmas.{filter_out, filter_same, in_cons}
use Rattle.service_check.specs.declared.waits.Bases.{Bases}
use Rattle.service_check.specs.declared.stage.Stage.{Stage}
use Rattle.service_check.specs.declared.stage.Stage.TheVariants as stages
use Rattle.service_check.specs.declared.stage.Staged.{Staged}
use Rattle.service_check.specs.Stages.{is_upto}
use Rattle.service_check.specs.Needs.{names_of, is_good, groups_upto, is_way, ways_in, name_ways, group_ways, ways_at, good_ways, waits_of}
use Rattle.service_check.specs.Vertices.{base_of, name_ids, group_ids, ids_at, entry_ids, group_place, is_there, members_upto}
use Rattle.service_check.specs.Grouped.{AreGrouped, with_one, PutsMember}
use Rattle.service_check.proofs.TableLemmas.{same_upto, same_groups, count_names}
use Rattle.service_check.proofs.PlaceLemmas.{place_here, place_below, got}

-- ---- lists

pub flat_push : {X : Type 0} (f : ℕ → List X) (xs : List ℕ) (x : ℕ) → flat_map f (xs ++ x ∷ []) ≡ flat_map f xs ++ f x
flat_push f [] x = append-nil (f x)
flat_push f (y ∷ ys) x = ap (λ zs. f y ++ zs) (flat_push f ys x) ∙ sym (append_assoc (f y) (flat_map f ys) (f x))

pub lines_more : {X : Type 0} (f : ℕ → List X) (n : ℕ) (first old new : List X)
    → old ≡ first ++ flat_map f (range_with_len 0 n) → new ≡ old ++ f n
    → new ≡ first ++ flat_map f (range_with_len 0 (n + 1))
lines_more f n first old new before now =
    now ∙ ap (λ xs. xs ++ f n) before ∙ append_assoc first (flat_map f (range_with_len 0 n)) (f n)
    ∙ ap (λ xs. first ++ xs) (sym (ap (flat_map f) (range_push n) ∙ flat_push f (range_with_len 0 n) n))

map_flat : {X Y Z : Type 0} (f : Y → Z) (h : X → List Y) (xs : List X) → map f (flat_map h xs) ≡ flat_map (λ x. map f (h x)) xs
map_flat f h [] = refl
map_flat f h (x ∷ xs) = map-append f (h x) (flat_map h xs) ∙ ap (λ ys. map f (h x) ++ ys) (map_flat f h xs)

flat_same : {X Y : Type 0} (f h : X → List Y) (xs : List X) → ((x : X) → f x ≡ h x) → flat_map f xs ≡ flat_map h xs
flat_same f h [] e = refl
flat_same f h (x ∷ xs) e = λ j. e x j ++ flat_same f h xs e j

map_same : {X Y : Type 0} (f h : X → Y) (xs : List X) → ((x : X) → f x ≡ h x) → map f xs ≡ map h xs
map_same f h [] e = refl
map_same f h (x ∷ xs) e = λ j. e x j ∷ map_same f h xs e j

map_map : {X Y Z : Type 0} (f : Y → Z) (h : X → Y) (xs : List X) → map f (map h xs) ≡ map (λ x. f (h x)) xs
map_map f h [] = refl
map_map f h (x ∷ xs) = ap (λ ys. f (h x) ∷ ys) (map_map f h xs)

only_in : (x y : ℕ) → Contains (x ∷ []) y → x ≡ y
only_in x y i = elim (in_cons x [] y i) [
  | inl e ↦ e
  | inr none ↦ absurd (none_in y none)
]

flat_in : {X : Type 0} (f : X → List ℕ) (xs : List X) (v : ℕ) → Contains (flat_map f xs) v → (x : X) × Contains (f x) v
flat_in f [] v i = absurd (none_in v i)
flat_in f (x ∷ xs) v i = elim (Contains-append_cases (f x) (flat_map f xs) v i) [
  | inl here ↦ (x, here)
  | inr there ↦ flat_in f xs v there
]

map_in : {X : Type 0} (f : X → List ℕ) (xs : List X) (u v : ℕ) → Contains (get_or (map f xs) u []) v → (x : X) × Contains (f x) v
map_in f [] u v i = absurd (none_in v i)
map_in f (x ∷ xs) zero v i = (x, i)
map_in f (x ∷ xs) (suc u) v i = map_in f xs u v i

at_append : (xs ys : List (List ℕ)) (u v : ℕ) → Contains (get_or (xs ++ ys) u []) v
    → Contains (get_or xs u []) v ⊎ Contains (get_or ys (u - length xs) []) v
at_append xs ys u v i = elim (cases_lt u (length xs)) [
  | inl lt ↦ inl (subst (λ (zs : List ℕ). Contains zs v) (get_or_append_left xs ys [] u lt) i)
  | inr ge ↦ inr (subst (λ (zs : List ℕ). Contains zs v) (get_or-append_right xs ys (length xs) u [] refl ge) i)
]

-- all that is in the rows is below n
AreBelow : ℕ → List (List ℕ) → Type 0
AreBelow n rows = (u v : ℕ) → Contains (get_or rows u []) v → v < n

-- ---- groups, entry by entry

no_row : (n k : ℕ) → ◌≡◌ {A = List ℕ} (get_or (replicate n []) k []) []
no_row n k = elim (cases_lt k n) [
  | inl lt ↦ get_or-replicate n k [] [] lt
  | inr ge ↦ get_or_past (replicate n []) k [] (omega (arith, length-replicate {A = List ℕ} n [], ge))
]

pub grouped_none : (rows : List Staged) (stage : Stage) (groups : List (List ℕ)) (n : ℕ) (ways : List (List ℕ))
    → n ≡ length groups → ways ≡ replicate n [] → AreGrouped rows stage groups 0 ways
grouped_none rows stage groups n ways e is = record {
  len = ap length is ∙ length-replicate n [] ∙ e;
  each = λ k lt. ap (λ (ws : List (List ℕ)). get_or ws k []) is ∙ no_row n k;
}

pub one_put : {E : Type 0} (r : Result (Unit {0}) E) (at place : ℕ) (ways : List (List ℕ)) (row new : List ℕ) → at < length ways
    → row ≡ get_or ways at row → OnOk r (new ≡ row ++ place ∷ []) → OnOk r (set ways at new ≡ with_one ways at place)
one_put (Ok u) at place ways row new lt is e =
    ap (set ways at) (e ∙ ap (λ (xs : List ℕ). xs ++ place ∷ []) (get_or_read ways at row lt is []))
one_put (Err why) at place ways row new lt is e = tt

there_is : (rows : List Staged) (stage : Stage) (groups : List (List ℕ)) (k i : ℕ) (r : Staged) → i < length rows
    → r ≡ get_or rows i r
    → is_there rows stage groups k i ≡ option_map_or (nat_eq k) (group_place stage groups r) false
there_is rows stage groups k i r lt is =
    ap (λ (o : Option Staged). option_map_or (λ r. option_map_or (nat_eq k) (group_place stage groups r) false) o false)
    (got rows i r lt is)

pub grouped_more : (rows : List Staged) (stage : Stage) (groups : List (List ℕ)) (i : ℕ) (r : Staged)
    (ways ways' : List (List ℕ)) → i < length rows → r ≡ get_or rows i r → AreGrouped rows stage groups i ways
    → PutsMember (group_place stage groups r) i ways ways' → AreGrouped rows stage groups (i + 1) ways'
grouped_more rows stage groups i r ways ways' lt is grouped puts =
    by (group_place stage groups r) refl puts
  where
    more : (o : Option ℕ) → group_place stage groups r ≡ o → (k : ℕ)
        → members_upto rows stage groups (i + 1) k
        ≡ members_upto rows stage groups i k ++ cond (option_map_or (nat_eq k) o false) (i ∷ []) []
    more o e k =
        filter-range_more (is_there rows stage groups k) i
        ∙ ap (λ (b : Bool). members_upto rows stage groups i k ++ cond b (i ∷ []) [])
        (there_is rows stage groups k i r lt is ∙ ap (λ (o : Option ℕ). option_map_or (nat_eq k) o false) e)

    by : (o : Option ℕ) → group_place stage groups r ≡ o → PutsMember o i ways ways' → AreGrouped rows stage groups (i + 1) ways'
    by None e same = record {
      len = ap length same ∙ grouped.len;
      each = λ k lk.
          ap (λ (ws : List (List ℕ)). get_or ws k []) same ∙ grouped.each k lk
          ∙ sym (append-nil (members_upto rows stage groups i k)) ∙ sym (more None e k);
    }
    by (Some at) e put = record {
      len = ap length put ∙ length-set ways at (get_or ways at [] ++ i ∷ []) ∙ grouped.len;
      each = λ k lk. elim (cases_eq k at) [
        | inl same ↦
            ap (λ (ws : List (List ℕ)). get_or ws k []) put ∙ ap (get_or' (with_one ways at i)) same
            ∙ get_or-set_same ways at (get_or ways at [] ++ i ∷ []) []
            (omega (arith, lk, same, grouped.len))
            ∙ ap (λ (k : ℕ). get_or ways k [] ++ i ∷ []) (sym same)
            ∙ ap (λ (xs : List ℕ). xs ++ i ∷ []) (grouped.each k lk)
            ∙ sym (more (Some at) e k ∙ ap (λ (b : Bool). members_upto rows stage groups i k ++ cond b (i ∷ []) []) (eq-eqb k at same))
        | inr other ↦
            ap (λ (ws : List (List ℕ)). get_or ws k []) put
            ∙ get_or-set_other ways at k (get_or ways at [] ++ i ∷ []) [] other
            ∙ grouped.each k lk ∙ sym (append-nil (members_upto rows stage groups i k))
            ∙ sym (more (Some at) e k ∙ ap (λ (b : Bool). members_upto rows stage groups i k ++ cond b (i ∷ []) []) (ne_eqb k at other))
      ];
    }
      where
        get_or' : List (List ℕ) → ℕ → List ℕ
        get_or' ws k = get_or ws k []

pub grouped_all : (rows : List Staged) (stage : Stage) (groups : List (List ℕ)) (i n : ℕ) (ways : List (List ℕ))
    → i ≡ n → AreGrouped rows stage groups i ways → AreGrouped rows stage groups n ways
grouped_all rows stage groups i n ways e is = subst (λ (k : ℕ). AreGrouped rows stage groups k ways) e is

grouped_below : (rows : List Staged) (stage : Stage) (groups ways : List (List ℕ))
    → AreGrouped rows stage groups (length rows) ways → (u v : ℕ) → Contains (get_or ways u []) v → v < length rows
grouped_below rows stage groups ways is u v i = elim (cases_lt u (length groups)) [
  | inl lt ↦ range_in (length rows) v (filter_out (is_there rows stage groups u) (range_with_len 0 (length rows)) v
      (subst (λ (zs : List ℕ). Contains zs v) (is.each u lt) i)).0
  | inr ge ↦ absurd (none_in v (subst (λ (zs : List ℕ). Contains zs v) (get_or_past ways u [] (omega (arith, is.len, ge))) i))
]

-- ---- members

way_is : (G : List (List ℕ)) (g : List ℕ) (k : ℕ) → position (folds_same g) G ≡ Some k → (b : Bool) (o : Option (List ℕ))
    → option_map_or (nat_eq k) (cond b (option_and_then (λ n. position (folds_same n) G) o) None) false
    ≡ (b && option_map_or (folds_same g) o false)
way_is G g k at false o = refl
way_is G g k at true None = refl
way_is G g k at true (Some n) =
    same_bool (option_map_or (nat_eq k) (position (folds_same n) G) false) (folds_same g n)
    (λ h. place_here G g n k at h)
    (λ h. (let e : position (folds_same n) G ≡ Some k =
    ap (λ (p : List ℕ → Bool). position p G) (λ j x. sym (alike g n h x) j) ∙ at in
    ap (λ (o : Option ℕ). option_map_or (nat_eq k) o false) e ∙ eq-eqb k k refl))

members_are : (rows : List Staged) (stage : Stage) (G : List (List ℕ)) (g : List ℕ) (k : ℕ) → position (folds_same g) G ≡ Some k
    → members_upto rows stage G (length rows) k ≡ ways_in rows stage g
members_are rows stage G g k at =
    filter_same (is_there rows stage G k) (λ p. option_map_or (is_way stage g) (slice_get rows p) false)
    (range_with_len 0 (length rows)) (λ p i. by (slice_get rows p))
  where
    by : (o : Option Staged) → option_map_or (λ r. option_map_or (nat_eq k) (group_place stage G r) false) o false
        ≡ option_map_or (is_way stage g) o false
    by None = refl
    by (Some r) = way_is G g k at (is_upto stage r.stage) r.entry.group

-- what is started on demand waits for what the phases take
demand_ways : (rows : List Staged) (g : List ℕ) → ways_in rows stages.Automatic g ≡ ways_in rows stages.Demand g
demand_ways rows g =
    filter_same (λ p. option_map_or (is_way stages.Automatic g) (slice_get rows p) false)
    (λ p. option_map_or (is_way stages.Demand g) (slice_get rows p) false)
    (range_with_len 0 (length rows)) (λ p i. by (slice_get rows p))
  where
    by : (o : Option Staged) → option_map_or (is_way stages.Automatic g) o false ≡ option_map_or (is_way stages.Demand g) o false
    by None = refl
    by (Some r) = ap (λ (b : Bool). b && option_map_or (folds_same g) r.entry.group false) (sym (same_upto r.stage))

-- ---- the parts of the graph

pub record AreParts (rows : List Staged) (b : Bases) (boot system taken : List (List ℕ)) : Type 0 where
  pub boot_base : b.boot ≡ length rows + length rows
  pub system_base : b.system ≡ (length rows + length rows) + length boot
  pub taken_base : b.taken ≡ ((length rows + length rows) + length boot) + length system
  pub of_boot : AreGrouped rows stages.Boot (groups_upto stages.Boot rows) (length rows) boot
  pub of_system : AreGrouped rows stages.System (groups_upto stages.System rows) (length rows) system
  pub of_taken : AreGrouped rows stages.Automatic (groups_upto stages.Automatic rows) (length rows) taken

pub graph : List Staged → Bases → List (List ℕ) → List (List ℕ) → List (List ℕ) → List (List ℕ)
graph rows b boot system taken =
    (((map (entry_ids rows b) rows ++ map (λ p. p ∷ []) (range_with_len 0 (length rows))) ++ boot) ++ system) ++ taken

pub graph_made : (rows : List Staged) (b : Bases) (boot system taken : List (List ℕ))
    → graph rows b boot system taken
    ≡ (((map (entry_ids rows b) rows ++ map (λ p. p ∷ []) (range_with_len 0 (length rows))) ++ boot) ++ system) ++ taken
unfolding graph
graph_made rows b boot system taken = refl

module _ (rows : List Staged) (b : Bases) (boot system taken : List (List ℕ)) (parts : AreParts rows b boot system taken) where
  n : ℕ
  n = length rows

  first : List (List ℕ)
  first = map (entry_ids rows b) rows

  own : List (List ℕ)
  own = map (λ p. p ∷ []) (range_with_len 0 (length rows))

  length-first : length first ≡ n
  unfolding first n
  length-first = length-map rows (entry_ids rows b)

  length-own : length own ≡ n
  unfolding own n
  length-own = length-map-range_with_len (λ p. p ∷ []) 0 (length rows)

  length-two : length (first ++ own) ≡ n + n
  length-two = length-append first own ∙ (λ j. length-first j + length-own j)

  length-three : length ((first ++ own) ++ boot) ≡ (n + n) + length boot
  length-three = length-append (first ++ own) boot ∙ ap (λ k. k + length boot) length-two

  length-four : length (((first ++ own) ++ boot) ++ system) ≡ ((n + n) + length boot) + length system
  length-four = length-append ((first ++ own) ++ boot) system ∙ ap (λ k. k + length system) length-three

  graph-is : graph rows b boot system taken ≡ (((first ++ own) ++ boot) ++ system) ++ taken
  unfolding graph first own
  graph-is = refl

  -- the row of a need
  own_row : (p : ℕ) → p < n → row_at (graph rows b boot system taken) (n + p) ≡ p ∷ []
  unfolding own n
  own_row p lt =
      ap (λ (g : List (List ℕ)). get_or g (n + p) []) graph-is
      ∙ get_or_append_left (((first ++ own) ++ boot) ++ system) taken [] (n + p) (omega (arith, lt, length-four))
      ∙ get_or_append_left ((first ++ own) ++ boot) system [] (n + p) (omega (arith, lt, length-three))
      ∙ get_or_append_left (first ++ own) boot [] (n + p) (omega (arith, lt, length-two))
      ∙ ap (λ (k : ℕ). get_or (first ++ own) (k + p) []) (sym length-first)
      ∙ get_or-append-add first own p []
      ∙ get_or-map-range_with_len (λ p. p ∷ []) 0 (length rows) p p [] lt (omega arith)

  boot_row : (k : ℕ) → k < length boot → row_at (graph rows b boot system taken) (b.boot + k) ≡ get_or boot k []
  unfolding n
  boot_row k lt =
      ap (λ (g : List (List ℕ)). get_or g (b.boot + k) []) graph-is
      ∙ ap (λ (m : ℕ). get_or ((((first ++ own) ++ boot) ++ system) ++ taken) (m + k) []) base
      ∙ get_or_append_left (((first ++ own) ++ boot) ++ system) taken [] (length (first ++ own) + k)
      (omega (arith, lt, length-two, length-four))
      ∙ get_or_append_left ((first ++ own) ++ boot) system [] (length (first ++ own) + k)
      (omega (arith, lt, length-two, length-three))
      ∙ get_or-append-add (first ++ own) boot k []
    where
      base : b.boot ≡ length (first ++ own)
      base = parts.boot_base ∙ sym length-two

  system_row : (k : ℕ) → k < length system → row_at (graph rows b boot system taken) (b.system + k) ≡ get_or system k []
  unfolding n
  system_row k lt =
      ap (λ (g : List (List ℕ)). get_or g (b.system + k) []) graph-is
      ∙ ap (λ (m : ℕ). get_or ((((first ++ own) ++ boot) ++ system) ++ taken) (m + k) []) base
      ∙ get_or_append_left (((first ++ own) ++ boot) ++ system) taken [] (length ((first ++ own) ++ boot) + k)
      (omega (arith, lt, length-three, length-four))
      ∙ get_or-append-add ((first ++ own) ++ boot) system k []
    where
      base : b.system ≡ length ((first ++ own) ++ boot)
      base = parts.system_base ∙ sym length-three

  taken_row : (k : ℕ) → row_at (graph rows b boot system taken) (b.taken + k) ≡ get_or taken k []
  unfolding n
  taken_row k =
      ap (λ (g : List (List ℕ)). get_or g (b.taken + k) []) graph-is
      ∙ ap (λ (m : ℕ). get_or ((((first ++ own) ++ boot) ++ system) ++ taken) (m + k) []) base
      ∙ get_or-append-add (((first ++ own) ++ boot) ++ system) taken k []
    where
      base : b.taken ≡ length (((first ++ own) ++ boot) ++ system)
      base = parts.taken_base ∙ sym length-four

  -- the row of a group's need, at its first place
  group_row : (own : Stage) (g : List ℕ) (k : ℕ) → position (folds_same g) (groups_upto own rows) ≡ Some k
      → row_at (graph rows b boot system taken) (base_of b own + k) ≡ ways_in rows own g
  group_row stages.Boot g k at =
      let lt = place_below (groups_upto stages.Boot rows) g k at in
      boot_row k (omega (arith, lt, parts.of_boot.len)) ∙ parts.of_boot.each k lt
      ∙ members_are rows stages.Boot (groups_upto stages.Boot rows) g k at
  group_row stages.System g k at =
      let lt = place_below (groups_upto stages.System rows) g k at in
      system_row k (omega (arith, lt, parts.of_system.len)) ∙ parts.of_system.each k lt
      ∙ members_are rows stages.System (groups_upto stages.System rows) g k at
  group_row stages.Automatic g k at =
      let lt = place_below (groups_upto stages.Automatic rows) g k at in
      taken_row k ∙ parts.of_taken.each k lt ∙ members_are rows stages.Automatic (groups_upto stages.Automatic rows) g k at
  group_row stages.Demand g k at =
      let at' : position (folds_same g) (groups_upto stages.Automatic rows) ≡ Some k =
      ap (position (folds_same g)) (sym (same_groups rows)) ∙ at in
      let lt = place_below (groups_upto stages.Automatic rows) g k at' in
      taken_row k ∙ parts.of_taken.each k lt
      ∙ members_are rows stages.Automatic (groups_upto stages.Automatic rows) g k at' ∙ demand_ways rows g

  -- ---- needs

  name_row : (own : Stage) (need : List ℕ)
      → map (row_at (graph rows b boot system taken)) (name_ids rows own need) ≡ name_ways rows own need
  unfolding n
  name_row own need = by (is_good rows own need) (position (folds_same need) (names_of rows)) refl
    where
      by : (good : Bool) (o : Option ℕ) → position (folds_same need) (names_of rows) ≡ o
          → map (row_at (graph rows b boot system taken)) (cond good (map (λ p. length rows + p) (option_to_list o)) [])
          ≡ cond good (map (λ p. p ∷ []) (option_to_list o)) []
      by false o e = refl
      by true None e = refl
      by true (Some p) e =
          ap (λ (row : List ℕ). row ∷ []) (own_row p (omega (arith, place_below (names_of rows) need p e, count_names rows)))

  group_rows : (own : Stage) (need : List ℕ)
      → map (row_at (graph rows b boot system taken)) (group_ids rows b own need) ≡ group_ways rows own need
  group_rows own need =
      by (position (folds_same need) (groups_upto own rows)) refl
      ∙ ap (λ (some : Bool). cond (not some) [] (ways_in rows own need ∷ [])) (some_place (folds_same need) (groups_upto own rows))
    where
      by : (o : Option ℕ) → position (folds_same need) (groups_upto own rows) ≡ o
          → map (row_at (graph rows b boot system taken)) (map (λ k. base_of b own + k) (option_to_list o))
          ≡ cond (not (is_some (position (folds_same need) (groups_upto own rows)))) [] (ways_in rows own need ∷ [])
      by None e = ap (λ (o : Option ℕ). cond (not (is_some o)) [] (ways_in rows own need ∷ [])) (sym e)
      by (Some k) e =
          ap (λ (row : List ℕ). row ∷ []) (group_row own need k e)
          ∙ ap (λ (o : Option ℕ). cond (not (is_some o)) [] (ways_in rows own need ∷ [])) (sym e)

  entry_row : (r : Staged) → map (row_at (graph rows b boot system taken)) (entry_ids rows b r) ≡ good_ways rows r
  entry_row r = by r.stage
    where
      f : ℕ → List ℕ
      f = row_at (graph rows b boot system taken)

      by : (o : Option Stage) → map (row_at (graph rows b boot system taken)) (option_map_or (ids_at rows b r) o [])
          ≡ option_map_or (ways_at rows r) o []
      by None = refl
      by (Some own) =
          map-append (row_at (graph rows b boot system taken)) (flat_map (name_ids rows own) (first_names r.entry.services))
          (flat_map (group_ids rows b own) (first_names r.entry.groups))
          ∙ (λ j. (map_flat (row_at (graph rows b boot system taken)) (name_ids rows own) (first_names r.entry.services)
          ∙ flat_same _ (name_ways rows own) (first_names r.entry.services) (name_row own)) j
          ++ (map_flat (row_at (graph rows b boot system taken)) (group_ids rows b own) (first_names r.entry.groups)
          ∙ flat_same _ (group_ways rows own) (first_names r.entry.groups) (group_rows own)) j)

  taken_first : take n (graph rows b boot system taken) ≡ first
  taken_first =
      ap (take n) (graph-is ∙ append_assoc ((first ++ own) ++ boot) system taken ∙ append_assoc (first ++ own) boot (system ++ taken)
      ∙ append_assoc first own (boot ++ (system ++ taken)))
      ∙ take_at first (own ++ (boot ++ (system ++ taken))) n length-first

  pub graph_needs : waits_in (length rows) (graph rows b boot system taken) ≡ waits_of rows
  unfolding n first
  graph_needs =
      ap (map (λ needs. map (row_at (graph rows b boot system taken)) needs)) taken_first
      ∙ map_map (λ needs. map (row_at (graph rows b boot system taken)) needs) (entry_ids rows b) rows
      ∙ map_same (λ r. map (row_at (graph rows b boot system taken)) (entry_ids rows b r)) (good_ways rows) rows entry_row

  -- ---- edges

  length-graph : length (graph rows b boot system taken) ≡ (((n + n) + length boot) + length system) + length taken
  length-graph =
      ap length graph-is ∙ length-append (((first ++ own) ++ boot) ++ system) taken ∙ ap (λ k. k + length taken) length-four

  bounds : (own : Stage) (k : ℕ) → k < length (groups_upto own rows)
      → (n ≤ base_of b own + k) × (base_of b own + k < length (graph rows b boot system taken))
  unfolding n
  bounds stages.Boot k lt =
      (omega (arith, parts.boot_base), omega (arith, parts.boot_base, parts.of_boot.len, lt, length-graph))
  bounds stages.System k lt =
      (omega (arith, parts.system_base), omega (arith, parts.system_base, parts.of_system.len, lt, length-graph))
  bounds stages.Automatic k lt =
      (omega (arith, parts.taken_base), omega (arith, parts.taken_base, parts.of_taken.len, lt, length-graph))
  bounds stages.Demand k lt =
      (omega (arith, parts.taken_base), omega (arith, parts.taken_base, parts.of_taken.len, lt, length-graph, ap length (same_groups rows)))

  name_between : (own : Stage) (need : List ℕ) (v : ℕ) → Contains (name_ids rows own need) v
      → (n ≤ v) × (v < length (graph rows b boot system taken))
  unfolding n
  name_between own need v = by (is_good rows own need) (position (folds_same need) (names_of rows)) refl
    where
      by : (good : Bool) (o : Option ℕ) → position (folds_same need) (names_of rows) ≡ o
          → Contains (cond good (map (λ p. length rows + p) (option_to_list o)) []) v
          → (n ≤ v) × (v < length (graph rows b boot system taken))
      by false o e i = absurd (none_in v i)
      by true None e i = absurd (none_in v i)
      by true (Some p) e i =
          let is : length rows + p ≡ v = only_in (length rows + p) v i in
          let lt : p < length rows = omega (arith, place_below (names_of rows) need p e, count_names rows) in
          (omega (arith, is), omega (arith, is, lt, length-graph))

  group_between : (own : Stage) (need : List ℕ) (v : ℕ) → Contains (group_ids rows b own need) v
      → (n ≤ v) × (v < length (graph rows b boot system taken))
  group_between own need v = by (position (folds_same need) (groups_upto own rows)) refl
    where
      by : (o : Option ℕ) → position (folds_same need) (groups_upto own rows) ≡ o
          → Contains (map (λ k. base_of b own + k) (option_to_list o)) v
          → (n ≤ v) × (v < length (graph rows b boot system taken))
      by None e i = absurd (none_in v i)
      by (Some k) e i =
          subst (λ (v : ℕ). (n ≤ v) × (v < length (graph rows b boot system taken))) (only_in (base_of b own + k) v i)
          (bounds own k (place_below (groups_upto own rows) need k e))

  ids_between : (r : Staged) (v : ℕ) → Contains (entry_ids rows b r) v
      → (n ≤ v) × (v < length (graph rows b boot system taken))
  ids_between r v = by r.stage
    where
      by : (o : Option Stage) → Contains (option_map_or (ids_at rows b r) o []) v
          → (n ≤ v) × (v < length (graph rows b boot system taken))
      by None i = absurd (none_in v i)
      by (Some own) i =
          elim (Contains-append_cases (flat_map (name_ids rows own) (first_names r.entry.services))
          (flat_map (group_ids rows b own) (first_names r.entry.groups)) v i) [
            | inl name ↦ (let x = flat_in (name_ids rows own) (first_names r.entry.services) v name in name_between own x.0 v x.1)
            | inr group ↦
                (let x = flat_in (group_ids rows b own) (first_names r.entry.groups) v group in group_between own x.0 v x.1)
          ]

  first_row : (u : ℕ) → u < n → row_at (graph rows b boot system taken) u ≡ get_or first u []
  first_row u lt =
      ap (λ (g : List (List ℕ)). get_or g u []) graph-is
      ∙ get_or_append_left (((first ++ own) ++ boot) ++ system) taken [] u (omega (arith, lt, length-four))
      ∙ get_or_append_left ((first ++ own) ++ boot) system [] u (omega (arith, lt, length-three))
      ∙ get_or_append_left (first ++ own) boot [] u (omega (arith, lt, length-two))
      ∙ get_or_append_left first own [] u (omega (arith, lt, length-first))

  own_below : AreBelow n own
  unfolding n own AreBelow
  own_below u v i = elim (cases_lt u (length rows)) [
    | inl lt ↦ (let at : get_or (map (λ p. p ∷ []) (range_with_len 0 (length rows))) u [] ≡ u ∷ [] =
        get_or-map-range_with_len (λ p. p ∷ []) 0 (length rows) u u [] lt (omega arith) in
        let is : u ≡ v = only_in u v (subst (λ (xs : List ℕ). Contains xs v) at i) in
        omega (arith, is, lt))
    | inr ge ↦ absurd (none_in v (subst (λ (xs : List ℕ). Contains xs v)
        (get_or_past (map (λ p. p ∷ []) (range_with_len 0 (length rows))) u []
        (omega (arith, length-map-range_with_len (λ p. p ∷ []) 0 (length rows), ge))) i))
  ]

  pub graph_waits : AreWaits (length rows) (graph rows b boot system taken)
  unfolding n first AreBelow
  graph_waits = record {
    fits = omega (arith, length-graph);
    needs = λ u v lt edge.
        (let i = subst (λ (xs : List ℕ). Contains xs v) (first_row u lt) edge in
        let x = map_in (entry_ids rows b) rows u v i in
        ids_between x.0 v x.1);
    ways = λ u v ge edge.
        elim (at_append (((first ++ own) ++ boot) ++ system) taken u v (subst (λ (g : List (List ℕ)). Contains (get_or g u []) v) graph-is edge)) [
          | inr t ↦ grouped_below rows stages.Automatic (groups_upto stages.Automatic rows) taken parts.of_taken _ v t
          | inl s ↦ (elim (at_append ((first ++ own) ++ boot) system u v s) [
            | inr t ↦ grouped_below rows stages.System (groups_upto stages.System rows) system parts.of_system _ v t
            | inl s ↦ (elim (at_append (first ++ own) boot u v s) [
              | inr t ↦ grouped_below rows stages.Boot (groups_upto stages.Boot rows) boot parts.of_boot _ v t
              | inl s ↦ (elim (at_append first own u v s) [
                | inr t ↦ own_below _ v t
                | inl f ↦ absurd (omega (arith, edge_from first u v f, length-first, ge))
              ])
            ])
          ])
        ];
  }
