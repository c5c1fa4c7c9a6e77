-- The entries of a phase with what is kept beside them.
use Rattle.std.proofs.Common.{◌≡◌, ℕ, zero, suc, ◌+◌, ◌-◌, ◌<◌, ◌≤◌, Bool, true, false, not, ◌&&◌, ◌||◌, cond, List, [], ◌∷◌, ◌++◌, length, map, take, get_or, set, Option, Some, None, inl, inr, refl, sym, ap, ◌∙◌, arith, add-one}
use Rattle.std.specs.Prelude.{count_by, position, slice_get}
use Rattle.std.specs.List.{position_from, flat_map, items_where_true, range_with_len, list_all}
use Rattle.std.specs.Option.{option_map, option_map_or, option_to_list, option_and_then}
use Rattle.std.proofs.lemmas.Bool.{cases_eq, false≢true, and_parts}
use Rattle.std.proofs.lemmas.List.{get_or-set_same, get_or-set_other, length-set, length-take-le, take_more, map-id, append-nil, flat_map_more}
use Rattle.std.proofs.lemmas.List.FromFn.{length-range_with_len, map-range_with_len_more}
use Rattle.std.proofs.lemmas.List.Sums.{sum_by-set}
use Rattle.std.proofs.lemmas.List.Quantifiers.{position-Some}
use Rattle.std.proofs.lemmas.Option.{slice_get_read}
use Rattle.std.proofs.lemmas.Iterator.Adapters.{position_from-zero}
use Rattle.nt_bytes.specs.Folding.{folds_same}
use Rattle.start_model.specs.Demand.{Need, member}
use Rattle.start_model.specs.Ready.{Label, has_name, has_group, is_ready, next_of}
use Rattle.dependencies.specs.declared.wants.Kind.TheVariants.{Service, Group}
use Rattle.dependencies.specs.Wants.{meets, WantsState, is_free, IsNearer, AreReadyBut, AreWantsOf}
use Rattle.dependencies.specs.Waiting.{label_of, labels_at, raised, unmet_count}
use Rattle.dependencies.specs.Kept.{IsKept}
use Rattle.dependencies.proofs.WantLemmas.{free_is}
use Rattle.dependencies.proofs.MeetLemmas.{met_by_start, name_meets, group_meets, unmet_of}

-- ---- the first that waits and is ready

shifted : {X : Type 0} (test : X → Bool) (j : ℕ) (xs : List X)
    → position_from test (j + 1) xs ≡ option_map suc (position_from test j xs)
shifted test j [] = refl
shifted test j (x ∷ xs) = split (test x) (shifted test (j + 1) xs)
  where
    split : (b : Bool) → position_from test (j + 1 + 1) xs ≡ option_map suc (position_from test (j + 1) xs)
        → cond b (Some (j + 1)) (position_from test (j + 1 + 1) xs)
        ≡ option_map suc (cond b (Some j) (position_from test (j + 1) xs))
    split true h = ap Some (add-one j)
    split false h = h

behind : (i : ℕ) (is : List ℕ) (o : Option ℕ)
    → option_and_then (slice_get (i ∷ is)) (option_map suc o) ≡ option_and_then (slice_get is) o
behind i is None = refl
behind i is (Some k) = refl

-- the first flag that is on stands where, of those that wait, the first stands that passes
first_among : {X : Type 0} (test : X → Bool) (flags waits : List Bool) (xs : List X) (i : ℕ) → length flags ≡ length xs
    → length waits ≡ length xs
    → ((k : ℕ) (d : X) → k < length xs → member flags k ≡ (member waits k && test (get_or xs k d)))
    → position_from (λ b. b) i flags
    ≡ option_and_then (slice_get (items_where_true waits (range_with_len i (length xs))))
    (position_from test 0 (items_where_true waits xs))
first_among test [] [] [] i lf lw each = refl
first_among test [] (b ∷ bs) [] i lf lw each = absurd (omega (arith, lw))
first_among test (f ∷ fs) waits [] i lf lw each = absurd (omega (arith, lf))
first_among test [] waits (x ∷ xs) i lf lw each = absurd (omega (arith, lf))
first_among test (f ∷ fs) [] (x ∷ xs) i lf lw each = absurd (omega (arith, lw))
first_among test (f ∷ fs) (false ∷ bs) (x ∷ xs) i lf lw each =
    ap (λ b. cond b (Some i) (position_from (λ b. b) (i + 1) fs)) (each 0 x (omega arith))
    ∙ first_among test fs bs xs (i + 1) (omega (arith, lf)) (omega (arith, lw))
    (λ k d lt. each (suc k) d (omega (arith, lt)))
first_among test (f ∷ fs) (true ∷ bs) (x ∷ xs) i lf lw each =
    ap (λ b. cond b (Some i) (position_from (λ b. b) (i + 1) fs)) (each 0 x (omega arith))
    ∙ split (test x) (first_among test fs bs xs (i + 1) (omega (arith, lf)) (omega (arith, lw))
    (λ k d lt. each (suc k) d (omega (arith, lt))))
  where
    places : List ℕ
    places = items_where_true bs (range_with_len (i + 1) (length xs))

    split : (b : Bool) → position_from (λ b. b) (i + 1) fs
        ≡ option_and_then (slice_get places) (position_from test 0 (items_where_true bs xs))
        → cond b (Some i) (position_from (λ b. b) (i + 1) fs)
        ≡ option_and_then (slice_get (i ∷ places))
        (cond b (Some 0) (position_from test (0 + 1) (items_where_true bs xs)))
    split true h = refl
    split false h = h ∙ sym (ap (option_and_then (slice_get (i ∷ places))) (shifted test 0 (items_where_true bs xs))
        ∙ behind i places (position_from test 0 (items_where_true bs xs)))

and_more : (a b c : Bool) → ((a && b) && c) ≡ (a && (b && c))
and_more true b c = refl
and_more false b c = refl

-- what is noted of each entry is whether it waits and is ready
ready_is : (needs : List Need) (waits : List Bool) (started : List Label) (done capacity : ℕ) (sn : List (List ℕ))
    (s : WantsState) (gn : List (List ℕ)) (g : WantsState) (ready : List Bool)
    → IsKept needs waits started done capacity sn s gn g ready → (k : ℕ) (d : Need) → k < length needs
    → member ready k ≡ (member waits k && is_ready started (get_or needs k d))
ready_is needs waits started done capacity sn s gn g ready kept k d lt =
    kept.of_ready.each k (omega (arith, lt, kept.of_services.count)) (omega (arith, lt, kept.of_services.count))
    ∙ and_more (member waits k) (is_free s k) (is_free g k)
    ∙ (λ i. member waits k && (by_service i && by_group i))
  where
    by_service : is_free s k ≡ list_all (has_name started) (get_or needs k d).services
    by_service =
        (λ i. is_free (record {
          count = s.count;
          owners = kept.of_services.owners i;
          met = (kept.of_services.met ∙ ap (map (meets Service started)) kept.of_services.all_given) i;
        }) k)
        ∙ free_is Service (has_name started) needs k d lt

    by_group : is_free g k ≡ list_all (has_group started) (get_or needs k d).groups
    by_group =
        (λ i. is_free (record {
          count = g.count;
          owners = kept.of_groups.owners i;
          met = (kept.of_groups.met ∙ ap (map (meets Group started)) kept.of_groups.all_given) i;
        }) k)
        ∙ free_is Group (has_group started) needs k d lt

-- so the first ready flag is the entry that the book takes next among those that wait
pub next_is : (needs : List Need) (waits : List Bool) (started : List Label) (done capacity : ℕ) (sn : List (List ℕ))
    (s : WantsState) (gn : List (List ℕ)) (g : WantsState) (ready : List Bool)
    → IsKept needs waits started done capacity sn s gn g ready
    → position (λ b. b) ready
    ≡ option_and_then (slice_get (items_where_true waits (range_with_len 0 (length needs))))
    (next_of started (items_where_true waits needs))
next_is needs waits started done capacity sn s gn g ready kept =
    position_from-zero (λ b. b) ready
    ∙ first_among (is_ready started) ready waits needs 0 (kept.of_ready.len ∙ kept.of_services.count) kept.len
    (ready_is needs waits started done capacity sn s gn g ready kept)
    ∙ ap (option_and_then (slice_get (items_where_true waits (range_with_len 0 (length needs)))))
    (sym (position_from-zero (is_ready started) (items_where_true waits needs)))

-- it waits
pub next_waits : (needs : List Need) (waits : List Bool) (started : List Label) (done capacity : ℕ) (sn : List (List ℕ))
    (s : WantsState) (gn : List (List ℕ)) (g : WantsState) (ready : List Bool)
    → IsKept needs waits started done capacity sn s gn g ready → (at : ℕ) → Some at ≡ position (λ b. b) ready
    → member waits at ≡ true
next_waits needs waits started done capacity sn s gn g ready kept at is =
    let found = position-Some (λ b. b) ready at false (sym is) in
    let lt : at < length needs = omega (arith, found.0, kept.of_ready.len, kept.of_services.count) in
    let none : Need = record { name = []; start = 0; group = None; services = []; groups = [] } in
    (and_parts (member waits at) (is_ready started (get_or needs at none))
    (sym (ready_is needs waits started done capacity sn s gn g ready kept at none lt) ∙ found.1)).0

-- ---- the places that are left

-- what is picked from a longer list is what was picked before, and the last one if it is on
picked_push : {X : Type 0} (bs : List Bool) (xs : List X) (b : Bool) (x : X) → length bs ≡ length xs
    → items_where_true (bs ++ b ∷ []) (xs ++ x ∷ []) ≡ items_where_true bs xs ++ cond b (x ∷ []) []
picked_push [] [] true x len = refl
picked_push [] [] false x len = refl
picked_push [] (y ∷ ys) b x len = absurd (omega (arith, len))
picked_push (c ∷ cs) [] b x len = absurd (omega (arith, len))
picked_push (true ∷ cs) (y ∷ ys) b x len = ap (λ l. y ∷ l) (picked_push cs ys b x (omega (arith, len)))
picked_push (false ∷ cs) (y ∷ ys) b x len = picked_push cs ys b x (omega (arith, len))

pub range_push : (n : ℕ) → range_with_len 0 (n + 1) ≡ range_with_len 0 n ++ n ∷ []
range_push n = sym (map-id (range_with_len 0 (n + 1))) ∙ map-range_with_len_more (λ k. k) 0 n n (omega arith)
    ∙ ap (λ l. l ++ n ∷ []) (map-id (range_with_len 0 n))

-- so the places that are left are gathered one by one
left_more : (waits : List Bool) (i : ℕ) → i < length waits
    → items_where_true (take (i + 1) waits) (range_with_len 0 (i + 1))
    ≡ items_where_true (take i waits) (range_with_len 0 i) ++ cond (member waits i) (i ∷ []) []
left_more waits i lt =
    (λ j. items_where_true (take_more waits i false lt j) (range_push i j))
    ∙ picked_push (take i waits) (range_with_len 0 i) (member waits i) i
    (length-take-le i waits (omega (arith, lt)) ∙ sym (length-range_with_len 0 i))

pub left_yes : (waits : List Bool) (i : ℕ) → i < length waits → member waits i ≡ true
    → items_where_true (take (i + 1) waits) (range_with_len 0 (i + 1))
    ≡ items_where_true (take i waits) (range_with_len 0 i) ++ i ∷ []
left_yes waits i lt on = left_more waits i lt
    ∙ ap (λ b. items_where_true (take i waits) (range_with_len 0 i) ++ cond b (i ∷ []) []) on

pub left_not : (waits : List Bool) (i : ℕ) → i < length waits → member waits i ≡ false
    → items_where_true (take (i + 1) waits) (range_with_len 0 (i + 1))
    ≡ items_where_true (take i waits) (range_with_len 0 i)
left_not waits i lt none =
    left_more waits i lt ∙ ap (λ b. items_where_true (take i waits) (range_with_len 0 i) ++ cond b (i ∷ []) []) none
    ∙ append-nil (items_where_true (take i waits) (range_with_len 0 i))

-- ---- an entry that was tried

-- one fewer waits
pub fewer_wait : (waits : List Bool) (place : ℕ) → place < length waits → member waits place ≡ true
    → count_by (λ b. b) (set waits place false) + 1 ≡ count_by (λ b. b) waits
fewer_wait waits place lt on =
    let s : ◌≡◌ {A = ℕ} (count_by (λ b. b) (set waits place false) + cond (member waits place) 1 0)
    (count_by (λ b. b) waits + 0) = sum_by-set (λ x. cond x 1 0) waits place false false lt in
    let one : ◌≡◌ {A = ℕ} (cond (member waits place) 1 0) 1 = ap (λ b. cond b 1 0) on in
    omega (arith, s, one)

pub within_waits : (waits : List Bool) (place : ℕ) → member waits place ≡ true → place < length waits
within_waits [] place h = absurd (false≢true h)
within_waits (b ∷ bs) zero h = omega arith
within_waits (b ∷ bs) (suc k) h = omega (arith, within_waits bs k h)

-- it is out
pub taken_out : (ready waits : List Bool) (a b : WantsState) (place : ℕ) → AreReadyBut a.count ready waits a b
    → place < a.count → AreReadyBut a.count (set ready place false) (set waits place false) a b
taken_out ready waits a b place old lt = record {
  len = length-set ready place false ∙ old.len;
  waits_len = length-set waits place false ∙ old.waits_len;
  other_count = old.other_count;
  each = λ p below but. elim (cases_eq p place) [
    | inl e ↦
        ap (member (set ready place false)) e ∙ get_or-set_same ready place false false (omega (arith, lt, old.len))
        ∙ sym (ap (λ w. (w && is_free a p) && is_free b p)
        (ap (member (set waits place false)) e
        ∙ get_or-set_same waits place false false (omega (arith, lt, old.waits_len))))
    | inr ne ↦
        get_or-set_other ready place p false false ne ∙ old.each p below but
        ∙ sym (ap (λ w. (w && is_free a p) && is_free b p) (get_or-set_other waits place p false false ne))
  ];
}

flip : (w a b : Bool) → ((w && a) && b) ≡ ((w && b) && a)
flip true true true = refl
flip true true false = refl
flip true false true = refl
flip true false false = refl
flip false a b = refl

-- the two kinds change their places
pub swapped : (ready waits : List Bool) (a b : WantsState) → AreReadyBut a.count ready waits a b
    → AreReadyBut b.count ready waits b a
swapped ready waits a b old = record {
  len = old.len ∙ sym old.other_count;
  waits_len = old.waits_len ∙ sym old.other_count;
  other_count = sym old.other_count;
  each = λ p below but. old.each p (omega (arith, below, old.other_count)) (omega (arith, below, old.other_count))
      ∙ flip (member waits p) (is_free a p) (is_free b p);
}

-- who was started, with one more
pub started_more : (first : List Label) (needs : List Need) (done : List ℕ) (place : ℕ)
    → first ++ flat_map (labels_at needs) (done ++ place ∷ []) ≡ (first ++ flat_map (labels_at needs) done)
    ++ labels_at needs place
started_more first needs done place = sym (flat_map_more (labels_at needs) first done place)

pub label_is : (needs : List Need) (place : ℕ) (need : Need) → place < length needs → need ≡ get_or needs place need
    → labels_at needs place ≡ label_of need ∷ []
label_is needs place need lt is =
    ap (λ o. option_to_list (option_map label_of o)) (slice_get_read needs (length needs) place need refl lt is)

-- where it failed
pub kept_out : (needs : List Need) (waits : List Bool) (started : List Label) (done capacity : ℕ) (sn : List (List ℕ))
    (s : WantsState) (gn : List (List ℕ)) (g : WantsState) (ready : List Bool)
    → IsKept needs waits started done capacity sn s gn g ready → (place : ℕ) → member waits place ≡ true
    → IsKept needs (set waits place false) started done capacity sn s gn g (set ready place false)
kept_out needs waits started done capacity sn s gn g ready kept place on =
    let lt = within_waits waits place on in
    record {
      few = kept.few;
      len = length-set waits place false ∙ kept.len;
      room = omega (arith, kept.room, fewer_wait waits place lt on);
      of_services = kept.of_services;
      of_groups = kept.of_groups;
      of_ready = taken_out ready waits s g place kept.of_ready (omega (arith, lt, kept.len, kept.of_services.count));
    }

-- where it was started
pub kept_started : (needs : List Need) (waits : List Bool) (started started' : List Label)
    (done done' capacity capacity' : ℕ) (sn : List (List ℕ)) (s s' : WantsState) (gn : List (List ℕ))
    (g g' : WantsState) (ready ready' : List Bool)
    → IsKept needs waits started done capacity sn s gn g ready → (place : ℕ) → member waits place ≡ true
    → (need : Need) (name : List ℕ) (group : Option (List ℕ)) → need ≡ get_or needs place need → name ≡ need.name
    → group ≡ need.group
    → IsNearer s s' → ((k : ℕ) → k < length sn → member s'.met k ≡ (member s.met k || folds_same name (get_or sn k [])))
    → IsNearer g g' → ((k : ℕ) → k < length gn
    → member g'.met k ≡ (member g.met k || option_map_or (λ q. folds_same q (get_or gn k [])) group false))
    → AreReadyBut g'.count ready' (set waits place false) g' s'
    → started' ≡ started ++ labels_at needs place → done' ≡ done + 1 → capacity ≤ capacity'
    → IsKept needs (set waits place false) started' done' capacity' sn s' gn g' ready'
kept_started needs waits started started' done done' capacity capacity' sn s s' gn g g' ready ready' kept place on need
    name group is name_is group_is near_s each_s near_g each_g fresh more done_is room =
    let lt = within_waits waits place on in
    let started_is : started' ≡ started ++ label_of need ∷ [] =
    more ∙ ap (λ l. started ++ l) (label_is needs place need (omega (arith, lt, kept.len)) is) in
    record {
      few = kept.few;
      len = length-set waits place false ∙ kept.len;
      room = omega (arith, kept.room, fewer_wait waits place lt on, done_is, room);
      of_services = rw started_is (met_by_start Service needs started (label_of need) sn s s' kept.of_services near_s
          (λ k l. each_s k l ∙ ap (λ b. member s.met k || b)
          (ap (λ n. folds_same n (get_or sn k [])) name_is ∙ name_meets need (get_or sn k []))));
      of_groups = rw started_is (met_by_start Group needs started (label_of need) gn g g' kept.of_groups near_g
          (λ k l. each_g k l ∙ ap (λ b. member g.met k || b)
          (ap (λ o. option_map_or (λ q. folds_same q (get_or gn k [])) o false) group_is
          ∙ group_meets need (get_or gn k []))));
      of_ready = swapped ready' (set waits place false) g' s' fresh;
    }

-- ---- how many tests were made

pub none_raised : (t n : ℕ) → t ≡ raised t (n - n)
none_raised t n = omega arith

raised_twice : (t t' t'' a a' b b' : ℕ) → t' ≡ raised t (a - a') → t'' ≡ raised t' (b - b') → a' ≤ a → b' ≤ b
    → t'' ≡ raised t ((a + b) - (a' + b'))
raised_twice t t' t'' a a' b b' one two less_a less_b = omega arith

pub raised_sum : (t t' t'' a b : ℕ) → t' ≡ raised t a → t'' ≡ raised t' b → t'' ≡ raised t (a + b)
raised_sum t t' t'' a b one two = omega arith

-- the tests of a start: the wants of services and of groups that it is the first to meet
pub tests_of_start : (needs : List Need) (started started' : List Label) (sn : List (List ℕ)) (s s' : WantsState)
    (gn : List (List ℕ)) (g g' : WantsState) (t t' t'' : ℕ)
    → AreWantsOf Service needs started sn s → AreWantsOf Service needs started' sn s'
    → AreWantsOf Group needs started gn g → AreWantsOf Group needs started' gn g'
    → IsNearer s s' → IsNearer g g' → t' ≡ raised t (count_by not s.met - count_by not s'.met)
    → t'' ≡ raised t' (count_by not g.met - count_by not g'.met)
    → t'' ≡ raised t (unmet_count needs started - unmet_count needs started')
tests_of_start needs started started' sn s s' gn g g' t t' t'' os os' og og' near_s near_g one two =
    let a = unmet_of Service needs started sn s os in
    let a' = unmet_of Service needs started' sn s' os' in
    let b = unmet_of Group needs started gn g og in
    let b' = unmet_of Group needs started' gn g' og' in
    raised_twice t t' t'' (count_by not s.met) (count_by not s'.met) (count_by not g.met) (count_by not g'.met)
    one two near_s.fewer near_g.fewer
    ∙ (λ i. raised t ((a i + b i) - (a' i + b' i)))
