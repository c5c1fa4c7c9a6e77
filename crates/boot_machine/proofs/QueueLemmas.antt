-- The entries that wait, among all entries of a phase.
use Rattle.std.proofs.Common.{◌≡◌, ℕ, zero, suc, ◌+◌, ◌<◌, Bool, true, false, List, [], ◌∷◌, ◌++◌, length, map, set, replicate, Option, Some, None, refl, sym, ap, ◌∙◌, subst, arith}
use Rattle.std.specs.Prelude.{slice_get, remove, if◌then◌else◌}
use Rattle.std.specs.List.{items_where_true, range_with_len, filter_map, cons_option}
use Rattle.std.specs.Borrow.{Bor}
use Rattle.std.specs.Option.{option_copied, option_map, option_and_then, option_to_list, is_some}
use Rattle.std.specs.Prelude.{Result, IfOk, IsSome}
use Rattle.std.specs.declared.alloc.AllocError.{AllocError}
use Rattle.std.proofs.lemmas.Bool.{false≢true}
use Rattle.std.proofs.lemmas.List.Quantifiers.{position-Some}
use Rattle.std.proofs.lemmas.List.{length-map}
use Rattle.std.proofs.lemmas.Option.{slice_get-map}
use Rattle.start_model.specs.Demand.{Need}
use Rattle.start_model.specs.Entries.{Entry, need_of}
use Rattle.start_model.specs.Ready.{Label, is_ready, next_of}
use Rattle.start_model.specs.Machine.{label_of}
use Rattle.dependencies.specs.Waiting as deps
use Rattle.dependencies.specs.Waiting.{WaitingState, waiting_in, places_in, next_place_in, labels_at, after_trying}
use Rattle.dependencies.proofs.PickedLemmas.{all_picked, as_many, picked, some_is}
use Rattle.boot_machine.specs.declared.boot_machine.parts.Rest.{Rest}
use Rattle.boot_machine.specs.boot_machine.Parts.{rest_of, joined, all_joined}
use Rattle.boot_machine.specs.boot_machine.Steps.{is_there}
use Rattle.boot_machine.specs.boot_machine.Queue.{QueueState, next_among, IsFirst, TakesFirst}
use Rattle.boot_machine.proofs.PartLemmas.{joined_again, needs_joined, joined_at}

-- ---- the items that are picked

pub picked_map : {X Y : Type 0} (f : X → Y) (bs : List Bool) (xs : List X)
    → items_where_true bs (map f xs) ≡ map f (items_where_true bs xs)
picked_map f [] xs = refl
picked_map f (b ∷ bs) [] = refl
picked_map f (true ∷ bs) (x ∷ xs) = ap (λ l. f x ∷ l) (picked_map f bs xs)
picked_map f (false ∷ bs) (x ∷ xs) = picked_map f bs xs

-- ---- the next one

and_then_there : {X Y : Type 0} (f : X → Option Y) (o : Option X) → ((x : X) → o ≡ Some x → is_there (f x) ≡ true)
    → is_there (option_and_then f o) ≡ is_there o
and_then_there f None h = refl
and_then_there f (Some x) h = h x refl

there_at : {X : Type 0} (xs : List X) (k : ℕ) → k < length xs → is_there (slice_get xs k) ≡ true
there_at [] k lt = absurd (omega (arith, lt))
there_at (x ∷ xs) zero lt = refl
there_at (x ∷ xs) (suc k) lt = there_at xs k (omega (arith, lt))

-- what the queue's next is among all of the phase
waiting_is : (w : WaitingState) (entries : List Entry) → w.needs ≡ map need_of entries
    → waiting_in w ≡ map need_of (items_where_true w.waits entries)
waiting_is w entries is = ap (items_where_true w.waits) is ∙ picked_map need_of w.waits entries

places_are : (w : WaitingState) (entries : List Entry) → w.needs ≡ map need_of entries
    → places_in w ≡ items_where_true w.waits (range_with_len 0 (length entries))
places_are w entries is =
    ap (λ n. items_where_true w.waits (range_with_len 0 n)) (ap length is ∙ length-map entries need_of)

abbrev pub queue_with : WaitingState → List Entry → QueueState
queue_with w entries = record { waiting = items_where_true w.waits entries; started = w.started }

next_is : (w : WaitingState) (entries : List Entry) → w.needs ≡ map need_of entries
    → next_place_in w ≡ option_and_then (slice_get (items_where_true w.waits (range_with_len 0 (length entries))))
    (next_among (queue_with w entries))
next_is w entries is = λ i. option_and_then (slice_get (places_are w entries is i))
    (next_of w.started (waiting_is w entries is i))

pub next_there : (w : WaitingState) (entries : List Entry) → w.needs ≡ map need_of entries
    → is_there (next_place_in w) ≡ is_there (next_among (queue_with w entries))
next_there w entries is =
    ap is_there (next_is w entries is)
    ∙ and_then_there (slice_get (items_where_true w.waits (range_with_len 0 (length entries))))
    (next_among (queue_with w entries)) within
  where
    none : Need
    none = record { name = []; start = 0; group = None; services = []; groups = [] }

    within : (k : ℕ) → next_among (queue_with w entries) ≡ Some k
        → is_there (slice_get (items_where_true w.waits (range_with_len 0 (length entries))) k) ≡ true
    within k e =
        there_at (items_where_true w.waits (range_with_len 0 (length entries))) k
        (omega (
          arith,
          as_many w.waits entries 0,
          length-map (items_where_true w.waits entries) need_of,
          (position-Some (is_ready w.started) (map need_of (items_where_true w.waits entries)) k none e).0,
        ))

pub record HasFirst (w : WaitingState) (entries : List Entry) (at : ℕ) : Type 0 where
  pub place : ℕ
  pub within : at < length entries
  pub next : next_among (queue_with w entries) ≡ Some place
  pub same : slice_get (items_where_true w.waits entries) place ≡ slice_get entries at
  pub others : items_where_true (set w.waits at false) entries ≡ remove (items_where_true w.waits entries) place

by_place : (w : WaitingState) (entries : List Entry) (at : ℕ) (o : Option ℕ) → next_among (queue_with w entries) ≡ o
    → option_and_then (slice_get (items_where_true w.waits (range_with_len 0 (length entries)))) o ≡ Some at
    → HasFirst w entries at
by_place w entries at None e h = absurd cc
by_place w entries at (Some k) e h =
    let p = picked w.waits entries 0 k at h in
    let here : p.j ≡ at = omega (arith, p.here) in
    record {
      place = k;
      within = omega (arith, p.within, here);
      next = e;
      same = p.same ∙ ap (slice_get entries) here;
      others = ap (λ j. items_where_true (set w.waits j false) entries) (sym here) ∙ p.others;
    }

pub first_at : (w : WaitingState) (entries : List Entry) (at : ℕ) → w.needs ≡ map need_of entries
    → Some at ≡ next_place_in w → HasFirst w entries at
first_at w entries at is h =
    by_place w entries at (next_among (queue_with w entries)) refl (sym (next_is w entries is) ∙ sym h)

place_same : (k l : ℕ) (o : Option ℕ) → o ≡ Some k → o ≡ Some l → k ≡ l
place_same k l o a b = some_is k l (sym a ∙ b)

labels_are : (entries : List Entry) (at : ℕ) (e : Entry) → slice_get entries at ≡ Some e
    → labels_at (map need_of entries) at ≡ label_of e ∷ []
labels_are entries at e h =
    ap (λ o. option_to_list (option_map deps.label_of o)) (slice_get-map need_of entries at ∙ ap (option_map need_of) h)

pub takes_first : (w w' : WaitingState) (entries : List Entry) (at : ℕ) (ok : Bool) → w.needs ≡ map need_of entries
    → Some at ≡ next_place_in w → w' ≡ after_trying w at ok
    → (e : Entry) → IsFirst (queue_with w entries) e → TakesFirst (queue_with w entries) (queue_with w' entries) e ok
takes_first w w' entries at ok is h after e first =
    let has = first_at w entries at is h in
    let same : has.place ≡ first.place =
    place_same has.place first.place (next_among (queue_with w entries)) has.next first.next in
    let here : slice_get entries at ≡ Some e =
    sym has.same ∙ ap (slice_get (items_where_true w.waits entries)) same ∙ first.entry in
    record {
      place = first.place;
      next = first.next;
      entry = first.entry;
      waiting = ap (λ (v : WaitingState). items_where_true v.waits entries) after ∙ has.others
          ∙ ap (remove (items_where_true w.waits entries)) same;
      started = ap (λ (v : WaitingState). v.started) after
          ∙ ap (λ l. if ok then w.started ++ l else w.started)
          (ap (λ n. labels_at n at) is ∙ labels_are entries at e here);
    }

-- ---- a queue that keeps the rests beside what is needed

abbrev pub entries_in : WaitingState → List Rest → List Entry
entries_in w rests = all_joined w.needs rests

abbrev pub queue_of : WaitingState → List Rest → QueueState
queue_of w rests = queue_with w (entries_in w rests)

pub next_is_there : (w : WaitingState) (rests : List Rest) → length rests ≡ length w.needs
    → is_there (next_place_in w) ≡ is_there (next_among (queue_of w rests))
next_is_there w rests as_many = next_there w (entries_in w rests) (needs_joined w.needs rests as_many)

-- the next place is one of the phase
pub next_within : (w : WaitingState) (rests : List Rest) (at : ℕ) → length rests ≡ length w.needs
    → Some at ≡ next_place_in w → at < length rests
next_within w rests at as_many next =
    let has = first_at w (entries_in w rests) at (needs_joined w.needs rests as_many) next in
    omega (
      arith,
      has.within,
      ap length (needs_joined w.needs rests as_many),
      length-map (entries_in w rests) need_of,
      as_many,
    )

-- what stands there makes the first entry
pub first_by_parts : (w : WaitingState) (rests : List Rest) (at : ℕ) (n : Need) (r : Rest)
    → length rests ≡ length w.needs → Some at ≡ next_place_in w
    → slice_get w.needs at ≡ Some n → slice_get rests at ≡ Some r → IsFirst (queue_of w rests) (joined n r)
first_by_parts w rests at n r as_many next here beside =
    let has = first_at w (entries_in w rests) at (needs_joined w.needs rests as_many) next in
    record { place = has.place; next = has.next; entry = has.same ∙ joined_at w.needs rests at n r here beside }

pub first_taken : (w w' : WaitingState) (rests : List Rest) (at : ℕ) (ok : Bool) → length rests ≡ length w.needs
    → Some at ≡ next_place_in w → w' ≡ after_trying w at ok
    → (e : Entry) → IsFirst (queue_of w rests) e → TakesFirst (queue_of w rests) (queue_of w' rests) e ok
first_taken w w' rests at ok as_many next after e first =
    let P : List Need → Type 0 = λ needs. TakesFirst (queue_of w rests) (queue_with w' (all_joined needs rests)) e ok in
    subst P (sym (ap (λ (v : WaitingState). v.needs) after))
    (takes_first w w' (entries_in w rests) at ok (needs_joined w.needs rests as_many) next after e first)

-- ---- the names of those that wait

names_of_places : (bs : List Bool) (needs all : List Need) (i : ℕ)
    → ((k : ℕ) → slice_get needs k ≡ slice_get all (i + k))
    → filter_map (λ p. option_map (λ n. n.name) (slice_get all p))
    (items_where_true bs (range_with_len i (length needs))) ≡ map (λ n. n.name) (items_where_true bs needs)
names_of_places [] needs all i at = refl
names_of_places (b ∷ bs) [] all i at = refl
names_of_places (true ∷ bs) (n ∷ ns) all i at =
    ap (λ o. cons_option (option_map (λ (x : Need). x.name) o)
    (filter_map (λ p. option_map (λ (x : Need). x.name) (slice_get all p))
    (items_where_true bs (range_with_len (i + 1) (length ns)))))
    (ap (slice_get all) (let z : i ≡ i + 0 = omega arith in z) ∙ sym (at 0))
    ∙ ap (λ l. n.name ∷ l) (names_of_places bs ns all (i + 1)
    (λ k. at (suc k) ∙ ap (slice_get all) (let z : i + suc k ≡ i + 1 + k = omega arith in z)))
names_of_places (false ∷ bs) (n ∷ ns) all i at =
    names_of_places bs ns all (i + 1)
    (λ k. at (suc k) ∙ ap (slice_get all) (let z : i + suc k ≡ i + 1 + k = omega arith in z))

names_needed : (entries : List Entry) → map (λ n. n.name) (map need_of entries) ≡ map (λ e. e.name) entries
names_needed [] = refl
names_needed (e ∷ es) = ap (λ l. e.name ∷ l) (names_needed es)

every_name : (w : WaitingState) (rests : List Rest) → length rests ≡ length w.needs
    → filter_map (λ p. option_map (λ n. n.name) (slice_get w.needs p)) (places_in w)
    ≡ map (λ e. e.name) (items_where_true w.waits (entries_in w rests))
every_name w rests as_many =
    names_of_places w.waits w.needs w.needs 0 (λ k. ap (slice_get w.needs) (let z : k ≡ 0 + k = omega arith in z))
    ∙ ap (map (λ (n : Need). n.name)) (waiting_is w (entries_in w rests) (needs_joined w.needs rests as_many))
    ∙ names_needed (items_where_true w.waits (entries_in w rests))

pub names_by : (w : WaitingState) (rests : List Rest) (places : List ℕ) (r : Result (List (List ℕ)) AllocError)
    → length rests ≡ length w.needs → places ≡ places_in w
    → IfOk r (λ names. names ≡ filter_map (λ p. option_map (λ n. n.name) (slice_get w.needs p)) places)
    → IfOk r (λ names. names ≡ map (λ e. e.name) (items_where_true w.waits (entries_in w rests)))
names_by w rests places r as_many at h =
    let P : List (List ℕ) → Type 0 = λ l. IfOk r (λ names. names ≡ l) in
    subst P (ap (filter_map (λ p. option_map (λ (n : Need). n.name) (slice_get w.needs p))) at
    ∙ every_name w rests as_many) h

-- ---- a queue in which all wait

pub new_queue : (w : WaitingState) (entries : List Entry) (needs : List Need) (rests : List Rest) (started : List Label)
    → w ≡ record { needs = needs; waits = replicate (length needs) true; started = started }
    → needs ≡ map need_of entries → rests ≡ map rest_of entries
    → queue_of w rests ≡ record { waiting = entries; started = started }
new_queue w entries needs rests started is of beside =
    let all : items_where_true (replicate (length needs) true) (all_joined needs rests) ≡ entries =
    (λ i. items_where_true (replicate (length (of i)) true) (all_joined (of i) (beside i)))
    ∙ (λ i. items_where_true (replicate (length-map entries need_of i) true) (joined_again entries i))
    ∙ all_picked entries in
    ap (λ v. queue_of v rests) is ∙ (λ i. record { waiting = all i; started = started })

pub some_is_there : (o : Option ℕ) → is_some o ≡ is_there o
some_is_there None = refl
some_is_there (Some x) = refl

pub is_some_there : (o : Option ℕ) → is_there o ≡ true → IsSome o
is_some_there None h = absurd (false≢true h)
is_some_there (Some x) h = refl

-- what is at a place of a list is there
pub some_within : {X : Type 0} (o : Option (Bor X)) (xs : List X) (k : ℕ) → option_copied o ≡ slice_get xs k
    → k < length xs → IsSome o
some_within None [] k is lt = absurd (omega (arith, lt))
some_within None (x ∷ xs) zero is lt = absurd cc
some_within None (x ∷ xs) (suc k) is lt = some_within None xs k is (omega (arith, lt))
some_within (Some b) xs k is lt = refl
