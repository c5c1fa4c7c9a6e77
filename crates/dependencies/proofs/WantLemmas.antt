-- Wants of entries: how many are not met, and what one that is met changes.
use Rattle.std.proofs.Common.{◌≡◌, ℕ, zero, suc, ◌+◌, ◌-◌, ◌<◌, ◌≤◌, ◌≢◌, Bool, true, false, not, nat_eq, ◌&&◌, cond, List, [], ◌∷◌, ◌++◌, length, map, take, get_or, set, replicate, inl, inr, refl, sym, ap, ◌∙◌, arith}
use Rattle.std.specs.Prelude.{All, count_by}
use Rattle.std.specs.List.{list_all}
use Rattle.std.proofs.lemmas.Bool.{cases_Bool, cases_eq, cases_lt, false≢true, eq-eqb, ne_eqb}
use Rattle.std.proofs.lemmas.List.{get_or-set_same, get_or-set_other, get_or-replicate, get_or_past, get_or_default, get_or-map, length-replicate, length-append, length-take-le, length-set, length-map, map-append, append-nil, append_assoc, take_more, flat_map_more, same_lists}
use Rattle.std.proofs.lemmas.List.Elements.{All-nil, All-append, All-map}
use Rattle.std.proofs.lemmas.List.Sums.{sum_by-cons}
use Rattle.start_model.specs.Demand.{Need, member}
use Rattle.dependencies.specs.declared.wants.Kind.{Kind}
use Rattle.dependencies.specs.Wants.{given, owners_from, names_given, WantsState, unmet_among, AreCounted}

-- ---- wants of which none is met

pub all_unmet : (owners : List ℕ) (p : ℕ)
    → unmet_among owners (replicate (length owners) false) p ≡ count_by (λ o. nat_eq o p) owners
all_unmet [] p = refl
all_unmet (o ∷ os) p = rest (nat_eq o p) (all_unmet os p) ∙ sym (sum_by-cons (λ o. cond (nat_eq o p) 1 0) o os)
  where
    rest : (b : Bool) → unmet_among os (replicate (length os) false) p ≡ count_by (λ o. nat_eq o p) os
        → ◌≡◌ {A = ℕ} (cond (b && true) 1 0 + unmet_among os (replicate (length os) false) p)
        (cond b 1 0 + count_by (λ o. nat_eq o p) os)
    rest true h = ap (λ n. 1 + n) h
    rest false h = ap (λ n. 0 + n) h

-- ---- one want that is marked

-- the owner has one want fewer that is not met, and others have as many
pub marked : (owners : List ℕ) (met : List Bool) (k p : ℕ) → k < length owners → length met ≡ length owners
    → member met k ≡ false
    → ◌≡◌ {A = ℕ} (unmet_among owners met p)
    (unmet_among owners (set met k true) p + cond (nat_eq (get_or owners k 0) p) 1 0)
marked [] met k p lt len un = absurd (omega (arith, lt))
marked (o ∷ os) [] k p lt len un = absurd (omega (arith, len))
marked (o ∷ os) (m ∷ ms) zero p lt len un = first m (nat_eq o p) un
  where
    first : (m b : Bool) → m ≡ false
        → ◌≡◌ {A = ℕ} (cond (b && not m) 1 0 + unmet_among os ms p)
        (cond (b && false) 1 0 + unmet_among os ms p + cond b 1 0)
    first true b un = absurd (false≢true (sym un))
    first false true un = omega arith
    first false false un = omega arith
marked (o ∷ os) (m ∷ ms) (suc k) p lt len un =
    omega (arith, marked os ms k p (omega (arith, lt)) (omega (arith, len)) un)

-- so it had one
pub had_one : (owners : List ℕ) (met : List Bool) (k : ℕ) → k < length owners → length met ≡ length owners
    → member met k ≡ false → 0 < unmet_among owners met (get_or owners k 0)
had_one owners met k lt len un =
    let own = get_or owners k 0 in
    let one : ◌≡◌ {A = ℕ} (cond (nat_eq own own) 1 0) 1 = ap (λ b. cond b 1 0) (eq-eqb own own refl) in
    omega (arith, marked owners met k own lt len un, one)

-- and the count of any other entry stays
pub others_keep : (owners : List ℕ) (met : List Bool) (k p : ℕ) → k < length owners → length met ≡ length owners
    → member met k ≡ false → p ≢ get_or owners k 0
    → unmet_among owners (set met k true) p ≡ unmet_among owners met p
others_keep owners met k p lt len un ne =
    let none : ◌≡◌ {A = ℕ} (cond (nat_eq (get_or owners k 0) p) 1 0) 0 =
    ap (λ b. cond b 1 0) (ne_eqb (get_or owners k 0) p (λ e. ne (sym e))) in
    omega (arith, marked owners met k p lt len un, none)

-- so the counts stay right when the owner's is one less
pub counted_after : (owners : List ℕ) (met : List Bool) (unmet : List ℕ) (k v : ℕ) → AreCounted owners met unmet
    → k < length met → member met k ≡ false
    → v ≡ get_or unmet (get_or owners k 0) 0 - 1 → AreCounted owners (set met k true) (set unmet (get_or owners k 0) v)
counted_after owners met unmet k v old lt un is =
    let own = get_or owners k 0 in
    let within : k < length owners = omega (arith, lt, old.len) in
    let small : own < length unmet = old.owned k 0 within in
    let same : length (set unmet own v) ≡ length unmet = length-set unmet own v in
    record {
      len = length-set met k true ∙ old.len;
      owned = λ j d l. rw same (old.owned j d l);
      counted = λ p l. elim (cases_eq p own) [
        | inl e ↦
            let at : get_or (set unmet own v) p 0 ≡ v =
            ap (λ j. get_or (set unmet own v) j 0) e ∙ get_or-set_same unmet own v 0 small in
            let one : ◌≡◌ {A = ℕ} (cond (nat_eq own p) 1 0) 1 = ap (λ b. cond b 1 0) (eq-eqb own p (sym e)) in
            let had : get_or unmet own 0 ≡ unmet_among owners met p =
            old.counted own small ∙ ap (unmet_among owners met) (sym e) in
            omega (arith, at, is, had, one, marked owners met k p within old.len un)
        | inr ne ↦ get_or-set_other unmet own p v 0 ne ∙ old.counted p (omega (arith, l, same))
            ∙ sym (others_keep owners met k p within old.len un ne)
      ];
    }

-- ---- the wants of the entry at a place

appended : (os os' : List ℕ) (ms ms' : List Bool) (p : ℕ) → length os ≡ length ms
    → unmet_among (os ++ os') (ms ++ ms') p ≡ unmet_among os ms p + unmet_among os' ms' p
appended [] os' [] ms' p len = omega arith
appended [] os' (m ∷ ms) ms' p len = absurd (omega (arith, len))
appended (o ∷ os) os' [] ms' p len = absurd (omega (arith, len))
appended (o ∷ os) os' (m ∷ ms) ms' p len = omega (arith, appended os os' ms ms' p (omega (arith, len)))

-- the wants of one entry count for that entry alone
of_one : (has : List ℕ → Bool) (i p : ℕ) (names : List (List ℕ))
    → unmet_among (map (λ g. i) names) (map has names) p ≡ cond (nat_eq i p) (count_by (λ n. not (has n)) names) 0
of_one has i p [] = elim (cases_Bool (nat_eq i p)) [ inl e ↦ rw e refl | inr e ↦ rw e refl ]
of_one has i p (n ∷ ns) =
    split (nat_eq i p) (of_one has i p ns)
    ∙ ap (λ c. cond (nat_eq i p) c 0) (sym (sum_by-cons (λ n. cond (not (has n)) 1 0) n ns))
  where
    split : (b : Bool) → unmet_among (map (λ g. i) ns) (map has ns) p ≡ cond b (count_by (λ n. not (has n)) ns) 0
        → ◌≡◌ {A = ℕ} (cond (b && not (has n)) 1 0 + unmet_among (map (λ g. i) ns) (map has ns) p)
        (cond b (cond (not (has n)) 1 0 + count_by (λ n. not (has n)) ns) 0)
    split true h = ap (λ m. cond (not (has n)) 1 0 + m) h
    split false h = omega (arith, h)

both_len : (has : List ℕ → Bool) (i : ℕ) (names : List (List ℕ)) → length (map (λ g. i) names) ≡ length (map has names)
both_len has i names = length-map names (λ g. i) ∙ sym (length-map names has)

-- owners from a place on are no earlier ones
none_before : (kind : Kind) (has : List ℕ → Bool) (i p : ℕ) (needs : List Need) → p < i
    → unmet_among (owners_from kind i needs) (map has (names_given kind needs)) p ≡ 0
none_before kind has i p [] lt = refl
none_before kind has i p (n ∷ ns) lt =
    let own = map (λ (g : List ℕ). i) (given kind n) in
    ap (λ ms. unmet_among (own ++ owners_from kind (i + 1) ns) ms p)
    (map-append has (given kind n) (names_given kind ns))
    ∙ appended own (owners_from kind (i + 1) ns) (map has (given kind n)) (map has (names_given kind ns)) p
    (both_len has i (given kind n))
    ∙ (let a : unmet_among own (map has (given kind n)) p ≡ 0 = of_one has i p (given kind n)
    ∙ ap (λ b. cond b (count_by (λ n. not (has n)) (given kind n)) 0) (ne_eqb i p (omega (arith, lt))) in
    omega (arith, a, none_before kind has (i + 1) p ns (omega (arith, lt))))

-- the unmet wants of an entry are its names that are not met
wants_from : (kind : Kind) (has : List ℕ → Bool) (i k p : ℕ) (needs : List Need) (d : Need) → k < length needs
    → p ≡ i + k
    → unmet_among (owners_from kind i needs) (map has (names_given kind needs)) p
    ≡ count_by (λ n. not (has n)) (given kind (get_or needs k d))
wants_from kind has i k p [] d lt at = absurd (omega (arith, lt))
wants_from kind has i zero p (n ∷ ns) d lt at =
    let own = map (λ (g : List ℕ). i) (given kind n) in
    ap (λ ms. unmet_among (own ++ owners_from kind (i + 1) ns) ms p)
    (map-append has (given kind n) (names_given kind ns))
    ∙ appended own (owners_from kind (i + 1) ns) (map has (given kind n)) (map has (names_given kind ns)) p
    (both_len has i (given kind n))
    ∙ (let a : unmet_among own (map has (given kind n)) p
    ≡ count_by (λ n. not (has n)) (given kind n) =
    of_one has i p (given kind n)
    ∙ ap (λ b. cond b (count_by (λ n. not (has n)) (given kind n)) 0) (eq-eqb i p (omega (arith, at))) in
    omega (arith, a, none_before kind has (i + 1) p ns (omega (arith, at))))
wants_from kind has i (suc k) p (n ∷ ns) d lt at =
    let own = map (λ (g : List ℕ). i) (given kind n) in
    ap (λ ms. unmet_among (own ++ owners_from kind (i + 1) ns) ms p)
    (map-append has (given kind n) (names_given kind ns))
    ∙ appended own (owners_from kind (i + 1) ns) (map has (given kind n)) (map has (names_given kind ns)) p
    (both_len has i (given kind n))
    ∙ (let a : unmet_among own (map has (given kind n)) p ≡ 0 = of_one has i p (given kind n)
    ∙ ap (λ b. cond b (count_by (λ n. not (has n)) (given kind n)) 0) (ne_eqb i p (omega (arith, at))) in
    omega (arith, a, wants_from kind has (i + 1) k p ns d (omega (arith, lt)) (omega (arith, at))))

-- none is unmet where all names are met
none_unmet : (has : List ℕ → Bool) (names : List (List ℕ))
    → nat_eq (count_by (λ n. not (has n)) names) 0 ≡ list_all has names
none_unmet has [] = refl
none_unmet has (n ∷ ns) =
    ap (λ c. nat_eq c 0) (sum_by-cons (λ n. cond (not (has n)) 1 0) n ns) ∙ split (has n) (none_unmet has ns)
  where
    split : (b : Bool) → nat_eq (count_by (λ n. not (has n)) ns) 0 ≡ list_all has ns
        → nat_eq (cond (not b) 1 0 + count_by (λ n. not (has n)) ns) 0 ≡ (b && list_all has ns)
    split true h = (let e : 0 + count_by (λ n. not (has n)) ns ≡ count_by (λ n. not (has n)) ns = omega arith in
        ap (λ c. nat_eq c 0) e) ∙ h
    split false h = ne_eqb (1 + count_by (λ n. not (has n)) ns) 0 (λ e. omega (arith, e))

-- an entry has no unmet wants where each of its names is met
pub free_is : (kind : Kind) (has : List ℕ → Bool) (needs : List Need) (p : ℕ) (d : Need) → p < length needs
    → nat_eq (unmet_among (owners_from kind 0 needs) (map has (names_given kind needs)) p) 0
    ≡ list_all has (given kind (get_or needs p d))
free_is kind has needs p d lt =
    ap (λ c. nat_eq c 0) (wants_from kind has 0 p p needs d lt (omega arith))
    ∙ none_unmet has (given kind (get_or needs p d))

-- ---- the owners of one more entry

pub owners_push : (kind : Kind) (i : ℕ) (needs : List Need) (n : Need) (p : ℕ) → p ≡ i + length needs
    → owners_from kind i (needs ++ n ∷ []) ≡ owners_from kind i needs ++ map (λ g. p) (given kind n)
owners_push kind i [] n p at =
    let same : i ≡ p = omega (arith, at) in
    append-nil (map (λ (g : List ℕ). i) (given kind n)) ∙ ap (λ j. map (λ (g : List ℕ). j) (given kind n)) same
owners_push kind i (m ∷ ms) n p at =
    let own = map (λ (g : List ℕ). i) (given kind m) in
    ap (λ os. own ++ os) (owners_push kind (i + 1) ms n p (omega (arith, at)))
    ∙ sym (append_assoc own (owners_from kind (i + 1) ms) (map (λ g. p) (given kind n)))

pub owners_within : (kind : Kind) (i : ℕ) (needs : List Need) (p : ℕ) → p ≡ i + length needs
    → All (λ o. o < p) (owners_from kind i needs)
owners_within kind i [] p at = All-nil (λ o. o < p)
owners_within kind i (n ∷ ns) p at =
    All-append (λ o. o < p) (map (λ g. i) (given kind n)) (owners_from kind (i + 1) ns)
    (All-map (λ o. o < p) (λ (g : List ℕ). i) (given kind n) (λ k d lt. omega (arith, at)))
    (owners_within kind (i + 1) ns p (omega (arith, at)))

-- ---- wants as they are made

pub unmet_yet : (n k : ℕ) → member (replicate n false) k ≡ false
unmet_yet n k = elim (cases_lt k n) [
  | inl lt ↦ get_or-replicate n k false false lt
  | inr le ↦ get_or_past (replicate n false) k false (omega (arith, le, length-replicate n false))
]

pub unmet_first : (met : List Bool) (n k : ℕ) → met ≡ replicate n false → member met k ≡ false
unmet_first met n k is = ap (λ ms. member ms k) is ∙ unmet_yet n k

-- the counts as they are made: of each entry how many wants it has, since none is met yet
pub counted_first : (owners : List ℕ) (met : List Bool) (counts : List ℕ) (count n : ℕ) → n ≡ length owners
    → met ≡ replicate n false → length counts ≡ count → All (λ o. o < count) owners
    → ((p : ℕ) → get_or counts p 0 ≡ count_by (λ o. nat_eq o p) owners) → AreCounted owners met counts
counted_first owners met counts count n same is len owned each = record {
  len = ap length is ∙ length-replicate n false ∙ same;
  owned = rw len owned;
  counted = λ p lt. each p ∙ sym (all_unmet owners p) ∙ ap (λ m. unmet_among owners (replicate m false) p) (sym same)
      ∙ ap (λ ms. unmet_among owners ms p) (sym is);
}

-- names and owners grow by those of the next entry
pub names_more : (kind : Kind) (needs : List Need) (i : ℕ) (n : Need) (names : List (List ℕ)) → i < length needs
    → n ≡ get_or needs i n → names ≡ names_given kind (take i needs)
    → names ++ given kind n ≡ names_given kind (take (i + 1) needs)
names_more kind needs i n names lt is so_far =
    ap (λ ns. ns ++ given kind n) so_far ∙ flat_map_more (given kind) [] (take i needs) n
    ∙ ap (names_given kind) (sym (take_more needs i n lt ∙ ap (λ m. take i needs ++ m ∷ []) (sym is)))

pub owners_more : (kind : Kind) (needs : List Need) (i : ℕ) (n : Need) (owners : List ℕ) → i < length needs
    → n ≡ get_or needs i n → owners ≡ owners_from kind 0 (take i needs)
    → owners ++ map (λ g. i) (given kind n) ≡ owners_from kind 0 (take (i + 1) needs)
owners_more kind needs i n owners lt is so_far =
    ap (λ os. os ++ map (λ (g : List ℕ). i) (given kind n)) so_far
    ∙ sym (owners_push kind 0 (take i needs) n i (omega (arith, length-take-le i needs (omega (arith, lt)))))
    ∙ ap (owners_from kind 0) (sym (take_more needs i n lt ∙ ap (λ m. take i needs ++ m ∷ []) (sym is)))

pub same_wants : (w : WantsState) (count : ℕ) (owners : List ℕ) (met : List Bool) → w.count ≡ count → w.owners ≡ owners
    → w.met ≡ met
    → w ≡ record { count = count; owners = owners; met = met }
same_wants w count owners met a b c = λ i. record { count = a i; owners = b i; met = c i }

-- the tests of all names
pub all_tested : (has : List ℕ → Bool) (names : List (List ℕ)) (met : List Bool) (n : ℕ) → length met ≡ length names
    → length names ≤ n
    → ((k : ℕ) → k < n → member met k ≡ has (get_or names k [])) → met ≡ map has names
all_tested has names met n len all each =
    same_lists met (map has names) (len ∙ sym (length-map names has))
    (λ k d lt. get_or_default met k d false lt ∙ each k (omega (arith, lt, len, all))
    ∙ sym (get_or-map has names k [] d (omega (arith, lt, len))))

-- each name has an owner
pub owners_len : (kind : Kind) (i : ℕ) (needs : List Need)
    → length (owners_from kind i needs) ≡ length (names_given kind needs)
owners_len kind i [] = refl
owners_len kind i (n ∷ ns) =
    omega (
      arith,
      length-append (map (λ (g : List ℕ). i) (given kind n)) (owners_from kind (i + 1) ns),
      length-append (given kind n) (names_given kind ns),
      length-map (given kind n) (λ g. i),
      owners_len kind (i + 1) ns,
    )
