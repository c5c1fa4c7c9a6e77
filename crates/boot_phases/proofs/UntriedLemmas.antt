-- The entries that the automatic phase chooses among, by their index and by their place.
use Rattle.std.proofs.Common.{◌≡◌, ℕ, zero, suc, ◌+◌, ◌<◌, ◌≤◌, ◌≢◌, Bool, true, false, cond, nat_eq, List, [], ◌∷◌, ◌++◌, length, filter, get_or, Option, Some, None, refl, sym, ap, ◌∙◌, inl, inr, add-one, arith}
use Rattle.std.specs.Prelude.{All, slice_get, option_and_then}
use Rattle.std.specs.Option.{option_map, option_map_or}
use Rattle.std.specs.List.{AllByRecursion, range_with_len, cons_option}
use Rattle.std.proofs.lemmas.Bool.{false≢true, cases_lt, cases_eq, eqb-true, eq-eqb}
use Rattle.std.proofs.lemmas.Option.{slice_get-get_or, get_or_from_slice_get}
use Rattle.std.proofs.lemmas.List.{get_or_push, get_or_append_left, length_push, length-map}
use Rattle.std.proofs.lemmas.List.Elements.{recursion_from_All, All-push, All-weaker}
use Rattle.nt_bytes.specs.Folding.{folds_same}
use Rattle.nt_names.specs.name_places.Places.{places_named}
use Rattle.start_model.specs.Demand.{Need}
use Rattle.start_model.specs.Entries.{Entry, need_of, needs_at}
use Rattle.dependencies.specs.Work.{names_of}
use Rattle.dependencies.proofs.PulledLemmas.{filter-range_more}
use Rattle.boot_phases.specs.service_entries.Named.{is_named_at, IsOnlyPlace}
use Rattle.boot_phases.specs.boot_phases.Untried.{AreLedTo, indices_of}

-- ---- the numbers below n that pass

more : (p : ℕ → Bool) (n : ℕ)
    → filter p (range_with_len 0 (suc n)) ≡ filter p (range_with_len 0 n) ++ cond (p n) (n ∷ []) []
more p n = ap (λ m. filter p (range_with_len 0 m)) (sym (add-one n)) ∙ filter-range_more p n

agree_below : (p q : ℕ → Bool) (n : ℕ) → ((k : ℕ) → k < n → p k ≡ q k)
    → filter p (range_with_len 0 n) ≡ filter q (range_with_len 0 n)
agree_below p q zero same = refl
agree_below p q (suc n) same =
    more p n ∙ (λ j. agree_below p q n (λ k lt. same k (omega arith)) j ++ cond (same n (omega arith) j) (n ∷ []) [])
    ∙ sym (more q n)

none_below : (p : ℕ → Bool) (n : ℕ) → ((k : ℕ) → k < n → p k ≡ false) → filter p (range_with_len 0 n) ≡ []
none_below p zero off = refl
none_below p (suc n) off =
    more p n ∙ (λ j. none_below p n (λ k lt. off k (omega arith)) j ++ cond (off n (omega arith) j) (n ∷ []) [])

-- what is not true is false
not_true : (b : Bool) → b ≢ true → b ≡ false
not_true true ne = absurd (ne refl)
not_true false ne = refl

one_below : (p : ℕ → Bool) (n k : ℕ) → k < n → p k ≡ true → ((j : ℕ) → j < n → p j ≡ true → j ≡ k)
    → filter p (range_with_len 0 n) ≡ k ∷ []
one_below p zero k lt here only = absurd (omega arith)
one_below p (suc n) k lt here only =
    elim (cases_eq k n) [
      | inl e ↦
          (let none = none_below p n (λ j below. not_true (p j) (λ t. omega (arith, only j (omega arith) t, e))) in
          more p n ∙ (λ j. none j ++ cond ((ap p (sym e) ∙ here) j) (n ∷ []) []) ∙ ap (λ m. m ∷ []) (sym e))
      | inr ne ↦
          (let below : k < n = omega arith in
          let off = not_true (p n) (λ t. ne (sym (only n (omega arith) t))) in
          more p n ∙ (λ j. one_below p n k below here (λ i lt t. only i (omega arith) t) j ++ cond (off j) (n ∷ []) []))
    ]

-- ---- what is needed at an index

abbrev Within : List Entry → List ℕ → Type 0
Within es ps = AllByRecursion (λ p. p < length es) ps

stands : (es : List Entry) (p : ℕ) → p < length es → (e : Entry) × (slice_get es p ≡ Some e)
stands [] p lt = absurd (omega arith)
stands (e ∷ es) zero lt = (e, refl)
stands (e ∷ es) (suc p) lt = stands es p (omega arith)

-- the first need is that of the entry at the first place
first_need : (es : List Entry) (p : ℕ) (ps : List ℕ) (e : Entry) → slice_get es p ≡ Some e
    → needs_at es (p ∷ ps) ≡ need_of e ∷ needs_at es ps
first_need es p ps e is = ap (λ (o : Option Entry). cons_option (option_map need_of o) (needs_at es ps)) is

length_by : (es : List Entry) (ps : List ℕ) → Within es ps → length (needs_at es ps) ≡ length ps
length_by es [] h = refl
length_by es (p ∷ ps) h =
    let s = stands es p h.0 in
    ap length (first_need es p ps s.0 s.1) ∙ ap suc (length_by es ps h.1)

pub length-needs_at : (es : List Entry) (ps : List ℕ) → All (λ p. p < length es) ps
    → length (needs_at es ps) ≡ length ps
length-needs_at es ps h = length_by es ps (recursion_from_All (λ p. p < length es) ps h)

need_by : (es : List Entry) (ps : List ℕ) (k : ℕ) → Within es ps
    → option_map need_of (option_and_then (slice_get es) (slice_get ps k)) ≡ slice_get (needs_at es ps) k
need_by es [] k h = refl
need_by es (p ∷ ps) zero h =
    let s = stands es p h.0 in
    ap (option_map need_of) s.1 ∙ sym (ap (λ (ns : List Need). slice_get ns 0) (first_need es p ps s.0 s.1))
need_by es (p ∷ ps) (suc k) h =
    let s = stands es p h.0 in
    need_by es ps k h.1 ∙ sym (ap (λ (ns : List Need). slice_get ns (suc k)) (first_need es p ps s.0 s.1))

-- what the entry at a place needs that is at an index
pub need_there : (es : List Entry) (ps : List ℕ) (k : ℕ) → All (λ p. p < length es) ps
    → option_map need_of (option_and_then (slice_get es) (slice_get ps k)) ≡ slice_get (needs_at es ps) k
need_there es ps k h = need_by es ps k (recursion_from_All (λ p. p < length es) ps h)

-- ---- where a name stands

named_by : (name : List ℕ) (es : List Entry) (ps : List ℕ) (k : ℕ) → Within es ps → k < length ps
    → folds_same name (get_or (names_of (needs_at es ps)) k []) ≡ is_named_at name es (get_or ps k 0)
named_by name es [] k h lt = absurd (omega arith)
named_by name es (p ∷ ps) zero h lt =
    let s = stands es p h.0 in
    ap (λ (ns : List Need). folds_same name (get_or (names_of ns) 0 [])) (first_need es p ps s.0 s.1)
    ∙ sym (ap (λ (o : Option Entry). option_map_or (λ e. folds_same name e.name) o false) s.1)
named_by name es (p ∷ ps) (suc k) h lt =
    let s = stands es p h.0 in
    ap (λ (ns : List Need). folds_same name (get_or (names_of ns) (suc k) [])) (first_need es p ps s.0 s.1)
    ∙ named_by name es ps k h.1 (omega arith)

tested_places : (name : List ℕ) (es : List Entry) (ps : List ℕ) (found : Option ℕ) → All (λ p. p < length es) ps
    → IsOnlyPlace name es found
    → filter (λ k. option_map_or (nat_eq (get_or ps k 0)) found false) (range_with_len 0 (length ps))
    ≡ places_named name (names_of (needs_at es ps))
tested_places name es ps found within only =
    let in_es = recursion_from_All (λ p. p < length es) ps within in
    let names = names_of (needs_at es ps) in
    let len : length names ≡ length ps = length-map (needs_at es ps) (λ (n : Need). n.name) ∙ length_by es ps in_es in
    agree_below _ (λ k. folds_same name (get_or names k [])) (length ps)
    (λ k lt. sym (only (get_or ps k 0)) ∙ sym (named_by name es ps k in_es lt))
    ∙ ap (λ n. filter (λ k. folds_same name (get_or names k [])) (range_with_len 0 n)) (sym len)

-- the indices of a name are those at which its place stands
pub found_places : (name : List ℕ) (es : List Entry) (ps : List ℕ) (found : Option ℕ) → All (λ p. p < length es) ps
    → IsOnlyPlace name es found
    → option_map_or (indices_of ps) found [] ≡ places_named name (names_of (needs_at es ps))
found_places name es ps None within only =
    sym (none_below (λ k. false) (length ps) (λ k lt. refl)) ∙ tested_places name es ps None within only
found_places name es ps (Some q) within only = tested_places name es ps (Some q) within only

-- ---- the index of a place

-- an index at which a place stands is the one that the place leads to
leads_to : (es : List Entry) (ps bs : List ℕ) (q k : ℕ) → AreLedTo es ps bs → k < length ps
    → nat_eq (get_or ps k 0) q ≡ true
    → k ≡ get_or bs q 0
leads_to es ps bs q k is lt same = sym (is.leads k lt) ∙ ap (λ p. get_or bs p 0) (eqb-true (get_or ps k 0) q same)

at_index : (ps : List ℕ) (k q : ℕ) → option_map_or (nat_eq q) (slice_get ps k) false ≡ true
    → (k < length ps) × (nat_eq (get_or ps k 0) q ≡ true)
at_index [] k q h = absurd (false≢true h)
at_index (p ∷ ps) zero q h = (omega arith, eq-eqb p q (sym (eqb-true q p h)))
at_index (p ∷ ps) (suc k) q h = let deep = at_index ps k q h in (omega (arith, deep.0), deep.1)

index_at : (ps : List ℕ) (k q : ℕ) → k < length ps → nat_eq (get_or ps k 0) q ≡ true
    → option_map_or (nat_eq q) (slice_get ps k) false ≡ true
index_at [] k q lt h = absurd (omega arith)
index_at (p ∷ ps) zero q lt h = eq-eqb q p (sym (eqb-true p q h))
index_at (p ∷ ps) (suc k) q lt h = index_at ps k q (omega arith) h

pub index_is : (es : List Entry) (ps bs : List ℕ) (q i : ℕ) → AreLedTo es ps bs → slice_get bs q ≡ Some i
    → cond (option_map_or (nat_eq q) (slice_get ps i) false) (i ∷ []) [] ≡ indices_of ps q
index_is es ps bs q i is led = by_case (option_map_or (nat_eq q) (slice_get ps i) false) refl
  where
    here : get_or bs q 0 ≡ i
    here = get_or_from_slice_get bs q i 0 led

    by_case : (b : Bool) → option_map_or (nat_eq q) (slice_get ps i) false ≡ b → cond b (i ∷ []) [] ≡ indices_of ps q
    by_case true e =
        let there = at_index ps i q e in
        sym (one_below (λ k. nat_eq (get_or ps k 0) q) (length ps) i there.0 there.1
        (λ j lt t. leads_to es ps bs q j is lt t ∙ here))
    by_case false e =
        sym (none_below (λ k. nat_eq (get_or ps k 0) q) (length ps)
        (λ j lt. not_true (nat_eq (get_or ps j 0) q)
        (λ t. (let same : j ≡ i = leads_to es ps bs q j is lt t ∙ here in
        false≢true (sym e ∙ ap (λ k. option_map_or (nat_eq q) (slice_get ps k) false) (sym same)
        ∙ index_at ps j q lt t)))))

-- a place past the end of the table is that of no index
pub no_index : (es : List Entry) (ps bs : List ℕ) (q : ℕ) → AreLedTo es ps bs → slice_get bs q ≡ None
    → [] ≡ indices_of ps q
no_index es ps bs q is none =
    sym (none_below (λ k. nat_eq (get_or ps k 0) q) (length ps)
    (λ j lt. not_true (nat_eq (get_or ps j 0) q)
    (λ t. (let same : get_or ps j 0 ≡ q = eqb-true (get_or ps j 0) q t in
    let low : q < length bs = omega (arith, is.within j 0 lt, same, is.len) in
    none-some (sym none ∙ slice_get-get_or bs q 0 low)))))
  where
    none-some : {x : ℕ} → ◌≡◌ {A = Option ℕ} None (Some x) → ⊥
    none-some e = absurd cc

-- ---- how they are found

-- the chosen ones of the places below n
pub record IsSeen (n : ℕ) (ps bs : List ℕ) : Type 0 where
  pub few : length ps ≤ n
  pub within : All (λ p. p < n) ps
  pub len : length bs ≡ n
  pub leads : (k : ℕ) → k < length ps → get_or bs (get_or ps k 0) 0 ≡ k

-- what is in front stays
still : (n : ℕ) (ps bs : List ℕ) (b : ℕ) → IsSeen n ps bs → (k : ℕ) → k < length ps
    → get_or (bs ++ b ∷ []) (get_or ps k 0) 0 ≡ k
still n ps bs b is k lt =
    get_or_append_left bs (b ∷ []) 0 (get_or ps k 0) (omega (arith, is.within k 0 lt, is.len)) ∙ is.leads k lt

pub seen_skip : (n : ℕ) (ps bs : List ℕ) (b : ℕ) → IsSeen n ps bs → IsSeen (n + 1) ps (bs ++ b ∷ [])
seen_skip n ps bs b is = record {
  few = omega (arith, is.few);
  within = All-weaker (λ p. p < n) (λ p. p < n + 1) (λ x h. omega arith) ps is.within;
  len = length_push bs b ∙ ap (λ n. n + 1) is.len;
  leads = still n ps bs b is;
}

pub seen_push : (n : ℕ) (ps bs : List ℕ) → IsSeen n ps bs → IsSeen (n + 1) (ps ++ n ∷ []) (bs ++ length ps ∷ [])
seen_push n ps bs is = record {
  few = omega (arith, is.few, length_push ps n);
  within = All-push (λ p. p < n + 1) ps n (All-weaker (λ p. p < n) (λ p. p < n + 1) (λ x h. omega arith) ps is.within)
      (omega arith);
  len = length_push bs (length ps) ∙ ap (λ n. n + 1) is.len;
  leads = λ k lt. elim (cases_lt k (length ps)) [
    | inl before ↦
        ap (λ p. get_or (bs ++ length ps ∷ []) p 0) (get_or_append_left ps (n ∷ []) 0 k before)
        ∙ still n ps bs (length ps) is k before
    | inr past ↦
        (let last : length ps ≡ k = omega (arith, lt, length_push ps n) in
        ap (λ p. get_or (bs ++ length ps ∷ []) p 0) (get_or_push ps n 0 k last) ∙ get_or_push bs (length ps) 0 n is.len
        ∙ last)
  ];
}
