-- The places of each class, and the cycles.
use Rattle.std.proofs.Common.{◌≡◌, ℕ, ◌+◌, ◌<◌, Bool, false, ◌&&◌, nat_eq, List, [], ◌∷◌, ◌++◌, length, map, get_or, set, cond, refl, sym, ap, ◌∙◌, inl, inr, arith}
use Rattle.std.specs.Prelude.{Contains, nat_lt}
use Rattle.std.specs.List.{flat_map, range_with_len}
use Rattle.std.proofs.lemmas.Bool.{cases_eq, cases_lt, and_left, and_right, and_from, lt-ltb, le-ltb, eq-eqb, ne_eqb}
use Rattle.std.proofs.lemmas.List.{append-nil, get_or-set_same, get_or-set_other, get_or_past, length-set}
use Rattle.start_model.specs.Demand.{member}
use Rattle.dependencies.proofs.PulledLemmas.{listed_member, filter-range_more}
use Rattle.wait_cycles.specs.Waits.{cycle_of, cycle_from, cycles_of}
use Rattle.wait_cycles.specs.Graph.{row_at, AreEdges, AreWaits, IsInverse, AreLeads}
use Rattle.wait_cycles.specs.Classes.{leads_on, SayMutual, members_of, AreMembers, first_from}
use Rattle.wait_cycles.proofs.MetLemmas.{first_in, later_in, range_in}
use Rattle.wait_cycles.proofs.CycleLemmas.{filter_same, edges_of, cycle_is}
use Rattle.wait_cycles.proofs.LeadLemmas.{reach_on, reach_back}

-- one place more
more : (classes : List ℕ) (place c : ℕ) → members_of classes (place + 1) c ≡ members_of classes place c
    ++ cond (nat_lt c (length classes) && nat_eq c (get_or classes place 0)) (place ∷ []) []
more classes place c = filter-range_more (λ q. nat_lt c (length classes) && nat_eq c (get_or classes q 0)) place

taken : (classes : List ℕ) (place c : ℕ) → c < length classes → c ≡ get_or classes place 0
    → members_of classes (place + 1) c ≡ members_of classes place c ++ place ∷ []
taken classes place c lt e =
    more classes place c ∙ ap (λ (b : Bool). members_of classes place c ++ cond b (place ∷ []) [])
    (and_from (nat_lt c (length classes)) (nat_eq c (get_or classes place 0)) (lt-ltb c (length classes) lt)
    (eq-eqb c (get_or classes place 0) e))

skipped : (classes : List ℕ) (place c : ℕ) → (nat_lt c (length classes) && nat_eq c (get_or classes place 0)) ≡ false
    → members_of classes (place + 1) c ≡ members_of classes place c
skipped classes place c off =
    more classes place c ∙ ap (λ (b : Bool). members_of classes place c ++ cond b (place ∷ []) []) off
    ∙ append-nil (members_of classes place c)

pub members_more : (classes : List ℕ) (place here : ℕ) (members : List (List ℕ)) → here ≡ get_or classes place 0
    → AreMembers classes place members
    → AreMembers classes (place + 1) (set members here (row_at members here ++ place ∷ []))
members_more classes place here members e is =
    let new : List (List ℕ) = set members here (row_at members here ++ place ∷ []) in
    let len : length new ≡ length members = length-set members here (row_at members here ++ place ∷ []) in
    let at_here : row_at new here ≡ members_of classes (place + 1) here = elim (cases_lt here (length classes)) [
      | inl lt ↦ get_or-set_same members here (row_at members here ++ place ∷ []) [] (omega (arith, lt, is.len))
          ∙ ap (λ (xs : List ℕ). xs ++ place ∷ []) (is.each here) ∙ sym (taken classes place here lt e)
      | inr ge ↦ get_or_past new here [] (omega (arith, len, is.len, ge))
          ∙ sym (get_or_past members here [] (omega (arith, is.len, ge))) ∙ is.each here
          ∙ sym (skipped classes place here (and_left (nat_lt here (length classes))
          (nat_eq here (get_or classes place 0)) (le-ltb here (length classes) ge)))
    ] in
    record {
      len = len ∙ is.len;
      each = λ c. elim (cases_eq c here) [
        | inl at ↦ ap (row_at new) at ∙ at_here ∙ ap (members_of classes (place + 1)) (sym at)
        | inr ne ↦ get_or-set_other members here c (row_at members here ++ place ∷ []) [] ne ∙ is.each c
            ∙ sym (skipped classes place c (and_right (nat_lt c (length classes)) (nat_eq c (get_or classes place 0))
            (ne_eqb c (get_or classes place 0) (λ f. ne (f ∙ sym e)))))
      ];
    }

-- ---- cycles

flat_same : (f g : ℕ → List (List ℕ)) (xs : List ℕ) → ((x : ℕ) → Contains xs x → f x ≡ g x)
    → flat_map f xs ≡ flat_map g xs
flat_same f g [] h = refl
flat_same f g (x ∷ xs) h =
    let rest : flat_map f xs ≡ flat_map g xs = flat_same f g xs (λ y i. h y (later_in x xs y i)) in
    λ j. h x (first_in x xs) j ++ rest j

pub cycles_are : (rows back : List (List ℕ)) (places : ℕ) (classes : List ℕ) (members cycles : List (List ℕ))
    → AreWaits places rows → IsInverse rows back → SayMutual rows classes → AreMembers classes places members
    → cycles ≡ flat_map (λ p. first_from p (row_at members (get_or classes p 0))) (range_with_len 0 places)
    → (waits : List (List (List ℕ))) → AreLeads waits places rows → cycles ≡ cycles_of waits
unfolding cycles_of
cycles_are rows back places classes members cycles are inv say have is waits lead =
    is
    ∙ flat_same (λ p. first_from p (row_at members (get_or classes p 0))) (cycle_from waits) (range_with_len 0 places)
    (λ p i. ap (first_from p) (one p (range_in places p i)))
    ∙ ap (λ n. flat_map (cycle_from waits) (range_with_len 0 n)) (sym lead.count)
  where
    one : (p : ℕ) → p < places → row_at members (get_or classes p 0) ≡ cycle_of waits p
    one p lp =
        let within : p < length rows = omega (arith, lp, are.fits) in
        let edges : AreEdges rows = edges_of rows places are in
        let c : ℕ = get_or classes p 0 in
        let on : List Bool = map (leads_on rows p) (range_with_len 0 (length rows)) in
        let to : List Bool = map (λ v. leads_on rows v p) (range_with_len 0 (length rows)) in
        cycle_is rows back places p on to (row_at members c) are inv lp (reach_on rows p edges)
        (reach_back rows back p edges inv within)
        (have.each c ∙ filter_same (λ q. nat_lt c (length classes) && nat_eq c (get_or classes q 0))
        (λ q. member on q && member to q) (range_with_len 0 places) (λ q i.
        (let lq : q < length rows = omega (arith, range_in places q i, are.fits) in
        say.together p q within lq
        ∙ (λ j. sym (listed_member (leads_on rows p) (length rows) q lq) j
        && sym (listed_member (λ v. leads_on rows v p) (length rows) q lq) j)))) waits lead
