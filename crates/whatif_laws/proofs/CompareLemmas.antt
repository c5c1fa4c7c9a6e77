-- Starts on a set, compared: who is started in both, and who in one alone.
use Rattle.std.proofs.Common.{◌≡◌, ℕ, true, false, List, [], ◌++◌, map, Option, sym, ap, ◌∙◌, inl, inr, subst, arith}
use Rattle.std.specs.Prelude.{Contains}
use Rattle.std.proofs.lemmas.Bool.{false≢true}
use Rattle.std.proofs.lemmas.List.Elements.{Contains-append_left, Contains-append_right, Contains-append_cases}
use Rattle.nt_bytes.specs.Folding.{folds_same}
use Rattle.hive_model.specs.Tree.{Tree}
use Rattle.hive_model.specs.Valid.{HoldsKeys}
use Rattle.start_model.specs.Demand.{Need}
use Rattle.start_model.specs.Entries.{Entry, Phase, Boot, System, Automatic, entries_of, need_of}
use Rattle.start_model.specs.Order.{plan_of}
use Rattle.start_model.specs.Ready.{is_ready}
use Rattle.service_control.specs.State.{labels_of}
use Rattle.service_control.proofs.LeanLemmas.{mapped_from, mapped_to}
use Rattle.wait_cycles.proofs.InverseLemmas.{none_in}
use Rattle.failure_effects.specs.declared.told.Told.{Told}
use Rattle.failure_effects.specs.Played.{started_in}
use Rattle.check_laws.proofs.TakenLemmas.{is_late}
use Rattle.check_laws.proofs.SetLemmas.{late_above, never_tried, automatic_late, plan_entry, boot_start, system_start, entries_apart}
use Rattle.check_laws.proofs.TurnLemmas.{InTurn, turned_each, turn_ind, ready_wider}
use Rattle.whatif_laws.proofs.AttemptLemmas.{fails}
use Rattle.whatif_laws.proofs.PlayLemmas.{PlanOf, Full, Whole, IsPlay}

-- ---- the needs of those that were started, up to a phase

abbrev pub needs : List Entry → List Need
needs es = map need_of es

-- where an entry of three lists is
pub data InThree (a b c : List Entry) (x : Entry) : Type 0 where
  in1 : Contains a x → InThree a b c x
  in2 : Contains b x → InThree a b c x
  in3 : Contains c x → InThree a b c x

pub in_three : (a b c : List Entry) (x : Entry) → Contains ((a ++ b) ++ c) x → InThree a b c x
in_three a b c x i = elim (Contains-append_cases (a ++ b) c x i) [
  | inl j ↦ elim (Contains-append_cases a b x j) [ inl k ↦ in1 k | inr k ↦ in2 k ]
  | inr k ↦ in3 k
]

pub three_in : (a b c : List Entry) (x : Entry) → InThree a b c x → Contains ((a ++ b) ++ c) x
three_in a b c x (in1 i) = Contains-append_left (a ++ b) c x (Contains-append_left a b x i)
three_in a b c x (in2 i) = Contains-append_left (a ++ b) c x (Contains-append_right a b x i)
three_in a b c x (in3 i) = Contains-append_right (a ++ b) c x i

pub needs_three : (a b c : List Entry) (n : Need) → Contains ((needs a ++ needs b) ++ needs c) n
    → (y : Entry) × Contains ((a ++ b) ++ c) y × (need_of y ≡ n)
needs_three a b c n i = elim (Contains-append_cases (needs a ++ needs b) (needs c) n i) [
  | inl j ↦ elim (Contains-append_cases (needs a) (needs b) n j) [
    | inl k ↦ (let m = mapped_from need_of a n k in (m.item, three_in a b c m.item (in1 m.there), m.is))
    | inr k ↦ (let m = mapped_from need_of b n k in (m.item, three_in a b c m.item (in2 m.there), m.is))
  ]
  | inr k ↦ (let m = mapped_from need_of c n k in (m.item, three_in a b c m.item (in3 m.there), m.is))
]

-- ---- what is started in one start is started in another

module _ (nq : Option (List ℕ)) (setq : Tree) (tq : List Told) (q : IsPlay nq setq tq)
    (np : Option (List ℕ)) (set : Tree) (tp : List Told) (p : IsPlay np set tp)
    (w : Whole np set p.n1 p.n2 p.n3 p.l1 p.l2 p.l3)
    (into : (phase : Phase) (x : Entry) → Contains (plan_of setq phase []) x → Contains (plan_of set phase []) x × (fails np x.name ≡ false)) where
  abbrev now1 : List Need
  now1 = needs p.n1

  abbrev now2 : List Need
  now2 = needs p.n1 ++ needs p.n2

  abbrev now3 : List Need
  now3 = (needs p.n1 ++ needs p.n2) ++ needs p.n3

  -- one that is ready and taken is started
  goes : (phase : Phase) (pre : List Need) (new left : List Entry) → Full np set phase pre new left → (done : List Need) (n : Need)
      → ((m : Need) → Contains done m → Contains (pre ++ needs new) m) → PlanOf setq phase n → is_ready (labels_of done) n ≡ true
      → Contains (pre ++ needs new) n
  goes phase pre new left full done n all i ready =
      let to = into phase i.entry i.there in
      let wide : is_ready (labels_of (pre ++ needs new)) (need_of i.entry) ≡ true =
      ap (is_ready (labels_of (pre ++ needs new))) i.need ∙ ready_wider done (pre ++ needs new) n all ready in
      subst (Contains (pre ++ needs new)) i.need (elim (full.each i.entry to.0) [
        | inl j ↦ Contains-append_right pre (needs new) (need_of i.entry) (mapped_to need_of new i.entry j)
        | inr r ↦ elim r [
          | inl j ↦ absurd (false≢true (sym (full.unready i.entry j) ∙ wide))
          | inr bad ↦ absurd (false≢true (sym to.1 ∙ bad))
        ]
      ])

  first : (n : Need) → Contains (needs q.n1) n → Contains now1 n
  first = turn_ind (PlanOf setq Boot) (Contains now1)
      (λ done n all i ready. goes Boot [] p.n1 p.l1 w.boot done n all i ready) [] (needs q.n1) (λ m c. absurd (none_in m c)) q.boot.turn

  second : (n : Need) → Contains (needs q.n1 ++ needs q.n2) n → Contains now2 n
  second = turn_ind (PlanOf setq System) (Contains now2)
      (λ done n all i ready. goes System (needs p.n1) p.n2 p.l2 w.system done n all i ready) (needs q.n1) (needs q.n2)
      (λ m c. Contains-append_left (needs p.n1) (needs p.n2) m (first m c)) q.system.turn

  third : (n : Need) → Contains ((needs q.n1 ++ needs q.n2) ++ needs q.n3) n → Contains now3 n
  third = turn_ind (PlanOf setq Automatic) (Contains now3)
      (λ done n all i ready. goes Automatic (needs p.n1 ++ needs p.n2) p.n3 p.l3 w.automatic done n all i ready)
      (needs q.n1 ++ needs q.n2) (needs q.n3)
      (λ m c. Contains-append_left (needs p.n1 ++ needs p.n2) (needs p.n3) m (second m c)) q.automatic.turn

  needs_in : (a b c : List Entry) (x : Entry) → InThree a b c x → Contains ((needs a ++ needs b) ++ needs c) (need_of x)
  needs_in a b c x (in1 i) =
      Contains-append_left (needs a ++ needs b) (needs c) (need_of x) (Contains-append_left (needs a) (needs b) (need_of x) (mapped_to need_of a x i))
  needs_in a b c x (in2 i) =
      Contains-append_left (needs a ++ needs b) (needs c) (need_of x) (Contains-append_right (needs a) (needs b) (need_of x) (mapped_to need_of b x i))
  needs_in a b c x (in3 i) = Contains-append_right (needs a ++ needs b) (needs c) (need_of x) (mapped_to need_of c x i)

  -- whoever is started in the first is started in the second, by need
  pub goes_over : (x : Entry) → Contains ((q.n1 ++ q.n2) ++ q.n3) x → (y : Entry) × Contains ((p.n1 ++ p.n2) ++ p.n3) y × (need_of y ≡ need_of x)
  goes_over x c =
      needs_three p.n1 p.n2 p.n3 (need_of x) (third (need_of x) (needs_in q.n1 q.n2 q.n3 x (in_three q.n1 q.n2 q.n3 x c)))

  -- and so by name
  pub names_over : (other : List ℕ) → Contains (started_in tq) other → Contains (started_in tp) other
  names_over other c =
      let x = mapped_from (λ (e : Entry). e.name) ((q.n1 ++ q.n2) ++ q.n3) other (subst (λ (l : List (List ℕ)). Contains l other) q.started c) in
      let y = goes_over x.item x.there in
      subst (λ (l : List (List ℕ)). Contains l other) (sym p.started)
      (subst (Contains (map (λ (e : Entry). e.name) ((p.n1 ++ p.n2) ++ p.n3))) (ap (λ (n : Need). n.name) y.2 ∙ x.is)
      (mapped_to (λ (e : Entry). e.name) ((p.n1 ++ p.n2) ++ p.n3) y.0 y.1))

-- ---- nobody is started and left

module _ (set : Tree) (holds : HoldsKeys set) where
  late_of : (x : Entry) → Contains (plan_of set Automatic []) x → is_late x.start ≡ true
  late_of x c = automatic_late set holds [] (never_tried (entries_of set) 2) x c

  pub boot_system : (x : Entry) → Contains (plan_of set Boot []) x → Contains (plan_of set System []) x → ⊥
  boot_system x a b = omega (arith, boot_start set [] x a, system_start set [] x b)

  pub boot_automatic : (x : Entry) → Contains (plan_of set Boot []) x → Contains (plan_of set Automatic []) x → ⊥
  boot_automatic x a b = late_above x.start (late_of x b) (omega (arith, boot_start set [] x a))

  pub system_automatic : (x : Entry) → Contains (plan_of set System []) x → Contains (plan_of set Automatic []) x → ⊥
  system_automatic x a b = late_above x.start (late_of x b) (omega (arith, system_start set [] x a))

  module _ (name : Option (List ℕ)) (told : List Told) (p : IsPlay name set told) (w : Whole name set p.n1 p.n2 p.n3 p.l1 p.l2 p.l3) where
    started_entry : (x : Entry) → InThree p.n1 p.n2 p.n3 x → Contains (entries_of set) x
    started_entry x (in1 i) = plan_entry set Boot [] x (p.boot.from x i)
    started_entry x (in2 i) = plan_entry set System [] x (p.system.from x i)
    started_entry x (in3 i) = plan_entry set Automatic [] x (p.automatic.from x i)

    left_entry : (x : Entry) → InThree p.l1 p.l2 p.l3 x → Contains (entries_of set) x
    left_entry x (in1 i) = plan_entry set Boot [] x (p.boot.only x i)
    left_entry x (in2 i) = plan_entry set System [] x (p.system.only x i)
    left_entry x (in3 i) = plan_entry set Automatic [] x (p.automatic.only x i)

    not_ready : (phase : Phase) (pre : List Need) (new left : List Entry) → InTurn (PlanOf set phase) pre (needs new)
        → Full name set phase pre new left → (x : Entry) → Contains new x → Contains left x → ⊥
    not_ready phase pre new left turn full x i j =
        false≢true (sym (full.unready x j) ∙ (turned_each (PlanOf set phase) pre (needs new) turn (need_of x) (mapped_to need_of new x i)).1)

    both : (x : Entry) → InThree p.n1 p.n2 p.n3 x → InThree p.l1 p.l2 p.l3 x → ⊥
    both x (in1 i) (in1 j) = not_ready Boot [] p.n1 p.l1 p.boot.turn w.boot x i j
    both x (in1 i) (in2 j) = boot_system x (p.boot.from x i) (p.system.only x j)
    both x (in1 i) (in3 j) = boot_automatic x (p.boot.from x i) (p.automatic.only x j)
    both x (in2 i) (in1 j) = boot_system x (p.boot.only x j) (p.system.from x i)
    both x (in2 i) (in2 j) = not_ready System (needs p.n1) p.n2 p.l2 p.system.turn w.system x i j
    both x (in2 i) (in3 j) = system_automatic x (p.system.from x i) (p.automatic.only x j)
    both x (in3 i) (in1 j) = boot_automatic x (p.boot.only x j) (p.automatic.from x i)
    both x (in3 i) (in2 j) = system_automatic x (p.system.only x j) (p.automatic.from x i)
    both x (in3 i) (in3 j) = not_ready Automatic (needs p.n1 ++ needs p.n2) p.n3 p.l3 p.automatic.turn w.automatic x i j

    -- no name is that of one that was started and of one that is left
    pub never_both : (x y : Entry) → InThree p.n1 p.n2 p.n3 x → InThree p.l1 p.l2 p.l3 y → folds_same x.name y.name ≡ true → ⊥
    never_both x y i j h =
        both y (subst (InThree p.n1 p.n2 p.n3) (entries_apart set holds x y (started_entry x i) (left_entry y j) h) i) j
