-- From the first vertices to all that edges lead to.
use Rattle.std.proofs.Common.{◌≡◌, ℕ, ◌+◌, ◌<◌, Bool, true, false, not, List, [], ◌∷◌, ◌++◌, length, take, get_or, set, cond, sym, ap, ◌∙◌, ◌⊎◌, inl, inr, subst, arith}
use Rattle.std.specs.Prelude.{All, Contains, count_by, replicate}
use Rattle.std.proofs.lemmas.Bool.{false≢true, cases_eq, cases_lt}
use Rattle.std.proofs.lemmas.List.{get_or-set_same, get_or-set_other, get_or_past, get_or-replicate, length-set, length-replicate, length_push, take_more}
use Rattle.std.proofs.lemmas.List.Elements.{Contains-get_or, Contains-push, Contains-push_cases, Contains-append_left, Contains-append_right, Contains-append_cases}
use Rattle.std.proofs.lemmas.List.Sums.{sum_by-set}
use Rattle.least_set.specs.Edges.{row_at, HasEdge, AreEdges, is_marked}
use Rattle.least_set.specs.Work.{Marks, IsReaching}

pub none_in : {X : Type 0} (x : X) → Contains [] x → ⊥
none_in x h = omega (arith, h.1)

-- what is marked has a mark
pub marked_within : (marks : List Bool) (k : ℕ) → is_marked marks k ≡ true → k < length marks
marked_within marks k on = elim (cases_lt k (length marks)) [
  | inl lt ↦ lt
  | inr ge ↦ absurd (false≢true (sym (get_or_past marks k false ge) ∙ on))
]

-- edges lead to vertices, of which there are so many
pub row_within : (rows : List (List ℕ)) (u n : ℕ) → AreEdges rows → n ≡ length rows → All (λ v. v < n) (row_at rows u)
row_within rows u n edges e k d lt =
    omega (arith, e, edges u (get_or (row_at rows u) k d) (Contains-get_or (row_at rows u) k d lt))

pub edge_from : (rows : List (List ℕ)) (u v : ℕ) → HasEdge rows u v → u < length rows
edge_from rows u v h = elim (cases_lt u (length rows)) [
  | inl lt ↦ lt
  | inr ge ↦ absurd (none_in v (subst (λ (xs : List ℕ). Contains xs v) (get_or_past rows u [] ge) h))
]

-- ---- marks

pub member_none : (n k : ℕ) → is_marked (replicate n false) k ≡ false
member_none n k = elim (cases_lt k n) [
  | inl lt ↦ get_or-replicate n k false false lt
  | inr ge ↦ get_or_past (replicate n false) k false (omega (arith, length-replicate {A = Bool} n false, ge))
]

-- one mark fewer is left to be set
pub one_fewer : (marks : List Bool) (at : ℕ) → at < length marks → is_marked marks at ≡ false
    → count_by not (set marks at true) + 1 ≡ count_by not marks
one_fewer marks at lt off =
    let s : ◌≡◌ {A = ℕ} (count_by not (set marks at true) + cond (not (is_marked marks at)) 1 0)
    (count_by not marks + 0) = sum_by-set (λ x. cond (not x) 1 0) marks at true false lt in
    let one : ◌≡◌ {A = ℕ} (cond (not (is_marked marks at)) 1 0) 1 = ap (λ b. cond (not b) 1 0) off in
    omega (arith, s, one)

-- what is marked after one more mark
pub set_mark : (marks : List Bool) (at k : ℕ) → is_marked (set marks at true) k ≡ true → (is_marked marks k ≡ true) ⊎ (k ≡ at)
set_mark marks at k h = elim (cases_eq k at) [
  | inl e ↦ inr e
  | inr ne ↦ inl (sym (get_or-set_other marks at k true false ne) ∙ h)
]

pub still_set : (marks : List Bool) (at k : ℕ) → is_marked marks k ≡ true → is_marked (set marks at true) k ≡ true
still_set marks at k h = elim (cases_eq k at) [
  | inl e ↦ ap (is_marked (set marks at true)) e
      ∙ get_or-set_same marks at true false (marked_within marks at (ap (is_marked marks) (sym e) ∙ h))
  | inr ne ↦ get_or-set_other marks at k true false ne ∙ h
]

-- ---- steps

-- one that is marked now
pub marks_new : (at : ℕ) (marks : List Bool) (work : List ℕ) → at < length marks → is_marked marks at ≡ false
    → Marks (at ∷ []) marks work (set marks at true) (work ++ at ∷ [])
marks_new at marks work lt off = record {
  len = length-set marks at true;
  marked = λ k h. elim (Contains-push_cases [] at k h) [
    | inl none ↦ absurd (none_in k none)
    | inr e ↦ ap (is_marked (set marks at true)) (sym e) ∙ here
  ];
  kept_marks = still_set marks at;
  only = λ k h. elim (set_mark marks at k h) [
    | inl old ↦ inl old
    | inr e ↦ inr (
      subst (λ (k : ℕ). Contains (at ∷ []) k) (sym e) (Contains-push [] at),
      subst (λ (k : ℕ). Contains (work ++ at ∷ []) k) (sym e) (Contains-push work at),
    )
  ];
  kept = λ k h. Contains-append_left work (at ∷ []) k h;
  noted = λ k h. elim (Contains-push_cases work at k h) [
    | inl old ↦ inl old
    | inr e ↦ inr (ap (is_marked (set marks at true)) (sym e) ∙ here)
  ];
  nearer = omega (arith, length_push work at, one_fewer marks at lt off);
}
  where
    here : is_marked (set marks at true) at ≡ true
    here = get_or-set_same marks at true false lt

pub marks_both : (xs ys : List ℕ) (m0 : List Bool) (w0 : List ℕ) (m1 : List Bool) (w1 : List ℕ) (m2 : List Bool) (w2 : List ℕ)
    → Marks xs m0 w0 m1 w1 → Marks ys m1 w1 m2 w2 → Marks (xs ++ ys) m0 w0 m2 w2
marks_both xs ys m0 w0 m1 w1 m2 w2 one two = record {
  len = two.len ∙ one.len;
  marked = λ k h. elim (Contains-append_cases xs ys k h) [
    | inl a ↦ two.kept_marks k (one.marked k a)
    | inr b ↦ two.marked k b
  ];
  kept_marks = λ k h. two.kept_marks k (one.kept_marks k h);
  only = λ k h. elim (two.only k h) [
    | inl before ↦ (elim (one.only k before) [
      | inl old ↦ inl old
      | inr a ↦ inr (Contains-append_left xs ys k a.0, two.kept k a.1)
    ])
    | inr b ↦ inr (Contains-append_right xs ys k b.0, b.1)
  ];
  kept = λ k h. two.kept k (one.kept k h);
  noted = λ k h. elim (two.noted k h) [
    | inl before ↦ (elim (one.noted k before) [
      | inl old ↦ inl old
      | inr a ↦ inr (two.kept_marks k a)
    ])
    | inr b ↦ inr b
  ];
  nearer = omega (arith, one.nearer, two.nearer);
}

pub marks_more : (row : List ℕ) (i d : ℕ) (m0 : List Bool) (w0 : List ℕ) (m1 : List Bool) (w1 : List ℕ) (m2 : List Bool)
    (w2 : List ℕ) → i < length row → Marks (take i row) m0 w0 m1 w1 → Marks (get_or row i d ∷ []) m1 w1 m2 w2
    → Marks (take (i + 1) row) m0 w0 m2 w2
marks_more row i d m0 w0 m1 w1 m2 w2 lt one two =
    subst (λ (xs : List ℕ). Marks xs m0 w0 m2 w2) (sym (take_more row i d lt))
    (marks_both (take i row) (get_or row i d ∷ []) m0 w0 m1 w1 m2 w2 one two)

-- ---- the whole

-- where nothing was marked before
pub reaching_begun : (rows : List (List ℕ)) (firsts : List ℕ) (m0 : List Bool) (w0 : List ℕ) (marks : List Bool) (work : List ℕ)
    → length m0 ≡ length rows → ((k : ℕ) → is_marked m0 k ≡ false) → w0 ≡ [] → Marks firsts m0 w0 marks work
    → IsReaching rows firsts marks work
reaching_begun rows firsts m0 w0 marks work e none ew is = record {
  len = is.len ∙ e;
  honest = λ k h. elim (is.noted k h) [
    | inl before ↦ absurd (none_in k (subst (λ (w : List ℕ). Contains w k) ew before))
    | inr on ↦ on
  ];
  begun = λ v h. is.marked v h;
  closed = λ u h. elim (is.only u h) [
    | inl old ↦ absurd (false≢true (sym (none u) ∙ old))
    | inr new ↦ inl new.1
  ];
  least = λ set closed v h. elim (is.only v h) [
    | inl old ↦ absurd (false≢true (sym (none v) ∙ old))
    | inr new ↦ closed.begun v new.0
  ];
}

popped_marked : (rows : List (List ℕ)) (firsts : List ℕ) (marks : List Bool) (work rest : List ℕ) (at : ℕ)
    → work ≡ rest ++ at ∷ [] → IsReaching rows firsts marks work → is_marked marks at ≡ true
popped_marked rows firsts marks work rest at e is =
    is.honest at (subst (λ (xs : List ℕ). Contains xs at) (sym e) (Contains-push rest at))

pub popped_within : (rows : List (List ℕ)) (firsts : List ℕ) (marks : List Bool) (work rest : List ℕ) (at : ℕ)
    → work ≡ rest ++ at ∷ [] → IsReaching rows firsts marks work → at < length rows
popped_within rows firsts marks work rest at e is =
    omega (arith, is.len, marked_within marks at (popped_marked rows firsts marks work rest at e is))

pub reaching_more : (rows : List (List ℕ)) (firsts : List ℕ) (marks : List Bool) (work rest : List ℕ) (at : ℕ)
    (marks' : List Bool) (work' : List ℕ) → work ≡ rest ++ at ∷ [] → IsReaching rows firsts marks work
    → Marks (row_at rows at) marks rest marks' work' → IsReaching rows firsts marks' work'
reaching_more rows firsts marks work rest at marks' work' e is step = record {
  len = step.len ∙ is.len;
  honest = λ k h. elim (step.noted k h) [
    | inl old ↦ step.kept_marks k (is.honest k (in_work k old))
    | inr on ↦ on
  ];
  begun = λ v h. step.kept_marks v (is.begun v h);
  closed = λ u h. elim (step.only u h) [
    | inl old ↦ (elim (is.closed u old) [
      | inl waits ↦ (elim (Contains-push_cases rest at u (subst (λ (xs : List ℕ). Contains xs u) e waits)) [
        | inl still ↦ inl (step.kept u still)
        | inr this ↦ inr (λ v edge. step.marked v (subst (λ (k : ℕ). HasEdge rows k v) (sym this) edge))
      ])
      | inr done ↦ inr (λ v edge. step.kept_marks v (done v edge))
    ])
    | inr new ↦ inl new.1
  ];
  least = λ set closed v h. elim (step.only v h) [
    | inl old ↦ is.least set closed v old
    | inr new ↦ closed.closed at v (is.least set closed at (popped_marked rows firsts marks work rest at e is)) new.0
  ];
}
  where
    in_work : (k : ℕ) → Contains rest k → Contains work k
    in_work k h = subst (λ (xs : List ℕ). Contains xs k) (sym e) (Contains-append_left rest (at ∷ []) k h)
