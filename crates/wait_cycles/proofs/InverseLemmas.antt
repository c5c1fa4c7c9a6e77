-- Edges turned round, one by one.
use Rattle.std.proofs.Common.{◌≡◌, ℕ, ◌+◌, ◌<◌, List, [], ◌∷◌, ◌++◌, length, take, get_or, set, sym, ap, ◌∙◌, inl, inr, subst, arith}
use Rattle.std.specs.Prelude.{Contains, replicate, Result, Ok, Err, OnOk, IfOk}
use Rattle.std.proofs.lemmas.Bool.{cases_eq, cases_lt}
use Rattle.std.proofs.lemmas.List.{get_or-set_same, get_or-set_other, get_or_past, length-set, length-replicate, get_or-replicate, take_more, get_or_read}
use Rattle.std.proofs.lemmas.List.Elements.{Contains-push, Contains-push_cases, Contains-append_left, Contains-append_right, Contains-append_cases}
pub use Rattle.least_set.proofs.MarkLemmas.{none_in, row_within, edge_from}
use Rattle.wait_cycles.specs.Graph.{row_at, HasEdge, IsInverse, PutsEdges}

pub on_ok : {E : Type 0} (r : Result (Unit {0}) E) (P Q : Type 0) → (P → Q) → OnOk r P → OnOk r Q
on_ok (Ok u) P Q f p = f p
on_ok (Err why) P Q f p = tt

pub if_ok : {X E : Type 0} (r : Result X E) (P Q : X → Type 0) → ((x : X) → P x → Q x) → IfOk r P → IfOk r Q
if_ok (Ok x) P Q f p = f x p
if_ok (Err why) P Q f p = tt

-- the edges of the first rows are turned round
pub record IsTurned (rows : List (List ℕ)) (n : ℕ) (back : List (List ℕ)) : Type 0 where
  pub len : length back ≡ length rows
  pub turned : (u v : ℕ) → u < n → HasEdge rows u v → HasEdge back v u
  pub only : (u v : ℕ) → HasEdge back v u → (u < n) × HasEdge rows u v

-- ---- one edge

pub put_one : (from end : ℕ) (old : List (List ℕ)) → from < length old
    → PutsEdges (from ∷ []) end old (set old from (get_or old from [] ++ end ∷ []))
put_one from end old lt = record {
  len = length-set old from (get_or old from [] ++ end ∷ []);
  kept = λ u v h. elim (cases_eq u from) [
    | inl e ↦ (let P : ℕ → Type 0 = λ u. HasEdge (set old from (get_or old from [] ++ end ∷ [])) u v in
        subst P (sym e) (subst (λ (xs : List ℕ). Contains xs v) (sym here)
        (Contains-append_left (get_or old from []) (end ∷ []) v (subst (λ (u : ℕ). HasEdge old u v) e h))))
    | inr ne ↦ subst (λ (xs : List ℕ). Contains xs v) (sym (there u ne)) h
  ];
  put = λ u h. elim (Contains-push_cases [] from u h) [
    | inl none ↦ absurd (none_in u none)
    | inr e ↦ (let P : ℕ → Type 0 = λ u. HasEdge (set old from (get_or old from [] ++ end ∷ [])) u end in
        subst P e (subst (λ (xs : List ℕ). Contains xs end) (sym here) (Contains-push (get_or old from []) end)))
  ];
  only = λ u v h. elim (cases_eq u from) [
    | inl e ↦ (let at : Contains (get_or old from [] ++ end ∷ []) v =
        subst (λ (xs : List ℕ). Contains xs v) here
        (subst (λ (u : ℕ). HasEdge (set old from (get_or old from [] ++ end ∷ [])) u v) e h) in
        elim (Contains-push_cases (get_or old from []) end v at) [
          | inl before ↦ inl (subst (λ (u : ℕ). HasEdge old u v) (sym e) before)
          | inr is ↦ inr (subst (λ (k : ℕ). Contains (from ∷ []) k) (sym e) (Contains-push [] from), sym is)
        ])
    | inr ne ↦ inl (subst (λ (xs : List ℕ). Contains xs v) (there u ne) h)
  ];
}
  where
    here : get_or (set old from (get_or old from [] ++ end ∷ [])) from [] ≡ get_or old from [] ++ end ∷ []
    here = get_or-set_same old from (get_or old from [] ++ end ∷ []) [] lt

    there : (u : ℕ) → (u ≡ from → ⊥) → get_or (set old from (get_or old from [] ++ end ∷ [])) u [] ≡ get_or old u []
    there u ne = get_or-set_other old from u (get_or old from [] ++ end ∷ []) [] ne

-- the same where the row was read and written
pub put_as : {E : Type 0} (r : Result (Unit {0}) E) (from end : ℕ) (old : List (List ℕ)) (row new : List ℕ) → from < length old
    → row ≡ get_or old from row → OnOk r (new ≡ row ++ end ∷ []) → OnOk r (PutsEdges (from ∷ []) end old (set old from new))
put_as (Ok u) from end old row new lt is e =
    subst (λ (n : List ℕ). PutsEdges (from ∷ []) end old (set old from n))
    (sym (e ∙ ap (λ (xs : List ℕ). xs ++ end ∷ []) (get_or_read old from row lt is []))) (put_one from end old lt)
put_as (Err why) from end old row new lt is e = tt

-- ---- more edges

pub puts_both : (xs ys : List ℕ) (end : ℕ) (old mid new : List (List ℕ)) → PutsEdges xs end old mid
    → PutsEdges ys end mid new → PutsEdges (xs ++ ys) end old new
puts_both xs ys end old mid new one two = record {
  len = two.len ∙ one.len;
  kept = λ u v h. two.kept u v (one.kept u v h);
  put = λ u h. elim (Contains-append_cases xs ys u h) [
    | inl a ↦ two.kept u end (one.put u a)
    | inr b ↦ two.put u b
  ];
  only = λ u v h. elim (two.only u v h) [
    | inl before ↦ (elim (one.only u v before) [
      | inl old' ↦ inl old'
      | inr a ↦ inr (Contains-append_left xs ys u a.0, a.1)
    ])
    | inr b ↦ inr (Contains-append_right xs ys u b.0, b.1)
  ];
}

pub puts_more : (row : List ℕ) (i d : ℕ) (end : ℕ) (old mid new : List (List ℕ)) → i < length row
    → PutsEdges (take i row) end old mid → PutsEdges (get_or row i d ∷ []) end mid new
    → PutsEdges (take (i + 1) row) end old new
puts_more row i d end old mid new lt one two =
    subst (λ (xs : List ℕ). PutsEdges xs end old new) (sym (take_more row i d lt))
    (puts_both (take i row) (get_or row i d ∷ []) end old mid new one two)

-- ---- rows

row_of_none : (n v : ℕ) → ◌≡◌ {A = List ℕ} (get_or (replicate n []) v []) []
row_of_none n v = elim (cases_lt v n) [
  | inl lt ↦ get_or-replicate n v [] [] lt
  | inr ge ↦ get_or_past (replicate n []) v [] (omega (arith, length-replicate {A = List ℕ} n [], ge))
]

pub turned_none : (rows : List (List ℕ)) (n : ℕ) → n ≡ length rows → IsTurned rows 0 (replicate n [])
turned_none rows n e = record {
  len = length-replicate n [] ∙ e;
  turned = λ u v lt h. absurd (omega (arith, lt));
  only = λ u v h. absurd (none_in u (subst (λ (xs : List ℕ). Contains xs u) (row_of_none n v) h));
}

-- one row more
pub turned_more : (rows : List (List ℕ)) (i : ℕ) (back new : List (List ℕ)) → IsTurned rows i back
    → PutsEdges (row_at rows i) i back new → IsTurned rows (i + 1) new
turned_more rows i back new is puts = record {
  len = puts.len ∙ is.len;
  turned = λ u v lt h. elim (cases_lt u i) [
    | inl before ↦ puts.kept v u (is.turned u v before h)
    | inr past ↦ (let e : u ≡ i = omega (arith, lt, past) in
        subst (λ (k : ℕ). HasEdge new v k) (sym e) (puts.put v (subst (λ (k : ℕ). HasEdge rows k v) e h)))
  ];
  only = λ u v h. elim (puts.only v u h) [
    | inl before ↦ (let old = is.only u v before in (omega (arith, old.0), old.1))
    | inr here ↦ (omega (arith, here.1), subst (λ (k : ℕ). HasEdge rows k v) (sym here.1) here.0)
  ];
}

pub turned_all : (rows : List (List ℕ)) (n : ℕ) (back : List (List ℕ)) → n ≡ length rows → IsTurned rows n back
    → IsInverse rows back
turned_all rows n back e is = record {
  len = is.len;
  turned = λ u v h. is.turned u v (omega (arith, e, edge_from rows u v h)) h;
  only = λ u v h. (is.only u v h).1;
}
