-- The places of the uses of cells.
use Rattle.std.proofs.Common.{◌≡◌, ℕ, zero, suc, ◌<◌, ◌≤◌, Bool, cond, true, false, Option, None, Some, inl, inr, Result, Ok, Err, List, [], ◌∷◌, ◌++◌, length, take, refl, sym, ap, ◌∙◌, arith}
use Rattle.std.specs.Prelude.{◌==◌, ◌⊎◌, OnOk, OnErr, find, nat_lt, slice_get}
use Rattle.std.specs.Ordering.{nat_cmp, is_eq}
use Rattle.std.specs.BTreeMap.{BTreeMap, get, is_at, Updates}
use Rattle.std.specs.Map.{lookup}
use Rattle.std.specs.declared.cmp.Ordering.{Ordering}
use Rattle.std.specs.declared.cmp.Ordering.TheVariants.{Less, Equal, Greater}
use Rattle.std.proofs.lemmas.Bool.{eqb-true}
use Rattle.std.proofs.lemmas.Bool.Decides.{nat_tests}
use Rattle.salvage_walk.specs.declared.claims.Claim.{Claim}
use Rattle.salvage_walk.specs.Uses.{claim_of}
use Rattle.salvage_walk.specs.Placed.{claim_if_some, claim_at_place, claim_where, AreOnce, ArePlaced}

abbrev found : Claim → Option Claim
found c = Some c

found-same : (c d : Claim) → found c ≡ found d → c ≡ d
found-same c d e = cc

-- ---- what is found among some

pub find-rest : (p : Claim → Bool) (c : Claim) (cs : List Claim) → find p (c ∷ cs) ≡ None → (p c ≡ false) × (find p cs ≡ None)
find-rest p c cs e = go (p c) refl e
  where
    go : (b : Bool) → p c ≡ b → (cond b (Some c) (find p cs)) ≡ None → (p c ≡ false) × (find p cs ≡ None)
    go true d e = absurd cc
    go false d e = (d, e)

pub find-take : (p : Claim → Bool) (n : ℕ) (cs : List Claim) → find p cs ≡ None → find p (take n cs) ≡ None
find-take p zero cs e = refl
find-take p (suc n) [] e = refl
find-take p (suc n) (c ∷ cs) e =
    let r = find-rest p c cs e in
    ap (λ b. cond b (Some c) (find p (take n cs))) r.0 ∙ find-take p n cs r.1

-- one that is at a place among the first is found among them as among all
pub find-within : (p : Claim → Bool) (n : ℕ) (cs : List Claim) (i : ℕ) (c : Claim) → i < n → slice_get cs i ≡ Some c → p c ≡ true
    → find p (take n cs) ≡ find p cs
find-within p zero cs i c l e t = absurd (omega (arith, l))
find-within p (suc n) [] i c l e t = absurd cc
find-within p (suc n) (x ∷ cs) zero c l e t =
    let same : x ≡ c = found-same x c e in
    let here : p x ≡ true = ap p same ∙ t in rw here refl
find-within p (suc n) (x ∷ cs) (suc i) c l e t =
    ap (λ (o : Option Claim). cond (p x) (Some x) o) (find-within p n cs i c (omega (arith, l)) e t)

pub find-last : (p : Claim → Bool) (cs : List Claim) (c : Claim) → find p cs ≡ None
    → find p (cs ++ c ∷ []) ≡ cond (p c) (Some c) None
find-last p [] c e = refl
find-last p (x ∷ cs) c e =
    let r = find-rest p x cs e in
    ap (λ b. cond b (Some x) (find p (cs ++ c ∷ []))) r.0 ∙ find-last p cs c r.1

pub find-before : (p : Claim → Bool) (cs : List Claim) (c : Claim) → p c ≡ false → find p (cs ++ c ∷ []) ≡ find p cs
find-before p [] c e = ap (λ b. cond b (Some c) None) e
find-before p (x ∷ cs) c e = ap (λ (o : Option Claim). cond (p x) (Some x) o) (find-before p cs c e)

-- ---- what is at a place

get-end : (cs : List Claim) → slice_get cs (length cs) ≡ None
get-end [] = refl
get-end (c ∷ cs) = get-end cs

pub get-last : (cs : List Claim) (c : Claim) → slice_get (cs ++ c ∷ []) (length cs) ≡ Some c
get-last [] c = refl
get-last (x ∷ cs) c = get-last cs c

-- one at a place among the first is there among all
get-take : (n : ℕ) (cs : List Claim) (i : ℕ) (c : Claim) → slice_get (take n cs) i ≡ Some c → (slice_get cs i ≡ Some c) × (i < n)
get-take zero cs i c e = absurd cc
get-take (suc n) [] i c e = absurd cc
get-take (suc n) (x ∷ cs) zero c e = (e, omega arith)
get-take (suc n) (x ∷ cs) (suc i) c e = let r = get-take n cs i c e in (r.0, omega (arith, r.1))

get-within : (n : ℕ) (cs : List Claim) (i : ℕ) → i < n → slice_get (take n cs) i ≡ slice_get cs i
get-within zero cs i l = absurd (omega (arith, l))
get-within (suc n) [] i l = refl
get-within (suc n) (x ∷ cs) zero l = refl
get-within (suc n) (x ∷ cs) (suc i) l = get-within n cs i (omega (arith, l))

get-beyond : (n : ℕ) (cs : List Claim) (i : ℕ) → n ≤ i → slice_get (take n cs) i ≡ None
get-beyond zero cs i l = refl
get-beyond (suc n) [] i l = refl
get-beyond (suc n) (x ∷ cs) zero l = absurd (omega (arith, l))
get-beyond (suc n) (x ∷ cs) (suc i) l = get-beyond n cs i (omega (arith, l))

-- one at a place after another came is there before, or the other
pub get-push : (cs : List Claim) (c : Claim) (m : ℕ) (d : Claim) → slice_get (cs ++ c ∷ []) m ≡ Some d
    → ((slice_get cs m ≡ Some d) × (take m (cs ++ c ∷ []) ≡ take m cs)) ⊎ ((d ≡ c) × (take m (cs ++ c ∷ []) ≡ cs))
get-push [] c zero d e = inr (found-same d c (sym e), refl)
get-push [] c (suc m) d e = absurd cc
get-push (x ∷ cs) c zero d e = inl (e, refl)
get-push (x ∷ cs) c (suc m) d e = go (get-push cs c m d e)
  where
    Or : List Claim → Type 0
    Or ts = ((slice_get cs m ≡ Some d) × (take m (cs ++ c ∷ []) ≡ take m cs)) ⊎ ((d ≡ c) × (take m (cs ++ c ∷ []) ≡ cs))

    go : Or cs → ((slice_get cs m ≡ Some d) × (x ∷ take m (cs ++ c ∷ []) ≡ x ∷ take m cs)) ⊎ ((d ≡ c) × (x ∷ take m (cs ++ c ∷ []) ≡ x ∷ cs))
    go (inl r) = inl (r.0, ap (λ (ys : List Claim). x ∷ ys) r.1)
    go (inr r) = inr (r.0, ap (λ (ys : List Claim). x ∷ ys) r.1)

-- another that is not of this cell changes nothing
where-before : (at : ℕ) (cs : List Claim) (c : Claim) (i : ℕ) → (c.at == at) ≡ false
    → claim_at_place at (cs ++ c ∷ []) i ≡ claim_at_place at cs i
where-before at [] c zero e = ap (λ b. cond b (Some c) None) e
where-before at [] c (suc i) e = refl
where-before at (x ∷ cs) c zero e = refl
where-before at (x ∷ cs) c (suc i) e = where-before at cs c i e

take-both : (n m : ℕ) (cs : List Claim) → n ≤ m → take n (take m cs) ≡ take n cs
take-both zero m cs l = refl
take-both (suc n) zero cs l = absurd (omega (arith, l))
take-both (suc n) (suc m) [] l = refl
take-both (suc n) (suc m) (x ∷ cs) l = ap (λ (ys : List Claim). x ∷ ys) (take-both n m cs (omega (arith, l)))

pub eq-cmp : (a b : ℕ) → is_eq (nat_cmp a b) ≡ (a == b)
eq-cmp a b = go (nat_lt a b) (a == b) refl refl
  where
    go : (l e : Bool) → nat_lt a b ≡ l → (a == b) ≡ e → is_eq (cond {A = Ordering} l Less (cond e Equal Greater)) ≡ e
    go true true h k = absurd (grind (arith, nat_tests, h, k))
    go true false h k = refl
    go false true h k = refl
    go false false h k = refl

-- ---- all of it

taken : (at n : ℕ) (claims : List Claim) (o : Option ℕ) → claim_where at claims o ≡ claim_of at claims
    → ((m : ℕ) (c : Claim) → slice_get claims m ≡ Some c → claim_of c.at (take m claims) ≡ None)
    → claim_where at (take n claims) o ≡ claim_of at (take n claims)
taken at n claims None e once = sym (find-take (λ (c : Claim). c.at == at) n claims (sym e))
taken at n claims (Some i) e once = by (slice_get claims i) refl e
  where
    p : Claim → Bool
    p c = c.at == at

    -- what is at the place among the first, where what is there among all is of another cell
    other : (o : Option Claim) → slice_get (take n claims) i ≡ o → ((c : Claim) → slice_get claims i ≡ Some c → (c.at == at) ≡ false)
        → claim_if_some at o ≡ None
    other None h k = refl
    other (Some c) h k = ap (λ b. cond b (Some c) None) (k c (get-take n claims i c h).0)

    by : (o : Option Claim) → slice_get claims i ≡ o → claim_if_some at o ≡ claim_of at claims
        → claim_if_some at (slice_get (take n claims) i) ≡ claim_of at (take n claims)
    by None h e = other (slice_get (take n claims) i) refl (λ c k. absurd cc) ∙ sym (find-take p n claims (sym e))
    by (Some c) h e = is (c.at == at) refl e
      where
        here : (b : Bool) → nat_lt i n ≡ b → (c.at == at) ≡ true → found c ≡ claim_of at claims
            → claim_if_some at (slice_get (take n claims) i) ≡ claim_of at (take n claims)
        here true l t e =
            let low : i < n = grind (arith, nat_tests, l) in
            ap (claim_if_some at) (get-within n claims i low ∙ h) ∙ ap (λ b. cond b (Some c) None) t ∙ e
            ∙ sym (find-within p n claims i c low h t)
        here false l t e =
            let high : n ≤ i = grind (arith, nat_tests, l) in
            let same : c.at ≡ at = eqb-true c.at at t in
            let gone : claim_of at (take i claims) ≡ None = ap (λ k. claim_of k (take i claims)) (sym same) ∙ once i c h in
            ap (claim_if_some at) (get-beyond n claims i high)
            ∙ sym (ap (claim_of at) (sym (take-both n i claims high)) ∙ find-take p n (take i claims) gone)

        is : (b : Bool) → (c.at == at) ≡ b → cond b (Some c) None ≡ claim_of at claims
            → claim_if_some at (slice_get (take n claims) i) ≡ claim_of at (take n claims)
        is true t e = here (nat_lt i n) refl t e
        is false t e =
            other (slice_get (take n claims) i) refl
            (λ d k. ap (λ (x : Claim). x.at == at) (found-same d c (sym k ∙ h)) ∙ t) ∙ sym (find-take p n claims (sym e))

pub once-take : (n : ℕ) (claims : List Claim) → AreOnce claims → AreOnce (take n claims)
once-take n claims o = λ m c h.
    let r = get-take n claims m c h in
    ap (claim_of c.at) (take-both m n claims (omega (arith, r.1))) ∙ o m c r.0

pub placed-take : (places : BTreeMap ℕ ℕ) (claims new : List Claim) (n : ℕ) → new ≡ take n claims
    → ArePlaced places claims
    → ArePlaced places new
placed-take places claims new n e f = rw e (record {
  each = λ at. taken at n claims (get nat_cmp places at) (f.each at) f.once;
  once = once-take n claims f.once;
})

pushed-each : (places new : BTreeMap ℕ ℕ) (claims : List Claim) (c : Claim) → Updates nat_cmp places new c.at (Some (length claims))
    → claim_of c.at claims ≡ None → ((at : ℕ) → claim_where at claims (get nat_cmp places at) ≡ claim_of at claims)
    → (at : ℕ) → claim_where at (claims ++ c ∷ []) (get nat_cmp new at) ≡ claim_of at (claims ++ c ∷ [])
pushed-each places new claims c u fresh each at = rw (u.0 at, eq-cmp c.at at) (go (c.at == at) refl)
  where
    go : (b : Bool) → (c.at == at) ≡ b
        → claim_where at (claims ++ c ∷ []) (cond b (Some (length claims)) (get nat_cmp places at)) ≡ claim_of at (claims ++ c ∷ [])
    go true t =
        let none : claim_of at claims ≡ None = ap (λ k. claim_of k claims) (sym (eqb-true c.at at t)) ∙ fresh in
        ap (claim_if_some at) (get-last claims c) ∙ sym (find-last (λ (d : Claim). d.at == at) claims c none)
    go false t = kept (get nat_cmp places at) ∙ each at ∙ sym (find-before (λ (d : Claim). d.at == at) claims c t)
      where
        kept : (o : Option ℕ) → claim_where at (claims ++ c ∷ []) o ≡ claim_where at claims o
        kept (Some i) = where-before at claims c i t
        kept None = refl

once-push : (claims : List Claim) (c : Claim) → claim_of c.at claims ≡ None → AreOnce claims
    → AreOnce (claims ++ c ∷ [])
once-push claims c fresh o = λ m d h. last m d (get-push claims c m d h)
  where
    last : (m : ℕ) (d : Claim)
        → ((slice_get claims m ≡ Some d) × (take m (claims ++ c ∷ []) ≡ take m claims)) ⊎ ((d ≡ c) × (take m (claims ++ c ∷ []) ≡ claims))
        → claim_of d.at (take m (claims ++ c ∷ [])) ≡ None
    last m d (inl r) = ap (claim_of d.at) r.1 ∙ o m d r.0
    last m d (inr r) = ap (claim_of d.at) r.1 ∙ ap (λ (x : Claim). claim_of x.at claims) r.0 ∙ fresh

placed-push : (places new : BTreeMap ℕ ℕ) (claims : List Claim) (c : Claim)
    → Updates nat_cmp places new c.at (Some (length claims)) → claim_of c.at claims ≡ None
    → ArePlaced places claims → ArePlaced new (claims ++ c ∷ [])
placed-push places new claims c u fresh f = record {
  each = pushed-each places new claims c u fresh f.each;
  once = once-push claims c fresh f.once;
}

-- the place was noted, and there was no memory for the use
unpushed-each : (places new : BTreeMap ℕ ℕ) (claims : List Claim) (c : Claim) → Updates nat_cmp places new c.at (Some (length claims))
    → claim_of c.at claims ≡ None → ((at : ℕ) → claim_where at claims (get nat_cmp places at) ≡ claim_of at claims)
    → (at : ℕ) → claim_where at claims (get nat_cmp new at) ≡ claim_of at claims
unpushed-each places new claims c u fresh each at = rw (u.0 at, eq-cmp c.at at) (go (c.at == at) refl)
  where
    go : (b : Bool) → (c.at == at) ≡ b
        → claim_where at claims (cond b (Some (length claims)) (get nat_cmp places at)) ≡ claim_of at claims
    go true t =
        let none : claim_of at claims ≡ None = ap (λ k. claim_of k claims) (sym (eqb-true c.at at t)) ∙ fresh in
        ap (claim_if_some at) (get-end claims) ∙ sym none
    go false t = each at

pub placed-noted : (places new : BTreeMap ℕ ℕ) (claims : List Claim) (c : Claim)
    → Updates nat_cmp places new c.at (Some (length claims)) → claim_of c.at claims ≡ None
    → ArePlaced places claims → ArePlaced new claims
placed-noted places new claims c u fresh f = record {
  each = unpushed-each places new claims c u fresh f.each;
  once = f.once;
}

pub placed-step : {X E : Type 0} (places new : BTreeMap ℕ ℕ) (claims after : List Claim) (c : Claim) (r : Result X E)
    → Updates nat_cmp places new c.at (Some (length claims)) → claim_of c.at claims ≡ None
    → OnOk r (after ≡ claims ++ c ∷ []) → OnErr r (after ≡ claims) → ArePlaced places claims → ArePlaced new after
placed-step places new claims after c (Ok x) u fresh ok err f = rw ok (placed-push places new claims c u fresh f)
placed-step places new claims after c (Err x) u fresh ok err f = rw err (placed-noted places new claims c u fresh f)

pub placed-same : (places new : BTreeMap ℕ ℕ) (claims : List Claim) → new.entries ≡ places.entries
    → ArePlaced places claims
    → ArePlaced new claims
placed-same places new claims e f = record {
  each = λ at. ap (λ (es : List (ℕ × ℕ)). claim_where at claims (lookup (is_at (nat_cmp at)) es)) e ∙ f.each at;
  once = f.once;
}
