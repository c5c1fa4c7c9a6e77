-- The ends of the loose cells that are used.
use Rattle.std.proofs.Common.{◌≡◌, ℕ, zero, suc, ◌<◌, ◌≤◌, Bool, cond, true, false, Option, None, Some, Result, Ok, Err, List, [], ◌∷◌, ◌++◌, length, take, refl, sym, ap, subst, ◌∙◌, arith}
use Rattle.std.specs.Prelude.{◌==◌, ◌||◌, ◌&&◌, OnOk, OnErr, find, nat_lt, slice_get}
use Rattle.std.specs.List.{list_any}
use Rattle.std.specs.Ordering.{is_lt, nat_cmp}
use Rattle.std.specs.Option.{IsSome}
use Rattle.std.specs.declared.cmp.Ordering.{Ordering}
use Rattle.std.specs.declared.cmp.Ordering.TheVariants.{Less, Equal, Greater}
use Rattle.std.specs.BTreeMap.{BTreeMap, get, is_at}
use Rattle.std.specs.Map.{lookup}
use Rattle.std.proofs.lemmas.Bool.{eqb-true}
use Rattle.std.proofs.lemmas.Bool.Decides.{nat_tests}
use Rattle.std.proofs.lemmas.List.{take-append-le}
use Rattle.std.proofs.Math.Seq.{take-length}
use Rattle.salvage_walk.specs.declared.claims.Claim.{Claim}
use Rattle.salvage_walk.specs.Uses.{lies_in, overlaps, claim_of}
use Rattle.salvage_walk.specs.Placed.{AreOnce, ArePlaced, claim_if_some, claim_where}
use Rattle.salvage_walk.specs.LooseEnds.{loose_end, with_end, without_end, LooseEnds, IsLastBefore}
use Rattle.salvage_walk.proofs.PlacedLemmas.{find-last, find-before, find-within, get-last, once-take}

pub any-rest : (a b : Bool) → (a || b) ≡ false → (a ≡ false) × (b ≡ false)
any-rest true b e = absurd cc
any-rest false b e = (refl, e)

-- where none of them is at a place
any-none : (p : Claim → Bool) (cs : List Claim) → ((n : ℕ) (c : Claim) → slice_get cs n ≡ Some c → p c ≡ false)
    → list_any p cs ≡ false
any-none p [] h = refl
any-none p (c ∷ cs) h = ap (λ b. b || list_any p cs) (h 0 c refl) ∙ any-none p cs (λ n d e. h (suc n) d e)

-- one at a place is found where none before it is
find-at : (p : Claim → Bool) (cs : List Claim) (n : ℕ) (c : Claim) → slice_get cs n ≡ Some c → p c ≡ true
    → find p (take n cs) ≡ None
    → find p cs ≡ Some c
find-at p [] n c e t none = absurd cc
find-at p (x ∷ cs) zero c e t none = same c (sym e) t
  where
    same : (d : Claim) → Some d ≡ Some x → p d ≡ true → cond (p x) (Some x) (find p cs) ≡ Some d
    same d f s = let k : d ≡ x = cc in rw (sym k, s) refl
find-at p (x ∷ cs) (suc n) c e t none = go (p x) refl (λ k. find-at p cs n c e t k)
  where
    go : (b : Bool) → p x ≡ b → (find p (take n cs) ≡ None → find p cs ≡ Some c) → cond b (Some x) (find p cs) ≡ Some c
    go true h more =
        absurd (let f : Some x ≡ None = ap (λ (b : Bool). cond b (Some x) (find p (take n cs))) (sym h) ∙ none in cc)
    go false h more = more (ap (λ (b : Bool). cond b (Some x) (find p (take n cs))) (sym h) ∙ none)

pub eq-self : (n : ℕ) → (n == n) ≡ true
eq-self n = grind (arith, nat_tests)

pub once-found : (claims : List Claim) (n : ℕ) (c : Claim) → AreOnce claims → slice_get claims n ≡ Some c
    → claim_of c.at claims ≡ Some c
once-found claims n c o e = find-at (λ (d : Claim). d.at == c.at) claims n c e (eq-self c.at) (o n c e)

-- of what is used of a loose cell no byte is among others of which none is used
found-lies : (cs : List Claim) (a end x y : ℕ) → loose_end (claim_of a cs) ≡ Some end
    → list_any (lies_in x y) cs ≡ false
    → (nat_lt a y && nat_lt x end) ≡ false
found-lies [] a end x y e none = absurd cc
found-lies (c ∷ cs) a end x y e none = go (c.at == a) refl e (λ d. found-lies cs a end x y d r.1)
  where
    r : (lies_in x y c ≡ false) × (list_any (lies_in x y) cs ≡ false)
    r = any-rest (lies_in x y c) (list_any (lies_in x y) cs) none

    loose : (l : Bool) → c.loose ≡ l → c.at ≡ a → cond l (Some c.end) None ≡ Some end
        → (nat_lt a y && nat_lt x end) ≡ false
    loose false h t e = absurd cc
    loose true h t e =
        let f : c.end ≡ end = cc in
        sym (ap (λ b. b && (nat_lt c.at y && nat_lt x c.end)) h ∙ ap (λ n. nat_lt n y && nat_lt x c.end) t
        ∙ ap (λ n. nat_lt a y && nat_lt x n) f)
        ∙ r.0

    go : (b : Bool) → (c.at == a) ≡ b → loose_end (cond b (Some c) (claim_of a cs)) ≡ Some end
        → (loose_end (claim_of a cs) ≡ Some end → (nat_lt a y && nat_lt x end) ≡ false)
        → (nat_lt a y && nat_lt x end) ≡ false
    go true t e more = loose c.loose refl (eqb-true c.at a t) e
    go false t e more = more e

-- ---- is a byte used?

below-true : (a b : ℕ) → a < b → nat_lt a b ≡ true
below-true a b l = grind (arith, nat_tests)

-- of a claim that isn't at fault
lies-not : (c : Claim) (x y : ℕ) → ((c.loose ≡ true) → c.at < y → x < c.end → ⊥) → lies_in x y c ≡ false
lies-not c x y never = go c.loose (nat_lt c.at y) (nat_lt x c.end) refl refl refl
  where
    go : (l a b : Bool) → c.loose ≡ l → nat_lt c.at y ≡ a → nat_lt x c.end ≡ b → (l && (a && b)) ≡ false
    go false a b h i j = refl
    go true false b h i j = refl
    go true true false h i j = refl
    go true true true h i j = absurd (never h (grind (arith, nat_tests, i)) (grind (arith, nat_tests, j)))

pub ends-none : (ends : BTreeMap ℕ ℕ) (claims : List Claim) (at end : ℕ) → AreOnce claims → LooseEnds ends claims
    → IsLastBefore ends end None → false ≡ overlaps at end claims
ends-none ends claims at end o e last = sym (any-none (lies_in at end) claims (λ n c h. lies-not c at end (λ l low high.
    let found : get nat_cmp ends c.at ≡ Some c.end = e.each c.at ∙ ap loose_end (once-found claims n c o h)
    ∙ ap (λ b. cond b (Some c.end) None) l in
    let none : get nat_cmp ends c.at ≡ None = last c.at low in
    absurd (let f : Some c.end ≡ None = sym found ∙ none in cc))))

pub ends-some : (ends : BTreeMap ℕ ℕ) (claims : List Claim) (at end : ℕ) (last : ℕ × ℕ) → AreOnce claims
    → LooseEnds ends claims
    → IsLastBefore ends end (Some last) → nat_lt at last.1 ≡ overlaps at end claims
ends-some ends claims at end last o e h = go (nat_lt at last.1) (overlaps at end claims) refl refl
  where
    there : loose_end (claim_of last.0 claims) ≡ Some last.1
    there = sym (e.each last.0) ∙ h.1

    go : (b d : Bool) → nat_lt at last.1 ≡ b → overlaps at end claims ≡ d → b ≡ d
    go true true i j = refl
    go false false i j = refl
    go true false i j =
        absurd (let f : true ≡ false = sym (ap (λ b. b && true) (below-true last.0 end h.0))
        ∙ ap (λ b. nat_lt last.0 end && b) (sym i)
        ∙ found-lies claims last.0 last.1 at end there j in cc)
    go false true i j =
        let high : last.1 ≤ at = grind (arith, nat_tests, i) in
        absurd (let f : true ≡ false = sym j ∙ any-none (lies_in at end) claims (λ n c k. lies-not c at end (λ l low
        over.
        let found : get nat_cmp ends c.at ≡ Some c.end
        = e.each c.at ∙ ap loose_end (once-found claims n c o k) ∙ ap (λ b. cond b (Some c.end) None) l in
        let near : c.at ≤ last.0 = h.2 c.at c.end low found in
        by c over high near found (c.at == last.0) refl)) in cc)
      where
        by : (c : Claim) → at < c.end → last.1 ≤ at → c.at ≤ last.0 → get nat_cmp ends c.at ≡ Some c.end
            → (b : Bool) → (c.at == last.0) ≡ b → ⊥
        by c over high near found true t =
            let same : c.at ≡ last.0 = eqb-true c.at last.0 t in
            let twice : Some c.end ≡ Some last.1 = sym found ∙ ap (get nat_cmp ends) same ∙ h.1 in
            let f : c.end ≡ last.1 = cc in omega (arith, over, high, f)
        by c over high near found false t =
            let less : c.at < last.0 = grind (arith, nat_tests, t, near) in
            let over-it : c.end ≤ last.0 = e.apart c.at c.end last.0 last.1 found h.1 less in
            let long : last.0 < last.1 = e.long last.0 last.1 h.1 in omega (arith, over, high, over-it, long)

-- ---- the last one before a place

less-is : (a b : ℕ) → nat_cmp a b ≡ Less → a < b
less-is a b e = go (nat_lt a b) (a == b) refl e
  where
    go : (l d : Bool) → nat_lt a b ≡ l → cond {A = Ordering} l Less (cond d Equal Greater) ≡ Less → a < b
    go true d h e = grind (arith, nat_tests, h)
    go false true h e = absurd cc
    go false false h e = absurd cc

is-less : (a b : ℕ) → a < b → nat_cmp a b ≡ Less
is-less a b l = ap (λ c. cond {A = Ordering} c Less (cond (a == b) Equal Greater)) (below-true a b l)

pub last-one : (ends : BTreeMap ℕ ℕ) (place at end : ℕ) → nat_cmp at place ≡ Less → get nat_cmp ends at ≡ Some end
    → ((q : ℕ) → nat_cmp q place ≡ Less → IsSome (get nat_cmp ends q) → is_lt (nat_cmp at q) ≡ false)
    → IsLastBefore ends place (Some (at, end))
last-one ends place at end l e h =
    (less-is at place l, e, λ q other low found. near q (h q (is-less q place low) (is q other found)))
  where
    is : (q other : ℕ) → get nat_cmp ends q ≡ Some other → IsSome (get nat_cmp ends q)
    is q other d = rw d refl

    near : (q : ℕ) → is_lt (nat_cmp at q) ≡ false → q ≤ at
    near q k = go (nat_lt at q) refl
      where
        go : (b : Bool) → nat_lt at q ≡ b → q ≤ at
        go false i = grind (arith, nat_tests, i)
        go true i = absurd (let f : true ≡ false = sym (ap is_lt (is-less at q (grind (arith, nat_tests, i))))
            ∙ k in cc)

-- ---- a use more, and a use less

-- which end stands at a place: that of the use, or another
with-cases : {P : Type 0} (c : Claim) (at end : ℕ) (o : Option ℕ) → with_end c at o ≡ Some end
    → (c.loose ≡ true → c.at ≡ at → c.end ≡ end → P) → (o ≡ Some end → P) → P
with-cases {P} c at end o e f g = go c.loose (c.at == at) refl refl e
  where
    go : (l b : Bool) → c.loose ≡ l → (c.at == at) ≡ b → cond (l && b) (Some c.end) o ≡ Some end → P
    go false b h t e = g e
    go true false h t e = g e
    go true true h t e = let k : c.end ≡ end = cc in f h (eqb-true c.at at t) k

pub loose-push : (old new : BTreeMap ℕ ℕ) (claims : List Claim) (c : Claim)
    → ((at : ℕ) → get nat_cmp new at ≡ with_end c at (get nat_cmp old at)) → claim_of c.at claims ≡ None → c.at < c.end
    → (c.loose ≡ true → overlaps c.at c.end claims ≡ false) → LooseEnds old claims → LooseEnds new (claims ++ c ∷ [])
loose-push old new claims c u fresh long free f = record {
  each = λ at. u at ∙ at_each at (c.at == at) refl;
  long = λ at end e. with-cases c at end (get nat_cmp old at) (sym (u at) ∙ e)
      (λ l same k. let x : at < end = omega (arith, long, same, k) in x) (λ e. f.long at end e);
  apart = λ a end b other e d less.
      with-cases c a end (get nat_cmp old a) (sym (u a) ∙ e)
      (λ l same k. with-cases c b other (get nat_cmp old b) (sym (u b) ∙ d)
      (λ l2 same2 k2. let x : end ≤ b = omega (arith, less, same, same2) in x)
      (λ d. let y : (nat_lt b c.end && nat_lt c.at other) ≡ false = spared b other d (free l) in
      let z : b < other = f.long b other d in first a end b other c.end less same k z y))
      (λ e. with-cases c b other (get nat_cmp old b) (sym (u b) ∙ d)
      (λ l same k. let y : (nat_lt a c.end && nat_lt c.at end) ≡ false = spared a end e (free l) in
      second a end b less same y)
      (λ d. f.apart a end b other e d less));
}
  where
    spared : (a end : ℕ) → get nat_cmp old a ≡ Some end → overlaps c.at c.end claims ≡ false
        → (nat_lt a c.end && nat_lt c.at end) ≡ false
    spared a end e none = found-lies claims a end c.at c.end (sym (f.each a) ∙ e) none

    first : (a end b other long : ℕ) → a < b → c.at ≡ a → c.end ≡ end → b < other
        → (nat_lt b c.end && nat_lt c.at other) ≡ false → end ≤ b
    first a end b other long less same k z y = grind (arith, nat_tests)

    second : (a end b : ℕ) → a < b → c.at ≡ b → (nat_lt a c.end && nat_lt c.at end) ≡ false → end ≤ b
    second a end b less same y = grind (arith, nat_tests)

    at_each : (at : ℕ) (b : Bool) → (c.at == at) ≡ b
        → with_end c at (get nat_cmp old at) ≡ loose_end (claim_of at (claims ++ c ∷ []))
    at_each at true t = by c.loose refl
      where
        none : claim_of at claims ≡ None
        none = ap (λ k. claim_of k claims) (sym (eqb-true c.at at t)) ∙ fresh

        found : claim_of at (claims ++ c ∷ []) ≡ Some c
        found = find-last (λ (d : Claim). d.at == at) claims c none ∙ ap (λ b. cond b (Some c) None) t

        by : (l : Bool) → c.loose ≡ l → with_end c at (get nat_cmp old at) ≡ loose_end (claim_of at (claims ++ c ∷ []))
        by true h = ap (λ b. cond (b && (c.at == at)) (Some c.end) (get nat_cmp old at)) h
            ∙ ap (λ b. cond b (Some c.end) (get nat_cmp old at)) t
            ∙ sym (ap loose_end found ∙ ap (λ b. cond b (Some c.end) None) h)
        by false h = ap (λ b. cond (b && (c.at == at)) (Some c.end) (get nat_cmp old at)) h ∙ f.each at
            ∙ ap loose_end none
            ∙ sym (ap loose_end found ∙ ap (λ b. cond b (Some c.end) None) h)
    at_each at false t = by c.loose refl
      where
        by : (l : Bool) → c.loose ≡ l → with_end c at (get nat_cmp old at) ≡ loose_end (claim_of at (claims ++ c ∷ []))
        by true h = ap (λ b. cond (b && (c.at == at)) (Some c.end) (get nat_cmp old at)) h
            ∙ ap (λ b. cond b (Some c.end) (get nat_cmp old at)) t
            ∙ f.each at ∙ ap loose_end (sym (find-before (λ (d : Claim). d.at == at) claims c t))
        by false h = ap (λ b. cond (b && (c.at == at)) (Some c.end) (get nat_cmp old at)) h
            ∙ f.each at ∙ ap loose_end (sym (find-before (λ (d : Claim). d.at == at) claims c t))

-- an end that stands there without a use stood there with it
without-was : (c : Claim) (at end : ℕ) (o : Option ℕ) → without_end c at o ≡ Some end → o ≡ Some end
without-was c at end o e = go (c.loose && (c.at == at)) e
  where
    go : (b : Bool) → cond b None o ≡ Some end → o ≡ Some end
    go true e = absurd cc
    go false e = e

pub loose-pop : (old new : BTreeMap ℕ ℕ) (claims : List Claim) (c : Claim)
    → ((at : ℕ) → get nat_cmp new at ≡ without_end c at (get nat_cmp old at)) → claim_of c.at claims ≡ None
    → LooseEnds old (claims ++ c ∷ []) → LooseEnds new claims
loose-pop old new claims c u fresh f = record {
  each = λ at. u at ∙ at_each at (c.at == at) refl;
  long = λ at end e. f.long at end (without-was c at end (get nat_cmp old at) (sym (u at) ∙ e));
  apart = λ a end b other e d less.
      f.apart a end b other (without-was c a end (get nat_cmp old a) (sym (u a) ∙ e))
      (without-was c b other (get nat_cmp old b) (sym (u b) ∙ d)) less;
}
  where
    at_each : (at : ℕ) (b : Bool) → (c.at == at) ≡ b
        → without_end c at (get nat_cmp old at) ≡ loose_end (claim_of at claims)
    at_each at true t = by c.loose refl
      where
        none : claim_of at claims ≡ None
        none = ap (λ k. claim_of k claims) (sym (eqb-true c.at at t)) ∙ fresh

        found : claim_of at (claims ++ c ∷ []) ≡ Some c
        found = find-last (λ (d : Claim). d.at == at) claims c none ∙ ap (λ b. cond b (Some c) None) t

        by : (l : Bool) → c.loose ≡ l → without_end c at (get nat_cmp old at) ≡ loose_end (claim_of at claims)
        by true h = ap (λ b. cond (b && (c.at == at)) None (get nat_cmp old at)) h
            ∙ ap (λ b. cond b None (get nat_cmp old at)) t
            ∙ sym (ap loose_end none)
        by false h = ap (λ b. cond (b && (c.at == at)) None (get nat_cmp old at)) h ∙ f.each at ∙ ap loose_end found
            ∙ ap (λ b. cond b (Some c.end) None) h ∙ sym (ap loose_end none)
    at_each at false t = by c.loose refl
      where
        kept : get nat_cmp old at ≡ loose_end (claim_of at claims)
        kept = f.each at ∙ ap loose_end (find-before (λ (d : Claim). d.at == at) claims c t)

        by : (l : Bool) → c.loose ≡ l → without_end c at (get nat_cmp old at) ≡ loose_end (claim_of at claims)
        by true h = ap (λ b. cond (b && (c.at == at)) None (get nat_cmp old at)) h
            ∙ ap (λ b. cond b None (get nat_cmp old at)) t ∙ kept
        by false h = ap (λ b. cond (b && (c.at == at)) None (get nat_cmp old at)) h ∙ kept

-- the last of some was of no cell before
pub once-last : (claims : List Claim) (c : Claim) → AreOnce (claims ++ c ∷ []) → claim_of c.at claims ≡ None
once-last claims c o =
    ap (claim_of c.at) (sym (take-append-le (length claims) claims (c ∷ []) (omega arith) ∙ take-length claims))
    ∙ o (length claims) c (get-last claims c)

pub once-front : (claims : List Claim) (c : Claim) → AreOnce (claims ++ c ∷ []) → AreOnce claims
once-front claims c o =
    subst AreOnce (take-append-le (length claims) claims (c ∷ []) (omega arith) ∙ take-length claims)
    (once-take (length claims) (claims ++ c ∷ []) o)

-- ---- maps that hold the same

loose-alike : (old new : BTreeMap ℕ ℕ) (claims : List Claim) → ((at : ℕ) → get nat_cmp new at ≡ get nat_cmp old at)
    → LooseEnds old claims → LooseEnds new claims
loose-alike old new claims s f = record {
  each = λ at. s at ∙ f.each at;
  long = λ at end e. f.long at end (sym (s at) ∙ e);
  apart = λ a end b other e d less. f.apart a end b other (sym (s a) ∙ e) (sym (s b) ∙ d) less;
}

pub loose-same : (old new : BTreeMap ℕ ℕ) (claims : List Claim) → new.entries ≡ old.entries → LooseEnds old claims
    → LooseEnds new claims
loose-same old new claims e f =
    loose-alike old new claims (λ at. ap (λ (es : List (ℕ × ℕ)). lookup (is_at (nat_cmp at)) es) e) f

-- an end that was noted and forgotten again
undone : (c : Claim) (at : ℕ) (o : Option ℕ) → (c.at ≡ at → o ≡ None) → without_end c at (with_end c at o) ≡ o
undone c at o none = go c.loose (c.at == at) refl
  where
    go : (l b : Bool) → (c.at == at) ≡ b → cond (l && b) None (cond (l && b) (Some c.end) o) ≡ o
    go false b t = refl
    go true false t = refl
    go true true t = sym (none (eqb-true c.at at t))

pub loose-step : {X E : Type 0} (old noted new : BTreeMap ℕ ℕ) (claims after : List Claim) (c : Claim) (r : Result X E)
    → ((at : ℕ) → get nat_cmp noted at ≡ with_end c at (get nat_cmp old at)) → claim_of c.at claims ≡ None
    → c.at < c.end
    → (c.loose ≡ true → overlaps c.at c.end claims ≡ false) → OnOk r (after ≡ claims ++ c ∷ [])
    → OnOk r (new.entries ≡ noted.entries)
    → OnErr r (after ≡ claims) → OnErr r ((at : ℕ) → get nat_cmp new at ≡ without_end c at (get nat_cmp noted at))
    → LooseEnds old claims → LooseEnds new after
loose-step old noted new claims after c (Ok x) u fresh long free ok same err gone f =
    rw ok (loose-same noted new (claims ++ c ∷ []) same (loose-push old noted claims c u fresh long free f))
loose-step old noted new claims after c (Err x) u fresh long free ok same err gone f =
    rw err (loose-alike old new claims (λ at. gone at ∙ ap (without_end c at) (u at)
    ∙ undone c at (get nat_cmp old at) (λ t. f.each at ∙ ap loose_end (ap (λ k. claim_of k claims) (sym t) ∙ fresh))) f)

-- ---- the number of a use

-- at the place of a use stands its number, or one before it
pub placed-before : {P : Type 0} (places : BTreeMap ℕ ℕ) (claims : List Claim) (i : ℕ) (s : Claim) → ArePlaced places claims
    → slice_get claims i ≡ Some s → ((n : ℕ) → get nat_cmp places s.at ≡ Some n → n ≤ i → P) → P
placed-before {P} places claims i s f e k =
    go (get nat_cmp places s.at) refl (f.each s.at ∙ once-found claims i s f.once e)
  where
    near : (n : ℕ) (o : Option Claim) → slice_get claims n ≡ o → claim_if_some s.at o ≡ Some s → n ≤ i
    near n None d w = absurd cc
    near n (Some c) d w = by (c.at == s.at) refl w (nat_lt i n) refl
      where
        late : (c.at ≡ s.at) → i < n → n ≤ i
        late same l =
            let none : claim_of s.at (take n claims) ≡ None = ap (λ a. claim_of a (take n claims)) (sym same) ∙ f.once n c d in
            let some : claim_of s.at (take n claims) ≡ Some s
            = find-within (λ (x : Claim). x.at == s.at) n claims i s l e (eq-self s.at) ∙ once-found claims i s f.once e in
            absurd (let h : Some s ≡ None = sym some ∙ none in cc)

        by : (b : Bool) → (c.at == s.at) ≡ b → cond b (Some c) None ≡ Some s → (l : Bool) → nat_lt i n ≡ l → n ≤ i
        by false t w l h = absurd cc
        by true t w false h = grind (arith, nat_tests, h)
        by true t w true h = late (eqb-true c.at s.at t) (grind (arith, nat_tests, h))

    go : (o : Option ℕ) → get nat_cmp places s.at ≡ o → claim_where s.at claims o ≡ Some s → P
    go None d w = absurd cc
    go (Some n) d w = k n d (near n (slice_get claims n) refl w)
