-- Members of lists, and what a test keeps of them.
use Rattle.std.proofs.Common.{◌≡◌, ◌⊎◌, inl, inr, ◌↔◌, zero, suc, ◌&&◌, Bool, true, false, cond, List, [], ◌∷◌, filter, Contains, refl, sym, ap, subst, ◌∙◌, arith}
use Rattle.std.specs.List.{All}
use Rattle.std.proofs.lemmas.List.Elements.{All-contains, filter_passes}

module _ {X : Type 0} where
  pub here : (x : X) (xs : List X) → Contains (x ∷ xs) x
  here x xs = (0, omega arith, refl)

  pub there : (y : X) (xs : List X) (x : X) → Contains xs x → Contains (y ∷ xs) x
  there y xs x c = (suc c.0, omega (arith, c.1), c.2)

  pub in_cons : (y : X) (xs : List X) (x : X) → Contains (y ∷ xs) x → (y ≡ x) ⊎ Contains xs x
  in_cons y xs x (zero, lt, e) = inl e
  in_cons y xs x (suc k, lt, e) = inr (k, omega (arith, lt), e)

  pub in_none : (x : X) → Contains [] x → ⊥
  in_none x c = absurd (omega (arith, c.1))

  module _ (p : X → Bool) where
    in_cond : (b : Bool) (y : X) (ys : List X) (x : X) → Contains ys x → Contains (cond b (y ∷ ys) ys) x
    in_cond true y ys x c = there y ys x c
    in_cond false y ys x c = c

    -- what passes is kept
    kept : (xs : List X) (x : X) → Contains xs x → p x ≡ true → Contains (filter p xs) x
    kept [] x c e = absurd (in_none x c)
    kept (y ∷ ys) x c e = by (in_cons y ys x c) (λ i. kept ys x i e)
      where
        by : (y ≡ x) ⊎ Contains ys x → (Contains ys x → Contains (filter p ys) x) → Contains (filter p (y ∷ ys)) x
        by (inl is) further = subst (λ (b : Bool). Contains (cond b (y ∷ filter p ys) (filter p ys)) x) (sym (ap p is ∙ e))
            (subst (λ (z : X). Contains (y ∷ filter p ys) z) is (here y (filter p ys)))
        by (inr i) further = in_cond (p y) y (filter p ys) x (further i)

    -- what is kept was there
    was : (xs : List X) (x : X) → Contains (filter p xs) x → Contains xs x
    was [] x c = c
    was (y ∷ ys) x c = by (p y) c (λ i. was ys x i)
      where
        by_place : (y ≡ x) ⊎ Contains (filter p ys) x → (Contains (filter p ys) x → Contains ys x) → Contains (y ∷ ys) x
        by_place (inl is) further = subst (λ (z : X). Contains (y ∷ ys) z) is (here y ys)
        by_place (inr i) further = there y ys x (further i)

        by : (b : Bool) → Contains (cond b (y ∷ filter p ys) (filter p ys)) x → (Contains (filter p ys) x → Contains ys x)
            → Contains (y ∷ ys) x
        by true d further = by_place (in_cons y (filter p ys) x d) further
        by false d further = there y ys x (further d)

    pub kept_exactly : (xs : List X) (x : X) → Contains (filter p xs) x ↔ (Contains xs x × (p x ≡ true))
    kept_exactly xs x = (
      (λ c. (was xs x c, All-contains (λ (y : X). p y ≡ true) (filter p xs) x (filter_passes p xs) c)),
      (λ c. kept xs x c.0 c.1),
    )

  -- two tests in sequence
  pub filter_twice : (p q r : X → Bool) → ((x : X) → (p x && q x) ≡ r x) → (xs : List X) → filter p (filter q xs) ≡ filter r xs
  filter_twice p q r same [] = refl
  filter_twice p q r same (x ∷ xs) =
      by (q x) (p x) refl ∙ ap (λ (b : Bool). cond b (x ∷ filter p (filter q xs)) (filter p (filter q xs))) (same x)
      ∙ ap (λ (ys : List X). cond (r x) (x ∷ ys) ys) (filter_twice p q r same xs)
    where
      by : (b c : Bool) → p x ≡ c
          → filter p (cond b (x ∷ filter q xs) (filter q xs)) ≡ cond (c && b) (x ∷ filter p (filter q xs)) (filter p (filter q xs))
      by true true e = ap (λ (a : Bool). cond a (x ∷ filter p (filter q xs)) (filter p (filter q xs))) e
      by true false e = ap (λ (a : Bool). cond a (x ∷ filter p (filter q xs)) (filter p (filter q xs))) e
      by false true e = refl
      by false false e = refl

-- of two tests the second is passed wherever both are
pub and_second : (a b : Bool) → (a ≡ true → b ≡ true) → (a && b) ≡ a
and_second true b h = h refl
and_second false b h = refl
