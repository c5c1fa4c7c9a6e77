-- A list in brackets gives its items, and where it ends.
use Rattle.std.proofs.Common.{◌≡◌, ℕ, Bool, true, List, [], ◌∷◌, ◌++◌, refl, sym, ap, ◌∙◌, append_assoc}
use Rattle.std.specs.Prelude.{codes}
use Rattle.std.specs.List.{AllByRecursion, flat_map, join_by}
use Rattle.json_laws.proofs.Parts.{first_byte, rest_of, apart}

module _ {X : Type 0} (text_of : X → List ℕ) (Is : X → Type 0) (ends : List ℕ → Bool)
    (comma : (rest : List ℕ) → ends (44 ∷ rest) ≡ true) (bracket : (rest : List ℕ) → ends (93 ∷ rest) ≡ true)
    (opens : (x : X) (after : List ℕ) → Is x → first_byte (text_of x ++ after) ≡ 93 → ⊥)
    (parted : (x y : X) (after more : List ℕ) → Is x → Is y → ends after ≡ true → ends more ≡ true
    → text_of x ++ after ≡ text_of y ++ more → (x ≡ y) × (after ≡ more)) where
  abbrev further : List X → List ℕ
  further xs = flat_map (λ y. codes "," ++ text_of y) xs

  -- the items after the first, the bracket, and the rest
  abbrev closed : List X → List ℕ → List ℕ
  closed xs after = further xs ++ (93 ∷ after)

  closed_ends : (xs : List X) (after : List ℕ) → ends (closed xs after) ≡ true
  closed_ends [] after = bracket after
  closed_ends (x ∷ xs) after = comma ((text_of x ++ further xs) ++ (93 ∷ after))

  step : (x : X) (xs : List X) (after : List ℕ) → (text_of x ++ further xs) ++ (93 ∷ after) ≡ text_of x ++ closed xs after
  step x xs after = append_assoc (text_of x) (further xs) (93 ∷ after)

  parted_closed : (xs ys : List X) (after more : List ℕ) → AllByRecursion Is xs → AllByRecursion Is ys
      → closed xs after ≡ closed ys more → (xs ≡ ys) × (after ≡ more)
  parted_closed [] [] after more is_x is_y e = (refl, ap rest_of e)
  parted_closed [] (y ∷ ys) after more is_x is_y e = absurd (apart 93 44 refl (ap first_byte e))
  parted_closed (x ∷ xs) [] after more is_x is_y e = absurd (apart 44 93 refl (ap first_byte e))
  parted_closed (x ∷ xs) (y ∷ ys) after more is_x is_y e =
      let first = parted x y (closed xs after) (closed ys more) is_x.0 is_y.0 (closed_ends xs after)
      (closed_ends ys more) (sym (step x xs after) ∙ ap rest_of e ∙ step y ys more) in
      let others = parted_closed xs ys after more is_x.1 is_y.1 first.1 in
      ((λ i. first.0 i ∷ others.0 i), others.1)

  -- the items, the bracket, and the rest
  abbrev pub listed : List X → List ℕ → List ℕ
  listed xs after = join_by text_of (codes ",") xs ++ (93 ∷ after)

  pub parted_list : (xs ys : List X) (after more : List ℕ) → AllByRecursion Is xs → AllByRecursion Is ys
      → listed xs after ≡ listed ys more → (xs ≡ ys) × (after ≡ more)
  parted_list [] [] after more is_x is_y e = (refl, ap rest_of e)
  parted_list [] (y ∷ ys) after more is_x is_y e =
      absurd (opens y (closed ys more) is_y.0 (sym (ap first_byte (e ∙ step y ys more))))
  parted_list (x ∷ xs) [] after more is_x is_y e =
      absurd (opens x (closed xs after) is_x.0 (ap first_byte (sym (step x xs after) ∙ e)))
  parted_list (x ∷ xs) (y ∷ ys) after more is_x is_y e =
      let first = parted x y (closed xs after) (closed ys more) is_x.0 is_y.0 (closed_ends xs after)
      (closed_ends ys more) (sym (step x xs after) ∙ e ∙ step y ys more) in
      let others = parted_closed xs ys after more is_x.1 is_y.1 first.1 in
      ((λ i. first.0 i ∷ others.0 i), others.1)
