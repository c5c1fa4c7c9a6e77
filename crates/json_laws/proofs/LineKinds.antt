-- Lines whose objects tell them.
use Rattle.std.proofs.Common.{◌≡◌, ℕ, cond, List, [], ◌∷◌, ◌++◌, Option, Some, None, refl, sym, ap, ◌∙◌}
use Rattle.std.specs.Prelude.{bytes_eq}
use Rattle.std.specs.List.{AllByRecursion, flat_map}
use Rattle.json_laws.specs.Objects.{Object, IsObject, IsPrintableLine, json_of, told}
use Rattle.json_laws.proofs.Parts.{first_byte, apart}
use Rattle.json_laws.proofs.Printable.{object_prints}
use Rattle.json_laws.proofs.Told.{parted_object}

-- ---- words

-- the first of these whose word it is
abbrev pub pick : {A : Type 0} → (A → List ℕ) → List A → List ℕ → Option A
pick word_of [] word = None
pick word_of (x ∷ xs) word = cond (bytes_eq (word_of x) word) (Some x) (pick word_of xs word)

-- ---- lines

same_some : {L : Type 0} (a b : L) → Some a ≡ Some b → a ≡ b
same_some a b e = cc

-- a kind of line: its text, its object, what is asked of it, and the line of an object
pub record Kind (L : Type 0) : Type 1 where
  pub json : L → List ℕ
  pub object : L → Object
  pub Is : L → Type 0
  pub from : Object → Option L
  pub is : (l : L) → json l ≡ json_of (object l)
  pub sound : (l : L) → Is l → IsObject (object l)
  pub back : (l : L) → Is l → from (told (object l)) ≡ Some l

module _ {L : Type 0} (k : Kind L) where
  pub line_told : (a b : L) (after more : List ℕ) → k.Is a → k.Is b → k.json a ++ after ≡ k.json b ++ more
      → (a ≡ b) × (after ≡ more)
  line_told a b after more is_a is_b e =
      let both = parted_object (k.object a) (k.object b) after more (k.sound a is_a) (k.sound b is_b)
      (ap (λ (t : List ℕ). t ++ after) (sym (k.is a)) ∙ e ∙ ap (λ (t : List ℕ). t ++ more) (k.is b)) in
      (same_some a b (sym (k.back a is_a) ∙ ap k.from both.0 ∙ k.back b is_b), both.1)

  begins : (l : L) (after : List ℕ) → first_byte (k.json l ++ after) ≡ 123
  begins l after = ap (λ (t : List ℕ). first_byte (t ++ after)) (k.is l)

  pub lines_told : (ks ls : List L) → AllByRecursion k.Is ks → AllByRecursion k.Is ls
      → flat_map k.json ks ≡ flat_map k.json ls → ks ≡ ls
  lines_told [] [] is_k is_l e = refl
  lines_told [] (l ∷ ls) is_k is_l e =
      absurd (apart 0 123 refl (ap first_byte e ∙ begins l (flat_map k.json ls)))
  lines_told (l ∷ ls) [] is_k is_l e =
      absurd (apart 0 123 refl (sym (ap first_byte e) ∙ begins l (flat_map k.json ls)))
  lines_told (a ∷ ks) (b ∷ ls) is_k is_l e =
      let first = line_told a b (flat_map k.json ks) (flat_map k.json ls) is_k.0 is_l.0 e in
      let others = lines_told ks ls is_k.1 is_l.1 first.1 in
      (λ i. first.0 i ∷ others i)

  pub line_prints : (l : L) → k.Is l → IsPrintableLine (k.json l)
  line_prints l is =
      let p = object_prints (k.object l) (k.sound l is) in
      (p.0, p.1, k.is l ∙ p.2)
