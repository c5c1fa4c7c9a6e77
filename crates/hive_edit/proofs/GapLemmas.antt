-- A gap in a list of numbers closed part by part.
use Rattle.std.proofs.Common.{◌≡◌, ◌≤◌, ◌<◌, ℕ, ◌+◌, ◌-◌, ◌*◌, Bool, true, false, List, length, take, drop, Some, refl, sym, ap, ◌∙◌, arith}
use Rattle.std.specs.Option.{IsSomeAnd, option_map}
use Rattle.std.specs.Prelude.{slice_range, nat_lt}
use Rattle.std.specs.Int.{w32, from_le_bytes}
use Rattle.std.proofs.lemmas.Bool.{ltb-true, ltb-false}
use Rattle.std.proofs.lemmas.List.{drop-drop, drop-take, take-take}
use Rattle.nt_bytes.specs.Fields.{u32_in}
use Rattle.hive_model.specs.Bins.{Bin, bins_size}
use Rattle.hive_cells.specs.Held.{held_at, patched}
use Rattle.edited_cells.proofs.Patches.{IsPatchOf, part_patches, in_part}
use Rattle.hive_edit.specs.Gone.{IsClosed, ClosesGap}
use Rattle.hive_edit.proofs.GoneLemmas.{some_and}

-- a range of a range
range_within : (p : List ℕ) (a m i n : ℕ) → i + n ≤ m
    → slice_range (slice_range p a (a + m)) i (i + n) ≡ slice_range p (a + i) (a + i + n)
range_within p a m i n le =
    let whole : a + m - a ≡ i + (m - i) = omega arith in
    let one : i + n - i ≡ n = omega arith in
    let two : a + i + n - (a + i) ≡ n = omega arith in
    ap (λ (k : ℕ). take k (drop i (take (a + m - a) (drop a p)))) one
    ∙ ap (λ (k : ℕ). take n (drop i (take k (drop a p)))) whole
    ∙ ap (take n) (drop-take i (m - i) (drop a p))
    ∙ take-take n (m - i) (drop i (drop a p)) (omega arith)
    ∙ ap (take n) (drop-drop i a p ∙ ap (λ (k : ℕ). drop k p) (omega arith))
    ∙ ap (λ (k : ℕ). take k (drop (a + i) p)) (sym two)

-- numbers moved from one place to another, and then those from there to a third
pub parts_closed : (old mid new : List Bin) (from a b list : ℕ) → from ≤ a → a ≤ b → ClosesGap from a list old mid
    → ClosesGap a b list mid new → ClosesGap from b list old new
parts_closed old mid new from a b list le more g h = record {
  here = λ p e. let q = g.here p e in let r = h.here q.0 q.1 in (r.0, r.1, joined p q.0 r.0 q.2 r.2);
  others = λ o n. h.others o n ∙ g.others o n;
  long = h.long ∙ g.long;
}
  where
    joined : (p q r : List ℕ) → IsClosed from a p q → IsClosed a b q r → IsClosed from b p r
    joined p q r c d = record {
      long = d.long ∙ c.long;
      before = λ i k. d.before i (omega arith) ∙ c.before i k;
      moved = λ i k m. go i k m (nat_lt i a) refl;
      behind = λ i k. d.behind i k ∙ c.behind i (omega arith);
    }
      where
        go : (i : ℕ) → from ≤ i → i < b → (t : Bool) → nat_lt i a ≡ t → u32_in r (4 * i) ≡ u32_in p (4 * i + 4)
        go i k m true e = let lt = ltb-true i a e in d.before i lt ∙ c.moved i k lt
        go i k m false e =
            let ge : a ≤ i = ltb-false i a e in
            let next : 4 * (i + 1) ≡ 4 * i + 4 = omega arith in
            d.moved i ge m ∙ ap (u32_in q) (sym next) ∙ c.behind (i + 1) (omega arith) ∙ ap (u32_in p) next

-- numbers written over those that begin one before them
pub moved_down : (old new : List Bin) (place n list : ℕ) (part : List ℕ)
    → IsSomeAnd (held_at old list) (λ p. 4 * (place + 1) + 4 * n ≤ length p) → length part ≡ 4 * n
    → ((p : List ℕ) → held_at old list ≡ Some p → part ≡ slice_range p (4 * (place + 1)) (4 * (place + 1) + 4 * n))
    → held_at new list ≡ option_map (patched (4 * place) part) (held_at old list)
    → ((o : ℕ) → (o ≡ list → ⊥) → held_at new o ≡ held_at old o)
    → bins_size new ≡ bins_size old → ClosesGap place (place + n) list old new
moved_down old new place n list part room size are here others long = record {
  here = λ p e. (
    patched (4 * place) part p,
    here ∙ ap (option_map (patched (4 * place) part)) e,
    closed p (some_and (held_at old list) (λ p. 4 * (place + 1) + 4 * n ≤ length p) p e room) (are p e),
  );
  others = others;
  long = long;
}
  where
    closed : (p : List ℕ) → 4 * (place + 1) + 4 * n ≤ length p
        → part ≡ slice_range p (4 * (place + 1)) (4 * (place + 1) + 4 * n)
        → IsClosed place (place + n) p (patched (4 * place) part p)
    closed p wide is = record {
      long = patch.length_same;
      before = λ i k. ap (from_le_bytes w32) (patch.before (4 * i) 4 (omega arith));
      moved = λ i k m. moved i k m;
      behind = λ i k. ap (from_le_bytes w32) (patch.behind (4 * i) 4 (omega (arith, size)));
    }
      where
        patch : IsPatchOf (4 * place) (4 * place + length part) p (patched (4 * place) part p)
        patch = part_patches (4 * place) part p (omega (arith, size, wide))

        moved : (i : ℕ) → place ≤ i → i < place + n
            → u32_in (patched (4 * place) part p) (4 * i) ≡ u32_in p (4 * i + 4)
        moved i k m =
            let at : 4 * i ≡ 4 * place + 4 * (i - place) = omega arith in
            let from : 4 * (place + 1) + 4 * (i - place) ≡ 4 * i + 4 = omega arith in
            ap (u32_in (patched (4 * place) part p)) at
            ∙ ap (from_le_bytes w32) (in_part (4 * place) part p (4 * (i - place)) 4 (omega (arith, wide)) (omega (arith, size))
            ∙ ap (λ (l : List ℕ). slice_range l (4 * (i - place)) (4 * (i - place) + 4)) is
            ∙ range_within p (4 * (place + 1)) (4 * n) (4 * (i - place)) 4 (omega arith))
            ∙ ap (u32_in p) from

-- the same by a buffer of this length
pub moved_by : (old new : List Bin) (place n list m : ℕ) (part : List ℕ)
    → IsSomeAnd (held_at old list) (λ p. 4 * (place + 1) + 4 * n ≤ length p) → m ≡ 4 * n → length part ≡ m
    → ((p : List ℕ) → held_at old list ≡ Some p → part ≡ slice_range p (4 * (place + 1)) (4 * (place + 1) + m))
    → held_at new list ≡ option_map (patched (4 * place) part) (held_at old list)
    → ((o : ℕ) → (o ≡ list → ⊥) → held_at new o ≡ held_at old o)
    → bins_size new ≡ bins_size old → ClosesGap place (place + n) list old new
moved_by old new place n list m part room size long are here others same =
    moved_down old new place n list part room (long ∙ size)
    (λ p e. are p e ∙ ap (λ (k : ℕ). slice_range p (4 * (place + 1)) (4 * (place + 1) + k)) size) here others same
