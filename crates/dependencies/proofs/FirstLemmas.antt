-- The tree of a set of places: its root has the first of them.
use Rattle.std.proofs.Common.{◌≡◌, ◌≢◌, ℕ, zero, suc, ◌+◌, ◌-◌, ◌*◌, ◌/◌, ◌^◌, ◌<◌, ◌≤◌, Bool, true, false, cond, List, [], ◌∷◌, length, get_or, set, Some, None, inl, inr, refl, sym, ap, ◌∙◌, arith}
use Rattle.std.specs.Prelude.{position, min}
use Rattle.std.specs.List.{position_from}
use Rattle.std.proofs.lemmas.Bool.{cases_lt, cases_eq}
use Rattle.std.proofs.lemmas.List.{get_or-set_same, get_or-set_other}
use Rattle.std.proofs.lemmas.Iterator.Adapters.{position_from-zero}
use Rattle.start_model.specs.Demand.{member}
use Rattle.dependencies.specs.Firsts.{AreNodesBut, IsTreeOf, leaf_of}

-- ---- the first element that passes

-- the first place that passes, counted from i, is found
some_at : {X : Type 0} (p : X → Bool) (i at : ℕ) (xs : List X) (d : X) → at < length xs
    → ((k : ℕ) → k < at → p (get_or xs k d) ≡ false) → p (get_or xs at d) ≡ true
    → position_from p i xs ≡ Some (i + at)
some_at p i at [] d lt before here = absurd (omega (arith, lt))
some_at p i zero (x ∷ xs) d lt before here =
    ap (λ b. cond b (Some i) (position_from p (i + 1) xs)) here ∙ ap Some (let e : i ≡ i + 0 = omega arith in e)
some_at p i (suc at) (x ∷ xs) d lt before here =
    ap (λ b. cond b (Some i) (position_from p (i + 1) xs)) (before 0 (omega arith))
    ∙ some_at p (i + 1) at xs d (omega (arith, lt)) (λ k l. before (suc k) (omega (arith, l))) here
    ∙ ap Some (let e : i + 1 + at ≡ i + suc at = omega arith in e)

none_at : {X : Type 0} (p : X → Bool) (i : ℕ) (xs : List X) (d : X)
    → ((k : ℕ) → k < length xs → p (get_or xs k d) ≡ false) → position_from p i xs ≡ None
none_at p i [] d h = refl
none_at p i (x ∷ xs) d h =
    ap (λ b. cond b (Some i) (position_from p (i + 1) xs)) (h 0 (omega arith))
    ∙ none_at p (i + 1) xs d (λ k l. h (suc k) (omega (arith, l)))

pub first_is : {X : Type 0} (p : X → Bool) (at : ℕ) (xs : List X) (d : X) → at < length xs
    → ((k : ℕ) → k < at → p (get_or xs k d) ≡ false) → p (get_or xs at d) ≡ true → position p xs ≡ Some at
first_is p at xs d lt before here =
    position_from-zero p xs ∙ some_at p 0 at xs d lt before here ∙ ap Some (let e : 0 + at ≡ at = omega arith in e)

pub first_is_none : {X : Type 0} (p : X → Bool) (xs : List X) (d : X)
    → ((k : ℕ) → k < length xs → p (get_or xs k d) ≡ false) → position p xs ≡ None
first_is_none p xs d h = position_from-zero p xs ∙ none_at p 0 xs d h

-- ---- the root

-- the root has at most any node
below_all : (firsts : List ℕ) (count fuel k : ℕ) → AreNodesBut 0 firsts count → k ≤ fuel → 0 < k → k < 2 * count
    → get_or firsts 1 0 ≤ get_or firsts k 0
below_all firsts count zero k nodes le pos lt = absurd (omega (arith, le, pos))
below_all firsts count (suc fuel) k nodes le pos lt = elim (cases_eq k 1) [
  | inl e ↦ (let same : get_or firsts k 0 ≡ get_or firsts 1 0 = ap (λ j. get_or firsts j 0) e in omega (arith, same))
  | inr ne ↦
      let up = k / 2 in
      let two : 2 ≤ k = omega (arith, ne, pos) in
      let above : get_or firsts 1 0 ≤ get_or firsts up 0 =
      below_all firsts count fuel up nodes (omega (arith, le, two)) (omega (arith, two)) (omega (arith, lt)) in
      let node : get_or firsts up 0 ≡ min (get_or firsts (2 * up) 0) (get_or firsts (2 * up + 1) 0) =
      nodes up (omega (arith, two)) (omega (arith, lt)) (omega (arith, two)) in
      elim (cases_eq k (2 * up)) [
        | inl even ↦ (let same : get_or firsts k 0 ≡ get_or firsts (2 * up) 0 = ap (λ j. get_or firsts j 0) even in
            omega (arith, above, node, same))
        | inr odd ↦
            let one : k ≡ 2 * up + 1 = omega (arith, odd) in
            let same : get_or firsts k 0 ≡ get_or firsts (2 * up + 1) 0 = ap (λ j. get_or firsts j 0) one in
            omega (arith, above, node, same)
      ]
]

-- what a node has is at a leaf
pub record HasLeaf (firsts : List ℕ) (count k : ℕ) : Type 0 where
  pub at : ℕ
  pub low : count ≤ at
  pub high : at < 2 * count
  pub same : get_or firsts k 0 ≡ get_or firsts at 0

-- what a node has comes from a leaf below it, found going down
from_leaf : (firsts : List ℕ) (count fuel k : ℕ) → AreNodesBut 0 firsts count → 2 * count ≤ k + fuel → 0 < k
    → k < 2 * count → HasLeaf firsts count k
from_leaf firsts count zero k nodes enough pos lt = absurd (omega (arith, enough, lt))
from_leaf firsts count (suc fuel) k nodes enough pos lt = elim (cases_lt k count) [
  | inr leaf ↦ record { at = k; low = leaf; high = lt; same = refl }
  | inl inner ↦
      let node : get_or firsts k 0 ≡ min (get_or firsts (2 * k) 0) (get_or firsts (2 * k + 1) 0) =
      nodes k pos inner (omega (arith, pos)) in
      elim (cases_lt (get_or firsts (2 * k) 0) (get_or firsts (2 * k + 1) 0)) [
        | inl left ↦
            let down = from_leaf firsts count fuel (2 * k) nodes (omega (arith, enough, pos)) (omega (arith, pos))
            (omega (arith, inner)) in
            record { at = down.at; low = down.low; high = down.high; same = omega (arith, node, left, down.same) }
        | inr right ↦
            let down = from_leaf firsts count fuel (2 * k + 1) nodes (omega (arith, enough, pos)) (omega (arith, pos))
            (omega (arith, inner)) in
            record { at = down.at; low = down.low; high = down.high; same = omega (arith, node, right, down.same) }
      ]
]

in_leaf : (b : Bool) (p r count : ℕ) → leaf_of b p ≡ r → r < count → count < 2 ^ 64 → (b ≡ true) × (p ≡ r)
in_leaf true p r count e lt small = (refl, e)
in_leaf false p r count e lt small = absurd (omega (arith, e, lt, small))

out_of_leaf : (b : Bool) (p r : ℕ) → r ≤ leaf_of b p → p < r → b ≡ false
out_of_leaf true p r le lt = absurd (omega (arith, le, lt))
out_of_leaf false p r le lt = refl

-- so the root has at most any place that is in the set
root_below : (s : List Bool) (firsts : List ℕ) → IsTreeOf s firsts → (p : ℕ) → p < length s
    → get_or firsts 1 0 ≤ leaf_of (member s p) p
root_below s firsts tree p lt =
    let count = length s in
    let le = below_all firsts count (count + p) (count + p) tree.nodes (omega arith) (omega (arith, lt))
    (omega (arith, lt)) in
    omega (arith, le, tree.leaves p lt)

-- a root below the number of places is the first place that is in the set
pub root_some : (s : List Bool) (firsts : List ℕ) (root : ℕ) → IsTreeOf s firsts → root ≡ get_or firsts 1 0
    → root < length s → length s < 2 ^ 64 → Some root ≡ position (λ b. b) s
root_some s firsts root tree is lt small =
    let count = length s in
    let leaf = from_leaf firsts count (2 * count) 1 tree.nodes (omega arith) (omega arith) (omega (arith, lt)) in
    let p = leaf.at - count in
    let within : p < count = omega (arith, leaf.high, leaf.low) in
    let at : count + p ≡ leaf.at = omega (arith, leaf.low) in
    let has : leaf_of (member s p) p ≡ root =
    sym (tree.leaves p within) ∙ ap (λ j. get_or firsts j 0) at ∙ sym leaf.same ∙ sym is in
    let here = in_leaf (member s p) p root count has lt small in
    let there : member s root ≡ true = ap (member s) (sym here.1) ∙ here.0 in
    sym (first_is (λ b. b) root s false lt
    (λ k l. out_of_leaf (member s k) k root (omega (arith, is, root_below s firsts tree k (omega (arith, l, lt))))
    l) there)

-- a root at or past the number of places says that none is in the set
pub root_none : (s : List Bool) (firsts : List ℕ) (root : ℕ) → IsTreeOf s firsts → root ≡ get_or firsts 1 0
    → length s ≤ root → None ≡ position (λ b. b) s
root_none s firsts root tree is le =
    sym (first_is_none (λ b. b) s false
    (λ k l. out_of_leaf (member s k) k root (omega (arith, is, root_below s firsts tree k l))
    (omega (arith, l, le))))

-- ---- a new tree, and one after a change

-- a node that is put right leaves all right but the one above it
pub node_settles : (firsts : List ℕ) (count at v : ℕ) → length firsts ≡ 2 * count → 0 < at → at < count
    → AreNodesBut at firsts count
    → v ≡ min (get_or firsts (2 * at) 0) (get_or firsts (2 * at + 1) 0) → AreNodesBut (at / 2) (set firsts at v) count
node_settles firsts count at v len pos lt nodes is k kpos below ne =
    let kept : (j : ℕ) → j ≢ at → get_or (set firsts at v) j 0 ≡ get_or firsts j 0 =
    λ j other. get_or-set_other firsts at j v 0 other in
    let a = kept (2 * k) (omega (arith, ne)) in
    let b = kept (2 * k + 1) (omega (arith, ne)) in
    elim (cases_eq k at) [
      | inl e ↦
          let same : get_or (set firsts at v) k 0 ≡ v =
          ap (λ j. get_or (set firsts at v) j 0) e ∙ get_or-set_same firsts at v 0 (omega (arith, len, lt)) in
          let left : get_or firsts (2 * k) 0 ≡ get_or firsts (2 * at) 0 = ap (λ j. get_or firsts (2 * j) 0) e in
          let right : get_or firsts (2 * k + 1) 0 ≡ get_or firsts (2 * at + 1) 0 =
          ap (λ j. get_or firsts (2 * j + 1) 0) e in
          omega (arith, same, left, right, a, b, is)
      | inr other ↦ omega (arith, kept k other, a, b, nodes k kpos below other)
    ]
