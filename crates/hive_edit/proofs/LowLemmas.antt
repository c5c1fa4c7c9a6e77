-- A hive's tree is far below what a bulk has room for: each key and each value of it has a cell of its own.
use Rattle.std.proofs.Common.{Ok, ◌≡◌, ◌≤◌, ◌<◌, ℕ, zero, suc, ◌+◌, ◌-◌, ◌*◌, ◌/◌, ◌%◌, Bool, true, false, cond, eqb, List, [], ◌∷◌, ◌++◌, length, length-append, Option, Some, None, inl, inr, refl, sym, ap, subst, ◌∙◌, arith}
use Rattle.std.specs.Prelude.{min, nat_lt, flat_map}
use Rattle.std.proofs.lemmas.Bool.{eqb-true, eqb-false}
use Rattle.std.proofs.lemmas.Bool.Decides.{Decides-eqb}
use Rattle.std.proofs.lemmas.Map.Steps.{length-le_from_distinct_below}
use Rattle.std.proofs.lemmas.Map.Made.{IsDistinct-from_AllPairs}
use Rattle.std.proofs.lemmas.Map.Views.{Contains-from_any}
use Rattle.nt_bytes.specs.declared.version.HiveVersion.{HiveVersion}
use Rattle.nt_bytes.specs.Reading.{◌>>=◌}
use Rattle.hive_model.specs.Bins.{Bin, Cell, Cells, bin_size, bins_size, cell_size, cells_size, in_cells, in_bins, or_else, cell_at, look_up}
use Rattle.hive_model.specs.Size.{cell, name_bytes, is_narrow, cells_sum, is_big, segment_count, segment_sizes, data_sizes, item_size, items_sum, items_size, class_size, security_size, has_own, part_count, list_size, count, size, size_of_all, bulk_of}
use Rattle.hive_model.specs.Tree.{Tree, Trees, Item, key, none, more}
use Rattle.hive_model.specs.Valid.{IsItem, HoldsKeys, AllHoldKeys, levels, most_levels}
use Rattle.hive_model.specs.Walk.{value_checks}
use Rattle.hive_model.specs.Footprint.{used_in, child_places, security_cell_at, list_cells_at}
use Rattle.hive_model.specs.Stands.{item_at, items_at, IsWellFormed}
use Rattle.hive_cells.specs.Held.{held_at, allocated_payload}
use Rattle.hive_cells.proofs.HeldLemmas.{payload_held}
use Rattle.reg_tree.proofs.Unlike.{Each, each_from}
use Rattle.edited_cells.specs.Owned.{In, class_cell_at, value_list_at, value_places}
use Rattle.edited_cells.specs.Pairs.{Pairwise}
use Rattle.edited_cells.specs.Revalues.{cells_of_values}
use Rattle.edited_cells.specs.Uses.{Agree, plain, secure, own_uses, tree_uses}
use Rattle.edited_cells.proofs.Around.{hive_once, used_held}
use Rattle.edited_cells.proofs.Ins.{in_from}
use Rattle.edited_cells.proofs.Pairs.{pairwise_to}
use Rattle.hive_edit.specs.Hive.{IsHive}
use Rattle.hive_edit.specs.Standing.{tree_of}
use Rattle.hive_edit.proofs.InPlaceLemmas.{value_first}
use Rattle.hive_look.proofs.PlaceLemmas.{places_same}
use Rattle.hive_look.proofs.OnceLemmas.{AllWellFormed, children_well_formed}
use Rattle.hive_look.proofs.PlaceLemmas.{items_stand}
use Rattle.hive_look.proofs.ResultLemmas.{done, ok_same}
use Rattle.edited_cells.proofs.Wellformed.{places_are}
use Rattle.hive_read.proofs.FormFacts.{then-so}

-- ---- values

-- the same number as their offsets
pub items_length : (cells : Cells) (offsets : List ℕ) (vs : List Item) → items_at cells offsets ≡ done vs
    → length offsets ≡ length vs
items_length cells [] vs e = ap length (ok_same [] vs e)
items_length cells (at ∷ offsets) vs e =
    let one = then-so (item_at cells at) (λ v. items_at cells offsets >>= λ ws. Ok (v ∷ ws)) vs e in
    let others = then-so (items_at cells offsets) (λ ws. Ok (one.0 ∷ ws)) vs one.2 in
    let d = items_length cells offsets others.0 others.1 in
    let l : length (one.0 ∷ others.0) ≡ length vs = ap length (ok_same (one.0 ∷ others.0) vs others.2) in
    omega (arith, d, l)

-- ---- keys and values

-- how many keys and values these are
abbrev mutual
  units : Tree → ℕ
  units (key h ts) = 1 + length h.values + units_of ts

  units_of : Trees → ℕ
  units_of none = 0
  units_of (more t ts) = units t + units_of ts

-- ---- what they take

segments_low : (k n : ℕ) → cells_sum (segment_sizes k n) ≤ n + 11 * k
segments_low zero n = omega arith
segments_low (suc k) n = let d = segments_low k (n - 16344) in omega (arith, d)

data_low : (version : HiveVersion) (n : ℕ) → n < 2147483648 → cells_sum (data_sizes version n) ≤ 8000000000
data_low version n small = go (is_big version n) (nat_lt 4 n)
  where
    s : cells_sum (segment_sizes (segment_count n) n) ≤ n + 11 * segment_count n
    s = segments_low (segment_count n) n

    go : (a b : Bool) → cells_sum
        (cond a (8 ∷ 4 * segment_count n ∷ segment_sizes (segment_count n) n) (cond b (n ∷ []) [])) ≤ 8000000000
    go true b = omega (arith, s, small)
    go false true = omega (arith, small)
    go false false = omega arith

pub name_low : (name : List ℕ) → name_bytes name ≤ 2 * length name
name_low name = go (is_narrow name)
  where
    go : (a : Bool) → cond a (length name) (2 * length name) ≤ 2 * length name
    go true = omega arith
    go false = omega arith

item_low : (version : HiveVersion) (v : Item) → IsItem v → item_size version v ≤ 8100000000
item_low version v is =
    let a = name_low v.name in
    let n = is.name in
    let b = data_low version (length v.bytes) is.bytes in
    sum (name_bytes v.name) (length v.name) (cells_sum (data_sizes version (length v.bytes))) a n b
  where
    sum : (x n d : ℕ) → x ≤ 2 * n → n ≤ 16383 → d ≤ 8000000000 → cell (20 + x) + d ≤ 8100000000
    sum x n d a b c = omega (arith, a, b, c)

items_sum_low : (version : HiveVersion) (vs : List Item) → Each IsItem vs
    → items_sum version vs ≤ 8100000000 * length vs
items_sum_low version [] each = omega arith
items_sum_low version (v ∷ vs) each =
    sum (item_size version v) (items_sum version vs) (length vs) (item_low version v each.0)
    (items_sum_low version vs each.1)
  where
    sum : (x y n : ℕ) → x ≤ 8100000000 → y ≤ 8100000000 * n → x + y ≤ 8100000000 * suc n
    sum x y n a b = omega (arith, a, b)

items_low : (version : HiveVersion) (vs : List Item) → Each IsItem vs → items_size version vs ≤ 8200000000 * length vs
items_low version [] each = omega arith
items_low version (v ∷ vs) each =
    sum (items_sum version (v ∷ vs)) (length vs) (items_sum_low version (v ∷ vs) each)
  where
    sum : (y n : ℕ) → y ≤ 8100000000 * suc n → cell (4 * suc n) + y ≤ 8200000000 * suc n
    sum y n a = omega (arith, a)

class_low : (c : List ℕ) → length c < 65536 → class_size c ≤ 70000
class_low [] l = omega arith
class_low (b ∷ c) l = omega (arith, l)

security_low : (shared s : List ℕ) → length s < 4294967296 → security_size shared s ≤ 4300000000
security_low shared s l = go (has_own shared s)
  where
    go : (a : Bool) → cond a (cell (20 + length s)) 0 ≤ 4300000000
    go true = omega (arith, l)
    go false = omega arith

list_low : (n : ℕ) → list_size n ≤ 64 * n
list_low n = go (eqb n 0) refl (nat_lt n 501) (eqb (n % 500) 0)
  where
    go : (a : Bool) → eqb n 0 ≡ a → (b d : Bool)
        → (cond a 0 (cond b (cell (4 + 8 * n))
        (cell (4 + 4 * part_count n) + n / 500 * cell 4004 + cond d 0 (cell (4 + 8 * (n % 500)))))) ≤ 64 * n
    go true e b d = omega arith
    go false e b d = some b d (eqb-false n 0 e)
      where
        some : (b d : Bool) → (n ≡ 0 → ⊥)
            → cond b (cell (4 + 8 * n))
            (cell (4 + 4 * part_count n) + n / 500 * cell 4004 + cond d 0 (cell (4 + 8 * (n % 500)))) ≤ 64 * n
        some true d f = omega (arith, f)
        some false true f = omega (arith, f)
        some false false f = omega (arith, f)

mutual
  tree_low : (version : HiveVersion) (shared : List ℕ) (t : Tree) → HoldsKeys t
      → size version shared t + 64 ≤ 17179869184 * units t
  tree_low version shared (key h ts) holds =
      let own = holds.0 in
      sum (name_bytes h.name) (length h.name) (class_size h.class) (security_size shared h.security)
      (items_size version h.values) (length h.values)
      (list_size (count ts)) (count ts) (size_of_all version h.security ts) (units_of ts)
      (name_low h.name) own.name (class_low h.class own.class) (security_low shared h.security own.security)
      (items_low version h.values (each_from IsItem h.values own.items)) (list_low (count ts))
      (trees_low version h.security ts holds.1)
    where
      sum : (x n c s i m l k b u : ℕ) → x ≤ 2 * n → n ≤ 255 → c ≤ 70000 → s ≤ 4300000000 → i ≤ 8200000000 * m
          → l ≤ 64 * k → b + 64 * k ≤ 17179869184 * u
          → cell (76 + x) + c + s + i + l + b + 64 ≤ 17179869184 * (1 + m + u)
      sum x n c s i m l k b u e1 e2 e3 e4 e5 e6 e7 = omega (arith, e1, e2, e3, e4, e5, e6, e7)

  trees_low : (version : HiveVersion) (shared : List ℕ) (ts : Trees) → AllHoldKeys ts
      → size_of_all version shared ts + 64 * count ts ≤ 17179869184 * units_of ts
  trees_low version shared none holds = omega arith
  trees_low version shared (more t ts) holds =
      sum (size version shared t) (size_of_all version shared ts) (count ts) (units t) (units_of ts)
      (tree_low version shared t holds.0) (trees_low version shared ts holds.1)
    where
      sum : (x y n u w : ℕ) → x + 64 ≤ 17179869184 * u → y + 64 * n ≤ 17179869184 * w
          → x + y + 64 * suc n ≤ 17179869184 * (u + w)
      sum x y n u w a b = omega (arith, a, b)

-- ---- the cells that they use

-- the cells that are used, but not as security
abbrev plains : List (ℕ × Bool) → List ℕ
plains [] = []
plains (u ∷ us) = cond u.1 (plains us) (u.0 ∷ plains us)

abbrev many : List (ℕ × Bool) → ℕ
many us = length (plains us)

many_append : (us vs : List (ℕ × Bool)) → many (us ++ vs) ≡ many us + many vs
many_append [] vs = omega arith
many_append (u ∷ us) vs = go u.1 (many_append us vs)
  where
    go : (b : Bool) → many (us ++ vs) ≡ many us + many vs
        → length (cond b (plains (us ++ vs)) (u.0 ∷ plains (us ++ vs))) ≡ length (cond b (plains us) (u.0 ∷ plains us))
        + many vs
    go true e = e
    go false e = omega (arith, e)

many_plain : (xs : List ℕ) → many (plain xs) ≡ length xs
many_plain [] = refl
many_plain (x ∷ xs) = ap suc (many_plain xs)

length_some : (xs : List ℕ) (x : ℕ) → In xs x → 1 ≤ length xs
length_some [] x i = absurd i
length_some (y ∷ xs) x i = omega arith

values_many : (cells : Cells) (offsets : List ℕ) → length offsets ≤ length (cells_of_values cells offsets)
values_many cells [] = omega arith
values_many cells (v ∷ offsets) =
    let mine = used_in (value_checks cells [] v) in
    let l = length-append mine (cells_of_values cells offsets) in
    let one = length_some mine v (value_first cells v) in
    let deep = values_many cells offsets in omega (arith, l, one, deep)

own_many : (cells : Cells) (at n : ℕ) → length (value_places cells at) ≡ n → 1 + n ≤ many (own_uses cells at)
own_many cells at n e =
    let p = plain (class_cell_at cells at) in
    let q = secure (security_cell_at cells at) in
    let values = value_list_at cells at ++ cells_of_values cells (value_places cells at) in
    let r = plain values in
    let s = plain (list_cells_at cells at) in
    let a = many_append p (q ++ (r ++ s)) in
    let b = many_append q (r ++ s) in
    let c = many_append r s in
    let d = many_plain values in
    let l = length-append (value_list_at cells at) (cells_of_values cells (value_places cells at)) in
    let v = values_many cells (value_places cells at) in
    sum (many (p ++ (q ++ (r ++ s)))) (many p) (many (q ++ (r ++ s))) (many q) (many (r ++ s)) (many r) (many s)
    (length values) (length (value_list_at cells at))
    (length (cells_of_values cells (value_places cells at))) (length (value_places cells at)) n a b c d l v e
  where
    sum : (w p x q y r s k l c v n : ℕ) → w ≡ p + x → x ≡ q + y → y ≡ r + s → r ≡ k → k ≡ l + c → v ≤ c → v ≡ n
        → 1 + n ≤ suc w
    sum w p x q y r s k l c v n e1 e2 e3 e4 e5 e6 e7 = omega (arith, e1, e2, e3, e4, e5, e6, e7)

mutual
  units_used : (left : ℕ) (cells : Cells) (at : ℕ) (t : Tree) → IsWellFormed cells at t → levels t ≤ left
      → units t ≤ many (tree_uses left cells at)
  units_used zero cells at (key h ts) w l = absurd (omega arith)
  units_used (suc left) cells at (key h ts) w l =
      let places = places_are cells at h w.stands.0 w.stands.1 in
      let own = own_many cells at (length h.values)
      (items_length cells (value_places cells at) h.values
      (subst (λ (os : List ℕ). items_at cells os ≡ done h.values) (sym (places_same cells at))
      (items_stand cells at (key h ts) w))) in
      let below = subst (λ (os : List ℕ). units_of ts ≤ many (flat_map (tree_uses left cells) os)) (sym places)
      (all_used left cells w.stands.0 ts (children_well_formed cells at h ts w) (omega arith)) in
      let both = many_append (own_uses cells at) (flat_map (tree_uses left cells) (child_places cells at)) in
      sum (length h.values) (units_of ts) (many (own_uses cells at))
      (many (flat_map (tree_uses left cells) (child_places cells at)))
      (many (tree_uses (suc left) cells at)) own below both
    where
      sum : (n u o b w : ℕ) → 1 + n ≤ o → u ≤ b → w ≡ o + b → 1 + n + u ≤ w
      sum n u o b w e1 e2 e3 = omega (arith, e1, e2, e3)

  all_used : (left : ℕ) (cells : Cells) (offsets : List ℕ) (ts : Trees) → AllWellFormed cells offsets ts
      → most_levels ts ≤ left
      → units_of ts ≤ many (flat_map (tree_uses left cells) offsets)
  all_used left cells offsets none s l = omega arith
  all_used left cells offsets (more t ts) s l =
      subst (λ (os : List ℕ). units t + units_of ts ≤ many (flat_map (tree_uses left cells) os)) (sym s.2)
      (sum (units t) (units_of ts) (many (tree_uses left cells s.0)) (many (flat_map (tree_uses left cells) s.1))
      (many (flat_map (tree_uses left cells) (s.0 ∷ s.1))) (units_used left cells s.0 t s.3 (omega arith))
      (all_used left cells s.1 ts s.4 (omega arith))
      (many_append (tree_uses left cells s.0) (flat_map (tree_uses left cells) s.1)))
    where
      sum : (u v a b w : ℕ) → u ≤ a → v ≤ b → w ≡ a + b → u + v ≤ w
      sum u v a b w e1 e2 e3 = omega (arith, e1, e2, e3)

-- ---- no two are one, and each is within the bins

plains_in : (us : List (ℕ × Bool)) (y : ℕ) → In (plains us) y → In us (y, false)
plains_in [] y i = absurd i
plains_in (u ∷ us) y i = go u.1 refl i (λ j. plains_in us y j)
  where
    go : (b : Bool) → u.1 ≡ b → In (cond b (plains us) (u.0 ∷ plains us)) y → (In (plains us) y → In us (y, false))
        → In (u ∷ us) (y, false)
    go true e i deep = inr (deep i)
    go false e (inl f) deep = inl (λ k. (f k, e k))
    go false e (inr j) deep = inr (deep j)

plains_apart : (us : List (ℕ × Bool)) → Pairwise Agree us → Pairwise (λ p q. p ≡ q → ⊥) (plains us)
plains_apart [] h = tt
plains_apart (u ∷ us) h = go u.1 refl (plains_apart us h.1)
  where
    go : (b : Bool) → u.1 ≡ b → Pairwise (λ p q. p ≡ q → ⊥) (plains us)
        → Pairwise (λ p q. p ≡ q → ⊥) (cond b (plains us) (u.0 ∷ plains us))
    go true e rest = rest
    go false e rest = (
      (λ y i f. absurd
          (let both = h.0 (y, false) (plains_in us y i) f in let no = sym e ∙ both.0 in cc)),
      rest,
    )

cells_below : (cs : List Cell) (o at : ℕ) (c : Cell) → in_cells o at cs ≡ Some c → o < at + cells_size cs
cells_below [] o at c e = absurd cc
cells_below (d ∷ cs) o at c e = go (eqb at o) refl e (λ f. cells_below cs o (at + cell_size d) c f)
  where
    go : (b : Bool) → eqb at o ≡ b → cond b (Some d) (in_cells o (at + cell_size d) cs) ≡ Some c
        → (in_cells o (at + cell_size d) cs ≡ Some c → o < at + cell_size d + cells_size cs)
        → o < at + (cell_size d + cells_size cs)
    go true t f deep = let same = eqb-true at o t in omega (arith, same)
    go false t f deep = let l = deep f in omega (arith, l)

bins_below : (bs : List Bin) (o at : ℕ) (c : Cell) → in_bins o at bs ≡ Some c → o < at + bins_size bs
bins_below [] o at c e = absurd cc
bins_below (b ∷ bs) o at c e = go (in_cells o (at + 32) b.cells) refl e (λ f. bins_below bs o (at + bin_size b) c f)
  where
    go : (r : Option Cell) → in_cells o (at + 32) b.cells ≡ r → or_else r (in_bins o (at + bin_size b) bs) ≡ Some c
        → (in_bins o (at + bin_size b) bs ≡ Some c → o < at + bin_size b + bins_size bs)
        → o < at + (bin_size b + bins_size bs)
    go None f g deep = let l = deep g in omega (arith, l)
    go (Some d) f g deep = let l = cells_below b.cells o (at + 32) d f in omega (arith, l)

held_below : (bins : List Bin) (o : ℕ) (p : List ℕ) → held_at bins o ≡ Some p → o < bins_size bins
held_below bins o p e = go (cell_at bins o) refl e
  where
    go : (r : Option Cell) → cell_at bins o ≡ r → allocated_payload r ≡ Some p → o < bins_size bins
    go None f g = absurd cc
    go (Some c) f g = let l = bins_below bins o 0 c f in omega (arith, l)

-- numbers below a bound, no two one, are at most that
few_below : (xs : List ℕ) (n : ℕ) → Pairwise (λ p q. p ≡ q → ⊥) xs → ((x : ℕ) → In xs x → x < n) → length xs ≤ n
few_below xs n apart below =
    length-le_from_distinct_below xs n
    (IsDistinct-from_AllPairs Decides-eqb xs (pairwise_to (λ p q. p ≡ q → ⊥) xs apart))
    (λ q e. below q (in_from xs q (Contains-from_any eqb-true q xs e)))

-- ---- the bulk

-- what is known of a bulk: it is the size of the tree with the bin's header, and low
pub record BulkIs (version : HiveVersion) (t : Tree) (bulk : ℕ) : Type 0 where
  pub exact : bulk ≡ 32 + size version [] t
  pub low : bulk ≤ 576460752303423488

-- where the bins have at most 16 MiB
pub bulk_there : (bins : List Bin) (at : ℕ) (version : HiveVersion) (bulk : ℕ) (t : Tree)
    → IsWellFormed (look_up version bins) at t
    → HoldsKeys t → bulk ≡ bulk_of version t → bins_size bins ≤ 16777216 → BulkIs version t bulk
bulk_there bins at version bulk t well holds counted fit =
    let b = look_up version bins in
    let us = tree_uses 512 b at in
    let once = hive_once b at t well.stands well.names well.once in
    let few = few_below (plains us) (bins_size bins) (plains_apart us once)
    (λ x i. let q = used_held b at t well (x, false) (plains_in us x i) in
    held_below bins x q.0 (payload_held bins x q.0 q.1)) in
    let used = units_used 512 b at t well well.levels in
    let low = sum (size version [] t) (units t) (many us) (bins_size bins) (tree_low version [] t holds) used few fit in
    record { exact = one bulk (size version [] t) counted low; low = two bulk (size version [] t) counted low }
  where
    sum : (s u m n : ℕ) → s + 64 ≤ 17179869184 * u → u ≤ m → m ≤ n → n ≤ 16777216 → s ≤ 288230376151711744
    sum s u m n a b c d = omega (arith, a, b, c, d)

    one : (n s : ℕ) → n ≡ min (32 + s) 18446744073709551615 → s ≤ 288230376151711744 → n ≡ 32 + s
    one n s e l = omega (arith, e, l)

    two : (n s : ℕ) → n ≡ min (32 + s) 18446744073709551615 → s ≤ 288230376151711744 → n ≤ 576460752303423488
    two n s e l = omega (arith, e, l)

pub bulk_is : (bins : List Bin) (root : ℕ) (version : HiveVersion) (bulk : ℕ) → IsHive bins root version bulk
    → bins_size bins ≤ 16777216
    → BulkIs version (tree_of (look_up version bins) root) bulk
bulk_is bins root version bulk is fit =
    bulk_there bins root version bulk (tree_of (look_up version bins) root) is.stands is.valid.keys is.counted fit

pub bulk_low : (bins : List Bin) (root : ℕ) (version : HiveVersion) (bulk : ℕ) → IsHive bins root version bulk
    → bins_size bins ≤ 16777216 → bulk ≤ 576460752303423488
bulk_low bins root version bulk is fit = (bulk_is bins root version bulk is fit).low

-- the bulk of a tree that is a little greater or smaller
pub bulk_then : (version : HiveVersion) (t u : Tree) (bulk grown less : ℕ) → BulkIs version t bulk
    → size version [] u + less ≡ size version [] t + grown
    → grown ≤ 68719476736 → (less ≤ bulk + grown) × (bulk + grown - less ≡ bulk_of version u)
bulk_then version t u bulk grown less b e few =
    sum bulk (size version [] t) (size version [] u) grown less b.exact b.low e few
  where
    sum : (n s v m l : ℕ) → n ≡ 32 + s → n ≤ 576460752303423488 → v + l ≡ s + m → m ≤ 68719476736
        → (l ≤ n + m) × (n + m - l ≡ min (32 + v) 18446744073709551615)
    sum n s v m l a c e f = (omega (arith, a, e), omega (arith, a, c, e, f))
