-- What changed of a key's children, from the cells that were patched, written or freed.
use Rattle.std.proofs.Common.{◌≡◌, ℕ, suc, ◌<◌, ◌^◌, Bool, true, false, cond, List, [], ◌∷◌, ◌++◌, length, refl, sym, ◌∙◌, ap, subst, inl, inr, ⊎_elim, Result, Ok, arith}
use Rattle.std.specs.Prelude.{◌⊎◌, MatchBool, ◌==◌, if◌then◌else◌, flat_map}
use Rattle.std.specs.Int.{w16, w32, w64, from_le_bytes}
use Rattle.std.proofs.lemmas.List.{append-nil}
use Rattle.nt_bytes.specs.Fields.{u32_in}
use Rattle.nt_bytes.specs.declared.fault.HiveFaultKind.{HiveFaultKind}
use Rattle.nt_bytes.specs.Reading.{◌>>=◌}
use Rattle.hive_model.specs.Bins.{Cells}
use Rattle.hive_model.specs.KeyNode.{KeyNode, key_node_in, key_node_at}
use Rattle.hive_model.specs.Walk.{reading, entries_at, entries_checks}
use Rattle.hive_model.specs.Footprint.{used_in, child_places, list_cells_at}
use Rattle.hive_model.specs.Stands.{ListsChildren}
use Rattle.edited_cells.specs.Owned.{In}
use Rattle.edited_cells.specs.Framed.{IsUnheld}
use Rattle.edited_cells.specs.Parents.{IsChildOf}
use Rattle.edited_cells.specs.Uses.{Once, plain, tree_uses}
use Rattle.edited_cells.specs.Written.{with_part, three_numbers}
use Rattle.edited_cells.specs.Relists.{SaysTheRest, ChangesChildren}
use Rattle.edited_cells.specs.Lists.{HasNewChildren, InsertsChild, RemovesChild}
use Rattle.edited_cells.proofs.Ins.{in_left, in_cases}
use Rattle.edited_cells.proofs.Out.{of_node_is}
use Rattle.edited_cells.proofs.Patches.{IsPatchOf, part_patches, in_part, node_text, node_patched}
use Rattle.edited_cells.proofs.FromCells.{counted_some}
use Rattle.std.proofs.lemmas.Nat.{from_le_bytes-to_le_bytes_4}

-- ---- the node

-- where the part is that of the counts and the list of children, and counts as many volatile ones, the node says the
-- same of all else
part_says_rest : (p q : List ℕ) (n : KeyNode) → key_node_at p ≡ Ok n → IsPatchOf 20 32 p q
    → u32_in q 24 ≡ n.volatile_count → SaysTheRest n (key_node_in q n.name)
part_says_rest p q n e patch volatile = record {
  name = refl;
  flags = ap (from_le_bytes w16) (patch.before 2 2 (omega arith)) ∙ sym (ap (λ (m : KeyNode). m.flags) fields);
  stamp = ap (from_le_bytes w64) (patch.before 4 8 (omega arith)) ∙ sym (ap (λ (m : KeyNode). m.stamp) fields);
  parent = ap (from_le_bytes w32) (patch.before 16 4 (omega arith)) ∙ sym (ap (λ (m : KeyNode). m.parent) fields);
  volatile_count = volatile;
  volatile_list = ap (from_le_bytes w32) (patch.behind 32 4 (omega arith))
      ∙ sym (ap (λ (m : KeyNode). m.volatile_list) fields);
  value_count = ap (from_le_bytes w32) (patch.behind 36 4 (omega arith))
      ∙ sym (ap (λ (m : KeyNode). m.value_count) fields);
  value_list = ap (from_le_bytes w32) (patch.behind 40 4 (omega arith))
      ∙ sym (ap (λ (m : KeyNode). m.value_list) fields);
  security = ap (from_le_bytes w32) (patch.behind 44 4 (omega arith)) ∙ sym (ap (λ (m : KeyNode). m.security) fields);
  class = ap (from_le_bytes w32) (patch.behind 48 4 (omega arith)) ∙ sym (ap (λ (m : KeyNode). m.class) fields);
  class_length = ap (from_le_bytes w16) (patch.behind 74 2 (omega arith))
      ∙ sym (ap (λ (m : KeyNode). m.class_length) fields);
}
  where
    fields : n ≡ key_node_in p n.name
    fields = (node_text p n e).fields

-- a node's count of children and their list are written over, and its count of volatile ones is written again
pub children_written : (p : List ℕ) (n : KeyNode) (count list : ℕ) → key_node_at p ≡ Ok n → count < 2 ^ 32
    → list < 2 ^ 32 → n.volatile_count < 2 ^ 32
    → HasNewChildren (with_part 20 (three_numbers count n.volatile_count list) p) n count list
children_written p n count list e c l v =
    let t = (node_text p n e).long in
    let patch : IsPatchOf 20 32 p (with_part 20 (three_numbers count n.volatile_count list) p) =
    part_patches 20 (three_numbers count n.volatile_count list) p (omega (arith, t)) in
    record {
      new = key_node_in (with_part 20 (three_numbers count n.volatile_count list) p) n.name;
      read = node_patched 20 32 p (with_part 20 (three_numbers count n.volatile_count list) p) n e patch (omega arith)
          (omega arith);
      same = part_says_rest p (with_part 20 (three_numbers count n.volatile_count list) p) n e patch
          (ap (from_le_bytes w32)
          (in_part 20 (three_numbers count n.volatile_count list) p 4 4 (omega (arith, t)) (omega arith))
          ∙ from_le_bytes-to_le_bytes_4 n.volatile_count v);
      count_is = ap (from_le_bytes w32)
          (in_part 20 (three_numbers count n.volatile_count list) p 0 4 (omega (arith, t)) (omega arith))
          ∙ from_le_bytes-to_le_bytes_4 count c;
      list_is = ap (from_le_bytes w32)
          (in_part 20 (three_numbers count n.volatile_count list) p 8 4 (omega (arith, t)) (omega arith))
          ∙ from_le_bytes-to_le_bytes_4 list l;
    }

-- ---- the lists

lists_at_is : (cells : Cells) (at : ℕ) (n : KeyNode) → reading key_node_at cells at ≡ Ok n
    → (n.child_count == 0) ≡ false → list_cells_at cells at ≡ used_in (entries_checks cells n.child_list)
unfolding list_cells_at
lists_at_is cells at n read some =
    of_node_is cells at n (λ m. if m.child_count == 0 then [] else used_in (entries_checks cells m.child_list)) read
    ∙ ap (λ (b : Bool). cond b [] (used_in (entries_checks cells n.child_list))) some

lists_at_none : (cells : Cells) (at : ℕ) (n : KeyNode) → reading key_node_at cells at ≡ Ok n
    → (n.child_count == 0) ≡ true → list_cells_at cells at ≡ []
unfolding list_cells_at
lists_at_none cells at n read none =
    of_node_is cells at n (λ m. if m.child_count == 0 then [] else used_in (entries_checks cells m.child_list)) read
    ∙ ap (λ (b : Bool). cond b [] (used_in (entries_checks cells n.child_list))) none

pub length_more : (front : List ℕ) (y : ℕ) (back : List ℕ) → length (front ++ y ∷ back) ≡ suc (length (front ++ back))
length_more [] y back = refl
length_more (x ∷ front) y back = let l = length_more front y back in omega (arith, l)

-- a child is put among the others, in new lists
pub inserts_child : (b c : Cells) (root x left : ℕ) (n : KeyNode) (front back : List ℕ) (y : ℕ) (q : List ℕ)
    (list : ℕ) (counted : List ℕ) → reading key_node_at b x ≡ Ok n → child_places b x ≡ front ++ back
    → InsertsChild b c root x left n front back y q list counted
    → ChangesChildren b c root x left front [] (y ∷ []) back counted
inserts_child b c root x left n front back y q list counted read places g = record {
  version = g.version;
  old = n;
  new = g.node.new;
  read = read;
  read_new = read_new;
  same = g.node.same;
  listed = places;
  listed_new = subst (λ (z : Bool). MatchBool z (front ++ y ∷ back ≡ [])
      ((entries_at c g.node.new.child_list ≡ Ok (front ++ y ∷ back))
      × (length (front ++ y ∷ back) ≡ g.node.new.child_count))) (sym some)
      (ap (entries_at c) g.node.list_is ∙ g.lists, sym g.node.count_is);
  others = λ o r held no_node no_list no_gone no_count. g.others o r held no_node no_list no_count;
  counted_are = g.counted_are;
  security = g.security;
  used = λ u i. inr (g.fresh u (subst (λ (l : List (ℕ × Bool)). In l u) new_uses i));
  once = subst Once (sym new_uses) g.once;
  named = λ z i. ⊎_elim (λ (e : y ≡ z). subst (IsChildOf c x) e g.named) (λ (n : ⊥). absurd n) i;
}
  where
    read_new : reading key_node_at c x ≡ Ok g.node.new
    read_new = ap (λ (r : Result (List ℕ) HiveFaultKind). r >>= key_node_at) g.there ∙ g.node.read

    some : (g.node.new.child_count == 0) ≡ false
    some = counted_some g.node.new.child_count (length (front ++ back)) (g.node.count_is ∙ length_more front y back)

    new_uses : plain (list_cells_at c x) ++ flat_map (tree_uses left c) (y ∷ [])
        ≡ plain (used_in (entries_checks c list)) ++ tree_uses left c y
    new_uses =
        ap (λ (l : List ℕ). plain l ++ flat_map (tree_uses left c) (y ∷ []))
        (lists_at_is c x g.node.new read_new some ∙ ap (λ (o : ℕ). used_in (entries_checks c o)) g.node.list_is)
        ∙ ap (λ (l : List (ℕ × Bool)). plain (used_in (entries_checks c list)) ++ l) (append-nil (tree_uses left c y))

-- a child is taken out, and the others are in new lists, or there is no list
pub removes_child : (b c : Cells) (root x left : ℕ) (n : KeyNode) (front back : List ℕ) (y : ℕ) (q : List ℕ)
    (list : ℕ) (counted : List ℕ) → reading key_node_at b x ≡ Ok n → child_places b x ≡ front ++ y ∷ back
    → RemovesChild b c root x left n front back y q list counted
    → ChangesChildren b c root x left front (y ∷ []) [] back counted
removes_child b c root x left n front back y q list counted read places g = record {
  version = g.version;
  old = n;
  new = g.node.new;
  read = read;
  read_new = read_new;
  same = g.node.same;
  listed = places;
  listed_new = lists (front ++ back) refl;
  others = λ o r held no_node no_list no_gone no_count. g.others o r held no_node no_list
      (λ s i. no_gone s (in_left (tree_uses left b y) [] (o, s) i)) no_count;
  counted_are = g.counted_are;
  security = g.security;
  used = λ u i. fresh (front ++ back) refl u (in_cases (plain (list_cells_at c x)) [] u i);
  once = subst Once (sym (append-nil (plain (list_cells_at c x)))) (once (front ++ back) refl);
  named = λ z i. absurd i;
}
  where
    read_new : reading key_node_at c x ≡ Ok g.node.new
    read_new = ap (λ (r : Result (List ℕ) HiveFaultKind). r >>= key_node_at) g.there ∙ g.node.read

    none : (os : List ℕ) → os ≡ [] → front ++ back ≡ os → (g.node.new.child_count == 0) ≡ true
    none os e f = ap (λ (m : ℕ). m == 0) (g.node.count_is ∙ ap (λ (l : List ℕ). length l) (f ∙ e))

    some : (w : ℕ) (os : List ℕ) → front ++ back ≡ w ∷ os → (g.node.new.child_count == 0) ≡ false
    some w os f = counted_some g.node.new.child_count (length os) (g.node.count_is ∙ ap (λ (l : List ℕ). length l) f)

    lists : (os : List ℕ) → front ++ back ≡ os → ListsChildren c g.node.new (front ++ back)
    lists [] f =
        subst (λ (z : Bool). MatchBool z (front ++ back ≡ [])
        ((entries_at c g.node.new.child_list ≡ Ok (front ++ back))
        × (length (front ++ back) ≡ g.node.new.child_count))) (sym (none [] refl f)) f
    lists (w ∷ os) f =
        subst (λ (z : Bool). MatchBool z (front ++ back ≡ [])
        ((entries_at c g.node.new.child_list ≡ Ok (front ++ back))
        × (length (front ++ back) ≡ g.node.new.child_count))) (sym (some w os f))
        (ap (entries_at c) g.node.list_is ∙ g.lists w os f, sym g.node.count_is)

    lists_are : (w : ℕ) (os : List ℕ) → front ++ back ≡ w ∷ os → list_cells_at c x ≡ used_in (entries_checks c list)
    lists_are w os f =
        lists_at_is c x g.node.new read_new (some w os f)
        ∙ ap (λ (o : ℕ). used_in (entries_checks c o)) g.node.list_is

    fresh : (os : List ℕ) → front ++ back ≡ os → (u : ℕ × Bool) → In (plain (list_cells_at c x)) u ⊎ ⊥
        → In (plain (list_cells_at b x) ++ flat_map (tree_uses left b) (y ∷ [])) u
        ⊎ (IsUnheld b u.0 ⊎ ((u.1 ≡ true) × In counted u.0))
    fresh [] f u (inl i) =
        absurd (subst (λ (l : List ℕ). In (plain l) u) (lists_at_none c x g.node.new read_new (none [] refl f)) i)
    fresh (w ∷ os) f u (inl i) =
        inr (inl (g.fresh w os f u (subst (λ (l : List ℕ). In (plain l) u) (lists_are w os f) i)))
    fresh os f u (inr z) = absurd z

    once : (os : List ℕ) → front ++ back ≡ os → Once (plain (list_cells_at c x))
    once [] f =
        subst (λ (l : List ℕ). Once (plain l)) (sym (lists_at_none c x g.node.new read_new (none [] refl f))) tt
    once (w ∷ os) f = subst (λ (l : List ℕ). Once (plain l)) (sym (lists_are w os f)) (g.once w os f)
