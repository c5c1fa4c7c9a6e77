-- Values of a key go and others come in their place: the key gets the values that are then in its list.
use Rattle.std.proofs.Common.{◌≡◌, ℕ, suc, ◌-◌, ◌<◌, Bool, true, false, cond, List, [], ◌∷◌, ◌++◌, length, refl, sym, ◌∙◌, ap, subst, ⊎_elim, Result, Ok, arith}
use Rattle.std.specs.Prelude.{MatchBool, ◌==◌, if◌then◌else◌, flat_map}
use Rattle.nt_bytes.specs.declared.fault.HiveFaultKind.{HiveFaultKind}
use Rattle.nt_bytes.specs.Reading.{◌>>=◌}
use Rattle.hive_model.specs.Bins.{Cells}
use Rattle.hive_model.specs.KeyNode.{KeyNode, key_node_at}
use Rattle.hive_model.specs.Lists.{offsets_in}
use Rattle.hive_model.specs.Tree.{Tree, Item}
use Rattle.hive_model.specs.Walk.{reading, value_checks}
use Rattle.hive_model.specs.Footprint.{of_read, used_in, child_places, security_cell_at, list_cells_at}
use Rattle.hive_model.specs.Stands.{item_at, items_at, values_of, IsWellFormed}
use Rattle.edited_cells.specs.Owned.{value_list, value, In, value_name, value_places, value_list_at, class_cell_at, Reaches, Folds}
use Rattle.edited_cells.specs.Pairs.{Pairwise}
use Rattle.edited_cells.specs.Revalues.{cells_of_values, all_value_cells, ListsValues}
use Rattle.edited_cells.proofs.Ins.{in_left, in_right, in_cases, in_flat}
use Rattle.edited_cells.proofs.Pairs.{InParts, pairwise_parts, in_map_from}
use Rattle.edited_cells.proofs.Out.{of_node_is}
use Rattle.edited_cells.proofs.Wellformed.{first_part, sound_hive, ok_items}
use Rattle.edited_cells.proofs.Held.{are_held}
use Rattle.edited_cells.proofs.Patch.{folds_itself}
use Rattle.edited_cells.specs.Uses.{Agree, Once, plain, secure, own_uses, tree_uses}
use Rattle.edited_cells.proofs.SameTree.{IsSameKey}
use Rattle.edited_cells.proofs.Around.{IsSwapped, above, above_is, around, hive_once}

-- ---- what a key owns is used once

-- cells are the same as themselves
pub same_itself : (b : Cells) (z : ℕ) → IsSameKey b b z
same_itself b z = record { same = record { version = refl; each = λ r o plain i. refl }; security = λ o i. refl }

pub path_itself : (p : List (List ℕ)) → Folds p p
path_itself [] = tt
path_itself (m ∷ p) = (folds_itself m, path_itself p)

-- a key of well-formed cells uses each cell once
pub own_once : (b : Cells) (root : ℕ) (t : Tree) (p : List (List ℕ)) (x : ℕ) → IsWellFormed b root t
    → Reaches b root p x → Once (own_uses b x)
own_once b root t p x well h =
    let s = subst (λ (n : ℕ). IsSwapped (tree_uses n b root) (tree_uses n b root) (tree_uses (suc (511 - length p)) b x)
    (tree_uses (suc (511 - length p)) b x)) top
    (around b b p p (suc (511 - length p)) root x t well.stands well.names (path_itself p) h
    (λ q z r out. same_itself b z)) in
    let whole = subst Once s.was (hive_once b root t well.stands well.names well.once) in
    let here = pairwise_parts Agree (tree_uses (suc (511 - length p)) b x) s.behind
    (pairwise_parts Agree s.before (tree_uses (suc (511 - length p)) b x ++ s.behind) whole).right in
    (pairwise_parts Agree (own_uses b x) (flat_map (tree_uses (511 - length p) b) (child_places b x)) here.left).left
  where
    short : length p < 512
    short = (sound_hive b root t well).shallow p x h

    top : above p (suc (511 - length p)) ≡ 512
    top = above_is p (suc (511 - length p)) ∙ omega (arith, short)

pub plain_differ : (xs : List ℕ) → Once (plain xs) → Pairwise (λ p q. p ≡ q → ⊥) xs
plain_differ [] h = tt
plain_differ (x ∷ xs) h = (
  λ y i e. let both = h.0 (y, false) (in_map_from (λ (o : ℕ). (o, false)) xs y i) e in
      absurd (let d = both.0 in cc),
  plain_differ xs h.1,
)

-- what a key of well-formed cells uses for its values: no cell twice, and not its node
pub record AreApart (b : Cells) (x : ℕ) : Type 0 where
  pub once : Pairwise (λ p q. p ≡ q → ⊥) (all_value_cells b x)
  pub node : (o : ℕ) → In (all_value_cells b x) o → o ≡ x → ⊥

pub values_apart : (b : Cells) (root : ℕ) (t : Tree) (p : List (List ℕ)) (x : ℕ) → IsWellFormed b root t
    → Reaches b root p x → AreApart b x
values_apart b root t p x well h = record {
  once = plain_differ (all_value_cells b x) three.left;
  node = λ o i e. let both = whole.0 (o, false)
      (in_right (plain (class_cell_at b x))
      (secure (security_cell_at b x) ++ (plain (all_value_cells b x) ++ plain (list_cells_at b x))) (o, false)
      (in_right (secure (security_cell_at b x)) (plain (all_value_cells b x) ++ plain (list_cells_at b x)) (o, false)
      (in_left (plain (all_value_cells b x)) (plain (list_cells_at b x)) (o, false)
      (in_map_from (λ (z : ℕ). (z, false)) (all_value_cells b x) o i)))) (sym e) in
      absurd (let d = both.0 in cc);
}
  where
    whole : Once (own_uses b x)
    whole = own_once b root t p x well h

    one : InParts Agree (plain (class_cell_at b x))
        (secure (security_cell_at b x) ++ (plain (all_value_cells b x) ++ plain (list_cells_at b x)))
    one =
        pairwise_parts Agree (plain (class_cell_at b x))
        (secure (security_cell_at b x) ++ (plain (all_value_cells b x) ++ plain (list_cells_at b x))) whole.1

    two : InParts Agree (secure (security_cell_at b x)) (plain (all_value_cells b x) ++ plain (list_cells_at b x))
    two =
        pairwise_parts Agree (secure (security_cell_at b x)) (plain (all_value_cells b x) ++ plain (list_cells_at b x))
        one.right

    three : InParts Agree (plain (all_value_cells b x)) (plain (list_cells_at b x))
    three = pairwise_parts Agree (plain (all_value_cells b x)) (plain (list_cells_at b x)) two.right

-- what a key uses for its values is held
pub values_held : (b : Cells) (root : ℕ) (t : Tree) (p : List (List ℕ)) (x o : ℕ) → IsWellFormed b root t
    → Reaches b root p x → In (all_value_cells b x) o → (q : List ℕ) × (b.payload o ≡ Ok q)
values_held b root t p x o well h i = ⊎_elim
    (λ l. (are_held b root t well).held p value_list o (record { at = x; reached = h; has = l }))
    (λ l. let f = in_flat (λ v. used_in (value_checks b [] v)) (value_places b x) o l in
    (are_held b root t well).held p (value (value_name b f.0)) o
    (record { at = x; reached = h; has = record { place = f.0; listed = f.1; named = refl; used = f.2 } }))
    (in_cases (value_list_at b x) (cells_of_values b (value_places b x)) o i)

-- ---- lists of values

-- values that are read in two parts
pub record ReadsBoth (cells : Cells) (xs ys : List ℕ) (items : List Item) : Type 0 where
  pub left : List Item
  pub right : List Item
  pub first : items_at cells xs ≡ Ok left
  pub second : items_at cells ys ≡ Ok right
  pub whole : items ≡ left ++ right

abbrev done : {A : Type 0} → A → Result A HiveFaultKind
done x = Ok x

pub items_both : (cells : Cells) (xs ys : List ℕ) (items : List Item) → items_at cells (xs ++ ys) ≡ Ok items
    → ReadsBoth cells xs ys items
items_both cells [] ys items e = record { left = []; right = items; first = refl; second = e; whole = refl }
items_both cells (x ∷ xs) ys items e =
    let one = first_part (item_at cells x) (λ item. items_at cells (xs ++ ys) >>= λ others. Ok (item ∷ others))
    items e in
    let others = first_part (items_at cells (xs ++ ys)) (λ others. Ok (one.0 ∷ others)) items one.2 in
    let r = items_both cells xs ys others.0 others.1 in
    record {
      left = one.0 ∷ r.left;
      right = r.right;
      first = ap (λ (q : Result Item HiveFaultKind). q >>= λ v. items_at cells xs >>= λ vs. Ok (v ∷ vs)) one.1
          ∙ ap (λ (q : Result (List Item) HiveFaultKind). q >>= λ others. Ok (one.0 ∷ others)) r.first;
      second = r.second;
      whole = sym (ok_items (one.0 ∷ others.0) items others.2) ∙ ap (λ (l : List Item). one.0 ∷ l) r.whole;
    }

pub both_items : (cells : Cells) (xs ys : List ℕ) (left right : List Item) → items_at cells xs ≡ Ok left
    → items_at cells ys ≡ Ok right → items_at cells (xs ++ ys) ≡ Ok (left ++ right)
both_items cells [] ys left right e f = f ∙ ap (λ (l : List Item). done (l ++ right)) (ok_items [] left e)
both_items cells (x ∷ xs) ys left right e f =
    let one = first_part (item_at cells x) (λ item. items_at cells xs >>= λ others. Ok (item ∷ others)) left e in
    let others = first_part (items_at cells xs) (λ others. Ok (one.0 ∷ others)) left one.2 in
    ap (λ (q : Result Item HiveFaultKind). q >>= λ item. items_at cells (xs
    ++ ys) >>= λ others. Ok (item ∷ others)) one.1
    ∙ ap (λ (q : Result (List Item) HiveFaultKind). q >>= λ others. Ok (one.0 ∷ others))
    (both_items cells xs ys others.0 right others.1 f)
    ∙ ap (λ (l : List Item). done (l ++ right)) (ok_items (one.0 ∷ others.0) left others.2)

-- the values of a node that lists them
pub listed_values : (cells : Cells) (n : KeyNode) (offsets : List ℕ) → ListsValues cells n offsets
    → values_of cells n ≡ items_at cells offsets
unfolding values_of
listed_values cells n offsets l = go (n.value_count == 0) l
  where
    go : (b : Bool) → MatchBool b (offsets ≡ []) (reading (offsets_in n.value_count) cells n.value_list ≡ Ok offsets)
        → cond b (Ok []) (reading (offsets_in n.value_count) cells n.value_list >>= items_at cells)
        ≡ items_at cells offsets
    go true e = ap (items_at cells) (sym e)
    go false e = ap (λ (q : Result (List ℕ) HiveFaultKind). q >>= items_at cells) e

pub listed_places : (cells : Cells) (at : ℕ) (n : KeyNode) (offsets : List ℕ) → reading key_node_at cells at ≡ Ok n
    → ListsValues cells n offsets → value_places cells at ≡ offsets
unfolding value_places
listed_places cells at n offsets read l =
    of_node_is cells at n (λ k. if k.value_count == 0 then [] else of_read
    (reading (offsets_in k.value_count) cells k.value_list) (λ os. os)) read
    ∙ go (n.value_count == 0) l
  where
    go : (b : Bool) → MatchBool b (offsets ≡ []) (reading (offsets_in n.value_count) cells n.value_list ≡ Ok offsets)
        → cond b [] (of_read (reading (offsets_in n.value_count) cells n.value_list) (λ os. os)) ≡ offsets
    go true e = sym e
    go false e = ap (λ (q : Result (List ℕ) HiveFaultKind). of_read q (λ os. os)) e
