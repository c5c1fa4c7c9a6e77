-- What changed of a key's values, from the cells that were patched, written or freed.
use Rattle.std.proofs.Common.{◌≡◌, ℕ, suc, Bool, true, false, cond, List, [], ◌∷◌, ◌++◌, length, refl, sym, ◌∙◌, ap, subst, inl, inr, ⊎_elim, Option, Some, None, Result, Ok, Err, arith}
use Rattle.std.specs.Prelude.{◌⊎◌, MatchBool, ◌==◌, if◌then◌else◌, is_some}
use Rattle.std.proofs.lemmas.List.{append-nil}
use Rattle.std.proofs.lemmas.Bool.{ne_eqb}
use Rattle.nt_bytes.specs.declared.fault.HiveFaultKind.{HiveFaultKind}
use Rattle.nt_bytes.specs.Reading.{◌>>=◌}
use Rattle.hive_model.specs.Bins.{Cells}
use Rattle.hive_model.specs.Size.{is_big}
use Rattle.hive_model.specs.Tree.{Tree, Item}
use Rattle.hive_model.specs.Forms.{bytes_in}
use Rattle.hive_model.specs.KeyNode.{KeyNode, key_node_at}
use Rattle.hive_model.specs.KeyValue.{KeyValue, key_value_at, data_inside}
use Rattle.hive_model.specs.Lists.{offsets_in}
use Rattle.hive_model.specs.Walk.{reading, big_checks, below_of, use_as, name_check, data_checks, value_checks, names_of}
use Rattle.hive_model.specs.Footprint.{of_read, used_in}
use Rattle.hive_model.specs.Stands.{data_or, big_bytes_at, data_of, item_at, items_at, IsWellFormed}
use Rattle.edited_cells.specs.Owned.{node, In, first_or_empty, value_name, value_places, value_list_at, Reaches}
use Rattle.edited_cells.specs.Framed.{IsUnheld}
use Rattle.edited_cells.specs.Pairs.{Pairwise}
use Rattle.edited_cells.specs.Revalues.{cells_of_values, all_value_cells, SaysTheSame, ListsValues, ChangesValues}
use Rattle.edited_cells.specs.Done.{item}
use Rattle.edited_cells.specs.Changes.{GetsData, MovesValue, AddsValue, TakesValue}
use Rattle.edited_cells.proofs.Ins.{in_left, in_right, in_cases}
use Rattle.edited_cells.proofs.Pairs.{pairwise_parts, pairwise_join}
use Rattle.edited_cells.proofs.Out.{of_node_is}
use Rattle.edited_cells.proofs.Held.{are_held}
use Rattle.edited_cells.proofs.Same.{same_reading, value_list_same}
use Rattle.edited_cells.proofs.SameTree.{value_list_is}
use Rattle.edited_cells.proofs.ChangedValues.{AreApart, values_apart, values_held}

-- ---- a value by its parts

-- a value is read by its node and its data
pub item_is : (cells : Cells) (v : ℕ) (k : KeyValue) (bytes : List ℕ) → reading key_value_at cells v ≡ Ok k
    → data_of cells k ≡ Ok bytes → item_at cells v ≡ Ok (item k.name k.kind bytes)
unfolding item_at
item_is cells v k bytes read held =
    ap (λ (r : Result KeyValue HiveFaultKind). r >>= λ u. data_of cells u >>= λ d. Ok (item u.name u.kind d))
    read
    ∙ ap (λ (r : Result (List ℕ) HiveFaultKind). r >>= λ d. Ok (item k.name k.kind d)) held

-- a value's cell, then those of its data
pub value_uses : (cells : Cells) (v : ℕ) (k : KeyValue) → reading key_value_at cells v ≡ Ok k
    → used_in (value_checks cells [] v) ≡ v ∷ used_in (data_checks cells k)
unfolding value_checks
value_uses cells v k read =
    ap (λ (r : Result KeyValue HiveFaultKind). v
    ∷ used_in (below_of r (λ value. name_check [] v value.name ∷ data_checks cells value))) read

-- data that the value holds have no cell
pub data_held_inside : (cells : Cells) (k : KeyValue) (bytes : List ℕ) → data_inside k ≡ Some bytes
    → (used_in (data_checks cells k) ≡ []) × (data_of cells k ≡ Ok bytes)
unfolding data_checks data_of
data_held_inside cells k bytes e = (
  ap (λ (o : Option (List ℕ)). used_in
      (cond (is_some o) [] (cond (is_big cells.version k.size) (big_checks cells k.size k.offset)
      (use_as false (bytes_in k.size) cells k.offset)))) e,
  ap (λ (o : Option (List ℕ)). data_or o
      (cond (is_big cells.version k.size) (big_bytes_at cells k.size k.offset)
      (reading (bytes_in k.size) cells k.offset))) e,
)

-- data in one cell
pub data_in_cell : (cells : Cells) (k : KeyValue) → data_inside k ≡ None → is_big cells.version k.size ≡ false
    → (used_in (data_checks cells k) ≡ k.offset ∷ []) × (data_of cells k ≡ reading (bytes_in k.size) cells k.offset)
unfolding data_checks data_of
data_in_cell cells k e small = (
  ap (λ (o : Option (List ℕ)). used_in
      (cond (is_some o) [] (cond (is_big cells.version k.size) (big_checks cells k.size k.offset)
      (use_as false (bytes_in k.size) cells k.offset)))) e
      ∙ ap (λ (b : Bool). used_in
      (cond b (big_checks cells k.size k.offset) (use_as false (bytes_in k.size) cells k.offset))) small,
  ap (λ (o : Option (List ℕ)). data_or o
      (cond (is_big cells.version k.size) (big_bytes_at cells k.size k.offset)
      (reading (bytes_in k.size) cells k.offset))) e
      ∙ ap (λ (b : Bool). cond b (big_bytes_at cells k.size k.offset) (reading (bytes_in k.size) cells k.offset)) small,
)

-- big data
pub data_in_segments : (cells : Cells) (k : KeyValue) → data_inside k ≡ None → is_big cells.version k.size ≡ true
    → (used_in (data_checks cells k) ≡ used_in (big_checks cells k.size k.offset))
    × (data_of cells k ≡ big_bytes_at cells k.size k.offset)
unfolding data_checks data_of
data_in_segments cells k e large = (
  ap (λ (o : Option (List ℕ)). used_in
      (cond (is_some o) [] (cond (is_big cells.version k.size) (big_checks cells k.size k.offset)
      (use_as false (bytes_in k.size) cells k.offset)))) e
      ∙ ap (λ (b : Bool). used_in
      (cond b (big_checks cells k.size k.offset) (use_as false (bytes_in k.size) cells k.offset))) large,
  ap (λ (o : Option (List ℕ)). data_or o
      (cond (is_big cells.version k.size) (big_bytes_at cells k.size k.offset)
      (reading (bytes_in k.size) cells k.offset))) e
      ∙ ap (λ (b : Bool). cond b (big_bytes_at cells k.size k.offset) (reading (bytes_in k.size) cells k.offset)) large,
)

-- the name of a value that is read
pub name_of_value : (cells : Cells) (v : ℕ) (k : KeyValue) → reading key_value_at cells v ≡ Ok k
    → value_name cells v ≡ k.name
name_of_value cells v k read =
    ap (λ (r : Result KeyValue HiveFaultKind). first_or_empty (names_of (λ (n : KeyValue). n.name) r)) read

one_item : (cells : Cells) (v : ℕ) (i : Item) → item_at cells v ≡ Ok i → items_at cells (v ∷ []) ≡ Ok (i ∷ [])
one_item cells v i e =
    ap (λ (r : Result Item HiveFaultKind). r >>= λ one. items_at cells [] >>= λ others. Ok (one ∷ others)) e

-- ---- a list of values

-- a node that has values lists them
pub lists_some : (cells : Cells) (at : ℕ) (n : KeyNode) (front back : List ℕ) (v : ℕ)
    → reading key_node_at cells at ≡ Ok n → value_places cells at ≡ front ++ v ∷ back
    → ((n.value_count == 0) ≡ false) × (reading (offsets_in n.value_count) cells n.value_list ≡ Ok (front ++ v ∷ back))
unfolding value_places
lists_some cells at n front back v read places =
    go (n.value_count == 0) (reading (offsets_in n.value_count) cells n.value_list)
    (sym (of_node_is cells at n
    (λ k. if k.value_count == 0 then [] else of_read (reading (offsets_in k.value_count) cells k.value_list)
    (λ os. os)) read) ∙ places)
  where
    not_empty : (front : List ℕ) → [] ≡ front ++ v ∷ back → ⊥
    not_empty [] e = cc
    not_empty (x ∷ front) e = cc

    go : (b : Bool) (r : Result (List ℕ) HiveFaultKind) → cond b [] (of_read r (λ os. os)) ≡ front ++ v ∷ back
        → (b ≡ false) × (r ≡ Ok (front ++ v ∷ back))
    go true r e = absurd (not_empty front e)
    go false (Ok os) e = (refl, ap (λ (l : List ℕ). ok l) e)
      where
        ok : List ℕ → Result (List ℕ) HiveFaultKind
        ok l = Ok l
    go false (Err k) e = absurd (not_empty front e)

-- the list of a node that counts values
list_at_is : (cells : Cells) (at : ℕ) (n : KeyNode) → reading key_node_at cells at ≡ Ok n
    → (n.value_count == 0) ≡ false → value_list_at cells at ≡ n.value_list ∷ []
unfolding value_list_at
list_at_is cells at n read some =
    of_node_is cells at n (λ k. if k.value_count == 0 then [] else k.value_list ∷ []) read
    ∙ ap (λ (b : Bool). cond b [] (n.value_list ∷ [])) some

list_at_none : (cells : Cells) (at : ℕ) (n : KeyNode) → reading key_node_at cells at ≡ Ok n
    → (n.value_count == 0) ≡ true → value_list_at cells at ≡ []
unfolding value_list_at
list_at_none cells at n read none =
    of_node_is cells at n (λ k. if k.value_count == 0 then [] else k.value_list ∷ []) read
    ∙ ap (λ (b : Bool). cond b [] (n.value_list ∷ [])) none

pub counted_some : (n m : ℕ) → n ≡ suc m → (n == 0) ≡ false
counted_some n m e = ne_eqb n 0 (λ z. absurd (omega (arith, e, z)))

pub single : (o : ℕ) → Pairwise (λ p q. p ≡ q → ⊥) (o ∷ [])
single o = ((λ y i. absurd i), tt)

says_itself : (n : KeyNode) → SaysTheSame n n
says_itself n = record {
  name = refl;
  flags = refl;
  stamp = refl;
  parent = refl;
  child_count = refl;
  volatile_count = refl;
  child_list = refl;
  volatile_list = refl;
  security = refl;
  class = refl;
  class_length = refl;
}

module _ (b c : Cells) (root : ℕ) (t : Tree) (p : List (List ℕ)) (x : ℕ) (n : KeyNode) (well : IsWellFormed b root t)
    (h : Reaches b root p x) (read : reading key_node_at b x ≡ Ok n) where
  apart : AreApart b x
  apart = values_apart b root t p x well h

  of_list : (o : ℕ) → In (value_list_at b x) o → In (all_value_cells b x) o
  of_list o i = in_left (value_list_at b x) (cells_of_values b (value_places b x)) o i

  node_held : (q : List ℕ) × (b.payload x ≡ Ok q)
  node_held = (are_held b root t well).held p node x (record { at = x; reached = h; has = refl })

  -- a value of the key, among the others
  module _ (front back : List ℕ) (v : ℕ) (places : value_places b x ≡ front ++ v ∷ back) where
    mine : (o : ℕ) → In (used_in (value_checks b [] v)) o → In (cells_of_values b (value_places b x)) o
    mine o i = subst (λ (l : List ℕ). In (cells_of_values b l) o) (sym places) (among_values front)
      where
        among_values : (front : List ℕ) → In (cells_of_values b (front ++ v ∷ back)) o
        among_values [] = in_left (used_in (value_checks b [] v)) (cells_of_values b back) o i
        among_values (w ∷ front) =
            in_right (used_in (value_checks b [] w)) (cells_of_values b (front ++ v ∷ back)) o (among_values front)

    of_mine : (o : ℕ) → In (used_in (value_checks b [] v)) o → In (all_value_cells b x) o
    of_mine o i = in_right (value_list_at b x) (cells_of_values b (value_places b x)) o (mine o i)

    list_not_mine : (o : ℕ) → In (value_list_at b x) o → In (used_in (value_checks b [] v)) o → ⊥
    list_not_mine o i j =
        (pairwise_parts (λ u w. u ≡ w → ⊥) (value_list_at b x) (cells_of_values b (value_places b x)) apart.once).across
        o o i (mine o j) refl

    listed : ((n.value_count == 0) ≡ false)
        × (reading (offsets_in n.value_count) b n.value_list ≡ Ok (front ++ v ∷ back))
    listed = lists_some b x n front back v read places

    from_one : (w o : ℕ) (cells : Cells) → In (cells_of_values cells (w ∷ [])) o
        → In (used_in (value_checks cells [] w)) o
    from_one w o cells i = ⊎_elim (λ j. j) (λ (z : ⊥). absurd z) (in_cases (used_in (value_checks cells [] w)) [] o i)

    -- a value's data are written where it stands
    pub gets_data : (kind : ℕ) (bytes : List ℕ) → GetsData b c v kind bytes
        → ChangesValues b c x front (v ∷ []) (v ∷ []) back (item (value_name b v) kind bytes ∷ [])
    gets_data kind bytes g = record {
      version = g.version;
      old = n;
      new = n;
      read = read;
      read_new = same_reading key_node_at b c x node_same ∙ read;
      same = says_itself n;
      listed = places;
      listed_new = subst (λ (z : Bool). MatchBool z (front ++ v ∷ back ≡ [])
          (reading (offsets_in n.value_count) c n.value_list ≡ Ok (front ++ v ∷ back))) (sym listed.0)
          (same_reading (offsets_in n.value_count) b c n.value_list
          (list_same n.value_list (value_list_is b x n read listed.0)) ∙ listed.1);
      items = one_item c v (item (value_name b v) kind bytes) g.reads;
      others = λ o q held no_node no_list no_value. g.others o q held
          (λ i. no_value (in_left (used_in (value_checks b [] v)) [] o i));
      used = λ o i. ⊎_elim
          (λ j. inl (in_left (value_list_at b x) (cells_of_values b (v ∷ [])) o
          (subst (λ (l : List ℕ). In l o) lists_same j)))
          (λ j. ⊎_elim (λ k. inl (in_right (value_list_at b x) (cells_of_values b (v ∷ [])) o
          (in_left (used_in (value_checks b [] v)) [] o k))) (λ k. inr k) (g.used o (from_one v o c j)))
          (in_cases (value_list_at c x) (cells_of_values c (v ∷ [])) o i);
      once = pairwise_join (λ u w. u ≡ w → ⊥) (value_list_at c x) (cells_of_values c (v ∷ [])) (record {
        left = subst (Pairwise (λ u w. u ≡ w → ⊥)) (sym lists_same)
            (pairwise_parts (λ u w. u ≡ w → ⊥) (value_list_at b x) (cells_of_values b (value_places b x))
            apart.once).left;
        right = subst (Pairwise (λ u w. u ≡ w → ⊥)) (sym (append-nil (used_in (value_checks c [] v)))) g.once;
        across = λ u w i j e. list_apart u (subst (λ (l : List ℕ). In l u) lists_same i)
            (subst (λ (z : ℕ). In (used_in (value_checks b [] v)) z ⊎ IsUnheld b z) (sym e)
            (g.used w (from_one v w c j)));
      });
    }
      where
        node_same : c.payload x ≡ b.payload x
        node_same = g.others x node_held.0 node_held.1 (λ i. apart.node x (of_mine x i) refl) ∙ sym node_held.1

        list_same : (o : ℕ) → In (value_list_at b x) o → c.payload o ≡ b.payload o
        list_same o i =
            let q = values_held b root t p x o well h (of_list o i) in g.others o q.0 q.1 (list_not_mine o i) ∙ sym q.1

        lists_same : value_list_at c x ≡ value_list_at b x
        lists_same = value_list_same b c x node_same

        list_apart : (u : ℕ) → In (value_list_at b x) u → In (used_in (value_checks b [] v)) u ⊎ IsUnheld b u → ⊥
        list_apart u i (inl j) = list_not_mine u i j
        list_apart u i (inr never) = let q = values_held b root t p x u well h (of_list u i) in never q.0 q.1

    -- a value moves to other cells, and the list names it there
    pub moves_value : (w : ℕ) (kind : ℕ) (bytes : List ℕ) → MovesValue b c x n front back v w kind bytes
        → ChangesValues b c x front (v ∷ []) (w ∷ []) back (item (value_name b v) kind bytes ∷ [])
    moves_value w kind bytes g = record {
      version = g.version;
      old = n;
      new = n;
      read = read;
      read_new = same_reading key_node_at b c x node_same ∙ read;
      same = says_itself n;
      listed = places;
      listed_new = subst (λ (z : Bool). MatchBool z (front ++ w ∷ back ≡ [])
          (reading (offsets_in n.value_count) c n.value_list ≡ Ok (front ++ w ∷ back))) (sym listed.0) g.lists;
      items = one_item c w (item (value_name b v) kind bytes) g.reads;
      others = λ o q held no_node no_list no_value. g.others o q held no_list
          (λ i. no_value (in_left (used_in (value_checks b [] v)) [] o i));
      used = λ o i. ⊎_elim
          (λ j. inl (in_left (value_list_at b x) (cells_of_values b (v ∷ [])) o
          (subst (λ (l : List ℕ). In l o) lists_same j)))
          (λ j. ⊎_elim (λ k. inl (in_right (value_list_at b x) (cells_of_values b (v ∷ [])) o
          (in_left (used_in (value_checks b [] v)) [] o k))) (λ k. inr k) (g.used o (from_one w o c j)))
          (in_cases (value_list_at c x) (cells_of_values c (w ∷ [])) o i);
      once = pairwise_join (λ u z. u ≡ z → ⊥) (value_list_at c x) (cells_of_values c (w ∷ [])) (record {
        left = subst (Pairwise (λ u z. u ≡ z → ⊥)) (sym lists_same)
            (pairwise_parts (λ u z. u ≡ z → ⊥) (value_list_at b x) (cells_of_values b (value_places b x))
            apart.once).left;
        right = subst (Pairwise (λ u z. u ≡ z → ⊥)) (sym (append-nil (used_in (value_checks c [] w)))) g.once;
        across = λ u z i j e. list_apart u (subst (λ (l : List ℕ). In l u) lists_same i)
            (subst (λ (y : ℕ). In (used_in (value_checks b [] v)) y ⊎ IsUnheld b y) (sym e)
            (g.used z (from_one w z c j)));
      });
    }
      where
        node_same : c.payload x ≡ b.payload x
        node_same =
            g.others x node_held.0 node_held.1 (λ i. apart.node x (of_list x i) refl)
            (λ i. apart.node x (of_mine x i) refl)
            ∙ sym node_held.1

        lists_same : value_list_at c x ≡ value_list_at b x
        lists_same = value_list_same b c x node_same

        list_apart : (u : ℕ) → In (value_list_at b x) u → In (used_in (value_checks b [] v)) u ⊎ IsUnheld b u → ⊥
        list_apart u i (inl j) = list_not_mine u i j
        list_apart u i (inr never) = let q = values_held b root t p x u well h (of_list u i) in never q.0 q.1

    -- a value is taken out
    pub takes_value : (q : List ℕ) (list : ℕ) → TakesValue b c x n front back v q list
        → ChangesValues b c x front (v ∷ []) [] back []
    takes_value q list g = record {
      version = g.version;
      old = n;
      new = g.node.new;
      read = read;
      read_new = ap (λ (r : Result (List ℕ) HiveFaultKind). r >>= key_node_at) g.there ∙ g.node.read;
      same = g.node.same;
      listed = places;
      listed_new = lists (front ++ back) refl;
      items = refl;
      others = λ o r held no_node no_list no_value. g.others o r held no_node no_list
          (λ i. no_value (in_left (used_in (value_checks b [] v)) [] o i));
      used = λ o i. ⊎_elim
          (λ j. of_new o j) (λ (z : ⊥). absurd z) (in_cases (value_list_at c x) [] o i);
      once = subst (Pairwise (λ u w. u ≡ w → ⊥)) (sym (append-nil (value_list_at c x))) (new_once (front ++ back) refl);
    }
      where
        read_new : reading key_node_at c x ≡ Ok g.node.new
        read_new = ap (λ (r : Result (List ℕ) HiveFaultKind). r >>= key_node_at) g.there ∙ g.node.read

        none : (os : List ℕ) → os ≡ [] → front ++ back ≡ os → (g.node.new.value_count == 0) ≡ true
        none os e f = ap (λ (m : ℕ). m == 0) (g.node.count_is ∙ ap (λ (l : List ℕ). length l) (f ∙ e))

        lists : (os : List ℕ) → front ++ back ≡ os → ListsValues c g.node.new (front ++ back)
        lists [] f =
            subst (λ (z : Bool). MatchBool z (front ++ back ≡ [])
            (reading (offsets_in g.node.new.value_count) c g.node.new.value_list ≡ Ok (front ++ back)))
            (sym (none [] refl f)) f
        lists (w ∷ os) f =
            subst (λ (z : Bool). MatchBool z (front ++ back ≡ [])
            (reading (offsets_in g.node.new.value_count) c g.node.new.value_list ≡ Ok (front ++ back)))
            (sym (counted_some g.node.new.value_count (length os) (g.node.count_is ∙ ap (λ (l : List ℕ). length l) f)))
            (ap (λ (m : ℕ). reading (offsets_in m) c g.node.new.value_list) g.node.count_is
            ∙ ap (reading (offsets_in (length (front ++ back))) c) g.node.list_is ∙ g.lists w os f)

        new_once : (os : List ℕ) → front ++ back ≡ os → Pairwise (λ u w. u ≡ w → ⊥) (value_list_at c x)
        new_once [] f =
            subst (Pairwise (λ u w. u ≡ w → ⊥)) (sym (list_at_none c x g.node.new read_new (none [] refl f))) tt
        new_once (w ∷ os) f =
            subst (Pairwise (λ u w. u ≡ w → ⊥))
            (sym (list_at_is c x g.node.new read_new
            (counted_some g.node.new.value_count (length os) (g.node.count_is ∙ ap (λ (l : List ℕ). length l) f))))
            (single g.node.new.value_list)

        new_list : (os : List ℕ) (o : ℕ) → front ++ back ≡ os → In (value_list_at c x) o
            → (list ≡ o) × (front ++ back ≡ [] → ⊥)
        new_list [] o f i =
            absurd (subst (λ (l : List ℕ). In l o) (list_at_none c x g.node.new read_new (none [] refl f)) i)
        new_list (w ∷ os) o f i = (
          ⊎_elim (λ (e : g.node.new.value_list ≡ o). sym g.node.list_is ∙ e) (λ (z : ⊥). absurd z)
              (subst (λ (l : List ℕ). In l o)
              (list_at_is c x g.node.new read_new
              (counted_some g.node.new.value_count (length os) (g.node.count_is ∙ ap (λ (l : List ℕ). length l) f)))
              i),
          λ e. absurd (let d : w ∷ os ≡ [] = sym f ∙ e in cc),
        )

        of_new : (o : ℕ) → In (value_list_at c x) o
            → In (value_list_at b x ++ cells_of_values b (v ∷ [])) o ⊎ IsUnheld b o
        of_new o i =
            let l = new_list (front ++ back) o refl i in
            ⊎_elim (λ (j : In (value_list_at b x) list). inl
            (in_left (value_list_at b x) (cells_of_values b (v ∷ [])) o (subst (In (value_list_at b x)) l.0 j)))
            (λ (never : IsUnheld b list). inr (subst (IsUnheld b) l.0 never)) (g.from l.1)

  -- a value is added after the others, in cells that were none, with a new list
  pub adds_value : (offsets : List ℕ) (w : ℕ) (q : List ℕ) (list : ℕ) (i : Item) → value_places b x ≡ offsets
      → AddsValue b c x n offsets w q list i → ChangesValues b c x offsets [] (w ∷ []) [] (i ∷ [])
  adds_value offsets w q list i places g = record {
    version = g.version;
    old = n;
    new = g.node.new;
    read = read;
    read_new = read_new;
    same = g.node.same;
    listed = places ∙ sym (append-nil offsets);
    listed_new = subst (λ (z : Bool). MatchBool z (offsets ++ w ∷ [] ≡ [])
        (reading (offsets_in g.node.new.value_count) c g.node.new.value_list ≡ Ok (offsets ++ w ∷ []))) (sym some)
        (ap (λ (m : ℕ). reading (offsets_in m) c g.node.new.value_list) g.node.count_is
        ∙ ap (reading (offsets_in (suc (length offsets))) c) g.node.list_is ∙ g.lists);
    items = one_item c w i g.reads;
    others = λ o r held no_node no_list no_value. g.others o r held no_node no_list;
    used = λ o j. inr (g.fresh o (subst (λ (l : List ℕ). In l o) new_cells j));
    once = subst (Pairwise (λ u z. u ≡ z → ⊥)) (sym new_cells) g.once;
  }
    where
      read_new : reading key_node_at c x ≡ Ok g.node.new
      read_new = ap (λ (r : Result (List ℕ) HiveFaultKind). r >>= key_node_at) g.there ∙ g.node.read

      some : (g.node.new.value_count == 0) ≡ false
      some = counted_some g.node.new.value_count (length offsets) g.node.count_is

      new_cells : value_list_at c x ++ cells_of_values c (w ∷ []) ≡ list ∷ used_in (value_checks c [] w)
      new_cells =
          ap (λ (l : List ℕ). l ++ cells_of_values c (w ∷ [])) (list_at_is c x g.node.new read_new some)
          ∙ ap (λ (o : ℕ). o ∷ (used_in (value_checks c [] w) ++ [])) g.node.list_is
          ∙ ap (λ (l : List ℕ). list ∷ l) (append-nil (used_in (value_checks c [] w)))
