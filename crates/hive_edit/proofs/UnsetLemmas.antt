-- A value taken out of the cells of its key, and of a hive.
use Rattle.std.proofs.Common.{◌≡◌, ◌≤◌, ◌<◌, ◌^◌, ℕ, zero, suc, ◌+◌, ◌-◌, ◌*◌, Bool, true, false, not, cond, List, [], ◌∷◌, ◌++◌, length, take, Option, Some, None, Result, Ok, Err, ◌⊎◌, inl, inr, ⊎_elim, refl, sym, ap, subst, ◌∙◌, arith}
use Rattle.std.specs.Prelude.{◌==◌, find, is_some, min, flat_map}
use Rattle.std.specs.Option.{IsSomeAnd, is_none, option_map, option_map_or}
use Rattle.std.specs.Int.{w32, to_le_bytes}
use Rattle.std.proofs.lemmas.Bool.{ne_eqb}
use Rattle.std.proofs.lemmas.Bool.Decides.{nat_tests}
use Rattle.nt_bytes.specs.declared.fault.HiveFaultKind.{HiveFaultKind}
use Rattle.nt_bytes.specs.declared.fault.HiveFaultKind.TheVariants.{FormLength}
use Rattle.nt_bytes.specs.declared.version.HiveVersion.{HiveVersion}
use Rattle.nt_bytes.specs.Fields.{u32_in}
use Rattle.nt_bytes.specs.Folding.{folds_same}
use Rattle.nt_bytes.specs.Reading.{◌>>=◌}
use Rattle.hive_model.specs.Bins.{Bin, Cells, bins_size, look_up, spelled}
use Rattle.hive_model.specs.KeyNode.{KeyNode, key_node_at}
use Rattle.hive_model.specs.KeyValue.{KeyValue, key_value_at, data_inside, is_in_place}
use Rattle.hive_model.specs.BigData.{BigData, big_data_at}
use Rattle.hive_model.specs.Lists.{offsets_in}
use Rattle.hive_model.specs.Size.{is_big, segment_count, cell, item_size, items_sum, items_size, size, bulk_of}
use Rattle.hive_model.specs.Tree.{Tree, Item, head, find_key, find_item, is_item}
use Rattle.hive_model.specs.Edit.{delete_value, Refusal, no_key, no_value, unless, without_first, has_item, value_deleted, after_step}
use Rattle.hive_model.specs.Walk.{reading, below_of, use_as, big_data_of, segments_checks, big_checks, data_checks, value_checks}
use Rattle.hive_model.specs.Footprint.{used_in, key_place, is_value_named}
use Rattle.hive_model.specs.Stands.{IsWellFormed, big_bytes_at, joined_segments, data_of, item_at, items_at}
use Rattle.hive_cells.specs.Opened.{Opened}
use Rattle.hive_cells.specs.Held.{held_at, patched}
use Rattle.hive_cells.proofs.HeldLemmas.{held_payload, payload_held}
use Rattle.hive_read.proofs.FormFacts.{IsBytes, then-so}
use Rattle.edited_cells.specs.Owned.{In, value_list_at}
use Rattle.edited_cells.specs.Owned.{value_places as owned_places}
use Rattle.edited_cells.specs.Pairs.{Pairwise}
use Rattle.edited_cells.specs.Revalues.{cells_of_values, all_value_cells}
use Rattle.edited_cells.proofs.Ins.{in_left, in_right, in_flat_from}
use Rattle.edited_cells.proofs.Pairs.{pairwise_parts}
use Rattle.edited_cells.proofs.Out.{placed_at}
use Rattle.edited_cells.proofs.ChangedValues.{values_apart, values_held}
use Rattle.edited_cells.proofs.FromCells.{value_uses, data_held_inside, data_in_cell, data_in_segments, name_of_value}
use Rattle.edited_cells.proofs.ValueCells.{value_taken}
use Rattle.edited_cells.proofs.ItemSizes.{deleted_sum}
use Rattle.edited_cells.proofs.Sizes.{revalued_size}
use Rattle.edited_cells.specs.Written.{with_part, two_numbers, HasNewValues}
use Rattle.edited_cells.proofs.Patches.{node_text, values_written}
use Rattle.key_index.specs.Lists.{payload_in}
use Rattle.key_index.proofs.Below.{in_payload}
use Rattle.hive_edit.specs.Hive.{HiveCells, cells_in, hive_of, IsHive}
use Rattle.hive_edit.specs.Gone.{AreGone, HasOffsets, HasSegments, Unlists, HasData, with_data, data_cells, CanTake, TakesOut, unset_tree, list_room}
use Rattle.hive_look.specs.Places.{IsItemHere, value_place, value_places}
use Rattle.hive_edit.specs.Standing.{tree_of}
use Rattle.hive_look.proofs.ResultLemmas.{done, some, ok_same, only_if}
use Rattle.hive_look.proofs.PlaceLemmas.{KeyThere, key_there, no_place, IsItemAt, place_of_item, items_stand}
use Rattle.hive_look.proofs.ItemLemmas.{item_facts}
use Rattle.hive_edit.proofs.InPlaceLemmas.{found_among, listed_values, named_folds, one_list_at}
use Rattle.hive_look.proofs.PlaceLemmas.{places_same}
use Rattle.hive_edit.proofs.EditLemmas.{the_tree}
use Rattle.hive_edit.proofs.LowLemmas.{items_length, bulk_is}
use Rattle.hive_edit.proofs.SteppedLemmas.{IsStepMade, stepped}
use Rattle.hive_edit.proofs.GoneLemmas.{is_held, and_some, at_place, ListFacts, list_facts}
use Rattle.hive_look.proofs.DataLemmas.{segments_used}
use Rattle.hive_edit.proofs.KeyLemmas.{node_read}
use Rattle.hive_edit.specs.Freed.{FreesValue}
use Rattle.hive_edit.proofs.GivenUpLemmas.{dropped_free, dropped_there}
use Rattle.hive_edit.proofs.SecuredLemmas.{none_counted, delete_counts_none}
use Rattle.key_index.proofs.Tests.{value_of, is_ok_of}

-- ---- the cells of a value's data

same_data : (cells : Cells) (k : KeyValue)
    → (data_cells cells k.size k.offset ≡ used_in (data_checks cells k))
    × (data_of cells (with_data k.size k.offset) ≡ data_of cells k)
unfolding data_cells data_checks data_of
same_data cells k = (refl, refl)

-- where the data of a value are, by its payload
pub record DataHere (cells : Cells) (at size place : ℕ) : Type 0 where
  pub reads : HasData cells size place
  pub cells_are : used_in (value_checks cells [] at) ≡ at ∷ data_cells cells size place

pub data_here : (cells : Cells) (at : ℕ) (p : List ℕ) (size place : ℕ) → IsItemHere cells at → p ≡ payload_in cells at
    → size ≡ u32_in p 4 → place ≡ u32_in p 8
    → DataHere cells at size place
data_here cells at p size place h e s o =
    let f = item_facts cells at h in
    let a : f.value.size ≡ size =
    ap (λ (k : KeyValue). k.size) f.facts.is ∙ ap (λ (q : List ℕ). u32_in q 4) (sym e) ∙ sym s in
    let b : f.value.offset ≡ place =
    ap (λ (k : KeyValue). k.offset) f.facts.is ∙ ap (λ (q : List ℕ). u32_in q 8) (sym e) ∙ sym o in
    let d = same_data cells f.value in
    let moved : data_of cells (with_data f.value.size f.value.offset) ≡ data_of cells (with_data size place) =
    λ i. data_of cells (with_data (a i) (b i)) in
    let there : at ∷ data_cells cells f.value.size f.value.offset ≡ at ∷ data_cells cells size place =
    λ i. at ∷ data_cells cells (a i) (b i) in
    record {
      reads = is_ok_of (data_of cells (with_data size place)) f.item.bytes (sym moved ∙ d.1 ∙ f.bytes);
      cells_are = value_uses cells at f.value f.read ∙ ap (λ (l : List ℕ). at ∷ l) (sym d.0) ∙ there;
    }

nothing_inside : (size place : ℕ) → size < 2147483648 → (size ≡ 0 → ⊥) → data_inside (with_data size place) ≡ None
nothing_inside size place small some_bytes =
    let t : is_in_place size ≡ false = grind (arith, nat_tests) in
    let u : (size == 0) ≡ false = ne_eqb size 0 some_bytes in
    λ i. cond (t i) (Some (take (size - 2147483648) (to_le_bytes w32 place))) (cond (u i) (Some []) None)

-- data that the value holds itself have no cell
pub none_apart : (cells : Cells) (size place : ℕ) → (2147483648 ≤ size) ⊎ (size ≡ 0) → data_cells cells size place ≡ []
unfolding data_cells
none_apart cells size place (inl large) =
    let t : is_in_place size ≡ true = grind (arith, nat_tests) in
    (data_held_inside cells (with_data size place) (take (size - 2147483648) (to_le_bytes w32 place))
    (ap (λ (b : Bool). cond b (Some (take (size - 2147483648) (to_le_bytes w32 place)))
    (cond (size == 0) (Some []) None)) t)).0
none_apart cells size place (inr none) =
    subst (λ (n : ℕ). used_in (data_checks cells (with_data n place)) ≡ []) (sym none)
    (data_held_inside cells (with_data 0 place) [] refl).0

-- data in one cell
pub one_apart : (cells : Cells) (size place : ℕ) → size < 2147483648 → (size ≡ 0 → ⊥)
    → is_big cells.version size ≡ false → data_cells cells size place ≡ place ∷ []
unfolding data_cells
one_apart cells size place small some_bytes big =
    (data_in_cell cells (with_data size place) (nothing_inside size place small some_bytes) big).0

big_form_of : (n : ℕ) (p : List ℕ) (big : BigData) → big_data_of n p ≡ done big → big_data_at p ≡ done big
unfolding big_data_of
big_form_of n p big e =
    let r = then-so (big_data_at p) (λ (b : BigData). cond (b.segments == segment_count n) (Ok b) (Err FormLength))
    big e in
    let t = only_if (r.0.segments == segment_count n) FormLength (Ok r.0) big r.2 in
    r.1 ∙ ap done (ok_same r.0 big t.1)

-- big data, by their cells
pub record BigHere (version : HiveVersion) (bins : List Bin) (size place : ℕ) : Type 0 where
  pub list : ℕ
  pub offsets : List ℕ
  pub segments : HasSegments bins place list offsets
  pub cells_are : data_cells (look_up version bins) size place ≡ place ∷ list ∷ offsets

pub held_offsets : (version : HiveVersion) (bins : List Bin) (count at : ℕ) (offsets : List ℕ)
    → reading (offsets_in count) (look_up version bins) at ≡ done offsets → HasOffsets bins at count offsets
held_offsets version bins count at offsets e =
    let p = then-so ((look_up version bins).payload at) (offsets_in count) offsets e in
    record { text = p.0; there = payload_held bins at p.0 p.1; read = p.2 }

pub big_here : (version : HiveVersion) (bins : List Bin) (size place : ℕ) → size < 2147483648 → (size ≡ 0 → ⊥)
    → is_big version size ≡ true
    → HasData (look_up version bins) size place → BigHere version bins size place
unfolding data_cells big_bytes_at big_checks
big_here version bins size place small some_bytes big h =
    let cells = look_up version bins in
    let d = data_in_segments cells (with_data size place) (nothing_inside size place small some_bytes) big in
    let v = value_of (data_of cells (with_data size place)) h in
    let form = then-so (reading (big_data_of size) cells place)
    (λ b. reading (offsets_in b.segments) cells b.list >>= joined_segments cells size) v.0 (sym d.1 ∙ v.1) in
    let list = then-so (reading (offsets_in form.0.segments) cells form.0.list) (joined_segments cells size)
    v.0 form.2 in
    let p = then-so (cells.payload place) (big_data_of size) form.0 form.1 in
    record {
      list = form.0.list;
      offsets = list.0;
      segments = record {
        text = p.0;
        big = form.0;
        there = payload_held bins place p.0 p.1;
        read = big_form_of size p.0 form.0 p.2;
        place = refl;
        listed = held_offsets version bins form.0.segments form.0.list list.0 list.1;
      };
      cells_are = d.0
          ∙ ap (λ (r : Result BigData HiveFaultKind). place
          ∷ used_in (below_of r (λ b. use_as false (offsets_in b.segments) cells b.list
          ++ below_of (reading (offsets_in b.segments) cells b.list) (segments_checks cells size)))) form.1
          ∙ ap (λ (r : Result (List ℕ) HiveFaultKind). place ∷ form.0.list
          ∷ used_in (below_of r (segments_checks cells size))) list.1
          ∙ ap (λ (l : List ℕ). place ∷ form.0.list ∷ l) (segments_used cells size list.0);
    }

-- ---- a value of a key

pairwise_one : (R : ℕ → ℕ → Type 0) (f : ℕ → List ℕ) (front back : List ℕ) (v : ℕ)
    → Pairwise R (flat_map f (front ++ (v ∷ back))) → Pairwise R (f v)
pairwise_one R f [] back v h = (pairwise_parts R (f v) (flat_map f back) h).left
pairwise_one R f (w ∷ front) back v h =
    pairwise_one R f front back v (pairwise_parts R (f w) (flat_map f (front ++ (v ∷ back))) h).right

in_middle : (front back : List ℕ) (v : ℕ) → In (front ++ (v ∷ back)) v
in_middle front back v = in_right front (v ∷ back) v (inl refl)

item_is_there : (cells : Cells) (name : List ℕ) (v : ℕ) (o : Option Item) → IsItemAt cells (Some v) o
    → IsItemHere cells v
item_is_there cells name v None h = absurd h
item_is_there cells name v (Some item) h = is_ok_of (item_at cells v) item h

-- a value that is there by its name can be taken out
pub can_take : (version : HiveVersion) (bins : List Bin) (root : ℕ) (t : Tree) (path : List (List ℕ)) (name : List ℕ)
    (x v : ℕ) → IsWellFormed (look_up version bins) root t
    → key_place (look_up version bins) path root ≡ some x → value_place (look_up version bins) name x ≡ some v
    → CanTake (look_up version bins) bins x v
can_take version bins root t path name x v well k e =
    let b = look_up version bins in
    let placed = placed_at b path root x k in
    let there = key_there b path root t x well k in
    let node = node_read b x there.there there.well.stands in
    let among = found_among (is_value_named b name) (value_places b x) v e in
    let l = listed_values b x node.0 among.front among.back v node.1 among.whole in
    let apart = values_apart b root t placed.stored x well placed.reached in
    let places : owned_places b x ≡ among.front ++ (v ∷ among.back) = places_same b x ∙ among.whole in
    let f : ℕ → List ℕ = λ w. used_in (value_checks b [] w) in
    let mine : (o : ℕ) → In (f v) o → In (cells_of_values b (owned_places b x)) o =
    λ o i. subst (λ (os : List ℕ). In (cells_of_values b os) o) (sym places)
    (in_flat_from f (among.front ++ (v ∷ among.back)) o v (in_middle among.front among.back v) i) in
    let parts = pairwise_parts (λ p q. p ≡ q → ⊥) (value_list_at b x) (cells_of_values b (owned_places b x))
    apart.once in
    let of_list : In (value_list_at b x) node.0.value_list =
    subst (λ (os : List ℕ). In os node.0.value_list) (sym l.list) (inl refl) in
    let own : (o : ℕ) → In (node.0.value_list ∷ f v) o → In (all_value_cells b x) o =
    λ o i. ⊎_elim (λ (s : node.0.value_list ≡ o). subst (In (all_value_cells b x)) s
    (in_left (value_list_at b x) (cells_of_values b (owned_places b x)) node.0.value_list of_list))
    (λ (j : In (f v) o). in_right (value_list_at b x) (cells_of_values b (owned_places b x)) o (mine o j)) i in
    record {
      node = node.0;
      offsets = among.front ++ (v ∷ among.back);
      read = node.1;
      places = places;
      list = of_list;
      listed = held_offsets version bins node.0.value_count node.0.value_list (among.front ++ (v ∷ among.back))
          l.offsets;
      among = in_middle among.front among.back v;
      item = item_is_there b name v (find_item name there.there)
          (subst (λ (o : Option ℕ). IsItemAt b o (find_item name there.there)) e
          (place_of_item b name x there.there there.well));
      can = record {
        held = λ o i. let p = values_held b root t placed.stored x o well placed.reached (own o i) in
            is_held (held_at bins o) p.0 (payload_held bins o p.0 p.1);
        apart = (
          λ o i s. parts.across node.0.value_list o of_list (mine o i) s,
          pairwise_one (λ p q. p ≡ q → ⊥) f among.front among.back v
              (subst (λ (os : List ℕ). Pairwise (λ p q. p ≡ q → ⊥) (cells_of_values b os)) places parts.right),
        );
      };
      node_apart = λ o i. apart.node o (own o i);
    }

-- its node counts it
pub can_count : (cells : Cells) (bins : List Bin) (x v : ℕ) (t : CanTake cells bins x v) → 1 ≤ t.node.value_count
can_count cells bins x v t =
    let f = list_facts bins t.node.value_list t.node.value_count t.offsets t.listed in
    let k = at_place t.offsets v t.among in
    let l = k.1 in omega (arith, l, f.number)

-- the numbers of a node
pub node_numbers : (cells : Cells) (at : ℕ) (p : List ℕ) (n : KeyNode) → reading key_node_at cells at ≡ done n
    → p ≡ payload_in cells at
    → (76 ≤ length p) × (n.value_count ≡ u32_in p 36) × (n.value_list ≡ u32_in p 40)
node_numbers cells at p n r e =
    let t = node_text p n (ap key_node_at e ∙ in_payload key_node_at cells at n r) in (
      (let l = t.long in omega (arith, l)),
      ap (λ (m : KeyNode). m.value_count) t.fields,
      ap (λ (m : KeyNode). m.value_list) t.fields,
    )

-- when the value's cells are gone, its key's list and node are as they were
pub list_after : (cells : Cells) (old mid : List Bin) (x v : ℕ) (t : CanTake cells old x v)
    → AreGone (used_in (value_checks cells [] v)) old mid
    → HasOffsets mid t.node.value_list t.node.value_count t.offsets
list_after cells old mid x v t g = record {
  text = t.listed.text;
  there = g.others t.node.value_list (λ i. t.can.apart.0 t.node.value_list i refl) ∙ t.listed.there;
  read = t.listed.read;
}

pub node_after : (version : HiveVersion) (old m1 m2 : List Bin) (x v now : ℕ)
    (t : CanTake (look_up version old) old x v) → AreGone (used_in (value_checks (look_up version old) [] v)) old m1
    → Unlists m1 m2 t.node.value_list now t.offsets v
    → (p : List ℕ) × (held_at m2 x ≡ Some p) × (key_node_at p ≡ done t.node)
node_after version old m1 m2 x v now t g u =
    let p = then-so ((look_up version old).payload x) key_node_at t.node t.read in (
      p.0,
      u.others x (λ e. t.node_apart t.node.value_list (inl refl) (sym e))
          ∙ g.others x (λ i. t.node_apart x (inr i) refl) ∙ payload_held old x p.0 p.1,
      p.2,
    )

pub node_room : (version : HiveVersion) (old m1 m2 : List Bin) (x v now n : ℕ)
    (t : CanTake (look_up version old) old x v) → AreGone (used_in (value_checks (look_up version old) [] v)) old m1
    → Unlists m1 m2 t.node.value_list now t.offsets v → n ≡ 8 → IsSomeAnd (held_at m2 x) (λ p. 36 + n ≤ length p)
node_room version old m1 m2 x v now n t g u e =
    let p = node_after version old m1 m2 x v now t g u in
    let long = (node_text p.0 t.node p.2).long in
    and_some (held_at m2 x) (λ p. 36 + n ≤ length p) p.0 p.1 (omega (arith, long, e))

pub takes_out : (version : HiveVersion) (old m1 m2 new : List Bin) (x v count now : ℕ) (fields : List ℕ)
    (t : CanTake (look_up version old) old x v)
    → AreGone (used_in (value_checks (look_up version old) [] v)) old m1
    → Unlists m1 m2 t.node.value_list now t.offsets v → count ≡ t.node.value_count
    → count < 2 ^ 32 → now < 2 ^ 32 → fields ≡ two_numbers (count - 1) now
    → held_at new x ≡ option_map (patched 36 fields) (held_at m2 x)
    → ((o : ℕ) → (o ≡ x → ⊥) → held_at new o ≡ held_at m2 o) → bins_size new ≡ bins_size m2
    → TakesOut version old new x v
takes_out version old m1 m2 new x v count now fields t g u c small fits is here others long = record {
  node = t.node;
  front = u.front;
  back = u.back;
  text = patched 36 fields p.0;
  list = now;
  read = t.read;
  places = t.places ∙ u.whole;
  takes = record {
    version = refl;
    there = held_payload new x (patched 36 fields p.0) (here ∙ ap (option_map (patched 36 fields)) p.1);
    node = subst (λ (fs : List ℕ). HasNewValues (with_part 36 fs p.0) t.node (length (u.front ++ u.back)) now) (sym is)
        (subst (λ (n : ℕ). HasNewValues (with_part 36 (two_numbers (count - 1) now) p.0) t.node n now) fewer
        (values_written p.0 t.node (count - 1) now p.2 (omega (arith, small)) fits));
    lists = λ w os e. read_list (λ z. absurd (let d : w ∷ os ≡ [] = sym e ∙ z in cc));
    from = λ n. inl (subst (In (value_list_at (look_up version old) x)) (sym (u.stays n)) t.list);
    others = λ o r e no_node no_list no_value. held_payload new o r
        (others o no_node ∙ u.others o
        (λ s. no_list (subst (In (value_list_at (look_up version old) x)) (sym s) t.list)) ∙ g.others o no_value
        ∙ payload_held old o r e);
  };
  freed = λ o i. others o (t.node_apart o (inr i)) ∙ u.others o (λ e. t.can.apart.0 o i (sym e)) ∙ g.freed o i;
  unlisted = λ none o i. subst (λ (k : ℕ). held_at new k ≡ None)
      (one_list_at (look_up version old) x t.node t.read o i)
      (others t.node.value_list (t.node_apart t.node.value_list (inl refl)) ∙ u.gone none);
  long = long ∙ u.long ∙ g.long;
}
  where
    p : (p : List ℕ) × (held_at m2 x ≡ Some p) × (key_node_at p ≡ done t.node)
    p = node_after version old m1 m2 x v now t g u

    f : ListFacts old t.node.value_list t.node.value_count t.offsets t.listed.text
    f = list_facts old t.node.value_list t.node.value_count t.offsets t.listed

    parts : (front back : List ℕ) → length (front ++ (v ∷ back)) ≡ suc (length (front ++ back))
    parts [] back = omega arith
    parts (y ∷ front) back = let d = parts front back in omega (arith, d)

    fewer : count - 1 ≡ length (u.front ++ u.back)
    fewer = let a = f.number in let b : length t.offsets ≡ suc (length (u.front ++ u.back)) =
        ap length u.whole ∙ parts u.front u.back in omega (arith, a, b, c)

    read_list : (u.front ++ u.back ≡ [] → ⊥)
        → reading (offsets_in (length (u.front ++ u.back))) (look_up version new) now ≡ done (u.front ++ u.back)
    read_list n =
        let l = u.lists n in
        let kept : held_at new t.node.value_list ≡ Some l.text =
        others t.node.value_list (t.node_apart t.node.value_list (inl refl)) ∙ l.there in
        ap (λ (o : ℕ). reading (offsets_in (length (u.front ++ u.back))) (look_up version new) o) (u.stays n)
        ∙ ap (λ (r : Result (List ℕ) HiveFaultKind). r >>= offsets_in (length (u.front ++ u.back)))
        (held_payload new t.node.value_list l.text kept) ∙ l.read

-- ---- the edit

made : (path : List (List ℕ)) (name : List ℕ) (t : Tree) → is_none (find_key path t) ≡ false
    → not (has_item path name t) ≡ false
    → value_deleted path name t ≡ Ok (unset_tree path name t)
made path name t a b = λ i. unless ((a i, no_key) ∷ (b i, no_value) ∷ []) (unset_tree path name t)

-- a value that is there is deleted
pub unset_there : (t k : Tree) (path : List (List ℕ)) (name : List ℕ) (item : Item) → find_key path t ≡ Some k
    → find_item name k ≡ Some item
    → after_step (delete_value path name) t ≡ Ok (unset_tree path name t)
unset_there t k path name item found there =
    let has : has_item path name t ≡ true =
    ap (λ (o : Option Tree). option_map_or (λ k. is_some (find_item name k)) o false) found ∙ ap is_some there in
    made path name t (ap is_none found) (ap not has)

abbrev refused : Refusal → Result Tree Refusal
refused why = Err why

pub no_key_there : (t : Tree) (path : List (List ℕ)) (name : List ℕ) → find_key path t ≡ None
    → after_step (delete_value path name) t ≡ refused no_key
no_key_there t path name none =
    ap (λ (b : Bool). cond b (refused no_key)
    (unless ((not (has_item path name t), no_value) ∷ []) (unset_tree path name t))) (ap is_none none)

pub no_value_there : (t k : Tree) (path : List (List ℕ)) (name : List ℕ) → find_key path t ≡ Some k
    → find_item name k ≡ None
    → after_step (delete_value path name) t ≡ refused no_value
no_value_there t k path name found none =
    let has : has_item path name t ≡ false =
    ap (λ (o : Option Tree). option_map_or (λ k. is_some (find_item name k)) o false) found ∙ ap is_some none in
    let key : is_none (find_key path t) ≡ false = ap is_none found in
    (λ i. unless ((key i, no_key) ∷ (not (has i), no_value) ∷ []) (unset_tree path name t))

-- ---- the bulk

pub sized : (version : HiveVersion) (vs : List Item)
    → items_size version vs ≡ list_room (length vs) + items_sum version vs
sized version [] = refl
sized version (v ∷ vs) =
    ap (λ (b : Bool). cond b 0 (cell (4 * length (v ∷ vs))) + items_sum version (v ∷ vs))
    (sym (ne_eqb (length (v ∷ vs)) 0 (λ e. omega (arith, e))))

length_less : (p : Item → Bool) (vs : List Item) (v : Item) → find p vs ≡ Some v
    → suc (length (without_first p vs)) ≡ length vs
length_less p [] v e = absurd cc
length_less p (w ∷ vs) v e = go (p w) e (λ d. length_less p vs v d)
  where
    go : (b : Bool) → cond b (Some w) (find p vs) ≡ Some v
        → (find p vs ≡ Some v → suc (length (without_first p vs)) ≡ length vs)
        → suc (length (cond b vs (w ∷ without_first p vs))) ≡ length (w ∷ vs)
    go true e deep = omega arith
    go false e deep = let d = deep e in omega (arith, d)

sum_up : (s u a b r q own x y : ℕ) → u + a ≡ s + b → y + own ≡ x → a ≡ r + x → b ≡ q + y → u + (r + own) ≡ s + q
sum_up s u a b r q own x y e f g h = omega (arith, e, f, g, h)

-- by how much the size of the tree is less
size_less : (version : HiveVersion) (t k : Tree) (path : List (List ℕ)) (name : List ℕ) (item : Item)
    → find_key path t ≡ Some k → find_item name k ≡ Some item
    → size version [] (unset_tree path name t) + (list_room (length (head k).values) + item_size version item)
    ≡ size version [] t + list_room (length (head k).values - 1)
size_less version t k path name item found there =
    let vs = (head k).values in
    let ws = without_first (is_item name) vs in
    let fewer : length ws ≡ length vs - 1 = (let d = length_less (is_item name) vs item there in omega (arith, d)) in
    sum_up (size version [] t) (size version [] (unset_tree path name t)) (items_size version vs)
    (items_size version ws) (list_room (length vs)) (list_room (length vs - 1))
    (item_size version item) (items_sum version vs) (items_sum version ws)
    (revalued_size version [] path t k (without_first (is_item name)) found)
    (deleted_sum version (is_item name) vs item there) (sized version vs)
    (sized version ws ∙ ap (λ (n : ℕ). list_room n + items_sum version ws) fewer)

below : (x y p q : ℕ) → x ≡ p → y ≡ q → p ≤ q → x ≤ y
below x y p q a b l = omega (arith, a, b, l)

list_room_some : (n : ℕ) → list_room (suc n) ≡ cell (4 * suc n)
list_room_some n = ap (λ (b : Bool). cond b 0 (cell (4 * suc n))) (ne_eqb (suc n) 0 (λ e. omega (arith, e)))

pub room_less : (n : ℕ) → list_room (n - 1) ≤ list_room n
room_less zero = below (list_room (0 - 1)) (list_room 0) 0 0 refl refl (omega arith)
room_less (suc zero) = below (list_room (1 - 1)) (list_room 1) 0 (cell (4 * 1)) refl (list_room_some 0) (omega arith)
room_less (suc (suc n)) =
    let one : suc (suc n) - 1 ≡ suc n = omega arith in
    below (list_room (suc (suc n) - 1)) (list_room (suc (suc n))) (cell (4 * suc n)) (cell (4 * suc (suc n)))
    (ap list_room one ∙ list_room_some n) (list_room_some (suc n)) (omega arith)

-- ---- the hive

-- the key and the value in the tree
record NamedThere (b : Cells) (root : ℕ) (t : Tree) (path : List (List ℕ)) (name : List ℕ) (x v : ℕ) : Type 0 where
  key : Tree
  found : find_key path t ≡ Some key
  well : IsWellFormed b x key
  item : Item
  named : find_item name key ≡ Some item
  stands : item_at b v ≡ done item

named_there : (b : Cells) (root : ℕ) (t : Tree) (path : List (List ℕ)) (name : List ℕ) (x v : ℕ) → IsWellFormed b root t
    → key_place b path root ≡ some x
    → value_place b name x ≡ some v → NamedThere b root t path name x v
named_there b root t path name x v well k e =
    let there = key_there b path root t x well k in
    go there (find_item name there.there) refl
    (subst (λ (o : Option ℕ). IsItemAt b o (find_item name there.there)) e
    (place_of_item b name x there.there there.well))
  where
    go : (there : KeyThere b path t x) → (o : Option Item) → find_item name there.there ≡ o → IsItemAt b (Some v) o
        → NamedThere b root t path name x v
    go there None f h = absurd h
    go there (Some item) f h =
        record { key = there.there; found = there.found; well = there.well; item = item; named = f; stands = h }

-- no value of the name in the cells is none in the tree
pub none_named : (b : Cells) (name : List ℕ) (x : ℕ) (k : Tree) → IsWellFormed b x k → value_place b name x ≡ None
    → find_item name k ≡ None
none_named b name x k well e =
    go (find_item name k) (subst (λ (o : Option ℕ). IsItemAt b o (find_item name k)) e (place_of_item b name x k well))
  where
    go : (o : Option Item) → IsItemAt b None o → o ≡ None
    go None h = refl
    go (Some item) h = absurd h

abbrev nowhere : Option ℕ
nowhere = None

pub hive_no_key : (bins : Opened) (heap : List Bin) (root : ℕ) (version : HiveVersion) (bulk : ℕ) (h : HiveCells)
    (path : List (List ℕ)) (name : List ℕ) → IsHive bins.bins root version bulk
    → heap ≡ bins.bins → hive_of bins root version ≡ h → nowhere ≡ key_place (look_up version heap) path root
    → after_step (delete_value path name) h.tree ≡ refused no_key
hive_no_key bins heap root version bulk h path name is e view none =
    subst (λ (g : HiveCells). after_step (delete_value path name) g.tree ≡ refused no_key) view
    (let b = look_up version bins.bins in
    let here : key_place b path root ≡ nowhere =
    sym (none ∙ ap (λ (bs : List Bin). key_place (look_up version bs) path root) e) in
    no_key_there (tree_of b root) path name (no_place b path root (tree_of b root) is.stands here))

pub hive_no_value : (bins : Opened) (heap : List Bin) (root : ℕ) (version : HiveVersion) (bulk : ℕ) (h : HiveCells)
    (path : List (List ℕ)) (name : List ℕ) (x : ℕ) → IsHive bins.bins root version bulk
    → heap ≡ bins.bins → hive_of bins root version ≡ h → some x ≡ key_place (look_up version heap) path root
    → nowhere ≡ value_place (look_up version heap) name x
    → after_step (delete_value path name) h.tree ≡ refused no_value
hive_no_value bins heap root version bulk h path name x is e view k none =
    subst (λ (g : HiveCells). after_step (delete_value path name) g.tree ≡ refused no_value) view
    (let b = look_up version bins.bins in
    let here : key_place b path root ≡ some x =
    sym (k ∙ ap (λ (bs : List Bin). key_place (look_up version bs) path root) e) in
    let gone : value_place b name x ≡ nowhere =
    sym (none ∙ ap (λ (bs : List Bin). value_place (look_up version bs) name x) e) in
    let there = key_there b path root (tree_of b root) x is.stands here in
    no_value_there (tree_of b root) there.there path name there.found (none_named b name x there.there there.well gone))

-- where they are in the cells that the hive is made of
record IsNamed (bins : List Bin) (root : ℕ) (version : HiveVersion) (path : List (List ℕ)) (name : List ℕ)
    (x v : ℕ) : Type 0 where
  key : key_place (look_up version bins) path root ≡ some x
  value : value_place (look_up version bins) name x ≡ some v

is_named : (bins : Opened) (root : ℕ) (version : HiveVersion) (h : HiveCells) (path : List (List ℕ)) (name : List ℕ)
    (x v : ℕ) → hive_of bins root version ≡ h
    → key_place (cells_in h) path h.root ≡ some x → value_place (cells_in h) name x ≡ some v
    → IsNamed bins.bins root version path name x v
is_named bins root version h path name x v view k e = record {
  key = subst (λ (g : HiveCells). key_place (cells_in g) path g.root ≡ some x) (sym view) k;
  value = subst (λ (g : HiveCells). value_place (cells_in g) name x ≡ some v) (sym view) e;
}

-- a value of the hive can be taken out
pub hive_can_take : (bins : Opened) (root : ℕ) (version : HiveVersion) (bulk : ℕ) (h : HiveCells)
    (path : List (List ℕ)) (name : List ℕ) (x v : ℕ) → IsHive bins.bins root version bulk
    → hive_of bins root version ≡ h → key_place (cells_in h) path h.root ≡ some x
    → value_place (cells_in h) name x ≡ some v → CanTake (look_up version bins.bins) bins.bins x v
hive_can_take bins root version bulk h path name x v is view k e =
    let n = is_named bins root version h path name x v view k e in
    can_take version bins.bins root (tree_of (look_up version bins.bins) root) path name x v is.stands n.key n.value

-- the bulk without it
pub hive_bulk : (bins : Opened) (heap : List Bin) (root : ℕ) (version : HiveVersion) (bulk : ℕ) (h : HiveCells)
    (path : List (List ℕ)) (name : List ℕ) (x v count own less : ℕ)
    → IsHive bins.bins root version bulk → hive_of bins root version ≡ h → heap ≡ bins.bins → bins_size bins.bins ≤ 16777216
    → key_place (cells_in h) path h.root ≡ some x → value_place (cells_in h) name x ≡ some v
    → ((n : KeyNode) → reading key_node_at (look_up version bins.bins) x ≡ done n → count ≡ n.value_count)
    → ((i : Item) → item_at (look_up version heap) v ≡ done i → own ≡ item_size version i)
    → less ≡ own + list_room count - list_room (count - 1)
    → (less ≤ bulk) × (bulk - less ≡ bulk_of h.version (unset_tree path name h.tree))
hive_bulk bins heap root version bulk h path name x v count own less is view same fit k e counts sizes l =
    let b = look_up version bins.bins in
    let t = tree_of b root in
    let n = is_named bins root version h path name x v view k e in
    let c = can_take version bins.bins root t path name x v is.stands n.key n.value in
    let f = list_facts bins.bins c.node.value_list c.node.value_count c.offsets c.listed in
    let there = named_there b root t path name x v is.stands n.key n.value in
    let many : length c.offsets ≡ length (head there.key).values =
    items_length b c.offsets (head there.key).values
    (subst (λ (os : List ℕ). items_at b os ≡ done (head there.key).values) (sym (places_same b x) ∙ c.places)
    (items_stand b x there.key there.well)) in
    let counted : count ≡ length (head there.key).values =
    counts c.node c.read ∙ sym f.number ∙ many in
    let owned : own ≡ item_size version there.item =
    sizes there.item (subst (λ (bs : List Bin). item_at (look_up version bs) v ≡ done there.item) (sym same)
    there.stands) in
    let vs = (head there.key).values in
    let w = unset_tree path name t in
    let s : size version [] w + (list_room count + own) ≡ size version [] t + list_room (count - 1) =
    subst (λ (m : ℕ). size version [] w + (list_room m + own) ≡ size version [] t + list_room (m - 1)) (sym counted)
    (subst (λ (z : ℕ). size version [] w + (list_room (length vs) + z) ≡ size version [] t + list_room (length vs - 1))
    (sym owned)
    (size_less version t there.key path name there.item there.found there.named)) in
    let d = sum bulk (size version [] t) (size version [] w) (list_room count) (list_room (count - 1)) own less
    (bulk_is bins.bins root version bulk is fit).exact
    (bulk_is bins.bins root version bulk is fit).low s (room_less count) l in
    (d.0, subst (λ (g : HiveCells). bulk - less ≡ bulk_of g.version (unset_tree path name g.tree)) view d.1)
  where
    sum : (n s u r q o l : ℕ) → n ≡ 32 + s → n ≤ 576460752303423488 → u + (r + o) ≡ s + q → q ≤ r → l ≡ o + r - q
        → (l ≤ n) × (n - l ≡ min (32 + u) 18446744073709551615)
    sum n s u r q o l a b e le is = (omega (arith, a, e, le, is), omega (arith, a, b, e, le, is))

-- the step is made
pub hive_unset : (bins : Opened) (root : ℕ) (version : HiveVersion) (bulk : ℕ) (h : HiveCells) (path : List (List ℕ))
    (name : List ℕ) (x v : ℕ) → IsHive bins.bins root version bulk
    → hive_of bins root version ≡ h → key_place (cells_in h) path h.root ≡ some x
    → value_place (cells_in h) name x ≡ some v
    → after_step (delete_value path name) h.tree ≡ the_tree (unset_tree path name h.tree)
hive_unset bins root version bulk h path name x v is view k e =
    let n = is_named bins root version h path name x v view k e in
    let t = tree_of (look_up version bins.bins) root in
    let there = named_there (look_up version bins.bins) root t path name x v is.stands n.key n.value in
    subst (λ (g : HiveCells). after_step (delete_value path name) g.tree ≡ the_tree (unset_tree path name g.tree)) view
    (unset_there t there.key path name there.item there.found there.named)

name_there : (cells : Cells) (v : ℕ) (h : IsItemHere cells v) → (k : KeyValue) × (reading key_value_at cells v ≡ done k)
name_there cells v h = let f = item_facts cells v h in (f.value, f.read)

-- where the value was taken out
pub is_unset : (old new : Opened) (root : ℕ) (version : HiveVersion) (bulk after : ℕ) (h : HiveCells)
    (path : List (List ℕ)) (name : List ℕ) (x v : ℕ) → IsHive old.bins root version bulk
    → hive_of old root version ≡ h → key_place (cells_in h) path h.root ≡ some x
    → value_place (cells_in h) name x ≡ some v → TakesOut version old.bins new.bins x v
    → IsBytes (spelled 0 new.bins) → after ≡ bulk_of h.version (unset_tree path name h.tree)
    → IsStepMade h new root version after (delete_value path name)
is_unset old new root version bulk after h path name x v is view k e taken bytes counted =
    let n = is_named old root version h path name x v view k e in
    let b = look_up version old.bins in
    let c = look_up version new.bins in
    let t = tree_of b root in
    let u = unset_tree path name t in
    let there = named_there b root t path name x v is.stands n.key n.value in
    let d = unset_there t there.key path name there.item there.found there.named in
    let told : after ≡ bulk_of version u =
    subst (λ (g : HiveCells). after ≡ bulk_of g.version (unset_tree path name g.tree)) (sym view) counted in
    let among = found_among (is_value_named b name) (value_places b x) v n.value in
    let value = name_there b v (is_ok_of (item_at b v) there.item there.stands) in
    let named = ap (folds_same name) (name_of_value b v value.0 value.1)
    ∙ named_folds b name v value.0 value.1 among.passes in
    let made = value_taken b c root t u path name x taken.node is.stands n.key taken.read taken.front taken.back v
    taken.text taken.list d taken.places named taken.takes in
    let long = taken.long in
    stepped old new root version bulk after h u (delete_value path name) is view d made bytes told (omega (arith, long))
    (omega (arith, long))
    (none_counted b c root t u (delete_value path name) is.stands made (delete_counts_none t path name))
    (λ key among. absurd among)
    (λ o given. dropped_free b new.bins x v taken.front taken.back taken.places taken.freed taken.unlisted o
    (subst (λ (l : List ℕ). In l o) (dropped_there b path name root x v n.key n.value) given))
    (λ run j. absurd j)

-- its cells are free
pub frees_value : (old new : Opened) (root : ℕ) (version : HiveVersion) (h : HiveCells) (path : List (List ℕ))
    (name : List ℕ) (x v : ℕ) → hive_of old root version ≡ h → key_place (cells_in h) path h.root ≡ some x
    → value_place (cells_in h) name x ≡ some v → TakesOut version old.bins new.bins x v
    → FreesValue h path name (hive_of new root version)
frees_value old new root version h path name x v view at place t = record {
  key = x;
  value = v;
  at = at;
  place = place;
  freed = λ o i. t.freed o (subst (λ (g : HiveCells). In (used_in (value_checks (cells_in g) [] v)) o) (sym view) i);
  list = λ only o i. t.unlisted
      (alone t.front t.back (sym t.places
      ∙ subst (λ (g : HiveCells). owned_places (cells_in g) x ≡ v ∷ []) (sym view) only))
      o (subst (λ (g : HiveCells). In (value_list_at (cells_in g) x) o) (sym view) i);
}
  where
    alone : (front back : List ℕ) → front ++ (v ∷ back) ≡ v ∷ [] → front ++ back ≡ []
    alone [] back e = cc
    alone (y ∷ []) back e = absurd cc
    alone (y ∷ z ∷ front) back e = absurd cc
