-- A value of a new name in the cells of its key: what was put, written and freed, and what is read then.
use Rattle.std.proofs.Common.{◌≡◌, ◌≤◌, ◌<◌, ◌^◌, inl, inr, ℕ, suc, ◌+◌, ◌-◌, Bool, true, false, cond, List, [], ◌∷◌, ◌++◌, length, map, take, Option, Some, None, Ok, refl, sym, ap, subst, ◌∙◌, arith}
use lib.ListN.{replicate}
use Rattle.std.specs.Prelude.{nat_lt, nat_le, ◌==◌}
use Rattle.std.specs.Option.{IsSome, IsSomeAnd, option_map}
use Rattle.std.specs.Int.{w32, from_le_bytes, to_le_bytes}
use Rattle.std.proofs.lemmas.Bool.{le-leb, ltb-true}
use Rattle.nt_bytes.specs.declared.version.HiveVersion.{HiveVersion}
use Rattle.hive_model.specs.Bins.{Bin, Cell, Cells, bins_size, look_up, or_else}
use Rattle.hive_model.specs.KeyNode.{KeyNode, key_node_at}
use Rattle.hive_model.specs.KeyValue.{KeyValue}
use Rattle.hive_model.specs.Lists.{AreOffsets, offsets_in, offsets_text}
use Rattle.hive_model.specs.Size.{is_narrow, data_size, item_size}
use Rattle.hive_model.specs.Tree.{Item}
use Rattle.hive_model.specs.Valid.{IsItem}
use Rattle.hive_model.specs.Packed.{allocated_cell, data_place, item_form, data_cells, item_cells, text}
use Rattle.hive_model.specs.Walk.{reading, value_checks, data_checks}
use Rattle.hive_model.specs.Footprint.{used_in}
use Rattle.hive_model.proofs.Spelling.{offsets_again}
use Rattle.hive_cells.specs.Held.{held_at, held_among, patched, run_cells, IsRun}
use Rattle.hive_cells.proofs.MarkLemmas.{run_long}
use Rattle.hive_cells.proofs.HeldLemmas.{payload_held, held_payload}
use Rattle.hive_pack.specs.Numbers.{ItemNumbers}
use Rattle.hive_pack.proofs.Rows.{space, space_value}
use Rattle.hive_pack.proofs.Found.{Has, has_behind, has_front, reads_in}
use Rattle.hive_pack.proofs.Items.{item_read, data_has, item_stands}
use Rattle.key_index.proofs.Runs.{among_from, has_held, run_is, none_some}
use Rattle.edited_cells.specs.Owned.{In, value_list_at}
use Rattle.edited_cells.specs.Framed.{IsUnheld}
use Rattle.edited_cells.specs.Pairs.{Pairwise}
use Rattle.edited_cells.specs.Written.{with_part, two_numbers, HasNewValues}
use Rattle.edited_cells.proofs.FromCells.{value_uses, data_held_inside}
use Rattle.edited_cells.proofs.Patches.{node_text, values_written}
use Rattle.hive_edit.specs.Given.{with_fields}
use Rattle.hive_edit.specs.NewValue.{added_cells, added_size, CanAdd, IsRelistedAt, LacksRoomForValue, ListsThese, PutsValue}
use Rattle.hive_cells.specs.Holes.{new_bin_size}
use Rattle.hive_edit.specs.Runs.{IsRunPutAt}
use Rattle.hive_edit.proofs.GivenUpLemmas.{list_free}
use Rattle.hive_edit.proofs.GiveLemmas.{data_run_stands}
use Rattle.hive_edit.proofs.GoneLemmas.{is_held, and_some}
use Rattle.hive_edit.proofs.NewRunLemmas.{more_fit, more_long, added_space}
use Rattle.hive_look.proofs.ResultLemmas.{done, some}
use Rattle.hive_pack.proofs.Whole.{used_size}
use Rattle.hive_read.proofs.FormFacts.{then-so}

-- ---- the value's cell, and those of its data

-- the cells that a value's data use, which stand after its own
record DataUsed (c : Cells) (at : ℕ) (v : Item) : Type 0 where
  cells : List ℕ
  used : used_in (data_checks c (item_form at v)) ≡ cells
  within : (o : ℕ) → In cells o → (data_place at v ≤ o) × (o < data_place at v + data_size c.version v.bytes)
  once : Pairwise (λ p q. p ≡ q → ⊥) cells

-- the fields of a value, by whether its data are in other cells
abbrev form_by : ℕ → Item → Bool → KeyValue
form_by at v apart = record {
  size = cond apart (length v.bytes) (2147483648 + length v.bytes);
  offset = cond apart (data_place at v) (from_le_bytes w32 (v.bytes ++ replicate (4 - length v.bytes) 0));
  kind = v.kind;
  flags = cond (is_narrow v.name) 1 0;
  name = v.name;
}

data_used : (c : Cells) (at : ℕ) (v : Item) → length v.bytes ≤ 1048576
    → data_place at v + data_size c.version v.bytes ≤ 16777216
    → Has c (data_place at v) (data_cells c.version (data_place at v) v.bytes) → DataUsed c at v
data_used c at v few room has = go (nat_lt 4 (length v.bytes)) refl
  where
    n : ℕ
    n = length v.bytes

    go : (b : Bool) → nat_lt 4 (length v.bytes) ≡ b → DataUsed c at v
    go true e =
        let run = data_run_stands c (data_place at v) v.bytes (ltb-true 4 n e) few room has in
        let form : with_fields (form_by at v true) n (data_place at v) v.kind ≡ item_form at v =
        ap (form_by at v) (sym e) in
        record {
          cells = run.cells;
          used = ap (λ (k : KeyValue). used_in (data_checks c k)) (sym form) ∙ run.used (form_by at v true) v.kind;
          within = run.within;
          once = run.once;
        }
    go false e =
        let own = from_le_bytes w32 (v.bytes ++ replicate (4 - n) 0) in
        let in_place : nat_le 2147483648 (2147483648 + n) ≡ true = le-leb 2147483648 (2147483648 + n) (omega arith) in
        let form : form_by at v false ≡ item_form at v = ap (form_by at v) (sym e) in
        let none : used_in (data_checks c (form_by at v false)) ≡ [] =
        (data_held_inside c (form_by at v false) (take (2147483648 + n - 2147483648) (to_le_bytes w32 own))
        (ap (λ (b : Bool). cond b (some (take (2147483648 + n - 2147483648) (to_le_bytes w32 own)))
        (cond (2147483648 + n == 0) (some []) None)) in_place)).0 in
        record {
          cells = [];
          used = ap (λ (k : KeyValue). used_in (data_checks c k)) (sym form) ∙ none;
          within = λ o i. absurd i;
          once = tt;
        }

-- what a value uses that is in a run before its list
record ValueUsed (c : Cells) (list w : ℕ) (v : Item) (high : ℕ) : Type 0 where
  within : (o : ℕ) → In (list ∷ used_in (value_checks c [] w)) o → (w ≤ o) × (o < high)
  once : Pairwise (λ p q. p ≡ q → ⊥) (list ∷ used_in (value_checks c [] w))

value_used : (c : Cells) (list w : ℕ) (v : Item) (high : ℕ) → w + item_size c.version v ≡ list → list + 8 ≤ high
    → high ≤ 16777216 → length v.bytes ≤ 1048576
    → Has c w (item_cells c.version w v) → IsItem v → ItemNumbers v → ValueUsed c list w v high
value_used c list w v high before last fits few has is numbers =
    let room : data_place w v + data_size c.version v.bytes ≤ 16777216 = omega (arith, before, last, fits) in
    let d = data_used c w v few room (data_has c w v has) in
    let uses : used_in (value_checks c [] w) ≡ w ∷ d.cells =
    value_uses c w (item_form w v) (item_read c w v has is numbers (omega (arith, before, last, fits)))
    ∙ ap (λ (l : List ℕ). w ∷ l) d.used in
    subst (λ (l : List ℕ). ((o : ℕ) → In (list ∷ l) o → (w ≤ o) × (o < high))
    → Pairwise (λ p q. p ≡ q → ⊥) (list ∷ l) → ValueUsed c list w v high) uses
    (λ a b. record { within = a; once = b })
    (λ o i. inside d o i)
    ((λ y i e. apart d y i e), ((λ y i e. absurd (let r = d.within y i in omega (arith, r.0, e))), d.once))
  where
    inside : (d : DataUsed c w v) (o : ℕ) → In (list ∷ w ∷ d.cells) o → (w ≤ o) × (o < high)
    inside d o (inl e) = (omega (arith, e, before), omega (arith, e, last))
    inside d o (inr (inl e)) = (omega (arith, e), omega (arith, e, before, last))
    inside d o (inr (inr i)) = let r = d.within o i in (omega (arith, r.0), omega (arith, r.1, before, last))

    apart : (d : DataUsed c w v) (y : ℕ) → In (w ∷ d.cells) y → list ≡ y → ⊥
    apart d y (inl h) e = omega (arith, h, e, before)
    apart d y (inr i) e = let r = d.within y i in omega (arith, r.1, e, before)

-- ---- the list

-- the list names the value after the others
list_reads : (c : Cells) (place w : ℕ) (os : List ℕ)
    → c.payload place ≡ Ok (Rattle.hive_model.specs.Packed.filled (offsets_text (os ++ w ∷ []))) → AreOffsets os
    → w < 2 ^ 32
    → reading (offsets_in (suc (length os))) c place ≡ done (os ++ w ∷ [])
list_reads c place w os there fit small =
    let qs = os ++ w ∷ [] in
    reads_in (offsets_in (suc (length os))) c place (offsets_text qs) qs there
    (λ slack. subst (λ (k : ℕ). offsets_in k (offsets_text qs ++ slack) ≡ Ok qs) (more_long os w)
    (offsets_again qs slack (more_fit os w fit small)))

-- what is in the run
record RunStands (c : Cells) (at w : ℕ) (os : List ℕ) (v : Item) : Type 0 where
  list : c.payload at ≡ Ok (Rattle.hive_model.specs.Packed.filled (offsets_text (os ++ w ∷ [])))
  value : Has c w (item_cells c.version w v)

run_stands : (c : Cells) (at place : ℕ) (os : List ℕ) (v : Item) → place + item_size c.version v ≡ at
    → Has c place (added_cells c.version place os v) → RunStands c at place os v
unfolding added_cells
run_stands c at place os v behind has =
    let value = item_cells c.version place v in
    let list = offsets_text (os ++ place ∷ []) ∷ [] in
    record {
      list = (has_behind c place (item_size c.version v) at value list (space_value c.version place v) behind has).0;
      value = has_front c place value list has;
    }

-- ---- what was put

pub adds_value : (version : HiveVersion) (old new : List Bin) (x place at count list : ℕ) (v : Item) (run : List ℕ)
    (can : CanAdd (look_up version old) old x) → place + item_size version v ≡ at
    → count ≡ can.node.value_count → list ≡ can.node.value_list → run ≡ text (added_cells version place can.offsets v)
    → place + added_size version count v ≤ 16777216 → AreOffsets can.offsets → IsItem v → ItemNumbers v
    → count ≤ 4194304 → length v.bytes ≤ 1048576
    → IsRelistedAt x list count place at run old new → PutsValue version old new x v
adds_value version old new x place at count list v run can at_is c_is l_is e room fit is numbers many few r = record {
  node = can.node;
  offsets = os;
  place = place;
  text = patched 36 (two_numbers (count + 1) at) p.0;
  list = at;
  read = can.read;
  places = can.places;
  adds = record {
    version = refl;
    there = held_payload new x (patched 36 (two_numbers (count + 1) at) p.0)
        (r.here ∙ ap (option_map (patched 36 (two_numbers (count + 1) at))) (stays x x_some ∙ x_held));
    node = subst (λ (n : ℕ). HasNewValues (with_part 36 (two_numbers (count + 1) at) p.0) can.node n at) more
        (values_written p.0 can.node (count + 1) at p.2 (omega (arith, many)) (omega (arith, at_is, room)));
    lists = list_reads c at place os stands.list fit (omega (arith, room));
    reads = item_stands c place v stands.value is numbers (omega (arith, room));
    others = λ o q held no_node no_list. held_payload new o q
        (r.others o no_node (λ n s. no_list
        (subst (In (value_list_at b x)) (sym (s ∙ l_is)) (can.list (λ z. n (c_is ∙ z)))))
        ∙ stays o (is_held (held_at old o) q (payload_held old o q held)) ∙ payload_held old o q held);
    fresh = λ o i. unheld o (let u = used.within o i in r.put.fresh o u.0 (omega (arith, u.1, long)));
    once = used.once;
  };
  freed = list_free b new x can.node can.read
      (λ n. ap (held_at new) (sym l_is) ∙ r.freed (λ z. n (sym c_is ∙ z)));
  least = omega (arith, r.long, r.put.least);
  long = subst (λ (m : ℕ). bins_size new ≤ bins_size old + new_bin_size m)
      (long ∙ ap (λ (k : ℕ). added_size version k v) c_is) (omega (arith, r.long, r.put.long));
}
  where
    b : Cells
    b = look_up version old

    c : Cells
    c = look_up version new

    os : List ℕ
    os = can.offsets

    ps : List (List ℕ)
    ps = added_cells version place os v

    counted : length os ≡ count
    counted = can.listed.number ∙ sym c_is

    more : count + 1 ≡ suc (length os)
    more = omega (arith, counted)

    size : space ps ≡ added_size version count v
    size = added_space version place os v ∙ ap (λ (k : ℕ). added_size version k v) counted

    long : length run ≡ added_size version count v
    long = ap length e ∙ Rattle.hive_pack.proofs.Rows.length_text ps ∙ size

    cells : run_cells run ≡ map allocated_cell ps
    cells = (run_is run ps e (omega (arith, size, room)) (omega (arith, size))).1

    p : (p : List ℕ) × (b.payload x ≡ Ok p) × (key_node_at p ≡ done can.node)
    p = then-so (b.payload x) key_node_at can.node can.read

    x_held : held_at old x ≡ Some p.0
    x_held = payload_held old x p.0 p.1

    x_some : IsSome (held_at old x)
    x_some = is_held (held_at old x) p.0 x_held

    fresh_there : (o : ℕ) (q : List ℕ) → held_among o place (map allocated_cell ps) ≡ Some q → held_at old o ≡ None
    fresh_there o q h = let a = among_from o place (map allocated_cell ps) q h in
        r.put.fresh o a.0 (omega (arith, a.1, used_size ps, size, long))

    put_held : (o : ℕ) → held_at r.mid o ≡ or_else (held_among o place (map allocated_cell ps)) (held_at old o)
    put_held o = r.put.held o ∙ ap (λ (cs : List Cell). or_else (held_among o place cs) (held_at old o)) cells

    stays : (o : ℕ) → IsSome (held_at old o) → held_at r.mid o ≡ held_at old o
    stays o s = put_held o ∙ go (held_among o place (map allocated_cell ps)) refl
      where
        go : (z : Option (List ℕ)) → held_among o place (map allocated_cell ps) ≡ z
            → or_else z (held_at old o) ≡ held_at old o
        go None h = refl
        go (Some q) h = absurd (none_some (held_at old o) (fresh_there o q h) s)

    not_here : (o y : ℕ) (q : List ℕ) → held_among o place (map allocated_cell ps) ≡ Some q → IsSome (held_at old y)
        → o ≡ y → ⊥
    not_here o y q h s z = none_some (held_at old o) (fresh_there o q h)
        (subst (λ (k : ℕ). IsSome (held_at old k)) (sym z) s)

    list_some : (count ≡ 0 → ⊥) → IsSome (held_at old list)
    list_some n =
        let h = can.listed.there (λ z. n (c_is ∙ z)) in
        subst (λ (k : ℕ). IsSome (held_at old k)) (sym l_is) (is_held (held_at old can.node.value_list) h.text h.there)

    has : Has c place ps
    has = has_held c place ps
        (λ o q h. held_payload new o q
        (r.others o (not_here o x q h x_some) (λ n. not_here o list q h (list_some n))
        ∙ put_held o ∙ ap (λ (z : Option (List ℕ)). or_else z (held_at old o)) h))

    stands : RunStands c at place os v
    stands = run_stands c at place os v at_is has

    used : ValueUsed c at place v (place + added_size version count v)
    used = value_used c at place v (place + added_size version count v) at_is (omega (arith, at_is)) room few stands.value
        is numbers

    unheld : (o : ℕ) → held_at old o ≡ None → IsUnheld b o
    unheld o n q h = absurd (let s = sym n ∙ payload_held old o q h in cc)

-- the key's node, and its room for two numbers when the run was put
pub node_held : (version : HiveVersion) (old : List Bin) (x : ℕ) (n : KeyNode)
    → reading key_node_at (look_up version old) x ≡ done n
    → IsSomeAnd (held_at old x) (λ p. 76 ≤ length p)
node_held version old x n read =
    let p = then-so ((look_up version old).payload x) key_node_at n read in
    let long = (node_text p.0 n p.2).long in
    and_some (held_at old x) (λ p. 76 ≤ length p) p.0 (payload_held old x p.0 p.1) (omega (arith, long))

-- what was held is held after a run that was put
pub kept_behind : (at : ℕ) (run : List ℕ) (old mid : List Bin) → IsRun run
    → IsRunPutAt (length run) at (run_cells run) old mid
    → (o : ℕ) → IsSome (held_at old o) → held_at mid o ≡ held_at old o
kept_behind at run old mid sound put o s = put.held o ∙ go (held_among o at (run_cells run)) refl
  where
    go : (z : Option (List ℕ)) → held_among o at (run_cells run) ≡ z → or_else z (held_at old o) ≡ held_at old o
    go None h = refl
    go (Some q) h = absurd (let a = among_from o at (run_cells run) q h in
        none_some (held_at old o) (put.fresh o a.0 (omega (arith, a.1, run_long run sound))) s)

some_of_node : (o : Option (List ℕ)) → IsSomeAnd o (λ p. 76 ≤ length p) → IsSome o
some_of_node None h = absurd h
some_of_node (Some p) h = refl

-- the key's node has room for two numbers, and its list is still held, after the run
pub node_room : (at x n : ℕ) (run : List ℕ) (old mid : List Bin) → IsRun run
    → IsRunPutAt (length run) at (run_cells run) old mid
    → IsSomeAnd (held_at old x) (λ p. 76 ≤ length p) → n ≡ 8 → IsSomeAnd (held_at mid x) (λ p. 36 + n ≤ length p)
node_room at x n run old mid sound put h s =
    subst (λ (o : Option (List ℕ)). IsSomeAnd o (λ p. 36 + n ≤ length p))
    (sym (kept_behind at run old mid sound put x (some_of_node (held_at old x) h))) (go (held_at old x) h)
  where
    go : (o : Option (List ℕ)) → IsSomeAnd o (λ p. 76 ≤ length p) → IsSomeAnd o (λ p. 36 + n ≤ length p)
    go None h = absurd h
    go (Some p) h = let l : 76 ≤ length p = h in omega (arith, l, s)

-- ---- where the key's list is

pub listed_here : (version : HiveVersion) (bins : List Bin) (x count list : ℕ)
    (can : CanAdd (look_up version bins) bins x) → count ≡ can.node.value_count → list ≡ can.node.value_list
    → ListsThese bins list count can.offsets
listed_here version bins x count list can c l =
    subst (λ (k : ℕ). ListsThese bins k count can.offsets) (sym l)
    (subst (λ (k : ℕ). ListsThese bins can.node.value_list k can.offsets) (sym c) can.listed)

pub apart_here : (version : HiveVersion) (bins : List Bin) (x count list : ℕ)
    (can : CanAdd (look_up version bins) bins x) → count ≡ can.node.value_count → list ≡ can.node.value_list
    → (count ≡ 0 → ⊥) → list ≡ x → ⊥
apart_here version bins x count list can c l n e = can.apart (λ z. n (c ∙ z)) (sym l ∙ e)

-- ---- no room

pub far_over : (bytes size : ℕ) → 16777216 < size → 16777216 < bytes + new_bin_size size
far_over bytes size h = omega (arith, h)

pub lacks_room : (version : HiveVersion) (bins : List Bin) (x count size : ℕ) (v : Item)
    (can : CanAdd (look_up version bins) bins x) → count ≡ can.node.value_count
    → size ≡ added_size version count v → 16777216 < bins_size bins + new_bin_size size
    → LacksRoomForValue version bins x v
lacks_room version bins x count size v can c e over = record {
  node = can.node;
  read = can.read;
  full = subst (λ (m : ℕ). 16777216 < bins_size bins + new_bin_size m) (e ∙ ap (λ (k : ℕ). added_size version k v) c)
      over;
}
