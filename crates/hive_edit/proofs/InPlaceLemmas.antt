-- Cells in which a value that holds its data itself was given other such data.
use Rattle.std.proofs.Common.{◌≡◌, ◌≤◌, ◌<◌, ℕ, zero, suc, ◌+◌, ◌-◌, ◌^◌, Bool, true, false, eqb, cond, List, [], ◌∷◌, ◌++◌, length, get_or, take, Option, Some, None, Result, Ok, Err, refl, sym, ap, subst, ◌∙◌, inl, inr, ⊎_elim, arith}
use Rattle.std.specs.Prelude.{◌==◌, MatchBool, find, is_some}
use Rattle.std.specs.Option.{option_map}
use Rattle.std.specs.List.{list_any}
use Rattle.std.specs.Int.{w32, from_le_bytes, to_le_bytes}
use Rattle.std.proofs.lemmas.Nat.{le_bytes_4}
use Rattle.nt_bytes.specs.declared.fault.HiveFaultKind.{HiveFaultKind}
use Rattle.nt_bytes.specs.declared.version.HiveVersion.{HiveVersion}
use Rattle.nt_bytes.specs.Folding.{folds_same}
use Rattle.nt_bytes.specs.Reading.{◌>>=◌}
use Rattle.hive_model.specs.Bins.{Bin, Cells, look_up}
use Rattle.hive_model.specs.Forms.{bytes_in}
use Rattle.hive_model.specs.KeyNode.{KeyNode, key_node_at}
use Rattle.hive_model.specs.KeyValue.{KeyValue, key_value_at, data_inside, is_in_place, is_overfull}
use Rattle.hive_model.specs.Lists.{offsets_in}
use Rattle.hive_model.specs.Size.{is_big}
use Rattle.hive_model.specs.Tree.{Tree, Item}
use Rattle.hive_model.specs.Tree.{key as tree_key}
use Rattle.hive_model.specs.Edit.{set_value, after_step}
use Rattle.hive_model.specs.Walk.{below_of, name_check, use_as, reading, names_of, big_checks, data_checks, value_checks}
use Rattle.hive_model.specs.Footprint.{of_read, used_in, is_value_named, key_place}
use Rattle.hive_model.specs.Stands.{data_or, big_bytes_at, data_of, item_at, items_at, Stands, IsWellFormed}
use Rattle.hive_cells.specs.Held.{held_at, patched}
use Rattle.hive_cells.proofs.HeldLemmas.{payload_held, held_payload, payload_kept}
use Rattle.edited_cells.specs.Owned.{In, first_or_empty, value_name, value_list_at, Reaches}
use Rattle.edited_cells.specs.Owned.{value_places as owned_places}
use Rattle.edited_cells.specs.Pairs.{Pairwise}
use Rattle.edited_cells.specs.Revalues.{cells_of_values, ChangesValues}
use Rattle.edited_cells.proofs.Ins.{in_left, in_right, in_cases, in_flat_from}
use Rattle.edited_cells.proofs.Pairs.{pairwise_parts, pairwise_join}
use Rattle.edited_cells.proofs.ChangedValues.{values_apart}
use Rattle.hive_look.specs.Places.{value_places, value_place}
use Rattle.hive_edit.specs.Edits.{value_fields}
use Rattle.hive_look.proofs.ResultLemmas.{done, some, some_same}
use Rattle.edited_cells.proofs.Out.{placed_at}
use Rattle.edited_cells.specs.Done.{IsDone}
use Rattle.edited_cells.proofs.ValueSteps.{a_value_set}
use Rattle.hive_look.proofs.PlaceLemmas.{key_there, places_same, places_at_node}
use Rattle.edited_cells.proofs.Patches.{value_written}
use Rattle.std.proofs.Math.Bool.{or-false}
use Rattle.hive_read.proofs.FormFacts.{then-so}

-- ---- a patch, as a map from offsets to payloads

-- one cell has these bytes in its payload from a place on, and each other cell is as it was
pub record IsPatchedAt (b c : Cells) (at place : ℕ) (part : List ℕ) : Type 0 where
  pub version : c.version ≡ b.version
  pub here : (p : List ℕ) → b.payload at ≡ Ok p → c.payload at ≡ Ok (patched place part p)
  pub others : (o : ℕ) (q : List ℕ) → (o ≡ at → ⊥) → b.payload o ≡ Ok q → c.payload o ≡ Ok q

pub patched_at : (version : HiveVersion) (old new : List Bin) (at place : ℕ) (part : List ℕ)
    → held_at new at ≡ option_map (patched place part) (held_at old at)
    → ((o : ℕ) → (o ≡ at → ⊥) → held_at new o ≡ held_at old o)
    → IsPatchedAt (look_up version old) (look_up version new) at place part
patched_at version old new at place part here others = record {
  version = refl;
  here = λ p e. held_payload new at (patched place part p)
      (here ∙ ap (option_map (patched place part)) (payload_held old at p e));
  others = λ o q apart e. payload_kept old new o q (others o apart) e;
}

-- ---- forms read again

read_payload : {F : Type 0} (form : List ℕ → Result F HiveFaultKind) (cells : Cells) (at : ℕ) (x : F)
    → reading form cells at ≡ done x → (p : List ℕ) × (cells.payload at ≡ done p) × (form p ≡ done x)
read_payload form cells at x r = then-so (cells.payload at) form x r

reads_so : {F : Type 0} (form : List ℕ → Result F HiveFaultKind) (cells : Cells) (at : ℕ) (p : List ℕ) (x : F)
    → cells.payload at ≡ done p → form p ≡ done x → reading form cells at ≡ done x
reads_so form cells at p x e f = ap (λ (r : Result (List ℕ) HiveFaultKind). r >>= form) e ∙ f

-- a form elsewhere is read as before
read_still : {F : Type 0} (form : List ℕ → Result F HiveFaultKind) (b c : Cells) (at place : ℕ) (part : List ℕ) (o : ℕ)
    (x : F) → IsPatchedAt b c at place part → (o ≡ at → ⊥)
    → reading form b o ≡ done x → reading form c o ≡ done x
read_still form b c at place part o x h apart r =
    let p = read_payload form b o x r in
    reads_so form c o p.0 x (h.others o p.0 apart p.1) p.2

-- ---- data that a value holds itself

zero_small : 0 < 256
zero_small = omega arith

at_most : (a b c d : ℕ) → a < 256 → b < 256 → c < 256 → d < 256 → (i : ℕ) → get_or (a ∷ b ∷ c ∷ d ∷ []) i 0 < 256
at_most a b c d f g h k zero = f
at_most a b c d f g h k (suc zero) = g
at_most a b c d f g h k (suc (suc zero)) = h
at_most a b c d f g h k (suc (suc (suc zero))) = k
at_most a b c d f g h k (suc (suc (suc (suc i)))) = zero_small

-- up to four bytes again, of the number that they are
own_again : (bytes : List ℕ) → length bytes ≤ 4 → ((i : ℕ) → get_or bytes i 0 < 256)
    → take (length bytes) (to_le_bytes w32 (from_le_bytes w32 bytes)) ≡ bytes
own_again [] h small = refl
own_again (a ∷ []) h small =
    let four = le_bytes_4 (a ∷ 0 ∷ 0 ∷ 0 ∷ []) (from_le_bytes w32 (a ∷ [])) refl
    (at_most a 0 0 0 (small 0) zero_small zero_small zero_small) refl in
    ap (take 1) four
own_again (a ∷ b ∷ []) h small =
    let four = le_bytes_4 (a ∷ b ∷ 0 ∷ 0 ∷ []) (from_le_bytes w32 (a ∷ b ∷ [])) refl
    (at_most a b 0 0 (small 0) (small 1) zero_small zero_small) refl in
    ap (take 2) four
own_again (a ∷ b ∷ c ∷ []) h small =
    let four = le_bytes_4 (a ∷ b ∷ c ∷ 0 ∷ []) (from_le_bytes w32 (a ∷ b ∷ c ∷ [])) refl
    (at_most a b c 0 (small 0) (small 1) (small 2) zero_small) refl in
    ap (take 3) four
own_again (a ∷ b ∷ c ∷ d ∷ []) h small =
    let four = le_bytes_4 (a ∷ b ∷ c ∷ d ∷ []) (from_le_bytes w32 (a ∷ b ∷ c ∷ d ∷ [])) refl
    (at_most a b c d (small 0) (small 1) (small 2) (small 3)) refl in
    ap (take 4) four
own_again (a ∷ b ∷ c ∷ d ∷ e ∷ rest) h small = absurd (omega arith)

-- a value that holds these bytes itself
abbrev pub inside_value : KeyValue → ℕ → List ℕ → KeyValue
inside_value value kind bytes =
    record value { size = 2147483648 + length bytes; offset = from_le_bytes w32 bytes; kind = kind }

pub inside_size : (n : ℕ) → n ≤ 4 → (is_in_place (2147483648 + n) ≡ true) × (is_overfull (2147483648 + n) ≡ false)
inside_size zero h = (refl, refl)
inside_size (suc zero) h = (refl, refl)
inside_size (suc (suc zero)) h = (refl, refl)
inside_size (suc (suc (suc zero))) h = (refl, refl)
inside_size (suc (suc (suc (suc zero)))) h = (refl, refl)
inside_size (suc (suc (suc (suc (suc n))))) h = absurd (omega arith)

pub inside_again : (value : KeyValue) (kind : ℕ) (bytes : List ℕ) → length bytes ≤ 4
    → ((i : ℕ) → get_or bytes i 0 < 256)
    → data_inside (inside_value value kind bytes) ≡ some bytes
inside_again value kind bytes short small =
    let n : 2147483648 + length bytes - 2147483648 ≡ length bytes = omega arith in
    ap (λ (b : Bool). cond b (some
    (take (2147483648 + length bytes - 2147483648) (to_le_bytes w32 (from_le_bytes w32 bytes))))
    (cond (2147483648 + length bytes == 0) (Some []) None))
    (inside_size (length bytes) short).0
    ∙ ap (λ (m : ℕ). some (take m (to_le_bytes w32 (from_le_bytes w32 bytes)))) n
    ∙ ap some (own_again bytes short small)

pub inside_data : (cells : Cells) (value : KeyValue) (bytes : List ℕ) → data_inside value ≡ some bytes
    → data_of cells value ≡ done bytes
unfolding data_of
inside_data cells value bytes e =
    ap (λ (o : Option (List ℕ)). data_or o
    (cond (is_big cells.version value.size) (big_bytes_at cells value.size value.offset)
    (reading (bytes_in value.size) cells value.offset))) e

-- ---- the values of the key

-- what is found stands between those before it and those after
pub record FoundAmong (test : ℕ → Bool) (xs : List ℕ) (x : ℕ) : Type 0 where
  pub front : List ℕ
  pub back : List ℕ
  pub whole : xs ≡ front ++ (x ∷ back)
  pub passes : test x ≡ true

pub found_among : (test : ℕ → Bool) (xs : List ℕ) (x : ℕ) → find test xs ≡ some x → FoundAmong test xs x
found_among test [] x e = absurd cc
found_among test (y ∷ ys) x e = go (test y) refl e (λ d. found_among test ys x d)
  where
    go : (b : Bool) → test y ≡ b → cond b (Some y) (find test ys) ≡ some x
        → (find test ys ≡ some x → FoundAmong test ys x) → FoundAmong test (y ∷ ys) x
    go true is e deep =
        let same : y ≡ x = some_same y x e in
        record { front = []; back = ys; whole = ap (λ (z : ℕ). z ∷ ys) same; passes = ap test (sym same) ∙ is }
    go false is e deep =
        let d = deep e in
        record { front = y ∷ d.front; back = d.back; whole = ap (λ (zs : List ℕ). y ∷ zs) d.whole; passes = d.passes }

-- a value's cell is the first of its own, and the only one where it holds its data itself
pub value_first : (cells : Cells) (v : ℕ) → In (used_in (value_checks cells [] v)) v
unfolding value_checks
value_first cells v = inl refl

value_only : (cells : Cells) (v : ℕ) (value : KeyValue) → reading key_value_at cells v ≡ done value
    → is_some (data_inside value) ≡ true → used_in (value_checks cells [] v) ≡ v ∷ []
unfolding value_checks data_checks
value_only cells v value r s =
    let below = λ (u : KeyValue). name_check [] v u.name ∷ data_checks cells u in
    ap (λ (q : Result KeyValue HiveFaultKind). v ∷ used_in (below_of q below)) r
    ∙ ap (λ (b : Bool). v ∷ used_in
    (cond b [] (cond (is_big cells.version value.size) (big_checks cells value.size value.offset)
    (use_as false (bytes_in value.size) cells value.offset)))) s

only_one : (y o : ℕ) → In (y ∷ []) o → y ≡ o
only_one y o (inl e) = e
only_one y o (inr h) = absurd h

-- a list of values is where the node says
list_at_node : (cells : Cells) (x : ℕ) (node : KeyNode) → reading key_node_at cells x ≡ done node
    → value_list_at cells x ≡ cond (eqb node.value_count 0) [] (node.value_list ∷ [])
unfolding value_list_at
list_at_node cells x node r =
    ap (λ (q : Result KeyNode HiveFaultKind). of_read q (λ n. cond (eqb n.value_count 0) [] (n.value_list ∷ []))) r

-- and in that cell alone
pub one_list_at : (cells : Cells) (x : ℕ) (node : KeyNode) → reading key_node_at cells x ≡ done node → (o : ℕ)
    → In (value_list_at cells x) o → node.value_list ≡ o
one_list_at cells x node r o i =
    go (eqb node.value_count 0) (subst (λ (l : List ℕ). In l o) (list_at_node cells x node r) i)
  where
    go : (b : Bool) → In (cond b [] (node.value_list ∷ [])) o → node.value_list ≡ o
    go true j = absurd j
    go false j = only_one node.value_list o j

no_cons : (xs : List ℕ) (x : ℕ) (ys : List ℕ) → xs ++ (x ∷ ys) ≡ [] → ⊥
no_cons [] x ys e = absurd cc
no_cons (z ∷ xs) x ys e = absurd cc

-- a key that has values counts some, and its list names them
pub record ListedValues (b : Cells) (x : ℕ) (node : KeyNode) (front back : List ℕ) (v : ℕ) : Type 0 where
  pub some_values : eqb node.value_count 0 ≡ false
  pub list : value_list_at b x ≡ node.value_list ∷ []
  pub offsets : reading (offsets_in node.value_count) b node.value_list ≡ done (front ++ (v ∷ back))

pub listed_values : (b : Cells) (x : ℕ) (node : KeyNode) (front back : List ℕ) (v : ℕ)
    → reading key_node_at b x ≡ done node → value_places b x ≡ front ++ (v ∷ back)
    → ListedValues b x node front back v
listed_values b x node front back v r e = go (eqb node.value_count 0) refl
  where
    read : (q : Result (List ℕ) HiveFaultKind) → of_read q (λ os. os) ≡ front ++ (v ∷ back)
        → q ≡ done (front ++ (v ∷ back))
    read (Ok os) f = ap done f
    read (Err k) f = absurd (no_cons front v back (sym f))

    go : (t : Bool) → eqb node.value_count 0 ≡ t → ListedValues b x node front back v
    go true is =
        absurd (no_cons front v back (sym e ∙ places_at_node b x node r
        ∙ ap (λ (t : Bool). cond t [] (of_read (reading (offsets_in node.value_count) b node.value_list) (λ os. os)))
        is))
    go false is = record {
      some_values = is;
      list = list_at_node b x node r ∙ ap (λ (t : Bool). cond t [] (node.value_list ∷ [])) is;
      offsets = read (reading (offsets_in node.value_count) b node.value_list)
          (sym (ap (λ (t : Bool). cond t []
          (of_read (reading (offsets_in node.value_count) b node.value_list) (λ os. os))) is)
          ∙ sym (places_at_node b x node r) ∙ e);
    }

in_places : (front back : List ℕ) (v : ℕ) → In (front ++ (v ∷ back)) v
in_places front back v = in_right front (v ∷ back) v (inl refl)

abbrev Apart : ℕ → ℕ → Type 0
Apart p q = p ≡ q → ⊥

-- the value's cell is none of the node and the list
record ValueApart (b : Cells) (x v : ℕ) (node : KeyNode) : Type 0 where
  node_apart : x ≡ v → ⊥
  list_apart : node.value_list ≡ v → ⊥

value_apart : (b : Cells) (root : ℕ) (t : Tree) (p : List (List ℕ)) (x v : ℕ) (node : KeyNode) (front back : List ℕ)
    → IsWellFormed b root t → Reaches b root p x
    → value_places b x ≡ front ++ (v ∷ back) → ListedValues b x node front back v → ValueApart b x v node
value_apart b root t p x v node front back well reaches places l =
    let apart = values_apart b root t p x well reaches in
    let among : In (cells_of_values b (owned_places b x)) v =
    subst (λ (os : List ℕ). In (cells_of_values b os) v) (sym (places_same b x ∙ places))
    (in_flat_from (λ u. used_in (value_checks b [] u)) (front ++ (v ∷ back)) v v (in_places front back v)
    (value_first b v)) in
    let parts = pairwise_parts Apart (value_list_at b x) (cells_of_values b (owned_places b x)) apart.once in
    record {
      node_apart = λ e. apart.node v (in_right (value_list_at b x) (cells_of_values b (owned_places b x)) v among)
          (sym e);
      list_apart = λ e. parts.across node.value_list v
          (subst (λ (os : List ℕ). In os node.value_list) (sym l.list) (inl refl)) among e;
    }

-- ---- the value after the patch

-- a value that held its data itself and holds others now
pub record IsRewritten (b c : Cells) (v kind : ℕ) (bytes : List ℕ) : Type 0 where
  pub value : KeyValue
  pub read : reading key_value_at b v ≡ done value
  pub read_new : reading key_value_at c v ≡ done (inside_value value kind bytes)
  pub inside : data_inside (inside_value value kind bytes) ≡ some bytes

abbrev pub fields_for : ℕ → List ℕ → List ℕ
fields_for kind bytes = value_fields (2147483648 + length bytes) (from_le_bytes w32 bytes) kind

pub rewritten : (b c : Cells) (v kind : ℕ) (bytes : List ℕ) (value : KeyValue)
    → IsPatchedAt b c v 4 (fields_for kind bytes) → reading key_value_at b v ≡ done value
    → length bytes ≤ 4 → ((i : ℕ) → get_or bytes i 0 < 256) → kind < 2 ^ 32 → IsRewritten b c v kind bytes
rewritten b c v kind bytes value h r short small k =
    let p = read_payload key_value_at b v value r in
    let number : from_le_bytes w32 bytes < 2 ^ 32 = omega (arith, small 0, small 1, small 2, small 3) in
    record {
      value = value;
      read = r;
      read_new = reads_so key_value_at c v (patched 4 (fields_for kind bytes) p.0) (inside_value value kind bytes)
          (h.here p.0 p.1)
          (value_written p.0 value (2147483648 + length bytes) (from_le_bytes w32 bytes) kind p.2 (omega arith) number k
          (inside_size (length bytes) short).1);
      inside = inside_again value kind bytes short small;
    }

name_there : (cells : Cells) (v : ℕ) (value : KeyValue) → reading key_value_at cells v ≡ done value
    → value_name cells v ≡ value.name
name_there cells v value r =
    ap (λ (q : Result KeyValue HiveFaultKind). first_or_empty (names_of (λ (n : KeyValue). n.name) q)) r

item_there : (c : Cells) (v kind : ℕ) (bytes : List ℕ) (value : KeyValue)
    → reading key_value_at c v ≡ done (inside_value value kind bytes)
    → data_inside (inside_value value kind bytes) ≡ some bytes
    → item_at c v ≡ done (record { name = value.name; kind = kind; bytes = bytes })
unfolding item_at
item_there c v kind bytes value r i =
    ap (λ (q : Result KeyValue HiveFaultKind). q >>= λ u. data_of c u >>= λ d. Ok
    (record { name = u.name; kind = u.kind; bytes = d })) r
    ∙ ap (λ (q : Result (List ℕ) HiveFaultKind). q >>= λ d. Ok (record { name = value.name; kind = kind; bytes = d }))
    (inside_data c (inside_value value kind bytes) bytes i)

-- a value that was rewritten is one that its key got in place of itself
pub changes_value : (b c : Cells) (root : ℕ) (t : Tree) (p : List (List ℕ)) (x v kind : ℕ) (bytes front back : List ℕ)
    (node : KeyNode) → IsWellFormed b root t → Reaches b root p x
    → reading key_node_at b x ≡ done node → value_places b x ≡ front ++ (v ∷ back)
    → IsPatchedAt b c v 4 (fields_for kind bytes) → IsRewritten b c v kind bytes
    → ChangesValues b c x front (v ∷ []) (v ∷ []) back
    (record { name = value_name b v; kind = kind; bytes = bytes } ∷ [])
changes_value b c root t p x v kind bytes front back node well reaches r places h w =
    let l = listed_values b x node front back v r places in
    let a = value_apart b root t p x v node front back well reaches places l in
    let read_new = read_still key_node_at b c v 4 (fields_for kind bytes) x node h a.node_apart r in
    let offsets = read_still (offsets_in node.value_count) b c v 4 (fields_for kind bytes) node.value_list
    (front ++ (v ∷ back)) h a.list_apart l.offsets in
    let list_new : value_list_at c x ≡ node.value_list ∷ [] =
    list_at_node c x node read_new ∙ ap (λ (q : Bool). cond q [] (node.value_list ∷ [])) l.some_values in
    let item = item_there c v kind bytes w.value w.read_new w.inside in
    let named : items_at c (v ∷ []) ≡ done (record { name = value_name b v; kind = kind; bytes = bytes } ∷ []) =
    ap (λ (q : Result Item HiveFaultKind). q >>= λ i. Ok (i ∷ [])) item
    ∙ ap (λ (n : List ℕ). done (record { name = n; kind = kind; bytes = bytes } ∷ []))
    (sym (name_there b v w.value w.read)) in
    let own : cells_of_values c (v ∷ []) ≡ v ∷ [] =
    ap (λ (os : List ℕ). os ++ [])
    (value_only c v (inside_value w.value kind bytes) w.read_new (ap is_some w.inside)) in
    let alone : (o : ℕ) → In (cells_of_values c (v ∷ [])) o → v ≡ o =
    λ o i. only_one v o (subst (λ (os : List ℕ). In os o) own i) in
    record {
      version = h.version;
      old = node;
      new = node;
      read = r;
      read_new = read_new;
      same = record {
        name = refl;
        flags = refl;
        stamp = refl;
        parent = refl;
        child_count = refl;
        volatile_count = refl;
        child_list = refl;
        volatile_list = refl;
        security = refl;
        class = refl;
        class_length = refl;
      };
      listed = places_same b x ∙ places;
      listed_new = subst (λ (q : Bool). MatchBool q (front ++ (v ∷ back) ≡ [])
          (reading (offsets_in node.value_count) c node.value_list ≡ Ok (front ++ (v ∷ back)))) (sym l.some_values)
          offsets;
      items = named;
      others = λ o q e node_other list_other value_other.
          h.others o q (λ z. value_other
          (in_left (used_in (value_checks b [] v)) [] o
          (subst (λ (y : ℕ). In (used_in (value_checks b [] v)) y) (sym z) (value_first b v)))) e;
      used = λ o i. ⊎_elim
          (λ j. inl (in_left (value_list_at b x) (cells_of_values b (v ∷ [])) o
          (subst (λ (os : List ℕ). In os o) (list_new ∙ sym l.list) j)))
          (λ j. inl (in_right (value_list_at b x) (cells_of_values b (v ∷ [])) o
          (in_left (used_in (value_checks b [] v)) [] o
          (subst (λ (y : ℕ). In (used_in (value_checks b [] v)) y) (alone o j) (value_first b v)))))
          (in_cases (value_list_at c x) (cells_of_values c (v ∷ [])) o i);
      once = pairwise_join Apart (value_list_at c x) (cells_of_values c (v ∷ []))
          (record {
            left = subst (Pairwise Apart) (sym list_new) ((λ y i. absurd i), tt);
            right = subst (Pairwise Apart) (sym own) ((λ y i. absurd i), tt);
            across = λ o q i j e. a.list_apart
                (only_one node.value_list o (subst (λ (os : List ℕ). In os o) list_new i) ∙ e ∙ sym (alone q j));
          });
    }

-- ---- the tree after it

-- a value that is found by a name has one that folds to it
pub named_folds : (cells : Cells) (n : List ℕ) (u : ℕ) (f : KeyValue) → reading key_value_at cells u ≡ done f
    → is_value_named cells n u ≡ true → folds_same n f.name ≡ true
named_folds cells n u f read passes =
    sym (or-false (folds_same n f.name))
    ∙ sym (ap (λ (q : Result KeyValue HiveFaultKind). list_any (folds_same n) (names_of (λ (z : KeyValue). z.name) q))
    read) ∙ passes

-- the step that sets the value is done
pub set_done : (b c : Cells) (root : ℕ) (t : Tree) (path : List (List ℕ)) (name : List ℕ) (key v kind : ℕ)
    (bytes : List ℕ) (value : KeyValue) → IsWellFormed b root t
    → key_place b path root ≡ some key → value_place b name key ≡ some v → IsPatchedAt b c v 4 (fields_for kind bytes)
    → reading key_value_at b v ≡ done value
    → length bytes ≤ 4 → ((i : ℕ) → get_or bytes i 0 < 256) → kind < 2 ^ 32 → (u : Tree)
    → after_step (set_value path name kind bytes) t ≡ Ok u → IsDone b c root t u (set_value path name kind bytes)
set_done b c root t path name key v kind bytes value well k e h r short small fits u ok =
    let there = key_there b path root t key well k in
    let placed = placed_at b path root key k in
    let among = found_among (is_value_named b name) (value_places b key) v e in
    let node = node_read b key there.there there.well.stands in
    let g = changes_value b c root t placed.stored key v kind bytes among.front among.back node.0 well placed.reached
    node.1 among.whole h (rewritten b c v kind bytes value h r short small fits) in
    a_value_set b c root t u path name kind bytes key v among.front (v ∷ []) among.back well ok k
    (ap (folds_same name) (name_there b v value r) ∙ named_folds b name v value r among.passes) g
  where
    node_read : (cells : Cells) (at : ℕ) (u : Tree) → Stands cells at u
        → (n : KeyNode) × (reading key_node_at cells at ≡ done n)
    node_read cells at (tree_key g ts) s = (s.1.node, s.1.read)
