-- A value of a hive that holds its data itself, and gets other such data.
use Rattle.std.proofs.Common.{◌≡◌, ◌≤◌, ◌<◌, ℕ, ◌+◌, ◌-◌, Bool, true, false, eqb, cond, List, [], ◌∷◌, length, take, Option, Some, None, Result, Ok, Err, refl, sym, ap, subst, ◌∙◌, arith}
use Rattle.std.specs.Prelude.{nat_lt, is_some, Contains}
use Rattle.std.specs.Option.{option_and_then, IsSomeAnd, is_none}
use Rattle.std.specs.Int.{w32, to_le_bytes}
use Rattle.std.proofs.lemmas.Bool.{le-ltb, lt-ltb, ne_eqb}
use Rattle.std.proofs.lemmas.Bool.Decides.{nat_tests}
use Rattle.nt_bytes.specs.declared.fault.HiveFaultKind.{HiveFaultKind}
use Rattle.nt_bytes.specs.declared.version.HiveVersion.{HiveVersion}
use Rattle.nt_bytes.specs.Fields.{u32_in}
use Rattle.nt_bytes.specs.Reading.{◌>>=◌}
use Rattle.hive_model.specs.Bins.{Bin, Cells, look_up}
use Rattle.hive_model.specs.KeyValue.{KeyValue, key_value_at, data_inside, is_in_place}
use Rattle.hive_model.specs.Size.{bulk_of}
use Rattle.hive_model.specs.Tree.{Tree, Item, find_item}
use Rattle.hive_model.specs.Edit.{set_value, Refusal, full, most_bulk, edited, after_step}
use Rattle.hive_model.specs.Walk.{reading, data_checks}
use Rattle.hive_model.specs.Footprint.{key_place, is_value_named, of_read, used_in}
use Rattle.hive_model.specs.Stands.{data_of, item_at, IsWellFormed}
use Rattle.hive_cells.specs.Opened.{Opened}
use Rattle.hive_cells.specs.Held.{held_at}
use Rattle.hive_read.proofs.FormFacts.{held-short, value-facts, then-so}
use Rattle.key_index.specs.Lists.{payload_in}
use Rattle.edited_cells.proofs.Ins.{in_from}
use Rattle.edited_cells.proofs.FromCells.{data_held_inside}
use Rattle.hive_edit.specs.Hive.{HiveCells, cells_in, hive_of, IsHive}
use Rattle.hive_edit.specs.Edits.{value_fields, held_itself, holds_itself, if_inside, inside_place}
use Rattle.hive_edit.specs.Tells.{new_name_length}
use Rattle.hive_edit.proofs.ToldLemmas.{there_long}
use Rattle.hive_look.specs.Places.{IsItemHere, value_place, value_places, data_places}
use Rattle.hive_edit.specs.Standing.{tree_of}
use Rattle.hive_look.proofs.ResultLemmas.{done, some, some_same, ok_same}
use Rattle.hive_look.proofs.PlaceLemmas.{key_there, IsItemAt, place_of_item}
use Rattle.hive_cells.proofs.HeldLemmas.{payload_held}
use Rattle.hive_look.proofs.ItemLemmas.{item_facts, value_facts}
use Rattle.hive_edit.proofs.InPlaceLemmas.{inside_data, found_among, named_folds}
use Rattle.hive_edit.proofs.EditLemmas.{folds_length, set_tree, set_edited, same_bulk, made}
use Rattle.hive_edit.specs.Freed.{FreesData}

-- ---- where it is

abbrev nowhere : Option ℕ
nowhere = None

-- the value that is there, of the key at the path
pub record InsideThere (b : Cells) (path : List (List ℕ)) (name : List ℕ) (root v : ℕ) : Type 0 where
  pub key : ℕ
  pub place : key_place b path root ≡ some key
  pub named : value_place b name key ≡ some v
  pub value : KeyValue
  pub read : reading key_value_at b v ≡ done value
  pub inside : is_some (data_inside value) ≡ true

pub inside_there : (b : Cells) (path : List (List ℕ)) (name : List ℕ) (root v : ℕ)
    → inside_place b path name root ≡ some v → InsideThere b path name root v
inside_there b path name root v e = at_key (key_place b path root) refl e
  where
    at_value : (key w : ℕ) → key_place b path root ≡ some key → value_place b name key ≡ some w
        → (r : Result KeyValue HiveFaultKind) → reading key_value_at b w ≡ r
        → cond (held_itself r) (Some w) None ≡ some v → InsideThere b path name root v
    at_value key w k n (Ok value) r e = by_test (is_some (data_inside value)) refl e
      where
        by_test : (t : Bool) → is_some (data_inside value) ≡ t → cond t (Some w) None ≡ some v
            → InsideThere b path name root v
        by_test true t e =
            let same : w ≡ v = some_same w v e in
            record {
              key = key;
              place = k;
              named = n ∙ ap some same;
              value = value;
              read = ap (reading key_value_at b) (sym same) ∙ r;
              inside = t;
            }
        by_test false t e = absurd cc
    at_value key w k n (Err kind) r e = absurd cc

    named_value : (key : ℕ) → key_place b path root ≡ some key → (o : Option ℕ) → value_place b name key ≡ o
        → option_and_then (if_inside b) o ≡ some v → InsideThere b path name root v
    named_value key k None n e = absurd cc
    named_value key k (Some w) n e = at_value key w k n (reading key_value_at b w) refl e

    at_key : (o : Option ℕ) → key_place b path root ≡ o
        → option_and_then (λ key. option_and_then (if_inside b) (value_place b name key)) o ≡ some v
        → InsideThere b path name root v
    at_key None k e = absurd cc
    at_key (Some key) k e = named_value key k (value_place b name key) refl e

abbrev a_list : List ℕ → Option (List ℕ)
a_list xs = Some xs

abbrev no_list : Option (List ℕ)
no_list = None

-- a size that says that the value holds its data itself
abbrev is_held_size : ℕ → Bool
is_held_size size = is_some (cond (is_in_place size) (a_list []) (cond (eqb size 0) (a_list []) no_list))

any_held : (xs : List ℕ) (a b : Bool)
    → is_some (cond a (a_list xs) (cond b (a_list []) no_list))
    ≡ is_some (cond a (a_list []) (cond b (a_list []) no_list))
any_held xs true b = refl
any_held xs false true = refl
any_held xs false false = refl

-- by the size in its payload
inside_by : (cells : Cells) (at : ℕ) (p : List ℕ) (size : ℕ) → IsItemHere cells at → p ≡ payload_in cells at
    → size ≡ u32_in p 4 → holds_itself cells at ≡ is_held_size size
inside_by cells at p size h e s =
    let f = item_facts cells at h in
    let same : f.value.size ≡ size =
    ap (λ (v : KeyValue). v.size) f.facts.is ∙ ap (λ (q : List ℕ). u32_in q 4) (sym e) ∙ sym s in
    let held : held_itself (done f.value) ≡ is_held_size f.value.size =
    any_held (take (f.value.size - 2147483648) (to_le_bytes w32 f.value.offset)) (is_in_place f.value.size)
    (eqb f.value.size 0) in
    ap held_itself f.read ∙ held ∙ ap is_held_size same

abbrev place_if : ℕ → Bool → Option ℕ
place_if at b = cond b (Some at) None

pub in_place_inside : (cells : Cells) (at : ℕ) (p : List ℕ) (size : ℕ) → IsItemHere cells at → p ≡ payload_in cells at
    → size ≡ u32_in p 4 → 2147483648 ≤ size → some at ≡ if_inside cells at
in_place_inside cells at p size h e s big =
    let t : is_in_place size ≡ true = grind (arith, nat_tests) in
    let held : is_held_size size ≡ true =
    ap (λ (b : Bool). is_some (cond b (a_list []) (cond (eqb size 0) (a_list []) no_list))) t in
    sym (ap (place_if at) (inside_by cells at p size h e s ∙ held))

pub none_inside : (cells : Cells) (at : ℕ) (p : List ℕ) (size : ℕ) → IsItemHere cells at → p ≡ payload_in cells at
    → size ≡ u32_in p 4 → size ≡ 0 → some at ≡ if_inside cells at
none_inside cells at p size h e s z = sym (ap (place_if at) (inside_by cells at p size h e s ∙ ap is_held_size z))

pub not_inside : (cells : Cells) (at : ℕ) (p : List ℕ) (size : ℕ) → IsItemHere cells at → p ≡ payload_in cells at
    → size ≡ u32_in p 4 → size < 2147483648 → (size ≡ 0 → ⊥) → nowhere ≡ if_inside cells at
not_inside cells at p size h e s small some_bytes =
    let t : is_in_place size ≡ false = grind (arith, nat_tests) in
    let u : eqb size 0 ≡ false = ne_eqb size 0 some_bytes in
    let held : is_held_size size ≡ false = λ i. is_some (cond (t i) (a_list []) (cond (u i) (a_list []) no_list)) in
    sym (ap (place_if at) (inside_by cells at p size h e s ∙ held))

-- ---- the hive after it

-- a value of a tree that holds up to four bytes
record ShortItem (b : Cells) (name : List ℕ) (k : Tree) : Type 0 where
  item : Item
  found : find_item name k ≡ some item
  short : length item.bytes ≤ 4

short_item : (b : Cells) (name : List ℕ) (key v : ℕ) (k : Tree) (value : KeyValue) → IsWellFormed b key k
    → value_place b name key ≡ some v → reading key_value_at b v ≡ done value
    → is_some (data_inside value) ≡ true → ShortItem b name k
unfolding item_at data_of
short_item b name key v k value well e r inside =
    go (find_item name k) refl
    (subst (λ (o : Option ℕ). IsItemAt b o (find_item name k)) e (place_of_item b name key k well))
  where
    with_data : (item : Item) → find_item name k ≡ some item → item_at b v ≡ done item → (o : Option (List ℕ))
        → data_inside value ≡ o → is_some o ≡ true → ShortItem b name k
    with_data item f i (Some d) h t =
        let read = then-so (reading key_value_at b v)
        (λ u. data_of b u >>= λ bytes. Ok (record { name = u.name; kind = u.kind; bytes = bytes })) item i in
        let same : read.0 ≡ value = ok_same read.0 value (sym read.1 ∙ r) in
        let bytes = then-so (data_of b read.0)
        (λ bytes. Ok (record { name = read.0.name; kind = read.0.kind; bytes = bytes })) item read.2 in
        let read_data : data_of b value ≡ done bytes.0 =
        subst (λ (u : KeyValue). data_of b u ≡ done bytes.0) same bytes.1 in
        let is : d ≡ bytes.0 = ok_same d bytes.0 (sym (inside_data b value d h) ∙ read_data) in
        let held : bytes.0 ≡ item.bytes =
        ap (λ (z : Item). z.bytes)
        (ok_same (record { name = read.0.name; kind = read.0.kind; bytes = bytes.0 }) item bytes.2) in
        record {
          item = item;
          found = f;
          short = subst (λ (x : List ℕ). length x ≤ 4) (is ∙ held) (held-short value d h);
        }
    with_data item f i None h t = absurd cc

    go : (o : Option Item) → find_item name k ≡ o → IsItemAt b (Some v) o → ShortItem b name k
    go None f p = absurd p
    go (Some item) f p = with_data item f p (data_inside value) refl inside

-- the edit, where the value is there and holds its data itself: it is refused for the bulk alone, which stays
pub record EditThere (version : HiveVersion) (t : Tree) (path : List (List ℕ)) (name : List ℕ) (kind : ℕ)
    (bytes : List ℕ) : Type 0 where
  pub step : after_step (set_value path name kind bytes) t ≡ Ok (set_tree path name kind bytes t)
  pub edit : edited version t (set_value path name kind bytes ∷ [])
      ≡ cond (nat_lt most_bulk (bulk_of version t)) (Err full) (Ok (set_tree path name kind bytes t))
  pub bulk : bulk_of version (set_tree path name kind bytes t) ≡ bulk_of version t

pub name_short : (b : Cells) (name : List ℕ) (key v : ℕ) (value : KeyValue) → value_place b name key ≡ some v
    → reading key_value_at b v ≡ done value → length name ≤ 16383
name_short b name key v value e r =
    let p = then-so (b.payload v) key_value_at value r in
    let long = value-facts p.0 value p.2 in
    let among = found_among (is_value_named b name) (value_places b key) v e in
    let same = folds_length name value.name (named_folds b name v value r among.passes) in
    omega (arith, long, same)

pub edit_there : (b : Cells) (version : HiveVersion) (root : ℕ) (t : Tree) (path : List (List ℕ)) (name : List ℕ) (kind : ℕ)
    (bytes : List ℕ) (v : ℕ) → IsWellFormed b root t
    → InsideThere b path name root v → length bytes ≤ 4 → EditThere version t path name kind bytes
edit_there b version root t path name kind bytes v well i short =
    let there = key_there b path root t i.key well i.place in
    let item = short_item b name i.key v there.there i.value there.well i.named i.read i.inside in
    let bulk = same_bulk version t there.there path name kind bytes item.item there.found item.found item.short short in
    let few = name_short b name i.key v i.value i.named i.read in
    record {
      step = made path name kind bytes t (ap is_none there.found) (le-ltb 16383 (length name) few)
          (le-ltb 1048576 (length bytes) (omega arith));
      edit = set_edited version t there.there path name kind bytes there.found few (omega arith)
          ∙ ap (λ (n : ℕ). cond (nat_lt most_bulk n) (Err full) (Ok (set_tree path name kind bytes t))) bulk;
      bulk = bulk;
    }

abbrev refused : Refusal → Result Tree Refusal
refused why = Err why

-- over the greatest bulk the edit is refused
pub set_full : (old : Opened) (heap : List Bin) (root : ℕ) (version : HiveVersion) (bulk : ℕ) (h : HiveCells)
    (path : List (List ℕ)) (name : List ℕ) (kind : ℕ) (bytes : List ℕ) (v : ℕ)
    → IsHive old.bins root version bulk → hive_of old root version ≡ h → inside_place (cells_in h) path name h.root ≡ some v
    → length bytes ≤ 4 → 16773120 < bulk
    → edited h.version h.tree (set_value path name kind bytes ∷ []) ≡ refused full
set_full old heap root version bulk h path name kind bytes v is view e short big =
    subst (λ (g : HiveCells). edited g.version g.tree (set_value path name kind bytes ∷ []) ≡ refused full) view
    (let b = look_up version old.bins in
    let t = tree_of b root in
    let i = inside_there b path name root v
    (subst (λ (g : HiveCells). inside_place (cells_in g) path name g.root ≡ some v) (sym view) e) in
    let d = edit_there b version root t path name kind bytes v is.stands i short in
    let over : nat_lt most_bulk (bulk_of version t) ≡ true =
    lt-ltb most_bulk (bulk_of version t) (subst (λ (n : ℕ). 16773120 < n) is.counted big) in
    d.edit ∙ ap (λ (q : Bool). cond q (Err full) (Ok (set_tree path name kind bytes t))) over)

-- a value that holds its data itself has no cells of data to free
pub inside_frees : (h : HiveCells) (path : List (List ℕ)) (name : List ℕ) (v : ℕ)
    → inside_place (cells_in h) path name h.root ≡ some v → (new : HiveCells) → FreesData h path name new
inside_frees h path name v e new = λ at there o i.
    let same : v ≡ at = some_same v at
    (sym (ap (option_and_then (value_place b name)) k.place ∙ k.named) ∙ there) in
    absurd (in_from [] o (subst (λ (l : List ℕ). Contains l o)
    (ap (data_places b) (sym same) ∙ ap (λ (q : Result KeyValue HiveFaultKind). of_read q cells) k.read
    ∙ none (data_inside k.value) refl k.inside) i))
  where
    b : Cells
    b = cells_in h

    cells : KeyValue → List ℕ
    cells value = used_in (data_checks b value)

    k : InsideThere b path name h.root v
    k = inside_there b path name h.root v e

    none : (o : Option (List ℕ)) → data_inside k.value ≡ o → is_some o ≡ true → cells k.value ≡ []
    none None f g = absurd cc
    none (Some bytes) f g = (data_held_inside b k.value bytes f).0

-- nor is its name new
pub inside_long : (h : HiveCells) (path : List (List ℕ)) (name : List ℕ) (v : ℕ)
    → inside_place (cells_in h) path name h.root ≡ some v → new_name_length (cells_in h) path name h.root ≤ 0
inside_long h path name v e =
    let k = inside_there (cells_in h) path name h.root v e in
    there_long h path name v (ap (option_and_then (value_place (cells_in h) name)) k.place ∙ k.named)

-- ---- where the search for it ends

pub inside_on : (cells : Cells) (path : List (List ℕ)) (name : List ℕ) (root key value : ℕ)
    → some key ≡ key_place cells path root → some value ≡ value_place cells name key
    → if_inside cells value ≡ inside_place cells path name root
inside_on cells path name root key value e f =
    ap (option_and_then (if_inside cells)) f
    ∙ ap (option_and_then (λ (k : ℕ). option_and_then (if_inside cells) (value_place cells name k))) e

pub inside_off_value : (cells : Cells) (path : List (List ℕ)) (name : List ℕ) (root key : ℕ)
    → some key ≡ key_place cells path root → nowhere ≡ value_place cells name key
    → nowhere ≡ inside_place cells path name root
inside_off_value cells path name root key e f =
    ap (option_and_then (if_inside cells)) f
    ∙ ap (option_and_then (λ (k : ℕ). option_and_then (if_inside cells) (value_place cells name k))) e

pub inside_off_key : (cells : Cells) (path : List (List ℕ)) (name : List ℕ) (root : ℕ)
    → nowhere ≡ key_place cells path root → nowhere ≡ inside_place cells path name root
inside_off_key cells path name root e =
    ap (option_and_then (λ (k : ℕ). option_and_then (if_inside cells) (value_place cells name k))) e

-- it is the hive's
pub inside_seen : (bins : Opened) (heap : List Bin) (root : ℕ) (version : HiveVersion) (h : HiveCells) (path : List (List ℕ))
    (name : List ℕ) → heap ≡ bins.bins → hive_of bins root version ≡ h
    → inside_place (look_up version heap) path name root ≡ inside_place (cells_in h) path name h.root
inside_seen bins heap root version h path name e view =
    ap (λ (b : List Bin). inside_place (look_up version b) path name root) e
    ∙ ap (λ (g : HiveCells). inside_place (cells_in g) path name g.root) view

-- the value's cell has room for its fields
pub patch_room : (old : Opened) (root : ℕ) (version : HiveVersion) (bulk : ℕ) (h : HiveCells) (path : List (List ℕ))
    (name : List ℕ) (v : ℕ) (part : List ℕ) → IsHive old.bins root version bulk
    → hive_of old root version ≡ h → inside_place (cells_in h) path name h.root ≡ some v → length part ≡ 12
    → IsSomeAnd (held_at old.bins v) (λ p. 4 + length part ≤ length p)
patch_room old root version bulk h path name v part is view e long =
    let b = look_up version old.bins in
    let i = inside_there b path name root v
    (subst (λ (g : HiveCells). inside_place (cells_in g) path name g.root ≡ some v) (sym view) e) in
    let p = then-so (b.payload v) key_value_at i.value i.read in
    let f = value_facts p.0 i.value p.2 in
    let room : 4 + length part ≤ length p.0 = omega (arith, long, f.long) in
    subst (λ (o : Option (List ℕ)). IsSomeAnd o (λ q. 4 + length part ≤ length q)) (sym (payload_held old.bins v p.0 p.1))
    room

pub fields_long : (size offset kind : ℕ) → length (value_fields size offset kind) ≡ 12
fields_long size offset kind = refl
