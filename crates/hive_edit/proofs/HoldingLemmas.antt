-- Whether the cells of a value hold some data.
use Rattle.std.proofs.Common.{◌≡◌, ◌≤◌, ◌<◌, ℕ, ◌+◌, ◌-◌, Bool, true, false, eqb, cond, List, [], ◌∷◌, ◌++◌, length, take, drop, Option, Some, None, Ok, Err, refl, sym, ap, subst, ◌∙◌, arith, length-append, length-take, take-append-drop}
use Rattle.std.specs.Prelude.{◌↔◌, ◌==◌, nat_lt, min}
use Rattle.std.specs.Result.{IsOk}
use Rattle.std.specs.Int.{w32, to_le_bytes}
use Rattle.std.proofs.Math.Seq.{take-length, drop-append-add}
use Rattle.std.proofs.lemmas.List.{take-append-le}
use Rattle.std.proofs.lemmas.Bool.{ltb-false, eqb-true, le-leb, lt-leb, ne_eqb}
use Rattle.nt_bytes.specs.declared.fault.HiveFaultKind.TheVariants.{FormShort, FormLength}
use Rattle.nt_bytes.specs.declared.version.HiveVersion.{HiveVersion}
use Rattle.nt_bytes.specs.Fields.{u32_in}
use Rattle.nt_bytes.specs.Reading.{◌>>=◌}
use Rattle.hive_model.specs.Bins.{Bin, Cells, look_up}
use Rattle.hive_model.specs.Forms.{bytes_in}
use Rattle.hive_model.specs.KeyValue.{KeyValue, is_in_place, data_inside}
use Rattle.hive_model.specs.BigData.{BigData, big_data_at}
use Rattle.hive_model.specs.Lists.{offsets_in}
use Rattle.hive_model.specs.Size.{segment_bytes, is_big, segment_count, segment_part}
use Rattle.hive_model.specs.Tree.{Item, find_item}
use Rattle.hive_model.specs.Walk.{reading, big_data_of}
use Rattle.hive_model.specs.Footprint.{key_place}
use Rattle.hive_model.specs.Stands.{joined_segments, big_bytes_at, data_of, item_at}
use Rattle.hive_read.proofs.FormFacts.{unless, then-so}
use Rattle.key_index.specs.Lists.{payload_in}
use Rattle.key_index.proofs.Below.{in_payload}
use Rattle.key_index.proofs.Tests.{value_of, is_ok_of}
use Rattle.edited_cells.proofs.FromCells.{data_held_inside, data_in_cell, data_in_segments}
use Rattle.hive_edit.specs.Found.{HoldsValue}
use Rattle.hive_edit.specs.Gone.{with_data, HasData}
use Rattle.hive_edit.specs.Hive.{HiveCells, hive_of, IsHive}
use Rattle.hive_look.specs.Places.{IsItemHere, value_place}
use Rattle.hive_look.proofs.ResultLemmas.{done, some, some_same, only_if, ok_same}
use Rattle.hive_look.proofs.ItemLemmas.{item_facts}
use Rattle.hive_edit.proofs.HiveLemmas.{stands_there, subtree_nowhere}
use Rattle.hive_look.proofs.PlaceLemmas.{IsItemAt, KeyThere, key_there, place_of_item}
use Rattle.hive_cells.specs.Opened.{Opened}

-- ---- that many bytes of a payload

there : (n : ℕ) (p bytes : List ℕ) → bytes_in n p ≡ done bytes → (n ≤ length p) × (take n p ≡ bytes)
unfolding bytes_in
there n p bytes e =
    let t = unless (nat_lt (length p) n) FormShort (Ok (take n p)) bytes e in
    (ltb-false (length p) n t.0, ok_same (take n p) bytes t.1)

pub part_there : (cells : Cells) (n at : ℕ) (bytes : List ℕ) → reading (bytes_in n) cells at ≡ done bytes
    → (n ≤ length (payload_in cells at)) × (take n (payload_in cells at) ≡ bytes)
part_there cells n at bytes e = there n (payload_in cells at) bytes (in_payload (bytes_in n) cells at bytes e)

-- what is known of one is known of what is equal to it
other_side : (P : Type 0) (a b bytes : List ℕ) → a ≡ b → (P ↔ (a ≡ bytes)) → (P ↔ (b ≡ bytes))
other_side P a b bytes e h = (λ p. sym e ∙ h.0 p, λ f. h.1 (e ∙ f))

-- ---- segments

-- what a segment and those after it are
pub record Parts (cells : Cells) (n at : ℕ) (more bytes : List ℕ) : Type 0 where
  part : List ℕ
  others : List ℕ
  read : reading (bytes_in (segment_part n)) cells at ≡ done part
  rest : joined_segments cells (n - segment_bytes) more ≡ done others
  whole : part ++ others ≡ bytes

parts : (cells : Cells) (n at : ℕ) (more bytes : List ℕ) → joined_segments cells n (at ∷ more) ≡ done bytes
    → Parts cells n at more bytes
parts cells n at more bytes e =
    let part = then-so (reading (bytes_in (segment_part n)) cells at)
    (λ xs. joined_segments cells (n - segment_bytes) more >>= λ ys. Ok (xs ++ ys)) bytes e in
    let others = then-so (joined_segments cells (n - segment_bytes) more) (λ ys. Ok (part.0 ++ ys)) bytes part.2 in
    record {
      part = part.0;
      others = others.0;
      read = part.1;
      rest = others.1;
      whole = ok_same (part.0 ++ others.0) bytes others.2;
    }

-- the segments that are left are these bytes exactly where all are those
pub record SameLeft (cells : Cells) (size left : ℕ) (offsets rest bytes want : List ℕ) : Type 0 where
  pub all : List ℕ
  pub others : List ℕ
  pub joined : joined_segments cells size offsets ≡ done all
  pub behind : joined_segments cells left rest ≡ done others
  pub same : (others ≡ want) ↔ (all ≡ bytes)

all_is : (cells : Cells) (size : ℕ) (offsets all b bytes : List ℕ) (P : Type 0)
    → joined_segments cells size offsets ≡ done all → joined_segments cells size offsets ≡ done b
    → (P ↔ (all ≡ bytes)) → (P ↔ (b ≡ bytes))
all_is cells size offsets all b bytes P a e h = other_side P all b bytes (ok_same all b (sym a ∙ e)) h

-- a segment, by the numbers of the code
pub record OneMore (cells : Cells) (size left at part : ℕ) (offsets rest more bytes want : List ℕ) : Type 0 where
  pub s : SameLeft cells size left offsets rest bytes want
  pub p : Parts cells left at more s.others
  pub there : part ≤ length (payload_in cells at)
  pub part_is : p.part ≡ take part (payload_in cells at)
  pub long : length p.part ≡ part

pub one_more : (cells : Cells) (size left at part : ℕ) (offsets rest more bytes want : List ℕ)
    → SameLeft cells size left offsets rest bytes want → rest ≡ at ∷ more → part ≡ min 16344 left
    → OneMore cells size left at part offsets rest more bytes want
one_more cells size left at part offsets rest more bytes want s is n =
    let p = parts cells left at more s.others (sym (ap (joined_segments cells left) is) ∙ s.behind) in
    let r = part_there cells (segment_part left) at p.part p.read in
    record {
      s = s;
      p = p;
      there = omega (arith, n, r.0);
      part_is = sym r.1 ∙ ap (λ (k : ℕ). take k (payload_in cells at)) (sym n);
      long = ap length (sym r.1) ∙ length-take (segment_part left) (payload_in cells at) ∙ small (segment_part left) _ r.0 ∙ sym n;
    }
  where
    small : (a b : ℕ) → a ≤ b → min a b ≡ a
    small a b le = omega arith

front_of : (n : ℕ) (a b : List ℕ) → length a ≡ n → take n (a ++ b) ≡ a
front_of n a b e = take-append-le n a b (omega (arith, e)) ∙ ap (λ (k : ℕ). take k a) (sym e) ∙ take-length a

back_of : (n : ℕ) (a b : List ℕ) → length a ≡ n → drop n (a ++ b) ≡ b
back_of n a b e =
    let z : n ≡ length a + 0 = omega (arith, e) in
    ap (λ (k : ℕ). drop k (a ++ b)) z ∙ drop-append-add a b 0

module _ {cells : Cells} {size left at part : ℕ} {offsets rest more bytes want : List ℕ}
    (m : OneMore cells size left at part offsets rest more bytes want) where
  -- too few bytes are wanted
  pub too_few : length want < part → (b : List ℕ) → joined_segments cells size offsets ≡ done b
      → ((false ≡ true) ↔ (b ≡ bytes))
  too_few few b e =
      all_is cells size offsets m.s.all b bytes (false ≡ true) m.s.joined e (
        λ none. absurd cc,
        λ whole. absurd (
            omega (arith, few, m.long, length-append m.p.part m.p.others, ap length (m.p.whole ∙ m.s.same.1 whole))),
      )

  pub segment_fits : (payload : List ℕ) → payload ≡ payload_in cells at → part ≤ length payload
  segment_fits payload e = omega (arith, m.there, ap length e)

  -- that is not what is wanted
  pub not_wanted : (payload front : List ℕ) (t : Bool) → payload ≡ payload_in cells at → front ≡ take part want
      → ((t ≡ true) ↔ (take part payload ≡ front)) → t ≡ false
      → (b : List ℕ) → joined_segments cells size offsets ≡ done b → ((false ≡ true) ↔ (b ≡ bytes))
  not_wanted payload front t e f test off b j =
      all_is cells size offsets m.s.all b bytes (false ≡ true) m.s.joined j (
        λ bad. absurd cc,
        λ whole.
            absurd (let so : t ≡ true = test.1 (ap (take part) e ∙ sym m.part_is
            ∙ sym (front_of part m.p.part m.p.others m.long) ∙ ap (take part) (m.p.whole ∙ m.s.same.1 whole) ∙ sym f) in cc),
      )

  -- that is what is wanted, and the others are left
  pub one_wanted : (payload front : List ℕ) (t : Bool) → payload ≡ payload_in cells at → front ≡ take part want
      → ((t ≡ true) ↔ (take part payload ≡ front)) → t ≡ true
      → SameLeft cells size (left - 16344) offsets more bytes (drop part want)
  one_wanted payload front t e f test on =
      let here : m.p.part ≡ take part want = m.part_is ∙ ap (take part) (sym e) ∙ test.0 on ∙ f in
      record {
        all = m.s.all;
        others = m.p.others;
        joined = m.s.joined;
        behind = m.p.rest;
        same = (
          λ back. m.s.same.0 (sym m.p.whole ∙ (λ i. here i ++ back i) ∙ take-append-drop part want),
          λ whole. sym (back_of part m.p.part m.p.others m.long) ∙ ap (drop part) (m.p.whole ∙ m.s.same.1 whole),
        );
      }

-- ---- big data

pub big_joined : (cells : Cells) (n at : ℕ) (p q os : List ℕ) (db : BigData) → p ≡ payload_in cells at
    → big_data_at p ≡ done db → q ≡ payload_in cells db.list → offsets_in db.segments q ≡ done os
    → (bytes : List ℕ) → big_bytes_at cells n at ≡ done bytes → joined_segments cells n os ≡ done bytes
unfolding big_bytes_at big_data_of
big_joined cells n at p q os db e r g l bytes h =
    let b = then-so (reading (big_data_of n) cells at)
    (λ big. reading (offsets_in big.segments) cells big.list >>= joined_segments cells n) bytes h in
    let o = then-so (reading (offsets_in b.0.segments) cells b.0.list) (joined_segments cells n) bytes b.2 in
    let here = in_payload (big_data_of n) cells at b.0 b.1 in
    let d = then-so (big_data_at (payload_in cells at))
    (λ big. cond (eqb big.segments (segment_count n)) (Ok big) (Err FormLength)) b.0 here in
    let w = only_if (eqb d.0.segments (segment_count n)) FormLength (Ok d.0) b.0 d.2 in
    let same : b.0 ≡ db = sym (ok_same d.0 b.0 w.1) ∙ ok_same d.0 db (sym d.1 ∙ ap big_data_at (sym e) ∙ r) in
    let listed = in_payload (offsets_in b.0.segments) cells b.0.list o.0 o.1 in
    let all : o.0 ≡ os =
    ok_same o.0 os (sym listed ∙ ap (λ (z : BigData). offsets_in z.segments (payload_in cells z.list)) same
    ∙ ap (offsets_in db.segments) (sym g) ∙ l) in
    ap (joined_segments cells n) (sym all) ∙ o.2

pub big_is_joined : (cells : Cells) (n at : ℕ) (p q os : List ℕ) (db : BigData) → IsOk (big_bytes_at cells n at)
    → p ≡ payload_in cells at
    → big_data_at p ≡ done db → q ≡ payload_in cells db.list → offsets_in db.segments q ≡ done os
    → IsOk (joined_segments cells n os)
big_is_joined cells n at p q os db ok e r g l =
    let v = value_of (big_bytes_at cells n at) ok in
    is_ok_of (joined_segments cells n os) v.0 (big_joined cells n at p q os db e r g l v.0 v.1)

-- ---- data

-- data in the number of their place
pub inside_is : (cells : Cells) (size place : ℕ) (bytes b : List ℕ) (t : Bool) → 2147483648 ≤ size
    → ((t ≡ true) ↔ (take (size - 2147483648) (to_le_bytes w32 place) ≡ bytes))
    → data_of cells (with_data size place) ≡ done b → ((t ≡ true) ↔ (b ≡ bytes))
inside_is cells size place bytes b t big test e =
    let in_place : is_in_place size ≡ true = le-leb 2147483648 size big in
    let held : data_inside (with_data size place) ≡ some (take (size - 2147483648) (to_le_bytes w32 place)) =
    ap (λ (z : Bool). cond z (some (take (size - 2147483648) (to_le_bytes w32 place))) (cond (size == 0) (Some []) None))
    in_place in
    other_side (t ≡ true) (take (size - 2147483648) (to_le_bytes w32 place)) b bytes
    (ok_same (take (size - 2147483648) (to_le_bytes w32 place)) b
    (sym (data_held_inside cells (with_data size place) (take (size - 2147483648) (to_le_bytes w32 place)) held).1 ∙ e)) test

-- none
pub none_is : (cells : Cells) (size place : ℕ) (bytes b : List ℕ) (t : Bool) → size ≡ 0
    → ((t ≡ true) ↔ (bytes ≡ []))
    → data_of cells (with_data size place) ≡ done b → ((t ≡ true) ↔ (b ≡ bytes))
none_is cells size place bytes b t zero test e =
    let held : data_inside (with_data size place) ≡ some [] =
    ap (λ (n : ℕ). cond (is_in_place n) (some (take (n - 2147483648) (to_le_bytes w32 place))) (cond (n == 0) (some []) None)) zero in
    let same : [] ≡ b = ok_same [] b (sym (data_held_inside cells (with_data size place) [] held).1 ∙ e) in
    (λ so. sym same ∙ sym (test.0 so), λ f. test.1 (sym f ∙ sym same))

outside : (size place : ℕ) → size < 2147483648 → (size ≡ 0 → ⊥) → data_inside (with_data size place) ≡ None
outside size place small some_of =
    (λ i. cond (lt-leb 2147483648 size small i) (some (take (size - 2147483648) (to_le_bytes w32 place)))
    (cond (ne_eqb size 0 some_of i) (some []) None))

-- big data
pub big_is : (cells : Cells) (size place : ℕ) → size < 2147483648 → (size ≡ 0 → ⊥) → is_big cells.version size ≡ true
    → data_of cells (with_data size place) ≡ big_bytes_at cells size place
big_is cells size place small some_of big =
    (data_in_segments cells (with_data size place) (outside size place small some_of) big).1

pub big_read : (cells : Cells) (size place : ℕ) → HasData cells size place → size < 2147483648 → (size ≡ 0 → ⊥)
    → is_big cells.version size ≡ true → IsOk (big_bytes_at cells size place)
big_read cells size place h small some_of big = subst IsOk (big_is cells size place small some_of big) h

-- data in a cell
pub cell_is : (cells : Cells) (size place : ℕ) → size < 2147483648 → (size ≡ 0 → ⊥) → is_big cells.version size ≡ false
    → data_of cells (with_data size place) ≡ reading (bytes_in size) cells place
cell_is cells size place small some_of big =
    (data_in_cell cells (with_data size place) (outside size place small some_of) big).1

pub cell_fits : (cells : Cells) (size place : ℕ) (p : List ℕ) → HasData cells size place → size < 2147483648
    → (size ≡ 0 → ⊥) → is_big cells.version size ≡ false → p ≡ payload_in cells place → size ≤ length p
cell_fits cells size place p h small some_of big e =
    let v = value_of (data_of cells (with_data size place)) h in
    let r = part_there cells size place v.0 (sym (cell_is cells size place small some_of big) ∙ v.1) in
    omega (arith, r.0, ap length e)

pub celled_is : (cells : Cells) (size place : ℕ) (p bytes b : List ℕ) (t : Bool) → size < 2147483648
    → (size ≡ 0 → ⊥) → is_big cells.version size ≡ false → p ≡ payload_in cells place
    → ((t ≡ true) ↔ (take size p ≡ bytes))
    → data_of cells (with_data size place) ≡ done b → ((t ≡ true) ↔ (b ≡ bytes))
celled_is cells size place p bytes b t small some_of big e test d =
    let r = part_there cells size place b (sym (cell_is cells size place small some_of big) ∙ d) in
    other_side (t ≡ true) (take size p) b bytes (ap (take size) e ∙ r.1) test

-- ---- a value

same_data : (cells : Cells) (value : KeyValue) → data_of cells value ≡ data_of cells (with_data value.size value.offset)
unfolding data_of
same_data cells value = refl

-- the data of a value, by its size and place
pub value_data : (cells : Cells) (at size place : ℕ) (p : List ℕ) → IsItemHere cells at → p ≡ payload_in cells at
    → size ≡ u32_in p 4 → place ≡ u32_in p 8
    → (v : Item) → item_at cells at ≡ done v → data_of cells (with_data size place) ≡ done v.bytes
value_data cells at size place p h e s o v is =
    let f = item_facts cells at h in
    let is_size : f.value.size ≡ size =
    ap (λ (w : KeyValue). w.size) f.facts.is ∙ ap (λ (x : List ℕ). u32_in x 4) (sym e) ∙ sym s in
    let is_place : f.value.offset ≡ place =
    ap (λ (w : KeyValue). w.offset) f.facts.is ∙ ap (λ (x : List ℕ). u32_in x 8) (sym e) ∙ sym o in
    let same : f.item ≡ v = ok_same f.item v (sym f.stands ∙ is) in
    (λ i. data_of cells (with_data (sym is_size i) (sym is_place i))) ∙ sym (same_data cells f.value) ∙ f.bytes
    ∙ ap (λ (w : Item). done w.bytes) same

pub has_data : (cells : Cells) (at size place : ℕ) (p : List ℕ) → IsItemHere cells at → p ≡ payload_in cells at
    → size ≡ u32_in p 4 → place ≡ u32_in p 8 → HasData cells size place
has_data cells at size place p h e s o =
    let v = value_of (item_at cells at) h in
    is_ok_of (data_of cells (with_data size place)) v.0.bytes (value_data cells at size place p h e s o v.0 v.1)

pub size_fits : (cells : Cells) (at size : ℕ) (p : List ℕ) → IsItemHere cells at → p ≡ payload_in cells at
    → size ≡ u32_in p 4 → size ≤ 2147483652
size_fits cells at size p h e s =
    let f = item_facts cells at h in
    let is_size : f.value.size ≡ size =
    ap (λ (w : KeyValue). w.size) f.facts.is ∙ ap (λ (x : List ℕ). u32_in x 4) (sym e) ∙ sym s in
    omega (arith, is_size, ltb-false 2147483652 f.value.size f.facts.fits)

kind_there : (cells : Cells) (at kind : ℕ) (p : List ℕ) → IsItemHere cells at → p ≡ payload_in cells at
    → kind ≡ u32_in p 12 → (v : Item) → item_at cells at ≡ done v → v.kind ≡ kind
kind_there cells at kind p h e k v is =
    let f = item_facts cells at h in
    let same : f.item ≡ v = ok_same f.item v (sym f.stands ∙ is) in
    ap (λ (w : Item). w.kind) (sym same) ∙ f.kind ∙ ap (λ (w : KeyValue). w.kind) f.facts.is
    ∙ ap (λ (x : List ℕ). u32_in x 12) (sym e) ∙ sym k

pub other_kind : (cells : Cells) (at own kind : ℕ) (p bytes : List ℕ) → IsItemHere cells at → p ≡ payload_in cells at
    → own ≡ u32_in p 12 → (own ≡ kind → ⊥)
    → (v : Item) → item_at cells at ≡ done v → ((false ≡ true) ↔ (v.kind ≡ kind) × (v.bytes ≡ bytes))
other_kind cells at own kind p bytes h e k other v is =
    (λ none. absurd cc, λ both. absurd (other (sym (kind_there cells at own p h e k v is) ∙ both.0)))

pub this_kind : (cells : Cells) (at own kind size place : ℕ) (p bytes : List ℕ) (t : Bool) → IsItemHere cells at
    → p ≡ payload_in cells at → own ≡ u32_in p 12 → own ≡ kind → size ≡ u32_in p 4 → place ≡ u32_in p 8
    → ((b : List ℕ) → data_of cells (with_data size place) ≡ done b → ((t ≡ true) ↔ (b ≡ bytes)))
    → (v : Item) → item_at cells at ≡ done v → ((t ≡ true) ↔ (v.kind ≡ kind) × (v.bytes ≡ bytes))
this_kind cells at own kind size place p bytes t h e k same s o test v is =
    let d = test v.bytes (value_data cells at size place p h e s o v is) in
    (λ so. (kind_there cells at own p h e k v is ∙ same, d.0 so), λ both. d.1 both.1)

-- ---- a value of a key

pub no_key_holds : (bins : Opened) (heap : List Bin) (root : ℕ) (version : HiveVersion) (bulk : ℕ) (h : HiveCells)
    (path : List (List ℕ)) (name : List ℕ) (kind : ℕ) (bytes : List ℕ) → IsHive bins.bins root version bulk
    → heap ≡ bins.bins → hive_of bins root version ≡ h → None ≡ key_place (look_up version heap) path root
    → ((false ≡ true) ↔ HoldsValue path name kind bytes h.tree)
no_key_holds bins heap root version bulk h path name kind bytes is e view p = (
  λ none. absurd cc,
  λ holds. absurd (let gone = subtree_nowhere bins heap root version bulk h path is e view p in
      let both : None ≡ some holds.key = gone ∙ holds.at in cc),
)

-- what a value's place says of it
module _ (bins : Opened) (heap : List Bin) (root : ℕ) (version : HiveVersion) (bulk : ℕ) (h : HiveCells)
    (path : List (List ℕ)) (name : List ℕ) (kind : ℕ) (bytes : List ℕ) (key : ℕ) (is : IsHive bins.bins root version bulk)
    (e : heap ≡ bins.bins) (view : hive_of bins root version ≡ h)
    (p : Some key ≡ key_place (look_up version heap) path root) where
  here : KeyThere (look_up version heap) path h.tree key
  here = key_there (look_up version heap) path root h.tree key (stands_there bins heap root version bulk h is e view) (sym p)

  placed : IsItemAt (look_up version heap) (value_place (look_up version heap) name key) (find_item name here.there)
  placed = place_of_item (look_up version heap) name key here.there here.well

  pub no_value_holds : None ≡ value_place (look_up version heap) name key
      → ((false ≡ true) ↔ HoldsValue path name kind bytes h.tree)
  no_value_holds v = (
    λ none. absurd cc,
    λ holds. absurd (go (find_item name here.there) refl
        (subst (λ (o : Option ℕ). IsItemAt (look_up version heap) o (find_item name here.there)) (sym v) placed) holds),
  )
    where
      go : (o : Option Item) → find_item name here.there ≡ o → IsItemAt (look_up version heap) None o
          → HoldsValue path name kind bytes h.tree → ⊥
      go (Some w) f bad holds = bad
      go None f ok holds =
          let same : here.there ≡ holds.key = some_same here.there holds.key (sym here.found ∙ holds.at) in
          let both : None ≡ some holds.value = sym f ∙ ap (find_item name) same ∙ holds.found in
          cc

  pub value_holds : (at : ℕ) (t : Bool) → Some at ≡ value_place (look_up version heap) name key
      → ((v : Item) → item_at (look_up version heap) at ≡ done v → ((t ≡ true) ↔ (v.kind ≡ kind) × (v.bytes ≡ bytes)))
      → ((t ≡ true) ↔ HoldsValue path name kind bytes h.tree)
  value_holds at t v test = go (find_item name here.there) refl
      (subst (λ (o : Option ℕ). IsItemAt (look_up version heap) o (find_item name here.there)) (sym v) placed)
    where
      go : (o : Option Item) → find_item name here.there ≡ o → IsItemAt (look_up version heap) (Some at) o
          → ((t ≡ true) ↔ HoldsValue path name kind bytes h.tree)
      go None f bad = absurd bad
      go (Some w) f stands =
          let d = test w stands in (
            λ so. record {
              key = here.there;
              value = w;
              at = here.found;
              found = f;
              kind_is = (d.0 so).0;
              bytes_are = (d.0 so).1;
            },
            λ holds.
                let same : here.there ≡ holds.key = some_same here.there holds.key (sym here.found ∙ holds.at) in
                let item : holds.value ≡ w =
                some_same holds.value w (sym holds.found ∙ ap (find_item name) (sym same) ∙ f) in
                d.1 (ap (λ (i : Item). i.kind) (sym item) ∙ holds.kind_is, ap (λ (i : Item). i.bytes) (sym item) ∙ holds.bytes_are),
          )

pub big_given : (cells : Cells) (size place : ℕ) (bytes : List ℕ) (t : Bool) → size < 2147483648 → (size ≡ 0 → ⊥)
    → is_big cells.version size ≡ true
    → ((b : List ℕ) → big_bytes_at cells size place ≡ done b → ((t ≡ true) ↔ (b ≡ bytes)))
    → (b : List ℕ) → data_of cells (with_data size place) ≡ done b → ((t ≡ true) ↔ (b ≡ bytes))
big_given cells size place bytes t small some_of big test b e =
    test b (sym (big_is cells size place small some_of big) ∙ e)

pub empty_is : (bytes : List ℕ) (t : Bool) → t ≡ (length bytes == 0) → ((t ≡ true) ↔ (bytes ≡ []))
empty_is bytes t e = (
  λ so. none_of_it bytes (eqb-true (length bytes) 0 (sym e ∙ so)),
  λ none. e ∙ ap (λ (l : List ℕ). length l == 0) none,
)
  where
    none_of_it : (l : List ℕ) → length l ≡ 0 → l ≡ []
    none_of_it [] z = refl
    none_of_it (x ∷ xs) z = absurd (omega (arith, z))
