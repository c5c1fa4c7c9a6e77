-- A value that is there, set in place: the edit, the bulk, and the hive after it.
use Rattle.std.proofs.Common.{◌≡◌, ◌≤◌, ◌<◌, ◌^◌, ◌⊎◌, inl, inr, ℕ, ◌+◌, ◌-◌, List, [], ◌∷◌, length, Option, Some, None, Result, refl, sym, ap, subst, ◌∙◌, arith}
use Rattle.std.specs.Option.{is_none, option_and_then, option_map, IsSome, IsSomeAnd}
use Rattle.std.specs.List.{All, Contains}
use Rattle.std.proofs.lemmas.Bool.{le-ltb}
use Rattle.nt_bytes.specs.declared.fault.HiveFaultKind.{HiveFaultKind}
use Rattle.nt_bytes.specs.declared.version.HiveVersion.{HiveVersion}
use Rattle.nt_bytes.specs.Folding.{folds_same}
use Rattle.nt_bytes.specs.Reading.{◌>>=◌}
use Rattle.hive_model.specs.Bins.{Bin, Cells, bins_size, look_up}
use Rattle.hive_model.specs.KeyValue.{KeyValue, key_value_at}
use Rattle.hive_model.specs.Size.{cell, name_bytes, data_size, items_size, size, bulk_of}
use Rattle.hive_model.specs.Tree.{Tree, Item, head, find_key, find_item}
use Rattle.hive_model.specs.Edit.{set_value, after_step, with_item}
use Rattle.hive_model.specs.Walk.{reading, value_checks, data_checks}
use Rattle.hive_model.specs.Footprint.{used_in, key_place, is_value_named}
use Rattle.hive_model.specs.Stands.{item_at, IsWellFormed}
use Rattle.hive_cells.specs.Opened.{Opened}
use Rattle.hive_cells.specs.Held.{held_at, patched}
use Rattle.hive_cells.proofs.HeldLemmas.{payload_held, held_payload}
use Rattle.key_index.specs.Relists.{AreApart}
use Rattle.edited_cells.specs.Owned.{In}
use Rattle.edited_cells.specs.Framed.{IsUnheld}
use Rattle.edited_cells.specs.Pairs.{Pairwise}
use Rattle.edited_cells.specs.Changes.{GetsData}
use Rattle.edited_cells.specs.Done.{item, IsDone}
use Rattle.edited_cells.proofs.FromCells.{item_is, value_uses, name_of_value}
use Rattle.edited_cells.proofs.Ins.{in_from}
use Rattle.edited_cells.proofs.ItemSizes.{set_size}
use Rattle.edited_cells.proofs.Patches.{value_written}
use Rattle.edited_cells.proofs.Sizes.{revalued_size}
use Rattle.edited_cells.proofs.ValueCells.{data_set}
use Rattle.hive_edit.specs.Edits.{value_fields}
use Rattle.hive_edit.specs.Given.{with_fields, place_in, IsGiven}
use Rattle.hive_edit.specs.Hive.{HiveCells, cells_in, hive_of, IsHive}
use Rattle.hive_edit.specs.NewValue.{set_tree}
use Rattle.hive_look.specs.Places.{value_places, value_place, data_places, data_room, room_for_item, IsItemHere}
use Rattle.hive_edit.specs.Standing.{tree_of}
use Rattle.hive_look.proofs.ResultLemmas.{done, some}
use Rattle.hive_edit.proofs.EditLemmas.{made, the_tree}
use Rattle.hive_edit.proofs.InPlaceLemmas.{found_among, named_folds}
use Rattle.hive_look.proofs.PlaceLemmas.{places_same}
use Rattle.hive_look.proofs.ItemLemmas.{item_facts, value_facts}
use Rattle.hive_edit.proofs.LowLemmas.{bulk_is, bulk_then}
use Rattle.hive_look.proofs.PlaceLemmas.{key_there, IsItemAt, place_of_item}
use Rattle.hive_edit.proofs.SetLemmas.{name_short}
use Rattle.hive_edit.proofs.StepLemmas.{ValueOwn, value_own, data_held, data_apart}
use Rattle.hive_edit.proofs.KeyLemmas.{node_read}
use Rattle.key_index.proofs.Tests.{is_ok_of}
use Rattle.hive_read.proofs.FormFacts.{then-so}

-- ---- where it is

pub record ThereIs (b : Cells) (t : Tree) (root : ℕ) (path : List (List ℕ)) (name : List ℕ) (v : ℕ) : Type 0 where
  pub key : ℕ
  pub place : key_place b path root ≡ some key
  pub named : value_place b name key ≡ some v
  pub tree : Tree
  pub found : find_key path t ≡ some tree
  pub well : IsWellFormed b key tree
  pub one : Item
  pub there : find_item name tree ≡ some one
  pub stands : item_at b v ≡ done one
  pub value : KeyValue
  pub read : reading key_value_at b v ≡ done value

pub there_is : (b : Cells) (t : Tree) (root : ℕ) (path : List (List ℕ)) (name : List ℕ) (v : ℕ) → IsWellFormed b root t
    → place_in b path name root ≡ some v → ThereIs b t root path name v
there_is b t root path name v well e = go (key_place b path root) refl e
  where
    with_item_there : (key : ℕ) → key_place b path root ≡ some key → value_place b name key ≡ some v → (k : Tree)
        → find_key path t ≡ some k → IsWellFormed b key k
        → (o : Option Item) → find_item name k ≡ o → IsItemAt b (some v) o → ThereIs b t root path name v
    with_item_there key p n k f w None i h = absurd h
    with_item_there key p n k f w (Some one) i h =
        let facts = item_facts b v (is_ok_of (item_at b v) one h) in
        record {
          key = key;
          place = p;
          named = n;
          tree = k;
          found = f;
          well = w;
          one = one;
          there = i;
          stands = h;
          value = facts.value;
          read = facts.read;
        }

    go : (o : Option ℕ) → key_place b path root ≡ o → option_and_then (value_place b name) o ≡ some v
        → ThereIs b t root path name v
    go None p n = absurd cc
    go (Some key) p n =
        let k = key_there b path root t key well p in
        with_item_there key p n k.there k.found k.well (find_item name k.there) refl
        (subst (λ (o : Option ℕ). IsItemAt b o (find_item name k.there)) n (place_of_item b name key k.there k.well))

-- ---- the bulk

resized : (version : HiveVersion) (t k : Tree) (path : List (List ℕ)) (name : List ℕ) (kind : ℕ) (bytes : List ℕ)
    (one : Item) → find_key path t ≡ some k → find_item name k ≡ some one
    → size version [] (set_tree path name kind bytes t) + data_size version one.bytes ≡ size version [] t
    + data_size version bytes
resized version t k path name kind bytes one found there =
    sum (size version [] (set_tree path name kind bytes t)) (size version [] t) (items_size version (head k).values)
    (items_size version (with_item name kind bytes (head k).values))
    (cell (20 + name_bytes one.name)) (data_size version one.bytes) (data_size version bytes)
    (revalued_size version [] path t k (with_item name kind bytes) found)
    (set_size version name kind bytes (head k).values one there)
  where
    sum : (x y i j c d e : ℕ) → x + i ≡ y + j → j + (c + d) ≡ i + (c + e) → x + d ≡ y + e
    sum x y i j c d e p q = omega (arith, p, q)

-- ---- the edit

-- it is made
pub edit_there : (b : Cells) (root : ℕ) (t : Tree) (path : List (List ℕ)) (name : List ℕ) (kind : ℕ) (bytes : List ℕ)
    (v : ℕ) → ThereIs b t root path name v
    → length bytes ≤ 1048576 → after_step (set_value path name kind bytes) t
    ≡ the_tree (set_tree path name kind bytes t)
edit_there b root t path name kind bytes v i few =
    made path name kind bytes t (ap is_none i.found)
    (le-ltb 16383 (length name) (name_short b name i.key v i.value i.named i.read))
    (le-ltb 1048576 (length bytes) few)

pub there_in : (bins : Opened) (root : ℕ) (version : HiveVersion) (bulk : ℕ) (h : HiveCells) (path : List (List ℕ))
    (name : List ℕ) (v : ℕ) → IsHive bins.bins root version bulk
    → hive_of bins root version ≡ h → place_in (cells_in h) path name h.root ≡ some v
    → ThereIs (look_up version bins.bins) (tree_of (look_up version bins.bins) root) root path name v
there_in bins root version bulk h path name v is view e =
    there_is (look_up version bins.bins) (tree_of (look_up version bins.bins) root) root path name v is.stands
    (subst (λ (g : HiveCells). place_in (cells_in g) path name g.root ≡ some v) (sym view) e)

pub there_step : (bins : Opened) (root : ℕ) (version : HiveVersion) (bulk : ℕ) (h : HiveCells) (path : List (List ℕ))
    (name : List ℕ) (kind : ℕ) (bytes : List ℕ) (v : ℕ)
    → IsHive bins.bins root version bulk → hive_of bins root version ≡ h → place_in (cells_in h) path name h.root ≡ some v
    → length bytes ≤ 1048576
    → after_step (set_value path name kind bytes) h.tree ≡ the_tree (set_tree path name kind bytes h.tree)
there_step bins root version bulk h path name kind bytes v is view e few =
    subst (λ (g : HiveCells). after_step (set_value path name kind bytes) g.tree
    ≡ the_tree (set_tree path name kind bytes g.tree)) view
    (edit_there (look_up version bins.bins) root (tree_of (look_up version bins.bins) root) path name kind bytes v
    (there_in bins root version bulk h path name v is view e) few)

room_is : (b : Cells) (v : ℕ) (one : Item) → item_at b v ≡ done one → data_room b v ≡ data_size b.version one.bytes
room_is b v one e = ap (room_for_item b.version) e

-- the bulk after the step
pub there_bulk : (bins : Opened) (root : ℕ) (version : HiveVersion) (bulk : ℕ) (h : HiveCells) (path : List (List ℕ))
    (name : List ℕ) (kind : ℕ) (bytes : List ℕ) (v has had : ℕ)
    → IsHive bins.bins root version bulk → hive_of bins root version ≡ h → place_in (cells_in h) path name h.root ≡ some v
    → bins_size bins.bins ≤ 16777216
    → has ≡ data_size version bytes → has ≤ 4294967296 → had ≡ data_room (look_up version bins.bins) v
    → (had ≤ bulk + has) × (bulk + has - had ≡ bulk_of h.version (set_tree path name kind bytes h.tree))
there_bulk bins root version bulk h path name kind bytes v has had is view e fit new few old =
    let b = look_up version bins.bins in
    let t = tree_of b root in
    let i = there_in bins root version bulk h path name v is view e in
    let room = old ∙ room_is b v i.one i.stands in
    let s : size version [] (set_tree path name kind bytes t) + had ≡ size version [] t + has =
    ap (λ (n : ℕ). size version [] (set_tree path name kind bytes t) + n) room
    ∙ resized version t i.tree path name kind bytes i.one i.found i.there
    ∙ ap (λ (n : ℕ). size version [] t + n) (sym new) in
    let d = bulk_then version t (set_tree path name kind bytes t) bulk has had (bulk_is bins.bins root version bulk is fit) s
    (omega (arith, few)) in (
      d.0,
      subst (λ (g : HiveCells). bulk + has - had ≡ bulk_of g.version (set_tree path name kind bytes g.tree))
          view d.1,
    )

-- ---- the cells

given_gets : (version : HiveVersion) (v kind : ℕ) (bytes : List ℕ) (old new : List Bin)
    → ValueOwn (look_up version old) v
    → IsGiven version v kind bytes (data_places (look_up version old) v) old new → kind < 2 ^ 32
    → GetsData (look_up version old) (look_up version new) v kind bytes
given_gets version v kind bytes old new own g kind_fits = record {
  version = refl;
  reads = item_is c v after bytes read_new (g.reads own.value)
      ∙ ap (λ (n : List ℕ). done (item n kind bytes)) (sym (name_of_value b v own.value own.read));
  others = λ o q e outside. held_payload new o q
      (g.kept o q (λ s. outside (subst (λ (l : List ℕ). In l o) (sym own.uses) (inl (sym s))))
      (λ k. outside (subst (λ (l : List ℕ). In l o) (sym own.uses) (inr (in_from (data_places b v) o k))))
      (payload_held old o q e));
  used = λ o i. of_used o (subst (λ (l : List ℕ). In l o) uses_new i);
  once = subst (Pairwise (λ p q. p ≡ q → ⊥)) (sym uses_new)
      ((λ y i e. unheld y i (p.0) (subst (λ (z : ℕ). b.payload z ≡ done p.0) e p.1)), g.once own.value);
}
  where
    b : Cells
    b = look_up version old

    c : Cells
    c = look_up version new

    after : KeyValue
    after = with_fields own.value g.size g.offset kind

    p : (p : List ℕ) × (b.payload v ≡ done p) × (key_value_at p ≡ done own.value)
    p = then-so (b.payload v) key_value_at own.value own.read

    read_new : reading key_value_at c v ≡ done after
    read_new =
        ap (λ (r : Result (List ℕ) HiveFaultKind). r >>= key_value_at)
        (held_payload new v (patched 4 (value_fields g.size g.offset kind) p.0)
        (g.here ∙ ap (option_map (patched 4 (value_fields g.size g.offset kind))) (payload_held old v p.0 p.1)))
        ∙ value_written p.0 own.value g.size g.offset kind p.2 g.size_fits g.offset_fits kind_fits g.not_over

    uses_new : used_in (value_checks c [] v) ≡ v ∷ used_in (data_checks c after)
    uses_new = value_uses c v after read_new

    none_held : (o : ℕ) → held_at old o ≡ None → IsUnheld b o
    none_held o n q e = absurd (let h = sym n ∙ payload_held old o q e in cc)

    unheld : (o : ℕ) → In (used_in (data_checks c after)) o → IsUnheld b o
    unheld o i = none_held o (g.fresh own.value o i)

    of_used : (o : ℕ) → In (v ∷ used_in (data_checks c after)) o → In (used_in (value_checks b [] v)) o ⊎ IsUnheld b o
    of_used o (inl e) = inl (subst (λ (l : List ℕ). In l o) (sym own.uses) (inl e))
    of_used o (inr i) = inr (unheld o i)

pub own_there : (b : Cells) (root : ℕ) (t : Tree) (path : List (List ℕ)) (name : List ℕ) (v : ℕ) → IsWellFormed b root t
    → ThereIs b t root path name v → ValueOwn b v
own_there b root t path name v well i = value_own b root t path name i.key v i.value well i.place i.named i.read

-- the step is done
pub there_done : (old : Opened) (new : List Bin) (root : ℕ) (version : HiveVersion) (bulk : ℕ) (h : HiveCells)
    (path : List (List ℕ)) (name : List ℕ) (kind : ℕ) (bytes : List ℕ) (v : ℕ)
    → IsHive old.bins root version bulk → hive_of old root version ≡ h → place_in (cells_in h) path name h.root ≡ some v
    → length bytes ≤ 1048576 → kind < 2 ^ 32
    → IsGiven version v kind bytes (data_places (look_up version old.bins) v) old.bins new
    → IsDone (look_up version old.bins) (look_up version new) root (tree_of (look_up version old.bins) root)
    (set_tree path name kind bytes (tree_of (look_up version old.bins) root)) (set_value path name kind bytes)
there_done old new root version bulk h path name kind bytes v is view e few kind_fits g =
    let b = look_up version old.bins in
    let c = look_up version new in
    let t = tree_of b root in
    let u = set_tree path name kind bytes t in
    let i = there_in old root version bulk h path name v is view e in
    let d = edit_there b root t path name kind bytes v i few in
    let among = found_among (is_value_named b name) (value_places b i.key) v i.named in
    let node = node_read b i.key i.tree i.well.stands in
    let gets = given_gets version v kind bytes old.bins new (own_there b root t path name v is.stands i) g kind_fits in
    data_set b c root t u path name i.key node.0 is.stands i.place node.1 kind bytes among.front among.back v d
    (places_same b i.key ∙ among.whole)
    (ap (folds_same name) (name_of_value b v i.value i.read) ∙ named_folds b name v i.value i.read among.passes) gets

-- ---- what is asked on the way

pub there_here : (bins : Opened) (heap : List Bin) (root : ℕ) (version : HiveVersion) (bulk : ℕ) (h : HiveCells)
    (path : List (List ℕ)) (name : List ℕ) (v : ℕ) → IsHive bins.bins root version bulk
    → heap ≡ bins.bins → hive_of bins root version ≡ h → place_in (cells_in h) path name h.root ≡ some v
    → IsItemHere (look_up version heap) v
there_here bins heap root version bulk h path name v is e view there =
    let i = there_in bins root version bulk h path name v is view there in
    subst (λ (b : List Bin). IsItemHere (look_up version b) v) (sym e)
    (is_ok_of (item_at (look_up version bins.bins) v) i.one i.stands)

pub there_room : (bins : Opened) (root : ℕ) (version : HiveVersion) (bulk : ℕ) (h : HiveCells) (path : List (List ℕ))
    (name : List ℕ) (v : ℕ) → IsHive bins.bins root version bulk
    → hive_of bins root version ≡ h → place_in (cells_in h) path name h.root ≡ some v
    → IsSomeAnd (held_at bins.bins v) (λ p. 16 ≤ length p)
there_room bins root version bulk h path name v is view there =
    let i = there_in bins root version bulk h path name v is view there in
    let p = then-so ((look_up version bins.bins).payload v) key_value_at i.value i.read in
    let f = value_facts p.0 i.value p.2 in
    let room : 16 ≤ length p.0 = omega (arith, f.long) in
    subst (λ (o : Option (List ℕ)). IsSomeAnd o (λ q. 16 ≤ length q)) (sym (payload_held bins.bins v p.0 p.1)) room

pub there_own : (bins : Opened) (root : ℕ) (version : HiveVersion) (bulk : ℕ) (h : HiveCells) (path : List (List ℕ))
    (name : List ℕ) (v : ℕ) → IsHive bins.bins root version bulk
    → hive_of bins root version ≡ h → place_in (cells_in h) path name h.root ≡ some v
    → ValueOwn (look_up version bins.bins) v
there_own bins root version bulk h path name v is view there =
    own_there (look_up version bins.bins) root (tree_of (look_up version bins.bins) root) path name v is.stands
    (there_in bins root version bulk h path name v is view there)

-- the cells that go, as they were read
pub gone_same : (bins heap : List Bin) (version : HiveVersion) (v : ℕ) (gone : List ℕ) → heap ≡ bins
    → gone ≡ data_places (look_up version heap) v → gone ≡ data_places (look_up version bins) v
gone_same bins heap version v gone e g = g ∙ ap (λ (b : List Bin). data_places (look_up version b) v) e

pub room_same : (bins heap : List Bin) (version : HiveVersion) (v n : ℕ) → heap ≡ bins
    → n ≡ data_room (look_up version heap) v → n ≡ data_room (look_up version bins) v
room_same bins heap version v n e g = g ∙ ap (λ (b : List Bin). data_room (look_up version b) v) e

pub gone_held : (bins : List Bin) (version : HiveVersion) (v : ℕ) (gone : List ℕ) → ValueOwn (look_up version bins) v
    → gone ≡ data_places (look_up version bins) v
    → All (λ o. IsSome (held_at bins o)) gone
gone_held bins version v gone own e = subst (All (λ o. IsSome (held_at bins o))) (sym e) (data_held version bins v own)

pub gone_apart : (bins : List Bin) (version : HiveVersion) (v : ℕ) (gone : List ℕ) → ValueOwn (look_up version bins) v
    → gone ≡ data_places (look_up version bins) v → AreApart gone
gone_apart bins version v gone own e = subst AreApart (sym e) (data_apart (look_up version bins) v own)

pub gone_outside : (bins : List Bin) (version : HiveVersion) (v : ℕ) (gone : List ℕ) → ValueOwn (look_up version bins) v
    → gone ≡ data_places (look_up version bins) v → Contains gone v → ⊥
gone_outside bins version v gone own e k =
    own.once.0 v (in_from (data_places (look_up version bins) v) v (subst (λ (l : List ℕ). Contains l v) e k)) refl

-- what was given, with the cells that went as they were read
pub given_same : (bins heap new : List Bin) (version : HiveVersion) (v kind : ℕ) (bytes gone : List ℕ)
    → gone ≡ data_places (look_up version bins) v
    → IsGiven version v kind bytes gone bins new
    → IsGiven version v kind bytes (data_places (look_up version bins) v) bins new
given_same bins heap new version v kind bytes gone e g =
    subst (λ (l : List ℕ). IsGiven version v kind bytes l bins new) e g
