-- What judging whether a key may be made answers, by the hive's cells.
use Rattle.std.proofs.Common.{◌≡◌, ◌≤◌, ◌<◌, ℕ, ◌+◌, ◌-◌, true, false, List, length, Option, Some, None, Result, Ok, Err, refl, sym, ap, subst, ◌∙◌, arith, Bool, cond, [], ◌∷◌}
use Rattle.std.specs.Prelude.{find, is_some}
use Rattle.std.specs.Option.{option_map_or}
use Rattle.nt_bytes.specs.declared.version.HiveVersion.{HiveVersion}
use Rattle.hive_model.specs.Bins.{Bin, Cells, bins_size, look_up}
use Rattle.hive_model.specs.KeyNode.{KeyNode, key_node_at}
use Rattle.hive_model.specs.Tree.{Tree, head, children, find_key}
use Rattle.hive_model.specs.Size.{cell, name_bytes, list_size, bulk_of}
use Rattle.hive_model.specs.Edit.{Refusal, make_key, no_key, bad_name, name_too_long, too_deep, is_bad_name, new_key, after_step}
use Rattle.hive_model.specs.Walk.{reading}
use Rattle.hive_model.specs.Footprint.{key_place, child_places, is_node_named, has_key, of_key, security_cell_at}
use Rattle.hive_model.specs.Stands.{IsWellFormed}
use Rattle.hive_model.specs.InPlace.{IsKeptSecurity}
use Rattle.edited_cells.proofs.InOrder.{a_key_there}
use Rattle.edited_cells.proofs.Out.{placed_at}
use Rattle.hive_edit.specs.Grafted.{sharing}
use Rattle.hive_edit.specs.Hive.{HiveCells, cells_in, hive_of, IsHive}
use Rattle.hive_edit.specs.Standing.{tree_of}
use Rattle.hive_edit.specs.Stepped.{IsStepped, LacksStepRoom}
use Rattle.hive_edit.specs.Tells.{IsToldStep}
use Rattle.hive_edit.proofs.ToldLemmas.{there_told}
use Rattle.edited_cells.specs.Owned.{In}
use Rattle.hive_edit.specs.Making.{made_tree, IsOpen, MayMake}
use Rattle.hive_look.specs.Places.{IsKeyAt}
use Rattle.hive_look.proofs.ResultLemmas.{done, some}
use Rattle.hive_look.proofs.PlaceLemmas.{KeyThere, key_there, no_place}
use Rattle.hive_edit.proofs.EditLemmas.{the_tree}
use Rattle.hive_edit.proofs.LowLemmas.{bulk_is}
use Rattle.hive_edit.proofs.SteppedLemmas.{lacks_room}
use Rattle.hive_edit.proofs.JudgeLemmas.{refused_key, refused_name, refused_long, refused_deep, MayTry, step_made, key_present, key_absent, nothing_made, Grows, grows, grown_is, lists_over, make_room, counted_children}
use Rattle.hive_edit.proofs.KeyLemmas.{node_read}
use Rattle.hive_edit.specs.Secured.{changes_of, comers}
use Rattle.hive_edit.proofs.SecuredLemmas.{keeps_security, secure_same}
use Rattle.tree_draft.proofs.SlotLemmas.{none_from}
use Rattle.hive_cells.specs.Opened.{Opened}

abbrev pub none_there : Option ℕ
none_there = None

abbrev pub refused : Refusal → Result Tree Refusal
refused why = Err why

-- the hive, its bins as they are lent, and its view
pub record Lent (bins : Opened) (heap : List Bin) (root : ℕ) (version : HiveVersion) (bulk : ℕ) (h : HiveCells) : Type 0 where
  pub is : IsHive bins.bins root version bulk
  pub same : heap ≡ bins.bins
  pub view : hive_of bins root version ≡ h

abbrev Answers : HiveCells → List (List ℕ) → List ℕ → Result Tree Refusal → Type 0
Answers h parent name r = after_step (make_key parent name) h.tree ≡ r

-- the path leads to a key
pub record FindsKey (bins : List Bin) (root : ℕ) (version : HiveVersion) (parent : List (List ℕ))
    (at : ℕ) : Type 0 where
  pub place : key_place (look_up version bins) parent root ≡ some at
  pub key : KeyThere (look_up version bins) parent (tree_of (look_up version bins) root) at

pub finds_key : (bins : Opened) (heap : List Bin) (root : ℕ) (version : HiveVersion) (bulk : ℕ) (h : HiveCells)
    (parent : List (List ℕ)) (at : ℕ) → Lent bins heap root version bulk h
    → some at ≡ key_place (look_up version heap) parent root → FindsKey bins.bins root version parent at
finds_key bins heap root version bulk h parent at l e =
    let place : key_place (look_up version bins.bins) parent root ≡ some at =
    subst (λ (z : List Bin). key_place (look_up version z) parent root ≡ some at) l.same (sym e) in
    record {
      place = place;
      key = key_there (look_up version bins.bins) parent root (tree_of (look_up version bins.bins) root)
          at l.is.stands place;
    }

pub asks_no_key : (bins : Opened) (heap : List Bin) (root : ℕ) (version : HiveVersion) (bulk : ℕ) (h : HiveCells)
    (parent : List (List ℕ)) (name : List ℕ) → Lent bins heap root version bulk h
    → none_there ≡ key_place (look_up version heap) parent root
    → after_step (make_key parent name) h.tree ≡ refused no_key
asks_no_key bins heap root version bulk h parent name l e =
    let b = look_up version bins.bins in
    let none : key_place b parent root ≡ None =
    subst (λ (z : List Bin). key_place (look_up version z) parent root ≡ None) l.same (sym e) in
    subst (λ (g : HiveCells). Answers g parent name (Err no_key)) l.view
    (refused_key parent name (tree_of b root) (no_place b parent root (tree_of b root) l.is.stands none))

pub asks_bad_name : (bins : Opened) (heap : List Bin) (root : ℕ) (version : HiveVersion) (bulk : ℕ) (h : HiveCells)
    (parent : List (List ℕ)) (name : List ℕ) (at : ℕ) → Lent bins heap root version bulk h
    → some at ≡ key_place (look_up version heap) parent root → is_bad_name name ≡ true
    → after_step (make_key parent name) h.tree ≡ refused bad_name
asks_bad_name bins heap root version bulk h parent name at l e bad =
    let f = finds_key bins heap root version bulk h parent at l e in
    subst (λ (g : HiveCells). Answers g parent name (Err bad_name)) l.view
    (refused_name parent name (tree_of (look_up version bins.bins) root) f.key.there f.key.found bad)

pub asks_long : (bins : Opened) (heap : List Bin) (root : ℕ) (version : HiveVersion) (bulk : ℕ) (h : HiveCells)
    (parent : List (List ℕ)) (name : List ℕ) (at : ℕ) → Lent bins heap root version bulk h
    → some at ≡ key_place (look_up version heap) parent root → is_bad_name name ≡ false → 255 < length name
    → after_step (make_key parent name) h.tree ≡ refused name_too_long
asks_long bins heap root version bulk h parent name at l e good long =
    let f = finds_key bins heap root version bulk h parent at l e in
    subst (λ (g : HiveCells). Answers g parent name (Err name_too_long)) l.view
    (refused_long parent name (tree_of (look_up version bins.bins) root) f.key.there f.key.found good long)

pub asks_deep : (bins : Opened) (heap : List Bin) (root : ℕ) (version : HiveVersion) (bulk : ℕ) (h : HiveCells)
    (parent : List (List ℕ)) (name : List ℕ) (at : ℕ) → Lent bins heap root version bulk h
    → some at ≡ key_place (look_up version heap) parent root → is_bad_name name ≡ false → length name ≤ 255
    → 510 < length parent
    → after_step (make_key parent name) h.tree ≡ refused too_deep
asks_deep bins heap root version bulk h parent name at l e good short deep =
    let f = finds_key bins heap root version bulk h parent at l e in
    subst (λ (g : HiveCells). Answers g parent name (Err too_deep)) l.view
    (refused_deep parent name (tree_of (look_up version bins.bins) root) f.key.there f.key.found good short deep)

-- the path leads to a key that has a child of this name, and the step that makes one makes nothing
pub record IsMadeAlready (h : HiveCells) (parent : List (List ℕ)) (name : List ℕ) : Type 0 where
  pub key : Tree
  pub found : find_key parent h.tree ≡ Some key
  pub present : has_key parent name h.tree ≡ true
  pub step : after_step (make_key parent name) h.tree ≡ Ok h.tree

-- ---- the path and the name are good

pub record Good (bins : Opened) (heap : List Bin) (root : ℕ) (version : HiveVersion) (bulk : ℕ) (h : HiveCells)
    (parent : List (List ℕ)) (name : List ℕ) (at : ℕ) : Type 0 where
  pub lent : Lent bins heap root version bulk h
  pub place : some at ≡ key_place (look_up version heap) parent root
  pub good : is_bad_name name ≡ false
  pub short : length name ≤ 255
  pub deep : length parent ≤ 510

abbrev child_in : Cells → List ℕ → ℕ → Option ℕ
child_in cells name at = find (is_node_named cells name) (child_places cells at)

some_of : (r : Option ℕ) → is_some r ≡ true → (y : ℕ) × (r ≡ some y)
some_of None e = absurd cc
some_of (Some y) e = (y, refl)

module _ (bins : Opened) (heap : List Bin) (root : ℕ) (version : HiveVersion) (bulk : ℕ) (h : HiveCells) (parent : List (List ℕ))
    (name : List ℕ) (at : ℕ)
    (g : Good bins heap root version bulk h parent name at) where
  finds : FindsKey bins.bins root version parent at
  finds = finds_key bins heap root version bulk h parent at g.lent g.place

  try : MayTry parent name (tree_of (look_up version bins.bins) root) finds.key.there
  try = record { found = finds.key.found; good = g.good; short = g.short; deep = g.deep }

  in_bins : (r : Option ℕ) → r ≡ child_in (look_up version heap) name at → child_in (look_up version bins.bins) name at ≡ r
  in_bins r e = ap (λ (z : List Bin). child_in (look_up version z) name at) (sym g.lent.same) ∙ sym e

  present : (r : Option ℕ) → r ≡ child_in (look_up version heap) name at → is_some r ≡ true
      → has_key parent name (tree_of (look_up version bins.bins) root) ≡ true
  present r e s =
      let y = some_of r s in
      key_present (look_up version bins.bins) root (tree_of (look_up version bins.bins) root)
      finds.key.there parent name at y.0 finds.key.well finds.key.found (in_bins r e ∙ y.1)

  absent : (r : Option ℕ) → r ≡ child_in (look_up version heap) name at → is_some r ≡ false
      → has_key parent name (tree_of (look_up version bins.bins) root) ≡ false
  absent r e s =
      key_absent (look_up version bins.bins) root (tree_of (look_up version bins.bins) root)
      finds.key.there parent name at finds.key.well finds.key.found (in_bins r e ∙ none_from r s)

  pub asks_there : (r : Option ℕ) → r ≡ child_in (look_up version heap) name at → is_some r ≡ true
      → IsMadeAlready h parent name
  asks_there r e s =
      let t = tree_of (look_up version bins.bins) root in
      subst (λ (z : HiveCells). IsMadeAlready z parent name) g.lent.view (record {
        key = finds.key.there;
        found = finds.key.found;
        present = present r e s;
        step = step_made parent name t finds.key.there try
            ∙ ap the_tree (nothing_made parent name t finds.key.there finds.key.found (present r e s));
      })

  pub asks_open : (r : Option ℕ) → r ≡ child_in (look_up version heap) name at → is_some r ≡ false
      → IsOpen h parent name at
  asks_open r e s =
      subst (λ (z : HiveCells). IsOpen z parent name at) g.lent.view
      (record { place = finds.place; absent = absent r e s; short = g.short; good = g.good; deep = g.deep })

-- ---- a key that is there makes nothing

already_stepped : (bins : Opened) (root : ℕ) (version : HiveVersion) (bulk : ℕ) (h : HiveCells)
    (parent : List (List ℕ)) (name : List ℕ) → IsHive bins.bins root version bulk
    → hive_of bins root version ≡ h → IsMadeAlready h parent name → IsStepped h (make_key parent name) h
already_stepped bins root version bulk h parent name is view m =
    let well = subst (λ (z : HiveCells). IsWellFormed (cells_in z) z.root z.tree) view is.stands in
    record {
      version = refl;
      root = refl;
      tree = m.step;
      done = a_key_there (cells_in h) h.root h.tree h.tree m.key parent name well
          (nothing_made parent name h.tree m.key m.found m.present) m.found m.present;
      secure = keeps_security (cells_in h) (cells_in h) h.root h.tree
          (changes_of (cells_in h) h.root h.tree (make_key parent name)) well
          (λ o s. subst (λ (l : List Bool). IsKeptSecurity (cells_in h) (cells_in h) l o)
          (sym (ap (λ (v : Bool). cond v []
          (comers (option_map_or (λ (k : Tree). sharing (head k).security (new_key name k)) (find_key parent h.tree) 0)
          (of_key (cells_in h) h.root parent (security_cell_at (cells_in h))) o)) m.present))
          (secure_same (cells_in h) (cells_in h) h.root h.tree well o s refl));
      lists = λ at i. absurd (subst (λ (v : Bool). In (cond v [] (of_key (cells_in h) h.root parent (λ x. x ∷ []))) at)
          m.present i);
      freed = λ o given. absurd given;
      runs = λ r among. absurd among;
      long = omega arith;
      room = omega arith;
    }

pub already_told : (bins : Opened) (root : ℕ) (version : HiveVersion) (bulk : ℕ) (h : HiveCells)
    (parent : List (List ℕ)) (name : List ℕ) → IsHive bins.bins root version bulk
    → hive_of bins root version ≡ h → IsMadeAlready h parent name → IsToldStep h (make_key parent name) h
already_told bins root version bulk h parent name is view m =
    there_told h h parent name (already_stepped bins root version bulk h parent name is view m) m.present

-- ---- a key that may be made

-- what is known of the place, in the bins
pub record OpenHere (bins : List Bin) (root : ℕ) (version : HiveVersion) (parent : List (List ℕ)) (name : List ℕ)
    (at : ℕ) : Type 0 where
  pub place : key_place (look_up version bins) parent root ≡ some at
  pub key : KeyThere (look_up version bins) parent (tree_of (look_up version bins) root) at
  pub try : MayTry parent name (tree_of (look_up version bins) root) key.there
  pub absent : has_key parent name (tree_of (look_up version bins) root) ≡ false

pub open_here : (bins : Opened) (root : ℕ) (version : HiveVersion) (bulk : ℕ) (h : HiveCells) (parent : List (List ℕ))
    (name : List ℕ) (at : ℕ) → IsHive bins.bins root version bulk
    → hive_of bins root version ≡ h → IsOpen h parent name at → OpenHere bins.bins root version parent name at
open_here bins root version bulk h parent name at is view isopen =
    let o : IsOpen (hive_of bins root version) parent name at =
    subst (λ (z : HiveCells). IsOpen z parent name at) (sym view) isopen in
    let k = key_there (look_up version bins.bins) parent root (tree_of (look_up version bins.bins) root) at is.stands o.place in
    record {
      place = o.place;
      key = k;
      try = record { found = k.found; good = o.good; short = o.short; deep = o.deep };
      absent = o.absent;
    }

-- the key is in the cells as they are lent
pub open_stands : (bins : Opened) (heap : List Bin) (root : ℕ) (version : HiveVersion) (bulk : ℕ) (h : HiveCells)
    (parent : List (List ℕ)) (name : List ℕ) (at : ℕ)
    → IsHive bins.bins root version bulk → heap ≡ bins.bins → hive_of bins root version ≡ h → IsOpen h parent name at
    → IsKeyAt (look_up version heap) at
open_stands bins heap root version bulk h parent name at is same view isopen =
    let o = open_here bins root version bulk h parent name at is view isopen in
    subst (λ (z : List Bin). IsKeyAt (look_up version z) at) (sym same) (o.key.there, o.key.well)

-- its node, seen in the hive
pub node_seen : (bins : Opened) (heap : List Bin) (root : ℕ) (version : HiveVersion) (h : HiveCells) (at : ℕ) (n : KeyNode)
    → heap ≡ bins.bins → hive_of bins root version ≡ h
    → reading key_node_at (cells_in h) at ≡ Ok n → reading key_node_at (look_up version heap) at ≡ Ok n
node_seen bins heap root version h at n same view e =
    subst (λ (z : List Bin). reading key_node_at (look_up version z) at ≡ done n) (sym same)
    (subst (λ (z : HiveCells). reading key_node_at (cells_in z) at ≡ done n) (sym view) e)

-- how many children it counts
open_many : (bins : Opened) (root : ℕ) (version : HiveVersion) (bulk : ℕ) (h : HiveCells) (parent : List (List ℕ))
    (name : List ℕ) (at count : ℕ)
    → IsHive bins.bins root version bulk → hive_of bins root version ≡ h → (o : OpenHere bins.bins root version parent name at)
    → ((n : KeyNode) → reading key_node_at (cells_in h) at ≡ Ok n → count ≡ n.child_count)
    → count ≡ length (children o.key.there)
open_many bins root version bulk h parent name at count is view o counts =
    let b = look_up version bins.bins in
    let t = tree_of b root in
    let read = node_read b at o.key.there o.key.well.stands in
    let placed = placed_at b parent root at o.place in
    counts read.0 (subst (λ (z : HiveCells). reading key_node_at (cells_in z) at ≡ done read.0) view read.1)
    ∙ counted_children b root t placed.stored at o.key.there read.0
    (record { well = is.stands; reached = placed.reached; below = o.key.well; read = read.1 })

-- too many siblings: there is no room for the lists
pub asks_many : (bins : Opened) (root : ℕ) (version : HiveVersion) (bulk : ℕ) (h : HiveCells) (parent : List (List ℕ))
    (name : List ℕ) (at count : ℕ)
    → IsHive bins.bins root version bulk → hive_of bins root version ≡ h → IsOpen h parent name at
    → ((n : KeyNode) → reading key_node_at (cells_in h) at ≡ Ok n → count ≡ n.child_count) → 2097150 < count
    → LacksStepRoom h (make_key parent name)
asks_many bins root version bulk h parent name at count is view isopen counts many =
    let t = tree_of (look_up version bins.bins) root in
    let o = open_here bins root version bulk h parent name at is view isopen in
    let c = open_many bins root version bulk h parent name at count is view o counts in
    let r = make_room version parent name t o.key.there o.key.found o.absent in
    let l = lists_over (length (children o.key.there) + 1) (omega (arith, c, many)) in
    lacks_room bins root version h (made_tree parent name t) (make_key parent name) view
    (step_made parent name t o.key.there o.try) (omega (arith, r, l))

-- the bulk with it
pub asks_bulk : (bins : Opened) (root : ℕ) (version : HiveVersion) (bulk : ℕ) (h : HiveCells) (parent : List (List ℕ))
    (name : List ℕ) (at count : ℕ)
    → IsHive bins.bins root version bulk → hive_of bins root version ≡ h → bins_size bins.bins ≤ 16777216
    → IsOpen h parent name at
    → ((n : KeyNode) → reading key_node_at (cells_in h) at ≡ Ok n → count ≡ n.child_count) → count ≤ 2097150
    → (list_size count ≤ bulk + (cell (76 + name_bytes name) + list_size (count + 1)))
    × (bulk + (cell (76 + name_bytes name) + list_size (count + 1)) - list_size count
    ≡ bulk_of version (made_tree parent name (tree_of (look_up version bins.bins) root)))
asks_bulk bins root version bulk h parent name at count is view fit isopen counts few =
    let t = tree_of (look_up version bins.bins) root in
    let o = open_here bins root version bulk h parent name at is view isopen in
    let c = open_many bins root version bulk h parent name at count is view o counts in
    let g = subst (Grows version parent name t) (sym c)
    (grows version parent name t o.key.there o.key.found o.absent) in
    grown_is version parent name t count bulk g few o.try.short (bulk_is bins.bins root version bulk is fit)

pub asks_may : (bins : Opened) (root : ℕ) (version : HiveVersion) (bulk : ℕ) (h : HiveCells) (parent : List (List ℕ))
    (name : List ℕ) (at count grown : ℕ)
    → IsHive bins.bins root version bulk → hive_of bins root version ≡ h → bins_size bins.bins ≤ 16777216
    → IsOpen h parent name at
    → ((n : KeyNode) → reading key_node_at (cells_in h) at ≡ Ok n → count ≡ n.child_count) → count ≤ 2097150
    → grown ≡ bulk + (cell (76 + name_bytes name) + list_size (count + 1)) - list_size count
    → MayMake h parent name (record { at = at; bulk = grown })
asks_may bins root version bulk h parent name at count grown is view fit isopen counts few g = record {
  open_at = isopen;
  bulk = subst (λ (z : HiveCells). grown ≡ bulk_of z.version (made_tree parent name z.tree)) view
      (g ∙ (asks_bulk bins root version bulk h parent name at count is view fit isopen counts few).1);
  few = λ n read. let c = counts n read in omega (arith, c, few);
}
