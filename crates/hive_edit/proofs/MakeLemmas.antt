-- A key that is made is a graft of one cell: what is known before it, and that the step is made.
use Rattle.std.proofs.Common.{◌≡◌, ◌≤◌, ◌<◌, ◌^◌, ℕ, ◌+◌, ◌-◌, Bool, false, cond, List, [], ◌∷◌, ◌++◌, length, Ok, refl, sym, ap, subst, ◌∙◌, ⊎_elim, arith}
use Rattle.std.specs.Option.{option_map_or}
use Rattle.std.proofs.lemmas.List.Elements.{All-nil}
use Rattle.nt_bytes.specs.declared.version.HiveVersion.{HiveVersion}
use Rattle.hive_model.specs.Bins.{Bin, bins_size, look_up, spelled}
use Rattle.hive_model.specs.KeyNode.{KeyNode, key_node_at, key_node_text}
use Rattle.hive_model.specs.Tree.{Tree, key, head, children}
use Rattle.hive_model.specs.Size.{cell, name_bytes, size, bulk_of}
use Rattle.hive_model.specs.Edit.{make_key, is_bad_name, new_key}
use Rattle.hive_model.specs.Security.{security_text}
use Rattle.hive_model.specs.Packed.{text, cells_of, head_cells, class_cells, security_cells, items_cells, list_cells, descriptor_place, forward, backward, node_of}
use Rattle.hive_model.specs.Valid.{IsItem, HoldsKeys, levels}
use Rattle.hive_model.specs.Walk.{reading}
use Rattle.hive_model.specs.Footprint.{security_cell_at, list_sizes, needed_sizes, room_of}
use Rattle.hive_model.specs.Stands.{Stands, IsWellFormed, security_of}
use Rattle.hive_model.specs.InPlace.{IsKeptSecurity}
use Rattle.hive_cells.specs.Opened.{Opened}
use Rattle.hive_cells.specs.Holes.{new_bin_size}
use Rattle.hive_pack.specs.Below.{beside}
use Rattle.hive_read.proofs.FormFacts.{IsBytes}
use Rattle.edited_cells.specs.Owned.{In}
use Rattle.edited_cells.specs.Done.{IsDone}
use Rattle.edited_cells.specs.Relists.{HasPlace}
use Rattle.edited_cells.proofs.KeySteps.{a_key_made}
use Rattle.edited_cells.proofs.Out.{placed_at}
use Rattle.hive_edit.specs.declared.adding.NewPlace.{NewPlace}
use Rattle.hive_edit.specs.declared.making.Above.{Above}
use Rattle.hive_edit.specs.Children.{security_listed}
use Rattle.hive_edit.specs.Grafted.{descriptor_of, run_of, sharing, IsGrafted, LacksGraftLists}
use Rattle.hive_edit.specs.Hive.{HiveCells, hive_of, IsHive}
use Rattle.hive_edit.specs.Listed.{HasNewLists}
use Rattle.hive_edit.specs.Making.{bare, made_tree, AboveIs, MayMake}
use Rattle.hive_edit.specs.Runs.{IsPlace, LacksPlace}
use Rattle.hive_edit.specs.Secured.{changes_of, comers}
use Rattle.hive_edit.specs.Standing.{tree_of}
use Rattle.hive_edit.specs.Stepped.{LacksStepRoom}
use Rattle.hive_edit.proofs.AskedLemmas.{OpenHere, open_here}
use Rattle.hive_edit.proofs.ChildLemmas.{IsReady, graft_lists, whole_room, lacks_bins}
use Rattle.hive_edit.proofs.FoundLemmas.{found_fits}
use Rattle.hive_edit.proofs.GraftLemmas.{changes, stands_new, kept_secure}
use Rattle.hive_edit.proofs.GraftedLemmas.{front, back, placed, grafts}
use Rattle.hive_edit.proofs.JudgeLemmas.{MayTry, step_made, make_room, shared_own, new_size}
use Rattle.hive_edit.proofs.KeyLemmas.{node_read, no_slash}
use Rattle.hive_look.proofs.ParentLemmas.{node_stands, security_at_node, security_there}
use Rattle.hive_look.proofs.ResultLemmas.{done}
use Rattle.hive_edit.proofs.SecuredLemmas.{keeps_security}
use Rattle.hive_edit.proofs.SteppedLemmas.{IsStepMade, stepped, lacks_room}

new_holds : (name : List ℕ) (u : Tree) → is_bad_name name ≡ false → length name ≤ 255 → HoldsKeys u
    → HoldsKeys (new_key name u)
new_holds name (key hd ts) good short h = (
  record {
    name = short;
    no_backslash = no_slash name good;
    flags = refl;
    class = omega arith;
    security = h.0.security;
    item_count = omega arith;
    items = All-nil IsItem;
    items_differ = λ i j d lt len. absurd (omega arith);
    key_count = omega arith;
    keys_named = All-nil (λ (t : Tree). 0 < length (head t).name);
    keys_differ = λ i j d lt len. absurd (omega arith);
  },
  tt,
)

-- ---- its cell

-- below a key whose descriptor it shares it is one cell, by whether the descriptor has a cell of its own
abbrev bare_cells : HiveVersion → ℕ → List ℕ → ℕ → ℕ → List ℕ → ℕ → Bool → List (List ℕ)
bare_cells version x s sp at name stamp own =
    let k = bare name stamp s in
    let up = beside version x s sp at k in
    let place = descriptor_place at (head k) in
    let n = node_of version up at (head k) [] in
    key_node_text (record n { security = cond own place sp })
    ∷ ((cond own (security_text (record
    { forward = forward up.ring place; backward = backward up.ring place; uses = 1 + 0; descriptor = s }) ∷ []) [] ++ [])
    ++ [])

bare_is : (version : HiveVersion) (x b : ℕ) (s : List ℕ) (sp at : ℕ) (name : List ℕ) (stamp : ℕ)
    → cells_of version (beside version x (b ∷ s) sp at (bare name stamp (b ∷ s))) at (bare name stamp (b ∷ s))
    ≡ bare_cells version x (b ∷ s) sp at name stamp false
unfolding head_cells class_cells security_cells items_cells list_cells
bare_is version x b s sp at name stamp = ap (bare_cells version x (b ∷ s) sp at name stamp) (shared_own (b ∷ s))

-- which is the same wherever it is put
one_cell : (version : HiveVersion) (x : ℕ) (s : List ℕ) (sp a c : ℕ) (name : List ℕ) (stamp : ℕ)
    → cells_of version (beside version x s sp a (bare name stamp s)) a (bare name stamp s)
    ≡ cells_of version (beside version x s sp c (bare name stamp s)) c (bare name stamp s)
unfolding head_cells class_cells security_cells items_cells list_cells
one_cell version x [] sp a c name stamp = refl
one_cell version x (b ∷ s) sp a c name stamp =
    bare_is version x b s sp a name stamp ∙ sym (bare_is version x b s sp c name stamp)

-- all that is known of the key above, where a key may be made, of the key, and of the place for its node
pub record Ready (bins : List Bin) (root : ℕ) (version : HiveVersion) (parent : List (List ℕ)) (name : List ℕ)
    (place : NewPlace) (above : Above) (shared : List ℕ) (k : Tree) (at : ℕ) : Type 0 where
  pub host : Tree
  pub ready : IsReady version bins root place.at host (511 - length parent) above shared k at
  pub new : k ≡ new_key name host
  pub same : shared ≡ (head host).security
  pub long : size version shared k ≡ cell (76 + name_bytes name)
  pub room : IsPlace (size version shared k) bins at
  pub listed : security_listed above.security ≡ security_cell_at (look_up version bins) place.at
  pub here : OpenHere bins root version parent name place.at
  pub there : here.key.there ≡ host
  pub bulk : place.bulk ≡ bulk_of version (made_tree parent name (tree_of (look_up version bins) root))

pub ready : (bins : Opened) (heap : List Bin) (root : ℕ) (version : HiveVersion) (bulk : ℕ) (h : HiveCells)
    (parent : List (List ℕ)) (name : List ℕ) (place : NewPlace) (above : Above) (shared : List ℕ) (k : Tree) (n at : ℕ)
    → IsHive bins.bins root version bulk → hive_of bins root version ≡ h → heap ≡ bins.bins → MayMake h parent name place
    → ((m : KeyNode) → reading key_node_at (look_up version heap) place.at ≡ Ok m → AboveIs above m)
    → ((t : Tree) → IsWellFormed (look_up version heap) place.at t → k ≡ new_key name t)
    → shared ≡ (head k).security → place.at < 2 ^ 32 → above.security < 2 ^ 32
    → n ≡ cell (76 + name_bytes name) → IsPlace n bins.bins at
    → Ready bins.bins root version parent name place above shared k at
unfolding security_of
ready bins heap root version bulk h parent name place above shared k n at is view same may says_all key_all shared_is
    at_fits security_fits long there =
    let b = look_up version bins.bins in
    let t = tree_of b root in
    let m : MayMake (hive_of bins root version) parent name place =
    subst (λ (g : HiveCells). MayMake g parent name place) (sym view) may in
    let o = open_here bins root version bulk h parent name place.at is view may.open_at in
    let u = o.key.there in
    let placed = placed_at b parent root place.at o.place in
    let read = node_read b place.at u o.key.well.stands in
    let stands = node_stands b place.at u read.0 o.key.well.stands read.1 in
    let says = says_all read.0
    (subst (λ (z : List Bin). reading key_node_at (look_up version z) place.at ≡ done read.0) (sym same) read.1) in
    let new : k ≡ new_key name u = key_all u
    (subst (λ (z : List Bin). IsWellFormed (look_up version z) place.at u) (sym same) o.key.well) in
    let own : shared ≡ (head u).security = shared_is ∙ ap (λ (w : Tree). (head w).security) new in
    let size_is : size version shared k ≡ cell (76 + name_bytes name) =
    (λ i. size version (own i) (new i)) ∙ new_size version u name in
    let room : IsPlace (size version shared k) bins.bins at =
    subst (λ (z : ℕ). IsPlace z bins.bins at) (long ∙ sym size_is) there in
    let fits = found_fits parent t u is.valid o.key.found in
    let count = says.count in
    let few = m.few read.0 read.1 in
    let deep = o.try.deep in
    record {
      host = u;
      ready = record {
        node = read.0;
        ready = record {
          path = placed.stored;
          parent = record { well = is.stands; reached = placed.reached; below = o.key.well; read = read.1 };
          says = record { list = says.list; count = says.count; volatile = says.volatile };
          shares = record {
            small = security_fits;
            descriptor = ap (descriptor_of b) says.security ∙ stands.security ∙ sym (ap done own);
            used = λ used. record {
              path = placed.stored;
              key = place.at;
              reached = placed.reached;
              uses = subst (In (security_cell_at b place.at)) (sym says.security)
                  (security_there b place.at read.0 read.1 (λ e. used (says.security ∙ e)));
            };
          };
          low = subst (λ (w : Tree). levels w ≤ 511 - length parent) (sym new)
              (omega (arith, deep));
          deep = omega arith;
          few = omega (arith, count, few);
          inside = room.inside;
          small = at_fits;
        };
        holds = subst HoldsKeys (sym new) (new_holds name u o.try.good o.try.short fits.keys);
      };
      new = new;
      same = own;
      long = size_is;
      room = room;
      listed = ap security_listed says.security ∙ sym (security_at_node b place.at read.0 read.1);
      here = o;
      there = refl;
      bulk = m.bulk;
    }

pub run_is : (bins : List Bin) (root : ℕ) (version : HiveVersion) (parent : List (List ℕ)) (name : List ℕ)
    (place : NewPlace) (above : Above) (shared : List ℕ) (k : Tree) (at : ℕ)
    → (r : Ready bins root version parent name place above shared k at)
    → text (cells_of version (beside version place.at shared above.security 0 k) 0 k)
    ≡ run_of version place.at above shared k at
run_is bins root version parent name place above shared k at r =
    (λ i. text (cells_of version (beside version place.at (r.same i) above.security 0 (r.new i)) 0 (r.new i)))
    ∙ ap text (one_cell version place.at (head r.host).security above.security 0 at name (head r.host).stamp)
    ∙ sym (λ i. run_of version place.at above (r.same i) (r.new i) at)

-- ---- there is no room

bins_lack : (bins : Opened) (root : ℕ) (version : HiveVersion) (h : HiveCells) (parent : List (List ℕ)) (name : List ℕ)
    (at : ℕ) → hive_of bins root version ≡ h → (o : OpenHere bins.bins root version parent name at)
    → 16777216 < bins_size bins.bins
    + (new_bin_size (cell (76 + name_bytes name)) + room_of (list_sizes (length (children o.key.there) + 1)))
    → LacksStepRoom h (make_key parent name)
bins_lack bins root version h parent name at view o over =
    let t = tree_of (look_up version bins.bins) root in
    let u = o.key.there in
    lacks_room bins root version h (made_tree parent name t) (make_key parent name) view
    (step_made parent name t u o.try)
    (beyond (bins_size bins.bins) (new_bin_size (cell (76 + name_bytes name)))
    (room_of (list_sizes (length (children u) + 1)))
    (room_of (needed_sizes version t (make_key parent name) (made_tree parent name t))) over
    (make_room version parent name t u o.try.found o.absent))
  where
    beyond : (o x y w : ℕ) → 16777216 < o + (x + y) → w ≡ y + x → 16777216 < o + w
    beyond o x y w a b = omega (arith, a, b)

-- for the node
pub node_lacks : (bins : Opened) (root : ℕ) (version : HiveVersion) (bulk : ℕ) (h : HiveCells)
    (parent : List (List ℕ)) (name : List ℕ) (place : NewPlace) (n : ℕ)
    → IsHive bins.bins root version bulk → hive_of bins root version ≡ h → MayMake h parent name place
    → n ≡ cell (76 + name_bytes name) → LacksPlace n bins.bins → LacksStepRoom h (make_key parent name)
node_lacks bins root version bulk h parent name place n is view may long lacks =
    let o = open_here bins root version bulk h parent name place.at is view may.open_at in
    bins_lack bins root version h parent name place.at view o
    (more (bins_size bins.bins) (new_bin_size (cell (76 + name_bytes name))) (room_of (list_sizes (length (children o.key.there) + 1)))
    (subst (λ (z : ℕ). 16777216 < bins_size bins.bins + new_bin_size z) long lacks.1))
  where
    more : (o x y : ℕ) → 16777216 < o + x → 16777216 < o + (x + y)
    more o x y a = omega (arith, a)

-- for the lists
pub list_lacks : (old : Opened) (new : List Bin) (root : ℕ) (version : HiveVersion) (h : HiveCells) (parent : List (List ℕ))
    (name : List ℕ) (place : NewPlace) (above : Above) (shared : List ℕ) (k : Tree) (at : ℕ)
    → hive_of old root version ≡ h → Ready old.bins root version parent name place above shared k at
    → LacksGraftLists version place.at above shared k at old.bins new → LacksStepRoom h (make_key parent name)
list_lacks old new root version h parent name place above shared k at view r lacks =
    bins_lack old root version h parent name place.at view r.here
    (subst (λ (z : ℕ). 16777216 < bins_size old.bins
    + (new_bin_size z + room_of (list_sizes (length (children r.here.key.there) + 1)))) r.long
    (subst (λ (u : Tree). 16777216 < bins_size old.bins
    + (new_bin_size (size version shared k) + room_of (list_sizes (length (children u) + 1)))) (sym r.there)
    (lacks_bins old.bins new root place.at r.host (511 - length parent) version above shared k at r.ready lacks)))

-- ---- the step is made

pub key_made : (old new : Opened) (root : ℕ) (version : HiveVersion) (bulk : ℕ) (h : HiveCells)
    (parent : List (List ℕ)) (name : List ℕ) (place : NewPlace) (above : Above) (shared : List ℕ) (k : Tree) (at : ℕ)
    → IsHive old.bins root version bulk → hive_of old root version ≡ h
    → (r : Ready old.bins root version parent name place above shared k at)
    → IsGrafted version place.at above shared k at old.bins new.bins → IsBytes (spelled 0 new.bins)
    → IsStepMade h new root version place.bulk (make_key parent name)
key_made old new root version bulk h parent name place above shared k at is view r a bytes =
    let b = look_up version old.bins in
    let m = look_up version a.mid in
    let l = look_up version a.linked.listed in
    let c = look_up version new.bins in
    let t = tree_of b root in
    let u = r.host in
    let x = place.at in
    let n = r.ready.node in
    let left = 511 - length parent in
    let sp = above.security in
    let sz = size version shared k in
    let fr = front version old.bins a.mid root t x u n left above shared k at r.ready.ready a.numbers r.ready.holds a.put in
    let bk = back version old.bins a.mid root t x u n left above shared k at r.ready.ready a.numbers r.ready.holds a.put in
    let g = grafts version old.bins new.bins root t x u n left above shared k at r.ready.ready r.ready.holds a in
    let ch = changes b m l c root t x u n left k at sz sp a.linked.list shared fr bk g in
    let try : MayTry parent name t u = subst (MayTry parent name t) r.there r.here.try in
    let ok = step_made parent name t u try in
    let deep = try.deep in
    let made : IsDone b c root t (made_tree parent name t) (make_key parent name) =
    a_key_made b c root t (made_tree parent name t) u parent name x at left fr bk (security_listed sp) is.stands ok
    r.here.absent r.here.place try.found (omega (arith, deep)) ch
    (λ o i. subst (λ (z : List ℕ). In z o) r.listed i)
    (subst (Stands c at) r.new (stands_new b m l c root t x u n left k at sz sp a.linked.list shared fr bk g))
    (subst (λ (z : Tree). HasPlace b (head z).name fr bk) r.new
    (placed version old.bins a.mid root t x u n left above shared k at r.ready.ready a.numbers r.ready.holds a.put)) in
    let whole = whole_room version old.bins new.bins root x u left above shared k at r.ready a in
    stepped old new root version bulk place.bulk h (made_tree parent name t) (make_key parent name) is view ok made bytes
    r.bulk whole.0
    (within (bins_size new.bins) (bins_size old.bins) (new_bin_size sz) (new_bin_size (cell (76 + name_bytes name)))
    (room_of (list_sizes (length (children u) + 1)))
    (room_of (needed_sizes version t (make_key parent name) (made_tree parent name t))) whole.1
    (ap new_bin_size r.long) (make_room version parent name t u try.found r.here.absent))
    (keeps_security b c root t (changes_of b root t (make_key parent name)) is.stands
    (λ o s. subst (λ (z : List Bool). IsKeptSecurity b c z o)
    ((λ i. comers (sharing (r.same i) (r.new i)) (r.listed i) o)
    ∙ sym (λ i. cond (r.here.absent i) []
    (comers (option_map_or (λ (w : Tree). sharing (head w).security (new_key name w)) (try.found i) 0)
    (option_map_or (security_cell_at b) (r.here.place i) []) o)))
    (kept_secure b m l c root t x u n left k at sz sp a.linked.list shared fr bk g o s)))
    (λ o among.
    let one : In (x ∷ []) o = subst (λ (z : List ℕ). In z o)
    (λ i. cond (r.here.absent i) [] (option_map_or (λ (y : ℕ). y ∷ []) (r.here.place i) [])) among in
    ⊎_elim (λ e. subst (HasNewLists (hive_of old root version) (hive_of new root version)) e
    (graft_lists version old new root x u left above shared k at r.ready a ch)) (λ (z : ⊥). absurd z) one)
    (λ o given. absurd given) (λ run i. absurd i)
  where
    within : (n o x y m w : ℕ) → n ≤ o + (x + m) → x ≡ y → w ≡ m + y → n ≤ o + w
    within n o x y m w a b c = omega (arith, a, b, c)
