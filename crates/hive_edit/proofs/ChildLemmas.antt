-- A hive in which a key got a child with all below it, or for which there is no room.
use Rattle.std.proofs.Common.{◌≡◌, ◌≤◌, ◌<◌, ◌^◌, ℕ, ◌+◌, ◌*◌, ◌-◌, min, List, [], ◌∷◌, ◌++◌, length, take, drop, refl, sym, ap, subst, ◌∙◌, inl, inr, arith}
use Rattle.std.specs.Prelude.{◌⊎◌}
use Rattle.std.specs.List.{position_or_len}
use Rattle.std.proofs.lemmas.List.{length-append, take-append-drop}
use Rattle.nt_bytes.specs.declared.version.HiveVersion.{HiveVersion}
use Rattle.hive_model.specs.Bins.{Bin, bins_size, look_up, spelled}
use Rattle.hive_model.specs.KeyNode.{KeyNode, key_node_at}
use Rattle.hive_model.specs.Tree.{Tree, key, head, children}
use Rattle.hive_model.specs.Valid.{HoldsKeys}
use Rattle.hive_model.specs.Size.{size, list_size, bulk_of}
use Rattle.hive_model.specs.Packed.{rounded}
use Rattle.hive_model.specs.Edit.{renamed, with_child}
use Rattle.hive_model.specs.Footprint.{list_sizes, room_of}
use Rattle.hive_model.specs.Stands.{Stands, IsWellFormed}
use Rattle.hive_cells.specs.Opened.{Opened}
use Rattle.hive_cells.specs.Holes.{new_bin_size}
use Rattle.hive_pack.specs.Below.{beside}
use Rattle.hive_pack.specs.Numbers.{HasNumbers}
use Rattle.hive_pack.proofs.Formed.{apart}
use Rattle.hive_read.proofs.FormFacts.{IsBytes, then-so}
use Rattle.reg_tree.proofs.Sound.{some_size}
use Rattle.edited_cells.specs.Owned.{In}
use Rattle.edited_cells.proofs.Ins.{in_from, contains_from}
use Rattle.hive_read.proofs.ValidTrees.{well-formed-valid, cells-bytes}
use Rattle.edited_cells.specs.Relists.{ChangesChildren, HasPlace}
use Rattle.edited_cells.proofs.KeySteps.{root_gets}
use Rattle.edited_cells.proofs.RoomLemmas.{room_for}
use Rattle.edited_cells.proofs.Totals.{list_total, list_more, child_size}
use Rattle.key_index.specs.Lists.{children_at, name_in, is_behind}
use Rattle.key_index.proofs.Runs.{list_least}
use Rattle.hive_edit.specs.declared.making.Above.{Above}
use Rattle.hive_edit.specs.Making.{above_children, above_lists}
use Rattle.hive_edit.specs.Grafted.{IsRunPut, CanGraft, IsGrafted, LacksGraftLists}
use Rattle.hive_edit.specs.Children.{MayGraft, IsNewChild, IsGraftedIn, LacksGraftRoom, security_listed}
use Rattle.hive_edit.specs.Hive.{HiveCells, hive_of, IsHive}
use Rattle.hive_edit.specs.Listed.{HasNewLists}
use Rattle.hive_edit.specs.Runs.{IsPlace}
use Rattle.hive_edit.specs.Standing.{tree_of}
use Rattle.hive_edit.proofs.HiveLemmas.{hive_opened}
use Rattle.hive_edit.proofs.JudgeLemmas.{counted_children}
use Rattle.hive_edit.proofs.KeyLemmas.{node_read}
use Rattle.hive_look.proofs.ParentLemmas.{Keeps, kept_well}
use Rattle.hive_edit.proofs.StandingLemmas.{tree_is}
use Rattle.hive_edit.proofs.ChildRuns.{run_made}
use Rattle.hive_edit.proofs.GraftRuns.{graft_run, run_there}
use Rattle.hive_edit.proofs.GraftLemmas.{changes, stands_new, kept_secure}
use Rattle.hive_edit.proofs.GraftedLemmas.{Ready, linkable, front, back, lists_still, placed, siblings_count, grafts}
use Rattle.hive_edit.proofs.ListedLemmas.{inserted_lists}

-- ---- the root

-- the tree of a hive's bins
abbrev pub tree_in : HiveVersion → List Bin → ℕ → Tree
tree_in version bins root = tree_of (look_up version bins) root

-- what is known of the key above, the key and its place
pub record IsReady (version : HiveVersion) (old : List Bin) (root x : ℕ) (host : Tree) (left : ℕ) (above : Above)
    (shared : List ℕ) (k : Tree) (at : ℕ) : Type 0 where
  pub node : KeyNode
  pub ready : Ready version old root (tree_in version old root) x host node left above shared k at
  pub holds : HoldsKeys k

-- the root's
abbrev pub IsRootReady : HiveVersion → List Bin → ℕ → Above → List ℕ → Tree → ℕ → Type 0
IsRootReady version old root above shared k at = IsReady version old root root (tree_in version old root) 511 above shared k at

pub root_ready : (old : Opened) (root : ℕ) (version : HiveVersion) (bulk : ℕ) (above : Above)
    (shared : List ℕ) (k : Tree) (at : ℕ)
    → IsHive old.bins root version bulk → IsNewChild (hive_of old root version) k
    → MayGraft (hive_of old root version) above shared
    → at + size version shared k ≤ 16777216
    → root < 2 ^ 32 → IsRootReady version old.bins root above shared k at
root_ready old root version bulk above shared k at is n m inside small =
    let read = node_read (look_up version old.bins) root (tree_in version old.bins root) is.stands.stands in
    record {
      node = read.0;
      ready = record {
        path = [];
        parent = record { well = is.stands; reached = refl; below = is.stands; read = read.1 };
        says = m.says read.0 read.1;
        shares = m.shares;
        low = n.low;
        deep = omega arith;
        few = m.few;
        inside = inside;
        small = small;
      };
      holds = n.holds;
    }

pub can_graft : (version : HiveVersion) (old : List Bin) (root x : ℕ) (host : Tree) (left : ℕ) (above : Above)
    (shared : List ℕ) (k : Tree) (at : ℕ) → IsReady version old root x host left above shared k at
    → IsPlace (size version shared k) old at → CanGraft version x above shared k at old
can_graft version old root x host left above shared k at r place = record {
  holds = r.holds;
  place = place;
  linkable = λ mid numbers put. linkable version old mid root (tree_in version old root) x host
      r.node left above shared k at r.ready numbers r.holds put;
}

-- ---- how long the lists and the bins data are

with_length : (n place : ℕ) (child : ℕ) (offs : List ℕ) → length offs ≡ n
    → length (take place offs ++ (child ∷ drop place offs)) ≡ n + 1
with_length n place child offs e =
    let a = length-append (take place offs) (child ∷ drop place offs) in
    let b = length-append (take place offs) (drop place offs) in
    let c = ap (λ (l : List ℕ). length l) (take-append-drop place offs) in
    omega (arith, a, b, c, e)

pub children_more : (version : HiveVersion) (old mid : List Bin) (root x : ℕ) (host : Tree) (left : ℕ) (above : Above)
    (shared : List ℕ) (k : Tree) (at : ℕ)
    → (r : IsReady version old root x host left above shared k at) → HasNumbers k
    → IsRunPut version x above shared k at old mid
    → length (above_children version above at mid) ≡ length (children host) + 1
children_more version old mid root x host left above shared k at r numbers put =
    let t = tree_in version old root in
    let n = siblings_count version old mid root t x host r.node left above shared k at r.ready numbers r.holds put in
    let count : above.count ≡ length (children host) =
    r.ready.says.count ∙ counted_children (look_up version old) root t r.ready.path x host r.node r.ready.parent in
    with_length (length (children host))
    (position_or_len (is_behind (look_up version mid) (name_in (look_up version mid) at))
    (children_at (look_up version mid) above.list above.count)) at
    (children_at (look_up version mid) above.list above.count) (n ∙ count)

pub run_room : (version : HiveVersion) (old mid : List Bin) (root x : ℕ) (host : Tree) (left : ℕ) (above : Above)
    (shared : List ℕ) (k : Tree) (at : ℕ)
    → IsReady version old root x host left above shared k at → (put : IsRunPut version x above shared k at old mid)
    → bins_size mid ≤ bins_size old + new_bin_size (size version shared k)
run_room version old mid root x host left above shared k at r put =
    let inside = r.ready.inside in
    let run = graft_run version (beside version x shared above.security at k) at k put.run put.is
    (omega (arith, inside)) in
    subst (λ (n : ℕ). bins_size mid ≤ bins_size old + new_bin_size n) run.long put.put.long

-- a bin for the run, and one for each list
pub whole_room : (version : HiveVersion) (old new : List Bin) (root x : ℕ) (host : Tree) (left : ℕ) (above : Above)
    (shared : List ℕ) (k : Tree) (at : ℕ)
    → (r : IsReady version old root x host left above shared k at) → IsGrafted version x above shared k at old new
    → (bins_size old ≤ bins_size new)
    × (bins_size new ≤ bins_size old
    + (new_bin_size (size version shared k) + room_of (list_sizes (length (children host) + 1))))
whole_room version old new root x host left above shared k at r a =
    let noted = a.linked.fields.long in
    let counted = a.linked.counted.long in
    let put_least = a.put.put.least in
    let lists_least = a.linked.lists.kept_long in (
      omega (arith, noted, counted, put_least, lists_least),
      total (bins_size old) (bins_size a.mid) (bins_size a.linked.listed) (bins_size a.linked.noted)
          (bins_size new) (new_bin_size (size version shared k)) (room_of (list_sizes (length (children host) + 1)))
          (run_room version old a.mid root x host left above shared k at r a.put)
          (subst (λ (z : ℕ). bins_size a.linked.listed ≤ bins_size a.mid + room_of (list_sizes z))
          (children_more version old a.mid root x host left above shared k at r a.numbers a.put) a.linked.lists.long)
          noted counted,
    )
  where
    total : (o m l n w x y : ℕ) → m ≤ o + x → l ≤ m + y → n ≡ l → w ≡ n → w ≤ o + (x + y)
    total o m l n w x y a b c d = omega (arith, a, b, c, d)

-- ---- the bulk

pub grown : (version : HiveVersion) (name : List ℕ) (k t : Tree) (bulk count own new : ℕ) → bulk ≡ bulk_of version t
    → count ≡ length (children t)
    → own ≡ size version (head t).security (renamed name k)
    → new ≡ min (bulk + (own + (list_size (count + 1) - list_size count))) 18446744073709551615
    → new ≡ bulk_of version (with_child name k t)
grown version name k t bulk count own new b c o n =
    let e = child_size version name k t in
    let l = list_more count in
    let at : list_size (length (children t)) ≡ list_size count = ap list_size (sym c) in
    let more : list_size (length (children t) + 1) ≡ list_size (count + 1) =
    ap (λ (m : ℕ). list_size (m + 1)) (sym c) in
    sums (size version [] t) (size version [] (with_child name k t)) (list_size (length (children t)))
    (list_size (length (children t) + 1)) (list_size count) (list_size (count + 1))
    (size version (head t).security (renamed name k)) own bulk new e at more o b l n
  where
    sums : (t u l m l' m' z own bulk new : ℕ) → u + l ≡ t + (m + z) → l ≡ l' → m ≡ m' → own ≡ z
        → bulk ≡ min (32 + t) 18446744073709551615 → l' ≤ m'
        → new ≡ min (bulk + (own + (m' - l'))) 18446744073709551615 → new ≡ min (32 + u) 18446744073709551615
    sums t u l m l' m' z own bulk new e at more o b le n = omega (arith, e, at, more, o, b, le, n)

-- ---- the key is there

renamed_itself : (k : Tree) → renamed (head k).name k ≡ k
renamed_itself (key h ts) = refl

-- the key above has new lists
pub graft_lists : (version : HiveVersion) (old new : Opened) (root x : ℕ) (host : Tree) (left : ℕ) (above : Above)
    (shared : List ℕ) (k : Tree) (at : ℕ)
    → (r : IsReady version old.bins root x host left above shared k at) → (a : IsGrafted version x above shared k at old.bins new.bins)
    → ChangesChildren (look_up version old.bins) (look_up version new.bins) root x left
    (front version old.bins a.mid root (tree_in version old.bins root) x host r.node left above shared k at r.ready a.numbers
    r.holds a.put) []
    (at ∷ [])
    (back version old.bins a.mid root (tree_in version old.bins root) x host r.node left above shared k at r.ready a.numbers
    r.holds a.put)
    (security_listed above.security)
    → HasNewLists (hive_of old root version) (hive_of new root version) x
graft_lists version old new root x host left above shared k at r a ch =
    let t = tree_in version old.bins root in
    let n = r.node in
    let sp = above.security in
    let fr = front version old.bins a.mid root t x host n left above shared k at r.ready a.numbers r.holds a.put in
    let bk = back version old.bins a.mid root t x host n left above shared k at r.ready a.numbers r.holds a.put in
    let g = grafts version old.bins new.bins root t x host n left above shared k at r.ready r.holds a in
    let still = lists_still version old.bins a.mid root t x host n left above shared k at r.ready a.numbers r.holds a.put in
    let read = node_read (look_up version a.mid) at k g.formed.well.stands in
    let q = then-so ((look_up version a.mid).payload at) key_node_at read.0 read.1 in
    let some = some_size version shared k in
    inserted_lists version old a.mid a.linked.listed new root t r.ready.path x host n at a.linked.list sp left
    (above_lists version above a.mid) fr bk (security_listed sp)
    (record {
      parent = r.ready.parent;
      keeps = g.kept_m;
      gone_to = λ o i. subst (λ (s : List ℕ). In s o) still (in_from (above_lists version above a.mid) o i);
      gone_from = λ o i. contains_from (above_lists version above a.mid) o
          (subst (λ (s : List ℕ). In s o) (sym still) i);
      lists = a.linked.lists;
      fresh = λ z e. g.fresh at z (omega arith) (omega (arith, some)) e;
      there = (q.0, q.1);
      places = g.places;
      small = g.small;
      few = g.few;
      volatile = g.volatile;
      noted = g.node_c;
      others = λ o nx ns. a.linked.counted.others o ns ∙ a.linked.fields.others o nx;
      secure = r.ready.shares.used;
    })
    ch

pub record IsGraftMade (h : HiveCells) (new : Opened) (root : ℕ) (version : HiveVersion) (bulk : ℕ) (sp : ℕ)
    (shared : List ℕ) (k : Tree) : Type 0 where
  pub hive : IsHive new.bins root version bulk
  pub made : IsGraftedIn h sp shared k (hive_of new root version)

pub graft_made : (old new : Opened) (root : ℕ) (version : HiveVersion) (bulk own after : ℕ) (h : HiveCells)
    (above : Above) (shared : List ℕ) (k : Tree) (at : ℕ)
    → IsHive old.bins root version bulk → hive_of old root version ≡ h → (r : IsRootReady version old.bins root above shared k at)
    → IsNewChild (hive_of old root version) k → IsGrafted version root above shared k at old.bins new.bins
    → IsBytes (spelled 0 new.bins) → own ≡ size version (head (tree_in version old.bins root)).security k
    → after ≡ min (bulk + (own + (list_size (above.count + 1) - list_size above.count))) 18446744073709551615
    → IsGraftMade h new root version after above.security shared k
graft_made old new root version bulk own after h above shared k at is view r child a bytes own_is after_is =
    let b = look_up version old.bins in
    let c = look_up version new.bins in
    let m = look_up version a.mid in
    let l = look_up version a.linked.listed in
    let t = tree_in version old.bins root in
    let n = r.node in
    let sp = above.security in
    let sz = size version shared k in
    let fr = front version old.bins a.mid root t root t n 511 above shared k at r.ready a.numbers r.holds a.put in
    let bk = back version old.bins a.mid root t root t n 511 above shared k at r.ready a.numbers r.holds a.put in
    let g = grafts version old.bins new.bins root t root t n 511 above shared k at r.ready r.holds a in
    let name = (head k).name in
    let u = with_child name k t in
    let stands : Stands c at k = stands_new b m l c root t root t n 511 k at sz sp a.linked.list shared fr bk g in
    let ch : ChangesChildren b c root root 511 fr [] (at ∷ []) bk (security_listed sp) =
    changes b m l c root t root t n 511 k at sz sp a.linked.list shared fr bk g in
    let place : HasPlace b name fr bk =
    placed version old.bins a.mid root t root t n 511 above shared k at r.ready a.numbers r.holds a.put in
    let well : IsWellFormed c root u =
    root_gets b c root t k name at fr bk (security_listed sp) r.ready.parent.well child.absent child.good ch
    (subst (Stands c at) (sym (renamed_itself k)) stands) (apart k r.holds) r.ready.low place in
    let count_is : above.count ≡ length (children t) =
    r.ready.says.count ∙ counted_children b root t r.ready.path root t n r.ready.parent in
    let bulk_is : after ≡ bulk_of version u =
    grown version name k t bulk above.count own after is.counted count_is
    (own_is ∙ ap (size version (head t).security) (sym (renamed_itself k))) after_is in
    let tree : tree_of c root ≡ u = tree_is c root u well in
    let room = whole_room version old.bins new.bins root root t 511 above shared k at r a in
    record {
      hive = hive_opened new.bins new.bins root version after u refl well
          (well-formed-valid c root u (cells-bytes version new.bins bytes) well) bulk_is;
      made = subst (λ (g : HiveCells). IsGraftedIn g sp shared k (hive_of new root version)) view (record {
        version = refl;
        root = refl;
        tree = tree;
        at = at;
        front = fr;
        back = bk;
        changes = ch;
        stands = stands;
        place = place;
        secure = kept_secure b m l c root t root t n 511 k at sz sp a.linked.list shared fr bk g;
        run = run_made version old new root t n above shared k at r.ready r.holds a;
        lists = graft_lists version old new root root t 511 above shared k at r a ch;
        long = room.0;
        room = room.1;
      });
    }

-- ---- the hive is as it was, whatever run is put

pub still_hive : (old new : List Bin) (root x : ℕ) (host : Tree) (left : ℕ) (version : HiveVersion) (bulk : ℕ)
    (above : Above) (shared : List ℕ) (k : Tree) (at : ℕ) → IsHive old root version bulk
    → IsReady version old root x host left above shared k at → IsRunPut version x above shared k at old new
    → IsHive new root version bulk
still_hive old new root x host left version bulk above shared k at is r put =
    let b = look_up version old in
    let c = look_up version new in
    let t = tree_in version old root in
    let inside = r.ready.inside in
    let keeps : Keeps b c = (run_there version (beside version x shared above.security at k)
    at k put.run old new put.is (omega (arith, inside)) put.put).kept in
    hive_opened new new root version bulk t refl (kept_well b c root t is.stands keeps) is.valid is.counted

pub still_or : (old new : List Bin) (root x : ℕ) (host : Tree) (left : ℕ) (version : HiveVersion) (bulk : ℕ)
    (above : Above) (shared : List ℕ) (k : Tree) (at : ℕ) → IsHive old root version bulk
    → IsReady version old root x host left above shared k at
    → (new ≡ old) ⊎ IsRunPut version x above shared k at old new
    → IsHive new root version bulk
still_or old new root x host left version bulk above shared k at is r (inl e) =
    subst (λ (z : List Bin). IsHive z root version bulk) (sym e) is
still_or old new root x host left version bulk above shared k at is r (inr put) =
    still_hive old new root x host left version bulk above shared k at is r put

-- and the bins data are no shorter
pub no_shorter : (old : Opened) (new : List Bin) (root : ℕ) (version : HiveVersion) (h : HiveCells) (x : ℕ) (above : Above)
    (shared : List ℕ) (k : Tree) (at : ℕ) → hive_of old root version ≡ h
    → (new ≡ old.bins) ⊎ IsRunPut version x above shared k at old.bins new → bins_size h.bins ≤ bins_size new
no_shorter old new root version h x above shared k at view (inl e) =
    omega (arith, ap bins_size e, ap (λ (g : HiveCells). bins_size g.bins) view)
no_shorter old new root version h x above shared k at view (inr put) =
    let least = put.put.least in omega (arith, least, ap (λ (g : HiveCells). bins_size g.bins) view)

-- ---- there is no room

pub lacks_bins : (old new : List Bin) (root x : ℕ) (host : Tree) (left : ℕ) (version : HiveVersion) (above : Above)
    (shared : List ℕ) (k : Tree) (at : ℕ)
    → IsReady version old root x host left above shared k at
    → LacksGraftLists version x above shared k at old new
    → 16777216 < bins_size old
    + (new_bin_size (size version shared k) + room_of (list_sizes (length (children host) + 1)))
lacks_bins old new root x host left version above shared k at r a =
    total (bins_size old) (bins_size new) (new_bin_size (size version shared k))
    (room_of (list_sizes (length (children host) + 1)))
    (run_room version old new root x host left above shared k at r a.put)
    (subst (λ (z : ℕ). 16777216 < bins_size new + room_of (list_sizes z))
    (children_more version old new root x host left above shared k at r a.numbers a.put) a.lacks)
  where
    total : (o m x y : ℕ) → m ≤ o + x → 16777216 < m + y → 16777216 < o + (x + y)
    total o m x y a b = omega (arith, a, b)

pub lacks_lists : (old : Opened) (new : List Bin) (root : ℕ) (version : HiveVersion) (h : HiveCells) (above : Above)
    (shared : List ℕ) (k : Tree) (at : ℕ)
    → hive_of old root version ≡ h → IsRootReady version old.bins root above shared k at
    → LacksGraftLists version root above shared k at old.bins new → LacksGraftRoom h shared k
lacks_lists old new root version h above shared k at view r a =
    subst (λ (g : HiveCells). LacksGraftRoom g shared k) view
    (lacks_bins old.bins new root root (tree_in version old.bins root) 511 version above shared k at r a)

pub lacks_size : (h : HiveCells) (shared : List ℕ) (k : Tree) → 16777216 < size h.version shared k
    → LacksGraftRoom h shared k
lacks_size h shared k over =
    total (bins_size h.bins) (size h.version shared k) (room_of (list_sizes (length (children h.tree) + 1))) over
  where
    total : (o s y : ℕ) → 16777216 < s → 16777216 < o + (rounded (s + 32) + y)
    total o s y a = omega (arith, a)

pub lacks_many : (h : HiveCells) (shared : List ℕ) (k : Tree) (count : ℕ) → count ≡ length (children h.tree)
    → 2097150 < count → LacksGraftRoom h shared k
lacks_many h shared k count e many =
    let n = length (children h.tree) + 1 in
    let least = list_least n (omega (arith, e, many)) in
    let t = list_total n in
    let room = room_for (list_sizes n) (omega (arith, t, least, e, many)) in
    over (bins_size h.bins) (new_bin_size (size h.version shared k)) n (list_size n) (room_of (list_sizes n))
    (Rattle.edited_cells.specs.Sizes.total (list_sizes n)) least t room (omega (arith, e, many))
  where
    over : (o x n s y w : ℕ) → 8 * n ≤ s → w ≡ s → rounded (w + 32) ≤ y → 2097151 < n → 16777216 < o + (x + y)
    over o x n s y w a b c d = omega (arith, a, b, c, d)

-- ---- what is asked of the hive, of its bins

pub record Asked (h : HiveCells) (above : Above) (shared : List ℕ) (k : Tree) (own n at : ℕ) : Type 0 where
  pub child : IsNewChild h k
  pub may : MayGraft h above shared
  pub own_is : own ≡ size h.version (head h.tree).security k
  pub long : n ≡ size h.version shared k
  pub place : IsPlace n h.bins at

pub record ReadyAt (version : HiveVersion) (old : Opened) (root : ℕ) (above : Above) (shared : List ℕ) (k : Tree)
    (own at : ℕ) : Type 0 where
  pub ready : IsRootReady version old.bins root above shared k at
  pub child : IsNewChild (hive_of old root version) k
  pub place : IsPlace (size version shared k) old.bins at
  pub own_is : own ≡ size version (head (tree_in version old.bins root)).security k

pub ready_at : (old : Opened) (root : ℕ) (version : HiveVersion) (bulk : ℕ) (h : HiveCells) (above : Above)
    (shared : List ℕ) (k : Tree) (own n at : ℕ)
    → IsHive old.bins root version bulk → hive_of old root version ≡ h → Asked h above shared k own n at → root < 2 ^ 32
    → ReadyAt version old root above shared k own at
ready_at old root version bulk h above shared k own n at is view asked small =
    let q : Asked (hive_of old root version) above shared k own n at =
    subst (λ (g : HiveCells). Asked g above shared k own n at) (sym view) asked in
    let place : IsPlace (size version shared k) old.bins at = subst (λ (m : ℕ). IsPlace m old.bins at) q.long q.place in
    let inside = place.inside in
    record {
      ready = root_ready old root version bulk above shared k at is q.child q.may (omega (arith, inside)) small;
      child = q.child;
      place = place;
      own_is = q.own_is;
    }
