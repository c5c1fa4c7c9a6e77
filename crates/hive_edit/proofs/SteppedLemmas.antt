-- A step that is made on the cells of a hive, whatever the bulk of the tree then: what it reports the edit of one
-- step, and of steps in order.
use Rattle.std.proofs.Common.{◌≡◌, ◌≤◌, ◌<◌, ◌⊎◌, ℕ, zero, suc, ◌+◌, Bool, true, false, cond, List, [], ◌∷◌, ◌++◌, length, map, take, drop, get_or, Option, Some, None, Result, Ok, Err, inl, inr, refl, sym, ap, subst, ◌∙◌, arith}
use Rattle.std.specs.Prelude.{nat_lt, MatchBool, OnOk}
use Rattle.std.specs.Option.{IfSome}
use Rattle.std.specs.List.{All}
use Rattle.std.proofs.lemmas.Bool.{le-ltb, lt-ltb}
use Rattle.nt_bytes.specs.declared.version.HiveVersion.{HiveVersion}
use Rattle.nt_bytes.specs.Reading.{◌>>=◌}
use Rattle.hive_model.specs.Bins.{Bin, bins_size, look_up, spelled}
use Rattle.hive_model.specs.Size.{bulk_of}
use Rattle.hive_model.specs.Tree.{Tree}
use Rattle.hive_model.specs.Edit.{Step, Refusal, full, after_step, after_steps, most_bulk, edited}
use Rattle.hive_model.specs.Footprint.{needed_sizes, room_of, strain_of}
use Rattle.hive_model.specs.Stands.{IsWellFormed}
use Rattle.hive_cells.specs.Opened.{Opened}
use Rattle.hive_cells.proofs.HeldLemmas.{payload_held, held_payload}
use Rattle.hive_read.proofs.FormFacts.{IsBytes}
use Rattle.hive_read.proofs.ValidTrees.{well-formed-valid, cells-bytes}
use Rattle.reg_tree.specs.declared.stop.EditStop.{EditStop}
use Rattle.reg_tree.specs.Makes.{IsRefused, Makes, refusal_of}
use Rattle.edited_cells.specs.Done.{IsDone, AreDone}
use Rattle.edited_cells.specs.Parents.{NamesParents}
use Rattle.edited_cells.specs.Sizes.{AreGrown}
use Rattle.edited_cells.proofs.Grown.{strain_behind}
use Rattle.edited_cells.proofs.InOrder.{tree_done, parents_done, left_outside}
use Rattle.edited_cells.proofs.RoomLemmas.{some_all, strain_one, strain_least}
use Rattle.hive_edit.specs.Edits.{IsEditedInPlace, IsPackedAnew, IsPackedForRoom, KeepsParents}
use Rattle.hive_edit.specs.Hive.{HiveCells, cells_in, hive_of, IsHive}
use Rattle.hive_edit.specs.Standing.{tree_of}
use Rattle.hive_edit.specs.Stepped.{IsStepped, LacksStepRoom}
use Rattle.hive_edit.specs.Steps.{AreMadeOrNone, AreStepped, AreStrained}
use Rattle.hive_edit.specs.Tells.{IsToldStep}
use Rattle.hive_edit.proofs.EditLemmas.{the_tree}
use Rattle.hive_edit.proofs.HiveLemmas.{hive_opened}
use Rattle.hive_edit.proofs.StandingLemmas.{tree_is}
use Rattle.hive_edit.specs.Secured.{changes_of}
use Rattle.hive_edit.specs.Listed.{HasNewLists, relisted_keys}
use Rattle.hive_edit.specs.GivenUp.{given_up}
use Rattle.hive_edit.specs.NewRun.{HasNewRun, run_trees}
use Rattle.hive_cells.specs.Held.{held_at}
use Rattle.edited_cells.specs.Owned.{In}
use Rattle.hive_model.specs.InPlace.{KeepsSecurity}

-- ---- one step

-- the bins and the bulk are those of a hive in which the step was made
pub record IsStepMade (h : HiveCells) (new : Opened) (root : ℕ) (version : HiveVersion) (bulk : ℕ)
    (step : Step) : Type 0 where
  pub hive : IsHive new.bins root version bulk
  pub stepped : IsStepped h step (hive_of new root version)

-- the bins data are longer by at most the room for the cells that the step may need
abbrev pub IsWithinRoom : HiveVersion → List Bin → List Bin → ℕ → Step → Tree → Type 0
IsWithinRoom version old new root step u =
    bins_size new ≤ bins_size old + room_of (needed_sizes version (tree_of (look_up version old) root) step u)

pub stepped : (old new : Opened) (root : ℕ) (version : HiveVersion) (bulk bulk_then : ℕ) (h : HiveCells) (u : Tree)
    (step : Step) → IsHive old.bins root version bulk
    → hive_of old root version ≡ h → after_step step (tree_of (look_up version old.bins) root) ≡ the_tree u
    → IsDone (look_up version old.bins) (look_up version new.bins) root (tree_of (look_up version old.bins) root) u step
    → IsBytes (spelled 0 new.bins) → bulk_then ≡ bulk_of version u
    → bins_size old.bins ≤ bins_size new.bins → IsWithinRoom version old.bins new.bins root step u
    → KeepsSecurity root (changes_of (look_up version old.bins) root (tree_of (look_up version old.bins) root) step)
    (look_up version old.bins) (look_up version new.bins)
    → ((at : ℕ) → In (relisted_keys (look_up version old.bins) root (tree_of (look_up version old.bins) root) step) at
    → HasNewLists (hive_of old root version) (hive_of new root version) at)
    → ((o : ℕ) → In (given_up (look_up version old.bins) root step) o → held_at new.bins o ≡ None)
    → ((r : List ℕ × Tree) → In (run_trees (tree_of (look_up version old.bins) root) step) r
    → HasNewRun (hive_of old root version) r.0 r.1 (hive_of new root version))
    → IsStepMade h new root version bulk_then step
stepped old new root version bulk bulk_then h u step is view ok made bytes counted long room secure lists freed runs =
    let b = look_up version old.bins in
    let c = look_up version new.bins in
    let t = tree_of b root in
    let tree : tree_of c root ≡ u = tree_is c root u made.stands in
    let valid = well-formed-valid c root u (cells-bytes version new.bins bytes) made.stands in
    record {
      hive = hive_opened new.bins new.bins root version bulk_then u refl made.stands valid counted;
      stepped = subst (λ (g : HiveCells). IsStepped g step (hive_of new root version)) view (record {
        version = refl;
        root = refl;
        tree = ok ∙ sym (ap the_tree tree);
        done = subst (λ (w : Tree). IsDone b c root t w step) (sym tree) made;
        secure = secure;
        lists = lists;
        freed = freed;
        runs = runs;
        long = long;
        room = subst (λ (w : Tree). IsWithinRoom version old.bins new.bins root step w) (sym tree) room;
      });
    }

-- the bulk is that of its tree
pub stepped_bulk : (h : HiveCells) (new : Opened) (root : ℕ) (version : HiveVersion) (bulk : ℕ) (step : Step)
    → IsStepMade h new root version bulk step
    → bulk ≡ bulk_of h.version (tree_of (look_up version new.bins) root)
stepped_bulk h new root version bulk step m =
    m.hive.counted ∙ ap (λ (v : HiveVersion). bulk_of v (tree_of (look_up version new.bins) root)) m.stepped.version

-- where room for cells that the step needs is over the limit
pub lacks_room : (bins : Opened) (root : ℕ) (version : HiveVersion) (h : HiveCells) (u : Tree) (step : Step)
    → hive_of bins root version ≡ h
    → after_step step (tree_of (look_up version bins.bins) root) ≡ the_tree u
    → 16777216 < bins_size bins.bins + room_of (needed_sizes version (tree_of (look_up version bins.bins) root) step u)
    → LacksStepRoom h step
lacks_room bins root version h u step view ok over =
    subst (λ (g : HiveCells). LacksStepRoom g step) view
    (λ w e. subst (λ (z : Tree). 16777216 < bins_size bins.bins + room_of (needed_sizes version t step z))
    (same u w (sym ok ∙ e)) over)
  where
    t : Tree
    t = tree_of (look_up version bins.bins) root

    same : (a b : Tree) → the_tree a ≡ the_tree b → a ≡ b
    same a b e = cc

-- ---- the edit of one step

abbrev judged : HiveVersion → Result Tree Refusal → Result Tree Refusal
judged version r = r >>= (λ u. cond (nat_lt most_bulk (bulk_of version u)) (Err full) (Ok u))

pub all_edit : (version : HiveVersion) (t : Tree) (steps : List Step)
    → edited version t steps ≡ judged version (after_steps t steps)
unfolding edited
all_edit version t steps = refl

one_step : (t : Tree) (step : Step) → after_steps t (step ∷ []) ≡ after_step step t
one_step t step = go (after_step step t)
  where
    go : (r : Result Tree Refusal) → (r >>= λ u. Ok u) ≡ r
    go (Ok u) = refl
    go (Err e) = refl

pub steps_within : (version : HiveVersion) (t u : Tree) (steps : List Step) → after_steps t steps ≡ the_tree u
    → bulk_of version u ≤ 16773120
    → edited version t steps ≡ the_tree u
steps_within version t u steps ok room =
    all_edit version t steps ∙ ap (judged version) ok
    ∙ ap (λ (b : Bool). cond b (Err full) (Ok u)) (le-ltb most_bulk (bulk_of version u) room)

pub steps_full : (version : HiveVersion) (t u : Tree) (steps : List Step) → after_steps t steps ≡ the_tree u
    → 16773120 < bulk_of version u
    → edited version t steps ≡ Err full
steps_full version t u steps ok over =
    all_edit version t steps ∙ ap (judged version) ok
    ∙ ap (λ (b : Bool). cond b (Err full) (Ok u)) (lt-ltb most_bulk (bulk_of version u) over)

-- a refusal of a result is one of what is made of it
refused_then : (r : Result Tree Refusal) (f : Tree → Result Tree Refusal) (stop : EditStop) → IsRefused r stop
    → IsRefused (r >>= f) stop
refused_then r f stop h = go (refusal_of stop) h
  where
    go : (o : Option Refusal) → IfSome o (λ why. r ≡ Err why) → IfSome o (λ why. (r >>= f) ≡ Err why)
    go None h = tt
    go (Some why) h = ap (λ (q : Result Tree Refusal). q >>= f) h

pub steps_refused : (version : HiveVersion) (t : Tree) (steps : List Step) (stop : EditStop)
    → IsRefused (after_steps t steps) stop
    → IsRefused (edited version t steps) stop
steps_refused version t steps stop h =
    subst (λ (r : Result Tree Refusal). IsRefused r stop) (sym (all_edit version t steps))
    (refused_then (after_steps t steps) (λ u. cond (nat_lt most_bulk (bulk_of version u)) (Err full) (Ok u)) stop h)

pub step_within : (version : HiveVersion) (t u : Tree) (step : Step) → after_step step t ≡ the_tree u
    → bulk_of version u ≤ 16773120
    → edited version t (step ∷ []) ≡ the_tree u
step_within version t u step ok room = steps_within version t u (step ∷ []) (one_step t step ∙ ok) room

pub step_full : (version : HiveVersion) (t u : Tree) (step : Step) → after_step step t ≡ the_tree u
    → 16773120 < bulk_of version u
    → edited version t (step ∷ []) ≡ Err full
step_full version t u step ok over = steps_full version t u (step ∷ []) (one_step t step ∙ ok) over

pub step_refused : (version : HiveVersion) (t : Tree) (step : Step) (stop : EditStop)
    → IsRefused (after_step step t) stop
    → IsRefused (edited version t (step ∷ [])) stop
step_refused version t step stop h =
    steps_refused version t (step ∷ []) stop
    (subst (λ (r : Result Tree Refusal). IsRefused r stop) (sym (one_step t step)) h)

-- an edit that is made
pub then_ok : (r : Result Tree Refusal) (f : Tree → Result Tree Refusal) (u : Tree) → (r >>= f) ≡ the_tree u
    → (v : Tree) × (r ≡ the_tree v) × (f v ≡ the_tree u)
then_ok (Ok v) f u e = (v, refl, e)
then_ok (Err why) f u e = absurd cc

pub steps_made : (version : HiveVersion) (t u : Tree) (steps : List Step) → edited version t steps ≡ the_tree u
    → (v : Tree) × (after_steps t steps ≡ the_tree v)
steps_made version t u steps e =
    let v = then_ok (after_steps t steps) (λ w. cond (nat_lt most_bulk (bulk_of version w)) (Err full) (Ok w)) u
    (sym (all_edit version t steps) ∙ e) in
    (v.0, v.1)

-- ---- one step of a hive

pub stepped_edit : (h g : HiveCells) (step : Step) → IsStepped h step g → bulk_of h.version g.tree ≤ 16773120
    → edited h.version h.tree (step ∷ []) ≡ the_tree g.tree
stepped_edit h g step s room = step_within h.version h.tree g.tree step s.tree room

pub stepped_kept : (h g : HiveCells) (step : Step) → IsToldStep h step g → IsEditedInPlace h (step ∷ []) g
stepped_kept h g step s = record {
  kept = λ o p held outside. payload_held g.bins o p (s.stepped.done.framed.rest o p (held_payload h.bins o p held)
      (λ m. outside (g.tree, s.stepped.tree, inl m)));
  root = s.stepped.root;
  long = s.stepped.long;
  parents = λ n. subst (NamesParents (cells_in g)) (sym s.stepped.root) (s.stepped.done.parents n);
  stepped = (g, s, refl);
}

pub lacks_over : (h : HiveCells) (u : Tree) (step : Step) → LacksStepRoom h step → after_step step h.tree ≡ the_tree u
    → 16777216 < strain_of h.version (bins_size h.bins) h.tree (step ∷ [])
lacks_over h u step lacks ok =
    let l = lacks u ok in
    let s = strain_one h.version (bins_size h.bins) h.tree u step [] ok in
    omega (arith, l, s)

pub lacks_strained : (h : HiveCells) (u : Tree) (step : Step) → LacksStepRoom h step
    → edited h.version h.tree (step ∷ []) ≡ the_tree u
    → 16777216 < strain_of h.version (bins_size h.bins) h.tree (step ∷ [])
lacks_strained h u step lacks e =
    let v = steps_made h.version h.tree u (step ∷ []) e in
    lacks_over h v.0 step lacks (sym (one_step h.tree step) ∙ v.1)

-- by whether it was made
pub if_done : (A B : Type 0) (d : Bool) → d ≡ true → MatchBool d A B → A
if_done A B true e h = h
if_done A B false e h = absurd cc

pub if_undone : (A B : Type 0) (d : Bool) → d ≡ false → MatchBool d A B → B
if_undone A B true e h = absurd cc
if_undone A B false e h = h

-- the hive, where the bins are as they were
pub same_hive : (old new : Opened) (root : ℕ) (version : HiveVersion) (h : HiveCells) → hive_of old root version ≡ h
    → new.bins ≡ old.bins → new.base ≡ old.base → hive_of new root version ≡ h
same_hive old new root version h view e b = (λ i. hive_of (record { bins = e i; base = b i }) root version) ∙ view

-- ---- steps in order

pub stepped_more : (front : List Step) (a b c : HiveCells) (step : Step) → AreStepped a front b → IsToldStep b step c
    → AreStepped a (front ++ step ∷ []) c
stepped_more [] a b c step e s = (c, subst (λ (g : HiveCells). IsToldStep g step c) (sym e) s, refl)
stepped_more (first ∷ front) a b c step m s = (m.0, m.1, stepped_more front m.0 b c step m.2 s)

pub done_in_order : (steps : List Step) (a b : HiveCells) → AreStepped a steps b
    → AreDone a.root (cells_in a) a.tree steps (cells_in b) b.tree
done_in_order [] a b e = (ap (λ (g : HiveCells). cells_in g) e, ap (λ (g : HiveCells). g.tree) e)
done_in_order (step ∷ steps) a b m = (
  m.0.tree,
  cells_in m.0,
  m.1.stepped.tree,
  m.1.stepped.done,
  subst (λ (root : ℕ). AreDone root (cells_in m.0) m.0.tree steps (cells_in b) b.tree) m.1.stepped.root
      (done_in_order steps m.0 b m.2),
)

pub same_version : (steps : List Step) (a b : HiveCells) → AreStepped a steps b → b.version ≡ a.version
same_version [] a b e = ap (λ (g : HiveCells). g.version) (sym e)
same_version (step ∷ steps) a b m = same_version steps m.0 b m.2 ∙ m.1.stepped.version

same_root : (steps : List Step) (a b : HiveCells) → AreStepped a steps b → b.root ≡ a.root
same_root [] a b e = ap (λ (g : HiveCells). g.root) (sym e)
same_root (step ∷ steps) a b m = same_root steps m.0 b m.2 ∙ m.1.stepped.root

longer : (steps : List Step) (a b : HiveCells) → AreStepped a steps b → bins_size a.bins ≤ bins_size b.bins
longer [] a b e = let s : bins_size a.bins ≡ bins_size b.bins = ap (λ (g : HiveCells). bins_size g.bins) e in
    omega (arith, s)
longer (step ∷ steps) a b m = let d = longer steps m.0 b m.2 in let l = m.1.stepped.long in omega (arith, d, l)

grown_in_order : (steps : List Step) (a b : HiveCells) → AreStepped a steps b
    → AreGrown a.version (bins_size a.bins) a.tree steps (bins_size b.bins) b.tree
grown_in_order [] a b e =
    let s : bins_size a.bins ≡ bins_size b.bins = ap (λ (g : HiveCells). bins_size g.bins) e in
    (omega (arith, s), ap (λ (g : HiveCells). g.tree) e)
grown_in_order (step ∷ steps) a b m = (
  m.0.tree,
  bins_size m.0.bins,
  needed_sizes a.version a.tree step m.0.tree,
  m.1.stepped.tree,
  some_all (needed_sizes a.version a.tree step m.0.tree),
  m.1.stepped.room,
  subst (λ (v : HiveVersion). AreGrown v (bins_size m.0.bins) m.0.tree steps (bins_size b.bins) b.tree)
      m.1.stepped.version
      (grown_in_order steps m.0 b m.2),
)

pub ordered_tree : (steps : List Step) (a b : HiveCells) → AreStepped a steps b
    → after_steps a.tree steps ≡ the_tree b.tree
ordered_tree steps a b m = tree_done a.root steps (cells_in a) (cells_in b) a.tree b.tree (done_in_order steps a b m)

-- the hive is edited in place
pub ordered_kept : (steps : List Step) (a b : HiveCells) → IsWellFormed (cells_in a) a.root a.tree
    → AreStepped a steps b → IsEditedInPlace a steps b
ordered_kept steps a b well m = record {
  kept = λ o p held outside. payload_held b.bins o p
      (left_outside (cells_in a) (cells_in b) a.root a.tree b.tree steps (done_in_order steps a b m) o p
      (held_payload a.bins o p held) outside);
  root = same_root steps a b m;
  long = longer steps a b m;
  parents = λ n. subst (NamesParents (cells_in b)) (sym (same_root steps a b m))
      (parents_done a.root steps (cells_in a) (cells_in b) a.tree b.tree (done_in_order steps a b m) n);
  stepped = m;
}

-- ---- their edit, by the bulk at the end

bulk_seen : (steps : List Step) (h g : HiveCells) (n : ℕ) → AreStepped h steps g → n ≡ bulk_of g.version g.tree
    → n ≡ bulk_of h.version g.tree
bulk_seen steps h g n m e = e ∙ ap (λ (v : HiveVersion). bulk_of v g.tree) (same_version steps h g m)

pub ordered_made : (steps : List Step) (h g : HiveCells) (n : ℕ) → AreStepped h steps g → n ≡ bulk_of g.version g.tree
    → n ≤ 16773120
    → edited h.version h.tree steps ≡ the_tree g.tree
ordered_made steps h g n m e room =
    steps_within h.version h.tree g.tree steps (ordered_tree steps h g m)
    (subst (λ (b : ℕ). b ≤ 16773120) (bulk_seen steps h g n m e) room)

pub ordered_full : (steps : List Step) (h g : HiveCells) (n : ℕ) → AreStepped h steps g → n ≡ bulk_of g.version g.tree
    → 16773120 < n
    → edited h.version h.tree steps ≡ Err full
ordered_full steps h g n m e over =
    steps_full h.version h.tree g.tree steps (ordered_tree steps h g m)
    (subst (λ (b : ℕ). 16773120 < b) (bulk_seen steps h g n m e) over)

-- ---- all or none

pub all_made : (h g : HiveCells) (steps : List Step) (d : Bool) → d ≡ true → AreMadeOrNone h steps (Ok d) g
    → AreStepped h steps g × (bulk_of g.version g.tree ≤ 16773120)
all_made h g steps true e m = m
all_made h g steps false e m = absurd cc

pub none_made : (h g : HiveCells) (steps : List Step) (d : Bool) → d ≡ false → AreMadeOrNone h steps (Ok d) g
    → AreStrained h steps × (g ≡ h)
none_made h g steps true e m = absurd cc
none_made h g steps false e m = m

-- ---- a step after others

after_both : (front back : List Step) (t u : Tree) → after_steps t front ≡ the_tree u
    → after_steps t (front ++ back) ≡ after_steps u back
after_both [] back t u e = ap (λ (w : Tree). after_steps w back) (same t u e)
  where
    same : (a b : Tree) → the_tree a ≡ the_tree b → a ≡ b
    same a b e = cc
after_both (step ∷ front) back t u e =
    let v = then_ok (after_step step t) (λ w. after_steps w front) u e in
    ap (λ (r : Result Tree Refusal). r >>= λ w. after_steps w (front ++ back)) v.1
    ∙ after_both front back v.0 u v.2

-- it is refused, and so are all
pub refused_behind : (front back : List Step) (step : Step) (a b : HiveCells) (stop : EditStop) → AreStepped a front b
    → IsRefused (after_step step b.tree) stop
    → IsRefused (after_steps a.tree (front ++ step ∷ back)) stop
refused_behind front back step a b stop m h =
    subst (λ (r : Result Tree Refusal). IsRefused r stop)
    (sym (after_both front (step ∷ back) a.tree b.tree (ordered_tree front a b m)))
    (refused_then (after_step step b.tree) (λ w. after_steps w back) stop h)

-- it has no room, and so the strain of all is over the limit
strained_behind : (front back : List Step) (step : Step) (a b : HiveCells) (u : Tree) → AreStepped a front b
    → LacksStepRoom b step
    → after_steps a.tree (front ++ step ∷ back) ≡ the_tree u
    → 16777216 < strain_of a.version (bins_size a.bins) a.tree (front ++ step ∷ back)
strained_behind front back step a b u m lacks e =
    let both = after_both front (step ∷ back) a.tree b.tree (ordered_tree front a b m) in
    let v = then_ok (after_step step b.tree) (λ w. after_steps w back) u (sym both ∙ e) in
    let over : 16777216 < bins_size b.bins + room_of (needed_sizes a.version b.tree step v.0) =
    subst (λ (n : HiveVersion). 16777216 < bins_size b.bins + room_of (needed_sizes n b.tree step v.0))
    (same_version front a b m) (lacks v.0 v.1) in
    let s = strain_behind a.version (bins_size a.bins) (bins_size b.bins) a.tree b.tree front (step ∷ back)
    (grown_in_order front a b m) in
    let o = strain_one a.version (bins_size b.bins) b.tree v.0 step back v.1 in
    let l = strain_least a.version (bins_size b.bins + room_of (needed_sizes a.version b.tree step v.0)) v.0 back in
    omega (arith, over, s, o, l)

-- it has no room, and so all are strained
pub stopped_strained : (front back : List Step) (step : Step) (h mid : HiveCells) → AreStepped h front mid
    → LacksStepRoom mid step
    → AreStrained h (front ++ step ∷ back)
stopped_strained front back step h mid made lacks = λ u e.
    let v = steps_made h.version h.tree u (front ++ step ∷ back) e in
    strained_behind front back step h mid v.0 made lacks v.1

-- an edit that repacks the tree does so for want of room, where the strain of each edit that is made is over the
-- limit
pub packed_for_room : (h new : HiveCells) (steps : List Step) (r : Result (Unit {0}) EditStop) (P : Type 0)
    → Makes h.tree new.tree r (edited h.version h.tree steps)
    → OnOk r (IsPackedAnew new)
    → ((u : Tree) → edited h.version h.tree steps ≡ the_tree u
    → 16777216 < strain_of h.version (bins_size h.bins) h.tree steps)
    → OnOk r (P ⊎ IsPackedForRoom h steps new)
packed_for_room h new steps (Ok x) P made anew strained =
    inr (record { packed = anew; strained = strained new.tree made })
packed_for_room h new steps (Err stop) P made anew strained = tt

-- a repacked tree names its parents
pub names_anew : (old new : HiveCells) (r : Result (Unit {0}) EditStop) → OnOk r (IsPackedAnew new)
    → OnOk r (KeepsParents old new)
names_anew old new (Ok x) anew = λ n. anew.parents
names_anew old new (Err stop) anew = tt

-- ---- the steps so far

-- each step fits
pub fits_here : {X Y : Type 0} (P : Y → Type 0) (f : X → Y) (xs : List X) (k : ℕ) (x : X) → All P (map f xs)
    → k < length xs → x ≡ get_or xs k x → P (f x)
fits_here P f [] k x all lt e = absurd (omega (arith, lt))
fits_here P f (y ∷ xs) zero x all lt e = subst (λ z. P (f z)) (sym e) (all 0 (f y) (omega arith))
fits_here P f (y ∷ xs) (suc k) x all lt e =
    fits_here P f xs k x (λ j d within. all (suc j) d (omega (arith, within))) (omega (arith, lt)) e

pub map_more : {X Y : Type 0} (f : X → Y) (xs : List X) (k : ℕ) (x : X) → k < length xs → x ≡ get_or xs k x
    → map f (take (suc k) xs) ≡ map f (take k xs) ++ f x ∷ []
map_more f [] k x lt e = absurd (omega (arith, lt))
map_more {X} {Y} f (y ∷ xs) zero x lt e = ap (λ (z : X). f z ∷ []) (sym e)
map_more {X} {Y} f (y ∷ xs) (suc k) x lt e = ap (λ (l : List Y). f y ∷ l) (map_more f xs k x (omega (arith, lt)) e)

pub map_parts : {X Y : Type 0} (f : X → Y) (xs : List X) (k : ℕ) (x : X) → k < length xs → x ≡ get_or xs k x
    → map f xs ≡ map f (take k xs) ++ f x ∷ map f (drop (suc k) xs)
map_parts f [] k x lt e = absurd (omega (arith, lt))
map_parts {X} {Y} f (y ∷ xs) zero x lt e = ap (λ (z : X). f z ∷ map f xs) (sym e)
map_parts {X} {Y} f (y ∷ xs) (suc k) x lt e = ap (λ (l : List Y). f y ∷ l) (map_parts f xs k x (omega (arith, lt)) e)
