-- A key that was taken out of the cells of a hive: the hive is that of the tree without it.
use Rattle.std.proofs.Common.{◌≡◌, ◌≤◌, ◌<◌, ℕ, ◌+◌, ◌-◌, ◌||◌, Bool, true, false, List, [], ◌∷◌, ◌++◌, length, Option, Some, None, Result, Ok, Err, inl, inr, ⊎_elim, refl, sym, ap, subst, ◌∙◌, arith, cond, eqb, ◌⊎◌, suc}
use Rattle.std.specs.Prelude.{min, find, ◌==◌, replicate}
use Rattle.std.specs.Option.{is_none, MatchOption, option_map_or}
use Rattle.std.proofs.lemmas.Bool.{eqb-true, eqb-false}
use Rattle.nt_bytes.specs.declared.version.HiveVersion.{HiveVersion}
use Rattle.nt_bytes.specs.declared.fault.HiveFaultKind.{HiveFaultKind}
use Rattle.nt_bytes.specs.Reading.{◌>>=◌}
use Rattle.hive_model.specs.Bins.{Bin, Cells, bins_size, look_up, spelled}
use Rattle.hive_model.specs.KeyNode.{KeyNode, key_node_at}
use Rattle.hive_model.specs.Tree.{Tree, key, head, children, is_named, find_key}
use Rattle.hive_model.specs.Size.{node_size, class_size, security_size, items_size, list_size, count, size, size_of_all, bulk_of}
use Rattle.hive_model.specs.Edit.{Refusal, no_key, delete_key, without_key, unless, key_deleted, after_step}
use Rattle.hive_model.specs.Walk.{reading}
use Rattle.hive_model.specs.Footprint.{child_places, needed_sizes, room_of, list_strain_of, unless_refused, security_cell_at, list_cells_at}
use Rattle.hive_model.specs.Stands.{IsWellFormed}
use Rattle.hive_model.specs.InPlace.{IsKeptSecurity, KeepsSecurity}
use Rattle.hive_model.specs.Security.{security_at}
use Rattle.hive_cells.specs.Opened.{Opened}
use Rattle.hive_cells.specs.Held.{held_at}
use Rattle.hive_cells.proofs.HeldLemmas.{payload_held, held_payload}
use Rattle.hive_read.proofs.ValidTrees.{AreBytes, well-formed-valid, cells-bytes}
use Rattle.hive_read.proofs.FormFacts.{IsBytes, then-so}
use Rattle.edited_cells.specs.Done.{IsDone}
use Rattle.edited_cells.specs.Lessened.{HasChildThere}
use Rattle.edited_cells.specs.Uses.{tree_uses}
use Rattle.edited_cells.proofs.Lessening.{deleted_step, lessened_size, lessened_strain}
use Rattle.edited_cells.specs.Takes.{TakesChild}
use Rattle.edited_cells.proofs.Ins.{contains_from}
use Rattle.edited_cells.proofs.TakenOut.{key_taken_out, noted as noted_node, recounted, removed}
use Rattle.key_index.specs.Lists.{children_at, lists_at, without_child}
use Rattle.hive_edit.specs.declared.deleting.KeyPair.{KeyPair}
use Rattle.hive_edit.specs.declared.making.Above.{Above}
use Rattle.hive_edit.specs.Hive.{HiveCells, cells_in, hive_of, IsHive}
use Rattle.hive_edit.specs.Standing.{tree_of}
use Rattle.hive_edit.specs.Stepped.{IsStepped, LacksStepRoom}
use Rattle.hive_edit.specs.Listed.{HasNewLists}
use Rattle.hive_edit.specs.Making.{AboveIs}
use Rattle.hive_edit.specs.Dropped.{AreShortened, left_children, times}
use Rattle.hive_edit.specs.Deleting.{pair_place, levels_left, DropsUses, IsPairTaken, IsPairKept}
use Rattle.hive_edit.proofs.StandingLemmas.{tree_is}
use Rattle.hive_edit.proofs.HiveLemmas.{hive_opened}
use Rattle.hive_edit.proofs.EditLemmas.{the_tree}
use Rattle.hive_edit.proofs.LowLemmas.{bulk_is, bulk_then}
use Rattle.hive_look.proofs.ParentLemmas.{lists_are, children_are, node_no_security, list_no_security}
use Rattle.hive_edit.proofs.JudgeLemmas.{counted_children}
use Rattle.edited_cells.specs.Owned.{In, security}
use Rattle.hive_edit.proofs.DroppedLemmas.{shortened_keeps}
use Rattle.hive_edit.proofs.RemovedLemmas.{SplitsAt, split_one, kids_apart, takes}
use Rattle.hive_edit.proofs.PairLemmas.{a_pair, no_pair, PairHere, pair_here, pair_absent, no_node, no_list, secure_cells, in_lists, can_remove, in_hive}
use Rattle.hive_edit.specs.Secured.{changes_of}
use Rattle.hive_edit.proofs.ListedLemmas.{removed_lists}
use Rattle.hive_edit.specs.GivenUp.{plain_cells}
use Rattle.hive_edit.proofs.GivenUpLemmas.{plain_use}
use Rattle.hive_edit.proofs.SecuredLemmas.{keeps_security, secure_reads, secure_own, secure_same, many_go}
use Rattle.hive_look.proofs.ResultLemmas.{done}
use Rattle.edited_cells.proofs.FromLists.{length_more}
use Rattle.edited_cells.proofs.Around.{once_two, hive_uses, hive_once, used_held}
use Rattle.edited_cells.proofs.OwnedUses.{secure_there}
use Rattle.edited_cells.proofs.Held.{are_held}
use Rattle.edited_cells.specs.Relists.{IsSecurityCell}

-- ---- what the step makes of the tree

-- the tree without a key: the step, its size, and the room that the step may need
pub record Lessens (version : HiveVersion) (t : Tree) (path : List (List ℕ)) (u kid : Tree) : Type 0 where
  pub step : after_step (delete_key path) t ≡ the_tree (without_key path t)
  pub sizes : size version [] (without_key path t)
      + (list_size (length (children u)) + size version (head u).security kid)
      ≡ size version [] t + list_size (length (children u) - 1)
  pub room : (bytes : ℕ) → bytes + room_of (needed_sizes version t (delete_key path) (without_key path t))
      ≡ list_strain_of bytes (length (children u) - 1)

lessens : (version : HiveVersion) (t : Tree) (parent : List (List ℕ)) (name : List ℕ) (u kid : Tree)
    → find_key parent t ≡ Some u
    → find (is_named name) (children u) ≡ Some kid → Lessens version t (parent ++ name ∷ []) u kid
lessens version t parent name (key h ts) kid found child =
    let there : HasChildThere t parent name h ts kid = record { above = found; child = child } in
    let step = delete_key (parent ++ name ∷ []) in
    let ok = deleted_step t parent name h ts kid there in
    record {
      step = ok;
      sizes = lessened_size version [] t parent name h ts kid there;
      room = λ bytes.
          sym (ap (λ (r : Result Tree Refusal). unless_refused bytes r
          (λ v. bytes + room_of (needed_sizes version t step v))) ok)
          ∙ lessened_strain version bytes t parent name h ts kid there;
    }

pub pair_lessens : (version : HiveVersion) (b : Cells) (root : ℕ) (t : Tree) (path : List (List ℕ)) (p : KeyPair)
    → (h : PairHere b root t path p)
    → Lessens version t path h.there h.kid
pair_lessens version b root t path p h =
    subst (λ (l : List (List ℕ)). Lessens version t l h.there h.kid) (sym h.whole)
    (lessens version t h.parent h.name h.there h.kid h.found h.kid_found)

-- ---- the lists

split_here : (b : Cells) (root : ℕ) (t : Tree) (path : List (List ℕ)) (p : KeyPair) → PairHere b root t path p
    → SplitsAt (child_places b p.above) p.at
split_here b root t path p h =
    split_one (child_places b p.above) p.at (kids_apart b root t h.stored p.above h.there h.node h.parent_is) h.listed

left_length : (version : HiveVersion) (bins : List Bin) (root : ℕ) (t : Tree) (path : List (List ℕ)) (p : KeyPair)
    (above : Above)
    → (h : PairHere (look_up version bins) root t path p) → AboveIs above h.node
    → length (left_children version above p.at bins) ≡ length (children h.there) - 1
left_length version bins root t path p above h says =
    let b = look_up version bins in
    let s = split_here b root t path p h in
    let kids = children_are b root t h.stored p.above h.there h.node h.parent_is in
    let all : children_at b above.list above.count ≡ child_places b p.above =
    (λ i. children_at b (says.list i) (says.count i)) ∙ kids in
    let others = ap (λ (l : List ℕ). length l) (ap (without_child p.at) all ∙ s.others) in
    let whole = ap (λ (l : List ℕ). length l) s.whole in
    let one = length_more s.front p.at s.back in
    let count = counted_children b root t h.stored p.above h.there h.node h.parent_is in
    let number = (Rattle.hive_look.proofs.ParentLemmas.siblings_are b root t h.stored p.above h.there h.node
    h.parent_is).number in
    let same = ap (λ (l : List ℕ). length l) kids in
    omega (arith, others, whole, one, count, number, same)

-- ---- the cells

-- From bins to bins the step was made.
pub record PairDone (version : HiveVersion) (old new : List Bin) (root : ℕ) (t : Tree)
    (path : List (List ℕ)) : Type 0 where
  pub step : after_step (delete_key path) t ≡ the_tree (without_key path t)
  pub made : IsDone (look_up version old) (look_up version new) root t (without_key path t) (delete_key path)
  pub long : bins_size old ≤ bins_size new
  pub room : bins_size new ≤ bins_size old + room_of (needed_sizes version t (delete_key path) (without_key path t))

shortened_long : (version : HiveVersion) (above : Above) (y : ℕ) (old new : List Bin) (list : ℕ)
    → AreShortened version above y old new list
    → (bins_size old ≤ bins_size new)
    × (bins_size new ≤ list_strain_of (bins_size old) (length (left_children version above y old)))
shortened_long version above y old new list (inl s) = (s.1.kept_long, s.1.long)
shortened_long version above y old new list (inr s) =
    let l = s.1.long in
    (omega (arith, l), omega (arith, l))

pub pair_done : (version : HiveVersion) (old new : List Bin) (root : ℕ) (t : Tree) (path : List (List ℕ)) (p : KeyPair)
    → IsWellFormed (look_up version old) root t → pair_place (look_up version old) path root ≡ a_pair p
    → IsPairTaken version path p old new
    → PairDone version old new root t path
pair_done version old new root t path p well place g =
    let b = look_up version old in
    let h = pair_here b root t path p well place in
    let n = h.node in
    let left = levels_left path in
    let says = g.says n h.parent_is.read in
    let s = split_here b root t path p h in
    let less = pair_lessens version b root t path p h in
    let takes_it = takes version old new root t h.stored p.above h.there n g.above p.at left (tree_uses left b p.at)
    h.parent_is says s g.few refl
    (λ v i. no_node b root t path p h p.above v i refl) g.removed (secure_cells b root t path p h)
    (λ o i. no_list b root t path p h o true i) in
    let step : after_step (delete_key (h.parent ++ h.name ∷ [])) t ≡ the_tree (without_key path t) =
    ap (λ (l : List (List ℕ)). after_step (delete_key l) t) (sym h.whole) ∙ less.step in
    let made = key_taken_out b (look_up version g.removed.listed) (look_up version new) root t (without_key path t)
    h.parent h.name p.above p.at left g.removed.list
    n s.front s.back well step h.place h.deep h.named takes_it in
    let lists = shortened_long version g.above p.at old g.removed.listed g.removed.list g.removed.lists in
    let fields = g.removed.fields.long in
    let dropped = g.removed.dropped.long in
    let room = less.room (bins_size old) in
    let fewer = ap (λ (z : ℕ). list_strain_of (bins_size old) z)
    (left_length version old root t path p g.above h says) in
    record {
      step = less.step;
      made = subst (λ (l : List (List ℕ)). IsDone b (look_up version new) root t (without_key path t) (delete_key l))
          (sym h.whole) made;
      long = omega (arith, lists.0, fields, dropped);
      room = omega (arith, lists.1, fields, dropped, room, fewer);
    }

-- ---- the counts

in_or_none : (us : List (ℕ × Bool)) (o : ℕ) → In us (o, true) ⊎ ((In us (o, true) → ⊥) × (times o us ≡ 0))
in_or_none [] o = inr (λ i. i, refl)
in_or_none (u ∷ us) o = go u.1 refl (eqb u.0 o) refl (in_or_none us o)
  where
    as_used : Bool → ℕ
    as_used w = cond w (suc (times o us)) (times o us)

    go : (s : Bool) → u.1 ≡ s → (w : Bool) → eqb u.0 o ≡ w
        → In us (o, true) ⊎ ((In us (o, true) → ⊥) × (times o us ≡ 0))
        → In (u ∷ us) (o, true) ⊎ ((In (u ∷ us) (o, true) → ⊥) × (times o (u ∷ us) ≡ 0))
    go s e w f (inl j) = inl (inr j)
    go true e true f (inr n) = inl (inl (λ i. (eqb-true u.0 o f i, e i)))
    go true e false f (inr n) = inr (
      λ i. ⊎_elim (λ (d : u ≡ (o, true)). eqb-false u.0 o f (ap (λ (z : ℕ × Bool). z.0) d)) n.0 i,
      ap as_used (ap (λ (s : Bool). cond s (eqb u.0 o) false) e ∙ f) ∙ n.1,
    )
    go false e w f (inr n) = inr (
      λ i. ⊎_elim (λ (d : u ≡ (o, true)). absurd (let x : false ≡ true = sym e ∙ ap (λ (z : ℕ × Bool). z.1) d in cc)) n.0 i,
      ap as_used (ap (λ (s : Bool). cond s (eqb u.0 o) false) e) ∙ n.1,
    )

-- each cell of security counts those no more that used it at the key or below it
pair_secure : (version : HiveVersion) (old new : List Bin) (root : ℕ) (t : Tree) (path : List (List ℕ)) (p : KeyPair)
    → IsWellFormed (look_up version old) root t → pair_place (look_up version old) path root ≡ a_pair p
    → IsPairTaken version path p old new
    → KeepsSecurity root (changes_of (look_up version old) root t (delete_key path)) (look_up version old)
    (look_up version new)
pair_secure version old new root t path p well place g =
    keeps_security b c root t (changes_of b root t (delete_key path)) well
    (λ o s. subst (λ (l : List Bool). IsKeptSecurity b c l o)
    (sym (λ i. replicate (option_map_or (λ q. times o (tree_uses (levels_left path) b q.at)) (place i) 0) false))
    (each o s (in_or_none us o)))
  where
    b : Cells
    b = look_up version old

    c : Cells
    c = look_up version new

    h : PairHere b root t path p
    h = pair_here b root t path p well place

    us : List (ℕ × Bool)
    us = tree_uses (levels_left path) b p.at

    noted : (o : ℕ) (q : List ℕ) → IsSecurityCell b root o → held_at old o ≡ Some q → held_at g.removed.noted o ≡ Some q
    noted o q s held =
        g.removed.fields.others o
        (λ e. node_no_security b root t h.stored p.above h.there h.node s.path s.key h.parent_is s.reached
        (subst (In (security_cell_at b s.key)) e s.uses))
        ∙ shortened_keeps version g.above p.at old g.removed.listed g.removed.list g.removed.lists o q held
        (λ j. list_no_security b root t h.stored p.above h.there h.node s.path s.key o h.parent_is s.reached s.uses
        (in_lists version old root t path p g.above h (g.says h.node h.parent_is.read) o j))

    unused : (o : ℕ) → IsSecurityCell b root o → (In us (o, true) → ⊥) → (v : Bool) → In us (o, v) → ⊥
    unused o s none true j = none j
    unused o s none false j = ⊎_elim (λ (e : (o, false) ≡ (o, true)). absurd (let d : false ≡ true = ap (λ (z : ℕ × Bool). z.1) e in cc))
        (λ (d : (false ≡ true) × (true ≡ true)). absurd (let x : false ≡ true = d.0 in cc))
        (once_two (hive_uses b root) (o, false) (o, true) (hive_once b root t well.stands well.names well.once)
        (in_hive b root t path p h (o, false) j) (secure_there b root t o well s) refl)

    each : (o : ℕ) → IsSecurityCell b root o → In us (o, true) ⊎ ((In us (o, true) → ⊥) × (times o us ≡ 0))
        → IsKeptSecurity b c (replicate (times o us) false) o
    each o s (inl i) =
        let z = secure_reads b root t well o s in
        let q = then-so (b.payload o) security_at z.0 z.1 in
        let now = g.removed.dropped.counted o q.0 i (noted o q.0 s (payload_held old o q.0 q.1)) in
        record {
          cell = z.0;
          was = z.1;
          stays = ap (λ (r : Result (List ℕ) HiveFaultKind). r >>= security_at) (held_payload new o now.0 now.1)
              ∙ now.2.says z.0 q.2
              ∙ ap (λ (n : ℕ). done (record z.0 { uses = n })) (sym (many_go (times o us) z.0.uses));
        }
    each o s (inr n) =
        let q = (are_held b root t well).held s.path security o (secure_own b root o s) in
        let same : held_at new o ≡ Some q.0 = g.removed.dropped.others o (unused o s n.0)
        ∙ noted o q.0 s (payload_held old o q.0 q.1) in
        subst (λ (k : ℕ). IsKeptSecurity b c (replicate k false) o) (sym n.1)
        (secure_same b c root t well o s (held_payload new o q.0 same ∙ sym q.1))

-- the key above it has new lists
pair_lists : (version : HiveVersion) (old new : Opened) (root : ℕ) (t : Tree) (path : List (List ℕ)) (p : KeyPair)
    → IsWellFormed (look_up version old.bins) root t → pair_place (look_up version old.bins) path root ≡ a_pair p
    → IsPairTaken version path p old.bins new.bins
    → HasNewLists (hive_of old root version) (hive_of new root version) p.above
pair_lists version old new root t path p well place g =
    removed_lists version old new root t h.stored p.above h.there n g.above p.at left uses s.front s.back
    (recounted b l c root t h.stored p.above left n s.front s.back p.at g.removed.list well h.reached h.stored_deep
    takes_it)
    (noted_node b l c root t h.stored p.above left n s.front s.back p.at g.removed.list well h.reached h.stored_deep takes_it)
    h.parent_is g.removed
    (removed b l c root t h.stored p.above left n s.front s.back p.at g.removed.list well h.reached h.stored_deep
    takes_it)
    s.whole left_is s.others
    (λ o i. contains_from (lists_at b g.above.list g.above.count) o
    (subst (λ (w : List ℕ). In w o) (sym lists_is) i))
    (λ o v i. let q = used_held b root t well (o, v) (in_hive b root t path p h (o, v) i) in
    (q.0, payload_held old.bins o q.0 q.1))
    (λ o v i j. no_list b root t path p h o v i j)
  where
    b : Cells
    b = look_up version old.bins

    l : Cells
    l = look_up version g.removed.listed

    c : Cells
    c = look_up version new.bins

    h : PairHere b root t path p
    h = pair_here b root t path p well place

    n : KeyNode
    n = h.node

    left : ℕ
    left = levels_left path

    uses : List (ℕ × Bool)
    uses = tree_uses left b p.at

    s : SplitsAt (child_places b p.above) p.at
    s = split_here b root t path p h

    says : AboveIs g.above n
    says = g.says n h.parent_is.read

    takes_it : TakesChild b l c p.above left n s.front s.back p.at g.removed.list
    takes_it = takes version old.bins new.bins root t h.stored p.above h.there n g.above p.at left uses h.parent_is says s g.few
        refl (λ v i. no_node b root t path p h p.above v i refl) g.removed (secure_cells b root t path p h)
        (λ o i. no_list b root t path p h o true i)

    lists_is : lists_at b g.above.list g.above.count ≡ list_cells_at b p.above
    lists_is = (λ i. lists_at b (says.list i) (says.count i)) ∙ lists_are b root t h.stored p.above h.there n h.parent_is

    left_is : left_children version g.above p.at old.bins ≡ s.front ++ s.back
    left_is = ap (without_child p.at) ((λ i. children_at b (says.list i) (says.count i))
        ∙ children_are b root t h.stored p.above h.there n h.parent_is) ∙ s.others

-- ---- the hive

-- the bins and the bulk are those of a hive in which the key was deleted
pub record IsPairGone (h : HiveCells) (new : Opened) (root : ℕ) (version : HiveVersion) (bulk : ℕ)
    (path : List (List ℕ)) : Type 0 where
  pub hive : IsHive new.bins root version bulk
  pub stepped : IsStepped h (delete_key path) (hive_of new root version)
  pub tree : tree_of (look_up version new.bins) root ≡ without_key path h.tree

pub pair_gone : (old new : Opened) (root : ℕ) (version : HiveVersion) (bulk bulk_then : ℕ) (h : HiveCells)
    (path : List (List ℕ)) (p : KeyPair)
    → IsHive old.bins root version bulk → hive_of old root version ≡ h
    → pair_place (look_up version old.bins) path root ≡ a_pair p
    → IsPairTaken version path p old.bins new.bins → AreBytes (look_up version new.bins)
    → bulk_then ≡ bulk_of version (without_key path (tree_of (look_up version old.bins) root))
    → IsPairGone h new root version bulk_then path
pair_gone old new root version bulk bulk_then h path p is view place taken bytes counted =
    let b = look_up version old.bins in
    let c = look_up version new.bins in
    let t = tree_of b root in
    let u = without_key path t in
    let d = pair_done version old.bins new.bins root t path p is.stands place taken in
    let tree : tree_of c root ≡ u = tree_is c root u d.made.stands in
    let valid = well-formed-valid c root u bytes d.made.stands in
    record {
      hive = hive_opened new.bins new.bins root version bulk_then u refl d.made.stands valid counted;
      stepped = subst (λ (g : HiveCells). IsStepped g (delete_key path) (hive_of new root version)) view (record {
        version = refl;
        root = refl;
        tree = d.step ∙ ap the_tree (sym tree);
        done = subst (λ (v : Tree). IsDone b c root t v (delete_key path)) (sym tree) d.made;
        secure = pair_secure version old.bins new.bins root t path p is.stands place taken;
        lists = λ at among.
            let one : In (p.above ∷ []) at = subst (λ (l : List ℕ). In l at)
            (λ i. option_map_or (λ (q : KeyPair). q.above ∷ []) (place i) []) among in
            ⊎_elim (λ same. subst (HasNewLists (hive_of old root version) (hive_of new root version)) same
            (pair_lists version old new root t path p is.stands place taken)) (λ (z : ⊥). absurd z) one;
        freed = λ o given. taken.removed.dropped.freed o (plain_use (tree_uses (levels_left path) b p.at) o
            (subst (λ (l : List ℕ). In l o)
            (λ i. option_map_or (λ (q : KeyPair). plain_cells (tree_uses (levels_left path) b q.at)) (place i) []) given));
        runs = λ r among. absurd among;
        long = d.long;
        room = subst (λ (v : Tree). bins_size new.bins ≤ bins_size old.bins
            + room_of (needed_sizes version t (delete_key path) v)) (sym tree) d.room;
      });
      tree = subst (λ (g : HiveCells). tree_of c root ≡ without_key path g.tree) view tree;
    }

-- no room for the lists is no room for the step
pub pair_kept : (old : Opened) (new : List Bin) (root : ℕ) (version : HiveVersion) (bulk : ℕ) (h : HiveCells)
    (path : List (List ℕ)) (p : KeyPair)
    → IsHive old.bins root version bulk → hive_of old root version ≡ h
    → pair_place (look_up version old.bins) path root ≡ a_pair p
    → IsPairKept version p old.bins new → LacksStepRoom h (delete_key path)
pair_kept old new root version bulk h path p is view place kept =
    let b = look_up version old.bins in
    let t = tree_of b root in
    let here = pair_here b root t path p is.stands place in
    let says = kept.says here.node here.parent_is.read in
    let less = pair_lessens version b root t path p here in
    let fewer = ap (λ (z : ℕ). list_strain_of (bins_size old.bins) z)
    (left_length version old.bins root t path p kept.above here says) in
    let room = less.room (bins_size old.bins) in
    let lacks = kept.lacks.0 in
    subst (λ (g : HiveCells). LacksStepRoom g (delete_key path)) view (λ u e.
    subst (λ (v : Tree). 16777216 < bins_size old.bins + room_of (needed_sizes version t (delete_key path) v))
    (the_same (without_key path t) u (sym less.step ∙ e))
    (omega (arith, fewer, room, lacks)))
  where
    the_same : (v u : Tree) → the_tree v ≡ the_tree u → v ≡ u
    the_same v u e = cc

-- where there is no such key, the step is refused
pub pair_refused : (version : HiveVersion) (bins : List Bin) (root : ℕ) (t : Tree) (path : List (List ℕ))
    → IsWellFormed (look_up version bins) root t
    → pair_place (look_up version bins) path root ≡ no_pair → after_step (delete_key path) t ≡ Err no_key
pair_refused version bins root t path well none =
    ⊎_elim (λ e. ap (λ (l : List (List ℕ)). key_deleted l t) e)
    (λ e. ap (λ (o : Option Tree). unless (((length path == 0) || is_none o, no_key) ∷ []) (without_key path t))
    (Rattle.hive_look.proofs.PlaceLemmas.no_place (look_up version bins) path root t well e)
    ∙ either (length path == 0))
    (pair_absent (look_up version bins) path root none)
  where
    either : (v : Bool) → unless ((v || true, no_key) ∷ []) (without_key path t) ≡ Err no_key
    either true = refl
    either false = refl

-- ---- what the key and those below it used

pub drops_uses : (old new : Opened) (root : ℕ) (version : HiveVersion) (bulk : ℕ) (h : HiveCells)
    (path : List (List ℕ)) (p : KeyPair)
    → IsHive old.bins root version bulk → hive_of old root version ≡ h
    → pair_place (look_up version old.bins) path root ≡ a_pair p
    → IsPairTaken version path p old.bins new.bins → DropsUses h path (hive_of new root version)
drops_uses old new root version bulk h path p is view place g =
    subst (λ (z : HiveCells). DropsUses z path (hive_of new root version)) view (record {
      pair = p;
      place = place;
      gone = λ o i. g.removed.dropped.freed o i;
      counted = λ o q i held. g.removed.dropped.counted o q i (noted o q i held);
    })
  where
    here : PairHere (look_up version old.bins) root (tree_of (look_up version old.bins) root) path p
    here = pair_here (look_up version old.bins) root (tree_of (look_up version old.bins) root) path p is.stands place

    noted : (o : ℕ) (q : List ℕ) → In (tree_uses (levels_left path) (look_up version old.bins) p.at) (o, true)
        → held_at old.bins o ≡ Some q → held_at g.removed.noted o ≡ Some q
    noted o q i held =
        g.removed.fields.others o
        (no_node (look_up version old.bins) root (tree_of (look_up version old.bins) root) path p here o true i)
        ∙ shortened_keeps version g.above p.at old.bins g.removed.listed g.removed.list g.removed.lists o q held
        (λ j. no_list (look_up version old.bins) root (tree_of (look_up version old.bins) root) path p here o true i
        (in_lists version old.bins root (tree_of (look_up version old.bins) root) path p g.above here
        (g.says here.node here.parent_is.read) o j))

-- ---- the bulk

-- a key takes as much under another descriptor, but for the cell of its own
shared_size : (version : HiveVersion) (shared : List ℕ) (k : Tree)
    → size version shared k + security_size [] (head k).security ≡ size version [] k
    + security_size shared (head k).security
shared_size version shared (key h ts) =
    sum (node_size h) (class_size h.class) (security_size shared h.security) (security_size [] h.security)
    (items_size version h.values)
    (list_size (count ts)) (size_of_all version h.security ts)
  where
    sum : (n c s z i l b : ℕ) → n + c + s + i + l + b + z ≡ n + c + z + i + l + b + s
    sum n c s z i l b = omega arith

pub below_size : (version : HiveVersion) (shared : List ℕ) (k : Tree) (bulk more less : ℕ) → bulk ≡ bulk_of version k
    → bulk ≤ 576460752303423488
    → more ≡ security_size shared (head k).security → less ≡ 32 + security_size [] (head k).security
    → (less ≤ bulk + more) × (bulk + more - less ≡ size version shared k)
below_size version shared k bulk more less b few m l =
    sum (size version shared k) (size version [] k) (security_size [] (head k).security)
    (security_size shared (head k).security) bulk more less
    (shared_size version shared k) b few m l
  where
    sum : (s t z m bulk more less : ℕ) → s + z ≡ t + m → bulk ≡ min (32 + t) 18446744073709551615
        → bulk ≤ 576460752303423488
        → more ≡ m → less ≡ 32 + z
        → (less ≤ bulk + more) × (bulk + more - less ≡ s)
    sum s t z m bulk more less e b few p q = (omega (arith, e, b, few, p, q), omega (arith, e, b, few, p, q))

-- ---- said of a hive as it is seen

pub place_seen : (bins : Opened) (root : ℕ) (version : HiveVersion) (h : HiveCells) (path : List (List ℕ))
    (p : KeyPair)
    → hive_of bins root version ≡ h → pair_place (cells_in h) path h.root ≡ a_pair p
    → pair_place (look_up version bins.bins) path root ≡ a_pair p
place_seen bins root version h path p view place =
    subst (λ (g : HiveCells). pair_place (cells_in g) path g.root ≡ a_pair p) (sym view) place

pub pair_seen : (bins : Opened) (root : ℕ) (version : HiveVersion) (bulk : ℕ) (h : HiveCells) (path : List (List ℕ))
    (p : KeyPair)
    → IsHive bins.bins root version bulk → hive_of bins root version ≡ h → pair_place (cells_in h) path h.root ≡ a_pair p
    → PairHere (look_up version bins.bins) root (tree_of (look_up version bins.bins) root) path p
pair_seen bins root version bulk h path p is view place =
    pair_here (look_up version bins.bins) root (tree_of (look_up version bins.bins) root) path p is.stands
    (place_seen bins root version h path p view place)

pub gone_seen : (bins new : Opened) (root : ℕ) (version : HiveVersion) (bulk bulk_then : ℕ) (h : HiveCells)
    (path : List (List ℕ)) (p : KeyPair)
    → IsHive bins.bins root version bulk → hive_of bins root version ≡ h
    → pair_place (cells_in h) path h.root ≡ a_pair p
    → IsPairTaken version path p bins.bins new.bins → IsBytes (spelled 0 new.bins)
    → bulk_then ≡ bulk_of h.version (without_key path h.tree)
    → IsPairGone h new root version bulk_then path
gone_seen bins new root version bulk bulk_then h path p is view place taken bytes counted =
    pair_gone bins new root version bulk bulk_then h path p is view (place_seen bins root version h path p view place)
    taken (cells-bytes version new.bins bytes)
    (subst (λ (g : HiveCells). bulk_then ≡ bulk_of g.version (without_key path g.tree)) (sym view) counted)

pub drops_seen : (bins new : Opened) (root : ℕ) (version : HiveVersion) (bulk : ℕ) (h : HiveCells)
    (path : List (List ℕ)) (p : KeyPair)
    → IsHive bins.bins root version bulk → hive_of bins root version ≡ h
    → pair_place (cells_in h) path h.root ≡ a_pair p
    → IsPairTaken version path p bins.bins new.bins → DropsUses h path (hive_of new root version)
drops_seen bins new root version bulk h path p is view place taken =
    drops_uses bins new root version bulk h path p is view (place_seen bins root version h path p view place) taken

pub kept_seen : (bins : Opened) (new : List Bin) (root : ℕ) (version : HiveVersion) (bulk : ℕ) (h : HiveCells)
    (path : List (List ℕ)) (p : KeyPair)
    → IsHive bins.bins root version bulk → hive_of bins root version ≡ h
    → pair_place (cells_in h) path h.root ≡ a_pair p
    → IsPairKept version p bins.bins new → LacksStepRoom h (delete_key path)
kept_seen bins new root version bulk h path p is view place kept =
    pair_kept bins new root version bulk h path p is view (place_seen bins root version h path p view place) kept

-- what the search for the pair answers of the step
pub step_seen : (bins : Opened) (root : ℕ) (version : HiveVersion) (bulk : ℕ) (h : HiveCells) (path : List (List ℕ))
    (o : Option KeyPair)
    → IsHive bins.bins root version bulk → hive_of bins root version ≡ h → o ≡ pair_place (look_up version bins.bins) path root
    → MatchOption o (after_step (delete_key path) h.tree ≡ Err no_key)
    (λ p. after_step (delete_key path) h.tree ≡ the_tree (without_key path h.tree))
step_seen bins root version bulk h path None is view e =
    subst (λ (g : HiveCells). after_step (delete_key path) g.tree ≡ Err no_key) view
    (pair_refused version bins.bins root (tree_of (look_up version bins.bins) root) path is.stands (sym e))
step_seen bins root version bulk h path (Some p) is view e =
    subst (λ (g : HiveCells). after_step (delete_key path) g.tree ≡ the_tree (without_key path g.tree)) view
    (pair_lessens version (look_up version bins.bins) root (tree_of (look_up version bins.bins) root) path p
    (pair_here (look_up version bins.bins) root (tree_of (look_up version bins.bins) root) path p is.stands (sym e))).step

-- the bulk is known from the child and the lists
pub bulk_seen : (bins : Opened) (heap : List Bin) (root : ℕ) (version : HiveVersion) (bulk : ℕ) (h : HiveCells)
    (path : List (List ℕ)) (p : KeyPair) (above : Above)
    (shared : List ℕ) (now fewer below : ℕ) → IsHive bins.bins root version bulk → hive_of bins root version ≡ h
    → heap ≡ bins.bins → bins_size bins.bins ≤ 16777216
    → pair_place (cells_in h) path h.root ≡ a_pair p
    → ((n : KeyNode) → reading key_node_at (look_up version heap) p.above ≡ Ok n → AboveIs above n)
    → ((t : Tree) → IsWellFormed (look_up version heap) p.above t → shared ≡ (head t).security)
    → now ≡ list_size above.count → fewer ≡ list_size (above.count - 1) → fewer ≤ 68719476736
    → ((t : Tree) → IsWellFormed (look_up version heap) p.at t → below ≡ size version shared t)
    → (now + below ≤ bulk + fewer) × (bulk + fewer - (now + below) ≡ bulk_of h.version (without_key path h.tree))
bulk_seen bins heap root version bulk h path p above shared now fewer below is view same fit place says shares n f small
    told =
    let b = look_up version bins.bins in
    let t = tree_of b root in
    let here = pair_seen bins root version bulk h path p is view place in
    let read = subst (λ (z : List Bin). reading key_node_at (look_up version z) p.above ≡ Ok here.node) (sym same)
    here.parent_is.read in
    let count = (says here.node read).count
    ∙ counted_children b root t here.stored p.above here.there here.node here.parent_is in
    let security = shares here.there
    (subst (λ (z : List Bin). IsWellFormed (look_up version z) p.above here.there) (sym same)
    here.parent_is.below) in
    let k = told here.kid (subst (λ (z : List Bin). IsWellFormed (look_up version z) p.at here.kid) (sym same)
    here.kid_well) in
    let r = bulk_then version t (without_key path t) bulk fewer (now + below) (bulk_is bins.bins root version bulk is fit)
    (sizes (size version [] (without_key path t)) (size version [] t) (list_size (length (children here.there)))
    (list_size (length (children here.there) - 1)) (size version (head here.there).security here.kid) now fewer below
    (pair_lessens version b root t path p here).sizes (n ∙ ap list_size count)
    (f ∙ ap (λ (z : ℕ). list_size (z - 1)) count) (k ∙ ap (λ (s : List ℕ). size version s here.kid) security))
    small in (
      r.0,
      subst (λ (g : HiveCells). bulk + fewer - (now + below) ≡ bulk_of g.version (without_key path g.tree))
          view r.1,
    )
  where
    sizes : (u t l m s now fewer below : ℕ) → u + (l + s) ≡ t + m → now ≡ l → fewer ≡ m → below ≡ s
        → u + (now + below) ≡ t + fewer
    sizes u t l m s now fewer below e n f k = omega (arith, e, n, f, k)

pub some_children : (bins : Opened) (heap : List Bin) (root : ℕ) (version : HiveVersion) (bulk : ℕ) (h : HiveCells)
    (path : List (List ℕ)) (p : KeyPair) (above : Above)
    → IsHive bins.bins root version bulk → hive_of bins root version ≡ h → heap ≡ bins.bins
    → pair_place (cells_in h) path h.root ≡ a_pair p
    → ((n : KeyNode) → reading key_node_at (look_up version heap) p.above ≡ Ok n → AboveIs above n) → 1 ≤ above.count
some_children bins heap root version bulk h path p above is view same place says =
    let b = look_up version bins.bins in
    let here = pair_seen bins root version bulk h path p is view place in
    let read = subst (λ (z : List Bin). reading key_node_at (look_up version z) p.above ≡ Ok here.node) (sym same)
    here.parent_is.read in
    (can_remove version bins.bins root (tree_of b root) path p above here (says here.node read)).some

-- what a key and all below it take under another key, by its bulk and its own descriptor
pub below_seen : (version : HiveVersion) (shared own : List ℕ) (k : Tree) (bulk more less : ℕ)
    → bulk ≡ bulk_of version k → own ≡ (head k).security
    → bulk ≤ 576460752303423488 → more ≡ security_size shared own → less ≡ 32 + security_size [] own
    → (less ≤ bulk + more) × (bulk + more - less ≡ size version shared k)
below_seen version shared own k bulk more less b o few m l =
    below_size version shared k bulk more less b few (m ∙ ap (security_size shared) o)
    (l ∙ ap (λ (s : List ℕ). 32 + security_size [] s) o)
