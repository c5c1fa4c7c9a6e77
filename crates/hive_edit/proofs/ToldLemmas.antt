-- A node that records greater lengths: what is read of it, and what that leaves of the hive.
use Rattle.std.proofs.Common.{◌≡◌, ◌≤◌, ◌<◌, ◌^◌, ℕ, zero, suc, ◌+◌, ◌*◌, Bool, true, false, cond, List, [], ◌∷◌, ◌++◌, length, Option, Some, None, Result, inl, inr, ⊎_elim, refl, sym, ap, subst, ◌∙◌, arith}
use Rattle.std.specs.Prelude.{◌⊎◌, find, nat_lt}
use Rattle.std.specs.Int.{w16, w32, w64, to_le_bytes, from_le_bytes}
use Rattle.std.specs.Option.{IsSomeAnd, option_map, option_map_or, option_and_then}
use Rattle.std.proofs.lemmas.Bool.{ltb-false, ltb-true, lt-ltb, eqb-true, cases_eq}
use Rattle.std.proofs.lemmas.Nat.{from_le_bytes-to_le_bytes_4}
use Rattle.nt_bytes.specs.Fields.{u16_in, u32_in}
use Rattle.nt_bytes.specs.declared.fault.HiveFaultKind.{HiveFaultKind}
use Rattle.nt_bytes.specs.declared.version.HiveVersion.{HiveVersion}
use Rattle.nt_bytes.specs.Reading.{◌>>=◌}
use Rattle.hive_model.specs.Bins.{Bin, Cells, bins_size, look_up}
use Rattle.hive_model.specs.KeyNode.{KeyNode, key_node_in, key_node_at}
use Rattle.hive_model.specs.Walk.{reading}
use Rattle.hive_model.specs.InPlace.{count_after, IsKeptSecurity, KeepsSecurity}
use Rattle.hive_model.specs.Security.{SecurityCell, security_at}
use Rattle.hive_model.specs.Tree.{Tree, head, children, is_named}
use Rattle.hive_model.specs.Tree.{key as tree_key}
use Rattle.hive_model.specs.Edit.{Step, set_value, delete_value, make_key, delete_key, add_child, copy_child}
use Rattle.hive_model.specs.Valid.{HoldsKeys}
use Rattle.hive_model.specs.Footprint.{has_key, key_place, needed_sizes, room_of}
use Rattle.hive_model.specs.Stands.{IsWellFormed}
use Rattle.hive_cells.specs.Opened.{Opened}
use Rattle.hive_cells.specs.Changes.{at_cell, with_part}
use Rattle.hive_cells.specs.Held.{held_at, patched}
use Rattle.hive_cells.proofs.HeldLemmas.{payload_held, held_payload}
use Rattle.edited_cells.specs.Done.{IsDone}
use Rattle.edited_cells.specs.Greatest.{with_lengths, IsNoLonger, RaisesLengths, IsNamedPath}
use Rattle.edited_cells.proofs.Made.{parent_is}
use Rattle.edited_cells.proofs.Out.{IsPlaced, placed_at}
use Rattle.edited_cells.specs.Owned.{In, node, Reaches}
use Rattle.edited_cells.proofs.Back.{place_is}
use Rattle.edited_cells.proofs.Wellformed.{sound_hive}
use Rattle.edited_cells.proofs.Raised.{raised_well, owned_still, raised_done}
use Rattle.key_index.specs.Lists.{payload_in}
use Rattle.edited_cells.proofs.Patches.{IsPatchOf, IsNodeText, node_text, node_patched, part_patches, in_part}
use Rattle.hive_edit.specs.Hive.{HiveCells, cells_in, hive_of, IsHive}
use Rattle.hive_edit.specs.Listed.{HasNewLists}
use Rattle.hive_edit.specs.Given.{place_in}
use Rattle.hive_edit.specs.NewRun.{HasNewRun, run_trees}
use Rattle.hive_look.specs.Places.{IsKeyAt, value_place}
use Rattle.hive_edit.specs.Secured.{changes_of}
use Rattle.hive_edit.specs.Standing.{tree_of}
use Rattle.hive_edit.specs.Stepped.{IsStepped}
use Rattle.hive_edit.specs.Tells.{length_told, class_length, new_name_length, TellsBoth, TellsAt, TellsItem, IsToldStep}
use Rattle.hive_edit.specs.Told.{length_place, raised, IsRaisedTo, AreRaisedTo, IsToldAt, IsTold}
use Rattle.hive_edit.proofs.ChildRuns.{run_kept}
use Rattle.hive_edit.proofs.EditLemmas.{the_tree}
use Rattle.hive_edit.proofs.HiveLemmas.{hive_opened}
use Rattle.hive_look.proofs.NodeLemmas.{node_here}
use Rattle.hive_edit.proofs.CountLemmas.{security_text_is}
use Rattle.hive_edit.proofs.StandingLemmas.{tree_is}
use Rattle.hive_edit.proofs.ToldLists.{held_alike, HasLists, lists_still, children_still}
use Rattle.hive_look.proofs.ResultLemmas.{done, some, some_same, ok_same}
use Rattle.hive_read.proofs.FormFacts.{then-so}

-- ---- a node's text

-- a payload that reads as a node does so with greater lengths, and no other field is another
pub record IsRaisedNode (q : List ℕ) (n : KeyNode) (field number : ℕ) : Type 0 where
  pub new : KeyNode
  pub read : key_node_at q ≡ done new
  pub same : new ≡ with_lengths n new
  pub raised : IsNoLonger n new
  pub told : number ≤ length_told field new

no_longer_itself : (n : KeyNode) → IsNoLonger n n
no_longer_itself n = record {
  child_name = omega arith;
  child_class = omega arith;
  value_name = omega arith;
  value_size = omega arith;
}

-- the field of a node is where the place says
told_in : (p : List ℕ) (name : List ℕ) (field : ℕ) → field ≤ 3
    → length_told field (key_node_in p name) ≡ u32_in p (length_place field)
told_in p name zero few = refl
told_in p name (suc zero) few = refl
told_in p name (suc (suc zero)) few = refl
told_in p name (suc (suc (suc zero))) few = refl
told_in p name (suc (suc (suc (suc f)))) few = absurd (omega (arith, few))

module _ (p : List ℕ) (n : KeyNode) (field number : ℕ) (e : key_node_at p ≡ done n) (few : field ≤ 3)
    (fits : number < 2 ^ 32)
  where
    abbrev q : List ℕ
    q = patched (length_place field) (to_le_bytes w32 number) p

    text : IsNodeText p n
    text = node_text p n e

    fields : n ≡ key_node_in p n.name
    fields = text.fields

    patch : IsPatchOf (length_place field) (length_place field + 4) p q
    patch = part_patches (length_place field) (to_le_bytes w32 number) p (let l = text.long in omega (arith, l, few))

    number_there : u32_in q (length_place field) ≡ number
    number_there =
        ap (λ (k : ℕ). from_le_bytes w32 (Rattle.std.specs.Prelude.slice_range q k (k + 4))) zero_more
        ∙ ap (from_le_bytes w32)
        (in_part (length_place field) (to_le_bytes w32 number) p 0 4 (let l = text.long in omega (arith, l, few))
        (omega arith))
        ∙ from_le_bytes-to_le_bytes_4 number fits
      where
        zero_more : length_place field ≡ length_place field + 0
        zero_more = omega arith

    -- a field is no less than it was
    no_less : u32_in p (length_place field) < number → (k : ℕ) → k ≤ 3
        → u32_in p (length_place k) ≤ u32_in q (length_place k)
    no_less less k low = go (nat_lt k field) (nat_lt field k) refl refl
      where
        equal : (a b : ℕ) → a ≡ b → a ≤ b
        equal a b same = omega (arith, same)

        go : (a b : Bool) → nat_lt k field ≡ a → nat_lt field k ≡ b
            → u32_in p (length_place k) ≤ u32_in q (length_place k)
        go true b f g = equal (u32_in p (length_place k)) (u32_in q (length_place k))
            (sym (ap (from_le_bytes w32) (patch.before (length_place k) 4 (let d = ltb-true k field f in omega (arith, d)))))
        go false true f g = equal (u32_in p (length_place k)) (u32_in q (length_place k))
            (sym (ap (from_le_bytes w32) (patch.behind (length_place k) 4 (let d = ltb-true field k g in omega (arith, d)))))
        go false false f g =
            let one = ltb-false k field f in let two = ltb-false field k g in
            let same : field ≡ k = omega (arith, one, two) in
            subst (λ (z : ℕ). u32_in p (length_place z) ≤ u32_in q (length_place z)) same
            (omega (arith, less, number_there))

    front : (i m : ℕ) → i + m ≤ 52 → Rattle.std.specs.Prelude.slice_range q i (i + m)
        ≡ Rattle.std.specs.Prelude.slice_range p i (i + m)
    front i m low = patch.before i m (omega (arith, low))

    others_same : key_node_in q n.name ≡ with_lengths (key_node_in p n.name) (key_node_in q n.name)
    others_same = λ i. record {
      flags = from_le_bytes w16 (front 2 2 (omega arith) i);
      stamp = from_le_bytes w64 (front 4 8 (omega arith) i);
      parent = from_le_bytes w32 (front 16 4 (omega arith) i);
      child_count = from_le_bytes w32 (front 20 4 (omega arith) i);
      volatile_count = from_le_bytes w32 (front 24 4 (omega arith) i);
      child_list = from_le_bytes w32 (front 28 4 (omega arith) i);
      volatile_list = from_le_bytes w32 (front 32 4 (omega arith) i);
      value_count = from_le_bytes w32 (front 36 4 (omega arith) i);
      value_list = from_le_bytes w32 (front 40 4 (omega arith) i);
      security = from_le_bytes w32 (front 44 4 (omega arith) i);
      class = from_le_bytes w32 (front 48 4 (omega arith) i);
      greatest_child_name = u32_in q 52;
      greatest_child_class = u32_in q 56;
      greatest_value_name = u32_in q 60;
      greatest_value_size = u32_in q 64;
      class_length = from_le_bytes w16 (patch.behind 74 2 (omega (arith, few)) i);
      name = n.name;
    }

    same : key_node_in q n.name ≡ with_lengths n (key_node_in q n.name)
    same = others_same ∙ ap (λ (m : KeyNode). with_lengths m (key_node_in q n.name)) (sym fields)

    written_node : u32_in p (length_place field) < number → IsRaisedNode q n field number
    written_node less = record {
      new = key_node_in q n.name;
      read = node_patched (length_place field) (length_place field + 4) p q n e patch (omega arith) (omega (arith, few));
      same = same;
      raised = record {
        child_name = subst (λ (z : ℕ). z ≤ u32_in q 52) (sym (ap (λ (m : KeyNode). m.greatest_child_name) fields))
            (no_less less 0 (omega arith));
        child_class = subst (λ (z : ℕ). z ≤ u32_in q 56) (sym (ap (λ (m : KeyNode). m.greatest_child_class) fields))
            (no_less less 1 (omega arith));
        value_name = subst (λ (z : ℕ). z ≤ u32_in q 60) (sym (ap (λ (m : KeyNode). m.greatest_value_name) fields))
            (no_less less 2 (omega arith));
        value_size = subst (λ (z : ℕ). z ≤ u32_in q 64) (sym (ap (λ (m : KeyNode). m.greatest_value_size) fields))
            (no_less less 3 (omega arith));
      };
      told = (let t = told_in q n.name field few in omega (arith, t, number_there));
    }

    pub node_raised : IsRaisedNode (raised field number p) n field number
    node_raised = go (nat_lt (u32_in p (length_place field)) number) refl
      where
        go : (b : Bool) → nat_lt (u32_in p (length_place field)) number ≡ b → IsRaisedNode (cond b q p) n field number
        go true f = written_node (ltb-true (u32_in p (length_place field)) number f)
        go false f = record {
          new = n;
          read = e;
          same = refl;
          raised = no_longer_itself n;
          told = (let d = ltb-false (u32_in p (length_place field)) number f in let t = told_in p n.name field few in
              let m = ap (length_told field) fields in omega (arith, d, t, m));
        }

-- ---- the cells

-- a number that was less is written over
pub written_over : (old new : List Bin) (at field number told : ℕ) (part : List ℕ) → part ≡ to_le_bytes w32 number
    → number < 2 ^ 32 → IsSomeAnd (held_at old at) (λ p. told ≡ u32_in p (length_place field)) → told < number
    → new ≡ at_cell at (with_part (length_place field) part) old
    → held_at new at ≡ option_map (patched (length_place field) part) (held_at old at)
    → ((o : ℕ) → (o ≡ at → ⊥) → held_at new o ≡ held_at old o) → bins_size new ≡ bins_size old
    → IsRaisedTo at field number old new
written_over old new at field number told part is fits there less exact here others long = record {
  fits = fits;
  written = inr (record {
    less = smaller (held_at old at) there;
    exact = exact ∙ ap (λ (l : List ℕ). at_cell at (with_part (length_place field) l) old) is;
  });
  here = λ p e. here ∙ ap (λ (l : List ℕ). option_map (patched (length_place field) l) (held_at old at)) is
      ∙ ap (option_map (patched (length_place field) (to_le_bytes w32 number))) e
      ∙ ap some (ap (λ (b : Bool). cond b (patched (length_place field) (to_le_bytes w32 number) p) p)
      (sym (lt-ltb (u32_in p (length_place field)) number (of_one p (subst (λ (o : Option (List ℕ)).
      IsSomeAnd o (λ q. told ≡ u32_in q (length_place field))) e there)))));
  others = others;
  long = long;
}
  where
    of_one : (p : List ℕ) → told ≡ u32_in p (length_place field) → u32_in p (length_place field) < number
    of_one p e = omega (arith, e, less)

    smaller : (o : Option (List ℕ)) → IsSomeAnd o (λ p. told ≡ u32_in p (length_place field))
        → IsSomeAnd o (λ p. u32_in p (length_place field) < number)
    smaller (Some p) e = of_one p e
    smaller None e = e

-- the node stays as long as it was
pub still_room : (old new : List Bin) (at field number : ℕ) → field ≤ 3
    → IsSomeAnd (held_at old at) (λ p. 76 ≤ length p) → IsRaisedTo at field number old new
    → IsSomeAnd (held_at new at) (λ p. 76 ≤ length p)
still_room old new at field number few room r = go (held_at old at) refl room
  where
    longer : (p : List ℕ) → 76 ≤ length p → (b : Bool)
        → 76 ≤ length (cond b (patched (length_place field) (to_le_bytes w32 number) p) p)
    longer p long true =
        (let same : length (patched (length_place field) (to_le_bytes w32 number) p) ≡ length p =
        (part_patches (length_place field) (to_le_bytes w32 number) p (omega (arith, long, few))).length_same in
        omega (arith, same, long))
    longer p long false = long

    go : (o : Option (List ℕ)) → held_at old at ≡ o → IsSomeAnd o (λ p. 76 ≤ length p)
        → IsSomeAnd (held_at new at) (λ p. 76 ≤ length p)
    go None e long = absurd long
    go (Some p) e long = subst (λ (o : Option (List ℕ)). IsSomeAnd o (λ q. 76 ≤ length q)) (sym (r.here p e))
        (longer p long (nat_lt (u32_in p (length_place field)) number))

told_grows : (field : ℕ) (n m : KeyNode) → IsNoLonger n m → length_told field n ≤ length_told field m
told_grows zero n m r = r.child_name
told_grows (suc zero) n m r = r.child_class
told_grows (suc (suc zero)) n m r = r.value_name
told_grows (suc (suc (suc field))) n m r = r.value_size

longer_still : (n m k : KeyNode) → IsNoLonger n m → IsNoLonger m k → IsNoLonger n k
longer_still n m k r s = record {
  child_name = (let a = r.child_name in let b = s.child_name in omega (arith, a, b));
  child_class = (let a = r.child_class in let b = s.child_class in omega (arith, a, b));
  value_name = (let a = r.value_name in let b = s.value_name in omega (arith, a, b));
  value_size = (let a = r.value_size in let b = s.value_size in omega (arith, a, b));
}

-- the node records no less than both
record AreTold (b c : Cells) (x field first second : ℕ) : Type 0 where
  raises : RaisesLengths b c x
  first_told : first ≤ length_told field raises.new
  second_told : second ≤ length_told (field + 1) raises.new

told_cells : (version : HiveVersion) (old new : List Bin) (x field first second : ℕ) (n : KeyNode)
    → reading key_node_at (look_up version old) x ≡ done n → field ≤ 2 → AreRaisedTo x field first second old new
    → AreTold (look_up version old) (look_up version new) x field first second
told_cells version old new x field first second n read few a =
    let p = then-so ((look_up version old).payload x) key_node_at n read in
    let one = node_raised p.0 n field first p.2 (omega (arith, few)) a.one.fits in
    let two = node_raised (raised field first p.0) one.new (field + 1) second one.read (omega (arith, few)) a.two.fits in
    let there = a.two.here (raised field first p.0) (a.one.here p.0 (payload_held old x p.0 p.1)) in
    record {
      raises = record {
        version = refl;
        old = n;
        new = two.new;
        read = read;
        read_new = ap (λ (r : Result (List ℕ) HiveFaultKind). r >>= key_node_at)
            (held_payload new x (raised (field + 1) second (raised field first p.0)) there) ∙ two.read;
        same = two.same ∙ ap (λ (m : KeyNode). with_lengths m two.new) one.same;
        raised = longer_still n one.new two.new one.raised two.raised;
        others = λ o q held differs. held_payload new o q
            (a.two.others o differs ∙ a.one.others o differs ∙ payload_held old o q held);
      };
      first_told = (let d = one.told in let g = told_grows field one.new two.new two.raised in omega (arith, d, g));
      second_told = two.told;
    }

-- ---- the hive

-- a key has a node, as long as its fields
pub node_of : (version : HiveVersion) (bins : List Bin) (x : ℕ) → IsKeyAt (look_up version bins) x
    → (n : KeyNode) × (reading key_node_at (look_up version bins) x ≡ done n)
node_of version bins x k =
    let h = node_here (look_up version bins) x (payload_in (look_up version bins) x) k refl in (h.node, h.read)

pub node_room : (version : HiveVersion) (bins heap : List Bin) (x : ℕ) → heap ≡ bins → IsKeyAt (look_up version heap) x
    → IsSomeAnd (held_at bins x) (λ p. 76 ≤ length p)
node_room version bins heap x e k =
    let n = node_of version bins x (subst (λ (bs : List Bin). IsKeyAt (look_up version bs) x) e k) in
    let p = then-so ((look_up version bins).payload x) key_node_at n.0 n.1 in
    let long = (node_text p.0 n.0 p.2).long in
    let room : 76 ≤ length p.0 = omega (arith, long) in
    subst (λ (o : Option (List ℕ)). IsSomeAnd o (λ q. 76 ≤ length q)) (sym (payload_held bins x p.0 p.1)) room

pub record IsHiveTold (h : HiveCells) (new : Opened) (root : ℕ) (version : HiveVersion) (bulk : ℕ)
    (path : List (List ℕ)) (field first second : ℕ) : Type 0 where
  pub hive : IsHive new.bins root version bulk
  pub told : IsTold h path field first second (hive_of new root version)

pub hive_told : (old new : Opened) (heap : List Bin) (root : ℕ) (version : HiveVersion) (bulk : ℕ) (h : HiveCells)
    (path : List (List ℕ)) (x field first second : ℕ) → IsHive old.bins root version bulk → hive_of old root version ≡ h
    → heap ≡ old.bins → some x ≡ key_place (look_up version heap) path root → IsKeyAt (look_up version heap) x → field ≤ 2
    → AreRaisedTo x field first second old.bins new.bins → IsHiveTold h new root version bulk path field first second
hive_told old new heap root version bulk h path x field first second is view e found k few a = record {
  hive = hive_opened new.bins new.bins root version bulk t refl well is.valid is.counted;
  told = subst (λ (g : HiveCells). IsTold g path field first second (hive_of new root version)) view (record {
    version = refl;
    root = refl;
    tree = tree_is c root t well;
    long = a.two.long ∙ a.one.long;
    free = λ o none. free o none;
    here = λ y there. subst (λ (z : ℕ). IsToldAt (hive_of old root version) (hive_of new root version) z field first second)
        (some_same x y (sym at ∙ there)) (record {
          raises = told.raises;
          first_told = told.first_told;
          second_told = told.second_told;
          written = a;
        });
    none = λ none. absurd (let d = sym at ∙ none in cc);
  });
}
  where
    b : Cells
    b = look_up version old.bins

    c : Cells
    c = look_up version new.bins

    t : Tree
    t = tree_of b root

    at : key_place b path root ≡ some x
    at = sym (found ∙ ap (λ (bs : List Bin). key_place (look_up version bs) path root) e)

    form : (n : KeyNode) × (reading key_node_at b x ≡ done n)
    form = node_of version old.bins x (subst (λ (bs : List Bin). IsKeyAt (look_up version bs) x) e k)

    told : AreTold b c x field first second
    told = told_cells version old.bins new.bins x field first second form.0 form.1 few a

    placed : IsPlaced b root path x
    placed = placed_at b path root x at

    well : IsWellFormed c root t
    well = raised_well b c root t placed.stored x is.stands placed.reached told.raises

    free : (o : ℕ) → held_at old.bins o ≡ None → held_at new.bins o ≡ None
    free o none = ⊎_elim
        (λ (s : o ≡ x). absurd (let p = then-so (b.payload x) key_node_at form.0 form.1 in
        let q = payload_held old.bins x p.0 p.1 in let d = sym q ∙ sym (ap (held_at old.bins) s) ∙ none in cc))
        (λ (s : o ≡ x → ⊥). a.two.others o s ∙ a.one.others o s ∙ none) (cases_eq o x)

abbrev no_number : Option ℕ
no_number = None

-- where there is no key, nothing changed
pub none_told : (old : Opened) (heap : List Bin) (root : ℕ) (version : HiveVersion) (h : HiveCells) (path : List (List ℕ))
    (field first second : ℕ) → hive_of old root version ≡ h → heap ≡ old.bins
    → no_number ≡ key_place (look_up version heap) path root → IsTold h path field first second h
none_told old heap root version h path field first second view e found =
    subst (λ (g : HiveCells). IsTold g path field first second g) view (record {
      version = refl;
      root = refl;
      tree = refl;
      long = refl;
      free = λ o none. none;
      here = λ y there. absurd (let d = sym none ∙ there in cc);
      none = λ n. refl;
    })
  where
    none : key_place (look_up version old.bins) path root ≡ no_number
    none = sym (found ∙ ap (λ (bs : List Bin). key_place (look_up version bs) path root) e)

-- ---- a step

-- what reads as a cell of security is no node
no_node : (p : List ℕ) (s : SecurityCell) (n : KeyNode) → security_at p ≡ done s → key_node_at p ≡ done n → ⊥
no_node p s n e f = let a = eqb-true (u16_in p 0) 0x6b73 (security_text_is p s e).sign in let b = (node_text p n f).sign in
    absurd (omega (arith, a, b))

-- the lists of a key are still in packed form
lists_told : (mid new : HiveCells) (path : List (List ℕ)) (field first second at : ℕ) (n : KeyNode)
    → IsTold mid path field first second new → HasLists (cells_in mid) at n → HasLists (cells_in new) at n
lists_told mid new path field first second at n told h = go (key_place (cells_in mid) path mid.root) refl
  where
    at_node : (x : ℕ) → IsToldAt mid new x field first second → HasLists (cells_in new) at n
    at_node x there = lists_still (cells_in mid) (cells_in new) x there.raises
        (λ o differs. held_alike mid.bins new.bins o
        (there.written.two.others o differs ∙ there.written.one.others o differs)) at n h

    go : (o : Option ℕ) → key_place (cells_in mid) path mid.root ≡ o → HasLists (cells_in new) at n
    go None e =
        let same : cells_in new ≡ cells_in mid = λ i. look_up (told.version i) (told.none e i) in
        subst (λ (c : Cells). HasLists c at n) (sym same) h
    go (Some x) e = at_node x (told.here x e)

-- new lists are new lists still
new_lists_told : (old mid new : HiveCells) (path : List (List ℕ)) (field first second at : ℕ)
    → IsTold mid path field first second new → HasNewLists old mid at → HasNewLists old new at
new_lists_told old mid new path field first second at told l =
    go (lists_told mid new path field first second at l.was told
    (record { node = l.node; read = l.read; rest = l.rest; lists = l.lists }))
  where
    go : HasLists (cells_in new) at l.was → HasNewLists old new at
    go h = record {
      was = l.was;
      node = h.node;
      read_old = l.read_old;
      read = h.read;
      rest = h.rest;
      lists = h.lists;
      freed = λ o i. told.free o (l.freed o i);
    }

-- a step names the key at this path, or one right below it, and that is the root where a child is put below it
pub record IsToldPath (step : Step) (path : List (List ℕ)) : Type 0 where
  pub names : IsNamedPath step path
  pub top : (t : Tree) (r : List ℕ × Tree) → In (run_trees t step) r → path ≡ []

-- a step that was made is made also where a node that it names records greater lengths
pub stepped_told : (old mid new : HiveCells) (step : Step) (path : List (List ℕ)) (field first second : ℕ)
    → IsWellFormed (cells_in old) old.root old.tree → IsStepped old step mid → IsToldPath step path
    → IsTold mid path field first second new → IsStepped old step new
stepped_told old mid new step path field first second well s names told = record {
  version = told.version ∙ s.version;
  root = told.root ∙ s.root;
  tree = s.tree ∙ ap the_tree (sym told.tree);
  done = subst (λ (u : Tree). IsDone (cells_in old) (cells_in new) old.root old.tree u step) (sym told.tree)
      (by_place (λ (c : Cells). IsDone (cells_in old) c old.root old.tree mid.tree step) s.done
      (λ x at g. raised_done (cells_in old) (cells_in mid) (cells_in new) old.root old.tree mid.tree step path x
      s.done at names.names g));
  secure = by_place (λ (c : Cells). KeepsSecurity old.root (changes_of (cells_in old) old.root old.tree step)
      (cells_in old) c) s.secure
      (λ x at g o i. kept (changes_of (cells_in old) old.root old.tree step o) o x (s.secure o i) g);
  lists = λ at among. new_lists_told old mid new path field first second at told (s.lists at among);
  freed = λ o given. told.free o (s.freed o given);
  runs = λ r among. runs r (at_root (names.top old.tree r among)) (s.runs r among);
  long = (let l = told.long in let m = s.long in omega (arith, l, m));
  room = (let l = told.long in
      let r = subst (λ (u : Tree). bins_size mid.bins ≤ bins_size old.bins
      + room_of (needed_sizes old.version old.tree step u)) (sym told.tree) s.room in omega (arith, l, r));
}
  where
    by_place : (P : Cells → Type 0) → P (cells_in mid)
        → ((x : ℕ) → key_place (cells_in mid) path old.root ≡ Some x → RaisesLengths (cells_in mid) (cells_in new) x
        → P (cells_in new)) → P (cells_in new)
    by_place P p f = go (key_place (cells_in mid) path mid.root) refl
      where
        go : (o : Option ℕ) → key_place (cells_in mid) path mid.root ≡ o → P (cells_in new)
        go None e =
            let same : cells_in new ≡ cells_in mid = λ i. look_up (told.version i) (told.none e i) in subst P (sym same) p
        go (Some x) e =
            f x (subst (λ (r : ℕ). key_place (cells_in mid) path r ≡ Some x) s.root e) (told.here x e).raises

    at_root : path ≡ [] → IsToldAt mid new old.root field first second
    at_root top = subst (λ (x : ℕ). IsToldAt mid new x field first second) s.root
        ((subst (λ (p : List (List ℕ)). IsTold mid p field first second new) top told).here mid.root refl)

    runs : (r : List ℕ × Tree) → IsToldAt mid new old.root field first second → HasNewRun old r.0 r.1 mid
        → HasNewRun old r.0 r.1 new
    runs r there run = run_kept old mid new r.0 r.1 well others
        (children_still (cells_in mid) (cells_in new) old.root there.raises
        (λ o differs. held_alike mid.bins new.bins o (others o differs))) run
      where
        others : (o : ℕ) → (o ≡ old.root → ⊥) → held_at new.bins o ≡ held_at mid.bins o
        others o differs = there.written.two.others o differs ∙ there.written.one.others o differs

    kept : (changes : List Bool) (o x : ℕ) → IsKeptSecurity (cells_in old) (cells_in mid) changes o
        → RaisesLengths (cells_in mid) (cells_in new) x → IsKeptSecurity (cells_in old) (cells_in new) changes o
    kept changes o x k g =
        let p = then-so ((cells_in mid).payload o) security_at (record k.cell { uses = count_after changes k.cell.uses })
        k.stays in
        record {
          cell = k.cell;
          was = k.was;
          stays = ap (λ (r : Result (List ℕ) HiveFaultKind). r >>= security_at)
              (g.others o p.0 p.1 (λ e. no_node p.0
              (record k.cell { uses = count_after changes k.cell.uses }) g.old p.2
              (sym (ap (λ (r : Result (List ℕ) HiveFaultKind). r >>= key_node_at)
              (sym (ap (cells_in mid).payload e) ∙ p.1)) ∙ g.read))) ∙ p.2;
        }

-- ---- which paths a step names

pub set_path : (path : List (List ℕ)) (name : List ℕ) (kind : ℕ) (bytes : List ℕ)
    → IsToldPath (set_value path name kind bytes) path
set_path path name kind bytes = record {
  names = record { key = path; named = inl refl; is = inl refl };
  top = λ t r i. absurd i;
}

pub make_path : (parent : List (List ℕ)) (name : List ℕ) → IsToldPath (make_key parent name) parent
make_path parent name = record {
  names = record { key = parent ++ name ∷ []; named = inl refl; is = inr (sym (parent_is parent name)) };
  top = λ t r i. absurd i;
}

pub add_path : (name : List ℕ) (k : Tree) → IsToldPath (add_child name k) []
add_path name k = record {
  names = record { key = name ∷ []; named = inl refl; is = inr refl };
  top = λ t r i. refl;
}

pub copy_path : (from to : List ℕ) → IsToldPath (copy_child from to) []
copy_path from to = record {
  names = record { key = to ∷ []; named = inr (inl refl); is = inr refl };
  top = λ t r i. refl;
}

pub class_short : (k : Tree) → HoldsKeys k → length (head k).class < 65536
class_short (tree_key h ts) holds = let c = holds.0.class in omega (arith, c)

-- ---- what the node records then

-- the key at the path is the one whose node was raised, and it records that much
tells_after : (old mid new : HiveCells) (step : Step) (path : List (List ℕ)) (field first second : ℕ)
    → IsStepped old step mid → IsTold mid path field first second new → TellsAt new path field first second
tells_after old mid new step path field first second stepped told = each
  where
    m : Cells
    m = cells_in mid

    c : Cells
    c = cells_in new

    well : IsWellFormed m old.root mid.tree
    well = stepped.done.stands

    root_same : new.root ≡ old.root
    root_same = told.root ∙ stepped.root

    one : (x y : ℕ) → key_place m path old.root ≡ Some x → key_place m path old.root ≡ Some y → x ≡ y
    one x y e f = some_same x y (sym e ∙ f)

    -- by the key that was found before
    from : (x y : ℕ) (n : KeyNode) (g : RaisesLengths m c x) → key_place m path old.root ≡ Some x
        → key_place c path old.root ≡ Some y → reading key_node_at c y ≡ done n → n ≡ g.new
    from x y n g e f read =
        let w = placed_at m path old.root x e in
        let v = placed_at c path old.root y f in
        let own = owned_still m c old.root mid.tree w.stored x well w.reached g v.stored node y
        (record { at = y; reached = v.reached; has = refl }) in
        let there : Reaches m old.root v.stored y =
        subst (λ (z : ℕ). Reaches m old.root v.stored z) own.has own.reached in
        let same : x ≡ y = one x y e (place_is m path v.stored old.root y (sound_hive m old.root mid.tree well).all v.folds
        there) in
        ok_same n g.new (sym read ∙ ap (reading key_node_at c) (sym same) ∙ g.read_new)

    each : TellsAt new path field first second
    each y n at read = go (key_place m path mid.root) refl
      where
        at_old : key_place c path old.root ≡ Some y
        at_old = subst (λ (r : ℕ). key_place c path r ≡ Some y) root_same at

        go : (o : Option ℕ) → key_place m path mid.root ≡ o → TellsBoth field first second n
        go None e = absurd (let same : c ≡ m = λ i. look_up (told.version i) (told.none e i) in
            let d = sym (subst (λ (r : ℕ). key_place m path r ≡ no_number) stepped.root e)
            ∙ sym (ap (λ (z : Cells). key_place z path old.root) same) ∙ at_old in cc)
        go (Some x) e =
            let t = told.here x e in
            let same = from x y n t.raises (subst (λ (r : ℕ). key_place m path r ≡ Some x) stepped.root e) at_old read in
            subst (TellsBoth field first second) (sym same)
            (record { first_told = t.first_told; second_told = t.second_told })

-- a node that records no less than a length records no less than a smaller one
less_told : (h : HiveCells) (path : List (List ℕ)) (field a b first second : ℕ) → first ≤ a → second ≤ b
    → TellsAt h path field a b → TellsAt h path field first second
less_told h path field a b first second e f t = λ x n at read.
    let both = t x n at read in
    let one = both.first_told in
    let two = both.second_told in
    record { first_told = omega (arith, e, one); second_told = omega (arith, f, two) }

-- a step was made, and then the node of a key that it names records no less than the lengths of the item
step_told : (old mid new : HiveCells) (step : Step) (path : List (List ℕ)) (field a b first second : ℕ)
    → IsWellFormed (cells_in old) old.root old.tree → IsStepped old step mid → IsToldPath step path
    → IsTold mid path field a b new → first ≤ a → second ≤ b
    → (TellsAt new path field first second → TellsItem old step new) → IsToldStep old step new
step_told old mid new step path field a b first second well stepped names told e f item = record {
  stepped = stepped_told old mid new step path field a b well stepped names told;
  told = item (less_told new path field a b first second e f
      (tells_after old mid new step path field a b stepped told));
}

none_or : (b : Bool) (n a : ℕ) → a ≡ n → cond b 0 n ≤ a
none_or true n a e = omega arith
none_or false n a e = omega (arith, e)

none_if : (o : Option ℕ) (n a : ℕ) → a ≡ n → option_map_or (λ at. 0) o n ≤ a
none_if (Some at) n a e = omega arith
none_if None n a e = omega (arith, e)

as_long : (a b : ℕ) → a ≡ b → b ≤ a
as_long a b e = omega (arith, e)

pub value_told : (old mid new : HiveCells) (path : List (List ℕ)) (name : List ℕ) (kind : ℕ) (bytes : List ℕ) (a : ℕ)
    → IsWellFormed (cells_in old) old.root old.tree → IsStepped old (set_value path name kind bytes) mid
    → new_name_length (cells_in old) path name old.root ≤ a → IsTold mid path 2 a (length bytes) new
    → IsToldStep old (set_value path name kind bytes) new
value_told old mid new path name kind bytes a well stepped long told =
    step_told old mid new (set_value path name kind bytes) path 2 a (length bytes)
    (new_name_length (cells_in old) path name old.root) (length bytes) well stepped (set_path path name kind bytes) told
    long (omega arith) (λ t. t)

-- a value of a new name
pub new_long : (h : HiveCells) (path : List (List ℕ)) (name : List ℕ) (a : ℕ) → a ≡ 2 * length name
    → new_name_length (cells_in h) path name h.root ≤ a
new_long h path name a e =
    none_if (option_and_then (value_place (cells_in h) name) (key_place (cells_in h) path h.root)) (2 * length name) a e

-- a value that is there
pub there_long : (h : HiveCells) (path : List (List ℕ)) (name : List ℕ) (at : ℕ)
    → place_in (cells_in h) path name h.root ≡ Some at → new_name_length (cells_in h) path name h.root ≤ 0
there_long h path name at e = let d = ap (λ (o : Option ℕ). option_map_or (λ k. 0) o (2 * length name)) e in omega (arith, d)

pub made_told : (old mid new : HiveCells) (parent : List (List ℕ)) (name : List ℕ) (a : ℕ)
    → IsWellFormed (cells_in old) old.root old.tree → IsStepped old (make_key parent name) mid → a ≡ 2 * length name
    → IsTold mid parent 0 a 0 new → IsToldStep old (make_key parent name) new
made_told old mid new parent name a well stepped e told =
    step_told old mid new (make_key parent name) parent 0 a 0 (cond (has_key parent name old.tree) 0 (2 * length name)) 0
    well stepped (make_path parent name) told (none_or (has_key parent name old.tree) (2 * length name) a e) (omega arith)
    (λ t. t)

-- a key that is there is made again
pub there_told : (old new : HiveCells) (parent : List (List ℕ)) (name : List ℕ) → IsStepped old (make_key parent name) new
    → has_key parent name old.tree ≡ true → IsToldStep old (make_key parent name) new
there_told old new parent name stepped e = record {
  stepped = stepped;
  told = λ x n at read. record {
    first_told = (let z : cond (has_key parent name old.tree) 0 (2 * length name) ≡ 0 =
        ap (λ (b : Bool). cond b 0 (2 * length name)) e in omega (arith, z));
    second_told = omega arith;
  };
}

pub added_told : (old mid new : HiveCells) (name : List ℕ) (k : Tree) (class : ℕ)
    → IsWellFormed (cells_in old) old.root old.tree → IsStepped old (add_child name k) mid
    → class ≡ length (head k).class → IsTold mid [] 0 (2 * length name) class new
    → IsToldStep old (add_child name k) new
added_told old mid new name k class well stepped e told =
    step_told old mid new (add_child name k) [] 0 (2 * length name) class (2 * length name) (length (head k).class)
    well stepped (add_path name k) told (omega arith) (as_long class (length (head k).class) e) (λ t. t)

pub copied_told : (old mid new : HiveCells) (from to : List ℕ) (k : Tree) (class : ℕ)
    → IsWellFormed (cells_in old) old.root old.tree → IsStepped old (copy_child from to) mid
    → find (is_named from) (children old.tree) ≡ Some k → class ≡ length (head k).class
    → IsTold mid [] 0 (2 * length to) class new → IsToldStep old (copy_child from to) new
copied_told old mid new from to k class well stepped found e told =
    step_told old mid new (copy_child from to) [] 0 (2 * length to) class (2 * length to) (class_length from old.tree)
    well stepped (copy_path from to) told (omega arith)
    (as_long class (class_length from old.tree)
    (e ∙ sym (ap (λ (o : Option Tree). option_map_or (λ j. length (head j).class) o 0) found))) (λ t. t)

-- ---- steps by which no key gets an item

pub unset_told : (old new : HiveCells) (path : List (List ℕ)) (name : List ℕ) → IsStepped old (delete_value path name) new
    → IsToldStep old (delete_value path name) new
unset_told old new path name s = record { stepped = s; told = tt }

pub deleted_told : (old new : HiveCells) (path : List (List ℕ)) → IsStepped old (delete_key path) new
    → IsToldStep old (delete_key path) new
deleted_told old new path s = record { stepped = s; told = tt }
