-- Keys made, added, copied and deleted, from what their cells show: the key above is rewritten, and the step is done.
use Rattle.std.proofs.Common.{◌≡◌, ℕ, suc, ◌+◌, ◌<◌, ◌≤◌, Bool, true, false, not, cond, List, [], ◌∷◌, ◌++◌, length, refl, sym, ◌∙◌, ap, subst, inl, inr, ⊎_elim, Option, Some, Ok, Err, arith}
use Rattle.std.specs.Prelude.{◌||◌, ◌==◌, find, is_some, nat_lt, flat_map}
use Rattle.std.specs.Option.{is_none, option_map_or}
use Rattle.std.proofs.lemmas.Bool.{ltb-false}
use Rattle.nt_bytes.specs.Folding.{folds_same}
use Rattle.hive_model.specs.Bins.{Cells}
use Rattle.hive_model.specs.Tree.{Tree, Trees, key, trees, listed, Head, head, children, is_named, find_key}
use Rattle.hive_model.specs.Edit.{Step, Refusal, no_key, bad_name, exists, name_too_long, too_deep, unless, make_key, delete_key, copy_child, add_child, of_children, at_key, placed, without_first, is_bad_name, new_key, with_key, without_key, has_child, renamed, with_child, after_step}
use Rattle.hive_model.specs.Valid.{longest_key_name, deepest_level, levels}
use Rattle.hive_model.specs.Footprint.{key_place, has_key, child_places, security_cell_at, list_cells_at, parent_of}
use Rattle.hive_model.specs.Stands.{Stands, AllStand, HasApartNames, IsWellFormed}
use Rattle.edited_cells.specs.Owned.{Role, node, security, lists, In, node_name, Reaches, Owns, Folds, Extends, Matches, IsMatched}
use Rattle.edited_cells.specs.Pairs.{Pairwise}
use Rattle.edited_cells.specs.Uses.{plain, tree_uses}
use Rattle.edited_cells.specs.Relists.{ChangesChildren, StandsBefore, HasPlace, Deletes}
use Rattle.edited_cells.specs.Done.{IsDone}
use Rattle.edited_cells.proofs.Ins.{in_left, in_right, in_cases, in_flat}
use Rattle.edited_cells.proofs.Pairs.{in_map_from, pairwise_parts}
use Rattle.edited_cells.proofs.Wellformed.{tree_name, not_named}
use Rattle.edited_cells.proofs.Out.{IsPlaced, placed_at}
use Rattle.edited_cells.proofs.Made.{parent_is}
use Rattle.edited_cells.proofs.Found.{IsThere, found_there, changed_alike}
use Rattle.edited_cells.proofs.Replaced.{Unlike, names_in, names_differ}
use Rattle.edited_cells.proofs.Revalued.{folds_length, reach_on}
use Rattle.edited_cells.specs.Rewrites.{IsRewritten}
use Rattle.edited_cells.proofs.OwnedUses.{from_plain, use_owned}
use Rattle.edited_cells.proofs.Rewritten.{still_well, rewritten}
use Rattle.edited_cells.proofs.ChildrenColumn.{StandBoth, AreSiblings, in_parts, children_rewritten}
use Rattle.edited_cells.proofs.Siblings.{without_at, without_behind, names_append, one_tree, siblings_left, placed_between, siblings_more, names_stand, nothing_in}

-- ---- what a step that is not refused says

-- none of the tests holds
abbrev Passed : List (Bool × Refusal) → Type 0
Passed [] = Unit {0}
Passed (test ∷ tests) = (test.0 ≡ false) × Passed tests

passed : (tests : List (Bool × Refusal)) (x u : Tree) → unless tests x ≡ Ok u → Passed tests × (x ≡ u)
passed [] x u e = (tt, cc)
passed (test ∷ tests) x u e = go test.0 refl e (passed tests x u)
  where
    go : (v : Bool) → test.0 ≡ v → cond v (Err test.1) (unless tests x) ≡ Ok u
        → (unless tests x ≡ Ok u → Passed tests × (x ≡ u)) → Passed (test ∷ tests) × (x ≡ u)
    go true is e deep = absurd cc
    go false is e deep = let d = deep e in ((is, d.0), d.1)

-- a name that is not bad has a unit
some_unit : (name : List ℕ) → is_bad_name name ≡ false → 0 < length name
some_unit [] e = absurd cc
some_unit (u ∷ name) e = omega arith

-- none of the keys passes
none_named : (name : List ℕ) (us : List Tree) → is_some (find (is_named name) us) ≡ false → (w : Tree) → In us w
    → folds_same name (head w).name ≡ false
none_named name [] e w i = absurd i
none_named name (u ∷ us) e w i = go (is_named name u) refl e i (λ d j. none_named name us d w j)
  where
    go : (b : Bool) → is_named name u ≡ b → is_some (cond b (Some u) (find (is_named name) us)) ≡ false
        → In (u ∷ us) w
        → (is_some (find (is_named name) us) ≡ false → In us w → folds_same name (head w).name ≡ false)
        → folds_same name (head w).name ≡ false
    go true is e i deep = absurd cc
    go false is e (inl s) deep = ap (λ (z : Tree). is_named name z) (sym s) ∙ is
    go false is e (inr j) deep = deep e j

-- ---- a key is made

new_apart : (name : List ℕ) (k : Tree) → HasApartNames (new_key name k)
new_apart name k = (
  (λ i j d lt within. absurd (omega (arith, within))),
  (λ i d within. absurd (omega (arith, within))),
  (λ i j d lt within. absurd (omega (arith, within))),
  tt,
)

some_tree : (a b : Tree) → Some a ≡ Some b → a ≡ b
some_tree a b e = cc

-- ---- a step on a key's children

-- the step names the key above, its lists, what goes, and what is counted again
record NamesAbove (b : Cells) (root : ℕ) (t : Tree) (step : Step) (p : List (List ℕ))
    (gone counted : List ℕ) : Type 0 where
  key : Matches t step p node
  list : Matches t step p lists
  below : (y : ℕ) → In gone y → (q : List (List ℕ)) (r : Role) → Matches t step (p ++ node_name b y ∷ q) r
  count : (o : ℕ) → In counted o → IsMatched b root t step o

-- the key above, and what there is to say of what goes and what comes
record IsAbove (b c : Cells) (root : ℕ) (t : Tree) (path p : List (List ℕ)) (x left : ℕ)
    (front gone put back counted : List ℕ) (hd : Head) (ts : Trees) : Type 0 where
  well : IsWellFormed b root t
  folds : Folds path p
  reached : Reaches b root p x
  deep : length p + suc left ≡ 512
  found : find_key path t ≡ Some (key hd ts)
  stood : Stands b x (key hd ts)
  apart : HasApartNames (key hd ts)
  changes : ChangesChildren b c root x left front gone put back counted

-- what the key above used for its lists and for what goes
abbrev went : Cells → ℕ → ℕ → List ℕ → List (ℕ × Bool)
went b x left gone = plain (list_cells_at b x) ++ flat_map (tree_uses left b) gone

-- the key gets other children
child_rewritten : (b c : Cells) (root : ℕ) (t : Tree) (path p : List (List ℕ)) (x left : ℕ)
    (front gone put back counted : List ℕ) (hd : Head) (ts : Trees) (come : List Tree) (f : List Tree → List Tree)
    → IsAbove b c root t path p x left front gone put back counted hd ts → AllStand c put (trees come)
    → ((w : Tree) → In come w → levels w ≤ left)
    → ((one : StandBoth b front (gone ++ back) (listed ts)) (two : StandBoth b gone back one.right)
    → (f (listed ts) ≡ one.left ++ (come ++ two.right)) × AreSiblings (one.left ++ (come ++ two.right)))
    → IsRewritten b c root t (at_key path (of_children f) t) path x (suc left) (went b x left gone) counted
child_rewritten b c root t path p x left front gone put back counted hd ts come f a new low says =
    let parts = in_parts b c root t p x left front gone put back counted hd ts a.well a.reached a.deep a.stood a.changes
    in
    go parts.0 parts.1 (says parts.0 parts.1)
  where
    go : (one : StandBoth b front (gone ++ back) (listed ts)) (two : StandBoth b gone back one.right)
        → (f (listed ts) ≡ one.left ++ (come ++ two.right)) × AreSiblings (one.left ++ (come ++ two.right))
        → IsRewritten b c root t (at_key path (of_children f) t) path x (suc left) (went b x left gone) counted
    go one two says = record {
      key = key hd (trees (one.left ++ (come ++ two.right)));
      new = plain (list_cells_at c x) ++ flat_map (tree_uses left c) put;
      change = of_children f;
      rewrites = children_rewritten b c root t p x left front gone put back counted hd ts a.well a.reached a.deep
          a.stood a.changes one two come a.apart new low says.1;
      changes = record {
        was = key hd ts;
        found = a.found;
        stood = a.stood;
        becomes = ap (λ (us : List Tree). key hd (trees us)) says.0;
        result = refl;
      };
    }

-- a step that names what goes is done
child_done : (b c : Cells) (root : ℕ) (t u v : Tree) (step : Step) (path p : List (List ℕ)) (x left : ℕ)
    (front gone put back counted : List ℕ) (hd : Head) (ts : Trees)
    → IsAbove b c root t path p x left front gone put back counted hd ts → v ≡ u
    → NamesAbove b root t step p gone counted
    → IsRewritten b c root t v path x (suc left) (went b x left gone) counted → IsDone b c root t u step
child_done b c root t u v step path p x left front gone put back counted hd ts a result names r =
    rewritten b c root t u step path p x (suc left) (went b x left gone) counted a.well a.folds a.reached a.deep
    (subst (λ (z : Tree). IsRewritten b c root t z path x (suc left) (went b x left gone) counted) result r)
    (record { path = p; role = node; owns = record { at = x; reached = a.reached; has = refl }; matches = names.key })
    matched names.count
  where
    listed_there : (y : ℕ) → In gone y → In (child_places b x) y
    listed_there y i = subst (λ (l : List ℕ). In l y) (sym a.changes.listed)
        (in_right front (gone ++ back) y (in_left gone back y i))

    matched : (u : ℕ × Bool) → In (went b x left gone) u → IsMatched b root t step u.0
    matched u i = ⊎_elim
        (λ j. record {
          path = p;
          role = lists;
          owns = record { at = x; reached = a.reached; has = (from_plain (list_cells_at b x) u j).0 };
          matches = names.list;
        })
        (λ j. let w = in_flat (tree_uses left b) gone u j in let o = use_owned left b w.0 u w.2 in
        record {
          path = p ++ node_name b w.0 ∷ o.path;
          role = o.role;
          owns = record {
            at = o.owns.at;
            reached = reach_on b p (node_name b w.0 ∷ o.path) root x o.owns.at a.reached
                (w.0, listed_there w.0 w.1, refl, o.owns.reached);
            has = o.owns.has;
          };
          matches = names.below w.0 w.1 o.path o.role;
        })
        (in_cases (plain (list_cells_at b x)) (flat_map (tree_uses left b) gone) u i)

-- ---- one comes

-- A key gets a child of a new name, before the first whose name folds greater, else last.
child_come : (b c : Cells) (root : ℕ) (t k : Tree) (path p : List (List ℕ)) (x y left : ℕ)
    (front back counted : List ℕ) (hd : Head) (ts : Trees)
    → IsAbove b c root t path p x left front [] (y ∷ []) back counted hd ts → Stands c y k → HasApartNames k
    → levels k ≤ left → 0 < length (head k).name
    → ((w : Tree) → In (listed ts) w → folds_same (head k).name (head w).name ≡ false)
    → HasPlace b (head k).name front back
    → IsRewritten b c root t (at_key path (of_children (placed k)) t) path x (suc left) (went b x left []) counted
child_come b c root t k path p x y left front back counted hd ts a new apart low some fresh place =
    child_rewritten b c root t path p x left front [] (y ∷ []) back counted hd ts (k ∷ []) (placed k) a
    (y, [], refl, new, refl)
    (λ w i. ⊎_elim (λ (e : k ≡ w). subst (λ (z : Tree). levels z ≤ left) e low) (λ (z : ⊥). absurd z) i)
    (λ one two. let all = whole one two in (
      ap (placed k) all
          ∙ placed_between k one.left two.right
          (λ w i. place.small (head w).name (subst (λ (l : List (List ℕ)). In l (head w).name)
          (names_stand b front one.left one.first) (in_map_from (λ z. (head z).name) one.left w i)))
          (subst (StandsBefore (head k).name) (sym (names_stand b back two.right two.second)) place.great),
      siblings_more one.left two.right k hd ts all a.apart apart some fresh,
    ))
  where
    whole : (one : StandBoth b front back (listed ts)) (two : StandBoth b [] back one.right)
        → listed ts ≡ one.left ++ two.right
    whole one two =
        one.whole ∙ ap (λ (l : List Tree). one.left ++ l) (two.whole
        ∙ ap (λ (l : List Tree). l ++ two.right) (nothing_in b two.left two.first))

-- where the key above is by its path, and that the path is as long as the stored one
record IsAtParent (b : Cells) (root : ℕ) (t : Tree) (parent : List (List ℕ)) (x left : ℕ) : Type 0 where
  placed : IsPlaced b root parent x
  there : IsThere b parent x t
  deep : length placed.stored + suc left ≡ 512

at_parent : (b : Cells) (root : ℕ) (t : Tree) (parent : List (List ℕ)) (x left : ℕ) → IsWellFormed b root t
    → key_place b parent root ≡ Some x → length parent + suc left ≡ 512 → IsAtParent b root t parent x left
at_parent b root t parent x left well at deep =
    let w = placed_at b parent root x at in
    record {
      placed = w;
      there = found_there b parent w.stored root x t well.stands well.names w.folds w.reached;
      deep = (let l = folds_length parent w.stored w.folds in omega (arith, l, deep));
    }

-- A key is made where there is none of its name: it is new, and the lists of the key above name it.
pub a_key_made : (b c : Cells) (root : ℕ) (t u k : Tree) (parent : List (List ℕ)) (name : List ℕ) (x y left : ℕ)
    (front back counted : List ℕ) → IsWellFormed b root t → after_step (make_key parent name) t ≡ Ok u
    → has_key parent name t ≡ false → key_place b parent root ≡ Some x → find_key parent t ≡ Some k
    → length parent + suc left ≡ 512 → ChangesChildren b c root x left front [] (y ∷ []) back counted
    → ((o : ℕ) → In counted o → In (security_cell_at b x) o) → Stands c y (new_key name k)
    → HasPlace b name front back → IsDone b c root t u (make_key parent name)
a_key_made b c root t u k parent name x y left front back counted well ok absent at found deep g count new place =
    go k found new (subst (Stands b x) same_tree w.there.stands) (subst HasApartNames same_tree w.there.names)
  where
    w : IsAtParent b root t parent x left
    w = at_parent b root t parent x left well at deep

    same_tree : w.there.tree ≡ k
    same_tree = some_tree w.there.tree k (sym w.there.found ∙ found)

    tests : Passed ((is_none (find_key parent t), no_key) ∷ (is_bad_name name, bad_name)
        ∷ (nat_lt longest_key_name (length name), name_too_long)
        ∷ (nat_lt deepest_level (length parent + 2), too_deep) ∷ []) × (at_key parent (with_key name) t ≡ u)
    tests = passed ((is_none (find_key parent t), no_key) ∷ (is_bad_name name, bad_name)
        ∷ (nat_lt longest_key_name (length name), name_too_long)
        ∷ (nat_lt deepest_level (length parent + 2), too_deep) ∷ []) (at_key parent (with_key name) t) u ok

    names : NamesAbove b root t (make_key parent name) w.placed.stored [] counted
    names = record {
      key = inl (record {
        key = parent ++ name ∷ [];
        named = inl refl;
        folds = inr (subst (λ (q : List (List ℕ)). Folds q w.placed.stored) (sym (parent_is parent name))
            w.placed.folds);
        is = refl;
      });
      list = inr (absent, w.placed.folds, inl refl);
      below = λ z i. absurd i;
      count = λ o i. record {
        path = w.placed.stored;
        role = security;
        owns = record { at = x; reached = w.placed.reached; has = count o i };
        matches = inr (absent, w.placed.folds, inr refl);
      };
    }

    go : (k : Tree) → find_key parent t ≡ Some k → Stands c y (new_key name k) → Stands b x k → HasApartNames k
        → IsDone b c root t u (make_key parent name)
    go (key hd ts) found new stood apart =
        child_done b c root t u (at_key parent (of_children (placed (new_key name (key hd ts)))) t)
        (make_key parent name) parent w.placed.stored x left front [] (y ∷ []) back counted hd ts above
        (changed_alike (of_children (placed (new_key name (key hd ts)))) (with_key name) parent t (key hd ts) found
        (sym (ap (λ (v : Bool). cond v (key hd ts) (of_children (placed (new_key name (key hd ts))) (key hd ts)))
        no_child))
        ∙ tests.1)
        names
        (child_come b c root t (new_key name (key hd ts)) parent w.placed.stored x y left front back counted hd ts above
        new (new_apart name (key hd ts))
        (let l = ltb-false 512 (length parent + 2) tests.0.1.1.1.0 in omega (arith, l, deep))
        (some_unit name tests.0.1.0) (none_named name (listed ts) no_child) place)
      where
        above : IsAbove b c root t parent w.placed.stored x left front [] (y ∷ []) back counted hd ts
        above = record {
          well = well;
          folds = w.placed.folds;
          reached = w.placed.reached;
          deep = w.deep;
          found = found;
          stood = stood;
          apart = apart;
          changes = g;
        }

        no_child : has_child name (key hd ts) ≡ false
        no_child = sym (ap (λ (o : Option Tree). option_map_or (has_child name) o false) found) ∙ absent

-- ---- a child of the root is added, or copied

renamed_apart : (name : List ℕ) (k : Tree) → HasApartNames k → HasApartNames (renamed name k)
renamed_apart name (key hd ts) n = (n.0, n.1, n.2, n.3)

pub renamed_name : (name : List ℕ) (k : Tree) → (head (renamed name k)).name ≡ name
renamed_name name (key hd ts) = refl

pub renamed_levels : (name : List ℕ) (k : Tree) → levels (renamed name k) ≡ levels k
renamed_levels name (key hd ts) = refl

-- the root, as the key above
root_above : (b c : Cells) (root : ℕ) (y : ℕ) (front back counted : List ℕ) (hd : Head) (ts : Trees)
    → IsWellFormed b root (key hd ts) → ChangesChildren b c root root 511 front [] (y ∷ []) back counted
    → IsAbove b c root (key hd ts) [] [] root 511 front [] (y ∷ []) back counted hd ts
root_above b c root y front back counted hd ts well g = record {
  well = well;
  folds = tt;
  reached = refl;
  deep = refl;
  found = refl;
  stood = well.stands;
  apart = well.names;
  changes = g;
}

-- the root gets a child under a name that none has
root_come : (b c : Cells) (root : ℕ) (t k : Tree) (name : List ℕ) (y : ℕ) (front back counted : List ℕ)
    → IsWellFormed b root t → has_child name t ≡ false → is_bad_name name ≡ false
    → ChangesChildren b c root root 511 front [] (y ∷ []) back counted → Stands c y (renamed name k) → HasApartNames k
    → levels k ≤ 511 → HasPlace b name front back
    → IsRewritten b c root t (with_child name k t) [] root 512 (went b root 511 []) counted
root_come b c root (key hd ts) k name y front back counted well absent good g new apart low place =
    child_come b c root (key hd ts) (renamed name k) [] [] root y 511 front back counted hd ts
    (root_above b c root y front back counted hd ts well g) new (renamed_apart name k apart)
    (let l = renamed_levels name k in omega (arith, l, low))
    (subst (λ (m : List ℕ). 0 < length m) (sym (renamed_name name k)) (some_unit name good))
    (subst (λ (m : List ℕ). (w : Tree) → In (listed ts) w → folds_same m (head w).name ≡ false)
    (sym (renamed_name name k)) (none_named name (listed ts) absent))
    (subst (λ (m : List ℕ). HasPlace b m front back) (sym (renamed_name name k)) place)

pub root_gets : (b c : Cells) (root : ℕ) (t k : Tree) (name : List ℕ) (y : ℕ) (front back counted : List ℕ)
    → IsWellFormed b root t → has_child name t ≡ false → is_bad_name name ≡ false
    → ChangesChildren b c root root 511 front [] (y ∷ []) back counted → Stands c y (renamed name k) → HasApartNames k
    → levels k ≤ 511 → HasPlace b name front back → IsWellFormed c root (with_child name k t)
root_gets b c root t k name y front back counted well absent good g new apart low place =
    still_well b c root t (with_child name k t) [] [] root 512 (went b root 511 []) counted well tt refl refl
    (root_come b c root t k name y front back counted well absent good g new apart low place)

root_done : (b c : Cells) (root : ℕ) (t u v : Tree) (step : Step) (y : ℕ) (front back counted : List ℕ)
    → IsWellFormed b root t → ChangesChildren b c root root 511 front [] (y ∷ []) back counted
    → v ≡ u → NamesAbove b root t step [] [] counted
    → IsRewritten b c root t v [] root 512 (went b root 511 []) counted → IsDone b c root t u step
root_done b c root (key hd ts) u v step y front back counted well g result names r =
    child_done b c root (key hd ts) u v step [] [] root 511 front [] (y ∷ []) back counted hd ts
    (root_above b c root y front back counted hd ts well g) result names r

-- A key is added under a name that no child of the root has.
pub a_child_added : (b c : Cells) (root : ℕ) (t u k : Tree) (name : List ℕ) (y : ℕ) (front back counted : List ℕ)
    → IsWellFormed b root t → after_step (add_child name k) t ≡ Ok u → HasApartNames k
    → ChangesChildren b c root root 511 front [] (y ∷ []) back counted
    → ((o : ℕ) → In counted o → In (security_cell_at b root) o) → Stands c y (renamed name k)
    → HasPlace b name front back → IsDone b c root t u (add_child name k)
a_child_added b c root t u k name y front back counted well ok apart g count new place =
    root_done b c root t u (with_child name k t) (add_child name k) y front back counted well g tests.1
    (record {
      key = inl (record { key = name ∷ []; named = inl refl; folds = inr tt; is = refl });
      list = inr (tt, inl refl);
      below = λ z i. absurd i;
      count = λ o i. record {
        path = [];
        role = security;
        owns = record { at = root; reached = refl; has = count o i };
        matches = inr (tt, inr refl);
      };
    })
    (root_come b c root t k name y front back counted well tests.0.1.1.0 tests.0.0 g new apart
    (let l = ltb-false 512 (levels k + 1) tests.0.1.1.1.0 in omega (arith, l)) place)
  where
    tests : Passed ((is_bad_name name, bad_name) ∷ (nat_lt longest_key_name (length name), name_too_long)
        ∷ (has_child name t, exists) ∷ (nat_lt deepest_level (levels k + 1), too_deep) ∷ [])
        × (with_child name k t ≡ u)
    tests = passed ((is_bad_name name, bad_name) ∷ (nat_lt longest_key_name (length name), name_too_long)
        ∷ (has_child name t, exists) ∷ (nat_lt deepest_level (levels k + 1), too_deep) ∷ []) (with_child name k t) u ok

-- A child is copied under a name that no child of the root has.
pub a_child_copied : (b c : Cells) (root : ℕ) (t u k : Tree) (from to : List ℕ) (y : ℕ) (front back counted : List ℕ)
    → IsWellFormed b root t → after_step (copy_child from to) t ≡ Ok u → find (is_named from) (children t) ≡ Some k
    → HasApartNames k → levels k ≤ 511 → ChangesChildren b c root root 511 front [] (y ∷ []) back counted
    → ((o : ℕ) → In counted o → (q : List (List ℕ)) × Extends (from ∷ []) q × Owns b root q security o)
    → Stands c y (renamed to k) → HasPlace b to front back → IsDone b c root t u (copy_child from to)
a_child_copied b c root t u k from to y front back counted well ok found apart low g count new place =
    root_done b c root t u (with_child to k t) (copy_child from to) y front back counted well g
    (sym (ap (λ (o : Option Tree). option_map_or (λ z. with_child to z t) o t) found) ∙ tests.1)
    (record {
      key = inl (record { key = to ∷ []; named = inr (inl refl); folds = inr tt; is = refl });
      list = inr (inl (tt, refl));
      below = λ z i. absurd i;
      count = λ o i. let w = count o i in
          record { path = w.0; role = security; owns = w.2; matches = inr (inr (w.1, refl)) };
    }) (root_come b c root t k to y front back counted well tests.0.1.1.1.0 tests.0.1.0 g new apart low place)
  where
    tests : Passed ((not (has_child from t), no_key) ∷ (is_bad_name to, bad_name)
        ∷ (nat_lt longest_key_name (length to), name_too_long) ∷ (has_child to t, exists) ∷ [])
        × (option_map_or (λ z. with_child to z t) (find (is_named from) (children t)) t ≡ u)
    tests = passed ((not (has_child from t), no_key) ∷ (is_bad_name to, bad_name)
        ∷ (nat_lt longest_key_name (length to), name_too_long) ∷ (has_child to t, exists) ∷ [])
        (option_map_or (λ z. with_child to z t) (find (is_named from) (children t)) t) u ok

-- ---- a key is deleted

-- a path on from one that folds to a path
pub extends_past : (a p : List (List ℕ)) (n m : List ℕ) (r : List (List ℕ)) → Folds a p → folds_same n m ≡ true
    → Extends (a ++ n ∷ []) (p ++ m ∷ r)
extends_past [] [] n m r f e = (e, tt)
extends_past [] (y ∷ p) n m r f e = absurd f
extends_past (x ∷ a) [] n m r f e = absurd f
extends_past (x ∷ a) (y ∷ p) n m r f e = (f.0, extends_past a p n m r f.1 e)

-- A key is deleted with all below it: the lists of the key above name the others.
pub a_key_deleted : (b c : Cells) (root : ℕ) (t u : Tree) (parent : List (List ℕ)) (name : List ℕ) (x y left : ℕ)
    (front back counted : List ℕ) → IsWellFormed b root t → after_step (delete_key (parent ++ name ∷ [])) t ≡ Ok u
    → key_place b parent root ≡ Some x → length parent + suc left ≡ 512 → Deletes b root parent name y counted
    → ChangesChildren b c root x left front (y ∷ []) [] back counted
    → IsDone b c root t u (delete_key (parent ++ name ∷ []))
a_key_deleted b c root t u parent name x y left front back counted well ok at deep deletes g =
    go w.there.tree w.there.found w.there.stands w.there.names
  where
    w : IsAtParent b root t parent x left
    w = at_parent b root t parent x left well at deep

    parent_folds : Folds (parent_of (parent ++ name ∷ [])) w.placed.stored
    parent_folds =
        subst (λ (q : List (List ℕ)). Folds q w.placed.stored) (sym (parent_is parent name)) w.placed.folds

    named_gone : (z : ℕ) → In (y ∷ []) z → folds_same name (node_name b z) ≡ true
    named_gone z (inl e) = subst (λ (o : ℕ). folds_same name (node_name b o) ≡ true) e deletes.named
    named_gone z (inr i) = absurd i

    tests : Passed (((length (parent ++ name ∷ []) == 0) || is_none (find_key (parent ++ name ∷ []) t), no_key) ∷ [])
        × (without_key (parent ++ name ∷ []) t ≡ u)
    tests = passed (((length (parent ++ name ∷ []) == 0) || is_none (find_key (parent ++ name ∷ []) t), no_key) ∷ [])
        (without_key (parent ++ name ∷ []) t) u ok

    go : (k : Tree) → find_key parent t ≡ Some k → Stands b x k → HasApartNames k
        → IsDone b c root t u (delete_key (parent ++ name ∷ []))
    go (key hd ts) found stood apart =
        child_done b c root t u (at_key parent (of_children (without_first (is_named name))) t)
        (delete_key (parent ++ name ∷ [])) parent w.placed.stored x left front (y ∷ []) [] back counted hd ts above
        (sym (without_at parent name t) ∙ tests.1)
        (record {
          key = inl (record { key = parent ++ name ∷ []; named = inl refl; folds = inr parent_folds; is = refl });
          list = inr (inl (parent_folds, refl));
          below = λ z i q r. inr (inr (extends_past parent w.placed.stored name (node_name b z) q w.placed.folds
              (named_gone z i)));
          count = λ o i. let d = deletes.count o i in
              record { path = d.0; role = security; owns = d.2; matches = inr (inr d.1) };
        })
        (child_rewritten b c root t parent w.placed.stored x left front (y ∷ []) [] back counted hd ts []
        (without_first (is_named name)) above refl (λ z i. absurd i) says)
      where
        says : (one : StandBoth b front (y ∷ [] ++ back) (listed ts)) (two : StandBoth b (y ∷ []) back one.right)
            → (without_first (is_named name) (listed ts) ≡ one.left ++ ([] ++ two.right))
            × AreSiblings (one.left ++ ([] ++ two.right))
        says one two =
            let v = one_tree b y two.left two.first in
            let parts : listed ts ≡ one.left ++ (two.left ++ two.right) =
            one.whole ∙ ap (λ (l : List Tree). one.left ++ l) two.whole in
            let whole : listed ts ≡ one.left ++ v.0 ∷ two.right =
            parts ∙ ap (λ (l : List Tree). one.left ++ (l ++ two.right)) v.1 in
            let passes : is_named name v.0 ≡ true = ap (folds_same name) (sym (tree_name b y v.0 v.2)) ∙ deletes.named in
            let all : Pairwise Unlike (names_in one.left ++ ((head v.0).name ∷ names_in two.right)) =
            subst (Pairwise Unlike) (ap names_in whole ∙ names_append one.left (v.0 ∷ two.right))
            (names_differ (listed ts) apart.2) in (
              ap (without_first (is_named name)) whole
                  ∙ without_behind (is_named name) one.left two.right v.0
                  (λ z i. not_named name (head z).name (head v.0).name
                  ((pairwise_parts Unlike (names_in one.left) ((head v.0).name ∷ names_in two.right) all).across
                  (head z).name (head v.0).name (in_map_from (λ z. (head z).name) one.left z i) (inl refl)) passes)
                  passes,
              siblings_left one.left two.left two.right hd ts parts apart,
            )

        above : IsAbove b c root t parent w.placed.stored x left front (y ∷ []) [] back counted hd ts
        above = record {
          well = well;
          folds = w.placed.folds;
          reached = w.placed.reached;
          deep = w.deep;
          found = found;
          stood = stood;
          apart = apart;
          changes = g;
        }
