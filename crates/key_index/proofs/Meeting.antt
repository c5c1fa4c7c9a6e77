-- Well-formed cells meet what is asked of the lists of a key.
use Rattle.std.proofs.Common.{◌≡◌, ◌<◌, ℕ, zero, suc, Bool, true, false, ◌&&◌, eqb, cond, List, [], ◌∷◌, length, Result, Ok, Err, refl, sym, ap, subst, ◌∙◌, arith, eq-eqb}
use Rattle.std.specs.Prelude.{slice_index_or, MatchBool}
use Rattle.std.specs.List.{All, AllPairs}
use Rattle.std.proofs.lemmas.Bool.{eqb-true}
use Rattle.std.proofs.lemmas.List.Elements.{All-cons, All-nil}
use Rattle.nt_bytes.specs.declared.fault.HiveFaultKind.{HiveFaultKind}
use Rattle.nt_bytes.specs.Folding.{folds_same}
use Rattle.hive_model.specs.Bins.{Cells}
use Rattle.hive_model.specs.KeyNode.{KeyNode, key_node_at}
use Rattle.hive_model.specs.Lists.{SubkeyList, list_at}
use Rattle.hive_model.specs.Tree.{Tree, Trees, key, none, more, listed, head}
use Rattle.hive_model.specs.Walk.{Check, uses, tests, clash, clashes, reading, entries_at, below_of, is_list_of_lists, leaves_checks, entries_checks, AreUsedOnce}
use Rattle.hive_model.specs.Footprint.{of_read, used_in}
use Rattle.hive_model.specs.Stands.{ListsAt, Stands, AllStand, HasApartNames}
use Rattle.key_index.specs.Lists.{IsNode, ListsSiblings, NamesDiffer, children_at, lists_at, name_of, name_in, payload_in}
use Rattle.key_index.specs.Relists.{AreApart}
use Rattle.key_index.proofs.Tests.{done, is_ok_of, ok_same}
use Rattle.key_index.proofs.Below.{in_payload}

-- ---- siblings

-- a key node is where a tree stands, and has the tree's name
record NodeAt (cells : Cells) (at : ℕ) (t : Tree) : Type 0 where
  node : IsNode cells at
  name : name_in cells at ≡ (head t).name

node_stands : (cells : Cells) (at : ℕ) (t : Tree) → Stands cells at t → NodeAt cells at t
unfolding name_of
node_stands cells at (key h ts) s =
    let read = in_payload key_node_at cells at s.1.node s.1.read in
    record {
      node = is_ok_of (key_node_at (payload_in cells at)) s.1.node read;
      name = ap (λ (r : Result KeyNode HiveFaultKind). of_read r (λ node. node.name)) read ∙ sym s.1.name;
    }

nodes_stand : (cells : Cells) (offsets : List ℕ) (ts : Trees) → AllStand cells offsets ts → All (IsNode cells) offsets
nodes_stand cells offsets none s = subst (All (IsNode cells)) (sym s) (All-nil (IsNode cells))
nodes_stand cells offsets (more t ts) s =
    subst (All (IsNode cells)) (sym s.2)
    (All-cons (IsNode cells) s.0 s.1 (node_stands cells s.0 t s.3).node (nodes_stand cells s.1 ts s.4))

-- the names at places are those of the trees
names_at : (cells : Cells) (offsets : List ℕ) (ts : Trees) (i d : ℕ) (u : Tree) → AllStand cells offsets ts
    → i < length offsets
    → (i < length (listed ts))
    × (name_in cells (slice_index_or offsets i d) ≡ (head (slice_index_or (listed ts) i u)).name)
names_at cells offsets none i d u s lt = absurd (omega (arith, ap length s))
names_at cells offsets (more t ts) zero d u s lt =
    (omega arith, ap (λ (os : List ℕ). name_in cells (slice_index_or os 0 d)) s.2 ∙ (node_stands cells s.0 t s.3).name)
names_at cells offsets (more t ts) (suc i) d u s lt =
    let r = names_at cells s.1 ts i d u s.4 (omega (arith, ap length s.2)) in
    (omega (arith, r.0), ap (λ (os : List ℕ). name_in cells (slice_index_or os (suc i) d)) s.2 ∙ r.1)

names_differ : (cells : Cells) (offsets : List ℕ) (ts : Trees) (u : Tree) → AllStand cells offsets ts
    → AllPairs (λ a b. folds_same (head b).name (head a).name ≡ false) (listed ts) → NamesDiffer cells offsets
names_differ cells offsets ts u s apart i j d less lt =
    let a = names_at cells offsets ts i d u s (omega arith) in
    let b = names_at cells offsets ts j d u s lt in
    (λ k. folds_same (b.1 k) (a.1 k)) ∙ apart i j u less b.0

pub siblings_stand : (cells : Cells) (at : ℕ) (t : Tree) (node : KeyNode) → Stands cells at t → HasApartNames t
    → reading key_node_at cells at ≡ done node
    → ListsSiblings cells node.child_list node.child_count
siblings_stand cells at (key h ts) node s names r =
    let same : s.1.node ≡ node = ok_same s.1.node node (sym s.1.read ∙ r) in
    subst (λ (n : KeyNode). ListsSiblings cells n.child_list n.child_count) same
    (go s.1.node.child_list s.1.node.child_count (eqb s.1.node.child_count 0) refl s.1.children)
  where
    go : (list count : ℕ) (b : Bool) → eqb count 0 ≡ b
        → MatchBool b (s.0 ≡ []) (ListsAt cells list s.0 × (length s.0 ≡ count)) → ListsSiblings cells list count
    go list count true e c =
        let z : count ≡ 0 = eqb-true count 0 e in
        let empty : children_at cells list count ≡ [] =
        ap (λ (b : Bool). cond b [] (of_read (entries_at cells list) (λ os. os))) e in
        record {
          read = λ some. absurd (omega arith);
          number = ap length empty ∙ sym z;
          nodes = subst (All (IsNode cells)) (sym empty) (All-nil (IsNode cells));
          apart = subst (NamesDiffer cells) (sym empty) (λ i j d less lt. absurd (omega arith));
        }
    go list count false e c =
        let is : children_at cells list count ≡ s.0 =
        ap (λ (b : Bool). cond b [] (of_read (entries_at cells list) (λ os. os))) e
        ∙ ap (λ (r : Result (List ℕ) HiveFaultKind). of_read r (λ os. os)) c.0 in
        record {
          read = λ some. is_ok_of (entries_at cells list) s.0 c.0;
          number = ap length is ∙ c.1;
          nodes = subst (All (IsNode cells)) (sym is) (nodes_stand cells s.0 ts s.2);
          apart = subst (NamesDiffer cells) (sym is) (names_differ cells s.0 ts (key h ts) s.2 names.2);
        }

-- ---- cells of lists

-- each check that uses a cell uses it for itself
abbrev UsesAlone : List Check → Type 0
UsesAlone [] = Unit {0}
UsesAlone (uses at true ∷ checks) = ⊥
UsesAlone (uses at false ∷ checks) = UsesAlone checks
UsesAlone (tests at kind ∷ checks) = UsesAlone checks

-- a cell that was used before is none of those that these checks use
unused : (before : ℕ) (checks : List Check) → UsesAlone checks
    → ((k : ℕ) (d : Check) → k < length checks → clashes (uses before false) (slice_index_or checks k d) ≡ false)
    → All (λ x. before ≡ x → ⊥) (used_in checks)
unused before [] alone h = All-nil (λ x. before ≡ x → ⊥)
unused before (uses at true ∷ checks) alone h = absurd alone
unused before (uses at false ∷ checks) alone h =
    All-cons (λ x. before ≡ x → ⊥) at (used_in checks) (λ e. no_clash at before (h 0 (uses at false) (omega arith)) e)
    (unused before checks alone (λ k d lt. h (suc k) d (omega arith)))
  where
    no_clash : (x y : ℕ) → clash x false (uses y false) ≡ false → y ≡ x → ⊥
    no_clash x y n e =
        let t : eqb x y ≡ true = eq-eqb x y (sym e) in
        let f : true ≡ false = subst (λ (b : Bool). (b && true) ≡ false) t n in
        cc
unused before (tests at kind ∷ checks) alone h = unused before checks alone (λ k d lt. h (suc k) d (omega arith))

apart_once : (checks : List Check) → UsesAlone checks → AreUsedOnce checks → AreApart (used_in checks)
apart_once [] alone once = λ i j d less lt. absurd (omega arith)
apart_once (uses at true ∷ checks) alone once = absurd alone
apart_once (uses at false ∷ checks) alone once =
    Rattle.std.proofs.lemmas.List.Kept.AllPairs-cons (λ a b. a ≡ b → ⊥) at (used_in checks)
    (unused at checks alone (λ k d lt. once 0 (suc k) d (omega arith) (omega arith)))
    (apart_once checks alone (λ i j d less lt. once (suc i) (suc j) d (omega arith) (omega arith)))
apart_once (tests at kind ∷ checks) alone once =
    apart_once checks alone (λ i j d less lt. once (suc i) (suc j) d (omega arith) (omega arith))

leaves_alone : (cells : Cells) (lists : List ℕ) → UsesAlone (leaves_checks cells lists)
leaves_alone cells [] = tt
leaves_alone cells (at ∷ rest) = leaves_alone cells rest

entries_alone : (cells : Cells) (list : ℕ) → UsesAlone (entries_checks cells list)
unfolding entries_checks
entries_alone cells list = go (reading list_at cells list)
  where
    by_kind : (b : Bool) (lists : List ℕ) → UsesAlone (cond b (leaves_checks cells lists) [])
    by_kind true lists = leaves_alone cells lists
    by_kind false lists = tt

    go : (r : Result SubkeyList HiveFaultKind)
        → UsesAlone (below_of r (λ l. cond (is_list_of_lists l.kind) (leaves_checks cells l.offsets) []))
    go (Ok l) = by_kind (is_list_of_lists l.kind) l.offsets
    go (Err kind) = tt

pub lists_apart : (cells : Cells) (list count : ℕ) → AreUsedOnce (entries_checks cells list)
    → AreApart (lists_at cells list count)
unfolding lists_at
lists_apart cells list count once = go (eqb count 0)
  where
    go : (b : Bool) → AreApart (cond b [] (used_in (entries_checks cells list)))
    go true = λ i j d less lt. absurd (omega arith)
    go false = apart_once (entries_checks cells list) (entries_alone cells list) once
