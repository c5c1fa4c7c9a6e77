-- What is in cells is read as it is cut.
use Rattle.std.proofs.Common.{◌≡◌, ℕ, zero, suc, eqb, Bool, true, false, cond, List, [], ◌∷◌, length, Option, Some, None, Result, Ok, Err, refl, sym, ap, ◌∙◌}
use Rattle.std.specs.Prelude.{MatchBool, find}
use Rattle.nt_bytes.specs.declared.fault.HiveFaultKind.{HiveFaultKind}
use Rattle.nt_bytes.specs.declared.fault.ReadStop.{ReadStop}
use Rattle.nt_bytes.specs.declared.fault.ReadStop.TheVariants as stops
use Rattle.nt_bytes.specs.Folding.{folds_same}
use Rattle.nt_bytes.specs.Reading.{◌>>=◌}
use Rattle.hive_model.specs.KeyNode.{KeyNode}
use Rattle.hive_model.specs.Bins.{Cells}
use Rattle.hive_model.specs.Tree.{Head, Tree, Trees, key, none, more, trees, listed, is_named}
use Rattle.hive_model.specs.Walk.{entries_at}
use Rattle.hive_model.specs.Stands.{ListsChildren, KeyStands, Stands, AllStand}
use Rattle.reg_tree.proofs.Trees.{trees_listed}
use Rattle.key_command.specs.hive_levels.Cut.{bare, each, cut, lone, changed, along, Shows}
use Rattle.key_command.specs.hive_levels.Reading.{Answers, children_of, key_of, in_turn, below_node, cut_at, first_named, place_at, along_at}

-- ---- a key by itself

pub children_read : (cells : Cells) (node : KeyNode) (offsets : List ℕ) → ListsChildren cells node offsets
    → children_of cells node ≡ Ok offsets
children_read cells node offsets lists = go (eqb node.child_count 0) (entries_at cells node.child_list) lists
  where
    go : (b : Bool) (read : Result (List ℕ) HiveFaultKind)
        → MatchBool b (offsets ≡ []) ((read ≡ Ok offsets) × (length offsets ≡ node.child_count))
        → cond b (Ok []) read ≡ Ok offsets
    go true read e = ap (λ (o : List ℕ). Ok o) (sym e)
    go false read e = e.0

pub key_read : (cells : Cells) (at : ℕ) (h : Head) (offsets : List ℕ) (s : KeyStands cells at h offsets) (ts : List Tree)
    → key_of cells s.node ts ≡ Ok (key h (trees ts))
key_read cells at h offsets s ts =
    rw (s.class, s.security, s.values) (λ i. Ok (key (record {
      name = sym s.name i;
      flags = sym s.flags i;
      stamp = sym s.stamp i;
      class = h.class;
      security = h.security;
      values = h.values;
    }) (trees ts)))

-- ---- levels

turn_read : (cells : Cells) (read : ℕ → Result Tree HiveFaultKind) (change : Tree → Tree)
    → ((at : ℕ) (t : Tree) → Stands cells at t → read at ≡ Ok (change t))
    → (offsets : List ℕ) (ts : Trees) → AllStand cells offsets ts → in_turn read offsets ≡ Ok (listed (each change ts))
turn_read cells read change one offsets none s = ap (in_turn read) s
turn_read cells read change one offsets (more t ts) s =
    let first = one s.0 t s.3 in
    let rest = turn_read cells read change one s.1 ts s.4 in
    ap (in_turn read) s.2 ∙ rw (first, rest) refl

pub cut_read : (n : ℕ) (cells : Cells) (at : ℕ) (t : Tree) → Stands cells at t → cut_at n cells at ≡ Ok (cut n t)
cut_read zero cells at (key h ts) s =
    let read = s.1.read in
    rw read (ap (λ (name : List ℕ). Ok (key (bare name) none)) (sym s.1.name))
cut_read (suc n) cells at (key h ts) s =
    let node = s.1.node in
    let next = cut_at n cells in
    let below = listed (each (cut n) ts) in
    ap (λ (r : Result KeyNode HiveFaultKind). r >>= below_node next cells) s.1.read
    ∙ ap (λ (r : Result (List ℕ) HiveFaultKind). r >>= in_turn next >>= key_of cells node)
    (children_read cells node s.0 s.1.children)
    ∙ ap (λ (r : Result (List Tree) HiveFaultKind). r >>= key_of cells node)
    (turn_read cells next (cut n) (λ z u stands. cut_read n cells z u stands) s.0 ts s.2)
    ∙ key_read cells at h s.0 s.1 below
    ∙ ap (λ (us : Trees). Ok (key h us)) (trees_listed (each (cut n) ts))

-- ---- names

-- the offset that was found is that of the tree that was found
abbrev Finds : Cells → Result (Option ℕ) HiveFaultKind → Option Tree → Type 0
Finds cells (Ok None) None = Unit {0}
Finds cells (Ok (Some at)) (Some t) = Stands cells at t
Finds cells (Ok None) (Some t) = ⊥
Finds cells (Ok (Some at)) None = ⊥
Finds cells (Err k) o = ⊥

name_first : (cells : Cells) (name : List ℕ) (at : ℕ) (rest : List ℕ) (t : Tree) → Stands cells at t
    → first_named cells name (at ∷ rest) ≡ cond (is_named name t) (Ok (Some at)) (first_named cells name rest)
name_first cells name at rest (key h ts) s =
    let read = s.1.read in
    rw read (ap (λ (n : List ℕ). cond (folds_same name n) (Ok (Some at)) (first_named cells name rest)) (sym s.1.name))

name_read : (cells : Cells) (name : List ℕ) (offsets : List ℕ) (ts : Trees) → AllStand cells offsets ts
    → Finds cells (first_named cells name offsets) (find (is_named name) (listed ts))
name_read cells name offsets none s = rw s tt
name_read cells name offsets (more t ts) s =
    let is = ap (first_named cells name) s.2 ∙ name_first cells name s.0 s.1 t s.3 in
    rw is (go (is_named name t) (name_read cells name s.1 ts s.4))
  where
    go : (b : Bool) → Finds cells (first_named cells name s.1) (find (is_named name) (listed ts))
        → Finds cells (cond b (Ok (Some s.0)) (first_named cells name s.1)) (cond b (Some t) (find (is_named name) (listed ts)))
    go true rest = s.3
    go false rest = rest

-- ---- a path

below_read : (cells : Cells) (read : ℕ → Result Tree HiveFaultKind) (change : Tree → Tree) (here name : List ℕ)
    → here ≡ name → ((at : ℕ) (t : Tree) → Stands cells at t → read at ≡ Ok (change t))
    → (r : Result (Option ℕ) HiveFaultKind) (o : Option Tree) → Finds cells r o
    → (r >>= place_at read >>= λ (ts : List Tree). Ok (key (bare name) (trees ts))) ≡ Ok (lone here (changed change o))
below_read cells read change here name same one (Ok None) None f = ap (λ (n : List ℕ). Ok (key (bare n) none)) (sym same)
below_read cells read change here name same one (Ok (Some at)) (Some t) f =
    let first = one at t f in
    rw first (ap (λ (n : List ℕ). Ok (key (bare n) (more (change t) none))) (sym same))
below_read cells read change here name same one (Ok None) (Some t) f = absurd f
below_read cells read change here name same one (Ok (Some at)) None f = absurd f
below_read cells read change here name same one (Err k) o f = absurd f

pub along_read : (path : List (List ℕ)) (n : ℕ) (cells : Cells) (at : ℕ) (t : Tree) → Stands cells at t
    → along_at path n cells at ≡ Ok (along path n t)
along_read [] n cells at t s = cut_read n cells at t s
along_read (name ∷ path) n cells at (key h ts) s =
    let node = s.1.node in
    let next = along_at path n cells in
    ap (λ (r : Result KeyNode HiveFaultKind). r >>= λ (k : KeyNode).
    children_of cells k >>= first_named cells name >>= place_at next >>= λ (us : List Tree). Ok (key (bare k.name) (trees us)))
    s.1.read
    ∙ ap (λ (r : Result (List ℕ) HiveFaultKind).
    r >>= first_named cells name >>= place_at next >>= λ (us : List Tree). Ok (key (bare node.name) (trees us)))
    (children_read cells node s.0 s.1.children)
    ∙ below_read cells next (along path n) h.name node.name s.1.name (λ z u stands. along_read path n cells z u stands)
    (first_named cells name s.0) (find (is_named name) (listed ts)) (name_read cells name s.0 ts s.2)

-- ---- what is shown

abbrev done : Tree → Result Tree HiveFaultKind
done t = Ok t

one_tree : (x y : Tree) → done x ≡ done y → x ≡ y
one_tree x y e = cc

pub shown : (x : Tree) (read : Result Tree HiveFaultKind) (r : Result Tree ReadStop) → read ≡ Ok x
    → Answers (λ (k : Tree). k) read r → Shows x r
shown x read (Ok y) e a = one_tree y x (sym a ∙ e)
shown x read (Err stops.Memory) e a = tt
shown x read (Err (stops.Fault f)) e a = absurd (let no = sym a ∙ e in cc)
