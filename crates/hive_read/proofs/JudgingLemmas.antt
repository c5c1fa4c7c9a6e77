-- What judging keeps of keys: that they are there, and how many bytes they take.
use Rattle.std.proofs.Common.{◌≡◌, ℕ, ◌+◌, ◌||◌, Bool, true, false, List, [], ◌∷◌, ◌++◌, map, length, Ok, Err, refl, sym, ap, subst, ◌∙◌, arith}
use Rattle.std.specs.Prelude.{sum_by}
use Rattle.std.specs.FinMap as map
use Rattle.std.proofs.lemmas.List.{append-nil, map_push}
use Rattle.std.proofs.lemmas.List.Sums.{sum_by_push}
use Rattle.nt_bytes.specs.Folding.{folds_same}
use Rattle.nt_bytes.specs.declared.version.HiveVersion.{HiveVersion}
use Rattle.nt_bytes.specs.declared.fault.ReadStop.{ReadStop}
use Rattle.nt_bytes.specs.declared.fault.ReadStop.TheVariants as stops
use Rattle.hive_model.specs.KeyNode.{KeyNode, key_node_at}
use Rattle.hive_model.specs.Bins.{Cells}
use Rattle.hive_model.specs.Size.{cell, name_bytes, class_size, security_size, items_size, head_size, list_size, size, size_of_all}
use Rattle.nt_bytes.specs.Counts.{capped}
use Rattle.hive_model.specs.Tree.{Item, Head, Tree, trees, key, head}
use Rattle.hive_model.specs.Walk.{reading, node_at, names_of, key_checks, keys_in_turn, children_checks}
use Rattle.hive_model.specs.Stands.{tree_flags, class_of, security_of, values_of, ListsChildren, Stands, AllStand}
use Rattle.hive_read.specs.Judged.{AddsName, Counts, HasBulk, Judges}
use Rattle.hive_read.specs.Taken.{has_name, Knows}
use Rattle.hive_read.specs.Walked.{Seen, walk, Stops, KeyRead, ChildrenRead}
use Rattle.reg_tree.proofs.Sums.{size_of_all-trees}
use Rattle.reg_tree.proofs.Trees.{listed_trees}
use Rattle.hive_read.proofs.KeyWalks.{key_name, keys-on, stand-one, node-plain, children-none}
use Rattle.hive_read.proofs.TakenLemmas.{knows-none, knows-more}
use Rattle.hive_read.proofs.ValidTrees.{AreBytes, stand-as-many, well-formed-valid}
use Rattle.hive_read.proofs.Standing.{reads-root}

-- ---- sums that stay at the greatest number

-- cutting the parts and then their sum at the greatest number cuts the sum there
capped-sum : (a b x y total : ℕ) → x ≡ capped a → y ≡ capped b → total ≡ capped (x + y) → total ≡ capped (a + b)
capped-sum a b x y total e f g = omega (arith, e, f, g)

regrouped : (a b c : ℕ) → (a + b) + c ≡ a + (b + c)
regrouped a b c = omega arith

turned : (a b : ℕ) → a + b ≡ b + a
turned a b = omega arith

-- ---- keys in sequence

-- a key is there whose name is added
abbrev pub KeyHere : Cells → Bool → ℕ → List (List ℕ) → List (List ℕ) → Tree → Type 0
KeyHere cells root at old new t = KeyRead cells root at t × AddsName old new (head t).name

-- the keys before these are there, and known by their names
pub record KeysSoFar (cells : Cells) (left : ℕ) (shared offsets rest : List ℕ) (taken : List (List ℕ)) (total : ℕ)
    (seen start : Seen) : Type 0 where
  pub children : List Tree
  pub told : walk cells seen (keys_in_turn (key_checks left cells false) cells (map key_name children) rest)
      ≡ walk cells start (keys_in_turn (key_checks left cells false) cells [] offsets)
  pub stand : (ts : List Tree) → AllStand cells rest (trees ts) → AllStand cells offsets (trees (children ++ ts))
  pub knows : Knows taken (map key_name children)
  pub counted : total ≡ capped (sum_by (size cells.version shared) children)

-- at first no key is before these; each that is there is one more; after the last all were walked
pub keys-first : (cells : Cells) (left : ℕ) (shared offsets : List ℕ) (taken : List (List ℕ)) (seen : Seen) → taken ≡ []
    → KeysSoFar cells left shared offsets offsets taken 0 seen seen
keys-first cells left shared offsets taken seen e =
    record { children = []; told = refl; stand = λ more e. e; knows = knows-none taken e; counted = refl }

pub keys-next : (cells : Cells) (left : ℕ) (shared offsets rest : List ℕ) (old new : List (List ℕ)) (total one : ℕ)
    (seen start after : Seen) (at : ℕ) (others : List ℕ)
    → (s : KeysSoFar cells left shared offsets rest old total seen start) → rest ≡ at ∷ others
    → walk cells seen (key_checks left cells false (map key_name s.children) at) ≡ Ok after
    → Counts (KeyHere cells false at old new) (size cells.version shared) one
    → KeysSoFar cells left shared offsets others new (capped (total + one)) after start
keys-next cells left shared offsets rest old new total one seen start after at others s o e k =
    record {
      children = s.children ++ k.it ∷ [];
      told = sym (keys-on left cells seen after s.children rest at others k.it o e k.means.0) ∙ s.told;
      stand = stand-one cells rest others offsets at s.children k.it o k.means.0.0 s.stand;
      knows =
          subst (λ (ns : List (List ℕ)). Knows new ns) (sym (map_push key_name s.children k.it))
          (knows-more old new (map key_name s.children) (key_name k.it) s.knows k.means.1);
      counted =
          capped-sum (sum_by (size cells.version shared) s.children) (size cells.version shared k.it) total one
          (capped (total + one)) s.counted k.counted refl
          ∙ ap capped (sym (sum_by_push (size cells.version shared) s.children k.it));
    }

pub keys-last : (cells : Cells) (left : ℕ) (shared offsets rest : List ℕ) (taken : List (List ℕ)) (total : ℕ)
    (seen start : Seen) → KeysSoFar cells left shared offsets rest taken total seen start
    → rest ≡ []
    → (walk cells start (keys_in_turn (key_checks left cells false) cells [] offsets) ≡ Ok seen)
    × Counts (λ (ts : List Tree). AllStand cells offsets (trees ts)) (sum_by (size cells.version shared)) total
keys-last cells left shared offsets rest taken total seen start s z = (
  sym s.told ∙ ap (λ r. walk cells seen (keys_in_turn (key_checks left cells false) cells (map key_name s.children) r))
      z,
  record {
    it = s.children;
    means = subst (λ (us : List Tree). AllStand cells offsets (trees us)) (append-nil s.children) (s.stand [] z);
    counted = s.counted;
  },
)

-- ---- children

-- a key without children has no list
pub no-children : (left : ℕ) (cells : Cells) (seen : Seen) (node : KeyNode) (at : ℕ)
    (shared : List ℕ) → node.child_count ≡ 0
    → (walk cells seen (children_checks (key_checks left cells false) cells node at) ≡ Ok seen)
    × Counts (ChildrenRead cells node)
    (λ (ts : List Tree). list_size (length ts) + sum_by (size cells.version shared) ts) 0
no-children left cells seen node at shared z =
    let n = children-none (key_checks left cells false) cells seen node at z in
    (n.0, record { it = []; means = ([], n.1, refl); counted = refl })

-- a list of children and the children below it, counted together
pub children-counts : (cells : Cells) (node : KeyNode) (shared offsets : List ℕ) (lists one total : ℕ)
    → ListsChildren cells node offsets → lists ≡ capped (list_size (length offsets))
    → Counts (λ (ts : List Tree). AllStand cells offsets (trees ts)) (sum_by (size cells.version shared)) one
    → total ≡ capped (lists + one)
    → Counts (ChildrenRead cells node)
    (λ (ts : List Tree). list_size (length ts) + sum_by (size cells.version shared) ts) total
children-counts cells node shared offsets lists one total listing l c t =
    let many : length c.it ≡ length offsets =
    sym (ap (λ (us : List Tree). length us) (listed_trees c.it))
    ∙ stand-as-many cells offsets (trees c.it) c.means in
    record {
      it = c.it;
      means = (offsets, listing, c.means);
      counted =
          capped-sum (list_size (length offsets)) (sum_by (size cells.version shared) c.it)
          lists one total l c.counted t
          ∙ ap (λ (n : ℕ). capped (list_size n + sum_by (size cells.version shared) c.it)) (sym many);
    }

-- ---- a key

-- a key of this node stands here where the node does
abbrev pub BelowHere : Cells → ℕ → KeyNode → Tree → Type 0
BelowHere cells at node t = (reading key_node_at cells at ≡ Ok node → Stands cells at t) × ((head t).name ≡ node.name)

-- a key's cells, and those of its children
key-size : (version : HiveVersion) (shared : List ℕ) (h : Head) (ts : List Tree)
    → size version shared (key h (trees ts)) ≡ head_size version shared h
    + (list_size (length ts) + sum_by (size version h.security) ts)
key-size version shared h ts =
    ap (λ (us : List Tree). head_size version shared h + list_size (length us)
    + size_of_all version h.security (trees ts)) (listed_trees ts)
    ∙ ap (λ (n : ℕ). head_size version shared h + list_size (length ts) + n) (size_of_all-trees version h.security ts)
    ∙ regrouped (head_size version shared h) (list_size (length ts)) (sum_by (size version h.security) ts)

-- the cells of a key's parts, counted one by one: the node, the class, the descriptor, the values, and what is below
pub record PartsCount (cells : Cells) (node : KeyNode) (shared descriptor : List ℕ) (n c s v b : ℕ) : Type 0 where
  pub own : n ≡ capped (cell (76 + name_bytes node.name))
  pub class : Counts (λ (bytes : List ℕ). class_of cells node ≡ Ok bytes) class_size c
  pub security : security_of cells node ≡ Ok descriptor
  pub described : s ≡ capped (security_size shared descriptor)
  pub values : Counts (λ (vs : List Item). values_of cells node ≡ Ok vs) (items_size cells.version) v
  pub below : Counts (ChildrenRead cells node)
      (λ (ts : List Tree). list_size (length ts) + sum_by (size cells.version descriptor) ts) b

-- the parts of a key and its children, counted together, are a key's bytes
pub below-counts : (cells : Cells) (at : ℕ) (node : KeyNode) (shared security : List ℕ)
    (own class descriptor values below one two three total : ℕ)
    → PartsCount cells node shared security own class descriptor values below → one ≡ capped (own + class)
    → two ≡ capped (one + descriptor) → three ≡ capped (two + values)
    → total ≡ capped (three + below) → Counts (BelowHere cells at node) (size cells.version shared) total
below-counts cells at node shared security own class descriptor values below one two three total p a b c d =
    let h : Head = record {
      name = node.name;
      flags = tree_flags node.flags;
      stamp = node.stamp;
      class = p.class.it;
      security = security;
      values = p.values.it;
    } in
    let ts = p.below.it in
    let name = cell (76 + name_bytes node.name) in
    let first : one ≡ capped (name + class_size p.class.it) =
    capped-sum name (class_size p.class.it) own class one p.own p.class.counted a in
    let second : two ≡ capped (name + class_size p.class.it + security_size shared security) =
    capped-sum (name + class_size p.class.it) (security_size shared security) one descriptor two first p.described b in
    let third : three ≡ capped (head_size cells.version shared h) =
    capped-sum (name + class_size p.class.it + security_size shared security) (items_size cells.version p.values.it)
    two values three second p.values.counted c in
    record {
      it = key h (trees ts);
      means = (
        λ read. (
          p.below.means.0,
          record {
            node = node;
            read = read;
            name = refl;
            flags = refl;
            stamp = refl;
            class = p.class.means;
            security = p.security;
            values = p.values.means;
            children = p.below.means.1;
          },
          p.below.means.2,
        ),
        refl,
      );
      counted =
          capped-sum (head_size cells.version shared h)
          (list_size (length ts) + sum_by (size cells.version security) ts)
          three below total third p.below.counted d
          ∙ ap capped (sym (key-size cells.version shared h ts));
    }

-- a key whose name is new stands here with the bytes that were counted
pub key-counts : (cells : Cells) (root : Bool) (at : ℕ) (node : KeyNode) (shared : List ℕ) (old new : List (List ℕ))
    (n : ℕ) → reading (node_at root) cells at ≡ Ok node → AddsName old new node.name
    → Counts (BelowHere cells at node) (size cells.version shared) n
    → Counts (KeyHere cells root at old new) (size cells.version shared) n
key-counts cells root at node shared old new n r a c =
    record {
      it = c.it;
      means = (
        (
          c.means.0 (node-plain root cells at node r),
          ap (names_of (λ (k : KeyNode). k.name)) r
              ∙ ap (λ (m : List ℕ). m ∷ []) (sym c.means.1),
        ),
        λ m. a m ∙ ap (λ (x : List ℕ). has_name old m || folds_same m x) (sym c.means.1),
      );
      counted = c.counted;
    }

-- ---- the whole tree

-- a walk that stopped is what `judge` answers: the first fault of the hive, or lack of memory
pub judged-err : (cells : Cells) (root : ℕ) (old new : Seen) (e : ReadStop) → old ≡ map.empty
    → Stops (walk cells old (key_checks 512 cells true [] root)) e → Judges cells root (Err e)
judged-err cells root old new stops.Memory o s = tt
judged-err cells root old new (stops.Fault f) o s = reads-root cells root old new (Err (stops.Fault f)) o s

-- and what its end is: the bulk of the tree that is at the root
pub judged-ok : (cells : Cells) (root : ℕ) (old new : Seen) (known now : List (List ℕ)) (n total : ℕ) → AreBytes cells
    → old ≡ map.empty
    → walk cells old (key_checks 512 cells true [] root) ≡ Ok new
    → Counts (KeyHere cells true root known now) (size cells.version []) n → total ≡ capped (n + 32)
    → HasBulk cells root total
judged-ok cells root old new known now n total b o w c t =
    let r = reads-root cells root old new (Ok c.it) o (w, c.means.0) in
    record {
      tree = c.it;
      stands = r.0;
      passes = r.1;
      valid = well-formed-valid cells root c.it b r.0;
      bulk =
          capped-sum (size cells.version [] c.it) 32 n 32 total c.counted refl t
          ∙ ap capped (turned (size cells.version [] c.it) 32);
    }
