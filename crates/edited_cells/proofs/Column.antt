-- What stays of a key of which one column changes, its values or its children.
use Rattle.std.proofs.Common.{◌≡◌, ℕ, suc, ◌+◌, ◌<◌, ◌≤◌, Bool, true, false, cond, List, [], ◌∷◌, ◌++◌, length, refl, sym, ◌∙◌, ap, subst, inr, ⊎_elim, Result, Ok, arith}
use Rattle.std.specs.Prelude.{◌==◌}
use Rattle.nt_bytes.specs.declared.fault.HiveFaultKind.{HiveFaultKind}
use Rattle.nt_bytes.specs.Reading.{◌>>=◌}
use Rattle.hive_model.specs.Bins.{Cells}
use Rattle.hive_model.specs.Forms.{bytes_in}
use Rattle.hive_model.specs.KeyNode.{KeyNode, key_node_at}
use Rattle.hive_model.specs.Security.{security_at}
use Rattle.hive_model.specs.Tree.{Tree, Head, Item}
use Rattle.hive_model.specs.Valid.{levels}
use Rattle.hive_model.specs.Walk.{reading, nowhere, names_of}
use Rattle.hive_model.specs.Footprint.{child_places}
use Rattle.hive_model.specs.Stands.{tree_flags, class_of, security_of, values_of, ListsChildren, KeyStands, Stands, IsWellFormed}
use Rattle.edited_cells.specs.Owned.{Role, node, In, node_name, class_cell_at, Reaches, Owns, first_or_empty}
use Rattle.edited_cells.specs.Uses.{Agree, Once, tree_uses}
use Rattle.edited_cells.specs.Relists.{IsSecurityCell, descriptor_at}
use Rattle.edited_cells.proofs.Ins.{in_left, in_right}
use Rattle.edited_cells.proofs.Pairs.{pairwise_parts}
use Rattle.edited_cells.proofs.Wellformed.{sound_hive, standing}
use Rattle.edited_cells.proofs.One.{one_stands}
use Rattle.edited_cells.proofs.Same.{same_name}
use Rattle.edited_cells.proofs.Relisted.{IsNodeKept}
use Rattle.edited_cells.proofs.SameTree.{IsSameKey, class_is, security_is, class_of_same, security_of_same}
use Rattle.edited_cells.proofs.Around.{IsSwapped, above_is, around, once_two, hive_uses, hive_once, used_held}
use Rattle.edited_cells.proofs.Revalued.{reach_on, one_node}
use Rattle.edited_cells.proofs.ChangedValues.{path_itself, same_itself}
use Rattle.edited_cells.specs.Woven.{Woven}
use Rattle.edited_cells.specs.Rewrites.{is_secure}
use Rattle.edited_cells.proofs.Weaving.{AreOnceBoth, woven_parts, woven_kept}
use Rattle.edited_cells.proofs.OwnedUses.{plain_is, owned_use, secure_there}
use Rattle.edited_cells.proofs.Rewritten.{owned_same}

-- Of the uses of the key at x and the keys below it some gave way (old), and its node and the rest are kept: outside of its node, of the
-- old ones and of what of security is counted again, cells are the same.
pub record IsColumn (b c : Cells) (root : ℕ) (t : Tree) (p : List (List ℕ)) (x left : ℕ) (old rest : List (ℕ × Bool))
    (counted : List ℕ) : Type 0 where
  pub well : IsWellFormed b root t
  pub reached : Reaches b root p x
  pub deep : length p + suc left ≡ 512
  pub version : c.version ≡ b.version
  pub was : Woven (tree_uses (suc left) b x) old ((x, false) ∷ rest)
  pub others : (o : ℕ) (q : List ℕ) → b.payload o ≡ Ok q → (o ≡ x → ⊥) → ((s : Bool) → In old (o, s) → ⊥)
      → (In counted o → ⊥) → c.payload o ≡ Ok q
  pub counted_are : (o : ℕ) → In counted o → IsSecurityCell b root o
  pub security_same : (o : ℕ) → IsSecurityCell b root o → descriptor_at c o ≡ descriptor_at b o

as_class : (c : Cells) (old new : KeyNode) → new.class_length ≡ old.class_length → new.class ≡ old.class
    → class_of c new ≡ class_of c old
unfolding class_of
as_class c old new long there =
    ap (λ (n : ℕ). cond (n == 0) (Ok []) (reading (bytes_in n) c new.class)) long
    ∙ ap (λ (o : ℕ). cond (old.class_length == 0) (Ok []) (reading (bytes_in old.class_length) c o)) there

as_security : (c : Cells) (old new : KeyNode) → new.security ≡ old.security → security_of c new ≡ security_of c old
unfolding security_of
as_security c old new there =
    ap (λ (o : ℕ). cond (o == nowhere) (Ok []) (reading security_at c o >>= λ d. Ok d.descriptor)) there

-- the node keeps its name
pub name_kept : (b c : Cells) (x : ℕ) (n : IsNodeKept b c x) → n.new.name ≡ n.old.name → node_name c x ≡ node_name b x
name_kept b c x n e =
    ap (λ (r : Result KeyNode HiveFaultKind). first_or_empty (names_of (λ (m : KeyNode). m.name) r)) n.read_new
    ∙ ap (λ (m : List ℕ). first_or_empty (m ∷ [])) e
    ∙ sym (ap (λ (r : Result KeyNode HiveFaultKind). first_or_empty (names_of (λ (m : KeyNode). m.name) r)) n.read)

module _ (b c : Cells) (root : ℕ) (t : Tree) (p : List (List ℕ)) (x left : ℕ) (old rest : List (ℕ × Bool))
    (counted : List ℕ) (i : IsColumn b c root t p x left old rest counted) where
  all_once : Once (hive_uses b root)
  all_once = hive_once b root t i.well.stands i.well.names i.well.once

  inside : IsSwapped (hive_uses b root) (hive_uses b root) (tree_uses (suc left) b x) (tree_uses (suc left) b x)
  inside =
      subst (λ (n : ℕ). IsSwapped (tree_uses n b root) (tree_uses n b root) (tree_uses (suc left) b x)
      (tree_uses (suc left) b x)) (above_is p (suc left) ∙ i.deep)
      (around b b p p (suc left) root x t i.well.stands i.well.names (path_itself p) i.reached
      (λ q z r out. same_itself b z))

  below_in : (u : ℕ × Bool) → In (tree_uses (suc left) b x) u → In (hive_uses b root) u
  below_in u j = subst (λ (l : List (ℕ × Bool)). In l u) (sym inside.was)
      (in_right inside.before (tree_uses (suc left) b x ++ inside.behind) u
      (in_left (tree_uses (suc left) b x) inside.behind u j))

  below_once : Once (tree_uses (suc left) b x)
  below_once = (pairwise_parts Agree (tree_uses (suc left) b x) inside.behind
      (pairwise_parts Agree inside.before (tree_uses (suc left) b x ++ inside.behind)
      (subst Once inside.was all_once)).right).left

  parts : AreOnceBoth old ((x, false) ∷ rest)
  parts = woven_parts (tree_uses (suc left) b x) old ((x, false) ∷ rest) i.was below_once

  in_hive : (u : ℕ × Bool) → In rest u → In (hive_uses b root) u
  in_hive u j = below_in u (woven_kept (tree_uses (suc left) b x) old ((x, false) ∷ rest) i.was u (inr j))

  never : (P : Type 0) → false ≡ true → P
  never P e = absurd cc

  -- what is kept, and not as security, is the same
  pub stays : (o : ℕ) → In rest (o, false) → c.payload o ≡ b.payload o
  stays o j =
      let q = used_held b root t i.well (o, false) (in_hive (o, false) j) in
      i.others o q.0 q.1
      (λ e. never ⊥ (parts.second.0 (o, false) j (sym e)).0)
      (λ s k. never ⊥ (parts.across (o, s) (o, false) k (inr j) refl).1)
      (λ k. ⊎_elim (λ (e : (o, true) ≡ (o, false)). never ⊥ (sym (ap (λ (z : ℕ × Bool). z.1) e)))
      (λ (e : (true ≡ true) × (false ≡ true)). never ⊥ e.1)
      (once_two (hive_uses b root) (o, true) (o, false) all_once (secure_there b root t o i.well (i.counted_are o k))
      (in_hive (o, false) j) refl))
      ∙ sym q.1

  -- a child all of whose uses are kept is the same, with all below it
  pub child_same : (y : ℕ) → In (child_places b x) y → ((u : ℕ × Bool) → In (tree_uses left b y) u → In rest u)
      → (q : List (List ℕ)) (z : ℕ) → Reaches b y q z → IsSameKey b c z
  child_same y listed kept q z r = record {
    same = record {
      version = i.version;
      each = λ s o plain_role h. stays o
          (subst (λ (w : Bool). In rest (o, w)) (plain_is s plain_role)
          (kept (o, is_secure s) (owned_use left b q y s o short (record { at = z; reached = r; has = h }))));
    };
    security = λ o h. i.security_same o
        (record { path = p ++ node_name b y ∷ q; key = z; reached = through; uses = h });
  }
    where
      through : Reaches b root (p ++ node_name b y ∷ q) z
      through = reach_on b p (node_name b y ∷ q) root x z i.reached (y, listed, refl, r)

      length_on : (p : List (List ℕ)) (m : List ℕ) (q : List (List ℕ))
          → length (p ++ m ∷ q) ≡ length p + suc (length q)
      length_on [] m q = omega arith
      length_on (n ∷ p) m q = let l = length_on p m q in omega (arith, l)

      short : length q < left
      short =
          let s = (sound_hive b root t i.well).shallow (p ++ node_name b y ∷ q) z through in
          let l = length_on p (node_name b y) q in let d = i.deep in omega (arith, s, l, d)

  -- what it owns then it owned
  pub child_owned : (y : ℕ) → In (child_places b x) y → ((u : ℕ × Bool) → In (tree_uses left b y) u → In rest u)
      → (m : List ℕ) (q : List (List ℕ)) (r : Role) (o : ℕ) → node_name c y ≡ m → Owns c y q r o
      → Owns b x (m ∷ q) r o
  child_owned y listed kept m q r o e own =
      let w = owned_same b c q y r o (child_same y listed kept) own in
      record {
        at = w.at;
        reached = (
          y,
          listed,
          sym (same_name b c y ((child_same y listed kept [] y refl).same.each node y (λ z. z) refl)) ∙ e,
          w.reached,
        );
        has = w.has;
      }

  pub low_there : (k : Tree) → Stands b x k → levels k ≤ suc left
  low_there k s =
      let d = standing b p root x t i.well.stands i.well.names i.reached in
      let same : levels d.tree ≡ levels k = ap levels (one_stands b x d.tree k d.stands s) in
      let l = d.low in let w = i.well.levels in let e = i.deep in omega (arith, same, l, w, e)

  module _ (n : IsNodeKept b c x) (in_class : (o : ℕ) → In (class_cell_at b x) o → In rest (o, false)) where
    class_there : class_of c n.new ≡ class_of b n.old
    class_there =
        as_class c n.old n.new n.class_length n.class
        ∙ class_of_same b c n.old (λ some. stays n.old.class (in_class n.old.class (class_is b x n.old n.read some)))

    security_there : security_of c n.new ≡ security_of b n.old
    security_there =
        as_security c n.old n.new n.security
        ∙ security_of_same b c n.old (λ some. i.security_same n.old.security
        (record { path = p; key = x; reached = i.reached; uses = security_is b x n.old n.read some }))

    -- the key stands, with its values and its children as they are then
    pub key_stands : (hd : Head) (before after : List ℕ) (items : List Item) → KeyStands b x hd before
        → n.new.name ≡ n.old.name → n.new.flags ≡ n.old.flags → n.new.stamp ≡ n.old.stamp
        → values_of c n.new ≡ Ok items → ListsChildren c n.new after
        → KeyStands c x (record hd { values = items }) after
    key_stands hd before after items k name flags stamp values children =
        let same : k.node ≡ n.old = one_node (reading key_node_at b x) k.node n.old k.read n.read in
        record {
          node = n.new;
          read = n.read_new;
          name = k.name ∙ ap (λ (m : KeyNode). m.name) same ∙ sym name;
          flags = k.flags ∙ ap (λ (m : KeyNode). tree_flags m.flags) same ∙ ap tree_flags (sym flags);
          stamp = k.stamp ∙ ap (λ (m : KeyNode). m.stamp) same ∙ sym stamp;
          class = class_there ∙ subst (λ (m : KeyNode). class_of b m ≡ Ok hd.class) same k.class;
          security = security_there ∙ subst (λ (m : KeyNode). security_of b m ≡ Ok hd.security) same k.security;
          values = values;
          children = children;
        }
