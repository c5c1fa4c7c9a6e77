-- A key that is to get a child: its lists and its security are cells of their own, and all that is held stays where
-- cells are kept.
use Rattle.std.proofs.Common.{◌≡◌, ℕ, Bool, true, false, cond, List, [], ◌∷◌, ◌++◌, Result, Ok, refl, sym, ap, subst, ◌∙◌, inl, inr}
use Rattle.std.specs.Prelude.{◌==◌, if◌then◌else◌}
use Rattle.nt_bytes.specs.declared.fault.HiveFaultKind.{HiveFaultKind}
use Rattle.nt_bytes.specs.Reading.{◌>>=◌}
use Rattle.hive_model.specs.Bins.{Cells}
use Rattle.hive_model.specs.KeyNode.{KeyNode, key_node_at}
use Rattle.hive_model.specs.Security.{SecurityCell, security_at}
use Rattle.hive_model.specs.Tree.{Tree, key, head}
use Rattle.hive_model.specs.Walk.{reading, nowhere, entries_at, entries_checks, security_checks, use_as}
use Rattle.hive_model.specs.Footprint.{of_read, used_in, child_places, security_cell_at, list_cells_at}
use Rattle.hive_model.specs.Stands.{Stands, security_of, IsWellFormed}
use Rattle.edited_cells.specs.Owned.{Role, node, class, security, value_list, value, lists, In, node_name, Reaches, HasRole, IsSecurity, class_cell_at}
use Rattle.edited_cells.specs.Revalues.{all_value_cells}
use Rattle.edited_cells.specs.Uses.{Agree, Once, plain, secure, own_uses}
use Rattle.edited_cells.proofs.Pairs.{InParts, pairwise_parts, pairwise_to}
use Rattle.edited_cells.proofs.Out.{of_node_is}
use Rattle.edited_cells.proofs.Untouched.{are_once}
use Rattle.edited_cells.proofs.Apart.{IsOne}
use Rattle.edited_cells.proofs.Held.{are_held}
use Rattle.edited_cells.proofs.Same.{same_name}
use Rattle.edited_cells.proofs.SameTree.{IsSameKey, tree_same, uses_same, places_kept}
use Rattle.edited_cells.proofs.Around.{hive_once, once_hive}
use Rattle.edited_cells.proofs.ChangedValues.{own_once, plain_differ}
use Rattle.key_index.specs.Lists.{children_at, lists_at, ListsSiblings}
use Rattle.key_index.specs.Relists.{AreApart}
use Rattle.key_index.proofs.Meeting.{siblings_stand}
use Rattle.hive_look.proofs.ResultLemmas.{done, ok_same}
use Rattle.hive_read.proofs.FormFacts.{then-so}

-- ---- cells that are held stay

-- each cell that is held in the one is held so in the other
pub record Keeps (b c : Cells) : Type 0 where
  pub version : c.version ≡ b.version
  pub held : (o : ℕ) (q : List ℕ) → b.payload o ≡ done q → c.payload o ≡ done q

pub kept_key : (b c : Cells) (root : ℕ) (t : Tree) (p : List (List ℕ)) (x : ℕ) → IsWellFormed b root t → Keeps b c
    → Reaches b root p x → IsSameKey b c x
kept_key b c root t p x w k h = record {
  same = record { version = k.version; each = λ r o not_secure has. same r o has };
  security = λ o i. ap (λ (r : Result (List ℕ) HiveFaultKind). r >>= security_at >>= λ s. Ok s.descriptor)
      (same security o i);
}
  where
    same : (r : Role) (o : ℕ) → HasRole b x r o → c.payload o ≡ b.payload o
    same r o has =
        let q = (are_held b root t w).held p r o (record { at = x; reached = h; has = has }) in
        k.held o q.0 q.1 ∙ sym q.1

-- so a tree stands where it stood
pub kept_well : (b c : Cells) (root : ℕ) (t : Tree) → IsWellFormed b root t → Keeps b c → IsWellFormed c root t
kept_well b c root t w k = record {
  stands = stands;
  levels = w.levels;
  names = w.names;
  once = once_hive c root t stands w.names
      (subst Once (sym (uses_same 512 b c root each)) (hive_once b root t w.stands w.names w.once));
}
  where
    each : (p : List (List ℕ)) (x : ℕ) → Reaches b root p x → IsSameKey b c x
    each p x h = kept_key b c root t p x w k h

    stands : Stands c root t
    stands = tree_same b c root t w.stands each

reach_kept : (b c : Cells) (at : ℕ) (p : List (List ℕ)) (x : ℕ)
    → ((q : List (List ℕ)) (z : ℕ) → Reaches b at q z → IsSameKey b c z) → Reaches b at p x → Reaches c at p x
reach_kept b c at [] x each h = h
reach_kept b c at (m ∷ p) x each h = (
  h.0,
  subst (λ (l : List ℕ). In l h.0) (sym (places_kept b c at (each [] at refl).same)) h.1,
  same_name b c h.0 ((each (node_name b h.0 ∷ []) h.0 (h.0, h.1, refl, refl)).same.each node h.0 (λ z. z) refl) ∙ h.2,
  reach_kept b c h.0 p x (λ q z r. each (node_name b h.0 ∷ q) z (h.0, h.1, refl, r)) h.3,
)

-- ---- a parent

-- a key of a well-formed tree, with its node
pub record IsParent (b : Cells) (root : ℕ) (t : Tree) (p : List (List ℕ)) (x : ℕ) (k : Tree)
    (n : KeyNode) : Type 0 where
  pub well : IsWellFormed b root t
  pub reached : Reaches b root p x
  pub below : IsWellFormed b x k
  pub read : reading key_node_at b x ≡ done n

pub kept_parent : (b c : Cells) (root : ℕ) (t : Tree) (p : List (List ℕ)) (x : ℕ) (k : Tree) (n : KeyNode)
    → IsParent b root t p x k n → Keeps b c → IsParent c root t p x k n
kept_parent b c root t p x k n h keeps = record {
  well = kept_well b c root t h.well keeps;
  reached = reach_kept b c root p x (λ q z r. kept_key b c root t q z h.well keeps r) h.reached;
  below = kept_well b c x k h.below keeps;
  read =
      let r = then-so (b.payload x) key_node_at n h.read in
      ap (λ (q : Result (List ℕ) HiveFaultKind). q >>= key_node_at) (keeps.held x r.0 r.1) ∙ r.2;
}

pub parent_held : (b : Cells) (root : ℕ) (t : Tree) (p : List (List ℕ)) (x : ℕ) (k : Tree) (n : KeyNode)
    → IsParent b root t p x k n → (q : List ℕ) × (b.payload x ≡ done q) × (key_node_at q ≡ done n)
parent_held b root t p x k n h = then-so (b.payload x) key_node_at n h.read

-- ---- its lists

pub lists_are : (b : Cells) (root : ℕ) (t : Tree) (p : List (List ℕ)) (x : ℕ) (k : Tree) (n : KeyNode)
    → IsParent b root t p x k n
    → lists_at b n.child_list n.child_count ≡ list_cells_at b x
unfolding lists_at list_cells_at
lists_are b root t p x k n h =
    sym (of_node_is b x n (λ m. if m.child_count == 0 then [] else used_in (entries_checks b m.child_list)) h.read)

pub children_are : (b : Cells) (root : ℕ) (t : Tree) (p : List (List ℕ)) (x : ℕ) (k : Tree) (n : KeyNode)
    → IsParent b root t p x k n
    → children_at b n.child_list n.child_count ≡ child_places b x
unfolding child_places
children_are b root t p x k n h =
    sym (of_node_is b x n (λ m. if m.child_count == 0 then [] else of_read (entries_at b m.child_list) (λ os. os))
    h.read)

pub siblings_are : (b : Cells) (root : ℕ) (t : Tree) (p : List (List ℕ)) (x : ℕ) (k : Tree) (n : KeyNode)
    → IsParent b root t p x k n
    → ListsSiblings b n.child_list n.child_count
siblings_are b root t p x k n h = siblings_stand b x k n h.below.stands h.below.names h.read

pub lists_apart : (b : Cells) (root : ℕ) (t : Tree) (p : List (List ℕ)) (x : ℕ) (k : Tree) (n : KeyNode)
    → IsParent b root t p x k n
    → AreApart (lists_at b n.child_list n.child_count)
lists_apart b root t p x k n h = subst AreApart (sym (lists_are b root t p x k n h))
    (pairwise_to (λ a c. a ≡ c → ⊥) (list_cells_at b x) (plain_differ (list_cells_at b x) three.right))
  where
    whole : Once (own_uses b x)
    whole = own_once b root t p x h.well h.reached

    one : InParts Agree (plain (class_cell_at b x))
        (secure (security_cell_at b x) ++ (plain (all_value_cells b x) ++ plain (list_cells_at b x)))
    one = pairwise_parts Agree (plain (class_cell_at b x))
        (secure (security_cell_at b x) ++ (plain (all_value_cells b x) ++ plain (list_cells_at b x))) whole.1

    two : InParts Agree (secure (security_cell_at b x)) (plain (all_value_cells b x) ++ plain (list_cells_at b x))
    two = pairwise_parts Agree (secure (security_cell_at b x))
        (plain (all_value_cells b x) ++ plain (list_cells_at b x)) one.right

    three : InParts Agree (plain (all_value_cells b x)) (plain (list_cells_at b x))
    three = pairwise_parts Agree (plain (all_value_cells b x)) (plain (list_cells_at b x)) two.right

-- ---- whose cell is whose

not_one : (p q : List (List ℕ)) (r s : Role) → (r ≡ s → ⊥) → (IsSecurity r → IsSecurity s → ⊥) → IsOne p r q s → ⊥
not_one p q r s differ both (inl e) = differ e.1
not_one p q r s differ both (inr e) = both e.0 e.1

abbrev pub role_code : Role → ℕ
role_code node = 0
role_code class = 1
role_code security = 2
role_code value_list = 3
role_code (value m) = 4
role_code lists = 5

-- a list of the parent is no node, and no cell of security of any key
pub list_no_node : (b : Cells) (root : ℕ) (t : Tree) (p : List (List ℕ)) (x : ℕ) (k : Tree) (n : KeyNode)
    → IsParent b root t p x k n
    → In (list_cells_at b x) x → ⊥
list_no_node b root t p x k n h i =
    not_one p p lists node (λ e. let d : 5 ≡ 0 = ap role_code e in cc) (λ a c. a)
    ((are_once b root t h.well).one p p lists node x (record { at = x; reached = h.reached; has = i })
    (record { at = x; reached = h.reached; has = refl }))

pub list_no_security : (b : Cells) (root : ℕ) (t : Tree) (p : List (List ℕ)) (x : ℕ) (k : Tree) (n : KeyNode)
    (q : List (List ℕ)) (z o : ℕ) → IsParent b root t p x k n
    → Reaches b root q z → In (security_cell_at b z) o → In (list_cells_at b x) o → ⊥
list_no_security b root t p x k n q z o h r s i =
    not_one p q lists security (λ e. let d : 5 ≡ 2 = ap role_code e in cc) (λ a c. a)
    ((are_once b root t h.well).one p q lists security o (record { at = x; reached = h.reached; has = i })
    (record { at = z; reached = r; has = s }))

pub node_no_security : (b : Cells) (root : ℕ) (t : Tree) (p : List (List ℕ)) (x : ℕ) (k : Tree) (n : KeyNode)
    (q : List (List ℕ)) (z : ℕ) → IsParent b root t p x k n
    → Reaches b root q z → In (security_cell_at b z) x → ⊥
node_no_security b root t p x k n q z h r s =
    not_one p q node security (λ e. let d : 0 ≡ 2 = ap role_code e in cc) (λ a c. a)
    ((are_once b root t h.well).one p q node security x (record { at = x; reached = h.reached; has = refl })
    (record { at = z; reached = r; has = s }))

pub list_held : (b : Cells) (root : ℕ) (t : Tree) (p : List (List ℕ)) (x : ℕ) (k : Tree) (n : KeyNode) (o : ℕ)
    → IsParent b root t p x k n
    → In (list_cells_at b x) o → (q : List ℕ) × (b.payload o ≡ Ok q)
list_held b root t p x k n o h i =
    (are_held b root t h.well).held p lists o (record { at = x; reached = h.reached; has = i })

-- where all that is held stays, so do its node and its lists
pub node_kept : (b m : Cells) (root : ℕ) (t : Tree) (p : List (List ℕ)) (x : ℕ) (k : Tree) (n : KeyNode)
    → IsParent b root t p x k n → Keeps b m → m.payload x ≡ b.payload x
node_kept b m root t p x k n h keeps = let q = parent_held b root t p x k n h in keeps.held x q.0 q.1 ∙ sym q.1

pub list_kept : (b m : Cells) (root : ℕ) (t : Tree) (p : List (List ℕ)) (x : ℕ) (k : Tree) (n : KeyNode)
    → IsParent b root t p x k n → Keeps b m
    → (o : ℕ) → In (list_cells_at b x) o → m.payload o ≡ b.payload o
list_kept b m root t p x k n h keeps o i = let q = list_held b root t p x k n o h i in keeps.held o q.0 q.1 ∙ sym q.1

-- ---- its security

-- the cell of its security, if there is one
abbrev pub security_listed : ℕ → List ℕ
security_listed at = if at == nowhere then [] else at ∷ []

pub security_at_node : (b : Cells) (x : ℕ) (n : KeyNode) → reading key_node_at b x ≡ done n
    → security_cell_at b x ≡ security_listed n.security
unfolding security_cell_at security_checks
security_at_node b x n read = of_node_is b x n (λ m. used_in (security_checks b m)) read ∙ go (n.security == nowhere)
  where
    go : (e : Bool) → used_in (cond e [] (use_as true security_at b n.security)) ≡ cond e [] (n.security ∷ [])
    go true = refl
    go false = refl

pub security_some : (at o : ℕ) → In (security_listed at) o → (at ≡ o) × (at ≡ nowhere → ⊥)
security_some at o i = go (at == nowhere) refl i
  where
    go : (e : Bool) → (at == nowhere) ≡ e → In (cond e [] (at ∷ [])) o → (at ≡ o) × (at ≡ nowhere → ⊥)
    go true e i = absurd i
    go false e (inl same) = (same, λ z. absurd (Rattle.std.proofs.lemmas.Bool.eqb-false at nowhere e z))
    go false e (inr i) = absurd i

pub security_in_list : (at : ℕ) → (at ≡ nowhere → ⊥) → In (security_listed at) at
security_in_list at some = go (at == nowhere) refl
  where
    go : (e : Bool) → (at == nowhere) ≡ e → In (cond e [] (at ∷ [])) at
    go true e = absurd (some (Rattle.std.proofs.lemmas.Bool.eqb-true at nowhere e))
    go false e = inl refl

pub security_there : (b : Cells) (x : ℕ) (n : KeyNode) → reading key_node_at b x ≡ done n → (n.security ≡ nowhere → ⊥)
    → In (security_cell_at b x) n.security
security_there b x n read some =
    subst (λ (l : List ℕ). In l n.security) (sym (security_at_node b x n read)) (security_in_list n.security some)

-- what a key's node says, and what it stands for
pub record NodeStands (b : Cells) (x : ℕ) (k : Tree) (n : KeyNode) : Type 0 where
  pub stamp : (head k).stamp ≡ n.stamp
  pub security : security_of b n ≡ done (head k).security

pub node_stands : (b : Cells) (x : ℕ) (k : Tree) (n : KeyNode) → Stands b x k → reading key_node_at b x ≡ done n
    → NodeStands b x k n
node_stands b x (key h ts) n s read =
    let same : s.1.node ≡ n = ok_same s.1.node n (sym s.1.read ∙ read) in
    record {
      stamp = s.1.stamp ∙ ap (λ (m : KeyNode). m.stamp) same;
      security = ap (security_of b) (sym same) ∙ s.1.security;
    }

pub security_read : (b : Cells) (n : KeyNode) (d : List ℕ) → security_of b n ≡ done d → (n.security ≡ nowhere → ⊥)
    → (s : SecurityCell) × (reading security_at b n.security ≡ done s)
unfolding security_of
security_read b n d e some =
    let off : (n.security == nowhere) ≡ false = Rattle.std.proofs.lemmas.Bool.ne_eqb n.security nowhere some in
    let f : (reading security_at b n.security >>= λ s. Ok s.descriptor) ≡ done d =
    sym (ap (λ (v : Bool). cond v (Ok []) (reading security_at b n.security >>= λ s. Ok s.descriptor)) off) ∙ e in
    let s = then-so (reading security_at b n.security) (λ z. Ok z.descriptor) d f in
    (s.0, s.1)
