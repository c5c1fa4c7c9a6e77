-- A key whose run was put into cells that were none, and which new lists of another key name, is a child that came.
use Rattle.std.proofs.Common.{◌≡◌, ◌≤◌, ◌<◌, ◌^◌, ℕ, ◌+◌, Bool, true, false, eqb, cond, List, [], ◌∷◌, ◌++◌, length, Result, Ok, refl, sym, ap, subst, ◌∙◌, inl, inr, ⊎_elim, arith}
use Rattle.std.specs.Prelude.{◌==◌, ◌⊎◌, Contains, min, replicate}
use Rattle.std.specs.Int.{w32, to_le_bytes}
use Rattle.std.proofs.lemmas.Bool.{eqb-true, eqb-false, ne_eqb}
use Rattle.nt_bytes.specs.declared.fault.HiveFaultKind.{HiveFaultKind}
use Rattle.nt_bytes.specs.Fields.{u32_in}
use Rattle.nt_bytes.specs.Reading.{◌>>=◌}
use Rattle.hive_model.specs.Bins.{Cells}
use Rattle.hive_model.specs.KeyNode.{KeyNode, key_node_at}
use Rattle.hive_model.specs.Security.{SecurityCell, security_at}
use Rattle.hive_model.specs.Tree.{Tree}
use Rattle.hive_model.specs.Valid.{levels}
use Rattle.hive_model.specs.Walk.{reading, nowhere, entries_at, entries_checks}
use Rattle.hive_model.specs.Footprint.{used_in, child_places, security_cell_at, list_cells_at}
use Rattle.hive_model.specs.Stands.{Stands}
use Rattle.hive_model.specs.InPlace.{count_after, IsKeptSecurity}
use Rattle.edited_cells.specs.Owned.{In, security}
use Rattle.edited_cells.specs.Framed.{IsUnheld}
use Rattle.edited_cells.specs.Pairs.{Pairwise}
use Rattle.edited_cells.specs.Uses.{Agree, Once, plain, tree_uses}
use Rattle.edited_cells.specs.Written.{with_part, three_numbers}
use Rattle.edited_cells.specs.Relists.{descriptor_at, IsSecurityCell, ChangesChildren}
use Rattle.edited_cells.specs.Lists.{HasNewChildren, InsertsChild}
use Rattle.edited_cells.proofs.Ins.{in_cases}
use Rattle.edited_cells.proofs.Pairs.{pairwise_join, pairwise_map, in_map}
use Rattle.edited_cells.proofs.Held.{are_held}
use Rattle.edited_cells.proofs.OwnedUses.{use_owned}
use Rattle.edited_cells.proofs.Same.{entries_used, entries_same}
use Rattle.edited_cells.proofs.FromLists.{children_written, inserts_child, length_more}
use Rattle.edited_cells.specs.Parents.{IsChildOf}
use Rattle.hive_edit.specs.Grafted.{SharesAt, counted_more, sharing}
use Rattle.hive_look.proofs.ResultLemmas.{done}
use Rattle.hive_look.proofs.ParentLemmas.{Keeps, IsParent, parent_held, list_no_node, list_no_security, node_no_security, list_held, security_listed, security_some, security_in_list}
use Rattle.hive_edit.proofs.PlacedLemmas.{entries_held}
use Rattle.hive_edit.proofs.GraftRuns.{IsFormed, KeepsRange, still_stands, still_named, still_uses}
use Rattle.hive_edit.proofs.SecuredLemmas.{secure_counted, secure_same, descriptor_kept, uses_in, many_come}
use Rattle.hive_edit.specs.Secured.{comers}
use Rattle.hive_read.proofs.FormFacts.{then-so}

-- From cells b the run of a key is put into cells that were none (m), new lists name it (l), and the node of the
-- key above and the security that the key shares say so (c).
pub record Grafts (b m l c : Cells) (root : ℕ) (t : Tree) (x : ℕ) (host : Tree) (n : KeyNode) (left : ℕ) (k : Tree)
    (y size sp list : ℕ) (s : List ℕ) (front back : List ℕ) : Type 0 where
  pub path : List (List ℕ)
  pub parent : IsParent b root t path x host n
  pub shares : SharesAt b root sp s
  pub formed : IsFormed m y size k sp
  pub named : IsChildOf m x y
  pub low : levels k ≤ left
  pub kept_m : Keeps b m
  pub version : c.version ≡ b.version
  pub fresh : (o : ℕ) (q : List ℕ) → y ≤ o → o < y + size → b.payload o ≡ done q → ⊥
  pub gone : List ℕ
  pub gone_is : (o : ℕ) → Contains gone o → In (list_cells_at b x) o
  pub kept_l : (o : ℕ) (q : List ℕ) → m.payload o ≡ done q → (Contains gone o → ⊥) → l.payload o ≡ done q
  pub lists : entries_at l list ≡ done (front ++ y ∷ back)
  pub unheld : (o : ℕ) → In (used_in (entries_checks l list)) o → (q : List ℕ) → m.payload o ≡ done q → ⊥
  pub once : Pairwise (λ u v. u ≡ v → ⊥) (used_in (entries_checks l list))
  pub small : list < 2 ^ 32
  pub few : n.child_count + 1 < 2 ^ 32
  pub volatile : n.volatile_count < 2 ^ 32
  pub kept_c : (o : ℕ) (q : List ℕ) → l.payload o ≡ done q → (o ≡ x → ⊥) → ((sp ≡ nowhere → ⊥) → o ≡ sp → ⊥)
      → c.payload o ≡ done q
  pub node_c : (q : List ℕ) → l.payload x ≡ done q
      → c.payload x ≡ done (with_part 20 (three_numbers (n.child_count + 1) n.volatile_count list) q)
  pub secure_c : (q : List ℕ) → (sp ≡ nowhere → ⊥) → l.payload sp ≡ done q
      → c.payload sp ≡ done (with_part 12 (to_le_bytes w32 (counted_more (sharing s k) (u32_in q 12))) q)
  pub uses_small : (q : List ℕ) → (sp ≡ nowhere → ⊥) → l.payload sp ≡ done q → u32_in q 12 < 2 ^ 32
  pub places : child_places b x ≡ front ++ back
  pub count_is : n.child_count ≡ length (front ++ back)

module _ (b m l c : Cells) (root : ℕ) (t : Tree) (x : ℕ) (host : Tree) (n : KeyNode) (left : ℕ) (k : Tree)
    (y size sp list : ℕ) (s : List ℕ) (front back : List ℕ)
    (g : Grafts b m l c root t x host n left k y size sp list s front back) where
  -- what is held and stays from m on
  stays : (o : ℕ) (q : List ℕ) → m.payload o ≡ done q → (Contains g.gone o → ⊥) → (o ≡ x → ⊥)
      → ((sp ≡ nowhere → ⊥) → o ≡ sp → ⊥)
      → c.payload o ≡ done q
  stays o q e ng nx ns = g.kept_c o q (g.kept_l o q e ng) nx ns

  secure_in : (o : ℕ) → (sp ≡ nowhere → ⊥) → o ≡ sp → In (security_listed sp) o
  secure_in o some e = subst (In (security_listed sp)) (sym e) (security_in_list sp some)

  -- a cell that was held, and is none of the step's
  rest : (o : ℕ) (q : List ℕ) → b.payload o ≡ done q → (o ≡ x → ⊥) → (In (list_cells_at b x) o → ⊥)
      → (In (security_listed sp) o → ⊥)
      → c.payload o ≡ done q
  rest o q e nx nl ns = stays o q (g.kept_m.held o q e) (λ i. nl (g.gone_is o i)) nx (λ some z. ns (secure_in o some z))

  node_there : (q : List ℕ) × (b.payload x ≡ done q) × (key_node_at q ≡ done n)
  node_there = parent_held b root t g.path x host n g.parent

  node_listed : l.payload x ≡ done node_there.0
  node_listed = g.kept_l x node_there.0 (g.kept_m.held x node_there.0 node_there.1)
      (λ i. list_no_node b root t g.path x host n g.parent (g.gone_is x i))

  -- ---- security
  secure_cell : (o : ℕ) → In (security_listed sp) o → IsSecurityCell b root o
  secure_cell o i = let e = security_some sp o i in subst (IsSecurityCell b root) e.0 (g.shares.used e.1)

  cell_held : (o : ℕ) → IsSecurityCell b root o → (q : List ℕ) × (b.payload o ≡ Ok q)
  cell_held o z = (are_held b root t g.parent.well).held z.path security o
      (record { at = z.key; reached = z.reached; has = z.uses })

  secure_held : (o : ℕ) → In (security_listed sp) o → (q : List ℕ) × (b.payload o ≡ Ok q)
  secure_held o i = cell_held o (secure_cell o i)

  secure_read : (sp ≡ nowhere → ⊥) → (z : SecurityCell) × (reading security_at b sp ≡ done z)
  secure_read some =
      let off : eqb sp nowhere ≡ false = ne_eqb sp nowhere some in
      let f : (reading security_at b sp >>= λ d. Ok d.descriptor) ≡ done s =
      sym (ap (λ (v : Bool). cond v (Ok []) (reading security_at b sp >>= λ d. Ok d.descriptor)) off)
      ∙ g.shares.descriptor in
      let z = then-so (reading security_at b sp) (λ d. Ok d.descriptor) s f in
      (z.0, z.1)

  abbrev come : List Bool
  come = replicate (sharing s k) true

  raised : (sp ≡ nowhere → ⊥) → IsKeptSecurity b c come sp
  raised some =
      let z = secure_read some in
      let q = then-so (b.payload sp) security_at z.0 z.1 in
      let u = g.shares.used some in
      let listed = g.kept_l sp q.0 (g.kept_m.held sp q.0 q.1)
      (λ j. list_no_security b root t g.path x host n u.path u.key sp g.parent u.reached u.uses (g.gone_is sp j)) in
      secure_counted b c sp (counted_more (sharing s k) (u32_in q.0 12)) q.0 come z.0 q.1 q.2
      (below (u32_in q.0 12 + sharing s k))
      (sym (many_come (sharing s k) (u32_in q.0 12) (g.uses_small q.0 some listed))
      ∙ ap (count_after come) (uses_in q.0 z.0 q.2)) (g.secure_c q.0 some listed)
    where
      below : (n : ℕ) → min n 4294967295 < 2 ^ 32
      below n = omega arith

  pub kept_secure : (o : ℕ) → IsSecurityCell b root o
      → IsKeptSecurity b c (comers (sharing s k) (security_listed sp) o) o
  kept_secure o z = go (sp == nowhere) refl (eqb sp o) refl
    where
      plain_one : (In (security_listed sp) o → ⊥) → IsKeptSecurity b c [] o
      plain_one none =
          let q = cell_held o z in
          secure_same b c root t g.parent.well o z
          (rest o q.0 q.1
          (λ e. node_no_security b root t g.path x host n z.path z.key g.parent z.reached
          (subst (In (security_cell_at b z.key)) e z.uses))
          (λ i. list_no_security b root t g.path x host n z.path z.key o g.parent z.reached z.uses i) none ∙ sym q.1)

      at_one : (w : Bool) → eqb sp o ≡ w → IsKeptSecurity b c (cond w come []) o
          → IsKeptSecurity b c (cond (eqb sp o) come []) o
      at_one w f = subst (λ (v : Bool). IsKeptSecurity b c (cond v come []) o) (sym f)

      go : (v : Bool) → (sp == nowhere) ≡ v → (w : Bool) → eqb sp o ≡ w
          → IsKeptSecurity b c (comers (sharing s k) (cond v [] (sp ∷ [])) o) o
      go true e w f = plain_one (λ i. (security_some sp o i).1 (eqb-true sp nowhere e))
      go false e true f = at_one true f (subst (IsKeptSecurity b c come) (eqb-true sp o f)
          (raised (λ x. absurd (eqb-false sp nowhere e x))))
      go false e false f = at_one false f (plain_one (λ i. eqb-false sp o f (security_some sp o i).0))

  descriptors : (o : ℕ) → IsSecurityCell b root o → descriptor_at c o ≡ descriptor_at b o
  descriptors o z = descriptor_kept b c (comers (sharing s k) (security_listed sp) o) o (kept_secure o z)

  -- ---- the range of the run
  outside : (o : ℕ) (q : List ℕ) → b.payload o ≡ done q → (z : ℕ) → y ≤ z → z < y + size → z ≡ o → ⊥
  outside o q e z low high same = g.fresh z q low high (ap b.payload same ∙ e)

  pub in_run : (o : ℕ) (q : List ℕ) → y ≤ o → o < y + size → m.payload o ≡ done q → c.payload o ≡ done q
  in_run o q low high e =
      stays o q e (λ i. let h = list_held b root t g.path x host n o g.parent (g.gone_is o i) in g.fresh o h.0 low high h.1)
      (outside x node_there.0 node_there.1 o low high)
      (λ some same. let h = secure_held o (secure_in o some same) in g.fresh o h.0 low high h.1)

  kept_descriptor : (sp ≡ nowhere → ⊥) → descriptor_at m sp ≡ descriptor_at b sp
  kept_descriptor some =
      let h = secure_held sp (security_in_list sp some) in
      ap (λ (r : Result (List ℕ) HiveFaultKind). r >>= security_at >>= λ d. Ok d.descriptor)
      (g.kept_m.held sp h.0 h.1 ∙ sym h.1)

  range : KeepsRange m c y (y + size) sp
  range = record {
    version = g.version ∙ sym g.kept_m.version;
    held = in_run;
    security = λ lt. let some : sp ≡ nowhere → ⊥ = λ e. omega (arith, e, lt) in
        descriptor_kept b c come sp (raised some) ∙ sym (kept_descriptor some);
  }

  pub stands_new : Stands c y k
  stands_new = still_stands m c y size k sp g.formed range

  uses_new : tree_uses left c y ≡ tree_uses left m y
  uses_new = still_uses m c y size k sp g.formed range left

  -- ---- the lists are as they were written
  list_same : (o : ℕ) → In (used_in (entries_checks l list)) o → c.payload o ≡ l.payload o
  list_same o i =
      let q = entries_held l list (front ++ y ∷ back) o g.lists i in
      g.kept_c o q.0 q.1 (λ e. g.unheld o i node_there.0
      (ap m.payload e ∙ g.kept_m.held x node_there.0 node_there.1))
      (λ some e. let r = secure_held o (secure_in o some e) in g.unheld o i r.0 (g.kept_m.held o r.0 r.1)) ∙ sym q.1

  list_first : In (used_in (entries_checks l list)) list
  unfolding entries_checks
  list_first = inl refl

  uses_are : used_in (entries_checks c list) ≡ used_in (entries_checks l list)
  uses_are = entries_used l c list (list_same list list_first)

  -- ---- what the new cells use
  coming : (u : ℕ × Bool) → In (plain (used_in (entries_checks l list)) ++ tree_uses left m y) u
      → IsUnheld b u.0 ⊎ ((u.1 ≡ true) × In (security_listed sp) u.0)
  coming u i = ⊎_elim from_list from_key (in_cases (plain (used_in (entries_checks l list))) (tree_uses left m y) u i)
    where
      from_list : In (plain (used_in (entries_checks l list))) u
          → IsUnheld b u.0 ⊎ ((u.1 ≡ true) × In (security_listed sp) u.0)
      from_list j =
          let w = in_map (λ (z : ℕ). (z, false)) (used_in (entries_checks l list)) u j in
          let at : w.0 ≡ u.0 = ap (λ (z : ℕ × Bool). z.0) w.2 in
          inl (λ q e. g.unheld w.0 w.1 q (g.kept_m.held w.0 q (ap b.payload at ∙ e)))

      from_key : In (tree_uses left m y) u → IsUnheld b u.0 ⊎ ((u.1 ≡ true) × In (security_listed sp) u.0)
      from_key j = ⊎_elim
          (λ (r : (y ≤ u.0) × (u.0 < y + size)). inl (λ q e. g.fresh u.0 q r.0 r.1 e))
          (λ (r : (u.1 ≡ true) × (u.0 ≡ sp) × (sp < nowhere)). let lt = r.2 in
          inr (r.0, secure_in u.0 (λ e. omega (arith, e, lt)) r.1))
          (g.formed.uses left u.0 u.1 g.low j)

  tree_held : (u : ℕ × Bool) → In (tree_uses left m y) u → (q : List ℕ) × (m.payload u.0 ≡ Ok q)
  tree_held u i =
      let w = use_owned left m y u i in
      (are_held m y k g.formed.well).held w.path w.role u.0 w.owns

  each_once : Once (plain (used_in (entries_checks l list)) ++ tree_uses left m y)
  each_once = pairwise_join Agree (plain (used_in (entries_checks l list))) (tree_uses left m y) (record {
    left = pairwise_map (λ u v. u ≡ v → ⊥) Agree (λ (o : ℕ). (o, false)) (used_in (entries_checks l list))
        (λ u v i j differ e. absurd (differ e)) g.once;
    right = g.formed.once left g.low;
    across = λ u v i j e.
        let w = in_map (λ (z : ℕ). (z, false)) (used_in (entries_checks l list)) u i in
        let q = tree_held v j in
        absurd (g.unheld w.0 w.1 q.0 (ap m.payload (ap (λ (z : ℕ × Bool). z.0) w.2 ∙ e) ∙ q.1));
  })

  -- ---- the child came
  noted : HasNewChildren (with_part 20 (three_numbers (n.child_count + 1) n.volatile_count list) node_there.0) n
      (length (front ++ y ∷ back)) list
  noted =
      let count : n.child_count + 1 ≡ length (front ++ y ∷ back) = let e = g.count_is in let f =
      length_more front y back in omega (arith, e, f) in
      subst (λ (z : ℕ). HasNewChildren (with_part 20 (three_numbers (n.child_count + 1) n.volatile_count list) node_there.0)
      n z list) count
      (children_written node_there.0 n (n.child_count + 1) list node_there.2 g.few g.small g.volatile)

  all_uses : plain (used_in (entries_checks c list)) ++ tree_uses left c y ≡ plain (used_in (entries_checks l list))
      ++ tree_uses left m y
  all_uses =
      ap (λ (x : List ℕ). plain x ++ tree_uses left c y) uses_are
      ∙ ap (λ (z : List (ℕ × Bool)). plain (used_in (entries_checks l list)) ++ z) uses_new

  inserted : InsertsChild b c root x left n front back y
      (with_part 20 (three_numbers (n.child_count + 1) n.volatile_count list) node_there.0) list (security_listed sp)
  inserted = record {
    version = g.version;
    there = g.node_c node_there.0 node_listed;
    node = noted;
    lists = entries_same l c list list_same ∙ g.lists;
    others = λ o r e nx nl ns. rest o r e nx nl ns;
    counted_are = secure_cell;
    security = descriptors;
    fresh = λ u i. coming u (subst (λ (x : List (ℕ × Bool)). In x u) all_uses i);
    once = subst Once (sym all_uses) each_once;
    named = still_named m c y size k sp g.formed range x g.named;
  }

  pub changes : ChangesChildren b c root x left front [] (y ∷ []) back (security_listed sp)
  changes =
      inserts_child b c root x left n front back y
      (with_part 20 (three_numbers (n.child_count + 1) n.volatile_count list) node_there.0) list (security_listed sp)
      g.parent.read g.places inserted
