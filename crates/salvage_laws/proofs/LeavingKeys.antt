-- What the walk leaves of keys, and of the whole tree.
use Rattle.std.proofs.Common.{◌≡◌, inl, inr, ℕ, zero, suc, ◌+◌, Bool, true, false, cond, List, [], ◌∷◌, ◌++◌, length, Option, Some, None, Result, Ok, Err, refl, sym, ap, subst, ◌∙◌, append_assoc, arith}
use Rattle.std.specs.Prelude.{◌==◌, ◌&&◌, not}
use Rattle.std.specs.List.{list_any}
use Rattle.std.proofs.lemmas.List.{map_push}
use Rattle.nt_bytes.specs.Folding.{folds_same}
use Rattle.nt_bytes.specs.declared.fault.HiveFaultKind.{HiveFaultKind}
use Rattle.nt_bytes.specs.declared.fault.HiveFaultKind.TheVariants.{TooDeep, FormName}
use Rattle.nt_bytes.specs.Reading.{◌>>=◌}
use Rattle.hive_model.specs.Base.{fault_at}
use Rattle.hive_model.specs.KeyNode.{KeyNode, key_node_at}
use Rattle.hive_model.specs.Tree.{Tree, key, trees, head}
use Rattle.hive_model.specs.Walk.{reading, node_at}
use Rattle.hive_read.proofs.FormFacts.{then-so}
use Rattle.salvage_bins.specs.Ground.{Ground}
use Rattle.salvage_walk.specs.declared.claims.Claim.{Claim}
use Rattle.salvage_walk.specs.declared.lines.WalkLine.{WalkLine}
use Rattle.salvage_walk.specs.declared.lines.WalkLine.TheVariants as lines
use Rattle.salvage_walk.specs.Uses.{claim_at}
use Rattle.salvage_walk.specs.Parts.{part, unless_named, node_form, node_long}
use Rattle.salvage_walk.specs.Walked.{Walked, say, using}
use Rattle.salvage_walk.specs.Steps.{class_step, security_step, values_step, entries_step}
use Rattle.salvage_walk.specs.Keys.{Judge, key_line, key_names, with_child, keys_next, head_of, key_below, key_done, judged_key, other_done, other_root, root_done, root_part, salvaged, least_root, has_root_flag}
use Rattle.salvage_laws.specs.Apart.{AreApart}
use Rattle.salvage_laws.specs.Fails.{Fails, ChildFails, too_deep, node_fails}
use Rattle.salvage_laws.specs.LeftKeys.{KeysLeft, KeyLeft, TreeLeft, RootLeft, IsSalvage, at_its_place, at_another, at_none}
use Rattle.salvage_laws.proofs.PartViews.{done, Made, Refused, absent, taken, unformed, covered, PartView, part-view}
use Rattle.salvage_laws.proofs.Grows.{security-follows, items-follow, entries-follow, FollowsBy, keys-follow, judged-follows, salvaged-follows}
use Rattle.salvage_laws.proofs.Alike.{named-so}
use Rattle.salvage_laws.proofs.Wider.{Upto, fails-upto, gained-now, made-reads}
use Rattle.salvage_laws.proofs.Leaving.{Leaves, join, nothing-more, upto-before, class-left, security-left, values-left, entries-left}

module _ (hive : Ground) (used : List Claim) where
  -- a node of this form is one of a name of its own
  node-plain : (root : Bool) (names : List (List ℕ)) (at : ℕ) (node : KeyNode) → reading (node_form root names) hive.cells at ≡ Ok node
      → (reading (node_at root) hive.cells at ≡ Ok node) × (list_any (folds_same node.name) names ≡ false)
  unfolding node_form
  node-plain root names at node e = payload (hive.cells.payload at) e
    where
      payload : (p : Result (List ℕ) HiveFaultKind)
          → (p >>= λ b. node_at root b >>= λ (n : KeyNode). unless_named names n.name n) ≡ done node
          → ((p >>= node_at root) ≡ done node) × (list_any (folds_same node.name) names ≡ false)
      payload (Ok b) e =
          let a = then-so (node_at root b) (λ (n : KeyNode). unless_named names n.name n) node e in
          let n = named-so names a.0.name a.0 node a.2 in
          (a.1 ∙ ap done n.1, ap (λ (x : KeyNode). list_any (folds_same x.name) names) (sym n.1) ∙ n.0)
      payload (Err k) e = absurd cc

  -- ---- children

  -- what remains of a child that was judged
  abbrev pub ChildLeft : ℕ → List ℕ → List (List ℕ) → List (List ℕ) → ℕ → ℕ → Walked → Option Tree × Walked → Type 0
  ChildLeft left above path names i at w (Some t, v) =
      Leaves w v (TreeLeft left hive used above path at t) × (list_any (folds_same (head t).name) names ≡ false)
  ChildLeft left above path names i at w (None, v) =
      (kind : HiveFaultKind) × ChildFails left hive used names at kind
      × (v ≡ say w (key_line path i (fault_at kind at) (reading key_node_at hive.cells at)))

  abbrev pub JudgesLeft : ℕ → Judge → Type 0
  JudgesLeft left judge =
      (above : List ℕ) (path names : List (List ℕ)) (i at : ℕ) (w : Walked) → Upto (judge above path names i at w).1.claims used
      → ChildLeft left above path names i at w (judge above path names i at w)

  -- further children with these uses and lines
  abbrev KeysMore : ℕ → List ℕ → List (List ℕ) → ℕ → List ℕ → List Tree → List Tree → List Claim → List WalkLine → Type 0
  KeysMore left above path i offsets keys all uses said =
      (more : List Tree) × (all ≡ keys ++ more)
      × KeysLeft (TreeLeft left hive used above path) left hive used path i (key_names keys) offsets more uses said

  abbrev KeysRest : ℕ → List ℕ → List (List ℕ) → ℕ → List ℕ → List Tree × Walked → List Tree × Walked → Type 0
  KeysRest left above path i offsets from last = Leaves from.1 last.1 (KeysMore left above path i offsets from.0 last.0)

  child-stands : (left : ℕ) (above : List ℕ) (path : List (List ℕ)) (i at : ℕ) (rest : List ℕ) (keys : List Tree) (w v : Walked) (t : Tree)
      (last : List Tree × Walked) → Leaves w v (TreeLeft left hive used above path at t)
      → list_any (folds_same (head t).name) (key_names keys) ≡ false
      → KeysRest left above path (i + 1) rest (keys ++ t ∷ [], v) last → KeysRest left above path i (at ∷ rest) (keys, w) last
  child-stands left above path i at rest keys w v t last s n l = record {
    uses = s.uses ++ l.uses;
    said = s.said ++ l.said;
    uses_are = join w.claims v.claims last.1.claims s.uses l.uses s.uses_are l.uses_are;
    said_is = join w.lines v.lines last.1.lines s.said l.said s.said_is l.said_is;
    means = (
      t ∷ l.means.0,
      l.means.1 ∙ append_assoc keys (t ∷ []) l.means.0,
      inl (record {
        child = t;
        child_uses = s.uses;
        child_said = s.said;
        rest_keys = l.means.0;
        rest_uses = l.uses;
        rest_said = l.said;
        keys_are = refl;
        uses_are = refl;
        said_is = refl;
        is_new = n;
        stands = s.means;
        rest = subst (λ (ns : List (List ℕ)). KeysLeft (TreeLeft left hive used above path) left hive used path (i + 1) ns rest l.means.0
            l.uses l.said) (map_push (λ u. (head u).name) keys t) l.means.2;
      }),
    );
  }

  child-fails : (left : ℕ) (above : List ℕ) (path : List (List ℕ)) (i at : ℕ) (rest : List ℕ) (keys : List Tree) (w v : Walked)
      (kind : HiveFaultKind) (last : List Tree × Walked) → ChildFails left hive used (key_names keys) at kind
      → v ≡ say w (key_line path i (fault_at kind at) (reading key_node_at hive.cells at))
      → KeysRest left above path (i + 1) rest (keys, v) last → KeysRest left above path i (at ∷ rest) (keys, w) last
  child-fails left above path i at rest keys w v kind last f e l =
      let line = key_line path i (fault_at kind at) (reading key_node_at hive.cells at) in
      record {
        uses = l.uses;
        said = line ∷ l.said;
        uses_are = l.uses_are ∙ ap (λ (x : Walked). x.claims ++ l.uses) e;
        said_is = join w.lines v.lines last.1.lines (line ∷ []) l.said (ap (λ (x : Walked). x.lines) e) l.said_is;
        means = (
          l.means.0,
          l.means.1,
          inr (record { kind = kind; rest_said = l.said; said_is = refl; fails = f; rest = l.means.2 }),
        );
      }

  keys-left : (left : ℕ) (judge : Judge) (above : List ℕ) (path : List (List ℕ)) (i : ℕ) (offsets : List ℕ) (keys : List Tree) (w : Walked)
      → JudgesLeft left judge → FollowsBy judge → Upto (keys_next judge above path i offsets keys w).1.claims used
      → KeysRest left above path i offsets (keys, w) (keys_next judge above path i offsets keys w)
  unfolding keys_next
  keys-left left judge above path i [] keys w each follow u = record {
    uses = [];
    said = [];
    uses_are = nothing-more w.claims;
    said_is = nothing-more w.lines;
    means = ([], nothing-more keys, (refl, refl, refl));
  }
  keys-left left judge above path i (at ∷ rest) keys w each follow u =
      let judged = judge above path (key_names keys) i at w in
      let next = with_child keys judged in
      by judged
      (each above path (key_names keys) i at w
      (child-upto judged (upto-before next.1 (keys_next judge above path (i + 1) rest next.0 next.1).1 used
      (keys-follow judge above path (i + 1) rest next.0 next.1 follow) u))) u
      (λ next u. keys-left left judge above path (i + 1) rest next.0 next.1 each follow u)
    where
      child-upto : (r : Option Tree × Walked) → Upto (with_child keys r).1.claims used → Upto r.1.claims used
      child-upto (Some t, v) u = u
      child-upto (None, v) u = u

      by : (r : Option Tree × Walked) → ChildLeft left above path (key_names keys) i at w r
          → Upto (keys_next judge above path (i + 1) rest (with_child keys r).0 (with_child keys r).1).1.claims used
          → ((next : List Tree × Walked) → Upto (keys_next judge above path (i + 1) rest next.0 next.1).1.claims used
          → KeysRest left above path (i + 1) rest next (keys_next judge above path (i + 1) rest next.0 next.1))
          → KeysRest left above path i (at ∷ rest) (keys, w)
          (keys_next judge above path (i + 1) rest (with_child keys r).0 (with_child keys r).1)
      by (Some t, v) c u h =
          child-stands left above path i at rest keys w v t (keys_next judge above path (i + 1) rest (keys ++ t ∷ []) v) c.0 c.1
          (h (keys ++ t ∷ [], v) u)
      by (None, v) c u h =
          child-fails left above path i at rest keys w v c.0 (keys_next judge above path (i + 1) rest keys v) c.1 c.2 (h (keys, v) u)

  -- ---- a key

  key-left : (left : ℕ) (root : Bool) (above : List ℕ) (path : KeyNode → List (List ℕ)) (node : KeyNode) (at : ℕ) (w : Walked)
      (judge : Judge) → JudgesLeft left judge → FollowsBy judge → reading (node_at root) hive.cells at ≡ Ok node
      → Upto (key_below judge hive above (path node) node at w).1.claims used
      → Leaves w (key_below judge hive above (path node) node at w).1
      (λ uses said. KeyLeft (TreeLeft left hive used) left root hive used above path at
      (key_below judge hive above (path node) node at w).0 (claim_at hive false at (node_long node) ∷ uses) said)
  unfolding key_below
  key-left left root above path node at w judge each follow read u =
      let class = class_step hive (path node) node w in
      let security = security_step hive above (path node) node class.1 in
      let values = values_step hive (path node) node security.1 in
      let entries = entries_step hive (path node) node at values.1 in
      let children = keys_next judge security.0 (path node) 1 entries.0 [] entries.1 in
      let u4 = upto-before entries.1 children.1 used (keys-follow judge security.0 (path node) 1 entries.0 [] entries.1 follow) u in
      let u3 = upto-before values.1 entries.1 used (entries-follow hive (path node) node at values.1) u4 in
      let u2 = upto-before security.1 values.1 used (items-follow hive (path node) node security.1) u3 in
      let u1 = upto-before class.1 security.1 used (security-follows hive above (path node) node class.1) u2 in
      let a = class-left hive used (path node) node w u1 in
      let b = security-left hive used above (path node) node class.1 u2 in
      let c = values-left hive used (path node) node security.1 u3 in
      let d = entries-left hive used (path node) node at values.1 u4 in
      let e = keys-left left judge security.0 (path node) 1 entries.0 [] entries.1 each follow u in
      record {
        uses = a.uses ++ (b.uses ++ (c.uses ++ (d.uses ++ e.uses)));
        said = a.said ++ (b.said ++ (c.said ++ (d.said ++ e.said)));
        uses_are = join w.claims class.1.claims children.1.claims a.uses (b.uses ++ (c.uses ++ (d.uses ++ e.uses))) a.uses_are
            (join class.1.claims security.1.claims children.1.claims b.uses (c.uses ++ (d.uses ++ e.uses)) b.uses_are
            (join security.1.claims values.1.claims children.1.claims c.uses (d.uses ++ e.uses) c.uses_are
            (join values.1.claims entries.1.claims children.1.claims d.uses e.uses d.uses_are e.uses_are)));
        said_is = join w.lines class.1.lines children.1.lines a.said (b.said ++ (c.said ++ (d.said ++ e.said))) a.said_is
            (join class.1.lines security.1.lines children.1.lines b.said (c.said ++ (d.said ++ e.said)) b.said_is
            (join security.1.lines values.1.lines children.1.lines c.said (d.said ++ e.said) c.said_is
            (join values.1.lines entries.1.lines children.1.lines d.said e.said d.said_is e.said_is)));
        means = record {
          node = node;
          h = head_of node class.0 security.0 values.0;
          keys = e.means.0;
          offsets = entries.0;
          class_uses = a.uses;
          security_uses = b.uses;
          values_uses = c.uses;
          lists_uses = d.uses;
          keys_uses = e.uses;
          class_said = a.said;
          security_said = b.said;
          values_said = c.said;
          lists_said = d.said;
          keys_said = e.said;
          read = read;
          tree = ap (λ ts. key (head_of node class.0 security.0 values.0) (trees ts)) e.means.1;
          name = refl;
          flags = refl;
          stamp = refl;
          class = a.means;
          security = b.means;
          values = c.means;
          lists = d.means;
          children = e.means.2;
          uses_are = refl {a = claim_at hive false at (node_long node) ∷ (a.uses ++ (b.uses ++ (c.uses ++ (d.uses ++ e.uses))))};
          said_is = refl {a = a.said ++ (b.said ++ (c.said ++ (d.said ++ e.said)))};
        };
      }

  -- a key whose cell was used
  cell-left : (left : ℕ) (root : Bool) (names : List (List ℕ)) (above : List ℕ) (path : KeyNode → List (List ℕ)) (at : ℕ) (w : Walked)
      (r : KeyNode × List Claim) (judge : Judge) → JudgesLeft left judge → FollowsBy judge
      → Made (node_form root names) node_long false hive w.claims at r.0 r.1
      → Upto (key_below judge hive above (path r.0) r.0 at (using w r.1)).1.claims used
      → Leaves w (key_below judge hive above (path r.0) r.0 at (using w r.1)).1
      (KeyLeft (TreeLeft left hive used) left root hive used above path at (key_below judge hive above (path r.0) r.0 at (using w r.1)).0)
  cell-left left root names above path at w r judge each follow m u =
      let last = key_below judge hive above (path r.0) r.0 at (using w r.1) in
      let read = node-plain root names at r.0 (made-reads (node_form root names) node_long false hive w.claims at r.0 r.1 m) in
      let l = key-left left root above path r.0 at (using w r.1) judge each follow read.0 u in
      record {
        uses = claim_at hive false at (node_long r.0) ∷ l.uses;
        said = l.said;
        uses_are = join w.claims r.1 last.1.claims (claim_at hive false at (node_long r.0) ∷ []) l.uses
            (gained-now hive w.claims at (node_long r.0) r.1 m.free m.gains) l.uses_are;
        said_is = l.said_is;
        means = l.means;
      }

  head-named : (judge : Judge) (above : List ℕ) (path : List (List ℕ)) (node : KeyNode) (at : ℕ) (w : Walked)
      → (head (key_below judge hive above path node at w).0).name ≡ node.name
  unfolding key_below
  head-named judge above path node at w = refl

  pub judged-left : (left : ℕ) → JudgesLeft left (judged_key left hive)
  unfolding judged_key
  judged-left zero above path names i at w u = (TooDeep, too_deep refl refl, refl)
  judged-left (suc left) above path names i at w u =
      by (judged-left left) (part (node_form false names) node_long false hive w.claims at)
      (part-view (node_form false names) node_long false hive w.claims at) u
    where
      by : JudgesLeft left (judged_key left hive) → (r : Result (KeyNode × List Claim) HiveFaultKind)
          → PartView (node_form false names) node_long false hive w.claims at r
          → Upto (key_done (judged_key left hive) hive above path i at w r).1.claims used
          → ChildLeft (suc left) above path names i at w (key_done (judged_key left hive) hive above path i at w r)
      by each (Ok r) m u =
          let read = node-plain false names at r.0 (made-reads (node_form false names) node_long false hive w.claims at r.0 r.1 m) in (
            cell-left left false names above (λ (node : KeyNode). path ++ node.name ∷ []) at w r (judged_key left hive) each
                (judged-follows left hive) m u,
            ap (λ n. list_any (folds_same n) names)
                (head-named (judged_key left hive) above (path ++ r.0.name ∷ []) r.0 at (using w r.1)) ∙ read.1,
          )
      by each (Err k) m u =
          (k, node_fails (fails-upto (node_form false names) node_long false hive w.claims used at k u m), refl)

-- ---- the root

abbrev begun : Walked
begun = record { claims = []; lines = [] }

-- a root whose cell was used
root-left : (hive : Ground) (at : ℕ) (w : Walked) (r : KeyNode × List Claim) → w.claims ≡ [] → Made (node_form true []) node_long false hive w.claims at r.0 r.1
    → Leaves w (key_below (judged_key 511 hive) hive [] [] r.0 at (using w r.1)).1
    (RootLeft hive (key_below (judged_key 511 hive) hive [] [] r.0 at (using w r.1)).1.claims at
    (key_below (judged_key 511 hive) hive [] [] r.0 at (using w r.1)).0)
root-left hive at w r e m =
    let last = key_below (judged_key 511 hive) hive [] [] r.0 at (using w r.1) in
    cell-left hive last.1.claims 511 true [] [] (λ (node : KeyNode). []) at w r (judged_key 511 hive)
    (judged-left hive last.1.claims 511) (judged-follows 511 hive) m ([], nothing-more last.1.claims)

abbrev walked : List Claim → List WalkLine → Walked
walked claims lines = record { claims = claims; lines = lines }

fails-first : (hive : Ground) (root : ℕ) (kind : HiveFaultKind) → Refused (node_form true []) node_long false hive [] root kind
    → Fails (node_form true []) node_long false hive [] root kind
fails-first hive root kind r = fails-upto (node_form true []) node_long false hive [] [] root kind ([], refl) r

-- a key node with the flag of a root can be the root
form-root : (hive : Ground) (at : ℕ) (kind : HiveFaultKind) → has_root_flag (reading key_node_at hive.cells at) ≡ true
    → Refused (node_form true []) node_long false hive [] at kind → ⊥
unfolding node_form node_at
form-root hive at kind f (absent e) =
    let k : false ≡ true = ap (λ (p : Result (List ℕ) HiveFaultKind). has_root_flag (p >>= key_node_at)) (sym e) ∙ f in absurd cc
form-root hive at kind f (taken p e c d) = absurd cc
form-root hive at kind f (unformed p e c d) =
    by (key_node_at p) (ap (λ (q : Result (List ℕ) HiveFaultKind). has_root_flag (q >>= key_node_at)) (sym e) ∙ f) d
  where
    by : (r : Result KeyNode HiveFaultKind) → has_root_flag r ≡ true
        → ((r >>= λ (node : KeyNode). cond ((length node.name == 0) && not true) (Err FormName) (Ok node)) >>= λ (node : KeyNode).
        unless_named [] node.name node) ≡ Err kind → ⊥
    by (Ok node) f d = go (length node.name == 0) d
      where
        go : (b : Bool) → (cond (b && false) (Err FormName) (Ok node) >>= λ (node : KeyNode). unless_named [] node.name node) ≡ Err kind → ⊥
        go true d = cc
        go false d = cc
    by (Err k) f d = cc
form-root hive at kind f (covered p n e c d v) = none (hive.loose at) v.over
  where
    none : (b : Bool) → (b && false) ≡ true → ⊥
    none true h = cc
    none false h = cc

least-flagged : (hive : Ground) (n from at : ℕ) → least_root hive n from ≡ Some at → has_root_flag (reading key_node_at hive.cells at) ≡ true
unfolding least_root
least-flagged hive zero from at e = absurd cc
least-flagged hive (suc n) from at e =
    go (has_root_flag (reading key_node_at hive.cells from)) refl e (λ d. least-flagged hive n (from + 8) at d)
  where
    same : (a b : ℕ) → Some a ≡ Some b → a ≡ b
    same a b e = cc

    go : (b : Bool) → has_root_flag (reading key_node_at hive.cells from) ≡ b → cond b (Some from) (least_root hive n (from + 8)) ≡ Some at
        → (least_root hive n (from + 8) ≡ Some at → has_root_flag (reading key_node_at hive.cells at) ≡ true)
        → has_root_flag (reading key_node_at hive.cells at) ≡ true
    go true f e h = ap (λ (x : ℕ). has_root_flag (reading key_node_at hive.cells x)) (sym (same from at e)) ∙ f
    go false f e h = h e

pub salvage-is : (hive : Ground) (root : ℕ) → IsSalvage hive root (salvaged hive root).0 (salvaged hive root).1
unfolding salvaged
salvage-is hive root = by (root_part hive [] root) (part-view (node_form true []) node_long false hive [] root)
  where
    other : (kind : HiveFaultKind) → Fails (node_form true []) node_long false hive [] root kind → (at : ℕ)
        → least_root hive hive.slots 0 ≡ Some at → (r : Result (KeyNode × List Claim) HiveFaultKind)
        → PartView (node_form true []) node_long false hive [] at r
        → IsSalvage hive root (other_done hive at (say begun (lines.Root (fault_at kind root))) r).0
        (other_done hive at (say begun (lines.Root (fault_at kind root))) r).1
    other kind f at e (Ok r) m =
        let told : Walked = say (say begun (lines.Root (fault_at kind root))) (lines.RootAt at) in
        let last = key_below (judged_key 511 hive) hive [] [] r.0 at (using told r.1) in
        let l = root-left hive at told r refl m in
        subst (λ (ls : List WalkLine). IsSalvage hive root (Some last.0) (walked last.1.claims ls)) (sym l.said_is)
        (at_another at kind last.0 last.1.claims l.said f e
        (subst (λ (us : List Claim). RootLeft hive last.1.claims at last.0 us l.said) (sym l.uses_are) l.means))
    other kind f at e (Err k) m = absurd (form-root hive at k (least-flagged hive hive.slots 0 at e) m)

    instead : (kind : HiveFaultKind) → Fails (node_form true []) node_long false hive [] root kind → (o : Option ℕ)
        → least_root hive hive.slots 0 ≡ o
        → IsSalvage hive root (other_root hive (say begun (lines.Root (fault_at kind root))) o).0
        (other_root hive (say begun (lines.Root (fault_at kind root))) o).1
    instead kind f (Some at) e =
        other kind f at e (root_part hive [] at) (part-view (node_form true []) node_long false hive [] at)
    instead kind f None e = at_none kind f e

    by : (r : Result (KeyNode × List Claim) HiveFaultKind) → PartView (node_form true []) node_long false hive [] root r
        → IsSalvage hive root (root_done hive root begun r).0 (root_done hive root begun r).1
    by (Ok r) m =
        let last = key_below (judged_key 511 hive) hive [] [] r.0 root (using begun r.1) in
        let l = root-left hive root begun r refl m in
        subst (λ (ls : List WalkLine). IsSalvage hive root (Some last.0) (walked last.1.claims ls)) (sym l.said_is)
        (at_its_place last.0 last.1.claims l.said
        (subst (λ (us : List Claim). RootLeft hive last.1.claims root last.0 us l.said) (sym l.uses_are) l.means))
    by (Err k) m = instead k (fails-first hive root k m) (least_root hive hive.slots 0) refl

-- ---- the uses

none-apart : AreApart []
none-apart i j d lt within = absurd (omega (arith, within))

pub salvage-apart : (hive : Ground) (root : ℕ) → AreApart (salvaged hive root).1.claims
salvage-apart hive root = (salvaged-follows hive root).used.apart none-apart
