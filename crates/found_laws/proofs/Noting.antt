-- Each key that is noted as incomplete is where its path leads, and its node is at its place.
use Rattle.std.proofs.Common.{◌≡◌, ℕ, zero, suc, ◌+◌, Bool, true, false, cond, List, [], ◌∷◌, ◌++◌, length, Option, Some, None, Result, Ok, Err, refl, sym, ap, subst, ◌∙◌, append_assoc, append-nil}
use Rattle.std.specs.Prelude.{◌==◌, ◌&&◌, ◌||◌, not, is_some, find, option_and_then}
use Rattle.std.specs.List.{list_any}
use Rattle.std.specs.Option.{option_or}
use Rattle.std.proofs.lemmas.Bool.{or_parts}
use Rattle.std.proofs.lemmas.List.Folds.{find-append}
use Rattle.nt_bytes.specs.Folding.{folds_same}
use Rattle.nt_bytes.specs.declared.fault.HiveFaultKind.{HiveFaultKind}
use Rattle.nt_bytes.specs.declared.fault.HiveFaultKind.TheVariants.{FormName}
use Rattle.nt_bytes.specs.Reading.{◌>>=◌}
use Rattle.hive_model.specs.Base.{fault_at}
use Rattle.hive_model.specs.KeyNode.{KeyNode, key_node_at}
use Rattle.hive_model.specs.Tree.{Head, Tree, key, trees, head, is_named, find_key}
use Rattle.hive_model.specs.Walk.{reading, node_at}
use Rattle.hive_read.proofs.FormFacts.{then-so, unless}
use Rattle.reg_tree.proofs.Trees.{listed_trees}
use Rattle.reg_tree.proofs.Unlike.{Each}
use Rattle.reg_tree.proofs.Sound.{key_name}
use Rattle.salvage_bins.specs.Ground.{Ground}
use Rattle.salvage_walk.specs.declared.claims.Claim.{Claim}
use Rattle.salvage_walk.specs.declared.lines.Incomplete.{Incomplete}
use Rattle.salvage_walk.specs.declared.lines.WalkLine.TheVariants as lines
use Rattle.salvage_walk.specs.Parts.{part, unless_named, node_form, node_long}
use Rattle.salvage_walk.specs.Walked.{Walked, say, using}
use Rattle.salvage_walk.specs.Steps.{class_step, security_step, values_step, entries_step}
use Rattle.salvage_walk.specs.Keys.{Judge, judged_key, key_names, with_child, keys_next, key_below, key_done, least_root, root_below, root_done, root_part, other_root, other_done, salvaged}
use Rattle.salvage_walk.specs.Incomplete.{Notes, noted, notes_next, says_more, incomplete_at, notes_below, notes_done, notes_key, notes_root, notes_there, notes_other, notes_by, incomplete}
use Rattle.salvage_walk.specs.Found.{unsaid, found_next, found_notes}
use Rattle.salvage_laws.proofs.PartViews.{done, PartView, part-view}
use Rattle.salvage_laws.proofs.Alike.{named-so}
use Rattle.salvage_laws.proofs.Wider.{made-reads}
use Rattle.found_laws.proofs.Apart.{Judged, JudgesApart, judged-apart, some}
use Rattle.found_laws.proofs.Arranging.{Holds}
use Rattle.found_laws.proofs.Reaching.{Reaches}
use Rattle.found_laws.proofs.Searching.{unsaid-judged, child-holds, found-holds}
use Rattle.found_laws.proofs.Withins.{folds_itself}
use Rattle.found_laws.specs.found_laws.Found.{IsNodeOf}
use Rattle.found_laws.proofs.Changing.{find-on}

-- ---- what is noted after other keys

pub record Grown (P : Incomplete → Type 0) (old new : List Incomplete) : Type 0 where
  pub more : List Incomplete
  pub is : new ≡ old ++ more
  pub each : Each P more

pub each-both : (P : Incomplete → Type 0) (xs ys : List Incomplete) → Each P xs → Each P ys → Each P (xs ++ ys)
each-both P [] ys a b = b
each-both P (x ∷ xs) ys a b = (a.0, each-both P xs ys a.1 b)

pub each-so : (P Q : Incomplete → Type 0) → ((o : Incomplete) → P o → Q o) → (xs : List Incomplete) → Each P xs → Each Q xs
each-so P Q f [] a = tt
each-so P Q f (x ∷ xs) a = (f x a.0, each-so P Q f xs a.1)

grown-none : (P : Incomplete → Type 0) (old : List Incomplete) → Grown P old old
grown-none P old = record { more = []; is = sym (append-nil old); each = tt }

grown-both : (P : Incomplete → Type 0) (a b c : List Incomplete) → Grown P a b → Grown P b c → Grown P a c
grown-both P a b c x y = record {
  more = x.more ++ y.more;
  is = y.is ∙ ap (λ (l : List Incomplete). l ++ y.more) x.is ∙ append_assoc a x.more y.more;
  each = each-both P x.more y.more x.each y.each;
}

grown-so : (P Q : Incomplete → Type 0) (a b : List Incomplete) → ((o : Incomplete) → P o → Q o) → Grown P a b → Grown Q a b
grown-so P Q a b f x = record { more = x.more; is = x.is; each = each-so P Q f x.more x.each }

grown-noted : (P : Incomplete → Type 0) (b : Bool) (own : Incomplete) (notes : List Incomplete) → P own → Grown P notes (noted b own notes)
grown-noted P true own notes p = record { more = own ∷ []; is = refl; each = (p, tt) }
grown-noted P false own notes p = grown-none P notes

-- ---- children by their names

not-named : (name : List ℕ) (us : List Tree) → list_any (folds_same name) (key_names us) ≡ false → find (is_named name) us ≡ None
not-named name [] e = refl
not-named name (u ∷ us) e =
    let p = or_parts (folds_same name (key_name u)) (list_any (folds_same name) (key_names us)) e in
    ap (λ (b : Bool). cond b (some u) (find (is_named name) us)) p.0 ∙ not-named name us p.1

child-new : (us : List Tree) (t : Tree) → list_any (folds_same (key_name t)) (key_names us) ≡ false
    → find (is_named (key_name t)) (us ++ t ∷ []) ≡ some t
child-new us t e =
    find-append (is_named (key_name t)) us (t ∷ [])
    ∙ ap (λ (o : Option Tree). option_or o (find (is_named (key_name t)) (t ∷ []))) (not-named (key_name t) us e)
    ∙ ap (λ (b : Bool). cond b (some t) None) (folds_itself (key_name t))

keys-hold : (judge : Judge) (above : List ℕ) (path : List (List ℕ)) (i : ℕ) (offsets : List ℕ) (us : List Tree) (w : Walked)
    → Holds us (keys_next judge above path i offsets us w).0
unfolding keys_next
keys-hold judge above path i [] us w name c e = e
keys-hold judge above path i (at ∷ rest) us w name c e =
    let r = judge above path (key_names us) i at w in
    let next = with_child us r in
    keys-hold judge above path (i + 1) rest next.0 next.1 name c (child-holds us r name c e)

-- ---- where a key is that was noted

module _ (hive : Ground) where
  -- below the key at a path
  pub record Within (path : List (List ℕ)) (t : Tree) (own : Incomplete) : Type 0 where
    pub more : List (List ℕ)
    pub k : Tree
    pub path_is : own.path ≡ path ++ more
    pub there : find_key more t ≡ some k
    pub place : IsNodeOf hive own.at (head k)

  -- the same of one of its children
  pub record Among (path : List (List ℕ)) (us : List Tree) (own : Incomplete) : Type 0 where
    pub child : Tree
    pub there : find (is_named (key_name child)) us ≡ some child
    pub within : Within (path ++ key_name child ∷ []) child own

  lifted : (path : List (List ℕ)) (h : Head) (us : List Tree) (own : Incomplete) → Among path us own → Within path (key h (trees us)) own
  lifted path h us own a = record {
    more = key_name a.child ∷ a.within.more;
    k = a.within.k;
    path_is = a.within.path_is ∙ append_assoc path (key_name a.child ∷ []) a.within.more;
    there = ap (λ (ws : List Tree). option_and_then (find_key a.within.more) (find (is_named (key_name a.child)) ws)) (listed_trees us)
        ∙ ap (option_and_then (find_key a.within.more)) a.there ∙ a.within.there;
    place = a.within.place;
  }

  -- of a child that is judged what is noted is below it; and nothing where it is left out
  abbrev pub NotesOf : List (List ℕ) → List Incomplete → List Incomplete → Option Tree × Walked → Type 0
  NotesOf path old new (Some t, v) = Grown (Within (path ++ key_name t ∷ []) t) old new
  NotesOf path old new (None, v) = new ≡ old

  abbrev pub NotesWell : Judge → Notes → Type 0
  NotesWell judge more =
      (above : List ℕ) (path names : List (List ℕ)) (i at : ℕ) (w : Walked) (notes : List Incomplete)
      → NotesOf path notes (more above path names i at w notes) (judge above path names i at w)

  -- what is noted of one child, in all children
  child-noted : (path : List (List ℕ)) (us all : List Tree) (old new : List Incomplete) (r : Option Tree × Walked)
      → Judged (key_names us) r → Holds (with_child us r).0 all → NotesOf path old new r → Grown (Among path all) old new
  child-noted path us all old new (Some t, v) j keeps n =
      grown-so (Within (path ++ key_name t ∷ []) t) (Among path all) old new
      (λ o x. record { child = t; there = keeps (key_name t) t (child-new us t (j t refl).0); within = x }) n
  child-noted path us all old new (None, v) j keeps n = subst (Grown (Among path all) old) (sym n) (grown-none (Among path all) old)

  next-noted : (judge : Judge) (more : Notes) (own : Incomplete) (above : List ℕ) (path : List (List ℕ)) (i : ℕ) (offsets : List ℕ)
      (us : List Tree) (w : Walked) (told : Bool) (notes : List Incomplete) (h : Head) → JudgesApart judge → NotesWell judge more
      → Within path (key h (trees (keys_next judge above path i offsets us w).0)) own
      → Grown (Within path (key h (trees (keys_next judge above path i offsets us w).0))) notes
      (notes_next judge more own above path i offsets us w told notes)
  unfolding notes_next keys_next
  next-noted judge more own above path i [] us w told notes h apart well o = grown-none (Within path (key h (trees us))) notes
  next-noted judge more own above path i (at ∷ rest) us w told notes h apart well o =
      let r = judge above path (key_names us) i at w in
      let next = with_child us r in
      let all = (keys_next judge above path (i + 1) rest next.0 next.1).0 in
      let P = Within path (key h (trees all)) in
      let one = more above path (key_names us) i at w notes in
      let two = noted (not told && not (is_some r.0)) own one in
      grown-both P notes two (notes_next judge more own above path (i + 1) rest next.0 next.1 (told || not (is_some r.0)) two)
      (grown-both P notes one two
      (grown-so (Among path all) P notes one (lifted path h all)
      (child-noted path us all notes one r (apart above path (key_names us) i at w)
      (keys-hold judge above path (i + 1) rest next.0 next.1) (well above path (key_names us) i at w notes)))
      (grown-noted P (not told && not (is_some r.0)) own one o))
      (next-noted judge more own above path (i + 1) rest next.0 next.1 (told || not (is_some r.0)) two h apart well o)

  -- ---- a key

  below-noted : (judge : Judge) (more : Notes) (above : List ℕ) (path : List (List ℕ)) (node : KeyNode) (at : ℕ) (w : Walked)
      (notes : List Incomplete) → JudgesApart judge → NotesWell judge more → reading key_node_at hive.cells at ≡ Ok node
      → Grown (Within path (key_below judge hive above path node at w).0) notes (notes_below judge more hive above path node at w notes)
  unfolding notes_below key_below
  below-noted judge more above path node at w notes apart well read =
      let class = class_step hive path node w in
      let security = security_step hive above path node class.1 in
      let values = values_step hive path node security.1 in
      let entries = entries_step hive path node at values.1 in
      let told = says_more values.1 entries.1 in
      let t = (key_below judge hive above path node at w).0 in
      let own : Within path t (incomplete_at at path) = record {
        more = [];
        k = t;
        path_is = sym (append-nil path);
        there = refl;
        place = record { node = node; read = read; name = refl; flags = refl; stamp = refl };
      } in
      let one = noted told (incomplete_at at path) notes in
      grown-both (Within path t) notes one
      (notes_next judge more (incomplete_at at path) security.0 path 1 entries.0 [] entries.1 told one)
      (grown-noted (Within path t) told (incomplete_at at path) notes own)
      (next-noted judge more (incomplete_at at path) security.0 path 1 entries.0 [] entries.1 told one (head t) apart well own)

  below-named : (judge : Judge) (above : List ℕ) (path : List (List ℕ)) (node : KeyNode) (at : ℕ) (w : Walked)
      → key_name (key_below judge hive above path node at w).0 ≡ node.name
  unfolding key_below
  below-named judge above path node at w = refl

  node-reads : (root : Bool) (names : List (List ℕ)) (at : ℕ) (node : KeyNode) → reading (node_form root names) hive.cells at ≡ Ok node
      → reading key_node_at hive.cells at ≡ Ok node
  unfolding node_form node_at
  node-reads root names at node e = payload (hive.cells.payload at) e
    where
      payload : (p : Result (List ℕ) HiveFaultKind) → (p >>= node_form root names) ≡ done node → (p >>= key_node_at) ≡ done node
      payload (Ok b) e =
          let form = then-so (node_at root b) (λ (n : KeyNode). unless_named names n.name n) node e in
          let name = named-so names form.0.name form.0 node form.2 in
          let read = then-so (key_node_at b)
          (λ (n : KeyNode). cond ((length n.name == 0) && not root) (Err FormName) (Ok n)) form.0 form.1 in
          let whole = unless ((length read.0.name == 0) && not root) FormName (Ok read.0) form.0 read.2 in
          read.1 ∙ whole.1 ∙ ap done name.1
      payload (Err k) e = absurd cc

  pub key-noted : (left : ℕ) → NotesWell (judged_key left hive) (notes_key left hive)
  unfolding judged_key notes_key
  key-noted zero above path names i at w notes = refl
  key-noted (suc left) above path names i at w notes =
      by (key-noted left) (part (node_form false names) node_long false hive w.claims at)
      (part-view (node_form false names) node_long false hive w.claims at)
    where
      by : NotesWell (judged_key left hive) (notes_key left hive) → (r : Result (KeyNode × List Claim) HiveFaultKind)
          → PartView (node_form false names) node_long false hive w.claims at r
          → NotesOf path notes (notes_done (judged_key left hive) (notes_key left hive) hive above path at w notes r)
          (key_done (judged_key left hive) hive above path i at w r)
      by well (Ok r) m =
          let judge = judged_key left hive in
          let own = path ++ r.0.name ∷ [] in
          let t = (key_below judge hive above own r.0 at (using w r.1)).0 in
          let new = notes_below judge (notes_key left hive) hive above own r.0 at (using w r.1) notes in
          subst (λ (n : List ℕ). Grown (Within (path ++ n ∷ []) t) notes new) (sym (below-named judge above own r.0 at (using w r.1)))
          (below-noted judge (notes_key left hive) above own r.0 at (using w r.1) notes (judged-apart left hive) well
          (node-reads false names at r.0 (made-reads (node_form false names) node_long false hive w.claims at r.0 r.1 m)))
      by well (Err k) m = refl

  -- ---- children that are found

  unsaid-noted : (path : List (List ℕ)) (old new : List Incomplete) (w : Walked) (r : Option Tree × Walked) → NotesOf path old new r
      → NotesOf path old new (unsaid w r)
  unsaid-noted path old new w (Some t, v) n = n
  unsaid-noted path old new w (None, v) n = n

  next-found : (judge : Judge) (more : Notes) (above : List ℕ) (path : List (List ℕ)) (places : List ℕ) (us : List Tree) (w : Walked)
      (notes : List Incomplete) → JudgesApart judge → NotesWell judge more
      → Grown (Among path (found_next judge above path places us w).0) notes (found_notes judge more above path places us w notes)
  unfolding found_notes found_next
  next-found judge more above path [] us w notes apart well = grown-none (Among path us) notes
  next-found judge more above path (at ∷ places) us w notes apart well =
      let r = judge above path (key_names us) 0 at w in
      let next = with_child us (unsaid w r) in
      let all = (found_next judge above path places next.0 next.1).0 in
      let one = more above path (key_names us) 0 at w notes in
      grown-both (Among path all) notes one (found_notes judge more above path places next.0 next.1 one)
      (child-noted path us all notes one (unsaid w r)
      (unsaid-judged (key_names us) w r (apart above path (key_names us) 0 at w))
      (found-holds judge above path places next.0 next.1)
      (unsaid-noted path notes one w r (well above path (key_names us) 0 at w notes)))
      (next-found judge more above path places next.0 next.1 one apart well)

  pub found-noted : (left : ℕ) (above : List ℕ) (path : List (List ℕ)) (places : List ℕ) (us : List Tree) (w : Walked)
      (notes : List Incomplete) → Grown (Among path (found_next (judged_key left hive) above path places us w).0) notes
      (found_notes (judged_key left hive) (notes_key left hive) above path places us w notes)
  found-noted left above path places us w notes =
      next-found (judged_key left hive) (notes_key left hive) above path places us w notes (judged-apart left hive) (key-noted left)

  -- ---- from the root on

  abbrev pub RootNoted : List Incomplete → Option Tree × Walked → Type 0
  RootNoted notes (Some t, w) = Each (Within [] t) notes
  RootNoted notes (None, w) = Unit {0}

  pub incomplete-noted : (root : ℕ) → RootNoted (incomplete hive root) (salvaged hive root)
  unfolding incomplete salvaged
  incomplete-noted root = by (root_part hive [] root) (part-view (node_form true []) node_long false hive [] root)
    where
      begun : Walked
      begun = record { claims = []; lines = [] }

      from : (at : ℕ) (claims : List Claim) (w : Walked) (r : KeyNode × List Claim)
          → PartView (node_form true []) node_long false hive claims at (Ok r)
          → RootNoted (notes_root hive at w [] r) (root_below hive at w r)
      from at claims w r m =
          let t = (key_below (judged_key 511 hive) hive [] [] r.0 at (using w r.1)).0 in
          let g = below-noted (judged_key 511 hive) (notes_key 511 hive) [] [] r.0 at (using w r.1) [] (judged-apart 511 hive) (key-noted 511)
          (node-reads true [] at r.0 (made-reads (node_form true []) node_long false hive claims at r.0 r.1 m)) in
          subst (Each (Within [] t)) (sym g.is) g.each

      there : (at : ℕ) (v : Walked) (r : Result (KeyNode × List Claim) HiveFaultKind)
          → PartView (node_form true []) node_long false hive v.claims at r
          → RootNoted (notes_there hive at v [] r) (other_done hive at v r)
      there at v (Ok r) m = from at v.claims (say v (lines.RootAt at)) r m
      there at v (Err k) m = tt

      other : (o : Option ℕ) (v : Walked) → RootNoted (notes_other hive v [] o) (other_root hive v o)
      other (Some at) v =
          there at v (root_part hive v.claims at) (part-view (node_form true []) node_long false hive v.claims at)
      other None v = tt

      by : (r : Result (KeyNode × List Claim) HiveFaultKind) → PartView (node_form true []) node_long false hive [] root r
          → RootNoted (notes_by hive root begun [] r) (root_done hive root begun r)
      by (Ok r) m = from root [] begun r m
      by (Err k) m = other (least_root hive hive.slots 0) (say begun (lines.Root (fault_at k root)))

  -- ---- in the whole tree

  -- its path leads to a key whose node is at its place
  pub record IsIn (t : Tree) (own : Incomplete) : Type 0 where
    pub k : Tree
    pub there : find_key own.path t ≡ some k
    pub place : IsNodeOf hive own.at (head k)

  pub in-below : (path : List (List ℕ)) (u v : Tree) (own : Incomplete) → find_key path u ≡ some v → Within path v own → IsIn u own
  in-below path u v own e w = record {
    k = w.k;
    there = ap (λ (p : List (List ℕ)). find_key p u) w.path_is ∙ find-on path w.more u v e ∙ w.there;
    place = w.place;
  }

  pub in-held : (path : List (List ℕ)) (us vs : List Tree) (u : Tree) (h : Head) (own : Incomplete) → Holds us vs
      → find_key path u ≡ some (key h (trees vs)) → Among path us own → IsIn u own
  in-held path us vs u h own holds e a =
      in-below path u (key h (trees vs)) own e
      (lifted path h vs own (record { child = a.child; there = holds (key_name a.child) a.child a.there; within = a.within }))

  pub in-reached : (t u : Tree) (own : Incomplete) → Reaches t u → IsIn t own → IsIn u own
  in-reached t u own r i =
      let a = r own.path i.k i.there in record { k = a.0; there = a.1; place = subst (IsNodeOf hive own.at) (sym a.2) i.place }
