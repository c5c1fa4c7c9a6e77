-- Keys: salvage goes through them as the checks of a load do, up to the first fault.
use Rattle.std.proofs.Common.{◌≡◌, ℕ, zero, suc, ◌+◌, Bool, true, false, cond, List, [], ◌∷◌, ◌++◌, length, Option, Some, None, Result, Ok, Err, refl, sym, ap, subst, ◌∙◌, append_assoc, append-nil}
use Rattle.std.specs.Prelude.{◌==◌, ◌&&◌, not, MatchBool}
use Rattle.std.specs.FinMap as map
use Rattle.std.proofs.lemmas.Bool.{eqb-true}
use Rattle.std.proofs.lemmas.List.{map_push}
use Rattle.nt_bytes.specs.declared.fault.HiveFault.{HiveFault}
use Rattle.nt_bytes.specs.declared.fault.HiveFaultKind.{HiveFaultKind}
use Rattle.nt_bytes.specs.declared.fault.HiveFaultKind.TheVariants.{FormShort, Count, TooDeep}
use Rattle.nt_bytes.specs.Reading.{◌>>=◌}
use Rattle.hive_model.specs.Base.{fault_at}
use Rattle.hive_model.specs.Bins.{Cells}
use Rattle.hive_model.specs.KeyNode.{KeyNode, key_node_at}
use Rattle.hive_model.specs.Lists.{SubkeyList, list_at}
use Rattle.hive_model.specs.Tree.{Tree, key, trees, head}
use Rattle.hive_model.specs.Walk.{Check, tests, reading, below_of, use_as, failing, names_of, is_list_of_lists, node_at, leaf_at, joined_at, entries_of, entries_at, class_checks, security_checks, values_checks, leaves_checks, entries_checks, keys_in_turn, children_checks, below_node, key_checks, all_checks, first_fault}
use Rattle.hive_model.specs.Stands.{class_of, security_of, values_of, ListsChildren, Stands, AllStand, IsWellFormed}
use Rattle.hive_read.specs.Walked.{Seen, walk, KeyRead}
use Rattle.hive_read.proofs.Walks.{walk-off, walk-below}
use Rattle.hive_read.proofs.KeyWalks.{node-plain}
use Rattle.hive_read.proofs.Firsts.{Agrees, remembers-none, walk-first}
use Rattle.hive_read.proofs.One.{one_stands}
use Rattle.hive_read.proofs.Wellformed.{well-formed-passes}
use Rattle.salvage_bins.specs.Ground.{Ground}
use Rattle.salvage_walk.specs.declared.claims.Claim.{Claim}
use Rattle.salvage_walk.specs.declared.lines.WalkLine.{WalkLine}
use Rattle.salvage_walk.specs.declared.lines.WalkLine.TheVariants as lines
use Rattle.salvage_walk.specs.declared.lines.KeyPart.TheVariants as parts
use Rattle.salvage_walk.specs.Parts.{part, node_form, node_long}
use Rattle.salvage_walk.specs.Fronts.{Front, front_part, list_front, leaf_front}
use Rattle.salvage_walk.specs.Walked.{Walked, say, using}
use Rattle.salvage_walk.specs.Steps.{part_line, class_step, security_step, values_step, said_short, Entries, more_entries, list_done, leaf_next, leaves_next, no_entries, entries_below, lists_done, lists_step, counted, entries_step}
use Rattle.salvage_walk.specs.Keys.{Judge, key_line, key_names, with_child, keys_next, head_of, key_below, found_key, key_done, judged_key, other_root, root_done, root_part, salvaged, least_root}
use Rattle.salvage_laws.specs.Told.{line_fault, first_told}
use Rattle.salvage_laws.proofs.Grows.{follows-after, security-follows, items-follow, leaves-follow, below-follow, counted-follows, entries-follow, FollowsBy, keys-follow, judged-follows, other-follows}
use Rattle.salvage_laws.proofs.Alike.{NoneLoose, Same, same-none, named_checks, with_name, NamedAlike, named-alike, list_seen, list-whole, leaf-whole, FrontAlike, front-alike}
use Rattle.salvage_laws.proofs.Going.{Begins, begins-more, begins-first, Goes, goes-then, goes-as, goes-map, class-goes, security-goes, items-go}

module _ (hive : Ground) (none : NoneLoose hive) where
  abbrev cells : Cells
  cells = hive.cells

  -- ---- lists of children

  -- no list had a fault, and these entries come after those
  abbrev Listed : Result (List ℕ) HiveFaultKind → Entries → Entries → Type 0
  Listed read e all = (all.sound ≡ true) × (more : List ℕ) × (all.offsets ≡ e.offsets ++ more) × (read ≡ Ok more)

  both-sound : (a b : Bool) → a ≡ true → b ≡ false → (a && not b) ≡ true
  both-sound true false s t = refl
  both-sound true true s t = absurd cc
  both-sound false b s t = absurd cc

  leaf-goes : (path : List (List ℕ)) (at : ℕ) (e : Entries) (w : Walked) (seen : Seen) → e.sound ≡ true → w.lines ≡ [] → Same w.claims seen
      → Goes (Listed (reading leaf_at cells at) e) (walk cells seen (use_as false leaf_at cells at)) (leaf_next hive path at e w)
  unfolding leaf_next
  leaf-goes path at e w seen sound none_yet same =
      by (front_part leaf_front hive w.claims at)
      (front-alike leaf_front leaf_at (λ (f : Front). f.offsets) hive w.claims at seen leaf-whole none same)
    where
      Means : Entries → Type 0
      Means all = Listed (reading leaf_at cells at) e all

      told : Front × List Claim → Bool → Walked
      told r short = said_short short parts.Keys path at (using w r.1)

      read : (r : Front × List Claim) (b : Bool) → r.0.short ≡ b
          → MatchBool b (walk cells seen (use_as false leaf_at cells at) ≡ Err (fault_at FormShort at))
          ((after : Seen) × (walk cells seen (use_as false leaf_at cells at) ≡ Ok after) × Same r.1 after
          × (reading leaf_at cells at ≡ Ok r.0.offsets))
          → Goes Means (walk cells seen (use_as false leaf_at cells at)) (more_entries e r.0, told r b)
      read r true s a =
          subst (λ (o : Result Seen HiveFault). Goes Means o (more_entries e r.0, told r true)) (sym a)
          (begins-first (fault_at FormShort at) (using w r.1) (part_line parts.Keys path (fault_at FormShort at)) none_yet refl)
      read r false s a =
          subst (λ (o : Result Seen HiveFault). Goes Means o (more_entries e r.0, told r false)) (sym a.1)
          (none_yet, a.2, (both-sound e.sound r.0.short sound s, r.0.offsets, refl, a.3))

      by : (r : Result (Front × List Claim) HiveFaultKind) → FrontAlike (λ (f : Front). f.offsets) leaf_at cells seen at r
          → Goes Means (walk cells seen (use_as false leaf_at cells at)) (list_done path at e w r)
      by (Ok r) a = read r r.0.short refl a
      by (Err k) a =
          subst (λ (o : Result Seen HiveFault). Goes Means o (list_done path at e w (Err k))) (sym a)
          (begins-first (fault_at k at) w (part_line parts.Keys path (fault_at k at)) none_yet refl)

  leaves-go : (path : List (List ℕ)) (lists : List ℕ) (e : Entries) (w : Walked) (seen : Seen) → e.sound ≡ true → w.lines ≡ []
      → Same w.claims seen
      → Goes (Listed (joined_at cells lists) e) (walk cells seen (leaves_checks cells lists)) (leaves_next hive path lists e w)
  unfolding leaves_next
  leaves-go path [] e w seen sound n same = (n, same, (sound, [], sym (append-nil e.offsets), refl))
  leaves-go path (at ∷ rest) e w seen sound n same =
      let next = leaf_next hive path at e w in
      let last = leaves_next hive path rest next.0 next.1 in
      goes-then (Listed (reading leaf_at cells at) e) (Listed (joined_at cells (at ∷ rest)) e) cells seen (use_as false leaf_at cells at)
      (leaves_checks cells rest) next last (leaf-goes path at e w seen sound n same) (leaves-follow hive path rest next.0 next.1)
      (λ after d s m. goes-map (Listed (joined_at cells rest) next.0) (Listed (joined_at cells (at ∷ rest)) e)
      (walk cells after (leaves_checks cells rest)) last
      (λ l. (l.0, m.1 ++ l.1, l.2 ∙ ap (λ os. os ++ l.1) m.2 ∙ append_assoc e.offsets m.1 l.1, both m.1 l.1 m.3 l.3))
      (leaves-go path rest next.0 next.1 after m.0 d s))
    where
      both : (leaf others : List ℕ) → reading leaf_at cells at ≡ Ok leaf → joined_at cells rest ≡ Ok others
          → joined_at cells (at ∷ rest) ≡ Ok (leaf ++ others)
      both leaf others r s = rw (r, s) refl

  abbrev leaves_of : SubkeyList → List Check
  leaves_of list = cond (is_list_of_lists list.kind) (leaves_checks cells list.offsets) []

  -- no list had a fault, and these are the entries
  abbrev Found : Result (List ℕ) HiveFaultKind → Entries → Type 0
  Found read all = (all.sound ≡ true) × (read ≡ Ok all.offsets)

  below-goes : (path : List (List ℕ)) (list : Front) (w : Walked) (seen : Seen) → list.short ≡ false → w.lines ≡ [] → Same w.claims seen
      → Goes (Found (entries_of cells (list_seen list))) (walk cells seen (leaves_of (list_seen list))) (entries_below hive path list w)
  below-goes path list w seen s n same = go (is_list_of_lists list.kind)
    where
      sound : not list.short ≡ true
      sound = ap not s

      go : (b : Bool) → Goes (Found (cond b (joined_at cells list.offsets) (Ok list.offsets)))
          (walk cells seen (cond b (leaves_checks cells list.offsets) []))
          (cond {A = Entries × Walked} b (leaves_next hive path list.offsets (no_entries (not list.short)) w)
          (record { offsets = list.offsets; sound = not list.short }, w))
      go true =
          goes-map (Listed (joined_at cells list.offsets) (no_entries (not list.short))) (Found (joined_at cells list.offsets))
          (walk cells seen (leaves_checks cells list.offsets)) (leaves_next hive path list.offsets (no_entries (not list.short)) w)
          (λ l. (l.0, l.3 ∙ ap (λ os. Ok os) (sym l.2)))
          (leaves-go path list.offsets (no_entries (not list.short)) w seen sound n same)
      go false = (n, same, (sound, refl))

  lists-go : (path : List (List ℕ)) (at : ℕ) (w : Walked) (seen : Seen) → w.lines ≡ [] → Same w.claims seen
      → Goes (Found (entries_at cells at)) (walk cells seen (entries_checks cells at)) (lists_step hive path at w)
  unfolding lists_step entries_checks entries_at
  lists-go path at w seen n same =
      by (front_part list_front hive w.claims at) (front-alike list_front list_at list_seen hive w.claims at seen list-whole none same)
    where
      Means : Entries → Type 0
      Means all = Found (reading list_at cells at >>= entries_of cells) all

      all : List Check
      all = use_as false list_at cells at ++ below_of (reading list_at cells at) leaves_of

      told : Front × List Claim → Bool → Walked
      told r short = said_short short parts.Keys path at (using w r.1)

      read : (r : Front × List Claim) (b : Bool) → r.0.short ≡ b
          → MatchBool b (walk cells seen (use_as false list_at cells at) ≡ Err (fault_at FormShort at))
          ((after : Seen) × (walk cells seen (use_as false list_at cells at) ≡ Ok after) × Same r.1 after
          × (reading list_at cells at ≡ Ok (list_seen r.0)))
          → Goes Means (walk cells seen all) (entries_below hive path r.0 (told r b))
      read r true s a =
          subst (λ (o : Result Seen HiveFault). Goes Means o (entries_below hive path r.0 (told r true)))
          (sym (walk-off cells seen (use_as false list_at cells at) (below_of (reading list_at cells at) leaves_of) (fault_at FormShort at) a))
          (begins-more (fault_at FormShort at) (told r true) (entries_below hive path r.0 (told r true)).1
          (begins-first (fault_at FormShort at) (using w r.1) (part_line parts.Keys path (fault_at FormShort at)) n refl)
          (below-follow hive path r.0 (told r true)))
      read r false s a =
          subst (λ (o : Result Seen HiveFault). Goes Means o (entries_below hive path r.0 (told r false)))
          (sym (walk-below cells seen a.0 (use_as false list_at cells at) (reading list_at cells at) leaves_of (list_seen r.0) a.1 a.3))
          (goes-map (Found (entries_of cells (list_seen r.0))) Means (walk cells a.0 (leaves_of (list_seen r.0)))
          (entries_below hive path r.0 (told r false)) (λ f. (f.0, ap (λ q. q >>= entries_of cells) a.3 ∙ f.1))
          (below-goes path r.0 (told r false) a.0 s n a.2))

      by : (r : Result (Front × List Claim) HiveFaultKind) → FrontAlike list_seen list_at cells seen at r
          → Goes Means (walk cells seen all) (lists_done hive path at w r)
      by (Ok r) a = read r r.0.short refl a
      by (Err k) a =
          subst (λ (o : Result Seen HiveFault). Goes Means o (lists_done hive path at w (Err k)))
          (sym (walk-off cells seen (use_as false list_at cells at) (below_of (reading list_at cells at) leaves_of) (fault_at k at) a))
          (begins-first (fault_at k at) w (part_line parts.Keys path (fault_at k at)) n refl)

  -- ---- children

  -- a child that is at an offset
  abbrev IsChild : ℕ → Option Tree → Type 0
  IsChild at (Some t) = KeyRead cells false at t
  IsChild at None = ⊥

  -- a child is judged as its checks say, where that many levels are left
  abbrev JudgesAlike : ℕ → Judge → Type 0
  JudgesAlike left judge =
      (above : List ℕ) (path names : List (List ℕ)) (i at : ℕ) (w : Walked) (seen : Seen) → w.lines ≡ [] → Same w.claims seen
      → Goes (IsChild at) (walk cells seen (key_checks left cells false names at)) (judge above path names i at w)

  abbrev OneMore : ℕ → List Tree → List Tree → Type 0
  OneMore at keys all = (t : Tree) × (all ≡ keys ++ t ∷ []) × KeyRead cells false at t

  abbrev KeysMore : List ℕ → List Tree → List Tree → Type 0
  KeysMore offsets keys all = (more : List Tree) × (all ≡ keys ++ more) × AllStand cells offsets (trees more)

  child-goes : (at : ℕ) (keys : List Tree) (o : Result Seen HiveFault) (r : Option Tree × Walked) → Goes (IsChild at) o r
      → Goes (OneMore at keys) o (with_child keys r)
  child-goes at keys (Ok s) (Some t, v) g = (g.0, g.1, (t, refl, g.2))
  child-goes at keys (Ok s) (None, v) g = absurd g.2
  child-goes at keys (Err f) (Some t, v) g = g
  child-goes at keys (Err f) (None, v) g = g

  key-names-join : (at : ℕ) (keys next : List Tree) → OneMore at keys next
      → key_names keys ++ names_of (λ (node : KeyNode). node.name) (reading (node_at false) cells at) ≡ key_names next
  key-names-join at keys next one =
      ap (λ n. key_names keys ++ n) one.2.1 ∙ sym (map_push (λ t. (head t).name) keys one.0) ∙ ap key_names (sym one.1)

  keys-join : (at : ℕ) (rest : List ℕ) (keys next : List Tree) → OneMore at keys next → (all : List Tree) → KeysMore rest next all
      → KeysMore (at ∷ rest) keys all
  keys-join at rest keys next one all more = (
    one.0 ∷ more.0,
    more.1 ∙ ap (λ ts. ts ++ more.0) one.1 ∙ append_assoc keys (one.0 ∷ []) more.0,
    (at, rest, refl, one.2.0, more.2),
  )

  keys-go : (left : ℕ) (judge : Judge) (above : List ℕ) (path : List (List ℕ)) (i : ℕ) (offsets : List ℕ) (keys : List Tree) (w : Walked)
      (seen : Seen) → JudgesAlike left judge → FollowsBy judge → w.lines ≡ [] → Same w.claims seen
      → Goes (KeysMore offsets keys) (walk cells seen (keys_in_turn (key_checks left cells false) cells (key_names keys) offsets))
      (keys_next judge above path i offsets keys w)
  unfolding keys_next
  keys-go left judge above path i [] keys w seen alike follow n same = (n, same, ([], sym (append-nil keys), refl))
  keys-go left judge above path i (at ∷ rest) keys w seen alike follow n same =
      let next = with_child keys (judge above path (key_names keys) i at w) in
      let last = keys_next judge above path (i + 1) rest next.0 next.1 in
      let names = key_names keys ++ names_of (λ (node : KeyNode). node.name) (reading (node_at false) cells at) in
      goes-then (OneMore at keys) (KeysMore (at ∷ rest) keys) cells seen (key_checks left cells false (key_names keys) at)
      (keys_in_turn (key_checks left cells false) cells names rest) next last
      (child-goes at keys (walk cells seen (key_checks left cells false (key_names keys) at))
      (judge above path (key_names keys) i at w) (alike above path (key_names keys) i at w seen n same))
      (keys-follow judge above path (i + 1) rest next.0 next.1 follow)
      (λ after d s m. goes-map (KeysMore rest next.0) (KeysMore (at ∷ rest) keys)
      (walk cells after (keys_in_turn (key_checks left cells false) cells names rest)) last
      (keys-join at rest keys next.0 m last.0)
      (subst (λ (ns : List (List ℕ)). Goes (KeysMore rest next.0)
      (walk cells after (keys_in_turn (key_checks left cells false) cells ns rest)) last) (sym (key-names-join at keys next.0 m))
      (keys-go left judge above path (i + 1) rest next.0 next.1 after alike follow d s)))

  abbrev Children : KeyNode → List Tree → Type 0
  Children node ts = (offsets : List ℕ) × ListsChildren cells node offsets × AllStand cells offsets (trees ts)

  children-go : (left : ℕ) (judge : Judge) (own : List ℕ) (path : List (List ℕ)) (node : KeyNode) (at : ℕ) (w : Walked) (seen : Seen)
      → JudgesAlike left judge → FollowsBy judge → w.lines ≡ [] → Same w.claims seen
      → Goes (Children node) (walk cells seen (children_checks (key_checks left cells false) cells node at))
      (keys_next judge own path 1 (entries_step hive path node at w).0 [] (entries_step hive path node at w).1)
  unfolding entries_step children_checks keys_next
  children-go left judge own path node at w seen alike follow n same = go (node.child_count == 0) refl
    where
      checks : List (List ℕ) → ℕ → List Check
      checks = key_checks left cells false

      after_lists : List ℕ → List Check
      after_lists offsets = tests at (failing (not (length offsets == node.child_count)) Count) ∷ keys_in_turn checks cells [] offsets

      Means : Bool → List Tree → Type 0
      Means b ts =
          (offsets : List ℕ) × MatchBool b (offsets ≡ [])
          ((entries_at cells node.child_list ≡ Ok offsets) × (length offsets ≡ node.child_count)) × AllStand cells offsets (trees ts)

      from : List ℕ × Walked → List Tree × Walked
      from e = keys_next judge own path 1 e.0 [] e.1

      number : (e : Entries × Walked) (sound : Bool) → sound ≡ true → (after : Seen) → e.1.lines ≡ [] → Same e.1.claims after
          → entries_at cells node.child_list ≡ Ok e.0.offsets → (b : Bool) → (length e.0.offsets == node.child_count) ≡ b
          → Goes (Means false)
          (walk cells after (tests at (failing (not b) Count) ∷ keys_in_turn checks cells [] e.0.offsets))
          (from (cond {A = List ℕ × Walked} (sound && not b) (e.0.offsets, say e.1 (lines.Nothing at path)) (e.0.offsets, e.1)))
      number e true s after d t m true c =
          goes-map (KeysMore e.0.offsets []) (Means false) (walk cells after (keys_in_turn checks cells [] e.0.offsets))
          (keys_next judge own path 1 e.0.offsets [] e.1)
          (λ k. (
            e.0.offsets,
            (m, eqb-true (length e.0.offsets) node.child_count c),
            subst (λ (ts : List Tree). AllStand cells e.0.offsets (trees ts)) (sym k.1) k.2,
          ))
          (keys-go left judge own path 1 e.0.offsets [] e.1 after alike follow d t)
      number e true s after d t m false c =
          begins-more (fault_at Count at) (say e.1 (lines.Nothing at path))
          (keys_next judge own path 1 e.0.offsets [] (say e.1 (lines.Nothing at path))).1
          (begins-first (fault_at Count at) e.1 (lines.Nothing at path) d refl)
          (keys-follow judge own path 1 e.0.offsets [] (say e.1 (lines.Nothing at path)) follow)
      number e false s after d t m b c = absurd cc

      listed : (b : Bool) → (node.child_count == 0) ≡ b
          → Goes (Means false) (walk cells seen (entries_checks cells node.child_list
          ++ below_of (entries_at cells node.child_list) after_lists))
          (from (counted path node at (lists_step hive path node.child_list w)))
      listed b z =
          let lists = lists_step hive path node.child_list w in
          let next = counted path node at lists in
          goes-then (Found (entries_at cells node.child_list)) (Means false) cells seen (entries_checks cells node.child_list)
          (below_of (entries_at cells node.child_list) after_lists) lists (from next)
          (lists-go path node.child_list w seen n same)
          (follows-after lists.1 next.1 (from next).1 (counted-follows path node at lists)
          (keys-follow judge own path 1 next.0 [] next.1 follow))
          (λ after d s m. subst (λ (q : Result (List ℕ) HiveFaultKind). Goes (Means false) (walk cells after (below_of q after_lists)) (from next))
          (sym m.1)
          (number lists lists.0.sound m.0 after d s m.1 (length lists.0.offsets == node.child_count) refl))

      go : (b : Bool) → (node.child_count == 0) ≡ b
          → Goes (Means b) (walk cells seen (cond b [] (entries_checks cells node.child_list
          ++ below_of (entries_at cells node.child_list) after_lists)))
          (from (cond {A = List ℕ × Walked} b ([], w) (counted path node at (lists_step hive path node.child_list w))))
      go true z = (n, same, ([], refl, refl))
      go false z = listed false z

  -- ---- a key

  key-goes : (left : ℕ) (judge : Judge) (root : Bool) (above : List ℕ) (path : List (List ℕ)) (node : KeyNode) (at : ℕ) (w : Walked)
      (seen : Seen) → JudgesAlike left judge → FollowsBy judge → reading (node_at root) cells at ≡ Ok node → w.lines ≡ []
      → Same w.claims seen
      → Goes (Stands cells at) (walk cells seen (below_node (key_checks left cells false) cells node at))
      (key_below judge hive above path node at w)
  unfolding key_below
  key-goes left judge root above path node at w seen alike follow read n same =
      let class = class_step hive path node w in
      let security = security_step hive above path node class.1 in
      let values = values_step hive path node security.1 in
      let entries = entries_step hive path node at values.1 in
      let children = keys_next judge security.0 path 1 entries.0 [] entries.1 in
      let t = key (head_of node class.0 security.0 values.0) (trees children.0) in
      let in_children = keys-follow judge security.0 path 1 entries.0 [] entries.1 follow in
      let in_entries = follows-after values.1 entries.1 children.1 (entries-follow hive path node at values.1) in_children in
      let in_values = follows-after security.1 values.1 children.1 (items-follow hive path node security.1) in_entries in
      let in_security = follows-after class.1 security.1 children.1 (security-follows hive above path node class.1) in_values in
      let checks = children_checks (key_checks left cells false) cells node at in
      goes-then (λ c. class_of cells node ≡ Ok c) (Stands cells at) cells seen (class_checks cells node)
      (security_checks cells node ++ (values_checks cells node ++ checks)) class (t, children.1)
      (class-goes hive none path node w seen n same) in_security
      (λ one d s c. goes-then (λ s. security_of cells node ≡ Ok s) (Stands cells at) cells one (security_checks cells node)
      (values_checks cells node ++ checks) security (t, children.1)
      (security-goes hive none above path node class.1 one d s) in_values
      (λ two d s own. goes-then (λ vs. values_of cells node ≡ Ok vs) (Stands cells at) cells two (values_checks cells node) checks values
      (t, children.1) (items-go hive none path node security.1 two d s) in_entries
      (λ three d s vs. goes-as (Children node) (Stands cells at) (walk cells three checks) children t
      (λ k. (
        k.0,
        record {
          node = node;
          read = node-plain root cells at node read;
          name = refl;
          flags = refl;
          stamp = refl;
          class = c;
          security = own;
          values = vs;
          children = k.1;
        },
        k.2,
      ))
      (children-go left judge security.0 path node at values.1 three alike follow d s))))

  key-told : (path : List (List ℕ)) (i : ℕ) (fault : HiveFault) (r : Result KeyNode HiveFaultKind)
      → line_fault (key_line path i fault r) ≡ Some fault
  key-told path i fault (Ok v) = refl
  key-told path i fault (Err k) = refl

  abbrev node_name : KeyNode → List ℕ
  node_name node = node.name

  in_form : (root : Bool) (names : List (List ℕ)) (at : ℕ) (seen : Seen) (claims : List Claim) (more : KeyNode → List Check)
      → NamedAlike (node_at root) node_name cells seen names at more
      (part (with_name (node_at root) node_name names) node_long false hive claims at)
      → NamedAlike (node_at root) node_name cells seen names at more (part (node_form root names) node_long false hive claims at)
  unfolding node_form
  in_form root names at seen claims more a = a

  judged-goes : (left : ℕ) → JudgesAlike left (judged_key left hive)
  unfolding judged_key key_checks key_below
  judged-goes zero above path names i at w seen n same =
      begins-first (fault_at TooDeep at) w (key_line path i (fault_at TooDeep at) (reading key_node_at cells at)) n
      (key-told path i (fault_at TooDeep at) (reading key_node_at cells at))
  judged-goes (suc left) above path names i at w seen n same =
      by (judged-goes left) (part (node_form false names) node_long false hive w.claims at)
      (in_form false names at seen w.claims (λ node. below_node (key_checks left cells false) cells node at)
      (named-alike (node_at false) node_name node_long names hive w.claims at seen
      (λ node. below_node (key_checks left cells false) cells node at) none same))
    where
      more : KeyNode → List Check
      more node = below_node (key_checks left cells false) cells node at

      by : JudgesAlike left (judged_key left hive) → (r : Result (KeyNode × List Claim) HiveFaultKind)
          → NamedAlike (node_at false) node_name cells seen names at more r
          → Goes (IsChild at) (walk cells seen (named_checks (node_at false) node_name cells names at more))
          (key_done (judged_key left hive) hive above path i at w r)
      by alike (Ok r) a =
          let below = key_below (judged_key left hive) hive above (path ++ r.0.name ∷ []) r.0 at (using w r.1) in
          subst (λ (o : Result Seen HiveFault). Goes (IsChild at) o (found_key below)) (sym a.1)
          (goes-as (Stands cells at) (IsChild at) (walk cells a.0 (more r.0)) below (Some below.0)
          (λ s. (s, ap (names_of node_name) a.3))
          (key-goes left (judged_key left hive) false above (path ++ r.0.name ∷ []) r.0 at (using w r.1) a.0 alike
          (judged-follows left hive) a.3 n a.2))
      by alike (Err k) a =
          subst (λ (o : Result Seen HiveFault). Goes (IsChild at) o (key_done (judged_key left hive) hive above path i at w (Err k))) (sym a)
          (begins-first (fault_at k at) w (key_line path i (fault_at k at) (reading key_node_at cells at)) n
          (key-told path i (fault_at k at) (reading key_node_at cells at)))

  -- ---- the root

  -- this tree is at the root
  abbrev IsRoot : ℕ → Option Tree → Type 0
  IsRoot root o = (t : Tree) × (o ≡ Some t) × Stands cells root t

  pub root-goes : (root : ℕ) → Goes (IsRoot root) (walk cells map.empty (all_checks cells root)) (salvaged hive root)
  unfolding salvaged key_checks all_checks
  root-goes root =
      by (root_part hive [] root)
      (in_form true [] root map.empty [] more (named-alike (node_at true) node_name node_long [] hive [] root map.empty more none same-none))
    where
      more : KeyNode → List Check
      more node = below_node (key_checks 511 cells false) cells node root

      begun : Walked
      begun = record { claims = []; lines = [] }

      by : (r : Result (KeyNode × List Claim) HiveFaultKind) → NamedAlike (node_at true) node_name cells map.empty [] root more r
          → Goes (IsRoot root) (walk cells map.empty (named_checks (node_at true) node_name cells [] root more))
          (root_done hive root (record { claims = []; lines = [] }) r)
      by (Ok r) a =
          let begun : Walked = record { claims = []; lines = [] } in
          let below = key_below (judged_key 511 hive) hive [] [] r.0 root (using begun r.1) in
          subst (λ (o : Result Seen HiveFault). Goes (IsRoot root) o (found_key below)) (sym a.1)
          (goes-as (Stands cells root) (IsRoot root) (walk cells a.0 (more r.0)) below (Some below.0) (λ s. (below.0, refl, s))
          (key-goes 511 (judged_key 511 hive) true [] [] r.0 root (using begun r.1) a.0 (judged-goes 511) (judged-follows 511 hive) a.3
          refl a.2))
      by (Err k) a =
          let begun : Walked = record { claims = []; lines = [] } in
          let told = say begun (lines.Root (fault_at k root)) in
          subst (λ (o : Result Seen HiveFault). Goes (IsRoot root) o (root_done hive root begun (Err k))) (sym a)
          (begins-more (fault_at k root) told (other_root hive told (least_root hive hive.slots 0)).1 refl
          (other-follows hive told (least_root hive hive.slots 0)))

  -- ---- what it amounts to

  first-so : (fault : HiveFault) (ls : List WalkLine) → Begins fault ls → first_told ls ≡ Some fault
  first-so fault [] b = absurd b
  first-so fault (l ∷ ls) b = b

  pub told-first : (root : ℕ) → first_told (salvaged hive root).1.lines ≡ first_fault cells root
  told-first root =
      by (walk cells map.empty (all_checks cells root)) (first_fault cells root) (root-goes root)
      (walk-first cells map.empty [] (all_checks cells root) remembers-none)
    where
      by : (o : Result Seen HiveFault) (first : Option HiveFault) → Goes (IsRoot root) o (salvaged hive root) → Agrees o first
          → first_told (salvaged hive root).1.lines ≡ first
      by (Ok seen) first g a = ap first_told g.0 ∙ sym a
      by (Err fault) first g a = first-so fault (salvaged hive root).1.lines g ∙ sym a

  -- without a fault nothing is printed, and the tree is at the root
  stands-so : (root : ℕ) → first_fault cells root ≡ None → ((salvaged hive root).1.lines ≡ []) × IsRoot root (salvaged hive root).0
  stands-so root e =
      by (walk cells map.empty (all_checks cells root)) (first_fault cells root) e (root-goes root)
      (walk-first cells map.empty [] (all_checks cells root) remembers-none)
    where
      by : (o : Result Seen HiveFault) (first : Option HiveFault) → first ≡ None → Goes (IsRoot root) o (salvaged hive root) → Agrees o first
          → ((salvaged hive root).1.lines ≡ []) × IsRoot root (salvaged hive root).0
      by (Ok seen) first e g a = (g.0, g.2)
      by (Err fault) first e g a = absurd cc

  pub silent-so : (root : ℕ) → first_fault cells root ≡ None → (salvaged hive root).1.lines ≡ []
  silent-so root e = (stands-so root e).0

  pub tree-so : (root : ℕ) (t : Tree) → IsWellFormed cells root t → (salvaged hive root).0 ≡ Some t
  tree-so root t f =
      let s = (stands-so root (well-formed-passes cells root t f)).1 in
      s.1 ∙ ap (λ u. Some u) (one_stands cells root s.0 t s.2 f.stands)
