-- Each use of what is salvaged lies in its cell.
use Rattle.std.proofs.Common.{◌≡◌, inl, inr, ℕ, zero, suc, ◌+◌, ◌-◌, Bool, true, false, cond, List, [], ◌∷◌, ◌++◌, Option, Some, None, Result, Ok, refl, sym, subst, arith}
use Rattle.std.specs.Prelude.{◌==◌, is_some}
use Rattle.std.specs.List.{All}
use Rattle.std.proofs.lemmas.List.Elements.{All-append, All-cons, All-nil}
use Rattle.nt_bytes.specs.declared.fault.HiveFaultKind.{HiveFaultKind}
use Rattle.nt_bytes.specs.Reading.{◌>>=◌}
use Rattle.hive_model.specs.Forms.{bytes_in}
use Rattle.hive_model.specs.KeyNode.{KeyNode}
use Rattle.hive_model.specs.KeyValue.{KeyValue, key_value_at, data_inside}
use Rattle.hive_model.specs.Lists.{offsets_in}
use Rattle.hive_model.specs.Security.{security_at}
use Rattle.hive_model.specs.Size.{segment_bytes, is_big, segment_part}
use Rattle.hive_model.specs.Stands.{class_of, data_or, joined_segments, big_bytes_at, data_of, item_at}
use Rattle.hive_model.specs.Tree.{Item, Tree}
use Rattle.hive_model.specs.Walk.{reading, node_at, big_data_of}
use Rattle.hive_read.proofs.FormFacts.{then-so}
use Rattle.salvage_bins.specs.Ground.{Ground}
use Rattle.salvage_walk.specs.declared.claims.Claim.{Claim}
use Rattle.salvage_walk.specs.declared.lines.WalkLine.{WalkLine}
use Rattle.salvage_walk.specs.Uses.{claim_at}
use Rattle.salvage_walk.specs.Parts.{node_long, value_long, security_long, big_long, offsets_long}
use Rattle.salvage_walk.specs.Fronts.{values_front, list_front, leaf_front}
use Rattle.salvage_walk.specs.Walked.{Walked}
use Rattle.salvage_laws.specs.Bytes.{LiesInCell}
use Rattle.salvage_laws.specs.Left.{segments_uses, big_uses, data_uses, item_uses, class_uses, ClassLeft, class_stands, class_lost, SecurityLeft, security_none, security_first, security_again, security_lost, ItemsLeft, ValuesLeft, values_none, values_listed, values_lost}
use Rattle.salvage_laws.specs.LeftLists.{ListLeft, list_read, list_lost, LeavesLeft, ListsLeft, own_entries, entries_of_lists, lists_lost, EntriesLeft, entries_none, entries_named}
use Rattle.salvage_laws.specs.LeftKeys.{Leaving, KeysLeft, KeyLeft, TreeLeft, IsSalvage, at_its_place, at_another, at_none}
use Rattle.salvage_laws.proofs.PartViews.{done}
use Rattle.salvage_laws.proofs.FormLong.{IsNoLonger, node-long, value-long, security-long, bytes-fit, big-long, offsets-long, front_long, values-front-long, list-front-long, leaf-front-long}
use Rattle.salvage_laws.proofs.Wider.{uses-are, item-uses-are}

-- ---- each use lies in its cell

module _ (hive : Ground) where
  abbrev pub Lie : List Claim → Type 0
  Lie claims = All (LiesInCell hive) claims

  pub none-lie : Lie []
  none-lie = All-nil (LiesInCell hive)

  one-lies : (c : Claim) → LiesInCell hive c → Lie (c ∷ [])
  one-lies c l = All-cons (LiesInCell hive) c [] l none-lie

  pub both-lie : (a b : List Claim) → Lie a → Lie b → Lie (a ++ b)
  both-lie a b x y = All-append (LiesInCell hive) a b x y

  pub lie-as : (a b : List Claim) → a ≡ b → Lie b → Lie a
  lie-as a b e l = subst Lie (sym e) l

  -- a form that was read in its cell
  read-in : {F : Type 0} (form : List ℕ → Result F HiveFaultKind) (at : ℕ) (f : F) → reading form hive.cells at ≡ done f
      → (p : List ℕ) × (hive.cells.payload at ≡ done p) × (form p ≡ done f)
  read-in form at f e = then-so (hive.cells.payload at) form f e

  form-lies : {F : Type 0} (form : List ℕ → Result F HiveFaultKind) (long : F → ℕ) → IsNoLonger form long → (security : Bool) (at : ℕ) (f : F)
      → reading form hive.cells at ≡ done f → LiesInCell hive (claim_at hive security at (long f))
  form-lies form long fit security at f e =
      let r = read-in form at f e in
      record { payload = r.0; there = r.1; begins = omega arith; ends = omega (arith, fit r.0 f r.2); loose = refl }

  bytes-lie : (n at : ℕ) (b : List ℕ) → reading (bytes_in n) hive.cells at ≡ done b → LiesInCell hive (claim_at hive false at (4 + n))
  bytes-lie n at b e =
      let r = read-in (bytes_in n) at b e in
      record { payload = r.0; there = r.1; begins = omega arith; ends = omega (arith, bytes-fit n r.0 b r.2); loose = refl }

  -- ---- values

  segments-lie : (n : ℕ) (offsets b : List ℕ) → joined_segments hive.cells n offsets ≡ done b → Lie (segments_uses hive n offsets)
  segments-lie n [] b e = none-lie
  segments-lie n (at ∷ more) b e =
      let one = then-so (reading (bytes_in (segment_part n)) hive.cells at)
      (λ bytes. joined_segments hive.cells (n - segment_bytes) more >>= λ others. Ok (bytes ++ others)) b e in
      let two = then-so (joined_segments hive.cells (n - segment_bytes) more) (λ others. Ok (one.0 ++ others)) b one.2 in
      All-cons (LiesInCell hive) (claim_at hive false at (4 + segment_part n)) (segments_uses hive (n - segment_bytes) more)
      (bytes-lie (segment_part n) at one.0 one.1) (segments-lie (n - segment_bytes) more two.0 two.1)

  big-lie : (n at : ℕ) (b : List ℕ) → big_bytes_at hive.cells n at ≡ done b → Lie (big_uses hive n at)
  unfolding big_bytes_at
  big-lie n at b e =
      let big = then-so (reading (big_data_of n) hive.cells at)
      (λ big. reading (offsets_in big.segments) hive.cells big.list >>= joined_segments hive.cells n) b e in
      let list = then-so (reading (offsets_in big.0.segments) hive.cells big.0.list) (joined_segments hive.cells n) b big.2 in
      let first = claim_at hive false at (big_long big.0) in
      let second = claim_at hive false big.0.list (offsets_long list.0) in
      lie-as (big_uses hive n at) (first ∷ second ∷ segments_uses hive n list.0) (uses-are hive n at big.0 list.0 big.1 list.1)
      (All-cons (LiesInCell hive) first (second ∷ segments_uses hive n list.0)
      (form-lies (big_data_of n) big_long (big-long n) false at big.0 big.1)
      (All-cons (LiesInCell hive) second (segments_uses hive n list.0)
      (form-lies (offsets_in big.0.segments) offsets_long (offsets-long big.0.segments) false big.0.list list.0 list.1)
      (segments-lie n list.0 b list.2)))

  data-lie : (v : KeyValue) (b : List ℕ) → data_of hive.cells v ≡ done b → Lie (data_uses hive v)
  unfolding data_of
  data-lie v b e = go (data_inside v) e
    where
      big : (t : Bool) → cond t (big_bytes_at hive.cells v.size v.offset) (reading (bytes_in v.size) hive.cells v.offset) ≡ done b
          → Lie (cond t (big_uses hive v.size v.offset) (claim_at hive false v.offset (4 + v.size) ∷ []))
      big true e = big-lie v.size v.offset b e
      big false e = one-lies (claim_at hive false v.offset (4 + v.size)) (bytes-lie v.size v.offset b e)

      go : (o : Option (List ℕ)) → data_or o (cond (is_big hive.cells.version v.size) (big_bytes_at hive.cells v.size v.offset)
          (reading (bytes_in v.size) hive.cells v.offset)) ≡ done b
          → Lie (cond (is_some o) [] (cond (is_big hive.cells.version v.size) (big_uses hive v.size v.offset)
          (claim_at hive false v.offset (4 + v.size) ∷ [])))
      go (Some d) e = none-lie
      go None e = big (is_big hive.cells.version v.size) e

  item-lies : (at : ℕ) (item : Item) → item_at hive.cells at ≡ done item → Lie (item_uses hive at)
  unfolding item_at
  item-lies at item e =
      let one = then-so (reading key_value_at hive.cells at)
      (λ value. data_of hive.cells value >>= λ bytes. Ok (record { name = value.name; kind = value.kind; bytes = bytes })) item e in
      let two = then-so (data_of hive.cells one.0) (λ bytes. Ok (record { name = one.0.name; kind = one.0.kind; bytes = bytes })) item one.2 in
      lie-as (item_uses hive at) (claim_at hive false at (value_long one.0) ∷ data_uses hive one.0) (item-uses-are hive at one.0 one.1)
      (All-cons (LiesInCell hive) (claim_at hive false at (value_long one.0)) (data_uses hive one.0)
      (form-lies key_value_at value_long value-long false at one.0 one.1) (data-lie one.0 two.0 two.1))

  -- ---- parts of a key

  class-lies : (used : List Claim) (path : List (List ℕ)) (node : KeyNode) (class : List ℕ) (uses : List Claim) (said : List WalkLine)
      → ClassLeft hive used path node class uses said → Lie uses
  unfolding class_of
  class-lies used path node class uses said (class_stands c u s) = lie-as uses (class_uses hive node) u (go (node.class_length == 0) c)
    where
      go : (b : Bool) → cond b (Ok []) (reading (bytes_in node.class_length) hive.cells node.class) ≡ done class
          → Lie (cond b [] (claim_at hive false node.class (4 + node.class_length) ∷ []))
      go true e = none-lie
      go false e = one-lies (claim_at hive false node.class (4 + node.class_length)) (bytes-lie node.class_length node.class class e)
  class-lies used path node class uses said (class_lost f z k c u s) = lie-as uses [] u none-lie

  security-lies : (used : List Claim) (above : List ℕ) (path : List (List ℕ)) (node : KeyNode) (own : List ℕ) (uses : List Claim)
      (said : List WalkLine) → SecurityLeft hive used above path node own uses said → Lie uses
  security-lies used above path node own uses said (security_none z o u s) = lie-as uses [] u none-lie
  security-lies used above path node own uses said (security_first cell z r o u s) =
      lie-as uses (claim_at hive true node.security (security_long cell) ∷ []) u
      (one-lies (claim_at hive true node.security (security_long cell))
      (form-lies security_at security_long security-long true node.security cell r))
  security-lies used above path node own uses said (security_again cell c z r o f t u s) = lie-as uses [] u none-lie
  security-lies used above path node own uses said (security_lost k z f o u s) = lie-as uses [] u none-lie

  items-lie : (used : List Claim) (path : List (List ℕ)) (i : ℕ) (names : List (List ℕ)) (offsets : List ℕ) (items : List Item)
      (uses : List Claim) (said : List WalkLine) → ItemsLeft hive used path i names offsets items uses said → Lie uses
  items-lie used path i names [] items uses said l = lie-as uses [] l.1 none-lie
  items-lie used path i names (at ∷ more) items uses said (inl l) =
      lie-as uses (item_uses hive at ++ l.2) l.4
      (both-lie (item_uses hive at) l.2 (item-lies at l.0 l.5)
      (items-lie used path (i + 1) (names ++ l.0.name ∷ []) more l.1 l.2 said l.7))
  items-lie used path i names (at ∷ more) items uses said (inr l) = items-lie used path (i + 1) names more items uses l.1 l.4

  values-lie : (used : List Claim) (path : List (List ℕ)) (node : KeyNode) (items : List Item) (uses : List Claim) (said : List WalkLine)
      → ValuesLeft hive used path node items uses said → Lie uses
  values-lie used path node items uses said (values_none z v u s) = lie-as uses [] u none-lie
  values-lie used path node items uses said (values_listed list later rest z r u s l) =
      lie-as uses (claim_at hive false node.value_list list.long ∷ later) u
      (All-cons (LiesInCell hive) (claim_at hive false node.value_list list.long) later
      (form-lies (values_front node.value_count) front_long (values-front-long node.value_count) false node.value_list list r)
      (items-lie used path 1 [] list.offsets items later rest l))
  values-lie used path node items uses said (values_lost k z f v u s) = lie-as uses [] u none-lie

  list-lies : (used : List Claim) (path : List (List ℕ)) (at : ℕ) (offsets : List ℕ) (uses : List Claim) (said : List WalkLine)
      → ListLeft leaf_front hive used path at offsets uses said → Lie uses
  list-lies used path at offsets uses said (list_read list r o u s) =
      lie-as uses (claim_at hive false at list.long ∷ []) u
      (one-lies (claim_at hive false at list.long) (form-lies leaf_front front_long leaf-front-long false at list r))
  list-lies used path at offsets uses said (list_lost k f o u s) = lie-as uses [] u none-lie

  leaves-lie : (used : List Claim) (path : List (List ℕ)) (lists offsets : List ℕ) (uses : List Claim) (said : List WalkLine)
      → LeavesLeft hive used path lists offsets uses said → Lie uses
  leaves-lie used path [] offsets uses said l = lie-as uses [] l.1 none-lie
  leaves-lie used path (at ∷ more) offsets uses said l =
      lie-as uses (l.first_uses ++ l.rest_uses) l.uses_are
      (both-lie l.first_uses l.rest_uses (list-lies used path at l.first_offsets l.first_uses l.first_said l.first)
      (leaves-lie used path more l.rest_offsets l.rest_uses l.rest_said l.rest))

  lists-lie : (used : List Claim) (path : List (List ℕ)) (at : ℕ) (offsets : List ℕ) (uses : List Claim) (said : List WalkLine)
      → ListsLeft hive used path at offsets uses said → Lie uses
  lists-lie used path at offsets uses said (own_entries list r k o u s) =
      lie-as uses (claim_at hive false at list.long ∷ []) u
      (one-lies (claim_at hive false at list.long) (form-lies list_front front_long list-front-long false at list r))
  lists-lie used path at offsets uses said (entries_of_lists list later rest r k u s l) =
      lie-as uses (claim_at hive false at list.long ∷ later) u
      (All-cons (LiesInCell hive) (claim_at hive false at list.long) later
      (form-lies list_front front_long list-front-long false at list r) (leaves-lie used path list.offsets offsets later rest l))
  lists-lie used path at offsets uses said (lists_lost k f o u s) = lie-as uses [] u none-lie

  entries-lie : (used : List Claim) (path : List (List ℕ)) (node : KeyNode) (at : ℕ) (offsets : List ℕ) (uses : List Claim)
      (said : List WalkLine) → EntriesLeft hive used path node at offsets uses said → Lie uses
  entries-lie used path node at offsets uses said (entries_none z o u s) = lie-as uses [] u none-lie
  entries-lie used path node at offsets uses said (entries_named first z l s) = lists-lie used path node.child_list offsets uses first l

  -- ---- keys

  abbrev pub AllLie : Leaving → Type 0
  AllLie Child = (at : ℕ) (t : Tree) (uses : List Claim) (said : List WalkLine) → Child at t uses said → Lie uses

  keys-lie : (Child : Leaving) (left : ℕ) (used : List Claim) (path : List (List ℕ)) (i : ℕ) (names : List (List ℕ)) (offsets : List ℕ)
      (keys : List Tree) (uses : List Claim) (said : List WalkLine) → AllLie Child
      → KeysLeft Child left hive used path i names offsets keys uses said → Lie uses
  keys-lie Child left used path i names [] keys uses said each l = lie-as uses [] l.1 none-lie
  keys-lie Child left used path i names (at ∷ more) keys uses said each (inl l) =
      lie-as uses (l.child_uses ++ l.rest_uses) l.uses_are
      (both-lie l.child_uses l.rest_uses (each at l.child l.child_uses l.child_said l.stands)
      (keys-lie Child left used path (i + 1) _ more l.rest_keys l.rest_uses l.rest_said each l.rest))
  keys-lie Child left used path i names (at ∷ more) keys uses said each (inr l) =
      keys-lie Child left used path (i + 1) names more keys uses l.rest_said each l.rest

  key-lies : (Child : List ℕ → List (List ℕ) → Leaving) (left : ℕ) (root : Bool) (used : List Claim) (above : List ℕ)
      (path : KeyNode → List (List ℕ)) (at : ℕ) (t : Tree) (uses : List Claim) (said : List WalkLine)
      → ((own : List ℕ) (at : List (List ℕ)) → AllLie (Child own at)) → KeyLeft Child left root hive used above path at t uses said → Lie uses
  key-lies Child left root used above path at t uses said each k =
      lie-as uses (claim_at hive false at (node_long k.node)
      ∷ (k.class_uses ++ (k.security_uses ++ (k.values_uses ++ (k.lists_uses ++ k.keys_uses))))) k.uses_are
      (All-cons (LiesInCell hive) (claim_at hive false at (node_long k.node))
      (k.class_uses ++ (k.security_uses ++ (k.values_uses ++ (k.lists_uses ++ k.keys_uses))))
      (form-lies (node_at root) node_long (node-long root) false at k.node k.read)
      (both-lie k.class_uses (k.security_uses ++ (k.values_uses ++ (k.lists_uses ++ k.keys_uses)))
      (class-lies used (path k.node) k.node k.h.class k.class_uses k.class_said k.class)
      (both-lie k.security_uses (k.values_uses ++ (k.lists_uses ++ k.keys_uses))
      (security-lies used above (path k.node) k.node k.h.security k.security_uses k.security_said k.security)
      (both-lie k.values_uses (k.lists_uses ++ k.keys_uses)
      (values-lie used (path k.node) k.node k.h.values k.values_uses k.values_said k.values)
      (both-lie k.lists_uses k.keys_uses
      (entries-lie used (path k.node) k.node at k.offsets k.lists_uses k.lists_said k.lists)
      (keys-lie (Child k.h.security (path k.node)) left used (path k.node) 1 [] k.offsets k.keys k.keys_uses k.keys_said
      (each k.h.security (path k.node)) k.children))))))

  pub tree-lies : (left : ℕ) (used : List Claim) (own : List ℕ) (path : List (List ℕ)) → AllLie (TreeLeft left hive used own path)
  tree-lies zero used own path at t uses said l = absurd l
  tree-lies (suc left) used own path at t uses said l =
      key-lies (TreeLeft left hive used) left false used own (λ node. path ++ node.name ∷ []) at t uses said
      (λ o p. tree-lies left used o p) l

  pub salvage-lies : (root : ℕ) (o : Option Tree) (w : Walked) → IsSalvage hive root o w → Lie w.claims
  salvage-lies root o w (at_its_place t uses said l) =
      key-lies (TreeLeft 511 hive uses) 511 true uses [] (λ node. []) root t uses said (λ o p. tree-lies 511 uses o p) l
  salvage-lies root o w (at_another at kind t uses said f e l) =
      key-lies (TreeLeft 511 hive uses) 511 true uses [] (λ node. []) at t uses said (λ o p. tree-lies 511 uses o p) l
  salvage-lies root o w (at_none kind f e) = none-lie
