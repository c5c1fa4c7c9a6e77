-- Walks over the checks of keys.
use Rattle.std.proofs.Common.{◌≡◌, ℕ, zero, suc, ◌-◌, ◌<◌, ◌≤◌, Bool, true, false, not, ◌&&◌, cond, List, [], ◌∷◌, ◌++◌, map, length, get_or, Result, Ok, Err, refl, sym, ap, subst, ◌∙◌, append_assoc, eq-eqb, arith}
use Rattle.std.specs.Prelude.{◌==◌, if◌then◌else◌}
use Rattle.std.proofs.lemmas.List.{map_push}
use Rattle.nt_bytes.specs.declared.fault.HiveFaultKind.{HiveFaultKind}
use Rattle.nt_bytes.specs.declared.fault.HiveFaultKind.TheVariants.{FormName, TooDeep, Count}
use Rattle.nt_bytes.specs.declared.fault.HiveFault.{HiveFault}
use Rattle.nt_bytes.specs.Reading.{◌>>=◌}
use Rattle.hive_model.specs.KeyNode.{KeyNode, key_node_at}
use Rattle.hive_model.specs.Bins.{Cells}
use Rattle.hive_model.specs.Tree.{Tree, trees, head}
use Rattle.hive_model.specs.Walk.{Check, tests, reading, node_at, below_of, use_as, failing, name_check, names_of, class_checks, security_checks, values_checks, entries_at, entries_checks, keys_in_turn, children_checks, below_node, key_checks}
use Rattle.hive_model.specs.Stands.{ListsChildren, Stands, AllStand}
use Rattle.hive_read.specs.Walked.{Seen, fault, walk, KeyRead}
use Rattle.hive_read.proofs.Walks.{walk-on, walk-off, walk-below, not-same}

-- ---- a key

-- with no level left a key is too deep, no matter what is there
pub key-deep : (left : ℕ) (cells : Cells) (root : Bool) (seen : Seen) (names : List (List ℕ)) (at : ℕ) → left ≡ 0
    → walk cells seen (key_checks left cells root names at) ≡ fault TooDeep at
unfolding key_checks
key-deep zero cells root seen names at h = refl
key-deep (suc left) cells root seen names at h = absurd (omega arith)

abbrev named : ℕ → Cells → List (List ℕ) → ℕ → KeyNode → List Check
named left cells names at node = name_check names at node.name ∷ below_node (key_checks left cells false) cells node at

-- the walk over a key ends where its node can't be read
pub key-off : (left : ℕ) (cells : Cells) (root : Bool) (seen : Seen) (names : List (List ℕ)) (at : ℕ) (f : HiveFault)
    → 0 < left
    → walk cells seen (use_as false (node_at root) cells at) ≡ Err f
    → walk cells seen (key_checks left cells root names at) ≡ Err f
unfolding key_checks
key-off zero cells root seen names at f h e = absurd (omega arith)
key-off (suc left) cells root seen names at f h e =
    walk-off cells seen (use_as false (node_at root) cells at)
    (below_of (reading (node_at root) cells at) (named left cells names at)) f e

-- and else goes on over its name and what it names
pub key-named : (left : ℕ) (cells : Cells) (root : Bool) (seen after : Seen) (names : List (List ℕ)) (at : ℕ)
    (node : KeyNode) → 0 < left
    → walk cells seen (use_as false (node_at root) cells at) ≡ Ok after → reading (node_at root) cells at ≡ Ok node
    → walk cells seen (key_checks left cells root names at)
    ≡ walk cells after ((name_check names at node.name ∷ [])
    ++ below_node (key_checks (left - 1) cells false) cells node at)
unfolding key_checks
key-named zero cells root seen after names at node h e r = absurd (omega arith)
key-named (suc left) cells root seen after names at node h e r =
    let one : suc left - 1 ≡ left = omega arith in
    walk-below cells seen after (use_as false (node_at root) cells at) (reading (node_at root) cells at)
    (named left cells names at) node e r
    ∙ ap (λ n. walk cells after (named n cells names at node)) (sym one)

-- it ends at a name that a sibling has
pub key-unnamed : {after : Seen} (left : ℕ) (cells : Cells) (root : Bool) (seen : Seen) (names : List (List ℕ)) (at : ℕ)
    (node : KeyNode) (f : HiveFault) → 0 < left
    → walk cells seen (use_as false (node_at root) cells at) ≡ Ok after → reading (node_at root) cells at ≡ Ok node
    → walk cells after (name_check names at node.name ∷ []) ≡ Err f
    → walk cells seen (key_checks left cells root names at) ≡ Err f
key-unnamed {after} left cells root seen names at node f h e r n =
    key-named left cells root seen after names at node h e r
    ∙ walk-off cells after (name_check names at node.name ∷ [])
    (below_node (key_checks (left - 1) cells false) cells node at) f n

-- and goes on below any other
pub key-below : {after : Seen} (left : ℕ) (cells : Cells) (root : Bool) (seen : Seen) (names : List (List ℕ)) (at : ℕ)
    (node : KeyNode) → 0 < left
    → walk cells seen (use_as false (node_at root) cells at) ≡ Ok after → reading (node_at root) cells at ≡ Ok node
    → walk cells after (name_check names at node.name ∷ []) ≡ Ok after
    → walk cells seen (key_checks left cells root names at)
    ≡ walk cells after (below_node (key_checks (left - 1) cells false) cells node at)
key-below {after} left cells root seen names at node h e r n =
    key-named left cells root seen after names at node h e r
    ∙ walk-on cells after after (name_check names at node.name ∷ [])
    (below_node (key_checks (left - 1) cells false) cells node at) n

abbrev done : KeyNode → Result KeyNode HiveFaultKind
done n = Ok n

-- a node that may stand where it does is a node
pub node-plain : (root : Bool) (cells : Cells) (at : ℕ) (node : KeyNode) → reading (node_at root) cells at ≡ Ok node
    → reading key_node_at cells at ≡ Ok node
unfolding node_at
node-plain root cells at node e = payload (cells.payload at) e
  where
    named-so : (b : Bool) (n : KeyNode) → cond b (Err FormName) (Ok n) ≡ Ok node → done n ≡ Ok node
    named-so true n e = absurd cc
    named-so false n e = e

    formed : (r : Result KeyNode HiveFaultKind)
        → (r >>= λ n. if (length n.name == 0) && not root then Err FormName else Ok n) ≡ Ok node → r ≡ Ok node
    formed (Ok n) e = named-so ((length n.name == 0) && not root) n e
    formed (Err k) e = absurd cc

    payload : (p : Result (List ℕ) HiveFaultKind)
        → (p >>= λ bytes. key_node_at bytes >>= λ n. if (length n.name == 0) && not root then Err FormName else Ok n)
        ≡ Ok node → (p >>= key_node_at) ≡ Ok node
    payload (Ok bytes) e = formed (key_node_at bytes) e
    payload (Err k) e = absurd cc

-- ---- all that a node names

abbrev keys : ℕ → Cells → List (List ℕ) → ℕ → List Check
keys left cells = key_checks left cells false

-- what a node names is walked in order: class, security, values, children; the first fault ends it
pub below-class : (left : ℕ) (cells : Cells) (seen : Seen) (node : KeyNode) (at : ℕ) (f : HiveFault)
    → walk cells seen (class_checks cells node) ≡ Err f
    → walk cells seen (below_node (keys left cells) cells node at) ≡ Err f
below-class left cells seen node at f e =
    walk-off cells seen (class_checks cells node)
    (security_checks cells node ++ (values_checks cells node ++ children_checks (keys left cells) cells node at)) f e

pub below-security : {one : Seen} (left : ℕ) (cells : Cells) (seen : Seen) (node : KeyNode) (at : ℕ) (f : HiveFault)
    → walk cells seen (class_checks cells node) ≡ Ok one → walk cells one (security_checks cells node) ≡ Err f
    → walk cells seen (below_node (keys left cells) cells node at) ≡ Err f
below-security {one} left cells seen node at f a e =
    walk-on cells seen one (class_checks cells node)
    (security_checks cells node ++ (values_checks cells node ++ children_checks (keys left cells) cells node at)) a
    ∙ walk-off cells one (security_checks cells node)
    (values_checks cells node ++ children_checks (keys left cells) cells node at) f e

secured : (left : ℕ) (cells : Cells) (seen one two : Seen) (node : KeyNode) (at : ℕ)
    → walk cells seen (class_checks cells node) ≡ Ok one → walk cells one (security_checks cells node) ≡ Ok two
    → walk cells seen (below_node (keys left cells) cells node at)
    ≡ walk cells two (values_checks cells node ++ children_checks (keys left cells) cells node at)
secured left cells seen one two node at a b =
    walk-on cells seen one (class_checks cells node)
    (security_checks cells node ++ (values_checks cells node ++ children_checks (keys left cells) cells node at)) a
    ∙ walk-on cells one two (security_checks cells node)
    (values_checks cells node ++ children_checks (keys left cells) cells node at) b

pub below-values : {one two : Seen} (left : ℕ) (cells : Cells) (seen : Seen) (node : KeyNode) (at : ℕ) (f : HiveFault)
    → walk cells seen (class_checks cells node) ≡ Ok one → walk cells one (security_checks cells node) ≡ Ok two
    → walk cells two (values_checks cells node) ≡ Err f
    → walk cells seen (below_node (keys left cells) cells node at) ≡ Err f
below-values {one} {two} left cells seen node at f a b e =
    secured left cells seen one two node at a b
    ∙ walk-off cells two (values_checks cells node) (children_checks (keys left cells) cells node at) f e

pub below-children : {one two three : Seen} (left : ℕ) (cells : Cells) (seen : Seen) (node : KeyNode) (at : ℕ)
    → walk cells seen (class_checks cells node) ≡ Ok one → walk cells one (security_checks cells node) ≡ Ok two
    → walk cells two (values_checks cells node) ≡ Ok three
    → walk cells seen (below_node (keys left cells) cells node at)
    ≡ walk cells three (children_checks (keys left cells) cells node at)
below-children {one} {two} {three} left cells seen node at a b d =
    secured left cells seen one two node at a b
    ∙ walk-on cells two three (values_checks cells node) (children_checks (keys left cells) cells node at) d

-- ---- children

abbrev counted : (List (List ℕ) → ℕ → List Check) → Cells → KeyNode → ℕ → List ℕ → List Check
counted checks cells node at offsets =
    tests at (failing (not (length offsets == node.child_count)) Count) ∷ keys_in_turn checks cells [] offsets

-- a node without children needs no list
pub children-none : (checks : List (List ℕ) → ℕ → List Check) (cells : Cells) (seen : Seen) (node : KeyNode) (at : ℕ)
    → node.child_count ≡ 0
    → (walk cells seen (children_checks checks cells node at) ≡ Ok seen) × ListsChildren cells node []
unfolding children_checks
children-none checks cells seen node at z = (rw z refl, rw z refl)

-- the faults of children: of the list first, then that it has another length than was counted
pub children-off : (left : ℕ) (cells : Cells) (seen : Seen) (node : KeyNode) (at : ℕ) (f : HiveFault)
    → (node.child_count ≡ 0 → ⊥)
    → walk cells seen (entries_checks cells node.child_list) ≡ Err f
    → walk cells seen (children_checks (keys left cells) cells node at) ≡ Err f
unfolding children_checks
children-off left cells seen node at f n e =
    let z : (node.child_count == 0) ≡ false = not-same _ _ n in
    rw z (walk-off cells seen (entries_checks cells node.child_list)
    (below_of (entries_at cells node.child_list) (counted (keys left cells) cells node at)) f e)

pub children-count : {after : Seen} {found offsets : List ℕ} (left : ℕ) (cells : Cells) (seen : Seen) (node : KeyNode)
    (at : ℕ) → (node.child_count ≡ 0 → ⊥)
    → walk cells seen (entries_checks cells node.child_list) ≡ Ok after → entries_at cells node.child_list ≡ Ok offsets
    → found ≡ offsets → (length found ≡ node.child_count → ⊥)
    → walk cells seen (children_checks (keys left cells) cells node at) ≡ fault Count at
unfolding children_checks
children-count {after} {found} {offsets} left cells seen node at n e r same d =
    let z : (node.child_count == 0) ≡ false = not-same _ _ n in
    let w : (length offsets == node.child_count) ≡ false = not-same _ _ (λ k. d (ap length same ∙ k)) in
    rw z (walk-below cells seen after (entries_checks cells node.child_list) (entries_at cells node.child_list)
    (counted (keys left cells) cells node at) offsets e r ∙ rw w refl)

-- where the list and its length are right, the walk goes on over its keys
pub children-on : {after : Seen} {found offsets : List ℕ} (left : ℕ) (cells : Cells) (seen : Seen) (node : KeyNode)
    (at : ℕ) → (node.child_count ≡ 0 → ⊥)
    → walk cells seen (entries_checks cells node.child_list) ≡ Ok after → entries_at cells node.child_list ≡ Ok offsets
    → found ≡ offsets → length found ≡ node.child_count
    → (walk cells seen (children_checks (keys left cells) cells node at)
    ≡ walk cells after (keys_in_turn (keys left cells) cells [] offsets))
    × ListsChildren cells node offsets
unfolding children_checks
children-on {after} {found} {offsets} left cells seen node at n e r same d =
    let z : (node.child_count == 0) ≡ false = not-same _ _ n in
    let many : length offsets ≡ node.child_count = sym (ap length same) ∙ d in
    let w : (length offsets == node.child_count) ≡ true = eq-eqb _ _ many in (
      rw z (walk-below cells seen after (entries_checks cells node.child_list) (entries_at cells node.child_list)
          (counted (keys left cells) cells node at) offsets e r ∙ rw w refl),
      rw z (r, many),
    )

-- ---- keys in turn

abbrev pub key_name : Tree → List ℕ
key_name t = (head t).name

-- the walk over keys ends at the first fault of one, and goes on after one that stands
pub keys-off : (left : ℕ) (cells : Cells) (seen : Seen) (names : List (List ℕ)) (offsets : List ℕ) (f : HiveFault)
    → 1 ≤ length offsets → walk cells seen (key_checks left cells false names (get_or offsets 0 0)) ≡ Err f
    → walk cells seen (keys_in_turn (key_checks left cells false) cells names offsets) ≡ Err f
keys-off left cells seen names [] f n e = absurd (omega arith)
keys-off left cells seen names (at ∷ rest) f n e =
    walk-off cells seen (key_checks left cells false names at)
    (keys_in_turn (key_checks left cells false) cells
    (names ++ names_of (λ (node : KeyNode). node.name) (reading (node_at false) cells at)) rest) f e

pub keys-on : (left : ℕ) (cells : Cells) (seen after : Seen) (siblings : List Tree) (offsets : List ℕ) (at : ℕ)
    (rest : List ℕ) (t : Tree) → offsets ≡ at ∷ rest
    → walk cells seen (key_checks left cells false (map key_name siblings) at) ≡ Ok after → KeyRead cells false at t
    → walk cells seen (keys_in_turn (key_checks left cells false) cells (map key_name siblings) offsets)
    ≡ walk cells after (keys_in_turn (key_checks left cells false) cells (map key_name (siblings ++ t ∷ [])) rest)
keys-on left cells seen after siblings offsets at rest t o e s =
    let names = ap (λ n. map key_name siblings ++ n) s.1 ∙ sym (map_push key_name siblings t) in
    ap (λ os. walk cells seen (keys_in_turn (key_checks left cells false) cells (map key_name siblings) os)) o
    ∙ walk-on cells seen after (key_checks left cells false (map key_name siblings) at)
    (keys_in_turn (key_checks left cells false) cells
    (map key_name siblings ++ names_of (λ (node : KeyNode). node.name) (reading (node_at false) cells at)) rest) e
    ∙ ap (λ n. walk cells after (keys_in_turn (key_checks left cells false) cells n rest)) names

-- what completes the rest completes the whole
pub stand-one : (cells : Cells) (offsets rest all : List ℕ) (at : ℕ) (siblings : List Tree) (t : Tree)
    → offsets ≡ at ∷ rest → Stands cells at t
    → ((ts : List Tree) → AllStand cells offsets (trees ts) → AllStand cells all (trees (siblings ++ ts)))
    → (ts : List Tree) → AllStand cells rest (trees ts) → AllStand cells all (trees ((siblings ++ t ∷ []) ++ ts))
stand-one cells offsets rest all at siblings t e s h ts a =
    subst (λ (us : List Tree). AllStand cells all (trees us)) (sym (append_assoc siblings (t ∷ []) ts))
    (h (t ∷ ts) (at, rest, e, s, a))
