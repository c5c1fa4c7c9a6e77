-- The steps of the loops of the walk.
use Rattle.std.proofs.Common.{◌≡◌, ℕ, zero, suc, ◌+◌, ◌-◌, ◌<◌, Bool, true, false, Option, None, Some, List, [], ◌∷◌, ◌++◌, refl, arith}
use Rattle.std.specs.Prelude.{◌&&◌, ◌||◌, not, is_some}
use Rattle.std.proofs.lemmas.List.{map_push}
use Rattle.nt_bytes.specs.declared.fault.HiveFaultKind.TheVariants.{TooDeep}
use Rattle.hive_model.specs.Base.{fault_at}
use Rattle.hive_model.specs.KeyNode.{key_node_at}
use Rattle.hive_model.specs.Walk.{reading}
use Rattle.hive_model.specs.Tree.{Item, Tree, head}
use Rattle.salvage_bins.specs.Ground.{Ground}
use Rattle.salvage_walk.specs.Walked.{Walked, say}
use Rattle.salvage_walk.specs.Parts.{part, node_form, node_long}
use Rattle.salvage_walk.specs.Keys.{Judge, judged_key, key_done, key_line, key_names, keys_next, with_child, has_root_flag, least_root}
use Rattle.salvage_walk.specs.declared.lines.Incomplete.{Incomplete}
use Rattle.salvage_walk.specs.Found.{found_next, found_notes, unsaid}
use Rattle.salvage_walk.specs.Incomplete.{Notes, noted, notes_done, notes_key, notes_next}
use Rattle.salvage_walk.specs.Steps.{Entries, value_next, values_next, leaf_next, leaves_next, item_names}

pub values-end : (hive : Ground) (path : List (List ℕ)) (i : ℕ) (rest : List ℕ) (values : List Item) (w : Walked) → rest ≡ []
    → values_next hive path i rest values w ≡ (values, w)
unfolding values_next
values-end hive path i rest values w e = rw e refl

pub values-on : (hive : Ground) (path : List (List ℕ)) (i at : ℕ) (rest more : List ℕ) (values next : List Item) (w after : Walked)
    → rest ≡ at ∷ more → (next, after) ≡ value_next hive path i at values w
    → values_next hive path (i + 1) more next after ≡ values_next hive path i rest values w
unfolding values_next
values-on hive path i at rest more values next w after e d = rw (e, ← d) refl

pub leaves-end : (hive : Ground) (path : List (List ℕ)) (rest : List ℕ) (e : Entries) (w : Walked) → rest ≡ []
    → leaves_next hive path rest e w ≡ (e, w)
unfolding leaves_next
leaves-end hive path rest e w d = rw d refl

pub leaves-on : (hive : Ground) (path : List (List ℕ)) (at : ℕ) (rest more : List ℕ) (e next : Entries) (w after : Walked)
    → rest ≡ at ∷ more → (next, after) ≡ leaf_next hive path at e w
    → leaves_next hive path more next after ≡ leaves_next hive path rest e w
unfolding leaves_next
leaves-on hive path at rest more e next w after d f = rw (d, ← f) refl

pub item-pushed : (values : List Item) (v : Item) → item_names (values ++ v ∷ []) ≡ item_names values ++ v.name ∷ []
item-pushed values v = map_push (λ (w : Item). w.name) values v

-- ---- keys

pub key-deep : (left : ℕ) (hive : Ground) (above : List ℕ) (path names : List (List ℕ)) (i at : ℕ) (w : Walked) → left ≡ 0
    → judged_key left hive above path names i at w
    ≡ (None, say w (key_line path i (fault_at TooDeep at) (reading key_node_at hive.cells at)))
unfolding judged_key
key-deep zero hive above path names i at w e = refl
key-deep (suc left) hive above path names i at w e = absurd (omega arith)

pub key-next : (left : ℕ) (hive : Ground) (above : List ℕ) (path names : List (List ℕ)) (i at : ℕ) (w : Walked) → 0 < left
    → judged_key left hive above path names i at w
    ≡ key_done (judged_key (left - 1) hive) hive above path i at w (part (node_form false names) node_long false hive w.claims at)
unfolding judged_key
key-next zero hive above path names i at w h = absurd (omega arith)
key-next (suc left) hive above path names i at w h = let e : suc left - 1 ≡ left = omega arith in rw e refl

pub notes-deep : (left : ℕ) (hive : Ground) (above : List ℕ) (path names : List (List ℕ)) (i at : ℕ) (w : Walked) (notes : List Incomplete)
    → left ≡ 0 → notes_key left hive above path names i at w notes ≡ notes
unfolding notes_key
notes-deep zero hive above path names i at w notes e = refl
notes-deep (suc left) hive above path names i at w notes e = absurd (omega arith)

pub notes-next : (left : ℕ) (hive : Ground) (above : List ℕ) (path names : List (List ℕ)) (i at : ℕ) (w : Walked) (notes : List Incomplete)
    → 0 < left → notes_key left hive above path names i at w notes
    ≡ notes_done (judged_key (left - 1) hive) (notes_key (left - 1) hive) hive above path at w notes
    (part (node_form false names) node_long false hive w.claims at)
unfolding notes_key
notes-next zero hive above path names i at w notes h = absurd (omega arith)
notes-next (suc left) hive above path names i at w notes h = let e : suc left - 1 ≡ left = omega arith in rw e refl

pub ruleset key_steps = (key-deep, key-next, notes-deep, notes-next)

pub keys-end : (judge : Judge) (above : List ℕ) (path : List (List ℕ)) (i : ℕ) (rest : List ℕ) (keys : List Tree) (w : Walked) → rest ≡ []
    → keys_next judge above path i rest keys w ≡ (keys, w)
unfolding keys_next
keys-end judge above path i rest keys w e = rw e refl

pub keys-on : (judge : Judge) (above : List ℕ) (path : List (List ℕ)) (i at : ℕ) (rest more : List ℕ) (keys next : List Tree) (w after : Walked)
    → rest ≡ at ∷ more → (next, after) ≡ with_child keys (judge above path (key_names keys) i at w)
    → keys_next judge above path (i + 1) more next after ≡ keys_next judge above path i rest keys w
unfolding keys_next
keys-on judge above path i at rest more keys next w after e d = rw (e, ← d) refl

pub notes-end : (judge : Judge) (more : Notes) (own : Incomplete) (above : List ℕ) (path : List (List ℕ)) (i : ℕ) (rest : List ℕ) (keys : List Tree)
    (w : Walked) (told : Bool) (notes : List Incomplete) → rest ≡ []
    → notes_next judge more own above path i rest keys w told notes ≡ notes
unfolding notes_next
notes-end judge more own above path i rest keys w told notes e = rw e refl

pub notes-on : (judge : Judge) (more : Notes) (own : Incomplete) (above : List ℕ) (path : List (List ℕ)) (i at : ℕ) (rest others : List ℕ)
    (keys next : List Tree) (w after : Walked) (child : Option Tree) (told then : Bool) (notes new : List Incomplete)
    → rest ≡ at ∷ others → (child, after) ≡ judge above path (key_names keys) i at w → (next, after) ≡ with_child keys (child, after)
    → then ≡ (told || not (is_some child))
    → new ≡ noted (not told && not (is_some child)) own (more above path (key_names keys) i at w notes)
    → notes_next judge more own above path (i + 1) others next after then new ≡ notes_next judge more own above path i rest keys w told notes
unfolding notes_next
notes-on judge more own above path i at rest others keys next w after child told then notes new e d n t m = rw (e, t, m, ← d, ← n) refl

-- ---- children that are found

pub found-end : (judge : Judge) (above : List ℕ) (path : List (List ℕ)) (rest : List ℕ) (keys : List Tree) (w : Walked) → rest ≡ []
    → found_next judge above path rest keys w ≡ (keys, w)
unfolding found_next
found-end judge above path rest keys w e = rw e refl

pub found-on : (judge : Judge) (above : List ℕ) (path : List (List ℕ)) (at : ℕ) (rest others : List ℕ) (keys next : List Tree) (w after : Walked)
    → rest ≡ at ∷ others → (next, after) ≡ with_child keys (unsaid w (judge above path (key_names keys) 0 at w))
    → found_next judge above path others next after ≡ found_next judge above path rest keys w
unfolding found_next
found-on judge above path at rest others keys next w after e d = rw (e, ← d) refl

pub found-notes-end : (judge : Judge) (more : Notes) (above : List ℕ) (path : List (List ℕ)) (rest : List ℕ) (keys : List Tree) (w : Walked)
    (notes : List Incomplete) → rest ≡ [] → found_notes judge more above path rest keys w notes ≡ notes
unfolding found_notes
found-notes-end judge more above path rest keys w notes e = rw e refl

pub found-notes-on : (judge : Judge) (more : Notes) (above : List ℕ) (path : List (List ℕ)) (at : ℕ) (rest others : List ℕ) (keys next : List Tree)
    (w after : Walked) (notes new : List Incomplete) → rest ≡ at ∷ others
    → (next, after) ≡ with_child keys (unsaid w (judge above path (key_names keys) 0 at w))
    → new ≡ more above path (key_names keys) 0 at w notes
    → found_notes judge more above path others next after new ≡ found_notes judge more above path rest keys w notes
unfolding found_notes
found-notes-on judge more above path at rest others keys next w after notes new e d n = rw (e, ← d, n) refl

pub key-pushed : (keys : List Tree) (t : Tree) → key_names (keys ++ t ∷ []) ≡ key_names keys ++ (head t).name ∷ []
key-pushed keys t = map_push (λ u. (head u).name) keys t

pub ruleset pushes = (item-pushed, key-pushed)

-- ---- another root

pub least-here : (hive : Ground) (n at : ℕ) → 0 < n → has_root_flag (reading key_node_at hive.cells at) ≡ true
    → least_root hive n at ≡ Some at
unfolding least_root
least-here hive zero at h e = absurd (omega arith)
least-here hive (suc n) at h e = rw e refl

pub least-on : (hive : Ground) (n at : ℕ) → 0 < n → has_root_flag (reading key_node_at hive.cells at) ≡ false
    → least_root hive (n - 1) (at + 8) ≡ least_root hive n at
unfolding least_root
least-on hive zero at h e = absurd (omega arith)
least-on hive (suc n) at h e = let d : suc n - 1 ≡ n = omega arith in rw (d, e) refl

pub least-end : (hive : Ground) (n at : ℕ) → n ≡ 0 → least_root hive n at ≡ None
unfolding least_root
least-end hive zero at e = refl
least-end hive (suc n) at e = absurd (omega arith)
