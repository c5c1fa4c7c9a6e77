-- Of which keys that stand are children missing, perhaps (this project's own)?
--
-- A key is incomplete where one of its lists has a line, where the lists name another number of children than it says, or where a child
-- is left out. Each is noted once, in the order of the first such line.
use Rattle.std.specs.Prelude.{ℕ, zero, suc, ◌+◌, ◌==◌, ◌&&◌, ◌||◌, Bool, true, false, not, is_some, List, [], ◌∷◌, ◌++◌, length, Option, Some, None, Result, Ok, Err}
use Rattle.nt_bytes.specs.declared.fault.HiveFaultKind.{HiveFaultKind}
use Rattle.hive_model.specs.Base.{fault_at}
use Rattle.hive_model.specs.KeyNode.{KeyNode}
use Rattle.hive_model.specs.Tree.{Tree}
use Rattle.salvage_bins.specs.Ground.{Ground}
use Rattle.salvage_walk.specs.declared.claims.Claim.{Claim}
use Rattle.salvage_walk.specs.declared.lines.Incomplete.{Incomplete}
use Rattle.salvage_walk.specs.declared.lines.WalkLine.TheVariants as lines
use Rattle.salvage_walk.specs.Parts.{part, node_form, node_long}
use Rattle.salvage_walk.specs.Walked.{Walked, say, using}
use Rattle.salvage_walk.specs.Steps.{class_step, security_step, values_step, entries_step}
use Rattle.salvage_walk.specs.Keys.{Judge, judged_key, key_names, with_child, least_root, root_part}

-- what was noted, and the incomplete keys from a child on that is judged so
abbrev pub Notes : Type 0
Notes = List ℕ → List (List ℕ) → List (List ℕ) → ℕ → ℕ → Walked → List Incomplete → List Incomplete

-- what was noted, and this key if it is incomplete
abbrev pub noted : Bool → Incomplete → List Incomplete → List Incomplete
noted true own notes = notes ++ own ∷ []
noted false own notes = notes

-- What was noted, and the incomplete keys from these children on, of which the first is the Ith; and their own key, unless it was noted
-- already, where one of them is left out.
unfoldable pub notes_next : Judge → Notes → Incomplete → List ℕ → List (List ℕ) → ℕ → List ℕ → List Tree → Walked → Bool → List Incomplete → List Incomplete
notes_next judge more own above path i [] keys w told notes = notes
notes_next judge more own above path i (at ∷ rest) keys w told notes =
    let judged = judge above path (key_names keys) i at w in
    let next = with_child keys judged in
    notes_next judge more own above path (i + 1) rest next.0 next.1 (told || not (is_some judged.0))
    (noted (not told && not (is_some judged.0)) own (more above path (key_names keys) i at w notes))

-- other lines were said in between
abbrev pub says_more : Walked → Walked → Bool
says_more before after = not (length before.lines == length after.lines)

abbrev pub incomplete_at : ℕ → List (List ℕ) → Incomplete
incomplete_at at path = record { at = at; path = path }

-- what was noted, and the incomplete keys from that of a node on, which `key_below` makes of it
unfoldable pub notes_below : Judge → Notes → Ground → List ℕ → List (List ℕ) → KeyNode → ℕ → Walked → List Incomplete → List Incomplete
notes_below judge more hive above path node at w notes =
    let class = class_step hive path node w in
    let security = security_step hive above path node class.1 in
    let values = values_step hive path node security.1 in
    let entries = entries_step hive path node at values.1 in
    let told = says_more values.1 entries.1 in
    notes_next judge more (incomplete_at at path) security.0 path 1 entries.0 [] entries.1 told
    (noted told (incomplete_at at path) notes)

abbrev pub notes_done : Judge → Notes → Ground → List ℕ → List (List ℕ) → ℕ → Walked → List Incomplete → Result (KeyNode × List Claim) HiveFaultKind
    → List Incomplete
notes_done judge more hive above path at w notes (Ok r) = notes_below judge more hive above (path ++ r.0.name ∷ []) r.0 at (using w r.1) notes
notes_done judge more hive above path at w notes (Err kind) = notes

-- what was noted, and the incomplete keys from a child on, where that many levels are left
unfoldable pub notes_key : ℕ → Ground → Notes
notes_key zero hive above path names i at w notes = notes
notes_key (suc left) hive above path names i at w notes =
    notes_done (judged_key left hive) (notes_key left hive) hive above path at w notes
    (part (node_form false names) node_long false hive w.claims at)

-- ---- from the root on

abbrev pub notes_root : Ground → ℕ → Walked → List Incomplete → KeyNode × List Claim → List Incomplete
notes_root hive at w notes r = notes_below (judged_key 511 hive) (notes_key 511 hive) hive [] [] r.0 at (using w r.1) notes

abbrev pub notes_there : Ground → ℕ → Walked → List Incomplete → Result (KeyNode × List Claim) HiveFaultKind → List Incomplete
notes_there hive at w notes (Ok r) = notes_root hive at (say w (lines.RootAt at)) notes r
notes_there hive at w notes (Err kind) = notes

-- from the root at an offset on, in place of another
abbrev pub notes_at : Ground → ℕ → Walked → List Incomplete → List Incomplete
notes_at hive at w notes = notes_there hive at w notes (root_part hive w.claims at)

abbrev pub notes_other : Ground → Walked → List Incomplete → Option ℕ → List Incomplete
notes_other hive w notes (Some at) = notes_at hive at w notes
notes_other hive w notes None = notes

abbrev pub notes_by : Ground → ℕ → Walked → List Incomplete → Result (KeyNode × List Claim) HiveFaultKind → List Incomplete
notes_by hive at w notes (Ok r) = notes_root hive at w notes r
notes_by hive at w notes (Err kind) = notes_other hive (say w (lines.Root (fault_at kind at))) notes (least_root hive hive.slots 0)

-- what was noted, and the incomplete keys of the tree at a root, or at another
abbrev pub notes_from : Ground → ℕ → Walked → List Incomplete → List Incomplete
notes_from hive root w notes = notes_by hive root w notes (root_part hive w.claims root)

-- the incomplete keys of the tree that is salvaged from a root
unfoldable pub incomplete : Ground → ℕ → List Incomplete
incomplete hive root = notes_from hive root (record { claims = []; lines = [] }) []
