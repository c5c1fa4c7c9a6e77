-- Which further children does a key have, whose nodes are at given places (this project's own)?
use Rattle.std.specs.Prelude.{ℕ, List, [], ◌∷◌, Option, Some, None}
use Rattle.hive_model.specs.Tree.{Tree}
use Rattle.salvage_walk.specs.declared.lines.Incomplete.{Incomplete}
use Rattle.salvage_walk.specs.Walked.{Walked}
use Rattle.salvage_walk.specs.Keys.{Judge, key_names, with_child}
use Rattle.salvage_walk.specs.Incomplete.{Notes}

-- a child as it was judged; where it is left out nothing is said of it
abbrev pub unsaid : Walked → Option Tree × Walked → Option Tree × Walked
unsaid w (Some t, after) = (Some t, after)
unsaid w (None, after) = (None, w)

-- these children of a key and those at these places, judged in turn
unfoldable pub found_next : Judge → List ℕ → List (List ℕ) → List ℕ → List Tree → Walked → List Tree × Walked
found_next judge above path [] keys w = (keys, w)
found_next judge above path (at ∷ rest) keys w =
    let next = with_child keys (unsaid w (judge above path (key_names keys) 0 at w)) in found_next judge above path rest next.0 next.1

-- what was noted, and the incomplete keys from them on
unfoldable pub found_notes : Judge → Notes → List ℕ → List (List ℕ) → List ℕ → List Tree → Walked → List Incomplete → List Incomplete
found_notes judge more above path [] keys w notes = notes
found_notes judge more above path (at ∷ rest) keys w notes =
    let next = with_child keys (unsaid w (judge above path (key_names keys) 0 at w)) in
    found_notes judge more above path rest next.0 next.1 (more above path (key_names keys) 0 at w notes)
