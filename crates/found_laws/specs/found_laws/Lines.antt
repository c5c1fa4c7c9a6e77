-- Of which keys does a line say that children are missing, perhaps, and in which order are these noted?
use Rattle.std.specs.Prelude.{ℕ, ◌-◌, List, [], ◌∷◌, ◌++◌, length, map, take, Option, Some, None}
use Rattle.std.specs.List.{Contains}
use Rattle.salvage_walk.specs.declared.lines.Incomplete.{Incomplete}
use Rattle.salvage_walk.specs.declared.lines.KeyPart.{KeyPart}
use Rattle.salvage_walk.specs.declared.lines.KeyPart.TheVariants as parts
use Rattle.salvage_walk.specs.declared.lines.WalkLine.{WalkLine}
use Rattle.salvage_walk.specs.declared.lines.WalkLine.TheVariants as lines
use Rattle.salvage_parents.specs.declared.search.ParentLine.{ParentLine}
use Rattle.salvage_parents.specs.declared.search.ParentLine.TheVariants as printed
use Rattle.salvage_parents.specs.declared.search.SearchedTree.{SearchedTree}

abbrev pub lacking_part : KeyPart → List (List ℕ) → Option (List (List ℕ))
lacking_part parts.Keys path = Some path
lacking_part parts.Values path = None
lacking_part parts.Class path = None
lacking_part parts.Security path = None

-- the path of the key of which a line says so: that a list of its children is left out or too short, that their number is another one, or
-- that a child is left out, of which the line has the path
abbrev pub lacking : WalkLine → Option (List (List ℕ))
lacking (lines.Root fault) = None
lacking (lines.RootAt at) = None
lacking lines.NoRoot = None
lacking (lines.Key fault path) = Some (take (length path - 1) path)
lacking (lines.KeyAt fault i path) = Some path
lacking (lines.Part fault part path) = lacking_part part path
lacking (lines.Value fault name path) = None
lacking (lines.ValueAt fault i path) = None
lacking (lines.Nothing at path) = Some path

abbrev pub lacking_later : ParentLine → Option (List (List ℕ))
lacking_later (printed.Walked line) = lacking line
lacking_later (printed.Found count path) = None

-- Keys in the order of the first line that says so of each: a line that says so of no key notes none, nor does another line of a key that
-- was noted, and the first line of a key notes it.
pub data AreNoted : List Incomplete → List (Option (List (List ℕ))) → Type 0 where
  none_yet : AreNoted [] []
  by_none : (keys : List Incomplete) (said : List (Option (List (List ℕ)))) → AreNoted keys said → AreNoted keys (said ++ None ∷ [])
  by_another : (keys : List Incomplete) (said : List (Option (List (List ℕ)))) (own : Incomplete) → AreNoted keys said → Contains keys own
      → AreNoted keys (said ++ Some own.path ∷ [])
  by_first : (keys : List Incomplete) (said : List (Option (List (List ℕ)))) (own : Incomplete) → AreNoted keys said
      → AreNoted (keys ++ own ∷ []) (said ++ Some own.path ∷ [])

-- the incomplete keys of all lines, those of the walk first
abbrev pub AreIncomplete : List Incomplete → SearchedTree → Type 0
AreIncomplete keys r = AreNoted keys (map lacking r.lines ++ map lacking_later r.said)
