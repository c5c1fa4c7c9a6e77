-- How much was salvaged, and how much is lost? (this project's own)
use Rattle.std.specs.Prelude.{ℕ, ◌+◌, Bool, true, false, if◌then◌else◌, List, [], ◌∷◌, Option, Some, None}
use Rattle.hive_model.specs.Tree.{Tree, key_count, item_count}
use Rattle.nt_bytes.specs.Counts.{capped}
use Rattle.salvage_walk.specs.declared.lines.WalkLine.{WalkLine}
use Rattle.salvage_walk.specs.declared.lines.WalkLine.TheVariants as lines
use Rattle.salvage_parents.specs.declared.search.ParentLine.{ParentLine}
use Rattle.salvage_parents.specs.declared.search.ParentLine.TheVariants as parents

-- how many keys and values a tree has, 0 where there is none; counts stay at the greatest number of 64 bits
abbrev pub keys_in : Option Tree → ℕ
keys_in None = 0
keys_in (Some t) = capped (key_count t)

abbrev pub values_in : Option Tree → ℕ
values_in None = 0
values_in (Some t) = capped (item_count t)

-- the line says that a part is left out, or is a list that is too short
abbrev pub is_loss : WalkLine → Bool
is_loss (lines.Root fault) = true
is_loss (lines.RootAt at) = false
is_loss lines.NoRoot = false
is_loss (lines.Key fault path) = true
is_loss (lines.KeyAt fault i path) = true
is_loss (lines.Part fault part path) = true
is_loss (lines.Value fault name path) = true
is_loss (lines.ValueAt fault i path) = true
is_loss (lines.Nothing at path) = false

-- the line is that of a fault
abbrev pub is_fault : WalkLine → Bool
is_fault (lines.Root fault) = true
is_fault (lines.RootAt at) = false
is_fault lines.NoRoot = false
is_fault (lines.Key fault path) = true
is_fault (lines.KeyAt fault i path) = true
is_fault (lines.Part fault part path) = true
is_fault (lines.Value fault name path) = true
is_fault (lines.ValueAt fault i path) = true
is_fault (lines.Nothing at path) = true

-- how many of the lines say so
abbrev pub losses : List WalkLine → ℕ
losses [] = 0
losses (line ∷ said) = (if is_loss line then 1 else 0) + losses said

-- the same of the lines that are printed while keys are looked for by their parents
abbrev pub is_said_loss : ParentLine → Bool
is_said_loss (parents.Walked line) = is_loss line
is_said_loss (parents.Found count path) = false

abbrev pub said_losses : List ParentLine → ℕ
said_losses [] = 0
said_losses (line ∷ lines) = (if is_said_loss line then 1 else 0) + said_losses lines

abbrev pub is_said_fault : ParentLine → Bool
is_said_fault (parents.Walked line) = is_fault line
is_said_fault (parents.Found count path) = false
