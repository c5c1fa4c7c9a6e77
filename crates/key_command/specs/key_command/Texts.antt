-- What is printed of what an image loads as? (this project's own)
use Rattle.std.specs.Prelude.{◌≡◌, ℕ, List, Result, Ok, Err}
use Rattle.nt_bytes.specs.declared.fault.ReadStop.{ReadStop}
use Rattle.nt_bytes.specs.declared.fault.ReadStop.TheVariants as read
use Rattle.hive_model.specs.Image.{Image}
use Rattle.hive_model.specs.State.{HiveState}
use Rattle.hive_model.specs.Tree.{Tree}
use Rattle.hive_model.specs.Load.{LoadsAs, LoadFault}

-- the text is that of the tree of a state that the image loads as
pub record IsTextOf (image : Image) (text : Tree → List ℕ) (out : List ℕ) : Type 0 where
  pub state : HiveState
  pub loads : LoadsAs image state
  pub is : out ≡ text state.tree

-- of an image: the text of what it loads as, or its first fault
abbrev pub PrintsOf : Image → (Tree → List ℕ) → Result (List ℕ) ReadStop → Type 0
PrintsOf image text (Ok out) = IsTextOf image text out
PrintsOf image text (Err (read.Fault f)) = LoadFault image f
PrintsOf image text (Err read.Memory) = Unit {0}
