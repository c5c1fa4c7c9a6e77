-- A key's descriptor and the offset of its cell.
use Rattle.std.proofs.Common.{◌≡◌, ℕ, List, [], Ok, refl, ◌∙◌}
use Rattle.hive_model.specs.KeyNode.{KeyNode}
use Rattle.hive_model.specs.Bins.{Cells}
use Rattle.hive_model.specs.Walk.{nowhere}
use Rattle.hive_model.specs.Stands.{security_of}

-- a node's descriptor follows from where its cell is
same-cell : (cells : Cells) (a b : KeyNode) → a.security ≡ b.security → security_of cells a ≡ security_of cells b
unfolding security_of
same-cell cells a b e = rw e refl

-- one in a cell that another node names is that one's too
pub its-own : (cells : Cells) (node other : KeyNode) (bytes : List ℕ) → security_of cells node ≡ Ok bytes
    → other.security ≡ node.security → security_of cells other ≡ Ok bytes
its-own cells node other bytes e same = same-cell cells other node same ∙ e

-- a node that names no cell has none
pub no-cell : (cells : Cells) (node : KeyNode) → node.security ≡ nowhere → security_of cells node ≡ Ok []
unfolding security_of
no-cell cells node e = rw e refl
