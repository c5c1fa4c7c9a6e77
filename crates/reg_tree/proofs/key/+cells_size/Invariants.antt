use Rattle.std.proofs.Common.{◌≡◌, take}
use Rattle.hive_model.specs.Size.{size}
use Rattle.nt_bytes.specs.Counts.{capped}
use Rattle.std.specs.Prelude.{sum_by}
use Rattle.reg_tree.proofs.key.+cells_size.Given as goal

abbrev pub invariant-Keys::cells_size-loop-child : goal.invariant-Keys::cells_size-loop-child
invariant-Keys::cells_size-loop-child l =
    l.total ≡ capped (sum_by (size l.version l.shared) (take l.child-index l.child-items))
