use Rattle.std.proofs.Common.{◌≡◌, ◌≤◌, ◌+◌, ◌*◌, ◌++◌, length}
use Rattle.nt_bytes.specs.Text.{items_of, multi_sz_of}
use Rattle.nt_bytes.proofs.strings.multi_sz.Given as goal

abbrev pub invariant-items : goal.invariant-items
invariant-items l = record {
  so_far : l.names ++ items_of l.rest ≡ multi_sz_of l.fn.bytes;
  half : 2 * length l.names + 2 * length l.rest ≤ length l.fn.bytes;
}

abbrev pub decreases-items : goal.decreases-items
decreases-items l = length l.rest
