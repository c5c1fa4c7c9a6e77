use Rattle.std.proofs.Common.{◌≡◌, ◌+◌, ◌≤◌, length}
use Rattle.salvage_bins.specs.Layout.{joined, laid, layout_of}
use Rattle.salvage_bins.proofs.layout.lay_out.Given as goal

abbrev pub invariant-stretches : goal.invariant-stretches
invariant-stretches l = record {
  small : l.at + length l.rest ≤ 268435456;
  told : joined (record { marks = l.marks.items; broken = l.broken.items }) (laid l.left l.at l.rest) ≡ layout_of l.bytes;
}

abbrev pub decreases-stretches : goal.decreases-stretches
decreases-stretches l = l.left
