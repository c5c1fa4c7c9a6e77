use Rattle.std.proofs.Common.{◌+◌, ◌*◌, ℕ, ap, sym, ◌∙◌}
use Rattle.salvage_walk.proofs.SegmentLemmas.{numbers-length}
use Rattle.salvage_walk.proofs.parts.offsets_len.Goals as goal

pub returns-clause-exact : goal.returns-clause-exact
returns-clause-exact c =
    ap (λ (n : ℕ). 4 + 4 * n) (c.from.ensures ∙ sym (numbers-length 4 c.args.count c.args.entries.now))
