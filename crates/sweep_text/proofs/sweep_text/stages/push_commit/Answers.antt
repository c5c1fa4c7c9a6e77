use Rattle.std.proofs.Common.{◌+◌, List, ℕ, length, ap, arith}
use Rattle.std.proofs.lemmas.List.FromFn.{length-range_with_len}
use Rattle.sweep_text.proofs.sweep_text.stages.push_commit.Goals as goal

pub push_stages-requires-clause-log : goal.push_stages-requires-clause-log
push_stages-requires-clause-log c =
    omega (
      arith,
      ap (λ (l : List ℕ). length l) c.as_slice.ensures,
      ap (λ (l : List ℕ). length l) c.in_ok-log.ensures,
      length-range_with_len 0 (1 + c.args.bitmap + length c.args.sectors.now),
      c.requires.bitmap,
      c.requires.sectors,
    )
