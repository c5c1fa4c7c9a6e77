use Rattle.std.proofs.Common.{◌∙◌, ◌+◌, ◌-◌, ◌*◌, arith}
use Rattle.file_disk.proofs.CallLemmas.{reads_on}
use Rattle.file_disk.proofs.GivenLemmas.{read-more, read-end, on-both}
use Rattle.file_disk.proofs.sectors.fill.Goals as goal

pub returns-in_err-more-clause-asked : goal.returns-in_err-more-clause-asked
returns-in_err-more-clause-asked g c = reads_on (512 * c.args.sector + c.loop-got.got) (512 - c.loop-got.got) c.loop-got.invariant.1
    c.read_on.ensures.asked (omega arith) (omega (arith, c.loop-got.invariant.0))

pub returns-then-more-eq0-clause-asked : goal.returns-then-more-eq0-clause-asked
returns-then-more-eq0-clause-asked g c = reads_on (512 * c.args.sector + c.loop-got.got) (512 - c.loop-got.got) c.loop-got.invariant.1
    c.read_on.ensures.asked (omega arith) (omega (arith, c.loop-got.invariant.0))

pub loop-got-preserved : goal.loop-got-preserved
loop-got-preserved g c = (
  c.in_ok-more.ensures.within,
  reads_on (512 * c.args.sector + c.loop-got.got) (512 - c.loop-got.got) c.loop-got.invariant.1
      c.read_on.ensures.asked (omega arith) (omega (arith, c.loop-got.invariant.0)),
  c.in_ok-more.ensures.failed ∙ c.loop-got.invariant.2,
  on-both _ _ c.loop-got.invariant.4 c.loop-got.invariant.3 c.in_ok-more.ensures.given
      (λ bytes was is. read-more bytes _ _ _ _ _ was c.in_ok-more.ensures.before is),
  c.in_ok-more.ensures.held ∙ c.loop-got.invariant.4,
)

pub returns-then-more-eq0-clause-filled : goal.returns-then-more-eq0-clause-filled
returns-then-more-eq0-clause-filled g c = on-both _ _ c.loop-got.invariant.4 c.loop-got.invariant.3 c.in_ok-more.ensures.given
    (λ bytes was is. read-end bytes _ _ _ _ _ c.if-more-eq0.true was c.in_ok-more.ensures.before is)
