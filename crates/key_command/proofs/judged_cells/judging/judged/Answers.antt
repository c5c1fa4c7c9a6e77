use Rattle.hive_model.specs.Image.{image_of}
use Rattle.key_command.proofs.JudgedLemmas.{image_judged}
use Rattle.key_command.proofs.judged_cells.judging.judged.Goals as goal

pub returns : goal.returns
returns c = record {
  exact = image_judged (image_of c.args.primary.now c.args.log.now) c.in_ok-found.found c.judged_in.result
      c.in_ok-found.ensures.exact c.judged_in.ensures.exact;
}
