use Rattle.std.proofs.Common.{◌≡◌, true, Option, Some, None, Ok, ◌∙◌, ap}
use Rattle.std.proofs.lemmas.Result.{err_from_is_err_and}
use Rattle.hive_model.specs.Asked.{asked_if_read, asked_behind_base, asked_of}
use Rattle.hive_model.specs.Base.{Base}
use Rattle.hive_model.specs.Image.{Image}
use Rattle.hive_model.specs.Recovery.{base_in}
use Rattle.hive_log.proofs.AskedParts.{asks_no_more, asks_last}
use Rattle.hive_log.proofs.AskedWhole.{base_part, base_refused, base_asked}
use Rattle.hive_log.proofs.Finding.{by_fault}
use Rattle.hive_log.proofs.SoFar.{fault_on}
use Rattle.hive_log.proofs.looking.read_recovered.Given.{Over}
use Rattle.hive_log.proofs.looking.read_recovered.Goals as goal
use Rattle.hive_log.proofs.looking.read_recovered.Goals.{In_ok-base}

-- what the base block leads to is asked for after it
follows : (g : Over) (c : In_ok-base g) (opened : Option Base) → c.in_ok-base.field-0 ≡ opened → g.D.Disk.tells ≡ true
    → base_part (g.D.Disk.state c.args.disk.now).held
    (asked_behind_base (g.D.Disk.state c.read_primary_block.new.disk).held opened)
    ≡ asked_of (g.D.Disk.state c.args.disk.now).held
follows g c opened is tells =
    let h = (g.D.Disk.state c.args.disk.now).held in
    ap (λ (i : Image). base_part h (asked_behind_base i opened)) (c.read_primary_block.ensures.look.held tells)
    ∙ base_asked h opened (c.in_ok-base.ensures.block tells ∙ ap (λ (o : Option Base). Ok o) is)

pub returns-in_err-base-clause-exact : goal.returns-in_err-base-clause-exact
returns-in_err-base-clause-exact g c = λ tells.
    let p = err_from_is_err_and c.from_residual.result c.from_residual.ensures.1 in
    rw (p.1, p.2) (fault_on c.in_err-base.field-0.0 _ _ (by_fault (g.D.Disk.state c.args.disk.now).held)
    (c.in_err-base.ensures.block tells))

pub returns-in_err-base-clause-asked : goal.returns-in_err-base-clause-asked
returns-in_err-base-clause-asked g c =
    let h = (g.D.Disk.state c.args.disk.now).held in
    asks_no_more c.in_err-base.ensures.asked c.from_residual.result c.from_residual.ensures.1
    (asked_if_read (base_in h) (asked_behind_base h)) (asked_of h) (λ tells. base_refused h)

pub returns-in-Some-clause-asked : goal.returns-in-Some-clause-asked
returns-in-Some-clause-asked g c =
    asks_last c.in_ok-base.ensures.asked _ _ c.read_behind.result c.read_behind.ensures.asked
    (follows g (goal.at.returns-in-Some-clause-asked g c).In_ok-base (Some c.in-Some.base) c.in-Some.is)

pub returns-in-None-clause-asked : goal.returns-in-None-clause-asked
returns-in-None-clause-asked g c =
    asks_last c.in_ok-base.ensures.asked _ _ c.read_dirty.result c.read_dirty.ensures.asked
    (follows g (goal.at.returns-in-None-clause-asked g c).In_ok-base None c.in-None.is)
