use Rattle.std.proofs.Common.{◌≡◌, ◌/◌, ◌&&◌, Bool, true, sym, ◌∙◌, ap, subst, length}
use Rattle.std.proofs.lemmas.Bool.{and_left}
use Rattle.hive_model.specs.Image.{Image}
use Rattle.hive_log.specs.Stops.{Reads}
use Rattle.hive_alt.specs.Twin.{second_in, has_fields, second_has}
use Rattle.hive_alt.proofs.ReadingLemmas.{reads_then}
use Rattle.hive_alt.proofs.SeenLemmas.{ok_bool, ok_is_bool}
use Rattle.hive_alt.proofs.blocks.second_is.Given.{Over}
use Rattle.hive_alt.proofs.blocks.second_is.Goals as goal
use Rattle.hive_alt.proofs.blocks.second_is.Goals.{In_ok-same}

-- whether the second copy's base block has these fields
compared : (g : Over) (c : In_ok-same g) → g.D.Disk.tells ≡ true
    → has_fields c.args.base.now (second_in (g.D.Disk.state c.args.disk.now).held) ≡ c.in_ok-same.same
compared g c tells = ok_is_bool _ c.in_ok-same.same (c.in_ok-same.ensures.same tells)

pub returns-then-not-same-clause-same : goal.returns-then-not-same-clause-same
returns-then-not-same-clause-same g c = λ tells.
    let h = (g.D.Disk.state c.args.disk.now).held in
    ap ok_bool (and_left (has_fields c.args.base.now (second_in h))
    (second_has h c.args.bins.now (length c.args.bins.now / 512))
    (compared g (goal.at.returns-then-not-same-clause-same g c).In_ok-same tells ∙ c.if-not-same.true))

pub returns-clause-asked : goal.returns-clause-asked
returns-clause-asked g c = reads_then c.in_ok-same.ensures.asked c.second_bins_are.ensures.asked

pub returns-clause-same : goal.returns-clause-same
returns-clause-same g c = λ tells.
    let has = λ (x : Image). second_has x c.args.bins.now (length c.args.bins.now / 512) in
    subst (λ (b : Bool). Reads c.second_bins_are.result (ok_bool b))
    (ap has (c.second_block_is.ensures.look.held tells)
    ∙ sym (ap (λ b. b && has (g.D.Disk.state c.args.disk.now).held)
    (compared g (goal.at.returns-clause-same g c).In_ok-same tells ∙ c.if-not-same.false)))
    (c.second_bins_are.ensures.same tells)
