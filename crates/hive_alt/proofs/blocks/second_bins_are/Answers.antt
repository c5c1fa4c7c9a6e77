use Rattle.std.proofs.Common.{◌≡◌, ◌+◌, ◌/◌, true, sym, ◌∙◌, ap, length}
use Rattle.hive_model.specs.Image.{Image}
use Rattle.hive_model.specs.Recovery.{log_in, sector}
use Rattle.nt_edge.proofs.Leaving.{leaves_then}
use Rattle.hive_log.proofs.Looks.{look_ok, look_on}
use Rattle.hive_alt.specs.Twin.{has_bytes}
use Rattle.hive_alt.proofs.ReadingLemmas.{reads_then}
use Rattle.hive_alt.proofs.SeenLemmas.{ok_bool, ok_is_bool}
use Rattle.hive_alt.proofs.TwinLemmas.{second_more, second_less}
use Rattle.hive_alt.proofs.blocks.second_bins_are.Given.{Over}
use Rattle.hive_alt.proofs.blocks.second_bins_are.Goals as goal
use Rattle.hive_alt.proofs.blocks.second_bins_are.Goals.{In_ok-same}

-- whether the second copy had that sector at the start
compared : (g : Over) (c : In_ok-same g) → g.D.Disk.tells ≡ true
    → has_bytes (sector c.args.bins.now c.loop-i.i) (log_in (g.D.Disk.state c.args.disk.now).held (8 + c.loop-i.i))
    ≡ c.in_ok-same.same
compared g c tells =
    let has = λ (x : Image). has_bytes (sector c.args.bins.now c.loop-i.i) (log_in x (8 + c.loop-i.i)) in
    sym (ap has (c.loop-i.invariant.look.held tells))
    ∙ ok_is_bool (has (g.D.Disk.state c.loop-i.disk).held) c.in_ok-same.same (c.in_ok-same.ensures.same tells)

pub returns-in_err-same-clause-asked : goal.returns-in_err-same-clause-asked
returns-in_err-same-clause-asked g c = reads_then c.loop-i.invariant.asked c.in_err-same.ensures.asked

pub returns-then-not-same-clause-asked : goal.returns-then-not-same-clause-asked
returns-then-not-same-clause-asked g c = reads_then c.loop-i.invariant.asked c.in_ok-same.ensures.asked

pub returns-then-not-same-clause-same : goal.returns-then-not-same-clause-same
returns-then-not-same-clause-same g c = λ tells.
    ap ok_bool (second_less (g.D.Disk.state c.args.disk.now).held c.args.bins.now c.loop-i.i
    (length c.args.bins.now / 512) c.loop-i-test.true
    (compared g (goal.at.returns-then-not-same-clause-same g c).In_ok-same tells ∙ c.if-not-same.true))

pub loop-i-preserved : goal.loop-i-preserved
loop-i-preserved g c =
    record {
      on = look_on c.in_ok-same.ensures.look;
      look = leaves_then c.loop-i.invariant.look (look_ok c.in_ok-same.ensures.look);
      same = λ tells.
          second_more (g.D.Disk.state c.args.disk.now).held c.args.bins.now c.loop-i.i (c.loop-i.invariant.same tells)
          (compared g (goal.at.loop-i-preserved g c).In_ok-same tells ∙ c.if-not-same.false);
      asked = reads_then c.loop-i.invariant.asked c.in_ok-same.ensures.asked;
    }
