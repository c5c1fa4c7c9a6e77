use Rattle.std.proofs.Common.{sym, ◌∙◌, arith}
use Rattle.hive_edit.proofs.AddStepLemmas.{refuses_there, child_there}
use Rattle.hive_edit.proofs.hive.HiveBytes.judge_name.Goals as goal

pub returns-then-is_some : goal.returns-then-is_some
returns-then-is_some c =
    refuses_there c.args.self.now c.args.name.now (sym c.is_bad_name.ensures ∙ c.if-is_bad_name.false)
    (omega (arith, c.if-name-gt-LONGEST_KEY_NAME.false))
    (child_there c.self.inside.cells c.cells.result.now c.self.inside.root c.self.inside.version c.self.inside.bulk
    c.args.self.now c.args.name.now c.child_at.result _
    c.self.invariant c.self.view_is c.cells.ensures c.child_at.ensures.place
    (sym c.is_some.ensures ∙ c.if-is_some.true))

pub returns : goal.returns
returns c = record {
  good = sym c.is_bad_name.ensures ∙ c.if-is_bad_name.false;
  short = omega (arith, c.if-name-gt-LONGEST_KEY_NAME.false);
  absent = child_there c.self.inside.cells c.cells.result.now c.self.inside.root c.self.inside.version
      c.self.inside.bulk c.args.self.now c.args.name.now c.child_at.result _
      c.self.invariant c.self.view_is c.cells.ensures c.child_at.ensures.place
      (sym c.is_some.ensures ∙ c.if-is_some.false);
}
