use Rattle.std.proofs.Common.{◌∙◌, ap, arith}
use Rattle.hive_model.specs.Log.{byte_of, dirty}
use Rattle.hive_commit.proofs.KeptMarks.{byte_past, byte_still, byte_kept}
use Rattle.hive_commit.proofs.kept_marks.page_byte.Goals as goal

pub returns-then-k-len : goal.returns-then-k-len
returns-then-k-len c =
    byte_past c.args.pages.now c.args.new.now c.args.k c.len.ensures.whole c.requires.covered
    (omega (arith, c.len.ensures.count, c.if-k-len.true))

pub returns-in-None : goal.returns-in-None
returns-in-None c =
    byte_still c.args.pages.now c.args.new.now c.args.k c.len.ensures.whole c.requires.covered
    (omega (arith, c.len.ensures.count, c.if-k-len.false)) c.in-None.ensures

pub returns-in-Some : goal.returns-in-Some
returns-in-Some c =
    c.dirty_byte.ensures ∙ ap (λ q. byte_of (dirty c.in-Some.old.now q) 0) c.page_of.ensures.value
    ∙ byte_kept c.args.pages.now c.args.new.now c.in-Some.old.now c.args.k c.len.ensures.whole c.requires.covered
    (omega (arith, c.len.ensures.count, c.if-k-len.false)) c.in-Some.ensures.0 c.in-Some.ensures.1
