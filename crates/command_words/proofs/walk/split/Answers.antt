use Rattle.std.proofs.Common.{◌∙◌, Some, None, arith, ap, sym}
use Rattle.std.proofs.lemmas.Str.Pattern.{split_parts}
use Rattle.command_words.specs.Walk.{attached_in}
use Rattle.command_words.proofs.SplitLemmas.{attached-at, attached-without}
use Rattle.command_words.proofs.walk.split.Goals as goal

pub returns-in-Some-clause-value : goal.returns-in-Some-clause-value
returns-in-Some-clause-value c =
    let parts = split_parts 61 c.args.word.now (Some (c.in-Some.name, c.in-Some.value)) c.in-Some.ensures.cases (omega arith) in
    sym (ap attached_in parts.0 ∙ attached-at c.in-Some.name.now c.in-Some.value.now parts.1)

pub returns-in-None-clause-value : goal.returns-in-None-clause-value
returns-in-None-clause-value c =
    let lacks = split_parts 61 c.args.word.now None c.in-None.ensures.cases (omega arith) in
    sym (attached-without c.args.word.now lacks)
