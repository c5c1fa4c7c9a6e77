use Rattle.std.proofs.Common.{◌≡◌, ◌+◌, ◌<◌, Some, None, length, drop, arith}
use Rattle.std.specs.List.{position_or_len}
use Rattle.std.proofs.lemmas.Str.Pattern.{split_once_first}
use Rattle.std.proofs.lemmas.Bool.Decides.{nat_tests}
use Rattle.refusal_reason.specs.reason_lines.Files.{is_equals}
use Rattle.refusal_reason.proofs.reason_lines.files.split.Goals as goal

pub returns-in-Some-clause-name : goal.returns-in-Some-clause-name
returns-in-Some-clause-name c =
    (split_once_first 61 c.args.word.now (Some (c.in-Some.name, c.in-Some.value)) c.in-Some.ensures.cases
    (omega arith)).1

pub returns-in-Some-clause-value : goal.returns-in-Some-clause-value
returns-in-Some-clause-value c =
    let parts = split_once_first 61 c.args.word.now (Some (c.in-Some.name, c.in-Some.value)) c.in-Some.ensures.cases
    (omega arith) in
    let inside : position_or_len is_equals c.args.word.now < length c.args.word.now = parts.0 in
    let back : c.in-Some.value.now ≡ drop (position_or_len is_equals c.args.word.now + 1) c.args.word.now = parts.2 in
    grind (arith, nat_tests)

pub returns-in-None-clause-value : goal.returns-in-None-clause-value
returns-in-None-clause-value c =
    let lacks : position_or_len is_equals c.args.word.now ≡ length c.args.word.now =
    split_once_first 61 c.args.word.now None c.in-None.ensures.cases (omega arith) in
    grind (arith, nat_tests)
