use Rattle.std.proofs.lemmas.Fmt.{decimal_digit}
use Rattle.std.proofs.Common.{◌∷◌, [], ◌+◌, append_assoc}
use Rattle.tree_text.proofs.line.push_number.Goals as goal

pub returns-then-number-lt10 : goal.returns-then-number-lt10
returns-then-number-lt10 c =
    let digit = decimal_digit c.args.number c.if-number-lt10.true in
    rw (digit, append_assoc c.args.out.now.items (32 ∷ []) ((48 + c.args.number) ∷ [])) c.push_digit.ensures
