use Rattle.std.proofs.Common.{false, replicate, length, sym, ap, ◌∙◌, arith}
use Rattle.dependencies.proofs.WantLemmas.{owners_within, owners_len}
use Rattle.dependencies.proofs.waiting.unmet.Goals as goal

pub new-requires-2 : goal.new-requires-2
new-requires-2 c =
    rw c.in_ok-given.ensures.owners
    (owners_within c.args.kind 0 c.args.needs.now (length c.args.needs.now) (omega arith))

pub returns-clause-wants : goal.returns-clause-wants
returns-clause-wants c =
    let given = c.in_ok-given.ensures in
    let each = ap length given.owners ∙ owners_len c.args.kind 0 c.args.needs.now
    ∙ ap length (sym (c.in_ok-names.ensures ∙ given.names)) in
    c.in_ok-wants.ensures
    ∙ (λ i. record { count = length c.args.needs.now; owners = given.owners i; met = replicate (each i) false })
