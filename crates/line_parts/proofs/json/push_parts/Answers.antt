use Rattle.std.proofs.Common.{◌≡◌, ℕ, List, ◌++◌, subst}
use Rattle.std.specs.Prelude.{OnOk}
use Rattle.line_parts.proofs.Seen.{objects_of}
use Rattle.line_parts.proofs.json.push_parts.Goals as goal

pub returns : goal.returns
returns c =
    subst (λ (t : List ℕ). OnOk c.push_each.result (c.push_each.new.out.items ≡ c.args.out.now.items ++ t))
    (objects_of c.args.parts.now) c.push_each.ensures
