use Rattle.std.proofs.Common.{◌∙◌, ◌∷◌, ℕ, List, false, get_or, ap}
use Rattle.start_model.specs.Sets.{has_number}
use Rattle.select_keys.specs.Numbers.{with_number}
use Rattle.select_keys.proofs.NumberLemmas.{numbers_marked-set, has-with_number}
use Rattle.select_keys.proofs.taken.TakenNumbers.add.Goals as goal

pub returns-clause-listed : goal.returns-clause-listed
returns-clause-listed c =
    numbers_marked-set c.self.inside.marks c.args.number c.self.invariant c.requires.low c.requires.high
    ∙ ap (with_number c.args.number) c.self.view_is

pub returns-clause-has : goal.returns-clause-has
returns-clause-has c = λ k.
    ap (λ ns. has_number ns k)
    (numbers_marked-set c.self.inside.marks c.args.number c.self.invariant c.requires.low c.requires.high)
    ∙ has-with_number (λ n. get_or c.self.inside.marks n false) c.args.number k c.requires.low c.requires.high
    ∙ ap (λ (ns : List ℕ). has_number (c.args.number ∷ ns) k) c.self.view_is
