use Rattle.std.proofs.Common.{List, length, sym, ap, ◌∙◌, arith}
use Rattle.boot_script.specs.declared.boot_script.event.Event.{Event}
use Rattle.boot_script.proofs.SweepLemmas.{last-popped}
use Rattle.boot_script.proofs.sweep_script.line.last_of.Goals as goal

pub returns : goal.returns
returns c =
    last-popped c.args.script c.pop.new.self.items c.pop.result (sym c.into_vec-events.ensures ∙ c.pop.ensures.items)
    (λ some. c.pop.ensures.variant.1 (omega (arith, c.into_vec-events.result.ok, ap (λ (l : List Event). length l) c.into_vec-events.ensures, some)))
