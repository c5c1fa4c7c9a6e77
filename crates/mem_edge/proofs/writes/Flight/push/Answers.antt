use Rattle.std.proofs.Common.{◌≡◌, [], ◌∷◌, ◌++◌, sym, ◌∙◌, ap, rules}
use Rattle.hive_model.specs.Image.{put}
use Rattle.mem_edge.specs.declared.writes.InFlight.{InFlight}
use Rattle.mem_edge.specs.Views.{latest_of, write_of, writes_of, flying}
use Rattle.mem_edge.proofs.FlightLemmas.{flying_push, map_push}
use Rattle.mem_edge.proofs.writes.Flight.push.Goals as goal

-- The memory was reserved, so the write is pushed.
pub invariant_of-self-2 : goal.invariant_of-self-2
invariant_of-self-2 c =
    let f = c.args.self.now in
    let w : InFlight = record { at = c.args.at; bytes = c.in_ok-shared.shared } in
    let pushed : c.push.new.self.items ≡ f.writes.items ++ w ∷ [] = search rules in
    record {
      found = λ a.
          flying_push (latest_of f.latest) (latest_of c.lay.new.self) (writes_of f.writes.items) (write_of w) a
          (f.found a)
          (c.in_ok-lay.ensures.laid a ∙ ap (λ b. put (latest_of f.latest) (w.at, b) a) c.in_ok-latest.ensures.cases)
          ∙ ap (λ ws. flying ws a) (sym (ap writes_of pushed ∙ map_push write_of f.writes.items w));
    }
