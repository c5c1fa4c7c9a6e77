use Rattle.std.proofs.Common.{◌≡◌, List, [], ◌∷◌, ◌++◌, map, ◌∙◌, ap, rules, true}
use Rattle.hive_model.specs.Image.{Image, Write}
use Rattle.nt_edge.specs.Disk.{Wake}
use Rattle.nt_edge.specs.declared.disk.Keep.TheVariants.{Everything}
use Rattle.mem_edge.specs.declared.store.Woke.{Woke}
use Rattle.mem_edge.specs.Seen.{Seen, seen_of}
use Rattle.mem_edge.specs.State.{state_of, wake_of}
use Rattle.mem_edge.specs.Views.{held_of, writes_of, left}
use Rattle.mem_edge.proofs.FlightLemmas.{map_push}
use Rattle.mem_edge.proofs.KeepLemmas.{left_crash}
use Rattle.mem_edge.proofs.bench.MemDiskBench.power_on.Goals as goal

-- The image in place and its copy in the wakes are the same, and are what the last cut left.
pub returns-clause-does : goal.returns-clause-does
returns-clause-does c =
    let d = c.args.self.now in
    let image = held_of c.in-Ok.image in
    let woke : Woke = record { image = c.in-Ok-copy.copy; cuts = d.cuts; faults = d.faults } in
    let pushed : c.push.new.self.items ≡ d.wakes.items ++ woke ∷ [] = search rules in
    let mark : Image → List Wake =
    λ i. map wake_of d.wakes.items ++ record { image = i; cuts = d.cuts; faults = d.faults } ∷ [] in
    let make : Image → List Write → List Wake → Seen = λ i f w. record (seen_of d) {
      disk = record (state_of d)
          { held = i; flight = f; on = true; history = record (state_of d).history { wakes = w } };
      keep = Everything;
    } in
    ap (λ f. make image (writes_of f) (map wake_of c.push.new.self.items)) c.new.ensures
    ∙ ap (λ w. make image [] (map wake_of w)) pushed
    ∙ ap (make image []) (map_push wake_of d.wakes.items woke ∙ ap mark c.in-Ok-copy.ensures)
    ∙ ap (λ i. make i [] (mark i)) c.in-Ok.ensures

-- so they are a crash image
pub returns-clause-woken : goal.returns-clause-woken
returns-clause-woken c =
    let d = c.args.self.now in
    let flight = writes_of d.flight.writes.items in (
      left d.keep (held_of d.image) flight,
      left_crash (held_of d.image) flight d.keep,
      ap (λ (s : Seen). s.disk) (returns-clause-does c),
    )
