use Rattle.std.proofs.Common.{◌≡◌, ℕ, Option, nat_eq, false, sym, ap, ◌∙◌}
use Rattle.std.specs.Option.{option_map_or}
use Rattle.nt_bytes.specs.Folding.{folded}
use Rattle.boot_phases.specs.service_entries.Named.{place_named}
use Rattle.boot_phases.proofs.TableLemmas.{only_place}
use Rattle.boot_phases.proofs.service_entries.table.ServiceTable.place_of.Goals as goal

pub returns : goal.returns
returns c =
    let name = c.args.name.now in
    let entries = c.args.self.now in
    let is : c.place_of_folded.result ≡ place_named (folded name) entries =
    c.place_of_folded.ensures.place
    ∙ ap (λ k. place_named k entries) (c.as_slice.ensures ∙ c.in_ok-key.ensures) in
    λ q. only_place name entries c.place_of_folded.ensures.differ q
    ∙ sym (ap (λ (o : Option ℕ). option_map_or (nat_eq q) o false) is)
