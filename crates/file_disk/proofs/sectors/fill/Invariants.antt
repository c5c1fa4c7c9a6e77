use Rattle.std.proofs.Common.{◌-◌, ◌≡◌, ◌≤◌, ◌*◌}
use Rattle.std.specs.Option.{IfSome}
use Rattle.file_disk.specs.Asked.{ReadsSector}
use Rattle.file_disk.proofs.GivenLemmas.{Read}
use Rattle.file_disk.proofs.sectors.fill.Given as goal

abbrev pub invariant-loop-got : goal.invariant-loop-got
invariant-loop-got g l = (l.got ≤ 512) × ReadsSector l.sector (g.F.SectorFile.asked l.fn.file) (g.F.SectorFile.asked l.file)
    × (g.F.SectorFile.failed l.file ≡ g.F.SectorFile.failed l.fn.file)
    × IfSome (g.F.SectorFile.holds l.fn.file) (λ bytes. Read bytes (512 * l.sector) l.got l.into)
    × (g.F.SectorFile.holds l.file ≡ g.F.SectorFile.holds l.fn.file)

abbrev pub decreases-loop-got : goal.decreases-loop-got
decreases-loop-got g l = 512 - l.got
