use Rattle.std.proofs.Common.{◌≤◌, length, sym, subst}
use Rattle.salvage_file.specs.declared.opening.Opened.{Opened}
use Rattle.salvage_file.proofs.FileLemmas.{opened-small}
use Rattle.salvage_file.proofs.salvaging.salvage_file.Goals as goal

pub hive_as-requires : goal.hive_as-requires
hive_as-requires c =
    subst (λ (o : Opened). length o.bins ≤ 268435456) (sym c.in_ok-opened.ensures) (opened-small c.as_slice.result.now c.as_slice-2.result.now)
