-- When two ARC paths mean the same directory (this project's own).
use Rattle.std.specs.Prelude.{Bool, true, false, ◌&&◌, ◌==◌}
use Rattle.nt_bytes.specs.Text.{names_same}
use Rattle.boot_ini.specs.declared.arc_path.arc.Arc.{Arc}
use Rattle.boot_ini.specs.declared.arc_path.arc.ArcKind.{ArcKind}
use Rattle.boot_ini.specs.declared.arc_path.arc.ArcKind.TheVariants.{Multi, Scsi, Signature}

abbrev pub same_kinds : ArcKind → ArcKind → Bool
same_kinds Multi Multi = true
same_kinds Scsi Scsi = true
same_kinds Signature Signature = true
same_kinds _ _ = false

-- all numbers and the kind are equal, and the directories but for the case of `a` to `z`
abbrev pub same_paths : Arc → Arc → Bool
same_paths a b =
    same_kinds a.kind b.kind && a.controller == b.controller && a.disk == b.disk && a.rdisk == b.rdisk && a.partition == b.partition
    && names_same a.dir b.dir
