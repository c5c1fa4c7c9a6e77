use Rattle.boot_ini.proofs.Found.{parts_are_path}
use Rattle.boot_ini.proofs.arc_path.reading.read_arc.Goals as goal

pub returns-in_ok-from_slice-in-Ok-clause-path : goal.returns-in_ok-from_slice-in-Ok-clause-path
returns-in_ok-from_slice-in-Ok-clause-path c =
    parts_are_path c.args.text.now c.in-Ok.numbers c.in-Ok.dir.now c.in_ok-from_slice-in-Ok.field-0 c.in-Ok.ensures
    c.in_ok-from_slice-in-Ok.ensures
