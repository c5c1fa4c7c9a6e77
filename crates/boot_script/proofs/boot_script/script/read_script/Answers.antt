use Rattle.std.proofs.Common.{◌≤◌, length}
use Rattle.boot_script.proofs.AskLemmas.{read_is_bounded}
use Rattle.boot_script.proofs.boot_script.script.read_script.Goals as goal

pub returns-clause-bounds : goal.returns-clause-bounds
returns-clause-bounds c =
    let short : length c.args.text.now ≤ 65536 = c.if-text-gt-MAX_LEN.false in
    read_is_bounded c.events.result c.args.text.now short c.events.ensures
