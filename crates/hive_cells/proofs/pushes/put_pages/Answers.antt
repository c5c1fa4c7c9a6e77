use Rattle.std.proofs.Common.{◌≡◌, ◌*◌, length, drop, ap, ◌∙◌, arith}
use Rattle.cell_tables.specs.saved_pages.Overlay.{before}
use Rattle.cell_tables.proofs.OverlayLemmas.{all_of, before_front}
use Rattle.hive_cells.proofs.pushes.put_pages.Goals as goal

pub returns-clause-exact : goal.returns-clause-exact
returns-clause-exact c =
    let long : length c.restore.new.bytes ≡ c.truncate.new.self.len =
    omega (arith, c.restore.auto.bytes, c.as_mut_slice.ensures.len) in
    all_of c.truncate.new.self.len c.restore.new.bytes (drop (length c.restore.new.bytes) c.truncate.new.self.items) long
    ∙ c.restore.ensures
    ∙ ap (before c.args.pages.now) (c.as_mut_slice.ensures.value ∙ c.truncate.ensures.items)
    ∙ before_front c.args.pages.now c.args.bytes.now.items (4096 * c.len.result) (omega (arith, c.len.ensures.count))
