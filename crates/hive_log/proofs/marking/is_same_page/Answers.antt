use Rattle.std.proofs.Common.{◌∙◌, sym, arith}
use Rattle.std.proofs.lemmas.Slice.Eq.{bytes_eq-Decides}
use Rattle.hive_log.proofs.Pages.{same_page}
use Rattle.hive_log.proofs.marking.is_same_page.Goals as goal

pub returns-then-old-first : goal.returns-then-old-first
returns-then-old-first c equal =
    let page = c.page_of.result.now in
    let other = c.page_of-then-old-first.result.now in
    same_page c.args.old.now c.args.new.now c.args.first (omega (arith, c.if-old-first.true))
    (sym c.page_of.ensures ∙ (bytes_eq-Decides page other).0 (sym c.eq.ensures ∙ equal) ∙ c.page_of-then-old-first.ensures)
