use Rattle.std.proofs.Common.{[], map, refl, sym}
use Rattle.reg_tree.specs.Makes.{step_of}
use Rattle.reg_tree.proofs.Edited.{edited_valid}
use Rattle.reg_tree.proofs.Stepping.{all_made, too_large}
use Rattle.tree_draft.proofs.HereLemmas.{refused_whole}
use Rattle.tree_draft.proofs.drafting.apply.Goals as goal

pub returns-then-bulk-gt-MOST_BULK-clause-made : goal.returns-then-bulk-gt-MOST_BULK-clause-made
returns-then-bulk-gt-MOST_BULK-clause-made c = (
  too_large c.args.version (map step_of c.args.steps) [] c.args.tree.now c.in-Ok.work c.bulk.result
      (sym (rw c.as_slice.ensures at c.in-Ok.ensures)) refl c.bulk.ensures c.if-bulk-gt-MOST_BULK.true,
  refl,
)

pub returns-in-Err-Refused-clause-made : goal.returns-in-Err-Refused-clause-made
returns-in-Err-Refused-clause-made c = (
  refused_whole c.args.version c.args.tree.now (map step_of c.args.steps) c.in-Err-Refused.stop
      (rw (c.as_slice.ensures, c.in-Err-Refused.field-0-is) at c.in-Err-Refused.ensures),
  refl,
)

pub returns-else-bulk-gt-MOST_BULK-clause-made : goal.returns-else-bulk-gt-MOST_BULK-clause-made
returns-else-bulk-gt-MOST_BULK-clause-made c =
    all_made c.args.version (map step_of c.args.steps) [] c.args.tree.now c.in-Ok.work c.bulk.result
    (sym (rw c.as_slice.ensures at c.in-Ok.ensures)) refl c.bulk.ensures c.if-bulk-gt-MOST_BULK.false

pub returns-else-bulk-gt-MOST_BULK-clause-valid : goal.returns-else-bulk-gt-MOST_BULK-clause-valid
returns-else-bulk-gt-MOST_BULK-clause-valid c = λ valid fit. edited_valid c.args.version c.args.tree.now c.in-Ok.work
    (map step_of c.args.steps) valid fit (returns-else-bulk-gt-MOST_BULK-clause-made c)
