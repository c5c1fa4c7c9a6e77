-- Only the lengths of the data are looked at.
use Rattle.std.specs.Prelude.{nat_lt}
use Rattle.std.proofs.Common.{◌≡◌, true, false, Ok, Err, refl, ap, ◌∙◌}
use Rattle.nt_bytes.specs.declared.version.HiveVersion.TheVariants.{V5}
use Rattle.hive_model.specs.Size.{bulk_of}
use Rattle.hive_model.specs.Edit.{edited, most_bulk, full}
use Rattle.hive_examples.proofs.FullHives.{passed, caught, one_more, set, judged}
use Rattle.hive_examples.proofs.edits.a_full_hive_of_segments.Goals as goal

pub returns-clause-bulk : goal.returns-clause-bulk
returns-clause-bulk c = λ block long. rw long

pub returns-clause-fits : goal.returns-clause-fits
unfolding edited judged one_more
returns-clause-fits c = λ block last long rest.
    let e : nat_lt most_bulk (bulk_of V5 (one_more block last)) ≡ false = rw (long, rest) in
    ap (judged V5) (set block last 1030988 rest refl)
    ∙ passed (nat_lt most_bulk (bulk_of V5 (one_more block last))) (Err full) (Ok (one_more block last)) e

pub returns-clause-bulk_then : goal.returns-clause-bulk_then
returns-clause-bulk_then c = λ block last long rest. rw (long, rest)

pub returns-clause-refused : goal.returns-clause-refused
unfolding edited judged one_more
returns-clause-refused c = λ block last long rest.
    let e : nat_lt most_bulk (bulk_of V5 (one_more block last)) ≡ true = rw (long, rest) in
    ap (judged V5) (set block last 1030989 rest refl)
    ∙ caught (nat_lt most_bulk (bulk_of V5 (one_more block last))) (Err full) (Ok (one_more block last)) e
