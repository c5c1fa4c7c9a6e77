use Rattle.std.proofs.Common.{◌≡◌, List, Option, None, map, ◌∙◌, ap, rules, tests}
use Rattle.std.specs.Iterator.{Yields}
use Rattle.std.specs.Slice.Iter.{split_rest, split_done, split_callee}
use Rattle.std.proofs.lemmas.Iterator.{YieldsList}
use Rattle.std.proofs.lemmas.Iterator.Consumers.{YieldsList-end}
use Rattle.std.proofs.lemmas.Iterator.Splits.{YieldsList-from_slice_split}
use Rattle.nt_bytes.specs.Text.{is_zero}
use Rattle.device_rule.proofs.values.split.Goals as goal

all_yielded : {S A B : Type 0} {steps : S → Option A → S → Type 0} {v : A → B} {s : S} {all : List B} (xs : List A)
    (t u : S) (r : Option A) → Yields steps s xs t → r ≡ None → steps t r u → YieldsList steps v s all
    → map v xs ≡ all
all_yielded xs t u r yielded is last given = (YieldsList-end given xs t yielded r u is last).0

pub returns : goal.returns
returns c =
    let split = c.split-part-items.ensures in
    let same = c.into_iter-part-iterator.ensures.into_iter_gives in
    c.loop-part.invariant
    ∙ all_yielded _ _ _ _ c.loop-part.yielded_by c.in-None.is c.next.ensures.steps
    (YieldsList-from_slice_split _ is_zero c.args.units.now (ap split_rest same ∙ split.rest)
    (ap split_done same ∙ split.done) (ap split_callee same ∙ split.closure) (λ x r q k. search (rules, tests)))
