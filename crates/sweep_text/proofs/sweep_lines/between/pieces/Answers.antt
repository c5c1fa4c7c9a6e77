use Rattle.std.proofs.Common.{◌≡◌, List, Option, None, map, ◌∙◌, ap, rules, tests}
use Rattle.std.specs.Iterator.{Yields}
use Rattle.std.specs.Slice.Iter.{split_rest, split_done, split_callee}
use Rattle.std.proofs.lemmas.Iterator.{YieldsList}
use Rattle.std.proofs.lemmas.Iterator.Consumers.{YieldsList-end}
use Rattle.std.proofs.lemmas.Iterator.Splits.{YieldsList-from_slice_split}
use Rattle.sweep_text.specs.sweep_lines.Pieces.{is_lf}
use Rattle.sweep_text.proofs.sweep_lines.between.pieces.Goals as goal

all_yielded : {S A B : Type 0} {steps : S → Option A → S → Type 0} {v : A → B} {s : S} {all : List B} (xs : List A)
    (t u : S) (r : Option A) → Yields steps s xs t → r ≡ None → steps t r u → YieldsList steps v s all
    → map v xs ≡ all
all_yielded xs t u r yielded is last given = (YieldsList-end given xs t yielded r u is last).0

pub returns : goal.returns
returns c =
    let split = c.split-piece-items.ensures in
    let same = c.into_iter-piece-iterator.ensures.into_iter_gives in
    c.loop-piece.invariant
    ∙ all_yielded _ _ _ _ c.loop-piece.yielded_by c.in-None.is c.next.ensures.steps
    (YieldsList-from_slice_split _ is_lf c.args.text.now (ap split_rest same ∙ split.rest)
    (ap split_done same ∙ split.done) (ap split_callee same ∙ split.closure) (λ x r q k. search (rules, tests)))
