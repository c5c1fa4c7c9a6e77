use Rattle.std.proofs.Common.{◌≡◌, get_or, ◌/◌, ◌%◌, eqb, not, ◌||◌, ap, ◌∙◌}
use Rattle.std.specs.Int.{bit_at}
use Rattle.std.proofs.lemmas.List.{get_or_read}
use Rattle.std.proofs.lemmas.Result.{err_from_is_err_and}
use Rattle.hive_read.specs.Marks.{has_bit}
use Rattle.hive_read.proofs.MarkLemmas.{same-bits, set-bit}
use Rattle.hive_read.proofs.bits.set.Goals as goal
use Rattle.hive_read.proofs.bits.set.Goals.{After-index-word}

-- the word that has the bit
word_is : (c : After-index-word) → c.index-word.result.now ≡ get_or c.widen.new.words.items (c.args.slot / 64) 0
word_is c =
    get_or_read c.widen.new.words.items (c.args.slot / 64) c.index-word.result.now c.in_ok-widen.ensures.there
    c.index-word.ensures 0

pub returns-in_err-widen-clause-err : goal.returns-in_err-widen-clause-err
returns-in_err-widen-clause-err c =
    let p = err_from_is_err_and c.from_residual.result c.from_residual.ensures.1 in
    rw p.1 (same-bits c.args.words.now.items c.widen.new.words.items c.widen.ensures.same)

pub returns-clause-fresh : goal.returns-clause-fresh
unfolding has_bit
returns-clause-fresh c =
    let read = word_is (goal.at.returns-clause-fresh c).After-index-word in
    ap not (c.bit.ensures ∙ ap (λ word. eqb (bit_at word (c.args.slot % 64)) 1) read
    ∙ same-bits c.args.words.now.items c.widen.new.words.items c.widen.ensures.same c.args.slot)

pub returns-clause-ok : goal.returns-clause-ok
returns-clause-ok c = λ i.
    let read = word_is (goal.at.returns-clause-ok c).After-index-word in
    set-bit c.widen.new.words.items c.args.slot c.with_bit.result c.in_ok-widen.ensures.there c.with_bit.ensures.set
    (λ k other. c.with_bit.ensures.others k other ∙ ap (λ word. bit_at word k) read) i
    ∙ ap (λ bit. eqb i c.args.slot || bit)
    (same-bits c.args.words.now.items c.widen.new.words.items c.widen.ensures.same i)
