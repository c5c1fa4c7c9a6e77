use Rattle.std.proofs.Common.{◌≡◌, ◌++◌, ◌∷◌, [], length, ◌<◌, sym, ◌∙◌, ap, arith}
use Rattle.std.proofs.lemmas.List.{map_push}
use Rattle.std.proofs.lemmas.Bool.{eqb-true, eqb-false}
use Rattle.boot_script.specs.boot_script.Words.{without_spaces, words_of}
use Rattle.boot_script.proofs.WordLemmas.{texts, goes_on, fails, ends}
use Rattle.boot_script.proofs.boot_script.words.words_in.Goals as goal

pub returns-then-is_empty : goal.returns-then-is_empty
returns-then-is_empty c =
    let none : length (without_spaces c.words.rest.now) ≡ 0 =
    ap length (sym c.after_spaces-text.ensures.rest) ∙ eqb-true _ _ (sym c.is_empty.ensures ∙ c.if-is_empty.true) in
    ends (texts c.words.found.items) c.words.rest.now (words_of c.args.line.now) none c.words.invariant

pub words-preserved : goal.words-preserved
words-preserved c =
    let some : 0 < length (without_spaces c.words.rest.now) =
    omega (
      arith,
      ap length c.after_spaces-text.ensures.rest,
      eqb-false _ _ (sym c.is_empty.ensures ∙ c.if-is_empty.false),
    ) in
    let e : texts c.push.new.self.items ≡ texts c.words.found.items ++ c.in-Ok.word.now ∷ [] =
    rw c.in_ok-push-in-Ok.ensures.items (map_push _ c.words.found.items c.in-Ok.word) in
    rw e (goes_on (texts c.words.found.items) c.words.rest.now c.in-Ok.word.now c.in-Ok.after.now
    (words_of c.args.line.now) some (rw c.after_spaces-text.ensures.rest at c.in-Ok.ensures.exact)
    c.words.invariant)

pub returns-in-Err : goal.returns-in-Err
returns-in-Err c =
    let some : 0 < length (without_spaces c.words.rest.now) =
    omega (
      arith,
      ap length c.after_spaces-text.ensures.rest,
      eqb-false _ _ (sym c.is_empty.ensures ∙ c.if-is_empty.false),
    ) in
    fails (texts c.words.found.items) c.words.rest.now c.in-Err.kind (words_of c.args.line.now) some
    (rw c.after_spaces-text.ensures.rest at c.in-Err.ensures.exact) c.words.invariant
