use Rattle.std.proofs.Common.{List, ℕ, [], ◌∷◌, ◌++◌, ◌∙◌, ap}
use Rattle.boot_ini.specs.boot_ini.Entries.{switches_in}
use Rattle.boot_ini.proofs.EntryLemmas.{switch_found, word_passed}
use Rattle.boot_ini.proofs.boot_ini.entries.switches.Goals as goal

pub loop-rest-preserved-in_ok-push : goal.loop-rest-preserved-in_ok-push
loop-rest-preserved-in_ok-push c =
    let word = c.split_word.result.0.now in
    let found = c.loop-rest.found in
    let pushed = c.in_ok-push.ensures.ok ∙ ap (λ (x : List ℕ). found ++ x ∷ []) c.in_ok-from_slice.ensures in
    switch_found c.loop-rest.rest.now word c.split_word.result.1.now found c.push.new.self (switches_in c.args.text.now)
    c.begins_switch.result
    c.split_word.ensures.word c.split_word.ensures.behind c.begins_switch.ensures c.if-begins_switch.true pushed
    c.loop-rest.invariant

pub loop-rest-preserved : goal.loop-rest-preserved
loop-rest-preserved c =
    word_passed c.loop-rest.rest.now c.split_word.result.0.now c.split_word.result.1.now c.loop-rest.found
    (switches_in c.args.text.now) c.begins_switch.result
    c.split_word.ensures.word c.split_word.ensures.behind c.begins_switch.ensures c.if-begins_switch.false
    c.loop-rest.invariant
