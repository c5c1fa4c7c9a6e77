use Rattle.sweep_laws.proofs.CountLemmas.{four_words, true_words, false_words}
use Rattle.sweep_laws.proofs.counts.each_call_has_four_words.Goals as goal

pub returns-clause-four : goal.returns-clause-four
returns-clause-four c = four_words

pub returns-clause-after : goal.returns-clause-after
returns-clause-after c = true_words

pub returns-clause-before : goal.returns-clause-before
returns-clause-before c = false_words
