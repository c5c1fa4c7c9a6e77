use Rattle.std.proofs.Common.{refl}
use Rattle.sweep_laws.proofs.PrintLemmas.{same_words, four_words}
use Rattle.sweep_laws.proofs.columns.a_line_prints_a_word_of_each_column.Goals as goal

pub returns-clause-write : goal.returns-clause-write
returns-clause-write c = λ leaves. same_words leaves.written

pub returns-clause-sync : goal.returns-clause-sync
returns-clause-sync c = λ leaves. four_words leaves.written leaves.none leaves.others

pub returns-clause-write_fields : goal.returns-clause-write_fields
returns-clause-write_fields c = λ leaves. refl

pub returns-clause-sync_fields : goal.returns-clause-sync_fields
returns-clause-sync_fields c = λ leaves. refl
