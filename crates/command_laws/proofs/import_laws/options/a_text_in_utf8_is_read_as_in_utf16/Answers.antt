use Rattle.command_laws.proofs.OptionLemmas.{read_alike, utf8_ends, mark_left_out}
use Rattle.command_laws.proofs.import_laws.options.a_text_in_utf8_is_read_as_in_utf16.Goals as goal

pub returns-clause-reads : goal.returns-clause-reads
returns-clause-reads c = read_alike

pub returns-clause-ends : goal.returns-clause-ends
returns-clause-ends c = utf8_ends

pub returns-clause-mark : goal.returns-clause-mark
returns-clause-mark c = mark_left_out
