use Rattle.kept_laws.proofs.AlikeLemmas.{reads_same, notes_same, reads_front}
use Rattle.kept_laws.proofs.vital_laws.without.a_script_whose_starts_pass_reads_the_same_without_vital_lines.Goals as goal

pub returns-clause-lines : goal.returns-clause-lines
returns-clause-lines c = reads_same

pub returns-clause-notes : goal.returns-clause-notes
returns-clause-notes c = notes_same

pub returns-clause-front : goal.returns-clause-front
returns-clause-front c = reads_front
