use Rattle.kept_laws.proofs.ActLemmas.{vital_noted}
use Rattle.kept_laws.proofs.vital_laws.names.a_vital_line_only_notes.Goals as goal

pub returns : goal.returns
returns c = vital_noted
