use Rattle.graph_laws.proofs.ObjectLemmas.{objects_tell, objects_tell_text}
use Rattle.graph_laws.proofs.TellingLemmas.{text_tells}
use Rattle.graph_laws.proofs.dot_laws.forms.text_and_objects_tell_the_same.Goals as goal

pub returns-clause-objects : goal.returns-clause-objects
returns-clause-objects c = objects_tell

pub returns-clause-text : goal.returns-clause-text
returns-clause-text c = text_tells

pub returns-clause-same : goal.returns-clause-same
returns-clause-same c = objects_tell_text
