use Rattle.graph_laws.proofs.QuoteLemmas.{are_pieces, are_printable, are_undone, are_one}
use Rattle.graph_laws.proofs.dot_laws.texts.text_in_quotes_is_told.Goals as goal

pub returns-clause-pieces : goal.returns-clause-pieces
returns-clause-pieces c = are_pieces

pub returns-clause-printable : goal.returns-clause-printable
returns-clause-printable c = are_printable

pub returns-clause-undone : goal.returns-clause-undone
returns-clause-undone c = are_undone

pub returns-clause-one : goal.returns-clause-one
returns-clause-one c = are_one
