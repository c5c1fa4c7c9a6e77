use Rattle.std.proofs.Common.{inl}
use Rattle.hive_laws.proofs.SavedLemmas.{torn_block}
use Rattle.hive_laws.proofs.saved_laws.saved.a_torn_block_is_not_saved.Goals as goal

pub returns : goal.returns
returns c = λ image primary log is torn. inl (torn_block image primary log is torn)
