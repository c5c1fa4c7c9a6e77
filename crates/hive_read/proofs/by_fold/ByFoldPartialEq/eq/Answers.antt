use Rattle.std.proofs.Common.{sym, ap, ◌∙◌}
use Rattle.std.specs.Cmp.Lexicographic.{texts_ties}
use Rattle.std.specs.Ordering.{is_eq}
use Rattle.hive_read.specs.Taken.{folded_name}
use Rattle.hive_read.proofs.by_fold.ByFoldPartialEq.eq.Goals as goal

pub returns : goal.returns
returns c =
    c.is_eq.ensures ∙ ap is_eq c.compare_stored.ensures
    ∙ sym (texts_ties (folded_name c.args.self.now.name) (folded_name c.args.other.now.name))
