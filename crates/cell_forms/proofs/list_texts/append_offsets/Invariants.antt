use Rattle.std.proofs.Common.{◌≡◌, ◌++◌, length}
use Rattle.hive_model.specs.Lists.{offsets_text}
use Rattle.cell_forms.proofs.list_texts.append_offsets.Given as goal

abbrev pub invariant-entries : goal.invariant-entries
invariant-entries l = l.out ++ offsets_text l.rest ≡ l.fn.out ++ offsets_text l.offsets

abbrev pub decreases-entries : goal.decreases-entries
decreases-entries l = length l.rest
