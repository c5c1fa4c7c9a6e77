use Rattle.std.proofs.Common.{◌≡◌, take, map, filter}
use Rattle.set_diff.specs.Texts.{texts_of, is_entry}
use Rattle.set_diff.proofs.service.all_texts.Given as goal

abbrev pub invariant-loop-key : goal.invariant-loop-key
invariant-loop-key l = l.texts.items ≡ map texts_of (filter is_entry (take l.key-index l.keys))
