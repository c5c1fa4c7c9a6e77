-- What is seen of a key, as the definitions have it.
use Rattle.std.specs.Prelude.{Some}
use Rattle.std.specs.Option.{option_copied}
use Rattle.hive_model.specs.Tree.{Tree}
use Rattle.import_steps.specs.Marks.{Seen}
use Rattle.import_steps.specs.declared.marks.Marks.{Marks}
use Rattle.import_steps.specs.declared.seen.Seen.{Seen as CodeSeen}

abbrev pub seen_of : CodeSeen → Seen
seen_of s = record { marks = option_copied s.marks; base = option_copied s.base }

-- what is seen with these marks of a tree
abbrev pub seen_in : Marks → Tree → Seen
seen_in m t = record { marks = Some m; base = Some t }
