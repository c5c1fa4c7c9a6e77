-- What do the laws on a run of entries ask?
use Rattle.std.specs.Prelude.{◌<◌, ◌^◌, List, [], ◌∷◌}
use Rattle.windows_logs.specs.declared.entry_log.entry.Entry.{Entry}

-- the number of the first entry, where there is one, fits four bytes
abbrev pub FirstFits : List Entry → Type 0
FirstFits [] = Unit {0}
FirstFits (first ∷ more) = first.number < 2 ^ 32
