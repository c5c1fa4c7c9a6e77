-- The front of a list, as the code has it.
use Rattle.cell_forms.specs.Views.{kind_of}
use Rattle.salvage_walk.specs.declared.fronts.FrontForm.{FrontForm}
use Rattle.salvage_walk.specs.declared.entries.EntriesForm.{EntriesForm}
use Rattle.salvage_walk.specs.Fronts.{Front}
use Rattle.salvage_walk.specs.Steps.{Entries}

abbrev pub front_seen : FrontForm → Front
front_seen f = record { kind = kind_of f.kind; offsets = f.offsets; long = f.long; short = f.short }

-- the entries of lists, as the code has them
abbrev pub entries_seen : EntriesForm → Entries
entries_seen e = record { offsets = e.offsets.items; sound = e.sound }
