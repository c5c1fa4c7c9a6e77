-- The front of a list where it stands, as the code has it.
use Rattle.std.specs.Prelude.{◌+◌, ◌*◌, ◌≤◌, ◌^◌, length}
use Rattle.hive_model.specs.Lists.{numbers_in}
use Rattle.cell_forms.specs.Views.{kind_of}
use Rattle.salvage_walk.specs.declared.fronts.FrontPlace.{FrontPlace}
use Rattle.salvage_walk.specs.Fronts.{Front}

abbrev pub front_there : FrontPlace → Front
front_there f = record { kind = kind_of f.kind; offsets = numbers_in f.step f.fits f.entries.now; long = f.long; short = f.short }

-- its entries are inside, and its length is one of a cell
pub record IsFrontPlace (f : FrontPlace) : Type 0 where
  pub wide : 4 ≤ f.step
  pub inside : f.step * f.fits ≤ length f.entries.now
  pub some : 4 ≤ f.long
  pub small : f.long ≤ 2 ^ 63 + 4
