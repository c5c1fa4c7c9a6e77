-- The layout of the code as that of the definition.
use Rattle.std.specs.Prelude.{ℕ}
use Rattle.salvage_bins.specs.declared.layout.Layout.{Layout}
use Rattle.salvage_bins.specs.Layout.{Laid, Stretch}

-- the layout as it was defined
abbrev pub seen : Layout → Laid
seen l = record { marks = l.marks.items; broken = l.broken.items }

-- a stretch with this layout and length
abbrev pub stretch_seen : Layout → ℕ → Stretch
stretch_seen l long = record { laid = seen l; long = long }
