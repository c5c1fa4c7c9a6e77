-- What the hive of one driver loads as, and its faults where bytes are changed: the parts that compute are premises
-- here.
use Rattle.std.specs.Prelude.{drop, replicate}
use Rattle.std.specs.List.{list_all}
use Rattle.std.proofs.Common.{◌≡◌, ◌<◌, ◌++◌, ℕ, true, false, List, [], length, Some, Ok, Err, refl, sym, subst, inl, inr, lit<}
use Rattle.nt_bytes.specs.declared.version.HiveVersion.TheVariants.{V3}
use Rattle.nt_bytes.specs.declared.fault.HiveFault.{HiveFault}
use Rattle.nt_bytes.specs.declared.fault.HiveFaultKind.{HiveFaultKind}
use Rattle.hive_model.specs.Base.{fault_at}
use Rattle.hive_model.specs.Bins.{bins_size, spelled, head_bytes, header_at, size_at, look_up}
use Rattle.hive_model.specs.Recovery.{Recovered, recovered_of}
use Rattle.hive_model.specs.Walk.{first_fault}
use Rattle.hive_model.specs.Load.{Loads, LoadFault}
use Rattle.hive_laws.specs.hive_laws.Samples.{block, changed}
use Rattle.hive_examples.specs.OneDriver.{driver_bin, driver_with}
use Rattle.hive_laws.specs.hive_laws.Trees.{one_driver}
use Rattle.hive_examples.proofs.Driver.{cut, driver_sizes, is_cell, cells_in, heap, well_formed}

-- what is recovered where these bytes are changed
abbrev pub found : List (ℕ × ℕ) → Recovered
found edits = record { base = block 5 5 0; bins = changed edits driver_bin; dirty = false }

-- the hive of one driver loads as its tree, if what is recovered and its cells compute so
pub loaded : recovered_of (driver_with []) ≡ Ok (found [])
    → list_all is_cell (cut driver_sizes (drop 32 driver_bin)) ≡ true
    → bins_size (cells_in driver_bin) ≡ 4096 → driver_bin ≡ spelled 0 (cells_in driver_bin)
    → Loads (driver_with []) (record { tree = one_driver; sequence = 5; version = V3 }) false
loaded read each long same = record {
  recovered = found [];
  read = read;
  was_dirty = refl;
  holds = record {
    bins = cells_in driver_bin;
    cells = heap driver_bin each long same;
    tree = well_formed;
    sequence = refl;
    version = refl;
  };
}

-- where changed bytes still are bins, the load's first fault is that of the walk
pub walk_fault : (edits : List (ℕ × ℕ)) (fault : HiveFault) → recovered_of (driver_with edits) ≡ Ok (found edits)
    → list_all is_cell (cut driver_sizes (drop 32 (changed edits driver_bin))) ≡ true
    → bins_size (cells_in (changed edits driver_bin)) ≡ 4096
    → changed edits driver_bin ≡ spelled 0 (cells_in (changed edits driver_bin))
    → first_fault (look_up V3 (cells_in (changed edits driver_bin))) 32 ≡ Some fault
    → LoadFault (driver_with edits) fault
walk_fault edits fault read each long same first =
    inr (
      found edits,
      read,
      inr
          (record {
            bins = cells_in (changed edits driver_bin);
            cells = heap (changed edits driver_bin) each long same;
            first = first;
          }),
    )

-- the header of the one bin fails
pub header_fault : (edits : List (ℕ × ℕ)) (kind : HiveFaultKind) → recovered_of (driver_with edits) ≡ Ok (found edits)
    → length (changed edits driver_bin) ≡ 4096 → header_at 0 (changed edits driver_bin) ≡ Err kind
    → LoadFault (driver_with edits) (fault_at kind 0)
header_fault edits kind read long fails =
    inr (
      found edits,
      read,
      inl (record {
        front = [];
        rest = changed edits driver_bin;
        sound = tt;
        parts = refl;
        fails = inl (record { some = subst (λ n. 0 < n) (sym long) (lit< tt); place = refl; fails = fails });
      }),
    )

-- the first cell fails
pub cell_fault : (edits : List (ℕ × ℕ)) (kind : HiveFaultKind) → recovered_of (driver_with edits) ≡ Ok (found edits)
    → changed edits driver_bin ≡ head_bytes 0 4096 (replicate 20 0) ++ drop 32 (changed edits driver_bin)
    → header_at 0 (changed edits driver_bin) ≡ Ok 4096
    → size_at 4064 (drop 32 (changed edits driver_bin)) ≡ Err kind → LoadFault (driver_with edits) (fault_at kind 32)
cell_fault edits kind read parts header fails =
    inr (
      found edits,
      read,
      inl (record {
        front = [];
        rest = changed edits driver_bin;
        sound = tt;
        parts = refl;
        fails = inr (record {
          size = 4096;
          ignored = replicate 20 0;
          cells = [];
          rest = drop 32 (changed edits driver_bin);
          parts = parts;
          header = header;
          twenty = refl;
          sound = tt;
          left = lit< tt;
          place = refl;
          fails = fails;
        });
      }),
    )
