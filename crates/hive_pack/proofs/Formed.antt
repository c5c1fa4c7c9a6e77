-- The cells of a packed tree are well-formed.
use Rattle.std.proofs.Common.{◌≤◌, ◌+◌, [], refl, arith}
use Rattle.hive_model.specs.Tree.{Tree, Trees, key, none, more}
use Rattle.hive_model.specs.Valid.{HoldsKeys, AllHoldKeys}
use Rattle.hive_model.specs.Size.{size}
use Rattle.hive_model.specs.Bins.{look_up}
use Rattle.hive_model.specs.Stands.{HasApartNames, HaveApartNames}
use Rattle.hive_model.specs.Packed.{top, ring, packed_bins}
use Rattle.hive_pack.specs.Numbers.{PackedIsWellFormed}
use Rattle.hive_pack.proofs.Found.{has_all}
use Rattle.hive_pack.proofs.Standing.{above_root, packed_stands}
use Rattle.hive_pack.proofs.Singly.{checks_once}

mutual
  pub apart : (t : Tree) → HoldsKeys t → HasApartNames t
  apart (key h ts) f = (f.0.items_differ, f.0.keys_named, f.0.keys_differ, all_apart ts f.1)

  all_apart : (ts : Trees) → AllHoldKeys ts → HaveApartNames ts
  all_apart none f = tt
  all_apart (more t ts) f = (apart t f.0, all_apart ts f.1)

pub packed_is_well_formed : PackedIsWellFormed
packed_is_well_formed version t f n le =
    let cells = look_up version (packed_bins version t) in
    let room : 32 + size version [] t ≤ 16777216 = omega arith in
    record {
      stands = packed_stands version t f n le;
      levels = f.levels;
      names = apart t f.keys;
      once = checks_once cells (top (ring version [] 32 t)) t room refl (above_root cells t room) (has_all version t)
          f.keys n f.levels;
    }
