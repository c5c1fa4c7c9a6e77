-- The heap that is read from a text is the one whose bytes the text is, so what is in the one is in the other.
use Rattle.std.proofs.Common.{List, ℕ, sym, subst, ◌∙◌}
use Rattle.nt_bytes.specs.declared.version.HiveVersion.{HiveVersion}
use Rattle.hive_model.specs.Bins.{Bin, look_up, IsBins}
use Rattle.hive_model.specs.Tree.{Tree}
use Rattle.hive_model.specs.Packed.{packed, packed_bins}
use Rattle.hive_model.specs.Stands.{IsWellFormed}
use Rattle.hive_cells.proofs.Again.{one_list}
use Rattle.hive_pack.proofs.Heap.{packed_is_bins}
use Rattle.hive_pack.proofs.Formed.{packed_is_well_formed}
use Rattle.hive_laws.specs.packing_laws.Packing.{IsPackedIn}

-- cells that are well-formed in bins are so in the bins that are read from their bytes
pub well_formed_again : (version : HiveVersion) (text : List ℕ) (bins others : List Bin) (root : ℕ) (t : Tree)
    → IsBins text bins → IsBins text others
    → IsWellFormed (look_up version bins) root t → IsWellFormed (look_up version others) root t
well_formed_again version text bins others root t is was w =
    subst (λ (bs : List Bin). IsWellFormed (look_up version bs) root t)
    (one_list bins others is.0 was.0 (sym is.1 ∙ was.1)) w

-- a packed tree is so in whatever bins its bytes are
pub well_formed_packed : (version : HiveVersion) (t : Tree) (bins : List Bin) → IsPackedIn version t bins
    → IsWellFormed (look_up version bins) 32 t
well_formed_packed version t bins p =
    well_formed_again version (packed version t) (packed_bins version t) bins 32 t (packed_is_bins version t p.room)
    p.bytes
    (packed_is_well_formed version t p.valid p.numbers p.room)
