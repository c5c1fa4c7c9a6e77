use Rattle.std.proofs.Common.{◌≤◌, sym, subst}
use Rattle.nt_bytes.specs.declared.version.HiveVersion.TheVariants.{V3}
use Rattle.hive_model.specs.Packed.{packed_bins}
use Rattle.hive_model.specs.Size.{bulk_of}
use Rattle.hive_model.specs.Tree.{Tree}
use Rattle.hive_model.specs.Valid.{IsValid}
use Rattle.reg_tree.proofs.Sound.{valid_back}
use Rattle.generated_hive.specs.Generated.{generated}
use Rattle.generated_hive.proofs.SoundLemmas.{generated_sound}
use Rattle.generated_hive.proofs.SizeLemmas.{generated_size}
use Rattle.generated_hive.proofs.LoadLemmas.{given_loads}
use Rattle.generated_hive.proofs.file.generated_hive.Goals as goal

pub pack-requires : goal.pack-requires
pack-requires c =
    let small = generated_size c.args.count c.requires.few in
    let is = sym c.in_ok-tree.ensures in
    record {
      valid = subst IsValid is (valid_back V3 (generated c.args.count) (generated_sound c.args.count c.requires.few)
          small);
      room = subst (λ (t : Tree). bulk_of V3 t ≤ 16773120) is small;
    }

pub returns-clause-loads : goal.returns-clause-loads
returns-clause-loads c =
    given_loads c.file.result c.in_ok-bins.bins c.as_slice.result.now (packed_bins V3 c.in_ok-tree.tree)
    c.in_ok-tree.tree (generated c.args.count)
    c.as_slice.ensures c.in_ok-tree.ensures c.in_ok-bins.ensures.sized c.in_ok-bins.ensures.bins
    c.in_ok-bins.ensures.well_formed c.file.ensures
