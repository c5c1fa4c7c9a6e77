use Rattle.std.proofs.Common.{List, ap, subst, arith}
use Rattle.hive_model.specs.Tree.{Tree, trees}
use Rattle.hive_model.specs.Codes.{weights}
use Rattle.hive_pack.specs.Numbers.{AllHaveNumbers}
use Rattle.hive_pack.proofs.Written.{weight_parted, numbers_whole}
use Rattle.hive_pack.proofs.numbers.+numbers.Goals as goal

pub numbers_fit-all_fit-requires : goal.numbers_fit-all_fit-requires
numbers_fit-all_fit-requires t c = (omega (arith, weight_parted c.args.key.now, ap weights c.subkeys.ensures), tt)

pub numbers_fit-returns : goal.numbers_fit-returns
numbers_fit-returns t c =
    numbers_whole c.args.key.now c.head_fits.ensures
    (subst (λ (ks : List Tree). AllHaveNumbers (trees ks)) c.subkeys.ensures c.all_fit.ensures)
