use Rattle.std.proofs.Common.{ℕ, List, ◌/◌, length, ap, arith}
use Rattle.hive_model.specs.Recovery.{bit}
use Rattle.sweep_text.proofs.LoggedLemmas.{few_listed}
use Rattle.sweep_text.proofs.sweep_text.logged.sectors_of.Goals as goal

pub returns-clause-few : goal.returns-clause-few
returns-clause-few c = record {
  bitmap = omega (arith, c.size_in-size.type_inv);
  sectors = omega (
    arith,
    c.size_in-size.type_inv,
    few_listed (bit c.bits_in.result.now) 0 (c.size_in-size.result / 512),
    ap (λ (l : List ℕ). length l) c.in_ok-sectors.ensures,
  );
}
