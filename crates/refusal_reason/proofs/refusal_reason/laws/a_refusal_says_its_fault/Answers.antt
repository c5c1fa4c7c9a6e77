use Rattle.std.proofs.Common.{refl}
use Rattle.refusal_reason.proofs.RefusalLemmas.{script-said, hive-said}
use Rattle.refusal_reason.proofs.refusal_reason.laws.a_refusal_says_its_fault.Goals as goal

pub returns : goal.returns
returns c = record { script = script-said; no_sweep = refl; too_long = refl; too_many = refl; hive = hive-said }
