use Rattle.start_laws.proofs.OrderLemmas.{one_order}
use Rattle.start_laws.proofs.order.the_order_of_a_phase_is_one.Goals as goal

pub returns : goal.returns
returns c = λ set phase tried ranks h same. one_order set phase tried ranks h (λ r. (same r).0) (λ r. (same r).1)
