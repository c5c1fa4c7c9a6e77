use Rattle.services_laws.proofs.WholeLemmas.{sort_moves, sort_orders, newer_is_before, earlier_is_before, sort_keeps}
use Rattle.services_laws.proofs.laws.a_sort_moves_lines_alone.Goals as goal

pub returns : goal.returns
returns c = record { moves = sort_moves; orders = sort_orders; newer = newer_is_before; earlier = earlier_is_before; keeps = sort_keeps }
