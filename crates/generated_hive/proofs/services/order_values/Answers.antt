use Rattle.std.proofs.Common.{refl}
use Rattle.generated_hive.specs.Generated.{order_values}
use Rattle.generated_hive.proofs.services.order_values.Goals as goal

pub returns : goal.returns
unfolding order_values
returns c = rw (
  c.in_ok-push-5.ensures.ok,
  c.in_ok-push-4.ensures.ok,
  c.in_ok-push-3.ensures.ok,
  c.in_ok-push-2.ensures.ok,
  c.in_ok-push.ensures.ok,
  c.new-values.ensures,
  c.in_ok-number.ensures,
  c.in_ok-number-2.ensures,
  c.type_number.ensures,
  c.in_ok-number-3.ensures,
  c.in_ok-group_value.ensures,
  c.in_ok-number-4.ensures,
) refl
