-- Places in an order fit 32 bits.
use Rattle.std.specs.Prelude.{◌^◌, ◌<◌, List, length, All}
use Rattle.start_model.specs.Order.{GroupOrder}

pub record AreFew (orders : List GroupOrder) : Type 0 where
  pub groups : length orders < 2 ^ 32
  pub tags : All (λ o. length o.tags < 2 ^ 32) orders
