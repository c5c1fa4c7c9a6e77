use Rattle.std.proofs.Common.{sym, ap, ◌∙◌, arith}
use Rattle.hive_model.specs.StoredNames.{stored_name}
use Rattle.hive_model.specs.Size.{name_bytes}
use Rattle.hive_look.proofs.ItemLemmas.{value_name_is}
use Rattle.hive_look.proofs.MeasureLemmas.{stored_few, stored_even}
use Rattle.hive_look.proofs.measure.name_len.Goals as goal

pub stored_len-requires-clause-few : goal.stored_len-requires-clause-few
stored_len-requires-clause-few c =
    stored_few c.args.value.now c.stored_bytes-stored.result.now (λ k. omega (arith, c.type_inv.value k))
    c.stored_bytes-stored.ensures

pub stored_len-requires-clause-whole : goal.stored_len-requires-clause-whole
stored_len-requires-clause-whole c =
    stored_even c.args.value.now c.stored_bytes-stored.result.now c.is_narrow-narrow.result c.requires
    c.is_narrow-narrow.ensures c.stored_bytes-stored.ensures

pub returns-clause-exact : goal.returns-clause-exact
returns-clause-exact c =
    c.stored_len.ensures.exact
    ∙ (λ i. name_bytes (stored_name (c.is_narrow-narrow.ensures i) (c.stored_bytes-stored.ensures i)))
    ∙ ap name_bytes (sym (value_name_is c.args.value.now c.requires))

pub returns-clause-few : goal.returns-clause-few
returns-clause-few c =
    omega (
      arith,
      c.stored_len.ensures.few,
      stored_few c.args.value.now c.stored_bytes-stored.result.now (λ k. omega (arith, c.type_inv.value k))
          c.stored_bytes-stored.ensures,
    )
