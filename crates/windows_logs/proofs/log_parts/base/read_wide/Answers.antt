use Rattle.std.proofs.Common.{rules, ap, ◌∙◌}
use Rattle.hive_model.specs.Base.{Base, fields_of}
use Rattle.windows_logs.specs.log_parts.Wide.{is_wide_size, wide_base_of}
use Rattle.windows_logs.proofs.log_parts.base.read_wide.Goals as goal

pub returns-in_err-check : goal.returns-in_err-check
unfolding wide_base_of
returns-in_err-check c = record { exact = rw c.in_err-check.ensures.err (search rules); sized = search rules }

pub returns : goal.returns
unfolding wide_base_of fields_of
returns c = record {
  exact = rw (c.in_ok-check.ensures.ok, c.fields.ensures);
  sized = ap (λ (b : Base). is_wide_size b.size) c.fields.ensures ∙ c.in_ok-check.ensures.sized;
}
