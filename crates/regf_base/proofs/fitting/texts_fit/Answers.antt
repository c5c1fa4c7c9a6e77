use Rattle.std.proofs.Common.{◌<◌, ap, sym, ◌∙◌, subst, length}
use Rattle.std.specs.Prelude.{slice_index}
use Rattle.hive_model.specs.Base.{Base}
use Rattle.regf_base.proofs.fitting.texts_fit.Goals as goal

pub returns : goal.returns
returns c = record {
  name_long = ap (λ (b : Base). length b.name) (sym c.base.view_is) ∙ c.base.told.0;
  name_bytes = λ k. subst (λ (b : Base). slice_index b.name k < 256) c.base.view_is (c.are_bytes.ensures k);
  rest_long = ap (λ (b : Base). length b.rest) (sym c.base.view_is) ∙ c.base.told.1;
  rest_bytes = λ k. subst (λ (b : Base). slice_index b.rest k < 256) c.base.view_is (c.are_bytes-2.ensures k);
}
