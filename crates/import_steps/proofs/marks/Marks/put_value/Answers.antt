use Rattle.std.proofs.Common.{ap, ◌∙◌}
use Rattle.nt_bytes.specs.Folding.{folded}
use Rattle.import_steps.specs.Marks.{under, values_of}
use Rattle.import_steps.proofs.MapLemmas.{put_in}
use Rattle.import_steps.proofs.marks.Marks.put_value.Goals as goal

pub returns : goal.returns
returns c = record {
  life = c.of.ensures.life_is;
  keys = λ n. ap (λ m. under m n) c.of.ensures.keys_are;
  values = λ n. ap (λ m. under m n) c.of.ensures.values_are
      ∙ put_in c.into_vec.result.items c.args.name (values_of c.args.self) c.insert.new.self c.args.there
      (c.into_vec.ensures ∙ c.in_ok-key.ensures ∙ ap folded c.as_slice.ensures) c.in_ok-insert.ensures.updates n;
}
