use Rattle.std.proofs.Common.{ap, ◌∙◌}
use Rattle.nt_bytes.specs.Folding.{folded}
use Rattle.import_steps.specs.Marks.{under, keys_of}
use Rattle.import_steps.proofs.MapLemmas.{put_in}
use Rattle.import_steps.proofs.marks.Marks.put_key.Goals as goal

pub returns : goal.returns
returns c = record {
  child = c.new.result;
  fresh = c.new.ensures;
  puts = record {
    life = c.of.ensures.life_is;
    values = λ n. ap (λ m. under m n) c.of.ensures.values_are;
    keys = λ n. ap (λ m. under m n) c.of.ensures.keys_are
        ∙ put_in c.into_vec.result.items c.args.name (keys_of c.args.self) c.insert.new.self c.new.result
        (c.into_vec.ensures ∙ c.in_ok-key.ensures ∙ ap folded c.as_slice.ensures) c.in_ok-insert.ensures.updates n;
  };
}
