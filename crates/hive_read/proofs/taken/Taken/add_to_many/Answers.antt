use Rattle.std.proofs.Common.{ℕ, List, not, ◌||◌, map, refl, ap, ◌∙◌}
use Rattle.nt_bytes.specs.Folding.{folds_same}
use Rattle.cell_forms.specs.Views.{name_of}
use Rattle.hive_read.specs.declared.by_fold.ByFold.{ByFold}
use Rattle.hive_read.specs.Taken.{folded_name, has_name}
use Rattle.hive_read.proofs.TakenLemmas.{has-any, has-insert}
use Rattle.hive_read.proofs.FewLemmas.{all-gathered, none-few}
use Rattle.hive_read.proofs.taken.Taken.add_to_many.Goals as goal

abbrev key_of : ByFold → List ℕ
key_of k = folded_name k.name

pub returns-clause-fresh : goal.returns-clause-fresh
returns-clause-fresh c =
    let name = name_of c.args.name in
    c.in_ok-fresh.ensures.added
    ∙ ap not
    (has-any key_of c.gather.new.set.keys (record { name = c.args.name }) name refl
    ∙ all-gathered key_of
    c.self.inside.many.keys c.gather.new.set.keys c.as_slice.result.now c.self.inside.few name
    c.in_ok-gather.ensures c.as_slice.ensures
    ∙ ap (λ (ks : List (List ℕ)). has_name ks name) c.self.view_is)

pub returns-clause-added : goal.returns-clause-added
returns-clause-added c = λ n.
    none-few (map key_of c.insert.new.self.keys) c.new.result n c.new.ensures
    ∙ has-insert key_of
    c.gather.new.set.keys c.insert.new.self.keys (record { name = c.args.name }) (name_of c.args.name) n refl
    c.in_ok-fresh.ensures.keys
    ∙ ap (λ b. b || folds_same n (name_of c.args.name))
    (all-gathered key_of
    c.self.inside.many.keys c.gather.new.set.keys c.as_slice.result.now c.self.inside.few n c.in_ok-gather.ensures
    c.as_slice.ensures
    ∙ ap (λ (ks : List (List ℕ)). has_name ks n) c.self.view_is)
