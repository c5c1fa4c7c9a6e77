use Rattle.std.proofs.Common.{ℕ, List, ap, ◌∙◌}
use Rattle.hive_model.specs.Tree.{Head, Tree, key, trees}
use Rattle.salvage_bins.specs.Ground.{ground_of}
use Rattle.salvage_walk.specs.Walked.{state_of}
use Rattle.salvage_parents.specs.Search.{Adopted, adopted, adopted_none}
use Rattle.salvage_parents.proofs.ChangeLemmas.{changed-here}
use Rattle.salvage_parents.proofs.draft.Draft.adopt.Goals as goal

pub returns-clause-found : goal.returns-clause-found
returns-clause-found c =
    let i = c.self.inside in
    let hive = ground_of c.args.cells.now in
    let w = state_of c.args.walk.now in
    let notes = c.args.notes.now in
    let own = c.args.own.now in
    let h : Head = record {
      name = i.name;
      flags = i.flags;
      stamp = i.stamp;
      class = i.class;
      security = i.security;
      values = i.values;
    } in
    let found : Adopted = record {
      walked = state_of c.adopt_among.new.walk;
      notes = c.adopt_among.new.notes;
      count = c.in_ok-found.count;
    } in
    ap (λ (ts : List Tree). (key h (trees ts), found)) c.in_ok-self-inside.ensures
    ∙ changed-here h i.children c.args.self.now (λ (g : Head). adopted hive own w notes g.security) (adopted_none w notes)
    (c.in_ok-found.found, found) c.self.view_is
    (c.in_ok-found.ensures.found ∙ ap (λ (s : List ℕ). adopted hive own w notes s c.in_ok-keys.keys) c.as_slice.ensures
    ∙ ap (adopted hive own w notes i.security) c.in_ok-keys.ensures)
