use Rattle.std.proofs.Common.{◌≡◌, ◌-◌, ◌≤◌, ◌<◌, ℕ, List, length, take, drop, sym, ap, subst, ◌∙◌}
use Rattle.std.specs.List.{position_or_len}
use Rattle.std.specs.Prelude.{IfOk, slice_set, slice_index_or}
use Rattle.nt_bytes.specs.Folding.{folds_same}
use Rattle.hive_model.specs.Tree.{Head, Tree, head}
use Rattle.reg_tree.proofs.Outcomes.{uncons}
use Rattle.salvage_bins.specs.Ground.{ground_of}
use Rattle.salvage_walk.specs.Keys.{key_names}
use Rattle.salvage_walk.specs.Walked.{state_of}
use Rattle.salvage_parents.specs.Change.{changed_among, changed_at}
use Rattle.salvage_parents.specs.Search.{Adopted, adopted, adopted_at, adopted_none}
use Rattle.salvage_parents.proofs.ChangeLemmas.{changed-below-ok, name-kept, place-none, place-some, none-among, one-among, names-set}
use Rattle.salvage_parents.proofs.draft.+adopt_at.Goals as goal

pub Draft::adopt_at-returns-in-len1-up-clause-found : goal.Draft::adopt_at-returns-in-len1-up-clause-found
Draft::adopt_at-returns-in-len1-up-clause-found t c =
    let i = c.self.inside in
    let hive = ground_of c.args.cells.now in
    let w = state_of c.args.walk.now in
    let notes = c.args.notes.now in
    let own = c.args.own.now in
    let path = c.args.path.now in
    let more = take (length path - 1) (drop 1 path) in
    let other = adopted_none w notes in
    let change = λ (g : Head). adopted hive own w notes g.security in
    let h : Head = record {
      name = i.name;
      flags = i.flags;
      stamp = i.stamp;
      class = i.class;
      security = i.security;
      values = i.values;
    } in
    let found : ℕ → Adopted = λ n. record { walked = state_of c.adopt_at.new.walk; notes = c.adopt_at.new.notes; count = n } in
    let first = uncons path c.first-item.result c.in-len1-up.len_at_least c.first-item.is in
    changed-below-ok h i.children c.args.self.now c.first-item.result more path change other c.adopt_at.new.self found
    c.adopt_at.result c.self.view_is first
    (subst (λ (n : List ℕ). IfOk c.adopt_at.result
    (λ m. (c.adopt_at.new.self, found m) ≡ changed_among n (changed_at more change other) other i.children)) c.as_slice.ensures
    c.adopt_at.ensures.found)

pub DraftKeys::adopt_at-of_open-requires-in-Some : goal.DraftKeys::adopt_at-of_open-requires-in-Some
DraftKeys::adopt_at-of_open-requires-in-Some t c =
    let w = state_of c.args.walk.now in
    let hive = ground_of c.args.cells.now in
    let old = c.index_mut.result.now in
    let kept = ap (λ (r : Tree × Adopted). (head r.0).name) c.in_ok-count-in-Some.ensures.found
    ∙ name-kept c.args.path.now (λ (h : Head). adopted hive c.args.own.now w c.args.notes.now h.security) (adopted_none w c.args.notes.now) old in
    c.in_ok-drafts.ensures.named ∙ ap key_names (sym c.in_ok-drafts.ensures.all)
    ∙ names-set c.in_ok-drafts.drafts.items c.in-Some.place old c.adopt_at.new.self
    (kept ∙ ap (λ (u : Tree). (head u).name) c.index_mut.ensures.value)

pub DraftKeys::adopt_at-returns-in-None-clause-found : goal.DraftKeys::adopt_at-returns-in-None-clause-found
DraftKeys::adopt_at-returns-in-None-clause-found t c =
    let w = state_of c.args.walk.now in
    let hive = ground_of c.args.cells.now in
    let name = c.args.name.now in
    let other = adopted_none w c.args.notes.now in
    let at = adopted_at hive c.args.own.now w c.args.notes.now c.args.path.now in
    ap (λ (ts : List Tree). (ts, other)) (c.of_open.ensures ∙ c.in_ok-drafts.ensures.all)
    ∙ none-among name at other c.args.self.now
    (subst (λ (ns : List (List ℕ)). length ns ≤ position_or_len (folds_same name) ns) c.in_ok-drafts.ensures.named
    (place-none (folds_same name) c.in_ok-drafts.names c.in-None.ensures.place))

pub DraftKeys::adopt_at-returns-in_ok-count-in-Some-clause-found : goal.DraftKeys::adopt_at-returns-in_ok-count-in-Some-clause-found
DraftKeys::adopt_at-returns-in_ok-count-in-Some-clause-found t c =
    let w = state_of c.args.walk.now in
    let hive = ground_of c.args.cells.now in
    let name = c.args.name.now in
    let other = adopted_none w c.args.notes.now in
    let at = adopted_at hive c.args.own.now w c.args.notes.now c.args.path.now in
    let place = c.in-Some.place in
    let old = c.index_mut.result.now in
    let new = c.adopt_at.new.self in
    let all = c.in_ok-drafts.ensures.all in
    let found : Adopted = record {
      walked = state_of c.adopt_at.new.walk;
      notes = c.adopt_at.new.notes;
      count = c.in_ok-count-in-Some.count;
    } in
    let there = subst (λ (ns : List (List ℕ)). (place ≡ position_or_len (folds_same name) ns) × (place < length ns))
    c.in_ok-drafts.ensures.named (place-some (folds_same name) c.in_ok-drafts.names place c.in-Some.ensures.place) in
    ap (λ (ts : List Tree). (ts, found)) (c.of_open-in-Some.ensures ∙ ap (λ (ts : List Tree). slice_set ts place new) all)
    ∙ one-among name at other c.args.self.now place old new found there.0 there.1
    (c.in_ok-count-in-Some.ensures.found
    ∙ ap at (c.index_mut.ensures.value ∙ ap (λ (ts : List Tree). slice_index_or ts place old) all))
