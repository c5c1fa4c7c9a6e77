use Rattle.std.proofs.Common.{◌≡◌, ◌-◌, List, ℕ, length, take, drop, ap, sym, subst, ◌∙◌}
use Rattle.std.specs.Prelude.{find}
use Rattle.std.specs.Map.{lookup}
use Rattle.std.specs.Option.{option_copied_mut}
use Rattle.hive_model.specs.Tree.{is_named}
use Rattle.hive_model.specs.Edit.{at_first}
use Rattle.reg_tree.proofs.Outcomes.{uncons}
use Rattle.tree_draft.specs.Children.{AreOpened}
use Rattle.tree_draft.specs.Change.{changed_among, changed_at, changed_here}
use Rattle.tree_draft.specs.Stops.{Drafts}
use Rattle.tree_draft.proofs.ChangeLemmas.{name_kept_at}
use Rattle.tree_draft.proofs.HereLemmas.{changed_below, none_among, one_among, stopped_among}
use Rattle.tree_draft.proofs.NamedLemmas.{is_key, changed_in, found_in}
use Rattle.tree_draft.proofs.draft.+change_at.Goals as goal
use Rattle.tree_draft.proofs.draft.+change_at.Goals.{DraftKeys::change_at-After-get_mut, DraftKeys::change_at-In-Ok}

pub Draft::change_at-returns-in-len1-up : goal.Draft::change_at-returns-in-len1-up
Draft::change_at-returns-in-len1-up t c =
    let i = c.self.inside in
    let path = c.args.path.now in
    let more = take (length path - 1) (drop 1 path) in
    let first = uncons path c.first-item.result c.in-len1-up.len_at_least c.first-item.is in
    changed_below _ i.children c.change_at.new.self c.args.self.now c.change_at.result c.first-item.result more path
    (changed_here c.args.change) c.self.view_is first
    (subst (λ (n : List ℕ). Drafts c.change_at.new.self c.change_at.result
    (changed_among n (changed_at more (changed_here c.args.change)) i.children)) c.as_slice.ensures
    c.change_at.ensures)

-- the child of this name is found under its folded name
found : (t : ℕ) (c : DraftKeys::change_at-After-get_mut t) → lookup (is_key c.as_slice.result.now) c.in_ok-opened.opened.entries
    ≡ find (is_named c.args.name.now) c.args.self.now
found t c =
    found_in c.as_slice.result.now c.args.name.now c.args.self.now c.in_ok-opened.opened.entries
    (c.as_slice.ensures ∙ c.in_ok-key.ensures) c.in_ok-opened.ensures.opened

-- the children with this one changed, by their folded names
changed : (t : ℕ) (c : DraftKeys::change_at-In-Ok t) → let new = c.change_at.new.self in
    AreOpened (at_first (is_named c.args.name.now) (λ _. new) c.args.self.now) (c.get_mut.follows.lender new).entries
changed t c =
    let new = c.change_at.new.self in
    changed_in c.as_slice.result.now c.args.name.now c.args.self.now c.in_ok-opened.opened.entries
    (c.get_mut.follows.lender new).entries c.in-Some.child.now new (c.as_slice.ensures ∙ c.in_ok-key.ensures)
    c.in_ok-opened.ensures.opened (sym c.get_mut.ensures.value ∙ ap option_copied_mut c.in-Some.is)
    (name_kept_at c.args.path.now c.args.change c.in-Some.child.now new c.in-Ok.ensures)
    (c.get_mut.follows.holds new).0

pub DraftKeys::change_at-returns-in-None : goal.DraftKeys::change_at-returns-in-None
DraftKeys::change_at-returns-in-None t c =
    none_among c.args.name.now (changed_at c.args.path.now (changed_here c.args.change)) c.args.self.now
    (sym (found t (goal.at.DraftKeys::change_at-returns-in-None t c).After-get_mut)
    ∙ sym c.get_mut.ensures.value ∙ ap option_copied_mut c.in-None.is)

pub DraftKeys::change_at-returns-in-Err : goal.DraftKeys::change_at-returns-in-Err
DraftKeys::change_at-returns-in-Err t c =
    stopped_among c.args.name.now (changed_at c.args.path.now (changed_here c.args.change)) c.args.self.now
    c.in-Some.child.now c.in-Err.stop
    (sym (found t (goal.at.DraftKeys::change_at-returns-in-Err t c).After-get_mut)
    ∙ sym c.get_mut.ensures.value ∙ ap option_copied_mut c.in-Some.is) c.in-Err.ensures

pub DraftKeys::change_at-of_named-requires : goal.DraftKeys::change_at-of_named-requires
DraftKeys::change_at-of_named-requires t c =
    (changed t (goal.at.DraftKeys::change_at-of_named-requires t c).In-Ok).named

pub DraftKeys::change_at-returns-in-Ok : goal.DraftKeys::change_at-returns-in-Ok
DraftKeys::change_at-returns-in-Ok t c =
    one_among c.args.name.now (changed_at c.args.path.now (changed_here c.args.change)) c.args.self.now
    c.of_named.result c.in-Some.child.now c.change_at.new.self
    (sym (found t (goal.at.DraftKeys::change_at-returns-in-Ok t c).After-get_mut)
    ∙ sym c.get_mut.ensures.value ∙ ap option_copied_mut c.in-Some.is) c.in-Ok.ensures
    (sym (c.of_named.ensures ∙ (changed t (goal.at.DraftKeys::change_at-returns-in-Ok t c).In-Ok).all))
