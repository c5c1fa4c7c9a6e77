use Rattle.std.proofs.Common.{sym, ◌∙◌}
use Rattle.why_lacks.proofs.GoneLemmas.{gone_there, gone_marked}
use Rattle.why_lacks.proofs.why_items.finding.put_new.Goals as goal

pub returns-in_ok-put_members-clause-gone : goal.returns-in_ok-put_members-clause-gone
returns-in_ok-put_members-clause-gone c =
    gone_marked c.args.needs.now c.args.gone.now.keys c.is_new.new.gone.keys c.args.found.now.keys c.put_members.new.found.keys c.args.at
    c.args.first c.args.group.now c.args.view.now c.requires.gone c.requires.view c.requires.first c.in_ok-put_members.ensures
    c.in_ok-is_new.ensures.keys

pub returns-else-branch-clause-found : goal.returns-else-branch-clause-found
returns-else-branch-clause-found c =
    gone_there c.args.needs.now c.args.gone.now.keys c.args.found.now.keys c.args.at c.args.first c.args.group.now c.args.view.now
    c.requires.gone c.requires.view c.requires.first (sym c.if-branch.false ∙ c.in_ok-is_new.ensures.new)
