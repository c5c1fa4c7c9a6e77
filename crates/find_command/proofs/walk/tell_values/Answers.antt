use Rattle.std.proofs.Common.{List, ◌-◌, length, take, drop, ap, subst}
use Rattle.std.proofs.lemmas.Result.{err_from_is_err_and}
use Rattle.reg_tree.proofs.Outcomes.{uncons}
use Rattle.hive_model.specs.Tree.{Item}
use Rattle.find_rule.specs.Hits.{value_places, values_places}
use Rattle.find_command.specs.Tells.{Carries}
use Rattle.find_command.proofs.TellLemmas.{none_left, carries_on, carries_halted, carries_none}
use Rattle.find_command.proofs.walk.tell_values.Goals as goal

pub values-preserved : goal.values-preserved
values-preserved g c =
    let form = c.args.form in
    let w = c.args.wanted.now in
    let path = c.args.path.now in
    let all = values_places path c.args.values.now in
    let old = g.H.Host.state c.args.host.now in
    let rest = c.values.rest.now in
    let v = c.value-item.result in
    carries_on form w all old c.args.found.now (value_places path v) (values_places path (take (length rest - 1) (drop 1 rest)))
    (g.H.Host.state c.values.host) (g.H.Host.state c.tell_value.new.host) c.values.found c.tell_value.new.found
    (subst (λ (vs : List Item). Carries form w all old c.args.found.now (values_places path vs) (g.H.Host.state c.values.host) c.values.found)
    (uncons rest v c.in-len1-up.len_at_least c.value-item.is) c.values.invariant)
    c.in_ok-tell_value.ensures

pub returns-in_err-tell_value : goal.returns-in_err-tell_value
returns-in_err-tell_value g c =
    let p = err_from_is_err_and c.from_residual.result c.from_residual.ensures.1 in
    let form = c.args.form in
    let w = c.args.wanted.now in
    let path = c.args.path.now in
    let all = values_places path c.args.values.now in
    let old = g.H.Host.state c.args.host.now in
    let rest = c.values.rest.now in
    let v = c.value-item.result in
    rw (p.1, p.2)
    (carries_halted form w all old c.args.found.now (value_places path v) (values_places path (take (length rest - 1) (drop 1 rest)))
    c.in_err-tell_value.field-0.0 (g.H.Host.state c.values.host) (g.H.Host.state c.tell_value.new.host) c.values.found c.tell_value.new.found
    c.tell_value.new.found
    (subst (λ (vs : List Item). Carries form w all old c.args.found.now (values_places path vs) (g.H.Host.state c.values.host) c.values.found)
    (uncons rest v c.in-len1-up.len_at_least c.value-item.is) c.values.invariant)
    c.in_err-tell_value.ensures)

pub returns-in_default : goal.returns-in_default
returns-in_default g c =
    let path = c.args.path.now in
    carries_none c.args.form c.args.wanted.now (values_places path c.args.values.now) (g.H.Host.state c.args.host.now) c.args.found.now
    (values_places path c.values.rest.now) (g.H.Host.state c.values.host) c.values.found
    (ap (values_places path) (none_left c.values.rest.now c.in_default.len_below)) c.values.invariant
