use Rattle.std.proofs.Common.{◌-◌, ◌≤◌, length, take, drop, ap, ◌∙◌, arith}
use Rattle.std.proofs.lemmas.Result.{err_from_is_err_and}
use Rattle.hive_model.specs.Tree.{Head, key, trees}
use Rattle.hive_model.specs.Codes.{weights}
use Rattle.reg_tree.proofs.Outcomes.{uncons}
use Rattle.find_rule.specs.Hits.{places_below}
use Rattle.find_command.proofs.TellLemmas.{none_left, tells_key, key_halted, carries_none, carries_lack, cut_back, keys_on, keys_halted}
use Rattle.find_command.proofs.walk.+tell_key.Goals as goal

pub tell_key-returns-in-Ok-clause-tells : goal.tell_key-returns-in-Ok-clause-tells
tell_key-returns-in-Ok-clause-tells g t c =
    let i = c.key.inside in
    let h : Head = record {
      name = i.name;
      flags = i.flags;
      stamp = i.stamp;
      class = i.class;
      security = i.security;
      values = i.values;
    } in
    let ks = c.as_slice-in-Ok.result.now in
    tells_key c.args.form c.args.wanted.now c.args.path.now.items c.as_slice.result.now c.args.key.now h (trees ks) c.tell_keys.result
    (g.H.Host.state c.args.host.now) (g.H.Host.state c.tell_own.new.host) (g.H.Host.state c.tell_keys.new.host)
    c.args.found.now c.tell_own.new.found c.tell_keys.new.found
    (ap (λ xs. key h (trees xs)) c.as_slice-in-Ok.ensures ∙ c.key.view_is) c.as_slice.ensures.value c.in-Ok.ensures c.tell_keys.ensures.tells

pub tell_key-returns-in-Err-clause-tells : goal.tell_key-returns-in-Err-clause-tells
tell_key-returns-in-Err-clause-tells g t c =
    let i = c.key.inside in
    let h : Head = record {
      name = i.name;
      flags = i.flags;
      stamp = i.stamp;
      class = i.class;
      security = i.security;
      values = i.values;
    } in
    key_halted c.args.form c.args.wanted.now c.args.path.now.items c.as_slice.result.now c.args.key.now h (trees i.children) c.in-Err.stop
    (g.H.Host.state c.args.host.now) (g.H.Host.state c.tell_own.new.host) c.args.found.now c.tell_own.new.found c.tell_own.new.found
    c.key.view_is c.as_slice.ensures.value c.in-Err.ensures

pub tell_keys-keys-preserved : goal.tell_keys-keys-preserved
tell_keys-keys-preserved g t c =
    let path = c.args.path.now.items in
    let rest = c.keys.rest.now in
    let others = take (length rest - 1) (drop 1 rest) in
    let k = c.key-item.result in
    let first = uncons rest k c.in-len1-up.len_at_least c.key-item.is in
    let before = c.keys.path.items in
    let made = c.push_name.new.path.items in
    let pushed = c.in_ok-push_name.ensures.pushed in
    let lighter : weights others ≤ weights rest = omega (arith, ap weights first) in
    record {
      carries = keys_on c.args.form c.args.wanted.now (places_below path (trees c.args.keys.now)) (g.H.Host.state c.args.host.now)
          c.args.found.now path before made c.name.result.now rest k others first c.keys.invariant.path pushed c.name.ensures
          (g.H.Host.state c.keys.host) (g.H.Host.state c.tell_key.new.host) c.keys.found c.tell_key.new.found c.keys.invariant.carries
          c.in_ok-tell_key.ensures.tells;
      path = cut_back path before made c.tell_key.new.path.items c.truncate.new.self.items c.name.result.now c.len-above.result
          c.keys.invariant.path pushed c.in_ok-tell_key.ensures.path (c.len-above.ensures ∙ c.args.path.now.ok.0) c.truncate.ensures.items;
      fewer = omega (arith, lighter, c.keys.invariant.fewer);
    }

pub tell_keys-returns-in_default-clause-tells : goal.tell_keys-returns-in_default-clause-tells
tell_keys-returns-in_default-clause-tells g t c =
    let path = c.args.path.now.items in
    carries_none c.args.form c.args.wanted.now (places_below path (trees c.args.keys.now)) (g.H.Host.state c.args.host.now) c.args.found.now
    (places_below path (trees c.keys.rest.now)) (g.H.Host.state c.keys.host) c.keys.found
    (ap (λ xs. places_below path (trees xs)) (none_left c.keys.rest.now c.in_default.len_below)) c.keys.invariant.carries

pub tell_keys-returns-in_err-tell_key-clause-tells : goal.tell_keys-returns-in_err-tell_key-clause-tells
tell_keys-returns-in_err-tell_key-clause-tells g t c =
    let p = err_from_is_err_and c.from_residual-in_err-tell_key.result c.from_residual-in_err-tell_key.ensures.1 in
    let path = c.args.path.now.items in
    let rest = c.keys.rest.now in
    let k = c.key-item.result in
    rw (p.1, p.2)
    (keys_halted c.args.form c.args.wanted.now (places_below path (trees c.args.keys.now)) (g.H.Host.state c.args.host.now)
    c.args.found.now path c.keys.path.items c.push_name.new.path.items c.name.result.now rest k (take (length rest - 1) (drop 1 rest))
    (uncons rest k c.in-len1-up.len_at_least c.key-item.is) c.keys.invariant.path c.in_ok-push_name.ensures.pushed c.name.ensures
    c.in_err-tell_key.field-0.0 (g.H.Host.state c.keys.host) (g.H.Host.state c.tell_key.new.host) c.keys.found c.tell_key.new.found
    c.keys.invariant.carries c.in_err-tell_key.ensures.tells)

pub tell_keys-returns-in_err-push_name-clause-tells : goal.tell_keys-returns-in_err-push_name-clause-tells
tell_keys-returns-in_err-push_name-clause-tells g t c =
    let p = err_from_is_err_and c.from_residual.result c.from_residual.ensures.1 in
    let path = c.args.path.now.items in
    rw (p.1, p.2 ∙ c.in_err-push_name.ensures.memory)
    (carries_lack c.args.form c.args.wanted.now (places_below path (trees c.args.keys.now)) (g.H.Host.state c.args.host.now)
    c.args.found.now (places_below path (trees c.keys.rest.now)) (g.H.Host.state c.keys.host) c.keys.found c.keys.found
    c.keys.invariant.carries)
