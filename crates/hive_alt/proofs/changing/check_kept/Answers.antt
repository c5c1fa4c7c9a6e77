use Rattle.std.proofs.lemmas.Result.{err_from_is_err_and}
use Rattle.hive_model.specs.Image.{image_of}
use Rattle.hive_alt.proofs.ChangeLemmas.{kept_stop, tree_stop}
use Rattle.hive_alt.proofs.changing.check_kept.Goals as goal

pub returns-in_err-found : goal.returns-in_err-found
returns-in_err-found g c =
    let p = err_from_is_err_and c.from_residual.result c.from_residual.ensures.1 in
    rw (p.1, p.2) (kept_stop g.S.Scheme.stands (image_of c.args.primary.now c.args.second.now)
    c.in_err-found.field-0.0 c.in_err-found.ensures.exact)

pub returns-in_err-_tree : goal.returns-in_err-_tree
returns-in_err-_tree g c =
    let p = err_from_is_err_and c.from_residual-in_err-_tree.result c.from_residual-in_err-_tree.ensures.1 in
    rw (p.1, p.2) (tree_stop g.S.Scheme.stands (image_of c.args.primary.now c.args.second.now)
    c.in_ok-found.found c.in_ok-found.ensures.exact c.in_err-_tree.field-0.0 c.in_err-_tree.ensures.exact)

pub returns : goal.returns
returns g c = (
  c.in_ok-found.found,
  c.in_ok-_tree._tree,
  record { read = c.in_ok-found.ensures.exact; holds = c.in_ok-_tree.ensures.exact },
)
