use Rattle.hive_model.specs.Recovery.{Recovered}
use Rattle.hive_model.specs.Tree.{Tree}
use Rattle.nt_edge.specs.Crash.{EachCrash}
use Rattle.hive_alt.specs.Changes.{IsEitherOf, StandsAfter}
use Rattle.hive_alt.proofs.ChangeLemmas.{kept_found, kept_crash, of_found}
use Rattle.hive_alt.proofs.changing.change_default.Goals as goal

pub returns-in_err-loaded-clause-crash : goal.returns-in_err-loaded-clause-crash
returns-in_err-loaded-clause-crash g c = λ tells found tree is.
    let s = g.D.Disk.state c.load_checked.new.disk in
    kept_crash g.S.Scheme.stands found tree c.args.number is.holds s
    (c.in_err-loaded.ensures.crash tells found.base found.bins
    (kept_found g.S.Scheme.stands (g.D.Disk.state c.args.disk.now).held found is.read))

pub returns-clause-mended : goal.returns-clause-mended
returns-clause-mended g c = λ tells decided found tree is.
    of_found (λ (r : Recovered) (t : Tree). EachCrash (g.D.Disk.state c.change_loaded.new.disk)
    (StandsAfter g.S.Scheme.stands r t c.args.number)) _ _ found _ tree _ is (c.in_ok-loaded.ensures.exact tells)
    (c.change_loaded.ensures.mended tells decided)

pub returns-clause-crash : goal.returns-clause-crash
returns-clause-crash g c = λ tells found tree is.
    of_found (λ (r : Recovered) (t : Tree). EachCrash (g.D.Disk.state c.change_loaded.new.disk)
    (IsEitherOf g.S.Scheme.stands r t c.args.number)) _ _ found _ tree _ is (c.in_ok-loaded.ensures.exact tells)
    (c.change_loaded.ensures.crash tells)
