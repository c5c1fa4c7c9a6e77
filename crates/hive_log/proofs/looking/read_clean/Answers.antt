use Rattle.std.proofs.Common.{◌≡◌, ◌*◌, ◌/◌, true, List, [], sym, ◌∙◌, ap, arith}
use Rattle.std.proofs.lemmas.Result.{err_from_is_err_and}
use Rattle.hive_model.specs.Asked.{one_by_one, run_at, unmarked_at}
use Rattle.hive_model.specs.Base.{Base}
use Rattle.hive_model.specs.Image.{Address, Primary}
use Rattle.hive_model.specs.Recovery.{bit, gathered}
use Rattle.hive_log.proofs.AskedParts.{asks_in_whole, asks_no_more}
use Rattle.hive_log.proofs.AskedWhole.{none_marked}
use Rattle.hive_log.specs.Mixing.{mixed}
use Rattle.hive_log.proofs.Looked.{no_run, clean_fault, clean_ok, clean_carries}
use Rattle.hive_log.proofs.SoFar.{fault_on}
use Rattle.hive_log.proofs.looking.read_clean.Given.{Over}
use Rattle.hive_log.proofs.looking.read_clean.Goals as goal
use Rattle.hive_log.proofs.looking.read_clean.Goals.{After-read_bins}

-- the sectors are as many as the base block says
count : (g : Over) (c : After-read_bins g) → c.base.inside.size / 512 ≡ c.args.base.size / 512
count g c = ap (λ (b : Base). b.size / 512) c.base.view_is

sectors : (g : Over) (c : After-read_bins g) → let plain = mixed (g.D.Disk.state c.args.disk.now).held [] (bit []) in
    gathered plain 0 (c.args.base.size / 512) ≡ gathered plain 0 (c.base.inside.size / 512)
sectors g c = ap (gathered (mixed (g.D.Disk.state c.args.disk.now).held [] (bit [])) 0) (sym (count g c))

-- so they are all that is asked for
asked_all : (g : Over) (c : After-read_bins g) → g.D.Disk.tells ≡ true
    → let h = (g.D.Disk.state c.args.disk.now).held in
    one_by_one h (unmarked_at (bit []) (c.base.inside.size / 512)) []
    ≡ one_by_one h (run_at Primary 8 (c.args.base.size / 512)) []
asked_all g c tells =
    let h = (g.D.Disk.state c.args.disk.now).held in
    ap (λ (l : List Address). one_by_one h l []) (none_marked (c.base.inside.size / 512))
    ∙ ap (λ n. one_by_one h (run_at Primary 8 n) []) (count g c)

pub read_bins-requires-clause-run_long : goal.read_bins-requires-clause-run_long
read_bins-requires-clause-run_long g c = no_run (c.base.inside.size / 512)

pub returns-in_err-bins-clause-exact : goal.returns-in_err-bins-clause-exact
returns-in_err-bins-clause-exact g c = λ tells.
    let p = err_from_is_err_and c.from_residual.result c.from_residual.ensures.1 in
    rw (p.1, p.2)
    (fault_on c.in_err-bins.field-0.0 _ _
    (λ f is. clean_fault (g.D.Disk.state c.args.disk.now).held c.args.base (c.requires.block tells) c.requires.clean f
    (sectors g (goal.at.returns-in_err-bins-clause-exact g c).After-read_bins ∙ is))
    (c.in_err-bins.ensures.bins tells))

pub returns-clause-exact : goal.returns-clause-exact
returns-clause-exact g c = λ tells.
    clean_ok (g.D.Disk.state c.args.disk.now).held c.args.base (c.requires.block tells) c.requires.clean
    c.in_ok-bins.bins (sectors g (goal.at.returns-clause-exact g c).After-read_bins ∙ c.in_ok-bins.ensures.bins tells)

pub returns-clause-carries : goal.returns-clause-carries
returns-clause-carries g c = λ tells.
    let same = count g (goal.at.returns-clause-carries g c).After-read_bins in
    clean_carries (g.D.Disk.state c.args.disk.now).held c.args.base (c.requires.block tells)
    c.requires.clean c.in_ok-bins.bins c.requires.size
    (c.in_ok-bins.ensures.long ∙ ap (λ n. 512 * n) same)
    (λ i small. c.in_ok-bins.ensures.sectors tells i (omega (arith, same)))

pub returns-in_err-bins-clause-asked : goal.returns-in_err-bins-clause-asked
returns-in_err-bins-clause-asked g c =
    asks_no_more c.in_err-bins.ensures.asked c.from_residual.result c.from_residual.ensures.1 [] _
    (asked_all g (goal.at.returns-in_err-bins-clause-asked g c).After-read_bins)

pub returns-clause-asked : goal.returns-clause-asked
returns-clause-asked g c = asks_in_whole c.in_ok-bins.ensures.asked _
    (asked_all g (goal.at.returns-clause-asked g c).After-read_bins)
