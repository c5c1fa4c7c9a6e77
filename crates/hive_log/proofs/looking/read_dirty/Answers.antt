use Rattle.std.proofs.Common.{◌≡◌, Ok, List, [], ℕ, true, sym, ◌∙◌, ap}
use Rattle.std.proofs.lemmas.Result.{err_from_is_err_and}
use Rattle.hive_model.specs.Asked.{asked_log}
use Rattle.hive_model.specs.Base.{Base}
use Rattle.hive_model.specs.Image.{Image}
use Rattle.hive_model.specs.Recovery.{bit}
use Rattle.hive_log.specs.Asked.{asked_log_bits, asked_by_bits}
use Rattle.hive_log.specs.Found.{bins_by}
use Rattle.hive_log.proofs.AskedParts.{asks_behind, asks_in_whole, asks_no_more}
use Rattle.hive_log.proofs.AskedWhole.{log_asked, all_asked}
use Rattle.hive_log.proofs.Looked.{fault_of_log, no_bins, dirty_ok}
use Rattle.hive_log.proofs.SoFar.{fault_on}
use Rattle.hive_log.proofs.looking.read_dirty.Given.{Over}
use Rattle.hive_log.proofs.looking.read_dirty.Goals as goal
use Rattle.hive_log.proofs.looking.read_dirty.Goals.{After-read_by_bits}

-- the bins data by the log's bits are those that are read
bins_read : (g : Over) (c : After-read_by_bits g) → g.D.Disk.tells ≡ true
    → bins_by (g.D.Disk.state c.args.disk.now).held c.in_ok-logged.field-0.logged.size
    (bit c.in_ok-logged.field-0.bitmap)
    ≡ bins_by (g.D.Disk.state c.read_log_bits.new.disk).held c.logged.inside.size (bit c.as_slice.result.now)
bins_read g c tells =
    let h = (g.D.Disk.state c.args.disk.now).held in
    let size = c.logged.inside.size in
    sym (ap (λ (i : Image). bins_by i size (bit c.as_slice.result.now)) (c.read_log_bits.ensures.look.held tells)
    ∙ ap (λ n. bins_by h n (bit c.as_slice.result.now)) (ap (λ (b : Base). b.size) c.logged.view_is)
    ∙ ap (λ (l : List ℕ). bins_by h c.in_ok-logged.field-0.logged.size (bit l)) c.as_slice.ensures)

-- the log's bits and what is read by them are all that the log asks for
all_read : (g : Over) (c : After-read_by_bits g) → g.D.Disk.tells ≡ true
    → asked_log_bits (g.D.Disk.state c.args.disk.now).held c.args.opened.now
    (asked_by_bits (g.D.Disk.state c.read_log_bits.new.disk).held c.logged.inside.size (bit c.as_slice.result.now) [])
    ≡ asked_log (g.D.Disk.state c.args.disk.now).held c.args.opened.now
all_read g c tells =
    let h = (g.D.Disk.state c.args.disk.now).held in
    let part = asked_log_bits h c.args.opened.now in
    let logged = c.in_ok-logged.field-0.logged in
    ap (λ (i : Image). part (asked_by_bits i c.logged.inside.size (bit c.as_slice.result.now) []))
    (c.read_log_bits.ensures.look.held tells)
    ∙ ap (λ n. part (asked_by_bits h n (bit c.as_slice.result.now) [])) (ap (λ (b : Base). b.size) c.logged.view_is)
    ∙ ap (λ (l : List ℕ). part (asked_by_bits h logged.size (bit l) [])) c.as_slice.ensures
    ∙ all_asked h c.args.opened.now logged c.in_ok-logged.field-0.bitmap (c.in_ok-logged.ensures.bits tells)

pub returns-in_err-logged-clause-exact : goal.returns-in_err-logged-clause-exact
returns-in_err-logged-clause-exact g c = λ tells.
    let p = err_from_is_err_and c.from_residual.result c.from_residual.ensures.1 in
    rw (p.1, p.2) (fault_on c.in_err-logged.field-0.0 _ _
    (fault_of_log (g.D.Disk.state c.args.disk.now).held c.args.opened.now (c.requires.block tells) c.requires.unfinished)
    (c.in_err-logged.ensures.fault tells))

pub returns-in_err-logged-clause-asked : goal.returns-in_err-logged-clause-asked
returns-in_err-logged-clause-asked g c =
    asks_no_more c.in_err-logged.ensures.asked c.from_residual.result c.from_residual.ensures.1 _ _
    (λ tells. log_asked (g.D.Disk.state c.args.disk.now).held c.args.opened.now)

pub returns-in_err-bins-clause-exact : goal.returns-in_err-bins-clause-exact
returns-in_err-bins-clause-exact g c = λ tells.
    let here = (goal.at.returns-in_err-bins-clause-exact g c).After-read_by_bits in
    let p = err_from_is_err_and c.from_residual-in_err-bins.result c.from_residual-in_err-bins.ensures.1 in
    rw (p.1, p.2)
    (fault_on c.in_err-bins.field-0.0 _ _
    (λ f is. no_bins (g.D.Disk.state c.args.disk.now).held c.args.opened.now (c.requires.block tells)
    c.requires.unfinished c.in_ok-logged.field-0.logged c.in_ok-logged.field-0.bitmap
    (c.in_ok-logged.ensures.bits tells) f (bins_read g here tells ∙ is))
    (c.in_err-bins.ensures.bins tells))

pub returns-in_err-bins-clause-asked : goal.returns-in_err-bins-clause-asked
returns-in_err-bins-clause-asked g c =
    let h1 = (g.D.Disk.state c.read_log_bits.new.disk).held in
    asks_no_more (asks_behind {second = asked_by_bits h1 c.logged.inside.size (bit c.as_slice.result.now)}
    c.in_ok-logged.ensures.asked c.in_err-bins.ensures.asked)
    c.from_residual-in_err-bins.result c.from_residual-in_err-bins.ensures.1 [] _
    (all_read g (goal.at.returns-in_err-bins-clause-asked g c).After-read_by_bits)

pub returns-clause-exact : goal.returns-clause-exact
returns-clause-exact g c = λ tells.
    dirty_ok (g.D.Disk.state c.args.disk.now).held c.args.opened.now (c.requires.block tells) c.requires.unfinished
    c.in_ok-logged.field-0.logged c.in_ok-logged.field-0.bitmap (c.in_ok-logged.ensures.bits tells) c.in_ok-bins.bins
    (bins_read g (goal.at.returns-clause-exact g c).After-read_by_bits tells ∙ c.in_ok-bins.ensures.bins tells)
    ∙ ap (λ (b : Base). Ok (record { base = b; bins = c.in_ok-bins.bins; dirty = true })) (sym c.closed_block.ensures)

pub returns-clause-asked : goal.returns-clause-asked
returns-clause-asked g c =
    asks_in_whole (asks_behind {second = asked_by_bits (g.D.Disk.state c.read_log_bits.new.disk).held
    c.logged.inside.size (bit c.as_slice.result.now)}
    {result = Ok c.in_ok-bins.bins} c.in_ok-logged.ensures.asked c.in_ok-bins.ensures.asked)
    (asked_log (g.D.Disk.state c.args.disk.now).held c.args.opened.now)
    (all_read g (goal.at.returns-clause-asked g c).After-read_by_bits)
