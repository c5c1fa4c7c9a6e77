use Rattle.std.proofs.Common.{◌≡◌, ◌++◌, true, ℕ, List, [], sym, ◌∙◌, ap}
use Rattle.std.proofs.lemmas.List.{append-nil}
use Rattle.hive_model.specs.Recovery.{Recovered, bit}
use Rattle.nt_edge.specs.Calls.{reads_of}
use Rattle.nt_edge.specs.Crash.{EachCrash}
use Rattle.nt_edge.specs.Disk.{DiskState}
use Rattle.hive_commit.specs.Alone.{KeepsAll}
use Rattle.hive_commit.specs.Calls.{closing_calls, recovery_calls}
use Rattle.hive_commit.specs.Cuts.{IsCutOfRestoring}
use Rattle.hive_commit.proofs.RecoveryCalls.{only_read, read_then, refused, front_behind, stopped_by, restored_all, clean_all}
use Rattle.hive_commit.proofs.Rest.{all_kept, all_restored}
use Rattle.hive_commit.proofs.loading.recover.Given.{Over}
use Rattle.hive_commit.proofs.loading.recover.Goals as goal
use Rattle.hive_commit.proofs.loading.recover.Goals.{After-read_recovered, In_ok-recovered, After-restore, After-drop-bitmap-inside-2, then-recovered+in_ok-restore, else-recovered}

-- after the reading alone a cut keeps all
read : (g : Over) (c : After-read_recovered g) → g.D.Disk.tells ≡ true
    → KeepsAll (g.D.Disk.state c.args.disk.now) (g.D.Disk.state c.read_recovered.new.disk)
read g c tells =
    all_kept _ _ (c.read_recovered.ensures.look.held tells)
    (c.read_recovered.ensures.look.flight tells ∙ c.requires.still tells)

-- what was read was given to the restoring
module _ (g : Over) (c : In_ok-recovered g) {view : Recovered} (same : view ≡ c.in_ok-recovered.field-0.recovered)
    (bins : List ℕ) (bins_is : bins ≡ view.bins) (tells : g.D.Disk.tells ≡ true) where
  -- a cut then keeps all
  restored : (now : DiskState)
      → EachCrash now (IsCutOfRestoring (g.D.Disk.state c.read_recovered.new.disk).held view.base bins)
      → KeepsAll (g.D.Disk.state c.args.disk.now) now
  restored now =
      all_restored (g.D.Disk.state c.args.disk.now) (g.D.Disk.state c.read_recovered.new.disk) now
      c.in_ok-recovered.field-0.recovered view.base bins (c.read_recovered.ensures.look.held tells)
      (c.in_ok-recovered.ensures.exact tells) (ap (λ (r : Recovered). r.base) same)
      (bins_is ∙ ap (λ (r : Recovered). r.bins) same)

  -- the reads and what it writes are all that a recovery asks
  asked_all : (bitmap : List ℕ) → bitmap ≡ c.in_ok-recovered.field-0.bitmap → view.dirty ≡ true
      → reads_of c.in_ok-recovered.ensures.asked.sectors ++ closing_calls view.base (bit bitmap) bins
      ≡ recovery_calls (g.D.Disk.state c.args.disk.now).held
  asked_all bitmap bitmap_is is =
      let asked = c.in_ok-recovered.ensures.asked in
      let dirty = sym (ap (λ (r : Recovered). r.dirty) same) ∙ is in
      restored_all (g.D.Disk.state c.args.disk.now).held asked.sectors (asked.are tells)
      c.in_ok-recovered.field-0.recovered (c.in_ok-recovered.ensures.exact tells) view.base bitmap bins
      c.in_ok-recovered.field-0.bitmap dirty (c.in_ok-recovered.ensures.found tells dirty)
      (ap (λ (r : Recovered). r.base) same) bitmap_is (bins_is ∙ ap (λ (r : Recovered). r.bins) same)

-- so it does after a restoring, if stopped or not
stopped : (g : Over) (c : After-restore g) → g.D.Disk.tells ≡ true
    → KeepsAll (g.D.Disk.state c.args.disk.now) (g.D.Disk.state c.restore.new.disk)
stopped g c tells =
    restored g (goal.at.After-restore g c).In_ok-recovered c.recovered.view_is _ c.as_slice-then-recovered.ensures tells _
    (c.restore.ensures.cut tells)

-- and at the end, with a restoring or with none
at_end : (g : Over) (c : After-drop-bitmap-inside-2 g) → g.D.Disk.tells ≡ true
    → KeepsAll (g.D.Disk.state c.args.disk.now) (g.D.Disk.state c.if-recovered.disk)
at_end g c tells =
    let way = goal.at.After-drop-bitmap-inside-2 g c in
    elim c.if-recovered.branch [
      | then-recovered+in_ok-restore w ↦
          rw w.disk-is (restored g way.In_ok-recovered c.recovered.view_is _ w.as_slice-then-recovered.ensures tells _
          (w.restore.ensures.cut tells))
      | else-recovered w ↦ rw w.disk-is (read g way.After-read_recovered tells)
    ]

pub returns-in_err-recovered-clause-made : goal.returns-in_err-recovered-clause-made
returns-in_err-recovered-clause-made g c =
    let asked = c.in_err-recovered.ensures.asked in
    only_read (g.D.Disk.calls c.args.disk.now) (g.D.Disk.calls c.read_recovered.new.disk) _ asked.sectors asked.made
    (λ tells. refused (g.D.Disk.state c.args.disk.now).held c.from_residual.result c.in_err-recovered.field-0.0
    asked.sectors c.from_residual.ensures.1 (asked.are tells) (c.in_err-recovered.ensures.exact tells))

pub returns-in_err-restore-clause-made : goal.returns-in_err-restore-clause-made
returns-in_err-restore-clause-made g c =
    let reads = c.in_ok-recovered.ensures.asked in
    let made = c.in_err-restore.ensures.made in
    let whole = recovery_calls (g.D.Disk.state c.args.disk.now).held in
    read_then (g.D.Disk.calls c.args.disk.now) (g.D.Disk.calls c.read_recovered.new.disk) _ reads.sectors reads.made
    (g.D.Disk.calls c.restore.new.disk) c.recovered.inside.base (bit c.as_slice.result.now)
    c.as_slice-then-recovered.result.now made
    (λ tells. stopped_by c.from_residual-in_err-restore.result c.in_err-restore.field-0.0 whole
    (reads_of reads.sectors ++ made.front) c.from_residual-in_err-restore.ensures.1
    (front_behind (reads_of reads.sectors) whole
    (asked_all g (goal.at.returns-in_err-restore-clause-made g c).In_ok-recovered c.recovered.view_is _
    c.as_slice-then-recovered.ensures tells _ c.as_slice.ensures c.if-recovered.true)
    (record { rest = made.rest; cut = made.cut })))

pub returns-clause-made : goal.returns-clause-made
returns-clause-made g c =
    let start = g.D.Disk.calls c.args.disk.now in
    let one = g.D.Disk.calls c.read_recovered.new.disk in
    let reads = c.in_ok-recovered.ensures.asked in
    elim c.if-recovered.branch [
      | then-recovered+in_ok-restore w ↦
          let bits = bit w.as_slice.result.now in
          let bins = w.as_slice-then-recovered.result.now in
          let calls = closing_calls c.recovered.inside.base bits bins in
          rw w.disk-is
          (read_then start one _ reads.sectors reads.made (g.D.Disk.calls w.restore.new.disk) c.recovered.inside.base bits
          bins
          (record { front = calls; rest = []; cut = sym (append-nil calls); made = w.in_ok-restore.ensures.made })
          (λ tells. asked_all g (goal.at.returns-clause-made g c).In_ok-recovered c.recovered.view_is bins
          w.as_slice-then-recovered.ensures tells _ w.as_slice.ensures w.if-recovered.true))
      | else-recovered w ↦ rw w.disk-is
          (only_read start one _ reads.sectors reads.made
          (λ tells. clean_all (g.D.Disk.state c.args.disk.now).held reads.sectors (reads.are tells)
          c.in_ok-recovered.field-0.recovered (c.in_ok-recovered.ensures.exact tells)
          (sym (ap (λ (r : Recovered). r.dirty) c.recovered.view_is) ∙ w.if-recovered.false)))
    ]

pub returns-in_err-recovered-clause-cut : goal.returns-in_err-recovered-clause-cut
returns-in_err-recovered-clause-cut g c = read g (goal.at.returns-in_err-recovered-clause-cut g c).After-read_recovered

pub returns-in_err-restore-clause-cut : goal.returns-in_err-restore-clause-cut
returns-in_err-restore-clause-cut g c = stopped g (goal.at.returns-in_err-restore-clause-cut g c).After-restore

pub returns-clause-cut : goal.returns-clause-cut
returns-clause-cut g c = at_end g (goal.at.returns-clause-cut g c).After-drop-bitmap-inside-2
