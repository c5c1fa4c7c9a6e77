-- What a cut leaves at each exit of a commit, by the clauses of its stages.
use Rattle.std.proofs.Common.{◌≡◌, ℕ, Bool, List, true, rules}
use Rattle.hive_model.specs.Base.{Base}
use Rattle.hive_model.specs.Image.{Image}
use Rattle.hive_model.specs.Recovery.{bit}
use Rattle.nt_edge.specs.Disk.{DiskState}
use Rattle.nt_edge.specs.Crash.{EachCrash}
use Rattle.hive_commit.specs.Cuts.{IsChange, IsCutOfCommit}
use Rattle.hive_commit.specs.Stages.{IsMarkedChange}
use Rattle.hive_commit.proofs.Four.{changed}
use Rattle.hive_commit.proofs.Staged.{IsLogWritten, IsBlockOpened, IsBinsWritten, IsBlockClosed, log_written, block_opened, bins_written, block_closed}
use Rattle.hive_commit.proofs.StagedCuts.{cut_in_log, cut_in_opening, cut_in_bins, cut_in_closing}
use Rattle.hive_commit.proofs.change.write_change.Given.{Over}
use Rattle.hive_commit.proofs.change.write_change.Goals as goal
use Rattle.hive_commit.proofs.change.write_change.Goals.{Start, After-texts_fit, After-write_log, In_ok-write_log, After-write_block, In_ok-write_block, After-write_bins, In_ok-write_bins, After-write_block-2, In_ok-write_block-2}

-- the marks tell what changes of what the disk carries
abbrev Told : (g : Over) → Start g → Type 0
Told g c = IsMarkedChange (g.D.Disk.state c.args.disk.now).held c.args.base.now c.args.new.now c.args.marks.now

-- what is known once a stage is done
abbrev Known : (g : Over) (c : Start g) → Told g c
    → (Image → Base → List ℕ → List ℕ → ℕ → (ℕ → Bool) → Image → Type 0) → DiskState → Type 0
Known g c d stage now = stage (g.D.Disk.state c.args.disk.now).held c.args.base.now d.old c.args.new.now c.args.root
    (bit c.args.marks.now) now.held

-- a cut is one of the commit, whatever data the marks are of
abbrev pub IsSafe : (g : Over) (c : Start g) → DiskState → Type 0
IsSafe g c now = g.D.Disk.tells ≡ true → (d : Told g c) → EachCrash now
    (IsCutOfCommit (g.D.Disk.state c.args.disk.now).held c.args.base.now d.old c.args.new.now c.args.root)

module _ (g : Over) where
  -- the data that the disk carries are changed as the marks tell
  pub change : (c : After-texts_fit g) (d : Told g (goal.at.After-texts_fit g c).Start)
      → IsChange (g.D.Disk.state c.args.disk.now).held c.args.base.now d.old c.args.new.now c.args.root
      (bit c.args.marks.now)
  change c d = changed (g.D.Disk.state c.args.disk.now).held c.args.base.now d.old c.args.new.now c.args.root
      c.args.marks.now d.carries c.numbers_fit.ensures c.texts_fit.ensures c.requires.sized (search rules) d.marked

  -- the log is written
  logged : (c : In_ok-write_log g) → g.D.Disk.tells ≡ true → (d : Told g (goal.at.In_ok-write_log g c).Start)
      → Known g (goal.at.In_ok-write_log g c).Start d IsLogWritten (g.D.Disk.state c.write_log.new.disk)
  logged c tells d =
      log_written (g.D.Disk.state c.write_log.new.disk) c.closed_block-closed.result c.closed_block-closed.ensures
      (change (goal.at.In_ok-write_log g c).After-texts_fit d) (c.write_log.ensures.crash tells)
      (c.in_ok-write_log.ensures.logged tells)

  -- the base block is opened
  opened : (c : In_ok-write_block g) → g.D.Disk.tells ≡ true → (d : Told g (goal.at.In_ok-write_block g c).Start)
      → Known g (goal.at.In_ok-write_block g c).Start d IsBlockOpened (g.D.Disk.state c.write_block.new.disk)
  opened c tells d =
      block_opened (logged (goal.at.In_ok-write_block g c).In_ok-write_log tells d)
      (g.D.Disk.state c.write_block.new.disk) c.opened_block.result c.opened_block.ensures
      (c.write_block.ensures.crash tells) (c.in_ok-write_block.ensures.written tells)

  -- the bins sectors are written
  written : (c : In_ok-write_bins g) → g.D.Disk.tells ≡ true → (d : Told g (goal.at.In_ok-write_bins g c).Start)
      → Known g (goal.at.In_ok-write_bins g c).Start d IsBinsWritten (g.D.Disk.state c.write_bins.new.disk)
  written c tells d =
      bins_written (opened (goal.at.In_ok-write_bins g c).In_ok-write_block tells d)
      (g.D.Disk.state c.write_bins.new.disk) (c.write_bins.ensures.crash tells) (c.in_ok-write_bins.ensures.written tells)

  -- the base block is closed
  pub closed : (c : In_ok-write_block-2 g) → g.D.Disk.tells ≡ true → (d : Told g (goal.at.In_ok-write_block-2 g c).Start)
      → Known g (goal.at.In_ok-write_block-2 g c).Start d IsBlockClosed (g.D.Disk.state c.write_block-2.new.disk)
  closed c tells d =
      block_closed (written (goal.at.In_ok-write_block-2 g c).In_ok-write_bins tells d)
      (g.D.Disk.state c.write_block-2.new.disk) c.closed_block-closed.result c.closed_block-closed.ensures
      (c.write_block-2.ensures.crash tells) (c.in_ok-write_block-2.ensures.written tells)

  -- a cut in each of the four, and after the last
  pub in_log : (c : After-write_log g) → IsSafe g (goal.at.After-write_log g c).Start (g.D.Disk.state c.write_log.new.disk)
  in_log c = λ tells d. cut_in_log (g.D.Disk.state c.write_log.new.disk)
      (change (goal.at.After-write_log g c).After-texts_fit d) (c.write_log.ensures.crash tells)

  pub in_opening : (c : After-write_block g)
      → IsSafe g (goal.at.After-write_block g c).Start (g.D.Disk.state c.write_block.new.disk)
  in_opening c = λ tells d. cut_in_opening (logged (goal.at.After-write_block g c).In_ok-write_log tells d)
      (g.D.Disk.state c.write_block.new.disk) c.opened_block.result c.opened_block.ensures
      (c.write_block.ensures.crash tells) (c.write_block.ensures.block tells)

  pub in_bins : (c : After-write_bins g)
      → IsSafe g (goal.at.After-write_bins g c).Start (g.D.Disk.state c.write_bins.new.disk)
  in_bins c = λ tells d. cut_in_bins (opened (goal.at.After-write_bins g c).In_ok-write_block tells d)
      (g.D.Disk.state c.write_bins.new.disk) (c.write_bins.ensures.crash tells)

  pub in_closing : (c : After-write_block-2 g)
      → IsSafe g (goal.at.After-write_block-2 g c).Start (g.D.Disk.state c.write_block-2.new.disk)
  in_closing c = λ tells d. cut_in_closing (written (goal.at.After-write_block-2 g c).In_ok-write_bins tells d)
      (g.D.Disk.state c.write_block-2.new.disk) c.closed_block-closed.result c.closed_block-closed.ensures
      (c.write_block-2.ensures.crash tells) (c.write_block-2.ensures.block tells)
