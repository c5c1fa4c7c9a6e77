use Rattle.std.proofs.Common.{◌≡◌, ◌<◌, ◌+◌, ◌*◌, ◌/◌, ◌++◌, ◌∷◌, [], ℕ, Bool, true, List, length, ap, refl, arith}
use Rattle.hive_model.specs.Base.{base_text}
use Rattle.hive_model.specs.Recovery.{bit, rank, sector, first_dirty, bitmap_sectors}
use Rattle.hive_model.specs.Log.{bitmap_text, log_of}
use Rattle.nt_edge.specs.Disk.{now_of}
use Rattle.nt_edge.specs.Calls.{Made, Synced, writes_of}
use Rattle.hive_commit.specs.Calls.{log_writes}
use Rattle.hive_commit.specs.Growing.{log_part}
use Rattle.hive_log.proofs.LogParts.{log_long, log_block, log_bitmap, log_marked}
use Rattle.hive_commit.proofs.CallLemmas.{all_made, stopped}
use Rattle.hive_commit.proofs.StageCalls.{in_first, in_second, in_third, all_four}
use Rattle.hive_commit.proofs.WriteCalls.{log_cut}
use Rattle.hive_commit.proofs.LogSectors as sectors
use Rattle.hive_commit.proofs.Growth.{logged_from}
use Rattle.nt_edge.specs.Crash.{Writing}
use Rattle.nt_edge.proofs.Writing.{writing_start, writing_crash}
use Rattle.hive_commit.specs.Stages.{in_log}
use Rattle.hive_commit.proofs.stages.write_log.Given.{Over}
use Rattle.hive_commit.proofs.stages.write_log.Goals as goal
use Rattle.hive_commit.proofs.stages.write_log.Goals.{After-write_log_block, After-write_log_bitmap, After-write_log_run}

-- the log that is written, and its sectors
module _ (g : Over) (c : After-write_log_block g) where
  abbrev bits : ℕ → Bool
  bits = bit c.args.bitmap.now

  abbrev new : List ℕ
  new = c.args.new.now

  abbrev log : List ℕ
  log = log_of bits new c.args.base.now

  whole : 512 * (length new / 512) ≡ length new
  whole = omega (arith, c.requires.pages)

  long : length log ≡ 512 * (first_dirty (length new) + rank bits (length new / 512))
  long = sectors.log_long bits new c.args.base.now c.write_log_block.ensures.long whole

  block : sector log 0 ≡ base_text (record c.args.base.now { kind = 1 })
  block = sectors.log_block bits new c.args.base.now c.write_log_block.ensures.long

  bitmap : (k : ℕ) → k < bitmap_sectors (length new) → sector log (1 + k) ≡ sector (bitmap_text bits (length new)) k
  bitmap = sectors.log_bitmap bits new c.args.base.now c.write_log_block.ensures.long whole

  marked : (i : ℕ) → 512 * i < length new → bits i ≡ true
      → sector log (first_dirty (length new) + rank bits i) ≡ sector new i
  marked = sectors.log_marked bits new c.args.base.now c.write_log_block.ensures.long whole

  abbrev bitmap_part : List Made
  bitmap_part = writes_of (log_part log 1 (bitmap_sectors (length new)))

  abbrev run_part : List Made
  run_part = writes_of (log_part log (first_dirty (length new)) (rank bits (length new / 512)))

  -- its three parts and the sync are the calls of the stage
  parts : ((writes_of (log_part log 0 1) ++ bitmap_part) ++ run_part) ++ Synced ∷ []
      ≡ writes_of (log_writes log) ++ Synced ∷ []
  parts = ap (λ (l : List Made). l ++ Synced ∷ [])
      (log_cut log (bitmap_sectors (length new)) (rank bits (length new / 512)) long)

-- each part writes in the log alone
block_writing : (g : Over) (c : After-write_log_block g) → g.D.Disk.tells ≡ true
    → Writing in_log (g.D.Disk.state c.args.disk.now) (g.D.Disk.state c.write_log_block.new.disk)
block_writing g c tells =
    let first = g.D.Disk.state c.args.disk.now in
    c.write_log_block.ensures.writing tells first (writing_start in_log first first refl (c.requires.still tells))

bitmap_writing : (g : Over) (c : After-write_log_bitmap g) → g.D.Disk.tells ≡ true
    → Writing in_log (g.D.Disk.state c.args.disk.now) (g.D.Disk.state c.write_log_bitmap.new.disk)
bitmap_writing g c tells =
    c.write_log_bitmap.ensures.writing tells (g.D.Disk.state c.args.disk.now)
    (block_writing g (goal.at.After-write_log_bitmap g c).After-write_log_block tells)

run_writing : (g : Over) (c : After-write_log_run g) → g.D.Disk.tells ≡ true
    → Writing in_log (g.D.Disk.state c.args.disk.now) (g.D.Disk.state c.write_log_run.new.disk)
run_writing g c tells =
    c.write_log_run.ensures.writing tells (g.D.Disk.state c.args.disk.now)
    (bitmap_writing g (goal.at.After-write_log_run g c).After-write_log_bitmap tells)

pub returns-in_err-write_log_block-clause-made : goal.returns-in_err-write_log_block-clause-made
returns-in_err-write_log_block-clause-made g c =
    let s = (goal.at.returns-in_err-write_log_block-clause-made g c).After-write_log_block in
    stopped _ _ _ _ c.from_residual.ensures.0
    (in_first _ (bitmap_part g s) (run_part g s) (Synced ∷ []) _ (parts g s) _ _ (c.in_err-write_log_block.ensures.made (log g s) (block g s)))

pub returns-in_err-write_log_bitmap-clause-made : goal.returns-in_err-write_log_bitmap-clause-made
returns-in_err-write_log_bitmap-clause-made g c =
    let s = (goal.at.returns-in_err-write_log_bitmap-clause-made g c).After-write_log_block in
    stopped _ _ _ _ c.from_residual-in_err-write_log_bitmap.ensures.0
    (in_second _ _ _ _ _ (parts g s) _ _ _ (c.in_ok-write_log_block.ensures.made (log g s) (block g s))
    (c.in_err-write_log_bitmap.ensures.made (log g s) (bitmap g s)))

pub returns-in_err-write_log_run-clause-made : goal.returns-in_err-write_log_run-clause-made
returns-in_err-write_log_run-clause-made g c =
    let s = (goal.at.returns-in_err-write_log_run-clause-made g c).After-write_log_block in
    stopped _ _ _ _ c.from_residual-in_err-write_log_run.ensures.0
    (in_third _ _ _ _ _ (parts g s) _ (g.D.Disk.calls c.write_log_block.new.disk) _
    (c.in_ok-write_log_block.ensures.made (log g s) (block g s)) _
    (c.in_ok-write_log_bitmap.ensures.made (log g s) (bitmap g s))
    (c.in_err-write_log_run.ensures.made (log g s) (marked g s)))

pub returns-clause-made : goal.returns-clause-made
returns-clause-made g c =
    let s = (goal.at.returns-clause-made g c).After-write_log_block in
    let start = g.D.Disk.calls c.args.disk.now in
    let last = g.D.Disk.calls c.settle.new.disk in
    all_made start last _ _
    (all_four _ _ _ _ _ (parts g s) start (g.D.Disk.calls c.write_log_block.new.disk)
    (g.D.Disk.calls c.write_log_bitmap.new.disk) (c.in_ok-write_log_block.ensures.made (log g s) (block g s))
    (g.D.Disk.calls c.write_log_run.new.disk) (c.in_ok-write_log_bitmap.ensures.made (log g s) (bitmap g s)) last
    (c.in_ok-write_log_run.ensures.made (log g s) (marked g s)) c.settle.ensures.made)

pub returns-in_err-write_log_block-clause-crash : goal.returns-in_err-write_log_block-clause-crash
returns-in_err-write_log_block-clause-crash g c = λ tells.
    writing_crash in_log (g.D.Disk.state c.args.disk.now) (g.D.Disk.state c.write_log_block.new.disk)
    (block_writing g (goal.at.returns-in_err-write_log_block-clause-crash g c).After-write_log_block tells)

pub returns-in_err-write_log_bitmap-clause-crash : goal.returns-in_err-write_log_bitmap-clause-crash
returns-in_err-write_log_bitmap-clause-crash g c = λ tells.
    writing_crash in_log (g.D.Disk.state c.args.disk.now) (g.D.Disk.state c.write_log_bitmap.new.disk)
    (bitmap_writing g (goal.at.returns-in_err-write_log_bitmap-clause-crash g c).After-write_log_bitmap tells)

pub returns-in_err-write_log_run-clause-crash : goal.returns-in_err-write_log_run-clause-crash
returns-in_err-write_log_run-clause-crash g c = λ tells.
    writing_crash in_log (g.D.Disk.state c.args.disk.now) (g.D.Disk.state c.write_log_run.new.disk)
    (run_writing g (goal.at.returns-in_err-write_log_run-clause-crash g c).After-write_log_run tells)

pub returns-clause-crash : goal.returns-clause-crash
returns-clause-crash g c = λ tells.
    c.settle.ensures.crash tells in_log (g.D.Disk.state c.args.disk.now)
    (run_writing g (goal.at.returns-clause-crash g c).After-write_log_run tells)

pub returns-clause-logged : goal.returns-clause-logged
returns-clause-logged g c = λ tells.
    let bits = bit c.args.bitmap.now in
    let new = c.args.new.now in
    let base = c.args.base.now in
    let whole : 512 * (length new / 512) ≡ length new = omega (arith, c.requires.pages) in
    let log = log_of bits new base in
    let one = c.in_ok-write_log_block.ensures.front tells log (log_block bits new base (c.requires.fits tells) whole) in
    let two = c.in_ok-write_log_bitmap.ensures.front tells log
    (λ k below. log_bitmap bits new base (c.requires.fits tells) whole k below) one in
    let three = c.in_ok-write_log_run.ensures.front tells log
    (λ i small on. log_marked bits new base (c.requires.fits tells) whole i small on) two in
    let s = g.D.Disk.state c.write_log_run.new.disk in
    let t = g.D.Disk.state c.settle.new.disk in
    logged_from c.settle.result (now_of s) t.held log (first_dirty (length new) + rank bits (length new / 512))
    (c.settle.ensures.held tells) three (log_long bits new base (c.requires.fits tells) whole)
