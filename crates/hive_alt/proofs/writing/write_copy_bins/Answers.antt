use Rattle.std.proofs.Common.{◌≡◌, ◌∷◌, [], true, refl, length}
use Rattle.hive_model.specs.Recovery.{bit}
use Rattle.nt_edge.specs.Book.{file_of}
use Rattle.nt_edge.specs.Calls.{Synced, writes_of}
use Rattle.nt_edge.specs.Crash.{Writing}
use Rattle.nt_edge.proofs.Writing.{writing_start, writing_crash}
use Rattle.hive_commit.proofs.CallLemmas.{all_made, stopped, front_longer, made_then}
use Rattle.hive_alt.specs.Calls.{copy_writes}
use Rattle.hive_alt.specs.Copies.{is_bin}
use Rattle.hive_alt.proofs.writing.write_copy_bins.Given.{Over}
use Rattle.hive_alt.proofs.writing.write_copy_bins.Goals as goal
use Rattle.hive_alt.proofs.writing.write_copy_bins.Goals.{After-write_copy_marked}

-- the marked sectors alone are in flight
writing : (g : Over) (c : After-write_copy_marked g) → g.D.Disk.tells ≡ true
    → Writing (is_bin (file_of c.args.file) (length c.args.new.now) (bit c.args.bitmap.now))
    (g.D.Disk.state c.args.disk.now) (g.D.Disk.state c.write_copy_marked.new.disk)
writing g c tells =
    let first = g.D.Disk.state c.args.disk.now in
    c.write_copy_marked.ensures.writing tells first (writing_start _ first first refl (c.requires.still tells))

pub returns-in_err-write_copy_marked-clause-made : goal.returns-in_err-write_copy_marked-clause-made
returns-in_err-write_copy_marked-clause-made g c =
    stopped _ _ _ _ c.from_residual.ensures.0
    (front_longer _ _ _ (Synced ∷ []) c.in_err-write_copy_marked.ensures.made)

pub returns-clause-made : goal.returns-clause-made
returns-clause-made g c =
    let before = g.D.Disk.calls c.args.disk.now in
    let after = g.D.Disk.calls c.settle.new.disk in
    all_made before after _ _
    (made_then before (g.D.Disk.calls c.write_copy_marked.new.disk) after
    (writes_of (copy_writes (file_of c.args.file) (bit c.args.bitmap.now) c.args.new.now)) (Synced ∷ [])
    c.in_ok-write_copy_marked.ensures.made c.settle.ensures.made)

pub returns-in_err-write_copy_marked-clause-crash : goal.returns-in_err-write_copy_marked-clause-crash
returns-in_err-write_copy_marked-clause-crash g c = λ tells.
    writing_crash _ _ _
    (writing g (goal.at.returns-in_err-write_copy_marked-clause-crash g c).After-write_copy_marked tells)

pub returns-clause-crash : goal.returns-clause-crash
returns-clause-crash g c = λ tells.
    c.settle.ensures.crash tells _ _ (writing g (goal.at.returns-clause-crash g c).After-write_copy_marked tells)
