use Rattle.std.proofs.Common.{◌∷◌, [], ℕ, List, subst}
use Rattle.hive_model.specs.Base.{base_text}
use Rattle.nt_edge.specs.Book.{file_of}
use Rattle.nt_edge.specs.Calls.{Wrote, Synced, Makes}
use Rattle.hive_commit.proofs.CallLemmas.{all_made, stopped, front_made, made_then}
use Rattle.hive_alt.specs.Twin.{copy_at}
use Rattle.hive_alt.proofs.writing.write_copy_block.Given.{Over}
use Rattle.hive_alt.proofs.writing.write_copy_block.Goals as goal
use Rattle.hive_alt.proofs.writing.write_copy_block.Goals.{After-write}

-- the sector that was written is the base block
one : (g : Over) (c : After-write g) → Makes (g.D.Disk.calls c.args.disk.now) (g.D.Disk.calls c.write.new.self)
    (Wrote (copy_at (file_of c.args.file) 0, base_text c.args.base.now) ∷ [])
one g c = subst (λ (l : List ℕ). Makes (g.D.Disk.calls c.args.disk.now) (g.D.Disk.calls c.write.new.self)
    (Wrote (copy_at (file_of c.args.file) 0, l) ∷ [])) c.base_bytes.ensures c.write.ensures.made

pub returns-in_err-write-clause-made : goal.returns-in_err-write-clause-made
returns-in_err-write-clause-made g c =
    stopped _ _ _ _ c.from_residual.ensures.0
    (front_made _ (g.D.Disk.calls c.write.new.self)
    (Wrote (copy_at (file_of c.args.file) 0, base_text c.args.base.now) ∷ []) (Synced ∷ [])
    (one g (goal.at.returns-in_err-write-clause-made g c).After-write))

pub returns-clause-made : goal.returns-clause-made
returns-clause-made g c =
    let before = g.D.Disk.calls c.args.disk.now in
    let after = g.D.Disk.calls c.sync.new.self in
    all_made before after _ _
    (made_then before (g.D.Disk.calls c.write.new.self) after
    (Wrote (copy_at (file_of c.args.file) 0, base_text c.args.base.now) ∷ []) (Synced ∷ [])
    (one g (goal.at.returns-clause-made g c).After-write) c.sync.ensures.made)
