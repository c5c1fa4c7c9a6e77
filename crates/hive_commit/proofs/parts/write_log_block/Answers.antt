use Rattle.std.proofs.Common.{◌≡◌, ◌∷◌, ℕ, List, [], refl, sym, ◌∙◌, ap, subst}
use Rattle.hive_model.specs.Base.{base_text}
use Rattle.hive_model.specs.Recovery.{sector}
use Rattle.nt_edge.specs.Calls.{Wrote, Makes}
use Rattle.hive_model.specs.Asked.{log_at}
use Rattle.hive_commit.specs.Stages.{in_log}
use Rattle.hive_commit.proofs.CallLemmas.{all_made}
use Rattle.hive_commit.proofs.parts.write_log_block.Goals as goal

pub returns-clause-made : goal.returns-clause-made
returns-clause-made g c = λ log is.
    let before = g.D.Disk.calls c.args.disk.now in
    let after = g.D.Disk.calls c.put_sector.new.disk in
    let bytes_are : c.base_bytes.new.into ≡ sector log 0 =
    c.base_bytes.ensures ∙ ap base_text c.logged_block.ensures ∙ sym is in
    all_made before after c.put_sector.result (Wrote (log_at 0, sector log 0) ∷ [])
    (subst (λ (l : List ℕ). Makes before after (Wrote (log_at 0, l) ∷ [])) bytes_are c.put_sector.ensures.made)

pub returns-clause-writing : goal.returns-clause-writing
returns-clause-writing g c = λ tells first so_far. c.put_sector.ensures.writing tells in_log first refl so_far
