use Rattle.std.proofs.Common.{◌∙◌, ap, refl, Some}
use Rattle.std.specs.Prelude.{codes, ◌==◌, ◌&&◌}
use Rattle.command_laws.proofs.run_examples.calling.host_with.Goals as goal

pub returns : goal.returns
returns c =
    let reads =
    c.add-3.ensures.fail_read ∙ c.add-2.ensures.fail_read ∙ c.add.ensures.fail_read ∙ c.new-host.ensures.no_read in
    let writes =
    c.add-3.ensures.fail_write ∙ c.add-2.ensures.fail_write ∙ c.add.ensures.fail_write ∙ c.new-host.ensures.no_write in
    let said = c.add-3.ensures.said ∙ c.add-2.ensures.said ∙ c.add.ensures.said in
    record {
      tells = refl;
      quiet = λ i. (reads i == 0) && (writes i == 0);
      unsaid = (λ i. (said i).items) ∙ c.new-host.ensures.said;
      hive = c.in_ok-add-3.ensures.put (codes "hive") ∙ c.in_ok-add-2.ensures.put (codes "hive")
          ∙ c.in_ok-add.ensures.put (codes "hive");
      ini = c.in_ok-add-3.ensures.put (codes "boot.ini") ∙ c.in_ok-add-2.ensures.put (codes "boot.ini")
          ∙ ap Some c.as_bytes.ensures.value;
      script = c.in_ok-add-3.ensures.put (codes "script") ∙ ap Some c.as_bytes-2.ensures.value;
    }
