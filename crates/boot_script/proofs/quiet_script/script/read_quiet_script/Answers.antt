use Rattle.std.proofs.Common.{◌≤◌, length, ap, subst, ◌∙◌}
use Rattle.std.specs.Prelude.{Option, ℕ}
use Rattle.boot_script.specs.boot_script.Script.{script_of, GivesScript}
use Rattle.boot_script.specs.quiet_script.Quiet.{up_to}
use Rattle.boot_script.proofs.QuietLemmas.{script_quiet}
use Rattle.boot_script.proofs.quiet_script.script.read_quiet_script.Goals as goal

pub returns-clause-exact : goal.returns-clause-exact
returns-clause-exact c =
    let text = c.args.text.now in
    let short : length text ≤ 65536 = c.if-text-gt-MAX_LEN.false in
    subst (GivesScript c.up_to_order.result)
    (ap (λ (n : Option ℕ). up_to n (script_of text)) c.in_ok-order.ensures ∙ script_quiet text short)
    (c.up_to_order.ensures.exact (script_of text) c.read_script-read.ensures.exact)
