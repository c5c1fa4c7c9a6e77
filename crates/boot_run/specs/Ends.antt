-- Whether a judgement ends the start, and with which verdict; and the verdict where no set is there. (this project's own)
use Rattle.std.specs.Prelude.{◌≡◌, Bool, Option, Some, None, if◌then◌else◌}
use Rattle.report_words.specs.declared.words.Verdict.{Verdict}
use Rattle.report_words.specs.declared.words.Verdict.TheVariants as verdicts
use Rattle.boot_phases.specs.declared.error_control.outcome.Judgement.{Judgement}
use Rattle.boot_phases.specs.declared.error_control.outcome.Judgement.TheVariants as judged

-- a start goes on after a failure that is ignored or logged, and ends after the others
abbrev pub EndsAs : Option Verdict → Judgement → Type 0
EndsAs verdict judged.Ignore = verdict ≡ None
EndsAs verdict judged.Log = verdict ≡ None
EndsAs verdict judged.FallBack = verdict ≡ Some verdicts.FallBack
EndsAs verdict judged.Stop = verdict ≡ Some verdicts.Stopped

-- the verdict where no set is there to be taken
abbrev pub missing : Bool → Verdict
missing on_good = if on_good then verdicts.NoLastKnownGood else verdicts.NoControlSet
