use Rattle.refusal_reason.proofs.PrintedLemmas.{hive-heard, other-heard, script-heard, reg-heard, boot_ini-heard, no_file-heard}
use Rattle.refusal_reason.proofs.reason_lines.laws.printed_faults_are_heard.Goals as goal

pub returns : goal.returns
returns c = record {
  hive = hive-heard;
  other = other-heard;
  script = script-heard;
  reg = reg-heard;
  no_file = no_file-heard;
  boot_ini = boot_ini-heard;
}
