-- The exit number of each status. This project's own.
use Rattle.std.specs.Prelude.{ℕ}
use Rattle.mend_command.specs.declared.mend_command.status.MendStatus.{MendStatus}
use Rattle.mend_command.specs.declared.mend_command.status.MendStatus.TheVariants.{Done, HiveFault, WriteFault, Memory, Device, Cut}

abbrev pub exit_of : MendStatus → ℕ
exit_of Done = 0
exit_of HiveFault = 5
exit_of WriteFault = 7
exit_of Memory = 9
exit_of Device = 11
exit_of Cut = 12
