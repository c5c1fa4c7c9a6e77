-- The exit number of each status. This project's own.
use Rattle.std.specs.Prelude.{ℕ}
use Rattle.command_parts.specs.declared.command_parts.status.Status.{Status}
use Rattle.command_parts.specs.declared.command_parts.status.Status.TheVariants.{Done, Usage, NoFile, ScriptFault, BootIniFault, HiveFault, ReadFault, WriteFault, Memory, RegFault, Found}

abbrev pub exit_of : Status → ℕ
exit_of Done = 0
exit_of Usage = 1
exit_of NoFile = 2
exit_of ScriptFault = 3
exit_of BootIniFault = 4
exit_of HiveFault = 5
exit_of ReadFault = 6
exit_of WriteFault = 7
exit_of Found = 8
exit_of Memory = 9
exit_of RegFault = 10
