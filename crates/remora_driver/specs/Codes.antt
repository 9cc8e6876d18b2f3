-- Exit statuses.
use Rattle.std.specs.Prelude.{ℕ}
use Rattle.remora_driver.specs.declared.status.Status.{Status}
use Rattle.remora_driver.specs.declared.status.Status.TheVariants.{Ok, Trap, Refused, Usage, ReadFault, WriteFault, StillRunning, Memory, DataRefused, Stuck}

-- the exit status of each way to end
abbrev pub exit_code : Status → ℕ
exit_code Ok = 0
exit_code (Trap why) = 1
exit_code (Refused number at) = 2
exit_code Usage = 3
exit_code ReadFault = 4
exit_code WriteFault = 5
exit_code StillRunning = 6
exit_code Memory = 7
exit_code (DataRefused number at) = 8
exit_code (Stuck why) = 9
