-- The exit statuses.
use Rattle.std.specs.Prelude.{ℕ}
use Rattle.room_run.specs.declared.status.Status.{Status}
use Rattle.room_run.specs.declared.status.Status.TheVariants as statuses

abbrev pub number_of : Status → ℕ
number_of statuses.Done = 0
number_of statuses.WordsRefused = 1
number_of statuses.ModelRefused = 2
number_of statuses.InjectionsRefused = 3
number_of statuses.Spent = 4
number_of statuses.Memory = 5
number_of statuses.ReadFault = 6
number_of statuses.WriteFault = 7
number_of statuses.Unlawful = 8
number_of statuses.JournalsRefused = 9
