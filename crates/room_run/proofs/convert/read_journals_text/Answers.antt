use Rattle.std.proofs.Common.{refl}
use Rattle.room_run.specs.Causes.{record_unread, record_long, record_no_memory}
use Rattle.room_run.proofs.convert.read_journals_text.Goals as goal

pub returns-in-Err-ReadFault-clause-err : goal.returns-in-Err-ReadFault-clause-err
returns-in-Err-ReadFault-clause-err g c = record_unread (c.in-Err-ReadFault.ensures.fault (cc)) refl

pub returns-in-Err-TooLong-clause-err : goal.returns-in-Err-TooLong-clause-err
returns-in-Err-TooLong-clause-err g c = record_long (c.in-Err-TooLong.ensures.too_long (cc)) refl

pub returns-in-Err-Memory-clause-err : goal.returns-in-Err-Memory-clause-err
returns-in-Err-Memory-clause-err g c = record_no_memory refl
