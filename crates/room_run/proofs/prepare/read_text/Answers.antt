use Rattle.room_run.specs.Causes.{model_unread, model_long, model_no_memory}
use Rattle.room_run.proofs.prepare.read_text.Goals as goal

pub returns-in-Err-ReadFault-clause-err : goal.returns-in-Err-ReadFault-clause-err
returns-in-Err-ReadFault-clause-err g c = model_unread (c.in-Err-ReadFault.ensures.fault (cc))

pub returns-in-Err-TooLong-clause-err : goal.returns-in-Err-TooLong-clause-err
returns-in-Err-TooLong-clause-err g c = model_long (c.in-Err-TooLong.ensures.too_long (cc))

pub returns-in-Err-Memory-clause-err : goal.returns-in-Err-Memory-clause-err
returns-in-Err-Memory-clause-err g c = model_no_memory
