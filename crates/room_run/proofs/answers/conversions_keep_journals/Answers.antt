use Rattle.room_run.proofs.JournalLaws.{conversions_keep}
use Rattle.room_run.proofs.answers.conversions_keep_journals.Goals as goal

pub returns : goal.returns
returns c = conversions_keep
