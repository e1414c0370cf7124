use Rattle.journal_reader.proofs.journal_texts.FormsApart.{tied_texts_differ}
use Rattle.journal_reader.proofs.journal_texts.tied_texts_differ.Goals as goal

pub returns : goal.returns
returns c = tied_texts_differ
