use Rattle.journal_reader.proofs.journal_texts.FormsApart.{forms_differ}
use Rattle.journal_reader.proofs.journal_texts.forms_differ.Goals as goal

pub returns : goal.returns
returns c = forms_differ
