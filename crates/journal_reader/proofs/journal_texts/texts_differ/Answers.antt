use Rattle.journal_reader.proofs.journal_texts.JournalsBack.{texts_differ}
use Rattle.journal_reader.proofs.journal_texts.texts_differ.Goals as goal

pub returns : goal.returns
returns c = λ t i j consistent named fits_i range_i fits_j range_j same_text.
    texts_differ t i j (record { named = named; slots = consistent.slots_numbered; controllers = consistent.controllers_numbered }) fits_i range_i fits_j range_j same_text
