use Rattle.journal_reader.proofs.journal_texts.JournalsBack.{reads_back}
use Rattle.journal_reader.proofs.journal_texts.reads_back.Goals as goal

pub returns : goal.returns
returns c = λ t j consistent named fits range. reads_back t j (record { named = named; slots = consistent.slots_numbered; controllers = consistent.controllers_numbered }) fits range
