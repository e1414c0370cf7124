use Rattle.std.proofs.Common.{sym, ap, ◌∙◌}
use Rattle.room_kinds.specs.declared.message.Msg.{Msg}
use Rattle.journal.specs.declared.entry.Entry.TheVariants as entries
use Rattle.journal_reader.specs.journal_texts.Filled.{filled_entry}
use Rattle.journal_reader.proofs.fill.filled_entry.Goals as goal

pub returns-in_ok-msg-in-Fetch : goal.returns-in_ok-msg-in-Fetch
returns-in_ok-msg-in-Fetch c = λ j are.
    ap (λ (m : Msg). entries.Fetch c.in-Fetch.stamp m) (c.in_ok-msg-in-Fetch.ensures j are) ∙ ap (filled_entry j) (sym c.in-Fetch.is)
