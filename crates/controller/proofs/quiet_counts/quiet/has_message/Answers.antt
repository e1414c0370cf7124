use Rattle.std.proofs.Common.{ℕ, List, length, get_or, refl, ap, ◌∙◌}
use Rattle.std.specs.List.{count_by}
use Rattle.std.proofs.lemmas.Option.{slice_get_read}
use Rattle.journal.specs.declared.entry.Entry.{Entry}
use Rattle.controller.specs.Calls.{is_fetch}
use Rattle.controller.proofs.quiet_counts.QuietLaw.{message_if_kept, message_if_odd}
use Rattle.controller.proofs.quiet_counts.quiet.has_message.Goals as goal

pub returns-then-keeps_messages : goal.returns-then-keeps_messages
returns-then-keeps_messages c = λ plant w s.
    let ks = c.args.all.now in
    let k = c.index-all-from.result in
    message_if_kept plant ks c.args.environment.now w s c.args.c k
    (slice_get_read ks (length ks) c.args.c.0 k refl c.requires (c.index-all-from.is ∙ ap (λ (z : ℕ). get_or ks z k) c.from.ensures))
    c.in_all-posted.result c.in_journal-fetched.result c.keeps_messages.result
    c.in_all-posted.ensures (c.in_journal-fetched.ensures.is ∙ ap (λ (z : List Entry). count_by is_fetch z) c.entries.ensures)
    c.keeps_messages.ensures c.if-keeps_messages.true

pub returns-else-keeps_messages : goal.returns-else-keeps_messages
returns-else-keeps_messages c = λ plant w s.
    let ks = c.args.all.now in
    let k = c.index-all-from.result in
    message_if_odd plant ks c.args.environment.now w s c.args.c k
    (slice_get_read ks (length ks) c.args.c.0 k refl c.requires (c.index-all-from.is ∙ ap (λ (z : ℕ). get_or ks z k) c.from.ensures))
    c.in_all-posted.result c.in_journal-fetched.result c.keeps_messages.result
    c.in_all-posted.ensures (c.in_journal-fetched.ensures.is ∙ ap (λ (z : List Entry). count_by is_fetch z) c.entries.ensures)
    c.keeps_messages.ensures c.if-keeps_messages.false
