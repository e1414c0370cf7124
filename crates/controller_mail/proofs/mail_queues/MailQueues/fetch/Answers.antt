use Rattle.std.proofs.Common.{◌≡◌, ◌+◌, ap, subst, ◌∙◌}
use Rattle.journal.specs.declared.entry.Entry.TheVariants as entry
use Rattle.actor_merge.specs.Parties.{fetch}
use Rattle.controller_mail.specs.Queues.{Queues, alone}
use Rattle.controller_mail.proofs.Mails.{fetched-from}
use Rattle.controller_mail.proofs.mail_queues.MailQueues.fetch.Goals as goal

pub returns-clause-ok : goal.returns-clause-ok
returns-clause-ok c =
    let s = c.self.inside in
    let q : Queues = record { clock = s.clock; turns = s.turns; pending = s.pending; outbox = s.outbox } in
    let stamp = c.in_ok-stamp.stamp in
    let new : Queues = record { clock = stamp; turns = s.turns; pending = c.add.new.self; outbox = s.outbox } in
    subst (λ (old : Queues). fetch (alone old) c.args.m ≡ (alone new, entry.Fetch (record { 0 = stamp }) c.in_ok-msg.msg)) c.self.view_is
    (fetched-from q c.args.m stamp c.add.new.self (entry.Fetch (record { 0 = stamp }) c.in_ok-msg.msg)
    (c.in_ok-stamp.ensures.ok ∙ ap (λ n. n + 1) c.max.ensures)
    c.in_ok-add.ensures.ok
    (ap (λ m. entry.Fetch (record { 0 = stamp }) m) c.in_ok-msg.ensures))
