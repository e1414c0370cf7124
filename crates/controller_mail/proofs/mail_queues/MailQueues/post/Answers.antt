use Rattle.std.proofs.Common.{◌≡◌, [], Some, get_or, ap, ◌∙◌, subst}
use Rattle.journal.specs.declared.entry.Entry.TheVariants as entry
use Rattle.actor_merge.specs.Parties.{post, stamped}
use Rattle.controller_mail.specs.Queues.{Queues, alone}
use Rattle.controller_mail.proofs.Mails.{nothing_left, posted-from, posted-none}
use Rattle.controller_mail.proofs.mail_queues.MailQueues.post.Goals as goal

pub returns-in_default-clause-ok : goal.returns-in_default-clause-ok
returns-in_default-clause-ok c =
    let empty = nothing_left c.self.inside.outbox c.in_default.ensures.some in
    posted-none c.args.me.0 c.args.self.now (subst (λ (q : Queues). q.outbox ≡ []) c.self.view_is empty)

pub returns-clause-ok : goal.returns-clause-ok
returns-clause-ok c =
    let s = c.self.inside in
    let me = c.args.me.0 in
    let q : Queues = record { clock = s.clock; turns = s.turns; pending = s.pending; outbox = s.outbox } in
    let stamp = c.in_ok-stamp.stamp in
    let front = c.in-Some-pop_front.posted in
    let rest = c.pop_front.new.self in
    let new : Queues = record { clock = stamp; turns = s.turns; pending = s.pending; outbox = rest } in
    let copied : c.in_ok-copy.field-0 ≡ front = c.in_ok-copy.ensures ∙ c.in-Some.ensures.first ∙ ap (λ ms. get_or ms 0 c.in-Some.front.now) c.in-Some-pop_front.ensures in
    subst (λ (old : Queues). post me (alone old) ≡ Some (alone new, entry.Post (record { 0 = stamp }) c.stamped-msg.result)) c.self.view_is
    (posted-from me q front rest stamp (entry.Post (record { 0 = stamp }) c.stamped-msg.result) c.in-Some-pop_front.ensures c.in_ok-stamp.ensures.ok
    (ap (λ x. entry.Post (record { 0 = stamp }) x) (c.stamped-msg.ensures ∙ ap (λ x. stamped me stamp x) copied)))
