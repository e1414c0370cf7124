use Rattle.std.proofs.Common.{◌≡◌, ◌+◌, refl, ap, subst, ◌∙◌}
use Rattle.journal.specs.declared.entry.Entry.TheVariants as entry
use Rattle.actor_merge.specs.Parties.{put_back}
use Rattle.controller_mail.specs.MailState.{TurnDone, pending_of}
use Rattle.controller_mail.specs.Queues.{Queues, alone, end_turn}
use Rattle.controller_mail.proofs.Mails.{ended-from}
use Rattle.controller_mail.proofs.mail_queues.MailQueues.end_turn.Goals as goal

pub returns : goal.returns
returns c =
    let s = c.self.inside in
    let q : Queues = record { clock = s.clock; turns = s.turns; pending = s.pending; outbox = s.outbox } in
    let done : TurnDone = record { sent = c.args.done.sent; back = c.args.done.back; did = c.args.done.did; notes = c.args.done.notes } in
    let stamp = c.in_ok-stamp.stamp in
    let new : Queues = record { clock = stamp; turns = s.turns + 1; pending = c.put_back.new.self; outbox = c.of.result } in
    let event = entry.Turn (record { 0 = stamp }) c.args.from c.args.sent c.args.done.did c.args.done.notes in
    subst (λ (old : Queues). end_turn (alone old) c.args.from c.args.sent done ≡ (alone new, event)) c.self.view_is
    (ended-from q c.args.from c.args.sent done stamp (s.turns + 1) c.put_back.new.self c.of.result event
    c.in_ok-stamp.ensures.ok refl
    (c.in_ok-put_back.ensures ∙ ap (λ ms. put_back ms (pending_of s.pending)) c.into_vec.ensures)
    (c.of.ensures ∙ c.into_vec-2.ensures) refl)
