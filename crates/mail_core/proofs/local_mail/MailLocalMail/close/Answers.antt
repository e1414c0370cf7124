use Rattle.std.proofs.Common.{map, length, ◌+◌, ◌≡◌, ℕ, ◌<◌, slice_get, Some, ap, ◌∙◌}
use Rattle.std.proofs.lemmas.List.{length-map}
use Rattle.mail_core.specs.Lanes.{lane_of}
use Rattle.mail_core.specs.SetUp.{IsLeft, in_poll_order}
use Rattle.mail_core.specs.Local.{log_of}
use Rattle.mail_core.proofs.DrainLemmas.{IfOk-both, IsLeft-drained}
use Rattle.mail_core.proofs.local_mail.MailLocalMail.close.Goals as goal

pub returns : goal.returns
returns c =
    let n = c.args.office.parties in
    IfOk-both c.drain_all.result (λ v. length v.items + 1 ≡ n)
    (λ v. (r : ℕ) → r + 1 < n → slice_get (map (λ x. x.items) v.items) r ≡ Some (in_poll_order n (λ s p. lane_of c.args.office.lanes.items n s r p)))
    (λ left. IsLeft (map log_of c.args.ends.items) (map (λ v. v.items) left.items))
    (λ v count order. IsLeft-drained n c.args.office.lanes.items (map log_of c.args.ends.items) (map (λ x. x.items) v.items) c.requires.tied (ap (λ m. m + 1) (length-map v.items (λ x. x.items)) ∙ count) order)
    c.drain_all.ensures.count c.drain_all.ensures.order
