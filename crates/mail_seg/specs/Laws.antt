-- The laws of mail over shared boxes, as those of every mail.
use Rattle.std.proofs.Common.{ℕ, ◌≡◌, ◌+◌, ◌-◌, ◌<◌, List, length, slice_get, Some, refl, arith}
use Rattle.std.proofs.lemmas.Bool.{lt-ltb}
use Rattle.std.proofs.lemmas.Nat.{row_fits}
use Rattle.mail_core.specs.Boxes.{poll_place}
use Rattle.mail_core.specs.BoxLaws.{sender_place-below}
use Rattle.mail_seg.specs.declared.ends.MailSeg.{MailSeg}
use Rattle.mail_seg.specs.Ends.{log_of, IsSharedBox, shared_boxes, AreTied}

-- the ends stand in order of party
pub in_order : (office : Unit {0}) (ends : List MailSeg) (k : ℕ) (e : MailSeg) → AreTied office ends → slice_get ends k ≡ Some e → ((log_of e).party ≡ k) × ((log_of e).parties ≡ length ends)
in_order office ends k e t at = t.place k e at

-- each lane to a controller has a box
pub has_box : (n s r p : ℕ) → s < n → r + 1 < n → p < 6 → (b : ℕ) × (b < shared_boxes r n) × IsSharedBox n b s p
has_box n s r p a b c = (5 - p, rw (lt-ltb (r + 1) n b) (omega arith), record { sender = a; prio = c; number = refl })

-- a box has one priority
pub one_priority : (n b s p s' p' : ℕ) → IsSharedBox n b s p → IsSharedBox n b s' p' → p ≡ p'
one_priority n b s p s' p' i j = omega (arith, i.number, j.number, i.prio, j.prio)

-- the boxes stand in the order of a poll
pub poll_order : (n b s p b' s' p' : ℕ) → IsSharedBox n b s p → IsSharedBox n b' s' p' → b < b' → poll_place n s p < poll_place n s' p'
poll_order n b s p b' s' p' i j h = omega (arith, row_fits (5 - p) n (5 - p') n (omega (arith, i.number, j.number, h)) (omega arith), sender_place-below n s i.sender)
