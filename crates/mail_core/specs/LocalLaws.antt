-- The laws of mail on one thread.
use Rattle.std.proofs.Common.{ℕ, ◌<◌, ◌≡◌, List, length, map, slice_get, Some, ap, sym, ◌∙◌, arith}
use Rattle.std.proofs.lemmas.List.{get_or-map, length-map}
use Rattle.std.proofs.lemmas.Option.{slice_get_within, get_or_from_slice_get}
use Rattle.mail_core.specs.declared.ends.MailLocal.{MailLocal}
use Rattle.mail_core.specs.declared.ends.LocalOffice.{LocalOffice}
use Rattle.mail_core.specs.EndLog.{fresh}
use Rattle.mail_core.specs.Lanes.{log_at}
use Rattle.mail_core.specs.Local.{log_of, AreTied}

-- the ends stand in order of party
pub in_order : (office : LocalOffice) (ends : List MailLocal) (k : ℕ) (e : MailLocal) → AreTied office ends → slice_get ends k ≡ Some e → (e.party ≡ k) × (e.parties ≡ length ends)
in_order office ends k e t at =
    let inside = slice_get_within ends k e at in
    let count = length-map ends log_of in
    let here : log_at (map log_of ends) k ≡ log_of e = get_or-map log_of ends k e (fresh 0 0) inside ∙ ap log_of (get_or_from_slice_get ends k e e at) in
    let below : k < office.parties = omega (arith, inside, count, t.all_ends) in
    (ap (λ l. l.party) (sym here) ∙ t.party k below, ap (λ l. l.parties) (sym here) ∙ t.parties k below ∙ sym t.all_ends ∙ count)
