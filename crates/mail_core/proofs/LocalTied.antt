-- An office and its ends, on one thread, after a step.
use Rattle.std.proofs.Common.{ℕ, ◌+◌, ◌^◌, ◌<◌, ◌≡◌, List, [], ◌∷◌, ◌++◌, length, set, map, slice_get, Some, None, refl, sym, ap, subst, ◌∙◌, arith}
use Rattle.std.proofs.lemmas.List.{get_or-map, length-map, map-set, length-append, set-get_or, append-nil}
use Rattle.std.proofs.lemmas.Option.{slice_get_within, get_or_from_slice_get}
use Rattle.room_kinds.specs.declared.message.Msg.{Msg}
use Rattle.mail_core.specs.declared.ends.MailLocal.{MailLocal}
use Rattle.mail_core.specs.declared.ends.LocalOffice.{LocalOffice}
use Rattle.mail_core.specs.EndLog.{EndLog, fresh, gained, posting, taking}
use Rattle.mail_core.specs.Lanes.{lane_number, lane_of, log_at, IsFor, AllFor, LanesMatch}
use Rattle.mail_core.specs.Tied.{IsTied, StaysTied}
use Rattle.mail_core.specs.Local.{log_of, AreTied}
use Rattle.mail_core.proofs.Tied.{StaysTied-refl}
use Rattle.mail_core.proofs.LaneLemmas.{LanesMatch-post, LanesMatch-take, LanesMatch-look}

-- what is logged of the end that stands at its place
pub log_at-here : (ends : List MailLocal) (k : ℕ) (e : MailLocal) → slice_get ends k ≡ Some e → log_at (map log_of ends) k ≡ log_of e
log_at-here ends k e at = get_or-map log_of ends k e (fresh 0 0) (slice_get_within ends k e at) ∙ ap log_of (get_or_from_slice_get ends k e e at)

pub within : (office : LocalOffice) (ends : List MailLocal) (k : ℕ) (e : MailLocal) → AreTied office ends → slice_get ends k ≡ Some e → k < office.parties
within office ends k e t at = let h = slice_get_within ends k e at in omega (arith, h, t.all_ends, length-map ends log_of)

-- the end is one of the office's parties
pub IsTied-parties : {p : ℕ} {office : LocalOffice} {e : MailLocal} → IsTied AreTied p office e → (p < office.parties) × (e.parties ≡ office.parties)
IsTied-parties {p = p} {office = office} {e = e} t =
    let h = within office t.ends p e t.together t.here in
    (h, ap (λ l. l.parties) (sym (log_at-here t.ends p e t.here)) ∙ t.together.parties p h)

-- a step on the lanes and on the log of one end
pub StaysTied-local : (p : ℕ) (o o' : LocalOffice) (e e' : MailLocal) →
    ((logs : List EndLog) → LanesMatch o.parties o.lanes.items logs → p < o.parties → log_at logs p ≡ log_of e → LanesMatch o'.parties o'.lanes.items (set logs p (log_of e'))) →
    StaysTied AreTied p o o' e e'
StaysTied-local p o o' e e' step = record {
  again = λ ends t at. subst (λ logs. LanesMatch o'.parties o'.lanes.items logs) (sym (map-set log_of ends p e'))
      (step (map log_of ends) t (within o ends p e t at) (log_at-here ends p e at));
}

-- neither the lanes nor the log changed
pub StaysTied-still : {p : ℕ} {o o' : LocalOffice} {e e' : MailLocal} → o'.parties ≡ o.parties → o'.lanes.items ≡ o.lanes.items → log_of e' ≡ log_of e → StaysTied AreTied p o o' e e'
StaysTied-still {p = p} {o = o} {o' = o'} {e = e} {e' = e'} same_parties same_lanes same_log = StaysTied-local p o o' e e' (λ logs k h at.
    subst (λ n. LanesMatch n o'.lanes.items (set logs p (log_of e'))) (sym same_parties)
    (subst (λ ls. LanesMatch o.parties ls (set logs p (log_of e'))) (sym same_lanes)
    (subst (λ ls. LanesMatch o.parties o.lanes.items ls) (sym (ap (λ l. set logs p l) (same_log ∙ sym at) ∙ set-get_or logs p (fresh 0 0))) k)))

-- a post
pub StaysTied-post : {o o' : LocalOffice} {e e' : MailLocal} (m : Msg) → m.from.0 ≡ e.party → m.to.0 < o.parties → m.prio.0 < 6 →
    length ((log_of e).posted m.to.0 m.prio.0) + 1 < 2 ^ 63 → o'.parties ≡ o.parties →
    o'.lanes.items ≡ set o.lanes.items (lane_number o.parties e.party m.to.0 m.prio.0) (lane_of o.lanes.items o.parties e.party m.to.0 m.prio.0 ++ m ∷ []) →
    log_of e' ≡ posting (log_of e) m → StaysTied AreTied e.party o o' e e'
StaysTied-post {o = o} {o' = o'} {e = e} {e' = e'} m from to prio short same_parties lanes posts = StaysTied-local e.party o o' e e' (λ logs k h at.
    let base = LanesMatch-post o.parties e.party m.to.0 m.prio.0 o.lanes.items logs m k h to prio (record { from = from; to = refl; prio = refl })
    (subst (λ l. length (l.posted m.to.0 m.prio.0) + 1 < 2 ^ 63) (sym at) short) in
    subst (λ n. LanesMatch n o'.lanes.items (set logs e.party (log_of e'))) (sym same_parties)
    (subst (λ ls. LanesMatch o.parties ls (set logs e.party (log_of e'))) (sym lanes)
    (subst (λ l. LanesMatch o.parties (set o.lanes.items (lane_number o.parties e.party m.to.0 m.prio.0) (lane_of o.lanes.items o.parties e.party m.to.0 m.prio.0 ++ m ∷ [])) (set logs e.party l)) (ap (λ l. posting l m) at ∙ sym posts) base)))

-- a message taken
pub StaysTied-take : {o o' : LocalOffice} {e e' : MailLocal} (s p b : ℕ) (m : Msg) (rest : List Msg) → s < o.parties → p < 6 → o'.parties ≡ o.parties →
    lane_of o.lanes.items o.parties s e.party p ≡ m ∷ rest →
    o'.lanes.items ≡ set o.lanes.items (lane_number o.parties s e.party p) rest →
    log_of e' ≡ taking (log_of e) b (Some m) → StaysTied AreTied e.party o o' e e'
StaysTied-take {o = o} {o' = o'} {e = e} {e' = e'} s p b m rest sender prio same_parties front lanes takes = StaysTied-local e.party o o' e e' (λ logs k h at.
    let base = LanesMatch-take o.parties s e.party p b o.lanes.items logs m rest k sender h prio front in
    subst (λ n. LanesMatch n o'.lanes.items (set logs e.party (log_of e'))) (sym same_parties)
    (subst (λ ls. LanesMatch o.parties ls (set logs e.party (log_of e'))) (sym lanes)
    (subst (λ l. LanesMatch o.parties (set o.lanes.items (lane_number o.parties s e.party p) rest) (set logs e.party l)) (ap (λ l. taking l b (Some m)) at ∙ sym takes) base)))

-- a look
pub StaysTied-look : {p : ℕ} {o o' : LocalOffice} {e e' : MailLocal} (b : ℕ) → o'.parties ≡ o.parties → o'.lanes.items ≡ o.lanes.items →
    log_of e' ≡ taking (log_of e) b None → StaysTied AreTied p o o' e e'
StaysTied-look {p = p} {o = o} {o' = o'} {e = e} {e' = e'} b same_parties same_lanes looks = StaysTied-local p o o' e e' (λ logs k h at.
    let base = LanesMatch-look o.parties p b o.lanes.items logs k h in
    subst (λ n. LanesMatch n o'.lanes.items (set logs p (log_of e'))) (sym same_parties)
    (subst (λ ls. LanesMatch o.parties ls (set logs p (log_of e'))) (sym same_lanes)
    (subst (λ l. LanesMatch o.parties o.lanes.items (set logs p l)) (ap (λ l. taking l b None) at ∙ sym looks) base)))

-- what the front of a lane is, and that there is room for it in the list of those taken
pub IsTied-front : {q : ℕ} {o : LocalOffice} {e : MailLocal} (s p : ℕ) (m : Msg) (rest : List Msg) → IsTied AreTied q o e → s < o.parties → p < 6 →
    lane_of o.lanes.items o.parties s q p ≡ m ∷ rest → IsFor s q p m × (length ((log_of e).taken s p) + 1 < 2 ^ 63)
IsTied-front {q = q} {o = o} {e = e} s p m rest t sender prio front =
    let h = within o t.ends q e t.together t.here in
    let logs = map log_of t.ends in
    let k = t.together in
    let all : AllFor s q p (m ∷ rest) = subst (λ ms. AllFor s q p ms) front (k.for_lane s q p sender h prio) in
    let whole : (log_of e).taken s p ++ (m ∷ rest) ≡ (log_at logs s).posted q p =
    ap (λ l. l.taken s p ++ (m ∷ rest)) (sym (log_at-here t.ends q e t.here)) ∙ ap (λ ms. (log_at logs q).taken s p ++ ms) (sym front) ∙ k.kept s q p sender h prio in
    (all.0, omega (arith, ap length whole, length-append ((log_of e).taken s p) (m ∷ rest), k.short s q p sender h prio))

-- where a lane is empty, all that was posted in it is taken
pub IsTied-empty : {q : ℕ} {o : LocalOffice} {e : MailLocal} (p : ℕ) → IsTied AreTied q o e → p < 6 → lane_of o.lanes.items o.parties q q p ≡ [] → (log_of e).posted q p ≡ (log_of e).taken q p
IsTied-empty {q = q} {o = o} {e = e} p t prio empty =
    let h = within o t.ends q e t.together t.here in
    let logs = map log_of t.ends in
    let here = log_at-here t.ends q e t.here in
    sym (ap (λ l. l.taken q p) (sym here) ∙ sym (append-nil _) ∙ ap (λ ms. (log_at logs q).taken q p ++ ms) (sym empty) ∙ t.together.kept q q p h h prio ∙ ap (λ l. l.posted q p) here)

-- a look, and then a message kept
pub log_of-taken : (e e' e'' : MailLocal) (s p b : ℕ) (m : Msg) → log_of e' ≡ taking (log_of e) b None →
    log_of e'' ≡ record (log_of e') { taken = gained (log_of e').taken s p m } → m.from.0 ≡ s → m.prio.0 ≡ p → log_of e'' ≡ taking (log_of e) b (Some m)
unfolding taking
log_of-taken e e' e'' s p b m looks keeps from prio =
    let kept : log_of e'' ≡ record (taking (log_of e) b None) { taken = gained (log_of e).taken s p m } = subst (λ l. log_of e'' ≡ record l { taken = gained l.taken s p m }) looks keeps in
    subst (λ k. log_of e'' ≡ record (taking (log_of e) b None) { taken = gained (log_of e).taken m.from.0 k m }) (sym prio)
    (subst (λ k. log_of e'' ≡ record (taking (log_of e) b None) { taken = gained (log_of e).taken k p m }) (sym from) kept)

pub ruleset local_steps = (IsTied-parties, StaysTied-refl, StaysTied-still, StaysTied-post, StaysTied-take, StaysTied-look, IsTied-front, IsTied-empty)
