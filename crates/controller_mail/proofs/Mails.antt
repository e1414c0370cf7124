-- What the queues and the mail become at each event.
use Rattle.std.proofs.Common.{◌≡◌, ℕ, ◌+◌, ◌<◌, ◌↔◌, true, false, length, arith, max, List, [], ◌∷◌, ◌++◌, Some, None, refl, sym, ap, ◌∙◌}
use Rattle.room_kinds.specs.declared.message.Msg.{Msg}
use Rattle.journal.specs.declared.entry.Entry.{Entry}
use Rattle.journal.specs.declared.entry.Entry.TheVariants as entry
use Rattle.room_kinds.specs.declared.numbers.ControllerId.{ControllerId}
use Rattle.room_kinds.specs.declared.numbers.Stamp.{Stamp}
use Rattle.actor_merge.specs.Parties.{State, put, put_back, fetch, post, post_front, stamped}
use Rattle.controller_mail.specs.MailState.{MailState, TurnDone, pending_of}
use Rattle.controller_mail.specs.Queues.{Queues, TakesOut, alone, end_turn}
use Rattle.controller_mail.specs.Steps.{Fetches, Posts, TakesNext, EndsTurn}

-- a state from its parts
abbrev pub state_with : {B : Type 0} → ℕ → ℕ → (ℕ → List Msg) → List Msg → B → State B
state_with clock turns pending outbox body = record { clock = clock; turns = turns; pending = pending; outbox = outbox; body = body }

-- equal parts make equal states
pub same_state : {B : Type 0} (a a' c c' : ℕ) (p p' : ℕ → List Msg) (o o' : List Msg) (body : B) → a ≡ a' → c ≡ c' → p ≡ p' → o ≡ o'
    → state_with a c p o body ≡ state_with a' c' p' o' body
same_state a a' c c' p p' o o' body e f g h =
    ap (λ x. state_with x c p o body) e ∙ ap (λ x. state_with a' x p o body) f ∙ ap (λ x. state_with a' c' x o body) g ∙ ap (λ x. state_with a' c' p' x body) h

-- queues that were fetched into
pub fetched-from : (q : Queues) (m : Msg) (stamp : ℕ) (ps : List (List Msg)) (e : Entry) → stamp ≡ max q.clock m.stamp.0 + 1
    → pending_of ps ≡ put (pending_of q.pending) m.prio.0 (pending_of q.pending m.prio.0 ++ m ∷ [])
    → e ≡ entry.Fetch (record { 0 = stamp }) m
    → fetch (alone q) m ≡ (alone (record { clock = stamp; turns = q.turns; pending = ps; outbox = q.outbox }), e)
unfolding fetch
fetched-from q m stamp ps e at listed is =
    ap (λ t. (state_with t q.turns (put (pending_of q.pending) m.prio.0 (pending_of q.pending m.prio.0 ++ m ∷ [])) q.outbox tt, entry.Fetch (record { 0 = t }) m)) (sym at)
    ∙ ap (λ f. (state_with stamp q.turns f q.outbox tt, entry.Fetch (record { 0 = stamp }) m)) (sym listed)
    ∙ ap (λ x. (state_with stamp q.turns (pending_of ps) q.outbox tt, x)) (sym is)

-- queues of which the front of the outbox was posted
pub posted-from : (c : ℕ) (q : Queues) (front : Msg) (rest : List Msg) (stamp : ℕ) (e : Entry) → q.outbox ≡ front ∷ rest → stamp ≡ q.clock + 1
    → e ≡ entry.Post (record { 0 = stamp }) (stamped c stamp front)
    → post c (alone q) ≡ Some (alone (record { clock = stamp; turns = q.turns; pending = q.pending; outbox = rest }), e)
unfolding post
posted-from c q front rest stamp e at next is =
    ap (λ o. post_front c (alone q) o) at
    ∙ ap (λ t. Some (state_with t q.turns (pending_of q.pending) rest tt, entry.Post (record { 0 = t }) (stamped c t front))) (sym next)
    ∙ ap (λ x. Some (state_with stamp q.turns (pending_of q.pending) rest tt, x)) (sym is)

-- no front is no message
pub nothing_left : (ms : List Msg) → ((false ≡ true) ↔ (0 < length ms)) → ms ≡ []
nothing_left [] h = refl
nothing_left (m ∷ ms) h = absurd (let no : false ≡ true = h.1 (omega arith) in cc)

-- nothing is posted where the outbox is empty
pub posted-none : (c : ℕ) (q : Queues) → q.outbox ≡ [] → post c (alone q) ≡ None
unfolding post
posted-none c q empty = ap (λ o. post_front c (alone q) o) empty

-- queues after the end of a turn
pub ended-from : (q : Queues) (from : ControllerId) (sent : Stamp) (done : TurnDone) (stamp turns : ℕ) (ps : List (List Msg)) (o : List Msg) (e : Entry) → stamp ≡ q.clock + 1
    → turns ≡ q.turns + 1 → pending_of ps ≡ put_back done.back (pending_of q.pending) → o ≡ done.sent
    → e ≡ entry.Turn (record { 0 = stamp }) from sent done.did done.notes
    → end_turn (alone q) from sent done ≡ (alone (record { clock = stamp; turns = turns; pending = ps; outbox = o }), e)
unfolding end_turn
ended-from q from sent done stamp turns ps o e at count back out is =
    let event : Stamp → Entry = λ t. entry.Turn t from sent done.did done.notes in
    ap (λ t. (state_with t (q.turns + 1) (put_back done.back (pending_of q.pending)) done.sent tt, event (record { 0 = t }))) (sym at)
    ∙ ap (λ n. (state_with stamp n (put_back done.back (pending_of q.pending)) done.sent tt, event (record { 0 = stamp }))) (sym count)
    ∙ ap (λ f. (state_with stamp turns f done.sent tt, event (record { 0 = stamp }))) (sym back)
    ∙ ap (λ x. (state_with stamp turns (pending_of ps) x tt, event (record { 0 = stamp }))) (sym out)
    ∙ ap (λ x. (state_with stamp turns (pending_of ps) o tt, x)) (sym is)

-- ---- the mail, which keeps the entries

-- a mail of queues and a journal
abbrev pub mail_of : Queues → List Entry → MailState
mail_of q js = record { clock = q.clock; turns = q.turns; pending = q.pending; outbox = q.outbox; journal = js }

pub Fetches-kept : (old new : Queues) (m : Msg) (e : Entry) (js js' : List Entry) → fetch (alone old) m ≡ (alone new, e) → js' ≡ js ++ e ∷ []
    → Fetches (mail_of old js) (mail_of new js') m
Fetches-kept old new m e js js' is kept = record {
  state = sym (ap (λ (r : State (Unit {0}) × Entry). r.0) is);
  journal = kept ∙ ap (λ x. js ++ x ∷ []) (sym (ap (λ (r : State (Unit {0}) × Entry). r.1) is));
}

pub Posts-kept : (c : ℕ) (old new : Queues) (m : Msg) (e : Entry) (js js' : List Entry) → post c (alone old) ≡ Some (alone new, e) → e ≡ entry.Post m.stamp m → js' ≡ js ++ e ∷ []
    → Posts c (mail_of old js) (mail_of new js') m
Posts-kept c old new m e js js' is at kept = record {
  state = is ∙ ap (λ x. Some (alone new, x)) at;
  journal = kept ∙ ap (λ x. js ++ x ∷ []) at;
}

-- nothing was posted, so the outbox was empty
pub none-posted : (c : ℕ) (q : Queues) → post c (alone q) ≡ None → q.outbox ≡ []
unfolding post
none-posted c q is = empty q.outbox is
  where
    empty : (o : List Msg) → post_front c (alone q) o ≡ None → o ≡ []
    empty [] e = refl
    empty (m ∷ rest) e = absurd cc

pub TakesNext-kept : (old new : Queues) (m : Msg) (js : List Entry) → TakesOut old new m → TakesNext (mail_of old js) (mail_of new js) m
TakesNext-kept old new m js t = record { front = t.front; others = ap (λ q. mail_of q js) t.others }

pub EndsTurn-kept : (old new : Queues) (from : ControllerId) (sent : Stamp) (done : TurnDone) (e : Entry) (js js' : List Entry) → end_turn (alone old) from sent done ≡ (alone new, e)
    → js' ≡ js ++ e ∷ [] → EndsTurn (mail_of old js) (mail_of new js') from sent done
unfolding end_turn
EndsTurn-kept old new from sent done e js js' is kept =
    let state = sym (ap (λ (r : State (Unit {0}) × Entry). r.0) is) in
    record {
      clock = ap (λ (s : State (Unit {0})). s.clock) state;
      turns = ap (λ (s : State (Unit {0})). s.turns) state;
      pending = ap (λ (s : State (Unit {0})). s.pending) state;
      outbox = ap (λ (s : State (Unit {0})). s.outbox) state;
      journal = kept ∙ ap (λ x. js ++ x ∷ []) (sym (ap (λ (r : State (Unit {0}) × Entry). r.1) is));
    }
