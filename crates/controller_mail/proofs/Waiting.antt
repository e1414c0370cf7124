-- What waits in a mail stays within, at each event.
use Rattle.std.proofs.Common.{◌≡◌, ℕ, zero, suc, ◌+◌, ◌<◌, ◌==◌, ◌||◌, nat_lt, not, Bool, true, false, cond, if◌then◌else◌, List, [], ◌∷◌, ◌++◌, filter, length, All, Option, Some, None, refl, sym, ap, ◌∙◌, subst, arith}
use Rattle.std.specs.Option.{option_map_or}
use Rattle.std.specs.List.{AllByRecursion as Each}
use Rattle.std.proofs.lemmas.Bool.{eqb-true, eq-eqb, ltb-true}
use Rattle.std.proofs.lemmas.List.Elements.{All-head, All-tail}
use Rattle.room_kinds.specs.declared.message.Msg.{Msg}
use Rattle.room_kinds.specs.declared.numbers.ControllerId.{ControllerId}
use Rattle.room_kinds.specs.declared.numbers.Stamp.{Stamp}
use Rattle.journal.specs.declared.entry.Entry.{Entry}
use Rattle.journal.specs.declared.entry.Entry.TheVariants as entry
use Rattle.actor_merge.specs.Parties.{State, Taken, put, put_back, lowest, front_or, next_of, fetch, post, post_front, stamped}
use Rattle.actor_merge.proofs.Steps.{same_entry}
use Rattle.controller_mail.specs.MailState.{MailState, TurnDone, IsForActors, pending_of, mail_alone}
use Rattle.controller_mail.specs.Steps.{Fetches, Posts, TakesNext, EndsTurn}
use Rattle.controller_mail.specs.Within.{IsWithin, AreWithin, IsAnswerable, is_answerable, IsFrom, WaitsWithin}

-- the front of the list that a turn takes from
lowest_front : (pending : ℕ → List Msg) (at k : ℕ) (t : Taken) → lowest pending at k ≡ Some t → pending t.priority ≡ t.message ∷ t.rest
unfolding lowest
lowest_front pending at zero t h = absurd cc
lowest_front pending at (suc k) t h = go (pending at) refl h (lowest_front pending (at + 1) k t)
  where
    go : (ms : List Msg) → pending at ≡ ms → front_or at ms (lowest pending (at + 1) k) ≡ Some t
        → (lowest pending (at + 1) k ≡ Some t → pending t.priority ≡ t.message ∷ t.rest) → pending t.priority ≡ t.message ∷ t.rest
    go [] e f later = later f
    go (m ∷ ms) e f later =
        let taken : Taken = record { priority = at; message = m; rest = ms } in
        let same : taken ≡ t = cc in
        subst (λ (z : Taken). pending z.priority ≡ z.message ∷ z.rest) same e

abbrev outbox_or : List Msg → Option (State (Unit {0}) × Entry) → List Msg
outbox_or d o = option_map_or (λ (r : State (Unit {0}) × Entry). r.0.outbox) o d

abbrev pending_or : (ℕ → List Msg) → Option (State (Unit {0}) × Entry) → ℕ → List Msg
pending_or d o = option_map_or (λ (r : State (Unit {0}) × Entry). r.0.pending) o d

-- a message that passes the test is answerable
pub answerable : (n : ℕ) (m : Msg) → is_answerable n m ≡ true → IsAnswerable n m
answerable n m e system = go (m.prio.0 == 0) (eq-eqb m.prio.0 0 system) e
  where
    go : (b : Bool) → b ≡ true → not b || nat_lt m.from.0 n ≡ true → m.from.0 < n
    go true f g = ltb-true m.from.0 n g
    go false f g = absurd cc

module _ (n : ℕ) where
  from_push : (ms : List Msg) (m : Msg) → Each (IsFrom n) ms → IsFrom n m → Each (IsFrom n) (ms ++ m ∷ [])
  from_push [] m h k = (k, tt)
  from_push (x ∷ ms) m h k = (h.0, from_push ms m h.1 k)

  -- a message that is answerable is fetched
  pub fetch_waits : (old new : MailState) (m : Msg) → Fetches old new m → IsAnswerable n m → WaitsWithin n old → WaitsWithin n new
  unfolding fetch put
  fetch_waits old new m f answerable w = record {
    system = subst (λ (p : ℕ → List Msg). Each (IsFrom n) (p 0)) (sym (ap (λ (s : State (Unit {0})). s.pending) f.state)) (go (0 == m.prio.0) refl);
    outbox = subst (AreWithin n) (sym (ap (λ (s : State (Unit {0})). s.outbox) f.state)) w.outbox;
  }
    where
      go : (b : Bool) → (0 == m.prio.0) ≡ b → Each (IsFrom n) (if b then pending_of old.pending m.prio.0 ++ m ∷ [] else pending_of old.pending 0)
      go true e =
          let zero_is : 0 ≡ m.prio.0 = eqb-true 0 m.prio.0 e in
          from_push (pending_of old.pending m.prio.0) m (subst (λ p. Each (IsFrom n) (pending_of old.pending p)) zero_is w.system) (answerable (sym zero_is))
      go false e = w.system

  -- what is posted goes to a controller, and so does what waits to be posted then
  pub post_waits : (c : ℕ) (old new : MailState) (m : Msg) → Posts c old new m → WaitsWithin n old → IsWithin n m × WaitsWithin n new
  unfolding post
  post_waits c old new m p w = go old.outbox p.state w.outbox
    where
      go : (o : List Msg) → post_front c (mail_alone old) o ≡ Some (mail_alone new, entry.Post m.stamp m) → AreWithin n o → IsWithin n m × WaitsWithin n new
      go [] e h = absurd cc
      go (x ∷ rest) e h =
          let same : stamped c (old.clock + 1) x ≡ m = cc (same_entry e) in
          let left : rest ≡ new.outbox = ap (outbox_or []) e in
          let pending : pending_of old.pending ≡ pending_of new.pending = ap (pending_or (pending_of old.pending)) e in (
            subst (IsWithin n) same h.0,
            record {
              system = subst (λ (q : ℕ → List Msg). Each (IsFrom n) (q 0)) pending w.system;
              outbox = subst (AreWithin n) left h.1;
            },
          )

  pub posts_within : {c : ℕ} {old new : MailState} {m : Msg} → Posts c old new m → WaitsWithin n old → IsWithin n m
  posts_within {c} {old} {new} {m} p w = (post_waits c old new m p w).0

  pub posts_on : {c : ℕ} {old new : MailState} {m : Msg} → Posts c old new m → WaitsWithin n old → WaitsWithin n new
  posts_on {c} {old} {new} {m} p w = (post_waits c old new m p w).1

  -- what is taken out for its turn is answerable
  pub take_waits : (old new : MailState) (m : Msg) → TakesNext old new m → WaitsWithin n old → IsAnswerable n m × WaitsWithin n new
  unfolding put
  take_waits old new m takes w = (answerable, record { system = subst (λ (p : ℕ → List Msg). Each (IsFrom n) (p 0)) (sym takes.front.rest) (go (0 == t.priority) refl); outbox = outbox })
    where
      t : Taken
      t = takes.front.taken

      front : pending_of old.pending t.priority ≡ t.message ∷ t.rest
      front = lowest_front (pending_of old.pending) 0 6 t takes.front.next

      whole : 0 ≡ t.priority → Each (IsFrom n) (t.message ∷ t.rest)
      whole e = subst (Each (IsFrom n)) front (subst (λ p. Each (IsFrom n) (pending_of old.pending p)) e w.system)

      answerable : IsAnswerable n m
      answerable e = subst (IsFrom n) takes.front.message (whole (sym e ∙ takes.front.priority)).0

      go : (b : Bool) → (0 == t.priority) ≡ b → Each (IsFrom n) (if b then t.rest else pending_of old.pending 0)
      go true e = (whole (eqb-true 0 t.priority e)).1
      go false e = w.system

      outbox : AreWithin n new.outbox
      outbox = subst (AreWithin n) (sym (ap (λ (k : MailState). k.outbox) takes.others)) w.outbox

  none_back : (ms : List Msg) → All IsForActors ms → Each (IsFrom n) (filter (λ (m : Msg). m.prio.0 == 0) ms)
  none_back [] all = tt
  none_back (m ∷ ms) all = go (m.prio.0 == 0) refl (none_back ms (All-tail IsForActors m ms all))
    where
      go : (b : Bool) → (m.prio.0 == 0) ≡ b → Each (IsFrom n) (filter (λ (x : Msg). x.prio.0 == 0) ms)
          → Each (IsFrom n) (cond b (m ∷ filter (λ (x : Msg). x.prio.0 == 0) ms) (filter (λ (x : Msg). x.prio.0 == 0) ms))
      go true e rest =
          let least = (All-head IsForActors m ms all).0 in
          let none : m.prio.0 ≡ 0 = eqb-true m.prio.0 0 e in
          absurd (omega (arith, least, none))
      go false e rest = rest

  from_both : (xs ys : List Msg) → Each (IsFrom n) xs → Each (IsFrom n) ys → Each (IsFrom n) (xs ++ ys)
  from_both [] ys h k = k
  from_both (x ∷ xs) ys h k = (h.0, from_both xs ys h.1 k)

  -- a turn ends, whose messages go to controllers
  pub end_waits : (old new : MailState) (from : ControllerId) (sent : Stamp) (done : TurnDone) → EndsTurn old new from sent done → All IsForActors done.back → AreWithin n done.sent
      → WaitsWithin n old → WaitsWithin n new
  unfolding put_back
  end_waits old new from sent done ends back within w = record {
    system = subst (λ (p : ℕ → List Msg). Each (IsFrom n) (p 0)) (sym ends.pending)
        (from_both (filter (λ (m : Msg). m.prio.0 == 0) done.back) (pending_of old.pending 0) (none_back done.back back) w.system);
    outbox = subst (AreWithin n) (sym ends.outbox) within;
  }
