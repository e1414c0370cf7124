-- A replay goes on by one event, and a mail with its body stays the state that the journal leaves.
use Rattle.std.proofs.Common.{◌≡◌, ℕ, ◌+◌, ◌-◌, take, List, [], ◌∷◌, ◌++◌, replicate, length, Some, option_map, slice_get, inl, inr, refl, sym, ap, ◌∙◌, subst, arith, append_assoc, append-nil}
use Rattle.std.proofs.lemmas.Bool.{cases_lt}
use Rattle.std.proofs.lemmas.List.{get_or_past, get_or-replicate, length_push, take_at}
use mathlib.Core.Path.{fun_ext}
use Rattle.room_kinds.specs.declared.message.Msg.{Msg}
use Rattle.journal.specs.declared.entry.Entry.{Entry}
use Rattle.journal.specs.declared.entry.Entry.TheVariants as entry
use Rattle.actor_merge.specs.Parties.{State, Environment, Line, Plant, put_back, next_of, fetch, turned, turn, turn_with, post, post_front, post_line, environment_post, stamped, Does, Replays, EnvironmentReplays}
use Rattle.controller_mail.specs.MailState.{MailState, TurnDone, EnvironmentState, pending_of, state_of, mail_alone, with_body, environment_of}
use Rattle.controller_mail.specs.Steps.{Fetches, Posts, TakesNext, EndsTurn, environment_after}
use Rattle.controller_mail.specs.Laws.{Leaves, first_mail, PostIsTakenBack}
use Rattle.controller_mail.proofs.Mails.{state_with, same_state}

-- a replay and one event more
pub Replays-push : {B : Type 0} (plant : Plant B) (c : ℕ) (s : State B) (es : List Entry) (mid next : State B) (e : Entry)
    → Replays plant c s es mid → Does plant c mid e next → Replays plant c s (es ++ e ∷ []) next
Replays-push plant c s [] mid next e r d = (next, subst (λ x. Does plant c x e next) r d, refl)
Replays-push plant c s (x ∷ es) mid next e r d = (r.0, r.1, Replays-push plant c r.0 es mid next e r.2 d)

-- the same of the environment
pub EnvironmentReplays-push : {B : Type 0} (plant : Plant B) (v : Environment) (es : List Entry) (mid next : Environment) (e : Entry)
    → EnvironmentReplays plant v es mid → environment_post plant mid ≡ Some (next, e) → EnvironmentReplays plant v (es ++ e ∷ []) next
EnvironmentReplays-push plant v [] mid next e r d = (next, subst (λ x. environment_post plant x ≡ Some (next, e)) r d, refl)
EnvironmentReplays-push plant v (x ∷ es) mid next e r d = (r.0, r.1, EnvironmentReplays-push plant r.0 es mid next e r.2 d)

-- what the journal leaves after one entry more
pub Leaves-push : {B : Type 0} (plant : Plant B) (c : ℕ) (first : List Entry) (old new : MailState) (before after : B) (e : Entry)
    → Leaves plant c first old before → new.journal ≡ old.journal ++ e ∷ [] → Does plant c (state_of old before) e (state_of new after)
    → Leaves plant c first new after
Leaves-push plant c first old new before after e l j d = record {
  entries = l.entries ++ e ∷ [];
  journal = j ∙ ap (λ es. es ++ e ∷ []) l.journal ∙ append_assoc first l.entries (e ∷ []);
  replays = Replays-push plant c (plant.start c) l.entries (state_of old before) (state_of new after) e l.replays d;
}

-- the mail of a state with a body
abbrev bodied : {B : Type 0} → B → State (Unit {0}) → State B
bodied body s = record { clock = s.clock; turns = s.turns; pending = s.pending; outbox = s.outbox; body = body }

pub fetch_leaves : {B : Type 0} (plant : Plant B) (c : ℕ) (first : List Entry) (old new : MailState) (m : Msg) (body : B)
    → Leaves plant c first old body → Fetches old new m → Leaves plant c first new body
unfolding fetch
fetch_leaves plant c first old new m body l f =
    let e = (fetch (mail_alone old) m).1 in
    Leaves-push plant c first old new body body e l f.journal (ap (λ s. (s, e)) (sym (ap (bodied body) f.state)))

pub post_leaves : {B : Type 0} (plant : Plant B) (c : ℕ) (first : List Entry) (old new : MailState) (m : Msg) (body : B)
    → Leaves plant c first old body → Posts c old new m → Leaves plant c first new body
unfolding post
post_leaves {B} plant c first old new m body l p =
    Leaves-push plant c first old new body body (entry.Post m.stamp m) l p.journal (front_bodied old.outbox p.state)
  where
    front_bodied : (o : List Msg) → post_front c (mail_alone old) o ≡ Some (mail_alone new, entry.Post m.stamp m)
        → post_front c (state_of old body) o ≡ Some (state_of new body, entry.Post m.stamp m)
    front_bodied [] e = absurd cc
    front_bodied (x ∷ xs) e = ap (option_map (λ (r : State (Unit {0}) × Entry). (bodied body r.0, r.1))) e

pub turn_leaves : {B : Type 0} (plant : Plant B) (c : ℕ) (first : List Entry) (old taken new : MailState) (m : Msg) (done : TurnDone) (before after : B)
    → Leaves plant c first old before → old.outbox ≡ [] → TakesNext old taken m → EndsTurn taken new m.from m.stamp done
    → plant.treat c before m ≡ with_body done after
    → Leaves plant c first new after
unfolding turn
turn_leaves plant c first old mid new m done before after l empty takes ends treated =
    let t = takes.front.taken in
    let s = state_of old before in
    let clock : mid.clock ≡ old.clock = ap (λ (k : MailState). k.clock) takes.others in
    let turns : mid.turns ≡ old.turns = ap (λ (k : MailState). k.turns) takes.others in
    let journal : mid.journal ≡ old.journal = ap (λ (k : MailState). k.journal) takes.others in
    let stamp : mid.clock + 1 ≡ old.clock + 1 = ap (λ n. n + 1) clock in
    let e = entry.Turn (record { 0 = old.clock + 1 }) m.from m.stamp done.did done.notes in
    let same : (turned s t (with_body done after)).0 ≡ state_of new after =
    sym (same_state _ _ _ _ _ _ _ _ after (ends.clock ∙ stamp) (ends.turns ∙ ap (λ n. n + 1) turns) (ends.pending ∙ ap (put_back done.back) takes.front.rest) ends.outbox) in
    Leaves-push plant c first old new before after e l
    (ends.journal ∙ ap (λ js. js ++ entry.Turn (record { 0 = mid.clock + 1 }) m.from m.stamp done.did done.notes ∷ []) journal
    ∙ ap (λ n. old.journal ++ entry.Turn (record { 0 = n }) m.from m.stamp done.did done.notes ∷ []) stamp)
    (ap (λ o. turn_with plant c s o (next_of (pending_of old.pending))) empty
    ∙ ap (λ o. turn_with plant c s [] o) takes.front.next
    ∙ ap (λ r. Some (turned s t r)) (ap (plant.treat c before) takes.front.message ∙ treated)
    ∙ ap (λ (x : Msg). Some ((turned s t (with_body done after)).0, entry.Turn (record { 0 = old.clock + 1 }) x.from x.stamp done.did done.notes)) takes.front.message
    ∙ ap (λ x. Some (x, e)) same)

-- no list has messages at the start
nothing_pending : pending_of (replicate 6 []) ≡ (λ p. [])
nothing_pending = fun_ext (λ p. elim (cases_lt p 6) [ inl within ↦ get_or-replicate 6 p [] [] within | inr past ↦ get_or_past (replicate 6 []) p [] past ])

pub start_leaves : {B : Type 0} (plant : Plant B) (c : ℕ) (first : List Entry) (sent : List Msg) (body : B)
    → plant.start c ≡ record { clock = 0; turns = 0; pending = λ p. []; outbox = sent; body = body }
    → Leaves plant c first (first_mail sent first) body
start_leaves plant c first sent body e = record {
  entries = [];
  journal = sym (append-nil first);
  replays = ap (λ p. state_with 0 0 p sent body) nothing_pending ∙ sym e;
}

pub environment_leaves : {B : Type 0} (plant : Plant B) (start : Environment) (entries : List Entry) (old : EnvironmentState) (line : Line)
    → EnvironmentReplays plant start entries (environment_of old)
    → slice_get plant.lines (length old.journal) ≡ Some line
    → let m = stamped plant.controllers (old.clock + 1) line.message in
    EnvironmentReplays plant start (entries ++ entry.Post m.stamp m ∷ []) (environment_of (environment_after old m))
unfolding environment_post
environment_leaves plant start entries old line r e =
    let m = stamped plant.controllers (old.clock + 1) line.message in
    EnvironmentReplays-push plant start entries (environment_of old) (environment_of (environment_after old m)) (entry.Post m.stamp m) r
    (ap (post_line plant.controllers (environment_of old)) e
    ∙ ap (λ n. Some (record { clock = old.clock + 1; posted = n }, entry.Post m.stamp m)) (sym (length_push old.journal (entry.Post m.stamp m))))

-- the environment from its parts
abbrev environment_with : ℕ → List Entry → EnvironmentState
environment_with clock journal = record { clock = clock; journal = journal }

pub post_taken_back : PostIsTakenBack
post_taken_back k m =
    let last = entry.Post m.stamp m ∷ [] in
    let js = k.journal ++ last in
    let long : length js ≡ length k.journal + 1 = length_push k.journal (entry.Post m.stamp m) in
    let clock : (k.clock + 1) - 1 ≡ k.clock = omega arith in
    let few : length js - 1 ≡ length k.journal = omega arith in
    ap (λ n. environment_with n (take (length js - 1) js)) clock
    ∙ ap (λ n. environment_with k.clock (take n js)) few
    ∙ ap (environment_with k.clock) (take_at k.journal last (length k.journal) refl)
