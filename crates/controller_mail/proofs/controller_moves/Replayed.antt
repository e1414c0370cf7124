-- What a mail does, as steps of its controller's own replay with any body, and what its journal gains.
use Rattle.std.proofs.Common.{◌≡◌, ℕ, ◌+◌, ◌==◌, ◌&&◌, max, Bool, true, false, if◌then◌else◌, List, [], ◌∷◌, ◌++◌, map, Option, Some, None, refl, sym, ap, ◌∙◌, subst, append_assoc, append-nil}
use Rattle.std.proofs.lemmas.Bool.{eq-eqb}
use Rattle.std.proofs.lemmas.List.{append_cancel_left}
use Rattle.room_kinds.specs.declared.message.Msg.{Msg}
use Rattle.journal.specs.declared.entry.Entry.{Entry}
use Rattle.journal.specs.declared.entry.Entry.TheVariants as entry
use Rattle.actor_merge.specs.Mail.{lane, is_lane, gives, takes, given, taken}
use Rattle.actor_merge.specs.Parties.{State, Plant, Taken, fetch, turn, turn_with, Does, Replays}
use Rattle.mail_core.specs.EndLog.{EndLog, posting, posting_all}
use Rattle.controller_mail.specs.MailState.{MailState, TurnDone, state_of, with_body}
use Rattle.controller_mail.specs.Steps.{Fetches, Posts, TakesNext, EndsTurn}
use Rattle.controller_mail.specs.Laws.{Leaves}
use Rattle.controller_mail.proofs.Replaying.{fetch_leaves, post_leaves, turn_leaves}
use Rattle.controller_mail.specs.controller_moves.Moves.{PostsEach, FetchesEach}
use Rattle.controller_mail.proofs.controller_moves.Looked.{if_more, if_of, all_of}

-- how controllers start says nothing of what they may do
same_does : {B : Type 0} (plant : Plant B) (first : State B) (c : ℕ) (s : State B) (e : Entry) (next : State B) → Does (record plant { start = λ d. first }) c s e next → Does plant c s e next
unfolding turn
same_does plant first c s (entry.Start who state notes) next d = d
same_does plant first c s (entry.Fetch stamp m) next d = d
same_does plant first c s (entry.Post stamp m) next d = d
same_does {B} plant first c s (entry.Turn stamp from sent did notes) next d = sym (same_turn s.outbox _) ∙ d
  where
    same_turn : (o : List Msg) (t : Option Taken) → turn_with (record plant { start = λ d. first }) c s o t ≡ turn_with plant c s o t
    same_turn [] None = refl
    same_turn [] (Some t) = refl
    same_turn (m ∷ ms) t = refl

-- a mail that leaves what it was with one entry more does what the entry says
one_more : {B : Type 0} (plant : Plant B) (c : ℕ) (old new : MailState) (before after : B) (e : Entry)
    → Leaves (record plant { start = λ d. state_of old before }) c old.journal new after → new.journal ≡ old.journal ++ e ∷ []
    → Does plant c (state_of old before) e (state_of new after)
one_more plant c old new before after e l j =
    let from = record plant { start = λ d. state_of old before } in
    let one : l.entries ≡ e ∷ [] = append_cancel_left old.journal l.entries (e ∷ []) (sym l.journal ∙ j) in
    let r : Replays from c (state_of old before) (e ∷ []) (state_of new after) = subst (λ es. Replays from c (state_of old before) es (state_of new after)) one l.replays in
    same_does plant (state_of old before) c (state_of old before) e (state_of new after) (subst (λ x. Does from c (state_of old before) e x) (sym r.2) r.1)

-- it leaves itself
itself : {B : Type 0} (plant : Plant B) (c : ℕ) (old : MailState) (body : B) → Leaves (record plant { start = λ d. state_of old body }) c old.journal old body
itself plant c old body = record { entries = []; journal = sym (append-nil old.journal); replays = refl }

-- the entry of a fetch at this time
abbrev pub fetched_at : ℕ → Msg → Entry
fetched_at clock m = entry.Fetch (record { 0 = max clock m.stamp.0 + 1 }) m

-- the entry of a post
abbrev pub posted_as : Msg → Entry
posted_as m = entry.Post m.stamp m

pub Fetches-journal : (old new : MailState) (m : Msg) → Fetches old new m → new.journal ≡ old.journal ++ fetched_at old.clock m ∷ []
unfolding fetch
Fetches-journal old new m f = f.journal

pub Fetches-does : {B : Type 0} (plant : Plant B) (c : ℕ) (old new : MailState) (m : Msg) (body : B) → Fetches old new m
    → Does plant c (state_of old body) (fetched_at old.clock m) (state_of new body)
Fetches-does plant c old new m body f =
    let from = record plant { start = λ d. state_of old body } in
    one_more plant c old new body body (fetched_at old.clock m) (fetch_leaves from c old.journal old new m body (itself plant c old body) f) (Fetches-journal old new m f)

pub Posts-does : {B : Type 0} (plant : Plant B) (c : ℕ) (old new : MailState) (m : Msg) (body : B) → Posts c old new m
    → Does plant c (state_of old body) (posted_as m) (state_of new body)
Posts-does plant c old new m body p =
    let from = record plant { start = λ d. state_of old body } in
    one_more plant c old new body body (posted_as m) (post_leaves from c old.journal old new m body (itself plant c old body) p) p.journal

-- the entry of a turn
abbrev pub turned_as : ℕ → Msg → TurnDone → Entry
turned_as clock m done = entry.Turn (record { 0 = clock + 1 }) m.from m.stamp done.did done.notes

pub turn-journal : (old mid new : MailState) (m : Msg) (done : TurnDone) → TakesNext old mid m → EndsTurn mid new m.from m.stamp done → new.journal ≡ old.journal ++ turned_as mid.clock m done ∷ []
turn-journal old mid new m done t e = e.journal ∙ ap (λ (k : MailState). k.journal ++ turned_as mid.clock m done ∷ []) t.others

pub turn-does : {B : Type 0} (plant : Plant B) (c : ℕ) (old mid new : MailState) (m : Msg) (done : TurnDone) (before after : B)
    → old.outbox ≡ [] → TakesNext old mid m → EndsTurn mid new m.from m.stamp done → plant.treat c before m ≡ with_body done after
    → Does plant c (state_of old before) (turned_as mid.clock m done) (state_of new after)
turn-does plant c old mid new m done before after empty t e treated =
    let from = record plant { start = λ d. state_of old before } in
    one_more plant c old new before after (turned_as mid.clock m done)
    (turn_leaves from c old.journal old mid new m done before after (itself plant c old before) empty t e treated) (turn-journal old mid new m done t e)

-- what a list of posts adds to the journal, and its replay
pub PostsEach-journal : (c : ℕ) (old new : MailState) (ms : List Msg) → PostsEach c old ms new → new.journal ≡ old.journal ++ map posted_as ms
PostsEach-journal c old new [] p = ap (λ (k : MailState). k.journal) p ∙ sym (append-nil old.journal)
PostsEach-journal c old new (m ∷ ms) p =
    PostsEach-journal c p.0 new ms p.2 ∙ ap (λ es. es ++ map posted_as ms) p.1.journal ∙ append_assoc old.journal (posted_as m ∷ []) (map posted_as ms)

pub PostsEach-replays : {B : Type 0} (plant : Plant B) (c : ℕ) (old new : MailState) (ms : List Msg) (body : B) → PostsEach c old ms new
    → Replays plant c (state_of old body) (map posted_as ms) (state_of new body)
PostsEach-replays plant c old new [] body p = ap (λ k. state_of k body) p
PostsEach-replays plant c old new (m ∷ ms) body p = (state_of p.0 body, Posts-does plant c old p.0 m body p.1, PostsEach-replays plant c p.0 new ms body p.2)

-- the entries of fetches of these messages from this time on
abbrev pub fetch_entries : ℕ → List Msg → List Entry
fetch_entries clock [] = []
fetch_entries clock (m ∷ ms) = fetched_at clock m ∷ fetch_entries (max clock m.stamp.0 + 1) ms

-- what a fetch leaves of a mail but its pending lists
pub record Fetched (old new : MailState) (m : Msg) : Type 0 where
  pub clock : new.clock ≡ max old.clock m.stamp.0 + 1
  pub turns : new.turns ≡ old.turns
  pub outbox : new.outbox ≡ old.outbox

pub Fetches-fetched : (old new : MailState) (m : Msg) → Fetches old new m → Fetched old new m
unfolding fetch
Fetches-fetched old new m f = record {
  clock = ap (λ (s : State (Unit {0})). s.clock) f.state;
  turns = ap (λ (s : State (Unit {0})). s.turns) f.state;
  outbox = ap (λ (s : State (Unit {0})). s.outbox) f.state;
}

pub FetchesEach-journal : (old new : MailState) (ms : List Msg) → FetchesEach old ms new → new.journal ≡ old.journal ++ fetch_entries old.clock ms
FetchesEach-journal old new [] f = ap (λ (k : MailState). k.journal) f ∙ sym (append-nil old.journal)
FetchesEach-journal old new (m ∷ ms) f =
    let mid = f.0 in
    let e = fetched_at old.clock m in
    FetchesEach-journal mid new ms f.2
    ∙ ap (λ t. mid.journal ++ fetch_entries t ms) (Fetches-fetched old mid m f.1).clock
    ∙ ap (λ es. es ++ fetch_entries (max old.clock m.stamp.0 + 1) ms) (Fetches-journal old mid m f.1)
    ∙ append_assoc old.journal (e ∷ []) (fetch_entries (max old.clock m.stamp.0 + 1) ms)

pub FetchesEach-replays : {B : Type 0} (plant : Plant B) (c : ℕ) (old new : MailState) (ms : List Msg) (body : B) → FetchesEach old ms new
    → Replays plant c (state_of old body) (fetch_entries old.clock ms) (state_of new body)
FetchesEach-replays plant c old new [] body f = ap (λ k. state_of k body) f
FetchesEach-replays plant c old new (m ∷ ms) body f =
    let mid = f.0 in (
      state_of mid body,
      Fetches-does plant c old mid m body f.1,
      subst (λ t. Replays plant c (state_of mid body) (fetch_entries t ms) (state_of new body)) (Fetches-fetched old mid m f.1).clock (FetchesEach-replays plant c mid new ms body f.2),
    )

pub FetchesEach-turns : (old new : MailState) (ms : List Msg) → FetchesEach old ms new → new.turns ≡ old.turns
FetchesEach-turns old new [] f = ap (λ (k : MailState). k.turns) f
FetchesEach-turns old new (m ∷ ms) f = FetchesEach-turns f.0 new ms f.2 ∙ (Fetches-fetched old f.0 m f.1).turns

pub FetchesEach-outbox : (old new : MailState) (ms : List Msg) → FetchesEach old ms new → new.outbox ≡ old.outbox
FetchesEach-outbox old new [] f = ap (λ (k : MailState). k.outbox) f
FetchesEach-outbox old new (m ∷ ms) f = FetchesEach-outbox f.0 new ms f.2 ∙ (Fetches-fetched old f.0 m f.1).outbox

-- one post
one_posted : (c r p : ℕ) (log : EndLog) (m : Msg) → (posting log m).posted r p ≡ log.posted r p ++ gives (lane c r p) c (posted_as m)
unfolding posting is_lane
one_posted c r p log m =
    if_more ((r == m.to.0) && (p == m.prio.0)) (log.posted r p) m
    ∙ ap (λ b. log.posted r p ++ (if (b && (r == m.to.0)) && (p == m.prio.0) then m ∷ [] else [])) (sym (eq-eqb c c refl))

-- what the entries of posts give to lanes is what the end posted
pub posted-given : (c r p : ℕ) (log : EndLog) (ms : List Msg) → (posting_all log ms).posted r p ≡ log.posted r p ++ given (lane c r p) c (map posted_as ms)
posted-given c r p log [] = sym (append-nil (log.posted r p))
posted-given c r p log (m ∷ ms) =
    let rest = given (lane c r p) c (map posted_as ms) in
    posted-given c r p (posting log m) ms ∙ ap (λ z. z ++ rest) (one_posted c r p log m) ∙ append_assoc (log.posted r p) (gives (lane c r p) c (posted_as m)) rest

-- one fetch
one_taken : (c s p clock : ℕ) (m : Msg) → takes (lane s c p) c (fetched_at clock m) ≡ if_of s p m
unfolding is_lane
one_taken c s p clock m =
    ap (λ b. if ((s == m.from.0) && b) && (p == m.prio.0) then m ∷ [] else []) (eq-eqb c c refl)
    ∙ ap (λ b. if b then m ∷ [] else []) (and_true (s == m.from.0) (p == m.prio.0))
  where
    and_true : (b d : Bool) → (b && true) && d ≡ b && d
    and_true true d = refl
    and_true false d = refl

-- what the entries of fetches take from lanes is what is of these lanes
pub taken-of : (c s p clock : ℕ) (ms : List Msg) → taken (lane s c p) c (fetch_entries clock ms) ≡ all_of s p ms
taken-of c s p clock [] = refl
taken-of c s p clock (m ∷ ms) =
    let later = max clock m.stamp.0 + 1 in
    ap (λ z. takes (lane s c p) c (fetched_at clock m) ++ z) (taken-of c s p later ms) ∙ ap (λ z. z ++ all_of s p ms) (one_taken c s p clock m)

-- the entries of fetches give nothing, and those of posts take nothing
pub fetches-give_nothing : (c r p clock : ℕ) (ms : List Msg) → given (lane c r p) c (fetch_entries clock ms) ≡ []
fetches-give_nothing c r p clock [] = refl
fetches-give_nothing c r p clock (m ∷ ms) = fetches-give_nothing c r p (max clock m.stamp.0 + 1) ms

pub posts-take_nothing : (c s p : ℕ) (ms : List Msg) → taken (lane s c p) c (map posted_as ms) ≡ []
posts-take_nothing c s p [] = refl
posts-take_nothing c s p (m ∷ ms) = posts-take_nothing c s p ms

-- an end that posts takes nothing
one_same : (log : EndLog) (m : Msg) → ((posting log m).party ≡ log.party) × ((posting log m).parties ≡ log.parties) × ((posting log m).taken ≡ log.taken)
unfolding posting
one_same log m = (refl, refl, refl)

pub posting_all-same : (log : EndLog) (ms : List Msg) → ((posting_all log ms).party ≡ log.party) × ((posting_all log ms).parties ≡ log.parties) × ((posting_all log ms).taken ≡ log.taken)
posting_all-same log [] = (refl, refl, refl)
posting_all-same log (m ∷ ms) =
    let rest = posting_all-same (posting log m) ms in
    let one = one_same log m in
    (rest.0 ∙ one.0, rest.1 ∙ one.1, rest.2 ∙ one.2)
