-- What entries give to a lane and take from it.
use Rattle.std.proofs.Common.{◌≡◌, ℕ, ◌<◌, ◌≤◌, ◌==◌, ◌&&◌, ◌⊎◌, inl, inr, Bool, true, false, if◌then◌else◌, List, [], ◌∷◌, ◌++◌, Some, None, Option, slice_get, refl, sym, ap, subst, arith}
use Rattle.std.proofs.lemmas.Bool.{ne_eqb}
use Rattle.room_kinds.specs.declared.message.Msg.{Msg}
use Rattle.journal.specs.declared.entry.Entry.{Entry}
use Rattle.journal.specs.declared.entry.Entry.TheVariants as entry
use Rattle.mail_core.specs.Lanes.{AllFor}
use Rattle.actor_merge.specs.Mail.{Lane, lane, is_lane, takes, gives, taken, given}
use Rattle.actor_merge.specs.Parties.{State, Environment, Line, Plant, post, post_front, post_line, environment_post, Does, Replays, EnvironmentReplays}
use Rattle.actor_merge.proofs.Lanes.{is_lane-true, is_lane-receiver, is_lane-sender}
use Rattle.actor_merge.proofs.Steps.{same_entry}
use Rattle.actor_world.specs.Journals.{is_turn}
use Rattle.model_run.specs.run_rounds.Rounds.{IsFetchWithin, FetchesWithin, PostsAbove, Fetched, OnlyTurns}
use Rattle.controller.specs.Calls.{IsPostWithin, PostsWithin}

-- another priority is another lane
is_lane-priority : (a b : Lane) → (a.priority == b.priority) ≡ false → is_lane a b ≡ false
unfolding is_lane
is_lane-priority a b e = rw e (go ((a.sender == b.sender) && (a.receiver == b.receiver)))
  where
    go : (x : Bool) → (x && false) ≡ false
    go true = refl
    go false = refl

gives_outside : (l : Lane) (n party : ℕ) (e : Entry) → IsPostWithin n e → (n ≤ l.receiver) ⊎ (6 ≤ l.priority) → gives l party e ≡ []
gives_outside l n party (entry.Start who state notes) w o = refl
gives_outside l n party (entry.Fetch stamp m) w o = refl
gives_outside l n party (entry.Turn stamp from sent did notes) w o = refl
gives_outside l n party (entry.Post stamp m) w o = rw other refl
  where
    other : is_lane l (lane party m.to.0 m.prio.0) ≡ false
    other = elim o [
      | inl h ↦ is_lane-receiver l (lane party m.to.0 m.prio.0) (ne_eqb l.receiver m.to.0 (λ e. absurd (omega arith)))
      | inr h ↦ is_lane-priority l (lane party m.to.0 m.prio.0) (ne_eqb l.priority m.prio.0 (λ e. absurd (omega arith)))
    ]

-- nothing is given to a lane that isn't there
pub given_outside : (l : Lane) (n party : ℕ) (es : List Entry) → PostsWithin n es → (n ≤ l.receiver) ⊎ (6 ≤ l.priority) → given l party es ≡ []
given_outside l n party [] w o = refl
given_outside l n party (e ∷ es) w o = rw (gives_outside l n party e w.0 o) (given_outside l n party es w.1 o)

takes_outside : (l : Lane) (n party : ℕ) (e : Entry) → IsFetchWithin n e → (n < l.sender) ⊎ (6 ≤ l.priority) → takes l party e ≡ []
takes_outside l n party (entry.Start who state notes) w o = refl
takes_outside l n party (entry.Fetch stamp m) w o = rw other refl
  where
    other : is_lane l (lane m.from.0 party m.prio.0) ≡ false
    other = elim o [
      | inl h ↦ is_lane-sender l (lane m.from.0 party m.prio.0) (ne_eqb l.sender m.from.0 (λ e. absurd (omega arith)))
      | inr h ↦ is_lane-priority l (lane m.from.0 party m.prio.0) (ne_eqb l.priority m.prio.0 (λ e. absurd (omega arith)))
    ]
takes_outside l n party (entry.Turn stamp from sent did notes) w o = refl
takes_outside l n party (entry.Post stamp m) w o = refl

-- and nothing is taken from it
pub taken_outside : (l : Lane) (n party : ℕ) (es : List Entry) → FetchesWithin n es → (n < l.sender) ⊎ (6 ≤ l.priority) → taken l party es ≡ []
taken_outside l n party [] w o = refl
taken_outside l n party (e ∷ es) w o = rw (takes_outside l n party e w.0 o) (taken_outside l n party es w.1 o)

-- fetches give nothing
pub fetched_give : (l : Lane) (party : ℕ) (ms : List Msg) (es : List Entry) → Fetched ms es → given l party es ≡ []
fetched_give l party [] [] h = refl
fetched_give l party [] (e ∷ es) h = absurd h
fetched_give l party (m ∷ ms) [] h = absurd h
fetched_give l party (m ∷ ms) (e ∷ es) h = subst (λ (z : Entry). gives l party z ++ given l party es ≡ []) (sym h.0.1) (fetched_give l party ms es h.1)

gives_turn : (l : Lane) (party : ℕ) (e : Entry) → is_turn e ≡ true → gives l party e ≡ []
gives_turn l party (entry.Start who state notes) h = refl
gives_turn l party (entry.Fetch stamp m) h = refl
gives_turn l party (entry.Turn stamp from sent did notes) h = refl
gives_turn l party (entry.Post stamp m) h = absurd cc

takes_turn : (l : Lane) (party : ℕ) (e : Entry) → is_turn e ≡ true → takes l party e ≡ []
takes_turn l party (entry.Start who state notes) h = refl
takes_turn l party (entry.Fetch stamp m) h = absurd cc
takes_turn l party (entry.Turn stamp from sent did notes) h = refl
takes_turn l party (entry.Post stamp m) h = refl

-- turns give nothing and take nothing
pub turns_give : (l : Lane) (party : ℕ) (es : List Entry) → OnlyTurns es → given l party es ≡ []
turns_give l party [] h = refl
turns_give l party (e ∷ es) h = rw (gives_turn l party e h.0) (turns_give l party es h.1)

pub turns_take : (l : Lane) (party : ℕ) (es : List Entry) → OnlyTurns es → taken l party es ≡ []
turns_take l party [] h = refl
turns_take l party (e ∷ es) h = rw (takes_turn l party e h.0) (turns_take l party es h.1)

-- what an entry posts carries this party's number
abbrev pub IsPostFrom : ℕ → Entry → Type 0
IsPostFrom s (entry.Start who state notes) = Unit {0}
IsPostFrom s (entry.Fetch stamp m) = Unit {0}
IsPostFrom s (entry.Turn stamp from sent did notes) = Unit {0}
IsPostFrom s (entry.Post stamp m) = m.from.0 ≡ s

abbrev pub PostsFrom : ℕ → List Entry → Type 0
PostsFrom s [] = Unit {0}
PostsFrom s (e ∷ es) = IsPostFrom s e × PostsFrom s es

gives_for : (s r p : ℕ) (e : Entry) → IsPostFrom s e → (ms : List Msg) → AllFor s r p ms → AllFor s r p (gives (lane s r p) s e ++ ms)
gives_for s r p (entry.Start who state notes) f ms h = h
gives_for s r p (entry.Fetch stamp m) f ms h = h
gives_for s r p (entry.Turn stamp from sent did notes) f ms h = h
gives_for s r p (entry.Post stamp m) f ms h = go (is_lane (lane s r p) (lane s m.to.0 m.prio.0)) refl
  where
    go : (b : Bool) → is_lane (lane s r p) (lane s m.to.0 m.prio.0) ≡ b → AllFor s r p ((if b then m ∷ [] else []) ++ ms)
    go true e =
        let same = is_lane-true (lane s r p) (lane s m.to.0 m.prio.0) e in
        (record { from = f; to = ap (λ (l : Lane). l.receiver) (sym same); prio = ap (λ (l : Lane). l.priority) (sym same) }, h)
    go false e = h

-- the messages that a party gives to a lane are messages of the lane
pub given_for : (s r p : ℕ) (es : List Entry) → PostsFrom s es → AllFor s r p (given (lane s r p) s es)
given_for s r p [] h = tt
given_for s r p (e ∷ es) h = gives_for s r p e h.0 (given (lane s r p) s es) (given_for s r p es h.1)

pub AllFor-back : (s r p : ℕ) (a b : List Msg) → AllFor s r p (a ++ b) → AllFor s r p b
AllFor-back s r p [] b h = h
AllFor-back s r p (m ∷ a) b h = AllFor-back s r p a b h.1

module _ {B : Type 0} (plant : Plant B) where
  post_from : (c : ℕ) (s next : State B) (e : Entry) → post c s ≡ Some (next, e) → IsPostFrom c e
  unfolding post
  post_from c s next e h = go s.outbox h
    where
      go : (box : List Msg) → post_front c s box ≡ Some (next, e) → IsPostFrom c e
      go [] k = cc
      go (x ∷ xs) k = subst (IsPostFrom c) (same_entry k) refl

  does_from : (c : ℕ) (s next : State B) (e : Entry) → Does plant c s e next → IsPostFrom c e
  does_from c s next (entry.Start who state notes) h = tt
  does_from c s next (entry.Fetch stamp m) h = tt
  does_from c s next (entry.Turn stamp from sent did notes) h = tt
  does_from c s next (entry.Post stamp m) h = post_from c s next (entry.Post stamp m) h

  pub replays_from : (c : ℕ) (s : State B) (es : List Entry) (end : State B) → Replays plant c s es end → PostsFrom c es
  replays_from c s [] end h = tt
  replays_from c s (e ∷ es) end h = (does_from c s h.0 e h.1, replays_from c h.0 es end h.2)

  line_from : (v next : Environment) (e : Entry) → environment_post plant v ≡ Some (next, e) → IsPostFrom plant.controllers e
  unfolding environment_post
  line_from v next e h = go (slice_get plant.lines v.posted) h
    where
      go : (o : Option Line) → post_line plant.controllers v o ≡ Some (next, e) → IsPostFrom plant.controllers e
      go None k = cc
      go (Some line) k = subst (IsPostFrom plant.controllers) (same_entry k) refl

  pub lines_from_environment : (v : Environment) (es : List Entry) (end : Environment) → EnvironmentReplays plant v es end → PostsFrom plant.controllers es
  lines_from_environment v [] end h = tt
  lines_from_environment v (e ∷ es) end h = (line_from v h.0 e h.1, lines_from_environment h.0 es end h.2)

  line_takes : (l : Lane) (party : ℕ) (v next : Environment) (e : Entry) → environment_post plant v ≡ Some (next, e) → takes l party e ≡ []
  unfolding environment_post
  line_takes l party v next e h = go (slice_get plant.lines v.posted) h
    where
      go : (o : Option Line) → post_line plant.controllers v o ≡ Some (next, e) → takes l party e ≡ []
      go None k = cc
      go (Some line) k = subst (λ (z : Entry). takes l party z ≡ []) (same_entry k) refl

  -- the environment takes nothing
  pub lines_take : (l : Lane) (party : ℕ) (v : Environment) (es : List Entry) (end : Environment) → EnvironmentReplays plant v es end → taken l party es ≡ []
  lines_take l party v [] end h = refl
  lines_take l party v (e ∷ es) end h = rw (line_takes l party v h.0 e h.1) (lines_take l party h.0 es end h.2)

-- posts of some entries, and then of others, go to controllers
pub posts_append : (n : ℕ) (a b : List Entry) → PostsWithin n a → PostsWithin n b → PostsWithin n (a ++ b)
posts_append n [] b h k = k
posts_append n (e ∷ a) b h k = (h.0, posts_append n a b h.1 k)

-- posts of some entries, and then of others, are above the system level
pub above_append : (a b : List Entry) → PostsAbove a → PostsAbove b → PostsAbove (a ++ b)
above_append [] b h k = k
above_append (e ∷ a) b h k = (h.0, above_append a b h.1 k)

-- turns post nothing
turn_posts : (n : ℕ) (e : Entry) → is_turn e ≡ true → IsPostWithin n e
turn_posts n (entry.Start who state notes) h = tt
turn_posts n (entry.Fetch stamp m) h = tt
turn_posts n (entry.Turn stamp from sent did notes) h = tt
turn_posts n (entry.Post stamp m) h = absurd cc

pub turns_post : (n : ℕ) (es : List Entry) → OnlyTurns es → PostsWithin n es
turns_post n [] h = tt
turns_post n (e ∷ es) h = (turn_posts n e h.0, turns_post n es h.1)

-- nor do fetches
pub fetches_post : (n : ℕ) (ms : List Msg) (es : List Entry) → Fetched ms es → PostsWithin n es
fetches_post n [] [] h = tt
fetches_post n [] (e ∷ es) h = absurd h
fetches_post n (m ∷ ms) [] h = absurd h
fetches_post n (m ∷ ms) (e ∷ es) h = (subst (λ (x : Entry). IsPostWithin n x) (sym h.0.1) tt, fetches_post n ms es h.1)
