-- What a controller without its journal does is what its entries say.
use Rattle.std.proofs.Common.{◌≡◌, ℕ, [], ◌∷◌, Some, refl, sym, subst}
use Rattle.room_kinds.specs.declared.message.Msg.{Msg}
use Rattle.journal.specs.declared.entry.Entry.{Entry}
use Rattle.journal.specs.declared.entry.Entry.TheVariants as entry
use Rattle.actor_merge.specs.Parties.{Plant as RunPlant, State, fetch, post, Does}
use Rattle.controller_mail.specs.MailState.{TurnDone, state_of, with_body}
use Rattle.controller_mail.specs.Queues.{Queues, TakesOut, alone, end_turn}
use Rattle.controller_mail.proofs.Mails.{mail_of, Fetches-kept, Posts-kept, TakesNext-kept, EndsTurn-kept}
use Rattle.controller_mail.proofs.controller_moves.Replayed.{fetched_at, turned_as, Fetches-journal, Fetches-does, Posts-does, turn-journal, turn-does}

-- the queues and a body, as a state of the world's definitions
abbrev pub standing : {B : Type 0} → Queues → B → State B
standing q body = state_of (mail_of q []) body

only : (e f : Entry) → e ∷ [] ≡ f ∷ [] → f ≡ e
only e f same = cc

module _ {B : Type 0} (plant : RunPlant B) (c : ℕ) where
  -- a fetch
  pub fetch_made : (old new : Queues) (m : Msg) (e : Entry) (body : B) → fetch (alone old) m ≡ (alone new, e) → Does plant c (standing old body) e (standing new body)
  fetch_made old new m e body is =
      let f = Fetches-kept old new m e [] (e ∷ []) is refl in
      let does = Fetches-does plant c (mail_of old []) (mail_of new (e ∷ [])) m body f in
      subst (λ x. Does plant c (standing old body) x (standing new body)) (only e (fetched_at old.clock m) (Fetches-journal (mail_of old []) (mail_of new (e ∷ [])) m f)) does

  -- a post
  pub post_made : (old new : Queues) (m : Msg) (e : Entry) (body : B) → post c (alone old) ≡ Some (alone new, e) → e ≡ entry.Post m.stamp m → Does plant c (standing old body) e (standing new body)
  post_made old new m e body is at =
      let p = Posts-kept c old new m e [] (e ∷ []) is at refl in
      subst (λ x. Does plant c (standing old body) x (standing new body)) (sym at) (Posts-does plant c (mail_of old []) (mail_of new (e ∷ [])) m body p)

  -- a turn
  pub turn_made : (old mid new : Queues) (m : Msg) (done : TurnDone) (e : Entry) (before after : B) → old.outbox ≡ [] → TakesOut old mid m → end_turn (alone mid) m.from m.stamp done ≡ (alone new, e)
      → plant.treat c before m ≡ with_body done after → Does plant c (standing old before) e (standing new after)
  turn_made old mid new m done e before after empty takes is treated =
      let t = TakesNext-kept old mid m [] takes in
      let ends = EndsTurn-kept mid new m.from m.stamp done e [] (e ∷ []) is refl in
      let does = turn-does plant c (mail_of old []) (mail_of mid []) (mail_of new (e ∷ [])) m done before after empty t ends treated in
      subst (λ x. Does plant c (standing old before) x (standing new after)) (only e (turned_as mid.clock m done) (turn-journal (mail_of old []) (mail_of mid []) (mail_of new (e ∷ [])) m done t ends)) does
