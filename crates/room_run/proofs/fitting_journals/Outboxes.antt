-- What controller 0 has yet to post at a moment of a run is posted later on, where it has nothing to post at the end.
-- So what it will have told of places that are linked is told of places that were linked in the run.
use Rattle.std.proofs.Common.{◌≡◌, ℕ, List, [], ◌∷◌, Option, Some, sym, ap, ◌∙◌, subst, ◌⊎◌, inl, inr}
use Rattle.std.specs.List.{AllByRecursion as Each}
use Rattle.std.proofs.lemmas.Bool.{cases_eq, ne_eqb}
use Rattle.std.proofs.lemmas.Option.{same_Some}
use Rattle.room_kinds.specs.declared.message.Msg.{Msg}
use Rattle.journal.specs.declared.entry.Entry.{Entry}
use Rattle.journal.specs.declared.entry.Entry.TheVariants as entry
use Rattle.actor_merge.specs.Parties.{State, Plant, Taken, Does, put, next_of, fetch, turn, turn_with, post, post_front}
use Rattle.actor_merge.specs.World.{World, Placed, Runs}
use Rattle.actor_merge.proofs.Back.{Happened, controller, environment, happened, own_of}
use Rattle.actor_merge.proofs.Lanes.{put-same, put-other}
use Rattle.room_run.proofs.fitting_journals.Signals.{Linked}
use Rattle.room_run.proofs.fitting_journals.Sending.{GivesPlace}

-- an entry that posts that a place is linked tells of one that was linked
abbrev pub EntryGives : Linked → Entry → Type 0
EntryGives L (entry.Start who state notes) = Unit {0}
EntryGives L (entry.Fetch stamp m) = Unit {0}
EntryGives L (entry.Turn stamp from sent what notes) = Unit {0}
EntryGives L (entry.Post stamp m) = GivesPlace L m

-- so does each of controller 0
abbrev pub PlacedGives : Linked → Placed → Type 0
PlacedGives L x = x.party ≡ 0 → EntryGives L x.entry

module _ {B : Type 0} (plant : Plant B) (L : Linked) where
  abbrev Gives : State B → Type 0
  Gives s = Each (GivesPlace L) s.outbox

  before_fetch : (s : State B) (m : Msg) (r : State B × Entry) → fetch s m ≡ r → Gives r.0 → Gives s
  unfolding fetch
  before_fetch s m r e h = subst (λ (z : State B × Entry). Gives z.0) (sym e) h

  before_turn : (c : ℕ) (s : State B) (r : State B × Entry) → turn plant c s ≡ Some r → Gives s
  unfolding turn
  before_turn c s r e = go s.outbox (next_of s.pending) e
    where
      go : (box : List Msg) (o : Option Taken) → turn_with plant c s box o ≡ Some r → Each (GivesPlace L) box
      go [] o is = tt
      go (m ∷ ms) o is = absurd cc

  before_post : (c : ℕ) (s : State B) (r : State B × Entry) → post c s ≡ Some r → EntryGives L r.1 → Gives r.0 → Gives s
  unfolding post
  before_post c s r e = go s.outbox e
    where
      go : (box : List Msg) → post_front c s box ≡ Some r → EntryGives L r.1 → Gives r.0 → Each (GivesPlace L) box
      go [] is = absurd cc
      go (m ∷ rest) is = subst (λ (z : State B × Entry). EntryGives L z.1 → Gives z.0 → Each (GivesPlace L) (m ∷ rest)) (same_Some _ r is) (λ here later. (here, later))

  before_own : (c : ℕ) (s next : State B) (e : Entry) → Does plant c s e next → EntryGives L e → Gives next → Gives s
  before_own c s next (entry.Start who state notes) d g h = absurd d
  before_own c s next (entry.Fetch stamp m) d g h = before_fetch s m (next, entry.Fetch stamp m) d h
  before_own c s next (entry.Turn stamp from sent what notes) d g h = before_turn c s (next, entry.Turn stamp from sent what notes) d
  before_own c s next (entry.Post stamp m) d g h = before_post c s (next, entry.Post stamp m) d g h

  before : (v next : World B) (x : Placed) → Happened plant v x next → PlacedGives L x → Gives (next.controllers 0) → Gives (v.controllers 0)
  before v next x (controller below s does same) g h = go (cases_eq 0 x.party)
    where
      go : (0 ≡ x.party) ⊎ (0 ≡ x.party → ⊥) → Gives (v.controllers 0)
      go (inl e) =
          let after : next.controllers 0 ≡ s = ap (λ (z : World B). z.controllers 0) same ∙ ap (put v.controllers x.party s) e ∙ put-same v.controllers x.party s in
          subst (λ (c : ℕ). Gives (v.controllers c)) (sym e)
          (before_own x.party (v.controllers x.party) s x.entry (own_of plant v x.party x.entry s does) (g (sym e)) (subst Gives after h))
      go (inr n) =
          let after : next.controllers 0 ≡ v.controllers 0 = ap (λ (z : World B). z.controllers 0) same ∙ put-other v.controllers x.party s 0 (ne_eqb 0 x.party n) in
          subst Gives after h
  before v next x (environment is u does same) g h = subst Gives (ap (λ (z : World B). z.controllers 0) same) h

  pub outbox_gives : (xs : List Placed) (v end : World B) → Each (PlacedGives L) xs → (end.controllers 0).outbox ≡ [] → Runs plant v xs end
      → Each (GivesPlace L) (v.controllers 0).outbox
  outbox_gives [] v end gives empty r =
      subst (Each (GivesPlace L)) (sym (sym (ap (λ (z : World B). (z.controllers 0).outbox) r) ∙ empty)) tt
  outbox_gives (x ∷ xs) v end gives empty r =
      before v r.0 x (happened plant v x r.0 r.2) gives.0 (outbox_gives xs r.0 end gives.1 empty r.3)
