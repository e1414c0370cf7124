-- Over every run of the world: parts live with their slots, and live optional slots in live containers.
use Rattle.std.proofs.Common.{◌≡◌, ℕ, ◌<◌, ◌==◌, ◌&&◌, Bool, true, false, if◌then◌else◌, List, [], ◌∷◌, ◌++◌, length, Some, refl, sym, ap, ◌∙◌, subst, eqb-true, arith, ⊎_elim}
use Rattle.std.specs.List.{list_any}
use Rattle.std.proofs.lemmas.Bool.{and_from, or_cases, or_left, or_right}
use Rattle.std.proofs.lemmas.Option.{slice_get_within}
use Rattle.room_kinds.specs.declared.message.Msg.{Msg}
use Rattle.journal.specs.declared.entry.Entry.{Entry}
use Rattle.journal.specs.declared.entry.Entry.TheVariants as entry
use Rattle.room_wiring.specs.declared.tables.Tables.{Tables}
use Rattle.room_wiring.specs.declared.slot.Slot.{Slot}
use Rattle.room_wiring.specs.Slots.{slot_at}
use Rattle.actor_merge.specs.Mail.{event_of}
use Rattle.actor_merge.specs.Parties.{State, Environment, Line, put, next_of, fetch, turn, post, Does}
use Rattle.actor_merge.specs.World.{World, Placed, IsQuiet, start, Runs, controller_does, environment_does}
use Rattle.actor_merge.proofs.Back.{Happened, controller, environment, happened, own_of}
use Rattle.actor_duties.specs.Words.{slots_of, is_own, owner_of, is_optional, is_optional_kind, container_of}
use Rattle.actor_duties.specs.Lives.{is_in_part, has_part, is_made_with}
use Rattle.actor_world.specs.Behaviour.{Behaviour}
use Rattle.actor_world.specs.Body.{Body}
use Rattle.actor_world.specs.Turns.{treat}
use Rattle.actor_world.specs.Start.{lives_from_start, first_lives, first_state, plant_of}
use Rattle.actor_world.specs.Directories.{IsOpen, AreOpen}
use Rattle.service_messages.specs.slot_runs.Runs.{IsDepthFirst}
use Rattle.service_messages.proofs.slot_runs.RunLemmas.{held_true, false_from, not_true_false, contained_there}
use Rattle.law_agreement.specs.Trails.{system_to, trail, leaves, comes, hear_all}
use Rattle.law_agreement.specs.Bodies.{PartsAreWhole, part_heard, Alternate, PartsAlternate, lives_at, IsInBody, OwnPartsLive, PartsAreForetold, OthersLiveFromStart}
use Rattle.law_agreement.proofs.Lists.{has, has_range}
use Rattle.law_agreement.proofs.Hearing.{part_apart, part_stamped, HasOther}
use Rattle.law_agreement.proofs.Alternating.{one_life, AlternateTo, to_off, all_plain_off, alternate_append, alternate_later, alternate_system}
use Rattle.law_agreement.proofs.Below.{made_itself, first_not_made}
use Rattle.law_agreement.proofs.Living.{IsWhole, step_whole, first_whole}
use Rattle.law_agreement.proofs.Telling.{other_owner}
use Rattle.law_agreement.proofs.Duties.{IsFar}
use Rattle.law_agreement.proofs.Turning.{TurnSays, treat_says}
use Rattle.law_agreement.proofs.Moving.{controller_moves, IsSorted, post_from, turn_from, world_after}
use Rattle.law_agreement.proofs.Reading.{step_hears, IsHearing, unread, TurnReads, step_reads}
use Rattle.actor_world.proofs.TrueWorld.{put_own}
use Rattle.law_agreement.proofs.Agreeing.{own_there, fresh_trail, IsForetold, controller_foretold, world_then, environment_moves, environment_foretold, first_carries, first_plain, start_foretold, quiet_unread}

-- an optional slot is there
pub optional_there : (t : Tables) (o : ℕ) → is_optional t o ≡ true → o < length t.slots
unfolding is_optional
optional_there t o h = let x = held_true (λ (x : Slot). is_optional_kind x.kind) (slot_at t o) h in slice_get_within t.slots o x.0 x.1

any_of_has : (p : ℕ → Bool) (s : ℕ) (ks : List ℕ) → has s ks ≡ true → p s ≡ true → list_any p ks ≡ true
any_of_has p s [] h q = absurd cc
any_of_has p s (k ∷ ks) h q =
    ⊎_elim
    (λ e. or_left (p k) (list_any p ks) (subst (λ z. p z ≡ true) (sym (eqb-true k s e)) q))
    (λ e. or_right (p k) (list_any p ks) (any_of_has p s ks e q))
    (or_cases (k == s) (has s ks) h)

-- the owner of a slot of a body has a part
part_there : (t : Tables) (o s : ℕ) → s < length t.slots → is_made_with t o s ≡ true → has_part t (owner_of t s) o ≡ true
unfolding has_part
part_there t o s there made =
    any_of_has (is_in_part t (owner_of t s) o) s (slots_of t) (has_range s 0 (length t.slots) (omega arith) (omega arith))
    (and_from (is_made_with t o s) (is_own t (owner_of t s) s) made (own_there t s there))

-- a world as it can be: beside what is told of slots, lives are whole, and parts live as their slots, where
-- what is on its way counts
pub record IsWholeWorld {M : Type 0} (t : Tables) (w : World (Body M)) : Type 0 where
  pub told : IsForetold t w
  pub whole : (c : ℕ) → IsWhole t c (w.controllers c).body.frame.lives
  pub parts : PartsAreForetold t w
  pub alternate : PartsAlternate t w

module _ {M : Type 0} (model : Behaviour M) (clear : IsOpen model) (t : Tables) (first : IsDepthFirst t) (lines : List Line) (clear_lines : AreOpen lines) where
  part_hearing : (d o : ℕ) → IsHearing o (part_heard t d o)
  part_hearing d o = record { unstamped = λ a stamp m b. part_stamped t d o a stamp m b; apart = λ m b h. part_apart t d o m b h }

  own_optional : (o : ℕ) → is_optional t o ≡ true → is_own t (owner_of t o) o ≡ true
  own_optional o h = own_there t o (optional_there t o h)

  -- the owner of a slot of another's body has a part of it
  body_other : (o s : ℕ) → IsInBody t o s → owner_of t s < length t.controllers → (owner_of t s == owner_of t o) ≡ false → HasOther t (owner_of t s) o (owner_of t o)
  body_other o s body below other =
      record {
        optional = body.optional;
        foreign = other_owner t (owner_of t o) (owner_of t s) o (own_optional o body.optional) other;
        other = other;
        below = below;
        part = part_there t o s body.there body.made;
      }

  -- in a turn a part hears its message, and what is told of an optional slot is what happens there
  part_reads : (w : World (Body M)) → IsWholeWorld t w → (o s : ℕ) → IsInBody t o s → owner_of t s < length t.controllers → (owner_of t s == owner_of t o) ≡ false
      → TurnReads model clear t lines o (owner_of t s) (part_heard t (owner_of t s) o) (part_hearing (owner_of t s) o)
      (λ (b : Body M). b.frame.lives.lives s) (λ (b : Body M). b.frame.lives.lives o) w
  part_reads w inv o s body below other =
      let d : ℕ = owner_of t s in
      let a : ℕ = owner_of t o in
      let foreign : is_own t d o ≡ false = other_owner t a d o (own_optional o body.optional) other in
      let far : IsFar t d o s = record { optional = body.optional; foreign = foreign; own = own_there t s body.there; made = body.made } in
      let has_other : HasOther t d o a = body_other o s body below other in
      record {
        hears = λ m. (treat_says model clear t d (w.controllers d).body m (inv.told.sorted d).deferred).lives (inv.whole d).sound o s far;
        tells = λ m. (treat_says model clear t a (w.controllers a).body m (inv.told.sorted a).deferred).says.parts (inv.whole a).sound o d (own_optional o body.optional) has_other;
      }

  does_whole : (c : ℕ) (s next : State (Body M)) (e : Entry) → IsSorted s → IsWhole t c s.body.frame.lives → Does (plant_of model t lines) c s e next → IsWhole t c next.body.frame.lives
  unfolding fetch turn post
  does_whole c s next (entry.Start who state ns) sorted h d = absurd d
  does_whole c s next (entry.Fetch stamp m) sorted h d = subst (λ (z : State (Body M) × Entry). IsWhole t c z.0.body.frame.lives) d h
  does_whole c s next (entry.Post stamp m) sorted h d =
      let r = post_from model t lines c s next (entry.Post stamp m) s.outbox d in subst (λ (z : State (Body M) × Entry). IsWhole t c z.0.body.frame.lives) r.3 h
  does_whole c s next (entry.Turn stamp from sent what ns) sorted h d =
      let r = turn_from model t lines c s next (entry.Turn stamp from sent what ns) s.outbox (next_of s.pending) d in
      let z : TurnSays t c s.body r.0.message (treat model t c s.body r.0.message) = treat_says model clear t c s.body r.0.message sorted.deferred in
      subst (λ (q : State (Body M) × Entry). IsWhole t c q.0.body.frame.lives) r.3
      (step_whole t first c s.body.frame.lives h (treat model t c s.body r.0.message).body.frame.lives z.says.stepped)

  -- what comes into the trail from an optional slot's owner alternates
  comes_alternate : (w : World (Body M)) → IsWholeWorld t w → (c : ℕ) (e : Entry) (next : State (Body M)) → controller_does (plant_of model t lines) w c (event_of e) ≡ Some (next, e)
      → (o s : ℕ) → IsInBody t o s → owner_of t s < length t.controllers → (owner_of t s == owner_of t o) ≡ false
      → Alternate t (owner_of t s) o (lives_at t w o) (comes (world_after model t lines w c e next) c e (owner_of t o) (owner_of t s))
  unfolding turn put
  comes_alternate w inv c (entry.Start who state ns) next h o s body near other = tt
  comes_alternate w inv c (entry.Fetch stamp m) next h o s body near other = tt
  comes_alternate w inv c (entry.Post stamp m) next h o s body near other = tt
  comes_alternate w inv c (entry.Turn stamp from sent what ns) next h o s body near other = go (owner_of t o == c) refl
    where
      said : owner_of t o ≡ c → AlternateTo t (owner_of t s) o (lives_at t w o) next.outbox
      said e =
          let r = turn_from model t lines c (w.controllers c) next (entry.Turn stamp from sent what ns) (w.controllers c).outbox (next_of (w.controllers c).pending) h in
          let z : TurnSays t c (w.controllers c).body r.0.message (treat model t c (w.controllers c).body r.0.message) =
          treat_says model clear t c (w.controllers c).body r.0.message (inv.told.sorted c).deferred in
          let own : is_own t c o ≡ true = subst (λ n. is_own t n o ≡ true) e (own_optional o body.optional) in
          let has_other : HasOther t (owner_of t s) o c = subst (HasOther t (owner_of t s) o) e (body_other o s body near other) in
          let now : AlternateTo t (owner_of t s) o ((w.controllers c).body.frame.lives.lives o) (treat model t c (w.controllers c).body r.0.message).sent =
          z.says.alternate (inv.whole c).sound o (owner_of t s) own has_other in
          let out : (treat model t c (w.controllers c).body r.0.message).sent ≡ next.outbox = ap (λ (q : State (Body M) × Entry). q.0.outbox) r.3 in
          subst (λ n. AlternateTo t (owner_of t s) o ((w.controllers n).body.frame.lives.lives o) next.outbox) (sym e)
          (subst (AlternateTo t (owner_of t s) o ((w.controllers c).body.frame.lives.lives o)) out now)

      go : (x : Bool) → (owner_of t o == c) ≡ x
          → Alternate t (owner_of t s) o (lives_at t w o) (if x then system_to (owner_of t o) (owner_of t s) (if x then next else w.controllers (owner_of t o)).outbox else [])
      go true e = alternate_system t (owner_of t s) o (owner_of t o) next.outbox (lives_at t w o) (said (eqb-true (owner_of t o) c e))
      go false e = tt

  controller_whole : (w : World (Body M)) → IsWholeWorld t w → (c : ℕ) → c < length t.controllers → (e : Entry) (next : State (Body M))
      → controller_does (plant_of model t lines) w c (event_of e) ≡ Some (next, e) → IsWholeWorld t (world_after model t lines w c e next)
  controller_whole w inv c below e next h =
      record {
        told = controller_foretold model clear t lines clear_lines w inv.told c below e next h;
        whole = put_own (λ k (z : State (Body M)). IsWhole t k z.body.frame.lives) w.controllers c next inv.whole
            (does_whole c (w.controllers c) next e (inv.told.sorted c) (inv.whole c) (own_of (plant_of model t lines) w c e next h));
        parts = λ o s body near other.
            step_reads model clear t lines o (owner_of t s) (part_heard t (owner_of t s) o) (part_hearing (owner_of t s) o)
            (λ (b : Body M). b.frame.lives.lives s) (λ (b : Body M). b.frame.lives.lives o)
            w inv.told.sorted inv.told.owned (part_reads w inv o s body near other) c e next h (inv.parts o s body near other);
        alternate = λ o s body near other.
            let a : ℕ = owner_of t o in
            let d : ℕ = owner_of t s in
            let after_all : World (Body M) = world_after model t lines w c e next in
            let x : Bool = lives_at t w s in
            let whole : Alternate t d o x (trail w a d ++ comes after_all c e a d) =
            alternate_append t d o (trail w a d) (comes after_all c e a d) x (inv.alternate o s body near other)
            (subst (λ z. Alternate t d o z (comes after_all c e a d)) (sym (inv.parts o s body near other)) (comes_alternate w inv c e next h o s body near other)) in
            let moved : Alternate t d o x (leaves w c e a d ++ trail after_all a d) =
            subst (Alternate t d o x) (sym (controller_moves model t lines clear w c e next (inv.told.sorted c) h a d)) whole in
            subst (λ z. Alternate t d o z (trail after_all a d))
            (step_hears model clear t lines o d (part_heard t d o) (part_hearing d o) (λ (b : Body M). b.frame.lives.lives s) (λ (b : Body M). b.frame.lives.lives o)
            w inv.told.sorted inv.told.owned (part_reads w inv o s body near other) c e next h)
            (alternate_later t d o (leaves w c e a d) (trail after_all a d) x moved);
      }

  environment_whole : (w : World (Body M)) (c : ℕ) (e : Entry) (v : Environment) → IsWholeWorld t w
      → environment_does (plant_of model t lines) w (event_of e) ≡ Some (v, e) → IsWholeWorld t (world_then model clear t lines clear_lines w c e v)
  environment_whole w c e v inv h =
      record {
        told = environment_foretold model clear t lines clear_lines w c e v inv.told h;
        whole = inv.whole;
        parts = λ o s body near other.
            ap (λ (z : List Msg). hear_all (part_heard t (owner_of t s) o) z (lives_at t w s)) (environment_moves model clear t lines clear_lines w c e v h (owner_of t o) (owner_of t s))
            ∙ inv.parts o s body near other;
        alternate = λ o s body near other.
            subst (Alternate t (owner_of t s) o (lives_at t w s)) (sym (environment_moves model clear t lines clear_lines w c e v h (owner_of t o) (owner_of t s))) (inv.alternate o s body near other);
      }

  step_world : (w : World (Body M)) (x : Placed) (next : World (Body M)) → IsWholeWorld t w → Happened (plant_of model t lines) w x next → IsWholeWorld t next
  step_world w x next inv (controller below s does same) =
      subst (IsWholeWorld t) (sym same) (controller_whole w inv x.party below x.entry s does)
  step_world w x next inv (environment is v does same) = subst (IsWholeWorld t) (sym same) (environment_whole w x.party x.entry v inv does)

  run_world : (xs : List Placed) (w end : World (Body M)) → IsWholeWorld t w → Runs (plant_of model t lines) w xs end → IsWholeWorld t end
  run_world [] w end inv r = subst (IsWholeWorld t) (sym r) inv
  run_world (x ∷ xs) w end inv r = run_world xs r.0 end (step_world w x r.0 inv (happened (plant_of model t lines) w x r.0 r.2)) r.3

  first_lived : (c : ℕ) → (first_state model t c).body.frame.lives ≡ first_lives t c
  first_lived c = (first_carries model clear t lines clear_lines c).lives

  -- at the start nothing lives of the body of an optional slot
  first_dead : (o s : ℕ) → is_optional t o ≡ true → is_made_with t o s ≡ true → (c : ℕ) → (first_state model t c).body.frame.lives.lives s ≡ false
  first_dead o s opt made c =
      ap (λ l. l.lives s) (first_lived c)
      ∙ (let from : lives_from_start t s ≡ false = false_from (lives_from_start t s) (λ f. not_true_false (is_made_with t o s) made (first_not_made t o s opt f)) in
      rw from (none (is_own t c s)))
    where
      none : (b : Bool) → (b && false) ≡ false
      none true = refl
      none false = refl

  start_world : IsWholeWorld t (start (plant_of model t lines))
  start_world =
      record {
        told = start_foretold model clear t lines clear_lines;
        whole = λ c. subst (IsWhole t c) (sym (first_lived c)) (first_whole t c);
        parts = λ o s body near other.
            let a : ℕ = owner_of t o in
            let d : ℕ = owner_of t s in
            ap (λ (z : List Msg). hear_all (part_heard t d o) z ((first_state model t d).body.frame.lives.lives s)) (fresh_trail a d (first_state model t a).outbox)
            ∙ unread o (part_heard t d o) (part_hearing d o) a d (first_state model t a).outbox (first_plain model clear t lines clear_lines a) ((first_state model t d).body.frame.lives.lives s)
            ∙ first_dead o s body.optional body.made d
            ∙ sym (first_dead o o body.optional (made_itself t o) a);
        alternate = λ o s body near other.
            let a : ℕ = owner_of t o in
            let d : ℕ = owner_of t s in
            let x : Bool = (first_state model t d).body.frame.lives.lives s in
            let box : List Msg = (first_state model t a).outbox in
            subst (Alternate t d o x) (sym (fresh_trail a d box))
            (alternate_system t d o a box x (to_off t d o box x (all_plain_off t d o box (first_plain model clear t lines clear_lines a))));
      }

  pub runs_whole : (xs : List Placed) (end : World (Body M)) → Runs (plant_of model t lines) (start (plant_of model t lines)) xs end → IsWholeWorld t end
  runs_whole xs end r = run_world xs (start (plant_of model t lines)) end start_world r

  -- at its owner the body of a slot lives with the slot
  pub own_parts : (w : World (Body M)) → IsWholeWorld t w → OwnPartsLive t w
  own_parts w inv o s body same =
      let own : is_own t (owner_of t o) s ≡ true = subst (λ z. is_own t z s ≡ true) same (own_there t s body.there) in
      ap (λ z. (w.controllers z).body.frame.lives.lives s) same
      ∙ (inv.whole (owner_of t o)).bodies o s body.optional (own_optional o body.optional) own body.made

  -- a part lives as a whole or not at all
  pub parts_whole : (w : World (Body M)) → IsWholeWorld t w → PartsAreWhole t w
  parts_whole w inv o s u body next near same = go (owner_of t s == owner_of t o) refl
    where
      go : (b : Bool) → (owner_of t s == owner_of t o) ≡ b → lives_at t w s ≡ lives_at t w u
      go true e =
          let mine : owner_of t s ≡ owner_of t o = eqb-true (owner_of t s) (owner_of t o) e in
          own_parts w inv o s body mine ∙ sym (own_parts w inv o u next (same ∙ mine))
      go false e =
          let d : ℕ = owner_of t s in
          let near_too : owner_of t u < length t.controllers = subst (λ n. n < length t.controllers) (sym same) near in
          let other : (owner_of t u == owner_of t o) ≡ false = subst (λ n. (n == owner_of t o) ≡ false) (sym same) e in
          let told : hear_all (part_heard t d o) (trail w (owner_of t o) d) (lives_at t w u) ≡ lives_at t w o =
          subst (λ n. hear_all (part_heard t n o) (trail w (owner_of t o) n) (lives_at t w u) ≡ lives_at t w o) same (inv.parts o u next near_too other) in
          let turns : Alternate t d o (lives_at t w u) (trail w (owner_of t o) d) =
          subst (λ n. Alternate t n o (lives_at t w u) (trail w (owner_of t o) n)) same (inv.alternate o u next near_too other) in
          one_life t d o (trail w (owner_of t o) d) (lives_at t w s) (lives_at t w u) (inv.alternate o s body near e) turns (inv.parts o s body near e ∙ sym told)

  -- in a quiet world all parts live with their slots
  pub quiet_bodies : (end : World (Body M)) → IsWholeWorld t end → IsQuiet (plant_of model t lines) end
      → (o s : ℕ) → IsInBody t o s → owner_of t s < length t.controllers → lives_at t end s ≡ lives_at t end o
  quiet_bodies end inv quiet o s body near = go (owner_of t s == owner_of t o) refl
    where
      go : (b : Bool) → (owner_of t s == owner_of t o) ≡ b → lives_at t end s ≡ lives_at t end o
      go true e = own_parts end inv o s body (eqb-true (owner_of t s) (owner_of t o) e)
      go false e =
          sym (quiet_unread model clear t lines clear_lines o (owner_of t s) (part_heard t (owner_of t s) o) (part_hearing (owner_of t s) o) end inv.told quiet near (lives_at t end s))
          ∙ inv.parts o s body near e

  -- a live optional slot has a live container
  pub containers_live : OthersLiveFromStart t → (w : World (Body M)) → IsWholeWorld t w
      → (s c : ℕ) → is_optional t s ≡ true → container_of t s ≡ Some c → lives_at t w s ≡ true → lives_at t w c ≡ true
  containers_live others w inv s c opt is live = go (owner_of t c == owner_of t s) refl
    where
      there : s < length t.slots
      there = contained_there t s c is

      own : is_own t (owner_of t c) c ≡ true
      own = let less : c < s = first.behind s c is in let in_range = there in own_there t c (omega arith)

      go : (b : Bool) → (owner_of t c == owner_of t s) ≡ b → lives_at t w c ≡ true
      go true e =
          let same : owner_of t c ≡ owner_of t s = eqb-true (owner_of t c) (owner_of t s) e in
          ap (λ z. (w.controllers z).body.frame.lives.lives c) same
          ∙ (inv.whole (owner_of t s)).containers s c (own_there t s there) (subst (λ z. is_own t z c ≡ true) same own) opt is live
      go false e = (inv.whole (owner_of t c)).firsts c own (others s c opt is e)
