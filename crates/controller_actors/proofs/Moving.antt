-- Actors that come up and go down, as steps of what is done in a turn.
use Rattle.std.proofs.Common.{◌≡◌, ℕ, Bool, List, [], ◌∷◌, ◌++◌, length, set, All, refl, sym, ap, ◌∙◌, subst}
use Rattle.std.proofs.lemmas.List.Elements.{All-nil}
use Rattle.room_kinds.specs.declared.message.Msg.{Msg}
use Rattle.room_kinds.specs.declared.note.Note.{Note}
use Rattle.room_kinds.specs.declared.note.Note.TheVariants as notes
use Rattle.room_kinds.specs.declared.numbers.Incarnation.{Incarnation}
use Rattle.room_wiring.specs.declared.tables.Tables.{Tables as Wiring}
use Rattle.actor_duties.specs.State.{Links}
use Rattle.actor_duties.specs.Links.{end_of}
use Rattle.actor_world.specs.Body.{Body, Doing}
use Rattle.actor_world.specs.Turns.{begun, all_begun, gone, all_gone}
use Rattle.chart_behaviour.specs.ModelCharts.{Actor, begins, tables_at}
use Rattle.controller_mail.specs.MailState.{IsForActors}
use Rattle.frame_service.specs.declared.state.FrameState.{FrameState}
use Rattle.frame_service.specs.State.{IsFrameOf, frame_in}
use Rattle.controller_actors.specs.declared.actor_slots.actor_slot.ActorSlot.{ActorSlot}
use Rattle.controller_actors.specs.declared.actor_commands.output.Output.{Output}
use Rattle.controller_actors.specs.actor_slots.Slots.{SlotComesUp, SlotFits, slot_body, risen}
use Rattle.controller_actors.specs.declared.plant.Plant.{Plant}
use Rattle.controller_actors.specs.declared.actors.Actors.{Actors}
use Rattle.controller_actors.specs.Served.{Serves, links_in}
use Rattle.controller_actors.specs.Plants.{model_of}
use Rattle.controller_actors.specs.Rows.{own_below}
use Rattle.controller_actors.specs.Bodies.{HasSlots, body_of, lives_of, slot_at, vacant}
use Rattle.controller_actors.specs.Steps.{IsLast, Moves, doing_of}
use Rattle.controller_actors.proofs.OwnRows.{HasRow}
use Rattle.controller_actors.proofs.Bodies.{body_same, body_set, has_slots_set}

-- equal parts make equal states
same_doing : {b c : Body Actor} {sent sent' back back' : List Msg} {told told' : List Note} → b ≡ c → sent ≡ sent' → back ≡ back' → told ≡ told' → (kept : Bool)
    → ◌≡◌ {A = Doing Actor}
    (record { body = b; sent = sent; back = back; notes = told; kept = kept })
    (record { body = c; sent = sent'; back = back'; notes = told'; kept = kept })
same_doing p q r e kept = cc

module _ (p : Plant) (me : ℕ) where
  -- ---- steps one after another

  -- nothing is done
  pub stays : (a : Actors) (s : Output) → HasSlots p me a → Moves (λ d. d) p me a s a s
  stays a s has_slots = record { on = λ held. (held, refl); has_slots = has_slots; lives = refl; back = λ all. all }

  -- one step after another
  pub then_moves : (first second : Doing Actor → Doing Actor) (a b c : Actors) (x y z : Output)
      → Moves first p me a x b y → Moves second p me b y c z → Moves (λ d. second (first d)) p me a x c z
  then_moves first second a b c x y z h k = record {
    on = λ held. ((k.on (h.on held).0).0, ap second (h.on held).1 ∙ (k.on (h.on held).0).1);
    has_slots = k.has_slots;
    lives = k.lives ∙ h.lives;
    back = λ all. k.back (h.back all);
  }

  -- the same step, under another name
  pub same_moves : (first second : Doing Actor → Doing Actor) (a b : Actors) (x y : Output) → ((d : Doing Actor) → second d ≡ first d)
      → Moves first p me a x b y → Moves second p me a x b y
  same_moves first second a b x y e h = record {
    on = λ held. ((h.on held).0, e (doing_of p me a x held) ∙ (h.on held).1);
    has_slots = h.has_slots;
    lives = h.lives;
    back = h.back;
  }

  -- ---- an actor comes up

  begun_is : (x : Incarnation) (d : Doing Actor) → begun (model_of p) p.wiring me x d ≡ risen p.wiring me x (begins x (tables_at p.wiring p.tables.items x.slot.0)) d
  begun_is x d = refl

  pub comes_up : (old new : Actors) (x : Incarnation) (before after : ActorSlot) (first last : Output) → HasRow p.wiring me old.slots.items x.slot.0
      → before ≡ slot_at p.wiring me old.slots.items x.slot.0 → new.table ≡ old.table → new.slots.items ≡ set old.slots.items (own_below p.wiring me x.slot.0) after → Serves p.wiring me new.services
      → SlotComesUp p.wiring me (frame_in old.services.frame) (links_in old.services) (frame_in new.services.frame) (links_in new.services) x (tables_at p.wiring p.tables.items x.slot.0) before after first last
      → HasSlots p me old → IsLast p.wiring me (lives_of old) x → Moves (begun (model_of p) p.wiring me x) p me old first new last
  comes_up old new x before after first last l is table slots serves h has_slots here =
      let s = x.slot.0 in
      let o = tables_at p.wiring p.tables.items s in
      let f = frame_in old.services.frame in
      let b = body_of p me old in
      record {
        on = λ held. (
          h.kept,
          begun_is x (doing_of p me old first held)
              ∙ ap (λ (c : Body Actor). risen p.wiring me x (begins x o) (record { body = c; sent = first.messages; back = first.back; notes = first.notes; kept = held }))
              (body_same p me old s ∙ ap (slot_body f (links_in old.services) b s) (sym is))
              ∙ h.doing b held
              ∙ ap (λ (c : Body Actor). record { body = c; sent = last.messages; back = last.back; notes = last.notes; kept = h.kept })
              (sym (body_set p me old new s after l table slots)),
        );
        has_slots = has_slots_set p me old new s after l h.lives slots serves has_slots (subst (λ y. SlotFits y o after) (sym here.last) h.fits);
        lives = h.lives;
        back = h.back;
      }

  -- one more
  last_begun : (xs : List Incarnation) (x : Incarnation) (d : Doing Actor)
      → all_begun (model_of p) p.wiring me (xs ++ x ∷ []) d ≡ begun (model_of p) p.wiring me x (all_begun (model_of p) p.wiring me xs d)
  last_begun [] x d = refl
  last_begun (y ∷ ys) x d = last_begun ys x (begun (model_of p) p.wiring me y d)

  pub more_begun : (xs : List Incarnation) (x : Incarnation) (a b c : Actors) (u v w : Output)
      → Moves (all_begun (model_of p) p.wiring me xs) p me a u b v → Moves (begun (model_of p) p.wiring me x) p me b v c w
      → Moves (all_begun (model_of p) p.wiring me (xs ++ x ∷ [])) p me a u c w
  more_begun xs x a b c u v w h k =
      same_moves _ (all_begun (model_of p) p.wiring me (xs ++ x ∷ [])) a c u w (last_begun xs x)
      (then_moves (all_begun (model_of p) p.wiring me xs) (begun (model_of p) p.wiring me x) a b c u v w h k)

  -- ---- an actor is gone

  pub goes_down : (old new : Actors) (x : Incarnation) (first last : Output) → HasRow p.wiring me old.slots.items x.slot.0
      → new.services.frame ≡ old.services.frame → links_in new.services ≡ (end_of p.wiring me (links_in old.services) x).now
      → new.table ≡ old.table → new.slots.items ≡ set old.slots.items (own_below p.wiring me x.slot.0) vacant
      → last.messages ≡ first.messages ++ (end_of p.wiring me (links_in old.services) x).sent → last.back ≡ first.back
      → last.notes ≡ first.notes ++ notes.Down x (length (slot_at p.wiring me old.slots.items x.slot.0).deferred) ∷ []
      → HasSlots p me old → Moves (gone p.wiring me x) p me old first new last
  unfolding body_of
  goes_down old new x first last l frame links table slots sent back told has_slots =
      let s = x.slot.0 in
      let b = body_of p me old in
      let r = end_of p.wiring me (links_in old.services) x in
      let lives : lives_of new ≡ lives_of old = ap (λ (f : FrameState). (frame_in f).lives) frame in
      let body : slot_body (frame_in old.services.frame) r.now b s vacant ≡ body_of p me new =
      ap (λ (f : FrameState). slot_body (frame_in f) r.now b s vacant) (sym frame)
      ∙ ap (λ (k : Links). slot_body (frame_in new.services.frame) k b s vacant) (sym links)
      ∙ sym (body_set p me old new s vacant l table slots) in
      let serves : Serves p.wiring me new.services = record {
        fits = subst (IsFrameOf p.wiring) (sym frame) has_slots.serves.fits;
        owner = ap (λ (f : FrameState). f.me.0) frame ∙ has_slots.serves.owner;
      } in
      record {
        on = λ held. (held, same_doing body (sym sent) (sym back) (sym told) held);
        has_slots = has_slots_set p me old new s vacant l lives slots serves has_slots (record { of = tt; tables = tt; kept = All-nil IsForActors });
        lives = lives;
        back = λ all. subst (λ (ms : List Msg). All IsForActors ms) (sym back) all;
      }

  last_gone : (t : Wiring) (xs : List Incarnation) (x : Incarnation) (d : Doing Actor) → all_gone t me (xs ++ x ∷ []) d ≡ gone t me x (all_gone t me xs d)
  last_gone t [] x d = refl
  last_gone t (y ∷ ys) x d = last_gone t ys x (gone t me y d)

  pub more_gone : (xs : List Incarnation) (x : Incarnation) (a b c : Actors) (u v w : Output)
      → Moves (all_gone p.wiring me xs) p me a u b v → Moves (gone p.wiring me x) p me b v c w
      → Moves (all_gone p.wiring me (xs ++ x ∷ [])) p me a u c w
  more_gone xs x a b c u v w h k =
      same_moves _ (all_gone p.wiring me (xs ++ x ∷ [])) a c u w (last_gone p.wiring xs x)
      (then_moves (all_gone p.wiring me xs) (gone p.wiring me x) a b c u v w h k)
