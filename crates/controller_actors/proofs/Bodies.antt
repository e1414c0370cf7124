-- A slot that changes, on the body that the actors are.
use Rattle.std.proofs.Common.{◌≡◌, ℕ, ◌||◌, Bool, true, false, List, length, set, Option, refl, sym, ap, ◌∙◌, subst, length-set, inl, inr}
use Rattle.std.specs.List.{list_any}
use Rattle.std.proofs.Math.Path.{fun_ext}
use Rattle.std.proofs.lemmas.Bool.{cases_eq, ne_eqb}
use Rattle.room_kinds.specs.declared.message.Msg.{Msg}
use Rattle.room_kinds.specs.declared.numbers.Incarnation.{Incarnation}
use Rattle.room_wiring.specs.declared.tables.Tables.{Tables as Wiring}
use Rattle.actor_duties.specs.Words.{updated}
use Rattle.actor_duties.specs.Lives.{last_of}
use Rattle.actor_duties.specs.State.{Frame, Lives, Links, NameTable}
use Rattle.actor_world.specs.Body.{Body}
use Rattle.frame_lives.proofs.Rows.{updated_here, updated_else, updated_same}
use Rattle.frame_service.specs.State.{frame_in}
use Rattle.chart_behaviour.specs.ModelCharts.{Actor, tables_at}
use Rattle.controller_actors.specs.declared.actor_slots.actor_slot.ActorSlot.{ActorSlot}
use Rattle.controller_actors.specs.actor_slots.Occupants.{actor_in}
use Rattle.controller_actors.specs.actor_slots.Slots.{SlotFits, slot_body}
use Rattle.controller_actors.specs.declared.plant.Plant.{Plant}
use Rattle.controller_actors.specs.declared.actors.Actors.{Actors}
use Rattle.controller_actors.specs.Served.{Serves, links_in}
use Rattle.controller_actors.specs.Rows.{own_below}
use Rattle.controller_actors.specs.Bodies.{HasSlots, body_of, is_in, lives_of, slot_at, vacant}
use Rattle.controller_actors.specs.Steps.{IsVacated, StayEmpty}
use Rattle.controller_actors.proofs.OwnRows.{HasRow, set_same, set_other}

same_body : (f : Frame) (l : Links) {table table' : NameTable} {machines machines' : ℕ → Option Actor} {deferred deferred' : ℕ → List Msg}
    → table ≡ table' → machines ≡ machines' → deferred ≡ deferred'
    → ◌≡◌ {A = Body Actor}
    (record { frame = f; links = l; table = table; machines = machines; deferred = deferred })
    (record { frame = f; links = l; table = table'; machines = machines'; deferred = deferred' })
same_body f l t p q = cc

-- slots of which one is another, as a function of the slot
slot_set : {A : Type 0} (field : ActorSlot → A) (t : Wiring) (me : ℕ) (slots : List ActorSlot) (s : ℕ) (actor_slot : ActorSlot) → HasRow t me slots s
    → (λ n. field (slot_at t me (set slots (own_below t me s) actor_slot) n)) ≡ updated (λ n. field (slot_at t me slots n)) s (field actor_slot)
slot_set {A} field t me slots s actor_slot l = fun_ext (λ n.
    elim (cases_eq n s) [
      | inl e ↦
          ap (λ m. field (slot_at t me (set slots (own_below t me s) actor_slot) m)) e ∙ ap field (set_same t me slots s actor_slot l)
          ∙ sym (updated_here (λ m. field (slot_at t me slots m)) s n (field actor_slot) e)
      | inr other ↦ ap field (set_other t me slots s n actor_slot l other) ∙ sym (updated_else (λ m. field (slot_at t me slots m)) s n (field actor_slot) other)
    ])

module _ (p : Plant) (me : ℕ) where
  -- the body with what stands in a slot anyway
  pub body_same : (a : Actors) (s : ℕ) → body_of p me a ≡ slot_body (frame_in a.services.frame) (links_in a.services) (body_of p me a) s (slot_at p.wiring me a.slots.items s)
  unfolding body_of
  body_same a s =
      same_body (frame_in a.services.frame) (links_in a.services) refl
      (sym (updated_same (λ n. actor_in (slot_at p.wiring me a.slots.items n).occupant) s (actor_in (slot_at p.wiring me a.slots.items s).occupant) refl))
      (sym (updated_same (λ n. (slot_at p.wiring me a.slots.items n).deferred) s (slot_at p.wiring me a.slots.items s).deferred refl))

  -- the body after a slot has changed
  pub body_set : (old new : Actors) (s : ℕ) (actor_slot : ActorSlot) → HasRow p.wiring me old.slots.items s → new.table ≡ old.table → new.slots.items ≡ set old.slots.items (own_below p.wiring me s) actor_slot
      → body_of p me new ≡ slot_body (frame_in new.services.frame) (links_in new.services) (body_of p me old) s actor_slot
  unfolding body_of
  body_set old new s actor_slot l table slots =
      same_body (frame_in new.services.frame) (links_in new.services) table
      (ap (λ (xs : List ActorSlot). λ n. actor_in (slot_at p.wiring me xs n).occupant) slots ∙ slot_set (λ (x : ActorSlot). actor_in x.occupant) p.wiring me old.slots.items s actor_slot l)
      (ap (λ (xs : List ActorSlot). λ n. (slot_at p.wiring me xs n).deferred) slots ∙ slot_set (λ (x : ActorSlot). x.deferred) p.wiring me old.slots.items s actor_slot l)

  -- the actors are still those of the controller
  pub has_slots_set : (old new : Actors) (s : ℕ) (actor_slot : ActorSlot) → HasRow p.wiring me old.slots.items s → lives_of new ≡ lives_of old → new.slots.items ≡ set old.slots.items (own_below p.wiring me s) actor_slot
      → Serves p.wiring me new.services → HasSlots p me old → SlotFits (last_of (lives_of old) s) (tables_at p.wiring p.tables.items s) actor_slot → HasSlots p me new
  has_slots_set old new s actor_slot l lives slots serves has_slots fits = record {
    serves = serves;
    each = λ n.
        subst (λ (v : Lives). SlotFits (last_of v n) (tables_at p.wiring p.tables.items n) (slot_at p.wiring me new.slots.items n)) (sym lives)
        (subst (λ (xs : List ActorSlot). SlotFits (last_of (lives_of old) n) (tables_at p.wiring p.tables.items n) (slot_at p.wiring me xs n)) (sym slots)
        (elim (cases_eq n s) [
          | inl e ↦
              subst (λ m. SlotFits (last_of (lives_of old) m) (tables_at p.wiring p.tables.items m) (slot_at p.wiring me (set old.slots.items (own_below p.wiring me s) actor_slot) m)) (sym e)
              (subst (λ (x : ActorSlot). SlotFits (last_of (lives_of old) s) (tables_at p.wiring p.tables.items s) x) (sym (set_same p.wiring me old.slots.items s actor_slot l)) fits)
          | inr other ↦
              subst (λ (x : ActorSlot). SlotFits (last_of (lives_of old) n) (tables_at p.wiring p.tables.items n) x) (sym (set_other p.wiring me old.slots.items s n actor_slot l other)) (has_slots.each n)
        ]));
    count = ap length slots ∙ length-set old.slots.items (own_below p.wiring me s) actor_slot ∙ has_slots.count;
  }

  -- a slot where an actor lives has changed
  pub empty_set : (old new : Actors) (s : ℕ) (actor_slot : ActorSlot) → HasRow p.wiring me old.slots.items s → lives_of new ≡ lives_of old
      → new.slots.items ≡ set old.slots.items (own_below p.wiring me s) actor_slot → (lives_of old).lives s ≡ true
      → StayEmpty p me old new
  empty_set old new s actor_slot l lives slots live = λ gone h n dead out.
      let dead' : (lives_of old).lives n ≡ false = sym (ap (λ (v : Lives). v.lives n) lives) ∙ dead in
      ap (λ (xs : List ActorSlot). (slot_at p.wiring me xs n).occupant) slots
      ∙ elim (cases_eq n s) [
        | inl e ↦ absurd (let no : true ≡ false = sym live ∙ sym (ap (lives_of old).lives e) ∙ dead' in cc)
        | inr other ↦ ap (λ (x : ActorSlot). x.occupant) (set_other p.wiring me old.slots.items s n actor_slot l other) ∙ h n dead' out
      ]

  -- nobody stands in a slot any more
  pub empty_vacated : (old new : Actors) (x : Incarnation) → HasRow p.wiring me old.slots.items x.slot.0 → lives_of new ≡ lives_of old
      → new.slots.items ≡ set old.slots.items (own_below p.wiring me x.slot.0) vacant
      → IsVacated p me x old new
  empty_vacated old new x l lives slots = λ rest h n dead out.
      let dead' : (lives_of old).lives n ≡ false = sym (ap (λ (v : Lives). v.lives n) lives) ∙ dead in
      ap (λ (xs : List ActorSlot). (slot_at p.wiring me xs n).occupant) slots
      ∙ elim (cases_eq n x.slot.0) [
        | inl e ↦
            ap (λ m. (slot_at p.wiring me (set old.slots.items (own_below p.wiring me x.slot.0) vacant) m).occupant) e
            ∙ ap (λ (y : ActorSlot). y.occupant) (set_same p.wiring me old.slots.items x.slot.0 vacant l)
        | inr other ↦
            ap (λ (y : ActorSlot). y.occupant) (set_other p.wiring me old.slots.items x.slot.0 n vacant l other)
            ∙ h n dead' (ap (λ (b : Bool). b || list_any (is_in n) rest) (ne_eqb x.slot.0 n (λ e. other (sym e))) ∙ out)
      ]
