-- The starts of a controller's actors, one after another.
use Rattle.std.proofs.Common.{◌≡◌, ℕ, ◌+◌, Bool, true, false, cond, List, [], ◌∷◌, ◌++◌, map, filter, length, set, replicate, refl, sym, ap, ◌∙◌, subst}
use Rattle.std.proofs.Math.Path.{fun_ext}
use Rattle.std.specs.List.{range_with_len}
use Rattle.std.proofs.lemmas.Bool.{and_parts}
use Rattle.std.proofs.lemmas.List.{length-replicate, map-append}
use Rattle.std.proofs.lemmas.List.Elements.{All-nil, filter-append}
use Rattle.room_kinds.specs.declared.message.Msg.{Msg}
use Rattle.room_kinds.specs.declared.numbers.Incarnation.{Incarnation}
use Rattle.room_wiring.specs.declared.tables.Tables.{Tables as Wiring}
use Rattle.journal.specs.declared.entry.Entry.{Entry}
use Rattle.journal.specs.declared.entry.Entry.TheVariants as entry
use Rattle.actor_duties.specs.Words.{incarnation, is_own}
use Rattle.actor_duties.specs.Lives.{last_of}
use Rattle.actor_duties.specs.State.{Frame, Lives, Links, NameTable}
use Rattle.actor_world.specs.Behaviour.{Behaviour}
use Rattle.actor_world.specs.Body.{Body, Doing}
use Rattle.actor_world.specs.Start.{Starting as WorldStarting, all_started, started, starting, first_state, start_entries, first_body, first_frame, first_lives, first_links, first_actors, lives_from_start}
use Rattle.chart_behaviour.specs.ModelCharts.{Actor, tables_at, begins, state_number}
use Rattle.controller_actors.proofs.actor_commands.command_sends.Broadcasting.{range-more}
use Rattle.controller_mail.specs.MailState.{IsForActors}
use Rattle.frame_service.specs.State.{frame_in}
use Rattle.controller_actors.specs.Served.{Serves, links_in}
use Rattle.controller_actors.specs.declared.actor_slots.actor_slot.ActorSlot.{ActorSlot}
use Rattle.controller_actors.specs.declared.actor_commands.output.Output.{Output}
use Rattle.controller_actors.specs.actor_slots.Occupants.{actor_in}
use Rattle.controller_actors.specs.actor_slots.Slots.{SlotBegins, SlotFits, slot_body, entered}
use Rattle.controller_actors.specs.declared.plant.Plant.{Plant}
use Rattle.controller_actors.specs.declared.actors.Actors.{Actors}
use Rattle.controller_actors.specs.declared.start.Starting.{Starting}
use Rattle.controller_actors.specs.Plants.{model_of}
use Rattle.controller_actors.specs.Rows.{own_below}
use Rattle.controller_actors.specs.Bodies.{HasSlots, body_of, lives_of, slot_at, vacant}
use Rattle.controller_actors.specs.Steps.{ActorsBegin, Starts, StartsIn, unstarted, is_first, first_below, first_in}
use Rattle.controller_actors.proofs.OwnRows.{HasRow, all_vacant}
use Rattle.controller_actors.proofs.Bodies.{body_same, body_set, has_slots_set, empty_set}

-- ---- one actor

module _ (p : Plant) (me : ℕ) where
  -- the actor of a slot began
  pub actors_begin : (old new : Actors) (s : ℕ) (before after : ActorSlot) (first last : Output) (n : ℕ) → HasRow p.wiring me old.slots.items s
      → before ≡ slot_at p.wiring me old.slots.items s → new.table ≡ old.table → new.slots.items ≡ set old.slots.items (own_below p.wiring me s) after → Serves p.wiring me new.services
      → SlotBegins p.wiring me (frame_in old.services.frame) (links_in old.services) (frame_in new.services.frame) (links_in new.services) (last_of (lives_of old) s) (tables_at p.wiring p.tables.items s) before after first last n
      → (lives_of old).lives s ≡ true → HasSlots p me old → ActorsBegin p me s old new first last n
  actors_begin old new s before after first last n l is table slots serves h live has_slots =
      let x = last_of (lives_of old) s in
      let o = tables_at p.wiring p.tables.items s in
      let f = frame_in old.services.frame in
      let b = body_of p me old in
      record {
        kept = h.kept;
        doing = λ notes held.
            ap (λ (c : Body Actor). entered p.wiring me x (begins x o) (record { body = c; sent = first.messages; back = first.back; notes = notes; kept = held }))
            (body_same p me old s ∙ ap (slot_body f (links_in old.services) b s) (sym is))
            ∙ h.doing b notes held
            ∙ ap (λ (c : Body Actor). record { body = c; sent = last.messages; back = last.back; notes = last.notes; kept = h.kept })
            (sym (body_set p me old new s after l table slots));
        state = h.state;
        has_slots = has_slots_set p me old new s after l h.lives slots serves has_slots h.fits;
        lives = h.lives;
        empty = empty_set p me old new s after l h.lives slots live;
      }

  last_started : (model : Behaviour Actor) (t : Wiring) (xs : List Incarnation) (x : Incarnation) (s : WorldStarting Actor)
      → all_started model t me (xs ++ x ∷ []) s ≡ started model t me (all_started model t me xs s) x
  last_started model t [] x s = refl
  last_started model t (first ∷ xs) x s = last_started model t xs x (started model t me s first)

  -- the start of an actor in the definitions
  started_is : (s : WorldStarting Actor) (x : Incarnation) → started (model_of p) p.wiring me s x
      ≡ (let after = entered p.wiring me x (begins x (tables_at p.wiring p.tables.items x.slot.0)) s.doing in
      record {
        doing = after;
        entries = s.entries ++ entry.Start x (state_number (begins x (tables_at p.wiring p.tables.items x.slot.0)).machine) after.notes ∷ [];
      })
  started_is s x = refl

  -- an actor has started after others
  pub starts_in : (slot : ℕ) (old new : Starting) (last : Output) (n : ℕ) → ActorsBegin p me slot old.actors new.actors old.output last n
      → new.output.messages ≡ last.messages → new.output.back ≡ last.back
      → new.entries ≡ old.entries ++ entry.Start (last_of (lives_of old.actors) slot) n last.notes ∷ []
      → StartsIn p me slot old new
  starts_in slot old new last n h sent back entries = record {
    on = λ xs s.
        let x = last_of (lives_of old.actors) slot in
        let o = tables_at p.wiring p.tables.items slot in
        let before : Doing Actor = record { body = body_of p me old.actors; sent = old.output.messages; back = old.output.back; notes = s.notes; kept = s.kept } in
        record {
          notes = last.notes;
          kept = h.kept;
          started =
              last_started (model_of p) p.wiring xs x (unstarted p.wiring me)
              ∙ ap (λ (w : WorldStarting Actor). started (model_of p) p.wiring me w x) s.started
              ∙ started_is (record { doing = before; entries = old.entries }) x
              ∙ ap (λ (d : Doing Actor). record { doing = d; entries = old.entries ++ entry.Start x (state_number (begins x o).machine) d.notes ∷ [] }) (h.doing s.notes s.kept)
              ∙ ap (λ (k : ℕ). record {
                doing = record { body = body_of p me new.actors; sent = last.messages; back = last.back; notes = last.notes; kept = h.kept };
                entries = old.entries ++ entry.Start x k last.notes ∷ [];
              }) (sym h.state)
              ∙ ap (λ (ms : List Msg). record {
                doing = record { body = body_of p me new.actors; sent = ms; back = last.back; notes = last.notes; kept = h.kept };
                entries = old.entries ++ entry.Start x n last.notes ∷ [];
              }) (sym sent)
              ∙ ap (λ (ms : List Msg). record {
                doing = record { body = body_of p me new.actors; sent = new.output.messages; back = ms; notes = last.notes; kept = h.kept };
                entries = old.entries ++ entry.Start x n last.notes ∷ [];
              }) (sym back)
              ∙ ap (λ (es : List Entry). record {
                doing = record { body = body_of p me new.actors; sent = new.output.messages; back = new.output.back; notes = last.notes; kept = h.kept };
                entries = es;
              }) (sym entries);
          well = record { has_slots = h.has_slots; empty = h.empty [] s.well.empty };
          lives = h.lives ∙ s.lives;
        };
  }

  -- ---- the slots in order

  pub first_none : first_below p.wiring me 0 ≡ []
  unfolding first_below
  first_none = refl

  pub first_more : (n : ℕ) → first_below p.wiring me n ++ first_in p.wiring me n ≡ first_below p.wiring me (n + 1)
  unfolding first_below
  first_more n =
      ap (λ (ys : List Incarnation). first_below p.wiring me n ++ ys) (one (is_first p.wiring me n))
      ∙ sym (map-append (λ s. incarnation s 1) (filter (is_first p.wiring me) (range_with_len 0 n)) (filter (is_first p.wiring me) (n ∷ [])))
      ∙ ap (map (λ s. incarnation s 1)) (sym (filter-append (is_first p.wiring me) (range_with_len 0 n) (n ∷ [])) ∙ ap (filter (is_first p.wiring me)) (sym (range-more n)))
    where
      one : (b : Bool) → cond b (incarnation n 1 ∷ []) [] ≡ map (λ s. incarnation s 1) (cond b (n ∷ []) [])
      one true = refl
      one false = refl

  pub first_all : first_below p.wiring me (length p.wiring.slots) ≡ first_actors p.wiring me
  unfolding first_below first_actors
  first_all = refl

  -- who lives in a slot at the start
  module _ (l : Lives) (first : l ≡ first_lives p.wiring me) (s : ℕ) where
    lives_first : l.lives s ≡ is_first p.wiring me s
    lives_first = ap (λ (k : Lives). k.lives s) first

    pub first_there : l.lives s ≡ true → first_in p.wiring me s ≡ last_of l s ∷ []
    first_there e =
        let here : is_first p.wiring me s ≡ true = sym lives_first ∙ e in
        let generation : l.generation s ≡ 1 = ap (λ (k : Lives). k.generation s) first ∙ ap (λ b. cond b 1 0) here in
        ap (λ b. cond b (incarnation s 1 ∷ []) []) here ∙ ap (λ g. incarnation s g ∷ []) (sym generation)

    pub first_own : l.lives s ≡ true → is_own p.wiring me s ≡ true
    first_own e = (and_parts (is_own p.wiring me s) (lives_from_start p.wiring s) (sym lives_first ∙ e)).0

    pub first_nobody : l.lives s ≡ false → first_in p.wiring me s ≡ []
    first_nobody e = ap (λ b. cond b (incarnation s 1 ∷ []) []) (sym lives_first ∙ e)

  -- ---- before and after

  same_start : {b c : Body Actor} {sent sent' back back' : List Msg} {entries entries' : List Entry} → b ≡ c → sent ≡ sent' → back ≡ back' → entries ≡ entries'
      → ◌≡◌ {A = WorldStarting Actor}
      (record { doing = record { body = b; sent = sent; back = back; notes = []; kept = false }; entries = entries })
      (record { doing = record { body = c; sent = sent'; back = back'; notes = []; kept = false }; entries = entries' })
  same_start e f g h = cc

  -- the body of actors of which none has started
  body_none : (a : Actors) → frame_in a.services.frame ≡ first_frame p.wiring me → links_in a.services ≡ first_links → a.table ≡ []
      → a.slots.items ≡ replicate (own_below p.wiring me (length p.wiring.slots)) vacant → first_body p.wiring me ≡ body_of p me a
  unfolding body_of
  body_none a frame links table slots =
      sym (ap (λ (f : Frame). record { frame = f; links = links_in a.services; table = a.table; machines = λ s. actor_in (slot_at p.wiring me a.slots.items s).occupant; deferred = λ s. (slot_at p.wiring me a.slots.items s).deferred }) frame
      ∙ ap (λ (l : Links). record { frame = first_frame p.wiring me; links = l; table = a.table; machines = λ s. actor_in (slot_at p.wiring me a.slots.items s).occupant; deferred = λ s. (slot_at p.wiring me a.slots.items s).deferred }) links
      ∙ ap (λ (t : NameTable). record { frame = first_frame p.wiring me; links = first_links; table = t; machines = λ s. actor_in (slot_at p.wiring me a.slots.items s).occupant; deferred = λ s. (slot_at p.wiring me a.slots.items s).deferred }) table
      ∙ ap (λ (f : ℕ → ActorSlot). record { frame = first_frame p.wiring me; links = first_links; table = []; machines = λ s. actor_in (f s).occupant; deferred = λ s. (f s).deferred })
      (fun_ext (λ s. ap (λ (xs : List ActorSlot). slot_at p.wiring me xs s) slots ∙ all_vacant p.wiring me (own_below p.wiring me (length p.wiring.slots)) s)))

  -- nobody has started
  pub starts_none : (s : Starting) → Serves p.wiring me s.actors.services → frame_in s.actors.services.frame ≡ first_frame p.wiring me → links_in s.actors.services ≡ first_links → s.actors.table ≡ []
      → s.actors.slots.items ≡ replicate (own_below p.wiring me (length p.wiring.slots)) vacant → s.output.messages ≡ [] → s.output.back ≡ [] → s.entries ≡ [] → Starts p me [] s
  starts_none s serves frame links table slots sent back entries =
      let nobody : (n : ℕ) → slot_at p.wiring me s.actors.slots.items n ≡ vacant =
      λ n. ap (λ (xs : List ActorSlot). slot_at p.wiring me xs n) slots ∙ all_vacant p.wiring me (own_below p.wiring me (length p.wiring.slots)) n in
      record {
        notes = [];
        kept = false;
        started = same_start (body_none s.actors frame links table slots) (sym sent) (sym back) (sym entries);
        well = record {
          has_slots = record {
            serves = serves;
            each = λ n.
                subst (λ (x : ActorSlot). SlotFits (last_of (lives_of s.actors) n) (tables_at p.wiring p.tables.items n) x)
                (sym (nobody n)) (record { of = tt; tables = tt; kept = All-nil IsForActors });
            count = ap length slots ∙ length-replicate (own_below p.wiring me (length p.wiring.slots)) vacant;
          };
          empty = λ n dead out. ap (λ (x : ActorSlot). x.occupant) (nobody n);
        };
        lives = ap (λ (f : Frame). f.lives) frame;
      }

  -- all have
  module _ (s : Starting) (h : Starts p me (first_below p.wiring me (length p.wiring.slots)) s) where
    whole : starting (model_of p) p.wiring me ≡ record { doing = record { body = body_of p me s.actors; sent = s.output.messages; back = s.output.back; notes = h.notes; kept = h.kept }; entries = s.entries }
    unfolding starting
    whole = ap (λ (xs : List Incarnation). all_started (model_of p) p.wiring me xs (unstarted p.wiring me)) (sym first_all) ∙ h.started

    pub whole_state : first_state (model_of p) p.wiring me ≡ record { clock = 0; turns = 0; pending = λ q. []; outbox = s.output.messages; body = body_of p me s.actors }
    whole_state = ap (λ (w : WorldStarting Actor). record { clock = 0; turns = 0; pending = λ q. []; outbox = w.doing.sent; body = w.doing.body }) whole

    pub whole_entries : s.entries ≡ start_entries (model_of p) p.wiring me
    whole_entries = sym (ap (λ (w : WorldStarting Actor). w.entries) whole)
