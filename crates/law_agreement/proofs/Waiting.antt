-- An import place that is on the way waits for an answer: what it asked for, or the answer, is on its way.
-- So in a quiet world none waits.
use Rattle.std.proofs.Common.{◌≡◌, ℕ, ◌+◌, ◌==◌, ◌&&◌, ◌||◌, Bool, true, false, not, map, if◌then◌else◌, cond, List, [], ◌∷◌, ◌++◌, filter, Option, Some, None, ℤ, pos, refl, sym, ap, ◌∙◌, subst, eqb-true, eq-eqb, append-nil, arith, ◌⊎◌, inl, inr}
use Rattle.std.specs.Option.{option_map_or}
use Rattle.std.specs.List.{Contains}
use Rattle.std.proofs.lemmas.Bool.{and_parts, eqb-false}
use Rattle.std.proofs.lemmas.List.Elements.{Contains-append_right}
use Rattle.room_kinds.specs.declared.message.Msg.{Msg}
use Rattle.room_kinds.specs.declared.numbers.Incarnation.{Incarnation}
use Rattle.room_kinds.specs.declared.numbers.Stamp.{Stamp}
use Rattle.room_kinds.specs.declared.numbers.Endpoint.{Endpoint}
use Rattle.room_kinds.specs.declared.system.SysKind.{SysKind}
use Rattle.room_kinds.specs.declared.system.SysKind.TheVariants as kinds
use Rattle.room_kinds.specs.declared.command.FrameCommand.{FrameCommand}
use Rattle.room_kinds.specs.declared.command.FrameCommand.TheVariants as frames
use Rattle.journal.specs.declared.entry.Entry.{Entry}
use Rattle.journal.specs.declared.entry.Entry.TheVariants as entry
use Rattle.room_wiring.specs.declared.tables.Tables.{Tables}
use Rattle.room_wiring.specs.declared.slot.Slot.{Slot}
use Rattle.room_wiring.specs.Slots.{slot_at}
use Rattle.actor_merge.specs.Mail.{lane, event_of}
use Rattle.actor_merge.specs.Parties.{State, Line, Taken, put, stamped, next_of, fetch, turn, turned, post}
use Rattle.actor_merge.specs.World.{World, Placed, IsQuiet, start, Runs, controller_does}
use Rattle.actor_merge.proofs.Back.{Happened, controller, environment, happened, own_of}
use Rattle.actor_duties.specs.Words.{updated, incarnation, frame_at, frame_of, whose, is_incarnation, is_own, is_home, is_fixed, is_optional, is_imported, is_fixed_kind, is_optional_kind, is_imported_kind, container_of, owner_of, part_at, of_id}
use Rattle.actor_duties.specs.State.{Lives, Frame, ImportPlace, Empty, Asking, Held, Leaving, Done}
use Rattle.actor_duties.specs.Messages.{told_of, Refused, Code, code_number, is_code, system, reply, coded, StaleId, PortTaken, NotHere, Occupied}
use Rattle.actor_duties.specs.Lives.{is_live, last_of, answered, counts_as_live, comes_up, is_made_with, lives_made, lives_ended, create, made, part_make}
use Rattle.actor_duties.specs.Imports.{container_frame, is_container_live, is_asking, is_port_taken, heard, import, import_done, import_refused, import_ended, deport, deport_done}
use Rattle.actor_duties.specs.Frame.{plainly, with_number, with_plugs, with_places, FrameDone, with_lives, end_set_ended, frame_ended, is_place_ended, destroy, part_end, is_forth, is_back, frame_duty_of, frame_duty_from, frame_duty, import_code, import_with, import_into, import_command, deport_from, deport_of, deport_command, frame_request}
use Rattle.actor_world.specs.Behaviour.{Behaviour}
use Rattle.actor_world.specs.Body.{Body}
use Rattle.actor_world.specs.Turns.{with_frame, treat}
use Rattle.actor_world.specs.Start.{first_frame, first_state, plant_of}
use Rattle.actor_world.specs.Directories.{IsOpen, AreOpen}
use Rattle.service_messages.proofs.slot_runs.RunLemmas.{not_true_false}
use Rattle.law_agreement.specs.Trails.{from_a, system_to, is_system_to, contents, trail, taken_from, leaves, comes}
use Rattle.law_agreement.specs.Imports.{home_of, Wait, Ask, Leave, place_for, kind_for, sent_for, answer, answers, IsAwaited, PlacesAwait, PlacesSettle, OwnersAreThere}
use Rattle.law_agreement.proofs.Duties.{by_plainly, by_number, by_natural}
use Rattle.law_agreement.proofs.Moving.{kept_by, from_one, post_from, turn_from, world_after, controller_moves}
use Rattle.law_agreement.proofs.Agreeing.{IsForetold, start_foretold, controller_foretold, environment_foretold, environment_moves, world_then, fresh_trail, quiet_trail}
use Rattle.law_agreement.proofs.Walking.{IsHere, IsWalk, treat_walks, start_walks}
use Rattle.law_agreement.proofs.Routing.{part_of_at}
use Rattle.law_agreement.proofs.Keeping.{LendsSo, first_lends, duty_lent, request_lends, AllLend, step_lends, start_lends}

-- a message stands in a list
abbrev pub Has : Msg → List Msg → Type 0
Has m [] = ⊥
Has m (n ∷ ns) = (n ≡ m) ⊎ Has m ns

-- it is an element of it
has_contains : (m : Msg) (ms : List Msg) → Has m ms → Contains ms m
has_contains m [] h = absurd h
has_contains m (n ∷ ns) (inl e) = (0, omega arith, e)
has_contains m (n ∷ ns) (inr h) = Contains-append_right (n ∷ []) ns m (has_contains m ns h)

has_left : (m : Msg) (a b : List Msg) → Has m a → Has m (a ++ b)
has_left m [] b h = absurd h
has_left m (n ∷ a) b (inl e) = inl e
has_left m (n ∷ a) b (inr h) = inr (has_left m a b h)

has_right : (m : Msg) (a b : List Msg) → Has m b → Has m (a ++ b)
has_right m [] b h = h
has_right m (n ∷ a) b h = inr (has_right m a b h)

has_cases : (m : Msg) (a b : List Msg) → Has m (a ++ b) → Has m a ⊎ Has m b
has_cases m [] b h = inr h
has_cases m (n ∷ a) b (inl e) = inl (inl e)
has_cases m (n ∷ a) b (inr h) = go (has_cases m a b h)
  where
    go : Has m a ⊎ Has m b → Has m (n ∷ a) ⊎ Has m b
    go (inl k) = inl (inr k)
    go (inr k) = inr k

-- what is sent to a controller comes into the trail to it
has_system : (a b : ℕ) (m : Msg) (ms : List Msg) → stamped a 0 m ≡ m → is_system_to b m ≡ true → Has m ms → Has m (system_to a b ms)
unfolding system_to contents
has_system a b m [] same to h = absurd h
has_system a b m (n ∷ ms) same to h = go (is_system_to b n) refl h (has_system a b m ms same to)
  where
    go : (z : Bool) → is_system_to b n ≡ z → (n ≡ m) ⊎ Has m ms → (Has m ms → Has m (map (stamped a 0) (filter (is_system_to b) ms)))
        → Has m (map (stamped a 0) (cond z (n ∷ filter (is_system_to b) ms) (filter (is_system_to b) ms)))
    go true e (inl k) rest = inl (ap (stamped a 0) k ∙ same)
    go true e (inr k) rest = inr (rest k)
    go false e (inl k) rest = absurd (not_true_false (is_system_to b m) to (subst (λ (z : Msg). is_system_to b z ≡ false) k e))
    go false e (inr k) rest = rest k

-- one of the answers is among these messages
abbrev Answered : Tables → Incarnation → Incarnation → Wait → List Msg → Type 0
Answered t i h w ms = (m : Msg) × Has m (answers t w i h) × Has m ms

-- a message as it stands in a pending list
abbrev posted : Msg → ℕ → Stamp → Msg
posted m a stamp = record m { from = record { 0 = a }; stamp = stamp }

-- what lives stands in its generation
pub live_generation : (l : Lives) (x : Incarnation) → is_live l x ≡ true → l.generation x.slot.0 ≡ x.generation.0
live_generation l x e = eqb-true (l.generation x.slot.0) x.generation.0 (and_parts (l.lives x.slot.0) (l.generation x.slot.0 == x.generation.0) e).1

-- what comes up was vacant
pub vacant : (t : Tables) (me o c : ℕ) (l : Lives) → comes_up t me l o c ≡ true → l.lives c ≡ false
unfolding comes_up
vacant t me o c l up = denied (l.lives c) (and_parts (is_own t me c) (not (l.lives c)) (and_parts (is_made_with t o c) (is_own t me c && not (l.lives c)) up).1).1
  where
    denied : (b : Bool) → not b ≡ true → b ≡ false
    denied true q = absurd cc
    denied false q = refl

module _ (t : Tables) (wait : Wait) (s c : ℕ) (imported : is_imported t s ≡ true) (part : container_of t s ≡ Some c) (h : Incarnation) where
  -- the import place in the generation that its container has here
  abbrev at : Frame → Incarnation
  at f = incarnation s (f.lives.generation c)

  -- who waits after a duty waited before it
  abbrev Keeps : Frame → Frame → Type 0
  Keeps f g = g.places s ≡ place_for wait h → (f.places s ≡ place_for wait h) × (g.lives.generation c ≡ f.lives.generation c)

  -- a container that isn't live has no place that waits
  dead_apart : (f : Frame) → LendsSo t f → f.lives.lives c ≡ false → f.places s ≡ place_for wait h → ⊥
  dead_apart f k dead e = go wait (sym (k.tied.empty s c imported part dead) ∙ e)
    where
      go : (w : Wait) → Empty ≡ place_for w h → ⊥
      go Ask q = absurd cc
      go Leave q = absurd cc

  empty_apart : (A : Type 0) (w : Wait) → Empty ≡ place_for w h → A
  empty_apart A Ask q = absurd cc
  empty_apart A Leave q = absurd cc

  held_apart : (A : Type 0) (w : Wait) (x : Incarnation) → Held x ≡ place_for w h → A
  held_apart A Ask x q = absurd cc
  held_apart A Leave x q = absurd cc

  module _ (me : ℕ) (f : Frame) (k : LendsSo t f) where
    abbrev KeepsIn : FrameDone → Type 0
    KeepsIn r = Keeps f r.frame

    same_keeps : Keeps f f
    same_keeps e = (e, refl)

    made_keeps : (o : ℕ) → Keeps f (record f { lives = lives_made t me o f.lives })
    unfolding lives_made
    made_keeps o e = (e, go (comes_up t me f.lives o c) refl)
      where
        go : (b : Bool) → comes_up t me f.lives o c ≡ b → ◌≡◌ {A = ℕ} (if b then f.lives.generation c + 1 else f.lives.generation c) (f.lives.generation c)
        go true up = absurd (dead_apart f k (vacant t me o c f.lives up) e)
        go false up = refl

    part_keeps : (o : ℕ) → KeepsIn (with_lives f (part_make t me f.lives o))
    unfolding part_make
    part_keeps o = made_keeps o

    create_keeps : (m : Msg) (o : ℕ) (x : Endpoint) → KeepsIn (with_lives f (create t me f.lives m o x))
    unfolding create made part_make
    create_keeps m o x = go (counts_as_live t me f.lives (whose x)) (f.lives.lives o)
      where
        go : (a b : Bool) → KeepsIn (with_lives f (
            if not a then answered f.lives (reply me m kinds.CreateRefused (frame_at o 0) x (coded NotHere))
            else if b then answered f.lives (reply me m kinds.CreateRefused (frame_at o 0) x (coded Occupied))
            else made t me f.lives m o x))
        go false b = same_keeps
        go true true = same_keeps
        go true false = made_keeps o

    ended_keeps : (o : ℕ) → Keeps f (frame_ended t me o f)
    unfolding frame_ended lives_ended
    ended_keeps o e = go (is_place_ended t me f.lives o s) e
      where
        go : (b : Bool) → (if b then Empty else f.places s) ≡ place_for wait h → (f.places s ≡ place_for wait h) × (f.lives.generation c ≡ f.lives.generation c)
        go true q = empty_apart _ wait q
        go false q = (q, refl)

    destroy_keeps : (m : Msg) (o : ℕ) (x : Endpoint) → KeepsIn (destroy t me f m o x)
    unfolding destroy end_set_ended
    destroy_keeps m o x = go (not (counts_as_live t me f.lives (whose x)) || not (f.lives.lives o))
      where
        go : (a : Bool) → KeepsIn (
            if a then record { frame = f; sent = []; made = []; ended = []; last = Some (reply me m kinds.DestroyDone (frame_at o 0) x (coded NotHere)) }
            else end_set_ended t me f o (Some (reply me m kinds.DestroyDone (frame_of (last_of f.lives o)) x (pos 0 ∷ []))))
        go true = same_keeps
        go false = ended_keeps o

    part_end_keeps : (o : ℕ) → KeepsIn (part_end t me f o)
    unfolding part_end end_set_ended
    part_end_keeps o = ended_keeps o

    abbrev DoneKeeps : Done (ℕ → ImportPlace) → Type 0
    DoneKeeps r = Keeps f (record f { places = r.now })

    heard_keeps : (i : Endpoint) (fits : Bool) (next : ImportPlace) (m : Msg) → ((A : Type 0) → next ≡ place_for wait h → A) → DoneKeeps (heard t f.lives f.places i fits next m)
    unfolding updated
    heard_keeps i fits next m other = go (is_container_live t f.lives i && fits)
      where
        at_place : (b : Bool) → (if b then next else f.places s) ≡ place_for wait h → (f.places s ≡ place_for wait h) × (f.lives.generation c ≡ f.lives.generation c)
        at_place true q = other _ q
        at_place false q = (q, refl)

        go : (b : Bool) → DoneKeeps (if b then record { now = updated f.places i.slot.0 next; sent = m ∷ [] } else record { now = f.places; sent = [] })
        go true = at_place (s == i.slot.0)
        go false = same_keeps

    done_keeps : (a b : Endpoint) → DoneKeeps (import_done t me f.lives f.places a b)
    unfolding import_done
    done_keeps a b = heard_keeps b _ (Held (whose a)) _ (λ A q. held_apart A wait (whose a) q)

    refused_keeps : (a b : Endpoint) (n : ℤ) → DoneKeeps (import_refused t me f.lives f.places a b n)
    unfolding import_refused
    refused_keeps a b n = heard_keeps b _ Empty _ (λ A q. empty_apart A wait q)

    gone_keeps : (a b : Endpoint) → DoneKeeps (import_ended t me f.lives f.places a b)
    unfolding import_ended
    gone_keeps a b = heard_keeps b _ Empty _ (λ A q. empty_apart A wait q)

    back_keeps : (a b : Endpoint) → DoneKeeps (deport_done t me f.lives f.places a b)
    unfolding deport_done
    back_keeps a b = heard_keeps b _ Empty _ (λ A q. empty_apart A wait q)

    duty_of_keeps : (m : Msg) (kind : SysKind) (a b : Endpoint) → KeepsIn (frame_duty_of t me f m kind a b)
    duty_of_keeps m kinds.Create a b = by_plainly t me f KeepsIn same_keeps _ m.payload _ (λ e. create_keeps m b.slot.0 a)
    duty_of_keeps m kinds.Destroy a b = by_plainly t me f KeepsIn same_keeps _ m.payload _ (λ e. destroy_keeps m b.slot.0 a)
    duty_of_keeps m kinds.CreateDone a b = by_plainly t me f KeepsIn same_keeps _ m.payload _ (λ e. same_keeps)
    duty_of_keeps m kinds.CreateRefused a b = by_number t me f KeepsIn same_keeps _ m.payload _ (λ n. same_keeps)
    duty_of_keeps m kinds.DestroyDone a b = by_number t me f KeepsIn same_keeps _ m.payload _ (λ n. by_natural t me f KeepsIn same_keeps n _ (λ k. same_keeps))
    duty_of_keeps m kinds.Import a b = by_plainly t me f KeepsIn same_keeps _ m.payload _ (λ e. same_keeps)
    duty_of_keeps m kinds.Deport a b = by_plainly t me f KeepsIn same_keeps _ m.payload _ (λ e. same_keeps)
    duty_of_keeps m kinds.ImportDone a b = by_plainly t me f KeepsIn same_keeps _ m.payload _ (λ e. done_keeps a b)
    duty_of_keeps m kinds.ImportRefused a b = by_number t me f KeepsIn same_keeps _ m.payload _ (λ n. refused_keeps a b n)
    duty_of_keeps m kinds.ImportEnded a b = by_plainly t me f KeepsIn same_keeps _ m.payload _ (λ e. gone_keeps a b)
    duty_of_keeps m kinds.DeportDone a b = by_plainly t me f KeepsIn same_keeps _ m.payload _ (λ e. back_keeps a b)
    duty_of_keeps m kinds.Announce a b = by_number t me f KeepsIn same_keeps _ m.payload _ (λ n. by_natural t me f KeepsIn same_keeps n _ (λ k. same_keeps))
    duty_of_keeps m kinds.Register a b = same_keeps
    duty_of_keeps m kinds.Withdraw a b = same_keeps
    duty_of_keeps m kinds.Bound a b = same_keeps
    duty_of_keeps m kinds.Ended a b = same_keeps
    duty_of_keeps m kinds.NameReply a b = same_keeps
    duty_of_keeps m kinds.PartMake a b = by_plainly t me f KeepsIn same_keeps _ m.payload _ (λ e. part_keeps a.slot.0)
    duty_of_keeps m kinds.PartEnd a b = by_plainly t me f KeepsIn same_keeps _ m.payload _ (λ e. part_end_keeps a.slot.0)

    duty_from_keeps : (m : Msg) (kind : SysKind) (o : Option Endpoint) → KeepsIn (frame_duty_from t me f m kind o)
    duty_from_keeps m kind None = same_keeps
    duty_from_keeps m kind (Some a) = duty_of_keeps m kind a m.target

    duty_keeps : (m : Msg) (kind : SysKind) → KeepsIn (frame_duty t me f kind m)
    unfolding frame_duty
    duty_keeps m kind = duty_from_keeps m kind m.source

  -- who waits after these messages waited before them, or has sent what it waits for
  abbrev Waits : ℕ → Frame → List Msg → Frame → Type 0
  Waits me f ms g =
      g.places s ≡ place_for wait h
      → ((f.places s ≡ place_for wait h) × (g.lives.generation c ≡ f.lives.generation c)) ⊎ Has (system me (owner_of t h.slot.0) (kind_for wait) (frame_of (at g)) (frame_of h) []) ms

  module _ (me : ℕ) where
    -- the place of an actor here, after a request of it
    abbrev AskedIn : Frame → Done (ℕ → ImportPlace) → Type 0
    AskedIn f r = Waits me f r.sent (record f { places = r.now })

    -- a place that is put on the way sends what it waits for
    put_waits : (f : Frame) (x : Incarnation) (i : ℕ) (w : Wait) (y : Incarnation) → container_of t i ≡ Some x.slot.0 → f.lives.generation x.slot.0 ≡ x.generation.0
        → AskedIn f (record { now = updated f.places i (place_for w y); sent = system me (owner_of t y.slot.0) (kind_for w) (frame_at i x.generation.0) (frame_of y) [] ∷ [] })
    unfolding updated
    put_waits f x i w y own gen = go (s == i) refl
      where
        there : s ≡ i → x.generation.0 ≡ f.lives.generation c
        there same =
            let one : Some x.slot.0 ≡ Some c = sym own ∙ ap (container_of t) (sym same) ∙ part in
            let slot : x.slot.0 ≡ c = cc in
            sym gen ∙ ap f.lives.generation slot

        meant : (v u : Wait) → place_for v y ≡ place_for u h → (v ≡ u) × (y ≡ h)
        meant Ask Ask q = (refl, cc)
        meant Leave Leave q = (refl, cc)
        meant Ask Leave q = absurd cc
        meant Leave Ask q = absurd cc

        go : (b : Bool) → (s == i) ≡ b → (if b then place_for w y else f.places s) ≡ place_for wait h
            → ((f.places s ≡ place_for wait h) × (f.lives.generation c ≡ f.lives.generation c))
            ⊎ Has (system me (owner_of t h.slot.0) (kind_for wait) (frame_of (at f)) (frame_of h) []) (system me (owner_of t y.slot.0) (kind_for w) (frame_at i x.generation.0) (frame_of y) [] ∷ [])
        go false e q = inl (q, refl)
        go true e q =
            let same : s ≡ i = eqb-true s i e in
            let m = meant w wait q in
            let gens : x.generation.0 ≡ f.lives.generation c = there same in
            inr (inl (
            ap (λ (v : Wait). system me (owner_of t y.slot.0) (kind_for v) (frame_at i x.generation.0) (frame_of y) []) m.0
            ∙ ap (λ (z : Incarnation). system me (owner_of t z.slot.0) (kind_for wait) (frame_at i x.generation.0) (frame_of z) []) m.1
            ∙ ap (λ (n : ℕ). system me (owner_of t h.slot.0) (kind_for wait) (frame_at n x.generation.0) (frame_of h) []) (sym same)
            ∙ ap (λ (n : ℕ). system me (owner_of t h.slot.0) (kind_for wait) (frame_at s n) (frame_of h) []) gens
            ))

    module _ (f : Frame) (x : Incarnation) (reference : ℕ) (index : ℤ) (gen : f.lives.generation x.slot.0 ≡ x.generation.0) where
      import_with_waits : (i : ℕ) → container_of t i ≡ Some x.slot.0 → (o : Option Incarnation) (code : Option Code) → AskedIn f (import_with t me f.places x reference index i o code)
      import_with_waits i own o (Some code) = λ q. inl (q, refl)
      import_with_waits i own None None = λ q. inl (q, refl)
      import_with_waits i own (Some y) None = put_waits f x i Ask y own gen

      import_into_waits : (id : ℤ) (o : Option ℕ) → ((i : ℕ) → o ≡ Some i → container_of t i ≡ Some x.slot.0) → AskedIn f (import_into t me f.places x reference index id o)
      import_into_waits id None own = λ q. inl (q, refl)
      import_into_waits id (Some i) own = import_with_waits i (own i refl) (of_id id) (import_code t f.places i (of_id id))

      deport_from_waits : (i : ℕ) → container_of t i ≡ Some x.slot.0 → (p : ImportPlace) → AskedIn f (deport_from t me f.places x reference index i p)
      deport_from_waits i own Empty = λ q. inl (q, refl)
      deport_from_waits i own (Asking y) = λ q. inl (q, refl)
      deport_from_waits i own (Leaving y) = λ q. inl (q, refl)
      deport_from_waits i own (Held y) = put_waits f x i Leave y own gen

      deport_of_waits : (o : Option ℕ) → ((i : ℕ) → o ≡ Some i → container_of t i ≡ Some x.slot.0) → AskedIn f (deport_of t me f.places x reference index o)
      deport_of_waits None own = λ q. inl (q, refl)
      deport_of_waits (Some i) own = deport_from_waits i (own i refl) (f.places i)

    request_waits : (f : Frame) (x : Incarnation) (k : FrameCommand) → IsHere t me f.lives x → Waits me f (frame_request t me f x k).sent (frame_request t me f x k).now
    unfolding import_command deport_command
    request_waits f x (frames.Incarnate reference index) here = λ q. inl (q, refl)
    request_waits f x (frames.Destroy reference index) here = λ q. inl (q, refl)
    request_waits f x (frames.Import reference index id) here =
        import_into_waits f x reference index (live_generation f.lives x here.1) id (part_at t x.slot.0 reference index) (λ i e. part_of_at t x.slot.0 reference index i e)
    request_waits f x (frames.Deport reference index) here =
        deport_of_waits f x reference index (live_generation f.lives x here.1) (part_at t x.slot.0 reference index) (λ i e. part_of_at t x.slot.0 reference index i e)

    -- one after another
    both_wait : (f g k : Frame) (a b : List Msg) → Waits me f a g → Waits me g b k → Waits me f (a ++ b) k
    both_wait f g k a b p q e = later (q e)
      where
        earlier : k.lives.generation c ≡ g.lives.generation c
            → ((f.places s ≡ place_for wait h) × (g.lives.generation c ≡ f.lives.generation c)) ⊎ Has (system me (owner_of t h.slot.0) (kind_for wait) (frame_of (at g)) (frame_of h) []) a
            → ((f.places s ≡ place_for wait h) × (k.lives.generation c ≡ f.lives.generation c)) ⊎ Has (system me (owner_of t h.slot.0) (kind_for wait) (frame_of (at k)) (frame_of h) []) (a ++ b)
        earlier same (inl r) = inl (r.0, same ∙ r.1)
        earlier same (inr r) =
            inr (has_left _ a b (subst (λ n. Has (system me (owner_of t h.slot.0) (kind_for wait) (frame_at s n) (frame_of h) []) a) (sym same) r))

        later : ((g.places s ≡ place_for wait h) × (k.lives.generation c ≡ g.lives.generation c)) ⊎ Has (system me (owner_of t h.slot.0) (kind_for wait) (frame_of (at k)) (frame_of h) []) b
            → ((f.places s ≡ place_for wait h) × (k.lives.generation c ≡ f.lives.generation c)) ⊎ Has (system me (owner_of t h.slot.0) (kind_for wait) (frame_of (at k)) (frame_of h) []) (a ++ b)
        later (inl r) = earlier r.1 (p r.0)
        later (inr r) = inr (has_right _ a b r)

    -- with it goes that each controller lends to the living
    WaitsSo : Frame → List Msg → Frame → Type 0
    WaitsSo f ms g = LendsSo t f → LendsSo t g × Waits me f ms g

    waits_so : IsWalk t me WaitsSo
    unfolding WaitsSo
    waits_so =
        record {
          two = λ f g k a b p q l. (let r = p l in let u = q r.0 in (u.0, both_wait f g k a b r.1 u.1));
          off = λ f ms p l. (l, (λ q. inl (q, refl)));
          request = λ f x k here l. (request_lends t me f x k here l, request_waits f x k here);
        }

    module _ {M : Type 0} (model : Behaviour M) (clear : IsOpen model) where
      treat_waits : (b : Body M) (m : Msg) → LendsSo t b.frame → Waits me b.frame (treat model t me b m).sent (treat model t me b m).body.frame
      unfolding WaitsSo
      treat_waits b m l =
          (treat_walks t me WaitsSo waits_so model clear b m
          (λ zero kind is k. (duty_lent t me b.frame m kind k, (λ q. inl (duty_keeps me b.frame k m kind q)))) l).1

      start_waits : Waits me (first_frame t me) (first_state model t me).outbox (first_state model t me).body.frame
      unfolding WaitsSo
      start_waits = (start_walks t me WaitsSo waits_so model clear (first_lends t me)).1

-- a slot that is imported, or one of homes, is its owner's
pub own_imported : (t : Tables) (s : ℕ) → is_imported t s ≡ true → is_own t (owner_of t s) s ≡ true
unfolding is_imported is_own owner_of
own_imported t s h = go (slot_at t s) h
  where
    go : (o : Option Slot) → option_map_or (λ (x : Slot). is_imported_kind x.kind) o false ≡ true
        → option_map_or (λ (x : Slot). x.owner.0 == option_map_or (λ (y : Slot). y.owner.0) o 0) o false ≡ true
    go None k = absurd cc
    go (Some x) k = eq-eqb x.owner.0 x.owner.0 refl

pub own_home : (t : Tables) (s : ℕ) → is_home t s ≡ true → is_own t (owner_of t s) s ≡ true
unfolding is_fixed is_optional is_own owner_of
own_home t s h = go (slot_at t s) h
  where
    go : (o : Option Slot) → (option_map_or (λ (x : Slot). is_fixed_kind x.kind) o false || option_map_or (λ (x : Slot). is_optional_kind x.kind) o false) ≡ true
        → option_map_or (λ (x : Slot). x.owner.0 == option_map_or (λ (y : Slot). y.owner.0) o 0) o false ≡ true
    go None k = absurd cc
    go (Some x) k = eq-eqb x.owner.0 x.owner.0 refl

-- the home of a place that waits
waiting_home : (w : Wait) (h : Incarnation) → home_of (place_for w h) ≡ Some h
waiting_home Ask h = refl
waiting_home Leave h = refl

-- what a row makes of a place
abbrev NowAt : ImportPlace → ℕ → Done (ℕ → ImportPlace) → Type 0
NowAt next n r = r.now n ≡ next

module _ {M : Type 0} (model : Behaviour M) (t : Tables) (b : Body M) where
  -- a duty on import places does what it does
  placed : (me : ℕ) (fits : Bool) → fits ≡ true → (r : Done (ℕ → ImportPlace))
      → (with_frame model t me b (plainly b.frame fits [] (with_places b.frame r))).body.frame.places ≡ r.now
  placed me true e r = refl
  placed me false e r = absurd cc

  placed_with : (me : ℕ) (fits : Bool) → fits ≡ true → (n : ℤ) (r : ℤ → Done (ℕ → ImportPlace))
      → (with_frame model t me b (with_number b.frame fits (n ∷ []) (λ code. with_places b.frame (r code)))).body.frame.places ≡ (r n).now
  placed_with me true e n r = refl
  placed_with me false e n r = absurd cc

  -- a duty on plugs sends what it sends
  plugs_sent : (me : ℕ) (fits : Bool) → fits ≡ true → (r : Done (ℕ → List Incarnation))
      → (with_frame model t me b (plainly b.frame fits [] (with_plugs b.frame r))).sent ≡ r.sent
  plugs_sent me true e r = refl
  plugs_sent me false e r = absurd cc

  heard_now : (i : Endpoint) (fits : Bool) (next : ImportPlace) (m : Msg) → is_container_live t b.frame.lives i ≡ true → fits ≡ true
      → (heard t b.frame.lives b.frame.places i fits next m).now i.slot.0 ≡ next
  unfolding updated
  heard_now i fits next m live fit = go (is_container_live t b.frame.lives i && fits) (rw (live, fit) refl)
    where
      go : (z : Bool) → z ≡ true → NowAt next i.slot.0 (if z then record { now = updated b.frame.places i.slot.0 next; sent = m ∷ [] } else record { now = b.frame.places; sent = [] })
      go true e = rw (eq-eqb i.slot.0 i.slot.0 refl) refl
      go false e = absurd cc

  module _ (s c : ℕ) (imported : is_imported t s ≡ true) (part : container_of t s ≡ Some c) (h : Incarnation) (lends : LendsSo t b.frame) (stamp : Stamp) where
    alive : (w : Wait) → b.frame.places s ≡ place_for w h → b.frame.lives.lives c ≡ true
    alive w e = go (b.frame.lives.lives c) refl
      where
        go : (z : Bool) → b.frame.lives.lives c ≡ z → z ≡ true
        go true q = refl
        go false q = absurd (dead_apart t w s c imported part h b.frame lends q e)

    back_fits : (w : Wait) → b.frame.places s ≡ place_for w h → is_back t (owner_of t s) (frame_of h) (frame_of (incarnation s (b.frame.lives.generation c))) ≡ true
    back_fits w e =
        let home : is_home t h.slot.0 ≡ true = lends.tied.homes s h (ap home_of e ∙ waiting_home w h) in
        rw (imported, home, own_imported t s imported) refl

    live : (w : Wait) → b.frame.places s ≡ place_for w h → is_container_live t b.frame.lives (frame_of (incarnation s (b.frame.lives.generation c))) ≡ true
    live w e = rw (part, alive w e, eq-eqb (b.frame.lives.generation c) (b.frame.lives.generation c) refl) refl

    same_home : is_incarnation h h ≡ true
    same_home = rw (eq-eqb h.slot.0 h.slot.0 refl, eq-eqb h.generation.0 h.generation.0 refl) refl

    abbrev After : SysKind → List ℤ → ImportPlace
    After kind payload =
        (treat model t (owner_of t s) b (posted (answer t (incarnation s (b.frame.lives.generation c)) h kind payload) (owner_of t h.slot.0) stamp)).body.frame.places s

    done_after : b.frame.places s ≡ Asking h → After kinds.ImportDone [] ≡ Held h
    unfolding treat frame_duty import_done
    done_after e =
        ap (λ (z : ℕ → ImportPlace). z s) (placed (owner_of t s) _ (back_fits Ask e) _)
        ∙ heard_now (frame_of (incarnation s (b.frame.lives.generation c))) _ (Held h) _ (live Ask e) (rw e same_home)

    refused_after : b.frame.places s ≡ Asking h → (code : Code) → (is_code StaleId (pos (code_number code)) || is_code PortTaken (pos (code_number code))) ≡ true
        → After kinds.ImportRefused (coded code) ≡ Empty
    unfolding treat frame_duty import_refused
    refused_after e code known =
        let fits : ((is_code StaleId (pos (code_number code)) || is_code PortTaken (pos (code_number code))) && is_asking h (b.frame.places s)) ≡ true = rw (known, e) same_home in
        let i : Endpoint = frame_of (incarnation s (b.frame.lives.generation c)) in
        let n : ℤ = pos (code_number code) in
        ap (λ (z : ℕ → ImportPlace). z s)
        (placed_with (owner_of t s) _ (back_fits Ask e) n (λ k. import_refused t (owner_of t s) b.frame.lives b.frame.places (frame_of h) i k))
        ∙ heard_now i _ Empty (told_of t (owner_of t s) Refused (frame_of h) (container_frame t i) s n) (live Ask e) fits

    left_after : b.frame.places s ≡ Leaving h → After kinds.DeportDone [] ≡ Empty
    unfolding treat frame_duty deport_done
    left_after e =
        ap (λ (z : ℕ → ImportPlace). z s) (placed (owner_of t s) _ (back_fits Leave e) _)
        ∙ heard_now (frame_of (incarnation s (b.frame.lives.generation c))) _ Empty _ (live Leave e) (rw e same_home)

    -- a place that hears its answer doesn't wait for it any more
    answered_out : (w : Wait) → b.frame.places s ≡ place_for w h → (m : Msg) → Has m (answers t w (incarnation s (b.frame.lives.generation c)) h)
        → (treat model t (owner_of t s) b (posted m (owner_of t h.slot.0) stamp)).body.frame.places s ≡ place_for w h → ⊥
    answered_out Ask e m (inl q) k =
        let z : After kinds.ImportDone [] ≡ Asking h = subst (λ (n : Msg). (treat model t (owner_of t s) b (posted n (owner_of t h.slot.0) stamp)).body.frame.places s ≡ Asking h) (sym q) k in
        let y : Held h ≡ Asking h = sym (done_after e) ∙ z in absurd cc
    answered_out Ask e m (inr (inl q)) k =
        let z : After kinds.ImportRefused (coded StaleId) ≡ Asking h = subst (λ (n : Msg). (treat model t (owner_of t s) b (posted n (owner_of t h.slot.0) stamp)).body.frame.places s ≡ Asking h) (sym q) k in
        let y : Empty ≡ Asking h = sym (refused_after e StaleId refl) ∙ z in absurd cc
    answered_out Ask e m (inr (inr (inl q))) k =
        let z : After kinds.ImportRefused (coded PortTaken) ≡ Asking h = subst (λ (n : Msg). (treat model t (owner_of t s) b (posted n (owner_of t h.slot.0) stamp)).body.frame.places s ≡ Asking h) (sym q) k in
        let y : Empty ≡ Asking h = sym (refused_after e PortTaken refl) ∙ z in absurd cc
    answered_out Ask e m (inr (inr (inr q))) k = absurd q
    answered_out Leave e m (inl q) k =
        let z : After kinds.DeportDone [] ≡ Leaving h = subst (λ (n : Msg). (treat model t (owner_of t s) b (posted n (owner_of t h.slot.0) stamp)).body.frame.places s ≡ Leaving h) (sym q) k in
        let y : Empty ≡ Leaving h = sym (left_after e) ∙ z in absurd cc
    answered_out Leave e m (inr q) k = absurd q

  -- a home answers what a place asks
  module _ (i h : Incarnation) (imported : is_imported t i.slot.0 ≡ true) (home : is_home t h.slot.0 ≡ true) (stamp : Stamp) where
    forth_fits : is_forth t (owner_of t h.slot.0) (frame_of i) (frame_of h) ≡ true
    forth_fits = rw (imported, home, own_home t h.slot.0 home) refl

    abbrev AnsweredBy : Done (ℕ → List Incarnation) → Type 0
    AnsweredBy r = Answered t i h Ask r.sent

    home_answers : (w : Wait) → Answered t i h w (treat model t (owner_of t h.slot.0) b (posted (sent_for t w i h) (owner_of t i.slot.0) stamp)).sent
    unfolding treat frame_duty import deport
    home_answers Ask =
        subst (Answered t i h Ask) (sym (plugs_sent (owner_of t h.slot.0) _ forth_fits _))
        (go (is_live b.frame.lives h) (is_port_taken t (b.frame.plugs h.slot.0) i h))
      where
        go : (x y : Bool) → AnsweredBy (
            if not x then record { now = b.frame.plugs; sent = answer t i h kinds.ImportRefused (coded StaleId) ∷ [] }
            else if y then record { now = b.frame.plugs; sent = answer t i h kinds.ImportRefused (coded PortTaken) ∷ [] }
            else record { now = updated b.frame.plugs h.slot.0 (b.frame.plugs h.slot.0 ++ i ∷ []); sent = answer t i h kinds.ImportDone [] ∷ [] })
        go false y = (answer t i h kinds.ImportRefused (coded StaleId), inr (inl refl), inl refl)
        go true true = (answer t i h kinds.ImportRefused (coded PortTaken), inr (inr (inl refl)), inl refl)
        go true false = (answer t i h kinds.ImportDone [], inl refl, inl refl)
    home_answers Leave =
        subst (Answered t i h Leave) (sym (plugs_sent (owner_of t h.slot.0) _ forth_fits _))
        (answer t i h kinds.DeportDone [], inl refl, inl refl)

-- a message to a controller is a system message to it
to_there : (b : ℕ) → ((b == b) && (0 == 0)) ≡ true
to_there b = rw (eq-eqb b b refl) refl

-- an answer has no stamp, and is a system message to the place's owner
answer_form : (t : Tables) (w : Wait) (i h : Incarnation) (m : Msg) → Has m (answers t w i h)
    → (stamped (owner_of t h.slot.0) 0 m ≡ m) × (is_system_to (owner_of t i.slot.0) m ≡ true)
answer_form t w i h m is = go w is
  where
    form : (n : Msg) → n ≡ m → stamped (owner_of t h.slot.0) 0 n ≡ n → is_system_to (owner_of t i.slot.0) n ≡ true
        → (stamped (owner_of t h.slot.0) 0 m ≡ m) × (is_system_to (owner_of t i.slot.0) m ≡ true)
    form n e p q = (
      subst (λ (z : Msg). stamped (owner_of t h.slot.0) 0 z ≡ z) e p,
      subst (λ (z : Msg). is_system_to (owner_of t i.slot.0) z ≡ true) e q,
    )

    go : (v : Wait) → Has m (answers t v i h) → (stamped (owner_of t h.slot.0) 0 m ≡ m) × (is_system_to (owner_of t i.slot.0) m ≡ true)
    go Ask (inl e) = form _ e refl (to_there (owner_of t i.slot.0))
    go Ask (inr (inl e)) = form _ e refl (to_there (owner_of t i.slot.0))
    go Ask (inr (inr (inl e))) = form _ e refl (to_there (owner_of t i.slot.0))
    go Ask (inr (inr (inr e))) = absurd e
    go Leave (inl e) = form _ e refl (to_there (owner_of t i.slot.0))
    go Leave (inr e) = absurd e

-- what leaves a trail stood at the front of a pending list
popped : (k : Taken) (a : ℕ) (m : Msg) → Has m (taken_from a (Some k)) → k.message ≡ posted m a k.message.stamp
popped k a m h = go (0 == k.priority) h
  where
    whole : (z : Bool) → (a == k.message.from.0) ≡ z → Has m (if z then stamped a 0 k.message ∷ [] else []) → k.message ≡ posted m a k.message.stamp
    whole true e (inl q) =
        ap (λ n. record k.message { from = record { 0 = n } }) (sym (eqb-true a k.message.from.0 e))
        ∙ ap (λ (z : Msg). posted z a k.message.stamp) q
    whole true e (inr q) = absurd q
    whole false e q = absurd q

    go : (z : Bool) → Has m (if z then from_a a (k.message ∷ []) else []) → k.message ≡ posted m a k.message.stamp
    go true q = whole (a == k.message.from.0) refl (subst (Has m) (from_one a k.message) q)
    go false q = absurd q

module _ {M : Type 0} (model : Behaviour M) (clear : IsOpen model) (t : Tables) (lines : List Line) (clear_lines : AreOpen lines) where
  -- what a place waits for is on its way, or the answer is
  abbrev OnItsWay : World (Body M) → Wait → Incarnation → Incarnation → Type 0
  OnItsWay w wait i h =
      Has (sent_for t wait i h) (trail w (owner_of t i.slot.0) (owner_of t h.slot.0))
      ⊎ ((m : Msg) × Has m (answers t wait i h) × Has m (trail w (owner_of t h.slot.0) (owner_of t i.slot.0)))

  -- the place of slot s at its owner, and the generation of its container there
  abbrev frame_there : World (Body M) → ℕ → Frame
  frame_there w s = (w.controllers (owner_of t s)).body.frame

  -- a world in which each place that waits waits for something
  record IsWaiting (w : World (Body M)) : Type 0 where
    pub foretold : IsForetold t w
    pub lends : AllLend model clear t lines w
    pub waits : (s c : ℕ) → is_imported t s ≡ true → container_of t s ≡ Some c → (wait : Wait) (h : Incarnation)
        → (frame_there w s).places s ≡ place_for wait h → OnItsWay w wait (incarnation s ((frame_there w s).lives.generation c)) h

  -- what an outbox holds after a turn stands on a trail
  comes_in : (w : World (Body M)) (a b : ℕ) (m : Msg) → Has m (system_to a b (w.controllers a).outbox) → Has m (trail w a b)
  comes_in w a b m h =
      has_right m (from_a a ((w.controllers b).pending 0)) _ (has_right m (contents a (w.lanes (lane a b 0))) _ h)

  -- what leaves a trail in a turn is the message that is taken out
  gone : (w : World (Body M)) (n : ℕ) (k : Taken) → next_of (w.controllers n).pending ≡ Some k → (a b : ℕ) (m : Msg)
      → Has m (if b == n then taken_from a (next_of (w.controllers b).pending) else []) → (b ≡ n) × (k.message ≡ posted m a k.message.stamp)
  gone w n k front a b m h = go (b == n) refl h
    where
      go : (z : Bool) → (b == n) ≡ z → Has m (if z then taken_from a (next_of (w.controllers b).pending) else []) → (b ≡ n) × (k.message ≡ posted m a k.message.stamp)
      go false e q = absurd q
      go true e q =
          let same : next_of (w.controllers b).pending ≡ Some k = ap (λ x. next_of (w.controllers x).pending) (eqb-true b n e) ∙ front in
          (eqb-true b n e, popped k a m (subst (λ (o : Option Taken). Has m (taken_from a o)) same q))

  -- a turn of controller n that takes out message k
  module _ (w : World (Body M)) (inv : IsWaiting w) (n : ℕ) (e : Entry) (next : State (Body M)) (k : Taken) (front : next_of (w.controllers n).pending ≡ Some k)
      (same : next ≡ (turned (w.controllers n) k (treat model t n (w.controllers n).body k.message)).0)
      (out : (a b : ℕ) (m : Msg) → Has m (leaves w n e a b) → (b ≡ n) × (k.message ≡ posted m a k.message.stamp))
      (moves : (a b : ℕ) → leaves w n e a b ++ trail (world_after model t lines w n e next) a b ≡ trail w a b ++ comes (world_after model t lines w n e next) n e a b) where
    -- a message on a trail stays there, or is the one that is taken out
    stays : (a b : ℕ) (m : Msg) → Has m (trail w a b)
        → Has m (trail (world_after model t lines w n e next) a b) ⊎ ((b ≡ n) × (k.message ≡ posted m a k.message.stamp))
    stays a b m h =
        go (has_cases m (leaves w n e a b) (trail (world_after model t lines w n e next) a b)
        (subst (Has m) (sym (moves a b)) (has_left m (trail w a b) (comes (world_after model t lines w n e next) n e a b) h)))
      where
        go : Has m (leaves w n e a b) ⊎ Has m (trail (world_after model t lines w n e next) a b)
            → Has m (trail (world_after model t lines w n e next) a b) ⊎ ((b ≡ n) × (k.message ≡ posted m a k.message.stamp))
        go (inl q) = inr (out a b m q)
        go (inr q) = inl q

    module _ (s c : ℕ) (imported : is_imported t s ≡ true) (part : container_of t s ≡ Some c) (wait : Wait) (h : Incarnation) where
      -- what is sent in the turn to controller b stands on the trail to it
      sent_stands : (a b : ℕ) (m : Msg) → a ≡ n → stamped a 0 m ≡ m → is_system_to b m ≡ true
          → Has m (treat model t n (w.controllers n).body k.message).sent → Has m (trail (world_after model t lines w n e next) a b)
      unfolding put
      sent_stands a b m is unstamped to has =
          comes_in (world_after model t lines w n e next) a b m
          (rw (eq-eqb a n is) (has_system a b m next.outbox unstamped to (subst (λ (z : State (Body M)). Has m z.outbox) (sym same) has)))

      -- a place that waited before and waits after
      waited : (frame_there w s).places s ≡ place_for wait h
          → (owner_of t s ≡ n → (treat model t n (w.controllers n).body k.message).body.frame.places s ≡ place_for wait h)
          → OnItsWay (world_after model t lines w n e next) wait (incarnation s ((frame_there w s).lives.generation c)) h
      waited before now = go (inv.waits s c imported part wait h before)
        where
          i : Incarnation
          i = incarnation s ((frame_there w s).lives.generation c)

          home : is_home t h.slot.0 ≡ true
          home = (inv.lends (owner_of t s)).tied.homes s h (ap home_of before ∙ waiting_home wait h)

          -- the home is asked
          asked : Has (sent_for t wait i h) (trail (world_after model t lines w n e next) (owner_of t s) (owner_of t h.slot.0))
              ⊎ ((owner_of t h.slot.0 ≡ n) × (k.message ≡ posted (sent_for t wait i h) (owner_of t s) k.message.stamp))
              → OnItsWay (world_after model t lines w n e next) wait i h
          asked (inl q) = inl q
          asked (inr q) =
              let r : Answered t i h wait (treat model t n (w.controllers n).body k.message).sent =
              subst (λ (z : Msg). Answered t i h wait (treat model t n (w.controllers n).body z).sent) (sym q.1)
              (subst (λ z. Answered t i h wait (treat model t z (w.controllers n).body (posted (sent_for t wait i h) (owner_of t s) k.message.stamp)).sent) q.0
              (home_answers model t (w.controllers n).body i h imported home k.message.stamp wait)) in
              let f = answer_form t wait i h r.0 r.1 in
              inr (r.0, r.1, sent_stands (owner_of t h.slot.0) (owner_of t s) r.0 q.0 f.0 f.1 r.2)

          -- the place is answered
          told : (m : Msg) → Has m (answers t wait i h)
              → Has m (trail (world_after model t lines w n e next) (owner_of t h.slot.0) (owner_of t s))
              ⊎ ((owner_of t s ≡ n) × (k.message ≡ posted m (owner_of t h.slot.0) k.message.stamp))
              → OnItsWay (world_after model t lines w n e next) wait i h
          told m is (inl q) = inr (m, is, q)
          told m is (inr q) =
              absurd (answered_out model t (w.controllers (owner_of t s)).body s c imported part h (inv.lends (owner_of t s)) k.message.stamp wait before m is
              (subst (λ z. (treat model t (owner_of t s) (w.controllers (owner_of t s)).body z).body.frame.places s ≡ place_for wait h) q.1
              (subst (λ z. (treat model t z (w.controllers z).body k.message).body.frame.places s ≡ place_for wait h) (sym q.0) (now q.0))))

          go : OnItsWay w wait i h → OnItsWay (world_after model t lines w n e next) wait i h
          go (inl q) = asked (stays (owner_of t s) (owner_of t h.slot.0) (sent_for t wait i h) q)
          go (inr q) = told q.0 q.1 (stays (owner_of t h.slot.0) (owner_of t s) q.0 q.2)

      turn_waits : (frame_there (world_after model t lines w n e next) s).places s ≡ place_for wait h
          → OnItsWay (world_after model t lines w n e next) wait (incarnation s ((frame_there (world_after model t lines w n e next) s).lives.generation c)) h
      unfolding put
      turn_waits waits = go (owner_of t s == n) refl waits
        where
          treated_frame : next.body.frame ≡ (treat model t n (w.controllers n).body k.message).body.frame
          treated_frame = ap (λ (z : State (Body M)). z.body.frame) same

          go : (z : Bool) → (owner_of t s == n) ≡ z → (if z then next else w.controllers (owner_of t s)).body.frame.places s ≡ place_for wait h
              → OnItsWay (world_after model t lines w n e next) wait (incarnation s ((if z then next else w.controllers (owner_of t s)).body.frame.lives.generation c)) h
          go false apart q = waited q (λ is. absurd (eqb-false (owner_of t s) n apart is))
          go true is q = here (eqb-true (owner_of t s) n is) (subst (λ (f : Frame). f.places s ≡ place_for wait h) treated_frame q)
            where
              here : owner_of t s ≡ n → (treat model t n (w.controllers n).body k.message).body.frame.places s ≡ place_for wait h
                  → OnItsWay (world_after model t lines w n e next) wait (incarnation s (next.body.frame.lives.generation c)) h
              here at now =
                  subst (λ (f : Frame). OnItsWay (world_after model t lines w n e next) wait (incarnation s (f.lives.generation c)) h) (sym treated_frame)
                  (either (treat_waits t wait s c imported part h n model clear (w.controllers n).body k.message (inv.lends n) now))
                where
                  either : (((w.controllers n).body.frame.places s ≡ place_for wait h)
                      × ((treat model t n (w.controllers n).body k.message).body.frame.lives.generation c ≡ (w.controllers n).body.frame.lives.generation c))
                      ⊎ Has (system n (owner_of t h.slot.0) (kind_for wait) (frame_of (incarnation s ((treat model t n (w.controllers n).body k.message).body.frame.lives.generation c))) (frame_of h) [])
                      (treat model t n (w.controllers n).body k.message).sent
                      → OnItsWay (world_after model t lines w n e next) wait (incarnation s ((treat model t n (w.controllers n).body k.message).body.frame.lives.generation c)) h
                  either (inl r) =
                      subst (λ g. OnItsWay (world_after model t lines w n e next) wait (incarnation s g) h)
                      (ap (λ z. (w.controllers z).body.frame.lives.generation c) at ∙ sym r.1)
                      (waited (subst (λ z. (w.controllers z).body.frame.places s ≡ place_for wait h) (sym at) r.0) (λ is. now))
                  either (inr r) =
                      inl (sent_stands (owner_of t s) (owner_of t h.slot.0) _ at refl (to_there (owner_of t h.slot.0))
                      (subst (λ z. Has (system z (owner_of t h.slot.0) (kind_for wait) (frame_of (incarnation s ((treat model t n (w.controllers n).body k.message).body.frame.lives.generation c))) (frame_of h) [])
                      (treat model t n (w.controllers n).body k.message).sent) (sym at) r))

  -- an event that touches no body and no trail
  untouched : (w v : World (Body M)) → IsWaiting w → ((n : ℕ) → (v.controllers n).body.frame ≡ (w.controllers n).body.frame)
      → ((a b : ℕ) → trail v a b ≡ trail w a b)
      → (s c : ℕ) → is_imported t s ≡ true → container_of t s ≡ Some c → (wait : Wait) (h : Incarnation)
      → (frame_there v s).places s ≡ place_for wait h → OnItsWay v wait (incarnation s ((frame_there v s).lives.generation c)) h
  untouched w v inv bodies trails s c imported part wait h q =
      subst (λ (f : Frame). OnItsWay v wait (incarnation s (f.lives.generation c)) h) (sym (bodies (owner_of t s)))
      (moved (inv.waits s c imported part wait h (subst (λ (f : Frame). f.places s ≡ place_for wait h) (bodies (owner_of t s)) q)))
    where
      moved : OnItsWay w wait (incarnation s ((frame_there w s).lives.generation c)) h → OnItsWay v wait (incarnation s ((frame_there w s).lives.generation c)) h
      moved (inl r) = inl (subst (Has (sent_for t wait (incarnation s ((frame_there w s).lives.generation c)) h)) (sym (trails (owner_of t s) (owner_of t h.slot.0))) r)
      moved (inr r) = inr (r.0, r.1, subst (Has r.0) (sym (trails (owner_of t h.slot.0) (owner_of t s))) r.2)

  -- each event of a controller
  controller_waits : (w : World (Body M)) → IsWaiting w → (n : ℕ) (e : Entry) (next : State (Body M)) → controller_does (plant_of model t lines) w n (event_of e) ≡ Some (next, e)
      → (s c : ℕ) → is_imported t s ≡ true → container_of t s ≡ Some c → (wait : Wait) (h : Incarnation)
      → (frame_there (world_after model t lines w n e next) s).places s ≡ place_for wait h
      → OnItsWay (world_after model t lines w n e next) wait (incarnation s ((frame_there (world_after model t lines w n e next) s).lives.generation c)) h
  unfolding turn post fetch
  controller_waits w inv n (entry.Start who state ns) next does s c imported part wait h q = absurd cc
  controller_waits w inv n (entry.Fetch stamp m) next does s c imported part wait h q =
      let r : fetch (w.controllers n) m ≡ (next, entry.Fetch stamp m) = own_of (plant_of model t lines) w n (entry.Fetch stamp m) next does in
      untouched w (world_after model t lines w n (entry.Fetch stamp m) next) inv
      (kept_by (λ (z : State (Body M)). z.body.frame) w.controllers n next (sym (ap (λ (z : State (Body M) × Entry). z.0.body.frame) r)))
      (λ a b. controller_moves model t lines clear w n (entry.Fetch stamp m) next (inv.foretold.sorted n) does a b ∙ append-nil (trail w a b)) s c imported part wait h q
  controller_waits w inv n (entry.Post stamp m) next does s c imported part wait h q =
      let r = post_from model t lines n (w.controllers n) next (entry.Post stamp m) (w.controllers n).outbox does in
      untouched w (world_after model t lines w n (entry.Post stamp m) next) inv
      (kept_by (λ (z : State (Body M)). z.body.frame) w.controllers n next (sym (ap (λ (z : State (Body M) × Entry). z.0.body.frame) r.3)))
      (λ a b. controller_moves model t lines clear w n (entry.Post stamp m) next (inv.foretold.sorted n) does a b ∙ append-nil (trail w a b)) s c imported part wait h q
  controller_waits w inv n (entry.Turn stamp from sent what ns) next does s c imported part wait h q =
      let e : Entry = entry.Turn stamp from sent what ns in
      let r = turn_from model t lines n (w.controllers n) next e (w.controllers n).outbox (next_of (w.controllers n).pending) does in
      turn_waits w inv n e next r.0 r.2 (sym (ap (λ (z : State (Body M) × Entry). z.0) r.3)) (λ a b m has. gone w n r.0 r.2 a b m has)
      (λ a b. controller_moves model t lines clear w n e next (inv.foretold.sorted n) does a b) s c imported part wait h q

  step_waits : (w : World (Body M)) (x : Placed) (next : World (Body M)) → IsWaiting w → Happened (plant_of model t lines) w x next → IsWaiting next
  step_waits w x next inv happens = go happens (step_lends model clear t lines w x next inv.lends happens)
    where
      go : Happened (plant_of model t lines) w x next → AllLend model clear t lines next → IsWaiting next
      go (controller below v does same) lends =
          record {
            foretold = subst (IsForetold t) (sym same) (controller_foretold model clear t lines clear_lines w inv.foretold x.party below x.entry v does);
            lends = lends;
            waits = λ s c imported part wait h.
                subst (λ (z : World (Body M)). (frame_there z s).places s ≡ place_for wait h → OnItsWay z wait (incarnation s ((frame_there z s).lives.generation c)) h) (sym same)
                (controller_waits w inv x.party x.entry v does s c imported part wait h);
          }
      go (environment is v does same) lends =
          record {
            foretold = subst (IsForetold t) (sym same) (environment_foretold model clear t lines clear_lines w x.party x.entry v inv.foretold does);
            lends = lends;
            waits = λ s c imported part wait h.
                subst (λ (z : World (Body M)). (frame_there z s).places s ≡ place_for wait h → OnItsWay z wait (incarnation s ((frame_there z s).lives.generation c)) h) (sym same)
                (untouched w (world_then model clear t lines clear_lines w x.party x.entry v) inv (λ n. refl)
                (λ a b. environment_moves model clear t lines clear_lines w x.party x.entry v does a b) s c imported part wait h);
          }

  run_waits : (xs : List Placed) (w end : World (Body M)) → IsWaiting w → Runs (plant_of model t lines) w xs end → IsWaiting end
  run_waits [] w end inv r = subst IsWaiting (sym r) inv
  run_waits (x ∷ xs) w end inv r = run_waits xs r.0 end (step_waits w x r.0 inv (happened (plant_of model t lines) w x r.0 r.2)) r.3

  world_waits : IsWaiting (start (plant_of model t lines))
  world_waits =
      record {
        foretold = start_foretold model clear t lines clear_lines;
        lends = λ n. start_lends t n model clear;
        waits = λ s c imported part wait h q. first s c wait h (start_waits t wait s c imported part h (owner_of t s) model clear q);
      }
    where
      nothing_yet : (wait : Wait) (h : Incarnation) → Empty ≡ place_for wait h → ⊥
      nothing_yet Ask h q = absurd cc
      nothing_yet Leave h q = absurd cc

      first : (s c : ℕ) (wait : Wait) (h : Incarnation)
          → (((first_frame t (owner_of t s)).places s ≡ place_for wait h)
          × ((first_state model t (owner_of t s)).body.frame.lives.generation c ≡ (first_frame t (owner_of t s)).lives.generation c))
          ⊎ Has (sent_for t wait (incarnation s ((first_state model t (owner_of t s)).body.frame.lives.generation c)) h) (first_state model t (owner_of t s)).outbox
          → OnItsWay (start (plant_of model t lines)) wait (incarnation s ((first_state model t (owner_of t s)).body.frame.lives.generation c)) h
      first s c wait h (inl r) = absurd (nothing_yet wait h r.0)
      first s c wait h (inr r) =
          inl (subst (Has (sent_for t wait (incarnation s ((first_state model t (owner_of t s)).body.frame.lives.generation c)) h))
          (sym (fresh_trail (owner_of t s) (owner_of t h.slot.0) (first_state model t (owner_of t s)).outbox))
          (has_system (owner_of t s) (owner_of t h.slot.0) _ (first_state model t (owner_of t s)).outbox refl (to_there (owner_of t h.slot.0)) r))

  pub places_await : (xs : List Placed) (end : World (Body M)) → Runs (plant_of model t lines) (start (plant_of model t lines)) xs end → PlacesAwait t end
  places_await xs end r s c imported part wait h q = go ((run_waits xs (start (plant_of model t lines)) end world_waits r).waits s c imported part wait h q)
    where
      go : OnItsWay end wait (incarnation s ((frame_there end s).lives.generation c)) h → IsAwaited t end wait (incarnation s ((frame_there end s).lives.generation c)) h
      go (inl k) = inl (has_contains _ _ k)
      go (inr k) = inr (k.0, has_contains k.0 _ k.1, has_contains k.0 _ k.2)

  pub quiet_places : OwnersAreThere t → (xs : List Placed) (end : World (Body M)) → Runs (plant_of model t lines) (start (plant_of model t lines)) xs end
      → IsQuiet (plant_of model t lines) end → PlacesSettle t end
  quiet_places there xs end r quiet s c imported part = go ((frame_there end s).places s) refl
    where
      inv : IsWaiting end
      inv = run_waits xs (start (plant_of model t lines)) end world_waits r

      never : (wait : Wait) (h : Incarnation) → OnItsWay end wait (incarnation s ((frame_there end s).lives.generation c)) h → ⊥
      never wait h (inl q) = subst (Has _) (quiet_trail model t lines end quiet (owner_of t s) (owner_of t h.slot.0) (there s) (there h.slot.0)) q
      never wait h (inr q) = subst (Has q.0) (quiet_trail model t lines end quiet (owner_of t h.slot.0) (owner_of t s) (there h.slot.0) (there s)) q.2

      go : (p : ImportPlace) → (frame_there end s).places s ≡ p → (p ≡ Empty) ⊎ ((h : Incarnation) × (p ≡ Held h))
      go Empty e = inl refl
      go (Held h) e = inr (h, refl)
      go (Asking h) e = absurd (never Ask h (inv.waits s c imported part Ask h e))
      go (Leaving h) e = absurd (never Leave h (inv.waits s c imported part Leave h e))
