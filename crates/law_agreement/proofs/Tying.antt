-- An import place and a home: what each event of the place's controller makes of the row in which they stand.
use Rattle.std.proofs.Common.{◌≡◌, ℕ, ◌+◌, ◌<◌, ◌≤◌, ◌==◌, ◌&&◌, ◌||◌, Bool, true, false, not, if◌then◌else◌, List, [], ◌∷◌, ◌++◌, flat_map, slice_get, Option, Some, None, ℤ, pos, refl, sym, ap, ◌∙◌, subst, eq-eqb, eqb-true, append-nil, append_assoc, arith, ◌⊎◌, inl, inr}
use Rattle.std.specs.Option.{option_map_or}
use Rattle.std.proofs.lemmas.Bool.{and_parts, ne_eqb, cases_eq, cases_lt, lt-ltb, le-ltb}
use Rattle.room_kinds.specs.declared.message.Msg.{Msg}
use Rattle.room_kinds.specs.declared.numbers.Incarnation.{Incarnation}
use Rattle.room_kinds.specs.declared.numbers.Endpoint.{Endpoint}
use Rattle.room_kinds.specs.declared.system.SysKind.{SysKind}
use Rattle.room_kinds.specs.declared.system.SysKind.TheVariants as kinds
use Rattle.room_kinds.specs.declared.command.FrameCommand.{FrameCommand}
use Rattle.room_kinds.specs.declared.command.FrameCommand.TheVariants as frames
use Rattle.room_wiring.specs.declared.tables.Tables.{Tables}
use Rattle.actor_duties.specs.Words.{updated, incarnation, frame_at, frame_of, whose, id_of, is_incarnation, is_frame, is_own, is_home, is_imported, is_part_of, container_of, owner_of, part_at, of_id, class_number}
use Rattle.actor_duties.specs.State.{Frame, ImportPlace, Empty, Asking, Held, Leaving, Done}
use Rattle.actor_duties.specs.Messages.{told_of, Imported, Ended, Deported, Refused, Code, is_code, to_owner, reply, coded, StaleId, WrongClass, PortTaken, NotHere, Occupied}
use Rattle.actor_duties.specs.Lives.{is_live, last_of, answered, counts_as_live, comes_up, lives_made, lives_ended, goes_down, ended_slots, is_reached, announces, create, made, part_make}
use Rattle.actor_duties.specs.Imports.{container_frame, is_container_live, is_asking, is_held, is_leaving, heard, import, import_done, import_refused, import_ended, deport, deport_done, imported_parts, ended_plugs, given_back, is_port_taken}
use Rattle.actor_duties.specs.Frame.{FrameDone, plainly, with_number, with_places, with_lives, end_messages, part_ends, end_set_ended, frame_ended, is_place_ended, destroy, part_end, is_back, frame_duty_of, frame_duty_from, frame_duty, is_same_class, busy_code, import_code, import_with, import_into, import_command, deport_from, deport_of, deport_command, frame_request, incarnate, destroy_command}
use Rattle.actor_world.specs.Behaviour.{Behaviour}
use Rattle.actor_world.specs.Body.{Body}
use Rattle.actor_world.specs.Turns.{all_kinds, treat}
use Rattle.actor_world.specs.Start.{first_frame, first_state}
use Rattle.actor_world.specs.Directories.{IsOpen}
use Rattle.service_messages.proofs.slot_runs.RunLemmas.{not_true_false, contained_there}
use Rattle.actor_world.proofs.Slots.{own_in_range}
use Rattle.law_agreement.specs.Imports.{Wait, Ask, Leave, place_for, kind_for}
use Rattle.law_agreement.specs.Loans.{Side, Unmade, Apart, Asks, Holds, Leaves, Over, Row, tied_as, side_by, side_of, goes_between, kind_back, forth_of, back_of}
use Rattle.law_agreement.proofs.Hearing.{swap_eqb}
use Rattle.law_agreement.proofs.OffLoan.{IsOffLoan, AllOffLoan, off_asked, off_announces, off_part_ends, off_part_make, off_create, off_create_done, off_create_refused, off_destroy_done}
use Rattle.law_agreement.proofs.Siding.{was, elsewhere, side_live, side_dead, side_tied, other_place, ask_other, hold_other, leave_other, asks_is, holds_is, leaves_is, is_asks, is_holds, is_leaves}
use Rattle.law_agreement.proofs.Walking.{IsHere, IsWalk, turn_walks, start_walks}
use Rattle.law_agreement.proofs.Routing.{part_of_at}
use Rattle.law_agreement.proofs.Waiting.{live_generation, vacant}
use Rattle.law_agreement.proofs.Keeping.{LendsSo}
use Rattle.law_agreement.proofs.Lists.{all_map}
use Rattle.law_agreement.proofs.Duties.{by_plainly, by_number, by_natural}
use Rattle.law_agreement.proofs.Pairing.{row_made, row_asks, row_leaves, row_apart_ends, row_leaves_ends, row_asks_ends, row_holds_ends, row_granted, row_refused, row_bereft, row_freed, row_not_granted, row_not_refused, row_not_bereft, row_not_freed}
use Rattle.law_agreement.proofs.Counting.{picked, picked_down}
use Rattle.law_agreement.proofs.Emitting.{itself, swap_incarnation, same_frame, emits, emits_append, emits_none, emits_flat, no_either, off_back, off_out, sent_out}

module _ (t : Tables) (c : ℕ) (i h : Incarnation) (imported : is_imported t i.slot.0 ≡ true) (part : container_of t i.slot.0 ≡ Some c) where
  -- what messages put on the way forth
  abbrev out : List Msg → List SysKind
  out ms = emits (forth_of i h) (owner_of t h.slot.0) ms

  abbrev side : Frame → Side
  side f = side_of c i h f

  -- these answers are taken from the way back, and the pair stands in a row again
  pub Hears : List SysKind → Frame → List Msg → Frame → Type 0
  Hears toks f ms g = (forth back : List SysKind) (n : ℕ) → Row (side f) forth (toks ++ back) n → Row (side g) (forth ++ out ms) back n

  -- no answer of the home is taken
  abbrev Keeps : Frame → List Msg → Frame → Type 0
  Keeps f ms g = Hears [] f ms g

  -- a step from row to row
  by_row : (toks : List SysKind) (f g : Frame) (ms : List Msg) (a b : Side) (more : List SysKind) → side f ≡ a → side g ≡ b → out ms ≡ more
      → ((forth back : List SysKind) (n : ℕ) → Row a forth (toks ++ back) n → Row b (forth ++ more) back n) → Hears toks f ms g
  unfolding Hears
  by_row toks f g ms a b more here there sent step forth back n r =
      subst (λ (z : Side). Row z (forth ++ out ms) back n) (sym there)
      (subst (λ (z : List SysKind). Row b (forth ++ z) back n) (sym sent)
      (step forth back n (subst (λ (z : Side). Row z forth (toks ++ back) n) here r)))

  -- a step that sends nothing forth
  by_silent : (toks : List SysKind) (f g : Frame) (ms : List Msg) (a b : Side) → side f ≡ a → side g ≡ b → out ms ≡ []
      → ((forth back : List SysKind) (n : ℕ) → Row a forth (toks ++ back) n → Row b forth back n) → Hears toks f ms g
  by_silent toks f g ms a b here there sent step =
      by_row toks f g ms a b [] here there sent (λ forth back n r. subst (λ (z : List SysKind). Row b z back n) (sym (append-nil forth)) (step forth back n r))

  stays : (f g : Frame) (ms : List Msg) → side g ≡ side f → out ms ≡ [] → Keeps f ms g
  stays f g ms same sent = by_silent [] f g ms (side f) (side f) refl same sent (λ forth back n r. r)

  both : (toks : List SysKind) (f g k : Frame) (a b : List Msg) → Hears toks f a g → Keeps g b k → Hears toks f (a ++ b) k
  unfolding Hears
  both toks f g k a b p q forth back n r =
      subst (λ (z : List SysKind). Row (side k) z back n)
      (append_assoc forth (out a) (out b) ∙ ap (λ (z : List SysKind). forth ++ z) (sym (emits_append (forth_of i h) (owner_of t h.slot.0) a b)))
      (q (forth ++ out a) back n (p forth back n r))

  -- requests
  module _ (me : ℕ) where
    abbrev AskedIn : Frame → Done (ℕ → ImportPlace) → Type 0
    AskedIn f r = Keeps f r.sent (record f { places = r.now })

    abbrev before_side : Wait → Side
    before_side Ask = Apart
    before_side Leave = Holds

    abbrev after_side : Wait → Side
    after_side Ask = Asks
    after_side Leave = Leaves

    row_put : (w : Wait) (forth back : List SysKind) (n : ℕ) → Row (before_side w) forth back n → Row (after_side w) (forth ++ kind_for w ∷ []) back n
    row_put Ask forth back n r = row_asks r
    row_put Leave forth back n r = row_leaves r

    before_home : (w : Wait) (y : Incarnation) → is_incarnation y h ≡ true → tied_as h (was w y) ≡ before_side w
    before_home Ask y q = refl
    before_home Leave y q = rw q refl

    after_home : (w : Wait) (y : Incarnation) → is_incarnation y h ≡ true → tied_as h (place_for w y) ≡ after_side w
    after_home Ask y q = rw q refl
    after_home Leave y q = rw q refl

    -- a place that asks for a home, or gives it back
    module _ (f : Frame) (x : Incarnation) (j : ℕ) (w : Wait) (y : Incarnation) (own : container_of t j ≡ Some x.slot.0) (live : is_live f.lives x ≡ true) (before : f.places j ≡ was w y) where
      abbrev asking : List Msg
      asking = to_owner t me (kind_for w) (frame_at j x.generation.0) (frame_of y) [] ∷ []

      abbrev asked_frame : Frame
      asked_frame = record f { places = updated f.places j (place_for w y) }

      asking_out : out asking ≡ (if is_incarnation i (incarnation j x.generation.0) && is_incarnation h y then kind_for w ∷ [] else [])
      asking_out = sent_out i h t me w (incarnation j x.generation.0) y

      -- where it is another slot's
      put_other : (i.slot.0 == j) ≡ false → Keeps f asking asked_frame
      unfolding updated
      put_other e =
          stays f asked_frame asking (rw e refl)
          (asking_out ∙ rw e refl)

      module _ (e : (i.slot.0 == j) ≡ true) where
        container_is : x.slot.0 ≡ c
        container_is =
            let one : Some x.slot.0 ≡ Some c = sym own ∙ ap (container_of t) (sym (eqb-true i.slot.0 j e)) ∙ part in cc

        container_lives : f.lives.lives c ≡ true
        container_lives =
            subst (λ n. f.lives.lives n ≡ true) container_is
            (and_parts (f.lives.lives x.slot.0) (f.lives.generation x.slot.0 == x.generation.0) live).0

        container_generation : f.lives.generation c ≡ x.generation.0
        container_generation = ap f.lives.generation (sym container_is) ∙ live_generation f.lives x live

        place_before : f.places i.slot.0 ≡ was w y
        place_before = ap f.places (eqb-true i.slot.0 j e) ∙ before

        place_after : asked_frame.places i.slot.0 ≡ place_for w y
        unfolding updated
        place_after = rw e refl

        -- where the container lives in another generation
        put_elsewhere : (x.generation.0 == i.generation.0) ≡ false → Keeps f asking asked_frame
        put_elsewhere d =
            stays f asked_frame asking
            (side_dead i h (f.lives.generation c) (f.lives.lives c) (asked_frame.places i.slot.0) dead ∙ sym (side_dead i h (f.lives.generation c) (f.lives.lives c) (f.places i.slot.0) dead))
            (asking_out ∙ rw (e, swap_eqb i.generation.0 x.generation.0, d) refl)
          where
            dead : (f.lives.lives c && (f.lives.generation c == i.generation.0)) ≡ false
            dead = rw (container_generation, d, container_lives) refl

        module _ (d : (x.generation.0 == i.generation.0) ≡ true) where
          alive : (f.lives.lives c && (f.lives.generation c == i.generation.0)) ≡ true
          alive = rw (container_generation, d, container_lives) refl

          side_before : side f ≡ tied_as h (was w y)
          side_before = side_live i h (f.lives.generation c) (f.lives.lives c) (f.places i.slot.0) alive ∙ ap (tied_as h) place_before

          side_after : side asked_frame ≡ tied_as h (place_for w y)
          side_after = side_live i h (f.lives.generation c) (f.lives.lives c) (asked_frame.places i.slot.0) alive ∙ ap (tied_as h) place_after

          put_home : (b : Bool) → is_incarnation y h ≡ b → Keeps f asking asked_frame
          put_home true q =
              by_row [] f asked_frame asking (before_side w) (after_side w) (kind_for w ∷ []) (side_before ∙ before_home w y q) (side_after ∙ after_home w y q)
              (asking_out ∙ rw (e, swap_eqb i.generation.0 x.generation.0, d, swap_incarnation h y, q) refl) (row_put w)
          put_home false q =
              let o = other_place i h w y q in
              stays f asked_frame asking (side_after ∙ o.1 ∙ sym (side_before ∙ o.0))
              (asking_out ∙ rw (e, swap_eqb i.generation.0 x.generation.0, d, swap_incarnation h y, q) refl)

        put_here : (b : Bool) → (x.generation.0 == i.generation.0) ≡ b → Keeps f asking asked_frame
        put_here true d = put_home d (is_incarnation y h) refl
        put_here false d = put_elsewhere d

      put_keeps : Keeps f asking asked_frame
      put_keeps = go (i.slot.0 == j) refl
        where
          go : (b : Bool) → (i.slot.0 == j) ≡ b → Keeps f asking asked_frame
          go true e = put_here e (x.generation.0 == i.generation.0) refl
          go false e = put_other e

    -- an import that no code refuses finds an empty place
    empty_by : (places : ℕ → ImportPlace) (j : ℕ) (y : Incarnation) → import_code t places j (Some y) ≡ None → places j ≡ Empty
    empty_by places j y e = go (is_home t y.slot.0) (is_same_class (class_number t j) (class_number t y.slot.0)) e
      where
        idle : (p : ImportPlace) → busy_code p ≡ None → p ≡ Empty
        idle Empty q = refl
        idle (Asking z) q = absurd cc
        idle (Held z) q = absurd cc
        idle (Leaving z) q = absurd cc

        go : (a b : Bool) → (if not a then Some StaleId else if not b then Some WrongClass else busy_code (places j)) ≡ None → places j ≡ Empty
        go false b q = absurd cc
        go true false q = absurd cc
        go true true q = idle (places j) q

    -- what an actor is told at once
    told_keeps : (f g : Frame) (m : Msg) → IsOffLoan m → side g ≡ side f → Keeps f (m ∷ []) g
    told_keeps f g m off same = stays f g (m ∷ []) same (off_out i h (owner_of t h.slot.0) (m ∷ []) (off, tt))

    module _ (f : Frame) (x : Incarnation) (reference : ℕ) (index : ℤ) (live : is_live f.lives x ≡ true) where
      import_with_keeps : (j : ℕ) → container_of t j ≡ Some x.slot.0 → (o : Option Incarnation) (code : Option Code)
          → import_code t f.places j o ≡ code
          → AskedIn f (import_with t me f.places x reference index j o code)
      import_with_keeps j own o (Some code) e = told_keeps f f _ (refl, refl) refl
      import_with_keeps j own None None e = told_keeps f f _ (refl, refl) refl
      import_with_keeps j own (Some y) None e = put_keeps f x j Ask y own live (empty_by f.places j y e)

      import_into_keeps : (id : ℤ) (o : Option ℕ) → ((j : ℕ) → o ≡ Some j → container_of t j ≡ Some x.slot.0)
          → AskedIn f (import_into t me f.places x reference index id o)
      import_into_keeps id None own = told_keeps f f _ (refl, refl) refl
      import_into_keeps id (Some j) own = import_with_keeps j (own j refl) (of_id id) (import_code t f.places j (of_id id)) refl

      deport_from_keeps : (j : ℕ) → container_of t j ≡ Some x.slot.0 → (p : ImportPlace) → f.places j ≡ p
          → AskedIn f (deport_from t me f.places x reference index j p)
      deport_from_keeps j own Empty e = told_keeps f f _ (refl, refl) refl
      deport_from_keeps j own (Asking y) e = told_keeps f f _ (refl, refl) refl
      deport_from_keeps j own (Leaving y) e = told_keeps f f _ (refl, refl) refl
      deport_from_keeps j own (Held y) e = put_keeps f x j Leave y own live e

      deport_of_keeps : (o : Option ℕ) → ((j : ℕ) → o ≡ Some j → container_of t j ≡ Some x.slot.0)
          → AskedIn f (deport_of t me f.places x reference index o)
      deport_of_keeps None own = told_keeps f f _ (refl, refl) refl
      deport_of_keeps (Some j) own = deport_from_keeps j (own j refl) (f.places j) refl

    request_keeps : (f : Frame) (x : Incarnation) (k : FrameCommand) → IsHere t me f.lives x
        → Keeps f (frame_request t me f x k).sent (frame_request t me f x k).now
    unfolding incarnate destroy_command import_command deport_command
    request_keeps f x (frames.Incarnate reference index) here =
        told_keeps f f _ (off_asked t me x reference index (part_at t x.slot.0 reference index)).0 refl
    request_keeps f x (frames.Destroy reference index) here =
        told_keeps f f _ (off_asked t me x reference index (part_at t x.slot.0 reference index)).1 refl
    request_keeps f x (frames.Import reference index id) here =
        import_into_keeps f x reference index here.1 id (part_at t x.slot.0 reference index) (λ j e. part_of_at t x.slot.0 reference index j e)
    request_keeps f x (frames.Deport reference index) here =
        deport_of_keeps f x reference index here.1 (part_at t x.slot.0 reference index) (λ j e. part_of_at t x.slot.0 reference index j e)

    -- a walk that takes no answer
    keeping : IsWalk t me (Hears [])
    keeping =
        record {
          two = λ f g k a b p q. both [] f g k a b p q;
          off = λ f ms p. stays f f ms refl (off_out i h (owner_of t h.slot.0) ms p);
          request = λ f x k here. request_keeps f x k here;
        }

    -- what is made, where each place of what isn't live is empty
    module _ (f : Frame) (k : LendsSo t f) where
      abbrev Up : Bool → Type 0
      Up b = (forth back : List SysKind) (n : ℕ) → Row (side f) forth back n
          → Row (side_by i h (if b then f.lives.generation c + 1 else f.lives.generation c) (b || f.lives.lives c) (f.places i.slot.0)) forth back n

      comes : (o : ℕ) (b : Bool) → comes_up t me f.lives o c ≡ b → Up b
      comes o false e forth back n r = r
      comes o true e forth back n r = go (cases_eq (g + 1) i.generation.0) (subst (λ (z : Side). Row z forth back n) before r)
        where
          g : ℕ
          g = f.lives.generation c

          dead : f.lives.lives c ≡ false
          dead = vacant t me o c f.lives e

          before : side f ≡ elsewhere i h g
          before = side_dead i h g (f.lives.lives c) (f.places i.slot.0) (rw dead refl)

          empty : f.places i.slot.0 ≡ Empty
          empty = k.tied.empty i.slot.0 c imported part dead

          later : (g + 1 ≡ i.generation.0 → ⊥) → elsewhere i h g ≡ side_by i h (g + 1) true (f.places i.slot.0)
          later apart =
              either (cases_lt g i.generation.0) ∙ sym (side_dead i h (g + 1) true (f.places i.slot.0) (rw (ne_eqb (g + 1) i.generation.0 apart) refl))
            where
              either : (g < i.generation.0) ⊎ (i.generation.0 ≤ g) → elsewhere i h g ≡ elsewhere i h (g + 1)
              either (inl l) = rw (lt-ltb g i.generation.0 l, lt-ltb (g + 1) i.generation.0 (omega (arith, l, apart))) refl
              either (inr l) = rw (le-ltb g i.generation.0 l, le-ltb (g + 1) i.generation.0 (omega (arith, l))) refl

          go : (g + 1 ≡ i.generation.0) ⊎ (g + 1 ≡ i.generation.0 → ⊥) → Row (elsewhere i h g) forth back n
              → Row (side_by i h (g + 1) true (f.places i.slot.0)) forth back n
          go (inl q) s =
              let now : side_by i h (g + 1) true (f.places i.slot.0) ≡ Apart =
              side_live i h (g + 1) true (f.places i.slot.0) (rw (eq-eqb (g + 1) i.generation.0 q) refl) ∙ ap (tied_as h) empty in
              let early : elsewhere i h g ≡ Unmade = rw (lt-ltb g i.generation.0 (omega (arith, q))) refl in
              subst (λ (z : Side). Row z forth back n) (sym now) (row_made (subst (λ (z : Side). Row z forth back n) early s))
          go (inr q) s = subst (λ (z : Side). Row z forth back n) (later q) s

      made_keeps : (o : ℕ) (ms : List Msg) → AllOffLoan ms → Keeps f ms (record f { lives = lives_made t me o f.lives })
      unfolding lives_made
      made_keeps o ms off =
          by_silent [] f (record f { lives = lives_made t me o f.lives }) ms (side f) (side (record f { lives = lives_made t me o f.lives })) refl refl
          (off_out i h (owner_of t h.slot.0) ms off) (comes o (comes_up t me f.lives o c) refl)

    -- what the end of the container gives back
    abbrev gives : Bool → ImportPlace → List SysKind
    gives b Empty = []
    gives b (Asking y) = if b && is_incarnation h y then kinds.Deport ∷ [] else []
    gives b (Held y) = if b && is_incarnation h y then kinds.Deport ∷ [] else []
    gives b (Leaving y) = []

    gives_none : (p : ImportPlace) → gives false p ≡ []
    gives_none Empty = refl
    gives_none (Asking y) = refl
    gives_none (Held y) = refl
    gives_none (Leaving y) = refl

    given_out : (x : Incarnation) (p : ImportPlace) → out (given_back t me x p) ≡ gives (is_incarnation i x) p
    given_out x Empty = refl
    given_out x (Asking y) = sent_out i h t me Leave x y
    given_out x (Held y) = sent_out i h t me Leave x y
    given_out x (Leaving y) = refl

    plugs_out : (x : Incarnation) (plugs : List Incarnation) → out (ended_plugs t me x plugs) ≡ []
    unfolding forth_of
    plugs_out x plugs =
        emits_none (forth_of i h) (owner_of t h.slot.0) (ended_plugs t me x plugs)
        (all_map (λ (m : Msg). forth_of i h m ≡ []) (λ (j : Incarnation). to_owner t me kinds.ImportEnded (frame_of x) (frame_of j) []) (λ j. no_either _) plugs)

    -- a place that is over sends what it gives back
    over_ends : (p : ImportPlace) (forth back : List SysKind) (n : ℕ) → Row (tied_as h p) forth back n → Row Over (forth ++ gives true p) back n
    over_ends Empty forth back n r = subst (λ (z : List SysKind). Row Over z back n) (sym (append-nil forth)) (row_apart_ends r)
    over_ends (Asking y) forth back n r =
        subst (λ (z : Bool). Row Over (forth ++ (if z then kinds.Deport ∷ [] else [])) back n) (swap_incarnation y h) (go (is_incarnation y h) r)
      where
        go : (b : Bool) → Row (if b then Asks else Apart) forth back n → Row Over (forth ++ (if b then kinds.Deport ∷ [] else [])) back n
        go true q = row_asks_ends q
        go false q = subst (λ (z : List SysKind). Row Over z back n) (sym (append-nil forth)) (row_apart_ends q)
    over_ends (Held y) forth back n r =
        subst (λ (z : Bool). Row Over (forth ++ (if z then kinds.Deport ∷ [] else [])) back n) (swap_incarnation y h) (go (is_incarnation y h) r)
      where
        go : (b : Bool) → Row (if b then Holds else Apart) forth back n → Row Over (forth ++ (if b then kinds.Deport ∷ [] else [])) back n
        go true q = row_holds_ends q
        go false q = subst (λ (z : List SysKind). Row Over z back n) (sym (append-nil forth)) (row_apart_ends q)
    over_ends (Leaving y) forth back n r = subst (λ (z : List SysKind). Row Over z back n) (sym (append-nil forth)) (go (is_incarnation y h) r)
      where
        go : (b : Bool) → Row (if b then Leaves else Apart) forth back n → Row Over forth back n
        go true q = row_leaves_ends q
        go false q = row_apart_ends q

    module _ (f : Frame) where
      back_out : (s : ℕ) → out (flat_map (λ j. given_back t me (incarnation j (f.lives.generation s)) (f.places j)) (imported_parts t s))
          ≡ (if c == s then gives (i.generation.0 == f.lives.generation s) (f.places i.slot.0) else [])
      back_out s =
          emits_flat (forth_of i h) (owner_of t h.slot.0) (λ j. given_back t me (incarnation j (f.lives.generation s)) (f.places j)) (imported_parts t s)
          ∙ picked (λ j. out (given_back t me (incarnation j (f.lives.generation s)) (f.places j))) i.slot.0 alone t (λ j. is_imported t j && is_part_of t j s)
          (λ e. contained_there t i.slot.0 c part)
          ∙ rw (imported, part) (ap (λ (z : List SysKind). if c == s then z else []) this)
        where
          alone : (j : ℕ) → (j == i.slot.0) ≡ false → out (given_back t me (incarnation j (f.lives.generation s)) (f.places j)) ≡ []
          alone j e =
              given_out (incarnation j (f.lives.generation s)) (f.places j)
              ∙ ap (λ (b : Bool). gives (b && (i.generation.0 == f.lives.generation s)) (f.places j)) (swap_eqb i.slot.0 j ∙ e) ∙ gives_none (f.places j)

          this : out (given_back t me (incarnation i.slot.0 (f.lives.generation s)) (f.places i.slot.0)) ≡ gives (i.generation.0 == f.lives.generation s) (f.places i.slot.0)
          this =
              given_out (incarnation i.slot.0 (f.lives.generation s)) (f.places i.slot.0)
              ∙ ap (λ (b : Bool). gives (b && (i.generation.0 == f.lives.generation s)) (f.places i.slot.0)) (eq-eqb i.slot.0 i.slot.0 refl)

      end_out : (s : ℕ) → out (end_messages t me f s) ≡ (if c == s then gives (i.generation.0 == f.lives.generation s) (f.places i.slot.0) else [])
      unfolding end_messages
      end_out s =
          let x : Incarnation = last_of f.lives s in
          let backs : List Msg = flat_map (λ j. given_back t me (incarnation j x.generation.0) (f.places j)) (imported_parts t s) in
          emits_append (forth_of i h) (owner_of t h.slot.0) (ended_plugs t me x (f.plugs s)) (backs ++ announces t me x (pos 0))
          ∙ ap (λ (z : List SysKind). z ++ out (backs ++ announces t me x (pos 0))) (plugs_out x (f.plugs s))
          ∙ emits_append (forth_of i h) (owner_of t h.slot.0) backs (announces t me x (pos 0))
          ∙ ap (λ (z : List SysKind). out backs ++ z) (off_out i h (owner_of t h.slot.0) (announces t me x (pos 0)) (off_announces t me x (pos 0)))
          ∙ append-nil (out backs)
          ∙ back_out s

      down_own : (o : ℕ) → goes_down t me f.lives o c ≡ true → (is_own t me c ≡ true) × (f.lives.lives c ≡ true)
      unfolding goes_down
      down_own o e =
          let p = and_parts (is_own t me c && is_reached t me f.lives o c) (f.lives.lives c) e in
          ((and_parts (is_own t me c) (is_reached t me f.lives o c) p.0).0, p.1)

      ends_out : (o : ℕ) → out (flat_map (end_messages t me f) (ended_slots t me f.lives o))
          ≡ (if goes_down t me f.lives o c then gives (i.generation.0 == f.lives.generation c) (f.places i.slot.0) else [])
      unfolding ended_slots
      ends_out o =
          emits_flat (forth_of i h) (owner_of t h.slot.0) (end_messages t me f) (ended_slots t me f.lives o)
          ∙ picked_down (λ s. out (end_messages t me f s)) c alone t (goes_down t me f.lives o) (λ e. own_in_range t me c (down_own o e).0)
          ∙ ap (λ (z : List SysKind). if goes_down t me f.lives o c then z else []) (end_out c ∙ this)
        where
          alone : (s : ℕ) → (s == c) ≡ false → out (end_messages t me f s) ≡ []
          alone s e = end_out s ∙ ap (λ (b : Bool). if b then gives (i.generation.0 == f.lives.generation s) (f.places i.slot.0) else []) (swap_eqb c s ∙ e)

          this : (if c == c then gives (i.generation.0 == f.lives.generation c) (f.places i.slot.0) else []) ≡ gives (i.generation.0 == f.lives.generation c) (f.places i.slot.0)
          this = ap (λ (b : Bool). if b then gives (i.generation.0 == f.lives.generation c) (f.places i.slot.0) else []) (eq-eqb c c refl)

      place_down : (o : ℕ) → is_place_ended t me f.lives o i.slot.0 ≡ goes_down t me f.lives o c
      place_down o = rw (imported, part) refl

      ended_side : (o : ℕ) → side (frame_ended t me o f)
          ≡ side_by i h (f.lives.generation c) (not (goes_down t me f.lives o c) && f.lives.lives c) (if goes_down t me f.lives o c then Empty else f.places i.slot.0)
      unfolding frame_ended lives_ended
      ended_side o =
          ap (λ (b : Bool). side_by i h (f.lives.generation c) (not (goes_down t me f.lives o c) && f.lives.lives c) (if b then Empty else f.places i.slot.0)) (place_down o)

      abbrev Down : Bool → Type 0
      Down b = (forth back : List SysKind) (n : ℕ) → Row (side f) forth back n
          → Row (side_by i h (f.lives.generation c) (not b && f.lives.lives c) (if b then Empty else f.places i.slot.0)) (forth ++ (if b then gives (i.generation.0 == f.lives.generation c) (f.places i.slot.0) else [])) back n

      ends : (o : ℕ) (b : Bool) → goes_down t me f.lives o c ≡ b → Down b
      ends o false e forth back n r = subst (λ (z : List SysKind). Row (side f) z back n) (sym (append-nil forth)) r
      ends o true e forth back n r =
          subst (λ (z : Side). Row z (forth ++ gives (i.generation.0 == g) p) back n) (sym (side_dead i h g false Empty refl)) (go (i.generation.0 == g) refl)
        where
          g : ℕ
          g = f.lives.generation c

          p : ImportPlace
          p = f.places i.slot.0

          go : (b : Bool) → (i.generation.0 == g) ≡ b → Row (elsewhere i h g) (forth ++ gives b p) back n
          go true d =
              let same : g ≡ i.generation.0 = sym (eqb-true i.generation.0 g d) in
              let over : elsewhere i h g ≡ Over = rw (le-ltb g i.generation.0 (omega (arith, same))) refl in
              let here : side f ≡ tied_as h p = side_live i h g (f.lives.lives c) p (rw ((down_own o e).1, eq-eqb g i.generation.0 same) refl) in
              subst (λ (z : Side). Row z (forth ++ gives true p) back n) (sym over) (over_ends p forth back n (subst (λ (z : Side). Row z forth back n) here r))
          go false d =
              let gone : side f ≡ elsewhere i h g = side_dead i h g (f.lives.lives c) p (rw ((down_own o e).1, swap_eqb g i.generation.0, d) refl) in
              subst (λ (z : List SysKind). Row (elsewhere i h g) z back n) (sym (ap (λ (z : List SysKind). forth ++ z) (gives_none p) ∙ append-nil forth))
              (subst (λ (z : Side). Row z forth back n) gone r)

      ended_keeps : (o : ℕ) (last : Option Msg) → Keeps f (end_set_ended t me f o last).sent (end_set_ended t me f o last).frame
      unfolding end_set_ended
      ended_keeps o last =
          let told : List Msg = flat_map (end_messages t me f) (ended_slots t me f.lives o) in
          let parts : List Msg = flat_map (part_ends t me f) (ended_slots t me f.lives o) in
          let more : List SysKind = if goes_down t me f.lives o c then gives (i.generation.0 == f.lives.generation c) (f.places i.slot.0) else [] in
          by_row [] f (frame_ended t me o f) (told ++ parts) (side f) _ more refl (ended_side o)
          (emits_append (forth_of i h) (owner_of t h.slot.0) told parts ∙ ap (λ (z : List SysKind). z ++ out parts) (ends_out o)
          ∙ ap (λ (z : List SysKind). more ++ z) (off_out i h (owner_of t h.slot.0) parts (off_part_ends t me f (ended_slots t me f.lives o))) ∙ append-nil more)
          (ends o (goes_down t me f.lives o c) refl)

      -- answers
      abbrev HeardIn : List SysKind → Done (ℕ → ImportPlace) → Type 0
      HeardIn toks r = Hears toks f r.sent (record f { places = r.now })

      container_live : is_container_live t f.lives (frame_of i) ≡ (f.lives.lives c && (f.lives.generation c == i.generation.0))
      container_live = rw part refl

      now_here : (next : ImportPlace) → updated f.places i.slot.0 next i.slot.0 ≡ next
      unfolding updated
      now_here next = rw (eq-eqb i.slot.0 i.slot.0 refl) refl

      -- an answer of the home to the place
      module _ (k : SysKind) (s after : Side) (not_unmade : s ≡ Unmade → ⊥) (not_over : s ≡ Over → ⊥) (fits : Bool) (next : ImportPlace) (m : Msg) (off : IsOffLoan m)
          (fit_of : tied_as h (f.places i.slot.0) ≡ s → fits ≡ true) (of_fit : fits ≡ true
          → tied_as h (f.places i.slot.0) ≡ s) (now : tied_as h next ≡ after)
          (yes : (forth back : List SysKind) (n : ℕ) → Row s forth (k ∷ back) n → Row after forth back n)
          (no : (a : Side) (forth back : List SysKind) (n : ℕ) → (a ≡ s → ⊥) → Row a forth (k ∷ back) n → Row a forth back n) where
        waits_not : (is_container_live t f.lives (frame_of i) && fits) ≡ false → side f ≡ s → ⊥
        waits_not e q =
            let r = side_tied i h s not_unmade not_over (f.lives.generation c) (f.lives.lives c) (f.places i.slot.0) q in
            let live : is_container_live t f.lives (frame_of i) ≡ true = container_live ∙ r.0 in
            let fit : fits ≡ true = fit_of r.1 in
            not_true_false (is_container_live t f.lives (frame_of i) && fits) (ap (λ (z : Bool). z && fits) live ∙ fit) e

        heard_here : HeardIn (k ∷ []) (heard t f.lives f.places (frame_of i) fits next m)
        heard_here = go (is_container_live t f.lives (frame_of i) && fits) refl
          where
            go : (b : Bool) → (is_container_live t f.lives (frame_of i) && fits) ≡ b
                → HeardIn (k ∷ []) (if b then record { now = updated f.places i.slot.0 next; sent = m ∷ [] } else record { now = f.places; sent = [] })
            go true e =
                let p = and_parts (is_container_live t f.lives (frame_of i)) fits e in
                let live : (f.lives.lives c && (f.lives.generation c == i.generation.0)) ≡ true = sym container_live ∙ p.0 in
                by_silent (k ∷ []) f (record f { places = updated f.places i.slot.0 next }) (m ∷ []) s after
                (side_live i h (f.lives.generation c) (f.lives.lives c) (f.places i.slot.0) live ∙ of_fit p.1)
                (side_live i h (f.lives.generation c) (f.lives.lives c) (updated f.places i.slot.0 next i.slot.0) live ∙ ap (tied_as h) (now_here next) ∙ now)
                (off_out i h (owner_of t h.slot.0) (m ∷ []) (off, tt)) yes
            go false e = by_silent (k ∷ []) f f [] (side f) (side f) refl refl refl (λ forth back n r. no (side f) forth back n (waits_not e) r)

      -- an answer on another loan
      heard_other : (b : Endpoint) (fits : Bool) (next : ImportPlace) (m : Msg) → IsOffLoan m
          → (is_incarnation i (whose b) ≡ true → fits ≡ true → (tied_as h (f.places b.slot.0) ≡ Apart) × (tied_as h next ≡ Apart))
          → HeardIn [] (heard t f.lives f.places b fits next m)
      unfolding updated
      heard_other b fits next m off apart = go (is_container_live t f.lives b && fits) refl (i.slot.0 == b.slot.0) refl
        where
          none : out (m ∷ []) ≡ []
          none = off_out i h (owner_of t h.slot.0) (m ∷ []) (off, tt)

          g : ℕ
          g = f.lives.generation c

          l : Bool
          l = f.lives.lives c

          same_slot : (is_container_live t f.lives b && fits) ≡ true → (i.slot.0 == b.slot.0) ≡ true → (live : Bool)
              → (l && (g == i.generation.0)) ≡ live
              → side_by i h g l next ≡ side_by i h g l (f.places i.slot.0)
          same_slot e d false q = side_dead i h g l next q ∙ sym (side_dead i h g l (f.places i.slot.0) q)
          same_slot e d true q =
              let p = and_parts (is_container_live t f.lives b) fits e in
              let slot : i.slot.0 ≡ b.slot.0 = eqb-true i.slot.0 b.slot.0 d in
              let live : (l && (g == b.generation.0)) ≡ true =
              subst (λ (o : Option ℕ). (f.lives.lives (option_map_or (λ k. k) o 0) && (f.lives.generation (option_map_or (λ k. k) o 0) == b.generation.0)) ≡ true)
              (ap (container_of t) (sym slot) ∙ part) p.0 in
              let gens : i.generation.0 ≡ b.generation.0 =
              sym (eqb-true g i.generation.0 (and_parts l (g == i.generation.0) q).1) ∙ eqb-true g b.generation.0 (and_parts l (g == b.generation.0) live).1 in
              let a = apart (rw (d, eq-eqb i.generation.0 b.generation.0 gens) refl) p.1 in
              side_live i h g l next q ∙ a.1 ∙ sym (side_live i h g l (f.places i.slot.0) q ∙ ap (λ n. tied_as h (f.places n)) slot ∙ a.0)

          go : (z : Bool) → (is_container_live t f.lives b && fits) ≡ z → (y : Bool) → (i.slot.0 == b.slot.0) ≡ y
              → HeardIn [] (if z then record { now = λ n. if n == b.slot.0 then next else f.places n; sent = m ∷ [] } else record { now = f.places; sent = [] })
          go false e y d = stays f f [] refl refl
          go true e false d = stays f (record f { places = λ n. if n == b.slot.0 then next else f.places n }) (m ∷ []) (rw d refl) none
          go true e true d =
              stays f (record f { places = λ n. if n == b.slot.0 then next else f.places n }) (m ∷ [])
              (ap (λ (y : Bool). side_by i h g l (if y then next else f.places i.slot.0)) d ∙ same_slot e d (l && (g == i.generation.0)) refl) none

      -- an answer, on whichever loan
      module _ (k : SysKind) (fits : Incarnation → ImportPlace → Bool) (next : Incarnation → ImportPlace) (tell : Endpoint → Endpoint → Msg) (off : (a b : Endpoint) → IsOffLoan (tell a b))
          (here : HeardIn (k ∷ []) (heard t f.lives f.places (frame_of i) (fits h (f.places i.slot.0)) (next h) (tell (frame_of h) (frame_of i))))
          (other : (x : Incarnation) → is_incarnation h x ≡ false → (p : ImportPlace) → fits x p ≡ true
          → (tied_as h p ≡ Apart) × (tied_as h (next x) ≡ Apart)) where
        abbrev heard_by : Endpoint → Endpoint → Done (ℕ → ImportPlace)
        heard_by a b = heard t f.lives f.places b (fits (whose a) (f.places b.slot.0)) (next (whose a)) (tell a b)

        heard_on : (a b : Endpoint) → is_frame a ≡ true → is_frame b ≡ true
            → HeardIn (if goes_between h i (Some a) b then k ∷ [] else []) (heard_by a b)
        heard_on a b fa fb = go (is_incarnation h (whose a)) refl (is_incarnation i (whose b)) refl
          where
            toks : (x : Bool) → is_incarnation h (whose a) ≡ x → (y : Bool) → is_incarnation i (whose b) ≡ y
                → (if goes_between h i (Some a) b then k ∷ [] else []) ≡ (if x && y then k ∷ [] else [])
            toks x e y d =
                ap (λ (z : Bool). if z then k ∷ [] else [])
                (ap (λ (z : Bool). ((z && is_frame b) && is_incarnation h (whose a)) && is_incarnation i (whose b)) fa
                ∙ ap (λ (z : Bool). (z && is_incarnation h (whose a)) && is_incarnation i (whose b)) fb
                ∙ ap (λ (z : Bool). z && is_incarnation i (whose b)) e ∙ ap (λ (z : Bool). x && z) d)

            meant : is_incarnation h (whose a) ≡ true → is_incarnation i (whose b) ≡ true → HeardIn (k ∷ []) (heard_by a b)
            meant e d =
                subst (λ (z : Endpoint). HeardIn (k ∷ []) (heard_by a z)) (sym (same_frame b i fb d))
                (subst (λ (z : Endpoint). HeardIn (k ∷ []) (heard_by z (frame_of i))) (sym (same_frame a h fa e)) here)

            go : (x : Bool) → is_incarnation h (whose a) ≡ x → (y : Bool) → is_incarnation i (whose b) ≡ y
                → HeardIn (if goes_between h i (Some a) b then k ∷ [] else []) (heard_by a b)
            go true e true d = subst (λ (z : List SysKind). HeardIn z (heard_by a b)) (sym (toks true e true d)) (meant e d)
            go true e false d =
                subst (λ (z : List SysKind). HeardIn z (heard_by a b)) (sym (toks true e false d))
                (heard_other b (fits (whose a) (f.places b.slot.0)) (next (whose a)) (tell a b) (off a b) (λ is fit. absurd (not_true_false (is_incarnation i (whose b)) is d)))
            go false e y d =
                subst (λ (z : List SysKind). HeardIn z (heard_by a b)) (sym (toks false e y d))
                (heard_other b (fits (whose a) (f.places b.slot.0)) (next (whose a)) (tell a b) (off a b) (λ is fit. other (whose a) e (f.places b.slot.0) fit))

      back_frames : (a b : Endpoint) → is_back t me a b ≡ true → (is_frame a ≡ true) × (is_frame b ≡ true)
      back_frames a b e =
          let p = and_parts (is_frame b && is_frame a && is_imported t b.slot.0 && is_home t a.slot.0) (is_own t me b.slot.0) e in
          let q = and_parts (is_frame b && is_frame a && is_imported t b.slot.0) (is_home t a.slot.0) p.0 in
          let r = and_parts (is_frame b && is_frame a) (is_imported t b.slot.0) q.0 in
          let s = and_parts (is_frame b) (is_frame a) r.0 in
          (s.1, s.0)

      done_hears : (a b : Endpoint) → is_back t me a b ≡ true
          → HeardIn (if goes_between h i (Some a) b then kinds.ImportDone ∷ [] else []) (import_done t me f.lives f.places a b)
      unfolding import_done
      done_hears a b form =
          let tell : Endpoint → Endpoint → Msg = λ x y. told_of t me Imported x (container_frame t y) y.slot.0 (id_of (whose x)) in
          let fr = back_frames a b form in
          heard_on kinds.ImportDone is_asking (λ x. Held x) tell (λ x y. (refl, refl))
          (heard_here kinds.ImportDone Asks Holds (λ q. absurd cc) (λ q. absurd cc) (is_asking h (f.places i.slot.0)) (Held h) (tell (frame_of h) (frame_of i)) (refl, refl)
          (asks_is h (f.places i.slot.0)) (is_asks h (f.places i.slot.0)) (ap (λ (z : Bool). if z then Holds else Apart) (itself h))
          (λ forth back n r. row_granted r) (λ x forth back n not r. row_not_granted x not r))
          (λ x e p q. (ask_other h x e p q, ap (λ (z : Bool). if z then Holds else Apart) (swap_incarnation x h ∙ e))) a b fr.0 fr.1

      refused_hears : (a b : Endpoint) (n : ℤ) → is_back t me a b ≡ true
          → HeardIn (if goes_between h i (Some a) b then (if is_code StaleId n || is_code PortTaken n then kinds.ImportRefused ∷ [] else []) else []) (import_refused t me f.lives f.places a b n)
      unfolding import_refused
      refused_hears a b n form = go (is_code StaleId n || is_code PortTaken n)
        where
          none : (z : Bool) (l : Bool) → HeardIn (if z then [] else []) (if l && false then record { now = updated f.places b.slot.0 Empty; sent = told_of t me Refused a (container_frame t b) b.slot.0 n ∷ [] } else record { now = f.places; sent = [] })
          none true true = stays f f [] refl refl
          none true false = stays f f [] refl refl
          none false true = stays f f [] refl refl
          none false false = stays f f [] refl refl

          known : HeardIn (if goes_between h i (Some a) b then kinds.ImportRefused ∷ [] else []) (heard t f.lives f.places b (is_asking (whose a) (f.places b.slot.0)) Empty (told_of t me Refused a (container_frame t b) b.slot.0 n))
          known =
              let tell : Endpoint → Endpoint → Msg = λ x y. told_of t me Refused x (container_frame t y) y.slot.0 n in
              let fr = back_frames a b form in
              heard_on kinds.ImportRefused is_asking (λ x. Empty) tell (λ x y. (refl, refl))
              (heard_here kinds.ImportRefused Asks Apart (λ q. absurd cc) (λ q. absurd cc) (is_asking h (f.places i.slot.0)) Empty (tell (frame_of h) (frame_of i)) (refl, refl)
              (asks_is h (f.places i.slot.0)) (is_asks h (f.places i.slot.0)) refl
              (λ forth back n r. row_refused r) (λ x forth back n not r. row_not_refused x not r))
              (λ x e p q. (ask_other h x e p q, refl)) a b fr.0 fr.1

          go : (z : Bool) → HeardIn (if goes_between h i (Some a) b then (if z then kinds.ImportRefused ∷ [] else []) else []) (heard t f.lives f.places b (z && is_asking (whose a) (f.places b.slot.0)) Empty (told_of t me Refused a (container_frame t b) b.slot.0 n))
          go true = known
          go false = none (goes_between h i (Some a) b) (is_container_live t f.lives b)

      ended_hears : (a b : Endpoint) → is_back t me a b ≡ true
          → HeardIn (if goes_between h i (Some a) b then kinds.ImportEnded ∷ [] else []) (import_ended t me f.lives f.places a b)
      unfolding import_ended
      ended_hears a b form =
          let tell : Endpoint → Endpoint → Msg = λ x y. told_of t me Ended x (container_frame t y) y.slot.0 (id_of (whose x)) in
          let fr = back_frames a b form in
          heard_on kinds.ImportEnded is_held (λ x. Empty) tell (λ x y. (refl, refl))
          (heard_here kinds.ImportEnded Holds Apart (λ q. absurd cc) (λ q. absurd cc) (is_held h (f.places i.slot.0)) Empty (tell (frame_of h) (frame_of i)) (refl, refl)
          (holds_is h (f.places i.slot.0)) (is_holds h (f.places i.slot.0)) refl
          (λ forth back n r. row_bereft r) (λ x forth back n not r. row_not_bereft x not r))
          (λ x e p q. (hold_other h x e p q, refl)) a b fr.0 fr.1

      freed_hears : (a b : Endpoint) → is_back t me a b ≡ true
          → HeardIn (if goes_between h i (Some a) b then kinds.DeportDone ∷ [] else []) (deport_done t me f.lives f.places a b)
      unfolding deport_done
      freed_hears a b form =
          let tell : Endpoint → Endpoint → Msg = λ x y. told_of t me Deported x (container_frame t y) y.slot.0 (id_of (whose x)) in
          let fr = back_frames a b form in
          heard_on kinds.DeportDone is_leaving (λ x. Empty) tell (λ x y. (refl, refl))
          (heard_here kinds.DeportDone Leaves Apart (λ q. absurd cc) (λ q. absurd cc) (is_leaving h (f.places i.slot.0)) Empty (tell (frame_of h) (frame_of i)) (refl, refl)
          (leaves_is h (f.places i.slot.0)) (is_leaves h (f.places i.slot.0)) refl
          (λ forth back n r. row_freed r) (λ x forth back n not r. row_not_freed x not r))
          (λ x e p q. (leave_other h x e p q, refl)) a b fr.0 fr.1

    -- the duties
    module _ (home : is_home t h.slot.0 ≡ true) (mine : is_own t me i.slot.0 ≡ true) (f : Frame) (k : LendsSo t f) (m : Msg) where
      abbrev KeepsIn : FrameDone → Type 0
      KeepsIn r = Keeps f r.sent r.frame

      none_keeps : Keeps f [] f
      none_keeps = stays f f [] refl refl

      off_keeps : (ms : List Msg) → AllOffLoan ms → (g : Frame) → side g ≡ side f → Keeps f ms g
      off_keeps ms off g same = stays f g ms same (off_out i h (owner_of t h.slot.0) ms off)

      create_keeps : (o : ℕ) (x : Endpoint) → KeepsIn (with_lives f (create t me f.lives m o x))
      unfolding create made part_make
      create_keeps o x = go (counts_as_live t me f.lives (whose x)) (f.lives.lives o) (off_create t me f.lives m o x)
        where
          go : (a b : Bool)
              → AllOffLoan (
              if not a then answered f.lives (reply me m kinds.CreateRefused (frame_at o 0) x (coded NotHere))
              else if b then answered f.lives (reply me m kinds.CreateRefused (frame_at o 0) x (coded Occupied))
              else made t me f.lives m o x).sent
              → KeepsIn (with_lives f (
              if not a then answered f.lives (reply me m kinds.CreateRefused (frame_at o 0) x (coded NotHere))
              else if b then answered f.lives (reply me m kinds.CreateRefused (frame_at o 0) x (coded Occupied))
              else made t me f.lives m o x))
          go false b off = off_keeps [] tt f refl
          go true true off = off_keeps [] tt f refl
          go true false off = made_keeps f k o _ off

      part_keeps : (o : ℕ) → KeepsIn (with_lives f (part_make t me f.lives o))
      unfolding part_make
      part_keeps o = made_keeps f k o _ (off_part_make t me f.lives o)

      destroy_keeps : (o : ℕ) (x : Endpoint) → KeepsIn (destroy t me f m o x)
      unfolding destroy
      destroy_keeps o x = go (not (counts_as_live t me f.lives (whose x)) || not (f.lives.lives o))
        where
          go : (a : Bool) → KeepsIn (
              if a then record { frame = f; sent = []; made = []; ended = []; last = Some (reply me m kinds.DestroyDone (frame_at o 0) x (coded NotHere)) }
              else end_set_ended t me f o (Some (reply me m kinds.DestroyDone (frame_of (last_of f.lives o)) x (pos 0 ∷ []))))
          go true = none_keeps
          go false = ended_keeps f o _

      part_end_keeps : (o : ℕ) → KeepsIn (part_end t me f o)
      unfolding part_end
      part_end_keeps o = ended_keeps f o None

      -- what a home here does isn't sent forth
      abbrev PluggedIn : Done (ℕ → List Incarnation) → Type 0
      PluggedIn r = Keeps f r.sent (record f { plugs = r.now })

      import_keeps : (a b : Endpoint) → PluggedIn (import t me f.lives f.plugs m a b)
      unfolding import forth_of
      import_keeps a b = go (is_live f.lives (whose b)) (is_port_taken t (f.plugs b.slot.0) (whose a) (whose b))
        where
          go : (x y : Bool) → PluggedIn (
              if not x then record { now = f.plugs; sent = reply me m kinds.ImportRefused b a (coded StaleId) ∷ [] }
              else if y then record { now = f.plugs; sent = reply me m kinds.ImportRefused b a (coded PortTaken) ∷ [] }
              else record { now = updated f.plugs b.slot.0 (f.plugs b.slot.0 ++ whose a ∷ []); sent = reply me m kinds.ImportDone b a [] ∷ [] })
          go false y = stays f _ _ refl (emits_none (forth_of i h) (owner_of t h.slot.0) (reply me m kinds.ImportRefused b a (coded StaleId) ∷ []) (no_either _, tt))
          go true true = stays f _ _ refl (emits_none (forth_of i h) (owner_of t h.slot.0) (reply me m kinds.ImportRefused b a (coded PortTaken) ∷ []) (no_either _, tt))
          go true false = stays f _ _ refl (emits_none (forth_of i h) (owner_of t h.slot.0) (reply me m kinds.ImportDone b a [] ∷ []) (no_either _, tt))

      deport_keeps : (a b : Endpoint) → PluggedIn (deport me f.lives f.plugs m a b)
      unfolding deport forth_of
      deport_keeps a b = stays f _ _ refl (emits_none (forth_of i h) (owner_of t h.slot.0) (reply me m kinds.DeportDone b a [] ∷ []) (no_either _, tt))

      -- an answer of the pair has the form that the duty wants
      back_fits : (a b : Endpoint) → goes_between h i (Some a) b ≡ true → is_back t me a b ≡ true
      back_fits a b e =
          let p = and_parts (is_frame a && is_frame b && is_incarnation h (whose a)) (is_incarnation i (whose b)) e in
          let q = and_parts (is_frame a && is_frame b) (is_incarnation h (whose a)) p.0 in
          let r = and_parts (is_frame a) (is_frame b) q.0 in
          let x : h.slot.0 ≡ a.slot.0 = eqb-true h.slot.0 a.slot.0 (and_parts (h.slot.0 == a.slot.0) (h.generation.0 == a.generation.0) q.1).0 in
          let y : i.slot.0 ≡ b.slot.0 = eqb-true i.slot.0 b.slot.0 (and_parts (i.slot.0 == b.slot.0) (i.generation.0 == b.generation.0) p.1).0 in
          and_all (is_frame b) (is_frame a) (is_imported t b.slot.0) (is_home t a.slot.0) (is_own t me b.slot.0) r.1 r.0
          (subst (λ n. is_imported t n ≡ true) y imported) (subst (λ n. is_home t n ≡ true) x home) (subst (λ n. is_own t me n ≡ true) y mine)
        where
          and_all : (p q r s u : Bool) → p ≡ true → q ≡ true → r ≡ true → s ≡ true → u ≡ true → ((((p && q) && r) && s) && u) ≡ true
          and_all true true true true true a b c d e = refl
          and_all false q r s u a b c d e = absurd cc
          and_all true false r s u a b c d e = absurd cc
          and_all true true false s u a b c d e = absurd cc
          and_all true true true false u a b c d e = absurd cc
          and_all true true true true false a b c d e = absurd cc

      silent : (z : Bool) (xs : List SysKind) → xs ≡ [] → (g : Frame) (ms : List Msg) → Keeps f ms g → Hears (if z then xs else []) f ms g
      silent z xs e g ms p = subst (λ (y : List SysKind). Hears y f ms g) (sym (go z)) p
        where
          go : (z : Bool) → (if z then xs else []) ≡ []
          go true = e
          go false = refl

      plain_hears : (z fits : Bool) → (z ≡ true → fits ≡ true) → (kind : SysKind) (numbers : List ℤ → List SysKind) → numbers [] ≡ kind ∷ []
          → ((n : ℤ) (ns : List ℤ) → numbers (n ∷ ns) ≡ [])
          → (r : FrameDone) → (fits ≡ true → Hears (if z then kind ∷ [] else []) f r.sent r.frame) → (payload : List ℤ)
          → Hears (if z then numbers payload else []) f (plainly f fits payload r).sent (plainly f fits payload r).frame
      plain_hears z fits form kind numbers one none r p (n ∷ ns) = silent z (numbers (n ∷ ns)) (none n ns) f [] none_keeps
      plain_hears z fits form kind numbers one none r p [] =
          subst (λ (xs : List SysKind). Hears (if z then xs else []) f (plainly f fits [] r).sent (plainly f fits [] r).frame) (sym one) (go fits refl z refl)
        where
          go : (x : Bool) → fits ≡ x → (y : Bool) → z ≡ y → Hears (if z then kind ∷ [] else []) f (plainly f x [] r).sent (plainly f x [] r).frame
          go true e y d = p e
          go false e true d = absurd (not_true_false fits (form d) e)
          go false e false d = subst (λ (b : Bool). Hears (if b then kind ∷ [] else []) f [] f) (sym d) none_keeps

      refused_by : (z fits : Bool) → (z ≡ true → fits ≡ true) → (done : ℤ → Done (ℕ → ImportPlace))
          → ((n : ℤ) → fits ≡ true → Hears (if z then (if is_code StaleId n || is_code PortTaken n then kinds.ImportRefused ∷ [] else []) else []) f (done n).sent (record f { places = (done n).now }))
          → (payload : List ℤ)
          → Hears (if z then kind_back (Some kinds.ImportRefused) payload else []) f (with_number f fits payload (λ n. with_places f (done n))).sent (with_number f fits payload (λ n. with_places f (done n))).frame
      refused_by z fits form done p [] = silent z [] refl f [] none_keeps
      refused_by z fits form done p (n ∷ (j ∷ ns)) = silent z [] refl f [] none_keeps
      refused_by z fits form done p (n ∷ []) = go fits refl z refl
        where
          go : (x : Bool) → fits ≡ x → (y : Bool) → z ≡ y
              → Hears (if z then (if is_code StaleId n || is_code PortTaken n then kinds.ImportRefused ∷ [] else []) else []) f (with_number f x (n ∷ []) (λ n. with_places f (done n))).sent (with_number f x (n ∷ []) (λ n. with_places f (done n))).frame
          go true e y d = p n e
          go false e true d = absurd (not_true_false fits (form d) e)
          go false e false d = subst (λ (b : Bool). Hears (if b then (if is_code StaleId n || is_code PortTaken n then kinds.ImportRefused ∷ [] else []) else []) f [] f) (sym d) none_keeps

      abbrev HearsIn : SysKind → Endpoint → Endpoint → Type 0
      HearsIn kind a b =
          Hears (if goes_between h i (Some a) b then kind_back (Some kind) m.payload else []) f (frame_duty_of t me f m kind a b).sent (frame_duty_of t me f m kind a b).frame

      duty_of_hears : (kind : SysKind) (a b : Endpoint) → HearsIn kind a b
      duty_of_hears kinds.Create a b = silent (goes_between h i (Some a) b) [] refl _ _ (by_plainly t me f KeepsIn none_keeps _ m.payload _ (λ e. create_keeps b.slot.0 a))
      duty_of_hears kinds.Destroy a b = silent (goes_between h i (Some a) b) [] refl _ _ (by_plainly t me f KeepsIn none_keeps _ m.payload _ (λ e. destroy_keeps b.slot.0 a))
      duty_of_hears kinds.CreateDone a b = silent (goes_between h i (Some a) b) [] refl _ _ (by_plainly t me f KeepsIn none_keeps _ m.payload _ (λ e. off_keeps _ (off_create_done t me a b) f refl))
      duty_of_hears kinds.CreateRefused a b = silent (goes_between h i (Some a) b) [] refl _ _ (by_number t me f KeepsIn none_keeps _ m.payload _ (λ n. off_keeps _ (off_create_refused t me a b n) f refl))
      duty_of_hears kinds.DestroyDone a b =
          silent (goes_between h i (Some a) b) [] refl _ _
          (by_number t me f KeepsIn none_keeps _ m.payload _ (λ n. by_natural t me f KeepsIn none_keeps n _ (λ j. off_keeps _ (off_destroy_done t me a b j) f refl)))
      duty_of_hears kinds.Import a b = silent (goes_between h i (Some a) b) [] refl _ _ (by_plainly t me f KeepsIn none_keeps _ m.payload _ (λ e. import_keeps a b))
      duty_of_hears kinds.Deport a b = silent (goes_between h i (Some a) b) [] refl _ _ (by_plainly t me f KeepsIn none_keeps _ m.payload _ (λ e. deport_keeps a b))
      duty_of_hears kinds.ImportDone a b =
          plain_hears (goes_between h i (Some a) b) (is_back t me a b) (back_fits a b) kinds.ImportDone (λ ns. kind_back (Some kinds.ImportDone) ns) refl (λ n ns. refl)
          _ (λ e. done_hears f a b e) m.payload
      duty_of_hears kinds.ImportRefused a b =
          refused_by (goes_between h i (Some a) b) (is_back t me a b) (back_fits a b) (λ n. import_refused t me f.lives f.places a b n) (λ n e. refused_hears f a b n e) m.payload
      duty_of_hears kinds.ImportEnded a b =
          plain_hears (goes_between h i (Some a) b) (is_back t me a b) (back_fits a b) kinds.ImportEnded (λ ns. kind_back (Some kinds.ImportEnded) ns) refl (λ n ns. refl)
          _ (λ e. ended_hears f a b e) m.payload
      duty_of_hears kinds.DeportDone a b =
          plain_hears (goes_between h i (Some a) b) (is_back t me a b) (back_fits a b) kinds.DeportDone (λ ns. kind_back (Some kinds.DeportDone) ns) refl (λ n ns. refl)
          _ (λ e. freed_hears f a b e) m.payload
      duty_of_hears kinds.Announce a b =
          silent (goes_between h i (Some a) b) [] refl _ _
          (by_number t me f KeepsIn none_keeps _ m.payload _ (λ n. by_natural t me f KeepsIn none_keeps n _ (λ j. off_keeps [] tt _ refl)))
      duty_of_hears kinds.Register a b = silent (goes_between h i (Some a) b) [] refl f [] none_keeps
      duty_of_hears kinds.Withdraw a b = silent (goes_between h i (Some a) b) [] refl f [] none_keeps
      duty_of_hears kinds.Bound a b = silent (goes_between h i (Some a) b) [] refl f [] none_keeps
      duty_of_hears kinds.Ended a b = silent (goes_between h i (Some a) b) [] refl f [] none_keeps
      duty_of_hears kinds.NameReply a b = silent (goes_between h i (Some a) b) [] refl f [] none_keeps
      duty_of_hears kinds.PartMake a b = silent (goes_between h i (Some a) b) [] refl _ _ (by_plainly t me f KeepsIn none_keeps _ m.payload _ (λ e. part_keeps a.slot.0))
      duty_of_hears kinds.PartEnd a b = silent (goes_between h i (Some a) b) [] refl _ _ (by_plainly t me f KeepsIn none_keeps _ m.payload _ (λ e. part_end_keeps a.slot.0))

      duty_from_hears : (kind : SysKind) (o : Option Endpoint)
          → Hears (if goes_between h i o m.target then kind_back (Some kind) m.payload else []) f (frame_duty_from t me f m kind o).sent (frame_duty_from t me f m kind o).frame
      duty_from_hears kind None = none_keeps
      duty_from_hears kind (Some a) = duty_of_hears kind a m.target

      duty_hears : (m.prio.0 == 0) ≡ true → (kind : SysKind) → slice_get all_kinds m.signal ≡ Some kind
          → Hears (back_of i h m) f (frame_duty t me f kind m).sent (frame_duty t me f kind m).frame
      unfolding frame_duty back_of
      duty_hears zero kind is =
          subst (λ (xs : List SysKind). Hears xs f (frame_duty_from t me f m kind m.source).sent (frame_duty_from t me f m kind m.source).frame) (sym toks) (duty_from_hears kind m.source)
        where
          toks : (if (m.prio.0 == 0) && goes_between h i m.source m.target then kind_back (slice_get all_kinds m.signal) m.payload else [])
              ≡ (if goes_between h i m.source m.target then kind_back (Some kind) m.payload else [])
          toks =
              ap (λ (z : Bool). if z && goes_between h i m.source m.target then kind_back (slice_get all_kinds m.signal) m.payload else []) zero
              ∙ ap (λ (o : Option SysKind). if goes_between h i m.source m.target then kind_back o m.payload else []) is

    module _ {M : Type 0} (model : Behaviour M) (clear : IsOpen model) where
      pub treat_hears : is_home t h.slot.0 ≡ true → is_own t me i.slot.0 ≡ true → (b : Body M) (m : Msg) → LendsSo t b.frame
          → Hears (back_of i h m) b.frame (treat model t me b m).sent (treat model t me b m).body.frame
      treat_hears home mine b m k =
          turn_walks t me (Hears []) keeping model clear (Hears (back_of i h m)) (λ f g l x y p q. both (back_of i h m) f g l x y p q) b m
          (λ off. subst (λ (xs : List SysKind). Hears xs b.frame [] b.frame) (sym (off_back i h m off)) (stays b.frame b.frame [] refl refl))
          (λ zero kind is. duty_hears home mine b.frame k m zero kind is)

      pub start_keeps : Keeps (first_frame t me) (first_state model t me).outbox (first_state model t me).body.frame
      start_keeps = start_walks t me (Hears []) keeping model clear

  -- what it says of a row
  pub hears_row : (toks : List SysKind) (f g : Frame) (ms : List Msg) → Hears toks f ms g → (forth back : List SysKind) (n : ℕ)
      → Row (side f) forth (toks ++ back) n → Row (side g) (forth ++ out ms) back n
  unfolding Hears
  hears_row toks f g ms p forth back n r = p forth back n r
