-- What the frame service sends has its inner form.
use Rattle.std.proofs.Common.{◌≡◌, ℕ, ◌+◌, ◌≤◌, ◌==◌, ◌&&◌, ◌||◌, Bool, true, false, not, if◌then◌else◌, List, [], ◌∷◌, ◌++◌, map, filter, flat_map, length, slice_get, Option, Some, None, ℤ, pos, inl, inr, refl, sym, subst, eq-eqb, arith}
use Rattle.std.specs.List.{AllByRecursion, range_with_len}
use Rattle.std.specs.Option.{option_map_or}
use Rattle.std.proofs.lemmas.Bool.{and_parts, ne_eqb}
use Rattle.room_kinds.specs.declared.message.Msg.{Msg}
use Rattle.room_kinds.specs.declared.numbers.Incarnation.{Incarnation}
use Rattle.room_kinds.specs.declared.numbers.Endpoint.{Endpoint}
use Rattle.room_kinds.specs.declared.system.SysKind.{SysKind}
use Rattle.room_kinds.specs.declared.system.SysKind.TheVariants as kinds
use Rattle.room_kinds.specs.declared.command.FrameCommand.{FrameCommand}
use Rattle.room_kinds.specs.declared.command.FrameCommand.TheVariants as frames
use Rattle.room_kinds.specs.Kinds.{number_of}
use Rattle.room_wiring.specs.declared.tables.Tables.{Tables}
use Rattle.room_wiring.specs.Places.{is_told}
use Rattle.actor_duties.specs.Words.{incarnation, frame_at, frame_of, whose, is_frame, is_own, is_optional, is_imported, is_home, is_part_of, owner_of, part_at, of_id, slots_of}
use Rattle.actor_duties.specs.State.{Lives, Frame, ImportPlace, Empty, Asking, Held, Leaving, Done}
use Rattle.actor_duties.specs.Messages.{Code, reply, to_owner, coded, is_code, NotHere, Occupied, StaleId, PortTaken}
use Rattle.actor_duties.specs.Lives.{is_live, last_of, answered, counts_as_live, comes_up, made_slots, lives_made, ended_slots, goes_down, announce_to, announces, told_controllers, has_part, part_told_to, parts_told, part_controllers, create, made, part_make, create_done, create_refused, destroy_done}
use Rattle.actor_duties.specs.Imports.{tied_home, is_port_taken, import, deport, imported_parts, ended_plugs, given_back, heard, is_container_live, import_done, import_refused, import_ended, deport_done}
use Rattle.actor_duties.specs.Frame.{FrameDone, nothing, with_lives, end_messages, part_ends, end_set_ended, destroy, part_end, is_request, is_forth, is_part_told, frame_duty_of, frame_duty_from, frame_duty, asked_of, incarnate, destroy_command, import_code, import_with, import_into, import_command, deport_from, deport_of, deport_command, frame_request}
use Rattle.actor_world.specs.Turns.{all_kinds}
use Rattle.actor_world.proofs.LifeSteps.{IsSound, up_parts, down_parts}
use Rattle.law_agreement.proofs.Lists.{all_append, all_map, all_flat, all_passed, all_reverse, all_unit, flat_after_map}
use Rattle.law_agreement.proofs.Duties.{request_parts, by_plainly, by_number, by_natural}
use Rattle.law_agreement.proofs.Below.{made_itself}
use Rattle.actor_world.proofs.TrueTurns.{own_owner}
use Rattle.law_agreement.proofs.Telling.{other_owner}
use Rattle.law_agreement.proofs.Routing.{part_of_at}
use Rattle.law_definitions.specs.message_forms.Forms.{AreFrames, IsRequest, IsAnswer, TellsLife}
use Rattle.law_definitions.proofs.message_forms.Inner.{Inner, InnerOf, IsSent, AllSent, open_sent, sent_as, sent_if, done_sent_if, form_as}

-- what closes a duty has its form
abbrev pub LastSent : Tables → ℕ → Option Msg → Type 0
LastSent t me None = Unit {0}
LastSent t me (Some m) = IsSent t me m

-- all that a duty sends has its form
pub record DutySent (t : Tables) (me : ℕ) (r : FrameDone) : Type 0 where
  pub sent : AllSent t me r.sent
  pub last : LastSent t me r.last

-- what a row sends has its form
abbrev RowSent : {C : Type 0} → Tables → ℕ → Done C → Type 0
RowSent t me r = AllSent t me r.sent

-- the frames of two endpoints that a form names first
request_frames : (t : Tables) (me : ℕ) (x o : Endpoint) → is_request t me x o ≡ true → AreFrames x o
request_frames t me x o h =
    let a = and_parts (is_frame x && is_frame o && (o.generation.0 == 0) && is_optional t o.slot.0 && is_own t me o.slot.0) (is_part_of t o.slot.0 x.slot.0) h in
    let b = and_parts (is_frame x && is_frame o && (o.generation.0 == 0) && is_optional t o.slot.0) (is_own t me o.slot.0) a.0 in
    let c = and_parts (is_frame x && is_frame o && (o.generation.0 == 0)) (is_optional t o.slot.0) b.0 in
    let d = and_parts (is_frame x && is_frame o) (o.generation.0 == 0) c.0 in
    and_parts (is_frame x) (is_frame o) d.0

forth_frames : (t : Tables) (me : ℕ) (i h : Endpoint) → is_forth t me i h ≡ true → AreFrames i h
forth_frames t me i h e =
    let a = and_parts (is_frame i && is_frame h && is_imported t i.slot.0 && is_home t h.slot.0) (is_own t me h.slot.0) e in
    let b = and_parts (is_frame i && is_frame h && is_imported t i.slot.0) (is_home t h.slot.0) a.0 in
    let c = and_parts (is_frame i && is_frame h) (is_imported t i.slot.0) b.0 in
    and_parts (is_frame i) (is_frame h) c.0

module _ (t : Tables) (me : ℕ) where
  announces_sent : (x : Incarnation) (up : ℤ) → TellsLife (up ∷ []) → is_own t me x.slot.0 ≡ true → AllSent t me (announces t me x up)
  unfolding announces told_controllers
  announces_sent x up life own =
      each (filter (is_told t x.slot.0) (range_with_len 0 (length t.controllers)))
      (all_passed (λ d. is_told t x.slot.0 d ≡ true) (is_told t x.slot.0) (λ d e. e) (range_with_len 0 (length t.controllers)))
    where
      each : (ds : List ℕ) → AllByRecursion (λ d. is_told t x.slot.0 d ≡ true) ds → AllSent t me (map (announce_to me x up) ds)
      each [] h = tt
      each (d ∷ ds) h = (
        sent_as t me d kinds.Announce (frame_of x) (frame_of x) (up ∷ []) refl
            (own_owner t me x.slot.0 own, rw (eq-eqb x.slot.0 x.slot.0 refl, eq-eqb x.generation.0 x.generation.0 refl, h.0) refl, life),
        each ds h.1,
      )

  -- another controller that has a part of a slot of this one
  IsOther : ℕ → ℕ → Type 0
  IsOther s d = ((d == me) ≡ false) × (has_part t d s ≡ true)

  others : (s : ℕ) → AllByRecursion (IsOther s) (part_controllers t me s)
  unfolding part_controllers IsOther
  others s =
      all_passed (IsOther s) (λ d. not (d == me) && has_part t d s)
      (λ d e. let p = and_parts (not (d == me)) (has_part t d s) e in (denied (d == me) p.0, p.1)) (range_with_len 0 (length t.controllers))
    where
      denied : (b : Bool) → not b ≡ true → b ≡ false
      denied true h = absurd cc
      denied false h = refl

  -- an incarnation of an own optional slot that came up
  record IsBody (x : Incarnation) : Type 0 where
    pub own : is_own t me x.slot.0 ≡ true
    pub optional : is_optional t x.slot.0 ≡ true
    pub made : (x.generation.0 == 0) ≡ false

  part_told : (x : Incarnation) → IsBody x → (d : ℕ) → IsOther x.slot.0 d → is_part_told t d (frame_of x) (frame_of x) ≡ true
  unfolding IsOther
  part_told x body d other =
      rw (eq-eqb x.slot.0 x.slot.0 refl, eq-eqb x.generation.0 x.generation.0 refl, body.made, body.optional, other_owner t me d x.slot.0 body.own other.0, other.1) refl

  parts_sent : (x : Incarnation) → IsBody x → AllSent t me (parts_told t me kinds.PartMake x) × AllSent t me (parts_told t me kinds.PartEnd x)
  unfolding parts_told
  parts_sent x body = (makes (part_controllers t me x.slot.0) (others x.slot.0), ends (part_controllers t me x.slot.0) (others x.slot.0))
    where
      owner : owner_of t x.slot.0 ≡ me
      owner = own_owner t me x.slot.0 body.own

      makes : (ds : List ℕ) → AllByRecursion (IsOther x.slot.0) ds → AllSent t me (map (part_told_to me kinds.PartMake x) ds)
      makes [] h = tt
      makes (d ∷ ds) h = (sent_as t me d kinds.PartMake (frame_of x) (frame_of x) [] refl (owner, part_told x body d h.0, refl), makes ds h.1)

      ends : (ds : List ℕ) → AllByRecursion (IsOther x.slot.0) ds → AllSent t me (map (part_told_to me kinds.PartEnd x) ds)
      ends [] h = tt
      ends (d ∷ ds) h = (sent_as t me d kinds.PartEnd (frame_of x) (frame_of x) [] refl (owner, part_told x body d h.0, refl), ends ds h.1)

  -- what is made is announced
  part_make_sent : (l : Lives) (o : ℕ) → AllSent t me (part_make t me l o).sent
  unfolding part_make made_slots
  part_make_sent l o =
      subst (AllSent t me) (sym (flat_after_map (λ (i : Incarnation). announces t me i (pos 1)) (last_of (lives_made t me o l)) (filter (comes_up t me l o) (slots_of t))))
      (all_flat (IsSent t me) (λ k. is_own t me k ≡ true) (λ k. announces t me (last_of (lives_made t me o l) k) (pos 1))
      (λ k e. announces_sent (last_of (lives_made t me o l) k) (pos 1) (inr refl) e) (filter (comes_up t me l o) (slots_of t))
      (all_passed (λ k. is_own t me k ≡ true) (comes_up t me l o) (λ k e. (up_parts t me l o k e).0) (slots_of t)))

  made_some : (l : Lives) (o : ℕ) → is_own t me o ≡ true → l.lives o ≡ false → ((lives_made t me o l).generation o == 0) ≡ false
  unfolding lives_made comes_up
  made_some l o own dead = rw (made_itself t o, own, dead) (ne_eqb (l.generation o + 1) 0 (λ e. omega arith))

  -- a request that came from the container's owner
  record IsAsked (a : ℕ) (o : ℕ) (x : Endpoint) : Type 0 where
    pub frame : is_frame x ≡ true
    pub own : is_own t me o ≡ true
    pub optional : is_optional t o ≡ true
    pub part : is_part_of t o x.slot.0 ≡ true
    pub container : owner_of t x.slot.0 ≡ a

  answer_of : (a o n : ℕ) (x : Endpoint) → IsAsked a o x → IsAnswer t me a (frame_at o n) x
  answer_of a o n x h =
      record { frames = (refl, h.frame); part = h.part; optional = h.optional; slot = own_owner t me o h.own; container = h.container }

  create_sent : (f : Frame) (m : Msg) (o : ℕ) (x : Endpoint) → IsAsked m.from.0 o x → DutySent t me (with_lives f (create t me f.lives m o x))
  unfolding create made part_make
  create_sent f m o x h = go (counts_as_live t me f.lives (whose x)) (f.lives.lives o) refl
    where
      new : Incarnation
      new = last_of (lives_made t me o f.lives) o

      answers : f.lives.lives o ≡ false → DutySent t me (with_lives f (made t me f.lives m o x))
      answers dead =
          record {
            sent = all_append (IsSent t me) (part_make t me f.lives o).sent (parts_told t me kinds.PartMake new) (part_make_sent f.lives o)
                (parts_sent new (record { own = h.own; optional = h.optional; made = made_some f.lives o h.own dead })).0;
            last = sent_as t me m.from.0 kinds.CreateDone (frame_of new) x [] refl
                (answer_of m.from.0 o ((lives_made t me o f.lives).generation o) x h, made_some f.lives o h.own dead, refl);
          }

      go : (a b : Bool) → f.lives.lives o ≡ b → DutySent t me (with_lives f (
          if not a then answered f.lives (reply me m kinds.CreateRefused (frame_at o 0) x (coded NotHere))
          else if b then answered f.lives (reply me m kinds.CreateRefused (frame_at o 0) x (coded Occupied))
          else made t me f.lives m o x))
      go false b e =
          record { sent = tt; last = sent_as t me m.from.0 kinds.CreateRefused (frame_at o 0) x (coded NotHere) refl (answer_of m.from.0 o 0 x h, refl, inr refl) }
      go true true e =
          record { sent = tt; last = sent_as t me m.from.0 kinds.CreateRefused (frame_at o 0) x (coded Occupied) refl (answer_of m.from.0 o 0 x h, refl, inl refl) }
      go true false e = answers e

  -- what the end of an actor sends
  IsDown : Frame → ℕ → Type 0
  IsDown f k = (is_own t me k ≡ true) × (f.lives.lives k ≡ true)

  all_down : (f : Frame) (o : ℕ) → AllByRecursion (IsDown f) (ended_slots t me f.lives o)
  unfolding ended_slots IsDown
  all_down f o =
      all_reverse (IsDown f) (filter (goes_down t me f.lives o) (slots_of t))
      (all_passed (IsDown f) (goes_down t me f.lives o) (λ k e. down_parts t me f.lives o k e) (slots_of t))

  plugs_sent : (x : Incarnation) (plugs : List Incarnation) → AllSent t me (ended_plugs t me x plugs)
  plugs_sent x plugs =
      all_map (IsSent t me) (λ (i : Incarnation). to_owner t me kinds.ImportEnded (frame_of x) (frame_of i) [])
      (λ i. sent_as t me (owner_of t i.slot.0) kinds.ImportEnded (frame_of x) (frame_of i) [] refl ((refl, refl), refl)) plugs

  back_sent : (i : Incarnation) (place : ImportPlace) → AllSent t me (given_back t me i place)
  back_sent i place = go (tied_home place)
    where
      go : (o : Option Incarnation) → AllSent t me (option_map_or (λ (h : Incarnation). to_owner t me kinds.Deport (frame_of i) (frame_of h) [] ∷ []) o [])
      go None = tt
      go (Some h) = (sent_as t me (owner_of t h.slot.0) kinds.Deport (frame_of i) (frame_of h) [] refl ((refl, refl), refl), tt)

  end_sent : (f : Frame) (s : ℕ) → IsDown f s → AllSent t me (end_messages t me f s)
  unfolding end_messages IsDown
  end_sent f s down =
      let x : Incarnation = last_of f.lives s in
      let backs : List Msg = flat_map (λ i. given_back t me (incarnation i x.generation.0) (f.places i)) (imported_parts t s) in
      all_append (IsSent t me) (ended_plugs t me x (f.plugs s)) (backs ++ announces t me x (pos 0)) (plugs_sent x (f.plugs s))
      (all_append (IsSent t me) backs (announces t me x (pos 0))
      (all_flat (IsSent t me) (λ i. Unit {0}) (λ i. given_back t me (incarnation i x.generation.0) (f.places i))
      (λ i u. back_sent (incarnation i x.generation.0) (f.places i)) (imported_parts t s) (all_unit (imported_parts t s)))
      (announces_sent x (pos 0) (inl refl) down.0))

  part_ends_sent : (f : Frame) → IsSound t me f.lives → (s : ℕ) → IsDown f s → AllSent t me (part_ends t me f s)
  unfolding part_ends IsDown
  part_ends_sent f sound s down = go (is_optional t s) refl
    where
      go : (b : Bool) → is_optional t s ≡ b → AllSent t me (if b then parts_told t me kinds.PartEnd (last_of f.lives s) else [])
      go true e =
          let created : 1 ≤ f.lives.generation s = sound.created s down.1 in
          (parts_sent (last_of f.lives s) (record { own = down.0; optional = e; made = ne_eqb (f.lives.generation s) 0 (λ e. omega arith) })).1
      go false e = tt

  end_set_sent : (f : Frame) → IsSound t me f.lives → (o : ℕ) (last : Option Msg) → LastSent t me last → DutySent t me (end_set_ended t me f o last)
  unfolding end_set_ended
  end_set_sent f sound o last h =
      record {
        sent = all_append (IsSent t me) (flat_map (end_messages t me f) (ended_slots t me f.lives o)) (flat_map (part_ends t me f) (ended_slots t me f.lives o))
            (all_flat (IsSent t me) (IsDown f) (end_messages t me f) (end_sent f) (ended_slots t me f.lives o) (all_down f o))
            (all_flat (IsSent t me) (IsDown f) (part_ends t me f) (part_ends_sent f sound) (ended_slots t me f.lives o) (all_down f o));
        last = h;
      }

  part_makes : (f : Frame) (o : ℕ) → DutySent t me (with_lives f (part_make t me f.lives o))
  unfolding part_make
  part_makes f o = record { sent = part_make_sent f.lives o; last = tt }

  part_ends_duty : (f : Frame) → IsSound t me f.lives → (o : ℕ) → DutySent t me (part_end t me f o)
  unfolding part_end
  part_ends_duty f sound o = end_set_sent f sound o None tt

  destroy_sent : (f : Frame) → IsSound t me f.lives → (m : Msg) (o : ℕ) (x : Endpoint) → IsAsked m.from.0 o x → DutySent t me (destroy t me f m o x)
  unfolding destroy
  destroy_sent f sound m o x h = go (not (counts_as_live t me f.lives (whose x))) (f.lives.lives o) refl
    where
      done : Msg
      done = reply me m kinds.DestroyDone (frame_of (last_of f.lives o)) x (pos 0 ∷ [])

      refused : DutySent t me (
          record { frame = f; sent = []; made = []; ended = []; last = Some (reply me m kinds.DestroyDone (frame_at o 0) x (coded NotHere)) })
      refused = record { sent = tt; last = sent_as t me m.from.0 kinds.DestroyDone (frame_at o 0) x (coded NotHere) refl (answer_of m.from.0 o 0 x h, inr (refl, refl)) }

      go : (a b : Bool) → f.lives.lives o ≡ b → DutySent t me (
          if a || not b
          then record { frame = f; sent = []; made = []; ended = []; last = Some (reply me m kinds.DestroyDone (frame_at o 0) x (coded NotHere)) }
          else end_set_ended t me f o (Some (reply me m kinds.DestroyDone (frame_of (last_of f.lives o)) x (pos 0 ∷ []))))
      go true b e = refused
      go false false e = refused
      go false true e =
          let created : 1 ≤ f.lives.generation o = sound.created o e in
          end_set_sent f sound o (Some (reply me m kinds.DestroyDone (frame_of (last_of f.lives o)) x (pos 0 ∷ [])))
          (sent_as t me m.from.0 kinds.DestroyDone (frame_of (last_of f.lives o)) x (pos 0 ∷ []) refl
          (answer_of m.from.0 o (f.lives.generation o) x h, inl (ne_eqb (f.lives.generation o) 0 (λ e. omega arith), refl)))

  -- the rows on imports
  import_sent : (l : Lives) (plugs : ℕ → List Incarnation) (m : Msg) (i h : Endpoint) → AreFrames i h → AllSent t me (import t me l plugs m i h).sent
  unfolding import
  import_sent l plugs m i h both =
      done_sent_if t me (not (is_live l (whose h))) _ _
      (sent_as t me m.from.0 kinds.ImportRefused h i (coded StaleId) refl (both, inl refl), tt)
      (done_sent_if t me (is_port_taken t (plugs h.slot.0) (whose i) (whose h)) _ _
      (sent_as t me m.from.0 kinds.ImportRefused h i (coded PortTaken) refl (both, inr refl), tt)
      (sent_as t me m.from.0 kinds.ImportDone h i [] refl (both, refl), tt))

  deport_sent : (l : Lives) (plugs : ℕ → List Incarnation) (m : Msg) (i h : Endpoint) → AreFrames i h → AllSent t me (deport me l plugs m i h).sent
  unfolding deport
  deport_sent l plugs m i h both = (sent_as t me m.from.0 kinds.DeportDone h i [] refl (both, refl), tt)

  -- what actors are told is above the system level
  heard_sent : (l : Lives) (places : ℕ → ImportPlace) (i : Endpoint) (fits : Bool) (next : ImportPlace) (m : Msg) → (m.prio.0 == 0) ≡ false
      → AllSent t me (heard t l places i fits next m).sent
  heard_sent l places i fits next m e = done_sent_if t me (is_container_live t l i && fits) _ _ (open_sent t me m e, tt) tt

  import_done_sent : (l : Lives) (places : ℕ → ImportPlace) (h i : Endpoint) → AllSent t me (import_done t me l places h i).sent
  unfolding import_done
  import_done_sent l places h i = heard_sent l places i _ _ _ refl

  import_refused_sent : (l : Lives) (places : ℕ → ImportPlace) (h i : Endpoint) (code : ℤ) → AllSent t me (import_refused t me l places h i code).sent
  unfolding import_refused
  import_refused_sent l places h i code = heard_sent l places i _ _ _ refl

  import_ended_sent : (l : Lives) (places : ℕ → ImportPlace) (h i : Endpoint) → AllSent t me (import_ended t me l places h i).sent
  unfolding import_ended
  import_ended_sent l places h i = heard_sent l places i _ _ _ refl

  deport_done_sent : (l : Lives) (places : ℕ → ImportPlace) (h i : Endpoint) → AllSent t me (deport_done t me l places h i).sent
  unfolding deport_done
  deport_done_sent l places h i = heard_sent l places i _ _ _ refl

  create_done_sent : (o x : Endpoint) → AllSent t me (create_done t me o x)
  unfolding create_done
  create_done_sent o x = (open_sent t me _ refl, tt)

  create_refused_sent : (o x : Endpoint) (code : ℤ) → AllSent t me (create_refused t me o x code)
  unfolding create_refused
  create_refused_sent o x code = sent_if t me (is_code Occupied code || is_code NotHere code) _ _ (open_sent t me _ refl, tt) tt

  destroy_done_sent : (o x : Endpoint) (code : ℕ) → AllSent t me (destroy_done t me o x code)
  unfolding destroy_done
  destroy_done_sent o x code =
      sent_if t me ((code == 0) && not (o.generation.0 == 0)) _ _ (open_sent t me _ refl, tt)
      (sent_if t me ((code == 3) && (o.generation.0 == 0)) _ _ (open_sent t me _ refl, tt) tt)

  -- a duty that closes with no message
  plain : (r : FrameDone) → r.last ≡ None → AllSent t me r.sent → DutySent t me r
  plain r e h = record { sent = h; last = rw e tt }

  module _ (f : Frame) (sound : IsSound t me f.lives) (m : Msg) (hand : Inner t m.from.0 me m) where
    none_sent : DutySent t me (nothing f)
    none_sent = record { sent = tt; last = tt }

    -- who asks for the life or the end of a slot is its container, of the sender's own
    asked : (x : Endpoint) → IsRequest t m.from.0 me x m.target → is_request t me x m.target ≡ true → IsAsked m.from.0 m.target.slot.0 x
    asked x form h =
        let p = request_parts t me x m.target h in
        record { frame = (request_frames t me x m.target h).0; own = p.1; optional = p.0; part = p.2; container = form.container }

    duty_of_sent : (kind : SysKind) → slice_get all_kinds m.signal ≡ Some kind → (a : Endpoint) → m.source ≡ Some a
        → DutySent t me (frame_duty_of t me f m kind a m.target)
    duty_of_sent kinds.Create is a comes =
        by_plainly t me f (DutySent t me) none_sent (is_request t me a m.target) m.payload _
        (λ h. create_sent f m m.target.slot.0 a (asked a (form_as t m.from.0 me m kinds.Create a is comes hand).0 h))
    duty_of_sent kinds.Destroy is a comes =
        by_plainly t me f (DutySent t me) none_sent (is_request t me a m.target) m.payload _
        (λ h. destroy_sent f sound m m.target.slot.0 a (asked a (form_as t m.from.0 me m kinds.Destroy a is comes hand).0 h))
    duty_of_sent kinds.CreateDone is a comes = by_plainly t me f (DutySent t me) none_sent _ m.payload _ (λ h. plain _ refl (create_done_sent a m.target))
    duty_of_sent kinds.CreateRefused is a comes = by_number t me f (DutySent t me) none_sent _ m.payload _ (λ n. plain _ refl (create_refused_sent a m.target n))
    duty_of_sent kinds.DestroyDone is a comes =
        by_number t me f (DutySent t me) none_sent _ m.payload _
        (λ n. by_natural t me f (DutySent t me) none_sent n _ (λ k. plain _ refl (destroy_done_sent a m.target k)))
    duty_of_sent kinds.Import is a comes =
        by_plainly t me f (DutySent t me) none_sent (is_forth t me a m.target) m.payload _
        (λ h. plain _ refl (import_sent f.lives f.plugs m a m.target (forth_frames t me a m.target h)))
    duty_of_sent kinds.Deport is a comes =
        by_plainly t me f (DutySent t me) none_sent (is_forth t me a m.target) m.payload _
        (λ h. plain _ refl (deport_sent f.lives f.plugs m a m.target (forth_frames t me a m.target h)))
    duty_of_sent kinds.ImportDone is a comes = by_plainly t me f (DutySent t me) none_sent _ m.payload _ (λ h. plain _ refl (import_done_sent f.lives f.places a m.target))
    duty_of_sent kinds.ImportRefused is a comes =
        by_number t me f (DutySent t me) none_sent _ m.payload _ (λ n. plain _ refl (import_refused_sent f.lives f.places a m.target n))
    duty_of_sent kinds.ImportEnded is a comes = by_plainly t me f (DutySent t me) none_sent _ m.payload _ (λ h. plain _ refl (import_ended_sent f.lives f.places a m.target))
    duty_of_sent kinds.DeportDone is a comes = by_plainly t me f (DutySent t me) none_sent _ m.payload _ (λ h. plain _ refl (deport_done_sent f.lives f.places a m.target))
    duty_of_sent kinds.Announce is a comes =
        by_number t me f (DutySent t me) none_sent _ m.payload _ (λ n. by_natural t me f (DutySent t me) none_sent n _ (λ k. plain _ refl tt))
    duty_of_sent kinds.Register is a comes = none_sent
    duty_of_sent kinds.Withdraw is a comes = none_sent
    duty_of_sent kinds.Bound is a comes = none_sent
    duty_of_sent kinds.Ended is a comes = none_sent
    duty_of_sent kinds.NameReply is a comes = none_sent
    duty_of_sent kinds.PartMake is a comes = by_plainly t me f (DutySent t me) none_sent _ m.payload _ (λ h. part_makes f a.slot.0)
    duty_of_sent kinds.PartEnd is a comes = by_plainly t me f (DutySent t me) none_sent _ m.payload _ (λ h. part_ends_duty f sound a.slot.0)

    pub duty_sent : (kind : SysKind) → slice_get all_kinds m.signal ≡ Some kind → DutySent t me (frame_duty t me f kind m)
    unfolding frame_duty
    duty_sent kind is = go m.source refl
      where
        go : (o : Option Endpoint) → m.source ≡ o → DutySent t me (frame_duty_from t me f m kind o)
        go None e = none_sent
        go (Some a) e = duty_of_sent kind is a e

  -- the commands of an actor here
  asked_sent : (kind : SysKind) → slice_get all_kinds (number_of kind) ≡ Some kind
      → ((b : ℕ) (y z : Endpoint) → IsRequest t me b y z → InnerOf t me b kind y z [])
      → (x : Incarnation) (reference : ℕ) (index : ℤ) → is_own t me x.slot.0 ≡ true → (o : Option ℕ) → part_at t x.slot.0 reference index ≡ o
      → IsSent t me (asked_of t me kind x reference index o)
  asked_sent kind is form x reference index own None e = open_sent t me _ refl
  asked_sent kind is form x reference index own (Some o) e =
      sent_as t me (owner_of t o) kind (frame_of x) (frame_at o 0) [] is
      (form (owner_of t o) (frame_of x) (frame_at o 0)
      (record {
        frames = (refl, refl);
        part = rw (part_of_at t x.slot.0 reference index o e) (eq-eqb x.slot.0 x.slot.0 refl);
        container = own_owner t me x.slot.0 own;
        slot = refl;
        anybody = refl;
      }))

  import_with_sent : (places : ℕ → ImportPlace) (x : Incarnation) (reference : ℕ) (index : ℤ) (i : ℕ) (o : Option Incarnation) (code : Option Code)
      → AllSent t me (import_with t me places x reference index i o code).sent
  import_with_sent places x reference index i o (Some code) = (open_sent t me _ refl, tt)
  import_with_sent places x reference index i None None = (open_sent t me _ refl, tt)
  import_with_sent places x reference index i (Some h) None =
      (sent_as t me (owner_of t h.slot.0) kinds.Import (frame_at i x.generation.0) (frame_of h) [] refl ((refl, refl), refl), tt)

  import_into_sent : (places : ℕ → ImportPlace) (x : Incarnation) (reference : ℕ) (index id : ℤ) (o : Option ℕ)
      → AllSent t me (import_into t me places x reference index id o).sent
  import_into_sent places x reference index id None = (open_sent t me _ refl, tt)
  import_into_sent places x reference index id (Some i) = import_with_sent places x reference index i (of_id id) (import_code t places i (of_id id))

  deport_from_sent : (places : ℕ → ImportPlace) (x : Incarnation) (reference : ℕ) (index : ℤ) (i : ℕ) (place : ImportPlace)
      → AllSent t me (deport_from t me places x reference index i place).sent
  deport_from_sent places x reference index i Empty = (open_sent t me _ refl, tt)
  deport_from_sent places x reference index i (Asking h) = (open_sent t me _ refl, tt)
  deport_from_sent places x reference index i (Leaving h) = (open_sent t me _ refl, tt)
  deport_from_sent places x reference index i (Held h) =
      (sent_as t me (owner_of t h.slot.0) kinds.Deport (frame_at i x.generation.0) (frame_of h) [] refl ((refl, refl), refl), tt)

  deport_of_sent : (places : ℕ → ImportPlace) (x : Incarnation) (reference : ℕ) (index : ℤ) (o : Option ℕ)
      → AllSent t me (deport_of t me places x reference index o).sent
  deport_of_sent places x reference index None = (open_sent t me _ refl, tt)
  deport_of_sent places x reference index (Some i) = deport_from_sent places x reference index i (places i)

  pub request_sent : (f : Frame) (x : Incarnation) (c : FrameCommand) → is_own t me x.slot.0 ≡ true → AllSent t me (frame_request t me f x c).sent
  unfolding incarnate destroy_command import_command deport_command
  request_sent f x (frames.Incarnate reference index) own =
      (asked_sent kinds.Create refl (λ b y z h. (h, refl)) x reference index own (part_at t x.slot.0 reference index) refl, tt)
  request_sent f x (frames.Destroy reference index) own =
      (asked_sent kinds.Destroy refl (λ b y z h. (h, refl)) x reference index own (part_at t x.slot.0 reference index) refl, tt)
  request_sent f x (frames.Import reference index id) own = import_into_sent f.places x reference index id (part_at t x.slot.0 reference index)
  request_sent f x (frames.Deport reference index) own = deport_of_sent f.places x reference index (part_at t x.slot.0 reference index)
