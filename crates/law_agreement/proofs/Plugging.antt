-- A home and an import place: what each event of the home's controller makes of the row in which they stand.
use Rattle.std.proofs.Common.{◌≡◌, ℕ, suc, ◌+◌, ◌==◌, ◌&&◌, ◌||◌, Bool, true, false, not, if◌then◌else◌, List, [], ◌∷◌, ◌++◌, filter, flat_map, slice_get, Option, Some, None, ℤ, pos, refl, sym, ap, ◌∙◌, subst, eq-eqb, eqb-true, append-nil, append_assoc, arith}
use Rattle.std.specs.Prelude.{count_by}
use Rattle.std.specs.List.{AllByRecursion}
use Rattle.std.proofs.lemmas.Bool.{and_parts}
use Rattle.room_kinds.specs.declared.message.Msg.{Msg}
use Rattle.room_kinds.specs.declared.numbers.Incarnation.{Incarnation}
use Rattle.room_kinds.specs.declared.numbers.Endpoint.{Endpoint}
use Rattle.room_kinds.specs.declared.system.SysKind.{SysKind}
use Rattle.room_kinds.specs.declared.system.SysKind.TheVariants as kinds
use Rattle.room_kinds.specs.Kinds.{number_of}
use Rattle.room_kinds.specs.declared.command.FrameCommand.{FrameCommand}
use Rattle.room_kinds.specs.declared.command.FrameCommand.TheVariants as frames
use Rattle.room_wiring.specs.declared.tables.Tables.{Tables}
use Rattle.actor_duties.specs.Words.{updated, incarnation, frame_at, frame_of, whose, is_incarnation, is_frame, is_own, is_home, is_imported, owner_of, part_at, of_id}
use Rattle.actor_duties.specs.State.{Frame, ImportPlace, Empty, Asking, Held, Leaving, Done}
use Rattle.actor_duties.specs.Messages.{Code, code_number, refused_at_once, to_owner, reply, coded, StaleId, PortTaken, NotHere, NoSlot, Busy, Occupied}
use Rattle.actor_duties.specs.Lives.{is_live, last_of, answered, counts_as_live, comes_up, lives_made, lives_ended, goes_down, ended_slots, is_reached, announces, create, made, part_make}
use Rattle.actor_duties.specs.Imports.{import, deport, imported_parts, ended_plugs, given_back, is_port_taken}
use Rattle.actor_duties.specs.Frame.{FrameDone, plainly, with_lives, end_messages, part_ends, end_set_ended, frame_ended, destroy, part_end, is_forth, frame_duty_of, frame_duty_from, frame_duty, import_code, import_with, import_into, import_command, deport_from, deport_of, deport_command, frame_request, incarnate, destroy_command}
use Rattle.actor_world.specs.Behaviour.{Behaviour}
use Rattle.actor_world.specs.Body.{Body}
use Rattle.actor_world.specs.Turns.{all_kinds, treat}
use Rattle.actor_world.specs.Start.{first_frame, first_state}
use Rattle.actor_world.specs.Directories.{IsOpen}
use Rattle.actor_world.proofs.Slots.{own_in_range}
use Rattle.service_messages.proofs.slot_runs.RunLemmas.{not_true_false}
use Rattle.law_agreement.specs.Imports.{Loan, forth_by, IsBetween, IsRouted}
use Rattle.law_agreement.specs.Loans.{Side, Row, lent_by, lent_of, goes_between, kind_forth, kind_back, forth_of, back_of}
use Rattle.law_agreement.proofs.Lists.{all_flat, all_unit}
use Rattle.law_agreement.proofs.Hearing.{swap_eqb}
use Rattle.law_agreement.proofs.Duties.{by_plainly, by_number, by_natural}
use Rattle.law_agreement.proofs.OffLoan.{IsOffLoan, AllOffLoan, off_asked, off_announces, off_part_ends, off_part_make, off_create, off_create_done, off_create_refused, off_destroy_done, off_import_done, off_import_refused, off_import_ended, off_deport_done}
use Rattle.law_agreement.proofs.Walking.{IsWalk, turn_walks, start_walks}
use Rattle.law_agreement.proofs.Waiting.{vacant}
use Rattle.law_agreement.proofs.Keeping.{LendsSo}
use Rattle.law_agreement.proofs.Pairing.{times, row_denies, row_grants, row_frees, row_bereaves}
use Rattle.law_agreement.proofs.Counting.{count_more, count_passed, count_none, picked_down}
use Rattle.law_agreement.proofs.Emitting.{same_incarnation, itself, swap_incarnation, same_frame, emits, emits_append, emits_none, emits_flat, no_either, off_forth, off_in, plugs_in}

module _ (t : Tables) (i h : Incarnation) where
  -- what messages put on the way back
  abbrev inn : List Msg → List SysKind
  inn ms = emits (back_of i h) (owner_of t i.slot.0) ms

  abbrev lent : Frame → ℕ
  lent f = lent_of i h f

  -- these requests are taken from the way forth, and the pair stands in a row again
  pub Takes : List SysKind → Frame → List Msg → Frame → Type 0
  Takes toks f ms g = (a : Side) (forth back : List SysKind) → Row a (toks ++ forth) back (lent f) → Row a forth (back ++ inn ms) (lent g)

  -- no request of the place is taken
  abbrev Rests : Frame → List Msg → Frame → Type 0
  Rests f ms g = Takes [] f ms g

  -- a step from row to row
  by_count : (toks : List SysKind) (f g : Frame) (ms : List Msg) (n k : ℕ) (more : List SysKind) → lent f ≡ n → lent g ≡ k → inn ms ≡ more
      → ((a : Side) (forth back : List SysKind) → Row a (toks ++ forth) back n → Row a forth (back ++ more) k) → Takes toks f ms g
  unfolding Takes
  by_count toks f g ms n k more before after sent step a forth back r =
      subst (λ z. Row a forth (back ++ inn ms) z) (sym after)
      (subst (λ (z : List SysKind). Row a forth (back ++ z) k) (sym sent)
      (step a forth back (subst (λ z. Row a (toks ++ forth) back z) before r)))

  rests : (f g : Frame) (ms : List Msg) → lent g ≡ lent f → inn ms ≡ [] → Rests f ms g
  rests f g ms same sent =
      by_count [] f g ms (lent f) (lent f) [] refl same sent (λ a forth back r. subst (λ (z : List SysKind). Row a forth z (lent f)) (sym (append-nil back)) r)

  both : (toks : List SysKind) (f g k : Frame) (a b : List Msg) → Takes toks f a g → Rests g b k → Takes toks f (a ++ b) k
  unfolding Takes
  both toks f g k a b p q s forth back r =
      subst (λ (z : List SysKind). Row s forth z (lent k))
      (append_assoc back (inn a) (inn b) ∙ ap (λ (z : List SysKind). back ++ z) (sym (emits_append (back_of i h) (owner_of t i.slot.0) a b)))
      (q s forth (back ++ inn a) (p s forth back r))

  -- messages of which none is an answer of the pair
  silent_in : (ms : List Msg) → AllByRecursion (λ (m : Msg). back_of i h m ≡ []) ms → inn ms ≡ []
  silent_in ms none = emits_none (back_of i h) (owner_of t i.slot.0) ms none

  pub empty_lent : (b : Bool) (plugs : List Incarnation) → plugs ≡ [] → lent_by i b plugs ≡ 0
  unfolding lent_by
  empty_lent true plugs e = ap (λ (z : List Incarnation). count_by (is_incarnation i) z) e
  empty_lent false plugs e = refl

  dead_lent : (b : Bool) (plugs : List Incarnation) → b ≡ false → lent_by i b plugs ≡ 0
  unfolding lent_by
  dead_lent b plugs e = rw e refl

  live_lent : (b : Bool) (plugs : List Incarnation) → b ≡ true → lent_by i b plugs ≡ count_by (is_incarnation i) plugs
  unfolding lent_by
  live_lent b plugs e = rw e refl

  module _ (me : ℕ) where
    -- requests
    off_one : (m : Msg) → IsOffLoan m → inn (m ∷ []) ≡ []
    off_one m off = off_in i h (owner_of t i.slot.0) (m ∷ []) (off, tt)

    import_with_in : (places : ℕ → ImportPlace) (x : Incarnation) (reference : ℕ) (index : ℤ) (j : ℕ) (o : Option Incarnation) (code : Option Code)
        → inn (import_with t me places x reference index j o code).sent ≡ []
    unfolding back_of
    import_with_in places x reference index j o (Some code) = off_one (refused_at_once me x reference index (code_number code)) (refl, refl)
    import_with_in places x reference index j None None = off_one (refused_at_once me x reference index (code_number StaleId)) (refl, refl)
    import_with_in places x reference index j (Some y) None = silent_in (to_owner t me kinds.Import (frame_at j x.generation.0) (frame_of y) [] ∷ []) (no_either _, tt)

    import_into_in : (places : ℕ → ImportPlace) (x : Incarnation) (reference : ℕ) (index id : ℤ) (o : Option ℕ)
        → inn (import_into t me places x reference index id o).sent ≡ []
    import_into_in places x reference index id None = off_one (refused_at_once me x reference index (code_number NoSlot)) (refl, refl)
    import_into_in places x reference index id (Some j) = import_with_in places x reference index j (of_id id) (import_code t places j (of_id id))

    deport_from_in : (places : ℕ → ImportPlace) (x : Incarnation) (reference : ℕ) (index : ℤ) (j : ℕ) (p : ImportPlace)
        → inn (deport_from t me places x reference index j p).sent ≡ []
    unfolding back_of
    deport_from_in places x reference index j Empty = off_one (refused_at_once me x reference index (code_number NotHere)) (refl, refl)
    deport_from_in places x reference index j (Asking y) = off_one (refused_at_once me x reference index (code_number Busy)) (refl, refl)
    deport_from_in places x reference index j (Leaving y) = off_one (refused_at_once me x reference index (code_number Busy)) (refl, refl)
    deport_from_in places x reference index j (Held y) = silent_in (to_owner t me kinds.Deport (frame_at j x.generation.0) (frame_of y) [] ∷ []) (no_either _, tt)

    deport_of_in : (places : ℕ → ImportPlace) (x : Incarnation) (reference : ℕ) (index : ℤ) (o : Option ℕ)
        → inn (deport_of t me places x reference index o).sent ≡ []
    deport_of_in places x reference index None = off_one (refused_at_once me x reference index (code_number NoSlot)) (refl, refl)
    deport_of_in places x reference index (Some j) = deport_from_in places x reference index j (places j)

    request_rests : (f : Frame) (x : Incarnation) (k : FrameCommand) → Rests f (frame_request t me f x k).sent (frame_request t me f x k).now
    unfolding incarnate destroy_command import_command deport_command
    request_rests f x (frames.Incarnate reference index) = rests f f _ refl (off_one (incarnate t me x reference index) (off_asked t me x reference index (part_at t x.slot.0 reference index)).0)
    request_rests f x (frames.Destroy reference index) = rests f f _ refl (off_one (destroy_command t me x reference index) (off_asked t me x reference index (part_at t x.slot.0 reference index)).1)
    request_rests f x (frames.Import reference index id) =
        rests f _ _ refl (import_into_in f.places x reference index id (part_at t x.slot.0 reference index))
    request_rests f x (frames.Deport reference index) = rests f _ _ refl (deport_of_in f.places x reference index (part_at t x.slot.0 reference index))

    -- a walk that takes no request
    resting : IsWalk t me (Takes [])
    resting =
        record {
          two = λ f g k a b p q. both [] f g k a b p q;
          off = λ f ms p. rests f f ms refl (off_in i h (owner_of t i.slot.0) ms p);
          request = λ f x k here. request_rests f x k;
        }

    module _ (f : Frame) where
      -- what is made
      made_rests : LendsSo t f → (o : ℕ) (ms : List Msg) → AllOffLoan ms → Rests f ms (record f { lives = lives_made t me o f.lives })
      unfolding lives_made
      made_rests k o ms off = rests f (record f { lives = lives_made t me o f.lives }) ms (go (comes_up t me f.lives o h.slot.0) refl) (off_in i h (owner_of t i.slot.0) ms off)
        where
          go : (b : Bool) → comes_up t me f.lives o h.slot.0 ≡ b
              → lent_by i ((b || f.lives.lives h.slot.0) && ((if b then f.lives.generation h.slot.0 + 1 else f.lives.generation h.slot.0) == h.generation.0)) (f.plugs h.slot.0)
              ≡ lent_by i (is_live f.lives h) (f.plugs h.slot.0)
          go false e = refl
          go true e =
              let none : f.plugs h.slot.0 ≡ [] = k.plugged.none h.slot.0 (vacant t me o h.slot.0 f.lives e) in
              empty_lent _ (f.plugs h.slot.0) none ∙ sym (empty_lent (is_live f.lives h) (f.plugs h.slot.0) none)

      -- an end
      given_none : (x : Incarnation) (p : ImportPlace) → AllByRecursion (λ (m : Msg). back_of i h m ≡ []) (given_back t me x p)
      unfolding back_of
      given_none x Empty = tt
      given_none x (Asking y) = (no_either _, tt)
      given_none x (Held y) = (no_either _, tt)
      given_none x (Leaving y) = tt

      end_in : (s : ℕ) → inn (end_messages t me f s)
          ≡ (if (h.slot.0 == s) && (h.generation.0 == f.lives.generation s) then times (count_by (is_incarnation i) (f.plugs s)) (kinds.ImportEnded ∷ []) else [])
      unfolding end_messages
      end_in s =
          let x : Incarnation = last_of f.lives s in
          let backs : List Msg = flat_map (λ j. given_back t me (incarnation j x.generation.0) (f.places j)) (imported_parts t s) in
          emits_append (back_of i h) (owner_of t i.slot.0) (ended_plugs t me x (f.plugs s)) (backs ++ announces t me x (pos 0))
          ∙ ap (λ (z : List SysKind). inn (ended_plugs t me x (f.plugs s)) ++ z)
          (emits_append (back_of i h) (owner_of t i.slot.0) backs (announces t me x (pos 0))
          ∙ ap (λ (z : List SysKind). z ++ inn (announces t me x (pos 0)))
          (silent_in backs (all_flat (λ (m : Msg). back_of i h m ≡ []) (λ (j : ℕ). Unit {0}) (λ j. given_back t me (incarnation j x.generation.0) (f.places j))
          (λ j u. given_none (incarnation j x.generation.0) (f.places j)) (imported_parts t s) (all_unit (imported_parts t s))))
          ∙ off_in i h (owner_of t i.slot.0) (announces t me x (pos 0)) (off_announces t me x (pos 0)))
          ∙ append-nil (inn (ended_plugs t me x (f.plugs s)))
          ∙ plugs_in i h t me x (f.plugs s)

      down_own : (o : ℕ) → goes_down t me f.lives o h.slot.0 ≡ true → (is_own t me h.slot.0 ≡ true) × (f.lives.lives h.slot.0 ≡ true)
      unfolding goes_down
      down_own o e =
          let p = and_parts (is_own t me h.slot.0 && is_reached t me f.lives o h.slot.0) (f.lives.lives h.slot.0) e in
          ((and_parts (is_own t me h.slot.0) (is_reached t me f.lives o h.slot.0) p.0).0, p.1)

      abbrev word : ℕ → List SysKind
      word s = if h.generation.0 == f.lives.generation s then times (count_by (is_incarnation i) (f.plugs s)) (kinds.ImportEnded ∷ []) else []

      ends_in : (o : ℕ)
          → inn (flat_map (end_messages t me f) (ended_slots t me f.lives o)) ≡ (if goes_down t me f.lives o h.slot.0 then word h.slot.0 else [])
      unfolding ended_slots
      ends_in o =
          emits_flat (back_of i h) (owner_of t i.slot.0) (end_messages t me f) (ended_slots t me f.lives o)
          ∙ picked_down (λ s. inn (end_messages t me f s)) h.slot.0 alone t (goes_down t me f.lives o) (λ e. own_in_range t me h.slot.0 (down_own o e).0)
          ∙ ap (λ (z : List SysKind). if goes_down t me f.lives o h.slot.0 then z else []) (end_in h.slot.0 ∙ this)
        where
          alone : (s : ℕ) → (s == h.slot.0) ≡ false → inn (end_messages t me f s) ≡ []
          alone s e =
              end_in s
              ∙ ap (λ (b : Bool). if b && (h.generation.0 == f.lives.generation s) then times (count_by (is_incarnation i) (f.plugs s)) (kinds.ImportEnded ∷ []) else [])
              (swap_eqb h.slot.0 s ∙ e)

          this : (if (h.slot.0 == h.slot.0) && (h.generation.0 == f.lives.generation h.slot.0) then times (count_by (is_incarnation i) (f.plugs h.slot.0)) (kinds.ImportEnded ∷ []) else []) ≡ word h.slot.0
          this =
              ap (λ (b : Bool). if b && (h.generation.0 == f.lives.generation h.slot.0) then times (count_by (is_incarnation i) (f.plugs h.slot.0)) (kinds.ImportEnded ∷ []) else [])
              (eq-eqb h.slot.0 h.slot.0 refl)

      abbrev Down : Bool → Type 0
      Down b = (a : Side) (forth back : List SysKind) → Row a forth back (lent f)
          → Row a forth (back ++ (if b then word h.slot.0 else []))
          (lent_by i ((not b && f.lives.lives h.slot.0) && (f.lives.generation h.slot.0 == h.generation.0)) (if b then [] else f.plugs h.slot.0))

      ends : (o : ℕ) (b : Bool) → goes_down t me f.lives o h.slot.0 ≡ b → Down b
      ends o false e a forth back r = subst (λ (z : List SysKind). Row a forth z (lent f)) (sym (append-nil back)) r
      ends o true e a forth back r =
          subst (λ n. Row a forth (back ++ word h.slot.0) n) (sym (dead_lent false [] refl)) (go (h.generation.0 == f.lives.generation h.slot.0) refl)
        where
          plugs : List Incarnation
          plugs = f.plugs h.slot.0

          go : (b : Bool) → (h.generation.0 == f.lives.generation h.slot.0) ≡ b
              → Row a forth (back ++ (if b then times (count_by (is_incarnation i) (f.plugs h.slot.0)) (kinds.ImportEnded ∷ []) else [])) 0
          go true d =
              let live : is_live f.lives h ≡ true = rw ((down_own o e).1, swap_eqb (f.lives.generation h.slot.0) h.generation.0, d) refl in
              row_bereaves (subst (λ n. Row a forth back n) (live_lent (is_live f.lives h) (f.plugs h.slot.0) live) r)
          go false d =
              let dead : is_live f.lives h ≡ false = rw ((down_own o e).1, swap_eqb (f.lives.generation h.slot.0) h.generation.0, d) refl in
              subst (λ (z : List SysKind). Row a forth z 0) (sym (append-nil back))
              (subst (λ n. Row a forth back n) (dead_lent (is_live f.lives h) (f.plugs h.slot.0) dead) r)

      ended_lent : (o : ℕ) → lent (frame_ended t me o f)
          ≡ lent_by i ((not (goes_down t me f.lives o h.slot.0) && f.lives.lives h.slot.0) && (f.lives.generation h.slot.0 == h.generation.0)) (if goes_down t me f.lives o h.slot.0 then [] else f.plugs h.slot.0)
      unfolding frame_ended lives_ended
      ended_lent o = refl

      ended_rests : (o : ℕ) (last : Option Msg) → Rests f (end_set_ended t me f o last).sent (end_set_ended t me f o last).frame
      unfolding end_set_ended
      ended_rests o last =
          let told : List Msg = flat_map (end_messages t me f) (ended_slots t me f.lives o) in
          let parts : List Msg = flat_map (part_ends t me f) (ended_slots t me f.lives o) in
          let more : List SysKind = if goes_down t me f.lives o h.slot.0 then word h.slot.0 else [] in
          by_count [] f (frame_ended t me o f) (told ++ parts) (lent f) _ more refl (ended_lent o)
          (emits_append (back_of i h) (owner_of t i.slot.0) told parts ∙ ap (λ (z : List SysKind). z ++ inn parts) (ends_in o)
          ∙ ap (λ (z : List SysKind). more ++ z) (off_in i h (owner_of t i.slot.0) parts (off_part_ends t me f (ended_slots t me f.lives o))) ∙ append-nil more)
          (ends o (goes_down t me f.lives o h.slot.0) refl)

      -- requests of import places
      abbrev TakenIn : List SysKind → Done (ℕ → List Incarnation) → Type 0
      TakenIn toks r = Takes toks f r.sent (record f { plugs = r.now })

      module _ (m : Msg) where
        -- the answer goes back to the place
        reply_in : (kind : SysKind) (payload : List ℤ) → m.from.0 ≡ owner_of t i.slot.0
            → inn (reply me m kind (frame_of h) (frame_of i) payload ∷ []) ≡ kind_back (slice_get all_kinds (number_of kind)) payload
        unfolding back_of
        reply_in kind payload from =
            append-nil _
            ∙ rw (eq-eqb (owner_of t i.slot.0) m.from.0 (sym from), eq-eqb h.slot.0 h.slot.0 refl, eq-eqb h.generation.0 h.generation.0 refl, eq-eqb i.slot.0 i.slot.0 refl, eq-eqb i.generation.0 i.generation.0 refl) refl

        -- an answer to another place, or of another home
        reply_other : (kind : SysKind) (payload : List ℤ) (a b : Endpoint) → goes_between h i (Some b) a ≡ false
            → inn (reply me m kind b a payload ∷ []) ≡ []
        unfolding back_of
        reply_other kind payload a b other = silent_in (reply me m kind b a payload ∷ []) (ap (λ (z : Bool). if z then kind_back (slice_get all_kinds (number_of kind)) payload else []) other, tt)

        import_here : m.from.0 ≡ owner_of t i.slot.0 → TakenIn (kinds.Import ∷ []) (import t me f.lives f.plugs m (frame_of i) (frame_of h))
        unfolding import updated
        import_here from = go (is_live f.lives h) refl (is_port_taken t (f.plugs h.slot.0) i h)
          where
            more : List Incarnation
            more = f.plugs h.slot.0 ++ i ∷ []

            grown : is_live f.lives h ≡ true
                → lent (record f { plugs = λ n. if n == h.slot.0 then f.plugs h.slot.0 ++ i ∷ [] else f.plugs n }) ≡ suc (count_by (is_incarnation i) (f.plugs h.slot.0))
            grown live =
                live_lent (is_live f.lives h) (if h.slot.0 == h.slot.0 then f.plugs h.slot.0 ++ i ∷ [] else f.plugs h.slot.0) live
                ∙ ap (λ (z : Bool). count_by (is_incarnation i) (if z then f.plugs h.slot.0 ++ i ∷ [] else f.plugs h.slot.0)) (eq-eqb h.slot.0 h.slot.0 refl)
                ∙ count_more (is_incarnation i) (f.plugs h.slot.0) i
                ∙ ap (λ (z : Bool). if z then suc (count_by (is_incarnation i) (f.plugs h.slot.0)) else count_by (is_incarnation i) (f.plugs h.slot.0)) (itself i)

            go : (x : Bool) → is_live f.lives h ≡ x → (y : Bool) → TakenIn (kinds.Import ∷ []) (
                if not x then record { now = f.plugs; sent = reply me m kinds.ImportRefused (frame_of h) (frame_of i) (coded StaleId) ∷ [] }
                else if y then record { now = f.plugs; sent = reply me m kinds.ImportRefused (frame_of h) (frame_of i) (coded PortTaken) ∷ [] }
                else record { now = λ n. if n == h.slot.0 then f.plugs h.slot.0 ++ i ∷ [] else f.plugs n; sent = reply me m kinds.ImportDone (frame_of h) (frame_of i) [] ∷ [] })
            go false e y =
                by_count (kinds.Import ∷ []) f f _ (lent f) (lent f) (kinds.ImportRefused ∷ []) refl refl (reply_in kinds.ImportRefused (coded StaleId) from) (λ a forth back r. row_denies r)
            go true e true =
                by_count (kinds.Import ∷ []) f f _ (lent f) (lent f) (kinds.ImportRefused ∷ []) refl refl (reply_in kinds.ImportRefused (coded PortTaken) from) (λ a forth back r. row_denies r)
            go true e false =
                by_count (kinds.Import ∷ []) f _ _ (count_by (is_incarnation i) (f.plugs h.slot.0)) (suc (count_by (is_incarnation i) (f.plugs h.slot.0))) (kinds.ImportDone ∷ [])
                (live_lent (is_live f.lives h) (f.plugs h.slot.0) e) (grown e) (reply_in kinds.ImportDone [] from)
                (λ a forth back r. subst (λ n. Row a forth (back ++ kinds.ImportDone ∷ []) n) (next (count_by (is_incarnation i) (f.plugs h.slot.0))) (row_grants r))
              where
                next : (n : ℕ) → n + 1 ≡ suc n
                next n = omega arith

        deport_here : m.from.0 ≡ owner_of t i.slot.0 → TakenIn (kinds.Deport ∷ []) (deport me f.lives f.plugs m (frame_of i) (frame_of h))
        unfolding deport updated
        deport_here from = go (is_live f.lives h) refl
          where
            passed : (q : Incarnation) → Bool
            passed q = not (is_incarnation q i)

            shrunk : is_live f.lives h ≡ true
                → lent (record f { plugs = λ n. if n == h.slot.0 then filter (λ (q : Incarnation). not (is_incarnation q i)) (f.plugs h.slot.0) else f.plugs n }) ≡ 0
            shrunk live =
                live_lent (is_live f.lives h) (if h.slot.0 == h.slot.0 then filter (λ (q : Incarnation). not (is_incarnation q i)) (f.plugs h.slot.0) else f.plugs h.slot.0) live
                ∙ ap (λ (z : Bool). count_by (is_incarnation i) (if z then filter (λ (q : Incarnation). not (is_incarnation q i)) (f.plugs h.slot.0) else f.plugs h.slot.0)) (eq-eqb h.slot.0 h.slot.0 refl)
                ∙ count_none (is_incarnation i) (λ (q : Incarnation). not (is_incarnation q i)) (λ x e. ap not (swap_incarnation x i ∙ e)) (f.plugs h.slot.0)

            go : (x : Bool) → is_live f.lives h ≡ x → Takes (kinds.Deport ∷ []) f (reply me m kinds.DeportDone (frame_of h) (frame_of i) [] ∷ [])
                (record f { plugs = if x then (λ n. if n == h.slot.0 then filter (λ (q : Incarnation). not (is_incarnation q i)) (f.plugs h.slot.0) else f.plugs n) else f.plugs })
            go true e =
                by_count (kinds.Deport ∷ []) f _ _ (lent f) 0 (kinds.DeportDone ∷ []) refl (shrunk e) (reply_in kinds.DeportDone [] from) (λ a forth back r. row_frees r)
            go false e =
                by_count (kinds.Deport ∷ []) f f _ (lent f) 0 (kinds.DeportDone ∷ []) refl (dead_lent (is_live f.lives h) (f.plugs h.slot.0) e) (reply_in kinds.DeportDone [] from) (λ a forth back r. row_frees r)

        -- a request of another place, or to another home
        module _ (a b : Endpoint) (other : (is_incarnation i (whose a) && is_incarnation h (whose b)) ≡ false) where
          not_between : goes_between h i (Some b) a ≡ false
          not_between = go (is_frame b && is_frame a) (is_incarnation i (whose a)) (is_incarnation h (whose b)) other
            where
              go : (f x y : Bool) → (x && y) ≡ false → ((f && y) && x) ≡ false
              go true true true q = absurd cc
              go true true false q = refl
              go true false true q = refl
              go true false false q = refl
              go false x y q = refl

          -- plugs of the home's slot that change as no plug of the pair does
          other_lent : (next : List Incarnation) → is_live f.lives (whose b) ≡ true
              → (is_incarnation i (whose a) ≡ false → (h.slot.0 == b.slot.0) ≡ true → count_by (is_incarnation i) next ≡ count_by (is_incarnation i) (f.plugs b.slot.0))
              → lent (record f { plugs = λ n. if n == b.slot.0 then next else f.plugs n }) ≡ lent f
          other_lent next live same = slot (h.slot.0 == b.slot.0) refl
            where
              here : (h.slot.0 == b.slot.0) ≡ true → (x : Bool) → is_incarnation i (whose a) ≡ x → lent_by i (is_live f.lives h) next ≡ lent f
              here d true e =
                  let apart : (true && is_incarnation h (whose b)) ≡ false = subst (λ (z : Bool). (z && is_incarnation h (whose b)) ≡ false) e other in
                  let slots : h.slot.0 ≡ b.slot.0 = eqb-true h.slot.0 b.slot.0 d in
                  let gens : (h.generation.0 == b.generation.0) ≡ false = subst (λ (z : Bool). (z && (h.generation.0 == b.generation.0)) ≡ false) d apart in
                  let lives : f.lives.generation h.slot.0 ≡ b.generation.0 =
                  ap f.lives.generation slots ∙ eqb-true (f.lives.generation b.slot.0) b.generation.0 (and_parts (f.lives.lives b.slot.0) (f.lives.generation b.slot.0 == b.generation.0) live).1 in
                  let dead : is_live f.lives h ≡ false = none (f.lives.lives h.slot.0) (f.lives.generation h.slot.0 == h.generation.0) (ap (λ n. n == h.generation.0) lives ∙ swap_eqb b.generation.0 h.generation.0 ∙ gens) in
                  dead_lent (is_live f.lives h) next dead ∙ sym (dead_lent (is_live f.lives h) (f.plugs h.slot.0) dead)
                where
                  none : (p q : Bool) → q ≡ false → (p && q) ≡ false
                  none true q e = e
                  none false q e = refl
              here d false e = live_case (is_live f.lives h)
                where
                  counted : count_by (is_incarnation i) next ≡ count_by (is_incarnation i) (f.plugs h.slot.0)
                  counted = same e d ∙ ap (λ n. count_by (is_incarnation i) (f.plugs n)) (sym (eqb-true h.slot.0 b.slot.0 d))

                  live_case : (z : Bool) → lent_by i z next ≡ lent_by i z (f.plugs h.slot.0)
                  live_case true = live_lent true next refl ∙ counted ∙ sym (live_lent true (f.plugs h.slot.0) refl)
                  live_case false = dead_lent false next refl ∙ sym (dead_lent false (f.plugs h.slot.0) refl)

              slot : (z : Bool) → (h.slot.0 == b.slot.0) ≡ z → lent_by i (is_live f.lives h) (if z then next else f.plugs h.slot.0) ≡ lent f
              slot true d = here d (is_incarnation i (whose a)) refl
              slot false d = refl

          import_other : TakenIn [] (import t me f.lives f.plugs m a b)
          unfolding import updated
          import_other = go (is_live f.lives (whose b)) refl (is_port_taken t (f.plugs b.slot.0) (whose a) (whose b))
            where
              go : (x : Bool) → is_live f.lives (whose b) ≡ x → (y : Bool) → TakenIn [] (
                  if not x then record { now = f.plugs; sent = reply me m kinds.ImportRefused b a (coded StaleId) ∷ [] }
                  else if y then record { now = f.plugs; sent = reply me m kinds.ImportRefused b a (coded PortTaken) ∷ [] }
                  else record { now = λ n. if n == b.slot.0 then f.plugs b.slot.0 ++ whose a ∷ [] else f.plugs n; sent = reply me m kinds.ImportDone b a [] ∷ [] })
              go false e y = rests f f _ refl (reply_other kinds.ImportRefused (coded StaleId) a b not_between)
              go true e true = rests f f _ refl (reply_other kinds.ImportRefused (coded PortTaken) a b not_between)
              go true e false =
                  rests f _ _
                  (other_lent (f.plugs b.slot.0 ++ whose a ∷ []) e
                  (λ apart d. count_more (is_incarnation i) (f.plugs b.slot.0) (whose a)
                  ∙ ap (λ (z : Bool). if z then suc (count_by (is_incarnation i) (f.plugs b.slot.0)) else count_by (is_incarnation i) (f.plugs b.slot.0)) apart))
                  (reply_other kinds.ImportDone [] a b not_between)

          deport_other : TakenIn [] (deport me f.lives f.plugs m a b)
          unfolding deport updated
          deport_other = go (is_live f.lives (whose b)) refl
            where
              go : (x : Bool) → is_live f.lives (whose b) ≡ x → Takes [] f (reply me m kinds.DeportDone b a [] ∷ [])
                  (record f { plugs = if x then (λ n. if n == b.slot.0 then filter (λ (q : Incarnation). not (is_incarnation q (whose a))) (f.plugs b.slot.0) else f.plugs n) else f.plugs })
              go true e =
                  rests f _ _
                  (other_lent (filter (λ (q : Incarnation). not (is_incarnation q (whose a))) (f.plugs b.slot.0)) e
                  (λ apart d. count_passed (is_incarnation i) (λ (q : Incarnation). not (is_incarnation q (whose a)))
                  (λ x is. ap not (ap (λ (z : Incarnation). is_incarnation z (whose a)) (sym (same_incarnation i x is)) ∙ apart)) (f.plugs b.slot.0)))
                  (reply_other kinds.DeportDone [] a b not_between)
              go false e = rests f f _ refl (reply_other kinds.DeportDone [] a b not_between)

      -- a request, on whichever loan
      requested : (kind : SysKind) (r : Endpoint → Endpoint → Done (ℕ → List Incarnation)) (a b : Endpoint)
          → (is_incarnation i (whose a) ≡ true → TakenIn (kind ∷ []) (r (frame_of i) (frame_of h)))
          → ((is_incarnation i (whose a) && is_incarnation h (whose b)) ≡ false → TakenIn [] (r a b))
          → is_frame a ≡ true → is_frame b ≡ true → TakenIn (if goes_between i h (Some a) b then kind ∷ [] else []) (r a b)
      requested kind r a b here other fa fb = go (is_incarnation i (whose a)) refl (is_incarnation h (whose b)) refl
        where
          toks : (x : Bool) → is_incarnation i (whose a) ≡ x → (y : Bool) → is_incarnation h (whose b) ≡ y
              → (if goes_between i h (Some a) b then kind ∷ [] else []) ≡ (if x && y then kind ∷ [] else [])
          toks x e y d =
              ap (λ (z : Bool). if z then kind ∷ [] else [])
              (ap (λ (z : Bool). ((z && is_frame b) && is_incarnation i (whose a)) && is_incarnation h (whose b)) fa
              ∙ ap (λ (z : Bool). (z && is_incarnation i (whose a)) && is_incarnation h (whose b)) fb
              ∙ ap (λ (z : Bool). z && is_incarnation h (whose b)) e ∙ ap (λ (z : Bool). x && z) d)

          meant : is_incarnation i (whose a) ≡ true → is_incarnation h (whose b) ≡ true → TakenIn (kind ∷ []) (r a b)
          meant e d =
              subst (λ (z : Endpoint). TakenIn (kind ∷ []) (r z b)) (sym (same_frame a i fa e))
              (subst (λ (z : Endpoint). TakenIn (kind ∷ []) (r (frame_of i) z)) (sym (same_frame b h fb d)) (here e))

          go : (x : Bool) → is_incarnation i (whose a) ≡ x → (y : Bool) → is_incarnation h (whose b) ≡ y
              → TakenIn (if goes_between i h (Some a) b then kind ∷ [] else []) (r a b)
          go true e true d = subst (λ (z : List SysKind). TakenIn z (r a b)) (sym (toks true e true d)) (meant e d)
          go true e false d = subst (λ (z : List SysKind). TakenIn z (r a b)) (sym (toks true e false d)) (other (ap (λ (z : Bool). z && is_incarnation h (whose b)) e ∙ d))
          go false e y d = subst (λ (z : List SysKind). TakenIn z (r a b)) (sym (toks false e y d)) (other (ap (λ (z : Bool). z && is_incarnation h (whose b)) e))

      -- the duties
      module _ (imported : is_imported t i.slot.0 ≡ true) (home : is_home t h.slot.0 ≡ true) (mine : is_own t me h.slot.0 ≡ true) (k : LendsSo t f) (m : Msg) where
        abbrev RestsIn : FrameDone → Type 0
        RestsIn r = Rests f r.sent r.frame

        none_rests : Rests f [] f
        none_rests = rests f f [] refl refl

        off_rests : (ms : List Msg) → AllOffLoan ms → (g : Frame) → lent g ≡ lent f → Rests f ms g
        off_rests ms off g same = rests f g ms same (off_in i h (owner_of t i.slot.0) ms off)

        create_rests : (o : ℕ) (x : Endpoint) → RestsIn (with_lives f (create t me f.lives m o x))
        unfolding create made part_make
        create_rests o x = go (counts_as_live t me f.lives (whose x)) (f.lives.lives o) (off_create t me f.lives m o x)
          where
            go : (a b : Bool)
                → AllOffLoan (
                if not a then answered f.lives (reply me m kinds.CreateRefused (frame_at o 0) x (coded NotHere))
                else if b then answered f.lives (reply me m kinds.CreateRefused (frame_at o 0) x (coded Occupied))
                else made t me f.lives m o x).sent
                → RestsIn (with_lives f (
                if not a then answered f.lives (reply me m kinds.CreateRefused (frame_at o 0) x (coded NotHere))
                else if b then answered f.lives (reply me m kinds.CreateRefused (frame_at o 0) x (coded Occupied))
                else made t me f.lives m o x))
            go false b off = off_rests [] tt f refl
            go true true off = off_rests [] tt f refl
            go true false off = made_rests k o _ off

        part_rests : (o : ℕ) → RestsIn (with_lives f (part_make t me f.lives o))
        unfolding part_make
        part_rests o = made_rests k o _ (off_part_make t me f.lives o)

        destroy_rests : (o : ℕ) (x : Endpoint) → RestsIn (destroy t me f m o x)
        unfolding destroy
        destroy_rests o x = go (not (counts_as_live t me f.lives (whose x)) || not (f.lives.lives o))
          where
            go : (a : Bool) → RestsIn (
                if a then record { frame = f; sent = []; made = []; ended = []; last = Some (reply me m kinds.DestroyDone (frame_at o 0) x (coded NotHere)) }
                else end_set_ended t me f o (Some (reply me m kinds.DestroyDone (frame_of (last_of f.lives o)) x (pos 0 ∷ []))))
            go true = none_rests
            go false = ended_rests o _

        part_end_rests : (o : ℕ) → RestsIn (part_end t me f o)
        unfolding part_end
        part_end_rests o = ended_rests o None

        -- a request of the pair has the form that the duty wants
        forth_fits : (a b : Endpoint) → goes_between i h (Some a) b ≡ true → is_forth t me a b ≡ true
        forth_fits a b e =
            let p = and_parts (is_frame a && is_frame b && is_incarnation i (whose a)) (is_incarnation h (whose b)) e in
            let q = and_parts (is_frame a && is_frame b) (is_incarnation i (whose a)) p.0 in
            let x : i.slot.0 ≡ a.slot.0 = eqb-true i.slot.0 a.slot.0 (and_parts (i.slot.0 == a.slot.0) (i.generation.0 == a.generation.0) q.1).0 in
            let y : h.slot.0 ≡ b.slot.0 = eqb-true h.slot.0 b.slot.0 (and_parts (h.slot.0 == b.slot.0) (h.generation.0 == b.generation.0) p.1).0 in
            and_all (is_frame a && is_frame b) (is_imported t a.slot.0) (is_home t b.slot.0) (is_own t me b.slot.0) q.0
            (subst (λ n. is_imported t n ≡ true) x imported) (subst (λ n. is_home t n ≡ true) y home) (subst (λ n. is_own t me n ≡ true) y mine)
          where
            and_all : (q r s u : Bool) → q ≡ true → r ≡ true → s ≡ true → u ≡ true → (((q && r) && s) && u) ≡ true
            and_all true true true true b c d e = refl
            and_all false r s u b c d e = absurd cc
            and_all true false s u b c d e = absurd cc
            and_all true true false u b c d e = absurd cc
            and_all true true true false b c d e = absurd cc

        forth_frames : (a b : Endpoint) → is_forth t me a b ≡ true → (is_frame a ≡ true) × (is_frame b ≡ true)
        forth_frames a b e =
            let p = and_parts (is_frame a && is_frame b && is_imported t a.slot.0 && is_home t b.slot.0) (is_own t me b.slot.0) e in
            let q = and_parts (is_frame a && is_frame b && is_imported t a.slot.0) (is_home t b.slot.0) p.0 in
            let r = and_parts (is_frame a && is_frame b) (is_imported t a.slot.0) q.0 in
            let s = and_parts (is_frame a) (is_frame b) r.0 in
            (s.0, s.1)

        -- who asks for the pair is the place's owner
        asker : (a : Endpoint) → (is_imported t a.slot.0 ≡ true → owner_of t a.slot.0 ≡ m.from.0) → is_incarnation i (whose a) ≡ true
            → m.from.0 ≡ owner_of t i.slot.0
        asker a from e =
            let same : i ≡ whose a = same_incarnation i (whose a) e in
            sym (from (subst (λ (z : Incarnation). is_imported t z.slot.0 ≡ true) same imported)) ∙ sym (ap (λ (z : Incarnation). owner_of t z.slot.0) same)

        import_takes : (a b : Endpoint) → is_forth t me a b ≡ true → (is_imported t a.slot.0 ≡ true → owner_of t a.slot.0 ≡ m.from.0)
            → TakenIn (if goes_between i h (Some a) b then kinds.Import ∷ [] else []) (import t me f.lives f.plugs m a b)
        import_takes a b form from =
            let fr = forth_frames a b form in
            requested kinds.Import (λ x y. import t me f.lives f.plugs m x y) a b (λ e. import_here m (asker a from e)) (λ other. import_other m a b other) fr.0 fr.1

        deport_takes : (a b : Endpoint) → is_forth t me a b ≡ true → (is_imported t a.slot.0 ≡ true → owner_of t a.slot.0 ≡ m.from.0)
            → TakenIn (if goes_between i h (Some a) b then kinds.Deport ∷ [] else []) (deport me f.lives f.plugs m a b)
        deport_takes a b form from =
            let fr = forth_frames a b form in
            requested kinds.Deport (λ x y. deport me f.lives f.plugs m x y) a b (λ e. deport_here m (asker a from e)) (λ other. deport_other m a b other) fr.0 fr.1

        silent : (z : Bool) (xs : List SysKind) → xs ≡ [] → (g : Frame) (ms : List Msg) → Rests f ms g → Takes (if z then xs else []) f ms g
        silent z xs e g ms p = subst (λ (y : List SysKind). Takes y f ms g) (sym (go z)) p
          where
            go : (z : Bool) → (if z then xs else []) ≡ []
            go true = e
            go false = refl

        plain_takes : (z fits : Bool) → (z ≡ true → fits ≡ true) → (kind : SysKind) (numbers : List ℤ → List SysKind)
            → numbers [] ≡ kind ∷ [] → ((n : ℤ) (ns : List ℤ) → numbers (n ∷ ns) ≡ [])
            → (r : FrameDone) → (fits ≡ true → Takes (if z then kind ∷ [] else []) f r.sent r.frame) → (payload : List ℤ)
            → Takes (if z then numbers payload else []) f (plainly f fits payload r).sent (plainly f fits payload r).frame
        plain_takes z fits form kind numbers one none r p (n ∷ ns) = silent z (numbers (n ∷ ns)) (none n ns) f [] none_rests
        plain_takes z fits form kind numbers one none r p [] =
            subst (λ (xs : List SysKind). Takes (if z then xs else []) f (plainly f fits [] r).sent (plainly f fits [] r).frame) (sym one) (go fits refl z refl)
          where
            go : (x : Bool) → fits ≡ x → (y : Bool) → z ≡ y → Takes (if z then kind ∷ [] else []) f (plainly f x [] r).sent (plainly f x [] r).frame
            go true e y d = p e
            go false e true d = absurd (not_true_false fits (form d) e)
            go false e false d = subst (λ (b : Bool). Takes (if b then kind ∷ [] else []) f [] f) (sym d) none_rests

        duty_of_takes : (kind : SysKind) (a b : Endpoint) → ((x : Loan) → forth_by (Some kind) (Some a) b ≡ Some x → IsBetween t m.from.0 me x)
            → Takes (if goes_between i h (Some a) b then kind_forth (Some kind) m.payload else []) f (frame_duty_of t me f m kind a b).sent (frame_duty_of t me f m kind a b).frame
        duty_of_takes kinds.Create a b hand = silent (goes_between i h (Some a) b) [] refl _ _ (by_plainly t me f RestsIn none_rests _ m.payload _ (λ e. create_rests b.slot.0 a))
        duty_of_takes kinds.Destroy a b hand = silent (goes_between i h (Some a) b) [] refl _ _ (by_plainly t me f RestsIn none_rests _ m.payload _ (λ e. destroy_rests b.slot.0 a))
        duty_of_takes kinds.CreateDone a b hand =
            silent (goes_between i h (Some a) b) [] refl _ _ (by_plainly t me f RestsIn none_rests _ m.payload _ (λ e. off_rests _ (off_create_done t me a b) f refl))
        duty_of_takes kinds.CreateRefused a b hand =
            silent (goes_between i h (Some a) b) [] refl _ _ (by_number t me f RestsIn none_rests _ m.payload _ (λ n. off_rests _ (off_create_refused t me a b n) f refl))
        duty_of_takes kinds.DestroyDone a b hand =
            silent (goes_between i h (Some a) b) [] refl _ _
            (by_number t me f RestsIn none_rests _ m.payload _ (λ n. by_natural t me f RestsIn none_rests n _ (λ j. off_rests _ (off_destroy_done t me a b j) f refl)))
        duty_of_takes kinds.Import a b hand =
            plain_takes (goes_between i h (Some a) b) (is_forth t me a b) (forth_fits a b) kinds.Import (λ ns. kind_forth (Some kinds.Import) ns) refl (λ n ns. refl)
            _ (λ e. import_takes a b e (hand (record { place = whose a; home = whose b }) refl).place) m.payload
        duty_of_takes kinds.Deport a b hand =
            plain_takes (goes_between i h (Some a) b) (is_forth t me a b) (forth_fits a b) kinds.Deport (λ ns. kind_forth (Some kinds.Deport) ns) refl (λ n ns. refl)
            _ (λ e. deport_takes a b e (hand (record { place = whose a; home = whose b }) refl).place) m.payload
        duty_of_takes kinds.ImportDone a b hand =
            silent (goes_between i h (Some a) b) [] refl _ _ (by_plainly t me f RestsIn none_rests _ m.payload _ (λ e. off_rests _ (off_import_done t me f.lives f.places a b) _ refl))
        duty_of_takes kinds.ImportRefused a b hand =
            silent (goes_between i h (Some a) b) [] refl _ _ (by_number t me f RestsIn none_rests _ m.payload _ (λ n. off_rests _ (off_import_refused t me f.lives f.places a b n) _ refl))
        duty_of_takes kinds.ImportEnded a b hand =
            silent (goes_between i h (Some a) b) [] refl _ _ (by_plainly t me f RestsIn none_rests _ m.payload _ (λ e. off_rests _ (off_import_ended t me f.lives f.places a b) _ refl))
        duty_of_takes kinds.DeportDone a b hand =
            silent (goes_between i h (Some a) b) [] refl _ _ (by_plainly t me f RestsIn none_rests _ m.payload _ (λ e. off_rests _ (off_deport_done t me f.lives f.places a b) _ refl))
        duty_of_takes kinds.Announce a b hand =
            silent (goes_between i h (Some a) b) [] refl _ _
            (by_number t me f RestsIn none_rests _ m.payload _ (λ n. by_natural t me f RestsIn none_rests n _ (λ j. off_rests [] tt _ refl)))
        duty_of_takes kinds.Register a b hand = silent (goes_between i h (Some a) b) [] refl f [] none_rests
        duty_of_takes kinds.Withdraw a b hand = silent (goes_between i h (Some a) b) [] refl f [] none_rests
        duty_of_takes kinds.Bound a b hand = silent (goes_between i h (Some a) b) [] refl f [] none_rests
        duty_of_takes kinds.Ended a b hand = silent (goes_between i h (Some a) b) [] refl f [] none_rests
        duty_of_takes kinds.NameReply a b hand = silent (goes_between i h (Some a) b) [] refl f [] none_rests
        duty_of_takes kinds.PartMake a b hand = silent (goes_between i h (Some a) b) [] refl _ _ (by_plainly t me f RestsIn none_rests _ m.payload _ (λ e. part_rests a.slot.0))
        duty_of_takes kinds.PartEnd a b hand = silent (goes_between i h (Some a) b) [] refl _ _ (by_plainly t me f RestsIn none_rests _ m.payload _ (λ e. part_end_rests a.slot.0))

        duty_from_takes : (kind : SysKind) (o : Option Endpoint) → ((x : Loan) → forth_by (Some kind) o m.target ≡ Some x → IsBetween t m.from.0 me x)
            → Takes (if goes_between i h o m.target then kind_forth (Some kind) m.payload else []) f (frame_duty_from t me f m kind o).sent (frame_duty_from t me f m kind o).frame
        duty_from_takes kind None hand = none_rests
        duty_from_takes kind (Some a) hand = duty_of_takes kind a m.target hand

        duty_takes : (m.prio.0 == 0) ≡ true → (kind : SysKind) → slice_get all_kinds m.signal ≡ Some kind → IsRouted t m.from.0 me m
            → Takes (forth_of i h m) f (frame_duty t me f kind m).sent (frame_duty t me f kind m).frame
        unfolding frame_duty forth_of
        duty_takes zero kind is routed =
            subst (λ (xs : List SysKind). Takes xs f (frame_duty_from t me f m kind m.source).sent (frame_duty_from t me f m kind m.source).frame) (sym toks)
            (duty_from_takes kind m.source (λ x e. routed.forth x (rw (zero, is) e)))
          where
            toks : (if (m.prio.0 == 0) && goes_between i h m.source m.target then kind_forth (slice_get all_kinds m.signal) m.payload else [])
                ≡ (if goes_between i h m.source m.target then kind_forth (Some kind) m.payload else [])
            toks =
                ap (λ (z : Bool). if z && goes_between i h m.source m.target then kind_forth (slice_get all_kinds m.signal) m.payload else []) zero
                ∙ ap (λ (o : Option SysKind). if goes_between i h m.source m.target then kind_forth o m.payload else []) is

    module _ {M : Type 0} (model : Behaviour M) (clear : IsOpen model) where
      pub treat_takes : is_imported t i.slot.0 ≡ true → is_home t h.slot.0 ≡ true → is_own t me h.slot.0 ≡ true → (b : Body M) (m : Msg)
          → LendsSo t b.frame
          → ((m.prio.0 == 0) ≡ true → IsRouted t m.from.0 me m)
          → Takes (forth_of i h m) b.frame (treat model t me b m).sent (treat model t me b m).body.frame
      treat_takes imported home mine b m k routed =
          turn_walks t me (Takes []) resting model clear (Takes (forth_of i h m)) (λ f g l x y p q. both (forth_of i h m) f g l x y p q) b m
          (λ off. subst (λ (xs : List SysKind). Takes xs b.frame [] b.frame) (sym (off_forth i h m off)) (rests b.frame b.frame [] refl refl))
          (λ zero kind is. duty_takes b.frame imported home mine k m zero kind is (routed zero))

      pub start_rests : Rests (first_frame t me) (first_state model t me).outbox (first_state model t me).body.frame
      start_rests = start_walks t me (Takes []) resting model clear

  -- what it says of a row
  pub takes_row : (toks : List SysKind) (f g : Frame) (ms : List Msg) → Takes toks f ms g → (a : Side) (forth back : List SysKind)
      → Row a (toks ++ forth) back (lent f) → Row a forth (back ++ inn ms) (lent g)
  unfolding Takes
  takes_row toks f g ms p a forth back r = p a forth back r
