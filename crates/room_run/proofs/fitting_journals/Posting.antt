-- All that is posted in a run goes from a port of the wiring to one, with a signal that is there: so it is of what
-- waits for its turn, of what is kept, of what is on its way, and of what a controller keeps of places, plugs, links
-- and names.
use Rattle.std.proofs.Common.{◌≡◌, ℕ, zero, suc, ◌+◌, ◌<◌, ◌==◌, ◌&&◌, Bool, true, false, not, if◌then◌else◌, List, [], ◌∷◌, ◌++◌, drop, filter, length, Option, Some, None, IfSome, slice_get, refl, sym, ap, ◌∙◌, subst, eqb-true, arith}
use Rattle.std.specs.Option.{option_map_or, option_and_then}
use Rattle.std.specs.List.{AllByRecursion as Each}
use Rattle.std.proofs.lemmas.Option.{same_Some, slice_get_within}
use Rattle.room_kinds.specs.declared.message.Msg.{Msg}
use Rattle.room_kinds.specs.declared.command.Command.{Command}
use Rattle.room_kinds.specs.declared.command.Command.TheVariants as commands
use Rattle.room_kinds.specs.declared.command.NameCommand.TheVariants as names
use Rattle.room_kinds.specs.declared.numbers.Incarnation.{Incarnation}
use Rattle.room_kinds.specs.declared.system.SysKind.{SysKind}
use Rattle.room_kinds.specs.declared.system.SysKind.TheVariants as kinds
use Rattle.room_wiring.specs.Places.{port_count, place_count}
use Rattle.room_wiring.specs.Slots.{class_of, port_at}
use Rattle.room_wiring.specs.declared.names.ClassNames.{ClassNames}
use Rattle.room_wiring.specs.declared.names.PortNames.{PortNames}
use Rattle.room_wiring.specs.declared.tables.Tables.{Tables}
use Rattle.journal.specs.declared.entry.Did.TheVariants as did
use Rattle.journal.specs.declared.entry.Entry.{Entry}
use Rattle.journal.specs.declared.entry.Entry.TheVariants as entry
use Rattle.inject_reader.specs.declared.inject_lines.accepted.Line.{Line as Asked}
use Rattle.inject_reader.specs.declared.inject_lines.accepted.What.{What}
use Rattle.inject_reader.specs.declared.inject_lines.accepted.What.TheVariants as whats
use Rattle.actor_merge.specs.Mail.{Lane, lane, is_lane, event_of}
use Rattle.actor_merge.specs.Parties.{State, Environment, Line, Plant as RunPlant, Taken, Treated, put, put_back, front_or, lowest, next_of, fetch, turn, turned, turn_with, post, post_front, post_line, environment_post}
use Rattle.actor_merge.specs.World.{World, Placed, start, Runs, put_lane, caught_up, controller_does, environment_does, lanes_after}
use Rattle.actor_merge.proofs.Back.{Happened, controller, environment, happened, fetch_front_from}
use Rattle.actor_merge.proofs.Lanes.{put-same}
use Rattle.actor_duties.specs.Commands.{Kept, defer, recall, recall_all}
use Rattle.actor_duties.specs.Frame.{FrameDone, frame_duty}
use Rattle.actor_duties.specs.Lives.{is_live, last_of}
use Rattle.actor_duties.specs.Links.{links_duty}
use Rattle.actor_duties.specs.Names.{table_duty}
use Rattle.actor_duties.specs.Words.{updated, whose, is_own}
use Rattle.actor_world.specs.Behaviour.{Behaviour, Handling, Handled, Deferred, Unhandled}
use Rattle.actor_world.specs.Body.{Body, Doing, apply, apply_all}
use Rattle.actor_world.specs.Journals.{lines_from}
use Rattle.actor_world.specs.Turns.{all_kinds, doing, treated, begun, all_begun, gone, all_gone, closing, with_frame, duty, system_done, handled_as, nobody_there, handled, dispatched, is_meant, dispatch, treat}
use Rattle.actor_world.specs.Start.{first_body, first_actors, Starting, started, all_started, starting, plant_of}
use Rattle.model_run.specs.part_posts.Items.{item_of, items_of}
use Rattle.inject_reader.specs.Fitting.{WhatFits, LinesFit}
use Rattle.law_runs.specs.run_journals.Outside.{NamesPlace, WhatNames, LinesName}
use Rattle.room_run.specs.fitting_journals.Places.{given, FitsPlace, SourceFits, FitsNobody}
use Rattle.room_run.proofs.fitting_journals.Acting.{AreThere, FrameThere, frame_duty_there}
use Rattle.room_run.proofs.fitting_journals.Signals.{Linked, TiesBy, Ties, says_worded, says_tied}
use Rattle.room_run.proofs.fitting_journals.Speaking.{AsksAt}
use Rattle.room_run.proofs.fitting_journals.Outboxes.{PlacedGives, outbox_gives}
use Rattle.room_run.proofs.fitting_journals.Sending.{GivesPlace, IsWired, IsNamed, SystemNamed, AreNamed, LastNamed, FrameNamed, LinksNamed, TableNamed, FrameDoneNamed, each_both, each_kept, frame_duty_named, request_named, register_command_named, withdraw_command_named, end_of_named, links_duty_named, table_duty_named, send_named, broadcast_named}

-- what an actor asks for goes by ports of its class
pub record AsksByPorts {M : Type 0} (t : Tables) (model : Behaviour M) : Type 0 where
  pub begin : (x : Incarnation) → Each (AsksAt t x.slot.0) (model.begin x).commands
  pub handle : (x : Incarnation) (machine : M) (m : Msg) → Each (AsksAt t x.slot.0) (model.handle x machine m).commands

-- what an entry posts is named, and the slot of a turn's message that found nobody is there
abbrev pub PostIsNamed : Tables → Linked → Entry → Type 0
PostIsNamed t L (entry.Start who state notes) = Unit {0}
PostIsNamed t L (entry.Fetch stamp m) = Unit {0}
PostIsNamed t L (entry.Turn stamp from sent what notes) = FitsNobody t what
PostIsNamed t L (entry.Post stamp m) = IsNamed t L m

-- ---- lines from outside

port_within : (t : Tables) (s p : ℕ) (port : PortNames) → port_at t s p ≡ Some port → p < port_count t s
unfolding port_at port_count
port_within t s p port is = go (class_of t s) is
  where
    go : (o : Option ClassNames) → option_and_then (λ (c : ClassNames). slice_get c.ports p) o ≡ Some port → p < option_map_or (λ (c : ClassNames). length c.ports) o 0
    go None e = absurd cc
    go (Some c) e = slice_get_within c.ports p port e

-- what the lines name, and that their places are among those that the wiring gives
abbrev pub WhatStands : Tables → What → Type 0
WhatStands t whats.Settle = Unit {0}
WhatStands t (whats.Advance time) = Unit {0}
WhatStands t (whats.Message target signal payload prio) = NamesPlace t target signal prio.0 × (target.place < place_count t target.slot.0 target.port)

pub lines_stand : (t : Tables) (lines : List Asked) → LinesFit t lines → LinesName t lines → Each (λ (l : Asked). WhatStands t l.what) lines
lines_stand t [] f n = tt
lines_stand t (x ∷ lines) f n = (go x.what f.0 n.0, lines_stand t lines f.1 n.1)
  where
    go : (what : What) → WhatFits t what → WhatNames t what → WhatStands t what
    go whats.Settle f n = tt
    go (whats.Advance time) f n = tt
    go (whats.Message target signal payload prio) f n = (n, f.target_fits.place)

pub lines_named : (t : Tables) (L : Linked) (lines : List Asked) (part : ℕ) → Each (λ (l : Asked). WhatStands t l.what) lines
    → Each (λ (l : Line). IsNamed t L l.message) (lines_from part (items_of t lines))
lines_named t L [] part h = tt
lines_named t L (x ∷ lines) part h = go x.what h.0 (λ p. lines_named t L lines p h.1)
  where
    go : (what : What) → WhatStands t what → ((p : ℕ) → Each (λ (l : Line). IsNamed t L l.message) (lines_from p (items_of t lines)))
        → Each (λ (l : Line). IsNamed t L l.message) (lines_from part (item_of t x.number what ∷ items_of t lines))
    go whats.Settle n rest = rest (part + 1)
    go (whats.Advance time) n rest = rest (part + 1)
    go (whats.Message target signal payload prio) n rest =
        let place : FitsPlace t L prio.0 target =
        record {
          slot = slice_get_within t.slots target.slot.0 n.0.slot n.0.slot_is;
          port = port_within t target.slot.0 target.port n.0.known.port n.0.known.port_is;
          place = given n.1;
        } in
        ((tt, place, says_worded t L prio.0 signal None target n.0.worded n.0.known), rest part)

line_at : (t : Tables) (L : Linked) (ls : List Line) (i : ℕ) (l : Line) → Each (λ (l : Line). IsNamed t L l.message) ls → slice_get ls i ≡ Some l → IsNamed t L l.message
line_at t L [] i l h e = absurd cc
line_at t L (x ∷ ls) zero l h e = subst (λ (z : Line). IsNamed t L z.message) (same_Some x l e) h.0
line_at t L (x ∷ ls) (suc i) l h e = line_at t L ls i l h.1 e

module _ {M : Type 0} (t : Tables) (L : Linked) (w : IsWired t) (model : Behaviour M) (asks : AsksByPorts t model) where
  pub record BodyNamed (b : Body M) : Type 0 where
    pub frame : FrameNamed t b.frame
    pub links : LinksNamed t L b.links
    pub table : TableNamed t L b.table
    pub deferred : (s : ℕ) → AreNamed t L (b.deferred s)

  record DoingNamed (d : Doing M) : Type 0 where
    body : BodyNamed d.body
    sent : AreNamed t L d.sent
    back : AreNamed t L d.back

  put_deferred : (f : ℕ → List Msg) (at : ℕ) (now : List Msg) → ((s : ℕ) → AreNamed t L (f s)) → AreNamed t L now → (s : ℕ) → AreNamed t L (updated f at now s)
  unfolding updated
  put_deferred f at now h k s = go (s == at)
    where
      go : (b : Bool) → AreNamed t L (if b then now else f s)
      go true = k
      go false = h s

  abbrev KeptNamed : Kept → Type 0
  KeptNamed k = AreNamed t L k.deferred × AreNamed t L k.back

  defer_named : (b : Bool) (m : Option Msg) (ms : List Msg) → LastNamed t L m → AreNamed t L ms → KeptNamed (defer b m ms)
  unfolding defer
  defer_named true m ms h k = (k, tt)
  defer_named false (Some m) ms h k = (each_both (IsNamed t L) ms (m ∷ []) k (h, tt), tt)
  defer_named false None ms h k = (k, tt)

  recall_named : (ms : List Msg) → AreNamed t L ms → KeptNamed (recall ms)
  unfolding recall
  recall_named [] h = (tt, tt)
  recall_named (m ∷ ms) h = (h.1, (h.0, tt))

  recall_all_named : (ms : List Msg) → AreNamed t L ms → KeptNamed (recall_all ms)
  unfolding recall_all
  recall_all_named ms h = (tt, h)

  module _ (me : ℕ) where
    module _ (x : Incarnation) (low : x.slot.0 < length t.slots) (m : Option Msg) (hand : LastNamed t L m) where
      keeping_named : (d : Doing M) (b : Bool) (k : Kept) → DoingNamed d → KeptNamed k
          → DoingNamed (record d { body = record d.body { deferred = updated d.body.deferred x.slot.0 k.deferred }; back = k.back ++ d.back; notes = d.notes ++ k.notes; kept = b })
      keeping_named d b k h n = record {
        body = record { frame = h.body.frame; links = h.body.links; table = h.body.table; deferred = put_deferred d.body.deferred x.slot.0 k.deferred h.body.deferred n.0 };
        sent = h.sent;
        back = each_both (IsNamed t L) k.back d.back n.1 h.back;
      }

      apply_named : (d : Doing M) (c : Command) → AsksAt t x.slot.0 c → DoingNamed d → DoingNamed (apply t me x m d c)
      apply_named d (commands.Send p (Some k) signal payload prio) ask h = record {
        body = h.body;
        sent = each_both (IsNamed t L) d.sent _ h.sent
            (send_named t L w me d.body.frame d.body.links h.body.frame h.body.links x low p ask.0 (record { signal = signal; payload = payload; prio = prio }) ask.1 ask.2 k);
        back = h.back;
      }
      apply_named d (commands.Send p None signal payload prio) ask h = record {
        body = h.body;
        sent = each_both (IsNamed t L) d.sent _ h.sent
            (broadcast_named t L w me d.body.frame d.body.links h.body.frame h.body.links x low p ask.0 (record { signal = signal; payload = payload; prio = prio }) ask.1 ask.2);
        back = h.back;
      }
      apply_named d commands.Defer port h =
          keeping_named d true (defer d.kept m (d.body.deferred x.slot.0)) h (defer_named d.kept m (d.body.deferred x.slot.0) hand (h.body.deferred x.slot.0))
      apply_named d commands.Recall port h =
          keeping_named d d.kept (recall (d.body.deferred x.slot.0)) h (recall_named (d.body.deferred x.slot.0) (h.body.deferred x.slot.0))
      apply_named d commands.RecallAll port h =
          keeping_named d d.kept (recall_all (d.body.deferred x.slot.0)) h (recall_all_named (d.body.deferred x.slot.0) (h.body.deferred x.slot.0))
      apply_named d (commands.Frame c) port h =
          let r = request_named t L w me x low d.body.frame c h.body.frame in
          record {
            body = record { frame = r.0; links = h.body.links; table = h.body.table; deferred = h.body.deferred };
            sent = each_both (IsNamed t L) d.sent _ h.sent r.1;
            back = h.back;
          }
      apply_named d (commands.Name (names.Register p name)) port h =
          let r = register_command_named t L w me x low d.body.links p name h.body.links port.0 port.1 in
          record {
            body = record { frame = h.body.frame; links = r.0; table = h.body.table; deferred = h.body.deferred };
            sent = each_both (IsNamed t L) d.sent _ h.sent r.1;
            back = h.back;
          }
      apply_named d (commands.Name (names.Withdraw p)) port h =
          let r = withdraw_command_named t L w me x low d.body.links p h.body.links port.0 port.1 in
          record {
            body = record { frame = h.body.frame; links = r.0; table = h.body.table; deferred = h.body.deferred };
            sent = each_both (IsNamed t L) d.sent _ h.sent r.1;
            back = h.back;
          }

      all_named : (cs : List Command) (d : Doing M) → Each (AsksAt t x.slot.0) cs → DoingNamed d → DoingNamed (apply_all t me x m cs d)
      all_named [] d a h = h
      all_named (c ∷ cs) d a h = all_named cs (apply t me x m d c) a.1 (apply_named d c a.0 h)

    -- ---- duties

    begun_named : (x : Incarnation) (d : Doing M) → x.slot.0 < length t.slots → DoingNamed d → DoingNamed (begun model t me x d)
    begun_named x d low h =
        all_named x low None tt (model.begin x).commands _ (asks.begin x) (record {
          body = record {
            frame = h.body.frame;
            links = h.body.links;
            table = h.body.table;
            deferred = put_deferred d.body.deferred x.slot.0 [] h.body.deferred tt;
          };
          sent = h.sent;
          back = h.back;
        })

    all_begun_named : (xs : List Incarnation) (d : Doing M) → AreThere t xs → DoingNamed d → DoingNamed (all_begun model t me xs d)
    all_begun_named [] d low h = h
    all_begun_named (x ∷ xs) d low h = all_begun_named xs (begun model t me x d) low.1 (begun_named x d low.0 h)

    gone_named : (x : Incarnation) (d : Doing M) → x.slot.0 < length t.slots → DoingNamed d → DoingNamed (gone t me x d)
    gone_named x d low h =
        let r = end_of_named t L w me x low d.body.links h.body.links in
        record {
          body = record {
            frame = h.body.frame;
            links = r.0;
            table = h.body.table;
            deferred = put_deferred d.body.deferred x.slot.0 [] h.body.deferred tt;
          };
          sent = each_both (IsNamed t L) d.sent _ h.sent r.1;
          back = h.back;
        }

    all_gone_named : (xs : List Incarnation) (d : Doing M) → AreThere t xs → DoingNamed d → DoingNamed (all_gone t me xs d)
    all_gone_named [] d low h = h
    all_gone_named (x ∷ xs) d low h = all_gone_named xs (gone t me x d) low.1 (gone_named x d low.0 h)

    closing_named : (d : Doing M) (o : Option Msg) → LastNamed t L o → DoingNamed d → DoingNamed (closing d o)
    closing_named d None k h = h
    closing_named d (Some m) k h = record { body = h.body; sent = each_both (IsNamed t L) d.sent (m ∷ []) h.sent (k, tt); back = h.back }

    with_frame_named : (b : Body M) (r : FrameDone) → BodyNamed b → FrameThere t r → FrameDoneNamed t L r → DoingNamed (with_frame model t me b r)
    with_frame_named b r h there n =
        closing_named _ r.last n.last (all_gone_named r.ended _ there.ended (all_begun_named r.made _ there.made (record {
          body = record { frame = n.frame; links = h.links; table = h.table; deferred = h.deferred };
          sent = n.sent;
          back = tt;
        })))

    -- controller 0 tells of each place that it gives out
    abbrev TellsPlaces : List Msg → Type 0
    TellsPlaces ms = me ≡ 0 → Each (GivesPlace L) ms

    module _ (b : Body M) (h : BodyNamed b) (m : Msg) (n : IsNamed t L m) where
      framed_named : (kind : SysKind) → TiesBy t L kind m.source m.target → SystemNamed t L m → DoingNamed (with_frame model t me b (frame_duty t me b.frame kind m))
      framed_named kind y z =
          with_frame_named b (frame_duty t me b.frame kind m) h (frame_duty_there t me b.frame kind m) (frame_duty_named t L w me b.frame h.frame kind m z y)

      tabled_named : (kind : SysKind) → SystemNamed t L m → TellsPlaces (table_duty t me b.table kind m).sent
          → DoingNamed (record (doing b) { body = record b { table = (table_duty t me b.table kind m).now }; sent = (table_duty t me b.table kind m).sent })
      tabled_named kind z told =
          let r = table_duty_named t L w me b.table kind m h.table z told in
          record { body = record { frame = h.frame; links = h.links; table = r.0; deferred = h.deferred }; sent = r.1; back = tt }

      linked_named : (kind : SysKind) (live : Bool) → TiesBy t L kind m.source m.target → SystemNamed t L m → DoingNamed (record (doing b) { body = record b { links = (links_duty t me b.links live kind m).now }; sent = (links_duty t me b.links live kind m).sent })
      linked_named kind live y z =
          let r = links_duty_named t L w me b.links live kind m h.links z y in
          record { body = record { frame = h.frame; links = r.0; table = h.table; deferred = h.deferred }; sent = r.1; back = tt }

      duty_named : (kind : SysKind) → TiesBy t L kind m.source m.target → SystemNamed t L m → TellsPlaces (duty model t me b m kind).sent → DoingNamed (duty model t me b m kind)
      duty_named kinds.Register y z told = tabled_named kinds.Register z told
      duty_named kinds.Withdraw y z told = tabled_named kinds.Withdraw z told
      duty_named kinds.Bound y z told = linked_named kinds.Bound (is_own t me m.target.slot.0 && is_live b.frame.lives (whose m.target)) y z
      duty_named kinds.Ended y z told = linked_named kinds.Ended (is_own t me m.target.slot.0 && is_live b.frame.lives (whose m.target)) y z
      duty_named kinds.NameReply y z told = linked_named kinds.NameReply (is_own t me m.target.slot.0 && is_live b.frame.lives (whose m.target)) y z
      duty_named kinds.Create y z told = framed_named kinds.Create y z
      duty_named kinds.CreateDone y z told = framed_named kinds.CreateDone y z
      duty_named kinds.CreateRefused y z told = framed_named kinds.CreateRefused y z
      duty_named kinds.Destroy y z told = framed_named kinds.Destroy y z
      duty_named kinds.DestroyDone y z told = framed_named kinds.DestroyDone y z
      duty_named kinds.Import y z told = framed_named kinds.Import y z
      duty_named kinds.ImportDone y z told = framed_named kinds.ImportDone y z
      duty_named kinds.ImportRefused y z told = framed_named kinds.ImportRefused y z
      duty_named kinds.ImportEnded y z told = framed_named kinds.ImportEnded y z
      duty_named kinds.Deport y z told = framed_named kinds.Deport y z
      duty_named kinds.DeportDone y z told = framed_named kinds.DeportDone y z
      duty_named kinds.Announce y z told = framed_named kinds.Announce y z
      duty_named kinds.PartMake y z told = framed_named kinds.PartMake y z
      duty_named kinds.PartEnd y z told = framed_named kinds.PartEnd y z

      nothing_done : DoingNamed (doing b)
      nothing_done = record { body = h; sent = tt; back = tt }

      system_named : (o : Option SysKind) → Ties t L o m.source m.target → SystemNamed t L m → TellsPlaces (system_done model t me b m o).sent → DoingNamed (system_done model t me b m o)
      system_named None y z told = nothing_done
      system_named (Some kind) y z told = duty_named kind y z told

      -- ---- turns

      record TreatedNamed (r : Treated (Body M)) : Type 0 where
        body : BodyNamed r.body
        sent : AreNamed t L r.sent
        back : AreNamed t L r.back
        nobody : FitsNobody t r.did

      found_one : (r : Handling) (x : Incarnation) (state : ℕ) → FitsNobody t (handled_as r x state)
      found_one Handled x state = tt
      found_one Deferred x state = tt
      found_one Unhandled x state = tt

      handled_named : (x : Incarnation) (machine : M) → x.slot.0 < length t.slots → TreatedNamed (handled model t me b x m machine)
      unfolding handled
      handled_named x machine low =
          let d = all_named x low (Some m) n (model.handle x machine m).commands (record (doing b) {
            body = record b { machines = updated b.machines x.slot.0 (Some (model.handle x machine m).machine) };
            notes = (model.handle x machine m).notes;
          }) (asks.handle x machine m)
          (record { body = record { frame = h.frame; links = h.links; table = h.table; deferred = h.deferred }; sent = tt; back = tt }) in
          record { body = d.body; sent = d.sent; back = d.back; nobody = found_one (model.handle x machine m).result x (model.state (model.handle x machine m).machine) }

      dispatched_named : (o : Option M) → m.target.slot.0 < length t.slots → TreatedNamed (dispatched model t me b m o)
      dispatched_named None low = record { body = h; sent = tt; back = tt; nobody = record { slot = low } }
      dispatched_named (Some machine) low = handled_named (last_of b.frame.lives m.target.slot.0) machine low

      dispatch_named : TreatedNamed (dispatch model t me b m)
      unfolding dispatch
      dispatch_named = go (is_own t me m.target.slot.0 && b.frame.lives.lives m.target.slot.0) (not (is_meant b.frame m))
        where
          go : (x y : Bool) → TreatedNamed (
              if not x then nobody_there b m
              else if y then treated (doing b) (did.Stale (whose m.target))
              else dispatched model t me b m (b.machines m.target.slot.0))
          go false y = record { body = h; sent = tt; back = tt; nobody = record { slot = n.1.slot } }
          go true true = record { body = h; sent = tt; back = tt; nobody = tt }
          go true false = dispatched_named (b.machines m.target.slot.0) n.1.slot

      treat_named : TellsPlaces (treat model t me b m).sent → TreatedNamed (treat model t me b m)
      unfolding treat
      treat_named told = go (m.prio.0 == 0) refl told
        where
          treats : Bool → Treated (Body M)
          treats x = if x then treated (system_done model t me b m (slice_get all_kinds m.signal)) did.Duty else dispatch model t me b m

          go : (x : Bool) → (m.prio.0 == 0) ≡ x → TellsPlaces (treats x).sent → TreatedNamed (treats x)
          go true e told =
              let system = eqb-true m.prio.0 0 e in
              let ends : SystemNamed t L m = subst (λ (q : ℕ). SourceFits t L q m.source × FitsPlace t L q m.target) system (n.0, n.1) in
              let d = system_named (slice_get all_kinds m.signal) (says_tied t L m.prio.0 m.signal m.source m.target system n.2) ends told in
              record { body = d.body; sent = d.sent; back = d.back; nobody = tt }
          go false e told = dispatch_named

  -- ---- controllers

  pub record StateNamed (s : State (Body M)) : Type 0 where
    pub body : BodyNamed s.body
    pub pending : (p : ℕ) → AreNamed t L (s.pending p)
    pub outbox : AreNamed t L s.outbox

  record StepNamed (next : State (Body M)) (e : Entry) : Type 0 where
    state : StateNamed next
    posts : PostIsNamed t L e

  abbrev Steps : State (Body M) × Entry → Type 0
  Steps r = StepNamed r.0 r.1

  put_pending : (f : ℕ → List Msg) (at : ℕ) (now : List Msg) → ((p : ℕ) → AreNamed t L (f p)) → AreNamed t L now → (p : ℕ) → AreNamed t L (put f at now p)
  unfolding put
  put_pending f at now h k p = go (p == at)
    where
      go : (b : Bool) → AreNamed t L (if b then now else f p)
      go true = k
      go false = h p

  back_pending : (back : List Msg) (f : ℕ → List Msg) → AreNamed t L back → ((p : ℕ) → AreNamed t L (f p)) → (p : ℕ) → AreNamed t L (put_back back f p)
  unfolding put_back
  back_pending back f h k p =
      each_both (IsNamed t L) (filter (λ (m : Msg). m.prio.0 == p) back) (f p) (each_kept (IsNamed t L) (λ (m : Msg). m.prio.0 == p) back h) (k p)

  module _ (lines : List Line) (named : Each (λ (l : Line). IsNamed t L l.message) lines) where
    abbrev plan : RunPlant (Body M)
    plan = plant_of model t lines

    -- what is taken out of pending lists, and what is left of its list
    lowest_named : (pending : ℕ → List Msg) (at k : ℕ) → ((p : ℕ) → AreNamed t L (pending p))
        → IfSome (lowest pending at k) (λ (x : Taken). IsNamed t L x.message × AreNamed t L x.rest)
    unfolding lowest
    lowest_named pending at zero h = tt
    lowest_named pending at (suc k) h = go (pending at) (h at) (lowest_named pending (at + 1) k h)
      where
        go : (ms : List Msg) → AreNamed t L ms → IfSome (lowest pending (at + 1) k) (λ (x : Taken). IsNamed t L x.message × AreNamed t L x.rest)
            → IfSome (front_or at ms (lowest pending (at + 1) k)) (λ (x : Taken). IsNamed t L x.message × AreNamed t L x.rest)
        go [] n later = later
        go (m ∷ rest) n later = n

    -- what a controller tells of places, where it is controller 0
    abbrev Tells : ℕ → State (Body M) → Type 0
    Tells c s = c ≡ 0 → Each (GivesPlace L) s.outbox

    turn_steps : (c : ℕ) (s : State (Body M)) (r : State (Body M) × Entry) → StateNamed s → turn plan c s ≡ Some r → Tells c r.0 → Steps r
    unfolding turn
    turn_steps c s r h e told = go s.outbox (next_of s.pending) (lowest_named s.pending 0 6 h.pending) e
      where
        go : (box : List Msg) (o : Option Taken) → IfSome o (λ (x : Taken). IsNamed t L x.message × AreNamed t L x.rest) → turn_with plan c s box o ≡ Some r → Steps r
        go [] None n is = absurd cc
        go [] (Some taken) n is =
            let same : turned s taken (treat model t c s.body taken.message) ≡ r = same_Some _ r is in
            let tells : Tells c (turned s taken (treat model t c s.body taken.message)).0 = subst (λ (z : State (Body M) × Entry). Tells c z.0) (sym same) told in
            let done = treat_named c s.body h.body taken.message n.0 tells in
            subst Steps same (record {
              state = record {
                body = done.body;
                pending = back_pending (treat model t c s.body taken.message).back (put s.pending taken.priority taken.rest) done.back
                    (put_pending s.pending taken.priority taken.rest h.pending n.1);
                outbox = done.sent;
              };
              posts = done.nobody;
            })
        go (m ∷ ms) o n is = absurd cc

    post_steps : (c : ℕ) (s : State (Body M)) (r : State (Body M) × Entry) → StateNamed s → post c s ≡ Some r → Steps r
    unfolding post
    post_steps c s r h e = go s.outbox h.outbox e
      where
        go : (box : List Msg) → AreNamed t L box → post_front c s box ≡ Some r → Steps r
        go [] n is = absurd cc
        go (m ∷ rest) n is = subst Steps (same_Some _ r is) (record { state = record { body = h.body; pending = h.pending; outbox = n.1 }; posts = n.0 })

    fetch_steps : (s : State (Body M)) (m : Msg) (r : State (Body M) × Entry) → StateNamed s → IsNamed t L m → fetch s m ≡ r → Steps r
    unfolding fetch
    fetch_steps s m r h n e =
        subst Steps e (record {
          state = record {
            body = h.body;
            pending = put_pending s.pending m.prio.0 (s.pending m.prio.0 ++ m ∷ []) h.pending (each_both (IsNamed t L) (s.pending m.prio.0) (m ∷ []) (h.pending m.prio.0) (n, tt));
            outbox = h.outbox;
          };
          posts = tt;
        })

    -- ---- worlds

    record WorldNamed (v : World (Body M)) : Type 0 where
      controllers : (c : ℕ) → StateNamed (v.controllers c)
      lanes : (l : Lane) → AreNamed t L (v.lanes l)

    controller_steps : (v : World (Body M)) (c : ℕ) (s : State (Body M)) (e : Entry) → WorldNamed v → Tells c s → controller_does plan v c (event_of e) ≡ Some (s, e)
        → StepNamed s e
    controller_steps v c s (entry.Start who state notes) h told does = absurd cc
    controller_steps v c s (entry.Fetch stamp m) h told does =
        let front = fetch_front_from (v.controllers c) s (v.lanes (lane m.from.0 c m.prio.0)) (entry.Fetch stamp m) m stamp.0 refl does in
        let taken : AreNamed t L (m ∷ drop 1 (v.lanes (lane m.from.0 c m.prio.0))) = subst (AreNamed t L) front.0 (h.lanes (lane m.from.0 c m.prio.0)) in
        fetch_steps (v.controllers c) m (s, entry.Fetch stamp m) (h.controllers c) taken.0 front.1
    controller_steps v c s (entry.Turn stamp from sent what notes) h told does = turn_steps c (v.controllers c) (s, entry.Turn stamp from sent what notes) (h.controllers c) does told
    controller_steps v c s (entry.Post stamp m) h told does = post_steps c (v.controllers c) (s, entry.Post stamp m) (h.controllers c) does

    line_steps : (u : Environment) (r : Environment × Entry) → environment_post plan u ≡ Some r → PostIsNamed t L r.1
    unfolding environment_post
    line_steps u r e = go (slice_get lines u.posted) refl e
      where
        go : (o : Option Line) → slice_get lines u.posted ≡ o → post_line plan.controllers u o ≡ Some r → PostIsNamed t L r.1
        go None at is = absurd cc
        go (Some line) at is = subst (λ (z : Environment × Entry). PostIsNamed t L z.1) (same_Some _ r is) (line_at t L lines u.posted line named at)

    environment_steps : (v : World (Body M)) (u : Environment) (e : Entry) → environment_does plan v (event_of e) ≡ Some (u, e) → PostIsNamed t L e
    environment_steps v u (entry.Start who state notes) does = absurd cc
    environment_steps v u (entry.Fetch stamp m) does = absurd cc
    environment_steps v u (entry.Turn stamp from sent what notes) does = absurd cc
    environment_steps v u (entry.Post stamp m) does = line_steps (caught_up plan v) (u, entry.Post stamp m) does

    put_lane_named : (lanes : Lane → List Msg) (at : Lane) (ms : List Msg) (l : Lane) → AreNamed t L ms → AreNamed t L (lanes l) → AreNamed t L (put_lane lanes at ms l)
    unfolding put_lane
    put_lane_named lanes at ms l h before = go (is_lane l at)
      where
        go : (b : Bool) → AreNamed t L (if b then ms else lanes l)
        go true = h
        go false = before

    rest_named : (ms : List Msg) → AreNamed t L ms → AreNamed t L (drop 1 ms)
    rest_named [] h = tt
    rest_named (m ∷ ms) h = h.1

    lanes_named : (v : World (Body M)) (party : ℕ) (e : Entry) → ((l : Lane) → AreNamed t L (v.lanes l)) → PostIsNamed t L e → (l : Lane)
        → AreNamed t L (lanes_after v party (event_of e) e l)
    lanes_named v party (entry.Start who state notes) h n l = h l
    lanes_named v party (entry.Fetch stamp m) h n l =
        put_lane_named v.lanes (lane m.from.0 party m.prio.0) _ l (rest_named (v.lanes (lane m.from.0 party m.prio.0)) (h (lane m.from.0 party m.prio.0))) (h l)
    lanes_named v party (entry.Turn stamp from sent what notes) h n l = h l
    lanes_named v party (entry.Post stamp m) h n l =
        put_lane_named v.lanes (lane party m.to.0 m.prio.0) _ l
        (each_both (IsNamed t L) (v.lanes (lane party m.to.0 m.prio.0)) (m ∷ []) (h (lane party m.to.0 m.prio.0)) (n, tt)) (h l)

    put_state : (states : ℕ → State (Body M)) (at : ℕ) (s : State (Body M)) → ((c : ℕ) → StateNamed (states c)) → StateNamed s → (c : ℕ) → StateNamed (put states at s c)
    unfolding put
    put_state states at s h k c = go (c == at)
      where
        go : (b : Bool) → StateNamed (if b then s else states c)
        go true = k
        go false = h c

    -- what stands in the outbox of controller 0, if there is one, tells of places that were linked
    abbrev WorldTells : World (Body M) → Type 0
    WorldTells v = 0 < length t.controllers → Each (GivesPlace L) (v.controllers 0).outbox

    told_by : (v : World (Body M)) (x : Placed) (s : State (Body M)) → x.party < length t.controllers → WorldTells (record v { controllers = put v.controllers x.party s })
        → Tells x.party s
    told_by v x s below told e =
        subst (λ (z : State (Body M)). Each (GivesPlace L) z.outbox)
        (ap (λ (n : ℕ). put v.controllers x.party s n) (sym e) ∙ put-same v.controllers x.party s) (told (omega (arith, below)))

    step_named : (v next : World (Body M)) (x : Placed) → WorldNamed v → WorldTells next → Happened plan v x next → WorldNamed next × PostIsNamed t L x.entry
    step_named v next x h told (controller below s does same) =
        let step = controller_steps v x.party s x.entry h (told_by v x s below (subst (λ (z : World (Body M)). 0 < length t.controllers → Each (GivesPlace L) (z.controllers 0).outbox) same told)) does in (
          subst WorldNamed (sym same) (record {
            controllers = put_state v.controllers x.party s h.controllers step.state;
            lanes = lanes_named v x.party x.entry h.lanes step.posts;
          }),
          step.posts,
        )
    step_named v next x h told (environment is u does same) =
        let posts = environment_steps v u x.entry does in (
          subst WorldNamed (sym same) (record { controllers = h.controllers; lanes = lanes_named v x.party x.entry h.lanes posts }),
          posts,
        )

    run_named : (xs : List Placed) (v end : World (Body M)) → WorldNamed v
        → ((ys : List Placed) (u : World (Body M)) → (0 < length t.controllers → Each (PlacedGives L) ys) → Runs plan u ys end → WorldTells u)
        → (0 < length t.controllers → Each (PlacedGives L) xs) → Runs plan v xs end → Each (λ (x : Placed). PostIsNamed t L x.entry) xs
    run_named [] v end h tells gives r = tt
    run_named (x ∷ xs) v end h tells gives r =
        let step = step_named v r.0 x h (tells xs r.0 (λ some. (gives some).1) r.3) (happened plan v x r.0 r.2) in
        (step.1, run_named xs r.0 end step.0 tells (λ some. (gives some).1) r.3)

    -- ---- starts

    started_named : (me : ℕ) (s : Starting M) (x : Incarnation) → x.slot.0 < length t.slots → DoingNamed s.doing → DoingNamed (started model t me s x).doing
    started_named me s x low h =
        all_named me x low None tt (model.begin x).commands _ (asks.begin x)
        (record { body = record { frame = h.body.frame; links = h.body.links; table = h.body.table; deferred = h.body.deferred }; sent = h.sent; back = h.back })

    all_started_named : (me : ℕ) (xs : List Incarnation) (s : Starting M) → AreThere t xs → DoingNamed s.doing → DoingNamed (all_started model t me xs s).doing
    all_started_named me [] s low h = h
    all_started_named me (x ∷ xs) s low h = all_started_named me xs (started model t me s x) low.1 (started_named me s x low.0 h)

    starting_named : (me : ℕ) → AreThere t (first_actors t me) → DoingNamed (starting model t me).doing
    unfolding starting
    starting_named me low =
        all_started_named me (first_actors t me) (record { doing = doing (first_body t me); entries = [] }) low
        (record {
          body = record {
            frame = record { plugs = λ s. tt; places = λ i. tt };
            links = record { entered = λ s p e. absurd cc; linked = λ s p. tt };
            table = tt;
            deferred = λ s. tt;
          };
          sent = tt;
          back = tt;
        })

    first_named : ((me : ℕ) → AreThere t (first_actors t me)) → WorldNamed (start plan)
    first_named low = record {
      controllers = λ c. (let d = starting_named c (low c) in record { body = d.body; pending = λ p. tt; outbox = d.sent });
      lanes = λ l. tt;
    }

    -- all that is posted in a run after which controller 0 has nothing to post
    pub posts_named : ((me : ℕ) → AreThere t (first_actors t me)) → (xs : List Placed) (end : World (Body M))
        → (0 < length t.controllers → (end.controllers 0).outbox ≡ []) → (0 < length t.controllers → Each (PlacedGives L) xs) → Runs plan (start plan) xs end
        → Each (λ (x : Placed). PostIsNamed t L x.entry) xs
    posts_named low xs end empty gives r =
        run_named xs (start plan) end (first_named low) (λ ys u given runs some. outbox_gives plan L ys u end (given some) (empty some) runs) gives r
