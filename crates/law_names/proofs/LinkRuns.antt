-- Over every run of the world: what an owner links a place to, changed by what is on its way, is what the
-- name table links it to.
use Rattle.std.proofs.Common.{◌≡◌, ℕ, ◌<◌, ◌≤◌, ◌==◌, ◌&&◌, Bool, true, false, if◌then◌else◌, List, [], ◌∷◌, ◌++◌, slice_get, Option, Some, None, ℤ, refl, sym, ap, ◌∙◌, subst, eqb-true, eq-eqb, append-nil, arith}
use Rattle.std.specs.List.{Contains}
use Rattle.std.specs.Option.{option_map_or}
use Rattle.std.proofs.lemmas.Bool.{ne_eqb, eqb-false}
use Rattle.room_kinds.specs.declared.message.Msg.{Msg}
use Rattle.room_kinds.specs.declared.numbers.Endpoint.{Endpoint}
use Rattle.room_kinds.specs.declared.system.SysKind.{SysKind}
use Rattle.room_kinds.specs.declared.system.SysKind.TheVariants as kinds
use Rattle.journal.specs.declared.entry.Entry.{Entry}
use Rattle.journal.specs.declared.entry.Entry.TheVariants as entry
use Rattle.room_wiring.specs.declared.tables.Tables.{Tables}
use Rattle.actor_merge.specs.Mail.{lane, event_of}
use Rattle.actor_merge.specs.Parties.{State, Line, Taken, put, stamped, next_of, fetch, turn, turned, post}
use Rattle.actor_merge.specs.World.{World, Placed, start, Runs, controller_does}
use Rattle.actor_merge.proofs.Back.{Happened, controller, environment, happened, own_of}
use Rattle.actor_duties.specs.Words.{owner_of, whose, is_endpoint}
use Rattle.actor_duties.specs.State.{User, Provider, NameTable}
use Rattle.actor_duties.specs.Lives.{is_live}
use Rattle.actor_duties.specs.Names.{at_place}
use Rattle.actor_duties.specs.Links.{is_own_point}
use Rattle.actor_duties.specs.Peers.{or_else, link_peer}
use Rattle.actor_world.specs.Behaviour.{Behaviour}
use Rattle.actor_world.specs.Body.{Body}
use Rattle.actor_world.specs.Turns.{all_kinds, treat}
use Rattle.actor_world.specs.Start.{first_state, plant_of}
use Rattle.actor_world.specs.Directories.{IsOpen, AreOpen}
use Rattle.law_agreement.specs.Trails.{contents, from_a, system_to, trail, taken_from, hear_all}
use Rattle.law_agreement.proofs.Hearing.{AllMute, hear_append, hear_system, from_append}
use Rattle.law_agreement.proofs.Moving.{Ranked, next_front, kept_by, from_one, post_from, turn_from, world_after, controller_moves}
use Rattle.law_agreement.proofs.Agreeing.{put_each, environment_moves, world_then, fresh_trail}
use Rattle.law_names.specs.Created.{hearer_by, hearer, last_at, IsCreated}
use Rattle.law_names.specs.Links.{Join, joins_with, joins_of, joins, across, joined_in, table_peer, without, linked_by, link_heard, IsSound, IsNew, RegistersAreNew, LinksAreForetold}
use Rattle.law_names.specs.Registrations.{stands}
use Rattle.law_names.proofs.Creating.{ProviderIs, UsersAre, TableIs}
use Rattle.law_names.proofs.CreatedRuns.{WasCreated, AllNamed, IsNamed, hand_named, start_named, step_named}
use Rattle.law_names.proofs.Naming.{IsOf}
use Rattle.law_names.proofs.Standing.{same_endpoint}
use Rattle.law_names.proofs.Single.{false_by}
use Rattle.law_names.proofs.LinkTelling.{told}
use Rattle.law_names.proofs.Owning.{peer_at, AreKept, IsUnheard, silent_told, TurnLinks, treat_links, treat_table, start_kept, start_linked, start_unheard, start_none}

-- a place hears a message whoever posted it
heard_stamped : (t : Tables) (d : ℕ) (a : Endpoint) (n stamp : ℕ) (m : Msg) (o : Option Endpoint) → link_heard t d a (stamped n stamp m) o ≡ link_heard t d a m o
unfolding link_heard
heard_stamped t d a n stamp m o = refl

-- what isn't the system's, no place hears
heard_above : (t : Tables) (d : ℕ) (a : Endpoint) (m : Msg) (o : Option Endpoint) → (m.prio.0 == 0) ≡ false → link_heard t d a m o ≡ o
unfolding link_heard
heard_above t d a m o h = rw h refl

-- what tells no point of anything, no place hears
untold : (t : Tables) (m : Msg) → hearer m ≡ None → IsUnheard t 0 m
unfolding link_heard
untold t m h d a o = go (m.prio.0 == 0) (slice_get all_kinds m.signal) h
  where
    go : (b : Bool) (k : Option SysKind) → (if b then hearer_by k m.target else None) ≡ None → (if b then linked_by t d a k m.source m.target m.payload o else o) ≡ o
    go false k q = refl
    go true (Some kinds.Bound) q = absurd cc
    go true (Some kinds.Ended) q = absurd cc
    go true k q = refl

-- what was not created yet
module _ (t : Tables) (last : ℕ → ℕ) (a : Endpoint) (new : last a.slot.0 < a.generation.0) where
  other : (e : Endpoint) → IsCreated last e → is_endpoint e a ≡ false
  other e h =
      false_by (is_endpoint e a) (λ r. (let k : a.generation.0 ≤ last a.slot.0 = subst (IsCreated last) (same_endpoint e a r) h in omega (arith, k, new)))

  -- no message is for it
  unmeant : (d : ℕ) (m : Msg) → ((e : Endpoint) → hearer m ≡ Some e → IsCreated last e) → (o : Option Endpoint) → link_heard t d a m o ≡ o
  unfolding link_heard
  unmeant d m h o = go (m.prio.0 == 0) (slice_get all_kinds m.signal) h
    where
      nobody : (b c : Bool) (v : Option Endpoint) → c ≡ false → (if b && c then v else o) ≡ o
      nobody true false v q = refl
      nobody false false v q = refl
      nobody b true v q = absurd cc

      bound_to : (source : Option Endpoint) (numbers : List ℤ) → IsCreated last m.target → linked_by t d a (Some kinds.Bound) source m.target numbers o ≡ o
      bound_to None numbers k = refl
      bound_to (Some peer) [] k = nobody (is_own_point t d m.target) (is_endpoint m.target a) (Some peer) (other m.target k)
      bound_to (Some peer) (n ∷ ns) k = refl

      ended_to : (source : Option Endpoint) (numbers : List ℤ) → IsCreated last m.target → linked_by t d a (Some kinds.Ended) source m.target numbers o ≡ o
      ended_to None numbers k = refl
      ended_to (Some peer) [] k = nobody (is_own_point t d m.target) (is_endpoint m.target a) (without peer o) (other m.target k)
      ended_to (Some peer) (n ∷ ns) k = refl

      go : (b : Bool) (k : Option SysKind) → ((e : Endpoint) → (if b then hearer_by k m.target else None) ≡ Some e → IsCreated last e)
          → (if b then linked_by t d a k m.source m.target m.payload o else o) ≡ o
      go false k q = refl
      go true (Some kinds.Bound) q = bound_to m.source m.payload (q m.target refl)
      go true (Some kinds.Ended) q = ended_to m.source m.payload (q m.target refl)
      go true k q = refl

  all_unmeant : (b d : ℕ) (ms : List Msg) → AllNamed t last 0 b ms → AllMute (link_heard t d a) ms
  all_unmeant b d [] h = tt
  all_unmeant b d (m ∷ ms) h = (unmeant d m (λ e q. (h.0.tells e q).2), all_unmeant b d ms h.1)

  joined_append : (xs ys : List Join) → joined_in a xs ≡ None → joined_in a ys ≡ None → joined_in a (xs ++ ys) ≡ None
  joined_append [] ys h k = k
  joined_append (j ∷ xs) ys h k = go (across a j) h (λ q. joined_append xs ys q k)
    where
      go : (o : Option Endpoint) → or_else o (joined_in a xs) ≡ None → (joined_in a xs ≡ None → joined_in a (xs ++ ys) ≡ None) → or_else o (joined_in a (xs ++ ys)) ≡ None
      go None q ih = ih q
      go (Some x) q ih = absurd cc

  unjoined_with : (p : Endpoint) (us : List User) → IsCreated last p → UsersAre t (WasCreated last) us → joined_in a (joins_with p us) ≡ None
  unjoined_with p [] h k = refl
  unjoined_with p (u ∷ us) h k = go u.linked (unjoined_with p us h k.1)
    where
      go : (o : Option ℕ) → joined_in a (joins_with p us) ≡ None
          → joined_in a (option_map_or (λ n. record { place = at_place p n; user = u.at } ∷ []) o [] ++ joins_with p us) ≡ None
      go None q = q
      go (Some n) q = rw (other (at_place p n) h, other u.at k.0) q

  unjoined : (table : NameTable) → TableIs t (WasCreated last) table → table_peer table a ≡ None
  unjoined [] h = refl
  unjoined (s ∷ table) h = joined_append (joins_of s.provider s.users) (joins table) (of s.provider h.0.0) (unjoined table h.1)
    where
      of : (o : Option Provider) → ProviderIs t (WasCreated last) o → joined_in a (joins_of o s.users) ≡ None
      of None q = refl
      of (Some p) q = unjoined_with p.at s.users q h.0.1

-- a world as it can be: links are kept in order, the name table is sound, and what is told and on its way is
-- what the table links
pub record IsLinkedSo {M : Type 0} (t : Tables) (w : World (Body M)) : Type 0 where
  pub kept : (c : ℕ) → AreKept (w.controllers c).body.frame.lives (w.controllers c).body.links
  pub sound : IsSound t (w.controllers 0).body.table
  pub foretold : LinksAreForetold t w

module _ {M : Type 0} (model : Behaviour M) (clear : IsOpen model) (t : Tables) (lines : List Line) (clear_lines : AreOpen lines) where
  -- what leaves and comes, and what then stands, heard one after another
  heard_through : {X : Type 0} (hear : Msg → X → X) (out now old come : List Msg) → out ++ now ≡ old ++ come → (x y z : X) → hear_all hear out x ≡ y → hear_all hear old x ≡ z
      → hear_all hear now y ≡ hear_all hear come z
  heard_through hear out now old come moves x y z h k =
      ap (hear_all hear now) (sym h)
      ∙ sym (hear_append hear out now x)
      ∙ ap (λ (q : List Msg). hear_all hear q x) moves
      ∙ hear_append hear old come x
      ∙ ap (hear_all hear come) k

  module _ (w : World (Body M)) (named : IsNamed t w) (new : RegistersAreNew w) (inv : IsLinkedSo t w) (c : ℕ) where
    -- the message in hand stood in front of its trail
    in_front : (k : Taken) → next_of (w.controllers c).pending ≡ Some k → (k.message.prio.0 == 0) ≡ true
        → Contains (trail w k.message.from.0 c) (stamped k.message.from.0 0 k.message)
    in_front k front zero =
        let f : ℕ = k.message.from.0 in
        let whole : (w.controllers c).pending k.priority ≡ k.message ∷ k.rest = next_front (w.controllers c).pending k front in
        let rank : k.message.prio.0 ≡ k.priority = (subst (Ranked k.priority) whole ((named.foretold.sorted c).pending k.priority)).0 in
        let first : k.priority ≡ 0 = sym rank ∙ eqb-true k.message.prio.0 0 zero in
        let list : (w.controllers c).pending 0 ≡ k.message ∷ k.rest = ap (w.controllers c).pending (sym first) ∙ whole in
        let one : from_a f (k.message ∷ []) ≡ stamped f 0 k.message ∷ [] =
        from_one f k.message ∙ ap (λ (z : Bool). if z then stamped f 0 k.message ∷ [] else []) (eq-eqb f f refl) in
        let split : from_a f ((w.controllers c).pending 0) ≡ stamped f 0 k.message ∷ from_a f k.rest =
        ap (from_a f) list ∙ from_append f (k.message ∷ []) k.rest ∙ ap (λ (z : List Msg). z ++ from_a f k.rest) one in
        let more : List Msg = contents f (w.lanes (lane f c 0)) ++ system_to f c (w.controllers f).outbox in
        subst (λ (z : List Msg). Contains (z ++ more) (stamped f 0 k.message)) (sym split) (0, omega arith, refl)

    -- what registers is new
    hand_new : (k : Taken) → next_of (w.controllers c).pending ≡ Some k → 0 ≡ c → (kind : SysKind) → IsOf k.message kind → IsNew (w.controllers c).body.table kind k.message
    hand_new k front zero kind is e q =
        let f : ℕ = k.message.from.0 in
        let there : Contains (trail w f 0) (stamped f 0 k.message) = subst (λ n. Contains (trail w f n) (stamped f 0 k.message)) (sym zero) (in_front k front is.0) in
        subst (λ n. stands e (w.controllers n).body.table ≡ 0) zero (new f (stamped f 0 k.message) e there (rw (is.0, is.1) q))

    -- a turn of this controller
    module _ (next : State (Body M)) (k : Taken) (front : next_of (w.controllers c).pending ≡ Some k)
        (same : next ≡ (turned (w.controllers c) k (treat model t c (w.controllers c).body k.message)).0) where
      states : ℕ → State (Body M)
      states = put w.controllers c next

      after_body : next.body ≡ (treat model t c (w.controllers c).body k.message).body
      after_body = ap (λ (z : State (Body M)). z.body) same

      links : TurnLinks t c (w.controllers c).body k.message next.body
      links = subst (TurnLinks t c (w.controllers c).body k.message) (sym after_body) (treat_links t c model clear (w.controllers c).body k.message (inv.kept c))

      kept_after : (n : ℕ) → AreKept (states n).body.frame.lives (states n).body.links
      unfolding states
      kept_after = put_each (λ (z : State (Body M)). AreKept z.body.frame.lives z.body.links) w.controllers c next inv.kept links.kept

      -- the name table, where this is controller 0
      table_here : 0 ≡ c → IsSound t next.body.table × ((a : Endpoint) → told t a next.outbox (table_peer (w.controllers c).body.table a) ≡ table_peer next.body.table a)
      table_here zero =
          let sound : IsSound t (w.controllers c).body.table = subst (λ n. IsSound t (w.controllers n).body.table) zero inv.sound in
          let r = treat_table t c model clear (w.controllers c).body k.message (inv.kept c) (hand_new k front zero) sound in (
            subst (λ (z : Body M). IsSound t z.table) (sym after_body) r.0,
            (λ a.
                ap (λ (z : State (Body M)). told t a z.outbox (table_peer (w.controllers c).body.table a)) same
                ∙ r.1 a
                ∙ ap (λ (z : Body M). table_peer z.table a) (sym after_body)),
          )

      sound_after : IsSound t (states 0).body.table
      unfolding states put
      sound_after = go (0 == c) refl
        where
          go : (b : Bool) → (0 == c) ≡ b → IsSound t (if b then next else w.controllers 0).body.table
          go true e = (table_here (eqb-true 0 c e)).0
          go false e = inv.sound

      module _ (a : Endpoint) where
        -- what comes into the trail tells how the table's links change
        told_after : hear_all (link_heard t (owner_of t a.slot.0) a) (if 0 == c then system_to 0 (owner_of t a.slot.0) (states 0).outbox else []) (table_peer (w.controllers 0).body.table a)
            ≡ table_peer (states 0).body.table a
        unfolding states put
        told_after = go (0 == c) refl
          where
            at_c : 0 ≡ c → hear_all (link_heard t (owner_of t a.slot.0) a) (system_to 0 (owner_of t a.slot.0) next.outbox) (table_peer (w.controllers 0).body.table a) ≡ table_peer next.body.table a
            at_c zero =
                hear_system (link_heard t (owner_of t a.slot.0) a) (owner_of t a.slot.0) (λ n stamp m o. heard_stamped t (owner_of t a.slot.0) a n stamp m o) 0 next.outbox (table_peer (w.controllers 0).body.table a)
                ∙ ap (λ n. told t a next.outbox (table_peer (w.controllers n).body.table a)) zero
                ∙ (table_here zero).1 a

            go : (b : Bool) → (0 == c) ≡ b
                → hear_all (link_heard t (owner_of t a.slot.0) a) (if b then system_to 0 (owner_of t a.slot.0) (if b then next else w.controllers 0).outbox else []) (table_peer (w.controllers 0).body.table a)
                ≡ table_peer (if b then next else w.controllers 0).body.table a
            go true e = at_c (eqb-true 0 c e)
            go false e = refl

        -- a turn takes out a message of the trail from controller 0, or one that the place doesn't hear
        taken_heard : (o : Option Endpoint) → hear_all (link_heard t c a) (taken_from 0 (Some k)) o ≡ link_heard t c a k.message o
        taken_heard o = go (0 == k.priority) refl (0 == k.message.from.0) refl
          where
            rank : k.message.prio.0 ≡ k.priority
            rank = (subst (Ranked k.priority) (next_front (w.controllers c).pending k front) ((named.foretold.sorted c).pending k.priority)).0

            zero : (0 == k.priority) ≡ true → (k.message.prio.0 == 0) ≡ true
            zero e = eq-eqb k.message.prio.0 0 (rank ∙ sym (eqb-true 0 k.priority e))

            elsewhere : (0 == k.priority) ≡ true → (0 == k.message.from.0) ≡ false → hearer k.message ≡ None
            elsewhere e f = at (hearer k.message) refl
              where
                at : (x : Option Endpoint) → hearer k.message ≡ x → x ≡ None
                at None q = refl
                at (Some y) q = absurd (eqb-false 0 k.message.from.0 f (sym ((hand_named model clear t lines clear_lines w named c k front (zero e)).tells y q).0))

            above : (0 == k.priority) ≡ false → link_heard t c a k.message o ≡ o
            above e = heard_above t c a k.message o (ne_eqb k.message.prio.0 0 (λ q. eqb-false 0 k.priority e (sym q ∙ rank)))

            one : {b : Bool} → (0 == k.message.from.0) ≡ b → from_a 0 (k.message ∷ []) ≡ (if b then stamped 0 0 k.message ∷ [] else [])
            one e = from_one 0 k.message ∙ ap (λ (z : Bool). if z then stamped 0 0 k.message ∷ [] else []) e

            go : (b : Bool) → (0 == k.priority) ≡ b → (f : Bool) → (0 == k.message.from.0) ≡ f
                → hear_all (link_heard t c a) (if b then from_a 0 (k.message ∷ []) else []) o ≡ link_heard t c a k.message o
            go true e true g = ap (λ (z : List Msg). hear_all (link_heard t c a) z o) (one g) ∙ heard_stamped t c a 0 0 k.message o
            go true e false g = ap (λ (z : List Msg). hear_all (link_heard t c a) z o) (one g) ∙ sym (untold t k.message (elsewhere e g) c a o)
            go false e f g = sym (above e)

        -- where the actor lived before, its owner hears what leaves
        heard_after : is_live (w.controllers (owner_of t a.slot.0)).body.frame.lives (whose a) ≡ true → is_live (states (owner_of t a.slot.0)).body.frame.lives (whose a) ≡ true
            → hear_all (link_heard t (owner_of t a.slot.0) a) (if owner_of t a.slot.0 == c then taken_from 0 (next_of (w.controllers (owner_of t a.slot.0)).pending) else [])
            (link_peer (w.controllers (owner_of t a.slot.0)).body.links a)
            ≡ link_peer (states (owner_of t a.slot.0)).body.links a
        unfolding states put
        heard_after before now = go (owner_of t a.slot.0 == c) refl now
          where
            at_c : is_live (w.controllers c).body.frame.lives (whose a) ≡ true → is_live next.body.frame.lives (whose a) ≡ true
                → hear_all (link_heard t c a) (taken_from 0 (next_of (w.controllers c).pending)) (link_peer (w.controllers c).body.links a) ≡ link_peer next.body.links a
            at_c live later =
                ap (λ (z : Option Taken). hear_all (link_heard t c a) (taken_from 0 z) (link_peer (w.controllers c).body.links a)) front
                ∙ taken_heard (link_peer (w.controllers c).body.links a)
                ∙ sym (links.hears a live later)

            go : (b : Bool) → (owner_of t a.slot.0 == c) ≡ b → is_live (if b then next else w.controllers (owner_of t a.slot.0)).body.frame.lives (whose a) ≡ true
                → hear_all (link_heard t (owner_of t a.slot.0) a) (if b then taken_from 0 (next_of (w.controllers (owner_of t a.slot.0)).pending) else [])
                (link_peer (w.controllers (owner_of t a.slot.0)).body.links a)
                ≡ link_peer (if b then next else w.controllers (owner_of t a.slot.0)).body.links a
            go true e later =
                let own : owner_of t a.slot.0 ≡ c = eqb-true (owner_of t a.slot.0) c e in
                subst (λ n. hear_all (link_heard t n a) (taken_from 0 (next_of (w.controllers n).pending)) (link_peer (w.controllers n).body.links a) ≡ link_peer next.body.links a)
                (sym own) (at_c (subst (λ n. is_live (w.controllers n).body.frame.lives (whose a) ≡ true) own before) later)
            go false e later = refl

        -- where the actor comes up, its place begins without a link, and nothing told of it before
        record Begins : Type 0 where
          pub here : owner_of t a.slot.0 ≡ c
          pub above : last_at t w a.slot.0 < a.generation.0
          pub none : link_peer (states (owner_of t a.slot.0)).body.links a ≡ None

        begins : is_live (w.controllers (owner_of t a.slot.0)).body.frame.lives (whose a) ≡ false → is_live (states (owner_of t a.slot.0)).body.frame.lives (whose a) ≡ true → Begins
        unfolding states put
        begins before now = go (owner_of t a.slot.0 == c) refl now
          where
            go : (b : Bool) → (owner_of t a.slot.0 == c) ≡ b → is_live (if b then next else w.controllers (owner_of t a.slot.0)).body.frame.lives (whose a) ≡ true → Begins
            go false e later = (let z : true ≡ false = sym later ∙ before in absurd cc)
            go true e later =
                let own : owner_of t a.slot.0 ≡ c = eqb-true (owner_of t a.slot.0) c e in
                let r = links.begins a (subst (λ n. is_live (w.controllers n).body.frame.lives (whose a) ≡ false) own before) later in
                record {
                  here = own;
                  above = subst (λ n. (w.controllers n).body.frame.lives.generation a.slot.0 < a.generation.0) (sym own) r.0;
                  none = ap (λ (b : Bool). link_peer (if b then next else w.controllers (owner_of t a.slot.0)).body.links a) e ∙ r.1;
                }

        begun_mute : (z : Begins) → hear_all (link_heard t (owner_of t a.slot.0) a) (if owner_of t a.slot.0 == c then taken_from 0 (next_of (w.controllers (owner_of t a.slot.0)).pending) else []) None ≡ None
        begun_mute z = at_owner (owner_of t a.slot.0 == c)
          where
            unheard : link_heard t c a k.message None ≡ None
            unheard = go (k.message.prio.0 == 0) refl
              where
                go : (b : Bool) → (k.message.prio.0 == 0) ≡ b → link_heard t c a k.message None ≡ None
                go true e = unmeant t (last_at t w) a z.above c k.message (λ y q. ((hand_named model clear t lines clear_lines w named c k front e).tells y q).2) None
                go false e = heard_above t c a k.message None e

            at_c : hear_all (link_heard t c a) (taken_from 0 (next_of (w.controllers c).pending)) None ≡ None
            at_c = ap (λ (q : Option Taken). hear_all (link_heard t c a) (taken_from 0 q) None) front ∙ taken_heard None ∙ unheard

            at_owner : (b : Bool) → hear_all (link_heard t (owner_of t a.slot.0) a) (if b then taken_from 0 (next_of (w.controllers (owner_of t a.slot.0)).pending) else []) None ≡ None
            at_owner true = subst (λ n. hear_all (link_heard t n a) (taken_from 0 (next_of (w.controllers n).pending)) None ≡ None) (sym z.here) at_c
            at_owner false = refl

        -- the links of a place, after the turn
        foretold_after : (now : List Msg)
            → (if owner_of t a.slot.0 == c then taken_from 0 (next_of (w.controllers (owner_of t a.slot.0)).pending) else []) ++ now
            ≡ trail w 0 (owner_of t a.slot.0) ++ (if 0 == c then system_to 0 (owner_of t a.slot.0) (states 0).outbox else [])
            → is_live (states (owner_of t a.slot.0)).body.frame.lives (whose a) ≡ true
            → hear_all (link_heard t (owner_of t a.slot.0) a) now (link_peer (states (owner_of t a.slot.0)).body.links a) ≡ table_peer (states 0).body.table a
        foretold_after now moves live = go (is_live (w.controllers (owner_of t a.slot.0)).body.frame.lives (whose a)) refl
          where
            out : List Msg
            out = if owner_of t a.slot.0 == c then taken_from 0 (next_of (w.controllers (owner_of t a.slot.0)).pending) else []

            come : List Msg
            come = if 0 == c then system_to 0 (owner_of t a.slot.0) (states 0).outbox else []

            go : (b : Bool) → is_live (w.controllers (owner_of t a.slot.0)).body.frame.lives (whose a) ≡ b
                → hear_all (link_heard t (owner_of t a.slot.0) a) now (link_peer (states (owner_of t a.slot.0)).body.links a) ≡ table_peer (states 0).body.table a
            go true e =
                heard_through (link_heard t (owner_of t a.slot.0) a) out now (trail w 0 (owner_of t a.slot.0)) come moves
                (link_peer (w.controllers (owner_of t a.slot.0)).body.links a) (link_peer (states (owner_of t a.slot.0)).body.links a) (table_peer (w.controllers 0).body.table a)
                (heard_after e live) (inv.foretold a e)
                ∙ told_after
            go false e =
                let z : Begins = begins e live in
                ap (hear_all (link_heard t (owner_of t a.slot.0) a) now) z.none
                ∙ heard_through (link_heard t (owner_of t a.slot.0) a) out now (trail w 0 (owner_of t a.slot.0)) come moves None None (table_peer (w.controllers 0).body.table a)
                (begun_mute z)
                (mute (trail w 0 (owner_of t a.slot.0)) (all_unmeant t (last_at t w) a z.above (owner_of t a.slot.0) (owner_of t a.slot.0) (trail w 0 (owner_of t a.slot.0)) (named.named 0 (owner_of t a.slot.0)))
                ∙ sym (unjoined t (last_at t w) a z.above (w.controllers 0).body.table (named.tables 0)))
                ∙ told_after
              where
                mute : (ms : List Msg) → AllMute (link_heard t (owner_of t a.slot.0) a) ms → hear_all (link_heard t (owner_of t a.slot.0) a) ms None ≡ None
                mute [] h = refl
                mute (m ∷ ms) h = ap (hear_all (link_heard t (owner_of t a.slot.0) a) ms) (h.0 None) ∙ mute ms h.1

  -- an event that touches no body and no trail
  untouched_links : (w v : World (Body M)) → IsLinkedSo t w → ((n : ℕ) → (v.controllers n).body ≡ (w.controllers n).body)
      → ((a b : ℕ) → trail v a b ≡ trail w a b) → IsLinkedSo t v
  untouched_links w v inv bodies trails =
      record {
        kept = λ c. subst (λ (z : Body M). AreKept z.frame.lives z.links) (sym (bodies c)) (inv.kept c);
        sound = subst (λ (z : Body M). IsSound t z.table) (sym (bodies 0)) inv.sound;
        foretold = λ a live.
            let n : ℕ = owner_of t a.slot.0 in
            let before : is_live (w.controllers n).body.frame.lives (whose a) ≡ true = subst (λ (z : Body M). is_live z.frame.lives (whose a) ≡ true) (bodies n) live in
            ap (λ (z : List Msg). hear_all (link_heard t n a) z (link_peer (v.controllers n).body.links a)) (trails 0 n)
            ∙ ap (λ (z : Body M). hear_all (link_heard t n a) (trail w 0 n) (link_peer z.links a)) (bodies n)
            ∙ inv.foretold a before
            ∙ ap (λ (z : Body M). table_peer z.table a) (sym (bodies 0));
      }

  controller_linked : (w : World (Body M)) → IsNamed t w → RegistersAreNew w → IsLinkedSo t w → (c : ℕ) → (e : Entry) (next : State (Body M))
      → controller_does (plant_of model t lines) w c (event_of e) ≡ Some (next, e) → IsLinkedSo t (world_after model t lines w c e next)
  unfolding turn post fetch states
  controller_linked w named new inv c (entry.Start who state ns) next does = absurd cc
  controller_linked w named new inv c (entry.Fetch stamp m) next does =
      let e : Entry = entry.Fetch stamp m in
      let r : fetch (w.controllers c) m ≡ (next, e) = own_of (plant_of model t lines) w c e next does in
      untouched_links w (world_after model t lines w c e next) inv
      (kept_by (λ (z : State (Body M)). z.body) w.controllers c next (sym (ap (λ (z : State (Body M) × Entry). z.0.body) r)))
      (λ a b. controller_moves model t lines clear w c e next (named.foretold.sorted c) does a b ∙ append-nil (trail w a b))
  controller_linked w named new inv c (entry.Post stamp m) next does =
      let e : Entry = entry.Post stamp m in
      let r = post_from model t lines c (w.controllers c) next e (w.controllers c).outbox does in
      untouched_links w (world_after model t lines w c e next) inv
      (kept_by (λ (z : State (Body M)). z.body) w.controllers c next (sym (ap (λ (z : State (Body M) × Entry). z.0.body) r.3)))
      (λ a b. controller_moves model t lines clear w c e next (named.foretold.sorted c) does a b ∙ append-nil (trail w a b))
  controller_linked w named new inv c (entry.Turn stamp from sent what ns) next does =
      let e : Entry = entry.Turn stamp from sent what ns in
      let r = turn_from model t lines c (w.controllers c) next e (w.controllers c).outbox (next_of (w.controllers c).pending) does in
      let same : next ≡ (turned (w.controllers c) r.0 (treat model t c (w.controllers c).body r.0.message)).0 = sym (ap (λ (z : State (Body M) × Entry). z.0) r.3) in
      let v : World (Body M) = world_after model t lines w c e next in
      record {
        kept = kept_after w named new inv c next r.0 r.2 same;
        sound = sound_after w named new inv c next r.0 r.2 same;
        foretold = λ a live.
            foretold_after w named new inv c next r.0 r.2 same a (trail v 0 (owner_of t a.slot.0))
            (controller_moves model t lines clear w c e next (named.foretold.sorted c) does 0 (owner_of t a.slot.0)) live;
      }

  pub step_linked : (w : World (Body M)) (x : Placed) (next : World (Body M)) → IsNamed t w → RegistersAreNew w → IsLinkedSo t w → Happened (plant_of model t lines) w x next → IsLinkedSo t next
  step_linked w x next named new inv (controller below s does same) = subst (IsLinkedSo t) (sym same) (controller_linked w named new inv x.party x.entry s does)
  step_linked w x next named new inv (environment is v does same) =
      subst (IsLinkedSo t) (sym same)
      (untouched_links w (world_then model clear t lines clear_lines w x.party x.entry v) inv (λ n. refl)
      (λ a b. environment_moves model clear t lines clear_lines w x.party x.entry v does a b))

  pub start_linked_so : IsLinkedSo t (start (plant_of model t lines))
  unfolding link_peer
  start_linked_so =
      record {
        kept = λ c. start_kept t c model clear;
        sound = subst (IsSound t) (sym (start_none t 0 model clear)) (record { orderly = tt; once = λ e. omega arith; points = tt });
        foretold = λ a live.
            let n : ℕ = owner_of t a.slot.0 in
            let o : Option Endpoint = peer_at a.place ((first_state model t n).body.links.linked a.slot.0 a.port) in
            ap (λ (z : List Msg). hear_all (link_heard t n a) z o) (fresh_trail 0 n (first_state model t 0).outbox)
            ∙ hear_system (link_heard t n a) n (λ k stamp m o. heard_stamped t n a k stamp m o) 0 (first_state model t 0).outbox o
            ∙ silent_told t 0 a (first_state model t 0).outbox (start_unheard t 0 model clear) o
            ∙ ap (peer_at a.place) (start_linked t n model clear a.slot.0 a.port)
            ∙ ap (λ (z : NameTable). table_peer z a) (sym (start_none t 0 model clear));
      }

  -- one event more
  one_more : (start w next : World (Body M)) (before : List Placed) (x : Placed) → Runs (plant_of model t lines) start before w → Runs (plant_of model t lines) w (x ∷ []) next
      → Runs (plant_of model t lines) start (before ++ x ∷ []) next
  one_more start w next [] x h k = subst (λ (z : World (Body M)). Runs (plant_of model t lines) z (x ∷ []) next) h k
  one_more start w next (y ∷ before) x h k = (h.0, h.1, h.2, one_more h.0 w next before x h.3 k)

  -- where at every moment what registers is new
  module _ (new : (xs : List Placed) (w : World (Body M)) → Runs (plant_of model t lines) (start (plant_of model t lines)) xs w → RegistersAreNew w) where
    go_linked : (before : List Placed) (w : World (Body M)) → Runs (plant_of model t lines) (start (plant_of model t lines)) before w → IsNamed t w → IsLinkedSo t w
        → (xs : List Placed) (end : World (Body M)) → Runs (plant_of model t lines) w xs end → IsNamed t end × IsLinkedSo t end
    go_linked before w run named inv [] end r = (subst (IsNamed t) (sym r) named, subst (IsLinkedSo t) (sym r) inv)
    go_linked before w run named inv (x ∷ xs) end r =
        let h : Happened (plant_of model t lines) w x r.0 = happened (plant_of model t lines) w x r.0 r.2 in
        go_linked (before ++ x ∷ []) r.0 (one_more (start (plant_of model t lines)) w r.0 before x run (r.0, r.1, r.2, refl))
        (step_named model clear t lines clear_lines w x r.0 named h) (step_linked w x r.0 named (new before w run) inv h) xs end r.3

    pub runs_linked_so : (xs : List Placed) (end : World (Body M)) → Runs (plant_of model t lines) (start (plant_of model t lines)) xs end → IsLinkedSo t end
    runs_linked_so xs end r =
        (go_linked [] (start (plant_of model t lines)) refl (start_named model clear t lines clear_lines) start_linked_so xs end r).1
