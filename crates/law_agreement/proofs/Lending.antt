-- Over every run of the world: messages on loans go between the controllers of place and home.
use Rattle.std.proofs.Common.{◌≡◌, ℕ, ◌<◌, ◌==◌, Bool, true, false, cond, if◌then◌else◌, List, [], ◌∷◌, ◌++◌, filter, length, Some, refl, sym, ap, ◌∙◌, subst, eq-eqb, eqb-true}
use Rattle.std.specs.List.{AllByRecursion, Contains}
use Rattle.std.proofs.lemmas.List.Elements.{All-from_recursion, All-contains}
use Rattle.std.proofs.lemmas.Bool.{and_parts}
use Rattle.room_kinds.specs.declared.message.Msg.{Msg}
use Rattle.journal.specs.declared.entry.Entry.{Entry}
use Rattle.journal.specs.declared.entry.Entry.TheVariants as entry
use Rattle.room_wiring.specs.declared.tables.Tables.{Tables}
use Rattle.actor_merge.specs.Mail.{event_of}
use Rattle.actor_merge.specs.Parties.{State, Line, Taken, put, stamped, next_of, turn}
use Rattle.actor_merge.specs.World.{World, Placed, start, Runs, controller_does}
use Rattle.actor_merge.proofs.Back.{Happened, controller, environment, happened}
use Rattle.actor_world.specs.Behaviour.{Behaviour}
use Rattle.actor_world.specs.Body.{Body}
use Rattle.actor_world.specs.Start.{first_state, plant_of}
use Rattle.actor_world.specs.Directories.{IsOpen, AreOpen}
use Rattle.law_agreement.specs.Trails.{contents, from_a, system_to, is_system_to, trail, leaves, comes}
use Rattle.law_agreement.specs.Imports.{IsRouted, PlacesAreLocal}
use Rattle.law_agreement.proofs.Lists.{all_append, all_later, all_before}
use Rattle.law_agreement.proofs.Hearing.{from_append}
use Rattle.law_agreement.proofs.Moving.{Ranked, next_front, from_one, turn_from, world_after, controller_moves}
use Rattle.law_agreement.proofs.Agreeing.{IsForetold, start_foretold, controller_foretold, environment_foretold, environment_moves, fresh_trail}
use Rattle.law_agreement.proofs.Routing.{AllRight, treat_right, start_right}

-- messages to one controller go between controllers of place and home
abbrev pub AllRouted : Tables → ℕ → ℕ → List Msg → Type 0
AllRouted t a b ms = AllByRecursion (IsRouted t a b) ms

pub routed_contents : (t : Tables) (a b d : ℕ) (ms : List Msg) → AllRouted t a b ms → AllRouted t a b (contents d ms)
unfolding contents
routed_contents t a b d [] h = tt
routed_contents t a b d (m ∷ ms) h = let k = h.0 in (record { forth = k.forth; back = k.back }, routed_contents t a b d ms h.1)

-- what is sent right to controller b is routed there
right_system : (t : Tables) (a b : ℕ) (ms : List Msg) → AllRight t a ms → AllRouted t a b (system_to a b ms)
unfolding system_to
right_system t a b ms h = routed_contents t a b a (filter (is_system_to b) ms) (passed ms h)
  where
    passed : (ms : List Msg) → AllRight t a ms → AllRouted t a b (filter (is_system_to b) ms)
    passed [] h = tt
    passed (m ∷ ms) h = go (is_system_to b m) refl (passed ms h.1)
      where
        go : (z : Bool) → is_system_to b m ≡ z → AllRouted t a b (filter (is_system_to b) ms) → AllRouted t a b (cond z (m ∷ filter (is_system_to b) ms) (filter (is_system_to b) ms))
        go true e k = (subst (λ n. IsRouted t a n m) (sym (eqb-true b m.to.0 (and_parts (b == m.to.0) (0 == m.prio.0) e).0)) h.0, k)
        go false e k = k

-- a world in which all messages on loans are on their way
pub record IsLending {M : Type 0} (t : Tables) (w : World (Body M)) : Type 0 where
  pub foretold : IsForetold t w
  pub routed : (a b : ℕ) → AllRouted t a b (trail w a b)

module _ {M : Type 0} (model : Behaviour M) (clear : IsOpen model) (t : Tables) (local : PlacesAreLocal t) (lines : List Line) (clear_lines : AreOpen lines) where
  module _ (w : World (Body M)) (inv : IsLending t w) (c : ℕ) where
    -- the message that a turn takes out of the system's list is routed
    pub hand_routed : (k : Taken) → next_of (w.controllers c).pending ≡ Some k → (k.message.prio.0 == 0) ≡ true → IsRouted t k.message.from.0 c k.message
    hand_routed k front zero =
        let f : ℕ = k.message.from.0 in
        let whole : (w.controllers c).pending k.priority ≡ k.message ∷ k.rest = next_front (w.controllers c).pending k front in
        let rank : k.message.prio.0 ≡ k.priority = (subst (Ranked k.priority) whole ((inv.foretold.sorted c).pending k.priority)).0 in
        let first : k.priority ≡ 0 = sym rank ∙ eqb-true k.message.prio.0 0 zero in
        let list : (w.controllers c).pending 0 ≡ k.message ∷ k.rest = ap (w.controllers c).pending (sym first) ∙ whole in
        let split : from_a f ((w.controllers c).pending 0) ≡ from_a f (k.message ∷ []) ++ from_a f k.rest = ap (from_a f) list ∙ from_append f (k.message ∷ []) k.rest in
        let all : AllRouted t f c (from_a f ((w.controllers c).pending 0)) = all_before (IsRouted t f c) (from_a f ((w.controllers c).pending 0)) _ (inv.routed f c) in
        let one : from_a f (k.message ∷ []) ≡ stamped f 0 k.message ∷ [] =
        from_one f k.message ∙ ap (λ (z : Bool). if z then stamped f 0 k.message ∷ [] else []) (eq-eqb f f refl) in
        let h : IsRouted t f c (stamped f 0 k.message) =
        (subst (AllRouted t f c) one (all_before (IsRouted t f c) (from_a f (k.message ∷ [])) (from_a f k.rest) (subst (AllRouted t f c) split all))).0 in
        record { forth = h.forth; back = h.back }

    step_routed : (e : Entry) (next : State (Body M)) → controller_does (plant_of model t lines) w c (event_of e) ≡ Some (next, e)
        → (a b : ℕ) → AllRouted t a b (comes (world_after model t lines w c e next) c e a b)
    unfolding turn put
    step_routed (entry.Start who state ns) next h a b = tt
    step_routed (entry.Fetch stamp m) next h a b = tt
    step_routed (entry.Post stamp m) next h a b = tt
    step_routed (entry.Turn stamp from sent what ns) next h a b = go (a == c) refl
      where
        sent_right : AllRight t c next.outbox
        sent_right =
            let r = turn_from model t lines c (w.controllers c) next (entry.Turn stamp from sent what ns) (w.controllers c).outbox (next_of (w.controllers c).pending) h in
            subst (λ (q : State (Body M) × Entry). AllRight t c q.0.outbox) r.3
            (treat_right t local c model clear (w.controllers c).body r.0.message (hand_routed r.0 r.2))

        go : (x : Bool) → (a == c) ≡ x → AllRouted t a b (if x then system_to a b (if x then next else w.controllers a).outbox else [])
        go true e = right_system t a b next.outbox (subst (λ n. AllRight t n next.outbox) (sym (eqb-true a c e)) sent_right)
        go false e = tt

    controller_lends : c < length t.controllers → (e : Entry) (next : State (Body M)) → controller_does (plant_of model t lines) w c (event_of e) ≡ Some (next, e)
        → IsLending t (world_after model t lines w c e next)
    controller_lends below e next h =
        record {
          foretold = controller_foretold model clear t lines clear_lines w inv.foretold c below e next h;
          routed = λ a b.
              all_later (IsRouted t a b) (leaves w c e a b) (trail (world_after model t lines w c e next) a b)
              (subst (AllRouted t a b) (sym (controller_moves model t lines clear w c e next (inv.foretold.sorted c) h a b))
              (all_append (IsRouted t a b) (trail w a b) (comes (world_after model t lines w c e next) c e a b) (inv.routed a b) (step_routed e next h a b)));
        }

  pub step_lends : (w : World (Body M)) (x : Placed) (next : World (Body M)) → IsLending t w → Happened (plant_of model t lines) w x next → IsLending t next
  step_lends w x next inv (controller below s does same) = subst (IsLending t) (sym same) (controller_lends w inv x.party below x.entry s does)
  step_lends w x next inv (environment is v does same) =
      subst (IsLending t) (sym same)
      (record {
        foretold = environment_foretold model clear t lines clear_lines w x.party x.entry v inv.foretold does;
        routed = λ a b. subst (AllRouted t a b) (sym (environment_moves model clear t lines clear_lines w x.party x.entry v does a b)) (inv.routed a b);
      })

  run_lends : (xs : List Placed) (w end : World (Body M)) → IsLending t w → Runs (plant_of model t lines) w xs end → IsLending t end
  run_lends [] w end inv r = subst (IsLending t) (sym r) inv
  run_lends (x ∷ xs) w end inv r = run_lends xs r.0 end (step_lends w x r.0 inv (happened (plant_of model t lines) w x r.0 r.2)) r.3

  pub start_lends : IsLending t (start (plant_of model t lines))
  start_lends =
      record {
        foretold = start_foretold model clear t lines clear_lines;
        routed = λ a b.
            subst (AllRouted t a b) (sym (fresh_trail a b (first_state model t a).outbox))
            (right_system t a b (first_state model t a).outbox (start_right t local a model clear));
      }

  pub runs_lend : (xs : List Placed) (end : World (Body M)) → Runs (plant_of model t lines) (start (plant_of model t lines)) xs end → IsLending t end
  runs_lend xs end r = run_lends xs (start (plant_of model t lines)) end start_lends r

  pub runs_route : (xs : List Placed) (end : World (Body M)) → Runs (plant_of model t lines) (start (plant_of model t lines)) xs end
      → (a b : ℕ) (m : Msg) → Contains (trail end a b) m → IsRouted t a b m
  runs_route xs end r a b m there =
      All-contains (IsRouted t a b) (trail end a b) m (All-from_recursion (IsRouted t a b) (trail end a b) ((runs_lend xs end r).routed a b)) there
