-- Over every run of the world: what is on its way on names has its form.
use Rattle.std.proofs.Common.{◌≡◌, ℕ, ◌==◌, ◌&&◌, Bool, true, false, if◌then◌else◌, List, [], ◌∷◌, filter, slice_get, Option, Some, None, ℤ, pos, refl, sym, ap, ◌∙◌, subst}
use Rattle.std.specs.List.{AllByRecursion, Contains}
use Rattle.std.proofs.lemmas.List.Elements.{All-from_recursion, All-contains}
use Rattle.room_kinds.specs.declared.message.Msg.{Msg}
use Rattle.room_kinds.specs.declared.numbers.Incarnation.{Incarnation}
use Rattle.room_kinds.specs.declared.system.SysKind.{SysKind}
use Rattle.room_kinds.specs.declared.system.SysKind.TheVariants as kinds
use Rattle.room_kinds.specs.declared.command.NameCommand.{NameCommand}
use Rattle.room_kinds.specs.declared.command.NameCommand.TheVariants as names
use Rattle.journal.specs.declared.entry.Entry.{Entry}
use Rattle.journal.specs.declared.entry.Entry.TheVariants as entry
use Rattle.room_wiring.specs.declared.tables.Tables.{Tables}
use Rattle.actor_merge.specs.Mail.{event_of}
use Rattle.actor_merge.specs.Parties.{State, Line, Treated, put, next_of, turn}
use Rattle.actor_merge.specs.World.{World, Placed, start, Runs, controller_does}
use Rattle.actor_merge.proofs.Back.{Happened, controller, environment, happened}
use Rattle.actor_duties.specs.Words.{is_endpoint, is_sap, joined_at, is_joined, ports_of}
use Rattle.actor_duties.specs.State.{Lives, Links, Registration, Unnamed, Asked, Registered, Leaving, Done}
use Rattle.actor_duties.specs.Messages.{system}
use Rattle.actor_duties.specs.Links.{point_of, is_entered, register_from, register_command, withdraw_from, withdraw_command, name_request, end_of}
use Rattle.actor_world.specs.Behaviour.{Behaviour}
use Rattle.actor_world.specs.Body.{Body}
use Rattle.actor_world.specs.Turns.{all_kinds, treat}
use Rattle.actor_world.specs.Start.{first_state, plant_of}
use Rattle.actor_world.specs.Directories.{IsOpen, AreOpen}
use Rattle.law_agreement.specs.Trails.{contents, system_to, is_system_to, trail, leaves, comes}
use Rattle.law_agreement.proofs.Lists.{all_append, all_later, all_map, all_filter}
use Rattle.law_agreement.proofs.Moving.{turn_from, world_after, controller_moves}
use Rattle.law_agreement.proofs.Agreeing.{IsForetold, start_foretold, controller_foretold, environment_foretold, environment_moves, fresh_trail}
use Rattle.law_names.specs.Created.{asker}
use Rattle.law_names.specs.Registrations.{asked, is_asking_kind, is_asking, is_reply_kind, is_reply, RepliesOne, HasForm}
use Rattle.law_names.proofs.OffNames.{is_name_kind, IsOffNames, AllOffNames, links_off}
use Rattle.law_names.proofs.Naming.{all_ended, IsNameWalk, Turns, treats, hears, leads, treat_turns, start_asks}
use Rattle.law_names.proofs.Creating.{table_plain, table_replies}
use Rattle.law_names.proofs.CreatedRuns.{ask_somehow}
use Rattle.law_names.proofs.Standing.{self_endpoint}

-- messages that have their form
abbrev AllForm : List Msg → Type 0
AllForm ms = AllByRecursion HasForm ms

-- what asks nothing
form_of : (m : Msg) → is_asking m ≡ false → RepliesOne m → HasForm m
form_of m plain replies = record { asks = λ h. (let q : true ≡ false = sym h ∙ plain in absurd cc); replies = replies }

off_form : (m : Msg) → IsOffNames m → HasForm m
off_form m off =
    let k = apart (m.prio.0 == 0) (slice_get all_kinds m.signal) off in
    form_of m k.0 (λ h. (let q : true ≡ false = sym h ∙ k.1 in absurd cc))
  where
    apart : (a : Bool) (o : Option SysKind) → (a && is_name_kind o) ≡ false → ((a && is_asking_kind o) ≡ false) × ((a && is_reply_kind o) ≡ false)
    apart false o n = (refl, refl)
    apart true None n = (refl, refl)
    apart true (Some kinds.Register) n = absurd cc
    apart true (Some kinds.Withdraw) n = absurd cc
    apart true (Some kinds.NameReply) n = absurd cc
    apart true (Some kind) n = (refl, refl)

all_off_form : (ms : List Msg) → AllOffNames ms → AllForm ms
all_off_form [] h = tt
all_off_form (m ∷ ms) h = (off_form m h.0, all_off_form ms h.1)

told_form : (ms : List Msg) → AllByRecursion (λ (m : Msg). is_asking m ≡ false) ms → AllByRecursion RepliesOne ms → AllForm ms
told_form [] h k = tt
told_form (m ∷ ms) h k = (form_of m h.0 k.0, told_form ms h.1 k.1)

module _ (t : Tables) (me : ℕ) where
  -- what an actor here asks
  asks_form : (x : Incarnation) (p : ℕ) (kind : SysKind) (payload : List ℤ)
      → asker (system me 0 kind (point_of x p) (point_of x p) payload) ≡ Some (point_of x p)
      → is_reply (system me 0 kind (point_of x p) (point_of x p) payload) ≡ false
      → asked (point_of x p) (system me 0 kind (point_of x p) (point_of x p) payload) ≡ (if is_endpoint (point_of x p) (point_of x p) && is_endpoint (point_of x p) (point_of x p) then kind ∷ [] else [])
      → HasForm (system me 0 kind (point_of x p) (point_of x p) payload)
  asks_form x p kind payload is none token =
      record {
        asks = λ h. (point_of x p, kind, is, token ∙ one);
        replies = λ h. (let q : true ≡ false = sym h ∙ none in absurd cc);
      }
    where
      one : (if is_endpoint (point_of x p) (point_of x p) && is_endpoint (point_of x p) (point_of x p) then kind ∷ [] else []) ≡ kind ∷ []
      one = ap (λ (b : Bool). if b && b then kind ∷ [] else []) (self_endpoint (point_of x p))

  register_form : (l : Links) (x : Incarnation) (p name : ℕ) (r : Registration) → AllForm (register_from me l x p name r).sent
  register_form l x p name Unnamed = (asks_form x p kinds.Register (pos name ∷ []) refl refl refl, tt)
  register_form l x p name Asked = (off_form _ refl, tt)
  register_form l x p name Registered = (off_form _ refl, tt)
  register_form l x p name Leaving = (off_form _ refl, tt)

  withdraw_form : (l : Links) (x : Incarnation) (p : ℕ) (r : Registration) → AllForm (withdraw_from me l x p r).sent
  withdraw_form l x p Unnamed = (off_form _ refl, tt)
  withdraw_form l x p Asked = (off_form _ refl, tt)
  withdraw_form l x p Registered = (asks_form x p kinds.Withdraw [] refl refl refl, tt)
  withdraw_form l x p Leaving = (off_form _ refl, tt)

  form_if : (b : Bool) (r n : Done Links) → AllForm r.sent → AllForm n.sent → AllForm (Done.sent (if b then r else n))
  form_if true r n h k = h
  form_if false r n h k = k

  request_form : (l : Links) (x : Incarnation) (c : NameCommand) → AllForm (name_request t me l x c).sent
  unfolding register_command withdraw_command
  request_form l x (names.Register p name) =
      form_if (is_sap t x.slot.0 p && is_joined (joined_at t x.slot.0 p 0)) _ (register_from me l x p name (l.registrations x.slot.0 p)) (off_form _ refl, tt) (register_form l x p name (l.registrations x.slot.0 p))
  request_form l x (names.Withdraw p) = withdraw_form l x p (l.registrations x.slot.0 p)

  end_form : (l : Links) (x : Incarnation) → AllForm (end_of t me l x).sent
  unfolding end_of
  end_form l x =
      all_map HasForm (λ p. system me 0 kinds.Withdraw (point_of x p) (point_of x p) []) (λ p. asks_form x p kinds.Withdraw [] refl refl refl)
      (filter (λ p. is_entered (l.registrations x.slot.0 p)) (ports_of t x.slot.0))

  all_ended_form : (xs : List Incarnation) (l : Links) → AllForm (all_ended t me xs l).sent
  all_ended_form [] l = tt
  all_ended_form (x ∷ xs) l =
      let r : Done Links = end_of t me l x in
      all_append HasForm r.sent (all_ended t me xs r.now).sent (end_form l x) (all_ended_form xs r.now)

  FormsAll : Lives → Links → List Msg → Links → Type 0
  FormsAll l a ms b = AllForm ms

  forms_all : IsNameWalk t me (λ x c. Unit {0}) FormsAll
  unfolding FormsAll
  forms_all =
      record {
        two = λ l a b c x y h k. all_append HasForm x y h k;
        off = λ l a ms off. all_off_form ms off;
        request = λ l a x c is ask. request_form a x c;
      }

  module _ {M : Type 0} (model : Behaviour M) (clear : IsOpen model) where
    pub turn_forms : (b : Body M) (m : Msg) → AllForm (treat model t me b m).sent
    unfolding FormsAll
    turn_forms b m = go (treat model t me b m) (treat_turns t me (λ x c. Unit {0}) FormsAll forms_all model clear (ask_somehow model) b m)
      where
        go : (r : Treated (Body M)) → Turns t me (λ x c. Unit {0}) FormsAll b m r → AllForm r.sent
        go r (treats kind test is body sent) = subst AllForm (sym sent) (told_form _ (table_plain t me b.table kind m) (table_replies t me b.table kind m))
        go r (hears kind test is body sent) = subst AllForm (sym sent) (all_off_form _ (links_off t me b.links _ kind m))
        go r (leads d apart deals off f) =
            subst AllForm (sym f.sends)
            (all_append HasForm d.sent _ (all_off_form d.sent off)
            (all_append HasForm f.asked _ f.asks
            (all_append HasForm (all_ended t me d.ended f.links).sent f.last (all_ended_form d.ended f.links) (all_off_form f.last f.off))))

    pub start_forms : AllForm (first_state model t me).outbox
    unfolding FormsAll
    start_forms = start_asks t me (λ x c. Unit {0}) FormsAll forms_all model clear (ask_somehow model)

-- what is sent to a controller keeps its form
contents_form : (a : ℕ) (ms : List Msg) → AllForm ms → AllForm (contents a ms)
unfolding contents
contents_form a [] h = tt
contents_form a (m ∷ ms) h = (let k = h.0 in (record { asks = k.asks; replies = k.replies }, contents_form a ms h.1))

system_form : (a b : ℕ) (ms : List Msg) → AllForm ms → AllForm (system_to a b ms)
unfolding system_to
system_form a b ms h = contents_form a (filter (is_system_to b) ms) (all_filter HasForm (is_system_to b) ms h)

module _ {M : Type 0} (model : Behaviour M) (clear : IsOpen model) (t : Tables) (lines : List Line) (clear_lines : AreOpen lines) where
  -- a world in which all that is on its way has its form
  record IsFormed (w : World (Body M)) : Type 0 where
    pub foretold : IsForetold t w
    pub formed : (a b : ℕ) → AllForm (trail w a b)

  come_formed : (w : World (Body M)) (c : ℕ) (e : Entry) (next : State (Body M)) → controller_does (plant_of model t lines) w c (event_of e) ≡ Some (next, e)
      → (a b : ℕ) → AllForm (comes (world_after model t lines w c e next) c e a b)
  unfolding turn put
  come_formed w c (entry.Start who state ns) next h a b = tt
  come_formed w c (entry.Fetch stamp m) next h a b = tt
  come_formed w c (entry.Post stamp m) next h a b = tt
  come_formed w c (entry.Turn stamp from sent what ns) next h a b = go (a == c)
    where
      all : AllForm next.outbox
      all =
          let r = turn_from model t lines c (w.controllers c) next (entry.Turn stamp from sent what ns) (w.controllers c).outbox (next_of (w.controllers c).pending) h in
          subst (λ (q : State (Body M) × Entry). AllForm q.0.outbox) r.3 (turn_forms t c model clear (w.controllers c).body r.0.message)

      go : (x : Bool) → AllForm (if x then system_to a b (if x then next else w.controllers a).outbox else [])
      go true = system_form a b next.outbox all
      go false = tt

  step_formed : (w : World (Body M)) (x : Placed) (next : World (Body M)) → IsFormed w → Happened (plant_of model t lines) w x next → IsFormed next
  step_formed w x next inv (controller below s does same) =
      subst IsFormed (sym same)
      (record {
        foretold = controller_foretold model clear t lines clear_lines w inv.foretold x.party below x.entry s does;
        formed = λ a b.
            all_later HasForm (leaves w x.party x.entry a b) (trail (world_after model t lines w x.party x.entry s) a b)
            (subst AllForm (sym (controller_moves model t lines clear w x.party x.entry s (inv.foretold.sorted x.party) does a b))
            (all_append HasForm (trail w a b) (comes (world_after model t lines w x.party x.entry s) x.party x.entry a b) (inv.formed a b) (come_formed w x.party x.entry s does a b)));
      })
  step_formed w x next inv (environment is v does same) =
      subst IsFormed (sym same)
      (record {
        foretold = environment_foretold model clear t lines clear_lines w x.party x.entry v inv.foretold does;
        formed = λ a b. subst AllForm (sym (environment_moves model clear t lines clear_lines w x.party x.entry v does a b)) (inv.formed a b);
      })

  run_formed : (xs : List Placed) (w end : World (Body M)) → IsFormed w → Runs (plant_of model t lines) w xs end → IsFormed end
  run_formed [] w end inv r = subst IsFormed (sym r) inv
  run_formed (x ∷ xs) w end inv r = run_formed xs r.0 end (step_formed w x r.0 inv (happened (plant_of model t lines) w x r.0 r.2)) r.3

  start_formed : IsFormed (start (plant_of model t lines))
  start_formed =
      record {
        foretold = start_foretold model clear t lines clear_lines;
        formed = λ a b. subst AllForm (sym (fresh_trail a b (first_state model t a).outbox)) (system_form a b (first_state model t a).outbox (start_forms t a model clear));
      }

  pub runs_keep_forms : (xs : List Placed) (end : World (Body M)) → Runs (plant_of model t lines) (start (plant_of model t lines)) xs end
      → (a b : ℕ) (m : Msg) → Contains (trail end a b) m → HasForm m
  runs_keep_forms xs end r a b m there =
      All-contains HasForm (trail end a b) m
      (All-from_recursion HasForm (trail end a b) ((run_formed xs (start (plant_of model t lines)) end start_formed r).formed a b)) there
