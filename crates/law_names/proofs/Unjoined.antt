-- A service access point that the model joins never gets a name.
use Rattle.std.proofs.Common.{◌≡◌, ℕ, ◌==◌, ◌&&◌, Bool, true, false, if◌then◌else◌, List, [], ◌∷◌, ℤ, pos, Option, Some, None, refl, sym, ◌∙◌, subst, eqb-true}
use Rattle.std.proofs.lemmas.Bool.{and_from}
use Rattle.room_kinds.specs.declared.message.Msg.{Msg}
use Rattle.room_kinds.specs.declared.numbers.Incarnation.{Incarnation}
use Rattle.room_kinds.specs.declared.numbers.Endpoint.{Endpoint}
use Rattle.room_kinds.specs.declared.system.SysKind.{SysKind}
use Rattle.room_kinds.specs.declared.system.SysKind.TheVariants as kinds
use Rattle.room_kinds.specs.declared.command.Command.{Command}
use Rattle.room_kinds.specs.declared.command.Command.TheVariants as commands
use Rattle.room_kinds.specs.declared.command.NameCommand.{NameCommand}
use Rattle.room_kinds.specs.declared.command.NameCommand.TheVariants as names
use Rattle.journal.specs.declared.entry.Entry.{Entry}
use Rattle.journal.specs.declared.entry.Entry.TheVariants as entry
use Rattle.room_wiring.specs.declared.tables.Tables.{Tables}
use Rattle.actor_merge.specs.Parties.{State, Line, Treated, next_of, fetch, turn, post, Does}
use Rattle.actor_merge.specs.World.{World, Placed, start, Runs}
use Rattle.actor_merge.proofs.Back.{Happened, controller, environment, happened, own_of}
use Rattle.actor_duties.specs.Words.{updated, is_sap, is_joined, joined_at, is_own, is_endpoint, whose}
use Rattle.actor_duties.specs.State.{Lives, Registration, Unnamed, Asked, Registered, Leaving, Links, Done}
use Rattle.actor_duties.specs.Lives.{is_live}
use Rattle.actor_duties.specs.Messages.{PortTaken}
use Rattle.actor_duties.specs.Links.{updated_at, replied, name_reply, bound, unbound, is_own_point, links_duty_of, links_duty_from, links_duty, same_links, name_refused, register_from, register_command, withdraw_from, withdraw_command, name_request, end_of}
use Rattle.actor_world.specs.Behaviour.{Behaviour}
use Rattle.actor_world.specs.Body.{Body}
use Rattle.actor_world.specs.Turns.{treat}
use Rattle.actor_world.specs.Start.{first_state, plant_of}
use Rattle.actor_world.specs.Directories.{IsOpen}
use Rattle.service_messages.proofs.slot_runs.RunLemmas.{not_true_false}
use Rattle.law_agreement.proofs.Agreeing.{put_each}
use Rattle.law_agreement.proofs.Moving.{turn_from, post_from}
use Rattle.law_names.specs.Asking.{AllAsk}
use Rattle.law_names.specs.Unjoined.{JoinedAreUnnamed}
use Rattle.law_names.proofs.Naming.{all_ended, IsNameWalk, AsksSo, Turns, treats, hears, leads, treat_turns, start_asks}

module _ (t : Tables) (me : ℕ) where
  abbrev IsUnnamed : Links → Type 0
  IsUnnamed l = JoinedAreUnnamed t l

  -- another registration at one port, which has no name if the model joins it
  updated_unnamed : (l : Links) (s p : ℕ) (next : Registration) → (is_sap t s p ≡ true → is_joined (joined_at t s p 0) ≡ true → next ≡ Unnamed) → IsUnnamed l
      → IsUnnamed (record l { registrations = updated_at l.registrations s p next })
  unfolding updated
  updated_unnamed l s p next h k n q sap joined = at_slot (n == s) refl
    where
      at_port : n ≡ s → (b : Bool) → (q == p) ≡ b → (if b then next else l.registrations s q) ≡ Unnamed
      at_port slot true e =
          let port : q ≡ p = eqb-true q p e in
          h (subst (λ z. is_sap t s z ≡ true) port (subst (λ z. is_sap t z q ≡ true) slot sap))
          (subst (λ z. is_joined (joined_at t s z 0) ≡ true) port (subst (λ z. is_joined (joined_at t z q 0) ≡ true) slot joined))
      at_port slot false e = subst (λ z. l.registrations z q ≡ Unnamed) slot (k n q sap joined)

      at_slot : (b : Bool) → (n == s) ≡ b → (if b then updated (l.registrations s) p next else l.registrations n) q ≡ Unnamed
      at_slot true e = at_port (eqb-true n s e) (q == p) refl
      at_slot false e = k n q sap joined

  -- where a port is named, the model doesn't join it
  named_apart : (l : Links) (s p : ℕ) (r next : Registration) → l.registrations s p ≡ r → (r ≡ Unnamed → ⊥) → IsUnnamed l
      → is_sap t s p ≡ true → is_joined (joined_at t s p 0) ≡ true → next ≡ Unnamed
  named_apart l s p r next is named k sap joined = absurd (named (sym is ∙ k s p sap joined))

  -- ---- commands

  register_unnamed : (l : Links) (x : Incarnation) (p name : ℕ) → IsUnnamed l → IsUnnamed (register_command t me l x p name).now
  unfolding register_command
  register_unnamed l x p name k = go (is_sap t x.slot.0 p && is_joined (joined_at t x.slot.0 p 0)) refl
    where
      by_registration : (is_sap t x.slot.0 p && is_joined (joined_at t x.slot.0 p 0)) ≡ false → (r : Registration) → IsUnnamed (register_from me l x p name r).now
      by_registration e Unnamed =
          updated_unnamed l x.slot.0 p Asked
          (λ sap joined. absurd (not_true_false (is_sap t x.slot.0 p && is_joined (joined_at t x.slot.0 p 0)) (and_from (is_sap t x.slot.0 p) (is_joined (joined_at t x.slot.0 p 0)) sap joined) e)) k
      by_registration e Asked = k
      by_registration e Leaving = k
      by_registration e Registered = k

      go : (b : Bool) → (is_sap t x.slot.0 p && is_joined (joined_at t x.slot.0 p 0)) ≡ b
          → IsUnnamed (if b then name_refused me l x p PortTaken else register_from me l x p name (l.registrations x.slot.0 p)).now
      go true e = k
      go false e = by_registration e (l.registrations x.slot.0 p)

  withdraw_unnamed : (l : Links) (x : Incarnation) (p : ℕ) → IsUnnamed l → IsUnnamed (withdraw_command me l x p).now
  unfolding withdraw_command
  withdraw_unnamed l x p k = go (l.registrations x.slot.0 p) refl
    where
      go : (r : Registration) → l.registrations x.slot.0 p ≡ r → IsUnnamed (withdraw_from me l x p r).now
      go Unnamed e = k
      go Asked e = k
      go Leaving e = k
      go Registered e = updated_unnamed l x.slot.0 p Leaving (named_apart l x.slot.0 p Registered Leaving e (λ no. let f : Registered ≡ Unnamed = no in cc) k) k

  request_unnamed : (l : Links) (x : Incarnation) (c : NameCommand) → IsUnnamed l → IsUnnamed (name_request t me l x c).now
  request_unnamed l x (names.Register p name) k = register_unnamed l x p name k
  request_unnamed l x (names.Withdraw p) k = withdraw_unnamed l x p k

  end_unnamed : (l : Links) (x : Incarnation) → IsUnnamed l → IsUnnamed (end_of t me l x).now
  unfolding end_of updated
  end_unnamed l x k n q sap joined = go (n == x.slot.0)
    where
      go : (b : Bool) → (if b then (λ (p : ℕ). Unnamed) else l.registrations n) q ≡ Unnamed
      go true = refl
      go false = k n q sap joined

  all_ended_unnamed : (xs : List Incarnation) (l : Links) → IsUnnamed l → IsUnnamed (all_ended t me xs l).now
  all_ended_unnamed [] l k = k
  all_ended_unnamed (x ∷ xs) l k = all_ended_unnamed xs (end_of t me l x).now (end_unnamed l x k)

  -- ---- duties

  done_unnamed : (b : Bool) (x y : Done Links) → IsUnnamed x.now → IsUnnamed y.now → IsUnnamed (if b then x else y).now
  done_unnamed true x y h k = h
  done_unnamed false x y h k = k

  replied_unnamed : (l : Links) (e : Endpoint) (code : ℕ) (r : Registration) → l.registrations e.slot.0 e.port ≡ r → IsUnnamed l → IsUnnamed (replied me l e code r).now
  replied_unnamed l e code Unnamed is k = k
  replied_unnamed l e code Registered is k = k
  replied_unnamed l e code Leaving is k = updated_unnamed l e.slot.0 e.port Unnamed (λ sap joined. refl) k
  replied_unnamed l e code Asked is k =
      done_unnamed (code == 0) _ _
      (updated_unnamed l e.slot.0 e.port Registered (named_apart l e.slot.0 e.port Asked Registered is (λ no. let f : Asked ≡ Unnamed = no in cc) k) k)
      (done_unnamed (code == 8) _ _ (updated_unnamed l e.slot.0 e.port Unnamed (λ sap joined. refl) k) k)

  links_of_unnamed : (l : Links) (kind : SysKind) (a b : Endpoint) (payload : List ℤ) → IsUnnamed l → IsUnnamed (links_duty_of t me l kind a b payload).now
  unfolding name_reply bound unbound
  links_of_unnamed l kinds.Bound a b [] k = done_unnamed (is_own_point t me b) _ _ k k
  links_of_unnamed l kinds.Ended a b [] k = done_unnamed (is_own_point t me b) _ _ k k
  links_of_unnamed l kinds.NameReply a b (pos code ∷ []) k =
      done_unnamed (is_own_point t me b && is_endpoint a b && (b.place == 0)) (name_reply me l b code) (same_links l) (replied_unnamed l b code (l.registrations b.slot.0 b.port) refl k) k
  links_of_unnamed l _ a b _ k = k

  links_from_unnamed : (l : Links) (kind : SysKind) (o : Option Endpoint) (m : Msg) → IsUnnamed l → IsUnnamed (links_duty_from t me l kind o m).now
  links_from_unnamed l kind None m k = k
  links_from_unnamed l kind (Some a) m k = links_of_unnamed l kind a m.target m.payload k

  links_unnamed : (l : Links) (live : Bool) (kind : SysKind) (m : Msg) → IsUnnamed l → IsUnnamed (links_duty t me l live kind m).now
  unfolding links_duty
  links_unnamed l live kind m k = done_unnamed live _ _ (links_from_unnamed l kind m.source m k) k

  -- ---- turns

  abbrev AsksAny : Incarnation → NameCommand → Type 0
  AsksAny x c = Unit {0}

  abbrev Leaves : Lives → Links → List Msg → Links → Type 0
  Leaves l a ms b = IsUnnamed a → IsUnnamed b

  leaving : IsNameWalk t me AsksAny Leaves
  leaving =
      record {
        two = λ l a b c x y h k q. k (h q);
        off = λ l a ms off q. q;
        request = λ l a x c here asks q. request_unnamed a x c q;
      }

all_ask_any : (cs : List Command) → AllAsk (λ c. Unit {0}) cs
all_ask_any [] = tt
all_ask_any (commands.Name c ∷ cs) = (tt, all_ask_any cs)
all_ask_any (commands.Send p k signal payload prio ∷ cs) = all_ask_any cs
all_ask_any (commands.Defer ∷ cs) = all_ask_any cs
all_ask_any (commands.Recall ∷ cs) = all_ask_any cs
all_ask_any (commands.RecallAll ∷ cs) = all_ask_any cs
all_ask_any (commands.Frame c ∷ cs) = all_ask_any cs

module _ {M : Type 0} (model : Behaviour M) (clear : IsOpen model) (t : Tables) (lines : List Line) where
  asks_any : AsksSo (λ x c. Unit {0}) model
  asks_any = record { begin = λ x. all_ask_any (model.begin x).commands; handle = λ x machine m. all_ask_any (model.handle x machine m).commands }

  turned_unnamed : (me : ℕ) (b : Body M) (m : Msg) (r : Treated (Body M)) → Turns t me (AsksAny t me) (Leaves t me) b m r → JoinedAreUnnamed t b.links → JoinedAreUnnamed t r.body.links
  turned_unnamed me b m r (treats kind table is same sent) k = subst (λ (z : Body M). JoinedAreUnnamed t z.links) (sym same) k
  turned_unnamed me b m r (hears kind links is same sent) k =
      subst (λ (z : Body M). JoinedAreUnnamed t z.links) (sym same) (links_unnamed t me b.links (is_own t me m.target.slot.0 && is_live b.frame.lives (whose m.target)) kind m k)
  turned_unnamed me b m r (leads d apart deals off follows) k =
      subst (JoinedAreUnnamed t) (sym follows.after) (all_ended_unnamed t me d.ended follows.links (follows.asks k))

  treat_unnamed : (me : ℕ) (b : Body M) (m : Msg) → JoinedAreUnnamed t b.links → JoinedAreUnnamed t (treat model t me b m).body.links
  treat_unnamed me b m = turned_unnamed me b m (treat model t me b m) (treat_turns t me (AsksAny t me) (Leaves t me) (leaving t me) model clear asks_any b m)

  first_unnamed : (me : ℕ) → JoinedAreUnnamed t (first_state model t me).body.links
  first_unnamed me = start_asks t me (AsksAny t me) (Leaves t me) (leaving t me) model clear asks_any (λ s p sap joined. refl)

  -- ---- runs

  does_unnamed : (c : ℕ) (s next : State (Body M)) (e : Entry) → JoinedAreUnnamed t s.body.links → Does (plant_of model t lines) c s e next → JoinedAreUnnamed t next.body.links
  unfolding turn post fetch
  does_unnamed c s next (entry.Start who state ns) h d = absurd d
  does_unnamed c s next (entry.Fetch stamp m) h d = subst (λ (z : State (Body M) × Entry). JoinedAreUnnamed t z.0.body.links) d h
  does_unnamed c s next (entry.Post stamp m) h d =
      let r = post_from model t lines c s next (entry.Post stamp m) s.outbox d in
      subst (λ (z : State (Body M) × Entry). JoinedAreUnnamed t z.0.body.links) r.3 h
  does_unnamed c s next (entry.Turn stamp from sent what ns) h d =
      let r = turn_from model t lines c s next (entry.Turn stamp from sent what ns) s.outbox (next_of s.pending) d in
      subst (λ (z : State (Body M) × Entry). JoinedAreUnnamed t z.0.body.links) r.3 (treat_unnamed c s.body r.0.message h)

  abbrev AllUnnamed : World (Body M) → Type 0
  AllUnnamed w = (c : ℕ) → JoinedAreUnnamed t (w.controllers c).body.links

  step_unnamed : (w : World (Body M)) (x : Placed) (next : World (Body M)) → AllUnnamed w → Happened (plant_of model t lines) w x next → AllUnnamed next
  step_unnamed w x next h (controller below s does same) =
      subst AllUnnamed (sym same)
      (put_each (λ (z : State (Body M)). JoinedAreUnnamed t z.body.links) w.controllers x.party s h
      (does_unnamed x.party (w.controllers x.party) s x.entry (h x.party) (own_of (plant_of model t lines) w x.party x.entry s does)))
  step_unnamed w x next h (environment is v does same) = subst AllUnnamed (sym same) h

  run_unnamed : (xs : List Placed) (w end : World (Body M)) → AllUnnamed w → Runs (plant_of model t lines) w xs end → AllUnnamed end
  run_unnamed [] w end h r = subst AllUnnamed (sym r) h
  run_unnamed (x ∷ xs) w end h r = run_unnamed xs r.0 end (step_unnamed w x r.0 h (happened (plant_of model t lines) w x r.0 r.2)) r.3

  pub runs_unnamed : (xs : List Placed) (end : World (Body M)) → Runs (plant_of model t lines) (start (plant_of model t lines)) xs end → AllUnnamed end
  runs_unnamed xs end r = run_unnamed xs (start (plant_of model t lines)) end first_unnamed r
