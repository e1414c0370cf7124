-- What a controller posts goes to controllers, where what it fetches can be answered.
use Rattle.std.proofs.Common.{◌≡◌, ℕ, zero, suc, ◌+◌, ◌<◌, ◌≤◌, ◌==◌, ◌||◌, nat_lt, Bool, true, false, not, List, [], ◌∷◌, ◌++◌, length, Option, Some, None, refl, sym, ap, ◌∙◌, subst, eqb-true, eq-eqb, lt-ltb, arith, ⊎_elim, ◌⊎◌, inl, inr}
use Rattle.std.specs.List.{AllByRecursion as Each, Contains}
use Rattle.std.proofs.lemmas.Bool.{cases_eq, ne_eqb}
use Rattle.std.proofs.lemmas.List.Elements.{Contains-append_left, Contains-append_right, Contains-append_cases}
use Rattle.room_kinds.specs.declared.message.Msg.{Msg}
use Rattle.room_wiring.specs.declared.tables.Tables.{Tables}
use Rattle.journal.specs.declared.entry.Entry.{Entry}
use Rattle.journal.specs.declared.entry.Entry.TheVariants as entry
use Rattle.actor_merge.specs.Parties.{State, Line, Plant, Treated, stamped, fetch, Taken, next_of, turned, turn_with, turn, post_front, post, Does, Replays}
use Rattle.actor_world.specs.Behaviour.{Behaviour}
use Rattle.actor_world.specs.Body.{Body}
use Rattle.actor_world.specs.Life.{IsModest}
use Rattle.actor_world.specs.Start.{plant_of, first_state}
use Rattle.actor_world.specs.Turns.{treat}
use Rattle.actor_world.specs.world_laws.Counting.{count, of_priority}
use Rattle.actor_world.specs.world_laws.Whereabouts.{fetches, fetched, TellsDefers, AddsUp, done_with}
use Rattle.actor_world.proofs.world_laws.Adding.{adds_up}
use Rattle.chart_behaviour.specs.sends.Sends.{OwnersAreThere, is_ranked}
use Rattle.chart_behaviour.proofs.sends.Turning.{turns_send_within}
use Rattle.chart_behaviour.specs.Asked.{AsksOnly}
use Rattle.controller_mail.specs.Within.{IsWithin, AreWithin, IsAnswerable, is_answerable}
use Rattle.controller_mail.proofs.Waiting.{answerable}
use Rattle.law_runs.proofs.TurnSteps.{next_first}
use Rattle.law_runs.proofs.run_journals.Entries.{each_fetched}
use Rattle.law_runs.proofs.run_journals.Waiting.{none_counted, all_counted}

-- what an entry posts is within
abbrev pub PostsWithin : ℕ → Entry → Type 0
PostsWithin n (entry.Post stamp m) = IsWithin n m
PostsWithin n (entry.Start who state notes) = Unit {0}
PostsWithin n (entry.Fetch stamp m) = Unit {0}
PostsWithin n (entry.Turn stamp from sent did notes) = Unit {0}

-- each of these messages can be answered
abbrev pub AllAnswerable : ℕ → List Msg → Type 0
AllAnswerable n ms = (m : Msg) → Contains ms m → IsAnswerable n m

answerable_back : (n : ℕ) (m : Msg) → IsAnswerable n m → is_answerable n m ≡ true
answerable_back n m h = go (cases_eq m.prio.0 0)
  where
    go : (m.prio.0 ≡ 0) ⊎ (m.prio.0 ≡ 0 → ⊥) → (not (m.prio.0 == 0) || nat_lt m.from.0 n) ≡ true
    go (inl zero_is) =
        ap (λ (b : Bool). not b || nat_lt m.from.0 n) (eq-eqb m.prio.0 0 zero_is) ∙ lt-ltb m.from.0 n (h zero_is)
    go (inr other) = ap (λ (b : Bool). not b || nat_lt m.from.0 n) (ne_eqb m.prio.0 0 other)

-- what is fetched by a journal and one more entry
fetched_either : (before : List Entry) (e : Entry) (m : Msg) → Contains (fetched (before ++ e ∷ [])) m → Contains (fetched before) m ⊎ Contains (fetched (e ∷ [])) m
fetched_either [] e m h = inr h
fetched_either (x ∷ before) e m h =
    ⊎_elim (λ a. inl (Contains-append_left (fetches x) (fetched before) m a))
    (λ b. ⊎_elim (λ q. inl (Contains-append_right (fetches x) (fetched before) m q)) (λ q. inr q) (fetched_either before e m b))
    (Contains-append_cases (fetches x) (fetched (before ++ e ∷ [])) m h)

one_fetched : (e : Entry) (es : List Entry) (m : Msg) → Contains (fetched (e ∷ [])) m → Contains (fetched (e ∷ es)) m
one_fetched e es m h =
    ⊎_elim (λ a. Contains-append_left (fetches e) (fetched es) m a) (λ b. absurd (omega (arith, b.1))) (Contains-append_cases (fetches e) [] m h)

module _ {M : Type 0} (model : Behaviour M) (asks : AsksOnly is_ranked model) (modest : IsModest model) (tells : TellsDefers model) (t : Tables) (owners : OwnersAreThere t)
    (lines : List Line) (c : ℕ) (below : c < length t.controllers) where
  abbrev plan : Plant (Body M)
  plan = plant_of model t lines

  abbrev first : State (Body M)
  first = first_state model t c

  -- what waits can be answered, where what was fetched can
  pending_answerable : (before : List Entry) (s : State (Body M)) → Replays (plant_of model t lines) c (first_state model t c) before s
      → AllAnswerable (length t.controllers) (fetched before) → (p : ℕ) → Each (λ (m : Msg). is_answerable (length t.controllers) m ≡ true) (s.pending p)
  pending_answerable before s r h p =
      let ok : Msg → Bool = λ (m : Msg). is_answerable (length t.controllers) m in
      let adds : AddsUp t (fetched before) s (done_with (plant_of model t lines) t c (first_state model t c) before) = adds_up model t lines c modest tells before s r in
      let none : count (of_priority p (λ (m : Msg). not (ok m))) (fetched before) ≡ 0 =
      none_counted p ok (fetched before) (each_fetched (λ (m : Msg). ok m ≡ true) (fetched before) (λ m there. answerable_back (length t.controllers) m (h m there))) in
      let sum = adds.counts (λ (m : Msg). not (ok m)) p in
      all_counted p ok (s.pending p) (adds.ranked p) (omega (arith, none, sum))

  -- an entry posts within, and what waits after it to be posted is within
  abbrev StepWithin : State (Body M) × Entry → Type 0
  StepWithin r = PostsWithin (length t.controllers) r.1 × AreWithin (length t.controllers) r.0.outbox

  same_some : {X : Type 0} (x y : X) → Some x ≡ Some y → x ≡ y
  same_some x y h = cc

  turn_step : (s : State (Body M)) → ((p : ℕ) → Each (λ (m : Msg). is_answerable (length t.controllers) m ≡ true) (s.pending p))
      → (r : State (Body M) × Entry) → turn (plant_of model t lines) c s ≡ Some r → StepWithin r
  unfolding turn
  turn_step s waits r h = go s.outbox (next_of s.pending) refl h
    where
      go : (box : List Msg) (o : Option Taken) → next_of s.pending ≡ o → turn_with (plant_of model t lines) c s box o ≡ Some r → StepWithin r
      go [] None e k = absurd cc
      go (m ∷ ms) o e k = absurd cc
      go [] (Some taken) e k =
          let front = (next_first s.pending taken e).front in
          let ok : is_answerable (length t.controllers) taken.message ≡ true =
          (subst (Each (λ (m : Msg). is_answerable (length t.controllers) m ≡ true)) front (waits taken.priority)).0 in
          subst StepWithin (same_some _ r k)
          (tt, turns_send_within model t c s.body taken.message asks owners below (answerable (length t.controllers) taken.message ok))

  post_step : (s : State (Body M)) → AreWithin (length t.controllers) s.outbox → (r : State (Body M) × Entry) → post c s ≡ Some r → StepWithin r
  unfolding post
  post_step s h r e = go s.outbox h e
    where
      go : (box : List Msg) → AreWithin (length t.controllers) box → post_front c s box ≡ Some r → StepWithin r
      go [] b k = absurd cc
      go (m ∷ rest) b k = subst StepWithin (same_some _ r k) (b.0, b.1)

  fetch_step : (s : State (Body M)) (m : Msg) → AreWithin (length t.controllers) s.outbox → (r : State (Body M) × Entry) → fetch s m ≡ r → StepWithin r
  unfolding fetch
  fetch_step s m h r e = subst StepWithin e (tt, h)

  step : (s next : State (Body M)) (e : Entry) → AreWithin (length t.controllers) s.outbox
      → ((p : ℕ) → Each (λ (m : Msg). is_answerable (length t.controllers) m ≡ true) (s.pending p))
      → Does (plant_of model t lines) c s e next → PostsWithin (length t.controllers) e × AreWithin (length t.controllers) next.outbox
  step s next (entry.Start who state notes) h waits d = absurd d
  step s next (entry.Fetch stamp m) h waits d = fetch_step s m h (next, entry.Fetch stamp m) d
  step s next (entry.Turn stamp from sent did notes) h waits d = turn_step s waits (next, entry.Turn stamp from sent did notes) d
  step s next (entry.Post stamp m) h waits d = post_step s h (next, entry.Post stamp m) d

  pub posts_within : (es before : List Entry) (s end : State (Body M)) → Replays (plant_of model t lines) c (first_state model t c) before s
      → Replays (plant_of model t lines) c s es end → AllAnswerable (length t.controllers) (fetched before) → AllAnswerable (length t.controllers) (fetched es)
      → AreWithin (length t.controllers) s.outbox → Each (PostsWithin (length t.controllers)) es
  posts_within [] before s end r q old new h = tt
  posts_within (e ∷ es) before s end r q old new h =
      let one = step s q.0 e h (pending_answerable before s r old) q.1 in (
        one.0,
        posts_within es (before ++ e ∷ []) q.0 end (more before e (first_state model t c) s r q.0 q.1) q.2
            (λ m there. ⊎_elim (λ a. old m a) (λ b. new m (one_fetched e es m b)) (fetched_either before e m there))
            (λ m there. new m (Contains-append_right (fetches e) (fetched es) m there)) one.1,
      )
    where
      more : (es : List Entry) (e : Entry) (s end : State (Body M)) → Replays (plant_of model t lines) c s es end → (next : State (Body M))
          → Does (plant_of model t lines) c end e next → Replays (plant_of model t lines) c s (es ++ e ∷ []) next
      more [] e s end r next d = (next, subst (λ (z : State (Body M)). Does (plant_of model t lines) c z e next) r d, refl)
      more (x ∷ es) e s end r next d = (r.0, r.1, more es e r.0 end r.2 next d)
