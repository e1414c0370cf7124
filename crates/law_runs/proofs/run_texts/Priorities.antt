-- What the parties of a run post has one of the six priorities, and so has what is fetched.
use Rattle.std.proofs.Common.{◌≡◌, ℕ, zero, suc, ◌+◌, ◌<◌, true, List, [], ◌∷◌, length, Option, Some, None, slice_get, nat_lt, nat_le, refl, arith, sym, subst, le-leb, leb-true, ◌⊎◌, inl, inr}
use Rattle.std.specs.List.{AllByRecursion, Contains}
use Rattle.std.proofs.lemmas.Bool.{cases_order, ltb-true}
use Rattle.std.proofs.lemmas.Option.{same_Some}
use Rattle.room_kinds.specs.declared.message.Msg.{Msg}
use Rattle.journal.specs.declared.entry.Entry.{Entry}
use Rattle.journal.specs.declared.entry.Entry.TheVariants as entry
use Rattle.journal.specs.declared.entry.Journals.{Journals}
use Rattle.room_wiring.specs.declared.tables.Tables.{Tables}
use Rattle.inject_reader.specs.declared.inject_lines.accepted.Line.{Line as Asked}
use Rattle.inject_reader.specs.declared.inject_lines.accepted.What.{What}
use Rattle.inject_reader.specs.declared.inject_lines.accepted.What.TheVariants as whats
use Rattle.inject_reader.specs.Fitting.{WhatFits, LinesFit}
use Rattle.actor_merge.specs.Parties.{State, Line, Plant as RunPlant, Taken, next_of, turn, turn_with, post, post_front, fetch, Does, Replays}
use Rattle.actor_duties.proofs.Each.{each_both}
use Rattle.actor_duties.proofs.FrameSends.{IsAny, any_receivers, of_all_kinds}
use Rattle.actor_world.specs.Behaviour.{Behaviour}
use Rattle.actor_world.specs.Body.{Body}
use Rattle.actor_world.specs.Turns.{treat}
use Rattle.actor_world.specs.Start.{first_state, plant_of}
use Rattle.actor_world.specs.Journals.{lines_from, lines_of}
use Rattle.chart_behaviour.specs.Asked.{AsksOnly}
use Rattle.chart_behaviour.specs.sends.Sends.{is_ranked}
use Rattle.chart_behaviour.proofs.sends.TurnSends.{HoldsOfAll, turn_sends, start_sends}
use Rattle.controller_actors.specs.Plants.{model_of}
use Rattle.controller_actors.specs.declared.plant.Plant.{Plant}
use Rattle.model_run.specs.part_posts.Items.{item_of, items_of}
use Rattle.model_run.specs.run_ends.Runs.{journal_of, IsRun}
use Rattle.law_runs.specs.Mail.{posts, posted}
use Rattle.law_runs.proofs.Named.{nothing_in, head_or_tail}
use Rattle.law_runs.proofs.Lines.{PostsLines}
use Rattle.law_runs.proofs.Party.{nothing, posted_is, replay, environment_lines}
use Rattle.law_runs.proofs.PromisesLaw.{promises}
use Rattle.law_runs.specs.run_texts.Texts.{AtSixPriorities}
use Rattle.law_runs.proofs.run_texts.Party.{did, nobody}

-- ---- what actors and services send

-- one of the six priorities is at most 5
one_of_six : (p : ℕ) → nat_lt p 6 ≡ true → nat_le p 5 ≡ true
one_of_six p h = let below = ltb-true p 6 h in le-leb p 5 (omega (arith, below))

-- a message of one of the six priorities
abbrev IsRanked : Msg → Type 0
IsRanked m = nat_le m.prio.0 5 ≡ true

-- such messages
abbrev AllRanked : List Msg → Type 0
AllRanked ms = AllByRecursion IsRanked ms

-- messages between services have priority 0, frame messages priority 3, and what an actor sends has the priority that its
-- command names
all_holds : (t : Tables) (me : ℕ) → HoldsOfAll t me IsAny IsRanked is_ranked
all_holds t me = record {
  receivers = any_receivers t;
  frame = of_all_kinds me IsAny IsRanked (λ signal source target payload. refl) (λ kind d to source target payload. refl);
  names = record {
    told = λ signal source target payload. refl;
    register = λ e name. refl;
    withdraw = λ e. refl;
    answer = λ e code h. refl;
    bound = λ source target. refl;
    ended = λ source target. refl;
  };
  sends = λ p k signal payload prio e source target. one_of_six prio.0 e;
}

module _ {M : Type 0} (model : Behaviour M) (asks : AsksOnly is_ranked model) (t : Tables) (me : ℕ) where
  treat_ranked : (b : Body M) (m : Msg) → AllRanked (treat model t me b m).sent
  treat_ranked b m = turn_sends model t me IsAny IsRanked is_ranked asks (all_holds t me) b m (λ e. tt)

  starting_ranked : AllRanked (first_state model t me).outbox
  starting_ranked = start_sends model t me IsAny IsRanked is_ranked asks (all_holds t me)

-- ---- what a controller posts

-- what an entry posts, and what waits to be posted after it
abbrev StepRanked : {B : Type 0} → State B × Entry → Type 0
StepRanked r = AllRanked (posts r.1) × AllRanked r.0.outbox

module _ {M : Type 0} (model : Behaviour M) (asks : AsksOnly is_ranked model) (t : Tables) (lines : List Line) (c : ℕ) where
  abbrev plan : RunPlant (Body M)
  plan = plant_of model t lines

  turn_ranked : (s : State (Body M)) (r : State (Body M) × Entry) → turn plan c s ≡ Some r → StepRanked r
  unfolding turn
  turn_ranked s r h = go s.outbox (next_of s.pending) h
    where
      go : (box : List Msg) (o : Option Taken) → turn_with plan c s box o ≡ Some r → StepRanked r
      go [] None k = absurd cc
      go [] (Some taken) k = subst StepRanked (same_Some _ r k) (tt, treat_ranked model asks t c s.body taken.message)
      go (m ∷ ms) o k = absurd cc

  post_ranked : (s : State (Body M)) (r : State (Body M) × Entry) → AllRanked s.outbox → post c s ≡ Some r → StepRanked r
  unfolding post
  post_ranked s r h e = go s.outbox h e
    where
      go : (box : List Msg) → AllRanked box → post_front c s box ≡ Some r → StepRanked r
      go [] k is = absurd cc
      go (m ∷ rest) k is = subst StepRanked (same_Some _ r is) ((k.0, tt), k.1)

  fetch_ranked : (s : State (Body M)) (m : Msg) (r : State (Body M) × Entry) → AllRanked s.outbox → fetch s m ≡ r → StepRanked r
  unfolding fetch
  fetch_ranked s m r h e = subst StepRanked e (tt, h)

  step_ranked : (s next : State (Body M)) (e : Entry) → Does plan c s e next → AllRanked s.outbox
      → AllRanked (posts e) × AllRanked next.outbox
  step_ranked s next (entry.Start who state ns) d h = absurd d
  step_ranked s next (entry.Fetch stamp m) d h = fetch_ranked s m (next, entry.Fetch stamp m) h d
  step_ranked s next (entry.Turn stamp from sent what ns) d h = turn_ranked s (next, entry.Turn stamp from sent what ns) d
  step_ranked s next (entry.Post stamp m) d h = post_ranked s (next, entry.Post stamp m) h d

  replay_ranked : (es : List Entry) (s end : State (Body M)) → Replays plan c s es end → AllRanked s.outbox → AllRanked (posted es)
  replay_ranked [] s end r h = tt
  replay_ranked (e ∷ es) s end r h =
      let step = step_ranked s r.0 e r.1 h in each_both IsRanked (posts e) (posted es) step.0 (replay_ranked es r.0 end r.2 step.1)

-- ---- what the environment posts

-- lines of which each has one of the six priorities
abbrev LinesRanked : List Line → Type 0
LinesRanked lines = AllByRecursion (λ (l : Line). IsRanked l.message) lines

line_at : (ls : List Line) (i : ℕ) (l : Line) → LinesRanked ls → slice_get ls i ≡ Some l → IsRanked l.message
line_at [] i l h e = absurd cc
line_at (x ∷ ls) zero l h e = subst (λ (z : Line). IsRanked z.message) (same_Some x l e) h.0
line_at (x ∷ ls) (suc i) l h e = line_at ls i l h.1 e

lines_ranked : (t : Tables) (lines : List Asked) (part : ℕ) → LinesFit t lines → LinesRanked (lines_from part (items_of t lines))
lines_ranked t [] part h = tt
lines_ranked t (x ∷ lines) part h = go x.what h.0 (λ p. lines_ranked t lines p h.1)
  where
    go : (w : What) → WhatFits t w → ((p : ℕ) → LinesRanked (lines_from p (items_of t lines)))
        → LinesRanked (lines_from part (item_of t x.number w ∷ items_of t lines))
    go whats.Settle f rest = rest (part + 1)
    go (whats.Advance time) f rest = rest (part + 1)
    go (whats.Message target signal payload prio) f rest = (le-leb prio.0 5 f.most, rest part)

environment_ranked : {B : Type 0} (plant : RunPlant B) (es : List Entry) (at end : ℕ) → LinesRanked plant.lines
    → PostsLines plant at es end → AllRanked (posted es)
environment_ranked plant [] at end h p = tt
environment_ranked plant (e ∷ es) at end h p =
    let own : AllRanked (posts e) = subst (λ (z : Entry). AllRanked (posts z)) (sym p.0.is) (line_at plant.lines at p.0.line h p.0.there, tt) in
    each_both IsRanked (posts e) (posted es) own (environment_ranked plant es (at + 1) end h p.1)

-- ---- a whole run

ranked_in : (ms : List Msg) (m : Msg) → AllRanked ms → Contains ms m → IsRanked m
ranked_in [] m h c = absurd (nothing_in m c)
ranked_in (y ∷ ms) m h c = go (head_or_tail y ms m c) (λ k. ranked_in ms m h.1 k)
  where
    go : (y ≡ m) ⊎ Contains ms m → (Contains ms m → IsRanked m) → IsRanked m
    go (inl same) rest = subst IsRanked same h.0
    go (inr there) rest = rest there

module _ (plant : Plant) (lines : List Asked) (fuel : ℕ) (j : Journals) (run : IsRun plant lines fuel j)
    (asks : AsksOnly is_ranked (model_of plant)) (fit : LinesFit plant.wiring lines) where
  abbrev n : ℕ
  n = length plant.wiring.controllers

  happened_ranked : (party : ℕ) → AllRanked (posted (did plant lines fuel j run party))
  happened_ranked party = go (cases_order party n)
    where
      go : (party ≡ n) ⊎ ((party < n) ⊎ (n < party)) → AllRanked (posted (did plant lines fuel j run party))
      go (inl is) =
          subst (λ (z : ℕ). AllRanked (posted (did plant lines fuel j run z))) (sym is)
          (environment_ranked (plant_of (model_of plant) plant.wiring (lines_of (items_of plant.wiring lines))) (did plant lines fuel j run n) 0 run.world.environment.posted
          (lines_ranked plant.wiring lines 1 fit)
          (environment_lines (model_of plant) plant.wiring (lines_of (items_of plant.wiring lines)) fuel (journal_of j) j.left run.world run.lawful (nobody plant lines fuel j run)))
      go (inr (inl below)) =
          replay_ranked (model_of plant) asks plant.wiring (lines_of (items_of plant.wiring lines)) party (did plant lines fuel j run party)
          (first_state (model_of plant) plant.wiring party) (run.lawful.run.end.controllers party)
          (replay (model_of plant) plant.wiring (lines_of (items_of plant.wiring lines)) fuel (journal_of j) j.left run.world run.lawful (nobody plant lines fuel j run) party below)
          (starting_ranked (model_of plant) asks plant.wiring party)
      go (inr (inr above)) =
          subst (λ (z : List Entry). AllRanked (posted z))
          (sym (nothing (model_of plant) plant.wiring (lines_of (items_of plant.wiring lines)) fuel (journal_of j) j.left run.world run.lawful (nobody plant lines fuel j run) party above)) tt

  posted_ranked : (party : ℕ) → AllRanked (posted (journal_of j party))
  posted_ranked party =
      subst AllRanked
      (sym (posted_is (model_of plant) plant.wiring (lines_of (items_of plant.wiring lines)) fuel (journal_of j) j.left run.world run.lawful (nobody plant lines fuel j run) party))
      (happened_ranked party)

  pub at_six : AtSixPriorities j
  at_six party m h =
      let there = ((promises plant lines fuel j run).mail.fetched_was_posted party m h).1 in
      leb-true m.prio.0 5 (ranked_in (posted (journal_of j m.from.0)) m (posted_ranked m.from.0) there)
