-- A run ends: with each round a step fewer is left. In a round some controller takes a turn, which its fuel pays
-- for, or all are at rest after it; and before a round a part may begin, of which there are so many at most.
use Rattle.std.proofs.Common.{◌≡◌, ℕ, zero, suc, ◌+◌, ◌-◌, ◌*◌, ◌^◌, ◌<◌, ◌≤◌, ◌==◌, nat_le, ◌&&◌, ◌||◌, not, Bool, true, false, if◌then◌else◌, List, [], ◌∷◌, length, slice_get, Some, refl, sym, ap, ◌∙◌, subst, arith, ◌⊎◌, inl, inr}
use Rattle.std.specs.List.{list_all, list_any}
use Rattle.std.proofs.lemmas.Bool.{cases_Bool, cases_lt, le-leb}
use Rattle.std.proofs.lemmas.Option.{slice_get_within}
use Rattle.room_kinds.specs.declared.message.Msg.{Msg}
use Rattle.inject_reader.specs.declared.inject_lines.accepted.Line.{Line}
use Rattle.mail_core.specs.EndLog.{EndLog}
use Rattle.controller_mail.specs.MailState.{EnvironmentState, has_messages}
use Rattle.controller_actors.specs.declared.plant.Plant.{Plant}
use Rattle.controller.specs.View.{Controller}
use Rattle.controller.proofs.Standing.{some_at}
use Rattle.model_run.specs.declared.run_loop.state.Run.{Run}
use Rattle.model_run.specs.joined_round.Joined.{AllStand, Joined, StandsStill, RoundDone}
use Rattle.model_run.specs.run_ends.Ends.{waits}
use Rattle.model_run.specs.run_loop.Plays.{rests}
use Rattle.model_run.specs.run_loop.Runs.{StandsBetween, parts_left, RoundBegins}
use Rattle.model_run.specs.run_loop.Runs.RoundBegins.{goes_on, part_begins}
use Rattle.model_run.proofs.run_worker.Counting.{turns_grow}

-- the turns for which these controllers have fuel
pub turns_left : ℕ → List Controller → ℕ
turns_left fuel [] = 0
turns_left fuel (k ∷ ks) = (fuel - k.mail.turns) + turns_left fuel ks

-- while somebody isn't at rest, a round more may be needed
abbrev pub busy : ℕ → List Controller → ℕ
busy fuel ks = if list_all (rests fuel) ks then 0 else 1

abbrev pub steps_left : ℕ → Run → ℕ
steps_left fuel run = 2 * (parts_left run + turns_left fuel run.controllers.items) + busy fuel run.controllers.items

-- what a round makes of a controller: it took a turn for which it had fuel, or is at rest
abbrev Moved : ℕ → Controller → Controller → Type 0
Moved fuel k k' = (fuel - k'.mail.turns < fuel - k.mail.turns) ⊎ ((k'.mail.turns ≡ k.mail.turns) × (rests fuel k' ≡ true))

both : (a b : Bool) → a ≡ true → b ≡ true → (a && b) ≡ true
both true b h e = e
both false b h e = absurd cc

either_left : (a b : Bool) → a ≡ true → (a || b) ≡ true
either_left true b h = refl
either_left false b h = absurd cc

either_right : (a b : Bool) → b ≡ true → (a || b) ≡ true
either_right true b h = refl
either_right false b h = h

empty_is : {X : Type 0} (xs : List X) → xs ≡ [] → (length xs == 0) ≡ true
empty_is xs e = ap (λ (z : List _). length z == 0) e

-- a controller that stands still, and has posted all, is at rest
still_rests : (fuel : ℕ) (old new : Controller) → old.fuel ≡ fuel → old.mail.outbox ≡ [] → StandsStill old new → rests fuel new ≡ true
still_rests fuel old new same posted s =
    subst (λ (z : Controller). rests fuel z ≡ true) (sym s.same)
    (both (length old.mail.outbox == 0) (not (waits old) || nat_le fuel old.mail.turns) (empty_is old.mail.outbox posted)
    (elim s.why [
      | inl none ↦ either_left (not (waits old)) (nat_le fuel old.mail.turns) (ap not none)
      | inr spent ↦ either_right (not (waits old)) (nat_le fuel old.mail.turns) (le-leb fuel old.mail.turns (omega (arith, spent, same)))
    ]))

module _ (plant : Plant) (fuel : ℕ) where
  joined_moved : (k k' : Controller) (log log' : EndLog) (left : List Msg) → k.fuel ≡ fuel → k.mail.turns ≤ fuel → Joined plant k k' log log' left → Moved fuel k k'
  joined_moved k k' log log' left fuel_is fuelled j =
      let worked : k.mail.turns ≤ j.worked.mail.turns = turns_grow plant k j.worked j.works.did.entries j.works.did.goes in
      let within : j.worked.mail.turns ≤ k.fuel = j.works.did.fuelled (omega (arith, fuel_is, fuelled)) in
      let fetched : j.fetched.mail.turns ≡ j.worked.mail.turns = j.fetches.turns in
      let one : j.worked.fuel ≡ k.fuel = j.works.did.goes.fuel in
      let two : j.fetched.fuel ≡ j.worked.fuel = j.fetches.goes.fuel in
      let last : k'.mail.turns ≤ j.fetched.fuel = j.turn.fuelled (omega (arith, within, fetched, one, two)) in
      let posted = j.fetches.outbox ∙ j.works.posted in
      elim j.turn.went [
        | inl took ↦ inl (omega (arith, took, worked, fetched, one, two, last, fuel_is))
        | inr still ↦
            let same : k'.mail.turns ≡ j.fetched.mail.turns = ap (λ (z : Controller). z.mail.turns) still.same in
            elim (cases_lt k.mail.turns j.worked.mail.turns) [
              | inl more ↦ inl (omega (arith, more, within, fetched, same, fuel_is))
              | inr none ↦ inr (omega (arith, none, worked, fetched, same), still_rests fuel j.fetched k' (two ∙ one ∙ fuel_is) posted still)
            ]
      ]

  -- what became of all
  abbrev AllMoved : List Controller → List Controller → Type 0
  AllMoved ks news = (c : ℕ) (k : Controller) → slice_get ks c ≡ Some k → (k' : Controller) × (slice_get news c ≡ Some k') × Moved fuel k k'

  -- a turn fewer is left, or all are at rest
  abbrev Sooner : List Controller → List Controller → Type 0
  Sooner ks news = (turns_left fuel news < turns_left fuel ks) ⊎ ((turns_left fuel news ≡ turns_left fuel ks) × (list_all (rests fuel) news ≡ true))

  first_is : (x y : Controller) → Some x ≡ Some y → x ≡ y
  first_is x y h = cc

  moved_more : (k k' : Controller) (ks news : List Controller) → Moved fuel k k' → Sooner ks news → Sooner (k ∷ ks) (k' ∷ news)
  unfolding turns_left
  moved_more k k' ks news (inl a) (inl b) = inl (omega (arith, a, b))
  moved_more k k' ks news (inl a) (inr b) = inl (omega (arith, a, b.0))
  moved_more k k' ks news (inr a) (inl b) = inl (let same : fuel - k'.mail.turns ≡ fuel - k.mail.turns = ap (λ (n : ℕ). fuel - n) a.0 in omega (arith, same, b))
  moved_more k k' ks news (inr a) (inr b) =
      let same : fuel - k'.mail.turns ≡ fuel - k.mail.turns = ap (λ (n : ℕ). fuel - n) a.0 in
      inr (omega (arith, same, b.0), both (rests fuel k') (list_all (rests fuel) news) a.1 b.1)

  all_moved : (ks news : List Controller) → length news ≡ length ks → AllMoved ks news → Sooner ks news
  all_moved [] [] n m = inr (refl, refl)
  all_moved [] (k' ∷ news) n m = absurd (omega (arith, n))
  all_moved (k ∷ ks) [] n m = absurd (omega (arith, n))
  all_moved (k ∷ ks) (k' ∷ news) n m =
      let first = m zero k refl in
      let here : Moved fuel k k' = subst (λ (z : Controller). Moved fuel k z) (sym (first_is k' first.0 first.1)) first.2 in
      moved_more k k' ks news here (all_moved ks news (omega (arith, n)) (λ c x at. m (suc c) x at))

  -- after a round
  round_sooner : (ks news : List Controller) (logs logs' : List EndLog) (answer : List (List Msg)) → AllStand plant ks
      → ((c : ℕ) (k : Controller) → slice_get ks c ≡ Some k → k.fuel ≡ fuel) → ((c : ℕ) (k : Controller) → slice_get ks c ≡ Some k → k.mail.turns ≤ fuel)
      → RoundDone plant ks news logs logs' answer → Sooner ks news
  round_sooner ks news logs logs' answer stand fuel_is fuelled done =
      all_moved ks news done.count
      (λ c k at.
      let inside : c < length plant.wiring.controllers = omega (arith, stand.count, slice_get_within ks c k at) in
      let e = done.each c inside k at in
      (e.0, e.1, joined_moved k e.0 _ _ _ (fuel_is c k at) (fuelled c k at) e.2))

  -- what is known of controllers between two rounds
  record AreFuelled (ks : List Controller) : Type 0 where
    stand : AllStand plant ks
    fuel_is : (c : ℕ) (k : Controller) → slice_get ks c ≡ Some k → k.fuel ≡ fuel
    fuelled : (c : ℕ) (k : Controller) → slice_get ks c ≡ Some k → k.mail.turns ≤ fuel

  are_fuelled : (given part : List Line) (run : Run) → StandsBetween plant given part fuel run → AreFuelled run.controllers.items
  are_fuelled given part run s = elim (cases_Bool run.in_part) [
    | inl in_part ↦ let f = (s.within in_part).so_far in record { stand = f.stand; fuel_is = f.fuel_is; fuelled = f.fuelled }
    | inr before ↦ let f = (s.before before).so_far in record { stand = f.stand; fuel_is = f.fuel_is; fuelled = f.fuelled }
  ]

  busy_one : (ks : List Controller) → list_all (rests fuel) ks ≡ false → busy fuel ks ≡ 1
  busy_one ks e = ap (λ (b : Bool). if b then 0 else 1) e

  busy_none : (ks : List Controller) → list_all (rests fuel) ks ≡ true → busy fuel ks ≡ 0
  busy_none ks e = ap (λ (b : Bool). if b then 0 else 1) e

  busy_low : (b : Bool) → (if b then 0 else 1) ≤ 1
  busy_low true = omega arith
  busy_low false = omega arith

  -- the steps of a run whose controllers are these
  abbrev with_controllers : ℕ → List Controller → ℕ
  with_controllers parts ks = 2 * (parts + turns_left fuel ks) + busy fuel ks

  busy_sooner : (parts : ℕ) (ks news : List Controller) → list_all (rests fuel) ks ≡ false → Sooner ks news → with_controllers parts news < with_controllers parts ks
  busy_sooner parts ks news e (inl fewer) = omega (arith, fewer, busy_one ks e, busy_low (list_all (rests fuel) news))
  busy_sooner parts ks news e (inr same) = omega (arith, same.0, busy_one ks e, busy_none news same.1)

  no_more : (ks news : List Controller) → Sooner ks news → turns_left fuel news ≤ turns_left fuel ks
  no_more ks news (inl fewer) = omega (arith, fewer)
  no_more ks news (inr same) = omega (arith, same.0)

  -- a part fewer is left
  part_sooner : (parts parts' : ℕ) (ks news : List Controller) → parts' < parts → Sooner ks news → with_controllers parts' news < with_controllers parts ks
  part_sooner parts parts' ks news h s = omega (arith, h, no_more ks news s, busy_low (list_all (rests fuel) news))

  -- a step fewer is left after a round
  pub steps_fall : (given part : List Line) (old mid : Run) (news : List Controller) (logs logs' : List EndLog) (answer : List (List Msg))
      → StandsBetween plant given part fuel old → RoundBegins fuel old mid → RoundDone plant mid.controllers.items news logs logs' answer
      → 2 * (parts_left mid + turns_left fuel news) + busy fuel news < steps_left fuel old
  steps_fall given part old mid news logs logs' answer s (goes_on awake same) done =
      let f = are_fuelled given part old s in
      let ks = old.controllers.items in
      let here : RoundDone plant ks news logs logs' answer = subst (λ (z : Run). RoundDone plant z.controllers.items news logs logs' answer) same done in
      let parts : parts_left mid ≡ parts_left old = ap (λ (z : Run). parts_left z) same in
      let falls = busy_sooner (parts_left old) ks news awake (round_sooner ks news logs logs' answer f.stand f.fuel_is f.fuelled here) in
      subst (λ (n : ℕ). with_controllers n news < steps_left fuel old) (sym parts) falls
  steps_fall given part old mid news logs logs' answer s (part_begins same fewer) done =
      let f = are_fuelled given part old s in
      let ks = old.controllers.items in
      let here : RoundDone plant ks news logs logs' answer = subst (λ (z : List Controller). RoundDone plant z news logs logs' answer) same done in
      part_sooner (parts_left old) (parts_left mid) ks news fewer (round_sooner ks news logs logs' answer f.stand f.fuel_is f.fuelled here)
