-- What a run has when all is quiet is the front of what it has in the end.
-- Of a run over lines, the part up to the environment's next post is cut off. If that post begins a part, all was quiet
-- before it; so a run that is done, with the same posts and in front of it, has the same entries.
use Rattle.std.proofs.Common.{◌≡◌, ℕ, ◌<◌, ◌≤◌, true, List, [], ◌∷◌, ◌++◌, length, Option, Some, None, refl, sym, ap, ◌∙◌, subst, arith, append-nil, ◌⊎◌, inl, inr}
use Rattle.std.proofs.lemmas.Bool.{cases_eq}
use Rattle.std.proofs.lemmas.List.{length-append}
use Rattle.room_kinds.specs.declared.message.Msg.{Msg}
use Rattle.journal.specs.declared.entry.Entry.{Entry}
use Rattle.journal.specs.declared.entry.Entry.TheVariants as entry
use Rattle.actor_merge.specs.Mail.{Lane, stamp_of, taken, given}
use Rattle.actor_merge.specs.Parties.{State, Line as Posted, Plant as RunPlant, Taken, next_of, turn, turn_with, begins, Does, Replays}
use Rattle.actor_merge.specs.World.{World, Placed, start, Runs, IsQuiet}
use Rattle.actor_merge.specs.Merge.{IsBefore, IsBeforeAll, InOrder, entries_of, Rising, Projects}
use Rattle.actor_merge.proofs.Back.{run_projects}
use Rattle.actor_merge.proofs.Extend.{entries_append}
use Rattle.actor_world.specs.Body.{Body}
use Rattle.chart_behaviour.specs.ModelCharts.{Actor}
use Rattle.controller_actors.specs.declared.plant.Plant.{Plant}
use Rattle.controller.specs.Controllers.{run_plant}
use Rattle.law_merges.specs.Merges.{Rise}
use Rattle.law_merges.specs.Cuts.{BeginsWith, AreCuts}
use Rattle.law_merges.proofs.One.{one_merge}
use Rattle.law_merges.proofs.Parties.{before_first}
use Rattle.law_merges.proofs.Cuts.{holds_all, one_cut}
use Rattle.room_timer.specs.Expansion.{cut_at}
use Rattle.timed_runs.proofs.Points.{Cut, own_first, other_first, cut_whole, Stops, empty, at_own, cut_stops, cut_count}
use Rattle.timed_runs.proofs.Runs.{Split, split, posted_count}

-- ---- lists of which one begins with the other

pub nothing_more : (a more : List Entry) → length (a ++ more) ≤ length a → more ≡ []
nothing_more a [] h = refl
nothing_more a (e ∷ more) h = absurd (omega (arith, h, length-append a (e ∷ more)))

pub both_ways : (a b : List Entry) → BeginsWith a b → BeginsWith b a → a ≡ b
both_ways a b h k =
    let none : h.0 ≡ [] = nothing_more b h.0 (omega (arith, ap length h.1, ap length k.1, length-append a k.0)) in
    h.1 ∙ ap (λ (z : List Entry). b ++ z) none ∙ append-nil b

more_first : (e f : Entry) (a b : List Entry) → e ≡ f → BeginsWith a b → BeginsWith (e ∷ a) (f ∷ b)
more_first e f a b same h = (h.0, ap (λ (z : Entry). z ∷ a) same ∙ ap (λ (z : List Entry). f ∷ z) h.1)

two_fronts : (a b x y : List Entry) → a ++ x ≡ b ++ y → BeginsWith a b ⊎ BeginsWith b a
two_fronts [] b x y h = inr (b, refl)
two_fronts (e ∷ a) [] x y h = inl (e ∷ a, refl)
two_fronts (e ∷ a) (f ∷ b) x y h =
    let same : e ≡ f = cc in
    let rest : a ++ x ≡ b ++ y = cc in
    elim (two_fronts a b x y rest) [
      | inl k ↦ inl (more_first e f a b same k)
      | inr k ↦ inr (more_first f e b a (sym same) k)
    ]

pub same_front : (a b x y : List Entry) → a ++ x ≡ b ++ y → length a ≡ length b → a ≡ b
same_front [] [] x y h k = refl
same_front [] (f ∷ b) x y h k = absurd (omega (arith, k))
same_front (e ∷ a) [] x y h k = absurd (omega (arith, k))
same_front (e ∷ a) (f ∷ b) x y h k =
    let same : e ≡ f = cc in
    let rest : a ++ x ≡ b ++ y = cc in
    ap (λ (z : Entry). z ∷ a) same ∙ ap (λ (z : List Entry). f ∷ z) (same_front a b x y rest (omega (arith, k)))

-- ---- order

before_front : (x : Placed) (a b : List Placed) → IsBeforeAll x (a ++ b) → IsBeforeAll x a
before_front x [] b h = tt
before_front x (y ∷ a) b h = (h.0, before_front x a b h.1)

pub order_front : (a b : List Placed) → InOrder (a ++ b) → InOrder a
order_front [] b h = tt
order_front (x ∷ a) b h = (before_front x a b h.0, order_front a b h.1)

pub order_back : (a b : List Placed) → InOrder (a ++ b) → InOrder b
order_back [] b h = h
order_back (x ∷ a) b h = order_back a b h.1

rise_from : (k : ℕ) (es : List Entry) → ((f : Entry) (rest : List Entry) → es ≡ f ∷ rest → k < stamp_of f) → Rise es → Rising k es
rise_from k [] h r = tt
rise_from k (f ∷ rest) h r = (h f rest refl, r)

-- in order, the stamps of each party rise
pub order_rises : (p : ℕ) (xs : List Placed) → InOrder xs → Rise (entries_of p xs)
order_rises p [] h = tt
order_rises p (x ∷ xs) h = go (cases_eq x.party p) (order_rises p xs h.1)
  where
    above : x.party ≡ p → (f : Entry) → IsBefore x (record { party = p; entry = f }) → stamp_of x.entry < stamp_of f
    above own f (inl less) = less
    above own f (inr level) = absurd (omega (arith, own, level.1))

    go : (x.party ≡ p) ⊎ (x.party ≡ p → ⊥) → Rise (entries_of p xs) → Rise (entries_of p (x ∷ xs))
    go (inl own) rest =
        subst Rise (sym (own_first p x xs own))
        (rise_from (stamp_of x.entry) (entries_of p xs) (λ f more is. above own f (before_first x p f more xs h.0 is)) rest)
    go (inr apart) rest = subst Rise (sym (other_first p x xs apart)) rest

-- ---- the same entries over other lines

module _ {B : Type 0} (plant : RunPlant B) (lines : List Posted) where
  same_turn : (c : ℕ) (s : State B) → turn (record plant { lines = lines }) c s ≡ turn plant c s
  unfolding turn
  same_turn c s = go s.outbox (next_of s.pending)
    where
      go : (box : List Msg) (next : Option Taken) → turn_with (record plant { lines = lines }) c s box next ≡ turn_with plant c s box next
      go [] None = refl
      go [] (Some t) = refl
      go (m ∷ ms) next = refl

  same_does : (c : ℕ) (s : State B) (e : Entry) (next : State B) → Does (record plant { lines = lines }) c s e next → Does plant c s e next
  same_does c s (entry.Start who state notes) next h = h
  same_does c s (entry.Fetch stamp m) next h = h
  same_does c s (entry.Turn stamp from sent did notes) next h = sym (same_turn c s) ∙ h
  same_does c s (entry.Post stamp m) next h = h

  same_replay : (c : ℕ) (s : State B) (es : List Entry) (end : State B) → Replays (record plant { lines = lines }) c s es end → Replays plant c s es end
  same_replay c s [] end h = h
  same_replay c s (e ∷ es) end h = (h.0, same_does c s e h.0 h.1, same_replay c h.0 es end h.2)

-- the state in an outcome
state_or : {B : Type 0} → State B → Option (State B × Entry) → State B
state_or s None = s
state_or s (Some r) = r.0

module _ {B : Type 0} (plant : RunPlant B) where
  one_does : (c : ℕ) (s : State B) (e : Entry) (next other : State B) → Does plant c s e next → Does plant c s e other → next ≡ other
  unfolding state_or
  one_does c s (entry.Start who state notes) next other h k = absurd h
  one_does c s (entry.Fetch stamp m) next other h k = ap (λ z. z.0) (sym h ∙ k)
  one_does c s (entry.Turn stamp from sent did notes) next other h k = ap (state_or s) (sym h ∙ k)
  one_does c s (entry.Post stamp m) next other h k = ap (state_or s) (sym h ∙ k)

  one_replay : (c : ℕ) (s : State B) (es : List Entry) (end other : State B) → Replays plant c s es end → Replays plant c s es other → end ≡ other
  one_replay c s [] end other h k = h ∙ sym k
  one_replay c s (e ∷ es) end other h k =
      one_replay c h.0 es end other h.2
      (subst (λ (z : State B). Replays plant c z es other) (one_does c s e k.0 h.0 k.1 h.1) k.2)

cancel : {A : Type 0} (t a : List A) → t ++ a ≡ t → a ≡ []
cancel [] a h = h
cancel {A} (x ∷ t) a h = let rest : t ++ a ≡ t = cc in cancel t a rest

-- a world to which the same entries lead over other lines is as quiet
pub quiet_too : {B : Type 0} (plant : RunPlant B) (lines : List Posted) (xs : List Placed) (end other : World B)
    → Runs plant (start plant) xs end → IsQuiet plant end → Runs (record plant { lines = lines }) (start plant) xs other → IsQuiet (record plant { lines = lines }) other
quiet_too {B} plant lines xs end other run quiet again = record {
  lanes = empty_lane;
  pending = λ c p below. ap (λ (s : State B). s.pending p) (state c below) ∙ quiet.pending c p below;
  outbox = λ c below. ap (λ (s : State B). s.outbox) (state c below) ∙ quiet.outbox c below;
}
  where
    first : Projects plant (start plant) xs end
    first = run_projects plant (start plant) xs end run

    second : Projects (record plant { lines = lines }) (start plant) xs other
    second = run_projects (record plant { lines = lines }) (start plant) xs other again

    state : (c : ℕ) → c < plant.controllers → other.controllers c ≡ end.controllers c
    state c below =
        one_replay plant c (plant.start c) (entries_of c xs) (other.controllers c) (end.controllers c)
        (same_replay plant lines c (plant.start c) (entries_of c xs) (other.controllers c) (second.controllers c below)) (first.controllers c below)

    empty_lane : (l : Lane) → other.lanes l ≡ []
    empty_lane l =
        let took : List Msg = taken l l.receiver (entries_of l.receiver xs) in
        let gave : given l l.sender (entries_of l.sender xs) ≡ took =
        first.lanes l ∙ ap (λ (z : List Msg). took ++ z) (quiet.lanes l) ∙ append-nil took in
        cancel took (other.lanes l) (sym (second.lanes l) ∙ gave)

-- ---- the front

module _ (plant : Plant) (lines others : List Posted) (whole done : List Placed) (end quiet_end : World (Body Actor))
    (run : Runs (run_plant plant lines) (start (run_plant plant lines)) whole end)
    (over : Runs (run_plant plant others) (start (run_plant plant others)) done quiet_end) (quiet : IsQuiet (run_plant plant others) quiet_end)
    (ordered : InOrder whole) (in_order : InOrder done) (grew : (p : ℕ) → BeginsWith (entries_of p whole) (entries_of p done)) (posts : ℕ)
    (count : length (entries_of (length plant.wiring.controllers) done) ≡ posts)
    (part : posts < length (entries_of (length plant.wiring.controllers) whole) → begins (run_plant plant lines) posts ≡ true) where
  abbrev n : ℕ
  n = length plant.wiring.controllers

  abbrev cut : Cut
  cut = cut_at (length plant.wiring.controllers) posts whole

  both : whole ≡ cut.0 ++ cut.1
  both = sym (cut_whole (length plant.wiring.controllers) posts whole)

  entries_both : (p : ℕ) → entries_of p whole ≡ entries_of p (cut_at (length plant.wiring.controllers) posts whole).0 ++ entries_of p (cut_at (length plant.wiring.controllers) posts whole).1
  entries_both p =
      ap (entries_of p) both ∙ entries_append p (cut_at (length plant.wiring.controllers) posts whole).0 (cut_at (length plant.wiring.controllers) posts whole).1

  enough : posts ≤ length (entries_of (length plant.wiring.controllers) whole)
  enough =
      omega (
        arith,
        count,
        ap length (grew (length plant.wiring.controllers)).1,
        length-append (entries_of (length plant.wiring.controllers) done) (grew (length plant.wiring.controllers)).0,
      )

  front_count : length (entries_of (length plant.wiring.controllers) (cut_at (length plant.wiring.controllers) posts whole).0) ≡ posts
  front_count = cut_count (length plant.wiring.controllers) posts whole enough

  same_posts : entries_of (length plant.wiring.controllers) done ≡ entries_of (length plant.wiring.controllers) (cut_at (length plant.wiring.controllers) posts whole).0
  same_posts =
      same_front (entries_of (length plant.wiring.controllers) done) (entries_of (length plant.wiring.controllers) (cut_at (length plant.wiring.controllers) posts whole).0)
      (grew (length plant.wiring.controllers)).0 (entries_of (length plant.wiring.controllers) (cut_at (length plant.wiring.controllers) posts whole).1)
      (sym (grew (length plant.wiring.controllers)).1 ∙ entries_both (length plant.wiring.controllers)) (count ∙ sym front_count)

  are_cuts : AreCuts (run_plant plant others) done (cut_at (length plant.wiring.controllers) posts whole).0
  are_cuts c below =
      two_fronts (entries_of c done) (entries_of c (cut_at (length plant.wiring.controllers) posts whole).0) (grew c).0
      (entries_of c (cut_at (length plant.wiring.controllers) posts whole).1) (sym (grew c).1 ∙ entries_both c)

  -- where the environment posts no more, the run is done
  whole_is : (cut_at (length plant.wiring.controllers) posts whole).1 ≡ [] → whole ≡ done
  whole_is none = one_merge whole done ordered in_order (λ p. both_ways (entries_of p whole) (entries_of p done) (grew p) (holds p))
    where
      is_front : whole ≡ (cut_at (length plant.wiring.controllers) posts whole).0
      is_front =
          both ∙ ap (λ (z : List Placed). (cut_at (length plant.wiring.controllers) posts whole).0 ++ z) none
          ∙ append-nil (cut_at (length plant.wiring.controllers) posts whole).0

      all_posts : entries_of (length plant.wiring.controllers) done ≡ entries_of (length plant.wiring.controllers) whole
      all_posts = same_posts ∙ ap (entries_of (length plant.wiring.controllers)) (sym is_front)

      holds : (p : ℕ) → BeginsWith (entries_of p done) (entries_of p whole)
      holds p =
          holds_all (run_plant plant others) lines done whole quiet_end end over run (λ c below. inr (grew c)) quiet
          ([], all_posts ∙ sym (append-nil (entries_of (length plant.wiring.controllers) whole))) p

  -- where it posts, all was quiet before
  front_quiet : (x : Placed) (xs : List Placed) → x.party ≡ length plant.wiring.controllers → (cut_at (length plant.wiring.controllers) posts whole).1 ≡ x ∷ xs
      → done ≡ (cut_at (length plant.wiring.controllers) posts whole).0
  front_quiet x xs own is =
      one_cut (run_plant plant others) lines done (cut_at (length plant.wiring.controllers) posts whole).0 quiet_end parts.mid over parts.first are_cuts quiet
      (record { lanes = still.lanes; pending = still.pending; outbox = still.outbox }) same_posts in_order
      (order_front (cut_at (length plant.wiring.controllers) posts whole).0 (x ∷ xs) (subst InOrder as_parts ordered))
    where
      as_parts : whole ≡ (cut_at (length plant.wiring.controllers) posts whole).0 ++ (x ∷ xs)
      as_parts = both ∙ ap (λ (z : List Placed). (cut_at (length plant.wiring.controllers) posts whole).0 ++ z) is

      parts : Split (run_plant plant lines) (start (run_plant plant lines)) (cut_at (length plant.wiring.controllers) posts whole).0 (x ∷ xs) end
      parts = split (run_plant plant lines) (start (run_plant plant lines)) (cut_at (length plant.wiring.controllers) posts whole).0 (x ∷ xs) end
          (subst (λ (z : List Placed). Runs (run_plant plant lines) (start (run_plant plant lines)) z end) as_parts run)

      posted : parts.mid.environment.posted ≡ posts
      posted =
          let here = posted_count (run_plant plant lines) (start (run_plant plant lines)) (cut_at (length plant.wiring.controllers) posts whole).0 parts.mid parts.first in
          omega (arith, here, front_count)

      more : posts < length (entries_of (length plant.wiring.controllers) whole)
      more =
          let entries = entries_both (length plant.wiring.controllers) in
          let behind : entries_of (length plant.wiring.controllers) (cut_at (length plant.wiring.controllers) posts whole).1 ≡ x.entry ∷ entries_of (length plant.wiring.controllers) xs =
          ap (entries_of (length plant.wiring.controllers)) is ∙ own_first (length plant.wiring.controllers) x xs own in
          omega (
            arith,
            front_count,
            ap length entries,
            ap length behind,
            length-append (entries_of (length plant.wiring.controllers) (cut_at (length plant.wiring.controllers) posts whole).0) (entries_of (length plant.wiring.controllers) (cut_at (length plant.wiring.controllers) posts whole).1),
          )

      still : IsQuiet (run_plant plant lines) parts.mid
      still = parts.second.1 own (ap (begins (run_plant plant lines)) posted ∙ part more)

  pub front_is : (cut_at (length plant.wiring.controllers) posts whole).0 ≡ done
  front_is = go (cut_at (length plant.wiring.controllers) posts whole).1 refl (cut_stops (length plant.wiring.controllers) posts whole)
    where
      go : (back : List Placed) → (cut_at (length plant.wiring.controllers) posts whole).1 ≡ back → Stops (length plant.wiring.controllers) back
          → (cut_at (length plant.wiring.controllers) posts whole).0 ≡ done
      go back is empty =
          sym (append-nil (cut_at (length plant.wiring.controllers) posts whole).0)
          ∙ ap (λ (z : List Placed). (cut_at (length plant.wiring.controllers) posts whole).0 ++ z) (sym is) ∙ sym both ∙ whole_is is
      go back is (at_own x xs own) = sym (front_quiet x xs own is)

  -- where it posts no more, the run's end is quiet
  pub end_is_quiet : (cut_at (length plant.wiring.controllers) posts whole).1 ≡ [] → IsQuiet (run_plant plant lines) end
  end_is_quiet none =
      quiet_too (run_plant plant others) lines done quiet_end end over quiet
      (subst (λ (z : List Placed). Runs (run_plant plant lines) (start (run_plant plant lines)) z end) (whole_is none) run)
