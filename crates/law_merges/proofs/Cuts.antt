-- A run to a quiet world has all that happens in another run of which it is a cut.
-- Event by event of the other run: as long as all that has happened there is in the first run, the next
-- event is in it, too. A controller whose entries there are all those of the first run is in the state in
-- which the first run ends, so nothing waits in it; and its lanes are empty, since no more was given to
-- them than in the first run, where all of that was taken.
use Rattle.std.proofs.Common.{◌≡◌, ℕ, zero, suc, ◌+◌, ◌<◌, ◌≤◌, List, [], ◌∷◌, ◌++◌, drop, length, Option, Some, None, refl, sym, ap, ◌∙◌, subst, append-nil, append_assoc, length-append, arith, ◌⊎◌, inl, inr}
use Rattle.std.proofs.lemmas.Bool.{cases_eq}
use Rattle.room_kinds.specs.declared.message.Msg.{Msg}
use Rattle.journal.specs.declared.entry.Entry.{Entry}
use Rattle.journal.specs.declared.entry.Entry.TheVariants as entry
use Rattle.actor_merge.specs.Mail.{Lane, lane, event_of, taken, given}
use Rattle.actor_merge.specs.Parties.{State, Line, Plant, Taken, lowest, next_of, turn, turn_with, post, Does, Replays}
use Rattle.actor_merge.specs.World.{World, Placed, start, IsQuiet, fetch_front, controller_does, Runs}
use Rattle.actor_merge.specs.Merge.{InOrder, entries_of, Projects}
use Rattle.actor_merge.proofs.Back.{Happened, controller, environment, happened, run_projects}
use Rattle.actor_merge.proofs.Extend.{entries_append}
use Rattle.actor_merge.proofs.Rounds.{given-append}
use Rattle.law_merges.specs.Cuts.{BeginsWith, AreCuts}
use Rattle.law_merges.proofs.Parties.{first_here, first_other}
use Rattle.law_merges.proofs.One.{one_merge}

-- ---- lists

cancel : {A : Type 0} (t a b : List A) → t ++ a ≡ t ++ b → a ≡ b
cancel [] a b h = h
cancel (x ∷ t) a b h = cancel t a b (ap (drop 1) h)

nothing_behind : {A : Type 0} (t a : List A) → length (t ++ a) ≤ length t → a ≡ []
nothing_behind t [] h = refl
nothing_behind t (x ∷ a) h = absurd (omega (arith, h, length-append t (x ∷ a)))

-- two lists each of which begins with the other
both_ways : (a b : List Entry) → BeginsWith a b → BeginsWith b a → a ≡ b
both_ways a b h k =
    let none : h.0 ≡ [] = nothing_behind b h.0 (omega (arith, ap length h.1, ap length k.1, length-append a k.0)) in
    h.1 ∙ ap (λ (z : List Entry). b ++ z) none ∙ append-nil b

-- a cut of the whole is a cut of what begins with it
goes_further : (a b front back : List Entry) → BeginsWith a b → b ≡ front ++ back → BeginsWith a front
goes_further a b front back h is = (back ++ h.0, h.1 ∙ ap (λ (z : List Entry). z ++ h.0) is ∙ append_assoc front back h.0)

-- where the front of the whole goes on after a list that begins with it, that list goes on in the same way, or
-- it is the front
same_next : (a whole front back : List Entry) (e : Entry) → BeginsWith a front → BeginsWith whole a → whole ≡ front ++ e ∷ back
    → (front ≡ a) ⊎ BeginsWith a (front ++ e ∷ [])
same_next a whole front back e h k is = go h.0 h.1
  where
    go : (more : List Entry) → a ≡ front ++ more → (front ≡ a) ⊎ BeginsWith a (front ++ e ∷ [])
    go [] own = inl (sym (own ∙ append-nil front))
    go (f ∷ more) own =
        let rest : e ∷ back ≡ (f ∷ more) ++ k.0 =
        cancel front (e ∷ back) ((f ∷ more) ++ k.0)
        (sym is ∙ k.1 ∙ ap (λ (z : List Entry). z ++ k.0) own ∙ append_assoc front (f ∷ more) k.0) in
        let same : f ≡ e = cc in
        inr (more, own ∙ ap (λ (z : Entry). front ++ z ∷ more) same ∙ sym (append_assoc front (e ∷ []) more))

-- ---- a controller alone

-- the lines play no part in what a controller does
module _ {B : Type 0} (plant : Plant B) (lines : List Line) where
  same_turn : (c : ℕ) (s : State B) → turn (record plant { lines = lines }) c s ≡ turn plant c s
  unfolding turn
  same_turn c s = go s.outbox (next_of s.pending)
    where
      go : (box : List Msg) (next : Option Taken) → turn_with (record plant { lines = lines }) c s box next ≡ turn_with plant c s box next
      go [] None = refl
      go [] (Some t) = refl
      go (m ∷ ms) next = refl

  same_does : (c : ℕ) (s : State B) (e : Entry) (next : State B) → Does (record plant { lines = lines }) c s e next → Does plant c s e next
  same_does c s (entry.Start who state notes) next h = h
  same_does c s (entry.Fetch stamp m) next h = h
  same_does c s (entry.Turn stamp from sent did notes) next h = sym (same_turn c s) ∙ h
  same_does c s (entry.Post stamp m) next h = h

  same_replay : (c : ℕ) (s : State B) (es : List Entry) (end : State B) → Replays (record plant { lines = lines }) c s es end → Replays plant c s es end
  same_replay c s [] end h = h
  same_replay c s (e ∷ es) end h = (h.0, same_does c s e h.0 h.1, same_replay c h.0 es end h.2)

-- the state in an outcome
state_or : {B : Type 0} → State B → Option (State B × Entry) → State B
state_or s None = s
state_or s (Some r) = r.0

module _ {B : Type 0} (plant : Plant B) where
  -- an entry leads to one state
  one_does : (c : ℕ) (s : State B) (e : Entry) (next other : State B) → Does plant c s e next → Does plant c s e other → next ≡ other
  unfolding state_or
  one_does c s (entry.Start who state notes) next other h k = absurd h
  one_does c s (entry.Fetch stamp m) next other h k = ap (λ z. z.0) (sym h ∙ k)
  one_does c s (entry.Turn stamp from sent did notes) next other h k = ap (state_or s) (sym h ∙ k)
  one_does c s (entry.Post stamp m) next other h k = ap (state_or s) (sym h ∙ k)

  one_replay : (c : ℕ) (s : State B) (es : List Entry) (end other : State B) → Replays plant c s es end → Replays plant c s es other → end ≡ other
  one_replay c s [] end other h k = h ∙ sym k
  one_replay c s (e ∷ es) end other h k =
      one_replay c h.0 es end other h.2
      (subst (λ (z : State B). Replays plant c z es other) (one_does c s e k.0 h.0 k.1 h.1) k.2)

  -- a controller at rest: nothing waits in it, nor in a lane to it
  record AtRest (w : World B) (c : ℕ) : Type 0 where
    pending : (p : ℕ) → (w.controllers c).pending p ≡ []
    outbox : (w.controllers c).outbox ≡ []
    lanes : (l : Lane) → l.receiver ≡ c → w.lanes l ≡ []

  none_pending : (pending : ℕ → List Msg) (at k : ℕ) → ((p : ℕ) → pending p ≡ []) → lowest pending at k ≡ None
  unfolding lowest
  none_pending pending at zero empty = refl
  none_pending pending at (suc k) empty = rw (empty at) (none_pending pending (at + 1) k empty)

  rest_does_nothing : (w : World B) (c : ℕ) (e : Entry) (s : State B) → AtRest w c → controller_does plant w c (event_of e) ≡ Some (s, e) → ⊥
  unfolding turn post
  rest_does_nothing w c (entry.Start who state notes) s rest h = cc
  rest_does_nothing w c (entry.Fetch stamp m) s rest h =
      let none : fetch_front (w.controllers c) (w.lanes (lane m.from.0 c m.prio.0)) ≡ None =
      ap (fetch_front (w.controllers c)) (rest.lanes (lane m.from.0 c m.prio.0) refl) in
      cc
  rest_does_nothing w c (entry.Turn stamp from sent did notes) s rest h =
      let empty : next_of (w.controllers c).pending ≡ None = none_pending (w.controllers c).pending 0 6 rest.pending in
      let none : turn_with plant c (w.controllers c) (w.controllers c).outbox (next_of (w.controllers c).pending) ≡ None =
      rw (rest.outbox, empty) refl in
      cc
  rest_does_nothing w c (entry.Post stamp m) s rest h =
      let none : post c (w.controllers c) ≡ None = rw rest.outbox refl in
      cc

  run_append : (w mid end : World B) (a b : List Placed) → Runs plant w a mid → Runs plant mid b end → Runs plant w (a ++ b) end
  run_append w mid end [] b r s = subst (λ v. Runs plant v b end) r s
  run_append w mid end (x ∷ xs) b r s = (r.0, r.1, r.2, run_append r.0 mid end xs b r.3 s)

  -- nobody else is a party of a run
  no_others : (w : World B) (xs : List Placed) (end : World B) → Runs plant w xs end → (p : ℕ) → plant.controllers < p → entries_of p xs ≡ []
  no_others w [] end r p beyond = refl
  no_others w (x ∷ xs) end r p beyond = first_other p x xs (apart (happened plant w x r.0 r.2)) ∙ no_others r.0 xs end r.3 p beyond
    where
      apart : Happened plant w x r.0 → p ≡ x.party → ⊥
      apart (controller below s does same) is = omega (arith, is, below, beyond)
      apart (environment at v does same) is = omega (arith, is, at, beyond)

-- ---- two runs

module _ {B : Type 0} (plant : Plant B) (lines : List Line) (xs ys : List Placed) (end other : World B) (run : Runs plant (start plant) xs end)
    (more : Runs (record plant { lines = lines }) (start plant) ys other) (cuts : AreCuts plant xs ys) (quiet : IsQuiet plant end)
    (posts : BeginsWith (entries_of plant.controllers xs) (entries_of plant.controllers ys)) where
  abbrev over : Plant B
  over = record plant { lines = lines }

  -- all that happens here is in the first run
  abbrev Within : List Placed → Type 0
  Within front = (p : ℕ) → BeginsWith (entries_of p xs) (entries_of p front)

  -- a controller that has done all that it does in the first run is at rest
  at_rest : (front : List Placed) (mid : World B) → Runs over (start plant) front mid → Within front
      → (c : ℕ) → c < plant.controllers → entries_of c front ≡ entries_of c xs → AtRest over mid c
  at_rest front mid before within c below all =
      record {
        pending = λ p. ap (λ (z : State B). z.pending p) state ∙ quiet.pending c p below;
        outbox = ap (λ (z : State B). z.outbox) state ∙ quiet.outbox c below;
        lanes = λ l to. empty l to;
      }
    where
      first : Projects plant (start plant) xs end
      first = run_projects plant (start plant) xs end run

      here : Projects over (start plant) front mid
      here = run_projects over (start plant) front mid before

      state : mid.controllers c ≡ end.controllers c
      state = one_replay plant c (plant.start c) (entries_of c xs) (mid.controllers c) (end.controllers c)
          (subst (λ (z : List Entry). Replays plant c (plant.start c) z (mid.controllers c)) all
          (same_replay plant lines c (plant.start c) (entries_of c front) (mid.controllers c) (here.controllers c below)))
          (first.controllers c below)

      empty : (l : Lane) → l.receiver ≡ c → mid.lanes l ≡ []
      empty l to =
          let took : List Msg = taken l l.receiver (entries_of l.receiver xs) in
          let gave : given l l.sender (entries_of l.sender xs) ≡ took =
          first.lanes l ∙ ap (λ (z : List Msg). took ++ z) (quiet.lanes l) ∙ append-nil took in
          let same : entries_of l.receiver front ≡ entries_of l.receiver xs = rw to all in
          let now : given l l.sender (entries_of l.sender front) ≡ took ++ mid.lanes l =
          here.lanes l ∙ ap (λ (z : List Entry). taken l l.receiver z ++ mid.lanes l) same in
          let whole : given l l.sender (entries_of l.sender xs) ≡ given l l.sender (entries_of l.sender front) ++ given l l.sender (within l.sender).0 =
          ap (given l l.sender) (within l.sender).1 ∙ given-append l l.sender (entries_of l.sender front) (within l.sender).0 in
          nothing_behind took (mid.lanes l)
          (omega (arith, ap length gave, ap length now, ap length whole, length-append (given l l.sender (entries_of l.sender front)) (given l l.sender (within l.sender).0)))

  -- the entries of a party up to one more event
  own_more : (front back : List Placed) (x : Placed) → ys ≡ front ++ x ∷ back
      → entries_of x.party ys ≡ entries_of x.party front ++ x.entry ∷ entries_of x.party back
  own_more front back x is =
      ap (entries_of x.party) is ∙ entries_append x.party front (x ∷ back)
      ∙ ap (λ (z : List Entry). entries_of x.party front ++ z) (first_here x.party x back refl)

  -- the next event is in the first run, too
  own_step : (front back : List Placed) (x : Placed) (mid next : World B) → ys ≡ front ++ x ∷ back → Runs over (start plant) front mid
      → Happened over mid x next → Within front → BeginsWith (entries_of x.party xs) (entries_of x.party front ++ x.entry ∷ [])
  own_step front back x mid next is before step within = go step
    where
      held : BeginsWith (entries_of x.party xs) (entries_of x.party ys) → BeginsWith (entries_of x.party xs) (entries_of x.party front ++ x.entry ∷ [])
      held h =
          goes_further (entries_of x.party xs) (entries_of x.party ys) (entries_of x.party front ++ x.entry ∷ []) (entries_of x.party back) h
          (own_more front back x is ∙ sym (append_assoc (entries_of x.party front) (x.entry ∷ []) (entries_of x.party back)))

      next_of_both : x.party < plant.controllers → (s : State B) → controller_does over mid x.party (event_of x.entry) ≡ Some (s, x.entry)
          → (entries_of x.party front ≡ entries_of x.party xs) ⊎ BeginsWith (entries_of x.party xs) (entries_of x.party front ++ x.entry ∷ [])
          → BeginsWith (entries_of x.party xs) (entries_of x.party front ++ x.entry ∷ [])
      next_of_both below s does (inl all) =
          absurd (rest_does_nothing over mid x.party x.entry s (at_rest front mid before within x.party below all) does)
      next_of_both below s does (inr goes) = goes

      by_cut : x.party < plant.controllers → (s : State B) → controller_does over mid x.party (event_of x.entry) ≡ Some (s, x.entry)
          → BeginsWith (entries_of x.party xs) (entries_of x.party ys) ⊎ BeginsWith (entries_of x.party ys) (entries_of x.party xs)
          → BeginsWith (entries_of x.party xs) (entries_of x.party front ++ x.entry ∷ [])
      by_cut below s does (inl h) = held h
      by_cut below s does (inr h) =
          next_of_both below s does
          (same_next (entries_of x.party xs) (entries_of x.party ys) (entries_of x.party front) (entries_of x.party back) x.entry (within x.party) h (own_more front back x is))

      go : Happened over mid x next → BeginsWith (entries_of x.party xs) (entries_of x.party front ++ x.entry ∷ [])
      go (controller below s does same) = by_cut below s does (cuts x.party below)
      go (environment at v does same) = held (subst (λ (z : ℕ). BeginsWith (entries_of z xs) (entries_of z ys)) (sym at) posts)

  within_step : (front back : List Placed) (x : Placed) (mid next : World B) → ys ≡ front ++ x ∷ back → Runs over (start plant) front mid
      → Happened over mid x next → Within front → Within (front ++ x ∷ [])
  within_step front back x mid next is before step within p = go (cases_eq p x.party)
    where
      go : (p ≡ x.party) ⊎ (p ≡ x.party → ⊥) → BeginsWith (entries_of p xs) (entries_of p (front ++ x ∷ []))
      go (inl own) =
          subst (λ (z : ℕ). BeginsWith (entries_of z xs) (entries_of z (front ++ x ∷ []))) (sym own)
          (subst (BeginsWith (entries_of x.party xs)) (sym (entries_append x.party front (x ∷ []) ∙ ap (λ (z : List Entry). entries_of x.party front ++ z) (first_here x.party x [] refl)))
          (own_step front back x mid next is before step within))
      go (inr apart) =
          subst (BeginsWith (entries_of p xs))
          (sym (entries_append p front (x ∷ []) ∙ ap (λ (z : List Entry). entries_of p front ++ z) (first_other p x [] apart) ∙ append-nil (entries_of p front)))
          (within p)

  goes_through : (front back : List Placed) (mid : World B) → ys ≡ front ++ back → Runs over (start plant) front mid → Runs over mid back other
      → Within front → Within ys
  goes_through front [] mid is before after within = subst Within (sym (is ∙ append-nil front)) within
  goes_through front (x ∷ back) mid is before after within =
      goes_through (front ++ x ∷ []) back after.0 (is ∙ sym (append_assoc front (x ∷ []) back))
      (run_append over (start plant) mid after.0 front (x ∷ []) before (after.0, after.1, after.2, refl)) after.3
      (within_step front back x mid after.0 is before (happened over mid x after.0 after.2) within)

  pub holds_all : (p : ℕ) → BeginsWith (entries_of p xs) (entries_of p ys)
  holds_all = goes_through [] ys (start plant) refl refl more (λ p. (entries_of p xs, refl))

-- the same cuts, seen from the other run
other_way : {B : Type 0} (plant : Plant B) (xs ys : List Placed) → AreCuts plant xs ys → AreCuts plant ys xs
other_way plant xs ys cuts c below = go (cuts c below)
  where
    go : BeginsWith (entries_of c xs) (entries_of c ys) ⊎ BeginsWith (entries_of c ys) (entries_of c xs)
        → BeginsWith (entries_of c ys) (entries_of c xs) ⊎ BeginsWith (entries_of c xs) (entries_of c ys)
    go (inl h) = inr h
    go (inr h) = inl h

pub one_cut : {B : Type 0} (plant : Plant B) (lines : List Line) (xs ys : List Placed) (end other : World B)
    → Runs plant (start plant) xs end → Runs (record plant { lines = lines }) (start plant) ys other
    → AreCuts plant xs ys → IsQuiet plant end → IsQuiet plant other
    → entries_of plant.controllers xs ≡ entries_of plant.controllers ys → InOrder xs → InOrder ys → xs ≡ ys
one_cut {B} plant lines xs ys end other run more cuts quiet still posts a b =
    one_merge xs ys a b
    (λ p.
    both_ways (entries_of p xs) (entries_of p ys)
    (holds_all plant lines xs ys end other run more cuts quiet ([], posts ∙ sym (append-nil _)) p)
    (holds_all (record plant { lines = lines }) plant.lines ys xs other end more run (other_way plant xs ys cuts) still_quiet ([], sym posts ∙ sym (append-nil _)) p))
  where
    still_quiet : IsQuiet (record plant { lines = lines }) other
    still_quiet = record { lanes = still.lanes; pending = still.pending; outbox = still.outbox }
