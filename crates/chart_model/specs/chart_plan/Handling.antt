-- How a chart handles a message: which transition is enabled, what its chain runs, and where it lands.
-- ROOM's state machines (Selic, Gullekson and Ward 1994); the order of tries and the chain are this project's own.
use Rattle.std.specs.Prelude.{ℕ, zero, suc, ◌-◌, Bool, true, false, cond, not, ◌&&◌, List, [], ◌∷◌, Option, Some, None, take, reverse, length}
use Rattle.std.specs.List.{list_any}
use Rattle.std.specs.Option.{is_some}
use Rattle.chart_model.specs.chart_plan.Plan.{Kind, Simple, Border, Choice, Entry, Exit, Trigger, Plan, Running}

-- What a chain changes: the history of each composite state, and what programs change.
pub record Memory (S R : Type 0) : Type 0 where
  pub past : S → Option S
  pub ran : R

-- the same memory, after programs changed this
abbrev pub after : {S R : Type 0} → Memory S R → R → Memory S R
after m r = record { past = m.past; ran = r }

-- a test's answer, and the memory after it
abbrev pub tested : {S R : Type 0} → Memory S R → Bool × R → Bool × Memory S R
tested m x = (x.0, after m x.1)

-- The first that passes a test; the tests before it are made, too, and none after it.
unfoldable pub first_of : {T M : Type 0} → (T → M → Bool × M) → List T → M → Option T × M
first_of try [] m = (None, m)
first_of try (t ∷ ts) m = cond (try t m).0 (Some t, (try t m).1) (first_of try ts (try t m).1)

abbrev pub or_default : {T M : Type 0} → T → Option T × M → T × M
or_default d (None, m) = (d, m)
or_default d (Some t, m) = (t, m)

-- After a segment the chain ends at a state, or goes on with a transition.
pub data Next (S T : Type 0) : Type 0 where
  Ends : (s : S) → Next S T
  Goes : (t : T) → Next S T

-- ---- programs, conditions and triggers

module _ {S P C R : Type 0} (g : Running P C R) where
  unfoldable pub runs : P → Memory S R → Memory S R
  runs program m = after m (g.run program m.ran)

  -- a condition; one that is missing holds
  unfoldable pub holds : Option C → Memory S R → Bool × Memory S R
  holds None m = (true, m)
  holds (Some c) m = tested m (g.test c m.ran)

  module _ {E : Type 0} (same_event : E → E → Bool) where
    -- the trigger has the event, and its guard holds; the guard is tested only where it has the event, and once
    unfoldable pub trigger_fits : E → Trigger E C → Memory S R → Bool × Memory S R
    trigger_fits e t m = cond (list_any (same_event e) t.events) (holds t.guard m) (false, m)

    -- one of some triggers fits, tried in their order
    unfoldable pub triggers_fit : E → List (Trigger E C) → Memory S R → Bool × Memory S R
    triggers_fit e ts m = let found = first_of (trigger_fits e) ts m in (is_some found.0, found.1)

-- ---- paths and history

module _ {S N T E P C : Type 0} (p : Plan S N T E P C) where
  -- the states of the active path that ends at leaf, strictly below s, from outer to inner
  unfoldable pub below : S → S → List S
  below s leaf = reverse (take (length (p.up leaf) - length (p.up s)) (p.up leaf))

  -- s is composite, and the path that ends at leaf runs through it
  unfoldable pub is_inside : S → S → Bool
  is_inside leaf s = list_any (λ q. p.same q s) (p.up leaf) && not (p.same s leaf)

  -- so where there is a path
  unfoldable pub runs_through : Option S → S → Option S
  runs_through None s = None
  runs_through (Some leaf) s = cond (is_inside leaf s) (Some leaf) None

  -- the history of s becomes the path that ends at leaf
  unfoldable pub put : S → S → (S → Option S) → S → Option S
  put s leaf past q = cond (p.same q s) (Some leaf) (past q)

  unfoldable pub remember : {R : Type 0} → S → Option S → Memory S R → Memory S R
  remember s None m = m
  remember s (Some leaf) m = record { past = put s leaf m.past; ran = m.ran }

module _ {S N T E P C R : Type 0} (p : Plan S N T E P C) (g : Running P C R) where
  -- one of the transition's triggers fits
  unfoldable pub fits : E → T → Memory S R → Bool × Memory S R
  fits e t m = triggers_fit g p.same_event e (p.triggers t) m

  -- ---- which transition is enabled

  -- the transition that is taken, with the number of states that it leaves; n states were tried before
  unfoldable pub enabled_after : Option T × Memory S R → ℕ → (Memory S R → Option (ℕ × T) × Memory S R) → Option (ℕ × T) × Memory S R
  enabled_after (Some t, m) n next = (Some (suc n, t), m)
  enabled_after (None, m) n next = next m

  -- From the innermost active state outward, in each state the transitions that are tried there, in their order.
  unfoldable pub enabled : E → ℕ → List S → Memory S R → Option (ℕ × T) × Memory S R
  enabled e n [] m = (None, m)
  enabled e n (s ∷ ss) m = enabled_after (first_of (fits e) (p.tried s) m) n (λ later. enabled e (suc n) ss later)

  -- the first branch whose condition holds, else the default; later conditions aren't tested
  unfoldable pub chosen : T → List T → Memory S R → T × Memory S R
  chosen d ts m = or_default d (first_of (λ t now. holds g (p.condition t) now) ts m)

  -- ---- entering and leaving states

  -- a state is entered: its entry action runs
  unfoldable pub enter : S → Memory S R → Memory S R
  enter s m = runs g (p.entry s) m

  -- from outer to inner
  unfoldable pub enter_all : List S → Memory S R → Memory S R
  enter_all [] m = m
  enter_all (s ∷ ss) m = enter_all ss (enter s m)

  -- A state is left, in a chain that began where the active path ends at began, or where there was none:
  -- the exit action runs; a composite state through which that path runs remembers it.
  unfoldable pub leave : Option S → S → Memory S R → Memory S R
  leave began s m = runs g (p.exit s) (remember p s (runs_through p began s) m)

  -- from inner to outer
  unfoldable pub leave_all : Option S → List S → Memory S R → Memory S R
  leave_all began [] m = m
  leave_all began (s ∷ ss) m = leave_all began ss (leave began s m)

  -- ---- the chain

  -- a border of a composite state leads to its history, and to its initial transition where it has none
  unfoldable pub border : S → T → Memory S R → Option S → Next S T × Memory S R
  border s initial m None = (Goes initial, m)
  border s initial m (Some leaf) = (Ends leaf, enter_all (below p s leaf) m)

  abbrev pub goes_on : T × Memory S R → Next S T × Memory S R
  goes_on (t, m) = (Goes t, m)

  -- what follows a segment, by where it leads
  unfoldable pub arrive : Option S → Kind S T → Memory S R → Next S T × Memory S R
  arrive began (Simple s) m = (Ends s, enter s m)
  arrive began (Border s initial) m = border s initial (enter s m) (m.past s)
  arrive began (Choice ts d) m = goes_on (chosen d ts m)
  arrive began (Entry s t) m = (Goes t, enter s m)
  arrive began (Exit s t) m = (Goes t, leave began s m)

  unfoldable pub follow : (T → Memory S R → Option S × Memory S R) → Next S T × Memory S R → Option S × Memory S R
  follow again (Ends s, m) = (Some s, m)
  follow again (Goes t, m) = again t m

  -- A segment, its action and what follows, at most n segments. In a valid chart a chain ends before p.most.
  unfoldable pub segments : ℕ → Option S → T → Memory S R → Option S × Memory S R
  segments zero began t m = (began, m)
  segments (suc n) began t m = follow (segments n began) (arrive began (p.node (p.target t)) (runs g (p.action t) m))

  unfoldable pub chain : Option S → T → Memory S R → Option S × Memory S R
  chain = segments p.most

-- ---- handling

-- Whether something is enabled, where the new active path ends, and what is new.
pub record Outcome (S R : Type 0) : Type 0 where
  pub enabled : Bool
  pub leaf : Option S
  pub memory : Memory S R

module _ {S N T E P C R : Type 0} (p : Plan S N T E P C) (g : Running P C R) (leaf : S) where
  abbrev pub landed : Option S × Memory S R → Outcome S R
  landed (end, m) = record { enabled = true; leaf = end; memory = m }

  unfoldable pub taken : Option (ℕ × T) × Memory S R → Outcome S R
  taken (None, m) = record { enabled = false; leaf = Some leaf; memory = m }
  taken (Some (k, t), m) = landed (chain p g (Some leaf) t (leave_all p g (Some leaf) (take k (p.up leaf)) m))

  -- The handling of an event where the active path ends at leaf. Where nothing is enabled the notes of
  -- the guards that were tested are kept.
  unfoldable pub handling : E → Memory S R → Outcome S R
  handling e m = taken (enabled p g e zero (p.up leaf) m)

-- The start of a machine: the chain of the top graph's initial transition, without history and without a message.
unfoldable pub starting : {S N T E P C R : Type 0} → Plan S N T E P C → Running P C R → T → R → Option S × Memory S R
starting p g initial r = chain p g None initial (record { past = λ s. None; ran = r })
