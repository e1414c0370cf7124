-- What is left at the ends of a round goes to whom it is left for, is of the six priorities, and may be answered.
use Rattle.std.proofs.Common.{◌≡◌, ℕ, zero, suc, ◌+◌, ◌<◌, ◌≤◌, Bool, true, false, if◌then◌else◌, List, [], ◌∷◌, ◌++◌, length, slice_get, slice_index_or, Some, refl, sym, ap, ◌∙◌, subst, arith, ◌⊎◌, inl, inr}
use Rattle.std.specs.Prelude.{◌-◌, All}
use Rattle.std.specs.List.{AllByRecursion as Each}
use Rattle.std.proofs.lemmas.Bool.{cases_lt}
use Rattle.std.proofs.lemmas.List.Elements.{All-nil, All-from_recursion}
use Rattle.std.proofs.lemmas.Option.{slice_get_within}
use Rattle.room_kinds.specs.declared.message.Msg.{Msg}
use Rattle.room_kinds.specs.declared.numbers.ControllerId.{ControllerId}
use Rattle.journal.specs.declared.entry.Entry.{Entry}
use Rattle.journal.specs.declared.entry.Entry.TheVariants as entry
use Rattle.mail_core.specs.EndLog.{EndLog, fresh}
use Rattle.mail_core.specs.Lanes.{log_at, AllFor}
use Rattle.mail_core.specs.SetUp.{AreFresh, IsLeft, of_controllers, at_priority, priorities, in_poll_order}
use Rattle.actor_merge.specs.Mail.{Lane, lane, is_lane, given}
use Rattle.actor_merge.proofs.Lanes.{is_lane-true}
use Rattle.controller_mail.specs.MailState.{HasPriority}
use Rattle.controller_mail.specs.Within.{IsAnswerable, IsFor, IsFrom}
use Rattle.controller_actors.specs.declared.plant.Plant.{Plant}
use Rattle.controller.specs.Controllers.{EndGoes, run_plant, state_in}
use Rattle.controller.specs.View.{Controller}
use Rattle.model_run.specs.run_rounds.Rounds.{EndDid, PostsAbove}
use Rattle.model_run.specs.run_so_far.SoFar.{EndsPosted}
use Rattle.model_run.specs.joined_round.ByPriority.{AreOfLane, IsByPriority, AreByPriority, AreForThem, HavePriorities, AreAnswerable}
use Rattle.model_run.specs.joined_round.Joined.{HaveWorked, Seat}
use Rattle.controller.proofs.Standing.{some_at}
use Rattle.model_run.proofs.joined_round.JoinLaw.{same_there}
use Rattle.model_run.proofs.run_rounds.LaneLists.{given_for, replays_from}

-- ---- lists

each_append : (P : Msg → Type 0) (xs ys : List Msg) → Each P xs → Each P ys → Each P (xs ++ ys)
each_append P [] ys h k = k
each_append P (x ∷ xs) ys h k = (h.0, each_append P xs ys h.1 k)

each_behind : (P : Msg → Type 0) (xs ys : List Msg) → Each P (xs ++ ys) → Each P ys
each_behind P [] ys h = h
each_behind P (x ∷ xs) ys h = each_behind P xs ys h.1

all_at : (P : Msg → Type 0) (answer : List (List Msg)) (c : ℕ) → ((ms : List Msg) → slice_get answer c ≡ Some ms → All P ms) → All P (slice_index_or answer c [])
all_at P [] c h = All-nil P
all_at P (x ∷ xs) zero h = h x refl
all_at P (x ∷ xs) (suc c) h = all_at P xs c h

-- ---- what ends have posted

-- what entries give to a lane goes to its receiver, at its priority
given_of : (s r p : ℕ) (es : List Entry) → AreOfLane r p (given (lane s r p) s es)
given_of s r p [] = tt
given_of s r p (entry.Start who state notes ∷ es) = given_of s r p es
given_of s r p (entry.Fetch stamp m ∷ es) = given_of s r p es
given_of s r p (entry.Turn stamp from sent did notes ∷ es) = given_of s r p es
given_of s r p (entry.Post stamp m ∷ es) = go (is_lane (lane s r p) (lane s m.to.0 m.prio.0)) refl (given_of s r p es)
  where
    go : (b : Bool) → is_lane (lane s r p) (lane s m.to.0 m.prio.0) ≡ b → AreOfLane r p (given (lane s r p) s es)
        → AreOfLane r p ((if b then m ∷ [] else []) ++ given (lane s r p) s es)
    go true e rest =
        let same : lane s r p ≡ lane s m.to.0 m.prio.0 = is_lane-true (lane s r p) (lane s m.to.0 m.prio.0) e in
        ((sym (ap (λ (l : Lane). l.receiver) same), sym (ap (λ (l : Lane). l.priority) same)), rest)
    go false e rest = rest

-- messages of a controller's lane come from it
from_controller : (n s r p : ℕ) (ms : List Msg) → s < n → AllFor s r p ms → Each (IsFrom n) ms
from_controller n s r p [] l h = tt
from_controller n s r p (m ∷ ms) l h = (omega (arith, h.0.from, l), from_controller n s r p ms l h.1)

-- what is posted above the system level gives nothing to a lane of that level
none_of_system : (n s r : ℕ) (es : List Entry) → PostsAbove es → Each (IsFrom n) (given (lane s r 0) s es)
none_of_system n s r [] a = tt
none_of_system n s r (entry.Start who state notes ∷ es) a = none_of_system n s r es a.1
none_of_system n s r (entry.Fetch stamp m ∷ es) a = none_of_system n s r es a.1
none_of_system n s r (entry.Turn stamp from sent did notes ∷ es) a = none_of_system n s r es a.1
none_of_system n s r (entry.Post stamp m ∷ es) a = go (is_lane (lane s r 0) (lane s m.to.0 m.prio.0)) refl (none_of_system n s r es a.1)
  where
    go : (b : Bool) → is_lane (lane s r 0) (lane s m.to.0 m.prio.0) ≡ b → Each (IsFrom n) (given (lane s r 0) s es)
        → Each (IsFrom n) ((if b then m ∷ [] else []) ++ given (lane s r 0) s es)
    go true e rest =
        let system : 0 ≡ m.prio.0 = ap (λ (l : Lane). l.priority) (is_lane-true (lane s r 0) (lane s m.to.0 m.prio.0) e) in
        let above : 1 ≤ m.prio.0 = a.0 in
        absurd (omega (arith, system, above))
    go false e rest = rest

goes_on : (n c : ℕ) (old new : EndLog) (es : List Entry) → EndGoes c old new es → ((r : ℕ) → Each (IsFrom n) (given (lane c r 0) c es)) → IsByPriority n old → IsByPriority n new
goes_on n c old new es goes system before = record {
  own = λ r p.
      subst (AreOfLane r p) (sym (goes.posted r p))
      (each_append (λ (m : Msg). IsFor r m × (m.prio.0 ≡ p)) (old.posted r p) (given (lane c r p) c es) (before.own r p) (given_of c r p es));
  system = λ r. subst (Each (IsFrom n)) (sym (goes.posted r 0)) (each_append (IsFrom n) (old.posted r 0) (given (lane c r 0) c es) (before.system r) (system r));
}

by_entries : (n c : ℕ) (log : EndLog) (es : List Entry) → EndDid c log es → PostsAbove es → IsByPriority n log
by_entries n c log es did above = record {
  own = λ r p. subst (AreOfLane r p) (sym (did.posted r p)) (given_of c r p es);
  system = λ r. subst (Each (IsFrom n)) (sym (did.posted r 0)) (none_of_system n c r es above);
}

by_none : (n parties k : ℕ) (log : EndLog) → log ≡ fresh parties k → IsByPriority n log
by_none n parties k log e = record {
  own = λ r p. subst (λ (z : EndLog). AreOfLane r p (z.posted r p)) (sym e) tt;
  system = λ r. subst (λ (z : EndLog). Each (IsFrom n) (z.posted r 0)) (sym e) tt;
}

-- ends that did nothing
pub all_fresh : (n parties : ℕ) (logs : List EndLog) → AreFresh parties logs → AreByPriority n logs
all_fresh n parties logs f k h = by_none n parties k (log_at logs k) (f.each k (omega (arith, f.count, h)))

-- ends of which the environment's alone posted
pub all_posted : (n : ℕ) (logs : List EndLog) (es : List Entry) → EndsPosted n logs es → AreByPriority n logs
all_posted n logs es p k h = go (cases_lt k n)
  where
    go : (k < n) ⊎ (n ≤ k) → IsByPriority n (log_at logs k)
    go (inl l) = by_none n (n + 1) k (log_at logs k) (p.controllers k l)
    go (inr l) =
        let last : n ≡ k = omega (arith, l, h, p.count) in
        subst (λ (z : ℕ). IsByPriority n (log_at logs z)) last (by_entries n n (log_at logs n) es p.environment p.above)

-- ends with which controllers worked
pub all_worked : (plant : Plant) (olds mids : List Controller) (logs logs' : List EndLog) → HaveWorked plant olds logs mids logs'
    → AreByPriority (length plant.wiring.controllers) logs → AreByPriority (length plant.wiring.controllers) logs'
all_worked plant olds mids logs logs' w before k h = go (cases_lt k (length olds))
  where
    was : IsByPriority (length plant.wiring.controllers) (log_at logs k)
    was = before k (omega (arith, w.parties, h))

    go : (k < length olds) ⊎ (length olds ≤ k) → IsByPriority (length plant.wiring.controllers) (log_at logs' k)
    go (inl l) =
        let n = length plant.wiring.controllers in
        let o = some_at olds k l in
        let done = w.steps.below k l o.0 o.1 in
        let did = done.2.0.did in
        let me : o.0.me.0 < n = subst (λ (z : ControllerId). z.0 < n) did.goes.me done.2.1.me in
        let from = replays_from (run_plant plant []) o.0.me.0 (state_in plant o.0) did.entries (state_in plant done.0) (did.goes.replays []) in
        goes_on n o.0.me.0 (log_at logs k) (log_at logs' k) did.entries did.end
        (λ r. from_controller n o.0.me.0 r 0 (given (lane o.0.me.0 r 0) o.0.me.0 did.entries) me (given_for o.0.me.0 r 0 did.entries from)) was
    go (inr l) = subst (IsByPriority (length plant.wiring.controllers)) (sym (ap (λ (x : Seat). x.1) (w.steps.above k l))) was

-- ---- what is left

for_receiver : (r p : ℕ) (ms : List Msg) → AreOfLane r p ms → Each (IsFor r) ms
for_receiver r p [] k = tt
for_receiver r p (m ∷ ms) k = (k.0.0, for_receiver r p ms k.1)

low : (r p : ℕ) (ms : List Msg) → p < 6 → AreOfLane r p ms → Each HasPriority ms
low r p [] h k = tt
low r p (m ∷ ms) h k = (omega (arith, k.0.1, h), low r p ms h k.1)

answerable : (n r p : ℕ) (ms : List Msg) → AreOfLane r p ms → (p ≡ 0 → Each (IsFrom n) ms) → Each (IsAnswerable n) ms
answerable n r p [] h f = tt
answerable n r p (m ∷ ms) h f = (λ system. (f (sym h.0.1 ∙ system)).0, answerable n r p ms h.1 (λ z. (f z).1))

module _ (P : Msg → Type 0) (n : ℕ) (left : ℕ → ℕ → List Msg) (each : (s p : ℕ) → s < n → p < 6 → Each P (left s p)) where
  of_controllers_each : (p k : ℕ) → p < 6 → k ≤ n → Each P (of_controllers (λ s. left s p) k)
  of_controllers_each p zero h l = tt
  of_controllers_each p (suc k) h l =
      each_append P (of_controllers (λ s. left s p) k) (left k p) (of_controllers_each p k h (omega (arith, l))) (each k p (omega (arith, l)) h)

  priorities_each : (k : ℕ) → k ≤ 6 → 0 < n → Each P (priorities n left k)
  priorities_each zero l some = tt
  priorities_each (suc k) l some =
      each_append P (priorities n left k) (at_priority n (λ s. left s (5 - k))) (priorities_each k (omega (arith, l)) some)
      (each_append P (left (n - 1) (5 - k)) (of_controllers (λ s. left s (5 - k)) (n - 1))
      (each (n - 1) (5 - k) (omega (arith, some)) (omega arith))
      (of_controllers_each (5 - k) (n - 1) (omega arith) (omega arith)))

module _ (logs : List EndLog) (answer : List (List Msg)) (l : IsLeft logs answer) where
  -- what holds of what was posted in a lane holds of what is left in it
  behind : (P : Msg → Type 0) (s c p : ℕ) → s < length logs → c + 1 < length logs → p < 6 → Each P ((log_at logs s).posted c p) → Each P (l.left s c p)
  behind P s c p hs hc hp h = each_behind P ((log_at logs c).taken s p) (l.left s c p) (subst (Each P) (sym (l.kept s c p hs hc hp)) h)

  -- what holds of what is left in all lanes of a controller holds of what is left for it
  for_each : (P : Msg → Type 0) (c : ℕ) → ((s p : ℕ) → s < length logs → c + 1 < length logs → p < 6 → Each P (l.left s c p)) → All P (slice_index_or answer c [])
  unfolding in_poll_order
  for_each P c lanes = all_at P answer c here
    where
      here : (ms : List Msg) → slice_get answer c ≡ Some ms → All P ms
      here ms at =
          let within : c < length answer = slice_get_within answer c ms at in
          let inside : c + 1 < length logs = omega (arith, within, l.count) in
          let whole : Each P (priorities (length logs) (λ s p. l.left s c p) 6) =
          priorities_each P (length logs) (λ s p. l.left s c p) (λ s p hs hp. lanes s p hs inside hp) 6 (omega arith) (omega (arith, inside)) in
          let same : ms ≡ priorities (length logs) (λ s p. l.left s c p) 6 =
          same_there (slice_get answer c) ms (priorities (length logs) (λ s p. l.left s c p) 6) at (l.order c inside) in
          All-from_recursion P ms (subst (Each P) (sym same) whole)

  module _ (n : ℕ) (ranked : AreByPriority n logs) where
    own : (s c p : ℕ) → s < length logs → c + 1 < length logs → p < 6 → AreOfLane c p (l.left s c p)
    own s c p hs hc hp = behind (λ (m : Msg). IsFor c m × (m.prio.0 ≡ p)) s c p hs hc hp ((ranked s hs).own c p)

    pub left_for_them : AreForThem answer
    left_for_them c = for_each (IsFor c) c (λ s p hs hc hp. for_receiver c p (l.left s c p) (own s c p hs hc hp))

    pub left_low : HavePriorities answer
    left_low c = for_each HasPriority c (λ s p hs hc hp. low c p (l.left s c p) hp (own s c p hs hc hp))

    pub left_answerable : AreAnswerable n answer
    left_answerable c =
        for_each (IsAnswerable n) c (λ s p hs hc hp.
        answerable n c p (l.left s c p) (own s c p hs hc hp)
        (λ z. behind (IsFrom n) s c p hs hc hp (subst (λ (q : ℕ). Each (IsFrom n) ((log_at logs s).posted c q)) (sym z) ((ranked s hs).system c))))
