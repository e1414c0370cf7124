-- One step after another, for each controller.
use Rattle.std.proofs.Common.{◌≡◌, ℕ, zero, suc, ◌+◌, ◌<◌, ◌≤◌, Bool, true, false, List, [], ◌∷◌, length, map, set, get_or, slice_get, slice_index_or, Option, Some, None, Result, Ok, Err, OnOk, refl, sym, ap, ◌∙◌, subst, arith, ◌⊎◌, inl, inr}
use Rattle.std.specs.List.{list_any}
use Rattle.std.proofs.lemmas.Bool.{cases_lt}
use Rattle.std.proofs.lemmas.Option.{slice_get_read, slice_get_within, get_or_from_slice_get}
use Rattle.std.proofs.lemmas.List.{map-set, get_or-map, get_or-set_other}
use Rattle.room_kinds.specs.declared.message.Msg.{Msg}
use Rattle.room_kinds.specs.declared.numbers.ControllerId.{ControllerId}
use Rattle.mail_core.specs.EndLog.{EndLog, fresh}
use Rattle.mail_core.specs.Lanes.{log_at}
use Rattle.mail_core.specs.SetUp.{IsLeft}
use Rattle.mail_core.proofs.Tied.{log_at-map}
use Rattle.model_run.specs.run_rounds.OneByOne.{StepsBelow}
use Rattle.model_run.proofs.run_rounds.OneByOne.{steps_one, slice_get-other, slice_get-same}
use Rattle.actor_merge.specs.Parties.{front_or, lowest, next_of}
use Rattle.controller_mail.specs.MailState.{has_messages, pending_of}
use Rattle.controller_actors.specs.declared.plant.Plant.{Plant}
use Rattle.controller.specs.Controllers.{IsOf}
use Rattle.controller.specs.Calls.{Turns, took_one, took_none}
use Rattle.controller.specs.View.{Controller}
use Rattle.controller.proofs.Going.{goes_none}
use Rattle.model_run.specs.run_worker.Works.{Works}
use Rattle.model_run.proofs.run_loop.ListFacts.{found}
use Rattle.model_run.specs.joined_round.Joined.{AllStand, AreInOrder, Changes, LastTurn, IsReady, seat, WorkedAt, FetchedAt, TurnedAt, HaveWorked, AreJoined, Joined, RoundDone}
use Rattle.controller.proofs.Standing.{some_at}

-- where nobody's turn is, no message waits
lowest_none : (pending : ℕ → List Msg) (at k : ℕ) → lowest pending at k ≡ None → (j : ℕ) → at ≤ j → j < at + k → pending j ≡ []
unfolding lowest
lowest_none pending at zero e j low high = absurd (omega arith)
lowest_none pending at (suc k) e j low high = go (pending at) refl e (λ f a b. lowest_none pending (at + 1) k f j a b)
  where
    go : (front : List Msg) → pending at ≡ front → front_or at front (lowest pending (at + 1) k) ≡ None
        → (lowest pending (at + 1) k ≡ None → at + 1 ≤ j → j < (at + 1) + k → pending j ≡ []) → pending j ≡ []
    go [] is f later = elim (cases_lt at j) [
      | inl above ↦ later f (omega arith) (omega arith)
      | inr here ↦ let same : j ≡ at = omega arith in ap pending same ∙ is
    ]
    go (m ∷ ms) is f later = absurd cc

no_messages : (ms : List Msg) → ms ≡ [] → has_messages ms ≡ true → ⊥
no_messages [] e h = cc
no_messages (m ∷ ms) e h = absurd cc

somebodys_turn : (lists : List (List Msg)) → length lists ≡ 6 → list_any has_messages lists ≡ true → next_of (pending_of lists) ≡ None → ⊥
somebodys_turn lists six some none =
    let f = found has_messages lists some in
    let inside : f.place < length lists = slice_get_within lists f.place f.item f.there in
    let empty : pending_of lists f.place ≡ [] = lowest_none (pending_of lists) 0 6 none f.place (omega arith) (omega (arith, six, inside)) in
    let here : pending_of lists f.place ≡ f.item = get_or_from_slice_get lists f.place f.item [] f.there in
    no_messages f.item (sym here ∙ empty) f.holds

module _ (plant : Plant) where
  -- no turn
  pub turn_none : (k : Controller) → k.failed ≡ false → (list_any has_messages k.mail.pending ≡ false) ⊎ (k.fuel ≤ k.mail.turns) → LastTurn plant k k
  turn_none k works why = record { entries = []; goes = goes_none plant k works; only = tt; fuelled = λ h. h; went = inr (record { same = refl; why = why }) }

  pub turn_taken : (old new : Controller) (took : Bool) → old.failed ≡ false → old.mail.turns < old.fuel → length old.mail.pending ≡ 6 → list_any has_messages old.mail.pending ≡ true
      → Turns plant old new took → LastTurn plant old new
  turn_taken old new took works fuel six some (took_one e t is goes more) =
      record { entries = e ∷ []; goes = goes; only = (is, tt); fuelled = λ h. omega arith; went = inl (omega (arith, more)) }
  turn_taken old new took works fuel six some (took_none t none same) = absurd (somebodys_turn old.mail.pending six some none)

  module _ (olds mids fetched news : List Controller) (logs logs' : List EndLog) (answer : List (List Msg)) (n : ℕ)
      (here : n ≡ length plant.wiring.controllers)
      (s1 : StepsBelow (WorkedAt plant) n (seat olds logs) (seat mids logs'))
      (s2 : StepsBelow (FetchedAt plant answer) n (slice_get mids) (slice_get fetched))
      (s3 : StepsBelow (TurnedAt plant) n (slice_get fetched) (slice_get news)) where
    joined : (c : ℕ) → c < n → (k : Controller) → slice_get olds c ≡ Some k
        → (k' : Controller) × (slice_get news c ≡ Some k') × Joined plant k k' (log_at logs c) (log_at logs' c) (slice_index_or answer c [])
    joined c b k at =
        let w = s1.below c b k at in
        let f = s2.below c b w.0 w.1 in
        let t = s3.below c b f.0 f.1 in
        (t.0, t.1, record { worked = w.0; fetched = f.0; works = w.2.0; fetches = f.2.0; turn = t.2.0; of = t.2.1 })

    pub round_done : length news ≡ length olds → length logs' ≡ length logs → IsLeft logs' answer → RoundDone plant olds news logs logs' answer
    round_done count parties left = record {
      count = count;
      parties = parties;
      others = λ party h. ap (λ x. x.1) (s1.above party (omega (arith, here)));
      left = left;
      each = λ c b. joined c (omega (arith, here));
    }

-- the workers and then the joined step are a round
pub round_of : (plant : Plant) (olds mids news : List Controller) (logs logs' : List EndLog) → AllStand plant olds → HaveWorked plant olds logs mids logs' → AreJoined plant mids news logs'
    → (after : List EndLog) × (answer : List (List Msg)) × RoundDone plant olds news logs after answer
round_of plant olds mids news logs logs' stand w j = (
  logs',
  j.answer,
  round_done plant olds mids j.fetched news logs logs' j.answer (length olds) stand.count w.steps
      (subst (λ (z : ℕ). StepsBelow (FetchedAt plant j.answer) z (slice_get mids) (slice_get j.fetched)) w.count j.fetches)
      (subst (λ (z : ℕ). StepsBelow (TurnedAt plant) z (slice_get j.fetched) (slice_get news)) w.count j.turns) (j.count ∙ w.count) w.parties j.left,
)

pub same_there : {X : Type 0} (o : Option X) (x y : X) → o ≡ Some x → o ≡ Some y → x ≡ y
same_there o x y e f = let both : Some x ≡ Some y = sym e ∙ f in cc

-- one controller more has worked with its end
pub work_step : {E : Type 0} (plant : Plant) (log : E → EndLog) (olds ks : List Controller) (before ends : List E) (i : ℕ) (k k' : Controller) (e e' : E)
    → StepsBelow (WorkedAt plant) i (seat olds (map log before)) (seat ks (map log ends))
    → k ≡ get_or ks i k → e ≡ get_or ends i e → i < length ks → i < length ends → Works plant k k' (log e) (log e') → IsOf plant k'
    → StepsBelow (WorkedAt plant) (i + 1) (seat olds (map log before)) (seat (set ks i k') (map log (set ends i e')))
work_step plant log olds ks before ends i k k' e e' s at_k at_e in_ks in_ends works of =
    let stands : slice_get ks i ≡ Some k = slice_get_read ks (length ks) i k refl in_ks at_k in
    let end_stands : slice_get ends i ≡ Some e = slice_get_read ends (length ends) i e refl in_ends at_e in
    let was : log_at (map log ends) i ≡ log e = log_at-map log ends i e end_stands in
    let is : log_at (map log (set ends i e')) i ≡ log e' = log_at-map log (set ends i e') i e' (slice_get-same ends i e' in_ends) in
    let worked : Works plant k k' (log_at (map log ends) i) (log_at (map log (set ends i e')) i) = rw (was, is) works in
    steps_one (WorkedAt plant) i (seat olds (map log before)) (seat ks (map log ends)) (seat (set ks i k') (map log (set ends i e'))) s
    (λ x at. (
      k',
      slice_get-same ks i k' in_ks,
      (subst (λ (z : Controller). Works plant z k' (log_at (map log ends) i) (log_at (map log (set ends i e')) i)) (same_there (slice_get ks i) k x stands at) worked, of),
    ))
    (λ c other.
    let p : slice_get (set ks i k') c ≡ slice_get ks c = slice_get-other ks i c k' other in
    let q : log_at (map log (set ends i e')) c ≡ log_at (map log ends) c =
    ap (λ ls. log_at ls c) (map-set log ends i e') ∙ get_or-set_other (map log ends) i c (log e') (fresh 0 0) other in
    λ j. (p j, q j))

-- who stands there has not changed yet
pub stood : (R : ℕ → Option Controller → Option Controller → Type 0) (olds ks : List Controller) (i : ℕ) (k : Controller)
    → StepsBelow R i (slice_get olds) (slice_get ks) → k ≡ get_or ks i k → i < length ks → slice_get olds i ≡ Some k
stood R olds ks i k s at h = sym (s.above i (omega arith)) ∙ slice_get_read ks (length ks) i k refl h at

-- one controller more has changed
pub change_step : (Q : ℕ → Controller → Controller → Type 0) (olds ks : List Controller) (i : ℕ) (k k' : Controller)
    → StepsBelow (λ c o o'. Changes (Q c) o o') i (slice_get olds) (slice_get ks) → k ≡ get_or ks i k → i < length ks → Q i k k'
    → StepsBelow (λ c o o'. Changes (Q c) o o') (i + 1) (slice_get olds) (slice_get (set ks i k'))
change_step Q olds ks i k k' s at h done =
    let stands : slice_get ks i ≡ Some k = slice_get_read ks (length ks) i k refl h at in
    steps_one (λ c o o'. Changes (Q c) o o') i (slice_get olds) (slice_get ks) (slice_get (set ks i k')) s
    (λ x there. (k', slice_get-same ks i k' h, subst (λ (z : Controller). Q i z k') (same_there (slice_get ks i) k x stands there) done))
    (λ c other. slice_get-other ks i c k' other)

-- the list that was there from the start
pub list_at : {X : Type 0} (f : X → List Msg) (lists first : List X) (i : ℕ) (v : X) → slice_get lists i ≡ slice_get first i → v ≡ get_or lists i v → i < length lists
    → f v ≡ get_or (map f first) i []
list_at f lists first i v same at h =
    let there : slice_get first i ≡ Some v = sym same ∙ slice_get_read lists (length lists) i v refl h at in
    sym (get_or-map f first i v [] (slice_get_within first i v there) ∙ ap f (get_or_from_slice_get first i v v there))

-- after the workers each controller is one of the plant, with nothing left to post
pub worked_of : (plant : Plant) (olds mids : List Controller) (logs logs' : List EndLog) → StepsBelow (WorkedAt plant) (length olds) (seat olds logs) (seat mids logs')
    → length mids ≡ length olds → (c : ℕ) (k : Controller) → slice_get mids c ≡ Some k → IsOf plant k × (k.mail.outbox ≡ [])
worked_of plant olds mids logs logs' s count c k at =
    let inside : c < length olds = omega (arith, slice_get_within mids c k at) in
    let o = some_at olds c inside in
    let w = s.below c inside o.0 o.1 in
    let both : IsOf plant w.0 × (w.0.mail.outbox ≡ []) = (w.2.1, w.2.0.posted) in
    subst (λ (z : Controller). IsOf plant z × (z.mail.outbox ≡ [])) (same_there (slice_get mids c) w.0 k w.1 at) both

-- and each still stands at its number
pub in_order_of : (plant : Plant) (olds mids : List Controller) (logs logs' : List EndLog) → StepsBelow (WorkedAt plant) (length olds) (seat olds logs) (seat mids logs')
    → length mids ≡ length olds → AreInOrder olds → AreInOrder mids
in_order_of plant olds mids logs logs' s count before c k at =
    let inside : c < length olds = omega (arith, slice_get_within mids c k at) in
    let o = some_at olds c inside in
    let w = s.below c inside o.0 o.1 in
    let me : w.0.me.0 ≡ c = ap (λ (z : ControllerId). z.0) w.2.0.did.goes.me ∙ before c o.0 o.1 in
    subst (λ (z : Controller). z.me.0 ≡ c) (same_there (slice_get mids c) w.0 k w.1 at) me

-- after the fetches each controller is ready for a turn
pub fetched_ready : (plant : Plant) (mids fetched : List Controller) (answer : List (List Msg)) → StepsBelow (FetchedAt plant answer) (length mids) (slice_get mids) (slice_get fetched)
    → length fetched ≡ length mids → ((c : ℕ) (k : Controller) → slice_get mids c ≡ Some k → IsOf plant k × (k.mail.outbox ≡ []))
    → (c : ℕ) (k : Controller) → slice_get fetched c ≡ Some k → IsReady plant k
fetched_ready plant mids fetched answer s count before c k at =
    let inside : c < length mids = omega (arith, slice_get_within fetched c k at) in
    let o = some_at mids c inside in
    let f = s.below c inside o.0 o.1 in
    let ready : IsReady plant f.0 = record { of = f.2.1; works = f.2.0.goes.works; posted = f.2.0.outbox ∙ (before c o.0 o.1).1 } in
    subst (λ (z : Controller). IsReady plant z) (same_there (slice_get fetched c) f.0 k f.1 at) ready

-- what follows from what holds after a call that ends well
pub ok_so : {T E P : Type 0} (r : Result T E) (Q : Type 0) → (P → Q) → OnOk r P → OnOk r Q
ok_so (Ok x) Q f h = f h
ok_so (Err e) Q f h = tt

-- what holds after a call that ends well
pub ok_then : {T E P R : Type 0} (r : Result T E) (Q : Type 0) → (P → R → Q) → OnOk r P → OnOk r R → OnOk r Q
ok_then (Ok x) Q f h k = f h k
ok_then (Err e) Q f h k = tt
