-- What looks at boxes change of an end, lane by lane.
use Rattle.std.proofs.Common.{◌≡◌, ℕ, zero, suc, ◌+◌, ◌==◌, ◌&&◌, Bool, true, false, if◌then◌else◌, List, [], ◌∷◌, ◌++◌, All, Some, None, inl, inr, refl, sym, ap, ◌∙◌, subst, arith, append_assoc, append-nil}
use Rattle.std.proofs.lemmas.List.Elements.{All-nil, All-append, All-weaker}
use Rattle.room_kinds.specs.declared.message.Msg.{Msg}
use Rattle.mail_core.specs.EndLog.{EndLog, taking}
use Rattle.mail_core.specs.Takes.{IsOfBox, KeepsToLevel, taking_all, PollsBox, PollsBoxes}
use Rattle.controller_mail.specs.MailState.{HasPriority}
use Rattle.controller_mail.specs.Within.{IsAnswerable}

-- the message, if it is from this sender at this priority
abbrev pub if_of : ℕ → ℕ → Msg → List Msg
if_of s p m = if (s == m.from.0) && (p == m.prio.0) then m ∷ [] else []

-- those of some messages that are from this sender at this priority
abbrev pub all_of : ℕ → ℕ → List Msg → List Msg
all_of s p [] = []
all_of s p (m ∷ ms) = if_of s p m ++ all_of s p ms

pub all_of-append : (s p : ℕ) (ms ns : List Msg) → all_of s p (ms ++ ns) ≡ all_of s p ms ++ all_of s p ns
all_of-append s p [] ns = refl
all_of-append s p (m ∷ ms) ns = ap (λ z. if_of s p m ++ z) (all_of-append s p ms ns) ∙ sym (append_assoc (if_of s p m) (all_of s p ms) (all_of s p ns))

-- an end took these messages, each from its lane, and did nothing else but look
pub record Took (log log' : EndLog) (ms : List Msg) : Type 0 where
  pub party : log'.party ≡ log.party
  pub parties : log'.parties ≡ log.parties
  pub posted : log'.posted ≡ log.posted
  pub taken : (s p : ℕ) → log'.taken s p ≡ log.taken s p ++ all_of s p ms

pub Took-none : (log : EndLog) → Took log log []
Took-none log = record { party = refl; parties = refl; posted = refl; taken = λ s p. sym (append-nil (log.taken s p)) }

pub Took-join : (log mid log' : EndLog) (ms ns : List Msg) → Took log mid ms → Took mid log' ns → Took log log' (ms ++ ns)
Took-join log mid log' ms ns a b = record {
  party = b.party ∙ a.party;
  parties = b.parties ∙ a.parties;
  posted = b.posted ∙ a.posted;
  taken = λ s p.
      b.taken s p ∙ ap (λ z. z ++ all_of s p ns) (a.taken s p) ∙ append_assoc (log.taken s p) (all_of s p ms) (all_of s p ns)
      ∙ ap (λ z. log.taken s p ++ z) (sym (all_of-append s p ms ns));
}

-- a list that a message may lengthen
pub if_more : (b : Bool) (ms : List Msg) (m : Msg) → (if b then ms ++ m ∷ [] else ms) ≡ ms ++ (if b then m ∷ [] else [])
if_more true ms m = refl
if_more false ms m = sym (append-nil ms)

pub Took-look : (log : EndLog) (b : ℕ) (m : Msg) → Took log (taking log b (Some m)) (m ∷ [])
unfolding taking
Took-look log b m = record {
  party = refl;
  parties = refl;
  posted = refl;
  taken = λ s p. if_more ((s == m.from.0) && (p == m.prio.0)) (log.taken s p) m ∙ ap (λ z. log.taken s p ++ z) (sym (append-nil (if_of s p m)));
}

pub Took-missed : (log : EndLog) (b : ℕ) → Took log (taking log b None) []
unfolding taking
Took-missed log b = record { party = refl; parties = refl; posted = refl; taken = λ s p. sym (append-nil (log.taken s p)) }

pub Took-looks : (log : EndLog) (b : ℕ) (ms : List Msg) → Took log (taking_all log b ms) ms
Took-looks log b [] = Took-none log
Took-looks log b (m ∷ ms) = Took-join log (taking log b (Some m)) (taking_all (taking log b (Some m)) b ms) (m ∷ []) ms (Took-look log b m) (Took-looks (taking log b (Some m)) b ms)

-- a poll of one box
pub Took-box : (in_box : ℕ → ℕ → ℕ → ℕ → Type 0) (b : ℕ) (log log' : EndLog) (gave : List Msg) → PollsBox in_box b log log' gave → Took log log' gave
Took-box in_box b log log' gave p = elim p.looks [
  | inl full ↦ subst (λ x. Took log x gave) (sym full.1) (Took-looks log b gave)
  | inr fewer ↦
      let all = taking_all log b gave in
      let last : Took log (taking all b None) (gave ++ []) = Took-join log all (taking all b None) gave [] (Took-looks log b gave) (Took-missed all b) in
      subst (λ x. Took log x gave) (sym fewer.1) (subst (λ ms. Took log (taking all b None) ms) (append-nil gave) last)
]

-- a poll of some boxes
pub Took-boxes : (in_box : ℕ → ℕ → ℕ → ℕ → Type 0) (k : ℕ) (log log' : EndLog) (gave : List Msg) → PollsBoxes in_box k log log' gave → Took log log' gave
Took-boxes in_box zero log log' gave p = subst (λ x. Took log x gave) (sym p.0) (subst (λ ms. Took log log ms) (sym p.1) (Took-none log))
Took-boxes in_box (suc k) log log' gave p =
    subst (λ ms. Took log log' ms) (sym p.5) (Took-join log p.0 log' p.1 p.2 (Took-boxes in_box k log p.0 p.1 p.3) (Took-box in_box k p.0 log' p.2 p.4))

-- what boxes give has one of the six priorities
pub PollsBoxes-priorities : (in_box : ℕ → ℕ → ℕ → ℕ → Type 0) (k : ℕ) (log log' : EndLog) (gave : List Msg) → PollsBoxes in_box k log log' gave → All HasPriority gave
PollsBoxes-priorities in_box zero log log' gave p = subst (λ ms. All HasPriority ms) (sym p.1) (All-nil HasPriority)
PollsBoxes-priorities in_box (suc k) log log' gave p =
    subst (λ ms. All HasPriority ms) (sym p.5)
    (All-append HasPriority p.1 p.2 (PollsBoxes-priorities in_box k log p.0 p.1 p.3) (All-weaker (IsOfBox in_box p.0 k) HasPriority (λ m i. i.prio) p.2 p.4.each))

-- what boxes give may be answered: among one party more than so many controllers, what is of the system level
-- comes from a controller
pub PollsBoxes-answerable : (in_box : ℕ → ℕ → ℕ → ℕ → Type 0) (n k : ℕ) (log log' : EndLog) (gave : List Msg) → log.parties ≡ n + 1 → PollsBoxes in_box k log log' gave → All (IsAnswerable n) gave
PollsBoxes-answerable in_box n zero log log' gave e p = subst (λ ms. All (IsAnswerable n) ms) (sym p.1) (All-nil (IsAnswerable n))
PollsBoxes-answerable in_box n (suc k) log log' gave e p =
    let same : p.0.parties ≡ n + 1 = (Took-boxes in_box k log p.0 p.1 p.3).parties ∙ e in
    subst (λ ms. All (IsAnswerable n) ms) (sym p.5)
    (All-append (IsAnswerable n) p.1 p.2 (PollsBoxes-answerable in_box n k log p.0 p.1 e p.3)
    (All-weaker (KeepsToLevel p.0.parties) (IsAnswerable n) (λ m level system. let from = level system in omega (arith, from, same)) p.2 p.4.levels))

-- what was added to an empty list is all of it
pub PollsBoxes-whole : (in_box : ℕ → ℕ → ℕ → ℕ → Type 0) (k : ℕ) (log log' : EndLog) (old new : List Msg) → old ≡ [] → (gave : List Msg) × (new ≡ old ++ gave) × PollsBoxes in_box k log log' gave
    → PollsBoxes in_box k log log' new
PollsBoxes-whole in_box k log log' old new none found =
    let all : new ≡ found.0 = found.1 ∙ ap (λ xs. xs ++ found.0) none in
    subst (λ ms. PollsBoxes in_box k log log' ms) (sym all) found.2
