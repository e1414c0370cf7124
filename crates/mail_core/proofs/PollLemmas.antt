-- One look after another.
use Rattle.std.proofs.Common.{ℕ, ◌+◌, ◌<◌, ◌≡◌, List, [], ◌∷◌, ◌++◌, length, All, Option, Some, None, inl, inr, refl, sym, ap, subst, ◌∙◌, arith, append_assoc, add-one}
use Rattle.std.proofs.lemmas.List.{append-nil, length_push}
use Rattle.std.proofs.lemmas.List.Elements.{All-nil, All-push}
use Rattle.room_kinds.specs.declared.message.Msg.{Msg}
use Rattle.mail_core.specs.EndLog.{EndLog, taking}
use Rattle.mail_core.specs.Takes.{IsOfBox, KeepsToLevel, OwnIsTaken, taking_all, PollsBox, PollsBoxes}

taking_all-push : (log : EndLog) (b : ℕ) (ms : List Msg) (m : Msg) → taking_all log b (ms ++ m ∷ []) ≡ taking (taking_all log b ms) b (Some m)
taking_all-push log b [] m = refl
taking_all-push log b (x ∷ ms) m = taking_all-push (taking log b (Some x)) b ms m

-- who the end is stays
pub party-taking : (log : EndLog) (b : ℕ) (o : Option Msg) → (taking log b o).party ≡ log.party
unfolding taking
party-taking log b None = refl
party-taking log b (Some m) = refl

pub parties-taking : (log : EndLog) (b : ℕ) (o : Option Msg) → (taking log b o).parties ≡ log.parties
unfolding taking
parties-taking log b None = refl
parties-taking log b (Some m) = refl

-- the first looks of a poll of a box, so many as they gave messages
pub record Looked (in_box : ℕ → ℕ → ℕ → ℕ → Type 0) (b k : ℕ) (log log' : EndLog) (ms ms' : List Msg) : Type 0 where
  pub gave : List Msg
  pub count : length gave ≡ k
  pub list : ms' ≡ ms ++ gave
  pub each : All (IsOfBox in_box log b) gave
  pub levels : All (KeepsToLevel log.parties) gave
  pub logged : log' ≡ taking_all log b gave

pub Looked-none : {in_box : ℕ → ℕ → ℕ → ℕ → Type 0} {b : ℕ} {log : EndLog} {ms : List Msg} → Looked in_box b 0 log log ms ms
Looked-none {in_box = in_box} {b = b} {log = log} {ms = ms} = record { gave = []; count = refl; list = sym (append-nil ms); each = All-nil (IsOfBox in_box log b); levels = All-nil (KeepsToLevel log.parties); logged = refl }

IsOfBox-earlier : {in_box : ℕ → ℕ → ℕ → ℕ → Type 0} {b : ℕ} {log log' : EndLog} {m : Msg} → IsOfBox in_box log' b m → log'.party ≡ log.party → log'.parties ≡ log.parties → IsOfBox in_box log b m
IsOfBox-earlier {in_box = in_box} {b = b} {m = m} i e f = record {
  to = i.to ∙ e;
  from = rw (← f) i.from;
  prio = i.prio;
  lane = subst (λ n. in_box n b m.from.0 m.prio.0) f i.lane;
}

pub Looked-found : {in_box : ℕ → ℕ → ℕ → ℕ → Type 0} {b k : ℕ} {log log' log'' : EndLog} {ms ms' ms'' : List Msg} (m : Msg) → Looked in_box b k log log' ms ms' → IsOfBox in_box log' b m → KeepsToLevel log'.parties m →
    log'.party ≡ log.party → log'.parties ≡ log.parties → log'' ≡ taking log' b (Some m) → ms'' ≡ ms' ++ m ∷ [] → Looked in_box b (k + 1) log log'' ms ms''
Looked-found {in_box = in_box} {b = b} {log = log} {ms = ms} m l i v e f t g = record {
  gave = l.gave ++ m ∷ [];
  count = omega (arith, length_push l.gave m, l.count);
  list = g ∙ ap (λ xs. xs ++ m ∷ []) l.list ∙ append_assoc ms l.gave (m ∷ []);
  each = All-push (IsOfBox in_box log b) l.gave m l.each (IsOfBox-earlier i e f);
  levels = All-push (KeepsToLevel log.parties) l.gave m l.levels (subst (λ n. KeepsToLevel n m) f v);
  logged = t ∙ ap (λ x. taking x b (Some m)) l.logged ∙ sym (taking_all-push log b l.gave m);
}

OwnIsTaken-look : {in_box : ℕ → ℕ → ℕ → ℕ → Type 0} (b : ℕ) (log : EndLog) → OwnIsTaken in_box log b → OwnIsTaken in_box (taking log b None) b
unfolding taking
OwnIsTaken-look b log o = record { own = o.own }

pub polls_full : {in_box : ℕ → ℕ → ℕ → ℕ → Type 0} {b k : ℕ} {log log' : EndLog} {ms ms' : List Msg} → Looked in_box b k log log' ms ms' → k ≡ 64 → (gave : List Msg) × (ms' ≡ ms ++ gave) × PollsBox in_box b log log' gave
polls_full l e = (l.gave, l.list, record { each = l.each; levels = l.levels; looks = inl (l.count ∙ e, l.logged) })

pub polls_fewer : {in_box : ℕ → ℕ → ℕ → ℕ → Type 0} {b k : ℕ} {log log' log'' : EndLog} {ms ms' : List Msg} → Looked in_box b k log log' ms ms' → k < 64 → log'' ≡ taking log' b None → OwnIsTaken in_box log' b →
    (gave : List Msg) × (ms' ≡ ms ++ gave) × PollsBox in_box b log log'' gave
polls_fewer {in_box = in_box} {b = b} {log' = log'} l h t o = (
  l.gave,
  l.list,
  record {
    each = l.each;
    levels = l.levels;
    looks = inr (rw (← l.count) at h, t ∙ ap (λ x. taking x b None) l.logged, subst (λ x. OwnIsTaken in_box x b) (sym t) (OwnIsTaken-look b log' o));
  },
)

-- the polls of the boxes below k, with the list to which they add
pub record Polled (in_box : ℕ → ℕ → ℕ → ℕ → Type 0) (k : ℕ) (log log' : EndLog) (ms ms' : List Msg) : Type 0 where
  pub gave : List Msg
  pub list : ms' ≡ ms ++ gave
  pub polled : PollsBoxes in_box k log log' gave

pub Polled-none : {in_box : ℕ → ℕ → ℕ → ℕ → Type 0} {log : EndLog} {ms : List Msg} → Polled in_box 0 log log ms ms
Polled-none {ms = ms} = record { gave = []; list = sym (append-nil ms); polled = (refl, refl) }

pub Polled-more : {in_box : ℕ → ℕ → ℕ → ℕ → Type 0} {k : ℕ} {log log' log'' : EndLog} {ms ms' ms'' : List Msg} → Polled in_box k log log' ms ms' →
    (gave : List Msg) × (ms'' ≡ ms' ++ gave) × PollsBox in_box k log' log'' gave → Polled in_box (k + 1) log log'' ms ms''
Polled-more {in_box = in_box} {k = k} {log = log} {log' = log'} {log'' = log''} {ms = ms} p q = record {
  gave = p.gave ++ q.0;
  list = q.1 ∙ ap (λ xs. xs ++ q.0) p.list ∙ append_assoc ms p.gave q.0;
  polled = rw add-one (log', p.gave, q.0, p.polled, q.2, refl);
}

pub ruleset poll_steps = (Looked-none, Looked-found, polls_full, polls_fewer, Polled-none, Polled-more, party-taking, parties-taking)
