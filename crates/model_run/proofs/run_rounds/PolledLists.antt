-- What a poll gave.
use Rattle.std.proofs.Common.{◌≡◌, ℕ, zero, suc, ◌+◌, ◌<◌, inl, inr, List, [], ◌∷◌, ◌++◌, None, Some, All, refl, sym, ap, ◌∙◌, subst}
use Rattle.std.proofs.lemmas.List.Elements.{All-head, All-tail}
use Rattle.room_kinds.specs.declared.message.Msg.{Msg}
use Rattle.journal.specs.declared.entry.Entry.{Entry}
use Rattle.mail_core.specs.EndLog.{EndLog, taking}
use Rattle.mail_core.specs.Takes.{IsOfBox, taking_all, PollsBox, PollsBoxes}
use Rattle.mail_core.proofs.PollLemmas.{parties-taking}
use Rattle.actor_world.specs.Journals.{is_turn}
use Rattle.model_run.specs.run_rounds.Rounds.{IsFetchWithin, FetchesWithin, Fetched}
use Rattle.model_run.proofs.run_rounds.PromptLists.{NoTurns}

-- messages from these parties, at one of six priorities
abbrev pub MessagesWithin : ℕ → List Msg → Type 0
MessagesWithin parties [] = Unit {0}
MessagesWithin parties (m ∷ ms) = ((m.from.0 < parties) × (m.prio.0 < 6)) × MessagesWithin parties ms

messages_append : (parties : ℕ) (a b : List Msg) → MessagesWithin parties a → MessagesWithin parties b → MessagesWithin parties (a ++ b)
messages_append parties [] b h k = k
messages_append parties (m ∷ a) b h k = (h.0, messages_append parties a b h.1 k)

module _ (in_box : ℕ → ℕ → ℕ → ℕ → Type 0) where
  of_box : (log : EndLog) (b : ℕ) (ms : List Msg) → All (IsOfBox in_box log b) ms → MessagesWithin log.parties ms
  of_box log b [] h = tt
  of_box log b (m ∷ ms) h =
      let first = All-head (IsOfBox in_box log b) m ms h in
      ((first.from, first.prio), of_box log b ms (All-tail (IsOfBox in_box log b) m ms h))

  parties-all : (log : EndLog) (b : ℕ) (ms : List Msg) → (taking_all log b ms).parties ≡ log.parties
  parties-all log b [] = refl
  parties-all log b (m ∷ ms) = parties-all (taking log b (Some m)) b ms ∙ parties-taking log b (Some m)

  parties-box : (b : ℕ) (log log' : EndLog) (gave : List Msg) → PollsBox in_box b log log' gave → log'.parties ≡ log.parties
  parties-box b log log' gave p = elim p.looks [
    | inl full ↦ ap (λ (z : EndLog). z.parties) full.1 ∙ parties-all log b gave
    | inr fewer ↦ ap (λ (z : EndLog). z.parties) fewer.1 ∙ parties-taking (taking_all log b gave) b None ∙ parties-all log b gave
  ]

  -- what a poll gave came from the parties that there are
  pub polled_within : (boxes : ℕ) (log log' : EndLog) (gave : List Msg) → PollsBoxes in_box boxes log log' gave → (log'.parties ≡ log.parties) × MessagesWithin log.parties gave
  polled_within zero log log' gave p = (ap (λ (z : EndLog). z.parties) p.0, subst (λ (z : List Msg). MessagesWithin log.parties z) (sym p.1) tt)
  polled_within (suc k) log log' gave p =
      let before = polled_within k log p.0 p.1 p.3 in
      let here = of_box p.0 k p.2 p.4.each in (
        parties-box k p.0 log' p.2 p.4 ∙ before.0,
        subst (λ (z : List Msg). MessagesWithin log.parties z) (sym p.5)
            (messages_append log.parties p.1 p.2 before.1 (subst (λ (z : ℕ). MessagesWithin z p.2) before.0 here)),
      )

pub fetched_within : (n : ℕ) (ms : List Msg) (es : List Entry) → MessagesWithin (n + 1) ms → Fetched ms es → FetchesWithin n es
fetched_within n [] [] w h = tt
fetched_within n [] (e ∷ es) w h = absurd h
fetched_within n (m ∷ ms) [] w h = absurd h
fetched_within n (m ∷ ms) (e ∷ es) w h = (subst (IsFetchWithin n) (sym h.0.1) w.0, fetched_within n ms es w.1 h.1)

pub fetched_no_turns : (ms : List Msg) (es : List Entry) → Fetched ms es → NoTurns es
fetched_no_turns [] [] h = tt
fetched_no_turns [] (e ∷ es) h = absurd h
fetched_no_turns (m ∷ ms) [] h = absurd h
fetched_no_turns (m ∷ ms) (e ∷ es) h = (ap is_turn h.0.1, fetched_no_turns ms es h.1)

pub within_append : (n : ℕ) (a b : List Entry) → FetchesWithin n a → FetchesWithin n b → FetchesWithin n (a ++ b)
within_append n [] b h k = k
within_append n (e ∷ a) b h k = (h.0, within_append n a b h.1 k)
