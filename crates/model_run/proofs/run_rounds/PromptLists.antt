-- Lists of entries with prompt turns.
use Rattle.std.proofs.Common.{◌≡◌, ℕ, ◌+◌, ◌<◌, ◌≤◌, ◌⊎◌, inl, inr, Bool, true, false, if◌then◌else◌, List, [], ◌∷◌, ◌++◌, refl, sym, ap, ◌∙◌, subst, arith, append_assoc, append-nil}
use Rattle.room_kinds.specs.declared.message.Msg.{Msg}
use Rattle.journal.specs.declared.entry.Entry.{Entry}
use Rattle.mail_core.specs.EndLog.{EndLog}
use Rattle.actor_merge.specs.Mail.{lane, taken, given}
use Rattle.actor_merge.proofs.Rounds.{taken-append, given-append}
use Rattle.actor_world.specs.Journals.{is_turn, fetches_at, fetches_since}
use Rattle.model_run.specs.run_rounds.Prompts.{MayTurn, PromptFrom, OwnFetched, EndsAs}

-- entries without a turn
abbrev pub NoTurns : List Entry → Type 0
NoTurns [] = Unit {0}
NoTurns (e ∷ es) = (is_turn e ≡ false) × NoTurns es

pub no_turns_prompt : (c : ℕ) (before es : List Entry) → NoTurns es → PromptFrom c before es
no_turns_prompt c before [] h = tt
no_turns_prompt c before (e ∷ es) h = (λ t. let no : is_turn e ≡ false = h.0 in absurd cc, no_turns_prompt c (before ++ e ∷ []) es h.1)

-- one list after another
pub prompt_append : (c : ℕ) (before a b : List Entry) → PromptFrom c before a → PromptFrom c (before ++ a) b → PromptFrom c before (a ++ b)
prompt_append c before [] b h k = subst (λ (z : List Entry). PromptFrom c z b) (append-nil before) k
prompt_append c before (e ∷ a) b h k =
    (h.0, prompt_append c (before ++ e ∷ []) a b h.1 (subst (λ (z : List Entry). PromptFrom c z b) (sym (append_assoc before (e ∷ []) a)) k))

-- one turn
pub prompt_turn : (c : ℕ) (before : List Entry) (e : Entry) → MayTurn c before → PromptFrom c before (e ∷ [])
prompt_turn c before e h = (λ t. h, tt)

-- each turn among them
pub prompt_at : (c : ℕ) (before front : List Entry) (e : Entry) (back : List Entry) → PromptFrom c before (front ++ e ∷ back) → is_turn e ≡ true → MayTurn c (before ++ front)
prompt_at c before [] e back h t = subst (λ (z : List Entry). MayTurn c z) (sym (append-nil before)) (h.0 t)
prompt_at c before (x ∷ front) e back h t =
    subst (λ (z : List Entry). MayTurn c z) (append_assoc before (x ∷ []) front) (prompt_at c (before ++ x ∷ []) front e back h.1 t)

since-append : (p k : ℕ) (a b : List Entry) → fetches_since p k (a ++ b) ≡ fetches_since p (fetches_since p k a) b
since-append p k [] b = refl
since-append p k (e ∷ a) b = since-append p (if is_turn e then 0 else if fetches_at p e then k + 1 else k) a b

step_more : (t f : Bool) (j k : ℕ) → j ≤ k → (if t then 0 else if f then j + 1 else j) ≤ (if t then 0 else if f then k + 1 else k)
step_more true f j k h = omega arith
step_more false true j k h = omega arith
step_more false false j k h = h

since-more : (p : ℕ) (es : List Entry) (j k : ℕ) → j ≤ k → fetches_since p j es ≤ fetches_since p k es
since-more p [] j k h = h
since-more p (e ∷ es) j k h = since-more p es _ _ (step_more (is_turn e) (fetches_at p e) j k h)

-- so many fetches among the last entries
pub since_behind : (p : ℕ) (a b : List Entry) → 64 ≤ fetches_since p 0 b → 64 ≤ fetches_since p 0 (a ++ b)
since_behind p a b h =
    let more : fetches_since p 0 b ≤ fetches_since p (fetches_since p 0 a) b = since-more p b 0 (fetches_since p 0 a) (omega arith) in
    subst (λ (z : ℕ). 64 ≤ z) (sym (since-append p 0 a b)) (omega arith)

-- a fresh end, where all was fetched
pub ends_fresh : (c : ℕ) (before : List Entry) (log : EndLog) → OwnFetched c before → ((p : ℕ) → log.posted c p ≡ []) → ((p : ℕ) → log.taken c p ≡ []) → EndsAs c before log
ends_fresh c before log h posted taken_none = record {
  lists = λ p b. (
    given (lane c c p) c before,
    sym (append-nil (given (lane c c p) c before)) ∙ ap (λ (z : List Msg). given (lane c c p) c before ++ z) (sym (posted p)),
    sym (h.all p b) ∙ sym (append-nil (given (lane c c p) c before)) ∙ ap (λ (z : List Msg). given (lane c c p) c before ++ z) (sym (taken_none p)),
  );
}

-- after more entries, which the end did
pub ends_more : (c : ℕ) (before es : List Entry) (old new : EndLog) → EndsAs c before old
    → ((p : ℕ) → new.posted c p ≡ old.posted c p ++ given (lane c c p) c es)
    → ((p : ℕ) → new.taken c p ≡ old.taken c p ++ taken (lane c c p) c es) → EndsAs c (before ++ es) new
ends_more c before es old new h posted took = record {
  lists = λ p b.
      let l = lane c c p in
      let x = (h.lists p b).0 in (
        x,
        given-append l c before es ∙ ap (λ (z : List Msg). z ++ given l c es) (h.lists p b).1
            ∙ append_assoc x (old.posted c p) (given l c es) ∙ ap (λ (z : List Msg). x ++ z) (sym (posted p)),
        taken-append l c before es ∙ ap (λ (z : List Msg). z ++ taken l c es) (h.lists p b).2
            ∙ append_assoc x (old.taken c p) (taken l c es) ∙ ap (λ (z : List Msg). x ++ z) (sym (took p)),
      );
}

-- at each priority the end took all that it posted to itself, or 64 messages were fetched last
pub may_turn : (c : ℕ) (before last : List Entry) (log : EndLog) → EndsAs c (before ++ last) log
    → ((p : ℕ) → p < 6 → (log.posted c p ≡ log.taken c p) ⊎ (64 ≤ fetches_since p 0 last)) → MayTurn c (before ++ last)
may_turn c before last log h prompt p b = elim (prompt p b) [
  | inl all ↦ inl ((h.lists p b).1 ∙ ap (λ (z : List Msg). (h.lists p b).0 ++ z) all ∙ sym (h.lists p b).2)
  | inr many ↦ inr (since_behind p before last many)
]

-- where all that was posted before, and all that was posted since, was fetched
pub own_append : (c : ℕ) (a b : List Entry) → OwnFetched c a → OwnFetched c b → OwnFetched c (a ++ b)
own_append c a b h k = record {
  all = λ p below.
      let l = lane c c p in
      given-append l c a b ∙ ap (λ (z : List Msg). z ++ given l c b) (h.all p below) ∙ ap (λ (z : List Msg). taken l c a ++ z) (k.all p below)
      ∙ sym (taken-append l c a b);
}

pub may_turn_even : (c : ℕ) (es : List Entry) → OwnFetched c es → MayTurn c es
may_turn_even c es h p b = inl (h.all p b)
