-- Pending lists as a function of the priority, and the message whose turn it is.
use Rattle.std.proofs.Common.{◌≡◌, ℕ, zero, suc, ◌+◌, ◌<◌, ◌≤◌, ◌==◌, Bool, true, false, not, List, [], ◌∷◌, ◌++◌, set, get_or, length, reverse, replicate, Option, Some, None, filter, position, Result, Ok, Err, OnOk, OnErr, MatchOption, inl, inr, refl, sym, ap, ◌∙◌, subst, arith, append_assoc, All}
use Rattle.std.specs.List.{position_or_len}
use Rattle.std.proofs.lemmas.Bool.{cases_eq, cases_lt, cond-true, cond-false, lt-ltb, ne_eqb, eq-eqb, true≢false}
use Rattle.std.proofs.lemmas.List.{get_or-set_same, get_or-set_other, length-set, get_or_past, get_or-replicate, get_or_read, reverse-append}
use Rattle.std.proofs.lemmas.List.Elements.{All-nil, All-cons, All-push, All-head, All-tail, filter-append}
use Rattle.std.proofs.lemmas.List.Quantifiers.{position-Some}
use Rattle.std.proofs.lemmas.List.Sums.{prefix_len_passes}
use mathlib.Core.Path.{fun_ext}
use Rattle.room_kinds.specs.declared.message.Msg.{Msg}
use Rattle.actor_merge.specs.Parties.{put, put_back, front_or, lowest, next_of}
use Rattle.actor_merge.proofs.Lanes.{put-same, put-other}
use Rattle.controller_mail.specs.MailState.{pending_of, messages_in, has_messages, IsRanked}
use Rattle.controller_mail.specs.Steps.{TakesFront}

-- one list replaced, seen as a function
pub pending_of-set : (lists : List (List Msg)) (at : ℕ) (ms : List Msg) → at < length lists → pending_of (set lists at ms) ≡ put (pending_of lists) at ms
pending_of-set lists at ms h = fun_ext (λ p. elim (cases_eq p at) [
  | inl same ↦ subst (λ q. get_or (set lists at ms) q [] ≡ put (pending_of lists) at ms q) (sym same)
      (get_or-set_same lists at ms [] h ∙ sym (put-same (pending_of lists) at ms))
  | inr other ↦ get_or-set_other lists at p ms [] other ∙ sym (put-other (pending_of lists) at ms p (ne_eqb p at other))
])

-- and each list still holds messages of its own priority alone
pub IsRanked-set : (lists : List (List Msg)) (at : ℕ) (ms : List Msg) → IsRanked lists → at < 6 → All (λ (m : Msg). m.prio.0 ≡ at) ms → IsRanked (set lists at ms)
IsRanked-set lists at ms r h own = record {
  six = length-set lists at ms ∙ r.six;
  own = λ p. elim (cases_eq p at) [
    | inl same ↦ subst (λ q. All (λ (m : Msg). m.prio.0 ≡ q) (get_or (set lists at ms) q [])) (sym same)
        (subst (λ xs. All (λ (m : Msg). m.prio.0 ≡ at) xs) (sym (get_or-set_same lists at ms [] (omega (arith, r.six)))) own)
    | inr other ↦ subst (λ xs. All (λ (m : Msg). m.prio.0 ≡ p) xs) (sym (get_or-set_other lists at p ms [] other)) (r.own p)
  ];
}

pub IsRanked-new : IsRanked (replicate 6 [])
IsRanked-new = record {
  six = refl;
  own = λ p. subst (λ xs. All (λ (m : Msg). m.prio.0 ≡ p) xs)
      (sym (elim (cases_lt p 6) [ inl within ↦ get_or-replicate 6 p [] [] within | inr past ↦ get_or_past (replicate 6 []) p [] past ]))
      (All-nil (λ (m : Msg). m.prio.0 ≡ p));
}

pub IsRanked-push_back : (lists : List (List Msg)) (m : Msg) → IsRanked lists → m.prio.0 < 6 → IsRanked (set lists m.prio.0 (get_or lists m.prio.0 [] ++ m ∷ []))
IsRanked-push_back lists m r h = IsRanked-set lists m.prio.0 _ r h (All-push (λ (x : Msg). x.prio.0 ≡ m.prio.0) (get_or lists m.prio.0 []) m (r.own m.prio.0) refl)

pub IsRanked-push_front : (lists : List (List Msg)) (m : Msg) → IsRanked lists → m.prio.0 < 6 → IsRanked (set lists m.prio.0 (m ∷ get_or lists m.prio.0 []))
IsRanked-push_front lists m r h = IsRanked-set lists m.prio.0 _ r h (All-cons (λ (x : Msg). x.prio.0 ≡ m.prio.0) m (get_or lists m.prio.0 []) refl (r.own m.prio.0))

-- no list from a priority on has messages
lowest-skips : (pending : ℕ → List Msg) (i k : ℕ) → ((j : ℕ) → i ≤ j → j < i + k → pending j ≡ []) → lowest pending i k ≡ None
unfolding lowest
lowest-skips pending i zero h = refl
lowest-skips pending i (suc k) h =
    ap (λ ms. front_or i ms (lowest pending (i + 1) k)) (h i (omega arith) (omega arith))
    ∙ lowest-skips pending (i + 1) k (λ j a b. h j (omega arith) (omega arith))

-- the first list that has messages
lowest-finds : (pending : ℕ → List Msg) (i k at : ℕ) (m : Msg) (rest : List Msg) → i ≤ at → at < i + k
    → ((j : ℕ) → i ≤ j → j < at → pending j ≡ []) → pending at ≡ m ∷ rest
    → lowest pending i k ≡ Some (record { priority = at; message = m; rest = rest })
unfolding lowest
lowest-finds pending i zero at m rest low high before here = absurd (omega arith)
lowest-finds pending i (suc k) at m rest low high before here = elim (cases_eq i at) [
  | inl same ↦ ap (λ ms. front_or i ms (lowest pending (i + 1) k)) (ap pending same ∙ here)
      ∙ ap (λ p. Some (record { priority = p; message = m; rest = rest })) same
  | inr other ↦ ap (λ ms. front_or i ms (lowest pending (i + 1) k)) (before i (omega arith) (omega arith))
      ∙ lowest-finds pending (i + 1) k at m rest (omega arith) (omega arith) (λ j a b. before j (omega arith) b) here
]

not_messages : (ms : List Msg) → has_messages ms ≡ false → ms ≡ []
not_messages [] e = refl
not_messages (m ∷ ms) e = absurd (true≢false (sym (ap not (ne_eqb (length (m ∷ ms)) 0 (λ z. absurd (omega (arith, z))))) ∙ e))

not_true : (b : Bool) → not b ≡ true → b ≡ false
not_true true e = sym e
not_true false e = refl

position-None : (lists : List (List Msg)) → position has_messages lists ≡ None → (k : ℕ) → k < length lists → get_or lists k [] ≡ []
position-None lists e k h = elim (cases_lt (position_or_len has_messages lists) (length lists)) [
  | inl within ↦
      let found = cond-true _ (Some (position_or_len has_messages lists)) None (lt-ltb (position_or_len has_messages lists) (length lists) within) in
      let both : Some (position_or_len has_messages lists) ≡ None = sym found ∙ e in cc
  | inr past ↦ not_messages _ (not_true _ (prefix_len_passes (λ ms. not (has_messages ms)) lists k [] (omega arith)))
]

-- nobody's turn
pub next_of-none : (lists : List (List Msg)) → IsRanked lists → position has_messages lists ≡ None → next_of (pending_of lists) ≡ None
next_of-none lists r e = lowest-skips (pending_of lists) 0 6 (λ j a b. position-None lists e j (omega (arith, r.six)))

-- the message whose turn it is stands in front of the first list that has messages
pub takes_front : (lists : List (List Msg)) (at : ℕ) (m : Msg) (rest : List Msg) → IsRanked lists → position has_messages lists ≡ Some at → get_or lists at [] ≡ m ∷ rest → TakesFront lists (set lists at rest) m
takes_front lists at m rest r e here =
    let found = position-Some has_messages lists at [] e in
    let own : m.prio.0 ≡ at = All-head (λ (x : Msg). x.prio.0 ≡ at) m rest (subst (λ xs. All (λ (x : Msg). x.prio.0 ≡ at) xs) here (r.own at)) in
    let low : at < 6 = omega (arith, found.0, r.six) in
    record {
      taken = record { priority = at; message = m; rest = rest };
      next = lowest-finds (pending_of lists) 0 6 at m rest (omega arith) low (λ j a b. not_messages _ (found.2 j b)) here;
      message = refl;
      rest = pending_of-set lists at rest found.0;
      priority = own;
      within = omega (arith, own, low);
    }

-- what is left of its list
pub IsRanked-pop : (lists : List (List Msg)) (at : ℕ) (m : Msg) (rest : List Msg) → IsRanked lists → at < length lists → get_or lists at [] ≡ m ∷ rest → IsRanked (set lists at rest)
IsRanked-pop lists at m rest r h here =
    IsRanked-set lists at rest r (omega (arith, r.six))
    (All-tail (λ (x : Msg). x.prio.0 ≡ at) m rest (subst (λ xs. All (λ (x : Msg). x.prio.0 ≡ at) xs) here (r.own at)))

-- no message comes back
pub put_back-nil : (f : ℕ → List Msg) → put_back [] f ≡ f
unfolding put_back
put_back-nil f = fun_ext (λ p. refl)

-- the last message that comes back stands behind the others
pub put_back-push : (ms : List Msg) (m : Msg) (f : ℕ → List Msg) → put_back (ms ++ m ∷ []) f ≡ put_back ms (put f m.prio.0 (m ∷ f m.prio.0))
unfolding put_back
put_back-push ms m f = fun_ext (λ p.
    let test = λ (x : Msg). x.prio.0 == p in
    ap (λ xs. xs ++ f p) (filter-append test ms (m ∷ []))
    ∙ append_assoc (filter test ms) (filter test (m ∷ [])) (f p)
    ∙ ap (λ xs. filter test ms ++ xs) (elim (cases_eq m.prio.0 p) [
      | inl same ↦ ap (λ xs. xs ++ f p) (cond-true (m.prio.0 == p) (m ∷ []) [] (eq-eqb m.prio.0 p same))
          ∙ subst (λ q. m ∷ f q ≡ put f m.prio.0 (m ∷ f m.prio.0) q) same (sym (put-same f m.prio.0 (m ∷ f m.prio.0)))
      | inr other ↦ ap (λ xs. xs ++ f p) (cond-false (m.prio.0 == p) (m ∷ []) [] (ne_eqb m.prio.0 p other))
          ∙ sym (put-other f m.prio.0 (m ∷ f m.prio.0) p (ne_eqb p m.prio.0 (λ e. other (sym e))))
    ]))

-- no message that comes back, by its number
pub put_back-empty : (ms : List Msg) (f : ℕ → List Msg) → length ms ≡ 0 → put_back ms f ≡ f
put_back-empty [] f e = put_back-nil f
put_back-empty (m ∷ ms) f e = absurd (omega (arith, e))

-- a list that was changed, or stayed for want of memory, still has messages of its own priority alone
pub changed_ranked : {E : Type 0} (r : Result (Unit {0}) E) (f : List Msg → List Msg) (lists : List (List Msg)) (at : ℕ) (old new : List Msg)
    → IsRanked lists → at < 6 → old ≡ get_or lists at old
    → (All (λ (x : Msg). x.prio.0 ≡ at) old → All (λ (x : Msg). x.prio.0 ≡ at) (f old))
    → OnOk r (new ≡ f old) → OnErr r (new ≡ old) → IsRanked (set lists at new)
changed_ranked (Ok u) f lists at old new r h here keeps ok err =
    let own = subst (λ xs. All (λ (x : Msg). x.prio.0 ≡ at) xs) (sym (get_or_read lists at old (omega (arith, r.six)) here [])) (r.own at) in
    IsRanked-set lists at new r h (subst (λ xs. All (λ (x : Msg). x.prio.0 ≡ at) xs) (sym ok) (keeps own))
changed_ranked (Err x) f lists at old new r h here keeps ok err =
    let own = subst (λ xs. All (λ (x : Msg). x.prio.0 ≡ at) xs) (sym (get_or_read lists at old (omega (arith, r.six)) here [])) (r.own at) in
    IsRanked-set lists at new r h (subst (λ xs. All (λ (x : Msg). x.prio.0 ≡ at) xs) (sym err) own)

-- what the lists are after the change
pub changed_ok : {E : Type 0} (r : Result (Unit {0}) E) (f : List Msg → List Msg) (lists view : List (List Msg)) (at p : ℕ) (old new : List Msg)
    → lists ≡ view → at ≡ p → at < length lists → old ≡ get_or lists at old → OnOk r (new ≡ f old)
    → OnOk r (pending_of (set lists at new) ≡ put (pending_of view) p (f (pending_of view p)))
changed_ok (Ok u) f lists view at p old new v e h here ok =
    pending_of-set lists at new h
    ∙ ap (λ xs. put (pending_of lists) at xs) (ok ∙ ap f (get_or_read lists at old h here []))
    ∙ ap (λ q. put (pending_of lists) q (f (pending_of lists q))) e
    ∙ ap (λ ls. put (pending_of ls) p (f (pending_of ls p))) v
changed_ok (Err x) f lists view at p old new v e h here ok = tt

-- the lists after the front of one was taken
pub popped_ranked : (o : Option Msg) (lists : List (List Msg)) (at : ℕ) (old new : List Msg) → IsRanked lists → at < length lists → old ≡ get_or lists at old
    → MatchOption o ((old ≡ []) × (new ≡ [])) (λ m. old ≡ m ∷ new) → IsRanked (set lists at new)
popped_ranked None lists at old new r h here e =
    IsRanked-set lists at new r (omega (arith, r.six)) (subst (λ xs. All (λ (x : Msg). x.prio.0 ≡ at) xs) (sym e.1) (All-nil (λ (x : Msg). x.prio.0 ≡ at)))
popped_ranked (Some m) lists at old new r h here e = IsRanked-pop lists at m new r h (sym (get_or_read lists at old h here []) ∙ e)

-- and what was taken is the message whose turn it is
pub popped : (o : Option Msg) (lists view : List (List Msg)) (at : ℕ) (old new : List Msg) → lists ≡ view → IsRanked lists → position has_messages lists ≡ Some at → old ≡ get_or lists at old
    → MatchOption o ((old ≡ []) × (new ≡ [])) (λ m. old ≡ m ∷ new)
    → MatchOption o ((next_of (pending_of view) ≡ None) × (set lists at new ≡ view)) (λ m. TakesFront view (set lists at new) m)
popped None lists view at old new v r e here gone =
    let found = position-Some has_messages lists at [] e in
    absurd (true≢false (sym found.1 ∙ ap has_messages (sym (get_or_read lists at old found.0 here []) ∙ gone.0)))
popped (Some m) lists view at old new v r e here gone =
    let found = position-Some has_messages lists at [] e in
    subst (λ ls. TakesFront ls (set lists at new) m) v (takes_front lists at m new r e (sym (get_or_read lists at old found.0 here []) ∙ gone))

-- the last of some lists in reverse comes first
pub messages_in-last : (lists : List (List Msg)) (last : List Msg) → messages_in (reverse (lists ++ last ∷ [])) ≡ last ++ messages_in (reverse lists)
messages_in-last lists last = ap messages_in (reverse-append lists (last ∷ []))

pub ruleset pending_steps = (pending_of-set, IsRanked-new)
