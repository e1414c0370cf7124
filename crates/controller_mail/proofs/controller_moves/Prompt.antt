-- What an end had posted to its own party was taken by a poll, or the poll took 64 messages of its priority.
use Rattle.std.proofs.Common.{◌≡◌, ℕ, zero, suc, ◌+◌, ◌<◌, ◌≤◌, ◌==◌, ◌&&◌, cond, if◌then◌else◌, ◌⊎◌, List, [], ◌∷◌, ◌++◌, length, All, inl, inr, refl, sym, ap, ◌∙◌, subst, arith, append-nil, zero-add}
use Rattle.std.proofs.lemmas.Bool.{cases_eq, cases_Bool, and_parts, eqb-true, eq-eqb}
use Rattle.std.proofs.lemmas.List.Elements.{All-head, All-tail, All-weaker}
use Rattle.std.proofs.lemmas.List.Sums.{sum_by-append}
use Rattle.room_kinds.specs.declared.message.Msg.{Msg}
use Rattle.mail_core.specs.EndLog.{EndLog}
use Rattle.mail_core.specs.Boxes.{poll_place}
use Rattle.mail_core.specs.Takes.{IsOfBox, PollsBoxes}
use Rattle.controller_mail.specs.MailState.{MailState}
use Rattle.controller_mail.specs.controller_moves.Moves.{FetchesEach, PollsInto, count_at}
use Rattle.controller_mail.proofs.controller_moves.Looked.{all_of, Took-box, Took-boxes}

-- the count of a message more in front
pub count_at-cons : (p : ℕ) (m : Msg) (ms : List Msg) → count_at p (m ∷ ms) ≡ cond (m.prio.0 == p) 1 0 + count_at p ms
count_at-cons p m ms = sum_by-append (λ (x : Msg). cond (x.prio.0 == p) 1 0) (m ∷ []) ms ∙ ap (λ k. k + count_at p ms) (zero-add (cond (m.prio.0 == p) 1 0))

-- all messages of one priority count
all_count : (p : ℕ) (ms : List Msg) → All (λ (m : Msg). m.prio.0 ≡ p) ms → count_at p ms ≡ length ms
all_count p [] a = refl
all_count p (m ∷ ms) a =
    let P : Msg → Type 0 = λ x. x.prio.0 ≡ p in
    let one = eq-eqb m.prio.0 p (All-head P m ms a) in
    let more : count_at p (m ∷ ms) ≡ 1 + count_at p ms = count_at-cons p m ms ∙ ap (λ b. cond b 1 0 + count_at p ms) one in
    let rest = all_count p ms (All-tail P m ms a) in
    omega (arith, more, rest)

-- no message is of a lane that each of them is not of
none_of : (s p : ℕ) (ms : List Msg) → All (λ (m : Msg). (s ≡ m.from.0) → (p ≡ m.prio.0) → ⊥) ms → all_of s p ms ≡ []
none_of s p [] a = refl
none_of s p (m ∷ ms) a =
    let P : Msg → Type 0 = λ x. (s ≡ x.from.0) → (p ≡ x.prio.0) → ⊥ in
    let rest = none_of s p ms (All-tail P m ms a) in
    elim (cases_Bool ((s == m.from.0) && (p == m.prio.0))) [
      | inl both ↦
          let parts = and_parts (s == m.from.0) (p == m.prio.0) both in
          absurd (All-head P m ms a (eqb-true s m.from.0 parts.0) (eqb-true p m.prio.0 parts.1))
      | inr other ↦ ap (λ b. (if b then m ∷ [] else []) ++ all_of s p ms) other ∙ rest
    ]

module _ (in_box : ℕ → ℕ → ℕ → ℕ → Type 0) (one_priority : (n b s p s' p' : ℕ) → in_box n b s p → in_box n b s' p' → p ≡ p')
    (poll_order : (n b s p b' s' p' : ℕ) → in_box n b s p → in_box n b' s' p' → b < b' → poll_place n s p < poll_place n s' p') (me n p : ℕ) where
  -- a box that gave 64 messages gave them at its priority
  full : (b : ℕ) (log : EndLog) (ns : List Msg) → log.parties ≡ n → in_box n b me p → All (IsOfBox in_box log b) ns → length ns ≡ 64 → count_at p ns ≡ 64
  full b log ns e here each long =
      all_count p ns (All-weaker (IsOfBox in_box log b) (λ (m : Msg). m.prio.0 ≡ p) (λ m i. one_priority n b m.from.0 m.prio.0 me p (subst (λ k. in_box k b m.from.0 m.prio.0) e i.lane) here) ns each) ∙ long

  -- a later box has no messages of this lane
  later : (b k : ℕ) (log : EndLog) (ns : List Msg) → log.parties ≡ n → b < k → in_box n b me p → All (IsOfBox in_box log k) ns → all_of me p ns ≡ []
  later b k log ns e before here each =
      none_of me p ns (All-weaker (IsOfBox in_box log k) (λ (m : Msg). (me ≡ m.from.0) → (p ≡ m.prio.0) → ⊥)
      (λ m i s q.
      let there : in_box n k me p = subst (λ x. in_box n k me x) (sym q) (subst (λ x. in_box n k x m.prio.0) (sym s) (subst (λ x. in_box x k m.from.0 m.prio.0) e i.lane)) in
      let less : poll_place n me p < poll_place n me p = poll_order n b me p k me p here there before in
      omega arith) ns each)

  -- the box of the lane is among those that were polled
  pub prompt : (k b : ℕ) (log log' : EndLog) (gave : List Msg) → log.party ≡ me → log.parties ≡ n → b < k → in_box n b me p → PollsBoxes in_box k log log' gave
      → (log'.posted me p ≡ log'.taken me p) ⊎ (64 ≤ count_at p gave)
  prompt zero b log log' gave e f before here q = absurd (omega arith)
  prompt (suc k) b log log' gave e f before here q =
      let mid = q.0 in
      let ns = q.2 in
      let first = Took-boxes in_box k log mid q.1 q.3 in
      let last = Took-box in_box k mid log' ns q.4 in
      let mid_parties : mid.parties ≡ n = first.parties ∙ f in
      let mid_party : mid.party ≡ me = first.party ∙ e in
      let sum : count_at p gave ≡ count_at p q.1 + count_at p ns = ap (count_at p) q.5 ∙ sum_by-append (λ (m : Msg). cond (m.prio.0 == p) 1 0) q.1 ns in
      elim (cases_eq b k) [
        | inl same ↦
            let here' : in_box n k me p = subst (λ x. in_box n x me p) same here in
            elim q.4.looks [
              | inl many ↦ inr (omega (arith, full k mid ns mid_parties here' q.4.each many.0, sum))
              | inr few ↦
                  let party : log'.party ≡ me = last.party ∙ mid_party in
                  let parties : log'.parties ≡ n = last.parties ∙ mid_parties in
                  let own : in_box log'.parties k log'.party p → log'.posted log'.party p ≡ log'.taken log'.party p = few.2.own p in
                  inl (subst (λ c. log'.posted c p ≡ log'.taken c p) party
                  (own (subst (λ c. in_box log'.parties k c p) (sym party) (subst (λ x. in_box x k me p) (sym parties) here'))))
            ]
        | inr other ↦
            let below : b < k = omega arith in
            elim (prompt k b log mid q.1 e f below here q.3) [
              | inl taken ↦
                  let none = later b k mid ns mid_parties below here q.4.each in
                  inl (ap (λ g. g me p) last.posted ∙ taken ∙ sym (append-nil (mid.taken me p)) ∙ ap (λ z. mid.taken me p ++ z) (sym none) ∙ sym (last.taken me p))
              | inr many ↦ inr (omega (arith, many, sum))
            ]
      ]

-- from a poll of all boxes of a controller and the fetches of what it gave
pub PollsInto-from : (in_box : ℕ → ℕ → ℕ → ℕ → Type 0) (box_count : ℕ → ℕ → ℕ)
    → ((n b s p s' p' : ℕ) → in_box n b s p → in_box n b s' p' → p ≡ p')
    → ((n b s p b' s' p' : ℕ) → in_box n b s p → in_box n b' s' p' → b < b' → poll_place n s p < poll_place n s' p')
    → ((n s r p : ℕ) → s < n → r + 1 < n → p < 6 → (b : ℕ) × (b < box_count r n) × in_box n b s p)
    → (old new : MailState) (log log' : EndLog) (gave : List Msg) (count : ℕ)
    → log.party + 1 < log.parties → PollsBoxes in_box (box_count log.party log.parties) log log' gave → FetchesEach old gave new → count ≡ length gave
    → PollsInto in_box (box_count log.party log.parties) old new log log' count
PollsInto-from in_box box_count one order has old new log log' gave count inside looks fetches counted = record {
  gave = gave;
  fetches = fetches;
  counted = counted;
  looks = looks;
  prompt = λ p within.
      let place = has log.parties log.party log.party p (omega arith) inside within in
      prompt in_box one order log.party log.parties p (box_count log.party log.parties) place.0 log log' gave refl refl place.1 place.2 looks;
}
