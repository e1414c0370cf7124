-- Lanes are empty where as many messages were fetched as were posted.
use Rattle.std.proofs.Common.{◌≡◌, ℕ, ◌+◌, ◌<◌, ◌==◌, inl, inr, Bool, true, false, if◌then◌else◌, List, [], ◌∷◌, ◌++◌, length, slice_index_or, refl, sym, ap, ◌∙◌, subst, arith, eqb-true, eq-eqb, length-append}
use Rattle.std.specs.List.{sum_by, count_by}
use Rattle.room_kinds.specs.declared.message.Msg.{Msg}
use Rattle.journal.specs.declared.entry.Entry.{Entry}
use Rattle.actor_merge.specs.Mail.{Lane, lane, is_lane, takes, gives, taken, given}
use Rattle.controller.specs.Calls.{is_post, is_fetch}
use Rattle.controller.specs.quiet_counts.Counts.{is_post_to}
use Rattle.controller.proofs.quiet_counts.Bags.{times, SameOrMore, same_or_more}
use Rattle.controller.proofs.quiet_counts.Keys.{lanes_tell_apart, of_all, of_parties, own_all, others_all, count_all, count_parties, at_end, given_is, taken_is, given_to_is, post_key, fetch_key, post_to_key, gives_to, posts_name, fetches_name, posts_to_name}

no_messages : (ms : List Msg) → length ms ≡ 0 → ms ≡ []
no_messages [] h = refl
no_messages (m ∷ ms) h = absurd (omega arith)

-- the journals of all parties in order of number, and what they leave in the lanes
module _ (js : List (List Entry)) (lanes : Lane → List Msg)
    (queues : (l : Lane) → given l l.sender (slice_index_or js l.sender []) ≡ taken l l.receiver (slice_index_or js l.receiver []) ++ lanes l) where
  counts : (l : Lane) → length (given l l.sender (slice_index_or js l.sender [])) ≡ length (taken l l.receiver (slice_index_or js l.receiver [])) + length (lanes l)
  counts l = ap (λ (z : List Msg). length z) (queues l) ∙ length-append (taken l l.receiver (slice_index_or js l.receiver [])) (lanes l)

  posted : (l : Lane) → times (is_lane l) (of_parties post_key 0 js) ≡ length (given l l.sender (slice_index_or js l.sender []))
  posted l = at_end post_key gives (λ z. z.sender) is_post posts_name l js ∙ ap (λ (z : List Msg). length z) (given_is l l.sender (slice_index_or js l.sender []))

  fetched : (l : Lane) → times (is_lane l) (of_parties fetch_key 0 js) ≡ length (taken l l.receiver (slice_index_or js l.receiver []))
  fetched l = at_end fetch_key takes (λ z. z.receiver) is_fetch fetches_name l js ∙ ap (λ (z : List Msg). length z) (taken_is l l.receiver (slice_index_or js l.receiver []))

  all_lanes : SameOrMore (of_parties post_key 0 js) (of_parties fetch_key 0 js) (λ l. length (lanes l))
  all_lanes =
      same_or_more is_lane lanes_tell_apart (of_parties fetch_key 0 js) (of_parties post_key 0 js) (λ l. length (lanes l))
      (λ l. posted l ∙ counts l ∙ ap (λ z. z + length (lanes l)) (sym (fetched l)))

  -- no lane holds a message exactly where as many entries fetch as post
  pub even_empties : sum_by (count_by is_post) js ≡ sum_by (count_by is_fetch) js → (l : Lane) → lanes l ≡ []
  even_empties even l =
      let p = count_parties post_key gives (λ z. z.sender) is_post posts_name 0 js in
      let f = count_parties fetch_key takes (λ z. z.receiver) is_fetch fetches_name 0 js in
      elim all_lanes [
        | inl same ↦ no_messages (lanes l) (same.1 l)
        | inr more ↦ let longer = more.0 in absurd (omega arith)
      ]

  pub empties_even : ((l : Lane) → lanes l ≡ []) → sum_by (count_by is_post) js ≡ sum_by (count_by is_fetch) js
  empties_even empty =
      let p = count_parties post_key gives (λ z. z.sender) is_post posts_name 0 js in
      let f = count_parties fetch_key takes (λ z. z.receiver) is_fetch fetches_name 0 js in
      elim all_lanes [
        | inl same ↦ let e = same.0 in omega arith
        | inr more ↦
            let some = more.1.1 in
            let none : length (lanes more.1.0) ≡ 0 = ap (λ (z : List Msg). length z) (empty more.1.0) in
            absurd (omega arith)
      ]

  module _ (c : ℕ) where
    abbrev waiting : Lane → List Msg
    waiting l = if l.receiver == c then lanes l else []

    posted_to : (l : Lane) → times (is_lane l) (of_parties (post_to_key c) 0 js) ≡ length (if l.receiver == c then given l l.sender (slice_index_or js l.sender []) else [])
    posted_to l =
        at_end (post_to_key c) (gives_to c) (λ z. z.sender) (is_post_to c) (posts_to_name c) l js
        ∙ ap (λ (z : List Msg). length z) (given_to_is c l l.sender (slice_index_or js l.sender []))

    fetched_by : (l : Lane) → times (is_lane l) (of_all fetch_key c (slice_index_or js c [])) ≡ length (taken l c (slice_index_or js c []))
    fetched_by l = own_all fetch_key takes (λ z. z.receiver) is_fetch fetches_name l c (slice_index_or js c []) ∙ ap (λ (z : List Msg). length z) (taken_is l c (slice_index_or js c []))

    others_by : (l : Lane) → (l.receiver == c) ≡ false → length (taken l c (slice_index_or js c [])) ≡ 0
    others_by l other =
        ap (λ (z : List Msg). length z) (sym (taken_is l c (slice_index_or js c [])) ∙ others_all fetch_key takes (λ z. z.receiver) is_fetch fetches_name l c (slice_index_or js c []) other)

    counts_to : (l : Lane) (b : Bool) → (l.receiver == c) ≡ b
        → length (if b then given l l.sender (slice_index_or js l.sender []) else []) ≡ length (taken l c (slice_index_or js c [])) + length (if b then lanes l else [])
    counts_to l true h =
        let at : l.receiver ≡ c = eqb-true l.receiver c h in
        subst (λ z. length (given l l.sender (slice_index_or js l.sender [])) ≡ length (taken l z (slice_index_or js z [])) + length (lanes l)) at (counts l)
    counts_to l false h = let none = others_by l h in omega arith

    lanes_to : SameOrMore (of_parties (post_to_key c) 0 js) (of_all fetch_key c (slice_index_or js c [])) (λ l. length (waiting l))
    lanes_to =
        same_or_more is_lane lanes_tell_apart (of_all fetch_key c (slice_index_or js c [])) (of_parties (post_to_key c) 0 js) (λ l. length (waiting l))
        (λ l. posted_to l ∙ counts_to l (l.receiver == c) refl ∙ ap (λ z. z + length (waiting l)) (sym (fetched_by l)))

    -- a lane to this controller that holds a message
    pub record Waiting : Type 0 where
      pub sender : ℕ
      pub priority : ℕ
      pub some : 0 < length (lanes (lane sender c priority))

    waits_in : (l : Lane) (b : Bool) → (l.receiver == c) ≡ b → 0 < length (if b then lanes l else []) → Waiting
    waits_in l false h some = absurd (omega arith)
    waits_in l true h some =
        let at : l.receiver ≡ c = eqb-true l.receiver c h in
        record { sender = l.sender; priority = l.priority; some = subst (λ z. 0 < length (lanes (lane l.sender z l.priority))) at some }

    pub odd_waits : (sum_by (count_by (is_post_to c)) js ≡ count_by is_fetch (slice_index_or js c []) → ⊥) → Waiting
    odd_waits odd =
        let p = count_parties (post_to_key c) (gives_to c) (λ z. z.sender) (is_post_to c) (posts_to_name c) 0 js in
        let f = count_all fetch_key takes (λ z. z.receiver) is_fetch fetches_name c (slice_index_or js c []) in
        elim lanes_to [
          | inl same ↦ let e = same.0 in absurd (odd (omega arith))
          | inr more ↦ waits_in more.1.0 (more.1.0.receiver == c) refl more.1.1
        ]

    pub waits_odd : (s q : ℕ) → 0 < length (lanes (lane s c q)) → sum_by (count_by (is_post_to c)) js ≡ count_by is_fetch (slice_index_or js c []) → ⊥
    waits_odd s q some even =
        let p = count_parties (post_to_key c) (gives_to c) (λ z. z.sender) (is_post_to c) (posts_to_name c) 0 js in
        let f = count_all fetch_key takes (λ z. z.receiver) is_fetch fetches_name c (slice_index_or js c []) in
        let here : waiting (lane s c q) ≡ lanes (lane s c q) = ap (λ (b : Bool). if b then lanes (lane s c q) else []) (eq-eqb c c refl) in
        elim lanes_to [
          | inl same ↦ let none = sym (ap (λ (z : List Msg). length z) here) ∙ same.1 (lane s c q) in absurd (omega arith)
          | inr more ↦ let longer = more.0 in absurd (omega arith)
        ]
