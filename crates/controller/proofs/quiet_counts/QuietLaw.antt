-- What counts say of the world that the journals leave.
use Rattle.std.proofs.Common.{◌≡◌, ℕ, zero, suc, ◌+◌, ◌<◌, ◌==◌, ◌↔◌, inl, inr, Bool, true, false, ◌&&◌, ◌||◌, not, List, [], ◌∷◌, map, length, slice_get, slice_index_or, Some, refl, sym, ap, ◌∙◌, subst, arith, eqb-true, eq-eqb}
use Rattle.std.specs.List.{sum_by, count_by, list_any}
use Rattle.std.proofs.lemmas.Bool.{and_parts, and_from, or_cases, or_left, or_right, or_parts, ne_eqb, eqb-false, not_from_false, true≢false}
use Rattle.std.proofs.lemmas.List.Sums.{sum_by-cons, sum_by-append}
use Rattle.std.proofs.lemmas.Option.{slice_get_within}
use Rattle.room_kinds.specs.declared.message.Msg.{Msg}
use Rattle.room_kinds.specs.declared.numbers.ControllerId.{ControllerId}
use Rattle.journal.specs.declared.entry.Entry.{Entry}
use Rattle.actor_merge.specs.Parties.{State, Line}
use Rattle.actor_merge.specs.World.{World, IsQuiet}
use Rattle.actor_world.specs.Body.{Body}
use Rattle.actor_world.specs.Journals.{HasMessage, in_lane, in_pending, in_outbox}
use Rattle.chart_behaviour.specs.ModelCharts.{Actor}
use Rattle.controller_mail.specs.MailState.{EnvironmentState, pending_of, has_messages}
use Rattle.controller_actors.specs.declared.plant.Plant.{Plant}
use Rattle.controller.specs.Controllers.{run_plant}
use Rattle.controller.specs.Calls.{is_fetch}
use Rattle.controller.specs.View.{Controller}
use Rattle.controller.proofs.Standing.{some_at}
use Rattle.controller.specs.declared.quiet_counts.counted.Counted.{Counted}
use Rattle.controller.specs.declared.quiet_counts.counted.Counted.TheVariants.{Posts, PostsTo, Fetches}
use Rattle.controller.specs.quiet_counts.Counts.{is_counted, is_post_to, counted_in_all, keeps_messages}
use Rattle.controller.specs.quiet_counts.Stands.{journals, journal_at, StandsAt}
use Rattle.controller.proofs.quiet_counts.LanesLaw.{even_empties, empties_even, odd_waits, waits_odd}

-- as many entries fetch as post, and no controller keeps a message
abbrev pub quiet_by_counts : List Controller → EnvironmentState → Bool
quiet_by_counts ks env = (counted_in_all Posts ks env == counted_in_all Fetches ks env) && not (list_any keeps_messages ks)

-- controller c, which is this one, keeps a message, or it fetched another number than was posted to it
abbrev pub message_by_counts : List Controller → EnvironmentState → ControllerId → Controller → Bool
message_by_counts ks env c k = keeps_messages k || not (counted_in_all (PostsTo c) ks env == count_by is_fetch k.mail.journal)

-- what waits in a controller
has_some : (m : Msg) (ms : List Msg) → has_messages (m ∷ ms) ≡ true
has_some m ms = not_from_false _ (ne_eqb (length (m ∷ ms)) 0 (λ z. absurd (omega (arith, z))))

none_waits : (lists : List (List Msg)) → list_any has_messages lists ≡ false → (p : ℕ) → pending_of lists p ≡ []
none_waits [] h p = refl
none_waits ([] ∷ lists) h zero = refl
none_waits ([] ∷ lists) h (suc p) = none_waits lists h p
none_waits ((m ∷ ms) ∷ lists) h p = absurd (true≢false (sym (ap (λ b. b || list_any has_messages lists) (has_some m ms)) ∙ h))

-- a list that has messages
record Some_list (lists : List (List Msg)) : Type 0 where
  priority : ℕ
  some : 0 < length (pending_of lists priority)

some_waits : (lists : List (List Msg)) → list_any has_messages lists ≡ true → Some_list lists
some_waits [] h = absurd (true≢false (sym h))
some_waits ([] ∷ lists) h = let s = some_waits lists h in record { priority = suc s.priority; some = s.some }
some_waits ((m ∷ ms) ∷ lists) h = record { priority = 0; some = omega arith }

none_outside : (ms : List Msg) → not (length ms == 0) ≡ false → ms ≡ []
none_outside [] h = refl
none_outside (m ∷ ms) h = absurd (true≢false (sym (has_some m ms) ∙ h))

some_outside : (ms : List Msg) → not (length ms == 0) ≡ true → 0 < length ms
some_outside [] h = absurd (true≢false (sym h))
some_outside (m ∷ ms) h = omega arith

keeps_nothing : (k : Controller) → ((p : ℕ) → pending_of k.mail.pending p ≡ []) → k.mail.outbox ≡ [] → keeps_messages k ≡ false
keeps_nothing k pending outbox = go (keeps_messages k) refl
  where
    go : (b : Bool) → keeps_messages k ≡ b → keeps_messages k ≡ false
    go false e = e
    go true e = absurd (elim (or_cases _ _ e) [
      | inl waits ↦
          let s = some_waits k.mail.pending waits in
          let some = s.some in
          let none : length (pending_of k.mail.pending s.priority) ≡ 0 = ap (λ (z : List Msg). length z) (pending s.priority) in
          omega arith
      | inr out ↦
          let some = some_outside k.mail.outbox out in
          let none : length k.mail.outbox ≡ 0 = ap (λ (z : List Msg). length z) outbox in
          omega arith
    ])

-- tests of all controllers
none_there : {X : Type 0} (p : X → Bool) (xs : List X) → list_any p xs ≡ false → (c : ℕ) (x : X) → slice_get xs c ≡ Some x → p x ≡ false
none_there p [] h c x at = absurd (omega (arith, slice_get_within [] c x at))
none_there p (y ∷ ys) h zero x at = let same : y ≡ x = cc in ap p (sym same) ∙ (or_parts (p y) (list_any p ys) h).0
none_there p (y ∷ ys) h (suc c) x at = none_there p ys (or_parts (p y) (list_any p ys) h).1 c x at

each_fails : {X : Type 0} (p : X → Bool) (xs : List X) → ((c : ℕ) (x : X) → slice_get xs c ≡ Some x → p x ≡ false) → list_any p xs ≡ false
each_fails p [] h = refl
each_fails p (x ∷ xs) h = ap (λ b. b || list_any p xs) (h 0 x refl) ∙ each_fails p xs (λ c y at. h (suc c) y at)

-- journals of all parties
journal_of : (ks : List Controller) (env : EnvironmentState) (c : ℕ) (k : Controller) → slice_get ks c ≡ Some k → journal_at ks env c ≡ k.mail.journal
journal_of [] env c k at = absurd (omega (arith, slice_get_within [] c k at))
journal_of (x ∷ ks) env zero k at = let same : x ≡ k = cc in ap (λ (z : Controller). z.mail.journal) same
journal_of (x ∷ ks) env (suc c) k at = journal_of ks env c k at

sum_mapped : (f : List Entry → ℕ) (ks : List Controller) → sum_by f (map (λ (k : Controller). k.mail.journal) ks) ≡ sum_by (λ (k : Controller). f k.mail.journal) ks
sum_mapped f [] = refl
sum_mapped f (k ∷ ks) =
    sum_by-cons f k.mail.journal (map (λ (k : Controller). k.mail.journal) ks)
    ∙ ap (λ z. f k.mail.journal + z) (sum_mapped f ks)
    ∙ sym (sum_by-cons (λ (k : Controller). f k.mail.journal) k ks)

counted : (which : Counted) (ks : List Controller) (env : EnvironmentState) → counted_in_all which ks env ≡ sum_by (count_by (is_counted which)) (journals ks env)
counted which ks env =
    let f : List Entry → ℕ = count_by (is_counted which) in
    let last : sum_by f (env.journal ∷ []) ≡ f env.journal + 0 = sum_by-cons f env.journal [] in
    let all = sum_by-append f (map (λ (k : Controller). k.mail.journal) ks) (env.journal ∷ []) in
    let each = sum_mapped f ks in
    omega arith

not_none : (b : Bool) → (b ≡ false → ⊥) → b ≡ true
not_none true h = refl
not_none false h = absurd (h refl)

waits_there : (lists : List (List Msg)) (p : ℕ) → 0 < length (pending_of lists p) → list_any has_messages lists ≡ true
waits_there lists p some =
    not_none (list_any has_messages lists) (λ none.
    let empty : length (pending_of lists p) ≡ 0 = ap (λ (z : List Msg). length z) (none_waits lists none p) in
    absurd (omega arith))

waits_outside : (ms : List Msg) → 0 < length ms → not (length ms == 0) ≡ true
waits_outside ms some = not_none (not (length ms == 0)) (λ none.
    let empty : length ms ≡ 0 = ap (λ (z : List Msg). length z) (none_outside ms none) in
    absurd (omega arith))

not_from_true : (b : Bool) → not b ≡ true → b ≡ false
not_from_true true h = absurd (true≢false (sym h))
not_from_true false h = refl

-- tests joined in code
even_part : (a b : Bool) (Q : Type 0) → ((a && b) ≡ true) ↔ Q → a ≡ true → (b ≡ true) ↔ Q
even_part true b Q h e = h
even_part false b Q h e = absurd (true≢false (sym e))

odd_part : (a b : Bool) (Q : Type 0) → ((a && b) ≡ true) ↔ Q → a ≡ false → (a ≡ true) ↔ Q
odd_part true b Q h e = absurd (true≢false e)
odd_part false b Q h e = h

first_part : (a b : Bool) (Q : Type 0) → ((a || b) ≡ true) ↔ Q → a ≡ true → (a ≡ true) ↔ Q
first_part true b Q h e = h
first_part false b Q h e = absurd (true≢false (sym e))

second_part : (a b : Bool) (Q : Type 0) → ((a || b) ≡ true) ↔ Q → a ≡ false → (b ≡ true) ↔ Q
second_part true b Q h e = absurd (true≢false e)
second_part false b Q h e = h

module _ (plant : Plant) (ks : List Controller) (env : EnvironmentState) (w : World (Body Actor)) (s : StandsAt plant ks env w) where
  pending_is : (c : ℕ) (k : Controller) → slice_get ks c ≡ Some k → (p : ℕ) → (w.controllers c).pending p ≡ pending_of k.mail.pending p
  pending_is c k at p = ap (λ (z : State (Body Actor)). z.pending p) (s.states c k at)

  outbox_is : (c : ℕ) (k : Controller) → slice_get ks c ≡ Some k → (w.controllers c).outbox ≡ k.mail.outbox
  outbox_is c k at = ap (λ (z : State (Body Actor)). z.outbox) (s.states c k at)

  from_counts : (lines : List Line) → quiet_by_counts ks env ≡ true → IsQuiet (run_plant plant lines) w
  from_counts lines h =
      let parts = and_parts (counted_in_all Posts ks env == counted_in_all Fetches ks env) (not (list_any keeps_messages ks)) h in
      let even = sym (counted Posts ks env) ∙ eqb-true (counted_in_all Posts ks env) (counted_in_all Fetches ks env) parts.0 ∙ counted Fetches ks env in
      let nothing = not_from_true (list_any keeps_messages ks) parts.1 in
      record {
        lanes = even_empties (journals ks env) w.lanes s.lanes even;
        pending = λ c p below.
            let k = some_at ks c (omega (arith, s.count)) in
            let none = or_parts (list_any has_messages k.0.mail.pending) (not (length k.0.mail.outbox == 0)) (none_there keeps_messages ks nothing c k.0 k.1) in
            pending_is c k.0 k.1 p ∙ none_waits k.0.mail.pending none.0 p;
        outbox = λ c below.
            let k = some_at ks c (omega (arith, s.count)) in
            let none = or_parts (list_any has_messages k.0.mail.pending) (not (length k.0.mail.outbox == 0)) (none_there keeps_messages ks nothing c k.0 k.1) in
            outbox_is c k.0 k.1 ∙ none_outside k.0.mail.outbox none.1;
      }

  to_counts : (lines : List Line) → IsQuiet (run_plant plant lines) w → quiet_by_counts ks env ≡ true
  to_counts lines q =
      let even = counted Posts ks env ∙ empties_even (journals ks env) w.lanes s.lanes q.lanes ∙ sym (counted Fetches ks env) in
      and_from _ _ (eq-eqb (counted_in_all Posts ks env) (counted_in_all Fetches ks env) even) (not_from_false (list_any keeps_messages ks)
      (each_fails keeps_messages ks (λ c k at.
      let below = slice_get_within ks c k at in
      keeps_nothing k
      (λ p. sym (pending_is c k at p) ∙ q.pending c p (omega (arith, s.count)))
      (sym (outbox_is c k at) ∙ q.outbox c (omega (arith, s.count))))))

  pub quiet_is : (lines : List Line) → (quiet_by_counts ks env ≡ true) ↔ IsQuiet (run_plant plant lines) w
  quiet_is lines = (from_counts lines, to_counts lines)

  module _ (posted fetched : ℕ) (some : Bool) (posts : posted ≡ counted_in_all Posts ks env) (fetches : fetched ≡ counted_in_all Fetches ks env) (keep : some ≡ list_any keeps_messages ks) where
    tested : (lines : List Line) → (((posted == fetched) && not some) ≡ true) ↔ IsQuiet (run_plant plant lines) w
    tested lines =
        subst (λ (b : Bool). (((posted == fetched) && not b) ≡ true) ↔ IsQuiet (run_plant plant lines) w) (sym keep)
        (subst (λ (z : ℕ). (((posted == z) && not (list_any keeps_messages ks)) ≡ true) ↔ IsQuiet (run_plant plant lines) w) (sym fetches)
        (subst (λ (z : ℕ). (((z == counted_in_all Fetches ks env) && not (list_any keeps_messages ks)) ≡ true) ↔ IsQuiet (run_plant plant lines) w) (sym posts)
        (quiet_is lines)))

    pub quiet_if_even : posted ≡ fetched → (lines : List Line) → (not some ≡ true) ↔ IsQuiet (run_plant plant lines) w
    quiet_if_even e lines = even_part (posted == fetched) (not some) (IsQuiet (run_plant plant lines) w) (tested lines) (eq-eqb posted fetched e)

  module _ (posted fetched : ℕ) (posts : posted ≡ counted_in_all Posts ks env) (fetches : fetched ≡ counted_in_all Fetches ks env) where
    pub busy_if_odd : (posted ≡ fetched → ⊥) → (lines : List Line) → ((posted == fetched) ≡ true) ↔ IsQuiet (run_plant plant lines) w
    busy_if_odd e lines =
        odd_part (posted == fetched) (not (list_any keeps_messages ks)) (IsQuiet (run_plant plant lines) w)
        (tested posted fetched (list_any keeps_messages ks) posts fetches refl lines) (ne_eqb posted fetched e)

  module _ (c : ControllerId) (k : Controller) (at : slice_get ks c.0 ≡ Some k) where
    abbrev posts : ℕ
    posts = counted_in_all (PostsTo c) ks env

    abbrev fetches : ℕ
    fetches = count_by is_fetch k.mail.journal

    -- the same of the journals
    even_there : posts ≡ fetches → sum_by (count_by (is_post_to c.0)) (journals ks env) ≡ count_by is_fetch (slice_index_or (journals ks env) c.0 [])
    even_there e = sym (counted (PostsTo c) ks env) ∙ e ∙ ap (λ (z : List Entry). count_by is_fetch z) (sym (journal_of ks env c.0 k at))

    even_here : sum_by (count_by (is_post_to c.0)) (journals ks env) ≡ count_by is_fetch (slice_index_or (journals ks env) c.0 []) → posts ≡ fetches
    even_here e = counted (PostsTo c) ks env ∙ e ∙ ap (λ (z : List Entry). count_by is_fetch z) (journal_of ks env c.0 k at)

    kept_message : keeps_messages k ≡ true → HasMessage w c.0
    kept_message h = elim (or_cases (list_any has_messages k.mail.pending) (not (length k.mail.outbox == 0)) h) [
      | inl waits ↦
          let some = some_waits k.mail.pending waits in
          in_pending some.priority (subst (λ (z : List Msg). 0 < length z) (sym (pending_is c.0 k at some.priority)) some.some)
      | inr out ↦ in_outbox (subst (λ (z : List Msg). 0 < length z) (sym (outbox_is c.0 k at)) (some_outside k.mail.outbox out))
    ]

    lane_message : not (posts == fetches) ≡ true → HasMessage w c.0
    lane_message h =
        let found = odd_waits (journals ks env) w.lanes s.lanes c.0 (λ e. eqb-false posts fetches (not_from_true (posts == fetches) h) (even_here e)) in
        in_lane found.sender found.priority found.some

    from_message : HasMessage w c.0 → message_by_counts ks env c k ≡ true
    from_message (in_lane sender priority some) =
        or_right _ _ (not_from_false (posts == fetches) (ne_eqb posts fetches (λ e. waits_odd (journals ks env) w.lanes s.lanes c.0 sender priority some (even_there e))))
    from_message (in_pending priority some) =
        or_left _ _ (or_left _ _ (waits_there k.mail.pending priority (subst (λ (z : List Msg). 0 < length z) (pending_is c.0 k at priority) some)))
    from_message (in_outbox some) =
        or_left _ _ (or_right _ _ (waits_outside k.mail.outbox (subst (λ (z : List Msg). 0 < length z) (outbox_is c.0 k at) some)))

    to_message : message_by_counts ks env c k ≡ true → HasMessage w c.0
    to_message h = elim (or_cases (keeps_messages k) (not (posts == fetches)) h) [ inl keeps ↦ kept_message keeps | inr odd ↦ lane_message odd ]

    pub message_is : (message_by_counts ks env c k ≡ true) ↔ HasMessage w c.0
    message_is = (to_message, from_message)

    module _ (posted fetched : ℕ) (keeps : Bool) (posts_are : posted ≡ posts) (fetches_are : fetched ≡ fetches) (keeps_is : keeps ≡ keeps_messages k) where
      tested_message : ((keeps || not (posted == fetched)) ≡ true) ↔ HasMessage w c.0
      tested_message =
          subst (λ (b : Bool). ((b || not (posted == fetched)) ≡ true) ↔ HasMessage w c.0) (sym keeps_is)
          (subst (λ (z : ℕ). ((keeps_messages k || not (posted == z)) ≡ true) ↔ HasMessage w c.0) (sym fetches_are)
          (subst (λ (z : ℕ). ((keeps_messages k || not (z == fetches)) ≡ true) ↔ HasMessage w c.0) (sym posts_are)
          message_is))

      pub message_if_kept : keeps ≡ true → (keeps ≡ true) ↔ HasMessage w c.0
      message_if_kept e = first_part keeps (not (posted == fetched)) (HasMessage w c.0) tested_message e

      pub message_if_odd : keeps ≡ false → (not (posted == fetched) ≡ true) ↔ HasMessage w c.0
      message_if_odd e = second_part keeps (not (posted == fetched)) (HasMessage w c.0) tested_message e
