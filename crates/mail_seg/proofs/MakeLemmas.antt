-- The ends of a set-up.
use Rattle.std.proofs.Common.{◌≡◌, ℕ, zero, suc, ◌+◌, ◌-◌, ◌*◌, ◌<◌, inl, inr, List, [], ◌∷◌, ◌++◌, length, map, get_or, slice_get, slice_index, Some, None, sym, ap, subst, refl, ◌∙◌, arith}
use Rattle.std.proofs.lemmas.Bool.{cases_eq, cases_lt, eq-eqb, ne_eqb, lt-ltb, le-ltb}
use Rattle.std.proofs.lemmas.List.{get_or-map, length-map, length_push, get_or_push, get_or_append_left, get_or_past}
use Rattle.std.proofs.lemmas.Option.{slice_get_within, slice_get-get_or, get_or_from_slice_get, none-some}
use mathlib.Core.Path.{fun_ext}
use Rattle.mail_core.specs.EndLog.{fresh}
use Rattle.mail_core.specs.Lanes.{log_at}
use Rattle.mail_core.specs.SetUp.{AreFresh}
use Rattle.mail_seg.specs.declared.ends.MailSeg.{MailSeg}
use Rattle.mail_seg.specs.Sides.{Side, from_sender}
use Rattle.mail_seg.specs.Wires.{Wire, IsWire, IsWired, wiring, wire_of, wire_at, no_wire, poster_count}
use Rattle.mail_seg.specs.Ends.{no_side, side_at, sides_of, wiring_of, first_list, posted_at, taken_at, log_of, AreTied}
use Rattle.mail_seg.specs.Rows.{row_at, new_side, RowsTo, IsEnd, EndsTo}
use Rattle.mail_seg.proofs.PosterLemmas.{posters-some, posters-none, controller-posts}
use Rattle.mail_seg.proofs.EndLemmas.{posted_at-within, posted_at-beyond, taken_at-within, taken_at-beyond}

-- a new pass is to its box, and carries nothing
new_side-is : (n r p s : ℕ) (q : ℕ × ℕ) → r + 1 < n → IsWire n r p s (wire_of (new_side n r p q s)) × ((wire_of (new_side n r p q s)).queue ≡ q) × (first_list (new_side n r p q s).posts ≡ []) × ((new_side n r p q s).got ≡ [])
new_side-is n r p s q inside = elim (cases_eq s r) [
  | inl same ↦
      let posts : s < poster_count n p = controller-posts n p s (omega (arith, same, inside)) in
      rw (eq-eqb s r same) (record { to = refl; prio = refl; parties = ap (λ x. x ∷ []) (sym same) ∙ sym (posters-some n p s posts); own = λ _. (refl, refl) }, refl, refl, refl)
  | inr other ↦ elim (cases_lt s (poster_count n p)) [
    | inl posts ↦ rw (ne_eqb s r other, lt-ltb s (poster_count n p) posts) (record { to = refl; prio = refl; parties = sym (posters-some n p s posts); own = λ e. absurd (other e) }, refl, refl, refl)
    | inr past ↦ rw (ne_eqb s r other, le-ltb s (poster_count n p) past) (record { to = refl; prio = refl; parties = sym (posters-none n p s past); own = λ e. absurd (other e) }, refl, refl, refl)
  ]
]

module _ (n : ℕ) (rows : List (List Side)) (all : RowsTo ((n - 1) * 6) n rows) where
  new_at : (k r b : ℕ) → k < n → r + 1 < n → b < 6 → side_at (row_at rows k) (r * 6 + b) ≡ new_side n r (5 - b) (all.queue (r * 6 + b)) k
  new_at k r b h l low = all.each k r b h low (omega arith)

  wire_is : (k r b : ℕ) → k < n → r + 1 < n → b < 6 → wire_at (wiring k n (row_at rows k)) r b ≡ wire_of (side_at (row_at rows k) (r * 6 + b))
  wire_is k r b h l low = get_or-map wire_of (row_at rows k) (r * 6 + b) no_side no_wire (omega (arith, all.len k h))

  pub row_wired : (k : ℕ) → k < n → IsWired (wiring k n (row_at rows k))
  row_wired k h = record {
    one_of = h;
    all = omega (arith, length-map (row_at rows k) wire_of, all.len k h);
    each = λ r b l low. subst (IsWire n r (5 - b) k) (sym (wire_is k r b h l low ∙ ap wire_of (new_at k r b h l low))) (new_side-is n r (5 - b) k (all.queue (r * 6 + b)) l).0;
  }

  pub queue_is : (k r b : ℕ) → k < n → r + 1 < n → b < 6 → (wire_at (wiring k n (row_at rows k)) r b).queue ≡ all.queue (r * 6 + b)
  queue_is k r b h l low = ap (λ (w : Wire). w.queue) (wire_is k r b h l low ∙ ap wire_of (new_at k r b h l low)) ∙ (new_side-is n r (5 - b) k (all.queue (r * 6 + b)) l).1

  -- nothing is posted and nothing taken, within the boxes and past them
  empty_posts : (k r p : ℕ) → k < n → p < 6 → first_list (side_at (row_at rows k) (r * 6 + (5 - p))).posts ≡ []
  empty_posts k r p h l = elim (cases_lt (r + 1) n) [
    | inl inside ↦ ap (λ (a : Side). first_list a.posts) (new_at k r (5 - p) h inside (omega arith)) ∙ (new_side-is n r (5 - (5 - p)) k (all.queue (r * 6 + (5 - p))) inside).2
    | inr past ↦ ap (λ (a : Side). first_list a.posts) (get_or_past (row_at rows k) (r * 6 + (5 - p)) no_side (omega (arith, all.len k h)))
  ]

  empty_got : (k r p : ℕ) → k < n → p < 6 → (side_at (row_at rows k) (r * 6 + (5 - p))).got ≡ []
  empty_got k r p h l = elim (cases_lt (r + 1) n) [
    | inl inside ↦ ap (λ (a : Side). a.got) (new_at k r (5 - p) h inside (omega arith)) ∙ (new_side-is n r (5 - (5 - p)) k (all.queue (r * 6 + (5 - p))) inside).3
    | inr past ↦ ap (λ (a : Side). a.got) (get_or_past (row_at rows k) (r * 6 + (5 - p)) no_side (omega (arith, all.len k h)))
  ]

  pub row_empty : (k : ℕ) → k < n → (posted_at (row_at rows k) ≡ (λ _ _. [])) × (taken_at (row_at rows k) k ≡ (λ _ _. []))
  row_empty k h = (
    fun_ext (λ r. fun_ext (λ p. elim (cases_lt p 6) [
      | inr past ↦ posted_at-beyond (row_at rows k) r p past
      | inl low ↦ posted_at-within (row_at rows k) r p low ∙ empty_posts k r p h low
    ])),
    fun_ext (λ s. fun_ext (λ p. elim (cases_lt p 6) [
      | inr past ↦ taken_at-beyond (row_at rows k) k s p past
      | inl low ↦ taken_at-within (row_at rows k) k s p low ∙ ap (from_sender s) (empty_got k k p h low)
    ])),
  )

pub EndsTo-none : (n : ℕ) (rows : List (List Side)) → EndsTo 0 n rows []
EndsTo-none n rows = record { count = refl; each = λ j e at. absurd (none-some e at) }

pub EndsTo-push : {k n : ℕ} {rows : List (List Side)} {ends ends' : List MailSeg} (e : MailSeg) → EndsTo k n rows ends → IsEnd n k (row_at rows k) e → ends' ≡ ends ++ e ∷ [] → EndsTo (k + 1) n rows ends'
EndsTo-push {k = k} {n = n} {rows = rows} {ends = ends} {ends' = ends'} e all new g = record {
  count = omega (arith, ap length g, length_push ends e, all.count);
  each = λ j x at.
      let at' : slice_get (ends ++ e ∷ []) j ≡ Some x = ap (λ es. slice_get es j) (sym g) ∙ at in
      let within : j < length (ends ++ e ∷ []) = slice_get_within (ends ++ e ∷ []) j x at' in
      let is : get_or (ends ++ e ∷ []) j x ≡ x = get_or_from_slice_get (ends ++ e ∷ []) j x x at' in
      elim (cases_eq j k) [
        | inl same ↦
            let it : e ≡ x = sym (get_or_push ends e x j (all.count ∙ sym same)) ∙ is in
            subst (λ y. IsEnd n j (row_at rows j) y) it (subst (λ i. IsEnd n i (row_at rows i) e) (sym same) new)
        | inr other ↦
            let below : j < length ends = omega (arith, within, length_push ends e, all.count) in
            all.each j x (slice_get-get_or ends j x below ∙ ap Some (sym (get_or_append_left ends (e ∷ []) x j below) ∙ is))
      ];
}

pub some_within : {X : Type 0} (xs : List X) (k : ℕ) → k < length xs → slice_get xs k ≡ None → ⊥
some_within [] k h e = absurd (omega arith)
some_within (x ∷ xs) zero h e = none-some x (sym e)
some_within (x ∷ xs) (suc k) h e = some_within xs k (omega arith) e

pub EndsTo-fresh : (n : ℕ) (rows : List (List Side)) (ends : List MailSeg) → EndsTo n n rows ends → AreFresh n (map log_of ends)
EndsTo-fresh n rows ends all = record {
  count = length-map ends log_of ∙ all.count;
  each = λ k h.
      let inside : k < length ends = omega (arith, all.count) in
      elim (slice_get ends k) as (λ o. slice_get ends k ≡ o → log_at (map log_of ends) k ≡ fresh n k) [
        | None ↦ λ e. absurd (some_within ends k inside e)
        | Some x ↦ λ e. get_or-map log_of ends k x (fresh 0 0) inside ∙ ap log_of (get_or_from_slice_get ends k x x e) ∙ (all.each k x e).log
      ] refl;
}

pub EndsTo-tied : (n : ℕ) (rows : List (List Side)) (ends : List MailSeg) → RowsTo ((n - 1) * 6) n rows → EndsTo n n rows ends → AreTied tt ends
EndsTo-tied n rows ends made all =
    let queue : (s r b : ℕ) (a : MailSeg) → slice_get ends s ≡ Some a → r + 1 < n → b < 6 → (wire_at (wiring_of a) r b).queue ≡ made.queue (r * 6 + b) = λ s r b a at l low.
    let one = all.each s a at in
    let h : s < n = let w = slice_get_within ends s a at in omega (arith, w, all.count) in
    ap (λ xs. (wire_at (wiring s n xs) r b).queue) one.sides_are ∙ queue_is n rows made s r b h l low in
    record {
      place = λ k e at. let it = all.each k e at in (it.party, it.parties ∙ sym all.count);
      one_queue = λ s t r b a c from to l low.
          let l' : r + 1 < n = rw (sym all.count) l in
          queue s r b a from l' low ∙ sym (queue t r b c to l' low);
    }

-- an end of these passes
pub IsEnd-new : (n j : ℕ) (e : MailSeg) → e.party ≡ j → e.parties ≡ n → posted_at (sides_of e) ≡ (λ _ _. []) → taken_at (sides_of e) e.party ≡ (λ _ _. []) → slice_index e.looks.items ≡ (λ _. 0) → IsEnd n j (sides_of e) e
IsEnd-new n j e party parties posted taken looks = record {
  party = party;
  parties = parties;
  sides_are = refl;
  log = λ i. record { party = party i; parties = parties i; posted = posted i; taken = taken i; looks = looks i };
}

pub ruleset end_steps = (IsEnd-new)

pub ruleset make_steps = (EndsTo-none, EndsTo-fresh, EndsTo-tied)
