-- The ends of a set-up.
use Rattle.std.proofs.Common.{◌≡◌, ℕ, zero, suc, ◌+◌, ◌*◌, ◌<◌, ◌≤◌, inl, inr, List, [], ◌∷◌, ◌++◌, length, map, get_or, slice_get, slice_index, Option, Some, None, sym, ap, subst, refl, ◌∙◌, arith}
use Rattle.std.proofs.lemmas.Bool.{cases_eq, cases_lt}
use Rattle.std.proofs.lemmas.List.{get_or-map, length-map, length_push, get_or_push, get_or_append_left, get_or_past}
use Rattle.std.proofs.lemmas.Option.{slice_get_within, slice_get-get_or, get_or_from_slice_get, none-some}
use mathlib.Core.Path.{fun_ext}
use Rattle.mail_core.specs.EndLog.{fresh}
use Rattle.mail_core.specs.Lanes.{log_at}
use Rattle.mail_core.specs.SetUp.{AreFresh}
use Rattle.mail_lanes.specs.declared.ends.MailLanes.{MailLanes}
use Rattle.mail_lanes.specs.Lanes.{OutLane, InLane, out_at, in_at, no_lane}
use Rattle.mail_lanes.specs.Wires.{OutWire, IsWired, no_wire, out_wire, in_wire, IsInOf, IsOutOf}
use Rattle.mail_lanes.specs.Parts.{wiring, in_wire_of, out_wire_of}
use Rattle.mail_lanes.specs.Ends.{by_six, posted_at, taken_in, taken_at, Joined, AreTied, outs_of, ins_of, wiring_of, log_of}
use Rattle.mail_lanes.specs.Made.{RowsTo, IsEnd, EndsTo, row_at, tab_at}
use Rattle.mail_lanes.proofs.EndLemmas.{by_six-within, by_six-beyond}

pub out_wire-row : (a n r p : ℕ) (outs : List OutLane) (ins : List (Option InLane)) → length outs + 6 ≡ n * 6 → r + 1 < n → p < 6 → out_wire (wiring a n outs ins) r p ≡ (out_at outs (r * 6 + p)).wire
out_wire-row a n r p outs ins l h b = get_or-map out_wire_of outs (r * 6 + p) no_lane no_wire (omega (arith, l))

pub in_wire-tab : (a n s p : ℕ) (outs : List OutLane) (ins : List (Option InLane)) → length ins ≡ n * 6 → s < n → p < 6 → in_wire (wiring a n outs ins) s p ≡ in_wire_of (in_at ins (s * 6 + p))
in_wire-tab a n s p outs ins l h b = get_or-map in_wire_of ins (s * 6 + p) None None (omega (arith, l))

-- the lanes of one party are wired
pub row_wired : (n a : ℕ) (rows : List (List OutLane)) (tabs : List (List (Option InLane))) → RowsTo n n rows tabs → a < n → IsWired (wiring a n (row_at rows a) (tab_at tabs a))
row_wired n a rows tabs all h =
    let outs = row_at rows a in
    let ins = tab_at tabs a in
    record {
      one_of = h;
      all_outs = ap (λ m. m + 6) (length-map outs out_wire_of) ∙ all.out_count a h;
      all_ins = λ me. length-map ins in_wire_of ∙ all.in_count a me;
      outs = λ r p l b. subst (IsOutOf a r p) (sym (out_wire-row a n r p outs ins (all.out_count a h) l b)) (all.pairs a r p h l b).out;
      ins = λ s p me l b other. subst (IsInOf s a p) (sym (in_wire-tab a n s p outs ins (all.in_count a me) l b)) ((all.pairs s a p l me b).far other).0;
      own_out = λ p me b. ap (λ (w : OutWire). w.takes) (out_wire-row a n a p outs ins (all.out_count a h) me b) ∙ ((all.pairs a a p h me b).own refl).0;
      own_in = λ p me b. in_wire-tab a n a p outs ins (all.in_count a me) h b ∙ ap in_wire_of ((all.pairs a a p h me b).own refl).1;
    }

-- what is stolen does not hang on the other end
pub taken_in-else : (s r p : ℕ) (o o' : OutLane) (i : Option InLane) → IsInOf s r p (in_wire_of i) → taken_in o i ≡ [] → taken_in o' i ≡ []
taken_in-else s r p o o' None w e = absurd (none-some (s, r, p) w)
taken_in-else s r p o o' (Some i) w e = e

pub row_empty : (n a : ℕ) (rows : List (List OutLane)) (tabs : List (List (Option InLane))) → RowsTo n n rows tabs → a < n →
    (by_six (posted_at (row_at rows a)) ≡ (λ _ _. [])) × (by_six (taken_at (row_at rows a) (tab_at tabs a)) ≡ (λ _ _. []))
row_empty n a rows tabs all h =
    let outs = row_at rows a in
    let ins = tab_at tabs a in
    let past_out = λ (i : ℕ) (l : n * 6 ≤ i + 6). get_or_past outs i no_lane (omega (arith, all.out_count a h, l)) in (
      fun_ext (λ k. fun_ext (λ p. elim (cases_lt p 6) [
        | inr past ↦ by_six-beyond (posted_at outs) k p past
        | inl b ↦ by_six-within (posted_at outs) k p b ∙ elim (cases_lt (k + 1) n) [
          | inl l ↦ (all.pairs a k p h l b).posted
          | inr l ↦ ap (λ (o : OutLane). o.posted) (past_out (k * 6 + p) (omega arith))
        ]
      ])),
      fun_ext (λ k. fun_ext (λ p. elim (cases_lt p 6) [
        | inr past ↦ by_six-beyond (taken_at outs ins) k p past
        | inl b ↦ by_six-within (taken_at outs ins) k p b ∙ elim (cases_lt (a + 1) n) [
          | inl me ↦ elim (cases_lt k n) [
            | inl l ↦ elim (cases_eq k a) [
              | inl same ↦ subst (λ j. taken_in (out_at outs (j * 6 + p)) (in_at ins (j * 6 + p)) ≡ []) (sym same) (all.pairs a a p h me b).taken
              | inr other ↦ taken_in-else k a p (out_at (row_at rows k) (a * 6 + p)) (out_at outs (k * 6 + p)) (in_at ins (k * 6 + p)) ((all.pairs k a p l me b).far other).0 (all.pairs k a p l me b).taken
            ]
            | inr l ↦
                let none : in_at ins (k * 6 + p) ≡ None = get_or_past ins (k * 6 + p) None (omega (arith, all.in_count a me, l)) in
                ap (λ i. taken_in (out_at outs (k * 6 + p)) i) none ∙ ap (λ (o : OutLane). o.taken) (past_out (k * 6 + p) (omega arith))
          ]
          | inr last ↦
              let none : in_at ins (k * 6 + p) ≡ None = ap (λ is. in_at is (k * 6 + p)) (all.rest a last) in
              ap (λ i. taken_in (out_at outs (k * 6 + p)) i) none ∙ elim (cases_lt (k + 1) n) [
                | inl l ↦ (all.pairs a k p h l b).none_own
                | inr l ↦ ap (λ (o : OutLane). o.taken) (past_out (k * 6 + p) (omega arith))
              ]
        ]
      ])),
    )

pub EndsTo-none : (n : ℕ) (rows : List (List OutLane)) (tabs : List (List (Option InLane))) → EndsTo 0 n rows tabs []
EndsTo-none n rows tabs = record { count = refl; each = λ j e at. absurd (none-some e at) }

pub EndsTo-push : {k n : ℕ} {rows : List (List OutLane)} {tabs : List (List (Option InLane))} {ends ends' : List MailLanes} (e : MailLanes) → EndsTo k n rows tabs ends → IsEnd n k (row_at rows k) (tab_at tabs k) e →
    ends' ≡ ends ++ e ∷ [] → EndsTo (k + 1) n rows tabs ends'
EndsTo-push {k = k} {n = n} {rows = rows} {tabs = tabs} {ends = ends} {ends' = ends'} e all new g = record {
  count = omega (arith, ap length g, length_push ends e, all.count);
  each = λ j x at.
      let at' : slice_get (ends ++ e ∷ []) j ≡ Some x = ap (λ es. slice_get es j) (sym g) ∙ at in
      let within : j < length (ends ++ e ∷ []) = slice_get_within (ends ++ e ∷ []) j x at' in
      let is : get_or (ends ++ e ∷ []) j x ≡ x = get_or_from_slice_get (ends ++ e ∷ []) j x x at' in
      elim (cases_eq j k) [
        | inl same ↦
            let it : e ≡ x = sym (get_or_push ends e x j (all.count ∙ sym same)) ∙ is in
            subst (λ y. IsEnd n j (row_at rows j) (tab_at tabs j) y) it (subst (λ i. IsEnd n i (row_at rows i) (tab_at tabs i) e) (sym same) new)
        | inr other ↦
            let below : j < length ends = omega (arith, within, length_push ends e, all.count) in
            all.each j x (slice_get-get_or ends j x below ∙ ap Some (sym (get_or_append_left ends (e ∷ []) x j below) ∙ is))
      ];
}

pub some_within : {X : Type 0} (xs : List X) (k : ℕ) → k < length xs → slice_get xs k ≡ None → ⊥
some_within [] k h e = absurd (omega arith)
some_within (x ∷ xs) zero h e = none-some x (sym e)
some_within (x ∷ xs) (suc k) h e = some_within xs k (omega arith) e

pub EndsTo-fresh : (n : ℕ) (rows : List (List OutLane)) (tabs : List (List (Option InLane))) (ends : List MailLanes) → EndsTo n n rows tabs ends → AreFresh n (map log_of ends)
EndsTo-fresh n rows tabs ends all = record {
  count = length-map ends log_of ∙ all.count;
  each = λ k h.
      let inside : k < length ends = omega (arith, all.count) in
      elim (slice_get ends k) as (λ o. slice_get ends k ≡ o → log_at (map log_of ends) k ≡ fresh n k) [
        | None ↦ λ e. absurd (some_within ends k inside e)
        | Some x ↦ λ e. get_or-map log_of ends k x (fresh 0 0) inside ∙ ap log_of (get_or_from_slice_get ends k x x e) ∙ (all.each k x e).log
      ] refl;
}

pub EndsTo-tied : (n : ℕ) (rows : List (List OutLane)) (tabs : List (List (Option InLane))) (ends : List MailLanes) → RowsTo n n rows tabs → EndsTo n n rows tabs ends → AreTied tt ends
EndsTo-tied n rows tabs ends made all = record {
  place = λ k e at. let it = all.each k e at in (it.party, it.parties ∙ sym all.count);
  joined = λ s r p a b from to receives prio other.
      let one = all.each s a from in
      let two = all.each r b to in
      let h : s < n = let w = slice_get_within ends s a from in omega (arith, w, all.count) in
      let l : r + 1 < n = omega (arith, receives, all.count) in
      let o : out_wire (wiring_of a) r p ≡ (out_at (row_at rows s) (r * 6 + p)).wire = ap (λ os. out_wire (wiring a.party a.parties os (ins_of a)) r p) one.outs_are ∙ out_wire-row a.party n r p (row_at rows s) (ins_of a) (made.out_count s h) l prio in
      let i : in_wire (wiring_of b) s p ≡ in_wire_of (in_at (tab_at tabs r) (s * 6 + p)) = ap (λ is. in_wire (wiring b.party b.parties (outs_of b) is) s p) two.ins_are ∙ in_wire-tab b.party n s p (outs_of b) (tab_at tabs r) (made.in_count r l) h prio in
      subst (λ w. Joined w (in_wire (wiring_of b) s p)) (sym o) (subst (λ w. Joined (out_at (row_at rows s) (r * 6 + p)).wire w) (sym i) ((made.pairs s r p h l prio).far other).1);
}

-- an end of these lanes
pub IsEnd-new : (n j : ℕ) (e : MailLanes) → e.party ≡ j → e.parties ≡ n → by_six (posted_at (outs_of e)) ≡ (λ _ _. []) → by_six (taken_at (outs_of e) (ins_of e)) ≡ (λ _ _. []) → slice_index e.looks.items ≡ (λ _. 0) →
    IsEnd n j (outs_of e) (ins_of e) e
IsEnd-new n j e party parties posted taken looks = record {
  party = party;
  parties = parties;
  outs_are = refl;
  ins_are = refl;
  log = λ i. record { party = party i; parties = parties i; posted = posted i; taken = taken i; looks = looks i };
}

pub ruleset end_steps = (IsEnd-new)

pub ruleset set_up_steps = (EndsTo-none, EndsTo-fresh, EndsTo-tied)
