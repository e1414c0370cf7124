-- One lane at the close.
use Rattle.std.proofs.Common.{◌≡◌, ◌≢◌, ℕ, ◌+◌, ◌*◌, ◌<◌, inl, inr, List, [], ◌++◌, length, set, map, drop, Option, None, sym, ap, subst, ◌∙◌, arith}
use Rattle.std.proofs.lemmas.Bool.{cases_eq}
use Rattle.std.proofs.lemmas.Nat.{same_from_place}
use Rattle.std.proofs.lemmas.List.{map-set, length-set, get_or-set_same, get_or-set_other}
use lib.Seq.{drop-append_seam}
use Rattle.room_kinds.specs.declared.message.Msg.{Msg}
use Rattle.mail_lanes.specs.Lanes.{OutLane, InLane, out_at, in_at, no_lane}
use Rattle.mail_lanes.specs.Made.{row_at, tab_at}
use Rattle.mail_lanes.specs.Settle.{IsTable, Same, NotLane}

-- the rest of a list after its front
rest_is : (front rest whole : List Msg) → front ++ rest ≡ whole → drop (length front) whole ≡ rest
rest_is front rest whole e = ap (drop (length front)) (sym e) ∙ drop-append_seam front rest

pub settled_by : (taken left posted before after : List Msg) → after ≡ before ++ left → taken ++ left ≡ posted → (after ≡ before ++ drop (length taken) posted) × (taken ++ drop (length taken) posted ≡ posted)
settled_by taken left posted before after e g =
    let same = rest_is taken left posted g in
    (e ∙ ap (λ ms. before ++ ms) (sym same), ap (λ ms. taken ++ ms) same ∙ g)

pub ruleset settle_steps = (settled_by)

-- one place of a table of lists
pub set_set : {V X : Type 0} (f : V → List X) (table : List V) (k : ℕ) (v : V) (xs : List X) → f v ≡ xs → map f (set table k v) ≡ set (map f table) k xs
set_set f table k v xs e = map-set f table k v ∙ ap (λ l. set (map f table) k l) e

pub ruleset table_steps = (set_set, map-set)

-- a lane changed in both tables
pub Same-lane : (n s r p : ℕ) (rows rows' : List (List OutLane)) (tabs tabs' : List (List (Option InLane))) (o : OutLane) (i : Option InLane) → IsTable n rows tabs → s < n → r + 1 < n → p < 6 →
    rows' ≡ set rows s (set (row_at rows s) (r * 6 + p) o) → tabs' ≡ set tabs r (set (tab_at tabs r) (s * 6 + p) i) → Same n (NotLane s r p) rows rows' tabs tabs'
Same-lane n s r p rows rows' tabs tabs' o i t a b c e g =
    let row_here : row_at rows' s ≡ set (row_at rows s) (r * 6 + p) o = ap (λ x. row_at x s) e ∙ get_or-set_same rows s _ [] (omega (arith, t.row_count)) in
    let row_there = λ (k : ℕ) (other : k ≢ s). ap (λ x. row_at x k) e ∙ get_or-set_other rows s k (set (row_at rows s) (r * 6 + p) o) [] other in
    let tab_here : tab_at tabs' r ≡ set (tab_at tabs r) (s * 6 + p) i = ap (λ x. tab_at x r) g ∙ get_or-set_same tabs r _ [] (omega (arith, t.tab_count)) in
    let tab_there = λ (k : ℕ) (other : k ≢ r). ap (λ x. tab_at x k) g ∙ get_or-set_other tabs r k (set (tab_at tabs r) (s * 6 + p) i) [] other in
    record {
      table = record {
        row_count = ap length e ∙ length-set rows s _ ∙ t.row_count;
        tab_count = ap length g ∙ length-set tabs r _ ∙ t.tab_count;
        out_count = λ k h. elim (cases_eq k s) [
          | inl same ↦ subst (λ j. length (row_at rows' j) + 6 ≡ n * 6) (sym same) (ap (λ os. length os + 6) row_here ∙ ap (λ m. m + 6) (length-set (row_at rows s) _ o) ∙ t.out_count s a)
          | inr other ↦ ap (λ os. length os + 6) (row_there k other) ∙ t.out_count k h
        ];
        in_count = λ k h. elim (cases_eq k r) [
          | inl same ↦ subst (λ j. length (tab_at tabs' j) ≡ n * 6) (sym same) (ap length tab_here ∙ length-set (tab_at tabs r) _ i ∙ t.in_count r b)
          | inr other ↦ ap length (tab_there k other) ∙ t.in_count k h
        ];
      };
      outs = λ s' r' p' a' b' c' differs. elim (cases_eq s' s) [
        | inl same ↦
            let other : r' * 6 + p' ≢ r * 6 + p = λ x. let y = same_from_place r' p' r p 6 c' c x in differs (same, y.0, y.1) in
            subst (λ j. out_at (row_at rows' j) (r' * 6 + p') ≡ out_at (row_at rows j) (r' * 6 + p')) (sym same)
            (ap (λ os. out_at os (r' * 6 + p')) row_here ∙ get_or-set_other (row_at rows s) (r * 6 + p) (r' * 6 + p') o no_lane other)
        | inr other ↦ ap (λ os. out_at os (r' * 6 + p')) (row_there s' other)
      ];
      ins = λ s' r' p' a' b' c' differs. elim (cases_eq r' r) [
        | inl same ↦
            let other : s' * 6 + p' ≢ s * 6 + p = λ x. let y = same_from_place s' p' s p 6 c' c x in differs (y.0, same, y.1) in
            subst (λ j. in_at (tab_at tabs' j) (s' * 6 + p') ≡ in_at (tab_at tabs j) (s' * 6 + p')) (sym same)
            (ap (λ is. in_at is (s' * 6 + p')) tab_here ∙ get_or-set_other (tab_at tabs r) (s * 6 + p) (s' * 6 + p') i None other)
        | inr other ↦ ap (λ is. in_at is (s' * 6 + p')) (tab_there r' other)
      ];
    }

pub ruleset lane_steps = (Same-lane)
