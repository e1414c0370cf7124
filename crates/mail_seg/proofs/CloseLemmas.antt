-- The boxes at the close, one after another.
use Rattle.std.proofs.Common.{◌≡◌, ◌≢◌, ℕ, zero, suc, ◌+◌, ◌-◌, ◌*◌, ◌<◌, ◌≤◌, inl, inr, List, [], ◌∷◌, ◌++◌, length, map, get_or, drop, slice_get, Option, Some, None, sym, ap, subst, refl, ◌∙◌, arith, append_assoc}
use Rattle.std.proofs.Common.{Result, Ok, Err, IfOk}
use Rattle.std.specs.Global.{Vec}
use Rattle.std.proofs.lemmas.List.{get_or-map, length-map, map_push, append-nil, get_or-drop}
use Rattle.std.proofs.lemmas.Option.{get_or_from_slice_get}
use Rattle.room_kinds.specs.declared.message.Msg.{Msg}
use Rattle.mail_core.specs.EndLog.{EndLog, fresh}
use Rattle.mail_core.specs.Lanes.{log_at}
use Rattle.mail_core.specs.SetUp.{in_poll_order, IsLeft}
use Rattle.mail_seg.specs.declared.ends.MailSeg.{MailSeg}
use Rattle.mail_seg.specs.Sides.{Side, from_sender}
use Rattle.mail_seg.specs.Wires.{Wire, IsWire, wire_of, wire_at}
use Rattle.mail_seg.specs.Ends.{no_side, side_at, first_list, sides_of, wiring_of, log_of, AreTied}
use Rattle.mail_seg.specs.Rows.{row_at}
use Rattle.mail_seg.specs.Left.{pass_at, Fronts, Shifted, IsBox, left_in, IsSettled}
use Rattle.mail_seg.proofs.EndLemmas.{posted_at-within, taken_at-within, wire_is, pass_is}
use Rattle.mail_seg.proofs.MakeLemmas.{some_within}

pub ruleset apart_steps = (map_push, append-nil, append_assoc)

pub Shifted-none : {n : ℕ} {rows : List (List Side)} → length rows ≡ n → Shifted 0 n rows rows
Shifted-none count = record { count = count; rest = λ s h. refl }

-- what stands at a place after k were dropped
pub pass_at-shifted : {k n : ℕ} {old new : List (List Side)} (b s : ℕ) → Shifted k n old new → s < n → pass_at new b s ≡ pass_at old (k + b) s
pass_at-shifted {k = k} {old = old} b s x h = ap (λ l. side_at l b) (x.rest s h) ∙ get_or-drop k (row_at old s) b no_side

drop-none : (k : ℕ) → drop {A = Side} k [] ≡ []
drop-none zero = refl
drop-none (suc k) = refl

drop-drop : (k : ℕ) (xs : List Side) (j : ℕ) → drop j (drop k xs) ≡ drop (k + j) xs
drop-drop zero xs j = let e : j ≡ zero + j = omega arith in ap (λ i. drop i xs) e
drop-drop (suc k) [] j = drop-none j ∙ sym (drop-none (suc k + j))
drop-drop (suc k) (x ∷ xs) j = let e : suc (k + j) ≡ suc k + j = omega arith in drop-drop k xs j ∙ ap (λ i. drop i (x ∷ xs)) e

pub Shifted-step : {k j n : ℕ} {old mid new : List (List Side)} → Shifted k n old mid → Shifted j n mid new → Shifted (k + j) n old new
Shifted-step {k = k} {j = j} {old = old} x y = record { count = y.count; rest = λ s h. y.rest s h ∙ ap (drop j) (x.rest s h) ∙ drop-drop k (row_at old s) j }

pub Shifted-fronts : {n : ℕ} {old new : List (List Side)} → length old ≡ n → Fronts 0 n old new → Shifted 1 n old new
Shifted-fronts count f = record { count = f.count ∙ count; rest = λ s h. f.those s (omega arith) h }

-- boxes of the same passes
pub IsBox-same : {n r : ℕ} {f g : ℕ → Side} → ((s : ℕ) → s < n → f s ≡ g s) → IsBox n r f → IsBox n r g
IsBox-same {n = n} {r = r} same x = record {
  prio = x.prio;
  queue = x.queue;
  wires = λ s h. subst (λ a. IsWire n r x.prio s (wire_of a)) (same s h) (x.wires s h);
  one_queue = λ s h. ap (λ (a : Side). a.queue) (sym (same s h)) ∙ x.one_queue s h;
}

pub left_in-same : (f g : ℕ → Side) (r s : ℕ) → f r ≡ g r → f s ≡ g s → left_in f r s ≡ left_in g r s
left_in-same f g r s e h = ap (λ (a : Side). drop (length (from_sender s a.got)) (first_list (f s).posts)) e ∙ ap (λ (a : Side). drop (length (from_sender s (g r).got)) (first_list a.posts)) h

settled_by : Side → Side → ℕ → Type 0
settled_by a b s = from_sender s a.got ++ drop (length (from_sender s a.got)) (first_list b.posts) ≡ first_list b.posts

pub IsSettled-same : (f g : ℕ → Side) (r s : ℕ) → f r ≡ g r → f s ≡ g s → IsSettled f r s → IsSettled g r s
unfolding settled_by
IsSettled-same f g r s e h x = subst (λ a. settled_by a (g s) s) e (subst (λ b. settled_by (f r) b s) h x)

-- the passes of tied ends
module _ (ends : List MailSeg) (t : AreTied tt ends) where
  abbrev n : ℕ
  n = length ends

  abbrev rows : List (List Side)
  rows = map sides_of ends

  end_at : (k : ℕ) → k < n → (e : MailSeg) × (slice_get ends k ≡ Some e) × (row_at rows k ≡ sides_of e) × (log_at (map log_of ends) k ≡ log_of e)
  end_at k h =
      elim (slice_get ends k) as (λ o. slice_get ends k ≡ o → (e : MailSeg) × (slice_get ends k ≡ Some e) × (row_at rows k ≡ sides_of e) × (log_at (map log_of ends) k ≡ log_of e)) [
        | None ↦ λ x. absurd (some_within ends k h x)
        | Some e ↦ λ x.
            let is = get_or_from_slice_get ends k e e x in
            (e, x, get_or-map sides_of ends k e [] h ∙ ap sides_of is, get_or-map log_of ends k e (fresh 0 0) h ∙ ap log_of is)
      ] refl

  pub long_of : (s : ℕ) → s < n → length (row_at rows s) + 6 ≡ n * 6
  long_of s h =
      let x = end_at s h in
      omega (arith, ap length x.2, length-map (sides_of x.0) wire_of, x.0.wired.all, (t.place s x.0 x.1).1)

  wire_of_pass : (s r b : ℕ) → s < n → r + 1 < n → b < 6 → (e : MailSeg) → slice_get ends s ≡ Some e → row_at rows s ≡ sides_of e → wire_of (pass_at rows (r * 6 + b) s) ≡ wire_at (wiring_of e) r b
  wire_of_pass s r b h l low e at is = ap (λ xs. wire_of (side_at xs (r * 6 + b))) is ∙ wire_is e.party e.parties (sides_of e) e.wired r b (rw (t.place s e at).1 l) low

  pub box_of : (r b : ℕ) → r + 1 < n → b < 6 → IsBox n r (pass_at rows (r * 6 + b))
  box_of r b l low =
      let own = end_at r (omega arith) in
      record {
        prio = 5 - b;
        queue = (wire_at (wiring_of own.0) r b).queue;
        wires = λ s h.
            let x = end_at s h in
            let place = t.place s x.0 x.1 in
            let plain : IsWire x.0.parties r (5 - b) x.0.party (wire_of (side_at (sides_of x.0) (r * 6 + b))) = pass_is x.0.party x.0.parties (sides_of x.0) x.0.wired r b (rw place.1 l) low in
            subst (λ xs. IsWire n r (5 - b) s (wire_of (side_at xs (r * 6 + b)))) (sym x.2)
            (subst (λ m. IsWire m r (5 - b) s (wire_of (side_at (sides_of x.0) (r * 6 + b)))) place.1
            (subst (λ k. IsWire x.0.parties r (5 - b) k (wire_of (side_at (sides_of x.0) (r * 6 + b)))) place.0 plain));
        one_queue = λ s h.
            let x = end_at s h in
            ap (λ (w : Wire). w.queue) (wire_of_pass s r b h l low x.0 x.1 x.2) ∙ t.one_queue s r r b x.0 own.0 x.1 own.1 l low;
      }

  -- what was taken of a lane, and what was posted
  taken_is : (s r p : ℕ) → r < n → p < 6 → (log_at (map log_of ends) r).taken s p ≡ from_sender s (pass_at rows (r * 6 + (5 - p)) r).got
  taken_is s r p h low =
      let x = end_at r h in
      ap (λ (l : EndLog). l.taken s p) x.3
      ∙ taken_at-within (sides_of x.0) x.0.party s p low
      ∙ ap (λ k. from_sender s (side_at (sides_of x.0) (k * 6 + (5 - p))).got) (t.place r x.0 x.1).0
      ∙ ap (λ xs. from_sender s (side_at xs (r * 6 + (5 - p))).got) (sym x.2)

  posted_is : (s r p : ℕ) → s < n → p < 6 → (log_at (map log_of ends) s).posted r p ≡ first_list (pass_at rows (r * 6 + (5 - p)) s).posts
  posted_is s r p h low =
      let x = end_at s h in
      ap (λ (l : EndLog). l.posted r p) x.3 ∙ posted_at-within (sides_of x.0) r p low ∙ ap (λ xs. first_list (side_at xs (r * 6 + (5 - p))).posts) (sym x.2)

  pub left_all : (answer : List (List Msg)) → length answer + 1 ≡ n → ((r : ℕ) → r + 1 < n → slice_get answer r ≡ Some (in_poll_order n (λ s p. left_in (pass_at rows (r * 6 + (5 - p))) r s))) →
      ((s r b : ℕ) → s < n → r + 1 < n → b < 6 → IsSettled (pass_at rows (r * 6 + b)) r s) → IsLeft (map log_of ends) answer
  left_all answer count order settled =
      let l = length-map ends log_of in
      record {
        left = λ s r p. left_in (pass_at rows (r * 6 + (5 - p))) r s;
        kept = λ s r p a b c.
            let a' : s < n = rw (← l) a in
            let b' : r + 1 < n = rw (← l) b in
            let b'' : r < n = omega (arith, b') in
            ap (λ ms. ms ++ left_in (pass_at rows (r * 6 + (5 - p))) r s) (taken_is s r p b'' c) ∙ settled s r (5 - p) a' b' (omega arith) ∙ sym (posted_is s r p a' c);
        count = count ∙ sym l;
        order = subst (λ m. (r : ℕ) → r + 1 < m → slice_get answer r ≡ Some (in_poll_order m (λ s p. left_in (pass_at rows (r * 6 + (5 - p))) r s))) (sym l) order;
      }

-- what the rows answer is what is left of the ends
pub answered : {E : Type 0} (ends : List MailSeg) (t : AreTied tt ends) (n : ℕ) (rows : List (List Side)) (r : Result (Vec (Vec Msg)) E) →
    n ≡ length ends → rows ≡ map sides_of ends →
    IfOk r (λ v. length v.items + 1 ≡ n) →
    IfOk r (λ v. (r : ℕ) → r + 1 < n → slice_get (map (λ x. x.items) v.items) r ≡ Some (in_poll_order n (λ s p. left_in (pass_at rows (r * 6 + (5 - p))) r s))) →
    IfOk r (λ _. (s r b : ℕ) → s < n → r + 1 < n → b < 6 → IsSettled (pass_at rows (r * 6 + b)) r s) →
    IfOk r (λ left. IsLeft (map log_of ends) (map (λ v. v.items) left.items))
answered ends t n rows' (Err x) e f count order settled = tt
answered ends t n rows' (Ok v) e f count order settled =
    left_all ends t (map (λ x. x.items) v.items) (ap (λ m. m + 1) (length-map v.items (λ x. x.items)) ∙ count ∙ e)
    (subst (λ m. (r : ℕ) → r + 1 < m → slice_get (map (λ x. x.items) v.items) r ≡ Some (in_poll_order m (λ s p. left_in (pass_at (map sides_of ends) (r * 6 + (5 - p))) r s))) e
    (subst (λ xs. (r : ℕ) → r + 1 < n → slice_get (map (λ x. x.items) v.items) r ≡ Some (in_poll_order n (λ s p. left_in (pass_at xs (r * 6 + (5 - p))) r s))) f order))
    (subst (λ m. (s r b : ℕ) → s < m → r + 1 < m → b < 6 → IsSettled (pass_at (map sides_of ends) (r * 6 + b)) r s) e
    (subst (λ xs. (s r b : ℕ) → s < n → r + 1 < n → b < 6 → IsSettled (pass_at xs (r * 6 + b)) r s) f settled))
