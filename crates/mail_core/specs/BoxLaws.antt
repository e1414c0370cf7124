-- Laws of boxes that stand in the order of a poll, one for each lane.
use Rattle.std.proofs.Common.{ℕ, ◌+◌, ◌-◌, ◌*◌, ◌<◌, ◌≡◌, refl, sym, ◌∙◌, arith, inl, inr}
use Rattle.std.proofs.lemmas.Bool.{cases_eq, eq-eqb, ne_eqb, lt-ltb}
use Rattle.std.proofs.lemmas.Nat.{same_from_place, row_fits}
use Rattle.mail_core.specs.Boxes.{sender_place, poll_place, IsLaneBox, lane_boxes}

pub sender_place-last : (n s : ℕ) → s + 1 ≡ n → sender_place n s ≡ 0
sender_place-last n s e = rw (eq-eqb (s + 1) n e) refl

pub sender_place-other : (n s : ℕ) → (s + 1 ≡ n → ⊥) → sender_place n s ≡ s + 1
sender_place-other n s h = rw (ne_eqb (s + 1) n h) refl

pub sender_place-below : (n s : ℕ) → s < n → sender_place n s < n
sender_place-below n s h = elim (cases_eq (s + 1) n) [
  | inl last ↦ omega (arith, sender_place-last n s last)
  | inr other ↦ omega (arith, sender_place-other n s other)
]

sender_place-same : (n s t : ℕ) → s < n → t < n → sender_place n s ≡ sender_place n t → s ≡ t
sender_place-same n s t a b e = elim (cases_eq (s + 1) n) [
  | inl last ↦ elim (cases_eq (t + 1) n) [
    | inl last' ↦ omega arith
    | inr other ↦ absurd (omega (arith, e, sender_place-last n s last, sender_place-other n t other))
  ]
  | inr other ↦ elim (cases_eq (t + 1) n) [
    | inl last' ↦ absurd (omega (arith, e, sender_place-other n s other, sender_place-last n t last'))
    | inr other' ↦ omega (arith, e, sender_place-other n s other, sender_place-other n t other')
  ]
]

-- a box has one lane
pub one_lane : (n b s p s' p' : ℕ) → IsLaneBox n b s p → IsLaneBox n b s' p' → (s ≡ s') × (p ≡ p')
one_lane n b s p s' p' i j =
    let x = same_from_place (5 - p) (sender_place n s) (5 - p') (sender_place n s') n (sender_place-below n s i.sender) (sender_place-below n s' j.sender) (sym i.place ∙ j.place) in
    (sender_place-same n s s' i.sender j.sender x.1, omega (arith, x.0, i.prio, j.prio))

pub one_priority : (n b s p s' p' : ℕ) → IsLaneBox n b s p → IsLaneBox n b s' p' → p ≡ p'
one_priority n b s p s' p' i j = (one_lane n b s p s' p' i j).1

pub poll_place-below : (n s p : ℕ) → s < n → p < 6 → poll_place n s p < n * 6
poll_place-below n s p a b = omega (arith, row_fits (5 - p) n 6 n (omega arith) (omega arith), sender_place-below n s a)

-- each lane to a controller has a box
pub has_box : (n s r p : ℕ) → s < n → r + 1 < n → p < 6 → (b : ℕ) × (b < lane_boxes r n) × IsLaneBox n b s p
has_box n s r p a b c = (poll_place n s p, rw (lt-ltb (r + 1) n b) (poll_place-below n s p a c), record { sender = a; prio = c; place = refl })

-- the boxes stand in the order of a poll
pub poll_order : (n b s p b' s' p' : ℕ) → IsLaneBox n b s p → IsLaneBox n b' s' p' → b < b' → poll_place n s p < poll_place n s' p'
poll_order n b s p b' s' p' i j h = omega (arith, i.place, j.place)
