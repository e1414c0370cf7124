-- Lanes taken out one after another.
use Rattle.std.proofs.Common.{ℕ, zero, suc, ◌+◌, ◌-◌, ◌<◌, ◌≤◌, ◌≡◌, List, [], ◌∷◌, ◌++◌, length, set, slice_get, Some, refl, sym, ap, subst, ◌∙◌, arith, inl, inr}
use Rattle.std.proofs.lemmas.Bool.{cases_eq}
use Rattle.std.proofs.Common.{append_assoc, add-one}
use Rattle.std.proofs.lemmas.List.{length_push, get_or_push, get_or_append_left}
use Rattle.std.proofs.lemmas.Option.{slice_get-get_or}
use Rattle.std.proofs.Common.{Result, Ok, Err, IfOk}
use Rattle.mail_core.specs.EndLog.{EndLog}
use Rattle.room_kinds.specs.declared.message.Msg.{Msg}
use Rattle.mail_core.specs.Lanes.{lane_of, lane_number, LanesMatch}
use Rattle.mail_core.specs.SetUp.{of_controllers, at_priority, priorities, in_poll_order, IsLeft}
use Rattle.mail_core.proofs.LaneLemmas.{lane_of-set_other}

-- the same lists in the same order
pub of_controllers-same : (f g : ℕ → List Msg) (k : ℕ) → ((s : ℕ) → s < k → f s ≡ g s) → of_controllers f k ≡ of_controllers g k
of_controllers-same f g zero h = refl
of_controllers-same f g (suc k) h = ap (λ ms. ms ++ f k) (of_controllers-same f g k (λ s l. h s (omega arith))) ∙ ap (λ ms. of_controllers g k ++ ms) (h k (omega arith))

pub at_priority-same : (n : ℕ) (f g : ℕ → List Msg) → 0 < n → ((s : ℕ) → s < n → f s ≡ g s) → at_priority n f ≡ at_priority n g
at_priority-same n f g some h =
    ap (λ ms. ms ++ of_controllers f (n - 1)) (h (n - 1) (omega arith))
    ∙ ap (λ ms. g (n - 1) ++ ms) (of_controllers-same f g (n - 1) (λ s l. h s (omega arith)))

pub priorities-same : (n : ℕ) (f g : ℕ → ℕ → List Msg) (k : ℕ) → 0 < n → k ≤ 6 → ((s p : ℕ) → s < n → p < 6 → f s p ≡ g s p) → priorities n f k ≡ priorities n g k
priorities-same n f g zero some in_range h = refl
priorities-same n f g (suc k) some in_range h =
    ap (λ ms. ms ++ at_priority n (λ s. f s (5 - k))) (priorities-same n f g k some (omega arith) h)
    ∙ ap (λ ms. priorities n g k ++ ms) (at_priority-same n (λ s. f s (5 - k)) (λ s. g s (5 - k)) some (λ s l. h s (5 - k) l (omega arith)))

pub in_poll_order-same : (n : ℕ) (f g : ℕ → ℕ → List Msg) → 0 < n → ((s p : ℕ) → s < n → p < 6 → f s p ≡ g s p) → in_poll_order n f ≡ in_poll_order n g
unfolding in_poll_order
in_poll_order-same n f g some h = priorities-same n f g 6 some (omega arith) h

-- another lane is as it was
pub lane_of-changed : (n m s r p s' r' p' : ℕ) (lanes lanes' : List (List Msg)) (ms : List Msg) → m ≡ n → lanes' ≡ set lanes (lane_number m s r p) ms → s < n → s' < n → p < 6 → p' < 6 →
    ((r ≡ r') × (s ≡ s') × (p ≡ p') → ⊥) → lane_of lanes' n s' r' p' ≡ lane_of lanes n s' r' p'
lane_of-changed n m s r p s' r' p' lanes lanes' ms same e a a' b b' other =
    let f : lanes' ≡ set lanes (lane_number n s r p) ms = subst (λ k. lanes' ≡ set lanes (lane_number k s r p) ms) same e in
    ap (λ ls. lane_of ls n s' r' p') f ∙ lane_of-set_other n s r p s' r' p' lanes ms a a' b b' other

-- one lane more
pub of_controllers-push : (f : ℕ → List Msg) (k : ℕ) (a b x y z : List Msg) → y ≡ x ++ z → x ≡ a ++ (b ++ of_controllers f k) → z ≡ f k → y ≡ a ++ (b ++ of_controllers f (k + 1))
of_controllers-push f k a b x y z e g h = rw add-one (rw (e, g, h) (simp append_assoc))

-- one priority more
pub priorities-push : (n : ℕ) (f : ℕ → ℕ → List Msg) (k : ℕ) (a x y z : List Msg) → y ≡ x ++ z → x ≡ a ++ priorities n f k → z ≡ at_priority n (λ s. f s (5 - k)) → y ≡ a ++ priorities n f (k + 1)
priorities-push n f k a x y z e g h = rw add-one (rw (e, g, h) (simp append_assoc))

-- one receiver more
pub slice_get-push : {X : Type 0} (xs : List X) (x : X) (f : ℕ → X) (k : ℕ) → length xs ≡ k → ((r : ℕ) → r < k → slice_get xs r ≡ Some (f r)) → x ≡ f k → (r : ℕ) → r < k + 1 → slice_get (xs ++ x ∷ []) r ≡ Some (f r)
slice_get-push xs x f k l each new r below = elim (cases_eq r k) [
  | inl same ↦ slice_get-get_or (xs ++ x ∷ []) r x (omega (arith, length_push xs x)) ∙ ap Some (get_or_push xs x x r (l ∙ sym same) ∙ new ∙ ap f (sym same))
  | inr other ↦
      let under : r < k = omega arith in
      let inside : r < length xs = omega arith in
      slice_get-get_or (xs ++ x ∷ []) r x (omega (arith, length_push xs x)) ∙ ap Some (get_or_append_left xs (x ∷ []) x r inside) ∙ sym (slice_get-get_or xs r x inside) ∙ each r under
]

pub IfOk-both : {T E : Type 0} (r : Result T E) (P Q R : T → Type 0) → ((v : T) → P v → Q v → R v) → IfOk r P → IfOk r Q → IfOk r R
IfOk-both (Ok v) P Q R f p q = f v p q
IfOk-both (Err e) P Q R f p q = tt

-- what was kept is what is left
pub IsLeft-drained : (n : ℕ) (lanes : List (List Msg)) (logs : List EndLog) (answer : List (List Msg)) → LanesMatch n lanes logs → length answer + 1 ≡ n →
    ((r : ℕ) → r + 1 < n → slice_get answer r ≡ Some (in_poll_order n (λ s p. lane_of lanes n s r p))) → IsLeft logs answer
IsLeft-drained n lanes logs answer k count order = record {
  left = λ s r p. lane_of lanes n s r p;
  kept = λ s r p a b c. k.kept s r p (rw (← k.all_ends) a) (let h : r + 1 < n = rw (← k.all_ends) b in omega arith) c;
  count = count ∙ sym k.all_ends;
  order = subst (λ m. (r : ℕ) → r + 1 < m → slice_get answer r ≡ Some (in_poll_order m (λ s p. lane_of lanes n s r p))) (sym k.all_ends) order;
}
