-- What two ends leave, of which one alone posts.
use Rattle.std.proofs.Common.{ℕ, zero, suc, ◌+◌, ◌-◌, ◌<◌, ◌≤◌, ◌≡◌, List, [], ◌∷◌, ◌++◌, replicate, length, set, slice_get, Option, Some, None, IfSome, IfNone, refl, sym, ap, subst, ◌∙◌, arith, inl, inr}
use Rattle.std.proofs.lemmas.Grind.{common_steps}
use Rattle.std.proofs.lemmas.Bool.{cases_eq}
use Rattle.std.proofs.lemmas.Option.{slice_get-get_or, get_or_from_slice_get}
use Rattle.std.proofs.lemmas.List.{append-nil, length-set}
use Rattle.room_kinds.specs.declared.message.Msg.{Msg}
use Rattle.mail_core.specs.EndLog.{EndLog, fresh, posting, taking, gained, CanPost}
use Rattle.mail_core.specs.Lanes.{log_at}
use Rattle.mail_core.specs.SetUp.{AreFresh, IsLeft, of_controllers, at_priority, priorities, in_poll_order}
use Rattle.mail_core.specs.Takes.{IsOfBox, OwnIsTaken}
use Rattle.mail_core.specs.Exchanges.{Exchanges}
use Rattle.mail_core.proofs.LaneLemmas.{gained-same, gained-other, log_at-set_same, log_at-set_other}
use Rattle.mail_core.proofs.PollLemmas.{parties-taking}

-- what lies before nothing is nothing
front_empty : (xs ys : List Msg) → xs ++ ys ≡ [] → xs ≡ []
front_empty [] ys e = refl
front_empty (x ∷ xs) ys e = absurd (cc)

back_empty : (xs ys : List Msg) → xs ++ ys ≡ [] → ys ≡ []
back_empty [] ys e = e
back_empty (x ∷ xs) ys e = absurd (cc)

-- lanes that are all empty
of_controllers-empty : (f : ℕ → List Msg) (k : ℕ) → ((s : ℕ) → s < k → f s ≡ []) → of_controllers f k ≡ []
of_controllers-empty f zero h = refl
of_controllers-empty f (suc k) h = rw (of_controllers-empty f k (λ s l. h s (omega arith)), h k (omega arith)) refl

at_priority-empty : (n : ℕ) (f : ℕ → List Msg) → 0 < n → ((s : ℕ) → s < n → f s ≡ []) → at_priority n f ≡ []
at_priority-empty n f some h = rw (h (n - 1) (omega arith), of_controllers-empty f (n - 1) (λ s l. h s (omega arith))) refl

priorities-empty : (n : ℕ) (f : ℕ → ℕ → List Msg) (k : ℕ) → 0 < n → k ≤ 6 → ((s p : ℕ) → s < n → p < 6 → f s p ≡ []) → priorities n f k ≡ []
priorities-empty n f zero some in_range h = refl
priorities-empty n f (suc k) some in_range h =
    rw (priorities-empty n f k some (omega arith) h, at_priority-empty n (λ s. f s (5 - k)) some (λ s l. h s (5 - k) l (omega arith))) refl

in_poll_order-empty : (n : ℕ) (f : ℕ → ℕ → List Msg) → 0 < n → ((s p : ℕ) → s < n → p < 6 → f s p ≡ []) → in_poll_order n f ≡ []
unfolding in_poll_order
in_poll_order-empty n f some h = priorities-empty n f 6 some (omega arith) h

-- so many lists, and each is empty
all_empty : (xs : List (List Msg)) (k : ℕ) → length xs ≡ k → ((r : ℕ) → r < k → slice_get xs r ≡ Some []) → xs ≡ replicate k []
all_empty [] zero l h = refl
all_empty (x ∷ xs) zero l h = absurd (omega arith)
all_empty [] (suc k) l h = absurd (omega arith)
all_empty (x ∷ xs) (suc k) l h =
    let first : x ≡ [] = get_or_from_slice_get (x ∷ xs) 0 [] [] (h 0 (omega arith)) in
    let rest : xs ≡ replicate k [] = all_empty xs k (omega arith) (λ r b.
    let i : r < length xs = omega arith in
    slice_get-get_or xs r [] i ∙ ap Some (get_or_from_slice_get (x ∷ xs) (suc r) [] [] (h (suc r) (omega arith)))) in
    rw (first, rest) refl

-- a mail on which nothing was posted leaves nothing
pub left_unused : (n : ℕ) (logs : List EndLog) (answer : List (List Msg)) → AreFresh n logs → 0 < n → IsLeft logs answer → answer ≡ replicate (n - 1) []
left_unused n logs answer f some l =
    let empty : (s r p : ℕ) → s < n → r + 1 < n → p < 6 → l.left s r p ≡ [] = λ s r p a b c.
    back_empty ((log_at logs r).taken s p) (l.left s r p) (l.kept s r p (rw f.count a) (rw f.count b) c ∙ ap (λ x. x.posted r p) (f.each s a)) in
    all_empty answer (n - 1) (omega (arith, l.count, f.count)) (λ r h.
    l.order r (rw f.count (omega arith)) ∙ ap Some (rw f.count (in_poll_order-empty n (λ s p. l.left s r p) some (λ s p a c. empty s r p a (omega arith) c))))

-- of the lanes to the one controller of two parties, one alone holds something
order_of_two : (f : ℕ → ℕ → List Msg) → ((s p : ℕ) → s < 2 → p < 6 → ((s ≡ 0) × (p ≡ 3) → ⊥) → f s p ≡ []) → in_poll_order 2 f ≡ f 0 3
unfolding in_poll_order
order_of_two f h =
    let e : (s p : ℕ) → s < 2 → p < 6 → ((s ≡ 0) × (p ≡ 3) → ⊥) → f s p ≡ [] = h in
    rw (
      e 1 5 (omega arith) (omega arith) (λ x. absurd (omega (arith, x.0))),
      e 0 5 (omega arith) (omega arith) (λ x. absurd (omega (arith, x.1))),
      e 1 4 (omega arith) (omega arith) (λ x. absurd (omega (arith, x.0))),
      e 0 4 (omega arith) (omega arith) (λ x. absurd (omega (arith, x.1))),
      e 1 3 (omega arith) (omega arith) (λ x. absurd (omega (arith, x.0))),
      e 1 2 (omega arith) (omega arith) (λ x. absurd (omega (arith, x.0))),
      e 0 2 (omega arith) (omega arith) (λ x. absurd (omega (arith, x.1))),
      e 1 1 (omega arith) (omega arith) (λ x. absurd (omega (arith, x.0))),
      e 0 1 (omega arith) (omega arith) (λ x. absurd (omega (arith, x.1))),
      e 1 0 (omega arith) (omega arith) (λ x. absurd (omega (arith, x.0))),
      e 0 0 (omega arith) (omega arith) (λ x. absurd (omega (arith, x.1))),
    ) (simp append-nil)

-- one list alone
one_list : (xs : List (List Msg)) (x : List Msg) → length xs + 1 ≡ 2 → slice_get xs 0 ≡ Some x → xs ≡ x ∷ []
one_list [] x l e = absurd (omega arith)
one_list (y ∷ []) x l e = let same : y ≡ x = get_or_from_slice_get (y ∷ []) 0 x [] e in rw same refl
one_list (y ∷ (z ∷ zs)) x l e = absurd (omega arith)

-- a controller that did this, and an environment that did nothing
pub record AreTwo (logs : List EndLog) (controller : EndLog) : Type 0 where
  pub count : length logs ≡ 2
  pub first : log_at logs 0 ≡ controller
  pub second : log_at logs 1 ≡ fresh 2 1

pub AreTwo-fresh : {logs : List EndLog} → AreFresh 2 logs → AreTwo logs (fresh 2 0)
AreTwo-fresh f = record { count = f.count; first = f.each 0 (omega arith); second = f.each 1 (omega arith) }

pub AreTwo-step : {logs logs' : List EndLog} {log : EndLog} (k : ℕ) (f : EndLog → EndLog) → AreTwo logs log → k ≡ 0 → logs' ≡ set logs k (f (log_at logs k)) → AreTwo logs' (f log)
AreTwo-step {logs = logs} {logs' = logs'} {log = log} k f t zero_k e =
    let e' : logs' ≡ set logs 0 (f (log_at logs 0)) = rw zero_k at e in
    let some : 0 < length logs = omega (arith, t.count) in
    record {
      count = ap length e' ∙ length-set logs 0 _ ∙ t.count;
      first = ap (λ ls. log_at ls 0) e' ∙ log_at-set_same logs 0 _ some ∙ ap f t.first;
      second = ap (λ ls. log_at ls 1) e' ∙ log_at-set_other logs 0 1 _ (λ h. absurd (omega arith)) ∙ t.second;
    }

-- what the controller did
abbrev did : Msg → Msg → ℕ → Option Msg → Option Msg → EndLog
did m n b r r' = posting (taking (taking (posting (fresh 2 0) m) b r) b r') n

-- a message of the controller to itself, at priority 3
record ToItself (m : Msg) : Type 0 where
  from : m.from.0 ≡ 0
  to : m.to.0 ≡ 0
  prio : m.prio.0 ≡ 3

to_itself : (m : Msg) → CanPost 0 2 m → m.prio.0 ≡ 3 → ToItself m
to_itself m c e = record { from = c.from; to = omega (arith, c.to); prio = e }

posted_here : (m n : Msg) (b : ℕ) (r r' : Option Msg) → ToItself m → ToItself n → (did m n b r r').posted 0 3 ≡ m ∷ (n ∷ [])
unfolding posting taking
posted_here m n b None None i j = grind (arith, common_steps, gained-same)
posted_here m n b None (Some y) i j = grind (arith, common_steps, gained-same)
posted_here m n b (Some x) None i j = grind (arith, common_steps, gained-same)
posted_here m n b (Some x) (Some y) i j = grind (arith, common_steps, gained-same)

posted_elsewhere : (m n : Msg) (b : ℕ) (r r' : Option Msg) (p : ℕ) → ToItself m → ToItself n → (p ≡ 3 → ⊥) → (did m n b r r').posted 0 p ≡ []
unfolding posting taking
posted_elsewhere m n b None None p i j h = grind (arith, common_steps, gained-other)
posted_elsewhere m n b None (Some y) p i j h = grind (arith, common_steps, gained-other)
posted_elsewhere m n b (Some x) None p i j h = grind (arith, common_steps, gained-other)
posted_elsewhere m n b (Some x) (Some y) p i j h = grind (arith, common_steps, gained-other)

module _ (m n : Msg) (b : ℕ) (r r' : Option Msg) (logs : List EndLog) (answer : List (List Msg)) (i : ToItself m) (j : ToItself n) (t : AreTwo logs (did m n b r r')) (l : IsLeft logs answer) where
  kept_own : (did m n b r r').taken 0 3 ++ l.left 0 0 3 ≡ m ∷ (n ∷ [])
  kept_own =
      ap (λ x. x.taken 0 3 ++ l.left 0 0 3) (sym t.first) ∙ l.kept 0 0 3 (omega (arith, t.count)) (omega (arith, t.count)) (omega arith)
      ∙ ap (λ x. x.posted 0 3) t.first ∙ posted_here m n b r r' i j

  kept_other : (did m n b r r').taken 1 3 ++ l.left 1 0 3 ≡ []
  kept_other =
      ap (λ x. x.taken 1 3 ++ l.left 1 0 3) (sym t.first) ∙ l.kept 1 0 3 (omega (arith, t.count)) (omega (arith, t.count)) (omega arith)
      ∙ ap (λ x. x.posted 0 3) t.second

  others_left : (s p : ℕ) → s < 2 → p < 6 → ((s ≡ 0) × (p ≡ 3) → ⊥) → l.left s 0 p ≡ []
  others_left s p a c h = elim (cases_eq s 0) [
    | inl zero_s ↦
        let e : (log_at logs s).posted 0 p ≡ [] = subst (λ k. (log_at logs k).posted 0 p ≡ []) (sym zero_s) (ap (λ x. x.posted 0 p) t.first ∙ posted_elsewhere m n b r r' p i j (λ q. h (zero_s, q))) in
        back_empty ((log_at logs 0).taken s p) (l.left s 0 p) (l.kept s 0 p (rw t.count a) (omega (arith, t.count)) c ∙ e)
    | inr other ↦
        let one : s ≡ 1 = omega arith in
        let e : (log_at logs s).posted 0 p ≡ [] = subst (λ k. (log_at logs k).posted 0 p ≡ []) (sym one) (ap (λ x. x.posted 0 p) t.second) in
        back_empty ((log_at logs 0).taken s p) (l.left s 0 p) (l.kept s 0 p (rw t.count a) (omega (arith, t.count)) c ∙ e)
  ]

  lists_are : answer ≡ l.left 0 0 3 ∷ []
  lists_are = one_list answer (l.left 0 0 3) (l.count ∙ t.count)
      (subst (λ k. slice_get answer 0 ≡ Some (in_poll_order k (λ s p. l.left s 0 p))) t.count (l.order 0 (omega (arith, t.count)))
      ∙ ap Some (order_of_two (λ s p. l.left s 0 p) others_left))

nothing_more : (xs : List Msg) (x : Msg) → xs ++ x ∷ [] ≡ [] → ⊥
nothing_more xs x e = let h = back_empty xs (x ∷ []) e in cc

-- whose message was taken
first_is_own : (m n x : Msg) (b : ℕ) → x.from.0 < 2 → x.prio.0 ≡ 3 → (did m n b (Some x) None).taken 1 3 ≡ [] → x.from.0 ≡ 0
unfolding posting taking
first_is_own m n x b h p e = elim (cases_eq x.from.0 1) [
  | inl one ↦ absurd (nothing_more [] x (sym (gained-same (λ _ _. []) x.from.0 x.prio.0 1 3 x (sym one) (sym p)) ∙ e))
  | inr other ↦ omega arith
]

second_is_own : (m n x y : Msg) (b : ℕ) → y.from.0 < 2 → y.prio.0 ≡ 3 → (did m n b (Some x) (Some y)).taken 1 3 ≡ [] → y.from.0 ≡ 0
unfolding posting taking
second_is_own m n x y b h p e = elim (cases_eq y.from.0 1) [
  | inl one ↦ absurd (nothing_more (gained (λ _ _. []) x.from.0 x.prio.0 x 1 3) y (sym (gained-same (gained (λ _ _. []) x.from.0 x.prio.0 x) y.from.0 y.prio.0 1 3 y (sym one) (sym p)) ∙ e))
  | inr other ↦ omega arith
]

both_are_own : (m n x y : Msg) (b : ℕ) → x.from.0 < 2 → x.prio.0 ≡ 3 → y.from.0 ≡ 0 → (did m n b (Some x) (Some y)).taken 1 3 ≡ [] → x.from.0 ≡ 0
unfolding posting taking
both_are_own m n x y b h p own e = elim (cases_eq x.from.0 1) [
  | inl one ↦ absurd (nothing_more [] x (sym (gained-same (λ _ _. []) x.from.0 x.prio.0 1 3 x (sym one) (sym p))
      ∙ sym (gained-other (gained (λ _ _. []) x.from.0 x.prio.0 x) y.from.0 y.prio.0 1 3 y (λ (f, g). absurd (omega arith))) ∙ e))
  | inr other ↦ omega arith
]

taken_one : (m n x : Msg) (b : ℕ) → x.from.0 ≡ 0 → x.prio.0 ≡ 3 → (did m n b (Some x) None).taken 0 3 ≡ x ∷ []
unfolding posting taking
taken_one m n x b f p = gained-same (λ _ _. []) x.from.0 x.prio.0 0 3 x (sym f) (sym p)

taken_two : (m n x y : Msg) (b : ℕ) → x.from.0 ≡ 0 → x.prio.0 ≡ 3 → y.from.0 ≡ 0 → y.prio.0 ≡ 3 → (did m n b (Some x) (Some y)).taken 0 3 ≡ x ∷ (y ∷ [])
unfolding posting taking
taken_two m n x y b f p g q =
    gained-same (gained (λ _ _. []) x.from.0 x.prio.0 x) y.from.0 y.prio.0 0 3 y (sym g) (sym q)
    ∙ ap (λ ms. ms ++ y ∷ []) (gained-same (λ _ _. []) x.from.0 x.prio.0 0 3 x (sym f) (sym p))

not_missed : (in_box : ℕ → ℕ → ℕ → ℕ → Type 0) (m : Msg) (b : ℕ) → ToItself m → in_box 2 b 0 3 → OwnIsTaken in_box (posting (fresh 2 0) m) b → ⊥
unfolding posting
not_missed in_box m b i h o = nothing_more [] m (sym (gained-same (λ _ _. []) m.to.0 m.prio.0 0 3 m (sym i.to) (sym i.prio)) ∙ o.own 3 h)

prio_of : (in_box : ℕ → ℕ → ℕ → ℕ → Type 0) → ((k c s p s' p' : ℕ) → in_box k c s p → in_box k c s' p' → p ≡ p') → (b : ℕ) (log : EndLog) (x : Msg) → log.parties ≡ 2 → in_box 2 b 0 3 → IsOfBox in_box log b x → (x.from.0 < 2) × (x.prio.0 ≡ 3)
prio_of in_box one b log x two h i = (rw (← two) i.from, one 2 b x.from.0 x.prio.0 0 3 (subst (λ k. in_box k b x.from.0 x.prio.0) two i.lane) h)

parties_first : (m : Msg) → (posting (fresh 2 0) m).parties ≡ 2
unfolding posting
parties_first m = refl

parties_second : (m : Msg) (b : ℕ) (r : Option Msg) → (taking (posting (fresh 2 0) m) b r).parties ≡ 2
parties_second m b r = parties-taking (posting (fresh 2 0) m) b r ∙ parties_first m

-- from what a mail promises of one post, two looks, one post more and the close
exchanges_did : (in_box : ℕ → ℕ → ℕ → ℕ → Type 0) → ((k c s p s' p' : ℕ) → in_box k c s p → in_box k c s' p' → p ≡ p') → (m n : Msg) (b : ℕ) (r r' : Option Msg) (logs : List EndLog) (answer : List (List Msg)) →
    ToItself m → ToItself n → in_box 2 b 0 3 → IfSome r (IsOfBox in_box (posting (fresh 2 0) m) b) → IfNone r (OwnIsTaken in_box (posting (fresh 2 0) m) b) →
    IfSome r' (IsOfBox in_box (taking (posting (fresh 2 0) m) b r) b) → AreTwo logs (did m n b r r') → IsLeft logs answer → Exchanges m n r r' answer
exchanges_did in_box one m n b None r' logs answer i j h some none some' t l = absurd (not_missed in_box m b i h none)
exchanges_did in_box one m n b (Some x) None logs answer i j h some none some' t l =
    let f = prio_of in_box one b (posting (fresh 2 0) m) x (parties_first m) h some in
    let own = first_is_own m n x b f.0 f.1 (front_empty _ (l.left 1 0 3) (kept_other m n b (Some x) None logs answer i j t l)) in
    let all : x ∷ l.left 0 0 3 ≡ m ∷ (n ∷ []) = ap (λ ms. ms ++ l.left 0 0 3) (sym (taken_one m n x b own f.1)) ∙ kept_own m n b (Some x) None logs answer i j t l in
    record { left = l.left 0 0 3; found = cc; rest = cc; lists = lists_are m n b (Some x) None logs answer i j t l }
exchanges_did in_box one m n b (Some x) (Some y) logs answer i j h some none some' t l =
    let f = prio_of in_box one b (posting (fresh 2 0) m) x (parties_first m) h some in
    let g = prio_of in_box one b (taking (posting (fresh 2 0) m) b (Some x)) y (parties_second m b (Some x)) h some' in
    let other = front_empty _ (l.left 1 0 3) (kept_other m n b (Some x) (Some y) logs answer i j t l) in
    let own' = second_is_own m n x y b g.0 g.1 other in
    let own = both_are_own m n x y b f.0 f.1 own' other in
    let all : x ∷ (y ∷ l.left 0 0 3) ≡ m ∷ (n ∷ []) = ap (λ ms. ms ++ l.left 0 0 3) (sym (taken_two m n x y b own f.1 own' g.1)) ∙ kept_own m n b (Some x) (Some y) logs answer i j t l in
    record { left = l.left 0 0 3; found = cc; rest = cc; lists = lists_are m n b (Some x) (Some y) logs answer i j t l }

-- the same of the lists of logs after each step
pub exchanges_steps : (in_box : ℕ → ℕ → ℕ → ℕ → Type 0) → ((k c s p s' p' : ℕ) → in_box k c s p → in_box k c s' p' → p ≡ p') → (m n : Msg) (b : ℕ) (r r' : Option Msg) (l0 l1 l2 l3 l4 : List EndLog) (answer : List (List Msg)) →
    CanPost 0 2 m × (m.prio.0 ≡ 3) → CanPost 0 2 n × (n.prio.0 ≡ 3) → in_box 2 b 0 3 → AreFresh 2 l0 →
    l1 ≡ set l0 m.from.0 (posting (log_at l0 m.from.0) m) →
    l2 ≡ set l1 0 (taking (log_at l1 0) b r) → IfSome r (IsOfBox in_box (log_at l1 0) b) → IfNone r (OwnIsTaken in_box (log_at l1 0) b) →
    l3 ≡ set l2 0 (taking (log_at l2 0) b r') → IfSome r' (IsOfBox in_box (log_at l2 0) b) →
    l4 ≡ set l3 n.from.0 (posting (log_at l3 n.from.0) n) → IsLeft l4 answer → Exchanges m n r r' answer
exchanges_steps in_box one m n b r r' l0 l1 l2 l3 l4 answer c d h fresh_ends e1 e2 some none e3 some' e4 left =
    let t1 = AreTwo-step m.from.0 (λ x. posting x m) (AreTwo-fresh fresh_ends) c.0.from e1 in
    let t2 = AreTwo-step 0 (λ x. taking x b r) t1 refl e2 in
    let t3 = AreTwo-step 0 (λ x. taking x b r') t2 refl e3 in
    let t4 = AreTwo-step n.from.0 (λ x. posting x n) t3 d.0.from e4 in
    exchanges_did in_box one m n b r r' l4 answer (to_itself m c.0 c.1) (to_itself n d.0 d.1) h
    (subst (λ x. IfSome r (IsOfBox in_box x b)) t1.first some) (subst (λ x. IfNone r (OwnIsTaken in_box x b)) t1.first none)
    (subst (λ x. IfSome r' (IsOfBox in_box x b)) t2.first some') t4 left

pub ruleset unused_steps = (left_unused)
