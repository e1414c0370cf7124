-- How the order in which timers expire goes with the timers.
use Rattle.std.proofs.Common.{◌≡◌, ℕ, ◌+◌, ◌<◌, ◌≤◌, ◌==◌, nat_le, Bool, true, false, cond, List, [], ◌∷◌, ◌++◌, length, map, Option, Some, None, refl, sym, ap, ◌∙◌, subst, arith}
use Rattle.std.specs.Prelude.{filter, min, slice_get, option_and_then, if◌then◌else◌}
use Rattle.std.specs.List.{All, AllByRecursion}
use Rattle.std.specs.List.Sorted.{IsStrictlySortedBy}
use Rattle.std.specs.Map.{remove_entry, keys_of, values_of}
use Rattle.std.specs.BTreeMap.{is_at as is_key, insert_entry}
use Rattle.std.specs.Cmp.{IsTotalOrder, nat_cmp_total, then_total, on_total}
use Rattle.std.specs.Ordering.{nat_cmp, is_eq, is_gt, match_ordering}
use Rattle.std.specs.declared.cmp.Ordering.{Ordering}
use Rattle.std.specs.declared.cmp.Ordering.TheVariants.{Less, Equal, Greater}
use Rattle.std.proofs.lemmas.Bool.{eqb-true}
use Rattle.std.proofs.lemmas.Bool.Decides.{nat_tests}
use Rattle.std.proofs.lemmas.Map.Keys.{sorted_head, sorted_tail}
use Rattle.std.proofs.lemmas.List.Elements.{recursion_from_All}
use Rattle.std.specs.BTreeMap.Range.{IsLeBy}
use Rattle.room_kinds.specs.declared.numbers.Endpoint.{Endpoint}
use Rattle.room_timer.specs.declared.due_turn.DueTurn.{DueTurn}
use Rattle.room_timer.specs.declared.timer.Timer.{Timer}
use Rattle.room_timer.specs.Turns.{due_cmp, run_at, due_run, timer_of, taken, IsInOrder, IsDueTurn}
use Rattle.room_timer.specs.Timers.{sooner, earliest, due_by, is_due}

due_total : IsTotalOrder due_cmp
due_total = then_total (on_total (λ (k : DueTurn). k.due) nat_cmp_total) (on_total (λ (k : DueTurn). k.turn) nat_cmp_total)

-- what the order says of two
later : (a b : DueTurn) → due_cmp a b ≡ Less → b.due ≡ a.due → a.turn < b.turn
later a b e same = grind (arith, nat_tests, e, same)

-- behind a key stands none that is due then and has an earlier turn
none_later : (due turn : ℕ) (es : List (DueTurn × Endpoint)) → AllByRecursion (λ k. due_cmp (record { due = due; turn = turn }) k ≡ Less) (keys_of es)
    → AllByRecursion (λ p. p.0 < turn) (run_at due es) → run_at due es ≡ []
none_later due turn [] a h = refl
none_later due turn (e ∷ es) a h = go (e.0.due == due) refl h (none_later due turn es a.1)
  where
    go : (b : Bool) → (e.0.due == due) ≡ b → AllByRecursion (λ p. p.0 < turn) (cond b ((e.0.turn, e.1) ∷ run_at due es) (run_at due es))
        → (AllByRecursion (λ p. p.0 < turn) (run_at due es) → run_at due es ≡ [])
        → cond b ((e.0.turn, e.1) ∷ run_at due es) (run_at due es) ≡ []
    go true t k again =
        let up : turn < e.0.turn = later (record { due = due; turn = turn }) e.0 a.0 (eqb-true e.0.due due t) in
        let down : e.0.turn < turn = k.0 in absurd (omega (arith, up, down))
    go false t k again = again k

-- ---- the runs of what is due at one time

behind_all : (k e : DueTurn) (ks : List DueTurn) → due_cmp k e ≡ Less → AllByRecursion (λ y. due_cmp e y ≡ Less) ks → AllByRecursion (λ y. due_cmp k y ≡ Less) ks
behind_all k e [] l a = tt
behind_all k e (y ∷ ys) l a = (due_total.trans k e y l a.0, behind_all k e ys l a.1)

rest_below : (turn : ℕ) (b : Bool) (p : ℕ × Endpoint) (r : List (ℕ × Endpoint)) → AllByRecursion (λ q. q.0 < turn) (cond b (p ∷ r) r) → AllByRecursion (λ q. q.0 < turn) r
rest_below turn true p r h = h.1
rest_below turn false p r h = h

alone : (x : ℕ × Endpoint) (r : List (ℕ × Endpoint)) → r ≡ [] → x ∷ r ≡ r ++ x ∷ []
alone x [] h = refl
alone x (y ∷ ys) h = absurd cc

-- one more behind, as a test says, and one more in front
step_behind : (x p : ℕ × Endpoint) (d c : Bool) (r next : List (ℕ × Endpoint)) → next ≡ cond c (r ++ x ∷ []) r
    → cond d (p ∷ next) next ≡ cond c (cond d (p ∷ r) r ++ x ∷ []) (cond d (p ∷ r) r)
step_behind x p true true r next h = ap (λ (q : List (ℕ × Endpoint)). p ∷ q) h
step_behind x p true false r next h = ap (λ (q : List (ℕ × Endpoint)). p ∷ q) h
step_behind x p false true r next h = h
step_behind x p false false r next h = h

pub run_inserted : (es : List (DueTurn × Endpoint)) (due turn : ℕ) (at : Endpoint) → IsStrictlySortedBy due_cmp (keys_of es)
    → AllByRecursion (λ p. p.0 < turn) (run_at due es) → (time : ℕ)
    → run_at time (insert_entry due_cmp es (record { due = due; turn = turn }) at) ≡ cond (due == time) (run_at time es ++ (turn, at) ∷ []) (run_at time es)
run_inserted [] due turn at s h time = refl
run_inserted (e ∷ es) due turn at s h time =
    go (due_cmp (record { due = due; turn = turn }) e.0) refl
    (run_inserted es due turn at (sorted_tail due_cmp e.0 (keys_of es) s) (rest_below turn (e.0.due == due) (e.0.turn, e.1) (run_at due es) h) time)
  where
    key : DueTurn
    key = record { due = due; turn = turn }

    first : (c : Bool) → (due == time) ≡ c → due_cmp key e.0 ≡ Less
        → cond c ((turn, at) ∷ run_at time (e ∷ es)) (run_at time (e ∷ es)) ≡ cond c (run_at time (e ∷ es) ++ (turn, at) ∷ []) (run_at time (e ∷ es))
    first true t l =
        subst (λ (q : ℕ). (turn, at) ∷ run_at q (e ∷ es) ≡ run_at q (e ∷ es) ++ (turn, at) ∷ []) (eqb-true due time t)
        (alone (turn, at) (run_at due (e ∷ es))
        (none_later due turn (e ∷ es) (l, behind_all key e.0 (keys_of es) l (sorted_head due_cmp e.0 (keys_of es) s)) h))
    first false t l = refl

    same_due : due_cmp key e.0 ≡ Equal → (e.0.due == due) ≡ true
    same_due k = grind (arith, nat_tests, k)

    same_turn : due_cmp key e.0 ≡ Equal → e.0.turn ≡ turn
    same_turn k = grind (arith, nat_tests, k)

    head : (b : Bool) → b ≡ true → AllByRecursion (λ p. p.0 < turn) (cond b ((e.0.turn, e.1) ∷ run_at due es) (run_at due es)) → e.0.turn < turn
    head true t k = k.0
    head false t k = absurd cc

    go : (o : Ordering) → due_cmp key e.0 ≡ o
        → run_at time (insert_entry due_cmp es key at) ≡ cond (due == time) (run_at time es ++ (turn, at) ∷ []) (run_at time es)
        → run_at time (match_ordering o ((key, at) ∷ e ∷ es) ((e.0, at) ∷ es) (e ∷ insert_entry due_cmp es key at))
        ≡ cond (due == time) (run_at time (e ∷ es) ++ (turn, at) ∷ []) (run_at time (e ∷ es))
    go Less k again = first (due == time) refl k
    go Equal k again =
        let low : e.0.turn < turn = head (e.0.due == due) (same_due k) h in
        absurd (omega (arith, low, same_turn k))
    go Greater k again =
        step_behind (turn, at) (e.0.turn, e.1) (e.0.due == time) (due == time) (run_at time es) (run_at time (insert_entry due_cmp es key at)) again

step_taken : (turn : ℕ) (p : ℕ × Endpoint) (d c : Bool) (r next : List (ℕ × Endpoint))
    → (d ≡ true → c ≡ true → is_key (nat_cmp turn) p.0 ≡ false) → next ≡ cond c (taken turn r) r
    → cond d (p ∷ next) next ≡ cond c (taken turn (cond d (p ∷ r) r)) (cond d (p ∷ r) r)
step_taken turn p true true r next apart h =
    ap (λ (q : List (ℕ × Endpoint)). p ∷ q) h ∙ ap (λ (b : Bool). cond b r (p ∷ taken turn r)) (sym (apart refl refl))
step_taken turn p true false r next apart h = ap (λ (q : List (ℕ × Endpoint)). p ∷ q) h
step_taken turn p false true r next apart h = h
step_taken turn p false false r next apart h = h

pub run_removed : (es : List (DueTurn × Endpoint)) (due turn time : ℕ)
    → run_at time (remove_entry (is_key (due_cmp (record { due = due; turn = turn }))) es) ≡ cond (due == time) (taken turn (run_at time es)) (run_at time es)
run_removed [] due turn time = go (due == time)
  where
    go : (b : Bool) → ◌≡◌ {A = List (ℕ × Endpoint)} [] (cond b [] [])
    go true = refl
    go false = refl
run_removed (e ∷ es) due turn time = go (is_key (due_cmp key) e.0) refl (run_removed es due turn time)
  where
    key : DueTurn
    key = record { due = due; turn = turn }

    turn_here : is_key (due_cmp key) e.0 ≡ true → is_key (nat_cmp turn) e.0.turn ≡ true
    turn_here k = grind (arith, nat_tests, k)

    due_here : is_key (due_cmp key) e.0 ≡ true → (e.0.due == time) ≡ (due == time)
    due_here k = let same : e.0.due ≡ due = grind (arith, nat_tests, k) in ap (λ (q : ℕ). q == time) same

    apart : is_key (due_cmp key) e.0 ≡ false → (e.0.due == time) ≡ true → (due == time) ≡ true → is_key (nat_cmp turn) e.0.turn ≡ false
    apart k d c = grind (arith, nat_tests, k, eqb-true e.0.due time d, eqb-true due time c)

    here : (b c : Bool) → b ≡ true → run_at time es ≡ cond c (cond b (run_at time es) ((e.0.turn, e.1) ∷ taken turn (run_at time es))) (run_at time es)
    here true true k = refl
    here true false k = refl
    here false c k = absurd cc

    found : (d c : Bool) → d ≡ c → is_key (nat_cmp turn) e.0.turn ≡ true
        → run_at time es ≡ cond c (taken turn (cond d ((e.0.turn, e.1) ∷ run_at time es) (run_at time es))) (cond d ((e.0.turn, e.1) ∷ run_at time es) (run_at time es))
    found true true s k = here (is_key (nat_cmp turn) e.0.turn) true k
    found true false s k = absurd cc
    found false true s k = absurd cc
    found false false s k = refl

    go : (b : Bool) → is_key (due_cmp key) e.0 ≡ b
        → run_at time (remove_entry (is_key (due_cmp key)) es) ≡ cond (due == time) (taken turn (run_at time es)) (run_at time es)
        → run_at time (cond b es (e ∷ remove_entry (is_key (due_cmp key)) es)) ≡ cond (due == time) (taken turn (run_at time (e ∷ es))) (run_at time (e ∷ es))
    go true k again = found (e.0.due == time) (due == time) (due_here k) (turn_here k)
    go false k again =
        step_taken turn (e.0.turn, e.1) (e.0.due == time) (due == time) (run_at time es) (run_at time (remove_entry (is_key (due_cmp key)) es)) (apart k) again

-- ---- timers that come and go

run_pushed : (ts : List (ℕ × Timer)) (turn : ℕ) (x : Timer) (time : ℕ)
    → due_run time (ts ++ (turn, x) ∷ []) ≡ cond (x.due == time) (due_run time ts ++ (turn, x.at) ∷ []) (due_run time ts)
run_pushed [] turn x time = refl
run_pushed (e ∷ ts) turn x time =
    step_behind (turn, x.at) (e.0, e.1.at) (e.1.due == time) (x.due == time) (due_run time ts) (due_run time (ts ++ (turn, x) ∷ [])) (run_pushed ts turn x time)

run_taken : (ts : List (ℕ × Timer)) (turn : ℕ) (x : Timer) → timer_of turn ts ≡ Some x → (time : ℕ)
    → due_run time (taken turn ts) ≡ cond (x.due == time) (taken turn (due_run time ts)) (due_run time ts)
run_taken [] turn x h time = absurd cc
run_taken (e ∷ ts) turn x h time = go (is_key (nat_cmp turn) e.0) refl h (λ k. run_taken ts turn x k time)
  where
    found : (b d c : Bool) → b ≡ true → d ≡ c → due_run time ts
        ≡ cond c (cond d (cond b (due_run time ts) ((e.0, e.1.at) ∷ taken turn (due_run time ts))) (taken turn (due_run time ts))) (cond d ((e.0, e.1.at) ∷ due_run time ts) (due_run time ts))
    found true true true k s = refl
    found true true false k s = absurd cc
    found true false true k s = absurd cc
    found true false false k s = refl
    found false d c k s = absurd cc

    turned : (d c : Bool) → cond c (cond d (taken turn ((e.0, e.1.at) ∷ due_run time ts)) (taken turn (due_run time ts))) (cond d ((e.0, e.1.at) ∷ due_run time ts) (due_run time ts))
        ≡ cond c (taken turn (cond d ((e.0, e.1.at) ∷ due_run time ts) (due_run time ts))) (cond d ((e.0, e.1.at) ∷ due_run time ts) (due_run time ts))
    turned true true = refl
    turned true false = refl
    turned false true = refl
    turned false false = refl

    go : (b : Bool) → is_key (nat_cmp turn) e.0 ≡ b → cond b (Some e.1) (timer_of turn ts) ≡ Some x
        → (timer_of turn ts ≡ Some x → due_run time (taken turn ts) ≡ cond (x.due == time) (taken turn (due_run time ts)) (due_run time ts))
        → due_run time (cond b ts (e ∷ taken turn ts)) ≡ cond (x.due == time) (taken turn (due_run time (e ∷ ts))) (due_run time (e ∷ ts))
    go true k s again =
        let same : e.1 ≡ x = cc in
        found (is_key (nat_cmp turn) e.0) (e.1.due == time) (x.due == time) k (ap (λ (y : Timer). y.due == time) same)
        ∙ turned (e.1.due == time) (x.due == time)
    go false k s again =
        step_taken turn (e.0, e.1.at) (e.1.due == time) (x.due == time) (due_run time ts) (due_run time (taken turn ts)) (λ d c. k) (again s)

pub run_below : (turn time : ℕ) (ts : List (ℕ × Timer)) → AllByRecursion (λ e. e.0 < turn) ts → AllByRecursion (λ p. p.0 < turn) (due_run time ts)
run_below turn time [] h = tt
run_below turn time (e ∷ ts) h = go (e.1.due == time) (run_below turn time ts h.1)
  where
    go : (b : Bool) → AllByRecursion (λ p. p.0 < turn) (due_run time ts) → AllByRecursion (λ p. p.0 < turn) (cond b ((e.0, e.1.at) ∷ due_run time ts) (due_run time ts))
    go true k = (h.0, k)
    go false k = k

-- the run of a new timer's time has earlier turns alone
pub fresh : (dues : List (DueTurn × Endpoint)) (ts : List (ℕ × Timer)) (turn time : ℕ) → AllByRecursion (λ e. e.0 < turn) ts → IsInOrder dues ts
    → AllByRecursion (λ p. p.0 < turn) (run_at time dues)
fresh dues ts turn time h o = subst (λ (r : List (ℕ × Endpoint)). AllByRecursion (λ p. p.0 < turn) r) (sym (o time)) (run_below turn time ts h)

pub last_taken : {X : Type 0} (xs : List (ℕ × X)) (turn : ℕ) (x : X) → AllByRecursion (λ p. p.0 < turn) xs → taken turn (xs ++ (turn, x) ∷ []) ≡ xs
last_taken {X = X} [] turn x h = go (is_key (nat_cmp turn) turn) (grind (arith, nat_tests))
  where
    go : (b : Bool) → b ≡ true → cond {A = List (ℕ × X)} b [] ((turn, x) ∷ []) ≡ []
    go true k = refl
    go false k = absurd cc
last_taken {X = X} (y ∷ ys) turn x h = go (is_key (nat_cmp turn) y.0) apart (last_taken ys turn x h.1)
  where
    apart : is_key (nat_cmp turn) y.0 ≡ false
    apart = let low : y.0 < turn = h.0 in grind (arith, nat_tests, low)

    go : (b : Bool) → b ≡ false → taken turn (ys ++ (turn, x) ∷ []) ≡ ys → cond b (ys ++ (turn, x) ∷ []) (y ∷ taken turn (ys ++ (turn, x) ∷ [])) ≡ y ∷ ys
    go true k again = absurd cc
    go false k again = ap (λ (zs : List (ℕ × X)). y ∷ zs) again

pub inserted_last : (ts : List (ℕ × Timer)) (turn : ℕ) (x : Timer) → AllByRecursion (λ e. e.0 < turn) ts → insert_entry nat_cmp ts turn x ≡ ts ++ (turn, x) ∷ []
inserted_last [] turn x h = refl
inserted_last (e ∷ ts) turn x h = go (nat_cmp turn e.0) above (inserted_last ts turn x h.1)
  where
    above : nat_cmp turn e.0 ≡ Greater
    above = let low : e.0 < turn = h.0 in grind (arith, nat_tests, low)

    go : (o : Ordering) → o ≡ Greater → insert_entry nat_cmp ts turn x ≡ ts ++ (turn, x) ∷ []
        → match_ordering o ((turn, x) ∷ e ∷ ts) ((e.0, x) ∷ ts) (e ∷ insert_entry nat_cmp ts turn x) ≡ e ∷ ts ++ (turn, x) ∷ []
    go Less k again = absurd cc
    go Equal k again = absurd cc
    go Greater k again = ap (λ (zs : List (ℕ × Timer)). e ∷ zs) again

-- ---- the order in which timers expire goes with them
module _ (dues next : List (DueTurn × Endpoint)) (ts : List (ℕ × Timer)) (turn : ℕ) (x : Timer) (o : IsInOrder dues ts) where
  pub pushed : ((time : ℕ) → run_at time next ≡ cond (x.due == time) (run_at time dues ++ (turn, x.at) ∷ []) (run_at time dues))
      → IsInOrder next (ts ++ (turn, x) ∷ [])
  pushed is time =
      is time ∙ ap (λ (r : List (ℕ × Endpoint)). cond (x.due == time) (r ++ (turn, x.at) ∷ []) r) (o time) ∙ sym (run_pushed ts turn x time)

  pub dropped : timer_of turn ts ≡ Some x → ((time : ℕ) → run_at time next ≡ cond (x.due == time) (taken turn (run_at time dues)) (run_at time dues))
      → IsInOrder next (taken turn ts)
  dropped h is time =
      is time ∙ ap (λ (r : List (ℕ × Endpoint)). cond (x.due == time) (taken turn r) r) (o time) ∙ sym (run_taken ts turn x h time)

-- a timer that came and went again at once
pub undone : (dues between next : List (DueTurn × Endpoint)) (ts : List (ℕ × Timer)) (turn : ℕ) (x : Timer) → IsInOrder dues ts → AllByRecursion (λ e. e.0 < turn) ts
    → ((time : ℕ) → run_at time between ≡ cond (x.due == time) (run_at time dues ++ (turn, x.at) ∷ []) (run_at time dues))
    → ((time : ℕ) → run_at time next ≡ cond (x.due == time) (taken turn (run_at time between)) (run_at time between)) → IsInOrder next ts
undone dues between next ts turn x o h came went time =
    went time ∙ ap (λ (r : List (ℕ × Endpoint)). cond (x.due == time) (taken turn r) r) (came time)
    ∙ both (x.due == time) (run_at time dues) (fresh dues ts turn time h o) ∙ o time
  where
    both : (c : Bool) (r : List (ℕ × Endpoint)) → AllByRecursion (λ p. p.0 < turn) r
        → cond c (taken turn (cond c (r ++ (turn, x.at) ∷ []) r)) (cond c (r ++ (turn, x.at) ∷ []) r) ≡ r
    both true r k = last_taken r turn x.at k
    both false r k = refl

-- ---- which is due first

-- no timer is due before a time
abbrev AllFrom : ℕ → List Timer → Type 0
AllFrom time xs = AllByRecursion (λ (x : Timer). time ≤ x.due) xs

at_least : {X : Type 0} (b : Bool) (p : X) (r : List X) → 0 < length r → 0 < length (cond b (p ∷ r) r)
at_least true p r h = omega arith
at_least false p r h = h

one_here : {X : Type 0} (b : Bool) (p : X) (r : List X) → b ≡ true → 0 < length (cond b (p ∷ r) r)
one_here true p r h = omega arith
one_here false p r h = absurd cc

each_from : (time : ℕ) (ts : List (ℕ × Timer)) → ((q : ℕ) → 0 < length (due_run q ts) → time ≤ q) → AllFrom time (values_of ts)
each_from time [] h = tt
each_from time (e ∷ ts) h = (
  h e.1.due (one_here (e.1.due == e.1.due) (e.0, e.1.at) (due_run e.1.due ts) (grind (arith, nat_tests))),
  each_from time ts (λ q some. h q (at_least (e.1.due == q) (e.0, e.1.at) (due_run q ts) some)),
)

from_least_of : (time other : ℕ) (xs : List Timer) → AllFrom time xs → earliest xs ≡ Some other → time ≤ other
from_least_of time other [] h e = absurd cc
from_least_of time other (x ∷ xs) h e = go (earliest xs) refl e (λ b k. from_least_of time b xs h.1 k)
  where
    go : (o : Option ℕ) → earliest xs ≡ o → sooner (Some x.due) o ≡ Some other → ((b : ℕ) → earliest xs ≡ Some b → time ≤ b) → time ≤ other
    go None k f again = let same : x.due ≡ other = cc in let low : time ≤ x.due = h.0 in omega (arith, same, low)
    go (Some b) k f again =
        let same : min x.due b ≡ other = cc in
        let low : time ≤ x.due = h.0 in
        let more : time ≤ b = again b k in
        omega (arith, same, low, more)

is_earliest : (time : ℕ) (ts : List (ℕ × Timer)) → AllFrom time (values_of ts) → 0 < length (due_run time ts) → earliest (values_of ts) ≡ Some time
is_earliest time [] h some = absurd (omega (arith, some))
is_earliest time (e ∷ ts) h some = go (e.1.due == time) refl some (is_earliest time ts h.1)
  where
    first : (o : Option ℕ) → earliest (values_of ts) ≡ o → e.1.due ≡ time → sooner (Some e.1.due) o ≡ Some time
    first None k here = ap Some here
    first (Some b) k here =
        let more : time ≤ b = from_least_of time b (values_of ts) h.1 k in ap Some (omega (arith, here, more))

    go : (b : Bool) → (e.1.due == time) ≡ b → 0 < length (cond b ((e.0, e.1.at) ∷ due_run time ts) (due_run time ts))
        → (0 < length (due_run time ts) → earliest (values_of ts) ≡ Some time) → sooner (Some e.1.due) (earliest (values_of ts)) ≡ Some time
    go true k m again = first (earliest (values_of ts)) refl (eqb-true e.1.due time k)
    go false k m again =
        let low : time ≤ e.1.due = h.0 in ap (sooner (Some e.1.due)) (again m) ∙ ap Some (omega (arith, low))

-- no timer is due by a time before all of them
none_by : (until time : ℕ) (xs : List Timer) → until < time → AllFrom time xs → due_by until xs ≡ None
unfolding due_by
none_by until time xs later h = go (earliest xs) refl
  where
    not_yet : (least : ℕ) → until < least → (if nat_le least until then Some least else None) ≡ None
    not_yet least l = grind (arith, nat_tests)

    go : (o : Option ℕ) → earliest xs ≡ o → option_and_then (λ least. if nat_le least until then Some least else None) o ≡ None
    go None e = refl
    go (Some least) e = let low : time ≤ least = from_least_of time least xs h e in not_yet least (omega (arith, later, low))

due_by_least : (until time : ℕ) (xs : List Timer) → earliest xs ≡ Some time → time ≤ until → due_by until xs ≡ Some time
unfolding due_by
due_by_least until time xs e by =
    ap (λ (o : Option ℕ). option_and_then (λ least. if nat_le least until then Some least else None) o) e ∙ now
  where
    now : (if nat_le time until then Some time else None) ≡ Some time
    now = grind (arith, nat_tests)

-- the due time of a key is no later than that of those behind it
least_key : (k y : DueTurn) → is_gt (due_cmp k y) ≡ false → k.due ≤ y.due
least_key k y h = grind (arith, nat_tests, h)

least_run : (k : DueTurn) (q : ℕ) (es : List (DueTurn × Endpoint)) → AllByRecursion (IsLeBy due_cmp k) (keys_of es) → 0 < length (run_at q es) → k.due ≤ q
least_run k q [] a h = absurd (omega (arith, h))
least_run k q (e ∷ es) a h = go (e.0.due == q) refl h (least_run k q es a.1)
  where
    go : (b : Bool) → (e.0.due == q) ≡ b → 0 < length (cond b ((e.0.turn, e.1) ∷ run_at q es) (run_at q es)) → (0 < length (run_at q es) → k.due ≤ q) → k.due ≤ q
    go true t m again = let low : k.due ≤ e.0.due = least_key k e.0 a.0 in omega (arith, low, eqb-true e.0.due q t)
    go false t m again = again m

from_first : (dues : List (DueTurn × Endpoint)) (ts : List (ℕ × Timer)) (k : DueTurn) → IsInOrder dues ts → All (IsLeBy due_cmp k) (keys_of dues) → AllFrom k.due (values_of ts)
from_first dues ts k o a =
    each_from k.due ts (λ q some.
    least_run k q dues (recursion_from_All (IsLeBy due_cmp k) (keys_of dues) a) (subst (λ (r : List (ℕ × Endpoint)). 0 < length r) (sym (o q)) some))

pub not_yet_due : (until : ℕ) (dues : List (DueTurn × Endpoint)) (ts : List (ℕ × Timer)) (k : DueTurn) → IsInOrder dues ts
    → All (IsLeBy due_cmp k) (keys_of dues) → until < k.due → due_by until (values_of ts) ≡ None
not_yet_due until dues ts k o a later = none_by until k.due (values_of ts) later (from_first dues ts k o a)

emptied : {A : Type 0} (xs : List A) → (0 < length xs → false ≡ true) → xs ≡ []
emptied [] h = refl
emptied (x ∷ xs) h = absurd (let no = h (omega arith) in cc)

pub nothing_due : (until : ℕ) (dues : List (DueTurn × Endpoint)) (ts : List (ℕ × Timer)) → IsInOrder dues ts → (0 < length dues → false ≡ true)
    → due_by until (values_of ts) ≡ None
nothing_due until dues ts o h =
    none_by until (until + 1) (values_of ts) (omega arith) (each_from (until + 1) ts (λ q some. absurd (none q some)))
  where
    none : (q : ℕ) → 0 < length (due_run q ts) → ⊥
    none q some =
        let empty : due_run q ts ≡ [] = sym (o q) ∙ ap (run_at q) (emptied dues h) in
        let no : length (due_run q ts) ≡ 0 = ap length empty in omega (arith, some, no)

-- the run of its own time begins with the first
head_run : (k : DueTurn) (at : Endpoint) (es : List (DueTurn × Endpoint)) → slice_get es 0 ≡ Some (k, at) → slice_get (run_at k.due es) 0 ≡ Some (k.turn, at)
head_run k at [] h = absurd cc
head_run k at (e ∷ es) h = go (e.0.due == k.due) (grind (arith, nat_tests, here))
  where
    same : e ≡ (k, at)
    same = cc

    here : e.0.due ≡ k.due
    here = ap (λ (p : DueTurn × Endpoint). p.0.due) same

    go : (b : Bool) → b ≡ true → slice_get (cond b ((e.0.turn, e.1) ∷ run_at k.due es) (run_at k.due es)) 0 ≡ Some (k.turn, at)
    go true t = ap (λ (p : DueTurn × Endpoint). Some (p.0.turn, p.1)) same
    go false t = absurd cc

-- a turn before all others is none of them
none_before : (n : ℕ) (x : Timer) (ts : List (ℕ × Timer)) → AllByRecursion (λ y. nat_cmp n y ≡ Less) (keys_of ts) → timer_of n ts ≡ Some x → ⊥
none_before n x [] a h = cc
none_before n x (e ∷ ts) a h = go (is_key (nat_cmp n) e.0) apart h (none_before n x ts a.1)
  where
    apart : is_key (nat_cmp n) e.0 ≡ false
    apart = ap is_eq a.0

    go : (b : Bool) → b ≡ false → cond b (Some e.1) (timer_of n ts) ≡ Some x → (timer_of n ts ≡ Some x → ⊥) → ⊥
    go true k m again = cc
    go false k m again = again m

inner : (p q : ℕ × Endpoint) → ◌≡◌ {A = Option (ℕ × Endpoint)} (Some p) (Some q) → p ≡ q
inner p q h = cc

found_first : (time turn : ℕ) (at : Endpoint) (ts : List (ℕ × Timer)) → IsStrictlySortedBy nat_cmp (keys_of ts)
    → slice_get (due_run time ts) 0 ≡ Some (turn, at) → timer_of turn ts ≡ Some (record { at = at; due = time })
found_first time turn at [] s h = absurd cc
found_first time turn at (e ∷ ts) s h = go (e.1.due == time) refl h (found_first time turn at ts (sorted_tail nat_cmp e.0 (keys_of ts) s))
  where
    here : (b : Bool) → b ≡ true → e.1 ≡ record { at = at; due = time } → cond b (Some e.1) (timer_of turn ts) ≡ Some (record { at = at; due = time })
    here true k m = ap Some m
    here false k m = absurd cc

    there : (b : Bool) → is_key (nat_cmp turn) e.0 ≡ b → timer_of turn ts ≡ Some (record { at = at; due = time })
        → cond b (Some e.1) (timer_of turn ts) ≡ Some (record { at = at; due = time })
    there true k m =
        let same : turn ≡ e.0 = grind (arith, nat_tests, k) in
        absurd (none_before e.0 (record { at = at; due = time }) ts (sorted_head nat_cmp e.0 (keys_of ts) s) (subst (λ (n : ℕ). timer_of n ts ≡ Some (record { at = at; due = time })) same m))
    there false k m = m

    go : (b : Bool) → (e.1.due == time) ≡ b → slice_get (cond b ((e.0, e.1.at) ∷ due_run time ts) (due_run time ts)) 0 ≡ Some (turn, at)
        → (slice_get (due_run time ts) 0 ≡ Some (turn, at) → timer_of turn ts ≡ Some (record { at = at; due = time }))
        → cond (is_key (nat_cmp turn) e.0) (Some e.1) (timer_of turn ts) ≡ Some (record { at = at; due = time })
    go true k m again =
        let same : (e.0, e.1.at) ≡ (turn, at) = inner (e.0, e.1.at) (turn, at) m in
        let same_turn : e.0 ≡ turn = ap (λ (p : ℕ × Endpoint). p.0) same in
        let same_at : e.1.at ≡ at = ap (λ (p : ℕ × Endpoint). p.1) same in
        let same_due : e.1.due ≡ time = eqb-true e.1.due time k in
        here (is_key (nat_cmp turn) e.0) (grind (arith, nat_tests, same_turn))
        (ap (λ (a : Endpoint). record { at = a; due = e.1.due }) same_at ∙ ap (λ (d : ℕ). record { at = at; due = d }) same_due)
    go false k m again = there (is_key (nat_cmp turn) e.0) refl (again m)

has_head : {A : Type 0} (xs : List A) (x : A) → slice_get xs 0 ≡ Some x → 0 < length xs
has_head [] x h = absurd cc
has_head (y ∷ ys) x h = omega arith

pub due_first : (until : ℕ) (dues : List (DueTurn × Endpoint)) (ts : List (ℕ × Timer)) (k : DueTurn) (at : Endpoint) → IsInOrder dues ts
    → IsStrictlySortedBy nat_cmp (keys_of ts) → slice_get dues 0 ≡ Some (k, at) → All (IsLeBy due_cmp k) (keys_of dues) → k.due ≤ until
    → (due_by until (values_of ts) ≡ Some k.due) × (k.due ≤ until) × IsDueTurn ts k.due k.turn
due_first until dues ts k at o s h a by = (
  due_by_least until k.due (values_of ts) (is_earliest k.due ts (from_first dues ts k o a) (has_head (due_run k.due ts) (k.turn, at) there)) by,
  by,
  (at, found_first k.due k.turn at ts s there),
)
  where
    there : slice_get (due_run k.due ts) 0 ≡ Some (k.turn, at)
    there = ap (λ (r : List (ℕ × Endpoint)). slice_get r 0) (sym (o k.due)) ∙ head_run k at dues h

-- ---- those that are due at a time

pub due_listed : {L : Type 0} (f : Endpoint → L) (time : ℕ) (ts : List (ℕ × Timer))
    → map (λ p. f p.1) (due_run time ts) ≡ map (λ x. f x.at) (filter (is_due time) (values_of ts))
due_listed f time [] = refl
due_listed {L = L} f time (e ∷ ts) = go (e.1.due == time) (due_listed f time ts)
  where
    go : (b : Bool) → map (λ p. f p.1) (due_run time ts) ≡ map (λ (x : Timer). f x.at) (filter (is_due time) (values_of ts))
        → map (λ p. f p.1) (cond b ((e.0, e.1.at) ∷ due_run time ts) (due_run time ts))
        ≡ map (λ (x : Timer). f x.at) (if b then e.1 ∷ filter (is_due time) (values_of ts) else filter (is_due time) (values_of ts))
    go true k = ap (λ (ls : List L). f e.1.at ∷ ls) k
    go false k = k

all_past : (time : ℕ) (k : DueTurn) (es : List (DueTurn × Endpoint)) → time < k.due → AllByRecursion (λ y. due_cmp k y ≡ Less) (keys_of es) → run_at time es ≡ []
all_past time k [] l a = refl
all_past time k (e ∷ es) l a = go (e.0.due == time) apart (all_past time k es l a.1)
  where
    apart : (e.0.due == time) ≡ false
    apart = let low : k.due ≤ e.0.due = least_key k e.0 (ap is_gt a.0) in grind (arith, nat_tests, low, l)

    go : (b : Bool) → b ≡ false → run_at time es ≡ [] → cond b ((e.0.turn, e.1) ∷ run_at time es) (run_at time es) ≡ []
    go true k again = absurd cc
    go false k again = again

-- once a later time has come, none is left
pub run_past : (time : ℕ) (e : DueTurn × Endpoint) (es : List (DueTurn × Endpoint)) → time < e.0.due → IsStrictlySortedBy due_cmp (keys_of (e ∷ es)) → run_at time (e ∷ es) ≡ []
run_past time e es l s = go (e.0.due == time) (grind (arith, nat_tests, l)) (all_past time e.0 es l (sorted_head due_cmp e.0 (keys_of es) s))
  where
    go : (b : Bool) → b ≡ false → run_at time es ≡ [] → cond b ((e.0.turn, e.1) ∷ run_at time es) (run_at time es) ≡ []
    go true k again = absurd cc
    go false k again = again

-- ---- a walk over all keys up to a time

joined : {L : Type 0} (xs ys : List L) (y : L) → (xs ++ y ∷ []) ++ ys ≡ xs ++ y ∷ ys
joined [] ys y = refl
joined {L = L} (x ∷ xs) ys y = ap (λ (zs : List L). x ∷ zs) (joined xs ys y)

ended : {L : Type 0} (xs : List L) → xs ++ [] ≡ xs
ended [] = refl
ended {L = L} (x ∷ xs) = ap (λ (zs : List L). x ∷ zs) (ended xs)

module _ {L : Type 0} (f : Endpoint → L) (time : ℕ) (whole : List L) where
  -- what was told, and what the rest has for this time
  abbrev pub Walks : List L → List (DueTurn × Endpoint) → Type 0
  Walks told es = (told ++ map (λ p. f p.1) (run_at time es) ≡ whole) × IsStrictlySortedBy due_cmp (keys_of es)

  pub passed_over : (told : List L) (es rest : List (DueTurn × Endpoint)) (k : DueTurn) (at : Endpoint) → es ≡ (k, at) ∷ rest → (k.due == time) ≡ false
      → Walks told es → Walks told rest
  passed_over told es rest k at is apart h = (go (k.due == time) apart all.0, sorted_tail due_cmp k (keys_of rest) all.1)
    where
      all : Walks told ((k, at) ∷ rest)
      all = subst (λ (ys : List (DueTurn × Endpoint)). Walks told ys) is h

      go : (b : Bool) → b ≡ false → told ++ map (λ p. f p.1) (cond b ((k.turn, at) ∷ run_at time rest) (run_at time rest)) ≡ whole
          → told ++ map (λ p. f p.1) (run_at time rest) ≡ whole
      go true t m = absurd cc
      go false t m = m

  pub passed_on : (told next : List L) (es rest : List (DueTurn × Endpoint)) (k : DueTurn) (at : Endpoint) → es ≡ (k, at) ∷ rest → (k.due == time) ≡ true
      → next ≡ told ++ f at ∷ [] → Walks told es → Walks next rest
  passed_on told next es rest k at is here grown h = (
    ap (λ (xs : List L). xs ++ map (λ p. f p.1) (run_at time rest)) grown
        ∙ joined told (map (λ p. f p.1) (run_at time rest)) (f at) ∙ go (k.due == time) here all.0,
    sorted_tail due_cmp k (keys_of rest) all.1,
  )
    where
      all : Walks told ((k, at) ∷ rest)
      all = subst (λ (ys : List (DueTurn × Endpoint)). Walks told ys) is h

      go : (b : Bool) → b ≡ true → told ++ map (λ p. f p.1) (cond b ((k.turn, at) ∷ run_at time rest) (run_at time rest)) ≡ whole
          → told ++ f at ∷ map (λ p. f p.1) (run_at time rest) ≡ whole
      go true t m = m
      go false t m = absurd cc

  pub passed_all : (told : List L) (es : List (DueTurn × Endpoint)) → es ≡ [] → Walks told es → told ≡ whole
  passed_all told es is h =
      sym (ended told) ∙ ap (λ (ys : List (DueTurn × Endpoint)). told ++ map (λ p. f p.1) (run_at time ys)) (sym is) ∙ h.0

  pub passed_time : (told : List L) (es rest : List (DueTurn × Endpoint)) (k : DueTurn) (at : Endpoint) → es ≡ (k, at) ∷ rest → time < k.due
      → Walks told es → told ≡ whole
  passed_time told es rest k at is later h =
      sym (ended told)
      ∙ ap (λ (r : List (ℕ × Endpoint)). told ++ map (λ p. f p.1) r)
      (sym (ap (run_at time) is ∙ run_past time (k, at) rest later (subst (λ (ys : List (DueTurn × Endpoint)). IsStrictlySortedBy due_cmp (keys_of ys)) is h.1)))
      ∙ h.0

-- ---- those of some places stay

run_kept : (p : Endpoint → Bool) (time : ℕ) (es : List (DueTurn × Endpoint)) → run_at time (filter (λ e. p e.1) es) ≡ filter (λ q. p q.1) (run_at time es)
run_kept p time [] = refl
run_kept p time (e ∷ es) = go (p e.1) refl (run_kept p time es)
  where
    kept : (b : Bool) → b ≡ true → (if b then (e.0.turn, e.1) ∷ filter (λ q. p q.1) (run_at time es) else filter (λ q. p q.1) (run_at time es))
        ≡ (e.0.turn, e.1) ∷ filter (λ q. p q.1) (run_at time es)
    kept true t = refl
    kept false t = absurd cc

    lost : (b : Bool) → b ≡ false → (if b then (e.0.turn, e.1) ∷ filter (λ q. p q.1) (run_at time es) else filter (λ q. p q.1) (run_at time es))
        ≡ filter (λ q. p q.1) (run_at time es)
    lost true t = absurd cc
    lost false t = refl

    go : (b : Bool) → p e.1 ≡ b → run_at time (filter (λ e. p e.1) es) ≡ filter (λ q. p q.1) (run_at time es)
        → run_at time (if b then e ∷ filter (λ e. p e.1) es else filter (λ e. p e.1) es)
        ≡ filter (λ q. p q.1) (cond (e.0.due == time) ((e.0.turn, e.1) ∷ run_at time es) (run_at time es))
    go true t h = by (e.0.due == time)
      where
        by : (d : Bool) → cond d ((e.0.turn, e.1) ∷ run_at time (filter (λ e. p e.1) es)) (run_at time (filter (λ e. p e.1) es))
            ≡ filter (λ q. p q.1) (cond d ((e.0.turn, e.1) ∷ run_at time es) (run_at time es))
        by true = ap (λ (r : List (ℕ × Endpoint)). (e.0.turn, e.1) ∷ r) h ∙ sym (kept (p e.1) t)
        by false = h
    go false t h = by (e.0.due == time)
      where
        by : (d : Bool) → run_at time (filter (λ e. p e.1) es) ≡ filter (λ q. p q.1) (cond d ((e.0.turn, e.1) ∷ run_at time es) (run_at time es))
        by true = h ∙ sym (lost (p e.1) t)
        by false = h

due_run_kept : (p : Endpoint → Bool) (time : ℕ) (ts : List (ℕ × Timer)) → due_run time (filter (λ e. p e.1.at) ts) ≡ filter (λ q. p q.1) (due_run time ts)
due_run_kept p time [] = refl
due_run_kept p time (e ∷ ts) = go (p e.1.at) refl (due_run_kept p time ts)
  where
    kept : (b : Bool) → b ≡ true → (if b then (e.0, e.1.at) ∷ filter (λ q. p q.1) (due_run time ts) else filter (λ q. p q.1) (due_run time ts))
        ≡ (e.0, e.1.at) ∷ filter (λ q. p q.1) (due_run time ts)
    kept true t = refl
    kept false t = absurd cc

    lost : (b : Bool) → b ≡ false → (if b then (e.0, e.1.at) ∷ filter (λ q. p q.1) (due_run time ts) else filter (λ q. p q.1) (due_run time ts))
        ≡ filter (λ q. p q.1) (due_run time ts)
    lost true t = absurd cc
    lost false t = refl

    go : (b : Bool) → p e.1.at ≡ b → due_run time (filter (λ e. p e.1.at) ts) ≡ filter (λ q. p q.1) (due_run time ts)
        → due_run time (if b then e ∷ filter (λ e. p e.1.at) ts else filter (λ e. p e.1.at) ts)
        ≡ filter (λ q. p q.1) (cond (e.1.due == time) ((e.0, e.1.at) ∷ due_run time ts) (due_run time ts))
    go true t h = by (e.1.due == time)
      where
        by : (d : Bool) → cond d ((e.0, e.1.at) ∷ due_run time (filter (λ e. p e.1.at) ts)) (due_run time (filter (λ e. p e.1.at) ts))
            ≡ filter (λ q. p q.1) (cond d ((e.0, e.1.at) ∷ due_run time ts) (due_run time ts))
        by true = ap (λ (r : List (ℕ × Endpoint)). (e.0, e.1.at) ∷ r) h ∙ sym (kept (p e.1.at) t)
        by false = h
    go false t h = by (e.1.due == time)
      where
        by : (d : Bool) → due_run time (filter (λ e. p e.1.at) ts) ≡ filter (λ q. p q.1) (cond d ((e.0, e.1.at) ∷ due_run time ts) (due_run time ts))
        by true = h ∙ sym (lost (p e.1.at) t)
        by false = h

pub order_kept : (p : Endpoint → Bool) (dues : List (DueTurn × Endpoint)) (ts : List (ℕ × Timer)) → IsInOrder dues ts
    → IsInOrder (filter (λ e. p e.1) dues) (filter (λ e. p e.1.at) ts)
order_kept p dues ts o time =
    run_kept p time dues ∙ ap (λ (r : List (ℕ × Endpoint)). filter (λ q. p q.1) r) (o time) ∙ sym (due_run_kept p time ts)
