-- Actors that are made one after another.
use Rattle.std.proofs.Common.{◌≡◌, ℕ, ◌+◌, ◌<◌, ◌≤◌, ◌==◌, Bool, true, false, not, ◌&&◌, ◌||◌, cond, List, [], ◌∷◌, ◌++◌, map, length, pos, ◌⊎◌, refl, sym, ap, ◌∙◌, subst, append_assoc, arith, inl, inr}
use Rattle.std.proofs.Math.Path.{fun_ext}
use Rattle.std.specs.Prelude.{nat_lt}
use Rattle.std.specs.List.{flat_map}
use Rattle.std.proofs.lemmas.Bool.{cases_eq, cases_lt, cases_order, eq-eqb, ne_eqb, lt-ltb, le-ltb, and_right, and_left}
use Rattle.std.proofs.lemmas.List.{map-append}
use Rattle.room_kinds.specs.declared.message.Msg.{Msg}
use Rattle.room_kinds.specs.declared.numbers.Incarnation.{Incarnation}
use Rattle.room_wiring.specs.declared.tables.Tables.{Tables}
use Rattle.actor_duties.specs.Words.{incarnation, is_own}
use Rattle.actor_duties.specs.State.{Lives}
use Rattle.actor_duties.specs.Lives.{is_made_with, is_vacant, comes_up, lives_made, made_slots, last_of, announces}
use Rattle.service_messages.specs.slot_runs.Runs.{IsDepthFirst, IsRunEnd, IsNextMade}
use Rattle.service_messages.proofs.slot_runs.Kept.{kept, kept_one, kept_none}
use Rattle.service_messages.proofs.slot_runs.Made.{made_with_itself, not_made_outside}
use Rattle.frame_lives.specs.Known.{Known}
use Rattle.frame_lives.specs.Steps.{raised}
use Rattle.frame_lives.proofs.Rows.{updated_here, updated_else}

-- what isn't made with o doesn't come up with it
not_up : (t : Tables) (me : ℕ) (l : Lives) (o s : ℕ) → is_made_with t o s ≡ false → comes_up t me l o s ≡ false
unfolding comes_up
not_up t me l o s h = and_left (is_made_with t o s) (is_vacant t me l s) h

-- what is made with o comes up with it if it is vacant
up_here : (t : Tables) (me : ℕ) (l : Lives) (o s : ℕ) → is_made_with t o s ≡ true → comes_up t me l o s ≡ is_vacant t me l s
unfolding comes_up
up_here t me l o s h = ap (λ b. b && is_vacant t me l s) h

-- lives when of what comes up with o the slots below n are filled
abbrev pub made_below : Tables → ℕ → ℕ → ℕ → Lives → Lives
made_below t me o n l = record {
  generation = λ s. cond (comes_up t me l o s && nat_lt s n) (l.generation s + 1) (l.generation s);
  lives = λ s. (comes_up t me l o s && nat_lt s n) || l.lives s;
}

same_lives : {g h : ℕ → ℕ} {a b : ℕ → Bool} → g ≡ h → a ≡ b → ◌≡◌ {A = Lives} (record { generation = g; lives = a }) (record { generation = h; lives = b })
same_lives e f = cc

-- the same lives where the slots that are filled below the one number are those below the other
same_below : (l : Lives) (p q : ℕ → Bool) → ((s : ℕ) → p s ≡ q s)
    → ◌≡◌ {A = Lives} (record { generation = λ s. cond (p s) (l.generation s + 1) (l.generation s); lives = λ s. p s || l.lives s })
    (record { generation = λ s. cond (q s) (l.generation s + 1) (l.generation s); lives = λ s. q s || l.lives s })
same_below l p q h =
    same_lives
    (fun_ext (λ s. ap (λ b. cond b (l.generation s + 1) (l.generation s)) (h s)))
    (fun_ext (λ s. ap (λ b. b || l.lives s) (h s)))

none_below : (t : Tables) (me : ℕ) (l : Lives) (o s : ℕ) → IsDepthFirst t → (e : ℕ) → IsRunEnd t o e → comes_up t me l o s && nat_lt s o ≡ false
none_below t me l o s first e run = elim (cases_lt s o) [
  | inl less ↦
      and_left (comes_up t me l o s) (nat_lt s o)
      (not_up t me l o s (not_made_outside t first o e s run (λ b. let from = b.0 in omega arith)))
  | inr more ↦ and_right (comes_up t me l o s) (nat_lt s o) (le-ltb s o more)
]

-- at first none is made
pub made_first : (t : Tables) → IsDepthFirst t → (me o e : ℕ) → IsRunEnd t o e → (l : Lives) → l ≡ made_below t me o o l
made_first t first me o e run l =
    let none : (s : ℕ) → comes_up t me l o s && nat_lt s o ≡ false = λ s. none_below t me l o s first e run in
    same_lives
    (fun_ext (λ s. sym (ap (λ b. cond b (l.generation s + 1) (l.generation s)) (none s))))
    (fun_ext (λ s. sym (ap (λ b. b || l.lives s) (none s))))

pub and_true : (b : Bool) → b && true ≡ b
and_true true = refl
and_true false = refl

all_below : (t : Tables) (me : ℕ) (l : Lives) (o s : ℕ) → IsDepthFirst t → (e : ℕ) → IsRunEnd t o e → comes_up t me l o s && nat_lt s e ≡ comes_up t me l o s
all_below t me l o s first e run = elim (cases_lt s e) [
  | inl less ↦ ap (λ b. comes_up t me l o s && b) (lt-ltb s e less) ∙ and_true (comes_up t me l o s)
  | inr more ↦
      let none : comes_up t me l o s ≡ false = not_up t me l o s (not_made_outside t first o e s run (λ b. let to = b.1 in omega arith)) in
      and_left (comes_up t me l o s) (nat_lt s e) none ∙ sym none
]

-- at the end of the run all are made
pub made_last : (t : Tables) → IsDepthFirst t → (me o e : ℕ) → IsRunEnd t o e → (l : Lives) → made_below t me o e l ≡ lives_made t me o l
unfolding lives_made
made_last t first me o e run l = same_below l (λ s. comes_up t me l o s && nat_lt s e) (comes_up t me l o) (λ s. all_below t me l o s first e run)

-- which slots below m pass a test, when between n and m none does
pub one_below : (p : ℕ → Bool) (n m s : ℕ) → n < m → ((u : ℕ) → n < u → u < m → p u ≡ false) → p s && nat_lt s m ≡ cond (s == n) (p n) (p s && nat_lt s n)
one_below p n m s behind none =
    elim (cases_order s n) [
      | inl here ↦
          ap (λ b. p s && b) (lt-ltb s m (omega arith)) ∙ and_true (p s) ∙ ap p here
          ∙ sym (ap (λ b. cond b (p n) (p s && nat_lt s n)) (eq-eqb s n here))
      | inr other ↦
          elim other [
            | inl before ↦
                ap (λ b. p s && b) (lt-ltb s m (omega arith) ∙ sym (lt-ltb s n before))
                ∙ sym (ap (λ b. cond b (p n) (p s && nat_lt s n)) (ne_eqb s n (λ e. omega arith)))
            | inr after ↦
                later after (cases_lt s m)
          ]
    ]
  where
    later : n < s → (s < m) ⊎ (m ≤ s) → p s && nat_lt s m ≡ cond (s == n) (p n) (p s && nat_lt s n)
    later after (inl l) =
        and_left (p s) (nat_lt s m) (none s after l)
        ∙ sym (ap (λ b. cond b (p n) (p s && nat_lt s n)) (ne_eqb s n (λ e. omega arith)) ∙ and_right (p s) (nat_lt s n) (le-ltb s n (omega arith)))
    later after (inr l) =
        and_right (p s) (nat_lt s m) (le-ltb s m l)
        ∙ sym (ap (λ b. cond b (p n) (p s && nat_lt s n)) (ne_eqb s n (λ e. omega arith)) ∙ and_right (p s) (nat_lt s n) (le-ltb s n (omega arith)))

-- the slot itself isn't made yet
pub not_yet : (t : Tables) (me o n : ℕ) (l : Lives) → (made_below t me o n l).generation n ≡ l.generation n
not_yet t me o n l =
    ap (λ b. cond b (l.generation n + 1) (l.generation n)) (and_right (comes_up t me l o n) (nat_lt n n) (le-ltb n n (omega arith)))

not_yet_lives : (t : Tables) (me o n : ℕ) (l : Lives) → (made_below t me o n l).lives n ≡ l.lives n
not_yet_lives t me o n l = ap (λ b. b || l.lives n) (and_right (comes_up t me l o n) (nat_lt n n) (le-ltb n n (omega arith)))

-- no slot between n and m comes up
none_up : (t : Tables) (me o e n m : ℕ) (l : Lives) → IsNextMade t o e n m → (u : ℕ) → n < u → u < m → comes_up t me l o u ≡ false
none_up t me o e n m l next u a b = not_up t me l o u (next.none_between u a b)

-- lives when one more is made
made_one : (t : Tables) (me o e n m : ℕ) (l : Lives) → IsNextMade t o e n m → comes_up t me l o n ≡ true → raised n (made_below t me o n l) ≡ made_below t me o m l
made_one t me o e n m l next up =
    let p : ℕ → Bool = comes_up t me l o in
    let step : (s : ℕ) → p s && nat_lt s m ≡ cond (s == n) (p n) (p s && nat_lt s n) = λ s. one_below p n m s next.behind (none_up t me o e n m l next) in
    same_lives
    (fun_ext (λ s.
    elim (cases_eq s n) [
      | inl here ↦
          updated_here (made_below t me o n l).generation n s ((made_below t me o n l).generation n + 1) here
          ∙ ap (λ k. k + 1) (not_yet t me o n l) ∙ ap (λ k. l.generation k + 1) (sym here)
          ∙ sym (ap (λ b. cond b (l.generation s + 1) (l.generation s)) (step s ∙ ap (λ b. cond b (p n) (p s && nat_lt s n)) (eq-eqb s n here) ∙ up))
      | inr other ↦
          updated_else (made_below t me o n l).generation n s ((made_below t me o n l).generation n + 1) other
          ∙ sym (ap (λ b. cond b (l.generation s + 1) (l.generation s)) (step s ∙ ap (λ b. cond b (p n) (p s && nat_lt s n)) (ne_eqb s n other)))
    ]))
    (fun_ext (λ s.
    elim (cases_eq s n) [
      | inl here ↦
          updated_here (made_below t me o n l).lives n s true here
          ∙ sym (ap (λ b. b || l.lives s) (step s ∙ ap (λ b. cond b (p n) (p s && nat_lt s n)) (eq-eqb s n here) ∙ up))
      | inr other ↦
          updated_else (made_below t me o n l).lives n s true other
          ∙ sym (ap (λ b. b || l.lives s) (step s ∙ ap (λ b. cond b (p n) (p s && nat_lt s n)) (ne_eqb s n other)))
    ]))

-- lives when one is passed over
made_past : (t : Tables) (me o e n m : ℕ) (l : Lives) → IsNextMade t o e n m → comes_up t me l o n ≡ false → made_below t me o n l ≡ made_below t me o m l
made_past t me o e n m l next fails =
    let p : ℕ → Bool = comes_up t me l o in
    same_below l (λ s. p s && nat_lt s n) (λ s. p s && nat_lt s m) (λ s.
    elim (cases_eq s n) [
      | inl here ↦
          let none : p s ≡ false = ap p here ∙ fails in
          and_left (p s) (nat_lt s n) none ∙ sym (and_left (p s) (nat_lt s m) none)
      | inr other ↦
          sym (one_below p n m s next.behind (none_up t me o e n m l next) ∙ ap (λ b. cond b (p n) (p s && nat_lt s n)) (ne_eqb s n other))
    ])

-- the actors that are made in slots below n
abbrev pub actors_below : Tables → ℕ → ℕ → Lives → ℕ → List Incarnation
actors_below t me o l n = map (last_of (lives_made t me o l)) (kept (comes_up t me l o) n)

last_made : (t : Tables) (me o n : ℕ) (l : Lives) → comes_up t me l o n ≡ true → last_of (lives_made t me o l) n ≡ incarnation n (l.generation n + 1)
unfolding lives_made
last_made t me o n l h = ap (λ b. incarnation n (cond b (l.generation n + 1) (l.generation n))) h

next_kept : (t : Tables) (me o e n m : ℕ) (l : Lives) → IsNextMade t o e n m → comes_up t me l o n ≡ true → kept (comes_up t me l o) m ≡ kept (comes_up t me l o) n ++ n ∷ []
next_kept t me o e n m l next up =
    let behind = next.behind in
    kept_none (comes_up t me l o) (n + 1) m (omega arith) (λ u a b. none_up t me o e n m l next u (omega arith) b) ∙ kept_one (comes_up t me l o) n up

-- nothing comes up from n on and below m
past_kept : (t : Tables) (me o e n m : ℕ) (l : Lives) → IsNextMade t o e n m → comes_up t me l o n ≡ false → kept (comes_up t me l o) m ≡ kept (comes_up t me l o) n
past_kept t me o e n m l next fails =
    let behind = next.behind in
    kept_none (comes_up t me l o) n m (omega arith)
    (λ u a b. elim (cases_eq u n) [
      | inl here ↦ ap (comes_up t me l o) here ∙ fails
      | inr other ↦ none_up t me o e n m l next u (omega arith) b
    ])

announced_more : (t : Tables) (me : ℕ) (xs : List Incarnation) (x : Incarnation)
    → flat_map (λ (i : Incarnation). announces t me i (pos 1)) (xs ++ x ∷ []) ≡ flat_map (λ (i : Incarnation). announces t me i (pos 1)) xs ++ announces t me x (pos 1)
announced_more t me [] x = append_nothing (announces t me x (pos 1))
  where
    append_nothing : (ms : List Msg) → ms ++ [] ≡ ms
    append_nothing [] = refl
    append_nothing (m ∷ ms) = ap (λ (more : List Msg). m ∷ more) (append_nothing ms)
announced_more t me (y ∷ ys) x =
    ap (λ (ms : List Msg). announces t me y (pos 1) ++ ms) (announced_more t me ys x)
    ∙ sym (append_assoc (announces t me y (pos 1)) (flat_map (λ (i : Incarnation). announces t me i (pos 1)) ys) (announces t me x (pos 1)))

-- what comes up with o is made in the slots below n, and announced; n is the next one, or the end
pub record Making (t : Tables) (me o e : ℕ) (old now : Known) (before out : List Msg) (made : List Incarnation) (n : ℕ) : Type 0 where
  pub within : n ≤ e
  pub here : n < e → is_made_with t o n ≡ true
  pub known : now ≡ record old { lives = made_below t me o n old.lives }
  pub actors : made ≡ actors_below t me o old.lives n
  pub sent : out ≡ before ++ flat_map (λ (i : Incarnation). announces t me i (pos 1)) made

pub making_begun : (t : Tables) → IsDepthFirst t → (me o e : ℕ) (old : Known) (before : List Msg) → IsRunEnd t o e → Making t me o e old old before before [] o
making_begun t first me o e old before run =
    let behind = run.behind in
    record {
      within = omega arith;
      here = λ _. made_with_itself t o;
      known = ap (λ (l : Lives). record old { lives = l }) (made_first t first me o e run old.lives);
      actors =
          sym (ap (map (last_of (lives_made t me o old.lives))) (kept_none (comes_up t me old.lives o) 0 o (omega arith)
          (λ u a b. not_up t me old.lives o u (not_made_outside t first o e u run (λ c. let from = c.0 in omega arith)))));
      sent = append_nothing before;
    }
  where
    append_nothing : (ms : List Msg) → ms ≡ ms ++ []
    append_nothing [] = refl
    append_nothing (m ∷ ms) = ap (λ (more : List Msg). m ∷ more) (append_nothing ms)

-- one comes up
making_up : (t : Tables) (me o e : ℕ) (old now after : Known) (before out : List Msg) (made : List Incarnation) (n m : ℕ) (x : Incarnation)
    → Making t me o e old now before out made n → comes_up t me old.lives o n ≡ true → IsNextMade t o e n m
    → x ≡ incarnation n (now.lives.generation n + 1) → after ≡ record now { lives = raised n now.lives }
    → Making t me o e old after before (out ++ announces t me x (pos 1)) (made ++ x ∷ []) m
making_up t me o e old now after before out made n m x w up next is step =
    let grown : now.lives ≡ made_below t me o n old.lives = ap (λ (k : Known). k.lives) w.known in
    let actor : x ≡ last_of (lives_made t me o old.lives) n =
    is ∙ ap (λ g. incarnation n (g + 1)) (ap (λ (k : Lives). k.generation n) grown ∙ not_yet t me o n old.lives) ∙ sym (last_made t me o n old.lives up) in
    record {
      within = next.within;
      here = next.made;
      known = step ∙ ap (λ (k : Known). record k { lives = raised n k.lives }) w.known ∙ ap (λ (k : Lives). record old { lives = k }) (made_one t me o e n m old.lives next up);
      actors =
          ap (λ (xs : List Incarnation). xs ++ x ∷ []) w.actors ∙ ap (λ (y : Incarnation). actors_below t me o old.lives n ++ y ∷ []) actor
          ∙ sym (ap (map (last_of (lives_made t me o old.lives))) (next_kept t me o e n m old.lives next up)
          ∙ map-append (last_of (lives_made t me o old.lives)) (kept (comes_up t me old.lives o) n) (n ∷ []));
      sent =
          ap (λ (ms : List Msg). ms ++ announces t me x (pos 1)) w.sent
          ∙ append_assoc before (flat_map (λ (i : Incarnation). announces t me i (pos 1)) made) (announces t me x (pos 1))
          ∙ ap (λ (ms : List Msg). before ++ ms) (sym (announced_more t me made x));
    }

-- none comes up
making_past : (t : Tables) (me o e : ℕ) (old now : Known) (before out : List Msg) (made : List Incarnation) (n m : ℕ)
    → Making t me o e old now before out made n → comes_up t me old.lives o n ≡ false → IsNextMade t o e n m
    → Making t me o e old now before out made m
making_past t me o e old now before out made n m w fails next =
    record {
      within = next.within;
      here = next.made;
      known = w.known ∙ ap (λ (k : Lives). record old { lives = k }) (made_past t me o e n m old.lives next fails);
      actors = w.actors ∙ sym (ap (map (last_of (lives_made t me o old.lives))) (past_kept t me o e n m old.lives next fails));
      sent = w.sent;
    }

-- the next slot is looked at
pub making_on : (t : Tables) (me o e : ℕ) (old now after : Known) (before out next_out : List Msg) (made next_made : List Incarnation) (n m : ℕ)
    → Making t me o e old now before out made n → n < e → IsNextMade t o e n m
    → after ≡ record now { lives = cond (is_vacant t me now.lives n) (raised n now.lives) now.lives }
    → next_made ≡ cond (is_vacant t me now.lives n) (made ++ incarnation n (now.lives.generation n + 1) ∷ []) made
    → next_out ≡ cond (is_vacant t me now.lives n) (out ++ announces t me (incarnation n (now.lives.generation n + 1)) (pos 1)) out
    → Making t me o e old after before next_out next_made m
making_on t me o e old now after before out next_out made next_made n m w l next step makes sends = go (is_vacant t me now.lives n) refl
  where
    x : Incarnation
    x = incarnation n (now.lives.generation n + 1)

    same : is_vacant t me now.lives n ≡ comes_up t me old.lives o n
    same =
        ap (λ (k : Lives). is_vacant t me k n) (ap (λ (k : Known). k.lives) w.known)
        ∙ ap (λ b. is_own t me n && not b) (not_yet_lives t me o n old.lives)
        ∙ sym (up_here t me old.lives o n (w.here l))

    go : (b : Bool) → is_vacant t me now.lives n ≡ b → Making t me o e old after before next_out next_made m
    go true v =
        let after_is : after ≡ record now { lives = raised n now.lives } = step ∙ ap (λ b. record now { lives = cond b (raised n now.lives) now.lives }) v in
        let made_is : next_made ≡ made ++ x ∷ [] = makes ∙ ap (λ b. cond b (made ++ x ∷ []) made) v in
        let out_is : next_out ≡ out ++ announces t me x (pos 1) = sends ∙ ap (λ b. cond b (out ++ announces t me x (pos 1)) out) v in
        subst (λ (ms : List Msg). Making t me o e old after before ms next_made m) (sym out_is)
        (subst (λ (made : List Incarnation). Making t me o e old after before (out ++ announces t me x (pos 1)) made m) (sym made_is)
        (making_up t me o e old now after before out made n m x w (sym same ∙ v) next refl after_is))
    go false v =
        let after_is : after ≡ now = step ∙ ap (λ b. record now { lives = cond b (raised n now.lives) now.lives }) v in
        let made_is : next_made ≡ made = makes ∙ ap (λ b. cond b (made ++ x ∷ []) made) v in
        let out_is : next_out ≡ out = sends ∙ ap (λ b. cond b (out ++ announces t me x (pos 1)) out) v in
        subst (λ (k : Known). Making t me o e old k before next_out next_made m) (sym after_is)
        (subst (λ (ms : List Msg). Making t me o e old now before ms next_made m) (sym out_is)
        (subst (λ (made : List Incarnation). Making t me o e old now before out made m) (sym made_is)
        (making_past t me o e old now before out made n m w (sym same ∙ v) next)))

-- all is made
pub record AllMade (t : Tables) (me o : ℕ) (old now : Known) (before out : List Msg) (made : List Incarnation) : Type 0 where
  pub known : now ≡ record old { lives = lives_made t me o old.lives }
  pub made_is : made ≡ map (last_of (lives_made t me o old.lives)) (made_slots t me old.lives o)
  pub sent : out ≡ before ++ flat_map (λ (i : Incarnation). announces t me i (pos 1)) made

pub making_done : (t : Tables) → IsDepthFirst t → (me o e : ℕ) (old now : Known) (before out : List Msg) (made : List Incarnation) (n : ℕ)
    → IsRunEnd t o e → e ≤ n → Making t me o e old now before out made n → AllMade t me o old now before out made
unfolding made_slots
making_done t first me o e old now before out made n run l w =
    let within = w.within in
    let end : n ≡ e = omega arith in
    let there = run.there in
    record {
      known = w.known ∙ ap (λ k. record old { lives = made_below t me o k old.lives }) end ∙ ap (λ (k : Lives). record old { lives = k }) (made_last t first me o e run old.lives);
      made_is =
          w.actors ∙ ap (actors_below t me o old.lives) end
          ∙ sym (ap (map (last_of (lives_made t me o old.lives))) (kept_none (comes_up t me old.lives o) e (length t.slots) there
          (λ u a b. not_up t me old.lives o u (not_made_outside t first o e u run (λ c. let to = c.1 in omega arith)))));
      sent = w.sent;
    }

-- the next slot is there
pub making_slots : (t : Tables) (me o e : ℕ) (old now : Known) (before out : List Msg) (made : List Incarnation) (n : ℕ)
    → Making t me o e old now before out made n → now.slots ≡ old.slots
making_slots t me o e old now before out made n w = ap (λ (k : Known). k.slots) w.known
