-- The messages that had no turn wait in the order in which they were fetched.
use Rattle.std.proofs.Common.{◌≡◌, ℕ, ◌+◌, ◌==◌, ◌&&◌, ◌||◌, Bool, true, false, not, if◌then◌else◌, cond, List, [], ◌∷◌, ◌++◌, filter, Some, refl, sym, ap, ◌∙◌, subst, eq-eqb, arith, append_assoc, append-nil, ◌⊎◌, inl, inr}
use Rattle.std.proofs.lemmas.Bool.{and_parts, and_from, and_left, and_right, ne_eqb, cases_eq, not-true}
use Rattle.std.proofs.lemmas.List.Elements.{filter-append, filter_agree}
use Rattle.std.proofs.lemmas.List.Folds.{list_any-append}
use Rattle.room_kinds.specs.declared.message.Msg.{Msg}
use Rattle.room_kinds.specs.declared.note.Note.{Note}
use Rattle.room_kinds.specs.declared.numbers.ControllerId.{ControllerId}
use Rattle.room_kinds.specs.declared.numbers.Stamp.{Stamp}
use Rattle.journal.specs.declared.entry.Did.{Did}
use Rattle.journal.specs.declared.entry.Entry.{Entry}
use Rattle.journal.specs.declared.entry.Entry.TheVariants as entry
use Rattle.room_wiring.specs.declared.tables.Tables.{Tables}
use Rattle.actor_merge.specs.Parties.{State, Line, Plant, Taken, put, put_back, fetch, post, post_front, stamped, Does, Replays}
use Rattle.actor_merge.proofs.Lanes.{put-same, put-other}
use Rattle.actor_world.specs.Behaviour.{Behaviour}
use Rattle.actor_world.specs.Body.{Body}
use Rattle.actor_world.specs.Life.{IsModest}
use Rattle.actor_world.specs.Start.{plant_of, first_state}
use Rattle.actor_world.specs.world_laws.Counting.{count, of_priority, same_name}
use Rattle.actor_world.specs.world_laws.Deferrals.{KeptByDeferrer}
use Rattle.actor_world.specs.world_laws.Whereabouts.{fetches, fetched, TellsDefers, FetchedAddsUp}
use Rattle.actor_world.proofs.world_laws.Sums.{count-append}
use Rattle.law_runs.specs.Turns.{is_turn_of, had_turn}
use Rattle.law_runs.proofs.Named.{named_itself}
use Rattle.law_runs.proofs.TurnSteps.{next_first, TurnDone, turn_done}
use Rattle.law_runs.proofs.Untaken.{waits, replays_more}

pub fetched-append : (a b : List Entry) → fetched (a ++ b) ≡ fetched a ++ fetched b
fetched-append [] b = refl
fetched-append (e ∷ a) b = ap (λ (z : List Msg). fetches e ++ z) (fetched-append a b) ∙ sym (append_assoc (fetches e) (fetched a) (fetched b))

-- a message of a priority that had no turn
abbrev pub fresh : List Entry → ℕ → Msg → Bool
fresh es p m = (m.prio.0 == p) && not (had_turn m es)

fresh_more : (es : List Entry) (e : Entry) (p : ℕ) (y : Msg) → fresh (es ++ e ∷ []) p y ≡ (fresh es p y && not (is_turn_of y e))
fresh_more es e p y =
    ap (λ (b : Bool). (y.prio.0 == p) && not b) (list_any-append (is_turn_of y) es (e ∷ [])) ∙ go (y.prio.0 == p) (had_turn y es) (is_turn_of y e)
  where
    go : (a b c : Bool) → (a && not (b || (c || false))) ≡ ((a && not b) && not c)
    go false b c = refl
    go true true c = refl
    go true false true = refl
    go true false false = refl

filter_twice : (p q : Msg → Bool) (ms : List Msg) → filter (λ (y : Msg). p y && q y) ms ≡ filter q (filter p ms)
filter_twice p q [] = refl
filter_twice p q (m ∷ ms) = go (p m) (filter_twice p q ms)
  where
    go : (b : Bool) → filter (λ (y : Msg). p y && q y) ms ≡ filter q (filter p ms)
        → cond (b && q m) (m ∷ filter (λ (y : Msg). p y && q y) ms) (filter (λ (y : Msg). p y && q y) ms) ≡ filter q (cond b (m ∷ filter p ms) (filter p ms))
    go true ih = ap (λ (z : List Msg). cond (q m) (m ∷ z) z) ih
    go false ih = ih

still_fresh : (es : List Entry) (e : Entry) (p : ℕ) (ms : List Msg) → filter (fresh (es ++ e ∷ []) p) ms ≡ filter (λ (y : Msg). not (is_turn_of y e)) (filter (fresh es p) ms)
still_fresh es e p ms =
    filter_agree (fresh (es ++ e ∷ []) p) (λ (y : Msg). fresh es p y && not (is_turn_of y e)) (fresh_more es e p) ms
    ∙ filter_twice (fresh es p) (λ (y : Msg). not (is_turn_of y e)) ms

-- what does not stand there passes no test
none_pass : (test : Msg → Bool) (p : ℕ) (ms : List Msg) → ((y : Msg) → test y ≡ true → count (of_priority p (same_name y)) ms ≡ 0)
    → ((y : Msg) → test y ≡ true → (y.prio.0 == p) ≡ true) → filter test ms ≡ []
none_pass test p [] h k = refl
none_pass test p (x ∷ ms) h k = go (test x) refl (none_pass test p ms (λ y e. let z = h y e in omega (arith, z)) k)
  where
    go : (b : Bool) → test x ≡ b → filter test ms ≡ [] → cond b (x ∷ filter test ms) (filter test ms) ≡ []
    go true e ih =
        let own : of_priority p (same_name x) x ≡ true = and_from (x.prio.0 == p) (same_name x x) (k x e) (named_itself x) in
        let z : (if true then 1 else 0) + count (of_priority p (same_name x)) ms ≡ 0 = rw own at (h x e) in
        absurd (omega (arith, z))
    go false e ih = ih

module _ {M : Type 0} (model : Behaviour M) (t : Tables) (lines : List Line) (c : ℕ) (modest : IsModest model) (tells : TellsDefers model)
    (keepers : KeptByDeferrer M) (adds : FetchedAddsUp M) where
  abbrev plan : Plant (Body M)
  plan = plant_of model t lines

  abbrev first : State (Body M)
  first = first_state model t c

  abbrev Ordered : List Entry → State (Body M) → Type 0
  Ordered es s = (p : ℕ) → filter (fresh es p) (s.pending p) ≡ filter (fresh es p) (fetched es)

  -- before the event is seen in the pending lists
  ordered_more : (es : List Entry) (s : State (Body M)) (e : Entry) → Ordered es s
      → (p : ℕ) → filter (fresh (es ++ e ∷ []) p) (s.pending p) ≡ filter (fresh (es ++ e ∷ []) p) (fetched es)
  ordered_more es s e h p =
      still_fresh es e p (s.pending p) ∙ ap (filter (λ (y : Msg). not (is_turn_of y e))) (h p) ∙ sym (still_fresh es e p (fetched es))

  fetch_ordered : (es : List Entry) (s next : State (Body M)) (stamp : Stamp) (m : Msg) → Does plan c s (entry.Fetch stamp m) next
      → Ordered es s → Ordered (es ++ entry.Fetch stamp m ∷ []) next
  unfolding fetch
  fetch_ordered es s next stamp m d h p =
      let test : Msg → Bool = fresh (es ++ entry.Fetch stamp m ∷ []) p in
      sym (ap (λ (z : State (Body M) × Entry). filter test (z.0.pending p)) d)
      ∙ go test (ordered_more es s (entry.Fetch stamp m) h p) (λ other. and_left (m.prio.0 == p) _ (ne_eqb m.prio.0 p (λ e. other (sym e)))) (cases_eq p m.prio.0)
      ∙ sym (ap (filter test) (fetched-append es (entry.Fetch stamp m ∷ [])))
    where
      go : (test : Msg → Bool) → filter test (s.pending p) ≡ filter test (fetched es) → ((p ≡ m.prio.0 → ⊥) → test m ≡ false)
          → (p ≡ m.prio.0) ⊎ (p ≡ m.prio.0 → ⊥) → filter test (put s.pending m.prio.0 (s.pending m.prio.0 ++ m ∷ []) p) ≡ filter test (fetched es ++ m ∷ [])
      go test same miss (inl e) =
          let here : put s.pending m.prio.0 (s.pending m.prio.0 ++ m ∷ []) p ≡ s.pending p ++ m ∷ [] =
          ap (put s.pending m.prio.0 (s.pending m.prio.0 ++ m ∷ [])) e ∙ put-same s.pending m.prio.0 (s.pending m.prio.0 ++ m ∷ [])
          ∙ ap (λ (n : ℕ). s.pending n ++ m ∷ []) (sym e) in
          ap (filter test) here ∙ filter-append test (s.pending p) (m ∷ [])
          ∙ ap (λ (z : List Msg). z ++ filter test (m ∷ [])) same ∙ sym (filter-append test (fetched es) (m ∷ []))
      go test same miss (inr other) =
          let none : filter test (m ∷ []) ≡ [] = ap (λ (b : Bool). cond b (m ∷ []) []) (miss other) in
          ap (filter test) (put-other s.pending m.prio.0 (s.pending m.prio.0 ++ m ∷ []) p (ne_eqb p m.prio.0 other))
          ∙ same ∙ sym (append-nil (filter test (fetched es))) ∙ ap (λ (z : List Msg). filter test (fetched es) ++ z) (sym none)
          ∙ sym (filter-append test (fetched es) (m ∷ []))

  post_ordered : (es : List Entry) (s next : State (Body M)) (stamp : Stamp) (m : Msg) → Does plan c s (entry.Post stamp m) next
      → Ordered es s → Ordered (es ++ entry.Post stamp m ∷ []) next
  unfolding post
  post_ordered es s next stamp m d h p =
      let test : Msg → Bool = fresh (es ++ entry.Post stamp m ∷ []) p in
      ap (λ (z : ℕ → List Msg). filter test (z p)) (same s.outbox d)
      ∙ ordered_more es s (entry.Post stamp m) h p
      ∙ sym (ap (filter test) (fetched-append es (entry.Post stamp m ∷ []) ∙ append-nil (fetched es)))
    where
      same : (box : List Msg) → post_front c s box ≡ Some (next, entry.Post stamp m) → next.pending ≡ s.pending
      same [] k = absurd cc
      same (x ∷ xs) k =
          let r : State (Body M) × Entry = (record s { clock = s.clock + 1; outbox = xs }, entry.Post (record { 0 = s.clock + 1 }) (stamped c (s.clock + 1) x)) in
          let q : State (Body M) × Entry = (next, entry.Post stamp m) in
          let e : r ≡ q = cc in sym (ap (λ (z : State (Body M) × Entry). z.0.pending) e)

  -- a message of another name counts as much when the turn's message was taken out
  taken_out : (s : State (Body M)) (k : Taken) → s.pending k.priority ≡ k.message ∷ k.rest → (p : ℕ) (w : Msg → Bool) → w k.message ≡ false
      → count w (put s.pending k.priority k.rest p) ≡ count w (s.pending p)
  taken_out s k front p w other = go (cases_eq p k.priority)
    where
      go : (p ≡ k.priority) ⊎ (p ≡ k.priority → ⊥) → count w (put s.pending k.priority k.rest p) ≡ count w (s.pending p)
      go (inl e) =
          let x : put s.pending k.priority k.rest p ≡ k.rest = ap (put s.pending k.priority k.rest) e ∙ put-same s.pending k.priority k.rest in
          let y : s.pending p ≡ k.message ∷ k.rest = ap s.pending e ∙ front in
          ap (count w) x ∙ sym (ap (count w) y ∙ rw other (omega arith))
      go (inr n) = ap (count w) (put-other s.pending k.priority k.rest p (ne_eqb p k.priority n))

  passed_out : (s : State (Body M)) (k : Taken) → s.pending k.priority ≡ k.message ∷ k.rest → (p : ℕ) (test : Msg → Bool) → test k.message ≡ false
      → filter test (put s.pending k.priority k.rest p) ≡ filter test (s.pending p)
  passed_out s k front p test other = go (cases_eq p k.priority)
    where
      go : (p ≡ k.priority) ⊎ (p ≡ k.priority → ⊥) → filter test (put s.pending k.priority k.rest p) ≡ filter test (s.pending p)
      go (inl e) =
          let x : put s.pending k.priority k.rest p ≡ k.rest = ap (put s.pending k.priority k.rest) e ∙ put-same s.pending k.priority k.rest in
          let y : s.pending p ≡ k.message ∷ k.rest = ap s.pending e ∙ front in
          let out : filter test (k.message ∷ k.rest) ≡ filter test k.rest = ap (λ (b : Bool). cond b (k.message ∷ filter test k.rest) (filter test k.rest)) other in
          ap (filter test) x ∙ sym (ap (filter test) y ∙ out)
      go (inr n) = ap (filter test) (put-other s.pending k.priority k.rest p (ne_eqb p k.priority n))

  turn_ordered : (es : List Entry) (s next : State (Body M)) (stamp : Stamp) (from : ControllerId) (sent : Stamp) (what : Did) (notes : List Note)
      → Replays plan c first es s → Does plan c s (entry.Turn stamp from sent what notes) next
      → Ordered es s → Ordered (es ++ entry.Turn stamp from sent what notes ∷ []) next
  unfolding put_back
  turn_ordered es s next stamp from sent what notes r d h p =
      let e = entry.Turn stamp from sent what notes in
      let test : Msg → Bool = fresh (es ++ entry.Turn stamp from sent what notes ∷ []) p in
      let done : TurnDone s next from sent = turn_done plan c s next stamp from sent what notes d in
      let k = done.taken in
      let rest : List Msg = put s.pending done.taken.priority done.taken.rest p in
      let back : List Msg = filter (λ (m : Msg). m.prio.0 == p) done.back in
      let front = (next_first s.pending done.taken done.next_is).front in
      let lists : next.pending p ≡ back ++ rest = ap (λ (z : ℕ → List Msg). z p) done.pending in
      let own : is_turn_of done.taken.message e ≡ true =
      and_from (from.0 == done.taken.message.from.0) (sent.0 == done.taken.message.stamp.0)
      (eq-eqb from.0 done.taken.message.from.0 (ap (λ (z : ControllerId). z.0) (sym done.from_is)))
      (eq-eqb sent.0 done.taken.message.stamp.0 (ap (λ (z : Stamp). z.0) (sym done.sent_is))) in
      let taken_fails : test done.taken.message ≡ false =
      fresh_more es e p done.taken.message ∙ and_right (fresh es p done.taken.message) (not (is_turn_of done.taken.message e)) (ap not own) in
      let came : fetched (es ++ e ∷ []) ≡ fetched es = fetched-append es (e ∷ []) ∙ append-nil (fetched es) in
      let nobody : filter test back ≡ [] = none_pass test p back (λ y passes. gone done lists front came y passes) (λ y passes. (and_parts (y.prio.0 == p) _ passes).0) in
      ap (filter test) lists ∙ filter-append test back rest
      ∙ ap (λ (z : List Msg). z ++ filter test rest) nobody
      ∙ passed_out s done.taken front p test taken_fails
      ∙ ordered_more es s e h p
      ∙ sym (ap (filter test) came)
    where
      gone : (done : TurnDone s next from sent)
          → next.pending p ≡ filter (λ (m : Msg). m.prio.0 == p) done.back ++ put s.pending done.taken.priority done.taken.rest p
          → s.pending done.taken.priority ≡ done.taken.message ∷ done.taken.rest
          → fetched (es ++ entry.Turn stamp from sent what notes ∷ []) ≡ fetched es
          → (y : Msg) → fresh (es ++ entry.Turn stamp from sent what notes ∷ []) p y ≡ true
          → count (of_priority p (same_name y)) (filter (λ (m : Msg). m.prio.0 == p) done.back) ≡ 0
      gone done lists front came y passes =
          let e = entry.Turn stamp from sent what notes in
          let w : Msg → Bool = of_priority p (same_name y) in
          let more = and_parts (fresh es p y) (not (is_turn_of y e)) (sym (fresh_more es e p y) ∙ passes) in
          let had : had_turn y es ≡ false = not-true (had_turn y es) (and_parts (y.prio.0 == p) (not (had_turn y es)) more.0).1 in
          let other : is_turn_of y e ≡ false = not-true (is_turn_of y e) more.1 in
          let had_more : had_turn y (es ++ e ∷ []) ≡ false = not-true (had_turn y (es ++ e ∷ [])) (and_parts (y.prio.0 == p) (not (had_turn y (es ++ e ∷ []))) passes).1 in
          let a = waits model t lines c modest tells keepers adds y p es s r had in
          let b = waits model t lines c modest tells keepers adds y p (es ++ e ∷ []) next (replays_more model t lines c modest tells keepers adds es e [] first s r next d) had_more in
          let name : same_name y done.taken.message ≡ false =
          ap (λ (z : ControllerId). (z.0 == y.from.0) && (done.taken.message.stamp.0 == y.stamp.0)) done.from_is
          ∙ ap (λ (z : Stamp). (from.0 == y.from.0) && (z.0 == y.stamp.0)) done.sent_is ∙ other in
          let out = taken_out s done.taken front p (of_priority p (same_name y)) (and_right (done.taken.message.prio.0 == p) (same_name y done.taken.message) name) in
          let both = count-append (of_priority p (same_name y)) (filter (λ (m : Msg). m.prio.0 == p) done.back) (put s.pending done.taken.priority done.taken.rest p) in
          let now : count (of_priority p (same_name y)) (next.pending p) ≡ count (of_priority p (same_name y)) (filter (λ (m : Msg). m.prio.0 == p) done.back ++ put s.pending done.taken.priority done.taken.rest p) =
          ap (count (of_priority p (same_name y))) lists in
          let same : count (of_priority p (same_name y)) (fetched (es ++ e ∷ [])) ≡ count (of_priority p (same_name y)) (fetched es) = ap (count (of_priority p (same_name y))) came in
          omega (arith, a, b, out, both, now, same)

  step_ordered : (es : List Entry) (s next : State (Body M)) (e : Entry) → Replays plan c first es s → Does plan c s e next → Ordered es s → Ordered (es ++ e ∷ []) next
  step_ordered es s next (entry.Start who state notes) r d h = absurd d
  step_ordered es s next (entry.Fetch stamp m) r d h = fetch_ordered es s next stamp m d h
  step_ordered es s next (entry.Post stamp m) r d h = post_ordered es s next stamp m d h
  step_ordered es s next (entry.Turn stamp from sent what notes) r d h = turn_ordered es s next stamp from sent what notes r d h

  ordered_from : (more es : List Entry) (s end : State (Body M)) → Replays plan c first es s → Ordered es s → Replays plan c s more end → Ordered (es ++ more) end
  ordered_from [] es s end r h q = subst (λ (z : List Entry). Ordered z end) (sym (append-nil es)) (subst (Ordered es) (sym q) h)
  ordered_from (e ∷ more) es s end r h q =
      subst (λ (z : List Entry). Ordered z end) (append_assoc es (e ∷ []) more)
      (ordered_from more (es ++ e ∷ []) q.0 end (replays_more model t lines c modest tells keepers adds es e [] first s r q.0 q.1)
      (step_ordered es s q.0 e r q.1 h) q.2)

  pub ordered : (es : List Entry) (s : State (Body M)) → Replays plan c first es s → Ordered es s
  ordered es s r = ordered_from es [] first s refl (λ p. refl) r
