-- What is fetched and posted along a way is taken from its lane and given to it.
use Rattle.std.proofs.Common.{◌≡◌, ℕ, ◌==◌, ◌&&◌, Bool, true, false, cond, if◌then◌else◌, List, [], ◌∷◌, ◌++◌, refl, sym, ap, ◌∙◌, subst, eqb-true, ⊎_elim}
use Rattle.std.specs.List.{Contains}
use Rattle.std.proofs.lemmas.Bool.{and_parts, cond-false, false_from_ne_true, true≢false}
use Rattle.std.proofs.lemmas.List.Elements.{Contains-append_left, Contains-append_right, Contains-append_cases, Contains-push, Contains-push_cases, filter-append}
use Rattle.room_kinds.specs.declared.message.Msg.{Msg}
use Rattle.journal.specs.declared.entry.Entry.{Entry}
use Rattle.journal.specs.declared.entry.Entry.TheVariants as entry
use Rattle.actor_merge.specs.Mail.{Lane, lane, is_lane, takes, gives, taken, given}
use Rattle.actor_merge.proofs.Lanes.{is_lane-true, is_lane-same}
use Rattle.actor_world.specs.world_laws.Whereabouts.{fetches, fetched}
use Rattle.law_runs.proofs.Named.{nothing_in}
use Rattle.law_runs.specs.Mail.{posts, posted, Way, is_between, goes, along}

-- the lane of a way
abbrev pub lane_of : Way → Lane
lane_of w = lane w.sender w.receiver w.priority

record Between (w : Way) (m : Msg) : Type 0 where
  sender : m.from.0 ≡ w.sender
  receiver : m.to.0 ≡ w.receiver
  priority : m.prio.0 ≡ w.priority

between : (w : Way) (m : Msg) → goes w m ≡ true → Between w m
between w m h =
    let b = and_parts (is_between w m) _ h in
    let c = and_parts ((m.from.0 == w.sender) && (m.to.0 == w.receiver)) (m.prio.0 == w.priority) b.0 in
    let d = and_parts (m.from.0 == w.sender) (m.to.0 == w.receiver) c.0 in
    record { sender = eqb-true _ _ d.0; receiver = eqb-true _ _ d.1; priority = eqb-true _ _ c.1 }

-- what comes by another lane goes another way
not_taken : (w : Way) (m : Msg) → is_lane (lane_of w) (lane m.from.0 w.receiver m.prio.0) ≡ false → goes w m ≡ false
not_taken w m other = false_from_ne_true (goes w m) (λ h.
    let b = between w m h in
    let here : is_lane (lane_of w) (lane m.from.0 w.receiver m.prio.0) ≡ true =
    subst (λ (n : ℕ). is_lane (lane_of w) (lane n w.receiver m.prio.0) ≡ true) (sym b.sender)
    (subst (λ (n : ℕ). is_lane (lane_of w) (lane w.sender w.receiver n) ≡ true) (sym b.priority) (is_lane-same (lane_of w))) in
    true≢false (sym here ∙ other))

not_given : (w : Way) (m : Msg) → is_lane (lane_of w) (lane w.sender m.to.0 m.prio.0) ≡ false → goes w m ≡ false
not_given w m other = false_from_ne_true (goes w m) (λ h.
    let b = between w m h in
    let here : is_lane (lane_of w) (lane w.sender m.to.0 m.prio.0) ≡ true =
    subst (λ (n : ℕ). is_lane (lane_of w) (lane w.sender n m.prio.0) ≡ true) (sym b.receiver)
    (subst (λ (n : ℕ). is_lane (lane_of w) (lane w.sender w.receiver n) ≡ true) (sym b.priority) (is_lane-same (lane_of w))) in
    true≢false (sym here ∙ other))

along_step : (w : Way) (m : Msg) (b : Bool) (xs ys : List Msg) → (b ≡ false → goes w m ≡ false) → along w xs ≡ along w ys
    → along w ((if b then m ∷ [] else []) ++ xs) ≡ along w (m ∷ ys)
along_step w m true xs ys other h = ap (λ (z : List Msg). cond (goes w m) (m ∷ z) z) h
along_step w m false xs ys other h = h ∙ sym (cond-false (goes w m) (m ∷ along w ys) (along w ys) (other refl))

pub along_taken : (w : Way) (es : List Entry) → along w (taken (lane_of w) w.receiver es) ≡ along w (fetched es)
along_taken w [] = refl
along_taken w (entry.Start who state notes ∷ es) = along_taken w es
along_taken w (entry.Turn stamp from sent did notes ∷ es) = along_taken w es
along_taken w (entry.Post stamp m ∷ es) = along_taken w es
along_taken w (entry.Fetch stamp m ∷ es) =
    along_step w m (is_lane (lane_of w) (lane m.from.0 w.receiver m.prio.0)) (taken (lane_of w) w.receiver es) (fetched es) (not_taken w m) (along_taken w es)

pub along_given : (w : Way) (es : List Entry) → along w (given (lane_of w) w.sender es) ≡ along w (posted es)
along_given w [] = refl
along_given w (entry.Start who state notes ∷ es) = along_given w es
along_given w (entry.Turn stamp from sent did notes ∷ es) = along_given w es
along_given w (entry.Fetch stamp m ∷ es) = along_given w es
along_given w (entry.Post stamp m ∷ es) =
    along_step w m (is_lane (lane_of w) (lane w.sender m.to.0 m.prio.0)) (given (lane_of w) w.sender es) (posted es) (not_given w m) (along_given w es)

-- where a lane is a queue
pub prefix_along : (w : Way) (sender receiver : List Entry) (rest : List Msg) → given (lane_of w) w.sender sender ≡ taken (lane_of w) w.receiver receiver ++ rest
    → along w (fetched receiver) ++ along w rest ≡ along w (posted sender)
prefix_along w sender receiver rest h =
    ap (λ (z : List Msg). z ++ along w rest) (sym (along_taken w receiver))
    ∙ sym (filter-append (goes w) (taken (lane_of w) w.receiver receiver) rest)
    ∙ ap (along w) (sym h) ∙ along_given w sender

-- one message
only_one : (y m : Msg) → Contains (y ∷ []) m → y ≡ m
only_one y m h = ⊎_elim (λ none. absurd (nothing_in m none)) (λ same. same) (Contains-push_cases [] y m h)

pub fetched_is_taken : (c : ℕ) (m : Msg) (es : List Entry) → Contains (fetched es) m → Contains (taken (lane m.from.0 c m.prio.0) c es) m
fetched_is_taken c m [] h = h
fetched_is_taken c m (e ∷ es) h =
    ⊎_elim (λ a. Contains-append_left (takes l c e) (taken l c es) m (here e a))
    (λ b. Contains-append_right (takes l c e) (taken l c es) m (fetched_is_taken c m es b))
    (Contains-append_cases (fetches e) (fetched es) m h)
  where
    l : Lane
    l = lane m.from.0 c m.prio.0

    here : (e : Entry) → Contains (fetches e) m → Contains (takes (lane m.from.0 c m.prio.0) c e) m
    here (entry.Start who state notes) a = a
    here (entry.Turn stamp from sent did notes) a = a
    here (entry.Post stamp y) a = a
    here (entry.Fetch stamp y) a =
        subst (λ (z : Msg). Contains (takes (lane m.from.0 c m.prio.0) c (entry.Fetch stamp z)) m) (sym (only_one y m a))
        (rw (is_lane-same (lane m.from.0 c m.prio.0)) (Contains-push [] m))

pub taken_is_fetched : (l : Lane) (c : ℕ) (m : Msg) (es : List Entry) → Contains (taken l c es) m → Contains (fetched es) m
taken_is_fetched l c m [] h = h
taken_is_fetched l c m (e ∷ es) h =
    ⊎_elim (λ a. Contains-append_left (fetches e) (fetched es) m (here e a))
    (λ b. Contains-append_right (fetches e) (fetched es) m (taken_is_fetched l c m es b))
    (Contains-append_cases (takes l c e) (taken l c es) m h)
  where
    here : (e : Entry) → Contains (takes l c e) m → Contains (fetches e) m
    here (entry.Start who state notes) a = a
    here (entry.Turn stamp from sent did notes) a = a
    here (entry.Post stamp y) a = a
    here (entry.Fetch stamp y) a = go (is_lane l (lane y.from.0 c y.prio.0)) a
      where
        go : (b : Bool) → Contains (if b then y ∷ [] else []) m → Contains (y ∷ []) m
        go true a = a
        go false a = absurd (nothing_in m a)

pub posted_is_given : (party : ℕ) (m : Msg) (es : List Entry) → Contains (posted es) m → Contains (given (lane party m.to.0 m.prio.0) party es) m
posted_is_given party m [] h = h
posted_is_given party m (e ∷ es) h =
    ⊎_elim (λ a. Contains-append_left (gives l party e) (given l party es) m (here e a))
    (λ b. Contains-append_right (gives l party e) (given l party es) m (posted_is_given party m es b))
    (Contains-append_cases (posts e) (posted es) m h)
  where
    l : Lane
    l = lane party m.to.0 m.prio.0

    here : (e : Entry) → Contains (posts e) m → Contains (gives (lane party m.to.0 m.prio.0) party e) m
    here (entry.Start who state notes) a = a
    here (entry.Turn stamp from sent did notes) a = a
    here (entry.Fetch stamp y) a = a
    here (entry.Post stamp y) a =
        subst (λ (z : Msg). Contains (gives (lane party m.to.0 m.prio.0) party (entry.Post stamp z)) m) (sym (only_one y m a))
        (rw (is_lane-same (lane party m.to.0 m.prio.0)) (Contains-push [] m))

pub given_is_posted : (l : Lane) (party : ℕ) (m : Msg) (es : List Entry) → Contains (given l party es) m → (m.to.0 ≡ l.receiver) × Contains (posted es) m
given_is_posted l party m [] h = absurd (nothing_in m h)
given_is_posted l party m (e ∷ es) h =
    ⊎_elim (λ a. let k = here e a in (k.0, Contains-append_left (posts e) (posted es) m k.1))
    (λ b. let k = given_is_posted l party m es b in (k.0, Contains-append_right (posts e) (posted es) m k.1))
    (Contains-append_cases (gives l party e) (given l party es) m h)
  where
    here : (e : Entry) → Contains (gives l party e) m → (m.to.0 ≡ l.receiver) × Contains (posts e) m
    here (entry.Start who state notes) a = absurd (nothing_in m a)
    here (entry.Turn stamp from sent did notes) a = absurd (nothing_in m a)
    here (entry.Fetch stamp y) a = absurd (nothing_in m a)
    here (entry.Post stamp y) a = go (is_lane l (lane party y.to.0 y.prio.0)) refl a
      where
        go : (b : Bool) → is_lane l (lane party y.to.0 y.prio.0) ≡ b → Contains (if b then y ∷ [] else []) m → (m.to.0 ≡ l.receiver) × Contains (y ∷ []) m
        go true e a =
            let same : y ≡ m = only_one y m a in
            let lanes : l ≡ lane party y.to.0 y.prio.0 = is_lane-true l (lane party y.to.0 y.prio.0) e in
            (ap (λ (z : Msg). z.to.0) (sym same) ∙ sym (ap (λ (z : Lane). z.receiver) lanes), a)
        go false e a = absurd (nothing_in m a)
