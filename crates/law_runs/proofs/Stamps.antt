-- Stamps rise in each journal, and so no two posts of a party have one name.
use Rattle.std.proofs.Common.{◌≡◌, ℕ, ◌+◌, ◌<◌, ◌≤◌, ◌==◌, Bool, true, false, if◌then◌else◌, List, [], ◌∷◌, ◌++◌, refl, subst, Some, eq-eqb, arith, ◌⊎◌, inl, inr}
use Rattle.std.specs.List.{AllByRecursion}
use Rattle.std.proofs.lemmas.Bool.{cases_eq, ne_eqb, and_right}
use Rattle.room_kinds.specs.declared.message.Msg.{Msg}
use Rattle.journal.specs.declared.entry.Entry.{Entry}
use Rattle.journal.specs.declared.entry.Entry.TheVariants as entry
use Rattle.actor_merge.specs.Mail.{stamp_of}
use Rattle.actor_merge.specs.Parties.{State, Plant, post, post_front, Does, Replays}
use Rattle.actor_merge.specs.World.{Placed}
use Rattle.actor_merge.specs.Merge.{IsBefore, IsBeforeAll, InOrder, entries_of, Rising, IsStamped, AllStamped}
use Rattle.actor_merge.proofs.Steps.{same_entry}
use Rattle.actor_world.specs.world_laws.Counting.{same_name, times}
use Rattle.law_runs.specs.Mail.{posted}
use Rattle.law_runs.specs.Stamps.{events, Rise}
use Rattle.law_runs.proofs.Starts.{AllStarts}

-- after an entry of a party its others are later
rising_after : (x : Placed) (party : ℕ) → party ≡ x.party → (ys : List Placed) → IsBeforeAll x ys → InOrder ys → Rising (stamp_of x.entry) (entries_of party ys)
rising_after x party own [] b o = tt
rising_after x party own (y ∷ ys) b o = go (cases_eq party y.party) (rising_after x party own ys b.1 o.1) (λ same. rising_after y party same ys o.0 o.1)
  where
    later : IsBefore x y → party ≡ y.party → stamp_of x.entry < stamp_of y.entry
    later (inl h) same = h
    later (inr h) same = let below : x.party < y.party = h.1 in absurd (omega (arith, below, own, same))

    go : (party ≡ y.party) ⊎ (party ≡ y.party → ⊥) → Rising (stamp_of x.entry) (entries_of party ys)
        → (party ≡ y.party → Rising (stamp_of y.entry) (entries_of party ys)) → Rising (stamp_of x.entry) (entries_of party (y ∷ ys))
    go (inl same) ih next = rw (eq-eqb party y.party same) (later b.0 same, next same)
    go (inr other) ih next = rw (ne_eqb party y.party other) ih

pub stamps_rise : (xs : List Placed) → InOrder xs → (party : ℕ) → Rise (entries_of party xs)
stamps_rise [] o party = tt
stamps_rise (x ∷ xs) o party = go (cases_eq party x.party) (stamps_rise xs o.1 party)
  where
    go : (party ≡ x.party) ⊎ (party ≡ x.party → ⊥) → Rise (entries_of party xs) → Rise (entries_of party (x ∷ xs))
    go (inl same) ih = rw (eq-eqb party x.party same) (rising_after x party same xs o.0 o.1)
    go (inr other) ih = rw (ne_eqb party x.party other) ih

-- posts after this stamp have other names
none_later : (m : Msg) (k : ℕ) → m.stamp.0 ≤ k → (es : List Entry) → Rising k es → AllStamped es → times m (posted es) ≡ 0
none_later m k low [] r s = refl
none_later m k low (e ∷ es) r s = go e r.0 s.0 (let step : k < stamp_of e = r.0 in none_later m (stamp_of e) (omega (arith, low, step)) es r.1 s.1)
  where
    go : (e : Entry) → k < stamp_of e → IsStamped e → times m (posted es) ≡ 0 → times m (posted (e ∷ es)) ≡ 0
    go (entry.Start who state notes) b i ih = ih
    go (entry.Fetch stamp x) b i ih = ih
    go (entry.Turn stamp from sent did notes) b i ih = ih
    go (entry.Post stamp x) b i ih =
        rw (and_right (x.from.0 == m.from.0) (x.stamp.0 == m.stamp.0) (ne_eqb x.stamp.0 m.stamp.0 (λ e. omega (arith, low, b, i, e)))) (omega (arith, ih))

rise_from : (k : ℕ) (es : List Entry) → Rising k es → Rise es
rise_from k [] r = tt
rise_from k (e ∷ es) r = r.1

pub posted_once : (m : Msg) (es : List Entry) → Rise es → AllStamped es → times m (posted es) ≤ 1
posted_once m [] r s = omega arith
posted_once m (e ∷ es) r s = go e s.0 (posted_once m es (rise_from (stamp_of e) es r) s.1) (λ low. none_later m (stamp_of e) low es r s.1)
  where
    go : (e : Entry) → IsStamped e → times m (posted es) ≤ 1 → (m.stamp.0 ≤ stamp_of e → times m (posted es) ≡ 0) → times m (posted (e ∷ es)) ≤ 1
    go (entry.Start who state notes) i ih none = ih
    go (entry.Fetch stamp x) i ih none = ih
    go (entry.Turn stamp from sent did notes) i ih none = ih
    go (entry.Post stamp x) i ih none = named (cases_eq x.stamp.0 m.stamp.0)
      where
        first : (b : Bool) → times m (posted es) ≡ 0 → (if b then 1 else 0) + times m (posted es) ≤ 1
        first true z = omega (arith, z)
        first false z = omega (arith, z)

        named : (x.stamp.0 ≡ m.stamp.0) ⊎ (x.stamp.0 ≡ m.stamp.0 → ⊥) → times m (posted (entry.Post stamp x ∷ es)) ≤ 1
        named (inl same) = first (same_name m x) (none (omega (arith, same, i)))
        named (inr other) = rw (and_right (x.from.0 == m.from.0) (x.stamp.0 == m.stamp.0) (ne_eqb x.stamp.0 m.stamp.0 other)) (omega (arith, ih))

-- with starts before, and without them
rising_lower : (j k : ℕ) → j ≤ k → (es : List Entry) → Rising k es → Rising j es
rising_lower j k l [] r = tt
rising_lower j k l (e ∷ es) r = let step : k < stamp_of e = r.0 in (omega (arith, l, step), r.1)

rising_events : (k : ℕ) (es : List Entry) → Rising k es → Rising k (events es)
rising_events k [] r = tt
rising_events k (entry.Start who state notes ∷ es) r = absurd (let z : k < 0 = r.0 in omega (arith, z))
rising_events k (entry.Fetch stamp m ∷ es) r = (r.0, rising_events stamp.0 es r.1)
rising_events k (entry.Turn stamp from sent did notes ∷ es) r = (r.0, rising_events stamp.0 es r.1)
rising_events k (entry.Post stamp m ∷ es) r = (r.0, rising_events stamp.0 es r.1)

rise_events : (es : List Entry) → Rise es → Rise (events es)
rise_events [] r = tt
rise_events (entry.Start who state notes ∷ es) r = rise_events es (rise_from 0 es r)
rise_events (entry.Fetch stamp m ∷ es) r = rising_events stamp.0 es r
rise_events (entry.Turn stamp from sent did notes ∷ es) r = rising_events stamp.0 es r
rise_events (entry.Post stamp m ∷ es) r = rising_events stamp.0 es r

pub rise_after : (starts es : List Entry) → AllStarts starts → Rise es → Rise (events (starts ++ es))
rise_after [] es a r = rise_events es r
rise_after (entry.Start who state notes ∷ starts) es a r = rise_after starts es a.1 r
rise_after (entry.Fetch stamp m ∷ starts) es a r = absurd a.0
rise_after (entry.Turn stamp from sent did notes ∷ starts) es a r = absurd a.0
rise_after (entry.Post stamp m ∷ starts) es a r = absurd a.0

pub stamped_after : (starts es : List Entry) → AllStarts starts → AllStamped es → AllStamped (starts ++ es)
stamped_after [] es a r = r
stamped_after (entry.Start who state notes ∷ starts) es a r = (tt, stamped_after starts es a.1 r)
stamped_after (entry.Fetch stamp m ∷ starts) es a r = absurd a.0
stamped_after (entry.Turn stamp from sent did notes ∷ starts) es a r = absurd a.0
stamped_after (entry.Post stamp m ∷ starts) es a r = absurd a.0

-- a post names its sender
abbrev pub IsFrom : ℕ → Entry → Type 0
IsFrom party (entry.Post stamp m) = m.from.0 ≡ party
IsFrom party (entry.Start who state notes) = Unit {0}
IsFrom party (entry.Fetch stamp m) = Unit {0}
IsFrom party (entry.Turn stamp from sent did notes) = Unit {0}

post_from : {B : Type 0} (c : ℕ) (s next : State B) (e : Entry) → post c s ≡ Some (next, e) → IsFrom c e
unfolding post
post_from c s next e h = go s.outbox h
  where
    go : (box : List Msg) → post_front c s box ≡ Some (next, e) → IsFrom c e
    go [] k = absurd cc
    go (x ∷ xs) k = subst (IsFrom c) (same_entry k) refl

pub replay_from : {B : Type 0} (plant : Plant B) (c : ℕ) (s : State B) (es : List Entry) (end : State B) → Replays plant c s es end → AllByRecursion (IsFrom c) es
replay_from plant c s [] end h = tt
replay_from plant c s (e ∷ es) end h = (go e h.1, replay_from plant c h.0 es end h.2)
  where
    go : (e : Entry) → Does plant c s e h.0 → IsFrom c e
    go (entry.Start who state notes) k = tt
    go (entry.Fetch stamp m) k = tt
    go (entry.Turn stamp from sent did notes) k = tt
    go (entry.Post stamp m) k = post_from c s h.0 (entry.Post stamp m) k

pub posted_from : (party : ℕ) (es : List Entry) → AllByRecursion (IsFrom party) es → AllByRecursion (λ (m : Msg). m.from.0 ≡ party) (posted es)
posted_from party [] h = tt
posted_from party (e ∷ es) h = go e h.0 (posted_from party es h.1)
  where
    go : (e : Entry) → IsFrom party e → AllByRecursion (λ (m : Msg). m.from.0 ≡ party) (posted es) → AllByRecursion (λ (m : Msg). m.from.0 ≡ party) (posted (e ∷ es))
    go (entry.Start who state notes) i ih = ih
    go (entry.Fetch stamp m) i ih = ih
    go (entry.Turn stamp from sent did notes) i ih = ih
    go (entry.Post stamp m) i ih = (i, ih)
