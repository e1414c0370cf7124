-- Along a replay each fetch is tied, where each fetched message is that of the only post with its stamp.
use Rattle.std.proofs.Common.{◌≡◌, ℕ, ◌+◌, max, List, [], ◌∷◌, ◌++◌, Option, Some, None, refl, sym, ap, ◌∙◌, subst}
use Rattle.std.specs.List.{AllByRecursion as Each, Contains}
use Rattle.room_kinds.specs.declared.message.Msg.{Msg}
use Rattle.room_kinds.specs.declared.numbers.Stamp.{Stamp}
use Rattle.journal.specs.declared.entry.Entry.{Entry}
use Rattle.journal.specs.declared.entry.Entry.TheVariants as entry
use Rattle.journal.specs.declared.entry.Journals.{Journals}
use Rattle.actor_merge.specs.Mail.{stamp_of}
use Rattle.actor_merge.specs.Parties.{State, Plant, fetch, Does, Replays}
use Rattle.law_runs.proofs.Starts.{AllStarts}
use Rattle.tied_journals.specs.Tied.{fetched_at, Follows, IsPosted, IsTiedEntry, AreTied}
use Rattle.law_runs.specs.run_journals.InPlace.{IsPost}
use Rattle.law_runs.proofs.run_journals.OnePost.{as_first, as_later}

-- what each entry fetches was posted
abbrev pub EachPosted : Journals → List Entry → Type 0
EachPosted j es = (stamp : Stamp) (m : Msg) → Contains es (entry.Fetch stamp m) → IsPosted j m

-- the clock directly after a fetch, if there is one, is its stamp
abbrev ClockIs : Option ℕ → ℕ → Type 0
ClockIs None clock = Unit {0}
ClockIs (Some stamp) clock = clock ≡ stamp

-- the stamp of a fetch becomes the clock
clock_after : {B : Type 0} (s next : State B) (stamp : Stamp) (m : Msg) → fetch s m ≡ (next, entry.Fetch stamp m) → next.clock ≡ stamp.0
unfolding fetch
clock_after {B} s next stamp m h = sym (ap (λ (z : State B × Entry). z.0.clock) h) ∙ ap (λ (z : State B × Entry). stamp_of z.1) h

stamp_by : {B : Type 0} (s next : State B) (stamp : Stamp) (m : Msg) → fetch s m ≡ (next, entry.Fetch stamp m) → stamp.0 ≡ max s.clock m.stamp.0 + 1
unfolding fetch
stamp_by {B} s next stamp m h = sym (ap (λ (z : State B × Entry). stamp_of z.1) h)

module _ {B : Type 0} (plant : Plant B) (c : ℕ) (j : Journals) where
  follows : (before : Option ℕ) (s next : State B) (stamp : Stamp) (m : Msg) → ClockIs before s.clock → fetch s m ≡ (next, entry.Fetch stamp m)
      → Follows before stamp.0 m.stamp.0
  follows None s next stamp m is h = tt
  follows (Some k) s next stamp m is h = stamp_by s next stamp m h ∙ ap (λ (z : ℕ). max z m.stamp.0 + 1) is

  clock_is : (e : Entry) (s next : State B) → Does plant c s e next → ClockIs (fetched_at e) next.clock
  clock_is (entry.Start who state notes) s next d = tt
  clock_is (entry.Fetch stamp m) s next d = clock_after s next stamp m d
  clock_is (entry.Turn stamp from sent did notes) s next d = tt
  clock_is (entry.Post stamp m) s next d = tt

  pub replay_tied : (es : List Entry) (before : Option ℕ) (s end : State B) → Replays plant c s es end → ClockIs before s.clock → EachPosted j es → AreTied j before es
  replay_tied [] before s end r is posted = tt
  replay_tied (e ∷ es) before s end r is posted = (
    here e r.1 (λ stamp m same. posted stamp m (subst (λ (z : Entry). Contains (z ∷ es) (entry.Fetch stamp m)) (sym same) (as_first (entry.Fetch stamp m) es))),
    replay_tied es (fetched_at e) r.0 end r.2 (clock_is e s r.0 r.1) (λ stamp m there. posted stamp m (as_later e es (entry.Fetch stamp m) there)),
  )
    where
      here : (e : Entry) → Does plant c s e r.0 → ((stamp : Stamp) (m : Msg) → e ≡ entry.Fetch stamp m → IsPosted j m) → IsTiedEntry j before e
      here (entry.Start who state notes) d p = tt
      here (entry.Fetch stamp m) d p = record { posted = p stamp m refl; follows = follows before s r.0 stamp m is d }
      here (entry.Turn stamp from sent did notes) d p = tt
      here (entry.Post stamp m) d p = tt

-- starts before, which fetch nothing
pub starts_tied : (j : Journals) (starts es : List Entry) → AllStarts starts → AreTied j None es → AreTied j None (starts ++ es)
starts_tied j [] es a h = h
starts_tied j (entry.Start who state notes ∷ starts) es a h = (tt, starts_tied j starts es a.1 h)
starts_tied j (entry.Fetch stamp m ∷ starts) es a h = absurd a.0
starts_tied j (entry.Turn stamp from sent did notes ∷ starts) es a h = absurd a.0
starts_tied j (entry.Post stamp m ∷ starts) es a h = absurd a.0

-- nor do posts
pub posts_tied : (j : Journals) (before : Option ℕ) (es : List Entry) → Each IsPost es → AreTied j before es
posts_tied j before [] h = tt
posts_tied j before (entry.Post stamp m ∷ es) h = (tt, posts_tied j None es h.1)
posts_tied j before (entry.Start who state notes ∷ es) h = absurd h.0
posts_tied j before (entry.Fetch stamp m ∷ es) h = absurd h.0
posts_tied j before (entry.Turn stamp from sent did notes ∷ es) h = absurd h.0
