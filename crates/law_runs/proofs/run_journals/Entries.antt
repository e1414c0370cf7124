-- What holds of the entries of a journal because it holds of the messages that it fetches and posts, and of each of
-- its turns.
use Rattle.std.proofs.Common.{◌≡◌, ℕ, ◌==◌, true, List, [], ◌∷◌, ◌++◌, refl, sym, ap, ◌∙◌, subst, append_assoc, eqb-true, ⊎_elim}
use Rattle.std.specs.List.{AllByRecursion as Each, Contains}
use Rattle.std.proofs.lemmas.Bool.{and_parts}
use Rattle.std.proofs.lemmas.List.Elements.{Contains-append_left, Contains-append_right, Contains-append_cases}
use Rattle.room_kinds.specs.declared.message.Msg.{Msg}
use Rattle.room_kinds.specs.declared.numbers.Stamp.{Stamp}
use Rattle.room_wiring.specs.declared.tables.Tables.{Tables}
use Rattle.journal.specs.Fits.{IsParty}
use Rattle.journal.specs.declared.entry.Entry.{Entry}
use Rattle.journal.specs.declared.entry.Entry.TheVariants as entry
use Rattle.actor_merge.specs.Merge.{AllStamped}
use Rattle.actor_world.specs.world_laws.Whereabouts.{fetches, fetched}
use Rattle.law_runs.specs.Mail.{posted}
use Rattle.law_runs.specs.Turns.{TurnIsRight, TurnsAreKept}
use Rattle.law_runs.specs.run_journals.InPlace.{IsFetchedBy, IsPostedBy, ComesFromParty}
use Rattle.law_runs.proofs.run_journals.OnePost.{none_in, as_first, as_later}

pub each_fetched : (P : Msg → Type 0) (ms : List Msg) → ((m : Msg) → Contains ms m → P m) → Each P ms
each_fetched P [] h = tt
each_fetched P (m ∷ ms) h = (h m (as_first m ms), each_fetched P ms (λ x there. h x (as_later m ms x there)))

pub fetched_by : (c : ℕ) (es : List Entry) → ((m : Msg) → Contains (fetched es) m → m.to.0 ≡ c) → Each (IsFetchedBy c) es
fetched_by c [] h = tt
fetched_by c (entry.Start who state notes ∷ es) h = (tt, fetched_by c es h)
fetched_by c (entry.Turn stamp from sent did notes ∷ es) h = (tt, fetched_by c es h)
fetched_by c (entry.Post stamp m ∷ es) h = (tt, fetched_by c es h)
fetched_by c (entry.Fetch stamp m ∷ es) h = (h m (as_first m (fetched es)), fetched_by c es (λ x there. h x (as_later m (fetched es) x there)))

pub posted_by : (party : ℕ) (es : List Entry) → AllStamped es → ((m : Msg) → Contains (posted es) m → m.from.0 ≡ party) → Each (IsPostedBy party) es
posted_by party [] s h = tt
posted_by party (entry.Start who state notes ∷ es) s h = (tt, posted_by party es s.1 h)
posted_by party (entry.Turn stamp from sent did notes ∷ es) s h = (tt, posted_by party es s.1 h)
posted_by party (entry.Fetch stamp m ∷ es) s h = (tt, posted_by party es s.1 h)
posted_by party (entry.Post stamp m ∷ es) s h =
    ((h m (as_first m (posted es)), s.0), posted_by party es s.1 (λ x there. h x (as_later m (posted es) x there)))

-- what was fetched so far is fetched
fetched_so_far : (before after : List Entry) (m : Msg) → Contains (fetched before) m → Contains (fetched (before ++ after)) m
fetched_so_far [] after m h = absurd (none_in m h)
fetched_so_far (e ∷ before) after m h =
    ⊎_elim (λ a. Contains-append_left (fetches e) (fetched (before ++ after)) m a)
    (λ b. Contains-append_right (fetches e) (fetched (before ++ after)) m (fetched_so_far before after m b))
    (Contains-append_cases (fetches e) (fetched before) m h)

module _ (t : Tables) (journal : List Entry) (turns : TurnsAreKept journal) (known : (m : Msg) → Contains (fetched journal) m → IsParty t m.from.0) where
  pub from_parties : (before after : List Entry) → journal ≡ before ++ after → Each (ComesFromParty t) after
  from_parties before [] is = tt
  from_parties before (e ∷ es) is = (here e is, from_parties (before ++ e ∷ []) es (is ∙ sym (append_assoc before (e ∷ []) es)))
    where
      here : (e : Entry) → journal ≡ before ++ e ∷ es → ComesFromParty t e
      here (entry.Start who state notes) k = tt
      here (entry.Post stamp m) k = tt
      here (entry.Fetch stamp m) k =
          known m (subst (λ (z : List Entry). Contains (fetched z) m) (sym k) (fetched_behind before m stamp))
        where
          fetched_behind : (front : List Entry) (m : Msg) (stamp : Stamp) → Contains (fetched (front ++ entry.Fetch stamp m ∷ es)) m
          fetched_behind [] m stamp = as_first m (fetched es)
          fetched_behind (x ∷ front) m stamp = Contains-append_right (fetches x) (fetched (front ++ entry.Fetch stamp m ∷ es)) m (fetched_behind front m stamp)
      here (entry.Turn stamp from sent did notes) k =
          let right : TurnIsRight before (entry.Turn stamp from sent did notes) = turns.right before es (entry.Turn stamp from sent did notes) k refl in
          let party : IsParty t right.message.from.0 =
          known right.message (subst (λ (z : List Entry). Contains (fetched z) right.message) (sym k) (fetched_so_far before (entry.Turn stamp from sent did notes ∷ es) right.message right.was_fetched)) in
          let named : from.0 ≡ right.message.from.0 = eqb-true from.0 right.message.from.0 (and_parts (from.0 == right.message.from.0) (sent.0 == right.message.stamp.0) right.its_turn).0 in
          subst (IsParty t) (sym named) party
