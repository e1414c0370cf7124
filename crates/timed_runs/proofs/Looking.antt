-- Entries are seen in a loop.
use Rattle.std.proofs.Common.{◌≡◌, ℕ, zero, suc, ◌+◌, ◌-◌, ◌<◌, Bool, true, false, if◌then◌else◌, List, [], ◌∷◌, ◌++◌, length, set, slice_get, slice_index_or, Option, Some, None, refl, sym, ap, ◌∙◌, subst, arith, append_assoc, append-nil}
use Rattle.std.specs.Prelude.{option_map, option_and_then}
use Rattle.std.proofs.lemmas.Option.{slice_get_within, get_or_from_slice_get, same_Some}
use Rattle.journal.specs.declared.entry.Entry.{Entry}
use Rattle.room_wiring.specs.declared.tables.Tables.{Tables}
use Rattle.actor_merge.specs.Mail.{stamp_of}
use Rattle.actor_merge.specs.World.{Placed}
use Rattle.room_timer.specs.Timers.{Timers, saw}
use Rattle.room_timer.specs.Expansion.{saw_all}
use Rattle.timed_runs.specs.Unseen.{entry_at, stamp_at, earliest_of, Sees, nothing, one_more}
use Rattle.timed_runs.specs.Looks.{SeesOne, SeesNone, SeesAll}
use Rattle.timed_runs.proofs.Earliest.{is_first}
use Rattle.timed_runs.proofs.Points.{saw_both}

-- what was seen so far: whatever is seen from now on, is seen behind it
pub record SoFar (t : Tables) (journals : ℕ → List Entry) (start now : List ℕ) (before after : Timers) : Type 0 where
  pub found : List Placed
  pub timers : after ≡ saw_all t before found
  pub goes : (xs : List Placed) (end : List ℕ) → Sees (length t.controllers + 1) journals now xs end → Sees (length t.controllers + 1) journals start (found ++ xs) end

module _ (t : Tables) (journals : ℕ → List Entry) where
  abbrev n : ℕ
  n = length t.controllers + 1

  pub none_so_far : (start : List ℕ) (before : Timers) → SoFar t journals start start before before
  none_so_far start before = record { found = []; timers = refl; goes = λ xs end s. s }

  pub one_so_far : (start now next : List ℕ) (before mid after : Timers) → SoFar t journals start now before mid → SeesOne t journals now next mid after
      → SoFar t journals start next before after
  one_so_far start now next before mid after so_far one = record {
    found = so_far.found ++ placed ∷ [];
    timers = one.timers ∙ ap (λ (ts : Timers). saw t ts one.party one.entry) so_far.timers ∙ sym (saw_both t before so_far.found (placed ∷ []));
    goes = λ xs end s. subst (λ (z : List Placed). Sees (length t.controllers + 1) journals start z end) (sym (append_assoc so_far.found (placed ∷ []) xs))
        (so_far.goes (placed ∷ xs) end
        (one_more now end one.stamp one.party one.entry xs one.first one.there
        (subst (λ (z : List ℕ). Sees (length t.controllers + 1) journals z xs end) one.counts s)));
  }
    where
      placed : Placed
      placed = record { party = one.party; entry = one.entry }

  pub all_so_far : (start now : List ℕ) (before after : Timers) → SoFar t journals start now before after
      → earliest_of (stamp_at journals now) (length t.controllers + 1) ≡ None → SeesAll t journals start now before after
  all_so_far start now before after so_far none = record {
    found = so_far.found ++ [];
    sees = so_far.goes [] now (nothing now none);
    timers = so_far.timers ∙ ap (λ (xs : List Placed). saw_all t before xs) (sym (append-nil so_far.found));
  }

  -- nothing was seen, and nothing changed
  pub same_so_far : (start now next : List ℕ) (before mid after : Timers) → SoFar t journals start now before mid → SeesNone t journals now next mid after
      → SoFar t journals start next before after
  same_so_far start now next before mid after so_far none =
      subst (λ (z : List ℕ). SoFar t journals start z before after) (sym none.counts) (subst (λ (z : Timers). SoFar t journals start now before z) (sym none.timers) so_far)

  pub none_still : (now next : List ℕ) (mid after : Timers) → SeesNone t journals now next mid after → earliest_of (stamp_at journals next) (length t.controllers + 1) ≡ None
  none_still now next mid after none =
      subst (λ (z : List ℕ). earliest_of (stamp_at journals z) (length t.controllers + 1) ≡ None) (sym none.counts) none.none

-- how many entries of parties from this one on are left to see
abbrev pub to_see : (ℕ → List Entry) → List ℕ → ℕ → ℕ
to_see journals [] party = 0
to_see journals (count ∷ counts) party = (length (journals party) - count) + to_see journals counts (party + 1)

to_see_fewer : (journals : ℕ → List Entry) (counts : List ℕ) (party i count : ℕ) → slice_get counts i ≡ Some count → count < length (journals (party + i))
    → to_see journals (set counts i (count + 1)) party < to_see journals counts party
to_see_fewer journals [] party i count h less = absurd cc
to_see_fewer journals (c ∷ counts) party zero count h less =
    let same : c ≡ count = same_Some c count h in
    let here : party + zero ≡ party = omega arith in
    let room : count < length (journals party) = subst (λ (p : ℕ). count < length (journals p)) here less in
    omega (arith, same, room)
to_see_fewer journals (c ∷ counts) party (suc i) count h less =
    let here : party + suc i ≡ (party + 1) + i = omega arith in
    let rest : to_see journals (set counts i (count + 1)) (party + 1) < to_see journals counts (party + 1) =
    to_see_fewer journals counts (party + 1) i count h (subst (λ (p : ℕ). count < length (journals p)) here less) in
    omega (arith, rest)

pub fewer_to_see : (t : Tables) (journals : ℕ → List Entry) (now next : List ℕ) (mid after : Timers) → SeesOne t journals now next mid after
    → to_see journals next 0 < to_see journals now 0
fewer_to_see t journals now next mid after one = go (slice_get now one.party) refl one.there
  where
    go : (o : Option ℕ) → slice_get now one.party ≡ o → option_and_then (λ (count : ℕ). slice_get (journals one.party) count) o ≡ Some one.entry
        → to_see journals next 0 < to_see journals now 0
    go None is k = absurd cc
    go (Some count) is k =
        let here : slice_index_or now one.party 0 ≡ count = get_or_from_slice_get now one.party count 0 is in
        let none : 0 + one.party ≡ one.party = omega arith in
        let room : count < length (journals (0 + one.party)) =
        subst (λ (p : ℕ). count < length (journals p)) (sym none) (slice_get_within (journals one.party) count one.entry k) in
        subst (λ (z : List ℕ). to_see journals z 0 < to_see journals now 0)
        (sym (one.counts ∙ ap (λ (z : ℕ). set now one.party (z + 1)) here))
        (to_see_fewer journals now 0 one.party count is room)

same_to_see : (t : Tables) (journals : ℕ → List Entry) (now next : List ℕ) (mid after : Timers) → SeesNone t journals now next mid after
    → to_see journals next 0 ≡ to_see journals now 0
same_to_see t journals now next mid after none = ap (λ (z : List ℕ). to_see journals z 0) none.counts

-- what a step of the loop answers: whether it saw an entry
module _ (t : Tables) (journals : ℕ → List Entry) (now next : List ℕ) (mid after : Timers) where
  pub smaller : (was more : Bool) → was ≡ true → (more ≡ true → SeesOne t journals now next mid after)
      → (more ≡ false → SeesNone t journals now next mid after)
      → to_see journals next 0 + (if more then 1 else 0) < to_see journals now 0 + (if was then 1 else 0)
  smaller true true is one none =
      let less : to_see journals next 0 < to_see journals now 0 = fewer_to_see t journals now next mid after (one refl) in
      omega (arith, less)
  smaller true false is one none =
      let same : to_see journals next 0 ≡ to_see journals now 0 = same_to_see t journals now next mid after (none refl) in
      omega (arith, same)
  smaller false more is one none = absurd cc

  pub still_so_far : (start : List ℕ) (before : Timers) (more : Bool) → SoFar t journals start now before mid
      → (more ≡ true → SeesOne t journals now next mid after) → (more ≡ false → SeesNone t journals now next mid after)
      → SoFar t journals start next before after
  still_so_far start before true so_far one none = one_so_far t journals start now next before mid after so_far (one refl)
  still_so_far start before false so_far one none = same_so_far t journals start now next before mid after so_far (none refl)

-- where there is a first stamp, its party has an entry
entry_there : (journals : ℕ → List Entry) (counts : List ℕ) (n stamp party : ℕ) → earliest_of (stamp_at journals counts) n ≡ Some (stamp, party)
    → entry_at journals counts party ≡ None → ⊥
entry_there journals counts n stamp party h is =
    let none : ◌≡◌ {A = Option ℕ} None (Some stamp) =
    sym (ap (λ (o : Option Entry). option_map stamp_of o) is) ∙ (is_first (stamp_at journals counts) n stamp party h).there in
    cc

-- the same of counts that were read twice
pub entry_is_there : (journals : ℕ → List Entry) (counts once again : List ℕ) (n stamp party : ℕ) → once ≡ counts → again ≡ counts
    → earliest_of (stamp_at journals once) n ≡ Some (stamp, party) → entry_at journals again party ≡ None → ⊥
entry_is_there journals counts once again n stamp party o a h is =
    entry_there journals once n stamp party h (ap (λ (z : List ℕ). entry_at journals z party) (o ∙ sym a) ∙ is)

-- a party that has an entry is counted
pub party_within : (journals : ℕ → List Entry) (counts : List ℕ) (party : ℕ) (e : Entry) → entry_at journals counts party ≡ Some e → party < length counts
party_within journals counts party e h = go (slice_get counts party) refl h
  where
    go : (o : Option ℕ) → slice_get counts party ≡ o → option_and_then (λ (count : ℕ). slice_get (journals party) count) o ≡ Some e → party < length counts
    go None is k = absurd cc
    go (Some count) is k = slice_get_within counts party count is
