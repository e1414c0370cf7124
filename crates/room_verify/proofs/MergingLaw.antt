-- One entry of the merge of journals more.
use Rattle.std.proofs.Common.{◌≡◌, ℕ, zero, suc, ◌+◌, ◌<◌, ◌≤◌, nat_lt, true, false, List, [], ◌∷◌, ◌++◌, drop, set, get_or, length, slice_get, slice_index, Option, Some, refl, sym, ap, ◌∙◌, subst, arith, append_assoc, ◌⊎◌, inl, inr}
use Rattle.std.proofs.lemmas.Bool.{cases_eq, lt-ltb, le-ltb}
use Rattle.std.proofs.lemmas.List.{get_or-set_same, get_or-set_other, get_or_read, length-set, drop-drop}
use Rattle.std.proofs.lemmas.Option.{get_or_from_slice_get}
use Rattle.room_kinds.specs.declared.numbers.ControllerId.{ControllerId}
use Rattle.room_kinds.specs.declared.numbers.Stamp.{Stamp}
use Rattle.journal.specs.declared.entry.Entry.{Entry}
use Rattle.journal.specs.declared.entry.Journals.{Journals}
use Rattle.actor_merge.specs.Mail.{stamp_of}
use Rattle.actor_merge.specs.Parties.{Plant as RunPlant}
use Rattle.actor_merge.specs.World.{World, Placed, start, Runs}
use Rattle.actor_merge.specs.Merge.{InOrder, entries_of, IsMerge}
use Rattle.inject_reader.specs.declared.inject_lines.accepted.Line.{Line}
use Rattle.controller_actors.specs.declared.plant.Plant.{Plant}
use Rattle.law_merges.proofs.Parties.{first_here, first_other}
use Rattle.model_run.specs.run_ends.Runs.{journal_of}
use Rattle.room_verify.specs.Heads.{left_of_party, GoesFirst, FirstOf}
use Rattle.room_verify.specs.Merging.{ReachesIn, HasPassed, RefusedAt}
use Rattle.room_verify.specs.Steps.{Steps, IsRefused, happened}
use Rattle.room_verify.specs.Worlds.{plan, world_in, Replays}
use Rattle.room_verify.specs.declared.heads.Head.{Head}
use Rattle.room_verify.specs.declared.replay.Replay.{Replay}
use Rattle.room_verify.proofs.HeadLaw.{head_of_merge}

-- ---- runs and lists

run_more : {B : Type 0} (plant : RunPlant B) (w mid next : World B) (xs : List Placed) (x : Placed) → Runs plant w xs mid
    → Steps plant mid x.party x.entry next → Runs plant w (xs ++ x ∷ []) next
run_more {B} plant w mid next [] x r s =
    subst (λ (z : World B). Runs plant z (x ∷ []) next) r (next, s.ready, s.does, refl)
run_more plant w mid next (y ∷ ys) x r s = (r.0, r.1, r.2, run_more plant r.0 mid next ys x r.3 s)

order_behind : (xs ys : List Placed) → InOrder (xs ++ ys) → InOrder ys
order_behind [] ys o = o
order_behind (x ∷ xs) ys o = order_behind xs ys o.1

entries_split : (p : ℕ) (xs ys : List Placed) → entries_of p (xs ++ ys) ≡ entries_of p xs ++ entries_of p ys
entries_split p [] ys = refl
entries_split p (x ∷ xs) ys = go (cases_eq p x.party) (entries_split p xs ys)
  where
    go : (p ≡ x.party) ⊎ (p ≡ x.party → ⊥) → entries_of p (xs ++ ys) ≡ entries_of p xs ++ entries_of p ys
        → entries_of p ((x ∷ xs) ++ ys) ≡ entries_of p (x ∷ xs) ++ entries_of p ys
    go (inl own) ih =
        first_here p x (xs ++ ys) own ∙ ap (λ (z : List Entry). x.entry ∷ z) ih ∙ ap (λ (z : List Entry). z ++ entries_of p ys) (sym (first_here p x xs own))
    go (inr other) ih =
        first_other p x (xs ++ ys) other ∙ ih ∙ ap (λ (z : List Entry). z ++ entries_of p ys) (sym (first_other p x xs other))

nothing_behind : (xs ys : List Entry) → xs ++ ys ≡ [] → ys ≡ []
nothing_behind [] ys h = h
nothing_behind (x ∷ xs) ys h = absurd cc

-- what is left of a list begins with what stands there
get_from_drop : (xs : List Entry) (k : ℕ) (e : Entry) (rest : List Entry) → drop k xs ≡ e ∷ rest → slice_get xs k ≡ Some e
get_from_drop [] zero e rest h = absurd cc
get_from_drop [] (suc k) e rest h = absurd cc
get_from_drop (x ∷ xs) zero e rest h = let same : x ≡ e = cc in ap (λ (z : Entry). Some z) same
get_from_drop (x ∷ xs) (suc k) e rest h = get_from_drop xs k e rest h

-- the entry that goes first stands in its party's journal behind those that are passed
entry_there : (j : Journals) (passed : List ℕ) (parties party at : ℕ) (e : Entry) → GoesFirst (left_of_party j passed) parties party e → at ≡ slice_index passed party
    → slice_get (journal_of j party) at ≡ Some e
entry_there j passed parties party at e g is =
    subst (λ (k : ℕ). slice_get (journal_of j party) k ≡ Some e) (sym is) (get_from_drop (journal_of j party) (slice_index passed party) e g.rest g.head)

-- the entry that is read at the head of what is left goes first
pub record ReadsHead (j : Journals) (passed : List ℕ) (head : Head) (at : ℕ) (e : Entry) : Type 0 where
  pub first : GoesFirst (left_of_party j passed) (length passed) head.party e
  pub stamp : stamp_of e ≡ head.stamp
  pub place : at ≡ slice_index passed head.party

pub reads_head : (j : Journals) (passed now : List ℕ) (o : Option Head) (head : Head) (entries : List Entry) (at : ℕ) (e : Entry) → now ≡ passed → o ≡ Some head
    → FirstOf (left_of_party j now) (length now) o → at ≡ get_or passed head.party at → entries ≡ journal_of j head.party → e ≡ get_or entries at e
    → ReadsHead j passed head at e
reads_head j passed now o head entries at e same is first found own read =
    let h : FirstOf (left_of_party j passed) (length passed) (Some head) =
    subst (λ (z : List ℕ). FirstOf (left_of_party j z) (length z) (Some head)) same
    (subst (λ (z : Option Head). FirstOf (left_of_party j now) (length now) z) is first) in
    let place : at ≡ slice_index passed head.party = get_or_read passed head.party at h.1.within found 0 in
    let there : slice_get entries at ≡ Some h.0 =
    subst (λ (z : List Entry). slice_get z at ≡ Some h.0) (sym own) (entry_there j passed (length passed) head.party at h.0 h.1 place) in
    let one : h.0 ≡ e = sym (get_or_from_slice_get entries at h.0 e there) ∙ sym read in
    record {
      first = subst (λ (z : Entry). GoesFirst (left_of_party j passed) (length passed) head.party z) one h.1;
      stamp = ap stamp_of (sym one) ∙ h.2;
      place = place;
    }

module _ (plant : Plant) (lines : List Line) (j : Journals) (passed : List ℕ) (r : Replay) (h : HasPassed plant lines j passed r)
    (count : length j.controllers ≡ length plant.wiring.controllers) where
  abbrev n : ℕ
  n = length plant.wiring.controllers

  -- nothing happened to a party that isn't there
  nobody : (p : ℕ) → n + 1 ≤ p → happened j p ≡ []
  nobody p beyond =
      let off : nat_lt p (length j.controllers) ≡ false = le-ltb p (length j.controllers) (omega (arith, count, beyond)) in
      let above : nat_lt (length j.controllers) p ≡ true = lt-ltb (length j.controllers) p (omega (arith, count, beyond)) in
      rw (off, above) refl

  pub none_beyond : (p : ℕ) → n + 1 ≤ p → entries_of p h.behind ≡ []
  none_beyond p beyond =
      nothing_behind (entries_of p h.front) (entries_of p h.behind)
      (sym (entries_split p h.front h.behind) ∙ h.reaches.is.whole p ∙ nobody p beyond)

  pub ordered : InOrder h.behind
  ordered = order_behind h.front h.behind h.reaches.is.ordered

  module _ (party : ℕ) (e : Entry) (first : GoesFirst (left_of_party j passed) (length passed) party e) where
    at_first : GoesFirst (left_of_party j passed) (n + 1) party e
    at_first = subst (λ (k : ℕ). GoesFirst (left_of_party j passed) k party e) h.count first

    pub head : (rest : List Placed) × (h.behind ≡ record { party = party; entry = e } ∷ rest)
    head = head_of_merge (left_of_party j passed) (n + 1) party e h.behind at_first ordered h.left none_beyond

    reaches_head : ReachesIn plant lines j h.front (record { party = party; entry = e } ∷ head.0) (world_in plant r)
    reaches_head = subst (λ (z : List Placed). ReachesIn plant lines j h.front z (world_in plant r)) head.1 h.reaches

    pub is_refused : (who : ControllerId) (stamp : Stamp) → who.0 ≡ party → stamp.0 ≡ stamp_of e → IsRefused (plan plant lines) (world_in plant r) who.0 e → RefusedAt plant lines j who stamp
    is_refused who stamp same is refused = record {
      e = e;
      is = is;
      front = h.front;
      behind = head.0;
      w = world_in plant r;
      reaches = subst (λ (k : ℕ). ReachesIn plant lines j h.front (record { party = k; entry = e } ∷ head.0) (world_in plant r)) (sym same) reaches_head;
      refused = refused;
    }

    -- it happened, and one entry more is passed
    pub passed_more : (new : Replay) (at : ℕ) → at ≡ slice_index passed party → Steps (plan plant lines) (world_in plant r) party e (world_in plant new)
        → Replays plant lines new → (next : HasPassed plant lines j (set passed party (at + 1)) new) × (next.front ≡ h.front ++ record { party = party; entry = e } ∷ [])
    passed_more new at is steps replays = (
      record {
        front = h.front ++ record { party = party; entry = e } ∷ [];
        behind = head.0;
        reaches = record {
          ordered = h.reaches.ordered;
          started = h.reaches.started;
          is = subst (λ (z : List Placed). IsMerge (happened j) z) (sym (append_assoc h.front (record { party = party; entry = e } ∷ []) head.0)) reaches_head.is;
          run = run_more (plan plant lines) (start (plan plant lines)) (world_in plant r) (world_in plant new) h.front (record { party = party; entry = e }) h.reaches.run steps;
        };
        replays = replays;
        count = length-set passed party (at + 1) ∙ h.count;
        left = λ p below. go p below (cases_eq p party);
      },
      refl,
    )
      where
        within : party < length passed
        within = first.within

        go : (p : ℕ) → p < n + 1 → (p ≡ party) ⊎ (p ≡ party → ⊥) → entries_of p head.0 ≡ left_of_party j (set passed party (at + 1)) p
        go p below (inl same) =
            let was : e ∷ entries_of party head.0 ≡ left_of_party j passed party =
            sym (first_here party (record { party = party; entry = e }) head.0 refl) ∙ ap (entries_of party) (sym head.1) ∙ h.left party at_first.within in
            let one : drop 1 (left_of_party j passed party) ≡ drop (slice_index passed party + 1) (journal_of j party) = drop-drop 1 (slice_index passed party) (journal_of j party) in
            let now : slice_index (set passed party (at + 1)) party ≡ slice_index passed party + 1 =
            get_or-set_same passed party (at + 1) 0 within ∙ ap (λ (k : ℕ). k + 1) is in
            subst (λ (k : ℕ). entries_of k head.0 ≡ left_of_party j (set passed party (at + 1)) k) (sym same)
            (ap (λ (z : List Entry). drop 1 z) was ∙ one ∙ ap (λ (k : ℕ). drop k (journal_of j party)) (sym now))
        go p below (inr other) =
            let was : entries_of p head.0 ≡ left_of_party j passed p =
            sym (first_other p (record { party = party; entry = e }) head.0 other) ∙ ap (entries_of p) (sym head.1) ∙ h.left p below in
            was ∙ ap (λ (k : ℕ). drop k (journal_of j p)) (sym (get_or-set_other passed party p (at + 1) 0 other))
