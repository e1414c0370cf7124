-- What is seen, one entry after another, is the merge of what wasn't seen.
use Rattle.std.proofs.Common.{◌≡◌, ℕ, zero, suc, ◌+◌, ◌<◌, ◌≤◌, Bool, true, false, if◌then◌else◌, List, [], ◌∷◌, ◌++◌, length, drop, slice_get, slice_index_or, Option, Some, None, refl, sym, ap, ◌∙◌, subst, arith, ◌⊎◌, inl, inr}
use Rattle.std.specs.Prelude.{filter, option_map, option_and_then}
use Rattle.std.specs.List.{AllByRecursion}
use Rattle.std.proofs.lemmas.Bool.{cases_eq, cases_lt}
use Rattle.std.proofs.lemmas.List.{length-set, length-drop, get_or-set_same, get_or-set_other}
use Rattle.std.proofs.lemmas.Option.{slice_get_within, get_or_from_slice_get, slice_get-get_or, same_Some}
use Rattle.journal.specs.declared.entry.Entry.{Entry}
use Rattle.journal.specs.declared.entry.Entry.TheVariants as entry
use Rattle.room_wiring.specs.declared.tables.Tables.{Tables}
use Rattle.actor_merge.specs.Mail.{stamp_of}
use Rattle.actor_merge.specs.World.{Placed}
use Rattle.actor_merge.specs.Merge.{IsBefore, IsBeforeAll, InOrder, entries_of, Rising}
use Rattle.law_merges.specs.Merges.{Rise}
use Rattle.room_timer.specs.Timers.{Timers, saw}
use Rattle.room_timer.specs.Expansion.{is_event, saw_all}
use Rattle.timed_runs.specs.Unseen.{entry_at, stamp_at, earliest_of, seen_more, Sees, nothing, one_more}
use Rattle.timed_runs.proofs.Earliest.{IsFirst, is_first, none_first}
use Rattle.timed_runs.proofs.Points.{own_first, other_first}

-- ---- lists

pub all_weaker : {X : Type 0} (P Q : X → Type 0) → ((x : X) → P x → Q x) → (xs : List X) → AllByRecursion P xs → AllByRecursion Q xs
all_weaker P Q f [] h = tt
all_weaker P Q f (x ∷ xs) h = (f x h.0, all_weaker P Q f xs h.1)

pub drop_there : {X : Type 0} (xs : List X) (k : ℕ) (x : X) → slice_get xs k ≡ Some x → drop k xs ≡ x ∷ drop (k + 1) xs
drop_there [] k x h = absurd cc
drop_there {X} (y ∷ xs) zero x h = let same : y ≡ x = same_Some y x h in ap (λ (z : X). z ∷ xs) same
drop_there {X} (y ∷ xs) (suc k) x h =
    let next : suc k + 1 ≡ suc (k + 1) = omega arith in
    drop_there xs k x h ∙ ap (λ (n : ℕ). x ∷ drop n (y ∷ xs)) (sym next)

drop_first : {X : Type 0} (xs : List X) (k : ℕ) (x : X) (rest : List X) → drop k xs ≡ x ∷ rest → slice_get xs k ≡ Some x
drop_first [] zero x rest h = absurd cc
drop_first [] (suc k) x rest h = absurd cc
drop_first (y ∷ xs) zero x rest h = let same : y ≡ x = cc in ap (λ z. Some z) same
drop_first (y ∷ xs) (suc k) x rest h = drop_first xs k x rest h

drop_none : {X : Type 0} (xs : List X) (k : ℕ) → slice_get xs k ≡ None → drop k xs ≡ []
drop_none [] zero h = refl
drop_none [] (suc k) h = refl
drop_none (y ∷ xs) zero h = absurd cc
drop_none (y ∷ xs) (suc k) h = drop_none xs k h

-- ---- stamps

-- stamps that rise are above what they rise from
pub rising_above : (k m : ℕ) (es : List Entry) → k ≤ m → Rising m es → AllByRecursion (λ (e : Entry). k < stamp_of e) es
rising_above k m [] low h = tt
rising_above k m (e ∷ es) low h = (omega (arith, low, h.0), rising_above k (stamp_of e) es (omega (arith, low, h.0)) h.1)

pub rise_on : (k : ℕ) (es : List Entry) → Rising k es → Rise es
rise_on k [] h = tt
rise_on k (e ∷ es) h = h.1

pub rise_behind : (front es : List Entry) → Rise (front ++ es) → Rise es
rise_behind [] es h = h
rise_behind (e ∷ front) es h = rise_behind front es (rise_on (stamp_of e) (front ++ es) h)

-- a start stands at 0
start_low : (e : Entry) → is_event e ≡ false → stamp_of e ≡ 0
start_low (entry.Start who state ns) h = refl
start_low (entry.Fetch stamp m) h = absurd cc
start_low (entry.Turn stamp from sent did ns) h = absurd cc
start_low (entry.Post stamp m) h = absurd cc

all_high : (e : Entry) → stamp_of e ≡ 0 → (es : List Entry) → AllByRecursion (λ (f : Entry). stamp_of e ≤ stamp_of f) es
all_high e low [] = tt
all_high e low (f ∷ es) = (omega (arith, low), all_high e low es)

-- the first of entries that rise, where starts aren't counted, is the lowest
lowest_first : (e : Entry) (es : List Entry) → Rise (filter is_event (e ∷ es)) → AllByRecursion (λ (f : Entry). stamp_of e ≤ stamp_of f) (filter is_event (e ∷ es))
lowest_first e es h = by (is_event e) refl h
  where
    by : (b : Bool) → is_event e ≡ b → Rise (if b then e ∷ filter is_event es else filter is_event es)
        → AllByRecursion (λ (f : Entry). stamp_of e ≤ stamp_of f) (if b then e ∷ filter is_event es else filter is_event es)
    by true is k = (
      omega arith,
      all_weaker (λ (f : Entry). stamp_of e < stamp_of f) (λ (f : Entry). stamp_of e ≤ stamp_of f) (λ f less. omega (arith, less)) (filter is_event es)
          (rising_above (stamp_of e) (stamp_of e) (filter is_event es) (omega arith) k),
    )
    by false is k = all_high e (start_low e is) (filter is_event es)

-- ---- the merge

-- what goes before the entries of each party goes before all
before_all : (x : Placed) (ys : List Placed)
    → ((q : ℕ) → AllByRecursion (λ (f : Entry). IsBefore x (record { party = q; entry = f })) (entries_of q ys)) → IsBeforeAll x ys
before_all x [] h = tt
before_all x (y ∷ ys) h = (first, before_all x ys (λ q. rest q (cases_eq y.party q)))
  where
    first : IsBefore x y
    first = (subst (λ (es : List Entry). AllByRecursion (λ (f : Entry). IsBefore x (record { party = y.party; entry = f })) es) (own_first y.party y ys refl) (h y.party)).0

    rest : (q : ℕ) → (y.party ≡ q) ⊎ (y.party ≡ q → ⊥) → AllByRecursion (λ (f : Entry). IsBefore x (record { party = q; entry = f })) (entries_of q ys)
    rest q (inl own) =
        (subst (λ (es : List Entry). AllByRecursion (λ (f : Entry). IsBefore x (record { party = q; entry = f })) es) (own_first q y ys own) (h q)).1
    rest q (inr apart) =
        subst (λ (es : List Entry). AllByRecursion (λ (f : Entry). IsBefore x (record { party = q; entry = f })) es) (other_first q y ys apart) (h q)

abbrev pub happened : Placed → Bool
happened x = is_event x.entry

-- without starts
abbrev pub events : List Placed → List Placed
events xs = filter happened xs

-- what wasn't seen of a party
abbrev pub unseen : (ℕ → List Entry) → List ℕ → ℕ → List Entry
unseen journals counts p = drop (slice_index_or counts p 0) (journals p)

-- these entries are the merge of what wasn't seen of so many parties
pub record AreSeen (n : ℕ) (journals : ℕ → List Entry) (counts after : List ℕ) (xs : List Placed) : Type 0 where
  pub ordered : InOrder (events xs)
  pub whole : (p : ℕ) → p < n → entries_of p (events xs) ≡ filter is_event (unseen journals counts p)
  pub beyond : (p : ℕ) → n ≤ p → entries_of p (events xs) ≡ []
  pub counted : (p : ℕ) → p < n → slice_index_or counts p 0 ≤ length (journals p) → slice_index_or after p 0 ≡ length (journals p)
  pub long : length after ≡ length counts

module _ (n : ℕ) (journals : ℕ → List Entry) where
  -- a party's next entry is the first that wasn't seen
  record IsNext (counts : List ℕ) (p : ℕ) (e : Entry) : Type 0 where
    within : p < length counts
    inside : slice_index_or counts p 0 < length (journals p)
    first : unseen journals counts p ≡ e ∷ unseen journals (seen_more counts p) p

  is_next : (counts : List ℕ) (p : ℕ) (e : Entry) → entry_at journals counts p ≡ Some e → IsNext counts p e
  is_next counts p e h = go (slice_get counts p) refl h
    where
      go : (o : Option ℕ) → slice_get counts p ≡ o → option_and_then (λ (count : ℕ). slice_get (journals p) count) o ≡ Some e → IsNext counts p e
      go None is k = absurd cc
      go (Some count) is k =
          let here : slice_index_or counts p 0 ≡ count = get_or_from_slice_get counts p count 0 is in
          let within : p < length counts = slice_get_within counts p count is in
          let again : slice_index_or (seen_more counts p) p 0 ≡ count + 1 =
          get_or-set_same counts p (slice_index_or counts p 0 + 1) 0 within ∙ ap (λ (z : ℕ). z + 1) here in
          record {
            within = within;
            inside = omega (arith, here, slice_get_within (journals p) count e k);
            first = ap (λ (z : ℕ). drop z (journals p)) here ∙ drop_there (journals p) count e k ∙ ap (λ (z : ℕ). e ∷ drop z (journals p)) (sym again);
          }

  -- what wasn't seen of another party stays
  other_stays : (counts : List ℕ) (p q : ℕ) → (p ≡ q → ⊥) → slice_index_or (seen_more counts p) q 0 ≡ slice_index_or counts q 0
  other_stays counts p q apart = get_or-set_other counts p q (slice_index_or counts p 0 + 1) 0 (λ e. apart (sym e))

  unseen_stays : (counts : List ℕ) (p q : ℕ) → (p ≡ q → ⊥) → unseen journals (seen_more counts p) q ≡ unseen journals counts q
  unseen_stays counts p q apart = ap (λ (k : ℕ). drop k (journals q)) (other_stays counts p q apart)

  -- the stamp of what is first
  stamp_of_first : (counts : List ℕ) (q : ℕ) (f : Entry) (fs : List Entry) → q < length counts → unseen journals counts q ≡ f ∷ fs → stamp_at journals counts q ≡ Some (stamp_of f)
  stamp_of_first counts q f fs within is =
      ap (λ (o : Option ℕ). option_map stamp_of (option_and_then (λ (count : ℕ). slice_get (journals q) count) o)) (slice_get-get_or counts q 0 within)
      ∙ ap (λ (o : Option Entry). option_map stamp_of o) (drop_first (journals q) (slice_index_or counts q 0) f fs is)

  -- where nothing is next, all was seen
  none_unseen : (counts : List ℕ) (q : ℕ) → q < length counts → stamp_at journals counts q ≡ None → unseen journals counts q ≡ []
  none_unseen counts q within h = drop_none (journals q) (slice_index_or counts q 0) (here (slice_get (journals q) (slice_index_or counts q 0)) refl)
    where
      stamped : stamp_at journals counts q ≡ option_map stamp_of (slice_get (journals q) (slice_index_or counts q 0))
      stamped = ap (λ (o : Option ℕ). option_map stamp_of (option_and_then (λ (count : ℕ). slice_get (journals q) count) o)) (slice_get-get_or counts q 0 within)

      here : (o : Option Entry) → slice_get (journals q) (slice_index_or counts q 0) ≡ o → slice_get (journals q) (slice_index_or counts q 0) ≡ None
      here None is = is
      here (Some e) is =
          let both : ◌≡◌ {A = Option ℕ} None (Some (stamp_of e)) = sym h ∙ stamped ∙ ap (λ (o : Option Entry). option_map stamp_of o) is in
          absurd cc

  -- the stamp of the party's next entry
  next_stamp : (counts : List ℕ) (p : ℕ) (e : Entry) (stamp : ℕ) → entry_at journals counts p ≡ Some e → stamp_at journals counts p ≡ Some stamp → stamp ≡ stamp_of e
  next_stamp counts p e stamp h k = same_Some stamp (stamp_of e) (sym k ∙ ap (λ (o : Option Entry). option_map stamp_of o) h)

  -- one entry, and then those that are seen after it
  module _ (counts : List ℕ) (stamp party : ℕ) (e : Entry) (ys : List Placed) (after : List ℕ) (long : length counts ≡ n)
      (rise : (p : ℕ) → p < n → Rise (filter is_event (unseen journals counts p))) (first : IsFirst (stamp_at journals counts) n stamp party)
      (there : entry_at journals counts party ≡ Some e) (tail : AreSeen n journals (seen_more counts party) after ys) where
    abbrev placed : Placed
    placed = record { party = party; entry = e }

    next : IsNext counts party e
    next = is_next counts party e there

    stamped : stamp ≡ stamp_of e
    stamped = next_stamp counts party e stamp there first.there

    -- it goes before all that is seen after it
    goes_before : is_event e ≡ true → (q : ℕ) → (q < n) ⊎ (n ≤ q) → (party ≡ q) ⊎ (party ≡ q → ⊥)
        → AllByRecursion (λ (f : Entry). IsBefore (record { party = party; entry = e }) (record { party = q; entry = f })) (entries_of q (events ys))
    goes_before event q (inr past) same =
        subst (λ (es : List Entry). AllByRecursion (λ (f : Entry). IsBefore (record { party = party; entry = e }) (record { party = q; entry = f })) es) (sym (tail.beyond q past)) tt
    goes_before event q (inl below) (inl own) =
        let here : filter is_event (unseen journals counts party) ≡ filter is_event (e ∷ unseen journals (seen_more counts party) party) = ap (filter is_event) next.first in
        let counted : filter is_event (e ∷ unseen journals (seen_more counts party) party) ≡ e ∷ filter is_event (unseen journals (seen_more counts party) party) =
        ap (λ (b : Bool). if b then e ∷ filter is_event (unseen journals (seen_more counts party) party) else filter is_event (unseen journals (seen_more counts party) party)) event in
        let up : Rising (stamp_of e) (filter is_event (unseen journals (seen_more counts party) party)) = subst Rise (here ∙ counted) (rise party first.below) in
        let above = rising_above (stamp_of e) (stamp_of e) (filter is_event (unseen journals (seen_more counts party) party)) (omega arith) up in
        let is : filter is_event (unseen journals (seen_more counts party) party) ≡ entries_of q (events ys) =
        sym (tail.whole party first.below) ∙ ap (λ (z : ℕ). entries_of z (events ys)) own in
        subst (λ (es : List Entry). AllByRecursion (λ (f : Entry). IsBefore (record { party = party; entry = e }) (record { party = q; entry = f })) es) is
        (all_weaker (λ (f : Entry). stamp_of e < stamp_of f) (λ (f : Entry). IsBefore (record { party = party; entry = e }) (record { party = q; entry = f }))
        (λ f less. inl less) (filter is_event (unseen journals (seen_more counts party) party)) above)
    goes_before event q (inl below) (inr apart) =
        subst (λ (es : List Entry). AllByRecursion (λ (f : Entry). IsBefore (record { party = party; entry = e }) (record { party = q; entry = f })) es)
        (sym (tail.whole q below ∙ ap (filter is_event) (unseen_stays counts party q apart))) (go (unseen journals counts q) refl)
      where
        later : (f g : Entry) → (stamp < stamp_of f) ⊎ ((stamp ≡ stamp_of f) × (party ≤ q)) → stamp_of f ≤ stamp_of g → (stamp_of f ≡ stamp_of g) ⊎ (stamp_of f ≡ stamp_of g → ⊥)
            → IsBefore (record { party = party; entry = e }) (record { party = q; entry = g })
        later f g (inl less) low same = inl (omega (arith, less, low, stamped))
        later f g (inr level) low (inl same) = inr (omega (arith, level.0, same, stamped), omega (arith, level.1, apart))
        later f g (inr level) low (inr other) = inl (omega (arith, level.0, low, other, stamped))

        go : (es : List Entry) → unseen journals counts q ≡ es
            → AllByRecursion (λ (f : Entry). IsBefore (record { party = party; entry = e }) (record { party = q; entry = f })) (filter is_event es)
        go [] is = tt
        go (f ∷ fs) is =
            let least = first.least q (stamp_of f) below (stamp_of_first counts q f fs (omega (arith, below, long)) is) in
            all_weaker (λ (g : Entry). stamp_of f ≤ stamp_of g) (λ (g : Entry). IsBefore (record { party = party; entry = e }) (record { party = q; entry = g }))
            (λ g low. later f g least low (cases_eq (stamp_of f) (stamp_of g))) (filter is_event (f ∷ fs))
            (lowest_first f fs (subst (λ (es : List Entry). Rise (filter is_event es)) is (rise q below)))

    ordered_more : (b : Bool) → is_event e ≡ b → InOrder (if b then placed ∷ events ys else events ys)
    ordered_more true event = (before_all placed (events ys) (λ q. goes_before event q (cases_lt q n) (cases_eq party q)), tail.ordered)
    ordered_more false event = tail.ordered

    whole_more : (p : ℕ) → p < n → (party ≡ p) ⊎ (party ≡ p → ⊥) → (b : Bool) → is_event e ≡ b
        → entries_of p (if b then placed ∷ events ys else events ys) ≡ filter is_event (unseen journals counts p)
    whole_more p below (inr apart) true event =
        other_first p placed (events ys) apart ∙ tail.whole p below ∙ ap (filter is_event) (unseen_stays counts party p apart)
    whole_more p below (inr apart) false event = tail.whole p below ∙ ap (filter is_event) (unseen_stays counts party p apart)
    whole_more p below (inl own) b event =
        subst (λ (q : ℕ). entries_of q (if b then placed ∷ events ys else events ys) ≡ filter is_event (unseen journals counts q)) own (here b event)
      where
        here : (b : Bool) → is_event e ≡ b → entries_of party (if b then placed ∷ events ys else events ys) ≡ filter is_event (unseen journals counts party)
        here true event =
            own_first party placed (events ys) refl ∙ ap (λ (es : List Entry). e ∷ es) (tail.whole party first.below)
            ∙ sym (ap (λ (c : Bool). if c then e ∷ filter is_event (unseen journals (seen_more counts party) party) else filter is_event (unseen journals (seen_more counts party) party)) event)
            ∙ sym (ap (filter is_event) next.first)
        here false event =
            tail.whole party first.below
            ∙ sym (ap (λ (c : Bool). if c then e ∷ filter is_event (unseen journals (seen_more counts party) party) else filter is_event (unseen journals (seen_more counts party) party)) event)
            ∙ sym (ap (filter is_event) next.first)

    beyond_more : (p : ℕ) → n ≤ p → (b : Bool) → entries_of p (if b then placed ∷ events ys else events ys) ≡ []
    beyond_more p past true = other_first p placed (events ys) (λ own. omega (arith, own, past, first.below)) ∙ tail.beyond p past
    beyond_more p past false = tail.beyond p past

    counted_more : (p : ℕ) → p < n → (party ≡ p) ⊎ (party ≡ p → ⊥) → slice_index_or counts p 0 ≤ length (journals p) → slice_index_or after p 0 ≡ length (journals p)
    counted_more p below (inr apart) low = tail.counted p below (subst (λ (k : ℕ). k ≤ length (journals p)) (sym (other_stays counts party p apart)) low)
    counted_more p below (inl own) low =
        subst (λ (q : ℕ). slice_index_or after q 0 ≡ length (journals q)) own
        (tail.counted party first.below
        (let again : slice_index_or (seen_more counts party) party 0 ≡ slice_index_or counts party 0 + 1 =
        get_or-set_same counts party (slice_index_or counts party 0 + 1) 0 next.within in
        omega (arith, again, next.inside)))

    one_seen : AreSeen n journals counts after (record { party = party; entry = e } ∷ ys)
    one_seen = record {
      ordered = ordered_more (is_event e) refl;
      whole = λ p below. whole_more p below (cases_eq party p) (is_event e) refl;
      beyond = λ p past. beyond_more p past (is_event e);
      counted = λ p below low. counted_more p below (cases_eq party p) low;
      long = tail.long ∙ length-set counts party (slice_index_or counts party 0 + 1);
    }

  -- what rises still does behind the party's next entry
  rise_then : (counts : List ℕ) (party : ℕ) (e : Entry) → entry_at journals counts party ≡ Some e
      → ((p : ℕ) → p < n → Rise (filter is_event (unseen journals counts p))) → (p : ℕ) → p < n → (party ≡ p) ⊎ (party ≡ p → ⊥)
      → Rise (filter is_event (unseen journals (seen_more counts party) p))
  rise_then counts party e there rise p below (inr apart) =
      subst (λ (es : List Entry). Rise (filter is_event es)) (sym (unseen_stays counts party p apart)) (rise p below)
  rise_then counts party e there rise p below (inl own) =
      subst (λ (q : ℕ). Rise (filter is_event (unseen journals (seen_more counts party) q))) own
      (by (is_event e) (subst (λ (es : List Entry). Rise (filter is_event es)) (is_next counts party e there).first (subst (λ (q : ℕ). Rise (filter is_event (unseen journals counts q))) (sym own) (rise p below))))
    where
      by : (b : Bool) → Rise (if b then e ∷ filter is_event (unseen journals (seen_more counts party) party) else filter is_event (unseen journals (seen_more counts party) party))
          → Rise (filter is_event (unseen journals (seen_more counts party) party))
      by true h = rise_on (stamp_of e) (filter is_event (unseen journals (seen_more counts party) party)) h
      by false h = h

  none_seen : (counts : List ℕ) → length counts ≡ n → earliest_of (stamp_at journals counts) n ≡ None → AreSeen n journals counts counts []
  none_seen counts long none = record {
    ordered = tt;
    whole = λ p below. sym (ap (filter is_event) (empty p below));
    beyond = λ p past. refl;
    counted = λ p below low. omega (arith, low, ap length (empty p below), length-drop (slice_index_or counts p 0) (journals p));
    long = refl;
  }
    where
      empty : (p : ℕ) → p < n → unseen journals counts p ≡ []
      empty p below = none_unseen counts p (omega (arith, below, long)) (none_first (stamp_at journals counts) n none p below)

  pub are_seen : (counts after : List ℕ) (xs : List Placed) → Sees n journals counts xs after → length counts ≡ n
      → ((p : ℕ) → p < n → Rise (filter is_event (unseen journals counts p))) → AreSeen n journals counts after xs
  are_seen counts after xs (nothing _ none) long rise = none_seen counts long none
  are_seen counts after xs (one_more _ behind stamp party e ys first there rest) long rise =
      one_seen counts stamp party e ys behind long rise (is_first (stamp_at journals counts) n stamp party first) there
      (are_seen (seen_more counts party) behind ys rest (length-set counts party (slice_index_or counts party 0 + 1) ∙ long)
      (λ p below. rise_then counts party e there rise p below (cases_eq party p)))

-- ---- the timers see events alone

saw_nothing : (t : Tables) (ts : Timers) (party : ℕ) (e : Entry) → is_event e ≡ false → saw t ts party e ≡ ts
unfolding saw
saw_nothing t ts party (entry.Start who state ns) h = refl
saw_nothing t ts party (entry.Fetch stamp m) h = absurd cc
saw_nothing t ts party (entry.Turn stamp from sent did ns) h = absurd cc
saw_nothing t ts party (entry.Post stamp m) h = absurd cc

pub saw_events : (t : Tables) (ts : Timers) (xs : List Placed) → saw_all t ts xs ≡ saw_all t ts (events xs)
saw_events t ts [] = refl
saw_events t ts (x ∷ xs) = by (is_event x.entry) refl (λ us. saw_events t us xs)
  where
    by : (b : Bool) → is_event x.entry ≡ b → ((us : Timers) → saw_all t us xs ≡ saw_all t us (events xs))
        → saw_all t (saw t ts x.party x.entry) xs ≡ saw_all t ts (if b then x ∷ events xs else events xs)
    by true event rest = rest (saw t ts x.party x.entry)
    by false event rest = rest (saw t ts x.party x.entry) ∙ ap (λ (us : Timers). saw_all t us (events xs)) (saw_nothing t ts x.party x.entry event)
