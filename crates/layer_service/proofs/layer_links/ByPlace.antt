-- Links in order of place: how the link of a place is found, put there, and taken away.
use Rattle.std.proofs.Common.{◌≡◌, ◌≢◌, ℕ, zero, suc, ◌+◌, ◌<◌, ◌≤◌, ◌^◌, Bool, true, false, cond, not, ◌&&◌, List, [], ◌∷◌, length, get_or, set, Some, None, Result, Ok, Err, IfOk, IfErr, refl, sym, ap, subst, ◌∙◌, arith}
use Rattle.std.specs.Prelude.{nat_lt, nat_le, ◌==◌, filter, slice_get, slice_index}
use Rattle.std.specs.List.{insert, remove}
use Rattle.std.specs.List.Sorted.{IsSearchInRange, IsBinarySearchResult, IsNonDecreasingBy}
use Rattle.std.specs.Ordering.{nat_cmp, ordering_index}
use Rattle.std.proofs.lemmas.Cmp.{ranked}
use Rattle.std.proofs.lemmas.List.Sorted.{IsNonDecreasingBy-from_default}
use Rattle.std.proofs.lemmas.Bool.Decides.{nat_tests}
use Rattle.room_kinds.specs.declared.numbers.Endpoint.{Endpoint}
use Rattle.actor_duties.specs.State.{Link}
use Rattle.actor_duties.specs.Words.{is_endpoint}
use Rattle.actor_duties.specs.Links.{with_link}
use Rattle.actor_duties.specs.Peers.{link_at}
use Rattle.layer_service.specs.layer_links.Rising.{AreRisingFrom, AreRising, places_of, without_link, first_from, no_link, place_of, IsAt, IsGapFor}

-- ---- numbers

is_below : (a b : ℕ) → a < b → nat_lt a b ≡ true
is_below a b lt = grind (arith, nat_tests)

not_below : (a b : ℕ) → b ≤ a → nat_lt a b ≡ false
not_below a b le = grind (arith, nat_tests)

is_same : (a b : ℕ) → a ≡ b → (a == b) ≡ true
is_same a b same = grind (arith, nat_tests)

not_same : (a b : ℕ) → a ≢ b → (a == b) ≡ false
not_same a b differ = grind (arith, nat_tests)

-- ---- order

no_lower : (from : ℕ) (links : List Link) (i : ℕ) → AreRisingFrom from links → i < length links → from ≤ place_of links i
no_lower from [] i rise lt = absurd (omega arith)
no_lower from (x ∷ rest) zero rise lt = rise.0
no_lower from (x ∷ rest) (suc i) rise lt =
    let first : from ≤ x.place = rise.0 in
    let more = no_lower (x.place + 1) rest i rise.2 (omega arith) in
    omega (arith, first, more)

rising : (from : ℕ) (links : List Link) (i j : ℕ) → AreRisingFrom from links → i < j → j < length links → place_of links i < place_of links j
rising from [] i j rise lt within = absurd (omega arith)
rising from (x ∷ rest) zero zero rise lt within = absurd (omega arith)
rising from (x ∷ rest) zero (suc j) rise lt within = let more = no_lower (x.place + 1) rest j rise.2 (omega arith) in omega (arith, more)
rising from (x ∷ rest) (suc i) zero rise lt within = absurd (omega arith)
rising from (x ∷ rest) (suc i) (suc j) rise lt within = rising (x.place + 1) rest i j rise.2 (omega arith) (omega arith)

rising_further : (low from : ℕ) (links : List Link) → low ≤ from → AreRisingFrom from links → AreRisingFrom low links
rising_further low from [] le rise = tt
rising_further low from (x ∷ rest) le rise = let first : from ≤ x.place = rise.0 in (omega (arith, le, first), rise.1, rise.2)

-- ---- a search

module _ (links : List Link) (rise : AreRising links) (k : ℕ) where
  -- the comparisons with k rise along the list, as a binary search asks
  comparisons_rise : IsNonDecreasingBy (λ (x : Link). ordering_index (nat_cmp x.place k)) links
  comparisons_rise = IsNonDecreasingBy-from_default (λ (x : Link). ordering_index (nat_cmp x.place k)) links no_link (λ i j le within.
      let places_rise : place_of links i ≤ place_of links j = grind (arith, rising 0 links i j rise, λ (same : i ≡ j). ap (place_of links) same) in
      grind (arith, nat_tests))

  -- a binary search by place ends at the link of the place, or at the gap for it
  pub searched : (r : Result ℕ ℕ) → IsSearchInRange r (length links) → IsBinarySearchResult (λ (x : Link). nat_cmp x.place k) links r
      → record { found : IfOk r (IsAt links k); absent : IfErr r (IsGapFor links k) }
  searched (Ok at) in_range equal = record { found = record { within = in_range; is = ranked _ k _ (sym (equal no_link)) }; absent = tt }
  searched (Err at) in_range parted = record {
    found = tt;
    absent = record {
      within = in_range;
      lower = λ j lt. ranked _ k _ (sym ((parted comparisons_rise).0 j no_link (omega arith) lt));
      higher = λ j le lt. ranked _ k _ (sym ((parted comparisons_rise).1 j no_link le lt));
    };
  }

-- ---- where no link has a place

-- no link has this place
abbrev NonePlaced : ℕ → List Link → Type 0
NonePlaced k links = (j : ℕ) → j < length links → (place_of links j == k) ≡ false

none_behind : (k : ℕ) (x : Link) (rest : List Link) → NonePlaced k (x ∷ rest) → NonePlaced k rest
none_behind k x rest none j lt = none (suc j) (omega arith)

none_in_gap : (links : List Link) (k i : ℕ) → IsGapFor links k i → NonePlaced k links
none_in_gap links k i gap j lt = not_same (place_of links j) k (λ same. grind (arith, gap.lower j, gap.higher j))

none_above : (k from : ℕ) (links : List Link) → k < from → AreRisingFrom from links → NonePlaced k links
none_above k from links above rise j lt =
    let le = no_lower from links j rise lt in
    not_same (place_of links j) k (λ same. omega (arith, above, le, same))

none_linked : (k : ℕ) (links : List Link) → NonePlaced k links → link_at k links ≡ None
none_linked k [] none = refl
none_linked k (x ∷ rest) none =
    ap (λ (b : Bool). cond b (Some x) (link_at k rest)) (none 0 (omega arith)) ∙ none_linked k rest (none_behind k x rest none)

none_taken : (p : Endpoint) (k : ℕ) (links : List Link) → NonePlaced k links → without_link p k links ≡ links
none_taken p k [] none = refl
none_taken p k (x ∷ rest) none =
    ap (λ (b : Bool). cond (not (b && is_endpoint x.peer p)) (x ∷ without_link p k rest) (without_link p k rest)) (none 0 (omega arith))
    ∙ ap (λ (links : List Link). x ∷ links) (none_taken p k rest (none_behind k x rest none))

-- ---- the gap for a place

pub absent : (links : List Link) (k i : ℕ) → IsGapFor links k i → link_at k links ≡ None
absent links k i gap = none_linked k links (none_in_gap links k i gap)

pub nothing_taken : (p : Endpoint) (links : List Link) (k i : ℕ) → IsGapFor links k i → without_link p k links ≡ links
nothing_taken p links k i gap = none_taken p k links (none_in_gap links k i gap)

-- one case of `with_link`
abbrev put_case : Link → Link → List Link → Bool → Bool → List Link
put_case y x rest below here = cond below (y ∷ x ∷ rest) (cond here (y ∷ rest) (x ∷ with_link y rest))

-- a link that stands below the new one
put_behind : (y x : Link) (rest : List Link) → x.place < y.place → with_link y (x ∷ rest) ≡ x ∷ with_link y rest
put_behind y x rest lt =
    ap (λ (b : Bool). put_case y x rest b (y.place == x.place)) (not_below y.place x.place (omega arith))
    ∙ ap (put_case y x rest false) (not_same y.place x.place (λ same. omega arith))

gap_behind : (x : Link) (rest : List Link) (k i : ℕ) → IsGapFor (x ∷ rest) k (suc i) → IsGapFor rest k i
gap_behind x rest k i gap =
    let within : suc i ≤ length (x ∷ rest) = gap.within in record {
      within = omega arith;
      lower = λ j lt. gap.lower (suc j) (omega arith);
      higher = λ j le lt. gap.higher (suc j) (omega arith) (omega arith);
    }

-- in the gap for its place a link is added
pub added : (y : Link) (links : List Link) (i : ℕ) → IsGapFor links y.place i → with_link y links ≡ insert links i y
added y [] zero gap = refl
added y [] (suc i) gap = let within : suc i ≤ 0 = gap.within in absurd (omega arith)
added y (x ∷ rest) zero gap = ap (λ (b : Bool). put_case y x rest b (y.place == x.place)) (is_below y.place x.place (gap.higher 0 (omega arith) (omega arith)))
added y (x ∷ rest) (suc i) gap =
    put_behind y x rest (gap.lower 0 (omega arith)) ∙ ap (λ (links : List Link). x ∷ links) (added y rest i (gap_behind x rest y.place i gap))

-- ---- the place of a link

at_behind : (x : Link) (rest : List Link) (k i : ℕ) → IsAt (x ∷ rest) k (suc i) → IsAt rest k i
at_behind x rest k i at = let within : suc i < length (x ∷ rest) = at.within in record { within = omega arith; is = at.is }

-- the first link is below one behind it
first_below : (from : ℕ) (x : Link) (rest : List Link) (k i : ℕ) → AreRisingFrom from (x ∷ rest) → IsAt (x ∷ rest) k (suc i) → x.place < k
first_below from x rest k i rise at =
    let within : suc i < length (x ∷ rest) = at.within in
    let is : place_of rest i ≡ k = at.is in
    let le = no_lower (x.place + 1) rest i rise.2 (omega arith) in
    omega (arith, is, le)

-- it is found
pub found : (from : ℕ) (links : List Link) (k i : ℕ) (d : Link) → AreRisingFrom from links → IsAt links k i → link_at k links ≡ Some (get_or links i d)
found from [] k i d rise at = let within : i < 0 = at.within in absurd (omega arith)
found from (x ∷ rest) k zero d rise at = ap (λ (b : Bool). cond b (Some x) (link_at k rest)) (is_same x.place k at.is)
found from (x ∷ rest) k (suc i) d rise at =
    let lt = first_below from x rest k i rise at in
    ap (λ (b : Bool). cond b (Some x) (link_at k rest)) (not_same x.place k (λ same. omega (arith, lt, same)))
    ∙ found (x.place + 1) rest k i d rise.2 (at_behind x rest k i at)

-- its place has at most 32 bits
pub near : (from : ℕ) (links : List Link) (k i : ℕ) → AreRisingFrom from links → IsAt links k i → k < 2 ^ 32
near from [] k i rise at = let within : i < 0 = at.within in absurd (omega arith)
near from (x ∷ rest) k zero rise at =
    let same : x.place ≡ k = at.is in
    let low : x.place < 2 ^ 32 = rise.1 in
    omega (arith, same, low)
near from (x ∷ rest) k (suc i) rise at = near (x.place + 1) rest k i rise.2 (at_behind x rest k i at)

-- another one is put there
pub replaced : (from : ℕ) (y : Link) (links : List Link) (i : ℕ) → AreRisingFrom from links → IsAt links y.place i → with_link y links ≡ set links i y
replaced from y [] i rise at = let within : i < 0 = at.within in absurd (omega arith)
replaced from y (x ∷ rest) zero rise at =
    let same : x.place ≡ y.place = at.is in
    ap (λ (b : Bool). put_case y x rest b (y.place == x.place)) (not_below y.place x.place (omega (arith, same)))
    ∙ ap (put_case y x rest false) (is_same y.place x.place (sym same))
replaced from y (x ∷ rest) (suc i) rise at =
    put_behind y x rest (first_below from x rest y.place i rise at)
    ∙ ap (λ (links : List Link). x ∷ links) (replaced (x.place + 1) y rest i rise.2 (at_behind x rest y.place i at))

-- it is taken away, if it leads to the peer
pub taken : (from : ℕ) (p : Endpoint) (links : List Link) (k i : ℕ) (d : Link) → AreRisingFrom from links → IsAt links k i
    → is_endpoint (get_or links i d).peer p ≡ true → without_link p k links ≡ remove links i
taken from p [] k i d rise at there = let within : i < 0 = at.within in absurd (omega arith)
taken from p (x ∷ rest) k zero d rise at there =
    let same : x.place ≡ k = at.is in
    ap (λ (b : Bool). cond (not (b && is_endpoint x.peer p)) (x ∷ without_link p k rest) (without_link p k rest)) (is_same x.place k same)
    ∙ ap (λ (b : Bool). cond (not b) (x ∷ without_link p k rest) (without_link p k rest)) there
    ∙ none_taken p k rest (none_above k (x.place + 1) rest (omega (arith, same)) rise.2)
taken from p (x ∷ rest) k (suc i) d rise at there =
    let lt = first_below from x rest k i rise at in
    ap (λ (b : Bool). cond (not (b && is_endpoint x.peer p)) (x ∷ without_link p k rest) (without_link p k rest)) (not_same x.place k (λ same. omega (arith, lt, same)))
    ∙ ap (λ (links : List Link). x ∷ links) (taken (x.place + 1) p rest k i d rise.2 (at_behind x rest k i at) there)

-- it stays where it leads to another one
pub kept : (from : ℕ) (p : Endpoint) (links : List Link) (k i : ℕ) (d : Link) → AreRisingFrom from links → IsAt links k i
    → is_endpoint (get_or links i d).peer p ≡ false → without_link p k links ≡ links
kept from p [] k i d rise at there = refl
kept from p (x ∷ rest) k zero d rise at there =
    let same : x.place ≡ k = at.is in
    ap (λ (b : Bool). cond (not (b && is_endpoint x.peer p)) (x ∷ without_link p k rest) (without_link p k rest)) (is_same x.place k same)
    ∙ ap (λ (b : Bool). cond (not b) (x ∷ without_link p k rest) (without_link p k rest)) there
    ∙ ap (λ (links : List Link). x ∷ links) (none_taken p k rest (none_above k (x.place + 1) rest (omega (arith, same)) rise.2))
kept from p (x ∷ rest) k (suc i) d rise at there =
    let lt = first_below from x rest k i rise at in
    ap (λ (b : Bool). cond (not (b && is_endpoint x.peer p)) (x ∷ without_link p k rest) (without_link p k rest)) (not_same x.place k (λ same. omega (arith, lt, same)))
    ∙ ap (λ (links : List Link). x ∷ links) (kept (x.place + 1) p rest k i d rise.2 (at_behind x rest k i at) there)

-- ---- the order stays

pub put_rises : (from : ℕ) (y : Link) (links : List Link) → from ≤ y.place → y.place < 2 ^ 32 → AreRisingFrom from links → AreRisingFrom from (with_link y links)
put_rises from y [] low near rise = (low, near, tt)
put_rises from y (x ∷ rest) low near rise = go (nat_lt y.place x.place) refl (y.place == x.place) refl (put_rises (x.place + 1) y rest)
  where
    go : (below : Bool) → nat_lt y.place x.place ≡ below → (here : Bool) → (y.place == x.place) ≡ here
        → (x.place + 1 ≤ y.place → y.place < 2 ^ 32 → AreRisingFrom (x.place + 1) rest → AreRisingFrom (x.place + 1) (with_link y rest))
        → AreRisingFrom from (put_case y x rest below here)
    go true is here here_is more =
        let lt : y.place < x.place = grind (arith, nat_tests) in
        (low, near, (omega (arith, lt), rise.1, rise.2))
    go false is true here_is more =
        let same : y.place ≡ x.place = grind (arith, nat_tests) in
        (low, near, subst (λ (k : ℕ). AreRisingFrom (k + 1) rest) (sym same) rise.2)
    go false is false here_is more =
        let above : x.place + 1 ≤ y.place = grind (arith, nat_tests) in
        (rise.0, rise.1, more above near rise.2)

pub filter_rises : (from : ℕ) (test : Link → Bool) (links : List Link) → AreRisingFrom from links → AreRisingFrom from (filter test links)
filter_rises from test [] rise = tt
filter_rises from test (x ∷ rest) rise = go (test x) (filter_rises (x.place + 1) test rest rise.2)
  where
    go : (b : Bool) → AreRisingFrom (x.place + 1) (filter test rest) → AreRisingFrom from (cond b (x ∷ filter test rest) (filter test rest))
    go true more = (rise.0, rise.1, more)
    go false more = let first : from ≤ x.place = rise.0 in rising_further from (x.place + 1) (filter test rest) (omega (arith, first)) more

-- ---- places

-- the place of a link
pub place_at : (links : List Link) (i : ℕ) (x : Link) → i < length links → x ≡ get_or links i x → x.place ≡ slice_index (places_of links) i
place_at [] i x lt is = absurd (omega arith)
place_at (y ∷ rest) zero x lt is = ap (λ (z : Link). z.place) is
place_at (y ∷ rest) (suc i) x lt is = place_at rest i x (omega arith) is

-- ---- the first link from a place on

reaches : (k n : ℕ) → k ≤ n → nat_le k n ≡ true
reaches k n le = grind (arith, nat_tests)

falls_short : (k n : ℕ) → n < k → nat_le k n ≡ false
falls_short k n lt = grind (arith, nat_tests)

-- behind lower places, it is the link that stands there
first_at : (links : List Link) (k i : ℕ) → i ≤ length links → ((j : ℕ) → j < i → place_of links j < k) → (i < length links → k ≤ place_of links i)
    → first_from k links ≡ slice_get links i
first_at [] k zero within lower here = refl
first_at [] k (suc i) within lower here = absurd (omega arith)
first_at (x ∷ rest) k zero within lower here =
    ap (λ (b : Bool). cond b (Some x) (first_from k rest)) (reaches k x.place (here (omega arith)))
first_at (x ∷ rest) k (suc i) within lower here =
    ap (λ (b : Bool). cond b (Some x) (first_from k rest)) (falls_short k x.place (lower 0 (omega arith)))
    ∙ first_at rest k i (omega arith) (λ j lt. lower (suc j) (omega arith)) (λ lt. here (omega arith))

-- where the place is linked
pub first_found : (links : List Link) (k i : ℕ) → AreRising links → IsAt links k i → first_from k links ≡ slice_get links i
first_found links k i rise at =
    let within : i < length links = at.within in
    let is : place_of links i ≡ k = at.is in
    first_at links k i (omega arith) (λ j lt. let below = rising 0 links j i rise lt within in omega (arith, below, is)) (λ lt. omega (arith, is))

-- where it isn't
pub first_in_gap : (links : List Link) (k i : ℕ) → IsGapFor links k i → first_from k links ≡ slice_get links i
first_in_gap links k i gap =
    first_at links k i gap.within gap.lower (λ lt. let above = gap.higher i (omega arith) lt in omega (arith, above))
