-- Lists of ends in which one end is replaced.
use Rattle.std.proofs.Common.{ℕ, List, ◌≡◌, ◌<◌, slice_get, slice_set, set, length, Some, ap, sym, subst, ◌∙◌, refl}
use Rattle.std.proofs.lemmas.List.{set-set, length-set, get_or-set_same, get_or-set_other, get_or-map, map-set, set-get_or}
use Rattle.std.proofs.lemmas.Option.{slice_get_within, slice_get-get_or, get_or_from_slice_get}
use Rattle.std.proofs.lemmas.Bool.{cases_eq, eq-eqb, ne_eqb}
use Rattle.std.proofs.Common.{map, if◌then◌else◌, ◌==◌, inl, inr}
use Rattle.mail_core.specs.EndLog.{EndLog, fresh, posting}
use Rattle.room_kinds.specs.declared.message.Msg.{Msg}
use Rattle.mail_core.specs.Lanes.{log_at}
use Rattle.mail_core.specs.SetUp.{AreFresh}
use Rattle.mail_core.specs.Tied.{IsTied, StaysTied}

pub slice_get-set_same : {X : Type 0} (xs : List X) (i : ℕ) (x y : X) → slice_get xs i ≡ Some x → slice_get (slice_set xs i y) i ≡ Some y
slice_get-set_same xs i x y e =
    let h : i < length xs = slice_get_within xs i x e in
    let l : i < length (slice_set xs i y) = rw length-set h in
    slice_get-get_or _ i y l ∙ ap Some (get_or-set_same xs i y y h)

-- after a step the office is tied with some list still
pub IsTied-step : {O E : Type 0} {tied : O → List E → Type 0} {p q : ℕ} {o o' : O} {e e' : E} → IsTied tied p o e → StaysTied tied p o o' e e' → p ≡ q → IsTied tied q o' e'
IsTied-step {tied = tied} {p = p} {o' = o'} {e = e} {e' = e'} t s same =
    let now : IsTied tied p o' e' = record { ends = slice_set t.ends p e'; together = s.again t.ends t.together t.here; here = slice_get-set_same t.ends p e e' t.here } in
    subst (λ r. IsTied tied r o' e') same now

-- one step after another
pub StaysTied-step : {O E : Type 0} {tied : O → List E → Type 0} {p q : ℕ} {o o' o'' : O} {e e' e'' : E} → StaysTied tied p o o' e e' → StaysTied tied q o' o'' e' e'' → p ≡ q → StaysTied tied p o o'' e e''
StaysTied-step {tied = tied} {p = p} {o' = o'} {o'' = o''} {e = e} {e' = e'} {e'' = e''} s t same = record {
  again = λ ends together here.
      let first = s.again ends together here in
      let there = slice_get-set_same ends p e e' here in
      let next : StaysTied tied p o' o'' e' e'' = subst (λ r. StaysTied tied r o' o'' e' e'') (sym same) t in
      let second = next.again (slice_set ends p e') first there in
      rw set-set at second;
}

-- nothing happened
pub StaysTied-refl : {O E : Type 0} {tied : O → List E → Type 0} {p : ℕ} {o : O} {e : E} → StaysTied tied p o o e e
StaysTied-refl {tied = tied} {p = p} {o = o} {e = e} = record {
  again = λ ends t at. subst (λ es. tied o es) (sym (ap (λ x. set ends p x) (sym (get_or_from_slice_get ends p e e at)) ∙ set-get_or ends p e)) t;
}

-- who the end is stays
pub party-posting : (log : EndLog) (m : Msg) → (posting log m).party ≡ log.party
unfolding posting
party-posting log m = refl

pub parties-posting : (log : EndLog) (m : Msg) → (posting log m).parties ≡ log.parties
unfolding posting
parties-posting log m = refl

pub ruleset tied_steps = (IsTied-step, StaysTied-step, StaysTied-refl, party-posting, parties-posting)

-- an end that stands at its place in the list is tied
pub IsTied-at : {O E : Type 0} {tied : O → List E → Type 0} (log : E → EndLog) → ((office : O) (ends : List E) (k : ℕ) (e : E) → tied office ends → slice_get ends k ≡ Some e → ((log e).party ≡ k) × ((log e).parties ≡ length ends)) →
    {office : O} {ends : List E} (k : ℕ) {e : E} → tied office ends → slice_get ends k ≡ Some e → IsTied tied (log e).party office e
IsTied-at log in_order {office = office} {ends = ends} k {e = e} together here = record {
  ends = ends;
  together = together;
  here = rw (in_order office ends k e together here).0 here;
}

-- after its step the list with the end as it then is in its place is tied
pub tied-again : {O E : Type 0} {tied : O → List E → Type 0} (log : E → EndLog) → ((office : O) (ends : List E) (k : ℕ) (e : E) → tied office ends → slice_get ends k ≡ Some e → ((log e).party ≡ k) × ((log e).parties ≡ length ends)) →
    {office office' : O} {ends : List E} (k : ℕ) {e e' : E} → tied office ends → slice_get ends k ≡ Some e → StaysTied tied (log e).party office office' e e' → tied office' (slice_set ends k e')
tied-again {tied = tied} log in_order {office = office} {office' = office'} {ends = ends} k {e = e} {e' = e'} together here s =
    let order = (in_order office ends k e together here).0 in
    let stays : StaysTied tied k office office' e e' = rw order at s in
    stays.again ends together here

-- what is logged of the end that stands at a place
pub log_at-map : {E : Type 0} (log : E → EndLog) (ends : List E) (i : ℕ) (e : E) → slice_get ends i ≡ Some e → log_at (map log ends) i ≡ log e
log_at-map log ends i e at = get_or-map log ends i e (fresh 0 0) (slice_get_within ends i e at) ∙ ap log (get_or_from_slice_get ends i e e at)

-- what is logged after one end changed
pub logs-after : {E : Type 0} (log : E → EndLog) (f : EndLog → EndLog) (n i : ℕ) (ends : List E) (e : E) → AreFresh n (map log ends) → i < n → log e ≡ f (fresh n i) →
    (length (map log (slice_set ends i e)) ≡ n) × ((k : ℕ) → k < n → log_at (map log (slice_set ends i e)) k ≡ (if k == i then f (fresh n k) else fresh n k))
logs-after log f n i ends e fresh_ends h new =
    let same = map-set log ends i e in
    let count : length (map log ends) ≡ n = fresh_ends.count in (
      ap length same ∙ length-set (map log ends) i (log e) ∙ count,
      λ k below. ap (λ ls. log_at ls k) same ∙ elim (cases_eq k i) [
        | inl here ↦ rw (eq-eqb k i here, here) (get_or-set_same (map log ends) i (log e) (fresh 0 0) (rw count h) ∙ new)
        | inr other ↦ rw (ne_eqb k i other) (get_or-set_other (map log ends) i k (log e) (fresh 0 0) other ∙ fresh_ends.each k below)
      ],
    )

pub ruleset place_steps = (log_at-map, StaysTied-refl)
