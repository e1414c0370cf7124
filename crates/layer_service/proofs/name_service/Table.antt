-- Steps of the name table at the place of a service.
use Rattle.std.proofs.Common.{◌≡◌, ℕ, zero, suc, ◌+◌, ◌<◌, ◌≤◌, Bool, true, false, cond, [], ◌∷◌, ◌++◌, length, length-append, get_or, pos, Option, Some, None, refl, sym, ap, ◌∙◌, arith}
use Rattle.std.specs.Prelude.{slice_get, slice_set, position, nat_lt}
use Rattle.std.specs.List.{position_or_len}
use Rattle.std.proofs.lemmas.Bool.Decides.{nat_tests}
use Rattle.std.proofs.lemmas.List.Quantifiers.{position-Some}
use Rattle.std.proofs.lemmas.Option.{slice_get-get_or}
use Rattle.room_kinds.specs.declared.numbers.Endpoint.{Endpoint}
use Rattle.room_wiring.specs.declared.tables.Tables.{Tables}
use Rattle.actor_duties.specs.Messages.{coded, NotRegistered}
use Rattle.actor_duties.specs.State.{Service, NameTable, Done}
use Rattle.actor_duties.specs.Names.{in_service, unmet, withdraw, leave, stands_in, name_reply_to}
use Rattle.layer_service.specs.name_service.Services.{is_called, service_called}
use Rattle.layer_service.specs.name_service.Steps.{StandsAt}

-- a step of the service at this place
abbrev pub step_at : NameTable → ℕ → Done Service → Done NameTable
step_at table i r = record { now = slice_set table i r.now; sent = r.sent }

-- a service behind the first
abbrev behind : Service → Done NameTable → Done NameTable
behind s r = record { now = s ∷ r.now; sent = r.sent }

service_at : (n p : ℕ) (table : NameTable) (i : ℕ) (d : Service) → i < length table → is_called n p (get_or table i d) ≡ true → ((k : ℕ) → k < i → is_called n p (get_or table k d) ≡ false)
    → service_called n p table ≡ get_or table i d
service_at n p [] i d lt here before = absurd (omega arith)
service_at n p (s ∷ rest) zero d lt here before = ap (λ (b : Bool). cond b s (service_called n p rest)) here
service_at n p (s ∷ rest) (suc i) d lt here before =
    let first : is_called n p s ≡ false = before 0 (omega arith) in
    let later : i < length rest = omega arith in
    ap (λ (b : Bool). cond b s (service_called n p rest)) first ∙ service_at n p rest i d later here (λ k less. before (suc k) (omega arith))

-- one case of `in_service`
abbrev service_case : ℕ → ℕ → (Service → Done Service) → Service → NameTable → Bool → Done NameTable
service_case n p step s rest b = cond b (let r = step s in record { now = r.now ∷ rest; sent = r.sent }) (behind s (in_service n p step rest))

step_found : (n p : ℕ) (step : Service → Done Service) (table : NameTable) (i : ℕ) (d : Service) → i < length table → is_called n p (get_or table i d) ≡ true
    → ((k : ℕ) → k < i → is_called n p (get_or table k d) ≡ false) → in_service n p step table ≡ step_at table i (step (get_or table i d))
step_found n p step [] i d lt here before = absurd (omega arith)
step_found n p step (s ∷ rest) zero d lt here before = ap (service_case n p step s rest) here
step_found n p step (s ∷ rest) (suc i) d lt here before =
    let first : is_called n p s ≡ false = before 0 (omega arith) in
    let later : i < length rest = omega arith in
    ap (service_case n p step s rest) first ∙ ap (behind s) (step_found n p step rest i d later here (λ k less. before (suc k) (omega arith)))

-- the service that is found stands at its place
pub found : (n p : ℕ) (table : NameTable) (i : ℕ) → position (is_called n p) table ≡ Some i → StandsAt n p table table i
found n p table i e =
    let d : Service = unmet n p in
    let at = position-Some (is_called n p) table i d e in
    let is : service_called n p table ≡ get_or table i d = service_at n p table i d at.0 at.1 at.2 in
    record {
      within = at.0;
      service = slice_get-get_or table i d at.0 ∙ ap (λ (s : Service). Some s) (sym is);
      steps = λ step. step_found n p step table i d at.0 at.1 at.2 ∙ ap (λ (s : Service). step_at table i (step s)) (sym is);
    }

-- no service of the table passes a test
abbrev AllFail : (Service → Bool) → NameTable → Type 0
AllFail test [] = Unit {0}
AllFail test (s ∷ rest) = (test s ≡ false) × AllFail test rest

past : (k n : ℕ) → cond {A = Option ℕ} (nat_lt k n) (Some k) None ≡ None → n ≤ k
past k n e = go (nat_lt k n) refl e
  where
    go : (b : Bool) → nat_lt k n ≡ b → cond {A = Option ℕ} b (Some k) None ≡ None → n ≤ k
    go true is none = absurd cc
    go false is none = grind (arith, nat_tests)

fail_before : (test : Service → Bool) (table : NameTable) → length table ≤ position_or_len test table → AllFail test table
fail_before test [] h = tt
fail_before test (s ∷ rest) h = go (test s) refl h (fail_before test rest)
  where
    go : (b : Bool) → test s ≡ b → suc (length rest) ≤ position_or_len test (s ∷ rest) → (length rest ≤ position_or_len test rest → AllFail test rest) → (test s ≡ false) × AllFail test rest
    go true is later more =
        let first : position_or_len test (s ∷ rest) ≡ 0 = rw is refl in
        absurd (omega arith)
    go false is later more =
        let next : position_or_len test (s ∷ rest) ≡ 1 + position_or_len test rest = rw is refl in
        (is, more (omega arith))

all_fail : (test : Service → Bool) (table : NameTable) → position test table ≡ None → AllFail test table
all_fail test table e = fail_before test table (past (position_or_len test table) (length table) e)

last_at : (table : NameTable) (s : Service) → slice_get (table ++ s ∷ []) (length table) ≡ Some s
last_at [] s = refl
last_at (t ∷ table) s = last_at table s

set_last : (table : NameTable) (s now : Service) → slice_set (table ++ s ∷ []) (length table) now ≡ table ++ now ∷ []
set_last [] s now = refl
set_last (t ∷ table) s now = ap (λ (more : NameTable). t ∷ more) (set_last table s now)

not_called : (n p : ℕ) (table : NameTable) → AllFail (is_called n p) table → service_called n p table ≡ unmet n p
not_called n p [] h = refl
not_called n p (s ∷ rest) h = ap (λ (b : Bool). cond b s (service_called n p rest)) h.0 ∙ not_called n p rest h.1

step_made : (n p : ℕ) (step : Service → Done Service) (table : NameTable) → AllFail (is_called n p) table
    → in_service n p step table ≡ record { now = table ++ (step (unmet n p)).now ∷ []; sent = (step (unmet n p)).sent }
step_made n p step [] h = refl
step_made n p step (s ∷ rest) h = ap (service_case n p step s rest) h.0 ∙ ap (behind s) (step_made n p step rest h.1)

-- a service that is made stands at the end
pub made : (n p : ℕ) (table : NameTable) → position (is_called n p) table ≡ None → StandsAt n p table (table ++ unmet n p ∷ []) (length table)
made n p table e =
    let none = all_fail (is_called n p) table e in
    let new = unmet n p in
    let is : service_called n p table ≡ new = not_called n p table none in
    record {
      within = rw length-append (omega arith);
      service = last_at table new ∙ ap (λ (s : Service). Some s) (sym is);
      steps =
          λ step. step_made n p step table none
          ∙ ap (λ (after : NameTable). record { now = after; sent = (step new).sent }) (sym (set_last table new (step new).now))
          ∙ ap (λ (s : Service). step_at (table ++ new ∷ []) (length table) (step s)) (sym is);
    }

-- one case of `withdraw`
abbrev withdraw_case : Tables → Endpoint → Service → NameTable → Bool → Done NameTable
withdraw_case t e s rest b =
    cond b (let r = leave t e s in record { now = r.now ∷ rest; sent = r.sent ++ name_reply_to t e (pos 0 ∷ []) ∷ [] }) (behind s (withdraw t e rest))

-- an endpoint leaves the service at this place
abbrev pub left_at : Tables → Endpoint → NameTable → ℕ → Done Service → Done NameTable
left_at t e table i r = record { now = slice_set table i r.now; sent = r.sent ++ name_reply_to t e (pos 0 ∷ []) ∷ [] }

withdraw_found : (t : Tables) (e : Endpoint) (table : NameTable) (i : ℕ) (d : Service) → i < length table → stands_in e (get_or table i d) ≡ true
    → ((k : ℕ) → k < i → stands_in e (get_or table k d) ≡ false) → withdraw t e table ≡ left_at t e table i (leave t e (get_or table i d))
unfolding withdraw
withdraw_found t e [] i d lt here before = absurd (omega arith)
withdraw_found t e (s ∷ rest) zero d lt here before = ap (withdraw_case t e s rest) here
withdraw_found t e (s ∷ rest) (suc i) d lt here before =
    let first : stands_in e s ≡ false = before 0 (omega arith) in
    let later : i < length rest = omega arith in
    ap (withdraw_case t e s rest) first ∙ ap (behind s) (withdraw_found t e rest i d later here (λ k less. before (suc k) (omega arith)))

-- what a withdrawal does where the endpoint stands in a service
pub withdraw_at : (t : Tables) (e : Endpoint) (table : NameTable) (i : ℕ) (d : Service) → position (stands_in e) table ≡ Some i → withdraw t e table ≡ left_at t e table i (leave t e (get_or table i d))
withdraw_at t e table i d is = let at = position-Some (stands_in e) table i d is in withdraw_found t e table i d at.0 at.1 at.2

withdraw_none : (t : Tables) (e : Endpoint) (table : NameTable) → AllFail (stands_in e) table → withdraw t e table ≡ record { now = table; sent = name_reply_to t e (coded NotRegistered) ∷ [] }
unfolding withdraw
withdraw_none t e [] h = refl
withdraw_none t e (s ∷ rest) h = ap (withdraw_case t e s rest) h.0 ∙ ap (behind s) (withdraw_none t e rest h.1)

-- what a withdrawal does where the endpoint doesn't stand in the table
pub withdraw_nowhere : (t : Tables) (e : Endpoint) (table : NameTable) → position (stands_in e) table ≡ None → withdraw t e table ≡ record { now = table; sent = name_reply_to t e (coded NotRegistered) ∷ [] }
withdraw_nowhere t e table is = withdraw_none t e table (all_fail (stands_in e) table is)
