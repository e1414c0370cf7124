-- What an actor that ends withdraws, port by port.
use Rattle.std.proofs.Common.{◌≡◌, ℕ, zero, suc, ◌+◌, ◌-◌, ◌<◌, ◌≤◌, Bool, true, false, cond, List, [], ◌∷◌, ◌++◌, length, get_or, map, filter, refl, sym, ap, ◌∙◌, append_assoc, min, ◌⊎◌, inl, inr, arith}
use Rattle.std.specs.List.{range_with_len}
use Rattle.std.proofs.lemmas.Bool.{cases_lt}
use Rattle.std.proofs.lemmas.List.{get_or_past}
use Rattle.room_kinds.specs.declared.message.Msg.{Msg}
use Rattle.room_kinds.specs.declared.numbers.Incarnation.{Incarnation}
use Rattle.room_kinds.specs.declared.system.SysKind.TheVariants as kinds
use Rattle.actor_duties.specs.Messages.{system}
use Rattle.actor_duties.specs.Links.{point_of, is_entered}
use Rattle.layer_service.specs.layer_links.Kept.{PointState, unnamed, point_at, points_of, point_in, withdrawals}
use Rattle.layer_service.proofs.layer_links.ByPort.{read_points}

-- the message of one port
abbrev pub withdraw_of : ℕ → Incarnation → ℕ → Msg
withdraw_of me actor port = system me 0 kinds.Withdraw (point_of actor port) (point_of actor port) []

-- the messages of the ports from one on are that port's and those of the others
pub next_port : (me : ℕ) (actor : Incarnation) (point : ℕ → PointState) (from ports : ℕ) → from < ports
    → withdrawals me actor point (range_with_len from (ports - from))
    ≡ cond (is_entered (point from).registration) (withdraw_of me actor from ∷ []) [] ++ withdrawals me actor point (range_with_len (from + 1) (ports - (from + 1)))
unfolding withdrawals
next_port me actor point from ports lt =
    let more : ports - from ≡ suc (ports - (from + 1)) = omega arith in
    ap (λ (n : ℕ). withdrawals me actor point (range_with_len from n)) more ∙ go (is_entered (point from).registration)
  where
    rest : List ℕ
    rest = range_with_len (from + 1) (ports - (from + 1))

    entered : ℕ → Bool
    entered port = is_entered (point port).registration

    go : (b : Bool) → map (withdraw_of me actor) (cond b (from ∷ filter entered rest) (filter entered rest)) ≡ cond b (withdraw_of me actor from ∷ []) [] ++ map (withdraw_of me actor) (filter entered rest)
    go true = refl
    go false = refl

-- nothing is withdrawn at ports that aren't listed
pub none_beyond : (me : ℕ) (actor : Incarnation) (points : List PointState) (from n : ℕ) → length points ≤ from → withdrawals me actor (point_at points) (range_with_len from n) ≡ []
unfolding withdrawals point_at
none_beyond me actor points from zero past = refl
none_beyond me actor points from (suc n) past =
    let entered : ℕ → Bool = λ port. is_entered (point_at points port).registration in
    let rest : List ℕ = filter entered (range_with_len (from + 1) n) in
    ap (λ (x : PointState). map (withdraw_of me actor) (cond (is_entered x.registration) (from ∷ rest) rest)) (get_or_past points from unnamed past)
    ∙ none_beyond me actor points (from + 1) n (omega arith)

-- a port is done with: its message was sent, if it is to be withdrawn
pub port_done : (me : ℕ) (actor : Incarnation) (point : ℕ → PointState) (from ports : ℕ) (before out new : List Msg) (entered : Bool) → from < ports → is_entered (point from).registration ≡ entered
    → new ≡ out ++ cond entered (withdraw_of me actor from ∷ []) []
    → before ≡ out ++ withdrawals me actor point (range_with_len from (ports - from))
    → before ≡ new ++ withdrawals me actor point (range_with_len (from + 1) (ports - (from + 1)))
port_done me actor point from ports before out new entered lt is sent so_far =
    let rest : List Msg = withdrawals me actor point (range_with_len (from + 1) (ports - (from + 1))) in
    so_far
    ∙ ap (λ (ms : List Msg). out ++ ms) (next_port me actor point from ports lt ∙ ap (λ (b : Bool). cond b (withdraw_of me actor from ∷ []) [] ++ rest) is)
    ∙ sym (append_assoc out (cond entered (withdraw_of me actor from ∷ []) []) rest)
    ∙ ap (λ (ms : List Msg). ms ++ rest) (sym sent)

-- nothing is left where the ports, or those that are listed, are through
pub none_left : (me : ℕ) (actor : Incarnation) (points : List PointState) (from ports : ℕ) → min ports (length points) ≤ from → withdrawals me actor (point_at points) (range_with_len from (ports - from)) ≡ []
unfolding withdrawals
none_left me actor points from ports through = go (cases_lt from ports)
  where
    go : ((from < ports) ⊎ (ports ≤ from)) → withdrawals me actor (point_at points) (range_with_len from (ports - from)) ≡ []
    go (inl lt) = none_beyond me actor points from (ports - from) (omega arith)
    go (inr ge) = let none : ports - from ≡ 0 = omega arith in ap (λ (n : ℕ). withdrawals me actor (point_at points) (range_with_len from n)) none

-- nothing is withdrawn of a slot that isn't listed
pub none_listed : (me : ℕ) (actor : Incarnation) (slots : List (List PointState)) (s n : ℕ) → length slots ≤ s → withdrawals me actor (point_in slots s) (range_with_len 0 n) ≡ []
unfolding point_in points_of
none_listed me actor slots s n past =
    ap (λ (points : List PointState). withdrawals me actor (point_at points) (range_with_len 0 n)) (get_or_past slots s [] past) ∙ none_beyond me actor [] 0 n (omega arith)

-- what is withdrawn of a slot whose points are read
pub listed_withdrawn : (me : ℕ) (actor : Incarnation) (slots : List (List PointState)) (s n : ℕ) (points : List PointState) → s < length slots → points ≡ get_or slots s points
    → withdrawals me actor (point_at points) (range_with_len 0 n) ≡ withdrawals me actor (point_in slots s) (range_with_len 0 n)
unfolding point_in
listed_withdrawn me actor slots s n points lt is =
    ap (λ (x : List PointState). withdrawals me actor (point_at x) (range_with_len 0 n)) (read_points slots s points lt is)
