-- A class as its actions see it, and as its wiring names it.
use Rattle.std.proofs.Common.{◌≡◌, ◌∙◌, ℕ, suc, ◌+◌, Bool, true, false, cond, List, [], ◌∷◌, length, map, Some, option_map, slice_get, refl, sym, ap, subst, arith}
use Rattle.std.proofs.lemmas.List.{length-map}
use Rattle.std.proofs.lemmas.Option.{none-some, same_Some, slice_get-map}
use Rattle.room_ast.specs.declared.scope.Scope.{Scope}
use Rattle.room_ast.specs.declared.scope.ScopePort.{ScopePort}
use Rattle.room_ast.specs.declared.scope.ScopeReference.{ScopeReference}
use Rattle.room_ast.specs.declared.scope.ScopeSignal.{ScopeSignal}
use Rattle.room_ast.specs.Found.{found_at, found_signal, found_sent, found_received}
use Rattle.room_wiring.specs.declared.names.ClassNames.{ClassNames}
use Rattle.room_wiring.specs.declared.names.PortNames.{PortNames}
use Rattle.room_wiring.specs.declared.names.RefNames.{RefNames}
use Rattle.room_wiring.specs.declared.names.SignalNames.{SignalNames}
use Rattle.check_scopes.specs.class_scopes.Views.{signal_view}
use Rattle.wiring_plan.specs.wiring_classes.Parts.{labelled}
use Rattle.law_models.specs.class_laws.Programs.{IsNumbered, going, first_going, coming, first_coming}

-- a message as the wiring names it
abbrev pub as_wired : ScopeSignal → SignalNames
as_wired s = labelled (signal_view s)

-- a port that actions see is this one of the wiring
pub record IsPortOf (p : ScopePort) (x : PortNames) : Type 0 where
  pub kind : p.kind ≡ x.kind
  pub conjugated : p.conjugated ≡ x.conjugated
  pub incoming : x.incoming ≡ map as_wired p.incoming
  pub outgoing : x.outgoing ≡ map as_wired p.outgoing

-- what actions see of a class, number by number, is what the wiring names of it
pub record IsScopeOf (scope : Scope) (c : ClassNames) : Type 0 where
  pub ports : (k : ℕ) (p : ScopePort) → slice_get scope.ports.items k ≡ Some p
      → (x : PortNames) × (slice_get c.ports k ≡ Some x) × IsPortOf p x
  pub references : (k : ℕ) (r : ScopeReference) → slice_get scope.references.items k ≡ Some r
      → (x : RefNames) × (slice_get c.references k ≡ Some x) × (r.kind ≡ x.kind)

-- ---- what is found has its number

pub found_place : {A : Type 0} (passes : A → Bool) (k : ℕ) (xs : List A) (r : ℕ × A) → found_at passes k xs ≡ Some r
    → (i : ℕ) × (r.0 ≡ k + i) × (slice_get xs i ≡ Some r.1)
found_place passes k [] r e = absurd (none-some r e)
found_place {A} passes k (y ∷ ys) r e = pick (λ h. found_place passes (k + 1) ys r h) (passes y) e
  where
    pick : (found_at passes (k + 1) ys ≡ Some r → (i : ℕ) × (r.0 ≡ (k + 1) + i) × (slice_get ys i ≡ Some r.1))
        → (b : Bool) → cond b (Some (k, y)) (found_at passes (k + 1) ys) ≡ Some r
        → (i : ℕ) × (r.0 ≡ k + i) × (slice_get (y ∷ ys) i ≡ Some r.1)
    pick later true h =
        let same : (k, y) ≡ r = same_Some (k, y) r h in
        let number : k ≡ r.0 = ap (λ (q : ℕ × A). q.0) same in
        (0, omega (arith, number), ap (λ (q : ℕ × A). Some q.1) same)
    pick later false h =
        let more = later h in
        let number = more.1 in
        (suc more.0, omega (arith, number), more.2)

pub found_number : {A : Type 0} (passes : A → Bool) (xs : List A) (r : ℕ × A) → found_at passes 0 xs ≡ Some r → slice_get xs r.0 ≡ Some r.1
found_number passes xs r e =
    let place = found_place passes 0 xs r e in
    let number = place.1 in
    let is : place.0 ≡ r.0 = omega (arith, number) in
    subst (λ k. slice_get xs k ≡ Some r.1) is place.2

-- ---- messages

-- a message that is found among those of a port, as the wiring names it
IsFoundAs : ℕ → List SignalNames → ℕ × ScopeSignal → Type 0
IsFoundAs first messages m = (y : SignalNames) × IsNumbered first messages m.0 y × (length m.1.numbers.items ≡ length y.numbers)

message_found : (first : ℕ) (ss : List ScopeSignal) (messages : List SignalNames) (name : List ℕ) (m : ℕ × ScopeSignal) → messages ≡ map as_wired ss
    → found_signal first ss name ≡ Some m → IsFoundAs first messages m
unfolding IsFoundAs
message_found first ss messages name m is e =
    let place = found_place _ first ss m e in
    let there : slice_get messages place.0 ≡ Some (as_wired m.1) =
    subst (λ ys. slice_get ys place.0 ≡ Some (as_wired m.1)) (sym is) (slice_get-map as_wired ss place.0 ∙ ap (option_map as_wired) place.2) in
    (as_wired m.1, record { place = place.0; is = there; number_is = place.1 }, refl)

as_many : (ss : List ScopeSignal) (messages : List SignalNames) → messages ≡ map as_wired ss → length ss ≡ length messages
as_many ss messages is = sym (ap length is ∙ length-map ss as_wired)

-- a message that goes out
pub sent_found : (p : ScopePort) (x : PortNames) → IsPortOf p x → (name : List ℕ) (m : ℕ × ScopeSignal) → found_sent p name ≡ Some m
    → (y : SignalNames) × IsNumbered (first_going x) (going x) m.0 y × (length m.1.numbers.items ≡ length y.numbers)
unfolding IsFoundAs
sent_found p x is name m e =
    split x.conjugated (subst (λ b. cond b (found_signal 0 p.incoming name) (found_signal (length p.incoming) p.outgoing name) ≡ Some m) is.conjugated e)
  where
    split : (b : Bool) → cond b (found_signal 0 p.incoming name) (found_signal (length p.incoming) p.outgoing name) ≡ Some m
        → IsFoundAs (cond b 0 (length x.incoming)) (cond b x.incoming x.outgoing) m
    split true h = message_found 0 p.incoming x.incoming name m is.incoming h
    split false h =
        message_found (length x.incoming) p.outgoing x.outgoing name m is.outgoing
        (subst (λ k. found_signal k p.outgoing name ≡ Some m) (as_many p.incoming x.incoming is.incoming) h)

-- a message that comes in
pub received_found : (p : ScopePort) (x : PortNames) → IsPortOf p x → (name : List ℕ) (m : ℕ × ScopeSignal) → found_received p name ≡ Some m
    → (y : SignalNames) × IsNumbered (first_coming x) (coming x) m.0 y × (length m.1.numbers.items ≡ length y.numbers)
unfolding IsFoundAs
received_found p x is name m e =
    split x.conjugated (subst (λ b. cond b (found_signal (length p.incoming) p.outgoing name) (found_signal 0 p.incoming name) ≡ Some m) is.conjugated e)
  where
    split : (b : Bool) → cond b (found_signal (length p.incoming) p.outgoing name) (found_signal 0 p.incoming name) ≡ Some m
        → IsFoundAs (cond b (length x.incoming) 0) (cond b x.outgoing x.incoming) m
    split true h =
        message_found (length x.incoming) p.outgoing x.outgoing name m is.outgoing
        (subst (λ k. found_signal k p.outgoing name ≡ Some m) (as_many p.incoming x.incoming is.incoming) h)
    split false h = message_found 0 p.incoming x.incoming name m is.incoming h
