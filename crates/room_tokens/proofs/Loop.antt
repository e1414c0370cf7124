-- A loop that reads as often as a test says, its turns counted down.
use Rattle.std.proofs.Common.{◌≡◌, ℕ, zero, suc, ◌+◌, ◌-◌, ◌<◌, Bool, true, false, List, [], ◌∷◌, ◌++◌, length, Option, Some, None, refl, sym, ap, ◌∙◌, append_assoc, append-nil, add-one, arith}
use Rattle.std.specs.Prelude.{option_map, option_and_then}
use Rattle.room_tokens.specs.Reader.{Reader, Fails, many, all_while}
use Rattle.room_tokens.specs.declared.fault.ReadFault.{ReadFault}
use Rattle.room_tokens.specs.declared.fault.ReadFault.TheVariants as faults

-- what is read, behind what was read before
abbrev pub with_front : {V A : Type 0} → List A → Option (List A × List V) → Option (List A × List V)
with_front front r = option_map (λ x. (front ++ x.0, x.1)) r

with_none : {V A : Type 0} (r : Option (List A × List V)) → with_front [] r ≡ r
with_none None = refl
with_none (Some x) = refl

regroup : {V A : Type 0} (front : List A) (x : A) (r : Option (List A × List V))
    → with_front front (option_map (λ (z : (A × List A) × List V). (z.0.0 ∷ z.0.1, z.1)) (option_and_then (λ (y : List A × List V). Some ((x, y.0), y.1)) r)) ≡ with_front (front ++ x ∷ []) r
regroup front x None = refl
regroup front x (Some y) = ap (λ xs. Some (xs, y.1)) (sym (append_assoc front (x ∷ []) y.0))

-- before the first turn
pub starts : {V A : Type 0} (goes_on : List V → Bool) (p : Reader V A) (ts : List V) → with_front [] (many goes_on p (length ts + 1) ts) ≡ all_while goes_on p ts
unfolding all_while
starts goes_on p ts = rw add-one (with_none (many goes_on p (suc (length ts)) ts))

-- a turn
pub goes : {V A : Type 0} (front : List A) (goes_on : List V → Bool) (p : Reader V A) (n : ℕ) (ts : List V) (x : A) (rest : List V) (total : Option (List A × List V))
    → 0 < n → goes_on ts ≡ true → p ts ≡ Some (x, rest) → with_front front (many goes_on p (n + 1) ts) ≡ total → with_front (front ++ x ∷ []) (many goes_on p (n - 1 + 1) rest) ≡ total
unfolding many
goes front goes_on p zero ts x rest total some on h so_far = absurd (omega arith)
goes {V = V} {A = A} front goes_on p (suc n) ts x rest total some on h so_far =
    let more : suc n + 1 ≡ suc (suc n) = omega arith in
    let less : suc n - 1 + 1 ≡ suc n = omega arith in
    let one : with_front front (many goes_on p (suc (suc n)) ts) ≡ with_front (front ++ x ∷ []) (many goes_on p (suc n) rest) = rw (on, h) (regroup front x (many goes_on p (suc n) rest)) in
    rw less (sym one ∙ (rw more at so_far))

-- a turn that fails
pub ends : {V A : Type 0} (e : ReadFault) (front : List A) (goes_on : List V → Bool) (p : Reader V A) (n : ℕ) (ts : List V) (total : Option (List A × List V))
    → goes_on ts ≡ true → Fails e (p ts) → with_front front (many goes_on p (n + 1) ts) ≡ total → Fails e total
unfolding many
ends faults.Memory front goes_on p n ts total on h so_far = tt
ends (faults.Syntax at) front goes_on p n ts total on h so_far =
    let one : with_front front (many goes_on p (n + 1) ts) ≡ None = rw (add-one, on, h) refl in
    sym so_far ∙ one

nothing_behind : {V A : Type 0} (p : Option (A × List V)) → option_and_then {U = (A × List A) × List V} (λ (x : A × List V). option_and_then {U = (A × List A) × List V} (λ (y : List A × List V). Some ((x.0, y.0), y.1)) None) p ≡ None
nothing_behind None = refl
nothing_behind (Some x) = refl

-- no turn is left
pub exhausted : {V A : Type 0} (front : List A) (goes_on : List V → Bool) (p : Reader V A) (n : ℕ) (ts : List V) (total : Option (List A × List V))
    → n ≡ 0 → goes_on ts ≡ true → with_front front (many goes_on p (n + 1) ts) ≡ total → total ≡ None
unfolding many
exhausted front goes_on p n ts total none on so_far =
    let one : with_front front (many goes_on p (n + 1) ts) ≡ None = rw (none, on, nothing_behind (p ts)) refl in
    sym so_far ∙ one

-- the end
pub is_done : {V A : Type 0} (front : List A) (goes_on : List V → Bool) (p : Reader V A) (n : ℕ) (ts : List V) (total : Option (List A × List V))
    → goes_on ts ≡ false → with_front front (many goes_on p (n + 1) ts) ≡ total → total ≡ Some (front, ts)
unfolding many
is_done front goes_on p n ts total off so_far =
    let one : with_front front (many goes_on p (n + 1) ts) ≡ Some (front, ts) = rw (add-one, off) (ap (λ xs. Some (xs, ts)) (append-nil front)) in
    sym so_far ∙ one
