-- Readers of a list. A reader answers what it read and what is left, or None.
use Rattle.std.specs.Prelude.{◌≡◌, ℕ, zero, suc, List, [], ◌∷◌, length, Bool, true, false, Option, Some, None, option_map, option_and_then, Result, Ok, Err, if◌then◌else◌}
use Rattle.room_tokens.specs.declared.fault.ReadFault.{ReadFault}
use Rattle.room_tokens.specs.declared.fault.ReadFault.TheVariants as faults

-- what was refused can't be read, unless memory ran out
abbrev pub Fails : {Y : Type 0} → ReadFault → Option Y → Type 0
Fails faults.Memory read = Unit {0}
Fails (faults.Syntax at) read = read ≡ None

-- What a function returned, seen by view, is what reading gives, unless memory ran out.
abbrev pub Gives : {X Y : Type 0} → (X → Y) → Result X ReadFault → Option Y → Type 0
Gives view (Ok x) read = read ≡ Some (view x)
Gives view (Err e) read = Fails e read

abbrev pub Reader : Type 0 → Type 0 → Type 0
Reader V A = List V → Option (A × List V)

-- all but the first
abbrev pub rest_of : {V : Type 0} → List V → List V
rest_of [] = []
rest_of (t ∷ ts) = ts

-- the first, if the test says that it comes
unfoldable pub take_if : {V : Type 0} → (List V → Bool) → Reader V (Unit {0})
take_if here ts = if here ts then Some (tt, rest_of ts) else None

-- one reader, and then another
infixr 30 ◌⊕◌
abbrev pub ◌⊕◌ : {V A B : Type 0} → Reader V A → Reader V B → Reader V (A × B)
(p ⊕ q) ts = option_and_then (λ x. option_and_then (λ y. Some ((x.0, y.0), y.1)) (q x.1)) (p ts)

-- one reader that reads nothing of worth, and then another
infixr 30 ◌▹◌
abbrev pub ◌▹◌ : {V B : Type 0} → Reader V (Unit {0}) → Reader V B → Reader V B
(p ▹ q) ts = option_and_then (λ x. q x.1) (p ts)

-- one reader, and then another that reads nothing of worth
infixr 30 ◌◃◌
abbrev pub ◌◃◌ : {V A : Type 0} → Reader V A → Reader V (Unit {0}) → Reader V A
(p ◃ q) ts = option_and_then (λ x. option_map (λ y. (x.0, y.1)) (q x.1)) (p ts)

-- what is read, as another value
abbrev pub reads_as : {V A B : Type 0} → (A → B) → Reader V A → Reader V B
reads_as f p ts = option_map (λ x. (f x.0, x.1)) (p ts)

-- what p reads, if the test says that it comes
unfoldable pub optional : {V A : Type 0} → (List V → Bool) → Reader V A → Reader V (Option A)
optional here p ts = if here ts then reads_as Some p ts else Some (None, ts)

-- whether what p reads comes, as the test says
unfoldable pub flag : {V : Type 0} → (List V → Bool) → Reader V (Unit {0}) → Reader V Bool
flag here p ts = if here ts then reads_as (λ x. true) p ts else Some (false, ts)

-- As often as the test says. The number bounds the turns.
unfoldable pub many : {V A : Type 0} → (List V → Bool) → Reader V A → ℕ → Reader V (List A)
many goes_on p zero ts = None
many goes_on p (suc n) ts = if goes_on ts then reads_as (λ x. x.0 ∷ x.1) (p ⊕ many goes_on p n) ts else Some ([], ts)

-- As often as the test says. Each turn takes something, so the count of the list is always enough.
unfoldable pub all_while : {V A : Type 0} → (List V → Bool) → Reader V A → Reader V (List A)
all_while goes_on p ts = many goes_on p (suc (length ts)) ts

abbrev pub if_last : {V A : Type 0} → A × List V → Option A
if_last (a, []) = Some a
if_last (a, t ∷ ts) = None

-- what p reads, if nothing is left
abbrev pub to_end : {V A : Type 0} → Reader V A → List V → Option A
to_end p ts = option_and_then if_last (p ts)
