-- From row to row: what each step of an import place or of its home makes of the row in which they stand.
use Rattle.std.proofs.Common.{◌≡◌, ℕ, zero, suc, ◌+◌, ◌≤◌, List, [], ◌∷◌, ◌++◌, refl, arith}
use Rattle.room_kinds.specs.declared.system.SysKind.{SysKind}
use Rattle.room_kinds.specs.declared.system.SysKind.TheVariants as kinds
use Rattle.law_agreement.specs.Loans.{Side, Unmade, Apart, Asks, Holds, Leaves, Over, Row, unmade, apart, asked, granted, granted_bereft, refused, held, held_bereft, leaves, leaves_unplugged, leaves_bereft, left, left_bereft, over, over_asked, over_plugged, over_unplugged}

-- so many times
abbrev pub times : {X : Type 0} → ℕ → List X → List X
times zero xs = []
times (suc n) xs = xs ++ times n xs

-- a pair whose container comes up
pub row_made : {forth back : List SysKind} {n : ℕ} → Row Unmade forth back n → Row Apart forth back n
row_made unmade = apart

-- a place that asks for the home, or gives it back
pub row_asks : {forth back : List SysKind} {n : ℕ} → Row Apart forth back n → Row Asks (forth ++ kinds.Import ∷ []) back n
row_asks apart = asked

pub row_leaves : {forth back : List SysKind} {n : ℕ} → Row Holds forth back n → Row Leaves (forth ++ kinds.Deport ∷ []) back n
row_leaves held = leaves
row_leaves held_bereft = leaves_bereft

-- a place whose container ends
pub row_apart_ends : {forth back : List SysKind} {n : ℕ} → Row Apart forth back n → Row Over forth back n
row_apart_ends apart = over []

pub row_leaves_ends : {forth back : List SysKind} {n : ℕ} → Row Leaves forth back n → Row Over forth back n
row_leaves_ends leaves = over_plugged []
row_leaves_ends leaves_unplugged = over_unplugged []
row_leaves_ends leaves_bereft = over_unplugged _
row_leaves_ends left = over _
row_leaves_ends left_bereft = over _

pub row_asks_ends : {forth back : List SysKind} {n : ℕ} → Row Asks forth back n → Row Over (forth ++ kinds.Deport ∷ []) back n
row_asks_ends asked = over_asked []
row_asks_ends granted = over_plugged _
row_asks_ends granted_bereft = over_unplugged _
row_asks_ends refused = over_unplugged _

pub row_holds_ends : {forth back : List SysKind} {n : ℕ} → Row Holds forth back n → Row Over (forth ++ kinds.Deport ∷ []) back n
row_holds_ends held = over_plugged []
row_holds_ends held_bereft = over_unplugged _

-- a place that hears an answer; where it isn't the one that the place waits for, the container has ended
pub row_granted : {forth back : List SysKind} {n : ℕ} → Row Asks forth (kinds.ImportDone ∷ back) n → Row Holds forth back n
row_granted granted = held
row_granted granted_bereft = held_bereft

pub row_refused : {forth back : List SysKind} {n : ℕ} → Row Asks forth (kinds.ImportRefused ∷ back) n → Row Apart forth back n
row_refused refused = apart

pub row_bereft : {forth back : List SysKind} {n : ℕ} → Row Holds forth (kinds.ImportEnded ∷ back) n → Row Apart forth back n
row_bereft held_bereft = apart

pub row_freed : {forth back : List SysKind} {n : ℕ} → Row Leaves forth (kinds.DeportDone ∷ back) n → Row Apart forth back n
row_freed left = apart

row_over : {x : SysKind} {forth back : List SysKind} {n : ℕ} → Row Over forth (x ∷ back) n → Row Over forth back n
row_over (over (x ∷ back)) = over back
row_over (over_asked (x ∷ back)) = over_asked back
row_over (over_plugged (x ∷ back)) = over_plugged back
row_over (over_unplugged (x ∷ back)) = over_unplugged back

pub row_not_granted : (a : Side) {forth back : List SysKind} {n : ℕ} → (a ≡ Asks → ⊥) → Row a forth (kinds.ImportDone ∷ back) n → Row a forth back n
row_not_granted Asks other r = absurd (other refl)
row_not_granted Over other r = row_over r
row_not_granted Unmade other r = elim r [ ]
row_not_granted Apart other r = elim r [ ]
row_not_granted Holds other r = elim r [ ]
row_not_granted Leaves other r = elim r [ ]

pub row_not_refused : (a : Side) {forth back : List SysKind} {n : ℕ} → (a ≡ Asks → ⊥) → Row a forth (kinds.ImportRefused ∷ back) n
    → Row a forth back n
row_not_refused Asks other r = absurd (other refl)
row_not_refused Over other r = row_over r
row_not_refused Unmade other r = elim r [ ]
row_not_refused Apart other r = elim r [ ]
row_not_refused Holds other r = elim r [ ]
row_not_refused Leaves other r = elim r [ ]

pub row_not_bereft : (a : Side) {forth back : List SysKind} {n : ℕ} → (a ≡ Holds → ⊥) → Row a forth (kinds.ImportEnded ∷ back) n → Row a forth back n
row_not_bereft Holds other r = absurd (other refl)
row_not_bereft Over other r = row_over r
row_not_bereft Leaves other leaves_bereft = leaves_unplugged
row_not_bereft Leaves other left_bereft = left
row_not_bereft Unmade other r = elim r [ ]
row_not_bereft Apart other r = elim r [ ]
row_not_bereft Asks other r = elim r [ ]

pub row_not_freed : (a : Side) {forth back : List SysKind} {n : ℕ} → (a ≡ Leaves → ⊥) → Row a forth (kinds.DeportDone ∷ back) n → Row a forth back n
row_not_freed Leaves other r = absurd (other refl)
row_not_freed Over other r = row_over r
row_not_freed Unmade other r = elim r [ ]
row_not_freed Apart other r = elim r [ ]
row_not_freed Asks other r = elim r [ ]
row_not_freed Holds other r = elim r [ ]

-- a home that refuses a place, or grants what it asks
pub row_denies : {a : Side} {forth back : List SysKind} {n : ℕ} → Row a (kinds.Import ∷ forth) back n
    → Row a forth (back ++ kinds.ImportRefused ∷ []) n
row_denies asked = refused
row_denies (over_asked back) = over_unplugged (back ++ kinds.ImportRefused ∷ [])

pub row_grants : {a : Side} {forth back : List SysKind} {n : ℕ} → Row a (kinds.Import ∷ forth) back n
    → Row a forth (back ++ kinds.ImportDone ∷ []) (n + 1)
row_grants asked = granted
row_grants (over_asked back) = over_plugged (back ++ kinds.ImportDone ∷ [])

-- a home that is given back
pub row_frees : {a : Side} {forth back : List SysKind} {n : ℕ} → Row a (kinds.Deport ∷ forth) back n → Row a forth (back ++ kinds.DeportDone ∷ []) 0
row_frees leaves = left
row_frees leaves_unplugged = left
row_frees leaves_bereft = left_bereft
row_frees (over_plugged back) = over (back ++ kinds.DeportDone ∷ [])
row_frees (over_unplugged back) = over (back ++ kinds.DeportDone ∷ [])

-- a home that ends
pub row_bereaves : {a : Side} {forth back : List SysKind} {n : ℕ} → Row a forth back n → Row a forth (back ++ times n (kinds.ImportEnded ∷ [])) 0
row_bereaves unmade = unmade
row_bereaves apart = apart
row_bereaves asked = asked
row_bereaves granted = granted_bereft
row_bereaves granted_bereft = granted_bereft
row_bereaves refused = refused
row_bereaves held = held_bereft
row_bereaves held_bereft = held_bereft
row_bereaves leaves = leaves_bereft
row_bereaves leaves_unplugged = leaves_unplugged
row_bereaves leaves_bereft = leaves_bereft
row_bereaves left = left
row_bereaves left_bereft = left_bereft
row_bereaves (over back) = over (back ++ [])
row_bereaves (over_asked back) = over_asked (back ++ [])
row_bereaves (over_plugged back) = over_unplugged (back ++ kinds.ImportEnded ∷ [])
row_bereaves (over_unplugged back) = over_unplugged (back ++ [])

-- a place is at most once among the plugs of a home
pub row_once : {a : Side} {forth back : List SysKind} {n : ℕ} → Row a forth back n → n ≤ 1
row_once unmade = omega arith
row_once apart = omega arith
row_once asked = omega arith
row_once granted = omega arith
row_once granted_bereft = omega arith
row_once refused = omega arith
row_once held = omega arith
row_once held_bereft = omega arith
row_once leaves = omega arith
row_once leaves_unplugged = omega arith
row_once leaves_bereft = omega arith
row_once left = omega arith
row_once left_bereft = omega arith
row_once (over back) = omega arith
row_once (over_asked back) = omega arith
row_once (over_plugged back) = omega arith
row_once (over_unplugged back) = omega arith

-- where nothing is on its way, a place among the plugs holds the home, and a place that holds it is among them
pub row_quiet_plugged : {a : Side} {n : ℕ} → Row a [] [] n → 1 ≤ n → a ≡ Holds
row_quiet_plugged held h = refl
row_quiet_plugged unmade h = absurd (omega (arith, h))
row_quiet_plugged apart h = absurd (omega (arith, h))
row_quiet_plugged (over []) h = absurd (omega (arith, h))

pub row_quiet_held : {n : ℕ} → Row Holds [] [] n → n ≡ 1
row_quiet_held held = refl
