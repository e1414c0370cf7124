-- What the name table, the owner of a service point and a reply do to the rows of an endpoint.
use Rattle.std.proofs.Common.{◌≡◌, ℕ, ◌+◌, ◌≤◌, ◌==◌, ◌⊎◌, inl, inr, Bool, true, false, if◌then◌else◌, List, [], ◌∷◌, ◌++◌, sym, ap, ◌∙◌, subst, append-nil, append_assoc, arith}
use Rattle.room_kinds.specs.declared.system.SysKind.{SysKind}
use Rattle.room_kinds.specs.declared.system.SysKind.TheVariants as kinds
use Rattle.actor_duties.specs.State.{Registration, Unnamed, Asked, Registered, Leaving}
use Rattle.actor_duties.specs.Links.{is_entered}
use Rattle.law_names.specs.Registrations.{Stage, NotYet, Over, Now, IsRow}

-- from one stage to another, asking these, an endpoint stays in a row
abbrev pub KeepsRow : Stage → List SysKind → Stage → Type 0
KeepsRow a asks b = (forth : List SysKind) (n : ℕ) (back : List ℕ) → IsRow a forth n back → IsRow b (forth ++ asks) n back

pub keeps_none : (a : Stage) → KeepsRow a [] a
keeps_none a forth n back h = subst (λ z. IsRow a z n back) (sym (append-nil forth)) h

pub keeps_two : (a b c : Stage) (x y : List SysKind) → KeepsRow a x b → KeepsRow b y c → KeepsRow a (x ++ y) c
keeps_two a b c x y h k forth n back r = subst (λ z. IsRow c z n back) (append_assoc forth x y) (k (forth ++ x) n back (h forth n back r))

pub keeps_same : (a b : Stage) → a ≡ b → KeepsRow a [] b
keeps_same a b e = subst (λ (z : Stage). KeepsRow a [] z) e (keeps_none a)

-- an actor comes up
pub keeps_begin : KeepsRow NotYet [] (Now Unnamed)
keeps_begin forth n back h = (append-nil forth ∙ h.0, h.1, h.2)

-- it asks to be registered, or to be withdrawn
pub keeps_asked : KeepsRow (Now Unnamed) (kinds.Register ∷ []) (Now Asked)
keeps_asked forth n back h = inl (ap (λ (z : List SysKind). z ++ kinds.Register ∷ []) h.0, h.1, h.2)

pub keeps_leaving : KeepsRow (Now Registered) (kinds.Withdraw ∷ []) (Now Leaving)
keeps_leaving forth n back h = inl (ap (λ (z : List SysKind). z ++ kinds.Withdraw ∷ []) h.0, h.1, h.2)

-- an actor ends, and what is registered or asked for is withdrawn
pub keeps_end : (r : Registration) → KeepsRow (Now r) (if is_entered r then kinds.Withdraw ∷ [] else []) Over
keeps_end Unnamed forth n back h = inl (append-nil forth ∙ h.0, h.1)
keeps_end Registered forth n back h = inr (inl (ap (λ (z : List SysKind). z ++ kinds.Withdraw ∷ []) h.0, omega (arith, h.1)))
keeps_end Asked forth n back (inl h) = inr (inr (ap (λ (z : List SysKind). z ++ kinds.Withdraw ∷ []) h.0, h.1))
keeps_end Asked forth n back (inr (inl h)) = inr (inl (ap (λ (z : List SysKind). z ++ kinds.Withdraw ∷ []) h.0, omega (arith, h.1)))
keeps_end Asked forth n back (inr (inr h)) = inr (inl (ap (λ (z : List SysKind). z ++ kinds.Withdraw ∷ []) h.0, omega (arith, h.1)))
keeps_end Leaving forth n back (inl h) = inr (inl (append-nil forth ∙ h.0, omega (arith, h.1)))
keeps_end Leaving forth n back (inr h) = inl (append-nil forth ∙ h.0, h.1)

-- a registration after a reply with this code
abbrev pub asked_after : Bool → Bool → Registration
asked_after true refused = Registered
asked_after false true = Unnamed
asked_after false false = Asked

abbrev pub after_reply : Registration → ℕ → Registration
after_reply Asked code = asked_after (code == 0) (code == 8)
after_reply Leaving code = Unnamed
after_reply Unnamed code = Unnamed
after_reply Registered code = Registered

abbrev pub stage_after : Stage → ℕ → Stage
stage_after NotYet code = NotYet
stage_after Over code = Over
stage_after (Now r) code = Now (after_reply r code)

-- a reply at the front of what is back comes to its endpoint
pub row_replied : (a : Stage) (forth : List SysKind) (n : ℕ) (code : ℕ) (back : List ℕ) → IsRow a forth n (code ∷ back) → IsRow (stage_after a code) forth n back
row_replied NotYet forth n code back h = (let q : code ∷ back ≡ [] = h.2 in absurd cc)
row_replied Over forth n code back (inl h) = inl h
row_replied Over forth n code back (inr (inl h)) = inr (inl h)
row_replied Over forth n code back (inr (inr h)) = inr (inr h)
row_replied (Now Unnamed) forth n code back h = (let q : code ∷ back ≡ [] = h.2 in absurd cc)
row_replied (Now Registered) forth n code back h = (let q : code ∷ back ≡ [] = h.2 in absurd cc)
row_replied (Now Asked) forth n code back (inl h) = (let q : code ∷ back ≡ [] = h.2 in absurd cc)
row_replied (Now Asked) forth n code back (inr (inl h)) =
    let q : code ∷ back ≡ 0 ∷ [] = h.2 in
    let first : code ≡ 0 = cc in
    let rest : back ≡ [] = cc in
    subst (λ c. IsRow (stage_after (Now Asked) c) forth n back) (sym first) (h.0, h.1, rest)
row_replied (Now Asked) forth n code back (inr (inr h)) =
    let q : code ∷ back ≡ 8 ∷ [] = h.2 in
    let first : code ≡ 8 = cc in
    let rest : back ≡ [] = cc in
    subst (λ c. IsRow (stage_after (Now Asked) c) forth n back) (sym first) (h.0, h.1, rest)
row_replied (Now Leaving) forth n code back (inl h) = (let q : code ∷ back ≡ [] = h.2 in absurd cc)
row_replied (Now Leaving) forth n code back (inr h) =
    let q : code ∷ back ≡ 0 ∷ [] = h.2 in
    let rest : back ≡ [] = cc in
    (h.0, h.1, rest)

-- what the name table makes of what an endpoint asks: with a 0 it stands once more, with an 8 it doesn't;
-- when it is withdrawn it stands no more, with a 0 if it stood
abbrev pub TableStep : List SysKind → ℕ → List ℕ → ℕ → Type 0
TableStep [] n codes next = (codes ≡ []) × (next ≡ n)
TableStep (kinds.Register ∷ []) n codes next = ((codes ≡ 0 ∷ []) × (next ≡ n + 1)) ⊎ ((codes ≡ 8 ∷ []) × (next ≡ n))
TableStep (kinds.Withdraw ∷ []) n codes next = n ≤ 1 → (next ≡ 0) × ((code : ℕ) × (codes ≡ code ∷ []) × (n ≡ 1 → code ≡ 0))
TableStep (kind ∷ rest) n codes next = ⊥

-- where it asks, an endpoint is a point
pub asks_known : (kind : SysKind) (more : List SysKind) (n : ℕ) (back : List ℕ) → IsRow NotYet (kind ∷ more) n back → ⊥
asks_known kind more n back h = (let q : kind ∷ more ≡ [] = h.0 in absurd cc)

-- a Register comes to the table
row_registered : (a : Stage) (forth : List SysKind) (n : ℕ) (back : List ℕ) (codes : List ℕ) (next : ℕ) → IsRow a (kinds.Register ∷ forth) n back
    → TableStep (kinds.Register ∷ []) n codes next → IsRow a forth next (back ++ codes)
row_registered NotYet forth n back codes next h k = (let q : kinds.Register ∷ forth ≡ [] = h.0 in absurd cc)
row_registered (Now Unnamed) forth n back codes next h k = (let q : kinds.Register ∷ forth ≡ [] = h.0 in absurd cc)
row_registered (Now Registered) forth n back codes next h k = (let q : kinds.Register ∷ forth ≡ [] = h.0 in absurd cc)
row_registered (Now Leaving) forth n back codes next (inl h) k = (let q : kinds.Register ∷ forth ≡ kinds.Withdraw ∷ [] = h.0 in absurd cc)
row_registered (Now Leaving) forth n back codes next (inr h) k = (let q : kinds.Register ∷ forth ≡ [] = h.0 in absurd cc)
row_registered (Now Asked) forth n back codes next (inr (inl h)) k = (let q : kinds.Register ∷ forth ≡ [] = h.0 in absurd cc)
row_registered (Now Asked) forth n back codes next (inr (inr h)) k = (let q : kinds.Register ∷ forth ≡ [] = h.0 in absurd cc)
row_registered (Now Asked) forth n back codes next (inl h) (inl k) =
    let q : kinds.Register ∷ forth ≡ kinds.Register ∷ [] = h.0 in
    inr (inl (cc, k.1 ∙ ap (λ z. z + 1) h.1, ap (λ (z : List ℕ). z ++ codes) h.2 ∙ k.0))
row_registered (Now Asked) forth n back codes next (inl h) (inr k) =
    let q : kinds.Register ∷ forth ≡ kinds.Register ∷ [] = h.0 in
    inr (inr (cc, k.1 ∙ h.1, ap (λ (z : List ℕ). z ++ codes) h.2 ∙ k.0))
row_registered Over forth n back codes next (inl h) k = (let q : kinds.Register ∷ forth ≡ [] = h.0 in absurd cc)
row_registered Over forth n back codes next (inr (inl h)) k = (let q : kinds.Register ∷ forth ≡ kinds.Withdraw ∷ [] = h.0 in absurd cc)
row_registered Over forth n back codes next (inr (inr h)) (inl k) =
    let q : kinds.Register ∷ forth ≡ kinds.Register ∷ (kinds.Withdraw ∷ []) = h.0 in
    inr (inl (cc, omega (arith, h.1, k.1)))
row_registered Over forth n back codes next (inr (inr h)) (inr k) =
    let q : kinds.Register ∷ forth ≡ kinds.Register ∷ (kinds.Withdraw ∷ []) = h.0 in
    inr (inl (cc, omega (arith, h.1, k.1)))

-- a Withdraw does
row_withdrawn : (a : Stage) (forth : List SysKind) (n : ℕ) (back : List ℕ) (codes : List ℕ) (next : ℕ) → IsRow a (kinds.Withdraw ∷ forth) n back
    → TableStep (kinds.Withdraw ∷ []) n codes next → IsRow a forth next (back ++ codes)
row_withdrawn NotYet forth n back codes next h k = (let q : kinds.Withdraw ∷ forth ≡ [] = h.0 in absurd cc)
row_withdrawn (Now Unnamed) forth n back codes next h k = (let q : kinds.Withdraw ∷ forth ≡ [] = h.0 in absurd cc)
row_withdrawn (Now Registered) forth n back codes next h k = (let q : kinds.Withdraw ∷ forth ≡ [] = h.0 in absurd cc)
row_withdrawn (Now Asked) forth n back codes next (inl h) k = (let q : kinds.Withdraw ∷ forth ≡ kinds.Register ∷ [] = h.0 in absurd cc)
row_withdrawn (Now Asked) forth n back codes next (inr (inl h)) k = (let q : kinds.Withdraw ∷ forth ≡ [] = h.0 in absurd cc)
row_withdrawn (Now Asked) forth n back codes next (inr (inr h)) k = (let q : kinds.Withdraw ∷ forth ≡ [] = h.0 in absurd cc)
row_withdrawn (Now Leaving) forth n back codes next (inr h) k = (let q : kinds.Withdraw ∷ forth ≡ [] = h.0 in absurd cc)
row_withdrawn (Now Leaving) forth n back codes next (inl h) k =
    let q : kinds.Withdraw ∷ forth ≡ kinds.Withdraw ∷ [] = h.0 in
    let r = k (omega (arith, h.1)) in
    let zero : r.1.0 ≡ 0 = r.1.2 h.1 in
    inr (cc, r.0, ap (λ (z : List ℕ). z ++ codes) h.2 ∙ r.1.1 ∙ ap (λ z. z ∷ []) zero)
row_withdrawn Over forth n back codes next (inl h) k = (let q : kinds.Withdraw ∷ forth ≡ [] = h.0 in absurd cc)
row_withdrawn Over forth n back codes next (inr (inl h)) k =
    let q : kinds.Withdraw ∷ forth ≡ kinds.Withdraw ∷ [] = h.0 in
    inl (cc, (k h.1).0)
row_withdrawn Over forth n back codes next (inr (inr h)) k =
    (let q : kinds.Withdraw ∷ forth ≡ kinds.Register ∷ (kinds.Withdraw ∷ []) = h.0 in absurd cc)

-- what an endpoint asked comes to the table
pub row_treated : (a : Stage) (asks forth : List SysKind) (n : ℕ) (back codes : List ℕ) (next : ℕ) → IsRow a (asks ++ forth) n back
    → TableStep asks n codes next → IsRow a forth next (back ++ codes)
row_treated a [] forth n back codes next h k =
    subst (λ (z : List ℕ). IsRow a forth next (back ++ z)) (sym k.0)
    (subst (λ (z : List ℕ). IsRow a forth next z) (sym (append-nil back)) (subst (λ z. IsRow a forth z back) (sym k.1) h))
row_treated a (kinds.Register ∷ []) forth n back codes next h k = row_registered a forth n back codes next h k
row_treated a (kinds.Withdraw ∷ []) forth n back codes next h k = row_withdrawn a forth n back codes next h k
row_treated a (kind ∷ rest) forth n back codes next h k = absurd k
