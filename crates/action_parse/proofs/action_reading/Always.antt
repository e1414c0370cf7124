-- What is true of each value that a reader gives.
use Rattle.std.proofs.Common.{◌≡◌, ℕ, zero, suc, Bool, true, false, cond, List, [], ◌∷◌, length, Option, Some, None, refl, subst}
use Rattle.std.specs.Prelude.{option_map, option_and_then}
use Rattle.room_tokens.specs.Reader.{Reader, ◌⊕◌, reads_as, optional, many, all_while}

pub record Always {V A : Type 0} (p : Reader V A) (Good : A → Type 0) : Type 0 where
  pub holds : (ts : List V) (z : A × List V) → p ts ≡ Some z → Good z.0

pub is_good : {V A : Type 0} (Good : A → Type 0) (x z : A × List V) → Good x.0 → Some x ≡ Some z → Good z.0
is_good {V = V} {A = A} Good x z h e = let same : x ≡ z = cc in subst (λ (y : A × List V). Good y.0) same h

abbrev pub Each : {A : Type 0} → (A → Type 0) → List A → Type 0
Each Good [] = Unit {0}
Each Good (x ∷ xs) = Good x × Each Good xs

abbrev pub IfThere : {A : Type 0} → (A → Type 0) → Option A → Type 0
IfThere Good None = Unit {0}
IfThere Good (Some x) = Good x

pub anything : {V A : Type 0} (p : Reader V A) → Always p (λ _. Unit {0})
anything p = record { holds = λ ts z e. tt }

second_holds : {V A B : Type 0} (q : Reader V B) (G : A → Type 0) (H : B → Type 0) → Always q H → (us : List V) (a : A) → G a → (z : (A × B) × List V) (r : Option (B × List V)) → q us ≡ r
    → option_and_then (λ (y : B × List V). Some ((a, y.0), y.1)) r ≡ Some z → G z.0.0 × H z.0.1
second_holds q G H k us a g z None h e = absurd cc
second_holds {V = V} {A = A} {B = B} q G H k us a g z (Some b) h e = is_good (λ (x : A × B). G x.0 × H x.1) ((a, b.0), b.1) z (g, k.holds us b h) e

first_holds : {V A B : Type 0} (p : Reader V A) (q : Reader V B) (G : A → Type 0) (H : B → Type 0) → Always p G → Always q H → (ts : List V) (z : (A × B) × List V) (r : Option (A × List V)) → p ts ≡ r
    → option_and_then (λ (x : A × List V). option_and_then (λ (y : B × List V). Some ((x.0, y.0), y.1)) (q x.1)) r ≡ Some z → G z.0.0 × H z.0.1
first_holds p q G H h k ts z None i e = absurd cc
first_holds p q G H h k ts z (Some a) i e = second_holds q G H k a.1 a.0 (h.holds ts a i) z (q a.1) refl e

pub Always-⊕ : {V A B : Type 0} {p : Reader V A} {q : Reader V B} {G : A → Type 0} {H : B → Type 0} → Always p G → Always q H → Always (p ⊕ q) (λ x. G x.0 × H x.1)
Always-⊕ {p = p} {q = q} {G = G} {H = H} h k = record { holds = λ ts z e. first_holds p q G H h k ts z (p ts) refl e }

as_holds : {V A B : Type 0} (p : Reader V A) (G : A → Type 0) (H : B → Type 0) (f : A → B) → Always p G → ((x : A) → G x → H (f x)) → (ts : List V) (z : B × List V) (r : Option (A × List V)) → p ts ≡ r
    → option_map (λ (x : A × List V). (f x.0, x.1)) r ≡ Some z → H z.0
as_holds p G H f h same ts z None i e = absurd cc
as_holds p G H f h same ts z (Some a) i e = is_good H (f a.0, a.1) z (same a.0 (h.holds ts a i)) e

pub Always-as : {V A B : Type 0} {p : Reader V A} {G : A → Type 0} (f : A → B) (H : B → Type 0) → Always p G → ((x : A) → G x → H (f x)) → Always (reads_as f p) H
Always-as {p = p} {G = G} f H h same = record { holds = λ ts z e. as_holds p G H f h same ts z (p ts) refl e }

optional_holds : {V A : Type 0} (p : Reader V A) (G : A → Type 0) → Always p G → (ts : List V) (b : Bool) (z : Option A × List V) → cond b (reads_as Some p ts) (Some (None, ts)) ≡ Some z → IfThere G z.0
optional_holds p G h ts false z e = is_good (IfThere G) (None, ts) z tt e
optional_holds p G h ts true z e = (Always-as Some (IfThere G) h (λ x g. g)).holds ts z e

pub Always-optional : {V A : Type 0} {p : Reader V A} {G : A → Type 0} (here : List V → Bool) → Always p G → Always (optional here p) (IfThere G)
unfolding optional
Always-optional {p = p} {G = G} here h = record { holds = λ ts z e. optional_holds p G h ts (here ts) z e }

turn_holds : {V A : Type 0} (p : Reader V A) (ps : Reader V (List A)) (G : A → Type 0) → Always p G → Always ps (Each G) → (ts : List V) (b : Bool) (z : List A × List V)
    → cond b (reads_as (λ (x : A × List A). x.0 ∷ x.1) (p ⊕ ps) ts) (Some ([], ts)) ≡ Some z → Each G z.0
turn_holds p ps G h k ts false z e = is_good (Each G) ([], ts) z tt e
turn_holds {A = A} p ps G h k ts true z e = (Always-as {p = p ⊕ ps} (λ (x : A × List A). x.0 ∷ x.1) (Each G) (Always-⊕ h k) (λ x g. g)).holds ts z e

many_holds : {V A : Type 0} (goes_on : List V → Bool) (p : Reader V A) (G : A → Type 0) → Always p G → (n : ℕ) → Always (many goes_on p n) (Each G)
unfolding many
many_holds goes_on p G h zero = record { holds = λ ts z e. absurd cc }
many_holds goes_on p G h (suc n) = record { holds = λ ts z e. turn_holds p (many goes_on p n) G h (many_holds goes_on p G h n) ts (goes_on ts) z e }

pub Always-many : {V A : Type 0} {p : Reader V A} {G : A → Type 0} (goes_on : List V → Bool) → Always p G → Always (all_while goes_on p) (Each G)
unfolding all_while
Always-many {p = p} {G = G} goes_on h = record { holds = λ ts z e. (many_holds goes_on p G h (suc (length ts))).holds ts z e }
