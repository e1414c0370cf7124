-- What a reader takes is what the writer of its values gives, and it reads that again.
use Rattle.std.proofs.Common.{◌≡◌, ℕ, zero, suc, Bool, true, false, cond, ◌<◌, List, [], ◌∷◌, ◌++◌, length, Option, Some, None, refl, sym, ap, ◌∙◌, subst, append_assoc, append-nil, length-append, arith}
use Rattle.std.specs.Prelude.{option_map, option_and_then}
use Rattle.room_tokens.specs.Reader.{Reader, ◌⊕◌, reads_as, optional, many, all_while, if_last, rest_of, take_if}
use Rattle.room_ast.specs.Tokens.{each, maybe}

-- what p takes from the front is what out gives for its value
pub record Sound {V A : Type 0} (p : Reader V A) (out : A → List V) : Type 0 where
  pub takes : (ts : List V) (z : A × List V) → p ts ≡ Some z → ts ≡ out z.0 ++ z.1

-- p reads x from the text, whatever comes after it that may follow
pub record Reads {V A : Type 0} (p : Reader V A) (text : List V) (x : A) (MayFollow : List V → Type 0) : Type 0 where
  pub again : (rest : List V) → MayFollow rest → p (text ++ rest) ≡ Some (x, rest)

some_is : {A : Type 0} (x y : A) → Some x ≡ Some y → x ≡ y
some_is x y e = cc

pub taken : {V A : Type 0} (out : A → List V) (ts : List V) (made z : A × List V) → ts ≡ out made.0 ++ made.1 → Some made ≡ Some z → ts ≡ out z.0 ++ z.1
taken {V = V} {A = A} out ts made z h e = subst (λ (y : A × List V). ts ≡ out y.0 ++ y.1) (some_is made z e) h

-- ---- one after another

second_takes : {V A B : Type 0} (q : Reader V B) (s : A → List V) (t : B → List V) → Sound q t → (ts us : List V) (a : A) → ts ≡ s a ++ us → (z : (A × B) × List V) (r : Option (B × List V)) → q us ≡ r
    → option_and_then (λ (y : B × List V). Some ((a, y.0), y.1)) r ≡ Some z → ts ≡ (s z.0.0 ++ t z.0.1) ++ z.1
second_takes q s t k ts us a first z None h e = absurd cc
second_takes {V = V} {A = A} {B = B} q s t k ts us a first z (Some b) h e =
    taken (λ (x : A × B). s x.0 ++ t x.1) ts ((a, b.0), b.1) z (first ∙ ap (λ vs. s a ++ vs) (k.takes us b h) ∙ sym (append_assoc (s a) (t b.0) b.1)) e

first_takes : {V A B : Type 0} (p : Reader V A) (q : Reader V B) (s : A → List V) (t : B → List V) → Sound p s → Sound q t → (ts : List V) (z : (A × B) × List V) (r : Option (A × List V)) → p ts ≡ r
    → option_and_then (λ (x : A × List V). option_and_then (λ (y : B × List V). Some ((x.0, y.0), y.1)) (q x.1)) r ≡ Some z → ts ≡ (s z.0.0 ++ t z.0.1) ++ z.1
first_takes p q s t h k ts z None i e = absurd cc
first_takes p q s t h k ts z (Some a) i e = second_takes q s t k ts a.1 a.0 (h.takes ts a i) z (q a.1) refl e

pub Sound-⊕ : {V A B : Type 0} {p : Reader V A} {q : Reader V B} {s : A → List V} {t : B → List V} → Sound p s → Sound q t → Sound (p ⊕ q) (λ x. s x.0 ++ t x.1)
Sound-⊕ {p = p} {q = q} {s = s} {t = t} h k = record { takes = λ ts z e. first_takes p q s t h k ts z (p ts) refl e }

pub Reads-⊕ : {V A B : Type 0} {p : Reader V A} {q : Reader V B} {s t : List V} {x : A} {y : B} {F G : List V → Type 0} → Reads p s x F → Reads q t y G → ((rest : List V) → G rest → F (t ++ rest)) → Reads (p ⊕ q) (s ++ t) (x, y) G
Reads-⊕ {V = V} {A = A} {B = B} {p = p} {q = q} {s = s} {t = t} {x = x} {y = y} h k may = record {
  again = λ rest g.
      ap (p ⊕ q) (append_assoc s t rest)
      ∙ ap (λ (r : Option (A × List V)). option_and_then (λ (a : A × List V). option_and_then (λ (b : B × List V). Some ((a.0, b.0), b.1)) (q a.1)) r) (h.again (t ++ rest) (may rest g))
      ∙ ap (λ (r : Option (B × List V)). option_and_then (λ (b : B × List V). Some ((x, b.0), b.1)) r) (k.again rest g);
}

-- ---- as another value

as_takes : {V A B : Type 0} (p : Reader V A) (s : A → List V) (f : A → B) (t : B → List V) → Sound p s → ((x : A) → t (f x) ≡ s x) → (ts : List V) (z : B × List V) (r : Option (A × List V)) → p ts ≡ r
    → option_map (λ (x : A × List V). (f x.0, x.1)) r ≡ Some z → ts ≡ t z.0 ++ z.1
as_takes p s f t h same ts z None i e = absurd cc
as_takes p s f t h same ts z (Some a) i e = taken t ts (f a.0, a.1) z (h.takes ts a i ∙ ap (λ us. us ++ a.1) (sym (same a.0))) e

pub Sound-as : {V A B : Type 0} {p : Reader V A} {s : A → List V} (f : A → B) (t : B → List V) → Sound p s → ((x : A) → t (f x) ≡ s x) → Sound (reads_as f p) t
Sound-as {p = p} {s = s} f t h same = record { takes = λ ts z e. as_takes p s f t h same ts z (p ts) refl e }

pub Reads-as : {V A B : Type 0} {p : Reader V A} {s : List V} {x : A} {F : List V → Type 0} (f : A → B) → Reads p s x F → Reads (reads_as f p) s (f x) F
Reads-as {V = V} {A = A} f h = record { again = λ rest may. ap (λ (r : Option (A × List V)). option_map (λ (y : A × List V). (f y.0, y.1)) r) (h.again rest may) }

-- ---- what may be missing

optional_takes : {V A : Type 0} (here : List V → Bool) (p : Reader V A) (out : A → List V) (t : Option A → List V) → Sound p out → t None ≡ [] → ((x : A) → t (Some x) ≡ out x) → (ts : List V) (b : Bool)
    → (z : Option A × List V) → cond b (reads_as Some p ts) (Some (None, ts)) ≡ Some z → ts ≡ t z.0 ++ z.1
optional_takes here p out t h none some ts false z e = taken t ts (None, ts) z (rw none refl) e
optional_takes here p out t h none some ts true z e = (Sound-as Some t h some).takes ts z e

pub Sound-optional : {V A : Type 0} {p : Reader V A} {s : A → List V} (here : List V → Bool) (t : Option A → List V) → Sound p s → t None ≡ [] → ((x : A) → t (Some x) ≡ s x) → Sound (optional here p) t
unfolding optional
Sound-optional {p = p} {s = s} here t h none some = record { takes = λ ts z e. optional_takes here p s t h none some ts (here ts) z e }

pub Sound-maybe : {V A : Type 0} {p : Reader V A} {s : A → List V} (here : List V → Bool) → Sound p s → Sound (optional here p) (maybe s)
Sound-maybe {s = s} here h = Sound-optional here (maybe s) h refl (λ x. refl)

pub Reads-some : {V A : Type 0} {p : Reader V A} {s : List V} {x : A} {F : List V → Type 0} (here : List V → Bool) → ((rest : List V) → here (s ++ rest) ≡ true) → Reads p s x F → Reads (optional here p) s (Some x) F
unfolding optional
Reads-some {s = s} here always h = record { again = λ rest may. rw (always rest) ((Reads-as Some h).again rest may) }

pub Reads-none : {V A : Type 0} (here : List V → Bool) (p : Reader V A) → Reads (optional here p) [] None (λ rest. here rest ≡ false)
unfolding optional
Reads-none here p = record { again = λ rest off. rw off refl }

-- ---- what repeats

turn_takes : {V A : Type 0} (p : Reader V A) (ps : Reader V (List A)) (out : A → List V) → Sound p out → Sound ps (each out) → (ts : List V) (b : Bool) (z : List A × List V)
    → cond b (reads_as (λ (x : A × List A). x.0 ∷ x.1) (p ⊕ ps) ts) (Some ([], ts)) ≡ Some z → ts ≡ each out z.0 ++ z.1
turn_takes p ps out h k ts false z e = taken (each out) ts ([], ts) z refl e
turn_takes {V = V} {A = A} p ps out h k ts true z e = (Sound-as {p = p ⊕ ps} (λ (x : A × List A). x.0 ∷ x.1) (each out) (Sound-⊕ h k) (λ x. refl)).takes ts z e

many_sound : {V A : Type 0} (goes_on : List V → Bool) (p : Reader V A) (out : A → List V) → Sound p out → (n : ℕ) → Sound (many goes_on p n) (each out)
unfolding many
many_sound goes_on p out h zero = record { takes = λ ts z e. absurd cc }
many_sound goes_on p out h (suc n) = record { takes = λ ts z e. turn_takes p (many goes_on p n) out h (many_sound goes_on p out h n) ts (goes_on ts) z e }

pub Sound-many : {V A : Type 0} {p : Reader V A} {s : A → List V} (goes_on : List V → Bool) → Sound p s → Sound (all_while goes_on p) (each s)
unfolding all_while
Sound-many {p = p} {s = s} goes_on h = record { takes = λ ts z e. (many_sound goes_on p s h (suc (length ts))).takes ts z e }

-- ---- behind a token that a match has taken

behind : {V A B : Type 0} (w : V) (p : Reader V A) (s : A → List V) (f : A → B) (t : B → List V) → Sound p s → ((x : A) → t (f x) ≡ w ∷ s x) → (ts : List V) (z : B × List V) (r : Option (A × List V)) → p ts ≡ r
    → option_map (λ (x : A × List V). (f x.0, x.1)) r ≡ Some z → w ∷ ts ≡ t z.0 ++ z.1
behind w p s f t h same ts z None i e = absurd cc
behind w p s f t h same ts z (Some a) i e = taken t (w ∷ ts) (f a.0, a.1) z (ap (λ us. w ∷ us) (h.takes ts a i) ∙ ap (λ us. us ++ a.1) (sym (same a.0))) e

pub behind_takes : {V A B : Type 0} (w : V) (p : Reader V A) (s : A → List V) (f : A → B) (t : B → List V) → Sound p s → ((x : A) → t (f x) ≡ w ∷ s x) → (ts : List V) (z : B × List V)
    → reads_as f p ts ≡ Some z → w ∷ ts ≡ t z.0 ++ z.1
behind_takes w p s f t h same ts z e = behind w p s f t h same ts z (p ts) refl e

-- ---- what may follow

abbrev pub Anything : {V : Type 0} → List V → Type 0
Anything rest = Unit {0}

pub weaker : {V A : Type 0} {p : Reader V A} {s : List V} {x : A} {F : List V → Type 0} → Reads p s x Anything → Reads p s x F
weaker h = record { again = λ rest may. h.again rest tt }

-- what may be missing is read, where it doesn't come if it is missing
pub Reads-maybe : {V A : Type 0} {p : Reader V A} {s : A → List V} {F : List V → Type 0} (here : List V → Bool) → ((x : A) (rest : List V) → here (s x ++ rest) ≡ true) → ((x : A) → Reads p (s x) x F) → (o : Option A)
    → Reads (optional here p) (maybe s o) o (λ rest. (here rest ≡ false) × F rest)
Reads-maybe {p = p} here always h None = record { again = λ rest may. (Reads-none here p).again rest may.0 }
Reads-maybe here always h (Some x) = record { again = λ rest may. (Reads-some here (always x) (h x)).again rest may.1 }

-- ---- what repeats: each is read, goes on and may follow the one before

many_again : {V A : Type 0} (g : List V → Bool) (p : Reader V A) (s : A → List V) (F : List V → Type 0) → ((x : A) → Reads p (s x) x F) → ((x : A) (rest : List V) → (g (s x ++ rest) ≡ true) × F (s x ++ rest) × (0 < length (s x)))
    → (xs : List A) (n : ℕ) (rest : List V) → length (each s xs) < n → g rest ≡ false → F rest → (many g p n (each s xs ++ rest) ≡ Some (xs, rest)) × F (each s xs ++ rest)
unfolding many
many_again g p s F reads begins [] zero rest lt off may = absurd (omega arith)
many_again g p s F reads begins [] (suc n) rest lt off may = (rw off refl, may)
many_again g p s F reads begins (x ∷ xs) zero rest lt off may = absurd (omega arith)
many_again {V = V} {A = A} g p s F reads begins (x ∷ xs) (suc n) rest lt off may =
    let b = begins x (each s xs ++ rest) in
    let others = many_again g p s F reads begins xs n rest (omega (arith, length-append (s x) (each s xs), b.2)) off may in
    let first : p (s x ++ (each s xs ++ rest)) ≡ Some (x, each s xs ++ rest) = (reads x).again (each s xs ++ rest) others.1 in
    (ap (many g p (suc n)) (append_assoc (s x) (each s xs) rest) ∙ rw (b.0, first, others.0) refl, subst F (sym (append_assoc (s x) (each s xs) rest)) b.1)

pub Reads-many : {V A : Type 0} {p : Reader V A} {s : A → List V} {F : List V → Type 0} (g : List V → Bool) → ((x : A) → Reads p (s x) x F) → ((x : A) (rest : List V) → (g (s x ++ rest) ≡ true) × F (s x ++ rest) × (0 < length (s x)))
    → (xs : List A) → Reads (all_while g p) (each s xs) xs (λ rest. (g rest ≡ false) × F rest)
unfolding all_while
Reads-many {p = p} {s = s} {F = F} g reads begins xs = record { again = λ rest may. (many_again g p s F reads begins xs (suc (length (each s xs ++ rest))) rest (omega (arith, length-append (each s xs) rest)) may.0 may.1).0 }

-- ---- the whole list

pub last_takes : {V A : Type 0} (out : A → List V) (ts : List V) (r : Option (A × List V)) (x : A) → ((z : A × List V) → r ≡ Some z → ts ≡ out z.0 ++ z.1) → option_and_then if_last r ≡ Some x → ts ≡ out x
last_takes out ts None x h e = absurd cc
last_takes {V = V} {A = A} out ts (Some (a, [])) x h e = let same : a ≡ x = cc in h (a, []) refl ∙ append-nil (out a) ∙ ap out same
last_takes out ts (Some (a, t ∷ us)) x h e = absurd cc

-- ---- the first, if it comes

if_takes : {V : Type 0} (t : V) (ts : List V) (b : Bool) → (b ≡ true → ts ≡ t ∷ rest_of ts) → (z : Unit {0} × List V) → cond {A = Option (Unit {0} × List V)} b (Some (tt, rest_of ts)) None ≡ Some z → ts ≡ t ∷ z.1
if_takes t ts false h z e = absurd cc
if_takes t ts true h z e = taken (λ _. t ∷ []) ts (tt, rest_of ts) z (h refl) e

pub take_if_sound : {V : Type 0} (t : V) (here : List V → Bool) → ((ts : List V) → here ts ≡ true → ts ≡ t ∷ rest_of ts) → Sound (take_if here) (λ _. t ∷ [])
unfolding take_if
take_if_sound t here is = record { takes = λ ts z e. if_takes t ts (here ts) (is ts) z e }

pub take_if_reads : {V : Type 0} (t : V) (here : List V → Bool) → ((rest : List V) → here (t ∷ rest) ≡ true) → Reads (take_if here) (t ∷ []) tt Anything
unfolding take_if
take_if_reads t here comes = record { again = λ rest any. rw (comes rest) refl }
