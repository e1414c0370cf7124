-- A reader that takes the tokens of its tree and nothing else: what it reads has the tokens taken, and the tokens of a tree are read back.
use Rattle.std.proofs.Common.{◌≡◌, ◌<◌, Bool, true, false, cond, List, [], ◌∷◌, ◌++◌, length, Option, Some, None, refl, sym, ap, ◌∙◌, append-nil, arith}
use Rattle.std.specs.Prelude.{option_map, option_and_then}
use Rattle.room_tokens.specs.Reader.{Reader, ◌⊕◌, ◌▹◌, ◌◃◌, reads_as, optional, flag, all_while, to_end, if_last, rest_of}
use Rattle.room_tokens.specs.Single.{comes, before_close, word_here, word_as, comes_as, braces_at, mark, word, name_at, number_at, string_at, block_at}
use Rattle.room_tokens.proofs.Readers.{Sound, Reads, taken, Sound-⊕, Reads-⊕, Sound-as, Reads-as, Sound-maybe, Reads-maybe, Sound-many, Reads-many, Anything, last_takes}
use Rattle.room_tokens.proofs.Singles.{word_here_is, mark_sound, word_sound, name_sound, number_sound, string_sound, block_sound, mark_reads, word_reads, name_reads, number_reads, string_reads, block_reads}
use Rattle.room_tokens.proofs.Whole.{Reading}
use Rattle.room_ast.specs.Tokens.{each, maybe, string, braces}
use Rattle.room_ast.specs.Values.{TokenValue, AWord, AName, ANumber, ABlock, AMark}
use Rattle.room_lexer.specs.declared.token.Mark.{Mark}
use Rattle.room_lexer.specs.declared.token.Mark.TheVariants as marks
use Rattle.room_lexer.specs.declared.word.Word.{Word}

-- p takes what out gives for the tree that it reads, and reads each tree back where F allows what comes after it
pub record Exact {V A : Type 0} (p : Reader V A) (out : A → List V) (F : List V → Type 0) : Type 0 where
  pub takes : (ts : List V) (z : A × List V) → p ts ≡ Some z → ts ≡ out z.0 ++ z.1
  pub again : (x : A) (rest : List V) → F rest → p (out x ++ rest) ≡ Some (x, rest)

pub sound : {V A : Type 0} {p : Reader V A} {out : A → List V} {F : List V → Type 0} → Exact p out F → Sound p out
sound h = record { takes = h.takes }

pub reads : {V A : Type 0} {p : Reader V A} {out : A → List V} {F : List V → Type 0} → Exact p out F → (x : A) → Reads p (out x) x F
reads h x = record { again = λ rest may. h.again x rest may }

pub exact : {V A : Type 0} {p : Reader V A} {out : A → List V} {F : List V → Type 0} → Sound p out → ((x : A) → Reads p (out x) x F) → Exact p out F
exact h k = record { takes = h.takes; again = λ x rest may. (k x).again rest may }

-- ---- single tokens

pub mark_exact : (m : Mark) → Exact (mark m) (λ _. AMark m ∷ []) Anything
mark_exact m = exact (mark_sound m) (λ _. mark_reads m)

pub word_exact : (w : Word) → Exact (word w) (λ _. AWord w ∷ []) Anything
word_exact w = exact (word_sound w) (λ _. word_reads w)

pub name_exact : Exact name_at (λ n. AName n ∷ []) Anything
name_exact = exact name_sound name_reads

pub number_exact : Exact number_at (λ n. ANumber n ∷ []) Anything
number_exact = exact number_sound number_reads

pub string_exact : Exact string_at string Anything
string_exact = exact string_sound string_reads

pub block_exact : Exact block_at (λ text. ABlock text ∷ []) Anything
block_exact = exact block_sound block_reads

-- ---- words of a table

word_taken : {A : Type 0} (table : Option Word → Option A) (w : A → Word) → ((o : Option Word) (a : A) → table o ≡ Some a → o ≡ Some (w a)) → (ts : List TokenValue) (o : Option A) → table (word_here ts) ≡ o
    → (z : A × List TokenValue) → option_map (λ (a : A). (a, rest_of ts)) o ≡ Some z → ts ≡ AWord (w z.0) ∷ z.1
word_taken table w of ts None h z e = absurd cc
word_taken {A = A} table w of ts (Some a) h z e = taken (λ (b : A). AWord (w b) ∷ []) ts (a, rest_of ts) z (word_here_is (w a) ts (of (word_here ts) a h)) e

word_as_again : {A : Type 0} (table : Option Word → Option A) (w : A → Word) → ((a : A) → table (Some (w a)) ≡ Some a) → (a : A) (rest : List TokenValue) → Unit {0} → word_as table (AWord (w a) ∷ rest) ≡ Some (a, rest)
unfolding word_as word_here
word_as_again table w back a rest any = rw (back a) refl

pub Exact-word : {A : Type 0} (table : Option Word → Option A) (w : A → Word) → ((o : Option Word) (a : A) → table o ≡ Some a → o ≡ Some (w a)) → ((a : A) → table (Some (w a)) ≡ Some a)
    → Exact (word_as table) (λ a. AWord (w a) ∷ []) Anything
unfolding word_as
Exact-word table w of back = record { takes = λ ts z e. word_taken table w of ts (table (word_here ts)) refl z e; again = word_as_again table w back }

-- the word of a tree comes
pub comes_as_here : {A : Type 0} (table : Option Word → Option A) (w : A → Word) → ((a : A) → table (Some (w a)) ≡ Some a) → (a : A) (rest : List TokenValue) → comes_as table (AWord (w a) ∷ rest) ≡ true
unfolding comes_as word_here
comes_as_here table w back a rest = rw (back a) refl

-- ---- one after another

-- where what comes second may follow what comes first
pub Exact-⊕ : {V A B : Type 0} {p : Reader V A} {q : Reader V B} {s : A → List V} {t : B → List V} {F G : List V → Type 0}
    → Exact p s F → Exact q t G → ((y : B) (rest : List V) → G rest → F (t y ++ rest)) → Exact (p ⊕ q) (λ x. s x.0 ++ t x.1) G
Exact-⊕ h k may = exact (Sound-⊕ (sound h) (sound k)) (λ x. Reads-⊕ (reads h x.0) (reads k x.1) (λ rest g. may x.1 rest g))

-- where anything may follow what comes first
pub Exact-then : {V A B : Type 0} {p : Reader V A} {q : Reader V B} {s : A → List V} {t : B → List V} {G : List V → Type 0}
    → Exact p s Anything → Exact q t G → Exact (p ⊕ q) (λ x. s x.0 ++ t x.1) G
Exact-then h k = Exact-⊕ h k (λ y rest g. tt)

behind_both : {V B : Type 0} (p : Reader V (Unit {0})) (q : Reader V B) (ts : List V) (r : Option (Unit {0} × List V))
    → option_and_then {U = B × List V} (λ (x : Unit {0} × List V). q x.1) r ≡ option_map (λ (x : (Unit {0} × B) × List V). (x.0.1, x.1)) (option_and_then (λ (x : Unit {0} × List V). option_and_then (λ (y : B × List V). Some ((x.0, y.0), y.1)) (q x.1)) r)
behind_both {V = V} {B = B} p q ts None = refl
behind_both {V = V} {B = B} p q ts (Some x) = second_only (q x.1)
  where
    second_only : (r : Option (B × List V)) → r ≡ option_map (λ (x : (Unit {0} × B) × List V). (x.0.1, x.1)) (option_and_then (λ (y : B × List V). Some ((tt, y.0), y.1)) r)
    second_only None = refl
    second_only (Some y) = refl

before_both : {V A : Type 0} (p : Reader V A) (q : Reader V (Unit {0})) (r : Option (A × List V))
    → option_and_then {U = A × List V} (λ (x : A × List V). option_map {U = A × List V} (λ (y : Unit {0} × List V). (x.0, y.1)) (q x.1)) r ≡ option_map {U = A × List V} (λ (x : (A × Unit {0}) × List V). (x.0.0, x.1)) (option_and_then {U = (A × Unit {0}) × List V} (λ (x : A × List V). option_and_then {U = (A × Unit {0}) × List V} (λ (y : Unit {0} × List V). Some ((x.0, y.0), y.1)) (q x.1)) r)
before_both {V = V} {A = A} p q None = refl
before_both {V = V} {A = A} p q (Some x) = first_only (q x.1)
  where
    first_only : (r : Option (Unit {0} × List V)) → option_map {U = A × List V} (λ (y : Unit {0} × List V). (x.0, y.1)) r ≡ option_map {U = A × List V} (λ (z : (A × Unit {0}) × List V). (z.0.0, z.1)) (option_and_then {U = (A × Unit {0}) × List V} (λ (y : Unit {0} × List V). Some ((x.0, y.0), y.1)) r)
    first_only None = refl
    first_only (Some y) = refl

pub Sound-behind : {V B : Type 0} {p : Reader V (Unit {0})} {q : Reader V B} {s : Unit {0} → List V} {t : B → List V} → Sound p s → Sound q t → Sound (p ▹ q) (λ y. s tt ++ t y)
Sound-behind {V = V} {B = B} {p = p} {q = q} {s = s} {t = t} h k = record {
  takes = λ ts z e. (Sound-as (λ (x : Unit {0} × B). x.1) (λ y. s tt ++ t y) (Sound-⊕ h k) (λ x. refl)).takes ts z (sym (behind_both p q ts (p ts)) ∙ e);
}

pub Sound-before : {V A : Type 0} {p : Reader V A} {q : Reader V (Unit {0})} {s : A → List V} {t : Unit {0} → List V} → Sound p s → Sound q t → Sound (p ◃ q) (λ x. s x ++ t tt)
Sound-before {V = V} {A = A} {p = p} {q = q} {s = s} {t = t} h k = record {
  takes = λ ts z e. (Sound-as (λ (x : A × Unit {0}). x.0) (λ y. s y ++ t tt) (Sound-⊕ h k) (λ x. refl)).takes ts z (sym (before_both p q (p ts)) ∙ e);
}

pub Reads-behind : {V B : Type 0} {p : Reader V (Unit {0})} {q : Reader V B} {s t : List V} {y : B} {G : List V → Type 0} → Reads p s tt Anything → Reads q t y G → Reads (p ▹ q) (s ++ t) y G
Reads-behind {V = V} {B = B} {p = p} {q = q} {s = s} {t = t} h k = record {
  again = λ rest may. behind_both p q ((s ++ t) ++ rest) (p ((s ++ t) ++ rest)) ∙ (Reads-as (λ (x : Unit {0} × B). x.1) (Reads-⊕ h k (λ us any. tt))).again rest may;
}

pub Reads-before : {V A : Type 0} {p : Reader V A} {q : Reader V (Unit {0})} {s t : List V} {x : A} {F : List V → Type 0} → Reads p s x F → Reads q t tt Anything → ((rest : List V) → F (t ++ rest)) → Reads (p ◃ q) (s ++ t) x Anything
Reads-before {V = V} {A = A} {p = p} {q = q} {s = s} {t = t} h k may = record {
  again = λ rest any. before_both p q (p ((s ++ t) ++ rest)) ∙ (Reads-as (λ (x : A × Unit {0}). x.0) (Reads-⊕ h k (λ us any. may us))).again rest tt;
}

-- readers that read alike
alike : {V A : Type 0} {p q : Reader V A} {out : A → List V} {F : List V → Type 0} → ((ts : List V) → p ts ≡ q ts) → Exact q out F → Exact p out F
alike same h = record {
  takes = λ ts z e. h.takes ts z (sym (same ts) ∙ e);
  again = λ x rest may. same _ ∙ h.again x rest may;
}

-- ---- as another value

pub Exact-as : {V A B : Type 0} {p : Reader V A} {s : A → List V} {F : List V → Type 0} (f : A → B) (g : B → A) (t : B → List V)
    → Exact p s F → ((x : A) → t (f x) ≡ s x) → ((y : B) → f (g y) ≡ y) → Exact (reads_as f p) t F
Exact-as {V = V} {A = A} {B = B} {p = p} {s = s} f g t h same back = record {
  takes = (Sound-as f t (sound h) same).takes;
  again = λ y rest may.
      let text : t y ≡ s (g y) = ap t (sym (back y)) ∙ same (g y) in
      ap (λ (us : List V). reads_as f p (us ++ rest)) text ∙ (Reads-as f (reads h (g y))).again rest may ∙ ap (λ (x : B). Some (x, rest)) (back y);
}

pub Exact-behind : {V B : Type 0} {p : Reader V (Unit {0})} {q : Reader V B} {s : Unit {0} → List V} {t : B → List V} {G : List V → Type 0}
    → Exact p s Anything → Exact q t G → Exact (p ▹ q) (λ y. s tt ++ t y) G
Exact-behind {V = V} {B = B} {p = p} {q = q} {s = s} {t = t} h k =
    alike (λ ts. behind_both p q ts (p ts)) (Exact-as (λ (x : Unit {0} × B). x.1) (λ y. (tt, y)) (λ y. s tt ++ t y) (Exact-then h k) (λ x. refl) (λ y. refl))

pub Exact-before : {V A : Type 0} {p : Reader V A} {q : Reader V (Unit {0})} {s : A → List V} {t : Unit {0} → List V} {F : List V → Type 0}
    → Exact p s F → Exact q t Anything → ((rest : List V) → F (t tt ++ rest)) → Exact (p ◃ q) (λ x. s x ++ t tt) Anything
Exact-before {V = V} {A = A} {p = p} {q = q} {s = s} {t = t} h k may =
    alike (λ ts. before_both p q (p ts)) (Exact-as (λ (x : A × Unit {0}). x.0) (λ y. (y, tt)) (λ y. s y ++ t tt) (Exact-⊕ h k (λ y rest any. may rest)) (λ x. refl) (λ y. refl))

-- ---- what may be missing, and what repeats

pub Exact-maybe : {V A : Type 0} {p : Reader V A} {s : A → List V} {F : List V → Type 0} (here : List V → Bool)
    → Exact p s F → ((x : A) (rest : List V) → here (s x ++ rest) ≡ true) → Exact (optional here p) (maybe s) (λ rest. (here rest ≡ false) × F rest)
Exact-maybe here h comes = exact (Sound-maybe here (sound h)) (λ o. Reads-maybe here comes (reads h) o)

pub Exact-many : {V A : Type 0} {p : Reader V A} {s : A → List V} {F : List V → Type 0} (goes_on : List V → Bool)
    → Exact p s F → ((x : A) (rest : List V) → (goes_on (s x ++ rest) ≡ true) × F (s x ++ rest) × (0 < length (s x))) → Exact (all_while goes_on p) (each s) (λ rest. (goes_on rest ≡ false) × F rest)
Exact-many goes_on h begins = exact (Sound-many goes_on (sound h)) (λ xs. Reads-many goes_on (reads h) begins xs)

flag_takes : {V : Type 0} (p : Reader V (Unit {0})) (s : Unit {0} → List V) (out : Bool → List V) → Sound p s → out true ≡ s tt → out false ≡ [] → (ts : List V) (b : Bool) (z : Bool × List V)
    → cond b (reads_as (λ x. true) p ts) (Some (false, ts)) ≡ Some z → ts ≡ out z.0 ++ z.1
flag_takes p s out h on off ts false z e = taken out ts (false, ts) z (rw off refl) e
flag_takes p s out h on off ts true z e = (Sound-as (λ x. true) out h (λ x. on)).takes ts z e

flag_again : {V : Type 0} (here : List V → Bool) (p : Reader V (Unit {0})) (s : Unit {0} → List V) (out : Bool → List V) (F : List V → Type 0) → Exact p s F → out true ≡ s tt → out false ≡ [] → ((rest : List V) → here (s tt ++ rest) ≡ true)
    → (x : Bool) (rest : List V) → (here rest ≡ false) × F rest → flag here p (out x ++ rest) ≡ Some (x, rest)
unfolding flag
flag_again here p s out F h on off comes false rest may = rw (off, may.0) refl
flag_again here p s out F h on off comes true rest may = rw (on, comes rest) ((Reads-as (λ x. true) (reads h tt)).again rest may.1)

pub Exact-flag : {V : Type 0} {p : Reader V (Unit {0})} {s : Unit {0} → List V} {F : List V → Type 0} (here : List V → Bool) (out : Bool → List V)
    → Exact p s F → out true ≡ s tt → out false ≡ [] → ((rest : List V) → here (s tt ++ rest) ≡ true) → Exact (flag here p) out (λ rest. (here rest ≡ false) × F rest)
unfolding flag
Exact-flag {p = p} {s = s} {F = F} here out h on off comes = record {
  takes = λ ts z e. flag_takes p s out (sound h) on off ts (here ts) z e;
  again = flag_again here p s out F h on off comes;
}

-- ---- what stands in braces

pub Exact-braces : {A : Type 0} {p : Reader TokenValue A} {s : A → List TokenValue} {F : List TokenValue → Type 0}
    → Exact p s F → ((x : A) (rest : List TokenValue) → (before_close (s x ++ rest) ≡ true) × F (s x ++ rest) × (0 < length (s x))) → ((rest : List TokenValue) → F (AMark marks.CloseBrace ∷ rest)) → Exact (braces_at p) (braces s) Anything
unfolding before_close comes
Exact-braces h begins closes = Exact-behind (mark_exact marks.OpenBrace) (Exact-before (Exact-many before_close h begins) (mark_exact marks.CloseBrace) (λ rest. (refl, closes rest)))

-- an item of a list in braces begins so: the list goes on, and it may follow the item before
pub record Begins (F : List TokenValue → Type 0) (ts rest : List TokenValue) : Type 0 where
  pub goes_on : before_close (ts ++ rest) ≡ true
  pub follows : F (ts ++ rest)
  pub some : 0 < length ts

pub word_begins : {F : List TokenValue → Type 0} (w : Word) (us rest : List TokenValue) → F ((AWord w ∷ us) ++ rest) → Begins F (AWord w ∷ us) rest
unfolding before_close comes
word_begins w us rest may = record { goes_on = refl; follows = may; some = omega arith }

pub Exact-items : {A : Type 0} {p : Reader TokenValue A} {s : A → List TokenValue} {F : List TokenValue → Type 0}
    → Exact p s F → ((x : A) (rest : List TokenValue) → Begins F (s x) rest) → ((rest : List TokenValue) → F (AMark marks.CloseBrace ∷ rest)) → Exact (braces_at p) (braces s) Anything
Exact-items h begins closes = Exact-braces h (λ x rest. let b = begins x rest in (b.goes_on, b.follows, b.some)) closes

-- the same tokens, written in another way
pub Exact-out : {V A : Type 0} {p : Reader V A} {s : A → List V} {F : List V → Type 0} (t : A → List V) → Exact p s F → ((x : A) → t x ≡ s x) → Exact p t F
Exact-out {V = V} {p = p} t h same = record {
  takes = λ ts z e. h.takes ts z e ∙ ap (λ (us : List V). us ++ z.1) (sym (same z.0));
  again = λ x rest may. ap (λ (us : List V). p (us ++ rest)) (same x) ∙ h.again x rest may;
}

-- less may follow
pub Exact-where : {V A : Type 0} {p : Reader V A} {out : A → List V} {F G : List V → Type 0} → Exact p out F → ((rest : List V) → G rest → F rest) → Exact p out G
Exact-where h less = record { takes = h.takes; again = λ x rest may. h.again x rest (less rest may) }

-- what is taken by a reader of one of the alternatives
pub case_takes : {V A B : Type 0} {p : Reader V A} {s : A → List V} {F : List V → Type 0} (f : A → B) (t : B → List V) → Exact p s F → ((x : A) → t (f x) ≡ s x) → (ts : List V) (z : B × List V) → reads_as f p ts ≡ Some z → ts ≡ t z.0 ++ z.1
case_takes f t h same = (Sound-as f t (sound h) same).takes

pub case_again : {V A B : Type 0} {p : Reader V A} {s : A → List V} {F : List V → Type 0} (f : A → B) → Exact p s F → (x : A) (rest : List V) → F rest → reads_as f p (s x ++ rest) ≡ Some (f x, rest)
case_again f h x rest may = (Reads-as f (reads h x)).again rest may

-- what is read by one reader or the other
pub either_takes : {X P : Type 0} (b : Bool) (x y z : X) → (x ≡ z → P) → (y ≡ z → P) → cond b x y ≡ z → P
either_takes false x y z first second e = second e
either_takes true x y z first second e = first e

-- ---- the whole list

pub whole : {V A : Type 0} {p : Reader V A} {out : A → List V} {F : List V → Type 0} → Exact p out F → F [] → Reading (to_end p) out
whole {V = V} {A = A} {p = p} {out = out} h ends = record {
  takes = λ ts t e. last_takes out ts (p ts) t (λ z i. h.takes ts z i) e;
  again = λ t. ap (λ (us : List V). to_end p us) (sym (append-nil (out t))) ∙ ap (option_and_then if_last) (h.again t [] ends);
}
