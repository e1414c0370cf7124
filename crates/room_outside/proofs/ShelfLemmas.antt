-- Reads of a shelf, one after another.
use Rattle.std.proofs.Common.{◌≡◌, ℕ, ◌+◌, ◌<◌, ◌≤◌, List, [], length, take, drop, ◌++◌, None, Some, Option, IfSome, refl, sym, ◌∙◌, ap, subst, arith, length-append}
use Rattle.std.proofs.lemmas.List.{take-append-drop, drop-take, take-take, length-take, take_all}
use Rattle.room_outside.specs.Faults.{Rose}
use Rattle.room_outside.specs.Shown.{Shown, Keeps, IsReadAt}
use Rattle.room_outside.proofs.FaultLemmas.{Rose-later, Rose-earlier}

-- no read at all
pub Keeps-refl : (a : Shown) → Keeps a a
Keeps-refl a = record { texts = λ _. refl; faults = λ _. omega arith }

-- one read, and then another
pub Keeps-then : {a b c : Shown} → Keeps a b → Keeps b c → Keeps a c
Keeps-then p q =
    record {
      texts = λ name. q.texts name ∙ p.texts name;
      faults = λ name. omega (arith, p.faults name, q.faults name);
    }

-- what holds of a text later held of it before
pub IfSome-before : {a b : Shown} (name : List ℕ) (P : List ℕ → Type 0) → Keeps a b → IfSome (b.text name) P → IfSome (a.text name) P
IfSome-before name P k h = subst (λ (o : Option (List ℕ)). IfSome o P) (k.texts name) h

-- what rose later rose in all
pub Rose-before : {a b : Shown} {n : ℕ} (name : List ℕ) → Keeps a b → Rose (b.faults name) n → Rose (a.faults name) n
Rose-before name k r = Rose-later (k.faults name) r

-- what rose before rose in all
pub Rose-after : {b c : Shown} {n : ℕ} (name : List ℕ) → Rose n (b.faults name) → Keeps b c → Rose n (c.faults name)
Rose-after name r k = Rose-earlier r (k.faults name)

-- a front of a text, and what follows it
pub take-further : (a b : ℕ) (t : List ℕ) → take (a + b) t ≡ take a t ++ take b (drop a t)
take-further a b t =
    let e = take-append-drop a (take (a + b) t) in
    let f : take a (take (a + b) t) ≡ take a t = take-take a (a + b) t (omega arith) in
    let g : drop a (take (a + b) t) ≡ take b (drop a t) = drop-take a b t in
    cc

-- these bytes are a front of the text, where that is told, and the shelf is kept
pub record ReadsFront (before now : Shown) (name read : List ℕ) : Type 0 where
  pub front : IfSome (before.text name) (λ text. take (length read) text ≡ read)
  pub keeps : Keeps before now

front-none : (o : Option (List ℕ)) → IfSome o (λ text. take 0 text ≡ [])
front-none None = tt
front-none (Some t) = refl

front-more : (o : Option (List ℕ)) (read buffer : List ℕ) (n : ℕ) → n ≤ length buffer → IfSome o (λ text. take (length read) text ≡ read) → IfSome o (λ text. IsReadAt text (length read) n buffer) → IfSome o (λ text. take (length (read ++ take n buffer)) text ≡ read ++ take n buffer)
front-more None read buffer n h p q = tt
front-more (Some t) read buffer n h p q =
    let e : length (read ++ take n buffer) ≡ length read + n = omega (arith, length-append read (take n buffer), length-take n buffer) in
    let f = take-further (length read) n t in
    let g = q.bytes in
    cc

-- before the first read
pub ReadsFront-none : (a : Shown) (name : List ℕ) → ReadsFront a a name []
ReadsFront-none a name = record { front = front-none (a.text name); keeps = Keeps-refl a }

-- one more read
pub ReadsFront-more : {a b c : Shown} {name read : List ℕ} (buffer : List ℕ) (n : ℕ) → ReadsFront a b name read → n ≤ length buffer → IfSome (b.text name) (λ text. IsReadAt text (length read) n buffer) → Keeps b c → ReadsFront a c name (read ++ take n buffer)
ReadsFront-more {a} {b} {c} {name} {read} buffer n p h r k =
    record {
      front = front-more (a.text name) read buffer n h p.front (IfSome-before name _ p.keeps r);
      keeps = Keeps-then p.keeps k;
    }

end-whole : (o : Option (List ℕ)) (read buffer : List ℕ) → 0 < length buffer → IfSome o (λ text. take (length read) text ≡ read) → IfSome o (λ text. IsReadAt text (length read) 0 buffer) → IfSome o (λ text. read ≡ text)
end-whole None read buffer h p q = tt
end-whole (Some t) read buffer h p q = sym p ∙ take_all (length read) t ((q.at_end h).0 refl)

-- a read that gave nothing came after the whole text
pub ReadsFront-whole : {a b : Shown} {name read : List ℕ} (buffer : List ℕ) → ReadsFront a b name read → 0 < length buffer → IfSome (b.text name) (λ text. IsReadAt text (length read) 0 buffer) → IfSome (a.text name) (λ text. read ≡ text)
ReadsFront-whole {a} {b} {name} {read} buffer p h r =
    end-whole (a.text name) read buffer h p.front (IfSome-before name _ p.keeps r)

long-text : (o : Option (List ℕ)) (read : List ℕ) (limit : ℕ) → limit < length read → IfSome o (λ text. take (length read) text ≡ read) → IfSome o (λ text. limit < length text)
long-text None read limit h p = tt
long-text (Some t) read limit h p = omega (arith, ap length p, length-take (length read) t)

-- where more than so many bytes were read, the text is longer
pub ReadsFront-long : {a b : Shown} {name read : List ℕ} (limit : ℕ) → ReadsFront a b name read → limit < length read → IfSome (a.text name) (λ text. limit < length text)
ReadsFront-long {a} {b} {name} {read} limit p h = long-text (a.text name) read limit h p.front

-- one read whole, and then another
pub ruleset shelf_steps = (Keeps-refl, Keeps-then, Rose-before, Rose-after, ReadsFront-none, ReadsFront-more, ReadsFront-whole, ReadsFront-long)
