-- Writes to a sink, one after another.
use Rattle.std.proofs.Common.{◌≡◌, ℕ, ◌+◌, ◌-◌, ◌<◌, ◌≤◌, List, [], length, take, drop, ◌++◌, None, Some, Option, refl, sym, ◌∙◌, ap, subst, arith, append_assoc, length-append}
use Rattle.std.proofs.lemmas.List.{append-nil, take-append-drop}
use Rattle.std.proofs.Math.Seq.{take-append_seam}
use Rattle.room_outside.specs.Faults.{Rose, last_count}
use Rattle.room_outside.specs.Written.{Written, appended, Appends, BreaksOffAfter}
use Rattle.room_outside.proofs.FaultLemmas.{Rose-later}

pub appended-none : (o : Option (List ℕ)) → appended o [] ≡ o
appended-none None = refl
appended-none (Some t) = ap Some (append-nil t)

pub appended-twice : (o : Option (List ℕ)) (x y : List ℕ) → appended (appended o x) y ≡ appended o (x ++ y)
appended-twice None x y = refl
appended-twice (Some t) x y = ap Some (append_assoc t x y)

-- no write at all
pub Appends-none : (a : Written) → Appends a a []
Appends-none a = record { told = sym (appended-none a.told); faults = omega arith }

-- one piece, and then another
pub Appends-then : {a b c : Written} {x y : List ℕ} → Appends a b x → Appends b c y → Appends a c (x ++ y)
Appends-then {a} {b} {c} {x} {y} p q =
    record {
      told = q.told ∙ ap (λ o. appended o y) p.told ∙ appended-twice a.told x y;
      faults = omega (arith, p.faults, q.faults);
    }

-- a front of the piece was appended, and the rest is still to be written
pub record WritesFront (before now : Written) (piece left : List ℕ) : Type 0 where
  pub front : List ℕ
  pub appends : Appends before now front
  pub split : piece ≡ front ++ left

-- before the first write
pub WritesFront-none : (a : Written) (piece : List ℕ) → WritesFront a a piece piece
WritesFront-none a piece = record { front = []; appends = Appends-none a; split = refl }

-- one more write
pub WritesFront-more : {a b c : Written} {piece left : List ℕ} (n : ℕ) → WritesFront a b piece left → Appends b c (take n left) → WritesFront a c piece (drop n left)
WritesFront-more {a} {b} {c} {piece} {left} n p q =
    record {
      front = p.front ++ take n left;
      appends = Appends-then p.appends q;
      split = p.split ∙ (ap (λ l. p.front ++ l) (sym (take-append-drop n left)) ∙ sym (append_assoc p.front (take n left) (drop n left)));
    }

-- a write that took nothing, while something was left
pub WritesFront-breaks : {a b c : Written} {piece left : List ℕ} → WritesFront a b piece left → length piece ≤ last_count → 0 < length left → Appends b c [] → Rose b.faults c.faults → BreaksOffAfter (length piece - length left) a c piece
WritesFront-breaks {a} {b} {c} {piece} {left} p range some q r =
    let long : length piece ≡ length p.front + length left = rw p.split (length-append p.front left) in
    let front : take (length p.front) piece ≡ p.front = rw p.split (take-append_seam p.front left) in
    record {
      breaks = record {
        taken = length p.front;
        within = rw p.split (omega (arith, length-append p.front left, some));
        front = subst (Appends a c) (append-nil p.front ∙ sym front) (Appends-then p.appends q);
        fault = Rose-later p.appends.faults r;
      };
      number = omega (arith, range, long);
    }

-- nothing is left to be written
pub WritesFront-all : {a b : Written} {piece left : List ℕ} → WritesFront a b piece left → left ≡ [] → Appends a b piece
WritesFront-all {a} {b} {piece} {left} p none =
    subst (Appends a b) (sym (p.split ∙ (ap (λ l. p.front ++ l) none ∙ append-nil p.front))) p.appends
