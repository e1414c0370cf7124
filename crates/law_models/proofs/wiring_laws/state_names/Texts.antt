-- Texts of states.
use Rattle.std.proofs.Common.{◌≡◌, ◌≢◌, ◌∙◌, ◌⊎◌, inl, inr, ℕ, zero, suc, ◌≤◌, Bool, true, false, cond, List, [], ◌∷◌, ◌++◌, append_assoc, length, length-append, map, Some, refl, sym, ap, subst, arith}
use Rattle.std.specs.Prelude.{All, nat_lt, slice_get}
use Rattle.std.specs.List.{list_all, join_with_byte}
use Rattle.std.proofs.lemmas.Bool.{and_parts, and_from}
use Rattle.std.proofs.lemmas.Bool.Decides.{nat_tests}
use Rattle.std.proofs.lemmas.List.Elements.{All-nil, All-cons, All-append, All-head, All-tail}
use Rattle.room_wiring.specs.WellNamed.{IsIdent, IsStateLabel}
use Rattle.wiring_plan.specs.wiring_classes.Labels.{label_of}
use Rattle.law_models.proofs.wiring_laws.slot_paths.Each.{Each, each_append, each_at}
use Rattle.law_models.proofs.wiring_laws.slot_paths.Texts.{Lacks, Tail, same_front, same_behind, itself, word_byte, ident_bytes}

-- ---- identifiers

words_lack : (w : List ℕ) → list_all word_byte w ≡ true → Lacks 46 w
words_lack [] h = tt
words_lack (b ∷ bs) h =
    let parts = and_parts (word_byte b) (list_all word_byte bs) h in
    (λ is. let both : true ≡ false = sym parts.0 ∙ ap word_byte is in absurd cc, words_lack bs parts.1)

pub no_dot : (w : List ℕ) → IsIdent w → Lacks 46 w
no_dot w h = words_lack w (ident_bytes w h)

-- ---- labels

abbrev small : ℕ → Bool
small b = nat_lt b 128

word_small : (b : ℕ) → word_byte b ≡ true → small b ≡ true
word_small b h = grind (arith, nat_tests)

words_small : (w : List ℕ) → list_all word_byte w ≡ true → list_all small w ≡ true
words_small [] h = refl
words_small (b ∷ bs) h =
    let parts = and_parts (word_byte b) (list_all word_byte bs) h in
    and_from (small b) (list_all small bs) (word_small b parts.0) (words_small bs parts.1)

both_small : (xs ys : List ℕ) → list_all small xs ≡ true → list_all small ys ≡ true → list_all small (xs ++ ys) ≡ true
both_small [] ys h k = k
both_small (x ∷ xs) ys h k = let parts = and_parts (small x) (list_all small xs) h in and_from (small x) (list_all small (xs ++ ys)) parts.0 (both_small xs ys parts.1 k)

joined_small : (ws : List (List ℕ)) → All IsIdent ws → list_all small (join_with_byte 46 ws) ≡ true
joined_small [] h = refl
joined_small (w ∷ []) h = words_small w (ident_bytes w (All-head IsIdent w [] h))
joined_small (w ∷ v ∷ ws) h =
    both_small w (46 ∷ join_with_byte 46 (v ∷ ws)) (words_small w (ident_bytes w (All-head IsIdent w (v ∷ ws) h))) (joined_small (v ∷ ws) (All-tail IsIdent w (v ∷ ws) h))

label_is : (l : List ℕ) → IsStateLabel l → label_of l ≡ l
unfolding label_of
label_is l h = ap (λ (b : Bool). cond b l []) (subst (λ x. list_all small x ≡ true) (sym h.joined) (joined_small h.names h.each))

pub labels_are : (ls : List (List ℕ)) → Each IsStateLabel ls → map label_of ls ≡ ls
labels_are [] h = refl
labels_are (l ∷ ls) h = ap (λ x. x ∷ map label_of ls) (label_is l h.0) ∙ ap (λ xs. l ∷ xs) (labels_are ls h.1)

pub each_all : (ls : List (List ℕ)) → Each IsStateLabel ls → All IsStateLabel ls
each_all [] h = All-nil IsStateLabel
each_all (l ∷ ls) h = All-cons IsStateLabel l ls h.0 (each_all ls h.1)

join_more : (ws : List (List ℕ)) (w : List ℕ) → 1 ≤ length ws → join_with_byte 46 (ws ++ w ∷ []) ≡ join_with_byte 46 ws ++ 46 ∷ w
join_more [] w h = absurd (omega arith)
join_more (v ∷ []) w h = refl
join_more (v ∷ u ∷ ws) w h = ap (λ x. v ++ 46 ∷ x) (join_more (u ∷ ws) w (omega arith)) ∙ sym (append_assoc v (46 ∷ join_with_byte 46 (u ∷ ws)) (46 ∷ w))

-- nothing, or a label and `.`
abbrev pub IsPrefix : List ℕ → Type 0
IsPrefix pre = (pre ≡ []) ⊎ ((label : List ℕ) × IsStateLabel label × (pre ≡ label ++ 46 ∷ []))

pub formed : (pre name : List ℕ) → IsPrefix pre → IsIdent name → IsStateLabel (pre ++ name)
formed pre name (inl e) s = subst (λ p. IsStateLabel (p ++ name)) (sym e) (record { names = name ∷ []; some = omega arith; each = All-cons IsIdent name [] s (All-nil IsIdent); joined = refl })
formed pre name (inr p) s =
    let more = length-append p.1.names (name ∷ []) in
    subst (λ q. IsStateLabel (q ++ name)) (sym p.2) (record {
      names = p.1.names ++ name ∷ [];
      some = omega (arith, more);
      each = All-append IsIdent p.1.names (name ∷ []) p.1.each (All-cons IsIdent name [] s (All-nil IsIdent));
      joined = append_assoc p.0 (46 ∷ []) name ∙ ap (λ q. q ++ 46 ∷ name) p.1.joined ∙ sym (join_more p.1.names name p.1.some);
    })

-- ---- labels of a state and of those inside

pub record Below (base text : List ℕ) : Type 0 where
  pub tail : List ℕ
  pub is : text ≡ base ++ tail
  pub dot : Tail 46 tail

pub record Under (pre text : List ℕ) : Type 0 where
  pub rest : List ℕ
  pub is : text ≡ pre ++ rest

-- what lies below different names differs
pub below_differ : (pre a b x y : List ℕ) → Lacks 46 a → Lacks 46 b → a ≢ b → Below (pre ++ a) x → Below (pre ++ b) y → x ≢ y
below_differ pre a b x y la lb ne bx by e =
    let left : x ≡ pre ++ (a ++ bx.tail) = bx.is ∙ append_assoc pre a bx.tail in
    let right : y ≡ pre ++ (b ++ by.tail) = by.is ∙ append_assoc pre b by.tail in
    absurd (ne (same_front 46 a b bx.tail by.tail la lb bx.dot by.dot (same_behind pre (a ++ bx.tail) (b ++ by.tail) (sym left ∙ e ∙ right))).0)

pub below_under : (pre a x : List ℕ) → Below (pre ++ a) x → Under pre x
below_under pre a x b = record { rest = a ++ b.tail; is = b.is ∙ append_assoc pre a b.tail }

pub below_itself : (a : List ℕ) → Below a a
below_itself a = record { tail = []; is = itself a; dot = tt }

pub inside_below : (a x : List ℕ) → Under (a ++ 46 ∷ []) x → Below a x
inside_below a x u = record { tail = 46 ∷ u.rest; is = u.is ∙ append_assoc a (46 ∷ []) u.rest; dot = refl }

pub inside_differs : (a x : List ℕ) → Under (a ++ 46 ∷ []) x → a ≢ x
inside_differs a x u e =
    let long = ap length (e ∙ u.is ∙ append_assoc a (46 ∷ []) u.rest) in
    let parts = length-append a (46 ∷ u.rest) in
    absurd (omega (arith, long, parts))

-- ---- different texts

abbrev pub Apart : List (List ℕ) → Type 0
Apart [] = Unit {0}
Apart (x ∷ xs) = Each (λ (y : List ℕ). x ≢ y) xs × Apart xs

pub apart_append : (xs ys : List (List ℕ)) → Apart xs → Apart ys → Each (λ (x : List ℕ). Each (λ (y : List ℕ). x ≢ y) ys) xs → Apart (xs ++ ys)
apart_append [] ys h k cross = k
apart_append (x ∷ xs) ys h k cross = (each_append (λ (y : List ℕ). x ≢ y) xs ys h.0 cross.0, apart_append xs ys h.1 k cross.1)

pub apart_differ : (xs : List (List ℕ)) → Apart xs → (i j : ℕ) (x y : List ℕ) → slice_get xs i ≡ Some x → slice_get xs j ≡ Some y → x ≡ y → i ≡ j
apart_differ [] h i j x y ex ey e = absurd cc
apart_differ (z ∷ zs) h zero zero x y ex ey e = refl
apart_differ (z ∷ zs) h zero (suc j) x y ex ey e = let at : z ≡ x = cc in absurd (each_at (λ (w : List ℕ). z ≢ w) zs j y h.0 ey (at ∙ e))
apart_differ (z ∷ zs) h (suc i) zero x y ex ey e = let at : z ≡ y = cc in absurd (each_at (λ (w : List ℕ). z ≢ w) zs i x h.0 ex (at ∙ sym e))
apart_differ (z ∷ zs) h (suc i) (suc j) x y ex ey e = ap suc (apart_differ zs h.1 i j x y ex ey e)
