-- The bytes of names.
use Rattle.std.proofs.Common.{inl, inr, ◌≡◌, ℕ, suc, Bool, true, false, List, [], ◌∷◌, ◌++◌, refl, sym, arith, subst}
use Rattle.std.specs.Prelude.{◌==◌, ◌||◌, All}
use Rattle.std.specs.List.{list_all, join_with_byte}
use Rattle.std.proofs.lemmas.Bool.{and_parts, and_from}
use Rattle.room_wiring.specs.WellNamed.{begins_ident, is_digit, IsIdent, IsSegment, IsPath, IsStateLabel}

-- letters, digits and `_`
abbrev pub word_byte : ℕ → Bool
word_byte b = begins_ident b || is_digit b

-- the bytes of paths
abbrev pub path_byte : ℕ → Bool
path_byte b = word_byte b || (b == 47 || b == 58)

-- the bytes of labels
abbrev pub label_byte : ℕ → Bool
label_byte b = word_byte b || b == 46

or_left : (x y : Bool) → x ≡ true → (x || y) ≡ true
or_left true y e = refl
or_left false y e = absurd cc

widen : (p q : ℕ → Bool) (w : List ℕ) → ((b : ℕ) → p b ≡ true → q b ≡ true) → list_all p w ≡ true → list_all q w ≡ true
widen p q [] f h = refl
widen p q (b ∷ bs) f h = let parts = and_parts (p b) (list_all p bs) h in and_from (q b) (list_all q bs) (f b parts.0) (widen p q bs f parts.1)

both_all : (p : ℕ → Bool) (xs ys : List ℕ) → list_all p xs ≡ true → list_all p ys ≡ true → list_all p (xs ++ ys) ≡ true
both_all p [] ys h k = k
both_all p (x ∷ xs) ys h k = let parts = and_parts (p x) (list_all p xs) h in and_from (p x) (list_all p (xs ++ ys)) parts.0 (both_all p xs ys parts.1 k)

pub ident_bytes : (w : List ℕ) → IsIdent w → list_all word_byte w ≡ true
ident_bytes [] h = refl
ident_bytes (b ∷ bs) h =
    let parts = and_parts (begins_ident b) (list_all word_byte bs) h.ident in
    and_from (word_byte b) (list_all word_byte bs) (or_left (begins_ident b) (is_digit b) parts.0) parts.1

pub All-head : {A : Type 0} (P : A → Type 0) (x : A) (xs : List A) → All P (x ∷ xs) → P x
All-head P x xs h = h 0 x (omega arith)

pub All-tail : {A : Type 0} (P : A → Type 0) (x : A) (xs : List A) → All P (x ∷ xs) → All P xs
All-tail P x xs h k d lt = h (suc k) d (omega arith)

joined_bytes : (P : List ℕ → Type 0) (p : ℕ → Bool) (c : ℕ) (ws : List (List ℕ)) → ((w : List ℕ) → P w → list_all p w ≡ true) → p c ≡ true → All P ws → list_all p (join_with_byte c ws) ≡ true
joined_bytes P p c [] each sep h = refl
joined_bytes P p c (w ∷ []) each sep h = each w (All-head P w [] h)
joined_bytes P p c (w ∷ v ∷ ws) each sep h =
    both_all p w (c ∷ join_with_byte c (v ∷ ws)) (each w (All-head P w (v ∷ ws) h))
    (and_from (p c) (list_all p (join_with_byte c (v ∷ ws))) sep (joined_bytes P p c (v ∷ ws) each sep (All-tail P w (v ∷ ws) h)))

word_is_path : (b : ℕ) → word_byte b ≡ true → path_byte b ≡ true
word_is_path b e = or_left (word_byte b) (b == 47 || b == 58) e

word_is_label : (b : ℕ) → word_byte b ≡ true → label_byte b ≡ true
word_is_label b e = or_left (word_byte b) (b == 46) e

or_right : (x y : Bool) → y ≡ true → (x || y) ≡ true
or_right true y e = refl
or_right false y e = e

digit_is_path : (b : ℕ) → is_digit b ≡ true → path_byte b ≡ true
digit_is_path b e = word_is_path b (or_right (begins_ident b) (is_digit b) e)

segment_bytes : (w : List ℕ) → IsSegment w → list_all path_byte w ≡ true
segment_bytes w h =
    let name : list_all path_byte h.name ≡ true = widen word_byte path_byte h.name word_is_path (ident_bytes h.name h.named) in
    elim h.text_is [
      | inl e ↦ subst (λ (x : List ℕ). list_all path_byte x ≡ true) (sym e) name
      | inr e ↦
          let index : list_all path_byte h.index ≡ true = widen is_digit path_byte h.index digit_is_path h.digits in
          subst (λ (x : List ℕ). list_all path_byte x ≡ true) (sym e.1) (both_all path_byte h.name (58 ∷ h.index) name index)
    ]

pub path_bytes : (w : List ℕ) → IsPath w → list_all path_byte w ≡ true
path_bytes w h = subst (λ (x : List ℕ). list_all path_byte x ≡ true) (sym h.joined) (joined_bytes IsSegment path_byte 47 h.segments segment_bytes refl h.each)

name_label_bytes : (w : List ℕ) → IsIdent w → list_all label_byte w ≡ true
name_label_bytes w h = widen word_byte label_byte w word_is_label (ident_bytes w h)

pub label_bytes : (w : List ℕ) → IsStateLabel w → list_all label_byte w ≡ true
label_bytes w h = subst (λ (x : List ℕ). list_all label_byte x ≡ true) (sym h.joined) (joined_bytes IsIdent label_byte 46 h.names name_label_bytes refl h.each)
