-- Texts of paths.
use Rattle.std.proofs.Common.{◌≡◌, ◌≢◌, ◌∙◌, ℕ, ◌^◌, ◌<◌, Bool, true, false, List, [], ◌∷◌, ◌++◌, append_assoc, length, length-append, refl, sym, ap, arith}
use Rattle.std.specs.Prelude.{decimal, ◌||◌}
use Rattle.std.specs.List.{list_all}
use Rattle.std.specs.Str.{all_ascii_digits}
use Rattle.std.specs.Char.{is_ascii_digit}
use Rattle.std.proofs.lemmas.Bool.{and_parts, and_from}
use Rattle.text_reading.proofs.Decimals.{own}
use Rattle.std.proofs.lemmas.Fmt.{digits_decimal, decimal_injective}
use Rattle.wiring_slots.specs.slot_tree.Slots.{index_text, segment_text}
use Rattle.wiring_slots.specs.declared.slot_tree.names.ReferenceLabel.{ReferenceLabel}
use Rattle.room_wiring.specs.WellNamed.{begins_ident, is_digit, IsIdent}

-- a text without this byte
abbrev pub Lacks : ℕ → List ℕ → Type 0
Lacks b [] = Unit {0}
Lacks b (c ∷ cs) = (c ≢ b) × Lacks b cs

-- letters, digits and `_`
abbrev pub word_byte : ℕ → Bool
word_byte b = begins_ident b || is_digit b

or_left : (x y : Bool) → x ≡ true → (x || y) ≡ true
or_left true y e = refl
or_left false y e = absurd cc

pub ident_bytes : (w : List ℕ) → IsIdent w → list_all word_byte w ≡ true
ident_bytes [] h = refl
ident_bytes (b ∷ bs) h =
    let parts = and_parts (begins_ident b) (list_all word_byte bs) h.ident in
    and_from (word_byte b) (list_all word_byte bs) (or_left (begins_ident b) (is_digit b) parts.0) parts.1

words_lack : (c : ℕ) (w : List ℕ) → word_byte c ≡ false → list_all word_byte w ≡ true → Lacks c w
words_lack c [] other h = tt
words_lack c (b ∷ bs) other h =
    let parts = and_parts (word_byte b) (list_all word_byte bs) h in
    (λ is. let both : true ≡ false = sym parts.0 ∙ ap word_byte is ∙ other in absurd cc, words_lack c bs other parts.1)

pub no_slash : (w : List ℕ) → IsIdent w → Lacks 47 w
no_slash w h = words_lack 47 w refl (ident_bytes w h)

pub no_colon : (w : List ℕ) → IsIdent w → Lacks 58 w
no_colon w h = words_lack 58 w refl (ident_bytes w h)

-- nothing, or a text that begins with this byte
abbrev pub Tail : ℕ → List ℕ → Type 0
Tail b [] = Unit {0}
Tail b (c ∷ cs) = c ≡ b

pub lacks_append : (b : ℕ) (xs ys : List ℕ) → Lacks b xs → Lacks b ys → Lacks b (xs ++ ys)
lacks_append b [] ys h k = k
lacks_append b (x ∷ xs) ys h k = (h.0, lacks_append b xs ys h.1 k)

-- where the fronts of equal texts lack a byte with which their tails begin, the fronts are the same
pub same_front : (b : ℕ) (xs ys t u : List ℕ) → Lacks b xs → Lacks b ys → Tail b t → Tail b u → xs ++ t ≡ ys ++ u → (xs ≡ ys) × (t ≡ u)
same_front b [] [] t u lx ly tt' uu e = (refl, e)
same_front b [] (y ∷ ys) [] u lx ly tt' uu e = absurd cc
same_front b [] (y ∷ ys) (c ∷ t) u lx ly tt' uu e = let same : c ≡ y = cc in absurd (ly.0 (sym same ∙ tt'))
same_front b (x ∷ xs) [] t [] lx ly tt' uu e = absurd cc
same_front b (x ∷ xs) [] t (c ∷ u) lx ly tt' uu e = let same : x ≡ c = cc in absurd (lx.0 (same ∙ uu))
same_front b (x ∷ xs) (y ∷ ys) t u lx ly tt' uu e =
    let first : x ≡ y = cc in
    let rest : xs ++ t ≡ ys ++ u = cc in
    let both = same_front b xs ys t u lx.1 ly.1 tt' uu rest in
    (ap (λ z. z ∷ xs) first ∙ ap (λ zs. y ∷ zs) both.0, both.1)

pub same_behind : (p xs ys : List ℕ) → p ++ xs ≡ p ++ ys → xs ≡ ys
same_behind [] xs ys e = e
same_behind (b ∷ p) xs ys e = let rest : p ++ xs ≡ p ++ ys = cc in same_behind p xs ys rest

-- ---- digits

digits_lack : (w : List ℕ) → all_ascii_digits w ≡ true → Lacks 47 w
digits_lack [] h = tt
digits_lack (b ∷ bs) h =
    let parts = and_parts (is_ascii_digit b) (all_ascii_digits bs) h in
    (λ is. let no : is_ascii_digit 47 ≡ true = ap is_ascii_digit (sym is) ∙ parts.0 in absurd cc, digits_lack bs parts.1)

decimal_lacks : (n : ℕ) → n < 2 ^ 64 → Lacks 47 (decimal n)
decimal_lacks n h = digits_lack (decimal n) (digits_decimal own n h)

-- ---- segments

colon_differs : ◌≢◌ {A = ℕ} 58 47
colon_differs e = absurd (omega arith)

index_lacks : (r : Bool) (i : ℕ) → i < 2 ^ 32 → Lacks 47 (index_text r i)
index_lacks true i h = (colon_differs, decimal_lacks i (omega arith))
index_lacks false i h = tt

pub segment_lacks : (a : ReferenceLabel) (i : ℕ) → i < 2 ^ 32 → Lacks 47 a.name → Lacks 47 (segment_text i a)
segment_lacks a i h no_slash = lacks_append 47 a.name (index_text a.replicated i) no_slash (index_lacks a.replicated i h)

index_tail : (r : Bool) (i : ℕ) → Tail 58 (index_text r i)
index_tail true i = refl
index_tail false i = tt

-- the same segments have the same names and the same indexes
pub same_segment : (a b : ReferenceLabel) (i j : ℕ) → Lacks 58 a.name → Lacks 58 b.name → segment_text i a ≡ segment_text j b → (a.name ≡ b.name) × (index_text a.replicated i ≡ index_text b.replicated j)
same_segment a b i j la lb e = same_front 58 a.name b.name (index_text a.replicated i) (index_text b.replicated j) la lb (index_tail a.replicated i) (index_tail b.replicated j) e

pub same_index : (i j : ℕ) → i < 2 ^ 32 → j < 2 ^ 32 → index_text true i ≡ index_text true j → i ≡ j
same_index i j small also e = let digits : decimal i ≡ decimal j = cc in decimal_injective i j (omega arith) (omega arith) digits

-- ---- paths

-- a path that is one segment behind a prefix
pub record Segment (pre path : List ℕ) : Type 0 where
  pub segment : List ℕ
  pub is : path ≡ pre ++ segment
  pub plain : Lacks 47 segment

-- a path, or one below it
pub record Below (base path : List ℕ) : Type 0 where
  pub tail : List ℕ
  pub is : path ≡ base ++ tail
  pub slash : Tail 47 tail

-- a path behind a prefix
pub record Under (pre path : List ℕ) : Type 0 where
  pub rest : List ℕ
  pub is : path ≡ pre ++ rest

-- what lies below different segments differs
pub below_differ : (pre a b x y : List ℕ) → Segment pre a → Segment pre b → a ≢ b → Below a x → Below b y → x ≢ y
below_differ pre a b x y sa sb ne bx by e =
    let left : x ≡ pre ++ (sa.segment ++ bx.tail) = bx.is ∙ ap (λ z. z ++ bx.tail) sa.is ∙ append_assoc pre sa.segment bx.tail in
    let right : y ≡ pre ++ (sb.segment ++ by.tail) = by.is ∙ ap (λ z. z ++ by.tail) sb.is ∙ append_assoc pre sb.segment by.tail in
    let both = same_front 47 sa.segment sb.segment bx.tail by.tail sa.plain sb.plain bx.slash by.slash (same_behind pre (sa.segment ++ bx.tail) (sb.segment ++ by.tail) (sym left ∙ e ∙ right)) in
    absurd (ne (sa.is ∙ ap (λ z. pre ++ z) both.0 ∙ sym sb.is))

pub below_under : (pre a x : List ℕ) → Segment pre a → Below a x → Under pre x
below_under pre a x s b = record { rest = s.segment ++ b.tail; is = b.is ∙ ap (λ z. z ++ b.tail) s.is ∙ append_assoc pre s.segment b.tail }

pub itself : (a : List ℕ) → a ≡ a ++ []
itself [] = refl
itself (b ∷ bs) = ap (λ z. b ∷ z) (itself bs)

-- what lies inside a slot lies below its path
pub inside_below : (a x : List ℕ) → Under (a ++ 47 ∷ []) x → Below a x
inside_below a x u = record { tail = 47 ∷ u.rest; is = u.is ∙ append_assoc a (47 ∷ []) u.rest; slash = refl }

pub inside_differs : (a x : List ℕ) → Under (a ++ 47 ∷ []) x → a ≢ x
inside_differs a x u e =
    let long = ap length (e ∙ u.is ∙ append_assoc a (47 ∷ []) u.rest) in
    let parts = length-append a (47 ∷ u.rest) in
    absurd (omega (arith, long, parts))
