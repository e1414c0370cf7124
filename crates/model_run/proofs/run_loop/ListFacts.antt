-- Tests of all elements of a list, and of some.
use Rattle.std.proofs.Common.{◌≡◌, ℕ, zero, suc, ◌&&◌, ◌||◌, not, Bool, true, false, List, [], ◌∷◌, length, slice_get, slice_index_or, Some, refl, sym, ap, ◌∙◌, arith, eqb-true}
use Rattle.std.specs.List.{list_any, list_all}
use Rattle.std.proofs.lemmas.Option.{slice_get_within}
use Rattle.room_kinds.specs.declared.message.Msg.{Msg}
use Rattle.controller_mail.specs.MailState.{has_messages}

pub both_left : (a b : Bool) → (a && b) ≡ true → a ≡ true
both_left true b h = refl
both_left false b h = h

pub both_right : (a b : Bool) → (a && b) ≡ true → b ≡ true
both_right true b h = h
both_right false b h = absurd cc

neither_left : (a b : Bool) → (a || b) ≡ false → a ≡ false
neither_left true b h = h
neither_left false b h = refl

neither_right : (a b : Bool) → (a || b) ≡ false → b ≡ false
neither_right true b h = absurd cc
neither_right false b h = h

-- where one of two tests holds, and the first is that another fails
pub either_then : (a b : Bool) → (not a || b) ≡ true → a ≡ true → b ≡ true
either_then true b h e = h
either_then false b h e = absurd cc

first_is : {X : Type 0} (x y : X) → Some x ≡ Some y → x ≡ y
first_is x y h = cc

pub all_true : {X : Type 0} (p : X → Bool) (xs : List X) → list_all p xs ≡ true → (c : ℕ) (x : X) → slice_get xs c ≡ Some x → p x ≡ true
all_true p [] h c x at = absurd (omega (arith, slice_get_within [] c x at))
all_true p (y ∷ ys) h zero x at = ap p (sym (first_is y x at)) ∙ both_left (p y) (list_all p ys) h
all_true p (y ∷ ys) h (suc c) x at = all_true p ys (both_right (p y) (list_all p ys) h) c x at

pub all_false : {X : Type 0} (p : X → Bool) (xs : List X) → list_any p xs ≡ false → (c : ℕ) (x : X) → slice_get xs c ≡ Some x → p x ≡ false
all_false p [] h c x at = absurd (omega (arith, slice_get_within [] c x at))
all_false p (y ∷ ys) h zero x at = ap p (sym (first_is y x at)) ∙ neither_left (p y) (list_any p ys) h
all_false p (y ∷ ys) h (suc c) x at = all_false p ys (neither_right (p y) (list_any p ys) h) c x at

-- an element of which a test holds
pub record Found {X : Type 0} (p : X → Bool) (xs : List X) : Type 0 where
  pub place : ℕ
  pub item : X
  pub there : slice_get xs place ≡ Some item
  pub holds : p item ≡ true

found_more : {X : Type 0} (p : X → Bool) (y : X) (ys : List X) (b : Bool) → p y ≡ b → (b || list_any p ys) ≡ true → (list_any p ys ≡ true → Found p ys) → Found p (y ∷ ys)
found_more p y ys true e h later = record { place = 0; item = y; there = refl; holds = e }
found_more p y ys false e h later =
    let f = later h in
    record { place = suc f.place; item = f.item; there = f.there; holds = f.holds }

pub found : {X : Type 0} (p : X → Bool) (xs : List X) → list_any p xs ≡ true → Found p xs
found p [] h = absurd cc
found p (y ∷ ys) h = found_more p y ys (p y) refl h (λ k. found p ys k)

pub empty_list : {X : Type 0} (xs : List X) → length xs ≡ 0 → xs ≡ []
empty_list [] h = refl
empty_list (x ∷ xs) h = absurd (omega arith)

not_false : (a : Bool) → not a ≡ false → a ≡ true
not_false true h = refl
not_false false h = absurd cc

-- where no list has messages, each is empty
pub none_pending : (lists : List (List Msg)) → list_any has_messages lists ≡ false → (p : ℕ) → slice_index_or lists p [] ≡ []
none_pending [] h p = refl
none_pending (list ∷ lists) h zero = empty_list list (eqb-true (length list) 0 (not_false _ (neither_left (has_messages list) (list_any has_messages lists) h)))
none_pending (list ∷ lists) h (suc p) = none_pending lists (neither_right (has_messages list) (list_any has_messages lists) h) p
