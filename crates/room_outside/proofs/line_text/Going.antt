-- How far a loop has come that puts one part after another.
use Rattle.std.proofs.Common.{◌≡◌, ℕ, ◌+◌, ◌<◌, ◌≤◌, List, [], ◌∷◌, ◌++◌, length, get_or, take, drop, refl, sym, ◌∙◌, ap, append_assoc, append-nil}
use Rattle.std.specs.List.{flat_map, concat}
use Rattle.room_outside.specs.declared.line_text.part.Part.{Part}
use Rattle.room_outside.specs.line_text.Parts.{part_text, part_texts}
use Rattle.std.proofs.lemmas.List.{at_drop_more, at_drop_all, take-append-drop}
use Rattle.room_outside.specs.Written.{Written}
use Rattle.room_outside.specs.line_text.Output.{Held, Output, Stop, Put, Breaks, holding}
use Rattle.room_outside.proofs.line_text.OutputLemmas.{put_none, put_held, put_two, breaks_first, breaks_second}

-- of the whole, all but the rest was put
pub record Going (start now : Output) (whole rest : List ℕ) : Type 0 where
  pub done : List ℕ
  pub put : Put start now done
  pub split : whole ≡ done ++ rest

pub going_begin : (a : Output) (whole : List ℕ) → Going a a whole whole
going_begin a whole = record { done = []; put = put_none a; split = refl }

pub going_on : (a b c : Output) (whole x rest : List ℕ) → Going a b whole (x ++ rest) → Put b c x → Going a c whole rest
going_on a b c whole x rest g p = record {
  done = g.done ++ x;
  put = put_two a b c g.done x g.put p;
  split = g.split ∙ sym (append_assoc g.done x rest);
}

-- room was made in the buffer, and a front of what is left went in
pub going_fills : (a b : Output) (w : Written) (held : Held) (whole rest : List ℕ) (n : ℕ)
    → Going a b whole rest → Put b (record { written = w; held = held }) []
    → Going a (record { written = w; held = holding held (take n rest) }) whole (drop n rest)
going_fills a b w held whole rest n g p = record {
  done = g.done ++ take n rest;
  put = put_two _ _ _ g.done (take n rest) g.put (put_two _ _ _ [] (take n rest) p (put_held w held (take n rest)));
  split = g.split ∙ (ap (λ l. g.done ++ l) (sym (take-append-drop n rest)) ∙ sym (append_assoc g.done (take n rest) (drop n rest)));
}

pub going_end : (a b : Output) (whole : List ℕ) → Going a b whole [] → Put a b whole
going_end a b whole g = rw (g.split, append-nil g.done) g.put

pub going_breaks : (a b : Output) (w : Stop) (whole x rest : List ℕ) → Going a b whole (x ++ rest) → Breaks b w x → Breaks a w whole
going_breaks a b w whole x rest g p =
    rw g.split (breaks_second a b w g.done (x ++ rest) g.put (breaks_first b w x rest p))

-- the next item's part stands in front, where the item is read with a default
pub going_at : {A : Type 0} (f : A → List ℕ) (a b : Output) (whole : List ℕ) (xs : List A) (i : ℕ) (d : A)
    → i < length xs → Going a b whole (flat_map f (drop i xs)) → Going a b whole (f (get_or xs i d) ++ flat_map f (drop (i + 1) xs))
going_at f a b whole xs i d h g =
    let next = at_drop_more (flat_map f) xs i d h in
    record { done = g.done; put = g.put; split = g.split ∙ ap (λ l. g.done ++ l) next }

-- the next item's part stands in front
pub going_item : {A : Type 0} (f : A → List ℕ) (a b : Output) (whole : List ℕ) (xs : List A) (i : ℕ) (x : A)
    → i < length xs → x ≡ get_or xs i x → Going a b whole (flat_map f (drop i xs)) → Going a b whole (f x ++ flat_map f (drop (i + 1) xs))
going_item f a b whole xs i x h e g =
    let at = going_at f a b whole xs i x h g in
    record { done = at.done; put = at.put; split = at.split ∙ ap (λ y. at.done ++ (f y ++ flat_map f (drop (i + 1) xs))) (sym e) }

-- no item is left
pub going_all : {A : Type 0} (f : A → List ℕ) (a b : Output) (whole : List ℕ) (xs : List A) (i : ℕ)
    → length xs ≤ i → Going a b whole (flat_map f (drop i xs)) → Put a b whole
going_all f a b whole xs i h g =
    let over = at_drop_all (flat_map f) xs i h in
    going_end a b whole (record { done = g.done; put = g.put; split = g.split ∙ ap (λ l. g.done ++ l) over })

-- parts joined in order
pub joined_parts : (parts : List Part) → concat (part_texts parts) ≡ flat_map part_text parts
joined_parts [] = refl
joined_parts (p ∷ parts) = ap (λ l. part_text p ++ l) (joined_parts parts)
