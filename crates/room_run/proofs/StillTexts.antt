-- A text none of whose lines moves virtual time on is read alike where such lines are refused.
use Rattle.std.proofs.Common.{◌≡◌, ℕ, ◌+◌, Bool, true, false, cond, List, [], ◌∷◌, ◌++◌, length, refl, sym, ap, ◌∙◌, subst, Option, Some, None, Result, Ok, Err, nat_lt}
use Rattle.std.specs.List.{AllByRecursion}
use Rattle.std.specs.Str.Lines.{lines}
use Rattle.room_wiring.specs.declared.tables.Tables.{Tables}
use Rattle.inject_reader.specs.declared.inject_lines.accepted.Advances.TheVariants.{Taken, Refused}
use Rattle.inject_reader.specs.declared.inject_lines.accepted.What.{What}
use Rattle.inject_reader.specs.declared.inject_lines.accepted.What.TheVariants as whats
use Rattle.inject_reader.specs.declared.inject_lines.accepted.Line.{Line}
use Rattle.inject_reader.specs.inject_lines.Forms.{LineForm, Settle, Advance, Message, form_in}
use Rattle.inject_reader.specs.Meaning.{Fault, ◌>>=◌, coded, form_meant, line_meant}
use Rattle.inject_reader.specs.Answer.{is_passed_over, numbered, joined, entry_at, entries_from, answer}
use Rattle.inject_reader.specs.Fitting.{StandsStill, AreUntimed}

bind_ok : {A B : Type 0} (r : Result A Fault) (f : A → Result B Fault) (y : B) → (r >>= f) ≡ Ok y → (x : A) × (r ≡ Ok x) × (f x ≡ Ok y)
bind_ok (Ok x) f y h = (x, refl, h)
bind_ok (Err e) f y h = absurd cc

still_parts : (xs ys : List Line) → AreUntimed (xs ++ ys) → AreUntimed xs × AreUntimed ys
still_parts [] ys h = (tt, h)
still_parts (x ∷ xs) ys h = let more = still_parts xs ys h.1 in ((h.0, more.0), more.1)

module _ (t : Tables) where
  line_alike : (n : ℕ) (text : List ℕ) (w : What) → line_meant Taken t n text ≡ Ok w → StandsStill w → line_meant Refused t n text ≡ Ok w
  unfolding line_meant
  line_alike n text w h still = by_form (form_in text) h
    where
      by_form : (f : Option LineForm) → (coded n 1 f >>= form_meant Taken t n) ≡ Ok w → (coded n 1 f >>= form_meant Refused t n) ≡ Ok w
      by_form None k = k
      by_form (Some Settle) k = k
      by_form (Some (Message m)) k = k
      by_form (Some (Advance time)) k = let is : whats.Advance time ≡ w = cc in absurd (subst StandsStill (sym is) still)

  entry_alike : (n : ℕ) (text : List ℕ) (ls : List Line) → entry_at Taken t n text ≡ Ok ls → AreUntimed ls → entry_at Refused t n text ≡ Ok ls
  unfolding entry_at
  entry_alike n text ls = by_test (is_passed_over text)
    where
      by_test : (p : Bool) → cond p (Ok []) (line_meant Taken t n text >>= λ what. Ok (numbered n what)) ≡ Ok ls → AreUntimed ls
          → cond p (Ok []) (line_meant Refused t n text >>= λ what. Ok (numbered n what)) ≡ Ok ls
      by_test true h still = h
      by_test false h still =
          let what = bind_ok (line_meant Taken t n text) (λ what. Ok (numbered n what)) ls h in
          let one : numbered n what.0 ≡ ls = cc in
          let own : StandsStill what.0 = (subst AreUntimed (sym one) still).0 in
          ap (λ (r : Result What Fault). r >>= λ what. Ok (numbered n what)) (line_alike n text what.0 what.1 own) ∙ what.2

  entries_alike : (n : ℕ) (texts : List (List ℕ)) (ls : List Line) → entries_from Taken t n texts ≡ Ok ls → AreUntimed ls → entries_from Refused t n texts ≡ Ok ls
  entries_alike n [] ls h still = h
  entries_alike n (text ∷ more) ls h still =
      let front = bind_ok (entry_at Taken t n text) (λ front. entries_from Taken t (n + 1) more >>= λ back. Ok (front ++ back)) ls h in
      let back = bind_ok (entries_from Taken t (n + 1) more) (λ back. Ok (front.0 ++ back)) ls front.2 in
      let whole : front.0 ++ back.0 ≡ ls = cc in
      let parts = still_parts front.0 back.0 (subst AreUntimed (sym whole) still) in
      ap (λ (r : Result (List Line) Fault). joined r (entries_from Refused t (n + 1) more)) (entry_alike n text front.0 front.1 parts.0)
      ∙ ap (λ (r : Result (List Line) Fault). joined (Ok front.0) r) (entries_alike (n + 1) more back.0 back.1 parts.1) ∙ back.2

  pub answers_alike : (text : List ℕ) (ls : List Line) → answer Taken t text ≡ Ok ls → AreUntimed ls → answer Refused t text ≡ Ok ls
  unfolding answer
  answers_alike text ls = by_test (nat_lt 10000 (length (lines text)))
    where
      by_test : (b : Bool) → cond b (Err (10001, 6)) (entries_from Taken t 1 (lines text)) ≡ Ok ls → AreUntimed ls
          → cond b (Err (10001, 6)) (entries_from Refused t 1 (lines text)) ≡ Ok ls
      by_test true h still = absurd cc
      by_test false h still = entries_alike 1 (lines text) ls h still
