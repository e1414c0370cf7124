-- What an opening opened ends where the bytes first lead to its end.
use Rattle.std.proofs.Common.{◌≡◌, ◌≢◌, ℕ, suc, ◌+◌, ◌≤◌, Bool, true, false, cond, eqb, List, [], ◌∷◌, ◌++◌, length, take, Option, Some, None, refl, sym, ap, ◌∙◌, subst, arith}
use Rattle.std.specs.Prelude.{option_map}
use Rattle.room_lexer.specs.Enclosed.{is_blank, walk, After, Closes, len_after, closed_len, begins_string}
use Rattle.room_lexer.specs.declared.enclosed.Place.{Place}
use Rattle.room_lexer.specs.declared.enclosed.Step.{Step}
use Rattle.room_lexer.specs.declared.enclosed.Step.TheVariants.{On, Ends, Breaks}

-- ---- what ends is found so, whatever comes behind it

after_step : (b : ℕ) (bs rest : List ℕ) (s : Step) → After (λ q. Closes q bs) bs s → ((q : Place) → Closes q bs → closed_len q (bs ++ rest) ≡ Some (length bs)) → len_after (λ q. closed_len q (bs ++ rest)) s ≡ Some (length (b ∷ bs))
after_step b bs rest (On q) h more = ap (option_map (λ n. 1 + n)) (more q h) ∙ ap (λ (n : ℕ). Some n) (omega arith)
after_step b bs rest Ends h more = ap (λ (n : ℕ). Some n) (omega (arith, ap length h))
after_step b bs rest Breaks h more = absurd h

pub closed_again : (place : Place) (inside rest : List ℕ) → Closes place inside → closed_len place (inside ++ rest) ≡ Some (length inside)
unfolding closed_len
closed_again place [] rest h = absurd h
closed_again place (b ∷ bs) rest h = after_step b bs rest (walk place b) h (λ q closes. closed_again q bs rest closes)

pub stays_open : (place : Place) (bytes : List ℕ) → closed_len place bytes ≡ None → (inside after : List ℕ) → Closes place inside → bytes ≢ inside ++ after
stays_open place bytes none inside after h e = let some : None ≡ Some (length inside) = sym none ∙ ap (closed_len place) e ∙ closed_again place inside after h in cc

-- ---- what is found ends so

pub record IsClosed (place : Place) (bytes : List ℕ) (n : ℕ) : Type 0 where
  pub closes : Closes place (take n bytes)
  pub short : n ≤ length bytes

one_more : (place q : Place) (b k : ℕ) (bs : List ℕ) → walk place b ≡ On q → IsClosed q bs k → IsClosed place (b ∷ bs) (suc k)
one_more place q b k bs e h = record { closes = rw e h.closes; short = omega (arith, h.short) }

ends_here : (place : Place) (b : ℕ) (bs : List ℕ) → walk place b ≡ Ends → IsClosed place (b ∷ bs) 1
ends_here place b bs e = record { closes = rw e refl; short = omega arith }

on : (place q : Place) (b : ℕ) (bs : List ℕ) (n : ℕ) → walk place b ≡ On q → (o : Option ℕ) → ((k : ℕ) → o ≡ Some k → IsClosed q bs k) → option_map (λ (k : ℕ). 1 + k) o ≡ Some n → IsClosed place (b ∷ bs) n
on place q b bs n w None more e = absurd cc
on place q b bs n w (Some k) more e =
    let same : 1 + k ≡ n = cc in
    let less : suc k ≡ n = omega arith in
    subst (IsClosed place (b ∷ bs)) less (one_more place q b k bs w (more k refl))

by_step : (place : Place) (b : ℕ) (bs : List ℕ) (n : ℕ) (s : Step) → walk place b ≡ s → ((q : Place) (k : ℕ) → closed_len q bs ≡ Some k → IsClosed q bs k) → len_after (λ q. closed_len q bs) s ≡ Some n → IsClosed place (b ∷ bs) n
by_step place b bs n (On q) w more e = on place q b bs n w (closed_len q bs) (more q) e
by_step place b bs n Ends w more e = let same : 1 ≡ n = cc in subst (IsClosed place (b ∷ bs)) same (ends_here place b bs w)
by_step place b bs n Breaks w more e = absurd cc

pub closed_right : (place : Place) (bytes : List ℕ) (n : ℕ) → closed_len place bytes ≡ Some n → IsClosed place bytes n
unfolding closed_len
closed_right place [] n e = absurd cc
closed_right place (b ∷ bs) n e = by_step place b bs n (walk place b) refl (λ q k more. closed_right q bs k more) e

-- ---- a quote behind blanks

by_blank : (t r : Bool) (b : ℕ) (s : Bool) → (s ≡ true → r ≡ true) → cond t s (eqb b 34) ≡ true → cond t r (eqb b 34) ≡ true
by_blank true r b s more h = more h
by_blank false r b s more h = h

pub begins_string-append : (inside rest : List ℕ) → begins_string inside ≡ true → begins_string (inside ++ rest) ≡ true
unfolding begins_string
begins_string-append [] rest h = absurd cc
begins_string-append (b ∷ bs) rest h = by_blank (is_blank b) (begins_string (bs ++ rest)) b (begins_string bs) (λ more. begins_string-append bs rest more) h
