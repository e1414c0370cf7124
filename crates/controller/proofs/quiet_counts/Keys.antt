-- The lanes to which entries post and from which they fetch, counted.
use Rattle.std.proofs.Common.{◌≡◌, ℕ, zero, suc, ◌+◌, ◌<◌, ◌==◌, Bool, true, false, cond, if◌then◌else◌, List, [], ◌∷◌, ◌++◌, length, slice_index_or, refl, sym, ap, ◌∙◌, arith, length-append}
use Rattle.std.proofs.lemmas.Bool.{ne_eqb, true≢false}
use Rattle.std.specs.List.{sum_by, count_by}
use Rattle.std.proofs.lemmas.List.Sums.{sum_by-cons}
use Rattle.room_kinds.specs.declared.message.Msg.{Msg}
use Rattle.journal.specs.declared.entry.Entry.{Entry}
use Rattle.journal.specs.declared.entry.Entry.TheVariants as entry
use Rattle.actor_merge.specs.Mail.{Lane, lane, is_lane, takes, gives, taken, given}
use Rattle.actor_merge.proofs.Lanes.{is_lane-true, is_lane-same, is_lane-sender, is_lane-receiver}
use Rattle.controller.specs.Calls.{is_post, is_fetch}
use Rattle.controller.specs.quiet_counts.Counts.{is_post_to}
use Rattle.controller.proofs.quiet_counts.Bags.{times, TellsApart}

pub lanes_tell_apart : TellsApart is_lane
lanes_tell_apart = record { itself = is_lane-same; one = is_lane-true }

times_append : {X : Type 0} (p : X → Bool) (xs ys : List X) → times p (xs ++ ys) ≡ times p xs + times p ys
times_append p [] ys = omega arith
times_append p (x ∷ xs) ys = let h = times_append p xs ys in omega arith

-- what all entries of a party show
abbrev pub of_all : {X : Type 0} → (ℕ → Entry → List X) → ℕ → List Entry → List X
of_all f party [] = []
of_all f party (e ∷ es) = f party e ++ of_all f party es

-- the same of all parties, the first of which has this number
abbrev pub of_parties : {X : Type 0} → (ℕ → Entry → List X) → ℕ → List (List Entry) → List X
of_parties f c [] = []
of_parties f c (es ∷ rest) = of_all f c es ++ of_parties f (suc c) rest

-- the lanes that a party's entry names, which are those whose messages it moves: only at lanes that have the
-- party at this end, and only where it passes a test
pub record Names (key : ℕ → Entry → List Lane) (moves : Lane → ℕ → Entry → List Msg) (end : Lane → ℕ) (test : Entry → Bool) : Type 0 where
  pub own : (l : Lane) (party : ℕ) (e : Entry) → times (is_lane l) (key party e) ≡ length (moves l party e)
  pub others : (l : Lane) (party : ℕ) (e : Entry) → (end l == party) ≡ false → moves l party e ≡ []
  pub count : (party : ℕ) (e : Entry) → length (key party e) ≡ cond (test e) 1 0

module _ (key : ℕ → Entry → List Lane) (moves : Lane → ℕ → Entry → List Msg) (end : Lane → ℕ) (test : Entry → Bool) (n : Names key moves end test) where
  pub own_all : (l : Lane) (party : ℕ) (es : List Entry) → times (is_lane l) (of_all key party es) ≡ length (of_all (moves l) party es)
  own_all l party [] = refl
  own_all l party (e ∷ es) =
      let h = own_all l party es in
      let o = n.own l party e in
      times_append (is_lane l) (key party e) (of_all key party es) ∙ omega (arith, length-append (moves l party e) (of_all (moves l) party es))

  pub others_all : (l : Lane) (party : ℕ) (es : List Entry) → (end l == party) ≡ false → of_all (moves l) party es ≡ []
  others_all l party [] h = refl
  others_all l party (e ∷ es) h = ap (λ z. z ++ of_all (moves l) party es) (n.others l party e h) ∙ others_all l party es h

  pub count_all : (party : ℕ) (es : List Entry) → length (of_all key party es) ≡ count_by test es
  count_all party [] = refl
  count_all party (e ∷ es) =
      let h = count_all party es in
      let o = n.count party e in
      length-append (key party e) (of_all key party es) ∙ omega arith ∙ sym (sum_by-cons (λ x. cond (test x) 1 0) e es)

  pub count_parties : (c : ℕ) (js : List (List Entry)) → length (of_parties key c js) ≡ sum_by (count_by test) js
  count_parties c [] = refl
  count_parties c (es ∷ js) =
      let h = count_parties (suc c) js in
      let o = count_all c es in
      length-append (of_all key c es) (of_parties key (suc c) js) ∙ omega arith ∙ sym (sum_by-cons (count_by test) es js)

  none_at : (l : Lane) (party : ℕ) (es : List Entry) → (end l ≡ party → ⊥) → times (is_lane l) (of_all key party es) ≡ 0
  none_at l party es h = own_all l party es ∙ ap (λ (z : List Msg). length z) (others_all l party es (ne_eqb (end l) party h))

  -- parties behind this end
  behind : (l : Lane) (c : ℕ) (js : List (List Entry)) → end l < c → times (is_lane l) (of_parties key c js) ≡ 0
  behind l c [] h = refl
  behind l c (es ∷ js) h =
      let a = none_at l c es (λ e. omega arith) in
      let b = behind l (suc c) js (omega arith) in
      times_append (is_lane l) (of_all key c es) (of_parties key (suc c) js) ∙ omega arith

  -- of all parties the one at this end alone moves messages of the lane
  from_end : (l : Lane) (c d : ℕ) (js : List (List Entry)) → end l ≡ c + d → times (is_lane l) (of_parties key c js) ≡ length (of_all (moves l) (end l) (slice_index_or js d []))
  from_end l c d [] e = refl
  from_end l c zero (es ∷ js) e =
      let a = own_all l c es in
      let b = behind l (suc c) js (omega arith) in
      let same : c ≡ end l = omega arith in
      times_append (is_lane l) (of_all key c es) (of_parties key (suc c) js) ∙ omega arith ∙ ap (λ z. length (of_all (moves l) z es)) same
  from_end l c (suc d) (es ∷ js) e =
      let a = none_at l c es (λ h. omega arith) in
      times_append (is_lane l) (of_all key c es) (of_parties key (suc c) js) ∙ ap (λ z. z + times (is_lane l) (of_parties key (suc c) js)) a
      ∙ omega (arith, from_end l (suc c) d js (omega arith))

  pub at_end : (l : Lane) (js : List (List Entry)) → times (is_lane l) (of_parties key 0 js) ≡ length (of_all (moves l) (end l) (slice_index_or js (end l) []))
  at_end l js = from_end l 0 (end l) js (omega arith)

-- what is posted to a lane, and what is fetched from it
pub given_is : (l : Lane) (party : ℕ) (es : List Entry) → of_all (gives l) party es ≡ given l party es
given_is l party [] = refl
given_is l party (e ∷ es) = ap (λ z. gives l party e ++ z) (given_is l party es)

pub taken_is : (l : Lane) (party : ℕ) (es : List Entry) → of_all (takes l) party es ≡ taken l party es
taken_is l party [] = refl
taken_is l party (e ∷ es) = ap (λ z. takes l party e ++ z) (taken_is l party es)

one_if : (b : Bool) (m : Msg) → ◌≡◌ {A = ℕ} (cond b 1 0 + 0) (length (if b then m ∷ [] else []))
one_if true m = omega arith
one_if false m = omega arith

-- the lane to which an entry posts
abbrev pub post_key : ℕ → Entry → List Lane
post_key party (entry.Post stamp m) = lane party m.to.0 m.prio.0 ∷ []
post_key party (entry.Fetch stamp m) = []
post_key party (entry.Turn stamp from sent did notes) = []
post_key party (entry.Start who state notes) = []

post_own : (l : Lane) (party : ℕ) (e : Entry) → times (is_lane l) (post_key party e) ≡ length (gives l party e)
post_own l party (entry.Post stamp m) = one_if (is_lane l (lane party m.to.0 m.prio.0)) m
post_own l party (entry.Fetch stamp m) = refl
post_own l party (entry.Turn stamp from sent did notes) = refl
post_own l party (entry.Start who state notes) = refl

post_others : (l : Lane) (party : ℕ) (e : Entry) → (l.sender == party) ≡ false → gives l party e ≡ []
post_others l party (entry.Post stamp m) h = ap (λ (b : Bool). if b then m ∷ [] else []) (is_lane-sender l (lane party m.to.0 m.prio.0) h)
post_others l party (entry.Fetch stamp m) h = refl
post_others l party (entry.Turn stamp from sent did notes) h = refl
post_others l party (entry.Start who state notes) h = refl

post_count : (party : ℕ) (e : Entry) → ◌≡◌ {A = ℕ} (length (post_key party e)) (cond (is_post e) 1 0)
post_count party (entry.Post stamp m) = refl
post_count party (entry.Fetch stamp m) = refl
post_count party (entry.Turn stamp from sent did notes) = refl
post_count party (entry.Start who state notes) = refl

pub posts_name : Names post_key gives (λ l. l.sender) is_post
posts_name = record { own = post_own; others = post_others; count = post_count }

-- the lane from which an entry fetches
abbrev pub fetch_key : ℕ → Entry → List Lane
fetch_key party (entry.Post stamp m) = []
fetch_key party (entry.Fetch stamp m) = lane m.from.0 party m.prio.0 ∷ []
fetch_key party (entry.Turn stamp from sent did notes) = []
fetch_key party (entry.Start who state notes) = []

fetch_own : (l : Lane) (party : ℕ) (e : Entry) → times (is_lane l) (fetch_key party e) ≡ length (takes l party e)
fetch_own l party (entry.Post stamp m) = refl
fetch_own l party (entry.Fetch stamp m) = one_if (is_lane l (lane m.from.0 party m.prio.0)) m
fetch_own l party (entry.Turn stamp from sent did notes) = refl
fetch_own l party (entry.Start who state notes) = refl

fetch_others : (l : Lane) (party : ℕ) (e : Entry) → (l.receiver == party) ≡ false → takes l party e ≡ []
fetch_others l party (entry.Post stamp m) h = refl
fetch_others l party (entry.Fetch stamp m) h = ap (λ (b : Bool). if b then m ∷ [] else []) (is_lane-receiver l (lane m.from.0 party m.prio.0) h)
fetch_others l party (entry.Turn stamp from sent did notes) h = refl
fetch_others l party (entry.Start who state notes) h = refl

fetch_count : (party : ℕ) (e : Entry) → ◌≡◌ {A = ℕ} (length (fetch_key party e)) (cond (is_fetch e) 1 0)
fetch_count party (entry.Post stamp m) = refl
fetch_count party (entry.Fetch stamp m) = refl
fetch_count party (entry.Turn stamp from sent did notes) = refl
fetch_count party (entry.Start who state notes) = refl

pub fetches_name : Names fetch_key takes (λ l. l.receiver) is_fetch
fetches_name = record { own = fetch_own; others = fetch_others; count = fetch_count }

empty_if : (b : Bool) → ◌≡◌ {A = List Msg} (if b then [] else []) []
empty_if true = refl
empty_if false = refl

nothing_if : (b : Bool) → ◌≡◌ {A = ℕ} 0 (length {A = Msg} (if b then [] else []))
nothing_if true = refl
nothing_if false = refl

length_if : (b : Bool) (k : Lane) → ◌≡◌ {A = ℕ} (length (if b then k ∷ [] else [])) (cond b 1 0)
length_if true k = refl
length_if false k = refl

joined_if : (b : Bool) (x y : List Msg) → (if b then x else []) ++ (if b then y else []) ≡ (if b then x ++ y else [])
joined_if true x y = refl
joined_if false x y = refl

-- lanes of which one leads to a controller and the other doesn't are two
apart_at : (c : ℕ) (l k : Lane) (b d : Bool) → (l.receiver == c) ≡ b → (k.receiver == c) ≡ d → (b ≡ d → ⊥) → is_lane l k ≡ false
apart_at c l k b d p q differ =
    is_lane-receiver l k (ne_eqb l.receiver k.receiver (λ e. differ (sym p ∙ ap (λ z. z == c) e ∙ q)))

-- the lane to which an entry posts, if it posts to this controller
abbrev pub post_to_key : ℕ → ℕ → Entry → List Lane
post_to_key c party (entry.Post stamp m) = if m.to.0 == c then lane party m.to.0 m.prio.0 ∷ [] else []
post_to_key c party (entry.Fetch stamp m) = []
post_to_key c party (entry.Turn stamp from sent did notes) = []
post_to_key c party (entry.Start who state notes) = []

-- what an entry gives to a lane, if this controller is its receiver
abbrev pub gives_to : ℕ → Lane → ℕ → Entry → List Msg
gives_to c l party e = if l.receiver == c then gives l party e else []

two_ends : (c : ℕ) (l k : Lane) (m : Msg) (b d : Bool) → (l.receiver == c) ≡ b → (k.receiver == c) ≡ d
    → ◌≡◌ {A = ℕ} (times (is_lane l) (if d then k ∷ [] else [])) (length (if b then (if is_lane l k then m ∷ [] else []) else []))
two_ends c l k m true true p q = one_if (is_lane l k) m
two_ends c l k m false false p q = refl
two_ends c l k m true false p q = sym (ap (λ (b : Bool). length (if b then m ∷ [] else [])) (apart_at c l k true false p q (λ e. true≢false e)))
two_ends c l k m false true p q = ap (λ (b : Bool). cond b 1 0 + 0) (apart_at c l k false true p q (λ e. true≢false (sym e)))

post_to_own : (c : ℕ) (l : Lane) (party : ℕ) (e : Entry) → times (is_lane l) (post_to_key c party e) ≡ length (gives_to c l party e)
post_to_own c l party (entry.Post stamp m) = two_ends c l (lane party m.to.0 m.prio.0) m (l.receiver == c) (m.to.0 == c) refl refl
post_to_own c l party (entry.Fetch stamp m) = nothing_if (l.receiver == c)
post_to_own c l party (entry.Turn stamp from sent did notes) = nothing_if (l.receiver == c)
post_to_own c l party (entry.Start who state notes) = nothing_if (l.receiver == c)

post_to_others : (c : ℕ) (l : Lane) (party : ℕ) (e : Entry) → (l.sender == party) ≡ false → gives_to c l party e ≡ []
post_to_others c l party e h = ap (λ (z : List Msg). if l.receiver == c then z else []) (post_others l party e h) ∙ empty_if (l.receiver == c)

post_to_count : (c party : ℕ) (e : Entry) → ◌≡◌ {A = ℕ} (length (post_to_key c party e)) (cond (is_post_to c e) 1 0)
post_to_count c party (entry.Post stamp m) = length_if (m.to.0 == c) (lane party m.to.0 m.prio.0)
post_to_count c party (entry.Fetch stamp m) = refl
post_to_count c party (entry.Turn stamp from sent did notes) = refl
post_to_count c party (entry.Start who state notes) = refl

pub posts_to_name : (c : ℕ) → Names (post_to_key c) (gives_to c) (λ l. l.sender) (is_post_to c)
posts_to_name c = record { own = post_to_own c; others = post_to_others c; count = post_to_count c }

-- what is posted to a lane to this controller is all that is posted to it, and to another lane nothing
pub given_to_is : (c : ℕ) (l : Lane) (party : ℕ) (es : List Entry) → of_all (gives_to c l) party es ≡ (if l.receiver == c then given l party es else [])
given_to_is c l party [] = sym (empty_if (l.receiver == c))
given_to_is c l party (e ∷ es) = ap (λ z. gives_to c l party e ++ z) (given_to_is c l party es) ∙ joined_if (l.receiver == c) (gives l party e) (given l party es)
