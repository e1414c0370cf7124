-- What waits for a controller was sent to it: its pending messages were fetched, and what is in a lane goes its
-- lane's way.
use Rattle.std.proofs.Common.{◌≡◌, ℕ, ◌+◌, ◌<◌, ◌==◌, ◌&&◌, Bool, true, false, not, if◌then◌else◌, List, [], ◌∷◌, ◌++◌, refl, sym, ap, ◌∙◌, subst, eq-eqb, arith}
use Rattle.std.specs.List.{AllByRecursion as Each}
use Rattle.room_kinds.specs.declared.message.Msg.{Msg}
use Rattle.journal.specs.declared.entry.Entry.{Entry}
use Rattle.journal.specs.declared.entry.Entry.TheVariants as entry
use Rattle.actor_merge.specs.Mail.{Lane, lane, is_lane, gives, given}
use Rattle.actor_merge.proofs.Lanes.{is_lane-true}
use Rattle.actor_world.specs.world_laws.Counting.{count, of_priority}
use Rattle.law_runs.proofs.Stamps.{IsFrom}

-- ---- what is counted

pub none_counted : (p : ℕ) (ok : Msg → Bool) (ms : List Msg) → Each (λ (m : Msg). ok m ≡ true) ms → count (of_priority p (λ (m : Msg). not (ok m))) ms ≡ 0
none_counted p ok [] h = refl
none_counted p ok (m ∷ ms) h =
    ap (λ (q : Bool). (if (m.prio.0 == p) && not q then 1 else 0) + count (of_priority p (λ (m : Msg). not (ok m))) ms) h.0
    ∙ go (m.prio.0 == p) (none_counted p ok ms h.1)
  where
    go : (b : Bool) → count (of_priority p (λ (m : Msg). not (ok m))) ms ≡ 0
        → (if b && false then 1 else 0) + count (of_priority p (λ (m : Msg). not (ok m))) ms ≡ 0
    go true z = omega (arith, z)
    go false z = omega (arith, z)

pub all_counted : (p : ℕ) (ok : Msg → Bool) (ms : List Msg) → Each (λ (m : Msg). m.prio.0 ≡ p) ms
    → count (of_priority p (λ (m : Msg). not (ok m))) ms ≡ 0 → Each (λ (m : Msg). ok m ≡ true) ms
all_counted p ok [] r h = tt
all_counted p ok (m ∷ ms) r h = go (ok m) refl (all_counted p ok ms r.1)
  where
    here : (if (m.prio.0 == p) && not (ok m) then 1 else 0) + count (of_priority p (λ (m : Msg). not (ok m))) ms ≡ 0
    here = h

    ranked : (if not (ok m) then 1 else 0) + count (of_priority p (λ (m : Msg). not (ok m))) ms ≡ 0
    ranked = ap (λ (b : Bool). (if b && not (ok m) then 1 else 0) + count (of_priority p (λ (m : Msg). not (ok m))) ms) (sym (eq-eqb m.prio.0 p r.0)) ∙ here

    go : (b : Bool) → ok m ≡ b → (count (of_priority p (λ (m : Msg). not (ok m))) ms ≡ 0 → Each (λ (m : Msg). ok m ≡ true) ms)
        → Each (λ (m : Msg). ok m ≡ true) (m ∷ ms)
    go true e rest =
        let z : 0 + count (of_priority p (λ (m : Msg). not (ok m))) ms ≡ 0 =
        ap (λ (b : Bool). (if not b then 1 else 0) + count (of_priority p (λ (m : Msg). not (ok m))) ms) (sym e) ∙ ranked in
        (e, rest (omega (arith, z)))
    go false e rest =
        let z : 1 + count (of_priority p (λ (m : Msg). not (ok m))) ms ≡ 0 =
        ap (λ (b : Bool). (if not b then 1 else 0) + count (of_priority p (λ (m : Msg). not (ok m))) ms) (sym e) ∙ ranked in
        absurd (omega (arith, z))

-- ---- lanes

-- a message goes this lane's way
pub record GoesBy (l : Lane) (m : Msg) : Type 0 where
  pub sender : m.from.0 ≡ l.sender
  pub receiver : m.to.0 ≡ l.receiver
  pub priority : m.prio.0 ≡ l.priority

goes_by : (l : Lane) (m : Msg) → m.from.0 ≡ l.sender → is_lane l (lane l.sender m.to.0 m.prio.0) ≡ true → GoesBy l m
goes_by l m from e =
    let same : l ≡ lane l.sender m.to.0 m.prio.0 = is_lane-true l (lane l.sender m.to.0 m.prio.0) e in
    record {
      sender = from;
      receiver = sym (ap (λ (z : Lane). z.receiver) same);
      priority = sym (ap (λ (z : Lane). z.priority) same);
    }

pub given_goes : (l : Lane) (es : List Entry) → Each (IsFrom l.sender) es → Each (GoesBy l) (given l l.sender es)
given_goes l [] h = tt
given_goes l (entry.Start who state notes ∷ es) h = given_goes l es h.1
given_goes l (entry.Fetch stamp m ∷ es) h = given_goes l es h.1
given_goes l (entry.Turn stamp from sent did notes ∷ es) h = given_goes l es h.1
given_goes l (entry.Post stamp m ∷ es) h = go (is_lane l (lane l.sender m.to.0 m.prio.0)) refl (given_goes l es h.1)
  where
    go : (b : Bool) → is_lane l (lane l.sender m.to.0 m.prio.0) ≡ b → Each (GoesBy l) (given l l.sender es)
        → Each (GoesBy l) ((if b then m ∷ [] else []) ++ given l l.sender es)
    go true e rest = (goes_by l m h.0 e, rest)
    go false e rest = rest

pub each_behind : {X : Type 0} (P : X → Type 0) (xs ys : List X) → Each P (xs ++ ys) → Each P ys
each_behind P [] ys h = h
each_behind P (x ∷ xs) ys h = each_behind P xs ys h.1

pub each_weaker : {X : Type 0} (P Q : X → Type 0) → ((x : X) → P x → Q x) → (xs : List X) → Each P xs → Each Q xs
each_weaker P Q f [] h = tt
each_weaker P Q f (x ∷ xs) h = (f x h.0, each_weaker P Q f xs h.1)
