-- One event's change to the lanes, as one equation for each lane.
use Rattle.std.proofs.Common.{◌≡◌, ℕ, ◌==◌, Bool, true, false, ◌&&◌, if◌then◌else◌, List, [], ◌∷◌, ◌++◌, refl, sym, ap, ◌∙◌, append-nil, eqb-true, eq-eqb}
use Rattle.std.proofs.lemmas.Bool.{and_parts}
use Rattle.room_kinds.specs.declared.message.Msg.{Msg}
use Rattle.actor_merge.specs.Mail.{Lane, is_lane}
use Rattle.actor_merge.specs.World.{put_lane}
use Rattle.actor_merge.specs.Parties.{put}

lane_path : (a b : Lane) → a.sender ≡ b.sender → a.receiver ≡ b.receiver → a.priority ≡ b.priority → a ≡ b
lane_path a b p q r = λ i. record { sender = p i; receiver = q i; priority = r i }

pub is_lane-true : (a b : Lane) → is_lane a b ≡ true → a ≡ b
unfolding is_lane
is_lane-true a b e =
    let h = and_parts ((a.sender == b.sender) && (a.receiver == b.receiver)) (a.priority == b.priority) e in
    let k = and_parts (a.sender == b.sender) (a.receiver == b.receiver) h.0 in
    lane_path a b (eqb-true _ _ k.0) (eqb-true _ _ k.1) (eqb-true _ _ h.1)

pub is_lane-same : (a : Lane) → is_lane a a ≡ true
unfolding is_lane
is_lane-same a = rw (eq-eqb a.sender a.sender refl, eq-eqb a.receiver a.receiver refl, eq-eqb a.priority a.priority refl) refl

pub is_lane-sender : (a b : Lane) → (a.sender == b.sender) ≡ false → is_lane a b ≡ false
unfolding is_lane
is_lane-sender a b e = rw e refl

pub is_lane-receiver : (a b : Lane) → (a.receiver == b.receiver) ≡ false → is_lane a b ≡ false
unfolding is_lane
is_lane-receiver a b e = rw e (go (a.sender == b.sender) (a.priority == b.priority))
  where
    go : (x y : Bool) → ((x && false) && y) ≡ false
    go true y = refl
    go false y = refl

-- what was taken was in front
pub fetch_step : (lanes : Lane → List Msg) (at l : Lane) (m : Msg) (rest : List Msg)
    → lanes at ≡ m ∷ rest → (if is_lane l at then m ∷ [] else []) ++ put_lane lanes at rest l ≡ lanes l
unfolding put_lane
fetch_step lanes at l m rest h = go (is_lane l at) refl
  where
    go : (b : Bool) → is_lane l at ≡ b → (if b then m ∷ [] else []) ++ (if b then rest else lanes l) ≡ lanes l
    go true e = sym (ap lanes (is_lane-true l at e) ∙ h)
    go false e = refl

-- what was posted is at the back
pub post_step : (lanes : Lane → List Msg) (at l : Lane) (m : Msg)
    → put_lane lanes at (lanes at ++ m ∷ []) l ≡ lanes l ++ (if is_lane l at then m ∷ [] else [])
unfolding put_lane
post_step lanes at l m = go (is_lane l at) refl
  where
    go : (b : Bool) → is_lane l at ≡ b → (if b then lanes at ++ m ∷ [] else lanes l) ≡ lanes l ++ (if b then m ∷ [] else [])
    go true e = ap (λ k. lanes k ++ m ∷ []) (sym (is_lane-true l at e))
    go false e = sym (append-nil (lanes l))

pub put-same : {A : Type 0} (states : ℕ → A) (c : ℕ) (s : A) → put states c s c ≡ s
unfolding put
put-same states c s = rw (eq-eqb c c refl) refl

pub put-other : {A : Type 0} (states : ℕ → A) (c : ℕ) (s : A) (d : ℕ) → (d == c) ≡ false → put states c s d ≡ states d
unfolding put
put-other states c s d e = rw e refl
