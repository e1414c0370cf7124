-- A pass to a shared box, as contracts see it.
use Rattle.std.proofs.Common.{◌≡◌, ℕ, ◌≤◌, ◌==◌, if◌then◌else◌, true, false, List, [], ◌∷◌, ◌++◌, map, refl, ap, ◌∙◌}
use Rattle.std.proofs.lemmas.Bool.{eq-eqb, ne_eqb}
use Rattle.room_kinds.specs.declared.message.Msg.{Msg}
use Rattle.mail_seg.specs.declared.contents.Contents.{Contents}
use Rattle.mail_seg.specs.declared.rule.Posted.{Posted}
use Rattle.mail_seg.specs.declared.rule.PassView.{PassView}
use Rattle.mail_seg.specs.Addressed.{addressed}
use Rattle.mail_seg.specs.Rule.{of_party, TakenOf, TookAll}
use Rattle.mail_seg.specs.Sides.{Sent, sent_of, side_of, from_sender, AllTaken, IsEmptied}

-- the one party of a pass
pub one_post : (to prio s : ℕ) (ps : List Posted) → map (λ (x : Sent). x.party) (map (sent_of to prio) ps) ≡ s ∷ [] → (p : Posted) × (ps ≡ p ∷ []) × (s ≡ p.party)
one_post to prio s [] e = absurd (cc)
one_post to prio s (p ∷ []) e = (p, refl, cc)
one_post to prio s (p ∷ (q ∷ ps)) e = absurd (cc)

-- the messages of one party, of contents
pub from_sender-map : (to prio s : ℕ) (xs : List Contents) → from_sender s (map (addressed to prio) xs) ≡ map (addressed to prio) (of_party s xs)
from_sender-map to prio s [] = refl
from_sender-map to prio s (x ∷ xs) = elim (x.from.0 == s) as (λ b. (if b then addressed to prio x ∷ from_sender s (map (addressed to prio) xs) else from_sender s (map (addressed to prio) xs)) ≡ map (addressed to prio) (if b then x ∷ of_party s xs else of_party s xs)) [
  | true ↦ ap (λ l. addressed to prio x ∷ l) (from_sender-map to prio s xs)
  | false ↦ from_sender-map to prio s xs
]

all_taken : (to prio : ℕ) (got : List Contents) (ps : List Posted) → TakenOf got ps → AllTaken (map (addressed to prio) got) (map (sent_of to prio) ps)
all_taken to prio got [] t = tt
all_taken to prio got (p ∷ ps) t = (from_sender-map to prio p.party got ∙ ap (map (addressed to prio)) t.0, all_taken to prio got ps t.1)

-- what a pop that finds nothing tells
pub none_found : (to prio : ℕ) (q : ℕ × ℕ) (v v' : PassView) → v.takes ≡ true → v' ≡ v → (v.takes ≡ true → ◌≡◌ {A = List Contents} [] [] → TookAll v) → (side_of to prio q v' ≡ side_of to prio q v) × IsEmptied (side_of to prio q v)
none_found to prio q v v' takes same held =
    let took = held takes refl in (
      ap (side_of to prio q) same,
      record { all = all_taken to prio v.got v.posts took.all; none = λ s past. from_sender-map to prio s v.got ∙ ap (map (addressed to prio)) (took.none s past) },
    )

-- the messages of one party in two lists
pub from_sender-append : (s : ℕ) (xs ys : List Msg) → from_sender s (xs ++ ys) ≡ from_sender s xs ++ from_sender s ys
from_sender-append s [] ys = refl
from_sender-append s (x ∷ xs) ys = elim (x.from.0 == s) as (λ b. (if b then x ∷ from_sender s (xs ++ ys) else from_sender s (xs ++ ys)) ≡ (if b then x ∷ from_sender s xs else from_sender s xs) ++ from_sender s ys) [
  | true ↦ ap (λ l. x ∷ l) (from_sender-append s xs ys)
  | false ↦ from_sender-append s xs ys
]

pub from_sender-own : (s : ℕ) (m : Msg) → m.from.0 ≡ s → from_sender s (m ∷ []) ≡ m ∷ []
from_sender-own s m e = rw (eq-eqb m.from.0 s e) refl

pub from_sender-other : (s : ℕ) (m : Msg) → (m.from.0 ≡ s → ⊥) → from_sender s (m ∷ []) ≡ []
from_sender-other s m h = rw (ne_eqb m.from.0 s h) refl
