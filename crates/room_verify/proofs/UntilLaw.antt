-- The entries of a merge up to a stamp, one after another.
use Rattle.std.proofs.Common.{◌≡◌, ℕ, ◌+◌, ◌<◌, ◌≤◌, true, false, List, [], ◌∷◌, ◌++◌, set, length, slice_index, Option, Some, None, refl, sym, ap, ◌∙◌, subst, arith, inl, inr}
use Rattle.std.specs.List.{AllByRecursion}
use Rattle.std.proofs.lemmas.Bool.{lt-leb, leb-false, leb-true}
use Rattle.journal.specs.declared.entry.Entry.{Entry}
use Rattle.journal.specs.declared.entry.Journals.{Journals}
use Rattle.actor_merge.specs.Mail.{stamp_of}
use Rattle.actor_merge.specs.World.{Placed}
use Rattle.actor_merge.specs.Merge.{InOrder, IsBefore, IsBeforeAll}
use Rattle.inject_reader.specs.declared.inject_lines.accepted.Line.{Line}
use Rattle.controller_actors.specs.declared.plant.Plant.{Plant}
use Rattle.room_verify.specs.Heads.{left_of_party, GoesFirst, FirstOf}
use Rattle.room_verify.specs.Merging.{ReachesIn, HasPassed, HasPassedUpTo, ReachedIn, ReachedUpTo, is_up_to, AreUpTo}
use Rattle.room_verify.specs.Steps.{Steps}
use Rattle.room_verify.specs.Worlds.{plan, world_in, Replays}
use Rattle.room_verify.specs.declared.heads.Head.{Head}
use Rattle.room_verify.specs.declared.replay.Replay.{Replay}
use Rattle.room_verify.proofs.HeadLaw.{merge_ends}
use Rattle.room_verify.proofs.MergingLaw.{none_beyond, ordered, head, passed_more}

-- ---- stamps

-- what is stamped no earlier than one that is too late, is too late
later_too : (until : Option ℕ) (a b : ℕ) → a ≤ b → is_up_to until a ≡ false → is_up_to until b ≡ false
later_too None a b low late = absurd cc
later_too (Some last) a b low late = let past : last < a = leb-false a last late in lt-leb b last (omega (arith, past, low))

not_before : (x y : Placed) → IsBefore x y → stamp_of x.entry ≤ stamp_of y.entry
not_before x y (inl less) = omega (arith, less)
not_before x y (inr same) = omega (arith, same.0)

all_later : (until : Option ℕ) (x : Placed) (ys : List Placed) → IsBeforeAll x ys → is_up_to until (stamp_of x.entry) ≡ false → AreUpTo until false ys
all_later until x [] before late = tt
all_later until x (y ∷ ys) before late =
    (later_too until (stamp_of x.entry) (stamp_of y.entry) (not_before x y before.0) late, all_later until x ys before.1 late)

one_more : (until : Option ℕ) (xs : List Placed) (x : Placed) → AreUpTo until true xs → is_up_to until (stamp_of x.entry) ≡ true → AreUpTo until true (xs ++ x ∷ [])
one_more until [] x low up = (up, tt)
one_more until (y ∷ ys) x low up = (low.0, one_more until ys x low.1 up)

-- ---- the loop

module _ (plant : Plant) (lines : List Line) (j : Journals) (until : Option ℕ) (passed : List ℕ) (r : Replay) (h : HasPassedUpTo plant lines j until passed r)
    (count : length j.controllers ≡ length plant.wiring.controllers) where
  abbrev n : ℕ
  n = length plant.wiring.controllers

  -- nothing is left
  up_to_all : FirstOf (left_of_party j passed) (length passed) None → ReachedUpTo plant lines j until r
  up_to_all none =
      let k : HasPassed plant lines j passed r = h.passing in
      let empty : k.behind ≡ [] =
      merge_ends (left_of_party j passed) (n + 1) k.behind (λ p below. none p (omega (arith, k.count, below))) k.left (none_beyond plant lines j passed r k count) in
      record {
        front = k.front;
        behind = [];
        reaches = subst (λ (z : List Placed). ReachesIn plant lines j k.front z (world_in plant r)) empty k.reaches;
        replays = k.replays;
        low = h.low;
        high = tt;
      }

  pub all_up_to : (now : List ℕ) (o : Option Head) → now ≡ passed → o ≡ None → FirstOf (left_of_party j now) (length now) o → ReachedUpTo plant lines j until r
  all_up_to now o same is first =
      up_to_all (subst (λ (z : List ℕ). FirstOf (left_of_party j z) (length z) None) same
      (subst (λ (z : Option Head). FirstOf (left_of_party j now) (length now) z) is first))

  -- what is left is stamped later
  later_left : (party : ℕ) (e : Entry) → GoesFirst (left_of_party j passed) (length passed) party e → is_up_to until (stamp_of e) ≡ false → ReachedUpTo plant lines j until r
  later_left party e first late =
      let k : HasPassed plant lines j passed r = h.passing in
      let x : Placed = record { party = party; entry = e } in
      let there = head plant lines j passed r k count party e first in
      let order : IsBeforeAll x there.0 = (subst (λ (z : List Placed). InOrder z) there.1 (ordered plant lines j passed r k count)).0 in
      record {
        front = k.front;
        behind = k.behind;
        reaches = k.reaches;
        replays = k.replays;
        low = h.low;
        high = subst (λ (z : List Placed). AreUpTo until false z) (sym there.1) (late, all_later until x there.0 order late);
      }

  pub up_to_here : (now : List ℕ) (o : Option Head) (next : Head) → now ≡ passed → o ≡ Some next → FirstOf (left_of_party j now) (length now) o
      → is_up_to until next.stamp ≡ false → ReachedUpTo plant lines j until r
  up_to_here now o next same is first late =
      let there : FirstOf (left_of_party j passed) (length passed) (Some next) =
      subst (λ (z : List ℕ). FirstOf (left_of_party j z) (length z) (Some next)) same
      (subst (λ (z : Option Head). FirstOf (left_of_party j now) (length now) z) is first) in
      later_left next.party there.0 there.1 (ap (λ (k : ℕ). is_up_to until k) there.2 ∙ late)

  -- it happened, and one entry more is passed
  pub passed_on : (party : ℕ) (e : Entry) → GoesFirst (left_of_party j passed) (length passed) party e → (new : Replay) (at : ℕ) → at ≡ slice_index passed party
      → is_up_to until (stamp_of e) ≡ true → Steps (plan plant lines) (world_in plant r) party e (world_in plant new) → Replays plant lines new
      → HasPassedUpTo plant lines j until (set passed party (at + 1)) new
  passed_on party e first new at is up steps replays =
      let next = passed_more plant lines j passed r h.passing count party e first new at is steps replays in
      record {
        passing = next.0;
        low = subst (λ (z : List Placed). AreUpTo until true z) (sym next.1) (one_more until h.passing.front (record { party = party; entry = e }) h.low up);
      }

-- ---- what comes of it

-- all, where no stamp is given
pub whole : (plant : Plant) (lines : List Line) (j : Journals) (r : Replay) → ReachedUpTo plant lines j None r → ReachedIn plant lines j r
whole plant lines j r h =
    record {
      merge = h.front;
      reaches = subst (λ (z : List Placed). ReachesIn plant lines j h.front z (world_in plant r)) (none_behind h.behind h.high) h.reaches;
      replays = h.replays;
    }
  where
    none_behind : (xs : List Placed) → AreUpTo None false xs → xs ≡ []
    none_behind [] high = refl
    none_behind (x ∷ xs) high = let is : true ≡ false = high.0 in absurd cc

-- up to a stamp
pub low_of : (at : ℕ) (xs : List Placed) → AreUpTo (Some at) true xs → AllByRecursion (λ (x : Placed). stamp_of x.entry ≤ at) xs
low_of at [] low = tt
low_of at (x ∷ xs) low = (leb-true (stamp_of x.entry) at low.0, low_of at xs low.1)

pub high_of : (at : ℕ) (xs : List Placed) → AreUpTo (Some at) false xs → AllByRecursion (λ (x : Placed). at < stamp_of x.entry) xs
high_of at [] high = tt
high_of at (x ∷ xs) high = (leb-false (stamp_of x.entry) at high.0, high_of at xs high.1)
