-- What is left in the boxes at the close.
use Rattle.std.specs.Prelude.{ℕ, zero, suc, ◌≡◌, ◌+◌, ◌<◌, ◌≤◌, List, [], ◌++◌, length, map, drop, slice_index_or}
use Rattle.std.specs.Global.{Vec}
use Rattle.mail_seg.specs.declared.row.Row.{Row}
use Rattle.room_kinds.specs.declared.message.Msg.{Msg}
use Rattle.mail_seg.specs.Sides.{Sent, Side, side, from_sender, IsEmptied}
use Rattle.mail_seg.specs.Wires.{IsWire, wire_of}
use Rattle.mail_seg.specs.Ends.{side_at, first_list}
use Rattle.mail_seg.specs.Rows.{row_at}

abbrev pub queues_of : List Row → List (List Side)
queues_of rows = map (λ r. map side r.passes.items) rows

-- the pass of a party to a box
abbrev pub pass_at : List (List Side) → ℕ → ℕ → Side
pass_at rows b s = side_at (row_at rows s) b

-- the parties from one to another each gave their first pass, and the others' rows stay
pub record Fronts (from to : ℕ) (old new : List (List Side)) : Type 0 where
  pub count : length new ≡ length old
  pub those : (s : ℕ) → from ≤ s → s < to → row_at new s ≡ drop 1 (row_at old s)
  pub below : (s : ℕ) → s < from → row_at new s ≡ row_at old s
  pub above : (s : ℕ) → to ≤ s → row_at new s ≡ row_at old s

-- each of n parties gave its first k passes
pub record Shifted (k n : ℕ) (old new : List (List Side)) : Type 0 where
  pub count : length new ≡ n
  pub rest : (s : ℕ) → s < n → row_at new s ≡ drop k (row_at old s)

-- what k passes posted, from one on
abbrev pub gathered : (ℕ → Side) → ℕ → ℕ → List Sent
gathered passes from zero = []
gathered passes from (suc k) = gathered passes from k ++ (passes (from + k)).posts

-- the passes of n parties to one box of a receiver
pub record IsBox (n r : ℕ) (passes : ℕ → Side) : Type 0 where
  pub prio : ℕ
  pub queue : ℕ × ℕ
  pub wires : (s : ℕ) → s < n → IsWire n r prio s (wire_of (passes s))
  pub one_queue : (s : ℕ) → s < n → (passes s).queue ≡ queue

-- what a sender posted into a box and the receiver didn't take
abbrev pub left_in : (ℕ → Side) → ℕ → ℕ → List Msg
left_in passes r s = drop (length (from_sender s (passes r).got)) (first_list (passes s).posts)

abbrev pub IsSettled : (ℕ → Side) → ℕ → ℕ → Type 0
IsSettled passes r s = from_sender s (passes r).got ++ left_in passes r s ≡ first_list (passes s).posts

abbrev pub lists_of : List (Vec Msg) → List (List Msg)
lists_of lists = map (λ v. v.items) lists

abbrev pub list_at : List (List Msg) → ℕ → List Msg
list_at lists s = slice_index_or lists s []

-- some messages more were taken, each to the end of its sender's list
pub record TookMore (a a' : Side) (old new : List (List Msg)) : Type 0 where
  pub left : List Msg
  pub side_is : a' ≡ record a { got = a.got ++ left }
  pub count : length new ≡ length old
  pub lists : (s : ℕ) → s < length old → list_at new s ≡ list_at old s ++ from_sender s left

-- and then all is taken
pub record Drained (a a' : Side) (old new : List (List Msg)) : Type 0 where
  pub more : TookMore a a' old new
  pub emptied : IsEmptied a'
