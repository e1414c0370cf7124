-- Passes made one after another.
use Rattle.std.specs.Prelude.{ℕ, ◌≡◌, ◌+◌, ◌-◌, ◌*◌, ◌<◌, ◌≤◌, ◌==◌, nat_lt, if◌then◌else◌, true, List, [], ◌∷◌, ◌++◌, length, map, slice_index_or, slice_get, Some}
use Rattle.std.specs.Global.{Vec}
use Rattle.mail_core.specs.EndLog.{fresh}
use Rattle.mail_seg.specs.declared.shared_box.BoxPass.{BoxPass}
use Rattle.mail_seg.specs.declared.ends.MailSeg.{MailSeg}
use Rattle.mail_seg.specs.Sides.{Side, side, poster_side, idle_side}
use Rattle.mail_seg.specs.Wires.{poster_count}
use Rattle.mail_seg.specs.Ends.{side_at, sides_of, log_of}

abbrev pub row_at : List (List Side) → ℕ → List Side
row_at rows s = slice_index_or rows s []

abbrev pub rows_of : List (Vec BoxPass) → List (List Side)
rows_of rows = map (λ v. map side v.items) rows

-- the parties from one to another each have a pass more, and the others' rows stay
pub record Dealt (from to : ℕ) (pass : ℕ → Side) (old new : List (List Side)) : Type 0 where
  pub count : length new ≡ length old
  pub those : (s : ℕ) → from ≤ s → s < to → row_at new s ≡ row_at old s ++ pass s ∷ []
  pub below : (s : ℕ) → s < from → row_at new s ≡ row_at old s
  pub above : (s : ℕ) → to ≤ s → row_at new s ≡ row_at old s

-- the receiver's pass to its box, which takes and knows how many of n parties post
abbrev pub reader_side : ℕ → ℕ → ℕ → ℕ × ℕ → Side
reader_side n r p queue = record { to = r; prio = p; queue = queue; takes = true; next = poster_count n p; posts = record { party = r; list = [] } ∷ []; got = [] }

-- the pass of party s to a box just made
abbrev pub new_side : ℕ → ℕ → ℕ → ℕ × ℕ → ℕ → Side
new_side n r p queue s =
    if s == r then reader_side n r p queue else if nat_lt s (poster_count n p) then poster_side r p queue s else idle_side r p queue

-- each party has a pass more, to a new box
pub record AddedBox (n r p : ℕ) (queue : ℕ × ℕ) (old new : List (List Side)) : Type 0 where
  pub count : length new ≡ length old
  pub each : (s : ℕ) → s < n → row_at new s ≡ row_at old s ++ new_side n r p queue s ∷ []

-- each of n parties has a pass to the first k boxes
pub record RowsTo (k n : ℕ) (rows : List (List Side)) : Type 0 where
  pub queue : ℕ → ℕ × ℕ
  pub count : length rows ≡ n
  pub len : (s : ℕ) → s < n → length (row_at rows s) ≡ k
  pub each : (s r b : ℕ) → s < n → b < 6 → r * 6 + b < k → side_at (row_at rows s) (r * 6 + b) ≡ new_side n r (5 - b) (queue (r * 6 + b)) s

-- an end with these passes, which did nothing yet
pub record IsEnd (n j : ℕ) (sides : List Side) (e : MailSeg) : Type 0 where
  pub party : e.party ≡ j
  pub parties : e.parties ≡ n
  pub sides_are : sides_of e ≡ sides
  pub log : log_of e ≡ fresh n j

-- the ends of k parties
pub record EndsTo (k n : ℕ) (rows : List (List Side)) (ends : List MailSeg) : Type 0 where
  pub count : length ends ≡ k
  pub each : (j : ℕ) (e : MailSeg) → slice_get ends j ≡ Some e → IsEnd n j (row_at rows j) e
