-- What was got, and then what the deque holds, is what was sent. One pass at most may push, and it has the list of what was sent.
-- The same for what was got: one view alone has that list, and only the pass with this view takes. The owner's has it until the
-- receiver's pass is split off, and again once that is joined in.
use Rattle.std.specs.Prelude.{◌≡◌, ℕ, Bool, true, List, ◌++◌}
use mathlib.Core.Option.{some}
use lib.ListN.{get_elem?}
use Rattle.room_kinds.specs.declared.message.Msg.{Msg}
use Rattle.mail_lanes.specs.declared.rule.LaneView.{LaneView}

abbrev pub lane_view : Bool → Bool → List Msg → List Msg → LaneView
lane_view a b sent got = record { pushes = a; takes = b; sent = sent; got = got }

abbrev pub Fits : ℕ → ℕ → List Msg → List Msg → ℕ → LaneView → Type 0
Fits writer reader sent got port v = (v.pushes ≡ true → (port ≡ writer) × (v.sent ≡ sent)) × (v.takes ≡ true → (port ≡ reader) × (v.got ≡ got))

abbrev pub InOrder : List Msg → List LaneView → Type 0
InOrder items views = (writer : ℕ) × (reader : ℕ) × (sent : List Msg) × (got : List Msg) × (sent ≡ got ++ items)
    × ((port : ℕ) (v : LaneView) → get_elem? views port ≡ some v → Fits writer reader sent got port v)
