-- The two ends of a lane, as contracts see them.
use Rattle.std.specs.Prelude.{ℕ, false, List, [], ◌∷◌, ◌++◌, map, slice_index_or, Option, Some, None}
use Rattle.room_kinds.specs.declared.message.Msg.{Msg}
use Rattle.crossbeam_deque.specs.Handles.{worker_deque, worker_view, stealer_deque, view}
use Rattle.mail_lanes.specs.declared.lane.Outlet.{Outlet}
use Rattle.mail_lanes.specs.declared.lane.Inlet.{Inlet}
use Rattle.mail_lanes.specs.Addressed.{addressed}
use Rattle.mail_lanes.specs.Wires.{OutWire, InWire}

-- what was posted, and what the owner took itself
pub record OutLane : Type 0 where
  pub wire : OutWire
  pub posted : List Msg
  pub taken : List Msg

pub record InLane : Type 0 where
  pub wire : InWire
  pub taken : List Msg

abbrev pub out_lane : Outlet → OutLane
out_lane o = record {
  wire = record { from = o.from; to = o.to; prio = o.prio; deque = (worker_deque o.owner).0; takes = (worker_view o.owner).takes };
  posted = map (addressed o.from o.to o.prio) (worker_view o.owner).sent;
  taken = map (addressed o.from o.to o.prio) (worker_view o.owner).got;
}

abbrev pub in_lane : Inlet → InLane
in_lane i = record {
  wire = record { from = i.from; to = i.to; prio = i.prio; deque = (stealer_deque i.thief).0 };
  taken = map (addressed i.from i.to i.prio) (view i.pass).got;
}

abbrev pub in_side : Option Inlet → Option InLane
in_side None = None
in_side (Some i) = Some (in_lane i)

abbrev pub no_lane : OutLane
no_lane = record { wire = record { from = 0; to = 0; prio = 0; deque = (0, 0); takes = false }; posted = []; taken = [] }

abbrev pub out_at : List OutLane → ℕ → OutLane
out_at outs i = slice_index_or outs i no_lane

abbrev pub in_at : List (Option InLane) → ℕ → Option InLane
in_at ins i = slice_index_or ins i None

-- after a message was posted, and after its owner took one
abbrev pub sending : OutLane → Msg → OutLane
sending o m = record o { posted = o.posted ++ m ∷ [] }

abbrev pub popping : OutLane → Msg → OutLane
popping o m = record o { taken = o.taken ++ m ∷ [] }

abbrev pub stealing : InLane → Msg → InLane
stealing i m = record i { taken = i.taken ++ m ∷ [] }
