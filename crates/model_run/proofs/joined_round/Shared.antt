-- A plant may be shared among threads.
use denote.RattleType.{RattleType}
use denote.Hole.{as_row}
use denote.Struct.Field.{u16-field, u32-field, usize-field, row_field}
use denote.Builtin.{u16, i64}
use denote.Param.Send.{IsSync, sendable}
use denote.Param.SendFields.{declared_sync, variants_sync, as_row_sync}
use Rattle.std.proofs.Crossing.{Box-sync, Vec-sync}
use Rattle.std.specs.contracts.vec.Vec as Vec
use Rattle.std.specs.contracts.option.Option as Option
use Rattle.std.specs.contracts.alloc.Global as Global
use Rattle.std.specs.contracts.impls.GlobalAllocator.TheImpl.{ghosts}
use Rattle.action_program.specs.contracts.bound.Bound as Bound
use Rattle.action_program.specs.contracts.bound.BoundExpr as BoundExpr
use Rattle.action_program.specs.contracts.bound.BoundStmt as BoundStmt
use Rattle.action_program.specs.contracts.bound.BoundAssign as BoundAssign
use Rattle.action_program.specs.contracts.bound.BoundSend as BoundSend
use Rattle.action_program.specs.contracts.bound.BoundFrame as BoundFrame
use Rattle.action_program.specs.contracts.bound.BoundImport as BoundImport
use Rattle.action_program.specs.contracts.bound.Argument as Argument
use Rattle.action_program.proofs.bound.BoundExpr.TheLaws.TheKnot.{sync-BoundExpr}
use Rattle.action_program.proofs.bound.BoundStmt.TheLaws.TheKnot.{sync-BoundStmt}
use Rattle.room_wiring.specs.contracts.wiring.Wiring as Wiring
use Rattle.room_wiring.proofs.wiring.Wiring.TheSendSync.{the_sync as wiring_sync}
use Rattle.chart_run.specs.contracts.chart_tables.tables.Event as Event
use Rattle.chart_run.specs.contracts.chart_tables.tables.Trigger as Trigger
use Rattle.chart_run.specs.contracts.chart_tables.tables.Arrow as Arrow
use Rattle.chart_run.specs.contracts.chart_tables.tables.Row as Row
use Rattle.chart_run.specs.contracts.chart_tables.tables.Node as Node
use Rattle.chart_run.specs.contracts.chart_tables.tables.Tables as Tables
use Rattle.service_messages.specs.contracts.slot_runs.runs.SlotRuns as SlotRuns
use Rattle.service_messages.proofs.slot_runs.runs.SlotRuns.TheSendSync.{the_sync as runs_sync}
use Rattle.controller_actors.specs.contracts.plant.Plant as Plant
use Rattle.controller_actors.specs.contracts.slot_rows.SlotRows as SlotRows
use Rattle.controller_actors.proofs.slot_rows.SlotRows.TheSendSync.{the_sync as rows_sync}

-- a list and an option, as fields
vec_sync : (R : RattleType) → IsSync R → IsSync (as_row (Vec.the_field R Global.the_row ghosts))
vec_sync R s = as_row_sync (Vec.the_field R Global.the_row ghosts) (Vec-sync R s)

option_row : (R : RattleType) → IsSync R → IsSync (Option.the_row R)
option_row R s = variants_sync (Option.enum R) (tt, ((as_row_sync (row_field R) s, tt), tt))

-- numbers, as fields
u16_sync : IsSync (as_row u16-field)
u16_sync = as_row_sync u16-field (search sendable)

u32_sync : IsSync (as_row u32-field)
u32_sync = as_row_sync u32-field (search sendable)

usize_sync : IsSync (as_row usize-field)
usize_sync = as_row_sync usize-field (search sendable)

-- an expression's own row, and the expression as a field or alone
expr_row : IsSync (BoundExpr.the_field).row
expr_row = sync-BoundExpr (search sendable) (search sendable) (search sendable) Box-sync Vec-sync (search sendable depth 40) (search sendable depth 40)

expr_sync : IsSync BoundExpr.the_row
expr_sync = as_row_sync BoundExpr.the_field expr_row

argument_sync : IsSync Argument.the_row
argument_sync = declared_sync Argument.the_type (search sendable depth 40, (expr_sync, tt))

-- what stands in the boxes of statements
assign_sync : IsSync BoundAssign.the_row
assign_sync = declared_sync BoundAssign.the_type (u32_sync, (search sendable depth 40, (expr_sync, tt)))

send_sync : IsSync BoundSend.the_row
send_sync = declared_sync BoundSend.the_type (
  u16_sync,
  (option_row BoundExpr.the_row expr_sync, (u16_sync, (vec_sync Argument.the_row argument_sync, (search sendable depth 40, tt)))),
)

frame_sync : IsSync BoundFrame.the_row
frame_sync = declared_sync BoundFrame.the_type (search sendable depth 40, (u16_sync, (expr_sync, tt)))

import_sync : IsSync BoundImport.the_row
import_sync = declared_sync BoundImport.the_type (u16_sync, (expr_sync, (expr_sync, tt)))

stmt_row : IsSync (BoundStmt.the_field).row
stmt_row = sync-BoundStmt (Box-sync BoundAssign.the_row assign_sync) Box-sync (Box-sync BoundSend.the_row send_sync) (Box-sync BoundFrame.the_row frame_sync) (Box-sync BoundImport.the_row import_sync) (search sendable) (search sendable) expr_row Vec-sync (search sendable)

stmt_sync : IsSync BoundStmt.the_row
stmt_sync = as_row_sync BoundStmt.the_field stmt_row

event_sync : IsSync Event.the_row
event_sync = declared_sync Event.the_type (u16_sync, (u16_sync, tt))

trigger_sync : IsSync Trigger.the_row
trigger_sync = declared_sync Trigger.the_type (vec_sync Event.the_row event_sync, (option_row BoundExpr.the_row expr_sync, tt))

bound_sync : IsSync Bound.the_row
bound_sync = declared_sync Bound.the_type (vec_sync BoundStmt.the_row stmt_sync, tt)

arrow_sync : IsSync Arrow.the_row
arrow_sync = declared_sync Arrow.the_type (vec_sync Trigger.the_row trigger_sync, (option_row BoundExpr.the_row expr_sync, (bound_sync, (usize_sync, tt))))

row_sync : IsSync Row.the_row
row_sync = declared_sync Row.the_type (vec_sync u16 (search sendable), (bound_sync, (bound_sync, (vec_sync Arrow.the_row arrow_sync, (usize_sync, tt)))))

node_sync : IsSync Node.the_row
node_sync = variants_sync Node.enum (
  (u16_sync, tt),
  ((u16_sync, (arrow_sync, tt)), ((vec_sync Arrow.the_row arrow_sync, (arrow_sync, tt)), ((u16_sync, (arrow_sync, tt)), ((u16_sync, (arrow_sync, tt)), tt)))),
)

tables_sync : IsSync Tables.the_row
tables_sync = declared_sync Tables.the_type (
  vec_sync Row.the_row row_sync,
  (
    vec_sync (Vec.the_row Arrow.the_row Global.the_row ghosts) (Vec-sync Arrow.the_row arrow_sync),
    (vec_sync Node.the_row node_sync, (arrow_sync, (vec_sync i64 (search sendable), tt))),
  ),
)

pub plant_sync : IsSync Plant.the_row
plant_sync = declared_sync Plant.the_type (
  as_row_sync Wiring.the_field wiring_sync,
  (vec_sync (Option.the_row Tables.the_row) (option_row Tables.the_row tables_sync), (as_row_sync SlotRows.the_field rows_sync, (as_row_sync SlotRuns.the_field runs_sync, tt))),
)
