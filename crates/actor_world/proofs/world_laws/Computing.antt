-- The definitions that the worked example computes with, opened at once.
use Rattle.actor_merge.specs.Parties.{put, fetch, lowest, put_back, turn, post}
use Rattle.room_wiring.specs.Places.{port_count, is_told}
use Rattle.room_wiring.specs.Slots.{class_of}
use Rattle.actor_duties.specs.Commands.{defer, recall}
use Rattle.actor_duties.specs.Frame.{end_messages, part_ends, frame_ended, end_set_ended, destroy, part_end, frame_duty, incarnate, destroy_command}
use Rattle.actor_duties.specs.Links.{end_of}
use Rattle.actor_duties.specs.Lives.{is_made_with, has_part, part_controllers, comes_up, made_slots, is_reached, goes_down, ended_slots, lives_made, lives_ended, told_controllers, announces, parts_told, part_make, made, create, create_done, destroy_done}
use Rattle.actor_duties.specs.Words.{updated, owner_of, is_own, is_fixed, is_optional, container_of, reference_of, index_of, part_at, port_at, is_sap, is_spp}
use Rattle.actor_world.specs.Start.{lives_from_start, first_actors, starting}
use Rattle.actor_world.specs.Turns.{handled, dispatch, treat}

-- names what unfolds in the computation
unfoldable pub computing : Unit {0}
unfolding put fetch lowest put_back turn post port_count is_told class_of defer recall end_messages part_ends frame_ended end_set_ended destroy part_end frame_duty incarnate destroy_command end_of is_made_with has_part part_controllers comes_up made_slots is_reached goes_down ended_slots lives_made lives_ended told_controllers announces parts_told part_make made create create_done destroy_done updated owner_of is_own is_fixed is_optional container_of reference_of index_of part_at port_at is_sap is_spp lives_from_start first_actors starting handled dispatch treat
computing = tt
