-- All definitions of the world, opened at once to compute with.
use Rattle.actor_merge.specs.Mail.{is_lane}
use Rattle.actor_merge.specs.Parties.{put, fetch, lowest, put_back, turn, post, environment_post, begins}
use Rattle.actor_merge.specs.World.{caught_up, put_lane, happens}
use Rattle.room_wiring.specs.Places.{port_count, span_at, place_count, partner_at, is_told}
use Rattle.room_wiring.specs.Slots.{class_of, slot_named}
use Rattle.actor_duties.specs.Commands.{send, broadcast_places, broadcast, defer, recall, recall_all}
use Rattle.actor_duties.specs.Frame.{end_messages, part_ends, frame_ended, end_set_ended, destroy, part_end, frame_duty, incarnate, destroy_command, import_command, deport_command}
use Rattle.actor_duties.specs.Imports.{is_port_taken, import, import_done, import_refused, import_ended, deport, deport_done}
use Rattle.actor_duties.specs.Links.{bound, unbound, name_reply, links_duty, register_command, withdraw_command, end_of, next_place}
use Rattle.actor_duties.specs.Lives.{is_made_with, has_part, part_controllers, comes_up, made_slots, is_reached, goes_down, ended_slots, lives_made, lives_ended, told_controllers, announces, parts_told, part_make, made, create, create_done, create_refused, destroy_done, announce}
use Rattle.actor_duties.specs.Names.{meet, provide, use_service, register_spp, register_sap, withdraw, register, table_duty}
use Rattle.actor_duties.specs.Peers.{known, frame_peer, link_peer, peer}
use Rattle.actor_duties.specs.Words.{updated, owner_of, is_own, is_fixed, is_optional, is_imported, container_of, reference_of, index_of, part_at, port_at, is_sap, is_spp, protocol_of, joined_at}
use Rattle.actor_world.specs.Start.{lives_from_start, first_actors, starting}
use Rattle.actor_world.specs.Turns.{handled, dispatch, treat}

-- names what unfolds in a computation
unfoldable pub computing : Unit {0}
unfolding is_lane put fetch lowest put_back turn post environment_post begins caught_up put_lane happens port_count span_at place_count partner_at is_told class_of slot_named send broadcast_places broadcast defer recall recall_all end_messages part_ends frame_ended end_set_ended destroy part_end frame_duty incarnate destroy_command import_command deport_command is_port_taken import import_done import_refused import_ended deport deport_done bound unbound name_reply links_duty register_command withdraw_command end_of next_place is_made_with has_part part_controllers comes_up made_slots is_reached goes_down ended_slots lives_made lives_ended told_controllers announces parts_told part_make made create create_done create_refused destroy_done announce meet provide use_service register_spp register_sap withdraw register table_duty known frame_peer link_peer peer updated owner_of is_own is_fixed is_optional is_imported container_of reference_of index_of part_at port_at is_sap is_spp protocol_of joined_at lives_from_start first_actors starting handled dispatch treat
computing = tt
