-- The worked examples that end quietly, and the one whose fuel is spent.
use Rattle.std.specs.Prelude.{true, [], ◌∷◌}
use Rattle.actor_world.specs.Journals.{left}
use Rattle.worked_examples.specs.worlds.Incarnate as of_incarnate
use Rattle.worked_examples.specs.worlds.Stale as of_stale
use Rattle.worked_examples.specs.worlds.Late as of_late
use Rattle.worked_examples.specs.worlds.PingPong as of_two_controllers
use Rattle.worked_examples.specs.worlds.Priorities as of_priorities
use Rattle.worked_examples.specs.worlds.Parts as of_parts
use Rattle.worked_examples.specs.worlds.Defer as of_defer
use Rattle.worked_examples.specs.worlds.Broadcast as of_broadcast
use Rattle.worked_examples.specs.worlds.Import as of_import_then_deport
use Rattle.worked_examples.specs.worlds.Home as of_home
use Rattle.worked_examples.specs.worlds.Provider as of_provider
use Rattle.worked_examples.specs.worlds.Withdrawal as of_withdrawal
use Rattle.worked_examples.specs.worlds.OtherPart as of_other_part
use Rattle.worked_examples.specs.worlds.NestedEnd as of_nested_end
use Rattle.worked_examples.specs.worlds.world_rows.Alone as of_alone
use Rattle.worked_examples.specs.worlds.world_rows.Switch as of_switch
use Rattle.worked_examples.specs.worlds.world_rows.Choice as of_choice
use Rattle.worked_examples.specs.worlds.world_rows.History as of_history
use Rattle.worked_examples.specs.worlds.world_rows.Numbers as of_numbers
use Rattle.worked_examples.specs.worlds.world_rows.SideBySide as of_side_by_side
use Rattle.worked_examples.specs.worlds.world_rows.Exchanged as of_exchanged
use Rattle.worked_examples.specs.worlds.world_rows.Ends.{EndsWith}

-- All is quiet at the end, and nothing is left.
pub record AllEndQuietly : Type 0 where
  pub incarnate : EndsWith of_incarnate.model of_incarnate.tables of_incarnate.lines of_incarnate.merge []
  pub stale : EndsWith of_stale.model of_stale.tables of_stale.lines of_stale.merge []
  pub late : EndsWith of_late.model of_late.tables of_late.lines of_late.merge []
  pub two_controllers : EndsWith of_two_controllers.model of_two_controllers.tables of_two_controllers.lines of_two_controllers.merge []
  pub priorities : EndsWith of_priorities.model of_priorities.tables of_priorities.lines of_priorities.merge []
  pub parts : EndsWith of_parts.model of_parts.tables of_parts.lines of_parts.merge []
  pub defer : EndsWith of_defer.model of_defer.tables of_defer.lines of_defer.merge []
  pub broadcast : EndsWith of_broadcast.model of_broadcast.tables of_broadcast.lines of_broadcast.merge []
  pub import_then_deport : EndsWith of_import_then_deport.model of_import_then_deport.tables of_import_then_deport.lines of_import_then_deport.merge []
  pub home : EndsWith of_home.model of_home.tables of_home.lines of_home.merge []
  pub provider : EndsWith of_provider.model of_provider.tables of_provider.lines of_provider.merge []
  pub withdrawal : EndsWith of_withdrawal.model of_withdrawal.tables of_withdrawal.lines of_withdrawal.merge []
  pub other_part : EndsWith of_other_part.model of_other_part.tables of_other_part.lines of_other_part.merge []
  pub nested_end : EndsWith of_nested_end.model of_nested_end.tables of_nested_end.lines of_nested_end.merge []
  pub alone : EndsWith of_alone.model of_alone.tables of_alone.lines of_alone.merge []
  pub one_message : EndsWith of_switch.model of_switch.tables of_switch.one_lines of_switch.one_merge []
  pub other_message : EndsWith of_switch.model of_switch.tables of_switch.other_lines of_switch.other_merge []
  pub sixty_five : EndsWith of_switch.model of_switch.tables of_switch.many_lines of_switch.many_merge []
  pub choice : EndsWith of_choice.model of_choice.tables of_choice.lines of_choice.merge []
  pub group : EndsWith (of_history.begun 2 (of_history.go 4 ∷ [])) of_history.tables of_history.group_lines of_history.group_merge []
  pub border : EndsWith (of_history.begun 4 []) of_history.tables of_history.border_lines of_history.border_merge []
  pub numbers : EndsWith of_numbers.model of_numbers.tables of_numbers.lines of_numbers.whole_merge []
  pub no_lines : EndsWith of_numbers.model of_numbers.tables of_numbers.none_lines of_numbers.none_merge []
  pub side_by_side : EndsWith of_side_by_side.model of_side_by_side.tables of_side_by_side.lines of_side_by_side.merge []
  pub exchanged : EndsWith of_exchanged.model of_exchanged.tables of_exchanged.lines of_exchanged.merge []
  pub second_plug : EndsWith of_import_then_deport.model of_import_then_deport.tables of_import_then_deport.refused_lines of_import_then_deport.refused_merge []

-- With fuel for one turn the answer of the second actor's message stays pending.
abbrev pub SpentLeavesOne : Type 0
SpentLeavesOne = EndsWith of_numbers.model of_numbers.tables of_numbers.lines of_numbers.spent_merge (left 0 true of_numbers.m0_4 ∷ [])
