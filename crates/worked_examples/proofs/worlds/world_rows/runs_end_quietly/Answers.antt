use Rattle.std.proofs.Common.{refl}
use Rattle.worked_examples.proofs.worlds.Computing.{computing}
use Rattle.worked_examples.proofs.worlds.world_rows.runs_end_quietly.Goals as goal

pub returns : goal.returns
unfolding computing
returns c =
    record {
      incarnate = record { over = refl; posted = refl; silent = refl };
      stale = record { over = refl; posted = refl; silent = refl };
      late = record { over = refl; posted = refl; silent = refl };
      two_controllers = record { over = refl; posted = refl; silent = refl };
      priorities = record { over = refl; posted = refl; silent = refl };
      parts = record { over = refl; posted = refl; silent = refl };
      defer = record { over = refl; posted = refl; silent = refl };
      broadcast = record { over = refl; posted = refl; silent = refl };
      import_then_deport = record { over = refl; posted = refl; silent = refl };
      home = record { over = refl; posted = refl; silent = refl };
      provider = record { over = refl; posted = refl; silent = refl };
      withdrawal = record { over = refl; posted = refl; silent = refl };
      other_part = record { over = refl; posted = refl; silent = refl };
      nested_end = record { over = refl; posted = refl; silent = refl };
      alone = record { over = refl; posted = refl; silent = refl };
      one_message = record { over = refl; posted = refl; silent = refl };
      other_message = record { over = refl; posted = refl; silent = refl };
      sixty_five = record { over = refl; posted = refl; silent = refl };
      choice = record { over = refl; posted = refl; silent = refl };
      group = record { over = refl; posted = refl; silent = refl };
      border = record { over = refl; posted = refl; silent = refl };
      numbers = record { over = refl; posted = refl; silent = refl };
      no_lines = record { over = refl; posted = refl; silent = refl };
      side_by_side = record { over = refl; posted = refl; silent = refl };
      exchanged = record { over = refl; posted = refl; silent = refl };
      second_plug = record { over = refl; posted = refl; silent = refl };
    }
