-- What a send adds to what was put out so far.
use Rattle.std.specs.Prelude.{◌≡◌, ◌++◌}
use Rattle.controller_actors.specs.declared.actor_commands.output.Output.{Output}
use Rattle.controller_actors.specs.declared.actor_commands.command_sends.speaker.Content.{Content as CodeContent}
use Rattle.actor_duties.specs.Commands.{Content, Sent}

-- the messages of a send follow those that were sent so far, its notes follow theirs, and nothing comes back
pub record Adds (s : Sent) (old new : Output) : Type 0 where
  pub messages : new.messages ≡ old.messages ++ s.messages
  pub notes : new.notes ≡ old.notes ++ s.notes
  pub back : new.back ≡ old.back

-- what is sent
abbrev pub content_of : CodeContent → Content
content_of c = record { signal = c.signal; payload = c.payload; prio = c.prio }
