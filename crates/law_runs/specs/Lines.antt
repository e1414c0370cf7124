-- What the environment's journal says of the lines: it posts what they ask for, one after another.
use Rattle.std.specs.Prelude.{List, [], ◌∷◌, map, flat_map}
use Rattle.room_kinds.specs.declared.message.Msg.{Msg}
use Rattle.journal.specs.declared.entry.Entry.{Entry}
use Rattle.room_wiring.specs.declared.tables.Tables.{Tables}
use Rattle.inject_reader.specs.declared.inject_lines.accepted.Line.{Line}
use Rattle.inject_reader.specs.declared.inject_lines.accepted.What.{What}
use Rattle.inject_reader.specs.declared.inject_lines.accepted.What.TheVariants as whats
use Rattle.model_run.specs.part_posts.Items.{injected}
use Rattle.law_runs.specs.Mail.{posted}

-- what a line asks for: a message from outside, to the controller that runs its target's slot; `settle` and
-- `advance` ask for none
abbrev pub asked_by : Tables → What → List Msg
asked_by t whats.Settle = []
asked_by t (whats.Advance time) = []
asked_by t (whats.Message target signal payload prio) = injected t target signal payload prio ∷ []

-- what lines ask for, in order
abbrev pub asked : Tables → List Line → List Msg
asked t lines = flat_map (λ (l : Line). asked_by t l.what) lines

-- a posted message but for its sender and its stamp, which its post gave it
abbrev pub as_asked : Msg → Msg
as_asked m = record m { from = record { 0 = 0 }; stamp = record { 0 = 0 } }

-- what a journal posts, as it was asked for
abbrev pub posted_as_asked : List Entry → List Msg
posted_as_asked es = map as_asked (posted es)
