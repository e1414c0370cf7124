-- What the journals of controllers tell of actors, at their starts and in their turns.
-- `TellsOfActors`: who starts, who handled a message and who came up is an actor of the wiring, in a state of its
-- class; who went down and whose message was stale, too; and each note `unbound` names a port of who speaks. It
-- is so of every run of a plant that fits (`fitting_runs_journals`). Of a message that found nobody it isn't said
-- here that its slot is there, but in `Places`.
use Rattle.std.specs.Prelude.{Some, false}
use Rattle.room_wiring.specs.declared.tables.Tables.{Tables}
use Rattle.journal.specs.Fits.{FitsIncarnation, FitsStanding, FitsNotes}
use Rattle.journal.specs.Lines.{is_duty, speaker_of}
use Rattle.journal.specs.declared.entry.Did.{Did}
use Rattle.journal.specs.declared.entry.Did.TheVariants as outcomes
use Rattle.journal.specs.declared.entry.Entry.{Entry}
use Rattle.journal.specs.declared.entry.Entry.TheVariants as entry

-- who a turn's message was for is an actor of the wiring, and stands in a state of its class
abbrev pub FitsActor : Tables → Did → Type 0
FitsActor t outcomes.Duty = Unit {0}
FitsActor t (outcomes.Handled who state) = FitsStanding t who state
FitsActor t (outcomes.Deferred who state) = FitsStanding t who state
FitsActor t (outcomes.Unhandled who state) = FitsStanding t who state
FitsActor t (outcomes.Stale target) = FitsIncarnation t target
FitsActor t (outcomes.Empty target) = Unit {0}

-- what an entry tells of actors is so of the wiring
abbrev pub TellsOfActors : Tables → Entry → Type 0
TellsOfActors t (entry.Start who state notes) = FitsStanding t who state × FitsNotes t false (Some who.slot) notes
TellsOfActors t (entry.Fetch stamp m) = Unit {0}
TellsOfActors t (entry.Turn stamp from sent did notes) = FitsActor t did × FitsNotes t (is_duty did) (speaker_of did) notes
TellsOfActors t (entry.Post stamp m) = Unit {0}
