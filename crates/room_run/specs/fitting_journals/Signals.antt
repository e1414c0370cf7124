-- What controllers post.
-- `NamesSignal`: the signal of each message that a controller posts is one of its target's port, or, at priority 0,
-- a kind of system messages. It is so of every run of a plant that fits, over lines that fit
-- (`fitting_runs_journals`).
use Rattle.room_wiring.specs.declared.tables.Tables.{Tables}
use Rattle.journal.specs.Fits.{FitsSignal}
use Rattle.journal.specs.declared.entry.Entry.{Entry}
use Rattle.journal.specs.declared.entry.Entry.TheVariants as entry

-- the signal of what an entry posts is one of the wiring
abbrev pub NamesSignal : Tables → Entry → Type 0
NamesSignal t (entry.Start who state notes) = Unit {0}
NamesSignal t (entry.Fetch stamp m) = Unit {0}
NamesSignal t (entry.Turn stamp from sent did notes) = Unit {0}
NamesSignal t (entry.Post stamp m) = FitsSignal t m.prio.0 m.target m.signal
