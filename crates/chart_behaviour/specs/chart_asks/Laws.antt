-- What a chain of an actor notes and asks for, as laws of its tables.
-- `chains_ask_only`: where the commands that the programs of an actor's tables may ask for pass a
-- test, whatever numbers they have at hand, the commands of a start and of each message pass it.
-- `chains_note_zeros`: their notes say that a divisor was 0, and nothing else.
-- `unhandled_asks_nothing`: where no transition is enabled, nothing is asked for.
use Rattle.std.specs.Prelude.{◌≡◌, ℕ, Bool, true, false, []}
use Rattle.std.specs.List.{list_all}
use Rattle.room_kinds.specs.declared.note.Note.{Note}
use Rattle.room_kinds.specs.declared.note.Note.TheVariants as notes
use Rattle.room_kinds.specs.declared.command.Command.{Command}
use Rattle.action_program.specs.declared.moment.Moment.{Moment}
use Rattle.chart_model.specs.Acting.{Standing, Acted, Unhandled, handles_by, starts_by}
use Rattle.chart_model.specs.Chart.{Event}
use Rattle.chart_run.specs.chart_tables.Tables.{plan, arrow_view}
use Rattle.chart_run.specs.declared.chart_tables.tables.Tables.{Tables}
use Rattle.chart_behaviour.specs.chart_asks.Asking.{TablesAsk}

-- the start of an actor by its tables, at a moment
abbrev pub start_at : Tables → Moment → Acted ℕ
start_at v at = starts_by (plan v) at (arrow_view v.initial) v.values.items

-- a start and each message: the commands pass a test that all do which the tables' programs may ask for
pub record ChainsAskOnly : Type 0 where
  pub starts : (test : Command → Bool) (v : Tables) (at : Moment) → TablesAsk test v → list_all test (start_at v at).commands ≡ true
  pub handles : (test : Command → Bool) (v : Tables) (at : Moment) (e : Event) (actor : Standing ℕ) → TablesAsk test v
      → list_all test (handles_by (plan v) at e actor).commands ≡ true

-- whether a note says that a divisor was 0
abbrev pub is_zero : Note → Bool
is_zero notes.Zero = true
is_zero notes.NoMessage = false
is_zero (notes.Unbound port place) = false
is_zero (notes.Recall count) = false
is_zero (notes.Up who state) = false
is_zero (notes.Down who lost) = false

-- a start and each message: no other notes are made
pub record ChainsNoteZeros : Type 0 where
  pub starts : (v : Tables) (at : Moment) → list_all is_zero (start_at v at).notes ≡ true
  pub handles : (v : Tables) (at : Moment) (e : Event) (actor : Standing ℕ) → list_all is_zero (handles_by (plan v) at e actor).notes ≡ true

-- where nothing is enabled, nothing is asked for
abbrev pub UnhandledAsksNothing : Type 0
UnhandledAsksNothing =
    (v : Tables) (at : Moment) (e : Event) (actor : Standing ℕ) → (handles_by (plan v) at e actor).result ≡ Unhandled
    → (handles_by (plan v) at e actor).commands ≡ []
