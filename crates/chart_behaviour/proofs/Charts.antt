-- The laws of the behaviour of charts.
use Rattle.std.proofs.Common.{◌≡◌, ℕ, ◌==◌, ◌&&◌, not, Bool, true, false, List, [], ◌∷◌, Option, Some, None, slice_get, option_and_then, refl, sym, ap, ◌∙◌, subst}
use Rattle.std.specs.List.{list_all}
use Rattle.std.proofs.lemmas.Bool.{true≢false}
use Rattle.room_kinds.specs.declared.message.Msg.{Msg}
use Rattle.room_kinds.specs.declared.note.Note.{Note}
use Rattle.room_kinds.specs.declared.note.Note.TheVariants as notes
use Rattle.room_kinds.specs.declared.command.Command.{Command}
use Rattle.room_kinds.specs.declared.command.Command.TheVariants as commands
use Rattle.room_kinds.specs.declared.numbers.Incarnation.{Incarnation}
use Rattle.room_wiring.specs.declared.tables.Tables.{Tables as Wiring}
use Rattle.chart_model.specs.Acting.{handles_by}
use Rattle.chart_run.specs.chart_tables.Tables.{plan}
use Rattle.chart_run.specs.declared.chart_tables.tables.Tables.{Tables}
use Rattle.chart_run.specs.Machines.{standing_of, result_view, acted_of, moment_of, moment_at_start, event_of}
use Rattle.chart_behaviour.specs.chart_asks.Asking.{TablesAsk}
use Rattle.chart_behaviour.specs.chart_asks.Laws.{is_zero, start_at}
use Rattle.chart_behaviour.proofs.chart_asks.Chains.{ask_only, note_zeros}
use Rattle.actor_duties.specs.Words.{class_number}
use Rattle.actor_world.specs.Life.{SaysNothing}
use Rattle.actor_world.specs.Directories.{SendsOpenly}
use Rattle.chart_behaviour.specs.ModelCharts.{Actor, class_tables, tables_at, begun, begins, came_to, handles}
use Rattle.chart_behaviour.specs.Asked.{ClassesAsk, is_open, is_static}
use Rattle.chart_behaviour.specs.Laws.{MachinesBegin, MachinesHandle, ChartsAreModest, ChartsAskOnly, ChartsAreOpen, ChartsAreStatic}

-- ---- machines

pub machines_begin : MachinesBegin
unfolding begins
machines_begin v x m effects s = ap begun (sym s.starts)

pub machines_handle : MachinesHandle
unfolding handles
machines_handle v x old new m o a e =
    subst (λ y. handles y m (Some v) (Some (standing_of old)) ≡ came_to (acted_of (result_view o.result) new o.effects)) e (ap came_to (sym a.acts))

-- ---- what actors ask for

begins_asks : (test : Command → Bool) (x : Incarnation) (o : Option Tables) → ((v : Tables) → o ≡ Some v → TablesAsk test v) → list_all test (begins x o).commands ≡ true
unfolding begins
begins_asks test x None h = refl
begins_asks test x (Some v) h = ask_only.starts test v (moment_at_start x) (h v refl)

handles_asks : (test : Command → Bool) (x : Incarnation) (m : Msg) (o : Option Tables) (actor : Actor) → ((v : Tables) → o ≡ Some v → TablesAsk test v) → list_all test (handles x m o actor).commands ≡ true
unfolding handles
handles_asks test x m None actor h = refl
handles_asks test x m (Some v) None h = refl
handles_asks test x m (Some v) (Some actor) h = ask_only.handles test v (moment_of x m) (event_of m) actor (h v refl)

none_some : (u : Tables) → ◌≡◌ {A = Option Tables} None (Some u) → ⊥
none_some u e = cc

-- the tables of a class that has them
by_class : (test : Command → Bool) (classes : List (Option Tables)) → ClassesAsk test classes → (c : ℕ) (o : Option (Option Tables)) → slice_get classes c ≡ o
    → (v : Tables) → option_and_then (λ (u : Option Tables). u) o ≡ Some v → TablesAsk test v
by_class test classes h c None f v d = absurd (none_some v d)
by_class test classes h c (Some u) f v d = h c v (f ∙ ap (λ x. Some x) d)

class_asks : (test : Command → Bool) (classes : List (Option Tables)) → ClassesAsk test classes → (n : Option ℕ) (v : Tables) → option_and_then (class_tables classes) n ≡ Some v → TablesAsk test v
class_asks test classes h None v e = absurd (none_some v e)
class_asks test classes h (Some c) v e = by_class test classes h c (slice_get classes c) refl v e

slot_asks : (test : Command → Bool) (w : Wiring) (classes : List (Option Tables)) → ClassesAsk test classes → (slot : ℕ) (v : Tables) → tables_at w classes slot ≡ Some v → TablesAsk test v
unfolding tables_at
slot_asks test w classes h slot v e = class_asks test classes h (class_number w slot) v e

pub asks_only : ChartsAskOnly
asks_only w classes test h = record {
  begin = λ x. begins_asks test x (tables_at w classes x.slot.0) (slot_asks test w classes h x.slot.0);
  handle = λ x actor m. handles_asks test x m (tables_at w classes x.slot.0) actor (slot_asks test w classes h x.slot.0);
}

pub are_static : ChartsAreStatic
are_static w classes h = asks_only w classes is_static h

not_false : (b : Bool) → not b ≡ true → b ≡ false
not_false true e = sym e
not_false false e = refl

and_first : (a b : Bool) → a && b ≡ true → a ≡ true
and_first true b e = refl
and_first false b e = e

and_second : (a b : Bool) → a && b ≡ true → b ≡ true
and_second true b e = e
and_second false b e = absurd (true≢false (sym e))

sends_openly : (cs : List Command) → list_all is_open cs ≡ true → SendsOpenly cs
sends_openly [] e = tt
sends_openly (commands.Send p k signal payload prio ∷ cs) e = (not_false (prio.0 == 0) (and_first (not (prio.0 == 0)) (list_all is_open cs) e), sends_openly cs (and_second (not (prio.0 == 0)) (list_all is_open cs) e))
sends_openly (commands.Defer ∷ cs) e = sends_openly cs e
sends_openly (commands.Recall ∷ cs) e = sends_openly cs e
sends_openly (commands.RecallAll ∷ cs) e = sends_openly cs e
sends_openly (commands.Frame c ∷ cs) e = sends_openly cs e
sends_openly (commands.Name c ∷ cs) e = sends_openly cs e

pub are_open : ChartsAreOpen
are_open w classes h =
    let only = asks_only w classes is_open h in
    record {
      begin = λ x. sends_openly (begins x (tables_at w classes x.slot.0)).commands (only.begin x);
      handle = λ x actor m. sends_openly (handles x m (tables_at w classes x.slot.0) actor).commands (only.handle x actor m);
    }

-- ---- what actors note

says_nothing : (ns : List Note) → list_all is_zero ns ≡ true → SaysNothing ns
says_nothing [] e x = (refl, refl)
says_nothing (notes.Zero ∷ ns) e x = says_nothing ns e x
says_nothing (notes.NoMessage ∷ ns) e x = absurd (true≢false (sym e))
says_nothing (notes.Unbound port place ∷ ns) e x = absurd (true≢false (sym e))
says_nothing (notes.Recall count ∷ ns) e x = absurd (true≢false (sym e))
says_nothing (notes.Up who state ∷ ns) e x = absurd (true≢false (sym e))
says_nothing (notes.Down who lost ∷ ns) e x = absurd (true≢false (sym e))

begins_modest : (x : Incarnation) (o : Option Tables) → SaysNothing (begins x o).notes
unfolding begins
begins_modest x None = says_nothing [] refl
begins_modest x (Some v) = says_nothing (start_at v (moment_at_start x)).notes (note_zeros.starts v (moment_at_start x))

handles_modest : (x : Incarnation) (m : Msg) (o : Option Tables) (actor : Actor) → SaysNothing (handles x m o actor).notes
unfolding handles
handles_modest x m None actor = says_nothing [] refl
handles_modest x m (Some v) None = says_nothing [] refl
handles_modest x m (Some v) (Some actor) =
    says_nothing (handles_by (plan v) (moment_of x m) (event_of m) actor).notes (note_zeros.handles v (moment_of x m) (event_of m) actor)

pub are_modest : ChartsAreModest
are_modest w classes = record {
  begin = λ x. begins_modest x (tables_at w classes x.slot.0);
  handle = λ x actor m. handles_modest x m (tables_at w classes x.slot.0) actor;
}
