-- What lines come to names what the wiring has, as they do.
use Rattle.std.proofs.Common.{◌≡◌, ℕ, ◌+◌, Bool, List, [], ◌∷◌, ◌++◌, Option, Some, None, refl}
use Rattle.room_wiring.specs.declared.tables.Tables.{Tables}
use Rattle.inject_reader.specs.declared.inject_lines.accepted.Line.{Line}
use Rattle.inject_reader.specs.declared.inject_lines.accepted.What.{What}
use Rattle.inject_reader.specs.declared.inject_lines.accepted.What.TheVariants as whats
use Rattle.inject_reader.specs.Fitting.{LinesFit}
use Rattle.actor_merge.specs.World.{Placed}
use Rattle.model_run.proofs.part_posts.FitLaw.{fit_take}
use Rattle.room_timer.specs.Timers.{Timers, saw, moment}
use Rattle.room_timer.specs.Expansion.{Point, saw_all, cut_of, caught_up, settle, Advances, over, more, last, Expands, nothing, message, settled, advanced, cut_off}
use Rattle.room_timer.specs.Laws.{AllHear}
use Rattle.room_timer.proofs.Fits.{seen_hears, moment_fits}
use Rattle.timed_runs.specs.Passed.{Standing, messages_in_front, advancing, line_passed, passed, passed_on}

fit_both : (t : Tables) (a b : List Line) → LinesFit t a → LinesFit t b → LinesFit t (a ++ b)
fit_both t [] b h k = k
fit_both t (l ∷ a) b h k = (h.0, fit_both t a b h.1 k)

-- ---- an expansion

pub all_hear : (t : Tables) (ts : Timers) (xs : List Placed) → AllHear t ts → AllHear t (saw_all t ts xs)
all_hear t ts [] h = h
all_hear t ts (x ∷ xs) h = all_hear t (saw t ts x.party x.entry) xs (seen_hears t ts x.party x.entry h)

caught_hear : (t : Tables) (p : Point) → AllHear t p.timers → AllHear t (caught_up t p).timers
caught_hear t p h = all_hear t p.timers (cut_of t p).0 h

advance_fits : (t : Tables) (number until : ℕ) (p q : Point) (xs : List Line) (whole : Bool) → AllHear t p.timers
    → Advances t number until p xs q whole → LinesFit t xs × AllHear t q.timers
advance_fits t number until p q xs whole h (over _ none) = ((tt, tt), caught_hear t p h)
advance_fits t number until p q xs whole h (more _ r ms ys ts to_end some goes rest) =
    let here : AllHear t ts × LinesFit t ms = moment_fits t number (caught_up t p).timers ts until ms (caught_hear t p h) some in
    let behind = advance_fits t number until _ r ys to_end here.0 rest in
    (fit_both t (settle number ∷ ms) ys (tt, here.1) behind.0, behind.1)
advance_fits t number until p q xs whole h (last _ ms ts some goes) =
    let here : AllHear t ts × LinesFit t ms = moment_fits t number (caught_up t p).timers ts until ms (caught_hear t p h) some in
    ((tt, here.1), here.0)

pub expands_fit : (t : Tables) (done : Bool) (p : Point) (lines xs left : List Line) → LinesFit t lines → AllHear t p.timers
    → Expands t done p lines xs left → LinesFit t xs
expands_fit t done p lines xs left f h (nothing _) = tt
expands_fit t done p lines xs left f h (message _ l ls ys behind is a) = (f.0, expands_fit t done _ ls ys behind f.1 h a)
expands_fit t done p lines xs left f h (settled _ l ls ys behind is a) = (f.0, expands_fit t done _ ls ys behind f.1 h a)
expands_fit t done p lines xs left f h (advanced _ q l time ls ms ys behind is s a) =
    let here = advance_fits t l.number (p.timers.time + time) p q ms _ h s in
    fit_both t ms ys here.0 (expands_fit t done q ls ys behind f.1 here.1 a)
expands_fit t done p lines xs left f h (cut_off _ q l time ls ms is s) = (advance_fits t l.number (p.timers.time + time) p q ms _ h s).0

-- ---- a source

-- at a part that fits, with timers that were armed where timeouts come in
pub record StandsFit (t : Tables) (s : Standing) : Type 0 where
  pub part : LinesFit t s.part
  pub hears : AllHear t s.timers

module _ (t : Tables) where
  advance_stands : (gone : List Line) (number until : ℕ) (ts : Timers) (lines : List Line) (rest : List Line → Timers → Standing) → AllHear t ts
      → ((front : List Line) (us : Timers) → AllHear t us → StandsFit t (rest front us))
      → (o : Option (List Line × Timers)) → moment number ts until ≡ o → StandsFit t (advancing rest gone number until ts lines o)
  advance_stands gone number until ts lines rest h behind None is = behind (gone ++ settle number ∷ []) (record ts { time = until }) h
  advance_stands gone number until ts lines rest h behind (Some m) is =
      let here : AllHear t m.1 × LinesFit t m.0 = moment_fits t number ts m.1 until m.0 h is in
      record { part = here.1; hears = here.0 }

  line_stands : (gone : List Line) (ts : Timers) (l : Line) (lines : List Line) → LinesFit t (l ∷ lines) → AllHear t ts
      → ((front : List Line) (us : Timers) → AllHear t us → StandsFit t (passed lines front us))
      → (w : What) → StandsFit t (line_passed (passed lines) gone ts (l ∷ lines) l.number w)
  line_stands gone ts l lines f h behind whats.Settle = behind (gone ++ settle l.number ∷ []) ts h
  line_stands gone ts l lines f h behind (whats.Advance time) =
      advance_stands gone l.number (ts.time + time) ts (l ∷ lines) (passed lines) h behind (moment l.number ts (ts.time + time)) refl
  line_stands gone ts l lines f h behind (whats.Message target signal payload prio) =
      record { part = fit_take t (messages_in_front (l ∷ lines)) (l ∷ lines) f; hears = h }

  passed_fits : (lines gone : List Line) (ts : Timers) → LinesFit t lines → AllHear t ts → StandsFit t (passed lines gone ts)
  passed_fits [] gone ts f h = record { part = tt; hears = h }
  passed_fits (l ∷ lines) gone ts f h = line_stands gone ts l lines f h (λ front us k. passed_fits lines front us f.1 k) l.what

  pub all_fit : (hand : Option ℕ) (lines gone : List Line) (ts : Timers) → LinesFit t lines → AllHear t ts → StandsFit t (passed_on hand lines gone ts)
  all_fit None lines gone ts f h = passed_fits lines gone ts f h
  all_fit (Some time) [] gone ts f h = record { part = tt; hears = h }
  all_fit (Some time) (l ∷ lines) gone ts f h =
      advance_stands gone l.number (ts.time + time) ts (l ∷ lines) (passed lines) h (λ front us k. passed_fits lines front us f.1 k) (moment l.number ts (ts.time + time)) refl
