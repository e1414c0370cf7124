-- At the end of a run that is done, no armed timer is due.
use Rattle.std.proofs.Common.{◌≡◌, ℕ, ◌+◌, Bool, true, List, [], ◌∷◌, subst}
use Rattle.journal.specs.declared.entry.Journals.{Journals}
use Rattle.room_wiring.specs.declared.tables.Tables.{Tables}
use Rattle.inject_reader.specs.declared.inject_lines.accepted.Line.{Line}
use Rattle.actor_merge.specs.World.{Placed}
use Rattle.room_timer.specs.Timers.{Timers, saw}
use Rattle.room_timer.specs.Expansion.{Point, beginning, saw_all, cut_of, caught_up, further, Advances, over, more, last, Expands, nothing, message, settled, advanced, cut_off, IsExpansion}
use Rattle.room_timer.specs.Laws.{AreLater}
use Rattle.room_timer.proofs.Later.{seen_later, moment_later, wait_later}
use Rattle.timed_runs.specs.Timed.{LeadsTo, NoneIsDue}
use Rattle.timed_runs.specs.Timed.LeadsTo.{nothing as leads_nothing, message as leads_message, settled as leads_settled, advanced as leads_advanced}

pub all_later : (t : Tables) (ts : Timers) (xs : List Placed) → AreLater ts → AreLater (saw_all t ts xs)
all_later t ts [] h = h
all_later t ts (x ∷ xs) h = all_later t (saw t ts x.party x.entry) xs (seen_later t ts x.party x.entry h)

advance_later : (t : Tables) (number until : ℕ) (p q : Point) (xs : List Line) (whole : Bool) → AreLater p.timers → Advances t number until p xs q whole
    → AreLater q.timers
advance_later t number until p q xs whole h (over _ none) =
    wait_later number (caught_up t p).timers until (all_later t p.timers (cut_of t p).0 h) none
advance_later t number until p q xs whole h (more _ r ms ys ts to_end some goes rest) =
    advance_later t number until _ r ys to_end (moment_later number (caught_up t p).timers ts until ms (all_later t p.timers (cut_of t p).0 h) some) rest
advance_later t number until p q xs whole h (last _ ms ts some goes) =
    moment_later number (caught_up t p).timers ts until ms (all_later t p.timers (cut_of t p).0 h) some

-- lines that were all finished lead on, and each timer is due later
pub record LeadLater (t : Tables) (p : Point) (lines : List Line) : Type 0 where
  pub end : Point
  pub leads : LeadsTo t p lines end
  pub later : AreLater (saw_all t end.timers end.ahead)

pub lead_later : (t : Tables) (p : Point) (lines xs left : List Line) → Expands t true p lines xs left → left ≡ [] → AreLater p.timers → LeadLater t p lines
lead_later t p lines xs left (nothing _) none h = record { end = p; leads = leads_nothing p; later = all_later t p.timers p.ahead h }
lead_later t p lines xs left (message _ l ls ys behind is a) none h =
    let tail = lead_later t (further 1 p) ls ys behind a none h in
    record { end = tail.end; leads = leads_message p tail.end l ls is tail.leads; later = tail.later }
lead_later t p lines xs left (settled _ l ls ys behind is a) none h =
    let tail = lead_later t p ls ys behind a none h in
    record { end = tail.end; leads = leads_settled p tail.end l ls is tail.leads; later = tail.later }
lead_later t p lines xs left (advanced _ q l time ls ms ys behind is s a) none h =
    let tail = lead_later t q ls ys behind a none (advance_later t l.number (p.timers.time + time) p q ms true h s) in
    record { end = tail.end; leads = leads_advanced p q tail.end l time ls ms is s tail.leads; later = tail.later }
lead_later t p lines xs left (cut_off _ q l time ls ms is s) none h = absurd cc

pub none_is_due : (t : Tables) (lines expansion left : List Line) (j : Journals) → IsExpansion t lines j expansion left → j.done ≡ true → left ≡ [] → NoneIsDue t lines j
none_is_due t lines expansion left j e done none =
    let l : LeadLater t (beginning e.merge) lines =
    lead_later t (beginning e.merge) lines expansion left (subst (λ d. Expands t d (beginning e.merge) lines expansion left) done e.expands) none tt in
    record { merge = e.merge; is = e.is; end = l.end; leads = l.leads; later = l.later }
