-- A walk over lines, step by step.
use Rattle.std.proofs.Common.{◌≡◌, ℕ, ◌+◌, ◌-◌, ◌≤◌, ◌<◌, Bool, true, false, List, [], ◌∷◌, ◌++◌, length, take, drop, slice_get, Option, Some, None, refl, sym, ap, ◌∙◌, subst, arith}
use Rattle.std.proofs.lemmas.List.{drop-drop, drop_all}
use Rattle.inject_reader.specs.declared.inject_lines.accepted.Line.{Line}
use Rattle.inject_reader.specs.declared.inject_lines.accepted.What.{What}
use Rattle.inject_reader.specs.declared.inject_lines.accepted.What.TheVariants as whats
use Rattle.model_run.specs.part_source.Parts.{is_message}
use Rattle.model_run.specs.part_source.Calls.{Seen}
use Rattle.room_timer.specs.Timers.{Timers, moment}
use Rattle.room_timer.specs.Expansion.{settle}
use Rattle.timed_runs.specs.Passed.{Standing, at_end, messages_in_front, at_messages, advancing, advance_on, line_passed, passed, passed_on}
use Rattle.timed_runs.specs.Walks.{Walk, given_by, standing, Walks}
use Rattle.timed_runs.specs.Unseen.{journal_at, Sees}
use Rattle.timed_runs.specs.Looks.{SeesAll}
use Rattle.timed_runs.specs.Steps.{outcome, StaysOn, Steps, GoesOn, Passes, ComesTo, Advances, Takes}
use Rattle.timed_runs.proofs.Seeing.{drop_there}

-- standings with the same parts are the same
same_standing : (gone front part now : List Line) (ts us : Timers) (left other : Option ℕ) (behind rest : List Line) (more : Bool)
    → gone ≡ front → part ≡ now → ts ≡ us → left ≡ other → behind ≡ rest
    → ◌≡◌ {A = Standing} (record { gone = gone; part = part; timers = ts; left = left; behind = behind; more = more })
    (record { gone = front; part = now; timers = us; left = other; behind = rest; more = more })
same_standing gone front part now ts us left other behind rest more g p t l b =
    λ i. record { gone = g i; part = p i; timers = t i; left = l i; behind = b i; more = more }

module _ (old new : Walk) where
  -- after a line was passed
  passed_outcome : (number : ℕ) (ts : Timers) → Passes number ts old new
      → outcome new ≡ passed (drop (old.to + 1) old.lines) (old.gone ++ settle number ∷ []) ts
  passed_outcome number ts p =
      ap (λ (h : Option ℕ). passed_on h (drop new.to new.lines) new.gone new.timers) p.left
      ∙ ap (λ (k : ℕ). passed (drop k new.lines) new.gone new.timers) p.to
      ∙ ap (λ (ls : List Line). passed (drop (old.to + 1) ls) new.gone new.timers) p.stays.lines
      ∙ ap (λ (g : List Line). passed (drop (old.to + 1) old.lines) g new.timers) p.gone
      ∙ ap (λ (z : Timers). passed (drop (old.to + 1) old.lines) (old.gone ++ settle number ∷ []) z) p.timers

  -- the line at which it stands, and those behind it
  module _ (l : Line) (here : slice_get old.lines old.to ≡ Some l) (empty : old.part ≡ []) where
    abbrev rest : List Line
    rest = drop (old.to + 1) old.lines

    at_line : drop old.to old.lines ≡ l ∷ drop (old.to + 1) old.lines
    at_line = drop_there old.lines old.to l here

    fresh_outcome : (w : What) → old.left ≡ None → l.what ≡ w
        → outcome old ≡ line_passed (passed (drop (old.to + 1) old.lines)) old.gone old.timers (l ∷ drop (old.to + 1) old.lines) l.number w
    fresh_outcome w fresh is =
        ap (λ (h : Option ℕ). passed_on h (drop old.to old.lines) old.gone old.timers) fresh
        ∙ ap (λ (ls : List Line). passed ls old.gone old.timers) at_line
        ∙ ap (λ (z : What). line_passed (passed (drop (old.to + 1) old.lines)) old.gone old.timers (l ∷ drop (old.to + 1) old.lines) l.number z) is

    hand_outcome : (time : ℕ) → old.left ≡ Some time
        → outcome old ≡ advance_on (passed (drop (old.to + 1) old.lines)) old.gone l.number time old.timers (l ∷ drop (old.to + 1) old.lines)
    hand_outcome time hand =
        ap (λ (h : Option ℕ). passed_on h (drop old.to old.lines) old.gone old.timers) hand
        ∙ ap (λ (ls : List Line). passed_on (Some time) ls old.gone old.timers) at_line

    settle_steps : Passes l.number old.timers old new → old.left ≡ None → l.what ≡ whats.Settle → Steps old new false
    settle_steps p fresh is = record {
      stays = p.stays;
      here = λ e. absurd cc;
      goes_on = λ e. fresh_outcome whats.Settle fresh is ∙ sym (passed_outcome l.number old.timers p);
      empty = λ e. p.part ∙ empty;
      fewer = λ e. p.to;
    }

    moment_outcome : (until : ℕ) → ComesTo l.number until old new
        → advancing (passed (drop (old.to + 1) old.lines)) old.gone l.number until old.timers (l ∷ drop (old.to + 1) old.lines) (moment l.number old.timers until)
        ≡ standing new true
    moment_outcome until c =
        let behind : l ∷ drop (old.to + 1) old.lines ≡ drop new.to new.lines =
        sym at_line ∙ ap (λ (k : ℕ). drop k old.lines) (sym c.to) ∙ ap (λ (ls : List Line). drop new.to ls) (sym c.stays.lines) in
        ap (λ (o : Option (List Line × Timers)). advancing (passed (drop (old.to + 1) old.lines)) old.gone l.number until old.timers (l ∷ drop (old.to + 1) old.lines) o) c.moment
        ∙ same_standing (old.gone ++ settle l.number ∷ []) new.gone new.part new.part new.timers new.timers (Some (until - new.timers.time)) new.left
        (l ∷ drop (old.to + 1) old.lines) (drop new.to new.lines) true (sym c.gone) refl refl (sym c.left) behind

    over_outcome : (until : ℕ) → moment l.number old.timers until ≡ None → Passes l.number (record old.timers { time = until }) old new
        → advancing (passed (drop (old.to + 1) old.lines)) old.gone l.number until old.timers (l ∷ drop (old.to + 1) old.lines) (moment l.number old.timers until)
        ≡ outcome new
    over_outcome until none p =
        ap (λ (o : Option (List Line × Timers)). advancing (passed (drop (old.to + 1) old.lines)) old.gone l.number until old.timers (l ∷ drop (old.to + 1) old.lines) o) none
        ∙ sym (passed_outcome l.number (record old.timers { time = until }) p)

    -- an `advance` that goes on by so much
    advance_steps : (time : ℕ) (begun : Bool)
        → outcome old ≡ advance_on (passed (drop (old.to + 1) old.lines)) old.gone l.number time old.timers (l ∷ drop (old.to + 1) old.lines)
        → Advances l.number time old new begun → Steps old new begun
    advance_steps time true first a = record {
      stays = (a.comes refl).stays;
      here = λ e. first ∙ moment_outcome (old.timers.time + time) (a.comes refl);
      goes_on = λ e. absurd cc;
      empty = λ e. absurd cc;
      fewer = λ e. absurd cc;
    }
    advance_steps time false first a = record {
      stays = (a.over refl).stays;
      here = λ e. absurd cc;
      goes_on = λ e. first ∙ over_outcome (old.timers.time + time) (a.none refl) (a.over refl);
      empty = λ e. (a.over refl).part ∙ empty;
      fewer = λ e. (a.over refl).to;
    }

    pub settled : Passes l.number old.timers old new → old.left ≡ None → l.what ≡ whats.Settle → Steps old new false
    settled p fresh is = settle_steps p fresh is

    pub fresh_advance : (time : ℕ) (begun : Bool) → old.left ≡ None → l.what ≡ whats.Advance time → Advances l.number time old new begun → Steps old new begun
    fresh_advance time begun fresh is a = advance_steps time begun (fresh_outcome (whats.Advance time) fresh is) a

    pub advance_in_hand : (time : ℕ) (begun : Bool) → old.left ≡ Some time → Advances l.number time old new begun → Steps old new begun
    advance_in_hand time begun hand a = advance_steps time begun (hand_outcome time hand) a

    pub taken : (w : What) → is_message w ≡ true → old.left ≡ None → l.what ≡ w → Takes old new → Steps old new true
    taken w message fresh is t = record {
      stays = t.stays;
      here = λ e. whole;
      goes_on = λ e. absurd cc;
      empty = λ e. absurd cc;
      fewer = λ e. absurd cc;
    }
      where
        to_messages : (v : What) → is_message v ≡ true
            → line_passed (passed (drop (old.to + 1) old.lines)) old.gone old.timers (l ∷ drop (old.to + 1) old.lines) l.number v
            ≡ at_messages old.gone old.timers (l ∷ drop (old.to + 1) old.lines)
        to_messages whats.Settle e = absurd cc
        to_messages (whats.Advance time) e = absurd cc
        to_messages (whats.Message target signal payload prio) e = refl

        behind : drop (messages_in_front (drop old.to old.lines)) (drop old.to old.lines) ≡ drop new.to new.lines
        behind =
            drop-drop (messages_in_front (drop old.to old.lines)) old.to old.lines
            ∙ ap (λ (j : ℕ). drop j old.lines) (sym t.to) ∙ ap (λ (ls : List Line). drop new.to ls) (sym t.stays.lines)

        whole : outcome old ≡ standing new true
        whole =
            fresh_outcome w fresh is ∙ to_messages w message ∙ ap (λ (ls : List Line). at_messages old.gone old.timers ls) (sym at_line)
            ∙ same_standing old.gone new.gone (take (messages_in_front (drop old.to old.lines)) (drop old.to old.lines)) new.part
            old.timers new.timers None new.left (drop (messages_in_front (drop old.to old.lines)) (drop old.to old.lines)) (drop new.to new.lines) true
            (sym t.gone) (sym t.part) (sym t.timers) (sym (t.left ∙ fresh)) behind

-- ---- in a loop

-- lines were passed so far, and no part has begun
pub record Passing (start now : Walk) : Type 0 where
  pub stays : StaysOn start now
  pub goes : outcome start ≡ outcome now
  pub empty : now.part ≡ []

stays_then : (a b c : Walk) → StaysOn a b → StaysOn b c → StaysOn a c
stays_then a b c x y = record { wiring = y.wiring ∙ x.wiring; lines = y.lines ∙ x.lines; seen = y.seen ∙ x.seen }

pub stays_there : (w : Walk) → StaysOn w w
stays_there w = record { wiring = refl; lines = refl; seen = refl }

pub none_passed : (w : Walk) → w.part ≡ [] → Passing w w
none_passed w empty = record { stays = stays_there w; goes = refl; empty = empty }

pub one_passed : (start now next : Walk) → Passing start now → Steps now next false → Passing start next
one_passed start now next p s = record {
  stays = stays_then start now next p.stays s.stays;
  goes = p.goes ∙ s.goes_on refl;
  empty = s.empty refl;
}

pub part_there : (start now next : Walk) → Passing start now → Steps now next true → GoesOn start next true
part_there start now next p s = record { stays = stays_then start now next p.stays s.stays; goes = p.goes ∙ s.here refl }

at_end_of : (hand : Option ℕ) (lines gone : List Line) (ts : Timers) → lines ≡ [] → passed_on hand lines gone ts ≡ at_end gone ts
at_end_of None lines gone ts e = ap (λ (ls : List Line). passed ls gone ts) e
at_end_of (Some time) lines gone ts e = ap (λ (ls : List Line). passed_on (Some time) ls gone ts) e

-- all lines were passed: what is left of an `advance` is forgotten
pub all_passed : (start now end : Walk) → Passing start now → length now.lines ≤ now.to → StaysOn now end → end.to ≡ now.to → end.gone ≡ now.gone
    → end.part ≡ now.part → end.timers ≡ now.timers → end.left ≡ None → GoesOn start end false
all_passed start now end p past stays to gone part timers left = record {
  stays = stays_then start now end p.stays stays;
  goes =
      let none : drop now.to now.lines ≡ [] = drop_all now.to now.lines past in
      let behind : [] ≡ drop end.to end.lines =
      sym none ∙ ap (λ (k : ℕ). drop k now.lines) (sym to) ∙ ap (λ (ls : List Line). drop end.to ls) (sym stays.lines) in
      p.goes ∙ at_end_of now.left (drop now.to now.lines) now.gone now.timers none
      ∙ same_standing now.gone end.gone [] end.part now.timers end.timers None end.left [] (drop end.to end.lines) false
      (sym gone) (sym (part ∙ p.empty)) (sym timers) (sym left) behind;
}

-- fewer lines are left
pub fewer_left : (now next : Walk) → Steps now next false → now.to < length now.lines → length next.lines - next.to < length now.lines - now.to
fewer_left now next s less =
    let same : length next.lines ≡ length now.lines = ap length s.stays.lines in
    let to : next.to ≡ now.to + 1 = s.fewer refl in
    omega (arith, same, to, less)

-- ---- to the next part

-- where the timers saw what happened, and what was given is put down as gone
pub walks_on : (old mid new : Walk) (js : Seen) (more : Bool)
    → SeesAll old.wiring (journal_at old.wiring js) old.seen mid.seen old.timers mid.timers → mid.wiring ≡ old.wiring → mid.lines ≡ old.lines
    → mid.to ≡ old.to → mid.left ≡ old.left → mid.gone ≡ given_by old → GoesOn mid new more → Walks old.wiring old js new more
walks_on old mid new js more sees wiring lines to left gone goes = record {
  wiring = goes.stays.wiring ∙ wiring;
  lines = goes.stays.lines ∙ lines;
  found = sees.found;
  sees = subst (Sees (length old.wiring.controllers + 1) (journal_at old.wiring js) old.seen sees.found) (sym goes.stays.seen) sees.sees;
  goes =
      ap (λ (ts : Timers). passed_on old.left (drop old.to old.lines) (given_by old) ts) (sym sees.timers)
      ∙ ap (λ (g : List Line). passed_on old.left (drop old.to old.lines) g mid.timers) (sym gone)
      ∙ ap (λ (h : Option ℕ). passed_on h (drop old.to old.lines) mid.gone mid.timers) (sym left)
      ∙ ap (λ (k : ℕ). passed_on mid.left (drop k old.lines) mid.gone mid.timers) (sym to)
      ∙ ap (λ (ls : List Line). passed_on mid.left (drop mid.to ls) mid.gone mid.timers) (sym lines)
      ∙ goes.goes;
}
