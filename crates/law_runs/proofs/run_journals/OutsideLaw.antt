-- What the environment posts fits the wiring.
use Rattle.std.proofs.Common.{◌≡◌, ℕ, zero, suc, ℤ, ◌+◌, ◌<◌, ◌≤◌, Bool, true, false, if◌then◌else◌, List, [], ◌∷◌, ◌++◌, length, slice_get, Option, Some, None, refl, sym, ap, ◌∙◌, subst, length-append, arith, ◌⊎◌, inl, inr}
use Rattle.std.specs.List.{AllByRecursion as Each, All}
use Rattle.std.specs.Option.{option_map_or, option_and_then}
use Rattle.std.proofs.lemmas.Option.{slice_get_within}
use Rattle.std.proofs.lemmas.List.Elements.{All-from_recursion}
use Rattle.room_kinds.specs.declared.message.Msg.{Msg}
use Rattle.room_kinds.specs.declared.numbers.Endpoint.{Endpoint}
use Rattle.room_kinds.specs.declared.numbers.Priority.{Priority}
use Rattle.room_wiring.specs.Places.{port_count}
use Rattle.room_wiring.specs.Slots.{slot_at, class_of, port_at}
use Rattle.room_wiring.specs.WellNamed.{signals_of}
use Rattle.room_wiring.specs.declared.names.ClassNames.{ClassNames}
use Rattle.room_wiring.specs.declared.names.PortNames.{PortNames}
use Rattle.room_wiring.specs.declared.slot.Slot.{Slot}
use Rattle.room_wiring.specs.declared.tables.Tables.{Tables}
use Rattle.room_wiring.specs.wiring_names.Lookup.{port_of}
use Rattle.journal.specs.Fits.{FitsMessage, FitsEnvironment}
use Rattle.journal.specs.declared.entry.Entry.{Entry}
use Rattle.journal.specs.declared.entry.Entry.TheVariants as entry
use Rattle.journal.specs.declared.entry.Journals.{Journals}
use Rattle.inject_reader.specs.Fitting.{ComesIn, WhatFits}
use Rattle.inject_reader.specs.Meaning.{coming}
use Rattle.inject_reader.specs.declared.inject_lines.accepted.Line.{Line as Asked}
use Rattle.inject_reader.specs.declared.inject_lines.accepted.What.{What}
use Rattle.inject_reader.specs.declared.inject_lines.accepted.What.TheVariants as whats
use Rattle.actor_merge.specs.Parties.{Line, Plant as RunPlant, stamped}
use Rattle.actor_duties.specs.Words.{owner_of}
use Rattle.actor_world.specs.Journals.{lines_from, lines_of}
use Rattle.actor_world.specs.Start.{plant_of}
use Rattle.chart_behaviour.specs.sends.Sends.{OwnersAreThere}
use Rattle.controller_actors.specs.Plants.{model_of}
use Rattle.controller_actors.specs.declared.plant.Plant.{Plant}
use Rattle.model_run.specs.part_posts.Items.{injected, item_of, items_of}
use Rattle.model_run.specs.run_ends.Runs.{journal_of, IsRun}
use Rattle.law_runs.proofs.Lines.{PostsLines}
use Rattle.law_runs.proofs.Party.{environment_lines}
use Rattle.law_runs.proofs.run_texts.Party.{did, nobody, outside}
use Rattle.law_runs.specs.run_journals.Outside.{NamesPlace, WhatNames, LinesName, FitLinesName}

-- ---- what lines that fit name

comes_below : (incoming outgoing : ℕ) (c : Bool) (place signal : ℕ) → place < (if c then outgoing else incoming)
    → signal ≡ (if c then incoming else 0) + place → signal < incoming + outgoing
comes_below incoming outgoing true place signal b e = omega (arith, b, e)
comes_below incoming outgoing false place signal b e = omega (arith, b, e)

pub signal_there : (port : PortNames) (signal numbers : ℕ) → ComesIn port signal numbers → signal < length (signals_of port)
signal_there port signal numbers h =
    let within : h.place < length (coming port) = slice_get_within (coming port) h.place h.names h.names_is in
    let many : signal < length port.incoming + length port.outgoing =
    comes_below (length port.incoming) (length port.outgoing) port.conjugated h.place signal (by_side port.conjugated within) h.number in
    let sum : length (signals_of port) ≡ length port.incoming + length port.outgoing = length-append port.incoming port.outgoing in
    omega (arith, many, sum)
  where
    by_side : (c : Bool) → h.place < length (if c then port.outgoing else port.incoming) → h.place < (if c then length port.outgoing else length port.incoming)
    by_side true b = b
    by_side false b = b

line_names : (t : Tables) (target : Endpoint) (signal numbers : ℕ) (port : PortNames) (slot : Slot) → slot_at t target.slot.0 ≡ Some slot
    → option_and_then (port_of target.port) (class_of t target.slot.0) ≡ Some port → ComesIn port signal numbers → (prio : ℕ) → 1 ≤ prio → NamesPlace t target signal prio
unfolding port_at
line_names t target signal numbers port slot slot_is port_is comes prio least = record {
  slot = slot;
  slot_is = slot_is;
  known = record { port = port; port_is = port_is; known = signal_there port signal numbers comes };
  worded = least;
}

one_names : (t : Tables) (what : What) → WhatFits t what → WhatNames t what
one_names t whats.Settle h = tt
one_names t (whats.Advance time) h = tt
one_names t (whats.Message target signal payload prio) h =
    line_names t target signal (length payload) h.port h.target_fits.slot.slot h.target_fits.slot.slot_is h.target_fits.port_is h.signal_fits prio.0 h.least

pub fit_lines_name : FitLinesName
fit_lines_name t [] h = tt
fit_lines_name t (x ∷ lines) h = (one_names t x.what h.0, fit_lines_name t lines h.1)

-- ---- one line

module _ (t : Tables) (owners : OwnersAreThere t) where
  owner_there : (s : ℕ) (x : Slot) → slot_at t s ≡ Some x → owner_of t s < length t.controllers
  unfolding owner_of
  owner_there s x there =
      subst (λ (o : Option Slot). option_map_or (λ (x : Slot). x.owner.0) o 0 < length t.controllers) (sym there) (owners s x there)

  port_there : (s p : ℕ) (port : PortNames) → port_at t s p ≡ Some port → p < port_count t s
  unfolding port_at port_count
  port_there s p port is = go (class_of t s) is
    where
      go : (o : Option ClassNames) → option_and_then (λ (c : ClassNames). slice_get c.ports p) o ≡ Some port → p < option_map_or (λ (c : ClassNames). length c.ports) o 0
      go None e = absurd cc
      go (Some c) e = slice_get_within c.ports p port e

  line_fits : (target : Endpoint) (signal : ℕ) (payload : List ℤ) (prio : Priority) → NamesPlace t target signal prio.0 → (k : ℕ)
      → FitsMessage t (stamped (length t.controllers) k (injected t target signal payload prio))
  line_fits target signal payload prio f k = record {
    from = record { known = omega arith };
    to = owner_there target.slot.0 f.slot f.slot_is;
    source = tt;
    target = record {
      slot = slice_get_within t.slots target.slot.0 f.slot f.slot_is;
      port = port_there target.slot.0 target.port f.known.port f.known.port_is;
    };
    signal = inr (f.worded, f.known);
  }

  -- ---- all lines

  abbrev LineIsGood : Line → Type 0
  LineIsGood l = (k : ℕ) → FitsMessage t (stamped (length t.controllers) k l.message)

  lines_good : (lines : List Asked) (part : ℕ) → LinesName t lines → Each LineIsGood (lines_from part (items_of t lines))
  lines_good [] part h = tt
  lines_good (x ∷ lines) part h = go x.what h.0 (λ p. lines_good lines p h.1)
    where
      go : (what : What) → WhatNames t what → ((p : ℕ) → Each LineIsGood (lines_from p (items_of t lines)))
          → Each LineIsGood (lines_from part (item_of t x.number what ∷ items_of t lines))
      go whats.Settle f rest = rest (part + 1)
      go (whats.Advance time) f rest = rest (part + 1)
      go (whats.Message target signal payload prio) f rest = ((λ k. line_fits target signal payload prio f k), rest part)

  line_at : (ls : List Line) (i : ℕ) (l : Line) → Each LineIsGood ls → slice_get ls i ≡ Some l → LineIsGood l
  line_at [] i l h e = absurd cc
  line_at (x ∷ ls) zero l h e = let same : x ≡ l = cc in subst LineIsGood same h.0
  line_at (x ∷ ls) (suc i) l h e = line_at ls i l h.1 e

  posts_good : {B : Type 0} (plant : RunPlant B) → plant.controllers ≡ length t.controllers → (es : List Entry) (at end : ℕ) → Each LineIsGood plant.lines
      → PostsLines plant at es end → Each (FitsEnvironment t) es
  posts_good plant many [] at end h p = tt
  posts_good plant many (e ∷ es) at end h p = (
    subst (FitsEnvironment t) (sym (p.0.is ∙ ap (λ (n : ℕ). entry.Post (record { 0 = p.0.stamp }) (stamped n p.0.stamp p.0.line.message)) many)) post,
    posts_good plant many es (at + 1) end h p.1,
  )
    where
      post : FitsEnvironment t (entry.Post (record { 0 = p.0.stamp }) (stamped (length t.controllers) p.0.stamp p.0.line.message))
      post = record { message = line_at plant.lines at p.0.line h p.0.there p.0.stamp; own = refl; stamped = refl }

pub environment_fits : (plant : Plant) (lines : List Asked) → OwnersAreThere plant.wiring → LinesName plant.wiring lines
    → (fuel : ℕ) (j : Journals) → IsRun plant lines fuel j → All (FitsEnvironment plant.wiring) j.environment
environment_fits plant lines owners fit fuel j run =
    All-from_recursion (FitsEnvironment plant.wiring) j.environment
    (subst (Each (FitsEnvironment plant.wiring)) (run.lawful.run.is.whole (length plant.wiring.controllers) ∙ sym run.lawful.environment ∙ outside plant lines fuel j run)
    (posts_good plant.wiring owners (plant_of (model_of plant) plant.wiring (lines_of (items_of plant.wiring lines))) refl (did plant lines fuel j run (length plant.wiring.controllers)) 0 run.world.environment.posted
    (lines_good plant.wiring owners lines 1 fit)
    (environment_lines (model_of plant) plant.wiring (lines_of (items_of plant.wiring lines)) fuel (journal_of j) j.left run.world run.lawful (nobody plant lines fuel j run))))
