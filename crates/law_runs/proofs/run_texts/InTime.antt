-- What is posted in a run whose text has fewer than 2^64 bytes has a stamp of 64 bits: no stamp is greater than
-- the number of events, and the text has a byte for each.
use Rattle.std.proofs.Common.{◌≡◌, ℕ, suc, ◌<◌, ◌≤◌, ◌==◌, nat_lt, Bool, true, false, if◌then◌else◌, List, [], ◌∷◌, ◌++◌, length, slice_index_or, refl, sym, ap, subst, eqb-true, length-append, arith}
use Rattle.std.specs.List.{AllByRecursion as Each}
use Rattle.journal.specs.declared.entry.Entry.{Entry}
use Rattle.journal.specs.declared.entry.Entry.TheVariants as entry
use Rattle.journal.specs.declared.entry.Journals.{Journals}
use Rattle.room_wiring.specs.declared.tables.Tables.{Tables}
use Rattle.inject_reader.specs.declared.inject_lines.accepted.Line.{Line as Asked}
use Rattle.tied_journals.specs.Tied.{posted_at}
use Rattle.tied_journals.specs.Text.{tied_text_of}
use Rattle.actor_merge.specs.Mail.{stamp_of}
use Rattle.actor_merge.specs.Parties.{Plant as RunPlant}
use Rattle.actor_merge.specs.World.{World, Placed, start, Runs}
use Rattle.actor_merge.specs.Merge.{entries_of}
use Rattle.actor_merge.proofs.Back.{Happened, controller, environment, happened}
use Rattle.actor_world.specs.Start.{start_entries}
use Rattle.controller_actors.specs.Plants.{model_of}
use Rattle.controller_actors.specs.declared.plant.Plant.{Plant}
use Rattle.model_run.specs.run_ends.Runs.{journal_of, IsRun}
use Rattle.law_runs.proofs.Starts.{AllStarts, start_entries_start}
use Rattle.law_runs.proofs.run_texts.Rows.{told}
use Rattle.law_runs.proofs.run_texts.Told.{Has, PostsInTime, AllHappened}
use Rattle.law_runs.proofs.run_texts.Party.{plan, did, starts, inside, outside, journal_is, happened_with, told_is}
use Rattle.law_runs.proofs.run_texts.Clocks.{StampedBy, stamps_counted}
use Rattle.law_runs.proofs.run_texts.Lengths.{told_by_all, text_long, sum_below, sum_less_below, told_by_each, PartiesBelow, all_entries}

-- ---- entries with stamps of at most a number

abbrev Timely : ℕ → List Entry → Type 0
Timely most es = Each (λ (e : Entry). stamp_of e ≤ most) es

starts_timely : (most : ℕ) (es : List Entry) → AllStarts es → Timely most es
starts_timely most [] h = tt
starts_timely most (entry.Start who state ns ∷ es) h = (omega arith, starts_timely most es h.1)
starts_timely most (entry.Fetch stamp m ∷ es) h = absurd h.0
starts_timely most (entry.Turn stamp from sent did ns ∷ es) h = absurd h.0
starts_timely most (entry.Post stamp m ∷ es) h = absurd h.0

own_timely : (most : ℕ) (party : ℕ) (xs : List Placed) → StampedBy most xs → Timely most (entries_of party xs)
own_timely most party [] h = tt
own_timely most party (x ∷ xs) h = go (party == x.party) (own_timely most party xs h.1)
  where
    go : (b : Bool) → Timely most (entries_of party xs) → Timely most (if b then x.entry ∷ entries_of party xs else entries_of party xs)
    go true more = (h.0, more)
    go false more = more

timely_both : (most : ℕ) (a b : List Entry) → Timely most a → Timely most b → Timely most (a ++ b)
timely_both most [] b h k = k
timely_both most (e ∷ a) b h k = (h.0, timely_both most a b h.1 k)

entries_in_time : (most : ℕ) (es : List Entry) → most < 18446744073709551616 → Timely most es → PostsInTime es
entries_in_time most [] small h s x k = absurd k
entries_in_time most (entry.Start who state ns ∷ es) small h s x k = entries_in_time most es small h.1 s x k
entries_in_time most (entry.Fetch stamp m ∷ es) small h s x k = entries_in_time most es small h.1 s x k
entries_in_time most (entry.Turn stamp from sent did ns ∷ es) small h s x k = entries_in_time most es small h.1 s x k
entries_in_time most (entry.Post stamp m ∷ es) small h s x k =
    go (stamp.0 == s) refl k (λ there. entries_in_time most es small h.1 s x there)
  where
    go : (b : Bool) → (stamp.0 == s) ≡ b → Has x ((if b then m ∷ [] else []) ++ posted_at s es) → (Has x (posted_at s es) → s < 18446744073709551616) → s < 18446744073709551616
    go true e there more =
        let early : stamp.0 ≤ most = h.0 in
        let is : stamp.0 ≡ s = eqb-true stamp.0 s e in omega (arith, early, is, small)
    go false e there more = more there

-- ---- parties

-- all that happens, happens to a controller or to the environment
module _ {B : Type 0} (plant : RunPlant B) where
  party_below : (w next : World B) (x : Placed) → Happened plant w x next → x.party < suc plant.controllers
  party_below w next x (controller below s does same) = omega (arith, below)
  party_below w next x (environment is v does same) = omega (arith, is)

  parties_below : (xs : List Placed) (w end : World B) → Runs plant w xs end → PartiesBelow (suc plant.controllers) xs
  parties_below [] w end r = tt
  parties_below (x ∷ xs) w end r = (party_below w r.0 x (happened plant w x r.0 r.2), parties_below xs r.0 end r.3)

-- each event is told
all_told : (t : Tables) (es : List Entry) → AllHappened (λ m. Unit {0}) es → length es ≤ length (told t es)
all_told t [] h = omega arith
all_told t (entry.Start who state ns ∷ es) h = absurd h
all_told t (entry.Fetch stamp m ∷ es) h = let more = all_told t es h.1 in omega (arith, more)
all_told t (entry.Turn stamp from sent did ns ∷ es) h = let more = all_told t es h in omega (arith, more)
all_told t (entry.Post stamp m ∷ es) h = let more = all_told t es h in omega (arith, more)

-- ---- a run

module _ (plant : Plant) (lines : List Asked) (fuel : ℕ) (j : Journals) (run : IsRun plant lines fuel j) where
  abbrev t : Tables
  t = plant.wiring

  abbrev n : ℕ
  n = length plant.wiring.controllers

  abbrev merge : List Placed
  merge = run.lawful.run.merge

  -- how much the journal of a party tells
  abbrev much : ℕ → ℕ
  much party = length (told plant.wiring (journal_of j party))

  did_told : (party : ℕ) → length (did plant lines fuel j run party) ≤ much party
  did_told party =
      let own = all_told plant.wiring (did plant lines fuel j run party) (happened_with plant lines fuel j run (λ m. Unit {0}) party (λ m h. tt)) in
      let whole = ap length (told_is plant lines fuel j run party) in
      let both = length-append (told plant.wiring (starts plant lines fuel j run party)) (told plant.wiring (did plant lines fuel j run party)) in
      omega (arith, own, whole, both)

  inside_told : sum_below much n ≤ told_by_all plant.wiring j.controllers
  inside_told =
      let each : sum_below (λ (c : ℕ). length (told plant.wiring (slice_index_or j.controllers c []))) n ≤ told_by_all plant.wiring j.controllers =
      subst (λ (k : ℕ). sum_below (λ (c : ℕ). length (told plant.wiring (slice_index_or j.controllers c []))) k ≤ told_by_all plant.wiring j.controllers)
      run.count (told_by_each plant.wiring j.controllers) in
      let same : sum_below much n ≤ sum_below (λ (c : ℕ). length (told plant.wiring (slice_index_or j.controllers c []))) n =
      sum_less_below much (λ (c : ℕ). length (told plant.wiring (slice_index_or j.controllers c []))) n
      (λ c below. (let is = ap (λ (es : List Entry). length (told plant.wiring es)) (inside plant lines fuel j run c below) in omega (arith, is))) in
      omega (arith, each, same)

  -- no more happened than the text has bytes
  merge_short : length merge ≤ length (tied_text_of plant.wiring j)
  merge_short =
      let whole = all_entries merge (suc n) (parties_below (plan plant lines fuel j run) merge (start (plan plant lines fuel j run)) run.lawful.run.end run.lawful.run.run) in
      let parties = sum_less_below (λ (p : ℕ). length (entries_of p merge)) much (suc n) (λ p below. did_told p) in
      let last = ap (λ (es : List Entry). length (told plant.wiring es)) (outside plant lines fuel j run) in
      let others = inside_told in
      let text = text_long plant.wiring j in
      omega (arith, whole, parties, last, others, text)

  stamped_by : StampedBy (length merge) merge
  stamped_by =
      stamps_counted (plan plant lines fuel j run) merge (start (plan plant lines fuel j run)) run.lawful.run.end (λ c below. refl) refl (λ l. refl) run.lawful.run.run

  starts_low : (party : ℕ) → Timely (length merge) (starts plant lines fuel j run party)
  starts_low party = go (nat_lt party n)
    where
      go : (b : Bool) → Timely (length merge) (if b then start_entries (model_of plant) plant.wiring party else [])
      go true = starts_timely (length merge) _ (start_entries_start (model_of plant) plant.wiring party)
      go false = tt

  pub posts_in_time : length (tied_text_of plant.wiring j) < 18446744073709551616 → (party : ℕ) → PostsInTime (journal_of j party)
  posts_in_time short party =
      let few = merge_short in
      subst PostsInTime (sym (journal_is plant lines fuel j run party))
      (entries_in_time (length merge) (starts plant lines fuel j run party ++ did plant lines fuel j run party) (omega (arith, few, short))
      (timely_both (length merge) (starts plant lines fuel j run party) (did plant lines fuel j run party) (starts_low party) (own_timely (length merge) party merge stamped_by)))
