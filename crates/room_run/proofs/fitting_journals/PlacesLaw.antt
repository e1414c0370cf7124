-- What is posted goes from places of the wiring, or places that were linked by name, to such places, with signals that
-- are there.
use Rattle.std.proofs.Common.{◌≡◌, ℕ, ◌<◌, ◌==◌, ◌&&◌, nat_lt, Bool, true, false, if◌then◌else◌, List, [], ◌∷◌, length, Option, Some, None, option_map, slice_get, refl, sym, ap, ◌∙◌, subst, ltb-true, eq-eqb, arith}
use Rattle.std.specs.List.{AllByRecursion as Each, All, Contains}
use Rattle.std.proofs.lemmas.Bool.{and_parts}
use Rattle.std.proofs.lemmas.List.Elements.{All-from_recursion}
use Rattle.std.proofs.lemmas.Option.{slice_get_within, slice_get-map}
use Rattle.room_ast.specs.Trees.{ModelTree, ActorTree}
use Rattle.room_ast.specs.model_parts.Classes.{actors, protocol_names}
use Rattle.room_ast.specs.model_parts.Ports.{frame_entry, frame_name, names_in, ports_in as entries_in}
use Rattle.room_kinds.specs.declared.message.Msg.{Msg}
use Rattle.room_kinds.specs.declared.numbers.SlotId.{SlotId}
use Rattle.room_wiring.specs.Places.{port_count, place_count, partner_at}
use Rattle.room_wiring.specs.Slots.{class_of}
use Rattle.room_wiring.specs.WellNamed.{signals_of}
use Rattle.room_wiring.specs.declared.names.ClassNames.{ClassNames}
use Rattle.room_wiring.specs.declared.names.PortNames.{PortNames}
use Rattle.room_wiring.specs.declared.slot.Partner.TheVariants as partners
use Rattle.room_wiring.specs.declared.tables.Tables.{Tables}
use Rattle.check_scopes.specs.class_scopes.Signals.{frame_signals}
use Rattle.wiring_plan.specs.wiring_classes.Classes.{class_names, classes_of, labelled_signals, ports_in}
use Rattle.wiring_plan.specs.wiring_classes.Parts.{port_names_of}
use Rattle.journal.specs.Fits.{HasSignal}
use Rattle.journal.specs.declared.entry.Entry.{Entry}
use Rattle.journal.specs.declared.entry.Entry.TheVariants as entry
use Rattle.journal.specs.declared.entry.Journals.{Journals}
use Rattle.inject_reader.specs.Fitting.{LinesFit}
use Rattle.inject_reader.specs.declared.inject_lines.accepted.Line.{Line}
use Rattle.actor_duties.specs.Words.{is_imported, is_joined, joined_at}
use Rattle.actor_merge.specs.Parties.{State}
use Rattle.actor_merge.specs.Merge.{entries_of}
use Rattle.actor_merge.specs.World.{Placed}
use Rattle.actor_world.specs.Body.{Body}
use Rattle.actor_world.specs.Journals.{lines_of}
use Rattle.actor_world.specs.Start.{start_entries}
use Rattle.chart_behaviour.specs.ModelCharts.{Actor}
use Rattle.controller_actors.specs.Plants.{model_of}
use Rattle.controller_actors.specs.declared.plant.Plant.{Plant}
use Rattle.law_models.specs.joined_ports.Protocols.{HasOneProtocol, JoinsOneProtocol, LinksOneProtocol}
use Rattle.model_run.specs.part_posts.Items.{items_of}
use Rattle.model_run.specs.run_ends.Runs.{journal_of, IsRun}
use Rattle.law_runs.proofs.Starts.{AllStarts, start_entries_start}
use Rattle.law_runs.proofs.Party.{posted_is}
use Rattle.law_runs.proofs.run_journals.InPlaceLaw.{journal_is}
use Rattle.law_runs.proofs.run_journals.OnePost.{as_first, as_later}
use Rattle.law_runs.proofs.run_texts.Party.{nobody, outside}
use Rattle.law_runs.specs.Mail.{posted}
use Rattle.law_runs.specs.run_journals.InPlace.{OfControllers}
use Rattle.law_runs.specs.run_journals.Outside.{LinesName}
use Rattle.law_agreement.specs.Mutual.{IsMutual, seen_as}
use Rattle.room_run.specs.fitting_plants.Plants.{PlantFits}
use Rattle.room_run.specs.fitting_journals.Places.{WasLinked, NamesItsPlaces}
use Rattle.room_run.specs.fitting_journals.Signals.{NamesSignal}
use Rattle.room_run.proofs.fitting_journals.Acting.{first_actors_there}
use Rattle.room_run.proofs.fitting_journals.ActorsLaw.{StandsThere, item_there, class_has, fitting, port_found, ports_many, stand_well}
use Rattle.room_run.proofs.fitting_journals.Posting.{AsksByPorts, PostIsNamed, lines_stand, lines_named, posts_named}
use Rattle.room_run.proofs.fitting_journals.Outboxes.{EntryGives, PlacedGives}
use Rattle.room_run.proofs.fitting_journals.PlaceCounts.{CountsPlaces}
use Rattle.room_run.proofs.fitting_journals.Sending.{GivesPlace, IsJoinedWell, IsWired, each_both}
use Rattle.room_run.proofs.fitting_journals.Signals.{Carries, Linked, same_signals, says_fit}

-- ---- wirings

-- a class has a port, `frame`, with the nine signals of the frame service
record IsFramed (class : ClassNames) : Type 0 where
  frame : PortNames
  first : slice_get class.ports 0 ≡ Some frame
  signals : length (signals_of frame) ≡ 9

frame_there : (m : ModelTree) (a : ActorTree) → IsFramed (class_names m a)
unfolding class_names ports_in names_in entries_in labelled_signals frame_signals
frame_there m a = record { frame = port_names_of (protocol_names m) (labelled_signals m) frame_name frame_entry; first = refl; signals = refl }

actor_framed : (m : ModelTree) (o : Option ActorTree) (class : ClassNames) → option_map (class_names m) o ≡ Some class → IsFramed class
actor_framed m None class e = absurd cc
actor_framed m (Some a) class e = let same : class_names m a ≡ class = cc in subst IsFramed same (frame_there m a)

class_framed : (m : ModelTree) (k : ℕ) (class : ClassNames) → slice_get (classes_of m) k ≡ Some class → IsFramed class
unfolding classes_of
class_framed m k class e = actor_framed m (slice_get (actors m) k) class (sym (slice_get-map (class_names m) (actors m) k) ∙ e)

-- a place that is joined is there
joined_within : (t : Tables) (s p k : ℕ) → is_joined (joined_at t s p k) ≡ true → (s < length t.slots) × (p < port_count t s) × (k < place_count t s p)
unfolding joined_at
joined_within t s p k h = go (nat_lt s (length t.slots) && nat_lt p (port_count t s) && nat_lt k (place_count t s p)) refl h
  where
    go : (b : Bool) → (nat_lt s (length t.slots) && nat_lt p (port_count t s) && nat_lt k (place_count t s p)) ≡ b
        → is_joined (if b then partner_at t s p k else partners.Nobody) ≡ true → (s < length t.slots) × (p < port_count t s) × (k < place_count t s p)
    go false e j = absurd cc
    go true e j =
        let both = and_parts (nat_lt s (length t.slots) && nat_lt p (port_count t s)) (nat_lt k (place_count t s p)) e in
        let each = and_parts (nat_lt s (length t.slots)) (nat_lt p (port_count t s)) both.0 in
        (ltb-true s (length t.slots) each.0, ltb-true p (port_count t s) each.1, ltb-true k (place_count t s p) both.1)

seen_joined : (t : Tables) (s p k : ℕ) → is_joined (seen_as t s p k) ≡ true
seen_joined t s p k = go (is_imported t s)
  where
    go : (b : Bool) → is_joined (if b then partners.Socket (record { 0 = s }) p k else partners.End (record { 0 = s }) p k) ≡ true
    go true = refl
    go false = refl

-- what is so of each message that controller 0 posts is so of its entries
module _ (L : Linked) where
  first_gives : (e : Entry) (es : List Entry) → ((m : Msg) → Contains (posted (e ∷ es)) m → GivesPlace L m) → EntryGives L e
  first_gives (entry.Start who state notes) es h = tt
  first_gives (entry.Fetch stamp m) es h = tt
  first_gives (entry.Turn stamp from sent did notes) es h = tt
  first_gives (entry.Post stamp m) es h = h m (as_first m (posted es))

  posted_later : (e : Entry) (es : List Entry) (m : Msg) → Contains (posted es) m → Contains (posted (e ∷ es)) m
  posted_later (entry.Start who state notes) es m there = there
  posted_later (entry.Fetch stamp x) es m there = there
  posted_later (entry.Turn stamp from sent did notes) es m there = there
  posted_later (entry.Post stamp x) es m there = as_later x (posted es) m there

  each_gives : (xs : List Placed) → ((m : Msg) → Contains (posted (entries_of 0 xs)) m → GivesPlace L m) → Each (PlacedGives L) xs
  each_gives [] h = tt
  each_gives (x ∷ xs) h = go (0 == x.party) refl h (each_gives xs)
    where
      go : (b : Bool) → (0 == x.party) ≡ b → ((m : Msg) → Contains (posted (if b then x.entry ∷ entries_of 0 xs else entries_of 0 xs)) m → GivesPlace L m)
          → (((m : Msg) → Contains (posted (entries_of 0 xs)) m → GivesPlace L m) → Each (PlacedGives L) xs) → Each (PlacedGives L) (x ∷ xs)
      go true e k rest = ((λ own. first_gives x.entry (entries_of 0 xs) k), rest (λ m there. k m (posted_later x.entry (entries_of 0 xs) m there)))
      go false e k rest = ((λ own. (let never : true ≡ false = sym (eq-eqb 0 x.party (sym own)) ∙ e in absurd cc)), rest k)

-- ports of one protocol have the same signals
alike : (t : Tables) (s p x q : ℕ) → HasOneProtocol t s p x q → Carries t s p x q
alike t s p x q h = same_signals t s p x q h.near h.far h.near_is h.far_is h.signals

-- what is so of the wiring by the laws of models
pub record Joins (t : Tables) : Type 0 where
  pub partners : IsMutual t
  pub joined : JoinsOneProtocol t
  pub linked : LinksOneProtocol t
  pub counted : CountsPlaces t

module _ (plant : Plant) (fits : PlantFits plant) (joins : Joins plant.wiring) where
  -- a slot's `frame`, with its place in the class
  framed : (s : ℕ) → s < length plant.wiring.slots → (c : ClassNames) × (class_of plant.wiring s ≡ Some c) × IsFramed c
  framed s low =
      let c = class_has plant fits s low in
      let at : slice_get (classes_of fits.model) c.number ≡ Some c.class = subst (λ (cs : List ClassNames). slice_get cs c.number ≡ Some c.class) fits.wired.classes c.there in
      (c.class, c.class_is, class_framed fits.model c.number c.class at)

  frames : (s signal : ℕ) → s < length plant.wiring.slots → signal < 9 → HasSignal plant.wiring s 0 signal
  frames s signal low known =
      let c = framed s low in
      let many = c.2.signals in
      record { port = c.2.frame; port_is = port_found plant.wiring s c.0 0 c.2.frame c.1 c.2.first; known = omega (arith, many, known) }

  has_ports : (s : ℕ) → s < length plant.wiring.slots → 0 < port_count plant.wiring s
  has_ports s low =
      let c = framed s low in
      let some = slice_get_within c.0.ports 0 c.2.frame c.2.first in
      let many = ports_many plant.wiring s c.0 c.1 in
      omega (arith, some, many)

  -- the partner of a place's partner is the place
  back_from_end : (s p k : ℕ) (x : SlotId) (q j : ℕ) → joined_at plant.wiring s p k ≡ partners.End x q j → is_joined (joined_at plant.wiring x.0 q j) ≡ true
  back_from_end s p k x q j e = ap is_joined (joins.partners.ends s p k x q j e) ∙ seen_joined plant.wiring s p k

  back_from_socket : (s p k : ℕ) (x : SlotId) (q j : ℕ) → joined_at plant.wiring s p k ≡ partners.Socket x q j → is_joined (joined_at plant.wiring x.0 q j) ≡ true
  back_from_socket s p k x q j e = ap is_joined (joins.partners.sockets s p k x q j e) ∙ seen_joined plant.wiring s p k

  -- two places that are joined to each other are there
  joined_well : (s p k x q j : ℕ) → is_joined (joined_at plant.wiring s p k) ≡ true → is_joined (joined_at plant.wiring x q j) ≡ true → Carries plant.wiring s p x q
      → IsJoinedWell plant.wiring s p k x q j
  joined_well s p k x q j near far carries =
      let here = joined_within plant.wiring s p k near in
      let there = joined_within plant.wiring x q j far in
      record { carries = (there.0, there.1, carries); near = here.2; far = there.2 }

  ends : (s p k : ℕ) (x : SlotId) (q j : ℕ) → joined_at plant.wiring s p k ≡ partners.End x q j → IsJoinedWell plant.wiring s p k x.0 q j
  ends s p k x q j e = joined_well s p k x.0 q j (ap is_joined e) (back_from_end s p k x q j e) (alike plant.wiring s p x.0 q (joins.joined.ends s p k x q j e))

  sockets : (s p k : ℕ) (x : SlotId) (q j : ℕ) → joined_at plant.wiring s p k ≡ partners.Socket x q j
      → IsJoinedWell plant.wiring s p k x.0 q j × (is_imported plant.wiring x.0 ≡ true) × (is_joined (joined_at plant.wiring x.0 q j) ≡ true)
  sockets s p k x q j e = (
    joined_well s p k x.0 q j (ap is_joined e) (back_from_socket s p k x q j e) (alike plant.wiring s p x.0 q (joins.joined.sockets s p k x q j e)),
    joins.partners.imported s p k x q j e,
    back_from_socket s p k x q j e,
  )

  is_wired : IsWired plant.wiring
  is_wired = record {
    frames = frames;
    frame_places = joins.counted.frame;
    ports = has_ports;
    ends = ends;
    sockets = sockets;
    lent = λ i h p k imported same joined. joins.counted.lent i h p k imported same (joined_within plant.wiring i p k joined).1 joined;
    containers = λ s c low e. (let behind = (fitting plant fits).depth_first.behind s c e in omega (arith, low, behind));
    points = λ s p x q a b same. alike plant.wiring s p x q (joins.linked s p x q a b same);
  }

  asks_by_ports : AsksByPorts plant.wiring (model_of plant)
  asks_by_ports = let well = stand_well plant fits in record { begin = well.begin_asks; handle = well.handle_asks }

  -- ---- runs

  module _ (lines : List Line) (fit : LinesFit plant.wiring lines) (names : LinesName plant.wiring lines) (fuel : ℕ) (j : Journals) (run : IsRun plant lines fuel j) where
    abbrev Posts : Entry → Type 0
    Posts e = PostIsNamed plant.wiring (WasLinked j) e

    entry_named : (e : Entry) → Posts e → NamesItsPlaces plant.wiring j e
    entry_named (entry.Start who state notes) h = tt
    entry_named (entry.Fetch stamp m) h = tt
    entry_named (entry.Turn stamp from sent did notes) h = h
    entry_named (entry.Post stamp m) h = record { source = h.0; target = h.1 }

    entry_says : (e : Entry) → Posts e → NamesSignal plant.wiring e
    entry_says (entry.Start who state notes) h = tt
    entry_says (entry.Fetch stamp m) h = tt
    entry_says (entry.Turn stamp from sent did notes) h = tt
    entry_says (entry.Post stamp m) h = says_fit plant.wiring (WasLinked j) m.prio.0 m.signal m.source m.target h.2

    -- ---- what was linked

    abbrev merge : List Placed
    merge = run.lawful.run.merge

    -- controller 0 has posted all that it had to
    all_posted : 0 < length plant.wiring.controllers → (run.lawful.run.end.controllers 0).outbox ≡ []
    all_posted some = ap (λ (s : State (Body Actor)). s.outbox) (run.lawful.run.same.controllers 0 some) ∙ run.ended.posted 0 some

    -- each Bound that it posted tells of a place that was linked
    bound_gives : 0 < length plant.wiring.controllers → (m : Msg) → Contains (posted (entries_of 0 merge)) m → GivesPlace (WasLinked j) m
    bound_gives some m there system kind =
        let count = run.count in
        let own = item_there j.controllers 0 (omega (arith, some, count)) in
        let same : posted own.0 ≡ posted (entries_of 0 merge) =
        ap posted (sym (journal_is plant lines fuel j run 0 own.0 own.1))
        ∙ posted_is (model_of plant) plant.wiring (lines_of (items_of plant.wiring lines)) fuel (journal_of j) j.left run.world run.lawful (nobody plant lines fuel j run) 0 in
        record {
          journal = own.0;
          journal_is = own.1;
          message = m;
          was_posted = subst (λ (ms : List Msg). Contains ms m) (sym same) there;
          bound = record { system = system; kind = kind; slot = refl; port = refl; place = refl };
        }

    all_given : 0 < length plant.wiring.controllers → Each (PlacedGives (WasLinked j)) merge
    all_given some = each_gives (WasLinked j) merge (bound_gives some)

    all_posts : Each (λ (x : Placed). Posts x.entry) merge
    all_posts =
        posts_named plant.wiring (WasLinked j) is_wired (model_of plant) asks_by_ports (lines_of (items_of plant.wiring lines))
        (lines_named plant.wiring (WasLinked j) lines 1 (lines_stand plant.wiring lines fit names))
        (λ me. first_actors_there plant.wiring (StandsThere plant fits) (model_of plant) (stand_well plant fits) me) merge run.lawful.run.end all_posted all_given
        run.lawful.run.run

    -- what follows of each entry is so of the entries of a party
    module _ (P : Entry → Type 0) (follows : (e : Entry) → Posts e → P e) where
      own_entries : (party : ℕ) (xs : List Placed) → Each (λ (x : Placed). Posts x.entry) xs → Each P (entries_of party xs)
      own_entries party [] h = tt
      own_entries party (x ∷ xs) h = go (party == x.party) (own_entries party xs h.1)
        where
          go : (b : Bool) → Each P (entries_of party xs) → Each P (if b then x.entry ∷ entries_of party xs else entries_of party xs)
          go true rest = (follows x.entry h.0, rest)
          go false rest = rest

      starts : (es : List Entry) → AllStarts es → Each P es
      starts [] h = tt
      starts (entry.Start who state notes ∷ es) h = (follows (entry.Start who state notes) tt, starts es h.1)
      starts (entry.Fetch stamp m ∷ es) h = absurd h.0
      starts (entry.Turn stamp from sent did notes ∷ es) h = absurd h.0
      starts (entry.Post stamp m ∷ es) h = absurd h.0

      one_journal : (c : ℕ) → c < length plant.wiring.controllers → Each P (journal_of j c)
      one_journal c below =
          subst (Each P) (sym (run.lawful.begins c below))
          (each_both P (start_entries (model_of plant) plant.wiring c) (run.lawful.events c)
          (starts (start_entries (model_of plant) plant.wiring c) (start_entries_start (model_of plant) plant.wiring c))
          (subst (Each P) (run.lawful.run.is.whole c) (own_entries c merge all_posts)))

      all_journals : OfControllers j (λ c. P)
      all_journals c es there =
          let low = slice_get_within j.controllers c es there in
          let count = run.count in
          All-from_recursion P es (subst (Each P) (journal_is plant lines fuel j run c es there) (one_journal c (omega (arith, low, count))))

      outside_journal : All P j.environment
      outside_journal =
          let n : ℕ = length plant.wiring.controllers in
          let same : entries_of n merge ≡ j.environment = run.lawful.run.is.whole n ∙ sym run.lawful.environment ∙ outside plant lines fuel j run in
          All-from_recursion P j.environment (subst (Each P) same (own_entries n merge all_posts))

    pub places_named : OfControllers j (λ c. NamesItsPlaces plant.wiring j)
    places_named = all_journals (NamesItsPlaces plant.wiring j) entry_named

    pub outside_named : All (NamesItsPlaces plant.wiring j) j.environment
    outside_named = outside_journal (NamesItsPlaces plant.wiring j) entry_named

    pub signals_named : OfControllers j (λ c. NamesSignal plant.wiring)
    signals_named = all_journals (NamesSignal plant.wiring) entry_says
