-- The journals of a lawful run keep turns.
use Rattle.std.proofs.Common.{◌≡◌, ℕ, ◌<◌, ◌≤◌, ◌==◌, true, List, [], ◌∷◌, ◌++◌, length, refl, sym, ap, ◌∙◌, subst, eq-eqb, append-nil, arith}
use Rattle.std.specs.List.{Contains}
use Rattle.std.proofs.lemmas.Bool.{and_from, true_from_ne_false}
use Rattle.room_kinds.specs.declared.message.Msg.{Msg}
use Rattle.journal.specs.declared.entry.Entry.{Entry}
use Rattle.journal.specs.declared.entry.Entry.TheVariants as entry
use Rattle.journal.specs.declared.entry.Left.{Left}
use Rattle.room_wiring.specs.declared.tables.Tables.{Tables}
use Rattle.actor_merge.specs.Parties.{Line, State, Replays}
use Rattle.actor_merge.specs.World.{World, IsQuiet}
use Rattle.actor_world.specs.Behaviour.{Behaviour}
use Rattle.actor_world.specs.Body.{Body}
use Rattle.actor_world.specs.Journals.{is_turn, IsLawfulRun}
use Rattle.actor_world.specs.Life.{IsModest, DispatchesAsMeant}
use Rattle.actor_world.specs.Start.{plant_of, first_state, start_entries}
use Rattle.actor_world.specs.world_laws.Counting.{count, of_priority, same_name, times}
use Rattle.actor_world.specs.world_laws.Deferrals.{KeptByDeferrer}
use Rattle.actor_world.specs.world_laws.OnePlace.{RunsStandOnce}
use Rattle.actor_world.specs.world_laws.Whereabouts.{fetched, TellsDefers, FetchedAddsUp}
use Rattle.law_runs.specs.Turns.{had_turn, treatments, TurnIsRight, TurnsAreKept, AllHadTurns}
use Rattle.law_runs.proofs.Named.{counted, named_itself}
use Rattle.law_runs.proofs.Once.{one_party}
use Rattle.law_runs.proofs.Party.{happened, own, replay}
use Rattle.law_runs.proofs.Splits.{Cut, within, behind, cut}
use Rattle.law_runs.proofs.Starts.{AllStarts, start_entries_start, fetched_after}
use Rattle.law_runs.proofs.TurnsLaw.{right}
use Rattle.law_runs.proofs.Untaken.{waits, treated_done}

-- a start is nobody's turn
had_after : (m : Msg) (starts es : List Entry) → AllStarts starts → had_turn m (starts ++ es) ≡ had_turn m es
had_after m [] es h = refl
had_after m (entry.Start who state notes ∷ starts) es h = had_after m starts es h.1
had_after m (entry.Fetch stamp y ∷ starts) es h = absurd h.0
had_after m (entry.Turn stamp from sent what notes ∷ starts) es h = absurd h.0
had_after m (entry.Post stamp y ∷ starts) es h = absurd h.0

treatments_after : (m : Msg) (starts es : List Entry) → AllStarts starts → treatments m (starts ++ es) ≡ treatments m es
treatments_after m [] es h = refl
treatments_after m (entry.Start who state notes ∷ starts) es h = let k = treatments_after m starts es h.1 in omega (arith, k)
treatments_after m (entry.Fetch stamp y ∷ starts) es h = absurd h.0
treatments_after m (entry.Turn stamp from sent what notes ∷ starts) es h = absurd h.0
treatments_after m (entry.Post stamp y ∷ starts) es h = absurd h.0

no_turn : (before more : List Entry) (e : Entry) → AllStarts (before ++ e ∷ more) → is_turn e ≡ true → ⊥
no_turn [] more (entry.Start who state notes) h is = absurd cc
no_turn [] more (entry.Fetch stamp m) h is = h.0
no_turn [] more (entry.Turn stamp from sent what notes) h is = h.0
no_turn [] more (entry.Post stamp m) h is = h.0
no_turn (y ∷ before) more e h is = no_turn before more e h.1 is

right_after : (starts es : List Entry) (e : Entry) → AllStarts starts → TurnIsRight es e → TurnIsRight (starts ++ es) e
right_after starts es e h r =
    let same = fetched_after starts es h in
    record {
      message = r.message;
      was_fetched = subst (λ (z : List Msg). Contains z r.message) (sym same) r.was_fetched;
      its_turn = r.its_turn;
      meant = r.meant;
      next = record {
        urgent = λ y there more. had_after y starts es h ∙ r.next.urgent y (subst (λ (z : List Msg). Contains z y) same there) more;
        oldest = λ y earlier later is old prio. had_after y starts es h ∙ r.next.oldest y earlier later (sym same ∙ is) old prio;
      };
    }

module _ {M : Type 0} (model : Behaviour M) (t : Tables) (lines : List Line) (fuel : ℕ) (journals : ℕ → List Entry) (left_over : List Left) (w : World (Body M))
    (lawful : IsLawfulRun model t lines fuel journals left_over w) (nobody : (party : ℕ) → length t.controllers < party → journals party ≡ [])
    (modest : IsModest model) (tells : TellsDefers model) (keepers : KeptByDeferrer M) (adds : FetchedAddsUp M) (stands : RunsStandOnce M) (means : DispatchesAsMeant M)
    (c : ℕ) (below : c < length t.controllers) where
  abbrev did : List Entry
  did = happened model t lines fuel journals left_over w lawful nobody c

  abbrev starts : List Entry
  starts = start_entries model t c

  abbrev end : State (Body M)
  end = lawful.run.end.controllers c

  all_starts : AllStarts starts
  all_starts = start_entries_start model t c

  journal_is : journals c ≡ starts ++ did
  journal_is = own model t lines fuel journals left_over w lawful nobody c below

  replays : Replays (plant_of model t lines) c (first_state model t c) did end
  replays = replay model t lines fuel journals left_over w lawful nobody c below

  fetched_did : fetched (journals c) ≡ fetched did
  fetched_did = ap fetched journal_is ∙ fetched_after starts did all_starts

  once : (m : Msg) → times m (fetched did) ≤ 1
  once m =
      let a = one_party m c lawful.run.merge in
      let b = (stands model t lines modest tells lawful.run.merge lawful.run.end lawful.run.run).1.fetched_once m in
      omega (arith, a, b)

  each_right : (before after : List Entry) (e : Entry) → journals c ≡ before ++ e ∷ after → is_turn e ≡ true → TurnIsRight before e
  each_right before after e is turn = go (cut starts did before (e ∷ after) (sym journal_is ∙ is))
    where
      here : (more : List Entry) → did ≡ more ++ e ∷ after → TurnIsRight more e
      here more b =
          right model t lines c modest tells keepers adds means more after e end
          (subst (λ (z : List Entry). Replays (plant_of model t lines) c (first_state model t c) z end) b replays)
          (λ m. subst (λ (z : List Entry). times m (fetched z) ≤ 1) b (once m)) turn

      go : Cut starts did before (e ∷ after) → TurnIsRight before e
      go (within [] a b) =
          let same : starts ≡ before = a ∙ append-nil before in
          subst (λ (z : List Entry). TurnIsRight z e) (append-nil starts ∙ same) (right_after starts [] e all_starts (here [] (sym b)))
      go (within (y ∷ more) a b) =
          let same : e ≡ y = cc in
          absurd (no_turn before more e (subst (λ (z : Entry). AllStarts (before ++ z ∷ more)) (sym same) (subst AllStarts a all_starts)) turn)
      go (behind more a b) = subst (λ (z : List Entry). TurnIsRight z e) (sym a) (right_after starts more e all_starts (here more b))

  treated_once : (m : Msg) → Contains (fetched (journals c)) m → treatments m (journals c) ≤ 1
  treated_once m there =
      let place = (stands model t lines modest tells lawful.run.merge lawful.run.end lawful.run.run).1.place c below m (subst (λ (z : List Msg). Contains z m) fetched_did there) in
      let one = place.one in
      let a = treated_done model t lines c modest tells keepers adds m did (first_state model t c) end replays in
      let same : treatments m (journals c) ≡ treatments m did = ap (treatments m) journal_is ∙ treatments_after m starts did all_starts in
      omega (arith, one, a, same)

  pub turns_are_kept : TurnsAreKept (journals c)
  turns_are_kept = record { right = each_right; treated_once = treated_once }

  -- where nothing waits, each fetched message had a turn
  pub all_had_turns : IsQuiet (plant_of model t lines) w → AllHadTurns (journals c)
  all_had_turns quiet m there = ap (had_turn m) journal_is ∙ had_after m starts did all_starts ∙ true_from_ne_false (had_turn m did) (λ had.
      let w = waits model t lines c modest tells keepers adds m m.prio.0 did end replays had in
      let own : of_priority m.prio.0 (same_name m) m ≡ true = and_from (m.prio.0 == m.prio.0) (same_name m m) (eq-eqb m.prio.0 m.prio.0 refl) (named_itself m) in
      let some = counted (of_priority m.prio.0 (same_name m)) m (fetched did) own (subst (λ (z : List Msg). Contains z m) fetched_did there) in
      let empty : end.pending m.prio.0 ≡ [] = ap (λ (s : State (Body M)). s.pending m.prio.0) (lawful.run.same.controllers c below) ∙ quiet.pending c m.prio.0 below in
      let none : count (of_priority m.prio.0 (same_name m)) (end.pending m.prio.0) ≡ 0 = ap (count (of_priority m.prio.0 (same_name m))) empty in
      absurd (omega (arith, w, some, none)))
