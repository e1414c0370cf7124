-- The journals of a lawful run keep messages and stamps.
use Rattle.std.proofs.Common.{◌≡◌, ℕ, ◌<◌, ◌≤◌, List, [], ◌++◌, length, sym, ap, ◌∙◌, subst, arith, append-nil}
use Rattle.std.specs.List.{Contains}
use Rattle.std.proofs.lemmas.List.Elements.{All-contains, All-from_recursion, Contains-append_left}
use Rattle.room_kinds.specs.declared.message.Msg.{Msg}
use Rattle.journal.specs.declared.entry.Entry.{Entry}
use Rattle.journal.specs.declared.entry.Left.{Left}
use Rattle.room_wiring.specs.declared.tables.Tables.{Tables}
use Rattle.actor_merge.specs.Mail.{lane, taken, given}
use Rattle.actor_merge.specs.Merge.{AllStamped}
use Rattle.actor_merge.specs.Parties.{Line}
use Rattle.actor_merge.specs.World.{World, IsQuiet}
use Rattle.actor_world.specs.Behaviour.{Behaviour}
use Rattle.actor_world.specs.Body.{Body}
use Rattle.actor_world.specs.Journals.{IsLawfulRun}
use Rattle.actor_world.specs.Life.{IsModest}
use Rattle.actor_world.specs.Start.{plant_of}
use Rattle.actor_world.specs.world_laws.Counting.{times}
use Rattle.actor_world.specs.world_laws.OnePlace.{RunsStandOnce}
use Rattle.actor_world.specs.world_laws.Whereabouts.{fetched, TellsDefers}
use Rattle.law_runs.specs.Mail.{posted, Way, along, IsPrefix, fetched_by_all, MailIsKept, AllIsFetched}
use Rattle.law_runs.specs.Stamps.{events, Rise, StampsAreKept}
use Rattle.law_runs.proofs.Once.{no_more_often}
use Rattle.law_runs.proofs.Party.{happened, starts, starts_start, whole, fetched_is, posted_is, queue, stamped, from_own}
use Rattle.law_runs.proofs.Stamps as stamps
use Rattle.law_runs.proofs.Ways.{lane_of, prefix_along, fetched_is_taken, taken_is_fetched, posted_is_given, given_is_posted}

module _ {M : Type 0} (model : Behaviour M) (t : Tables) (lines : List Line) (fuel : ℕ) (journals : ℕ → List Entry) (left_over : List Left) (w : World (Body M))
    (lawful : IsLawfulRun model t lines fuel journals left_over w) (nobody : (party : ℕ) → length t.controllers < party → journals party ≡ []) where
  abbrev did : ℕ → List Entry
  did party = happened model t lines fuel journals left_over w lawful nobody party

  fetched_did : (party : ℕ) → fetched (journals party) ≡ fetched (did party)
  fetched_did party = fetched_is model t lines fuel journals left_over w lawful nobody party

  posted_did : (party : ℕ) → posted (journals party) ≡ posted (did party)
  posted_did party = posted_is model t lines fuel journals left_over w lawful nobody party

  all_along : (way : Way) → along way (fetched (journals way.receiver)) ++ along way (w.lanes (lane_of way)) ≡ along way (posted (journals way.sender))
  all_along way =
      ap (λ (z : List Msg). along way z ++ along way (w.lanes (lane_of way))) (fetched_did way.receiver)
      ∙ prefix_along way (did way.sender) (did way.receiver) (w.lanes (lane_of way)) (queue model t lines fuel journals left_over w lawful nobody (lane_of way))
      ∙ ap (along way) (sym (posted_did way.sender))

  in_order : (way : Way) → IsPrefix (along way (fetched (journals way.receiver))) (along way (posted (journals way.sender)))
  in_order way = record { rest = along way (w.lanes (lane_of way)); whole = all_along way }

  fetched_was_posted : (c : ℕ) (m : Msg) → Contains (fetched (journals c)) m → (m.to.0 ≡ c) × Contains (posted (journals m.from.0)) m
  fetched_was_posted c m h =
      let l = lane m.from.0 c m.prio.0 in
      let here : Contains (fetched (did c)) m = subst (λ (z : List Msg). Contains z m) (fetched_did c) h in
      let there : Contains (given l m.from.0 (did m.from.0)) m =
      subst (λ (z : List Msg). Contains z m) (sym (queue model t lines fuel journals left_over w lawful nobody l))
      (Contains-append_left (taken l c (did c)) (w.lanes l) m (fetched_is_taken c m (did c) here)) in
      let given = given_is_posted l m.from.0 m (did m.from.0) there in
      (given.0, subst (λ (z : List Msg). Contains z m) (sym (posted_did m.from.0)) given.1)

  names_sender : (party : ℕ) (m : Msg) → Contains (posted (journals party)) m → m.from.0 ≡ party
  names_sender party m h =
      All-contains (λ (z : Msg). z.from.0 ≡ party) (posted (did party)) m
      (All-from_recursion (λ (z : Msg). z.from.0 ≡ party) (posted (did party))
      (stamps.posted_from party (did party) (from_own model t lines fuel journals left_over w lawful nobody party)))
      (subst (λ (z : List Msg). Contains z m) (posted_did party) h)

  stamps_of : (party : ℕ) → AllStamped (did party)
  stamps_of party = stamped model t lines fuel journals left_over w lawful nobody party

  posted_once : (party : ℕ) (m : Msg) → times m (posted (journals party)) ≤ 1
  posted_once party m =
      subst (λ (z : List Msg). times m z ≤ 1) (sym (posted_did party))
      (stamps.posted_once m (did party) (stamps.stamps_rise (lawful.run.merge) lawful.run.is.ordered party) (stamps_of party))

  fetched_once : IsModest model → TellsDefers model → RunsStandOnce M → (m : Msg) → times m (fetched_by_all (length t.controllers) journals) ≤ 1
  fetched_once modest tells stands m =
      let a = no_more_often m (λ (c : ℕ). fetched (journals c)) lawful.run.merge (length t.controllers) fetched_did in
      let b = (stands model t lines modest tells lawful.run.merge lawful.run.end lawful.run.run).1.fetched_once m in
      omega (arith, a, b)

  pub mail_is_kept : IsModest model → TellsDefers model → RunsStandOnce M → MailIsKept (length t.controllers) journals
  mail_is_kept modest tells stands = record {
    in_order = in_order;
    fetched_was_posted = fetched_was_posted;
    names_sender = names_sender;
    posted_once = posted_once;
    fetched_once = fetched_once modest tells stands;
  }

  pub stamps_are_kept : StampsAreKept journals
  stamps_are_kept = record {
    rise = λ party. subst (λ (z : List Entry). Rise (events z)) (sym (whole model t lines fuel journals left_over w lawful nobody party))
        (stamps.rise_after (starts model t lines fuel journals left_over w lawful nobody party) (did party)
        (starts_start model t lines fuel journals left_over w lawful nobody party) (stamps.stamps_rise lawful.run.merge lawful.run.is.ordered party));
    stamped = λ party. subst AllStamped (sym (whole model t lines fuel journals left_over w lawful nobody party))
        (stamps.stamped_after (starts model t lines fuel journals left_over w lawful nobody party) (did party)
        (starts_start model t lines fuel journals left_over w lawful nobody party) (stamps_of party));
  }

  module _ (quiet : IsQuiet (plant_of model t lines) w) where
    emptied : (way : Way) → along way (fetched (journals way.receiver)) ≡ along way (posted (journals way.sender))
    emptied way =
        sym (append-nil (along way (fetched (journals way.receiver))))
        ∙ ap (λ (z : List Msg). along way (fetched (journals way.receiver)) ++ along way z) (sym (quiet.lanes (lane_of way)))
        ∙ all_along way

    each_fetched : (party : ℕ) (m : Msg) → Contains (posted (journals party)) m → Contains (fetched (journals m.to.0)) m
    each_fetched party m h =
        let l = lane party m.to.0 m.prio.0 in
        let here : Contains (posted (did party)) m = subst (λ (z : List Msg). Contains z m) (posted_did party) h in
        let all : given l party (did party) ≡ taken l m.to.0 (did m.to.0) =
        queue model t lines fuel journals left_over w lawful nobody l
        ∙ ap (λ (z : List Msg). taken l m.to.0 (did m.to.0) ++ z) (quiet.lanes l) ∙ append-nil (taken l m.to.0 (did m.to.0)) in
        let there : Contains (taken l m.to.0 (did m.to.0)) m = subst (λ (z : List Msg). Contains z m) all (posted_is_given party m (did party) here) in
        subst (λ (z : List Msg). Contains z m) (sym (fetched_did m.to.0)) (taken_is_fetched l m.to.0 m (did m.to.0) there)

    pub all_is_fetched : AllIsFetched journals
    all_is_fetched = record { along_each = emptied; each = each_fetched }
