-- Duties of the name table, and on the own side of a name.
use Rattle.std.proofs.Common.{◌≡◌, ℕ, ◌==◌, ◌&&◌, Bool, true, false, List, [], All, refl, sym, ap, ◌∙◌}
use Rattle.std.proofs.lemmas.List.Elements.{All-nil}
use Rattle.room_kinds.specs.declared.message.Msg.{Msg}
use Rattle.room_kinds.specs.declared.numbers.SlotId.{SlotId}
use Rattle.room_kinds.specs.declared.numbers.Incarnation.{Incarnation}
use Rattle.room_kinds.specs.declared.system.SysKind.{SysKind}
use Rattle.room_kinds.specs.declared.system.SysKind.TheVariants as kinds
use Rattle.room_wiring.specs.declared.tables.Tables.{Tables}
use Rattle.journal.specs.declared.entry.Did.TheVariants as did
use Rattle.actor_duties.specs.Words.{is_own, whose}
use Rattle.actor_duties.specs.State.{Done, Lives, Links, NameTable}
use Rattle.actor_duties.specs.Lives.{is_live}
use Rattle.actor_duties.specs.Links.{links_duty}
use Rattle.actor_duties.specs.Names.{table_duty}
use Rattle.actor_world.specs.Behaviour.{Behaviour}
use Rattle.actor_world.specs.Body.{Body, Doing}
use Rattle.actor_world.specs.Turns.{duty, links_done, treated, with_links, with_table}
use Rattle.chart_behaviour.specs.ModelCharts.{Actor}
use Rattle.layer_service.specs.layer_links.Kept.{PointState, links_of}
use Rattle.controller_mail.specs.MailState.{IsForActors, with_body}
use Rattle.controller_mail.specs.declared.mail_queues.TurnResult.{TurnResult}
use Rattle.controller_actors.specs.declared.plant.Plant.{Plant}
use Rattle.controller_actors.specs.declared.actors.Actors.{Actors}
use Rattle.controller_actors.specs.declared.duties.Service.TheVariants as services
use Rattle.controller_actors.specs.Served.{links_in}
use Rattle.controller_actors.specs.Plants.{model_of}
use Rattle.controller_actors.specs.Bodies.{IsWell, body_of, done_of, lives_of}
use Rattle.controller_actors.specs.Steps.{IsLast}
use Rattle.controller_actors.specs.Duties.{HasDuty, service_of}

-- what is done, by its parts
abbrev done_by : {A : Type 0} → A → List Msg → Done A
done_by now sent = record { now = now; sent = sent }

done_is : {A : Type 0} (r : Done A) (now : A) (sent : List Msg) → now ≡ r.now → sent ≡ r.sent → r ≡ done_by now sent
done_is {A} r now sent e f = ap (λ (n : A). done_by n r.sent) (sym e) ∙ ap (done_by now) (sym f)

-- ---- by the kind

module _ (model : Behaviour Actor) (t : Tables) (me : ℕ) (b : Body Actor) (m : Msg) where
  is_table : (k : SysKind) → service_of k ≡ services.NameTable → duty model t me b m k ≡ with_table b (table_duty t me b.table k m)
  is_table kinds.Register e = refl
  is_table kinds.Withdraw e = refl
  is_table kinds.Bound e = absurd cc
  is_table kinds.Ended e = absurd cc
  is_table kinds.NameReply e = absurd cc
  is_table kinds.Create e = absurd cc
  is_table kinds.CreateDone e = absurd cc
  is_table kinds.CreateRefused e = absurd cc
  is_table kinds.Destroy e = absurd cc
  is_table kinds.DestroyDone e = absurd cc
  is_table kinds.Import e = absurd cc
  is_table kinds.ImportDone e = absurd cc
  is_table kinds.ImportRefused e = absurd cc
  is_table kinds.ImportEnded e = absurd cc
  is_table kinds.Deport e = absurd cc
  is_table kinds.DeportDone e = absurd cc
  is_table kinds.Announce e = absurd cc
  is_table kinds.PartMake e = absurd cc
  is_table kinds.PartEnd e = absurd cc

  is_links : (k : SysKind) → service_of k ≡ services.Links → duty model t me b m k ≡ links_done t me b k m
  is_links kinds.Bound e = refl
  is_links kinds.Ended e = refl
  is_links kinds.NameReply e = refl
  is_links kinds.Register e = absurd cc
  is_links kinds.Withdraw e = absurd cc
  is_links kinds.Create e = absurd cc
  is_links kinds.CreateDone e = absurd cc
  is_links kinds.CreateRefused e = absurd cc
  is_links kinds.Destroy e = absurd cc
  is_links kinds.DestroyDone e = absurd cc
  is_links kinds.Import e = absurd cc
  is_links kinds.ImportDone e = absurd cc
  is_links kinds.ImportRefused e = absurd cc
  is_links kinds.ImportEnded e = absurd cc
  is_links kinds.Deport e = absurd cc
  is_links kinds.DeportDone e = absurd cc
  is_links kinds.Announce e = absurd cc
  is_links kinds.PartMake e = absurd cc
  is_links kinds.PartEnd e = absurd cc

module _ (p : Plant) (me : ℕ) (m : Msg) (kind : SysKind) (old : Actors) (done : TurnResult) (well : IsWell p me old) where
  -- nothing comes back
  none_back : (sent : List Msg) → done ≡ record { sent = sent; back = []; did = did.Duty; notes = [] } → All IsForActors done.back
  none_back sent is = rw is (All-nil IsForActors)

  -- another name table
  pub has_table : (now : NameTable) (sent : List Msg) → service_of kind ≡ services.NameTable
      → now ≡ (table_duty p.wiring me old.table kind m).now → sent ≡ (table_duty p.wiring me old.table kind m).sent
      → done ≡ record { sent = sent; back = []; did = did.Duty; notes = [] }
      → HasDuty p me m kind old (record old { table = now }) done
  unfolding body_of
  has_table now sent service table out is =
      let b = body_of p me old in
      record {
        turn =
            ap (λ (d : Doing Actor). treated d did.Duty) (is_table (model_of p) p.wiring me b m kind service)
            ∙ ap (λ (r : Done NameTable). treated (with_table b r) did.Duty) (done_is (table_duty p.wiring me old.table kind m) now sent table out)
            ∙ ap (λ (d : TurnResult). with_body (done_of d) (body_of p me (record old { table = now }))) (sym is);
        well = record {
          has_slots = record { serves = well.has_slots.serves; each = well.has_slots.each; count = well.has_slots.count };
          empty = well.empty;
        };
        back = none_back sent is;
      }

  -- other registrations and links
  pub has_links : (now : List (List PointState)) (sent : List Msg) (live : Bool) → service_of kind ≡ services.Links
      → live ≡ (is_own p.wiring me m.target.slot.0 && is_live (lives_of old) (whose m.target))
      → links_of now ≡ (links_duty p.wiring me (links_in old.services) live kind m).now → sent ≡ (links_duty p.wiring me (links_in old.services) live kind m).sent
      → done ≡ record { sent = sent; back = []; did = did.Duty; notes = [] }
      → HasDuty p me m kind old (record old { services = record old.services { links = now } }) done
  unfolding body_of
  has_links now sent live service lives links out is =
      let b = body_of p me old in
      record {
        turn =
            ap (λ (d : Doing Actor). treated d did.Duty) (is_links (model_of p) p.wiring me b m kind service)
            ∙ ap (λ (a : Bool). treated (with_links b (links_duty p.wiring me (links_in old.services) a kind m)) did.Duty) (sym lives)
            ∙ ap (λ (r : Done Links). treated (with_links b r) did.Duty) (done_is (links_duty p.wiring me (links_in old.services) live kind m) (links_of now) sent links out)
            ∙ ap (λ (d : TurnResult). with_body (done_of d) (body_of p me (record old { services = record old.services { links = now } }))) (sym is);
        well = record {
          has_slots = record {
            serves = record { fits = well.has_slots.serves.fits; owner = well.has_slots.serves.owner };
            each = well.has_slots.each;
            count = well.has_slots.count;
          };
          empty = well.empty;
        };
        back = none_back sent is;
      }

-- ---- whether an actor lives

module _ (t : Tables) (me : ℕ) (l : Lives) (who : Incarnation) where
  pub nobody_lives : (is_own t me who.slot.0 && l.lives who.slot.0) ≡ false → false ≡ (is_own t me who.slot.0 && is_live l who)
  nobody_lives e = go (is_own t me who.slot.0) (l.lives who.slot.0) (l.generation who.slot.0 == who.generation.0) e
    where
      go : (a b c : Bool) → (a && b) ≡ false → false ≡ (a && (b && c))
      go true true c h = absurd cc
      go true false c h = refl
      go false b c h = refl

  pub occupant_lives : (x : Incarnation) → x.slot ≡ who.slot → IsLast t me l x → is_own t me who.slot.0 ≡ true
      → (x.generation.0 == who.generation.0) ≡ (is_own t me who.slot.0 && is_live l who)
  occupant_lives x slot last own = go (is_own t me who.slot.0) (l.lives who.slot.0) own live generation
    where
      at : x.slot.0 ≡ who.slot.0
      at = ap (λ (s : SlotId). s.0) slot

      live : l.lives who.slot.0 ≡ true
      live = ap l.lives (sym at) ∙ last.live

      generation : l.generation who.slot.0 ≡ x.generation.0
      generation = ap l.generation (sym at) ∙ ap (λ (y : Incarnation). y.generation.0) last.last

      go : (a b : Bool) → a ≡ true → b ≡ true → l.generation who.slot.0 ≡ x.generation.0
          → (x.generation.0 == who.generation.0) ≡ (a && (b && (l.generation who.slot.0 == who.generation.0)))
      go true true h k g = ap (λ n. n == who.generation.0) (sym g)
      go true false h k g = absurd cc
      go false b h k g = absurd cc
