-- Where all is quiet, the journals so far are those of a run over the lines so far that is done.
use Rattle.std.proofs.Common.{◌≡◌, ℕ, true, false, List, [], map, refl, sym, ap, ◌∙◌, append-nil}
use Rattle.std.specs.List.{list_any, list_all, flat_map}
use Rattle.std.proofs.lemmas.List.Elements.{All-from_recursion}
use Rattle.room_kinds.specs.declared.message.Msg.{Msg}
use Rattle.journal.specs.declared.entry.Left.{Left}
use Rattle.inject_reader.specs.declared.inject_lines.accepted.Line.{Line}
use Rattle.actor_world.specs.Journals.{Item, left, priorities}
use Rattle.controller_mail.specs.MailState.{EnvironmentState, has_messages, pending_of, messages_in}
use Rattle.controller_actors.specs.declared.plant.Plant.{Plant}
use Rattle.controller.specs.View.{Controller}
use Rattle.model_run.specs.part_posts.Items.{items_of}
use Rattle.model_run.specs.part_source.Calls.{seen, StoodQuiet}
use Rattle.model_run.specs.part_source.Parts.{is_message, AreSettles}
use Rattle.model_run.specs.run_ends.Ends.{waits, IsAtEnd}
use Rattle.model_run.specs.run_ends.Told.{journals_in}
use Rattle.model_run.specs.run_loop.Plays.{InPart, rests}
use Rattle.model_run.proofs.run_ends.EndLaw.{WaitInSix, is_run}
use Rattle.model_run.proofs.run_ends.ToldLaw.{none_waits, none_in, none_left, flat_nothing}
use Rattle.model_run.proofs.run_loop.ListFacts.{all_false}
use Rattle.model_run.proofs.run_loop.PlayLaw.{ends_done}

-- where no message waits, none waits at any priority
nothing_in_six : (g : Msg → Left) (lists : List (List Msg)) → list_any has_messages lists ≡ false
    → flat_map (λ (p : ℕ). map g (pending_of lists p)) priorities ≡ map g (messages_in lists)
nothing_in_six g lists none =
    flat_nothing (λ (p : ℕ). map g (pending_of lists p)) priorities (λ p. ap (λ (ms : List Msg). map g ms) (none_waits lists none p))
    ∙ sym (ap (λ (ms : List Msg). map g ms) (none_in lists none))

module _ (plant : Plant) (fuel : ℕ) (given : List Line) (ks : List Controller) (env : EnvironmentState)
    (s : InPart plant (items_of plant.wiring given) fuel ks env) (rest : list_all (rests fuel) ks ≡ true) (none : list_any waits ks ≡ false) where
  abbrev items : List Item
  items = items_of plant.wiring given

  no_settles : AreSettles []
  no_settles = All-from_recursion (λ (l : Line). is_message l.what ≡ false) [] tt

  at_end : IsAtEnd plant items fuel ks env true
  at_end = ends_done plant fuel items ks env s rest none given given [] refl [] no_settles (sym (append-nil given)) refl

  in_six : WaitInSix ks
  in_six c k here = nothing_in_six (left c true) k.mail.pending (all_false waits ks none c k here)

  pub stood_quiet : StoodQuiet plant given fuel (seen ks env)
  stood_quiet = record {
    run = is_run plant items [] fuel ks env true (journals_in ks) [] at_end refl (sym (none_left 0 ks (all_false waits ks none))) in_six
        (λ e. refl) tt given (sym (append-nil items));
  }
