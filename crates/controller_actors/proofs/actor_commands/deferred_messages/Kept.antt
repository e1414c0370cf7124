-- The commands on deferred messages, case by case.
use Rattle.std.proofs.Common.{◌≡◌, ℕ, true, false, List, [], ◌∷◌, ◌++◌, length, Option, Some, None, refl, sym, ap, ◌∙◌}
use Rattle.std.proofs.lemmas.List.{append-nil}
use Rattle.room_kinds.specs.declared.message.Msg.{Msg}
use Rattle.room_kinds.specs.declared.note.Note.{Note}
use Rattle.room_kinds.specs.declared.note.Note.TheVariants as notes
use Rattle.actor_duties.specs.Commands.{Kept, defer, recall, recall_all}
use Rattle.controller_actors.specs.actor_commands.deferred_messages.Steps.{Applies}

pub kept_already : (m : Option Msg) (ds new : List Msg) (told told' : List Note) → new ≡ ds → told' ≡ told → Applies (defer true m ds) new [] [] told told'
unfolding defer
kept_already m ds new told told' e f = record { deferred = e; back = refl; notes = f ∙ sym (append-nil told) }

pub kept_now : (m : Msg) (ds new : List Msg) (told told' : List Note) → new ≡ ds ++ m ∷ [] → told' ≡ told → Applies (defer false (Some m) ds) new [] [] told told'
unfolding defer
kept_now m ds new told told' e f = record { deferred = e; back = refl; notes = f ∙ sym (append-nil told) }

pub nothing_in_hand : (ds new : List Msg) (told told' : List Note) → new ≡ ds → told' ≡ told ++ notes.NoMessage ∷ [] → Applies (defer false None ds) new [] [] told told'
unfolding defer
nothing_in_hand ds new told told' e f = record { deferred = e; back = refl; notes = f }

recall-cons : (m : Msg) (ms : List Msg) → recall (m ∷ ms) ≡ record { deferred = ms; back = m ∷ []; notes = notes.Recall 1 ∷ [] }
unfolding recall
recall-cons m ms = refl

recall-nil : recall [] ≡ record { deferred = []; back = []; notes = notes.Recall 0 ∷ [] }
unfolding recall
recall-nil = refl

pub oldest_back : (m : Msg) (ds new back back' : List Msg) (told told' : List Note) → ds ≡ m ∷ new → back' ≡ m ∷ back → told' ≡ told ++ notes.Recall 1 ∷ []
    → Applies (recall ds) new back back' told told'
oldest_back m ds new back back' told told' e f g =
    let k : recall ds ≡ record { deferred = new; back = m ∷ []; notes = notes.Recall 1 ∷ [] } = ap recall e ∙ recall-cons m new in
    record {
      deferred = sym (ap (λ (x : Kept). x.deferred) k);
      back = f ∙ ap (λ (x : Kept). x.back ++ back) (sym k);
      notes = g ∙ ap (λ (x : Kept). told ++ x.notes) (sym k);
    }

pub none_back : (ds new back back' : List Msg) (told told' : List Note) → ds ≡ [] → new ≡ [] → back' ≡ back → told' ≡ told ++ notes.Recall 0 ∷ []
    → Applies (recall ds) new back back' told told'
none_back ds new back back' told told' e h f g =
    let k : recall ds ≡ record { deferred = []; back = []; notes = notes.Recall 0 ∷ [] } = ap recall e ∙ recall-nil in
    record {
      deferred = h ∙ sym (ap (λ (x : Kept). x.deferred) k);
      back = f ∙ ap (λ (x : Kept). x.back ++ back) (sym k);
      notes = g ∙ ap (λ (x : Kept). told ++ x.notes) (sym k);
    }

pub all_back : (ds new back back' : List Msg) (told told' : List Note) (count : ℕ) → new ≡ [] → back' ≡ ds ++ back → count ≡ length ds → told' ≡ told ++ notes.Recall count ∷ []
    → Applies (recall_all ds) new back back' told told'
unfolding recall_all
all_back ds new back back' told told' count e f h g = record { deferred = e; back = f; notes = g ∙ ap (λ n. told ++ notes.Recall n ∷ []) h }
