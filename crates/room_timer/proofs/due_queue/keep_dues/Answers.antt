use Rattle.std.proofs.Common.{◌≡◌, not, refl, rules}
use Rattle.std.specs.List.{list_any}
use Rattle.std.proofs.lemmas.Map.Entries.{filter_from_retain_pairs}
use Rattle.room_kinds.specs.declared.numbers.Endpoint.{Endpoint}
use Rattle.room_timer.specs.declared.due_turn.DueTurn.{DueTurn}
use Rattle.room_timer.specs.Timers.{is_down}
use Rattle.room_timer.proofs.due_queue.keep_dues.Goals as goal

pub returns : goal.returns
returns c =
    filter_from_retain_pairs _ (λ f. f.0.now ≡ c.args.notes.now) (λ (e : DueTurn × Endpoint). not (list_any (is_down e.1) c.args.notes.now))
    (λ g k v b w g' i t. (search rules, search rules, search rules)) _ c.args.dues.now.entries c.retain.new.self.entries refl c.retain.ensures.filtered
