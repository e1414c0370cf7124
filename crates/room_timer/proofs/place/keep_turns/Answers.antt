use Rattle.std.proofs.Common.{◌≡◌, ℕ, not, refl, rules}
use Rattle.std.specs.List.{list_any}
use Rattle.std.proofs.lemmas.Map.Entries.{filter_from_retain_pairs}
use Rattle.room_timer.specs.declared.place.Place.{Place}
use Rattle.room_timer.specs.Timers.{is_down}
use Rattle.room_timer.specs.Turns.{end_of}
use Rattle.room_timer.proofs.place.keep_turns.Goals as goal

pub returns : goal.returns
returns c =
    filter_from_retain_pairs _ (λ f. f.0.now ≡ c.args.notes.now) (λ (e : Place × ℕ). not (list_any (is_down (end_of e.0)) c.args.notes.now))
    (λ g k v b w g' i t. (search rules, search rules, search rules)) _ c.args.turns.now.entries c.retain.new.self.entries refl c.retain.ensures.filtered
