use Rattle.std.proofs.Common.{◌≡◌, ℕ, refl, rules}
use Rattle.std.proofs.lemmas.Map.Entries.{filter_from_retain_pairs}
use Rattle.room_timer.specs.declared.timer.Timer.{Timer}
use Rattle.room_timer.specs.Timers.{outlives}
use Rattle.room_timer.proofs.due_queue.keep_timers.Goals as goal

pub returns-clause-kept : goal.returns-clause-kept
returns-clause-kept c =
    filter_from_retain_pairs _ (λ f. f.0.now ≡ c.args.notes.now) (λ (e : ℕ × Timer). outlives c.args.notes.now e.1)
    (λ g k v b w g' i t. (search rules, search rules, search rules)) _ c.args.timers.now.entries c.retain.new.self.entries refl c.retain.ensures.filtered
