use Rattle.std.proofs.Common.{ℕ, not, List, ◌∙◌, sym, subst, ap}
use Rattle.std.specs.BTreeMap.{get, is_at as is_key}
use Rattle.std.specs.List.{list_any}
use Rattle.std.specs.Map.{lookup, values_of}
use Rattle.std.specs.Prelude.{filter}
use Rattle.room_kinds.specs.declared.numbers.Endpoint.{Endpoint}
use Rattle.room_timer.specs.declared.place.Place.{Place}
use Rattle.room_timer.specs.declared.timer.Timer.{Timer}
use Rattle.room_timer.specs.Timers.{is_down, outlives}
use Rattle.room_timer.specs.Turns.{IsPlaced, key_of, place_cmp}
use Rattle.room_timer.proofs.Placed.{placed_kept, turns_kept, values_kept}
use Rattle.room_timer.proofs.armed.ArmedTimers.keep_outliving.Goals as goal

pub invariant_of-self : goal.invariant_of-self
invariant_of-self c =
    subst (λ (ts : List (ℕ × Timer)). IsPlaced c.self.inside.next ts (λ at. get place_cmp c.keep_turns.new.turns (key_of at))) (sym c.keep_outliving.ensures.kept)
    (placed_kept (λ (a : Endpoint). not (list_any (is_down a) c.args.notes.now)) c.self.inside.next c.self.inside.queue
    (λ at. get place_cmp c.self.inside.turns (key_of at)) (λ at. get place_cmp c.keep_turns.new.turns (key_of at)) c.self.invariant
    c.keep_outliving.ensures.ordered
    (λ a. ap (λ (es : List (Place × ℕ)). lookup (is_key (place_cmp (key_of a))) es) c.keep_turns.ensures
    ∙ turns_kept (λ (b : Endpoint). not (list_any (is_down b) c.args.notes.now)) c.self.inside.turns.entries a))

pub returns : goal.returns
returns c =
    ap (λ (ts : List (ℕ × Timer)). values_of ts) c.keep_outliving.ensures.kept
    ∙ values_kept (outlives c.args.notes.now) c.self.inside.queue
    ∙ ap (λ (ts : List (ℕ × Timer)). filter (outlives c.args.notes.now) (values_of ts)) c.self.view_is
