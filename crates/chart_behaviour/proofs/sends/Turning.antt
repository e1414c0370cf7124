-- What turns and starts send goes to controllers that there are, at priorities that there are.
use Rattle.std.proofs.Common.{◌≡◌, ℕ, ◌<◌, length, Option, Some, None, refl, arith}
use Rattle.std.specs.Option.{option_map_or}
use Rattle.std.proofs.lemmas.Bool.{ltb-true}
use Rattle.room_kinds.specs.declared.message.Msg.{Msg}
use Rattle.room_wiring.specs.declared.slot.Slot.{Slot}
use Rattle.room_wiring.specs.declared.tables.Tables.{Tables}
use Rattle.room_wiring.specs.Slots.{slot_at}
use Rattle.actor_duties.specs.Words.{owner_of}
use Rattle.actor_duties.proofs.FrameSends.{of_all_kinds}
use Rattle.controller_mail.specs.Within.{IsWithin}
use Rattle.chart_behaviour.specs.sends.Sends.{OwnersAreThere, is_ranked, TurnsSendWithin, StartsSendWithin}
use Rattle.chart_behaviour.proofs.sends.TurnSends.{HoldsOfAll, turn_sends, start_sends}

-- one of the controllers
abbrev IsThere : Tables → ℕ → Type 0
IsThere t d = d < length t.controllers

-- within them, at one of the six priorities
abbrev IsSentWithin : Tables → Msg → Type 0
IsSentWithin t m = IsWithin (length t.controllers) m

module _ (t : Tables) (owners : OwnersAreThere t) (me : ℕ) (mine : me < length t.controllers) where
  low : 0 < 6
  low = omega arith

  usual : 3 < 6
  usual = omega arith

  first : 0 < length t.controllers
  first = omega (arith, mine)

  -- the owner of a slot; where there is none, controller 0
  owner_there : (s : ℕ) → owner_of t s < length t.controllers
  unfolding owner_of
  owner_there s = go (slot_at t s) (λ x e. owners s x e)
    where
      go : (o : Option Slot) → ((x : Slot) → o ≡ Some x → x.owner.0 < length t.controllers) → option_map_or (λ (x : Slot). x.owner.0) o 0 < length t.controllers
      go None h = first
      go (Some x) h = h x refl

  all_within : HoldsOfAll t me (IsThere t) (IsSentWithin t) is_ranked
  all_within = record {
    receivers = record { owner = owner_there; controller = λ d h. h };
    frame = of_all_kinds me (IsThere t) (IsSentWithin t) (λ signal source target payload. (mine, usual)) (λ kind d there source target payload. (there, low));
    names = record {
      told = λ signal source target payload. (mine, usual);
      register = λ e name. (first, low);
      withdraw = λ e. (first, low);
      answer = λ e code h. (owner_there e.slot.0, low);
      bound = λ source target. (owner_there target.slot.0, low);
      ended = λ source target. (owner_there target.slot.0, low);
    };
    sends = λ p k signal payload prio e source target. (owner_there target.slot.0, ltb-true prio.0 6 e);
  }

pub turns_send_within : {M : Type 0} → TurnsSendWithin M
turns_send_within model t me b m ranked owners mine answerable =
    turn_sends model t me (IsThere t) (IsSentWithin t) is_ranked ranked (all_within t owners me mine) b m answerable

pub starts_send_within : {M : Type 0} → StartsSendWithin M
starts_send_within model t me ranked owners mine =
    start_sends model t me (IsThere t) (IsSentWithin t) is_ranked ranked (all_within t owners me mine)
