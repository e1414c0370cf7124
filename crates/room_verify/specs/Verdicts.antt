-- The verdicts on journals: that they are lawful, or the first of their faults.
-- Journals are judged for what the actors of a model do (`model`), a wiring, the lines of an injection text
-- (`items`) and a fuel. The faults in their order: stamps that don't rise; a wrong start; an entry that can't happen
-- where the merge of the journals has it, or that isn't what happens there; messages that aren't what is left; a
-- controller beyond the fuel; an end that is none; a turn before what its controller sent itself was fetched.
use Rattle.std.specs.Prelude.{◌≡◌, ℕ, ◌<◌, ◌≤◌, true, List, [], ◌∷◌, ◌++◌, length}
use Rattle.room_kinds.specs.declared.numbers.ControllerId.{ControllerId}
use Rattle.room_kinds.specs.declared.numbers.Stamp.{Stamp}
use Rattle.journal.specs.declared.entry.Entry.{Entry}
use Rattle.journal.specs.declared.entry.Journals.{Journals}
use Rattle.room_wiring.specs.declared.tables.Tables.{Tables}
use Rattle.actor_merge.specs.Mail.{stamp_of}
use Rattle.actor_merge.specs.Parties.{Plant}
use Rattle.actor_merge.specs.World.{World, Placed}
use Rattle.actor_world.specs.Behaviour.{Behaviour}
use Rattle.actor_world.specs.Body.{Body}
use Rattle.actor_world.specs.Journals.{Item, lines_of, is_turn, left_of, IsPrompt, IsEnded}
use Rattle.actor_world.specs.Start.{plant_of}
use Rattle.law_charts.specs.Alike.{IsRunOf}
use Rattle.law_merges.specs.Merges.{Rise}
use Rattle.model_run.specs.run_ends.Runs.{journal_of}
use Rattle.model_run.specs.run_rounds.Prompts.{MayTurn, PromptFrom}
use Rattle.room_verify.specs.Steps.{happened, HasStarts, Reaches, IsRefused}
use Rattle.room_verify.specs.declared.verdict.Verdict.{Verdict}
use Rattle.room_verify.specs.declared.verdict.Verdict.TheVariants as verdicts

module _ {M : Type 0} (model : Behaviour M) (t : Tables) (items : List Item) (fuel : ℕ) (j : Journals) where
  abbrev plan : Plant (Body M)
  plan = plant_of model t (lines_of items)

  -- the whole merge leads to this world
  pub record LeadsTo (w : World (Body M)) : Type 0 where
    pub merge : List Placed
    pub reaches : Reaches model t (lines_of items) j merge [] w

  -- and what the journals say is left is left there
  pub record Leaves (w : World (Body M)) : Type 0 where
    pub leads : LeadsTo w
    pub left : j.left ≡ left_of plan w

  -- and no controller took more turns than the fuel
  pub record KeepsToFuel (w : World (Body M)) : Type 0 where
    pub leaves : Leaves w
    pub fuelled : (c : ℕ) → c < length t.controllers → (w.controllers c).turns ≤ fuel

  -- and the run ended there, as the journals say
  pub record Ends (w : World (Body M)) : Type 0 where
    pub keeps : KeepsToFuel w
    pub ended : IsEnded plan items fuel w j.left j.unposted j.done

  -- the journals are lawful, prompt and ended
  pub record IsLawful : Type 0 where
    pub count : length j.controllers ≡ length t.controllers
    pub run : IsRunOf model t (lines_of items) items fuel (journal_of j) j.left j.unposted j.done
    pub prompt : IsPrompt (length t.controllers) (journal_of j)

  pub data IsVerdict : Verdict → Type 0 where
    -- the lowest party whose stamps don't rise
    out_of_order : (party : ControllerId) → party.0 ≤ length t.controllers → (Rise (happened j party.0) → ⊥)
        → ((lower : ℕ) → lower < party.0 → Rise (happened j lower)) → IsVerdict (verdicts.Order party)
    -- the lowest controller whose journal doesn't begin with its start, or has a start elsewhere
    wrong_start : (c : ControllerId) → c.0 < length t.controllers → (HasStarts model t c.0 (journal_of j c.0) → ⊥)
        → ((party : ℕ) → Rise (happened j party)) → ((lower : ℕ) → lower < c.0 → HasStarts model t lower (journal_of j lower))
        → IsVerdict (verdicts.Start c)
    -- the first entry of the merge that doesn't happen
    refused : (party : ControllerId) (stamp : Stamp) (e : Entry) (front behind : List Placed) (w : World (Body M)) → stamp.0 ≡ stamp_of e
        → Reaches model t (lines_of items) j front (record { party = party.0; entry = e } ∷ behind) w → IsRefused plan w party.0 e
        → IsVerdict (verdicts.Entry party stamp)
    wrong_left : (w : World (Body M)) → LeadsTo w → (j.left ≡ left_of plan w → ⊥) → IsVerdict verdicts.Left
    -- the lowest controller that took more turns
    beyond_fuel : (c : ControllerId) (w : World (Body M)) → c.0 < length t.controllers → Leaves w → fuel < (w.controllers c.0).turns
        → ((lower : ℕ) → lower < c.0 → (w.controllers lower).turns ≤ fuel) → IsVerdict (verdicts.Fuel c)
    not_ended : (w : World (Body M)) → KeepsToFuel w → (IsEnded plan items fuel w j.left j.unposted j.done → ⊥) → IsVerdict verdicts.Ended
    -- the first such turn of the lowest controller that has one
    not_prompt : (c : ControllerId) (stamp : Stamp) (before after : List Entry) (e : Entry) (w : World (Body M)) → c.0 < length t.controllers
        → stamp.0 ≡ stamp_of e → Ends w → journal_of j c.0 ≡ before ++ e ∷ after → is_turn e ≡ true → (MayTurn c.0 before → ⊥)
        → PromptFrom c.0 [] before → ((lower : ℕ) → lower < c.0 → PromptFrom lower [] (journal_of j lower))
        → IsVerdict (verdicts.Prompt c stamp)
    lawful : IsLawful → IsVerdict verdicts.Lawful
