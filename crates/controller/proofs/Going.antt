-- A controller and its end go on: nothing is done, and then one thing after another.
use Rattle.std.proofs.Common.{◌≡◌, ℕ, false, List, [], ◌++◌, refl, sym, ap, ◌∙◌, subst, append_assoc, append-nil}
use Rattle.room_kinds.specs.declared.numbers.ControllerId.{ControllerId}
use Rattle.journal.specs.declared.entry.Entry.{Entry}
use Rattle.mail_core.specs.EndLog.{EndLog}
use Rattle.actor_merge.specs.Mail.{lane, given, taken}
use Rattle.actor_merge.specs.Parties.{Replays}
use Rattle.actor_merge.proofs.Rounds.{replays_append, given-append, taken-append}
use Rattle.controller_actors.specs.declared.plant.Plant.{Plant}
use Rattle.controller.specs.Controllers.{Goes, EndGoes, run_plant, state_in}
use Rattle.controller.specs.View.{Controller}

-- nothing was done
pub goes_none : (plant : Plant) (k : Controller) → k.failed ≡ false → Goes plant k k []
goes_none plant k works = record { me = refl; fuel = refl; works = works; journal = sym (append-nil k.mail.journal); replays = λ lines. refl }

-- one thing, and then another
pub goes_then : {plant : Plant} {old mid new : Controller} {es fs : List Entry} → Goes plant old mid es → Goes plant mid new fs → Goes plant old new (es ++ fs)
goes_then {plant} {old} {mid} {new} {es} {fs} g h = record {
  me = h.me ∙ g.me;
  fuel = h.fuel ∙ g.fuel;
  works = h.works;
  journal = h.journal ∙ ap (λ js. js ++ fs) g.journal ∙ append_assoc old.mail.journal es fs;
  replays = λ lines.
      replays_append (run_plant plant lines) old.me.0 (state_in plant old) (state_in plant mid) (state_in plant new) es fs (g.replays lines)
      (subst (λ (c : ControllerId). Replays (run_plant plant lines) c.0 (state_in plant mid) fs (state_in plant new)) g.me (h.replays lines));
}

-- an end did nothing
pub end_goes_none : (c : ℕ) (log : EndLog) → EndGoes c log log []
end_goes_none c log = record { party = refl; parties = refl; posted = λ r p. sym (append-nil (log.posted r p)); took = λ s p. sym (append-nil (log.taken s p)) }

-- it did one thing, and then another
pub end_goes_then : {c : ℕ} {old mid new : EndLog} {es fs : List Entry} → EndGoes c old mid es → EndGoes c mid new fs → EndGoes c old new (es ++ fs)
end_goes_then {c} {old} {mid} {new} {es} {fs} g h = record {
  party = h.party ∙ g.party;
  parties = h.parties ∙ g.parties;
  posted = λ r p.
      let l = lane c r p in
      h.posted r p ∙ ap (λ ms. ms ++ given l c fs) (g.posted r p) ∙ append_assoc (old.posted r p) (given l c es) (given l c fs)
      ∙ ap (λ ms. old.posted r p ++ ms) (sym (given-append l c es fs));
  took = λ s p.
      let l = lane s c p in
      h.took s p ∙ ap (λ ms. ms ++ taken l c fs) (g.took s p) ∙ append_assoc (old.taken s p) (taken l c es) (taken l c fs)
      ∙ ap (λ ms. old.taken s p ++ ms) (sym (taken-append l c es fs));
}

-- an end that does nothing does no entry
pub end_goes_still : {c : ℕ} {log : EndLog} {es : List Entry} → ((r p : ℕ) → given (lane c r p) c es ≡ []) → ((s p : ℕ) → taken (lane s c p) c es ≡ []) → EndGoes c log log es
end_goes_still {c} {log} {es} gives_nothing takes_nothing = record {
  party = refl;
  parties = refl;
  posted = λ r p. sym (append-nil (log.posted r p)) ∙ ap (λ ms. log.posted r p ++ ms) (sym (gives_nothing r p));
  took = λ s p. sym (append-nil (log.taken s p)) ∙ ap (λ ms. log.taken s p ++ ms) (sym (takes_nothing s p));
}
