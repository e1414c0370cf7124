-- The environment posted at the last end.
use Rattle.std.proofs.Common.{◌≡◌, ℕ, ◌+◌, List, map, set, length, slice_get, Some, Result, Ok, Err, OnOk, sym, ap, ◌∙◌, subst, arith}
use Rattle.std.proofs.lemmas.List.{length-set, map-set, get_or-set_other}
use Rattle.std.proofs.lemmas.Option.{slice_get_within}
use Rattle.inject_reader.specs.declared.inject_lines.accepted.Line.{Line}
use Rattle.mail_core.specs.EndLog.{EndLog, fresh}
use Rattle.mail_core.specs.Lanes.{log_at}
use Rattle.mail_core.specs.SetUp.{AreFresh}
use Rattle.mail_core.proofs.Tied.{log_at-map}
use Rattle.model_run.specs.run_rounds.Rounds.{EndDid}
use Rattle.model_run.proofs.run_rounds.OneByOne.{slice_get-same}
use Rattle.controller_mail.specs.MailState.{EnvironmentState}
use Rattle.controller_actors.specs.declared.plant.Plant.{Plant}
use Rattle.model_run.specs.run_so_far.SoFar.{EndsPosted}
use Rattle.model_run.specs.part_posts.Posting.{PostsThePart}
use Rattle.model_run.specs.run_loop.Plays.{PartPosted}

module _ {E : Type 0} (log : E → EndLog) (n : ℕ) (ends : List E) (e : E) (f : AreFresh (n + 1) (map log ends)) (at : slice_get ends n ≡ Some e) where
  -- it did nothing before
  pub was_fresh : log e ≡ fresh (n + 1) n
  was_fresh = sym (log_at-map log ends n e at) ∙ f.each n (omega arith)

module _ {E : Type 0} (log : E → EndLog) (plant : Plant) (lines : List Line) (old new : EnvironmentState) (ends : List E) (e e' : E)
    (f : AreFresh (length plant.wiring.controllers + 1) (map log ends)) (at : slice_get ends (length plant.wiring.controllers) ≡ Some e) where
  abbrev n : ℕ
  n = length plant.wiring.controllers

  abbrev logs : List EndLog
  logs = map log (set ends n e')

  did : (p : PostsThePart plant lines old new (fresh (n + 1) n) (log e')) → EndDid n (log e') p.entries
  did p = record { posted = p.end.posted; took = p.end.took }

  ends_posted : (p : PostsThePart plant lines old new (fresh (n + 1) n) (log e')) → EndsPosted n logs p.entries
  ends_posted p =
      let same = map-set log ends n e' in
      let is : log_at logs n ≡ log e' = log_at-map log (set ends n e') n e' (slice_get-same ends n e' (slice_get_within ends n e at)) in
      record {
        count = ap (λ (z : List EndLog). length z) same ∙ length-set (map log ends) n (log e') ∙ f.count;
        controllers = λ c h.
            ap (λ (z : List EndLog). log_at z c) same
            ∙ get_or-set_other (map log ends) n c (log e') (fresh 0 0) (λ x. absurd (omega arith))
            ∙ f.each c (omega arith);
        environment = subst (λ (z : EndLog). EndDid n z p.entries) (sym is) (did p);
        within = p.within;
        above = p.above;
      }

  pub posted_at_last : PostsThePart plant lines old new (log e) (log e') → PartPosted plant lines old new logs
  posted_at_last p =
      let q : PostsThePart plant lines old new (fresh (n + 1) n) (log e') =
      subst (λ (z : EndLog). PostsThePart plant lines old new z (log e')) (was_fresh log n ends e f at) p in
      record { log = log e'; part = q; ends = ends_posted q }

pub posted_there : {E : Type 0} (log : E → EndLog) (plant : Plant) (lines : List Line) (old new : EnvironmentState) (ends : List E) (e e' : E) (i : ℕ) → i ≡ length plant.wiring.controllers
    → AreFresh (length plant.wiring.controllers + 1) (map log ends) → slice_get ends i ≡ Some e → PostsThePart plant lines old new (log e) (log e')
    → PartPosted plant lines old new (map log (set ends i e'))
posted_there log plant lines old new ends e e' i here f at p =
    subst (λ (z : ℕ). PartPosted plant lines old new (map log (set ends z e'))) (sym here)
    (posted_at_last log plant lines old new ends e e' f (subst (λ (z : ℕ). slice_get ends z ≡ Some e) here at) p)

-- what follows from what a call that ends well ensures
pub on_ok_then : {E P Q : Type 0} (r : Result (Unit {0}) E) → (P → Q) → OnOk r P → OnOk r Q
on_ok_then (Ok x) f h = f h
on_ok_then (Err e) f h = tt
