use Rattle.std.proofs.Common.{◌≡◌, ◌+◌, true, List, [], ◌∷◌, ◌++◌, map, reverse, sym, ap, ◌∙◌, subst}
use Rattle.room_kinds.specs.declared.message.Msg.{Msg}
use Rattle.journal.specs.declared.entry.Entry.{Entry}
use Rattle.journal.specs.declared.entry.Left.{Left}
use Rattle.actor_world.specs.Journals.{left}
use Rattle.controller_mail.specs.MailState.{messages_in}
use Rattle.controller.specs.View.{Controller}
use Rattle.model_run.specs.run_ends.Told.{AreTold}
use Rattle.model_run.proofs.run_ends.ToldLaw.{reverse_last, told_more}
use Rattle.model_run.proofs.run_ends.finished.finish_all.Goals as goal

pub loop-me-preserved : goal.loop-me-preserved
loop-me-preserved c =
    let me = c.loop-me.me in
    let ks = c.args.controllers.items in
    let k : Controller = c.in-Some.controller in
    let rest = reverse c.pop.new.self.items in
    let js = c.loop-me.journals.items in
    let ls = c.loop-me.left.items in
    let more = map (left me true) c.in_ok-journal.waiting.items in
    let first : reverse c.loop-me.controllers.items ≡ k ∷ rest = ap (λ (z : List Controller). reverse z) c.in-Some.ensures.items ∙ reverse_last c.pop.new.self.items k in
    let now : AreTold me ks (k ∷ rest) js ls = subst (λ (z : List Controller). AreTold me ks z js ls) first c.loop-me.invariant.told in
    let waiting : more ≡ map (left me true) (messages_in k.mail.pending) = ap (λ (z : List Msg). map (left me true) z) c.in_ok-journal.ensures.pending in
    let journals : c.push.new.self.items ≡ js ++ k.mail.journal ∷ [] = c.in_ok-push.ensures.items ∙ ap (λ (z : List Entry). js ++ z ∷ []) c.in_ok-journal.ensures.journal in
    let lefts : c.leave_all.new.all.items ≡ ls ++ more = c.in_ok-leave_all.ensures in
    record {
      told = subst (λ (z : List (List Entry)). AreTold (me + 1) ks rest z c.leave_all.new.all.items) (sym journals)
          (subst (λ (z : List Left). AreTold (me + 1) ks rest (js ++ k.mail.journal ∷ []) z) (sym lefts)
          (told_more me ks k rest js ls more now c.in_ok-journal.ensures.six waiting));
    }
