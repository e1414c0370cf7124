use Rattle.std.proofs.Common.{Vec, Global, ◌≡◌, ℕ, ◌<◌, List, [], map, slice_get, slice_index_or, length, ap, sym, subst, ◌∙◌, arith}
use Rattle.std.specs.Prelude.{All}
use Rattle.std.proofs.lemmas.List.{length-set}
use Rattle.room_kinds.specs.declared.message.Msg.{Msg}
use Rattle.controller_mail.specs.MailState.{HasPriority}
use Rattle.controller_mail.specs.Within.{IsAnswerable, IsFor}
use Rattle.model_run.specs.run_rounds.OneByOne.{StepsBelow}
use Rattle.model_run.proofs.run_rounds.OneByOne.{slice_get-other}
use Rattle.controller.specs.Controllers.{IsOf}
use Rattle.controller.specs.Calls.{FetchesLeft}
use Rattle.controller.specs.View.{Controller}
use Rattle.model_run.specs.joined_round.Joined.{FetchedAt}
use Rattle.model_run.proofs.joined_round.JoinLaw.{stood, change_step, list_at}
use Rattle.model_run.proofs.joined_round.joined.fetch_all.Goals as goal

pub fetch_left-requires-clause-of : goal.fetch_left-requires-clause-of
fetch_left-requires-clause-of c =
    let inside : c.loop-i.i < length c.loop-i.controllers.items = omega arith in
    c.requires.of c.loop-i.i c.index_mut-in-loop-i.result.now
    (stood (FetchedAt c.args.plant.now (map (λ (v : Vec Msg Global). v.items) c.args.left.items)) c.args.controllers.now.items c.loop-i.controllers.items c.loop-i.i
    c.index_mut-in-loop-i.result.now c.loop-i.invariant.steps c.index_mut-in-loop-i.ensures.value inside)

pub fetch_left-requires-clause-to : goal.fetch_left-requires-clause-to
fetch_left-requires-clause-to c =
    let i = c.loop-i.i in
    let k = c.index_mut-in-loop-i.result.now in
    let inside : i < length c.loop-i.controllers.items = omega arith in
    let in_lists : i < length c.loop-i.left.items = omega (arith, c.requires.count) in
    let me : k.me.0 ≡ i =
    c.requires.in_order i k
    (stood (FetchedAt c.args.plant.now (map (λ (v : Vec Msg Global). v.items) c.args.left.items)) c.args.controllers.now.items c.loop-i.controllers.items i
    k c.loop-i.invariant.steps c.index_mut-in-loop-i.ensures.value inside) in
    let same = list_at (λ (v : Vec Msg Global). v.items) c.loop-i.left.items c.args.left.items i c.index_mut.result.now (c.loop-i.invariant.rest i (omega arith)) c.index_mut.ensures.value in_lists in
    let list : c.replace-list.result.items ≡ slice_index_or (map (λ (v : Vec Msg Global). v.items) c.args.left.items) i [] = ap (λ (v : Vec Msg Global). v.items) c.replace-list.ensures.value ∙ same in
    subst (λ (n : ℕ). All (IsFor n) c.replace-list.result.items) (sym me) (subst (All (IsFor i)) (sym list) (c.requires.to i))

pub fetch_left-requires-clause-prio : goal.fetch_left-requires-clause-prio
fetch_left-requires-clause-prio c =
    let i = c.loop-i.i in
    let in_lists : i < length c.loop-i.left.items = omega (arith, c.requires.count) in
    let same = list_at (λ (v : Vec Msg Global). v.items) c.loop-i.left.items c.args.left.items i c.index_mut.result.now (c.loop-i.invariant.rest i (omega arith)) c.index_mut.ensures.value in_lists in
    let list : c.replace-list.result.items ≡ slice_index_or (map (λ (v : Vec Msg Global). v.items) c.args.left.items) i [] = ap (λ (v : Vec Msg Global). v.items) c.replace-list.ensures.value ∙ same in
    subst (All HasPriority) (sym list) (c.requires.priorities i)

pub fetch_left-requires-clause-answerable : goal.fetch_left-requires-clause-answerable
fetch_left-requires-clause-answerable c =
    let i = c.loop-i.i in
    let in_lists : i < length c.loop-i.left.items = omega (arith, c.requires.count) in
    let same = list_at (λ (v : Vec Msg Global). v.items) c.loop-i.left.items c.args.left.items i c.index_mut.result.now (c.loop-i.invariant.rest i (omega arith)) c.index_mut.ensures.value in_lists in
    let list : c.replace-list.result.items ≡ slice_index_or (map (λ (v : Vec Msg Global). v.items) c.args.left.items) i [] = ap (λ (v : Vec Msg Global). v.items) c.replace-list.ensures.value ∙ same in
    subst (All (IsAnswerable (length c.args.plant.now.wiring.controllers))) (sym list) (c.requires.answerable i)

pub loop-i-preserved : goal.loop-i-preserved
loop-i-preserved c =
    let i = c.loop-i.i in
    let plant = c.args.plant.now in
    let answer = map (λ (v : Vec Msg Global). v.items) c.args.left.items in
    let inside : i < length c.loop-i.controllers.items = omega arith in
    let in_lists : i < length c.loop-i.left.items = omega (arith, c.requires.count) in
    let same = list_at (λ (v : Vec Msg Global). v.items) c.loop-i.left.items c.args.left.items i c.index_mut.result.now (c.loop-i.invariant.rest i (omega arith)) c.index_mut.ensures.value in_lists in
    let list : c.replace-list.result.items ≡ slice_index_or answer i [] = ap (λ (v : Vec Msg Global). v.items) c.replace-list.ensures.value ∙ same in
    let fetched : FetchesLeft plant c.index_mut-in-loop-i.result.now c.fetch_left.new.self (slice_index_or answer i []) =
    subst (λ (ms : List Msg). FetchesLeft plant c.index_mut-in-loop-i.result.now c.fetch_left.new.self ms) list c.in_ok-fetch_left.ensures.ok in
    record {
      steps = change_step (λ (n : ℕ) (k : Controller) (k' : Controller). FetchesLeft plant k k' (slice_index_or answer n []) × IsOf plant k')
          c.args.controllers.now.items c.loop-i.controllers.items i c.index_mut-in-loop-i.result.now c.fetch_left.new.self
          c.loop-i.invariant.steps c.index_mut-in-loop-i.ensures.value inside (fetched, c.fetch_left.ensures.of);
      count = length-set c.loop-i.controllers.items i c.fetch_left.new.self ∙ c.loop-i.invariant.count;
      lists = length-set c.loop-i.left.items i c.replace-list.new.dest ∙ c.loop-i.invariant.lists;
      rest = λ n h. slice_get-other c.loop-i.left.items i n c.replace-list.new.dest (λ e. absurd (omega arith)) ∙ c.loop-i.invariant.rest n (omega arith);
      end = c.loop-i.invariant.end;
    }

pub returns-clause-ok : goal.returns-clause-ok
returns-clause-ok c =
    let all : c.loop-i.i ≡ length c.args.controllers.now.items = omega (arith, c.loop-i-test.false, c.loop-i.auto.i-end, c.loop-i.invariant.end) in
    subst (λ n. StepsBelow (FetchedAt c.args.plant.now (map (λ (v : Vec Msg Global). v.items) c.args.left.items)) n (slice_get c.args.controllers.now.items) (slice_get c.loop-i.controllers.items)) all c.loop-i.invariant.steps
