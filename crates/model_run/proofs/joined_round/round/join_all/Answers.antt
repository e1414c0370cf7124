use Rattle.std.proofs.Common.{◌≡◌, map, length, slice_get, Vec, Global, ◌∙◌, subst, arith}
use Rattle.std.proofs.lemmas.List.{length-map}
use Rattle.room_kinds.specs.declared.message.Msg.{Msg}
use Rattle.model_run.specs.run_rounds.OneByOne.{StepsBelow}
use Rattle.model_run.specs.joined_round.Joined.{TurnedAt}
use Rattle.model_run.proofs.joined_round.JoinLaw.{ok_then, fetched_ready}
use Rattle.model_run.proofs.joined_round.PriorityLaw.{left_for_them, left_low, left_answerable}
use Rattle.model_run.proofs.joined_round.round.join_all.Goals as goal

pub fetch_all-requires-clause-of : goal.fetch_all-requires-clause-of
fetch_all-requires-clause-of g c = λ i k at. (c.requires.posted i k at).0

pub fetch_all-requires-clause-count : goal.fetch_all-requires-clause-count
fetch_all-requires-clause-count g c =
    let left = c.in_ok-left.left.items in
    let lists : length (map (λ (v : Vec Msg Global). v.items) left) ≡ length left = length-map left (λ (v : Vec Msg Global). v.items) in
    let logs : length (map g.M.Mail.log c.args.ends.items) ≡ length c.args.ends.items = length-map c.args.ends.items g.M.Mail.log in
    let count = c.in_ok-left.ensures.count in
    let ends = c.requires.count in
    omega arith

pub fetch_all-requires-clause-to : goal.fetch_all-requires-clause-to
fetch_all-requires-clause-to g c =
    left_for_them (map g.M.Mail.log c.args.ends.items) (map (λ (v : Vec Msg Global). v.items) c.in_ok-left.left.items) c.in_ok-left.ensures (length c.args.plant.now.wiring.controllers) c.requires.by_priority

pub fetch_all-requires-clause-priorities : goal.fetch_all-requires-clause-priorities
fetch_all-requires-clause-priorities g c =
    left_low (map g.M.Mail.log c.args.ends.items) (map (λ (v : Vec Msg Global). v.items) c.in_ok-left.left.items) c.in_ok-left.ensures (length c.args.plant.now.wiring.controllers) c.requires.by_priority

pub fetch_all-requires-clause-answerable : goal.fetch_all-requires-clause-answerable
fetch_all-requires-clause-answerable g c =
    left_answerable (map g.M.Mail.log c.args.ends.items) (map (λ (v : Vec Msg Global). v.items) c.in_ok-left.left.items) c.in_ok-left.ensures (length c.args.plant.now.wiring.controllers) c.requires.by_priority

pub turn_all-requires : goal.turn_all-requires
turn_all-requires g c =
    record {
      ready = λ i k at.
          fetched_ready c.args.plant.now c.args.controllers.now.items c.fetch_all.new.controllers.items (map (λ (v : Vec Msg Global). v.items) c.in_ok-left.left.items)
          c.in_ok-fetch_all.ensures.ok c.in_ok-fetch_all.ensures.count c.requires.posted i k at;
    }

pub returns : goal.returns
returns g c =
    let plant = c.args.plant.now in
    let olds = c.args.controllers.now.items in
    let fetched = c.fetch_all.new.controllers.items in
    let news = c.turn_all.new.controllers.items in
    let n : length fetched ≡ length olds = c.in_ok-fetch_all.ensures.count in
    ok_then c.turn_all.result _
    (λ turns count. record {
      fetched = fetched;
      answer = map (λ (v : Vec Msg Global). v.items) c.in_ok-left.left.items;
      left = c.in_ok-left.ensures;
      fetches = c.in_ok-fetch_all.ensures.ok;
      turns = subst (λ (z : _). StepsBelow (TurnedAt plant) z (slice_get fetched) (slice_get news)) n turns;
      count = count ∙ n;
    })
    c.turn_all.ensures.ok c.turn_all.ensures.count
