use Rattle.std.proofs.Common.{◌≡◌, ◌-◌, ◌<◌, ◌≤◌, ◌++◌, List, length, ap, sym, ◌∙◌, arith, append_assoc, map}
use Rattle.std.proofs.lemmas.List.{length-map}
use Rattle.mail_seg.specs.Sides.{Sent, Side, side, joined}
use Rattle.mail_seg.specs.Ends.{side_at}
use Rattle.mail_seg.specs.Left.{queues_of, pass_at, gathered}
use Rattle.mail_seg.proofs.LeftLemmas.{Fronts-more, gathered-more}
use Rattle.mail_seg.proofs.drain.take_in.Goals as goal

pub loop-party-preserved : goal.loop-party-preserved
loop-party-preserved c =
    let i = c.loop-party.invariant in
    let k = c.loop-party.party in
    let rows = queues_of c.args.rows.now.items in
    let f = pass_at rows 0 in
    let a = side c.args.own.now in
    let so_far = gathered f c.args.from (k - c.args.from) in
    let order : c.args.from ≤ k = omega (arith, c.loop-party.auto.party, c.requires.order) in
    let inside : k < length rows = omega (arith, length-map c.args.rows.now.items (λ r. map side r.passes.items), c.requires.rows, c.loop-party-test.true) in
    let front_is : side c.front.result ≡ f k = c.front.ensures.pass ∙ ap (λ l. side_at l 0) (i.fronts.above k (omega arith)) in
    record {
      own =
          c.join.ensures
          ∙ ap (λ x. joined x (side c.front.result)) i.own
          ∙ ap (λ (ps : List Sent). record a { posts = ps }) (
          append_assoc a.posts so_far (side c.front.result).posts
          ∙ ap (λ (x : Side). a.posts ++ (so_far ++ x.posts)) front_is
          ∙ ap (λ l. a.posts ++ l) (sym (gathered-more f c.args.from k order))
          );
      fronts = Fronts-more i.fronts order inside c.front.ensures.rows;
    }
