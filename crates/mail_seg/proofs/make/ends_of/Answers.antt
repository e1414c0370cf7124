use Rattle.std.proofs.Common.{◌≡◌, ◌≢◌, ◌<◌, map, ap, sym, subst, ◌∙◌, arith, []}
use Rattle.std.proofs.lemmas.List.{map-set, length-set, get_or-set_other}
use Rattle.mail_seg.specs.Sides.{side}
use Rattle.mail_seg.specs.Wires.{IsWired, wiring}
use Rattle.mail_seg.specs.Ends.{posted_at, taken_at}
use Rattle.mail_seg.specs.Rows.{IsEnd, row_at, rows_of}
use Rattle.mail_seg.proofs.RowLemmas.{row_at-here}
use Rattle.mail_seg.proofs.MakeLemmas.{row_wired, row_empty, EndsTo-push}
use Rattle.mail_seg.proofs.make.ends_of.Goals as goal
use Rattle.mail_seg.proofs.make.ends_of.Goals.{After-replace-outlets}

below : (c : After-replace-outlets) → c.loop-party.party < c.args.parties
below c = c.loop-party-test.true

-- what was taken out of the table is this party's
outs : (c : After-replace-outlets) → row_at (rows_of c.args.rows.items) c.loop-party.party ≡ map side c.replace-outlets.result.items
outs c =
    sym (c.loop-party.invariant.rows c.loop-party.party (omega arith))
    ∙ ap (row_at (rows_of c.loop-party.rows.items)) (sym c.from.ensures)
    ∙ row_at-here c.loop-party.rows.items c.from.result c.index_mut.result.now (omega (arith, c.loop-party.invariant.count, below c, c.from.ensures)) c.index_mut.ensures.value
    ∙ ap (λ v. map side v.items) (sym c.replace-outlets.ensures.value)

pub new-requires-in-loop-party-clause-wired : goal.new-requires-in-loop-party-clause-wired
new-requires-in-loop-party-clause-wired c =
    let d = (goal.at.new-requires-in-loop-party-clause-wired c).After-replace-outlets in
    subst (λ os. IsWired (wiring c.loop-party.party c.args.parties os)) (outs d) (row_wired c.args.parties (rows_of c.args.rows.items) c.requires c.loop-party.party (below d))

pub new-requires-in-loop-party-clause-posted : goal.new-requires-in-loop-party-clause-posted
new-requires-in-loop-party-clause-posted c =
    let d = (goal.at.new-requires-in-loop-party-clause-posted c).After-replace-outlets in
    ap posted_at (sym (outs d)) ∙ (row_empty c.args.parties (rows_of c.args.rows.items) c.requires c.loop-party.party (below d)).0

pub new-requires-in-loop-party-clause-taken : goal.new-requires-in-loop-party-clause-taken
new-requires-in-loop-party-clause-taken c =
    let d = (goal.at.new-requires-in-loop-party-clause-taken c).After-replace-outlets in
    ap (λ os. taken_at os c.loop-party.party) (sym (outs d)) ∙ (row_empty c.args.parties (rows_of c.args.rows.items) c.requires c.loop-party.party (below d)).1

pub loop-party-preserved : goal.loop-party-preserved
loop-party-preserved c =
    let d = (goal.at.loop-party-preserved c).After-replace-outlets in
    let k = c.loop-party.party in
    let i = c.loop-party.invariant in
    record {
      ends = EndsTo-push c.in_ok-new.field-0 i.ends (subst (λ os. IsEnd c.args.parties k os c.in_ok-new.field-0) (sym (outs d)) c.in_ok-new.ensures) c.in_ok-push.ensures.items;
      count = length-set c.loop-party.rows.items _ _ ∙ i.count;
      rows = λ j h.
          let other : j ≢ c.from.result = λ e. absurd (omega (arith, e, h, c.from.ensures)) in
          ap (λ rs. row_at rs j) (map-set (λ v. map side v.items) c.loop-party.rows.items c.from.result _) ∙ get_or-set_other (rows_of c.loop-party.rows.items) c.from.result j _ [] other ∙ i.rows j (omega arith);
    }
