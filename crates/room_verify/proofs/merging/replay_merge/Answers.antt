use Rattle.std.proofs.Common.{◌≡◌, ◌∙◌, ℕ, true, false, List, length, refl, sym, ap, arith}
use Rattle.room_verify.specs.Merging.{is_up_to}
use Rattle.room_verify.proofs.MergingLaw.{is_refused, reads_head}
use Rattle.room_verify.proofs.UntilLaw.{all_up_to, up_to_here, passed_on}
use Rattle.room_verify.proofs.merging.replay_merge.Goals as goal

pub loop-entry-init : goal.loop-entry-init
loop-entry-init c = c.requires.passed

pub next_head-requires : goal.next_head-requires
next_head-requires c =
    let same : length c.as_slice.result.now ≡ length c.loop-entry.passed.items = ap (λ (z : List ℕ). length z) c.as_slice.ensures.value in
    omega (arith, same, c.loop-entry.invariant.passing.count, c.requires.count)

pub returns-in_default : goal.returns-in_default
returns-in_default c =
    all_up_to c.args.plant.now c.args.lines.now c.args.j.now c.args.until c.loop-entry.passed.items c.loop-entry.replay c.loop-entry.invariant c.requires.count
    c.as_slice.result.now c.next_head.result c.as_slice.ensures.value c.in_default.is c.next_head.ensures

pub returns-then-not-is_up_to : goal.returns-then-not-is_up_to
returns-then-not-is_up_to c =
    let late : is_up_to c.args.until c.in-Some.head.stamp ≡ false = sym c.is_up_to.ensures ∙ c.if-not-is_up_to.true in
    up_to_here c.args.plant.now c.args.lines.now c.args.j.now c.args.until c.loop-entry.passed.items c.loop-entry.replay c.loop-entry.invariant c.requires.count
    c.as_slice.result.now c.next_head.result c.in-Some.head c.as_slice.ensures.value c.in-Some.is c.next_head.ensures late

pub returns-then-not-branch : goal.returns-then-not-branch
returns-then-not-branch c =
    let e = c.index-journal_of-at.result in
    let up : is_up_to c.args.until c.in-Some.head.stamp ≡ true = sym c.is_up_to.ensures ∙ c.if-not-is_up_to.false in
    let h =
    reads_head c.args.j.now c.loop-entry.passed.items c.as_slice.result.now c.next_head.result c.in-Some.head c.journal_of.result.now c.index-at.result.now e
    c.as_slice.ensures.value c.in-Some.is c.next_head.ensures c.index-at.ensures c.journal_of.ensures c.index-journal_of-at.is in
    let refusal =
    is_refused c.args.plant.now c.args.lines.now c.args.j.now c.loop-entry.passed.items c.loop-entry.replay c.loop-entry.invariant.passing c.requires.count c.in-Some.head.party e
    h.first (record { 0 = c.in-Some.head.party }) (record { 0 = c.in-Some.head.stamp }) refl (sym h.stamp) (c.in_ok-step.ensures.refused c.if-not-branch.true) in
    (refusal, up)

pub loop-entry-preserved : goal.loop-entry-preserved
loop-entry-preserved c =
    let e = c.index-journal_of-at.result in
    let up : is_up_to c.args.until c.in-Some.head.stamp ≡ true = sym c.is_up_to.ensures ∙ c.if-not-is_up_to.false in
    let h =
    reads_head c.args.j.now c.loop-entry.passed.items c.as_slice.result.now c.next_head.result c.in-Some.head c.journal_of.result.now c.index-at.result.now e
    c.as_slice.ensures.value c.in-Some.is c.next_head.ensures c.index-at.ensures c.journal_of.ensures c.index-journal_of-at.is in
    passed_on c.args.plant.now c.args.lines.now c.args.j.now c.args.until c.loop-entry.passed.items c.loop-entry.replay c.loop-entry.invariant c.requires.count c.in-Some.head.party e
    h.first c.step.new.self c.index-at.result.now h.place (ap (λ (k : ℕ). is_up_to c.args.until k) h.stamp ∙ up) (c.in_ok-step.ensures.steps c.if-not-branch.false)
    (c.in_ok-step.ensures.replays c.if-not-branch.false)
