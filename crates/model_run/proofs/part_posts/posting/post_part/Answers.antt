use Rattle.std.proofs.Common.{◌≡◌, ℕ, length, sym, ap, subst, arith}
use Rattle.room_kinds.specs.declared.message.Msg.{Msg}
use Rattle.mail_core.proofs.Tied.{IsTied-step, StaysTied-step, StaysTied-refl}
use Rattle.model_run.specs.part_posts.Posting.{PostsUpTo}
use Rattle.model_run.proofs.part_posts.FitLaw.{message_fits, slot_there}
use Rattle.model_run.proofs.part_posts.PostLaw.{none_posted, one_posted, message_read}
use Rattle.model_run.proofs.part_posts.posting.post_part.Goals as goal

pub loop-at-init : goal.loop-at-init
loop-at-init g c = record { posts = none_posted c.args.plant.now c.args.part.now c.args.environment.now (g.M.Mail.log c.args.end.now); tied = StaysTied-refl }

pub returns-clause-ok : goal.returns-clause-ok
returns-clause-ok g c =
    let all : c.loop-at.at ≡ length c.args.part.now = omega arith in
    subst (λ (z : ℕ). PostsUpTo c.args.plant.now c.args.part.now z c.args.environment.now c.loop-at.environment (g.M.Mail.log c.args.end.now) (g.M.Mail.log c.loop-at.end)) all c.loop-at.invariant.posts

pub message_from_outside-requires : goal.message_from_outside-requires
message_from_outside-requires g c =
    slot_there c.args.plant.now.wiring c.in-Message.target c.in-Message.signal c.in-Message.payload c.in-Message.prio.0
    (message_fits c.args.plant.now.wiring c.args.part.now c.loop-at.at c.index-part-at.result c.in-Message.target c.in-Message.signal c.in-Message.payload c.in-Message.prio
    c.index-part-at.is c.loop-at-test.true c.in-Message.is c.requires.fits)

pub post-requires-clause-least : goal.post-requires-clause-least
post-requires-clause-least g c =
    let least = (message_fits c.args.plant.now.wiring c.args.part.now c.loop-at.at c.index-part-at.result c.in-Message.target c.in-Message.signal c.in-Message.payload c.in-Message.prio
    c.index-part-at.is c.loop-at-test.true c.in-Message.is c.requires.fits).least in
    let same : c.in_ok-m.m.prio.0 ≡ c.in-Message.prio.0 = ap (λ (z : Msg). z.prio.0) c.in_ok-m.ensures.ok in
    omega (arith, least, same)

pub post-requires-clause-most : goal.post-requires-clause-most
post-requires-clause-most g c =
    let most = (message_fits c.args.plant.now.wiring c.args.part.now c.loop-at.at c.index-part-at.result c.in-Message.target c.in-Message.signal c.in-Message.payload c.in-Message.prio
    c.index-part-at.is c.loop-at-test.true c.in-Message.is c.requires.fits).most in
    let same : c.in_ok-m.m.prio.0 ≡ c.in-Message.prio.0 = ap (λ (z : Msg). z.prio.0) c.in_ok-m.ensures.ok in
    omega (arith, most, same)

pub post-requires-clause-tied : goal.post-requires-clause-tied
post-requires-clause-tied g c = IsTied-step c.requires.tied c.loop-at.invariant.tied (sym c.loop-at.invariant.posts.end.party)

pub returns-in_err-post-clause-tied : goal.returns-in_err-post-clause-tied
returns-in_err-post-clause-tied g c = StaysTied-step c.loop-at.invariant.tied c.post.ensures.tied (sym c.loop-at.invariant.posts.end.party)

pub loop-at-preserved : goal.loop-at-preserved
loop-at-preserved g c =
    let here = message_read c.args.plant.now c.args.part.now c.loop-at.at c.index-part-at.result c.in-Message.target c.in-Message.signal c.in-Message.payload c.in-Message.prio c.in_ok-m.m
    c.index-part-at.is c.loop-at-test.true c.in-Message.is c.in_ok-m.ensures.ok in
    let fits = message_fits c.args.plant.now.wiring c.args.part.now c.loop-at.at c.index-part-at.result c.in-Message.target c.in-Message.signal c.in-Message.payload c.in-Message.prio
    c.index-part-at.is c.loop-at-test.true c.in-Message.is c.requires.fits in
    let least = fits.least in
    let most = fits.most in
    let same : c.in_ok-m.m.prio.0 ≡ c.in-Message.prio.0 = ap (λ (z : Msg). z.prio.0) c.in_ok-m.ensures.ok in
    record {
      posts = one_posted c.args.plant.now c.args.part.now c.loop-at.at c.index-part-at.result.number c.args.environment.now c.loop-at.environment
          (g.M.Mail.log c.args.end.now) (g.M.Mail.log c.loop-at.end) c.in_ok-m.m c.loop-at.invariant.posts here c.in_ok-m.ensures.to (omega (arith, most, same)) (omega (arith, least, same)) c.post.new.self (g.M.Mail.log c.post.new.end)
          c.in_ok-post.ensures.ok;
      tied = StaysTied-step c.loop-at.invariant.tied c.post.ensures.tied (sym c.loop-at.invariant.posts.end.party);
    }
