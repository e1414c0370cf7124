use Rattle.std.proofs.Common.{◌≡◌, ◌≢◌, ℕ, ◌+◌, ◌-◌, ◌++◌, List, [], ap, ◌∙◌, arith, drop}
use Rattle.std.proofs.lemmas.List.{get_or-set_other}
use Rattle.mail_seg.specs.Sides.{Sent, Side, side}
use Rattle.mail_seg.specs.Ends.{side_at}
use Rattle.mail_seg.specs.Rows.{row_at}
use Rattle.mail_seg.specs.Left.{queues_of, pass_at, gathered}
use Rattle.mail_seg.proofs.LeftLemmas.{gathered-same}
use Rattle.mail_seg.proofs.drain.whole.Goals as goal

pub returns-clause-pass : goal.returns-clause-pass
returns-clause-pass c =
    let n = c.args.parties in
    let r = c.args.receiver in
    let rows0 = queues_of c.args.rows.now.items in
    let rows1 = queues_of c.front-own.new.rows.items in
    let rows2 = queues_of c.take_in.new.rows.items in
    let f0 = pass_at rows0 0 in
    let one = λ (s : ℕ) (other : s ≢ r). ap (λ rs. row_at rs s) c.front-own.ensures.rows ∙ get_or-set_other rows0 r s (drop 1 (row_at rows0 r)) [] other in
    let before : gathered (pass_at rows1 0) 0 r ≡ gathered f0 0 r = gathered-same (pass_at rows1 0) f0 0 r (λ s h l. ap (λ x. side_at x 0) (one s (λ e. absurd (omega arith)))) in
    let after : gathered (pass_at rows2 0) (r + 1) (n - (r + 1)) ≡ gathered f0 (r + 1) (n - (r + 1)) =
    gathered-same (pass_at rows2 0) f0 (r + 1) (n - (r + 1)) (λ s h l. ap (λ x. side_at x 0) (c.take_in.ensures.fronts.above s (omega arith) ∙ one s (λ e. absurd (omega arith)))) in
    let all : r - 0 ≡ r = omega arith in
    let own : side c.take_in.new.own ≡ record (f0 r) { posts = (f0 r).posts ++ gathered f0 0 r } =
    c.take_in.ensures.own ∙ ap (λ (k : ℕ). record (side c.front-own.result) { posts = (side c.front-own.result).posts ++ gathered (pass_at rows1 0) 0 k }) all ∙ ap (λ (x : Side). record x { posts = x.posts ++ gathered (pass_at rows1 0) 0 r }) c.front-own.ensures.pass ∙ ap (λ (l : List Sent). record (f0 r) { posts = (f0 r).posts ++ l }) before in
    c.take_in-2.ensures.own
    ∙ ap (λ (x : Side). record x { posts = x.posts ++ gathered (pass_at rows2 0) (r + 1) (n - (r + 1)) }) own
    ∙ ap (λ (l : List Sent). record (f0 r) { posts = ((f0 r).posts ++ gathered f0 0 r) ++ l }) after
