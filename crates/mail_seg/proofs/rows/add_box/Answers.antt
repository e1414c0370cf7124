use Rattle.std.proofs.Common.{◌≡◌, ◌+◌, ◌<◌, ◌≤◌, ◌∷◌, ◌++◌, [], ap, sym, subst, ◌∙◌, set, map, length, arith}
use Rattle.std.proofs.lemmas.Result.{on_ok_weaker}
use Rattle.std.proofs.lemmas.List.{length-map}
use Rattle.mail_seg.specs.Sides.{Side, side, first_side, poster_side, idle_side, keeping_side}
use Rattle.mail_seg.specs.Wires.{poster_count}
use Rattle.mail_seg.specs.Rows.{rows_of, row_at, Dealt, reader_side}
use Rattle.mail_seg.proofs.PosterLemmas.{count-most, controller-posts}
use Rattle.mail_seg.proofs.RowLemmas.{AddedBox-from}
use Rattle.mail_seg.proofs.rows.add_box.Goals as goal

pub returns : goal.returns
returns c =
    let n = c.args.parties in
    let r = c.args.receiver in
    let p = c.args.prio in
    let own = c.in_ok-own.own in
    let q = (side own).queue in
    let rows0 = rows_of c.args.rows.now.items in
    let rows1 = rows_of c.deal.new.rows.items in
    let rows2 = rows_of c.deal-2.new.rows.items in
    let rows3 = rows_of c.give_idle.new.rows.items in
    let posters = λ (x : Side). poster_side x.to x.prio x.queue in
    let one : side c.deal.new.own ≡ record (first_side r p q) { next = r } = c.in_ok-deal.ensures.own ∙ ap (λ (x : Side). record x { next = r }) c.in_ok-own.ensures in
    let two : side c.keep_next.new.self ≡ keeping_side (record (first_side r p q) { next = r }) = c.in_ok-idle.ensures.kept ∙ ap keeping_side one in
    let idle : side c.in_ok-idle.idle ≡ idle_side r p q = c.in_ok-idle.ensures.split ∙ ap (λ (x : Side). idle_side x.to x.prio x.queue) one in
    let three : side c.deal-2.new.own ≡ reader_side n r p q =
    c.in_ok-deal-2.ensures.own ∙ ap (λ (x : Side). record x { next = c.poster_count.result }) two ∙ ap (λ (k : _). record (keeping_side (record (first_side r p q) { next = r })) { next = k }) c.poster_count.ensures in
    let before : Dealt 0 r (poster_side r p q) rows0 rows1 = subst (λ f. Dealt 0 r f rows0 rows1) (ap posters c.in_ok-own.ensures) c.in_ok-deal.ensures.dealt in
    let after : Dealt (r + 1) (poster_count n p) (poster_side r p q) rows1 rows2 =
    subst (λ m. Dealt (r + 1) m (poster_side r p q) rows1 rows2) c.poster_count.ensures
    (subst (λ f. Dealt (r + 1) c.poster_count.result f rows1 rows2) (ap posters two) c.in_ok-deal-2.ensures.dealt) in
    let others : Dealt (poster_count n p) n (λ s. idle_side r p q) rows2 rows3 = subst (λ x. Dealt (poster_count n p) n (λ s. x) rows2 rows3) idle c.in_ok-give_idle.ensures in
    on_ok_weaker c.give.result
    (λ e. (q, AddedBox-from n r p q rows0 rows1 rows2 rows3 (rows_of c.give.new.rows.items) c.requires.receiver (length-map c.args.rows.now.items (λ v. map side v.items) ∙ c.requires.rows) before after others (e ∙ ap (λ x. set rows3 r (row_at rows3 r ++ x ∷ [])) three)))
    c.give.ensures
