use Rattle.std.proofs.Common.{length, List, ap, ◌∙◌, arith}
use Rattle.std.proofs.lemmas.List.FromFn.{length-map-range_with_len}
use Rattle.frame_lives.specs.declared.row.Row.{Row}
use Rattle.frame_service.proofs.frame_start.Started.{row_at, starts_more, rows_more}
use Rattle.frame_service.proofs.frame_start.first_lives.Goals as goal

pub loop-number-preserved : goal.loop-number-preserved
loop-number-preserved c =
    let t = c.args.wiring.now in
    let n = c.loop-number.number in
    let lives = c.lives_from_start-lives.result in record {
      starts = starts_more t n c.loop-number.starts.items c.push-in-loop-number.new.self.items lives c.loop-number.invariant.starts c.lives_from_start-lives.ensures c.in_ok-push-2.ensures.items;
      rows =
          rows_more t c.args.me.0 n c.loop-number.known c.push.new.self c.first_row.result lives c.loop-number.invariant.rows
          c.lives_from_start-lives.ensures c.first_row.ensures c.in_ok-push.ensures;
    }

pub push-requires : goal.push-requires
push-requires c =
    let t = c.args.wiring.now in
    let n = c.loop-number.number in
    let many = ap (λ (rows : List Row). length rows) c.loop-number.invariant.rows ∙ length-map-range_with_len (row_at t c.args.me.0) 0 n in
    omega (arith, many, c.slot_count-number-end.ensures.count, c.slot_count-number-end.ensures.consistent.slots_numbered)
