use Rattle.std.proofs.Common.{◌≡◌, ◌≤◌, ◌++◌, [], length, map, ap, sym, ◌∙◌, arith}
use Rattle.std.proofs.lemmas.Result.{on_ok_weaker}
use Rattle.std.proofs.lemmas.List.{get_or-replicate, length-map, length-replicate}
use Rattle.mail_seg.specs.Sides.{Side, side}
use Rattle.mail_seg.specs.Left.{queues_of, pass_at, lists_of, list_at}
use Rattle.mail_seg.proofs.LeftLemmas.{settled, listed, next-most}
use Rattle.mail_seg.proofs.drain.drain_box.Goals as goal

pub drain-requires-clause-lists : goal.drain-requires-clause-lists
drain-requires-clause-lists g c =
    let n = c.args.parties in
    let f = pass_at (queues_of c.args.rows.now.items) 0 in
    let most : (f c.args.receiver).next ≤ n = next-most n c.args.receiver f c.requires.is_box c.requires.receiver in
    let own : (side c.whole-own.result).next ≡ (f c.args.receiver).next = ap (λ (a : Side). a.next) c.whole-own.ensures.pass in
    let listed : length (lists_of c.in_ok-lists.lists.items) ≡ n = ap length c.in_ok-lists.ensures ∙ length-replicate n [] in
    let count : length c.in_ok-lists.lists.items ≡ n = sym (length-map c.in_ok-lists.lists.items (λ v. v.items)) ∙ listed in
    omega (arith, own, most, count)

pub returns-clause-settled : goal.returns-clause-settled
returns-clause-settled g c =
    on_ok_weaker c.append_all.result
    (λ e. settled c.args.parties c.args.receiver (pass_at (queues_of c.args.rows.now.items) 0) c.requires.is_box c.requires.receiver (side c.whole-own.result) (side c.drain.new.own) c.whole-own.ensures.pass
    (lists_of c.in_ok-lists.lists.items) (lists_of c.drain.new.lists.items) c.in_ok-drain.ensures)
    c.append_all.ensures

pub returns-clause-list : goal.returns-clause-list
returns-clause-list g c =
    let empty = c.in_ok-lists.ensures in
    on_ok_weaker c.append_all.result
    (λ e. e ∙ ap (λ ms. c.args.list.now.items ++ ms) (listed c.args.parties c.args.receiver (pass_at (queues_of c.args.rows.now.items) 0) c.requires.is_box c.requires.receiver (side c.whole-own.result) (side c.drain.new.own) c.whole-own.ensures.pass
    (lists_of c.in_ok-lists.lists.items) (lists_of c.drain.new.lists.items) c.in_ok-drain.ensures
    (ap length empty ∙ length-replicate c.args.parties []) (λ s h. ap (λ ls. list_at ls s) empty ∙ get_or-replicate c.args.parties s [] [] h)))
    c.append_all.ensures
