use Rattle.std.proofs.Common.{◌≡◌, ◌<◌, length, refl, ap, ◌∙◌, sym, arith, List, ℕ, ◌∷◌, take, ◌-◌, drop}
use Rattle.std.specs.Str.Lines.{lines}
use Rattle.std.proofs.lemmas.Bool.Decides.{nat_tests}
use Rattle.inject_reader.proofs.LineCuts.{no_line, ended_line, last_line}
use Rattle.inject_reader.proofs.lines.first_line.Goals as goal

pub returns-then-is_empty-clause-cut : goal.returns-then-is_empty-clause-cut
returns-then-is_empty-clause-cut c =
    let none : length c.args.bytes.now ≡ 0 = grind (arith, nat_tests) in
    no_line c.args.bytes.now none

pub returns-in-empty-clause-cut : goal.returns-in-empty-clause-cut
returns-in-empty-clause-cut c =
    let some : 0 < length c.args.bytes.now = grind (arith, nat_tests) in
    last_line c.args.bytes.now c.split_at.result.0.now c.split_at.result.1.now c.length_before.result some c.length_before.ensures.within c.length_before.ensures.len
    c.split_at.ensures.front c.split_at.ensures.back c.in-empty.len_below

pub returns-in-len1-up-clause-cut : goal.returns-in-len1-up-clause-cut
returns-in-len1-up-clause-cut c =
    let behind = take (length c.split_at.result.1.now - 1) (drop 1 c.split_at.result.1.now) in
    ended_line c.args.bytes.now c.split_at.result.0.now c.split_at.result.1.now behind c.length_before.result c.length_before.ensures.len
    c.split_at.ensures.front c.split_at.ensures.back c.in-len1-up.len_at_least refl
    ∙ ap (λ (x : List ℕ). x ∷ lines behind) (sym c.without_return.ensures)
