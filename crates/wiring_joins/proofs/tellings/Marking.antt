-- One more mark.
use Rattle.std.proofs.Common.{◌≡◌, ◌∙◌, ℕ, ◌+◌, ◌*◌, ◌<◌, ◌==◌, ◌&&◌, true, length, set, sym, ap, arith}
use Rattle.std.proofs.lemmas.List.{length-set}
use Rattle.wiring_joins.specs.tellings.Marked.{marked, IsFor, Marking}
use Rattle.wiring_joins.specs.declared.tellings.marks.Marks.{Marks}
use Rattle.wiring_joins.proofs.tellings.Cells.{all_marked, one_marked}

module _ (n k : ℕ) (before after : Marks) (size : IsFor n k before) (width : after.controllers ≡ before.controllers) where
  -- all controllers are marked
  pub marking_all : (slot : ℕ) → slot < length before.everyone.items → after.each ≡ before.each → after.everyone.items ≡ set before.everyone.items slot true → Marking n k (λ s d. slot == s) before after
  unfolding marked
  marking_all slot lt each everyone = record {
    size = record { width = width ∙ size.width; everyone = ap length everyone ∙ length-set before.everyone.items slot true ∙ size.everyone; each = ap (λ v. length v.items) each ∙ size.each };
    marks = λ s d sn dk. rw (everyone, each, width) (all_marked slot s before.everyone.items _ lt);
  }

  -- one controller is marked
  pub marking_one : (slot c cell : ℕ) → cell ≡ slot * before.controllers + c → c < before.controllers → cell < length before.each.items → after.everyone ≡ before.everyone → after.each.items ≡ set before.each.items cell true → Marking n k (λ s d. (slot == s) && (c == d)) before after
  unfolding marked
  marking_one slot c cell is ck lt everyone each = record {
    size = record { width = width ∙ size.width; everyone = ap (λ v. length v.items) everyone ∙ size.everyone; each = ap length each ∙ length-set before.each.items cell true ∙ size.each };
    marks = λ s d sn dk.
        let narrow : d < before.controllers = omega arith in
        let whole : length before.each.items ≡ n * before.controllers = size.each ∙ ap (λ (w : ℕ). n * w) (sym size.width) in
        rw (everyone, each, width, is) (one_marked slot c s d n before.controllers before.each.items _ whole ck (omega arith) sn narrow);
  }
