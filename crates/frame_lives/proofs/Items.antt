-- Items in pages that are lengthened and written.
use Rattle.std.proofs.Common.{◌≡◌, ℕ, ◌+◌, ◌*◌, ◌/◌, ◌%◌, ◌<◌, List, [], length, get_or, set, sym, ap, ◌∙◌, arith, subst, inl, inr}
use Rattle.std.proofs.Math.Path.{fun_ext}
use Rattle.std.specs.Prelude.{slice_set}
use Rattle.std.proofs.lemmas.Bool.{cases_eq}
use Rattle.std.proofs.lemmas.List.{length-set, get_or_read, get_or-set_same, get_or-set_other}
use Rattle.std.proofs.lemmas.Nat.{div-add-mod'}
use Rattle.actor_duties.specs.Words.{updated}
use Rattle.frame_lives.specs.Lengthened.{IsLengthened}
use Rattle.frame_lives.specs.Items.{item_of, page_in, item_in, with_item, IsThere, IsReached}
use Rattle.frame_lives.proofs.Rows.{updated_here, updated_else, updated_same}

-- a place is told by its page and its place in the page
same_place : (s n : ℕ) → s / 32 ≡ n / 32 → s % 32 ≡ n % 32 → s ≡ n
same_place s n p q =
    sym (div-add-mod' s 32) ∙ ap (λ k. k * 32 + s % 32) p ∙ ap (λ k. n / 32 * 32 + k) q ∙ div-add-mod' n 32

-- pages whose page was lengthened
pub page_reached : {T : Type 0} (blank : T) (pages longer : List (List T)) (n : ℕ) (read next : List T) → IsLengthened [] pages longer (n / 32) → read ≡ get_or longer (n / 32) read
    → IsLengthened blank read next (n % 32) → IsReached blank pages (slice_set longer (n / 32) next) n
page_reached {T} blank pages longer n read next l was more =
    record {
      there = record {
        page = let many = length-set longer (n / 32) next in let there = l.there in omega (arith, many, there);
        item = subst (λ (page : List T). n % 32 < length page) (sym put) more.there;
      };
      same = λ i. elim (cases_eq (i / 32) (n / 32)) [
        | inl here ↦
            ap (λ m. item_of blank (get_or (set longer (n / 32) next) m []) (i % 32)) here ∙ ap (λ (page : List T). item_of blank page (i % 32)) put ∙ more.same (i % 32)
            ∙ ap (λ (page : List T). item_of blank page (i % 32)) (get_or_read longer (n / 32) read l.there was [] ∙ l.same (n / 32))
            ∙ ap (λ m. item_of blank (get_or pages m []) (i % 32)) (sym here)
        | inr other ↦
            ap (λ (page : List T). item_of blank page (i % 32)) (get_or-set_other longer (n / 32) (i / 32) next [] other ∙ l.same (i / 32))
      ];
    }
  where
    put : page_in (slice_set longer (n / 32) next) n ≡ next
    put = get_or-set_same longer (n / 32) next [] l.there

-- the items of pages, after one was written
pub written_there : {T : Type 0} (blank : T) (pages : List (List T)) (n : ℕ) (w : T) → IsThere pages n → item_in blank (with_item pages n w) ≡ updated (item_in blank pages) n w
written_there {T} blank pages n w there = fun_ext (λ s.
    elim (cases_eq (s / 32) (n / 32)) [
      | inl here ↦
          ap (λ m. item_of blank (get_or (with_item pages n w) m []) (s % 32)) here
          ∙ ap (λ (page : List T). item_of blank page (s % 32)) (get_or-set_same pages (n / 32) (slice_set (page_in pages n) (n % 32) w) [] there.page)
          ∙ elim (cases_eq (s % 32) (n % 32)) [
            | inl same ↦
                ap (λ m. item_of blank (slice_set (page_in pages n) (n % 32) w) m) same ∙ get_or-set_same (page_in pages n) (n % 32) w blank there.item
                ∙ sym (updated_here (item_in blank pages) n s w (same_place s n here same))
            | inr other ↦
                get_or-set_other (page_in pages n) (n % 32) (s % 32) w blank other
                ∙ ap (λ m. item_of blank (get_or pages m []) (s % 32)) (sym here)
                ∙ sym (updated_else (item_in blank pages) n s w (λ e. other (ap (λ k. k % 32) e)))
          ]
      | inr other ↦
          ap (λ (page : List T). item_of blank page (s % 32)) (get_or-set_other pages (n / 32) (s / 32) (slice_set (page_in pages n) (n % 32) w) [] other)
          ∙ sym (updated_else (item_in blank pages) n s w (λ e. other (ap (λ k. k / 32) e)))
    ])

-- and of pages that were lengthened before
pub written_reached : {T : Type 0} (blank : T) (pages longer : List (List T)) (n : ℕ) (w : T) → IsReached blank pages longer n
    → item_in blank (with_item longer n w) ≡ updated (item_in blank pages) n w
written_reached blank pages longer n w reached =
    written_there blank longer n w reached.there ∙ ap (λ (f : ℕ → _). updated f n w) (fun_ext reached.same)

-- a blank that is written where none was reached changes nothing
pub stays_blank : {T : Type 0} (blank : T) (pages : List (List T)) (n : ℕ) → blank ≡ item_in blank pages n → item_in blank pages ≡ updated (item_in blank pages) n blank
stays_blank blank pages n is = sym (updated_same (item_in blank pages) n blank is)
