-- What the environment posts is what the lines ask for.
use Rattle.std.proofs.Common.{◌≡◌, ℕ, ◌+◌, List, [], ◌∷◌, ◌++◌, map, drop, length, refl, sym, ap, ◌∙◌, append-nil}
use Rattle.room_kinds.specs.declared.message.Msg.{Msg}
use Rattle.journal.specs.declared.entry.Entry.{Entry}
use Rattle.room_wiring.specs.declared.tables.Tables.{Tables}
use Rattle.inject_reader.specs.declared.inject_lines.accepted.Line.{Line as Asked}
use Rattle.inject_reader.specs.declared.inject_lines.accepted.What.{What}
use Rattle.inject_reader.specs.declared.inject_lines.accepted.What.TheVariants as whats
use Rattle.actor_merge.specs.Parties.{Line, Plant}
use Rattle.actor_world.specs.Journals.{lines_from, lines_of}
use Rattle.model_run.specs.part_posts.Items.{item_of, items_of}
use Rattle.law_runs.specs.Lines.{asked_by, asked, as_asked, posted_as_asked}
use Rattle.law_runs.specs.Mail.{IsPrefix}
use Rattle.law_runs.proofs.Lines.{PostsLines, said}

-- the lines of the world ask for what the lines of the text do
lines_asked : (t : Tables) (lines : List Asked) (part : ℕ) → map (λ (l : Line). as_asked l.message) (lines_from part (items_of t lines)) ≡ asked t lines
lines_asked t [] part = refl
lines_asked t (l ∷ lines) part = go l.what (lines_asked t lines)
  where
    go : (w : What) → ((part : ℕ) → map (λ (l : Line). as_asked l.message) (lines_from part (items_of t lines)) ≡ asked t lines)
        → map (λ (l : Line). as_asked l.message) (lines_from part (item_of t l.number w ∷ items_of t lines)) ≡ asked_by t w ++ asked t lines
    go whats.Settle ih = ih (part + 1)
    go (whats.Advance time) ih = ih (part + 1)
    go (whats.Message target signal payload prio) ih = ap (λ (z : List Msg). asked_by t (whats.Message target signal payload prio) ++ z) (ih part)

module _ {B : Type 0} (plant : Plant B) (t : Tables) (lines : List Asked) (are : plant.lines ≡ lines_of (items_of t lines)) (es : List Entry) (end : ℕ) (posts : PostsLines plant 0 es end) where
  all_said : posted_as_asked es ++ map (λ (l : Line). as_asked l.message) (drop end plant.lines) ≡ asked t lines
  all_said =
      said plant as_asked (λ party stamp m. refl) es 0 end posts
      ∙ ap (λ (z : List Line). map (λ (l : Line). as_asked l.message) z) are
      ∙ lines_asked t lines 1

  pub in_order : IsPrefix (posted_as_asked es) (asked t lines)
  in_order = record { rest = map (λ (l : Line). as_asked l.message) (drop end plant.lines); whole = all_said }

  dropped_all : {X : Type 0} (xs : List X) → drop (length xs) xs ≡ []
  dropped_all [] = refl
  dropped_all (x ∷ xs) = dropped_all xs

  pub all_asked : end ≡ length plant.lines → posted_as_asked es ≡ asked t lines
  all_asked whole =
      sym (append-nil (posted_as_asked es))
      ∙ ap (λ (z : List Line). posted_as_asked es ++ map (λ (l : Line). as_asked l.message) z) (sym (ap (λ (n : ℕ). drop n plant.lines) whole ∙ dropped_all plant.lines))
      ∙ all_said
