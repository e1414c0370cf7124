-- A text has one list of journals, and untied journals have one first fetch that is tied to no post.
use Rattle.std.proofs.Common.{◌≡◌, ℕ, ◌<◌, List, [], ◌∷◌, ◌++◌, Option, None, refl, sym, ap, ◌∙◌, subst, ◌⊎◌, inl, inr}
use Rattle.std.proofs.lemmas.Bool.{cases_order}
use Rattle.room_kinds.specs.declared.numbers.ControllerId.{ControllerId}
use Rattle.room_kinds.specs.declared.numbers.Stamp.{Stamp}
use Rattle.room_kinds.specs.declared.message.Msg.{Msg}
use Rattle.room_wiring.specs.Consistent.{IsConsistent}
use Rattle.room_wiring.specs.WellNamed.{IsWellNamed}
use Rattle.room_wiring.specs.declared.tables.Tables.{Tables}
use Rattle.journal.specs.Fits.{Fits}
use Rattle.journal.specs.declared.entry.Entry.{Entry}
use Rattle.journal.specs.declared.entry.Entry.TheVariants as entries
use Rattle.journal.specs.declared.entry.Journals.{Journals}
use Rattle.tied_journals.specs.Tied.{journal_of, fetched_at, IsTiedEntry, AreTied, Tied}
use Rattle.tied_journals.specs.Text.{tied_text_of}
use Rattle.tied_journals.specs.Untied.{last_fetched, IsUntied, IsFirstUntiedIn, party_number, IsFirstUntied}
use Rattle.journal_reader.specs.Answer.{IsTextOf}
use Rattle.journal_reader.specs.journal_texts.InRange.{IsInRange}
use Rattle.journal_reader.proofs.journal_texts.JournalsBack.{texts_differ}
use Rattle.journal_reader.proofs.journal_texts.FormsApart.{tied_texts_differ, forms_differ}
use Rattle.law_models.proofs.settled_models.Wired.{wiring_consistent}
use Rattle.law_models.proofs.wiring_laws.chart_state_names.Models.{sound_well_named}
use Rattle.room_run.specs.Conversions.{ConversionsKeepJournals}
use Rattle.room_run.specs.Models.{IsSound, IsSoundText}
use Rattle.room_run.proofs.Names.{names_read}
use Rattle.chart_model.specs.Chart.{Chart}

-- ---- one list of journals

pub text_well_named : (text : List ℕ) (t : Tables) (charts : List (Option Chart)) → IsSoundText text t charts → IsWellNamed t
text_well_named text t charts s = sound_well_named s.tree t charts s.sound.keeps (names_read text s.tree s.read) s.sound.faultless s.sound.wired.wired

pub well_named : (text : List ℕ) (t : Tables) → IsSound text t → IsWellNamed t
well_named text t s = text_well_named text t s.charts s.is

pub consistent : (text : List ℕ) (t : Tables) → IsSound text t → IsConsistent t
consistent text t s = wiring_consistent s.is.tree t s.is.sound.wired.wired s.is.sound.keeps s.is.sound.wired.flawless

pub same_journals : (model : List ℕ) (t : Tables) (text : List ℕ) (i j : Journals) → IsSound model t → Fits t i → IsInRange i → IsTextOf t i text
    → Fits t j → IsInRange j → IsTextOf t j text → i ≡ j
same_journals model t text i j sound fit_i range_i is_i fit_j range_j is_j = go is_i is_j
  where
    go : IsTextOf t i text → IsTextOf t j text → i ≡ j
    go (inl a) (inl b) =
        texts_differ t i j (record { named = well_named model t sound; slots = (consistent model t sound).slots_numbered; controllers = (consistent model t sound).controllers_numbered })
        fit_i range_i fit_j range_j (a ∙ sym b)
    go (inl a) (inr b) = absurd (forms_differ t i j (a ∙ sym b.text))
    go (inr a) (inl b) = absurd (forms_differ t j i (b ∙ sym a.text))
    go (inr a) (inr b) =
        tied_texts_differ t i j (consistent model t sound) (well_named model t sound) fit_i range_i a.tied fit_j range_j b.tied (a.text ∙ sym b.text)

-- journals of a text, written again in form 2, are told by what is written
pub conversions_keep : ConversionsKeepJournals
conversions_keep model t text j sound h =
    let is : IsTextOf t j (tied_text_of t j) = inr (record { tied = h.tied; text = refl }) in
    (is, λ other fit range same. same_journals model t (tied_text_of t j) other j sound fit range same h.has.fit h.has.in_range is)

-- ---- one first fetch that is tied to no post

module _ (j : Journals) where
  -- an entry that isn't tied is none of tied ones
  not_tied : (before : Option ℕ) (e : Entry) (stamp : Stamp) → IsUntied j before e stamp → IsTiedEntry j before e → ⊥
  not_tied before e stamp u h = u.untied (subst (IsTiedEntry j before) u.is h)

  none_untied : (before : Option ℕ) (front : List Entry) (e : Entry) (behind : List Entry) (stamp : Stamp) → AreTied j before (front ++ e ∷ behind)
      → IsUntied j (last_fetched before front) e stamp → ⊥
  none_untied before [] e behind stamp h u = not_tied before e stamp u h.0
  none_untied before (x ∷ front) e behind stamp h u = none_untied (fetched_at x) front e behind stamp h.1 u

  same_stamp : (a b : Entry) (x y : Stamp) (m k : Msg) → a ≡ b → a ≡ entries.Fetch x m → b ≡ entries.Fetch y k → x ≡ y
  same_stamp a b x y m k e f g = let both : entries.Fetch x m ≡ entries.Fetch y k = sym f ∙ e ∙ g in cc

  one_first : (before : Option ℕ) (front other : List Entry) (e d : Entry) (behind after : List Entry) (x y : Stamp) → front ++ e ∷ behind ≡ other ++ d ∷ after
      → AreTied j before front → AreTied j before other → IsUntied j (last_fetched before front) e x → IsUntied j (last_fetched before other) d y → x ≡ y
  one_first before [] [] e d behind after x y same h k u v =
      let one : e ≡ d = cc in same_stamp e d x y u.message v.message one u.is v.is
  one_first before [] (z ∷ other) e d behind after x y same h k u v =
      let one : z ≡ e = cc in absurd (not_tied before e x u (subst (IsTiedEntry j before) one k.0))
  one_first before (z ∷ front) [] e d behind after x y same h k u v =
      let one : z ≡ d = cc in absurd (not_tied before d y v (subst (IsTiedEntry j before) one h.0))
  one_first before (z ∷ front) (w ∷ other) e d behind after x y same h k u v =
      let one : w ≡ z = cc in
      let rest : front ++ e ∷ behind ≡ other ++ d ∷ after = cc in
      one_first (fetched_at z) front other e d behind after x y rest h.1 (subst (λ (p : Entry). AreTied j (fetched_at p) other) one k.1) u
      (subst (λ (p : Entry). IsUntied j (last_fetched (fetched_at p) other) d y) one v)

  first_in : (es : List Entry) (x y : Stamp) → IsFirstUntiedIn j None es x → IsFirstUntiedIn j None es y → x ≡ y
  first_in es x y h k = one_first None h.front k.front h.entry k.entry h.behind k.behind x y (sym h.stands ∙ k.stands) h.tied k.tied h.untied k.untied

  tied_first : (es : List Entry) (x : Stamp) → AreTied j None es → IsFirstUntiedIn j None es x → ⊥
  tied_first es x h k = none_untied None k.front k.entry k.behind x (subst (AreTied j None) k.stands h) k.untied

  pub same_first : (c d : ControllerId) (x y : Stamp) → IsFirstUntied j c x → IsFirstUntied j d y → (c ≡ d) × (x ≡ y)
  same_first c d x y h k = go (cases_order h.party k.party)
    where
      go : (h.party ≡ k.party) ⊎ ((h.party < k.party) ⊎ (k.party < h.party)) → (c ≡ d) × (x ≡ y)
      go (inl same) = (
        h.number ∙ ap party_number same ∙ sym k.number,
        first_in (journal_of j k.party) x y (subst (λ (p : ℕ). IsFirstUntiedIn j None (journal_of j p) x) same h.first) k.first,
      )
      go (inr (inl below)) = absurd (tied_first (journal_of j h.party) x (k.earlier h.party below) h.first)
      go (inr (inr above)) = absurd (tied_first (journal_of j k.party) y (h.earlier k.party above) k.first)

  -- tied journals have none
  pub none_first : Tied j → (c : ControllerId) (x : Stamp) → IsFirstUntied j c x → ⊥
  none_first h c x k = tied_first (journal_of j k.party) x (h.entries k.party) k.first
