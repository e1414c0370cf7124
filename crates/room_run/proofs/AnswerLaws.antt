-- A call has one answer besides want of memory.
use Rattle.std.proofs.Common.{◌≡◌, ℕ, ◌<◌, ◌≤◌, Bool, true, false, if◌then◌else◌, List, [], ◌∷◌, length, Option, Some, None, IfSome, Result, Ok, Err, refl, sym, ap, ap₂, ◌∙◌, subst, arith, ◌⊎◌, inl, inr, ⊎_elim}
use Rattle.std.proofs.lemmas.Bool.{cases_order}
use Rattle.room_outside.specs.Shown.{Shown}
use Rattle.room_ast.specs.Trees.{ModelTree}
use Rattle.room_lexer.specs.declared.token.Token.{Token}
use Rattle.room_tokens.specs.Single.{values}
use Rattle.room_parser.proofs.WhatParsingAnswers.{same_tokens_same_model}
use Rattle.structure_check.specs.Rules.{Rule, first_broken, IsBroken, IsLowest}
use Rattle.structure_check.specs.List.{all_rules, rule_of}
use Rattle.structure_check.specs.declared.flat_rule.FlatRule.{FlatRule}
use Rattle.binding_expand.specs.Faults.{HasNoFault, IsLowestFault, number}
use Rattle.binding_expand.specs.declared.fault.WiringFault.{WiringFault}
use Rattle.binding_expand.proofs.one_wiring.Same.{same_wiring}
use Rattle.chart_reader.specs.model_charts.Charts.{HasCharts, HasFaultyChart}
use Rattle.chart_reader.specs.declared.fault.ChartFault.{ChartFault}
use Rattle.binding_expand.specs.Wirings.{IsWiringOf}
use Rattle.chart_reader.proofs.model_charts.One.{are_one}
use Rattle.room_wiring.specs.declared.tables.Tables.{Tables}
use Rattle.inject_reader.specs.declared.inject_lines.accepted.Advances.{Advances}
use Rattle.inject_reader.specs.declared.inject_lines.accepted.Advances.TheVariants.{Taken, Refused}
use Rattle.inject_reader.specs.declared.inject_lines.accepted.Line.{Line}
use Rattle.inject_reader.specs.LineFaults.{code_of}
use Rattle.inject_reader.specs.declared.line_fault.LineFault.{LineFault}
use Rattle.chart_model.specs.Chart.{Chart}
use Rattle.model_run.specs.part_posts.Items.{items_of}
use Rattle.law_charts.specs.Charts.{behaviour_by_charts}
use Rattle.room_verify.specs.Verdicts.{IsVerdict, lawful}
use Rattle.room_verify.specs.declared.verdict.Verdict.{Verdict}
use Rattle.room_verify.specs.declared.verdict.Verdict.TheVariants as verdicts
use Rattle.room_verify.proofs.OneVerdict.{one_verdict}
use Rattle.room_verify.proofs.RunsLaw.{is_lawful}
use Rattle.room_show.specs.Text.{snapshot_text}
use Rattle.room_show.specs.declared.snapshot.Snapshot.{Snapshot}
use Rattle.room_verify.specs.Shown.{IsEarly, IsShown, IsUnshown}
use Rattle.room_verify.specs.Showing.{charts_observer}
use Rattle.room_verify.proofs.ShownLaw.{one_shown, shown_alone}
use Rattle.controller_actors.specs.declared.plant.Plant.{Plant}
use Rattle.made_model.specs.Texts.{model_text, injections_text}
use Rattle.room_inherit.specs.Flat.{flat}
use Rattle.room_inherit.specs.Rules.{lowest_broken}
use Rattle.room_inherit.specs.BaseRules.{number_of as number_of_base}
use Rattle.room_inherit.specs.declared.base_rule.BaseRule.{BaseRule}
use Rattle.room_kinds.specs.declared.numbers.ControllerId.{ControllerId}
use Rattle.room_kinds.specs.declared.numbers.Stamp.{Stamp}
use Rattle.journal.specs.declared.entry.Journals.{Journals}
use Rattle.tied_journals.specs.Text.{tied_text_of}
use Rattle.tied_journals.specs.Untied.{IsFirstUntied}
use Rattle.room_run.specs.Words.{Files, Record, Judged, Asked, Check, Tree, Run, Convert, Verify, Show, Made, asked_by}
use Rattle.room_run.specs.MadeShelf.{made_files, made_shelf}
use Rattle.room_run.specs.Models.{most_bytes, HasTokens, IsWritten, HasTree, IsSound, IsSoundText, IsModel, IsUncut, HasNoTree, BreaksBaseRule, BreaksRule, HasBadWiring, HasBadChart, SoundCauses, uncut, no_tree, breaks_base_rule, breaks_rule, bad_wiring, bad_chart, no_memory}
use Rattle.room_run.specs.Conversions.{most_journal_bytes, HasJournals, HasTiedJournals, HasNoJournals, HasUntiedJournals}
use Rattle.room_run.specs.Causes.{IsInjections, HasBadLine, TextIs, AreOf, model_unread, model_long, model_no_memory, ModelCauses, no_text, model_refused, InjectionsCauses, injections_unread, injections_long, bad_line, injections_no_memory, RunCauses, of_model, of_injections, run_no_memory, record_unread, record_long, record_no_memory, JournalsCauses, no_record, journals_malformed, journals_no_memory, TiedCauses, journals_refused, journals_untied, ConvertCauses, of_its_model, of_journals, HasRunTexts, IsJudged, UnjudgedCauses, judged_model, judged_injections, judged_journals, VerifyCauses, unjudged, unlawful, verify_no_memory, AreGiven, IsSeen, IsUnseen, ShowCauses, nothing_to_show, unlawful_by_then, show_no_memory, Causes, no_such_words, of_check, of_tree, of_run, of_convert, of_verify, of_show, of_made, status_of}
use Rattle.binding_expand.specs.tree_text.Text.{tree_text}
use Rattle.room_run.specs.Outcome.{accepted, Answers, says_ok, says_tree, says_run, says_converted, says_lawful, says_shown, says_made, lawful_line, AreRecorded, status_of_run, whole, cut_short, refused, refused_unheard}
use Rattle.room_run.specs.OneAnswer.{IsRead, AreRead, IsMemory, SameRefusal, AskForNoRun, CallsHaveOneAnswer, HasModel, HasFiles, HasRecord, HasJudged, AreAccepted, IsEnd, AcceptedCallsEnd}
use Rattle.room_run.specs.Verified.{AreLawful, TellsWhether, out_of_memory, done_where, unlawful_where, VerdictsAreExact}
use Rattle.room_run.specs.Snapshots.{HasSnapshot, ShowsAreExact}
use Rattle.room_run.specs.declared.model_fault.ModelFault.{ModelFault}
use Rattle.room_run.specs.declared.model_fault.ModelFault.TheVariants as faults
use Rattle.room_run.specs.declared.refusal.Refusal.{Refusal}
use Rattle.room_run.specs.declared.refusal.Refusal.TheVariants as refusals
use Rattle.room_run.specs.declared.status.Status.{Status}
use Rattle.room_run.specs.declared.status.Status.TheVariants as statuses
use Rattle.room_run.proofs.JournalLaws.{same_journals, same_first, none_first}
use Rattle.room_run.proofs.OneCut.{not_both_cut, one_fault, one_cut}
use Rattle.room_run.proofs.FaultNumbers.{base_by_number, line_by_code, rule_by_number, wiring_by_number}

-- ---- a text has one tree, and a tree one lowest fault

same_tokens : (text : List ℕ) (a b : List Token) → HasTokens text a → HasTokens text b → a ≡ b
same_tokens text a b h k = h.placed ∙ one_cut text h.pieces k.pieces h.cut k.cut ∙ sym k.placed

same_written : (text : List ℕ) (a b : ModelTree) → IsWritten text a → IsWritten text b → a ≡ b
same_written text a b h k =
    same_tokens_same_model a b (h.spelled ∙ ap (values text) (same_tokens text h.tokens k.tokens h.cut k.cut) ∙ sym k.spelled)

same_tree : (text : List ℕ) (a b : ModelTree) → HasTree text a → HasTree text b → a ≡ b
same_tree text a b h k = h.flat_is ∙ ap flat (same_written text h.written k.written h.is k.is) ∙ sym k.flat_is

no_tokens : (text : List ℕ) (offset : ℕ) (ts : List Token) → IsUncut text offset → HasTokens text ts → ⊥
no_tokens text offset ts h k = not_both_cut text h.cause offset k.pieces h.fails h.within k.cut

not_written : (text : List ℕ) (written : ModelTree) → HasNoTree text → IsWritten text written → ⊥
not_written text written h k = h.none written (k.spelled ∙ ap (values text) (same_tokens text k.tokens h.tokens k.cut h.cut))

no_such_tree : (text : List ℕ) (tree : ModelTree) → HasNoTree text → HasTree text tree → ⊥
no_such_tree text tree h k = not_written text k.written h k.is

-- a text that breaks a rule on bases has no tree
no_flat_tree : (text : List ℕ) (rule : BaseRule) (tree : ModelTree) → BreaksBaseRule text rule → HasTree text tree → ⊥
no_flat_tree text rule tree h k =
    let kept = subst (λ (z : ModelTree). lowest_broken z ≡ None) (same_written text k.written h.written k.is h.is) k.allowed in
    let both : ◌≡◌ {A = Option ℕ} (Some (number_of_base rule)) None = sym h.lowest ∙ kept in absurd cc

some_number : (a b : ℕ) → ◌≡◌ {A = Option ℕ} (Some a) (Some b) → a ≡ b
some_number a b e = cc

same_base_rule : (text : List ℕ) (a b : BaseRule) → BreaksBaseRule text a → BreaksBaseRule text b → a ≡ b
same_base_rule text a b h k =
    let other = subst (λ (z : ModelTree). lowest_broken z ≡ Some (number_of_base b)) (same_written text k.written h.written k.is h.is) k.lowest in
    base_by_number a b (some_number (number_of_base a) (number_of_base b) (sym h.lowest ∙ other))

none_broken : (rs : List Rule) (m : ModelTree) (n : ℕ) → first_broken rs m ≡ None → IsBroken rs m n → ⊥
none_broken [] m n e h = h
none_broken (r ∷ rs) m n e h = go (r.keeps m) refl e h (λ k b. none_broken rs m n k b)
  where
    go : (b : Bool) → r.keeps m ≡ b → (if b then first_broken rs m else Some r.number) ≡ None
        → ((r.number ≡ n) × (r.keeps m ≡ false)) ⊎ IsBroken rs m n
        → (first_broken rs m ≡ None → IsBroken rs m n → ⊥) → ⊥
    go true is k (inl x) more = let no = x.1 in absurd cc
    go true is k (inr x) more = more k x
    go false is k x more = absurd cc

breaks_none : (text : List ℕ) (rule : FlatRule) (tree : ModelTree) → BreaksRule text rule → HasTree text tree
    → first_broken all_rules tree ≡ None → ⊥
breaks_none text rule tree h k keeps =
    none_broken all_rules h.tree (rule_of rule).number (subst (λ (z : ModelTree). first_broken all_rules z ≡ None) (same_tree text tree h.tree k h.read) keeps) h.lowest.0

wired_well : (text : List ℕ) (fault : WiringFault) (tree : ModelTree) → HasBadWiring text fault → HasTree text tree → HasNoFault tree → ⊥
wired_well text fault tree h k none = (subst HasNoFault (same_tree text tree h.tree k h.read) none) fault h.lowest.has

same_rule : (text : List ℕ) (a b : FlatRule) → BreaksRule text a → BreaksRule text b → a ≡ b
same_rule text a b h k =
    let other = subst (λ (z : ModelTree). IsLowest all_rules z (Some (rule_of b).number)) (same_tree text k.tree h.tree k.read h.read) k.lowest in
    let below = h.lowest.1 (rule_of b).number other.0 in
    let above = other.1 (rule_of a).number h.lowest.0 in
    rule_by_number a b (omega (arith, below, above))

same_wiring_fault : (text : List ℕ) (a b : WiringFault) → HasBadWiring text a → HasBadWiring text b → a ≡ b
same_wiring_fault text a b h k = go (cases_order (number a) (number b))
  where
    other : IsLowestFault h.tree b
    other = subst (λ (z : ModelTree). IsLowestFault z b) (same_tree text k.tree h.tree k.read h.read) k.lowest

    go : (number a ≡ number b) ⊎ ((number a < number b) ⊎ (number b < number a)) → a ≡ b
    go (inl is) = wiring_by_number a b is
    go (inr (inl less)) = absurd (other.lowest a less h.lowest.has)
    go (inr (inr more)) = absurd (h.lowest.lowest b more other.has)

-- ---- a text has one fault

abbrev Syntax : ModelFault → Type 0
Syntax f = (line : ℕ) × (f ≡ faults.Syntax line)

-- one of two faults is want of memory, or they are one, but for the line of a text that has no tree
abbrev OneFault : ModelFault → ModelFault → Type 0
OneFault f g = (f ≡ faults.Memory) ⊎ ((g ≡ faults.Memory) ⊎ ((f ≡ g) ⊎ (Syntax f × Syntax g)))

is_one : (f g : ModelFault) → f ≡ g → OneFault f g
is_one f g e = inr (inr (inl e))

module _ (text : List ℕ) where
  one_byte : (offset : ℕ) → IsUncut text offset → (g : ModelFault) → SoundCauses text g → OneFault (faults.Byte offset) g
  one_byte offset h _ (uncut place k) =
      is_one (faults.Byte offset) (faults.Byte place) (ap (λ (n : ℕ). faults.Byte n) (one_fault text h.cause k.cause offset place h.fails h.within k.fails k.within))
  one_byte offset h _ (no_tree line k) = absurd (no_tokens text offset k.tokens h k.cut)
  one_byte offset h _ (breaks_base_rule rule k) = absurd (no_tokens text offset k.is.tokens h k.is.cut)
  one_byte offset h _ (breaks_rule rule k) = absurd (no_tokens text offset k.read.is.tokens h k.read.is.cut)
  one_byte offset h _ (bad_wiring n k) = absurd (no_tokens text offset k.read.is.tokens h k.read.is.cut)
  one_byte offset h _ (bad_chart class n k) = absurd (no_tokens text offset k.read.is.tokens h k.read.is.cut)
  one_byte offset h _ no_memory = inr (inl refl)

  one_syntax : (line : ℕ) → HasNoTree text → (g : ModelFault) → SoundCauses text g → OneFault (faults.Syntax line) g
  one_syntax line h _ (uncut place k) = absurd (no_tokens text place h.tokens k h.cut)
  one_syntax line h _ (no_tree other k) = inr (inr (inr ((line, refl), (other, refl))))
  one_syntax line h _ (breaks_base_rule rule k) = absurd (not_written text k.written h k.is)
  one_syntax line h _ (breaks_rule rule k) = absurd (no_such_tree text k.tree h k.read)
  one_syntax line h _ (bad_wiring n k) = absurd (no_such_tree text k.tree h k.read)
  one_syntax line h _ (bad_chart class n k) = absurd (no_such_tree text k.tree h k.read)
  one_syntax line h _ no_memory = inr (inl refl)

  one_base_rule : (rule : BaseRule) → BreaksBaseRule text rule → (g : ModelFault) → SoundCauses text g → OneFault (faults.Bases rule) g
  one_base_rule rule h _ (uncut place k) = absurd (no_tokens text place h.is.tokens k h.is.cut)
  one_base_rule rule h _ (no_tree other k) = absurd (not_written text h.written k h.is)
  one_base_rule rule h _ (breaks_base_rule other k) =
      is_one (faults.Bases rule) (faults.Bases other) (ap (λ (z : BaseRule). faults.Bases z) (same_base_rule text rule other h k))
  one_base_rule rule h _ (breaks_rule other k) = absurd (no_flat_tree text rule k.tree h k.read)
  one_base_rule rule h _ (bad_wiring n k) = absurd (no_flat_tree text rule k.tree h k.read)
  one_base_rule rule h _ (bad_chart class n k) = absurd (no_flat_tree text rule k.tree h k.read)
  one_base_rule rule h _ no_memory = inr (inl refl)

  one_rule : (rule : FlatRule) → BreaksRule text rule → (g : ModelFault) → SoundCauses text g → OneFault (faults.Rule rule) g
  one_rule rule h _ (uncut place k) = absurd (no_tokens text place h.read.is.tokens k h.read.is.cut)
  one_rule rule h _ (no_tree other k) = absurd (no_such_tree text h.tree k h.read)
  one_rule rule h _ (breaks_base_rule other k) = absurd (no_flat_tree text other h.tree k h.read)
  one_rule rule h _ (breaks_rule other k) =
      is_one (faults.Rule rule) (faults.Rule other) (ap (λ (z : FlatRule). faults.Rule z) (same_rule text rule other h k))
  one_rule rule h _ (bad_wiring n k) = absurd (breaks_none text rule k.tree h k.read k.keeps)
  one_rule rule h _ (bad_chart class n k) = absurd (breaks_none text rule k.tree h k.read k.keeps)
  one_rule rule h _ no_memory = inr (inl refl)

  one_wiring : (n : WiringFault) → HasBadWiring text n → (g : ModelFault) → SoundCauses text g → OneFault (faults.Wiring n) g
  one_wiring n h _ (uncut place k) = absurd (no_tokens text place h.read.is.tokens k h.read.is.cut)
  one_wiring n h _ (no_tree other k) = absurd (no_such_tree text h.tree k h.read)
  one_wiring n h _ (breaks_base_rule rule k) = absurd (no_flat_tree text rule h.tree k h.read)
  one_wiring n h _ (breaks_rule rule k) = absurd (breaks_none text rule h.tree k h.read h.keeps)
  one_wiring n h _ (bad_wiring other k) =
      is_one (faults.Wiring n) (faults.Wiring other) (ap (λ (z : WiringFault). faults.Wiring z) (same_wiring_fault text n other h k))
  one_wiring n h _ (bad_chart class m k) = absurd (wired_well text n k.tree h k.read k.wired.flawless)
  one_wiring n h _ no_memory = inr (inl refl)

  one_chart : (class : List ℕ) (n : ChartFault) → HasBadChart text class n → (g : ModelFault) → SoundCauses text g
      → OneFault (faults.Chart class n) g
  one_chart class n h _ (uncut place k) = absurd (no_tokens text place h.read.is.tokens k h.read.is.cut)
  one_chart class n h _ (no_tree other k) = absurd (no_such_tree text h.tree k h.read)
  one_chart class n h _ (breaks_base_rule rule k) = absurd (no_flat_tree text rule h.tree k h.read)
  one_chart class n h _ (breaks_rule rule k) = absurd (breaks_none text rule h.tree k h.read h.keeps)
  one_chart class n h _ (bad_wiring other k) = absurd (wired_well text other h.tree k h.read h.wired.flawless)
  one_chart class n h _ (bad_chart other m k) =
      let there = subst (λ (z : ModelTree). HasFaultyChart z other m) (same_tree text k.tree h.tree k.read h.read) k.first in
      let same = (are_one h.tree).first class other n m h.first there in
      is_one (faults.Chart class n) (faults.Chart other m) (λ i. faults.Chart (same.0 i) (same.1 i))
  one_chart class n h _ no_memory = inr (inl refl)

  one_model_fault : (f g : ModelFault) → SoundCauses text f → SoundCauses text g → OneFault f g
  one_model_fault _ g (uncut offset h) k = one_byte offset h g k
  one_model_fault _ g (no_tree line h) k = one_syntax line h g k
  one_model_fault _ g (breaks_base_rule rule h) k = one_base_rule rule h g k
  one_model_fault _ g (breaks_rule rule h) k = one_rule rule h g k
  one_model_fault _ g (bad_wiring n h) k = one_wiring n h g k
  one_model_fault _ g (bad_chart class n h) k = one_chart class n h g k
  one_model_fault _ g no_memory k = inl refl

  -- a text with a fault but want of memory isn't that of a sound model
  sound_has_none : (wiring : Tables) → IsSound text wiring → (f : ModelFault) → SoundCauses text f → f ≡ faults.Memory
  sound_has_none wiring s _ (uncut place k) = absurd (no_tokens text place s.is.read.is.tokens k s.is.read.is.cut)
  sound_has_none wiring s _ (no_tree other k) = absurd (no_such_tree text s.is.tree k s.is.read)
  sound_has_none wiring s _ (breaks_base_rule rule k) = absurd (no_flat_tree text rule s.is.tree k s.is.read)
  sound_has_none wiring s _ (breaks_rule rule k) = absurd (breaks_none text rule s.is.tree k s.is.read s.is.sound.keeps)
  sound_has_none wiring s _ (bad_wiring n k) = absurd (wired_well text n s.is.tree k s.is.read s.is.sound.wired.flawless)
  sound_has_none wiring s _ (bad_chart class n k) =
      absurd ((are_one s.is.tree).not_both s.charts class n s.is.sound.faultless
      (subst (λ (z : ModelTree). HasFaultyChart z class n) (same_tree text k.tree s.is.tree k.read s.is.read) k.first))
  sound_has_none wiring s _ no_memory = refl

  -- who has a fault but want of memory is short
  short_unless : (f : ModelFault) → SoundCauses text f → (f ≡ faults.Memory) ⊎ (length text ≤ most_bytes)
  short_unless _ (uncut place k) = inr k.short
  short_unless _ (no_tree other k) = inr k.short
  short_unless _ (breaks_base_rule rule k) = inr k.short
  short_unless _ (breaks_rule rule k) = inr k.short
  short_unless _ (bad_wiring n k) = inr k.short
  short_unless _ (bad_chart class n k) = inr k.short
  short_unless _ no_memory = inl refl

  one_sound_wiring : (a b : Tables) → IsSound text a → IsSound text b → a ≡ b
  one_sound_wiring a b s u =
      same_wiring s.is.tree a b s.is.sound.wired.wired
      (subst (λ (z : ModelTree). IsWiringOf z b) (same_tree text u.is.tree s.is.tree u.is.read s.is.read) u.is.sound.wired.wired)

-- ---- what a text that was read may be refused for

-- besides want of memory
abbrev Once : Refusal → Refusal → Type 0
Once why other = IsMemory why ⊎ (IsMemory other ⊎ SameRefusal why other)

memory_is : (f : ModelFault) (why : Refusal) → f ≡ faults.Memory → why ≡ refusals.Model f → IsMemory why
memory_is f why e is = ap status_of (is ∙ ap (λ (z : ModelFault). refusals.Model z) e)

-- the text of a model is refused so
data ModelSays (text : List ℕ) (why : Refusal) : Type 0 where
  says_memory : IsMemory why → ModelSays text why
  says_long : most_bytes < length text → why ≡ refusals.ModelTooLong → ModelSays text why
  says_fault : (fault : ModelFault) → SoundCauses text fault → why ≡ refusals.Model fault → ModelSays text why

-- what is said of the text that is told
told_text : (shelf : Shown) (name text : List ℕ) (P : List ℕ → Type 0) → shelf.text name ≡ Some text → TextIs shelf name P → P text
told_text shelf name text P told h = subst (λ (o : Option (List ℕ)). IfSome o P) told h

model_says : (before after : Shown) (name : List ℕ) (why : Refusal) → (read : IsRead before after name)
    → ModelCauses before after name why → ModelSays read.text why
model_says before after name _ read (no_text (model_unread h)) = absurd (read.unfailed h)
model_says before after name _ read (no_text (model_long h)) =
    says_long (told_text before name read.text (λ t. most_bytes < length t) read.told h) refl
model_says before after name _ read (no_text model_no_memory) = says_memory refl
model_says before after name _ read (model_refused fault h) =
    says_fault fault (told_text before name read.text (λ t. SoundCauses t fault) read.told h) refl

long_and_fault : (text : List ℕ) (f : ModelFault) (why : Refusal) → most_bytes < length text → SoundCauses text f
    → why ≡ refusals.Model f → IsMemory why
long_and_fault text f why long h is =
    ⊎_elim (λ e. memory_is f why e is) (λ short. absurd (omega (arith, long, short))) (short_unless text f h)

once_fault : (f g : ModelFault) (why other : Refusal) → OneFault f g → why ≡ refusals.Model f → other ≡ refusals.Model g → Once why other
once_fault f g why other (inl e) is are = inl (memory_is f why e is)
once_fault f g why other (inr (inl e)) is are = inr (inl (memory_is g other e are))
once_fault f g why other (inr (inr (inl e))) is are = inr (inr (inl (is ∙ ap (λ (z : ModelFault). refusals.Model z) e ∙ sym are)))
once_fault f g why other (inr (inr (inr s))) is are =
    inr (inr (inr (inl ((s.0.0, is ∙ ap (λ (z : ModelFault). refusals.Model z) s.0.1), (s.1.0, are ∙ ap (λ (z : ModelFault). refusals.Model z) s.1.1)))))

model_once : (text : List ℕ) (why other : Refusal) → ModelSays text why → ModelSays text other → Once why other
model_once text why other (says_memory e) k = inl e
model_once text why other (says_long long is) (says_memory e) = inr (inl e)
model_once text why other (says_long long is) (says_long also are) = inr (inr (inl (is ∙ sym are)))
model_once text why other (says_long long is) (says_fault g k are) = inr (inl (long_and_fault text g other long k are))
model_once text why other (says_fault f h is) (says_memory e) = inr (inl e)
model_once text why other (says_fault f h is) (says_long long are) = inl (long_and_fault text f why long h is)
model_once text why other (says_fault f h is) (says_fault g k are) = once_fault f g why other (one_model_fault text f g h k) is are

-- a sound model is refused for want of memory alone
sound_model : (text : List ℕ) (wiring : Tables) (why : Refusal) → IsSound text wiring → ModelSays text why → IsMemory why
sound_model text wiring why s (says_memory e) = e
sound_model text wiring why s (says_long long is) = let short = s.is.short in absurd (omega (arith, long, short))
sound_model text wiring why s (says_fault f h is) = memory_is f why (sound_has_none text wiring s f h) is

-- the text of injections is refused so
data LinesSay (k : Advances) (wiring : Tables) (text : List ℕ) (why : Refusal) : Type 0 where
  lines_memory : IsMemory why → LinesSay k wiring text why
  lines_long : most_bytes < length text → why ≡ refusals.InjectionsTooLong → LinesSay k wiring text why
  lines_faulty : (n : ℕ) (fault : LineFault) → HasBadLine k wiring text n fault → why ≡ refusals.InjectionsLine n fault → LinesSay k wiring text why

lines_say : (before after : Shown) (name : List ℕ) (k : Advances) (wiring : Tables) (why : Refusal) → (read : IsRead before after name)
    → InjectionsCauses before after name k wiring why → LinesSay k wiring read.text why
lines_say before after name k wiring why read (injections_unread h is) = absurd (read.unfailed h)
lines_say before after name k wiring why read (injections_long h is) =
    lines_long (told_text before name read.text (λ t. most_bytes < length t) read.told h) is
lines_say before after name k wiring why read (bad_line number fault h is) =
    lines_faulty number fault (told_text before name read.text (λ t. HasBadLine k wiring t number fault) read.told h) is
lines_say before after name k wiring why read (injections_no_memory is) = lines_memory (ap status_of is)

err_pair : (a b : ℕ × ℕ) → ◌≡◌ {A = Result (List Line) (ℕ × ℕ)} (Err a) (Err b) → a ≡ b
err_pair a b e = cc

lines_once : (advances : Advances) (wiring : Tables) (text : List ℕ) (why other : Refusal) → LinesSay advances wiring text why → LinesSay advances wiring text other
    → Once why other
lines_once advances wiring text why other (lines_memory e) k = inl e
lines_once advances wiring text why other (lines_long long is) (lines_memory e) = inr (inl e)
lines_once advances wiring text why other (lines_long long is) (lines_long also are) = inr (inr (inl (is ∙ sym are)))
lines_once advances wiring text why other (lines_long long is) (lines_faulty n c h are) = let short = h.short in absurd (omega (arith, long, short))
lines_once advances wiring text why other (lines_faulty n c h is) (lines_memory e) = inr (inl e)
lines_once advances wiring text why other (lines_faulty n c h is) (lines_long long are) = let short = h.short in absurd (omega (arith, long, short))
lines_once advances wiring text why other (lines_faulty n c h is) (lines_faulty m d k are) =
    let same = err_pair (n, code_of c) (m, code_of d) (sym h.faulty ∙ k.faulty) in
    let line : n ≡ m = ap (λ (z : ℕ × ℕ). z.0) same in
    let fault : c ≡ d = line_by_code c d (ap (λ (z : ℕ × ℕ). z.1) same) in
    inr (inr (inl (is ∙ (λ i. refusals.InjectionsLine (line i) (fault i)) ∙ sym are)))

-- accepted injections are refused for want of memory alone
sound_lines : (k : Advances) (wiring : Tables) (text : List ℕ) (lines : List Line) (why : Refusal) → IsInjections k wiring text lines
    → LinesSay k wiring text why → IsMemory why
sound_lines k wiring text lines why s (lines_memory e) = e
sound_lines k wiring text lines why s (lines_long long is) = let short = s.short in absurd (omega (arith, long, short))
sound_lines k wiring text lines why s (lines_faulty n c h is) =
    let both : ◌≡◌ {A = Result (List Line) (ℕ × ℕ)} (Ok lines) (Err (n, code_of c)) = sym s.accepted ∙ h.faulty in absurd cc

-- a run of two texts is refused so
data RunSays (k : Advances) (model injections : List ℕ) (why : Refusal) : Type 0 where
  for_model : ModelSays model why → RunSays k model injections why
  for_lines : (wiring : Tables) → IsSound model wiring → LinesSay k wiring injections why → RunSays k model injections why

is_sound : (text : List ℕ) (plant : Plant) → IsModel text plant → IsSound text plant.wiring
is_sound text plant h = record { charts = h.charts; is = h.is }

run_says : (before after : Shown) (files : Files) (why : Refusal) → (model : IsRead before after files.model)
    → (injections : IsRead before after files.injections)
    → RunCauses before after files why → RunSays Taken model.text injections.text why
run_says before after files why model injections (of_model h) = for_model (model_says before after files.model why model h)
run_says before after files why model injections (of_injections plant h k) =
    for_lines plant.wiring (is_sound model.text plant (told_text before files.model model.text (λ t. IsModel t plant) model.told h))
    (lines_say before after files.injections Taken plant.wiring why injections k)
run_says before after files why model injections (run_no_memory is) = for_model (says_memory (ap status_of is))

run_once : (advances : Advances) (model injections : List ℕ) (why other : Refusal) → RunSays advances model injections why → RunSays advances model injections other
    → Once why other
run_once advances model injections why other (for_model h) (for_model k) = model_once model why other h k
run_once advances model injections why other (for_model h) (for_lines wiring s k) = inl (sound_model model wiring why s h)
run_once advances model injections why other (for_lines wiring s h) (for_model k) = inr (inl (sound_model model wiring other s k))
run_once advances model injections why other (for_lines wiring s h) (for_lines wired u k) =
    lines_once advances wiring injections why other h (subst (λ (z : Tables). LinesSay advances z injections other) (one_sound_wiring model wired wiring u s) k)

-- accepted texts are refused for want of memory alone
sound_run : (advances : Advances) (model injections : List ℕ) (wiring : Tables) (lines : List Line) (why : Refusal) → IsSound model wiring
    → IsInjections advances wiring injections lines
    → RunSays advances model injections why → IsMemory why
sound_run advances model injections wiring lines why s i (for_model h) = sound_model model wiring why s h
sound_run advances model injections wiring lines why s i (for_lines wired u k) =
    sound_lines advances wiring injections lines why i (subst (λ (z : Tables). LinesSay advances z injections why) (one_sound_wiring model wired wiring u s) k)

-- no journals can be read from the text, so
data ReadSays (wiring : Tables) (text : List ℕ) (why : Refusal) : Type 0 where
  for_memory : IsMemory why → ReadSays wiring text why
  for_length : most_journal_bytes < length text → why ≡ refusals.JournalsTooLong → ReadSays wiring text why
  for_form : (offset : ℕ) → HasNoJournals wiring text → why ≡ refusals.JournalsMalformed offset → ReadSays wiring text why

read_says : (before after : Shown) (name : List ℕ) (wiring : Tables) (why : Refusal) → (read : IsRead before after name)
    → JournalsCauses before after name wiring why → ReadSays wiring read.text why
read_says before after name wiring why read (no_record (record_unread h is)) = absurd (read.unfailed h)
read_says before after name wiring why read (no_record (record_long h is)) =
    for_length (told_text before name read.text (λ t. most_journal_bytes < length t) read.told h) is
read_says before after name wiring why read (no_record (record_no_memory is)) = for_memory (ap status_of is)
read_says before after name wiring why read (journals_malformed offset h is) =
    for_form offset (told_text before name read.text (λ t. HasNoJournals wiring t) read.told h) is
read_says before after name wiring why read (journals_no_memory is) = for_memory (ap status_of is)

-- a text that has journals isn't one that has none
no_both : (wiring : Tables) (text : List ℕ) (j : Journals) → HasNoJournals wiring text → HasJournals wiring text j → ⊥
no_both wiring text j h k = h.none j k.fit k.in_range k.is

one_read : (model : List ℕ) (wiring : Tables) (text : List ℕ) (i j : Journals) → IsSound model wiring → HasJournals wiring text i → HasJournals wiring text j → i ≡ j
one_read model wiring text i j sound h k = same_journals model wiring text i j sound h.fit h.in_range h.is k.fit k.in_range k.is

read_once : (wiring : Tables) (text : List ℕ) (why other : Refusal) → ReadSays wiring text why → ReadSays wiring text other → Once why other
read_once wiring text why other (for_memory e) k = inl e
read_once wiring text why other (for_length long is) (for_memory e) = inr (inl e)
read_once wiring text why other (for_length long is) (for_length also are) = inr (inr (inl (is ∙ sym are)))
read_once wiring text why other (for_length long is) (for_form offset h are) = let short = h.short in absurd (omega (arith, long, short))
read_once wiring text why other (for_form offset h is) (for_memory e) = inr (inl e)
read_once wiring text why other (for_form offset h is) (for_length long are) = let short = h.short in absurd (omega (arith, long, short))
read_once wiring text why other (for_form offset h is) (for_form place k are) = inr (inr (inr (inr ((offset, is), (place, are)))))

-- a text of journals is refused for want of memory alone
sound_read : (wiring : Tables) (text : List ℕ) (j : Journals) (why : Refusal) → HasJournals wiring text j → ReadSays wiring text why → IsMemory why
sound_read wiring text j why h (for_memory e) = e
sound_read wiring text j why h (for_length long is) = let short = h.short in absurd (omega (arith, long, short))
sound_read wiring text j why h (for_form offset k is) = absurd (no_both wiring text j k h)

-- the text of journals that are to be written in form 2 is refused so
data JournalsSay (wiring : Tables) (text : List ℕ) (why : Refusal) : Type 0 where
  for_reading : ReadSays wiring text why → JournalsSay wiring text why
  for_fetch : (controller : ControllerId) (stamp : Stamp) → HasUntiedJournals wiring text controller stamp → why ≡ refusals.JournalsUntied controller stamp → JournalsSay wiring text why

journals_say : (before after : Shown) (name : List ℕ) (wiring : Tables) (why : Refusal) → (read : IsRead before after name)
    → TiedCauses before after name wiring why → JournalsSay wiring read.text why
journals_say before after name wiring why read (journals_refused h) = for_reading (read_says before after name wiring why read h)
journals_say before after name wiring why read (journals_untied controller stamp h is) =
    for_fetch controller stamp (told_text before name read.text (λ t. HasUntiedJournals wiring t controller stamp) read.told h) is

journals_once : (model : List ℕ) (wiring : Tables) (text : List ℕ) (why other : Refusal) → IsSound model wiring → JournalsSay wiring text why → JournalsSay wiring text other
    → Once why other
journals_once model wiring text why other sound (for_reading h) (for_reading k) = read_once wiring text why other h k
journals_once model wiring text why other sound (for_reading h) (for_fetch c x k are) = inl (sound_read wiring text k.journals why k.has h)
journals_once model wiring text why other sound (for_fetch c x h is) (for_reading k) = inr (inl (sound_read wiring text h.journals other h.has k))
journals_once model wiring text why other sound (for_fetch c x h is) (for_fetch d y k are) =
    let one : k.journals ≡ h.journals = one_read model wiring text k.journals h.journals sound k.has h.has in
    let same = same_first h.journals c d x y h.first (subst (λ (z : Journals). IsFirstUntied z d y) one k.first) in
    inr (inr (inl (is ∙ ap₂ refusals.JournalsUntied same.0 same.1 ∙ sym are)))

-- tied journals are refused for want of memory alone
sound_journals : (model : List ℕ) (wiring : Tables) (text : List ℕ) (j : Journals) (why : Refusal) → IsSound model wiring → HasTiedJournals wiring text j
    → JournalsSay wiring text why → IsMemory why
sound_journals model wiring text j why sound h (for_reading k) = sound_read wiring text j why h.has k
sound_journals model wiring text j why sound h (for_fetch c x k is) =
    let one : k.journals ≡ j = one_read model wiring text k.journals j sound k.has h.has in
    absurd (none_first j h.tied c x (subst (λ (z : Journals). IsFirstUntied z c x) one k.first))

-- a conversion of two texts is refused so
data ConvertSays (model journals : List ℕ) (why : Refusal) : Type 0 where
  for_its_model : ModelSays model why → ConvertSays model journals why
  for_journals : (wiring : Tables) → IsSound model wiring → JournalsSay wiring journals why → ConvertSays model journals why

convert_says : (before after : Shown) (files : Record) (why : Refusal) → (model : IsRead before after files.model)
    → (journals : IsRead before after files.journals)
    → ConvertCauses before after files why → ConvertSays model.text journals.text why
convert_says before after files why model journals (of_its_model h) = for_its_model (model_says before after files.model why model h)
convert_says before after files why model journals (of_journals wiring h k) =
    for_journals wiring (told_text before files.model model.text (λ t. IsSound t wiring) model.told h)
    (journals_say before after files.journals wiring why journals k)

convert_once : (model journals : List ℕ) (why other : Refusal) → ConvertSays model journals why → ConvertSays model journals other
    → Once why other
convert_once model journals why other (for_its_model h) (for_its_model k) = model_once model why other h k
convert_once model journals why other (for_its_model h) (for_journals wiring s k) = inl (sound_model model wiring why s h)
convert_once model journals why other (for_journals wiring s h) (for_its_model k) = inr (inl (sound_model model wiring other s k))
convert_once model journals why other (for_journals wiring s h) (for_journals wired u k) =
    journals_once model wiring journals why other s h (subst (λ (z : Tables). JournalsSay z journals other) (one_sound_wiring model wired wiring u s) k)

-- accepted texts are refused for want of memory alone
sound_record : (model journals : List ℕ) (wiring : Tables) (j : Journals) (why : Refusal) → IsSound model wiring
    → HasTiedJournals wiring journals j
    → ConvertSays model journals why → IsMemory why
sound_record model journals wiring j why s i (for_its_model h) = sound_model model wiring why s h
sound_record model journals wiring j why s i (for_journals wired u k) =
    sound_journals model wiring journals j why s i (subst (λ (z : Tables). JournalsSay z journals why) (one_sound_wiring model wired wiring u s) k)

-- ---- verdicts

-- the verdict on the journals of one text, by the charts of a model and by injections
record VerdictOn (model injections journals : List ℕ) (fuel : ℕ) (v : Verdict) (controllers : ℕ) : Type 0 where
  wiring : Tables
  charts : List (Option Chart)
  sound : IsSoundText model wiring charts
  lines : List Line
  lines_are : IsInjections Refused wiring injections lines
  read : Journals
  read_is : HasJournals wiring journals read
  count : controllers ≡ length wiring.controllers
  verdict : IsVerdict (behaviour_by_charts wiring charts) wiring (items_of wiring lines) fuel read v

-- the same with other parts, which are the same
abbrev Verdicts : List ℕ → List ℕ → ℕ → Verdict → ℕ → Tables → List (Option Chart) → Type 0
Verdicts injections journals fuel v controllers wiring charts =
    (lines : List Line) × (read : Journals) × IsInjections Refused wiring injections lines × HasJournals wiring journals read
    × (controllers ≡ length wiring.controllers) × IsVerdict (behaviour_by_charts wiring charts) wiring (items_of wiring lines) fuel read v

same_lines : (k : Advances) (wiring : Tables) (text : List ℕ) (a b : List Line) → IsInjections k wiring text a → IsInjections k wiring text b → a ≡ b
same_lines k wiring text a b h j =
    let both : ◌≡◌ {A = Result (List Line) (ℕ × ℕ)} (Ok a) (Ok b) = sym h.accepted ∙ j.accepted in cc

-- over the wiring and the charts of the model
over_charts : (model injections journals : List ℕ) (fuel : ℕ) (u : Verdict) (n : ℕ) (wiring : Tables) (charts : List (Option Chart)) → IsSoundText model wiring charts
    → VerdictOn model injections journals fuel u n → Verdicts injections journals fuel u n wiring charts
over_charts model injections journals fuel u n wiring charts sound k =
    let wired : k.wiring ≡ wiring = one_sound_wiring model k.wiring wiring (record { charts = k.charts; is = k.sound }) (record { charts = charts; is = sound }) in
    let tree = same_tree model k.sound.tree sound.tree k.sound.read sound.read in
    let charted : k.charts ≡ charts =
    (are_one sound.tree).charts k.charts charts (subst (λ (z : ModelTree). HasCharts z k.charts) tree k.sound.sound.faultless) sound.sound.faultless in
    subst (λ (z : List (Option Chart)). Verdicts injections journals fuel u n wiring z) charted
    (subst (λ (z : Tables). Verdicts injections journals fuel u n z k.charts) wired (k.lines, k.read, k.lines_are, k.read_is, k.count, k.verdict))

-- and over the lines and the journals of the texts
over_texts : (model injections journals : List ℕ) (fuel : ℕ) (u : Verdict) (n : ℕ) (wiring : Tables) (charts : List (Option Chart)) (lines : List Line) (read : Journals)
    → IsSound model wiring → IsInjections Refused wiring injections lines → HasJournals wiring journals read → Verdicts injections journals fuel u n wiring charts
    → IsVerdict (behaviour_by_charts wiring charts) wiring (items_of wiring lines) fuel read u
over_texts model injections journals fuel u n wiring charts lines read sound h j k =
    subst (λ (z : Journals). IsVerdict (behaviour_by_charts wiring charts) wiring (items_of wiring lines) fuel z u)
    (one_read model wiring journals k.1 read sound k.3 j)
    (subst (λ (z : List Line). IsVerdict (behaviour_by_charts wiring charts) wiring (items_of wiring z) fuel k.1 u)
    (same_lines Refused wiring injections k.0 lines k.2 h) k.5)

verdict_once : (model injections journals : List ℕ) (fuel : ℕ) (v u : Verdict) (m n : ℕ) → VerdictOn model injections journals fuel v m
    → VerdictOn model injections journals fuel u n → (v ≡ u) × (m ≡ n)
verdict_once model injections journals fuel v u m n h k =
    let other = over_charts model injections journals fuel u n h.wiring h.charts h.sound k in
    let also =
    over_texts model injections journals fuel u n h.wiring h.charts h.lines h.read (record { charts = h.charts; is = h.sound }) h.lines_are h.read_is other in
    (one_verdict (behaviour_by_charts h.wiring h.charts) h.wiring (items_of h.wiring h.lines) fuel h.read v u h.verdict also, h.count ∙ sym other.4)

-- a verdict on three texts is refused so
data JudgeSays (model injections journals : List ℕ) (fuel : ℕ) (why : Refusal) : Type 0 where
  for_run : RunSays Refused model injections why → JudgeSays model injections journals fuel why
  for_record : (wiring : Tables) (lines : List Line) → IsSound model wiring → IsInjections Refused wiring injections lines
      → ReadSays wiring journals why → JudgeSays model injections journals fuel why
  for_verdict : (v : Verdict) (controllers : ℕ) → VerdictOn model injections journals fuel v controllers → (v ≡ verdicts.Lawful → ⊥)
      → why ≡ refusals.Unlawful v controllers → JudgeSays model injections journals fuel why

unjudged_says : (before after : Shown) (files : Judged) (fuel : ℕ) (why : Refusal) → (model : IsRead before after files.run.model)
    → (injections : IsRead before after files.run.injections) → (journals : IsRead before after files.journals)
    → UnjudgedCauses before after files why → JudgeSays model.text injections.text journals.text fuel why
unjudged_says before after files fuel why model injections journals (judged_model h) =
    for_run (for_model (model_says before after files.run.model why model h))
unjudged_says before after files fuel why model injections journals (judged_injections plant h k) =
    for_run (for_lines plant.wiring (is_sound model.text plant (told_text before files.run.model model.text (λ t. IsModel t plant) model.told h))
    (lines_say before after files.run.injections Refused plant.wiring why injections k))
unjudged_says before after files fuel why model injections journals (judged_journals plant lines h k) =
    for_record plant.wiring lines
    (is_sound model.text plant (told_text before files.run.model model.text (λ t. IsModel t plant) model.told h.model_accepted))
    (told_text before files.run.injections injections.text (λ t. IsInjections Refused plant.wiring t lines) injections.told h.lines_accepted)
    (read_says before after files.journals plant.wiring why journals k)

-- what is judged has that verdict
verdict_on : (before after : Shown) (files : Judged) (fuel : ℕ) (plant : Plant) (lines : List Line) (j : Journals) (v : Verdict)
    → (model : IsRead before after files.run.model) → (injections : IsRead before after files.run.injections)
    → (journals : IsRead before after files.journals) → IsJudged before files fuel plant lines j v
    → VerdictOn model.text injections.text journals.text fuel v (length plant.wiring.controllers)
verdict_on before after files fuel plant lines j v model injections journals h =
    let charts =
    told_text before files.run.model model.text (λ t. (charts : List (Option Chart)) × IsSoundText t plant.wiring charts
    × IsVerdict (behaviour_by_charts plant.wiring charts) plant.wiring (items_of plant.wiring lines) fuel j v) model.told h.by_charts in
    record {
      wiring = plant.wiring;
      charts = charts.0;
      sound = charts.1;
      lines = lines;
      lines_are = told_text before files.run.injections injections.text (λ t. IsInjections Refused plant.wiring t lines) injections.told h.texts.lines_accepted;
      read = j;
      read_is = told_text before files.journals journals.text (λ t. HasJournals plant.wiring t j) journals.told h.journals_read;
      count = refl;
      verdict = charts.2;
    }

judge_says : (before after : Shown) (files : Judged) (fuel : ℕ) (why : Refusal) → (model : IsRead before after files.run.model)
    → (injections : IsRead before after files.run.injections) → (journals : IsRead before after files.journals)
    → VerifyCauses before after files fuel why → JudgeSays model.text injections.text journals.text fuel why
judge_says before after files fuel why model injections journals (unjudged h) =
    unjudged_says before after files fuel why model injections journals h
judge_says before after files fuel why model injections journals (unlawful plant lines j v h faulty is) =
    for_verdict v (length plant.wiring.controllers) (verdict_on before after files fuel plant lines j v model injections journals h) faulty is
judge_says before after files fuel why model injections journals (verify_no_memory is) =
    for_run (for_model (says_memory (ap status_of is)))

-- where there is a verdict, texts are refused for want of memory alone
judged_run : (model injections journals : List ℕ) (fuel : ℕ) (v : Verdict) (n : ℕ) (why : Refusal) → VerdictOn model injections journals fuel v n
    → RunSays Refused model injections why → IsMemory why
judged_run model injections journals fuel v n why h k =
    sound_run Refused model injections h.wiring h.lines why (record { charts = h.charts; is = h.sound }) h.lines_are k

judged_record : (model injections journals : List ℕ) (fuel : ℕ) (v : Verdict) (n : ℕ) (why : Refusal) (wiring : Tables) → VerdictOn model injections journals fuel v n
    → IsSound model wiring → ReadSays wiring journals why → IsMemory why
judged_record model injections journals fuel v n why wiring h sound k =
    let wired = one_sound_wiring model wiring h.wiring sound (record { charts = h.charts; is = h.sound }) in
    sound_read h.wiring journals h.read why h.read_is (subst (λ (z : Tables). ReadSays z journals why) wired k)

judge_once : (model injections journals : List ℕ) (fuel : ℕ) (why other : Refusal) → JudgeSays model injections journals fuel why
    → JudgeSays model injections journals fuel other → Once why other
judge_once model injections journals fuel why other (for_run h) (for_run k) = run_once Refused model injections why other h k
judge_once model injections journals fuel why other (for_run h) (for_record wiring lines s i k) =
    inl (sound_run Refused model injections wiring lines why s i h)
judge_once model injections journals fuel why other (for_run h) (for_verdict v n k faulty are) =
    inl (judged_run model injections journals fuel v n why k h)
judge_once model injections journals fuel why other (for_record wiring lines s i h) (for_run k) =
    inr (inl (sound_run Refused model injections wiring lines other s i k))
judge_once model injections journals fuel why other (for_record wiring lines s i h) (for_record wired also u l k) =
    read_once wiring journals why other h (subst (λ (z : Tables). ReadSays z journals other) (one_sound_wiring model wired wiring u s) k)
judge_once model injections journals fuel why other (for_record wiring lines s i h) (for_verdict v n k faulty are) =
    inl (judged_record model injections journals fuel v n why wiring k s h)
judge_once model injections journals fuel why other (for_verdict v n h faulty is) (for_run k) =
    inr (inl (judged_run model injections journals fuel v n other h k))
judge_once model injections journals fuel why other (for_verdict v n h faulty is) (for_record wiring lines s i k) =
    inr (inl (judged_record model injections journals fuel v n other wiring h s k))
judge_once model injections journals fuel why other (for_verdict v n h faulty is) (for_verdict u m k also are) =
    let same = verdict_once model injections journals fuel v u n m h k in
    inr (inr (inl (is ∙ ap₂ refusals.Unlawful same.0 same.1 ∙ sym are)))

-- lawful journals are refused for want of memory alone
lawful_memory : (model injections journals : List ℕ) (fuel : ℕ) (n : ℕ) (why : Refusal) → VerdictOn model injections journals fuel verdicts.Lawful n
    → JudgeSays model injections journals fuel why → IsMemory why
lawful_memory model injections journals fuel n why h (for_run k) = judged_run model injections journals fuel verdicts.Lawful n why h k
lawful_memory model injections journals fuel n why h (for_record wiring lines s i k) =
    judged_record model injections journals fuel verdicts.Lawful n why wiring h s k
lawful_memory model injections journals fuel n why h (for_verdict v m k faulty is) =
    absurd (faulty (verdict_once model injections journals fuel v verdicts.Lawful m n k h).0)

-- accepted texts are refused for want of memory, or for their verdict
judged_ends : (model injections journals : List ℕ) (fuel : ℕ) (wiring : Tables) (lines : List Line) (j : Journals) (why : Refusal) → IsSound model wiring
    → IsInjections Refused wiring injections lines → HasJournals wiring journals j → JudgeSays model injections journals fuel why
    → IsMemory why ⊎ (status_of why ≡ statuses.Unlawful)
judged_ends model injections journals fuel wiring lines j why s i r (for_run k) = inl (sound_run Refused model injections wiring lines why s i k)
judged_ends model injections journals fuel wiring lines j why s i r (for_record wired also u l k) =
    inl (sound_read wiring journals j why r (subst (λ (z : Tables). ReadSays z journals why) (one_sound_wiring model wired wiring u s) k))
judged_ends model injections journals fuel wiring lines j why s i r (for_verdict v n k faulty is) = inr (ap status_of is)

-- ---- the system at a stamp

-- something is so of what three texts give: a wiring and charts of a model, lines, and journals
abbrev GivenAs : List ℕ → List ℕ → List ℕ → (Tables → List (Option Chart) → List Line → Journals → Type 0) → Type 0
GivenAs model injections journals P =
    (w : Tables) × (c : List (Option Chart)) × (l : List Line) × (r : Journals) × IsSoundText model w c × IsInjections Refused w injections l
    × HasJournals w journals r × P w c l r

-- of the same texts, all is so of the same
over_given : (model injections journals : List ℕ) (Q : Tables → List (Option Chart) → List Line → Journals → Type 0)
    → (w : Tables) (c : List (Option Chart)) (l : List Line) (r : Journals) → IsSoundText model w c → IsInjections Refused w injections l → HasJournals w journals r
    → GivenAs model injections journals Q → Q w c l r
over_given model injections journals Q w c l r s i h k =
    let sound : IsSound model w = record { charts = c; is = s } in
    let also : IsSound model k.0 = record { charts = k.1; is = k.4 } in
    let wired : k.0 ≡ w = one_sound_wiring model k.0 w also sound in
    let tree = same_tree model k.4.tree s.tree k.4.read s.read in
    let charted : k.1 ≡ c =
    (are_one s.tree).charts k.1 c (subst (λ (z : ModelTree). HasCharts z k.1) tree k.4.sound.faultless) s.sound.faultless in
    let there : IsInjections Refused w injections k.2 × HasJournals w journals k.3 × Q w c k.2 k.3 =
    subst (λ (z : List (Option Chart)). IsInjections Refused w injections k.2 × HasJournals w journals k.3 × Q w z k.2 k.3) charted
    (subst (λ (z : Tables). IsInjections Refused z injections k.2 × HasJournals z journals k.3 × Q z k.1 k.2 k.3) wired (k.5, k.6, k.7)) in
    let lines : k.2 ≡ l = same_lines Refused w injections k.2 l there.0 i in
    let read : k.3 ≡ r = one_read model w journals k.3 r sound there.1 h in
    subst (λ (z : Journals). Q w c l z) read (subst (λ (z : List Line). Q w c z k.3) lines there.2)

-- this is shown, over a wiring that is this one
record ShowsThere (at : ℕ) (snapshot : Snapshot) (own w : Tables) (c : List (Option Chart)) (l : List Line) (r : Journals) : Type 0 where
  is : IsShown (behaviour_by_charts w c) w (items_of w l) r at charts_observer snapshot
  wired : w ≡ own

seen_there : (before after : Shown) (files : Judged) (at : ℕ) (plant : Plant) (lines : List Line) (j : Journals) (snapshot : Snapshot)
    → (model : IsRead before after files.run.model) → (injections : IsRead before after files.run.injections)
    → (journals : IsRead before after files.journals) → IsSeen before files at plant lines j snapshot
    → GivenAs model.text injections.text journals.text (ShowsThere at snapshot plant.wiring)
seen_there before after files at plant lines j snapshot model injections journals h =
    let charts =
    told_text before files.run.model model.text (λ t. (charts : List (Option Chart)) × IsSoundText t plant.wiring charts
    × IsShown (behaviour_by_charts plant.wiring charts) plant.wiring (items_of plant.wiring lines) j at charts_observer snapshot) model.told h.by_charts in (
      plant.wiring,
      charts.0,
      lines,
      j,
      charts.1,
      told_text before files.run.injections injections.text (λ t. IsInjections Refused plant.wiring t lines) injections.told h.given.texts.lines_accepted,
      told_text before files.journals journals.text (λ t. HasJournals plant.wiring t j) journals.told h.given.journals_read,
      record { is = charts.2; wired = refl },
    )

-- this verdict is told in place of what is shown, over a wiring that is this one
record TellsThere (at : ℕ) (v : Verdict) (own w : Tables) (c : List (Option Chart)) (l : List Line) (r : Journals) : Type 0 where
  is : IsUnshown (behaviour_by_charts w c) w (items_of w l) r at v
  wired : w ≡ own

unseen_there : (before after : Shown) (files : Judged) (at : ℕ) (plant : Plant) (lines : List Line) (j : Journals) (v : Verdict)
    → (model : IsRead before after files.run.model) → (injections : IsRead before after files.run.injections)
    → (journals : IsRead before after files.journals) → IsUnseen before files at plant lines j v
    → GivenAs model.text injections.text journals.text (TellsThere at v plant.wiring)
unseen_there before after files at plant lines j v model injections journals h =
    let charts =
    told_text before files.run.model model.text (λ t. (charts : List (Option Chart)) × IsSoundText t plant.wiring charts
    × IsUnshown (behaviour_by_charts plant.wiring charts) plant.wiring (items_of plant.wiring lines) j at v) model.told h.by_charts in (
      plant.wiring,
      charts.0,
      lines,
      j,
      charts.1,
      told_text before files.run.injections injections.text (λ t. IsInjections Refused plant.wiring t lines) injections.told h.given.texts.lines_accepted,
      told_text before files.journals journals.text (λ t. HasJournals plant.wiring t j) journals.told h.given.journals_read,
      record { is = charts.2; wired = refl },
    )

-- an early verdict isn't that journals are lawful
early_unlawful : (at : ℕ) (v : Verdict) → IsEarly at v → v ≡ verdicts.Lawful → ⊥
early_unlawful at (verdicts.Order party) early is = absurd cc
early_unlawful at (verdicts.Start c) early is = absurd cc
early_unlawful at (verdicts.Entry party stamp) early is = absurd cc
early_unlawful at verdicts.Left early is = absurd early
early_unlawful at (verdicts.Fuel c) early is = absurd early
early_unlawful at verdicts.Ended early is = absurd early
early_unlawful at (verdicts.Prompt c stamp) early is = absurd early
early_unlawful at verdicts.Lawful early is = absurd early

-- no fuel has a part in what is told in place of a snapshot, so it is a verdict by the least one
show_says : (before after : Shown) (files : Judged) (at : ℕ) (why : Refusal) → (model : IsRead before after files.run.model)
    → (injections : IsRead before after files.run.injections) → (journals : IsRead before after files.journals)
    → ShowCauses before after files at why → JudgeSays model.text injections.text journals.text 0 why
show_says before after files at why model injections journals (nothing_to_show h) =
    unjudged_says before after files 0 why model injections journals h
show_says before after files at why model injections journals (unlawful_by_then plant lines j v h is) =
    let there = unseen_there before after files at plant lines j v model injections journals h in
    for_verdict v (length plant.wiring.controllers)
    (record {
      wiring = there.0;
      charts = there.1;
      sound = there.4;
      lines = there.2;
      lines_are = there.5;
      read = there.3;
      read_is = there.6;
      count = ap (λ (t : Tables). length t.controllers) (sym there.7.wired);
      verdict = there.7.is.is 0;
    })
    (early_unlawful at v there.7.is.early) is
show_says before after files at why model injections journals (show_no_memory is) = for_run (for_model (says_memory (ap status_of is)))

-- texts of which there is something to show are refused for want of memory alone
unjudged_memory : (before after : Shown) (files : Judged) (why : Refusal) → (model : IsRead before after files.run.model)
    → (injections : IsRead before after files.run.injections) → (journals : IsRead before after files.journals)
    → (wiring : Tables) (lines : List Line) (j : Journals) → IsSound model.text wiring → IsInjections Refused wiring injections.text lines
    → HasJournals wiring journals.text j → UnjudgedCauses before after files why → IsMemory why
unjudged_memory before after files why model injections journals wiring lines j s i r (judged_model h) =
    sound_run Refused model.text injections.text wiring lines why s i (for_model (model_says before after files.run.model why model h))
unjudged_memory before after files why model injections journals wiring lines j s i r (judged_injections plant h k) =
    sound_run Refused model.text injections.text wiring lines why s i
    (for_lines plant.wiring (is_sound model.text plant (told_text before files.run.model model.text (λ t. IsModel t plant) model.told h))
    (lines_say before after files.run.injections Refused plant.wiring why injections k))
unjudged_memory before after files why model injections journals wiring lines j s i r (judged_journals plant also h k) =
    let sound = is_sound model.text plant (told_text before files.run.model model.text (λ t. IsModel t plant) model.told h.model_accepted) in
    sound_read wiring journals.text j why r
    (subst (λ (z : Tables). ReadSays z journals.text why) (one_sound_wiring model.text plant.wiring wiring sound s)
    (read_says before after files.journals plant.wiring why journals k))

seen_memory : (before after : Shown) (files : Judged) (at : ℕ) (plant : Plant) (lines : List Line) (j : Journals) (snapshot : Snapshot) (why : Refusal)
    → (model : IsRead before after files.run.model) → (injections : IsRead before after files.run.injections)
    → (journals : IsRead before after files.journals) → IsSeen before files at plant lines j snapshot
    → ShowCauses before after files at why → IsMemory why
seen_memory before after files at plant lines j snapshot why model injections journals h (nothing_to_show k) =
    let there = seen_there before after files at plant lines j snapshot model injections journals h in
    unjudged_memory before after files why model injections journals there.0 there.2 there.3 (record { charts = there.1; is = there.4 }) there.5 there.6 k
seen_memory before after files at plant lines j snapshot why model injections journals h (unlawful_by_then other also read v k is) =
    let there = seen_there before after files at plant lines j snapshot model injections journals h in
    let told =
    over_given model.text injections.text journals.text (TellsThere at v other.wiring) there.0 there.1 there.2 there.3 there.4 there.5 there.6
    (unseen_there before after files at other also read v model injections journals k) in
    absurd
    (shown_alone (behaviour_by_charts there.0 there.1) there.0 (items_of there.0 there.2) there.3 at charts_observer snapshot v there.7.is told.is.early (told.is.is 0))
seen_memory before after files at plant lines j snapshot why model injections journals h (show_no_memory is) = ap status_of is

-- and one text is shown
seen_once : (before after : Shown) (files : Judged) (at : ℕ) (plant other : Plant) (lines also : List Line) (j read : Journals) (snapshot second : Snapshot)
    → IsRead before after files.run.model → IsRead before after files.run.injections → IsRead before after files.journals
    → IsSeen before files at plant lines j snapshot → IsSeen before files at other also read second
    → snapshot_text plant.wiring snapshot ≡ snapshot_text other.wiring second
seen_once before after files at plant other lines also j read snapshot second model injections journals h k =
    let there = seen_there before after files at plant lines j snapshot model injections journals h in
    let again =
    over_given model.text injections.text journals.text (ShowsThere at second other.wiring) there.0 there.1 there.2 there.3 there.4 there.5 there.6
    (seen_there before after files at other also read second model injections journals k) in
    let one : snapshot ≡ second =
    one_shown (behaviour_by_charts there.0 there.1) there.0 (items_of there.0 there.2) there.3 at charts_observer snapshot second there.7.is again.is in
    ap (λ (z : Tables). snapshot_text z snapshot) (sym there.7.wired) ∙ ap (snapshot_text there.0) one ∙ ap (λ (z : Tables). snapshot_text z second) again.wired

-- ---- by what words ask for

made_model_read : (actors : ℕ) → IsRead (made_shelf actors) (made_shelf actors) made_files.model
made_model_read actors =
    record { text = model_text actors; told = refl; unfailed = λ rose. let up = rose.higher (omega arith) in omega (arith, up) }

made_lines_read : (actors : ℕ) → IsRead (made_shelf actors) (made_shelf actors) made_files.injections
made_lines_read actors =
    record { text = injections_text actors; told = refl; unfailed = λ rose. let up = rose.higher (omega arith) in omega (arith, up) }

abbrev CausesOf : Shown → Shown → Option Asked → Refusal → Type 0
CausesOf before after None why = why ≡ refusals.Words
CausesOf before after (Some (Check name)) why = ModelCauses before after name why
CausesOf before after (Some (Tree name)) why = ModelCauses before after name why
CausesOf before after (Some (Run files fuel)) why = RunCauses before after files why
CausesOf before after (Some (Convert files)) why = ConvertCauses before after files why
CausesOf before after (Some (Verify files fuel)) why = VerifyCauses before after files fuel why
CausesOf before after (Some (Show files at)) why = ShowCauses before after files at why
CausesOf before after (Some (Made actors)) why = RunCauses (made_shelf actors) (made_shelf actors) made_files why

causes_of : (before after : Shown) (words : List (List ℕ)) (why : Refusal) → Causes before after words why
    → CausesOf before after (asked_by words) why
causes_of before after words why (no_such_words e is) = subst (λ (o : Option Asked). CausesOf before after o why) (sym e) is
causes_of before after words why (of_check name e h) = subst (λ (o : Option Asked). CausesOf before after o why) (sym e) h
causes_of before after words why (of_tree name e h) = subst (λ (o : Option Asked). CausesOf before after o why) (sym e) h
causes_of before after words why (of_run files fuel e h) = subst (λ (o : Option Asked). CausesOf before after o why) (sym e) h
causes_of before after words why (of_convert files e h) = subst (λ (o : Option Asked). CausesOf before after o why) (sym e) h
causes_of before after words why (of_verify files fuel e h) = subst (λ (o : Option Asked). CausesOf before after o why) (sym e) h
causes_of before after words why (of_show files at e h) = subst (λ (o : Option Asked). CausesOf before after o why) (sym e) h
causes_of before after words why (of_made actors e h) = subst (λ (o : Option Asked). CausesOf before after o why) (sym e) h

once_of : (before after : Shown) (o : Option Asked) (why other : Refusal) → AreRead before after o → CausesOf before after o why
    → CausesOf before after o other → Once why other
once_of before after None why other read h k = inr (inr (inl (h ∙ sym k)))
once_of before after (Some (Check name)) why other read h k =
    model_once read.text why other (model_says before after name why read h) (model_says before after name other read k)
once_of before after (Some (Tree name)) why other read h k =
    model_once read.text why other (model_says before after name why read h) (model_says before after name other read k)
once_of before after (Some (Run files fuel)) why other read h k =
    run_once Taken read.0.text read.1.text why other (run_says before after files why read.0 read.1 h) (run_says before after files other read.0 read.1 k)
once_of before after (Some (Convert files)) why other read h k =
    convert_once read.0.text read.1.text why other (convert_says before after files why read.0 read.1 h) (convert_says before after files other read.0 read.1 k)
once_of before after (Some (Verify files fuel)) why other read h k =
    judge_once read.0.text read.1.text read.2.text fuel why other (judge_says before after files fuel why read.0 read.1 read.2 h)
    (judge_says before after files fuel other read.0 read.1 read.2 k)
once_of before after (Some (Show files at)) why other read h k =
    judge_once read.0.text read.1.text read.2.text 0 why other (show_says before after files at why read.0 read.1 read.2 h)
    (show_says before after files at other read.0 read.1 read.2 k)
once_of before after (Some (Made actors)) why other read h k =
    let shelf = made_shelf actors in
    run_once Taken (made_model_read actors).text (made_lines_read actors).text why other
    (run_says shelf shelf made_files why (made_model_read actors) (made_lines_read actors) h)
    (run_says shelf shelf made_files other (made_model_read actors) (made_lines_read actors) k)

-- what is accepted is refused for want of memory alone
same_told : (shelf : Shown) (name a b : List ℕ) → shelf.text name ≡ Some a → shelf.text name ≡ Some b → a ≡ b
same_told shelf name a b h k = let both : Some a ≡ Some b = sym h ∙ k in cc

model_memory : (before after : Shown) (name : List ℕ) (why : Refusal) (read : IsRead before after name) (wiring : Tables)
    → HasModel before name wiring
    → ModelCauses before after name why → IsMemory why
model_memory before after name why read wiring h k =
    sound_model read.text wiring why (subst (λ (z : List ℕ). IsSound z wiring) (same_told before name h.text read.text h.told read.told) h.sound) (model_says before after name why read k)

files_memory : (before after : Shown) (files : Files) (why : Refusal) (model : IsRead before after files.model) (injections : IsRead before after files.injections) → HasFiles Taken before files
    → RunCauses before after files why → IsMemory why
files_memory before after files why model injections h k =
    sound_run Taken model.text injections.text h.wiring h.lines why
    (subst (λ (z : List ℕ). IsSound z h.wiring) (same_told before files.model h.model.text model.text h.model.told model.told) h.model.sound)
    (subst (λ (z : List ℕ). IsInjections Taken h.wiring z h.lines) (same_told before files.injections h.text injections.text h.told injections.told) h.injections)
    (run_says before after files why model injections k)

record_memory : (before after : Shown) (files : Record) (why : Refusal) (model : IsRead before after files.model) (journals : IsRead before after files.journals) → HasRecord before files
    → ConvertCauses before after files why → IsMemory why
record_memory before after files why model journals h k =
    sound_record model.text journals.text h.wiring h.read why
    (subst (λ (z : List ℕ). IsSound z h.wiring) (same_told before files.model h.model.text model.text h.model.told model.told) h.model.sound)
    (subst (λ (z : List ℕ). HasTiedJournals h.wiring z h.read) (same_told before files.journals h.text journals.text h.told journals.told) h.journals)
    (convert_says before after files why model journals k)

-- the words ask for something that has an answer
abbrev Answered : Shown → Option Asked → Type 0
Answered shelf None = ⊥
Answered shelf (Some (Check name)) = AreAccepted shelf (Some (Check name))
Answered shelf (Some (Tree name)) = AreAccepted shelf (Some (Tree name))
Answered shelf (Some (Run files fuel)) = AreAccepted shelf (Some (Run files fuel))
Answered shelf (Some (Convert files)) = AreAccepted shelf (Some (Convert files))
Answered shelf (Some (Verify files fuel)) = (plant : Plant) × (lines : List Line) × (j : Journals) × IsJudged shelf files fuel plant lines j verdicts.Lawful
Answered shelf (Some (Show files at)) =
    (plant : Plant) × (lines : List Line) × (j : Journals) × (snapshot : Snapshot) × IsSeen shelf files at plant lines j snapshot
Answered shelf (Some (Made actors)) = AreAccepted shelf (Some (Made actors))

memory_of : (before after : Shown) (o : Option Asked) (why : Refusal) → Answered before o → AreRead before after o
    → CausesOf before after o why → IsMemory why
memory_of before after None why h read k = absurd h
memory_of before after (Some (Check name)) why h read k = model_memory before after name why read h.0 h.1 k
memory_of before after (Some (Tree name)) why h read k = model_memory before after name why read h.0 h.1 k
memory_of before after (Some (Run files fuel)) why h read k = files_memory before after files why read.0 read.1 h k
memory_of before after (Some (Convert files)) why h read k = record_memory before after files why read.0 read.1 h k
memory_of before after (Some (Verify files fuel)) why h read k =
    lawful_memory read.0.text read.1.text read.2.text fuel (length h.0.wiring.controllers) why
    (verdict_on before after files fuel h.0 h.1 h.2 verdicts.Lawful read.0 read.1 read.2 h.3)
    (judge_says before after files fuel why read.0 read.1 read.2 k)
memory_of before after (Some (Show files at)) why h read k =
    seen_memory before after files at h.0 h.1 h.2 h.3 why read.0 read.1 read.2 h.4 k
memory_of before after (Some (Made actors)) why h read k =
    files_memory (made_shelf actors) (made_shelf actors) made_files why (made_model_read actors) (made_lines_read actors) h k

-- what has an answer is accepted
files_accepted : (before after : Shown) (files : Files) (plant : Plant) (lines : List Line) → IsRead before after files.model
    → IsRead before after files.injections
    → AreOf before files plant lines → HasFiles Taken before files
files_accepted before after files plant lines model injections h = record {
  wiring = plant.wiring;
  lines = lines;
  model = record {
    text = model.text;
    told = model.told;
    sound = is_sound model.text plant (told_text before files.model model.text (λ t. IsModel t plant) model.told h.model_accepted);
  };
  text = injections.text;
  told = injections.told;
  injections = told_text before files.injections injections.text (λ t. IsInjections Taken plant.wiring t lines) injections.told h.lines_accepted;
}

record_accepted : (before after : Shown) (files : Record) (wiring : Tables) (j : Journals) → IsRead before after files.model
    → IsRead before after files.journals
    → AreRecorded before files wiring j → HasRecord before files
record_accepted before after files wiring j model journals h = record {
  wiring = wiring;
  read = j;
  model = record {
    text = model.text;
    told = model.told;
    sound = told_text before files.model model.text (λ t. IsSound t wiring) model.told h.model_accepted;
  };
  text = journals.text;
  told = journals.told;
  journals = told_text before files.journals journals.text (λ t. HasTiedJournals wiring t j) journals.told h.journals_accepted;
}

accepted_of : (before after : Shown) (words : List (List ℕ)) (text : List ℕ) (status : Status) → AreRead before after (asked_by words)
    → Answers before words text status
    → Answered before (asked_by words)
accepted_of before after words text status read (says_ok name e h is ends) =
    let r : IsRead before after name = subst (AreRead before after) e read in
    let sound = told_text before name r.text (λ t. (wiring : Tables) × IsSound t wiring) r.told h in
    subst (Answered before) (sym e) (sound.0, record { text = r.text; told = r.told; sound = sound.1 })
accepted_of before after words text status read (says_tree name wiring e h is ends) =
    let r : IsRead before after name = subst (AreRead before after) e read in
    subst (Answered before) (sym e) (wiring, record { text = r.text; told = r.told; sound = told_text before name r.text (λ t. IsSound t wiring) r.told h })
accepted_of before after words text status read (says_run files fuel plant lines j e h is ends) =
    let r : IsRead before after files.model × IsRead before after files.injections = subst (AreRead before after) e read in
    subst (Answered before) (sym e) (files_accepted before after files plant lines r.0 r.1 h.texts)
accepted_of before after words text status read (says_converted files wiring j e h is ends) =
    let r : IsRead before after files.model × IsRead before after files.journals = subst (AreRead before after) e read in
    subst (Answered before) (sym e) (record_accepted before after files wiring j r.0 r.1 h)
accepted_of before after words text status read (says_lawful files fuel plant lines j e h is ends) = subst (Answered before) (sym e) (plant, lines, j, h)
accepted_of before after words text status read (says_shown files at plant lines j snapshot e h is ends) =
    subst (Answered before) (sym e) (plant, lines, j, snapshot, h)
accepted_of before after words text status read (says_made actors plant lines j e h is ends) =
    subst (Answered before) (sym e)
    (files_accepted (made_shelf actors) (made_shelf actors) made_files plant lines (made_model_read actors) (made_lines_read actors) h.texts)

-- ---- what asks for no run has one answer

-- what is answered where no run is asked for
abbrev AnswerIs : Shown → Option Asked → List ℕ → Status → Type 0
AnswerIs shelf None text status = Unit {0}
AnswerIs shelf (Some (Check name)) text status = (text ≡ accepted) × (status ≡ statuses.Done)
AnswerIs shelf (Some (Tree name)) text status =
    (wiring : Tables) × TextIs shelf name (λ t. IsSound t wiring) × (text ≡ tree_text wiring) × (status ≡ statuses.Done)
AnswerIs shelf (Some (Run files fuel)) text status = Unit {0}
AnswerIs shelf (Some (Convert files)) text status =
    (wiring : Tables) × (j : Journals) × AreRecorded shelf files wiring j × (text ≡ tied_text_of wiring j) × (status ≡ statuses.Done)
AnswerIs shelf (Some (Verify files fuel)) text status = (text ≡ lawful_line) × (status ≡ statuses.Done)
AnswerIs shelf (Some (Show files at)) text status =
    (plant : Plant) × (lines : List Line) × (j : Journals) × (snapshot : Snapshot) × IsSeen shelf files at plant lines j snapshot
    × (text ≡ snapshot_text plant.wiring snapshot) × (status ≡ statuses.Done)
AnswerIs shelf (Some (Made actors)) text status = Unit {0}

answer_is : (shelf : Shown) (words : List (List ℕ)) (text : List ℕ) (status : Status) → Answers shelf words text status
    → AnswerIs shelf (asked_by words) text status
answer_is shelf words text status (says_ok name e h is ends) = subst (λ (o : Option Asked). AnswerIs shelf o text status) (sym e) (is, ends)
answer_is shelf words text status (says_tree name wiring e h is ends) =
    subst (λ (o : Option Asked). AnswerIs shelf o text status) (sym e) (wiring, h, is, ends)
answer_is shelf words text status (says_run files fuel plant lines j e h is ends) =
    subst (λ (o : Option Asked). AnswerIs shelf o text status) (sym e) tt
answer_is shelf words text status (says_converted files wiring j e h is ends) =
    subst (λ (o : Option Asked). AnswerIs shelf o text status) (sym e) (wiring, j, h, is, ends)
answer_is shelf words text status (says_lawful files fuel plant lines j e h is ends) =
    subst (λ (o : Option Asked). AnswerIs shelf o text status) (sym e) (is, ends)
answer_is shelf words text status (says_shown files at plant lines j snapshot e h is ends) =
    subst (λ (o : Option Asked). AnswerIs shelf o text status) (sym e) (plant, lines, j, snapshot, h, is, ends)
answer_is shelf words text status (says_made actors plant lines j e h is ends) =
    subst (λ (o : Option Asked). AnswerIs shelf o text status) (sym e) tt

-- the journals of a text over the wiring of a model
same_record : (before after : Shown) (files : Record) (a b : Tables) (i j : Journals) → IsRead before after files.model → IsRead before after files.journals
    → AreRecorded before files a i → AreRecorded before files b j → tied_text_of a i ≡ tied_text_of b j
same_record before after files a b i j model journals h k =
    let sound = told_text before files.model model.text (λ t. IsSound t a) model.told h.model_accepted in
    let also = told_text before files.model model.text (λ t. IsSound t b) model.told k.model_accepted in
    let wired : b ≡ a = one_sound_wiring model.text b a also sound in
    let left = told_text before files.journals journals.text (λ t. HasTiedJournals a t i) journals.told h.journals_accepted in
    let right : HasTiedJournals a journals.text j =
    subst (λ (z : Tables). HasTiedJournals z journals.text j) wired (told_text before files.journals journals.text (λ t. HasTiedJournals b t j) journals.told k.journals_accepted) in
    ap (tied_text_of a) (one_read model.text a journals.text i j sound left.has right.has) ∙ ap (λ (z : Tables). tied_text_of z j) (sym wired)

same_answer : (before after : Shown) (o : Option Asked) (text other : List ℕ) (status also : Status) → AskForNoRun o → AreRead before after o
    → AnswerIs before o text status → AnswerIs before o other also → (text ≡ other) × (status ≡ also)
same_answer before after None text other status also model read h k = absurd model
same_answer before after (Some (Check name)) text other status also model read h k = (h.0 ∙ sym k.0, h.1 ∙ sym k.1)
same_answer before after (Some (Tree name)) text other status also model read h k =
    let a = told_text before name read.text (λ t. IsSound t h.0) read.told h.1 in
    let b = told_text before name read.text (λ t. IsSound t k.0) read.told k.1 in
    (h.2 ∙ ap tree_text (one_sound_wiring read.text h.0 k.0 a b) ∙ sym k.2, h.3 ∙ sym k.3)
same_answer before after (Some (Run files fuel)) text other status also model read h k = absurd model
same_answer before after (Some (Convert files)) text other status also model read h k =
    (h.3 ∙ same_record before after files h.0 k.0 h.1 k.1 read.0 read.1 h.2 k.2 ∙ sym k.3, h.4 ∙ sym k.4)
same_answer before after (Some (Verify files fuel)) text other status also model read h k = (h.0 ∙ sym k.0, h.1 ∙ sym k.1)
same_answer before after (Some (Show files at)) text other status also model read h k =
    (h.5 ∙ seen_once before after files at h.0 k.0 h.1 k.1 h.2 k.2 h.3 k.3 read.0 read.1 read.2 h.4 k.4 ∙ sym k.5, h.6 ∙ sym k.6)
same_answer before after (Some (Made actors)) text other status also model read h k = absurd model

pub calls_have_one_answer : CallsHaveOneAnswer
calls_have_one_answer before after words read = record {
  refused_once = λ why other h k. once_of before after (asked_by words) why other read (causes_of before after words why h) (causes_of before after words other k);
  answered = λ why text status h k.
      memory_of before after (asked_by words) why (accepted_of before after words text status read k) read (causes_of before after words why h);
  answered_once = λ model text other status also h k.
      same_answer before after (asked_by words) text other status also model read (answer_is before words text status h) (answer_is before words other also k);
}

-- ---- how accepted calls end

run_ends : (o : Option Asked) (done : Bool) (status : Status) → status ≡ status_of_run done → IsEnd o status
run_ends o true status e = inl e
run_ends o false status e = inr (inl e)

answer_ends : (shelf : Shown) (words : List (List ℕ)) (text : List ℕ) (status : Status) → Answers shelf words text status
    → IsEnd (asked_by words) status
answer_ends shelf words text status (says_ok name e h is ends) = inl ends
answer_ends shelf words text status (says_tree name wiring e h is ends) = inl ends
answer_ends shelf words text status (says_run files fuel plant lines j e h is ends) = run_ends (asked_by words) j.done status ends
answer_ends shelf words text status (says_converted files wiring j e h is ends) = inl ends
answer_ends shelf words text status (says_lawful files fuel plant lines j e h is ends) = inl ends
answer_ends shelf words text status (says_shown files at plant lines j snapshot e h is ends) = inl ends
answer_ends shelf words text status (says_made actors plant lines j e h is ends) = run_ends (asked_by words) j.done status ends

memory_ends : (o : Option Asked) (why : Refusal) → IsMemory why → IsEnd o (status_of why)
memory_ends o why e = inr (inr (inl e))

judged_memory : (before after : Shown) (files : Judged) (fuel : ℕ) (why : Refusal) (model : IsRead before after files.run.model)
    → (injections : IsRead before after files.run.injections) (journals : IsRead before after files.journals) → HasJudged before files
    → VerifyCauses before after files fuel why → IsEnd (Some (Verify files fuel)) (status_of why)
judged_memory before after files fuel why model injections journals h k =
    go (judged_ends model.text injections.text journals.text fuel h.run.wiring h.run.lines h.read why
    (subst (λ (z : List ℕ). IsSound z h.run.wiring) (same_told before files.run.model h.run.model.text model.text h.run.model.told model.told) h.run.model.sound)
    (subst (λ (z : List ℕ). IsInjections Refused h.run.wiring z h.run.lines) (same_told before files.run.injections h.run.text injections.text h.run.told injections.told) h.run.injections)
    (subst (λ (z : List ℕ). HasJournals h.run.wiring z h.read) (same_told before files.journals h.text journals.text h.told journals.told) h.journals)
    (judge_says before after files fuel why model injections journals k))
  where
    go : IsMemory why ⊎ (status_of why ≡ statuses.Unlawful) → IsEnd (Some (Verify files fuel)) (status_of why)
    go (inl e) = inr (inr (inl e))
    go (inr e) = inr (inr (inr (tt, e)))

shown_memory : (before after : Shown) (files : Judged) (at : ℕ) (why : Refusal) (model : IsRead before after files.run.model)
    → (injections : IsRead before after files.run.injections) (journals : IsRead before after files.journals) → HasJudged before files
    → ShowCauses before after files at why → IsEnd (Some (Show files at)) (status_of why)
shown_memory before after files at why model injections journals h k =
    go (judged_ends model.text injections.text journals.text 0 h.run.wiring h.run.lines h.read why
    (subst (λ (z : List ℕ). IsSound z h.run.wiring) (same_told before files.run.model h.run.model.text model.text h.run.model.told model.told) h.run.model.sound)
    (subst (λ (z : List ℕ). IsInjections Refused h.run.wiring z h.run.lines) (same_told before files.run.injections h.run.text injections.text h.run.told injections.told) h.run.injections)
    (subst (λ (z : List ℕ). HasJournals h.run.wiring z h.read) (same_told before files.journals h.text journals.text h.told journals.told) h.journals)
    (show_says before after files at why model injections journals k))
  where
    go : IsMemory why ⊎ (status_of why ≡ statuses.Unlawful) → IsEnd (Some (Show files at)) (status_of why)
    go (inl e) = inr (inr (inl e))
    go (inr e) = inr (inr (inr (tt, e)))

refusal_ends : (before after : Shown) (o : Option Asked) (why : Refusal) → AreAccepted before o → AreRead before after o
    → CausesOf before after o why → IsEnd o (status_of why)
refusal_ends before after None why h read k = absurd h
refusal_ends before after (Some (Check name)) why h read k = memory_ends (Some (Check name)) why (memory_of before after (Some (Check name)) why h read k)
refusal_ends before after (Some (Tree name)) why h read k = memory_ends (Some (Tree name)) why (memory_of before after (Some (Tree name)) why h read k)
refusal_ends before after (Some (Run files fuel)) why h read k =
    memory_ends (Some (Run files fuel)) why (memory_of before after (Some (Run files fuel)) why h read k)
refusal_ends before after (Some (Convert files)) why h read k = memory_ends (Some (Convert files)) why (memory_of before after (Some (Convert files)) why h read k)
refusal_ends before after (Some (Verify files fuel)) why h read k = judged_memory before after files fuel why read.0 read.1 read.2 h k
refusal_ends before after (Some (Show files at)) why h read k = shown_memory before after files at why read.0 read.1 read.2 h k
refusal_ends before after (Some (Made actors)) why h read k = memory_ends (Some (Made actors)) why (memory_of before after (Some (Made actors)) why h read k)

pub accepted_calls_end : AcceptedCallsEnd
accepted_calls_end before after words streams status taken read none (whole text h out notes) = answer_ends before words text status h
accepted_calls_end before after words streams status taken read none (cut_short text wanted h is breaks notes) =
    absurd (none.out breaks.fault)
accepted_calls_end before after words streams status taken read none (refused why h is out notes) =
    subst (IsEnd (asked_by words)) (sym is) (refusal_ends before after (asked_by words) why taken read (causes_of before after words why h))
accepted_calls_end before after words streams status taken read none (refused_unheard why h is out breaks) =
    absurd (none.notes breaks.fault)

-- ---- verdicts are exact

module _ (before after : Shown) (files : Judged) (fuel : ℕ) (it : HasJudged before files) (read : AreRead before after (Some (Verify files fuel))) where
  model_is : it.run.model.text ≡ read.0.text
  model_is = same_told before files.run.model it.run.model.text read.0.text it.run.model.told read.0.told

  sound_is : IsSoundText read.0.text it.run.wiring it.run.model.sound.charts
  sound_is = subst (λ (z : List ℕ). IsSoundText z it.run.wiring it.run.model.sound.charts) model_is it.run.model.sound.is

  lines_are : IsInjections Refused it.run.wiring read.1.text it.run.lines
  lines_are =
      subst (λ (z : List ℕ). IsInjections Refused it.run.wiring z it.run.lines)
      (same_told before files.run.injections it.run.text read.1.text it.run.told read.1.told) it.run.injections

  journals_are : HasJournals it.run.wiring read.2.text it.read
  journals_are = subst (λ (z : List ℕ). HasJournals it.run.wiring z it.read) (same_told before files.journals it.text read.2.text it.told read.2.told) it.journals

  -- who are lawful have that verdict, and no other
  lawful_on : AreLawful before files it fuel → VerdictOn read.0.text read.1.text read.2.text fuel verdicts.Lawful (length it.run.wiring.controllers)
  lawful_on h = record {
    wiring = it.run.wiring;
    charts = it.run.model.sound.charts;
    sound = sound_is;
    lines = it.run.lines;
    lines_are = lines_are;
    read = it.read;
    read_is = journals_are;
    count = refl;
    verdict = lawful h;
  }

  on_lawful : (n : ℕ) → VerdictOn read.0.text read.1.text read.2.text fuel verdicts.Lawful n → AreLawful before files it fuel
  on_lawful n k =
      is_lawful (behaviour_by_charts it.run.wiring it.run.model.sound.charts) it.run.wiring (items_of it.run.wiring it.run.lines) fuel it.read verdicts.Lawful refl
      (over_texts read.0.text read.1.text read.2.text fuel verdicts.Lawful n it.run.wiring it.run.model.sound.charts it.run.lines it.read
      (record { charts = it.run.model.sound.charts; is = sound_is }) lines_are journals_are
      (over_charts read.0.text read.1.text read.2.text fuel verdicts.Lawful n it.run.wiring it.run.model.sound.charts sound_is k))

  -- what a call that is refused tells
  refused_whether : (why : Refusal) → JudgeSays read.0.text read.1.text read.2.text fuel why → TellsWhether (AreLawful before files it fuel) (status_of why)
  refused_whether why (for_run k) =
      out_of_memory (sound_run Refused read.0.text read.1.text it.run.wiring it.run.lines why (record { charts = it.run.model.sound.charts; is = sound_is }) lines_are k)
  refused_whether why (for_record wired also u l k) =
      let same = one_sound_wiring read.0.text wired it.run.wiring u (record { charts = it.run.model.sound.charts; is = sound_is }) in
      out_of_memory (sound_read it.run.wiring read.2.text it.read why journals_are (subst (λ (z : Tables). ReadSays z read.2.text why) same k))
  refused_whether why (for_verdict v n k faulty is) =
      unlawful_where (ap status_of is)
      (λ h. faulty (verdict_once read.0.text read.1.text read.2.text fuel v verdicts.Lawful n (length it.run.wiring.controllers) k (lawful_on h)).0)

  -- what a call that is answered tells
  answered_whether : (status : Status) → Answered before (Some (Verify files fuel)) → status ≡ statuses.Done → TellsWhether (AreLawful before files it fuel) status
  answered_whether status h ends =
      done_where ends (on_lawful (length h.0.wiring.controllers) (verdict_on before after files fuel h.0 h.1 h.2 verdicts.Lawful read.0 read.1 read.2 h.3))

pub verdicts_are_exact : VerdictsAreExact
verdicts_are_exact before after words files fuel streams status asked it read none (whole text h out notes) =
    let known = subst (AreRead before after) (sym asked) read in
    answered_whether before after files fuel it read status (subst (Answered before) asked (accepted_of before after words text status known h))
    (subst (λ (o : Option Asked). AnswerIs before o text status) asked (answer_is before words text status h)).1
verdicts_are_exact before after words files fuel streams status asked it read none (cut_short text wanted h is breaks notes) = absurd (none.out breaks.fault)
verdicts_are_exact before after words files fuel streams status asked it read none (refused why h is out notes) =
    let cause = subst (λ (o : Option Asked). CausesOf before after o why) asked (causes_of before after words why h) in
    subst (TellsWhether (AreLawful before files it fuel)) (sym is)
    (refused_whether before after files fuel it read why (judge_says before after files fuel why read.0 read.1 read.2 cause))
verdicts_are_exact before after words files fuel streams status asked it read none (refused_unheard why h is out breaks) = absurd (none.notes breaks.fault)

-- ---- what is shown is exact

module _ (before after : Shown) (files : Judged) (at : ℕ) (it : HasJudged before files) (read : AreRead before after (Some (Show files at))) where
  sound_shown : IsSound read.0.text it.run.wiring
  sound_shown = record { charts = it.run.model.sound.charts; is = sound_is before after files 0 it read }

  -- what is so of what the texts give is so of what was accepted
  of_accepted : (Q : Tables → List (Option Chart) → List Line → Journals → Type 0) → GivenAs read.0.text read.1.text read.2.text Q
      → Q it.run.wiring it.run.model.sound.charts it.run.lines it.read
  of_accepted Q k =
      over_given read.0.text read.1.text read.2.text Q it.run.wiring it.run.model.sound.charts it.run.lines it.read (sound_is before after files 0 it read)
      (lines_are before after files 0 it read) (journals_are before after files 0 it read) k

  -- what a call that is refused tells
  refused_shown : (why : Refusal) → ShowCauses before after files at why → TellsWhether (HasSnapshot before files it at) (status_of why)
  refused_shown why (nothing_to_show k) =
      out_of_memory
      (unjudged_memory before after files why read.0 read.1 read.2 it.run.wiring it.run.lines it.read sound_shown (lines_are before after files 0 it read)
      (journals_are before after files 0 it read) k)
  refused_shown why (unlawful_by_then plant lines j v k is) =
      unlawful_where (ap status_of is)
      (λ (s : HasSnapshot before files it at).
      let told = of_accepted (TellsThere at v plant.wiring) (unseen_there before after files at plant lines j v read.0 read.1 read.2 k) in
      shown_alone (behaviour_by_charts it.run.wiring it.run.model.sound.charts) it.run.wiring (items_of it.run.wiring it.run.lines) it.read at charts_observer s.0 v s.1
      told.is.early (told.is.is 0))
  refused_shown why (show_no_memory is) = out_of_memory (ap status_of is)

  -- what a call that is answered tells
  answered_shown : (status : Status) → Answered before (Some (Show files at)) → status ≡ statuses.Done → TellsWhether (HasSnapshot before files it at) status
  answered_shown status h ends =
      let there = of_accepted (ShowsThere at h.3 h.0.wiring) (seen_there before after files at h.0 h.1 h.2 h.3 read.0 read.1 read.2 h.4) in
      done_where ends (h.3, there.is)

pub shows_are_exact : ShowsAreExact
shows_are_exact before after words files at streams status asked it read none (whole text h out notes) =
    let known = subst (AreRead before after) (sym asked) read in
    answered_shown before after files at it read status (subst (Answered before) asked (accepted_of before after words text status known h))
    (subst (λ (o : Option Asked). AnswerIs before o text status) asked (answer_is before words text status h)).6
shows_are_exact before after words files at streams status asked it read none (cut_short text wanted h is breaks notes) = absurd (none.out breaks.fault)
shows_are_exact before after words files at streams status asked it read none (refused why h is out notes) =
    let cause = subst (λ (o : Option Asked). CausesOf before after o why) asked (causes_of before after words why h) in
    subst (TellsWhether (HasSnapshot before files it at)) (sym is) (refused_shown before after files at it read why cause)
shows_are_exact before after words files at streams status asked it read none (refused_unheard why h is out breaks) = absurd (none.notes breaks.fault)
