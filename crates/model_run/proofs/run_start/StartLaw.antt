-- The start of a run is a run so far.
use Rattle.std.proofs.Common.{◌≡◌, ℕ, zero, suc, ◌<◌, ◌⊎◌, inl, inr, false, List, [], ◌∷◌, ◌++◌, length, slice_get, Option, Some, refl, sym, ap, ◌∙◌, subst, arith, append-nil}
use Rattle.std.specs.Option.{option_map_or}
use Rattle.std.proofs.lemmas.Bool.{cases_lt}
use Rattle.std.proofs.lemmas.Option.{slice_get_past, slice_get_within}
use mathlib.Core.Path.{fun_ext}
use Rattle.room_kinds.specs.declared.numbers.ControllerId.{ControllerId}
use Rattle.room_kinds.specs.declared.numbers.Incarnation.{Incarnation}
use Rattle.room_wiring.specs.declared.tables.Tables.{Tables}
use Rattle.journal.specs.declared.entry.Entry.{Entry}
use Rattle.journal.specs.declared.entry.Entry.TheVariants as entry
use Rattle.actor_merge.specs.Mail.{Lane, lane, given, taken, gives, takes}
use Rattle.actor_merge.specs.Parties.{State, Line}
use Rattle.actor_merge.specs.World.{World, start}
use Rattle.actor_merge.specs.History.{IsHistory}
use Rattle.actor_merge.proofs.Rounds.{start_history}
use Rattle.actor_world.specs.Behaviour.{Behaviour}
use Rattle.actor_world.specs.Body.{Body}
use Rattle.actor_world.specs.Journals.{is_turn, lines_of}
use Rattle.actor_world.specs.Start.{Starting, started, all_started, starting, first_actors, first_state, start_entries}
use Rattle.chart_behaviour.specs.ModelCharts.{Actor}
use Rattle.model_run.specs.run_rounds.Prompts.{PromptFrom, OwnFetched}
use Rattle.model_run.proofs.run_rounds.PromptLists.{NoTurns, no_turns_prompt}
use Rattle.controller_actors.specs.Plants.{model_of}
use Rattle.controller_actors.specs.declared.plant.Plant.{Plant}
use Rattle.controller.specs.Controllers.{IsOf, Begins, run_plant, state_in, state_at}
use Rattle.controller.specs.View.{Controller}
use Rattle.model_run.specs.run_so_far.SoFar.{world_of, RunSoFar}
use Rattle.model_run.specs.run_start.Begun.{AllBegun}
use Rattle.controller.proofs.Standing.{some_at}

-- each of these entries is a start
abbrev pub IsStart : Entry → Type 0
IsStart (entry.Start who state notes) = Unit {0}
IsStart (entry.Fetch stamp m) = ⊥
IsStart (entry.Turn stamp from sent did notes) = ⊥
IsStart (entry.Post stamp m) = ⊥

abbrev pub OnlyStarts : List Entry → Type 0
OnlyStarts [] = Unit {0}
OnlyStarts (e ∷ es) = IsStart e × OnlyStarts es

starts_push : (es : List Entry) (e : Entry) → OnlyStarts es → IsStart e → OnlyStarts (es ++ e ∷ [])
starts_push [] e h s = (s, tt)
starts_push (x ∷ es) e h s = (h.0, starts_push es e h.1 s)

module _ {M : Type 0} (model : Behaviour M) (t : Tables) (me : ℕ) where
  all_starts : (xs : List Incarnation) (s : Starting M) → OnlyStarts s.entries → OnlyStarts (all_started model t me xs s).entries
  all_starts [] s h = h
  all_starts (x ∷ xs) s h = all_starts xs (started model t me s x) (starts_push s.entries _ h tt)

  pub start_is_starts : OnlyStarts (start_entries model t me)
  unfolding starting
  start_is_starts = all_starts (first_actors t me) _ tt

gives_start : (l : Lane) (c : ℕ) (e : Entry) → IsStart e → gives l c e ≡ []
gives_start l c (entry.Start who state notes) h = refl
gives_start l c (entry.Fetch stamp m) h = refl
gives_start l c (entry.Turn stamp from sent did notes) h = refl
gives_start l c (entry.Post stamp m) h = absurd h

takes_start : (l : Lane) (c : ℕ) (e : Entry) → IsStart e → takes l c e ≡ []
takes_start l c (entry.Start who state notes) h = refl
takes_start l c (entry.Fetch stamp m) h = absurd h
takes_start l c (entry.Turn stamp from sent did notes) h = refl
takes_start l c (entry.Post stamp m) h = refl

starts_give : (l : Lane) (c : ℕ) (es : List Entry) → OnlyStarts es → given l c es ≡ []
starts_give l c [] h = refl
starts_give l c (e ∷ es) h = rw (gives_start l c e h.0) (starts_give l c es h.1)

starts_take : (l : Lane) (c : ℕ) (es : List Entry) → OnlyStarts es → taken l c es ≡ []
starts_take l c [] h = refl
starts_take l c (e ∷ es) h = rw (takes_start l c e h.0) (starts_take l c es h.1)

start_no_turn : (e : Entry) → IsStart e → is_turn e ≡ false
start_no_turn (entry.Start who state notes) h = refl
start_no_turn (entry.Fetch stamp m) h = refl
start_no_turn (entry.Turn stamp from sent did notes) h = absurd h
start_no_turn (entry.Post stamp m) h = refl

starts_no_turns : (es : List Entry) → OnlyStarts es → NoTurns es
starts_no_turns [] h = tt
starts_no_turns (e ∷ es) h = (start_no_turn e h.0, starts_no_turns es h.1)

-- one element more at the end
pushed : {X : Type 0} (xs : List X) (x : X) (c : ℕ) (k : X) → slice_get (xs ++ x ∷ []) c ≡ Some k → (slice_get xs c ≡ Some k) ⊎ ((c ≡ length xs) × (x ≡ k))
pushed [] x zero k h = inr (refl, cc)
pushed [] x (suc c) k h = absurd (omega (arith, slice_get_within (x ∷ []) (suc c) k h))
pushed (y ∷ xs) x zero k h = inl h
pushed (y ∷ xs) x (suc c) k h = elim (pushed xs x c k h) [ inl below ↦ inl below | inr last ↦ inr (omega (arith, last.0), last.1) ]

module _ (plant : Plant) (fuel : ℕ) where
  pub begun_none : AllBegun plant fuel []
  begun_none = record {
    me = λ c k at. absurd (omega (arith, slice_get_within [] c k at));
    begins = λ c k at. absurd (omega (arith, slice_get_within [] c k at));
    of = λ c k at. absurd (omega (arith, slice_get_within [] c k at));
  }

  begins_own : (me : ControllerId) (k : Controller) → Begins plant me fuel k → Begins plant k.me fuel k
  begins_own me k b = subst (λ (z : ControllerId). Begins plant z fuel k) (sym b.me_is) b

  -- one controller more
  pub begun_more : (ks : List Controller) (me : ControllerId) (x : Controller) → AllBegun plant fuel ks → me.0 ≡ length ks → Begins plant me fuel x → IsOf plant x → AllBegun plant fuel (ks ++ x ∷ [])
  begun_more ks me x a count b of = record {
    me = λ c k at. elim (pushed ks x c k at) [
      | inl below ↦ a.me c k below
      | inr last ↦ subst (λ (z : Controller). z.me.0 ≡ c) last.1 (ap (λ (z : ControllerId). z.0) b.me_is ∙ count ∙ sym last.0)
    ];
    begins = λ c k at. elim (pushed ks x c k at) [
      | inl below ↦ a.begins c k below
      | inr last ↦ subst (λ (z : Controller). Begins plant z.me fuel z) last.1 (begins_own me x b)
    ];
    of = λ c k at. elim (pushed ks x c k at) [
      | inl below ↦ a.of c k below
      | inr last ↦ subst (λ (z : Controller). IsOf plant z) last.1 of
    ];
  }

  module _ (ks : List Controller) (a : AllBegun plant fuel ks) (count : length ks ≡ length plant.wiring.controllers) where
    state_begins : (c : ℕ) → first_state (model_of plant) plant.wiring c ≡ state_at plant ks c
    state_begins c = elim (cases_lt c (length ks)) [
      | inl below ↦
          let o = some_at ks c below in
          let k = o.0 in
          let me : k.me.0 ≡ c = a.me c k o.1 in
          let own : state_in plant k ≡ first_state (model_of plant) plant.wiring c =
          subst (λ (z : ℕ). state_in plant k ≡ first_state (model_of plant) plant.wiring z) me (a.begins c k o.1).state in
          sym own
          ∙ ap (λ (z : Option Controller). option_map_or (λ (y : Controller). state_in plant y) z (first_state (model_of plant) plant.wiring c)) (sym o.1)
      | inr past ↦ ap (λ (z : Option Controller). option_map_or (λ (y : Controller). state_in plant y) z (first_state (model_of plant) plant.wiring c)) (sym (slice_get_past ks c past))
    ]

    first_world : (lines : List Line) → start (run_plant plant lines) ≡ world_of plant ks (record { clock = 0; posted = 0 })
    first_world lines =
        let states : first_state (model_of plant) plant.wiring ≡ state_at plant ks = fun_ext state_begins in
        λ j. record { controllers = states j; environment = record { clock = 0; posted = 0 }; lanes = λ l. [] }

    starts_of : (c : ℕ) → OnlyStarts (start_entries (model_of plant) plant.wiring c)
    starts_of c = start_is_starts (model_of plant) plant.wiring c

    pub starts_run : RunSoFar plant [] fuel ks (record { clock = 0; posted = 0 }) []
    starts_run = record {
      stand = record { count = count; me = a.me; of = a.of };
      fuel_is = λ c k at. (a.begins c k at).fuel_is;
      fuelled = λ c k at. let none : k.mail.turns ≡ 0 = ap (λ (s : State (Body Actor)). s.turns) (a.begins c k at).state in omega arith;
      events = λ p. [];
      journals = λ c k at.
          let me : k.me.0 ≡ c = a.me c k at in
          subst (λ (z : ℕ). k.mail.journal ≡ start_entries (model_of plant) plant.wiring z) me (a.begins c k at).journal
          ∙ sym (append-nil (start_entries (model_of plant) plant.wiring c));
      posted = refl;
      nobody = λ p h. refl;
      within = λ p. tt;
      sound = λ rest. record {
        history = subst (λ (w : World (Body Actor)). IsHistory (run_plant plant (lines_of rest)) (λ p. []) w) (first_world (lines_of rest)) (start_history (run_plant plant (lines_of rest)));
        prompt = λ c b. subst (λ (z : List Entry). PromptFrom c [] z) (sym (append-nil (start_entries (model_of plant) plant.wiring c)))
            (no_turns_prompt c [] (start_entries (model_of plant) plant.wiring c) (starts_no_turns (start_entries (model_of plant) plant.wiring c) (starts_of c)));
        even = λ c b. subst (λ (z : List Entry). OwnFetched c z) (sym (append-nil (start_entries (model_of plant) plant.wiring c)))
            (record { all = λ p d. starts_give (lane c c p) c (start_entries (model_of plant) plant.wiring c) (starts_of c) ∙ sym (starts_take (lane c c p) c (start_entries (model_of plant) plant.wiring c) (starts_of c)) });
      };
    }
