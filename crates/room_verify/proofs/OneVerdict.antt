-- Journals have one verdict.
use Rattle.std.proofs.Common.{◌≡◌, ℕ, ◌<◌, ◌≤◌, true, List, [], ◌∷◌, ◌++◌, length, refl, sym, ap, ◌∙◌, subst, arith, append-nil, inl, inr}
use Rattle.std.proofs.lemmas.Bool.{cases_order}
use Rattle.room_kinds.specs.declared.numbers.ControllerId.{ControllerId}
use Rattle.room_kinds.specs.declared.numbers.Stamp.{Stamp}
use Rattle.journal.specs.declared.entry.Entry.{Entry}
use Rattle.journal.specs.declared.entry.Journals.{Journals}
use Rattle.room_wiring.specs.declared.tables.Tables.{Tables}
use Rattle.actor_merge.specs.Mail.{stamp_of}
use Rattle.actor_merge.specs.Parties.{Plant}
use Rattle.actor_merge.specs.World.{World, Placed, start, Runs}
use Rattle.actor_merge.specs.Merge.{IsMerge}
use Rattle.actor_world.specs.Behaviour.{Behaviour}
use Rattle.actor_world.specs.Body.{Body}
use Rattle.actor_world.specs.Journals.{Item, lines_of, left_of, is_turn, IsEnded}
use Rattle.actor_world.specs.Start.{plant_of}
use Rattle.law_merges.specs.Merges.{Rise}
use Rattle.law_merges.proofs.One.{one_merge}
use Rattle.law_merges.proofs.Bounds.{one_end}
use Rattle.model_run.specs.run_ends.Runs.{journal_of}
use Rattle.model_run.specs.run_rounds.Prompts.{MayTurn, PromptFrom}
use Rattle.model_run.proofs.run_rounds.PromptLists.{prompt_at}
use Rattle.room_verify.specs.Steps.{happened, HasStarts, Reaches, IsRefused}
use Rattle.room_verify.specs.Verdicts.{LeadsTo, IsVerdict, out_of_order, wrong_start, refused, wrong_left, beyond_fuel, not_ended, not_prompt, lawful}
use Rattle.room_verify.specs.declared.verdict.Verdict.{Verdict}
use Rattle.room_verify.specs.declared.verdict.Verdict.TheVariants as verdicts
use Rattle.room_verify.proofs.AloneLaw.{run_split, left_at, turns_at, ended_at, lawful_leads, lawful_prompt}

-- ---- the lowest number is one

lowest : (P : ℕ → Type 0) (a b : ControllerId) → (P a.0 → ⊥) → (P b.0 → ⊥) → ((k : ℕ) → k < a.0 → P k) → ((k : ℕ) → k < b.0 → P k) → a ≡ b
lowest P a b not_a not_b below_a below_b = elim (cases_order a.0 b.0) [
  | inl same ↦ (λ i. record { 0 = same i })
  | inr apart ↦ elim apart [ inl less ↦ absurd (not_a (below_b a.0 less)) | inr more ↦ absurd (not_b (below_a b.0 more)) ]
]

-- ---- two cuts of a list

-- of two cuts of one list, they are one or one is in front of the other
data Cuts {X : Type 0} (a : List X) (x : X) (b : List X) (y : X) : Type 0 where
  one_cut : a ≡ b → x ≡ y → Cuts a x b y
  further : (more : List X) → b ≡ a ++ x ∷ more → Cuts a x b y
  nearer : (more : List X) → a ≡ b ++ y ∷ more → Cuts a x b y

cuts_next : {X : Type 0} (z : X) (a : List X) (x : X) (b : List X) (y : X) → Cuts a x b y → Cuts (z ∷ a) x (z ∷ b) y
cuts_next {X} z a x b y (one_cut s e) = one_cut (ap (λ (k : List X). z ∷ k) s) e
cuts_next {X} z a x b y (further more e) = further more (ap (λ (k : List X). z ∷ k) e)
cuts_next {X} z a x b y (nearer more e) = nearer more (ap (λ (k : List X). z ∷ k) e)

cuts : {X : Type 0} (a : List X) (x : X) (after : List X) (b : List X) (y : X) (rear : List X) → a ++ x ∷ after ≡ b ++ y ∷ rear → Cuts a x b y
cuts [] x after [] y rear h = one_cut refl cc
cuts {X} [] x after (z ∷ b) y rear h = let head : x ≡ z = cc in further b (ap (λ (k : X). k ∷ b) (sym head))
cuts {X} (z ∷ a) x after [] y rear h = let head : z ≡ y = cc in nearer a (ap (λ (k : X). k ∷ a) head)
cuts {X} (z ∷ a) x after (u ∷ b) y rear h =
    let head : z ≡ u = cc in
    let tail : a ++ x ∷ after ≡ b ++ y ∷ rear = cc in
    subst (λ (k : X). Cuts (z ∷ a) x (k ∷ b) y) head (cuts_next z a x b y (cuts a x after b y rear tail))

module _ {M : Type 0} (model : Behaviour M) (t : Tables) (items : List Item) (fuel : ℕ) (j : Journals) where
  abbrev p : Plant (Body M)
  p = plant_of model t (lines_of items)

  abbrev n : ℕ
  n = length t.controllers

  -- ---- what is said of the world to which all lead

  data Rest (w : World (Body M)) : Verdict → Type 0 where
    left_else : (j.left ≡ left_of p w → ⊥) → Rest w verdicts.Left
    turned_more : (c : ControllerId) → c.0 < n → j.left ≡ left_of p w → fuel < (w.controllers c.0).turns
        → ((lower : ℕ) → lower < c.0 → (w.controllers lower).turns ≤ fuel) → Rest w (verdicts.Fuel c)
    goes_on : j.left ≡ left_of p w → ((c : ℕ) → c < n → (w.controllers c).turns ≤ fuel) → (IsEnded p items fuel w j.left j.unposted j.done → ⊥)
        → Rest w verdicts.Ended
    turned_early : (c : ControllerId) (stamp : Stamp) (front after : List Entry) (e : Entry) → c.0 < n → stamp.0 ≡ stamp_of e → j.left ≡ left_of p w
        → ((d : ℕ) → d < n → (w.controllers d).turns ≤ fuel) → IsEnded p items fuel w j.left j.unposted j.done
        → journal_of j c.0 ≡ front ++ e ∷ after → is_turn e ≡ true → (MayTurn c.0 front → ⊥) → PromptFrom c.0 [] front
        → ((lower : ℕ) → lower < c.0 → PromptFrom lower [] (journal_of j lower)) → Rest w (verdicts.Prompt c stamp)
    all_well : j.left ≡ left_of p w → ((c : ℕ) → c < n → (w.controllers c).turns ≤ fuel) → IsEnded p items fuel w j.left j.unposted j.done
        → ((c : ℕ) → c < n → PromptFrom c [] (journal_of j c)) → Rest w verdicts.Lawful

  unprompt : (c : ℕ) (front after : List Entry) (e : Entry) → journal_of j c ≡ front ++ e ∷ after → is_turn e ≡ true → (MayTurn c front → ⊥)
      → PromptFrom c [] (journal_of j c) → ⊥
  unprompt c front after e there turn may_not all =
      may_not (prompt_at c [] front e after (subst (λ (z : List Entry). PromptFrom c [] z) there all) turn)

  first_turn : (c : ℕ) (stamp other : Stamp) (front after back rear : List Entry) (e f : Entry) → stamp.0 ≡ stamp_of e → other.0 ≡ stamp_of f
      → front ++ e ∷ after ≡ back ++ f ∷ rear → is_turn e ≡ true → is_turn f ≡ true → (MayTurn c front → ⊥) → (MayTurn c back → ⊥)
      → PromptFrom c [] front → PromptFrom c [] back → stamp ≡ other
  first_turn c stamp other front after back rear e f is_e is_f same turn_e turn_f not_e not_f prompt_front prompt_back = go (cuts front e after back f rear same)
    where
      go : Cuts front e back f → stamp ≡ other
      go (one_cut fronts entries) = let s : stamp.0 ≡ other.0 = is_e ∙ ap stamp_of entries ∙ sym is_f in λ i. record { 0 = s i }
      go (further more is) = absurd (not_e (prompt_at c [] front e more (subst (λ (z : List Entry). PromptFrom c [] z) is prompt_back) turn_e))
      go (nearer more is) = absurd (not_f (prompt_at c [] back f more (subst (λ (z : List Entry). PromptFrom c [] z) is prompt_front) turn_f))

  rests_one : (w : World (Body M)) (v u : Verdict) → Rest w v → Rest w u → v ≡ u
  rests_one w v u (left_else a) (left_else b) = refl
  rests_one w v u (left_else a) (turned_more c below l more lower) = absurd (a l)
  rests_one w v u (left_else a) (goes_on l turns faulty) = absurd (a l)
  rests_one w v u (left_else a) (turned_early c stamp front after e below is l turns ended there turn may_not prompt lower) = absurd (a l)
  rests_one w v u (left_else a) (all_well l turns ended prompt) = absurd (a l)
  rests_one w v u (turned_more c below l more lower) (left_else b) = absurd (b l)
  rests_one w v u (turned_more c below l more lower) (turned_more d below' l' more' lower') =
      ap verdicts.Fuel
      (lowest (λ k. (w.controllers k).turns ≤ fuel) c d (λ low. omega (arith, more, low)) (λ low. omega (arith, more', low)) lower lower')
  rests_one w v u (turned_more c below l more lower) (goes_on l' turns faulty) = absurd (let low = turns c.0 below in omega (arith, more, low))
  rests_one w v u (turned_more c below l more lower) (turned_early d stamp front after e below' is l' turns ended there turn may_not prompt lower') =
      absurd (let low = turns c.0 below in omega (arith, more, low))
  rests_one w v u (turned_more c below l more lower) (all_well l' turns ended prompt) = absurd (let low = turns c.0 below in omega (arith, more, low))
  rests_one w v u (goes_on l turns faulty) (left_else b) = absurd (b l)
  rests_one w v u (goes_on l turns faulty) (turned_more c below l' more lower) = absurd (let low = turns c.0 below in omega (arith, more, low))
  rests_one w v u (goes_on l turns faulty) (goes_on l' turns' faulty') = refl
  rests_one w v u (goes_on l turns faulty) (turned_early c stamp front after e below is l' turns' ended there turn may_not prompt lower) = absurd (faulty ended)
  rests_one w v u (goes_on l turns faulty) (all_well l' turns' ended prompt) = absurd (faulty ended)
  rests_one w v u (turned_early c stamp front after e below is l turns ended there turn may_not prompt lower) (left_else b) = absurd (b l)
  rests_one w v u (turned_early c stamp front after e below is l turns ended there turn may_not prompt lower) (turned_more d below' l' more lower') =
      absurd (let low = turns d.0 below' in omega (arith, more, low))
  rests_one w v u (turned_early c stamp front after e below is l turns ended there turn may_not prompt lower) (goes_on l' turns' faulty) = absurd (faulty ended)
  rests_one w v u (turned_early c stamp front after e below is l turns ended there turn may_not prompt lower) (turned_early d other back rear f below' is' l' turns' ended' there' turn' may_not' prompt' lower') =
      let same : c ≡ d =
      lowest (λ k. PromptFrom k [] (journal_of j k)) c d (unprompt c.0 front after e there turn may_not) (unprompt d.0 back rear f there' turn' may_not') lower lower' in
      let number : d.0 ≡ c.0 = ap (λ (k : ControllerId). k.0) (sym same) in
      let stamps : stamp ≡ other =
      first_turn c.0 stamp other front after back rear e f is is' (sym there ∙ ap (journal_of j) (sym number) ∙ there') turn turn' may_not
      (subst (λ (k : ℕ). MayTurn k back → ⊥) number may_not') prompt (subst (λ (k : ℕ). PromptFrom k [] back) number prompt') in
      λ i. verdicts.Prompt (same i) (stamps i)
  rests_one w v u (turned_early c stamp front after e below is l turns ended there turn may_not prompt lower) (all_well l' turns' ended' all) =
      absurd (unprompt c.0 front after e there turn may_not (all c.0 below))
  rests_one w v u (all_well l turns ended prompt) (left_else b) = absurd (b l)
  rests_one w v u (all_well l turns ended prompt) (turned_more c below l' more lower) = absurd (let low = turns c.0 below in omega (arith, more, low))
  rests_one w v u (all_well l turns ended prompt) (goes_on l' turns' faulty) = absurd (faulty ended)
  rests_one w v u (all_well l turns ended prompt) (turned_early c stamp front after e below is l' turns' ended' there turn may_not prompt' lower) =
      absurd (unprompt c.0 front after e there turn may_not (prompt c.0 below))
  rests_one w v u (all_well l turns ended prompt) (all_well l' turns' ended' prompt') = refl

  -- ---- where the merge leads

  data Shape : Verdict → Type 0 where
    unordered : (party : ControllerId) → (Rise (happened j party.0) → ⊥) → ((lower : ℕ) → lower < party.0 → Rise (happened j lower))
        → Shape (verdicts.Order party)
    unstarted : (c : ControllerId) → c.0 < n → (HasStarts model t c.0 (journal_of j c.0) → ⊥) → ((party : ℕ) → Rise (happened j party))
        → ((lower : ℕ) → lower < c.0 → HasStarts model t lower (journal_of j lower)) → Shape (verdicts.Start c)
    halted : (party : ControllerId) (stamp : Stamp) (e : Entry) (front behind : List Placed) (w : World (Body M)) → stamp.0 ≡ stamp_of e
        → Reaches model t (lines_of items) j front (record { party = party.0; entry = e } ∷ behind) w → IsRefused p w party.0 e
        → Shape (verdicts.Entry party stamp)
    arrived : (v : Verdict) (w : World (Body M)) → LeadsTo model t items fuel j w → Rest w v → Shape v

  shape_of : (v : Verdict) → IsVerdict model t items fuel j v → Shape v
  shape_of v (out_of_order party low faulty lower) = unordered party faulty lower
  shape_of v (wrong_start c below faulty rise lower) = unstarted c below faulty rise lower
  shape_of v (refused party stamp e front behind w stamped reaches refusal) = halted party stamp e front behind w stamped reaches refusal
  shape_of v (wrong_left w leads faulty) = arrived verdicts.Left w leads (left_else faulty)
  shape_of v (beyond_fuel c w below leaves more lower) = arrived (verdicts.Fuel c) w leaves.leads (turned_more c below leaves.left more lower)
  shape_of v (not_ended w keeps faulty) = arrived verdicts.Ended w keeps.leaves.leads (goes_on keeps.leaves.left keeps.fuelled faulty)
  shape_of v (not_prompt c stamp before after e w below stamped ends there turn faulty prompt lower) =
      arrived (verdicts.Prompt c stamp) w ends.keeps.leaves.leads
      (turned_early c stamp before after e below stamped ends.keeps.leaves.left ends.keeps.fuelled ends.ended there turn faulty prompt lower)
  shape_of v (lawful h) =
      let w : World (Body M) = h.run.lawful.run.end in
      arrived verdicts.Lawful w (lawful_leads model t items fuel j h)
      (all_well (left_at model t items fuel j h w refl) (turns_at model t items fuel j h w refl) (ended_at model t items fuel j h w refl) (lawful_prompt model t items fuel j h))

  -- a run takes each entry where it stands, so none is refused there
  pub taken : (front behind more : List Placed) (x : Placed) (w end : World (Body M)) → Runs p (start p) front w → IsRefused p w x.party x.entry
      → (whole : List Placed) → whole ≡ front ++ x ∷ more → Runs p (start p) whole end → ⊥
  taken front behind more x w end run refusal whole is all =
      let parts = run_split p (start p) end front (x ∷ more) (subst (λ (z : List Placed). Runs p (start p) z end) is all) in
      let same : parts.0 ≡ w = one_end p (start p) front parts.0 w parts.1 run in
      let rest : Runs p w (x ∷ more) end = subst (λ (z : World (Body M)). Runs p z (x ∷ more) end) same parts.2 in
      refusal rest.0 (record { ready = rest.1; does = rest.2 })

  pub merges_same : (xs ys : List Placed) → IsMerge (happened j) xs → IsMerge (happened j) ys → xs ≡ ys
  merges_same xs ys a b = one_merge xs ys a.ordered b.ordered (λ party. a.whole party ∙ sym (b.whole party))

  halted_arrived : (party : ℕ) (e : Entry) (front behind : List Placed) (w v : World (Body M))
      → Reaches model t (lines_of items) j front (record { party = party; entry = e } ∷ behind) w → IsRefused p w party e
      → LeadsTo model t items fuel j v → ⊥
  halted_arrived party e front behind w v reaches refusal leads =
      let r = leads.reaches in
      let same : leads.merge ≡ front ++ record { party = party; entry = e } ∷ behind =
      sym (append-nil leads.merge) ∙ merges_same (leads.merge ++ []) (front ++ record { party = party; entry = e } ∷ behind) r.is reaches.is in
      taken front behind behind (record { party = party; entry = e }) w v reaches.run refusal leads.merge same r.run

  module _ (party other : ControllerId) (stamp time : Stamp) (e f : Entry) (front behind back rear : List Placed) (w v : World (Body M))
      (is : stamp.0 ≡ stamp_of e) (is' : time.0 ≡ stamp_of f)
      (r : Reaches model t (lines_of items) j front (record { party = party.0; entry = e } ∷ behind) w) (refusal : IsRefused p w party.0 e)
      (r' : Reaches model t (lines_of items) j back (record { party = other.0; entry = f } ∷ rear) v) (refusal' : IsRefused p v other.0 f) where
    abbrev x : Placed
    x = record { party = party.0; entry = e }

    abbrev y : Placed
    y = record { party = other.0; entry = f }

    by_cut : Cuts front x back y → verdicts.Entry party stamp ≡ verdicts.Entry other time
    by_cut (one_cut fronts placed) =
        let parties : party.0 ≡ other.0 = ap (λ (z : Placed). z.party) placed in
        let stamps : stamp.0 ≡ time.0 = is ∙ ap (λ (z : Placed). stamp_of z.entry) placed ∙ sym is' in
        λ i. verdicts.Entry (record { 0 = parties i }) (record { 0 = stamps i })
    by_cut (further more same) = absurd (taken front behind more x w v r.run refusal back same r'.run)
    by_cut (nearer more same) = absurd (taken back rear more y v w r'.run refusal' front same r.run)

    one_halt : verdicts.Entry party stamp ≡ verdicts.Entry other time
    one_halt = by_cut (cuts front x behind back y rear (merges_same (front ++ x ∷ behind) (back ++ y ∷ rear) r.is r'.is))

  shapes_one : (v u : Verdict) → Shape v → Shape u → v ≡ u
  shapes_one v u (unordered party faulty lower) (unordered other faulty' lower') =
      ap verdicts.Order (lowest (λ k. Rise (happened j k)) party other faulty faulty' lower lower')
  shapes_one v u (unordered party faulty lower) (unstarted c below wrong rise started) = absurd (faulty (rise party.0))
  shapes_one v u (unordered party faulty lower) (halted other stamp e front after w is r refusal) = absurd (faulty (r.ordered party.0))
  shapes_one v u (unordered party faulty lower) (arrived z w leads rest) = absurd (faulty (leads.reaches.ordered party.0))
  shapes_one v u (unstarted c below wrong rise started) (unordered party faulty lower) = absurd (faulty (rise party.0))
  shapes_one v u (unstarted c below wrong rise started) (unstarted d below' wrong' rise' started') =
      ap verdicts.Start (lowest (λ k. HasStarts model t k (journal_of j k)) c d wrong wrong' started started')
  shapes_one v u (unstarted c below wrong rise started) (halted other stamp e front after w is r refusal) = absurd (wrong (r.started c.0 below))
  shapes_one v u (unstarted c below wrong rise started) (arrived z w leads rest) = absurd (wrong (leads.reaches.started c.0 below))
  shapes_one v u (halted party stamp e front after w is r refusal) (unordered other faulty lower) = absurd (faulty (r.ordered other.0))
  shapes_one v u (halted party stamp e front after w is r refusal) (unstarted c below wrong rise started) = absurd (wrong (r.started c.0 below))
  shapes_one v u (halted party stamp e front after w is r refusal) (halted other time f back rear x is' r' refusal') =
      one_halt party other stamp time e f front after back rear w x is is' r refusal r' refusal'
  shapes_one v u (halted party stamp e front after w is r refusal) (arrived z x leads rest) =
      absurd (halted_arrived party.0 e front after w x r refusal leads)
  shapes_one v u (arrived s w leads rest) (unordered party faulty lower) = absurd (faulty (leads.reaches.ordered party.0))
  shapes_one v u (arrived s w leads rest) (unstarted c below wrong rise started) = absurd (wrong (leads.reaches.started c.0 below))
  shapes_one v u (arrived s w leads rest) (halted party stamp e front after x is r refusal) = absurd (halted_arrived party.0 e front after x w r refusal leads)
  shapes_one v u (arrived s w leads rest) (arrived z x leads' rest') =
      let a = leads.reaches in
      let b = leads'.reaches in
      let merges : leads.merge ≡ leads'.merge =
      sym (append-nil leads.merge) ∙ merges_same (leads.merge ++ []) (leads'.merge ++ []) a.is b.is ∙ append-nil leads'.merge in
      let same : w ≡ x = one_end p (start p) leads'.merge w x (subst (λ (z : List Placed). Runs p (start p) z w) merges a.run) b.run in
      rests_one x s z (subst (λ (k : World (Body M)). Rest k s) same rest) rest'

  pub one_verdict : (v u : Verdict) → IsVerdict model t items fuel j v → IsVerdict model t items fuel j u → v ≡ u
  one_verdict v u a b = shapes_one v u (shape_of v a) (shape_of u b)
