-- In a journal whose stamps rise one post has a stamp.
use Rattle.std.proofs.Common.{◌≡◌, ℕ, ◌+◌, ◌<◌, ◌≤◌, ◌==◌, Bool, true, false, if◌then◌else◌, List, [], ◌∷◌, ◌++◌, refl, sym, ap, ◌∙◌, subst, eq-eqb, arith, ◌⊎◌, inl, inr, ⊎_elim}
use Rattle.std.specs.List.{Contains}
use Rattle.std.proofs.lemmas.Bool.{cases_eq, ne_eqb}
use Rattle.std.proofs.lemmas.List.Elements.{Contains-append_left, Contains-append_right, Contains-append_cases, Contains-push, Contains-push_cases}
use Rattle.room_kinds.specs.declared.message.Msg.{Msg}
use Rattle.room_kinds.specs.declared.numbers.Stamp.{Stamp}
use Rattle.journal.specs.declared.entry.Entry.{Entry}
use Rattle.journal.specs.declared.entry.Entry.TheVariants as entry
use Rattle.actor_merge.specs.Mail.{stamp_of}
use Rattle.actor_merge.specs.Merge.{Rising, IsStamped, AllStamped}
use Rattle.actor_world.specs.world_laws.Whereabouts.{fetched}
use Rattle.law_runs.specs.Mail.{posted}
use Rattle.law_runs.specs.Stamps.{events, Rise}
use Rattle.tied_journals.specs.Tied.{posted_by, posted_at}

-- ---- entries in lists

module _ {X : Type 0} where
  pub none_in : (x : X) → Contains [] x → ⊥
  none_in x h = omega (arith, h.1)

  pub first_or_later : (y : X) (ys : List X) (x : X) → Contains (y ∷ ys) x → (y ≡ x) ⊎ Contains ys x
  first_or_later y ys x h =
      ⊎_elim (λ a. ⊎_elim (λ none. absurd (none_in x none)) (λ same. inl same) (Contains-push_cases [] y x a))
      (λ b. inr b) (Contains-append_cases (y ∷ []) ys x h)

  pub as_first : (x : X) (ys : List X) → Contains (x ∷ ys) x
  as_first x ys = Contains-append_left (x ∷ []) ys x (Contains-push [] x)

  pub as_later : (y : X) (ys : List X) (x : X) → Contains ys x → Contains (y ∷ ys) x
  as_later y ys x h = Contains-append_right (y ∷ []) ys x h

-- what an entry fetches is fetched
pub entry_fetched : (es : List Entry) (stamp : Stamp) (m : Msg) → Contains es (entry.Fetch stamp m) → Contains (fetched es) m
entry_fetched [] stamp m h = absurd (none_in (entry.Fetch stamp m) h)
entry_fetched (e ∷ es) stamp m h =
    ⊎_elim (λ same. subst (λ (z : Entry). Contains (fetched (z ∷ es)) m) (sym same) (as_first m (fetched es)))
    (λ there. later e (entry_fetched es stamp m there)) (first_or_later e es (entry.Fetch stamp m) h)
  where
    later : (e : Entry) → Contains (fetched es) m → Contains (fetched (e ∷ es)) m
    later (entry.Start who state notes) there = there
    later (entry.Fetch s y) there = as_later y (fetched es) m there
    later (entry.Turn s from sent did notes) there = there
    later (entry.Post s y) there = there

-- ---- one post has a stamp

none_later : (k j : ℕ) → k ≤ j → (es : List Entry) → Rising j (events es) → posted_at k es ≡ []
none_later k j low [] r = refl
none_later k j low (entry.Start who state notes ∷ es) r = none_later k j low es r
none_later k j low (entry.Fetch stamp m ∷ es) r = let step : j < stamp.0 = r.0 in none_later k stamp.0 (omega (arith, low, step)) es r.1
none_later k j low (entry.Turn stamp from sent did notes ∷ es) r = let step : j < stamp.0 = r.0 in none_later k stamp.0 (omega (arith, low, step)) es r.1
none_later k j low (entry.Post stamp m ∷ es) r =
    let step : j < stamp.0 = r.0 in
    ap (λ (b : Bool). (if b then m ∷ [] else []) ++ posted_at k es) (ne_eqb stamp.0 k (λ e. omega (arith, low, step, e)))
    ∙ none_later k stamp.0 (omega (arith, low, step)) es r.1

rising_rise : (k : ℕ) (es : List Entry) → Rising k es → Rise es
rising_rise k [] r = tt
rising_rise k (e ∷ es) r = r.1

rise_later : (e : Entry) (es : List Entry) → Rise (events (e ∷ es)) → Rise (events es)
rise_later (entry.Start who state notes) es r = r
rise_later (entry.Fetch stamp m) es r = rising_rise stamp.0 (events es) r
rise_later (entry.Turn stamp from sent did notes) es r = rising_rise stamp.0 (events es) r
rise_later (entry.Post stamp m) es r = rising_rise stamp.0 (events es) r

-- what a journal posts is its only post with that stamp
pub only_post : (es : List Entry) → Rise (events es) → AllStamped es → (m : Msg) → Contains (posted es) m → posted_at m.stamp.0 es ≡ m ∷ []
only_post [] r s m h = absurd (none_in m h)
only_post (e ∷ es) r s m h = go e r s.0 h (only_post es (rise_later e es r) s.1 m)
  where
    go : (e : Entry) → Rise (events (e ∷ es)) → IsStamped e → Contains (posted (e ∷ es)) m → (Contains (posted es) m → posted_at m.stamp.0 es ≡ m ∷ [])
        → posted_at m.stamp.0 (e ∷ es) ≡ m ∷ []
    go (entry.Start who state notes) rise i k ih = ih k
    go (entry.Fetch stamp y) rise i k ih = ih k
    go (entry.Turn stamp from sent did notes) rise i k ih = ih k
    go (entry.Post stamp y) rise i k ih = post (cases_eq stamp.0 m.stamp.0) (first_or_later y (posted es) m k)
      where
        here : (b : Bool) → (stamp.0 == m.stamp.0) ≡ b → (rest : List Msg) → posted_at m.stamp.0 es ≡ rest
            → posted_at m.stamp.0 (entry.Post stamp y ∷ es) ≡ (if b then y ∷ [] else []) ++ rest
        here b e rest is =
            ap (λ (z : Bool). (if z then y ∷ [] else []) ++ posted_at m.stamp.0 es) e ∙ ap (λ (z : List Msg). (if b then y ∷ [] else []) ++ z) is

        -- a later post is stamped later
        never : stamp.0 ≡ m.stamp.0 → Contains (posted es) m → ⊥
        never same there =
            let none : posted_at m.stamp.0 es ≡ [] = none_later m.stamp.0 stamp.0 (omega (arith, same)) es rise in
            let both : ◌≡◌ {A = List Msg} (m ∷ []) [] = sym (ih there) ∙ none in
            absurd cc

        post : (stamp.0 ≡ m.stamp.0) ⊎ (stamp.0 ≡ m.stamp.0 → ⊥) → (y ≡ m) ⊎ Contains (posted es) m → posted_at m.stamp.0 (entry.Post stamp y ∷ es) ≡ m ∷ []
        post (inl same) (inl first) =
            here true (eq-eqb stamp.0 m.stamp.0 same) [] (none_later m.stamp.0 stamp.0 (omega (arith, same)) es rise) ∙ ap (λ (z : Msg). z ∷ []) first
        post (inl same) (inr there) = absurd (never same there)
        post (inr other) (inl first) = absurd (other (sym i ∙ ap (λ (z : Msg). z.stamp.0) first))
        post (inr other) (inr there) = here false (ne_eqb stamp.0 m.stamp.0 other) (m ∷ []) (ih there)
