-- What commands do to the messages that an actor keeps for later, and to those that come back.
use Rattle.std.proofs.Common.{◌≡◌, ℕ, ◌+◌, ◌||◌, Bool, true, false, if◌then◌else◌, List, [], ◌∷◌, ◌++◌, Some, None, refl, sym, ap, ◌∙◌, eq-eqb, arith, ◌⊎◌, inl, inr}
use Rattle.std.proofs.lemmas.Bool.{cases_eq, ne_eqb}
use Rattle.std.specs.List.{list_any}
use Rattle.room_kinds.specs.declared.message.Msg.{Msg}
use Rattle.room_kinds.specs.declared.command.Command.{Command}
use Rattle.room_kinds.specs.declared.command.Command.TheVariants as commands
use Rattle.room_kinds.specs.declared.numbers.Incarnation.{Incarnation}
use Rattle.room_wiring.specs.declared.tables.Tables.{Tables}
use Rattle.actor_duties.specs.Words.{updated}
use Rattle.actor_duties.specs.Commands.{Kept, defer, recall, recall_all}
use Rattle.actor_world.specs.Body.{Doing, apply, apply_all}
use Rattle.actor_world.specs.world_laws.Counting.{count}
use Rattle.actor_world.specs.world_laws.Whereabouts.{is_defer}
use Rattle.actor_world.proofs.world_laws.Sums.{count-append}

pub updated_here : {A : Type 0} (f : ℕ → A) (at : ℕ) (v : A) (n : ℕ) → n ≡ at → updated f at v n ≡ v
unfolding updated
updated_here f at v n e = rw (eq-eqb n at e) refl

pub updated_there : {A : Type 0} (f : ℕ → A) (at : ℕ) (v : A) (n : ℕ) → (n ≡ at → ⊥) → updated f at v n ≡ f n
unfolding updated
updated_there f at v n h = rw (ne_eqb n at h) refl

-- where the new value is the old one, all stays
pub updated_same : {A : Type 0} (f : ℕ → A) (at : ℕ) (v : A) → v ≡ f at → (n : ℕ) → updated f at v n ≡ f n
updated_same {A} f at v h n = go (cases_eq n at)
  where
    go : (n ≡ at) ⊎ (n ≡ at → ⊥) → updated f at v n ≡ f n
    go (inl e) = updated_here f at v n e ∙ h ∙ ap f (sym e)
    go (inr k) = updated_there f at v n k

-- no deferred list changes, and nothing comes back
pub record Same {M : Type 0} (d e : Doing M) : Type 0 where
  pub deferred : (s : ℕ) → e.body.deferred s ≡ d.body.deferred s
  pub back : e.back ≡ d.back

pub same_itself : {M : Type 0} (d : Doing M) → Same d d
same_itself d = record { deferred = λ s. refl; back = refl }

pub same_two : {M : Type 0} (d e f : Doing M) → Same d e → Same e f → Same d f
same_two d e f h k = record { deferred = λ s. k.deferred s ∙ h.deferred s; back = k.back ∙ h.back }

-- without a message, and with nothing kept, a command keeps nothing and brings nothing back
defer_none : (b : Bool) (ms : List Msg) → ((defer b None ms).deferred ≡ ms) × ((defer b None ms).back ≡ [])
unfolding defer
defer_none true ms = (refl, refl)
defer_none false ms = (refl, refl)

recall_none : (ms : List Msg) → ms ≡ [] → ((recall ms).deferred ≡ ms) × ((recall ms).back ≡ [])
unfolding recall
recall_none [] h = (refl, refl)
recall_none (m ∷ ms) h = absurd cc

recall_all_none : (ms : List Msg) → ms ≡ [] → ((recall_all ms).deferred ≡ ms) × ((recall_all ms).back ≡ [])
unfolding recall_all
recall_all_none [] h = (refl, refl)
recall_all_none (m ∷ ms) h = absurd cc

back_none : (k : List Msg) (old : List Msg) → k ≡ [] → k ++ old ≡ old
back_none k old h = ap (λ (z : List Msg). z ++ old) h

module _ {M : Type 0} (t : Tables) (me : ℕ) (x : Incarnation) where
  apply_none : (d : Doing M) (c : Command) → d.body.deferred x.slot.0 ≡ [] → Same d (apply t me x None d c)
  apply_none d (commands.Send p k signal payload prio) h = record { deferred = λ s. refl; back = refl }
  apply_none d (commands.Frame c) h = record { deferred = λ s. refl; back = refl }
  apply_none d (commands.Name c) h = record { deferred = λ s. refl; back = refl }
  apply_none d commands.Defer h =
      let k = defer_none d.kept (d.body.deferred x.slot.0) in
      record { deferred = updated_same d.body.deferred x.slot.0 _ k.0; back = back_none _ d.back k.1 }
  apply_none d commands.Recall h =
      let k = recall_none (d.body.deferred x.slot.0) h in
      record { deferred = updated_same d.body.deferred x.slot.0 _ k.0; back = back_none _ d.back k.1 }
  apply_none d commands.RecallAll h =
      let k = recall_all_none (d.body.deferred x.slot.0) h in
      record { deferred = updated_same d.body.deferred x.slot.0 _ k.0; back = back_none _ d.back k.1 }

  -- an initial transition leaves all deferred lists as they are
  pub apply_all_none : (cs : List Command) (d : Doing M) → d.body.deferred x.slot.0 ≡ [] → Same d (apply_all t me x None cs d)
  apply_all_none [] d h = same_itself d
  apply_all_none (c ∷ cs) d h =
      let one : Same d (apply t me x None d c) = apply_none d c h in
      same_two d (apply t me x None d c) (apply_all t me x None cs (apply t me x None d c)) one
      (apply_all_none cs (apply t me x None d c) (one.deferred x.slot.0 ∙ h))

-- a number that counts once a message is kept
abbrev pub weight : Bool → ℕ → ℕ
weight kept n = if kept then n else 0

-- with a message at hand: what is kept and what came back is what was, and the message once it is kept
pub record Keeps {M : Type 0} (which : Msg → Bool) (m : Msg) (x : ℕ) (defers : Bool) (d e : Doing M) : Type 0 where
  pub others : (s : ℕ) → (s ≡ x → ⊥) → e.body.deferred s ≡ d.body.deferred s
  pub kept : e.kept ≡ (d.kept || defers)
  pub counts : (count which (e.body.deferred x) + count which e.back) + weight d.kept (count which (m ∷ []))
      ≡ (count which (d.body.deferred x) + count which d.back) + weight e.kept (count which (m ∷ []))

or_none : (b : Bool) → b ≡ (b || false)
or_none true = refl
or_none false = refl

or_some : (b : Bool) → true ≡ (b || true)
or_some true = refl
or_some false = refl

or_both : (a b c : Bool) → ((a || b) || c) ≡ (a || (b || c))
or_both true b c = refl
or_both false b c = refl

defer_counts : (which : Msg → Bool) (b : Bool) (m : Msg) (ms : List Msg)
    → (count which (defer b (Some m) ms).deferred + count which (defer b (Some m) ms).back) + weight b (count which (m ∷ []))
    ≡ count which ms + count which (m ∷ [])
unfolding defer
defer_counts which true m ms = omega arith
defer_counts which false m ms = let h = count-append which ms (m ∷ []) in omega (arith, h)

recall_counts : (which : Msg → Bool) (ms : List Msg) → count which (recall ms).deferred + count which (recall ms).back ≡ count which ms
unfolding recall
recall_counts which [] = omega arith
recall_counts which (m ∷ ms) = omega arith

recall_all_counts : (which : Msg → Bool) (ms : List Msg) → count which (recall_all ms).deferred + count which (recall_all ms).back ≡ count which ms
unfolding recall_all
recall_all_counts which ms = omega arith

module _ {M : Type 0} (which : Msg → Bool) (t : Tables) (me : ℕ) (x : Incarnation) (m : Msg) where
  no_keeps : (d e : Doing M) → e.body.deferred ≡ d.body.deferred → e.back ≡ d.back → e.kept ≡ d.kept → Keeps which m x.slot.0 false d e
  no_keeps d e f b k =
      record {
        others = λ s n. ap (λ (z : ℕ → List Msg). z s) f;
        kept = k ∙ or_none d.kept;
        counts = rw (f, b, k) refl;
      }

  -- a command on the deferred list of the own slot
  own_keeps : (d : Doing M) (kept defers : Bool) (k : Kept) → kept ≡ (d.kept || defers)
      → (count which k.deferred + count which k.back) + weight d.kept (count which (m ∷ [])) ≡ count which (d.body.deferred x.slot.0) + weight kept (count which (m ∷ []))
      → (e : Doing M) → e.body.deferred ≡ updated d.body.deferred x.slot.0 k.deferred → e.back ≡ k.back ++ d.back → e.kept ≡ kept
      → Keeps which m x.slot.0 defers d e
  own_keeps d kept defers k is counts e f b g =
      let here : e.body.deferred x.slot.0 ≡ k.deferred =
      ap (λ (z : ℕ → List Msg). z x.slot.0) f ∙ updated_here d.body.deferred x.slot.0 k.deferred x.slot.0 refl in
      let a = count-append which k.back d.back in
      record {
        others = λ s n. ap (λ (z : ℕ → List Msg). z s) f ∙ updated_there d.body.deferred x.slot.0 k.deferred s n;
        kept = g ∙ is;
        counts = rw (here, b, g) (omega (arith, a, counts));
      }

  apply_keeps : (d : Doing M) (c : Command) → Keeps which m x.slot.0 (is_defer c) d (apply t me x (Some m) d c)
  apply_keeps d (commands.Send p k signal payload prio) = no_keeps d (apply t me x (Some m) d (commands.Send p k signal payload prio)) refl refl refl
  apply_keeps d (commands.Frame c) = no_keeps d (apply t me x (Some m) d (commands.Frame c)) refl refl refl
  apply_keeps d (commands.Name c) = no_keeps d (apply t me x (Some m) d (commands.Name c)) refl refl refl
  apply_keeps d commands.Defer =
      own_keeps d true true (defer d.kept (Some m) (d.body.deferred x.slot.0)) (or_some d.kept) (defer_counts which d.kept m (d.body.deferred x.slot.0))
      (apply t me x (Some m) d commands.Defer) refl refl refl
  apply_keeps d commands.Recall =
      own_keeps d d.kept false (recall (d.body.deferred x.slot.0)) (or_none d.kept)
      (ap (λ n. n + weight d.kept (count which (m ∷ []))) (recall_counts which (d.body.deferred x.slot.0)))
      (apply t me x (Some m) d commands.Recall) refl refl refl
  apply_keeps d commands.RecallAll =
      own_keeps d d.kept false (recall_all (d.body.deferred x.slot.0)) (or_none d.kept)
      (ap (λ n. n + weight d.kept (count which (m ∷ []))) (recall_all_counts which (d.body.deferred x.slot.0)))
      (apply t me x (Some m) d commands.RecallAll) refl refl refl

  pub apply_all_keeps : (cs : List Command) (d : Doing M) → Keeps which m x.slot.0 (list_any is_defer cs) d (apply_all t me x (Some m) cs d)
  apply_all_keeps [] d = no_keeps d d refl refl refl
  apply_all_keeps (c ∷ cs) d =
      let mid : Doing M = apply t me x (Some m) d c in
      let one : Keeps which m x.slot.0 (is_defer c) d mid = apply_keeps d c in
      let rest : Keeps which m x.slot.0 (list_any is_defer cs) mid (apply_all t me x (Some m) cs mid) = apply_all_keeps cs mid in
      record {
        others = λ s n. rest.others s n ∙ one.others s n;
        kept = rest.kept ∙ ap (λ b. b || list_any is_defer cs) one.kept ∙ or_both d.kept (is_defer c) (list_any is_defer cs);
        counts = let a = one.counts in let b = rest.counts in omega (arith, a, b);
      }
