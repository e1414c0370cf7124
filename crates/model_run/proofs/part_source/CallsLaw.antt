-- The journals grow from call to call of a source.
use Rattle.std.proofs.Common.{◌≡◌, ℕ, zero, suc, ◌≤◌, inl, inr, List, [], ◌∷◌, ◌++◌, map, length, slice_index_or, Result, Ok, Err, IfOk, refl, sym, ap, ◌∙◌, arith, append_assoc, append-nil}
use Rattle.std.proofs.lemmas.Bool.{cases_lt}
use Rattle.room_kinds.specs.declared.message.Msg.{Msg}
use Rattle.journal.specs.declared.entry.Entry.{Entry}
use Rattle.mail_core.specs.EndLog.{EndLog}
use Rattle.controller_mail.specs.MailState.{EnvironmentState}
use Rattle.controller_actors.specs.declared.plant.Plant.{Plant}
use Rattle.controller.specs.View.{Controller}
use Rattle.controller.proofs.Standing.{some_at}
use Rattle.model_run.specs.joined_round.Joined.{AllStand, RoundDone}
use Rattle.model_run.specs.part_source.Calls.{Seen, seen, Grew, MayAsk, not_asked, asked, Asks, Asked, never, once_more}
use Rattle.model_run.proofs.run_ends.ToldLaw.{map_at}

pub grew_none : (s : Seen) → Grew s s
grew_none s = record {
  controllers = λ c. ([], sym (append-nil (slice_index_or s.controllers c [])));
  environment = ([], sym (append-nil s.environment));
}

more_then : (a b c x y : List Entry) → b ≡ a ++ x → c ≡ b ++ y → c ≡ a ++ (x ++ y)
more_then a b c x y h k = k ∙ ap (λ (z : List Entry). z ++ y) h ∙ append_assoc a x y

pub grew_then : (a b c : Seen) → Grew a b → Grew b c → Grew a c
grew_then a b c g h = record {
  controllers = λ p. (
    (g.controllers p).0 ++ (h.controllers p).0,
    more_then (slice_index_or a.controllers p []) (slice_index_or b.controllers p []) (slice_index_or c.controllers p []) (g.controllers p).0 (h.controllers p).0 (g.controllers p).1 (h.controllers p).1,
  );
  environment = (g.environment.0 ++ h.environment.0, more_then a.environment b.environment c.environment g.environment.0 h.environment.0 g.environment.1 h.environment.1);
}

-- the environment posted nothing
pub grew_same : (ks : List Controller) (old new : EnvironmentState) → new.journal ≡ old.journal → Grew (seen ks old) (seen ks new)
grew_same ks old new h = record {
  controllers = λ c. ([], sym (append-nil (slice_index_or (seen ks old).controllers c [])));
  environment = ([], h ∙ sym (append-nil old.journal));
}

-- the environment posted
pub grew_posts : (ks : List Controller) (old new : EnvironmentState) (es : List Entry) → new.journal ≡ old.journal ++ es → Grew (seen ks old) (seen ks new)
grew_posts ks old new es h = record {
  controllers = λ c. ([], sym (append-nil (slice_index_or (seen ks old).controllers c [])));
  environment = (es, h);
}

abbrev journal_in : Controller → List Entry
journal_in k = k.mail.journal

no_journal : (ks : List Controller) (c : ℕ) → length ks ≤ c → slice_index_or (map journal_in ks) c [] ≡ []
no_journal [] c h = refl
no_journal (k ∷ ks) zero h = absurd (omega arith)
no_journal (k ∷ ks) (suc c) h = no_journal ks c (omega arith)

-- all controllers joined in a round
pub grew_round : (plant : Plant) (ks news : List Controller) (env : EnvironmentState) (logs logs' : List EndLog) (answer : List (List Msg))
    → AllStand plant ks → RoundDone plant ks news logs logs' answer → Grew (seen ks env) (seen news env)
grew_round plant ks news env logs logs' answer stand done = record {
  controllers = λ c. elim (cases_lt c (length ks)) [
    | inl below ↦
        let o = some_at ks c below in
        let e = done.each c (omega (arith, stand.count)) o.0 o.1 in
        let j = e.2 in
        let works = j.works.did.entries in
        let fetches = j.fetches.entries in
        let turn = j.turn.entries in
        let old : slice_index_or (map journal_in ks) c [] ≡ journal_in o.0 = map_at journal_in ks c o.0 [] o.1 in
        let new : slice_index_or (map journal_in news) c [] ≡ journal_in e.0 = map_at journal_in news c e.0 [] e.1 in
        let last : journal_in e.0 ≡ journal_in j.worked ++ (fetches ++ turn) =
        more_then (journal_in j.worked) (journal_in j.fetched) (journal_in e.0) fetches turn j.fetches.goes.journal j.turn.goes.journal in
        let whole : journal_in e.0 ≡ journal_in o.0 ++ (works ++ (fetches ++ turn)) =
        more_then (journal_in o.0) (journal_in j.worked) (journal_in e.0) works (fetches ++ turn) j.works.did.goes.journal last in
        (works ++ (fetches ++ turn), new ∙ whole ∙ ap (λ (z : List Entry). z ++ (works ++ (fetches ++ turn))) (sym old))
    | inr past ↦ ([], no_journal news c (omega (arith, done.count)) ∙ sym (append-nil (slice_index_or (map journal_in ks) c []) ∙ no_journal ks c past))
  ];
  environment = ([], sym (append-nil env.journal));
}

module _ {S : Type 0} (goes_on : S → Seen → S → Type 0) (stood : S → Seen → Type 0) where
  -- the journals grew
  pub asked_grew : (start now : S) (before after : Seen) → Asked goes_on stood start now before → Grew before after → Asked goes_on stood start now after
  asked_grew start now before after (never js) g = never after
  asked_grew start now before after (once_more mid now' then js a s h grew) g = once_more mid now' then after a s h (grew_then then js after grew g)

  asked_may : (start old new : S) (before after : Seen) → Asked goes_on stood start old before → MayAsk goes_on stood old before new → Grew before after → Asked goes_on stood start new after
  asked_may start old new before after a not_asked g = asked_grew start old before after a g
  asked_may start old new before after a (asked now s h) g = once_more old now before after a s h g

  pub asked_then : (start old new : S) (before after : Seen) → Asked goes_on stood start old before → Asks goes_on stood old new before after → Asked goes_on stood start new after
  asked_then start old new before after a k = asked_may start old new before after a k.may k.grew

  -- and then the journals grew more
  pub asks_grew : (old new : S) (a b c : Seen) → Asks goes_on stood old new a b → Grew b c → Asks goes_on stood old new a c
  asks_grew old new a b c k g = record { may = k.may; grew = grew_then a b c k.grew g }

  pub asks_none : (s : S) (js : Seen) → Asks goes_on stood s s js js
  asks_none s js = record { may = not_asked; grew = grew_none js }

-- what a source keeps at each call it keeps over all of them
pub asked_keeps : {S X : Type 0} (f : S → X) (stood : S → Seen → Type 0) (start now : S) (js : Seen)
    → Asked (λ (old : S) (seen : Seen) (new : S). f new ≡ f old) stood start now js → f now ≡ f start
asked_keeps f stood start now js (never js') = refl
asked_keeps f stood start now js (once_more mid now' before js' a s h g) = h ∙ asked_keeps f stood start mid before a

-- what follows from what a call that ends well ensures
pub if_ok_then : {T E : Type 0} {P Q : T → Type 0} (r : Result T E) → ((x : T) → P x → Q x) → IfOk r P → IfOk r Q
if_ok_then (Ok x) f h = f x h
if_ok_then (Err e) f h = tt
