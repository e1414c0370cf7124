-- What the lines of a journal tell of a party's events are these events: of a fetch from whom it is, and, by
-- the post that it names, at which priority.
use Rattle.std.proofs.Common.{◌≡◌, ℕ, ◌<◌, ◌≤◌, ◌==◌, nat_lt, if◌then◌else◌, Bool, true, false, cond, List, [], ◌∷◌, ◌++◌, map, length, refl, sym, ap, ap₂, ◌∙◌, subst, eqb-true, eq-eqb, arith, ◌⊎◌, inl, inr}
use Rattle.std.specs.Prelude.{codes, decimal}
use Rattle.std.proofs.lemmas.Bool.{ltb-false}
use Rattle.std.proofs.lemmas.Fmt.{decimal_injective}
use Rattle.room_kinds.specs.declared.message.Msg.{Msg}
use Rattle.room_wiring.specs.declared.tables.Tables.{Tables}
use Rattle.journal.specs.declared.entry.Entry.{Entry}
use Rattle.journal.specs.declared.entry.Entry.TheVariants as entry
use Rattle.journal.specs.Names.{party_text}
use Rattle.actor_merge.specs.Mail.{Fetch, event_of}
use Rattle.tied_journals.specs.Tied.{posted_at}
use Rattle.journal_reader.specs.journal_lines.Numerals.{upto, past, begins_digit}
use Rattle.journal_reader.proofs.journal_lines.Cutting.{upto_at, past_at}
use Rattle.law_runs.proofs.run_texts.Plain.{number_begins, party_lacks}
use Rattle.law_runs.proofs.run_texts.Rows.{Told, Posted, word, told}

-- ---- parties

decimals_same : (a b : ℕ) → a ≤ 255 → b ≤ 255 → decimal a ≡ decimal b → a ≡ b
decimals_same a b p q e = decimal_injective a b (omega arith) (omega arith) e

-- no number is written `env`
not_environment : (a : ℕ) → decimal a ≡ codes "env" → ⊥
not_environment a e =
    let digit : begins_digit (decimal a ++ []) ≡ true = number_begins a [] in
    let word : begins_digit (decimal a ++ []) ≡ false = ap (λ (w : List ℕ). begins_digit (w ++ [])) e in
    absurd cc

party_same : (t : Tables) (a b : ℕ) → length t.controllers ≤ 255 → a ≤ length t.controllers → b ≤ length t.controllers
    → party_text t a ≡ party_text t b → a ≡ b
party_same t a b few p q e = go (nat_lt a (length t.controllers)) refl (nat_lt b (length t.controllers)) refl e
  where
    go : (x : Bool) → nat_lt a (length t.controllers) ≡ x → (y : Bool) → nat_lt b (length t.controllers) ≡ y
        → cond x (decimal a) (codes "env") ≡ cond y (decimal b) (codes "env") → a ≡ b
    go true f true g k = decimals_same a b (omega arith) (omega arith) k
    go true f false g k = absurd (not_environment a k)
    go false f true g k = absurd (not_environment b (sym k))
    go false f false g k = let last = ltb-false a (length t.controllers) f in let also = ltb-false b (length t.controllers) g in omega arith

-- whom a word names
pub same_sender : (t : Tables) (m k : Msg) → length t.controllers ≤ 255 → m.from.0 ≤ length t.controllers → k.from.0 ≤ length t.controllers
    → word t m ≡ word t k → m.from.0 ≡ k.from.0
same_sender t m k few a b e =
    party_same t m.from.0 k.from.0 few a b
    (sym (upto_at 64 (party_text t m.from.0) (decimal m.stamp.0) (party_lacks 64 t m.from.0 refl refl)) ∙ ap (upto 64) e
    ∙ upto_at 64 (party_text t k.from.0) (decimal k.stamp.0) (party_lacks 64 t k.from.0 refl refl))

-- and which of its posts
pub same_sent : (t : Tables) (m k : Msg) → word t m ≡ word t k → decimal m.stamp.0 ≡ decimal k.stamp.0
same_sent t m k e =
    sym (past_at 64 (party_text t m.from.0) (decimal m.stamp.0) (party_lacks 64 t m.from.0 refl refl)) ∙ ap (past 64) e
    ∙ past_at 64 (party_text t k.from.0) (decimal k.stamp.0) (party_lacks 64 t k.from.0 refl refl)

-- ---- posts

abbrev pub Has : {A : Type 0} → A → List A → Type 0
Has x [] = ⊥
Has x (y ∷ ys) = (x ≡ y) ⊎ Has x ys

-- what is posted at a stamp is told
posted_told : (t : Tables) (s : ℕ) (x : Msg) (es : List Entry) → Has x (posted_at s es) → Has (Posted (decimal s) (decimal x.prio.0)) (told t es)
posted_told t s x [] h = h
posted_told t s x (entry.Start who state ns ∷ es) h = posted_told t s x es h
posted_told t s x (entry.Fetch stamp m ∷ es) h = inr (posted_told t s x es h)
posted_told t s x (entry.Turn stamp from sent did ns ∷ es) h = inr (posted_told t s x es h)
posted_told t s x (entry.Post stamp m ∷ es) h = go (stamp.0 == s) refl h (λ k. posted_told t s x es k)
  where
    go : (b : Bool) → (stamp.0 == s) ≡ b → Has x ((if b then m ∷ [] else []) ++ posted_at s es)
        → (Has x (posted_at s es) → Has (Posted (decimal s) (decimal x.prio.0)) (told t es))
        → (Posted (decimal s) (decimal x.prio.0) ≡ Posted (decimal stamp.0) (decimal m.prio.0)) ⊎ Has (Posted (decimal s) (decimal x.prio.0)) (told t es)
    go true e (inl is) more = inl (ap₂ Posted (ap decimal (sym (eqb-true stamp.0 s e))) (ap (λ (y : Msg). decimal y.prio.0) is))
    go true e (inr there) more = inr (more there)
    go false e there more = inr (more there)

-- a post of which a line tells
record IsPostOf (es : List Entry) (stamp prio : List ℕ) : Type 0 where
  pub at : ℕ
  pub message : Msg
  pub posted : Has message (posted_at at es)
  pub stamp_is : decimal at ≡ stamp
  pub priority_is : decimal message.prio.0 ≡ prio

later : (e : Entry) (es : List Entry) (a b : List ℕ) → ((s : ℕ) (x : Msg) → Has x (posted_at s es) → Has x (posted_at s (e ∷ es))) → IsPostOf es a b → IsPostOf (e ∷ es) a b
later e es a b there p = record { at = p.at; message = p.message; posted = there p.at p.message p.posted; stamp_is = p.stamp_is; priority_is = p.priority_is }

behind_one : (stamp s : ℕ) (m x : Msg) (ms : List Msg) → Has x ms → Has x ((if stamp == s then m ∷ [] else []) ++ ms)
behind_one stamp s m x ms h = go (stamp == s)
  where
    go : (b : Bool) → Has x ((if b then m ∷ [] else []) ++ ms)
    go true = inr h
    go false = h

told_posted : (t : Tables) (a b : List ℕ) (es : List Entry) → Has (Posted a b) (told t es) → IsPostOf es a b
told_posted t a b [] h = absurd h
told_posted t a b (entry.Start who state ns ∷ es) h = later (entry.Start who state ns) es a b (λ s x k. k) (told_posted t a b es h)
told_posted t a b (entry.Fetch stamp m ∷ es) (inl e) = absurd cc
told_posted t a b (entry.Fetch stamp m ∷ es) (inr h) = later (entry.Fetch stamp m) es a b (λ s x k. k) (told_posted t a b es h)
told_posted t a b (entry.Turn stamp from sent did ns ∷ es) (inl e) = absurd cc
told_posted t a b (entry.Turn stamp from sent did ns ∷ es) (inr h) = later (entry.Turn stamp from sent did ns) es a b (λ s x k. k) (told_posted t a b es h)
told_posted t a b (entry.Post stamp m ∷ es) (inl e) = record {
  at = stamp.0;
  message = m;
  posted = subst (λ (q : Bool). Has m ((if q then m ∷ [] else []) ++ posted_at stamp.0 es)) (sym (eq-eqb stamp.0 stamp.0 refl)) (inl refl);
  stamp_is = let same : a ≡ decimal stamp.0 = cc in sym same;
  priority_is = let same : b ≡ decimal m.prio.0 = cc in sym same;
}
told_posted t a b (entry.Post stamp m ∷ es) (inr h) =
    later (entry.Post stamp m) es a b (λ s x k. behind_one stamp.0 s m x (posted_at s es) k) (told_posted t a b es h)

-- stamps at which something is posted are numbers of 64 bits
abbrev pub PostsInTime : List Entry → Type 0
PostsInTime es = (s : ℕ) (x : Msg) → Has x (posted_at s es) → s < 18446744073709551616

only : (x k : Msg) → Has x (k ∷ []) → x ≡ k
only x k (inl e) = e
only x k (inr h) = absurd h

-- where two journals tell the same posts, the only posts that a word names have one priority
pub same_priority : (t : Tables) (m k : Msg) (es fs : List Entry) → told t es ≡ told t fs → posted_at m.stamp.0 es ≡ m ∷ [] → posted_at k.stamp.0 fs ≡ k ∷ []
    → PostsInTime fs → m.prio.0 ≤ 5 → k.prio.0 ≤ 5 → decimal m.stamp.0 ≡ decimal k.stamp.0 → m.prio.0 ≡ k.prio.0
same_priority t m k es fs same m_posted k_posted timely a b sent =
    let mine : Has (Posted (decimal m.stamp.0) (decimal m.prio.0)) (told t es) = posted_told t m.stamp.0 m es (subst (Has m) (sym m_posted) (inl refl)) in
    let there : IsPostOf fs (decimal m.stamp.0) (decimal m.prio.0) = told_posted t (decimal m.stamp.0) (decimal m.prio.0) fs (subst (Has (Posted (decimal m.stamp.0) (decimal m.prio.0))) same mine) in
    let at : there.at ≡ k.stamp.0 =
    decimal_injective there.at k.stamp.0 (timely there.at there.message there.posted) (timely k.stamp.0 k (subst (Has k) (sym k_posted) (inl refl))) (there.stamp_is ∙ sent) in
    let one : there.message ≡ k = only there.message k (subst (Has there.message) (ap (λ (s : ℕ). posted_at s fs) at ∙ k_posted) there.posted) in
    decimals_same m.prio.0 k.prio.0 (omega arith) (omega arith) (sym there.priority_is ∙ ap (λ (y : Msg). decimal y.prio.0) one)

-- ---- events

-- what happened, and what is known of each fetched message
abbrev pub AllHappened : (Msg → Type 0) → List Entry → Type 0
AllHappened P [] = Unit {0}
AllHappened P (entry.Start who state ns ∷ es) = ⊥
AllHappened P (entry.Fetch stamp m ∷ es) = P m × AllHappened P es
AllHappened P (entry.Turn stamp from sent did ns ∷ es) = AllHappened P es
AllHappened P (entry.Post stamp m ∷ es) = AllHappened P es

-- two messages of one word are fetched by one event
abbrev pub OneFetch : Tables → (Msg → Type 0) → (Msg → Type 0) → Type 0
OneFetch t P Q = (m k : Msg) → P m → Q k → word t m ≡ word t k → Fetch m.from.0 m.prio.0 ≡ Fetch k.from.0 k.prio.0

pub same_events : (t : Tables) (P Q : Msg → Type 0) (one : OneFetch t P Q) (ds es : List Entry) → AllHappened P ds → AllHappened Q es
    → told t ds ≡ told t es → map event_of ds ≡ map event_of es
same_events t P Q one [] [] h k e = refl
same_events t P Q one [] (entry.Start who state ns ∷ es) h k e = absurd k
same_events t P Q one [] (entry.Fetch stamp m ∷ es) h k e = absurd cc
same_events t P Q one [] (entry.Turn stamp from sent did ns ∷ es) h k e = absurd cc
same_events t P Q one [] (entry.Post stamp m ∷ es) h k e = absurd cc
same_events t P Q one (entry.Start who state ns ∷ ds) es h k e = absurd h
same_events t P Q one (entry.Fetch stamp m ∷ ds) [] h k e = absurd cc
same_events t P Q one (entry.Fetch stamp m ∷ ds) (entry.Start who state ns ∷ es) h k e = absurd k
same_events t P Q one (entry.Fetch stamp m ∷ ds) (entry.Fetch other y ∷ es) h k e =
    let named : word t m ≡ word t y = cc in
    let rest : told t ds ≡ told t es = cc in
    let first = one m y h.0 k.0 named in
    let more = same_events t P Q one ds es h.1 k.1 rest in
    λ i. first i ∷ more i
same_events t P Q one (entry.Fetch stamp m ∷ ds) (entry.Turn other from sent did ns ∷ es) h k e = absurd cc
same_events t P Q one (entry.Fetch stamp m ∷ ds) (entry.Post other y ∷ es) h k e = absurd cc
same_events t P Q one (entry.Turn stamp from sent did ns ∷ ds) [] h k e = absurd cc
same_events t P Q one (entry.Turn stamp from sent did ns ∷ ds) (entry.Start who state others ∷ es) h k e = absurd k
same_events t P Q one (entry.Turn stamp from sent did ns ∷ ds) (entry.Fetch other y ∷ es) h k e = absurd cc
same_events t P Q one (entry.Turn stamp from sent did ns ∷ ds) (entry.Turn other f s d others ∷ es) h k e =
    let rest : told t ds ≡ told t es = cc in let more = same_events t P Q one ds es h k rest in λ i. event_of (entry.Turn stamp from sent did ns) ∷ more i
same_events t P Q one (entry.Turn stamp from sent did ns ∷ ds) (entry.Post other y ∷ es) h k e = absurd cc
same_events t P Q one (entry.Post stamp m ∷ ds) [] h k e = absurd cc
same_events t P Q one (entry.Post stamp m ∷ ds) (entry.Start who state ns ∷ es) h k e = absurd k
same_events t P Q one (entry.Post stamp m ∷ ds) (entry.Fetch other y ∷ es) h k e = absurd cc
same_events t P Q one (entry.Post stamp m ∷ ds) (entry.Turn other from sent did ns ∷ es) h k e = absurd cc
same_events t P Q one (entry.Post stamp m ∷ ds) (entry.Post other y ∷ es) h k e =
    let rest : told t ds ≡ told t es = cc in let more = same_events t P Q one ds es h k rest in λ i. event_of (entry.Post stamp m) ∷ more i
