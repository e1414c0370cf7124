-- A poll whose messages are fetched one after another.
use Rattle.std.proofs.Common.{◌≡◌, ℕ, suc, ◌+◌, ◌<◌, max, true, List, [], ◌∷◌, ◌++◌, length, All, Option, Some, None, refl, sym, ap, ◌∙◌, subst, arith, add-one, append_assoc, append-nil, length-append}
use Rattle.std.proofs.lemmas.List.Elements.{All-head, All-tail}
use Rattle.room_kinds.specs.declared.message.Msg.{Msg}
use Rattle.room_kinds.specs.declared.numbers.ControllerId.{ControllerId}
use Rattle.mail_core.specs.EndLog.{EndLog, taking}
use Rattle.mail_core.specs.Takes.{IsOfBox, KeepsToLevel, OwnIsTaken, PollsBox, PollsBoxes, taking_all}
use Rattle.mail_core.proofs.PollLemmas.{Looked, Looked-none, Looked-found, polls_full, polls_fewer, party-taking, parties-taking}
use Rattle.controller_mail.specs.MailState.{MailState}
use Rattle.controller_mail.specs.Steps.{Fetches}
use Rattle.controller_mail.specs.Within.{IsAnswerable, WaitsWithin}
use Rattle.controller_mail.specs.controller_moves.Moves.{FetchesEach, PollsBoxInto}
use Rattle.controller_mail.proofs.controller_moves.Looked.{Took, Took-join, Took-look, Took-looks}
use Rattle.controller_mail.proofs.Waiting.{fetch_waits}
use Rattle.controller_mail.proofs.controller_moves.Replayed.{fetched_at, fetch_entries, FetchesEach-journal}
use Rattle.controller.specs.Controllers.{EndGoes}
use Rattle.controller.specs.Calls.{IsCutOff}
use Rattle.controller.specs.View.{Controller}
use Rattle.controller.proofs.Doing.{end_took, end_takes}
use Rattle.controller.proofs.Going.{end_goes_none, end_goes_then}

-- ---- fetches, one after another

pub fetches_then : (old mid new : MailState) (ms ns : List Msg) → FetchesEach old ms mid → FetchesEach mid ns new → FetchesEach old (ms ++ ns) new
fetches_then old mid new [] ns f g = subst (λ k. FetchesEach k ns new) f g
fetches_then old mid new (m ∷ ms) ns f g = (f.0, f.1, fetches_then f.0 mid new ms ns f.2 g)

fetches_one : (old new : MailState) (m : Msg) → Fetches old new m → FetchesEach old (m ∷ []) new
fetches_one old new m f = (new, f, refl)

-- a message more makes one entry more
fetch_entries_push : (clock : ℕ) (ms : List Msg) (m : Msg) → (time : ℕ) × (fetch_entries clock (ms ++ m ∷ []) ≡ fetch_entries clock ms ++ fetched_at time m ∷ [])
fetch_entries_push clock [] m = (clock, refl)
fetch_entries_push clock (x ∷ ms) m =
    let rest = fetch_entries_push (max clock x.stamp.0 + 1) ms m in (rest.0, ap (λ es. fetched_at clock x ∷ es) rest.1)

fetch_entries_length : (clock : ℕ) (ms : List Msg) → length (fetch_entries clock ms) ≡ length ms
fetch_entries_length clock [] = refl
fetch_entries_length clock (m ∷ ms) = ap suc (fetch_entries_length (max clock m.stamp.0 + 1) ms)

-- as many entries more as there are messages
pub fetches_count : (old new : MailState) (ms : List Msg) → FetchesEach old ms new → length new.journal ≡ length old.journal + length ms
fetches_count old new ms f =
    let es = fetch_entries old.clock ms in
    ap length (FetchesEach-journal old new ms f) ∙ length-append old.journal es ∙ ap (λ n. length old.journal + n) (fetch_entries_length old.clock ms)

-- what waits may be answered still
pub fetches_wait : (n : ℕ) (old new : MailState) (ms : List Msg) → FetchesEach old ms new → All (IsAnswerable n) ms → WaitsWithin n old → WaitsWithin n new
fetches_wait n old new [] f a w = subst (WaitsWithin n) (sym f) w
fetches_wait n old new (m ∷ ms) f a w =
    fetches_wait n f.0 new ms f.2 (All-tail (IsAnswerable n) m ms a) (fetch_waits n old f.0 m f.1 (All-head (IsAnswerable n) m ms a) w)

-- who the end is stays at a look
pub looked_same : (first log log' : EndLog) (b : ℕ) (o : Option Msg) → log' ≡ taking log b o → log.party ≡ first.party → log.parties ≡ first.parties
    → (log'.party ≡ first.party) × (log'.parties ≡ first.parties)
looked_same first log log' b o e party parties = (
  ap (λ (x : EndLog). x.party) e ∙ party-taking log b o ∙ party,
  ap (λ (x : EndLog). x.parties) e ∙ parties-taking log b o ∙ parties,
)

-- ---- one box

-- the first looks at a box, so many as they gave messages, and what they gave is fetched
pub record Fetching (in_box : ℕ → ℕ → ℕ → ℕ → Type 0) (b k : ℕ) (old new : MailState) (log log' : EndLog) : Type 0 where
  pub gave : List Msg
  pub fetches : FetchesEach old gave new
  pub looked : Looked in_box b k log log' [] gave

pub fetching_none : {in_box : ℕ → ℕ → ℕ → ℕ → Type 0} {b : ℕ} {k : MailState} {log : EndLog} → Fetching in_box b 0 k k log log
fetching_none = record { gave = []; fetches = refl; looked = Looked-none }

pub fetching_more : {in_box : ℕ → ℕ → ℕ → ℕ → Type 0} {b k : ℕ} {old mid new : MailState} {log log' log'' : EndLog} (m : Msg) → Fetching in_box b k old mid log log' → Fetches mid new m
    → IsOfBox in_box log' b m → KeepsToLevel log'.parties m → log'.party ≡ log.party → log'.parties ≡ log.parties → log'' ≡ taking log' b (Some m) → Fetching in_box b (k + 1) old new log log''
fetching_more {old = old} {mid = mid} {new = new} m f fetch of level party parties logged = record {
  gave = f.gave ++ m ∷ [];
  fetches = fetches_then old mid new f.gave (m ∷ []) f.fetches (fetches_one mid new m fetch);
  looked = Looked-found m f.looked of level party parties logged refl;
}

into : {in_box : ℕ → ℕ → ℕ → ℕ → Type 0} {b : ℕ} {old new : MailState} {log log' : EndLog} (gave : List Msg) → FetchesEach old gave new
    → (some : List Msg) × (gave ≡ [] ++ some) × PollsBox in_box b log log' some → PollsBoxInto in_box b old new log log'
into {old = old} {new = new} gave f p = record { gave = p.0; fetches = subst (λ ms. FetchesEach old ms new) p.1 f; looks = p.2 }

pub fetching_full : {in_box : ℕ → ℕ → ℕ → ℕ → Type 0} {b k : ℕ} {old new : MailState} {log log' : EndLog} → Fetching in_box b k old new log log' → k ≡ 64 → PollsBoxInto in_box b old new log log'
fetching_full f full = into f.gave f.fetches (polls_full f.looked full)

pub fetching_fewer : {in_box : ℕ → ℕ → ℕ → ℕ → Type 0} {b k : ℕ} {old new : MailState} {log log' log'' : EndLog} → Fetching in_box b k old new log log' → k < 64 → log'' ≡ taking log' b None
    → OwnIsTaken in_box log' b → PollsBoxInto in_box b old new log log''
fetching_fewer f fewer logged own = into f.gave f.fetches (polls_fewer f.looked fewer logged own)

took_looked : {in_box : ℕ → ℕ → ℕ → ℕ → Type 0} {b k : ℕ} (log log' : EndLog) (ms : List Msg) → Looked in_box b k log log' [] ms → Took log log' ms
took_looked {b = b} log log' ms l =
    subst (λ x. Took log x ms) (sym l.logged) (subst (λ ns. Took log (taking_all log b l.gave) ns) (sym l.list) (Took-looks log b l.gave))

-- ---- several boxes

-- the boxes below a number were polled, and what they gave is fetched
pub record Polling (in_box : ℕ → ℕ → ℕ → ℕ → Type 0) (k : ℕ) (old new : MailState) (log log' : EndLog) : Type 0 where
  pub gave : List Msg
  pub fetches : FetchesEach old gave new
  pub looks : PollsBoxes in_box k log log' gave

pub polling_none : {in_box : ℕ → ℕ → ℕ → ℕ → Type 0} {k : MailState} {log : EndLog} → Polling in_box 0 k k log log
polling_none = record { gave = []; fetches = refl; looks = (refl, refl) }

pub polling_more : {in_box : ℕ → ℕ → ℕ → ℕ → Type 0} {k : ℕ} {old mid new : MailState} {log log' log'' : EndLog} → Polling in_box k old mid log log' → PollsBoxInto in_box k mid new log' log''
    → Polling in_box (k + 1) old new log log''
polling_more {old = old} {mid = mid} {new = new} {log' = log'} p q = record {
  gave = p.gave ++ q.gave;
  fetches = fetches_then old mid new p.gave q.gave p.fetches q.fetches;
  looks = rw add-one (log', p.gave, q.gave, p.looks, q.looks, refl);
}

-- ---- a poll that was refused

pub cut_off_at_once : (k : Controller) (log : EndLog) → IsCutOff k k log log
cut_off_at_once k log = record { entries = []; unfetched = []; few = omega arith; journal = sym (append-nil k.mail.journal); end = end_goes_none k.me.0 log }

-- before a look
pub cut_off_before : {in_box : ℕ → ℕ → ℕ → ℕ → Type 0} {b k : ℕ} {log log' : EndLog} (old new : Controller) → Fetching in_box b k old.mail new.mail log log' → IsCutOff old new log log'
cut_off_before {log = log} {log' = log'} old new f =
    let es = fetch_entries old.mail.clock f.gave in
    record {
      entries = es;
      unfetched = [];
      few = omega arith;
      journal = FetchesEach-journal old.mail new.mail f.gave f.fetches;
      end = subst (λ fs. EndGoes old.me.0 log log' fs) (sym (append-nil es)) (end_took old.me.0 old.mail.clock log log' f.gave (took_looked log log' f.gave f.looked));
    }

-- behind a look that gave a message
pub cut_off_behind : {in_box : ℕ → ℕ → ℕ → ℕ → Type 0} {b k : ℕ} {log log' log'' : EndLog} (old new : Controller) (m : Msg) → Fetching in_box b k old.mail new.mail log log' → log'' ≡ taking log' b (Some m)
    → IsCutOff old new log log''
cut_off_behind {b = b} {log = log} {log' = log'} {log'' = log''} old new m f logged =
    let clock = old.mail.clock in
    let next = fetch_entries_push clock f.gave m in
    let one : Took log' log'' (m ∷ []) = subst (λ x. Took log' x (m ∷ [])) (sym logged) (Took-look log' b m) in
    record {
      entries = fetch_entries clock f.gave;
      unfetched = fetched_at next.0 m ∷ [];
      few = omega arith;
      journal = FetchesEach-journal old.mail new.mail f.gave f.fetches;
      end = subst (λ fs. EndGoes old.me.0 log log'' fs) next.1
          (end_took old.me.0 clock log log'' (f.gave ++ m ∷ []) (Took-join log log' log'' f.gave (m ∷ []) (took_looked log log' f.gave f.looked) one));
    }

-- after other boxes
pub cut_off_later : {in_box : ℕ → ℕ → ℕ → ℕ → Type 0} {k : ℕ} {log log' log'' : EndLog} (old mid new : Controller) → Polling in_box k old.mail mid.mail log log' → mid.me ≡ old.me → IsCutOff mid new log' log''
    → IsCutOff old new log log''
cut_off_later {in_box = in_box} {k = k} {log = log} {log' = log'} {log'' = log''} old mid new p me cut =
    let es = fetch_entries old.mail.clock p.gave in
    let rest : EndGoes old.me.0 log' log'' (cut.entries ++ cut.unfetched) = subst (λ (c : ControllerId). EndGoes c.0 log' log'' (cut.entries ++ cut.unfetched)) me cut.end in
    record {
      entries = es ++ cut.entries;
      unfetched = cut.unfetched;
      few = cut.few;
      journal = cut.journal ∙ ap (λ js. js ++ cut.entries) (FetchesEach-journal old.mail mid.mail p.gave p.fetches) ∙ append_assoc old.mail.journal es cut.entries;
      end = subst (λ fs. EndGoes old.me.0 log log'' fs) (sym (append_assoc es cut.entries cut.unfetched))
          (end_goes_then (end_takes old.me.0 old.mail.clock k in_box log log' p.gave p.looks) rest);
    }

-- the controller has failed
pub cut_off_failed : {log log' : EndLog} (old mid new : Controller) → new ≡ record mid { failed = true } → IsCutOff old mid log log' → IsCutOff old new log log'
cut_off_failed {log = log} {log' = log'} old mid new is cut =
    subst (λ (k : Controller). IsCutOff old k log log') (sym is)
    (record { entries = cut.entries; unfetched = cut.unfetched; few = cut.few; journal = cut.journal; end = cut.end })

pub ruleset polling_steps = (fetching_none, fetching_more, fetching_full, fetching_fewer, polling_none, polling_more)
