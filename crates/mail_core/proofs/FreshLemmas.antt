-- Lists in which nothing stands yet.
use Rattle.std.proofs.Common.{ℕ, ◌+◌, ◌*◌, ◌<◌, ◌≡◌, List, [], ◌∷◌, ◌++◌, length, get_or, map, slice_index, replicate, sym, ap, subst, ◌∙◌, arith, inl, inr}
use Rattle.std.proofs.lemmas.Bool.{cases_eq, cases_lt}
use Rattle.std.proofs.lemmas.List.{get_or-replicate, get_or_past, length-replicate, length-map, map_push, get_or_push, get_or_append_left}
use mathlib.Core.Path.{fun_ext}
use Rattle.mail_core.specs.declared.ends.MailLocal.{MailLocal}
use Rattle.mail_core.specs.EndLog.{EndLog, fresh}
use Rattle.mail_core.specs.Lanes.{list_of, lane_number, log_at, AllFor, LanesMatch}
use Rattle.mail_core.specs.SetUp.{AreFresh}
use Rattle.mail_core.specs.Local.{log_of}
use Rattle.mail_core.proofs.ListLemmas.{list_of-within, list_of-beyond}

get_or-replicate_default : {X : Type 0} (n i : ℕ) (a : X) → get_or (replicate n a) i a ≡ a
get_or-replicate_default n i a = elim (cases_lt i n) [
  | inl within ↦ get_or-replicate n i a a within
  | inr past ↦ get_or_past (replicate n a) i a (rw length-replicate past)
]

pub list_of-replicate : (n : ℕ) → list_of (replicate n []) ≡ (λ _ _. [])
list_of-replicate n = fun_ext (λ k. fun_ext (λ p. elim (cases_lt p 6) [
  | inl within ↦ list_of-within (replicate n []) k p within ∙ get_or-replicate_default n (k * 6 + p) []
  | inr past ↦ list_of-beyond (replicate n []) k p past
]))

pub slice_index-replicate : (n : ℕ) → slice_index (replicate n 0) ≡ (λ _. 0)
slice_index-replicate n = fun_ext (λ b. get_or-replicate_default n b 0)

-- one end more
pub AreFresh-push : (n k : ℕ) (es : List MailLocal) (e : MailLocal) → k < n → length es ≡ k → ((j : ℕ) → j < k → log_at (map log_of es) j ≡ fresh n j) → log_of e ≡ fresh n k →
    (j : ℕ) → j < k + 1 → log_at (map log_of (es ++ e ∷ [])) j ≡ fresh n j
AreFresh-push n k es e h l each new j below = simp (map_push log_of es e) (elim (cases_eq j k) [
  | inl same ↦ subst (λ i. log_at (map log_of es ++ log_of e ∷ []) i ≡ fresh n i) (sym same) (get_or_push (map log_of es) (log_of e) (fresh 0 0) k (length-map es log_of ∙ l) ∙ new)
  | inr other ↦
      let under : j < k = omega arith in
      let in_front : j < length (map log_of es) = omega (arith, length-map es log_of) in
      get_or_append_left (map log_of es) (log_of e ∷ []) (fresh 0 0) j in_front ∙ each j under
])

-- a fresh office and fresh ends go together
pub LanesMatch-fresh : (n : ℕ) (logs : List EndLog) → AreFresh n logs → LanesMatch n (replicate ((n * n) * 6) []) logs
LanesMatch-fresh n logs f = record {
  all_ends = f.count;
  all_lanes = length-replicate ((n * n) * 6) [];
  party = λ k h. ap (λ l. l.party) (f.each k h);
  parties = λ k h. ap (λ l. l.parties) (f.each k h);
  kept = λ s r p a b c. rw (f.each s a, f.each r b) (get_or-replicate_default ((n * n) * 6) (lane_number n s r p) []);
  for_lane = λ s r p a b c. subst (λ ms. AllFor s r p ms) (sym (get_or-replicate_default ((n * n) * 6) (lane_number n s r p) [])) tt;
  short = λ s r p a b c. rw (f.each s a) (omega arith);
}

pub ruleset fresh_steps = (list_of-replicate, slice_index-replicate, AreFresh-push, LanesMatch-fresh)
