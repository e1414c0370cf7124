-- What each test of journals means.
use Rattle.std.proofs.Common.{inl, inr, ◌≡◌, ℕ, zero, suc, ◌+◌, ◌<◌, ◌≤◌, Bool, true, false, cond, List, [], ◌∷◌, length, map, refl, sym, ap, arith, subst, Option, Some, None, Decides}
use Rattle.std.specs.Prelude.{◌==◌, ◌&&◌, ◌⊎◌, nat_lt, nat_le, All, slice_get, slice_index_or}
use Rattle.std.specs.Option.{option_map_or}
use Rattle.std.specs.List.{list_all}
use Rattle.std.specs.List.Sorted.{IsNonDecreasing}
use Rattle.std.proofs.lemmas.Bool.{leb-true, le-leb, eqb-true, eqb-false, and_from}
use Rattle.std.proofs.lemmas.Bool.Decides.{Decides-eqb, Decides-like, Decides-and, Decides-ltb, Decides-by_and}
use Rattle.room_kinds.specs.declared.numbers.Incarnation.{Incarnation}
use Rattle.room_kinds.specs.declared.numbers.SlotId.{SlotId}
use Rattle.room_kinds.specs.declared.numbers.Endpoint.{Endpoint}
use Rattle.room_kinds.specs.declared.message.Msg.{Msg}
use Rattle.room_kinds.specs.declared.note.Note.{Note}
use Rattle.room_kinds.specs.declared.note.Note.TheVariants as notes
use Rattle.room_wiring.specs.declared.tables.Tables.{Tables}
use Rattle.room_wiring.specs.declared.names.ClassNames.{ClassNames}
use Rattle.room_wiring.specs.declared.names.PortNames.{PortNames}
use Rattle.room_wiring.specs.Slots.{class_of, port_at}
use Rattle.room_wiring.specs.Places.{port_count}
use Rattle.room_wiring.specs.WellNamed.{signals_of}
use Rattle.journal.specs.declared.entry.Entry.{Entry}
use Rattle.journal.specs.declared.entry.Entry.TheVariants as entries
use Rattle.journal.specs.declared.entry.Did.{Did}
use Rattle.journal.specs.declared.entry.Did.TheVariants as outcomes
use Rattle.journal.specs.declared.entry.Left.{Left}
use Rattle.journal.specs.declared.entry.Journals.{Journals}
use Rattle.journal.specs.Lines.{speaker_after, is_duty, speaker_of}
use Rattle.journal.specs.Fits.{IsParty, FitsIncarnation, FitsEndpoint, FitsSource, HasSignal, FitsSignal, FitsMessage, FitsState, FitsStanding, FitsSpeaker, FitsNote, FitsNotes, FitsDid, FitsPost, FitsEntry, FitsEnvironment, FitsLeft, left_rank, Fits}
use Rattle.journal_reader.specs.journal_fits.Judge.{is_party, has_slot, has_port, fits_endpoint, fits_source, has_signal, knows_signal, fits_signal, fits_message, has_state, fits_state, fits_standing, fits_speaker, fits_note, fits_notes, fits_did, fits_post, fits_entry, fits_environment, fits_left, fits_journal, fits_journals, rises_from, in_order, fits}

always : Decides true (Unit {0})
always = (λ e. tt, λ h. refl)

never : Decides false ⊥
never = (λ e. absurd cc, λ h. absurd h)

leb_means : (a b : ℕ) → Decides (nat_le a b) (a ≤ b)
leb_means a b = (leb-true a b, le-leb a b)

party_means : (t : Tables) (c : ℕ) → Decides (is_party t c) (IsParty t c)
party_means t c = Decides-like (is_party t c) (λ (h : c ≤ length t.controllers). record { known = h }) (λ (h : IsParty t c). h.known) (leb_means c (length t.controllers))

slot_means : (t : Tables) (who : Incarnation) → Decides (has_slot t who.slot.0) (FitsIncarnation t who)
slot_means t who = Decides-like (has_slot t who.slot.0) (λ (h : who.slot.0 < length t.slots). record { slot = h }) (λ (h : FitsIncarnation t who). h.slot) (Decides-ltb who.slot.0 (length t.slots))

place_means : (t : Tables) (s p : ℕ) → Decides (has_slot t s && has_port t s p) ((s < length t.slots) × (p < port_count t s))
place_means t s p = Decides-and (has_slot t s) (has_port t s p) (Decides-ltb s (length t.slots)) (Decides-ltb p (port_count t s))

endpoint_means : (t : Tables) (e : Endpoint) → Decides (fits_endpoint t e) (FitsEndpoint t e)
endpoint_means t e =
    Decides-like (fits_endpoint t e) (λ (h : (e.slot.0 < length t.slots) × (e.port < port_count t e.slot.0)). record { slot = h.0; port = h.1 }) (λ (h : FitsEndpoint t e). (h.slot, h.port)) (place_means t e.slot.0 e.port)

source_means : (t : Tables) (o : Option Endpoint) → Decides (fits_source t o) (FitsSource t o)
source_means t None = always
source_means t (Some e) = endpoint_means t e

-- ---- signals

port_knows : (n : ℕ) (po : Option PortNames) → Decides (option_map_or (has_signal n) po false) ((p : PortNames) × ((po ≡ Some p) × (n < length (signals_of p))))
port_knows n None = (λ e. absurd cc, λ h. let none : None ≡ Some h.0 = h.1.0 in absurd cc)
port_knows n (Some p) =
    let test = Decides-ltb n (length (signals_of p)) in
    (λ e. (p, (refl, test.0 e)), λ h. let same_port : p ≡ h.0 = some_is p h.0 h.1.0 in test.1 (subst (λ (q : PortNames). n < length (signals_of q)) (sym same_port) h.1.1))
  where
    some_is : (p q : PortNames) → Some p ≡ Some q → p ≡ q
    some_is p q e = cc

knows_means : (t : Tables) (s p n : ℕ) → Decides (knows_signal t s p n) (HasSignal t s p n)
unfolding knows_signal
knows_means t s p n =
    Decides-like (knows_signal t s p n) (λ (h : (q : PortNames) × ((port_at t s p ≡ Some q) × (n < length (signals_of q)))). record { port = h.0; port_is = h.1.0; known = h.1.1 }) (λ (h : HasSignal t s p n). (h.port, (h.port_is, h.known))) (port_knows n (port_at t s p))

signal_by : (t : Tables) (prio : ℕ) (target : Endpoint) (n : ℕ) (system : Bool) → (prio == 0) ≡ system → Decides (cond system (nat_lt n 19) (knows_signal t target.slot.0 target.port n)) (FitsSignal t prio target n)
signal_by t prio target n true e =
    let zero_is : prio ≡ 0 = eqb-true prio 0 e in
    let test = Decides-ltb n 19 in
    (λ h. inl (zero_is, test.0 h), λ h. elim h [ inl kind ↦ test.1 kind.1 | inr signal ↦ absurd (omega (arith, signal.0)) ])
signal_by t prio target n false e =
    let other : prio ≡ 0 → ⊥ = eqb-false prio 0 e in
    let test = knows_means t target.slot.0 target.port n in
    (λ h. inr (not_zero prio other, test.0 h), λ h. elim h [ inl kind ↦ absurd (other kind.0) | inr signal ↦ test.1 signal.1 ])
  where
    not_zero : (n : ℕ) → (n ≡ 0 → ⊥) → 1 ≤ n
    not_zero zero some = absurd (some refl)
    not_zero (suc n) some = omega arith

signal_means : (t : Tables) (prio : ℕ) (target : Endpoint) (n : ℕ) → Decides (fits_signal t prio target n) (FitsSignal t prio target n)
signal_means t prio target n = signal_by t prio target n (prio == 0) refl

-- ---- messages

abbrev MessageParts : Tables → Msg → Type 0
MessageParts t m = (((IsParty t m.from.0 × (m.to.0 < length t.controllers)) × FitsSource t m.source) × FitsEndpoint t m.target) × FitsSignal t m.prio.0 m.target m.signal

message_means : (t : Tables) (m : Msg) → Decides (fits_message t m) (FitsMessage t m)
unfolding fits_message
message_means t m =
    let a = Decides-and (is_party t m.from.0) (nat_lt m.to.0 (length t.controllers)) (party_means t m.from.0) (Decides-ltb m.to.0 (length t.controllers)) in
    let b = Decides-and (is_party t m.from.0 && nat_lt m.to.0 (length t.controllers)) (fits_source t m.source) a (source_means t m.source) in
    let c = Decides-and (is_party t m.from.0 && nat_lt m.to.0 (length t.controllers) && fits_source t m.source) (fits_endpoint t m.target) b (endpoint_means t m.target) in
    let d = Decides-and (is_party t m.from.0 && nat_lt m.to.0 (length t.controllers) && fits_source t m.source && fits_endpoint t m.target) (fits_signal t m.prio.0 m.target m.signal) c (signal_means t m.prio.0 m.target m.signal) in
    Decides-like (fits_message t m) (λ (h : MessageParts t m). record { from = h.0.0.0.0; to = h.0.0.0.1; source = h.0.0.1; target = h.0.1; signal = h.1 })
    (λ (h : FitsMessage t m). ((((h.from, h.to), h.source), h.target), h.signal)) d

-- ---- states

empty_list : (ls : List (List ℕ)) → length ls ≡ 0 → ls ≡ []
empty_list [] e = refl
empty_list (l ∷ ls) e = absurd (omega arith)

states_by : (n : ℕ) (ls : List (List ℕ)) (none : Bool) → (length ls == 0) ≡ none → Decides (cond none (n == 65535) (nat_lt n (length ls))) ((n < length ls) ⊎ ((ls ≡ []) × (n ≡ 65535)))
states_by n ls true e =
    let zero_is : length ls ≡ 0 = eqb-true (length ls) 0 e in
    let test = Decides-eqb n 65535 in
    (λ h. inr (empty_list ls zero_is, test.0 h), λ h. elim h [ inl inside ↦ absurd (omega arith) | inr last ↦ test.1 last.1 ])
states_by n ls false e =
    let some : length ls ≡ 0 → ⊥ = eqb-false (length ls) 0 e in
    let test = Decides-ltb n (length ls) in
    (λ h. inl (test.0 h), λ h. elim h [ inl inside ↦ test.1 inside | inr last ↦ absurd (some (ap length last.0)) ])

class_knows : (n : ℕ) (co : Option ClassNames) → Decides (option_map_or (has_state n) co false) ((c : ClassNames) × ((co ≡ Some c) × ((n < length c.states) ⊎ ((c.states ≡ []) × (n ≡ 65535)))))
class_knows n None = (λ e. absurd cc, λ h. let none : None ≡ Some h.0 = h.1.0 in absurd cc)
class_knows n (Some c) =
    let test = states_by n c.states (length c.states == 0) refl in (
      λ e. (c, (refl, test.0 e)),
      λ h. let same_class : c ≡ h.0 = some_is c h.0 h.1.0 in test.1 (subst (λ (k : ClassNames). (n < length k.states) ⊎ ((k.states ≡ []) × (n ≡ 65535))) (sym same_class) h.1.1),
    )
  where
    some_is : (p q : ClassNames) → Some p ≡ Some q → p ≡ q
    some_is p q e = cc

state_means : (t : Tables) (s n : ℕ) → Decides (fits_state t s n) (FitsState t s n)
unfolding fits_state
state_means t s n =
    Decides-like (fits_state t s n) (λ (h : (c : ClassNames) × ((class_of t s ≡ Some c) × ((n < length c.states) ⊎ ((c.states ≡ []) × (n ≡ 65535))))). record { class = h.0; class_is = h.1.0; known = h.1.1 })
    (λ (h : FitsState t s n). (h.class, (h.class_is, h.known))) (class_knows n (class_of t s))

standing_means : (t : Tables) (who : Incarnation) (state : ℕ) → Decides (fits_standing t who state) (FitsStanding t who state)
standing_means t who state =
    Decides-like (fits_standing t who state) (λ (h : FitsIncarnation t who × FitsState t who.slot.0 state). record { actor = h.0; stands = h.1 }) (λ (h : FitsStanding t who state). (h.actor, h.stands))
    (Decides-and (has_slot t who.slot.0) (fits_state t who.slot.0 state) (slot_means t who) (state_means t who.slot.0 state))

-- ---- notes and outcomes

speaker_means : (t : Tables) (speaker : Option SlotId) (p : ℕ) → Decides (fits_speaker t speaker p) (FitsSpeaker t speaker p)
speaker_means t None p = never
speaker_means t (Some s) p = place_means t s.0 p

note_means : (t : Tables) (speaker : Option SlotId) (n : Note) → Decides (fits_note t speaker n) (FitsNote t speaker n)
note_means t speaker notes.Zero = always
note_means t speaker notes.NoMessage = always
note_means t speaker (notes.Unbound port place) = speaker_means t speaker port
note_means t speaker (notes.Recall count) = always
note_means t speaker (notes.Up who state) = standing_means t who state
note_means t speaker (notes.Down who lost) = slot_means t who

notes_mean : (t : Tables) (duty : Bool) (speaker : Option SlotId) (ns : List Note) → Decides (fits_notes t duty speaker ns) (FitsNotes t duty speaker ns)
notes_mean t duty speaker [] = always
notes_mean t duty speaker (n ∷ ns) = Decides-and (fits_note t speaker n) (fits_notes t duty (speaker_after duty speaker n) ns) (note_means t speaker n) (notes_mean t duty (speaker_after duty speaker n) ns)

did_means : (t : Tables) (did : Did) → Decides (fits_did t did) (FitsDid t did)
did_means t outcomes.Duty = always
did_means t (outcomes.Handled who state) = standing_means t who state
did_means t (outcomes.Deferred who state) = standing_means t who state
did_means t (outcomes.Unhandled who state) = standing_means t who state
did_means t (outcomes.Stale target) = slot_means t target
did_means t (outcomes.Empty target) = slot_means t target

-- ---- entries

post_means : (t : Tables) (party stamp : ℕ) (m : Msg) → Decides (fits_post t party stamp m) (FitsPost t party stamp m)
post_means t party stamp m =
    Decides-like (fits_post t party stamp m) (λ (h : (FitsMessage t m × (m.from.0 ≡ party)) × (m.stamp.0 ≡ stamp)). record { message = h.0.0; own = h.0.1; stamped = h.1 }) (λ (h : FitsPost t party stamp m). ((h.message, h.own), h.stamped))
    (Decides-and (fits_message t m && m.from.0 == party) (m.stamp.0 == stamp) (Decides-and (fits_message t m) (m.from.0 == party) (message_means t m) (Decides-eqb m.from.0 party)) (Decides-eqb m.stamp.0 stamp))

entry_means : (t : Tables) (c : ℕ) (x : Entry) → Decides (fits_entry t c x) (FitsEntry t c x)
unfolding fits_entry
entry_means t c (entries.Start who state ns) = Decides-and (fits_standing t who state) (fits_notes t false (Some who.slot) ns) (standing_means t who state) (notes_mean t false (Some who.slot) ns)
entry_means t c (entries.Fetch stamp m) = Decides-and (m.to.0 == c) (fits_message t m) (Decides-eqb m.to.0 c) (message_means t m)
entry_means t c (entries.Turn stamp from sent did ns) =
    let head = Decides-and (is_party t from.0) (fits_did t did) (party_means t from.0) (did_means t did) in
    Decides-like (is_party t from.0 && fits_did t did && fits_notes t (is_duty did) (speaker_of did) ns)
    (λ (h : (IsParty t from.0 × FitsDid t did) × FitsNotes t (is_duty did) (speaker_of did) ns). (h.0.0, h.0.1, h.1))
    (λ (h : FitsEntry t c (entries.Turn stamp from sent did ns)). ((h.0, h.1), h.2))
    (Decides-and (is_party t from.0 && fits_did t did) (fits_notes t (is_duty did) (speaker_of did) ns) head (notes_mean t (is_duty did) (speaker_of did) ns))
entry_means t c (entries.Post stamp m) = post_means t c stamp.0 m

environment_means : (t : Tables) (x : Entry) → Decides (fits_environment t x) (FitsEnvironment t x)
unfolding fits_environment
environment_means t (entries.Start who state ns) = never
environment_means t (entries.Fetch stamp m) = never
environment_means t (entries.Turn stamp from sent did ns) = never
environment_means t (entries.Post stamp m) = post_means t (length t.controllers) stamp.0 m

left_means : (t : Tables) (l : Left) → Decides (fits_left t l) (FitsLeft t l)
unfolding fits_left
left_means t l =
    Decides-like (fits_left t l) (λ (h : (FitsMessage t l.msg × (l.msg.to.0 ≡ l.to.0)) × (l.msg.prio.0 ≤ 5)). record { message = h.0.0; receiver = h.0.1; priority = h.1 }) (λ (h : FitsLeft t l). ((h.message, h.receiver), h.priority))
    (Decides-and (fits_message t l.msg && l.msg.to.0 == l.to.0) (nat_le l.msg.prio.0 5) (Decides-and (fits_message t l.msg) (l.msg.to.0 == l.to.0) (message_means t l.msg) (Decides-eqb l.msg.to.0 l.to.0)) (leb_means l.msg.prio.0 5))

all_mean : {A : Type 0} (p : A → Bool) (P : A → Type 0) → ((x : A) → Decides (p x) (P x)) → (xs : List A) → Decides (list_all p xs) (All P xs)
all_mean p P each xs = Decides-by_and p P (list_all p) each refl (λ x xs. refl) xs

-- ---- the journals of controllers

abbrev EachFits : Tables → ℕ → List (List Entry) → Type 0
EachFits t c ess = (k : ℕ) (es : List Entry) → slice_get ess k ≡ Some es → All (FitsEntry t (c + k)) es

first_of_them : (t : Tables) (c : ℕ) (es : List Entry) (ess : List (List Entry)) → EachFits t c (es ∷ ess) → All (FitsEntry t c) es × EachFits t (suc c) ess
first_of_them t c es ess h = (
  subst (λ (n : ℕ). All (FitsEntry t n) es) (let none : c + 0 ≡ c = omega arith in none) (h 0 es refl),
  λ k xs e. subst (λ (n : ℕ). All (FitsEntry t n) xs) (let next : c + suc k ≡ suc c + k = omega arith in next) (h (suc k) xs e),
)

all_of_them : (t : Tables) (c : ℕ) (es : List Entry) (ess : List (List Entry)) → All (FitsEntry t c) es × EachFits t (suc c) ess → EachFits t c (es ∷ ess)
all_of_them t c es ess h zero xs e =
    let is : es ≡ xs = cc in
    subst (λ (n : ℕ). All (FitsEntry t n) xs) (let none : c ≡ c + 0 = omega arith in none) (subst (λ (y : List Entry). All (FitsEntry t c) y) is h.0)
all_of_them t c es ess h (suc k) xs e = subst (λ (n : ℕ). All (FitsEntry t n) xs) (let next : suc c + k ≡ c + suc k = omega arith in next) (h.1 k xs e)

journals_mean : (t : Tables) (c : ℕ) (ess : List (List Entry)) → Decides (fits_journals t c ess) (EachFits t c ess)
journals_mean t c [] = (λ e k es got. absurd cc, λ h. refl)
journals_mean t c (es ∷ ess) =
    Decides-like (fits_journals t c (es ∷ ess)) (all_of_them t c es ess) (first_of_them t c es ess)
    (Decides-and (fits_journal t c es) (fits_journals t (suc c) ess) (all_mean (fits_entry t c) (FitsEntry t c) (entry_means t c) es) (journals_mean t (suc c) ess))

-- ---- order

both : (a b : Bool) → (a && b) ≡ true → (a ≡ true) × (b ≡ true)
both true b e = (refl, e)
both false b e = absurd cc

above_all : (n : ℕ) (ms : List ℕ) → rises_from n ms ≡ true → (j d : ℕ) → j < length ms → n ≤ slice_index_or ms j d
above_all n [] h j d lt = absurd (omega arith)
above_all n (m ∷ ms) h zero d lt = leb-true n m (both (nat_le n m) (rises_from m ms) h).0
above_all n (m ∷ ms) h (suc j) d lt =
    let parts = both (nat_le n m) (rises_from m ms) h in
    let first : n ≤ m = leb-true n m parts.0 in
    let later : m ≤ slice_index_or ms j d = above_all m ms parts.1 j d (omega arith) in
    omega arith

rises : (n : ℕ) (ms : List ℕ) → rises_from n ms ≡ true → IsNonDecreasing ms
rises n [] h i j d le lt = absurd (omega arith)
rises n (m ∷ ms) h zero zero d le lt = omega arith
rises n (m ∷ ms) h zero (suc j) d le lt = above_all m ms (both (nat_le n m) (rises_from m ms) h).1 j d (omega arith)
rises n (m ∷ ms) h (suc i) zero d le lt = absurd (omega arith)
rises n (m ∷ ms) h (suc i) (suc j) d le lt = rises m ms (both (nat_le n m) (rises_from m ms) h).1 i j d (omega arith) (omega arith)

rises_back : (n : ℕ) (ms : List ℕ) → IsNonDecreasing ms → ((d : ℕ) → 0 < length ms → n ≤ slice_index_or ms 0 d) → rises_from n ms ≡ true
rises_back n [] h first = refl
rises_back n (m ∷ ms) h first =
    and_from (nat_le n m) (rises_from m ms) (le-leb n m (first 0 (omega arith)))
    (rises_back m ms (λ i j d le lt. h (suc i) (suc j) d (omega arith) (omega arith)) (λ d lt. h 0 1 d (omega arith) (omega arith)))

order_means : (t : Tables) (ls : List Left) → Decides (in_order t ls) (IsNonDecreasing (map (left_rank t) ls))
order_means t ls = (rises 0 (map (left_rank t) ls), λ h. rises_back 0 (map (left_rank t) ls) h (λ d lt. omega arith))

-- ---- journals

abbrev Parts : Tables → Journals → Type 0
Parts t j =
    ((((length j.controllers ≡ length t.controllers) × EachFits t 0 j.controllers) × All (FitsEnvironment t) j.environment) × All (FitsLeft t) j.left) × IsNonDecreasing (map (left_rank t) j.left)

from_zero : (t : Tables) (ess : List (List Entry)) → EachFits t 0 ess → (c : ℕ) (es : List Entry) → slice_get ess c ≡ Some es → All (FitsEntry t c) es
from_zero t ess h c es e = subst (λ (n : ℕ). All (FitsEntry t n) es) (let number : 0 + c ≡ c = omega arith in number) (h c es e)

to_zero : (t : Tables) (ess : List (List Entry)) → ((c : ℕ) (es : List Entry) → slice_get ess c ≡ Some es → All (FitsEntry t c) es) → EachFits t 0 ess
to_zero t ess h k es e = subst (λ (n : ℕ). All (FitsEntry t n) es) (let number : k ≡ 0 + k = omega arith in number) (h k es e)

pub fits_mean : (t : Tables) (j : Journals) → Decides (fits t j) (Fits t j)
unfolding fits
fits_mean t j =
    let same_count = length j.controllers == length t.controllers in
    let each = fits_journals t 0 j.controllers in
    let posts = list_all (fits_environment t) j.environment in
    let kept = list_all (fits_left t) j.left in
    let a = Decides-and same_count each (Decides-eqb (length j.controllers) (length t.controllers)) (journals_mean t 0 j.controllers) in
    let b = Decides-and (same_count && each) posts a (all_mean (fits_environment t) (FitsEnvironment t) (environment_means t) j.environment) in
    let c = Decides-and (same_count && each && posts) kept b (all_mean (fits_left t) (FitsLeft t) (left_means t) j.left) in
    let d = Decides-and (same_count && each && posts && kept) (in_order t j.left) c (order_means t j.left) in
    Decides-like (fits t j)
    (λ (h : Parts t j). record { journals = h.0.0.0.0; entries = from_zero t j.controllers h.0.0.0.1; environment = h.0.0.1; left = h.0.1; left_in_order = h.1 })
    (λ (h : Fits t j). ((((h.journals, to_zero t j.controllers h.entries), h.environment), h.left), h.left_in_order)) d
