-- The duties on links by the kind of the message.
use Rattle.std.proofs.Common.{◌≡◌, ℕ, suc, Bool, true, false, cond, ◌&&◌, List, [], ◌∷◌, length, ℤ, pos, negsuc, ◌<ℤ◌, ◌≤ℤ◌, refl, sym, ap, ◌∙◌, arith}
use Rattle.std.specs.Prelude.{◌==◌, unsigned_abs, slice_index_or}
use Rattle.std.proofs.lemmas.Int.{ints}
use Rattle.std.proofs.lemmas.Bool.Decides.{nat_tests}
use Rattle.room_kinds.specs.declared.numbers.Endpoint.{Endpoint}
use Rattle.room_kinds.specs.declared.system.SysKind.{SysKind}
use Rattle.room_kinds.specs.declared.system.SysKind.TheVariants as kinds
use Rattle.room_wiring.specs.declared.tables.Tables.{Tables}
use Rattle.actor_duties.specs.Words.{is_endpoint}
use Rattle.actor_duties.specs.State.{Links}
use Rattle.actor_duties.specs.Links.{bound, unbound, same_links, name_reply, is_own_point, links_duty_of}

not_empty : (n : ℕ) → (suc n == 0) ≡ false
not_empty n = grind (arith, nat_tests)

-- Bound
pub bound_of : (t : Tables) (me : ℕ) (l : Links) (peer own : Endpoint) (numbers : List ℤ)
    → links_duty_of t me l kinds.Bound peer own numbers ≡ cond ((length numbers == 0) && is_own_point t me own) (record { now = bound l peer own; sent = [] }) (same_links l)
bound_of t me l peer own [] = refl
bound_of t me l peer own (n ∷ ns) =
    sym (ap (λ (b : Bool). cond (b && is_own_point t me own) (record { now = bound l peer own; sent = [] }) (same_links l)) (not_empty (length ns)))

-- Ended
pub ended_of : (t : Tables) (me : ℕ) (l : Links) (peer own : Endpoint) (numbers : List ℤ)
    → links_duty_of t me l kinds.Ended peer own numbers ≡ cond ((length numbers == 0) && is_own_point t me own) (record { now = unbound l peer own; sent = [] }) (same_links l)
ended_of t me l peer own [] = refl
ended_of t me l peer own (n ∷ ns) =
    sym (ap (λ (b : Bool). cond (b && is_own_point t me own) (record { now = unbound l peer own; sent = [] }) (same_links l)) (not_empty (length ns)))

-- whether an answer is from and to place 0 of a service point of this controller
abbrev pub is_answered : Tables → ℕ → Endpoint → Endpoint → Bool
is_answered t me e own = is_own_point t me own && is_endpoint e own && (own.place == 0)

unanswered : (t : Tables) (me : ℕ) (l : Links) (e own : Endpoint) (z : ℤ) → is_answered t me e own ≡ false → links_duty_of t me l kinds.NameReply e own (z ∷ []) ≡ same_links l
unanswered t me l e own (pos n) unfit = ap (λ (b : Bool). cond b (name_reply me l own n) (same_links l)) unfit
unanswered t me l e own (negsuc n) unfit = refl

-- a NameReply of no form that is known
pub unheard : (t : Tables) (me : ℕ) (l : Links) (e own : Endpoint) (numbers : List ℤ) → ((length numbers ≡ 1) → is_answered t me e own ≡ false) → links_duty_of t me l kinds.NameReply e own numbers ≡ same_links l
unheard t me l e own [] unfit = refl
unheard t me l e own (pos n ∷ []) unfit = unanswered t me l e own (pos n) (unfit refl)
unheard t me l e own (negsuc n ∷ []) unfit = refl
unheard t me l e own (pos n ∷ (k ∷ ns)) unfit = refl
unheard t me l e own (negsuc n ∷ (k ∷ ns)) unfit = refl

-- a NameReply with a number below 0
pub heard_negative : (t : Tables) (me : ℕ) (l : Links) (e own : Endpoint) (numbers : List ℤ) (code : ℤ) → length numbers ≡ 1 → code ≡ slice_index_or numbers 0 code → code <ℤ pos 0
    → links_duty_of t me l kinds.NameReply e own numbers ≡ same_links l
heard_negative t me l e own [] code one is below = absurd cc
heard_negative t me l e own (pos n ∷ []) code one is below = let low : pos n <ℤ pos 0 = rw is at below in absurd (omega (arith, ints))
heard_negative t me l e own (negsuc n ∷ []) code one is below = refl
heard_negative t me l e own (pos n ∷ (k ∷ ns)) code one is below = absurd cc
heard_negative t me l e own (negsuc n ∷ (k ∷ ns)) code one is below = absurd cc

-- a NameReply with a code
pub heard_code : (t : Tables) (me : ℕ) (l : Links) (e own : Endpoint) (numbers : List ℤ) (code : ℤ) → length numbers ≡ 1 → code ≡ slice_index_or numbers 0 code → pos 0 ≤ℤ code → is_answered t me e own ≡ true
    → links_duty_of t me l kinds.NameReply e own numbers ≡ name_reply me l own (unsigned_abs code)
heard_code t me l e own [] code one is above yes' = absurd cc
heard_code t me l e own (pos n ∷ []) code one is above yes' =
    ap (λ (b : Bool). cond b (name_reply me l own n) (same_links l)) yes' ∙ ap (λ (z : ℤ). name_reply me l own (unsigned_abs z)) (sym is)
heard_code t me l e own (negsuc n ∷ []) code one is above yes' = let high : pos 0 ≤ℤ negsuc n = rw is at above in absurd (omega (arith, ints))
heard_code t me l e own (pos n ∷ (k ∷ ns)) code one is above yes' = absurd cc
heard_code t me l e own (negsuc n ∷ (k ∷ ns)) code one is above yes' = absurd cc

-- a message of another kind
pub other_of : (t : Tables) (me : ℕ) (l : Links) (kind : SysKind) (peer own : Endpoint) (numbers : List ℤ) → (kind ≡ kinds.Bound → ⊥) → (kind ≡ kinds.Ended → ⊥) → (kind ≡ kinds.NameReply → ⊥)
    → links_duty_of t me l kind peer own numbers ≡ same_links l
other_of t me l kinds.Create peer own numbers a b c = refl
other_of t me l kinds.CreateDone peer own numbers a b c = refl
other_of t me l kinds.CreateRefused peer own numbers a b c = refl
other_of t me l kinds.Destroy peer own numbers a b c = refl
other_of t me l kinds.DestroyDone peer own numbers a b c = refl
other_of t me l kinds.Import peer own numbers a b c = refl
other_of t me l kinds.ImportDone peer own numbers a b c = refl
other_of t me l kinds.ImportRefused peer own numbers a b c = refl
other_of t me l kinds.ImportEnded peer own numbers a b c = refl
other_of t me l kinds.Deport peer own numbers a b c = refl
other_of t me l kinds.DeportDone peer own numbers a b c = refl
other_of t me l kinds.Announce peer own numbers a b c = refl
other_of t me l kinds.Register peer own numbers a b c = refl
other_of t me l kinds.Withdraw peer own numbers a b c = refl
other_of t me l kinds.PartMake peer own numbers a b c = refl
other_of t me l kinds.PartEnd peer own numbers a b c = refl
other_of t me l kinds.Bound peer own numbers a b c = absurd (a refl)
other_of t me l kinds.Ended peer own numbers a b c = absurd (b refl)
other_of t me l kinds.NameReply peer own numbers a b c = absurd (c refl)
