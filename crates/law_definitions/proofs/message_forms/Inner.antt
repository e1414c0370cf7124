-- What a controller sends has its form but for whom messages on imports and names go between.
use Rattle.std.proofs.Common.{◌≡◌, ℕ, ℤ, ◌==◌, ◌⊎◌, Bool, true, false, if◌then◌else◌, List, [], slice_get, Some, refl, sym, ◌∙◌, subst}
use Rattle.std.specs.List.{AllByRecursion}
use Rattle.room_kinds.specs.declared.message.Msg.{Msg}
use Rattle.room_kinds.specs.declared.numbers.Endpoint.{Endpoint}
use Rattle.room_kinds.specs.declared.system.SysKind.{SysKind}
use Rattle.room_kinds.specs.declared.system.SysKind.TheVariants as kinds
use Rattle.room_kinds.specs.Kinds.{number_of}
use Rattle.room_wiring.specs.declared.tables.Tables.{Tables}
use Rattle.actor_duties.specs.Words.{is_endpoint, owner_of}
use Rattle.actor_duties.specs.Messages.{system, coded, Occupied, NotHere, StaleId, PortTaken}
use Rattle.actor_duties.specs.State.{Done}
use Rattle.actor_duties.specs.Frame.{is_announced, is_part_told}
use Rattle.actor_world.specs.Turns.{all_kinds}
use Rattle.law_definitions.specs.message_forms.Forms.{AreFrames, IsRequest, IsAnswer, IsMade, TellsEnd, TellsLife, TellsOne, TellsReply}

-- the form of a kind, but for the addresses of messages on imports and names
abbrev pub InnerOf : Tables → ℕ → ℕ → SysKind → Endpoint → Endpoint → List ℤ → Type 0
InnerOf t a b kinds.Create x o numbers = IsRequest t a b x o × (numbers ≡ [])
InnerOf t a b kinds.CreateDone o x numbers = IsAnswer t a b o x × IsMade o × (numbers ≡ [])
InnerOf t a b kinds.CreateRefused o x numbers =
    IsAnswer t a b o x × (o.generation.0 ≡ 0) × ((numbers ≡ coded Occupied) ⊎ (numbers ≡ coded NotHere))
InnerOf t a b kinds.Destroy x o numbers = IsRequest t a b x o × (numbers ≡ [])
InnerOf t a b kinds.DestroyDone o x numbers = IsAnswer t a b o x × TellsEnd o numbers
InnerOf t a b kinds.Import i h numbers = AreFrames i h × (numbers ≡ [])
InnerOf t a b kinds.ImportDone h i numbers = AreFrames i h × (numbers ≡ [])
InnerOf t a b kinds.ImportRefused h i numbers = AreFrames i h × ((numbers ≡ coded StaleId) ⊎ (numbers ≡ coded PortTaken))
InnerOf t a b kinds.ImportEnded h i numbers = AreFrames i h × (numbers ≡ [])
InnerOf t a b kinds.Deport i h numbers = AreFrames i h × (numbers ≡ [])
InnerOf t a b kinds.DeportDone h i numbers = AreFrames i h × (numbers ≡ [])
InnerOf t a b kinds.Announce x y numbers = (owner_of t x.slot.0 ≡ a) × (is_announced t b x y ≡ true) × TellsLife numbers
InnerOf t a b kinds.Register e y numbers = (is_endpoint e y ≡ true) × TellsOne numbers
InnerOf t a b kinds.Withdraw e y numbers = (is_endpoint e y ≡ true) × (numbers ≡ [])
InnerOf t a b kinds.Bound peer e numbers = numbers ≡ []
InnerOf t a b kinds.Ended peer e numbers = numbers ≡ []
InnerOf t a b kinds.NameReply y e numbers = (is_endpoint y e ≡ true) × TellsReply numbers
InnerOf t a b kinds.PartMake o y numbers = (owner_of t o.slot.0 ≡ a) × (is_part_told t b o y ≡ true) × (numbers ≡ [])
InnerOf t a b kinds.PartEnd o y numbers = (owner_of t o.slot.0 ≡ a) × (is_part_told t b o y ≡ true) × (numbers ≡ [])

-- a message from controller a to controller b is of a kind, and has its inner form
pub record Inner (t : Tables) (a b : ℕ) (m : Msg) : Type 0 where
  pub kind : SysKind
  pub is : slice_get all_kinds m.signal ≡ Some kind
  pub source : Endpoint
  pub comes : m.source ≡ Some source
  pub form : InnerOf t a b kind source m.target m.payload

-- the form of a message whose kind and source are known
pub form_as : (t : Tables) (a b : ℕ) (m : Msg) (kind : SysKind) (x : Endpoint) → slice_get all_kinds m.signal ≡ Some kind → m.source ≡ Some x
    → Inner t a b m → InnerOf t a b kind x m.target m.payload
form_as t a b m kind x is comes h =
    let kinds_same : h.kind ≡ kind = of_some (sym h.is ∙ is) in
    let sources_same : h.source ≡ x = of_some (sym h.comes ∙ comes) in
    subst (λ (k : SysKind). InnerOf t a b k x m.target m.payload) kinds_same
    (subst (λ (z : Endpoint). InnerOf t a b h.kind z m.target m.payload) sources_same h.form)
  where
    of_some : {X : Type 0} {x y : X} → Some x ≡ Some y → x ≡ y
    of_some e = cc

-- what controller me sends, if it is the system's, has its inner form
abbrev pub IsSent : Tables → ℕ → Msg → Type 0
IsSent t me m = (m.prio.0 == 0) ≡ true → Inner t me m.to.0 m

abbrev pub AllSent : Tables → ℕ → List Msg → Type 0
AllSent t me ms = AllByRecursion (IsSent t me) ms

-- a message above the system level
pub open_sent : (t : Tables) (me : ℕ) (m : Msg) → (m.prio.0 == 0) ≡ false → IsSent t me m
open_sent t me m e zero = (let q : true ≡ false = sym zero ∙ e in absurd cc)

-- a message of a kind
pub sent_as : (t : Tables) (me to : ℕ) (kind : SysKind) (x y : Endpoint) (numbers : List ℤ) → slice_get all_kinds (number_of kind) ≡ Some kind
    → InnerOf t me to kind x y numbers → IsSent t me (system me to kind x y numbers)
sent_as t me to kind x y numbers is form zero = record { kind = kind; is = is; source = x; comes = refl; form = form }

pub sent_if : (t : Tables) (me : ℕ) (b : Bool) (x y : List Msg) → AllSent t me x → AllSent t me y → AllSent t me (if b then x else y)
sent_if t me true x y h k = h
sent_if t me false x y h k = k

pub done_sent_if : {C : Type 0} (t : Tables) (me : ℕ) (b : Bool) (x y : Done C) → AllSent t me x.sent → AllSent t me y.sent → AllSent t me (if b then x else y).sent
done_sent_if t me true x y h k = h
done_sent_if t me false x y h k = k
