-- How the reserved words are spelled, and which word a text is.
use Rattle.std.specs.Prelude.{◌≡◌, ◌≢◌, ℕ, List, [], ◌∷◌, length, Option, Some, None, nat_eq, codes, ◌==◌, if◌then◌else◌}
use lib.Pointwise.{pointwise}
use Rattle.room_lexer.specs.declared.word.Word.{Word}
use Rattle.room_lexer.specs.declared.word.Word.TheVariants as words

-- how a word is spelled
abbrev pub spelling_of : Word → List ℕ
spelling_of words.RoomModel = codes "RoomModel"
spelling_of words.Import = codes "import"
spelling_of words.From = codes "from"
spelling_of words.LogicalSystem = codes "LogicalSystem"
spelling_of words.SubSystemRef = codes "SubSystemRef"
spelling_of words.SubSystemClass = codes "SubSystemClass"
spelling_of words.LogicalThread = codes "LogicalThread"
spelling_of words.ActorInstanceMapping = codes "ActorInstanceMapping"
spelling_of words.EventDriven = codes "eventdriven"
spelling_of words.ProtocolClass = codes "ProtocolClass"
spelling_of words.Incoming = codes "incoming"
spelling_of words.Outgoing = codes "outgoing"
spelling_of words.Message = codes "Message"
spelling_of words.DataClass = codes "DataClass"
spelling_of words.Attribute = codes "Attribute"
spelling_of words.True = codes "true"
spelling_of words.False = codes "false"
spelling_of words.ActorClass = codes "ActorClass"
spelling_of words.Extends = codes "extends"
spelling_of words.Interface = codes "Interface"
spelling_of words.Spp = codes "SPP"
spelling_of words.Structure = codes "Structure"
spelling_of words.Behavior = codes "Behavior"
spelling_of words.StateMachine = codes "StateMachine"
spelling_of words.Conjugated = codes "conjugated"
spelling_of words.Port = codes "Port"
spelling_of words.External = codes "external"
spelling_of words.Sap = codes "SAP"
spelling_of words.ServiceImplementation = codes "ServiceImplementation"
spelling_of words.Of = codes "of"
spelling_of words.Fixed = codes "fixed"
spelling_of words.Optional = codes "optional"
spelling_of words.Imported = codes "imported"
spelling_of words.ActorRef = codes "ActorRef"
spelling_of words.Binding = codes "Binding"
spelling_of words.And = codes "and"
spelling_of words.LayerConnection = codes "LayerConnection"
spelling_of words.Ref = codes "ref"
spelling_of words.SatisfiedBy = codes "satisfied_by"
spelling_of words.Usercode = codes "usercode"
spelling_of words.Usercode1 = codes "usercode1"
spelling_of words.Usercode2 = codes "usercode2"
spelling_of words.Usercode3 = codes "usercode3"
spelling_of words.State = codes "State"
spelling_of words.Entry = codes "entry"
spelling_of words.Exit = codes "exit"
spelling_of words.Subgraph = codes "subgraph"
spelling_of words.ChoicePoint = codes "ChoicePoint"
spelling_of words.TransitionPoint = codes "TransitionPoint"
spelling_of words.EntryPoint = codes "EntryPoint"
spelling_of words.ExitPoint = codes "ExitPoint"
spelling_of words.Transition = codes "Transition"
spelling_of words.Triggers = codes "triggers"
spelling_of words.Cond = codes "cond"
spelling_of words.Action = codes "action"
spelling_of words.Or = codes "or"
spelling_of words.Guard = codes "guard"
spelling_of words.Initial = codes "initial"
spelling_of words.Cp = codes "cp"
spelling_of words.My = codes "my"
spelling_of words.RefinedState = codes "RefinedState"
spelling_of words.RefinedTransition = codes "RefinedTransition"

-- the text spells this word, or no word
abbrev pub Spells : Option Word → List ℕ → Type 0
Spells (Some word) text = text ≡ spelling_of word
Spells None text = (word : Word) → text ≢ spelling_of word

-- the words of a length
unfoldable pub words_with : ℕ → List Word
words_with n =
    if n == 2 then words.Of ∷ words.Or ∷ words.Cp ∷ words.My ∷ [] else
    if n == 3 then words.Spp ∷ words.Sap ∷ words.And ∷ words.Ref ∷ [] else
    if n == 4 then words.From ∷ words.True ∷ words.Port ∷ words.Exit ∷ words.Cond ∷ [] else
    if n == 5 then words.False ∷ words.Fixed ∷ words.State ∷ words.Entry ∷ words.Guard ∷ [] else
    if n == 6 then words.Import ∷ words.Action ∷ [] else
    if n == 7 then words.Extends ∷ words.Message ∷ words.Binding ∷ words.Initial ∷ [] else
    if n == 8 then words.Incoming ∷ words.Outgoing ∷ words.Behavior ∷ words.External ∷ words.Optional ∷ words.Imported ∷ words.ActorRef ∷ words.Usercode ∷ words.Subgraph ∷ words.Triggers ∷ [] else
    if n == 9 then words.RoomModel ∷ words.DataClass ∷ words.Attribute ∷ words.Interface ∷ words.Structure ∷ words.Usercode1 ∷ words.Usercode2 ∷ words.Usercode3 ∷ words.ExitPoint ∷ [] else
    if n == 10 then words.ActorClass ∷ words.Conjugated ∷ words.EntryPoint ∷ words.Transition ∷ [] else
    if n == 11 then words.EventDriven ∷ words.ChoicePoint ∷ [] else
    if n == 12 then words.SubSystemRef ∷ words.StateMachine ∷ words.SatisfiedBy ∷ words.RefinedState ∷ [] else
    if n == 13 then words.LogicalSystem ∷ words.LogicalThread ∷ words.ProtocolClass ∷ [] else
    if n == 14 then words.SubSystemClass ∷ [] else
    if n == 15 then words.LayerConnection ∷ words.TransitionPoint ∷ [] else
    if n == 17 then words.RefinedTransition ∷ [] else
    if n == 20 then words.ActorInstanceMapping ∷ [] else
    if n == 21 then words.ServiceImplementation ∷ [] else
    []

-- the first of the words that the text spells
unfoldable pub first_of : List Word → List ℕ → Option Word
first_of [] text = None
first_of (word ∷ others) text = if pointwise nat_eq (spelling_of word) text then Some word else first_of others text

-- the word that the text spells
unfoldable pub word_of : List ℕ → Option Word
word_of text = first_of (words_with (length text)) text
