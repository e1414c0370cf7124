-- The made model of N actors in a ring on four controllers, and its injections, as texts.
-- Actor k sends on to actor k + 1, the last one to actor 0, and runs on thread k mod 4. A kick from outside makes it send the kick's number to its right; a number that comes from its left goes on to its right, one less, until it is 0.
use Rattle.std.specs.Prelude.{ℕ, zero, suc, ◌+◌, ◌%◌, ◌==◌, List, [], ◌++◌, codes, decimal, if◌then◌else◌}
use Rattle.made_model.specs.declared.texts.Row.{Row}
use Rattle.made_model.specs.declared.texts.Row.TheVariants as kinds

-- the protocols, the class of the actors, and the threads
abbrev pub front : List ℕ
front = codes "RoomModel Made {\n"
    ++ codes "LogicalSystem Whole { SubSystemRef ring: Ring }\n"
    ++ codes "ProtocolClass Tok { incoming { } outgoing { Message tok(int32) } }\n"
    ++ codes "ProtocolClass Go { incoming { Message kick(int32) } outgoing { } }\n"
    ++ codes "ActorClass Node {\n"
    ++ codes "Interface { Port right: Tok conjugated Port left: Tok }\n"
    ++ codes "Structure { external Port right external Port left Port go: Go }\n"
    ++ codes "Behavior { StateMachine {\n"
    ++ codes "Transition begin: initial -> N\n"
    ++ codes "State N\n"
    ++ codes "Transition kicked: N -> N { triggers { <kick: go> } action { \"right.tok(data);\" } }\n"
    ++ codes "Transition passed: N -> N { triggers { <tok: left> } action { \"if (data > 0) { right.tok(data - 1); }\" } }\n"
    ++ codes "} }\n"
    ++ codes "}\n"
    ++ codes "SubSystemClass Ring {\n"
    ++ codes "LogicalThread t0\n"
    ++ codes "LogicalThread t1\n"
    ++ codes "LogicalThread t2\n"
    ++ codes "LogicalThread t3\n"

-- the actor behind actor k in a ring of n
abbrev pub next_of : ℕ → ℕ → ℕ
next_of n k = if k + 1 == n then 0 else k + 1

-- that actor k is one of the subsystem's
abbrev pub reference_row : ℕ → List ℕ
reference_row k = codes "ActorRef r" ++ (decimal k ++ codes ": Node\n")

-- that its right end is joined to the left end of the actor behind it, in a ring of n
abbrev pub binding_row : ℕ → ℕ → List ℕ
binding_row n k = codes "Binding r" ++ (decimal k ++ (codes ".right and r" ++ (decimal (next_of n k) ++ codes ".left\n")))

-- the thread that it runs on
abbrev pub mapping_row : ℕ → List ℕ
mapping_row k = codes "ActorInstanceMapping r" ++ (decimal k ++ (codes " -> t" ++ (decimal (k % 4) ++ codes "\n")))

-- the message from outside that it is sent
abbrev pub injection_row : ℕ → List ℕ
injection_row k = codes "r" ++ (decimal k ++ codes ".go kick 7\n")

-- a row of actor k in a ring of n
abbrev pub row_of : Row → ℕ → ℕ → List ℕ
row_of kinds.Reference n k = reference_row k
row_of kinds.Binding n k = binding_row n k
row_of kinds.Mapping n k = mapping_row k
row_of kinds.Injection n k = injection_row k

-- the texts of the numbers below k, one behind the other
abbrev pub texts_below : (ℕ → List ℕ) → ℕ → List ℕ
texts_below text zero = []
texts_below text (suc k) = texts_below text k ++ text k

-- a row of each of n actors
unfoldable pub rows : Row → ℕ → List ℕ
rows row n = texts_below (row_of row n) n

-- the made model of n actors
unfoldable pub model_text : ℕ → List ℕ
model_text n = front ++ (rows kinds.Reference n ++ (rows kinds.Binding n ++ (rows kinds.Mapping n ++ codes "}\n}\n")))

-- a kick with the number 7 for each actor
unfoldable pub injections_text : ℕ → List ℕ
injections_text n = rows kinds.Injection n
