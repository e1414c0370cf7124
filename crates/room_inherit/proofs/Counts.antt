-- Lists whose items have the same number of tokens each.
use Rattle.std.proofs.Common.{◌≡◌, ℕ, suc, ◌*◌, List, [], ◌∷◌, length, refl, arith}
use Rattle.room_ast.specs.Tokens.{each, dot_name, empty_string, code_text, event, bar_event, subsystem_ref}
use Rattle.room_ast.specs.declared.chart.CodeText.{CodeText}
use Rattle.room_ast.specs.declared.chart.CodeText.TheVariants as texts
use Rattle.room_ast.specs.declared.chart.Event.{Event}
use Rattle.room_ast.specs.declared.chart.EventMessage.{EventMessage}
use Rattle.room_ast.specs.declared.chart.EventMessage.TheVariants as messages
use Rattle.room_ast.specs.declared.protocol.EmptyString.{EmptyString}
use Rattle.room_ast.specs.declared.system.SubsystemRef.{SubsystemRef}

pub count_dots : (ns : List (List ℕ)) → length (each dot_name ns) ≡ 2 * length ns
count_dots [] = refl
count_dots (n ∷ ns) = let rest : length (each dot_name ns) ≡ 2 * length ns = count_dots ns in omega (arith, rest)

pub count_strings : (ss : List EmptyString) → length (each empty_string ss) ≡ length ss
count_strings [] = refl
count_strings (s ∷ ss) = let rest : length (each empty_string ss) ≡ length ss = count_strings ss in omega (arith, rest)

pub count_texts : (ts : List CodeText) → length (each code_text ts) ≡ length ts
count_texts [] = refl
count_texts (texts.Str t ∷ ts) = let rest : length (each code_text ts) ≡ length ts = count_texts ts in omega (arith, rest)
count_texts (texts.Block t ∷ ts) = let rest : length (each code_text ts) ≡ length ts = count_texts ts in omega (arith, rest)

pub count_references : (rs : List SubsystemRef) → length (each subsystem_ref rs) ≡ 4 * length rs
count_references [] = refl
count_references (r ∷ rs) = let rest : length (each subsystem_ref rs) ≡ 4 * length rs = count_references rs in omega (arith, rest)

count_message : (m : EventMessage) (port : List ℕ) → length (event (record { message = m; port = port })) ≡ 3
count_message (messages.Named n) port = refl
count_message messages.Imported port = refl

pub count_event : (e : Event) → length (event e) ≡ 3
count_event e = count_message e.message e.port

one_more_event : (m : EventMessage) (port : List ℕ) (es : List Event) → length (each bar_event es) ≡ 4 * length es → length (each bar_event (record { message = m; port = port } ∷ es)) ≡ 4 * suc (length es)
one_more_event (messages.Named n) port es rest = omega (arith, rest)
one_more_event messages.Imported port es rest = omega (arith, rest)

pub count_events : (es : List Event) → length (each bar_event es) ≡ 4 * length es
count_events [] = refl
count_events (e ∷ es) = one_more_event e.message e.port es (count_events es)
